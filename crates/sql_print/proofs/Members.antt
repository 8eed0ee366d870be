-- The tables of a group in their normal form.
use Rattle.std.proofs.Common.{◌≡◌, Bool, false, List, [], ◌∷◌, ◌++◌, map, ap}
use Rattle.std.proofs.lemmas.List.Folds.{flat_map-map}
use Rattle.sql_subset.specs.declared.stmt.GroupTable.{GroupTable}
use Rattle.sql_words.specs.Words.{listed, more}
use Rattle.sql_print.specs.Groups.{group_table_words}
use Rattle.sql_print.specs.Normal.{normal_group_table, normal_group_tables}

children_are : (ts : List GroupTable) → more group_table_words (map (normal_group_table false) ts) ≡ more (λ t. group_table_words (normal_group_table false t)) ts
children_are ts = flat_map-map (λ t. (44 ∷ []) ∷ group_table_words t) (normal_group_table false) ts

pub family_is : (dynamic : Bool) (root : GroupTable) (children : List GroupTable)
    → listed group_table_words (normal_group_tables dynamic (root ∷ children)) ≡ group_table_words (normal_group_table dynamic root) ++ more (λ t. group_table_words (normal_group_table false t)) children
family_is dynamic root children = ap (λ ws. group_table_words (normal_group_table dynamic root) ++ ws) (children_are children)
