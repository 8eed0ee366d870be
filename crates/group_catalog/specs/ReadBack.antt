-- A definition that is read back from a journal. (This project's rule, over TimesTen SQL Reference, "CREATE CACHE
-- GROUP".)

use Rattle.std.specs.Prelude.{◌≡◌, ℕ, List, [], ◌∷◌, Bool, false, true, ◌&&◌, not, None, Option, is_some, length}
use Rattle.std.specs.List.{list_any}
use Rattle.std.specs.Option.{option_or}
use Rattle.tier_base.specs.declared.code.Code.TheVariants as code
use Rattle.tier_base.specs.declared.limit.Limit.TheVariants as limit
use Rattle.row_types.specs.declared.rule.Letter.TheVariants as letter
use Rattle.row_types.specs.declared.rule.Rule.{Rule}
use Rattle.table_defs.specs.declared.definition.TableDef.{TableDef}
use Rattle.instances.specs.declared.tree.Tree.{Tree}
use Rattle.instances.specs.Trees.{is_sound}
use Rattle.sql_subset.specs.declared.stmt.CreateGroup.{CreateGroup}
use Rattle.cache_tier.specs.Definitions.{IsTreeOf, Placed, clauses_fault, defined_by, definition_names, definition_types, is_read_only_kind, new_group, placed_tables, tables_fault}
use Rattle.cache_tier.specs.Groups.{Group, defines_name, definitions_of}
use Rattle.cache_tier.specs.declared.group.GroupDef.{GroupDef}
use Rattle.cache_tier.specs.Rules.{at_limit, broken_if, lettered, plain}
use Rattle.cache_tier.specs.StandingBetween.{HasNoTableOf, IsCatalogued}

-- the first rule that the definition breaks, where of the tables outside of its group these are asked for foreign keys
-- that refer to it
abbrev pub broken_beside : List TableDef → List TableDef → List GroupDef → Bool → CreateGroup → Option Rule
broken_beside outside schema groups has_writes d =
    option_or (definition_names schema groups d)
    (option_or (broken_if has_writes (plain code.TransactionOpen))
    (option_or (definition_types schema d)
    (option_or
    (option_or (tables_fault schema groups (placed_tables schema d)) (clauses_fault outside d (placed_tables schema d)))
    (at_limit limit.Groups (length groups)))))

-- the first of these tables has a foreign key
abbrev pub root_refers : List Placed → Bool
root_refers [] = false
root_refers (p ∷ more) = is_some p.def.foreign_key

-- the root of a writethrough group refers to a table
abbrev pub has_own_parent : List TableDef → CreateGroup → Bool
has_own_parent schema d = not (is_read_only_kind d.kind) && root_refers (placed_tables schema d)

-- A definition that is read back breaks the same rules, but for tables outside that refer to it, which may have come
-- later. The root of a writethrough group refers to no table.
abbrev pub read_back_fault : List TableDef → List GroupDef → CreateGroup → Option Rule
read_back_fault schema groups d =
    option_or (broken_beside [] schema groups false d) (broken_if (has_own_parent schema d) (lettered letter.J))

-- the group of a definition that is read back and breaks no rule, with this tree
pub record IsReadBack (schema : List TableDef) (groups : List Group) (d : CreateGroup) (tree : Tree) : Type 0 where
  pub unbroken : read_back_fault schema (definitions_of groups) d ≡ None
  pub is : IsTreeOf (placed_tables schema d) tree
  pub formed : is_sound schema tree ≡ true

-- so it is a group of the catalog, and no other has its name, or a table of it
pub record MayStand (schema : List TableDef) (groups : List Group) (g : Group) : Type 0 where
  pub sound : IsCatalogued schema g
  pub apart : HasNoTableOf groups g
  pub named : list_any (defines_name g.def.name) (definitions_of groups) ≡ false

abbrev pub StandsReadBack : Type 0
StandsReadBack =
    (schema : List TableDef) (groups : List Group) (d : CreateGroup) (tree : Tree) → IsReadBack schema groups d tree
    → (first now : ℕ) → MayStand schema groups (new_group first now d (defined_by schema d tree))
