-- The form of a store, and rows that are put in whatever its room.
use Rattle.std.proofs.Common.{◌≡◌, ℕ, zero, suc, ◌+◌, arith, List, [], ◌∷◌, map, Option, Some, None, slice_get, unwrap_or, refl, sym, ap, subst, ◌∙◌}
use Rattle.indexed_rows.proofs.MapLaws.{slice_get_map}
use Rattle.std.specs.Option.{option_map}
use Rattle.row_types.specs.declared.value.Value.{Value}
use Rattle.tier_base.specs.declared.number.TableId.{TableId}
use Rattle.table_defs.specs.declared.definition.TableDef.{TableDef}
use Rattle.instances.specs.declared.tree.Child.{Child}
use Rattle.instances.specs.declared.tree.Tree.{Tree}
use Rattle.instances.specs.Trees.{table_of}
use Rattle.group_store.specs.Keeping.{IsFor, layer_for, primary_of}
use Rattle.group_store.specs.Stores.{Kept, SameButSpare, put_rows, put_store, put_tables}
use Rattle.group_store.specs.Trees.{key_at}

pub same_itself : (s : Kept) → SameButSpare s s
same_itself s = record { table = refl; key = refl; foreign = refl; layers = refl; tables = refl; keys = refl }

pub same_both : (a b c : Kept) → SameButSpare a b → SameButSpare b c → SameButSpare a c
same_both a b c x y = record { table = y.table ∙ x.table; key = y.key ∙ x.key; foreign = y.foreign ∙ x.foreign; layers = y.layers ∙ x.layers; tables = y.tables ∙ x.tables; keys = y.keys ∙ x.keys }

whole : (a b : Kept) → SameButSpare a b → record a { spare = b.spare } ≡ b
whole a b same =
    let table = sym same.table in
    let key = sym same.key in
    let foreign = sym same.foreign in
    let layers = sym same.layers in
    let tables = sym same.tables in
    let keys = sym same.keys in
    λ i. record { table = table i; key = key i; foreign = foreign i; layers = layers i; tables = tables i; keys = keys i; spare = b.spare }

-- what comes in is the same whatever the room
same_put : (place : ℕ) (row : List Value) (a b : Kept) → SameButSpare a b → SameButSpare (put_store place row a) (put_store place row b)
same_put place row a b same = subst (λ x. SameButSpare (put_store place row a) (put_store place row x)) (whole a b same) (record { table = refl; key = refl; foreign = refl; layers = refl; tables = refl; keys = refl })

pub same_rows : (place : ℕ) (rows : List (List Value)) (a b : Kept) → SameButSpare a b → SameButSpare (put_rows place rows a) (put_rows place rows b)
same_rows place [] a b same = same
same_rows place (row ∷ rows) a b same = same_rows place rows (put_store place row a) (put_store place row b) (same_put place row a b same)

pub same_tables : (place : ℕ) (tables : List (List (List Value))) (a b : Kept) → SameButSpare a b → SameButSpare (put_tables place tables a) (put_tables place tables b)
same_tables place [] a b same = same
same_tables place (rows ∷ tables) a b same = same_tables (suc place) tables (put_rows place rows a) (put_rows place rows b) (same_rows place rows a b same)

pub layers_put : (place : ℕ) (rows : List (List Value)) (a : Kept) → (put_rows place rows a).layers ≡ a.layers
layers_put place [] a = refl
layers_put place (row ∷ rows) a = layers_put place rows (put_store place row a)

module _ (place : ℕ) (rest later : List (List Value)) (row : List Value) (is : rest ≡ row ∷ later) (start now next : Kept) where
  pub row_more : SameButSpare start (put_rows place rest now) → SameButSpare (put_store place row now) next → SameButSpare start (put_rows place later next)
  row_more before one = same_both start (put_rows place later (put_store place row now)) (put_rows place later next) (subst (λ l. SameButSpare start (put_rows place l now)) is before) (same_rows place later (put_store place row now) next one)

module _ (place : ℕ) (rest later : List (List (List Value))) (rows : List (List Value)) (is : rest ≡ rows ∷ later) (start now next : Kept) where
  pub table_more : SameButSpare start (put_tables place rest now) → SameButSpare (put_rows place rows now) next → SameButSpare start (put_tables (place + 1) later next)
  table_more before one =
      let z : suc place ≡ place + 1 = omega arith in
      subst (λ p. SameButSpare start (put_tables p later next)) z
      (same_both start (put_tables (suc place) later (put_rows place rows now)) (put_tables (suc place) later next) (subst (λ l. SameButSpare start (put_tables place l now)) is before) (same_tables (suc place) later (put_rows place rows now) next one))

-- the columns of a table's key
pub key_for : (schema : List TableDef) (tree : Tree) (k : Kept) → IsFor schema tree k → (at : ℕ) (t : TableId) → table_of tree at ≡ Some t → key_at k.key k.layers at ≡ primary_of schema t
key_for schema tree k form zero t e = let z : tree.root.table ≡ t = cc in form.key ∙ ap (primary_of schema) z
key_for schema tree k form (suc i) t e = ap (λ ls. unwrap_or (option_map (λ l. l.key) (slice_get ls i)) []) form.layers ∙ by (slice_get tree.children i) refl e
  where
    by : (o : Option Child) → slice_get tree.children i ≡ o → option_map (λ c. c.table) o ≡ Some t → unwrap_or (option_map (λ l. l.key) (slice_get (map (layer_for schema) tree.children) i)) [] ≡ primary_of schema t
    by None f e = cc
    by (Some c) f e = let z : c.table ≡ t = cc in ap (λ o. unwrap_or (option_map (λ l. l.key) o) []) (slice_get_map (layer_for schema) tree.children i c f) ∙ ap (primary_of schema) z

pub primary : (schema : List TableDef) (t : TableId) (def : TableDef) → slice_get schema t.0 ≡ Some def → primary_of schema t ≡ def.primary_key
primary schema t def e = ap (λ o. unwrap_or (option_map (λ d. d.primary_key) o) []) e
