-- What operations make of a store, whatever its room.
use Rattle.std.proofs.Common.{◌≡◌, ℕ, suc, ◌+◌, Bool, not, cond, nat_lt, arith, List, [], ◌∷◌, length, map, Option, Some, None, refl, sym, ap, subst, ◌∙◌}
use Rattle.std.proofs.lemmas.List.{length-map}
use Rattle.std.specs.List.{position, prefix_len}
use Rattle.slot_rows.specs.row_types.specs.declared.value.Value.{Value}
use Rattle.slot_rows.specs.tier_base.specs.declared.number.TableId.{TableId}
use Rattle.cache_store.specs.table_state.specs.declared.operation.Op.{Op}
use Rattle.cache_store.specs.table_state.specs.declared.operation.Op.TheVariants.{Delete, Insert, Update}
use Rattle.cache_store.specs.instances.specs.Trees.{same_table}
use Rattle.group_store.specs.Joined.{layer_of}
use Rattle.group_store.specs.Stores.{Kept, SameButSpare, at_place, count_all, op_done, ops_done, place_in, put_rows, put_store, put_tables, replace_store, take_store}
use Rattle.group_store.specs.declared.tree_rows.ChildRows.{ChildRows}

pub same_itself : (s : Kept) → SameButSpare s s
same_itself s = record { table = refl; key = refl; foreign = refl; layers = refl; tables = refl; keys = refl }

pub same_both : (a b c : Kept) → SameButSpare a b → SameButSpare b c → SameButSpare a c
same_both a b c x y = record { table = y.table ∙ x.table; key = y.key ∙ x.key; foreign = y.foreign ∙ x.foreign; layers = y.layers ∙ x.layers; tables = y.tables ∙ x.tables; keys = y.keys ∙ x.keys }

whole : (a b : Kept) → SameButSpare a b → record a { spare = b.spare } ≡ b
whole a b same =
    let table = sym same.table in
    let key = sym same.key in
    let foreign = sym same.foreign in
    let layers = sym same.layers in
    let tables = sym same.tables in
    let keys = sym same.keys in
    λ i. record { table = table i; key = key i; foreign = foreign i; layers = layers i; tables = tables i; keys = keys i; spare = b.spare }

module _ (a : Kept) (n : ℕ) where
  abbrev b : Kept
  b = record a { spare = n }

  at_put : (row : List Value) (o : Option ℕ) → SameButSpare (at_place o (λ place. put_store place row) a) (at_place o (λ place. put_store place row) b)
  at_put row None = record { table = refl; key = refl; foreign = refl; layers = refl; tables = refl; keys = refl }
  at_put row (Some place) = record { table = refl; key = refl; foreign = refl; layers = refl; tables = refl; keys = refl }

  at_replace : (row : List Value) (o : Option ℕ) → SameButSpare (at_place o (λ place. replace_store place row) a) (at_place o (λ place. replace_store place row) b)
  at_replace row None = record { table = refl; key = refl; foreign = refl; layers = refl; tables = refl; keys = refl }
  at_replace row (Some place) = record { table = refl; key = refl; foreign = refl; layers = refl; tables = refl; keys = refl }

  at_take : (row : List Value) (o : Option ℕ) → SameButSpare (at_place o (λ place. take_store place row) a) (at_place o (λ place. take_store place row) b)
  at_take row None = record { table = refl; key = refl; foreign = refl; layers = refl; tables = refl; keys = refl }
  at_take row (Some place) = record { table = refl; key = refl; foreign = refl; layers = refl; tables = refl; keys = refl }

  whatever_room : (op : Op) → SameButSpare (op_done op a) (op_done op b)
  whatever_room (Insert t row) = at_put row (place_in a t)
  whatever_room (Update t old row) = at_replace row (place_in a t)
  whatever_room (Delete t row) = at_take row (place_in a t)

same_op : (op : Op) (a b : Kept) → SameButSpare a b → SameButSpare (op_done op a) (op_done op b)
same_op op a b same = subst (λ x. SameButSpare (op_done op a) (op_done op x)) (whole a b same) (whatever_room a b.spare op)

pub same_ops : (ops : List Op) (a b : Kept) → SameButSpare a b → SameButSpare (ops_done ops a) (ops_done ops b)
same_ops [] a b same = same
same_ops (op ∷ ops) a b same = same_ops ops (op_done op a) (op_done op b) (same_op op a b same)

-- one operation more is done
module _ (rest later : List Op) (op : Op) (is : rest ≡ op ∷ later) (start now next : Kept) where
  pub one_more : SameButSpare start (ops_done rest now) → SameButSpare (op_done op now) next → SameButSpare start (ops_done later next)
  one_more before one = same_both start (ops_done later (op_done op now)) (ops_done later next) (subst (λ l. SameButSpare start (ops_done l now)) is before) (same_ops later (op_done op now) next one)

  pub one_less : length rest ≡ length later + 1
  one_less = ap length is ∙ (let z : suc (length later) ≡ length later + 1 = omega arith in z)

-- what comes in is the same whatever the room
same_put : (place : ℕ) (row : List Value) (a b : Kept) → SameButSpare a b → SameButSpare (put_store place row a) (put_store place row b)
same_put place row a b same = subst (λ x. SameButSpare (put_store place row a) (put_store place row x)) (whole a b same) (record { table = refl; key = refl; foreign = refl; layers = refl; tables = refl; keys = refl })

pub same_rows : (place : ℕ) (rows : List (List Value)) (a b : Kept) → SameButSpare a b → SameButSpare (put_rows place rows a) (put_rows place rows b)
same_rows place [] a b same = same
same_rows place (row ∷ rows) a b same = same_rows place rows (put_store place row a) (put_store place row b) (same_put place row a b same)

pub same_tables : (place : ℕ) (tables : List (List (List Value))) (a b : Kept) → SameButSpare a b → SameButSpare (put_tables place tables a) (put_tables place tables b)
same_tables place [] a b same = same
same_tables place (rows ∷ tables) a b same = same_tables (suc place) tables (put_rows place rows a) (put_rows place rows b) (same_rows place rows a b same)

pub layers_put : (place : ℕ) (rows : List (List Value)) (a : Kept) → (put_rows place rows a).layers ≡ a.layers
layers_put place [] a = refl
layers_put place (row ∷ rows) a = layers_put place rows (put_store place row a)

module _ (place : ℕ) (rest later : List (List Value)) (row : List Value) (is : rest ≡ row ∷ later) (start now next : Kept) where
  pub row_more : SameButSpare start (put_rows place rest now) → SameButSpare (put_store place row now) next → SameButSpare start (put_rows place later next)
  row_more before one = same_both start (put_rows place later (put_store place row now)) (put_rows place later next) (subst (λ l. SameButSpare start (put_rows place l now)) is before) (same_rows place later (put_store place row now) next one)

  pub row_less : length rest ≡ length later + 1
  row_less = ap length is ∙ (let z : suc (length later) ≡ length later + 1 = omega arith in z)

module _ (place : ℕ) (rest later : List (List (List Value))) (rows : List (List Value)) (is : rest ≡ rows ∷ later) (start now next : Kept) where
  pub table_more : SameButSpare start (put_tables place rest now) → SameButSpare (put_rows place rows now) next → SameButSpare start (put_tables (place + 1) later next)
  table_more before one =
      let z : suc place ≡ place + 1 = omega arith in
      subst (λ p. SameButSpare start (put_tables p later next)) z
      (same_both start (put_tables (suc place) later (put_rows place rows now)) (put_tables (suc place) later next) (subst (λ l. SameButSpare start (put_tables place l now)) is before) (same_tables (suc place) later (put_rows place rows now) next one))

  pub table_less : length rest ≡ length later + 1
  table_less = ap length is ∙ (let z : suc (length later) ≡ length later + 1 = omega arith in z)

  pub count_less : count_all rest ≡ length rows + count_all later
  count_less = ap count_all is

-- a table's place among layers is that among the children
first_in : (p : TableId → Bool) (cs : List ChildRows) → prefix_len (λ l. not (p l.table)) (map layer_of cs) ≡ prefix_len (λ c. not (p c.table)) cs
first_in p [] = refl
first_in p (c ∷ cs) = ap (λ n. cond (not (p c.table)) (1 + n) 0) (first_in p cs)

pub place_among : (t : TableId) (cs : List ChildRows) → position (λ l. same_table l.table t) (map layer_of cs) ≡ position (λ c. same_table c.table t) cs
place_among t cs =
    let first = first_in (λ x. same_table x t) cs in
    let long = length-map cs layer_of in
    λ i. cond (nat_lt (first i) (long i)) (Some (first i)) None
