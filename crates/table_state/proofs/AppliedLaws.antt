-- What an operation that applied did.
use Rattle.std.proofs.Common.{◌≡◌, ℕ, zero, suc, Bool, true, false, ◌&&◌, not, cond, Option, Some, None, is_some, List, [], ◌∷◌, ◌⊎◌, inl, inr, slice_get, slice_set, unwrap_or, nat_eq, refl, sym, ap, ◌∙◌}
use Rattle.std.proofs.lemmas.Bool.{eq-eqb, eqb-true}
use Rattle.std.specs.Option.{option_and_then, option_map}
use Rattle.std.specs.Ordering.{is_eq}
use Rattle.std.specs.declared.cmp.Ordering.{Ordering}
use Rattle.std.specs.declared.cmp.Ordering.TheVariants.{Less, Equal, Greater}
use Rattle.std.specs.FinMap.{contains_key, empty, get, insert, remove}
use Rattle.table_defs.specs.row_types.specs.declared.value.Value.{Value}
use Rattle.table_defs.specs.row_types.specs.Order.{key_order}
use Rattle.table_defs.specs.row_types.proofs.OrderLaws.{key_exact}
use Rattle.table_defs.specs.tier_base.specs.declared.number.TableId.{TableId}
use Rattle.table_defs.specs.declared.definition.TableDef.{TableDef}
use Rattle.indexed_rows.specs.Rows.{Table, is_same, key_of}
use Rattle.table_state.specs.declared.operation.Op.TheVariants.{Delete, Insert, Update}
use Rattle.table_state.specs.Operations.{applied, only_if, with_change, with_row, without_row}
use Rattle.table_state.specs.Tables.{TableState, fits_columns, has_child, has_parent, is_found, is_there, table_at}

abbrev Row : Type 0
Row = List Value

pub decided : (a b : ℕ) → (a ≡ b) ⊎ (a ≡ b → ⊥)
decided a b = by (nat_eq a b) refl
  where
    by : (r : Bool) → nat_eq a b ≡ r → (a ≡ b) ⊎ (a ≡ b → ⊥)
    by true e = inl (eqb-true a b e)
    by false e = inr (λ h. let x : nat_eq a b ≡ true = eq-eqb a b h in cc)

pub get_set : {X : Type 0} (xs : List X) (i : ℕ) (x y : X) → slice_get xs i ≡ Some y → slice_get (slice_set xs i x) i ≡ Some x
get_set [] i x y e = cc
get_set (z ∷ xs) zero x y e = refl
get_set (z ∷ xs) (suc i) x y e = get_set xs i x y e

pub get_set_other : {X : Type 0} (xs : List X) (i j : ℕ) (x : X) → (j ≡ i → ⊥) → slice_get (slice_set xs i x) j ≡ slice_get xs j
get_set_other [] i j x n = refl
get_set_other (z ∷ xs) zero zero x n = absurd (n refl)
get_set_other (z ∷ xs) zero (suc j) x n = refl
get_set_other (z ∷ xs) (suc i) zero x n = refl
get_set_other (z ∷ xs) (suc i) (suc j) x n = get_set_other xs i j x (λ e. n (ap suc e))

-- an insert that applied
pub record Inserted (s new : TableState) (t : TableId) (key row : Row) : Type 0 where
  pub schema : new.schema ≡ s.schema
  pub here : table_at new t ≡ insert (table_at s t) key row
  pub others : (u : TableId) → (u.0 ≡ t.0 → ⊥) → table_at new u ≡ table_at s u
  pub absent : get (table_at s t) key ≡ None
  pub parent : (def : TableDef) → slice_get s.schema t.0 ≡ Some def → has_parent s def.foreign_key row ≡ true
  pub fits : (def : TableDef) → slice_get s.schema t.0 ≡ Some def → fits_columns def.columns row ≡ true

pub inserted : (s new : TableState) (t : TableId) (def : TableDef) (row : Row) → applied (Insert t row) s ≡ Some new → slice_get s.schema t.0 ≡ Some def → Inserted s new t (key_of def.primary_key row) row
inserted s new t def row is d = by (slice_get s.tables t.0) refl (sym (ap (option_and_then (λ (f : TableDef). option_and_then (λ table. option_map (λ next. record { schema = s.schema; tables = slice_set s.tables t.0 next }) (with_row s row f table)) (slice_get s.tables t.0))) d) ∙ is)
  where
    key : Row
    key = key_of def.primary_key row

    test : Table → Bool
    test table = fits_columns def.columns row && not (contains_key table (key_of def.primary_key row)) && has_parent s def.foreign_key row

    first_of : (a b c : Bool) → (a && not b && c) ≡ true → a ≡ true
    first_of true b c e = refl
    first_of false b c e = cc

    free : (a b c : Bool) → (a && not b && c) ≡ true → b ≡ false
    free true true c e = cc
    free true false c e = refl
    free false b c e = cc

    last_of : (a b c : Bool) → (a && not b && c) ≡ true → c ≡ true
    last_of true true c e = cc
    last_of true false c e = e
    last_of false b c e = cc

    none_of : (o : Option Row) → is_some o ≡ false → o ≡ None
    none_of None e = refl
    none_of (Some x) e = cc

    at_table : (table : Table) → slice_get s.tables t.0 ≡ Some table → (b : Bool) → (fits_columns def.columns row && not (contains_key table (key_of def.primary_key row)) && has_parent s def.foreign_key row) ≡ b
        → option_map (λ next. record { schema = s.schema; tables = slice_set s.tables t.0 next }) (only_if b (insert table (key_of def.primary_key row) row)) ≡ Some new → Inserted s new t (key_of def.primary_key row) row
    at_table table m true good e =
        let k = key_of def.primary_key row in
        let same : record { schema = s.schema; tables = slice_set s.tables t.0 (insert table k row) } ≡ new = cc in
        let it : table_at s t ≡ table = ap (λ o. unwrap_or o empty) m in
        record {
          schema = sym (ap (λ x. x.schema) same);
          here = ap (λ x. unwrap_or (slice_get x.tables t.0) empty) (sym same) ∙ ap (λ o. unwrap_or o empty) (get_set s.tables t.0 (insert table k row) table m) ∙ ap (λ x. insert x k row) (sym it);
          others = λ u n. ap (λ x. unwrap_or (slice_get x.tables u.0) empty) (sym same) ∙ ap (λ o. unwrap_or o empty) (get_set_other s.tables t.0 u.0 (insert table k row) n);
          absent = ap (λ x. get x k) it ∙ none_of (get table k) (free (fits_columns def.columns row) (contains_key table k) (has_parent s def.foreign_key row) good);
          parent = λ f e. let x : Some def ≡ Some f = sym d ∙ e in let y : def ≡ f = cc in ap (λ (z : TableDef). has_parent s z.foreign_key row) (sym y) ∙ last_of (fits_columns def.columns row) (contains_key table k) (has_parent s def.foreign_key row) good;
          fits = λ f e. let x : Some def ≡ Some f = sym d ∙ e in let y : def ≡ f = cc in ap (λ (z : TableDef). fits_columns z.columns row) (sym y) ∙ first_of (fits_columns def.columns row) (contains_key table k) (has_parent s def.foreign_key row) good;
        }
    at_table table m false bad e = cc

    by : (o : Option Table) → slice_get s.tables t.0 ≡ o → option_and_then (λ table. option_map (λ next. record { schema = s.schema; tables = slice_set s.tables t.0 next }) (with_row s row def table)) o ≡ Some new → Inserted s new t (key_of def.primary_key row) row
    by None m e = cc
    by (Some table) m e = at_table table m (fits_columns def.columns row && not (contains_key table (key_of def.primary_key row)) && has_parent s def.foreign_key row) refl e

-- a delete that applied: the row that stood there is gone
pub record Deleted (s new : TableState) (t : TableId) (key : Row) : Type 0 where
  pub schema : new.schema ≡ s.schema
  pub here : table_at new t ≡ remove (table_at s t) key
  pub others : (u : TableId) → (u.0 ≡ t.0 → ⊥) → table_at new u ≡ table_at s u
  pub row : Row
  pub was : get (table_at s t) key ≡ Some row
  pub childless : has_child s t key ≡ false

pub deleted : (s new : TableState) (t : TableId) (def : TableDef) (old : Row) → applied (Delete t old) s ≡ Some new → slice_get s.schema t.0 ≡ Some def → Deleted s new t (key_of def.primary_key old)
deleted s new t def old is d = by (slice_get s.tables t.0) refl (sym (ap (option_and_then (λ (f : TableDef). option_and_then (λ table. option_map (λ next. record { schema = s.schema; tables = slice_set s.tables t.0 next }) (without_row s t old f table)) (slice_get s.tables t.0))) d) ∙ is)
  where
    found : (o : Option Row) (b : Bool) → (is_found old o && b) ≡ true → (r : Row) × (o ≡ Some r)
    found None b e = cc
    found (Some r) b e = (r, refl)

    none_of : (a b : Bool) → (a && not b) ≡ true → b ≡ false
    none_of true true e = cc
    none_of true false e = refl
    none_of false b e = cc

    at_table : (table : Table) → slice_get s.tables t.0 ≡ Some table → (b : Bool) → (is_there def old table && not (has_child s t (key_of def.primary_key old))) ≡ b
        → option_map (λ next. record { schema = s.schema; tables = slice_set s.tables t.0 next }) (only_if b (remove table (key_of def.primary_key old))) ≡ Some new → Deleted s new t (key_of def.primary_key old)
    at_table table m true good e =
        let k = key_of def.primary_key old in
        let same : record { schema = s.schema; tables = slice_set s.tables t.0 (remove table k) } ≡ new = cc in
        let it : table_at s t ≡ table = ap (λ o. unwrap_or o empty) m in
        let there = found (get table k) (not (has_child s t k)) good in
        record {
          schema = sym (ap (λ x. x.schema) same);
          here = ap (λ x. unwrap_or (slice_get x.tables t.0) empty) (sym same) ∙ ap (λ o. unwrap_or o empty) (get_set s.tables t.0 (remove table k) table m) ∙ ap (λ x. remove x k) (sym it);
          others = λ u n. ap (λ x. unwrap_or (slice_get x.tables u.0) empty) (sym same) ∙ ap (λ o. unwrap_or o empty) (get_set_other s.tables t.0 u.0 (remove table k) n);
          row = there.0;
          was = ap (λ x. get x k) it ∙ there.1;
          childless = none_of (is_there def old table) (has_child s t k) good;
        }
    at_table table m false bad e = cc

    by : (o : Option Table) → slice_get s.tables t.0 ≡ o → option_and_then (λ table. option_map (λ next. record { schema = s.schema; tables = slice_set s.tables t.0 next }) (without_row s t old def table)) o ≡ Some new → Deleted s new t (key_of def.primary_key old)
    by None m e = cc
    by (Some table) m e = at_table table m (is_there def old table && not (has_child s t (key_of def.primary_key old))) refl e

-- an update that applied
pub record Updated (s new : TableState) (t : TableId) (key row : Row) : Type 0 where
  pub schema : new.schema ≡ s.schema
  pub here : table_at new t ≡ insert (table_at s t) key row
  pub others : (u : TableId) → (u.0 ≡ t.0 → ⊥) → table_at new u ≡ table_at s u
  pub old : Row
  pub was : get (table_at s t) key ≡ Some old
  pub parent : (def : TableDef) → slice_get s.schema t.0 ≡ Some def → has_parent s def.foreign_key row ≡ true
  pub fits : (def : TableDef) → slice_get s.schema t.0 ≡ Some def → fits_columns def.columns row ≡ true

pub same_is : (a b : Row) → is_same a b ≡ true → a ≡ b
same_is a b e = by (key_order a b) refl e
  where
    by : (o : Ordering) → key_order a b ≡ o → is_eq o ≡ true → a ≡ b
    by Less tie h = cc
    by Equal tie h = key_exact a b tie
    by Greater tie h = cc

pub updated : (s new : TableState) (t : TableId) (def : TableDef) (old row : Row) → applied (Update t old row) s ≡ Some new → slice_get s.schema t.0 ≡ Some def → Updated s new t (key_of def.primary_key row) row
updated s new t def old row is d = by (slice_get s.tables t.0) refl (sym (ap (option_and_then (λ (f : TableDef). option_and_then (λ table. option_map (λ next. record { schema = s.schema; tables = slice_set s.tables t.0 next }) (with_change s old row f table)) (slice_get s.tables t.0))) d) ∙ is)
  where
    first_of : (a b c e : Bool) → (a && b && c && e) ≡ true → a ≡ true
    first_of true b c e h = refl
    first_of false b c e h = cc

    parts : (a b c e : Bool) → (a && b && c && e) ≡ true → (b ≡ true) × (c ≡ true) × (e ≡ true)
    parts true true true e h = (refl, refl, h)
    parts true true false e h = cc
    parts true false c e h = cc
    parts false b c e h = cc

    found : (o : Option Row) → is_found old o ≡ true → (r : Row) × (o ≡ Some r)
    found None e = cc
    found (Some r) e = (r, refl)

    at_table : (table : Table) → slice_get s.tables t.0 ≡ Some table → (b : Bool) → (fits_columns def.columns row && is_same (key_of def.primary_key old) (key_of def.primary_key row) && is_there def old table && has_parent s def.foreign_key row) ≡ b
        → option_map (λ next. record { schema = s.schema; tables = slice_set s.tables t.0 next }) (only_if b (insert table (key_of def.primary_key row) row)) ≡ Some new → Updated s new t (key_of def.primary_key row) row
    at_table table m true good e =
        let k = key_of def.primary_key row in
        let same : record { schema = s.schema; tables = slice_set s.tables t.0 (insert table k row) } ≡ new = cc in
        let it : table_at s t ≡ table = ap (λ o. unwrap_or o empty) m in
        let both = parts (fits_columns def.columns row) (is_same (key_of def.primary_key old) k) (is_there def old table) (has_parent s def.foreign_key row) good in
        let keys : key_of def.primary_key old ≡ k = same_is (key_of def.primary_key old) k both.0 in
        let there = found (get table (key_of def.primary_key old)) both.1 in
        record {
          schema = sym (ap (λ x. x.schema) same);
          here = ap (λ x. unwrap_or (slice_get x.tables t.0) empty) (sym same) ∙ ap (λ o. unwrap_or o empty) (get_set s.tables t.0 (insert table k row) table m) ∙ ap (λ x. insert x k row) (sym it);
          others = λ u n. ap (λ x. unwrap_or (slice_get x.tables u.0) empty) (sym same) ∙ ap (λ o. unwrap_or o empty) (get_set_other s.tables t.0 u.0 (insert table k row) n);
          old = there.0;
          was = ap (λ x. get x k) it ∙ ap (get table) (sym keys) ∙ there.1;
          parent = λ f e. let x : Some def ≡ Some f = sym d ∙ e in let y : def ≡ f = cc in ap (λ (z : TableDef). has_parent s z.foreign_key row) (sym y) ∙ both.2;
          fits = λ f e. let x : Some def ≡ Some f = sym d ∙ e in let y : def ≡ f = cc in ap (λ (z : TableDef). fits_columns z.columns row) (sym y) ∙ first_of (fits_columns def.columns row) (is_same (key_of def.primary_key old) k) (is_there def old table) (has_parent s def.foreign_key row) good;
        }
    at_table table m false bad e = cc

    by : (o : Option Table) → slice_get s.tables t.0 ≡ o → option_and_then (λ table. option_map (λ next. record { schema = s.schema; tables = slice_set s.tables t.0 next }) (with_change s old row def table)) o ≡ Some new → Updated s new t (key_of def.primary_key row) row
    by None m e = cc
    by (Some table) m e = at_table table m (fits_columns def.columns row && is_same (key_of def.primary_key old) (key_of def.primary_key row) && is_there def old table && has_parent s def.foreign_key row) refl e
