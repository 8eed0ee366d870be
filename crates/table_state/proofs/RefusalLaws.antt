-- Laws of refusals: an operation applies exactly where it breaks no rule.
use Rattle.std.proofs.Common.{◌≡◌, ℕ, suc, Bool, true, false, cond, not, eq-eqb, ◌&&◌, ◌||◌, ◌==◌, ◌⊎◌, inl, inr, Option, Some, None, Result, Ok, Err, is_some, List, [], ◌∷◌, map, length, slice_get, slice_set, unwrap_or, refl, sym, ap, ◌∙◌, arith}
use Rattle.std.proofs.lemmas.Bool.{eqb-true}
use Rattle.std.specs.Option.{option_and_then, option_map, option_or}
use Rattle.std.specs.Result.{is_ok}
use Rattle.std.specs.List.{find, list_any}
use Rattle.std.specs.Ordering.{is_eq, ordering_then}
use Rattle.std.specs.FinMap as fm
use Rattle.std.specs.declared.cmp.Ordering.{Ordering}
use Rattle.std.specs.declared.cmp.Ordering.TheVariants.{Less, Equal, Greater}
use Rattle.table_defs.specs.tier_base.specs.declared.code.Code.{Code}
use Rattle.table_defs.specs.tier_base.specs.declared.code.Code.TheVariants.{OutOfRange, NullNotAllowed}
use Rattle.table_defs.specs.tier_base.specs.declared.number.TableId.{TableId}
use Rattle.table_defs.specs.row_types.specs.declared.column.Column.{Column}
use Rattle.table_defs.specs.row_types.specs.declared.value.Value.{Value}
use Rattle.table_defs.specs.row_types.specs.declared.value.Value.TheVariants.{Null, Number, Text, Time}
use Rattle.table_defs.specs.row_types.specs.Columns.{fit_of, holds}
use Rattle.table_defs.specs.row_types.specs.Order.{order_of}
use Rattle.table_defs.specs.declared.definition.TableDef.{TableDef}
use Rattle.table_state.specs.declared.refusal.ApplyError.{ApplyError}
use Rattle.indexed_rows.specs.Rows.{Table, is_same, key_of, changes}
use Rattle.table_state.specs.Tables.{TableState, fits_columns, has_child, has_child_in, has_parent, is_there, names_parent}
use Rattle.table_state.specs.Operations.{on_table, only_if}
use Rattle.table_state.specs.Refusals.{changed_key, child_of, delete_fault, differing, first_child, first_refused, has_children, in_table, insert_fault, is_code, misfit, missing_parent, refused_at, taken_key, update_fault}

abbrev Row : Type 0
Row = List Value

-- two faults, one behind the other
pub some_or : {X : Type 0} (a b : Option X) (p q : Bool) → is_some a ≡ not p → is_some b ≡ not q → is_some (option_or a b) ≡ not (p && q)
some_or None b true q e f = f
some_or None b false q e f = cc
some_or (Some x) b true q e f = cc
some_or (Some x) b false q e f = refl

-- a fault where a test fails
pub some_if : {X : Type 0} (b : Bool) (x : X) → is_some (cond b None (Some x)) ≡ not b
some_if true x = refl
some_if false x = refl

pub some_unless : {X : Type 0} (b : Bool) (x : X) → is_some (cond b (Some x) None) ≡ not (not b)
some_unless true x = refl
some_unless false x = refl

pub all_some : {X Y : Type 0} (f : X → Y) (o : Option X) → is_some (option_and_then (λ x. Some (f x)) o) ≡ is_some o
all_some f None = refl
all_some f (Some x) = refl

-- what a test lets through, where the fault is that the test fails
pub lets_through : {E X : Type 0} (fault : Option E) (test : Bool) (x : X) → is_some fault ≡ not test → fault ≡ None → only_if test x ≡ Some x
lets_through fault true x e h = refl
lets_through fault false x e h = let some : is_some fault ≡ false = ap is_some h in cc

pub holds_back : {E X : Type 0} (fault : Option E) (test : Bool) (x : X) → is_some fault ≡ not test → (e : E) → fault ≡ Some e → only_if test x ≡ None
holds_back fault true x e y h = let some : is_some fault ≡ true = ap is_some h in cc
holds_back fault false x e y h = refl

-- the columns

abbrev Fit : Type 0
Fit = Result (Unit {0}) Code

-- the three ways of a value to fit or not
abbrev Cases : Fit → Type 0
Cases fit = (fit ≡ Ok tt) ⊎ ((fit ≡ Err NullNotAllowed) ⊎ (fit ≡ Err OutOfRange))

null_cases : (b : Bool) → Cases (cond b (Err NullNotAllowed) (Ok tt))
null_cases true = inr (inl refl)
null_cases false = inl refl

held_cases : (b : Bool) → Cases (cond b (Ok tt) (Err OutOfRange))
held_cases true = inl refl
held_cases false = inr (inr refl)

fit_cases : (column : Column) (value : Value) → Cases (fit_of column value)
fit_cases column Null = null_cases column.not_null
fit_cases column (Number x) = held_cases (holds column.ty (Number x))
fit_cases column (Text x) = held_cases (holds column.ty (Text x))
fit_cases column (Time x) = held_cases (holds column.ty (Time x))

-- both causes together
abbrev both : List Column → Row → Option ApplyError
both columns row = option_or (refused_at OutOfRange (first_refused OutOfRange columns row)) (refused_at NullNotAllowed (first_refused NullNotAllowed columns row))

-- one column more, by what its value is
more : (fit : Fit) (name : List ℕ) (a b : Option (List ℕ)) (rest : Bool) → Cases fit → is_some (option_or (refused_at OutOfRange a) (refused_at NullNotAllowed b)) ≡ not rest →
    is_some (option_or (refused_at OutOfRange (cond (is_code OutOfRange fit) (Some name) a)) (refused_at NullNotAllowed (cond (is_code NullNotAllowed fit) (Some name) b))) ≡ not (is_ok fit && rest)
more fit name a b rest (inl e) h = rw e h
more fit name a b rest (inr (inl e)) h = rw e (late a)
  where
    late : (a : Option (List ℕ)) → is_some (option_or (refused_at OutOfRange a) (refused_at NullNotAllowed (Some name))) ≡ true
    late None = refl
    late (Some x) = refl
more fit name a b rest (inr (inr e)) h = rw e refl

fitting : (columns : List Column) (row : Row) → length row ≡ length columns → is_some (both columns row) ≡ not (fits_columns columns row)
fitting [] [] e = refl
fitting [] (value ∷ row) e = absurd (omega arith)
fitting (column ∷ columns) [] e = absurd (omega arith)
fitting (column ∷ columns) (value ∷ row) e =
    more (fit_of column value) column.name _ _ (fits_columns columns row) (fit_cases column value) (fitting columns row (omega arith))

other_number : (columns : List Column) (row : Row) → (length row ≡ length columns → ⊥) → fits_columns columns row ≡ false
other_number [] [] n = absurd (n refl)
other_number [] (value ∷ row) n = refl
other_number (column ∷ columns) [] n = refl
other_number (column ∷ columns) (value ∷ row) n = ap (λ b. is_ok (fit_of column value) && b) (other_number columns row (λ e. n (ap suc e))) ∙ none (is_ok (fit_of column value))
  where
    none : (b : Bool) → (b && false) ≡ false
    none true = refl
    none false = refl

differ : (m n : ℕ) → (m == n) ≡ false → m ≡ n → ⊥
differ m n e same = let test : (m == n) ≡ true = eq-eqb m n same in cc

misfit_is : (columns : List Column) (row : Row) → is_some (misfit columns row) ≡ not (fits_columns columns row)
misfit_is columns row = by (length row == length columns) refl
  where
    by : (b : Bool) → (length row == length columns) ≡ b → is_some (misfit columns row) ≡ not (fits_columns columns row)
    by true e = rw e (fitting columns row (eqb-true _ _ e))
    by false e = rw (e, other_number columns row (λ same. differ (length row) (length columns) e same)) refl

-- the primary key

key_more : (r q : Ordering) (place : ℕ) (o : Option ℕ) → is_some o ≡ not (is_eq q) → is_some (cond (not (is_eq r)) (Some place) o) ≡ not (is_eq (ordering_then r q))
key_more Less q place o h = refl
key_more Equal q place o h = h
key_more Greater q place o h = refl

key_stays : (places : List ℕ) (old new : Row) → is_some (find (changes old new) places) ≡ not (is_same (key_of places old) (key_of places new))
key_stays [] old new = refl
key_stays (place ∷ places) old new = key_more (order_of (unwrap_or (slice_get old place) Null) (unwrap_or (slice_get new place) Null)) _ place _ (key_stays places old new)

changed_is : (def : TableDef) (old new : Row) → is_some (changed_key def old new) ≡ not (is_same (key_of def.primary_key old) (key_of def.primary_key new))
changed_is def old new = all_some _ (find (changes old new) def.primary_key) ∙ key_stays def.primary_key old new

-- the children

one_more : {A B X : Type 0} (f : A × B → X) (q : B → Bool) (e : A × B) (es : List (A × B)) (b : Bool) → is_some (option_map f (find (λ e. q e.1) es)) ≡ list_any q (map (λ e. e.1) es)
    → is_some (option_map f (cond b (Some e) (find (λ e. q e.1) es))) ≡ (b || list_any q (map (λ e. e.1) es))
one_more f q e es true h = refl
one_more f q e es false h = h

among : {A B X : Type 0} (f : A × B → X) (q : B → Bool) (es : List (A × B)) → is_some (option_map f (find (λ e. q e.1) es)) ≡ list_any q (map (λ e. e.1) es)
among f q [] = refl
among f q (e ∷ es) = one_more f q e es (q e.1) (among f q es)

either : {X : Type 0} (a b : Option X) (p q : Bool) → is_some a ≡ p → is_some b ≡ q → is_some (option_or a b) ≡ (p || q)
either None b p q e f = rw (← e) f
either (Some x) b p q e f = rw (← e) refl

child_is : (defs : List TableDef) (tables : List Table) (t : TableId) (key : Row) → is_some (first_child t key defs tables) ≡ has_child_in defs tables t key
child_is [] tables t key = refl
child_is (def ∷ defs) [] t key = refl
child_is (def ∷ defs) (table ∷ tables) t key =
    either (child_of t key def table) _ _ _ (among _ (names_parent t key def.foreign_key) (fm.entries table)) (child_is defs tables t key)

children_is : (s : TableState) (t : TableId) (key : Row) → is_some (has_children s t key) ≡ has_child s t key
children_is s t key = all_some _ (first_child t key s.schema s.tables) ∙ child_is s.schema s.tables t key

-- the whole operations

and_assoc : (a b c : Bool) → (a && (b && c)) ≡ ((a && b) && c)
and_assoc true b c = refl
and_assoc false b c = refl

reordered : (k f t p : Bool) → (k && (f && (t && p))) ≡ (((f && k) && t) && p)
reordered true true t p = refl
reordered true false t p = refl
reordered false true t p = refl
reordered false false t p = refl

pub insert_is : (s : TableState) (row : Row) (def : TableDef) (table : Table) →
    is_some (insert_fault s row def table) ≡ not (fits_columns def.columns row && not (fm.contains_key table (key_of def.primary_key row)) && has_parent s def.foreign_key row)
insert_is s row def table =
    some_or (misfit def.columns row) _ (fits_columns def.columns row) _ (misfit_is def.columns row)
    (some_or (taken_key def row table) (missing_parent s def row) (not (fm.contains_key table (key_of def.primary_key row))) (has_parent s def.foreign_key row) (some_unless _ _) (some_if _ _))
    ∙ ap not (and_assoc (fits_columns def.columns row) (not (fm.contains_key table (key_of def.primary_key row))) (has_parent s def.foreign_key row))

pub update_is : (s : TableState) (t : TableId) (old new : Row) (def : TableDef) (table : Table) →
    is_some (update_fault s t old new def table) ≡ not (fits_columns def.columns new && is_same (key_of def.primary_key old) (key_of def.primary_key new) && is_there def old table && has_parent s def.foreign_key new)
update_is s t old new def table =
    some_or (changed_key def old new) _ (is_same (key_of def.primary_key old) (key_of def.primary_key new)) _ (changed_is def old new)
    (some_or (misfit def.columns new) _ (fits_columns def.columns new) _ (misfit_is def.columns new)
    (some_or (differing t def old table) (missing_parent s def new) (is_there def old table) (has_parent s def.foreign_key new) (some_if _ _) (some_if _ _)))
    ∙ ap not (reordered (is_same (key_of def.primary_key old) (key_of def.primary_key new)) (fits_columns def.columns new) (is_there def old table) (has_parent s def.foreign_key new))

double : (b : Bool) → not (not b) ≡ b
double true = refl
double false = refl

pub delete_is : (s : TableState) (t : TableId) (old : Row) (def : TableDef) (table : Table) →
    is_some (delete_fault s t old def table) ≡ not (is_there def old table && not (has_child s t (key_of def.primary_key old)))
delete_is s t old def table =
    some_or (differing t def old table) (has_children s t (key_of def.primary_key old)) (is_there def old table) (not (has_child s t (key_of def.primary_key old))) (some_if _ _)
    (children_is s t (key_of def.primary_key old) ∙ sym (double _))

-- in a table of the state
module _ (s : TableState) (t : TableId) (fault : TableDef → Table → Option ApplyError) (change : TableDef → Table → Option Table) (test : TableDef → Table → Bool) (result : TableDef → Table → Table)
    (is_test : (def : TableDef) (table : Table) → is_some (fault def table) ≡ not (test def table)) (is_change : (def : TableDef) (table : Table) → change def table ≡ only_if (test def table) (result def table)) where
  pub unbroken : in_table fault (slice_get s.schema t.0) (slice_get s.tables t.0) ≡ None →
      (def : TableDef) × (table : Table) × (slice_get s.schema t.0 ≡ Some def) × (slice_get s.tables t.0 ≡ Some table) × (test def table ≡ true)
      × (on_table s t change ≡ Some (record { schema = s.schema; tables = slice_set s.tables t.0 (result def table) }))
  unbroken none = by (slice_get s.schema t.0) (slice_get s.tables t.0) refl refl none
    where
      by : (d : Option TableDef) (m : Option Table) → slice_get s.schema t.0 ≡ d → slice_get s.tables t.0 ≡ m → in_table fault d m ≡ None →
          (def : TableDef) × (table : Table) × (slice_get s.schema t.0 ≡ Some def) × (slice_get s.tables t.0 ≡ Some table) × (test def table ≡ true)
          × (on_table s t change ≡ Some (record { schema = s.schema; tables = slice_set s.tables t.0 (result def table) }))
      by None m d_is m_is h = cc
      by (Some def) None d_is m_is h = cc
      by (Some def) (Some table) d_is m_is h =
          let holds : test def table ≡ true = tested (test def table) (is_test def table) h in
          (def, table, d_is, m_is, holds, rw (d_is, m_is, is_change def table, holds) refl)
        where
          tested : (b : Bool) → is_some (fault def table) ≡ not b → fault def table ≡ None → b ≡ true
          tested true e f = refl
          tested false e f = let some : is_some (fault def table) ≡ false = ap is_some f in cc

  pub stays_out : (e : ApplyError) → in_table fault (slice_get s.schema t.0) (slice_get s.tables t.0) ≡ Some e → on_table s t change ≡ None
  stays_out e some = by (slice_get s.schema t.0) (slice_get s.tables t.0) refl refl some
    where
      by : (d : Option TableDef) (m : Option Table) → slice_get s.schema t.0 ≡ d → slice_get s.tables t.0 ≡ m → in_table fault d m ≡ Some e → on_table s t change ≡ None
      by None m d_is m_is h = rw d_is refl
      by (Some def) None d_is m_is h = rw (d_is, m_is) refl
      by (Some def) (Some table) d_is m_is h = rw (d_is, m_is, is_change def table, holds_back (fault def table) (test def table) (result def table) (is_test def table) e h) refl
