-- Laws of operations on different rows that are there: none of them finds another row.
use Rattle.std.proofs.Common.{◌≡◌, ℕ, zero, suc, Bool, true, false, cond, ◌&&◌, eqb, Option, Some, None, List, [], ◌∷◌, find, length, slice_get, slice_set, refl, sym, ap, subst, ◌∙◌}
use Rattle.std.specs.Option.{option_and_then, option_map, option_or}
use Rattle.std.specs.Ordering.{eq_by_cmp, is_eq}
use Rattle.std.specs.declared.cmp.Ordering.{Ordering}
use Rattle.std.specs.declared.cmp.Ordering.TheVariants.{Less, Equal, Greater}
use Rattle.std.specs.Cmp.{eq_by_cmp_equiv}
use Rattle.std.specs.FinMap as fm
use Rattle.std.proofs.lemmas.Bool.{eq-eqb, eqb-true}
use Rattle.evaluator.specs.row_types.specs.declared.column.Column.{Column}
use Rattle.evaluator.specs.row_types.specs.declared.value.Value.{Value}
use Rattle.evaluator.specs.row_types.specs.Order.{key_order}
use Rattle.evaluator.specs.row_types.proofs.OrderLaws.{key_total, key_exact}
use Rattle.evaluator.specs.tier_base.specs.declared.code.Code.{Code}
use Rattle.evaluator.specs.tier_base.specs.declared.code.Code.TheVariants.{ChildExists, KeyColumnSet, KeyExists, NullNotAllowed, OutOfRange, ParentMissing, TypeMismatch}
use Rattle.evaluator.specs.tier_base.specs.declared.number.TableId.{TableId}
use Rattle.evaluator.specs.row_types.specs.declared.rule.Detail.{Detail}
use Rattle.evaluator.specs.row_types.specs.declared.rule.Detail.TheVariants as detail
use Rattle.evaluator.specs.table_defs.specs.declared.definition.TableDef.{TableDef}
use Rattle.evaluator.specs.table_state.specs.declared.operation.Op.{Op}
use Rattle.evaluator.specs.table_state.specs.declared.operation.Op.TheVariants.{Insert, Update, Delete}
use Rattle.evaluator.specs.table_state.specs.declared.refusal.ApplyError.{ApplyError}
use Rattle.evaluator.specs.table_state.specs.declared.refusal.ApplyError.TheVariants as error
use Rattle.evaluator.specs.table_state.specs.Operations.{applied, on_table, only_if, with_change, with_row, without_row}
use Rattle.evaluator.specs.indexed_rows.specs.Rows.{changes, Table, key_of}
use Rattle.evaluator.specs.table_state.specs.Refusals.{broken_by, broken_by_all, changed_key, column_name, delete_fault, differing, first_child, first_refused, has_children, in_table, insert_fault, misfit, missing_parent, parent_row, refused, refused_at, taken_key, update_fault}
use Rattle.evaluator.specs.table_state.specs.Tables.{TableState, has_parent, is_found, is_there}
use Rattle.evaluator.specs.indexed_rows.proofs.EntryLaws.{same_values}
use Rattle.evaluator.specs.Cascades.{key_in}
use Rattle.evaluator.specs.table_state.proofs.PairLaws.{Every, Pairs}
use Rattle.transactions.specs.Differing.{is_difference}
use Rattle.transactions.proofs.TouchLaws.{applied_schema}

abbrev pub Row : Type 0
Row = List Value

-- a table's number and a key
abbrev pub Place : Type 0
Place = ℕ × Row

abbrev pub found_at : TableState → Place → Option Row
found_at s q = option_and_then (λ m. fm.get m q.1) (slice_get s.tables q.0)

abbrev pub place_in : List TableDef → TableId → Row → Place
place_in schema t row = (t.0, key_in (slice_get schema t.0) row)

-- the place of the row that an operation writes
abbrev pub place_of : List TableDef → Op → Place
place_of schema (Insert t row) = place_in schema t row
place_of schema (Update t old new) = place_in schema t old
place_of schema (Delete t old) = place_in schema t old

-- the row that it names is there
abbrev pub Stands : List TableDef → TableState → Op → Type 0
Stands schema s (Insert t row) = Unit {0}
Stands schema s (Update t old new) = found_at s (place_in schema t old) ≡ Some old
Stands schema s (Delete t old) = found_at s (place_in schema t old) ≡ Some old

-- two operations write different rows
abbrev pub AreApart : List TableDef → Op → Op → Type 0
AreApart schema a b = place_of schema a ≡ place_of schema b → ⊥

-- faults that are no difference

or_no : (a b : Option ApplyError) → is_difference a ≡ false → is_difference b ≡ false → is_difference (option_or a b) ≡ false
or_no None b h k = k
or_no (Some e) b h k = h

cond_no : (b : Bool) (x y : Option ApplyError) → is_difference x ≡ false → is_difference y ≡ false → is_difference (cond b x y) ≡ false
cond_no true x y h k = h
cond_no false x y h k = k

at_no : (code : Code) (o : Option (List ℕ)) → is_difference (refused_at code o) ≡ false
at_no code None = refl
at_no code (Some name) = refl

then_no : {X : Type 0} (f : X → Option ApplyError) → ((x : X) → is_difference (f x) ≡ false) → (o : Option X) → is_difference (option_and_then f o) ≡ false
then_no f h None = refl
then_no f h (Some x) = h x

in_table_no : (fault : TableDef → Table → Option ApplyError) (d : Option TableDef) (m : Option Table) → ((def : TableDef) (table : Table) → d ≡ Some def → m ≡ Some table → is_difference (fault def table) ≡ false) → is_difference (in_table fault d m) ≡ false
in_table_no fault None m h = refl
in_table_no fault (Some def) None h = refl
in_table_no fault (Some def) (Some table) h = h def table refl refl

misfit_no : (columns : List Column) (row : Row) → is_difference (misfit columns row) ≡ false
misfit_no columns row =
    let range = refused_at OutOfRange (first_refused OutOfRange columns row) in
    let null = refused_at NullNotAllowed (first_refused NullNotAllowed columns row) in
    cond_no (eqb (length row) (length columns)) (option_or range null) (refused TypeMismatch detail.Nothing)
    (or_no range null (at_no OutOfRange (first_refused OutOfRange columns row)) (at_no NullNotAllowed (first_refused NullNotAllowed columns row))) refl

parent_no : (s : TableState) (def : TableDef) (row : Row) → is_difference (missing_parent s def row) ≡ false
parent_no s def row = cond_no (has_parent s def.foreign_key row) None (refused ParentMissing (parent_row s def.foreign_key row)) refl refl

taken_no : (def : TableDef) (row : Row) (table : Table) → is_difference (taken_key def row table) ≡ false
taken_no def row table = cond_no (fm.contains_key table (key_of def.primary_key row)) (refused KeyExists (detail.Row def.name (key_of def.primary_key row))) None refl refl

changed_no : (def : TableDef) (old new : Row) → is_difference (changed_key def old new) ≡ false
changed_no def old new = then_no (λ (place : ℕ). refused KeyColumnSet (column_name (slice_get def.columns place))) (λ place. refl) (find (changes old new) def.primary_key)

children_no : (s : TableState) (t : TableId) (key : Row) → is_difference (has_children s t key) ≡ false
children_no s t key = then_no (λ (child : Detail). refused ChildExists child) (λ child. refl) (first_child t key s.schema s.tables)

insert_no : (s : TableState) (row : Row) (def : TableDef) (table : Table) → is_difference (insert_fault s row def table) ≡ false
insert_no s row def table =
    or_no (misfit def.columns row) (option_or (taken_key def row table) (missing_parent s def row)) (misfit_no def.columns row)
    (or_no (taken_key def row table) (missing_parent s def row) (taken_no def row table) (parent_no s def row))

there_no : (t : TableId) (def : TableDef) (row : Row) (table : Table) → is_there def row table ≡ true → is_difference (differing t def row table) ≡ false
there_no t def row table h = ap (λ b. is_difference (cond b None (Some (error.Differs t (key_of def.primary_key row) (fm.get table (key_of def.primary_key row)))))) h

update_no : (s : TableState) (t : TableId) (old new : Row) (def : TableDef) (table : Table) → is_there def old table ≡ true → is_difference (update_fault s t old new def table) ≡ false
update_no s t old new def table h =
    or_no (changed_key def old new) (option_or (misfit def.columns new) (option_or (differing t def old table) (missing_parent s def new))) (changed_no def old new)
    (or_no (misfit def.columns new) (option_or (differing t def old table) (missing_parent s def new)) (misfit_no def.columns new)
    (or_no (differing t def old table) (missing_parent s def new) (there_no t def old table h) (parent_no s def new)))

delete_no : (s : TableState) (t : TableId) (old : Row) (def : TableDef) (table : Table) → is_there def old table ≡ true → is_difference (delete_fault s t old def table) ≡ false
delete_no s t old def table h =
    or_no (differing t def old table) (has_children s t (key_of def.primary_key old)) (there_no t def old table h) (children_no s t (key_of def.primary_key old))

-- the row that stands at its place is there
stands_there : (s : TableState) (t : TableId) (old : Row) (def : TableDef) (table : Table) → slice_get s.schema t.0 ≡ Some def → slice_get s.tables t.0 ≡ Some table → found_at s (place_in s.schema t old) ≡ Some old → is_there def old table ≡ true
stands_there s t old def table def_is table_is h =
    let found : fm.get table (key_of def.primary_key old) ≡ Some old =
    ap (λ d. fm.get table (key_in d old)) (sym def_is) ∙ ap (λ o. option_and_then (λ m. fm.get m (key_in (slice_get s.schema t.0) old)) o) (sym table_is) ∙ h in
    ap (is_found old) found ∙ (eq_by_cmp_equiv key_total).refl old

op_no : (op : Op) (s : TableState) → Stands s.schema s op → is_difference (broken_by op s) ≡ false
op_no (Insert t row) s h = in_table_no (insert_fault s row) _ _ (λ def table d m. insert_no s row def table)
op_no (Update t old new) s h = in_table_no (update_fault s t old new) _ _ (λ def table d m. update_no s t old new def table (stands_there s t old def table d m h))
op_no (Delete t old) s h = in_table_no (delete_fault s t old) _ _ (λ def table d m. delete_no s t old def table (stands_there s t old def table d m h))

-- an operation leaves all other rows

get_set : {X : Type 0} (xs : List X) (i : ℕ) (x y : X) → slice_get xs i ≡ Some y → slice_get (slice_set xs i x) i ≡ Some x
get_set [] i x y h = cc
get_set (z ∷ xs) zero x y h = refl
get_set (z ∷ xs) (suc i) x y h = get_set xs i x y h

get_other : {X : Type 0} (xs : List X) (i j : ℕ) (x : X) → (i ≡ j → ⊥) → slice_get (slice_set xs i x) j ≡ slice_get xs j
get_other [] i j x ne = refl
get_other (y ∷ xs) zero zero x ne = absurd (ne refl)
get_other (y ∷ xs) zero (suc j) x ne = refl
get_other (y ∷ xs) (suc i) zero x ne = refl
get_other (y ∷ xs) (suc i) (suc j) x ne = get_other xs i j x (λ e. ne (ap suc e))

only_if_is : {X : Type 0} (b : Bool) (x y : X) → only_if b x ≡ Some y → (b ≡ true) × (x ≡ y)
only_if_is true x y e = (refl, cc)
only_if_is false x y e = cc

both_true : (a b : Bool) → (a && b) ≡ true → (a ≡ true) × (b ≡ true)
both_true true b e = (refl, e)
both_true false b e = cc

is_equal : (o : Ordering) → is_eq o ≡ true → o ≡ Equal
is_equal Less e = cc
is_equal Equal e = refl
is_equal Greater e = cc

insert_stays : (m : Table) (key row k : Row) → (key ≡ k → ⊥) → fm.get (fm.insert m key row) k ≡ fm.get m k
insert_stays m key row k ne = fm.get-insert key_total m key row k ∙ by (eq_by_cmp key_order k key) refl
  where
    by : (b : Bool) → eq_by_cmp key_order k key ≡ b → cond b (Some row) (fm.get m k) ≡ fm.get m k
    by true e = absurd (ne (sym (key_exact k key (is_equal (key_order k key) e))))
    by false e = refl

remove_stays : (m : Table) (key k : Row) → (key ≡ k → ⊥) → fm.get (fm.remove m key) k ≡ fm.get m k
remove_stays m key k ne = fm.get-remove key_total m key k ∙ by (eq_by_cmp key_order k key) refl
  where
    by : (b : Bool) → eq_by_cmp key_order k key ≡ b → cond b None (fm.get m k) ≡ fm.get m k
    by true e = absurd (ne (sym (key_exact k key (is_equal (key_order k key) e))))
    by false e = refl

false_is_not_true : false ≡ true → ⊥
false_is_not_true e = cc

module _ (s : TableState) (t : TableId) (change : TableDef → Table → Option Table) (key : TableDef → Row) (stays : (def : TableDef) (table new : Table) → change def table ≡ Some new → (k : Row) → (key def ≡ k → ⊥) → fm.get new k ≡ fm.get table k) where
  module _ (def : TableDef) (table new : Table) (table_is : slice_get s.tables t.0 ≡ Some table) (made : change def table ≡ Some new) (q : Place) (other : (t.0, key def) ≡ q → ⊥) where
    set_stays : option_and_then (λ m. fm.get m q.1) (slice_get (slice_set s.tables t.0 new) q.0) ≡ found_at s q
    set_stays = by (eqb t.0 q.0) refl
      where
        there : t.0 ≡ q.0 → option_and_then (λ m. fm.get m q.1) (slice_get (slice_set s.tables t.0 new) q.0) ≡ found_at s q
        there e =
            let apart : key def ≡ q.1 → ⊥ = λ k. other (ap (λ n. (n, key def)) e ∙ ap (λ x. (q.0, x)) k) in
            ap (λ n. option_and_then (λ m. fm.get m q.1) (slice_get (slice_set s.tables t.0 new) n)) (sym e) ∙ ap (option_and_then (λ m. fm.get m q.1)) (get_set s.tables t.0 new table table_is)
            ∙ stays def table new made q.1 apart ∙ ap (option_and_then (λ m. fm.get m q.1)) (sym table_is) ∙ ap (λ n. option_and_then (λ m. fm.get m q.1) (slice_get s.tables n)) e

        by : (b : Bool) → eqb t.0 q.0 ≡ b → option_and_then (λ m. fm.get m q.1) (slice_get (slice_set s.tables t.0 new) q.0) ≡ found_at s q
        by true e = there (eqb-true _ _ e)
        by false e = ap (option_and_then (λ m. fm.get m q.1)) (get_other s.tables t.0 q.0 new (λ same. false_is_not_true (sym e ∙ eq-eqb _ _ same)))

  on_table_stays : (n : TableState) → on_table s t change ≡ Some n → (q : Place) → ((def : TableDef) → slice_get s.schema t.0 ≡ Some def → (t.0, key def) ≡ q → ⊥) → found_at n q ≡ found_at s q
  on_table_stays n is q other = by (slice_get s.schema t.0) refl (slice_get s.tables t.0) refl is
    where
      last : (def : TableDef) (table : Table) → slice_get s.schema t.0 ≡ Some def → slice_get s.tables t.0 ≡ Some table → (o : Option Table) → change def table ≡ o
          → option_map (λ new. record { schema = s.schema; tables = slice_set s.tables t.0 new }) o ≡ Some n → found_at n q ≡ found_at s q
      last def table d m None e h = cc
      last def table d m (Some new) e h =
          let same : record { schema = s.schema; tables = slice_set s.tables t.0 new } ≡ n = cc in
          ap (λ x. found_at x q) (sym same) ∙ set_stays def table new m e q (other def d)

      by : (d : Option TableDef) → slice_get s.schema t.0 ≡ d → (m : Option Table) → slice_get s.tables t.0 ≡ m
          → option_and_then (λ def. option_and_then (λ table. option_map (λ new. record { schema = s.schema; tables = slice_set s.tables t.0 new }) (change def table)) m) d ≡ Some n → found_at n q ≡ found_at s q
      by None d_is m m_is h = cc
      by (Some def) d_is None m_is h = cc
      by (Some def) d_is (Some table) m_is h = last def table d_is m_is (change def table) refl h

op_stays : (op : Op) (s n : TableState) → applied op s ≡ Some n → (q : Place) → (place_of s.schema op ≡ q → ⊥) → found_at n q ≡ found_at s q
op_stays (Insert t row) s n is q other =
    on_table_stays s t (with_row s row) (λ def. key_of def.primary_key row)
    (λ def table new e k ne. ap (λ m. fm.get m k) (sym (only_if_is _ _ _ e).1) ∙ insert_stays table (key_of def.primary_key row) row k ne) n is q (λ def d e. other (ap (λ x. (t.0, key_in x row)) d ∙ e))
op_stays (Update t old row) s n is q other =
    on_table_stays s t (with_change s old row) (λ def. key_of def.primary_key old)
    (λ def table new e k ne.
    (let (test, same) = only_if_is _ _ _ e in
    let keys : key_of def.primary_key old ≡ key_of def.primary_key row = same_values _ _ (both_true _ _ (both_true _ _ (both_true _ _ test).0).0).1 in
    ap (λ m. fm.get m k) (sym same) ∙ insert_stays table (key_of def.primary_key row) row k (λ x. ne (keys ∙ x)))) n is q (λ def d e. other (ap (λ x. (t.0, key_in x old)) d ∙ e))
op_stays (Delete t old) s n is q other =
    on_table_stays s t (without_row s t old) (λ def. key_of def.primary_key old)
    (λ def table new e k ne. ap (λ m. fm.get m k) (sym (only_if_is _ _ _ e).1) ∙ remove_stays table (key_of def.primary_key old) k ne) n is q (λ def d e. other (ap (λ x. (t.0, key_in x old)) d ∙ e))

-- so each of them stands when its turn comes

stands_still : (schema : List TableDef) (op : Op) (s n : TableState) → s.schema ≡ schema → applied op s ≡ Some n → (x : Op) → Stands schema s x → AreApart schema op x → Stands schema n x
stands_still schema op s n is made (Insert t row) stands apart = tt
stands_still schema op s n is made (Update t old row) stands apart = op_stays op s n made (place_in schema t old) (λ e. apart (ap (λ l. place_of l op) (sym is) ∙ e)) ∙ stands
stands_still schema op s n is made (Delete t old) stands apart = op_stays op s n made (place_in schema t old) (λ e. apart (ap (λ l. place_of l op) (sym is) ∙ e)) ∙ stands

every_still : (schema : List TableDef) (op : Op) (s n : TableState) → s.schema ≡ schema → applied op s ≡ Some n → (ops : List Op) → Every (Stands schema s) ops → Every (AreApart schema op) ops → Every (Stands schema n) ops
every_still schema op s n is made [] stand apart = tt
every_still schema op s n is made (x ∷ ops) stand apart = (stands_still schema op s n is made x stand.0 apart.0, every_still schema op s n is made ops stand.1 apart.1)

pub none_differs : (schema : List TableDef) (ops : List Op) (s : TableState) → s.schema ≡ schema → Every (Stands schema s) ops → Pairs (AreApart schema) ops → is_difference (broken_by_all ops s) ≡ false
none_differs schema [] s is stand apart = refl
none_differs schema (op ∷ ops) s is stand apart =
    or_no (broken_by op s) (option_and_then (broken_by_all ops) (applied op s)) (op_no op s (subst (λ l. Stands l s op) (sym is) stand.0))
    (by (applied op s) refl (λ n same stands. none_differs schema ops n same stands apart.1))
  where
    by : (o : Option TableState) → applied op s ≡ o → ((n : TableState) → n.schema ≡ schema → Every (Stands schema n) ops → is_difference (broken_by_all ops n) ≡ false) → is_difference (option_and_then (broken_by_all ops) o) ≡ false
    by None made rest = refl
    by (Some n) made rest = rest n (applied_schema op s n made ∙ is) (every_still schema op s n is made ops stand.1 apart.0)
