-- Laws of one operation: what it asks, and what it writes.
use Rattle.std.proofs.Common.{◌≡◌, ℕ, zero, suc, ◌<◌, Bool, true, false, cond, not, ◌&&◌, ◌||◌, nat_eq, Option, Some, None, is_some, List, [], ◌∷◌, ◌++◌, length, length-set, slice_get, slice_set, unwrap_or, refl, sym, ap, ◌∙◌, arith, eq-eqb, eqb-true}
use Rattle.std.specs.Option.{option_and_then, option_map}
use Rattle.std.specs.List.{flat_map, list_any}
use Rattle.std.proofs.lemmas.List.Folds.{list_any-append}
use Rattle.std.specs.FinMap as fm
use Rattle.std.specs.FinMap.{empty}
use Rattle.table_state.specs.row_types.specs.declared.value.Value.{Value}
use Rattle.table_state.specs.tier_base.specs.declared.number.TableId.{TableId}
use Rattle.table_state.specs.table_defs.specs.declared.definition.ForeignKey.{ForeignKey}
use Rattle.table_state.specs.table_defs.specs.declared.definition.TableDef.{TableDef}
use Rattle.table_state.specs.declared.footprint.RowKey.{RowKey}
use Rattle.table_state.specs.declared.operation.Op.{Op}
use Rattle.table_state.specs.declared.operation.Op.TheVariants.{Insert, Update, Delete}
use Rattle.table_state.specs.indexed_rows.specs.Rows.{Table, is_same, key_of}
use Rattle.table_state.specs.indexed_rows.proofs.EntryLaws.{read, same_itself, same_values, there}
use Rattle.table_state.specs.Changes.{with_table}
use Rattle.table_state.specs.Footprints.{is_among, parent_key, referred_by, referred_key, rows_of, same_row_key, written_by, written_key}
use Rattle.table_state.specs.Tables.{TableState, fits_columns, has_child, has_child_in, has_parent, is_found, is_there, names_parent, table_at}
use Rattle.table_state.specs.Operations.{applied, only_if, table_of}
use Rattle.table_state.proofs.ChangeLaws.{row_found}
use Rattle.order_laws.specs.Effects.{AgreeFor, row_left_by, row_at}
use Rattle.order_laws.proofs.MapLaws.{any_over, get_over, over, passes}
use Rattle.order_laws.proofs.TruthLaws.{both_true, or_true}

abbrev Row : Type 0
Row = List Value

-- the key that it writes
abbrev pub key_in : TableDef → Op → Row
key_in def (Insert t row) = key_of def.primary_key row
key_in def (Update t old new) = key_of def.primary_key new
key_in def (Delete t old) = key_of def.primary_key old

-- what it asks of a state in which its table has these rows
abbrev pub asks : Op → TableState → TableDef → Table → Bool
asks (Insert t row) s def table = fits_columns def.columns row && not (fm.contains_key table (key_of def.primary_key row)) && has_parent s def.foreign_key row
asks (Update t old new) s def table = fits_columns def.columns new && is_same (key_of def.primary_key old) (key_of def.primary_key new) && is_there def old table && has_parent s def.foreign_key new
asks (Delete t old) s def table = is_there def old table && not (has_child s t (key_of def.primary_key old))

-- what it leaves
abbrev pub after : Op → TableDef → TableState → TableState
after op def s = with_table s (table_of op) (over (row_left_by op) (key_in def op) (table_at s (table_of op)))

-- it applies to a state and gives another
pub record Applies (op : Op) (s n : TableState) : Type 0 where
  pub def : TableDef
  pub table : Table
  pub defined : slice_get s.schema (table_of op).0 ≡ Some def
  pub there : slice_get s.tables (table_of op).0 ≡ Some table
  pub asked : asks op s def table ≡ true
  pub gives : n ≡ after op def s

abbrev made : Op → TableState → TableDef → Table → Option TableState
made op s def table = option_map (with_table s (table_of op)) (only_if (asks op s def table) (over (row_left_by op) (key_in def op) table))

abbrev made_in : Op → TableState → Option TableDef → Option Table → Option TableState
made_in op s d m = option_and_then (λ def. option_and_then (made op s def) m) d

applied_made : (op : Op) (s : TableState) → applied op s ≡ made_in op s (slice_get s.schema (table_of op).0) (slice_get s.tables (table_of op).0)
applied_made (Insert t row) s = refl
applied_made (Update t old new) s = refl
applied_made (Delete t old) s = refl

after_is : (op : Op) (def : TableDef) (s : TableState) (table : Table) → slice_get s.tables (table_of op).0 ≡ Some table → with_table s (table_of op) (over (row_left_by op) (key_in def op) table) ≡ after op def s
after_is op def s table e = ap (λ o. with_table s (table_of op) (over (row_left_by op) (key_in def op) (unwrap_or o empty))) (sym e)

pub parts : (op : Op) (s n : TableState) → applied op s ≡ Some n → Applies op s n
parts op s n is = by (slice_get s.schema (table_of op).0) refl (slice_get s.tables (table_of op).0) refl (sym (applied_made op s) ∙ is)
  where
    last : (def : TableDef) (table : Table) → slice_get s.schema (table_of op).0 ≡ Some def → slice_get s.tables (table_of op).0 ≡ Some table → (b : Bool) → asks op s def table ≡ b
        → option_map (with_table s (table_of op)) (only_if b (over (row_left_by op) (key_in def op) table)) ≡ Some n → Applies op s n
    last def table d m false e h = cc
    last def table d m true e h =
        let same : with_table s (table_of op) (over (row_left_by op) (key_in def op) table) ≡ n = cc in
        record { def = def; table = table; defined = d; there = m; asked = e; gives = sym same ∙ after_is op def s table m }

    by : (d : Option TableDef) → slice_get s.schema (table_of op).0 ≡ d → (m : Option Table) → slice_get s.tables (table_of op).0 ≡ m → made_in op s d m ≡ Some n → Applies op s n
    by None d m e h = cc
    by (Some def) d None e h = cc
    by (Some def) d (Some table) m h = last def table d m (asks op s def table) refl h

pub whole : (op : Op) (s n : TableState) → Applies op s n → applied op s ≡ Some n
whole op s n a =
    applied_made op s
    ∙ ap (λ d. made_in op s d (slice_get s.tables (table_of op).0)) a.defined
    ∙ ap (λ m. made_in op s (Some a.def) m) a.there
    ∙ ap (λ b. option_map (with_table s (table_of op)) (only_if b (over (row_left_by op) (key_in a.def op) a.table))) a.asked
    ∙ ap Some (after_is op a.def s a.table a.there ∙ sym a.gives)

-- keys among others

pub is_none : {X : Type 0} (o : Option X) → not (is_some o) ≡ true → o ≡ None
is_none None e = refl
is_none (Some x) e = cc

same_turned : (a b : Row) → is_same a b ≡ is_same b a
same_turned a b = by (is_same a b) refl (is_same b a) refl
  where
    by : (p : Bool) → is_same a b ≡ p → (q : Bool) → is_same b a ≡ q → p ≡ q
    by true e true f = refl
    by true e false f = let g : is_same b a ≡ true = same_itself b a (sym (same_values a b e)) in cc
    by false e true f = let g : is_same a b ≡ true = same_itself a b (sym (same_values b a f)) in cc
    by false e false f = refl

pub same_key : (t : TableId) (k l : Row) → k ≡ l → same_row_key (record { table = t; key = k }) (record { table = t; key = l }) ≡ true
same_key t k l e = ap (λ b. b && is_same k l) (eq-eqb t.0 t.0 refl) ∙ same_itself k l e

pub among_left : (xs ys : List RowKey) (w : RowKey) → is_among xs w ≡ true → is_among (xs ++ ys) w ≡ true
among_left xs ys w e = list_any-append (same_row_key w) xs ys ∙ ap (λ b. b || is_among ys w) e

pub among_right : (xs ys : List RowKey) (w : RowKey) → is_among ys w ≡ true → is_among (xs ++ ys) w ≡ true
among_right xs ys w e = list_any-append (same_row_key w) xs ys ∙ ap (λ b. is_among xs w || b) e ∙ or_true (is_among xs w)

among_first : (t : TableId) (k : Row) (rest : List RowKey) → is_among (record { table = t; key = k } ∷ rest) (record { table = t; key = k }) ≡ true
among_first t k rest = ap (λ b. b || is_among rest (record { table = t; key = k })) (same_key t k k refl)

-- the keys of an operation, where its table is defined
module _ (op : Op) (schema : List TableDef) (def : TableDef) (defined : slice_get schema (table_of op).0 ≡ Some def) where
  pub written_is : written_by schema op ≡ flat_map (written_key (table_of op) (Some def)) (rows_of op)
  written_is = ap (λ d. flat_map (written_key (table_of op) d) (rows_of op)) defined

  referred_is : referred_by schema op ≡ flat_map (parent_key def.foreign_key) (rows_of op)
  referred_is = ap (λ d. flat_map (referred_key d) (rows_of op)) defined

own_key : (op : Op) (def : TableDef) → is_among (flat_map (written_key (table_of op) (Some def)) (rows_of op)) (record { table = table_of op; key = key_in def op }) ≡ true
own_key (Insert t row) def = among_first t (key_of def.primary_key row) []
own_key (Update t old new) def = among_right (written_key t (Some def) old) (written_key t (Some def) new ++ []) (record { table = t; key = key_of def.primary_key new }) (among_first t (key_of def.primary_key new) [])
own_key (Delete t old) def = among_first t (key_of def.primary_key old) []

pub writes_key : (op : Op) (schema : List TableDef) (def : TableDef) → slice_get schema (table_of op).0 ≡ Some def → is_among (written_by schema op) (record { table = table_of op; key = key_in def op }) ≡ true
writes_key op schema def defined = ap (λ l. is_among l (record { table = table_of op; key = key_in def op })) (written_is op schema def defined) ∙ own_key op def

-- what an operation asks is the same in states that agree on what it looks at

parent_agrees : (s n : TableState) (foreign : Option ForeignKey) (row : Row) → ((w : RowKey) → is_among (parent_key foreign row) w ≡ true → row_at n w.table w.key ≡ row_at s w.table w.key)
    → has_parent n foreign row ≡ has_parent s foreign row
parent_agrees s n None row agree = refl
parent_agrees s n (Some foreign) row agree = ap is_some (agree (record { table = foreign.parent; key = key_of foreign.columns row }) (among_first foreign.parent (key_of foreign.columns row) []))

asks_alike : (op : Op) (s n : TableState) (def : TableDef) (table other : Table) → AgreeFor op s n → slice_get s.schema (table_of op).0 ≡ Some def → slice_get s.tables (table_of op).0 ≡ Some table → slice_get n.tables (table_of op).0 ≡ Some other
    → asks op n def other ≡ asks op s def table
asks_alike (Insert t row) s n def table other agree d m o =
    let key = key_of def.primary_key row in
    let same : fm.get other key ≡ fm.get table key =
    ap (λ x. fm.get (unwrap_or x empty) key) (sym o)
    ∙ agree.written (record { table = t; key = key }) (writes_key (Insert t row) s.schema def d)
    ∙ ap (λ x. fm.get (unwrap_or x empty) key) m
    in
    let parent : has_parent n def.foreign_key row ≡ has_parent s def.foreign_key row =
    parent_agrees s n def.foreign_key row (λ w h. agree.referred w (ap (λ l. is_among l w) (referred_is (Insert t row) s.schema def d) ∙ among_left (parent_key def.foreign_key row) [] w h))
    in
    λ i. fits_columns def.columns row && not (is_some (same i)) && parent i
asks_alike (Update t old new) s n def table other agree d m o =
    let key = key_of def.primary_key old in
    let same : fm.get other key ≡ fm.get table key =
    ap (λ x. fm.get (unwrap_or x empty) key) (sym o)
    ∙ agree.written (record { table = t; key = key }) (ap (λ l. is_among l (record { table = t; key = key })) (written_is (Update t old new) s.schema def d) ∙ among_first t (key_of def.primary_key old) (written_key t (Some def) new ++ []))
    ∙ ap (λ x. fm.get (unwrap_or x empty) key) m
    in
    let parent : has_parent n def.foreign_key new ≡ has_parent s def.foreign_key new =
    parent_agrees s n def.foreign_key new (λ w h. agree.referred w (ap (λ l. is_among l w) (referred_is (Update t old new) s.schema def d)
    ∙ among_right (parent_key def.foreign_key old) (parent_key def.foreign_key new ++ []) w (among_left (parent_key def.foreign_key new) [] w h)))
    in
    λ i. fits_columns def.columns new && is_same (key_of def.primary_key old) (key_of def.primary_key new) && is_found old (same i) && parent i
asks_alike (Delete t old) s n def table other agree d m o =
    let key = key_of def.primary_key old in
    let same : fm.get other key ≡ fm.get table key =
    ap (λ x. fm.get (unwrap_or x empty) key) (sym o)
    ∙ agree.written (record { table = t; key = key }) (writes_key (Delete t old) s.schema def d)
    ∙ ap (λ x. fm.get (unwrap_or x empty) key) m
    in
    let child : has_child n t key ≡ has_child s t key = agree.children (record { table = t; key = key }) (writes_key (Delete t old) s.schema def d) in
    λ i. is_found old (same i) && not (child i)

-- so it applies to both or to none
pub goes_over : (op : Op) (s n x : TableState) → AgreeFor op s n → Applies op s x → (y : TableState) × Applies op n y
goes_over op s n x agree a =
    let within = read s.tables (table_of op).0 a.table a.table a.there in
    let (other, o) = there n.tables (table_of op).0 (let size : length n.tables ≡ length s.tables = agree.tables in let lt : (table_of op).0 < length s.tables = within.0 in omega arith) in (
      after op a.def n,
      record {
        def = a.def;
        table = other;
        defined = ap (λ l. slice_get l (table_of op).0) agree.schema ∙ a.defined;
        there = o;
        asked = asks_alike op s n a.def a.table other agree a.defined a.there o ∙ a.asked;
        gives = refl;
      },
    )

agree_back : (op : Op) (s n : TableState) → AgreeFor op s n → AgreeFor op n s
agree_back op s n agree = record {
  schema = sym agree.schema;
  tables = sym agree.tables;
  written = λ w h. sym (agree.written w (ap (λ l. is_among (written_by l op) w) (sym agree.schema) ∙ h));
  referred = λ w h. sym (agree.referred w (ap (λ l. is_among (referred_by l op) w) (sym agree.schema) ∙ h));
  children = λ w h. sym (agree.children w (ap (λ l. is_among (written_by l op) w) (sym agree.schema) ∙ h));
}

pub applies_alike : (op : Op) (s n : TableState) → AgreeFor op s n → is_some (applied op n) ≡ is_some (applied op s)
applies_alike op s n agree = by (applied op n) refl (applied op s) refl
  where
    by : (p : Option TableState) → applied op n ≡ p → (q : Option TableState) → applied op s ≡ q → is_some p ≡ is_some q
    by None e None f = refl
    by None e (Some x) f = let (y, a) = goes_over op s n x agree (parts op s x f) in let some : applied op n ≡ Some y = whole op n y a in cc
    by (Some y) e None f = let (x, a) = goes_over op n s y (agree_back op s n agree) (parts op n y e) in let some : applied op s ≡ Some x = whole op s x a in cc
    by (Some y) e (Some x) f = refl

-- what an operation leaves

get_set : {X : Type 0} (xs : List X) (i : ℕ) (x y : X) → slice_get xs i ≡ Some y → slice_get (slice_set xs i x) i ≡ Some x
get_set [] i x y e = cc
get_set (z ∷ xs) zero x y e = refl
get_set (z ∷ xs) (suc i) x y e = get_set xs i x y e

get_other : {X : Type 0} (xs : List X) (i j : ℕ) (x : X) → nat_eq i j ≡ false → slice_get (slice_set xs i x) j ≡ slice_get xs j
get_other {X = X} xs i j x e = apart xs i j (λ same. let test : nat_eq i j ≡ true = eq-eqb i j same in cc)
  where
    apart : (xs : List X) (i j : ℕ) → (i ≡ j → ⊥) → slice_get (slice_set xs i x) j ≡ slice_get xs j
    apart [] i j ne = refl
    apart (y ∷ xs) zero zero ne = absurd (ne refl)
    apart (y ∷ xs) zero (suc j) ne = refl
    apart (y ∷ xs) (suc i) zero ne = refl
    apart (y ∷ xs) (suc i) (suc j) ne = apart xs i j (λ e. ne (ap suc e))

pub or_none : (a b : Bool) → (a || b) ≡ false → (a ≡ false) × (b ≡ false)
or_none true b e = cc
or_none false b e = (refl, e)

left_fails : (op : Op) (p : Row → Bool) → list_any p (rows_of op) ≡ false → passes p (row_left_by op) ≡ false
left_fails (Insert t row) p e = (or_none (p row) false e).0
left_fails (Update t old new) p e = (or_none (p new) false (or_none (p old) (p new || false) e).1).0
left_fails (Delete t old) p e = refl

found_fails : (op : Op) (s : TableState) (def : TableDef) (table : Table) (p : Row → Bool) → asks op s def table ≡ true → list_any p (rows_of op) ≡ false → passes p (fm.get table (key_in def op)) ≡ false
found_fails (Insert t row) s def table p asked e =
    let fresh = (both_true (fits_columns def.columns row) _ (both_true _ (has_parent s def.foreign_key row) asked).0).1 in
    ap (passes p) (is_none (fm.get table (key_of def.primary_key row)) fresh)
found_fails (Update t old new) s def table p asked e =
    let first = (both_true _ (has_parent s def.foreign_key new) asked).0 in
    let second = both_true (fits_columns def.columns new && is_same (key_of def.primary_key old) (key_of def.primary_key new)) (is_there def old table) first in
    let keys : key_of def.primary_key old ≡ key_of def.primary_key new = same_values _ _ (both_true (fits_columns def.columns new) _ second.0).1 in
    ap (λ k. passes p (fm.get table k)) (sym keys) ∙ ap (passes p) (row_found old (fm.get table (key_of def.primary_key old)) second.1) ∙ (or_none (p old) (p new || false) e).0
found_fails (Delete t old) s def table p asked e =
    ap (passes p) (row_found old (fm.get table (key_of def.primary_key old)) (both_true (is_there def old table) _ asked).0) ∙ (or_none (p old) false e).0

child_over : (defs : List TableDef) (tables : List Table) (i : ℕ) (def : TableDef) (m new : Table) (t : TableId) (key : Row) → slice_get defs i ≡ Some def → slice_get tables i ≡ Some m
    → list_any (names_parent t key def.foreign_key) (fm.values new) ≡ list_any (names_parent t key def.foreign_key) (fm.values m) → has_child_in defs (slice_set tables i new) t key ≡ has_child_in defs tables t key
child_over [] tables i def m new t key d e same = cc
child_over (x ∷ defs) [] i def m new t key d e same = cc
child_over (x ∷ defs) (y ∷ tables) zero def m new t key d e same =
    let x_is : x ≡ def = cc in
    let y_is : y ≡ m = cc in
    ap (λ (z : TableDef). list_any (names_parent t key z.foreign_key) (fm.values new) || has_child_in defs tables t key) x_is
    ∙ ap (λ b. b || has_child_in defs tables t key) same
    ∙ sym (λ i. list_any (names_parent t key ((x_is i).foreign_key)) (fm.values (y_is i)) || has_child_in defs tables t key)
child_over (x ∷ defs) (y ∷ tables) (suc i) def m new t key d e same =
    ap (λ b. list_any (names_parent t key x.foreign_key) (fm.values y) || b) (child_over defs tables i def m new t key d e same)

-- the parents that rows name
named_in : (foreign : Option ForeignKey) (rows : List Row) (w : RowKey) → is_among (flat_map (parent_key foreign) rows) w ≡ list_any (names_parent w.table w.key foreign) rows
named_in foreign [] w = refl
named_in None (row ∷ rows) w = named_in None rows w
named_in (Some f) (row ∷ rows) w = λ i. (nat_eq w.table.0 f.parent.0 && same_turned w.key (key_of f.columns row) i) || named_in (Some f) rows w i

module _ (op : Op) (s n : TableState) (a : Applies op s n) where
  pub row_after : (t : TableId) (k : Row) → row_at n t k ≡ cond (nat_eq (table_of op).0 t.0 && is_same k (key_in a.def op)) (row_left_by op) (row_at s t k)
  row_after t k = ap (λ x. row_at x t k) a.gives ∙ by (nat_eq (table_of op).0 t.0) refl
    where
      new : Table
      new = over (row_left_by op) (key_in a.def op) (table_at s (table_of op))

      by : (b : Bool) → nat_eq (table_of op).0 t.0 ≡ b → row_at (after op a.def s) t k ≡ cond (b && is_same k (key_in a.def op)) (row_left_by op) (row_at s t k)
      by true e =
          let same : (table_of op).0 ≡ t.0 = eqb-true (table_of op).0 t.0 e in
          ap (λ i. fm.get (unwrap_or (slice_get (slice_set s.tables (table_of op).0 new) i) empty) k) (sym same)
          ∙ ap (λ o. fm.get (unwrap_or o empty) k) (get_set s.tables (table_of op).0 new a.table a.there)
          ∙ get_over (row_left_by op) (key_in a.def op) (table_at s (table_of op)) k
          ∙ ap (λ i. cond (is_same k (key_in a.def op)) (row_left_by op) (fm.get (unwrap_or (slice_get s.tables i) empty) k)) same
      by false e = ap (λ o. fm.get (unwrap_or o empty) k) (get_other s.tables (table_of op).0 t.0 new e)

  pub same_schema : n.schema ≡ s.schema
  same_schema = ap (λ x. x.schema) a.gives

  pub same_length : length n.tables ≡ length s.tables
  same_length = ap (λ x. length x.tables) a.gives ∙ length-set s.tables (table_of op).0 (over (row_left_by op) (key_in a.def op) (table_at s (table_of op)))

  -- a key that it doesn't name as a parent's has a child as before
  pub child_after : (w : RowKey) → is_among (referred_by s.schema op) w ≡ false → has_child n w.table w.key ≡ has_child s w.table w.key
  child_after w unnamed =
      let p = names_parent w.table w.key a.def.foreign_key in
      let fails : list_any p (rows_of op) ≡ false = sym (named_in a.def.foreign_key (rows_of op) w) ∙ ap (λ l. is_among l w) (sym (referred_is op s.schema a.def a.defined)) ∙ unnamed in
      let table_is : a.table ≡ table_at s (table_of op) = ap (λ o. unwrap_or o empty) (sym a.there) in
      let old : passes p (fm.get (table_at s (table_of op)) (key_in a.def op)) ≡ false = ap (λ m. passes p (fm.get m (key_in a.def op))) (sym table_is) ∙ found_fails op s a.def a.table p a.asked fails in
      ap (λ x. has_child x w.table w.key) a.gives
      ∙ child_over s.schema s.tables (table_of op).0 a.def (table_at s (table_of op)) (over (row_left_by op) (key_in a.def op) (table_at s (table_of op))) w.table w.key a.defined (a.there ∙ ap Some table_is)
      (any_over p (row_left_by op) (key_in a.def op) (table_at s (table_of op)) (left_fails op p fails) old)

  -- a key that it doesn't write has the row as before
  pub row_stays : (w : RowKey) → is_among (written_by s.schema op) w ≡ false → row_at n w.table w.key ≡ row_at s w.table w.key
  row_stays w unwritten = row_after w.table w.key ∙ by (nat_eq (table_of op).0 w.table.0) refl (is_same w.key (key_in a.def op)) refl
    where
      by : (b : Bool) → nat_eq (table_of op).0 w.table.0 ≡ b → (c : Bool) → is_same w.key (key_in a.def op) ≡ c → cond (b && c) (row_left_by op) (row_at s w.table w.key) ≡ row_at s w.table w.key
      by false e c f = refl
      by true e false f = refl
      by true e true f =
          let place : (table_of op).0 ≡ w.table.0 = eqb-true (table_of op).0 w.table.0 e in
          let key : key_in a.def op ≡ w.key = sym (same_values w.key (key_in a.def op) f) in
          let written : is_among (written_by s.schema op) w ≡ true =
          sym (λ i. is_among (written_by s.schema op) (record { table = record { 0 = place i }; key = key i })) ∙ writes_key op s.schema a.def a.defined
          in
          cc
