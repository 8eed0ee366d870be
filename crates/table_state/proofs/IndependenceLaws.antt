-- Laws of operations on tables that have nothing to do with one another, and of tables that come later.
use Rattle.std.proofs.Common.{◌≡◌, ℕ, zero, suc, ◌+◌, Bool, true, false, ◌||◌, ◌&&◌, not, nat_eq, Option, Some, None, List, [], ◌∷◌, ◌++◌, length, slice_get, slice_set, unwrap_or, refl, sym, ap, subst, ◌∙◌, eq-eqb, arith}
use Rattle.std.specs.Option.{option_and_then, option_map}
use Rattle.std.specs.List.{list_any}
use Rattle.std.specs.FinMap as fm
use Rattle.std.specs.FinMap.{empty}
use Rattle.std.proofs.lemmas.List.{nil_from_length, length-append, length-map, length-set}
use Rattle.table_defs.specs.row_types.specs.declared.value.Value.{Value}
use Rattle.table_defs.specs.row_types.specs.Order.{key_order}
use Rattle.table_defs.specs.tier_base.specs.declared.number.TableId.{TableId}
use Rattle.table_defs.specs.declared.definition.ForeignKey.{ForeignKey}
use Rattle.table_defs.specs.declared.definition.TableDef.{TableDef}
use Rattle.table_state.specs.declared.operation.Op.{Op}
use Rattle.table_state.specs.declared.operation.Op.TheVariants.{Insert, Update, Delete}
use Rattle.table_state.specs.declared.history.Entry.{Entry}
use Rattle.table_state.specs.declared.history.Entry.TheVariants.{Definition, Foreign, Own}
use Rattle.table_state.specs.Histories.{after_entry, state_from}
use Rattle.indexed_rows.specs.Rows.{Table, is_same, key_of}
use Rattle.table_state.specs.Tables.{TableState, fits_columns, has_child_in, has_parent, is_there, names_parent, table_at}
use Rattle.table_state.specs.Operations.{applied, applied_all, on_table, only_if, table_of, with_change, with_row, without_row}
use Rattle.table_state.specs.Changes.{with_table}
use Rattle.table_state.specs.Independence.{AreApart, IsWhole, is_child_of, refers_to, with_new}

abbrev Row : Type 0
Row = List Value

-- the change that an operation makes of its table
abbrev change_of : Op → TableState → TableDef → Table → Option Table
change_of (Insert t row) s def table = with_row s row def table
change_of (Update t old new) s def table = with_change s old new def table
change_of (Delete t old) s def table = without_row s t old def table

abbrev new_of : TableState → TableId → (TableDef → Table → Option Table) → Option Table
new_of s t change = option_and_then (λ def. option_and_then (change def) (slice_get s.tables t.0)) (slice_get s.schema t.0)

by_new : (s : TableState) (t : TableId) (change : TableDef → Table → Option Table) → on_table s t change ≡ option_map (with_table s t) (new_of s t change)
by_new s t change = by (slice_get s.schema t.0) (slice_get s.tables t.0)
  where
    by : (d : Option TableDef) (m : Option Table) →
        option_and_then (λ def. option_and_then (λ table. option_map (λ new. with_table s t new) (change def table)) m) d ≡ option_map (with_table s t) (option_and_then (λ def. option_and_then (change def) m) d)
    by None m = refl
    by (Some def) None = refl
    by (Some def) (Some table) = refl

-- an operation, by the new table that it makes
applied_new : (op : Op) (s : TableState) → applied op s ≡ option_map (with_table s (table_of op)) (new_of s (table_of op) (change_of op s))
applied_new (Insert t row) s = by_new s t (with_row s row)
applied_new (Update t old new) s = by_new s t (with_change s old new)
applied_new (Delete t old) s = by_new s t (without_row s t old)

-- one table changes

get_other : {X : Type 0} (xs : List X) (i j : ℕ) (x : X) → (i ≡ j → ⊥) → slice_get (slice_set xs i x) j ≡ slice_get xs j
get_other [] i j x ne = refl
get_other (y ∷ xs) zero zero x ne = absurd (ne refl)
get_other (y ∷ xs) zero (suc j) x ne = refl
get_other (y ∷ xs) (suc i) zero x ne = refl
get_other (y ∷ xs) (suc i) (suc j) x ne = get_other xs i j x (λ e. ne (ap suc e))

set_apart : {X : Type 0} (xs : List X) (i j : ℕ) (x y : X) → (i ≡ j → ⊥) → slice_set (slice_set xs i x) j y ≡ slice_set (slice_set xs j y) i x
set_apart [] i j x y ne = refl
set_apart (z ∷ xs) zero zero x y ne = absurd (ne refl)
set_apart (z ∷ xs) zero (suc j) x y ne = refl
set_apart (z ∷ xs) (suc i) zero x y ne = refl
set_apart (z ∷ xs) (suc i) (suc j) x y ne = ap (λ l. z ∷ l) (set_apart xs i j x y (λ e. ne (ap suc e)))

unequal : (a b : ℕ) → nat_eq a b ≡ false → a ≡ b → ⊥
unequal a b e same = let test : nat_eq a b ≡ true = eq-eqb a b same in cc

unequal_back : (a b : ℕ) → nat_eq a b ≡ false → b ≡ a → ⊥
unequal_back a b e same = unequal a b e (sym same)

same_parent : (s : TableState) (t : TableId) (new : Table) (foreign : Option ForeignKey) (row : Row) → refers_to t foreign ≡ false → has_parent (with_table s t new) foreign row ≡ has_parent s foreign row
same_parent s t new None row apart = refl
same_parent s t new (Some foreign) row apart =
    ap (λ o. fm.contains_key (unwrap_or o empty) (key_of foreign.columns row)) (get_other s.tables t.0 foreign.parent.0 new (unequal t.0 foreign.parent.0 apart))

never : {X : Type 0} (p : X → Bool) → ((x : X) → p x ≡ false) → (xs : List X) → list_any p xs ≡ false
never p fails [] = refl
never p fails (x ∷ xs) = ap (λ b. b || list_any p xs) (fails x) ∙ never p fails xs

no_name : (t : TableId) (key : Row) (foreign : Option ForeignKey) → refers_to t foreign ≡ false → (row : Row) → names_parent t key foreign row ≡ false
no_name t key None apart row = refl
no_name t key (Some foreign) apart row = ap (λ b. b && is_same (key_of foreign.columns row) key) apart

same_child : (defs : List TableDef) (tables : List Table) (i : ℕ) (new : Table) (t : TableId) (key : Row) → is_child_of t (slice_get defs i) ≡ false → has_child_in defs (slice_set tables i new) t key ≡ has_child_in defs tables t key
same_child [] tables i new t key apart = refl
same_child (def ∷ defs) [] i new t key apart = refl
same_child (def ∷ defs) (table ∷ tables) zero new t key apart =
    ap (λ b. b || has_child_in defs tables t key) (never (names_parent t key def.foreign_key) (no_name t key def.foreign_key apart) (fm.values new) ∙ sym (never (names_parent t key def.foreign_key) (no_name t key def.foreign_key apart) (fm.values table)))
same_child (def ∷ defs) (table ∷ tables) (suc i) new t key apart =
    ap (λ b. list_any (names_parent t key def.foreign_key) (fm.values table) || b) (same_child defs tables i new t key apart)

-- the change stays the same where another table that has nothing to do with it changes
same_change : (op : Op) (s : TableState) (t : TableId) (new : Table) (def : TableDef) (table : Table) → refers_to t def.foreign_key ≡ false → is_child_of (table_of op) (slice_get s.schema t.0) ≡ false
    → change_of op (with_table s t new) def table ≡ change_of op s def table
same_change (Insert u row) s t new def table apart childless =
    ap (λ b. only_if (fits_columns def.columns row && not (fm.contains_key table (key_of def.primary_key row)) && b) (fm.insert table (key_of def.primary_key row) row)) (same_parent s t new def.foreign_key row apart)
same_change (Update u old row) s t new def table apart childless =
    ap (λ b. only_if (fits_columns def.columns row && is_same (key_of def.primary_key old) (key_of def.primary_key row) && is_there def old table && b) (fm.insert table (key_of def.primary_key row) row)) (same_parent s t new def.foreign_key row apart)
same_change (Delete u old) s t new def table apart childless =
    ap (λ b. only_if (is_there def old table && not b) (fm.remove table (key_of def.primary_key old))) (same_child s.schema s.tables t.0 new u (key_of def.primary_key old) childless)

-- the new table stays the same then
same_new : (op : Op) (s : TableState) (t : TableId) (new : Table) → (t.0 ≡ (table_of op).0 → ⊥) → is_child_of t (slice_get s.schema (table_of op).0) ≡ false → is_child_of (table_of op) (slice_get s.schema t.0) ≡ false
    → new_of (with_table s t new) (table_of op) (change_of op (with_table s t new)) ≡ new_of s (table_of op) (change_of op s)
same_new op s t new ne apart childless =
    ap (λ m. option_and_then (λ def. option_and_then (change_of op (with_table s t new) def) m) (slice_get s.schema (table_of op).0)) (get_other s.tables t.0 (table_of op).0 new ne)
    ∙ by (slice_get s.schema (table_of op).0) (slice_get s.tables (table_of op).0) apart
  where
    by : (d : Option TableDef) (m : Option Table) → is_child_of t d ≡ false → option_and_then (λ def. option_and_then (change_of op (with_table s t new) def) m) d ≡ option_and_then (λ def. option_and_then (change_of op s def) m) d
    by None m e = refl
    by (Some def) None e = refl
    by (Some def) (Some table) e = same_change op s t new def table e childless

-- in both orders the same comes of it
abbrev pub Commute : Op → Op → TableState → Type 0
Commute a b s = option_and_then (applied b) (applied a s) ≡ option_and_then (applied a) (applied b s)

-- operations on tables that have nothing to do with one another commute
pub applied_commute : (a b : Op) (s : TableState) → AreApart s.schema (table_of a) (table_of b) → Commute a b s
applied_commute a b s apart =
    ap (option_and_then (applied b)) (applied_new a s) ∙ by (new_of s (table_of a) (change_of a s)) (new_of s (table_of b) (change_of b s)) refl refl ∙ sym (ap (option_and_then (applied a)) (applied_new b s))
  where
    after_a : (x : Table) → applied b (with_table s (table_of a) x) ≡ option_map (with_table (with_table s (table_of a) x) (table_of b)) (new_of s (table_of b) (change_of b s))
    after_a x =
        applied_new b (with_table s (table_of a) x)
        ∙ ap (option_map (with_table (with_table s (table_of a) x) (table_of b))) (same_new b s (table_of a) x (unequal (table_of a).0 (table_of b).0 apart.different) apart.other apart.one)

    after_b : (y : Table) → applied a (with_table s (table_of b) y) ≡ option_map (with_table (with_table s (table_of b) y) (table_of a)) (new_of s (table_of a) (change_of a s))
    after_b y =
        applied_new a (with_table s (table_of b) y)
        ∙ ap (option_map (with_table (with_table s (table_of b) y) (table_of a))) (same_new a s (table_of b) y (unequal_back (table_of a).0 (table_of b).0 apart.different) apart.one apart.other)

    by : (x y : Option Table) → new_of s (table_of a) (change_of a s) ≡ x → new_of s (table_of b) (change_of b s) ≡ y
        → option_and_then (applied b) (option_map (with_table s (table_of a)) x) ≡ option_and_then (applied a) (option_map (with_table s (table_of b)) y)
    by None None e f = refl
    by None (Some y) e f = sym (after_b y ∙ ap (option_map (with_table (with_table s (table_of b) y) (table_of a))) e)
    by (Some x) None e f = after_a x ∙ ap (option_map (with_table (with_table s (table_of a) x) (table_of b))) f
    by (Some x) (Some y) e f =
        after_a x ∙ ap (option_map (with_table (with_table s (table_of a) x) (table_of b))) f
        ∙ ap (λ tables. Some (record { schema = s.schema; tables = tables })) (set_apart s.tables (table_of a).0 (table_of b).0 x y (unequal (table_of a).0 (table_of b).0 apart.different))
        ∙ sym (after_b y ∙ ap (option_map (with_table (with_table s (table_of b) y) (table_of a))) e)

-- a table that comes later

get_front : {X : Type 0} (xs ys : List X) (i : ℕ) (x : X) → slice_get xs i ≡ Some x → slice_get (xs ++ ys) i ≡ Some x
get_front [] ys i x e = cc
get_front (y ∷ xs) ys zero x e = e
get_front (y ∷ xs) ys (suc i) x e = get_front xs ys i x e

set_front : {X : Type 0} (xs ys : List X) (i : ℕ) (x y : X) → slice_get xs i ≡ Some x → slice_set (xs ++ ys) i y ≡ slice_set xs i y ++ ys
set_front [] ys i x y e = cc
set_front (z ∷ xs) ys zero x y e = refl
set_front (z ∷ xs) ys (suc i) x y e = ap (λ l. z ∷ l) (set_front xs ys i x y e)

-- no rows are added
rows_later : (tables : List Table) (t : ℕ) → unwrap_or (slice_get (tables ++ empty ∷ []) t) empty ≡ unwrap_or (slice_get tables t) empty
rows_later [] zero = refl
rows_later [] (suc t) = refl
rows_later (table ∷ tables) zero = refl
rows_later (table ∷ tables) (suc t) = rows_later tables t

parent_later : (def : TableDef) (s : TableState) (foreign : Option ForeignKey) (row : Row) → has_parent (with_new def s) foreign row ≡ has_parent s foreign row
parent_later def s None row = refl
parent_later def s (Some foreign) row = ap (λ m. fm.contains_key m (key_of foreign.columns row)) (rows_later s.tables foreign.parent.0)

no_values : ◌≡◌ {A = List Row} (fm.values {R = key_order} empty) []
no_values = nil_from_length (fm.values empty) (length-map (fm.entries empty) (λ e. e.1) ∙ sym (fm.len-entries empty) ∙ fm.len-empty key_order Row)

child_later : (new : TableDef) (defs : List TableDef) (tables : List Table) (t : TableId) (key : Row) → length tables ≡ length defs → has_child_in (defs ++ new ∷ []) (tables ++ empty ∷ []) t key ≡ has_child_in defs tables t key
child_later new [] [] t key e = ap (λ l. list_any (names_parent t key new.foreign_key) l || false) no_values
child_later new [] (table ∷ tables) t key e = absurd (omega arith)
child_later new (def ∷ defs) [] t key e = absurd (omega arith)
child_later new (def ∷ defs) (table ∷ tables) t key e =
    ap (λ b. list_any (names_parent t key def.foreign_key) (fm.values table) || b) (child_later new defs tables t key (omega arith))

change_later : (op : Op) (new : TableDef) (s : TableState) → IsWhole s → (def : TableDef) (table : Table) → change_of op (with_new new s) def table ≡ change_of op s def table
change_later (Insert t row) new s whole def table =
    ap (λ b. only_if (fits_columns def.columns row && not (fm.contains_key table (key_of def.primary_key row)) && b) (fm.insert table (key_of def.primary_key row) row)) (parent_later new s def.foreign_key row)
change_later (Update t old row) new s whole def table =
    ap (λ b. only_if (fits_columns def.columns row && is_same (key_of def.primary_key old) (key_of def.primary_key row) && is_there def old table && b) (fm.insert table (key_of def.primary_key row) row)) (parent_later new s def.foreign_key row)
change_later (Delete t old) new s whole def table =
    ap (λ b. only_if (is_there def old table && not b) (fm.remove table (key_of def.primary_key old))) (child_later new s.schema s.tables t (key_of def.primary_key old) whole)

-- what applied, by its parts
parts : (op : Op) (s n : TableState) → applied op s ≡ Some n →
    (def : TableDef) × (table made : Table) × (slice_get s.schema (table_of op).0 ≡ Some def) × (slice_get s.tables (table_of op).0 ≡ Some table) × (change_of op s def table ≡ Some made) × (n ≡ with_table s (table_of op) made)
parts op s n is = by (slice_get s.schema (table_of op).0) refl (slice_get s.tables (table_of op).0) refl (sym (applied_new op s) ∙ is)
  where
    last : (def : TableDef) (table : Table) → slice_get s.schema (table_of op).0 ≡ Some def → slice_get s.tables (table_of op).0 ≡ Some table → (o : Option Table) → change_of op s def table ≡ o → option_map (with_table s (table_of op)) o ≡ Some n
        → (def : TableDef) × (table made : Table) × (slice_get s.schema (table_of op).0 ≡ Some def) × (slice_get s.tables (table_of op).0 ≡ Some table) × (change_of op s def table ≡ Some made) × (n ≡ with_table s (table_of op) made)
    last def table d m None e h = cc
    last def table d m (Some made) e h = let same : with_table s (table_of op) made ≡ n = cc in (def, table, made, d, m, e, sym same)

    by : (d : Option TableDef) → slice_get s.schema (table_of op).0 ≡ d → (m : Option Table) → slice_get s.tables (table_of op).0 ≡ m → option_map (with_table s (table_of op)) (option_and_then (λ def. option_and_then (change_of op s def) m) d) ≡ Some n
        → (def : TableDef) × (table made : Table) × (slice_get s.schema (table_of op).0 ≡ Some def) × (slice_get s.tables (table_of op).0 ≡ Some table) × (change_of op s def table ≡ Some made) × (n ≡ with_table s (table_of op) made)
    by None d_is m m_is h = cc
    by (Some def) d_is None m_is h = cc
    by (Some def) d_is (Some table) m_is h = last def table d_is m_is (change_of op s def table) refl h

-- an operation keeps a table for each definition
pub stays_whole : (op : Op) (s n : TableState) → applied op s ≡ Some n → IsWhole s → IsWhole n
stays_whole op s n is whole =
    let (def, table, made, d, m, e, n_is) = parts op s n is in
    ap (λ x. length x.tables) n_is ∙ length-set s.tables (table_of op).0 made ∙ whole ∙ sym (ap (λ x. length x.schema) n_is)

-- what applies does so with a table behind the others, and gives the same with that table
pub applied_later : (op : Op) (def : TableDef) (s n : TableState) → IsWhole s → applied op s ≡ Some n → applied op (with_new def s) ≡ Some (with_new def n)
applied_later op new s n whole is =
    let (def, table, made, d, m, e, n_is) = parts op s n is in
    let d_later : slice_get (s.schema ++ new ∷ []) (table_of op).0 ≡ Some def = get_front s.schema (new ∷ []) (table_of op).0 def d in
    let m_later : slice_get (s.tables ++ empty ∷ []) (table_of op).0 ≡ Some table = get_front s.tables (empty ∷ []) (table_of op).0 table m in
    let made_later : change_of op (with_new new s) def table ≡ Some made = change_later op new s whole def table ∙ e in
    applied_new op (with_new new s)
    ∙ ap (λ o. option_map (with_table (with_new new s) (table_of op)) (option_and_then (λ x. option_and_then (change_of op (with_new new s) x) (slice_get (s.tables ++ empty ∷ []) (table_of op).0)) o)) d_later
    ∙ ap (λ o. option_map (with_table (with_new new s) (table_of op)) (option_and_then (change_of op (with_new new s) def) o)) m_later
    ∙ ap (option_map (with_table (with_new new s) (table_of op))) made_later
    ∙ ap (λ tables. Some (record { schema = s.schema ++ new ∷ []; tables = tables })) (set_front s.tables (empty ∷ []) (table_of op).0 table made m)
    ∙ ap (λ x. Some (with_new new x)) (sym n_is)

pub all_later : (ops : List Op) (def : TableDef) (s n : TableState) → IsWhole s → applied_all ops s ≡ Some n → applied_all ops (with_new def s) ≡ Some (with_new def n)
all_later [] def s n whole is = let same : s ≡ n = cc in ap (λ x. Some (with_new def x)) same
all_later (op ∷ ops) def s n whole is = by (applied op s) refl is (λ t. all_later ops def t n)
  where
    by : (o : Option TableState) → applied op s ≡ o → option_and_then (applied_all ops) o ≡ Some n → ((t : TableState) → IsWhole t → applied_all ops t ≡ Some n → applied_all ops (with_new def t) ≡ Some (with_new def n))
        → option_and_then (applied_all ops) (applied op (with_new def s)) ≡ Some (with_new def n)
    by None e h rest = cc
    by (Some t) e h rest = ap (option_and_then (applied_all ops)) (applied_later op def s t whole e) ∙ rest t (stays_whole op s t e whole) h

pub all_whole : (ops : List Op) (s n : TableState) → applied_all ops s ≡ Some n → IsWhole s → IsWhole n
all_whole [] s n is whole = let same : s ≡ n = cc in subst IsWhole same whole
all_whole (op ∷ ops) s n is whole = by (applied op s) refl is (λ t. all_whole ops t n)
  where
    by : (o : Option TableState) → applied op s ≡ o → option_and_then (applied_all ops) o ≡ Some n → ((t : TableState) → applied_all ops t ≡ Some n → IsWhole t → IsWhole n) → IsWhole n
    by None e h rest = cc
    by (Some t) e h rest = rest t h (stays_whole op s t e whole)

-- a history leaves a table for each definition
pub entry_whole : (entry : Entry) (s n : TableState) → after_entry entry s ≡ Some n → IsWhole s → IsWhole n
entry_whole (Definition def) s n is whole =
    let same : with_new def s ≡ n = cc in
    subst IsWhole same (length-append s.tables (empty ∷ []) ∙ ap (λ k. k + 1) whole ∙ sym (length-append s.schema (def ∷ [])))
entry_whole (Foreign ops) s n is whole = all_whole ops s n is whole
entry_whole (Own ticket ops) s n is whole = all_whole ops s n is whole

pub history_whole : (entries : List Entry) (s n : TableState) → state_from entries s ≡ Some n → IsWhole s → IsWhole n
history_whole [] s n is whole = let same : s ≡ n = cc in subst IsWhole same whole
history_whole (entry ∷ entries) s n is whole = by (after_entry entry s) refl is (λ t. history_whole entries t n)
  where
    by : (o : Option TableState) → after_entry entry s ≡ o → option_and_then (state_from entries) o ≡ Some n → ((t : TableState) → state_from entries t ≡ Some n → IsWhole t → IsWhole n) → IsWhole n
    by None e h rest = cc
    by (Some t) e h rest = rest t h (entry_whole entry s t e whole)

-- an operation keeps the schema
pub stays_defined : (op : Op) (s n : TableState) → applied op s ≡ Some n → n.schema ≡ s.schema
stays_defined op s n is =
    let (def, table, made, d, m, e, n_is) = parts op s n is in
    ap (λ x. x.schema) n_is

-- and the rows of each other table
pub stays_beside : (op : Op) (t : TableId) (s n : TableState) → nat_eq (table_of op).0 t.0 ≡ false → applied op s ≡ Some n → table_at n t ≡ table_at s t
stays_beside op t s n other is =
    let (def, table, made, d, m, e, n_is) = parts op s n is in
    ap (λ x. table_at x t) n_is ∙ ap (λ o. unwrap_or o empty) (get_other s.tables (table_of op).0 t.0 made (unequal (table_of op).0 t.0 other))

-- where both apply, the other applies behind the one
pub applies_behind : (a b : Op) (s x y : TableState) → AreApart s.schema (table_of a) (table_of b) → applied a s ≡ Some x → applied b s ≡ Some y → (z : TableState) × (applied b x ≡ Some z)
applies_behind a b s x y apart a_is b_is =
    let (def_a, table_a, made_a, d_a, m_a, e_a, x_is) = parts a s x a_is in
    by_new (new_of s (table_of b) (change_of b s)) refl made_a x_is (sym (applied_new b s) ∙ b_is)
  where
    by_new : (o : Option Table) → new_of s (table_of b) (change_of b s) ≡ o → (made : Table) → x ≡ with_table s (table_of a) made → option_map (with_table s (table_of b)) o ≡ Some y → (z : TableState) × (applied b x ≡ Some z)
    by_new None e made x_is h = cc
    by_new (Some new) e made x_is h = (
      with_table (with_table s (table_of a) made) (table_of b) new,
      ap (applied b) x_is ∙ applied_new b (with_table s (table_of a) made)
          ∙ ap (option_map (with_table (with_table s (table_of a) made) (table_of b))) (same_new b s (table_of a) made (unequal (table_of a).0 (table_of b).0 apart.different) apart.other apart.one ∙ e),
    )
