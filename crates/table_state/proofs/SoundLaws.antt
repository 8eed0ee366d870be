-- Operations and definitions leave a table state.
use Rattle.std.proofs.Common.{◌≡◌, ◌<◌, ℕ, zero, suc, ◌+◌, Bool, true, false, ◌&&◌, ◌||◌, cond, Option, Some, None, is_some, T, List, [], ◌∷◌, ◌++◌, ◌⊎◌, inl, inr, length, map, slice_get, slice_set, unwrap_or, nat_eq, refl, sym, ap, subst, ◌∙◌, arith}
use Rattle.std.proofs.lemmas.Bool.{eq-eqb}
use Rattle.std.proofs.lemmas.List.{length-append, length-set}
use Rattle.std.specs.List.{list_any}
use Rattle.std.specs.Option.{option_and_then, option_map}
use Rattle.std.specs.Ordering.{eq_by_cmp, is_eq}
use Rattle.std.specs.declared.cmp.Ordering.{Ordering}
use Rattle.std.specs.declared.cmp.Ordering.TheVariants.{Less, Equal, Greater}
use Rattle.std.specs.FinMap.{contains_key, empty, entries, find, get, get-empty, get-entries, get-insert, get-remove, insert, remove, values}
use Rattle.table_defs.specs.row_types.specs.declared.value.Value.{Value}
use Rattle.table_defs.specs.row_types.specs.Order.{key_order}
use Rattle.table_defs.specs.row_types.proofs.OrderLaws.{key_exact, key_total}
use Rattle.table_defs.specs.tier_base.specs.declared.number.TableId.{TableId}
use Rattle.table_defs.specs.declared.definition.ForeignKey.{ForeignKey}
use Rattle.table_defs.specs.declared.definition.TableDef.{TableDef}
use Rattle.indexed_rows.specs.Rows.{Table, is_same, key_of}
use Rattle.table_state.specs.declared.operation.Op.{Op}
use Rattle.table_state.specs.declared.operation.Op.TheVariants.{Delete, Insert, Update}
use Rattle.table_state.specs.Independence.{IsWhole, with_new}
use Rattle.table_state.specs.Operations.{applied, applied_all, on_table, with_change, with_row, without_row}
use Rattle.table_state.specs.Sound.{HasFittingRows, IsLinked, IsTableState, IsUnderKeys, RefersBack}
use Rattle.table_state.specs.Tables.{TableState, fits_columns, has_child, has_child_in, has_parent, names_parent, table_at}
use Rattle.table_state.proofs.AppliedLaws.{Deleted, Inserted, Updated, decided, deleted, inserted, same_is, updated}
use Rattle.table_state.proofs.IndependenceLaws.{stays_whole}

abbrev Row : Type 0
Row = List Value

-- a parent that is there stays where no key goes
still_there : (s new : TableState) → ((u : TableId) (k : Row) → contains_key (table_at s u) k ≡ true → contains_key (table_at new u) k ≡ true) → (f : Option ForeignKey) (row : Row) → has_parent s f row ≡ true → has_parent new f row ≡ true
still_there s new more None row e = e
still_there s new more (Some f) row e = more f.parent (key_of f.columns row) e

module _ (s new : TableState) (t : TableId) (key row : Row) (here : table_at new t ≡ insert (table_at s t) key row) (others : (u : TableId) → (u.0 ≡ t.0 → ⊥) → table_at new u ≡ table_at s u) where
  of_table : (u : TableId) (k : Row) → u.0 ≡ t.0 → get (table_at new u) k ≡ cond (is_same k key) (Some row) (get (table_at s u) k)
  of_table u k e =
      ap (λ j. get (unwrap_or (slice_get new.tables j) empty) k) e ∙ ap (λ x. get x k) here ∙ get-insert key_total (table_at s t) key row k
      ∙ ap (λ v. cond (is_same k key) (Some row) v) (ap (λ j. get (unwrap_or (slice_get s.tables j) empty) k) (sym e))

  more_keys : (u : TableId) (k : Row) → contains_key (table_at s u) k ≡ true → contains_key (table_at new u) k ≡ true
  more_keys u k c = elim (decided u.0 t.0) [
    | inl e ↦ ap is_some (of_table u k e) ∙ by (is_same k key)
    | inr n ↦ ap (λ x. contains_key x k) (others u n) ∙ c
  ]
    where
      by : (b : Bool) → is_some (cond b (Some row) (get (table_at s u) k)) ≡ true
      by true = refl
      by false = c

  pub written : (schema : new.schema ≡ s.schema) → ((def : TableDef) → slice_get s.schema t.0 ≡ Some def → has_parent s def.foreign_key row ≡ true) → IsLinked s → IsLinked new
  written schema parent linked u def k r d is = still_there s new more_keys def.foreign_key r (elim (decided u.0 t.0) [
    | inl e ↦ by e (is_same k key) (sym (of_table u k e) ∙ is)
    | inr n ↦ linked u def k r in_s (ap (λ x. get x k) (sym (others u n)) ∙ is)
  ])
    where
      in_s : slice_get s.schema u.0 ≡ Some def
      in_s = ap (λ x. slice_get x u.0) (sym schema) ∙ d

      by : u.0 ≡ t.0 → (b : Bool) → cond b (Some row) (get (table_at s u) k) ≡ Some r → has_parent s def.foreign_key r ≡ true
      by e true h = let x : row ≡ r = cc in ap (has_parent s def.foreign_key) (sym x) ∙ parent def (ap (slice_get s.schema) (sym e) ∙ in_s)
      by e false h = linked u def k r in_s h

-- a row of a table without a row that passes
none_passes : (test : Row → Bool) (es : List (Row × Row)) (k row : Row) → find key_order k es ≡ Some row → list_any test (map (λ e. e.1) es) ≡ false → test row ≡ false
none_passes test [] k row e h = cc
none_passes test (x ∷ es) k row e h = by (is_eq (key_order k x.0)) (test x.1) refl e h (none_passes test es k row)
  where
    by : (a b : Bool) → test x.1 ≡ b → cond a (Some x.1) (find key_order k es) ≡ Some row → (test x.1 || list_any test (map (λ e. e.1) es)) ≡ false
        → (find key_order k es ≡ Some row → list_any test (map (λ e. e.1) es) ≡ false → test row ≡ false) → test row ≡ false
    by true true is e h further = let y : true ≡ false = sym (ap (λ b. b || list_any test (map (λ e. e.1) es)) is) ∙ h in cc
    by true false is e h further = let y : x.1 ≡ row = cc in ap test (sym y) ∙ is
    by false true is e h further = let y : true ≡ false = sym (ap (λ b. b || list_any test (map (λ e. e.1) es)) is) ∙ h in cc
    by false false is e h further = further e (sym (ap (λ b. b || list_any test (map (λ e. e.1) es)) is) ∙ h)

not_in_empty : (k row : Row) → get (empty {R = key_order}) k ≡ Some row → ⊥
not_in_empty k row e = let x : None ≡ Some row = sym (get-empty key_order k) ∙ e in cc

no_child : (schema : List TableDef) (tables : List Table) (t : TableId) (key : Row) → has_child_in schema tables t key ≡ false → (u : ℕ) (def : TableDef) (k row : Row) → slice_get schema u ≡ Some def → get (unwrap_or (slice_get tables u) empty) k ≡ Some row
    → names_parent t key def.foreign_key row ≡ false
no_child [] tables t key h u def k row d is = cc
no_child (f ∷ defs) [] t key h u def k row d is = absurd (not_in_empty k row is)
no_child (f ∷ defs) (table ∷ tables) t key h zero def k row d is =
    let x : f ≡ def = cc in
    ap (λ (g : TableDef). names_parent t key g.foreign_key row) (sym x) ∙ none_passes (names_parent t key f.foreign_key) (entries table) k row (sym (get-entries table k) ∙ is) (left_none (list_any (names_parent t key f.foreign_key) (values table)) (has_child_in defs tables t key) h)
  where
    left_none : (a b : Bool) → (a || b) ≡ false → a ≡ false
    left_none true b e = cc
    left_none false b e = refl
no_child (f ∷ defs) (table ∷ tables) t key h (suc u) def k row d is = no_child defs tables t key (right_none (list_any (names_parent t key f.foreign_key) (values table)) (has_child_in defs tables t key) h) u def k row d is
  where
    right_none : (a b : Bool) → (a || b) ≡ false → b ≡ false
    right_none true b e = cc
    right_none false b e = e

module _ (s new : TableState) (t : TableId) (key : Row) (i : Deleted s new t key) where
  fewer : (u : TableId) (k : Row) → u.0 ≡ t.0 → get (table_at new u) k ≡ cond (is_same k key) None (get (table_at s u) k)
  fewer u k e =
      ap (λ j. get (unwrap_or (slice_get new.tables j) empty) k) e ∙ ap (λ x. get x k) i.here ∙ get-remove key_total (table_at s t) key k
      ∙ ap (λ v. cond (is_same k key) None v) (ap (λ j. get (unwrap_or (slice_get s.tables j) empty) k) (sym e))

  was_there : (u : TableId) (k r : Row) → get (table_at new u) k ≡ Some r → get (table_at s u) k ≡ Some r
  was_there u k r is = elim (decided u.0 t.0) [
    | inl e ↦ by (is_same k key) (sym (fewer u k e) ∙ is)
    | inr n ↦ ap (λ x. get x k) (sym (i.others u n)) ∙ is
  ]
    where
      by : (b : Bool) → cond b None (get (table_at s u) k) ≡ Some r → get (table_at s u) k ≡ Some r
      by true h = cc
      by false h = h

  -- a parent that isn't the deleted row stays
  parent_stays : (f : Option ForeignKey) (r : Row) → names_parent t key f r ≡ false → has_parent s f r ≡ true → has_parent new f r ≡ true
  parent_stays None r n e = e
  parent_stays (Some f) r n e = elim (decided f.parent.0 t.0) [
    | inl x ↦
        let apart : is_same (key_of f.columns r) key ≡ false = sym (ap (λ b. b && is_same (key_of f.columns r) key) (eq-eqb t.0 f.parent.0 (sym x))) ∙ n in
        ap is_some (fewer f.parent (key_of f.columns r) x) ∙ ap (λ b. is_some (cond b None (get (table_at s f.parent) (key_of f.columns r)))) apart ∙ e
    | inr d ↦ ap (λ x. contains_key x (key_of f.columns r)) (i.others f.parent d) ∙ e
  ]

  pub taken : IsLinked s → IsLinked new
  taken linked u def k r d is =
      let in_s : slice_get s.schema u.0 ≡ Some def = ap (λ x. slice_get x u.0) (sym i.schema) ∙ d in
      let there = was_there u k r is in
      parent_stays def.foreign_key r (no_child s.schema s.tables t key i.childless u.0 def k r in_s there) (linked u def k r in_s there)

-- an operation that applies has a definition of its table
defined : (s new : TableState) (t : TableId) (change : TableDef → Table → Option Table) → on_table s t change ≡ Some new → (def : TableDef) × (slice_get s.schema t.0 ≡ Some def)
defined s new t change is = by (slice_get s.schema t.0) refl is
  where
    by : (o : Option TableDef) → slice_get s.schema t.0 ≡ o → option_and_then (λ def. option_and_then (λ table. option_map (λ next. record { schema = s.schema; tables = slice_set s.tables t.0 next }) (change def table)) (slice_get s.tables t.0)) o ≡ Some new
        → (def : TableDef) × (slice_get s.schema t.0 ≡ Some def)
    by None d h = cc
    by (Some def) d h = (def, d)

pub keeps_linked : (op : Op) (s new : TableState) → applied op s ≡ Some new → IsLinked s → IsLinked new
keeps_linked (Insert t row) s new is linked =
    let d = defined s new t (with_row s row) is in
    let i = inserted s new t d.0 row is d.1 in
    written s new t (key_of d.0.primary_key row) row i.here i.others i.schema i.parent linked
keeps_linked (Update t old row) s new is linked =
    let d = defined s new t (with_change s old row) is in
    let i = updated s new t d.0 old row is d.1 in
    written s new t (key_of d.0.primary_key row) row i.here i.others i.schema i.parent linked
keeps_linked (Delete t old) s new is linked =
    let d = defined s new t (without_row s t old) is in
    taken s new t (key_of d.0.primary_key old) (deleted s new t d.0 old is d.1) linked

-- the rows of one table with one put in, or one taken out, stand under their keys
insert_under : (places : List ℕ) (m : Table) (row : Row) → IsUnderKeys places m → IsUnderKeys places (insert m (key_of places row) row)
insert_under places m row under key found h = by (key_order key (key_of places row)) refl (sym (get-insert key_total m (key_of places row) row key) ∙ h)
  where
    by : (o : Ordering) → key_order key (key_of places row) ≡ o → cond (is_eq o) (Some row) (get m key) ≡ Some found → key_of places found ≡ key
    by Less e h = under key found h
    by Equal e h = let same : row ≡ found = cc in ap (key_of places) (sym same) ∙ sym (key_exact key (key_of places row) e)
    by Greater e h = under key found h

remove_under : (places : List ℕ) (m : Table) (gone : Row) → IsUnderKeys places m → IsUnderKeys places (remove m gone)
remove_under places m gone under key found h = by (eq_by_cmp key_order key gone) (sym (get-remove key_total m gone key) ∙ h)
  where
    by : (b : Bool) → cond b None (get m key) ≡ Some found → key_of places found ≡ key
    by true h = cc
    by false h = under key found h

same_def : (schema : List TableDef) (i j : ℕ) (def other : TableDef) → i ≡ j → slice_get schema i ≡ Some def → slice_get schema j ≡ Some other → def ≡ other
same_def schema i j def other e d o = let x : Some def ≡ Some other = sym d ∙ ap (slice_get schema) e ∙ o in cc

at_place : (s : TableState) (u t : TableId) → u.0 ≡ t.0 → table_at s u ≡ table_at s t
at_place s u t e = ap (λ j. unwrap_or (slice_get s.tables j) empty) e

-- what a row that was put in leaves
module _ (s new : TableState) (t : TableId) (def : TableDef) (row : Row) (d : slice_get s.schema t.0 ≡ Some def) (schema : new.schema ≡ s.schema)
    (here : table_at new t ≡ insert (table_at s t) (key_of def.primary_key row) row) (others : (u : TableId) → (u.0 ≡ t.0 → ⊥) → table_at new u ≡ table_at s u) where
  put_keys : ((u : TableId) (f : TableDef) → slice_get s.schema u.0 ≡ Some f → IsUnderKeys f.primary_key (table_at s u)) → (u : TableId) (f : TableDef) → slice_get new.schema u.0 ≡ Some f → IsUnderKeys f.primary_key (table_at new u)
  put_keys keys u f e = elim (decided u.0 t.0) [
    | inl same ↦
        let is : def ≡ f = same_def s.schema t.0 u.0 def f (sym same) d in_s in
        subst (IsUnderKeys f.primary_key) (sym (at_place new u t same ∙ here))
        (subst (λ (g : TableDef). IsUnderKeys g.primary_key (insert (table_at s t) (key_of def.primary_key row) row)) is (insert_under def.primary_key (table_at s t) row (keys t def d)))
    | inr apart ↦ subst (IsUnderKeys f.primary_key) (sym (others u apart)) (keys u f in_s)
  ]
    where
      in_s : slice_get s.schema u.0 ≡ Some f
      in_s = ap (λ x. slice_get x u.0) (sym schema) ∙ e

  put_fits : fits_columns def.columns row ≡ true → HasFittingRows s → HasFittingRows new
  put_fits fit all u f key found e is = elim (decided u.0 t.0) [
    | inl same ↦ by same (is_same key (key_of def.primary_key row)) (sym (of_table s new t (key_of def.primary_key row) row here others u key same) ∙ is)
    | inr apart ↦ all u f key found in_s (ap (λ x. get x key) (sym (others u apart)) ∙ is)
  ]
    where
      in_s : slice_get s.schema u.0 ≡ Some f
      in_s = ap (λ x. slice_get x u.0) (sym schema) ∙ e

      by : u.0 ≡ t.0 → (b : Bool) → cond b (Some row) (get (table_at s u) key) ≡ Some found → fits_columns f.columns found ≡ true
      by same true h =
          let x : row ≡ found = cc in
          let is : def ≡ f = same_def s.schema t.0 u.0 def f (sym same) d in_s in
          ap (λ (g : TableDef). fits_columns g.columns found) (sym is) ∙ ap (fits_columns def.columns) (sym x) ∙ fit
      by same false h = all u f key found in_s h

-- what a row that was taken out leaves
module _ (s new : TableState) (t : TableId) (key : Row) (i : Deleted s new t key) where
  less_keys : ((u : TableId) (f : TableDef) → slice_get s.schema u.0 ≡ Some f → IsUnderKeys f.primary_key (table_at s u)) → (u : TableId) (f : TableDef) → slice_get new.schema u.0 ≡ Some f → IsUnderKeys f.primary_key (table_at new u)
  less_keys keys u f e = elim (decided u.0 t.0) [
    | inl same ↦ subst (IsUnderKeys f.primary_key) (sym (at_place new u t same ∙ i.here)) (remove_under f.primary_key (table_at s t) key (subst (IsUnderKeys f.primary_key) (at_place s u t same) (keys u f in_s)))
    | inr apart ↦ subst (IsUnderKeys f.primary_key) (sym (i.others u apart)) (keys u f in_s)
  ]
    where
      in_s : slice_get s.schema u.0 ≡ Some f
      in_s = ap (λ x. slice_get x u.0) (sym i.schema) ∙ e

  less_fits : HasFittingRows s → HasFittingRows new
  less_fits all u f k found e is = all u f k found (ap (λ x. slice_get x u.0) (sym i.schema) ∙ e) (was_there s new t key i u k found is)

keeps_back : (s new : TableState) → new.schema ≡ s.schema → ((t : ℕ) (def : TableDef) → slice_get s.schema t ≡ Some def → RefersBack t def) → (t : ℕ) (def : TableDef) → slice_get new.schema t ≡ Some def → RefersBack t def
keeps_back s new schema back t def e = back t def (ap (λ x. slice_get x t) (sym schema) ∙ e)

pub op_sound : (op : Op) (s new : TableState) → applied op s ≡ Some new → IsTableState s → IsTableState new
op_sound (Insert t row) s new is a =
    let d = defined s new t (with_row s row) is in
    let i = inserted s new t d.0 row is d.1 in
    record {
      whole = stays_whole (Insert t row) s new is a.whole;
      back = keeps_back s new i.schema a.back;
      keys = put_keys s new t d.0 row d.1 i.schema i.here i.others a.keys;
      fits = put_fits s new t d.0 row d.1 i.schema i.here i.others (i.fits d.0 d.1) a.fits;
      linked = keeps_linked (Insert t row) s new is a.linked;
    }
op_sound (Update t old row) s new is a =
    let d = defined s new t (with_change s old row) is in
    let i = updated s new t d.0 old row is d.1 in
    record {
      whole = stays_whole (Update t old row) s new is a.whole;
      back = keeps_back s new i.schema a.back;
      keys = put_keys s new t d.0 row d.1 i.schema i.here i.others a.keys;
      fits = put_fits s new t d.0 row d.1 i.schema i.here i.others (i.fits d.0 d.1) a.fits;
      linked = keeps_linked (Update t old row) s new is a.linked;
    }
op_sound (Delete t old) s new is a =
    let d = defined s new t (without_row s t old) is in
    let i = deleted s new t d.0 old is d.1 in
    record {
      whole = stays_whole (Delete t old) s new is a.whole;
      back = keeps_back s new i.schema a.back;
      keys = less_keys s new t (key_of d.0.primary_key old) i a.keys;
      fits = less_fits s new t (key_of d.0.primary_key old) i a.fits;
      linked = keeps_linked (Delete t old) s new is a.linked;
    }

pub ops_sound : (ops : List Op) (s new : TableState) → applied_all ops s ≡ Some new → IsTableState s → IsTableState new
ops_sound [] s new is a = let same : s ≡ new = cc in subst IsTableState same a
ops_sound (op ∷ ops) s new is a = by (applied op s) refl is (λ t. ops_sound ops t new)
  where
    by : (o : Option TableState) → applied op s ≡ o → option_and_then (applied_all ops) o ≡ Some new → ((t : TableState) → applied_all ops t ≡ Some new → IsTableState t → IsTableState new) → IsTableState new
    by None e h rest = cc
    by (Some t) e h rest = rest t h (op_sound op s t e a)

-- a list with one more behind: an element of it, or that one at its end
last_cases : {X : Type 0} (xs : List X) (x : X) (i : ℕ) (y : X) → slice_get (xs ++ x ∷ []) i ≡ Some y → (slice_get xs i ≡ Some y) ⊎ ((i ≡ length xs) × (x ≡ y))
last_cases [] x zero y h = inr (refl, cc)
last_cases [] x (suc i) y h = cc
last_cases (z ∷ xs) x zero y h = inl h
last_cases (z ∷ xs) x (suc i) y h = elim (last_cases xs x i y h) [ inl e ↦ inl e | inr e ↦ inr (ap suc e.0, e.1) ]

-- a table without rows behind the others changes no table
get_behind : (tables : List Table) (i : ℕ) → unwrap_or (slice_get (tables ++ empty ∷ []) i) empty ≡ unwrap_or (slice_get tables i) empty
get_behind [] zero = refl
get_behind [] (suc i) = refl
get_behind (table ∷ tables) zero = refl
get_behind (table ∷ tables) (suc i) = get_behind tables i

past_end : (tables : List Table) (i : ℕ) → i ≡ length tables → unwrap_or (slice_get tables i) empty ≡ empty
past_end [] zero e = refl
past_end [] (suc i) e = refl
past_end (table ∷ tables) zero e = absurd (omega arith)
past_end (table ∷ tables) (suc i) e = past_end tables i (omega arith)

not_there : (m : Table) (k row : Row) → m ≡ empty → get m k ≡ Some row → ⊥
not_there m k row e h = not_in_empty k row (ap (λ x. get x k) (sym e) ∙ h)

same_parent : (def : TableDef) (s : TableState) (f : Option ForeignKey) (row : Row) → has_parent s f row ≡ true → has_parent (with_new def s) f row ≡ true
same_parent def s None row e = e
same_parent def s (Some f) row e = ap (λ x. contains_key x (key_of f.columns row)) (get_behind s.tables f.parent.0) ∙ e

pub new_sound : (def : TableDef) (s : TableState) → RefersBack (length s.schema) def → IsTableState s → IsTableState (with_new def s)
new_sound def s back a = record {
  whole = length-append s.tables (empty ∷ []) ∙ ap (λ n. n + 1) a.whole ∙ sym (length-append s.schema (def ∷ []));
  back = λ t f e. elim (last_cases s.schema def t f e) [
    | inl old ↦ a.back t f old
    | inr new ↦ subst (λ n. RefersBack n f) (sym new.0) (subst (RefersBack (length s.schema)) new.1 back)
  ];
  keys = λ t f e. elim (last_cases s.schema def t.0 f e) [
    | inl old ↦ subst (IsUnderKeys f.primary_key) (sym (get_behind s.tables t.0)) (a.keys t f old)
    | inr new ↦ λ key row h. absurd (not_there (table_at (with_new def s) t) key row (empty_at t new.0) h)
  ];
  fits = λ t f key row e h. elim (last_cases s.schema def t.0 f e) [
    | inl old ↦ a.fits t f key row old (ap (λ x. get x key) (sym (get_behind s.tables t.0)) ∙ h)
    | inr new ↦ absurd (not_there (table_at (with_new def s) t) key row (empty_at t new.0) h)
  ];
  linked = λ t f key row e h. elim (last_cases s.schema def t.0 f e) [
    | inl old ↦ same_parent def s f.foreign_key row (a.linked t f key row old (ap (λ x. get x key) (sym (get_behind s.tables t.0)) ∙ h))
    | inr new ↦ absurd (not_there (table_at (with_new def s) t) key row (empty_at t new.0) h)
  ];
}
  where
    empty_at : (t : TableId) → t.0 ≡ length s.schema → table_at (with_new def s) t ≡ empty
    empty_at t e = get_behind s.tables t.0 ∙ past_end s.tables t.0 (e ∙ sym a.whole)

pub none_sound : IsTableState (record { schema = []; tables = [] })
none_sound = record {
  whole = refl;
  back = λ t f e. cc;
  keys = λ t f e. cc;
  fits = λ t f key row e h. cc;
  linked = λ t f key row e h. cc;
}
