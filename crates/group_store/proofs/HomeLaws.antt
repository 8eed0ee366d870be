-- Where tables are kept, and what is shown of them.
use Rattle.std.proofs.Common.{◌≡◌, ℕ, zero, suc, ◌+◌, ◌<◌, ◌≤◌, Bool, true, false, not, cond, nat_lt, List, [], ◌∷◌, ◌++◌, length, drop, slice_get, Option, Some, None, unwrap_or, refl, sym, ap, subst, ◌∙◌, arith, inl, inr}
use Rattle.std.proofs.lemmas.Bool.{cases_lt, ltb-true}
use Rattle.std.specs.Option.{option_and_then, option_map, option_or}
use Rattle.std.specs.List.{position, prefix_len}
use Rattle.std.specs.FinMap as fm
use Rattle.slot_rows.specs.row_types.specs.declared.value.Value.{Value}
use Rattle.slot_rows.specs.tier_base.specs.declared.number.TableId.{TableId}
use Rattle.cache_store.specs.table_defs.specs.declared.definition.TableDef.{TableDef}
use Rattle.slot_rows.specs.row_types.specs.Order.{key_order}
use Rattle.std.proofs.lemmas.List.{length-map}
use Rattle.slot_rows.specs.indexed_rows.specs.Rows.{Table, first_from}
use Rattle.slot_rows.specs.indexed_rows.proofs.FirstLaws.{no_more}
use Rattle.group_store.proofs.ChildLaws.{past_rows}
use Rattle.cache_store.specs.table_state.specs.Tables.{TableState, table_at}
use Rattle.cache_store.specs.instances.specs.Trees.{same_table}
use Rattle.cache_store.specs.instances.specs.Views.{kept_at}
use Rattle.group_store.specs.Shown.{AreHoused, ShowsTable, foreign_key_of, home_from, home_of, homes_from, kept_rows, stored_rows, shown_by, tables_by}
use Rattle.group_store.specs.Stores.{Kept, foreign_columns, place_in}
use Rattle.group_store.specs.Trees.{Layer}
use Rattle.group_store.specs.declared.directory.Home.{Home}

-- one home more
pub one_home : (stores : List Kept) (number n : ℕ) → homes_from stores number (n + 1) ≡ homes_from stores number n ++ home_of stores (record { 0 = number + n }) ∷ []
one_home stores number zero = let z : number ≡ number + zero = omega arith in ap (λ m. home_of stores (record { 0 = m }) ∷ []) z
one_home stores number (suc n) =
    let z : suc number + n ≡ number + suc n = omega arith in
    let one : suc n + 1 ≡ suc (n + 1) = omega arith in
    ap (homes_from stores number) one ∙ ap (λ l. home_of stores (record { 0 = number }) ∷ l) (one_home stores (suc number) n ∙ ap (λ m. homes_from stores (suc number) n ++ home_of stores (record { 0 = m }) ∷ []) z)

home_at : (stores : List Kept) (number n i : ℕ) → i < n → slice_get (homes_from stores number n) i ≡ Some (home_of stores (record { 0 = number + i }))
home_at stores number zero i lt = absurd (omega (arith, lt))
home_at stores number (suc n) zero lt = let z : number ≡ number + zero = omega arith in ap (λ m. Some (home_of stores (record { 0 = m }))) z
home_at stores number (suc n) (suc i) lt = let z : suc number + i ≡ number + suc i = omega arith in home_at stores (suc number) n i (omega (arith, lt)) ∙ ap (λ m. Some (home_of stores (record { 0 = m }))) z

no_home : (stores : List Kept) (number n i : ℕ) → n ≤ i → slice_get (homes_from stores number n) i ≡ None
no_home stores number zero zero le = refl
no_home stores number zero (suc i) le = refl
no_home stores number (suc n) zero le = absurd (omega (arith, le))
no_home stores number (suc n) (suc i) le = no_home stores (suc number) n i (omega (arith, le))

-- the tables that are shown
table_by : (rows : TableId → Table) (number : ℕ) (defs : List TableDef) (i : ℕ) → i < length defs → slice_get (tables_by rows number defs) i ≡ Some (rows (record { 0 = number + i }))
table_by rows number [] i lt = absurd (omega (arith, lt))
table_by rows number (def ∷ defs) zero lt = let z : number ≡ number + zero = omega arith in ap (λ m. Some (rows (record { 0 = m }))) z
table_by rows number (def ∷ defs) (suc i) lt = let z : suc number + i ≡ number + suc i = omega arith in table_by rows (suc number) defs i (omega (arith, lt)) ∙ ap (λ m. Some (rows (record { 0 = m }))) z

no_table_by : (rows : TableId → Table) (number : ℕ) (defs : List TableDef) (i : ℕ) → length defs ≤ i → slice_get (tables_by rows number defs) i ≡ None
no_table_by rows number [] zero le = refl
no_table_by rows number [] (suc i) le = refl
no_table_by rows number (def ∷ defs) zero le = absurd (omega (arith, le))
no_table_by rows number (def ∷ defs) (suc i) le = no_table_by rows (suc number) defs i (omega (arith, le))

-- a home that was found
pub record Housed (stores : List Kept) (t : TableId) (number : ℕ) (home : Home) : Type 0 where
  pub store : Kept
  pub i : ℕ
  pub is : home.store ≡ number + i
  pub there : slice_get stores i ≡ Some store
  pub place : place_in store t ≡ Some home.place
  pub rows : kept_rows stores t ≡ Some (kept_at store.tables home.place)

housed : (stores : List Kept) (t : TableId) (number : ℕ) (home : Home) → home_from number stores t ≡ Some home → Housed stores t number home
housed [] t number home e = cc
housed (s ∷ stores) t number home e = by (place_in s t) refl e (housed stores t (suc number) home)
  where
    by : (o : Option ℕ) → place_in s t ≡ o → option_or (option_map (λ place. record { store = number; place = place }) o) (home_from (suc number) stores t) ≡ Some home
        → (home_from (suc number) stores t ≡ Some home → Housed stores t (suc number) home) → Housed (s ∷ stores) t number home
    by None f e rest =
        let r = rest e in
        record {
          store = r.store;
          i = suc r.i;
          is = (let x = r.is in omega (arith, x));
          there = r.there;
          place = r.place;
          rows = ap (λ o. option_or (option_map (kept_at s.tables) o) (kept_rows stores t)) f ∙ r.rows;
        }
    by (Some place) f e rest =
        let h : Home = record { store = number; place = place } in
        let same : h ≡ home = cc in
        record {
          store = s;
          i = 0;
          is = sym (ap (λ x. x.store) same) ∙ (let z : number ≡ number + 0 = omega arith in z);
          there = refl;
          place = f ∙ ap (λ x. Some x.place) same;
          rows = ap (λ o. option_or (option_map (kept_at s.tables) o) (kept_rows stores t)) f ∙ ap (λ x. Some (kept_at s.tables x.place)) same;
        }

unhoused : (stores : List Kept) (t : TableId) (number : ℕ) → home_from number stores t ≡ None → kept_rows stores t ≡ None
unhoused [] t number e = refl
unhoused (s ∷ stores) t number e = by (place_in s t) refl e (unhoused stores t (suc number))
  where
    by : (o : Option ℕ) → place_in s t ≡ o → option_or (option_map (λ place. record { store = number; place = place }) o) (home_from (suc number) stores t) ≡ None
        → (home_from (suc number) stores t ≡ None → kept_rows stores t ≡ None) → kept_rows (s ∷ stores) t ≡ None
    by None f e rest = ap (λ o. option_or (option_map (kept_at s.tables) o) (kept_rows stores t)) f ∙ rest e
    by (Some place) f e rest = cc

-- what the directory of a schema says of a table
module _ (schema : List TableDef) (stores : List Kept) (directory : List (Option Home)) (are : AreHoused schema stores directory) (t : TableId) where
  abbrev shown : TableState
  shown = shown_by schema stores

  abbrev looked : Option Home
  looked = option_and_then (λ home. home) (slice_get directory t.0)

  none_before : 0 + t.0 ≡ t.0
  none_before = omega arith

  found_home : t.0 < length schema → looked ≡ home_of stores t
  found_home lt = ap (λ d. option_and_then (λ home. home) (slice_get d t.0)) are.homes ∙ ap (option_and_then (λ home. home)) (home_at stores 0 (length schema) t.0 lt) ∙ ap (λ n. home_of stores (record { 0 = n })) none_before

  found_table : t.0 < length schema → table_at shown t ≡ stored_rows stores t
  found_table lt = ap (λ o. unwrap_or o fm.empty) (table_by (stored_rows stores) 0 schema t.0 lt) ∙ ap (λ n. stored_rows stores (record { 0 = n })) none_before

  missing_home : length schema ≤ t.0 → looked ≡ None
  missing_home le = ap (λ d. option_and_then (λ home. home) (slice_get d t.0)) are.homes ∙ ap (option_and_then (λ home. home)) (no_home stores 0 (length schema) t.0 le)

  missing_table : length schema ≤ t.0 → table_at shown t ≡ fm.empty
  missing_table le = ap (λ o. unwrap_or o fm.empty) (no_table_by (stored_rows stores) 0 schema t.0 le)

  -- no home: no rows
  pub none_shown : None ≡ looked → table_at shown t ≡ fm.empty
  none_shown none = elim (cases_lt t.0 (length schema)) [
    | inl lt ↦ found_table lt ∙ ap (λ o. unwrap_or o fm.empty) (unhoused stores t 0 (sym (found_home lt) ∙ sym none))
    | inr ge ↦ missing_table ge
  ]

  -- a home: the rows that its store keeps
  module _ (home : Home) (some : Some home ≡ looked) where
    known : t.0 < length schema
    known = elim (cases_lt t.0 (length schema)) [
      | inl lt ↦ lt
      | inr ge ↦ let x = missing_home ge in let z : Some home ≡ None = some ∙ x in cc
    ]

    pub its_home : Housed stores t 0 home
    its_home = housed stores t 0 home (sym (found_home known) ∙ sym some)

    pub rows_shown : table_at shown t ≡ kept_at its_home.store.tables home.place
    rows_shown = found_table known ∙ ap (λ o. unwrap_or o fm.empty) its_home.rows

    pub store_there : slice_get stores home.store ≡ Some its_home.store
    store_there = let z : 0 + its_home.i ≡ its_home.i = omega arith in ap (slice_get stores) (its_home.is ∙ z) ∙ its_home.there

    pub foreign_shown : foreign_columns its_home.store home.place ≡ foreign_key_of schema t
    foreign_shown = are.over its_home.i its_home.store its_home.there t home.place its_home.place

    pub known_table : (def : TableDef) × (slice_get schema t.0 ≡ Some def)
    known_table = there schema t.0 known
      where
        there : (xs : List TableDef) (i : ℕ) → i < length xs → (x : TableDef) × (slice_get xs i ≡ Some x)
        there [] i lt = absurd (omega (arith, lt))
        there (x ∷ xs) zero lt = (x, refl)
        there (x ∷ xs) (suc i) lt = there xs i (omega (arith, lt))

-- a place is one of the tree
prefix_bound : (test : Layer → Bool) (ls : List Layer) → prefix_len test ls ≤ length ls
prefix_bound test [] = omega arith
prefix_bound test (l ∷ ls) = by (test l) (prefix_bound test ls)
  where
    by : (b : Bool) → prefix_len test ls ≤ length ls → cond b (1 + prefix_len test ls) 0 ≤ suc (length ls)
    by true r = omega (arith, r)
    by false r = omega arith

pub place_fits : (s : Kept) (t : TableId) (place : ℕ) → place_in s t ≡ Some place → place ≤ length s.layers
place_fits s t place e = by (same_table s.table t) e
  where
    at : (n : ℕ) (b : Bool) → nat_lt n (length s.layers) ≡ b → option_map suc (cond b (Some n) None) ≡ Some place → place ≤ length s.layers
    at n true lt e = let z : suc n ≡ place = cc in let x = ltb-true n (length s.layers) lt in omega (arith, x, z)
    at n false lt e = cc

    by : (b : Bool) → cond b (Some 0) (option_map suc (position (λ l. same_table l.table t) s.layers)) ≡ Some place → place ≤ length s.layers
    by true e = let z : 0 ≡ place = cc in omega (arith, z)
    by false e = at (prefix_len (λ l. not (same_table l.table t)) s.layers) (nat_lt (prefix_len (λ l. not (same_table l.table t)) s.layers) (length s.layers)) refl e

-- a store behind others
pub next_home : (stores : List Kept) (number : ℕ) (s : Kept) (t : TableId) → number < length stores → slice_get stores number ≡ Some s → home_from number (drop number stores) t ≡ option_or (option_map (λ place. record { store = number; place = place }) (place_in s t)) (home_from (suc number) (drop (suc number) stores) t)
next_home stores number s t lt is = ap (λ l. home_from number l t) (dropped stores number is)
  where
    dropped : (xs : List Kept) (i : ℕ) → slice_get xs i ≡ Some s → drop i xs ≡ s ∷ drop (suc i) xs
    dropped [] i e = cc
    dropped (x ∷ xs) zero e = let z : x ≡ s = cc in ap (λ y. y ∷ xs) z
    dropped (x ∷ xs) (suc i) e = dropped xs i e

pub past_home : (stores : List Kept) (number : ℕ) (t : TableId) → length stores ≤ number → home_from number (drop number stores) t ≡ None
past_home stores number t le = ap (λ l. home_from number l t) (gone stores number le)
  where
    gone : (xs : List Kept) (i : ℕ) → length xs ≤ i → drop i xs ≡ []
    gone [] zero le = refl
    gone [] (suc i) le = refl
    gone (x ∷ xs) zero le = absurd (omega (arith, le))
    gone (x ∷ xs) (suc i) le = gone xs i (omega (arith, le))

-- the store and the place that the directory gives
pub shows_table : (schema : List TableDef) (stores : List Kept) (directory : List (Option Home)) (are : AreHoused schema stores directory) (t : TableId) (home : Home) → Some home ≡ option_and_then (λ home. home) (slice_get directory t.0) → (s : Kept) → slice_get stores home.store ≡ Some s → ShowsTable schema stores t s home.place
shows_table schema stores directory are t home some s there =
    let h = its_home schema stores directory are t home some in
    let both : Some h.store ≡ Some s = sym (store_there schema stores directory are t home some) ∙ there in
    let same : h.store ≡ s = cc in
    let def = known_table schema stores directory are t home some in
    record {
      rows = rows_shown schema stores directory are t home some ∙ ap (λ x. kept_at x.tables home.place) same;
      within = place_fits s t home.place (subst (λ x. place_in x t ≡ Some home.place) same h.place);
      foreign = subst (λ x. foreign_columns x home.place ≡ foreign_key_of schema t) same (foreign_shown schema stores directory are t home some);
      def = def.0;
      is = def.1;
    }

-- a table without rows has none at any place, and no child
pub no_rows_at : (table : Table) (at : ℕ) → table ≡ fm.empty → None ≡ slice_get (fm.values table) at
no_rows_at table at e = past_rows table at (let z = ap fm.len e ∙ fm.len-empty key_order (List Value) in omega (arith, z))

pub no_place_at : (table : Table) (test : List Value → Bool) (from : ℕ) → table ≡ fm.empty → None ≡ first_from test from (drop from (fm.values table))
no_place_at table test from e = sym (no_more test (fm.values table) from (let z = ap fm.len e ∙ fm.len-empty key_order (List Value) in omega (arith, z, length-map (fm.entries table) (λ x. x.1), fm.len-entries table)))
