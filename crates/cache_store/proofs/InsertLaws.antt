-- What is shown after an insert.
use Rattle.std.proofs.Common.{◌≡◌, ℕ, zero, suc, ◌<◌, ◌≤◌, Bool, true, false, ◌&&◌, not, cond, Option, Some, None, is_some, List, [], ◌∷◌, ◌⊎◌, inl, inr, length, map, slice_get, slice_set, unwrap_or, nat_eq, refl, sym, ap, ◌∙◌, arith}
use Rattle.std.proofs.lemmas.Bool.{eq-eqb, eqb-true}
use Rattle.std.specs.Option.{option_and_then, option_map, option_or}
use Rattle.std.specs.Ordering.{is_eq}
use Rattle.std.specs.declared.cmp.Ordering.{Ordering}
use Rattle.std.specs.declared.cmp.Ordering.TheVariants.{Less, Equal, Greater}
use Rattle.std.specs.FinMap.{contains_key, empty, get, get-insert, insert}
use Rattle.instances.specs.row_types.specs.declared.value.Value.{Value}
use Rattle.instances.specs.row_types.specs.Order.{key_order}
use Rattle.instances.specs.row_types.proofs.OrderLaws.{key_exact, key_total}
use Rattle.instances.specs.tier_base.specs.declared.number.TableId.{TableId}
use Rattle.instances.specs.table_defs.specs.declared.definition.TableDef.{TableDef}
use Rattle.instances.specs.indexed_rows.specs.Rows.{Table, is_same, key_of, put_in}
use Rattle.instances.specs.table_state.specs.Tables.{TableState, fits_columns, has_parent, table_at}
use Rattle.instances.specs.table_state.specs.declared.operation.Op.TheVariants.{Insert}
use Rattle.instances.specs.table_state.specs.Operations.{applied, only_if, with_row}
use Rattle.instances.specs.declared.tree.Child.{Child}
use Rattle.instances.specs.declared.tree.Tree.{Tree}
use Rattle.instances.specs.Trees.{table_of}
use Rattle.instances.specs.Roots.{root_at}
use Rattle.instances.specs.Views.{kept_at, view_of}
use Rattle.cache_store.specs.Shown.{has_root, shown_of}
use Rattle.cache_store.specs.Covering.{CoversAll}
use Rattle.cache_store.specs.Growing.{Agree, GainsRow, is_new}
use Rattle.cache_store.specs.Operating.{ShowsInsert, StandsAt, change_at}
use Rattle.cache_store.proofs.CoverLaws.{covers_tables}
use Rattle.cache_store.proofs.GrowthLaws.{shows_more}
use Rattle.cache_store.proofs.JoinLaws.{get_put_in, or_none, same_tables}
use Rattle.cache_store.proofs.ShownLaws.{gets_chosen, shown_length}

abbrev Row : Type 0
Row = List Value

pub decided : (a b : ℕ) → (a ≡ b) ⊎ (a ≡ b → ⊥)
decided a b = by (nat_eq a b) refl
  where
    by : (r : Bool) → nat_eq a b ≡ r → (a ≡ b) ⊎ (a ≡ b → ⊥)
    by true e = inl (eqb-true a b e)
    by false e = inr (λ h. let x : nat_eq a b ≡ true = eq-eqb a b h in cc)

pub get_set : {X : Type 0} (xs : List X) (i : ℕ) (x y : X) → slice_get xs i ≡ Some y → slice_get (slice_set xs i x) i ≡ Some x
get_set [] i x y e = cc
get_set (z ∷ xs) zero x y e = refl
get_set (z ∷ xs) (suc i) x y e = get_set xs i x y e

pub get_set_other : {X : Type 0} (xs : List X) (i j : ℕ) (x : X) → (j ≡ i → ⊥) → slice_get (slice_set xs i x) j ≡ slice_get xs j
get_set_other [] i j x n = refl
get_set_other (z ∷ xs) zero zero x n = absurd (n refl)
get_set_other (z ∷ xs) zero (suc j) x n = refl
get_set_other (z ∷ xs) (suc i) zero x n = refl
get_set_other (z ∷ xs) (suc i) (suc j) x n = get_set_other xs i j x (λ e. n (ap suc e))

-- an insert that applied
pub record Inserted (s new : TableState) (t : TableId) (key row : Row) : Type 0 where
  pub schema : new.schema ≡ s.schema
  pub here : table_at new t ≡ insert (table_at s t) key row
  pub others : (u : TableId) → (u.0 ≡ t.0 → ⊥) → table_at new u ≡ table_at s u
  pub absent : get (table_at s t) key ≡ None
  pub parent : (def : TableDef) → slice_get s.schema t.0 ≡ Some def → has_parent s def.foreign_key row ≡ true

pub inserted : (s new : TableState) (t : TableId) (def : TableDef) (row : Row) → applied (Insert t row) s ≡ Some new → slice_get s.schema t.0 ≡ Some def → Inserted s new t (key_of def.primary_key row) row
inserted s new t def row is d = by (slice_get s.tables t.0) refl (sym (ap (option_and_then (λ (f : TableDef). option_and_then (λ table. option_map (λ next. record { schema = s.schema; tables = slice_set s.tables t.0 next }) (with_row s row f table)) (slice_get s.tables t.0))) d) ∙ is)
  where
    key : Row
    key = key_of def.primary_key row

    test : Table → Bool
    test table = fits_columns def.columns row && not (contains_key table (key_of def.primary_key row)) && has_parent s def.foreign_key row

    free : (a b c : Bool) → (a && not b && c) ≡ true → b ≡ false
    free true true c e = cc
    free true false c e = refl
    free false b c e = cc

    last_of : (a b c : Bool) → (a && not b && c) ≡ true → c ≡ true
    last_of true true c e = cc
    last_of true false c e = e
    last_of false b c e = cc

    none_of : (o : Option Row) → is_some o ≡ false → o ≡ None
    none_of None e = refl
    none_of (Some x) e = cc

    at_table : (table : Table) → slice_get s.tables t.0 ≡ Some table → (b : Bool) → (fits_columns def.columns row && not (contains_key table (key_of def.primary_key row)) && has_parent s def.foreign_key row) ≡ b
        → option_map (λ next. record { schema = s.schema; tables = slice_set s.tables t.0 next }) (only_if b (insert table (key_of def.primary_key row) row)) ≡ Some new → Inserted s new t (key_of def.primary_key row) row
    at_table table m true good e =
        let k = key_of def.primary_key row in
        let same : record { schema = s.schema; tables = slice_set s.tables t.0 (insert table k row) } ≡ new = cc in
        let it : table_at s t ≡ table = ap (λ o. unwrap_or o empty) m in
        record {
          schema = sym (ap (λ x. x.schema) same);
          here = ap (λ x. unwrap_or (slice_get x.tables t.0) empty) (sym same) ∙ ap (λ o. unwrap_or o empty) (get_set s.tables t.0 (insert table k row) table m) ∙ ap (λ x. insert x k row) (sym it);
          others = λ u n. ap (λ x. unwrap_or (slice_get x.tables u.0) empty) (sym same) ∙ ap (λ o. unwrap_or o empty) (get_set_other s.tables t.0 u.0 (insert table k row) n);
          absent = ap (λ x. get x k) it ∙ none_of (get table k) (free (fits_columns def.columns row) (contains_key table k) (has_parent s def.foreign_key row) good);
          parent = λ f e. let x : Some def ≡ Some f = sym d ∙ e in let y : def ≡ f = cc in ap (λ (z : TableDef). has_parent s z.foreign_key row) (sym y) ∙ last_of (fits_columns def.columns row) (contains_key table k) (has_parent s def.foreign_key row) good;
        }
    at_table table m false bad e = cc

    by : (o : Option Table) → slice_get s.tables t.0 ≡ o → option_and_then (λ table. option_map (λ next. record { schema = s.schema; tables = slice_set s.tables t.0 next }) (with_row s row def table)) o ≡ Some new → Inserted s new t (key_of def.primary_key row) row
    by None m e = cc
    by (Some table) m e = at_table table m (fits_columns def.columns row && not (contains_key table (key_of def.primary_key row)) && has_parent s def.foreign_key row) refl e

-- a place of the tables of a tree
abbrev pub tables_of : TableState → Tree → List Table
tables_of s tree = table_at s tree.root.table ∷ map (λ c. table_at s c.table) tree.children

in_children : (s : TableState) (cs : List Child) (place : ℕ) (t : TableId) → option_map (λ (c : Child). c.table) (slice_get cs place) ≡ Some t → kept_at (map (λ (c : Child). table_at s c.table) cs) place ≡ table_at s t
in_children s [] place t e = cc
in_children s (c ∷ cs) zero t e = let x : c.table ≡ t = cc in ap (table_at s) x
in_children s (c ∷ cs) (suc place) t e = in_children s cs place t e

not_in_children : (s : TableState) (cs : List Child) (place : ℕ) → option_map (λ (c : Child). c.table) (slice_get cs place) ≡ None → kept_at (map (λ (c : Child). table_at s c.table) cs) place ≡ empty
not_in_children s [] place e = refl
not_in_children s (c ∷ cs) zero e = cc
not_in_children s (c ∷ cs) (suc place) e = not_in_children s cs place e

pub table_in : (s : TableState) (tree : Tree) (place : ℕ) (t : TableId) → table_of tree place ≡ Some t → kept_at (tables_of s tree) place ≡ table_at s t
table_in s tree zero t e = let x : tree.root.table ≡ t = cc in ap (table_at s) x
table_in s tree (suc place) t e = in_children s tree.children place t e

pub no_table_in : (s : TableState) (tree : Tree) (place : ℕ) → table_of tree place ≡ None → kept_at (tables_of s tree) place ≡ empty
no_table_in s tree zero e = cc
no_table_in s tree (suc place) e = not_in_children s tree.children place e

place_of_child : (cs : List Child) (place : ℕ) (t : TableId) → option_map (λ (c : Child). c.table) (slice_get cs place) ≡ Some t → place < length cs
place_of_child [] place t e = cc
place_of_child (c ∷ cs) zero t e = omega arith
place_of_child (c ∷ cs) (suc place) t e = let x = place_of_child cs place t e in omega arith

pub place_in : (tree : Tree) (place : ℕ) (t : TableId) → table_of tree place ≡ Some t → place ≤ length tree.children
place_in tree zero t e = omega arith
place_in tree (suc place) t e = let x = place_of_child tree.children place t e in omega arith

pub nat_eq_other : (a b : ℕ) → (a ≡ b → ⊥) → nat_eq a b ≡ false
nat_eq_other a b n = by (nat_eq a b) refl
  where
    by : (r : Bool) → nat_eq a b ≡ r → nat_eq a b ≡ false
    by true e = absurd (n (eqb-true a b e))
    by false e = e

pub get_change : (f : Table → Table) (tables : List Table) (at place : ℕ) → at < length tables → kept_at (change_at at f tables) place ≡ cond (nat_eq at place) (f (kept_at tables at)) (kept_at tables place)
get_change f [] at place h = absurd (omega arith)
get_change f (t ∷ tables) zero zero h = sym (ap (λ b. cond b (f t) t) (eq-eqb 0 0 refl))
get_change f (t ∷ tables) zero (suc place) h = sym (ap (λ b. cond b (f t) (kept_at tables place)) (nat_eq_other 0 (suc place) (λ e. omega arith)))
get_change f (t ∷ tables) (suc at) zero h = sym (ap (λ b. cond b (f (kept_at tables at)) t) (nat_eq_other (suc at) 0 (λ e. omega arith)))
get_change f (t ∷ tables) (suc at) (suc place) h = get_change f tables at place (omega arith) ∙ ap (λ b. cond b (f (kept_at tables at)) (kept_at tables place)) (same_test at place)
  where
    same_test : (a b : ℕ) → nat_eq a b ≡ nat_eq (suc a) (suc b)
    same_test a b = elim (decided a b) [
      | inl e ↦ eq-eqb a b e ∙ sym (eq-eqb (suc a) (suc b) (ap suc e))
      | inr n ↦ nat_eq_other a b n ∙ sym (nat_eq_other (suc a) (suc b) (λ e. n (omega arith)))
    ]

pub length_change : (f : Table → Table) (tables : List Table) (at : ℕ) → length (change_at at f tables) ≡ length tables
length_change f [] at = refl
length_change f (t ∷ tables) zero = refl
length_change f (t ∷ tables) (suc at) = ap suc (length_change f tables at)

module _ (s new : TableState) (tree : Tree) (t : TableId) (key row : Row) (at : ℕ) (i : Inserted s new t key row) (stands : StandsAt tree t at) (ws : CoversAll s tree) (wn : CoversAll new tree) where
  seen_is : (x : TableState) → CoversAll x tree → (place : ℕ) (other : Row) → get (kept_at (view_of x tree) place) other ≡ get (kept_at (tables_of x tree) place) other
  seen_is x w place other = ap (λ l. get (kept_at l place) other) (covers_tables x tree w)

  not_key : (other found : Row) → get (table_at s t) other ≡ Some found → (o : Ordering) → key_order other key ≡ o → cond (is_eq o) (Some row) (get (table_at s t) other) ≡ Some found
  not_key other found is Less tie = is
  not_key other found is Greater tie = is
  not_key other found is Equal tie = let x : None ≡ Some found = sym i.absent ∙ ap (get (table_at s t)) (sym (key_exact other key tie)) ∙ is in cc

  more : (u : TableId) (other found : Row) → get (table_at s u) other ≡ Some found → get (table_at new u) other ≡ Some found
  more u other found is = elim (decided u.0 t.0) [
    | inl e ↦
        let before : get (table_at s t) other ≡ Some found = ap (λ j. get (unwrap_or (slice_get s.tables j) empty) other) (sym e) ∙ is in
        ap (λ j. get (unwrap_or (slice_get new.tables j) empty) other) e ∙ ap (λ x. get x other) i.here ∙ get-insert key_total (table_at s t) key row other ∙ not_key other found before (key_order other key) refl
    | inr n ↦ ap (λ x. get x other) (i.others u n) ∙ is
  ]

  view_at : (place : ℕ) (other : Row) (o : Option TableId) → table_of tree place ≡ o → get (kept_at (tables_of new tree) place) other ≡ cond (is_new at key place other) (Some row) (get (kept_at (tables_of s tree) place) other)
  view_at place other None e =
      let apart : nat_eq at place ≡ false = nat_eq_other at place (λ x. let y : Some t ≡ None = sym stands.there ∙ ap (table_of tree) x ∙ e in cc) in
      ap (λ x. get x other) (no_table_in new tree place e) ∙ sym (ap (λ b. cond (b && is_same other key) (Some row) (get (kept_at (tables_of s tree) place) other)) apart ∙ ap (λ x. get x other) (no_table_in s tree place e))
  view_at place other (Some u) e = elim (decided u.0 t.0) [
    | inl x ↦
        let same : place ≡ at = stands.alone place u e x in
        ap (λ y. get y other) (table_in new tree place u e) ∙ ap (λ j. get (unwrap_or (slice_get new.tables j) empty) other) x ∙ ap (λ y. get y other) i.here ∙ get-insert key_total (table_at s t) key row other
        ∙ sym (ap (λ b. cond (b && is_same other key) (Some row) (get (kept_at (tables_of s tree) place) other)) (eq-eqb at place (sym same))
        ∙ ap (λ v. cond (is_same other key) (Some row) v) (ap (λ y. get y other) (table_in s tree place u e) ∙ ap (λ j. get (unwrap_or (slice_get s.tables j) empty) other) x))
    | inr n ↦
        let apart : nat_eq at place ≡ false = nat_eq_other at place (λ x. let y : Some t ≡ Some u = sym stands.there ∙ ap (table_of tree) x ∙ e in let z : t ≡ u = cc in n (ap (λ w. w.0) (sym z))) in
        ap (λ y. get y other) (table_in new tree place u e) ∙ ap (λ y. get y other) (i.others u n)
        ∙ sym (ap (λ b. cond (b && is_same other key) (Some row) (get (kept_at (tables_of s tree) place) other)) apart ∙ ap (λ y. get y other) (table_in s tree place u e))
  ]

  grows : GainsRow s new tree at key row
  grows = record {
    schema = i.schema;
    more = more;
    view = λ place other. seen_is new wn place other ∙ view_at place other (table_of tree place) refl ∙ ap (λ v. cond (is_new at key place other) (Some row) v) (sym (seen_is s ws place other));
  }

  module _ (p q : Row → Bool) (agree : Agree s tree p q) (passes : has_root q (root_at new tree at key) ≡ true) where
    put : Table → Table
    put table = put_in table key row

    -- the key isn't shown before
    not_shown : get (kept_at (shown_of s tree p) at) key ≡ None
    not_shown =
        gets_chosen s tree p at key ∙ ap (λ v. cond (has_root p (root_at s tree at key)) v None) (seen_is s ws at key ∙ ap (λ x. get x key) (table_in s tree at t stands.there) ∙ i.absent)
        ∙ none_same (has_root p (root_at s tree at key))
      where
        none_same : (b : Bool) → ◌≡◌ {A = Option Row} (cond b None None) None
        none_same true = refl
        none_same false = refl

    -- a row put in where its key has none
    put_there : (a : Table) → get a key ≡ None → (other : Row) → get (put_in a key row) other ≡ cond (is_same other key) (Some row) (get a other)
    put_there a none other = get_put_in a key row other ∙ by (key_order other key) refl
      where
        by : (o : Ordering) → key_order other key ≡ o → option_or (get a other) (cond (is_eq (key_order other key)) (Some row) None) ≡ cond (is_eq (key_order other key)) (Some row) (get a other)
        by Less e = ap (λ o. option_or (get a other) (cond (is_eq o) (Some row) None)) e ∙ or_none (get a other) ∙ sym (ap (λ o. cond (is_eq o) (Some row) (get a other)) e)
        by Greater e = ap (λ o. option_or (get a other) (cond (is_eq o) (Some row) None)) e ∙ or_none (get a other) ∙ sym (ap (λ o. cond (is_eq o) (Some row) (get a other)) e)
        by Equal e = ap (λ o. option_or (get a other) (cond (is_eq o) (Some row) None)) e ∙ ap (λ v. option_or v (Some row)) (ap (get a) (key_exact other key e) ∙ none) ∙ sym (ap (λ o. cond (is_eq o) (Some row) (get a other)) e)

    insert_shown : shown_of new tree q ≡ change_at at (λ table. put_in table key row) (shown_of s tree p)
    insert_shown =
        let old : List Table = shown_of s tree p in
        let within : at < length old = omega (arith, shown_length s tree p, place_in tree at t stands.there) in
        same_tables (shown_of new tree q) (change_at at (λ table. put_in table key row) old) (shown_length new tree q ∙ sym (length_change (λ table. put_in table key row) old at ∙ shown_length s tree p))
        (λ place other. shows_more s new tree at key row grows p q agree passes place other
        ∙ sym (ap (λ x. get x other) (get_change (λ table. put_in table key row) old at place within) ∙ parted place other (nat_eq at place) refl))
      where
        parted : (place : ℕ) (other : Row) (b : Bool) → nat_eq at place ≡ b → get (cond (nat_eq at place) (put_in (kept_at (shown_of s tree p) at) key row) (kept_at (shown_of s tree p) place)) other ≡ cond (is_new at key place other) (Some row) (get (kept_at (shown_of s tree p) place) other)
        parted place other true e =
            ap (λ b. get (cond b (put_in (kept_at (shown_of s tree p) at) key row) (kept_at (shown_of s tree p) place)) other) e ∙ put_there (kept_at (shown_of s tree p) at) not_shown other
            ∙ ap (λ j. cond (is_same other key) (Some row) (get (kept_at (shown_of s tree p) j) other)) (eqb-true at place e) ∙ sym (ap (λ b. cond (b && is_same other key) (Some row) (get (kept_at (shown_of s tree p) place) other)) e)
        parted place other false e =
            ap (λ b. get (cond b (put_in (kept_at (shown_of s tree p) at) key row) (kept_at (shown_of s tree p) place)) other) e ∙ sym (ap (λ b. cond (b && is_same other key) (Some row) (get (kept_at (shown_of s tree p) place) other)) e)

pub shows_insert : (s new : TableState) (tree : Tree) → ShowsInsert s new tree
shows_insert s new tree t def row at p q a agree passes = insert_shown s new tree t (key_of def.primary_key row) row at (inserted s new t def row a.applies a.defined) a.stands a.before a.after p q agree passes
