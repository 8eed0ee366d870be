-- Rows that pass a test, and lead to a row.
use Rattle.std.proofs.Common.{◌≡◌, ℕ, zero, suc, ◌+◌, ◌-◌, ◌<◌, ◌≤◌, Bool, MatchBool, true, false, cond, ◌&&◌, ◌||◌, inl, inr, ◌⊎◌, List, [], ◌∷◌, length, drop, slice_get, Option, Some, None, is_some, refl, sym, ap, subst, ◌∙◌, arith}
use Rattle.std.proofs.lemmas.Bool.{cases_lt}
use Rattle.std.specs.List.{list_any}
use Rattle.std.specs.FinMap as fm
use Rattle.slot_rows.specs.row_types.specs.declared.value.Value.{Value}
use Rattle.slot_rows.specs.row_types.specs.Order.{key_order}
use Rattle.slot_rows.specs.tier_base.specs.declared.number.TableId.{TableId}
use Rattle.slot_rows.specs.indexed_rows.specs.Places.{IsKeyAt}
use Rattle.slot_rows.specs.indexed_rows.specs.Rows.{Table, first_from, has_key, key_of}
use Rattle.slot_rows.specs.indexed_rows.proofs.EntryLaws.{at_has, dropped_at, has_at, mapped_at, same_itself, same_values, some_of, unmapped_at}
use Rattle.slot_rows.specs.indexed_rows.proofs.MapLaws.{slice_get_map}
use Rattle.cache_store.specs.instances.specs.Views.{kept_at}
use Rattle.slot_rows.specs.Orders.{place_from}
use Rattle.slot_rows.specs.SlotKeys.{IsKeyedBy}
use Rattle.group_store.specs.Trees.{IsChild, Layer, is_top, leads, parent_of, passes_up}
use Rattle.group_store.specs.declared.tree_rows.ChildRows.{ChildRows}
use Rattle.group_store.specs.declared.tree_rows.TreeRows.{TreeRows}
use Rattle.group_store.specs.Held.{has_row}
use Rattle.group_store.specs.Joined.{AreJoined, layer_of, layers_of, tables_of}
use Rattle.group_store.specs.Passing.{HasNoneBy, HasNonePassing, HasPassing, IsChildKey}
use Rattle.group_store.proofs.ByUseLaws.{row_of_key}
use Rattle.group_store.proofs.JoinedLaws.{inside, kept_child, layer_got}
use Rattle.group_store.proofs.RecentLaws.{spot_within}
use Rattle.group_store.proofs.TreeLaws.{at_it, it_is, names_parent, through_child, top_leads, up_to}

abbrev Row : Type 0
Row = List Value

and_left : (a b : Bool) → (a && b) ≡ true → a ≡ true
and_left true b e = refl
and_left false b e = cc

or_true : (b : Bool) → (b || true) ≡ true
or_true true = refl
or_true false = refl

-- a row leads to another by way of a child of that one
pub record LeadsBy (layers : List Layer) (tables : List Table) (top : ℕ) (at : Row) (q : ℕ) (k : Row) : Type 0 where
  pub i : ℕ
  pub key : Row
  pub child : IsChildKey layers tables top at i key
  pub steps : ℕ
  pub led : leads layers tables (suc i) key steps q k ≡ true

module _ (layers : List Layer) (tables : List Table) (top : ℕ) (at : Row) where
  on_child : (q : ℕ) (k : Row) (x : ℕ × Row) → parent_of layers tables q k ≡ Some x → (is_top tables top at x.0 x.1 ≡ true) ⊎ LeadsBy layers tables top at x.0 x.1 → LeadsBy layers tables top at q k
  on_child q k x f (inl t) =
      let names = names_parent layers tables q k x f in
      let is = it_is top at x.0 x.1 (and_left (at_it top at x.0 x.1) (fm.contains_key (kept_at tables top) at) t) in
      record {
        i = names.i;
        key = k;
        child = record { layer = names.layer; row = names.row; there = names.there; parent = sym names.parent ∙ is.0; found = names.found; refers = sym names.refers ∙ is.1 };
        steps = 0;
        led = subst (λ p. leads layers tables (suc names.i) k 0 p k ≡ true) (sym names.is) (top_leads layers tables (suc names.i) k 0 (ap is_some names.found));
      }
  on_child q k x f (inr w) = record {
    i = w.i;
    key = w.key;
    child = w.child;
    steps = suc w.steps;
    led = ap (λ o. is_top tables (suc w.i) w.key q k || passes_up (leads layers tables (suc w.i) w.key w.steps) o) f ∙ ap (λ b. is_top tables (suc w.i) w.key q k || b) w.led ∙ or_true (is_top tables (suc w.i) w.key q k);
  }

  by_child : (n q : ℕ) (k : Row) → leads layers tables top at n q k ≡ true → (is_top tables top at q k ≡ true) ⊎ LeadsBy layers tables top at q k
  by_child zero q k e = inl e
  by_child (suc n) q k e = by (is_top tables top at q k) refl (parent_of layers tables q k) refl e (λ p r h. by_child n p r h)
    where
      by : (b : Bool) → is_top tables top at q k ≡ b → (o : Option (ℕ × Row)) → parent_of layers tables q k ≡ o → (b || passes_up (leads layers tables top at n) o) ≡ true
          → ((p : ℕ) (r : Row) → leads layers tables top at n p r ≡ true → (is_top tables top at p r ≡ true) ⊎ LeadsBy layers tables top at p r)
          → (is_top tables top at q k ≡ true) ⊎ LeadsBy layers tables top at q k
      by true t o f e ih = inl t
      by false t None f e ih = cc
      by false t (Some x) f e ih = inr (on_child q k x f (ih x.0 x.1 e))

  module _ (test : ℕ → Row → Bool) where
    -- none passes where the row itself doesn't, and none by way of a child table does
    pub none_passes : test top at ≡ false → ((i : ℕ) → HasNoneBy test layers tables top at i) → HasNonePassing test layers tables top at
    none_passes never none steps q k e = elim (by_child steps q k e) [
      | inl t ↦
          let is = it_is top at q k (and_left (at_it top at q k) (fm.contains_key (kept_at tables top) at) t) in
          subst (λ p. test p k ≡ false) (sym is.0) (subst (λ r. test top r ≡ false) (sym is.1) never)
      | inr w ↦ none w.i w.key w.child w.steps q k w.led
    ]

    -- the row itself does
    pub passes_itself : fm.contains_key (kept_at tables top) at ≡ true → top ≤ length layers → test top at ≡ true → HasPassing test layers tables top at
    passes_itself has within does = record { place = top; key = at; steps = 0; few = omega arith; within = within; there = has; leads = top_leads layers tables top at 0 has; passes = does }

    -- one that leads to a child does
    passes_by : (i : ℕ) (key : Row) (child : IsChildKey layers tables top at i key) → key_of child.layer.key child.row ≡ key → fm.contains_key (kept_at tables top) at ≡ true → top ≤ i
        → HasPassing test layers tables (suc i) key → HasPassing test layers tables top at
    passes_by i key child keyed has le p =
        let few = p.few in
        let is : IsChild layers tables top at (suc i) child.row = record {
          i = i;
          layer = child.layer;
          is = refl;
          there = child.there;
          parent = child.parent;
          found = subst (λ k. fm.get (kept_at tables (suc i)) k ≡ Some child.row) (sym keyed) child.found;
          refers = child.refers;
        } in
        record {
          place = p.place;
          key = p.key;
          steps = suc p.steps;
          few = omega (arith, few, le);
          within = p.within;
          there = p.there;
          leads = through_child layers tables top at (suc i) child.row is has p.steps p.place p.key (subst (λ k. leads layers tables (suc i) k p.steps p.place p.key ≡ true) (sym keyed) p.leads);
          passes = p.passes;
        }

-- what is told of a table's key is what is held
pub asked : (held : TableId → Row → Bool) (a b : TableId) (ps qs : List ℕ) (row k : Row) (told : Bool) → a ≡ b → ps ≡ qs → key_of qs row ≡ k → told ≡ held a (key_of ps row) → held b k ≡ told
asked held a b ps qs row k told e f key is = sym (is ∙ ap (λ i. held i (key_of ps row)) e ∙ ap (held b) (ap (λ l. key_of l row) f ∙ key))

-- a row of some tables that passes
any_at : (p : Row → Bool) (xs : List Row) (i : ℕ) (x : Row) → slice_get xs i ≡ Some x → p x ≡ true → list_any p xs ≡ true
any_at p [] i x at e = cc
any_at p (y ∷ xs) zero x at e = let z : y ≡ x = cc in ap (λ b. b || list_any p xs) (ap p z ∙ e)
any_at p (y ∷ xs) (suc i) x at e = ap (λ b. p y || b) (any_at p xs i x at e) ∙ or_true (p y)

any_none : (p : Row → Bool) (xs : List Row) → ((x : Row) → p x ≡ false) → list_any p xs ≡ false
any_none p [] h = refl
any_none p (y ∷ xs) h = ap (λ b. b || list_any p xs) (h y) ∙ any_none p xs h

pub has_row_at : (test : ℕ → Row → Bool) (ts : List Table) (p : ℕ) (k : Row) → fm.contains_key (kept_at ts p) k ≡ true → test p k ≡ true → has_row test ts ≡ true
has_row_at test [] p k has e = let z : false ≡ true = sym (ap is_some (fm.get-empty key_order k)) ∙ has in cc
has_row_at test (t ∷ ts) zero k has e =
    let o = some_of (fm.get t k) has in
    let at = has_at t k o.0 o.1 in
    ap (λ b. b || has_row (λ p. test (suc p)) ts) (any_at (test 0) (fm.keys t) at.0 k (mapped_at (λ (x : Row × Row). x.0) (fm.entries t) at.0 (k, o.0) at.1) e)
has_row_at test (t ∷ ts) (suc p) k has e = ap (λ b. list_any (test 0) (fm.keys t) || b) (has_row_at (λ q. test (suc q)) ts p k has e) ∙ or_true (list_any (test 0) (fm.keys t))

no_row_at : (test : ℕ → Row → Bool) (ts : List Table) → ((p : ℕ) (k : Row) → test p k ≡ false) → has_row test ts ≡ false
no_row_at test [] h = refl
no_row_at test (t ∷ ts) h = ap (λ b. b || has_row (λ p. test (suc p)) ts) (any_none (test 0) (fm.keys t) (h 0)) ∙ no_row_at (λ p. test (suc p)) ts (λ p. h (suc p))

pub told : (test : ℕ → Row → Bool) (layers : List Layer) (tables : List Table) (at : Row) (r : Bool) → MatchBool r (HasPassing test layers tables 0 at) (HasNonePassing test layers tables 0 at)
    → r ≡ has_row (λ place key. leads layers tables 0 at (length layers) place key && test place key) tables
told test layers tables at true w =
    let few = w.few in
    let within = w.within in
    let led = up_to layers tables 0 at w.steps (length layers) w.place w.key (omega (arith, few, within)) w.leads in
    sym (has_row_at (λ place key. leads layers tables 0 at (length layers) place key && test place key) tables w.place w.key w.there (ap (λ b. b && test w.place w.key) led ∙ w.passes))
told test layers tables at false none =
    sym (no_row_at (λ place key. leads layers tables 0 at (length layers) place key && test place key) tables (λ p k. by p k (leads layers tables 0 at (length layers) p k) refl))
  where
    by : (p : ℕ) (k : Row) (b : Bool) → leads layers tables 0 at (length layers) p k ≡ b → (leads layers tables 0 at (length layers) p k && test p k) ≡ false
    by p k true e = ap (λ b. b && test p k) e ∙ none (length layers) p k e
    by p k false e = ap (λ b. b && test p k) e

-- the first element that passes
first_at : (p : Row → Bool) (i : ℕ) (xs : List Row) (spot : ℕ) → first_from p i xs ≡ Some spot → (j : ℕ) × (x : Row) × (spot ≡ i + j) × (slice_get xs j ≡ Some x) × (p x ≡ true)
first_at p i [] spot e = cc
first_at p i (x ∷ xs) spot e = by (p x) refl e (first_at p (suc i) xs spot)
  where
    by : (b : Bool) → p x ≡ b → cond b (Some i) (first_from p (suc i) xs) ≡ Some spot
        → (first_from p (suc i) xs ≡ Some spot → (j : ℕ) × (y : Row) × (spot ≡ suc i + j) × (slice_get xs j ≡ Some y) × (p y ≡ true))
        → (j : ℕ) × (y : Row) × (spot ≡ i + j) × (slice_get (x ∷ xs) j ≡ Some y) × (p y ≡ true)
    by true t e ih = let z : i ≡ spot = cc in let s : spot ≡ i + 0 = omega (arith, z) in (0, x, s, refl, t)
    by false t e ih = let r = ih e in let is = r.2 in let s : spot ≡ i + suc r.0 = omega (arith, is) in (suc r.0, r.1, s, r.3, r.4)

first_before : (p : Row → Bool) (i : ℕ) (xs : List Row) (spot : ℕ) → first_from p i xs ≡ Some spot → (j : ℕ) (x : Row) → i + j < spot → slice_get xs j ≡ Some x → p x ≡ false
first_before p i [] spot e j x lt at = cc
first_before p i (y ∷ xs) spot e j x lt at = by (p y) refl e j lt at (first_before p (suc i) xs spot)
  where
    by : (b : Bool) → p y ≡ b → cond b (Some i) (first_from p (suc i) xs) ≡ Some spot → (j : ℕ) → i + j < spot → slice_get (y ∷ xs) j ≡ Some x
        → (first_from p (suc i) xs ≡ Some spot → (j : ℕ) (x : Row) → suc i + j < spot → slice_get xs j ≡ Some x → p x ≡ false) → p x ≡ false
    by true t e j lt at ih = let z : i ≡ spot = cc in absurd (omega (arith, z, lt))
    by false t e zero lt at ih = let z : y ≡ x = cc in ap p (sym z) ∙ t
    by false t e (suc j) lt at ih = ih e j x (omega (arith, lt)) at

first_none : (p : Row → Bool) (i : ℕ) (xs : List Row) → first_from p i xs ≡ None → (j : ℕ) (x : Row) → slice_get xs j ≡ Some x → p x ≡ false
first_none p i [] e j x at = cc
first_none p i (y ∷ xs) e j x at = by (p y) refl e j at (first_none p (suc i) xs)
  where
    by : (b : Bool) → p y ≡ b → cond b (Some i) (first_from p (suc i) xs) ≡ None → (j : ℕ) → slice_get (y ∷ xs) j ≡ Some x → (first_from p (suc i) xs ≡ None → (j : ℕ) (x : Row) → slice_get xs j ≡ Some x → p x ≡ false) → p x ≡ false
    by true t e j at ih = cc
    by false t e zero at ih = let z : y ≡ x = cc in ap p (sym z) ∙ t
    by false t e (suc j) at ih = ih e j x at

-- the rows of a child table that refer to a row, one after another
module _ (test : ℕ → Row → Bool) (t : TreeRows) (top : ℕ) (at : Row) (i : ℕ) (c : ChildRows) (is : slice_get t.children.items i ≡ Some c) where
  abbrev here : Table
  here = kept_at (tables_of t) (suc i)

  same_table : here ≡ c.rows.table
  same_table = kept_child t.roots.table t.children.items i c is

  -- none of those before a place
  abbrev pub NoneBefore : ℕ → Type 0
  NoneBefore from = (j : ℕ) (k : Row) → j < from → IsKeyAt (fm.entries here) k j → IsChildKey (layers_of t) (tables_of t) top at i k → HasNonePassing test (layers_of t) (tables_of t) (suc i) k

  foreign_is : (l : Layer) → slice_get (layers_of t) i ≡ Some l → l.foreign ≡ c.foreign
  foreign_is l there = let z : Some l ≡ Some (layer_of c) = sym there ∙ slice_get_map layer_of t.children.items i c is in let w : l ≡ layer_of c = cc in ap (λ (x : Layer). x.foreign) w

  -- the row of a child's key passes the look-up
  found_there : (k : Row) (j : ℕ) → IsKeyAt (fm.entries here) k j → IsChildKey (layers_of t) (tables_of t) top at i k → (r : Row) × (slice_get (fm.values c.rows.table) j ≡ Some r) × (has_key c.foreign at r ≡ true)
  found_there k j key child =
      let r = row_of_key here k j key in
      let z : Some r.0 ≡ Some child.row = sym r.2 ∙ child.found in
      let w : r.0 ≡ child.row = cc in (
        r.0,
        ap (λ m. slice_get (fm.values m) j) (sym same_table) ∙ r.1,
        same_itself (key_of c.foreign r.0) at (ap (key_of c.foreign) w ∙ ap (λ f. key_of f child.row) (sym (foreign_is child.layer child.there)) ∙ child.refers),
      )

  pub spot_of_child : (from spot : ℕ) → Some spot ≡ place_from c.rows.table c.foreign at from → (from ≤ spot) × (x : Row) × (slice_get (fm.values c.rows.table) spot ≡ Some x) × (key_of c.foreign x ≡ at)
  spot_of_child from spot e =
      let f = first_at (has_key c.foreign at) from (drop from (fm.values c.rows.table)) spot (sym e) in
      let sum = f.2 in (
        omega (arith, sum),
        f.1,
        ap (slice_get (fm.values c.rows.table)) sum ∙ sym (dropped_at (fm.values c.rows.table) from f.0) ∙ f.3,
        same_values (key_of c.foreign f.1) at f.4,
      )

  -- the key of a row that was found
  pub key_of_spot : (spot : ℕ) (x : Row) → slice_get (fm.values c.rows.table) spot ≡ Some x → (k : Row) × (IsKeyAt (fm.entries here) k spot) × (fm.get here k ≡ Some x)
  key_of_spot spot x e =
      let u = unmapped_at (λ (y : Row × Row). y.1) (fm.entries here) spot x (ap (λ m. slice_get (fm.values m) spot) same_table ∙ e) in
      let y = u.0 in (
        y.0,
        mapped_at (λ (y : Row × Row). y.0) (fm.entries here) spot y u.1,
        at_has here spot y u.1 ∙ ap Some u.2,
      )

  pub spot_below : (from spot : ℕ) → Some spot ≡ place_from c.rows.table c.foreign at from → (from ≤ spot) × (spot < fm.len c.rows.table)
  spot_below from spot e =
      let s = spot_of_child from spot e in
      let k = key_of_spot spot s.1 s.2 in
      (s.0, subst (λ m. spot < fm.len m) same_table (spot_within here spot k.0 k.1))

  -- past a row that none leads to
  pub none_more : (from spot : ℕ) → NoneBefore from → Some spot ≡ place_from c.rows.table c.foreign at from
      → ((k : Row) → IsKeyAt (fm.entries here) k spot → HasNonePassing test (layers_of t) (tables_of t) (suc i) k) → NoneBefore (spot + 1)
  none_more from spot before e none j k lt key child = elim (cases_lt j from) [
    | inl below ↦ before j k below key child
    | inr above ↦ elim (cases_lt j spot) [
      | inl earlier ↦
          let f = found_there k j key child in
          let sum : from + (j - from) ≡ j = omega (arith, above) in
          let no = first_before (has_key c.foreign at) from (drop from (fm.values c.rows.table)) spot (sym e) (j - from) f.0 (omega (arith, sum, earlier)) (dropped_at (fm.values c.rows.table) from (j - from) ∙ ap (slice_get (fm.values c.rows.table)) sum ∙ f.1) in
          let z : true ≡ false = sym f.2 ∙ no in cc
      | inr later ↦ let same : j ≡ spot = omega (arith, lt, later) in none k (subst (IsKeyAt (fm.entries here) k) same key)
    ]
  ]

  -- and behind the last one
  pub none_end : (from : ℕ) → NoneBefore from → None ≡ place_from c.rows.table c.foreign at from → HasNoneBy test (layers_of t) (tables_of t) top at i
  none_end from before e k child =
      let at_k = has_at here k child.row child.found in
      let j = at_k.0 in
      let key = mapped_at (λ (y : Row × Row). y.0) (fm.entries here) j (k, child.row) at_k.1 in
      elim (cases_lt j from) [
        | inl below ↦ before j k below key child
        | inr above ↦
            let f = found_there k j key child in
            let sum : from + (j - from) ≡ j = omega (arith, above) in
            let no = first_none (has_key c.foreign at) from (drop from (fm.values c.rows.table)) (sym e) (j - from) f.0 (dropped_at (fm.values c.rows.table) from (j - from) ∙ ap (slice_get (fm.values c.rows.table)) sum ∙ f.1) in
            let z : true ≡ false = sym f.2 ∙ no in cc
      ]

  -- one that leads to a row that was found
  pub passes_there : (from spot : ℕ) → Some spot ≡ place_from c.rows.table c.foreign at from → IsKeyedBy c.rows.places c.rows.table → c.parent ≡ top → top ≤ i → (row : Row) → fm.get (kept_at (tables_of t) top) at ≡ Some row
      → ((k : Row) → IsKeyAt (fm.entries here) k spot → HasPassing test (layers_of t) (tables_of t) (suc i) k) → HasPassing test (layers_of t) (tables_of t) top at
  passes_there from spot e keyed parent le row found h =
      let s = spot_of_child from spot e in
      let k = key_of_spot spot s.1 s.2 in
      let child : IsChildKey (layers_of t) (tables_of t) top at i k.0 = record { layer = layer_of c; row = s.1; there = slice_get_map layer_of t.children.items i c is; parent = parent; found = k.2; refers = s.3 } in
      passes_by (layers_of t) (tables_of t) top at test i k.0 child (keyed k.0 s.1 (ap (λ m. fm.get m k.0) (sym same_table) ∙ k.2)) (ap is_some found) le (h k.0 k.1)

  -- a table whose parent is another has none
  pub none_elsewhere : (c.parent ≡ top → ⊥) → HasNoneBy test (layers_of t) (tables_of t) top at i
  none_elsewhere other k child =
      let z : Some child.layer ≡ Some (layer_of c) = sym child.there ∙ slice_get_map layer_of t.children.items i c is in
      let w : child.layer ≡ layer_of c = cc in
      absurd (other (sym (ap (λ (x : Layer). x.parent) w) ∙ child.parent))

-- none by way of the tables before the row's own, and none by way of those behind it that were gone through
pub none_through : (test : ℕ → Row → Bool) (t : TreeRows) (place : ℕ) (key : Row) (end : ℕ) → AreJoined t → length t.children.items ≤ end
    → ((i : ℕ) → place ≤ i → i < end → HasNoneBy test (layers_of t) (tables_of t) place key i) → (i : ℕ) → HasNoneBy test (layers_of t) (tables_of t) place key i
none_through test t place key end joined le none i k child =
    let d = layer_got t.children.items i child.layer child.there in
    let lt = inside t.children.items i d.0 d.1 in
    let before = (joined i d.0 d.1).before in
    elim (cases_lt i place) [
      | inl below ↦ none_elsewhere test t place key i d.0 d.1 (λ e. absurd (omega (arith, e, before, below))) k child
      | inr above ↦ none i above (omega (arith, lt, le)) k child
    ]
