-- What a row that leaves a table changes of what leads where.
use Rattle.std.proofs.Common.{◌≡◌, ℕ, zero, suc, ◌+◌, ◌-◌, ◌<◌, ◌≤◌, Bool, true, false, not, cond, ◌&&◌, ◌||◌, inl, inr, List, [], ◌∷◌, length, nat_eq, slice_get, Option, Some, None, is_some, unwrap_or, refl, sym, ap, subst, ◌∙◌, eq-eqb, eqb-true, arith}
use Rattle.std.specs.Option.{option_and_then, option_map}
use Rattle.std.specs.FinMap as fm
use Rattle.slot_rows.specs.row_types.specs.declared.value.Value.{Value}
use Rattle.slot_rows.specs.row_types.specs.Order.{key_order}
use Rattle.slot_rows.specs.row_types.proofs.OrderLaws.{key_exact, key_total}
use Rattle.slot_rows.specs.indexed_rows.specs.Rows.{Table, is_same, key_of}
use Rattle.slot_rows.specs.indexed_rows.proofs.EntryLaws.{same_values}
use Rattle.cache_store.specs.instances.specs.Views.{kept_at}
use Rattle.cache_store.specs.Operating.{change_at}
use Rattle.group_store.specs.Trees.{IsBare, IsChild, IsChildless, Layer, cut_from, is_top, keep, leads, parent_of, passes_up}
use Rattle.group_store.proofs.RecentLaws.{same_itself}

abbrev Row : Type 0
Row = List Value

-- one table of a list changes
pub kept_here : (ts : List Table) (place : ℕ) (f : Table → Table) → place < length ts → kept_at (change_at place f ts) place ≡ f (kept_at ts place)
kept_here [] place f w = absurd (omega (arith, w))
kept_here (t ∷ ts) zero f w = refl
kept_here (t ∷ ts) (suc place) f w = kept_here ts place f (omega (arith, w))

pub kept_else : (ts : List Table) (place : ℕ) (f : Table → Table) (q : ℕ) → (q ≡ place → ⊥) → kept_at (change_at place f ts) q ≡ kept_at ts q
kept_else [] place f q n = refl
kept_else (t ∷ ts) zero f zero n = absurd (n refl)
kept_else (t ∷ ts) zero f (suc q) n = refl
kept_else (t ∷ ts) (suc place) f zero n = refl
kept_else (t ∷ ts) (suc place) f (suc q) n = kept_else ts place f q (λ e. n (ap suc e))

pub long_change : (ts : List Table) (place : ℕ) (f : Table → Table) → length (change_at place f ts) ≡ length ts
long_change [] place f = refl
long_change (t ∷ ts) zero f = refl
long_change (t ∷ ts) (suc place) f = ap suc (long_change ts place f)

-- how many rows there are
abbrev pub count_rows : List Table → ℕ
count_rows [] = 0
count_rows (t ∷ ts) = fm.len t + count_rows ts

some_rows : (t : Table) (k : Row) → fm.contains_key t k ≡ true → 0 < fm.len t
some_rows t k has = by (fm.len t) refl
  where
    by : (n : ℕ) → fm.len t ≡ n → 0 < n
    by zero e = let z : false ≡ true = sym (ap is_some (fm.get-empty key_order k)) ∙ ap (λ m. fm.contains_key m k) (sym (fm.empty_of_len t e)) ∙ has in cc
    by (suc n) e = omega arith

pub fewer_rows : (ts : List Table) (place : ℕ) (k : Row) → fm.contains_key (kept_at ts place) k ≡ true → count_rows (change_at place (λ t. fm.remove t k) ts) < count_rows ts
fewer_rows [] place k has = let z : false ≡ true = sym (ap is_some (fm.get-empty key_order k)) ∙ has in cc
fewer_rows (t ∷ ts) zero k has =
    let less = fm.len-remove key_total t k ∙ ap (λ b. cond b (fm.len t - 1) (fm.len t)) has in
    let some = some_rows t k has in
    omega (arith, less, some)
fewer_rows (t ∷ ts) (suc place) k has = let less = fewer_rows ts place k has in omega (arith, less)

-- what is kept
module _ (P : Row → Bool) where
  get_kept : (t : Table) (k : Row) → fm.get (fm.retain_keys t P) k ≡ cond (P k) (fm.get t k) None
  get_kept t k = fm.get-retain_keys t P k (λ x e. ap P (sym (key_exact k x e)))

pub keep_same : (P Q : ℕ → Row → Bool) (ss ts : List Table) → length ss ≡ length ts → ((i : ℕ) (k : Row) → cond (P i k) (fm.get (kept_at ss i) k) None ≡ cond (Q i k) (fm.get (kept_at ts i) k) None) → keep P ss ≡ keep Q ts
keep_same P Q [] [] long h = refl
keep_same P Q [] (t ∷ ts) long h = absurd (omega (arith, long))
keep_same P Q (s ∷ ss) [] long h = absurd (omega (arith, long))
keep_same P Q (s ∷ ss) (t ∷ ts) long h =
    let first = fm.same_map key_total key_exact (fm.retain_keys s (P 0)) (fm.retain_keys t (Q 0)) (λ k. get_kept (P 0) s k ∙ h 0 k ∙ sym (get_kept (Q 0) t k)) in
    let rest = keep_same (λ i. P (suc i)) (λ i. Q (suc i)) ss ts (omega (arith, long)) (λ i k. h (suc i) k) in
    λ j. first j ∷ rest j

pub keep_is : (P : ℕ → Row → Bool) (ss ts : List Table) → length ss ≡ length ts → ((i : ℕ) (k : Row) → cond (P i k) (fm.get (kept_at ss i) k) None ≡ fm.get (kept_at ts i) k) → keep P ss ≡ ts
keep_is P [] [] long h = refl
keep_is P [] (t ∷ ts) long h = absurd (omega (arith, long))
keep_is P (s ∷ ss) [] long h = absurd (omega (arith, long))
keep_is P (s ∷ ss) (t ∷ ts) long h =
    let first = fm.same_map key_total key_exact (fm.retain_keys s (P 0)) t (λ k. get_kept (P 0) s k ∙ h 0 k) in
    let rest = keep_is (λ i. P (suc i)) ss ts (omega (arith, long)) (λ i k. h (suc i) k) in
    λ j. first j ∷ rest j

-- tests of places and keys
abbrev pub at_it : ℕ → Row → ℕ → Row → Bool
at_it place key q k = nat_eq q place && is_same k key

both : (a b : Bool) → (a && b) ≡ true → (a ≡ true) × (b ≡ true)
both true true e = (refl, refl)
both true false e = cc
both false b e = cc

or_true : (b : Bool) → (b || true) ≡ true
or_true true = refl
or_true false = refl

pub it_is : (place : ℕ) (key : Row) (q : ℕ) (k : Row) → at_it place key q k ≡ true → (q ≡ place) × (k ≡ key)
it_is place key q k e = let b = both (nat_eq q place) (is_same k key) e in (eqb-true q place b.0, same_values k key b.1)

pub it_itself : (place : ℕ) (key : Row) → at_it place key place key ≡ true
it_itself place key = ap (λ b. b && is_same key key) (eq-eqb place place refl) ∙ same_itself key

same_both : (b : Bool) → ◌≡◌ {A = Option Row} (cond b None None) None
same_both true = refl
same_both false = refl

and_false : (b : Bool) → (b && false) ≡ false
and_false true = refl
and_false false = refl

-- what a foreign key names
pub record NamesParent (layers : List Layer) (tables : List Table) (q : ℕ) (k : Row) (e : ℕ × Row) : Type 0 where
  pub i : ℕ
  pub layer : Layer
  pub row : Row
  pub is : q ≡ suc i
  pub there : slice_get layers i ≡ Some layer
  pub found : fm.get (kept_at tables (suc i)) k ≡ Some row
  pub parent : e.0 ≡ layer.parent
  pub refers : e.1 ≡ key_of layer.foreign row

module _ (layers : List Layer) (tables : List Table) where
  pub names_parent : (q : ℕ) (k : Row) (e : ℕ × Row) → parent_of layers tables q k ≡ Some e → NamesParent layers tables q k e
  names_parent zero k e h = cc
  names_parent (suc i) k e h = by (slice_get layers i) refl h
    where
      at : (l : Layer) → slice_get layers i ≡ Some l → (o : Option Row) → fm.get (kept_at tables (suc i)) k ≡ o → option_map (λ row. (l.parent, key_of l.foreign row)) o ≡ Some e → NamesParent layers tables (suc i) k e
      at l is None f h = cc
      at l is (Some row) f h =
          let z : Some (l.parent, key_of l.foreign row) ≡ Some e = h in
          record { i = i; layer = l; row = row; is = refl; there = is; found = f; parent = sym (ap (λ o. (unwrap_or o e).0) z); refers = sym (ap (λ o. (unwrap_or o e).1) z) }

      by : (o : Option Layer) → slice_get layers i ≡ o → option_and_then (λ l. option_map (λ row. (l.parent, key_of l.foreign row)) (fm.get (kept_at tables (suc i)) k)) o ≡ Some e → NamesParent layers tables (suc i) k e
      by None is h = cc
      by (Some l) is h = at l is (fm.get (kept_at tables (suc i)) k) refl h

  -- a child's parent is this
  pub parent_is : (i : ℕ) (l : Layer) (k row : Row) → slice_get layers i ≡ Some l → fm.get (kept_at tables (suc i)) k ≡ Some row → parent_of layers tables (suc i) k ≡ Some (l.parent, key_of l.foreign row)
  parent_is i l k row is f =
      ap (option_and_then (λ (l : Layer). option_map (λ row. (l.parent, key_of l.foreign row)) (fm.get (kept_at tables (suc i)) k))) is
      ∙ ap (option_map (λ row. (l.parent, key_of l.foreign row))) f

  module _ (top : ℕ) (at : Row) where
    abbrev reaches : ℕ → ℕ → Row → Bool
    reaches n q k = leads layers tables top at n q k

    -- over more foreign keys too
    pub more_steps : (n : ℕ) (q : ℕ) (k : Row) → reaches n q k ≡ true → reaches (suc n) q k ≡ true
    more_steps zero q k e = ap (λ b. b || passes_up (reaches zero) (parent_of layers tables q k)) e
    more_steps (suc n) q k e = by (is_top tables top at q k) (parent_of layers tables q k) (λ p r h. more_steps n p r h) e
      where
        by : (b : Bool) (o : Option (ℕ × Row)) → ((p : ℕ) (r : Row) → reaches n p r ≡ true → reaches (suc n) p r ≡ true) → (b || passes_up (reaches n) o) ≡ true → (b || passes_up (reaches (suc n)) o) ≡ true
        by true o ih e = refl
        by false None ih e = e
        by false (Some x) ih e = ih x.0 x.1 e

    pub many_steps : (m n : ℕ) (q : ℕ) (k : Row) → reaches n q k ≡ true → reaches (m + n) q k ≡ true
    many_steps zero n q k e = subst (λ x. reaches x q k ≡ true) (let z : n ≡ zero + n = omega arith in z) e
    many_steps (suc m) n q k e = subst (λ x. reaches x q k ≡ true) (let z : suc (m + n) ≡ suc m + n = omega arith in z) (more_steps (m + n) q k (many_steps m n q k e))

    pub up_to : (n m : ℕ) (q : ℕ) (k : Row) → n ≤ m → reaches n q k ≡ true → reaches m q k ≡ true
    up_to n m q k le e = by (more m n le)
      where
        more : (m n : ℕ) → n ≤ m → (d : ℕ) × (d + n ≡ m)
        more m zero le = (m, omega arith)
        more zero (suc n) le = absurd (omega (arith, le))
        more (suc m) (suc n) le = let r = more m n (omega (arith, le)) in let h = r.1 in (r.0, omega (arith, h))

        by : (d : ℕ) × (d + n ≡ m) → reaches m q k ≡ true
        by d = subst (λ x. reaches x q k ≡ true) d.1 (many_steps d.0 n q k e)

    pub top_leads : (n : ℕ) → fm.contains_key (kept_at tables top) at ≡ true → reaches n top at ≡ true
    top_leads n has = by n (ap (λ b. b && fm.contains_key (kept_at tables top) at) (it_itself top at) ∙ has)
      where
        by : (n : ℕ) → is_top tables top at top at ≡ true → reaches n top at ≡ true
        by zero h = h
        by (suc n) h = ap (λ b. b || passes_up (reaches n) (parent_of layers tables top at)) h

    -- what leads to a child leads to its parent
    module _ (c : ℕ) (row : Row) (child : IsChild layers tables top at c row) (has : fm.contains_key (kept_at tables top) at ≡ true) where
      abbrev child_key : Row
      child_key = key_of child.layer.key row

      child_leads : reaches 1 c child_key ≡ true
      child_leads = subst (λ p. reaches 1 p child_key ≡ true) (sym child.is) (
          ap (λ o. is_top tables top at (suc child.i) child_key || passes_up (reaches zero) o)
          (parent_is child.i child.layer child_key row child.there (subst (λ p. fm.get (kept_at tables p) child_key ≡ Some row) child.is child.found))
          ∙ ap (λ b. is_top tables top at (suc child.i) child_key || b) (ap (λ p. reaches zero p (key_of child.layer.foreign row)) child.parent ∙ ap (reaches zero top) child.refers ∙ top_leads zero has)
          ∙ or_true (is_top tables top at (suc child.i) child_key)
          )

      top_child : (n q : ℕ) (k : Row) → is_top tables c child_key q k ≡ true → reaches (suc n) q k ≡ true
      top_child n q k e =
          let is = it_is c child_key q k (both (at_it c child_key q k) (fm.contains_key (kept_at tables c) child_key) e).0 in
          up_to 1 (suc n) q k (omega arith) (subst (λ p. reaches 1 p k ≡ true) (sym is.0) (subst (λ r. reaches 1 c r ≡ true) (sym is.1) child_leads))

      pub through_child : (n q : ℕ) (k : Row) → leads layers tables c child_key n q k ≡ true → reaches (suc n) q k ≡ true
      through_child zero q k e = top_child zero q k e
      through_child (suc n) q k e = by (is_top tables c child_key q k) refl (parent_of layers tables q k) refl e (λ p r h. through_child n p r h)
        where
          by : (b : Bool) → is_top tables c child_key q k ≡ b → (o : Option (ℕ × Row)) → parent_of layers tables q k ≡ o → (b || passes_up (leads layers tables c child_key n) o) ≡ true
              → ((p : ℕ) (r : Row) → leads layers tables c child_key n p r ≡ true → reaches (suc n) p r ≡ true) → reaches (suc (suc n)) q k ≡ true
          by true t o f e ih = top_child (suc n) q k t
          by false t None f e ih = cc
          by false t (Some x) f e ih = ap (λ o. is_top tables top at q k || passes_up (reaches (suc n)) o) f ∙ ap (λ b. is_top tables top at q k || b) (ih x.0 x.1 e) ∙ or_true (is_top tables top at q k)

    -- nothing leads to a row that isn't there
    pub absent_leads : fm.contains_key (kept_at tables top) at ≡ false → (n q : ℕ) (k : Row) → reaches n q k ≡ false
    absent_leads gone zero q k = ap (λ c. at_it top at q k && c) gone ∙ and_false (at_it top at q k)
    absent_leads gone (suc n) q k =
        ap (λ c. (at_it top at q k && c) || passes_up (reaches n) (parent_of layers tables q k)) gone ∙ ap (λ b. b || passes_up (reaches n) (parent_of layers tables q k)) (and_false (at_it top at q k))
        ∙ up (parent_of layers tables q k) (absent_leads gone n)
      where
        up : (o : Option (ℕ × Row)) → ((p : ℕ) (r : Row) → reaches n p r ≡ false) → passes_up (reaches n) o ≡ false
        up None h = refl
        up (Some x) h = h x.0 x.1

    -- nothing else leads to a row that no row refers to
    pub childless_leads : IsChildless layers tables top at → (n q : ℕ) (k : Row) → at_it top at q k ≡ false → reaches n q k ≡ false
    childless_leads childless zero q k other = ap (λ b. b && fm.contains_key (kept_at tables top) at) other
    childless_leads childless (suc n) q k other =
        ap (λ b. (b && fm.contains_key (kept_at tables top) at) || passes_up (reaches n) (parent_of layers tables q k)) other
        ∙ by (parent_of layers tables q k) refl (λ p r h. childless_leads childless n p r h)
      where
        by : (o : Option (ℕ × Row)) → parent_of layers tables q k ≡ o → ((p : ℕ) (r : Row) → at_it top at p r ≡ false → reaches n p r ≡ false) → passes_up (reaches n) o ≡ false
        by None f ih = refl
        by (Some x) f ih = test (at_it top at x.0 x.1) refl (names_parent q k x f)
          where
            test : (b : Bool) → at_it top at x.0 x.1 ≡ b → NamesParent layers tables q k x → reaches n x.0 x.1 ≡ false
            test true t names =
                let is = it_is top at x.0 x.1 t in
                absurd (childless names.i names.layer k names.row names.there (sym names.parent ∙ is.0) names.found (sym names.refers ∙ is.1))
            test false t names = ih x.0 x.1 t

    pub none_leads : IsBare layers tables top at → (n q : ℕ) (k : Row) → at_it top at q k ≡ false → reaches n q k ≡ false
    none_leads bare n q k other = elim bare [
      | inl absent ↦ absent_leads absent n q k
      | inr childless ↦ childless_leads childless n q k other
    ]

  -- a row that no row refers to leaves
  module _ (place : ℕ) (key : Row) (w : place < length tables) where
    abbrev left : List Table
    left = change_at place (λ t. fm.remove t key) tables

    got_left : (q : ℕ) (k : Row) → fm.get (kept_at left q) k ≡ cond (at_it place key q k) None (fm.get (kept_at tables q) k)
    got_left q k = by (nat_eq q place) refl
      where
        by : (b : Bool) → nat_eq q place ≡ b → fm.get (kept_at left q) k ≡ cond (nat_eq q place && is_same k key) None (fm.get (kept_at tables q) k)
        by true e =
            let is : q ≡ place = eqb-true q place e in
            let here : kept_at left q ≡ fm.remove (kept_at tables q) key = subst (λ p. kept_at left p ≡ fm.remove (kept_at tables p) key) (sym is) (kept_here tables place (λ t. fm.remove t key) w) in
            ap (λ t. fm.get t k) here ∙ fm.get-remove key_total (kept_at tables q) key k ∙ sym (ap (λ b. cond (b && is_same k key) None (fm.get (kept_at tables q) k)) e)
        by false e =
            let n : q ≡ place → ⊥ = λ is. let z : true ≡ false = sym (eq-eqb q place is) ∙ e in cc in
            ap (λ t. fm.get t k) (kept_else tables place (λ t. fm.remove t key) q n) ∙ sym (ap (λ b. cond (b && is_same k key) None (fm.get (kept_at tables q) k)) e)

    got_other : (q : ℕ) (k : Row) → at_it place key q k ≡ false → fm.get (kept_at left q) k ≡ fm.get (kept_at tables q) k
    got_other q k e = got_left q k ∙ ap (λ b. cond b None (fm.get (kept_at tables q) k)) e

    module _ (childless : IsChildless layers tables place key) (top : ℕ) (at : Row) where
      top_stays : (q : ℕ) (k : Row) → at_it place key q k ≡ false → is_top left top at q k ≡ is_top tables top at q k
      top_stays q k e = by (at_it top at q k) refl
        where
          by : (b : Bool) → at_it top at q k ≡ b → (at_it top at q k && fm.contains_key (kept_at left top) at) ≡ (at_it top at q k && fm.contains_key (kept_at tables top) at)
          by true t =
              let is = it_is top at q k t in
              let other : at_it place key top at ≡ false = subst (λ p. at_it place key p at ≡ false) is.0 (subst (λ r. at_it place key q r ≡ false) is.1 e) in
              ap (λ o. at_it top at q k && is_some o) (got_other top at other)
          by false t = ap (λ b. b && fm.contains_key (kept_at left top) at) t ∙ sym (ap (λ b. b && fm.contains_key (kept_at tables top) at) t)

      parent_stays : (q : ℕ) (k : Row) → at_it place key q k ≡ false → parent_of layers left q k ≡ parent_of layers tables q k
      parent_stays zero k e = refl
      parent_stays (suc i) k e = ap (λ o. option_and_then (λ (l : Layer). option_map (λ row. (l.parent, key_of l.foreign row)) o) (slice_get layers i)) (got_other (suc i) k e)

      pub leads_stay : (n q : ℕ) (k : Row) → at_it place key q k ≡ false → leads layers left top at n q k ≡ leads layers tables top at n q k
      leads_stay zero q k e = top_stays q k e
      leads_stay (suc n) q k e =
          ap (λ b. b || passes_up (leads layers left top at n) (parent_of layers left q k)) (top_stays q k e)
          ∙ ap (λ o. is_top tables top at q k || passes_up (leads layers left top at n) o) (parent_stays q k e)
          ∙ ap (λ b. is_top tables top at q k || b) (by (parent_of layers tables q k) refl (λ p r h. leads_stay n p r h))
        where
          by : (o : Option (ℕ × Row)) → parent_of layers tables q k ≡ o → ((p : ℕ) (r : Row) → at_it place key p r ≡ false → leads layers left top at n p r ≡ leads layers tables top at n p r) → passes_up (leads layers left top at n) o ≡ passes_up (leads layers tables top at n) o
          by None f ih = refl
          by (Some x) f ih = test (at_it place key x.0 x.1) refl (names_parent q k x f)
            where
              test : (b : Bool) → at_it place key x.0 x.1 ≡ b → NamesParent layers tables q k x → leads layers left top at n x.0 x.1 ≡ leads layers tables top at n x.0 x.1
              test true t names =
                  let is = it_is place key x.0 x.1 t in
                  absurd (childless names.i names.layer k names.row names.there (sym names.parent ∙ is.0) names.found (sym names.refers ∙ is.1))
              test false t names = ih x.0 x.1 t

      -- what is left without the row at the top stays
      pub cut_stays : leads layers tables top at (length layers) place key ≡ true → cut_from layers left top at ≡ cut_from layers tables top at
      cut_stays led = keep_same (λ q k. not (leads layers left top at (length layers) q k)) (λ q k. not (leads layers tables top at (length layers) q k)) left tables (long_change tables place (λ t. fm.remove t key)) (λ q k. by q k (at_it place key q k) refl)
        where
          by : (q : ℕ) (k : Row) (b : Bool) → at_it place key q k ≡ b
              → cond (not (leads layers left top at (length layers) q k)) (fm.get (kept_at left q) k) None ≡ cond (not (leads layers tables top at (length layers) q k)) (fm.get (kept_at tables q) k) None
          by q k true e =
              let is = it_is place key q k e in
              let here : leads layers tables top at (length layers) q k ≡ true = subst (λ p. leads layers tables top at (length layers) p k ≡ true) (sym is.0) (subst (λ r. leads layers tables top at (length layers) place r ≡ true) (sym is.1) led) in
              let gone : fm.get (kept_at left q) k ≡ None = got_left q k ∙ ap (λ b. cond b None (fm.get (kept_at tables q) k)) e in
              ap (λ o. cond (not (leads layers left top at (length layers) q k)) o None) gone ∙ same_both (not (leads layers left top at (length layers) q k)) ∙ sym (ap (λ b. cond (not b) (fm.get (kept_at tables q) k) None) here)
          by q k false e =
              ap (λ b. cond (not b) (fm.get (kept_at left q) k) None) (leads_stay (length layers) q k e) ∙ ap (λ o. cond (not (leads layers tables top at (length layers) q k)) o None) (got_other q k e)

    -- without the row itself, where nothing else leads to it
    pub cut_done : IsBare layers tables place key → cut_from layers tables place key ≡ left
    cut_done bare = keep_is (λ q k. not (leads layers tables place key (length layers) q k)) tables left (sym (long_change tables place (λ t. fm.remove t key))) (λ q k. by q k (at_it place key q k) refl)
      where
        none : (o : Option Row) → fm.get (kept_at tables place) key ≡ o → cond (not (leads layers tables place key (length layers) place key)) (fm.get (kept_at tables place) key) None ≡ None
        none None f = ap (λ o. cond (not (leads layers tables place key (length layers) place key)) o None) f ∙ same_both (not (leads layers tables place key (length layers) place key))
        none (Some x) f = ap (λ b. cond (not b) (fm.get (kept_at tables place) key) None) (top_leads place key (length layers) (ap is_some f))

        by : (q : ℕ) (k : Row) (b : Bool) → at_it place key q k ≡ b → cond (not (leads layers tables place key (length layers) q k)) (fm.get (kept_at tables q) k) None ≡ fm.get (kept_at left q) k
        by q k true e =
            let is = it_is place key q k e in
            subst (λ p. cond (not (leads layers tables place key (length layers) p k)) (fm.get (kept_at tables p) k) None ≡ None) (sym is.0)
            (subst (λ r. cond (not (leads layers tables place key (length layers) place r)) (fm.get (kept_at tables place) r) None ≡ None) (sym is.1) (none (fm.get (kept_at tables place) key) refl))
            ∙ sym (got_left q k ∙ ap (λ b. cond b None (fm.get (kept_at tables q) k)) e)
        by q k false e = ap (λ b. cond (not b) (fm.get (kept_at tables q) k) None) (none_leads place key bare (length layers) q k e) ∙ sym (got_other q k e)
