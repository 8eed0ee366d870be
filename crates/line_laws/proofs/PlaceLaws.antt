-- A group that is changed by its name, and by its place.
use Rattle.std.proofs.Common.{◌≡◌, ℕ, zero, suc, ◌+◌, ◌<◌, Bool, true, false, cond, ◌||◌, nat_eq, Some, List, [], ◌∷◌, map, slice_get, refl, sym, ap, subst, ◌∙◌, arith, eq-eqb}
use Rattle.std.specs.List.{list_any}
use Rattle.std.proofs.lemmas.Cmp.{nat_list_eq_equiv}
use Rattle.order_laws.proofs.NextLaws.{nat_eq_other}
use Rattle.order_laws.proofs.TruthLaws.{same_some}
use Rattle.cache_tier.specs.Groups.{Group, defines_name, is_called}
use Rattle.cache_tier.specs.Sets.{alone, changed_from}
use Rattle.recovery.specs.Journalled.{AreAlike, IsAlike}
use Rattle.recovery.proofs.JournalledLaws.{turned}
use Rattle.recovery.proofs.NewestLaws.{NamesApart}

or_both : (a b : Bool) → (a || b) ≡ false → (a ≡ false) × (b ≡ false)
or_both true b e = Prim.cc
or_both false b e = (refl, e)

none_turned : (name : List ℕ) (change : Group → Group) (gs : List Group) → list_any (is_called name) gs ≡ false → map (turned name change) gs ≡ gs
none_turned name change [] none = refl
none_turned name change (g ∷ gs) none =
    let both = or_both (is_called name g) (list_any (is_called name) gs) none in
    λ i. cond (both.0 i) (change g) g ∷ none_turned name change gs both.1 i

pub above_stay : (change : Group → Group) (p k : ℕ) (gs : List Group) → p < k → changed_from (alone p) change k gs ≡ gs
above_stay change p k [] lt = refl
above_stay change p k (g ∷ gs) lt =
    let other : nat_eq k p ≡ false = nat_eq_other k p (λ e. (let same : k ≡ p = e in absurd (omega (arith, same, lt)))) in
    λ i. cond (other i) (change g) g ∷ above_stay change p (suc k) gs (omega (arith, lt)) i

pub none_at : (name : List ℕ) (gs : List Group) (i : ℕ) (g : Group) → list_any (is_called name) gs ≡ false → slice_get gs i ≡ Some g → is_called name g ≡ false
none_at name [] i g none at = Prim.cc
none_at name (x ∷ gs) zero g none at = ap (is_called name) (sym (same_some at)) ∙ (or_both (is_called name x) (list_any (is_called name) gs) none).0
none_at name (x ∷ gs) (suc i) g none at = none_at name gs i g (or_both (is_called name x) (list_any (is_called name) gs) none).1 at

turned_from : (change : Group → Group) (gs : List Group) (i k p : ℕ) (g : Group) → p ≡ k + i → NamesApart gs → slice_get gs i ≡ Some g → map (turned g.def.name change) gs ≡ changed_from (alone p) change k gs
turned_from change [] i k p g e apart at = Prim.cc
turned_from change (x ∷ gs) zero k p g e apart at =
    let same : x ≡ g = same_some at in
    let called : is_called g.def.name x ≡ true = ap (is_called g.def.name) same ∙ nat_list_eq_equiv.refl g.def.name in
    let here : nat_eq k p ≡ true = eq-eqb k p (omega (arith, e)) in
    let none : list_any (is_called g.def.name) gs ≡ false = ap (λ (h : Group). list_any (is_called h.def.name) gs) (sym same) ∙ apart.0 in
    (λ j. cond (called j) (change x) x ∷ none_turned g.def.name change gs none j) ∙ sym (λ j. cond (here j) (change x) x ∷ above_stay change p (suc k) gs (omega (arith, e)) j)
turned_from change (x ∷ gs) (suc i) k p g e apart at =
    let other : is_called g.def.name x ≡ false = nat_list_eq_equiv.symm x.def.name g.def.name ∙ none_at x.def.name gs i g apart.0 at in
    let past : nat_eq k p ≡ false = nat_eq_other k p (λ same. (let s : k ≡ p = same in absurd (omega (arith, e, s)))) in
    (λ j. cond (other j) (change x) x ∷ turned_from change gs i (suc k) p g (omega (arith, e)) apart.1 at j) ∙ sym (λ j. cond (past j) (change x) x ∷ changed_from (alone p) change (suc k) gs)

-- the group of this name is the one at this place
pub turned_at : (change : Group → Group) (gs : List Group) (p : ℕ) (g : Group) → NamesApart gs → slice_get gs p ≡ Some g → map (turned g.def.name change) gs ≡ changed_from (alone p) change 0 gs
turned_at change gs p g apart at = turned_from change gs p 0 p g (omega arith) apart at

pub turned_twice : (name : List ℕ) (one other : Group → Group) → ((g : Group) → (one g).def ≡ g.def) → (gs : List Group) → map (turned name other) (map (turned name one) gs) ≡ map (turned name (λ g. other (one g))) gs
turned_twice name one other same [] = refl
turned_twice name one other same (g ∷ gs) = λ i. by (is_called name g) refl i ∷ turned_twice name one other same gs i
  where
    by : (b : Bool) → is_called name g ≡ b → turned name other (turned name one g) ≡ turned name (λ h. other (one h)) g
    by true e =
        ap (turned name other) (ap (λ b. cond b (one g) g) e)
        ∙ ap (λ b. cond b (other (one g)) (one g)) (ap (defines_name name) (same g) ∙ e)
        ∙ sym (ap (λ b. cond b (other (one g)) g) e)
    by false e =
        ap (turned name other) (ap (λ b. cond b (one g) g) e) ∙ ap (λ b. cond b (other g) g) e ∙ sym (ap (λ b. cond b (other (one g)) g) e)

alike_from : (one other : Group → Group) (gs hs : List Group) (i k p : ℕ) (g : Group) → p ≡ k + i → slice_get gs i ≡ Some g → ((h : Group) → IsAlike g h → IsAlike (one g) (other h)) → AreAlike gs hs
    → AreAlike (changed_from (alone p) one k gs) (changed_from (alone p) other k hs)
alike_from one other [] hs i k p g e at so are = Prim.cc
alike_from one other (x ∷ gs) [] i k p g e at so are = absurd are
alike_from one other (x ∷ gs) (y ∷ hs) zero k p g e at so are =
    let here : nat_eq k p ≡ true = eq-eqb k p (omega (arith, e)) in
    let same : x ≡ g = same_some at in (
      subst (λ b. IsAlike (cond b (one x) x) (cond b (other y) y)) (sym here) (subst (λ z. IsAlike (one z) (other y)) (sym same) (so y (subst (λ z. IsAlike z y) same are.0))),
      subst (λ l. AreAlike l (changed_from (alone p) other (suc k) hs)) (sym (above_stay one p (suc k) gs (omega (arith, e)))) (subst (AreAlike gs) (sym (above_stay other p (suc k) hs (omega (arith, e)))) are.1),
    )
alike_from one other (x ∷ gs) (y ∷ hs) (suc i) k p g e at so are =
    let past : nat_eq k p ≡ false = nat_eq_other k p (λ same. (let s : k ≡ p = same in absurd (omega (arith, e, s)))) in
    (subst (λ b. IsAlike (cond b (one x) x) (cond b (other y) y)) (sym past) are.0, alike_from one other gs hs i (suc k) p g (omega (arith, e)) at so are.1)

-- groups that are alike stay so where one of them is changed
pub alike_at : (one other : Group → Group) (gs hs : List Group) (p : ℕ) (g : Group) → slice_get gs p ≡ Some g → ((h : Group) → IsAlike g h → IsAlike (one g) (other h)) → AreAlike gs hs
    → AreAlike (changed_from (alone p) one 0 gs) (changed_from (alone p) other 0 hs)
alike_at one other gs hs p g at so are = alike_from one other gs hs p 0 p g (omega arith) at so are

pub same_changed : (chosen : Rattle.cache_tier.specs.Sets.Choice) (k : ℕ) (gs : List Group) → changed_from chosen (λ g. g) k gs ≡ gs
same_changed chosen k [] = refl
same_changed chosen k (g ∷ gs) = λ i. by (chosen k g) i ∷ same_changed chosen (suc k) gs i
  where
    by : (b : Bool) → cond b g g ≡ g
    by true = refl
    by false = refl
