-- The position since which a set is refreshed is that of each of its groups that keep rows.
use Rattle.std.proofs.Common.{◌≡◌, ℕ, zero, suc, ◌+◌, Bool, true, false, not, cond, ◌&&◌, ◌||◌, Option, Some, None, List, [], ◌∷◌, slice_get, refl, sym, ap, ◌∙◌, arith}
use Rattle.std.proofs.lemmas.Bool.{eqb-true}
use Rattle.instances.specs.Trees.{is_place}
use Rattle.order_laws.proofs.TruthLaws.{both_true}
use Rattle.cache_tier.specs.Groups.{Group, is_on, is_read_only}
use Rattle.cache_tier.specs.Sets.{Choice}
use Rattle.stored_tier.specs.Lists.{is_by_use}
use Rattle.stored_tier.specs.Refreshing.{is_filled}
use Rattle.changed_sets.specs.Since.{are_ready_since, asked_since, first_position, goes_by_changes, is_full, is_ready_since, since_where}

-- a group that goes by what changed since a position
pub record GoesSince (n : ℕ) (g : Group) : Type 0 where
  pub reads : is_read_only g ≡ true
  pub unused : g.def.dynamic ≡ false → is_by_use g.def.aging ≡ false
  pub there : g.position ≡ Some n
  pub full : (g.def.dynamic || g.loaded) ≡ true

ready_at : (chosen : Choice) (n from : ℕ) (groups : List Group) (k : ℕ) (g : Group) → are_ready_since chosen n from groups ≡ true → slice_get groups k ≡ Some g → is_ready_since chosen n (from + k) g ≡ true
ready_at chosen n from [] k g e at = cc
ready_at chosen n from (x ∷ groups) zero g e at =
    let z : from + 0 ≡ from = omega arith in
    let same : x ≡ g = cc in
    ap (λ m. is_ready_since chosen n m g) z ∙ ap (is_ready_since chosen n from) (sym same) ∙ (both_true (is_ready_since chosen n from x) (are_ready_since chosen n (suc from) groups) e).0
ready_at chosen n from (x ∷ groups) (suc k) g e at =
    let z : from + suc k ≡ suc from + k = omega arith in
    ap (λ m. is_ready_since chosen n m g) z ∙ ready_at chosen n (suc from) groups k g (both_true (is_ready_since chosen n from x) (are_ready_since chosen n (suc from) groups) e).1 at

not_true : (b : Bool) → not b ≡ true → b ≡ false
not_true true e = cc
not_true false e = refl

placed : (n : ℕ) (o : Option ℕ) → is_place n o ≡ true → o ≡ Some n
placed n None e = cc
placed n (Some m) e = ap Some (eqb-true m n e)

one_ready : (chosen : Choice) (n k : ℕ) (g : Group) → is_ready_since chosen n k g ≡ true → is_filled chosen None k g ≡ true → GoesSince n g
one_ready chosen n k g ready filled =
    let parts = both_true (chosen k g) (g.def.dynamic || (g.loaded || false)) filled in
    let keeps : (g.def.dynamic || g.loaded) ≡ true = ap (λ b. g.def.dynamic || b) (sym (or_false g.loaded)) ∙ parts.1 in
    let here : (goes_by_changes g && (not (g.def.dynamic || g.loaded) || (is_on g.state && is_place n g.position))) ≡ true =
    sym (ap (λ b. not b || (goes_by_changes g && (not (g.def.dynamic || g.loaded) || (is_on g.state && is_place n g.position)))) parts.0) ∙ ready in
    let two = both_true (goes_by_changes g) (not (g.def.dynamic || g.loaded) || (is_on g.state && is_place n g.position)) here in
    let goes = both_true (is_read_only g && not (is_full g.def.mode)) (g.def.dynamic || not (is_by_use g.def.aging)) two.0 in
    let on : (is_on g.state && is_place n g.position) ≡ true = sym (ap (λ b. not b || (is_on g.state && is_place n g.position)) keeps) ∙ two.1 in
    let place = (both_true (is_on g.state) (is_place n g.position) on).1 in
    record {
      reads = (both_true (is_read_only g) (not (is_full g.def.mode)) goes.0).0;
      unused = λ explicit. not_true (is_by_use g.def.aging) (sym (ap (λ d. d || not (is_by_use g.def.aging)) explicit) ∙ goes.1);
      there = placed n g.position place;
      full = keeps;
    }
  where
    or_false : (a : Bool) → (a || false) ≡ a
    or_false true = refl
    or_false false = refl

pub asked_law : (chosen : Choice) (groups : List Group) (n : ℕ) → asked_since chosen groups ≡ Some n → (k : ℕ) (g : Group) → slice_get groups k ≡ Some g → is_filled chosen None k g ≡ true → GoesSince n g
asked_law chosen groups n asks k g at filled = by (first_position (is_filled chosen None) 0 groups) asks
  where
    ready : (m : ℕ) (b : Bool) → are_ready_since chosen m 0 groups ≡ b → cond b (Some m) None ≡ Some n → are_ready_since chosen n 0 groups ≡ true
    ready m true e is = let same : m ≡ n = cc in ap (λ l. are_ready_since chosen l 0 groups) (sym same) ∙ e
    ready m false e is = cc

    by : (o : Option ℕ) → since_where o chosen groups ≡ Some n → GoesSince n g
    by None is = cc
    by (Some m) is =
        let z : 0 + k ≡ k = omega arith in
        one_ready chosen n k g (ap (λ l. is_ready_since chosen n l g) (sym z) ∙ ready_at chosen n 0 groups k g (ready m (are_ready_since chosen m 0 groups) refl is) at) filled
