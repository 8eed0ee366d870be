-- Some of the groups are changed, by their places.
use Rattle.std.proofs.Common.{◌≡◌, ℕ, zero, suc, ◌+◌, Bool, true, false, cond, ◌||◌, Option, Some, None, List, [], ◌∷◌, slice_get, refl, sym, ap, subst, ◌∙◌, arith}
use Rattle.std.specs.List.{find, list_any}
use Rattle.tier_base.specs.declared.number.TableId.{TableId}
use Rattle.table_state.specs.declared.history.Entry.{Entry}
use Rattle.table_state.specs.declared.history.Sealed.{Sealed}
use Rattle.order_laws.proofs.TruthLaws.{never_both, not_both, or_true}
use Rattle.cache_tier.specs.Groups.{Group, covers, group_over}
use Rattle.cache_tier.specs.Sets.{Choice, changed_from}
use Rattle.cache_tier.specs.Shown.{table_of_group}
use Rattle.cache_tier.specs.StandingBetween.{Each, HaveOwnTables}
use Rattle.cache_tier.proofs.GroupPairs.{IsKept, Pairs, same_covers}
use Rattle.cache_tier.proofs.GroupTables.{over_is_found}

pub each_at : {X : Type 0} (P : X → Type 0) (xs : List X) (i : ℕ) (x : X) → Each P xs → slice_get xs i ≡ Some x → P x
each_at P [] i x all e = Prim.cc
each_at P (y ∷ xs) zero x all e = let same : y ≡ x = Prim.cc in subst P same all.0
each_at P (y ∷ xs) (suc i) x all e = each_at P xs i x all.1 e

pub found_place : {X : Type 0} (p : X → Bool) (xs : List X) (x : X) → find p xs ≡ Some x → (i : ℕ) × (slice_get xs i ≡ Some x)
found_place p [] x e = Prim.cc
found_place {X = X} p (y ∷ xs) x e = by (p y) e (found_place p xs x)
  where
    by : (b : Bool) → cond b (Some y) (find p xs) ≡ Some x → (find p xs ≡ Some x → (i : ℕ) × (slice_get xs i ≡ Some x)) → (i : ℕ) × (slice_get (y ∷ xs) i ≡ Some x)
    by true h rest = (0, h)
    by false h rest = let (i, at) = rest h in (suc i, at)

any_at : {X : Type 0} (p : X → Bool) (xs : List X) (i : ℕ) (x : X) → slice_get xs i ≡ Some x → p x ≡ true → list_any p xs ≡ true
any_at p [] i x at e = Prim.cc
any_at p (y ∷ xs) zero x at e = let same : y ≡ x = Prim.cc in ap (λ b. b || list_any p xs) (ap p same ∙ e)
any_at p (y ∷ xs) (suc i) x at e = ap (λ b. p y || b) (any_at p xs i x at e) ∙ or_true (p y)

module _ (choice : Choice) (f : Group → Group) (keeps : (g : Group) → IsKept g (f g)) where
  one_kept : (b : Bool) (g : Group) → IsKept g (cond b (f g) g)
  one_kept true g = keeps g
  one_kept false g = record { def = refl; first = refl }

  pub changed_kept : (from : ℕ) (groups : List Group) → Pairs IsKept groups (changed_from choice f from groups)
  changed_kept from [] = tt
  changed_kept from (g ∷ groups) = (one_kept (choice from g) g, changed_kept (suc from) groups)

  -- the group of a table behind it
  pub found_changed : (from : ℕ) (groups : List Group) (i : ℕ) (g : Group) (u : TableId) → HaveOwnTables groups → slice_get groups i ≡ Some g → covers u g ≡ true → find (covers u) (changed_from choice f from groups) ≡ Some (cond (choice (from + i) g) (f g) g)
  found_changed from [] i g u own at e = Prim.cc
  found_changed from (x ∷ groups) zero g u own at e =
      let same : x ≡ g = Prim.cc in
      let here : from ≡ from + 0 = Prim.omega arith in
      ap (λ b. cond b (Some (cond (choice from x) (f x) x)) (find (covers u) (changed_from choice f (suc from) groups))) (same_covers x (cond (choice from x) (f x) x) (one_kept (choice from x) x) u ∙ ap (covers u) same ∙ e)
      ∙ (λ j. Some (cond (choice (here j) (same j)) (f (same j)) (same j)))
  found_changed from (x ∷ groups) (suc i) g u own at e =
      let here : suc from + i ≡ from + suc i = Prim.omega arith in
      let none : covers u x ≡ false = not_both (covers u x) (λ c. never_both (list_any (covers u) groups) (any_at (covers u) groups i g at e) (own.0 u c)) in
      ap (λ b. cond b (Some (cond (choice from x) (f x) x)) (find (covers u) (changed_from choice f (suc from) groups))) (same_covers x (cond (choice from x) (f x) x) (one_kept (choice from x) x) u ∙ none)
      ∙ found_changed (suc from) groups i g u own.1 at e
      ∙ ap (λ n. Some (cond (choice n g) (f g) g)) here

  pub none_changed : (from : ℕ) (groups : List Group) (u : TableId) → find (covers u) groups ≡ None → find (covers u) (changed_from choice f from groups) ≡ None
  none_changed from [] u e = refl
  none_changed from (x ∷ groups) u e = by (covers u x) refl e (none_changed (suc from) groups u)
    where
      by : (b : Bool) → covers u x ≡ b → cond b (Some x) (find (covers u) groups) ≡ None → (find (covers u) groups ≡ None → find (covers u) (changed_from choice f (suc from) groups) ≡ None) → find (covers u) (changed_from choice f from (x ∷ groups)) ≡ None
      by true c h rest = Prim.cc
      by false c h rest = ap (λ b. cond b (Some (cond (choice from x) (f x) x)) (find (covers u) (changed_from choice f (suc from) groups))) (same_covers x (cond (choice from x) (f x) x) (one_kept (choice from x) x) u ∙ c) ∙ rest h

  -- a property of all, with what is known of those that are chosen
  pub each_chosen : (P Q : Group → Type 0) (from : ℕ) (groups : List Group) → ((i : ℕ) (g : Group) → slice_get groups i ≡ Some g → P g → choice (from + i) g ≡ true → Q (f g)) → ((g : Group) → P g → Q g) → Each P groups → Each Q (changed_from choice f from groups)
  each_chosen P Q from [] yes_ no_ all = tt
  each_chosen P Q from (g ∷ groups) yes_ no_ all = (by (choice from g) refl, each_chosen P Q (suc from) groups (λ i h at p c. let here : from + suc i ≡ suc from + i = Prim.omega arith in yes_ (suc i) h at p (ap (λ n. choice n h) here ∙ c)) no_ all.1)
    where
      by : (b : Bool) → choice from g ≡ b → Q (cond b (f g) g)
      by true c = let here : from + 0 ≡ from = Prim.omega arith in yes_ 0 g refl all.0 (ap (λ n. choice n g) here ∙ c)
      by false c = no_ g all.0

  -- what a table shows that no chosen group has
  pub table_unchosen : (h : List Entry) (log : List Sealed) (groups : List Group) (u : TableId) → HaveOwnTables groups → ((i : ℕ) (g : Group) → slice_get groups i ≡ Some g → covers u g ≡ true → choice i g ≡ false)
      → table_of_group h log u (group_over (changed_from choice f 0 groups) u) ≡ table_of_group h log u (group_over groups u)
  table_unchosen h log groups u own none = ap (table_of_group h log u) (over_is_found (changed_from choice f 0 groups) u) ∙ by (find (covers u) groups) refl ∙ sym (ap (table_of_group h log u) (over_is_found groups u))
    where
      by : (o : Option Group) → find (covers u) groups ≡ o → table_of_group h log u (find (covers u) (changed_from choice f 0 groups)) ≡ table_of_group h log u (find (covers u) groups)
      by None e = ap (table_of_group h log u) (none_changed 0 groups u e ∙ sym e)
      by (Some g) e =
          let (i, at) = found_place (covers u) groups g e in
          let c = Rattle.cache_tier.proofs.GroupTables.find_passes (covers u) groups g e in
          let here : 0 + i ≡ i = Prim.omega arith in
          ap (table_of_group h log u) (found_changed 0 groups i g u own at c ∙ ap (λ n. Some (cond (choice n g) (f g) g)) here ∙ ap (λ b. Some (cond b (f g) g)) (none i g at c) ∙ sym e)
