-- Laws of results that may be a broken rule.
use Rattle.std.proofs.Common.{◌≡◌, ℕ, zero, suc, ◌+◌, Bool, true, false, cond, ◌&&◌, Some, Result, Ok, Err, List, [], ◌∷◌, ◌++◌, take, drop, slice_get, refl, sym, ap, subst, ◌∙◌, arith, append_assoc}
use Rattle.std.specs.List.{filter, list_all}
use Rattle.expressions.specs.row_types.specs.declared.rule.Rule.{Rule}
use Rattle.expressions.specs.row_types.specs.declared.rule.Refused.{Refused}
use Rattle.expressions.specs.row_types.specs.declared.rule.Refused.TheVariants as refused
use Rattle.evaluator.specs.Capping.{folded}
use Rattle.evaluator.specs.Rules.{TakenBefore, TakesIn, added, each}
use Rattle.evaluator.proofs.CapLaws.{append-none, folded-append}

pub added-assoc : {A : Type 0} (a b c : Result (List A) Rule) → added a (added b c) ≡ added (added a b) c
added-assoc (Err e) b c = refl
added-assoc (Ok xs) (Err e) c = refl
added-assoc (Ok xs) (Ok ys) (Err e) = refl
added-assoc (Ok xs) (Ok ys) (Ok zs) = ap Ok (sym (append_assoc xs ys zs))

pub nil-added : {A : Type 0} (a : Result (List A) Rule) → added (Ok []) a ≡ a
nil-added (Ok xs) = refl
nil-added (Err e) = refl

pub added-nil : {A : Type 0} (a : Result (List A) Rule) → added a (Ok []) ≡ a
added-nil (Ok xs) = ap Ok (append-none xs)
added-nil (Err e) = refl

module _ {X A : Type 0} (f : X → Result (List A) Rule) where
  pub each_at : (xs : List X) (i : ℕ) (x : X) → slice_get xs i ≡ Some x → each f (drop i xs) ≡ added (f x) (each f (drop (i + 1) xs))
  each_at [] i x at = cc
  each_at (y ∷ xs) zero x at = let same : y ≡ x = cc in ap (λ z. added (f z) (each f xs)) same
  each_at (y ∷ xs) (suc i) x at = let next : suc i + 1 ≡ suc (i + 1) = omega arith in rw next (each_at xs i x at)

  -- elements that give nothing may be left out
  pub each-filter : (p : X → Bool) → ((x : X) → p x ≡ false → f x ≡ Ok []) → (xs : List X) → each f xs ≡ each f (filter p xs)
  each-filter p none [] = refl
  each-filter p none (x ∷ xs) = by (p x) refl (each-filter p none xs)
    where
      by : (b : Bool) → p x ≡ b → each f xs ≡ each f (filter p xs) → added (f x) (each f xs) ≡ each f (cond b (x ∷ filter p xs) (filter p xs))
      by true e rest = ap (added (f x)) rest
      by false e rest = ap (λ r. added r (each f xs)) (none x e) ∙ nil-added (each f xs) ∙ rest

-- the same where another test is known to hold of each element
pub each-filter_of : {X A : Type 0} (f : X → Result (List A) Rule) (p known : X → Bool) → ((x : X) → known x ≡ true → p x ≡ false → f x ≡ Ok []) → (xs : List X) → list_all known xs ≡ true → each f xs ≡ each f (filter p xs)
each-filter_of f p known none [] all = refl
each-filter_of f p known none (x ∷ xs) all =
    let (here, rest) = all_true (known x) (list_all known xs) all in
    by here (each-filter_of f p known none xs rest) (p x) refl
  where
    all_true : (a b : Bool) → (a && b) ≡ true → (a ≡ true) × (b ≡ true)
    all_true true b h = (refl, h)
    all_true false b h = cc

    by : known x ≡ true → each f xs ≡ each f (filter p xs) → (c : Bool) → p x ≡ c → added (f x) (each f xs) ≡ each f (cond c (x ∷ filter p xs) (filter p xs))
    by here rest true e = ap (added (f x)) rest
    by here rest false e = ap (λ r. added r (each f xs)) (none x here e) ∙ nil-added (each f xs) ∙ rest

module _ {S X A : Type 0} (after : S → A → S) (f : X → Result (List A) Rule) where
  pub added_start : (xs : List X) (start : S) → TakenBefore after f xs 0 start start
  added_start xs start = ([], sym (nil-added (each f xs)), refl)

  module _ (xs : List X) (i : ℕ) (x : X) (start old new : S) (at : slice_get xs i ≡ Some x) (so_far : TakenBefore after f xs i start old) where
    pub added_step : (u : Unit {0}) → TakesIn after (f x) (Ok u) old new → TakenBefore after f xs (i + 1) start new
    added_step u step =
        let (more, whole, is) = so_far in
        let (next, gave, then_is) = step in (
          more ++ next,
          whole ∙ ap (added (Ok more)) (each_at f xs i x at ∙ ap (λ r. added r (each f (drop (i + 1) xs))) gave) ∙ added-assoc (Ok more) (Ok next) (each f (drop (i + 1) xs)),
          then_is ∙ ap (λ c. folded after c next) is ∙ sym (folded-append after start more next),
        )

    pub added_stop : (e : Refused) → TakesIn after (f x) (Err e) old new → TakesIn after (each f xs) (Err e) start new
    added_stop (refused.Rule e) stop =
        let (more, whole, is) = so_far in
        whole ∙ ap (added (Ok more)) (each_at f xs i x at ∙ ap (λ r. added r (each f (drop (i + 1) xs))) stop)
    added_stop refused.Memory stop = tt

  pub added_end : (xs : List X) (i : ℕ) (start new : S) → take i xs ≡ xs → TakenBefore after f xs i start new → (u : Unit {0}) → TakesIn after (each f xs) (Ok u) start new
  added_end xs i start new all so_far u =
      let (more, whole, is) = so_far in
      (more, whole ∙ ap (λ l. added (Ok more) (each f l)) (none_left xs i all) ∙ added-nil (Ok more), is)
    where
      none_left : (xs : List X) (i : ℕ) → take i xs ≡ xs → drop i xs ≡ []
      none_left [] zero e = refl
      none_left [] (suc i) e = refl
      none_left (y ∷ ys) zero e = cc
      none_left (y ∷ ys) (suc i) e = none_left ys i cc

pub same_taken : {S A : Type 0} (after : S → A → S) (a b : Result (List A) Rule) (r : Result (Unit {0}) Refused) (old new : S) → a ≡ b → TakesIn after a r old new → TakesIn after b r old new
same_taken {S} {A} after a b r old new e h = let F : Result (List A) Rule → Type 0 = λ x. TakesIn after x r old new in subst F e h
