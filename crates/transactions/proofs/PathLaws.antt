-- Laws of going from an element to its parent, where the parent's rank is less.
use Rattle.std.proofs.Common.{◌≡◌, ℕ, zero, suc, ◌<◌, ◌≤◌, Option, Some, ◌⊎◌, inl, inr, refl, sym, ap, subst, ◌∙◌, arith}

same_some : {X : Type 0} {x y : X} → Some x ≡ Some y → x ≡ y
same_some e = cc

module _ {P : Type 0} (rank : P → ℕ) (parent : P → Option P) where
  -- at most n steps from q to its parents lead to p
  abbrev pub Under : ℕ → P → P → Type 0
  Under zero p q = ⊥
  Under (suc n) p q = (p ≡ q) ⊎ ((r : P) × (parent q ≡ Some r) × Under n p r)

  pub itself : (n : ℕ) (p : P) → Under (suc n) p p
  itself n p = inl refl

  pub one_more : (n : ℕ) (p q r : P) → parent p ≡ Some r → Under n p q → Under (suc n) r q
  one_more zero p q r is h = absurd h
  one_more (suc n) p q r is h = elim h [
    | inl same ↦ inr (r, ap parent (sym same) ∙ is, inl refl)
    | inr further ↦ inr (further.0, further.1, one_more n p further.0 r is further.2)
  ]

  module _ (earlier : (p q : P) → parent p ≡ Some q → rank q < rank p) where
    pub rank_below : (n : ℕ) (p q : P) → Under n p q → rank p ≤ rank q
    rank_below zero p q h = absurd h
    rank_below (suc n) p q h = elim h [
      | inl same ↦ (let e : rank p ≡ rank q = ap rank same in omega arith)
      | inr further ↦ (let more = rank_below n p further.0 further.2 in let step = earlier q further.0 further.1 in omega (arith, more, step))
    ]

    pub same_root : (n m : ℕ) (a b q : P) → rank a ≡ rank b → Under n a q → Under m b q → a ≡ b
    same_root zero m a b q e h k = absurd h
    same_root (suc n) zero a b q e h k = absurd k
    same_root (suc n) (suc m) a b q e h k = elim h [
      | inl a_is ↦ elim k [
        | inl b_is ↦ a_is ∙ sym b_is
        | inr up ↦ (let more = rank_below m b up.0 up.2 in let step = earlier q up.0 up.1 in let here : rank a ≡ rank q = ap rank a_is in absurd (omega (arith, e, more, step, here)))
      ]
      | inr other ↦ elim k [
        | inl b_is ↦ (let more = rank_below n a other.0 other.2 in let step = earlier q other.0 other.1 in let here : rank b ≡ rank q = ap rank b_is in absurd (omega (arith, e, more, step, here)))
        | inr up ↦ (let one : other.0 ≡ up.0 = same_some (sym other.1 ∙ up.1) in same_root n m a b up.0 e (subst (λ r. Under n a r) one other.2) up.2)
      ]
    ]

    -- of two on the way the one of the greater rank has a parent, which isn't before the other
    pub between : (n m : ℕ) (a b q : P) → rank a < rank b → Under n a q → Under m b q → (r : P) × (parent b ≡ Some r) × (rank a ≤ rank r)
    between zero m a b q lt h k = absurd h
    between (suc n) zero a b q lt h k = absurd k
    between (suc n) (suc m) a b q lt h k = elim h [
      | inl a_is ↦ (let high = rank_below (suc m) b q k in let here : rank a ≡ rank q = ap rank a_is in absurd (omega (arith, lt, high, here)))
      | inr other ↦ elim k [
        | inl b_is ↦ (other.0, ap parent b_is ∙ other.1, rank_below n a other.0 other.2)
        | inr up ↦ (let one : other.0 ≡ up.0 = same_some (sym other.1 ∙ up.1) in between n m a b up.0 lt (subst (λ r. Under n a r) one other.2) up.2)
      ]
    ]
