-- What one step of the engine means.
use Rattle.std.proofs.Common.{◌≡◌, ℕ, suc, ◌+◌, ◌<◌, ◌≤◌, Bool, true, false, not, ◌&&◌, ◌||◌, leb, ltb, cond, Option, Some, None, List, [], ◌∷◌, ◌++◌, refl, sym, subst, arith, inl, inr}
use Rattle.std.proofs.lemmas.Bool.Decides.{nat_tests}
use Rattle.sql_tokens.specs.declared.kind.Kind.{Kind}
use Rattle.sql_grammar.specs.declared.test.Test.{Test}
use Rattle.sql_grammar.specs.declared.rule.Rule.{Rule}
use Rattle.sql_grammar.specs.declared.engine.Move.{Move}
use Rattle.sql_grammar.specs.declared.engine.Move.TheVariants.{On, Took, Wrong, Deep, Ended}
use Rattle.sql_grammar.specs.Tests.{passes}
use Rattle.sql_grammar.specs.Grammar.{Grammar, Empty, Token, Then, Either, Many, Deeper, Named, Parts, Over, Part, ahead, Reads, over, empty, token, both, this, that, again, enough, deeper, level, named}
use Rattle.sql_grammar.specs.Decided.{has, apart, Known, may_be_empty, where_empty, starts, ends, is_decided, weight, weight_of, is_known}
use Rattle.sql_grammar.specs.Machine.{is_next, at_end, step_of}
use Rattle.sql_grammar.proofs.Lists.{Apart, and_left, and_right, or_left, or_right, has_left, has_right, has_cases, apart_when, all_in_when, apart_left, apart_right, apart_both, fine_then, then_begins}
use Rattle.sql_grammar.proofs.Alive.{Alive, ending}

tells_apart : (b : Bool) → b ≡ true → b ≡ false → ⊥
tells_apart b p q = absurd (cc)

five : (a b c d e : Bool) → a && b && c && d && e ≡ true → (a ≡ true) × (b ≡ true) × (c ≡ true) × (d ≡ true) × (e ≡ true)
five a b c d e h =
    let h4 = and_left (a && b && c && d) e h in
    let h3 = and_left (a && b && c) d h4 in
    let h2 = and_left (a && b) c h3 in
    (and_left a b h2, and_right a b h2, and_right (a && b) c h3, and_right (a && b && c) d h4, and_right (a && b && c && d) e h)

-- What the parts may begin with.
abbrev pub begins : Known → Parts → List Test
begins known Over = []
begins known (Part u a ps) = starts known a ++ where_empty known a (begins known ps)

-- No part may still take what the next one begins with.
abbrev pub Fine : Known → Parts → Type 0
Fine known Over = Unit {0}
Fine known (Part u a ps) = (is_decided known a ≡ true) × Apart (ends known a) (begins known ps) × Fine known ps

-- What a step means, by what it did.
abbrev pub Law : (Rule → Grammar) → Known → Option Kind → Parts → Move × Parts → Type 0
Law rule known next ps (On, qs) = Fine known qs × ((n : ℕ) (r : List Kind) → Reads rule n qs r → Reads rule n ps r) × ((n : ℕ) (r : List Kind) → ahead r ≡ next → Reads rule n ps r → Reads rule n qs r)
Law rule known next ps (Took, qs) =
    Fine known qs × ((k : Kind) (n : ℕ) (r : List Kind) → next ≡ Some k → 32 ≤ n → Reads rule n qs r → Reads rule n ps (k ∷ r))
    × ((k : Kind) (n : ℕ) (r : List Kind) → next ≡ Some k → Reads rule n ps (k ∷ r) → Reads rule n qs r)
Law rule known next ps (Wrong, qs) = (n : ℕ) (r : List Kind) → ahead r ≡ next → Reads rule n ps r → ⊥
Law rule known next ps (Deep, qs) =
    ((r : List Kind) → ahead r ≡ next → Reads rule 32 ps r → ⊥) × ((n : ℕ) × (r : List Kind) × (32 ≤ n) × (ahead r ≡ next) × Reads rule n ps r)
Law rule known next ps (Ended, qs) = (next ≡ None) × ((n : ℕ) → Reads rule n ps [])

module _ (rule : Rule → Grammar) where
  -- What was read by a part, from what it reads.
  then_in : {n u : ℕ} {a b : Grammar} {ps : Parts} {r : List Kind} → Reads rule n (Part u (Then a b) ps) r → Reads rule n (Part u a (Part u b ps)) r
  then_in (both d) = d

  empty_in : {n u : ℕ} {ps : Parts} {r : List Kind} → Reads rule n (Part u Empty ps) r → Reads rule n ps r
  empty_in (empty d) = d

  named_in : {n u : ℕ} {m : Rule} {ps : Parts} {r : List Kind} → Reads rule n (Part u (Named m) ps) r → Reads rule n (Part u (rule m) ps) r
  named_in (named d) = d

  token_in : {n u : ℕ} {t : Test} {k : Kind} {ps : Parts} {r : List Kind} → Reads rule n (Part u (Token t) ps) (k ∷ r) → Reads rule n ps r
  token_in (token p d) = d

  token_out : {n u : ℕ} {t : Test} {ps : Parts} {r : List Kind} → Reads rule n (Part u (Token t) ps) r → is_next t (ahead r) ≡ true
  token_out (token p d) = p

  either_out : {n u : ℕ} {t : Test} {a b : Grammar} {ps : Parts} {r : List Kind} → Reads rule n (Part u (Either t a b) ps) r → is_next t (ahead r) ≡ false → Reads rule n (Part u b ps) r
  either_out (this p d) h = absurd (tells_apart _ p h)
  either_out (that d) h = d

  many_out : {n u : ℕ} {t : Test} {a : Grammar} {ps : Parts} {r : List Kind} → Reads rule n (Part u (Many t a) ps) r → is_next t (ahead r) ≡ false → Reads rule n ps r
  many_out (again p d) h = absurd (tells_apart _ p h)
  many_out (enough d) h = d

  deeper_out : {n u : ℕ} {t : Test} {a c b : Grammar} {ps : Parts} {r : List Kind} → Reads rule n (Part u (Deeper t a c b) ps) r → is_next t (ahead r) ≡ false → Reads rule n (Part u b ps) r
  deeper_out (deeper p l d) h = absurd (tells_apart _ p h)
  deeper_out (level d) h = d

  over_out : {n : ℕ} {r : List Kind} → Reads rule n Over r → r ≡ []
  over_out over = refl

module _ (rule : Rule → Grammar) (known : Known) (ok : (m : Rule) → is_known known m (rule m) ≡ true) where
  -- the five facts of a rule that is known
  rule_decided : (m : Rule) → is_decided known (rule m) ≡ true
  rule_decided m = and_left _ _ (and_left _ _ (and_left _ _ (and_left _ _ (ok m))))

  rule_empty : (m : Rule) → may_be_empty known (rule m) ≡ true → known.empty m ≡ true
  rule_empty m h = empties (may_be_empty known (rule m)) (known.empty m) (and_right _ _ (and_left _ _ (and_left _ _ (and_left _ _ (ok m))))) h
    where
      empties : (a b : Bool) → not a || b ≡ true → a ≡ true → b ≡ true
      empties true b p q = p
      empties false b p q = absurd (cc)

  rule_starts : (m : Rule) (k : Kind) → has (starts known (rule m)) k ≡ true → has (known.starts m) k ≡ true
  rule_starts m k h = all_in_when (starts known (rule m)) (known.starts m) (and_right _ _ (and_left _ _ (and_left _ _ (ok m)))) k h

  rule_ends : (m : Rule) (k : Kind) → has (ends known (rule m)) k ≡ true → has (known.ends m) k ≡ true
  rule_ends m k h = all_in_when (ends known (rule m)) (known.ends m) (and_right _ _ (and_left _ _ (ok m))) k h

  rule_weight : (m : Rule) → weight known (rule m) ≤ known.weight m
  rule_weight m = weighs (weight known (rule m)) (known.weight m) (and_right _ _ (ok m))
    where
      weighs : (a b : ℕ) → leb a b ≡ true → a ≤ b
      weighs a b h = grind (arith, nat_tests)

  where_more : (a b : Bool) (xs : List Test) (k : Kind) → (a ≡ true → b ≡ true) → has (cond a xs []) k ≡ true → has (cond b xs []) k ≡ true
  where_more true b xs k f h = rw (f refl) h
  where_more false b xs k f h = absurd (cc)

  -- What parts read begins as they may begin.
  pub begins_so : {n : ℕ} {ps : Parts} {k : Kind} {r : List Kind} → Reads rule n ps (k ∷ r) → has (begins known ps) k ≡ true
  begins_so {k} (empty d) = begins_so d
  begins_so {k} (token {t} p d) = or_left (passes t k) _ p
  begins_so {k} (both {a} {b} {ps} d) =
      subst (λ xs. has xs k ≡ true) (then_begins (may_be_empty known a) (may_be_empty known b) (starts known a) (starts known b) (begins known ps)) (begins_so d)
  begins_so {k} (this {t} p d) = or_left (passes t k) _ p
  begins_so {k} (that {t} d) = or_right (passes t k) _ (begins_so d)
  begins_so {k} (again {t} p d) = or_left (passes t k) _ p
  begins_so {k} (enough {t} d) = or_right (passes t k) _ (begins_so d)
  begins_so {k} (deeper {t} p l d) = or_left (passes t k) _ p
  begins_so {k} (level {t} d) = or_right (passes t k) _ (begins_so d)
  begins_so {k} (named {m} {ps} d) =
      elim (has_cases (starts known (rule m)) (where_empty known (rule m) (begins known ps)) k (begins_so d)) [
        | inl p ↦ has_left (known.starts m) (cond (known.empty m) (begins known ps) []) k (rule_starts m k p)
        | inr p ↦ has_right (known.starts m) (cond (known.empty m) (begins known ps) []) k (where_more (may_be_empty known (rule m)) (known.empty m) (begins known ps) k (rule_empty m) p)
      ]

  one_has : (t : Test) (k : Kind) → passes t k ≡ true → has (t ∷ []) k ≡ true
  one_has t k p = or_left (passes t k) false p

  -- a token that only the first alternative can take
  not_that : (t : Test) (u : ℕ) (b : Grammar) (ps : Parts) → apart (t ∷ []) (starts known b) ≡ true → Apart (where_empty known b (t ∷ [])) (begins known ps) → Apart (t ∷ []) (begins known (Part u b ps))
  not_that t u b ps h f = fine_then (may_be_empty known b) (t ∷ []) [] (starts known b) (begins known ps) (apart_when (t ∷ []) (starts known b) h) f

  either_in : {n u : ℕ} {t : Test} {a b : Grammar} {k : Kind} {ps : Parts} {r : List Kind} → Reads rule n (Part u (Either t a b) ps) (k ∷ r) → passes t k ≡ true → Apart (t ∷ []) (begins known (Part u b ps)) → Reads rule n (Part u a ps) r
  either_in (this p d) h f = d
  either_in {t} {k} (that d) h f = absurd (f k (one_has t k h) (begins_so d))

  many_in : {n u : ℕ} {t : Test} {a : Grammar} {k : Kind} {ps : Parts} {r : List Kind} → Reads rule n (Part u (Many t a) ps) (k ∷ r) → passes t k ≡ true → Apart (t ∷ []) (begins known ps) → Reads rule n (Part u a (Part u (Many t a) ps)) r
  many_in (again p d) h f = d
  many_in {t} {k} (enough d) h f = absurd (f k (one_has t k h) (begins_so d))

  deeper_in : {n u : ℕ} {t : Test} {a c b : Grammar} {k : Kind} {ps : Parts} {r : List Kind} → Reads rule n (Part u (Deeper t a c b) ps) (k ∷ r) → passes t k ≡ true → Apart (t ∷ []) (begins known (Part u b ps))
      → (u < n) × Reads rule n (Part (suc u) a (Part u c ps)) r
  deeper_in (deeper p l d) h f = (l, d)
  deeper_in {t} {k} (level d) h f = absurd (f k (one_has t k h) (begins_so d))

  -- The law of one step, for each part.
  empty_law : (next : Option Kind) (u : ℕ) (ps : Parts) → Fine known (Part u Empty ps) → Law rule known next (Part u Empty ps) (On, ps)
  empty_law next u ps (g, f, e) = (e, λ n r d. empty d, λ n r h d. empty_in rule d)

  then_law : (next : Option Kind) (u : ℕ) (a b : Grammar) (ps : Parts) → Fine known (Part u (Then a b) ps) → Law rule known next (Part u (Then a b) ps) (On, Part u a (Part u b ps))
  then_law next u a b ps (g, f, e) = (
    (
      and_left _ _ (and_left _ _ g),
      fine_then (may_be_empty known b) (ends known a) (ends known b) (starts known b) (begins known ps) (apart_when (ends known a) (starts known b) (and_right _ _ g)) f,
      (and_right _ _ (and_left _ _ g), apart_left (ends known b) (where_empty known b (ends known a)) (begins known ps) f, e),
    ),
    λ n r d. both d,
    λ n r h d. then_in rule d,
  )

  named_law : (next : Option Kind) (u : ℕ) (m : Rule) (ps : Parts) → Fine known (Part u (Named m) ps) → Law rule known next (Part u (Named m) ps) (On, Part u (rule m) ps)
  named_law next u m ps (g, f, e) = ((rule_decided m, λ k p q. f k (rule_ends m k p) q, e), λ n r d. named d, λ n r h d. named_in rule d)

  -- the next token is this one
  at_some : (t : Test) (next : Option Kind) (k : Kind) → is_next t next ≡ true → next ≡ Some k → passes t k ≡ true
  at_some t None k h p = absurd (cc)
  at_some t (Some j) k h p = let e : j ≡ k = cc in rw (← e) h

  -- what the tokens begin with passes, or not
  at_ahead : (t : Test) (next : Option Kind) (b : Bool) (r : List Kind) → is_next t next ≡ b → ahead r ≡ next → is_next t (ahead r) ≡ b
  at_ahead t next b r h p = rw p h

  token_law : (next : Option Kind) (u : ℕ) (t : Test) (ps : Parts) → Fine known (Part u (Token t) ps) → Law rule known next (Part u (Token t) ps) (step_of rule next (Part u (Token t) ps))
  token_law next u t ps (g, f, e) = token_cases (is_next t next) refl
    where
      token_cases : (b : Bool) → is_next t next ≡ b → Law rule known next (Part u (Token t) ps) (cond b (Took, ps) (Wrong, ps))
      token_cases true h = (e, λ k n r p l d. token (at_some t next k h p) d, λ k n r p d. token_in rule d)
      token_cases false h = λ n r p d. tells_apart _ (token_out rule d) (at_ahead t next false r h p)

  either_law : (next : Option Kind) (u : ℕ) (t : Test) (a b : Grammar) (ps : Parts) → Fine known (Part u (Either t a b) ps) → Law rule known next (Part u (Either t a b) ps) (step_of rule next (Part u (Either t a b) ps))
  either_law next u t a b ps (g, f, e) = either_cases (is_next t next) refl
    where
      behind : Apart (ends known b ++ where_empty known b (t ∷ [])) (begins known ps)
      behind = apart_right (ends known a) (ends known b ++ where_empty known b (t ∷ [])) (begins known ps) f

      only_this : Apart (t ∷ []) (begins known (Part u b ps))
      only_this = not_that t u b ps (and_right (is_decided known a && is_decided known b) (apart (t ∷ []) (starts known b)) g) (apart_right (ends known b) (where_empty known b (t ∷ [])) (begins known ps) behind)

      either_cases : (c : Bool) → is_next t next ≡ c → Law rule known next (Part u (Either t a b) ps) (cond c (Took, Part u a ps) (On, Part u b ps))
      either_cases true h = (
        (and_left _ _ (and_left _ _ g), apart_left (ends known a) (ends known b ++ where_empty known b (t ∷ [])) (begins known ps) f, e),
        λ k n r p l d. this (at_some t next k h p) d,
        λ k n r p d. either_in d (at_some t next k h p) only_this,
      )
      either_cases false h = (
        (and_right _ _ (and_left _ _ g), apart_left (ends known b) (where_empty known b (t ∷ [])) (begins known ps) behind, e),
        λ n r d. that d,
        λ n r p d. either_out rule d (at_ahead t next false r h p),
      )

  many_law : (next : Option Kind) (u : ℕ) (t : Test) (a : Grammar) (ps : Parts) → Fine known (Part u (Many t a) ps) → Law rule known next (Part u (Many t a) ps) (step_of rule next (Part u (Many t a) ps))
  many_law next u t a ps (g, f, e) = many_cases (is_next t next) refl
    where
      others : Apart (t ∷ []) (begins known ps)
      others k p q = f k (has_left (t ∷ []) (ends known a) k p) q

      many_cases : (c : Bool) → is_next t next ≡ c → Law rule known next (Part u (Many t a) ps) (cond c (Took, Part u a (Part u (Many t a) ps)) (On, ps))
      many_cases true h = (
        (
          and_left _ _ g,
          apart_both (ends known a) (t ∷ []) (begins known ps) (apart_when (ends known a) (t ∷ []) (and_right _ _ g)) (apart_right (t ∷ []) (ends known a) (begins known ps) f),
          (g, f, e),
        ),
        λ k n r p l d. again (at_some t next k h p) d,
        λ k n r p d. many_in d (at_some t next k h p) others,
      )
      many_cases false h = (e, λ n r d. enough d, λ n r p d. many_out rule d (at_ahead t next false r h p))

  abbrev pub Lives : Type 0
  Lives = (m : Rule) → Alive rule (rule m)

  deeper_law : (next : Option Kind) (u : ℕ) (t : Test) (a c b : Grammar) (ps : Parts) → Lives → Fine known (Part u (Deeper t a c b) ps) → Law rule known next (Part u (Deeper t a c b) ps) (step_of rule next (Part u (Deeper t a c b) ps))
  deeper_law next u t a c b ps lives (g, f, e) = deeper_cases (is_next t next) (ltb u 32) refl refl
    where
      facts : (is_decided known a ≡ true) × (is_decided known c ≡ true) × (is_decided known b ≡ true) × (apart (ends known a) (starts known c) ≡ true) × (apart (t ∷ []) (starts known b) ≡ true)
      facts = five (is_decided known a) (is_decided known c) (is_decided known b) (apart (ends known a) (starts known c)) (apart (t ∷ []) (starts known b)) g

      behind : Apart (ends known b ++ where_empty known b (t ∷ [])) (begins known ps)
      behind = apart_right (ends known c ++ where_empty known c (ends known a)) (ends known b ++ where_empty known b (t ∷ [])) (begins known ps) f

      before : Apart (ends known c ++ where_empty known c (ends known a)) (begins known ps)
      before = apart_left (ends known c ++ where_empty known c (ends known a)) (ends known b ++ where_empty known b (t ∷ [])) (begins known ps) f

      only_this : Apart (t ∷ []) (begins known (Part u b ps))
      only_this = not_that t u b ps facts.4 (apart_right (ends known b) (where_empty known b (t ∷ [])) (begins known ps) behind)

      below : (i n : ℕ) → ltb i n ≡ true → i < n
      below i n h = grind (arith, nat_tests)

      not_below : (i n : ℕ) → ltb i n ≡ false → n ≤ i
      not_below i n h = grind (arith, nat_tests)

      too_deep : (i : ℕ) → i < 32 → ltb i 32 ≡ false → ⊥
      too_deep i l h = let m : 32 ≤ i = not_below i 32 h in omega arith

      deeper_cases : (x y : Bool) → is_next t next ≡ x → ltb u 32 ≡ y → Law rule known next (Part u (Deeper t a c b) ps) (cond x (cond y (Took, Part (suc u) a (Part u c ps)) (Deep, ps)) (On, Part u b ps))
      deeper_cases true true h l = (
        (
          facts.0,
          fine_then (may_be_empty known c) (ends known a) (ends known c) (starts known c) (begins known ps) (apart_when (ends known a) (starts known c) facts.3) before,
          (facts.1, apart_left (ends known c) (where_empty known c (ends known a)) (begins known ps) before, e),
        ),
        λ k n r p m d. let v : u < 32 = below u 32 l in deeper (at_some t next k h p) (omega arith) d,
        λ k n r p d. (deeper_in d (at_some t next k h p) only_this).1,
      )
      deeper_cases true false h l = (deep_not next h, deep_goes next h)
        where
          deep_not : (x : Option Kind) → is_next t x ≡ true → (r : List Kind) → ahead r ≡ x → Reads rule 32 (Part u (Deeper t a c b) ps) r → ⊥
          deep_not x q [] p d = absurd (tells_apart (is_next t x) q (rw (← p) refl))
          deep_not x q (k ∷ r) p d = too_deep u (deeper_in d (at_some t x k q (sym p)) only_this).0 l

          deep_goes : (x : Option Kind) → is_next t x ≡ true → (n : ℕ) × (r : List Kind) × (32 ≤ n) × (ahead r ≡ x) × Reads rule n (Part u (Deeper t a c b) ps) r
          deep_goes None q = absurd (cc)
          deep_goes (Some k) q =
              let (r, d) = ending rule lives (u + 33) (Part (suc u) a (Part u c ps)) in
              let v : u < u + 33 = omega arith in
              (u + 33, k ∷ r, omega arith, refl, deeper q v d)
      deeper_cases false y h l = (
        (facts.2, apart_left (ends known b) (where_empty known b (t ∷ [])) (begins known ps) behind, e),
        λ n r d. level d,
        λ n r p d. deeper_out rule d (at_ahead t next false r h p),
      )

  over_law : (next : Option Kind) → Law rule known next Over (at_end next, Over)
  over_law None = (refl, λ n. over)
  over_law (Some k) = λ n r p d. differs r p (over_out rule d)
    where
      differs : (r : List Kind) → ahead r ≡ Some k → r ≡ [] → ⊥
      differs [] p q = absurd (cc)
      differs (j ∷ r) p q = absurd (cc)

  pub step_law : (next : Option Kind) (ps : Parts) → Lives → Fine known ps → Law rule known next ps (step_of rule next ps)
  step_law next Over lives f = over_law next
  step_law next (Part u Empty ps) lives f = empty_law next u ps f
  step_law next (Part u (Token t) ps) lives f = token_law next u t ps f
  step_law next (Part u (Then a b) ps) lives f = then_law next u a b ps f
  step_law next (Part u (Either t a b) ps) lives f = either_law next u t a b ps f
  step_law next (Part u (Many t a) ps) lives f = many_law next u t a ps f
  step_law next (Part u (Deeper t a c b) ps) lives f = deeper_law next u t a c b ps lives f
  step_law next (Part u (Named m) ps) lives f = named_law next u m ps f

  -- Each step without a token makes the parts lighter.
  abbrev pub Lighter : Parts → Move × Parts → Type 0
  Lighter ps (On, qs) = weight_of known qs < weight_of known ps
  Lighter ps (Took, qs) = Unit {0}
  Lighter ps (Wrong, qs) = Unit {0}
  Lighter ps (Deep, qs) = Unit {0}
  Lighter ps (Ended, qs) = Unit {0}

  then_weight : (x y : Bool) (a b w : ℕ) → a + cond x (b + cond y w 0) 0 < 1 + a + cond x b 0 + cond (x && y) w 0
  then_weight true true a b w = omega arith
  then_weight true false a b w = omega arith
  then_weight false true a b w = omega arith
  then_weight false false a b w = omega arith

  named_weight : (x y : Bool) (a b w : ℕ) → (x ≡ true → y ≡ true) → a ≤ b → a + cond x w 0 < 1 + b + cond y w 0
  named_weight true true a b w f h = omega arith
  named_weight true false a b w f h = absurd (tells_apart false (f refl) refl)
  named_weight false true a b w f h = omega arith
  named_weight false false a b w f h = omega arith

  choice_lighter : (c : Bool) (m : Move) (ps qs rs : Parts) → Lighter ps (m, rs) → weight_of known qs < weight_of known ps → Lighter ps (cond c (m, rs) (On, qs))
  choice_lighter true m ps qs rs f h = f
  choice_lighter false m ps qs rs f h = h

  pub step_lighter : (next : Option Kind) (ps : Parts) → Lighter ps (step_of rule next ps)
  step_lighter None Over = tt
  step_lighter (Some k) Over = tt
  step_lighter next (Part u Empty ps) = omega arith
  step_lighter next (Part u (Token t) ps) = elim (is_next t next) as (λ c. Lighter (Part u (Token t) ps) (cond c (Took, ps) (Wrong, ps))) [ true ↦ tt | false ↦ tt ]
  step_lighter next (Part u (Then a b) ps) = then_weight (may_be_empty known a) (may_be_empty known b) (weight known a) (weight known b) (weight_of known ps)
  step_lighter next (Part u (Either t a b) ps) = choice_lighter (is_next t next) Took (Part u (Either t a b) ps) (Part u b ps) (Part u a ps) tt (omega arith)
  step_lighter next (Part u (Many t a) ps) = choice_lighter (is_next t next) Took (Part u (Many t a) ps) ps (Part u a (Part u (Many t a) ps)) tt (omega arith)
  step_lighter next (Part u (Deeper t a c b) ps) =
      elim (is_next t next) as (λ x. Lighter (Part u (Deeper t a c b) ps) (cond x (cond (ltb u 32) (Took, Part (suc u) a (Part u c ps)) (Deep, ps)) (On, Part u b ps))) [
        | true ↦ elim (ltb u 32) as (λ y. Lighter (Part u (Deeper t a c b) ps) (cond y (Took, Part (suc u) a (Part u c ps)) (Deep, ps))) [ true ↦ tt | false ↦ tt ]
        | false ↦ omega arith
      ]
  step_lighter next (Part u (Named m) ps) = named_weight (may_be_empty known (rule m)) (known.empty m) (weight known (rule m)) (known.weight m) (weight_of known ps) (rule_empty m) (rule_weight m)
