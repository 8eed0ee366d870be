-- What is still to be read of a line, token by token.
use Rattle.std.proofs.Common.{◌≡◌, ℕ, zero, suc, ◌≤◌, Bool, true, false, cond, ◌&&◌, eqb, leb, ltb, Some, List, [], ◌∷◌, length, drop, refl, sym, ◌∙◌, subst, arith, length-drop}
use Rattle.std.proofs.lemmas.Bool.Decides.{nat_tests}
use Rattle.sql_print.specs.sql_tokens.specs.declared.kind.Kind.{Kind}
use Rattle.sql_print.specs.sql_tokens.specs.declared.kind.Kind.TheVariants.{Bad}
use Rattle.sql_print.specs.sql_tokens.specs.Kinds.{code, is_kind}
use Rattle.sql_print.specs.sql_tokens.specs.Lexing.{Lexeme}
use Rattle.sql_print.specs.sql_grammar.specs.declared.test.Test.{Test}
use Rattle.sql_print.specs.sql_grammar.specs.declared.test.Test.TheVariants.{Only}
use Rattle.sql_print.specs.sql_grammar.specs.declared.rule.Rule.{Rule}
use Rattle.sql_print.specs.sql_grammar.specs.declared.engine.Move.TheVariants.{On, Took, Deep}
use Rattle.sql_print.specs.sql_grammar.specs.Tests.{passes}
use Rattle.sql_print.specs.sql_grammar.specs.Grammar.{Grammar, Empty, Token, Then, Either, Many, Deeper, Named, Parts, Part, Reads, ahead, token}
use Rattle.sql_print.specs.sql_grammar.specs.Machine.{step_of}
use Rattle.sql_print.specs.sql_grammar.specs.Sql.{rule, known}
use Rattle.sql_print.specs.sql_grammar.proofs.Passes.{decided, lives}
use Rattle.sql_print.specs.sql_grammar.proofs.Steps.{Fine, Law, step_law}
use Rattle.sql_print.specs.sql_subset.specs.Lines.{kinds_in}
use Rattle.sql_print.specs.sql_phrases.specs.Reading.{begins, chained, first_kind}
use Rattle.print_laws.proofs.Fits.{Fits}
use Rattle.print_laws.proofs.Lists.{AllGood}

-- the parts read the tokens, whose bytes fit their kinds, and no part may take what the next begins with
pub record State (ps : Parts) (us : List Lexeme) : Type 0 where
  pub fine : Fine known ps
  pub reads : Reads rule 32 ps (kinds_in us)
  pub fit : AllGood Fits us

-- what was read is good, and the parts read the tokens behind it
pub record Got {V : Type 0} (Good : V → Type 0) (ps : Parts) (x : V × List Lexeme) : Type 0 where
  pub good : Good x.0
  pub state : State ps x.1

pub got_if : {V : Type 0} {Good : V → Type 0} {ps : Parts} (b : Bool) (x y : V × List Lexeme) → (b ≡ true → Got Good ps x) → (b ≡ false → Got Good ps y) → Got Good ps (cond b x y)
got_if true x y f g = f refl
got_if false x y f g = g refl

-- one step without a token, and one with it
went : (ps qs : Parts) (us : List Lexeme) → State ps us → step_of rule (ahead (kinds_in us)) ps ≡ (On, qs) → State qs us
went ps qs us s e =
    let l : Law rule known (ahead (kinds_in us)) ps (On, qs) = subst (λ x. Law rule known (ahead (kinds_in us)) ps x) e (step_law rule known decided (ahead (kinds_in us)) ps lives s.fine) in
    record { fine = l.0; reads = l.2 32 (kinds_in us) refl s.reads; fit = s.fit }

took : (ps qs : Parts) (l : Lexeme) (us : List Lexeme) → State ps (l ∷ us) → step_of rule (Some l.kind) ps ≡ (Took, qs) → State qs us
took ps qs l us s e =
    let w : Law rule known (Some l.kind) ps (Took, qs) = subst (λ x. Law rule known (Some l.kind) ps x) e (step_law rule known decided (Some l.kind) ps lives s.fine) in
    record { fine = w.0; reads = w.2 l.kind 32 (kinds_in us) refl s.reads; fit = s.fit.1 }

too_deep : (ps qs : Parts) (us : List Lexeme) → State ps us → step_of rule (ahead (kinds_in us)) ps ≡ (Deep, qs) → ⊥
too_deep ps qs us s e =
    let l : Law rule known (ahead (kinds_in us)) ps (Deep, qs) = subst (λ x. Law rule known (ahead (kinds_in us)) ps x) e (step_law rule known decided (ahead (kinds_in us)) ps lives s.fine) in
    l.0 (kinds_in us) refl s.reads

pub at_then : {u : ℕ} {a b : Grammar} {ps : Parts} {us : List Lexeme} → State (Part u (Then a b) ps) us → State (Part u a (Part u b ps)) us
at_then {u} {a} {b} {ps} {us} s = went (Part u (Then a b) ps) (Part u a (Part u b ps)) us s refl

pub at_empty : {u : ℕ} {ps : Parts} {us : List Lexeme} → State (Part u Empty ps) us → State ps us
at_empty {u} {ps} {us} s = went (Part u Empty ps) ps us s refl

pub at_named : {u : ℕ} {m : Rule} {ps : Parts} {us : List Lexeme} → State (Part u (Named m) ps) us → State (Part u (rule m) ps) us
at_named {u} {m} {ps} {us} s = went (Part u (Named m) ps) (Part u (rule m) ps) us s refl

dropped : (n : ℕ) (us : List Lexeme) → drop 1 (drop n us) ≡ drop (suc n) us
dropped zero us = refl
dropped (suc n) [] = refl
dropped (suc n) (l ∷ us) = dropped n us

token_reads : (u : ℕ) (t : Test) (ps : Parts) (us : List Lexeme) → Reads rule 32 (Part u (Token t) ps) (kinds_in us) → (passes t (first_kind us) ≡ true) × Reads rule 32 ps (kinds_in (drop 1 us))
token_reads u t ps [] d = elim d [ ]
token_reads u t ps (l ∷ us) (token p d) = (p, d)

fit_behind : (us : List Lexeme) → AllGood Fits us → AllGood Fits (drop 1 us)
fit_behind [] h = tt
fit_behind (l ∷ us) h = h.1

-- the token that comes next passes
pub passed : {u : ℕ} {t : Test} {ps : Parts} {us : List Lexeme} → State (Part u (Token t) ps) us → passes t (first_kind us) ≡ true
passed {u} {t} {ps} {us} s = (token_reads u t ps us s.reads).0

pub at_token : {u : ℕ} {t : Test} {ps : Parts} (n : ℕ) (us : List Lexeme) → State (Part u (Token t) ps) (drop n us) → State ps (drop (suc n) us)
at_token {u} {t} {ps} n us s = subst (λ (vs : List Lexeme). State ps vs) (dropped n us) (record { fine = s.fine.2; reads = (token_reads u t ps (drop n us) s.reads).1; fit = fit_behind (drop n us) s.fit })

tells_apart : (b : Bool) → b ≡ true → b ≡ false → ⊥
tells_apart b p q = absurd (cc)

this_first : (u : ℕ) (t : Test) (a b : Grammar) (ps : Parts) (us : List Lexeme) → passes t Bad ≡ false → passes t (first_kind us) ≡ true → State (Part u (Either t a b) ps) us → State (Part u a ps) (drop 1 us)
this_first u t a b ps [] z p s = absurd (tells_apart (passes t Bad) p z)
this_first u t a b ps (l ∷ us) z p s = took (Part u (Either t a b) ps) (Part u a ps) l us s (rw p refl)

-- the first alternative, by the next token
pub at_this : {u : ℕ} {t : Test} {a b : Grammar} {ps : Parts} (n : ℕ) (us : List Lexeme) → passes t Bad ≡ false → passes t (first_kind (drop n us)) ≡ true → State (Part u (Either t a b) ps) (drop n us) → State (Part u a ps) (drop (suc n) us)
at_this {u} {t} {a} {b} {ps} n us z p s = subst (λ (vs : List Lexeme). State (Part u a ps) vs) (dropped n us) (this_first u t a b ps (drop n us) z p s)

-- the second one
pub at_that : {u : ℕ} {t : Test} {a b : Grammar} {ps : Parts} (us : List Lexeme) → passes t (first_kind us) ≡ false → State (Part u (Either t a b) ps) us → State (Part u b ps) us
at_that {u} {t} {a} {b} {ps} [] p s = went (Part u (Either t a b) ps) (Part u b ps) [] s refl
at_that {u} {t} {a} {b} {ps} (l ∷ us) p s = went (Part u (Either t a b) ps) (Part u b ps) (l ∷ us) s (rw p refl)

again_first : (u : ℕ) (t : Test) (a : Grammar) (ps : Parts) (us : List Lexeme) → passes t Bad ≡ false → passes t (first_kind us) ≡ true → State (Part u (Many t a) ps) us → State (Part u a (Part u (Many t a) ps)) (drop 1 us)
again_first u t a ps [] z p s = absurd (tells_apart (passes t Bad) p z)
again_first u t a ps (l ∷ us) z p s = took (Part u (Many t a) ps) (Part u a (Part u (Many t a) ps)) l us s (rw p refl)

pub at_enough : {u : ℕ} {t : Test} {a : Grammar} {ps : Parts} (us : List Lexeme) → passes t (first_kind us) ≡ false → State (Part u (Many t a) ps) us → State ps us
at_enough {u} {t} {a} {ps} [] p s = went (Part u (Many t a) ps) ps [] s refl
at_enough {u} {t} {a} {ps} (l ∷ us) p s = went (Part u (Many t a) ps) ps (l ∷ us) s (rw p refl)

deeper_first : (u : ℕ) (t : Test) (a c b : Grammar) (ps : Parts) (us : List Lexeme) → passes t Bad ≡ false → passes t (first_kind us) ≡ true → State (Part u (Deeper t a c b) ps) us → (ltb u 32 ≡ true) × State (Part (suc u) a (Part u c ps)) (drop 1 us)
deeper_first u t a c b ps [] z p s = absurd (tells_apart (passes t Bad) p z)
deeper_first u t a c b ps (l ∷ us) z p s = by (ltb u 32) refl
  where
    by : (x : Bool) → ltb u 32 ≡ x → (x ≡ true) × State (Part (suc u) a (Part u c ps)) us
    by true e = (refl, took (Part u (Deeper t a c b) ps) (Part (suc u) a (Part u c ps)) l us s (rw (p, e) refl))
    by false e = absurd (too_deep (Part u (Deeper t a c b) ps) ps (l ∷ us) s (rw (p, e) refl))

-- one level deeper
pub at_deeper : {u : ℕ} {t : Test} {a c b : Grammar} {ps : Parts} (us : List Lexeme) → passes t Bad ≡ false → passes t (first_kind us) ≡ true → State (Part u (Deeper t a c b) ps) us → (ltb u 32 ≡ true) × State (Part (suc u) a (Part u c ps)) (drop 1 us)
at_deeper {u} {t} {a} {c} {b} {ps} us z p s = deeper_first u t a c b ps us z p s

pub at_level : {u : ℕ} {t : Test} {a c b : Grammar} {ps : Parts} (us : List Lexeme) → passes t (first_kind us) ≡ false → State (Part u (Deeper t a c b) ps) us → State (Part u b ps) us
at_level {u} {t} {a} {c} {b} {ps} [] p s = went (Part u (Deeper t a c b) ps) (Part u b ps) [] s refl
at_level {u} {t} {a} {c} {b} {ps} (l ∷ us) p s = went (Part u (Deeper t a c b) ps) (Part u b ps) (l ∷ us) s (rw p refl)

only_code : (a b : ℕ) → leb a b && leb b a ≡ eqb b a
only_code a b = by (eqb b a) refl
  where
    by : (c : Bool) → eqb b a ≡ c → leb a b && leb b a ≡ c
    by true h = grind (arith, nat_tests)
    by false h = by_left (leb a b) (leb b a) refl refl
      where
        by_left : (x y : Bool) → leb a b ≡ x → leb b a ≡ y → x && y ≡ false
        by_left true true p q = absurd (grind (arith, nat_tests))
        by_left true false p q = refl
        by_left false y p q = refl

-- what a test of one kind says
pub only_is : (j k : Kind) → passes (Only j) k ≡ is_kind k j
only_is j k = only_code (code j) (code k)

pub only_this : {u : ℕ} {j : Kind} {a b : Grammar} {ps : Parts} (n : ℕ) (us : List Lexeme) → is_kind Bad j ≡ false → begins j (drop n us) ≡ true → State (Part u (Either (Only j) a b) ps) (drop n us) → State (Part u a ps) (drop (suc n) us)
only_this {j} n us z p s = at_this n us (only_is j Bad ∙ z) (only_is j (first_kind (drop n us)) ∙ p) s

pub only_that : {u : ℕ} {j : Kind} {a b : Grammar} {ps : Parts} (us : List Lexeme) → begins j us ≡ false → State (Part u (Either (Only j) a b) ps) us → State (Part u b ps) us
only_that {j} us p s = at_that us (only_is j (first_kind us) ∙ p) s

-- the token that comes next is this one
pub only_passed : {u : ℕ} {j : Kind} {ps : Parts} {us : List Lexeme} → State (Part u (Token (Only j)) ps) us → begins j us ≡ true
only_passed {j} {us} s = sym (only_is j (first_kind us)) ∙ passed s

-- lists that are read part by part
module _ (A B : Type 0) (g : List Lexeme → Bool) (f : Kind → A → B → A) (p : List Lexeme → B × List Lexeme) (u : ℕ) (t : Test) (e : Grammar) (ps : Parts) (Good : A → Type 0) (Part_good : B → Type 0)
    (bad : passes t Bad ≡ false) (same : (us : List Lexeme) → g us ≡ passes t (first_kind us)) (shrinks : (us : List Lexeme) → length (p us).1 ≤ length us)
    (join : (k : Kind) (a : A) (b : B) → Good a → Part_good b → Good (f k a b)) (part : (us : List Lexeme) → State (Part u e (Part u (Many t e) ps)) us → Got Part_good (Part u (Many t e) ps) (p us)) where
  goes : (n : ℕ) (a : A) (us : List Lexeme) → length us ≤ suc n → g us ≡ true → Good a → State (Part u (Many t e) ps) us
      → ((b : A) (vs : List Lexeme) → length vs ≤ n → Good b → State (Part u (Many t e) ps) vs → Got Good ps (chained g f p n (b, vs))) → Got Good ps (chained g f p n (f (first_kind us) a (p (drop 1 us)).0, (p (drop 1 us)).1))
  goes n a us l h d s next =
      let q = part (drop 1 us) (again_first u t e ps us bad (sym (same us) ∙ h) s) in
      let m = shrinks (drop 1 us) in
      next (f (first_kind us) a (p (drop 1 us)).0) (p (drop 1 us)).1 (omega (arith, length-drop 1 us, m, l)) (join (first_kind us) a (p (drop 1 us)).0 d q.good) q.state

  pub chain_got : (n : ℕ) (a : A) (us : List Lexeme) → length us ≤ n → Good a → State (Part u (Many t e) ps) us → Got Good ps (chained g f p n (a, us))
  chain_got zero a [] l d s = record { good = d; state = at_enough [] bad s }
  chain_got zero a (x ∷ us) l d s = absurd (omega arith)
  chain_got (suc n) a us l d s =
      got_if (g us) _ _ (λ h. goes n a us l h d s (λ b vs m y z. chain_got n b vs m y z)) (λ h. record { good = d; state = at_enough us (sym (same us) ∙ h) s })
