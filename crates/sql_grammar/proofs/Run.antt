-- Whole runs of the engine.
use Rattle.std.proofs.Common.{◌≡◌, ℕ, suc, ◌<◌, ◌≤◌, true, Option, Some, None, List, [], ◌∷◌, ◌++◌, length, take, slice_get, refl, sym, ◌∙◌, ap, subst, arith, inl, inr, get_or, append-nil, append_assoc, take_all}
use Rattle.std.proofs.Math.Seq.{take-suc}
use Rattle.std.proofs.lemmas.Option.{slice_get_within, slice_get_cases, get_or_from_slice_get}
use Rattle.sql_tokens.specs.declared.kind.Kind.{Kind}
use Rattle.sql_grammar.specs.declared.engine.Move.{Move}
use Rattle.sql_grammar.specs.declared.engine.Move.TheVariants.{On, Took, Wrong, Deep, Ended}
use Rattle.sql_grammar.specs.declared.engine.Verdict.TheVariants as v
use Rattle.sql_grammar.specs.Grammar.{Grammar, Empty, Token, Then, Either, Many, Deeper, Named, Parts, Over, Part, Reads}
use Rattle.sql_grammar.specs.Decided.{has, is_decided}
use Rattle.sql_grammar.specs.Machine.{step_of, Settles, last, more}
use Rattle.sql_grammar.specs.Sql.{rule, known}
use Rattle.sql_grammar.specs.Verdict.{IsSpelt, Begins, Judged}
use Rattle.sql_grammar.proofs.Alive.{ending}
use Rattle.sql_grammar.proofs.Passes.{decided, lives}
use Rattle.sql_grammar.proofs.Steps.{Fine, Law, begins, step_law}

-- What two moves in a row mean.
two_laws : (next : Option Kind) (ps qs : Parts) (m : Move) (rs : Parts) → Law rule known next ps (On, qs) → Law rule known next qs (m, rs) → Law rule known next ps (m, rs)
two_laws next ps qs On rs (f, b, a) (g, c, d) = (g, λ n r x. b n r (c n r x), λ n r h x. d n r h (a n r h x))
two_laws next ps qs Took rs (f, b, a) (g, c, d) = (g, λ k n r h l x. b n (k ∷ r) (c k n r h l x), λ k n r h x. d k n r h (a n (k ∷ r) (sym h) x))
two_laws next ps qs Wrong rs (f, b, a) g = λ n r h x. g n r h (a n r h x)
two_laws next ps qs Deep rs (f, b, a) (g, (n, r, l, e, d)) = (λ s h x. g s h (a 32 s h x), (n, r, l, e, b n r d))
two_laws next ps qs Ended rs (f, b, a) (g, d) = (g, λ n. b n [] (d n))

pub settled_law : {next : Option Kind} {ps : Parts} {m : Move × Parts} → Settles rule next ps m → Fine known ps → Law rule known next ps m
settled_law {next} {ps} {m} (last e) f = subst (λ x. Law rule known next ps x) e (step_law rule known decided next ps lives f)
settled_law {next} {ps} {m} (more {qs} e s) f =
    let l : Law rule known next ps (On, qs) = subst (λ x. Law rule known next ps x) e (step_law rule known decided next ps lives f) in
    two_laws next ps qs m.0 m.1 l (settled_law s l.0)

-- What was read so far, and what the parts are then.
pub record Reading (s : Grammar) (ks : List Kind) (i : ℕ) (ps : Parts) : Type 0 where
  pub within : i ≤ length ks
  pub fine : Fine known ps
  pub back : (n : ℕ) (r : List Kind) → 32 ≤ n → Reads rule n ps r → IsSpelt s n (take i ks ++ r)
  pub forth : (n : ℕ) (r : List Kind) → IsSpelt s n (take i ks ++ r) → Reads rule n ps r

start_fine : (s : Grammar) → is_decided known s ≡ true → Fine known (Part 0 s Over)
start_fine s h = (h, λ k p q. absurd (no_test k q), tt)
  where
    no_test : (k : Kind) → has (begins known Over) k ≡ true → ⊥
    no_test k q = absurd (cc)

-- Nothing is read yet.
pub reading_none : (s : Grammar) (ks : List Kind) → is_decided known s ≡ true → Reading s ks 0 (Part 0 s Over)
reading_none s ks h = record { within = omega arith; fine = start_fine s h; back = λ n r l d. d; forth = λ n r d. d }

-- Only a token that is there is taken.
took_some : {next : Option Kind} {ps : Parts} {m : Move × Parts} → Settles rule next ps m → m.0 ≡ Took → (k : Kind) × (next ≡ Some k)
took_some {next} (last {ps} e) h = step_some next ps (ap (λ x. x.0) e ∙ h)
  where
    step_some : (next : Option Kind) (ps : Parts) → (step_of rule next ps).0 ≡ Took → (k : Kind) × (next ≡ Some k)
    step_some (Some k) ps h = (k, refl)
    step_some None Over h = absurd (cc)
    step_some None (Part u Empty ps) h = absurd (cc)
    step_some None (Part u (Token t) ps) h = absurd (cc)
    step_some None (Part u (Then a b) ps) h = absurd (cc)
    step_some None (Part u (Either t a b) ps) h = absurd (cc)
    step_some None (Part u (Many t a) ps) h = absurd (cc)
    step_some None (Part u (Deeper t a c b) ps) h = absurd (cc)
    step_some None (Part u (Named m) ps) h = absurd (cc)
took_some (more e s) h = took_some s h

-- One token more, at the end of the front.
front_more : (ks : List Kind) (i : ℕ) (k : Kind) (r : List Kind) → slice_get ks i ≡ Some k → take (suc i) ks ++ r ≡ take i ks ++ (k ∷ r)
front_more ks i k r h =
    let w : i < length ks = slice_get_within ks i k h in
    let g : get_or ks i k ≡ k = get_or_from_slice_get ks i k k h in
    rw (take-suc ks i k w, g, append_assoc (take i ks) (k ∷ []) r)

pub took : (s : Grammar) (ks : List Kind) (i : ℕ) (ps qs : Parts) → Reading s ks i ps → Settles rule (slice_get ks i) ps (Took, qs) → (i < length ks) × Reading s ks (suc i) qs
took s ks i ps qs l d =
    let (k, h) = took_some d refl in
    let (f, b, g) = settled_law d l.fine in
    let w : i < length ks = slice_get_within ks i k h in (
      w,
      record {
        within = omega arith;
        fine = f;
        back = λ n r m x. subst (λ y. IsSpelt s n y) (sym (front_more ks i k r h)) (l.back n (k ∷ r) m (b k n r h m x));
        forth = λ n r x. g k n r h (l.forth n (k ∷ r) (subst (λ y. IsSpelt s n y) (front_more ks i k r h) x));
      },
    )

-- What was read so far begins something that is spelt.
reading_begins : (s : Grammar) (ks : List Kind) (i : ℕ) (ps : Parts) → Reading s ks i ps → Begins s 32 (take i ks)
reading_begins s ks i ps l = let (r, d) = ending rule lives 32 ps in (r, l.back 32 r (omega arith) d)

pub wrong : (s : Grammar) (ks : List Kind) (i : ℕ) (ps qs : Parts) → Reading s ks i ps → Settles rule (slice_get ks i) ps (Wrong, qs) → Judged s ks (v.At i)
wrong s ks i ps qs l d = (l.within, reading_begins s ks i ps l, λ n (r, a, x). settled_law d l.fine n r a (l.forth n r x))

pub deep : (s : Grammar) (ks : List Kind) (i : ℕ) (ps qs : Parts) → Reading s ks i ps → Settles rule (slice_get ks i) ps (Deep, qs) → Judged s ks v.Deep
deep s ks i ps qs l d =
    let (f, (n, r, m, a, x)) = settled_law d l.fine in
    (i, l.within, reading_begins s ks i ps l, λ (t, b, y). f t b (l.forth 32 t y), (n, (r, a, l.back n r m x)))

-- All is read where there is no next token.
all_read : (ks : List Kind) (i : ℕ) → i ≤ length ks → slice_get ks i ≡ None → take i ks ++ [] ≡ ks
all_read ks i w h =
    elim (slice_get_cases ks i).1 [
      | inl (x, l, e, g) ↦ absurd (differs x (e) h)
      | inr (l, e) ↦ let m : i ≡ length ks = omega arith in rw (m, take_all (length ks) ks (omega arith), append-nil)
    ]
  where
    differs : (x : Kind) → slice_get ks i ≡ Some x → slice_get ks i ≡ None → ⊥
    differs x p q = absurd (cc)

pub ended : (s : Grammar) (ks : List Kind) (i : ℕ) (ps qs : Parts) → Reading s ks i ps → Settles rule (slice_get ks i) ps (Ended, qs) → Judged s ks v.Fits
ended s ks i ps qs l d =
    let (h, f) = settled_law d l.fine in subst (λ y. IsSpelt s 32 y) (all_read ks i l.within h) (l.back 32 [] (omega arith) (f 32))
