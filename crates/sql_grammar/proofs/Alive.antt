-- Some tokens end each grammar whose rules can end.
use Rattle.std.proofs.Common.{◌≡◌, ℕ, zero, suc, Bool, true, ◌&&◌, leb, List, [], ◌∷◌, refl, arith, inl, inr}
use Rattle.std.proofs.lemmas.Bool.Decides.{nat_tests}
use Rattle.sql_tokens.specs.declared.kind.Kind.{Kind}
use Rattle.sql_tokens.specs.Kinds.{code}
use Rattle.sql_grammar.specs.declared.test.Test.{Test}
use Rattle.sql_grammar.specs.declared.rule.Rule.{Rule}
use Rattle.sql_grammar.specs.Tests.{passes, least_of}
use Rattle.sql_grammar.specs.declared.test.Test.TheVariants as v
use Rattle.sql_grammar.specs.Grammar.{Grammar, Empty, Token, Then, Either, Many, Deeper, Named, Parts, Over, Part, Reads, over, empty, token, both, this, that, enough, level, named}
use Rattle.sql_grammar.specs.Decided.{can_end, rule_ends}
use Rattle.sql_grammar.proofs.Lists.{and_left, and_right, or_cases}

same_passes : (a : ℕ) → leb a a && leb a a ≡ true
same_passes a = grind (arith, nat_tests)

-- each test lets its least kind pass
pub least_passes : (t : Test) → passes t (least_of t) ≡ true
least_passes (v.Only k) = same_passes (code k)
least_passes v.Name = refl
least_passes v.Column = refl
least_passes v.Sign = refl
least_passes v.Compare = refl
least_passes v.Whole = refl
least_passes v.Digits = refl
least_passes v.Level = refl
least_passes v.Flag = refl
least_passes v.Direction = refl
least_passes v.Fold = refl
least_passes v.Manner = refl
least_passes v.Rest = refl
least_passes v.IntervalUnit = refl
least_passes v.LifetimeUnit = refl

-- some tokens end the parts, where some end those behind the grammar
module _ (rule : Rule → Grammar) where
  abbrev pub Ends : ℕ → Parts → Type 0
  Ends n ps = (r : List Kind) × Reads rule n ps r

  abbrev pub Alive : Grammar → Type 0
  Alive g = (n u : ℕ) (ps : Parts) → Ends n ps → Ends n (Part u g ps)

  alive_when : (p : Rule → Bool) → ((m : Rule) → p m ≡ true → Alive (rule m)) → (g : Grammar) → can_end p g ≡ true → Alive g
  alive_when p f Empty h n u ps (r, d) = (r, empty d)
  alive_when p f (Token t) h n u ps (r, d) = (least_of t ∷ r, token (least_passes t) d)
  alive_when p f (Then a b) h n u ps e =
      let (r, d) = alive_when p f a (and_left (can_end p a) (can_end p b) h) n u (Part u b ps) (alive_when p f b (and_right (can_end p a) (can_end p b) h) n u ps e) in (r, both d)
  alive_when p f (Either t a b) h n u ps e =
      elim (or_cases (can_end p a) (can_end p b) h) [
        | inl q ↦ let (r, d) = alive_when p f a q n u ps e in (least_of t ∷ r, this (least_passes t) d)
        | inr q ↦ let (r, d) = alive_when p f b q n u ps e in (r, that d)
      ]
  alive_when p f (Many t a) h n u ps (r, d) = (r, enough d)
  alive_when p f (Deeper t a c b) h n u ps e = let (r, d) = alive_when p f b h n u ps e in (r, level d)
  alive_when p f (Named m) h n u ps e = let (r, d) = f m h n u ps e in (r, named d)

  pub alive_rules : (f : ℕ) (m : Rule) → rule_ends rule f m ≡ true → Alive (rule m)
  alive_rules zero m h n u ps e = absurd (cc)
  alive_rules (suc f) m h n u ps e = alive_when (rule_ends rule f) (alive_rules f) (rule m) h n u ps e

  can_all : (g : Grammar) → can_end (λ m. true) g ≡ true
  can_all Empty = refl
  can_all (Token t) = refl
  can_all (Then a b) = grind (arith, can_all a, can_all b)
  can_all (Either t a b) = grind (arith, can_all b, can_all a)
  can_all (Many t a) = refl
  can_all (Deeper t a c b) = can_all b
  can_all (Named m) = refl

  -- some tokens end any parts
  pub ending : ((m : Rule) → Alive (rule m)) → (n : ℕ) (ps : Parts) → Ends n ps
  ending f n Over = ([], over)
  ending f n (Part u g ps) = alive_when (λ m. true) (λ m h. f m) g (can_all g) n u ps (ending f n ps)
