-- The computed test that a grammar is decided by its next token.
use Rattle.std.specs.Prelude.{ℕ, zero, suc, ◌+◌, Bool, true, false, not, ◌&&◌, ◌||◌, nat_le, List, [], ◌∷◌, ◌++◌, if◌then◌else◌}
use Rattle.sql_tokens.specs.declared.kind.Kind.{Kind}
use Rattle.sql_grammar.specs.declared.test.Test.{Test}
use Rattle.sql_grammar.specs.declared.rule.Rule.{Rule}
use Rattle.sql_grammar.specs.Tests.{passes, low_of, high_of}
use Rattle.sql_grammar.specs.Grammar.{Grammar, Empty, Token, Then, Either, Many, Deeper, Named, Parts, Over, Part}

-- one of these tests lets it pass
abbrev pub has : List Test → Kind → Bool
has [] k = false
has (t ∷ ts) k = passes t k || has ts k

-- some token passes both
abbrev pub clash : Test → Test → Bool
clash t u = nat_le (low_of t) (high_of u) && nat_le (low_of u) (high_of t)

abbrev pub clashes : Test → List Test → Bool
clashes t [] = false
clashes t (u ∷ us) = clash t u || clashes t us

-- no token passes one here and one there
abbrev pub apart : List Test → List Test → Bool
apart [] us = true
apart (t ∷ ts) us = not (clashes t us) && apart ts us

-- what passes the first passes the second
abbrev pub implies : Test → Test → Bool
implies t u = nat_le (low_of u) (low_of t) && nat_le (high_of t) (high_of u)

abbrev pub is_in : Test → List Test → Bool
is_in t [] = false
is_in t (u ∷ us) = implies t u || is_in t us

abbrev pub all_in : List Test → List Test → Bool
all_in [] us = true
all_in (t ∷ ts) us = is_in t us && all_in ts us

-- What is known of the rules: whether a rule may read nothing, how it may begin, which tests it may
-- still make at its end, and more than the steps that it may take before a token.
pub record Known : Type 0 where
  pub empty : Rule → Bool
  pub starts : Rule → List Test
  pub ends : Rule → List Test
  pub weight : Rule → ℕ

module _ (known : Known) where
  -- may read nothing
  abbrev pub may_be_empty : Grammar → Bool
  may_be_empty Empty = true
  may_be_empty (Token t) = false
  may_be_empty (Then a b) = may_be_empty a && may_be_empty b
  may_be_empty (Either t a b) = may_be_empty b
  may_be_empty (Many t a) = true
  may_be_empty (Deeper t a c b) = may_be_empty b
  may_be_empty (Named m) = known.empty m

  -- these tests, where the grammar may read nothing
  abbrev pub where_empty : Grammar → List Test → List Test
  where_empty a ts = if may_be_empty a then ts else []

  -- how it may begin
  abbrev pub starts : Grammar → List Test
  starts Empty = []
  starts (Token t) = t ∷ []
  starts (Then a b) = starts a ++ where_empty a (starts b)
  starts (Either t a b) = t ∷ starts b
  starts (Many t a) = t ∷ []
  starts (Deeper t a c b) = t ∷ starts b
  starts (Named m) = known.starts m

  -- the tests that it may still make at its end, so that what comes after it may not begin so
  abbrev pub ends : Grammar → List Test
  ends Empty = []
  ends (Token t) = []
  ends (Then a b) = ends b ++ where_empty b (ends a)
  ends (Either t a b) = ends a ++ (ends b ++ where_empty b (t ∷ []))
  ends (Many t a) = t ∷ ends a
  ends (Deeper t a c b) = (ends c ++ where_empty c (ends a)) ++ (ends b ++ where_empty b (t ∷ []))
  ends (Named m) = known.ends m

  -- the next token decides each choice
  abbrev pub is_decided : Grammar → Bool
  is_decided Empty = true
  is_decided (Token t) = true
  is_decided (Then a b) = is_decided a && is_decided b && apart (ends a) (starts b)
  is_decided (Either t a b) = is_decided a && is_decided b && apart (t ∷ []) (starts b)
  is_decided (Many t a) = is_decided a && apart (ends a) (t ∷ [])
  is_decided (Deeper t a c b) = is_decided a && is_decided c && is_decided b && apart (ends a) (starts c)
      && apart (t ∷ []) (starts b)
  is_decided (Named m) = true

  -- more than the steps that it may take before a token
  abbrev pub weight : Grammar → ℕ
  weight Empty = 1
  weight (Token t) = 1
  weight (Then a b) = 1 + weight a + (if may_be_empty a then weight b else 0)
  weight (Either t a b) = 1 + weight b
  weight (Many t a) = 1
  weight (Deeper t a c b) = 1 + weight b
  weight (Named m) = 1 + known.weight m

  abbrev pub weight_of : Parts → ℕ
  weight_of Over = 0
  weight_of (Part u a ps) = weight a + (if may_be_empty a then weight_of ps else 0)

  -- what is known of a rule is so, and the next token decides in it
  abbrev pub is_known : Rule → Grammar → Bool
  is_known m g = is_decided g && (not (may_be_empty g) || known.empty m) && all_in (starts g) (known.starts m)
      && all_in (ends g) (known.ends m) && nat_le (weight g) (known.weight m)

-- some tokens end it, where some end each of the rules that are so marked
abbrev pub can_end : (Rule → Bool) → Grammar → Bool
can_end p Empty = true
can_end p (Token t) = true
can_end p (Then a b) = can_end p a && can_end p b
can_end p (Either t a b) = can_end p a || can_end p b
can_end p (Many t a) = true
can_end p (Deeper t a c b) = can_end p b
can_end p (Named m) = p m

-- some tokens end the rule, by rules called at most so many deep
abbrev pub rule_ends : (Rule → Grammar) → ℕ → Rule → Bool
rule_ends rule zero m = false
rule_ends rule (suc n) m = can_end (rule_ends rule n) (rule m)
