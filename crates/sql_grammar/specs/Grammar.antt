-- Grammars as data, and what they read.
use Rattle.std.specs.Prelude.{ℕ, suc, ◌<◌, ◌≡◌, true, List, [], ◌∷◌, Option, Some, None}
use Rattle.sql_tokens.specs.declared.kind.Kind.{Kind}
use Rattle.sql_grammar.specs.declared.test.Test.{Test}
use Rattle.sql_grammar.specs.declared.rule.Rule.{Rule}
use Rattle.sql_grammar.specs.Tests.{passes}

-- A grammar. Each choice and each repetition begins with a test of one token (this project's rule).
pub data Grammar : Type 0 where
  -- nothing
  Empty : Grammar
  -- a token that passes
  Token : Test → Grammar
  -- the first, then the second
  Then : Grammar → Grammar → Grammar
  -- a token that passes and the first, or else the second
  Either : Test → Grammar → Grammar → Grammar
  -- any number of times a token that passes and what follows it
  Many : Test → Grammar → Grammar
  -- a token that passes, one level deeper the first, and again on this level the second; or else the third
  Deeper : Test → Grammar → Grammar → Grammar → Grammar
  -- what the rule says
  Named : Rule → Grammar

-- what is still to be read, each part on its level
pub data Parts : Type 0 where
  Over : Parts
  Part : ℕ → Grammar → Parts → Parts

-- the token that comes next
abbrev pub ahead : List Kind → Option Kind
ahead [] = None
ahead (k ∷ r) = Some k

module _ (rule : Rule → Grammar) where
  -- The parts read just these tokens, on no level above the limit.
  pub data Reads : ℕ → Parts → List Kind → Type 0 where
    over : {n : ℕ} → Reads n Over []
    empty : {n u : ℕ} {ps : Parts} {r : List Kind} → Reads n ps r → Reads n (Part u Empty ps) r
    token : {n u : ℕ} {t : Test} {k : Kind} {ps : Parts} {r : List Kind} → passes t k ≡ true → Reads n ps r
        → Reads n (Part u (Token t) ps) (k ∷ r)
    both : {n u : ℕ} {a b : Grammar} {ps : Parts} {r : List Kind} → Reads n (Part u a (Part u b ps)) r
        → Reads n (Part u (Then a b) ps) r
    this : {n u : ℕ} {t : Test} {a b : Grammar} {k : Kind} {ps : Parts} {r : List Kind} → passes t k ≡ true
        → Reads n (Part u a ps) r → Reads n (Part u (Either t a b) ps) (k ∷ r)
    that : {n u : ℕ} {t : Test} {a b : Grammar} {ps : Parts} {r : List Kind} → Reads n (Part u b ps) r
        → Reads n (Part u (Either t a b) ps) r
    again : {n u : ℕ} {t : Test} {a : Grammar} {k : Kind} {ps : Parts} {r : List Kind} → passes t k ≡ true
        → Reads n (Part u a (Part u (Many t a) ps)) r → Reads n (Part u (Many t a) ps) (k ∷ r)
    enough : {n u : ℕ} {t : Test} {a : Grammar} {ps : Parts} {r : List Kind} → Reads n ps r
        → Reads n (Part u (Many t a) ps) r
    deeper : {n u : ℕ} {t : Test} {a c b : Grammar} {k : Kind} {ps : Parts} {r : List Kind} → passes t k ≡ true → u < n
        → Reads n (Part (suc u) a (Part u c ps)) r → Reads n (Part u (Deeper t a c b) ps) (k ∷ r)
    level : {n u : ℕ} {t : Test} {a c b : Grammar} {ps : Parts} {r : List Kind} → Reads n (Part u b ps) r
        → Reads n (Part u (Deeper t a c b) ps) r
    named : {n u : ℕ} {m : Rule} {ps : Parts} {r : List Kind} → Reads n (Part u (rule m) ps) r
        → Reads n (Part u (Named m) ps) r
