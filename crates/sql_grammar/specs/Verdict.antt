-- What a list of tokens is by a grammar: a statement, wrong at a token, or too deep.
use Rattle.std.specs.Prelude.{ℕ, ◌≤◌, ◌≡◌, List, ◌++◌, map, take, length, slice_get}
use Rattle.sql_tokens.specs.declared.kind.Kind.{Kind}
use Rattle.sql_tokens.specs.declared.token.Token.{Token}
use Rattle.sql_grammar.specs.declared.engine.Verdict.{Verdict}
use Rattle.sql_grammar.specs.declared.engine.Verdict.TheVariants as v
use Rattle.sql_grammar.specs.Grammar.{Grammar, Reads, Part, Over, ahead}
use Rattle.sql_grammar.specs.Sql.{rule}

-- the kinds of the tokens
abbrev pub kinds_of : List Token → List Kind
kinds_of ts = map (λ t. t.kind) ts

-- the tokens are spelt by the grammar on at most n levels
abbrev pub IsSpelt : Grammar → ℕ → List Kind → Type 0
IsSpelt g n ks = Reads rule n (Part 0 g Over) ks

-- something spelt on at most n levels begins so
abbrev pub Begins : Grammar → ℕ → List Kind → Type 0
Begins g n ks = (r : List Kind) × IsSpelt g n (ks ++ r)

-- something spelt on at most n levels has the first i tokens, and behind them the next token, or its end where there is
-- none
abbrev pub GoesOn : Grammar → ℕ → ℕ → List Kind → Type 0
GoesOn g n i ks = (r : List Kind) × (ahead r ≡ slice_get ks i) × IsSpelt g n (take i ks ++ r)

-- The verdict on a list of tokens (this project's rule: at most 32 levels).
abbrev pub Judged : Grammar → List Kind → Verdict → Type 0
Judged g ks v.Fits = IsSpelt g 32 ks
-- the first token with which nothing spelt goes on
Judged g ks (v.At i) = (i ≤ length ks) × Begins g 32 (take i ks) × ((n : ℕ) → GoesOn g n i ks → ⊥)
-- the first token with which something goes on, but nothing of 32 levels
Judged g ks v.Deep = (i : ℕ) × (i ≤ length ks) × Begins g 32 (take i ks) × (GoesOn g 32 i ks → ⊥)
    × ((n : ℕ) × GoesOn g n i ks)
