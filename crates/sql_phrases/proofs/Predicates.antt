-- What a predicate is, by its first token.
use Rattle.std.proofs.Common.{◌≡◌, ℕ, zero, suc, ◌-◌, true, false, List, drop, refl, sym, ap, ◌∙◌, arith}
use Rattle.sql_grammar.specs.sql_tokens.specs.declared.kind.Kind.TheVariants as k
use Rattle.sql_grammar.specs.sql_tokens.specs.Lexing.{Lexeme}
use Rattle.sql_query.specs.Trees.{ConditionTree}
use Rattle.sql_phrases.specs.Reading.{begins, past_one}
use Rattle.sql_phrases.specs.Conditions.{condition_by, negated, predicate_of, test_of}

last : (ls : List Lexeme) → predicate_of 0 ls ≡ test_of ls
unfolding predicate_of
last ls = refl

-- no level is left
pub predicate_last : (n : ℕ) (ls : List Lexeme) → n ≡ 0 → predicate_of n ls ≡ test_of ls
predicate_last n ls h = ap (λ m. predicate_of m ls) h ∙ last ls

-- one level and more
less : (n : ℕ) → (n ≡ 0 → ⊥) → n ≡ suc (n - 1)
less n h = omega arith

open_at : (m : ℕ) (ls : List Lexeme) (x : ConditionTree) (rest : List Lexeme) → true ≡ begins k.OpenParen ls → condition_by (predicate_of m) (drop 1 ls) ≡ (x, rest) → predicate_of (suc m) ls ≡ (x, drop 1 rest)
unfolding predicate_of
open_at m ls x rest b e = rw (← b, e)

pub predicate_open : (n : ℕ) (ls : List Lexeme) (x : ConditionTree) (rest : List Lexeme) → (n ≡ 0 → ⊥) → true ≡ begins k.OpenParen ls → condition_by (predicate_of (n - 1)) (drop 1 ls) ≡ (x, rest) → predicate_of n ls ≡ (x, drop 1 rest)
predicate_open n ls x rest h b e = ap (λ m. predicate_of m ls) (less n h) ∙ open_at (n - 1) ls x rest b e

not_at : (m : ℕ) (ls : List Lexeme) (x : ConditionTree) (rest : List Lexeme) → false ≡ begins k.OpenParen ls → true ≡ begins k.Not ls → predicate_of m (drop 1 ls) ≡ (x, rest) → predicate_of (suc m) ls ≡ negated (x, rest)
unfolding predicate_of
not_at m ls x rest a b e = rw (← a, ← b, e)

pub predicate_not : (n : ℕ) (ls : List Lexeme) (x : ConditionTree) (rest : List Lexeme) → (n ≡ 0 → ⊥) → false ≡ begins k.OpenParen ls → true ≡ begins k.Not ls → predicate_of (n - 1) (drop 1 ls) ≡ (x, rest) → predicate_of n ls ≡ negated (x, rest)
predicate_not n ls x rest h a b e = ap (λ m. predicate_of m ls) (less n h) ∙ not_at (n - 1) ls x rest a b e

test_at : (m : ℕ) (ls : List Lexeme) → false ≡ begins k.OpenParen ls → false ≡ begins k.Not ls → predicate_of (suc m) ls ≡ test_of ls
unfolding predicate_of
test_at m ls a b = rw (← a, ← b)

pub predicate_test : (n : ℕ) (ls : List Lexeme) → (n ≡ 0 → ⊥) → false ≡ begins k.OpenParen ls → false ≡ begins k.Not ls → predicate_of n ls ≡ test_of ls
predicate_test n ls h a b = ap (λ m. predicate_of m ls) (less n h) ∙ test_at (n - 1) ls a b
