-- What is read off the tokens of bytes without a bad one: what is done to cache groups, indexes and calls.
use Rattle.std.proofs.Common.{ℕ, ◌+◌, ◌*◌, ◌-◌, Bool, true, false, cond, List, [], ◌∷◌, ◌++◌, length, drop, refl, arith}
use Rattle.sql_print.specs.sql_query.specs.declared.literal.Literal.{Literal}
use Rattle.sql_print.specs.sql_tokens.specs.declared.kind.Kind.TheVariants as k
use Rattle.sql_print.specs.sql_tokens.specs.Lexing.{Lexeme}
use Rattle.sql_print.specs.sql_grammar.specs.declared.rule.Rule.TheVariants as rules
use Rattle.sql_print.specs.sql_grammar.specs.declared.test.Test.TheVariants.{Only, Whole}
use Rattle.sql_print.specs.sql_grammar.specs.Grammar.{Named, Parts, Part, Token}
use Rattle.sql_print.specs.sql_grammar.specs.Notation.{optional, the, ◌▸◌}
use Rattle.sql_print.specs.sql_grammar.specs.Loading.{loaded as loaded_part, unloaded as unloaded_part}
use Rattle.sql_print.specs.sql_grammar.specs.Tables.{index as index_part}
use Rattle.sql_print.specs.sql_subset.specs.Statements.{commit_every_of, id_of, index_of, load_of, of_group_of, parallel_of, which_of}
use Rattle.sql_print.specs.sql_phrases.specs.Reading.{at_comma, begins, capped, first_text, literal_of, literals_of, name_from, name_of, number_of, number_with, with_last}
use Rattle.sql_print.specs.sql_phrases.specs.Conditions.{filter_of}
use Rattle.sql_print.specs.sql_phrases.proofs.Shrinking.{literal_shrinks}
use Rattle.print_laws.proofs.Folded.{name_read}
use Rattle.print_laws.proofs.Lists.{SomeGood}
use Rattle.print_laws.proofs.Literals.{IsLiteral}
use Rattle.print_laws.proofs.Loading.{IsCount, IsId, IsIndex, IsLoad, IsOfGroup, IsWhich, id_part, literals_part}
use Rattle.print_laws.proofs.Names.{IsName}
use Rattle.print_laws.proofs.NumberLaws.{IsCapped, capped_is}
use Rattle.print_laws.proofs.Reading.{comma_is, identifier_good, name_got, names_got, some_more}
use Rattle.print_laws.proofs.State.{Got, State, at_empty, at_named, at_then, at_token, chain_got, got_if, only_that, only_this}
use Rattle.print_laws.proofs.TreeReading.{filter_got, literal_got}

-- what is read as a name is one
pub name_good : (us : List Lexeme) → IsName (name_of us).0
name_good us = by (begins k.Dot (drop 1 us))
  where
    by : (b : Bool) → IsName (cond {A = List ℕ × List Lexeme} b (name_from (first_text us ++ 46 ∷ first_text (drop 2 us)), drop 3 us) (name_from (first_text us), drop 1 us)).0
    by true = name_read (first_text us ++ 46 ∷ first_text (drop 2 us))
    by false = name_read (first_text us)

-- literals before a `)`
pub record Closed (ps : Parts) (us : List Lexeme) : Type 0 where
  pub good : SomeGood IsLiteral (literals_of us).0
  pub state : State ps (drop 1 (literals_of us).1)

pub literals_got : (ps : Parts) (us : List Lexeme) → State (Part 0 literals_part ps) us → Closed ps us
literals_got ps us s =
    let f = literal_got 0 _ us (at_then s) in
    let c =
    chain_got (List Literal) Literal at_comma with_last literal_of 0 (Only k.Comma) (Named rules.Literal) (Part 0 (the k.CloseParen) ps) (SomeGood IsLiteral) IsLiteral refl comma_is literal_shrinks (λ w xs x g t. some_more IsLiteral xs x g t) (λ vs t. literal_got 0 _ vs t) (length us) ((literal_of us).0 ∷ [])
    (literal_of us).1 (literal_shrinks us) (f.good, tt) (at_then f.state) in
    record { good = c.good; state = at_token 0 (literals_of us).1 c.state }

id_got : (ps : Parts) (us : List Lexeme) → State (Part 0 id_part ps) us → Got IsId ps (id_of us)
id_got ps us s =
    got_if (begins k.With us) _ _ (λ h. let x = literals_got ps (drop 3 us) (at_token 2 us (at_then (at_token 1 us (at_then (only_this 0 us refl h s))))) in record { good = x.good; state = x.state }) (λ h. record { good = tt; state = at_empty (only_that us h s) })

which_got : (ps : Parts) (us : List Lexeme) → State (Part 0 (Named rules.Chosen) ps) us → Got IsWhich ps (which_of us)
unfolding which_of
which_got ps us s =
    let f = filter_got _ us (at_then (at_named s)) in
    let i = id_got ps (filter_of us).1 f.state in
    record { good = record { filter = f.good; id = i.good }; state = i.state }

number_capped : (ds : List ℕ) (n : ℕ) → IsCapped n → IsCapped (number_with n ds)
number_capped [] n h = h
number_capped (d ∷ ds) n h = number_capped ds (capped (10 * n + (d - 48))) (capped_is (10 * n + (d - 48)))

pub number_good : (ds : List ℕ) → IsCapped (number_of ds)
number_good ds = number_capped ds 0 (omega arith)

commit_got : (ps : Parts) (us : List Lexeme) → State (Part 0 (optional k.Commit (the k.Every ▸ Token Whole ▸ the k.Rows)) ps) us → Got IsCount ps (commit_every_of us)
commit_got ps us s =
    got_if (begins k.Commit us) _ _ (λ h. record { good = number_good (first_text (drop 2 us)); state = at_token 3 us (at_token 2 us (at_then (at_token 1 us (at_then (only_this 0 us refl h s))))) }) (λ h. record { good = tt; state = at_empty (only_that us h s) })

parallel_got : (ps : Parts) (us : List Lexeme) → State (Part 0 (optional k.Parallel (Token Whole)) ps) us → Got IsCount ps (parallel_of us)
parallel_got ps us s = got_if (begins k.Parallel us) _ _ (λ h. record { good = number_good (first_text (drop 1 us)); state = at_token 1 us (only_this 0 us refl h s) }) (λ h. record { good = tt; state = at_empty (only_that us h s) })

pub load_got : (ps : Parts) (us : List Lexeme) → State (Part 0 loaded_part ps) us → Got IsLoad ps (load_of us)
unfolding load_of
load_got ps us s =
    let n = name_got 0 _ (drop 2 us) (at_then (at_token 1 us (at_then (at_token 0 us (at_then s))))) in
    let r : List Lexeme = (name_of (drop 2 us)).1 in
    let w = which_got _ r (at_then n.state) in
    let c = commit_got _ (which_of r).1 (at_then w.state) in
    let p = parallel_got ps (commit_every_of (which_of r).1).1 c.state in
    record { good = record { group = n.good; which = w.good; commit = c.good; parallel = p.good }; state = p.state }

pub of_group_is : (ps : Parts) (us : List Lexeme) → State (Part 0 unloaded_part ps) us → IsOfGroup (of_group_of us)
unfolding of_group_of
of_group_is ps us s =
    let n = name_got 0 _ (drop 2 us) (at_then (at_token 1 us (at_then (at_token 0 us (at_then s))))) in
    let w = which_got ps (name_of (drop 2 us)).1 n.state in
    record { group = n.good; which = w.good }

pub index_is : (ps : Parts) (us : List Lexeme) → State (Part 0 index_part ps) us → IsIndex (index_of us)
unfolding index_of
index_is ps us s =
    let s1 = at_then s in
    let s2 = at_token 0 us s1 in
    let vs : List Lexeme = drop 1 us in
    let n = name_got 0 _ (drop 1 vs) (at_then (at_token 0 vs (at_then s2))) in
    let r : List Lexeme = (name_of (drop 1 vs)).1 in
    let c = names_got 0 _ (drop 1 r) (at_then (at_token 0 r (at_then n.state))) in
    record { name = identifier_good us s1.fit; table = n.good; columns = c.good }
