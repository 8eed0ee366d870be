-- Conditions that are put are read back.
use Rattle.std.proofs.Common.{◌≡◌, ℕ, zero, suc, ◌+◌, ◌≤◌, ◌<◌, max, Bool, true, false, cond, List, [], ◌∷◌, ◌++◌, drop, codes, refl, sym, ap, ◌∙◌, subst, arith, append_assoc, append-nil}
use Rattle.sql_print.specs.expressions.specs.declared.condition.Comparator.{Comparator}
use Rattle.sql_print.specs.expressions.specs.declared.condition.Comparator.TheVariants as comparators
use Rattle.sql_print.specs.sql_query.specs.Trees.{ExpressionTree, ConditionTree, Compared, Missing, Between, Among, Not, All, Any}
use Rattle.sql_print.specs.sql_tokens.specs.declared.kind.Kind.{Kind}
use Rattle.sql_print.specs.sql_tokens.specs.declared.kind.Kind.TheVariants as k
use Rattle.sql_print.specs.sql_tokens.specs.Kinds.{is_kind}
use Rattle.sql_print.specs.sql_tokens.specs.Lexing.{Lexeme, lexeme}
use Rattle.sql_print.specs.sql_grammar.specs.declared.rule.Rule.TheVariants as rules
use Rattle.sql_print.specs.sql_grammar.specs.declared.test.Test.TheVariants.{Only, Compare}
use Rattle.sql_print.specs.sql_grammar.specs.Tests.{passes}
use Rattle.sql_print.specs.sql_grammar.specs.Grammar.{Grammar, Either, Empty, Named, Part, Reads, token, both, this, that, empty, deeper, level, named}
use Rattle.sql_print.specs.sql_grammar.specs.Notation.{choice, optional, the, ◌▸◌}
use Rattle.sql_print.specs.sql_grammar.specs.Queries.{cond as cond_rule, conj, exprs, within as within_rule}
use Rattle.sql_print.specs.sql_grammar.specs.Sql.{rule}
use Rattle.sql_print.specs.sql_subset.specs.Lines.{kinds_in}
use Rattle.sql_print.specs.sql_phrases.specs.Reading.{begins, past_one}
use Rattle.sql_print.specs.sql_phrases.specs.Expressions.{expression_of, expressions_of}
use Rattle.sql_print.specs.sql_phrases.specs.Conditions.{among, at_and, at_or, between, between_low, both as both_of, compared, condition_by, condition_of, conjunction_by, either, negated, predicate_of, test_of, tested, within}
use Rattle.sql_print.specs.sql_phrases.proofs.Predicates.{predicate_last, predicate_test}
use Rattle.sql_print.specs.sql_phrases.proofs.Shrinking.{conjunction_shrinks, predicate_shrinks}
use Rattle.sql_print.specs.sql_words.specs.declared.condition.Strength.{Strength}
use Rattle.sql_print.specs.sql_words.specs.declared.condition.Strength.TheVariants.{Loose, Middle, Tight}
use Rattle.sql_print.specs.sql_words.specs.Words.{Word, listed}
use Rattle.sql_print.specs.sql_words.specs.Trees.{binds_and, binds_or, comparator_word, condition_words, expression_words, membership_words, not_words, range_words}
use Rattle.print_laws.proofs.Expressions.{IsSum, NoStart, Stops, expression_never, not_starts_none, open_starts_none, put_expression, put_expressions, stops_word}
use Rattle.print_laws.proofs.Fine.{fine_more}
use Rattle.print_laws.proofs.Keywords.{and_word, at_least_word, at_most_word, between_word, close_word, equals_word, greater_word, in_word, is_word, less_word, not_equals_word, not_word, null_word, open_word, or_word}
use Rattle.print_laws.proofs.Lexed.{Lexes, begun_by, tokens}
use Rattle.print_laws.proofs.Lists.{SomeGood}
use Rattle.print_laws.proofs.Put.{Leads, Never, Put, leads_end, leads_first, leads_more, leads_words, never_word, put_as, put_both, put_last, put_map, put_word, put_words}

-- the expressions of a condition are such as a line can have
abbrev pub IsCondition : ConditionTree → Type 0
IsCondition (Compared c a b) = IsSum a × IsSum b
IsCondition (Missing n a) = IsSum a
IsCondition (Between n a low high) = IsSum a × IsSum low × IsSum high
IsCondition (Among n a list) = IsSum a × SomeGood IsSum list
IsCondition (Not a) = IsCondition a
IsCondition (All a b) = IsCondition a × IsCondition b
IsCondition (Any a b) = IsCondition a × IsCondition b

-- one level more, where parentheses are needed
abbrev pub deeper_if : Bool → ℕ → ℕ
deeper_if needed n = cond needed (suc n) n

-- the levels of a condition as it is printed beside what binds so strongly
abbrev pub levels : Strength → ConditionTree → ℕ
levels s (Compared c a b) = 0
levels s (Missing n a) = 0
levels s (Between n a low high) = 0
levels s (Among n a list) = 0
levels s (Not a) = suc (levels Tight a)
levels s (All a b) = deeper_if (binds_and s) (max (levels Middle a) (levels Tight b))
levels s (Any a b) = deeper_if (binds_or s) (max (levels Loose a) (levels Middle b))

-- what stands behind an expression
abbrev test_rest : Grammar
test_rest = Either Compare (Named rules.Expr) (choice k.Is (optional k.Not Empty ▸ the k.Null) (choice k.Not within_rule within_rule))

abbrev test_grammar : Grammar
test_grammar = Named rules.Expr ▸ test_rest

abbrev Found : Type 0
Found = ConditionTree × List Lexeme

-- comparisons
abbrev comparator_kind : Comparator → Kind
comparator_kind comparators.Equal = k.Equals
comparator_kind comparators.NotEqual = k.NotEquals
comparator_kind comparators.Less = k.LessThan
comparator_kind comparators.AtMost = k.AtMost
comparator_kind comparators.Greater = k.GreaterThan
comparator_kind comparators.AtLeast = k.AtLeast

comparator_lexes : (c : Comparator) → Lexes (comparator_kind c) (comparator_word c)
comparator_lexes comparators.Equal = equals_word
comparator_lexes comparators.NotEqual = not_equals_word
comparator_lexes comparators.Less = less_word
comparator_lexes comparators.AtMost = at_most_word
comparator_lexes comparators.Greater = greater_word
comparator_lexes comparators.AtLeast = at_least_word

comparator_passes : (c : Comparator) → passes Compare (comparator_kind c) ≡ true
comparator_passes comparators.Equal = refl
comparator_passes comparators.NotEqual = refl
comparator_passes comparators.Less = refl
comparator_passes comparators.AtMost = refl
comparator_passes comparators.Greater = refl
comparator_passes comparators.AtLeast = refl

comparator_says : (c : Comparator) (a : ExpressionTree) (p : ℕ) (ls : List Lexeme) → tested (a, lexeme (comparator_kind c) p (comparator_word c) ∷ ls) ≡ compared c a (expression_of ls)
unfolding tested
comparator_says comparators.Equal a p ls = refl
comparator_says comparators.NotEqual a p ls = refl
comparator_says comparators.Less a p ls = refl
comparator_says comparators.AtMost a p ls = refl
comparator_says comparators.Greater a p ls = refl
comparator_says comparators.AtLeast a p ls = refl

comparator_stops : (c : Comparator) (us : List Word) → Stops (comparator_word c ∷ us)
comparator_stops comparators.Equal us = stops_word k.Equals (codes "=") us equals_word refl refl refl
comparator_stops comparators.NotEqual us = stops_word k.NotEquals (codes "<>") us not_equals_word refl refl refl
comparator_stops comparators.Less us = stops_word k.LessThan (codes "<") us less_word refl refl refl
comparator_stops comparators.AtMost us = stops_word k.AtMost (codes "<=") us at_most_word refl refl refl
comparator_stops comparators.Greater us = stops_word k.GreaterThan (codes ">") us greater_word refl refl refl
comparator_stops comparators.AtLeast us = stops_word k.AtLeast (codes ">=") us at_least_word refl refl refl

-- a test: an expression, and what stands behind it
put_tested : (u : ℕ) (a : ExpressionTree) (c : ConditionTree) (ws us : List Word) → IsSum a → Stops ws → Put (λ ls. tested (a, ls)) u test_rest c ws us → Put test_of u test_grammar c (expression_words a ++ ws) us
unfolding test_of
put_tested u a c ws us h s q = put_both expression_of (λ x. tested x) u (Named rules.Expr) test_rest test_grammar a c (expression_words a ++ ws) ws us (λ ps r d. both d) (put_expression u a h ws s) q

put_compared : (u : ℕ) (c : Comparator) (a b : ExpressionTree) → IsSum b → (us : List Word) → Stops us → Put (λ ls. tested (a, ls)) u test_rest (Compared c a b) (comparator_word c ∷ (expression_words b ++ us)) us
put_compared u c a b h us s =
    put_word (λ ls. tested (a, ls)) (λ ls. compared c a (expression_of ls)) u test_rest (Named rules.Expr) (Compared c a b) (comparator_kind c) (comparator_word c) (expression_words b ++ us) us (comparator_lexes c) (λ ps r d. this (comparator_passes c) d) (λ p ls. comparator_says c a p ls)
    (put_map expression_of (λ x. compared c a x) u (Named rules.Expr) b (Compared c a b) (expression_words b ++ us) us (λ ls. refl) (put_expression u b h us s))

put_missing : (u : ℕ) (n : Bool) (a : ExpressionTree) (us : List Word) → Put (λ ls. tested (a, ls)) u test_rest (Missing n a) (codes "IS" ∷ (not_words n ++ codes "NULL" ∷ us)) us
unfolding tested
put_missing u n a us =
    put_word (λ ls. tested (a, ls)) then u test_rest null_part (Missing n a) k.Is (codes "IS") (not_words n ++ codes "NULL" ∷ us) us is_word (λ ps r d. that (this refl d)) (λ p ls. refl) (by n)
  where
    then : List Lexeme → Found
    then ls = cond (begins k.Not ls) (Missing true a, drop 2 ls) (Missing false a, drop 1 ls)

    null_part : Grammar
    null_part = optional k.Not Empty ▸ the k.Null

    by : (b : Bool) → Put then u null_part (Missing b a) (not_words b ++ codes "NULL" ∷ us) us
    by true =
        put_word then (λ ls. (Missing true a, drop 1 ls)) u null_part (the k.Null) (Missing true a) k.Not (codes "NOT") (codes "NULL" ∷ us) us not_word (λ ps r d. both (this refl (empty d))) (λ p ls. refl)
        (put_last (λ ls. (Missing true a, drop 1 ls)) u (the k.Null) (Missing true a) k.Null (codes "NULL") us null_word (λ ps r d. token refl d) (λ p ls. refl))
    by false = put_last then u null_part (Missing false a) k.Null (codes "NULL") us null_word (λ ps r d. both (that (empty (token refl d)))) (λ p ls. refl)

-- BETWEEN low AND high
put_between : (u : ℕ) (n : Bool) (a low high : ExpressionTree) → IsSum low → IsSum high → (us : List Word) → Stops us
    → Put (within n a) u within_rule (Between n a low high) (codes "BETWEEN" ∷ (expression_words low ++ codes "AND" ∷ (expression_words high ++ us))) us
unfolding within
put_between u n a low high h t us s =
    let x : ConditionTree = Between n a low high in
    let vs : List Word = codes "AND" ∷ (expression_words high ++ us) in
    put_word (within n a) (λ ls. between_low n a (expression_of ls)) u within_rule (Named rules.Expr ▸ the k.And ▸ Named rules.Expr) x k.Between (codes "BETWEEN") (expression_words low ++ vs) us between_word (λ ps r d. this refl d) (λ p ls. refl)
    (put_both expression_of (λ y. between_low n a y) u (Named rules.Expr) (the k.And ▸ Named rules.Expr) (Named rules.Expr ▸ the k.And ▸ Named rules.Expr) low x (expression_words low ++ vs) vs us (λ ps r d. both d) (put_expression u low h vs (stops_word k.And (codes "AND") (expression_words high ++ us) and_word refl refl refl))
    (put_word (λ ls. between_low n a (low, ls)) (λ ls. between n a low (expression_of ls)) u (the k.And ▸ Named rules.Expr) (Named rules.Expr) x k.And (codes "AND") (expression_words high ++ us) us and_word (λ ps r d. both (token refl d)) (λ p ls. refl)
    (put_map expression_of (λ y. between n a low y) u (Named rules.Expr) high x (expression_words high ++ us) us (λ ls. refl) (put_expression u high t us s))))

-- IN ( expressions )
put_among : (u : ℕ) (n : Bool) (a : ExpressionTree) (list : List ExpressionTree) → SomeGood IsSum list → (us : List Word) → Put (within n a) u within_rule (Among n a list) (codes "IN" ∷ codes "(" ∷ (listed expression_words list ++ codes ")" ∷ us)) us
unfolding within
put_among u n a list h us =
    let x : ConditionTree = Among n a list in
    let vs : List Word = codes ")" ∷ us in
    let inside : Grammar = exprs ▸ the k.CloseParen in
    put_word (within n a) (λ ls. among n a (expressions_of (drop 1 ls))) u within_rule (the k.OpenParen ▸ inside) x k.In (codes "IN") (codes "(" ∷ (listed expression_words list ++ vs)) us in_word (λ ps r d. that (both (token refl d))) (λ p ls. refl)
    (put_word (λ ls. among n a (expressions_of (drop 1 ls))) (λ ls. among n a (expressions_of ls)) u (the k.OpenParen ▸ inside) inside x k.OpenParen (codes "(") (listed expression_words list ++ vs) us open_word (λ ps r d. both (token refl d)) (λ p ls. refl)
    (put_both expressions_of (λ y. among n a y) u exprs (the k.CloseParen) inside list x (listed expression_words list ++ vs) vs us (λ ps r d. both d) (put_expressions u list h vs (stops_word k.CloseParen (codes ")") us close_word refl refl refl) (never_word k.Comma k.CloseParen (codes ")") us close_word refl))
    (put_last (λ ls. among n a (list, ls)) u (the k.CloseParen) x k.CloseParen (codes ")") us close_word (λ ps r d. token refl d) (λ p ls. refl))))

-- a test within something, or not within it
put_negated : (u : ℕ) (n : Bool) (a : ExpressionTree) (c : ConditionTree) (j : Kind) (w : Word) (ws us : List Word) → Lexes j w → passes Compare j ≡ false → is_kind j k.Is ≡ false → is_kind j k.Not ≡ false → Put (within n a) u within_rule c (w ∷ ws) us
    → Put (λ ls. tested (a, ls)) u test_rest c (not_words n ++ w ∷ ws) us
unfolding tested
put_negated u true a c j w ws us l p q m r = put_word (λ ls. tested (a, ls)) (within true a) u test_rest within_rule c k.Not (codes "NOT") (w ∷ ws) us not_word (λ ps r d. that (that (this refl d))) (λ x ls. refl) r
put_negated u false a c j w ws us l p q m r =
    put_as (λ ls. tested (a, ls)) (within false a) u test_rest within_rule c (w ∷ ws) us (λ ps r d. that (that (that d)))
    (λ i. let (at, e) = begun_by j w l i ws in rw e (rw (p, q, m) refl)) r

not_stops : (n : Bool) (w : Word) (ws : List Word) → Stops (w ∷ ws) → Stops (not_words n ++ w ∷ ws)
not_stops true w ws s = stops_word k.Not (codes "NOT") (w ∷ ws) not_word refl refl refl
not_stops false w ws s = s

range_words_are : (low high us : List Word) (w : Word) → low ++ w ∷ (high ++ us) ≡ (low ++ w ∷ high) ++ us
range_words_are low high us w = sym (append_assoc low (w ∷ high) us)

in_words_are : (list us : List Word) (w : Word) → list ++ w ∷ us ≡ (list ++ w ∷ []) ++ us
in_words_are list us w = sym (append_assoc list (w ∷ []) us)

three : (a b c us : List Word) → a ++ (b ++ (c ++ us)) ≡ ((a ++ b) ++ c) ++ us
three a b c us = simp append_assoc

three_more : (a b us : List Word) (w v : Word) → a ++ w ∷ (b ++ v ∷ us) ≡ ((a ++ w ∷ b) ++ v ∷ []) ++ us
three_more a b us w v = simp append_assoc

-- a test is no condition with parentheses
abbrev IsTest : ConditionTree → Type 0
IsTest (Compared c a b) = Unit {0}
IsTest (Missing n a) = Unit {0}
IsTest (Between n a low high) = Unit {0}
IsTest (Among n a list) = Unit {0}
IsTest (Not a) = ⊥
IsTest (All a b) = ⊥
IsTest (Any a b) = ⊥

put_test : (u : ℕ) (c : ConditionTree) → IsTest c → IsCondition c → (us : List Word) → Stops us → Put test_of u test_grammar c (condition_words Tight c ++ us) us
put_test u (Compared c a b) x (h, t) us s =
    put_words test_of u test_grammar (Compared c a b) (expression_words a ++ comparator_word c ∷ (expression_words b ++ us)) (condition_words Tight (Compared c a b) ++ us) us (range_words_are (expression_words a) (expression_words b) us (comparator_word c))
    (put_tested u a (Compared c a b) (comparator_word c ∷ (expression_words b ++ us)) us h (comparator_stops c (expression_words b ++ us)) (put_compared u c a b t us s))
put_test u (Missing n a) x h us s =
    put_words test_of u test_grammar (Missing n a) (expression_words a ++ codes "IS" ∷ (not_words n ++ codes "NULL" ∷ us)) (condition_words Tight (Missing n a) ++ us) us (three_more (expression_words a) (not_words n) us (codes "IS") (codes "NULL"))
    (put_tested u a (Missing n a) (codes "IS" ∷ (not_words n ++ codes "NULL" ∷ us)) us h (stops_word k.Is (codes "IS") (not_words n ++ codes "NULL" ∷ us) is_word refl refl refl) (put_missing u n a us))
put_test u (Between n a low high) x (h, t, r) us s =
    let vs : List Word = expression_words low ++ codes "AND" ∷ (expression_words high ++ us) in
    let same : codes "BETWEEN" ∷ vs ≡ range_words low high ++ us = ap (λ (ws : List Word). codes "BETWEEN" ∷ ws) (range_words_are (expression_words low) (expression_words high) us (codes "AND")) in
    put_words test_of u test_grammar (Between n a low high) (expression_words a ++ (not_words n ++ codes "BETWEEN" ∷ vs)) (condition_words Tight (Between n a low high) ++ us) us
    (ap (λ (ws : List Word). expression_words a ++ (not_words n ++ ws)) same ∙ three (expression_words a) (not_words n) (range_words low high) us)
    (put_tested u a (Between n a low high) (not_words n ++ codes "BETWEEN" ∷ vs) us h (not_stops n (codes "BETWEEN") vs (stops_word k.Between (codes "BETWEEN") vs between_word refl refl refl))
    (put_negated u n a (Between n a low high) k.Between (codes "BETWEEN") vs us between_word refl refl refl (put_between u n a low high t r us s)))
put_test u (Among n a list) x (h, t) us s =
    let vs : List Word = codes "(" ∷ (listed expression_words list ++ codes ")" ∷ us) in
    let same : codes "IN" ∷ vs ≡ membership_words list ++ us = ap (λ (ws : List Word). codes "IN" ∷ codes "(" ∷ ws) (in_words_are (listed expression_words list) us (codes ")")) in
    put_words test_of u test_grammar (Among n a list) (expression_words a ++ (not_words n ++ codes "IN" ∷ vs)) (condition_words Tight (Among n a list) ++ us) us
    (ap (λ (ws : List Word). expression_words a ++ (not_words n ++ ws)) same ∙ three (expression_words a) (not_words n) (membership_words list) us)
    (put_tested u a (Among n a list) (not_words n ++ codes "IN" ∷ vs) us h (not_stops n (codes "IN") vs (stops_word k.In (codes "IN") vs in_word refl refl refl))
    (put_negated u n a (Among n a list) k.In (codes "IN") vs us in_word refl refl refl (put_among u n a list t us)))
put_test u (Not a) x h us s = absurd x
put_test u (All a b) x h us s = absurd x
put_test u (Any a b) x h us s = absurd x

-- how a condition is put beside what binds so strongly: with m levels left, on this level
abbrev TightPut : ℕ → ℕ → ConditionTree → List Word → List Word → Type 0
TightPut u m c ws us = Put (predicate_of m) u (Named rules.Pred) c ws us

abbrev MiddleLeads : ℕ → ℕ → ConditionTree → List Word → List Word → Type 0
MiddleLeads u m c ws us = Leads ConditionTree ConditionTree at_and both_of (predicate_of m) (λ x. x) u (Only k.And) (Named rules.Pred) c ws us

abbrev LooseLeads : ℕ → ℕ → ConditionTree → List Word → List Word → Type 0
LooseLeads u m c ws us = Leads ConditionTree ConditionTree at_or either (conjunction_by (predicate_of m)) (λ x. x) u (Only k.Or) conj c ws us

record Puts (c : ConditionTree) : Type 0 where
  tight : (u m : ℕ) → u + m ≡ 32 → levels Tight c ≤ m → (us : List Word) → Stops us → TightPut u m c (condition_words Tight c ++ us) us
  middle : (u m : ℕ) → u + m ≡ 32 → levels Middle c ≤ m → (us : List Word) → Stops us → MiddleLeads u m c (condition_words Middle c ++ us) us
  loose : (u m : ℕ) → u + m ≡ 32 → levels Loose c ≤ m → (us : List Word) → Stops us → Never k.And us → LooseLeads u m c (condition_words Loose c ++ us) us

middle_first : (u m : ℕ) (c : ConditionTree) (ws us : List Word) → TightPut u m c ws us → MiddleLeads u m c ws us
middle_first u m c ws us p = leads_first ConditionTree ConditionTree at_and both_of (predicate_of m) (λ x. x) (predicate_shrinks m) refl u (Only k.And) (Named rules.Pred) c c ws us (λ ls. refl) p

-- a chain of AND is read
put_conjunction : (u m : ℕ) (c : ConditionTree) (ws us : List Word) → Never k.And us → MiddleLeads u m c ws us → Put (conjunction_by (predicate_of m)) u conj c ws us
unfolding conjunction_by
put_conjunction u m c ws us v a = leads_end ConditionTree ConditionTree at_and both_of (predicate_of m) (λ x. x) (predicate_shrinks m) refl u (Only k.And) (Named rules.Pred) c ws us v a

loose_first : (u m : ℕ) (c : ConditionTree) (ws us : List Word) → Never k.And us → MiddleLeads u m c ws us → LooseLeads u m c ws us
loose_first u m c ws us v a = leads_first ConditionTree ConditionTree at_or either (conjunction_by (predicate_of m)) (λ x. x) (conjunction_shrinks m) refl u (Only k.Or) conj c c ws us (λ ls. refl) (put_conjunction u m c ws us v a)

-- a chain of OR is read
put_condition_by : (u m : ℕ) (c : ConditionTree) (ws us : List Word) → Never k.Or us → LooseLeads u m c ws us → Put (condition_by (predicate_of m)) u (Named rules.Cond) c ws us
unfolding condition_by
put_condition_by u m c ws us v a =
    put_as (condition_by (predicate_of m)) (condition_by (predicate_of m)) u (Named rules.Cond) cond_rule c ws us (λ ps r d. named d) (λ i. refl)
    (leads_end ConditionTree ConditionTree at_or either (conjunction_by (predicate_of m)) (λ x. x) (conjunction_shrinks m) refl u (Only k.Or) conj c ws us v a)

-- between parentheses
open_says : (m : ℕ) (p : ℕ) (ls : List Lexeme) → predicate_of (suc m) (lexeme k.OpenParen p (codes "(") ∷ ls) ≡ past_one (condition_by (predicate_of m) ls)
unfolding predicate_of
open_says m p ls = refl

not_says : (m : ℕ) (p : ℕ) (ls : List Lexeme) → predicate_of (suc m) (lexeme k.Not p (codes "NOT") ∷ ls) ≡ negated (predicate_of m ls)
unfolding predicate_of
not_says m p ls = refl

put_bracket : (u m : ℕ) (c : ConditionTree) (ws us : List Word) → u < 32 → Put (condition_by (predicate_of m)) (suc u) (Named rules.Cond) c ws (codes ")" ∷ us) → TightPut u (suc m) c (codes "(" ∷ ws) us
put_bracket u m c ws us l q = record {
  says = λ i. let (j, e) = begun_by k.OpenParen (codes "(") open_word i ws in
      let s = q.says j in
      let (n, f) = begun_by k.CloseParen (codes ")") close_word s.at us in
      record {
        at = n;
        reads = ap (λ (ls : List Lexeme). predicate_of (suc m) ls) e ∙ (open_says m (suc i) (tokens j ws) ∙ (ap (λ (x : Found). past_one x) s.reads ∙ ap (λ (ls : List Lexeme). let y : Found = (c, drop 1 ls) in y) f));
        spells = λ ps d. subst (λ (ls : List Lexeme). Reads rule 32 (Part u (Named rules.Pred) ps) (kinds_in ls)) (sym e)
            (named (deeper refl l (s.spells (Part u (the k.CloseParen) ps) (subst (λ (ls : List Lexeme). Reads rule 32 (Part u (the k.CloseParen) ps) (kinds_in ls)) (sym f) (token refl d)))));
      };
  fine = λ h. fine_more (codes "(") ws open_word.fine (q.fine (fine_more (codes ")") us close_word.fine h));
}

put_not : (u m : ℕ) (c : ConditionTree) (ws us : List Word) → u < 32 → TightPut (suc u) m c ws us → TightPut u (suc m) (Not c) (codes "NOT" ∷ ws) us
put_not u m c ws us l q = record {
  says = λ i. let (j, e) = begun_by k.Not (codes "NOT") not_word i ws in
      let s = q.says j in
      record {
        at = s.at;
        reads = ap (λ (ls : List Lexeme). predicate_of (suc m) ls) e ∙ (not_says m (suc i) (tokens j ws) ∙ ap (λ (x : Found). negated x) s.reads);
        spells = λ ps d. subst (λ (ls : List Lexeme). Reads rule 32 (Part u (Named rules.Pred) ps) (kinds_in ls)) (sym e) (named (level (deeper refl l (s.spells (Part u Empty ps) (empty d)))));
      };
  fine = λ h. fine_more (codes "NOT") ws not_word.fine (q.fine h);
}

-- a test begins with neither a `(` nor NOT
test_says : (m : ℕ) (ls : List Lexeme) → begins k.OpenParen ls ≡ false → begins k.Not ls ≡ false → predicate_of m ls ≡ test_of ls
test_says zero ls a b = predicate_last 0 ls refl
test_says (suc m) ls a b = predicate_test (suc m) ls (λ e. absurd (omega arith)) (sym a) (sym b)

first_words : (c : ConditionTree) → IsTest c → IsCondition c → (us : List Word) → (a : ExpressionTree) × (ws : List Word) × IsSum a × (expression_words a ++ ws ≡ condition_words Tight c ++ us)
first_words (Compared o a b) x (h, t) us = (a, comparator_word o ∷ (expression_words b ++ us), h, range_words_are (expression_words a) (expression_words b) us (comparator_word o))
first_words (Missing n a) x h us = (a, codes "IS" ∷ (not_words n ++ codes "NULL" ∷ us), h, three_more (expression_words a) (not_words n) us (codes "IS") (codes "NULL"))
first_words (Between n a low high) x (h, t, r) us = (a, not_words n ++ (range_words low high ++ us), h, three (expression_words a) (not_words n) (range_words low high) us)
first_words (Among n a list) x (h, t) us = (a, not_words n ++ (membership_words list ++ us), h, three (expression_words a) (not_words n) (membership_words list) us)
first_words (Not a) x h us = absurd x
first_words (All a b) x h us = absurd x
first_words (Any a b) x h us = absurd x

test_never : (j : Kind) → NoStart j → (c : ConditionTree) → IsTest c → IsCondition c → (us : List Word) → Never j (condition_words Tight c ++ us)
test_never j z c x h us = let (a, ws, g, e) = first_words c x h us in subst (λ (vs : List Word). Never j vs) e (expression_never j z a g ws)

tight_test : (u m : ℕ) (c : ConditionTree) → IsTest c → IsCondition c → (us : List Word) → Stops us → TightPut u m c (condition_words Tight c ++ us) us
tight_test u m c x h us s =
    put_as (predicate_of m) test_of u (Named rules.Pred) test_grammar c (condition_words Tight c ++ us) us (λ ps r d. named (level (level d)))
    (λ i. test_says m (tokens i (condition_words Tight c ++ us)) (test_never k.OpenParen open_starts_none c x h us i) (test_never k.Not not_starts_none c x h us i)) (put_test u c x h us s)

test_puts : (c : ConditionTree) → IsTest c → IsCondition c → condition_words Tight c ≡ condition_words Middle c → condition_words Tight c ≡ condition_words Loose c → Puts c
test_puts c x h d e = record {
  tight = λ u m p l us s. tight_test u m c x h us s;
  middle = λ u m p l us s. subst (λ (ws : List Word). MiddleLeads u m c (ws ++ us) us) d (middle_first u m c (condition_words Tight c ++ us) us (tight_test u m c x h us s));
  loose = λ u m p l us s v. subst (λ (ws : List Word). LooseLeads u m c (ws ++ us) us) e (loose_first u m c (condition_words Tight c ++ us) us v (middle_first u m c (condition_words Tight c ++ us) us (tight_test u m c x h us s)));
}

close_stops : (us : List Word) → Stops (codes ")" ∷ us)
close_stops us = stops_word k.CloseParen (codes ")") us close_word refl refl refl

-- a chain between parentheses
bracket_chain : (u n : ℕ) (c : ConditionTree) (w us : List Word) (l : ℕ) → u + n ≡ 32 → suc l ≤ n → ((v m : ℕ) → v + m ≡ 32 → l ≤ m → LooseLeads v m c (w ++ codes ")" ∷ us) (codes ")" ∷ us)) → TightPut u n c ((codes "(" ∷ (w ++ codes ")" ∷ [])) ++ us) us
bracket_chain u zero c w us l p q f = absurd (omega arith)
bracket_chain u (suc m) c w us l p q f =
    let below : u < 32 = omega arith in
    put_words (predicate_of (suc m)) u (Named rules.Pred) c (codes "(" ∷ (w ++ codes ")" ∷ us)) ((codes "(" ∷ (w ++ codes ")" ∷ [])) ++ us) us (ap (λ (ws : List Word). codes "(" ∷ ws) (in_words_are w us (codes ")")))
    (put_bracket u m c (w ++ codes ")" ∷ us) us below (put_condition_by (suc u) m c (w ++ codes ")" ∷ us) (codes ")" ∷ us) (never_word k.Or k.CloseParen (codes ")") us close_word refl) (f (suc u) m (omega arith) (omega arith))))

all_puts : (a b : ConditionTree) → Puts a → Puts b → Puts (All a b)
all_puts a b x y = record {
  tight = λ u m p l us s. bracket_chain u m c w us (max (levels Middle a) (levels Tight b)) p l (λ v n q g. loose_first v n c (w ++ codes ")" ∷ us) (codes ")" ∷ us) (never_word k.And k.CloseParen (codes ")") us close_word refl) (chain v n q g (codes ")" ∷ us) (close_stops us)));
  middle = λ u m p l us s. subst (λ (ws : List Word). MiddleLeads u m c (ws ++ us) us) (sym (append-nil w)) (chain u m p l us s);
  loose = λ u m p l us s v. subst (λ (ws : List Word). LooseLeads u m c (ws ++ us) us) (sym (append-nil w)) (loose_first u m c (w ++ us) us v (chain u m p l us s));
}
  where
    c : ConditionTree
    c = All a b

    w : List Word
    w = condition_words Middle a ++ codes "AND" ∷ condition_words Tight b

    chain : (u m : ℕ) → u + m ≡ 32 → max (levels Middle a) (levels Tight b) ≤ m → (us : List Word) → Stops us → MiddleLeads u m c (w ++ us) us
    chain u m p l us s =
        let vs : List Word = codes "AND" ∷ (condition_words Tight b ++ us) in
        leads_words ConditionTree ConditionTree at_and both_of (predicate_of m) (λ x. x) (predicate_shrinks m) refl u (Only k.And) (Named rules.Pred) c (condition_words Middle a ++ vs) (w ++ us) us (range_words_are (condition_words Middle a) (condition_words Tight b) us (codes "AND"))
        (leads_more ConditionTree ConditionTree at_and both_of (predicate_of m) (λ x. x) (predicate_shrinks m) refl u (Only k.And) (Named rules.Pred) k.And (codes "AND") b a c (condition_words Middle a ++ vs) (condition_words Tight b ++ us) us and_word refl (λ n ls. refl) refl
        (x.middle u m p (omega arith) vs (stops_word k.And (codes "AND") (condition_words Tight b ++ us) and_word refl refl refl)) (y.tight u m p (omega arith) us s))

any_puts : (a b : ConditionTree) → Puts a → Puts b → Puts (Any a b)
any_puts a b x y = record {
  tight = tight;
  middle = λ u m p l us s. middle_first u m c (condition_words Tight c ++ us) us (tight u m p l us s);
  loose = λ u m p l us s v. subst (λ (ws : List Word). LooseLeads u m c (ws ++ us) us) (sym (append-nil w)) (chain u m p l us s v);
}
  where
    c : ConditionTree
    c = Any a b

    w : List Word
    w = condition_words Loose a ++ codes "OR" ∷ condition_words Middle b

    chain : (u m : ℕ) → u + m ≡ 32 → max (levels Loose a) (levels Middle b) ≤ m → (us : List Word) → Stops us → Never k.And us → LooseLeads u m c (w ++ us) us
    chain u m p l us s v =
        let vs : List Word = codes "OR" ∷ (condition_words Middle b ++ us) in
        leads_words ConditionTree ConditionTree at_or either (conjunction_by (predicate_of m)) (λ x. x) (conjunction_shrinks m) refl u (Only k.Or) conj c (condition_words Loose a ++ vs) (w ++ us) us (range_words_are (condition_words Loose a) (condition_words Middle b) us (codes "OR"))
        (leads_more ConditionTree ConditionTree at_or either (conjunction_by (predicate_of m)) (λ x. x) (conjunction_shrinks m) refl u (Only k.Or) conj k.Or (codes "OR") b a c (condition_words Loose a ++ vs) (condition_words Middle b ++ us) us or_word refl (λ n ls. refl) refl
        (x.loose u m p (omega arith) vs (stops_word k.Or (codes "OR") (condition_words Middle b ++ us) or_word refl refl refl) (never_word k.And k.Or (codes "OR") (condition_words Middle b ++ us) or_word refl))
        (put_conjunction u m b (condition_words Middle b ++ us) us v (y.middle u m p (omega arith) us s)))

    tight : (u m : ℕ) → u + m ≡ 32 → suc (max (levels Loose a) (levels Middle b)) ≤ m → (us : List Word) → Stops us → TightPut u m c (condition_words Tight c ++ us) us
    tight u m p l us s = bracket_chain u m c w us (max (levels Loose a) (levels Middle b)) p l (λ v n q g. chain v n q g (codes ")" ∷ us) (close_stops us) (never_word k.And k.CloseParen (codes ")") us close_word refl))

not_puts : (a : ConditionTree) → Puts a → Puts (Not a)
not_puts a x = record {
  tight = tight;
  middle = λ u m p l us s. middle_first u m (Not a) (codes "NOT" ∷ (condition_words Tight a ++ us)) us (tight u m p l us s);
  loose = λ u m p l us s v. loose_first u m (Not a) (codes "NOT" ∷ (condition_words Tight a ++ us)) us v (middle_first u m (Not a) (codes "NOT" ∷ (condition_words Tight a ++ us)) us (tight u m p l us s));
}
  where
    tight : (u m : ℕ) → u + m ≡ 32 → suc (levels Tight a) ≤ m → (us : List Word) → Stops us → TightPut u m (Not a) (codes "NOT" ∷ (condition_words Tight a ++ us)) us
    tight u zero p l us s = absurd (omega arith)
    tight u (suc m) p l us s = let below : u < 32 = omega arith in put_not u m a (condition_words Tight a ++ us) us below (x.tight (suc u) m (omega arith) (omega arith) us s)

puts : (c : ConditionTree) → IsCondition c → Puts c
puts (Compared o a b) h = test_puts (Compared o a b) tt h refl refl
puts (Missing n a) h = test_puts (Missing n a) tt h refl refl
puts (Between n a low high) h = test_puts (Between n a low high) tt h refl refl
puts (Among n a list) h = test_puts (Among n a list) tt h refl refl
puts (Not a) h = not_puts a (puts a h)
puts (All a b) (h, t) = all_puts a b (puts a h) (puts b t)
puts (Any a b) (h, t) = any_puts a b (puts a h) (puts b t)

-- no condition goes on with these words
pub record Closes (us : List Word) : Type 0 where
  pub stops : Stops us
  pub conjunction : Never k.And us
  pub disjunction : Never k.Or us

-- a condition is read
pub put_condition : (c : ConditionTree) → IsCondition c → levels Loose c ≤ 32 → (us : List Word) → Closes us → Put condition_of 0 (Named rules.Cond) c (condition_words Loose c ++ us) us
unfolding condition_of
put_condition c h l us s = put_condition_by 0 32 c (condition_words Loose c ++ us) us s.disjunction ((puts c h).loose 0 32 refl l us s.stops s.conjunction)
