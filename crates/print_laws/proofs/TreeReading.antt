-- What is read off the tokens of bytes without a bad one: literals, expressions and conditions.
use Rattle.std.proofs.Common.{◌≡◌, ℕ, zero, suc, ◌+◌, ◌≤◌, Bool, true, false, cond, ◌&&◌, ◌||◌, eqb, leb, ltb, List, [], ◌∷◌, ◌++◌, length, drop, Option, refl, sym, ap, ◌∙◌, subst, arith}
use Rattle.std.proofs.lemmas.Bool.Decides.{nat_tests}
use Rattle.std.specs.Char.{to_ascii_uppercase}
use Rattle.sql_print.specs.tier_base.specs.Names.{folded, is_identifier, is_name_at}
use Rattle.sql_print.specs.expressions.specs.declared.expression.Arithmetic.TheVariants as arithmetic
use Rattle.sql_print.specs.row_types.specs.Printing.{quoted}
use Rattle.sql_print.specs.sql_query.specs.declared.literal.Literal.TheVariants as literals
use Rattle.sql_print.specs.sql_query.specs.Trees.{ExpressionTree, ConditionTree, Constant, Column, Binary, Compared, Missing, Between, Among, Not, All, Any}
use Rattle.sql_print.specs.sql_tokens.specs.declared.kind.Kind.{Kind}
use Rattle.sql_print.specs.sql_tokens.specs.declared.kind.Kind.TheVariants as k
use Rattle.sql_print.specs.sql_tokens.specs.Kinds.{code, is_kind}
use Rattle.sql_print.specs.sql_tokens.specs.Lexing.{Lexeme}
use Rattle.sql_print.specs.sql_grammar.specs.declared.rule.Rule.TheVariants as rules
use Rattle.sql_print.specs.sql_grammar.specs.declared.test.Test.TheVariants.{Compare, Digits, Only, Name, Sign}
use Rattle.sql_print.specs.sql_grammar.specs.Tests.{passes}
use Rattle.sql_print.specs.sql_grammar.specs.Grammar.{Grammar, Either, Empty, Named, Parts, Part, Token}
use Rattle.sql_print.specs.sql_grammar.specs.Notation.{choice, optional, the, ◌▸◌}
use Rattle.sql_print.specs.sql_grammar.specs.Queries.{conj, exprs, factor, filtered as filter_part, term, within as within_rule}
use Rattle.sql_print.specs.sql_phrases.specs.Reading.{as_number, at_comma, begins, column_of, first_kind, first_text, literal_of, name_from, numeral_of, past_column, unquoted, with_last}
use Rattle.sql_print.specs.sql_phrases.specs.Expressions.{added, at_sign, at_star, expression_of, expressions_of, factor_of, multiplied, term_of}
use Rattle.sql_print.specs.sql_phrases.specs.Conditions.{at_and, at_or, both, condition_by, condition_of, conjunction_by, either, filter_of, missing, predicate_of, test_of, tested, within}
use Rattle.sql_print.specs.sql_phrases.proofs.Shrinking.{conjunction_shrinks, expression_shrinks, factor_shrinks, predicate_shrinks, term_shrinks}
use Rattle.sql_print.specs.sql_words.specs.declared.condition.Strength.TheVariants.{Loose, Middle, Tight}
use Rattle.print_laws.proofs.Conditions.{IsCondition, levels}
use Rattle.print_laws.proofs.Expressions.{IsFactor, IsSum, IsTerm}
use Rattle.print_laws.proofs.Fine.{IsFineText}
use Rattle.print_laws.proofs.Fits.{Fits}
use Rattle.print_laws.proofs.Folded.{name_read}
use Rattle.print_laws.proofs.GroupTables.{IsFilter}
use Rattle.print_laws.proofs.Lists.{AllGood, SomeGood}
use Rattle.print_laws.proofs.Literals.{IsLiteral, IsNumeral, unquoted_quoted}
use Rattle.print_laws.proofs.Names.{IsColumnName, IsIdentifier, IsName, Shape, dot_behind, dropped, longer, one, plain, shape_of, taken, two}
use Rattle.print_laws.proofs.Reading.{comma_is, identifier_good, some_more}
use Rattle.print_laws.proofs.State.{Got, State, at_deeper, at_empty, at_level, at_named, at_that, at_then, at_this, at_token, chain_got, got_if, only_is, only_passed, only_that, only_this, passed}
use Rattle.print_laws.proofs.WordKinds.{other_kind}

tells_apart : (b : Bool) → b ≡ true → b ≡ false → ⊥
tells_apart b p q = absurd (cc)

pub got_as : {V : Type 0} {Good : V → Type 0} {ps : Parts} (x y : V × List Lexeme) → x ≡ y → Got Good ps y → Got Good ps x
got_as {V} {Good} {ps} x y e g = subst (λ z. Got Good ps z) (sym e) g

-- literals
text_good : (us : List Lexeme) → AllGood Fits us → begins k.Text us ≡ true → IsFineText (quoted (unquoted (first_text us)))
text_good [] h e = absurd (tells_apart (begins k.Text []) e refl)
text_good (l ∷ us) (h, t) e = by (h.text e)
  where
    by : (t : List ℕ) × (l.text ≡ quoted t) × IsFineText (quoted t) → IsFineText (quoted (unquoted l.text))
    by (t, d, f) = rw (d, unquoted_quoted t) f

numeral_good : (us : List Lexeme) → AllGood Fits us → passes Digits (first_kind us) ≡ true → IsNumeral (first_text us)
numeral_good [] h e = absurd (tells_apart (passes Digits k.Bad) e refl)
numeral_good (l ∷ us) (h, t) e = h.numeral e

number_first : (us : List Lexeme) → passes Digits (first_kind us) ≡ true → literal_of us ≡ (literals.Number (record { negative = false; digits = first_text us }), drop 1 us)
number_first us e =
    rw (other_kind Digits (first_kind us) k.Text e refl, other_kind Digits (first_kind us) k.Null e refl, other_kind Digits (first_kind us) k.Timestamp e refl, other_kind Digits (first_kind us) k.Minus e refl) refl

minus_first : (us : List Lexeme) → begins k.Minus us ≡ true → as_number (numeral_of us) ≡ (literals.Number (record { negative = true; digits = first_text (drop 1 us) }), drop 2 us)
minus_first us e = rw e refl

pub literal_got : (u : ℕ) (ps : Parts) (us : List Lexeme) → State (Part u (Named rules.Literal) ps) us → Got IsLiteral ps (literal_of us)
literal_got u ps us s = by (passes Digits (first_kind us)) refl
  where
    by : (b : Bool) → passes Digits (first_kind us) ≡ b → Got IsLiteral ps (literal_of us)
    by true e =
        got_as (literal_of us) (literals.Number (record { negative = false; digits = first_text us }), drop 1 us) (number_first us e) (record { good = numeral_good us s.fit e; state = at_empty (at_this 0 us refl e (at_named s)) })
    by false e =
        let s1 = at_that us e (at_named s) in
        got_if (begins k.Text us) _ _ (λ f. record { good = text_good us s.fit f; state = at_empty (only_this 0 us refl f s1) })
        (λ f. let s2 = only_that us f s1 in
        got_if (begins k.Null us) _ _ (λ g. record { good = tt; state = at_empty (only_this 0 us refl g s2) })
        (λ g. let s3 = only_that us g s2 in
        got_if (begins k.Timestamp us) _ _ (λ h. let s4 = only_this 0 us refl h s3 in record { good = text_good (drop 1 us) s4.fit (only_passed s4); state = at_token 1 us s4 })
        (λ h. let s4 = at_then (only_that us h s3) in
        let s5 = at_token 0 us s4 in
        got_as (as_number (numeral_of us)) (literals.Number (record { negative = true; digits = first_text (drop 1 us) }), drop 2 us) (minus_first us (only_passed s4)) (record { good = numeral_good (drop 1 us) s5.fit (passed s5); state = at_token 1 us s5 }))))

-- the names of columns
folded_both : (a b : List ℕ) → folded (a ++ b) ≡ folded a ++ folded b
folded_both [] b = refl
folded_both (c ∷ a) b = ap (λ (x : List ℕ). to_ascii_uppercase c ∷ x) (folded_both a b)

joined_name : (n l : List ℕ) → is_identifier n ≡ true → IsName n → IsIdentifier l → IsName (n ++ 46 ∷ l)
joined_name n l a h t = record {
  is = ap (λ (o : Option ℕ). is_name_at (n ++ 46 ∷ l) o) (dot_behind n l a) ∙ rw (taken n l, dropped n l, a, t.word) refl;
  upper = folded_both n (46 ∷ l) ∙ rw (h.upper, t.name.upper) refl;
}

longer_name : (n l : List ℕ) → Shape n → IsName n → IsIdentifier l → IsColumnName (n ++ 46 ∷ l)
longer_name n l (one a) h t = plain (joined_name n l a h t)
longer_name n l (two o i a b) h t = longer o i l a b h t

abbrev colref_rest : Grammar
colref_rest = optional k.Dot (Token Name ▸ optional k.Dot (Token Name))

pub column_got : (u : ℕ) (ps : Parts) (us : List Lexeme) → AllGood Fits us → State (Part u colref_rest ps) (drop 1 us) → Got IsColumnName ps (column_of us)
column_got u ps us f s = by (begins k.Dot (drop 1 us)) refl
  where
    vs : List Lexeme
    vs = drop 3 us

    n : List ℕ
    n = name_from (first_text us ++ 46 ∷ first_text (drop 2 us))

    dotted : (b : Bool) → begins k.Dot vs ≡ b → State (Part u (optional k.Dot (Token Name)) ps) vs → Got IsColumnName ps (past_column (n, vs))
    dotted true e z =
        let z1 = only_this 0 vs refl e z in
        let h = name_read (first_text us ++ 46 ∷ first_text (drop 2 us)) in
        let l = identifier_good (drop 1 vs) z1.fit in
        got_as (past_column (n, vs)) (n ++ 46 ∷ name_from (first_text (drop 1 vs)), drop 2 vs) (rw e refl) (record { good = longer_name n (name_from (first_text (drop 1 vs))) (shape_of n h) h l; state = at_token 1 vs z1 })
    dotted false e z = got_as (past_column (n, vs)) (n, vs) (rw e refl) (record { good = plain (name_read (first_text us ++ 46 ∷ first_text (drop 2 us))); state = at_empty (only_that vs e z) })

    by : (b : Bool) → begins k.Dot (drop 1 us) ≡ b → Got IsColumnName ps (column_of us)
    by true e = got_as (column_of us) (past_column (n, vs)) (rw e refl) (dotted (begins k.Dot vs) refl (at_token 2 us (at_then (only_this 1 us refl e s))))
    by false e = got_as (column_of us) (name_from (first_text us), drop 1 us) (rw e (rw e refl)) (record { good = plain (name_read (first_text us)); state = at_empty (only_that (drop 1 us) e s) })

-- expressions
factor_got : (u : ℕ) (ps : Parts) (us : List Lexeme) → State (Part u factor ps) us → Got IsFactor ps (factor_of us)
factor_got u ps us s =
    got_if (passes Name (first_kind us)) _ _ (λ e. let c = column_got u ps us s.fit (at_this 0 us refl e s) in record { good = c.good; state = c.state }) (λ e. let c = literal_got u ps us (at_that us e s) in record { good = c.good; state = c.state })

factor_term : (e : ExpressionTree) → IsFactor e → IsTerm e
factor_term (Constant x) h = h
factor_term (Column n) h = h
factor_term (Binary o a b) h = absurd h

term_sum : (e : ExpressionTree) → IsTerm e → IsSum e
term_sum (Constant x) h = h
term_sum (Column n) h = h
term_sum (Binary arithmetic.Times a b) h = h
term_sum (Binary arithmetic.Plus a b) h = absurd h
term_sum (Binary arithmetic.Minus a b) h = absurd h

term_got : (u : ℕ) (ps : Parts) (us : List Lexeme) → State (Part u term ps) us → Got IsTerm ps (term_of us)
term_got u ps us s =
    let f = factor_got u _ us (at_then s) in
    chain_got ExpressionTree ExpressionTree at_star multiplied factor_of u (Only k.Star) factor ps IsTerm IsFactor refl (λ vs. sym (only_is k.Star (first_kind vs))) factor_shrinks (λ w a b h t. (h, t)) (λ vs t. factor_got u _ vs t)
    (length us) (factor_of us).0 (factor_of us).1 (factor_shrinks us) (factor_term (factor_of us).0 f.good) f.state

sign_numbers : (c : ℕ) → eqb c 8 || eqb c 9 ≡ leb 8 c && leb c 9
sign_numbers c = by (eqb c 8) (eqb c 9) refl refl
  where
    by : (a b : Bool) → eqb c 8 ≡ a → eqb c 9 ≡ b → a || b ≡ leb 8 c && leb c 9
    by true b p q = let e : c ≡ 8 = grind (arith, nat_tests) in rw e refl
    by false true p q = let e : c ≡ 9 = grind (arith, nat_tests) in rw e refl
    by false false p q = by_both (leb 8 c) (leb c 9) refl refl
      where
        by_both : (x y : Bool) → leb 8 c ≡ x → leb c 9 ≡ y → false ≡ x && y
        by_both true true r s = absurd (grind (arith, nat_tests))
        by_both true false r s = refl
        by_both false y r s = refl

sign_is : (us : List Lexeme) → at_sign us ≡ passes Sign (first_kind us)
sign_is us = sign_numbers (code (first_kind us))

sum_joins : (w : Kind) (a b : ExpressionTree) → IsSum a → IsTerm b → IsSum (added w a b)
sum_joins w a b h t = by (is_kind w k.Plus)
  where
    by : (x : Bool) → IsSum (Binary (cond x arithmetic.Plus arithmetic.Minus) a b)
    by true = (h, t)
    by false = (h, t)

pub expression_got : (u : ℕ) (ps : Parts) (us : List Lexeme) → State (Part u (Named rules.Expr) ps) us → Got IsSum ps (expression_of us)
unfolding expression_of
expression_got u ps us s =
    let t = term_got u _ us (at_then (at_named s)) in
    chain_got ExpressionTree ExpressionTree at_sign added term_of u Sign term ps IsSum IsTerm refl sign_is term_shrinks sum_joins (λ vs z. term_got u _ vs z) (length us) (term_of us).0 (term_of us).1 (term_shrinks us) (term_sum (term_of us).0 t.good) t.state

pub expressions_got : (u : ℕ) (ps : Parts) (us : List Lexeme) → State (Part u exprs ps) us → Got (SomeGood IsSum) ps (expressions_of us)
unfolding expressions_of
expressions_got u ps us s =
    let f = expression_got u _ us (at_then s) in
    chain_got (List ExpressionTree) ExpressionTree at_comma with_last expression_of u (Only k.Comma) (Named rules.Expr) ps (SomeGood IsSum) IsSum refl comma_is expression_shrinks (λ w xs x g t. some_more IsSum xs x g t) (λ vs z. expression_got u _ vs z)
    (length us) ((expression_of us).0 ∷ []) (expression_of us).1 (expression_shrinks us) (f.good, tt) f.state

-- tests
abbrev IsFlat : ConditionTree → Type 0
IsFlat c = IsCondition c × (levels Tight c ≡ 0)

within_got : (u : ℕ) (ps : Parts) (n : Bool) (e : ExpressionTree) (us : List Lexeme) → IsSum e → State (Part u within_rule ps) us → Got IsFlat ps (within n e us)
unfolding within
within_got u ps n e us h s =
    got_if (begins k.Between us) _ _
    (λ f. let x = expression_got u _ (drop 1 us) (at_then (only_this 0 us refl f s)) in
    let r : List Lexeme = (expression_of (drop 1 us)).1 in
    let y = expression_got u _ (drop 1 r) (at_token 0 r (at_then x.state)) in
    record { good = ((h, x.good, y.good), refl); state = y.state })
    (λ f. let x = expressions_got u _ (drop 2 us) (at_then (at_token 1 us (at_then (at_token 0 us (at_then (only_that us f s)))))) in
    record { good = ((h, x.good), refl); state = at_token 0 (expressions_of (drop 2 us)).1 x.state })

missing_got : (u : ℕ) (ps : Parts) (e : ExpressionTree) (us : List Lexeme) → IsSum e → State (Part u (optional k.Not Empty ▸ the k.Null) ps) (drop 1 us) → Got IsFlat ps (missing e us)
missing_got u ps e us h s =
    got_if (begins k.Not (drop 1 us)) _ _ (λ f. record { good = (h, refl); state = at_token 2 us (at_empty (only_this 1 us refl f (at_then s))) }) (λ f. record { good = (h, refl); state = at_token 1 us (at_empty (only_that (drop 1 us) f (at_then s))) })

abbrev test_rest : Grammar
test_rest = Either Compare (Named rules.Expr) (choice k.Is (optional k.Not Empty ▸ the k.Null) (choice k.Not within_rule within_rule))

tested_got : (u : ℕ) (ps : Parts) (e : ExpressionTree) (us : List Lexeme) → IsSum e → State (Part u test_rest ps) us → Got IsFlat ps (tested (e, us))
unfolding tested
tested_got u ps e us h s =
    got_if (passes Compare (first_kind us)) _ _ (λ f. let x = expression_got u _ (drop 1 us) (at_this 0 us refl f s) in record { good = ((h, x.good), refl); state = x.state })
    (λ f. let s1 = at_that us f s in
    got_if (begins k.Is us) _ _ (λ g. missing_got u ps e us h (only_this 0 us refl g s1))
    (λ g. let s2 = only_that us g s1 in
    got_if (begins k.Not us) _ _ (λ i. within_got u ps true e (drop 1 us) h (only_this 0 us refl i s2)) (λ i. within_got u ps false e us h (only_that us i s2))))

test_got : (u : ℕ) (ps : Parts) (us : List Lexeme) → State (Part u (Named rules.Expr ▸ test_rest) ps) us → Got IsFlat ps (test_of us)
unfolding test_of
test_got u ps us s = let x = expression_got u _ us (at_then s) in tested_got u ps (expression_of us).0 (expression_of us).1 x.good x.state

-- conditions of so many levels, beside what binds so strongly
abbrev IsTight : ℕ → ConditionTree → Type 0
IsTight n c = IsCondition c × (levels Tight c ≤ n)

abbrev IsMiddle : ℕ → ConditionTree → Type 0
IsMiddle n c = IsCondition c × (levels Middle c ≤ n)

abbrev IsLoose : ℕ → ConditionTree → Type 0
IsLoose n c = IsCondition c × (levels Loose c ≤ n)

tight_middle : (c : ConditionTree) → levels Middle c ≤ levels Tight c
tight_middle (Compared o a b) = omega arith
tight_middle (Missing n a) = omega arith
tight_middle (Between n a low high) = omega arith
tight_middle (Among n a list) = omega arith
tight_middle (Not a) = omega arith
tight_middle (All a b) = omega arith
tight_middle (Any a b) = omega arith

middle_loose : (c : ConditionTree) → levels Loose c ≤ levels Middle c
middle_loose (Compared o a b) = omega arith
middle_loose (Missing n a) = omega arith
middle_loose (Between n a low high) = omega arith
middle_loose (Among n a list) = omega arith
middle_loose (Not a) = omega arith
middle_loose (All a b) = omega arith
middle_loose (Any a b) = omega arith

loose_tight : (c : ConditionTree) → levels Tight c ≤ suc (levels Loose c)
loose_tight (Compared o a b) = omega arith
loose_tight (Missing n a) = omega arith
loose_tight (Between n a low high) = omega arith
loose_tight (Among n a list) = omega arith
loose_tight (Not a) = omega arith
loose_tight (All a b) = omega arith
loose_tight (Any a b) = omega arith

abbrev PredicateGot : ℕ → ℕ → Type 0
PredicateGot u n = (ps : Parts) (us : List Lexeme) → State (Part u (Named rules.Pred) ps) us → Got (IsTight n) ps (predicate_of n us)

conjunction_got : (u n : ℕ) → PredicateGot u n → (ps : Parts) (us : List Lexeme) → State (Part u conj ps) us → Got (IsMiddle n) ps (conjunction_by (predicate_of n) us)
unfolding conjunction_by
conjunction_got u n f ps us s =
    let x = f _ us (at_then s) in
    chain_got ConditionTree ConditionTree at_and both (predicate_of n) u (Only k.And) (Named rules.Pred) ps (IsMiddle n) (IsTight n) refl (λ vs. sym (only_is k.And (first_kind vs))) (predicate_shrinks n)
    (λ w a b h t. ((h.0, t.0), (let p = h.1 in let q = t.1 in omega arith))) (λ vs z. f _ vs z) (length us) (predicate_of n us).0 (predicate_of n us).1 (predicate_shrinks n us)
    (x.good.0, (let p = x.good.1 in let q = tight_middle (predicate_of n us).0 in omega (arith, p, q))) x.state

condition_by_got : (u n : ℕ) → PredicateGot u n → (ps : Parts) (us : List Lexeme) → State (Part u (Named rules.Cond) ps) us → Got (IsLoose n) ps (condition_by (predicate_of n) us)
unfolding condition_by
condition_by_got u n f ps us s =
    let p : List Lexeme → ConditionTree × List Lexeme = conjunction_by (predicate_of n) in
    let x = conjunction_got u n f _ us (at_then (at_named s)) in
    chain_got ConditionTree ConditionTree at_or either p u (Only k.Or) conj ps (IsLoose n) (IsMiddle n) refl (λ vs. sym (only_is k.Or (first_kind vs))) (conjunction_shrinks n)
    (λ w a b h t. ((h.0, t.0), (let q = h.1 in let r = t.1 in omega arith))) (λ vs z. conjunction_got u n f _ vs z) (length us) (p us).0 (p us).1 (conjunction_shrinks n us)
    (x.good.0, (let q = x.good.1 in let r = middle_loose (p us).0 in omega (arith, q, r))) x.state

predicate_got : (n u : ℕ) → u + n ≡ 32 → PredicateGot u n
unfolding predicate_of
predicate_got zero u e ps us s = by (begins k.OpenParen us) (begins k.Not us) refl refl
  where
    by : (a b : Bool) → begins k.OpenParen us ≡ a → begins k.Not us ≡ b → Got (IsTight zero) ps (predicate_of zero us)
    by true b p q = absurd (deep (at_deeper us refl (only_is k.OpenParen (first_kind us) ∙ p) (at_named s)).0)
      where
        deep : ltb u 32 ≡ true → ⊥
        deep l = absurd (grind (arith, nat_tests))
    by false true p q = absurd (deep (at_deeper us refl (only_is k.Not (first_kind us) ∙ q) (at_level us (only_is k.OpenParen (first_kind us) ∙ p) (at_named s))).0)
      where
        deep : ltb u 32 ≡ true → ⊥
        deep l = absurd (grind (arith, nat_tests))
    by false false p q =
        let x = test_got u ps us (at_level us (only_is k.Not (first_kind us) ∙ q) (at_level us (only_is k.OpenParen (first_kind us) ∙ p) (at_named s))) in
        record { good = (x.good.0, (let z = x.good.1 in omega (arith, z))); state = x.state }
predicate_got (suc n) u e ps us s =
    let f : PredicateGot (suc u) n = predicate_got n (suc u) (omega arith) in
    got_if (begins k.OpenParen us) _ _
    (λ p. let x = condition_by_got (suc u) n f _ (drop 1 us) (at_deeper us refl (only_is k.OpenParen (first_kind us) ∙ p) (at_named s)).1 in
    let c : ConditionTree = (condition_by (predicate_of n) (drop 1 us)).0 in
    record { good = (x.good.0, (let q = x.good.1 in let r = loose_tight c in omega (arith, q, r))); state = at_token 0 (condition_by (predicate_of n) (drop 1 us)).1 x.state })
    (λ p. let s1 = at_level us (only_is k.OpenParen (first_kind us) ∙ p) (at_named s) in
    got_if (begins k.Not us) _ _
    (λ q. let x = f _ (drop 1 us) (at_deeper us refl (only_is k.Not (first_kind us) ∙ q) s1).1 in record { good = (x.good.0, (let r = x.good.1 in omega (arith, r))); state = at_empty x.state })
    (λ q. let x = test_got u ps us (at_level us (only_is k.Not (first_kind us) ∙ q) s1) in record { good = (x.good.0, (let z = x.good.1 in omega (arith, z))); state = x.state }))

-- a condition is read
pub condition_got : (ps : Parts) (us : List Lexeme) → State (Part 0 (Named rules.Cond) ps) us → Got (IsLoose 32) ps (condition_of us)
unfolding condition_of
condition_got ps us s = condition_by_got 0 32 (predicate_got 32 0 refl) ps us s

pub filter_got : (ps : Parts) (us : List Lexeme) → State (Part 0 filter_part ps) us → Got IsFilter ps (filter_of us)
unfolding filter_of
filter_got ps us s =
    got_if (begins k.Where us) _ _ (λ e. let x = condition_got ps (drop 1 us) (only_this 0 us refl e s) in record { good = x.good; state = x.state }) (λ e. record { good = tt; state = at_empty (only_that us e s) })
