-- Expressions that are put are read back.
use Rattle.std.proofs.Common.{◌≡◌, ℕ, Bool, true, false, cond, ◌||◌, List, ◌∷◌, ◌++◌, codes, refl, sym, ap, ◌∙◌, subst, append_assoc}
use Rattle.sql_print.specs.expressions.specs.declared.expression.Arithmetic.{Arithmetic}
use Rattle.sql_print.specs.expressions.specs.declared.expression.Arithmetic.TheVariants as arithmetic
use Rattle.sql_print.specs.row_types.specs.Printing.{quoted}
use Rattle.sql_print.specs.sql_query.specs.declared.literal.Literal.{Literal}
use Rattle.sql_print.specs.sql_query.specs.declared.literal.Literal.TheVariants as literals
use Rattle.sql_print.specs.sql_query.specs.Trees.{ExpressionTree, Constant, Column, Binary}
use Rattle.sql_print.specs.sql_tokens.specs.declared.kind.Kind.{Kind}
use Rattle.sql_print.specs.sql_tokens.specs.declared.kind.Kind.TheVariants as k
use Rattle.sql_print.specs.sql_tokens.specs.Kinds.{is_kind}
use Rattle.sql_print.specs.sql_tokens.specs.Lexing.{Lexeme}
use Rattle.sql_print.specs.sql_grammar.specs.declared.rule.Rule.TheVariants as rules
use Rattle.sql_print.specs.sql_grammar.specs.declared.test.Test.TheVariants.{Digits, Only, Name, Sign}
use Rattle.sql_print.specs.sql_grammar.specs.Tests.{passes}
use Rattle.sql_print.specs.sql_grammar.specs.Grammar.{Named, this, that, named}
use Rattle.sql_print.specs.sql_grammar.specs.Queries.{expr, exprs, factor, term}
use Rattle.sql_print.specs.sql_phrases.specs.Reading.{begins, column_of, first_kind, literal_of}
use Rattle.sql_print.specs.sql_phrases.specs.Expressions.{added, as_column, as_constant, at_sign, at_star, expression_of, expressions_of, factor_of, multiplied, term_of}
use Rattle.sql_print.specs.sql_phrases.proofs.Shrinking.{expression_shrinks, factor_shrinks, term_shrinks}
use Rattle.sql_print.specs.sql_words.specs.Words.{Word, column_name_words, listed, literal_words}
use Rattle.sql_print.specs.sql_words.specs.Trees.{expression_words, operation_word}
use Rattle.print_laws.proofs.Keywords.{comma_word, minus_word, null_word, plus_word, star_word, timestamp_word}
use Rattle.print_laws.proofs.Lexed.{Lexes, begun_by, lexes_text, tokens}
use Rattle.print_laws.proofs.Lists.{SomeGood, put_list}
use Rattle.print_laws.proofs.Literals.{IsLiteral, literal_begins, minus_lexes, put_literal}
use Rattle.print_laws.proofs.Names.{IsColumnName, column_begins, put_column_name}
use Rattle.print_laws.proofs.Put.{Leads, Never, Put, leads_end, leads_first, leads_more, leads_words, never_word, put_as, put_map}
use Rattle.print_laws.proofs.WordKinds.{other_kind}

-- expressions have no parentheses: what is read is a sum of products
abbrev pub IsFactor : ExpressionTree → Type 0
IsFactor (Constant x) = IsLiteral x
IsFactor (Column n) = IsColumnName n
IsFactor (Binary o a b) = ⊥

abbrev pub IsTerm : ExpressionTree → Type 0
IsTerm (Constant x) = IsLiteral x
IsTerm (Column n) = IsColumnName n
IsTerm (Binary arithmetic.Times a b) = IsTerm a × IsFactor b
IsTerm (Binary arithmetic.Plus a b) = ⊥
IsTerm (Binary arithmetic.Minus a b) = ⊥

abbrev pub IsSum : ExpressionTree → Type 0
IsSum (Constant x) = IsLiteral x
IsSum (Column n) = IsColumnName n
IsSum (Binary arithmetic.Times a b) = IsTerm a × IsFactor b
IsSum (Binary arithmetic.Plus a b) = IsSum a × IsTerm b
IsSum (Binary arithmetic.Minus a b) = IsSum a × IsTerm b

-- no expression goes on with these words
pub record Stops (us : List Word) : Type 0 where
  pub dot : Never k.Dot us
  pub star : Never k.Star us
  pub sign : (i : ℕ) → at_sign (tokens i us) ≡ false

pub stops_word : (j : Kind) (w : Word) (us : List Word) → Lexes j w → is_kind j k.Dot ≡ false → is_kind j k.Star ≡ false → is_kind j k.Plus || is_kind j k.Minus ≡ false → Stops (w ∷ us)
stops_word j w us l a b c = record { dot = never_word k.Dot j w us l a; star = never_word k.Star j w us l b; sign = λ i. ap (λ (ls : List Lexeme). at_sign ls) (begun_by j w l i us).1 ∙ c }

put_factor : (u : ℕ) (e : ExpressionTree) → IsFactor e → (us : List Word) → Never k.Dot us → Put factor_of u factor e (expression_words e ++ us) us
put_factor u (Constant x) h us v =
    put_as factor_of (λ ls. as_constant (literal_of ls)) u factor (Named rules.Literal) (Constant x) (literal_words x ++ us) us (λ ps r d. that d) (λ i. rw (literal_begins x h us i) refl)
    (put_map literal_of (λ y. as_constant y) u (Named rules.Literal) x (Constant x) (literal_words x ++ us) us (λ ls. refl) (put_literal u x h us))
put_factor u (Column n) h us v =
    put_as factor_of (λ ls. as_column (column_of ls)) u factor factor (Column n) (column_name_words n ++ us) us (λ ps r d. d) (λ i. rw (column_begins n h us i) refl)
    (put_map column_of (λ y. as_column y) u factor n (Column n) (column_name_words n ++ us) us (λ ls. refl) (put_column_name u factor us (λ j p ps r d. this p d) n h v))
put_factor u (Binary o a b) h us v = absurd h

-- products
abbrev TermLeads : ℕ → ExpressionTree → List Word → List Word → Type 0
TermLeads u e ws us = Leads ExpressionTree ExpressionTree at_star multiplied factor_of (λ x. x) u (Only k.Star) factor e ws us

term_first : (u : ℕ) (e : ExpressionTree) → IsFactor e → (us : List Word) → Never k.Dot us → TermLeads u e (expression_words e ++ us) us
term_first u e h us v = leads_first ExpressionTree ExpressionTree at_star multiplied factor_of (λ x. x) factor_shrinks refl u (Only k.Star) factor e e (expression_words e ++ us) us (λ ls. refl) (put_factor u e h us v)

lead_term : (u : ℕ) (e : ExpressionTree) → IsTerm e → (us : List Word) → Never k.Dot us → TermLeads u e (expression_words e ++ us) us
lead_term u (Constant x) h us v = term_first u (Constant x) h us v
lead_term u (Column n) h us v = term_first u (Column n) h us v
lead_term u (Binary arithmetic.Times a b) (h, t) us v =
    let vs : List Word = codes "*" ∷ (expression_words b ++ us) in
    leads_words ExpressionTree ExpressionTree at_star multiplied factor_of (λ x. x) factor_shrinks refl u (Only k.Star) factor (Binary arithmetic.Times a b) (expression_words a ++ vs) ((expression_words a ++ codes "*" ∷ expression_words b) ++ us) us (sym (append_assoc (expression_words a) (codes "*" ∷ expression_words b) us))
    (leads_more ExpressionTree ExpressionTree at_star multiplied factor_of (λ x. x) factor_shrinks refl u (Only k.Star) factor k.Star (codes "*") b a (Binary arithmetic.Times a b) (expression_words a ++ vs) (expression_words b ++ us) us star_word refl (λ m ls. refl) refl
    (lead_term u a h vs (never_word k.Dot k.Star (codes "*") (expression_words b ++ us) star_word refl)) (put_factor u b t us v))
lead_term u (Binary arithmetic.Plus a b) h us v = absurd h
lead_term u (Binary arithmetic.Minus a b) h us v = absurd h

put_term : (u : ℕ) (e : ExpressionTree) → IsTerm e → (us : List Word) → Never k.Dot us → Never k.Star us → Put term_of u term e (expression_words e ++ us) us
put_term u e h us v w = leads_end ExpressionTree ExpressionTree at_star multiplied factor_of (λ x. x) factor_shrinks refl u (Only k.Star) factor e (expression_words e ++ us) us w (lead_term u e h us v)

-- sums
abbrev SumLeads : ℕ → ExpressionTree → List Word → List Word → Type 0
SumLeads u e ws us = Leads ExpressionTree ExpressionTree at_sign added term_of (λ x. x) u Sign term e ws us

sum_first : (u : ℕ) (e : ExpressionTree) → IsTerm e → (us : List Word) → Never k.Dot us → Never k.Star us → SumLeads u e (expression_words e ++ us) us
sum_first u e h us v w = leads_first ExpressionTree ExpressionTree at_sign added term_of (λ x. x) term_shrinks refl u Sign term e e (expression_words e ++ us) us (λ ls. refl) (put_term u e h us v w)

sum_more : (u : ℕ) (o : Arithmetic) (a b : ExpressionTree) (j : Kind) → Lexes j (operation_word o) → passes Sign j ≡ true → is_kind j k.Plus || is_kind j k.Minus ≡ true → Binary o a b ≡ added j a b → (us : List Word)
    → SumLeads u a (expression_words a ++ operation_word o ∷ (expression_words b ++ us)) (operation_word o ∷ (expression_words b ++ us)) → IsTerm b → Never k.Dot us → Never k.Star us → SumLeads u (Binary o a b) (expression_words (Binary o a b) ++ us) us
sum_more u o a b j l p q e us first t v w =
    let vs : List Word = operation_word o ∷ (expression_words b ++ us) in
    leads_words ExpressionTree ExpressionTree at_sign added term_of (λ x. x) term_shrinks refl u Sign term (Binary o a b) (expression_words a ++ vs) (expression_words (Binary o a b) ++ us) us (sym (append_assoc (expression_words a) (operation_word o ∷ expression_words b) us))
    (leads_more ExpressionTree ExpressionTree at_sign added term_of (λ x. x) term_shrinks refl u Sign term j (operation_word o) b a (Binary o a b) (expression_words a ++ vs) (expression_words b ++ us) us l p (λ m ls. q) e first (put_term u b t us v w))

lead_sum : (u : ℕ) (e : ExpressionTree) → IsSum e → (us : List Word) → Never k.Dot us → Never k.Star us → SumLeads u e (expression_words e ++ us) us
lead_sum u (Constant x) h us v w = sum_first u (Constant x) h us v w
lead_sum u (Column n) h us v w = sum_first u (Column n) h us v w
lead_sum u (Binary arithmetic.Times a b) h us v w = sum_first u (Binary arithmetic.Times a b) h us v w
lead_sum u (Binary arithmetic.Plus a b) (h, t) us v w =
    sum_more u arithmetic.Plus a b k.Plus plus_word refl refl refl us
    (lead_sum u a h (codes "+" ∷ (expression_words b ++ us)) (never_word k.Dot k.Plus (codes "+") (expression_words b ++ us) plus_word refl) (never_word k.Star k.Plus (codes "+") (expression_words b ++ us) plus_word refl)) t v w
lead_sum u (Binary arithmetic.Minus a b) (h, t) us v w =
    sum_more u arithmetic.Minus a b k.Minus minus_word refl refl refl us
    (lead_sum u a h (codes "-" ∷ (expression_words b ++ us)) (never_word k.Dot k.Minus (codes "-") (expression_words b ++ us) minus_word refl) (never_word k.Star k.Minus (codes "-") (expression_words b ++ us) minus_word refl)) t v w

-- an expression is read
pub put_expression : (u : ℕ) (e : ExpressionTree) → IsSum e → (us : List Word) → Stops us → Put expression_of u (Named rules.Expr) e (expression_words e ++ us) us
unfolding expression_of
put_expression u e h us s =
    put_as expression_of expression_of u (Named rules.Expr) expr e (expression_words e ++ us) us (λ ps r d. named d) (λ i. refl)
    (leads_end ExpressionTree ExpressionTree at_sign added term_of (λ x. x) term_shrinks refl u Sign term e (expression_words e ++ us) us s.sign (lead_sum u e h us s.dot s.star))

comma_stops : (us : List Word) → Stops (codes "," ∷ us)
comma_stops us = stops_word k.Comma (codes ",") us comma_word refl refl refl

-- expressions with commas between are read
pub put_expressions : (u : ℕ) (es : List ExpressionTree) → SomeGood IsSum es → (us : List Word) → Stops us → Never k.Comma us → Put expressions_of u exprs es (listed expression_words es ++ us) us
unfolding expressions_of
put_expressions u es h us s v = put_list ExpressionTree expression_words expression_of u (Named rules.Expr) IsSum Stops expression_shrinks comma_stops (λ e g vs t. put_expression u e g vs t) es h us s v

-- no expression begins with such a token
pub record NoStart (j : Kind) : Type 0 where
  pub name : passes Name j ≡ false
  pub digits : passes Digits j ≡ false
  pub text : is_kind k.Text j ≡ false
  pub null : is_kind k.Null j ≡ false
  pub time : is_kind k.Timestamp j ≡ false
  pub minus : is_kind k.Minus j ≡ false

pub open_starts_none : NoStart k.OpenParen
open_starts_none = record { name = refl; digits = refl; text = refl; null = refl; time = refl; minus = refl }

pub not_starts_none : NoStart k.Not
not_starts_none = record { name = refl; digits = refl; text = refl; null = refl; time = refl; minus = refl }

pub literal_never : (j : Kind) → NoStart j → (x : Literal) → IsLiteral x → (us : List Word) → Never j (literal_words x ++ us)
literal_never j z literals.Null h us = never_word j k.Null (codes "NULL") us null_word z.null
literal_never j z (literals.Number x) h us = by x.negative
  where
    by : (b : Bool) → Never j (cond b (45 ∷ x.digits) x.digits ∷ us)
    by false i = never_word j h.kind x.digits us h.lexes (other_kind Digits h.kind j h.digits z.digits) i
    by true i = ap (λ (ls : List Lexeme). begins j ls) (minus_lexes x.digits h.kind h.lexes i us).1 ∙ z.minus
literal_never j z (literals.Text t) h us = never_word j k.Text (quoted t) us (lexes_text t h) z.text
literal_never j z (literals.Time t) h us = never_word j k.Timestamp (codes "TIMESTAMP") (quoted t ∷ us) timestamp_word z.time

column_never : (j : Kind) → NoStart j → (n : List ℕ) → IsColumnName n → (us : List Word) → Never j (column_name_words n ++ us)
column_never j z n h us i = other_kind Name (first_kind (tokens i (column_name_words n ++ us))) j (column_begins n h us i) z.name

term_never : (j : Kind) → NoStart j → (e : ExpressionTree) → IsTerm e → (us : List Word) → Never j (expression_words e ++ us)
term_never j z (Constant x) h us = literal_never j z x h us
term_never j z (Column n) h us = column_never j z n h us
term_never j z (Binary arithmetic.Times a b) (h, t) us = subst (λ (ws : List Word). Never j ws) (sym (append_assoc (expression_words a) (codes "*" ∷ expression_words b) us)) (term_never j z a h (codes "*" ∷ (expression_words b ++ us)))
term_never j z (Binary arithmetic.Plus a b) h us = absurd h
term_never j z (Binary arithmetic.Minus a b) h us = absurd h

pub expression_never : (j : Kind) → NoStart j → (e : ExpressionTree) → IsSum e → (us : List Word) → Never j (expression_words e ++ us)
expression_never j z (Constant x) h us = literal_never j z x h us
expression_never j z (Column n) h us = column_never j z n h us
expression_never j z (Binary arithmetic.Times a b) h us = term_never j z (Binary arithmetic.Times a b) h us
expression_never j z (Binary arithmetic.Plus a b) (h, t) us = subst (λ (ws : List Word). Never j ws) (sym (append_assoc (expression_words a) (codes "+" ∷ expression_words b) us)) (expression_never j z a h (codes "+" ∷ (expression_words b ++ us)))
expression_never j z (Binary arithmetic.Minus a b) (h, t) us = subst (λ (ws : List Word). Never j ws) (sym (append_assoc (expression_words a) (codes "-" ∷ expression_words b) us)) (expression_never j z a h (codes "-" ∷ (expression_words b ++ us)))
