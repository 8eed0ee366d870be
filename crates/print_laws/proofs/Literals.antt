-- Literals that are put are read back.
use Rattle.std.proofs.Common.{◌≡◌, ℕ, suc, ◌<◌, Bool, true, false, cond, eqb, List, [], ◌∷◌, ◌++◌, length, drop, codes, refl, sym, ap, ◌∙◌, subst, arith}
use Rattle.std.proofs.lemmas.Bool.Decides.{nat_tests}
use Rattle.std.specs.List.{list_all, flat_map}
use Rattle.std.specs.Char.{is_ascii_digit}
use Rattle.sql_print.specs.row_types.specs.Printing.{quoted, doubled_quote}
use Rattle.sql_print.specs.sql_tokens.specs.declared.kind.Kind.{Kind}
use Rattle.sql_print.specs.sql_tokens.specs.declared.kind.Kind.TheVariants.{Minus, Null, Text, Timestamp}
use Rattle.sql_print.specs.sql_tokens.specs.Words.{word_kind}
use Rattle.sql_print.specs.sql_tokens.specs.Lexing.{Lexeme, lexeme}
use Rattle.sql_print.specs.sql_query.specs.declared.literal.Literal.{Literal}
use Rattle.sql_print.specs.sql_query.specs.declared.literal.Literal.TheVariants as literals
use Rattle.sql_print.specs.sql_query.specs.declared.literal.NumberLiteral.{NumberLiteral}
use Rattle.sql_print.specs.sql_grammar.specs.declared.rule.Rule.TheVariants as rules
use Rattle.sql_print.specs.sql_grammar.specs.declared.test.Test.TheVariants.{Digits, Name, Whole}
use Rattle.sql_print.specs.sql_grammar.specs.Tests.{passes}
use Rattle.sql_print.specs.sql_grammar.specs.Grammar.{Named, Part, Reads, token, both, this, that, empty, named}
use Rattle.sql_print.specs.sql_grammar.specs.Notation.{the}
use Rattle.sql_print.specs.sql_grammar.specs.Sql.{rule}
use Rattle.sql_print.specs.sql_subset.specs.Lines.{kinds_in}
use Rattle.sql_print.specs.sql_phrases.specs.Reading.{first_kind, first_text, halved, literal_of, unquoted}
use Rattle.sql_print.specs.sql_words.specs.Words.{Word, literal_words}
use Rattle.print_laws.proofs.Fine.{IsFineText, fine_both, fine_more, fine_text}
use Rattle.print_laws.proofs.Keywords.{null_word, timestamp_word}
use Rattle.print_laws.proofs.Lexed.{Lexes, begun_by, lexes_text, lexes_word, tokens}
use Rattle.print_laws.proofs.Put.{Put, put_last, put_word}
use Rattle.print_laws.proofs.WordKinds.{digits_bytes, digits_kind, digits_no_name, other_kind, whole_digits}

-- some digits, and nothing else
pub record IsDigits (w : List ℕ) : Type 0 where
  pub digits : list_all is_ascii_digit w ≡ true
  pub some : 0 < length w

pub digits_lexes : (w : List ℕ) → IsDigits w → Lexes (word_kind w) w
digits_lexes w h = lexes_word w (digits_bytes w h.digits) h.some

pub digits_whole : (w : List ℕ) → IsDigits w → passes Whole (word_kind w) ≡ true
digits_whole w h = digits_kind w h.digits

-- one token, which is a number
pub record IsNumeral (w : List ℕ) : Type 0 where
  pub kind : Kind
  pub digits : passes Digits kind ≡ true
  pub lexes : Lexes kind w

pub whole_numeral : (w : List ℕ) → IsDigits w → IsNumeral w
whole_numeral w h = record { kind = word_kind w; digits = whole_digits (word_kind w) (digits_whole w h); lexes = digits_lexes w h }

-- two tokens: a `-`, and a number
pub minus_lexes : (w : List ℕ) (k : Kind) → Lexes k w → (i : ℕ) (ws : List Word) → (j : ℕ) × (tokens i ((45 ∷ w) ∷ ws) ≡ lexeme Minus (suc i) (45 ∷ []) ∷ lexeme k (suc (suc i)) w ∷ tokens j ws)
unfolding tokens
minus_lexes w k l i ws = let (j, e) = l.lexes (suc (suc i)) ws in (j, ap (λ (x : List Lexeme). lexeme Minus (suc i) (45 ∷ []) ∷ x) e)

-- what is written of a number is a number, and of a text no bad byte
abbrev pub IsLiteral : Literal → Type 0
IsLiteral literals.Null = Unit {0}
IsLiteral (literals.Number x) = IsNumeral x.digits
IsLiteral (literals.Text t) = IsFineText (quoted t)
IsLiteral (literals.Time t) = IsFineText (quoted t)

-- doubled quotes as one
halved_doubled : (t : List ℕ) → halved false (flat_map doubled_quote t ++ 39 ∷ []) ≡ t
halved_doubled [] = refl
halved_doubled (b ∷ t) = by (eqb b 39) refl (halved_doubled t)
  where
    by : (c : Bool) → eqb b 39 ≡ c → halved false (flat_map doubled_quote t ++ 39 ∷ []) ≡ t → halved false ((cond c (39 ∷ 39 ∷ []) (b ∷ []) ++ flat_map doubled_quote t) ++ 39 ∷ []) ≡ b ∷ t
    by true h e = let same : b ≡ 39 = grind (arith, nat_tests) in rw same (ap (λ (x : List ℕ). 39 ∷ x) e)
    by false h e = rw h (ap (λ (x : List ℕ). b ∷ x) e)

pub unquoted_quoted : (t : List ℕ) → unquoted (quoted t) ≡ t
unquoted_quoted t = halved_doubled t

abbrev Read : Type 0
Read = Literal × List Lexeme

number_says : (x : NumberLiteral) (n : Bool) → x.negative ≡ n → (ls : List Lexeme) → ◌≡◌ {A = Read} (literals.Number (record { negative = n; digits = x.digits }), ls) (literals.Number x, ls)
number_says x n e ls = ap (λ (b : Bool). let y : Read = (literals.Number (record { negative = b; digits = x.digits }), ls) in y) (sym e)

put_number : (u : ℕ) (x : NumberLiteral) (b : Bool) → x.negative ≡ b → IsNumeral x.digits → (us : List Word) → Put literal_of u (Named rules.Literal) (literals.Number x) (cond b (45 ∷ x.digits) x.digits ∷ us) us
put_number u x false e h us =
    put_last literal_of u (Named rules.Literal) (literals.Number x) h.kind x.digits us h.lexes (λ ps r d. named (this h.digits (empty d)))
    (λ p ls. rw (other_kind Digits h.kind Text h.digits refl, other_kind Digits h.kind Null h.digits refl, other_kind Digits h.kind Timestamp h.digits refl, other_kind Digits h.kind Minus h.digits refl) (number_says x false e ls))
put_number u x true e h us = record {
  says = λ i. let (j, f) = minus_lexes x.digits h.kind h.lexes i us in
      record {
        at = j;
        reads = ap literal_of f ∙ number_says x true e (tokens j us);
        spells = λ ps d. subst (λ (ls : List Lexeme). Reads rule 32 (Part u (Named rules.Literal) ps) (kinds_in ls)) (sym f) (named (that (that (that (that (both (token refl (token h.digits d))))))));
      };
  fine = λ t. fine_more (45 ∷ x.digits) us (fine_both (45 ∷ []) x.digits (fine_text (45 ∷ []) refl) h.lexes.fine) t;
}

pub put_literal : (u : ℕ) (x : Literal) → IsLiteral x → (us : List Word) → Put literal_of u (Named rules.Literal) x (literal_words x ++ us) us
put_literal u literals.Null h us = put_last literal_of u (Named rules.Literal) literals.Null Null (codes "NULL") us null_word (λ ps r d. named (that (that (this refl (empty d))))) (λ p ls. refl)
put_literal u (literals.Number x) h us = put_number u x x.negative refl h us
put_literal u (literals.Text t) h us =
    put_last literal_of u (Named rules.Literal) (literals.Text t) Text (quoted t) us (lexes_text t h) (λ ps r d. named (that (this refl (empty d))))
    (λ p ls. ap (λ (x : List ℕ). let y : Read = (literals.Text x, ls) in y) (unquoted_quoted t))
put_literal u (literals.Time t) h us =
    let then : List Lexeme → Read = λ ls. (literals.Time (unquoted (first_text ls)), drop 1 ls) in
    put_word literal_of then u (Named rules.Literal) (the Text) (literals.Time t) Timestamp (codes "TIMESTAMP") (quoted t ∷ us) us timestamp_word (λ ps r d. named (that (that (that (this refl d))))) (λ p ls. refl)
    (put_last then u (the Text) (literals.Time t) Text (quoted t) us (lexes_text t h) (λ ps r d. token refl d) (λ p ls. ap (λ (x : List ℕ). let y : Read = (literals.Time x, ls) in y) (unquoted_quoted t)))

first_is : (k : Kind) (w : Word) (us : List Word) → Lexes k w → passes Name k ≡ false → (i : ℕ) → passes Name (first_kind (tokens i (w ∷ us))) ≡ false
first_is k w us l h i = ap (λ (ls : List Lexeme). passes Name (first_kind ls)) (begun_by k w l i us).1 ∙ h

number_begins : (b : Bool) (w : List ℕ) → IsNumeral w → (us : List Word) (i : ℕ) → passes Name (first_kind (tokens i (cond b (45 ∷ w) w ∷ us))) ≡ false
number_begins false w h us i = first_is h.kind w us h.lexes (digits_no_name h.kind h.digits) i
number_begins true w h us i = ap (λ (ls : List Lexeme). passes Name (first_kind ls)) (minus_lexes w h.kind h.lexes i us).1

-- no literal begins with a name
pub literal_begins : (x : Literal) → IsLiteral x → (us : List Word) (i : ℕ) → passes Name (first_kind (tokens i (literal_words x ++ us))) ≡ false
literal_begins literals.Null h us i = first_is Null (codes "NULL") us null_word refl i
literal_begins (literals.Number x) h us i = number_begins x.negative x.digits h us i
literal_begins (literals.Text t) h us i = first_is Text (quoted t) us (lexes_text t h) refl i
literal_begins (literals.Time t) h us i = first_is Timestamp (codes "TIMESTAMP") (quoted t ∷ us) timestamp_word refl i
