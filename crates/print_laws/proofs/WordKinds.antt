-- What kinds of tokens names and digits are.
use Rattle.std.proofs.Common.{◌≡◌, ℕ, ◌<◌, Bool, true, false, not, ◌&&◌, ◌||◌, cond, eqb, leb, List, [], ◌∷◌, ◌++◌, length, take, drop, map, refl, ap, ◌∙◌, arith}
use Rattle.std.proofs.lemmas.Bool.Decides.{nat_tests}
use Rattle.std.specs.List.{list_all}
use Rattle.std.specs.Char.{is_ascii_digit}
use Rattle.sql_print.specs.tier_base.specs.Names.{is_word_byte, is_identifier, begins_with_letter, is_among, is_reserved_word, spells}
use Rattle.sql_print.specs.sql_tokens.specs.declared.kind.Kind.{Kind}
use Rattle.sql_print.specs.sql_tokens.specs.declared.kind.Kind.TheVariants.{Identifier, Zero, One, Two, Three, Integer}
use Rattle.sql_print.specs.sql_tokens.specs.Kinds.{code, is_kind}
use Rattle.sql_print.specs.sql_tokens.specs.Words.{word_kind, named, keywords, number_kind}
use Rattle.sql_print.specs.sql_grammar.specs.declared.test.Test.{Test}
use Rattle.sql_print.specs.sql_grammar.specs.declared.test.Test.TheVariants.{Name, Whole, Digits}
use Rattle.sql_print.specs.sql_grammar.specs.Tests.{passes, low_of, high_of}
use Rattle.sql_print.specs.sql_grammar.proofs.Lists.{and_left, and_right}

-- a word among none of the first keywords
named_past : (es fs : List (List ℕ × Kind)) (w : List ℕ) → is_among (map (λ e. e.0) es) w ≡ false → named (es ++ fs) w ≡ named fs w
named_past [] fs w h = refl
named_past (e ∷ es) fs w h = by (spells w e.0) (is_among (map (λ e. e.0) es) w) refl refl h (λ q. named_past es fs w q)
  where
    by : (a b : Bool) → spells w e.0 ≡ a → is_among (map (λ e. e.0) es) w ≡ b → a || b ≡ false → (is_among (map (λ e. e.0) es) w ≡ false → named (es ++ fs) w ≡ named fs w) → named ((e ∷ es) ++ fs) w ≡ named fs w
    by true b p q r f = absurd (cc)
    by false true p q r f = absurd (cc)
    by false false p q r f = rw p (f q)

-- what each keyword of a list has, a word by the list has
pub named_has : (test : Kind → Bool) (es : List (List ℕ × Kind)) (w : List ℕ) → test Identifier ≡ true → list_all (λ e. test e.1) es ≡ true → test (named es w) ≡ true
named_has test [] w h l = h
named_has test (e ∷ es) w h l =
    by (spells w e.0) refl (and_left (test e.1) (list_all (λ e. test e.1) es) l) (named_has test es w h (and_right (test e.1) (list_all (λ e. test e.1) es) l))
  where
    by : (a : Bool) → spells w e.0 ≡ a → test e.1 ≡ true → test (named es w) ≡ true → test (named (e ∷ es) w) ≡ true
    by true p q r = rw p q
    by false p q r = rw p r

-- the keywords that are no names come first
name_kind : (w : List ℕ) → is_reserved_word w ≡ false → passes Name (named keywords w) ≡ true
name_kind w h = rw (named_past (take 45 keywords) (drop 45 keywords) w h) (named_has (passes Name) (drop 45 keywords) w refl refl)

letter_no_digit : (b : ℕ) (bs : List ℕ) → begins_with_letter (b ∷ bs) ≡ true → is_ascii_digit b ≡ false
letter_no_digit b bs h = grind (arith, nat_tests)

digits_not : (w : List ℕ) → begins_with_letter w ≡ true → list_all is_ascii_digit w ≡ false
digits_not [] h = absurd (cc)
digits_not (b ∷ bs) h = rw (letter_no_digit b bs h)

letter_some : (w : List ℕ) → begins_with_letter w ≡ true → 0 < length w
letter_some [] h = absurd (cc)
letter_some (b ∷ bs) h = omega arith

-- an identifier is one word, which passes as a name
pub record IsNameWord (w : List ℕ) : Type 0 where
  pub bytes : list_all is_word_byte w ≡ true
  pub some : 0 < length w
  pub passes : passes Name (word_kind w) ≡ true

pub identifier_word : (w : List ℕ) → is_identifier w ≡ true → IsNameWord w
identifier_word w h = by (begins_with_letter w) (list_all is_word_byte w) (leb (length w) 30) (is_reserved_word w) refl refl refl refl h
  where
    by : (a b c d : Bool) → begins_with_letter w ≡ a → list_all is_word_byte w ≡ b → leb (length w) 30 ≡ c → is_reserved_word w ≡ d → a && b && c && not d ≡ true → IsNameWord w
    by true true true false p q r s t = record {
      bytes = q;
      some = letter_some w p;
      passes = rw (digits_not w p, p, r) (name_kind w s);
    }
    by true true true true p q r s t = absurd (cc)
    by true true false d p q r s t = absurd (cc)
    by true false c d p q r s t = absurd (cc)
    by false b c d p q r s t = absurd (cc)

tells_apart : (b : Bool) → b ≡ true → b ≡ false → ⊥
tells_apart b p q = absurd (cc)

same_code : (k j : Kind) → is_kind k j ≡ true → code k ≡ code j
same_code k j h = grind (arith, nat_tests)

-- a kind that passes is none that doesn't pass
pub other_kind : (t : Test) (k j : Kind) → passes t k ≡ true → passes t j ≡ false → is_kind k j ≡ false
other_kind t k j p q = by (is_kind k j) refl
  where
    by : (b : Bool) → is_kind k j ≡ b → b ≡ false
    by false h = refl
    by true h = absurd (tells_apart (passes t k) p (ap (λ (c : ℕ). leb (low_of t) c && leb c (high_of t)) (same_code k j h) ∙ q))

pub whole_digits : (k : Kind) → passes Whole k ≡ true → passes Digits k ≡ true
whole_digits k h = grind (arith, nat_tests)

-- no name is a number, and no number a name
pub digits_no_name : (k : Kind) → passes Digits k ≡ true → passes Name k ≡ false
digits_no_name k h = grind (arith, nat_tests)

digit_number : (a b c d : Bool) → passes Whole (cond a Zero (cond b One (cond c Two (cond d Three Integer)))) ≡ true
digit_number true b c d = refl
digit_number false true c d = refl
digit_number false false true d = refl
digit_number false false false true = refl
digit_number false false false false = refl

pub number_is : (w : List ℕ) → passes Whole (number_kind w) ≡ true
number_is [] = refl
number_is (b ∷ []) = digit_number (eqb b 48) (eqb b 49) (eqb b 50) (eqb b 51)
number_is (b ∷ c ∷ bs) = refl

pub digits_kind : (w : List ℕ) → list_all is_ascii_digit w ≡ true → passes Whole (word_kind w) ≡ true
digits_kind w h = rw h (number_is w)

digit_is_word : (b : ℕ) → is_ascii_digit b ≡ true → is_word_byte b ≡ true
digit_is_word b h = grind (arith, nat_tests)

pub digits_bytes : (w : List ℕ) → list_all is_ascii_digit w ≡ true → list_all is_word_byte w ≡ true
digits_bytes [] h = refl
digits_bytes (b ∷ bs) h = rw (digit_is_word b (and_left (is_ascii_digit b) (list_all is_ascii_digit bs) h)) (digits_bytes bs (and_right (is_ascii_digit b) (list_all is_ascii_digit bs) h))
