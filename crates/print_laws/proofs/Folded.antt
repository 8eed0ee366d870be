-- Names that are read are names in upper case.
use Rattle.std.proofs.Common.{◌≡◌, ℕ, zero, suc, ◌+◌, Bool, true, false, not, ◌&&◌, cond, eqb, leb, List, [], ◌∷◌, length, take, drop, codes, Option, Some, None, refl, sym, ap, ◌∙◌, subst, arith}
use Rattle.std.proofs.lemmas.Bool.Decides.{nat_tests}
use Rattle.std.specs.List.{list_all, position, position_or_len}
use Rattle.std.specs.Char.{to_ascii_uppercase}
use Rattle.sql_print.specs.tier_base.specs.Names.{begins_with_letter, folded, is_among, is_identifier, is_name, is_name_at, is_reserved_word, is_word_byte, reserved, spells}
use Rattle.sql_print.specs.sql_grammar.proofs.Lists.{and_left, and_right}
use Rattle.sql_print.specs.sql_phrases.specs.Reading.{name_from}
use Rattle.print_laws.proofs.Names.{IsIdentifier, IsName, dotless}

upper_again : (b : ℕ) → to_ascii_uppercase (to_ascii_uppercase b) ≡ to_ascii_uppercase b
upper_again b = grind (arith, nat_tests)

folded_again : (bs : List ℕ) → folded (folded bs) ≡ folded bs
folded_again [] = refl
folded_again (b ∷ bs) = ap (λ (c : ℕ). c ∷ folded (folded bs)) (upper_again b) ∙ ap (λ (cs : List ℕ). to_ascii_uppercase b ∷ cs) (folded_again bs)

upper_word : (b : ℕ) → is_word_byte b ≡ true → is_word_byte (to_ascii_uppercase b) ≡ true
upper_word b h = grind (arith, nat_tests)

upper_letter : (b : ℕ) (bs cs : List ℕ) → begins_with_letter (b ∷ bs) ≡ true → begins_with_letter (to_ascii_uppercase b ∷ cs) ≡ true
upper_letter b bs cs h = grind (arith, nat_tests)

upper_dot : (b : ℕ) → eqb (to_ascii_uppercase b) 46 ≡ eqb b 46
upper_dot b = by (eqb b 46) refl
  where
    by : (c : Bool) → eqb b 46 ≡ c → eqb (to_ascii_uppercase b) 46 ≡ c
    by true h = let e : b ≡ 46 = grind (arith, nat_tests) in rw e refl
    by false h = grind (arith, nat_tests)

word_folded : (bs : List ℕ) → list_all is_word_byte bs ≡ true → list_all is_word_byte (folded bs) ≡ true
word_folded [] h = refl
word_folded (b ∷ bs) h = rw (upper_word b (and_left (is_word_byte b) (list_all is_word_byte bs) h)) (word_folded bs (and_right (is_word_byte b) (list_all is_word_byte bs) h))

letter_folded : (bs : List ℕ) → begins_with_letter bs ≡ true → begins_with_letter (folded bs) ≡ true
letter_folded [] h = h
letter_folded (b ∷ bs) h = upper_letter b bs (folded bs) h

length_folded : (bs : List ℕ) → length (folded bs) ≡ length bs
length_folded [] = refl
length_folded (b ∷ bs) = ap suc (length_folded bs)

spells_folded : (bs w : List ℕ) → spells (folded bs) w ≡ spells bs w
spells_folded [] [] = refl
spells_folded [] (c ∷ w) = refl
spells_folded (b ∷ bs) [] = refl
spells_folded (b ∷ bs) (c ∷ w) = rw (upper_again b, spells_folded bs w)

among_folded : (ws : List (List ℕ)) (bs : List ℕ) → is_among ws (folded bs) ≡ is_among ws bs
among_folded [] bs = refl
among_folded (w ∷ ws) bs = rw (spells_folded bs w, among_folded ws bs)

identifier_folded : (w : List ℕ) → is_identifier w ≡ true → is_identifier (folded w) ≡ true
identifier_folded w h = by (begins_with_letter w) (list_all is_word_byte w) (leb (length w) 30) (is_reserved_word w) refl refl refl refl h
  where
    by : (a b c d : Bool) → begins_with_letter w ≡ a → list_all is_word_byte w ≡ b → leb (length w) 30 ≡ c → is_reserved_word w ≡ d → a && b && c && not d ≡ true → is_identifier (folded w) ≡ true
    by true true true true p q r s t = absurd (cc)
    by true true true false p q r s t = rw (letter_folded w p, word_folded w q, length_folded w, r, among_folded reserved w, s) refl
    by true true false d p q r s t = absurd (cc)
    by true false c d p q r s t = absurd (cc)
    by false b c d p q r s t = absurd (cc)

first_folded : (bs : List ℕ) → position_or_len (λ b. eqb b 46) (folded bs) ≡ position_or_len (λ b. eqb b 46) bs
first_folded [] = refl
first_folded (b ∷ bs) = rw (upper_dot b, first_folded bs)

position_folded : (bs : List ℕ) → position (λ b. eqb b 46) (folded bs) ≡ position (λ b. eqb b 46) bs
position_folded bs = rw (first_folded bs, length_folded bs)

take_folded : (n : ℕ) (bs : List ℕ) → take n (folded bs) ≡ folded (take n bs)
take_folded zero bs = refl
take_folded (suc n) [] = refl
take_folded (suc n) (b ∷ bs) = ap (λ (cs : List ℕ). to_ascii_uppercase b ∷ cs) (take_folded n bs)

drop_folded : (n : ℕ) (bs : List ℕ) → drop n (folded bs) ≡ folded (drop n bs)
drop_folded zero bs = refl
drop_folded (suc n) [] = refl
drop_folded (suc n) (b ∷ bs) = drop_folded n bs

name_folded_at : (bs : List ℕ) (o : Option ℕ) → is_name_at bs o ≡ true → is_name_at (folded bs) o ≡ true
name_folded_at bs None h = identifier_folded bs h
name_folded_at bs (Some dot) h =
    rw (take_folded dot bs, drop_folded (dot + 1) bs, identifier_folded (take dot bs) (and_left (is_identifier (take dot bs)) (is_identifier (drop (dot + 1) bs)) h)) (identifier_folded (drop (dot + 1) bs) (and_right (is_identifier (take dot bs)) (is_identifier (drop (dot + 1) bs)) h))

name_folded : (bs : List ℕ) → is_name bs ≡ true → is_name (folded bs) ≡ true
name_folded bs h = subst (λ o. is_name_at (folded bs) o ≡ true) (sym (position_folded bs)) (name_folded_at bs (position (λ b. eqb b 46) bs) h)

-- what is read as a name is one
pub name_read : (bs : List ℕ) → IsName (name_from bs)
name_read bs = by (is_name bs) refl
  where
    by : (b : Bool) → is_name bs ≡ b → IsName (cond b (folded bs) (codes "NONAME"))
    by true h = record { is = name_folded bs h; upper = folded_again bs }
    by false h = record { is = refl; upper = refl }

letter_taken : (n : ℕ) (bs : List ℕ) → begins_with_letter (take n bs) ≡ true → begins_with_letter bs ≡ true
letter_taken zero bs h = absurd (cc)
letter_taken (suc n) [] h = h
letter_taken (suc n) (b ∷ bs) h = h

identifier_letter : (w : List ℕ) → is_identifier w ≡ true → begins_with_letter w ≡ true
identifier_letter w h = by (begins_with_letter w) refl h
  where
    by : (a : Bool) → begins_with_letter w ≡ a → a && list_all is_word_byte w && leb (length w) 30 && not (is_reserved_word w) ≡ true → a ≡ true
    by true e t = refl
    by false e t = absurd (cc)

name_letter : (bs : List ℕ) (o : Option ℕ) → is_name_at bs o ≡ true → begins_with_letter bs ≡ true
name_letter bs None h = identifier_letter bs h
name_letter bs (Some dot) h = letter_taken dot bs (identifier_letter (take dot bs) (and_left (is_identifier (take dot bs)) (is_identifier (drop (dot + 1) bs)) h))

-- what is read as a name off one word is an identifier
pub identifier_read : (bs : List ℕ) → (begins_with_letter bs ≡ true → list_all is_word_byte bs ≡ true) → IsIdentifier (name_from bs)
identifier_read bs w = record { word = by (is_name bs) refl; name = name_read bs }
  where
    single : is_name bs ≡ true → is_identifier bs ≡ true
    single h = subst (λ p. is_name_at bs p ≡ true) (dotless bs (w (name_letter bs (position (λ b. eqb b 46) bs) h))) h

    by : (b : Bool) → is_name bs ≡ b → is_identifier (cond b (folded bs) (codes "NONAME")) ≡ true
    by true h = identifier_folded bs (single h)
    by false h = refl
