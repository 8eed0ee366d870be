-- Words without a bad byte.
use Rattle.std.proofs.Common.{◌≡◌, ℕ, ◌<◌, Bool, true, false, not, ◌&&◌, ltb, leb, min, List, [], ◌∷◌, ◌++◌, length, refl, arith}
use Rattle.std.proofs.lemmas.Bool.Decides.{nat_tests}
use Rattle.std.proofs.lemmas.List.Folds.{list_all-append}
use Rattle.std.proofs.lemmas.Str.{IsCharBoundary-after_ascii, IsUtf8-append, IsUtf8-drop, IsUtf8-from_ascii, utf8_valid_len-IsUtf8}
use Rattle.std.proofs.lemmas.Str.Ascii.{IsAscii-nil, IsAscii-cons}
use Rattle.std.specs.Str.{IsUtf8, IsAscii}
use Rattle.std.specs.List.{list_all, position_or_len}
use Rattle.sql_print.specs.tier_base.specs.Names.{is_word_byte}
use Rattle.sql_print.specs.sql_tokens.specs.Heads.{good_length, is_control, place_or_end}
use Rattle.sql_print.specs.sql_grammar.proofs.Lists.{and_left, and_right}
use Rattle.sql_print.specs.sql_subset.specs.Lines.{is_spoilt}
use Rattle.sql_print.specs.sql_words.specs.Words.{Word, spaced}

-- no bad byte stands in the bytes
pub record IsFineText (bytes : List ℕ) : Type 0 where
  pub plain : list_all (λ b. not (is_control b)) bytes ≡ true
  pub utf8 : IsUtf8 bytes

-- no bad byte stands in the words
pub record IsFine (ws : List Word) : Type 0 where
  pub text : IsFineText (spaced ws)

pub fine_both : (xs ys : List ℕ) → IsFineText xs → IsFineText ys → IsFineText (xs ++ ys)
fine_both xs ys h t = record {
  plain = rw (list_all-append (λ b. not (is_control b)) xs ys, h.plain, t.plain);
  utf8 = IsUtf8-append xs ys h.utf8 t.utf8;
}

-- a printable byte
abbrev pub is_printable : ℕ → Bool
is_printable b = leb 32 b && ltb b 127

printable_plain : (b : ℕ) → is_printable b ≡ true → not (is_control b) ≡ true
printable_plain b h = grind (arith, nat_tests)

printable_ascii : (b : ℕ) → is_printable b ≡ true → b < 128
printable_ascii b h = grind (arith, nat_tests)

all_plain : (bs : List ℕ) → list_all is_printable bs ≡ true → list_all (λ b. not (is_control b)) bs ≡ true
all_plain [] h = refl
all_plain (b ∷ bs) h = rw (printable_plain b (and_left (is_printable b) (list_all is_printable bs) h)) (all_plain bs (and_right (is_printable b) (list_all is_printable bs) h))

all_ascii : (bs : List ℕ) → list_all is_printable bs ≡ true → IsAscii bs
all_ascii [] h = IsAscii-nil
all_ascii (b ∷ bs) h = IsAscii-cons b bs (printable_ascii b (and_left (is_printable b) (list_all is_printable bs) h)) (all_ascii bs (and_right (is_printable b) (list_all is_printable bs) h))

pub fine_text : (bs : List ℕ) → list_all is_printable bs ≡ true → IsFineText bs
fine_text bs h = record { plain = all_plain bs h; utf8 = IsUtf8-from_ascii bs (all_ascii bs h) }

word_printable : (b : ℕ) → is_word_byte b ≡ true → is_printable b ≡ true
word_printable b h = grind (arith, nat_tests)

all_printable : (bs : List ℕ) → list_all is_word_byte bs ≡ true → list_all is_printable bs ≡ true
all_printable [] h = refl
all_printable (b ∷ bs) h = rw (word_printable b (and_left (is_word_byte b) (list_all is_word_byte bs) h)) (all_printable bs (and_right (is_word_byte b) (list_all is_word_byte bs) h))

pub fine_word : (w : Word) → list_all is_word_byte w ≡ true → IsFineText w
fine_word w h = fine_text w (all_printable w h)

pub fine_none : IsFine []
fine_none = record { text = fine_text [] refl }

-- one word more in front
pub fine_more : (w : Word) (ws : List Word) → IsFineText w → IsFine ws → IsFine (w ∷ ws)
fine_more w ws h t = record { text = fine_both (32 ∷ w) (spaced ws) (fine_both (32 ∷ []) w (fine_text (32 ∷ []) refl) h) t.text }

-- bytes without a bad one
no_control : (bs : List ℕ) → list_all (λ b. not (is_control b)) bs ≡ true → position_or_len is_control bs ≡ length bs
no_control [] h = refl
no_control (b ∷ bs) h = rw (and_left (not (is_control b)) (list_all (λ c. not (is_control c)) bs) h) (omega (arith, no_control bs (and_right (not (is_control b)) (list_all (λ c. not (is_control c)) bs) h)))

not_below : (n : ℕ) → ltb n n ≡ false
not_below n = grind (arith, nat_tests)

same_min : (n : ℕ) → min n n ≡ n
same_min n = omega arith

pub not_spoilt : (bs : List ℕ) → IsFineText bs → is_spoilt bs ≡ false
not_spoilt bs h =
    let p : position_or_len is_control bs ≡ length bs = no_control bs h.plain in
    let e : place_or_end is_control bs ≡ length bs = rw (p, not_below (length bs)) refl in
    let g : good_length bs ≡ length bs = rw (e, utf8_valid_len-IsUtf8 bs h.utf8) (same_min (length bs)) in
    rw g (not_below (length bs))

-- without the first space
pub fine_rest : (bs : List ℕ) → IsFineText (32 ∷ bs) → IsFineText bs
fine_rest bs h = record { plain = h.plain; utf8 = IsUtf8-drop (32 ∷ bs) 1 h.utf8 (IsCharBoundary-after_ascii (32 ∷ bs) 0 h.utf8 (omega arith) (omega arith)) }
