-- What one byte does to what is scanned.
use Rattle.std.proofs.Common.{◌≡◌, ℕ, true, false, List, [], ◌∷◌, ◌++◌, eqb, Some, None, Result, Ok, Err, IfOk, sym, ap, ◌∙◌, arith, append-nil, append_assoc}
use Rattle.std.proofs.lemmas.Bool.Decides.{nat_tests}
use Rattle.std.specs.Char.{is_ascii_digit}
use Rattle.tier_base.specs.Names.{is_word_byte}
use Rattle.sql_tokens.specs.declared.kind.Kind.{Kind}
use Rattle.sql_tokens.specs.Words.{word_kind, fraction_kind}
use Rattle.sql_tokens.specs.declared.kind.Kind.TheVariants.{Dot, Text}
use Rattle.sql_tokens.specs.Lexing.{Lexeme, lexeme, Scan, Scanned, Blank, InWord, AtPoint, InFraction, InText, Quoted, InSign, begun, behind, on, is_blank, is_open_sign, mark_kind, pair_kind}

-- these tokens stand behind the old ones, and this is scanned
abbrev pub Gives : List Lexeme → List Lexeme → Scan → Scanned → Type 0
Gives old new scan s = (new ≡ old ++ s.0) × (scan ≡ s.1)

pub gives_none : (old : List Lexeme) (x y : Scan) (s : Scanned) → s ≡ ([], y) → x ≡ y → Gives old old x s
gives_none old x y s e h = rw e (sym (append-nil old), h)

pub gives_one : (old new : List Lexeme) (l : Lexeme) (x y : Scan) (s : Scanned) → s ≡ (l ∷ [], y) → new ≡ old ++ l ∷ [] → x ≡ y → Gives old new x s
gives_one old new l x y s e n h = rw e (n, h)

-- a token, and then what the byte begins
pub gives_more : (old mid new : List Lexeme) (l : Lexeme) (x : Scan) (s t : Scanned) → s ≡ behind l t → mid ≡ old ++ l ∷ [] → Gives mid new x t → Gives old new x s
gives_more old mid new l x s t e m (n, h) = rw e (n ∙ (ap (λ ls. ls ++ t.0) m ∙ append_assoc old (l ∷ []) t.0), h)

is_quote : (b : ℕ) → b ≡ 39 → eqb b 39 ≡ true
is_quote b h = grind (arith, nat_tests)

no_quote : (b : ℕ) → (b ≡ 39 → ⊥) → eqb b 39 ≡ false
no_quote b h = grind (arith, nat_tests)

pub begun-blank : (i b : ℕ) → true ≡ is_blank b → begun i b ≡ ([], Blank)
begun-blank i b p = rw (← p)

pub begun-word : (i b : ℕ) → false ≡ is_blank b → true ≡ is_word_byte b → begun i b ≡ ([], InWord i (b ∷ []))
begun-word i b p q = rw (← p, ← q)

pub begun-text : (i b : ℕ) → false ≡ is_blank b → false ≡ is_word_byte b → b ≡ 39 → begun i b ≡ ([], InText i (b ∷ []))
begun-text i b p q r = rw (← p, ← q, is_quote b r)

pub begun-sign : (i b : ℕ) → false ≡ is_blank b → false ≡ is_word_byte b → (b ≡ 39 → ⊥) → true ≡ is_open_sign b → begun i b ≡ ([], InSign i b)
begun-sign i b p q r s = rw (← p, ← q, no_quote b r, ← s)

pub begun-mark : (i b : ℕ) → false ≡ is_blank b → false ≡ is_word_byte b → (b ≡ 39 → ⊥) → false ≡ is_open_sign b → begun i b ≡ (lexeme (mark_kind b) i (b ∷ []) ∷ [], Blank)
begun-mark i b p q r s = rw (← p, ← q, no_quote b r, ← s)

pub on-word : (s i b : ℕ) (bs : List ℕ) → true ≡ is_word_byte b → on (InWord s bs) i b ≡ ([], InWord s (bs ++ b ∷ []))
on-word s i b bs p = rw (← p)

pub on-point_digit : (s i b p : ℕ) (bs : List ℕ) → true ≡ is_ascii_digit b → on (AtPoint s bs p) i b ≡ ([], InFraction s (bs ++ 46 ∷ []) (b ∷ []))
on-point_digit s i b p bs h = rw (← h)

pub on-point_end : (s i b p : ℕ) (bs : List ℕ) → false ≡ is_ascii_digit b → on (AtPoint s bs p) i b ≡ behind (lexeme (word_kind bs) s bs) (behind (lexeme Dot p (46 ∷ [])) (begun i b))
on-point_end s i b p bs h = rw (← h)

pub on-fraction : (s i b : ℕ) (bs fs : List ℕ) → true ≡ is_word_byte b → on (InFraction s bs fs) i b ≡ ([], InFraction s bs (fs ++ b ∷ []))
on-fraction s i b bs fs h = rw (← h)

pub on-fraction_end : (s i b : ℕ) (bs fs : List ℕ) → false ≡ is_word_byte b → on (InFraction s bs fs) i b ≡ behind (lexeme (fraction_kind fs) s (bs ++ fs)) (begun i b)
on-fraction_end s i b bs fs h = rw (← h)

pub on-text : (s i b : ℕ) (bs : List ℕ) → (b ≡ 39 → ⊥) → on (InText s bs) i b ≡ ([], InText s (bs ++ b ∷ []))
on-text s i b bs p = rw (no_quote b p)

pub on-text_quote : (s i b : ℕ) (bs : List ℕ) → b ≡ 39 → on (InText s bs) i b ≡ ([], Quoted s (bs ++ b ∷ []))
on-text_quote s i b bs p = rw (is_quote b p)

pub on-quoted_quote : (s i b : ℕ) (bs : List ℕ) → b ≡ 39 → on (Quoted s bs) i b ≡ ([], InText s (bs ++ b ∷ []))
on-quoted_quote s i b bs p = rw (is_quote b p)

pub on-quoted_end : (s i b : ℕ) (bs : List ℕ) → (b ≡ 39 → ⊥) → on (Quoted s bs) i b ≡ behind (lexeme Text s bs) (begun i b)
on-quoted_end s i b bs p = rw (no_quote b p)

pub on-sign : (s a i b : ℕ) (k : Kind) → Some k ≡ pair_kind a b → on (InSign s a) i b ≡ (lexeme k s (a ∷ b ∷ []) ∷ [], Blank)
on-sign s a i b k p = rw (← p)

pub on-sign_end : (s a i b : ℕ) → None ≡ pair_kind a b → on (InSign s a) i b ≡ behind (lexeme (mark_kind a) s (a ∷ [])) (begun i b)
on-sign_end s a i b p = rw (← p)

-- the same, of a result
pub gives_more_ok : (A E : Type 0) (r : Result A E) (scan : A → Scan) (old mid new : List Lexeme) (l : Lexeme) (s t : Scanned) → s ≡ behind l t → mid ≡ old ++ l ∷ []
    → IfOk r (λ a. Gives mid new (scan a) t) → IfOk r (λ a. Gives old new (scan a) s)
gives_more_ok A E (Ok a) scan old mid new l s t e m h = gives_more old mid new l (scan a) s t e m h
gives_more_ok A E (Err x) scan old mid new l s t e m h = h
