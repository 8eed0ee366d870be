-- Words with spaces between, and their tokens.
use Rattle.std.proofs.Common.{◌≡◌, ℕ, suc, ◌<◌, Bool, true, false, cond, ◌&&◌, eqb, ltb, List, [], ◌∷◌, ◌++◌, length, refl, sym, ap, ◌∙◌, subst, arith, append_assoc, append-nil}
use Rattle.std.proofs.lemmas.Bool.Decides.{nat_tests}
use Rattle.std.specs.List.{list_all, flat_map}
use Rattle.std.specs.Char.{is_ascii_digit}
use Rattle.sql_print.specs.tier_base.specs.Names.{is_word_byte}
use Rattle.sql_print.specs.row_types.specs.Printing.{doubled_quote, quoted}
use Rattle.sql_print.specs.sql_tokens.specs.declared.kind.Kind.{Kind}
use Rattle.sql_print.specs.sql_tokens.specs.declared.kind.Kind.TheVariants.{Text}
use Rattle.sql_print.specs.sql_tokens.specs.Words.{word_kind, fraction_kind}
use Rattle.sql_print.specs.sql_tokens.specs.Lexing.{Lexeme, lexeme, Scan, Scanned, Blank, InWord, AtPoint, InFraction, InText, Quoted, is_blank, on, lexed_from}
use Rattle.sql_print.specs.sql_tokens.proofs.Bytes.{begun-word, on-word, on-text, on-point_digit, on-fraction}
use Rattle.sql_print.specs.sql_grammar.proofs.Lists.{and_left, and_right}
use Rattle.sql_print.specs.sql_words.specs.Words.{Word, spaced}
use Rattle.print_laws.proofs.Fine.{IsFineText, fine_word}
use Rattle.print_laws.proofs.WordKinds.{digits_bytes}

-- the tokens of words, each with a space in front, the first of which stands here
unfoldable pub tokens : ℕ → List Word → List Lexeme
tokens i ws = lexed_from Blank i (spaced ws)

-- the word is one token of this kind, whatever words stand behind it
pub record Lexes (k : Kind) (w : Word) : Type 0 where
  pub lexes : (i : ℕ) (ws : List Word) → (j : ℕ) × (lexed_from Blank i (w ++ spaced ws) ≡ lexeme k i w ∷ lexed_from Blank j (spaced ws))
  pub fine : IsFineText w

-- the tokens, the first word being one of them
pub begun_by : (k : Kind) (w : Word) → Lexes k w → (i : ℕ) (ws : List Word) → (j : ℕ) × (tokens i (w ∷ ws) ≡ lexeme k (suc i) w ∷ tokens j ws)
unfolding tokens
begun_by k w h i ws = h.lexes (suc i) ws

-- what a byte leaves
step_is : (s : Scan) (i b : ℕ) (bs : List ℕ) (x : Scanned) → on s i b ≡ x → lexed_from s i (b ∷ bs) ≡ x.0 ++ lexed_from x.1 (suc i) bs
step_is s i b bs x e = ap (λ (y : Scanned). y.0 ++ lexed_from y.1 (suc i) bs) e

word_ends : (s i : ℕ) (bs : List ℕ) (ws : List Word) → lexed_from (InWord s bs) i (spaced ws) ≡ lexeme (word_kind bs) s bs ∷ lexed_from Blank i (spaced ws)
word_ends s i bs [] = refl
word_ends s i bs (w ∷ ws) = refl

text_ends : (s i : ℕ) (bs : List ℕ) (ws : List Word) → lexed_from (Quoted s bs) i (spaced ws) ≡ lexeme Text s bs ∷ lexed_from Blank i (spaced ws)
text_ends s i bs [] = refl
text_ends s i bs (w ∷ ws) = refl

fraction_ends : (s i : ℕ) (bs fs : List ℕ) (ws : List Word) → lexed_from (InFraction s bs fs) i (spaced ws) ≡ lexeme (fraction_kind fs) s (bs ++ fs) ∷ lexed_from Blank i (spaced ws)
fraction_ends s i bs fs [] = refl
fraction_ends s i bs fs (w ∷ ws) = refl

-- the bytes of a word are scanned
scan_word : (s i : ℕ) (bs cs rest : List ℕ) → list_all is_word_byte cs ≡ true → (j : ℕ) × (lexed_from (InWord s bs) i (cs ++ rest) ≡ lexed_from (InWord s (bs ++ cs)) j rest)
scan_word s i bs [] rest h = (i, ap (λ (x : List ℕ). lexed_from (InWord s x) i rest) (sym (append-nil bs)))
scan_word s i bs (c ∷ cs) rest h =
    let p : is_word_byte c ≡ true = and_left (is_word_byte c) (list_all is_word_byte cs) h in
    let q = scan_word s (suc i) (bs ++ c ∷ []) cs rest (and_right (is_word_byte c) (list_all is_word_byte cs) h) in
    let e : lexed_from (InWord s bs) i ((c ∷ cs) ++ rest) ≡ lexed_from (InWord s (bs ++ c ∷ [])) (suc i) (cs ++ rest) = step_is (InWord s bs) i c (cs ++ rest) ([], InWord s (bs ++ c ∷ [])) (on-word s i c bs (sym p)) in
    let a : (bs ++ c ∷ []) ++ cs ≡ bs ++ c ∷ cs = append_assoc bs (c ∷ []) cs in
    (q.0, e ∙ (q.1 ∙ ap (λ (x : List ℕ). lexed_from (InWord s x) q.0 rest) a))

no_blank : (b : ℕ) → is_word_byte b ≡ true → false ≡ is_blank b
no_blank b h = grind (arith, nat_tests)

-- the bytes of a word are scanned, from its first one on
begin_word : (i : ℕ) (w rest : List ℕ) → list_all is_word_byte w ≡ true → 0 < length w → (j : ℕ) × (lexed_from Blank i (w ++ rest) ≡ lexed_from (InWord i w) j rest)
begin_word i [] rest h l = absurd (omega arith)
begin_word i (b ∷ bs) rest h l =
    let p : is_word_byte b ≡ true = and_left (is_word_byte b) (list_all is_word_byte bs) h in
    let q = scan_word i (suc i) (b ∷ []) bs rest (and_right (is_word_byte b) (list_all is_word_byte bs) h) in
    (q.0, step_is Blank i b (bs ++ rest) ([], InWord i (b ∷ [])) (begun-word i b (no_blank b p) (sym p)) ∙ q.1)

-- letters, digits, `_`, `$` and `#`
pub lexes_word : (w : Word) → list_all is_word_byte w ≡ true → 0 < length w → Lexes (word_kind w) w
lexes_word w h l = record {
  lexes = λ i ws. let (j, e) = begin_word i w (spaced ws) h l in (j, e ∙ word_ends i j w ws);
  fine = fine_word w h;
}

-- the digits behind a point
scan_fraction : (s i : ℕ) (bs fs cs : List ℕ) (ws : List Word) → list_all is_word_byte cs ≡ true
    → (j : ℕ) × (lexed_from (InFraction s bs fs) i (cs ++ spaced ws) ≡ lexeme (fraction_kind (fs ++ cs)) s (bs ++ (fs ++ cs)) ∷ lexed_from Blank j (spaced ws))
scan_fraction s i bs fs [] ws h = (i, fraction_ends s i bs fs ws ∙ ap (λ (x : List ℕ). lexeme (fraction_kind x) s (bs ++ x) ∷ lexed_from Blank i (spaced ws)) (sym (append-nil fs)))
scan_fraction s i bs fs (c ∷ cs) ws h =
    let p : is_word_byte c ≡ true = and_left (is_word_byte c) (list_all is_word_byte cs) h in
    let q = scan_fraction s (suc i) bs (fs ++ c ∷ []) cs ws (and_right (is_word_byte c) (list_all is_word_byte cs) h) in
    let e : lexed_from (InFraction s bs fs) i ((c ∷ cs) ++ spaced ws) ≡ lexed_from (InFraction s bs (fs ++ c ∷ [])) (suc i) (cs ++ spaced ws) = step_is (InFraction s bs fs) i c (cs ++ spaced ws) ([], InFraction s bs (fs ++ c ∷ [])) (on-fraction s i c bs fs (sym p)) in
    let a : (fs ++ c ∷ []) ++ cs ≡ fs ++ c ∷ cs = append_assoc fs (c ∷ []) cs in
    (q.0, e ∙ (q.1 ∙ ap (λ (x : List ℕ). lexeme (fraction_kind x) s (bs ++ x) ∷ lexed_from Blank q.0 (spaced ws)) a))

point_left : (b : Bool) (x y : Scanned) → b ≡ true → cond b x y ≡ x
point_left true x y h = refl
point_left false x y h = absurd (cc)

-- digits, a point and digits
pub decimal_from : (i : ℕ) (ds : List ℕ) (f : ℕ) (fs : List ℕ) (ws : List Word) → list_all is_ascii_digit ds ≡ true → 0 < length ds → list_all is_ascii_digit (f ∷ fs) ≡ true
    → (j : ℕ) × (lexed_from Blank i ((ds ++ 46 ∷ f ∷ fs) ++ spaced ws) ≡ lexeme (fraction_kind (f ∷ fs)) i ((ds ++ 46 ∷ []) ++ f ∷ fs) ∷ lexed_from Blank j (spaced ws))
decimal_from i ds f fs ws h l g =
    let rest : List ℕ = f ∷ (fs ++ spaced ws) in
    let (j, e) = begin_word i ds (46 ∷ rest) (digits_bytes ds h) l in
    let point : on (InWord i ds) j 46 ≡ ([], AtPoint i ds j) = point_left (list_all is_ascii_digit ds) ([], AtPoint i ds j) _ h in
    let a : lexed_from (InWord i ds) j (46 ∷ rest) ≡ lexed_from (AtPoint i ds j) (suc j) rest = step_is (InWord i ds) j 46 rest ([], AtPoint i ds j) point in
    let d : is_ascii_digit f ≡ true = and_left (is_ascii_digit f) (list_all is_ascii_digit fs) g in
    let b : lexed_from (AtPoint i ds j) (suc j) rest ≡ lexed_from (InFraction i (ds ++ 46 ∷ []) (f ∷ [])) (suc (suc j)) (fs ++ spaced ws) = step_is (AtPoint i ds j) (suc j) f (fs ++ spaced ws) ([], InFraction i (ds ++ 46 ∷ []) (f ∷ [])) (on-point_digit i (suc j) f j ds (sym d)) in
    let (m, c) = scan_fraction i (suc (suc j)) (ds ++ 46 ∷ []) (f ∷ []) fs ws (digits_bytes fs (and_right (is_ascii_digit f) (list_all is_ascii_digit fs) g)) in
    let s : (ds ++ 46 ∷ f ∷ fs) ++ spaced ws ≡ ds ++ 46 ∷ rest = append_assoc ds (46 ∷ f ∷ fs) (spaced ws) in
    (m, ap (λ (x : List ℕ). lexed_from Blank i x) s ∙ (e ∙ (a ∙ (b ∙ c))))

pub digit_printable : (ds : List ℕ) → list_all is_ascii_digit ds ≡ true → IsFineText ds
digit_printable ds h = fine_word ds (digits_bytes ds h)

no_quote : (b : ℕ) → eqb b 39 ≡ false → b ≡ 39 → ⊥
no_quote b h e = absurd (grind (arith, nat_tests))

in_text : (s i : ℕ) (bs t : List ℕ) (ws : List Word)
    → (j : ℕ) × (lexed_from (InText s bs) i ((flat_map doubled_quote t ++ 39 ∷ []) ++ spaced ws) ≡ lexeme Text s (bs ++ (flat_map doubled_quote t ++ 39 ∷ [])) ∷ lexed_from Blank j (spaced ws))
in_text s i bs [] ws = (suc i, text_ends s (suc i) (bs ++ 39 ∷ []) ws)
in_text s i bs (b ∷ t) ws =
    by (eqb b 39) refl (in_text s (suc (suc i)) ((bs ++ 39 ∷ []) ++ 39 ∷ []) t ws) (in_text s (suc i) (bs ++ b ∷ []) t ws)
  where
    rest : List ℕ
    rest = flat_map doubled_quote t ++ 39 ∷ []

    by : (c : Bool) → eqb b 39 ≡ c
        → (j : ℕ) × (lexed_from (InText s ((bs ++ 39 ∷ []) ++ 39 ∷ [])) (suc (suc i)) (rest ++ spaced ws) ≡ lexeme Text s (((bs ++ 39 ∷ []) ++ 39 ∷ []) ++ rest) ∷ lexed_from Blank j (spaced ws))
        → (j : ℕ) × (lexed_from (InText s (bs ++ b ∷ [])) (suc i) (rest ++ spaced ws) ≡ lexeme Text s ((bs ++ b ∷ []) ++ rest) ∷ lexed_from Blank j (spaced ws))
        → (j : ℕ) × (lexed_from (InText s bs) i (((cond c (39 ∷ 39 ∷ []) (b ∷ []) ++ flat_map doubled_quote t) ++ 39 ∷ []) ++ spaced ws) ≡ lexeme Text s (bs ++ ((cond c (39 ∷ 39 ∷ []) (b ∷ []) ++ flat_map doubled_quote t) ++ 39 ∷ [])) ∷ lexed_from Blank j (spaced ws))
    by true h (j, e) f =
        let a : ((bs ++ 39 ∷ []) ++ 39 ∷ []) ++ rest ≡ bs ++ 39 ∷ 39 ∷ rest = simp append_assoc in
        (j, e ∙ ap (λ (x : List ℕ). lexeme Text s x ∷ lexed_from Blank j (spaced ws)) a)
    by false h f (j, e) =
        let a : (bs ++ b ∷ []) ++ rest ≡ bs ++ b ∷ rest = append_assoc bs (b ∷ []) rest in
        (j, step_is (InText s bs) i b (rest ++ spaced ws) ([], InText s (bs ++ b ∷ [])) (on-text s i b bs (no_quote b h)) ∙ (e ∙ ap (λ (x : List ℕ). lexeme Text s x ∷ lexed_from Blank j (spaced ws)) a))

-- a text between quotes
pub lexes_text : (t : List ℕ) → IsFineText (quoted t) → Lexes Text (quoted t)
lexes_text t h = record { lexes = λ i ws. in_text i (suc i) (39 ∷ []) t ws; fine = h }

-- a keyword
pub keyword : (k : Kind) (w : Word) → list_all is_word_byte w && ltb 0 (length w) ≡ true → word_kind w ≡ k → Lexes k w
keyword k w h e = subst (λ j. Lexes j w) e (lexes_word w (and_left (list_all is_word_byte w) (ltb 0 (length w)) h) (grind (arith, nat_tests, and_right (list_all is_word_byte w) (ltb 0 (length w)) h)))
