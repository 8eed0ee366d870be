-- The tokens of bytes without a bad one fit their kinds.
use Rattle.std.proofs.Common.{◌≡◌, ℕ, suc, ◌+◌, ◌-◌, ◌<◌, Bool, true, false, not, ◌&&◌, cond, eqb, leb, List, [], ◌∷◌, ◌++◌, length, take, drop, get_or, Option, Some, None, refl, sym, ap, ◌∙◌, subst, arith, append_assoc, append-nil}
use Rattle.std.proofs.lemmas.Bool.Decides.{nat_tests}
use Rattle.std.proofs.lemmas.List.{length-append, take-append-drop}
use Rattle.std.proofs.lemmas.List.Folds.{list_all-append}
use Rattle.std.proofs.lemmas.Str.{IsCharBoundary-after_ascii, IsCharBoundary-before_ascii, IsUtf8-between}
use Rattle.std.proofs.Math.Seq.{take-append_seam, get_or-append_seam, drop-append_seam}
use Rattle.std.proofs.lemmas.Grind.{flat_map-append}
use Rattle.std.specs.Str.{IsUtf8}
use Rattle.std.specs.List.{list_all, flat_map}
use Rattle.std.specs.Char.{is_ascii_digit}
use Rattle.sql_print.specs.tier_base.specs.Names.{begins_with_letter, is_word_byte}
use Rattle.sql_print.specs.row_types.specs.Printing.{doubled_quote, quoted}
use Rattle.sql_print.specs.sql_tokens.specs.declared.kind.Kind.{Kind}
use Rattle.sql_print.specs.sql_tokens.specs.declared.kind.Kind.TheVariants.{AtLeast, AtMost, Bad, CloseParen, Colon, Comma, Decimal, Dot, Equals, GreaterThan, LessThan, Minus, NotEquals, OpenParen, Plus, Semicolon, Star, Text}
use Rattle.sql_print.specs.sql_tokens.specs.Kinds.{is_kind}
use Rattle.sql_print.specs.sql_tokens.specs.Words.{fraction_kind, keywords, named, number_kind, word_kind}
use Rattle.sql_print.specs.sql_tokens.specs.Heads.{is_control}
use Rattle.sql_print.specs.sql_tokens.specs.Lexing.{Lexeme, lexeme, Scan, Scanned, Blank, InWord, AtPoint, InFraction, InText, Quoted, InSign, begun, on, is_point_of, is_blank, is_open_sign, mark_kind, pair_kind, lexed, lexed_from, at_end, signed, behind}
use Rattle.sql_print.specs.sql_grammar.specs.declared.test.Test.TheVariants.{Digits, Whole}
use Rattle.sql_print.specs.sql_grammar.specs.Tests.{passes}
use Rattle.sql_print.specs.sql_grammar.proofs.Lists.{and_left, and_right}
use Rattle.sql_print.specs.sql_words.specs.Words.{spaced}
use Rattle.print_laws.proofs.Fine.{IsFineText, fine_both, fine_text}
use Rattle.print_laws.proofs.Lexed.{decimal_from, digit_printable}
use Rattle.print_laws.proofs.WordKinds.{digits_bytes, named_has, number_is, other_kind, whole_digits}
use Rattle.print_laws.proofs.Lists.{AllGood}
use Rattle.print_laws.proofs.Literals.{IsDigits, IsNumeral, whole_numeral}

-- the bytes of a token fit its kind
pub record Fits (l : Lexeme) : Type 0 where
  pub digits : passes Whole l.kind ≡ true → IsDigits l.text
  pub numeral : passes Digits l.kind ≡ true → IsNumeral l.text
  pub text : is_kind l.kind Text ≡ true → (t : List ℕ) × (l.text ≡ quoted t) × IsFineText (quoted t)
  pub word : begins_with_letter l.text ≡ true → list_all is_word_byte l.text ≡ true

-- neither a number nor a text
abbrev IsOther : Kind → Bool
IsOther k = not (passes Digits k) && not (is_kind k Text)

not_whole : (a b : Bool) → not a && not b ≡ true → a ≡ true → ⊥
not_whole true b h p = absurd (cc)
not_whole false b h p = absurd (cc)

not_text : (a b : Bool) → not a && not b ≡ true → b ≡ true → ⊥
not_text true b h p = absurd (cc)
not_text false true h p = absurd (cc)
not_text false false h p = absurd (cc)

other_fits : (k : Kind) (p : ℕ) (bs : List ℕ) → IsOther k ≡ true → (begins_with_letter bs ≡ true → list_all is_word_byte bs ≡ true) → Fits (lexeme k p bs)
other_fits k p bs h w = record {
  digits = λ e. absurd (not_whole (passes Digits k) (is_kind k Text) h (whole_digits k e));
  numeral = λ e. absurd (not_whole (passes Digits k) (is_kind k Text) h e);
  text = λ e. absurd (not_text (passes Digits k) (is_kind k Text) h e);
  word = w;
}

other_true : (a : Bool) → a ≡ true → a ≡ false → ⊥
other_true true p q = absurd (cc)
other_true false p q = absurd (cc)

-- a word
word_fits : (p : ℕ) (bs : List ℕ) → list_all is_word_byte bs ≡ true → 0 < length bs → Fits (lexeme (word_kind bs) p bs)
word_fits p bs h l = by (list_all is_ascii_digit bs) refl
  where
    by : (b : Bool) → list_all is_ascii_digit bs ≡ b → Fits (lexeme (cond b (number_kind bs) (cond (begins_with_letter bs && leb (length bs) 30) (named keywords bs) Bad)) p bs)
    by true e =
        let d : IsDigits bs = record { digits = e; some = l } in
        record { digits = λ q. d; numeral = λ q. whole_numeral bs d; text = λ q. absurd (other_true (is_kind (number_kind bs) Text) q (other_kind Whole (number_kind bs) Text (number_is bs) refl)); word = λ q. h }
    by false e = other_fits (cond (begins_with_letter bs && leb (length bs) 30) (named keywords bs) Bad) p bs (named_other (begins_with_letter bs && leb (length bs) 30)) (λ q. h)
      where
        named_other : (c : Bool) → IsOther (cond c (named keywords bs) Bad) ≡ true
        named_other true = named_has IsOther keywords bs refl refl
        named_other false = refl

-- a number with a point
numeral_at : (ds : List ℕ) (f : ℕ) (fs : List ℕ) → list_all is_ascii_digit ds ≡ true → 0 < length ds → list_all is_ascii_digit (f ∷ fs) ≡ true → IsNumeral (ds ++ 46 ∷ f ∷ fs)
numeral_at ds f fs h l g = record {
  kind = Decimal;
  digits = refl;
  lexes = record {
    lexes = λ i ws. let (j, e) = decimal_from i ds f fs ws h l g in (j, e ∙ (ap (λ (k : Kind). lexeme k i ((ds ++ 46 ∷ []) ++ f ∷ fs) ∷ lexed_from Blank j (spaced ws)) decimal ∙ ap (λ (w : List ℕ). lexeme Decimal i w ∷ lexed_from Blank j (spaced ws)) (append_assoc ds (46 ∷ []) (f ∷ fs))));
    fine = fine_both ds (46 ∷ f ∷ fs) (digit_printable ds h) (fine_both (46 ∷ []) (f ∷ fs) (fine_text (46 ∷ []) refl) (digit_printable (f ∷ fs) g));
  };
}
  where
    decimal : fraction_kind (f ∷ fs) ≡ Decimal
    decimal = rw g refl

digit_no_letter : (d : ℕ) (ds : List ℕ) → is_ascii_digit d ≡ true → begins_with_letter (d ∷ ds) ≡ true → ⊥
digit_no_letter d ds h l = absurd (grind (arith, nat_tests))

begins_so : (ds rest : List ℕ) → list_all is_ascii_digit ds ≡ true → 0 < length ds → begins_with_letter ((ds ++ 46 ∷ []) ++ rest) ≡ true → ⊥
begins_so [] rest h l b = absurd (omega arith)
begins_so (d ∷ ds) rest h l b = digit_no_letter d ((ds ++ 46 ∷ []) ++ rest) (and_left (is_ascii_digit d) (list_all is_ascii_digit ds) h) b

fraction_fits : (p : ℕ) (ds fs : List ℕ) → list_all is_ascii_digit ds ≡ true → 0 < length ds → 0 < length fs → Fits (lexeme (fraction_kind fs) p ((ds ++ 46 ∷ []) ++ fs))
fraction_fits p ds [] h l m = absurd (omega arith)
fraction_fits p ds (f ∷ fs) h l m = by (list_all is_ascii_digit (f ∷ fs)) refl
  where
    by : (b : Bool) → list_all is_ascii_digit (f ∷ fs) ≡ b → Fits (lexeme (cond b Decimal Bad) p ((ds ++ 46 ∷ []) ++ f ∷ fs))
    by true e = record {
      digits = λ q. absurd (other_true (passes Whole Decimal) q refl);
      numeral = λ q. subst (λ (w : List ℕ). IsNumeral w) (sym (append_assoc ds (46 ∷ []) (f ∷ fs))) (numeral_at ds f fs h l e);
      text = λ q. absurd (other_true (is_kind Decimal Text) q refl);
      word = λ q. absurd (begins_so ds (f ∷ fs) h l q);
    }
    by false e = other_fits Bad p ((ds ++ 46 ∷ []) ++ f ∷ fs) refl (λ q. absurd (begins_so ds (f ∷ fs) h l q))

mark_other : (a b c d e f g h i j k l : Bool) → IsOther (cond a Colon (cond b Semicolon (cond c Comma (cond d Dot (cond e OpenParen (cond f CloseParen (cond g Star (cond h Plus (cond i Minus (cond j Equals (cond k LessThan (cond l GreaterThan Bad)))))))))))) ≡ true
mark_other true b c d e f g h i j k l = refl
mark_other false true c d e f g h i j k l = refl
mark_other false false true d e f g h i j k l = refl
mark_other false false false true e f g h i j k l = refl
mark_other false false false false true f g h i j k l = refl
mark_other false false false false false true g h i j k l = refl
mark_other false false false false false false true h i j k l = refl
mark_other false false false false false false false true i j k l = refl
mark_other false false false false false false false false true j k l = refl
mark_other false false false false false false false false false true k l = refl
mark_other false false false false false false false false false false true l = refl
mark_other false false false false false false false false false false false true = refl
mark_other false false false false false false false false false false false false = refl

letter_word : (b : ℕ) (bs : List ℕ) → begins_with_letter (b ∷ bs) ≡ true → is_word_byte b ≡ true
letter_word b bs h = grind (arith, nat_tests)

one_word : (b : ℕ) → begins_with_letter (b ∷ []) ≡ true → list_all is_word_byte (b ∷ []) ≡ true
one_word b h = rw (letter_word b [] h) refl

mark_fits : (b p : ℕ) → Fits (lexeme (mark_kind b) p (b ∷ []))
mark_fits b p = other_fits (mark_kind b) p (b ∷ []) (mark_other (eqb b 58) (eqb b 59) (eqb b 44) (eqb b 46) (eqb b 40) (eqb b 41) (eqb b 42) (eqb b 43) (eqb b 45) (eqb b 61) (eqb b 60) (eqb b 62)) (one_word b)

-- what stands between two quotes, in bytes without a bad one
between_fine : (a x b : List ℕ) → IsFineText (a ++ ((39 ∷ (x ++ 39 ∷ [])) ++ b)) → IsFineText (39 ∷ (x ++ 39 ∷ []))
between_fine a x b h =
    let m : List ℕ = 39 ∷ (x ++ 39 ∷ []) in
    let line : List ℕ = a ++ (m ++ b) in
    let front : List ℕ = a ++ 39 ∷ x in
    let e : line ≡ front ++ 39 ∷ b = simp append_assoc in
    let i : ℕ = length a in
    let j : ℕ = length front in
    let li : length line ≡ length a + (length m + length b) = length-append a (m ++ b) ∙ ap (λ (n : ℕ). length a + n) (length-append m b) in
    let lj : length front ≡ length a + suc (length x) = length-append a (39 ∷ x) in
    let lm : length m ≡ suc (length x + 1) = ap suc (length-append x (39 ∷ [])) in
    let g1 : get_or line i 0 ≡ 39 = get_or-append_seam a 39 ((x ++ 39 ∷ []) ++ b) 0 in
    let g2 : get_or line j 0 ≡ 39 = ap (λ (xs : List ℕ). get_or xs j 0) e ∙ get_or-append_seam front 39 b 0 in
    let first = IsCharBoundary-before_ascii line i (omega (arith, li, lm)) (omega (arith, g1)) in
    let last = IsCharBoundary-after_ascii line j h.utf8 (omega (arith, li, lj, lm)) (omega (arith, g2)) in
    let u : IsUtf8 (take ((j + 1) - i) (drop i line)) = IsUtf8-between line i (j + 1) h.utf8 (omega (arith, lj)) first last in
    let n : (j + 1) - i ≡ length m = omega (arith, lj, lm) in
    let t : take ((j + 1) - i) (drop i line) ≡ m = rw (n, drop-append_seam a (m ++ b)) (take-append_seam m b) in
    let plain : list_all (λ c. not (is_control c)) a && (list_all (λ c. not (is_control c)) m && list_all (λ c. not (is_control c)) b) ≡ true = rw (list_all-append (λ c. not (is_control c)) a (m ++ b), list_all-append (λ c. not (is_control c)) m b) at h.plain in
    record {
      plain = and_left (list_all (λ c. not (is_control c)) m) (list_all (λ c. not (is_control c)) b) (and_right (list_all (λ c. not (is_control c)) a) (list_all (λ c. not (is_control c)) m && list_all (λ c. not (is_control c)) b) plain);
      utf8 = subst (λ xs. IsUtf8 xs) t u;
    }

-- what is being scanned stands at the end of what was there
abbrev Inv : Scan → List ℕ → Type 0
Inv Blank before = Unit {0}
Inv (InWord s bs) before = (list_all is_word_byte bs ≡ true) × (0 < length bs)
Inv (AtPoint s bs p) before = (list_all is_ascii_digit bs ≡ true) × (0 < length bs)
Inv (InFraction s bs fs) before = (ds : List ℕ) × (bs ≡ ds ++ 46 ∷ []) × (list_all is_ascii_digit ds ≡ true) × (0 < length ds) × (0 < length fs)
Inv (InText s bs) before = (a : List ℕ) × (u : List ℕ) × (before ≡ a ++ bs) × (bs ≡ 39 ∷ flat_map doubled_quote u)
Inv (Quoted s bs) before = (a : List ℕ) × (u : List ℕ) × (before ≡ a ++ bs) × (bs ≡ quoted u)
Inv (InSign s a) before = is_open_sign a ≡ true

abbrev Goes : Scanned → List ℕ → Type 0
Goes x before = AllGood Fits x.0 × Inv x.1 before

is_quote : (b : ℕ) → eqb b 39 ≡ true → b ≡ 39
is_quote b h = grind (arith, nat_tests)

begun_goes : (i b : ℕ) (before : List ℕ) → Goes (begun i b) (before ++ b ∷ [])
begun_goes i b before = by (is_blank b) (is_word_byte b) (eqb b 39) (is_open_sign b) refl refl refl
  where
    by : (p q r s : Bool) → is_word_byte b ≡ q → eqb b 39 ≡ r → is_open_sign b ≡ s
        → Goes (cond p ([], Blank) (cond q ([], InWord i (b ∷ [])) (cond r ([], InText i (b ∷ [])) (cond s ([], InSign i b) (lexeme (mark_kind b) i (b ∷ []) ∷ [], Blank))))) (before ++ b ∷ [])
    by true q r s f g h = (tt, tt)
    by false true r s f g h = (tt, (rw f refl, omega arith))
    by false false true s f g h = (tt, (before, [], refl, ap (λ (c : ℕ). c ∷ []) (is_quote b g)))
    by false false false true f g h = (tt, h)
    by false false false false f g h = ((mark_fits b i, tt), tt)

no_letter : (bs cs : List ℕ) → bs ≡ 39 ∷ cs → begins_with_letter bs ≡ true → list_all is_word_byte bs ≡ true
no_letter bs cs e h = let f : begins_with_letter (39 ∷ cs) ≡ true = subst (λ xs. begins_with_letter xs ≡ true) e h in absurd (other_true (begins_with_letter (39 ∷ cs)) f refl)

quoted_fits : (p : ℕ) (a u bs rest : List ℕ) → bs ≡ quoted u → IsFineText (a ++ (quoted u ++ rest)) → Fits (lexeme Text p bs)
quoted_fits p a u bs rest e h = record {
  digits = λ q. absurd (other_true (passes Whole Text) q refl);
  numeral = λ q. absurd (other_true (passes Digits Text) q refl);
  text = λ q. (u, e, between_fine a (flat_map doubled_quote u) rest h);
  word = no_letter bs (flat_map doubled_quote u ++ 39 ∷ []) e;
}

more_text : (u : List ℕ) (b : ℕ) → flat_map doubled_quote (u ++ b ∷ []) ≡ flat_map doubled_quote u ++ doubled_quote b
more_text u b = flat_map-append doubled_quote u (b ∷ []) ∙ ap (λ (x : List ℕ). flat_map doubled_quote u ++ x) (append-nil (doubled_quote b))

sign_no_letter : (a : ℕ) (bs : List ℕ) → is_open_sign a ≡ true → begins_with_letter (a ∷ bs) ≡ true → ⊥
sign_no_letter a bs h l = absurd (grind (arith, nat_tests))

pair_other : (c d e f : Bool) (k : Kind) → cond c (cond d (Some AtMost) (cond e (Some AtLeast) (Some NotEquals))) (cond f (cond d (Some NotEquals) None) None) ≡ Some k → IsOther k ≡ true
pair_other true true e f k h = let s : AtMost ≡ k = cc in rw (← s) refl
pair_other true false true f k h = let s : AtLeast ≡ k = cc in rw (← s) refl
pair_other true false false f k h = let s : NotEquals ≡ k = cc in rw (← s) refl
pair_other false true e true k h = let s : NotEquals ≡ k = cc in rw (← s) refl
pair_other false false e true k h = absurd (cc)
pair_other false d e false k h = absurd (cc)

sign_goes : (s a i b : ℕ) (before : List ℕ) → is_open_sign a ≡ true → (o : Option Kind) → pair_kind a b ≡ o → Goes (signed s a i b o) (before ++ b ∷ [])
sign_goes s a i b before h (Some k) e = ((other_fits k s (a ∷ b ∷ []) (pair_other (eqb b 61) (eqb a 60) (eqb a 62) (eqb b 62) k e) (λ q. absurd (sign_no_letter a (b ∷ []) h q)), tt), tt)
sign_goes s a i b before h None e = let g = begun_goes i b before in ((mark_fits a s, g.0), g.1)

on_goes : (st : Scan) (i b : ℕ) (before rest : List ℕ) → IsFineText (before ++ b ∷ rest) → Inv st before → Goes (on st i b) (before ++ b ∷ [])
on_goes Blank i b before rest h v = begun_goes i b before
on_goes (InWord s bs) i b before rest h (w, l) = by (is_word_byte b) (is_point_of bs b) refl refl
  where
    by : (q r : Bool) → is_word_byte b ≡ q → is_point_of bs b ≡ r → Goes (cond q ([], InWord s (bs ++ b ∷ [])) (cond r ([], AtPoint s bs i) (behind (lexeme (word_kind bs) s bs) (begun i b)))) (before ++ b ∷ [])
    by true r f t = (tt, (rw (list_all-append is_word_byte bs (b ∷ []), w, f) refl, (let n = length-append bs (b ∷ []) in omega (arith, n))))
    by false true f t = (tt, (and_right (eqb b 46) (list_all is_ascii_digit bs) t, l))
    by false false f t = let g = begun_goes i b before in ((word_fits s bs w l, g.0), g.1)
on_goes (AtPoint s bs p) i b before rest h (w, l) = by (is_ascii_digit b)
  where
    by : (q : Bool) → Goes (cond q ([], InFraction s (bs ++ 46 ∷ []) (b ∷ [])) (behind (lexeme (word_kind bs) s bs) (behind (lexeme Dot p (46 ∷ [])) (begun i b)))) (before ++ b ∷ [])
    by true = (tt, (bs, refl, w, l, omega arith))
    by false = let g = begun_goes i b before in ((word_fits s bs (digits_bytes bs w) l, (mark_fits 46 p, g.0)), g.1)
on_goes (InFraction s bs fs) i b before rest h (ds, e, w, l, m) = by (is_word_byte b)
  where
    by : (q : Bool) → Goes (cond q ([], InFraction s bs (fs ++ b ∷ [])) (behind (lexeme (fraction_kind fs) s (bs ++ fs)) (begun i b))) (before ++ b ∷ [])
    by true = (tt, (ds, e, w, l, (let n = length-append fs (b ∷ []) in omega (arith, n))))
    by false = let g = begun_goes i b before in ((rw e (fraction_fits s ds fs w l m), g.0), g.1)
on_goes (InText s bs) i b before rest h (a, u, e, f) = by (eqb b 39) refl
  where
    whole : before ++ b ∷ [] ≡ a ++ (bs ++ b ∷ [])
    whole = ap (λ (x : List ℕ). x ++ b ∷ []) e ∙ append_assoc a bs (b ∷ [])

    by : (q : Bool) → eqb b 39 ≡ q → Goes (cond q ([], Quoted s (bs ++ b ∷ [])) ([], InText s (bs ++ b ∷ []))) (before ++ b ∷ [])
    by true g = (tt, (a, u, whole, (let c : b ≡ 39 = is_quote b g in rw (f, c) refl)))
    by false g =
        let d : doubled_quote b ≡ b ∷ [] = rw g refl in
        let t : bs ++ b ∷ [] ≡ 39 ∷ flat_map doubled_quote (u ++ b ∷ []) = rw (f, more_text u b, d) refl in
        (tt, (a, u ++ b ∷ [], whole, t))
on_goes (Quoted s bs) i b before rest h (a, u, e, f) = by (eqb b 39) refl
  where
    by : (q : Bool) → eqb b 39 ≡ q → Goes (cond q ([], InText s (bs ++ b ∷ [])) (behind (lexeme Text s bs) (begun i b))) (before ++ b ∷ [])
    by true g =
        let c : b ≡ 39 = is_quote b g in
        let whole : before ++ b ∷ [] ≡ a ++ (bs ++ b ∷ []) = ap (λ (x : List ℕ). x ++ b ∷ []) e ∙ append_assoc a bs (b ∷ []) in
        let t : bs ++ b ∷ [] ≡ 39 ∷ flat_map doubled_quote (u ++ 39 ∷ []) = rw (f, c, more_text u 39) (ap (λ (x : List ℕ). 39 ∷ x) (append_assoc (flat_map doubled_quote u) (39 ∷ []) (39 ∷ []))) in
        (tt, (a, u ++ 39 ∷ [], whole, t))
    by false g =
        let x = begun_goes i b before in
        let t : before ++ b ∷ rest ≡ a ++ (quoted u ++ b ∷ rest) = rw (e, f) (append_assoc a (quoted u) (b ∷ rest)) in
        ((quoted_fits s a u bs (b ∷ rest) f (subst (λ xs. IsFineText xs) t h), x.0), x.1)
on_goes (InSign s a) i b before rest h v = sign_goes s a i b before v (pair_kind a b) refl

end_fits : (st : Scan) (before : List ℕ) → IsFineText before → Inv st before → AllGood Fits (at_end st)
end_fits Blank before h v = tt
end_fits (InWord s bs) before h (w, l) = (word_fits s bs w l, tt)
end_fits (AtPoint s bs p) before h (w, l) = (word_fits s bs (digits_bytes bs w) l, (mark_fits 46 p, tt))
end_fits (InFraction s bs fs) before h (ds, e, w, l, m) = (rw e (fraction_fits s ds fs w l m), tt)
end_fits (InText s bs) before h (a, u, e, f) = (other_fits Bad s bs refl (no_letter bs (flat_map doubled_quote u) f), tt)
end_fits (Quoted s bs) before h (a, u, e, f) =
    let t : before ≡ a ++ (quoted u ++ []) = rw (e, f) (ap (λ (x : List ℕ). a ++ x) (sym (append-nil (quoted u)))) in
    (quoted_fits s a u bs [] f (subst (λ xs. IsFineText xs) t h), tt)
end_fits (InSign s a) before h v = (mark_fits a s, tt)

all_append : (xs ys : List Lexeme) → AllGood Fits xs → AllGood Fits ys → AllGood Fits (xs ++ ys)
all_append [] ys h t = t
all_append (x ∷ xs) ys (h, r) t = (h, all_append xs ys r t)

fits_from : (st : Scan) (i : ℕ) (bs before : List ℕ) → IsFineText (before ++ bs) → Inv st before → AllGood Fits (lexed_from st i bs)
fits_from st i [] before h v = end_fits st before (subst (λ xs. IsFineText xs) (append-nil before) h) v
fits_from st i (b ∷ bs) before h v =
    let g = on_goes st i b before bs h v in
    all_append (on st i b).0 (lexed_from (on st i b).1 (suc i) bs) g.0 (fits_from (on st i b).1 (suc i) bs (before ++ b ∷ []) (subst (λ xs. IsFineText xs) (sym (append_assoc before (b ∷ []) bs)) h) g.1)

-- the tokens of bytes without a bad one, from this place on
pub all_fit : (from : ℕ) (bytes : List ℕ) → IsFineText bytes → AllGood Fits (lexed from bytes)
all_fit from bytes h = fits_from Blank from (drop from bytes) (take from bytes) (subst (λ xs. IsFineText xs) (sym (take-append-drop from bytes)) h) tt
