-- A number in its range is taken.
use Rattle.std.proofs.Common.{◌≡◌, ◌∙◌, ◌<◌, ℕ, ◌^◌, List, [], ◌∷◌, codes, true, false, Some, None, refl, sym, ap, arith, subst, pos, nat_eq, w64}
use Rattle.std.proofs.lemmas.Bool.{ne_eqb}
use Rattle.std.proofs.lemmas.Int.{ints}
use Rattle.std.proofs.Math.Facts.{to_z_pos}
use borrow.Author.Gap.{read_sfits}
use mir.Val.{SFits as FitsSigned}
use Rattle.std.specs.Borrow.{Bor}
use Rattle.std.specs.Char.{digit_value}
use Rattle.std.specs.Option.{option_and_then}
use Rattle.std.specs.Str.{bytes_eq}
use Rattle.std.specs.Str.Parse.{digits_value, signed_digits_value, without_leading_plus, without_leading_sign}
use Rattle.clap.specs.Words.{IsSignedIn, Row, Text, first_of as first_text, one_of, subcommand_of}
use Rattle.clap.specs.Lexer.{strip_byte}
use Rattle.clap.specs.ValueTests.{accepts}
use Rattle.clap.specs.declared.builder.value_parser.ValueParser.TheVariants as parse
use Rattle.clap.proofs.OnLiterals.{clap_on_literals}
use Rattle.clap.proofs.ValueTestLemmas.{Accepts-accepts}
use Rattle.command_line.specs.declared.command.Command.TheVariants.{Import, Make, Bench}
use Rattle.command_line.specs.Words.{Asks, IsNumberText, IsUnhyphened, program}

-- what `clap` sees of such a text
pub record IsPlain (text : Text) (n : ℕ) : Type 0 where
  pub no_hyphen : strip_byte 45 text ≡ None
  pub no_dashes : bytes_eq text (45 ∷ 45 ∷ []) ≡ false
  pub taken : accepts false (parse.Signed (pos 0) (pos 1000000)) text ≡ true
  pub whole : without_leading_plus text ≡ text

not_byte : (c n : ℕ) → digit_value c < 10 → (digit_value n < 10 → ⊥) → nat_eq c n ≡ false
not_byte c n lt other = ne_eqb c n (λ is. other (subst (λ (x : ℕ). digit_value x < 10) is lt))

no_minus : digit_value 45 < 10 → ⊥
no_minus lt = absurd (omega arith)

no_plus : digit_value 43 < 10 → ⊥
no_plus lt = absurd (omega arith)

unsigned : (c : ℕ) (cs : List ℕ) → digit_value c < 10 → without_leading_sign (c ∷ cs) ≡ c ∷ cs
unsigned c cs lt = rw (not_byte c 45 lt no_minus, not_byte c 43 lt no_plus) refl

value_of : (c : ℕ) (cs : List ℕ) → digit_value c < 10 → signed_digits_value 10 (c ∷ cs) ≡ pos (digits_value 10 (c ∷ cs))
value_of c cs lt = rw (not_byte c 45 lt no_minus, not_byte c 43 lt no_plus) refl

in_range : (c n : ℕ) (cs : List ℕ) → IsNumberText (c ∷ cs) n → IsSignedIn (pos 0) (pos 1000000) (c ∷ cs)
in_range c n cs is =
    let lt = is.digits.1.0 in
    let small : n < 2 ^ 63 = omega (arith, is.within) in
    rw (value_of c cs lt, unsigned c cs lt, is.value) (is.digits, subst (FitsSigned w64) (to_z_pos w64 small) (read_sfits w64 n), omega (arith, ints), omega (arith, ints, is.within))

pub plain : (text : Text) (n : ℕ) → IsNumberText text n → IsPlain text n
plain [] n is = absurd (omega (arith, is.digits.0))
plain (c ∷ cs) n is =
    let lt = is.digits.1.0 in
    record {
      no_hyphen = rw (not_byte c 45 lt no_minus) refl;
      no_dashes = rw (not_byte c 45 lt no_minus) refl;
      taken = Accepts-accepts false (parse.Signed (pos 0) (pos 1000000)) (c ∷ cs) (in_range c n cs is);
      whole = rw (not_byte c 43 lt no_plus) refl;
    }

reads : (text t : Text) (n : ℕ) → IsNumberText text n → Some text ≡ Some t → n ≡ digits_value 10 (without_leading_plus t)
reads text t n is same = let e : text ≡ t = cc in sym is.value ∙ ap (digits_value 10) (sym (plain text n is).whole ∙ ap without_leading_plus e)

pub make_form : (name text : Text) (n : ℕ) → IsNumberText text n → Asks (name ∷ codes "make" ∷ text ∷ []) (Make n)
unfolding clap_on_literals
make_form name text n is =
    let p = plain text n is in
    let a = p.no_hyphen in
    let b = p.no_dashes in
    let d = p.taken in
    (simp (a, b, d) refl, refl, λ t told numeral fits. reads text t n is (sym (make_text name text a b) ∙ told))
  where
    make_text : (name text : Text) → strip_byte 45 text ≡ None → bytes_eq text (45 ∷ 45 ∷ []) ≡ false
        → option_and_then (λ (named : Text × List Row). one_of (codes "N") named.1) (subcommand_of program (name ∷ codes "make" ∷ text ∷ [])) ≡ Some text
    make_text name text a b = simp (a, b) refl

pub bench_form : (name text : Text) (n : ℕ) → IsNumberText text n → Asks (name ∷ codes "bench" ∷ text ∷ []) (Bench n)
unfolding clap_on_literals
bench_form name text n is =
    let p = plain text n is in
    let a = p.no_hyphen in
    let b = p.no_dashes in
    let d = p.taken in
    (simp (a, b, d) refl, refl, λ t told numeral fits. reads text t n is (sym (bench_text name text a b) ∙ told))
  where
    bench_text : (name text : Text) → strip_byte 45 text ≡ None → bytes_eq text (45 ∷ 45 ∷ []) ≡ false
        → option_and_then (λ (named : Text × List Row). one_of (codes "N") named.1) (subcommand_of program (name ∷ codes "bench" ∷ text ∷ [])) ≡ Some text
    bench_text name text a b = simp (a, b) refl

no_hyphen : (text : Text) → IsUnhyphened text → (strip_byte 45 text ≡ None) × (bytes_eq text (45 ∷ 45 ∷ []) ≡ false)
no_hyphen [] is = (refl, refl)
no_hyphen (c ∷ cs) is = let other = ne_eqb c 45 is in (rw other refl, rw other refl)

pub import_form : (name : Text) (table : Bor Text) → IsUnhyphened table.now → Asks (name ∷ codes "import" ∷ table.now ∷ []) (Import table)
unfolding clap_on_literals
import_form name table is =
    let (a, b) = no_hyphen table.now is in
    (simp (a, b) refl, refl, λ t told. let same : Some table.now ≡ Some t = sym (table_text name table.now a b) ∙ told in cc)
  where
    table_text : (name text : Text) → strip_byte 45 text ≡ None → bytes_eq text (45 ∷ 45 ∷ []) ≡ false
        → option_and_then (λ (named : Text × List Row). first_text (codes "TABLE") named.1) (subcommand_of program (name ∷ codes "import" ∷ text ∷ [])) ≡ Some text
    table_text name text a b = simp (a, b) refl
