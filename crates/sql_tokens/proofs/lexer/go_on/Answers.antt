use Rattle.std.proofs.Common.{◌≡◌, ◌≤◌, refl, ap, ◌∙◌, ◌+◌, ◌++◌, ◌∷◌, [], slice_index, slice_range}
use Rattle.sql_tokens.specs.States.{scan_of}
use Rattle.sql_tokens.specs.Lexing.{lexeme, lexemes_of, begun, behind, InWord, AtPoint, InFraction, InText, Quoted}
use Rattle.sql_tokens.proofs.Ranges.{range_more, range_first, range_one, range_point, range_split}
use Rattle.sql_tokens.proofs.Bytes.{gives_none, gives_more_ok, on-sign_end, on-word, on-point_digit, on-point_end, on-fraction, on-fraction_end, on-text, on-text_quote, on-quoted_quote}
use Rattle.sql_tokens.proofs.lexer.go_on.Goals as goal

pub returns-then-is_name_byte-clause-scan : goal.returns-then-is_name_byte-clause-scan
returns-then-is_name_byte-clause-scan c =
    rw c.in-InWord.is (gives_none _ _ _ _ (on-word _ _ _ _ c.if-is_name_byte.ensures) (ap (λ bs. InWord c.in-InWord.start bs) (range_more c.args.line.now c.in-InWord.start c.args.i (rw c.in-InWord.is at c.requires.began) c.requires.within)))

pub returns-then-line-i-eq39-clause-scan : goal.returns-then-line-i-eq39-clause-scan
returns-then-line-i-eq39-clause-scan c =
    rw c.in-InText.is (gives_none _ _ _ _ (on-text_quote _ c.args.i _ _ c.if-line-i-eq39.true) (ap (λ bs. Quoted c.in-InText.start bs) (range_more c.args.line.now c.in-InText.start c.args.i (rw c.in-InText.is at c.requires.began) c.requires.within)))

pub returns-then-line-i-eq39-2-clause-scan : goal.returns-then-line-i-eq39-2-clause-scan
returns-then-line-i-eq39-2-clause-scan c =
    rw c.in-Quoted.is (gives_none _ _ _ _ (on-quoted_quote _ _ _ _ c.if-line-i-eq39-2.true) (ap (λ bs. InText c.in-Quoted.start bs) (range_more c.args.line.now c.in-Quoted.start c.args.i (rw c.in-Quoted.is at c.requires.began) c.requires.within)))

pub returns-else-line-i-eq39-clause-scan : goal.returns-else-line-i-eq39-clause-scan
returns-else-line-i-eq39-clause-scan c =
    rw c.in-InText.is (gives_none _ _ _ _ (on-text _ c.args.i _ _ c.if-line-i-eq39.false) (ap (λ bs. InText c.in-InText.start bs) (range_more c.args.line.now c.in-InText.start c.args.i (rw c.in-InText.is at c.requires.began) c.requires.within)))

pub returns-in_ok-write-in-None-clause-scan : goal.returns-in_ok-write-in-None-clause-scan
returns-in_ok-write-in-None-clause-scan c =
    rw c.in-InSign.is (gives_more_ok _ _ c.begin-in-None.result (λ s. scan_of c.args.line.now (c.args.i + 1) s) _ (lexemes_of c.args.line.now c.write-in-None.new.tokens.items) _ _ _ _ (on-sign_end c.in-InSign.start (slice_index c.args.line.now c.in-InSign.start) c.args.i (slice_index c.args.line.now c.args.i) c.in-None.ensures)
    (rw (c.mark_kind.ensures, range_first c.args.line.now c.in-InSign.start c.args.i (rw c.in-InSign.is at c.requires.began) c.requires.within) at c.in_ok-write-in-None.ensures)
    c.begin-in-None.ensures.scan)

pub returns-then-is_digit-clause-scan : goal.returns-then-is_digit-clause-scan
returns-then-is_digit-clause-scan c =
    let w : (c.in-AtPoint.start ≤ c.in-AtPoint.point) × (c.in-AtPoint.point + 1 ≡ c.args.i) × (slice_index c.args.line.now c.in-AtPoint.point ≡ 46) = rw c.in-AtPoint.is at c.requires.began in
    let a = range_point c.args.line.now c.in-AtPoint.start c.in-AtPoint.point c.args.i w.0 w.1 w.2 c.requires.within in
    rw c.in-AtPoint.is (gives_none _ _ _ _ (on-point_digit c.in-AtPoint.start c.args.i _ c.in-AtPoint.point _ c.if-is_digit.ensures)
    (ap (λ bs. InFraction c.in-AtPoint.start bs (slice_range c.args.line.now c.args.i (c.args.i + 1))) a ∙ ap (λ fs. InFraction c.in-AtPoint.start (slice_range c.args.line.now c.in-AtPoint.start c.in-AtPoint.point ++ 46 ∷ []) fs) (range_one c.args.line.now c.args.i c.requires.within)))

pub returns-then-is_name_byte-2-clause-scan : goal.returns-then-is_name_byte-2-clause-scan
returns-then-is_name_byte-2-clause-scan c =
    let w : (c.in-InFraction.start ≤ c.in-InFraction.fraction) × (c.in-InFraction.fraction ≤ c.args.i) = rw c.in-InFraction.is at c.requires.began in
    rw c.in-InFraction.is (gives_none _ _ _ _ (on-fraction c.in-InFraction.start c.args.i _ _ _ c.if-is_name_byte-2.ensures)
    (ap (λ fs. InFraction c.in-InFraction.start (slice_range c.args.line.now c.in-InFraction.start c.in-InFraction.fraction) fs) (range_more c.args.line.now c.in-InFraction.fraction c.args.i w.1 c.requires.within)))

pub returns-in_ok-write-in-AtPoint-2-clause-scan : goal.returns-in_ok-write-in-AtPoint-2-clause-scan
returns-in_ok-write-in-AtPoint-2-clause-scan c =
    let w : (c.in-AtPoint.start ≤ c.in-AtPoint.point) × (c.in-AtPoint.point + 1 ≡ c.args.i) × (slice_index c.args.line.now c.in-AtPoint.point ≡ 46) = rw c.in-AtPoint.is at c.requires.began in
    let e : slice_range c.args.line.now c.in-AtPoint.point c.args.i ≡ 46 ∷ [] = range_first c.args.line.now c.in-AtPoint.point c.args.i w.1 c.requires.within ∙ ap (λ b. b ∷ []) w.2 in
    rw c.in-AtPoint.is (gives_more_ok _ _ c.begin-in-AtPoint.result (λ s. scan_of c.args.line.now (c.args.i + 1) s) _ (lexemes_of c.args.line.now c.write.new.tokens.items) _ _ _ _
    (on-point_end c.in-AtPoint.start c.args.i (slice_index c.args.line.now c.args.i) c.in-AtPoint.point (slice_range c.args.line.now c.in-AtPoint.start c.in-AtPoint.point) c.if-is_digit.ensures)
    (rw c.word_kind.ensures at c.in_ok-write-in-AtPoint.ensures)
    (gives_more_ok _ _ c.begin-in-AtPoint.result (λ s. scan_of c.args.line.now (c.args.i + 1) s) _ (lexemes_of c.args.line.now c.write-in-AtPoint.new.tokens.items) _ _ _ _ refl
    (rw e at c.in_ok-write-in-AtPoint-2.ensures) c.begin-in-AtPoint.ensures.scan))

pub returns-in_ok-write-in-InFraction-clause-scan : goal.returns-in_ok-write-in-InFraction-clause-scan
returns-in_ok-write-in-InFraction-clause-scan c =
    let w : (c.in-InFraction.start ≤ c.in-InFraction.fraction) × (c.in-InFraction.fraction ≤ c.args.i) = rw c.in-InFraction.is at c.requires.began in
    rw c.in-InFraction.is (gives_more_ok _ _ c.begin-in-InFraction.result (λ s. scan_of c.args.line.now (c.args.i + 1) s) _ (lexemes_of c.args.line.now c.write-in-InFraction.new.tokens.items) _ _ _ _
    (on-fraction_end c.in-InFraction.start c.args.i (slice_index c.args.line.now c.args.i) _ _ c.if-is_name_byte-2.ensures)
    (rw (c.fraction_kind.ensures, range_split c.args.line.now c.in-InFraction.start c.in-InFraction.fraction c.args.i w.0 w.1) at c.in_ok-write-in-InFraction.ensures)
    c.begin-in-InFraction.ensures.scan)
