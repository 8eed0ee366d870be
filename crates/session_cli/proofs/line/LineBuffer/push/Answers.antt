use Rattle.std.proofs.Common.{◌++◌, ◌∷◌, [], ◌≤◌, ◌∙◌, ap, sym, length, arith}
use Rattle.std.proofs.lemmas.List.{length-append}
use Rattle.session_cli.proofs.CuttingLaws.{front_full, front_short}
use Rattle.session_cli.proofs.line.LineBuffer.push.Goals as goal

pub returns-then-len-lt-KEPT_BYTES : goal.returns-then-len-lt-KEPT_BYTES
returns-then-len-lt-KEPT_BYTES c =
    let line = c.args.self.now in
    let short : length (line ++ c.args.byte ∷ []) ≤ 65537 =
    omega (arith, length-append line (c.args.byte ∷ []), c.len.ensures, c.self.inside.bytes.ok.0, ap length c.self.view_is)
    in
    c.push_reserved.ensures.items ∙ ap (λ l. l ++ c.args.byte ∷ []) c.self.view_is ∙ sym (front_short (line ++ c.args.byte ∷ []) short)

pub returns-else-len-lt-KEPT_BYTES : goal.returns-else-len-lt-KEPT_BYTES
returns-else-len-lt-KEPT_BYTES c =
    let line = c.args.self.now in
    let le : length line ≤ 65537 = omega (arith, c.self.invariant.1, ap length c.self.view_is) in
    let ge : 65537 ≤ length line = omega (arith, c.len.ensures, c.self.inside.bytes.ok.0, ap length c.self.view_is) in
    sym (front_full line c.args.byte le ge)
