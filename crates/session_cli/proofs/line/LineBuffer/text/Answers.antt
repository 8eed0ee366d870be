use Rattle.std.proofs.Common.{◌≤◌, ◌<◌, ◌∙◌, ap, sym, length, arith}
use Rattle.session_cli.proofs.CuttingLaws.{text_long, front_short}
use Rattle.session_cli.proofs.line.LineBuffer.text.Goals as goal

pub returns-then-len-gt-LINE_BYTES : goal.returns-then-len-gt-LINE_BYTES
returns-then-len-gt-LINE_BYTES c =
    let line = c.args.self.now in
    let le : length line ≤ 65537 = omega (arith, c.self.invariant.1, ap length c.self.view_is) in
    let gt : 65536 < length line = omega (arith, c.len.ensures, c.self.inside.bytes.ok.0, ap length c.self.view_is) in
    c.as_slice.ensures.value ∙ c.self.view_is ∙ sym (front_short line le) ∙ sym (text_long line gt)
