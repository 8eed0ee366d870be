use Rattle.std.proofs.Common.{◌∙◌, ◌<◌, ◌++◌, ap, sym, set, length, arith}
use Rattle.std.proofs.lemmas.List.{set-append_left, set-append_right}
use Rattle.long_list.proofs.list.LongList.replace.Goals as goal

pub returns-then-place-end-clause-new : goal.returns-then-place-end-clause-new
returns-then-place-end-clause-new g c =
    let l = c.self.inside in
    let within : c.args.place < length l.front = omega (arith, c.len-end.ensures, c.if-place-end.true) in
    ap (λ xs. xs ++ l.tail) c.replace.ensures.new
    ∙ sym (set-append_left l.front l.tail c.args.place c.args.element within)
    ∙ ap (λ xs. set xs c.args.place c.args.element) c.self.view_is

pub returns-else-place-end-clause-new : goal.returns-else-place-end-clause-new
returns-else-place-end-clause-new g c =
    let l = c.self.inside in
    ap (λ xs. l.front ++ xs) c.replace_at.ensures.new
    ∙ sym (set-append_right l.front l.tail c.len-end.result c.args.place c.args.element (sym c.len-end.ensures) c.if-place-end.false)
    ∙ ap (λ xs. set xs c.args.place c.args.element) c.self.view_is
