use Rattle.std.proofs.Common.{◌∙◌, ◌++◌, ap, sym}
use Rattle.std.specs.List.{remove}
use Rattle.std.proofs.lemmas.List.Edits.{remove-append_right}
use Rattle.long_list.proofs.list.LongList.remove.Goals as goal

pub returns-else-place-end-clause-new : goal.returns-else-place-end-clause-new
returns-else-place-end-clause-new g c =
    let l = c.self.inside in
    ap (λ xs. l.front ++ xs) c.remove_at.ensures.new
    ∙ sym (remove-append_right l.front l.tail c.len-end.result c.args.place (sym c.len-end.ensures) c.if-place-end.false)
    ∙ ap (λ xs. remove xs c.args.place) c.self.view_is
