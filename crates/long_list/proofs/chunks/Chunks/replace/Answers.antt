use Rattle.std.proofs.Common.{vec_items, get_or, set, ap, sym, ◌∙◌}
use Rattle.long_list.proofs.EditLaws.{element_at, element_set}
use Rattle.long_list.proofs.chunks.Chunks.replace.Goals as goal

pub invariant_of-self : goal.invariant_of-self
invariant_of-self g c =
    let l = c.self.inside in
    (element_set vec_items l.chunks.items l.starts.items l.len c.args.self.now c.self.invariant c.self.view_is c.deref.result.now c.deref.ensures.value c.args.place _ _ c.locate-c.ensures c.index_mut.result.now c.index_mut.ensures.value c.requires c.args.element _ (ap (set (vec_items c.index_mut.result.now) c.locate-c.result.1) c.replace.ensures.after)).counted

pub returns-clause-old : goal.returns-clause-old
returns-clause-old g c =
    let l = c.self.inside in
    let read = c.replace.ensures.value ∙ c.index_mut-2.ensures.value ∙ ap (get_or (vec_items c.index_mut.result.now) c.locate-c.result.1) (sym c.replace.ensures.value) in
    element_at vec_items l.chunks.items l.starts.items l.len c.args.self.now c.self.invariant c.self.view_is c.deref.result.now c.deref.ensures.value c.args.place _ _ c.locate-c.ensures c.index_mut.result.now c.index_mut.ensures.value c.requires c.replace.result read

pub returns-clause-new : goal.returns-clause-new
returns-clause-new g c =
    let l = c.self.inside in
    (element_set vec_items l.chunks.items l.starts.items l.len c.args.self.now c.self.invariant c.self.view_is c.deref.result.now c.deref.ensures.value c.args.place _ _ c.locate-c.ensures c.index_mut.result.now c.index_mut.ensures.value c.requires c.args.element _ (ap (set (vec_items c.index_mut.result.now) c.locate-c.result.1) c.replace.ensures.after)).view
