use Rattle.std.proofs.Common.{vec_items, arith, map}
use Rattle.long_list.proofs.EditLaws.{here, element_put, as_kept, within_starts, all_have_room, on_err}
use Rattle.long_list.proofs.chunks.Chunks.put.Goals as goal

pub invariant_of-self : goal.invariant_of-self
invariant_of-self g c =
    let l = c.self.inside in
    (as_kept vec_items l.chunks.items l.starts.items l.len c.args.self.now c.self.invariant c.self.view_is _ c.index_mut.result.now _ (here vec_items l.chunks.items l.starts.items l.len c.args.self.now c.self.invariant c.self.view_is c.deref.result.now c.deref.ensures.value c.args.place _ _ c.locate-c.ensures).within c.index_mut.ensures.value c.in_err-insert.ensures.items).counted

pub returns-in_err-insert-clause-err : goal.returns-in_err-insert-clause-err
returns-in_err-insert-clause-err g c =
    let l = c.self.inside in
    on_err _ (as_kept vec_items l.chunks.items l.starts.items l.len c.args.self.now c.self.invariant c.self.view_is _ c.index_mut.result.now _ (here vec_items l.chunks.items l.starts.items l.len c.args.self.now c.self.invariant c.self.view_is c.deref.result.now c.deref.ensures.value c.args.place _ _ c.locate-c.ensures).within c.index_mut.ensures.value c.in_err-insert.ensures.items).view

pub raise_from-requires-clause-within : goal.raise_from-requires-clause-within
raise_from-requires-clause-within g c =
    let l = c.self.inside in
    within_starts (map vec_items l.chunks.items) l.starts.items l.len c.self.invariant _ (here vec_items l.chunks.items l.starts.items l.len c.args.self.now c.self.invariant c.self.view_is c.deref.result.now c.deref.ensures.value c.args.place _ _ c.locate-c.ensures).within

pub raise_from-requires-clause-room : goal.raise_from-requires-clause-room
raise_from-requires-clause-room g c =
    let l = c.self.inside in
    all_have_room (map vec_items l.chunks.items) l.starts.items l.len c.self.invariant (omega arith)

pub invariant_of-self-2 : goal.invariant_of-self-2
invariant_of-self-2 g c =
    let l = c.self.inside in
    (element_put vec_items l.chunks.items l.starts.items l.len c.args.self.now c.self.invariant c.self.view_is c.deref.result.now c.deref.ensures.value c.args.place _ _ c.locate-c.ensures c.index_mut.result.now c.index_mut.ensures.value c.requires.within c.args.element _ c.raise_from.new.starts.items c.in_ok-insert.ensures.items c.raise_from.ensures).counted

pub returns-clause-ok : goal.returns-clause-ok
returns-clause-ok g c =
    let l = c.self.inside in
    (element_put vec_items l.chunks.items l.starts.items l.len c.args.self.now c.self.invariant c.self.view_is c.deref.result.now c.deref.ensures.value c.args.place _ _ c.locate-c.ensures c.index_mut.result.now c.index_mut.ensures.value c.requires.within c.args.element _ c.raise_from.new.starts.items c.in_ok-insert.ensures.items c.raise_from.ensures).view
