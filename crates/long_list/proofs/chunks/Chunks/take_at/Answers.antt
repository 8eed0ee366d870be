use Rattle.std.proofs.Common.{vec_items, ◌++◌, ◌∙◌, ap, sym, refl, subst, arith, length, map, set, take, drop}
use Rattle.long_list.specs.Chunks.{IsLocated}
use Rattle.long_list.proofs.EditLaws.{here, element_put, as_kept, chunks_kept, within_starts, all_have_room}
use Rattle.long_list.proofs.TailLaws.{only_one}
use Rattle.long_list.proofs.chunks.Chunks.take_at.Goals as goal

pub invariant_of-self : goal.invariant_of-self
invariant_of-self g c =
    let l = c.self.inside in
    (as_kept vec_items l.chunks.items l.starts.items l.len c.args.self.now c.self.invariant c.self.view_is _ c.index_mut.result.now _ (here vec_items l.chunks.items l.starts.items l.len c.args.self.now c.self.invariant c.self.view_is c.deref.result.now c.deref.ensures.value c.args.place _ _ c.locate-c.ensures).within c.index_mut.ensures.value c.reserve.ensures.items).counted

pub returns-then-is_err-clause-left : goal.returns-then-is_err-clause-left
returns-then-is_err-clause-left g c =
    let l = c.self.inside in
    (as_kept vec_items l.chunks.items l.starts.items l.len c.args.self.now c.self.invariant c.self.view_is _ c.index_mut.result.now _ (here vec_items l.chunks.items l.starts.items l.len c.args.self.now c.self.invariant c.self.view_is c.deref.result.now c.deref.ensures.value c.args.place _ _ c.locate-c.ensures).within c.index_mut.ensures.value c.reserve.ensures.items).view

pub raise_from-requires-clause-within : goal.raise_from-requires-clause-within
raise_from-requires-clause-within g c =
    let l = c.self.inside in
    within_starts (map vec_items l.chunks.items) l.starts.items l.len c.self.invariant _ (here vec_items l.chunks.items l.starts.items l.len c.args.self.now c.self.invariant c.self.view_is c.deref.result.now c.deref.ensures.value c.args.place _ _ c.locate-c.ensures).within

pub raise_from-requires-clause-room : goal.raise_from-requires-clause-room
raise_from-requires-clause-room g c =
    let l = c.self.inside in
    all_have_room (map vec_items l.chunks.items) l.starts.items l.len c.self.invariant (omega (arith, c.self.invariant.count, ap length c.self.view_is, c.requires.fits))

pub invariant_of-self-2 : goal.invariant_of-self-2
invariant_of-self-2 g c =
    let l = c.self.inside in
    let spot = here vec_items l.chunks.items l.starts.items l.len c.args.self.now c.self.invariant c.self.view_is c.deref.result.now c.deref.ensures.value c.args.place _ _ c.locate-c.ensures in
    let same = chunks_kept vec_items l.chunks.items l.starts.items l.len c.args.self.now c.self.invariant c.self.view_is c.locate-c.result.0 c.index_mut.result.now c.reserve.new.self spot.within c.index_mut.ensures.value c.reserve.ensures.items in
    let roomy = as_kept vec_items l.chunks.items l.starts.items l.len c.args.self.now c.self.invariant c.self.view_is c.locate-c.result.0 c.index_mut.result.now c.reserve.new.self spot.within c.index_mut.ensures.value c.reserve.ensures.items in
    (element_put vec_items (set l.chunks.items c.locate-c.result.0 c.reserve.new.self) l.starts.items l.len c.args.self.now roomy.counted roomy.view _ refl c.args.place c.locate-c.result.0 c.locate-c.result.1 (subst (λ cs. IsLocated cs c.args.place c.locate-c.result.0 c.locate-c.result.1) (sym same) spot) c.index_mut-2.result.now c.index_mut-2.ensures.value c.requires.within c.unwrap.result c.insert_in_room.new.items c.raise_from.new.starts.items c.insert_in_room.ensures c.raise_from.ensures).counted

pub returns-clause-taken : goal.returns-clause-taken
returns-clause-taken g c =
    let l = c.self.inside in
    let spot = here vec_items l.chunks.items l.starts.items l.len c.args.self.now c.self.invariant c.self.view_is c.deref.result.now c.deref.ensures.value c.args.place _ _ c.locate-c.ensures in
    let same = chunks_kept vec_items l.chunks.items l.starts.items l.len c.args.self.now c.self.invariant c.self.view_is c.locate-c.result.0 c.index_mut.result.now c.reserve.new.self spot.within c.index_mut.ensures.value c.reserve.ensures.items in
    let roomy = as_kept vec_items l.chunks.items l.starts.items l.len c.args.self.now c.self.invariant c.self.view_is c.locate-c.result.0 c.index_mut.result.now c.reserve.new.self spot.within c.index_mut.ensures.value c.reserve.ensures.items in
    (element_put vec_items (set l.chunks.items c.locate-c.result.0 c.reserve.new.self) l.starts.items l.len c.args.self.now roomy.counted roomy.view _ refl c.args.place c.locate-c.result.0 c.locate-c.result.1 (subst (λ cs. IsLocated cs c.args.place c.locate-c.result.0 c.locate-c.result.1) (sym same) spot) c.index_mut-2.result.now c.index_mut-2.ensures.value c.requires.within c.unwrap.result c.insert_in_room.new.items c.raise_from.new.starts.items c.insert_in_room.ensures c.raise_from.ensures).view
    ∙ ap (λ xs. take c.args.place c.args.self.now ++ (xs ++ drop c.args.place c.args.self.now)) (sym (only_one _ _ _ _ c.pop_front.ensures.items c.unwrap.ensures c.requires.one))
