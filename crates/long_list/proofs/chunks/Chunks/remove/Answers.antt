use Rattle.std.proofs.Common.{vec_items, ◌+◌, ◌-◌, ◌∙◌, ◌≡◌, ap, arith, map, length}
use Rattle.long_list.proofs.EditLaws.{here, several, element_at, element_taken, only_element, chunk_taken, within_starts, all_above, length_lowered}
use Rattle.long_list.proofs.chunks.Chunks.remove.Goals as goal

pub lower_from-requires-clause-within : goal.lower_from-requires-clause-within
lower_from-requires-clause-within g c =
    let l = c.self.inside in
    within_starts (map vec_items l.chunks.items) l.starts.items l.len c.self.invariant _ (here vec_items l.chunks.items l.starts.items l.len c.args.self.now c.self.invariant c.self.view_is c.deref.result.now c.deref.ensures.value c.args.place _ _ c.locate-c.ensures).within

pub lower_from-requires-clause-room : goal.lower_from-requires-clause-room
lower_from-requires-clause-room g c =
    let l = c.self.inside in
    all_above (map vec_items l.chunks.items) l.starts.items l.len c.self.invariant _ (here vec_items l.chunks.items l.starts.items l.len c.args.self.now c.self.invariant c.self.view_is c.deref.result.now c.deref.ensures.value c.args.place _ _ c.locate-c.ensures).within

pub remove-requires : goal.remove-requires
remove-requires g c =
    let l = c.self.inside in
    omega (arith, c.lower_from.new.starts.ok.0, ap length c.lower_from.ensures, length_lowered (λ s. s - 1) (c.locate-c.result.0 + 1) l.starts.items, within_starts (map vec_items l.chunks.items) l.starts.items l.len c.self.invariant _ (here vec_items l.chunks.items l.starts.items l.len c.args.self.now c.self.invariant c.self.view_is c.deref.result.now c.deref.ensures.value c.args.place _ _ c.locate-c.ensures).within)

pub invariant_of-self : goal.invariant_of-self
invariant_of-self g c =
    let l = c.self.inside in
    let one : length (vec_items c.index.result.now) ≡ 1 = omega (arith, c.index.result.now.ok.0) in
    (chunk_taken vec_items l.chunks.items l.starts.items l.len c.args.self.now c.self.invariant c.self.view_is c.deref.result.now c.deref.ensures.value c.args.place _ _ c.locate-c.ensures c.index.result.now c.index.ensures c.requires one c.remove-chunk.new.self.items c.lower_from.new.starts.items c.remove.new.self.items c.remove-chunk.ensures.items c.lower_from.ensures c.remove.ensures.items).counted

pub returns-then-len-eq1-clause-old : goal.returns-then-len-eq1-clause-old
returns-then-len-eq1-clause-old g c =
    let l = c.self.inside in
    let one : length (vec_items c.index.result.now) ≡ 1 = omega (arith, c.index.result.now.ok.0) in
    only_element vec_items l.chunks.items l.starts.items l.len c.args.self.now c.self.invariant c.self.view_is c.deref.result.now c.deref.ensures.value c.args.place _ _ c.locate-c.ensures c.index.result.now c.index.ensures c.requires one c.remove-chunk.result c.remove-chunk.ensures.value c.remove-element.result c.remove-element.ensures.value

pub returns-then-len-eq1-clause-new : goal.returns-then-len-eq1-clause-new
returns-then-len-eq1-clause-new g c =
    let l = c.self.inside in
    let one : length (vec_items c.index.result.now) ≡ 1 = omega (arith, c.index.result.now.ok.0) in
    (chunk_taken vec_items l.chunks.items l.starts.items l.len c.args.self.now c.self.invariant c.self.view_is c.deref.result.now c.deref.ensures.value c.args.place _ _ c.locate-c.ensures c.index.result.now c.index.ensures c.requires one c.remove-chunk.new.self.items c.lower_from.new.starts.items c.remove.new.self.items c.remove-chunk.ensures.items c.lower_from.ensures c.remove.ensures.items).view

pub invariant_of-self-2 : goal.invariant_of-self-2
invariant_of-self-2 g c =
    let l = c.self.inside in
    let more = several vec_items l.chunks.items l.starts.items l.len c.args.self.now c.self.invariant c.self.view_is c.deref.result.now c.deref.ensures.value c.args.place _ _ c.locate-c.ensures c.index.result.now c.index.ensures (λ one. omega (arith, c.index.result.now.ok.0)) c.index_mut.result.now c.index_mut.ensures.value in
    (element_taken vec_items l.chunks.items l.starts.items l.len c.args.self.now c.self.invariant c.self.view_is c.deref.result.now c.deref.ensures.value c.args.place _ _ c.locate-c.ensures c.index_mut.result.now c.index_mut.ensures.value c.requires more c.remove-element-2.new.self c.lower_from.new.starts.items c.remove-element-2.ensures.items c.lower_from.ensures).counted

pub returns-clause-old : goal.returns-clause-old
returns-clause-old g c =
    let l = c.self.inside in
    element_at vec_items l.chunks.items l.starts.items l.len c.args.self.now c.self.invariant c.self.view_is c.deref.result.now c.deref.ensures.value c.args.place _ _ c.locate-c.ensures c.index_mut.result.now c.index_mut.ensures.value c.requires c.remove-element-2.result c.remove-element-2.ensures.value

pub returns-clause-new : goal.returns-clause-new
returns-clause-new g c =
    let l = c.self.inside in
    let more = several vec_items l.chunks.items l.starts.items l.len c.args.self.now c.self.invariant c.self.view_is c.deref.result.now c.deref.ensures.value c.args.place _ _ c.locate-c.ensures c.index.result.now c.index.ensures (λ one. omega (arith, c.index.result.now.ok.0)) c.index_mut.result.now c.index_mut.ensures.value in
    c.join_next.ensures
    ∙ (element_taken vec_items l.chunks.items l.starts.items l.len c.args.self.now c.self.invariant c.self.view_is c.deref.result.now c.deref.ensures.value c.args.place _ _ c.locate-c.ensures c.index_mut.result.now c.index_mut.ensures.value c.requires more c.remove-element-2.new.self c.lower_from.new.starts.items c.remove-element-2.ensures.items c.lower_from.ensures).view
