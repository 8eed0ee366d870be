use Rattle.std.proofs.Common.{vec_items, ◌∙◌, ◌<◌, ◌+◌, ◌/◌, ap, arith, map, length, get_or}
use Rattle.std.specs.List.{insert}
use Rattle.long_list.proofs.EditLaws.{here, chunk, same_chunk, chunk_split, within_starts, start_room, start_read}
use Rattle.long_list.proofs.chunks.Chunks.make_room.Goals as goal

pub index-requires-2 : goal.index-requires-2
index-requires-2 g c =
    let l = c.self.inside in
    omega (arith, l.starts.ok.0, within_starts (map vec_items l.chunks.items) l.starts.items l.len c.self.invariant _ (here vec_items l.chunks.items l.starts.items l.len c.args.self.now c.self.invariant c.self.view_is c.deref.result.now c.deref.ensures.value c.args.place _ _ c.locate-c.ensures).within)

pub overflow_add-start : goal.overflow_add-start
overflow_add-start g c =
    let l = c.self.inside in
    let inside = (here vec_items l.chunks.items l.starts.items l.len c.args.self.now c.self.invariant c.self.view_is c.deref.result.now c.deref.ensures.value c.args.place _ _ c.locate-c.ensures).within in
    let room = start_room (map vec_items l.chunks.items) l.starts.items l.len c.self.invariant _ inside in
    let start = start_read (map vec_items l.chunks.items) l.starts.items l.len c.self.invariant _ inside c.reserve.new.self.items c.in_ok-reserve.ensures.items c.index-2.result.now c.index-2.ensures in
    let elements = ap length (chunk vec_items l.chunks.items l.starts.items l.len c.args.self.now c.self.invariant c.self.view_is c.deref.result.now c.deref.ensures.value c.args.place _ _ c.locate-c.ensures c.index.result.now c.index.ensures) in
    omega (arith, c.index.result.now.ok.0)

pub insert-requires-2 : goal.insert-requires-2
insert-requires-2 g c =
    let l = c.self.inside in
    omega (arith, l.starts.ok.0, within_starts (map vec_items l.chunks.items) l.starts.items l.len c.self.invariant _ (here vec_items l.chunks.items l.starts.items l.len c.args.self.now c.self.invariant c.self.view_is c.deref.result.now c.deref.ensures.value c.args.place _ _ c.locate-c.ensures).within)

pub invariant_of-self-2 : goal.invariant_of-self-2
invariant_of-self-2 g c =
    let l = c.self.inside in
    let inside = (here vec_items l.chunks.items l.starts.items l.len c.args.self.now c.self.invariant c.self.view_is c.deref.result.now c.deref.ensures.value c.args.place _ _ c.locate-c.ensures).within in
    let start = start_read (map vec_items l.chunks.items) l.starts.items l.len c.self.invariant _ inside c.reserve.new.self.items c.in_ok-reserve.ensures.items c.index-2.result.now c.index-2.ensures in
    let again = c.index_mut.ensures.value ∙ ap (λ xs. get_or xs c.locate-c.result.0 c.index_mut.result.now) c.in_ok-reserve-2.ensures.items in
    let same = ap length (same_chunk vec_items l.chunks.items l.starts.items l.len c.args.self.now c.self.invariant c.self.view_is c.deref.result.now c.deref.ensures.value c.args.place _ _ c.locate-c.ensures c.index.result.now c.index.ensures c.index_mut.result.now again) in
    let less : c.len-len.result / 2 < length (vec_items c.index_mut.result.now) = omega (arith, c.index.result.now.ok.0) in
    let starts = c.in_ok-insert-2.ensures.items ∙ ap (λ xs. insert xs (c.locate-c.result.0 + 1) (c.index-2.result.now + c.len-len.result / 2)) c.in_ok-reserve.ensures.items ∙ ap (λ n. insert l.starts.items (c.locate-c.result.0 + 1) (n + c.len-len.result / 2)) start in
    (chunk_split vec_items l.chunks.items l.starts.items l.len c.args.self.now c.self.invariant c.self.view_is c.locate-c.result.0 (c.len-len.result / 2) inside c.reserve-2.new.self.items c.in_ok-reserve-2.ensures.items c.index_mut.result.now c.index_mut.ensures.value (omega arith) less c.split_off.new.self c.in_ok-high.high c.insert.new.self.items c.insert-2.new.self.items c.in_ok-high.ensures.items c.in_ok-high.ensures.tail c.in_ok-insert.ensures.items starts).counted

pub returns : goal.returns
returns g c =
    let l = c.self.inside in
    let inside = (here vec_items l.chunks.items l.starts.items l.len c.args.self.now c.self.invariant c.self.view_is c.deref.result.now c.deref.ensures.value c.args.place _ _ c.locate-c.ensures).within in
    let start = start_read (map vec_items l.chunks.items) l.starts.items l.len c.self.invariant _ inside c.reserve.new.self.items c.in_ok-reserve.ensures.items c.index-2.result.now c.index-2.ensures in
    let again = c.index_mut.ensures.value ∙ ap (λ xs. get_or xs c.locate-c.result.0 c.index_mut.result.now) c.in_ok-reserve-2.ensures.items in
    let same = ap length (same_chunk vec_items l.chunks.items l.starts.items l.len c.args.self.now c.self.invariant c.self.view_is c.deref.result.now c.deref.ensures.value c.args.place _ _ c.locate-c.ensures c.index.result.now c.index.ensures c.index_mut.result.now again) in
    let less : c.len-len.result / 2 < length (vec_items c.index_mut.result.now) = omega (arith, c.index.result.now.ok.0) in
    let starts = c.in_ok-insert-2.ensures.items ∙ ap (λ xs. insert xs (c.locate-c.result.0 + 1) (c.index-2.result.now + c.len-len.result / 2)) c.in_ok-reserve.ensures.items ∙ ap (λ n. insert l.starts.items (c.locate-c.result.0 + 1) (n + c.len-len.result / 2)) start in
    (chunk_split vec_items l.chunks.items l.starts.items l.len c.args.self.now c.self.invariant c.self.view_is c.locate-c.result.0 (c.len-len.result / 2) inside c.reserve-2.new.self.items c.in_ok-reserve-2.ensures.items c.index_mut.result.now c.index_mut.ensures.value (omega arith) less c.split_off.new.self c.in_ok-high.high c.insert.new.self.items c.insert-2.new.self.items c.in_ok-high.ensures.items c.in_ok-high.ensures.tail c.in_ok-insert.ensures.items starts).view
