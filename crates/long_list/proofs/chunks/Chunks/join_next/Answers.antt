use Rattle.std.proofs.Common.{vec_items, ◌+◌, ◌∙◌, ◌≡◌, ◌<◌, ap, arith, map, length, is_ok, true, cond, ◌++◌}
use Rattle.std.proofs.lemmas.List.{length-map}
use Rattle.std.proofs.lemmas.Grind.{common_steps}
use Rattle.long_list.proofs.EditLaws.{as_kept, chunks_kept, chunks_joined, counts}
use Rattle.long_list.proofs.chunks.Chunks.join_next.Goals as goal

pub invariant_of-self : goal.invariant_of-self
invariant_of-self g c =
    let l = c.self.inside in
    (as_kept vec_items l.chunks.items l.starts.items l.len c.args.self.now c.self.invariant c.self.view_is c.args.c c.index_mut.result.now _ (omega (arith, l.chunks.ok.0, length-map l.chunks.items vec_items)) c.index_mut.ensures.value c.in-Err.ensures.items).counted

pub returns-in-Err : goal.returns-in-Err
returns-in-Err g c =
    let l = c.self.inside in
    (as_kept vec_items l.chunks.items l.starts.items l.len c.args.self.now c.self.invariant c.self.view_is c.args.c c.index_mut.result.now _ (omega (arith, l.chunks.ok.0, length-map l.chunks.items vec_items)) c.index_mut.ensures.value c.in-Err.ensures.items).view

pub remove-requires : goal.remove-requires
remove-requires g c =
    let l = c.self.inside in
    omega (arith, l.chunks.ok.0, l.starts.ok.0, length-map l.chunks.items vec_items, counts (map vec_items l.chunks.items) l.starts.items l.len c.self.invariant)

pub invariant_of-self-2 : goal.invariant_of-self-2
invariant_of-self-2 g c =
    let l = c.self.inside in
    let count : c.args.c + 1 < length (map vec_items l.chunks.items) = omega (arith, l.chunks.ok.0, length-map l.chunks.items vec_items) in
    let same = chunks_kept vec_items l.chunks.items l.starts.items l.len c.args.self.now c.self.invariant c.self.view_is c.args.c c.index_mut.result.now c.reserve.new.self (omega arith) c.index_mut.ensures.value c.reserve.ensures.items in
    let done : is_ok c.append.result ≡ true = c.append.ensures.succeeds (grind (arith, common_steps)) in
    let appended = c.append.ensures.items ∙ ap (λ b. cond b (vec_items c.index_mut-2.result.now ++ vec_items c.remove-next.result) (vec_items c.index_mut-2.result.now)) done in
    (chunks_joined vec_items l.chunks.items l.starts.items l.len c.args.self.now c.self.invariant c.self.view_is c.args.c count _ same c.remove-next.result c.index_mut-2.result.now c.append.new.self c.remove-next.new.self.items c.remove.new.self.items c.remove-next.ensures.value c.remove-next.ensures.items c.index_mut-2.ensures.value appended c.remove.ensures.items).counted

pub returns : goal.returns
returns g c =
    let l = c.self.inside in
    let count : c.args.c + 1 < length (map vec_items l.chunks.items) = omega (arith, l.chunks.ok.0, length-map l.chunks.items vec_items) in
    let same = chunks_kept vec_items l.chunks.items l.starts.items l.len c.args.self.now c.self.invariant c.self.view_is c.args.c c.index_mut.result.now c.reserve.new.self (omega arith) c.index_mut.ensures.value c.reserve.ensures.items in
    let done : is_ok c.append.result ≡ true = c.append.ensures.succeeds (grind (arith, common_steps)) in
    let appended = c.append.ensures.items ∙ ap (λ b. cond b (vec_items c.index_mut-2.result.now ++ vec_items c.remove-next.result) (vec_items c.index_mut-2.result.now)) done in
    (chunks_joined vec_items l.chunks.items l.starts.items l.len c.args.self.now c.self.invariant c.self.view_is c.args.c count _ same c.remove-next.result c.index_mut-2.result.now c.append.new.self c.remove-next.new.self.items c.remove.new.self.items c.remove-next.ensures.value c.remove-next.ensures.items c.index_mut-2.ensures.value appended c.remove.ensures.items).view
