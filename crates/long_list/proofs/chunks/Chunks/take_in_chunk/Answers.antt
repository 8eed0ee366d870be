use Rattle.std.proofs.Common.{vec_items, ◌∙◌, ap, sym, ◌++◌, [], ◌∷◌}
use Rattle.long_list.proofs.EditLaws.{chunk_pushed}
use Rattle.long_list.proofs.TailLaws.{only_one}
use Rattle.long_list.proofs.chunks.Chunks.take_in_chunk.Goals as goal

pub invariant_of-self-2 : goal.invariant_of-self-2
invariant_of-self-2 g c =
    let l = c.self.inside in
    (chunk_pushed vec_items l.chunks.items l.starts.items l.len c.args.self.now c.self.invariant c.self.view_is c.unwrap.result c.push_in_room.new.items c.push_in_room-2.new.items.items c.push_in_room-3.new.items.items (c.push_in_room.ensures ∙ ap (λ xs. xs ++ c.unwrap.result ∷ []) c.in-Ok.ensures.items) (c.push_in_room-2.ensures ∙ ap (λ xs. xs ++ c.push_in_room.new.items ∷ []) c.reserve-else-is_err.ensures.items) (c.push_in_room-3.ensures ∙ ap (λ xs. xs ++ l.len ∷ []) c.reserve.ensures.items)).counted

pub returns-clause-taken : goal.returns-clause-taken
returns-clause-taken g c =
    let l = c.self.inside in
    (chunk_pushed vec_items l.chunks.items l.starts.items l.len c.args.self.now c.self.invariant c.self.view_is c.unwrap.result c.push_in_room.new.items c.push_in_room-2.new.items.items c.push_in_room-3.new.items.items (c.push_in_room.ensures ∙ ap (λ xs. xs ++ c.unwrap.result ∷ []) c.in-Ok.ensures.items) (c.push_in_room-2.ensures ∙ ap (λ xs. xs ++ c.push_in_room.new.items ∷ []) c.reserve-else-is_err.ensures.items) (c.push_in_room-3.ensures ∙ ap (λ xs. xs ++ l.len ∷ []) c.reserve.ensures.items)).view
    ∙ ap (λ xs. c.args.self.now ++ xs) (sym (only_one _ _ _ _ c.pop_front.ensures.items c.unwrap.ensures c.requires.one))
