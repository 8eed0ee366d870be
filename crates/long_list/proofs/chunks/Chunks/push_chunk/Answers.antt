use Rattle.std.proofs.Common.{vec_items, ◌∙◌, ap, ◌++◌, [], ◌∷◌}
use Rattle.long_list.proofs.EditLaws.{chunk_pushed}
use Rattle.long_list.proofs.chunks.Chunks.push_chunk.Goals as goal

pub invariant_of-self-2 : goal.invariant_of-self-2
invariant_of-self-2 g c =
    let l = c.self.inside in
    (chunk_pushed vec_items l.chunks.items l.starts.items l.len c.args.self.now c.self.invariant c.self.view_is c.args.element c.push.new.self c.push-2.new.self.items c.push-3.new.self.items (c.in_ok-push.ensures.items ∙ ap (λ xs. xs ++ c.args.element ∷ []) c.new-chunk.ensures.items) c.in_ok-push-2.ensures.items (c.in_ok-push-3.ensures.items ∙ ap (λ xs. xs ++ l.len ∷ []) c.in_ok-reserve.ensures.items)).counted

pub returns-clause-ok : goal.returns-clause-ok
returns-clause-ok g c =
    let l = c.self.inside in
    (chunk_pushed vec_items l.chunks.items l.starts.items l.len c.args.self.now c.self.invariant c.self.view_is c.args.element c.push.new.self c.push-2.new.self.items c.push-3.new.self.items (c.in_ok-push.ensures.items ∙ ap (λ xs. xs ++ c.args.element ∷ []) c.new-chunk.ensures.items) c.in_ok-push-2.ensures.items (c.in_ok-push-3.ensures.items ∙ ap (λ xs. xs ++ l.len ∷ []) c.in_ok-reserve.ensures.items)).view
