use Rattle.std.proofs.Common.{vec_items}
use Rattle.long_list.proofs.EditLaws.{element_at}
use Rattle.long_list.proofs.chunks.Chunks.at.Goals as goal

pub returns : goal.returns
returns g c =
    let l = c.self.inside in
    element_at vec_items l.chunks.items l.starts.items l.len c.args.self.now c.self.invariant c.self.view_is c.deref.result.now c.deref.ensures.value c.args.place _ _ c.locate-c.ensures c.index.result.now c.index.ensures c.requires c.index-2.result.now c.index-2.ensures
