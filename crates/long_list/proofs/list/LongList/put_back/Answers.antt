use Rattle.std.proofs.Common.{◌∙◌, ◌+◌, ◌<◌, ◌++◌, subst, sym, length}
use Rattle.long_list.proofs.TailLaws.{linked_fits}
use Rattle.long_list.proofs.list.LongList.put_back.Goals as goal

pub invariant_of-self : goal.invariant_of-self
invariant_of-self g c =
    linked_fits (c.settle.new.front ++ c.settle.new.tail) c.into_node.result c.link.new.front c.link.new.tail c.args.place 9223372036854775808 c.into_node.ensures.one (subst (λ xs. length xs + 1 < 9223372036854775808) (sym (c.settle.ensures.same ∙ c.self.view_is)) c.requires.room) c.link.ensures
