use Rattle.std.proofs.Common.{◌∙◌, ◌++◌, ap, set}
use Rattle.long_list.proofs.TailLaws.{with_first}
use Rattle.long_list.proofs.tail.replace_at.Goals as goal

pub returns-clause-new : goal.returns-clause-new
returns-clause-new g c =
    with_first c.args.list.now c.args.place c.args.element c.split-rest.new.list c.split-rest.result c.join.new.list c.requires c.split-rest.ensures.front c.split-rest.ensures.rest (c.join.ensures ∙ ap (λ x. c.split-rest.new.list ++ set c.split-rest.result 0 x) c.replace-old.ensures.after)
