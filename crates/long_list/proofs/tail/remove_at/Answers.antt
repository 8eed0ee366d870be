use Rattle.long_list.proofs.TailLaws.{without_first}
use Rattle.long_list.proofs.tail.remove_at.Goals as goal

pub returns-clause-new : goal.returns-clause-new
returns-clause-new g c =
    without_first c.args.list.now c.args.place c.split-rest.new.list c.split-rest.result c.pop_front.new.self c.join.new.list c.split-rest.ensures.front c.split-rest.ensures.rest c.pop_front.ensures.rest c.join.ensures
