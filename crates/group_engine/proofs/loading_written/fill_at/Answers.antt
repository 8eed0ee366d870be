use Rattle.std.proofs.Common.{◌<◌, length, rules}
use Rattle.group_engine.proofs.StorePairs.{room_self}
use Rattle.group_engine.proofs.TakeLaws.{filled_there}
use Rattle.group_engine.proofs.loading_written.fill_at.Goals as goal

pub returns-then-place-len : goal.returns-then-place-len
returns-then-place-len c =
    let lt : c.args.place < length c.args.stores.now.items = Prim.search rules in
    filled_there c.args.place c.args.rows c.args.stores.now.items c.index_mut.result.now c.fill.new.store c.fill.result lt c.index_mut.ensures.value c.fill.ensures.ok c.fill.ensures.err

pub returns-else-place-len : goal.returns-else-place-len
returns-else-place-len c = room_self c.args.stores.now.items
