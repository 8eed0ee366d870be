use Rattle.group_catalog.specs.Kept.{group_seen}
use Rattle.group_engine.proofs.GainingLaws.{takes_so}
use Rattle.group_engine.proofs.gaining.taken_at.Goals as goal

pub returns-in-Some-hidden_at : goal.returns-in-Some-hidden_at
returns-in-Some-hidden_at c =
    takes_so c.args.tier.now c.args.place c.args.which.now c.args.refreshes c.args.tables.now c.taken_in.result (group_seen c.in-Some.group.now) c.in-Some-store_at.store.now c.in-Some-hidden_at.hidden.now
    c.in-Some.ensures c.in-Some-store_at.ensures c.in-Some-hidden_at.ensures c.taken_in.ensures
