use Rattle.group_catalog.specs.Kept.{group_seen}
use Rattle.statement_uses.specs.Wanting.{want_seen}
use Rattle.group_engine.proofs.BringRoots.{finds_so}
use Rattle.group_engine.proofs.bringing.found_at.Goals as goal

pub returns-in-Some-hidden_at : goal.returns-in-Some-hidden_at
returns-in-Some-hidden_at c =
    finds_so c.args.tier.now c.args.place (want_seen c.args.want.now) c.args.tables.now c.found_in.result (group_seen c.in-Some.group.now) c.in-Some-store_at.store.now c.in-Some-hidden_at.hidden.now
    c.in-Some.ensures c.in-Some-store_at.ensures c.in-Some-hidden_at.ensures c.keys_law.ensures c.found_in.ensures
