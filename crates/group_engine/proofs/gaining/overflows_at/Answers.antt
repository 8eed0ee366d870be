use Rattle.group_catalog.specs.Kept.{group_seen}
use Rattle.group_engine.proofs.GainingLaws.{no_group_there, no_hidden_there, no_store_there, tells_so}
use Rattle.group_engine.proofs.gaining.overflows_at.Goals as goal

pub returns-in-None : goal.returns-in-None
returns-in-None c = λ g s h at. absurd (no_group_there c.args.tier.now c.args.place g s h at c.in-None.ensures)

pub returns-in-None-store_at : goal.returns-in-None-store_at
returns-in-None-store_at c = λ g s h at. absurd (no_store_there c.args.tier.now c.args.place g s h at c.in-None-store_at.ensures)

pub returns-in-None-hidden_at : goal.returns-in-None-hidden_at
returns-in-None-hidden_at c = λ g s h at. absurd (no_hidden_there c.args.tier.now c.args.place g s h at c.in-None-hidden_at.ensures)

pub returns-in-Some-hidden_at : goal.returns-in-Some-hidden_at
returns-in-Some-hidden_at c =
    tells_so c.args.tier.now c.args.place c.args.which.now c.args.refreshes c.args.tables.now c.overflows_past.result (group_seen c.in-Some.group.now) c.in-Some-store_at.store.now c.in-Some-hidden_at.hidden.now
    c.in-Some.ensures c.in-Some-store_at.ensures c.in-Some-hidden_at.ensures c.keys_law.ensures c.overflows_past.ensures
