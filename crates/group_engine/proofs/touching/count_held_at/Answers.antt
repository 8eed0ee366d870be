use Rattle.group_catalog.specs.Kept.{group_seen}
use Rattle.group_engine.proofs.GainingLaws.{no_group_there, no_hidden_there, no_store_there}
use Rattle.group_engine.proofs.TouchingLaws.{counts_so}
use Rattle.group_engine.proofs.touching.count_held_at.Goals as goal

pub returns-in-None : goal.returns-in-None
returns-in-None c = λ g s h at. absurd (no_group_there c.args.tier.now c.args.place g s h at c.in-None.ensures)

pub returns-in-None-store_at : goal.returns-in-None-store_at
returns-in-None-store_at c = λ g s h at. absurd (no_store_there c.args.tier.now c.args.place g s h at c.in-None-store_at.ensures)

pub returns-in-None-hidden_at : goal.returns-in-None-hidden_at
returns-in-None-hidden_at c = λ g s h at. absurd (no_hidden_there c.args.tier.now c.args.place g s h at c.in-None-hidden_at.ensures)

pub returns-in-Some-hidden_at : goal.returns-in-Some-hidden_at
returns-in-Some-hidden_at c =
    counts_so c.args.tier.now c.args.place c.args.which.now c.args.tables.now c.count_held.result (group_seen c.in-Some.group.now) c.in-Some-store_at.store.now c.in-Some-hidden_at.hidden.now
    c.in-Some.ensures c.in-Some-store_at.ensures c.in-Some-hidden_at.ensures c.count_held.ensures
