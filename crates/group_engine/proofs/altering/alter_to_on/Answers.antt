use Rattle.std.proofs.Common.{refl, sym}
use Rattle.group_catalog.specs.Kept.{group_seen}
use Rattle.group_engine.proofs.AlteringLaws.{on_alone, on_joined}
use Rattle.group_engine.proofs.TriedLaws.{stands_made}
use Rattle.group_engine.proofs.altering.alter_to_on.Goals as goal

pub returns-then-not-joins_something-clause-alters : goal.returns-then-not-joins_something-clause-alters
returns-then-not-joins_something-clause-alters g c =
    on_alone g.P.Disk.state g.P.Disk.possible c.args.tier.now c.give_state.new.tier c.args.journal.now c.give_state.new.journal c.args.site.now c.give_state.new.site c.args.ready.now c.args.place c.joins_something.result c.give_state.result c.joins_something.ensures c.if-not-joins_something.true
    c.give_state.ensures.alters

pub returns-clause-alters : goal.returns-clause-alters
returns-clause-alters g c =
    on_joined g.P.Disk.state g.P.Disk.possible c.args.tier.now _ c.alter_with.new.tier c.args.journal.now c.alter_with.new.journal c.args.site.now c.alter_with.new.site c.args.ready.now c.args.place (group_seen c.in-Some.group.now) c.joins_something.result c.alter_with.result (sym c.in-Some.ensures) c.joins_something.ensures c.if-not-joins_something.false
    (λ v x. stands_made c.args.tier.now (record c.args.tier.now.clock { sets = c.make_moment.new.sets }) (record c.args.tier.now.clock { sets = c.note_moment.new.sets }) v c.in-Some.group.now.def.interval (record { now = refl; added = refl; round = refl; due = refl }) (record { now = refl; added = refl; round = refl; due = refl }) c.in_ok-make_moment.ensures.same c.in_ok-make_moment.ensures.ok c.note_moment.ensures x)
    c.alter_with.ensures.alters
