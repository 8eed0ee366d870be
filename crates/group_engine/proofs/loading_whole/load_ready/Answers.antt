use Rattle.std.proofs.Common.{refl, sym}
use Rattle.stored_tier.specs.Performing.{reply_of}
use Rattle.group_catalog.specs.Kept.{group_seen}
use Rattle.group_engine.proofs.NotedLaws.{tried_joined, tried_one}
use Rattle.group_engine.proofs.WholeLaws.{off_is}
use Rattle.group_engine.proofs.TriedLaws.{stands_made}
use Rattle.group_engine.proofs.loading_whole.load_ready.Goals as goal

pub returns-then-is_off-clause-reads : goal.returns-then-is_off-clause-reads
returns-then-is_off-clause-reads g c =
    tried_one g.P.Disk.state g.P.Disk.possible c.args.tier.now _ c.args.journal.now _ c.args.site.now _ c.args.aim.now.place c.args.aim.now.which c.args.refreshes (reply_of c.load_noted.result) (group_seen c.in-Some.group.now) (sym c.in-Some.ensures) (off_is c.in-Some.group.now.state (sym c.if-is_off.ensures)) c.load_noted.ensures.loads

pub returns-clause-reads : goal.returns-clause-reads
returns-clause-reads g c =
    tried_joined g.P.Disk.state g.P.Disk.possible c.args.tier.now _ c.args.journal.now _ c.args.site.now _ c.args.aim.now.place c.args.aim.now.which c.args.refreshes (reply_of c.load_noted-2.result) _ (group_seen c.in-Some.group.now) (sym c.in-Some.ensures) (sym c.if-is_off.ensures)
    (λ v x. stands_made c.args.tier.now (record c.args.tier.now.clock { sets = c.make_moment.new.sets }) (record c.args.tier.now.clock { sets = c.note_moment.new.sets }) v c.in-Some.group.now.def.interval (record { now = refl; added = refl; round = refl; due = refl }) (record { now = refl; added = refl; round = refl; due = refl }) c.in_ok-make_moment.ensures.same c.in_ok-make_moment.ensures.ok c.note_moment.ensures x)
    c.load_noted-2.ensures.loads
