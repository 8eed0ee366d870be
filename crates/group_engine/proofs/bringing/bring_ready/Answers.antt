use Rattle.std.proofs.Common.{refl, sym}
use Rattle.group_catalog.specs.Kept.{group_seen}
use Rattle.statement_uses.specs.Wanting.{want_seen}
use Rattle.cache_tier.specs.Groups.{is_read_only}
use Rattle.order_laws.proofs.TruthLaws.{both_true}
use Rattle.stored_tier.specs.Performing.{stop_of}
use Rattle.group_engine.proofs.BringTried.{brought_off, brought_on, brought_wanting, wanting_calm}
use Rattle.group_engine.proofs.ReadyLaws.{calm_cause, kept_here}
use Rattle.group_engine.proofs.TriedLaws.{stands_made}
use Rattle.group_engine.proofs.WholeLaws.{off_is}
use Rattle.group_engine.proofs.bringing.bring_ready.Goals as goal

pub returns-in-None-clause-brings : goal.returns-in-None-clause-brings
returns-in-None-clause-brings g c =
    brought_wanting g.P.Disk.state g.P.Disk.possible c.args.tier.now c.args.tier.now c.args.journal.now c.args.place (want_seen c.args.want.now) c.args.journal.now c.args.site.now c.faulty.result (kept_here _) (λ w stands. stands) c.faulty.ensures

pub returns-in-None-clause-cause : goal.returns-in-None-clause-cause
returns-in-None-clause-cause g c = calm_cause _ _ c.faulty.result (wanting_calm c.faulty.result c.faulty.ensures)

pub returns-then-is_off-clause-brings : goal.returns-then-is_off-clause-brings
returns-then-is_off-clause-brings g c =
    brought_off g.P.Disk.state g.P.Disk.possible c.args.tier.now _ c.args.journal.now _ c.args.site.now _ c.args.place (want_seen c.args.want.now) (stop_of c.bring_joined.result) (group_seen c.in-Some.group.now) (sym c.in-Some.ensures)
    (both_true (is_read_only (group_seen c.in-Some.group.now)) c.in-Some.group.now.def.dynamic (sym c.if-not-gains_with_set.ensures)).0
    (off_is c.in-Some.group.now.state (sym c.if-is_off.ensures)) c.bring_joined.ensures.brings

pub returns-in-Ok-clause-brings : goal.returns-in-Ok-clause-brings
returns-in-Ok-clause-brings g c =
    brought_on g.P.Disk.state g.P.Disk.possible c.args.tier.now _ c.args.journal.now _ c.args.site.now _ c.args.place (want_seen c.args.want.now) (stop_of c.bring_joined-in-Ok.result) (group_seen c.in-Some.group.now) (sym c.in-Some.ensures)
    (both_true (is_read_only (group_seen c.in-Some.group.now)) c.in-Some.group.now.def.dynamic (sym c.if-not-gains_with_set.ensures)).0
    _ (sym c.if-is_off.ensures)
    (λ v x. stands_made c.args.tier.now (record c.args.tier.now.clock { sets = c.make_moment.new.sets }) (record c.args.tier.now.clock { sets = c.note_moment.new.sets }) v c.in-Some.group.now.def.interval (record { now = refl; added = refl; round = refl; due = refl }) (record { now = refl; added = refl; round = refl; due = refl }) c.in-Ok.ensures.same c.in-Ok.ensures.ok c.note_moment.ensures x)
    c.bring_joined-in-Ok.ensures.brings
