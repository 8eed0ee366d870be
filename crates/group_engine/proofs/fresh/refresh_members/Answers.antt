use Rattle.std.proofs.Common.{◌∙◌, ap, refl, subst}
use Rattle.stored_tier.specs.Refreshing.{has_moment}
use Rattle.group_engine.specs.Fresh.{IsCalled}
use Rattle.group_engine.proofs.RefreshedSets.{entries_noted}
use Rattle.group_engine.proofs.SameSites.{certain_from, performs_from}
use Rattle.group_engine.proofs.TriedLaws.{stands_noted}
use Rattle.group_engine.proofs.fresh.refresh_members.Goals as goal

pub returns-in-None-clause-performs : goal.returns-in-None-clause-performs
returns-in-None-clause-performs g c =
    performs_from _ _ _ _ _ _ c.told_since.ensures.looks.same
    (c.refresh_whole.ensures.refreshes c.args.tier.now
    (λ w x. stands_noted c.args.tier.now (record c.args.tier.now.clock { sets = c.note_moment.new.sets }) w c.args.interval (record { now = refl; added = refl; round = refl; due = refl }) c.note_moment.ensures c.requires.entry x))

pub returns-in-None-clause-entries : goal.returns-in-None-clause-entries
returns-in-None-clause-entries g c = λ i there.
    ap (λ k. has_moment k.sets.items i) c.refresh_whole.ensures.clock
    ∙ ap (λ s. has_moment s i) c.note_moment.ensures
    ∙ entries_noted c.args.interval c.args.tier.now.clock.now i c.args.tier.now.clock.sets.items ∙ there

pub returns-in-Some-clause-performs : goal.returns-in-Some-clause-performs
returns-in-Some-clause-performs g c =
    performs_from _ _ _ _ _ _ c.told_since.ensures.looks.same
    (c.refresh_changed.ensures.refreshes c.args.tier.now
    (λ w x. stands_noted c.args.tier.now (record c.args.tier.now.clock { sets = c.note_moment.new.sets }) w c.args.interval (record { now = refl; added = refl; round = refl; due = refl }) c.note_moment.ensures c.requires.entry x))

pub returns-in-Some-clause-entries : goal.returns-in-Some-clause-entries
returns-in-Some-clause-entries g c = λ i there.
    ap (λ k. has_moment k.sets.items i) c.refresh_changed.ensures.clock
    ∙ ap (λ s. has_moment s i) c.note_moment.ensures
    ∙ entries_noted c.args.interval c.args.tier.now.clock.now i c.args.tier.now.clock.sets.items ∙ there

pub returns-in-None-clause-called : goal.returns-in-None-clause-called
returns-in-None-clause-called g c = subst (λ s. IsCalled s (g.P.Disk.state c.refresh_whole.new.site) c.refresh_whole.result) c.told_since.ensures.looks.same c.refresh_whole.ensures.called

pub returns-in-None-clause-certain : goal.returns-in-None-clause-certain
returns-in-None-clause-certain g c =
    certain_from g.P.Disk.state g.P.Disk.possible c.args.site.now c.told_since.new.site c.told_since.ensures.looks _ c.refresh_whole.ensures.certain

pub returns-in-Some-clause-called : goal.returns-in-Some-clause-called
returns-in-Some-clause-called g c = subst (λ s. IsCalled s (g.P.Disk.state c.refresh_changed.new.site) c.refresh_changed.result) c.told_since.ensures.looks.same c.refresh_changed.ensures.called

pub returns-in-Some-clause-certain : goal.returns-in-Some-clause-certain
returns-in-Some-clause-certain g c =
    certain_from g.P.Disk.state g.P.Disk.possible c.args.site.now c.told_since.new.site c.told_since.ensures.looks _ c.refresh_changed.ensures.certain
