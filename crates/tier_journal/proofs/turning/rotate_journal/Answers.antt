use Rattle.std.proofs.Common.{◌∙◌, Err, ap, inl, inr, subst}
use Rattle.tier_journal.specs.KeptOver.{KeepsOver}
use Rattle.cache_tier.specs.Rotations.{slot_entries}
use Rattle.tier_journal.proofs.TurnLaws.{broken_over, same_over, turned_over, unturned_over}
use Rattle.tier_journal.proofs.turning.rotate_journal.Goals as goal

pub returns-in-None-clause-turns : goal.returns-in-None-clause-turns
returns-in-None-clause-turns g c = λ w now over holds.
    unturned_over g.D.Disk.state g.D.Disk.possible _ c.args.disk.now w now over

pub returns-in-Ok-clause-turns : goal.returns-in-Ok-clause-turns
returns-in-Ok-clause-turns g c = λ w now over holds.
    let it = subst (λ k. KeepsOver g.D.Disk.state g.D.Disk.possible c.args.disk.now k w) c.in-Some.is over in
    turned_over g.D.Disk.state g.D.Disk.possible c.in-Some.journal _ c.args.disk.now c.rotate.new.d w now it c.rotate.ensures.moment
    (c.in-Ok.ensures.rotated w.tier.schema it.there w.journal (slot_entries w.tier) it.certain it.keeps holds) c.in-Ok.ensures.version
    (c.rotate.ensures.crash w.tier.schema it.there w.journal (slot_entries w.tier) it.certain it.keeps holds)

pub returns-in-Err-Limit-clause-turns : goal.returns-in-Err-Limit-clause-turns
returns-in-Err-Limit-clause-turns g c = λ w now over holds.
    let it = subst (λ k. KeepsOver g.D.Disk.state g.D.Disk.possible c.args.disk.now k w) c.in-Some.is over in
    same_over g.D.Disk.state g.D.Disk.possible c.in-Some.journal _ c.args.disk.now c.rotate.new.d w (c.rotate.ensures.stays (inl (c.in-Err-Limit.is ∙ ap Err c.in-Err-Limit.field-0-is))) now it

pub returns-in-Err-Memory-clause-turns : goal.returns-in-Err-Memory-clause-turns
returns-in-Err-Memory-clause-turns g c = λ w now over holds.
    let it = subst (λ k. KeepsOver g.D.Disk.state g.D.Disk.possible c.args.disk.now k w) c.in-Some.is over in
    same_over g.D.Disk.state g.D.Disk.possible c.in-Some.journal _ c.args.disk.now c.rotate.new.d w (c.rotate.ensures.stays (inr (c.in-Err-Memory.is ∙ ap Err c.in-Err-Memory.field-0-is))) now it

pub returns-in-Err-Disk-clause-turns : goal.returns-in-Err-Disk-clause-turns
returns-in-Err-Disk-clause-turns g c = λ w now over holds.
    let it = subst (λ k. KeepsOver g.D.Disk.state g.D.Disk.possible c.args.disk.now k w) c.in-Some.is over in
    broken_over g.D.Disk.state g.D.Disk.possible g.met.D.Disk.read_possible c.in-Some.journal _ c.args.disk.now c.rotate.new.d w c.faulty.result now it holds.tables c.rotate.ensures.tells
    (c.rotate.ensures.crash w.tier.schema it.there w.journal (slot_entries w.tier) it.certain it.keeps holds) c.faulty.ensures
