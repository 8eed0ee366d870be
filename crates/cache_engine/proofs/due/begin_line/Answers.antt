use Rattle.std.proofs.Common.{◌∙◌, ap, refl}
use Rattle.stored_tier.specs.Refreshing.{moment_in}
use Rattle.cache_engine.proofs.DueStored.{line_done}
use Rattle.cache_engine.proofs.due.begin_line.Goals as goal

pub returns-clause-performs : goal.returns-clause-performs
returns-clause-performs g c =
    line_done g.P.Disk.state g.P.Disk.possible c.args.tier.now c.set_clock.new.tier c.settle_and_do-stop.new.tier c.args.doubt.now c.settle_and_do-stop.new.doubt
    (record (c.args.tier.now.clock) { now = c.moment_of-now.result; added = c.in-Some.added; sets = c.in_ok-sets.sets })
    c.args.base.0 c.moment_of-now.result c.in-Some.added c.args.line.now c.args.journal.now c.settle_and_do-stop.new.journal
    c.args.site.now c.settle_and_do-stop.new.site
    c.settle_and_do-stop.new.notes.items c.from_vec.result c.settle_and_do-stop.result c.in-Some.ensures c.moment_of-now.ensures refl
    (λ i. c.in_ok-sets.ensures.same i ∙ ap (λ s. moment_in s i) c.as_slice-2.ensures.value)
    c.set_clock.ensures.set c.from_vec.ensures c.settle_and_do-stop.ensures.performs
