use Rattle.std.proofs.Common.{Some}
use Rattle.cache_tier.specs.Sets.{RefreshesIfShown}
use Rattle.stored_tier.specs.Performing.{stop_of}
use Rattle.cache_engine.specs.DueItems.{over}
use Rattle.cache_engine.proofs.DueItemLaws.{noted_item}
use Rattle.cache_engine.proofs.CauseLaws.{stop_caused_bank}
use Rattle.cache_engine.proofs.StillLaws.{over_still, refresh_still}
use Rattle.cache_engine.proofs.due_work.refresh_due.Goals as goal

pub returns-clause-does : goal.returns-clause-does
returns-clause-does g c = λ k.
    noted_item g.P.Disk.state g.P.Disk.possible (Some c.args.interval) (RefreshesIfShown c.args.interval) c.args.tier.now c.refresh_set-end.new.tier
    (over k c.args.site.now) (over k c.refresh_set-end.new.site) c.args.notes.now.items c.note_end.new.notes.items
    (stop_of c.refresh_set-end.result) c.note_end.result
    (over_still g.P.Disk.state g.P.Disk.possible c.args.tier.now c.refresh_set-end.new.tier k c.args.site.now c.refresh_set-end.new.site
    (stop_of c.refresh_set-end.result) (λ w w'. RefreshesIfShown c.args.interval w w' (stop_of c.refresh_set-end.result))
    c.refresh_set-end.ensures.certain
    (λ w w' did. refresh_still c.args.interval w w' (stop_of c.refresh_set-end.result) did)
    c.refresh_set-end.ensures.performs)
    (stop_caused_bank k (g.P.Disk.state c.args.site.now) (g.P.Disk.state c.refresh_set-end.new.site) (stop_of c.refresh_set-end.result)
    c.refresh_set-end.ensures.disk c.refresh_set-end.ensures.cause)
    (λ none. none) c.refresh_set-end.ensures.groups c.refresh_set-end.ensures.entries c.note_end.ensures.notes
    c.note_end.ensures.stop
