use Rattle.std.proofs.Common.{ℕ, Option, subst}
use Rattle.outside.specs.declared.disk.Slot.{Slot}
use Rattle.commit_journal.specs.Layout.{Reads}
use Rattle.commit_journal.proofs.LookLaws.{has_bodies, rest_long}
use Rattle.commit_journal.specs.Layout.{entries_of}
use Rattle.commit_journal.proofs.looking.with_bodies.Goals as goal

pub returns-clause-shows : goal.returns-clause-shows
returns-clause-shows g c = λ o now h reads rests.
    let r = rests c.in-None.is in
    let flushed = entries_of c.args.opened.entries.items in
    let long = rest_long c.args.opened.journal now.slots flushed r in (
      c.args.opened.entries.items,
      subst (λ (d : Option (Slot × ℕ)). Reads o.slots c.args.opened.entries.items d) c.in-None.is reads,
      r,
      has_bodies c.args.opened.journal now.slots flushed r c.in_ok-bodies-in-None.bodies.items (c.in_ok-bodies-in-None.ensures.bodies now h long),
    )
