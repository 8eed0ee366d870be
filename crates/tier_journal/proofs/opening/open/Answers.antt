use Rattle.tier_journal.proofs.ReadLaws.{new_found}
use Rattle.tier_journal.proofs.opening.open.Goals as goal

pub returns-clause-new : goal.returns-clause-new
returns-clause-new g c = λ o told blank.
    let x = c.in_ok-opened.ensures.opened o told blank.have in
    new_found c.args.schema.now o.slots x.now.slots c.in_ok-opened.opened.journal c.in_ok-found.found blank (c.in_ok-opened.ensures.new o told blank) c.in_ok-found.ensures.journal
    (c.in_ok-found.ensures.shows o.slots x.now.slots x.reads x.rests)
