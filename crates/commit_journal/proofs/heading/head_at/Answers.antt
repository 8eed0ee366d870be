use Rattle.std.proofs.Common.{ap, ◌∙◌, arith, List, ℕ}
use Rattle.outside.specs.Holding.{slot_of}
use Rattle.commit_journal.specs.Layout.{head_of}
use Rattle.commit_journal.proofs.OpenLaws.{head_read}
use Rattle.commit_journal.proofs.heading.head_at.Goals as goal

pub returns-clause-head : goal.returns-clause-head
returns-clause-head g c = λ o h len.
    c.head_in.ensures.head ∙ ap (λ (l : List ℕ). head_of l) c.deref.ensures.value
    ∙ head_read (slot_of c.args.slot o.slots) c.in_ok-front.front.items c.args.len c.min.result len c.min.ensures (c.in_ok-front.ensures.bytes o h (omega (arith, c.min.ensures)))
