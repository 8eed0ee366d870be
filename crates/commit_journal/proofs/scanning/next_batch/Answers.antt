use Rattle.std.proofs.Common.{Bool, Err, subst, ◌∙◌, drop, arith}
use Rattle.outside.specs.Holding.{slot_of}
use Rattle.commit_journal.specs.Scanning.{HeadSays}
use Rattle.commit_journal.proofs.ScanLaws.{left_is, head_is, body_next}
use Rattle.commit_journal.proofs.scanning.next_batch.Goals as goal

pub returns-in-Err-true-clause-next : goal.returns-in-Err-true-clause-next
returns-in-Err-true-clause-next g c = λ o h len.
    let bytes = slot_of c.args.slot o.slots in
    let head = head_is bytes c.in_ok-head.head.items c.args.place c.args.left c.min.result len c.min.ensures (c.in_ok-head.ensures.bytes o h (omega (arith, c.min.ensures))) in
    subst (λ (b : Bool). HeadSays (drop c.args.place bytes) (Err b)) c.in-Err-true.field-0-test
    (c.in-Err-true.ensures.says (drop c.args.place bytes) (left_is bytes c.args.place c.args.left len) (c.deref.ensures.value ∙ head))

pub returns-in-Err-false-clause-next : goal.returns-in-Err-false-clause-next
returns-in-Err-false-clause-next g c = λ o h len.
    let bytes = slot_of c.args.slot o.slots in
    let head = head_is bytes c.in_ok-head.head.items c.args.place c.args.left c.min.result len c.min.ensures (c.in_ok-head.ensures.bytes o h (omega (arith, c.min.ensures))) in
    subst (λ (b : Bool). HeadSays (drop c.args.place bytes) (Err b)) c.in-Err-false.field-0-test
    (c.in-Err-false.ensures.says (drop c.args.place bytes) (left_is bytes c.args.place c.args.left len) (c.deref.ensures.value ∙ head))

pub returns-clause-next : goal.returns-clause-next
returns-clause-next g c = λ o h len.
    let bytes = slot_of c.args.slot o.slots in
    let head = head_is bytes c.in_ok-head.head.items c.args.place c.args.left c.min.result len c.min.ensures (c.in_ok-head.ensures.bytes o h (omega (arith, c.min.ensures))) in
    body_next bytes c.args.place c.in-Ok.size c.in_ok-body-in-Ok.body.items
    (c.in_ok-body-in-Ok.ensures.bytes o (c.read_bytes.ensures.rests o h).0 (omega (arith, c.in-Ok.ensures.bound)))
    (c.in-Ok.ensures.says (drop c.args.place bytes) (left_is bytes c.args.place c.args.left len) (c.deref.ensures.value ∙ head))
