use Rattle.std.proofs.Common.{◌≡◌, ◌∙◌, ◌+◌, ◌<◌, ℕ, zero, suc, List, [], ◌∷◌, length, take, get_or, max, ap, arith}
use Rattle.table_state.specs.declared.history.Entry.{Entry}
use Rattle.session_cli.specs.Summaries.{greatest_ticket, ticket_in}
use Rattle.session_cli.proofs.summary.greatest_ticket.Goals as goal

greatest_more : (xs : List Entry) (i : ℕ) (x : Entry) → i < length xs → x ≡ get_or xs i x → max (ticket_in x) (greatest_ticket (take i xs)) ≡ greatest_ticket (take (i + 1) xs)
greatest_more [] i x lt is = absurd (omega arith)
greatest_more (y ∷ ys) zero x lt is = ap (λ e. max (ticket_in e) 0) is
greatest_more (y ∷ ys) (suc i) x lt is =
    let more = greatest_more ys i x (omega arith) is in
    let next : suc i + 1 ≡ suc (i + 1) = omega arith in
    rw next (omega (arith, more))

pub loop-entry-preserved : goal.loop-entry-preserved
loop-entry-preserved c =
    let more = greatest_more c.args.history.now c.loop-entry.entry-index c.entry-item.result c.loop-entry-test.true c.entry-item.is in
    let ticket = c.ticket_in.ensures in
    let before = c.loop-entry.invariant in
    c.max-greatest.ensures ∙ (let same : max c.ticket_in.result c.loop-entry.greatest ≡ max (ticket_in c.entry-item.result) (greatest_ticket (take c.loop-entry.entry-index c.args.history.now)) = cc in same) ∙ more
