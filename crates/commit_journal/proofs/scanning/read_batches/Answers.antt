use Rattle.std.proofs.Common.{◌≡◌, ◌+◌, ◌-◌, List, ℕ, subst, arith, drop, length, ◌∙◌}
use Rattle.outside.specs.Holding.{slot_of}
use Rattle.outside.proofs.Moments.{rests_then}
use Rattle.journal_entries.specs.declared.standing.Ending.{Ending}
use Rattle.journal_entries.specs.declared.standing.Ending.TheVariants.{Whole, Stops}
use Rattle.journal_entries.specs.Bodies.{Body}
use Rattle.commit_journal.specs.declared.scan.Next.{Next}
use Rattle.commit_journal.specs.Scanning.{IsNext, NextFits}
use Rattle.commit_journal.proofs.ScanLaws.{ScanSoFar, scan_closed, scan_cut, scan_broken, scan_on}
use Rattle.commit_journal.proofs.scanning.read_batches.Goals as goal

pub returns-in-Closed-clause-scanned : goal.returns-in-Closed-clause-scanned
returns-in-Closed-clause-scanned g c = λ o h len.
    let l = c.loop-place in
    let bytes = slot_of c.args.slot o.slots in
    let next = subst (λ (n : Next). IsNext (drop l.place bytes) n) c.in-Closed.is (c.in_ok-next_batch.ensures.next o (l.invariant.rests o h).0 (omega arith)) in
    scan_closed c.args.version bytes c.args.entries.now.items l.entries.items l.standing l.place (l.invariant.scan o h len) next.0 next.1 next.2 next.3

pub returns-in-Cut-clause-scanned : goal.returns-in-Cut-clause-scanned
returns-in-Cut-clause-scanned g c = λ o h len.
    let l = c.loop-place in
    let bytes = slot_of c.args.slot o.slots in
    let next = subst (λ (n : Next). IsNext (drop l.place bytes) n) c.in-Cut.is (c.in_ok-next_batch.ensures.next o (l.invariant.rests o h).0 (omega arith)) in
    scan_cut c.args.version bytes c.args.entries.now.items l.entries.items l.standing l.place (l.invariant.scan o h len) next.0 next.1 next.2

pub returns-in-Stops-clause-scanned : goal.returns-in-Stops-clause-scanned
returns-in-Stops-clause-scanned g c = λ o h len.
    let l = c.loop-place in
    let bytes = slot_of c.args.slot o.slots in
    let next = subst (λ (n : Next). IsNext (drop l.place bytes) n) c.in-Body.is (c.in_ok-next_batch.ensures.next o (l.invariant.rests o h).0 (omega arith)) in
    let read = c.in_ok-at-in-Body.ensures in
    let body = subst (λ (e : Ending). Body c.args.version l.standing (l.place + 5) c.deref.result.now read.0 e) c.in-Stops.is read.2 in
    scan_broken c.args.version bytes c.args.entries.now.items l.entries.items l.standing l.place (l.invariant.scan o h len) next.0 c.in-Body.body.items next.1 next.2 next.3 read.0 c.read_body.new.entries.items read.1 c.in-Stops.at
    (subst (λ (b : List ℕ). Body c.args.version l.standing (l.place + 5) b read.0 (Stops c.in-Stops.at)) c.deref.ensures.value body)

pub returns-in-Stops-clause-rests : goal.returns-in-Stops-clause-rests
returns-in-Stops-clause-rests g c =
    rests_then g.D.Disk.state g.D.Disk.possible c.args.d.now c.loop-place.d c.next_batch.new.d c.loop-place.invariant.rests c.next_batch.ensures.rests

pub loop-place-preserved : goal.loop-place-preserved
loop-place-preserved g c =
    let l = c.loop-place in
    let fits = subst (λ (n : Next). NextFits (c.args.len - l.place) n) c.in-Body.is c.in_ok-next_batch.ensures.fits in
    let read = c.in_ok-at-in-Body.ensures in
    record {
      within = omega (arith, fits, c.len.ensures);
      scan = λ o h len.
          let bytes = slot_of c.args.slot o.slots in
          let next = subst (λ (n : Next). IsNext (drop l.place bytes) n) c.in-Body.is (c.in_ok-next_batch.ensures.next o (l.invariant.rests o h).0 (omega arith)) in
          let body = subst (λ (e : Ending). Body c.args.version l.standing (l.place + 5) c.deref.result.now read.0 e) c.in-Whole.is read.2 in
          let at : l.place + 5 + length c.in-Body.body.items ≡ l.place + (5 + c.len.result) = omega (arith, c.len.ensures, c.in-Body.body.ok.0) in
          subst (λ (p : ℕ). ScanSoFar c.args.version bytes c.args.entries.now.items c.read_body.new.entries.items c.in-Whole.behind p) at
          (scan_on c.args.version bytes c.args.entries.now.items l.entries.items l.standing l.place (l.invariant.scan o h len) next.0 c.in-Body.body.items next.1 next.2 next.3 read.0 c.read_body.new.entries.items read.1 c.in-Whole.behind
          (subst (λ (b : List ℕ). Body c.args.version l.standing (l.place + 5) b read.0 (Whole c.in-Whole.behind)) c.deref.ensures.value body));
      rests = rests_then g.D.Disk.state g.D.Disk.possible c.args.d.now l.d c.next_batch.new.d l.invariant.rests c.next_batch.ensures.rests;
      bank = c.next_batch.ensures.cause.bank ∙ l.invariant.bank;
      shared = c.next_batch.ensures.cause.shared ∙ l.invariant.shared;
      later = omega (arith, c.next_batch.ensures.cause.later, l.invariant.later);
    }
