use Rattle.std.proofs.Common.{◌≡◌, ◌+◌, ◌-◌, [], ◌∷◌, ◌++◌, List, ℕ, ap, inl, inr, subst, arith, drop, length, ◌∙◌, sym}
use Rattle.outside.specs.Holding.{slot_of}
use Rattle.outside.proofs.Moments.{rests_then}
use Rattle.commit_journal.specs.declared.scan.Next.{Next}
use Rattle.commit_journal.specs.Scanning.{IsNext, NextFits}
use Rattle.commit_journal.proofs.LookLaws.{BodiesSoFar, bodies_end, bodies_on}
use Rattle.commit_journal.proofs.looking.read_bodies.Goals as goal

pub returns-in-Closed-clause-bodies : goal.returns-in-Closed-clause-bodies
returns-in-Closed-clause-bodies g c = λ o h long.
    let l = c.loop-place in
    let bytes = slot_of c.args.slot o.slots in
    let size : c.in_ok-len.len ≡ length bytes = l.invariant.size o h in
    let next = subst (λ (n : Next). IsNext (drop l.place bytes) n) c.in-Closed.is (c.in_ok-next_batch.ensures.next o (l.invariant.rests o h).0 (omega arith)) in
    bodies_end bytes l.bodies.items l.place (l.invariant.so o h long) (inl next)

pub returns-in-Cut-clause-bodies : goal.returns-in-Cut-clause-bodies
returns-in-Cut-clause-bodies g c = λ o h long.
    let l = c.loop-place in
    let bytes = slot_of c.args.slot o.slots in
    let size : c.in_ok-len.len ≡ length bytes = l.invariant.size o h in
    let next = subst (λ (n : Next). IsNext (drop l.place bytes) n) c.in-Cut.is (c.in_ok-next_batch.ensures.next o (l.invariant.rests o h).0 (omega arith)) in
    bodies_end bytes l.bodies.items l.place (l.invariant.so o h long) (inr next)

pub loop-place-preserved : goal.loop-place-preserved
loop-place-preserved g c =
    let l = c.loop-place in
    let fits = subst (λ (n : Next). NextFits (c.in_ok-len.len - l.place) n) c.in-Body.is c.in_ok-next_batch.ensures.fits in
    record {
      so = λ o h long.
          let bytes = slot_of c.args.slot o.slots in
          let size : c.in_ok-len.len ≡ length bytes = l.invariant.size o h in
          let next = subst (λ (n : Next). IsNext (drop l.place bytes) n) c.in-Body.is (c.in_ok-next_batch.ensures.next o (l.invariant.rests o h).0 (omega arith)) in
          let on = bodies_on bytes l.bodies.items l.place (l.invariant.so o h long) next.0 c.in-Body.body.items next.1 next.2 next.3 in
          let at : l.place + 5 + length c.in-Body.body.items ≡ l.place + (5 + c.len.result) = omega (arith, c.len.ensures, c.in-Body.body.ok.0) in
          let items : c.push.new.self.items ≡ l.bodies.items ++ c.in-Body.body.items ∷ [] = c.in_ok-push-in-Body.ensures.items ∙ ap (λ (x : List ℕ). l.bodies.items ++ x ∷ []) c.from_vec.ensures in
          subst (λ (n : ℕ). BodiesSoFar bytes c.push.new.self.items n) at (subst (λ (b : List (List ℕ)). BodiesSoFar bytes b (l.place + 5 + length c.in-Body.body.items)) (sym items) on);
      within = λ o h long. omega (arith, fits, c.len.ensures, c.in-Body.body.ok.0);
      size = l.invariant.size;
      rests = rests_then g.D.Disk.state g.D.Disk.possible c.args.d.now l.d c.next_batch.new.d l.invariant.rests c.next_batch.ensures.rests;
      bank = c.next_batch.ensures.cause.bank ∙ l.invariant.bank;
      shared = c.next_batch.ensures.cause.shared ∙ l.invariant.shared;
      later = omega (arith, c.next_batch.ensures.cause.later, l.invariant.later);
    }
