use Rattle.std.proofs.Common.{◌≡◌, ℕ, ◌+◌, ◌++◌, ◌∷◌, Some, arith, ◌∙◌, ap, subst}
use mathlib.Core.List.{IsPrefix}
use Rattle.std.proofs.lemmas.List.Elements.{All-pop, All-push, All-same}
use Rattle.turn_lock.specs.Places.{AllBegin, occurrences, total}
use Rattle.turn_lock.specs.Passes.{lock_id, pass_lock, pass_parts, pass_seen, pass_told, pass_given}
use Rattle.turn_lock.specs.declared.held.Pass.{Pass}
use Rattle.turn_lock.proofs.Counts.{all_split, occurrences-append, total_snoc}
use Rattle.turn_lock.proofs.lock.TurnLock.join_all.Goals as goal

pub loop-other-preserved : goal.loop-other-preserved
loop-other-preserved g c =
    let old = c.loop-other.invariant in
    let did = c.join.ensures in
    let popped = c.in-Some.ensures.items in
    let other = c.in-Some.other in
    let sum : (f : Pass g.row.V.Denot g.row.V-Item.Denot g.V.Grows → ℕ) → total f c.loop-other.others.items ≡ total f c.pop.new.self.items + f other =
    λ f. ap (total f) popped ∙ total_snoc f c.pop.new.self.items other in record {
      same = did.same_lock ∙ old.same;
      seen = did.same_seen ∙ old.seen;
      parts =
          let now = did.parts in
          let all = sum pass_parts in
          let was = old.parts in
          omega arith;
      lock = (All-pop (λ (q : Pass g.row.V.Denot g.row.V-Item.Denot g.V.Grows). pass_lock q ≡ lock_id c.args.self.now) _ _ (Some other) popped old.lock).0;
      told = λ x told rest.
          let both = all_split (pass_told c.loop-other.pass) (pass_seen other) (pass_told other) x (subst (λ m. AllBegin m x) {y = pass_told c.loop-other.pass ++ pass_seen other ∷ pass_told other} did.told told) in
          let P = λ (q : Pass g.row.V.Denot g.row.V-Item.Denot g.V.Grows). IsPrefix (pass_seen q) x × AllBegin (pass_told q) x in
          old.told x both.0 (All-same P _ _ popped (All-push P _ _ rest (both.1, both.2)));
      given = λ k.
          let now : occurrences k (pass_given c.join.new.pass) ≡ occurrences k (pass_given c.loop-other.pass) + occurrences k (pass_given other) = ap (occurrences k) did.given ∙ occurrences-append k (pass_given c.loop-other.pass) (pass_given other) in
          let all = sum (λ q. occurrences k (pass_given q)) in
          let was = old.given k in
          omega arith;
    }

pub returns-clause-told : goal.returns-clause-told
returns-clause-told g c = λ l told. c.loop-other.invariant.told l told (λ k d less. absurd (grind (arith, c.in_default.ensures.len, c.in_default.ensures.cases)))
