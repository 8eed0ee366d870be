use Rattle.std.proofs.Common.{◌≡◌, ℕ, length, rules, subst, sym}
use Rattle.commit_journal.specs.Resting.{IsPastLimit}
use Rattle.tier_journal.specs.Writing.{written_all}
use Rattle.tier_journal.proofs.KeepLaws.{full_past, kept_still, past_full}
use Rattle.tier_journal.proofs.journal.TierJournal.room_for.Goals as goal

pub returns-clause-full : goal.returns-clause-full
returns-clause-full c = λ schema slots j version entries k b.
    let is : c.len.result ≡ length c.args.batch.now.bytes.items = search rules in (
      λ e. past_full schema c.args.self.now slots j version c.args.batch.now entries c.args.self.now.journal.least k b
          (subst (λ (n : ℕ). IsPastLimit c.args.self.now.journal n) is (c.reserve.ensures.limit.0 e)),
      λ f. c.reserve.ensures.limit.1 (subst (λ (n : ℕ). IsPastLimit c.args.self.now.journal n) (sym is)
          (full_past schema c.args.self.now slots j version c.args.batch.now entries c.args.self.now.journal.least k b f)),
    )

pub returns-clause-kept : goal.returns-clause-kept
returns-clause-kept c = λ schema slots j k.
    kept_still schema c.args.self.now _ slots j k
    (c.reserve.ensures.rest slots (written_all schema j.flushed) (written_all schema j.tail) k.rests) c.reserve.ensures.same.slot.gate c.reserve.ensures.same.slot.generation
