use Rattle.std.proofs.Common.{◌≡◌, ◌∙◌, ℕ, Ok, Err, ap, arith, subst, sym}
use Rattle.recalling.specs.declared.recalled.RecallError.{RecallError}
use Rattle.recalling.specs.Recalled.{IsRefusedFor}
use Rattle.tier_journal.specs.Opening.{Finds}
use Rattle.tier_opening.specs.Telling.{IsDamage, IsTold}
use Rattle.tier_opening.proofs.LeftLaws.{disk_rests}
use Rattle.tier_opening.proofs.PartLaws.{fails_by, in_error, in_order, leaves_by, leaves_found, opens_by, unfit_at}
use Rattle.tier_opening.proofs.opening.open_tier.Goals as goal

pub returns-in-Err-Unfit-clause-cause : goal.returns-in-Err-Unfit-clause-cause
returns-in-Err-Unfit-clause-cause g c = record {
  bank_later = (let le = c.in-Ok.ensures.cause.later in let same = c.in_ok-journal.ensures.cause.bank in omega (arith, le, same));
  disk_later = (let same = c.in-Ok.ensures.cause.disk in let le = c.in_ok-journal.ensures.cause.later in omega (arith, same, le));
  shares = c.in_ok-journal.ensures.cause.shared ∙ c.in-Ok.ensures.cause.shared;
  failed = λ o held bytes.
      subst (λ (p : ℕ). IsDamage c.args.start.0 o c.slot.result p) (sym c.in-Err-Unfit.place-is) (
      unfit_at g.P.Disk.state g.P.Disk.possible c.args.start.0 c.args.site.now c.schema.new.self c.found_journal.new.site c.in-Ok.schema c.in_ok-journal.journal c.in_ok-journal.records c.slot.result _
      c.in-Ok.ensures.told
      (subst (λ s. (o : Rattle.outside.specs.Holding.Held) → (g.P.Disk.state c.schema.new.self).held ≡ Rattle.std.proofs.Common.Some o → Rattle.commit_journal.specs.Layout.HaveBytes o.slots → Finds g.P.Disk.state g.P.Disk.possible c.found_journal.new.site s o (Rattle.tier_journal.specs.declared.opening.Found.TheVariants.Whole c.in_ok-journal.journal c.in_ok-journal.records)) c.as_slice.ensures c.in_ok-journal.ensures.found)
      c.slot.ensures
      (λ settings. subst (λ (e : RecallError). IsRefusedFor settings c.args.start.0 c.in-Ok.schema c.in_ok-journal.records.items e) c.in-Err-Unfit.field-0-is (c.in-Err-Unfit.ensures.unfit settings))
      o held bytes);
}

pub reopen-requires : goal.reopen-requires
reopen-requires g c =
    in_order _ c.in-Ok-recall.recalled c.in-Ok.schema (ap (λ p. p.0) c.into_parts-catalog.ensures) (ap (λ p. p.1) c.into_parts-catalog.ensures) c.in-Ok-recall.ensures.order c.in-Ok-recall.ensures.rise

pub returns-in-Ok-reopen-clause-opens : goal.returns-in-Ok-reopen-clause-opens
returns-in-Ok-reopen-clause-opens g c =
    opens_by g.P.Disk.state g.P.Disk.possible c.args.site.now c.schema.new.self c.found_journal.new.site c.reopen.new.site _ c.in-Ok-recall.recalled c.in_ok-journal.journal c.in_ok-journal.records
    (ap (λ p. p.0) c.into_parts-catalog.ensures) (ap (λ p. p.1) c.into_parts-catalog.ensures) (ap (λ p. p.2) c.into_parts-catalog.ensures)
    c.in-Ok.ensures.told (c.in_ok-journal.ensures.cause.shared ∙ c.in-Ok.ensures.cause.shared)
    (subst (λ s. (o : Rattle.outside.specs.Holding.Held) → (g.P.Disk.state c.schema.new.self).held ≡ Rattle.std.proofs.Common.Some o → Rattle.commit_journal.specs.Layout.HaveBytes o.slots → Finds g.P.Disk.state g.P.Disk.possible c.found_journal.new.site s o (Rattle.tier_journal.specs.declared.opening.Found.TheVariants.Whole c.in_ok-journal.journal c.in_ok-journal.records)) c.as_slice.ensures c.in_ok-journal.ensures.found)
    c.in_ok-journal.ensures.version c.in-Ok-recall.ensures.recalls c.in-Ok-recall.ensures.order c.in-Ok-recall.ensures.commits c.in-Ok-recall.ensures.next c.in-Ok-recall.ensures.rise
    c.recalled_law.ensures.stands c.in-Ok.ensures.crash g.met.P.Disk.certain c.in_ok-journal.ensures.crash c.in-Ok-reopen.tier c.in-Ok-reopen.ensures.reopens c.in-Ok-reopen.ensures.certain

pub returns-in-Err-clause-cause : goal.returns-in-Err-clause-cause
returns-in-Err-clause-cause g c = record {
  bank_later = (let first = c.in-Ok.ensures.cause.later in let same = c.in_ok-journal.ensures.cause.bank in let last = c.in-Err.ensures.cause.later in omega (arith, first, same, last));
  disk_later = (let first = c.in-Ok.ensures.cause.disk in let le = c.in_ok-journal.ensures.cause.later in let last = c.in-Err.ensures.cause.disk in omega (arith, first, le, last));
  shares = c.in-Err.ensures.cause.shares ∙ c.in_ok-journal.ensures.cause.shared ∙ c.in-Ok.ensures.cause.shared;
  failed =
      fails_by g.P.Disk.state g.P.Disk.possible c.args.site.now c.schema.new.self c.found_journal.new.site c.reopen.new.site _ c.in-Ok-recall.recalled c.in_ok-journal.journal c.in_ok-journal.records
      (ap (λ p. p.0) c.into_parts-catalog.ensures) (ap (λ p. p.1) c.into_parts-catalog.ensures) (ap (λ p. p.2) c.into_parts-catalog.ensures)
      c.in-Ok.ensures.told (c.in_ok-journal.ensures.cause.shared ∙ c.in-Ok.ensures.cause.shared)
      (subst (λ s. (o : Rattle.outside.specs.Holding.Held) → (g.P.Disk.state c.schema.new.self).held ≡ Rattle.std.proofs.Common.Some o → Rattle.commit_journal.specs.Layout.HaveBytes o.slots → Finds g.P.Disk.state g.P.Disk.possible c.found_journal.new.site s o (Rattle.tier_journal.specs.declared.opening.Found.TheVariants.Whole c.in_ok-journal.journal c.in_ok-journal.records)) c.as_slice.ensures c.in_ok-journal.ensures.found)
      c.in_ok-journal.ensures.version c.in-Ok-recall.ensures.recalls c.in-Ok-recall.ensures.order c.in-Ok-recall.ensures.commits c.in-Ok-recall.ensures.next c.in-Ok-recall.ensures.rise
      c.recalled_law.ensures.stands c.in-Ok.ensures.crash g.met.P.Disk.certain c.in_ok-journal.ensures.crash c.in-Err.error c.told_error.result
      (subst (λ s. IsTold s c.in-Err.error c.told_error.result) (c.in-Ok-copied_schema.ensures ∙ c.as_slice-2.ensures) c.told_error.ensures)
      (λ is. let rose = c.in-Err.ensures.cause.failed (ap (λ e. Err e) is) in let first = c.in-Ok.ensures.cause.later in let same = c.in_ok-journal.ensures.cause.bank in omega (arith, rose, first, same))
      c.in-Err.ensures.reopens c.in-Err.ensures.differs;
}

-- what a crash leaves where no tier began

pub returns-in-Err-Failed-clause-fails : goal.returns-in-Err-Failed-clause-fails
returns-in-Err-Failed-clause-fails g c =
    leaves_found g.P.Disk.state g.P.Disk.possible c.args.site.now c.schema.new.self c.schema.new.self (Err c.in-Err-Failed.field-0) c.in-Err-Failed.ensures.told c.in-Err-Failed.ensures.crash g.met.P.Disk.certain
    (disk_rests g.P.Disk.state g.P.Disk.possible c.schema.new.self) c.args.start.0 c.args.pace

pub returns-in-Err-Memory-clause-fails : goal.returns-in-Err-Memory-clause-fails
returns-in-Err-Memory-clause-fails g c =
    leaves_found g.P.Disk.state g.P.Disk.possible c.args.site.now c.schema.new.self c.schema.new.self (Err c.in-Err-Memory.field-0) c.in-Err-Memory.ensures.told c.in-Err-Memory.ensures.crash g.met.P.Disk.certain
    (disk_rests g.P.Disk.state g.P.Disk.possible c.schema.new.self) c.args.start.0 c.args.pace

pub returns-in_err-journal-clause-fails : goal.returns-in_err-journal-clause-fails
returns-in_err-journal-clause-fails g c =
    in_error c.from_residual.result
    (leaves_found g.P.Disk.state g.P.Disk.possible c.args.site.now c.schema.new.self c.found_journal.new.site (Ok c.in-Ok.schema) c.in-Ok.ensures.told c.in-Ok.ensures.crash g.met.P.Disk.certain
    c.found_journal.ensures.crash c.args.start.0 c.args.pace)

pub returns-in-Err-Unfit-clause-fails : goal.returns-in-Err-Unfit-clause-fails
returns-in-Err-Unfit-clause-fails g c =
    leaves_found g.P.Disk.state g.P.Disk.possible c.args.site.now c.schema.new.self c.found_journal.new.site (Ok c.in-Ok.schema) c.in-Ok.ensures.told c.in-Ok.ensures.crash g.met.P.Disk.certain
    c.in_ok-journal.ensures.crash c.args.start.0 c.args.pace

pub returns-in-Err-Memory-recall-clause-fails : goal.returns-in-Err-Memory-recall-clause-fails
returns-in-Err-Memory-recall-clause-fails g c =
    leaves_found g.P.Disk.state g.P.Disk.possible c.args.site.now c.schema.new.self c.found_journal.new.site (Ok c.in-Ok.schema) c.in-Ok.ensures.told c.in-Ok.ensures.crash g.met.P.Disk.certain
    c.in_ok-journal.ensures.crash c.args.start.0 c.args.pace

pub returns-in_default-clause-fails : goal.returns-in_default-clause-fails
returns-in_default-clause-fails g c =
    leaves_found g.P.Disk.state g.P.Disk.possible c.args.site.now c.schema.new.self c.found_journal.new.site (Ok c.in-Ok.schema) c.in-Ok.ensures.told c.in-Ok.ensures.crash g.met.P.Disk.certain
    c.in_ok-journal.ensures.crash c.args.start.0 c.args.pace

pub returns-in-Err-clause-fails : goal.returns-in-Err-clause-fails
returns-in-Err-clause-fails g c =
    leaves_by g.P.Disk.state g.P.Disk.possible c.args.site.now c.schema.new.self c.found_journal.new.site c.reopen.new.site _ c.in-Ok-recall.recalled c.in_ok-journal.journal c.in_ok-journal.records
    (ap (λ p. p.0) c.into_parts-catalog.ensures) (ap (λ p. p.1) c.into_parts-catalog.ensures) (ap (λ p. p.2) c.into_parts-catalog.ensures)
    c.in-Ok.ensures.told (c.in_ok-journal.ensures.cause.shared ∙ c.in-Ok.ensures.cause.shared)
    (subst (λ s. (o : Rattle.outside.specs.Holding.Held) → (g.P.Disk.state c.schema.new.self).held ≡ Rattle.std.proofs.Common.Some o → Rattle.commit_journal.specs.Layout.HaveBytes o.slots → Finds g.P.Disk.state g.P.Disk.possible c.found_journal.new.site s o (Rattle.tier_journal.specs.declared.opening.Found.TheVariants.Whole c.in_ok-journal.journal c.in_ok-journal.records)) c.as_slice.ensures c.in_ok-journal.ensures.found)
    c.in_ok-journal.ensures.version c.in-Ok-recall.ensures.recalls c.in-Ok-recall.ensures.order c.in-Ok-recall.ensures.commits c.in-Ok-recall.ensures.next c.in-Ok-recall.ensures.rise
    c.recalled_law.ensures.stands c.in-Ok.ensures.crash g.met.P.Disk.certain c.in_ok-journal.ensures.crash c.in-Err.error c.in-Err.ensures.reopens c.in-Err.ensures.certain
