use Rattle.std.proofs.Common.{ℕ, List, None, Option, Some, subst, inl}
use Rattle.outside.specs.declared.disk.Slot.{Slot}
use Rattle.commit_journal.specs.Layout.{Placed, Reads}
use Rattle.tier_journal.specs.Reading.{IsToldBy}
use Rattle.tier_journal.specs.Opening.{meanings}
use Rattle.tier_journal.proofs.ReadLaws.{counts_of, opened_keeps}
use Rattle.tier_journal.proofs.opening.in_words.Goals as goal

pub returns-in-Some-clause-shows : goal.returns-in-Some-clause-shows
returns-in-Some-clause-shows c = λ slots now reads rests. record {
  placed = c.args.opened.entries.items;
  damaged = c.args.opened.damaged;
  reads = reads;
  there = inl (
    subst (λ (l : List Placed). IsToldBy c.args.schema.now l c.in_ok-records.field-0.records.items (Some c.in-Some.place)) c.deref.ensures.value
        (subst (λ (u : Option ℕ). IsToldBy c.args.schema.now c.deref.result.now c.in_ok-records.field-0.records.items u) c.in-Some.is c.in_ok-records.ensures),
    counts_of c.args.opened.journal now c.args.opened.entries.items c.args.opened.damaged c.slot_of-slot.result rests c.slot_of-slot.ensures.none c.slot_of-slot.ensures.some,
  );
}

pub returns-in-None-damaged-clause-shows : goal.returns-in-None-damaged-clause-shows
returns-in-None-damaged-clause-shows c = λ slots now reads rests.
    let all =
    subst (λ (l : List Placed). IsToldBy c.args.schema.now l c.in_ok-records.field-0.records.items None) c.deref.ensures.value
    (subst (λ (u : Option ℕ). IsToldBy c.args.schema.now c.deref.result.now c.in_ok-records.field-0.records.items u) c.in-None.is c.in_ok-records.ensures) in (
      c.args.opened.entries.items,
      subst (λ (d : Option (Slot × ℕ)). Reads slots c.args.opened.entries.items d) c.in-None-damaged.is reads,
      all.0,
      all.1,
      opened_keeps c.args.schema.now _ now (meanings c.in_ok-records.field-0.records.items) c.args.opened.entries.items all.0 (rests c.in-None-damaged.is),
    )
