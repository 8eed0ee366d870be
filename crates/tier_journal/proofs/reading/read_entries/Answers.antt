use Rattle.std.proofs.Common.{◌<◌, ◌≡◌, ℕ, List, Option, length, rules, subst, sym, take, ◌+◌}
use Rattle.tier_journal.specs.declared.record.Record.{Record}
use Rattle.tier_journal.specs.Opening.{StandForAll, meanings, places_of}
use Rattle.tier_journal.specs.Reading.{IsRead}
use Rattle.tier_journal.proofs.ReadLaws.{first_unfit, places_more, stand_more}
use Rattle.tier_journal.proofs.reading.read_entries.Goals as goal

pub returns-in-None : goal.returns-in-None
returns-in-None c =
    let lt : c.loop-place.place-index < length c.args.entries.now = search rules in
    first_unfit c.args.schema.now c.args.entries.now c.loop-place.place-index c.loop-place-item.result (meanings c.loop-place.records.items) lt c.loop-place-item.is c.loop-place.invariant.0
    (subst (λ (r : Option Record). IsRead c.args.schema.now c.loop-place-item.result.1 r) c.in-None.is c.in_ok-read_entry.ensures)

pub loop-place-preserved : goal.loop-place-preserved
loop-place-preserved c =
    let lt : c.loop-place.place-index < length c.args.entries.now = search rules in
    subst (λ (l : List (ℕ × Record)).
    StandForAll c.args.schema.now (meanings l) (take (c.loop-place.place-index + 1) c.args.entries.now)
    × (places_of l ≡ places_of (take (c.loop-place.place-index + 1) c.args.entries.now))) (sym c.in_ok-push-in-Some.ensures.items) (
      stand_more c.args.schema.now c.loop-place.records.items (c.loop-place-item.result.0, c.in-Some.record) c.args.entries.now c.loop-place.place-index c.loop-place-item.result lt c.loop-place-item.is c.loop-place.invariant.0
          (subst (λ (r : Option Record). IsRead c.args.schema.now c.loop-place-item.result.1 r) c.in-Some.is c.in_ok-read_entry.ensures),
      places_more c.loop-place.records.items c.in-Some.record c.args.entries.now c.loop-place.place-index c.loop-place-item.result lt c.loop-place-item.is c.loop-place.invariant.1,
    )
