use Rattle.std.proofs.Common.{take, ◌≡◌}
use Rattle.tier_journal.specs.Opening.{StandForAll, meanings, places_of}
use Rattle.tier_journal.proofs.reading.read_entries.Given as goal

abbrev pub invariant-loop-place : goal.invariant-loop-place
invariant-loop-place l =
    StandForAll l.schema (meanings l.records.items) (take l.place-index l.entries)
    × (places_of l.records.items ≡ places_of (take l.place-index l.entries))
