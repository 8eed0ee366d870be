-- The sets before a place are refreshed, and there is room for the notes of the others.
use Rattle.std.proofs.Common.{◌≡◌, ◌≤◌, ◌+◌, Option, drop, length, true, vec_capacity, vec_len}
use Rattle.std.specs.List.{list_all}
use Rattle.stored_tier.specs.Refreshing.{has_moment}
use Rattle.stored_tier.specs.Stored.{IsSound}
use Rattle.tier_journal.specs.declared.journal.TierJournal.{TierJournal}
use Rattle.cache_engine.specs.DueItems.{over}
use Rattle.cache_engine.proofs.DueItemLaws.{SetsSoFar}
use Rattle.cache_engine.proofs.due_work.refresh_sets.Given as goal

abbrev pub invariant-loop-interval : goal.invariant-loop-interval
invariant-loop-interval g l = record {
  does : (k : Option TierJournal) → SetsSoFar g.P.Disk.state g.P.Disk.possible l.intervals l.interval-index l.fn.tier
      l.tier (over k l.fn.site) (over k l.site) l.fn.notes.items l.notes.items;
  sound : IsSound l.tier;
  entries : list_all (has_moment l.tier.clock.sets.items) (drop l.interval-index l.intervals) ≡ true;
  room : vec_len l.notes + length l.intervals ≤ vec_capacity l.notes + l.interval-index;
}
