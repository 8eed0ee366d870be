-- The journal's other slot that is begun anew, in the worlds whose journal is kept over the disk. (This project's
-- rule.)

use Rattle.std.specs.Prelude.{◌≡◌, ℕ, nat_lt, Bool, false, Option, Some, None}
use Rattle.outside.specs.Holding.{Held}
use Rattle.outside.specs.Sites.{SiteState}
use Rattle.cache_tier.specs.declared.reply.Reply.{Reply}
use Rattle.cache_tier.specs.Rotations.{Rotates, slot_entries}
use Rattle.cache_tier.specs.Worlds.{World}
use Rattle.tier_journal.specs.declared.batch.Batch.{Batch}
use Rattle.tier_journal.specs.declared.journal.TierJournal.{TierJournal}
use Rattle.tier_journal.specs.Batches.{Holds}
use Rattle.tier_journal.specs.Keeping.{slot_size}
use Rattle.tier_journal.specs.KeptOver.{IsWrittenOver, KeepsOver}

-- a journal is kept, and its live slot is longer than so many bytes
abbrev pub is_long_kept : Option TierJournal → ℕ → Bool
is_long_kept None rotate_bytes = false
is_long_kept (Some t) rotate_bytes = nat_lt rotate_bytes (slot_size t)

-- Of each world of this moment, whose journal is kept over the disk: where the batch has what a new slot begins with,
-- the journal is rotated, as the abstract tier has it, and nothing else of the world changes.
abbrev pub TurnsOver : {D : Type 0} → (D → SiteState) → (D → ℕ → Held → Type 0) → Option TierJournal
    → Option TierJournal → D → D → Batch → Option Reply → Type 0
TurnsOver state possible old new d d' batch stop =
    (w : World) → w.moment ≡ (state d).moment → KeepsOver state possible d old w
    → Holds 2 w.tier.schema batch (slot_entries w.tier) → IsWrittenOver state possible new d d' stop Rotates w
