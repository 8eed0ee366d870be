-- A journal that is kept over a disk is in the slots that are told.
use Rattle.std.proofs.Common.{◌≡◌, ℕ, true, false, Option, Some, None, sym, ◌∙◌}
use Rattle.outside.specs.Holding.{Held}
use Rattle.outside.specs.Sites.{SiteState}
use Rattle.cache_tier.specs.Worlds.{World}
use Rattle.tier_journal.specs.declared.journal.TierJournal.{TierJournal}
use Rattle.tier_journal.specs.KeptOver.{KeepsOver}
use Rattle.session_cli.specs.Outside.{IsInSlots}

never_kept : true ≡ false → ⊥
never_kept e = cc

module _ {D : Type 0} (state : D → SiteState) (possible : D → ℕ → Held → Type 0) where
  pub in_slots : (d : D) (k : Option TierJournal) (w : World) → w.journal.kept ≡ true → KeepsOver state possible d k w → IsInSlots (state d) w
  in_slots d None w kept none = absurd (never_kept (sym kept ∙ none))
  in_slots d (Some t) w kept x = record { there = x.there; told = x.certain.told; journal = t; keeps = x.keeps }
