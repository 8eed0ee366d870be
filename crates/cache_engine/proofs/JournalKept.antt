-- Whether a journal is kept stays over its ways.
use Rattle.std.proofs.Common.{◌≡◌, List, [], ◌∷◌, ◌∙◌}
use Rattle.cache_tier.specs.Journals.{Journal}
use Rattle.cache_tier.specs.JournalWays.{Leads, Renewal}
use Rattle.cache_tier.specs.WayFacts.{IsLed}

leads_kept : (renewals : List Renewal) (old new : Journal) → Leads old renewals new → new.kept ≡ old.kept
leads_kept [] old new goes = goes.kept
leads_kept (r ∷ renewals) old new goes = leads_kept renewals r.begun new goes.5 ∙ goes.1 ∙ goes.0.kept

pub led_kept : (old new : Journal) → IsLed old new → new.kept ≡ old.kept
led_kept old new led = leads_kept led.renewals old new led.leads
