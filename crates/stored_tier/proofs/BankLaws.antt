-- Calls of the bank at a site, and the worlds at it.
use Rattle.std.proofs.Common.{◌≡◌, ◌≤◌, Option, Some, None, List, refl, sym, ◌∙◌, subst}
use Rattle.table_state.specs.declared.history.Entry.{Entry}
use Rattle.outside.specs.Calls as site
use Rattle.outside.specs.Holding.{Held}
use Rattle.outside.specs.Others.{Around}
use Rattle.cache_tier.specs.TierStates.{Tier}
use Rattle.cache_tier.specs.Worlds.{BankCall, World}
use Rattle.stored_tier.specs.declared.tier.Tier.{Tier as Stored}
use Rattle.stored_tier.specs.Sites.{IsAt, IsServed}
use Rattle.outside.specs.Sites.{SiteState}
use Rattle.stored_tier.specs.Stored.{IsStoredAs}

-- the site tells still what it holds
pub record TellsBehind (old : Held) (new : Option Held) (step : Held → Held → Type 0) : Type 0 where
  pub there : Held
  pub told : new ≡ Some there
  pub is : step old there

pub told_behind : (old : Held) (was new : Option Held) (step : Held → Held → Type 0) → was ≡ Some old → site.Told was new step → TellsBehind old new step
told_behind old was new step is told = by new (subst (λ o. site.Told o new step) is told)
  where
    by : (o : Option Held) → site.Told (Some old) o step → TellsBehind old o step
    by None told = absurd told
    by (Some held) told = record { there = held; told = refl; is = told }

-- the world behind, with this tier
abbrev pub behind : World → Tier → Held → SiteState → World
behind w a held seen = record w { tier = a; history = held.history; bank_faults = seen.bank_faults; moment = seen.moment }

pub behind_at : (w : World) (a : Tier) (before after : SiteState) (held : Held) → IsAt before w → after.held ≡ Some held → after.shared ≡ before.shared → IsAt after (behind w a held after)
behind_at w a before after held at told shares =
    record { there = held; told = told; history = refl; faults = refl; moment = refl; shared = at.shared ∙ sym shares }

-- a call of the bank, in the worlds
pub call_behind : (w : World) (a : Tier) (before after : SiteState) (held : Held) (step : List Entry → List Entry → Type 0)
    → (at : IsAt before w) → site.BankCall before.shared step at.there held → before.bank_faults ≤ after.bank_faults → before.moment ≤ after.moment
    → BankCall step w (behind w a held after)
call_behind w a before after held step at call faults moment = record {
  history = subst (λ s. Around s step w.history held.history) (sym at.shared) (subst (λ h. Around before.shared step h held.history) (sym at.history) call.history);
  journal = refl;
  faults = subst (λ n. n ≤ after.bank_faults) (sym at.faults) faults;
  disk = refl;
  moment = subst (λ n. n ≤ after.moment) (sym at.moment) moment;
  shared = refl;
}

-- nothing was called
pub stays_at : (t : Stored) (seen : SiteState) (w : World) (does : World → Type 0) → IsAt seen w → IsStoredAs t w.tier → does w → IsServed t seen does
stays_at t seen w does at stored is = record { world = w; at = at; stored = stored; is = is }
