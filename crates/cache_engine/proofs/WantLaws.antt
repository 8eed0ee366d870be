-- Where memory is wanting, and all stays.
use Rattle.std.proofs.Common.{◌≡◌, Option, Some, None, Err, refl, inr, le_refl}
use Rattle.tier_base.specs.declared.code.Code.TheVariants as code
use Rattle.tier_base.specs.declared.number.SessionId.{SessionId}
use Rattle.row_types.specs.declared.rule.Refused.{Refused}
use Rattle.row_types.specs.declared.rule.Refused.TheVariants as refused
use Rattle.outside.specs.Holding.{Held}
use Rattle.sql_subset.specs.declared.stmt.Stmt.{Stmt}
use Rattle.cache_tier.specs.Worlds.{Part, Tries, World, faulty}
use Rattle.tier_statements.specs.Replies.{reply_to}
use Rattle.stored_tier.specs.declared.tier.Tier.{Tier as Stored}
use Rattle.stored_tier.specs.Performing.{Executes, IsCalm, IsCaused, KeepsSlots, Performs, PerformsIn, reply_of}
use Rattle.outside.specs.Sites.{SiteState}

-- in each world a part may want memory
pub wanting : (t : Stored) (site : SiteState) (part : Part) → Performs t t site site (λ w w'. Tries part w w' (faulty code.Memory))
wanting t site part = λ w at stands unshared. record { world = w; at = at; stands = stands; is = inr (refl, refl) }

pub executes_wanting : (t : Stored) (site : SiteState) (id : SessionId) (st : Stmt) → PerformsIn t t site site id (Executes st) (Err refused.Memory)
executes_wanting t site id st = λ s has w at stands unshared. record { world = w; at = at; stands = stands; is = inr (refl, refl) }

-- so it is where a premise is to hold, too
pub wanting_where : (t : Stored) (site : SiteState) (premise : World → Type 0) (part : Part) → Performs t t site site (λ w w'. premise w → Tries part w w' (faulty code.Memory))
wanting_where t site premise part = λ w at stands unshared. record { world = w; at = at; stands = stands; is = λ holds. inr (refl, refl) }

pub told_as : (r : Refused) → reply_of (Err r) ≡ reply_to r
told_as (refused.Rule rule) = refl
told_as refused.Memory = refl

pub slots_stay : (held : Option Held) → KeepsSlots held held
slots_stay None = tt
slots_stay (Some there) = refl

-- the reply of want of memory has its cause at each site
pub wanting_caused : (site : SiteState) → IsCaused site site (faulty code.Memory)
wanting_caused site = record {
  later = le_refl site.bank_faults;
  moment = le_refl site.moment;
  shares = refl;
  slots = slots_stay site.held;
  bare = refl;
  bank = λ told. absurd (Prim.cc told);
  disk = refl;
}

pub wanting_calm : IsCalm (reply_of (Err refused.Memory))
wanting_calm = λ site. wanting_caused site
