-- A write that is passed on, over the stored tier. (TimesTen Cache User's Guide, "Setting a passthrough level"; tickets
-- and the journal are this project's.)

use Rattle.std.specs.Prelude.{◌≡◌, ℕ, [], Option, Some, None, Result, Ok, Err, false}
use Rattle.tier_base.specs.declared.number.SessionId.{SessionId}
use Rattle.row_types.specs.declared.rule.Refused.{Refused}
use Rattle.evaluator.specs.declared.change.Change.{Change}
use Rattle.outside.specs.Holding.{Held}
use Rattle.outside.specs.Sites.{SiteState}
use Rattle.outside.specs.declared.fault.BankError.{BankError}
use Rattle.outside.specs.declared.fault.BankError.TheVariants.{Failed, Memory}
use Rattle.outside.specs.declared.site.Done.{Done as Wrote}
use Rattle.outside.specs.declared.site.Done.TheVariants.{Rows, Broken}
use Rattle.resolution.specs.Writes.{change_seen}
use Rattle.tier_journal.specs.declared.journal.TierJournal.{TierJournal}
use Rattle.tier_journal.specs.KeptOver.{KeepsOver}
use Rattle.cache_tier.specs.PassedSteps.{PassesOn}
use Rattle.cache_tier.specs.Routes.{is_written_through}
use Rattle.cache_tier.specs.TierStates.{Session}
use Rattle.cache_tier.specs.Worlds.{IsUnshared, Tries, World}
use Rattle.cache_tier.specs.declared.reply.Reply.{Reply}
use Rattle.stored_tier.specs.declared.tier.Tier.{Tier as Stored}
use Rattle.stored_tier.specs.Performing.{StandsFor, reply_of}
use Rattle.stored_tier.specs.Sites.{IsAt}
use Rattle.stored_tier.specs.Stored.{HasSession}
use Rattle.session_engine.specs.Doubting.{IsEndedOver}
use Rattle.session_engine.specs.declared.doubt.Doubt.{Doubt}
use Rattle.session_engine.specs.declared.doubt.Doubted.TheVariants.{PassedWrite}

-- the ticket of a failed call is in doubt
abbrev pub doubt_of : SessionId → ℕ → Result Wrote BankError → Option Doubt
doubt_of id ticket (Ok (Rows n)) = None
doubt_of id ticket (Ok (Broken rule)) = None
doubt_of id ticket (Err Memory) = None
doubt_of id ticket (Err Failed) = Some (record { ticket = ticket; session = id; of = PassedWrite; entered = [] })

-- For each world at the site before, for which the old tier stands, in which the table is of no writethrough group, and
-- over whose disk the old journal is kept: a world at the site behind, which comes by the write that is passed on.
abbrev pub EndsPassed : {D : Type 0} → (D → SiteState) → (D → ℕ → Held → Type 0) → Stored → Stored → Option Doubt
    → Option TierJournal → Option TierJournal → D → D → SessionId → Change → Result Reply Refused → Type 0
EndsPassed state possible old new doubt k k' d d' id change result =
    (w : World) (s : Session) → HasSession old id s → is_written_through w.tier change.table ≡ false
    → IsAt (state d) w → StandsFor old w → IsUnshared w → KeepsOver state possible d k w
    → IsEndedOver state possible new doubt k' d' (Some (reply_of result))
    (λ w'. Tries (PassesOn s (change_seen change)) w w' (reply_of result))
