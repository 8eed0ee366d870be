-- Why a question for a ticket failed.
use Rattle.std.proofs.Common.{◌≡◌, ℕ, Bool, true, false, Some, Result, Ok, Err, [], ◌∷◌, refl, ap, ◌∙◌, count_by}
use Rattle.tier_base.specs.declared.code.Code.{Code}
use Rattle.outside.specs.Bank.{TellsRecorded}
use Rattle.outside.specs.Calls as site
use Rattle.outside.specs.Faults.{BankHasCause}
use Rattle.outside.specs.Sites.{SiteState}
use Rattle.outside.specs.declared.fault.BankError.{BankError}
use Rattle.outside.specs.declared.fault.BankError.TheVariants.{Failed}
use Rattle.cache_tier.specs.Steps.{note_tells}
use Rattle.cache_tier.specs.declared.reply.Note.{Note}
use Rattle.stored_tier.specs.Performing.{KeepsSlots}
use Rattle.stored_tier.proofs.StandingLaws.{slots_kept}
use Rattle.session_engine.specs.Settling.{IsAsked, note_of}
use Rattle.session_engine.specs.declared.doubt.Doubt.{Doubt}
use Rattle.session_engine.proofs.DoubtLaws.{AskedOnce}

-- the cause of a question that failed

quiet_note : (d : Doubt) (stands : Bool) (c : Code) → count_by (note_tells c) (note_of d stands ∷ []) ≡ 0
quiet_note d true c = refl
quiet_note d false c = refl

slots_asked : (ticket : ℕ) (before after : SiteState) (result : Result Bool BankError) → AskedOnce ticket before after result → KeepsSlots before.held after.held
slots_asked ticket before after result asked = slots_kept before.held after.held (site.BankCall before.shared (TellsRecorded ticket result)) (λ o n step. step.slots) asked.told

pub asked_known : (d : Doubt) (before after : SiteState) (stands : Bool) (note : Note) → note ≡ note_of d stands → AskedOnce d.ticket before after (Ok stands) → BankHasCause before after (Ok stands) → IsAsked before after (Ok (Some note))
asked_known d before after stands note told asked c = record {
  cause = record { later = c.later; failed = λ none. cc; disk = c.disk; shared = c.shared };
  moment = asked.moment;
  slots = slots_asked d.ticket before after (Ok stands) asked;
  quiet = λ code. ap (λ n. count_by (note_tells code) (n ∷ [])) told ∙ quiet_note d stands code;
}

pub asked_failed : (d : Doubt) (before after : SiteState) (e : BankError) → AskedOnce d.ticket before after (Err e) → BankHasCause {T = Bool} before after (Err e) → IsAsked before after (Err e)
asked_failed d before after e asked c = record {
  cause = record { later = c.later; failed = λ is. let same : e ≡ Failed = cc in c.failed (ap (λ z. Err z) same); disk = c.disk; shared = c.shared };
  moment = asked.moment;
  slots = slots_asked d.ticket before after (Err e) asked;
  quiet = λ code. refl;
}
