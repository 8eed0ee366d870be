-- What a statement answers that asks nothing of the outside. (This project's model.)

use Rattle.std.specs.Prelude.{◌≡◌, ℕ, List, Option, Some, None, Result, Ok, Err}
use Rattle.tier_base.specs.declared.code.Code.TheVariants as code
use Rattle.tier_base.specs.declared.number.SessionId.{SessionId}
use Rattle.row_types.specs.declared.rule.Refused.{Refused}
use Rattle.row_types.specs.declared.rule.Refused.TheVariants as refused
use Rattle.row_types.specs.declared.rule.Rule.{Rule}
use Rattle.cache_tier.specs.declared.reply.Reply.{Reply}
use Rattle.cache_tier.specs.Rules.{labelled}
use Rattle.cache_tier.specs.TierStates.{Session, Tier, session_of}
use Rattle.cache_tier.specs.Worlds.{Answer}
use Rattle.stored_tier.specs.declared.tier.Tier.{Tier as Stored}
use Rattle.stored_tier.specs.Stored.{HasSession, IsStoredAs}

-- No rule is broken, the tier is that of the answer, and the reply is the answer's. Or the rule is told that is broken,
-- and all stays; as where memory is wanting.
abbrev pub Replies : Stored → Tier → Option Rule → Answer → Result Reply Refused → Type 0
Replies new a fault answer (Ok reply) = (fault ≡ None) × IsStoredAs new answer.0 × (reply ≡ answer.1)
Replies new a fault answer (Err (refused.Rule rule)) = (fault ≡ Some rule) × IsStoredAs new a
Replies new a fault answer (Err refused.Memory) = IsStoredAs new a

-- for each abstract tier that the old one is stored as
abbrev pub Answers : Stored → Stored → (Tier → Option Rule) → (Tier → Answer) → Result Reply Refused → Type 0
Answers old new fault answer result = (a : Tier) → IsStoredAs old a → Replies new a (fault a) (answer a) result

-- the same of a statement of the session of this number
abbrev pub AnswersIn : Stored → Stored → SessionId → (Session → Tier → Option Rule) → (Session → Tier → Answer)
    → Result Reply Refused → Type 0
AnswersIn old new id fault answer result =
    (a : Tier) (s : Session) → IsStoredAs old a → HasSession old id s → Replies new a (fault s a) (answer s a) result

-- the session of a label and its number
pub record IsSessionOf (t : Stored) (a : Tier) (label : List ℕ) (id : SessionId) : Type 0 where
  pub session : Session
  pub is : session_of a label ≡ Some session
  pub named : session.label ≡ label
  pub has : HasSession t id session

-- the number of the session of a label, or 123
abbrev pub FindsSession : Stored → List ℕ → Result SessionId Refused → Type 0
FindsSession t label (Ok id) = (a : Tier) → IsStoredAs t a → IsSessionOf t a label id
FindsSession t label (Err (refused.Rule rule)) =
    (a : Tier) → IsStoredAs t a → (session_of a label ≡ None) × (rule ≡ labelled code.UnknownSession label)
FindsSession t label (Err refused.Memory) = Unit {0}
