-- The tier with what it stands in, and what the parts of a line may leave.

use Rattle.std.specs.Prelude.{◌≡◌, ◌⊎◌, ℕ, ◌≤◌, List, [], Option, Some, None, false, Bool, true}
use Rattle.std.specs.Bool.{MatchBool}
use Rattle.tier_base.specs.declared.code.Code.{Code}
use Rattle.tier_base.specs.declared.code.Code.TheVariants as code
use Rattle.tier_base.specs.declared.number.TableId.{TableId}
use Rattle.row_types.specs.declared.rule.Rule.{Rule}
use Rattle.row_types.specs.declared.rule.Detail.TheVariants as detail
use Rattle.table_state.specs.declared.history.Entry.{Entry}
use Rattle.outside.specs.Others.{Around, is_shared}
use Rattle.outside.specs.declared.fault.BankError.{BankError}
use Rattle.outside.specs.declared.fault.BankError.TheVariants.{Failed, Memory}
use Rattle.cache_tier.specs.declared.reply.Reply.{Reply}
use Rattle.cache_tier.specs.declared.reply.Last.{Last}
use Rattle.cache_tier.specs.declared.reply.Last.TheVariants.{No, Fault}
use Rattle.cache_tier.specs.Groups.{is_writethrough, is_table_of}
use Rattle.cache_tier.specs.Journals.{Journal}
use Rattle.cache_tier.specs.TierStates.{Tier}

-- The tier, the one backing history, the journal, how often the bank and the disk have failed, the site's moment, and
-- the tables that others change, too.
pub record World : Type 0 where
  pub tier : Tier
  pub history : List Entry
  pub journal : Journal
  pub bank_faults : ℕ
  pub disk_faults : ℕ
  pub moment : ℕ
  pub shared : List TableId

-- a reply of its last line alone
abbrev pub only : Last → Reply
only last = record { notes = []; rows = []; last = last }

-- a fault, or want of memory
abbrev pub faulty : Code → Reply
faulty c = only (Fault (record { code = c; detail = detail.Nothing }))

-- a failed call of the bank, or its want of memory
abbrev pub bank_fault : BankError → Reply
bank_fault Failed = faulty code.BackingFault
bank_fault Memory = faulty code.Memory

-- what the tier is behind a part, and what it answers
abbrev pub Answer : Type 0
Answer = Tier × Reply

-- a refusal changes nothing
abbrev pub refuses : Tier → Rule → Answer
refuses t rule = (t, only (No rule))

-- this answer, unless a rule is broken
abbrev pub unless : Tier → Option Rule → Answer → Answer
unless t None answer = answer
unless t (Some rule) answer = refuses t rule

-- what a line does, or the last part of it
abbrev pub Part : Type 1
Part = World → World → Reply → Type 0

-- a part before the last, which may end the line with its reply
abbrev pub Stage : Type 1
Stage = World → World → Option Reply → Type 0

-- nothing but the tier changes: the cache answers by itself
abbrev pub Quiet : Answer → Part
Quiet answer w w' reply = (w' ≡ record w { tier = answer.0 }) × (reply ≡ answer.1)

-- the line is refused, and all stays
abbrev pub Refuses : Rule → Part
Refuses rule w w' reply = Quiet (refuses w.tier rule) w w' reply

-- the part, unless a rule is broken
abbrev pub Unless : Option Rule → Part → Part
Unless None part w w' reply = part w w' reply
Unless (Some rule) part w w' reply = Refuses rule w w' reply

-- what follows a stage, or the reply with which it ended the line
abbrev pub Follows : Option Reply → Part → Part
Follows (Some stop) part w w' reply = (w' ≡ w) × (reply ≡ stop)
Follows None part w w' reply = part w w' reply

-- want of memory, which may come in place of any answer, leaves all as it was
abbrev pub WantsMemory : Part
WantsMemory w w' reply = (w' ≡ w) × (reply ≡ faulty code.Memory)

-- the part, or want of memory
abbrev pub Tries : Part → Part
Tries part w w' reply = part w w' reply ⊎ WantsMemory w w' reply

-- a stage, and then a part
pub record Then (stage : Stage) (part : Part) (w w' : World) (reply : Reply) : Type 0 where
  pub mid : World
  pub stop : Option Reply
  pub first : stage w mid stop
  pub next : Follows stop part mid w' reply

abbrev pub StageFollows : Option Reply → Stage → Stage
StageFollows (Some stop) stage w w' end = (w' ≡ w) × (end ≡ Some stop)
StageFollows None stage w w' end = stage w w' end

-- two stages, one after the other
pub record ThenStage (one other : Stage) (w w' : World) (end : Option Reply) : Type 0 where
  pub mid : World
  pub stop : Option Reply
  pub first : one w mid stop
  pub next : StageFollows stop other mid w' end

-- nothing is done
abbrev pub Passes : Stage
Passes w w' stop = (w' ≡ w) × (stop ≡ None)

-- a stage that is done where it is wanted
abbrev pub OnlyWhere : Bool → Stage → Stage
OnlyWhere wanted stage w w' stop = MatchBool wanted (stage w w' stop) (Passes w w' stop)

-- the tier alone is changed
abbrev pub Becomes : (World → Tier) → Stage
Becomes change w w' stop = (w' ≡ record w { tier = change w }) × (stop ≡ None)

-- A call of the bank, which takes this step of the history with transactions of others before and behind it. Counts and
-- moments may rise; the journal stays, and so does what others change.
pub record BankCall (step : List Entry → List Entry → Type 0) (w w' : World) : Type 0 where
  pub history : Around w.shared step w.history w'.history
  pub journal : w'.journal ≡ w.journal
  pub faults : w.bank_faults ≤ w'.bank_faults
  pub disk : w'.disk_faults ≡ w.disk_faults
  pub moment : w.moment ≤ w'.moment
  pub shared : w'.shared ≡ w.shared

-- others change no table of a live writethrough group
abbrev pub IsUnshared : World → Type 0
IsUnshared w = (t : TableId) → is_shared w.shared t ≡ true → is_table_of is_writethrough w.tier.groups t ≡ false
