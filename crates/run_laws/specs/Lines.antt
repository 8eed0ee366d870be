-- A tier with its journal between two lines: it stands, or the commit of a session is in doubt, or a write that was
-- passed on. (This project's rule, over the synchronous writethrough cache groups and the passthrough levels of the
-- TimesTen Cache User's Guide.)

use Rattle.std.specs.Prelude.{◌≡◌, ◌+◌, ◌^◌, ◌≤◌, Bool, true, false, Option, Some, None, List, [], Err}
use Rattle.std.specs.List.{list_all, list_any}
use Rattle.table_state.specs.declared.history.Sealed.{Sealed}
use Rattle.table_state.specs.declared.operation.Op.{Op}
use Rattle.table_state.specs.Operations.{table_of}
use Rattle.evaluator.specs.declared.change.Change.{Change}
use Rattle.outside.specs.Bank.{AppliesOnce}
use Rattle.outside.specs.Passing.{PassesWrite}
use Rattle.outside.specs.declared.fault.BankError.TheVariants.{Failed}
use Rattle.cache_tier.specs.CommitSteps.{after_applied, sealed_own}
use Rattle.cache_tier.specs.Groups.{Group, is_asynchronous, is_synchronous, is_table_of}
use Rattle.cache_tier.specs.PassedSteps.{after_passed, with_ticket}
use Rattle.cache_tier.specs.Routes.{is_written_through}
use Rattle.cache_tier.specs.StandingBetween.{Each, Stands}
use Rattle.cache_tier.specs.TierStates.{ACommit, APassedWrite, Doubt, Doubted, Session, Tier, session_of}
use Rattle.cache_tier.specs.Worlds.{BankCall, IsUnshared, World}

-- each operation is on a table of a group that passes the test
abbrev pub are_on_kind : (Group → Bool) → List Group → List Op → Bool
are_on_kind test groups ops = list_all (λ op. is_table_of test groups (table_of op)) ops

-- each of these transactions writes tables of asynchronous groups alone
abbrev pub are_later : List Group → List Sealed → Bool
are_later groups unsettled = list_all (λ (x : Sealed). are_on_kind is_asynchronous groups x.ops) unsettled

-- Where one of the operations is on a table of a synchronous group, all are.
abbrev pub IsOfOneKind : List Group → List Op → Type 0
IsOfOneKind groups ops =
    list_any (λ op. is_table_of is_synchronous groups (table_of op)) ops ≡ true
    → are_on_kind is_synchronous groups ops ≡ true

-- What is unsettled is on tables of asynchronous groups, and each open session has written tables of one kind.
pub record AreOfKinds (t : Tier) : Type 0 where
  pub later : are_later t.groups t.unsettled ≡ true
  pub own : Each (λ (s : Session). IsOfOneKind t.groups s.own) t.sessions

-- The commit of a session is in doubt in this world: it came of one in which the tier stood, by a call of the bank that
-- failed. The session's writes are on tables of synchronous groups.
pub record CommitIsInDoubt (w : World) : Type 0 where
  pub was : World
  pub stands : Stands was
  pub unshared : IsUnshared was
  pub later : are_later was.tier.groups was.tier.unsettled ≡ true
  pub session : Session
  pub there : session_of was.tier session.label ≡ Some session
  pub on : are_on_kind is_synchronous was.tier.groups session.own ≡ true
  pub room : was.tier.next + 1 ≤ 2 ^ 63
  pub call : BankCall (AppliesOnce (sealed_own was.tier session) [] (Err Failed)) was w
  pub tier : w.tier ≡ after_applied (sealed_own was.tier session) session.label (Err Failed) (with_ticket was.tier)

-- A write that was passed on is in doubt in this world: it came of one in which the tier stood, by a call of the bank
-- that failed. The write's table is of no live writethrough group.
pub record WriteIsInDoubt (w : World) : Type 0 where
  pub was : World
  pub stands : Stands was
  pub unshared : IsUnshared was
  pub session : Session
  pub there : session_of was.tier session.label ≡ Some session
  pub room : was.tier.next + 1 ≤ 2 ^ 63
  pub change : Change
  pub off : is_written_through was.tier change.table ≡ false
  pub ops : List Op
  pub call : BankCall (PassesWrite was.tier.next change ops (Err Failed)) was w
  pub tier : w.tier ≡ after_passed session was.tier.next ops (Err Failed) (with_ticket was.tier)

abbrev pub IsInDoubt : Doubted → World → Type 0
IsInDoubt ACommit w = CommitIsInDoubt w
IsInDoubt APassedWrite w = WriteIsInDoubt w

-- the tier stands, or a ticket is in doubt
abbrev pub IsLeftBy : Option Doubt → World → Type 0
IsLeftBy None w = Stands w
IsLeftBy (Some d) w = IsInDoubt d.of w

abbrev pub IsLeft : World → Type 0
IsLeft w = IsLeftBy w.tier.doubt w

-- What is asked of a world between two lines: the tier stands, or a ticket is in doubt; and others change no table of a
-- live writethrough group.
pub record MayGoOn (w : World) : Type 0 where
  pub left : IsLeft w
  pub unshared : IsUnshared w

-- What is asked of a world where a line begins: this, and what is unsettled, and what sessions have written, is of one
-- kind each.
pub record MayBegin (w : World) : Type 0 where
  pub goes_on : MayGoOn w
  pub kinds : AreOfKinds w.tier
