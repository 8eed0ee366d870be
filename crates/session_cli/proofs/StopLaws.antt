-- Why a run stops, and the causes of that.
use Rattle.std.proofs.Common.{◌≡◌, ◌≤◌, ◌+◌, ◌-◌, ◌^◌, ℕ, min, true, false, cond, count_by, Option, Some, Result, Ok, Err, refl, ap, arith}
use Rattle.std.specs.Result.{IsErrOf}
use Rattle.tier_base.specs.declared.code.Code.TheVariants as code
use Rattle.outside.specs.Faults.{Rose}
use Rattle.outside.specs.Sites.{SiteState}
use Rattle.cache_tier.specs.Steps.{faults_in, note_tells}
use Rattle.cache_tier.specs.declared.reply.Reply.{Reply}
use Rattle.tier_journal.specs.KeptOver.{DiskIsCaused, is_broken}
use Rattle.tier_journal.specs.declared.journal.TierJournal.{TierJournal}
use Rattle.cache_engine.specs.Requests.{IsLineCaused}
use Rattle.session_cli.specs.declared.answering.Stop.{Stop}
use Rattle.session_cli.specs.declared.answering.Stop.TheVariants as stop
use Rattle.session_cli.specs.declared.serving.Status.TheVariants.{DiskFailed, SinkFailed, SourceFailed}
use Rattle.session_cli.specs.Ends.{status_of, takes_none}
use Rattle.session_cli.specs.Serving.{HasStopCause, TellsFault}

-- a run that stops at a reply that tells a failed call of the disk
pub tells_last : (why : Stop) (reply : Option Reply) → is_broken reply ≡ true → TellsFault (Err why) reply
tells_last stop.Sink reply is = tt
tells_last stop.Disk reply is = is

-- what came before doesn't lower the count
pub stop_on : {T : Type 0} (why : Stop) (a b c : ℕ) (result : Result T Stop) → a ≤ b → HasStopCause why b c result → HasStopCause why a c result
stop_on why a b c result le p = record { later = omega (arith, le, p.later); failed = λ is. let rose = p.failed is in omega (arith, le, rose) }

-- nothing failed
pub stop_none : (why : Stop) (a b : ℕ) → a ≤ b → HasStopCause {T = Unit {0}} why a b (Ok tt)
stop_none why a b le = record { later = le; failed = λ is. cc }

rose_more : (a n m c : ℕ) → n ≡ m + 1 → min (a + n) (2 ^ 64 - 1) ≤ c → Rose a c
rose_more a n m c is le = omega (arith, is, le)

-- a fault of the disk that a line tells
pub disk_cause : (result : Result (Unit {0}) Stop) (k : Option TierJournal) (before behind : SiteState) (reply : Reply) → IsLineCaused k before behind (Some reply) → TellsFault result (Some reply) → HasStopCause stop.Disk before.disk_faults behind.disk_faults result
disk_cause result k before behind reply caused told = record { later = (caused.disk reply refl).0; failed = by result told }
  where
    by : (r : Result (Unit {0}) Stop) → TellsFault r (Some reply) → IsErrOf r stop.Disk → Rose before.disk_faults behind.disk_faults
    by (Ok done) t is = cc
    by (Err stop.Sink) t is = cc
    by (Err stop.Disk) t is =
        let one : faults_in code.JournalFault reply ≡ count_by (note_tells code.JournalFault) reply.notes + 1 = ap (λ b. count_by (note_tells code.JournalFault) reply.notes + cond b 1 0) t in
        rose_more before.disk_faults (faults_in code.JournalFault reply) (count_by (note_tells code.JournalFault) reply.notes) behind.disk_faults one (caused.disk reply refl).1

-- or that the flush at the end tells
pub end_cause : (result : Result (Unit {0}) Stop) (k : Option TierJournal) (before behind : SiteState) (reply : Reply) → DiskIsCaused k before behind (Some reply) → TellsFault result (Some reply) → HasStopCause stop.Disk before.disk_faults behind.disk_faults result
end_cause result k before behind reply caused told = record { later = caused.later; failed = by result told }
  where
    by : (r : Result (Unit {0}) Stop) → TellsFault r (Some reply) → IsErrOf r stop.Disk → Rose before.disk_faults behind.disk_faults
    by (Ok done) t is = cc
    by (Err stop.Sink) t is = cc
    by (Err stop.Disk) t is = caused.failed t

-- the status of a run that stopped tells why

pub is_sink : (why : Stop) → status_of why ≡ SinkFailed → IsErrOf {T = Unit {0}} (Err why) stop.Sink
is_sink stop.Sink is = refl
is_sink stop.Disk is = cc

pub is_disk : (why : Stop) → status_of why ≡ DiskFailed → IsErrOf {T = Unit {0}} (Err why) stop.Disk
is_disk stop.Sink is = cc
is_disk stop.Disk is = refl

pub not_source : (why : Stop) → status_of why ≡ SourceFailed → ⊥
not_source stop.Sink is = cc
not_source stop.Disk is = cc

pub takes_some : (why : Stop) → takes_none (status_of why) ≡ false
takes_some stop.Sink = refl
takes_some stop.Disk = refl
