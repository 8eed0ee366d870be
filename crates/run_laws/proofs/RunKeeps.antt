-- A list of lines keeps the journal the tier's, and behind each a crash leaves what the tier needs that is opened again.
use Rattle.std.proofs.Common.{◌≡◌, ℕ, ◌≤◌, ◌^◌, Bool, true, false, Option, Some, None, Err, List, [], ◌∷◌, length, refl, sym, ap, subst, ◌∙◌, arith}
use Rattle.table_state.specs.declared.history.Sealed.{Sealed}
use Rattle.outside.specs.Bank.{AppliesOnce}
use Rattle.outside.specs.Others.{Around}
use Rattle.outside.specs.Passing.{PassesWrite}
use Rattle.outside.specs.declared.fault.BankError.TheVariants.{Failed}
use Rattle.cache_tier.specs.CommitSteps.{sealed_own}
use Rattle.cache_tier.specs.declared.reply.Reply.{Reply}
use Rattle.cache_tier.specs.Journals.{Journal}
use Rattle.cache_tier.specs.JournalSteps.{FlushesKept}
use Rattle.cache_tier.specs.Steps.{Asked, Finishes}
use Rattle.cache_tier.specs.TierStates.{ACommit, APassedWrite, Doubt, Doubted, Settings, Tier}
use Rattle.cache_tier.specs.Worlds.{OnlyWhere, World}
use Rattle.recovery.specs.Journalled.{IsFlushed, IsJournalled, IsJournalledOn}
use Rattle.recovery.proofs.JournalledLaws.{flushes_kept}
use Rattle.line_laws.specs.Keeping.{IsBrokenOff, is_broken}
use Rattle.line_laws.proofs.FlushLaws.{flushes_whole, kept_flushes, tail_flushed}
use Rattle.recovery.proofs.LeftLaws.{crash_leaves}
use Rattle.recovery.proofs.RecalledLaws.{stands_recalled}
use Rattle.run_laws.specs.Lines.{CommitIsInDoubt, IsInDoubt, IsLeft, IsLeftBy, MayBegin, WriteIsInDoubt}
use Rattle.run_laws.specs.Runs.{KeepsOn, KeepsThrough, RunsOn, Survives}
use Rattle.run_laws.proofs.LineLaws.{step_kept, step_kinds}
use Rattle.run_laws.proofs.StandLaws.{seen_as, seen_self, stands_seen}

-- a ticket is left
pub ticket_left : (w : World) → IsLeft w → w.tier.next ≤ 2 ^ 63
ticket_left w x = by w.tier.doubt x
  where
    by : (o : Option Doubt) → IsLeftBy o w → w.tier.next ≤ 2 ^ 63
    by None x = x.flow.last
    by (Some d) x = of d.of x
      where
        of : (k : Doubted) → IsInDoubt k w → w.tier.next ≤ 2 ^ 63
        of ACommit x = subst (λ (t : Tier). t.next ≤ 2 ^ 63) (sym x.tier) x.room
        of APassedWrite x = subst (λ (t : Tier). t.next ≤ 2 ^ 63) (sym x.tier) x.room

pub survives : (w : World) (early : List Sealed) (settings : Settings) (moment : ℕ) → IsLeft w → IsJournalled w early → Survives w early settings moment
survives w early settings moment left j =
    let c = crash_leaves w early settings moment (ticket_left w left) j in
    record { crash = c; stands = stands_recalled w w.journal.flushed settings moment c.catalog c.matched c.recalls }

pub run_kept : (w w' : World) (lines : List Asked) (replies : List (Option Reply)) (early : List Sealed) → MayBegin w → IsJournalled w early → RunsOn w lines replies w' → KeepsThrough w early lines replies w'
run_kept w w' [] [] early m j e = e
run_kept w w' [] (reply ∷ replies) early m j q = absurd q
run_kept w w' (line ∷ lines) [] early m j q = absurd q
run_kept w w' (line ∷ lines) (reply ∷ replies) early m j (mid, p, rest) =
    let on = step_kept line.base w mid line.said reply early m j p.goes_on.left p.whole p.does in
    let kinds = step_kinds line.base w mid line.said reply early m j p.goes_on.left p.whole p.does in
    let begins : MayBegin mid = record { goes_on = p.goes_on; kinds = kinds } in (
      mid,
      on.now,
      p.does,
      record { more = on.more; grows = on.grows; journalled = on.is; survives = λ settings moment. survives mid on.now settings moment p.goes_on.left on.is },
      run_kept mid w' lines replies on.now begins on.is rest,
    )

-- ---- a flush of the tail

-- nothing but the journal and the counts of its disk is another
module _ (w w' : World) (tier : w'.tier ≡ w.tier) (history : w'.history ≡ w.history) (shared : w'.shared ≡ w.shared) (bank : w'.bank_faults ≡ w.bank_faults) (moment : w.moment ≤ w'.moment) where
  commit_moved : CommitIsInDoubt w → CommitIsInDoubt w'
  commit_moved x = record {
    was = record (x.was) { journal = w'.journal; disk_faults = w'.disk_faults };
    stands = stands_seen x.was (record (x.was) { journal = w'.journal; disk_faults = w'.disk_faults }) (seen_self x.was.tier) refl x.stands;
    unshared = x.unshared;
    later = x.later;
    session = x.session;
    there = x.there;
    on = x.on;
    room = x.room;
    call =
        record {
          history = subst (λ h. Around x.was.shared (AppliesOnce (sealed_own x.was.tier x.session) [] (Err Failed)) x.was.history h) (sym history) x.call.history;
          journal = refl;
          faults = subst (λ n. x.was.bank_faults ≤ n) (sym bank) x.call.faults;
          disk = refl;
          moment = let before = x.call.moment in omega (arith, before, moment);
          shared = shared ∙ x.call.shared;
        };
    tier = tier ∙ x.tier;
  }

  write_moved : WriteIsInDoubt w → WriteIsInDoubt w'
  write_moved x = record {
    was = record (x.was) { journal = w'.journal; disk_faults = w'.disk_faults };
    stands = stands_seen x.was (record (x.was) { journal = w'.journal; disk_faults = w'.disk_faults }) (seen_self x.was.tier) refl x.stands;
    unshared = x.unshared;
    session = x.session;
    there = x.there;
    room = x.room;
    change = x.change;
    off = x.off;
    ops = x.ops;
    call =
        record {
          history = subst (λ h. Around x.was.shared (PassesWrite x.was.tier.next x.change x.ops (Err Failed)) x.was.history h) (sym history) x.call.history;
          journal = refl;
          faults = subst (λ n. x.was.bank_faults ≤ n) (sym bank) x.call.faults;
          disk = refl;
          moment = let before = x.call.moment in omega (arith, before, moment);
          shared = shared ∙ x.call.shared;
        };
    tier = tier ∙ x.tier;
  }

  doubt_moved : (k : Doubted) → IsInDoubt k w → IsInDoubt k w'
  doubt_moved ACommit x = commit_moved x
  doubt_moved APassedWrite x = write_moved x

  left_moved : IsLeft w → IsLeft w'
  left_moved x = subst (λ o. IsLeftBy o w') (sym (ap (λ (t : Tier). t.doubt) tier)) (by w.tier.doubt x)
    where
      by : (o : Option Doubt) → IsLeftBy o w → IsLeftBy o w'
      by None x = stands_seen w w' (seen_as w.tier w'.tier w.tier tier (seen_self w.tier)) history x
      by (Some d) x = doubt_moved d.of x

keeps_of : (w : World) (early : List Sealed) → IsLeft w → IsJournalledOn w early → KeepsOn w early
keeps_of w early left on = record {
  now = on.now;
  keeps = record { more = on.more; grows = on.grows; journalled = on.is; survives = λ settings moment. survives w on.now settings moment left on.is };
}

-- whole or not at all: in either case what is needed is there
pub flushed_kept : (w : World) (early : List Sealed) (new : Journal) → IsLeft w → IsJournalled w early → IsFlushed (length w.history) w.journal new → KeepsOn (record w { journal = new }) early
flushed_kept w early new left j is =
    keeps_of (record w { journal = new }) early (left_moved w (record w { journal = new }) refl refl refl refl (omega arith) left) (flushes_kept w early new j is)

-- the end of the input
pub ended_kept : (w w' : World) (early : List Sealed) (stop : Option Reply) → IsLeft w → IsJournalled w early → Finishes w w' stop → is_broken stop ≡ false → KeepsOn w' early
ended_kept w w' early stop left j q ok = by w.journal.kept q
  where
    on : IsJournalledOn w' early
    on = tail_flushed w w' early j (kept_flushes [] w w' stop j.kept q ok).0

    by : (b : Bool) → OnlyWhere b (FlushesKept []) w w' stop → KeepsOn w' early
    by true f = keeps_of w' early (left_moved w w' f.tier f.history f.shared f.bank f.moment left) on
    by false f = keeps_of w' early (subst IsLeft (sym f.0) left) on

-- the same where that flush failed
pub ended_broken : (w w' : World) (early : List Sealed) (stop : Option Reply) → IsJournalled w early → Finishes w w' stop → is_broken stop ≡ true → IsBrokenOff w' early
ended_broken w w' early stop j q broken = record { tier = w'.tier; on = tail_flushed w w' early j (flushes_whole [] w w' stop j.kept q) }
