-- That the points of a journal's way stay safe where the journal is its tier's.
use Rattle.std.proofs.Common.{◌≡◌, ℕ, ◌≤◌, ◌^◌, None, List, [], ◌∷◌, ◌++◌, length, sym, subst, ◌∙◌, append_assoc, append-nil}
use Rattle.tier_base.specs.declared.number.TableId.{TableId}
use Rattle.table_state.specs.declared.history.Entry.{Entry}
use Rattle.table_state.specs.declared.history.Sealed.{Sealed}
use Rattle.recovery_laws.specs.Crashes.{IsLeft}
use Rattle.recovery_laws.proofs.CrashLaws.{crash_left}
use Rattle.cache_tier.specs.Events.{at_history}
use Rattle.cache_tier.specs.Journals.{Journal, JournalEntry, next_behind, passed_by}
use Rattle.cache_tier.specs.JournalWays.{given}
use Rattle.cache_tier.specs.TierStates.{Tier}
use Rattle.cache_tier.specs.WayPoints.{with_way}
use Rattle.cache_tier.specs.Worlds.{World}
use Rattle.recovery.specs.Journalled.{IsJournalled, seen_as, with_flushed_entry}
use Rattle.recovery.specs.Recalling.{AreMatched, notes_of}
use Rattle.recovery.specs.SafeWays.{HasSafeWay, IsHeldIn, IsSafeOn}
use Rattle.recovery.proofs.LiveLaws.{leaves_unshared}
use Rattle.recovery.proofs.PointLaws.{StaysUnshared, held_behind, safe_begun, safe_longer, safe_still, safe_turned}

-- the world with no way asked for
abbrev pub wayless : World → World
wayless w = record w { journal = record w.journal { way = None } }

pub without_way : (w : World) (early : List Sealed) → IsJournalled w early → IsJournalled (wayless w) early
without_way w early j = record {
  kept = j.kept;
  backing = j.backing;
  leaves = j.leaves;
  late = j.late;
  tail = j.tail;
  stands = j.stands;
  settings = j.settings;
  catalog = j.catalog;
  recalls = j.recalls;
  alike = j.alike;
  tie = j.tie;
  next = j.next;
  safe = tt;
}

-- the same where others change these tables
abbrev pub reshared : List TableId → World → World
reshared shared w = record w { journal = record w.journal { way = None }; shared = shared }

pub without_shared : (w : World) (shared : List TableId) (early : List Sealed) → IsJournalled w early → IsJournalled (reshared shared w) early
without_shared w shared early j = record {
  kept = j.kept;
  backing = j.backing;
  leaves = j.leaves;
  late = j.late;
  tail = j.tail;
  stands = j.stands;
  settings = j.settings;
  catalog = j.catalog;
  recalls = j.recalls;
  alike = j.alike;
  tie = j.tie;
  next = j.next;
  safe = tt;
}

-- with a way that is safe
pub safely : (w : World) (early : List Sealed) → IsJournalled (wayless w) early → HasSafeWay w w.journal.way → IsJournalled w early
safely w early j safe = record {
  kept = j.kept;
  backing = j.backing;
  leaves = j.leaves;
  late = j.late;
  tail = j.tail;
  stands = j.stands;
  settings = j.settings;
  catalog = j.catalog;
  recalls = j.recalls;
  alike = j.alike;
  tie = j.tie;
  next = j.next;
  safe = safe;
}

-- what is flushed now belongs to the history
pub matched_now : (w : World) (early : List Sealed) → IsJournalled w early → next_behind w.journal.flushed ≤ 2 ^ 63 → AreMatched w.journal.flushed w.history
matched_now w early j cap = record { backing = j.backing; leaves = j.leaves; matched = left.matched; last = cap }
  where
    left : IsLeft early (early ++ j.late) (notes_of j.backing.schema w.journal.flushed) w.history
    left = crash_left (seen_as j.backing.schema w early j.late) early early j.stands [] (sym (append-nil early))

-- something else is flushed
pub turn_safe : (w : World) (t : Tier) (new : Journal) (now : List Sealed) → HasSafeWay w w.journal.way → IsJournalled (wayless (with_flushed_entry t new w)) now → StaysUnshared w.shared w.tier.groups t.groups
    → ((s : Sealed) → IsHeldIn w.journal.flushed w.history s → IsHeldIn new.flushed w.history s) → new.way ≡ passed_by w.journal.flushed (length w.history) w.journal.way → HasSafeWay (with_flushed_entry t new w) new.way
turn_safe w t new now safe j back step way =
    subst (λ o. IsSafeOn t.groups w.shared new.flushed w.history o) (sym way)
    (safe_turned w.tier.groups t.groups w.shared w.journal.flushed w.history back new.flushed (matched_now (wayless (with_flushed_entry t new w)) now j) (leaves_unshared (wayless (with_flushed_entry t new w)) now j) step w.journal.way safe)

-- the tail, and these entries behind it
pub flush_safe : (w : World) (t : Tier) (new : Journal) (now : List Sealed) (more : List JournalEntry) → HasSafeWay w w.journal.way → IsJournalled (wayless (with_flushed_entry t new w)) now → StaysUnshared w.shared w.tier.groups t.groups
    → new.flushed ≡ given w.journal ++ more → new.way ≡ passed_by w.journal.flushed (length w.history) w.journal.way → HasSafeWay (with_flushed_entry t new w) new.way
flush_safe w t new now more safe j back flushed way =
    turn_safe w t new now safe j back
    (λ s x. subst (λ l. IsHeldIn l w.history s) (sym (flushed ∙ append_assoc w.journal.flushed w.journal.tail more)) (held_behind w.journal.flushed (w.journal.tail ++ more) w.history s x)) way

-- the history has an entry more
pub grow_safe : (w : World) (t : Tier) (e : Entry) (now : List Sealed) → HasSafeWay w w.journal.way → IsJournalled (wayless (at_history (w.history ++ e ∷ []) (record w { tier = t }))) now → StaysUnshared w.shared w.tier.groups t.groups
    → HasSafeWay (at_history (w.history ++ e ∷ []) (record w { tier = t })) w.journal.way
grow_safe w t e now safe j back =
    safe_longer w.tier.groups t.groups w.shared w.journal.flushed w.history back e (matched_now (wayless (at_history (w.history ++ e ∷ []) (record w { tier = t }))) now j)
    (leaves_unshared (wayless (at_history (w.history ++ e ∷ []) (record w { tier = t }))) now j) w.journal.way safe

-- neither changes
pub still_safe : (w : World) (t : Tier) → HasSafeWay w w.journal.way → StaysUnshared w.shared w.tier.groups t.groups → HasSafeWay (record w { tier = t }) w.journal.way
still_safe w t safe back = safe_still w.tier.groups t.groups w.shared w.journal.flushed w.history back w.journal.way safe

-- a way begins
pub way_begins : (w : World) (early : List Sealed) (moment : ℕ) → IsJournalled w early → IsJournalled (record w { journal = with_way moment (length w.history) w.journal }) early
way_begins w early moment j =
    safely (record w { journal = with_way moment (length w.history) w.journal }) early (without_way w early j)
    (safe_begun w.tier.groups w.shared moment w.journal.flushed w.history (matched_now w early j) (leaves_unshared w early j))
