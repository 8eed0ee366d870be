-- Statements that change nothing that an entry tells.
use Rattle.std.proofs.Common.{◌≡◌, ℕ, List, refl, sym, subst, arith}
use Rattle.cache_tier.specs.CommitSteps.{RollsBack, ends}
use Rattle.cache_tier.specs.SessionSteps.{close_answer, flag_answer, open_answer}
use Rattle.cache_tier.specs.ConsoleSteps.{clock_answer}
use Rattle.cache_tier.specs.TierStates.{Session, Tier}
use Rattle.cache_tier.specs.Worlds.{Answer, Quiet, World}
use Rattle.sql_subset.specs.declared.request.OpenOptions.{OpenOptions}
use Rattle.recovery.specs.Journalled.{IsQuiet}
use Rattle.recovery.proofs.JournalledLaws.{alike_self}
use Rattle.line_laws.specs.Keeping.{KeepsJournal}
use Rattle.line_laws.proofs.PartWords.{quiet_on}

-- an answer of the cache by itself
pub quiet_kept : (answer : World → Answer) → ((w : World) → IsQuiet w.tier (answer w).0) → KeepsJournal (λ w w' reply. Quiet (answer w) w w' reply)
quiet_kept answer so w w' early reply stands j apart q ok = subst (λ x. Rattle.recovery.specs.Journalled.IsJournalledOn x early) (sym q.0) (quiet_on w early (answer w).0 j (so w))

same_groups : (t t' : Tier) → t'.log ≡ t.log → t'.next ≡ t.next → t'.groups ≡ t.groups → IsQuiet t t'
same_groups t t' log next groups = record { log = log; next = omega (arith, next); groups = subst (Rattle.recovery.specs.Journalled.AreAlike t.groups) (sym groups) (alike_self t.groups) }

pub rolls_back_kept : (s : Session) → KeepsJournal (RollsBack s)
rolls_back_kept s w w' early reply stands j apart q ok =
    subst (λ x. Rattle.recovery.specs.Journalled.IsJournalledOn x early) (sym q.0) (quiet_on w early (ends s w.tier) j (same_groups w.tier (ends s w.tier) refl refl refl))

pub opens_kept : (label : List ℕ) (options : OpenOptions) → KeepsJournal (λ w w' reply. Quiet (open_answer w.tier label options) w w' reply)
opens_kept label options = quiet_kept (λ w. open_answer w.tier label options) (λ w. same_groups w.tier (open_answer w.tier label options).0 refl refl refl)

pub closes_kept : (label : List ℕ) → KeepsJournal (λ w w' reply. Quiet (close_answer w.tier label) w w' reply)
closes_kept label = quiet_kept (λ w. close_answer w.tier label) (λ w. same_groups w.tier (close_answer w.tier label).0 refl refl refl)

pub sets_level_kept : (label : List ℕ) (level : ℕ) → KeepsJournal (λ w w' reply. Quiet (flag_answer w.tier label level) w w' reply)
sets_level_kept label level = quiet_kept (λ w. flag_answer w.tier label level) (λ w. same_groups w.tier (flag_answer w.tier label level).0 refl refl refl)

pub clock_kept : KeepsJournal (λ w w' reply. Quiet (clock_answer w.tier) w w' reply)
clock_kept = quiet_kept (λ w. clock_answer w.tier) (λ w. same_groups w.tier w.tier refl refl refl)
