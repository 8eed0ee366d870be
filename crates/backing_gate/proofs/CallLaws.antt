-- Laws of a bank call from its begin to its end.
use Rattle.std.proofs.Common.{◌≡◌, ◌⊎◌, inl, inr, ℕ, ◌+◌, ◌≤◌, Option, Some, None, Result, Err, MatchOption, List, [], ◌∷◌, ◌++◌, length, refl, sym, ap, subst, ◌∙◌, arith, length-append}
use Rattle.std.specs.Option.{IfSome}
use Rattle.tier_base.specs.declared.number.TableId.{TableId}
use Rattle.table_state.specs.declared.history.Entry.{Entry}
use Rattle.evaluator.specs.declared.change.Change.{Change}
use Rattle.outside.specs.Calls.{BankCall, GoesOn, MayGrow}
use Rattle.outside.specs.Faults.{BankHasCause, Rose}
use Rattle.outside.specs.declared.fault.BankError.{BankError}
use Rattle.outside.specs.declared.fault.BankError.TheVariants.{Failed, Memory}
use Rattle.outside.specs.declared.site.Done.{Done}
use Rattle.backing_gate.specs.Calling.{Begins, Ends, Unmarks, heeded, marked, wanting}
use Rattle.backing_gate.specs.Heeding.{BankState, Goes, HasEffect, Heeds, IsMoment, MayVisit, bank_of}
use Rattle.memory_disk.specs.declared.memory_disk.MemoryDisk.{MemoryDisk}
use Rattle.memory_disk.specs.Possible.{held_of as disk_held}
use Rattle.backing_gate.specs.Memory.{MemoryState, held_of, now_of, possible_of, site_state}
use Rattle.backing_gate.specs.declared.mark.Mark.{Mark}
use Rattle.backing_gate.specs.PassedOn.{IsPassed, PassesAs}
use Rattle.backing_gate.specs.Plans.{after_call}
use Rattle.backing_gate.specs.Visits.{Visiting, after_bank_call, next_visit, visit_at}
use Rattle.backing_gate.specs.declared.memory_site.Begun.{Begun}
use Rattle.backing_gate.specs.declared.plan.CallKind.{CallKind}
use Rattle.backing_gate.specs.declared.plan.Outcome.{Outcome}
use Rattle.backing_gate.specs.declared.plan.Outcome.TheVariants as outcome
use Rattle.backing_gate.specs.declared.plan.When.TheVariants as when
use Rattle.backing_gate.specs.declared.visit.Side.TheVariants.{Before, Behind}
use Rattle.backing_gate.proofs.MomentLaws.{Extends, around, extends_all, goes_on}

-- what a call heeds is what is planned of it
pub heeds_plan : {T : Type 0} (mark : Option Mark) (plan : Option Outcome) (old new : BankState) (result : Result T BankError) (effect : Type 0) → Heeds (heeded mark plan) old new result effect → Heeds plan old new result effect
heeds_plan (Some long) plan old new result effect h = h
heeds_plan {T} None None old new result effect h = (h.1.1, λ failed. no result h.0 failed)
  where
    no : (r : Result T BankError) → r ≡ Err Memory → r ≡ Err Failed → ⊥
    no r e f = cc
heeds_plan None (Some outcome.Refused) old new result effect h = h
heeds_plan None (Some (outcome.Failed when.Before)) old new result effect h = h
heeds_plan None (Some (outcome.Failed when.After)) old new result effect h = inr h

-- where the moment isn't marked, the call has no effect
pub idle : {T : Type 0} (plan : Option Outcome) (old new : BankState) (result : Result T BankError) (effect : Type 0) → Heeds (wanting plan) old new result effect → new.history ≡ old.history
idle None old new result effect h = h.1.0
idle (Some outcome.Refused) old new result effect h = h.1.0
idle (Some (outcome.Failed when.Before)) old new result effect h = h.1
idle (Some (outcome.Failed when.After)) old new result effect h = h.1.0

-- the same of what the call was told
pub heeds_all : {T : Type 0} (begun : Begun) (plan : Option Outcome) (old new : BankState) (result : Result T BankError) (effect : Type 0) → begun.outcome ≡ heeded begun.mark plan → Heeds begun.outcome old new result effect → Heeds plan old new result effect
heeds_all {T} begun plan old new result effect is h = heeds_plan {T = T} begun.mark plan old new result effect (subst (λ (o : Option Outcome). Heeds {T = T} o old new result effect) is h)

without_mark : (begun : Begun) (plan : Option Outcome) → begun.outcome ≡ heeded begun.mark plan → begun.mark ≡ None → begun.outcome ≡ wanting plan
without_mark begun plan is none = is ∙ ap (λ (m : Option Mark). heeded m plan) none

pub idle_all : {T : Type 0} (begun : Begun) (plan : Option Outcome) (old new : BankState) (result : Result T BankError) (effect : Type 0) → begun.outcome ≡ heeded begun.mark plan → Heeds begun.outcome old new result effect → begun.mark ≡ None → new.history ≡ old.history
idle_all {T} begun plan old new result effect is h none = idle {T = T} plan old new result effect (subst (λ (o : Option Outcome). Heeds {T = T} o old new result effect) (without_mark begun plan is none) h)

-- a write that is passed on
pub passes_all : (begun : Begun) (plan : Option Outcome) (ticket : ℕ) (change : Change) (old new : BankState) (result : Result Done BankError) → begun.outcome ≡ heeded begun.mark plan → PassesAs begun.outcome ticket change old new result → PassesAs plan ticket change old new result
passes_all begun plan ticket change old new result is h = record {
  fresh = λ fresh. heeds_all begun plan old new result (IsPassed ticket change old.history new.history) is (h.fresh fresh);
  known = h.known;
}

no_effect : (plan : Option Outcome) → HasEffect (wanting plan) → ⊥
no_effect None h = h
no_effect (Some outcome.Refused) h = h
no_effect (Some (outcome.Failed when.Before)) h = h
no_effect (Some (outcome.Failed when.After)) h = h

pub idle_else : (begun : Begun) (plan : Option Outcome) (same : Type 0) → begun.outcome ≡ heeded begun.mark plan → HasEffect begun.outcome ⊎ same → begun.mark ≡ None → same
idle_else begun plan same is h none = elim h [ inl effect ↦ absurd (no_effect plan (subst HasEffect (without_mark begun plan is none) effect)) | inr stays ↦ stays ]

none_comes : (shared : List TableId) (planned : Option (List Change)) (old new : List Entry) → new ≡ old → MayVisit shared planned old new
none_comes shared None old new e = e
none_comes shared (Some changes) old new e = inl e

visit_of : (shared : List TableId) (planned : Option (List Change)) (old new : List Entry) (mark : Option Mark) → MatchOption mark (new ≡ old) (λ mark. MayVisit shared planned old new) → MayVisit shared planned old new
visit_of shared planned old new None e = none_comes shared planned old new e
visit_of shared planned old new (Some long) h = h

-- a list that has grown by nothing
grown_by_nothing : (old new tail : List Entry) → new ≡ old ++ tail → length new ≡ length old → new ≡ old
grown_by_nothing old new tail is same = by tail is
  where
    nothing : (h : List Entry) → h ++ [] ≡ h
    nothing [] = refl
    nothing (x ∷ h) = ap (λ l. x ∷ l) (nothing h)

    by : (t : List Entry) → new ≡ old ++ t → new ≡ old
    by [] e = e ∙ nothing old
    by (x ∷ t) e = let more : length new ≡ length old + length (x ∷ t) = ap length e ∙ length-append old (x ∷ t) in absurd (omega arith)

module _ (kind : CallKind) (begun : Begun) (a b c d : MemoryState) (begins : Begins kind begun a b) (kept : c ≡ record b { history = c.history; bank_faults = c.bank_faults }) (ends : Ends begun c d) where
  disk : d.disk ≡ a.disk
  disk = ap (λ (s : MemoryState). s.disk) ends.state ∙ ap (λ (s : MemoryState). s.disk) kept ∙ ap (λ (s : MemoryState). s.disk) begins.state

  visits_then : c.visits ≡ after_bank_call a.visits
  visits_then = ap (λ (s : MemoryState). s.visits) kept ∙ ap (λ (s : MemoryState). s.visits) begins.state

  pub visits : d.visits ≡ after_bank_call a.visits
  visits = ap (λ (s : MemoryState). s.visits) ends.state ∙ visits_then

  shares : d.visits.shared ≡ a.visits.shared
  shares = ap (λ (v : Visiting). v.shared) visits

  pub counted : d.planned ≡ after_call kind a.planned
  counted = ap (λ (s : MemoryState). s.planned) ends.state ∙ ap (λ (s : MemoryState). s.planned) kept ∙ ap (λ (s : MemoryState). s.planned) begins.state

  faults_before : b.bank_faults ≡ a.bank_faults
  faults_before = ap (λ (s : MemoryState). s.bank_faults) begins.state

  faults_behind : d.bank_faults ≡ c.bank_faults
  faults_behind = ap (λ (s : MemoryState). s.bank_faults) ends.state

  before : MayVisit a.visits.shared (next_visit Before a.visits) a.history b.history
  before = visit_of a.visits.shared (next_visit Before a.visits) a.history b.history begun.mark begins.came

  behind : MayVisit a.visits.shared (next_visit Behind a.visits) c.history d.history
  behind =
      subst (λ (n : ℕ). MayVisit a.visits.shared (visit_at Behind n a.visits.visits) c.history d.history) begins.number
      (subst (λ (v : Visiting). MayVisit v.shared (visit_at Behind begun.number v.visits) c.history d.history) visits_then
      (visit_of c.visits.shared (visit_at Behind begun.number c.visits.visits) c.history d.history begun.mark ends.came))

  pub cause : {T : Type 0} (result : Result T BankError) → BankHasCause (site_state b) (site_state c) result → BankHasCause (site_state a) (site_state d) result
  cause result h = record {
    later = subst (λ (n : ℕ). n ≤ d.bank_faults) faults_before (subst (λ (n : ℕ). b.bank_faults ≤ n) (sym faults_behind) h.later);
    failed = λ e. subst (λ (n : ℕ). Rose n d.bank_faults) faults_before (subst (λ (n : ℕ). Rose b.bank_faults n) (sym faults_behind) (h.failed e));
    disk = ap (λ (s : MemoryState). s.disk_faults) ends.state ∙ h.disk ∙ ap (λ (s : MemoryState). s.disk_faults) begins.state;
    shared = shares;
  }

  pub goes : (step : BankState → BankState → Type 0) → step (bank_of b) (bank_of c) → Goes a d step
  goes step own = record {
    begun = b.history;
    done = c.history;
    before = before;
    own =
        subst (λ (n : ℕ). step (record { history = b.history; faults = n }) (record { history = c.history; faults = d.bank_faults })) faults_before
        (subst (λ (n : ℕ). step (bank_of b) (record { history = c.history; faults = n })) (sym faults_behind) own);
    behind = behind;
  }

  module _ (step : List Entry → List Entry → Type 0) (own : step b.history c.history) (extends : Extends b.history c.history) (unmarked : begun.mark ≡ None → c.history ≡ b.history) where
    pub told : BankCall a.visits.shared step (held_of a) (held_of d)
    told = record {
      slots = ap (λ (x : MemoryDisk). (disk_held x).slots) disk;
      grows = let longer = extends_all a.visits.shared (next_visit Before a.visits) (next_visit Behind a.visits) step a.history b.history c.history d.history before own behind extends in record { more = longer.0; is = longer.1 };
      history = around a.visits.shared (next_visit Before a.visits) (next_visit Behind a.visits) step a.history b.history c.history d.history before own behind;
    }

    grown : Extends a.history d.history
    grown = extends_all a.visits.shared (next_visit Before a.visits) (next_visit Behind a.visits) step a.history b.history c.history d.history before own behind extends

    past_then : c.past ≡ marked begun.mark a.past
    past_then = ap (λ (s : MemoryState). s.past) kept ∙ ap (λ (s : MemoryState). s.past) begins.state

    pub moment : IsMoment a d
    moment = by begun.mark refl begins.mark begins.came ends.came ends.past past_then
      where
        by : (m : Option Mark) → begun.mark ≡ m → IfSome m (λ mark. mark ≡ now_of a) → MatchOption m (b.history ≡ a.history) (λ mark. MayVisit a.visits.shared (next_visit Before a.visits) a.history b.history)
            → MatchOption m (d.history ≡ c.history) (λ mark. MayVisit c.visits.shared (visit_at Behind begun.number c.visits.visits) c.history d.history) → MatchOption m (d.past ≡ c.past) (λ mark. Unmarks mark c d) → c.past ≡ marked m a.past → IsMoment a d
        by None is far same_before same_behind past then = inl (record { past = past ∙ then; same = same_behind ∙ unmarked is ∙ same_before })
        by (Some n) is far came_before came_behind unmarks then =
            let long : n.entries ≡ length a.history = ap (λ (m : Mark). m.entries) far in
            elim (unmarks a.past then) [
              | inl back ↦ inl (record { past = back.past; same = grown_by_nothing a.history d.history grown.0 grown.1 (back.same ∙ long) })
              | inr stays ↦ inr (record { past = stays.past ∙ then ∙ ap (λ (m : Mark). a.past ++ m ∷ []) far; longer = λ e. stays.longer (e ∙ sym long) })
            ]

    pub crash : GoesOn site_state possible_of a d (MayGrow (Some (held_of d)))
    crash = goes_on a d disk grown moment
