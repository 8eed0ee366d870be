-- What a crash leaves at each moment of a run of the program, whatever the status with which it ends.
use Rattle.std.proofs.Common.{◌≡◌, ◌⊎◌, inl, inr, ℕ, Option, Some, List, sym, subst}
use Rattle.table_state.specs.Histories.{state_of}
use Rattle.table_state.specs.Tables.{TableState}
use Rattle.outside.specs.Holding.{Held}
use Rattle.outside.specs.Sites.{SiteState}
use Rattle.cache_tier.specs.declared.reply.Reply.{Reply}
use Rattle.cache_tier.specs.TierStates.{Settings}
use Rattle.cache_engine.specs.Opening.{Opens}
use Rattle.tier_journal.specs.KeptOver.{IsLeftOver, KeepsOver}
use Rattle.tier_opening.specs.Opening.{MayOpen}
use Rattle.session_cli.specs.declared.answering.Stop.{Stop}
use Rattle.session_cli.specs.declared.answering.Stop.TheVariants as stop
use Rattle.session_cli.specs.declared.serving.Status.{Status}
use Rattle.session_cli.specs.declared.serving.Status.TheVariants.{Damaged, Differs, DiskFailed, Finished, InputTooLong, LineUnchecked, NoMemory, SchemaFailed, SinkFailed, SourceFailed}
use Rattle.session_cli.specs.Cutting.{all_lines, ended_lines}
use Rattle.session_cli.specs.Ends.{Outcome}
use Rattle.session_cli.specs.Opening.{begins}
use Rattle.session_cli.specs.Outside.{WasKept, seen}
use Rattle.session_cli.specs.Serving.{Answered, Broken, HasFlushed, Origin, Rests, StopsAt}
use Rattle.session_cli.specs.Timing.{Coming}
use Rattle.reopened_laws.specs.Ending.{MayOpenAgain}
use Rattle.reopened_laws.specs.Within.{BrokenIsSafe, CutIsSafe, OutcomeIsSafe, RunsAreSafe, StopIsSafe, StopsAreSafe, was_in}
use Rattle.reopened_laws.proofs.WithinLaws.{broken_ends_are_safe, broken_lines_are_safe, flushed_are_safe, rests_are_safe, was_begun}

module _ {D : Type 0} (state : D → SiteState) (possible : D → ℕ → Held → Type 0) where
  module _ (settings : Settings) (moment : ℕ) (there left : Held) (s : TableState) (o : Origin) (d : D) (x : Opens settings moment there o.world) (may : MayOpenAgain o.world.shared there) (told : (state d).held ≡ Some left) (leaves : state_of left.history ≡ Some s)
      (written : Option (List ℕ)) (coming : Coming) where
    broken_is_safe : (lines : List (List ℕ)) (replies : List (Option Reply)) (b : Broken o lines replies (state d) (WasKept state possible) (IsLeftOver state possible d)) → BrokenIsSafe state possible d s.schema (was_in x) o lines replies b
    broken_is_safe lines replies (inl b) = broken_lines_are_safe state possible settings moment there left s o lines replies d x may b told leaves
    broken_is_safe lines replies (inr b) = broken_ends_are_safe state possible settings moment there left s o lines replies d x may b told leaves

    cut_is_safe : (lines : List (List ℕ)) (replies : List (Option Reply))
        (c : Answered Rests o lines replies (state d) (KeepsOver state possible d) (WasKept state possible)
        ⊎ (Answered HasFlushed o lines replies (state d) (KeepsOver state possible d) (WasKept state possible) ⊎ Broken o lines replies (state d) (WasKept state possible) (IsLeftOver state possible d))) → CutIsSafe state possible d s.schema (was_in x) o lines replies c
    cut_is_safe lines replies (inl a) = rests_are_safe state possible settings moment there left s o lines replies d x may a told leaves
    cut_is_safe lines replies (inr (inl a)) = flushed_are_safe state possible settings moment there left s o lines replies d x may a told leaves
    cut_is_safe lines replies (inr (inr b)) = broken_is_safe lines replies b

    stop_is_safe : (why : Stop) (lines : List (List ℕ)) (c : StopsAt why o lines (seen written coming state possible d)) → StopIsSafe state possible d written coming s.schema (was_in x) why o lines c
    stop_is_safe stop.Sink lines c = cut_is_safe lines c.replies c.answered
    stop_is_safe stop.Disk lines c = broken_is_safe lines c.replies c.broken

    stops_are_safe : (why : Stop) (front : List ℕ) (c : StopsAt why o (ended_lines front) (seen written coming state possible d) ⊎ StopsAt why o (all_lines front) (seen written coming state possible d)) → StopsAreSafe state possible d written coming s.schema (was_in x) why o front c
    stops_are_safe why front (inl c) = stop_is_safe why (ended_lines front) c
    stops_are_safe why front (inr c) = stop_is_safe why (all_lines front) c

    outcome_is_safe : (status : Status) (given : List ℕ) (c : Outcome status o given (seen written coming state possible d)) → OutcomeIsSafe state possible d written coming s.schema (was_in x) status o given c
    outcome_is_safe Finished given c = flushed_are_safe state possible settings moment there left s o (all_lines given) c.replies d x may c.answered told leaves
    outcome_is_safe SourceFailed given c = rests_are_safe state possible settings moment there left s o (ended_lines given) c.replies d x may c.answered told leaves
    outcome_is_safe InputTooLong given c = rests_are_safe state possible settings moment there left s o (ended_lines given) c.replies d x may c.answered told leaves
    outcome_is_safe SinkFailed given c = stops_are_safe stop.Sink c.front c.answered
    outcome_is_safe DiskFailed given c = stops_are_safe stop.Disk c.front c.answered
    outcome_is_safe LineUnchecked given c = tt
    outcome_is_safe SchemaFailed given c = tt
    outcome_is_safe NoMemory given c = tt
    outcome_is_safe Damaged given c = tt
    outcome_is_safe Differs given c = tt

  pub runs_are_safe : RunsAreSafe state possible
  runs_are_safe onset status settings there left s start input written written' coming coming' d d' source x alone may told leaves =
      subst (λ b. OutcomeIsSafe state possible d' written' coming' s.schema b status (begins x.world start coming) (x.ended alone).taken.given (x.ended alone).outcome)
      (was_begun onset (state d).moment there x.opens x.starts)
      (outcome_is_safe settings x.first there left s (begins x.world start coming) d' x.opens (record { may = subst (λ s. MayOpen s there) (sym x.shares) may.may; bytes = may.bytes; named = may.named }) told leaves written' coming' status
      (x.ended alone).taken.given (x.ended alone).outcome)
