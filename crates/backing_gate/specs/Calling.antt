-- How a bank call begins and ends. (This project's rule for sites in memory.)

use Rattle.std.specs.Prelude.{◌≡◌, ◌⊎◌, List, [], ◌∷◌, ◌++◌, Option, Some, None, MatchOption, length}
use Rattle.std.specs.Option.{IfSome}
use Rattle.backing_gate.specs.declared.mark.Mark.{Mark}
use Rattle.backing_gate.specs.declared.memory_site.Begun.{Begun}
use Rattle.backing_gate.specs.declared.plan.CallKind.{CallKind}
use Rattle.backing_gate.specs.declared.plan.Outcome.{Outcome}
use Rattle.backing_gate.specs.declared.plan.Outcome.TheVariants.{Failed, Refused}
use Rattle.backing_gate.specs.declared.plan.When.TheVariants as when
use Rattle.backing_gate.specs.declared.visit.Side.TheVariants.{Before, Behind}
use Rattle.memory_disk.specs.Possible.{moment_of as disk_moment}
use Rattle.backing_gate.specs.Heeding.{MayVisit}
use Rattle.backing_gate.specs.Memory.{MemoryState, now_of}
use Rattle.backing_gate.specs.Plans.{after_call, planned_next}
use Rattle.backing_gate.specs.Visits.{after_bank_call, next_visit, visit_at}

-- a call for whose moment memory is wanting has no effect, and wants memory unless it fails anyway
abbrev pub wanting : Option Outcome → Option Outcome
wanting None = Some Refused
wanting (Some Refused) = Some Refused
wanting (Some (Failed when.Before)) = Some (Failed when.Before)
wanting (Some (Failed when.After)) = Some Refused

-- what the call heeds: its plan, where its moment was marked
abbrev pub heeded : Option Mark → Option Outcome → Option Outcome
heeded None outcome = wanting outcome
heeded (Some mark) outcome = outcome

-- the moment is marked by how far the site was before it
abbrev pub marked : Option Mark → List Mark → List Mark
marked None past = past
marked (Some mark) past = past ++ mark ∷ []

-- A call begins: it is counted, its moment is marked, and what others planned before it comes.
pub record Begins (kind : CallKind) (begun : Begun) (old new : MemoryState) : Type 0 where
  pub outcome : begun.outcome ≡ heeded begun.mark (planned_next kind old.planned)
  pub number : begun.number ≡ old.visits.calls
  pub mark : IfSome begun.mark (λ mark. mark ≡ now_of old)
  pub came : MatchOption begun.mark (new.history ≡ old.history)
      (λ mark. MayVisit old.visits.shared (next_visit Before old.visits) old.history new.history)
  pub state : new
      ≡ record old {
        history = new.history;
        past = marked begun.mark old.past;
        planned = after_call kind old.planned;
        visits = after_bank_call old.visits;
      }

-- the history is as long as it was, and the mark is gone
pub record Stays (mark : Mark) (front : List Mark) (new : MemoryState) : Type 0 where
  pub past : new.past ≡ front
  pub same : length new.history ≡ mark.entries

-- it is longer, and the mark stands
pub record IsLonger (mark : Mark) (old new : MemoryState) : Type 0 where
  pub past : new.past ≡ old.past
  pub longer : length new.history ≡ mark.entries → ⊥

-- the mark goes where the history is as long as it was
abbrev pub Unmarks : Mark → MemoryState → MemoryState → Type 0
Unmarks mark old new =
    (front : List Mark) → old.past ≡ front ++ mark ∷ [] → Stays mark front new ⊎ IsLonger mark old new

-- It ends: what others planned behind it comes, and the moment stays marked where something came.
pub record Ends (begun : Begun) (old new : MemoryState) : Type 0 where
  pub came : MatchOption begun.mark (new.history ≡ old.history)
      (λ mark. MayVisit old.visits.shared (visit_at Behind begun.number old.visits.visits) old.history new.history)
  pub past : MatchOption begun.mark (new.past ≡ old.past) (λ mark. Unmarks mark old new)
  pub state : new ≡ record old { history = new.history; past = new.past }

-- the disk is as far as it was, and the mark is gone
pub record IsAsFar (mark : Mark) (front : List Mark) (old new : MemoryState) : Type 0 where
  pub past : new.past ≡ front
  pub same : disk_moment old.disk ≡ mark.calls

-- it is further, and the mark stands
pub record IsFurther (mark : Mark) (old new : MemoryState) : Type 0 where
  pub past : new.past ≡ old.past
  pub further : disk_moment old.disk ≡ mark.calls → ⊥

-- a call of the disk ends: the mark goes where the disk is as far as it was
abbrev pub Closes : Mark → MemoryState → MemoryState → Type 0
Closes mark old new =
    (front : List Mark) → old.past ≡ front ++ mark ∷ [] → IsAsFar mark front old new ⊎ IsFurther mark old new
