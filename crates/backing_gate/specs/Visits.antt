-- Transactions of others that are planned for calls. (This project's rule for sites in memory.)

use Rattle.std.specs.Prelude.{ℕ, ◌+◌, ◌-◌, ◌^◌, List, [], ◌∷◌, ◌++◌, Option, Bool, true, false, ◌&&◌, ◌==◌, find, map, min}
use Rattle.std.specs.Option.{option_map}
use Rattle.tier_base.specs.declared.number.TableId.{TableId}
use Rattle.evaluator.specs.declared.change.Change.{Change}
use Rattle.backing_gate.specs.declared.visit.Side.{Side}
use Rattle.backing_gate.specs.declared.visit.Side.TheVariants.{Before, Behind}
use Rattle.backing_gate.specs.declared.visit.Visit.{Visit}
use Rattle.backing_gate.specs.Plans.{one_more}

-- the transactions in the order in which they were planned, the tables that their writes name, and the bank calls so
-- far
pub record Visiting : Type 0 where
  pub visits : List Visit
  pub shared : List TableId
  pub calls : ℕ

abbrev pub no_visits : Visiting
no_visits = record { visits = []; shared = []; calls = 0 }

abbrev pub same_side : Side → Side → Bool
same_side Before Before = true
same_side Behind Behind = true
same_side a b = false

-- the transaction is for this side of the call of this number
abbrev pub is_at : Side → ℕ → Visit → Bool
is_at side number visit = same_side visit.side side && (visit.number == number)

-- the writes of the first transaction for this side of the call
abbrev pub visit_at : Side → ℕ → List Visit → Option (List Change)
visit_at side number visits = option_map (λ v. v.changes) (find (is_at side number) visits)

-- those for the next call
abbrev pub next_visit : Side → Visiting → Option (List Change)
next_visit side v = visit_at side v.calls v.visits

abbrev pub after_bank_call : Visiting → Visiting
after_bank_call v = record { visits = v.visits; shared = v.shared; calls = one_more v.calls }

-- the tables that writes name
abbrev pub tables_of : List Change → List TableId
tables_of changes = map (λ c. c.table) changes

-- one more is planned, and the tables that its writes name are shared
abbrev pub with_visit : Visit → Visiting → Visiting
with_visit visit v = record {
  visits = v.visits ++ visit ∷ [];
  shared = v.shared ++ tables_of visit.changes;
  calls = v.calls;
}

-- the number of the call that so many calls come before
abbrev pub number_behind : ℕ → Visiting → ℕ
number_behind calls v = min (v.calls + calls) (2 ^ 64 - 1)
