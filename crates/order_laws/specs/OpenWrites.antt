-- The writes of open sessions over the virtual state. (This project's rule: locks of rows.)

use Rattle.std.specs.Prelude.{◌≡◌, List, [], ◌∷◌, ◌++◌, Some, Bool, true, not}
use Rattle.std.specs.List.{list_all}
use Rattle.table_state.specs.table_defs.specs.declared.definition.TableDef.{TableDef}
use Rattle.table_state.specs.declared.operation.Op.{Op}
use Rattle.table_state.specs.Operations.{applied_all}
use Rattle.table_state.specs.Tables.{TableState}
use Rattle.order_laws.specs.Commits.{ops_conflict}

-- operations apply over a state
pub record Applies (s : TableState) (ops : List Op) : Type 0 where
  pub top : TableState
  pub leads : applied_all ops s ≡ Some top

-- those of each session do
abbrev pub AllApply : TableState → List (List Op) → Type 0
AllApply s [] = Unit {0}
AllApply s (own ∷ owns) = Applies s own × AllApply s owns

-- two lists of operations have no key of which one writes it
abbrev pub have_no_conflict : List TableDef → List Op → List Op → Bool
have_no_conflict schema a b = not (ops_conflict schema a b)

-- the operations conflict with none of these sessions' writes
abbrev pub meet_none : List TableDef → List Op → List (List Op) → Bool
meet_none schema ops owns = list_all (have_no_conflict schema ops) owns

-- no two sessions' writes conflict
abbrev pub NoneMeet : List TableDef → List (List Op) → Type 0
NoneMeet schema [] = Unit {0}
NoneMeet schema (own ∷ owns) = (meet_none schema own owns ≡ true) × NoneMeet schema owns

-- each session's writes apply over the state, and no two sessions' conflict
pub record OpenWrites (s : TableState) (owns : List (List Op)) : Type 0 where
  pub apply : AllApply s owns
  pub apart : NoneMeet s.schema owns

-- a session writes more: all of its writes apply, and the new ones conflict with no other session's
pub record WritesMore (s : TableState) (before : List (List Op)) (own more : List Op) (behind : List (List Op))
    : Type 0 where
  pub top : TableState
  pub leads : applied_all (own ++ more) s ≡ Some top
  pub meets : meet_none s.schema more (before ++ behind) ≡ true
