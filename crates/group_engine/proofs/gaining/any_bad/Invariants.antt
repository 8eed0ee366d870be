-- On none of the rows so far it is 120.
use Rattle.std.proofs.Common.{◌≡◌, List, false, take}
use Rattle.std.specs.List.{list_any}
use Rattle.std.specs.FinMap.{entries}
use Rattle.row_types.specs.declared.value.Value.{Value}
use Rattle.group_catalog.specs.Kept.{group_seen}
use Rattle.group_engine.specs.Gaining.{is_bad}
use Rattle.group_engine.proofs.gaining.any_bad.Given as goal

abbrev pub invariant-loop-place : goal.invariant-loop-place
invariant-loop-place l = list_any (λ (e : List Value × List Value). is_bad l.refreshes l.which (group_seen l.group) l.store l.hidden.table e.0 e.1) (take l.place (entries l.rows)) ≡ false
