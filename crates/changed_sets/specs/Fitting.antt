-- Rows that come in, and fit their tables. (TimesTen SQL Reference, "CREATE TABLE": columns.)

use Rattle.std.specs.Prelude.{◌≡◌, ℕ, List, Option, Some, slice_get}
use Rattle.row_types.specs.declared.value.Value.{Value}
use Rattle.table_defs.specs.declared.definition.TableDef.{TableDef}
use Rattle.instances.specs.declared.tree.Tree.{Tree}
use Rattle.aging_cycles.specs.Fitting.{AreListedFit}
use Rattle.cache_tier.specs.Groups.{Group}
use Rattle.changed_sets.specs.declared.turns.Cut.{Cut}
use Rattle.changed_sets.specs.declared.turns.Patch.{Patch}
use Rattle.changed_sets.specs.declared.turns.Turn.{Turn}

-- the rows fit the tables of a tree, where there are some
abbrev pub FitWhere : List TableDef → Tree → Option (List (List (List Value))) → Type 0
FitWhere schema tree rows = (lists : List (List (List Value))) → rows ≡ Some lists → AreListedFit schema tree lists

-- so do those of each instance, at first
abbrev pub DoCutsFit : List TableDef → Tree → List Cut → Type 0
DoCutsFit schema tree cuts = (i : ℕ) (c : Cut) → slice_get cuts i ≡ Some c → FitWhere schema tree c.bare

-- and then
abbrev pub DoTurnsFit : List TableDef → Tree → List Turn → Type 0
DoTurnsFit schema tree turns = (i : ℕ) (t : Turn) → slice_get turns i ≡ Some t → FitWhere schema tree t.rows

-- all rows that come in with a patch fit the tables of a tree
pub record IsPatchFit (schema : List TableDef) (tree : Tree) (p : Patch) : Type 0 where
  pub cuts : DoCutsFit schema tree p.cuts
  pub turns : DoTurnsFit schema tree p.turns

-- those of each patch fit the tables of its group
abbrev pub ArePatchesFit : List TableDef → List Group → List (Option Patch) → Type 0
ArePatchesFit schema groups patches =
    (k : ℕ) (g : Group) (p : Patch) → slice_get groups k ≡ Some g → slice_get patches k ≡ Some (Some p)
    → IsPatchFit schema g.def.tree p
