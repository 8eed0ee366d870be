-- A deletion with ON DELETE CASCADE: what refers to the row leaves before it. (TimesTen SQL Reference, "CREATE TABLE":
-- ON DELETE CASCADE; the order of the operations is this project's rule.)

use Rattle.std.specs.Prelude.{ℕ, zero, suc, List, [], ◌∷◌, ◌++◌, Option, Some, None, Bool, false, ◌&&◌, ◌==◌, slice_get, if◌then◌else◌, option_to_list}
use Rattle.std.specs.List.{filter, flat_map}
use Rattle.std.specs.FinMap.{values}
use Rattle.expressions.specs.row_types.specs.declared.value.Value.{Value}
use Rattle.expressions.specs.tier_base.specs.declared.number.TableId.{TableId}
use Rattle.table_state.specs.table_defs.specs.declared.definition.TableDef.{TableDef}
use Rattle.table_state.specs.table_defs.specs.declared.definition.ForeignKey.{ForeignKey}
use Rattle.table_state.specs.declared.operation.Op.{Op}
use Rattle.table_state.specs.declared.operation.Op.TheVariants.{Delete}
use Rattle.table_state.specs.table_defs.specs.Names.{table_id}
use Rattle.table_state.specs.indexed_rows.specs.Rows.{key_of}
use Rattle.table_state.specs.Tables.{TableState, table_at}
use Rattle.table_state.specs.ScanChildren.{refers_to}

-- the foreign key refers to this table, and its rows leave with the parent's
abbrev pub cascades_from : TableId → Option ForeignKey → Bool
cascades_from parent None = false
cascades_from parent (Some foreign) = foreign.cascade && (foreign.parent.0 == parent.0)

abbrev pub child_at : TableId → ℕ → TableDef → List TableId
child_at parent place def = if cascades_from parent def.foreign_key then option_to_list (table_id place) else []

-- the tables from a place on whose rows leave with those of this one, in the order of their definition
abbrev pub children_from : TableId → ℕ → List TableDef → List TableId
children_from parent place [] = []
children_from parent place (def ∷ defs) = child_at parent place def ++ children_from parent (suc place) defs

-- the key of a row of this table
abbrev pub key_in : Option TableDef → List Value → List Value
key_in None row = []
key_in (Some def) row = key_of def.primary_key row

-- the rows of a table that refer to the key, in key order
abbrev pub referring : TableState → List Value → TableId → List (List Value)
referring s key child = filter (refers_to key (slice_get s.schema child.0)) (values (table_at s child))

-- A row with what leaves with it: table by table and row by row, each behind what leaves with it in turn. At most n
-- tables deep.
abbrev pub deleted : ℕ → TableState → TableId → List Value → List Op
deleted zero s t row = []
deleted (suc n) s t row =
    flat_map (λ child. flat_map (deleted n s child) (referring s (key_in (slice_get s.schema t.0) row) child))
    (children_from t 0 s.schema) ++ Delete t row ∷ []
