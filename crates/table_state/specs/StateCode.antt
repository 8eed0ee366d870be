-- The code by which proofs tell table states apart.

use Rattle.std.specs.Prelude.{List, refl}
use Rattle.std.specs.Coded.{Coded, code_by, coded×, coded_list}
use Rattle.std.specs.FinMap as map
use Rattle.table_defs.specs.row_types.specs.contracts.value.Value as one
use Rattle.table_defs.specs.declared.definition.TableDef.{TableDef}
use Rattle.table_defs.specs.contracts.definition.TableDef as definition
use Rattle.indexed_rows.specs.Rows.{Table}
use Rattle.table_state.specs.Tables.{TableState}

abbrev pub state_code : Coded TableState
state_code =
    code_by (List TableDef × List Table) (coded× (coded_list definition.the_row.coded)
    (coded_list (map.code (coded_list one.the_row.coded) (coded_list one.the_row.coded))))
    (λ s. (s.schema, s.tables)) (λ p. record { schema = p.0; tables = p.1 }) (λ _. refl)
