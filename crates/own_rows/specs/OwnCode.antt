-- The code by which proofs tell own rows apart.

use Rattle.std.specs.Prelude.{refl}
use Rattle.std.specs.Coded.{Coded, code_by, coded×, coded_list}
use Rattle.std.specs.FinMap as map
use Rattle.table_state.specs.row_types.specs.contracts.value.Value as one
use Rattle.table_state.specs.indexed_rows.specs.Rows.{Table}
use Rattle.own_rows.specs.declared.own.OwnRows.{OwnRows}

abbrev pub table_code : Coded Table
table_code = map.code (coded_list one.the_row.coded) (coded_list one.the_row.coded)

abbrev pub own_code : Coded OwnRows
own_code =
    code_by ((Table × Table) × Table) (coded× (coded× table_code table_code) table_code)
    (λ own. ((own.live, own.fresh), own.gone)) (λ p. record { live = p.0.0; fresh = p.0.1; gone = p.1 }) (λ _. refl)
