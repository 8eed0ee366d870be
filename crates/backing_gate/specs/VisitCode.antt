-- The code by which proofs tell planned transactions apart.

use Rattle.std.specs.Prelude.{ℕ, List, refl}
use Rattle.std.specs.Coded.{Coded, code_by, coded×, coded_list, coded_ℕ}
use Rattle.tier_base.specs.declared.number.TableId.{TableId}
use Rattle.tier_base.specs.contracts.number.TableId as id
use Rattle.backing_gate.specs.declared.visit.Visit.{Visit}
use Rattle.backing_gate.specs.contracts.visit.Visit as one
use Rattle.backing_gate.specs.Visits.{Visiting}

abbrev pub visiting_code : Coded Visiting
visiting_code =
    code_by (List Visit × (List TableId × ℕ))
    (coded× (coded_list one.the_row.coded) (coded× (coded_list id.the_row.coded) coded_ℕ))
    (λ v. (v.visits, (v.shared, v.calls))) (λ p. record { visits = p.0; shared = p.1.0; calls = p.1.1 }) (λ _. refl)
