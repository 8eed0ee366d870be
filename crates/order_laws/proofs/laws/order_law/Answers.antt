use Rattle.order_laws.proofs.AgreeLaws.{same_in_order}
use Rattle.order_laws.proofs.NextLaws.{legal_behind, virtual_stays}
use Rattle.order_laws.proofs.laws.order_law.Goals as goal

pub returns-clause-order : goal.returns-clause-order
returns-clause-order c = λ g h log v o both. same_in_order g h both.low log both.high v o both.once both.ops both.rise both.none_below both.virtual_is both.ordered_is

pub returns-clause-virtual_stays : goal.returns-clause-virtual_stays
returns-clause-virtual_stays c = virtual_stays

pub returns-clause-legal_stays : goal.returns-clause-legal_stays
returns-clause-legal_stays c = legal_behind
