use Rattle.table_state.proofs.PositionLaws.{has_position, position_is, position_of-append, position_within}
use Rattle.table_state.proofs.laws.position_law.Goals as goal

pub returns-clause-stands : goal.returns-clause-stands
returns-clause-stands c = has_position

pub returns-clause-within : goal.returns-clause-within
returns-clause-within c = position_within

pub returns-clause-entry : goal.returns-clause-entry
returns-clause-entry c = position_is

pub returns-clause-append : goal.returns-clause-append
returns-clause-append c = position_of-append
