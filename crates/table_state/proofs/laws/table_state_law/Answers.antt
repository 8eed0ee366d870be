use Rattle.table_state.proofs.SoundLaws.{new_sound, none_sound, op_sound, ops_sound}
use Rattle.table_state.proofs.laws.table_state_law.Goals as goal

pub returns-clause-none : goal.returns-clause-none
returns-clause-none c = none_sound

pub returns-clause-one : goal.returns-clause-one
returns-clause-one c = op_sound

pub returns-clause-all : goal.returns-clause-all
returns-clause-all c = ops_sound

pub returns-clause-define : goal.returns-clause-define
returns-clause-define c = new_sound
