use Rattle.order_laws.proofs.EffectLaws.{all_apart, one_apart}
use Rattle.order_laws.proofs.UnrelatedLaws.{unrelated}
use Rattle.order_laws.proofs.laws.apart_law.Goals as goal

pub returns-clause-one : goal.returns-clause-one
returns-clause-one c = one_apart

pub returns-clause-all : goal.returns-clause-all
returns-clause-all c = all_apart

pub returns-clause-tables : goal.returns-clause-tables
returns-clause-tables c = unrelated
