use Rattle.transactions.proofs.TouchLaws.{all_touch, done_applies, one_touches, schema_stays}
use Rattle.transactions.proofs.laws.touch_law.Goals as goal

pub returns : goal.returns
returns c = record { one = one_touches; all = all_touch; schema = schema_stays; applies = done_applies }
