use Rattle.session_cli.proofs.CheckLaws.{check_same, checked_same}
use Rattle.cache_engine.specs.Requests.{is_long}
use Rattle.session_cli.proofs.checker.check_law.Goals as goal

pub returns-clause-line : goal.returns-clause-line
returns-clause-line c = λ line r s a b. check_same (is_long line) line r s (c.one_meaning.ensures line) a b

pub returns-clause-lines : goal.returns-clause-lines
returns-clause-lines c = λ lines rs ss a b. checked_same lines rs ss c.one_meaning.ensures a b
