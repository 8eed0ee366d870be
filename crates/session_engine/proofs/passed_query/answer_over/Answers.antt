use Rattle.session_engine.proofs.QueryLaws.{calm_answer}
use Rattle.session_engine.proofs.passed_query.answer_over.Goals as goal

pub returns-clause-calm : goal.returns-clause-calm
returns-clause-calm c = calm_answer c.args.query.now _ c.answer_query.result c.answer_query.ensures
