use Rattle.row_types.proofs.TimeLaws.{literal_is_of, text_is_of}
use Rattle.row_types.proofs.laws.time_text_law.Goals as goal

pub returns-clause-text : goal.returns-clause-text
returns-clause-text c = text_is_of c.args.time c.date-date.result c.date-date.ensures.day c.date-date.ensures.year

pub returns-clause-literal : goal.returns-clause-literal
returns-clause-literal c = literal_is_of c.args.time c.date-date.result c.date-date.ensures.day c.date-date.ensures.year
