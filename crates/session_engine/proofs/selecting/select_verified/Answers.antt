use Rattle.std.proofs.Common.{subst}
use Rattle.session_engine.specs.Using.{Touches}
use Rattle.session_engine.proofs.QueryLaws.{refused_over}
use Rattle.session_engine.proofs.selecting.select_verified.Goals as goal

pub returns-in-Err-clause-selects : goal.returns-in-Err-clause-selects
returns-in-Err-clause-selects c =
    refused_over c.args.tier.now c.args.id c.args.query c.in-Err.refused c.in-Err.ensures.answers

pub returns-clause-selects : goal.returns-clause-selects
returns-clause-selects c = record {
  uses = c.in-Ok-uses_of.uses;
  are = c.in-Ok-uses_of.ensures;
  touches = subst (Touches c.args.tier.now c.touch.new.tier) c.as_slice.ensures c.touch.ensures.touched;
  answers = c.in-Ok.ensures.answers;
}
