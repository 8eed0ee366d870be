-- The value of a literal is of the family of its form.
use Rattle.std.proofs.Common.{rules}
use Rattle.resolution.proofs.LiteralLaws.{family_of_held}
use Rattle.resolution.proofs.placing.standing_for.Goals as goal

pub returns-in-Some-clause-family : goal.returns-in-Some-clause-family
returns-in-Some-clause-family c = family_of_held c.args.literal.now c.in-Some.value (search rules)
