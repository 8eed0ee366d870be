use Rattle.std.proofs.Common.{length}
use Rattle.sql_tokens.proofs.Ranges.{range_split}
use Rattle.sql_tokens.proofs.lexer.end.Goals as goal

pub returns-in-InFraction : goal.returns-in-InFraction
returns-in-InFraction c = rw (c.in-InFraction.is, ← range_split c.args.line.now c.in-InFraction.start c.in-InFraction.fraction (length c.args.line.now) (rw c.in-InFraction.is at c.requires).0 (rw c.in-InFraction.is at c.requires).1, ← c.fraction_kind.ensures) c.write-in-InFraction.ensures
