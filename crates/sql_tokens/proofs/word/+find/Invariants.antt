use Rattle.std.proofs.Common.{length}
use Rattle.sql_tokens.proofs.word.+find.Given as goal

abbrev pub decreases-find : goal.decreases-find
decreases-find l = length l.list.now
