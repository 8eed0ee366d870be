use Rattle.std.proofs.Common.{length}
use Rattle.sql_phrases.specs.Reading.{with_last}
use Rattle.sql_phrases.specs.Writes.{write_of}
use Rattle.sql_subset.specs.Statements.{goes_on, writes_of}
use Rattle.sql_phrases.proofs.Chains.{Chaining}
use Rattle.sql_subset.proofs.statements.read_writes.Given as goal

-- the writes so far, and what the rest gives, are the whole
abbrev pub invariant-loop-rest : goal.invariant-loop-rest
invariant-loop-rest l = Chaining goes_on with_last write_of (writes_of l.fn.r) l.writes.items l.rest

abbrev pub decreases-loop-rest : goal.decreases-loop-rest
decreases-loop-rest l = length l.rest
