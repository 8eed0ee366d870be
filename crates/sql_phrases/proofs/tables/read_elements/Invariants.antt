use Rattle.std.proofs.Common.{length}
use Rattle.sql_phrases.specs.Reading.{at_comma}
use Rattle.sql_phrases.specs.Tables.{with_element, element_of, elements_of}
use Rattle.sql_phrases.proofs.Chains.{Chaining}
use Rattle.sql_phrases.proofs.tables.read_elements.Given as goal

-- the table so far, and what the rest gives, are the whole
abbrev pub invariant-loop-rest : goal.invariant-loop-rest
invariant-loop-rest l = Chaining at_comma with_element element_of (elements_of l.fn.name (l.fn.first, l.fn.r)) l.table l.rest

abbrev pub decreases-loop-rest : goal.decreases-loop-rest
decreases-loop-rest l = length l.rest
