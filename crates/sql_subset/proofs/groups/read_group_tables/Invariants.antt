use Rattle.std.proofs.Common.{length}
use Rattle.sql_phrases.specs.Reading.{at_comma, with_last}
use Rattle.sql_subset.specs.Groups.{group_table_of, group_tables_of}
use Rattle.sql_phrases.proofs.Chains.{Chaining}
use Rattle.sql_subset.proofs.groups.read_group_tables.Given as goal

-- the list so far, and what the rest gives, are the whole
abbrev pub invariant-loop-kind : goal.invariant-loop-kind
invariant-loop-kind l = Chaining at_comma with_last (group_table_of l.fn.kind) (group_tables_of l.fn.kind l.fn.r) l.tables.items l.rest

abbrev pub decreases-loop-kind : goal.decreases-loop-kind
decreases-loop-kind l = length l.rest
