-- The parts so far stand behind what was there.
use Rattle.std.proofs.Common.{false, ◌≡◌, ◌++◌, take}
use Rattle.sql_words.specs.Words.{more, spaced}
use Rattle.sql_print.specs.Groups.{group_table_words}
use Rattle.sql_print.specs.Normal.{normal_group_table}
use Rattle.sql_print.proofs.group.put_children.Given as goal

abbrev pub invariant-loop-table : goal.invariant-loop-table
invariant-loop-table l = l.out.items ≡ l.fn.out.items ++ spaced (more (λ t. group_table_words (normal_group_table false t)) (take l.table-index l.tables))
