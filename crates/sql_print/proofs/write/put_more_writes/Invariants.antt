-- The writes so far stand behind what was there.
use Rattle.std.proofs.Common.{◌≡◌, ◌++◌, take}
use Rattle.sql_words.specs.Words.{spaced}
use Rattle.sql_print.specs.Printed.{more_write_words}
use Rattle.sql_print.proofs.write.put_more_writes.Given as goal

abbrev pub invariant-loop-write : goal.invariant-loop-write
invariant-loop-write l = l.out.items ≡ l.fn.out.items ++ spaced (more_write_words (take l.write-index l.writes))
