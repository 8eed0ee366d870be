-- The rows so far are printed.
use Rattle.std.proofs.Common.{◌≡◌, take}
use Rattle.cache_tier.specs.Printing.{rows_bytes}
use Rattle.tier_statements.proofs.answering.print_rows.Given as goal

abbrev pub invariant-loop-row : goal.invariant-loop-row
invariant-loop-row l = l.out.items ≡ rows_bytes (take l.row-index l.rows)
