-- The copies so far are those of the definitions so far.
use Rattle.std.proofs.Common.{◌≡◌, take}
use Rattle.table_defs.proofs.definition.copied_schema.Given as goal

abbrev pub invariant-loop-def : goal.invariant-loop-def
invariant-loop-def l = l.copies.items ≡ take l.def-index l.defs
