-- The values so far are the parent's key and the row's values so far.
use Rattle.std.proofs.Common.{◌≡◌, ◌++◌, take}
use Rattle.indexed_rows.specs.Rows.{key_of}
use Rattle.indexed_rows.proofs.parents.Parents.entry_of.Given as goal

abbrev pub invariant-loop-value : goal.invariant-loop-value
invariant-loop-value l = l.values.items ≡ key_of l.self.columns l.row ++ take l.value-index l.key
