-- The columns and values that are left decide, and are as many.
use Rattle.std.proofs.Common.{◌≡◌, length}
use Rattle.std.specs.Iterator.Adapters.{zip_first, zip_second}
use Rattle.std.specs.Slice.Iter.{iter_rest}
use Rattle.resolution.specs.Assignments.{suit_columns}
use Rattle.resolution.proofs.PairLaws.{families_of}
use Rattle.resolution.proofs.assigning.suit_columns.Given as goal

abbrev pub invariant-loop-place : goal.invariant-loop-place
invariant-loop-place l = record {
  decides : suit_columns l.columns l.targets (families_of l.families l.values) ≡ suit_columns l.columns (iter_rest (zip_first l.place-iterator)) (families_of l.families (iter_rest (zip_second l.place-iterator)));
  many : length (iter_rest (zip_first l.place-iterator)) ≡ length (iter_rest (zip_second l.place-iterator));
}
