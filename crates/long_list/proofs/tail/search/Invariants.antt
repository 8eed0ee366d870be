-- Each element so far is below what is sought.
use Rattle.std.proofs.Common.{ℕ, ◌≡◌, ◌<◌, length, get_or}
use Rattle.std.specs.declared.cmp.Ordering.TheVariants.{Less}
use Rattle.long_list.proofs.tail.search.Given as goal

abbrev pub invariant-loop-element : goal.invariant-loop-element
invariant-loop-element g l = record {
  count : l.place ≡ length l.yielded;
  below : (k : ℕ) (d : g.row.T.Denot) → k < l.place → g.P.Probe.order_gives l.probe (get_or l.list k d) ≡ Less;
}
