-- No group so far has the name.
use Rattle.std.proofs.Common.{◌≡◌, ◌<◌, ℕ, false, slice_get}
use Rattle.group_catalog.specs.Catalogs.{groups_in}
use Rattle.recalling.specs.Steps.{is_one_called}
use Rattle.recalling.proofs.naming.find_named.Given as goal

abbrev pub invariant-loop-place : goal.invariant-loop-place
invariant-loop-place l = (k : ℕ) → k < l.place → is_one_called l.name (slice_get (groups_in l.catalog) k) ≡ false
