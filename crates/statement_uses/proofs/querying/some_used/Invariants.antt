-- No group so far has one of the tables and keeps its order.
use Rattle.std.proofs.Common.{◌≡◌, ◌<◌, ℕ, Some, false, slice_get, true}
use Rattle.std.specs.List.{list_any}
use Rattle.cache_tier.specs.Groups.{Group, covers}
use Rattle.group_catalog.specs.Catalogs.{groups_in}
use Rattle.statement_uses.specs.Uses.{keeps_order}
use Rattle.statement_uses.proofs.querying.some_used.Given as goal

abbrev pub invariant-loop-place : goal.invariant-loop-place
invariant-loop-place l =
    (place : ℕ) (g : Group) → place < l.place → slice_get (groups_in l.catalog) place ≡ Some g → keeps_order g ≡ true
    → list_any (λ table. covers table g) l.tables ≡ false
