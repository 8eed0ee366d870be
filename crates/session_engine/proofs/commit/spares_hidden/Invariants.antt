-- The groups so far.
use Rattle.std.proofs.Common.{◌≡◌, length}
use Rattle.group_catalog.specs.Catalogs.{groups_in}
use Rattle.session_engine.proofs.CommittedStores.{SparesTo}
use Rattle.session_engine.proofs.commit.spares_hidden.Given as goal

abbrev pub invariant-loop-place : goal.invariant-loop-place
invariant-loop-place l = record {
  so_far : SparesTo (groups_in l.catalog) l.ops l.place;
  end : length (groups_in l.catalog) ≡ l.place-end;
}
