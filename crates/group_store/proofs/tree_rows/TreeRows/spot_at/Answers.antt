use Rattle.std.proofs.Common.{is_some, ap, sym, subst}
use Rattle.cache_store.specs.instances.specs.Views.{kept_at}
use Rattle.group_store.specs.Recent.{IsRowPlace}
use Rattle.group_store.specs.Joined.{tables_of}
use Rattle.group_store.proofs.tree_rows.TreeRows.spot_at.Goals as goal

pub returns-in-None : goal.returns-in-None
returns-in-None c = ap is_some (sym c.in-None.ensures.value)

pub returns-in-Some : goal.returns-in-Some
returns-in-Some c =
    subst (λ k. IsRowPlace (kept_at (tables_of c.args.self.now) c.args.place) k c.spot_of.result)
    (c.get.ensures.keyed c.args.key.now c.in-Some.row.now (sym c.in-Some.ensures.value)) c.spot_of.ensures
