-- As the groups are kept.
use Rattle.std.proofs.Common.{ℕ, ◌<◌, arith, length, refl, subst}
use Rattle.std.proofs.lemmas.List.{length-map}
use Rattle.cache_tier.specs.Groups.{Group}
use Rattle.group_catalog.specs.Kept.{group_seen}
use Rattle.group_catalog.proofs.CatalogLaws.{changed_one}
use Rattle.group_catalog.proofs.catalog.Catalog.with_horizon.Goals as goal

pub returns : goal.returns
returns c =
    let within : c.args.place < length c.args.self.now.groups.items =
    subst (λ (n : ℕ). c.args.place < n) (length-map c.args.self.now.groups.items group_seen) c.requires in
    changed_one (λ (g : Group). record g { horizon = c.args.horizon }) c.args.self.now.groups.items c.args.place 0 c.args.place c.index_mut-group.result.now
    (record c.index_mut-group.result.now { horizon = c.args.horizon }) (omega arith) within c.index_mut-group.ensures.value refl
