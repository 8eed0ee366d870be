-- A definition that is taken out of the catalog and put back.
use Rattle.std.proofs.Common.{◌≡◌, ◌∙◌, ℕ, ap, get_or, subst, sym}
use lib.Seq.{set-get_or}
use Rattle.std.specs.Prelude.{slice_set}
use Rattle.std.specs.Vec.{with_item}
use Rattle.std.specs.formers.vec.Vec.{holding_along}
use Rattle.group_catalog.specs.declared.catalog.Catalog.{Catalog}
use Rattle.group_catalog.specs.declared.kept.KeptGroup.{KeptGroup}

-- the group at a place comes to its place again
pub catalog_same : (k : Catalog) (i : ℕ) (g x : KeptGroup) → x ≡ g → g ≡ get_or k.groups.items i g → record k { groups = with_item k.groups i x } ≡ k
catalog_same k i g x back value =
    let there = subst (λ (y : KeptGroup). y ≡ get_or k.groups.items i y) (sym back) value in
    λ j. record k { groups = holding_along k.groups (slice_set k.groups.items i x) k.groups.items (ap (slice_set k.groups.items i) there ∙ set-get_or k.groups.items i x) (with_item k.groups i x).ok k.groups.ok j }
