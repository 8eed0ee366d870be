-- What a group shows, by place of its tree, and by its keys.
use Rattle.std.proofs.Common.{◌≡◌, ℕ, Bool, true, false, cond, ◌&&◌, Some, is_some, List, slice_get, unwrap_or, ap, ◌∙◌}
use Rattle.std.specs.Option.{option_and_then}
use Rattle.row_types.specs.declared.value.Value.{Value}
use Rattle.tier_base.specs.declared.number.TableId.{TableId}
use Rattle.evaluator.specs.Cascades.{key_in}
use Rattle.table_state.specs.declared.history.Entry.{Entry}
use Rattle.table_state.specs.Histories.{state_at}
use Rattle.table_state.specs.Tables.{TableState, table_at}
use Rattle.instances.specs.Trees.{place_of}
use Rattle.instances.specs.Views.{kept_at}
use Rattle.order_laws.specs.Commits.{virtual_state}
use Rattle.cache_tier.specs.declared.group.GroupDef.{GroupDef}
use Rattle.cache_tier.specs.Groups.{Group, covers, is_explicit, is_key, is_read_only}
use Rattle.cache_tier.specs.Shown.{exceeds, instances_where, root_key, shown, shown_in, shown_state, shown_where, table_of_group}
use Rattle.cache_tier.specs.TierStates.{Tier}
use Rattle.cache_tier.specs.Worlds.{World}
use Rattle.cache_tier.specs.StandingBetween.{HasCatalog, IsCatalogued}
use Rattle.cache_tier.proofs.ChosenGroups.{each_at}
use Rattle.cache_tier.proofs.GroupTables.{IsFound, each_own, over_is_found}
use Rattle.cache_tier.proofs.ShownTables.{table_shown}
use Rattle.cache_tier.proofs.TableLaws.{covered_defined}

abbrev Row : Type 0
Row = List Value

-- what is shown of a table is what its group shows at its place of the tree
pub shown_of_place : (h : List Entry) (t : Tier) (k : ℕ) (g : Group) (u : TableId) (p : ℕ) → HasCatalog t → slice_get t.groups k ≡ Some g → place_of g.def.tree u ≡ Some p → table_at (shown_state h t) u ≡ kept_at (shown h t.log g) p
shown_of_place h t k g u p catalog at place =
    let covered : covers u g ≡ true = ap is_some place in
    let defined = covered_defined t.schema g u (each_at (IsCatalogued t.schema) t.groups k g catalog.each at) covered in
    let found = each_at (IsFound t.groups) t.groups k g (each_own t.groups catalog.apart) at u covered in
    table_shown h t u defined
    ∙ ap (table_of_group h t.log u) (over_is_found t.groups u ∙ found)
    ∙ ap (λ o. kept_at (shown h t.log g) (unwrap_or o 0)) place

-- what it shows, by its keys
pub shown_by_keys : (v : TableState) (g h : Group) (test : Row → Bool) → h.def ≡ g.def → is_read_only h ≡ false → ((q : Row) → is_key h.keys q ≡ test q) → shown_in v h ≡ instances_where v g.def.tree (λ row. test (root_key v g row))
shown_by_keys v g h test def reads same =
    ap (λ (t : Row → Bool). instances_where v h.def.tree (λ row. cond (is_read_only h) (cond (is_explicit h) h.loaded (t (root_key v h row)) && exceeds h row) (t (root_key v h row)))) (λ i q. same q i)
    ∙ ap (λ b. instances_where v h.def.tree (λ row. cond b (cond (is_explicit h) h.loaded (test (root_key v h row)) && exceeds h row) (test (root_key v h row)))) reads
    ∙ ap (λ (d : GroupDef). instances_where v d.tree (λ row. test (key_in (slice_get v.schema d.tree.root.table.0) row))) def

-- it shows what it does of the virtual state
pub shown_virtual : (w : World) (v : TableState) (h : Group) → virtual_state w.history w.tier.log ≡ Some v → is_read_only h ≡ false → shown w.history w.tier.log h ≡ shown_in v h
shown_virtual w v h v_is reads =
    ap (λ b. shown_where (cond b (option_and_then (state_at w.history) h.position) (virtual_state w.history w.tier.log)) h) reads
    ∙ ap (λ o. shown_where o h) v_is
