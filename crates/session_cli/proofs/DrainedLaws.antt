-- What stands where nothing is unsettled.
use Rattle.std.proofs.Common.{◌≡◌, ℕ, zero, suc, ◌<◌, Bool, true, false, cond, Some, List, [], ◌∷◌, length, slice_index_or, map, refl, sym, ap, ◌∙◌, arith}
use Rattle.std.specs.List.{filter, Contains}
use Rattle.table_state.specs.Tables.{TableState, table_at}
use Rattle.order_laws.specs.Commits.{pending}
use Rattle.order_laws.specs.Standing.{HasGroup}
use Rattle.order_laws.proofs.FlowLaws.{flow_drained}
use Rattle.cache_tier.specs.Commits.{live_group}
use Rattle.cache_tier.specs.Groups.{Group, is_writethrough}
use Rattle.cache_tier.specs.Rounds.{HasInOrder, IsDrained}
use Rattle.cache_tier.specs.Worlds.{World}
use Rattle.cache_tier.specs.StandingBetween.{Stands, live_groups_of, progress_in}
use Rattle.cache_tier.proofs.GroupTables.{in_tree}

-- a writethrough group at a place is one of the live groups
live_at : (groups : List Group) (g : Group) (k : ℕ) → k < length groups → slice_index_or groups k g ≡ g → is_writethrough g ≡ true → HasGroup (live_groups_of groups) (live_group g)
live_at [] g k within at writes = let never : ⊥ = omega arith in absurd never
live_at (h ∷ groups) g zero within at writes = record {
  before = [];
  behind = live_groups_of groups;
  is = ap (λ b. map live_group (cond b (h ∷ filter is_writethrough groups) (filter is_writethrough groups))) (ap is_writethrough at ∙ writes) ∙ ap (λ (one : Group). live_group one ∷ live_groups_of groups) at;
}
live_at (h ∷ groups) g (suc k) within at writes = by (is_writethrough h) refl (live_at groups g k (omega arith) at writes)
  where
    by : (b : Bool) → is_writethrough h ≡ b → HasGroup (live_groups_of groups) (live_group g) → HasGroup (live_groups_of (h ∷ groups)) (live_group g)
    by true e rest = record {
      before = live_group h ∷ rest.before;
      behind = rest.behind;
      is = ap (λ b. map live_group (cond b (h ∷ filter is_writethrough groups) (filter is_writethrough groups))) e ∙ ap (λ l. live_group h ∷ l) rest.is;
    }
    by false e rest = record {
      before = rest.before;
      behind = rest.behind;
      is = ap (λ b. map live_group (cond b (h ∷ filter is_writethrough groups) (filter is_writethrough groups))) e ∙ rest.is;
    }

-- so is each that the groups contain
one_live : (groups : List Group) (g : Group) → Contains groups g → is_writethrough g ≡ true → HasGroup (live_groups_of groups) (live_group g)
one_live groups g (k, within, at) writes = live_at groups g k within at writes

-- a tier that stands with nothing unsettled is drained
pub drained_of : (w : World) → Stands w → w.tier.unsettled ≡ [] → IsDrained w
drained_of w x none = record { settled = x.flow.rest ∙ came; ordered = in_order_of }
  where
    came : pending w.history w.tier.unsettled ≡ []
    came = ap (pending w.history) none

    in_order_of : (g : Group) → Contains w.tier.groups g → is_writethrough g ≡ true → HasInOrder w.history w.tier.log g
    in_order_of g among writes s ordered leaves is t on =
        let over = x.flow.stand.over in
        let one = flow_drained (progress_in w) w.tier.unsettled x.flow came (live_group g) (one_live w.tier.groups g among writes) in
        let told : Some over.backing ≡ Some s = sym over.leaves ∙ leaves in
        let backing : over.backing ≡ s = cc in
        let orders : Some one.ordered ≡ Some ordered = sym one.leaves ∙ is in
        let behind : one.ordered ≡ ordered = cc in
        ap (λ (state : TableState). table_at state t) (sym backing) ∙ sym (one.agree.rows t (in_tree g.def.tree t ∙ on)) ∙ ap (λ (state : TableState). table_at state t) behind
