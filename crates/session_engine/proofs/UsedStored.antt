-- What is stored behind uses.
use Rattle.std.proofs.Common.{◌≡◌, List, [], ◌∷◌, map, refl, sym, ap, subst, ◌∙◌}
use Rattle.row_types.specs.declared.value.Value.{Value}
use Rattle.table_state.specs.Tables.{TableState}
use Rattle.cache_tier.specs.Groups.{Group}
use Rattle.cache_tier.specs.Standing.{AreDistinct}
use Rattle.cache_tier.specs.StandingBetween.{Each, HasKeys, Stands}
use Rattle.cache_tier.specs.TierStates.{Tier}
use Rattle.cache_tier.specs.Worlds.{World}
use Rattle.group_catalog.specs.Catalogs.{groups_in}
use Rattle.statement_uses.specs.Uses.{HaveUses}
use Rattle.statement_uses.proofs.UseLaws.{with_used}
use Rattle.session_engine.specs.Using.{Touches, Uses}
use Rattle.session_engine.proofs.UsedLists.{lists_touched}
use Rattle.stored_tier.specs.declared.tier.Tier.{Tier as Stored}
use Rattle.stored_tier.specs.Stored.{IsStoredAs, without_list}

abbrev Row : Type 0
Row = List Value

-- no key is listed twice
each_distinct : (virtual : TableState) (groups : List Group) → Each (HasKeys virtual) groups → Each (λ (g : Group). AreDistinct g.keys) groups
each_distinct virtual [] all = tt
each_distinct virtual (g ∷ groups) all = (all.0.distinct, each_distinct virtual groups all.1)

pub distinct_keys : (w : World) → Stands w → Each (λ (g : Group). AreDistinct g.keys) w.tier.groups
distinct_keys w stands = each_distinct stands.flow.stand.over.virtual w.tier.groups stands.keys

-- groups but for their lists
groups_used : (f : Group → Group) (roots : Group → List Row) → ((g : Group) → f g ≡ with_used (roots g) g) → (groups : List Group) → map without_list (map f groups) ≡ map without_list groups
groups_used f roots does [] = refl
groups_used f roots does (g ∷ groups) =
    ap (λ h. without_list h ∷ map without_list (map f groups)) (does g)
    ∙ ap (λ hs. without_list g ∷ hs) (groups_used f roots does groups)

pub stored_touched : (t new : Stored) (a : Tier) (uses : Uses) (roots : Group → List Row) (f : Group → Group) → IsStoredAs t a → Each (λ (g : Group). AreDistinct g.keys) a.groups → Touches t new uses → HaveUses (groups_in t.catalog) roots uses → ((g : Group) → roots (without_list g) ≡ roots g)
    → ((g : Group) → f g ≡ with_used (roots g) g) → IsStoredAs new (record a { groups = map f a.groups })
stored_touched t new a uses roots f is apart touches have bare does = subst (λ z. IsStoredAs z (record a { groups = map f a.groups })) (sym touches.rest) (record {
  schema = is.schema;
  stale = is.stale;
  groups = groups_used f roots does a.groups ∙ is.groups;
  lists = lists_touched f roots does bare a.groups t.stores.items new.stores.items t.hidden.items uses touches.stores (subst (λ gs. HaveUses gs roots uses) (sym is.groups) have) apart is.lists;
  sessions = is.sessions;
  unsettled = is.unsettled;
  next = is.next;
  doubt = is.doubt;
  time = is.time;
})
