-- What a statement wants, and which group loads it.
use Rattle.std.proofs.Common.{◌≡◌, ℕ, Bool, true, false, cond, not, ◌&&◌, Option, Some, None, List, [], ◌∷◌, map, slice_get, Result, Ok, Err, refl, sym, ap, subst, ◌∙◌}
use Rattle.std.specs.Prelude.{IfOk}
use Rattle.std.specs.declared.alloc.AllocError.{AllocError}
use Rattle.std.specs.FinMap.{contains_key}
use Rattle.std.specs.Option.{option_and_then, option_map}
use Rattle.tier_base.specs.declared.number.TableId.{TableId}
use Rattle.table_state.specs.declared.history.Entry.{Entry}
use Rattle.table_state.specs.Tables.{TableState, table_at}
use Rattle.cache_tier.specs.Groups.{Group, covers, definitions_of, group_over, place_over}
use Rattle.cache_tier.specs.Shown.{shown_state, shown_table}
use Rattle.cache_tier.specs.StandingBetween.{IsCatalogued, Stands}
use Rattle.cache_tier.specs.TierStates.{Tier}
use Rattle.cache_tier.specs.Wants.{is_missing, loads_on_demand}
use Rattle.cache_tier.specs.Wants as wants
use Rattle.cache_tier.specs.Worlds.{World}
use Rattle.cache_tier.proofs.GroupTables.{each_found, find_passes, over_is_found}
use Rattle.cache_tier.proofs.ShownTables.{table_shown}
use Rattle.cache_tier.proofs.TableLaws.{covered_defined}
use Rattle.group_catalog.specs.Catalogs.{groups_in}
use Rattle.statement_uses.specs.Loading.{loading_place}
use Rattle.statement_uses.specs.Wanting.{HasDefinitions, want_seen}
use Rattle.statement_uses.specs.declared.wanting.Want.{Want}
use Rattle.session_engine.specs.Loading.{IsLoadedAt}
use Rattle.session_engine.proofs.NamedLaws.{got_same, position_same}
use Rattle.stored_tier.specs.declared.tier.Tier.{Tier as Stored}
use Rattle.stored_tier.specs.Performing.{StandsFor}
use Rattle.stored_tier.specs.Stored.{IsStoredAs, rows_of, without_list}

-- the definitions

same_definitions : (groups : List Group) → definitions_of (map without_list groups) ≡ definitions_of groups
same_definitions [] = refl
same_definitions (g ∷ groups) = ap (λ l. g.def ∷ l) (same_definitions groups)

pub has_definitions : (t : Stored) (a : Tier) → IsStoredAs t a → HasDefinitions t.schema (groups_in t.catalog) a
has_definitions t a is = record {
  tables = is.schema;
  catalog = sym (same_definitions a.groups) ∙ ap definitions_of is.groups;
}

-- whether a group loads what isn't among these rows

abbrev loads : TableState → Want → Group → Bool
loads s want g = loads_on_demand g && not (contains_key (table_at s want.table) want.key)

abbrev place_if : TableState → Want → ℕ → Group → Option ℕ
place_if s want place g = cond (loads s want g) (Some place) None

abbrev want_if : List Entry → Tier → wants.Want → Group → Option wants.Want
want_if history a want g = cond (loads_on_demand g && is_missing history a want) (Some want) None

-- what is shown of a group's table
shown_there : (w : World) → Stands w → (t : TableId) (g : Group) → group_over w.tier.groups t ≡ Some g → table_at (shown_state w.history w.tier) t ≡ shown_table w.history w.tier t
shown_there w stands t g over =
    let found = sym (over_is_found w.tier.groups t) ∙ over in
    table_shown w.history w.tier t
    (covered_defined w.tier.schema g t (each_found (IsCatalogued w.tier.schema) (covers t) w.tier.groups g stands.catalog.each found) (find_passes (covers t) w.tier.groups g found))

by_test : (w : World) (want : Want) (place : ℕ) (g : Group) → place_over w.tier.groups want.table ≡ Some place → group_over w.tier.groups want.table ≡ Some g → (b : Bool) → (loads_on_demand g && is_missing w.history w.tier (want_seen want)) ≡ b → IsLoadedAt w want (cond b (Some place) None)
by_test w want place g at over true e = (
  ap (option_and_then (want_if w.history w.tier (want_seen want))) over ∙ ap (λ c. cond c (Some (want_seen want)) None) e,
  at,
)
by_test w want place g at over false e =
    ap (option_and_then (want_if w.history w.tier (want_seen want))) over ∙ ap (λ c. cond c (Some (want_seen want)) None) e

by_group : (w : World) → Stands w → (want : Want) (place : ℕ) → place_over w.tier.groups want.table ≡ Some place → (o : Option Group) → slice_get w.tier.groups place ≡ o
    → IsLoadedAt w want (option_and_then (place_if (shown_state w.history w.tier) want place) (option_map without_list o))
by_group w stands want place at None there =
    ap (option_and_then (want_if w.history w.tier (want_seen want))) (ap (option_and_then (slice_get w.tier.groups)) at ∙ there)
by_group w stands want place at (Some g) there =
    subst (IsLoadedAt w want) (ap (λ table. cond (loads_on_demand g && not (contains_key table want.key)) (Some place) None) (sym (shown_there w stands want.table g over)))
    (by_test w want place g at over (loads_on_demand g && is_missing w.history w.tier (want_seen want)) refl)
  where
    over : group_over w.tier.groups want.table ≡ Some g
    over = ap (option_and_then (slice_get w.tier.groups)) at ∙ there

by_place : (w : World) → Stands w → (want : Want) (o : Option ℕ) → place_over w.tier.groups want.table ≡ o
    → IsLoadedAt w want (option_and_then (λ place. option_and_then (place_if (shown_state w.history w.tier) want place) (option_map without_list (slice_get w.tier.groups place))) o)
by_place w stands want None at = ap (option_and_then (want_if w.history w.tier (want_seen want))) (ap (option_and_then (slice_get w.tier.groups)) at)
by_place w stands want (Some place) at = by_group w stands want place at (slice_get w.tier.groups place) refl

pub loaded_at : (t : Stored) (w : World) (want : Want) (o : Option ℕ) (shown : TableState) → StandsFor t w → shown ≡ rows_of t → o ≡ loading_place (groups_in t.catalog) shown want → IsLoadedAt w want o
loaded_at t w want o shown stands same is = subst (IsLoadedAt w want) (sym (is ∙ moved)) (by_place w stands.stands want (place_over w.tier.groups want.table) refl)
  where
    moved : loading_place (groups_in t.catalog) shown want ≡ option_and_then (λ place. option_and_then (place_if (shown_state w.history w.tier) want place) (option_map without_list (slice_get w.tier.groups place))) (place_over w.tier.groups want.table)
    moved =
        ap (λ gs. loading_place gs shown want) (sym stands.stored.groups)
        ∙ ap (λ s. loading_place (map without_list w.tier.groups) s want) (same ∙ stands.shows)
        ∙ (λ i. option_and_then (λ place. option_and_then (place_if (shown_state w.history w.tier) want place) (got_same without_list w.tier.groups place i)) (position_same (covers want.table) without_list w.tier.groups i))

-- what is wanted by the definitions is wanted in each abstract tier that is stored
pub wanted_then : (t : Stored) (wanted : Tier → Option wants.Want) (r : Result (Option Want) AllocError) → IfOk r (λ want. (a : Tier) → HasDefinitions t.schema (groups_in t.catalog) a → option_map want_seen want ≡ wanted a) → IfOk r (λ want. (a : Tier) → IsStoredAs t a → option_map want_seen want ≡ wanted a)
wanted_then t wanted (Ok want) is = λ a stored. is a (has_definitions t a stored)
wanted_then t wanted (Err e) is = tt
