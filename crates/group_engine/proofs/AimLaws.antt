-- What LOAD and REFRESH name, over what is stored.
use Rattle.std.proofs.Common.{◌≡◌, ℕ, zero, suc, Bool, true, false, not, cond, nat_lt, ◌+◌, Option, Some, None, Result, Ok, Err, List, [], ◌∷◌, map, slice_get, refl, sym, ap, subst, ◌∙◌}
use Rattle.std.proofs.lemmas.List.{length-map}
use Rattle.std.specs.List.{prefix_len}
use Rattle.std.specs.Option.{option_or}
use Rattle.tier_base.specs.declared.code.Code.TheVariants as code
use Rattle.tier_base.specs.declared.number.SessionId.{SessionId}
use Rattle.row_types.specs.declared.rule.Refused.{Refused}
use Rattle.row_types.specs.declared.rule.Refused.TheVariants as refused
use Rattle.row_types.specs.declared.rule.Rule.{Rule}
use Rattle.table_defs.specs.declared.definition.TableDef.{TableDef}
use Rattle.table_state.specs.declared.operation.Op.{Op}
use Rattle.sql_subset.specs.declared.stmt.Load.{Load}
use Rattle.resolution.specs.Results.{IsRefusal}
use Rattle.open_sessions.specs.Lookups.{open_ops}
use Rattle.open_sessions.specs.Opening.{seen_all}
use Rattle.group_catalog.specs.Catalogs.{groups_in}
use Rattle.cache_tier.specs.Conditions.{root_def, which_names, which_types}
use Rattle.cache_tier.specs.Groups.{Group, is_called, is_read_only, place_called}
use Rattle.cache_tier.specs.Order.{Broken, first_broken, load_broken, of_group, refresh_broken, refusal}
use Rattle.cache_tier.specs.Rules.{named}
use Rattle.cache_tier.specs.TierStates.{Session, Tier}
use Rattle.group_engine.specs.declared.aiming.Aim.{Aim}
use Rattle.stored_tier.specs.declared.tier.Tier.{Tier as Stored}
use Rattle.group_engine.specs.Aiming.{Aims, AimsBy, aim_state, aimed, load_state, refresh_state, which_fault}
use Rattle.stored_tier.specs.Stored.{HasSession, IsSound, IsStoredAs, without_list}
use Rattle.stored_tier.proofs.OwnSeen.{NumberLaw, own_found}

-- groups without their lists

first_seen : (name : List ℕ) (gs : List Group) → prefix_len (λ g. not (is_called name g)) (map without_list gs) ≡ prefix_len (λ g. not (is_called name g)) gs
first_seen name [] = refl
first_seen name (g ∷ gs) = ap (λ n. cond (not (is_called name g)) (1 + n) 0) (first_seen name gs)

pub place_seen : (name : List ℕ) (gs : List Group) → place_called (map without_list gs) name ≡ place_called gs name
place_seen name gs =
    let first = first_seen name gs in
    let long = length-map gs without_list in
    λ i. cond (nat_lt (first i) (long i)) (Some (first i)) None

-- a stored group is one of the abstract tier's
pub record IsUnlisted (gs : List Group) (i : ℕ) (seen : Group) : Type 0 where
  pub group : Group
  pub there : slice_get gs i ≡ Some group
  pub is : without_list group ≡ seen

pub unlisted : (gs : List Group) (i : ℕ) (seen : Group) → slice_get (map without_list gs) i ≡ Some seen → IsUnlisted gs i seen
unlisted [] i seen e = cc
unlisted (g ∷ gs) zero seen e = let same : without_list g ≡ seen = cc in record { group = g; there = refl; is = same }
unlisted (g ∷ gs) (suc i) seen e = let r = unlisted gs i seen e in record { group = r.group; there = r.there; is = r.is }

-- no group has the name

of_none : (a : Tier) (name : List ℕ) (broken : Group → Broken) → place_called a.groups name ≡ None → first_broken (of_group a name broken) ≡ Some (named code.UnknownGroup name)
of_none a name broken none = rw none refl

of_some : (a : Tier) (name : List ℕ) (broken : Group → Broken) (place : ℕ) (g : Group) → place_called a.groups name ≡ Some place → slice_get a.groups place ≡ Some g → first_broken (of_group a name broken) ≡ first_broken (broken g)
of_some a name broken place g found there = rw found (rw there refl)

pub unknown_aimed : (t : Stored) (a : Tier) (s : Session) (refreshes : Bool) (load : Load) (e : Refused) → IsStoredAs t a → None ≡ place_called (groups_in t.catalog) load.group → IsRefusal (named code.UnknownGroup load.group) e → Aims a s refreshes load (Err e)
unknown_aimed t a s refreshes load (refused.Rule rule) is none told = by refreshes ∙ ap Some (sym told)
  where
    nothing : place_called a.groups load.group ≡ None
    nothing = sym (place_seen load.group a.groups) ∙ ap (λ gs. place_called gs load.group) is.groups ∙ sym none

    by : (b : Bool) → refusal a s (aimed b load) ≡ Some (named code.UnknownGroup load.group)
    by true = of_none a load.group (refresh_broken a s load) nothing
    by false = of_none a load.group (load_broken a s load) nothing
unknown_aimed t a s refreshes load refused.Memory is none told = tt

-- the group is found

or_last : (o : Option Rule) → option_or o None ≡ o
or_last None = refl
or_last (Some r) = refl

refusal_is : (a : Tier) (s : Session) (refreshes : Bool) (load : Load) (place : ℕ) (g : Group) → place_called a.groups load.group ≡ Some place → slice_get a.groups place ≡ Some g
    → refusal a s (aimed refreshes load) ≡ which_fault (root_def a g) load.which (aim_state refreshes load s.own g)
refusal_is a s true load place g found there =
    of_some a load.group (refresh_broken a s load) place g found there
    ∙ ap (λ o. option_or (which_names (root_def a g) load.which) (option_or (refresh_state load s.own g) o)) (or_last (which_types (root_def a g) load.which))
refusal_is a s false load place g found there =
    of_some a load.group (load_broken a s load) place g found there
    ∙ ap (λ o. option_or (which_names (root_def a g) load.which) (option_or (load_state load s.own g) o)) (or_last (which_types (root_def a g) load.which))

same_state : (refreshes : Bool) (load : Load) (own : List Op) (g : Group) → aim_state refreshes load own (without_list g) ≡ aim_state refreshes load own g
same_state true load own g = refl
same_state false load own g = refl

module _ (a : Tier) (s : Session) (refreshes : Bool) (load : Load) (place : ℕ) (g : Group) (found : place_called a.groups load.group ≡ Some place) (there : slice_get a.groups place ≡ Some g) (read_only : Bool) (kind : read_only ≡ is_read_only g) where
  aims_so : (result : Result Aim Refused) → AimsBy (root_def a g) load.which (aim_state refreshes load s.own g) place read_only result → Aims a s refreshes load result
  aims_so (Ok aim) e = record {
    group = g;
    free = refusal_is a s refreshes load place g found there ∙ e.0;
    place = found ∙ ap Some (sym e.2);
    there = ap (slice_get a.groups) e.2 ∙ there;
    kind = sym kind ∙ sym e.3;
    is = e.1;
  }
  aims_so (Err (refused.Rule rule)) e = refusal_is a s refreshes load place g found there ∙ e
  aims_so (Err refused.Memory) e = tt

pub aimed_with : NumberLaw → (t : Stored) (a : Tier) (s : Session) (id : SessionId) (refreshes : Bool) (load : Load) (place : ℕ) (seen : Group) (def : TableDef) (own : List Op) (read_only : Bool) (result : Result Aim Refused)
    → IsSound t → IsStoredAs t a → HasSession t id s → Some place ≡ place_called (groups_in t.catalog) load.group → Some seen ≡ slice_get (groups_in t.catalog) place
    → Some def ≡ slice_get t.schema seen.def.tree.root.table.0 → own ≡ open_ops id (seen_all t.sessions) → read_only ≡ is_read_only seen
    → AimsBy (Some def) load.which (aim_state refreshes load own seen) place read_only result → Aims a s refreshes load result
aimed_with law t a s id refreshes load place seen def own read_only result sound is has found at defined mine kind by =
    let u : IsUnlisted a.groups place seen = unlisted a.groups place seen (ap (λ gs. slice_get gs place) is.groups ∙ sym at) in
    let place_is : place_called a.groups load.group ≡ Some place = sym (place_seen load.group a.groups) ∙ ap (λ gs. place_called gs load.group) is.groups ∙ sym found in
    let owned : own ≡ s.own = mine ∙ own_found law t id s sound has in
    let root : Some def ≡ root_def a u.group =
    defined ∙ ap (λ (x : Group). slice_get t.schema x.def.tree.root.table.0) (sym u.is) ∙ ap (λ defs. slice_get defs u.group.def.tree.root.table.0) (sym is.schema) in
    let state : aim_state refreshes load own seen ≡ aim_state refreshes load s.own u.group =
    ap (aim_state refreshes load own) (sym u.is) ∙ same_state refreshes load own u.group ∙ ap (λ ops. aim_state refreshes load ops u.group) owned in
    aims_so a s refreshes load place u.group place_is u.there read_only (kind ∙ ap is_read_only (sym u.is)) result
    (subst (λ r. AimsBy r load.which (aim_state refreshes load s.own u.group) place read_only result) root
    (subst (λ st. AimsBy (Some def) load.which st place read_only result) state by))
