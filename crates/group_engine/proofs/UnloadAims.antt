-- What UNLOAD names, over what is stored.
use Rattle.std.proofs.Common.{◌≡◌, ◌&&◌, ℕ, Bool, true, false, not, is_none, Option, Some, None, Result, Ok, Err, List, [], ◌∷◌, slice_get, refl, sym, ap, subst, ◌∙◌}
use Rattle.std.specs.Option.{option_or}
use Rattle.tier_base.specs.declared.code.Code.TheVariants as code
use Rattle.tier_base.specs.declared.number.SessionId.{SessionId}
use Rattle.row_types.specs.declared.rule.Refused.{Refused}
use Rattle.row_types.specs.declared.rule.Refused.TheVariants as refused
use Rattle.row_types.specs.declared.rule.Rule.{Rule}
use Rattle.table_defs.specs.declared.definition.TableDef.{TableDef}
use Rattle.table_state.specs.declared.operation.Op.{Op}
use Rattle.sql_subset.specs.declared.stmt.OfGroup.{OfGroup}
use Rattle.sql_subset.specs.declared.stmt.Stmt.TheVariants as statement
use Rattle.expressions.specs.Trees.{Cond}
use Rattle.order_laws.proofs.TruthLaws.{both_true}
use Rattle.resolution.specs.Placing.{filter_seen, placed_filter}
use Rattle.resolution.specs.Scopes.{SeenColumn}
use Rattle.sql_query.specs.Trees.{ConditionTree}
use Rattle.resolution.specs.Results.{IsRefusal}
use Rattle.open_sessions.specs.Lookups.{open_ops}
use Rattle.open_sessions.specs.Opening.{seen_all}
use Rattle.group_catalog.specs.Catalogs.{groups_in}
use Rattle.cache_tier.specs.Conditions.{asks_all, root_def, root_scope, which_names, which_types}
use Rattle.cache_tier.specs.Groups.{Group, is_explicit, is_read_only, place_called}
use Rattle.cache_tier.specs.Order.{Broken, first_broken, is_whole_only, of_group, refusal, unload_broken, wrong_state}
use Rattle.cache_tier.specs.Rules.{broken_if, named, open_writes}
use Rattle.cache_tier.specs.TierStates.{Session, Tier}
use Rattle.group_engine.specs.declared.aiming.Aim.{Aim}
use Rattle.stored_tier.specs.declared.tier.Tier.{Tier as Stored}
use Rattle.group_engine.specs.Aiming.{AimsBy, which_fault}
use Rattle.stored_tier.specs.Performing.{Executes, PerformsInOver}
use Rattle.outside.specs.Sites.{SiteState}
use Rattle.stored_tier.specs.Stored.{HasSession, IsSound, IsStoredAs}
use Rattle.group_engine.specs.Unloading.{AimsUnload, AimsUnloadIn, FindsUnload, unload_state}
use Rattle.group_engine.proofs.AimLaws.{IsUnlisted, unlisted}
use Rattle.group_engine.proofs.CalmLaws.{NumberLaw, own_here}
use Rattle.group_engine.proofs.ReadyLaws.{kept_here, refused_over, wanting_over}
use Rattle.tier_journal.specs.declared.journal.TierJournal.{TierJournal}
use Rattle.outside.specs.Holding.{Held}
use Rattle.group_engine.proofs.DropLocks.{place_stored}

of_none : (a : Tier) (name : List ℕ) (broken : Group → Broken) → place_called a.groups name ≡ None → first_broken (of_group a name broken) ≡ Some (named code.UnknownGroup name)
of_none a name broken none = rw none refl

of_some : (a : Tier) (name : List ℕ) (broken : Group → Broken) (place : ℕ) (g : Group) → place_called a.groups name ≡ Some place → slice_get a.groups place ≡ Some g → first_broken (of_group a name broken) ≡ first_broken (broken g)
of_some a name broken place g found there = rw found (rw there refl)

or_last : (o : Option Rule) → option_or o None ≡ o
or_last None = refl
or_last (Some r) = refl

pub unknown_unload : (t : Stored) (a : Tier) (s : Session) (u : OfGroup) (e : Refused) → IsStoredAs t a → place_called (groups_in t.catalog) u.group ≡ None → IsRefusal (named code.UnknownGroup u.group) e → AimsUnload a s u (Err e)
unknown_unload t a s u (refused.Rule rule) is none told = of_none a u.group (unload_broken a s u.which) (place_stored t a u.group is ∙ none) ∙ ap Some (sym told)
unknown_unload t a s u refused.Memory is none told = tt

refusal_is : (a : Tier) (s : Session) (u : OfGroup) (place : ℕ) (g : Group) → place_called a.groups u.group ≡ Some place → slice_get a.groups place ≡ Some g
    → refusal a s (statement.Unload u) ≡ which_fault (root_def a g) u.which (unload_state u.which s.own g)
refusal_is a s u place g found there =
    of_some a u.group (unload_broken a s u.which) place g found there
    ∙ ap (λ o. option_or (which_names (root_def a g) u.which) (option_or (unload_state u.which s.own g) o)) (or_last (which_types (root_def a g) u.which))

or_first : (a b : Option Rule) → option_or a b ≡ None → a ≡ None
or_first None b e = refl
or_first (Some r) b e = cc

or_second : (a b : Option Rule) → option_or a b ≡ None → b ≡ None
or_second None b e = e
or_second (Some r) b e = cc

none_open : (own : List Op) → open_writes own ≡ None → own ≡ []
none_open [] e = refl
none_open (op ∷ own) e = cc

-- the session has no open writes, where nothing refuses
pub rests_of : (a : Tier) (s : Session) (u : OfGroup) {aim : Aim} → FindsUnload a s u aim → s.own ≡ []
rests_of a s u {aim = aim} f =
    let all : which_fault (root_def a f.group) u.which (unload_state u.which s.own f.group) ≡ None = sym (refusal_is a s u aim.place f.group f.place f.there) ∙ f.free in
    none_open s.own (or_second (wrong_state (is_whole_only f.group u.which) f.group) (open_writes s.own)
    (or_first (unload_state u.which s.own f.group) (which_types (root_def a f.group) u.which) (or_second (which_names (root_def a f.group) u.which) (option_or (unload_state u.which s.own f.group) (which_types (root_def a f.group) u.which)) all)))

none_is : {A : Type 0} (o : Option A) → is_none o ≡ true → o ≡ None
none_is None e = refl
none_is (Some x) e = cc

unbroken : (b : Bool) (rule : Rule) → broken_if b rule ≡ None → b ≡ false
unbroken true rule e = cc
unbroken false rule e = refl

third : (r e n : Bool) → (r && e && not n) ≡ false → r ≡ true → e ≡ true → n ≡ true
third true true true h reads explicit = refl
third true true false h reads explicit = sym h
third true false n h reads explicit = cc
third false e n h reads explicit = cc

none_seen : (scope : List SeenColumn) (which : Option ConditionTree) (filter : Option Cond) → which ≡ None → placed_filter scope which ≡ Ok (filter_seen filter) → filter ≡ None
none_seen scope which None none e = refl
none_seen scope which (Some c) none e =
    let same : placed_filter scope None ≡ Ok (filter_seen (Some c)) = ap (placed_filter scope) (sym none) ∙ e in cc

-- an explicit READONLY group is asked for whole
pub whole_of : (a : Tier) (s : Session) (u : OfGroup) {aim : Aim} (f : FindsUnload a s u aim) → is_read_only f.group ≡ true → is_explicit f.group ≡ true → (asks_all u.which ≡ true) × (aim.which.filter ≡ None) × (u.which.id ≡ None)
whole_of a s u {aim = aim} f reads explicit =
    let all : which_fault (root_def a f.group) u.which (unload_state u.which s.own f.group) ≡ None = sym (refusal_is a s u aim.place f.group f.place f.there) ∙ f.free in
    let state : unload_state u.which s.own f.group ≡ None = or_first (unload_state u.which s.own f.group) (which_types (root_def a f.group) u.which) (or_second (which_names (root_def a f.group) u.which) (option_or (unload_state u.which s.own f.group) (which_types (root_def a f.group) u.which)) all) in
    let kind : is_whole_only f.group u.which ≡ false = unbroken (is_whole_only f.group u.which) (named code.WrongState f.group.def.name) (or_first (wrong_state (is_whole_only f.group u.which) f.group) (open_writes s.own) state) in
    let asks : asks_all u.which ≡ true = third (is_read_only f.group) (is_explicit f.group) (asks_all u.which) kind reads explicit in
    let (filter, given) = both_true (is_none u.which.filter) (is_none u.which.id) asks in
    (asks, none_seen (root_scope (root_def a f.group)) u.which.filter aim.which.filter (none_is u.which.filter filter) f.is.filter, none_is u.which.id given)

aims_so : (a : Tier) (s : Session) (u : OfGroup) (place : ℕ) (g : Group) (read_only : Bool) (result : Result Aim Refused) → place_called a.groups u.group ≡ Some place → slice_get a.groups place ≡ Some g → read_only ≡ is_read_only g
    → AimsBy (root_def a g) u.which (unload_state u.which s.own g) place read_only result → AimsUnload a s u result
aims_so a s u place g read_only (Ok aim) found there kind e = record {
  group = g;
  free = refusal_is a s u place g found there ∙ e.0;
  place = found ∙ ap Some (sym e.2);
  there = ap (slice_get a.groups) e.2 ∙ there;
  kind = sym kind ∙ sym e.3;
  is = e.1;
}
aims_so a s u place g read_only (Err (refused.Rule rule)) found there kind e = refusal_is a s u place g found there ∙ e
aims_so a s u place g read_only (Err refused.Memory) found there kind e = tt

pub unload_aimed : NumberLaw → (t : Stored) (a : Tier) (s : Session) (id : SessionId) (u : OfGroup) (place : ℕ) (seen : Group) (def : TableDef) (own : List Op) (read_only : Bool) (result : Result Aim Refused)
    → IsSound t → IsStoredAs t a → HasSession t id s → place_called (groups_in t.catalog) u.group ≡ Some place → slice_get (groups_in t.catalog) place ≡ Some seen
    → slice_get t.schema seen.def.tree.root.table.0 ≡ Some def → own ≡ open_ops id (seen_all t.sessions) → read_only ≡ is_read_only seen
    → AimsBy (Some def) u.which (unload_state u.which own seen) place read_only result → AimsUnload a s u result
unload_aimed law t a s id u place seen def own read_only result sound is has found at defined mine kind by =
    let g : IsUnlisted a.groups place seen = unlisted a.groups place seen (ap (λ gs. slice_get gs place) is.groups ∙ at) in
    let owned : own ≡ s.own = mine ∙ own_here law t id s sound has in
    let root : Some def ≡ root_def a g.group =
    sym defined ∙ ap (λ (x : Group). slice_get t.schema x.def.tree.root.table.0) (sym g.is) ∙ ap (λ defs. slice_get defs g.group.def.tree.root.table.0) (sym is.schema) in
    let state : unload_state u.which own seen ≡ unload_state u.which s.own g.group =
    ap (unload_state u.which own) (sym g.is) ∙ ap (λ ops. unload_state u.which ops g.group) owned in
    aims_so a s u place g.group read_only result (place_stored t a u.group is ∙ found) g.there (kind ∙ ap is_read_only (sym g.is))
    (subst (λ r. AimsBy r u.which (unload_state u.which s.own g.group) place read_only result) root
    (subst (λ st. AimsBy (Some def) u.which st place read_only result) state by))

pub not_aimed : {D : Type 0} (state : D → SiteState) (possible : D → ℕ → Held → Type 0) (t : Stored) (k : Option TierJournal) (d : D) (id : SessionId) (u : OfGroup) (e : Refused) → AimsUnloadIn t id u (Err e) → PerformsInOver state possible t t k k d d id (Executes (statement.Unload u)) (Err e)
not_aimed state possible t k d id u (refused.Rule rule) aims = refused_over state possible t k d id (statement.Unload u) rule (λ s w has is. aims w.tier s is has)
not_aimed state possible t k d id u refused.Memory aims = wanting_over state possible t t k k d id (statement.Unload u) (kept_here k) (λ w stands. stands)
