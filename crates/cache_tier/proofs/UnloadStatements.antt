-- What UNLOAD makes of what is shown.
use Rattle.std.proofs.Common.{◌≡◌, Bool, false, cond, not, ◌&&◌, ◌||◌, Option, Some, None, List, [], ◌∷◌, find, refl, sym, ap, subst, ◌∙◌}
use Rattle.std.specs.List.{list_any}
use Rattle.std.specs.Option.{option_and_then, option_map, option_or}
use Rattle.std.specs.FinMap.{contains_key, keys}
use Rattle.indexed_rows.specs.Rows.{Table}
use Rattle.table_state.specs.declared.footprint.RowKey.{RowKey}
use Rattle.table_state.specs.Footprints.{footprint_of, is_in}
use Rattle.table_state.specs.Histories.{state_at}
use Rattle.table_state.specs.Tables.{TableState}
use Rattle.instances.specs.Views.{kept_at, rows_where}
use Rattle.order_laws.specs.Commits.{virtual_state}
use Rattle.order_laws.proofs.StepLaws.{or_none}
use Rattle.cache_tier.specs.Conditions.{matches, overflow_fault}
use Rattle.cache_tier.specs.Groups.{Group, is_explicit, is_key}
use Rattle.cache_tier.specs.Sets.{alone, changed}
use Rattle.cache_tier.specs.Locks.{has_writes_in, instance_lock, instance_rows, locked_by}
use Rattle.cache_tier.specs.Shown.{all_over, exceeds, instances_where, no_rows, root_key, shown_roots, shown_state, shown_where, state_behind}
use Rattle.cache_tier.specs.Targets.{Target}
use Rattle.cache_tier.specs.TierStates.{Session, others}
use Rattle.cache_tier.specs.UnloadSteps.{gone_keys, listed_in, matching_shown, unload_answer, unloaded}
use Rattle.cache_tier.specs.Worlds.{World}
use Rattle.cache_tier.specs.Events.{with_tier}
use Rattle.cache_tier.specs.Loading.{IsUntouchedBy, ShowsKeys}
use Rattle.cache_tier.specs.StandingBetween.{Each, Stands}
use Rattle.cache_tier.specs.Statements.{IsUnloadable}
use Rattle.cache_tier.proofs.GroupTables.{read_only_not}
use Rattle.cache_tier.proofs.KeyListLaws.{key_in_map}
use Rattle.cache_tier.proofs.LoadLaws.{group_unloads}
use Rattle.cache_tier.proofs.LockLaws.{untouched}
use Rattle.cache_tier.proofs.PartLaws.{Row}
use Rattle.cache_tier.proofs.SessionLists.{none_passes}

or_nothing : {X : Type 0} (a b : Option X) → option_or a b ≡ None → b ≡ None
or_nothing None b e = e
or_nothing (Some x) b e = Prim.cc

pub map_nothing : {X Y : Type 0} (f : X → Y) (o : Option X) → option_map f o ≡ None → o ≡ None
map_nothing f None e = refl
map_nothing f (Some x) e = Prim.cc

none_any : (keys : List RowKey) → list_any (λ key. false) keys ≡ false
none_any [] = refl
none_any (k ∷ keys) = none_any keys

-- a session without writes has none in any instance
pub none_written : (w : World) (g : Group) (test : Row → Bool) (s : Session) → s.own ≡ [] → has_writes_in w.history w.tier g test s ≡ false
none_written w g test s rests =
    ap (λ own. list_any (λ key. is_in (footprint_of w.tier.schema own) key) (instance_rows (shown_state w.history w.tier) g test) || list_any (λ key. is_in (footprint_of w.tier.schema own) key) (instance_rows (all_over own (shown_state w.history w.tier)) g test)) rests
    ∙ (λ i. none_any (instance_rows (shown_state w.history w.tier) g test) i || none_any (instance_rows (shown_state w.history w.tier) g test) i)

-- where the test of locks finds no other session, and this one has no writes, no session has any there
pub all_unwritten : (w : World) (st : Stands w) (g : Group) (test : Row → Bool) (s : Session) → find (Rattle.cache_tier.specs.TierStates.is_labelled s.label) w.tier.sessions ≡ Some s → s.own ≡ [] → instance_lock s.label w.history w.tier g test ≡ None → list_any (has_writes_in w.history w.tier g test) w.tier.sessions ≡ false
all_unwritten w st g test s there rests free =
    let p = has_writes_in w.history w.tier g test in
    none_passes w.tier.sessions s p st.sessions.labels there (none_written w g test s rests) (map_nothing locked_by (find p (others s.label w.tier)) free)

module _ (w : World) (s : Session) (x : Target) (all : Bool) (st : Stands w) (may : IsUnloadable w s x) where
  abbrev v : TableState
  v = st.flow.stand.over.virtual

  abbrev g : Group
  g = x.group

  -- the roots of the list are those that are shown
  listed : listed_in (state_behind w.history w.tier.log x.group) x.group ≡ shown_roots w.history w.tier.log x.group
  listed =
      ap (λ b. listed_in (cond b (option_and_then (state_at w.history) g.position) (virtual_state w.history w.tier.log)) g) (read_only_not g may.group.through)
      ∙ ap (λ o. listed_in o g) st.flow.stand.over.virtual_is
      ∙ sym (
      ap (λ b. kept_at (shown_where (cond b (option_and_then (state_at w.history) g.position) (virtual_state w.history w.tier.log)) g) 0) (read_only_not g may.group.through)
      ∙ ap (λ o. kept_at (shown_where o g) 0) st.flow.stand.over.virtual_is
      ∙ ap (λ b. kept_at (instances_where v g.def.tree (λ row. cond b (cond (is_explicit g) g.loaded (is_key g.keys (root_key v g row)) && exceeds g row) (is_key g.keys (root_key v g row)))) 0) (read_only_not g may.group.through))

  gone_is : (k : Row) → is_key (gone_keys w x) k ≡ contains_key (matching_shown w x) k
  gone_is k = ap (λ (m : Table). is_key (keys (rows_where (matches x.filter x.id (no_rows w.tier) x.group) m)) k) listed ∙ key_in_map (matching_shown w x) k

  free : instance_lock s.label w.history w.tier x.group (contains_key (matching_shown w x)) ≡ None
  free = or_nothing (overflow_fault x.filter (shown_roots w.history w.tier.log x.group)) (instance_lock s.label w.history w.tier x.group (contains_key (matching_shown w x))) may.unlocked

  abbrev behind : World
  behind = with_tier (changed (alone x.place) (unloaded (gone_keys w x) all) w.tier) w

  all_untouched : (sessions : List Session) → list_any (has_writes_in w.history w.tier x.group (contains_key (matching_shown w x))) sessions ≡ false → Each (IsUntouchedBy w behind) sessions
  all_untouched [] e = tt
  all_untouched (r ∷ sessions) e =
      let (first, rest) = or_none (has_writes_in w.history w.tier x.group (contains_key (matching_shown w x)) r) (list_any (has_writes_in w.history w.tier x.group (contains_key (matching_shown w x))) sessions) e in
      (untouched w st x.place x.group may.group.there may.group.through (gone_keys w x) all (contains_key (matching_shown w x)) gone_is r first, all_untouched sessions rest)

  pub unload_shows : ShowsKeys x.group (λ k. is_key x.group.keys k && not (contains_key (matching_shown w x) k)) w (with_tier (unload_answer x all w).0 w)
  unload_shows =
      subst (λ test. ShowsKeys x.group test w (with_tier (unload_answer x all w).0 w)) (λ i k. is_key x.group.keys k && not (gone_is k i))
      (group_unloads w x.place x.group (gone_keys w x) all st (record {
        there = may.group.there;
        writes = may.group.through;
        unheld = all_untouched w.tier.sessions (all_unwritten w st x.group (contains_key (matching_shown w x)) s may.session may.rests free);
      }))
