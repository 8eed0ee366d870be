-- A writethrough group whose flag is set, and nothing else.
use Rattle.std.proofs.Common.{◌≡◌, ℕ, Bool, true, false, cond, ◌&&◌, nat_eq, Option, Some, None, List, length, map, slice_get, refl, sym, ap, subst, ◌∙◌, inr}
use Rattle.row_types.specs.declared.value.Value.{Value}
use Rattle.table_state.specs.declared.history.Entry.{Entry}
use Rattle.table_state.specs.declared.history.Sealed.{Sealed}
use Rattle.table_state.specs.Tables.{TableState}
use Rattle.instances.specs.Trees.{place_of}
use Rattle.instances.specs.Views.{kept_at}
use Rattle.open_sessions.specs.Opening.{seen_all}
use Rattle.tier_statements.specs.Seen.{session_seen}
use Rattle.group_catalog.specs.Catalogs.{groups_in}
use Rattle.cache_tier.specs.declared.group.GroupDef.{GroupDef}
use Rattle.cache_tier.specs.Groups.{Group, is_explicit, is_key, is_read_only}
use Rattle.cache_tier.specs.Sets.{OnePosition, alone, changed, changed_from}
use Rattle.cache_tier.specs.Shown.{exceeds, instances_where, root_key, shown, shown_where, shows_root, state_behind}
use Rattle.cache_tier.specs.Worlds.{World}
use Rattle.cache_tier.proofs.PositionLaws.{alone_one, hidden_kind}
use Rattle.stored_tier.specs.declared.tier.Tier.{Tier as Stored}
use Rattle.stored_tier.specs.Lists.{AreListed}
use Rattle.stored_tier.specs.Performing.{StandsFor}
use Rattle.stored_tier.specs.Stored.{AreKept, IsStoredAs, KeepsTime, without_list}
use Rattle.stored_tier.proofs.HiddenRows.{hides_changed}
use Rattle.stored_tier.proofs.ListLaws.{listed_changed}
use Rattle.group_engine.proofs.ChangedLists.{changed_at, changed_long, changed_mapped}
use Rattle.group_engine.proofs.FlagLaws.{as_loaded}
use Rattle.group_engine.proofs.FreshLaws.{IsBeside}
use Rattle.group_engine.proofs.GroupRows.{AllBecome, Becomes, same_there, stands_after, there_too}
use Rattle.group_engine.proofs.ShownStores.{EachShows, all_shown, each_shows}

-- its flag plays no part in what it shows
flagless : (o : Option TableState) (g : Group) → is_read_only g ≡ false → shown_where o (as_loaded g) ≡ shown_where o g
flagless None g writes = refl
flagless (Some s) g writes = λ i. instances_where s g.def.tree (λ row. same row i)
  where
    same : (row : List Value) → shows_root s (as_loaded g) row ≡ shows_root s g row
    same row =
        ap (λ b. cond b (cond (is_explicit g) true (is_key g.keys (root_key s g row)) && exceeds g row) (is_key g.keys (root_key s g row))) writes
        ∙ sym (ap (λ b. cond b (cond (is_explicit g) g.loaded (is_key g.keys (root_key s g row)) && exceeds g row) (is_key g.keys (root_key s g row))) writes)

still_shown : (h : List Entry) (log : List Sealed) (g : Group) → is_read_only g ≡ false → shown h log (as_loaded g) ≡ shown h log g
still_shown h log g writes = flagless (state_behind h log g) g writes

pub record IsFlaggedAt (t t' : Stored) (place : ℕ) : Type 0 where
  pub beside : IsBeside t t'
  pub groups : groups_in t'.catalog ≡ changed_from (alone place) as_loaded 0 (groups_in t.catalog)
  pub stores : t'.stores.items ≡ t.stores.items
  pub hidden : t'.hidden.items ≡ t.hidden.items
  pub was : AreKept t.schema (groups_in t.catalog) t.stores.items
  pub kept : AreKept t'.schema (groups_in t'.catalog) t'.stores.items

module _ (t t' : Stored) (w : World) (place : ℕ) (g : Group) (at : slice_get w.tier.groups place ≡ Some g) (writes : is_read_only g ≡ false) (x : StandsFor t w) (is : IsFlaggedAt t t' place) where
  abbrev final : List Group
  final = changed_from (alone place) as_loaded 0 w.tier.groups

  abbrev last : ℕ → Group → Group
  last k y = cond (nat_eq k place) (as_loaded y) y

  last_there : (k : ℕ) (y : Group) → slice_get w.tier.groups k ≡ Some y → slice_get final k ≡ Some (last k y)
  last_there k y y_at = changed_at (alone place) as_loaded w.tier.groups k y y_at

  final_long : length final ≡ length w.tier.groups
  final_long = changed_long (alone place) as_loaded 0 w.tier.groups

  writes_there : (k : ℕ) (y : Group) → slice_get w.tier.groups k ≡ Some y → nat_eq k place ≡ true → is_read_only y ≡ false
  writes_there k y y_at e =
      let same = same_there w.tier.groups place y g (ap (slice_get w.tier.groups) (sym (Rattle.std.proofs.lemmas.Bool.eqb-true k place e)) ∙ y_at) at in
      ap is_read_only same ∙ writes

  still : (k : ℕ) (y : Group) → slice_get w.tier.groups k ≡ Some y → shown w.history w.tier.log (last k y) ≡ shown w.history w.tier.log y
  still k y y_at = by (nat_eq k place) refl
    where
      by : (b : Bool) → nat_eq k place ≡ b → shown w.history w.tier.log (cond b (as_loaded y) y) ≡ shown w.history w.tier.log y
      by true e = still_shown w.history w.tier.log y (writes_there k y y_at e)
      by false e = refl

  last_becomes : (k : ℕ) (y : Group) → slice_get w.tier.groups k ≡ Some y → Becomes w y (last k y)
  last_becomes k y y_at = by (nat_eq k place) refl
    where
      by : (b : Bool) → nat_eq k place ≡ b → Becomes w y (cond b (as_loaded y) y)
      by true e = record {
        kept = record { def = refl; first = refl };
        distinct = λ d. d;
        within = λ before. before;
        keys = λ so. refl;
        rows = λ so p. ap (λ ts. kept_at ts p) (still_shown w.history w.tier.log y (writes_there k y y_at e));
      }
      by false e = record { kept = record { def = refl; first = refl }; distinct = λ d. d; within = λ before. before; keys = λ so. refl; rows = λ so p. refl }

  become : AllBecome w final
  become = record { long = final_long; one = λ k y h y_at there. subst (Becomes w y) (sym (same_there final k h (last k y) there (last_there k y y_at))) (last_becomes k y y_at) }

  groups_then : map without_list final ≡ groups_in t'.catalog
  groups_then =
      changed_mapped (alone place) as_loaded as_loaded 0 w.tier.groups (λ k y. refl) (λ y. refl)
      ∙ ap (changed_from (alone place) as_loaded 0) x.stored.groups ∙ sym is.groups

  shows_before : EachShows w.history w.tier.log w.tier.groups t.stores.items
  shows_before = each_shows t.schema w.history w.tier t.stores.items x.stored.schema x.stands.catalog (subst (λ l. AreKept t.schema l t.stores.items) (sym x.stored.groups) is.was) x.shows

  shows_then : EachShows w.history w.tier.log final t.stores.items
  shows_then k h s u p h_at there spot =
      let (y, was) = there_too final w.tier.groups k h (sym final_long) h_at in
      let same : h ≡ last k y = same_there final k h (last k y) h_at (last_there k y was) in
      let spot_before : place_of y.def.tree u ≡ Some p = ap (λ (d : GroupDef). place_of d.tree u) (sym (become.one k y h was h_at).kept.def) ∙ spot in
      shows_before k y s u p was there spot_before
      ∙ sym (ap (λ ts. kept_at ts p) (still k y was))
      ∙ ap (λ (z : Group). kept_at (shown w.history w.tier.log z) p) (sym same)

  stored_then : IsStoredAs t' (changed (alone place) as_loaded w.tier)
  stored_then = record {
    schema = x.stored.schema ∙ sym is.beside.schema;
    stale = x.stored.stale ∙ sym is.beside.stale;
    groups = groups_then;
    lists = subst (AreListed final t'.stores.items) (sym is.hidden) (subst (λ ss. AreListed final ss t.hidden.items) (sym is.stores)
        (listed_changed (alone place) as_loaded 0 w.tier.groups t.stores.items t.hidden.items (λ y. refl) (λ y. refl) x.stored.lists));
    sessions = x.stored.sessions ∙ ap (λ ss. map session_seen (seen_all ss)) (sym is.beside.sessions);
    unsettled = x.stored.unsettled ∙ ap (λ q. q.items) (sym is.beside.unsettled);
    next = x.stored.next ∙ sym is.beside.next;
    doubt = x.stored.doubt;
    time = subst (λ c. KeepsTime c w.tier.now w.tier.added w.tier.round w.tier.sets w.tier.settings) (sym is.beside.clock) x.stored.time;
  }

  positions : OnePosition final
  positions = alone_one w.tier.groups place as_loaded (λ h h_at. inr (hidden_kind (as_loaded h) (ap is_read_only (same_there w.tier.groups place h g h_at at) ∙ writes))) x.stands.read.one

  pub stands_flagged : StandsFor t' (record w { tier = changed (alone place) as_loaded w.tier })
  stands_flagged = record {
    stored = stored_then;
    shows = all_shown t'.schema w.history (changed (alone place) as_loaded w.tier) t'.stores.items (x.stored.schema ∙ sym is.beside.schema) (subst (λ l. AreKept t'.schema l t'.stores.items) (sym groups_then) is.kept)
        (subst (EachShows w.history w.tier.log final) (sym is.stores) shows_then);
    hides = hides_changed t t' w.history (alone place) as_loaded (λ y. record { def = refl; position = refl }) is.groups is.hidden x.hides;
    stands = stands_after w x.stands final become positions;
    waits = x.waits;
  }
