-- Instances of a READONLY group leave that hides some.
use Rattle.std.proofs.Common.{◌≡◌, ◌+◌, ◌<◌, ◌≤◌, ℕ, zero, suc, ◌⊎◌, Bool, true, false, not, cond, ◌&&◌, ◌||◌, nat_eq, Option, Some, None, is_some, Result, Ok, Err, IfOk, OnErr, List, [], ◌∷◌, ◌++◌, get_or, length, map, set, slice_get, take, unwrap_or, refl, sym, ap, subst, ◌∙◌, inl, inr, arith, eqb-true}
use Rattle.std.proofs.lemmas.Bool.Decides.{eqb_tells}
use Rattle.std.specs.Bool.{MatchBool}
use Rattle.std.specs.Global.{Vec}
use Rattle.std.specs.Option.{option_map}
use Rattle.std.specs.FinMap as fm
use Rattle.row_types.specs.Order.{key_order}
use Rattle.row_types.proofs.OrderLaws.{key_total}
use Rattle.row_types.specs.declared.value.Value.{Value}
use Rattle.tier_base.specs.declared.limit.Limit.TheVariants as limit
use Rattle.tier_base.specs.declared.number.SessionId.{SessionId}
use Rattle.tier_base.specs.declared.number.TableId.{TableId}
use Rattle.indexed_rows.specs.Rows.{Table, is_same, key_of}
use Rattle.table_defs.specs.declared.definition.TableDef.{TableDef}
use Rattle.table_state.specs.Tables.{TableState}
use Rattle.evaluator.specs.Cascades.{key_in}
use Rattle.evaluator.specs.Writes.{selects}
use Rattle.instances.specs.Trees.{place_of}
use Rattle.instances.specs.Views.{is_true, kept_at, passes, root_rows, rows_where}
use Rattle.instances.proofs.Gathering.{get_where}
use Rattle.outside.specs.Holding.{Held}
use Rattle.outside.specs.Sites.{SiteState}
use Rattle.order_laws.proofs.TruthLaws.{both_true, never_both}
use Rattle.slot_rows.specs.SlotKeys.{RowsHeld}
use Rattle.group_catalog.specs.Catalogs.{groups_in}
use Rattle.group_catalog.specs.declared.which.ResolvedWhich.{ResolvedWhich}
use Rattle.group_store.specs.Keeping.{IsFor, primary_of}
use Rattle.group_store.specs.Shown.{AreHoused}
use Rattle.group_store.specs.Stores.{HasRootKeys, Kept, cut_store}
use Rattle.group_store.specs.Trees.{leads}
use Rattle.tier_journal.specs.declared.journal.TierJournal.{TierJournal}
use Rattle.cache_tier.specs.declared.group.AgingRule.{AgingRule}
use Rattle.cache_tier.specs.declared.group.AgingRule.TheVariants.{ByTime, LastUse}
use Rattle.cache_tier.specs.declared.group.GroupDef.{GroupDef}
use Rattle.cache_tier.specs.declared.reply.Last.TheVariants.{Done}
use Rattle.cache_tier.specs.declared.reply.Reply.{Reply}
use Rattle.cache_tier.specs.Conditions.{is_id, matches}
use Rattle.cache_tier.specs.Events.{with_tier}
use Rattle.cache_tier.specs.Groups.{Group, has_list, is_key, is_read_only, without_keys}
use Rattle.cache_tier.specs.Sets.{alone, changed_from}
use Rattle.cache_tier.specs.Shown.{exceeds, no_rows, root_key, shown, shown_where, shows_root, state_behind}
use Rattle.cache_tier.specs.Targets.{Target}
use Rattle.cache_tier.specs.UnloadSteps.{gone_keys, listed_in, matching_shown, unload_answer, unload_entries, unloaded}
use Rattle.cache_tier.specs.Worlds.{World, only}
use Rattle.cache_tier.proofs.HistoryKeeps.{root_covers}
use Rattle.cache_tier.proofs.KeyListLaws.{key_in_map, key_without}
use Rattle.cache_tier.proofs.ShownTrees.{front_kept}
use Rattle.stored_tier.specs.declared.tier.Tier.{Tier as Stored}
use Rattle.stored_tier.specs.Choosing.{matches_at}
use Rattle.stored_tier.specs.Grouping.{SameTree}
use Rattle.stored_tier.specs.Lists.{AreHiding, AreListed, HasKeysOf, IsHidingFor, IsListed, hides_keys, is_by_time, is_by_use}
use Rattle.stored_tier.specs.Performing.{StandsFor}
use Rattle.stored_tier.specs.Stored.{AreKept, AreWhole, HidesRows, IsSound, IsStoredAs, without_list}
use Rattle.stored_tier.proofs.HiddenRows.{hides_listed}
use Rattle.group_engine.proofs.UnloadKept.{sound_confirmed}
use Rattle.stored_tier.proofs.QuietLaws.{stands_over}
use Rattle.stored_tier.proofs.ListLaws.{all_hiding, all_listed, hidden_long, hiding_long, hiding_there, kept_long, listed_there, stored_keys, stores_long}
use Rattle.stored_tier.proofs.SoundParts.{changed_defs}
use Rattle.stored_tier.proofs.StoreChanges.{form_kept, get_here, get_there, housed_set, kept_set, shows_changed}
use Rattle.stored_tier.proofs.StoreRows.{form_at, form_here}
use Rattle.changed_sets.specs.OfAgingCycles.Behind.{defined}
use Rattle.changed_sets.specs.OfAgingCycles.KeyLists.{cut_keys}
use Rattle.changed_sets.specs.OfAgingCycles.Running.{cut_all}
use Rattle.changed_sets.specs.OfAgingCycles.RootRows.{Drops, fewer_rows, kept_through, keys_picked, nothing_kept}
use Rattle.changed_sets.specs.OfAgingCycles.Walks.{got, take_next}
use Rattle.changed_sets.specs.OfAgingCycles.Shows.{form, keyed, keyed_alone, left_shows, root_is, roots_are, store_root}
use Rattle.group_engine.specs.declared.aiming.Aim.{Aim}
use Rattle.group_engine.specs.declared.ready.Ready.{Ready}
use Rattle.group_engine.specs.Ready.{AnswersBehind}
use Rattle.group_engine.specs.Taking.{IsOfTarget}
use Rattle.group_engine.specs.Unloading.{UnloadsReady, leaving}
use Rattle.group_engine.specs.UnloadHidden.{AreCutAt, AreCutBy, AreOut, IsCutHiding, hides_some, without_rows}
use Rattle.group_engine.specs.UnloadLocks.{FitsIn}
use Rattle.group_engine.specs.UnloadNamed.{FitsFor, FitsUnder}
use Rattle.group_engine.proofs.FittingRows.{hidden_fits, shown_fits}
use Rattle.group_engine.proofs.NamedKeys.{HasCut, cut_widened, has_cut}
use Rattle.group_engine.proofs.ChangedLists.{changed_at, changed_long}
use Rattle.group_engine.proofs.DropLocks.{group_stored}
use Rattle.group_engine.proofs.FlagLaws.{flagged_seen}
use Rattle.group_engine.proofs.GroupRows.{same_there, there_too}
use Rattle.group_engine.proofs.MatchedRoots.{leaving_long}
use Rattle.group_engine.proofs.ReadOnlyUnloads.{tables_stay, tables_then, unload_stands}
use Rattle.group_engine.proofs.UnloadDone.{cut_long, left_tree, marked, marked_all, unloaded_def}
use Rattle.group_engine.proofs.UnloadListed.{listed_free, shows_listed, shuffled, unloaded_listed}
use Rattle.group_engine.proofs.UnloadWhole.{unload_so}

abbrev Row : Type 0
Row = List Value

-- rows that are taken out

one_out : (key q : Row) (m : Table) → fm.get (fm.remove m key) q ≡ cond (is_same q key) None (fm.get m q)
one_out key q m = fm.get-remove key_total m key q

pub rows_out : (keys : List Row) (m : Table) (q : Row) → fm.get (without_rows keys m) q ≡ cond (is_key keys q) None (fm.get m q)
rows_out [] m q = refl
rows_out (key ∷ keys) m q = rows_out keys (fm.remove m key) q ∙ ap (λ (o : Option Row). cond (is_key keys q) None o) (one_out key q m) ∙ by (is_same q key) (is_key keys q)
  where
    by : (s k : Bool) → cond k None (cond s None (fm.get m q)) ≡ cond (s || k) None (fm.get m q)
    by true true = refl
    by true false = refl
    by false true = refl
    by false false = refl

-- what is behind is what was
pub row_was : (keys : List Row) (m : Table) (q row : Row) → fm.get (without_rows keys m) q ≡ Some row → fm.get m q ≡ Some row
row_was keys m q row e = by (is_key keys q) (sym (rows_out keys m q) ∙ e)
  where
    by : (b : Bool) → cond b None (fm.get m q) ≡ Some row → fm.get m q ≡ Some row
    by true f = Prim.cc
    by false f = f

-- a group that hides instances

pub record Hides (g : Group) : Type 0 where
  pub reads : is_read_only g ≡ true
  pub dynamic : g.def.dynamic ≡ true
  pub timed : is_by_time g.def.aging ≡ true
  pub hides : hides_keys g ≡ true

pub hides_so : (groups : List Group) (place : ℕ) (g : Group) → true ≡ hides_some (slice_get groups place) → slice_get groups place ≡ Some g → Hides g
hides_so groups place g asked at =
    let all : hides_keys g ≡ true = sym (asked ∙ ap hides_some at) in
    let both = both_true (is_read_only g && g.def.dynamic) (is_by_time g.def.aging) all in
    let kind = both_true (is_read_only g) g.def.dynamic both.0 in
    record { reads = kind.0; dynamic = kind.1; timed = both.1; hides = all }

-- its list is no order of use
not_by_use : (rule : Option AgingRule) → is_by_time rule ≡ true → is_by_use rule ≡ false
not_by_use None e = Prim.cc
not_by_use (Some LastUse) e = Prim.cc
not_by_use (Some (ByTime rule)) e = refl

and_false : (a b : Bool) → b ≡ false → (a && b) ≡ false
and_false true b e = e
and_false false b e = refl

module _ (g : Group) (h : Hides g) (s : Kept) (hidden : Table) where
  listed_is : IsListed g s hidden ≡ HasKeysOf g.keys s hidden
  listed_is =
      ap (λ b. MatchBool b (g.keys ≡ s.keys) (MatchBool g.def.dynamic (HasKeysOf g.keys s hidden) (Unit {0}))) (and_false (has_list g) (is_by_use g.def.aging) (not_by_use g.def.aging h.timed))
      ∙ ap (λ b. MatchBool b (HasKeysOf g.keys s hidden) (Unit {0})) h.dynamic

  pub its_keys : IsListed g s hidden → HasKeysOf g.keys s hidden
  its_keys is = subst (λ (x : Type 0). x) listed_is is

  pub so_listed : HasKeysOf g.keys s hidden → IsListed g s hidden
  so_listed are = subst (λ (x : Type 0). x) (sym listed_is) are

-- truth

or_same : (a : Bool) → (a || a) ≡ a
or_same true = refl
or_same false = refl

or_false : (a : Bool) → (a || false) ≡ a
or_false true = refl
or_false false = refl

-- The rows that a group lists: the shown ones, and those that it hides.
module _ (t : Stored) (w : World) (x : Target) (place : ℕ) (which : ResolvedWhich) (of : IsOfTarget x place which) (sound : IsSound t) (stands : StandsFor t w)
    (at : slice_get w.tier.groups place ≡ Some x.group) (h : Hides (without_list x.group)) (store : Kept) (kept : slice_get t.stores.items place ≡ Some store) (held : RowsHeld) (there : slice_get t.hidden.items place ≡ Some held)
    (roots : HasRootKeys store) (by_places : (k r : Row) → fm.get held.table k ≡ Some r → key_of held.places r ≡ k) where
  abbrev g : Group
  g = x.group

  abbrev S : Table
  S = kept_at store.tables 0

  abbrev H : Table
  H = held.table

  abbrev columns : List ℕ
  columns = primary_of t.schema x.group.def.tree.root.table

  abbrev listed : Table
  listed = listed_in (state_behind w.history w.tier.log x.group) x.group

  abbrev test : Row → Bool
  test = matches x.filter x.id (no_rows w.tier) x.group

  pub hiding : IsHidingFor t.schema (without_list x.group) store held
  hiding = hiding_there t.schema (groups_in t.catalog) t.stores.items t.hidden.items place (without_list x.group) store held sound.hiding (group_stored t w.tier place x.group stands.stored at) kept there

  -- shown rows stand under their keys
  pub shown_key : (k r : Row) → fm.get S k ≡ Some r → key_of columns r ≡ k
  shown_key k r e = ap (λ cs. key_of cs r) (sym (form t w sound stands place x.group at store kept).key) ∙ keyed t w sound stands place x.group at store kept k r e

  shown_root : (k r : Row) → fm.get S k ≡ Some r → root_key (no_rows w.tier) x.group r ≡ k
  shown_root = keyed_alone t w sound stands place x.group at store kept

  -- so do hidden ones
  pub hidden_key : (k r : Row) → fm.get H k ≡ Some r → key_of columns r ≡ k
  hidden_key k r e = ap (λ cs. key_of cs r) (sym hiding.key) ∙ by_places k r e

  hidden_root : (k r : Row) → fm.get H k ≡ Some r → root_key (no_rows w.tier) x.group r ≡ k
  hidden_root k r e =
      let d = defined w stands.stands place x.group at x.group.def.tree.root.table (root_covers x.group) in
      ap (λ o. key_in o r) d.1
      ∙ sym (ap (λ cs. key_of cs r) (ap (λ defs. primary_of defs x.group.def.tree.root.table) (sym stands.stored.schema) ∙ ap (λ z. unwrap_or (option_map (λ (def : TableDef). def.primary_key) z) []) d.1))
      ∙ hidden_key k r e

  -- what matches by itself matches by its key
  same_match : (k r : Row) → root_key (no_rows w.tier) x.group r ≡ k → test r ≡ matches_at which k r
  same_match k r key =
      ap (λ f. is_true (selects f r) && is_id (root_key (no_rows w.tier) x.group r) x.id) (sym of.filter)
      ∙ ap (λ q. is_true (selects which.filter r) && is_id q x.id) key
      ∙ ap (λ b. is_true (selects which.filter r) && b) (sym (of.id k))

  -- the rows of its list in a state
  listed_root : (s : TableState) → state_behind w.history w.tier.log x.group ≡ Some s → (k : Row) → fm.get listed k ≡ cond (passes (λ row. is_key x.group.keys (root_key s x.group row)) (fm.get (root_rows s x.group.def.tree.root) k)) (fm.get (root_rows s x.group.def.tree.root) k) None
  listed_root s is k =
      ap (λ o. fm.get (listed_in o x.group) k) is
      ∙ ap (λ (m : Table). fm.get m k) (front_kept s x.group.def.tree.children (rows_where (λ row. is_key x.group.keys (root_key s x.group row)) (root_rows s x.group.def.tree.root) ∷ []) 0 (Prim.omega arith))
      ∙ get_where (λ row. is_key x.group.keys (root_key s x.group row)) (root_rows s x.group.def.tree.root) k

  nothing_behind : state_behind w.history w.tier.log x.group ≡ None → (k : Row) → fm.get listed k ≡ None
  nothing_behind is k = ap (λ o. fm.get (listed_in o x.group) k) is ∙ fm.get-empty key_order k

  shows_so : (s : TableState) (row : Row) → shows_root s x.group row ≡ (is_key x.group.keys (root_key s x.group row) && exceeds x.group row)
  shows_so s row = shows_listed s x.group row h.reads h.dynamic

  chosen_row : (b : Bool) (row r : Row) → cond b (Some row) None ≡ Some r → (b ≡ true) × (row ≡ r)
  chosen_row true row r e = (refl, Prim.cc)
  chosen_row false row r e = Prim.cc

  -- a shown row is listed
  pub shown_listed : (k r : Row) → fm.get S k ≡ Some r → fm.get listed k ≡ Some r
  shown_listed k r e = by (state_behind w.history w.tier.log x.group) refl
    where
      of_row : (s : TableState) → state_behind w.history w.tier.log x.group ≡ Some s → (o : Option Row) → fm.get (root_rows s x.group.def.tree.root) k ≡ o → cond (passes (shows_root s x.group) o) o None ≡ Some r → fm.get listed k ≡ Some r
      of_row s is None at_k f = Prim.cc
      of_row s is (Some row) at_k f =
          let c = chosen_row (shows_root s x.group row) row r f in
          let its = both_true (is_key x.group.keys (root_key s x.group row)) (exceeds x.group row) (sym (shows_so s row) ∙ c.0) in
          listed_root s is k
          ∙ ap (λ (o : Option Row). cond (passes (λ z. is_key x.group.keys (root_key s x.group z)) o) o None) at_k
          ∙ ap (λ b. cond b (Some row) None) its.0
          ∙ ap Some c.1

      by : (o : Option TableState) → state_behind w.history w.tier.log x.group ≡ o → fm.get listed k ≡ Some r
      by None is =
          let wrong : None ≡ Some r = sym (fm.get-empty key_order k) ∙ ap (λ (m : Table). fm.get m k) (sym (roots_are t w sound stands place x.group at store kept ∙ ap (λ o. kept_at (shown_where o x.group) 0) is ∙ nothing_kept 0)) ∙ e in Prim.cc
      by (Some s) is = of_row s is (fm.get (root_rows s x.group.def.tree.root) k) refl (sym (store_root t w sound stands place x.group at store kept s is k) ∙ e)

  -- a hidden one, too
  pub hidden_listed : (k r : Row) → fm.get H k ≡ Some r → fm.get listed k ≡ Some r
  hidden_listed k r e = hides_listed t w sound stands place x.group store held at kept there k r e

  -- and no other
  pub listed_else : (k : Row) → fm.get S k ≡ None → fm.get H k ≡ None → fm.get listed k ≡ None
  listed_else k none nothing = by (state_behind w.history w.tier.log x.group) refl
    where
      unlisted : is_key x.group.keys k ≡ false
      unlisted = stored_keys t w.tier place x.group store held sound stands.stored at kept there roots h.dynamic k ∙ (λ i. is_some (none i) || is_some (nothing i))

      of_row : (s : TableState) → state_behind w.history w.tier.log x.group ≡ Some s → (o : Option Row) → fm.get (root_rows s x.group.def.tree.root) k ≡ o → cond (passes (λ z. is_key x.group.keys (root_key s x.group z)) o) o None ≡ None
      of_row s is None at_k = refl
      of_row s is (Some row) at_k = ap (λ b. cond b (Some row) None) (ap (is_key x.group.keys) (root_is t w sound stands place x.group at store kept s is k row at_k) ∙ unlisted)

      by : (o : Option TableState) → state_behind w.history w.tier.log x.group ≡ o → fm.get listed k ≡ None
      by None is = nothing_behind is k
      by (Some s) is =
          listed_root s is k
          ∙ of_row s is (fm.get (root_rows s x.group.def.tree.root) k) refl

  -- the keys that leave
  pub shown_leaves : (k : Row) → is_key (leaving which columns S) k ≡ passes (matches_at which k) (fm.get S k)
  shown_leaves k = keys_picked columns (matches_at which) S shown_key k

  pub hidden_leaves : (k : Row) → is_key (leaving which columns H) k ≡ passes (matches_at which k) (fm.get H k)
  hidden_leaves k = keys_picked columns (matches_at which) H hidden_key k

  gone_by : (k : Row) → is_key (gone_keys w x) k ≡ passes (matches x.filter x.id (no_rows w.tier) x.group) (fm.get listed k)
  gone_by k = key_in_map (rows_where test listed) k ∙ ap is_some (get_where test listed k) ∙ by (fm.get listed k)
    where
      of_row : (b : Bool) (row : Row) → is_some (cond b (Some row) None) ≡ b
      of_row true row = refl
      of_row false row = refl

      by : (o : Option Row) → is_some (cond (passes test o) o None) ≡ passes test o
      by None = refl
      by (Some row) = of_row (test row) row

  -- of what is shown and of what is hidden
  pub gone_shown : (k r : Row) → fm.get S k ≡ Some r → is_key (gone_keys w x) k ≡ is_key (leaving which columns S) k
  gone_shown k r e =
      gone_by k ∙ ap (passes test) (shown_listed k r e) ∙ same_match k r (shown_root k r e)
      ∙ sym (shown_leaves k ∙ ap (passes (matches_at which k)) e)

  gone_hidden : (k r : Row) → fm.get H k ≡ Some r → is_key (gone_keys w x) k ≡ is_key (leaving which columns H) k
  gone_hidden k r e =
      gone_by k ∙ ap (passes test) (hidden_listed k r e) ∙ same_match k r (hidden_root k r e)
      ∙ sym (hidden_leaves k ∙ ap (passes (matches_at which k)) e)

  -- its list behind it
  pub keys_behind : (left : Kept) (behind : Table) → left.keys ≡ without_keys (leaving which columns S) store.keys → behind ≡ without_rows (leaving which columns H) H → HasKeysOf (without_keys (gone_keys w x) x.group.keys) left behind
  keys_behind left behind keys rows k =
      key_without (gone_keys w x) x.group.keys k
      ∙ ap (λ b. b && not (is_key (gone_keys w x) k)) (stored_keys t w.tier place x.group store held sound stands.stored at kept there roots h.dynamic k)
      ∙ by (fm.get S k) refl (fm.get H k) refl
      ∙ sym (λ i. left_has i || behind_has i)
    where
      left_has : is_key left.keys k ≡ (fm.contains_key S k && not (is_key (leaving which columns S) k))
      left_has = ap (λ l. is_key l k) keys ∙ key_without (leaving which columns S) store.keys k ∙ ap (λ b. b && not (is_key (leaving which columns S) k)) (root_keys k)
        where
          root_keys : (q : Row) → is_key store.keys q ≡ fm.contains_key S q
          root_keys q = roots.are q

      behind_has : fm.contains_key behind k ≡ (fm.contains_key H k && not (is_key (leaving which columns H) k))
      behind_has = ap (λ (m : Table). fm.contains_key m k) rows ∙ ap is_some (rows_out (leaving which columns H) H k) ∙ is_out (is_key (leaving which columns H) k) (fm.get H k)
        where
          is_out : (b : Bool) (o : Option Row) → is_some (cond b None o) ≡ (is_some o && not b)
          is_out true None = refl
          is_out true (Some r) = refl
          is_out false None = refl
          is_out false (Some r) = refl

      by : (s : Option Row) → fm.get S k ≡ s → (o : Option Row) → fm.get H k ≡ o
          → ((is_some (fm.get S k) || is_some (fm.get H k)) && not (is_key (gone_keys w x) k)) ≡ ((is_some (fm.get S k) && not (is_key (leaving which columns S) k)) || (is_some (fm.get H k) && not (is_key (leaving which columns H) k)))
      by None se None he = (λ i. (is_some (se i) || is_some (he i)) && not (is_key (gone_keys w x) k)) ∙ sym (λ i. (is_some (se i) && not (is_key (leaving which columns S) k)) || (is_some (he i) && not (is_key (leaving which columns H) k)))
      by None se (Some r) he =
          (λ i. (is_some (se i) || is_some (he i)) && not (gone_hidden k r he i))
          ∙ sym (λ i. (is_some (se i) && not (is_key (leaving which columns S) k)) || (is_some (he i) && not (is_key (leaving which columns H) k)))
      by (Some r) se None he =
          (λ i. (is_some (se i) || is_some (he i)) && not (gone_shown k r se i))
          ∙ sym (or_false (not (is_key (leaving which columns S) k)))
          ∙ sym (λ i. (is_some (se i) && not (is_key (leaving which columns S) k)) || (is_some (he i) && not (is_key (leaving which columns H) k)))
      by (Some r) se (Some q) he =
          (λ i. (is_some (se i) || is_some (he i)) && not (gone_shown k r se i))
          ∙ sym (or_same (not (is_key (leaving which columns S) k)))
          ∙ ap (λ b. not (is_key (leaving which columns S) k) || not b) (sym (gone_shown k r se) ∙ gone_hidden k q he)
          ∙ sym (λ i. (is_some (se i) && not (is_key (leaving which columns S) k)) || (is_some (he i) && not (is_key (leaving which columns H) k)))

-- ---- the tier behind it

long_set : {X : Type 0} (xs : List X) (i : ℕ) (y : X) → length (set xs i y) ≡ length xs
long_set [] i y = refl
long_set (z ∷ xs) zero y = refl
long_set (z ∷ xs) (suc i) y = ap suc (long_set xs i y)

-- what is at a place of a list where one element became another
set_at : {X : Type 0} (xs : List X) (place k : ℕ) (old new y : X) → slice_get xs place ≡ Some old → slice_get (set xs place new) k ≡ Some y → ((nat_eq k place ≡ true) × (new ≡ y)) ⊎ ((nat_eq k place ≡ false) × (slice_get xs k ≡ Some y))
set_at xs place k old new y at e = elim (eqb_tells k place) [
  | inl same ↦ inl (same.0, same_there (set xs place new) place new y (get_here xs place old new at) (ap (slice_get (set xs place new)) (sym same.1) ∙ e))
  | inr other ↦ inr (other.0, sym (get_there xs place k new other.1) ∙ e)
]

-- fewer roots
cut_few : (ks : List Row) (s : Kept) → fm.len (kept_at (cut_all ks s).tables 0) ≤ fm.len (kept_at s.tables 0)
cut_few [] s = Prim.omega arith
cut_few (k ∷ ks) s =
    let rest = cut_few ks (cut_store 0 k s) in
    let one = fewer_rows (kept_at s.tables 0) (λ key. not (leads s.layers s.tables 0 k (length s.layers) 0 key)) in
    let same = ap (λ (m : Table). fm.len m) (kept_through (λ place key. not (leads s.layers s.tables 0 k (length s.layers) place key)) s.tables 0) in
    Prim.omega (arith, rest, one, same)

module _ (t : Stored) (stores : Vec Kept) (hid : Vec RowsHeld) (aim : Aim) (n : ℕ) (sound : IsSound t) (group : Group) (seen : slice_get (groups_in t.catalog) aim.place ≡ Some group) (hides_some_rows : hides_keys group ≡ true)
    (cut : AreCutAt (FitsFor t.schema group.def.tree.root.table) aim.place (primary_of t.schema group.def.tree.root.table) aim.which t.stores.items t.hidden.items stores.items hid.items n) where
  abbrev pub behind_it : Stored
  behind_it = record t { stores = stores; hidden = hid; verified = false }

  abbrev leave : List Row
  leave = cut.cut.cut.keys

  pub tree_left : SameTree cut.store cut.left
  tree_left = left_tree leave cut.store cut.left cut.cut.cut.gone

  its_form : IsFor t.schema group.def.tree cut.store
  its_form = form_at t.schema (groups_in t.catalog) t.stores.items aim.place group cut.store sound.kept seen cut.kept

  whole_behind : AreWhole (set t.stores.items aim.place cut.left)
  whole_behind k s at = elim (set_at t.stores.items aim.place k cut.store cut.left s cut.kept at) [
    | inl here ↦ subst (λ (y : Kept). length y.tables ≡ suc (length y.layers)) here.1
        (ap (λ (ts : List Table). length ts) cut.cut.cut.gone.tables ∙ cut_long leave cut.store ∙ sound.whole aim.place cut.store cut.kept ∙ sym (ap (λ ls. suc (length ls)) tree_left.layers))
    | inr other ↦ sound.whole k s other.1
  ]

  hiding_here : (g : Group) → slice_get (groups_in t.catalog) aim.place ≡ Some g → IsHidingFor t.schema g cut.left cut.behind
  hiding_here g at =
      let is = hiding_there t.schema (groups_in t.catalog) t.stores.items t.hidden.items aim.place g cut.store cut.before sound.hiding at cut.kept cut.held in
      let same : hides_keys g ≡ true = ap hides_keys (same_there (groups_in t.catalog) aim.place g group at seen) ∙ hides_some_rows in
      record {
        key = cut.cut.out.places ∙ is.key;
        room = λ yes. (
            let few = cut_few leave cut.store in
            let left = ap (λ ts. fm.len (kept_at ts 0)) cut.cut.cut.gone.tables in
            let room = is.room yes in
            let spare = cut.cut.out.spare in
            Prim.omega (arith, few, left, room, spare));
        none = λ no. absurd (never_both (hides_keys g) same no);
      }

  hiding_behind : AreHiding t.schema (groups_in t.catalog) (set t.stores.items aim.place cut.left) (set t.hidden.items aim.place cut.behind)
  hiding_behind = all_hiding t.schema (groups_in t.catalog) (set t.stores.items aim.place cut.left) (set t.hidden.items aim.place cut.behind)
      (long_set t.stores.items aim.place cut.left ∙ kept_long t.schema (groups_in t.catalog) t.stores.items sound.kept)
      (long_set t.hidden.items aim.place cut.behind ∙ hiding_long t.schema (groups_in t.catalog) t.stores.items t.hidden.items sound.hiding)
      (λ k g s h at kept held. by k g s h at (set_at t.stores.items aim.place k cut.store cut.left s cut.kept kept) (set_at t.hidden.items aim.place k cut.before cut.behind h cut.held held))
    where
      by : (k : ℕ) (g : Group) (s : Kept) (h : RowsHeld) → slice_get (groups_in t.catalog) k ≡ Some g → ((nat_eq k aim.place ≡ true) × (cut.left ≡ s)) ⊎ ((nat_eq k aim.place ≡ false) × (slice_get t.stores.items k ≡ Some s))
          → ((nat_eq k aim.place ≡ true) × (cut.behind ≡ h)) ⊎ ((nat_eq k aim.place ≡ false) × (slice_get t.hidden.items k ≡ Some h)) → IsHidingFor t.schema g s h
      by k g s h at (inl one) (inl two) =
          subst (λ (y : RowsHeld). IsHidingFor t.schema g s y) two.1 (subst (λ (y : Kept). IsHidingFor t.schema g y cut.behind) one.1
          (hiding_here g (ap (slice_get (groups_in t.catalog)) (sym (eqb-true k aim.place one.0)) ∙ at)))
      by k g s h at (inl one) (inr two) = absurd (never_both (nat_eq k aim.place) one.0 two.0)
      by k g s h at (inr one) (inl two) = absurd (never_both (nat_eq k aim.place) two.0 one.0)
      by k g s h at (inr one) (inr two) = hiding_there t.schema (groups_in t.catalog) t.stores.items t.hidden.items k g s h sound.hiding at one.1 two.1

  pub sound_behind : IsSound (record t { stores = stores; hidden = hid; verified = false })
  sound_behind = record {
    sessions = sound.sessions;
    stores = subst (λ ss. AreHoused t.schema ss t.directory) (sym cut.stores) (housed_set t.schema (groups_in t.catalog) t.stores.items t.directory aim.place cut.store cut.left group sound.stores sound.kept seen cut.kept its_form tree_left);
    kept = subst (λ ss. AreKept t.schema (groups_in t.catalog) ss) (sym cut.stores) (kept_set t.schema (groups_in t.catalog) t.stores.items aim.place group cut.left sound.kept seen (form_kept t.schema group.def.tree cut.store cut.left its_form tree_left));
    whole = subst AreWhole (sym cut.stores) whole_behind;
    hiding = subst (λ hs. AreHiding t.schema (groups_in t.catalog) stores.items hs) (sym cut.rows) (subst (λ ss. AreHiding t.schema (groups_in t.catalog) ss (set t.hidden.items aim.place cut.behind)) (sym cut.stores) hiding_behind);
    plain = sound.plain;
    named = sound.named;
    visible = sound.visible;
    numbered = sound.numbered;
    later = sound.later;
    writers = sound.writers;
    verified = λ e. Prim.cc;
  }

  pub hides_behind : (w : World) → HidesRows t w.history → HidesRows (record t { stores = stores; hidden = hid; verified = false }) w.history
  hides_behind w hides k g h at so held = elim (set_at t.hidden.items aim.place k cut.before cut.behind h cut.held (sym (ap (λ (xs : List RowsHeld). slice_get xs k) cut.rows) ∙ held)) [
    | inl here ↦ (λ key row found. hides k g cut.before at so (ap (slice_get t.hidden.items) (eqb-true k aim.place here.0) ∙ cut.held) key row
        (row_was cut.cut.others cut.before.table key row
        (ap (λ (m : Table). fm.get m key) (sym cut.cut.out.rows) ∙ ap (λ (y : RowsHeld). fm.get y.table key) here.1 ∙ found)))
    | inr other ↦ hides k g h at so other.1
  ]

-- what is shown, and stands, behind it
module _ (drops : Drops) (t : Stored) (stores : Vec Kept) (hid : Vec RowsHeld) (aim : Aim) (n : ℕ) (sound : IsSound t) (w : World) (x : Target) (stands : StandsFor t w) (at : slice_get w.tier.groups aim.place ≡ Some x.group) (of : IsOfTarget x aim.place aim.which) (h : Hides (without_list x.group)) (all : Bool)
    (cut : AreCutAt (FitsFor t.schema x.group.def.tree.root.table) aim.place (primary_of t.schema x.group.def.tree.root.table) aim.which t.stores.items t.hidden.items stores.items hid.items n) where
  abbrev N : Stored
  N = record t { stores = stores; hidden = hid; verified = false }

  abbrev gone : List Row
  gone = gone_keys w x

  abbrev left_group : Group
  left_group = record x.group { keys = without_keys (gone_keys w x) x.group.keys }

  abbrev shown_keys : List Row
  shown_keys = leaving aim.which (primary_of t.schema x.group.def.tree.root.table) (kept_at cut.store.tables 0)

  there : slice_get w.tier.groups x.place ≡ Some x.group
  there = ap (slice_get w.tier.groups) of.place ∙ at

  seen_at : slice_get (groups_in t.catalog) aim.place ≡ Some (without_list x.group)
  seen_at = group_stored t w.tier aim.place x.group stands.stored at

  -- what is stored fits, so that those left that match
  did : HasCut aim.which (primary_of t.schema x.group.def.tree.root.table) cut.store cut.left n
  did = has_cut (FitsFor t.schema x.group.def.tree.root.table) aim.which (primary_of t.schema x.group.def.tree.root.table) cut.store cut.left n cut.cut.cut
      (shown_fits t w stands aim.place x.group at sound cut.store cut.kept)

  rows_left : cut.behind.table ≡ without_rows (leaving aim.which (primary_of t.schema x.group.def.tree.root.table) cut.before.table) cut.before.table
  rows_left = cut.cut.out.rows ∙ ap (λ (keys : List Row). without_rows keys cut.before.table) (cut.cut.are
      (hidden_fits t w stands aim.place x.group at h.reads seen_at h.hides cut.before cut.held
      (hidden_key t w x aim.place aim.which of sound stands at h cut.store cut.kept cut.before cut.held cut.cut.roots cut.cut.keyed)))

  left_keys : cut.left.keys ≡ without_keys shown_keys cut.store.keys
  left_keys = did.gone.keys ∙ cut_keys shown_keys cut.store

  its_list : IsListed left_group cut.left cut.behind.table
  its_list = so_listed left_group (record { reads = h.reads; dynamic = h.dynamic; timed = h.timed; hides = h.hides }) cut.left cut.behind.table
      (keys_behind t w x aim.place aim.which of sound stands at h cut.store cut.kept cut.before cut.held cut.cut.roots cut.cut.keyed cut.left cut.behind.table left_keys rows_left)

  count : n ≡ fm.len (matching_shown w x)
  count = did.count ∙ leaving_long w x aim.place aim.which of (kept_at cut.store.tables 0) (primary_of t.schema x.group.def.tree.root.table)
      (roots_are t w sound stands aim.place x.group at cut.store cut.kept) (keyed_alone t w sound stands aim.place x.group at cut.store cut.kept)
      (shown_key t w x aim.place aim.which of sound stands at h cut.store cut.kept cut.before cut.held cut.cut.roots cut.cut.keyed)

  left_is : (p : ℕ) → kept_at cut.left.tables p ≡ kept_at (shown w.history w.tier.log left_group) p
  left_is = left_shows t w sound stands aim.place x.group at cut.store cut.kept drops left_group shown_keys cut.left did.gone refl refl (λ s is k r e.
      alike s is k r e (shows_root s x.group r) refl
      ∙ ap (λ b. b && not (is_key gone k)) (shows_listed s x.group r h.reads h.dynamic)
      ∙ ap (λ q. (is_key x.group.keys (root_key s x.group r) && exceeds x.group r) && not (is_key gone q)) (sym (root_is t w sound stands aim.place x.group at cut.store cut.kept s is k r e))
      ∙ shuffled (is_key x.group.keys (root_key s x.group r)) (exceeds x.group r) (is_key gone (root_key s x.group r))
      ∙ ap (λ b. b && exceeds x.group r) (sym (key_without gone x.group.keys (root_key s x.group r)))
      ∙ sym (shows_listed s left_group r h.reads h.dynamic))
    where
      -- of a row that is shown the same leaves
      alike : (s : TableState) → state_behind w.history w.tier.log x.group ≡ Some s → (k r : Row) → fm.get (root_rows s x.group.def.tree.root) k ≡ Some r → (b : Bool) → shows_root s x.group r ≡ b → (shows_root s x.group r && not (is_key shown_keys k)) ≡ (shows_root s x.group r && not (is_key gone k))
      alike s is k r e true shows =
          let stored_row : fm.get (kept_at cut.store.tables 0) k ≡ Some r =
          store_root t w sound stands aim.place x.group at cut.store cut.kept s is k ∙ ap (λ (o : Option Row). cond (passes (shows_root s x.group) o) o None) e ∙ ap (λ b. cond b (Some r) None) shows in
          ap (λ b. shows_root s x.group r && not b) (sym (gone_shown t w x aim.place aim.which of sound stands at h cut.store cut.kept cut.before cut.held cut.cut.roots cut.cut.keyed k r stored_row))
      alike s is k r e false shows = ap (λ b. b && not (is_key shown_keys k)) shows ∙ sym (ap (λ b. b && not (is_key gone k)) shows)

  shown_then : (u : TableId) (p : ℕ) → place_of x.group.def.tree u ≡ Some p → kept_at cut.left.tables p ≡ kept_at (shown w.history w.tier.log (unloaded gone all x.group)) (unwrap_or (place_of (unloaded gone all x.group).def.tree u) 0)
  shown_then u p e =
      left_is p
      ∙ ap (λ y. kept_at (shown w.history w.tier.log y) p) (sym (unloaded_listed gone all x.group h.reads h.dynamic))
      ∙ ap (λ o. kept_at (shown w.history w.tier.log (unloaded gone all x.group)) (unwrap_or o 0)) (sym (ap (λ (d : GroupDef). place_of d.tree u) (unloaded_def gone all x.group) ∙ e))

  its : (i : ℕ) (y : Group) → slice_get w.tier.groups i ≡ Some y → 0 + i ≡ x.place → y ≡ x.group
  its i y here e =
      let same_place : i ≡ aim.place = (let z : i ≡ 0 + i = Prim.omega arith in z) ∙ e ∙ of.place in
      same_there w.tier.groups aim.place y x.group (sym (ap (slice_get w.tier.groups) same_place) ∙ here) at

  groups_behind : map without_list (unload_answer x all w).0.groups ≡ groups_in t.catalog
  groups_behind =
      flagged_seen (unloaded gone all) (marked false) 0 x.place w.tier.groups (λ i y here e.
      ap without_list (unloaded_listed gone all y (ap is_read_only (its i y here e) ∙ h.reads) (ap (λ (z : Group). z.def.dynamic) (its i y here e) ∙ h.dynamic)))
      ∙ ap (changed_from (alone x.place) (marked false) 0) stands.stored.groups
      ∙ ap (λ p. changed_from (alone p) (marked false) 0 (groups_in t.catalog)) of.place
      ∙ marked_all false aim.place (groups_in t.catalog)

  abbrev final : List Group
  final = changed_from (alone x.place) (unloaded gone all) 0 w.tier.groups

  listed_at : (k : ℕ) (g : Group) (s : Kept) (y : RowsHeld) → slice_get final k ≡ Some g → ((nat_eq k aim.place ≡ true) × (cut.left ≡ s)) ⊎ ((nat_eq k aim.place ≡ false) × (slice_get t.stores.items k ≡ Some s))
      → ((nat_eq k aim.place ≡ true) × (cut.behind ≡ y)) ⊎ ((nat_eq k aim.place ≡ false) × (slice_get t.hidden.items k ≡ Some y)) → IsListed g s y.table
  listed_at k g s y at_k one two = by one two
    where
      was : (g0 : Group) × (slice_get w.tier.groups k ≡ Some g0)
      was = there_too final w.tier.groups k g (sym (changed_long (alone x.place) (unloaded gone all) 0 w.tier.groups)) at_k

      is : g ≡ cond (nat_eq k x.place) (unloaded gone all was.0) was.0
      is = same_there final k g (cond (nat_eq k x.place) (unloaded gone all was.0) was.0) at_k (changed_at (alone x.place) (unloaded gone all) w.tier.groups k was.0 was.1)

      same_test : nat_eq k x.place ≡ nat_eq k aim.place
      same_test = ap (nat_eq k) of.place

      by : ((nat_eq k aim.place ≡ true) × (cut.left ≡ s)) ⊎ ((nat_eq k aim.place ≡ false) × (slice_get t.stores.items k ≡ Some s))
          → ((nat_eq k aim.place ≡ true) × (cut.behind ≡ y)) ⊎ ((nat_eq k aim.place ≡ false) × (slice_get t.hidden.items k ≡ Some y)) → IsListed g s y.table
      by (inl a) (inl b) =
          let here : was.0 ≡ x.group = same_there w.tier.groups aim.place was.0 x.group (ap (slice_get w.tier.groups) (sym (eqb-true k aim.place a.0)) ∙ was.1) at in
          let group : g ≡ left_group = is ∙ ap (λ b. cond b (unloaded gone all was.0) was.0) (same_test ∙ a.0) ∙ ap (unloaded gone all) here ∙ unloaded_listed gone all x.group h.reads h.dynamic in
          subst (λ (z : Group). IsListed z s y.table) (sym group) (subst (λ (z : RowsHeld). IsListed left_group s z.table) b.1 (subst (λ (z : Kept). IsListed left_group z cut.behind.table) a.1 its_list))
      by (inl a) (inr b) = absurd (never_both (nat_eq k aim.place) a.0 b.0)
      by (inr a) (inl b) = absurd (never_both (nat_eq k aim.place) b.0 a.0)
      by (inr a) (inr b) =
          subst (λ (z : Group). IsListed z s y.table) (sym (is ∙ ap (λ c. cond c (unloaded gone all was.0) was.0) (same_test ∙ a.0)))
          (listed_there w.tier.groups t.stores.items t.hidden.items k was.0 s y stands.stored.lists was.1 a.1 b.1)

  lists_behind : AreListed final stores.items hid.items
  lists_behind = subst (λ hs. AreListed final stores.items hs) (sym cut.rows) (subst (λ ss. AreListed final ss (set t.hidden.items aim.place cut.behind)) (sym cut.stores)
      (all_listed final (set t.stores.items aim.place cut.left) (set t.hidden.items aim.place cut.behind)
      (long_set t.stores.items aim.place cut.left ∙ stores_long t w.tier sound stands.stored ∙ sym (changed_long (alone x.place) (unloaded gone all) 0 w.tier.groups))
      (long_set t.hidden.items aim.place cut.behind ∙ hidden_long t w.tier sound stands.stored ∙ sym (changed_long (alone x.place) (unloaded gone all) 0 w.tier.groups))
      (λ k g s y at_k kept held. listed_at k g s y at_k (set_at t.stores.items aim.place k cut.store cut.left s cut.kept kept) (set_at t.hidden.items aim.place k cut.before cut.behind y cut.held held))))

  stored : IsStoredAs (record t { stores = stores; hidden = hid; verified = false }) (unload_answer x all w).0
  stored = record {
    schema = stands.stored.schema;
    stale = stands.stored.stale;
    groups = groups_behind;
    lists = lists_behind;
    sessions = stands.stored.sessions;
    unsettled = stands.stored.unsettled;
    next = stands.stored.next;
    doubt = stands.stored.doubt;
    time = stands.stored.time;
  }

  pub stands_hidden : StandsFor (record t { stores = stores; hidden = hid; verified = false }) (with_tier (unload_answer x all w).0 w)
  stands_hidden = record {
    stored = stored;
    shows = shows_changed t (record t { stores = stores; hidden = hid; verified = false }) w (with_tier (unload_answer x all w).0 w) aim.place x.group cut.left sound stands (record {
      there = at;
      schema = refl;
      known = refl;
      defined = changed_defs (alone x.place) (unloaded gone all) 0 w.tier.groups (unloaded_def gone all);
      stores = cut.stores;
      form = form_kept t.schema x.group.def.tree cut.store cut.left (form_here t w sound stands aim.place x.group cut.store at cut.kept) (left_tree shown_keys cut.store cut.left did.gone);
      its = λ u p e. shown_then u p e ∙ sym (tables_then w stands.stands x.place x.group there h.reads gone all u (ap is_some e));
      others = tables_stay w stands.stands x.place x.group there h.reads gone all;
    });
    hides = hides_behind t stores hid aim n sound (without_list x.group) seen_at h.hides cut w stands.hides;
    stands = unload_stands w stands.stands x.place x.group there h.reads gone all;
    waits = stands.waits;
  }

  pub counted_hidden : (reply : Reply) → reply ≡ only (Done n) → reply ≡ (unload_answer x all w).1
  counted_hidden reply is = is ∙ ap (λ m. only (Done m)) count

-- ---- the statement

pub sound_hidden : (t new : Stored) (aim : Aim) (n : ℕ) → IsSound t → true ≡ hides_some (slice_get (groups_in t.catalog) aim.place) → IsCutHiding t new aim n → IsSound new
sound_hidden t new aim n sound asked cut =
    sound_confirmed (record t { stores = new.stores; hidden = new.hidden; verified = false }) new
    (sound_behind t new.stores new.hidden aim n sound cut.group cut.there (hides_so (groups_in t.catalog) aim.place cut.group asked cut.there).hides cut.cut) cut.is cut.known

module _ {D : Type 0} (state : D → SiteState) (possible : D → ℕ → Held → Type 0) (t : Stored) (k : Option TierJournal) (d : D) (ready : Ready) (id : SessionId) (aim : Aim) (all : Bool) (kind : aim.read_only ≡ true) (sound : IsSound t) where
  pub hidden_here : Drops → true ≡ hides_some (slice_get (groups_in t.catalog) aim.place) → (new : Stored) (k' : Option TierJournal) (d' : D) (n : ℕ) (told reply : Reply) → FitsIn t aim → IsCutHiding t new aim n → AnswersBehind state possible k k' d d' ready told reply → told ≡ only (Done n)
      → UnloadsReady state possible t new k k' d d' ready id aim all reply
  hidden_here drops asked new k' d' n told reply fits cut answers is = λ s w x has rests asks at stands keeps ready_for here kinds of.
      let reads : is_read_only x.group ≡ true = kinds ∙ kind in
      let seen = group_stored t w.tier aim.place x.group stands.stored here in
      let h = hides_so (groups_in t.catalog) aim.place (without_list x.group) asked seen in
      let its : AreCutAt (FitsFor t.schema x.group.def.tree.root.table) aim.place (primary_of t.schema x.group.def.tree.root.table) aim.which t.stores.items t.hidden.items new.stores.items new.hidden.items n =
      subst (λ (g : Group). AreCutAt (FitsFor t.schema g.def.tree.root.table) aim.place (primary_of t.schema g.def.tree.root.table) aim.which t.stores.items t.hidden.items new.stores.items new.hidden.items n) (same_there (groups_in t.catalog) aim.place cut.group (without_list x.group) cut.there seen) cut.cut in
      let p = answers new w (unload_entries all x.group) (unload_answer x all) at keeps ready_for
      (stands_over (record t { stores = new.stores; hidden = new.hidden; verified = false }) new (with_tier (unload_answer x all w).0 w) cut.is (stands_hidden drops t new.stores new.hidden aim n sound w x stands here of h all its)) refl (λ j faults moment. refl)
      (counted_hidden drops t new.stores new.hidden aim n sound w x stands here of h all its told is) in
      record {
        world = p.world;
        at = p.at;
        is = inl (unload_so s x all w p.world reply (listed_free t aim s w x sound stands here reads of fits) p.is);
        stands = p.stands;
        keeps = p.keeps;
      }

-- ---- what is stored

widened : (schema : List TableDef) (table : TableId) (def : TableDef) (place : ℕ) (columns : List ℕ) (which : ResolvedWhich) (stores : List Kept) (hid : List RowsHeld) (left : List Kept) (behind : List RowsHeld) (n : ℕ) → slice_get schema table.0 ≡ Some def
    → AreCutAt (FitsUnder def) place columns which stores hid left behind n → AreCutAt (FitsFor schema table) place columns which stores hid left behind n
widened schema table def place columns which stores hid left behind n is cut = record {
  store = cut.store;
  left = cut.left;
  before = cut.before;
  behind = cut.behind;
  kept = cut.kept;
  held = cut.held;
  cut = record {
    roots = cut.cut.roots;
    cut = cut_widened schema table def which columns cut.store cut.left n is cut.cut.cut;
    keyed = cut.cut.keyed;
    others = cut.cut.others;
    are = λ fits. cut.cut.are (fits def is);
    out = cut.cut.out;
  };
  stores = cut.stores;
  rows = cut.rows;
}

pub group_hidden : (t new : Stored) (aim : Aim) (n : ℕ) (seen : Group) (def : TableDef) (columns : List ℕ) → slice_get (groups_in t.catalog) aim.place ≡ Some seen → slice_get t.schema seen.def.tree.root.table.0 ≡ Some def → columns ≡ def.primary_key
    → AreCutAt (FitsUnder def) aim.place columns aim.which t.stores.items t.hidden.items new.stores.items new.hidden.items n → new ≡ record t { stores = new.stores; hidden = new.hidden; verified = false } → IsCutHiding t new aim n
group_hidden t new aim n seen def columns at defined are cut same =
    let its : columns ≡ primary_of t.schema seen.def.tree.root.table = are ∙ sym (ap (λ o. unwrap_or (option_map (λ (d : TableDef). d.primary_key) o) []) defined) in
    let unverified : new.verified ≡ false = ap (λ (y : Stored). y.verified) same in
    record {
      group = seen;
      there = at;
      cut = subst (λ cs. AreCutAt (FitsFor t.schema seen.def.tree.root.table) aim.place cs aim.which t.stores.items t.hidden.items new.stores.items new.hidden.items n) its (widened t.schema seen.def.tree.root.table def aim.place columns aim.which t.stores.items t.hidden.items new.stores.items new.hidden.items n defined cut);
      is = same ∙ (λ i. record t { stores = new.stores; hidden = new.hidden; verified = sym unverified i });
      known = λ noted. absurd (never_both new.verified noted unverified);
    }

-- one after another
out_end : (keys : List Row) (key : Row) (m : Table) → without_rows (keys ++ key ∷ []) m ≡ fm.remove (without_rows keys m) key
out_end [] key m = refl
out_end (k ∷ keys) key m = out_end keys key (fm.remove m k)

pub out_more : (keys : List Row) (n : ℕ) (key : Row) (old mid new : RowsHeld) → n < length keys → key ≡ get_or keys n key → AreOut (take n keys) old mid → new.table ≡ fm.remove mid.table key → new.places ≡ mid.places → new.spare ≡ mid.spare → AreOut (take (n + 1) keys) old new
out_more keys n key old mid new lt is before rows places spare = record {
  rows =
      rows ∙ ap (λ m. fm.remove m key) before.rows
      ∙ sym (ap (λ l. without_rows l old.table) (take_next keys n key (got keys n key lt is)) ∙ out_end (take n keys) key old.table);
  places = places ∙ before.places;
  spare = spare ∙ before.spare;
}

-- at a place of lists

pub both_at : {E : Type 0} (fits : Table → Type 0) (place : ℕ) (columns : List ℕ) (which : ResolvedWhich) (stores : List Kept) (hid : List RowsHeld) (store left : Kept) (before behind : RowsHeld) (r : Result ℕ E) → slice_get stores place ≡ Some store → slice_get hid place ≡ Some before
    → IfOk r (AreCutBy fits which columns store left before behind) → IfOk r (AreCutAt fits place columns which stores hid (set stores place left) (set hid place behind))
both_at fits place cs which stores hid store left before behind (Err e) kept held is = is
both_at fits place cs which stores hid store left before behind (Ok n) kept held is = record {
  store = store;
  left = left;
  before = before;
  behind = behind;
  kept = kept;
  held = held;
  cut = is;
  stores = refl;
  rows = refl;
}

set_same : {X : Type 0} (xs : List X) (i : ℕ) (x : X) → slice_get xs i ≡ Some x → set xs i x ≡ xs
set_same [] i x at = Prim.cc
set_same (y ∷ xs) zero x at = let same : y ≡ x = Prim.cc in ap (λ z. z ∷ xs) (sym same)
set_same (y ∷ xs) (suc i) x at = ap (λ ys. y ∷ ys) (set_same xs i x at)

pub both_kept : {E : Type 0} (place : ℕ) (stores : List Kept) (hid : List RowsHeld) (store left : Kept) (before behind : RowsHeld) (r : Result ℕ E) → slice_get stores place ≡ Some store → slice_get hid place ≡ Some before
    → OnErr r ((left ≡ store) × (behind ≡ before)) → OnErr r ((set stores place left ≡ stores) × (set hid place behind ≡ hid))
both_kept place stores hid store left before behind (Ok n) kept held is = is
both_kept place stores hid store left before behind (Err e) kept held is = (ap (set stores place) is.0 ∙ set_same stores place store kept, ap (set hid place) is.1 ∙ set_same hid place before held)
