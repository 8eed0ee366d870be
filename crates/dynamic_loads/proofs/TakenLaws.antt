-- An instance that was taken in, in the world in which it was told.
use Rattle.std.proofs.Common.{◌≡◌, ℕ, Bool, true, false, not, ◌||◌, Option, Some, None, is_some, List, [], ◌∷◌, map, set, slice_get, refl, sym, ap, subst, ◌∙◌, arith, zero, suc}
use Rattle.std.proofs.lemmas.List.{append-nil}
use Rattle.std.specs.FinMap as fm
use Rattle.std.specs.Option.{option_and_then}
use Rattle.indexed_rows.specs.Rows.{Table, is_same, key_of}
use Rattle.indexed_rows.proofs.EntryLaws.{some_of}
use Rattle.table_state.specs.Histories.{state_of}
use Rattle.table_state.specs.Tables.{TableState, table_at}
use Rattle.instances.specs.Views.{kept_at, passes, root_rows}
use Rattle.cache_store.specs.Shown.{shown_of}
use Rattle.order_laws.specs.Commits.{applied_sealed, pending}
use Rattle.order_laws.proofs.TruthLaws.{same_some}
use Rattle.outside.specs.Reaching.{instance_with}
use Rattle.outside.specs.declared.site.Instance.{Instance}
use Rattle.slot_rows.specs.SlotKeys.{RowsHeld}
use Rattle.group_catalog.specs.Catalogs.{groups_in}
use Rattle.group_store.specs.Stores.{Kept, put_tables}
use Rattle.cache_tier.specs.DynamicLoads.{found_root, with_found, with_found_at}
use Rattle.cache_tier.specs.Events.{with_tier}
use Rattle.cache_tier.specs.Groups.{Group, is_key, is_read_only, is_writethrough, with_keys}
use Rattle.cache_tier.specs.Loading.{ShowsKeys}
use Rattle.cache_tier.specs.Sets.{alone}
use Rattle.cache_tier.specs.Shown.{exceeds, shown_state}
use Rattle.cache_tier.specs.TierStates.{Tier}
use Rattle.cache_tier.specs.Wants.{Want}
use Rattle.cache_tier.specs.Worlds.{World}
use Rattle.cache_tier.proofs.BringLaws.{group_brings}
use Rattle.cache_tier.proofs.SessionLaws.{known}
use Rattle.stored_tier.specs.declared.tier.Tier.{Tier as Stored}
use Rattle.stored_tier.specs.Lists.{AreListed, IsListed}
use Rattle.stored_tier.specs.Performing.{StandsFor}
use Rattle.stored_tier.specs.Stored.{IsSound, IsStoredAs, KeepsHidden, rows_of, without_list}
use Rattle.stored_tier.proofs.HiddenRows.{hidden_as, hides_still}
use Rattle.stored_tier.proofs.ListLaws.{hidden_long, stores_long}
use Rattle.stored_tier.proofs.SoundParts.{changed_defs}
use Rattle.stored_tier.proofs.StoreChanges.{form_kept, shows_changed}
use Rattle.stored_tier.proofs.StoreRows.{kept_is_shown}
use Rattle.dynamic_loads.specs.Taking.{GainsRoom, StoreBecomes, TakesInstance, is_viewed}
use Rattle.dynamic_loads.proofs.FoundRoots.{IsOfRoot, root_found, told_root, told_row}
use Rattle.dynamic_loads.proofs.ListsSet.{changed_none, grown_listed, listed_room, listed_set, same_there, seen_alike}
use Rattle.dynamic_loads.proofs.RootRows.{Row, instances_of_keys, roots_are}
use Rattle.dynamic_loads.proofs.StoreShown.{form, its_roots, put_shown, roots_keyed}
use Rattle.dynamic_loads.proofs.TakenKeys.{instance_keys}
use Rattle.dynamic_loads.proofs.TakenSound.{filled_tree, same_tree}

-- a group that is stored at a place
pub unmapped : (groups : List Group) (k : ℕ) (g : Group) → slice_get (map without_list groups) k ≡ Some g → (h : Group) × (slice_get groups k ≡ Some h) × (without_list h ≡ g)
unmapped [] k g at = Prim.cc
unmapped (x ∷ groups) zero g at = let same : without_list x ≡ g = Prim.cc in (x, refl, same)
unmapped (x ∷ groups) (suc k) g at = unmapped groups k g at

pub group_seen_at : (t : Stored) (a : Tier) (place : ℕ) (seen : Group) → IsStoredAs t a → slice_get (groups_in t.catalog) place ≡ Some seen → (g : Group) × (slice_get a.groups place ≡ Some g) × (without_list g ≡ seen)
group_seen_at t a place seen is at = unmapped a.groups place seen (ap (λ gs. slice_get gs place) is.groups ∙ at)

-- no root is found

none_with : (keys : List Row) → with_keys [] keys ≡ keys
none_with keys = append-nil keys

pub nothing_found : (place : ℕ) (s : TableState) (want : Want) (t : Tier) (g : Group) → slice_get t.groups place ≡ Some g → found_root s g want ≡ [] → with_found_at place s want t ≡ t
nothing_found place s want t g at none =
    ap (λ gs. record t { groups = gs })
    (changed_none place (with_found s want) 0 t.groups (λ i h there e.
    let here : i ≡ place = Prim.omega (arith, e) in
    let same : h ≡ g = same_there t.groups place h g (ap (slice_get t.groups) (sym here) ∙ there) at in
    subst (λ x. with_found s want x ≡ x) (sym same) (λ j. record g { keys = (ap (λ new. with_keys new g.keys) none ∙ none_with g.keys) j })))

-- another store of the tree is stored

module _ (old new : Stored) (place : ℕ) (store left : Kept) (becomes : StoreBecomes old new place store left) where
  -- what of the tier is neither a store nor a group is as it was
  pub stored_changed : (a b : Tier) → IsStoredAs old a → b ≡ record a { groups = b.groups } → map without_list b.groups ≡ map without_list a.groups → AreListed b.groups new.stores.items old.hidden.items → IsStoredAs new b
  stored_changed a b is rest seen lists =
      subst (λ n. IsStoredAs n b) (sym becomes.rest)
      (subst (λ (c : Tier). AreListed c.groups new.stores.items old.hidden.items → map without_list c.groups ≡ map without_list a.groups → IsStoredAs (record old { stores = new.stores; verified = new.verified }) c) (sym rest)
      (λ listed groups. record {
        schema = is.schema;
        stale = is.stale;
        groups = groups ∙ is.groups;
        lists = listed;
        sessions = is.sessions;
        unsettled = is.unsettled;
        next = is.next;
        doubt = is.doubt;
        time = record { moment = is.time.moment; additions = is.time.additions; tried = is.time.tried; refreshes = is.time.refreshes; due = is.time.due };
      }) lists seen)

  -- groups and their hidden rows stay
  pub hidden_changed : KeepsHidden old new
  hidden_changed = hidden_as old (record old { stores = new.stores; verified = new.verified }) new becomes.rest (record { groups = refl; hidden = refl })

-- the room of a store is another

pub room_stands : (old new : Stored) (place : ℕ) (w : World) → IsSound old → StandsFor old w → GainsRoom old new place → StandsFor new w
room_stands old new place w sound stands gains = record {
  stored =
      stored_changed old new place gains.store gains.left gains.becomes w.tier w.tier stands.stored refl refl
      (subst (λ ss. AreListed w.tier.groups ss old.hidden.items) (sym gains.becomes.stores)
      (subst (λ gs. AreListed gs (set old.stores.items place gains.left) old.hidden.items) (changed_none place (λ g. g) 0 w.tier.groups (λ i g at e. refl))
      (listed_set place w.tier.groups old.stores.items gains.store gains.left gains.becomes.kept (stores_long old w.tier sound stands.stored) (λ g. g) old.hidden.items (hidden_long old w.tier sound stands.stored)
      (λ g x at held is. listed_room g gains.store gains.left x.table gains.same is) stands.stored.lists)));
  shows = shows;
  hides = hides_still old new w.history (hidden_changed old new place gains.store gains.left gains.becomes) stands.hides;
  stands = stands.stands;
  waits = stands.waits;
}
  where
    its : Rattle.stored_tier.proofs.StoreRows.StoreOf old.schema w.tier.groups old.stores.items place
    its = Rattle.stored_tier.proofs.StoreRows.group_here old w sound stands place gains.store gains.becomes.kept

    shows : rows_of new ≡ shown_state w.history w.tier
    shows = shows_changed old new w w place its.group gains.left sound stands (record {
      there = its.there;
      schema = ap (λ (t : Stored). t.schema) gains.becomes.rest;
      known = refl;
      defined = refl;
      stores = gains.becomes.stores;
      form = form_kept old.schema its.group.def.tree gains.store gains.left (Rattle.stored_tier.proofs.StoreRows.form_here old w sound stands place its.group gains.store its.there gains.becomes.kept) (same_tree gains.store gains.left gains.same);
      its = λ u p e. ap (λ ts. kept_at ts p) gains.same.tables ∙ kept_is_shown old w sound stands place its.group gains.store u p its.there gains.becomes.kept e;
      others = λ u off. refl;
    })

-- the instance was taken in, which the bank told of the state that stands here

module _ (old new : Stored) (w : World) (sound : IsSound old) (stands : StandsFor old w) (settled : w.tier.unsettled ≡ []) (place : ℕ) (want : Want) (instance : Instance) (took : TakesInstance old new place instance) (g : Group) (at : slice_get w.tier.groups place ≡ Some g) (seen : without_list g ≡ took.group)
    (told : Some instance ≡ instance_with stands.stands.flow.stand.over.backing g.def.tree want.table want.key) where
  abbrev b : TableState
  b = stands.stands.flow.stand.over.backing

  abbrev v : TableState
  v = stands.stands.flow.stand.over.virtual

  abbrev root : Row
  root = instance.root

  writes : is_writethrough g ≡ true
  writes = ap not (ap is_read_only seen ∙ took.writes)

  leaves : state_of w.history ≡ Some b
  leaves = stands.stands.flow.stand.over.leaves

  -- nothing is pending, so the virtual state is the backing one
  drained : v ≡ b
  drained =
      let none : pending w.history w.tier.log ≡ [] = stands.stands.flow.rest ∙ ap (pending w.history) settled in
      same_some (sym stands.stands.flow.stand.over.virtual_is ∙ ap (λ xs. option_and_then (applied_sealed xs) (state_of w.history)) none ∙ ap (option_and_then (applied_sealed [])) leaves)

  of_b : IsOfRoot b g want instance
  of_b = told_root b g want instance told

  of_v : IsOfRoot v g want instance
  of_v = subst (λ s. IsOfRoot s g want instance) (sym drained) of_b

  viewed : is_viewed g instance ≡ true
  viewed = ap (λ x. is_viewed x instance) seen ∙ took.viewed

  found : found_root b g want ≡ root ∷ []
  found = root_found b g want instance of_b viewed

  -- its root row
  row_there : (row : Row) × (fm.get (root_rows v g.def.tree.root) root ≡ Some row)
  row_there = some_of (fm.get (root_rows v g.def.tree.root) root) (there (fm.get (root_rows v g.def.tree.root) root) (ap (passes (exceeds g)) (sym (told_row v g want instance of_v)) ∙ viewed))
    where
      there : (o : Option Row) → passes (exceeds g) o ≡ true → is_some o ≡ true
      there None e = Prim.cc
      there (Some row) e = refl

  under : key_of took.store.key row_there.0 ≡ root
  under = roots_keyed old w sound stands place g at writes took.store took.becomes.kept root row_there.0
      (ap (λ (m : Table). fm.get m root) (sym (roots_are v g (table_at v g.def.tree.root.table) (its_roots old w sound stands place g at writes took.store took.becomes.kept))) ∙ row_there.1)

  -- its key is the newest
  filled_keys : took.filled.keys ≡ with_keys (root ∷ []) took.store.keys
  filled_keys =
      took.rows.keys
      ∙ ap (λ ts. (put_tables 0 (map fm.values ts) took.store).keys) of_v.rows
      ∙ instance_keys v g.def.tree root row_there.0 took.store took.keyed row_there.1 under

  -- it is shown
  filled_tables : took.filled.tables ≡ shown_of v g.def.tree (λ k. is_key g.keys k || is_same k root)
  filled_tables =
      took.rows.tables
      ∙ ap (λ ts. (put_tables 0 (map fm.values ts) took.store).tables) of_v.rows
      ∙ put_shown old w sound stands place g at writes took.store took.becomes.kept (λ k. is_same k root)

  abbrev test : Row → Bool
  test k = is_key g.keys k || is_key (found_root b g want) k

  or_none : (c : Bool) → (c || false) ≡ c
  or_none true = refl
  or_none false = refl

  tests : (λ (k : Row). is_key g.keys k || is_same k root) ≡ test
  tests = λ i k. is_key g.keys k || (sym (or_none (is_same k root)) ∙ sym (ap (λ ks. is_key ks k) found)) i

  shows_keys : ShowsKeys g test w (with_tier (with_found_at place b want w.tier) w)
  shows_keys = group_brings w place g want b stands.stands (record { there = at; writes = writes; settled = settled; state = leaves })

  abbrev after : Tier
  after = with_found_at place b want w.tier

  stored : IsStoredAs new (with_found_at place b want w.tier)
  stored =
      stored_changed old new place took.store took.filled took.becomes w.tier after stands.stored refl (seen_alike (alone place) (with_found b want) 0 w.tier.groups (λ h. refl))
      (subst (λ ss. AreListed after.groups ss old.hidden.items) (sym took.becomes.stores)
      (listed_set place w.tier.groups old.stores.items took.store took.filled took.becomes.kept (stores_long old w.tier sound stands.stored) (with_found b want) old.hidden.items (hidden_long old w.tier sound stands.stored)
      (λ h x at_h held is. one h x (same_there w.tier.groups place h g at_h at) is) stands.stored.lists))
    where
      one : (h : Group) (x : RowsHeld) → h ≡ g → IsListed h took.store x.table → IsListed (with_found b want h) took.filled x.table
      one h x same is =
          subst (λ new. IsListed (record h { keys = with_keys new h.keys }) took.filled x.table) (sym (ap (λ y. found_root b y want) same ∙ found))
          (grown_listed h (root ∷ []) took.store took.filled x.table filled_keys is)

  shows : rows_of new ≡ shown_state w.history (with_found_at place b want w.tier)
  shows = shows_changed old new w (with_tier after w) place g took.filled sound stands (record {
    there = at;
    schema = ap (λ (t : Stored). t.schema) took.becomes.rest;
    known = refl;
    defined = changed_defs (alone place) (with_found b want) 0 w.tier.groups (λ h. refl);
    stores = took.becomes.stores;
    form = form_kept old.schema g.def.tree took.store took.filled (form old w sound stands place g at writes took.store took.becomes.kept) (filled_tree (map fm.values instance.rows) took.store took.filled took.rows);
    its = λ u p e.
        ap (λ ts. kept_at ts p) filled_tables
        ∙ ap (λ q. kept_at (shown_of v g.def.tree q) p) tests
        ∙ ap (λ ts. kept_at ts p) (sym (instances_of_keys v g (table_at v g.def.tree.root.table) (its_roots old w sound stands place g at writes took.store took.becomes.kept) test))
        ∙ sym (shows_keys.its v u p (known w stands.stands).v_is e);
    others = shows_keys.others;
  })

  pub stands_taken : StandsFor new (with_tier (with_found_at place b want w.tier) w)
  stands_taken = record { stored = stored; shows = shows; hides = hides_still old new w.history (hidden_changed old new place took.store took.filled took.becomes) stands.hides; stands = shows_keys.stands; waits = stands.waits }
