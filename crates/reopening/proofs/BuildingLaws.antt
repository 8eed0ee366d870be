-- A tier that is built without rows: its parts, and that it stands for one that shows nothing.
use Rattle.std.proofs.Common.{◌≡◌, ◌≤◌, ◌+◌, ℕ, zero, suc, Bool, true, false, cond, Option, Some, None, is_some, List, [], ◌∷◌, ◌++◌, find, length, map, filter, slice_get, take, unwrap_or, refl, sym, ap, ◌∙◌, subst}
use Rattle.std.proofs.lemmas.List.{append-nil, map-append}
use Rattle.std.specs.FinMap.{empty}
use Rattle.std.specs.List.{list_all}
use Rattle.std.specs.Option.{option_and_then}
use Rattle.tier_base.specs.declared.number.TableId.{TableId}
use Rattle.table_defs.specs.declared.definition.TableDef.{TableDef}
use Rattle.table_state.specs.declared.history.Entry.{Entry}
use Rattle.table_state.specs.declared.history.Sealed.{Sealed}
use Rattle.table_state.specs.Histories.{state_at}
use Rattle.table_state.specs.Tables.{TableState, table_at}
use Rattle.instances.specs.Trees.{place_of}
use Rattle.instances.specs.Views.{kept_at}
use Rattle.order_laws.specs.Commits.{RiseBetween, virtual_state}
use Rattle.pending_writes.specs.Noting.{TellsWriters}
use Rattle.open_sessions.specs.Opening.{AreSessions}
use Rattle.group_catalog.specs.Catalogs.{groups_in}
use Rattle.group_catalog.specs.Kept.{groups_seen}
use Rattle.group_catalog.specs.declared.kept.KeptGroup.{KeptGroup}
use Rattle.slot_rows.specs.SlotKeys.{RowsHeld}
use Rattle.group_store.specs.Stores.{Kept}
use Rattle.tier_statements.specs.Seen.{session_seen}
use Rattle.cache_tier.specs.Groups.{Group, covers, is_read_only}
use Rattle.cache_tier.specs.Shown.{shown, shown_state, shown_where, table_of_group}
use Rattle.cache_tier.specs.StandingBetween.{Each, Stands}
use Rattle.cache_tier.specs.TierStates.{SetState, Tier}
use Rattle.cache_tier.specs.Worlds.{World}
use Rattle.cache_tier.proofs.DefineLaws.{shows_nothing}
use Rattle.cache_tier.proofs.GroupTables.{over_is_found}
use Rattle.cache_tier.proofs.ShownTables.{no_table_shown, table_shown}
use Rattle.stored_tier.specs.declared.moments.SetMoment.{SetMoment}
use Rattle.stored_tier.specs.declared.tier.Tier.{Tier as Stored}
use Rattle.stored_tier.specs.Filling.{HidesNone}
use Rattle.stored_tier.specs.Grouping.{IsBareStore}
use Rattle.stored_tier.specs.Lists.{AreHiding, AreListed}
use Rattle.stored_tier.specs.Moments.{refreshed_in, set_seen}
use Rattle.stored_tier.specs.Naming.{AreNamed}
use Rattle.stored_tier.specs.Performing.{StandsFor}
use Rattle.stored_tier.specs.Stored.{AreKept, AreWhole, IsSound, IsStoredAs, are_later, first_unsettled, pace_of, without_list}
use Rattle.group_catalog.specs.Catalogs.{HaveOwnNames, is_plain}
use Rattle.stored_tier.proofs.FillSteps.{take_one, take_past}
use Rattle.stored_tier.proofs.HiddenRows.{nothing_hidden}
use Rattle.stored_tier.proofs.ListLaws.{no_rows_fit, none_listed}
use Rattle.stored_tier.proofs.StoreChanges.{all_over_for}
use Rattle.stored_tier.proofs.StoreRows.{are_kept, shows_kept}
use Rattle.reopening.specs.Building.{AreBare, HideNone, HoldsNothing, IsBuilt, set_from, sets_from, settled_tier}
use Rattle.reopening.specs.Starting.{BeginsAs, IsUnread}
use Rattle.reopening.specs.declared.start.Start.{Start}

-- stores without rows, one by one

bare_more : (schema : List TableDef) (groups : List Group) (stores : List Kept) (g : Group) (s : Kept) → AreBare schema groups stores → IsBareStore schema g.def.tree s → AreBare schema (groups ++ g ∷ []) (stores ++ s ∷ [])
bare_more schema [] [] g s are one = (one, tt)
bare_more schema [] (x ∷ stores) g s are one = absurd are
bare_more schema (h ∷ groups) [] g s are one = absurd are
bare_more schema (h ∷ groups) (x ∷ stores) g s are one = (are.0, bare_more schema groups stores g s are.1 one)

pub one_bare : (schema : List TableDef) (groups : List Group) (i : ℕ) (g : Group) (s : Kept) (old new : List Kept) → slice_get groups i ≡ Some g → IsBareStore schema g.def.tree s → new ≡ old ++ s ∷ []
    → AreBare schema (take i groups) old → AreBare schema (take (i + 1) groups) new
one_bare schema groups i g s old new at one is are =
    subst (AreBare schema (take (i + 1) groups)) (sym is)
    (subst (λ gs. AreBare schema gs (old ++ s ∷ [])) (sym (take_one groups i g at)) (bare_more schema (take i groups) old g s are one))

pub all_bare : (schema : List TableDef) (groups : List Group) (i : ℕ) (stores : List Kept) → length groups ≤ i → AreBare schema (take i groups) stores → AreBare schema groups stores
all_bare schema groups i stores le are = subst (λ gs. AreBare schema gs stores) (take_past groups i le) are

-- no hidden root rows, group by group

hide_more : (schema : List TableDef) (groups : List Group) (hidden : List RowsHeld) (g : Group) (h : RowsHeld) → HideNone schema groups hidden → HidesNone schema g 0 h → HideNone schema (groups ++ g ∷ []) (hidden ++ h ∷ [])
hide_more schema [] [] g h are one = (one, tt)
hide_more schema [] (x ∷ hidden) g h are one = absurd are
hide_more schema (y ∷ groups) [] g h are one = absurd are
hide_more schema (y ∷ groups) (x ∷ hidden) g h are one = (are.0, hide_more schema groups hidden g h are.1 one)

pub one_hides : (schema : List TableDef) (groups : List Group) (i : ℕ) (g : Group) (h : RowsHeld) (old new : List RowsHeld) → slice_get groups i ≡ Some g → HidesNone schema g 0 h → new ≡ old ++ h ∷ []
    → HideNone schema (take i groups) old → HideNone schema (take (i + 1) groups) new
one_hides schema groups i g h old new at one is are =
    subst (HideNone schema (take (i + 1) groups)) (sym is)
    (subst (λ gs. HideNone schema gs (old ++ h ∷ [])) (sym (take_one groups i g at)) (hide_more schema (take i groups) old g h are one))

pub all_hide : (schema : List TableDef) (groups : List Group) (i : ℕ) (hidden : List RowsHeld) → length groups ≤ i → HideNone schema (take i groups) hidden → HideNone schema groups hidden
all_hide schema groups i hidden le are = subst (λ gs. HideNone schema gs hidden) (take_past groups i le) are

hiding_bare : (schema : List TableDef) (groups : List Group) (stores : List Kept) (hidden : List RowsHeld) → AreBare schema groups stores → HideNone schema groups hidden → AreHiding schema groups stores hidden
hiding_bare schema [] stores [] bare none = tt
hiding_bare schema [] stores (h ∷ hidden) bare none = absurd none
hiding_bare schema (g ∷ groups) stores [] bare none = absurd none
hiding_bare schema (g ∷ groups) [] (h ∷ hidden) bare none = absurd bare
hiding_bare schema (g ∷ groups) (s ∷ stores) (h ∷ hidden) bare none = (
  record {
    key = none.0.key;
    room = λ e. no_rows_fit (kept_at s.tables 0) h.spare (bare.0.rows 0);
    none = λ e. none.0.none;
  },
  hiding_bare schema groups stores hidden bare.1 none.1,
)

-- no keys are listed

lists_bare : (schema : List TableDef) (groups : List Group) (stores : List Kept) (hidden : List RowsHeld) → Each (λ (g : Group). g.keys ≡ []) groups → AreBare schema groups stores → HideNone schema groups hidden → AreListed groups stores hidden
lists_bare schema [] stores hidden keys bare none = tt
lists_bare schema (g ∷ groups) [] hidden keys bare none = absurd bare
lists_bare schema (g ∷ groups) (s ∷ stores) [] keys bare none = absurd none
lists_bare schema (g ∷ groups) (s ∷ stores) (h ∷ hidden) keys bare none = (none_listed g s h.table keys.0 bare.0.keys none.0.none, lists_bare schema groups stores hidden keys.1 bare.1 none.1)

keys_bare : (schema : List TableDef) (groups : List Group) (stores : List Kept) → AreBare schema groups stores → (k : ℕ) (s : Kept) → slice_get stores k ≡ Some s → s.keys ≡ []
keys_bare schema groups [] are k s at = cc
keys_bare schema [] (x ∷ stores) are k s at = absurd are
keys_bare schema (h ∷ groups) (x ∷ stores) are zero s at =
    let same : x ≡ s = cc in
    subst (λ (y : Kept). y.keys ≡ []) same are.0.keys
keys_bare schema (h ∷ groups) (x ∷ stores) are (suc k) s at = keys_bare schema groups stores are.1 k s at

hidden_bare : (schema : List TableDef) (groups : List Group) (hidden : List RowsHeld) → HideNone schema groups hidden → (k : ℕ) (h : RowsHeld) → slice_get hidden k ≡ Some h → h.table ≡ empty
hidden_bare schema groups [] are k h at = cc
hidden_bare schema [] (x ∷ hidden) are k h at = absurd are
hidden_bare schema (g ∷ groups) (x ∷ hidden) are zero h at =
    let same : x ≡ h = cc in
    subst (λ (y : RowsHeld). y.table ≡ empty) same are.0.none
hidden_bare schema (g ∷ groups) (x ∷ hidden) are (suc k) h at = hidden_bare schema groups hidden are.1 k h at

pub built_bare : (schema : List TableDef) (groups : List Group) (t : Stored) → AreBare schema groups t.stores.items → HideNone schema groups t.hidden.items → HoldsNothing t
built_bare schema groups t bare none = record { stores = keys_bare schema groups t.stores.items bare; hidden = hidden_bare schema groups t.hidden.items none }

kept_bare : (schema : List TableDef) (groups : List Group) (stores : List Kept) → AreBare schema groups stores → AreKept schema groups stores
kept_bare schema [] [] are = tt
kept_bare schema [] (x ∷ stores) are = absurd are
kept_bare schema (h ∷ groups) [] are = absurd are
kept_bare schema (h ∷ groups) (x ∷ stores) are = (are.0.form, kept_bare schema groups stores are.1)

whole_bare : (schema : List TableDef) (groups : List Group) (stores : List Kept) → AreBare schema groups stores → AreWhole stores
whole_bare schema groups [] are k s at = cc
whole_bare schema [] (x ∷ stores) are k s at = absurd are
whole_bare schema (h ∷ groups) (x ∷ stores) are zero s at =
    let same : x ≡ s = cc in
    subst (λ (y : Kept). length y.tables ≡ suc (length y.layers)) same are.0.whole
whole_bare schema (h ∷ groups) (x ∷ stores) are (suc k) s at = whole_bare schema groups stores are.1 k s at

rows_bare : (schema : List TableDef) (groups : List Group) (stores : List Kept) → AreBare schema groups stores → (k : ℕ) (s : Kept) → slice_get stores k ≡ Some s → (p : ℕ) → kept_at s.tables p ≡ empty
rows_bare schema groups [] are k s at p = cc
rows_bare schema [] (x ∷ stores) are k s at p = absurd are
rows_bare schema (h ∷ groups) (x ∷ stores) are zero s at p =
    let same : x ≡ s = cc in
    subst (λ (y : Kept). kept_at y.tables p ≡ empty) same (are.0.rows p)
rows_bare schema (h ∷ groups) (x ∷ stores) are (suc k) s at p = rows_bare schema groups stores are.1 k s at p

-- what the parts ask of one another

pub sound_built : (t : Stored) → AreBare t.schema (groups_in t.catalog) t.stores.items → HideNone t.schema (groups_in t.catalog) t.hidden.items → AreSessions t.schema t.sessions → AreNamed (groups_in t.catalog) t.stores.items t.schema t.visible t.directory
    → list_all is_plain (groups_in t.catalog) ≡ true → HaveOwnNames (groups_in t.catalog) → t.unsettled.items ≡ [] → 1 ≤ t.next → ((known : List TableDef) (first : ℕ) → TellsWriters known first [] t.writers) → t.verified ≡ false → IsSound t
sound_built t bare none_hidden sessions naming plain named none first writers unverified =
    let kept = kept_bare t.schema (groups_in t.catalog) t.stores.items bare in
    record {
      sessions = sessions;
      stores = record { homes = naming.directory; over = all_over_for t.schema (groups_in t.catalog) t.stores.items kept };
      kept = kept;
      whole = whole_bare t.schema (groups_in t.catalog) t.stores.items bare;
      hiding = hiding_bare t.schema (groups_in t.catalog) t.stores.items t.hidden.items bare none_hidden;
      plain = plain;
      named = named;
      visible = naming.visible;
      numbered = subst (λ xs. RiseBetween 1 xs t.next) (sym none) first;
      later = ap (are_later (groups_in t.catalog)) none;
      writers = subst (λ xs. TellsWriters t.schema (first_unsettled xs t.next) xs t.writers) (sym none) (writers t.schema t.next);
      verified = λ is. let no : false ≡ true = sym unverified ∙ is in cc;
    }

-- the sets, one by one

sets_append : (opened : ℕ) (xs ys : List Group) → sets_from opened (xs ++ ys) ≡ sets_from opened xs ++ sets_from opened ys
sets_append opened [] ys = refl
sets_append opened (x ∷ xs) ys = by (is_read_only x) (sets_append opened xs ys)
  where
    by : (b : Bool) → sets_from opened (xs ++ ys) ≡ sets_from opened xs ++ sets_from opened ys
        → map (set_from opened) (cond b (x ∷ filter is_read_only (xs ++ ys)) (filter is_read_only (xs ++ ys))) ≡ map (set_from opened) (cond b (x ∷ filter is_read_only xs) (filter is_read_only xs)) ++ sets_from opened ys
    by true rest = ap (λ l. set_from opened x ∷ l) rest
    by false rest = rest

pub one_added : (opened : ℕ) (g : Group) (s : SetMoment) (old new : List SetMoment) → is_read_only g ≡ true → set_seen s ≡ set_from opened g → new ≡ old ++ s ∷ [] → map set_seen new ≡ map set_seen old ++ sets_from opened (g ∷ [])
one_added opened g s old new reads same is =
    ap (map set_seen) is ∙ map-append set_seen old (s ∷ [])
    ∙ ap (λ x. map set_seen old ++ x ∷ []) same
    ∙ ap (λ b. map set_seen old ++ map (set_from opened) (cond b (g ∷ []) [])) (sym reads)

pub none_added : (opened : ℕ) (g : Group) (old : List SetState) → is_read_only g ≡ false → old ≡ old ++ sets_from opened (g ∷ [])
none_added opened g old writes = sym (append-nil old) ∙ ap (λ b. old ++ map (set_from opened) (cond b (g ∷ []) [])) (sym writes)

pub set_next : (opened : ℕ) (groups : List Group) (i : ℕ) (g : Group) (old new : List SetState) → slice_get groups i ≡ Some g → new ≡ old ++ sets_from opened (g ∷ []) → old ≡ sets_from opened (take i groups) → new ≡ sets_from opened (take (i + 1) groups)
set_next opened groups i g old new at is before =
    is ∙ ap (λ l. l ++ sets_from opened (g ∷ [])) before ∙ sym (sets_append opened (take i groups) (g ∷ [])) ∙ ap (sets_from opened) (sym (take_one groups i g at))

pub all_sets : (now : ℕ) (groups : List Group) (i : ℕ) (sets : List SetState) → length groups ≤ i → sets ≡ sets_from now (take i groups) → sets ≡ sets_from now groups
all_sets now groups i sets le before = before ∙ ap (sets_from now) (take_past groups i le)

-- nothing is shown

no_rows_at : (p : ℕ) → kept_at [] p ≡ empty
no_rows_at zero = refl
no_rows_at (suc p) = refl

record IsBareGroup (g : Group) : Type 0 where
  keys : g.keys ≡ []
  position : g.position ≡ None

bare_shows : (h : List Entry) (log : List Sealed) (g : Group) (u : TableId) (v : TableState) → IsBareGroup g → virtual_state h log ≡ Some v → table_of_group h log u (Some g) ≡ empty
bare_shows h log g u v bare virtual = by (is_read_only g) refl
  where
    at : ℕ
    at = unwrap_or (place_of g.def.tree u) 0

    by : (b : Bool) → is_read_only g ≡ b → kept_at (shown h log g) (unwrap_or (place_of g.def.tree u) 0) ≡ empty
    by true e =
        ap (λ b. kept_at (shown_where (cond b (option_and_then (state_at h) g.position) (virtual_state h log)) g) (unwrap_or (place_of g.def.tree u) 0)) e
        ∙ ap (λ o. kept_at (shown_where (option_and_then (state_at h) o) g) (unwrap_or (place_of g.def.tree u) 0)) bare.position
        ∙ no_rows_at (unwrap_or (place_of g.def.tree u) 0)
    by false e =
        ap (λ b. kept_at (shown_where (cond b (option_and_then (state_at h) g.position) (virtual_state h log)) g) (unwrap_or (place_of g.def.tree u) 0)) e
        ∙ ap (λ o. kept_at (shown_where o g) (unwrap_or (place_of g.def.tree u) 0)) virtual
        ∙ shows_nothing v g e bare.keys (unwrap_or (place_of g.def.tree u) 0)

found_each : (P : Group → Type 0) (test : Group → Bool) (groups : List Group) (g : Group) → Each P groups → find test groups ≡ Some g → P g
found_each P test [] g all e = cc
found_each P test (h ∷ groups) g all e = by (test h) e (found_each P test groups g all.1)
  where
    by : (b : Bool) → cond b (Some h) (find test groups) ≡ Some g → (find test groups ≡ Some g → P g) → P g
    by true same rest = let one : h ≡ g = cc in subst P one all.0
    by false there rest = rest there

none_shown : (h : List Entry) (a : Tier) (v : TableState) (u : TableId) → Each IsBareGroup a.groups → virtual_state h a.log ≡ Some v → table_at (shown_state h a) u ≡ empty
none_shown h a v u bare virtual = by (slice_get a.schema u.0) refl
  where
    of : (o : Option Group) → find (covers u) a.groups ≡ o → table_of_group h a.log u o ≡ empty
    of None e = refl
    of (Some g) e = bare_shows h a.log g u v (found_each IsBareGroup (covers u) a.groups g bare e) virtual

    by : (o : Option TableDef) → slice_get a.schema u.0 ≡ o → table_at (shown_state h a) u ≡ empty
    by None e = no_table_shown h a u e
    by (Some def) e = table_shown h a u (ap is_some e) ∙ ap (table_of_group h a.log u) (over_is_found a.groups u) ∙ of (find (covers u) a.groups) refl

-- it stands for the tier that begins so

unlisted : (gs : List KeptGroup) → map without_list (groups_seen gs) ≡ groups_seen gs
unlisted [] = refl
unlisted (g ∷ gs) = ap (λ l. Rattle.group_catalog.specs.Kept.group_seen g ∷ l) (unlisted gs)

no_keys : (gs : List KeptGroup) → Each (λ (g : Group). g.keys ≡ []) (groups_seen gs)
no_keys [] = tt
no_keys (g ∷ gs) = (refl, no_keys gs)

each_bare : (gs : List Group) → Each (λ (g : Group). g.keys ≡ []) gs → Each IsUnread gs → Each IsBareGroup gs
each_bare [] keys read = tt
each_bare (g ∷ gs) keys read = (record { keys = keys.0; position = read.0 }, each_bare gs keys.1 read.1)

module _ (start : Start) (a : Tier) (begins : BeginsAs start a) (t : Stored) (built : IsBuilt t start.schema (groups_in start.catalog) start.next start.now.0 start.pace) (sound : IsSound t) (w : World) (is : w.tier ≡ settled_tier [] a) (stands : Stands w) where
  groups_are : w.tier.groups ≡ groups_in start.catalog
  groups_are = ap (λ (x : Tier). x.groups) is ∙ begins.groups

  stored : IsStoredAs t w.tier
  stored = record {
    schema = ap (λ (x : Tier). x.schema) is ∙ begins.schema ∙ sym built.schema_is;
    stale = ap (λ (x : Tier). x.stale) is ∙ begins.told ∙ sym built.told;
    groups = ap (map without_list) groups_are ∙ unlisted start.catalog.groups.items ∙ sym built.groups_are;
    lists = subst (λ gs. AreListed gs t.stores.items t.hidden.items) (sym groups_are) (lists_bare start.schema (groups_in start.catalog) t.stores.items t.hidden.items (no_keys start.catalog.groups.items) built.stores built.hidden);
    sessions = ap (λ (x : Tier). x.sessions) is ∙ begins.sessions ∙ sym (ap (map session_seen) built.sessions);
    unsettled = ap (λ (x : Tier). x.unsettled) is ∙ sym built.unsettled;
    next = ap (λ (x : Tier). x.next) is ∙ begins.next ∙ sym built.next_is;
    doubt = ap (λ (x : Tier). x.doubt) is ∙ begins.doubt;
    time = record {
      moment = ap (λ (x : Tier). x.now) is ∙ begins.now ∙ sym built.clock.now;
      additions = ap (λ (x : Tier). x.added) is ∙ begins.added ∙ sym built.clock.added;
      tried = ap (λ (x : Tier). x.round) is ∙ begins.now ∙ sym built.clock.round;
      refreshes = λ interval. ap (λ (l : List SetState). refreshed_in l interval)
          (ap (λ (x : Tier). x.sets) is ∙ begins.sets ∙ (λ i. sets_from (begins.now i) (begins.groups i)) ∙ sym built.clock.sets);
      due = ap (λ (x : Tier). pace_of x.settings) is ∙ begins.due ∙ sym built.clock.due;
    };
  }

  bare : Each IsBareGroup w.tier.groups
  bare = subst (Each IsBareGroup) (sym (ap (λ (x : Tier). x.groups) is))
      (each_bare a.groups (subst (Each (λ (g : Group). g.keys ≡ [])) (sym begins.groups) (no_keys start.catalog.groups.items)) begins.unread)

  pub stands_built : StandsFor t w
  stands_built = record {
    stored = stored;
    shows = shows_kept t w (ap (λ (x : Tier). x.schema) is ∙ begins.schema ∙ sym built.schema_is) (are_kept t w.tier sound stored)
        (λ k g s u p at kept placed.
        rows_bare start.schema (groups_in start.catalog) t.stores.items built.stores k s kept p
        ∙ sym (none_shown w.history w.tier stands.flow.stand.over.virtual u bare stands.flow.stand.over.virtual_is));
    hides = λ k g x at hides there. nothing_hidden w.history g x.table (hidden_bare start.schema (groups_in start.catalog) t.hidden.items built.hidden k x there);
    stands = stands;
    waits = record { settled = w.tier.log; behind = []; is = sym (append-nil w.tier.log); waits = ap (λ (x : Tier). x.unsettled) is };
  }
