-- What is stored where a group comes with its store, and that what is shown stays.
use Rattle.std.proofs.Common.{◌≡◌, ℕ, zero, suc, ◌⊎◌, inl, inr, Bool, true, false, cond, ◌&&◌, ◌||◌, Some, None, is_some, List, [], ◌∷◌, ◌++◌, All, length, map, slice_get, find, refl, sym, ap, subst, ◌∙◌}
use Rattle.std.specs.List.{list_all, list_any}
use Rattle.std.specs.FinMap.{empty}
use Rattle.std.proofs.lemmas.List.{map-append}
use Rattle.std.proofs.lemmas.Slice.Eq.{bytes_eq-Decides}
use Rattle.tier_base.specs.declared.number.TableId.{TableId}
use Rattle.table_defs.specs.Names.{same_name}
use Rattle.table_defs.specs.declared.definition.TableDef.{TableDef}
use Rattle.table_state.specs.Tables.{TableState, table_at}
use Rattle.own_rows.specs.OwnTables.{AreShown}
use Rattle.open_sessions.specs.Opening.{AreSessions, seen_all}
use Rattle.instances.specs.Trees.{place_of}
use Rattle.instances.specs.Views.{kept_at}
use Rattle.group_catalog.specs.Catalogs.{groups_in}
use Rattle.group_store.specs.Keeping.{IsFor}
use Rattle.group_store.specs.Shown.{AreHoused, homes_of, shown_by}
use Rattle.group_store.specs.Stores.{Kept}
use Rattle.order_laws.specs.Commits.{RiseBetween}
use Rattle.order_laws.proofs.TruthLaws.{never_both}
use Rattle.cache_tier.specs.Groups.{Group, covers, defines_name, definitions_of}
use Rattle.cache_tier.specs.Shown.{shown_state}
use Rattle.cache_tier.specs.TierStates.{Tier}
use Rattle.cache_tier.specs.Worlds.{World}
use Rattle.cache_tier.specs.StandingBetween.{HasNoTableOf}
use Rattle.tier_statements.specs.Seen.{session_seen}
use Rattle.stored_tier.proofs.WriterLaws.{writers_same}
use Rattle.stored_tier.specs.declared.tier.Tier.{Tier as Stored}
use Rattle.slot_rows.specs.SlotKeys.{RowsHeld}
use Rattle.stored_tier.specs.Grouping.{HasGroups, IsBareStore, KeepsGroups}
use Rattle.stored_tier.specs.Lists.{AreHiding, AreListed}
use Rattle.stored_tier.specs.Performing.{StandsFor}
use Rattle.stored_tier.specs.Stored.{AreKept, AreWhole, IsSound, KeepsTime, ShowsRows, are_later, named_where_cached, rows_of, without_list}
use Rattle.group_catalog.specs.Catalogs.{HaveOwnNames, is_plain}
use Rattle.stored_tier.proofs.HiddenRows.{hides_still}
use Rattle.stored_tier.proofs.StoreRows.{KeepShown, are_kept, none_shown, shows_kept, kept_is_shown}
use Rattle.stored_tier.proofs.StoreChanges.{all_over_for}

-- lists with one element more

pub kept_more : (schema : List TableDef) (groups : List Group) (stores : List Kept) (g : Group) (s : Kept) → AreKept schema groups stores → IsFor schema g.def.tree s → AreKept schema (groups ++ g ∷ []) (stores ++ s ∷ [])
kept_more schema [] [] g s are form = (form, tt)
kept_more schema [] (x ∷ stores) g s are form = absurd are
kept_more schema (h ∷ groups) [] g s are form = absurd are
kept_more schema (h ∷ groups) (x ∷ stores) g s are form = (are.0, kept_more schema groups stores g s are.1 form)

-- a store keeps what a state has of a group's tables
abbrev pub KeepsOf : TableState → Group → Kept → Type 0
KeepsOf state g s = (u : TableId) (p : ℕ) → place_of g.def.tree u ≡ Some p → kept_at s.tables p ≡ table_at state u

shown_more : (schema : List TableDef) (state : TableState) (groups : List Group) (stores : List Kept) (g : Group) (s : Kept) → AreKept schema groups stores → KeepShown groups stores state → KeepsOf state g s → KeepShown (groups ++ g ∷ []) (stores ++ s ∷ []) state
shown_more schema state [] [] g s are keep one zero h x u p at kept place =
    let same : g ≡ h = cc in
    let store : s ≡ x = cc in
    ap (λ y. kept_at y.tables p) (sym store) ∙ one u p (ap (λ (y : Group). place_of y.def.tree u) same ∙ place)
shown_more schema state [] [] g s are keep one (suc k) h x u p at kept place = cc
shown_more schema state [] (y ∷ stores) g s are keep one k h x u p at kept place = absurd are
shown_more schema state (z ∷ groups) [] g s are keep one k h x u p at kept place = absurd are
shown_more schema state (z ∷ groups) (y ∷ stores) g s are keep one zero h x u p at kept place = keep 0 h x u p at kept place
shown_more schema state (z ∷ groups) (y ∷ stores) g s are keep one (suc k) h x u p at kept place =
    shown_more schema state groups stores g s are.1 (λ n a b v q. keep (suc n) a b v q) one k h x u p at kept place

pub plain_more : (groups : List Group) (g : Group) → list_all is_plain groups ≡ true → is_plain g ≡ true → list_all is_plain (groups ++ g ∷ []) ≡ true
plain_more [] g all one = ap (λ b. b && true) one
plain_more (h ∷ groups) g all one = by (is_plain h) refl all (plain_more groups g)
  where
    by : (b : Bool) → is_plain h ≡ b → (b && list_all is_plain groups) ≡ true → (list_all is_plain groups ≡ true → is_plain g ≡ true → list_all is_plain (groups ++ g ∷ []) ≡ true) → (is_plain h && list_all is_plain (groups ++ g ∷ [])) ≡ true
    by true is e rest = ap (λ b. b && list_all is_plain (groups ++ g ∷ [])) is ∙ rest e one
    by false is e rest = cc

-- names

last_cases : {X : Type 0} (xs : List X) (x : X) (i : ℕ) (y : X) → slice_get (xs ++ x ∷ []) i ≡ Some y → (slice_get xs i ≡ Some y) ⊎ ((i ≡ length xs) × (x ≡ y))
last_cases [] x zero y e = let same : x ≡ y = cc in inr (refl, same)
last_cases [] x (suc i) y e = cc
last_cases (z ∷ xs) x zero y e = inl e
last_cases (z ∷ xs) x (suc i) y e = elim (last_cases xs x i y e) [
  | inl h ↦ inl h
  | inr h ↦ inr (ap suc h.0, h.1)
]

named_one : (groups : List Group) (i : ℕ) (h : Group) (name : List ℕ) → slice_get groups i ≡ Some h → h.def.name ≡ name → list_any (defines_name name) (definitions_of groups) ≡ true
named_one [] i h name at same = cc
named_one (g ∷ groups) zero h name at same =
    let one : g ≡ h = cc in
    ap (λ b. b || list_any (defines_name name) (definitions_of groups)) (ap (λ (y : Group). same_name y.def.name name) one ∙ (bytes_eq-Decides h.def.name name).1 same)
named_one (g ∷ groups) (suc i) h name at same = by (same_name g.def.name name) (named_one groups i h name at same)
  where
    by : (b : Bool) → list_any (defines_name name) (definitions_of groups) ≡ true → (b || list_any (defines_name name) (definitions_of groups)) ≡ true
    by true rest = refl
    by false rest = rest

pub names_more : (groups : List Group) (g : Group) → HaveOwnNames groups → list_any (defines_name g.def.name) (definitions_of groups) ≡ false → HaveOwnNames (groups ++ g ∷ [])
names_more groups g own new i j a b at other same = by (last_cases groups g i a at) (last_cases groups g j b other)
  where
    by : (slice_get groups i ≡ Some a) ⊎ ((i ≡ length groups) × (g ≡ a)) → (slice_get groups j ≡ Some b) ⊎ ((j ≡ length groups) × (g ≡ b)) → i ≡ j
    by (inl x) (inl y) = own i j a b x y same
    by (inl x) (inr y) = absurd (never_both (list_any (defines_name g.def.name) (definitions_of groups)) (named_one groups i a g.def.name x (same ∙ ap (λ (z : Group). z.def.name) (sym y.1))) new)
    by (inr x) (inl y) = absurd (never_both (list_any (defines_name g.def.name) (definitions_of groups)) (named_one groups j b g.def.name y (sym same ∙ ap (λ (z : Group). z.def.name) (sym x.1))) new)
    by (inr x) (inr y) = x.0 ∙ sym y.0

pub whole_more : (stores : List Kept) (s : Kept) → AreWhole stores → length s.tables ≡ suc (length s.layers) → AreWhole (stores ++ s ∷ [])
whole_more stores s whole one k x at = by (last_cases stores s k x at)
  where
    by : (slice_get stores k ≡ Some x) ⊎ ((k ≡ length stores) × (s ≡ x)) → length x.tables ≡ suc (length x.layers)
    by (inl old) = whole k x old
    by (inr new) = subst (λ (y : Kept). length y.tables ≡ suc (length y.layers)) new.1 one

-- what holds of the parts

pub sound_grouped : (t new : Stored) (groups : List Group) (stores : List Kept) (hidden : List RowsHeld) → IsSound t → HasGroups t new groups stores hidden → AreKept t.schema groups stores → AreHiding t.schema groups stores hidden → list_all is_plain groups ≡ true → HaveOwnNames groups → AreWhole stores → are_later groups t.unsettled.items ≡ true → new.verified ≡ false → IsSound new
sound_grouped t new groups stores hidden sound has are hiding plain named whole later unverified =
    let schema = has.beside.schema in
    let kept : AreKept new.schema (groups_in new.catalog) new.stores.items =
    subst (λ gs. AreKept new.schema gs new.stores.items) (sym has.groups) (subst (λ ss. AreKept new.schema groups ss) (sym has.stores) (subst (λ defs. AreKept defs groups stores) (sym schema) are)) in
    record {
      sessions = subst (λ x. AreSessions new.schema x) (sym has.beside.sessions) (subst (λ defs. AreSessions defs t.sessions) (sym schema) sound.sessions);
      stores = record {
        homes = has.directory ∙ (λ i. homes_of (sym has.stores i) (length (sym schema i)));
        over = all_over_for new.schema (groups_in new.catalog) new.stores.items kept;
      };
      kept = kept;
      whole = subst AreWhole (sym has.stores) whole;
      hiding = subst (λ hs. AreHiding new.schema (groups_in new.catalog) new.stores.items hs) (sym has.hidden) (subst (λ gs. AreHiding new.schema gs new.stores.items hidden) (sym has.groups) (subst (λ ss. AreHiding new.schema groups ss hidden) (sym has.stores) (subst (λ defs. AreHiding defs groups stores hidden) (sym schema) hiding)));
      plain = ap (list_all is_plain) has.groups ∙ plain;
      named = subst HaveOwnNames (sym has.groups) named;
      visible = has.visible ∙ (λ i. named_where_cached (sym has.groups i) (sym schema i));
      numbered = subst (λ us. RiseBetween 1 us new.next) (sym (ap (λ u. u.items) has.beside.unsettled)) (subst (RiseBetween 1 t.unsettled.items) (sym has.beside.next) sound.numbered);
      later = (λ i. are_later (has.groups i) (has.beside.unsettled i).items) ∙ later;
      writers = writers_same t new schema (ap (λ u. u.items) has.beside.unsettled) has.beside.next has.beside.writers sound;
      verified = λ e. absurd (never_both new.verified e unverified);
    }

pub time_kept : (t new : Stored) (a : Tier) → new.clock ≡ t.clock → KeepsTime t.clock a.now a.added a.round a.sets a.settings → KeepsTime new.clock a.now a.added a.round a.sets a.settings
time_kept t new a same time = subst (λ c. KeepsTime c a.now a.added a.round a.sets a.settings) (sym same) time

-- nothing changed

rows_kept : (t new : Stored) → KeepsGroups t new → rows_of new ≡ rows_of t
rows_kept t new keeps = λ i. shown_by (keeps.beside.schema i) (keeps.stores i)

pub sound_kept : (t new : Stored) → IsSound t → KeepsGroups t new → IsSound new
sound_kept t new sound keeps = record {
  sessions = subst (λ x. AreSessions new.schema x) (sym keeps.beside.sessions) (subst (λ defs. AreSessions defs t.sessions) (sym keeps.beside.schema) sound.sessions);
  stores = subst (AreHoused new.schema new.stores.items) (sym keeps.directory) (subst (λ ss. AreHoused new.schema ss t.directory) (sym keeps.stores) (subst (λ defs. AreHoused defs t.stores.items t.directory) (sym keeps.beside.schema) sound.stores));
  kept = subst (λ gs. AreKept new.schema gs new.stores.items) (sym keeps.groups) (subst (λ ss. AreKept new.schema (groups_in t.catalog) ss) (sym keeps.stores) (subst (λ defs. AreKept defs (groups_in t.catalog) t.stores.items) (sym keeps.beside.schema) sound.kept));
  whole = subst AreWhole (sym keeps.stores) sound.whole;
  hiding = subst (λ hs. AreHiding new.schema (groups_in new.catalog) new.stores.items hs) (sym keeps.hidden) (subst (λ gs. AreHiding new.schema gs new.stores.items t.hidden.items) (sym keeps.groups) (subst (λ ss. AreHiding new.schema (groups_in t.catalog) ss t.hidden.items) (sym keeps.stores) (subst (λ defs. AreHiding defs (groups_in t.catalog) t.stores.items t.hidden.items) (sym keeps.beside.schema) sound.hiding)));
  plain = ap (list_all is_plain) keeps.groups ∙ sound.plain;
  named = subst HaveOwnNames (sym keeps.groups) sound.named;
  visible = keeps.visible ∙ sound.visible ∙ (λ i. named_where_cached (sym keeps.groups i) (sym keeps.beside.schema i));
  numbered = subst (λ us. RiseBetween 1 us new.next) (sym (ap (λ u. u.items) keeps.beside.unsettled)) (subst (RiseBetween 1 t.unsettled.items) (sym keeps.beside.next) sound.numbered);
  later = (λ i. are_later (keeps.groups i) (keeps.beside.unsettled i).items) ∙ sound.later;
  writers = writers_same t new keeps.beside.schema (ap (λ u. u.items) keeps.beside.unsettled) keeps.beside.next keeps.beside.writers sound;
  verified = λ e. (
      let old = sound.verified (sym keeps.verified ∙ e) in
      record {
        rows = subst (AreShown []) (sym (rows_kept t new keeps)) old.rows;
        own = subst (λ x. All (λ s. AreShown s.ops (rows_of new)) (seen_all x)) (sym keeps.beside.sessions) (subst (λ r. All (λ s. AreShown s.ops r) (seen_all t.sessions)) (sym (rows_kept t new keeps)) old.own);
      });
}

pub stands_kept : (t new : Stored) (w : World) → StandsFor t w → KeepsGroups t new → StandsFor new w
stands_kept t new w stands keeps = record {
  stored = record {
    schema = stands.stored.schema ∙ sym keeps.beside.schema;
    stale = stands.stored.stale ∙ sym keeps.beside.stale;
    groups = stands.stored.groups ∙ sym keeps.groups;
    lists = subst (AreListed w.tier.groups new.stores.items) (sym keeps.hidden) (subst (λ ss. AreListed w.tier.groups ss t.hidden.items) (sym keeps.stores) stands.stored.lists);
    sessions = stands.stored.sessions ∙ ap (λ x. map session_seen (seen_all x)) (sym keeps.beside.sessions);
    unsettled = stands.stored.unsettled ∙ ap (λ u. u.items) (sym keeps.beside.unsettled);
    next = stands.stored.next ∙ sym keeps.beside.next;
    doubt = stands.stored.doubt;
    time = time_kept t new w.tier keeps.beside.clock stands.stored.time;
  };
  shows = rows_kept t new keeps ∙ stands.shows;
  hides = hides_still t new w.history (record { groups = keeps.groups; hidden = keeps.hidden }) stands.hides;
  stands = stands.stands;
  waits = stands.waits;
}

-- a group with a store without rows comes
module _ (t new : Stored) (w w' : World) (g : Group) (s : Kept) (stands : StandsFor t w) (sound : IsSound t) where
  more_groups : (groups : List Group) → map without_list (groups ++ g ∷ []) ≡ map without_list groups ++ without_list g ∷ []
  more_groups groups = map-append without_list groups (g ∷ [])

  not_found : (u : TableId) (groups : List Group) → list_any (covers u) groups ≡ false → find (covers u) groups ≡ None
  not_found u [] e = refl
  not_found u (h ∷ groups) e = by (covers u h) e (not_found u groups)
    where
      by : (b : Bool) → (b || list_any (covers u) groups) ≡ false → (list_any (covers u) groups ≡ false → find (covers u) groups ≡ None) → cond b (Some h) (find (covers u) groups) ≡ None
      by true e rest = cc
      by false e rest = rest e

  -- a table of the new group was shown without rows
  unshown : HasNoTableOf w.tier.groups g → (u : TableId) (p : ℕ) → place_of g.def.tree u ≡ Some p → table_at (shown_state w.history w.tier) u ≡ empty
  unshown apart u p place = none_shown t w sound stands u (not_found u w.tier.groups (apart u (ap is_some place)))

  pub shows_more : new.schema ≡ t.schema → w'.tier.schema ≡ w.tier.schema → w'.tier.groups ≡ w.tier.groups ++ g ∷ [] → new.stores.items ≡ t.stores.items ++ s ∷ [] → shown_state w'.history w'.tier ≡ shown_state w.history w.tier
      → HasNoTableOf w.tier.groups g → IsBareStore t.schema g.def.tree s → ShowsRows new w'
  shows_more schema known groups stores same apart bare =
      let before = are_kept t w.tier sound stands.stored in
      let then = shown_state w'.history w'.tier in
      let own : KeepsOf then g s = λ u p place. bare.rows p ∙ sym (ap (λ z. table_at z u) same ∙ unshown apart u p place) in
      let old : KeepShown w.tier.groups t.stores.items then = λ k h x u p at kept place. kept_is_shown t w sound stands k h x u p at kept place ∙ ap (λ z. table_at z u) (sym same) in
      let all : KeepShown (w.tier.groups ++ g ∷ []) (t.stores.items ++ s ∷ []) then = shown_more t.schema then w.tier.groups t.stores.items g s before old own in
      let are : AreKept t.schema (w.tier.groups ++ g ∷ []) (t.stores.items ++ s ∷ []) = kept_more t.schema w.tier.groups t.stores.items g s before bare.form in
      shows_kept new w' (known ∙ stands.stored.schema ∙ sym schema)
      (subst (λ gs. AreKept new.schema gs new.stores.items) (sym groups) (subst (λ ss. AreKept new.schema (w.tier.groups ++ g ∷ []) ss) (sym stores) (subst (λ defs. AreKept defs (w.tier.groups ++ g ∷ []) (t.stores.items ++ s ∷ [])) (sym schema) are)))
      (subst (λ gs. KeepShown gs new.stores.items then) (sym groups) (subst (λ ss. KeepShown (w.tier.groups ++ g ∷ []) ss then) (sym stores) all))
