-- The lists of keys behind a commit.
use Rattle.std.proofs.Common.{◌≡◌, ℕ, zero, suc, Bool, true, false, cond, not, ◌&&◌, ◌||◌, Option, Some, None, is_some, List, [], ◌∷◌, ◌++◌, fold, length, map, position, slice_get, refl, sym, ap, subst, ◌∙◌}
use Rattle.std.specs.Bool.{MatchBool}
use Rattle.std.specs.FinMap as fm
use Rattle.std.specs.List.{filter, flat_map, list_any}
use Rattle.std.specs.Option.{option_map}
use Rattle.std.proofs.lemmas.List.{length-map, nil_from_length}
use Rattle.row_types.specs.Order.{key_order}
use Rattle.row_types.specs.declared.value.Value.{Value}
use Rattle.tier_base.specs.declared.number.TableId.{TableId}
use Rattle.table_defs.specs.declared.definition.TableDef.{TableDef}
use Rattle.indexed_rows.specs.Rows.{Table, is_same}
use Rattle.indexed_rows.proofs.MapLaws.{slice_get_map}
use Rattle.table_state.specs.declared.operation.Op.{Op}
use Rattle.table_state.specs.Operations.{table_of}
use Rattle.table_state.specs.Tables.{TableState}
use Rattle.instances.specs.Trees.{place_of, same_table}
use Rattle.recency.specs.Rings.{keys_without}
use Rattle.slot_rows.specs.SlotKeys.{RowsHeld}
use Rattle.cache_store.specs.Shown.{is_among}
use Rattle.group_store.specs.Entering.{Keys, entered, entered_by}
use Rattle.group_store.specs.Keeping.{IsFor}
use Rattle.group_store.specs.Shown.{AreHoused}
use Rattle.group_store.specs.Stores.{Kept, ops_done, place_in}
use Rattle.group_store.proofs.CommitLaws.{HasTables, entered_there, touched_all}
use Rattle.group_store.proofs.RootLaws.{by_table}
use Rattle.evaluator.specs.Cascades.{key_in}
use Rattle.indexed_rows.specs.Rows.{key_of}
use Rattle.order_laws.proofs.TruthLaws.{both_true, never_both}
use Rattle.cache_tier.specs.Groups.{Group, covers, has_list, is_key, is_read_only, is_table_of, is_writethrough}
use Rattle.cache_tier.specs.PassedSteps.{with_ticket}
use Rattle.cache_tier.specs.Recency as abstract
use Rattle.cache_tier.specs.Recency.{with_commit}
use Rattle.cache_tier.specs.Shown.{no_rows, root_key}
use Rattle.cache_tier.specs.StandingBetween.{Each, HasCatalog, HaveOwnTables, IsCatalogued, are_written_through}
use Rattle.cache_tier.specs.TierStates.{Tier}
use Rattle.cache_tier.proofs.GroupTables.{IsFound, each_map, each_own, live_at}
use Rattle.cache_tier.proofs.KeyListLaws.{key_append, key_left}
use Rattle.statement_uses.specs.Touching.{HaveEntered, HaveRows, HaveRowsIn, entered_keys, newest_by, newest_stores}
use Rattle.statement_uses.specs.Uses.{keeps_list, keys_at, leaves_by_use}
use Rattle.statement_uses.proofs.TouchLaws.{other_at, other_keys}
use Rattle.session_engine.specs.Using.{Uses}
use Rattle.session_engine.specs.Committing.{StoresCommit, bare_all, ops_at}
use Rattle.session_engine.proofs.CommitPerformed.{kept_bare, whole_bare}
use Rattle.session_engine.proofs.CommittedLaws.{committed_same}
use Rattle.session_engine.proofs.OpStores.{op_absent}
use Rattle.session_engine.proofs.OwnStores.{own_stores}
use Rattle.session_engine.proofs.UsedLists.{by_use, lists_roomed, same_list}
use Rattle.stored_tier.specs.declared.tier.Tier.{Tier as Stored}
use Rattle.stored_tier.specs.Lists.{AreHiding, AreListed, HasKeysOf, IsListed, hides_keys, is_by_time, is_by_use}
use Rattle.stored_tier.specs.Stored.{AreKept, AreWhole, IsSound, IsStoredAs, without_list}
use Rattle.stored_tier.proofs.SoundParts.{housed_exchanged}
use Rattle.stored_tier.proofs.StoreRows.{are_kept, place_same}

abbrev Row : Type 0
Row = List Value

-- what becomes of the keys of a store

newest_keys : (roots : List Row) (s : Kept) → (newest_by roots s).keys ≡ touched_all roots s.keys
newest_keys [] s = refl
newest_keys (k ∷ ks) s = newest_keys ks (record s { keys = keys_without is_same k s.keys ++ k ∷ [] })

abbrev nothing : Keys
nothing = fm.empty

no_keys : fm.keys nothing ≡ []
no_keys =
    nil_from_length (fm.keys nothing)
    (length-map (fm.entries nothing) (λ e. e.0) ∙ sym (fm.len-entries nothing) ∙ fm.len-empty key_order (Unit {0}))

-- operations on tables of other groups leave a store

either : (a b : Bool) → (a || b) ≡ false → (a ≡ false) × (b ≡ false)
either true b e = cc
either false b e = (refl, e)

no_place : (o : Option ℕ) → is_some o ≡ false → o ≡ None
no_place None e = refl
no_place (Some p) e = cc

not_root : (s : Kept) (t : TableId) → place_in s t ≡ None → same_table s.table t ≡ false
not_root s t none = by (same_table s.table t) refl none
  where
    by : (b : Bool) → same_table s.table t ≡ b → cond b (Some 0) (option_map suc (position (λ l. same_table l.table t) s.layers)) ≡ None → same_table s.table t ≡ false
    by true is e = cc
    by false is e = is

module _ (schema : List TableDef) (g : Group) where
  op_apart : (s : Kept) → IsFor schema g.def.tree s → (op : Op) → covers (table_of op) g ≡ false → place_in s (table_of op) ≡ None
  op_apart s form op off = place_same schema g.def.tree s form (table_of op) ∙ no_place (place_of g.def.tree (table_of op)) off

  done_apart : (ops : List Op) (s : Kept) → IsFor schema g.def.tree s → list_any (λ op. covers (table_of op) g) ops ≡ false → ops_done ops s ≡ s
  done_apart [] s form off = refl
  done_apart (op ∷ ops) s form off =
      let parts = either (covers (table_of op) g) (list_any (λ o. covers (table_of o) g) ops) off in
      ap (ops_done ops) (op_absent op s (op_apart s form op parts.0)) ∙ done_apart ops s form parts.1

  fold_apart : (ops : List Op) (s : Kept) (roots : Keys) → IsFor schema g.def.tree s → list_any (λ op. covers (table_of op) g) ops ≡ false → ◌≡◌ {A = Keys} (fold (λ held op. entered_by s op held) roots ops) roots
  fold_apart [] s roots form off = refl
  fold_apart (op ∷ ops) s roots form off =
      let parts = either (covers (table_of op) g) (list_any (λ o. covers (table_of o) g) ops) off in
      ap (λ held. fold (λ h o. entered_by s o h) held ops)
      (by_table s op roots ∙ ap (λ b. cond b (Rattle.group_store.specs.Entering.root_entered s.key op roots) roots) (not_root s (table_of op) (op_apart s form op parts.0)))
      ∙ fold_apart ops s roots form parts.1

  entered_apart : (ops : List Op) (s : Kept) → IsFor schema g.def.tree s → list_any (λ op. covers (table_of op) g) ops ≡ false → entered_keys s ops ≡ []
  entered_apart ops s form off = ap fm.keys (fold_apart ops s nothing form off) ∙ no_keys

-- which keys there are behind a commit

has_entered : (new left old : List Row) (key : Row) → is_key (abstract.with_entered new left old) key ≡ ((is_key old key && not (is_key (left ++ new) key)) || is_key new key)
has_entered new left old key =
    key_append (filter (λ k. not (is_key (left ++ new) k)) old) new key
    ∙ ap (λ b. b || is_key new key) (key_left (λ k. not (is_key (left ++ new) k)) old key)

-- of one group

abbrev NoneHidden : Group → RowsHeld → Type 0
NoneHidden g h = is_writethrough g ≡ true → (key : Row) → fm.contains_key h.table key ≡ false

abbrev IsQuiet : List Op → Group → Type 0
IsQuiet ops g = is_writethrough g ≡ false → list_any (λ op. covers (table_of op) g) ops ≡ false

abbrev HaveNone : List Group → List RowsHeld → Type 0
HaveNone [] hidden = Unit {0}
HaveNone (g ∷ groups) [] = ⊥
HaveNone (g ∷ groups) (h ∷ hidden) = NoneHidden g h × HaveNone groups hidden

heads : (a b : Kept) (more rest : List Kept) → a ∷ more ≡ b ∷ rest → (a ≡ b) × (more ≡ rest)
heads a b more rest e = (cc, cc)

none_at : (place : ℕ) {xs : List Row} → keys_at [] (suc place) ≡ xs → keys_at [] place ≡ xs
none_at zero e = e
none_at (suc place) e = e

own_key : (schema : List TableDef) (state : TableState) (g : Group) (s : Kept) → state.schema ≡ schema → IsFor schema g.def.tree s → (row : Row) → root_key state g row ≡ key_of s.key row
own_key schema state g s same form row =
    ap (λ defs. key_in (slice_get defs g.def.tree.root.table.0) row) same ∙ by (slice_get schema g.def.tree.root.table.0)
    ∙ ap (λ places. key_of places row) (sym form.key)
  where
    by : (o : Option TableDef) → key_in o row ≡ key_of (Rattle.std.specs.Prelude.unwrap_or (option_map (λ (def : TableDef). def.primary_key) o) []) row
    by None = refl
    by (Some def) = refl

module _ (schema : List TableDef) (state : TableState) (same : state.schema ≡ schema) (ops : List Op) where
  one_committed : (g : Group) (s n : Kept) (h : RowsHeld) (own : List Row) → IsFor schema g.def.tree s → own ≡ cond (keeps_list g) (entered_keys s ops) [] → n.keys ≡ touched_all own (ops_done ops s).keys
      → NoneHidden g h → IsQuiet ops g → IsListed g s h.table → IsListed (with_commit state ops g) n h.table
  one_committed g s n h own form its keys_then none quiet listed = by (is_writethrough g) refl
    where
      become : List Row
      become = abstract.with_entered (fm.keys (abstract.entered state g ops)) (flat_map (abstract.left_by state g) ops) g.keys

      keyed : (row : Row) → root_key state g row ≡ key_of s.key row
      keyed = own_key schema state g s same form

      -- where the list counts
      counts : keeps_list g ≡ true → n.keys ≡ touched_all (entered_keys s ops) (ops_done ops s).keys
      counts on = keys_then ∙ ap (λ l. touched_all l (ops_done ops s).keys) (its ∙ ap (λ b. cond b (entered_keys s ops) []) on)

      ordered : (has_list g && is_by_use g.def.aging) ≡ true → g.keys ≡ s.keys → become ≡ n.keys
      ordered on is =
          committed_same state g s form.table keyed ops g.keys is
          ∙ sym (counts (or_true g.def.dynamic (has_list g && leaves_by_use g.def.aging) (ap (λ b. has_list g && b) (sym (by_use g.def.aging)) ∙ on)))
        where
          or_true : (a b : Bool) → b ≡ true → (a || b) ≡ true
          or_true true b e = refl
          or_true false b e = e

      any_order : is_writethrough g ≡ true → (d : Bool) → g.def.dynamic ≡ d → MatchBool d (HasKeysOf g.keys s h.table) (Unit {0}) → MatchBool d (HasKeysOf become n h.table) (Unit {0})
      any_order on false is has = tt
      any_order on true is has = λ key.
          let new = fm.keys (abstract.entered state g ops) in
          let left = flat_map (abstract.left_by state g) ops in
          has_entered new left g.keys key
          ∙ ap (λ b. (b && not (is_key (left ++ new) key)) || is_key new key) (has key ∙ ap (λ b. is_key s.keys key || b) (none on key) ∙ no_more (is_key s.keys key))
          ∙ sym (has_entered new left s.keys key)
          ∙ ap (λ l. is_key l key) (committed_same state g s form.table keyed ops s.keys refl ∙ sym (counts (ap (λ b. b || (has_list g && leaves_by_use g.def.aging)) is)))
          ∙ sym (ap (λ b. is_key n.keys key || b) (none on key) ∙ no_more (is_key n.keys key))
        where
          no_more : (b : Bool) → (b || false) ≡ b
          no_more true = refl
          no_more false = refl

      written : is_writethrough g ≡ true → (b : Bool) → (has_list g && is_by_use g.def.aging) ≡ b → MatchBool b (g.keys ≡ s.keys) (MatchBool g.def.dynamic (HasKeysOf g.keys s h.table) (Unit {0}))
          → MatchBool b (become ≡ n.keys) (MatchBool g.def.dynamic (HasKeysOf become n h.table) (Unit {0}))
      written on true is it = ordered is it
      written on false is it = any_order on g.def.dynamic refl it

      -- where nothing is written
      stays : is_writethrough g ≡ false → n.keys ≡ s.keys
      stays off =
          keys_then ∙ ap (λ l. touched_all l (ops_done ops s).keys) (its ∙ both (keeps_list g))
          ∙ ap (λ (k : Kept). k.keys) (done_apart schema g ops s form (quiet off))
        where
          both : (b : Bool) → cond b (entered_keys s ops) [] ≡ []
          both true = entered_apart schema g ops s form (quiet off)
          both false = refl

      by : (b : Bool) → is_writethrough g ≡ b → IsListed (cond b (record g { keys = become }) g) n h.table
      by true on = written on (has_list g && is_by_use g.def.aging) refl listed
      by false off = same_list g s n h.table (stays off) listed

  -- of all groups

  all_committed : (groups : List Group) (olds news : List Kept) (hidden : List RowsHeld) (uses : Uses) → AreKept schema groups olds → HaveNone groups hidden → Each (IsQuiet ops) groups → HaveEntered groups olds ops uses → news ≡ newest_stores uses (map (ops_done ops) olds)
      → AreListed groups olds hidden → AreListed (map (with_commit state ops) groups) news hidden
  all_committed [] olds news hidden uses kept none quiet have is listed = tt
  all_committed (g ∷ groups) [] news hidden uses kept none quiet have is listed = absurd kept
  all_committed (g ∷ groups) (s ∷ olds) news [] uses kept none quiet have is listed = absurd none
  all_committed (g ∷ groups) (s ∷ olds) [] (h ∷ hidden) [] kept none quiet have is listed = cc
  all_committed (g ∷ groups) (s ∷ olds) [] (h ∷ hidden) (own ∷ uses) kept none quiet have is listed = cc
  all_committed (g ∷ groups) (s ∷ olds) (n ∷ news) (h ∷ hidden) [] kept none quiet have is listed =
      let both = heads n (ops_done ops s) news (map (ops_done ops) olds) is in (
        one_committed g s n h [] kept.0 (have 0 g s refl refl) (ap (λ (k : Kept). k.keys) both.0) none.0 quiet.0 listed.0,
        all_committed groups olds news hidden [] kept.1 none.1 quiet.1 (λ place x y at there. none_at place (have (suc place) x y at there)) both.1 listed.1,
      )
  all_committed (g ∷ groups) (s ∷ olds) (n ∷ news) (h ∷ hidden) (own ∷ uses) kept none quiet have is listed =
      let both = heads n (newest_by own (ops_done ops s)) news (newest_stores uses (map (ops_done ops) olds)) is in (
        one_committed g s n h own kept.0 (have 0 g s refl refl) (ap (λ (k : Kept). k.keys) both.0 ∙ newest_keys own (ops_done ops s)) none.0 quiet.0 listed.0,
        all_committed groups olds news hidden uses kept.1 none.1 quiet.1 (λ place x y at there. have (suc place) x y at there) both.1 listed.1,
      )

-- each key that is entered has its row

some_tables : (ts : List Table) (n : ℕ) → length ts ≡ suc n → (m : Table) × (more : List Table) × (ts ≡ m ∷ more)
some_tables [] n e = cc
some_tables (m ∷ more) n e = (m, more, refl)

one_rows : (g : Group) (s : Kept) (roots : List Row) (ops : List Op) → HasTables s → roots ≡ cond (keeps_list g) (entered_keys s ops) [] → HaveRows roots (ops_done ops s)
one_rows g s roots ops tables its key among = by (keeps_list g) (sym (ap (λ l. is_among l key) its) ∙ among)
  where
    by : (b : Bool) → is_among (cond b (entered_keys s ops) []) key ≡ true → fm.contains_key (Rattle.instances.specs.Views.kept_at (ops_done ops s).tables 0) key ≡ true
    by true in_it = entered_there s ops tables key in_it
    by false in_it = cc

rows_entered : (schema : List TableDef) (groups : List Group) (olds : List Kept) (uses : Uses) (ops : List Op) → AreKept schema groups olds → AreWhole olds → HaveEntered groups olds ops uses → HaveRowsIn uses (map (ops_done ops) olds)
rows_entered schema groups [] uses ops kept whole have place x at = cc
rows_entered schema [] (s ∷ olds) uses ops kept whole have place x at = absurd kept
rows_entered schema (g ∷ groups) (s ∷ olds) uses ops kept whole have zero x at =
    let is : ops_done ops s ≡ x = cc in
    subst (HaveRows (keys_at uses 0)) is (one_rows g s (keys_at uses 0) ops (some_tables s.tables (length s.layers) (whole 0 s refl)) (have 0 g s refl refl))
rows_entered schema (g ∷ groups) (s ∷ olds) uses ops kept whole have (suc place) x at =
    subst (λ roots. HaveRows roots x) (sym (other_at uses place))
    (rows_entered schema groups olds (other_keys uses) ops kept.1 (λ k y there. whole (suc k) y there) (λ k y z here there. sym (other_at uses k) ∙ have (suc k) y z here there) place x at)

-- groups but for their lists

have_bare : (groups : List Group) (stores : List Kept) (ops : List Op) (uses : Uses) → HaveEntered (map without_list groups) stores ops uses → HaveEntered groups stores ops uses
have_bare groups stores ops uses have place g s at there = have place (without_list g) s (slice_get_map without_list groups place g at) there

none_hides : (g : Group) → is_writethrough g ≡ true → hides_keys g ≡ false
none_hides g on = by (is_read_only g) on
  where
    by : (b : Bool) → not b ≡ true → ((b && g.def.dynamic) && is_by_time g.def.aging) ≡ false
    by true e = cc
    by false e = refl

none_in : (schema : List TableDef) (groups : List Group) (stores : List Kept) (hidden : List RowsHeld) → AreHiding schema (map without_list groups) stores hidden → HaveNone groups hidden
none_in schema [] stores hidden are = tt
none_in schema (g ∷ groups) stores [] are = absurd are
none_in schema (g ∷ groups) [] (h ∷ hidden) are = absurd are
none_in schema (g ∷ groups) (s ∷ stores) (h ∷ hidden) are = (
  λ on key. ap (λ (m : Table). fm.contains_key m key) (are.0.none (none_hides g on)) ∙ ap is_some (fm.get-empty key_order key),
  none_in schema groups stores hidden are.1,
)

-- writes are on tables of writethrough groups, and no table is in two groups
quiet_group : (groups : List Group) (g : Group) → HaveOwnTables groups → IsFound groups g → (ops : List Op) → are_written_through groups ops ≡ true → IsQuiet ops g
quiet_group groups g own found [] through off = refl
quiet_group groups g own found (op ∷ ops) through off = by (covers (table_of op) g) refl (quiet_group groups g own found ops parts.1 off)
  where
    parts : (is_table_of is_writethrough groups (table_of op) ≡ true) × (are_written_through groups ops ≡ true)
    parts = both_true (is_table_of is_writethrough groups (table_of op)) (are_written_through groups ops) through

    by : (b : Bool) → covers (table_of op) g ≡ b → list_any (λ o. covers (table_of o) g) ops ≡ false → (b || list_any (λ o. covers (table_of o) g) ops) ≡ false
    by false is rest = rest
    by true is rest =
        let live = live_at groups (table_of op) own parts.0 in
        let both : Some g ≡ Some live.group = sym (found (table_of op) is) ∙ live.found in
        let one : g ≡ live.group = cc in
        absurd (never_both (is_writethrough g) (ap is_writethrough one ∙ live.through) off)

bare_twice : (stores : List Kept) → bare_all (bare_all stores) ≡ bare_all stores
bare_twice [] = refl
bare_twice (s ∷ stores) = ap (λ l. Rattle.session_engine.specs.Committing.bare s ∷ l) (bare_twice stores)

-- behind a commit of writes on tables of writethrough groups
pub lists_committed : (t : Stored) (a : Tier) (stores : List Kept) (ops : List Op) → IsSound t → IsStoredAs t a → HasCatalog a → are_written_through a.groups ops ≡ true → StoresCommit t ops stores
    → AreListed (map (with_commit (no_rows (with_ticket a)) ops) a.groups) stores t.hidden.items
lists_committed t a stores ops sound is catalog through commit =
    lists_roomed (map (with_commit (no_rows (with_ticket a)) ops) a.groups) (bare_all stores) stores t.hidden.items (sym (bare_twice stores))
    (all_committed t.schema (no_rows (with_ticket a)) is.schema ops a.groups olds (bare_all stores) t.hidden.items commit.entered kept
    (none_in t.schema a.groups t.stores.items t.hidden.items (subst (λ gs. AreHiding t.schema gs t.stores.items t.hidden.items) (sym is.groups) sound.hiding))
    (each_map (IsFound a.groups) (IsQuiet ops) (λ g found. quiet_group a.groups g catalog.apart found ops through) a.groups (each_own a.groups catalog.apart))
    have news
    (lists_roomed a.groups t.stores.items olds t.hidden.items (bare_twice t.stores.items) is.lists))
  where
    olds : List Kept
    olds = bare_all t.stores.items

    full : AreKept t.schema a.groups t.stores.items
    full = are_kept t a sound is

    kept : AreKept t.schema a.groups olds
    kept = kept_bare t.schema a.groups t.stores.items full

    housed : AreHoused t.schema olds t.directory
    housed = housed_exchanged t.schema a.groups t.stores.items olds t.directory sound.stores full kept

    made : ops_at t.directory ops olds ≡ map (ops_done ops) olds
    made = own_stores t.schema a.groups t.directory ops olds housed kept catalog.apart (subst (λ defs. Each (IsCatalogued defs) a.groups) is.schema catalog.each) through

    have : HaveEntered a.groups olds ops commit.entered
    have = have_bare a.groups olds ops commit.entered (subst (λ gs. HaveEntered gs olds ops commit.entered) (sym is.groups) commit.have)

    rows : HaveRowsIn commit.entered (ops_at t.directory ops olds)
    rows = subst (HaveRowsIn commit.entered) (sym made) (rows_entered t.schema a.groups olds commit.entered ops kept (whole_bare t.stores.items sound.whole) have)

    news : bare_all stores ≡ newest_stores commit.entered (map (ops_done ops) olds)
    news = commit.does.newest rows ∙ ap (newest_stores commit.entered) made
