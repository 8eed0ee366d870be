-- A session commits.
use Rattle.std.proofs.Common.{◌≡◌, ℕ, ◌+◌, ◌≤◌, ◌^◌, Bool, true, false, cond, not, ◌&&◌, ◌||◌, nat_eq, Option, Some, None, is_some, List, [], ◌∷◌, ◌++◌, length, slice_get, unwrap_or, refl, sym, ap, subst, ◌∙◌, arith, append_assoc, eq-eqb, eqb-true}
use Rattle.std.proofs.lemmas.List.{append-nil}
use Rattle.std.specs.Option.{option_and_then}
use Rattle.std.specs.List.{find, flat_map, fold, list_all}
use Rattle.std.specs.FinMap as fm
use Rattle.std.specs.FinMap.{empty}
use Rattle.tier_base.specs.declared.number.TableId.{TableId}
use Rattle.table_defs.specs.declared.definition.TableDef.{TableDef}
use Rattle.indexed_rows.specs.Rows.{Table, is_same, key_of}
use Rattle.indexed_rows.proofs.EntryLaws.{same_values}
use Rattle.table_state.specs.declared.history.Entry.{Entry}
use Rattle.table_state.specs.declared.history.Sealed.{Sealed}
use Rattle.table_state.specs.declared.operation.Op.{Op}
use Rattle.table_state.specs.declared.operation.Op.TheVariants.{Delete, Insert, Update}
use Rattle.table_state.specs.Copies.{is_one_of}
use Rattle.table_state.specs.Histories.{state_at}
use Rattle.table_state.specs.Operations.{applied, applied_all, table_of}
use Rattle.table_state.specs.Tables.{TableState, table_at}
use Rattle.table_state.proofs.IndependenceLaws.{all_whole, stays_beside}
use Rattle.instances.specs.Trees.{place_of}
use Rattle.instances.specs.Views.{kept_at}
use Rattle.order_laws.specs.Commits.{is_op_on, virtual_state}
use Rattle.order_laws.specs.Effects.{row_at, row_left_by}
use Rattle.order_laws.specs.Sides.{are_on}
use Rattle.order_laws.specs.Standing.{are_on_defined, live_tables, progress_of}
use Rattle.order_laws.proofs.NextLaws.{all_defined}
use Rattle.order_laws.proofs.StepLaws.{key_in, parts, row_after}
use Rattle.order_laws.proofs.TableLaws.{footprint_later, known_where_applied}
use Rattle.order_laws.proofs.TruthLaws.{both_true, never_both, not_both, same_some}
use Rattle.order_laws.specs.OpenWrites.{AllApply, Applies, NoneMeet, OpenWrites, meet_none}
use Rattle.order_laws.specs.Pipelines.{FlowsAs}
use Rattle.order_laws.proofs.FlowLaws.{flow_commits}
use Rattle.order_laws.proofs.OpenLaws.{open_commit}
use Rattle.cache_tier.specs.declared.group.GroupDef.{GroupDef}
use Rattle.cache_tier.specs.CommitSteps.{committed_unsettled, sealed_own}
use Rattle.cache_tier.specs.Groups.{Group, covers, group_over, is_key, is_read_only, is_writethrough}
use Rattle.cache_tier.specs.Recency.{entered, entered_by, left_by, with_commit, with_entered}
use Rattle.cache_tier.specs.Shown.{no_rows, root_key, shown, shown_state, shown_where, table_of_group}
use Rattle.cache_tier.specs.Standing.{KnowsSchema}
use Rattle.cache_tier.specs.TierStates.{Session, Tier, at_rest, session_of}
use Rattle.cache_tier.specs.Worlds.{World}
use Rattle.cache_tier.proofs.ApartLaws.{commit}
use Rattle.cache_tier.proofs.PositionLaws.{commit_lessens, map_one}
use Rattle.cache_tier.specs.StandingBetween.{AreReadAt, Each, HasCatalog, HasKeys, HaveOwnLabels, HaveWritten, IsCatalogued, IsReadWithin, Stands, are_written_through, live_groups_of, own_writes, progress_in}
use Rattle.cache_tier.specs.Events.{TakesOwn, with_tier}
use Rattle.cache_tier.proofs.GroupPairs.{FoundBoth, IsKept, NoGroup, OneGroup, Pairs, all_same_through, catalogued_kept, found_both, own_tables_kept, pairs_each, pairs_mapped, same_live}
use Rattle.cache_tier.proofs.GroupTables.{LiveTable, each_found, live_table, over_is_found, through_live, through_on}
use Rattle.cache_tier.proofs.HistoryKeeps.{each_both, root_covers}
use Rattle.cache_tier.proofs.KeyListLaws.{key_append, key_entered, key_in_map, map_with, map_without}
use Rattle.cache_tier.proofs.PartLaws.{IsClosedPart, Row, between, parts_after}
use Rattle.cache_tier.proofs.SessionLaws.{Known, known}
use Rattle.cache_tier.proofs.SessionLists.{AmongSessions, all_at, all_with, among_sessions, applies_at, changed_session, labels_changed, own_middle}
use Rattle.cache_tier.proofs.ShownTables.{from_length, live_of, no_table_shown, one_live, part_shown, root_shown, same_part, same_rows, same_state, shown_whole, table_shown}
use Rattle.cache_tier.proofs.SoundStates.{IsSoundState, sound_ops}

-- What holds behind a change of the virtual state.
pub stands_by : (w : World) (n : TableState) (f : FlowsAs (progress_in w) w.tier.unsettled n) → KnowsSchema w → HasCatalog w.tier → Each (HasKeys n) w.tier.groups → AreReadAt (length w.history) w.tier.groups
    → HaveWritten n (shown_state w.history w.tier) w.tier.groups w.tier.sessions → Stands w
stands_by w n f schema catalog keys read sessions = record {
  flow = f.flow;
  schema = schema;
  catalog = catalog;
  keys = subst (λ v. Each (HasKeys v) w.tier.groups) (sym f.same) keys;
  read = read;
  sessions = subst (λ v. HaveWritten v (shown_state w.history w.tier) w.tier.groups w.tier.sessions) (sym f.same) sessions;
}

-- conflicts are the same over a longer schema

meets_later : (schema more : List TableDef) (own : List Op) (owns : List (List Op)) → are_on_defined schema own ≡ true → list_all (are_on_defined schema) owns ≡ true → meet_none (schema ++ more) own owns ≡ meet_none schema own owns
meets_later schema more own [] d all = refl
meets_later schema more own (b ∷ owns) d all =
    let (first, rest) = both_true (are_on_defined schema b) (list_all (are_on_defined schema) owns) all in
    λ i. not (Rattle.table_state.specs.Footprints.conflict (footprint_later schema more own d i) (footprint_later schema more b first i)) && meets_later schema more own owns d rest i

pub none_meet_later : (schema more : List TableDef) (owns : List (List Op)) → list_all (are_on_defined schema) owns ≡ true → NoneMeet schema owns → NoneMeet (schema ++ more) owns
none_meet_later schema more [] all x = tt
none_meet_later schema more (own ∷ owns) all x =
    let (first, rest) = both_true (are_on_defined schema own) (list_all (are_on_defined schema) owns) all in
    (meets_later schema more own owns first rest ∙ x.0, none_meet_later schema more owns rest x.1)

pub all_known : (s : TableState) (owns : List (List Op)) → AllApply s owns → list_all (are_on_defined s.schema) owns ≡ true
all_known s [] all = refl
all_known s (own ∷ owns) all = λ i. known_where_applied own s all.0.top all.0.leads i && all_known s owns all.1 i

-- the sessions' writes over the virtual state, of which none conflict
pub open_virtual : (w : World) (x : Stands w) → OpenWrites x.flow.stand.over.virtual (own_writes w.tier.sessions)
open_virtual w x =
    let k = known w x in
    record {
      apply = x.sessions.virtual;
      apart = subst (λ d. NoneMeet d (own_writes w.tier.sessions)) (sym k.front)
          (none_meet_later w.tier.schema k.more (own_writes w.tier.sessions) (all_known (shown_state w.history w.tier) (own_writes w.tier.sessions) x.sessions.shown.apply) x.sessions.shown.apart);
    }

-- the keys of roots that are shown, along operations

eq_turned : (a b : ℕ) → nat_eq a b ≡ nat_eq b a
eq_turned a b = by (nat_eq a b) refl (nat_eq b a) refl
  where
    by : (p : Bool) → nat_eq a b ≡ p → (q : Bool) → nat_eq b a ≡ q → p ≡ q
    by true x true y = refl
    by true x false y = let z : nat_eq b a ≡ true = eq-eqb b a (sym (eqb-true a b x)) in Prim.cc
    by false x true y = let z : nat_eq a b ≡ true = eq-eqb a b (sym (eqb-true b a y)) in Prim.cc
    by false x false y = refl

module _ (schema : TableState) (g : Group) where
  abbrev root : TableId
  root = g.def.tree.root.table

  abbrev Tells : TableState → List Row → Table → Type 0
  Tells s left rows = (k : Row) → is_some (row_at s root k) ≡ ((is_key g.keys k && not (is_key left k)) || fm.contains_key rows k)

  tells_on : (op : Op) (s n : TableState) (left : List Row) (rows : Table) → slice_get schema.schema root.0 ≡ slice_get s.schema root.0 → applied op s ≡ Some n → Tells s left rows → Tells n (left ++ left_by schema g op) (entered_by schema g op rows)
  tells_on op s n left rows same is tells k = ap is_some (row_after op s n (parts op s n is) root k) ∙ by op is (nat_eq (table_of op).0 root.0) refl
    where
      def_of : (o : Op) → (table_of o).0 ≡ root.0 → (d : TableDef) → slice_get s.schema (table_of o).0 ≡ Some d → slice_get schema.schema root.0 ≡ Some d
      def_of o e d is = same ∙ ap (slice_get s.schema) (sym e) ∙ is

      off : (b : Bool) → is_some (cond (false && b) None (row_at s root k)) ≡ is_some (row_at s root k)
      off b = refl

      nothing_more : (l : List Row) → l ++ [] ≡ l
      nothing_more l = append-nil l

      by : (o : Op) (h : applied o s ≡ Some n) → (b : Bool) → nat_eq (table_of o).0 root.0 ≡ b
          → is_some (cond (nat_eq (table_of o).0 root.0 && is_same k (key_in (parts o s n h).def o)) (row_left_by o) (row_at s root k)) ≡ ((is_key g.keys k && not (is_key (left ++ left_by schema g o) k)) || fm.contains_key (entered_by schema g o rows) k)
      by (Insert t row) h false e =
          ap (λ b. is_some (cond (b && is_same k (key_of (parts (Insert t row) s n h).def.primary_key row)) (Some row) (row_at s root k))) e ∙ tells k
          ∙ sym (ap (λ b. (is_key g.keys k && not (is_key (left ++ []) k)) || fm.contains_key (cond b (fm.insert rows (root_key schema g row) row) rows) k) (eq_turned root.0 t.0 ∙ e) ∙ ap (λ l. (is_key g.keys k && not (is_key l k)) || fm.contains_key rows k) (nothing_more left))
      by (Insert t row) h true e =
          let a = parts (Insert t row) s n h in
          let key : root_key schema g row ≡ key_of a.def.primary_key row = ap (λ o. Rattle.evaluator.specs.Cascades.key_in o row) (def_of (Insert t row) (eqb-true t.0 root.0 e) a.def a.defined) in
          ap (λ b. is_some (cond (b && is_same k (key_of a.def.primary_key row)) (Some row) (row_at s root k))) e
          ∙ of (is_same k (key_of a.def.primary_key row)) (is_key g.keys k && not (is_key left k)) (fm.contains_key rows k) (is_some (row_at s root k)) (row_at s root k) refl (tells k)
          ∙ sym (ap (λ b. (is_key g.keys k && not (is_key (left ++ []) k)) || fm.contains_key (cond b (fm.insert rows (root_key schema g row) row) rows) k) (eq_turned root.0 t.0 ∙ e)
          ∙ ap (λ l. (is_key g.keys k && not (is_key l k)) || fm.contains_key (fm.insert rows (root_key schema g row) row) k) (nothing_more left)
          ∙ ap (λ b. (is_key g.keys k && not (is_key left k)) || b) (map_with rows (root_key schema g row) row k ∙ ap (λ q. is_same k q || fm.contains_key rows k) key))
        where
          of : (b o r z : Bool) (f : Option Row) → is_some f ≡ z → z ≡ (o || r) → is_some (cond b (Some row) f) ≡ (o || (b || r))
          of true true r z f x y = refl
          of true false r z f x y = refl
          of false o r z f x y = x ∙ y
      by (Update t old row) h false e =
          ap (λ b. is_some (cond (b && is_same k (key_of (parts (Update t old row) s n h).def.primary_key row)) (Some row) (row_at s root k))) e ∙ tells k
          ∙ sym (ap (λ l. (is_key g.keys k && not (is_key l k)) || fm.contains_key rows k) (nothing_more left))
      by (Update t old row) h true e =
          let a = parts (Update t old row) s n h in
          ap (λ b. is_some (cond (b && is_same k (key_of a.def.primary_key row)) (Some row) (row_at s root k))) e
          ∙ of (is_same k (key_of a.def.primary_key row)) refl (row_at s root k) refl
          ∙ tells k ∙ sym (ap (λ l. (is_key g.keys k && not (is_key l k)) || fm.contains_key rows k) (nothing_more left))
        where
          had : is_some (row_at s root (key_of (parts (Update t old row) s n h).def.primary_key row)) ≡ true
          had =
              let a = parts (Update t old row) s n h in
              ap (λ i. is_some (fm.get (unwrap_or (slice_get s.tables i) empty) (key_of a.def.primary_key row))) (sym (eqb-true t.0 root.0 e))
              ∙ ap (λ (m : Table). is_some (fm.get m (key_of a.def.primary_key row))) (sym (Rattle.cache_tier.proofs.PartLaws.table_is s t a.table a.there))
              ∙ Rattle.cache_tier.proofs.PartLaws.found_before (Update t old row) s a.def a.table a.asked

          of : (b : Bool) → is_same k (key_of (parts (Update t old row) s n h).def.primary_key row) ≡ b → (f : Option Row) → row_at s root k ≡ f → is_some (cond b (Some row) f) ≡ is_some f
          of true x f y = sym (ap is_some (sym y) ∙ ap (λ q. is_some (row_at s root q)) (same_values k (key_of (parts (Update t old row) s n h).def.primary_key row) x) ∙ had)
          of false x f y = refl
      by (Delete t old) h false e =
          ap (λ b. is_some (cond (b && is_same k (key_of (parts (Delete t old) s n h).def.primary_key old)) None (row_at s root k))) e ∙ tells k
          ∙ sym (ap (λ b. (is_key g.keys k && not (is_key (left ++ cond b (root_key schema g old ∷ []) []) k)) || fm.contains_key (cond b (fm.remove rows (root_key schema g old)) rows) k) (eq_turned root.0 t.0 ∙ e) ∙ ap (λ l. (is_key g.keys k && not (is_key l k)) || fm.contains_key rows k) (nothing_more left))
      by (Delete t old) h true e =
          let a = parts (Delete t old) s n h in
          let key : root_key schema g old ≡ key_of a.def.primary_key old = ap (λ o. Rattle.evaluator.specs.Cascades.key_in o old) (def_of (Delete t old) (eqb-true t.0 root.0 e) a.def a.defined) in
          ap (λ b. is_some (cond (b && is_same k (key_of a.def.primary_key old)) None (row_at s root k))) e
          ∙ of (is_same k (key_of a.def.primary_key old)) (is_key g.keys k) (is_key left k) (fm.contains_key rows k) (is_some (row_at s root k)) (row_at s root k) refl (tells k)
          ∙ sym (ap (λ b. (is_key g.keys k && not (is_key (left ++ cond b (root_key schema g old ∷ []) []) k)) || fm.contains_key (cond b (fm.remove rows (root_key schema g old)) rows) k) (eq_turned root.0 t.0 ∙ e)
          ∙ (λ i. (is_key g.keys k && not ((key_append left (root_key schema g old ∷ []) k ∙ ap (λ q. is_key left k || (is_same k q || false)) key) i)) || (map_without rows (root_key schema g old) k ∙ ap (λ q. not (is_same k q) && fm.contains_key rows k) key) i))
        where
          of : (b o l r z : Bool) (f : Option Row) → is_some f ≡ z → z ≡ ((o && not l) || r) → is_some (cond b None f) ≡ ((o && not (l || (b || false))) || (not b && r))
          of true true true r z f x y = refl
          of true true false r z f x y = refl
          of true false l r z f x y = refl
          of false true true r z f x y = x ∙ y
          of false true false r z f x y = x ∙ y
          of false false l r z f x y = x ∙ y

  tells_all : (ops : List Op) (s n : TableState) (left : List Row) (rows : Table) → slice_get schema.schema root.0 ≡ slice_get s.schema root.0 → applied_all ops s ≡ Some n → Tells s left rows → Tells n (left ++ flat_map (left_by schema g) ops) (fold (λ m op. entered_by schema g op m) rows ops)
  tells_all [] s n left rows same is tells =
      let e : s ≡ n = Prim.cc in
      subst (λ l. Tells n l rows) (sym (append-nil left)) (subst (λ x. Tells x left rows) e tells)
  tells_all (op ∷ ops) s n left rows same is tells =
      let (x, x_is, x_on) = between (applied_all ops) (applied op s) n is in
      subst (λ l. Tells n l (fold (λ m op. entered_by schema g op m) (entered_by schema g op rows) ops)) (append_assoc left (left_by schema g op) (flat_map (left_by schema g) ops))
      (tells_all ops x n (left ++ left_by schema g op) (entered_by schema g op rows) (same ∙ ap (λ l. slice_get l root.0) (sym (Rattle.table_state.proofs.IndependenceLaws.stays_defined op s x x_is))) x_on (tells_on op s x left rows same x_is tells))

  -- the keys behind a commit are those of the roots that are shown then
  pub keys_behind : (ops : List Op) (s n : TableState) → is_writethrough g ≡ true → slice_get schema.schema root.0 ≡ slice_get s.schema root.0 → applied_all ops s ≡ Some n → ((k : Row) → is_some (row_at s root k) ≡ is_key g.keys k)
      → (k : Row) → is_key (with_commit schema ops g).keys k ≡ is_some (row_at n root k)
  keys_behind ops s n through same is began k =
      ap (λ b. is_key (cond b (record g { keys = with_entered (fm.keys (entered schema g ops)) (flat_map (left_by schema g) ops) g.keys }) g).keys k) through
      ∙ key_entered (fm.keys (entered schema g ops)) (flat_map (left_by schema g) ops) g.keys k
      ∙ ap (λ b. (is_key g.keys k && not (is_key (flat_map (left_by schema g) ops) k)) || b) (key_in_map (entered schema g ops) k)
      ∙ sym (tells_all ops s n [] empty same is (λ q. began q ∙ start (is_key g.keys q) (fm.contains_key (empty {R = Rattle.row_types.specs.Order.key_order}) q) (ap is_some (fm.get-empty Rattle.row_types.specs.Order.key_order q))) k)
    where
      start : (o r : Bool) → r ≡ false → o ≡ ((o && true) || r)
      start true r e = refl
      start false r e = sym e

pub commit_kept : (schema : TableState) (ops : List Op) (g : Group) → IsKept g (with_commit schema ops g)
commit_kept schema ops g = by (is_writethrough g)
  where
    by : (b : Bool) → IsKept g (cond b (record g { keys = with_entered (fm.keys (entered schema g ops)) (flat_map (left_by schema g) ops) g.keys }) g)
    by true = record { def = refl; first = refl }
    by false = record { def = refl; first = refl }

pub commit_position : (schema : TableState) (ops : List Op) (g : Group) → (with_commit schema ops g).position ≡ g.position
commit_position schema ops g = by (is_writethrough g)
  where
    by : (b : Bool) → (cond b (record g { keys = with_entered (fm.keys (entered schema g ops)) (flat_map (left_by schema g) ops) g.keys }) g).position ≡ g.position
    by true = refl
    by false = refl

ops_beside : (on : List TableId) (ops : List Op) (s n : TableState) (u : TableId) → are_on on ops ≡ true → is_one_of on u ≡ false → applied_all ops s ≡ Some n → table_at n u ≡ table_at s u
ops_beside on [] s n u mine off is = let e : s ≡ n = Prim.cc in ap (λ (x : TableState). table_at x u) (sym e)
ops_beside on (op ∷ ops) s n u mine off is =
    let (x, x_is, x_on) = between (applied_all ops) (applied op s) n is in
    let (first, rest) = both_true (is_op_on on op) (are_on on ops) mine in
    ops_beside on ops x n u rest off x_on
    ∙ stays_beside op u s x (not_both (nat_eq (table_of op).0 u.0) (λ e. never_both (is_one_of on u) (ap (is_one_of on) (sym (Rattle.cache_tier.proofs.ShownTables.same_id (table_of op) u (eqb-true (table_of op).0 u.0 e))) ∙ first) off)) x_is

-- what a read-only group shows doesn't hang on the committed transactions
pub read_only_shown : (h : List Entry) (log others : List Sealed) (g : Group) → is_read_only g ≡ true → shown h log g ≡ shown h others g
read_only_shown h log others g e =
    ap (λ b. shown_where (cond b (option_and_then (state_at h) g.position) (virtual_state h log)) g) e
    ∙ sym (ap (λ b. shown_where (cond b (option_and_then (state_at h) g.position) (virtual_state h others)) g) e)

cond_same : (b : Bool) (o p : Option Row) → (b ≡ true → p ≡ o) → (b ≡ false → None ≡ o) → cond b p None ≡ o
cond_same true o p yes_ no_ = yes_ refl
cond_same false o p yes_ no_ = no_ refl

-- A session's transaction commits, and is unsettled.
module _ (w : World) (s : Session) (x : Stands w) (there : session_of w.tier s.label ≡ Some s) (room : w.tier.next + 1 ≤ 2 ^ 63) where
  abbrev own : List Op
  own = s.own

  abbrev v : TableState
  v = x.flow.stand.over.virtual

  abbrev shown_before : TableState
  shown_before = shown_state w.history w.tier

  abbrev after : Tier
  after = committed_unsettled (sealed_own w.tier s) s.label w.tier

  abbrev committing : Group → Group
  committing = with_commit (no_rows w.tier) own

  abbrev IsCommitted : Group → Group → Type 0
  IsCommitted g h = h ≡ committing g

  kept_one : (g h : Group) → IsCommitted g h → IsKept g h
  kept_one g h e = subst (IsKept g) (sym e) (commit_kept (no_rows w.tier) own g)

  pairs : Pairs IsCommitted w.tier.groups after.groups
  pairs = pairs_mapped IsCommitted committing (λ g. refl) w.tier.groups

  kept : Pairs IsKept w.tier.groups after.groups
  kept = pairs_mapped IsKept committing (commit_kept (no_rows w.tier) own) w.tier.groups

  among : AmongSessions w.tier.sessions s
  among = among_sessions w.tier.sessions s x.sessions.labels there

  abbrev before : List (List Op)
  before = own_writes among.before

  abbrev behind : List (List Op)
  behind = own_writes among.behind

  owns : own_writes w.tier.sessions ≡ before ++ own ∷ behind
  owns = ap own_writes among.is ∙ own_middle among.before s among.behind

  through : are_written_through w.tier.groups own ≡ true
  through = all_at (are_written_through w.tier.groups) before own behind (ap (list_all (are_written_through w.tier.groups)) (sym owns) ∙ x.sessions.through)

  mine : Applies shown_before own
  mine = applies_at shown_before before own behind (subst (AllApply shown_before) owns x.sessions.shown.apply)

  its : Applies v own
  its = applies_at v before own behind (subst (AllApply v) owns x.sessions.virtual)

  k : Known w v
  k = known w x

  on_live : are_on (live_of w.tier) own ≡ true
  on_live = through_on w.tier.groups own ∙ through

  same_groups : live_groups_of after.groups ≡ live_groups_of w.tier.groups
  same_groups = same_live w.tier.groups after.groups kept

  flow : FlowsAs (progress_in (with_tier after w)) after.unsettled its.top
  flow = subst (λ gs. FlowsAs (progress_of gs w.history (w.tier.log ++ sealed_own w.tier s ∷ []) (w.tier.next + 1)) (w.tier.unsettled ++ sealed_own w.tier s ∷ []) its.top) (sym same_groups)
      (flow_commits (progress_in w) w.tier.unsettled x.flow (sealed_own w.tier s) its.top (record { ticket = Prim.omega arith; leads = its.leads; live = on_live }) room)

  is_virtual : virtual_state w.history after.log ≡ Some its.top
  is_virtual = flow.flow.stand.over.virtual_is ∙ ap Some flow.same

  catalog : HasCatalog after
  catalog = record {
    each = pairs_each IsKept (IsCatalogued w.tier.schema) (IsCatalogued w.tier.schema) (λ g h r c. catalogued_kept w.tier.schema g h r c) w.tier.groups after.groups kept x.catalog.each;
    apart = own_tables_kept w.tier.groups after.groups kept x.catalog.apart;
  }

  front : its.top.schema ≡ w.tier.schema ++ k.more
  front = all_defined own v its.top its.leads ∙ k.front

  sound : IsSoundState its.top
  sound = sound_ops own v its.top its.leads k.sound

  abbrev shown_after : TableState
  shown_after = shown_state w.history after

  live_same : live_of after ≡ live_of w.tier
  live_same = ap live_tables same_groups

  part_after : IsClosedPart (live_of after) its.top shown_after
  part_after = part_shown w.history after its.top is_virtual catalog k.more front sound

  part_own : IsClosedPart (live_of after) its.top mine.top
  part_own = subst (λ on. IsClosedPart on its.top mine.top) (sym live_same) (parts_after (live_of w.tier) own v its.top shown_before mine.top on_live k.sound.linked k.part its.leads mine.leads)

  -- the keys of a live group are those of its roots
  began : (g : Group) → is_writethrough g ≡ true → find (covers g.def.tree.root.table) w.tier.groups ≡ Some g → HasKeys v g → (q : Row) → is_some (row_at shown_before g.def.tree.root.table q) ≡ is_key g.keys q
  began g writes found keys q = ap is_some (root_shown w.history w.tier v k.v_is x.catalog k.more k.front k.sound g found writes q) ∙ by (is_key g.keys q) refl
    where
      by : (b : Bool) → is_key g.keys q ≡ b → is_some (cond (is_key g.keys q) (row_at v g.def.tree.root.table q) None) ≡ is_key g.keys q
      by true e = ap (λ b. is_some (cond b (row_at v g.def.tree.root.table q) None)) e ∙ keys.rooted writes q e ∙ sym e
      by false e = ap (λ b. is_some (cond b (row_at v g.def.tree.root.table q) None)) e ∙ sym e

  roots_behind : (g h : Group) → IsCommitted g h → is_writethrough g ≡ true → find (covers g.def.tree.root.table) w.tier.groups ≡ Some g → HasKeys v g → (q : Row) → is_key h.keys q ≡ is_some (row_at mine.top h.def.tree.root.table q)
  roots_behind g h e writes found keys q =
      ap (λ (z : Group). is_key z.keys q) e
      ∙ keys_behind (no_rows w.tier) g own shown_before mine.top writes refl mine.leads (began g writes found keys) q
      ∙ ap (λ (d : GroupDef). is_some (row_at mine.top d.tree.root.table q)) (sym (kept_one g h e).def)

  -- the group of a live table, before and behind
  pub record Origin (h : Group) : Type 0 where
    group : Group
    committed : IsCommitted group h
    writes : is_writethrough group ≡ true
    found : find (covers group.def.tree.root.table) w.tier.groups ≡ Some group
    keys : HasKeys v group

  origin : (u : TableId) (l : LiveTable after.groups u) → Origin l.group
  origin u l = by (found_both IsCommitted kept_one u w.tier.groups after.groups pairs)
    where
      by : FoundBoth IsCommitted u w.tier.groups after.groups → Origin l.group
      by (NoGroup a b) = let wrong : None ≡ Some l.group = sym b ∙ l.found in Prim.cc
      by (OneGroup g h a b r) =
          let same : h ≡ l.group = same_some (sym b ∙ l.found) in
          let is = sym same ∙ r in
          record {
            group = g;
            committed = is;
            writes = sym (Rattle.cache_tier.proofs.GroupPairs.same_kind g l.group (kept_one g l.group is)) ∙ l.through;
            found = Rattle.cache_tier.proofs.GroupTables.same_found w.tier.groups u g.def.tree.root.table g x.catalog.apart a (root_covers g);
            keys = each_found (HasKeys v) (covers u) w.tier.groups g x.keys a;
          }

  same_roots : (u : TableId) (l : LiveTable after.groups u) (q : Row) → row_at shown_after l.group.def.tree.root.table q ≡ row_at mine.top l.group.def.tree.root.table q
  same_roots u l q =
      root_shown w.history after its.top is_virtual catalog k.more front sound l.group (Rattle.cache_tier.proofs.GroupTables.same_found after.groups u root l.group catalog.apart l.found (root_covers l.group)) l.through q
      ∙ cond_same (is_key l.group.keys q) (row_at mine.top root q) (row_at its.top root q)
      (λ e. some (row_at mine.top root q) refl (sym keys ∙ e))
      (λ e. none (row_at mine.top root q) (sym keys ∙ e))
    where
      root : TableId
      root = l.group.def.tree.root.table

      o : Origin l.group
      o = origin u l

      keys : is_key l.group.keys q ≡ is_some (row_at mine.top root q)
      keys = roots_behind o.group l.group o.committed o.writes o.found o.keys q

      some : (z : Option Row) → row_at mine.top root q ≡ z → is_some (row_at mine.top root q) ≡ true → row_at its.top root q ≡ row_at mine.top root q
      some None e h = let wrong : false ≡ true = sym (ap is_some e) ∙ h in Prim.cc
      some (Some r) e h = part_own.within root q r (one_live w.history after its.top is_virtual catalog k.more front sound root l.group (Rattle.cache_tier.proofs.GroupTables.same_found after.groups u root l.group catalog.apart l.found (root_covers l.group)) l.through) e ∙ sym e

      none : (z : Option Row) → is_some z ≡ false → None ≡ z
      none None e = refl
      none (Some r) e = Prim.cc

  off_live : (u : TableId) → is_one_of (live_of w.tier) u ≡ false → table_at shown_after u ≡ table_at shown_before u
  off_live u off = by (slice_get w.tier.schema u.0) refl
    where
      of : FoundBoth IsCommitted u w.tier.groups after.groups → table_of_group w.history after.log u (group_over after.groups u) ≡ table_of_group w.history w.tier.log u (group_over w.tier.groups u)
      of (NoGroup a b) = ap (table_of_group w.history after.log u) (over_is_found after.groups u ∙ b) ∙ sym (ap (table_of_group w.history w.tier.log u) (over_is_found w.tier.groups u ∙ a))
      of (OneGroup g h a b r) = one (is_writethrough g) refl
        where
          one : (c : Bool) → is_writethrough g ≡ c → table_of_group w.history after.log u (group_over after.groups u) ≡ table_of_group w.history w.tier.log u (group_over w.tier.groups u)
          one true e = absurd (never_both (is_one_of (live_of w.tier) u) (live_table w.tier.groups u ∙ through_live w.tier.groups u g a e) off)
          one false e =
              let same : h ≡ g = r ∙ ap (λ c. cond c (record g { keys = with_entered (fm.keys (entered (no_rows w.tier) g own)) (flat_map (left_by (no_rows w.tier) g) own) g.keys }) g) e in
              ap (table_of_group w.history after.log u) (over_is_found after.groups u ∙ b ∙ ap Some same)
              ∙ ap (λ m. kept_at m (unwrap_or (place_of g.def.tree u) 0)) (read_only_shown w.history after.log w.tier.log g (read (is_read_only g) e))
              ∙ sym (ap (table_of_group w.history w.tier.log u) (over_is_found w.tier.groups u ∙ a))
            where
              read : (c : Bool) → not c ≡ false → c ≡ true
              read true z = refl
              read false z = Prim.cc

      by : (o : Option TableDef) → slice_get w.tier.schema u.0 ≡ o → table_at shown_after u ≡ table_at shown_before u
      by None e = no_table_shown w.history after u e ∙ sym (no_table_shown w.history w.tier u e)
      by (Some d) e = table_shown w.history after u (ap is_some e) ∙ of (found_both IsCommitted kept_one u w.tier.groups after.groups pairs) ∙ sym (table_shown w.history w.tier u (ap is_some e))

  shown_is : shown_after ≡ mine.top
  shown_is = same_state shown_after mine.top (sym schema)
      (from_length (Rattle.cache_tier.specs.Shown.shown_table w.history after) 0 w.tier.schema ∙ sym (all_whole own shown_before mine.top mine.leads (shown_whole w.history w.tier) ∙ ap length schema))
      (λ u. by u (is_one_of (live_of w.tier) u) refl)
    where
      schema : mine.top.schema ≡ w.tier.schema
      schema = all_defined own shown_before mine.top mine.leads

      by : (u : TableId) (b : Bool) → is_one_of (live_of w.tier) u ≡ b → table_at shown_after u ≡ table_at mine.top u
      by u true e =
          let on = ap (λ l. is_one_of l u) live_same ∙ e in
          let l = Rattle.cache_tier.proofs.ShownTables.live_one w.history after its.top is_virtual catalog k.more front sound u on in
          same_rows shown_after mine.top u (λ q. same_part w.history after its.top is_virtual catalog k.more front sound shown_after mine.top part_after part_own l.place u l (Prim.omega arith) (same_roots u l) q)
      by u false e = off_live u e ∙ sym (ops_beside (live_of w.tier) own shown_before mine.top u on_live e mine.leads)

  keys_then : (g : Group) → HasKeys v g → Rattle.cache_tier.proofs.GroupTables.IsFound w.tier.groups g → HasKeys its.top (committing g)
  keys_then g keys found = record {
    distinct = commit (no_rows w.tier) own g keys.distinct;
    rooted = λ writes key e.
        let before_it : is_writethrough g ≡ true = sym (Rattle.cache_tier.proofs.GroupPairs.same_kind g (committing g) (commit_kept (no_rows w.tier) own g)) ∙ writes in
        let here = found g.def.tree.root.table (root_covers g) in
        let has : is_some (row_at mine.top (committing g).def.tree.root.table key) ≡ true = sym (roots_behind g (committing g) refl before_it here keys key) ∙ e in
        let same : (committing g).def.tree.root.table ≡ g.def.tree.root.table = ap (λ (d : GroupDef). d.tree.root.table) (commit_kept (no_rows w.tier) own g).def in
        let on : is_one_of (live_of after) (committing g).def.tree.root.table ≡ true = ap (λ l. is_one_of l (committing g).def.tree.root.table) live_same ∙ ap (is_one_of (live_of w.tier)) same ∙ live_table w.tier.groups g.def.tree.root.table ∙ through_live w.tier.groups g.def.tree.root.table g here before_it in
        in_whole (committing g).def.tree.root.table key on (row_at mine.top (committing g).def.tree.root.table key) refl has;
  }
    where
      in_whole : (u : TableId) (key : Row) → is_one_of (live_of after) u ≡ true → (o : Option Row) → row_at mine.top u key ≡ o → is_some (row_at mine.top u key) ≡ true → is_some (row_at its.top u key) ≡ true
      in_whole u key on None e h = let wrong : false ≡ true = sym (ap is_some e) ∙ h in Prim.cc
      in_whole u key on (Some r) e h = ap is_some (part_own.within u key r on e)

  pub stands_committed : Stands (with_tier after w)
  stands_committed = stands_by (with_tier after w) its.top flow
      (record { front = x.schema.front; whole = x.schema.whole })
      catalog
      (Rattle.cache_tier.proofs.GroupTables.each_changed (λ g. HasKeys v g × Rattle.cache_tier.proofs.GroupTables.IsFound w.tier.groups g) (HasKeys its.top) committing (λ g p. keys_then g p.0 p.1) w.tier.groups
      (each_both (HasKeys v) (Rattle.cache_tier.proofs.GroupTables.IsFound w.tier.groups) (λ g. HasKeys v g × Rattle.cache_tier.proofs.GroupTables.IsFound w.tier.groups g) (λ g a b. (a, b)) w.tier.groups x.keys (Rattle.cache_tier.proofs.GroupTables.each_own w.tier.groups x.catalog.apart)))
      (record {
        within = Rattle.cache_tier.proofs.GroupTables.each_changed (IsReadWithin (length w.history)) (IsReadWithin (length w.history)) committing (λ g inside i e. inside i (sym (commit_position (no_rows w.tier) own g) ∙ e)) w.tier.groups x.read.within;
        one = map_one committing (commit_lessens (no_rows w.tier) own) w.tier.groups x.read.one;
      })
      (subst (HaveWritten its.top shown_after after.groups) (sym (changed_session w.tier.sessions s among at_rest)) (record {
        labels = labels_changed among.before s (at_rest s) among.behind refl (subst HaveOwnLabels among.is x.sessions.labels);
        through = ap (list_all (are_written_through after.groups)) (own_middle among.before (at_rest s) among.behind)
            ∙ all_with (are_written_through after.groups) before own [] behind (ap (list_all (are_written_through after.groups)) (sym owns) ∙ all_same_through w.tier.groups after.groups kept (own_writes w.tier.sessions) ∙ x.sessions.through) refl;
        shown = subst (OpenWrites shown_after) (sym (own_middle among.before (at_rest s) among.behind))
            (subst (λ z. OpenWrites z (before ++ [] ∷ behind)) (sym shown_is) (open_commit shown_before mine.top before own behind (subst (OpenWrites shown_before) owns x.sessions.shown) mine.leads));
        virtual = subst (AllApply its.top) (sym (own_middle among.before (at_rest s) among.behind))
            (open_commit v its.top before own behind (subst (OpenWrites v) owns (open_virtual w x)) its.leads).apply;
      }))

  pub commits_own : TakesOwn s.own w (with_tier after w)
  commits_own = record { stands = stands_committed; leads = mine.leads ∙ ap Some (sym shown_is); over = Rattle.cache_tier.proofs.OverLaws.over_is_applied own shown_before shown_after (mine.leads ∙ ap Some (sym shown_is)) }

pub session_commits : (w : World) (s : Session) → Stands w → session_of w.tier s.label ≡ Some s → w.tier.next + 1 ≤ 2 ^ 63 → TakesOwn s.own w (with_tier (committed_unsettled (sealed_own w.tier s) s.label w.tier) w)
session_commits w s x there room = commits_own w s x there room
