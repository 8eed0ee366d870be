-- What the parts of a tier ask of one another holds behind its cycles.
use Rattle.std.proofs.Common.{◌≡◌, ℕ, zero, suc, Bool, true, false, cond, not, All, Some, List, [], ◌∷◌, length, slice_get, refl, sym, ap, subst, ◌∙◌, arith}
use Rattle.std.specs.Bool.{MatchBool}
use Rattle.row_types.specs.declared.value.Value.{Value}
use Rattle.table_defs.specs.declared.definition.TableDef.{TableDef}
use Rattle.indexed_rows.specs.Rows.{Table}
use Rattle.instances.specs.declared.tree.Tree.{Tree}
use Rattle.order_laws.specs.Commits.{RiseBetween}
use Rattle.order_laws.proofs.TruthLaws.{same_some}
use Rattle.pending_writes.specs.Noting.{TellsWriters}
use Rattle.own_rows.specs.OwnTables.{AreShown}
use Rattle.open_sessions.specs.Opening.{AreSessions, seen_all}
use Rattle.slot_rows.specs.SlotKeys.{RowsHeld}
use Rattle.group_store.specs.Keeping.{IsFor, primary_of}
use Rattle.group_store.specs.Shown.{AreHoused, shown_by}
use Rattle.group_store.specs.Stores.{Kept, cut_store}
use Rattle.group_store.specs.Trees.{keep, leads}
use Rattle.group_catalog.specs.Catalogs.{groups_in}
use Rattle.cache_tier.specs.declared.group.GroupDef.{GroupDef}
use Rattle.cache_tier.specs.Groups.{Group, definitions_of}
use Rattle.stored_tier.specs.declared.tier.Tier.{Tier as Stored}
use Rattle.stored_tier.specs.Lists.{AreHiding, IsHidingFor, hides_keys}
use Rattle.stored_tier.specs.Stored.{AreKept, AreWhole, IsSound, IsVerified, are_later, first_unsettled, named_where_cached, rows_of}
use Rattle.stored_tier.proofs.LaterLaws.{later_by}
use Rattle.stored_tier.proofs.SoundParts.{all_plain, housed_exchanged, named_by, visible_by}
use Rattle.stored_tier.proofs.StoreChanges.{kept_defined}
use Rattle.stored_tier.proofs.StoreRows.{store_of}
use Rattle.aging_cycles.specs.Cycles.{is_due_at, keys_leaving}
use Rattle.aging_cycles.specs.Running.{HasLeft, HaveRun, RunsAt, RunsIn, StaysAt, behind_cycle, cut_all, hidden_all}
use Rattle.aging_cycles.proofs.Walks.{there_too}

abbrev Row : Type 0
Row = List Value

-- a store behind instances that leave has the same form

pub cut_form : (schema : List TableDef) (tree : Tree) (ks : List Row) (s : Kept) → IsFor schema tree s → IsFor schema tree (cut_all ks s)
cut_form schema tree [] s form = form
cut_form schema tree (k ∷ ks) s form = cut_form schema tree ks (cut_store 0 k s) (record { table = form.table; key = form.key; foreign = form.foreign; layers = form.layers })

long_kept : (test : ℕ → Row → Bool) (ts : List Table) → length (keep test ts) ≡ length ts
long_kept test [] = refl
long_kept test (t ∷ ts) = ap suc (long_kept (λ place. test (suc place)) ts)

cut_long : (ks : List Row) (s : Kept) → length (cut_all ks s).tables ≡ length s.tables
cut_long [] s = refl
cut_long (k ∷ ks) s = cut_long ks (cut_store 0 k s) ∙ long_kept (λ place key. not (leads s.layers s.tables 0 k (length s.layers) place key)) s.tables

cut_layers : (ks : List Row) (s : Kept) → (cut_all ks s).layers ≡ s.layers
cut_layers [] s = refl
cut_layers (k ∷ ks) s = cut_layers ks (cut_store 0 k s)

-- nothing leaves
pub nothing_left : (g : Group) (s : Kept) (h : RowsHeld) → HasLeft g [] s s h h
nothing_left g s h = record {
  gone = record { table = refl; key = refl; foreign = refl; layers = refl; tables = refl; keys = refl };
  rows = by (hides_keys g);
  key = refl;
  room = λ hides room. room;
}
  where
    by : (b : Bool) → h.table ≡ cond b h.table h.table
    by true = refl
    by false = refl

-- lists, place by place

kept_of : (schema : List TableDef) (groups : List Group) (stores : List Kept) → length stores ≡ length groups → ((k : ℕ) (g : Group) (s : Kept) → slice_get groups k ≡ Some g → slice_get stores k ≡ Some s → IsFor schema g.def.tree s) → AreKept schema groups stores
kept_of schema [] [] long all = tt
kept_of schema [] (s ∷ stores) long all = absurd (omega (arith, long))
kept_of schema (g ∷ groups) [] long all = absurd (omega (arith, long))
kept_of schema (g ∷ groups) (s ∷ stores) long all = (all 0 g s refl refl, kept_of schema groups stores (omega (arith, long)) (λ k x y a b. all (suc k) x y a b))

hiding_of : (schema : List TableDef) (groups : List Group) (stores : List Kept) (hidden : List RowsHeld) → length stores ≡ length groups → length hidden ≡ length groups
    → ((k : ℕ) (g : Group) (s : Kept) (h : RowsHeld) → slice_get groups k ≡ Some g → slice_get stores k ≡ Some s → slice_get hidden k ≡ Some h → IsHidingFor schema g s h) → AreHiding schema groups stores hidden
hiding_of schema [] stores [] long wide all = tt
hiding_of schema [] stores (h ∷ hidden) long wide all = absurd (omega (arith, wide))
hiding_of schema (g ∷ groups) stores [] long wide all = absurd (omega (arith, wide))
hiding_of schema (g ∷ groups) [] (h ∷ hidden) long wide all = absurd (omega (arith, long))
hiding_of schema (g ∷ groups) (s ∷ stores) (h ∷ hidden) long wide all =
    (all 0 g s h refl refl refl, hiding_of schema groups stores hidden (omega (arith, long)) (omega (arith, wide)) (λ k x y z a b c. all (suc k) x y z a b c))

pub hiding_at : (schema : List TableDef) (groups : List Group) (stores : List Kept) (hidden : List RowsHeld) (k : ℕ) (g : Group) (s : Kept) → AreHiding schema groups stores hidden → slice_get groups k ≡ Some g → slice_get stores k ≡ Some s
    → (h : RowsHeld) × (slice_get hidden k ≡ Some h) × IsHidingFor schema g s h
hiding_at schema [] stores hidden k g s are at kept = cc
hiding_at schema (x ∷ groups) stores [] k g s are at kept = absurd are
hiding_at schema (x ∷ groups) [] (h ∷ hidden) k g s are at kept = absurd are
hiding_at schema (x ∷ groups) (y ∷ stores) (h ∷ hidden) zero g s are at kept =
    let one : x ≡ g = cc in
    let other : y ≡ s = cc in
    (h, refl, subst (λ z. IsHidingFor schema g z h) other (subst (λ z. IsHidingFor schema z y h) one are.0))
hiding_at schema (x ∷ groups) (y ∷ stores) (h ∷ hidden) (suc k) g s are at kept = hiding_at schema groups stores hidden k g s are.1 at kept

pub hiding_long : (schema : List TableDef) (groups : List Group) (stores : List Kept) (hidden : List RowsHeld) → AreHiding schema groups stores hidden → length hidden ≡ length groups
hiding_long schema [] stores [] are = refl
hiding_long schema [] stores (h ∷ hidden) are = absurd are
hiding_long schema (g ∷ groups) stores [] are = absurd are
hiding_long schema (g ∷ groups) [] (h ∷ hidden) are = absurd are
hiding_long schema (g ∷ groups) (s ∷ stores) (h ∷ hidden) are = ap suc (hiding_long schema groups stores hidden are.1)

pub kept_long : (schema : List TableDef) (groups : List Group) (stores : List Kept) → AreKept schema groups stores → length stores ≡ length groups
kept_long schema [] [] are = refl
kept_long schema [] (s ∷ stores) are = absurd are
kept_long schema (g ∷ groups) [] are = absurd are
kept_long schema (g ∷ groups) (s ∷ stores) are = ap suc (kept_long schema groups stores are.1)

defs_of : (gs hs : List Group) → length hs ≡ length gs → ((k : ℕ) (g h : Group) → slice_get gs k ≡ Some g → slice_get hs k ≡ Some h → h.def ≡ g.def) → definitions_of hs ≡ definitions_of gs
defs_of [] [] long all = refl
defs_of [] (h ∷ hs) long all = absurd (omega (arith, long))
defs_of (g ∷ gs) [] long all = absurd (omega (arith, long))
defs_of (g ∷ gs) (h ∷ hs) long all =
    let first = all 0 g h refl refl in
    let rest = defs_of gs hs (omega (arith, long)) (λ k x y a b. all (suc k) x y a b) in
    λ i. first i ∷ rest i

-- what there was at a place, and what there is
pub record PlaceRuns (t new : Stored) (k : ℕ) (g : Group) (s : Kept) (h : RowsHeld) : Type 0 where
  pub group : Group
  pub left : Kept
  pub behind : RowsHeld
  pub keys : List Row
  pub group_is : slice_get (groups_in new.catalog) k ≡ Some group
  pub left_is : slice_get new.stores.items k ≡ Some left
  pub behind_is : slice_get new.hidden.items k ≡ Some behind
  pub def : group.def ≡ g.def
  pub does : HasLeft g keys s left h behind

-- a cycle has run there
pub record CycleRuns (t new : Stored) (k : ℕ) (g : Group) (s : Kept) (h : RowsHeld) : Type 0 where
  pub left : Kept
  pub behind : RowsHeld
  pub group_is : slice_get (groups_in new.catalog) k ≡ Some (behind_cycle t.clock.now g)
  pub left_is : slice_get new.stores.items k ≡ Some left
  pub behind_is : slice_get new.hidden.items k ≡ Some behind
  pub does : HasLeft g (keys_leaving t g s) s left h behind

pub cycle_runs : (t new : Stored) (k : ℕ) (g : Group) (s : Kept) (h : RowsHeld) → slice_get (groups_in t.catalog) k ≡ Some g → slice_get t.stores.items k ≡ Some s → slice_get t.hidden.items k ≡ Some h → RunsAt t new k → CycleRuns t new k g s h
cycle_runs t new k g s h at kept hid r =
    let same_group : r.group ≡ g = same_some (sym r.there ∙ at) in
    let same_store : r.store ≡ s = same_some (sym r.kept ∙ kept) in
    let same_hidden : r.hidden ≡ h = same_some (sym r.hid ∙ hid) in
    record {
      left = r.left;
      behind = r.behind;
      group_is = r.group_is ∙ ap (λ x. Some (behind_cycle t.clock.now x)) same_group;
      left_is = r.left_is;
      behind_is = r.behind_is;
      does = subst (λ x. HasLeft x (keys_leaving t x s) s r.left h r.behind) same_group (subst (λ y. HasLeft r.group (keys_leaving t r.group y) y r.left h r.behind) same_store (subst (λ z. HasLeft r.group (keys_leaving t r.group r.store) r.store r.left z r.behind) same_hidden r.does));
    }

place_runs : (t new : Stored) (k : ℕ) (g : Group) (s : Kept) (h : RowsHeld) → slice_get (groups_in t.catalog) k ≡ Some g → slice_get t.stores.items k ≡ Some s → slice_get t.hidden.items k ≡ Some h → RunsIn t new k → PlaceRuns t new k g s h
place_runs t new k g s h at kept hid r = by (is_due_at t k) r
  where
    by : (b : Bool) → MatchBool b (RunsAt t new k) (StaysAt t new k) → PlaceRuns t new k g s h
    by false stays = record {
      group = g;
      left = s;
      behind = h;
      keys = [];
      group_is = stays.groups ∙ at;
      left_is = stays.stores ∙ kept;
      behind_is = stays.hidden ∙ hid;
      def = refl;
      does = nothing_left g s h;
    }
    by true runs =
        let p = cycle_runs t new k g s h at kept hid runs in
        record {
          group = behind_cycle t.clock.now g;
          left = p.left;
          behind = p.behind;
          keys = keys_leaving t g s;
          group_is = p.group_is;
          left_is = p.left_is;
          behind_is = p.behind_is;
          def = refl;
          does = p.does;
        }

-- what there is at a place of the new lists comes of what there was
pub record Came (t new : Stored) (k : ℕ) (x : Group) : Type 0 where
  pub group : Group
  pub store : Kept
  pub hidden : RowsHeld
  pub there : slice_get (groups_in t.catalog) k ≡ Some group
  pub kept : slice_get t.stores.items k ≡ Some store
  pub hid : slice_get t.hidden.items k ≡ Some hidden
  pub form : IsFor t.schema group.def.tree store
  pub hides : IsHidingFor t.schema group store hidden
  pub runs : PlaceRuns t new k group store hidden
  pub same : runs.group ≡ x

module _ (t new : Stored) (sound : IsSound t) (run : HaveRun t new) where
  pub came : (k : ℕ) (x : Group) → slice_get (groups_in new.catalog) k ≡ Some x → Came t new k x
  came k x at =
      let (g, there) = there_too (groups_in new.catalog) (groups_in t.catalog) k x (sym run.form.groups) at in
      let st = store_of t.schema (groups_in t.catalog) t.stores.items k g sound.kept there in
      let same : st.group ≡ g = same_some (sym st.there ∙ there) in
      let (h, hid, hides) = hiding_at t.schema (groups_in t.catalog) t.stores.items t.hidden.items k g st.store sound.hiding there st.kept in
      by g there st.store st.kept h hid (subst (λ (y : Group). IsFor t.schema y.def.tree st.store) same st.form) hides (place_runs t new k g st.store h there st.kept hid (run.each k))
    where
      by : (g : Group) → slice_get (groups_in t.catalog) k ≡ Some g → (s : Kept) → slice_get t.stores.items k ≡ Some s → (h : RowsHeld) → slice_get t.hidden.items k ≡ Some h → IsFor t.schema g.def.tree s → IsHidingFor t.schema g s h
          → PlaceRuns t new k g s h → Came t new k x
      by g there s kept h hid form hides p = record {
        group = g;
        store = s;
        hidden = h;
        there = there;
        kept = kept;
        hid = hid;
        form = form;
        hides = hides;
        runs = p;
        same = same_some (sym p.group_is ∙ at);
      }

  pub defs : definitions_of (groups_in new.catalog) ≡ definitions_of (groups_in t.catalog)
  defs = defs_of (groups_in t.catalog) (groups_in new.catalog) run.form.groups (λ k g h at there.
      let c = came k h there in
      let same : c.group ≡ g = same_some (sym c.there ∙ at) in
      ap (λ (y : Group). y.def) (sym c.same) ∙ c.runs.def ∙ ap (λ (y : Group). y.def) same)

  -- each store has the form of its group
  pub kept_then : AreKept t.schema (groups_in new.catalog) new.stores.items
  kept_then = kept_of t.schema (groups_in new.catalog) new.stores.items (run.form.stores ∙ kept_long t.schema (groups_in t.catalog) t.stores.items sound.kept ∙ sym run.form.groups) (λ k g s at kept.
      let c = came k g at in
      let same : c.runs.left ≡ s = same_some (sym c.runs.left_is ∙ kept) in
      let def : c.group.def ≡ g.def = sym c.runs.def ∙ ap (λ (y : Group). y.def) c.same in
      let cut = cut_form t.schema c.group.def.tree c.runs.keys c.store c.form in
      let gone = c.runs.does.gone in
      subst (λ (y : Kept). IsFor t.schema g.def.tree y) same
      (subst (λ (d : GroupDef). IsFor t.schema d.tree c.runs.left) def
      (record { table = gone.table ∙ cut.table; key = gone.key ∙ cut.key; foreign = gone.foreign ∙ cut.foreign; layers = gone.layers ∙ cut.layers })))

  whole_then : AreWhole new.stores.items
  whole_then k s at =
      let (g, there) = there_too new.stores.items (groups_in new.catalog) k s (run.form.groups ∙ sym (kept_long t.schema (groups_in t.catalog) t.stores.items sound.kept) ∙ sym run.form.stores) at in
      let c = came k g there in
      let same : c.runs.left ≡ s = same_some (sym c.runs.left_is ∙ at) in
      let gone = c.runs.does.gone in
      subst (λ (y : Kept). length y.tables ≡ suc (length y.layers)) same
      (ap (λ (ts : List Table). length ts) gone.tables ∙ cut_long c.runs.keys c.store ∙ sound.whole k c.store c.kept
      ∙ sym (ap (λ ls. suc (length ls)) (gone.layers ∙ cut_layers c.runs.keys c.store)))

  hiding_then : AreHiding t.schema (groups_in new.catalog) new.stores.items new.hidden.items
  hiding_then = hiding_of t.schema (groups_in new.catalog) new.stores.items new.hidden.items
      (run.form.stores ∙ kept_long t.schema (groups_in t.catalog) t.stores.items sound.kept ∙ sym run.form.groups)
      (run.form.hidden ∙ hiding_long t.schema (groups_in t.catalog) t.stores.items t.hidden.items sound.hiding ∙ sym run.form.groups)
      (λ k g s h at kept hid.
      let c = came k g at in
      let same : c.runs.left ≡ s = same_some (sym c.runs.left_is ∙ kept) in
      let same_hidden : c.runs.behind ≡ h = same_some (sym c.runs.behind_is ∙ hid) in
      let def : c.group.def ≡ g.def = sym c.runs.def ∙ ap (λ (y : Group). y.def) c.same in
      subst (λ (y : Kept). IsHidingFor t.schema g y h) same (subst (IsHidingFor t.schema g c.runs.left) same_hidden
      (hides_by g c.group (sym def) c.store c.runs.left c.hidden c.runs.behind c.runs.keys c.hides c.runs.does)))
    where
      kind : (g x : Group) → g.def ≡ x.def → hides_keys g ≡ hides_keys x
      kind g x def = ap (λ (d : GroupDef). hides_keys (record g { def = d })) def

      hides_by : (g x : Group) → g.def ≡ x.def → (s left : Kept) (h behind : RowsHeld) (keys : List Row) → IsHidingFor t.schema x s h → HasLeft x keys s left h behind → IsHidingFor t.schema g left behind
      hides_by g x def s left h behind keys hides does = record {
        key = does.key ∙ hides.key ∙ ap (λ (d : GroupDef). primary_of t.schema d.tree.root.table) (sym def);
        room = λ yes. does.room (sym (kind g x def) ∙ yes) (hides.room (sym (kind g x def) ∙ yes));
        none = λ no. does.rows ∙ ap (λ b. cond b (hidden_all keys s h.table) h.table) (sym (kind g x def) ∙ no) ∙ hides.none (sym (kind g x def) ∙ no);
      }

  rows_same : new.stores.items ≡ t.stores.items → rows_of new ≡ rows_of t
  rows_same stores = λ i. shown_by (run.form.beside.schema i) (stores i)

  verified_then : new.verified ≡ true → IsVerified new
  verified_then e =
      let (was, stores) = run.form.verified e in
      let v = sound.verified was in
      let rows = sym (rows_same stores) in
      record {
        rows = subst (AreShown []) rows v.rows;
        own = subst (λ y. All (λ s. AreShown s.ops (rows_of new)) (seen_all y)) (sym run.form.beside.sessions)
            (subst (λ r. All (λ s. AreShown s.ops r) (seen_all t.sessions)) rows v.own);
      }

  pub sound_run : IsSound new
  sound_run =
      let b = run.form.beside in
      let schema = b.schema in
      let housed = housed_exchanged t.schema (groups_in t.catalog) t.stores.items new.stores.items t.directory sound.stores sound.kept (kept_same (groups_in t.catalog) (groups_in new.catalog) (sym defs) kept_then) in
      record {
        sessions = subst (λ y. AreSessions new.schema y) (sym b.sessions) (subst (λ d. AreSessions d t.sessions) (sym schema) sound.sessions);
        stores = subst (AreHoused new.schema new.stores.items) (sym run.form.directory) (subst (λ d. AreHoused d new.stores.items t.directory) (sym schema) housed);
        kept = subst (λ d. AreKept d (groups_in new.catalog) new.stores.items) (sym schema) kept_then;
        whole = whole_then;
        hiding = subst (λ d. AreHiding d (groups_in new.catalog) new.stores.items new.hidden.items) (sym schema) hiding_then;
        plain = all_plain (groups_in t.catalog) (groups_in new.catalog) defs sound.plain;
        named = named_by (groups_in t.catalog) (groups_in new.catalog) defs sound.named;
        visible = run.form.visible ∙ sound.visible ∙ sym (visible_by (groups_in t.catalog) (groups_in new.catalog) t.schema defs) ∙ ap (named_where_cached (groups_in new.catalog)) (sym schema);
        numbered = subst (λ us. RiseBetween 1 us new.next) (sym (ap (λ u. u.items) b.unsettled)) (subst (RiseBetween 1 t.unsettled.items) (sym b.next) sound.numbered);
        later = ap (λ u. are_later (groups_in new.catalog) u.items) b.unsettled ∙ later_by (groups_in t.catalog) (groups_in new.catalog) t.unsettled.items defs sound.later;
        writers = writers_then;
        verified = verified_then;
      }
    where
      kept_same : (gs hs : List Group) → definitions_of gs ≡ definitions_of hs → AreKept t.schema hs new.stores.items → AreKept t.schema gs new.stores.items
      kept_same gs hs same kept = kept_defined t.schema hs gs new.stores.items same kept

      writers_then : TellsWriters new.schema (first_unsettled new.unsettled.items new.next) new.unsettled.items new.writers
      writers_then =
          let b = run.form.beside in
          subst (λ d. TellsWriters d (first_unsettled new.unsettled.items new.next) new.unsettled.items new.writers) (sym b.schema)
          (subst (λ us. TellsWriters t.schema (first_unsettled us new.next) us new.writers) (sym (ap (λ u. u.items) b.unsettled))
          (subst (λ n. TellsWriters t.schema (first_unsettled t.unsettled.items n) t.unsettled.items new.writers) (sym b.next)
          (subst (TellsWriters t.schema (first_unsettled t.unsettled.items t.next) t.unsettled.items) (sym b.writers) sound.writers)))
