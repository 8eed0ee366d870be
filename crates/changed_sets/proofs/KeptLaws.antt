-- Rows that stay where instances became others, and rows that came to them.
use Rattle.std.proofs.Common.{◌≡◌, ◌≤◌, ◌∙◌, ℕ, zero, suc, Bool, true, false, cond, Option, Some, None, List, [], ◌∷◌, length, slice_get, refl, sym, ap, subst}
use Rattle.std.specs.FinMap.{contains_key}
use Rattle.row_types.specs.declared.value.Value.{Value}
use Rattle.table_defs.specs.declared.definition.TableDef.{TableDef}
use Rattle.instances.specs.declared.tree.Tree.{Tree}
use Rattle.instances.specs.Views.{kept_at}
use Rattle.order_laws.proofs.TruthLaws.{same_some}
use Rattle.group_catalog.specs.Catalogs.{groups_in}
use Rattle.group_store.specs.Keeping.{IsFor}
use Rattle.group_store.specs.Stores.{Kept, cut_store, put_tables, renewed_store}
use Rattle.cache_tier.specs.Groups.{Group}
use Rattle.cache_tier.specs.Sets.{Choice}
use Rattle.stored_tier.specs.Stored.{AreKept, IsSound}
use Rattle.stored_tier.specs.declared.tier.Tier.{Tier as Stored}
use Rattle.stored_tier.proofs.PutLaws.{Form}
use Rattle.aging_cycles.specs.Coming.{HasRowsOf, StoresRowsOf}
use Rattle.aging_cycles.proofs.FitLaws.{AllBelow, all_elements}
use Rattle.aging_cycles.proofs.RowsOf.{rows_alike, rows_cut, rows_itself, rows_put, rows_through}
use Rattle.changed_sets.specs.Fitting.{ArePatchesFit, DoCutsFit, DoTurnsFit, FitWhere, IsPatchFit}
use Rattle.changed_sets.specs.Showing.{Patched, ShowsPatches, TurnedBy}
use Rattle.changed_sets.specs.Turning.{IsTurned, cut_all, cut_by, put_back, put_shown, turned}
use Rattle.changed_sets.specs.declared.turns.Cut.{Cut}
use Rattle.changed_sets.specs.declared.turns.Patch.{Patch}
use Rattle.changed_sets.specs.declared.turns.Turn.{Turn}
use Rattle.changed_sets.proofs.ShowSteps.{patched_long}
use Rattle.changed_sets.proofs.TurnSteps.{cut_form, one_form, shown_form}

-- ---- rows that fit, patch by patch

-- those of the patch at a place
abbrev pub PatchFitsAt : List TableDef → List Group → ℕ → Option Patch → Type 0
PatchFitsAt schema groups k o = (g : Group) (p : Patch) → slice_get groups k ≡ Some g → o ≡ Some p → IsPatchFit schema g.def.tree p

pub all_patches_fit : (schema : List TableDef) (groups : List Group) (patches : List (Option Patch)) (n : ℕ) → length patches ≤ n → AllBelow (PatchFitsAt schema groups) n patches → ArePatchesFit schema groups patches
all_patches_fit schema groups patches n long all k g p at is = all_elements (PatchFitsAt schema groups) patches n long all k (Some p) is g p at refl

-- ---- one store

for_form : (schema : List TableDef) (tree : Tree) (a b : Kept) → IsFor schema tree a → Form a b → IsFor schema tree b
for_form schema tree a b is f = record { table = f.table ∙ is.table; key = f.key ∙ is.key; foreign = f.foreign ∙ is.foreign; layers = f.layers ∙ is.layers }

rows_renewed : (schema : List TableDef) (tree : Tree) (root : List Value) (bare : List (List (List Value))) (s : Kept) → IsFor schema tree s → FitWhere schema tree (Some bare) → HasRowsOf schema s (renewed_store root bare s)
rows_renewed schema tree root bare s is fit =
    let put = rows_put schema tree bare (cut_store 0 root s) (for_form schema tree s (cut_store 0 root s) is (one_form None root s)) (fit bare refl) in
    let through = rows_through schema s (cut_store 0 root s) (put_tables 0 bare (cut_store 0 root s)) (rows_cut schema root s) put in
    record { table = through.table; key = through.key; layers = through.layers; rows = through.rows }

rows_cut_by : (schema : List TableDef) (tree : Tree) (bare : Option (List (List (List Value)))) (root : List Value) (s : Kept) → IsFor schema tree s → FitWhere schema tree bare → HasRowsOf schema s (cut_by bare root s)
rows_cut_by schema tree None root s is fit = rows_cut schema root s
rows_cut_by schema tree (Some bare) root s is fit = by (contains_key (kept_at s.tables 0) root)
  where
    by : (c : Bool) → HasRowsOf schema s (cond c (renewed_store root bare s) (cut_store 0 root s))
    by true = rows_renewed schema tree root bare s is fit
    by false = rows_cut schema root s

rows_cut_all : (schema : List TableDef) (tree : Tree) (cuts : List Cut) (s : Kept) → IsFor schema tree s → DoCutsFit schema tree cuts → HasRowsOf schema s (cut_all cuts s)
rows_cut_all schema tree [] s is fit = rows_itself schema s
rows_cut_all schema tree (c ∷ cuts) s is fit =
    rows_through schema s (cut_by c.bare c.root s) (cut_all cuts (cut_by c.bare c.root s)) (rows_cut_by schema tree c.bare c.root s is (fit 0 c refl))
    (rows_cut_all schema tree cuts (cut_by c.bare c.root s) (for_form schema tree s (cut_by c.bare c.root s) is (one_form c.bare c.root s)) (λ i x at. fit (suc i) x at))

rows_shown : (schema : List TableDef) (tree : Tree) (rows : Option (List (List (List Value)))) (s : Kept) → IsFor schema tree s → FitWhere schema tree rows → HasRowsOf schema s (put_shown rows s)
rows_shown schema tree None s is fit = rows_itself schema s
rows_shown schema tree (Some rows) s is fit = rows_put schema tree rows s is (fit rows refl)

rows_back : (schema : List TableDef) (tree : Tree) (turns : List Turn) (s : Kept) → IsFor schema tree s → DoTurnsFit schema tree turns → HasRowsOf schema s (put_back turns s)
rows_back schema tree [] s is fit = rows_itself schema s
rows_back schema tree (t ∷ turns) s is fit =
    rows_through schema s (put_shown t.rows s) (put_back turns (put_shown t.rows s)) (rows_shown schema tree t.rows s is (fit 0 t refl))
    (rows_back schema tree turns (put_shown t.rows s) (for_form schema tree s (put_shown t.rows s) is (shown_form t.rows s)) (λ i x at. fit (suc i) x at))

rows_turned : (schema : List TableDef) (tree : Tree) (p : Patch) (s x : Kept) → IsFor schema tree s → IsPatchFit schema tree p → IsTurned p s x → HasRowsOf schema s x
rows_turned schema tree p s x is fit turn =
    let cut = rows_cut_all schema tree p.cuts s is fit.cuts in
    let back = rows_back schema tree p.turns (cut_all p.cuts s) (for_form schema tree s (cut_all p.cuts s) is (cut_form p.cuts s)) fit.turns in
    rows_through schema s (turned p.cuts p.turns s) x (rows_through schema s (cut_all p.cuts s) (turned p.cuts p.turns s) cut back) (rows_alike schema (turned p.cuts p.turns s) x turn.store)

-- ---- the stores of all groups

rows_by : (schema : List TableDef) (g : Group) (o : Option Patch) (s x : Kept) → IsFor schema g.def.tree s → ((p : Patch) → o ≡ Some p → IsPatchFit schema g.def.tree p) → TurnedBy o s x → HasRowsOf schema s x
rows_by schema g None s x is fit turn = subst (HasRowsOf schema s) (sym turn) (rows_itself schema s)
rows_by schema g (Some p) s x is fit turn = rows_turned schema g.def.tree p s x is (fit p refl) turn

rows_at : (schema : List TableDef) (groups : List Group) (patches : List (Option Patch)) (xs ys : List Kept) → AreKept schema groups xs → ArePatchesFit schema groups patches → Patched TurnedBy patches xs ys
    → (k : ℕ) (s x : Kept) → slice_get xs k ≡ Some s → slice_get ys k ≡ Some x → HasRowsOf schema s x
rows_at schema groups patches [] ys kept fit turn k s x at there = cc
rows_at schema groups patches (y ∷ xs) [] kept fit turn k s x at there = absurd turn
rows_at schema [] patches (y ∷ xs) (z ∷ ys) kept fit turn k s x at there = absurd kept
rows_at schema (g ∷ groups) [] (y ∷ xs) (z ∷ ys) kept fit turn zero s x at there =
    let one : y ≡ s = same_some at in
    let two : z ≡ x = same_some there in
    subst (HasRowsOf schema s) (sym one ∙ sym turn.0 ∙ two) (rows_itself schema s)
rows_at schema (g ∷ groups) [] (y ∷ xs) (z ∷ ys) kept fit turn (suc k) s x at there =
    rows_at schema groups [] xs ys kept.1 (λ i h p a b. cc) turn.1 k s x at there
rows_at schema (g ∷ groups) (o ∷ patches) (y ∷ xs) (z ∷ ys) kept fit turn zero s x at there =
    let one : y ≡ s = same_some at in
    let two : z ≡ x = same_some there in
    subst (λ w. HasRowsOf schema w x) one (subst (HasRowsOf schema y) two (rows_by schema g o y z kept.0 (λ p is. fit 0 g p refl (ap Some is)) turn.0))
rows_at schema (g ∷ groups) (o ∷ patches) (y ∷ xs) (z ∷ ys) kept fit turn (suc k) s x at there =
    rows_at schema groups patches xs ys kept.1 (λ i h p a b. fit (suc i) h p a b) turn.1 k s x at there

-- what is stored behind patches that fit was stored before, or came
pub rows_patched : (t new : Stored) (chosen : Choice) (n : ℕ) (patches : List (Option Patch)) → IsSound t → ArePatchesFit t.schema (groups_in t.catalog) patches → ShowsPatches t new chosen n patches → Patched TurnedBy patches t.stores.items new.stores.items → StoresRowsOf t new
rows_patched t new chosen n patches sound fit shows turn = record {
  schema = shows.exchanged.schema;
  stores = record {
    long = patched_long TurnedBy patches t.stores.items new.stores.items turn;
    each = rows_at t.schema (groups_in t.catalog) patches t.stores.items new.stores.items sound.kept fit turn;
  };
}

-- ---- the note is another

pub shows_noted : (t mid new : Stored) (chosen : Choice) (n : ℕ) (patches : List (Option Patch)) → ShowsPatches t mid chosen n patches → new ≡ record mid { verified = new.verified } → ShowsPatches t new chosen n patches
shows_noted t mid new chosen n patches shows same = subst (λ (y : Stored). ShowsPatches t y chosen n patches) (sym same) (record {
  made = shows.made;
  came = shows.came;
  exchanged = record {
    schema = shows.exchanged.schema;
    visible = shows.exchanged.visible;
    stale = shows.exchanged.stale;
    groups = shows.exchanged.groups;
    stores = shows.exchanged.stores;
    hidden = shows.exchanged.hidden;
    directory = shows.exchanged.directory;
    sessions = shows.exchanged.sessions;
    unsettled = shows.exchanged.unsettled;
    writers = shows.exchanged.writers;
    next = shows.exchanged.next;
    clock = shows.exchanged.clock;
  };
  formed = shows.formed;
})
