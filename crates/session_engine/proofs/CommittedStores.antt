-- Stores behind a commit: what they show, and the hidden keys.
use Rattle.std.proofs.Common.{◌≡◌, ℕ, zero, suc, ◌+◌, ◌<◌, ◌≤◌, Bool, true, false, cond, nat_lt, ◌||◌, Option, Some, None, List, [], ◌∷◌, arith, length, position, slice_get, refl, sym, ap, subst, ◌∙◌}
use Rattle.std.specs.FinMap.{len}
use Rattle.std.specs.List.{list_any}
use Rattle.std.specs.Option.{option_map}
use Rattle.std.proofs.lemmas.Bool.{ltb-false, ltb-true}
use Rattle.row_types.specs.declared.value.Value.{Value}
use Rattle.table_defs.specs.declared.definition.TableDef.{TableDef}
use Rattle.indexed_rows.specs.Rows.{Table}
use Rattle.indexed_rows.proofs.MapLaws.{slice_get_map}
use Rattle.table_state.specs.declared.operation.Op.{Op}
use Rattle.table_state.specs.Operations.{table_of}
use Rattle.instances.specs.Trees.{same_table}
use Rattle.instances.specs.Views.{kept_at}
use Rattle.slot_rows.specs.SlotKeys.{RowsHeld}
use Rattle.group_store.specs.Keeping.{IsFor}
use Rattle.group_store.specs.Stores.{Kept, op_done, place_in}
use Rattle.group_store.specs.Trees.{key_at}
use Rattle.group_store.specs.declared.directory.Home.{Home}
use Rattle.cache_tier.specs.Groups.{Group}
use Rattle.group_catalog.specs.Catalogs.{groups_in}
use Rattle.statement_uses.specs.Touching.{HaveEntered, HaveRowsIn, entered_keys, touched_by, touched_stores}
use Rattle.statement_uses.specs.Uses.{keeps_list}
use Rattle.statement_uses.proofs.TouchLaws.{touched_form}
use Rattle.open_sessions.specs.Lookups.{open_ops}
use Rattle.open_sessions.specs.Opening.{seen_all}
use Rattle.tier_base.specs.declared.number.SessionId.{SessionId}
use Rattle.session_engine.specs.Using.{Uses}
use Rattle.session_engine.specs.Doubting.{IsReadyCommit}
use Rattle.session_engine.specs.Committing.{CommitsOps, SparesHidden, StoresCommit, at_home, at_number, bare, bare_all, home_in, ops_at}
use Rattle.session_engine.proofs.OpStores.{kept_else, kept_home, op_absent, op_on, op_there}
use Rattle.session_engine.proofs.TouchedLaws.{AreLike, IsLike}
use Rattle.stored_tier.specs.declared.tier.Tier.{Tier as Stored}
use Rattle.stored_tier.specs.Lists.{AreHiding, IsHidingFor, hides_keys}
use Rattle.stored_tier.specs.Stored.{AreKept}

abbrev Row : Type 0
Row = List Value

-- only the order of last use changes by touches

like_itself : (s : Kept) → IsLike s s
like_itself s = record { table = refl; key = refl; foreign = refl; layers = refl; tables = refl }

touched_like : (roots : List Row) (s : Kept) → IsLike s (touched_by roots s)
touched_like roots s =
    let form = touched_form roots s in
    record {
      table = ap (λ (k : Kept). k.table) form;
      key = ap (λ (k : Kept). k.key) form;
      foreign = ap (λ (k : Kept). k.foreign) form;
      layers = ap (λ (k : Kept). k.layers) form;
      tables = ap (λ (k : Kept). k.tables) form;
    }

all_touched_like : (uses : Uses) (stores : List Kept) → AreLike stores (touched_stores uses stores)
all_touched_like [] [] = tt
all_touched_like [] (s ∷ stores) = (like_itself s, all_touched_like [] stores)
all_touched_like (roots ∷ uses) [] = tt
all_touched_like (roots ∷ uses) (s ∷ stores) = (touched_like roots s, all_touched_like uses stores)

-- what stands behind a commit is like what the operations leave
pub committed_like : (t : Stored) (ops : List Op) (stores : List Kept) → StoresCommit t ops stores → AreLike (ops_at t.directory ops (bare_all t.stores.items)) (bare_all stores)
committed_like t ops stores commit =
    subst (AreLike (ops_at t.directory ops (bare_all t.stores.items))) (sym commit.does.touched)
    (all_touched_like commit.entered (ops_at t.directory ops (bare_all t.stores.items)))

-- room plays no part

pub bare_like : (stores : List Kept) → AreLike stores (bare_all stores)
bare_like [] = tt
bare_like (s ∷ stores) = (record { table = refl; key = refl; foreign = refl; layers = refl; tables = refl }, bare_like stores)

pub like_bare : (stores : List Kept) → AreLike (bare_all stores) stores
like_bare [] = tt
like_bare (s ∷ stores) = (record { table = refl; key = refl; foreign = refl; layers = refl; tables = refl }, like_bare stores)

unmapped : (stores : List Kept) (place : ℕ) (s : Kept) → slice_get (bare_all stores) place ≡ Some s → (x : Kept) × (slice_get stores place ≡ Some x) × (bare x ≡ s)
unmapped [] place s e = cc
unmapped (x ∷ stores) zero s e = (x, refl, cc)
unmapped (x ∷ stores) (suc place) s e = unmapped stores place s e

pub have_roomless : (groups : List Group) (stores : List Kept) (ops : List Op) (uses : Uses) → HaveEntered groups stores ops uses → HaveEntered groups (bare_all stores) ops uses
have_roomless groups stores ops uses have place g s at there =
    let x = unmapped stores place s there in
    have place g x.0 at x.1 ∙ ap (λ (k : Kept). cond (keeps_list g) (entered_keys k ops) []) x.2

pub rows_roomless : (uses : Uses) (stores : List Kept) → HaveRowsIn uses (bare_all stores) → HaveRowsIn uses stores
rows_roomless uses stores have place s at = have place (bare s) (slice_get_map bare stores place s at)

-- what stands for a commit stands for it in a tier of which no more changed than room

pub commit_drawn : (t mid : Stored) → mid ≡ record t { stores = mid.stores; next = t.next + 1 } → bare_all mid.stores.items ≡ bare_all t.stores.items → (ops : List Op) (stores : List Kept) → StoresCommit mid ops stores → StoresCommit t ops stores
commit_drawn t mid rest bares ops stores c = record {
  entered = c.entered;
  have = subst (λ olds. HaveEntered (groups_in t.catalog) olds ops c.entered) bares (subst (λ (z : Stored). HaveEntered (groups_in z.catalog) (bare_all mid.stores.items) ops c.entered) rest c.have);
  does = subst (λ olds. CommitsOps t.directory ops c.entered olds (bare_all stores)) bares (subst (λ (z : Stored). CommitsOps z.directory ops c.entered (bare_all mid.stores.items) (bare_all stores)) rest c.does);
}

pub commit_made : (t : Stored) (own ops : List Op) (entered slice : Uses) (between after : List Kept) → ops ≡ own → slice ≡ entered → bare_all between ≡ bare_all t.stores.items → HaveEntered (groups_in t.catalog) t.stores.items ops entered → CommitsOps t.directory ops slice (bare_all between) (bare_all after) → StoresCommit t own after
commit_made t own ops entered slice between after copies same room have does = record {
  entered = entered;
  have = have_roomless (groups_in t.catalog) t.stores.items own entered (subst (λ l. HaveEntered (groups_in t.catalog) t.stores.items l entered) copies have);
  does = subst (λ olds. CommitsOps t.directory own entered olds (bare_all after)) room (subst (λ l. CommitsOps t.directory l entered (bare_all between) (bare_all after)) copies (subst (λ e. CommitsOps t.directory ops e (bare_all between) (bare_all after)) same does));
}

pub commit_ready : (t : Stored) (ops : List Op) (entered : Uses) (id : SessionId) → IsReadyCommit ops entered id t → (after : List Kept) → CommitsOps t.directory ops entered (bare_all t.stores.items) (bare_all after) → StoresCommit t (open_ops id (seen_all t.sessions)) after
commit_ready t ops entered id ready after does = record {
  entered = entered;
  have = subst (λ l. HaveEntered (groups_in t.catalog) (bare_all t.stores.items) l entered) ready.own ready.have;
  does = subst (λ l. CommitsOps t.directory l entered (bare_all t.stores.items) (bare_all after)) ready.own does;
}

-- groups that are spared so far

abbrev pub SparesTo : List Group → List Op → ℕ → Type 0
SparesTo groups ops n =
    (place : ℕ) (g : Group) → place < n → slice_get groups place ≡ Some g → hides_keys g ≡ true
    → list_any (λ op. same_table g.def.tree.root.table (table_of op)) ops ≡ false

pub spares_none : (groups : List Group) (ops : List Op) → SparesTo groups ops 0
spares_none groups ops place g lt at hides = absurd (omega (arith, lt))

pub spares_more : (groups : List Group) (ops : List Op) (n : ℕ) → SparesTo groups ops n → ((g : Group) → slice_get groups n ≡ Some g → hides_keys g ≡ true → list_any (λ op. same_table g.def.tree.root.table (table_of op)) ops ≡ false) → SparesTo groups ops (n + 1)
spares_more groups ops n so here place g lt at hides = by (nat_lt place n) refl
  where
    by : (b : Bool) → nat_lt place n ≡ b → list_any (λ op. same_table g.def.tree.root.table (table_of op)) ops ≡ false
    by true e = so place g (ltb-true place n e) at hides
    by false e =
        let no = ltb-false place n e in
        let same : place ≡ n = omega (arith, lt, no) in
        here g (ap (slice_get groups) (sym same) ∙ at) hides

within : (groups : List Group) (place : ℕ) (g : Group) → slice_get groups place ≡ Some g → place < length groups
within [] place g at = cc
within (x ∷ groups) zero g at = omega arith
within (x ∷ groups) (suc place) g at = let lt = within groups place g at in omega (arith, lt)

pub spares_all : (groups : List Group) (ops : List Op) (n : ℕ) → length groups ≤ n → SparesTo groups ops n → SparesHidden groups ops
spares_all groups ops n past so place g at hides = let lt = within groups place g at in so place g (omega (arith, lt, past)) at hides

-- operations that spare hidden keys leave the root rows of such groups

root_same : (op : Op) (s : Kept) → same_table s.table (table_of op) ≡ false → kept_at (op_done op s).tables 0 ≡ kept_at s.tables 0
root_same op s apart = by (place_in s (table_of op)) refl
  where
    not_first : (b : Bool) (o : Option ℕ) → b ≡ false → cond b (Some 0) (option_map suc o) ≡ Some 0 → ⊥
    not_first true o e is = cc
    not_first false None e is = cc
    not_first false (Some p) e is = cc

    last : Option ℕ
    last = position (λ l. same_table l.table (table_of op)) s.layers

    by : (o : Option ℕ) → place_in s (table_of op) ≡ o → kept_at (op_done op s).tables 0 ≡ kept_at s.tables 0
    by None e = ap (λ (k : Kept). kept_at k.tables 0) (op_absent op s e)
    by (Some zero) e = absurd (not_first (same_table s.table (table_of op)) last apart e)
    by (Some (suc p)) e = ap (λ ts. kept_at ts 0) (op_there op s (suc p) e) ∙ kept_else s.tables (suc p) (op_on (key_at s.key s.layers (suc p)) op) 0 (λ z. cc)

one_hiding : (schema : List TableDef) (g : Group) (s : Kept) (h : RowsHeld) (op : Op) → IsFor schema g.def.tree s → (hides_keys g ≡ true → same_table g.def.tree.root.table (table_of op) ≡ false) → IsHidingFor schema g s h → IsHidingFor schema g (op_done op s) h
one_hiding schema g s h op form apart is = record {
  key = is.key;
  room = λ hides.
      subst (λ (m : Table). len m ≤ h.spare) (sym (root_same op s (ap (λ t. same_table t (table_of op)) form.table ∙ apart hides)))
      (is.room hides);
  none = is.none;
}

abbrev Spares : Op → List Group → Type 0
Spares op groups = (place : ℕ) (g : Group) → slice_get groups place ≡ Some g → hides_keys g ≡ true → same_table g.def.tree.root.table (table_of op) ≡ false

number_hiding : (schema : List TableDef) (op : Op) (n : ℕ) (groups : List Group) (stores : List Kept) (hidden : List RowsHeld) → AreKept schema groups stores → Spares op groups → AreHiding schema groups stores hidden → AreHiding schema groups (at_number n (op_done op) stores) hidden
number_hiding schema op n groups [] hidden kept spares are = are
number_hiding schema op n [] (s ∷ stores) hidden kept spares are = absurd kept
number_hiding schema op zero (g ∷ groups) (s ∷ stores) [] kept spares are = absurd are
number_hiding schema op (suc n) (g ∷ groups) (s ∷ stores) [] kept spares are = absurd are
number_hiding schema op zero (g ∷ groups) (s ∷ stores) (h ∷ hidden) kept spares are = (one_hiding schema g s h op kept.0 (spares 0 g refl) are.0, are.1)
number_hiding schema op (suc n) (g ∷ groups) (s ∷ stores) (h ∷ hidden) kept spares are =
    (are.0, number_hiding schema op n groups stores hidden kept.1 (λ place x at. spares (suc place) x at) are.1)

home_hiding : (schema : List TableDef) (op : Op) (o : Option Home) (groups : List Group) (stores : List Kept) (hidden : List RowsHeld) → AreKept schema groups stores → Spares op groups → AreHiding schema groups stores hidden → AreHiding schema groups (at_home o (op_done op) stores) hidden
home_hiding schema op None groups stores hidden kept spares are = are
home_hiding schema op (Some home) groups stores hidden kept spares are = number_hiding schema op home.store groups stores hidden kept spares are

pub hiding_ops : (schema : List TableDef) (directory : List (Option Home)) (ops : List Op) (groups : List Group) (stores : List Kept) (hidden : List RowsHeld) → AreKept schema groups stores → SparesHidden groups ops → AreHiding schema groups stores hidden → AreHiding schema groups (ops_at directory ops stores) hidden
hiding_ops schema directory [] groups stores hidden kept spares are = are
hiding_ops schema directory (op ∷ ops) groups stores hidden kept spares are =
    hiding_ops schema directory ops groups (at_home (home_in directory op) (op_done op) stores) hidden (kept_home schema op (home_in directory op) groups stores kept)
    (λ place g at hides. (both (same_table g.def.tree.root.table (table_of op)) (list_any (λ o. same_table g.def.tree.root.table (table_of o)) ops) (spares place g at hides)).1)
    (home_hiding schema op (home_in directory op) groups stores hidden kept
    (λ place g at hides. (both (same_table g.def.tree.root.table (table_of op)) (list_any (λ o. same_table g.def.tree.root.table (table_of o)) ops) (spares place g at hides)).0)
    are)
  where
    both : (a b : Bool) → (a || b) ≡ false → (a ≡ false) × (b ≡ false)
    both true b e = cc
    both false b e = (refl, e)
