-- What an instance that comes makes of what a group shows.
use Rattle.std.proofs.Common.{◌≡◌, ℕ, zero, suc, ◌+◌, Bool, true, false, cond, List, [], ◌∷◌, length, map, slice_get, Option, Some, None, refl, sym, ap, subst, ◌∙◌, arith}
use Rattle.std.specs.Option.{option_map}
use Rattle.std.specs.FinMap as fm
use Rattle.slot_rows.specs.row_types.specs.declared.value.Value.{Value}
use Rattle.slot_rows.specs.row_types.proofs.OrderLaws.{key_exact}
use Rattle.slot_rows.specs.tier_base.specs.declared.number.TableId.{TableId}
use Rattle.slot_rows.specs.indexed_rows.specs.Rows.{Table, is_same, key_of, put_in}
use Rattle.slot_rows.specs.indexed_rows.proofs.EntryLaws.{at_has}
use Rattle.cache_store.specs.table_state.specs.Sound.{IsTableState}
use Rattle.cache_store.specs.table_state.specs.Tables.{TableState, table_at}
use Rattle.cache_store.specs.instances.specs.declared.tree.Child.{Child}
use Rattle.cache_store.specs.instances.specs.declared.tree.Tree.{Tree}
use Rattle.cache_store.specs.instances.specs.Trees.{is_sound, table_of}
use Rattle.cache_store.specs.instances.specs.Views.{instance_of, kept_at, passes, root_rows, selects}
use Rattle.cache_store.specs.instances.proofs.Gathering.{get_where}
use Rattle.slot_rows.specs.SlotKeys.{IsKeyedBy}
use Rattle.cache_store.specs.Operating.{change_at}
use Rattle.cache_store.specs.Shown.{shown_of, tables_with, with_rows}
use Rattle.cache_store.proofs.AboveLaws.{above}
use Rattle.cache_store.proofs.JoinLaws.{put_shown}
use Rattle.cache_store.proofs.OwnLaws.{keeps}
use Rattle.cache_store.proofs.ShownLaws.{shown_length}
use Rattle.group_store.specs.Keeping.{IsFor, KeepsOneMore}
use Rattle.group_store.specs.Stores.{Kept, put_rows, put_store, put_tables}
use Rattle.group_store.specs.Trees.{key_at}
use Rattle.group_store.proofs.FormLaws.{defined, key_for, primary}

abbrev Row : Type 0
Row = List Value

change_none : (p : ℕ) (ts : List Table) → change_at p (λ t. t) ts ≡ ts
change_none p [] = refl
change_none zero (t ∷ ts) = refl
change_none (suc p) (t ∷ ts) = ap (λ l. t ∷ l) (change_none p ts)

change_both : (p : ℕ) (f g : Table → Table) (ts : List Table) → change_at p g (change_at p f ts) ≡ change_at p (λ t. g (f t)) ts
change_both p f g [] = refl
change_both zero f g (t ∷ ts) = refl
change_both (suc p) f g (t ∷ ts) = ap (λ l. t ∷ l) (change_both p f g ts)

-- a row with its key
abbrev keyed_row : List ℕ → Row → Row × Row
keyed_row places row = (key_of places row, row)

rows_in_one : (place : ℕ) (rows : List Row) (k : Kept) → (put_rows place rows k).tables ≡ change_at place (λ t. with_rows t (map (keyed_row (key_at k.key k.layers place)) rows)) k.tables
rows_in_one place [] k = sym (change_none place k.tables)
rows_in_one place (row ∷ rows) k =
    let places = key_at k.key k.layers place in
    rows_in_one place rows (put_store place row k)
    ∙ change_both place (λ t. put_in t (key_of places row) row) (λ t. with_rows t (map (keyed_row places) rows)) k.tables

-- the tree stays
record Form (a b : Kept) : Type 0 where
  table : b.table ≡ a.table
  key : b.key ≡ a.key
  foreign : b.foreign ≡ a.foreign
  layers : b.layers ≡ a.layers

form_rows : (place : ℕ) (rows : List Row) (k : Kept) → Form k (put_rows place rows k)
form_rows place [] k = record { table = refl; key = refl; foreign = refl; layers = refl }
form_rows place (row ∷ rows) k = let f = form_rows place rows (put_store place row k) in record { table = f.table; key = f.key; foreign = f.foreign; layers = f.layers }

form_tables : (place : ℕ) (tables : List (List Row)) (k : Kept) → Form k (put_tables place tables k)
form_tables place [] k = record { table = refl; key = refl; foreign = refl; layers = refl }
form_tables place (rows ∷ tables) k =
    let f = form_rows place rows k in
    let g = form_tables (suc place) tables (put_rows place rows k) in
    record { table = g.table ∙ f.table; key = g.key ∙ f.key; foreign = g.foreign ∙ f.foreign; layers = g.layers ∙ f.layers }

-- rows that stand under their keys are the entries
entries_by : (places : List ℕ) (es : List (Row × Row)) → ((i : ℕ) (e : Row × Row) → slice_get es i ≡ Some e → key_of places e.1 ≡ e.0) → map (keyed_row places) (map (λ e. e.1) es) ≡ es
entries_by places [] h = refl
entries_by places (e ∷ es) h =
    let first : keyed_row places e.1 ≡ e = ap (λ k. (k, e.1)) (h 0 e refl) in
    let rest = entries_by places es (λ i x at. h (suc i) x at) in
    λ i. first i ∷ rest i

keyed_entries : (places : List ℕ) (t : Table) → IsKeyedBy places t → map (keyed_row places) (fm.values t) ≡ fm.entries t
keyed_entries places t keyed = entries_by places (fm.entries t) (λ i e at. keyed e.0 e.1 (at_has t i e at))

-- one table after another
abbrev changed_from : ℕ → List Table → List Table → List Table
changed_from n [] ts = ts
changed_from n (b ∷ bs) ts = changed_from (suc n) bs (change_at n (λ t. with_rows t (fm.entries b)) ts)

shifted : (n : ℕ) (bs : List Table) (t : Table) (ts : List Table) → changed_from (suc n) bs (t ∷ ts) ≡ t ∷ changed_from n bs ts
shifted n [] t ts = refl
shifted n (b ∷ bs) t ts = shifted (suc n) bs t (change_at n (λ t. with_rows t (fm.entries b)) ts)

all_changed : (ts bs : List Table) → length ts ≡ length bs → changed_from 0 bs ts ≡ tables_with ts bs
all_changed [] [] e = refl
all_changed [] (b ∷ bs) e = absurd (omega (arith, e))
all_changed (t ∷ ts) [] e = refl
all_changed (t ∷ ts) (b ∷ bs) e = shifted 0 bs (with_rows t (fm.entries b)) ts ∙ ap (λ l. with_rows t (fm.entries b) ∷ l) (all_changed ts bs (omega (arith, e)))

abbrev AreKeyed : ℕ → List Table → Kept → Type 0
AreKeyed n bs k = (i : ℕ) (b : Table) → slice_get bs i ≡ Some b → IsKeyedBy (key_at k.key k.layers (n + i)) b

tables_in : (n : ℕ) (bs : List Table) (k : Kept) → AreKeyed n bs k → (put_tables n (map fm.values bs) k).tables ≡ changed_from n bs k.tables
tables_in n [] k keyed = refl
tables_in n (b ∷ bs) k keyed =
    let m = put_rows n (fm.values b) k in
    let f = form_rows n (fm.values b) k in
    let z : n + 0 ≡ n = omega arith in
    let first = subst (λ p. IsKeyedBy (key_at k.key k.layers p) b) z (keyed 0 b refl) in
    tables_in (suc n) bs m (λ i x at. let w : n + suc i ≡ suc n + i = omega arith in
    subst (λ ls. IsKeyedBy (key_at m.key ls (suc n + i)) x) (sym f.layers) (subst (λ ks. IsKeyedBy (key_at ks k.layers (suc n + i)) x) (sym f.key) (subst (λ p. IsKeyedBy (key_at k.key k.layers p) x) w (keyed (suc i) x at))))
    ∙ ap (changed_from (suc n) bs) (rows_in_one n (fm.values b) k ∙ ap (λ es. change_at n (λ t. with_rows t es) k.tables) (keyed_entries (key_at k.key k.layers n) b first))

module _ (s : TableState) (tree : Tree) (is : IsTableState s) (sound : is_sound s.schema tree ≡ true) (k : Kept) (form : IsFor s.schema tree k) (q : Row → Bool) where
  under : (place : ℕ) (t : TableId) → table_of tree place ≡ Some t → (key row : Row) → fm.get (table_at s t) key ≡ Some row → key_of (key_at k.key k.layers place) row ≡ key
  under place t there key row found =
      let d = defined s.schema tree sound place t there in
      ap (λ ps. key_of ps row) (key_for s.schema tree k form place t there ∙ primary s.schema t d.0 d.1) ∙ is.keys t d.0 d.1 key row found

  in_table : (b : Bool) (v : Option Row) (row : Row) → cond b v None ≡ Some row → v ≡ Some row
  in_table true v row e = e
  in_table false v row e = cc

  shown_keyed : (place : ℕ) → IsKeyedBy (key_at k.key k.layers place) (kept_at (shown_of s tree q) place)
  shown_keyed zero key row e =
      let R = root_rows s tree.root in
      let first = ap (λ t. fm.get t key) (sym (keeps s tree.children (fm.retain_keys R q ∷ []) 0 (omega arith))) ∙ e in
      let kept = in_table (q key) (fm.get R key) row (sym (fm.get-retain_keys R q key (λ x tie. ap q (sym (key_exact key x tie)))) ∙ first) in
      let found = in_table (passes (selects tree.root.filter) (fm.get (table_at s tree.root.table) key)) (fm.get (table_at s tree.root.table) key) row (sym (get_where (selects tree.root.filter) (table_at s tree.root.table) key) ∙ kept) in
      under 0 tree.root.table refl key row found
  shown_keyed (suc i) key row e =
      let a = above s tree q i key row e in
      under (suc i) a.child.table (ap (option_map (λ (c : Child). c.table)) a.there) key row a.found

  at_place_of : (bs : List Table) (i : ℕ) (b : Table) → slice_get bs i ≡ Some b → kept_at bs i ≡ b
  at_place_of [] i b e = cc
  at_place_of (x ∷ bs) zero b e = let z : x ≡ b = cc in z
  at_place_of (x ∷ bs) (suc i) b e = at_place_of bs i b e

  pub are_keyed : AreKeyed 0 (shown_of s tree q) k
  are_keyed i b at = let z : 0 + i ≡ i = omega arith in subst (IsKeyedBy (key_at k.key k.layers (0 + i))) (at_place_of (shown_of s tree q) i b at) (subst (λ p. IsKeyedBy (key_at k.key k.layers p) (kept_at (shown_of s tree q) i)) (sym z) (shown_keyed i))

pub keeps_one_more : (s : TableState) (tree : Tree) → KeepsOneMore s tree
keeps_one_more s tree p root k is sound keeps =
    let one : List Table = instance_of s tree root in
    let f = form_tables 0 (map fm.values one) k in
    let form = keeps.form in
    record {
      form = record { table = f.table ∙ form.table; key = f.key ∙ form.key; foreign = f.foreign ∙ form.foreign; layers = f.layers ∙ form.layers };
      tables = tables_in 0 one k (are_keyed s tree is sound k form (λ key. is_same key root)) ∙ ap (changed_from 0 one) keeps.tables
          ∙ all_changed (shown_of s tree p) one (shown_length s tree p ∙ sym (shown_length s tree (λ key. is_same key root))) ∙ put_shown s tree p root;
    }
