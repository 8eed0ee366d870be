-- Instances that are hidden: what is left of a store, and room for its root rows.
use Rattle.std.proofs.Common.{◌≡◌, ◌<◌, ◌≤◌, ◌+◌, ℕ, zero, suc, Bool, true, false, not, ◌&&◌, is_some, List, [], ◌∷◌, ◌++◌, length, arith, refl, sym, ap, ◌∙◌}
use Rattle.std.specs.FinMap as fm
use Rattle.row_types.specs.declared.value.Value.{Value}
use Rattle.row_types.specs.Order.{key_order}
use Rattle.indexed_rows.specs.Rows.{Table}
use Rattle.indexed_rows.proofs.EntryLaws.{same_itself}
use Rattle.instances.specs.Views.{kept_at}
use Rattle.slot_rows.specs.SlotKeys.{RowsHeld}
use Rattle.group_store.specs.Hiding.{hidden_with}
use Rattle.group_store.specs.Stores.{Kept, SameButSpare, cut_store}
use Rattle.group_store.specs.Trees.{leads}
use Rattle.aging_cycles.specs.Running.{HasRoom, cut_all, hidden_all}
use Rattle.aging_cycles.proofs.KeyLists.{not_led}
use Rattle.aging_cycles.proofs.RootRows.{fewer_rows, kept_through, one_fewer}

abbrev Row : Type 0
Row = List Value

module _ (key : Row) (store left : Kept) (gone : SameButSpare (cut_store 0 key store) left) where
  abbrev stays : Row → Bool
  stays = λ k. not (leads store.layers store.tables 0 key (length store.layers) 0 k)

  roots_left : kept_at left.tables 0 ≡ fm.retain_keys (kept_at store.tables 0) stays
  roots_left = ap (λ ts. kept_at ts 0) gone.tables ∙ kept_through (λ place k. not (leads store.layers store.tables 0 key (length store.layers) place k)) store.tables 0

  pub few : fm.len (kept_at left.tables 0) ≤ fm.len (kept_at store.tables 0)
  few = let same = ap (λ (m : Table). fm.len m) roots_left in let le = fewer_rows (kept_at store.tables 0) stays in omega (arith, same, le)

  pub fewer : fm.contains_key (kept_at store.tables 0) key ≡ true → fm.len (kept_at left.tables 0) + 1 ≤ fm.len (kept_at store.tables 0)
  fewer has =
      let out : stays key ≡ false = ap not (not_led store key key ∙ (λ i. same_itself key key refl i && has i)) in
      let same = ap (λ (m : Table). fm.len m) roots_left in
      let le = one_fewer (kept_at store.tables 0) stays key has out in
      omega (arith, same, le)

-- there is room for a root row that is there
pub has_room : (store : Kept) (h : RowsHeld) (key : Row) → fm.contains_key (kept_at store.tables 0) key ≡ true → HasRoom store h → 0 < h.spare
has_room store h key has room = by (fm.len (kept_at store.tables 0)) refl
  where
    by : (n : ℕ) → fm.len (kept_at store.tables 0) ≡ n → 0 < h.spare
    by zero e = let z : false ≡ true = sym (ap is_some (fm.get-empty key_order key)) ∙ ap (λ m. fm.contains_key m key) (sym (fm.empty_of_len (kept_at store.tables 0) e)) ∙ has in cc
    by (suc n) e = omega (arith, room, e)

-- one after another

pub hidden_end : (keys : List Row) (key : Row) (s : Kept) (hid : Table) → hidden_all (keys ++ key ∷ []) s hid ≡ hidden_with (fm.get (kept_at (cut_all keys s).tables 0) key) key (hidden_all keys s hid)
hidden_end [] key s hid = refl
hidden_end (k ∷ keys) key s hid = hidden_end keys key (cut_store 0 k s) (hidden_with (fm.get (kept_at s.tables 0) k) k hid)
