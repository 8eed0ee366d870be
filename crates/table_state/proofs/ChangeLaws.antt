-- Laws of changes of rows and of taking them back.
use Rattle.std.proofs.Common.{◌≡◌, ◌+◌, ◌-◌, ◌<◌, ◌^◌, ℕ, zero, suc, subst, arith, Bool, true, false, cond, not, ◌&&◌, Option, Some, None, OnSome, List, [], ◌∷◌, ◌++◌, slice_get, slice_set, unwrap_or, is_some, refl, sym, ap, ◌∙◌}
use Rattle.std.specs.Cmp.{eq_by_cmp_equiv}
use Rattle.std.specs.Ordering.{eq_by_cmp, is_eq}
use Rattle.std.specs.declared.cmp.Ordering.TheVariants.{Less, Equal, Greater}
use Rattle.std.specs.FinMap.{empty, contains_key, get, insert, len, remove, get-insert, get-remove, len-remove, same_map}
use Rattle.table_defs.specs.row_types.specs.declared.value.Value.{Value}
use Rattle.table_defs.specs.row_types.specs.Order.{key_order}
use Rattle.table_defs.specs.row_types.proofs.OrderLaws.{key_total, key_exact}
use Rattle.table_defs.specs.tier_base.specs.declared.number.TableId.{TableId}
use Rattle.table_state.specs.declared.operation.Op.{Op}
use Rattle.table_state.specs.declared.operation.Op.TheVariants.{Insert, Update, Delete}
use Rattle.table_state.specs.declared.refusal.ApplyError.{ApplyError}
use Rattle.table_state.specs.declared.change.Undo.{Undo}
use Rattle.indexed_rows.specs.Rows.{Table, is_same, key_of, put_in, put_over}
use Rattle.table_state.specs.Tables.{TableState, fits_columns, is_found, is_there, table_at}
use Rattle.table_state.specs.Operations.{applied, with_change, with_row, without_row}
use Rattle.table_state.specs.declared.refusal.ApplyError.TheVariants as error
use Rattle.table_state.specs.Refusals.{IsFault, SaysNone, broken_by, insert_fault, update_fault, delete_fault}
use Rattle.table_state.specs.Changes.{AllHaveRoom, HasRoom, IsKeyIn, LeadsBack, all_taken_back, taken_back, with_table}
use Rattle.indexed_rows.proofs.EntryLaws.{same_values}
use Rattle.table_state.proofs.RefusalLaws.{insert_is, update_is, delete_is, unbroken, stays_out}

abbrev Row : Type 0
Row = List Value

-- what replacing a row made
pub replaced : (m new : Table) (old : Option Row) (key row : Row) → old ≡ get m key → OnSome old (new ≡ insert m key row) → (old ≡ None → new ≡ m) → new ≡ put_over m key row
replaced m new None key row is some none = none refl ∙ ap (λ o. cond (is_some o) (insert m key row) m) is
replaced m new (Some old) key row is some none = some ∙ ap (λ o. cond (is_some o) (insert m key row) m) is

pub back_push : (undos : List Undo) (undo : Undo) (s : TableState) → all_taken_back (undos ++ undo ∷ []) s ≡ all_taken_back undos (taken_back undo s)
back_push [] undo s = refl
back_push (u ∷ undos) undo s = ap (taken_back u) (back_push undos undo s)

pub back_append : (first later : List Undo) (s : TableState) → all_taken_back (first ++ later) s ≡ all_taken_back first (all_taken_back later s)
back_append [] later s = refl
back_append (u ∷ first) later s = ap (taken_back u) (back_append first later s)

room_append : (first later : List Undo) (s : TableState) → AllHaveRoom later s → AllHaveRoom first (all_taken_back later s) → AllHaveRoom (first ++ later) s
room_append [] later s room more = room
room_append (u ∷ first) later s room more = (room_append first later s room more.0, subst (HasRoom u) (sym (back_append first later s)) more.1)

-- the last change has room, and those before it have when it is taken back
pub room_last : (undos : List Undo) (undo : Undo) (s : TableState) → AllHaveRoom (undos ++ undo ∷ []) s → HasRoom undo s × AllHaveRoom undos (taken_back undo s)
room_last [] undo s room = (room.1, tt)
room_last (u ∷ undos) undo s room =
    let others = room_last undos undo s room.0 in
    (others.0, (others.1, subst (HasRoom u) (back_push undos undo s) room.1))

-- changes on the state that others left
pub leads_on : (first later : List Undo) (before between behind : TableState) → LeadsBack first between before → LeadsBack later behind between → LeadsBack (first ++ later) behind before
leads_on first later before between behind a b = record {
  room = room_append first later behind b.room (subst (AllHaveRoom first) (sym b.back) a.room);
  back = back_append first later behind ∙ ap (all_taken_back first) b.back ∙ a.back;
}

-- one change more
pub leads_past : (undos : List Undo) (undo : Undo) (before between behind : TableState) → LeadsBack undos between before → taken_back undo behind ≡ between → HasRoom undo behind → LeadsBack (undos ++ undo ∷ []) behind before
leads_past undos undo before between behind a is room =
    leads_on undos (undo ∷ []) before between behind a (record { room = (tt, room); back = is })

-- a table of the state, set twice

set_back : (tables : List Table) (t : ℕ) (a : Table) (f : Table → Table) → ((m : Table) → slice_get tables t ≡ Some m → f a ≡ m) →
    slice_set (slice_set tables t a) t (f (unwrap_or (slice_get (slice_set tables t a) t) empty)) ≡ tables
set_back [] t a f h = refl
set_back (m ∷ tables) zero a f h = ap (λ x. x ∷ tables) (h m refl)
set_back (m ∷ tables) (suc t) a f h = ap (λ l. m ∷ l) (set_back tables t a f h)

pub state_back : (s : TableState) (t : TableId) (a : Table) (f : Table → Table) → ((m : Table) → slice_get s.tables t.0 ≡ Some m → f a ≡ m) → with_table (with_table s t a) t (f (table_at (with_table s t a) t)) ≡ s
state_back s t a f h = ap (λ tables. record { schema = s.schema; tables = tables }) (set_back s.tables t.0 a f h)

-- what a change and its taking back leave

pub unput : (m : Table) (key row : Row) → contains_key m key ≡ false → remove (put_in m key row) key ≡ m
unput m key row absent = ap (λ b. remove (cond b m (insert m key row)) key) absent ∙ same_map key_total key_exact (remove (insert m key row) key) m (λ q.
    get-remove key_total (insert m key row) key q ∙ ap (λ o. cond (eq_by_cmp key_order q key) None o) (get-insert key_total m key row q) ∙
    elim (key_order q key) as (λ r. key_order q key ≡ r → cond (is_eq r) None (cond (is_eq r) (Some row) (get m q)) ≡ get m q) [
      | Less ↦ λ e. refl
      | Equal ↦ λ e. sym (none_of (get m key) absent) ∙ ap (get m) (sym (key_exact q key e))
      | Greater ↦ λ e. refl
    ] refl)
  where
    none_of : (o : Option Row) → is_some o ≡ false → o ≡ None
    none_of None e = refl
    none_of (Some x) e = cc

pub unchange : (m : Table) (key old new : Row) → get m key ≡ Some old → put_over (insert m key new) key old ≡ m
unchange m key old new is = ap (λ b. cond b (insert (insert m key new) key old) (insert m key new)) (there key) ∙ same_map key_total key_exact (insert (insert m key new) key old) m (λ q.
    get-insert key_total (insert m key new) key old q ∙ ap (λ o. cond (eq_by_cmp key_order q key) (Some old) o) (get-insert key_total m key new q) ∙
    elim (key_order q key) as (λ r. key_order q key ≡ r → cond (is_eq r) (Some old) (cond (is_eq r) (Some new) (get m q)) ≡ get m q) [
      | Less ↦ λ e. refl
      | Equal ↦ λ e. sym is ∙ ap (get m) (sym (key_exact q key e))
      | Greater ↦ λ e. refl
    ] refl)
  where
    there : (k : Row) → is_some (get (insert m k new) k) ≡ true
    there k = ap is_some (get-insert key_total m k new k ∙ ap (λ b. cond b (Some new) (get m k)) ((eq_by_cmp_equiv key_total).refl k))

pub undelete : (m : Table) (key old : Row) → get m key ≡ Some old → put_in (remove m key) key old ≡ m
undelete m key old is = ap (λ b. cond b (remove m key) (insert (remove m key) key old)) gone ∙ same_map key_total key_exact (insert (remove m key) key old) m (λ q.
    get-insert key_total (remove m key) key old q ∙ ap (λ o. cond (eq_by_cmp key_order q key) (Some old) o) (get-remove key_total m key q) ∙
    elim (key_order q key) as (λ r. key_order q key ≡ r → cond (is_eq r) (Some old) (cond (is_eq r) None (get m q)) ≡ get m q) [
      | Less ↦ λ e. refl
      | Equal ↦ λ e. sym is ∙ ap (get m) (sym (key_exact q key e))
      | Greater ↦ λ e. refl
    ] refl)
  where
    gone : is_some (get (remove m key) key) ≡ false
    gone = ap is_some (get-remove key_total m key key ∙ ap (λ b. cond b None (get m key)) ((eq_by_cmp_equiv key_total).refl key))

-- only the same values are the same

pub row_found : (row : Row) (found : Option Row) → is_found row found ≡ true → found ≡ Some row
row_found row None e = cc
row_found row (Some found) e = ap Some (same_values found row e)

both_true : (a b : Bool) → (a && b) ≡ true → (a ≡ true) × (b ≡ true)
both_true true b e = (refl, e)
both_true false b e = cc

untrue : (b : Bool) → not b ≡ true → b ≡ false
untrue true e = cc
untrue false e = refl

same_some : {X : Type 0} {x y : X} → Some x ≡ Some y → x ≡ y
same_some e = cc

-- the table of a state that has it
at_table : (s : TableState) (t : TableId) (table : Table) → slice_get s.tables t.0 ≡ Some table → table_at s t ≡ table
at_table s t table e = ap (λ o. unwrap_or o empty) e

-- an unbroken operation and what it makes

pub inserted : (s : TableState) (t : TableId) (row key : Row) → broken_by (Insert t row) s ≡ None → IsKeyIn s t row key →
    (applied (Insert t row) s ≡ Some (with_table s t (put_in (table_at s t) key row))) × ((m : Table) → slice_get s.tables t.0 ≡ Some m → remove (put_in (table_at s t) key row) key ≡ m)
inserted s t row key none is_key =
    let (def, table, def_is, table_is, test, made) = unbroken s t (insert_fault s row) (with_row s row) _ (λ def table. insert table (key_of def.primary_key row) row) (insert_is s row) (λ def table. refl) none in
    let absent : contains_key table (key_of def.primary_key row) ≡ false = untrue _ (both_true _ _ (both_true _ _ test).0).1 in
    let at : table_at s t ≡ table = at_table s t table table_is in
    let key_is : key ≡ key_of def.primary_key row = is_key def def_is in
    let put : put_in (table_at s t) key row ≡ insert table (key_of def.primary_key row) row =
    ap (λ m. put_in m key row) at ∙ ap (λ k. put_in table k row) key_is ∙ ap (λ b. cond b table (insert table (key_of def.primary_key row) row)) absent in (
      made ∙ ap (λ m. Some (with_table s t m)) (sym put),
      λ m m_is. ap (λ x. remove (put_in x key row) key) at ∙ unput table key row (ap (contains_key table) key_is ∙ absent) ∙ same_some (sym table_is ∙ m_is),
    )

pub updated : (s : TableState) (t : TableId) (old new key : Row) → broken_by (Update t old new) s ≡ None → IsKeyIn s t old key →
    (applied (Update t old new) s ≡ Some (with_table s t (put_over (table_at s t) key new))) × ((m : Table) → slice_get s.tables t.0 ≡ Some m → put_over (put_over (table_at s t) key new) key old ≡ m)
updated s t old new key none is_key =
    let (def, table, def_is, table_is, test, made) = unbroken s t (update_fault s t old new) (with_change s old new) _ (λ def table. insert table (key_of def.primary_key new) new) (update_is s t old new) (λ def table. refl) none in
    let fits_same : (fits_columns def.columns new && is_same (key_of def.primary_key old) (key_of def.primary_key new)) ≡ true = (both_true _ _ (both_true _ _ test).0).0 in
    let there : is_there def old table ≡ true = (both_true _ _ (both_true _ _ test).0).1 in
    let same : key_of def.primary_key old ≡ key_of def.primary_key new = same_values _ _ (both_true _ _ fits_same).1 in
    let at : table_at s t ≡ table = at_table s t table table_is in
    let key_is : key ≡ key_of def.primary_key old = is_key def def_is in
    let found : get table key ≡ Some old = ap (get table) key_is ∙ row_found old _ there in
    let put : put_over (table_at s t) key new ≡ insert table key new =
    ap (λ m. put_over m key new) at ∙ ap (λ o. cond (is_some o) (insert table key new) table) found in (
      made ∙ ap (λ k. Some (with_table s t (insert table k new))) (sym (key_is ∙ same)) ∙ ap (λ m. Some (with_table s t m)) (sym put),
      λ m m_is. ap (λ x. put_over x key old) put ∙ unchange table key old new found ∙ same_some (sym table_is ∙ m_is),
    )

pub deleted : (s : TableState) (t : TableId) (old key : Row) → broken_by (Delete t old) s ≡ None → IsKeyIn s t old key →
    (applied (Delete t old) s ≡ Some (with_table s t (remove (table_at s t) key))) × ((m : Table) → slice_get s.tables t.0 ≡ Some m → put_in (remove (table_at s t) key) key old ≡ m)
deleted s t old key none is_key =
    let (def, table, def_is, table_is, test, made) = unbroken s t (delete_fault s t old) (without_row s t old) _ (λ def table. remove table (key_of def.primary_key old)) (delete_is s t old) (λ def table. refl) none in
    let at : table_at s t ≡ table = at_table s t table table_is in
    let found : get table key ≡ Some old = ap (get table) (is_key def def_is) ∙ row_found old _ (both_true _ _ test).0 in (
      made ∙ ap (λ k. Some (with_table s t (remove table k))) (sym (is_key def def_is)) ∙ ap (λ m. Some (with_table s t (remove m key))) (sym at),
      λ m m_is. ap (λ x. put_in (remove x key) key old) at ∙ undelete table key old found ∙ same_some (sym table_is ∙ m_is),
    )

set_at : (tables : List Table) (t : ℕ) (m a : Table) → slice_get tables t ≡ Some m → unwrap_or (slice_get (slice_set tables t a) t) empty ≡ a
set_at [] t m a e = cc
set_at (x ∷ tables) zero m a e = refl
set_at (x ∷ tables) (suc t) m a e = set_at tables t m a e

-- a table that a row left can take it back
pub deleted_room : (s : TableState) (t : TableId) (old key : Row) → broken_by (Delete t old) s ≡ None → IsKeyIn s t old key → len (table_at s t) < 2 ^ 63 → len (table_at (with_table s t (remove (table_at s t) key)) t) + 1 < 2 ^ 63
deleted_room s t old key none is_key held =
    let (def, table, def_is, table_is, test, made) = unbroken s t (delete_fault s t old) (without_row s t old) _ (λ def table. remove table (key_of def.primary_key old)) (delete_is s t old) (λ def table. refl) none in
    let at : table_at s t ≡ table = at_table s t table table_is in
    let found : get table key ≡ Some old = ap (get table) (is_key def def_is) ∙ row_found old _ (both_true _ _ test).0 in
    let left : table_at (with_table s t (remove (table_at s t) key)) t ≡ remove table key = set_at s.tables t.0 table (remove (table_at s t) key) table_is ∙ ap (λ m. remove m key) at in
    let fewer : len (remove table key) ≡ len table - 1 = len-remove key_total table key ∙ ap (λ o. cond (is_some o) (len table - 1) (len table)) found in
    omega (arith, ap len left, fewer, ap len at, held)

-- an operation applies exactly where it breaks no rule

pub applies : (op : Op) (s : TableState) → broken_by op s ≡ None → is_some (applied op s) ≡ true
applies (Insert t row) s none =
    let (def, table, def_is, table_is, test, made) = unbroken s t (insert_fault s row) (with_row s row) _ (λ def table. insert table (key_of def.primary_key row) row) (insert_is s row) (λ def table. refl) none in
    ap is_some made
applies (Update t old new) s none =
    let (def, table, def_is, table_is, test, made) = unbroken s t (update_fault s t old new) (with_change s old new) _ (λ def table. insert table (key_of def.primary_key new) new) (update_is s t old new) (λ def table. refl) none in
    ap is_some made
applies (Delete t old) s none =
    let (def, table, def_is, table_is, test, made) = unbroken s t (delete_fault s t old) (without_row s t old) _ (λ def table. remove table (key_of def.primary_key old)) (delete_is s t old) (λ def table. refl) none in
    ap is_some made

pub refuses : (op : Op) (s : TableState) (e : ApplyError) → broken_by op s ≡ Some e → applied op s ≡ None
refuses (Insert t row) s e some = stays_out s t (insert_fault s row) (with_row s row) _ (λ def table. insert table (key_of def.primary_key row) row) (insert_is s row) (λ def table. refl) e some
refuses (Update t old new) s e some = stays_out s t (update_fault s t old new) (with_change s old new) _ (λ def table. insert table (key_of def.primary_key new) new) (update_is s t old new) (λ def table. refl) e some
refuses (Delete t old) s e some = stays_out s t (delete_fault s t old) (without_row s t old) _ (λ def table. remove table (key_of def.primary_key old)) (delete_is s t old) (λ def table. refl) e some

-- where it applies it breaks none
pub unbroken_where_applied : (op : Op) (s n : TableState) → applied op s ≡ Some n → broken_by op s ≡ None
unbroken_where_applied op s n is = by (broken_by op s) refl
  where
    by : (f : Option ApplyError) → broken_by op s ≡ f → broken_by op s ≡ None
    by None e = e
    by (Some y) e = let none : applied op s ≡ None = refuses op s y e in cc

-- what a refusal says of the state behind
pub says_none : (op : Op) (s : TableState) (e : ApplyError) → IsFault (broken_by op s) e → SaysNone (applied op s) e
says_none op s (error.Rule rule) h = refuses op s (error.Rule rule) h
says_none op s (error.Differs t key row) h = refuses op s (error.Differs t key row) h
says_none op s error.Memory h = tt
