-- Instances that leave by time, the last in key order first.
use Rattle.std.proofs.Common.{◌≡◌, ◌<◌, ◌≤◌, ◌+◌, ℕ, zero, suc, ℤ, Bool, true, false, not, cond, ◌&&◌, ◌||◌, Option, Some, None, is_some, List, [], ◌∷◌, ◌++◌, filter, length, map, reverse, take, slice_get, arith, refl, sym, ap, subst, ◌∙◌}
use Rattle.std.specs.Bool.{MatchBool}
use Rattle.std.specs.Option.{option_map}
use Rattle.std.specs.FinMap as fm
use Rattle.row_types.specs.declared.value.Value.{Value}
use Rattle.indexed_rows.specs.Rows.{is_same, key_of, value_at}
use Rattle.instances.specs.Views.{kept_at}
use Rattle.instances.proofs.Gathering.{entry_found}
use Rattle.session_state.specs.declared.session.Session.{Session}
use Rattle.slot_rows.specs.SlotKeys.{IsKeyedBy, RowsHeld}
use Rattle.group_store.specs.Hiding.{hidden_with}
use Rattle.group_store.specs.Stores.{Kept, SameButSpare, cut_store}
use Rattle.cache_tier.specs.Groups.{is_key}
use Rattle.cache_tier.specs.Shown.{is_past}
use Rattle.stored_tier.proofs.GatherLaws.{values_long}
use Rattle.aging_cycles.specs.Busy.{is_busy_at, is_kept_by}
use Rattle.aging_cycles.specs.Cycles.{expired_in, is_expired}
use Rattle.aging_cycles.specs.Running.{Leaves, cut_all, hidden_all}
use Rattle.aging_cycles.specs.Walking.{AllStays, IsEntryAt, LooksAt}
use Rattle.aging_cycles.proofs.HiddenLaws.{fewer, hidden_end}
use Rattle.aging_cycles.proofs.KeyLists.{root_cut}
use Rattle.aging_cycles.proofs.LeavingKeys.{turned_end}
use Rattle.aging_cycles.proofs.RootPlaces.{front_left}
use Rattle.aging_cycles.proofs.StillHeld.{held_same, held_still}
use Rattle.aging_cycles.proofs.Walks.{cut_end, cut_same, keys_step, same_two, take_all}

abbrev Row : Type 0
Row = List Value

-- lists from their ends

at_end : {X : Type 0} (xs : List X) (x : X) (n : ℕ) → n ≡ length xs → slice_get (xs ++ x ∷ []) n ≡ Some x
at_end [] x zero e = refl
at_end [] x (suc n) e = absurd (omega (arith, e))
at_end (y ∷ xs) x zero e = absurd (omega (arith, e))
at_end (y ∷ xs) x (suc n) e = at_end xs x n (omega (arith, e))

at_front : {X : Type 0} (xs ys : List X) (n : ℕ) (x : X) → slice_get xs n ≡ Some x → slice_get (xs ++ ys) n ≡ Some x
at_front [] ys n x e = cc
at_front (y ∷ xs) ys zero x e = e
at_front (y ∷ xs) ys (suc n) x e = at_front xs ys n x e

turned_long : {X : Type 0} (xs : List X) → length (reverse xs) ≡ length xs
turned_long [] = refl
turned_long (x ∷ xs) = ap length (turned_end x xs) ∙ long (reverse xs) x ∙ ap suc (turned_long xs)
  where
    long : {X : Type 0} (ys : List X) (y : X) → length (ys ++ y ∷ []) ≡ suc (length ys)
    long [] y = refl
    long (z ∷ ys) y = ap suc (long ys y)

turned_at : {X : Type 0} (xs : List X) (n at : ℕ) (x : X) → n + suc at ≡ length xs → slice_get xs at ≡ Some x → slice_get (reverse xs) n ≡ Some x
turned_at [] n at x e there = cc
turned_at (y ∷ xs) n zero x e there =
    let same : y ≡ x = cc in
    let long = turned_long xs in
    ap (λ l. slice_get l n) (turned_end y xs) ∙ at_end (reverse xs) y n (omega (arith, e, long)) ∙ ap Some same
turned_at (y ∷ xs) n (suc at) x e there =
    ap (λ l. slice_get l n) (turned_end y xs) ∙ at_front (reverse xs) (y ∷ []) n x (turned_at xs n at x (omega (arith, e)) there)

pub value_at_place : (es : List (Row × Row)) (i : ℕ) (k row : Row) → slice_get es i ≡ Some (k, row) → slice_get (map (λ (e : Row × Row). e.1) es) i ≡ Some row
value_at_place [] i k row e = cc
value_at_place (x ∷ es) zero k row e = ap (λ (o : Option (Row × Row)). option_map (λ (y : Row × Row). y.1) o) e
value_at_place (x ∷ es) (suc i) k row e = value_at_place es i k row e

pub key_at_place : (es : List (Row × Row)) (i : ℕ) (k row : Row) → slice_get es i ≡ Some (k, row) → slice_get (map (λ (e : Row × Row). e.0) es) i ≡ Some k
key_at_place [] i k row e = cc
key_at_place (x ∷ es) zero k row e = ap (λ (o : Option (Row × Row)). option_map (λ (y : Row × Row). y.0) o) e
key_at_place (x ∷ es) (suc i) k row e = key_at_place es i k row e

-- a root that has left has no row
cut_none : (ks : List Row) (s : Kept) (q : Row) → is_key ks q ≡ true → fm.get (kept_at (cut_all ks s).tables 0) q ≡ None
cut_none [] s q e = cc
cut_none (k ∷ ks) s q e = by (is_same q k) refl e (λ h. cut_none ks (cut_store 0 k s) q h)
  where
    gone : (ks : List Row) (x : Kept) → fm.get (kept_at x.tables 0) q ≡ None → fm.get (kept_at (cut_all ks x).tables 0) q ≡ None
    gone [] x h = h
    gone (l ∷ ks) x h = gone ks (cut_store 0 l x) (root_cut l x q ∙ ap (λ o. cond (is_same q l) None o) h ∙ both (is_same q l))
      where
        both : (b : Bool) → cond b (let o : Option Row = None in o) None ≡ None
        both true = refl
        both false = refl

    by : (b : Bool) → is_same q k ≡ b → (b || is_key ks q) ≡ true → (is_key ks q ≡ true → fm.get (kept_at (cut_all ks (cut_store 0 k s)).tables 0) q ≡ None) → fm.get (kept_at (cut_all ks (cut_store 0 k s)).tables 0) q ≡ None
    by true h x rest = gone ks (cut_store 0 k s) (root_cut k s q ∙ ap (λ b. cond b None (fm.get (kept_at s.tables 0) q)) h)
    by false h x rest = rest x

-- one more has left
leaves_more : (hides : Bool) (ks : List Row) (key : Row) (s now new : Kept) (h x y : RowsHeld) → Leaves hides ks s now h x → Leaves hides (key ∷ []) now new x y → Leaves hides (ks ++ key ∷ []) s new h y
leaves_more hides ks key s now new h x y before step = record {
  gone = subst (λ z. SameButSpare z new) (sym (cut_end ks key s)) (same_two (cut_store 0 key (cut_all ks s)) (cut_store 0 key now) new (cut_same key (cut_all ks s) now before.gone) step.gone);
  rows = by hides before.rows step.rows;
  key = step.key ∙ before.key;
  room = λ yes room. step.room yes (before.room yes room);
}
  where
    by : (b : Bool) → x.table ≡ cond b (hidden_all ks s h.table) h.table → y.table ≡ cond b (hidden_with (fm.get (kept_at now.tables 0) key) key x.table) x.table → y.table ≡ cond b (hidden_all (ks ++ key ∷ []) s h.table) h.table
    by true e f = f ∙ (λ i. hidden_with (fm.get (kept_at (before.gone.tables i) 0) key) key (e i)) ∙ sym (hidden_end ks key s h.table)
    by false e f = f ∙ e

-- one leaves, or is hidden

pub leaves_taken : (root : Row) (s left : Kept) (h : RowsHeld) → SameButSpare (cut_store 0 root s) left → Leaves false (root ∷ []) s left h h
leaves_taken root s left h gone = record { gone = gone; rows = refl; key = refl; room = λ yes room. cc }

pub leaves_hidden : (root : Row) (s left : Kept) (h behind : RowsHeld) → fm.contains_key (kept_at s.tables 0) root ≡ true → SameButSpare (cut_store 0 root s) left → behind.table ≡ hidden_with (fm.get (kept_at s.tables 0) root) root h.table → behind.places ≡ h.places → h.spare ≤ behind.spare + 1
    → Leaves true (root ∷ []) s left h behind
leaves_hidden root s left h behind has gone rows places spare = record {
  gone = gone;
  rows = rows;
  key = places;
  room = λ yes room. (let le = fewer root s left gone has in omega (arith, le, room, spare));
}

-- so many have been looked at
pub record Looked (hides : Bool) (horizon : Option ℤ) (column : ℕ) (sessions : List Session) (n : ℕ) (s now : Kept) (h x : RowsHeld) : Type 0 where
  pub left : Leaves hides (map (key_of s.key) (filter (λ row. is_expired horizon column (is_busy_at sessions s) (key_of s.key row) row) (take n (reverse (fm.values (kept_at s.tables 0)))))) s now h x
  pub front : (i : ℕ) → i + n < fm.len (kept_at s.tables 0) → slice_get (fm.entries (kept_at now.tables 0)) i ≡ slice_get (fm.entries (kept_at s.tables 0)) i

pub look_start : (hides : Bool) (horizon : Option ℤ) (column : ℕ) (sessions : List Session) (s : Kept) (h : RowsHeld) → Looked hides horizon column sessions 0 s s h h
look_start hides horizon column sessions s h = record {
  left = subst (λ l. Leaves hides (map (key_of s.key) (filter (λ row. is_expired horizon column (is_busy_at sessions s) (key_of s.key row) row) l)) s s h h) (sym (take_none (reverse (fm.values (kept_at s.tables 0)))))
      (record { gone = record { table = refl; key = refl; foreign = refl; layers = refl; tables = refl; keys = refl }; rows = by hides; key = refl; room = λ yes room. room });
  front = λ i lt. refl;
}
  where
    take_none : {X : Type 0} (xs : List X) → take 0 xs ≡ []
    take_none [] = refl
    take_none (x ∷ xs) = refl

    by : (b : Bool) → h.table ≡ cond b h.table h.table
    by true = refl
    by false = refl

pub look_end : (hides : Bool) (horizon : Option ℤ) (column : ℕ) (sessions : List Session) (n : ℕ) (s now : Kept) (h x : RowsHeld) → Looked hides horizon column sessions n s now h x → fm.len (kept_at s.tables 0) ≤ n
    → Leaves hides (expired_in horizon column (is_busy_at sessions s) s.key (kept_at s.tables 0)) s now h x
look_end hides horizon column sessions n s now h x l le =
    let long = turned_long (fm.values (kept_at s.tables 0)) ∙ values_long (kept_at s.tables 0) in
    subst (λ rows. Leaves hides (map (key_of s.key) (filter (λ row. is_expired horizon column (is_busy_at sessions s) (key_of s.key row) row) rows)) s now h x)
    (take_all (reverse (fm.values (kept_at s.tables 0))) n (omega (arith, long, le))) l.left

cut_key : (ks : List Row) (s : Kept) → (cut_all ks s).key ≡ s.key
cut_key [] s = refl
cut_key (k ∷ ks) s = cut_key ks (cut_store 0 k s)

pub look_key : (hides : Bool) (horizon : Option ℤ) (column : ℕ) (sessions : List Session) (n : ℕ) (s now : Kept) (h x : RowsHeld) → Looked hides horizon column sessions n s now h x → h.places ≡ s.key → x.places ≡ now.key
look_key hides horizon column sessions n s now h x l key =
    l.left.key ∙ key ∙ sym (l.left.gone.key ∙ cut_key (map (key_of s.key) (filter (λ row. is_expired horizon column (is_busy_at sessions s) (key_of s.key row) row) (take n (reverse (fm.values (kept_at s.tables 0)))))) s)

-- one more is looked at
module _ (hides : Bool) (horizon : Option ℤ) (column : ℕ) (sessions : List Session) (n at : ℕ) (s now new : Kept) (h x y : RowsHeld) (gone : Bool) (keyed : IsKeyedBy s.key (kept_at s.tables 0))
    (within : n + suc at ≡ fm.len (kept_at s.tables 0)) (l : Looked hides horizon column sessions n s now h x)
    (looks : (root row : Row) → IsEntryAt (fm.entries (kept_at now.tables 0)) root row at → LooksAt hides horizon column (is_busy_at sessions now) root row now new x y gone) where
  abbrev test : Row → Bool
  test = λ row. is_expired horizon column (is_busy_at sessions s) (key_of s.key row) row

  abbrev out : List Row
  out = map (key_of s.key) (filter (λ row. is_expired horizon column (is_busy_at sessions s) (key_of s.key row) row) (take n (reverse (fm.values (kept_at s.tables 0)))))

  found : (k : Row) × (row : Row) × (slice_get (fm.entries (kept_at s.tables 0)) at ≡ Some (k, row))
  found = entry_there (fm.entries (kept_at s.tables 0)) at (let long = fm.len-entries (kept_at s.tables 0) in omega (arith, within, long))
    where
      entry_there : (es : List (Row × Row)) (i : ℕ) → i < length es → (k : Row) × (row : Row) × (slice_get es i ≡ Some (k, row))
      entry_there [] i lt = absurd (omega (arith, lt))
      entry_there (e ∷ es) zero lt = (e.0, e.1, refl)
      entry_there (e ∷ es) (suc i) lt = entry_there es i (omega (arith, lt))

  abbrev root : Row
  root = found.0

  abbrev row : Row
  row = found.1

  here : slice_get (fm.entries (kept_at now.tables 0)) at ≡ Some (found.0, found.1)
  here = l.front at (omega (arith, within)) ∙ found.2

  its : LooksAt hides horizon column (is_busy_at sessions now) found.0 found.1 now new x y gone
  its = looks found.0 found.1 here

  row_now : fm.get (kept_at now.tables 0) found.0 ≡ Some found.1
  row_now = entry_found (kept_at now.tables 0) at (found.0, found.1) here

  key_is : key_of s.key found.1 ≡ found.0
  key_is = keyed found.0 found.1 (entry_found (kept_at s.tables 0) at (found.0, found.1) found.2)

  not_out : is_key (map (key_of s.key) (filter (λ row. is_expired horizon column (is_busy_at sessions s) (key_of s.key row) row) (take n (reverse (fm.values (kept_at s.tables 0)))))) found.0 ≡ false
  not_out = by (is_key out found.0) refl
    where
      by : (b : Bool) → is_key (map (key_of s.key) (filter (λ row. is_expired horizon column (is_busy_at sessions s) (key_of s.key row) row) (take n (reverse (fm.values (kept_at s.tables 0)))))) found.0 ≡ b → b ≡ false
      by true e = let wrong : Some found.1 ≡ None = sym row_now ∙ ap (λ ts. fm.get (kept_at ts 0) found.0) l.left.gone.tables ∙ cut_none out s found.0 e in cc
      by false e = refl

  same_busy : is_busy_at sessions now found.0 ≡ is_busy_at sessions s found.0
  same_busy = held_same (is_kept_by sessions) (cut_all out s) now found.0 l.left.gone ∙ held_still (is_kept_by sessions) out s found.0 not_out

  tells : gone ≡ is_expired horizon column (is_busy_at sessions s) (key_of s.key found.1) found.1
  tells =
      its.tells ∙ ap (λ b. not (is_past horizon (value_at found.1 column)) && not b) (same_busy ∙ ap (is_busy_at sessions s) (sym key_is))

  turned : slice_get (reverse (fm.values (kept_at s.tables 0))) n ≡ Some found.1
  turned = turned_at (fm.values (kept_at s.tables 0)) n at found.1 (within ∙ sym (values_long (kept_at s.tables 0))) (value_at_place (fm.entries (kept_at s.tables 0)) at found.0 found.1 found.2)

  -- the keys that have left then
  keys_then : (new_out : List Row) → new_out ≡ out ++ cond gone (found.0 ∷ []) [] → new_out ≡ map (key_of s.key) (filter (λ row. is_expired horizon column (is_busy_at sessions s) (key_of s.key row) row) (take (n + 1) (reverse (fm.values (kept_at s.tables 0)))))
  keys_then new_out is =
      keys_step (key_of s.key) (λ row. is_expired horizon column (is_busy_at sessions s) (key_of s.key row) row) (reverse (fm.values (kept_at s.tables 0))) n found.1 out new_out turned refl
      (is ∙ (λ i. out ++ cond (tells i) (sym key_is i ∷ []) []))

  -- where it stays nothing changes
  pub look_same : gone ≡ false → new ≡ now
  look_same e = (subst (λ b. MatchBool b (Leaves hides (found.0 ∷ []) now new x y) (AllStays now new x y)) e its.does).store

  pub look_more : Looked hides horizon column sessions (n + 1) s new h y
  look_more = by gone refl its.does
    where
      none_more : (xs : List Row) → xs ++ [] ≡ xs
      none_more [] = refl
      none_more (z ∷ xs) = ap (λ l. z ∷ l) (none_more xs)

      by : (b : Bool) → gone ≡ b → MatchBool b (Leaves hides (found.0 ∷ []) now new x y) (AllStays now new x y) → Looked hides horizon column sessions (n + 1) s new h y
      by true e leaves = record {
        left = subst (λ ks. Leaves hides ks s new h y) (keys_then (out ++ found.0 ∷ []) (ap (λ b. out ++ cond b (found.0 ∷ []) []) (sym e))) (leaves_more hides out found.0 s now new h x y l.left leaves);
        front = λ i lt.
            front_left now new found.0 leaves.gone (ap is_some row_now) at i (key_at_place (fm.entries (kept_at now.tables 0)) at found.0 found.1 here) (omega (arith, lt, within))
            ∙ l.front i (omega (arith, lt));
      }
      by false e stays = record {
        left = subst (λ ks. Leaves hides ks s new h y) (keys_then out (sym (none_more out) ∙ ap (λ b. out ++ cond b (found.0 ∷ []) []) (sym e)))
            (subst (λ z. Leaves hides out s z h y) (sym stays.store) (subst (λ (z : RowsHeld). Leaves hides out s now h z) (sym stays.hidden) l.left));
        front = λ i lt. ap (λ (z : Kept). slice_get (fm.entries (kept_at z.tables 0)) i) stays.store ∙ l.front i (omega (arith, lt));
      }

-- one that is looked at and leaves
pub looks_gone : (by : Bool) (horizon : Option ℤ) (column at : ℕ) (busy : Row → Bool) (root row it : Row) (past held : Bool) (s left : Kept) (h behind : RowsHeld) → IsEntryAt (fm.entries (kept_at s.tables 0)) root row at → Some it ≡ slice_get (fm.values (kept_at s.tables 0)) at
    → past ≡ is_past horizon (value_at it column) → past ≡ false → held ≡ busy root → held ≡ false → Leaves by (root ∷ []) s left h behind → LooksAt by horizon column busy root row s left h behind true
looks_gone by horizon column at busy root row it past held s left h behind here is past_is past_no held_is held_no leaves = record {
  tells = sym ((λ i. not ((ap (λ r. is_past horizon (value_at r column)) same ∙ sym past_is ∙ past_no) i) && not ((sym held_is ∙ held_no) i)));
  does = leaves;
}
  where
    same : row ≡ it
    same = let both : Some row ≡ Some it = sym (value_at_place (fm.entries (kept_at s.tables 0)) at root row here) ∙ sym is in cc
