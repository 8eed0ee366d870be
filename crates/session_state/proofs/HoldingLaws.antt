-- Laws of holding keys.
use Rattle.std.proofs.Common.{◌≡◌, ℕ, zero, suc, ◌+◌, ◌<◌, ◌≤◌, ◌^◌, Bool, true, false, cond, ◌&&◌, ◌||◌, Option, Some, None, is_some, List, [], ◌∷◌, ◌++◌, length, map, slice_get, slice_set, unwrap_or, ◌⊎◌, inl, inr, refl, sym, ap, subst, ◌∙◌, arith, eq-eqb}
use Rattle.std.specs.Ordering.{is_eq}
use Rattle.std.specs.declared.cmp.Ordering.{Ordering}
use Rattle.std.specs.declared.cmp.Ordering.TheVariants.{Less, Equal, Greater}
use Rattle.std.proofs.lemmas.Bool.{cases_eq, ne_eqb}
use Rattle.std.proofs.lemmas.Grind.{flat_map-append}
use Rattle.std.specs.FinMap.{contains_key, empty, get, get-empty, get-insert, insert, len, len-empty, len-insert}
use Rattle.own_rows.specs.row_types.specs.declared.value.Value.{Value}
use Rattle.own_rows.specs.row_types.specs.Order.{key_order}
use Rattle.own_rows.specs.row_types.proofs.OrderLaws.{key_total, key_exact}
use Rattle.own_rows.specs.indexed_rows.specs.Rows.{Table, is_same, put_in}
use Rattle.own_rows.specs.table_defs.specs.declared.definition.TableDef.{TableDef}
use Rattle.own_rows.specs.table_state.specs.declared.operation.Op.{Op}
use Rattle.own_rows.specs.table_state.specs.declared.footprint.RowKey.{RowKey}
use Rattle.own_rows.specs.table_state.specs.Footprints.{footprint_of, is_among, referred_by, same_row_key, written_by}
use Rattle.own_rows.proofs.LayingLaws.{set_here, set_length, set_other}
use Rattle.own_rows.proofs.StepLaws.{found}
use Rattle.session_state.specs.declared.mark.Mark.{Mark}
use Rattle.session_state.specs.Holding.{AreKeysOf, AreWithin, KeysHaveRoom, KeysWithin, key_of_mark, keys_at, with_mark, with_marks}

same_some : {X : Type 0} (x y : X) → Some x ≡ Some y → x ≡ y
same_some x y e = cc

more_after : (m : Table) (k v : List Value) → len (put_in m k v) ≤ len m + 1
more_after m k v = by (contains_key m k) (len-insert key_total m k v)
  where
    by : (b : Bool) → len (insert m k v) ≡ cond (contains_key m k) (len m) (len m + 1) → len (cond b m (insert m k v)) ≤ len m + 1
    by true e = omega arith
    by false e = up (contains_key m k) e
      where
        up : (c : Bool) → len (insert m k v) ≡ cond c (len m) (len m + 1) → len (insert m k v) ≤ len m + 1
        up true e = omega arith
        up false e = omega arith

-- a key takes the room of one
pub room_mark : (n : ℕ) (keys : List Table) (mark : Mark) → KeysHaveRoom (suc n) keys → KeysHaveRoom n (with_mark mark keys)
room_mark n keys mark room i m at = elim (cases_eq mark.table.0 i) as (λ d. len m + n < 2 ^ 63) [
  | inl here ↦ by (slice_get keys mark.table.0) refl here
  | inr apart ↦
      let same : slice_get keys i ≡ Some m = sym (set_other keys mark.table.0 i (put_in (keys_at keys mark.table) mark.key.0 mark.key.1) apart) ∙ at in
      let r = room i m same in omega arith
]
  where
    gone : {X : Type 0} (xs : List X) (j : ℕ) (y : X) → slice_get xs j ≡ None → slice_get (slice_set xs j y) j ≡ None
    gone [] j y e = refl
    gone (x ∷ xs) zero y e = cc
    gone (x ∷ xs) (suc j) y e = gone xs j y e

    by : (o : Option Table) → slice_get keys mark.table.0 ≡ o → mark.table.0 ≡ i → len m + n < 2 ^ 63
    by None none here =
        let e : slice_get (with_mark mark keys) i ≡ None = ap (slice_get (with_mark mark keys)) (sym here) ∙ gone keys mark.table.0 (put_in (keys_at keys mark.table) mark.key.0 mark.key.1) none in
        let f : slice_get (with_mark mark keys) i ≡ Some m = at in cc
    by (Some old) old_is here =
        let at_old : keys_at keys mark.table ≡ old = ap (λ o. unwrap_or o empty) old_is in
        let f : slice_get (with_mark mark keys) i ≡ Some m = at in
        let g : slice_get (with_mark mark keys) i ≡ Some (put_in (keys_at keys mark.table) mark.key.0 mark.key.1) = ap (slice_get (with_mark mark keys)) (sym here) ∙ set_here keys mark.table.0 old (put_in (keys_at keys mark.table) mark.key.0 mark.key.1) old_is in
        let m_is : m ≡ put_in (keys_at keys mark.table) mark.key.0 mark.key.1 = same_some m (put_in (keys_at keys mark.table) mark.key.0 mark.key.1) (sym f ∙ g) in
        let grew = more_after (keys_at keys mark.table) mark.key.0 mark.key.1 in
        let lens : len m ≡ len (put_in (keys_at keys mark.table) mark.key.0 mark.key.1) = ap len m_is in
        let olds : len (keys_at keys mark.table) ≡ len old = ap len at_old in
        let r = room mark.table.0 old old_is in omega arith

pub keys_room_less : (m n : ℕ) (keys : List Table) → n ≤ m → KeysHaveRoom m keys → KeysHaveRoom n keys
keys_room_less m n keys le room i t at = let r = room i t at in omega arith

module _ (rest later : List Mark) (mark : Mark) (is : rest ≡ mark ∷ later) where
  pub mark_within : (n : ℕ) → AreWithin n rest → (mark.table.0 < n) × AreWithin n later
  mark_within n within = subst (AreWithin n) is within

  pub marks_done : (keys new end : List Table) → new ≡ with_mark mark keys → with_marks rest keys ≡ end → with_marks later new ≡ end
  marks_done keys new end new_is e = ap (with_marks later) new_is ∙ ap (λ l. with_marks l keys) (sym is) ∙ e

  pub room_for_one : (keys : List Table) → KeysHaveRoom (length rest) keys → KeysHaveRoom 1 keys
  room_for_one keys room i m at = let r = room i m at in let l : length rest ≡ suc (length later) = ap length is in omega arith

  pub room_later : (keys new : List Table) → new ≡ with_mark mark keys → KeysHaveRoom (length rest) keys → KeysHaveRoom (length later) new
  room_later keys new new_is room =
      let l : length rest ≡ suc (length later) = ap length is in
      subst (KeysHaveRoom (length later)) (sym new_is) (room_mark (length later) keys mark (subst (λ n. KeysHaveRoom n keys) l room))

-- marks take the room of as many keys
pub marks_room : (marks : List Mark) (keys : List Table) (n : ℕ) → KeysHaveRoom (length marks + n) keys → KeysHaveRoom n (with_marks marks keys)
marks_room [] keys n room = keys_room_less (0 + n) n keys (omega arith) room
marks_room (mark ∷ marks) keys n room =
    marks_room marks (with_mark mark keys) n (room_mark (length marks + n) keys mark (keys_room_less (suc (length marks) + n) (suc (length marks + n)) keys (omega arith) room))

pub marks_long : (marks : List Mark) (keys : List Table) → length (with_marks marks keys) ≡ length keys
marks_long [] keys = refl
marks_long (mark ∷ marks) keys = marks_long marks (with_mark mark keys) ∙ set_length keys mark.table.0 (put_in (keys_at keys mark.table) mark.key.0 mark.key.1)

-- the keys held stay the footprint

both_forms : (b : Bool) → (b || false) ≡ b
both_forms true = refl
both_forms false = refl

put_has : (m : Table) (k v key : List Value) → contains_key (put_in m k v) key ≡ (contains_key m key || is_same key k)
put_has m k v key = by (contains_key m k) refl
  where
    tie : (r : Ordering) → key_order key k ≡ r → contains_key m k ≡ true → contains_key m key ≡ (contains_key m key || is_eq r)
    tie Less e h = sym (both_forms (contains_key m key))
    tie Greater e h = sym (both_forms (contains_key m key))
    tie Equal e h = let here : contains_key m key ≡ true = ap (contains_key m) (key_exact key k e) ∙ h in rw here refl

    new : (b : Bool) (x : Option (List Value)) → is_some (cond b (Some v) x) ≡ (is_some x || b)
    new true None = refl
    new true (Some y) = refl
    new false None = refl
    new false (Some y) = refl

    by : (b : Bool) → contains_key m k ≡ b → contains_key (cond b m (insert m k v)) key ≡ (contains_key m key || is_same key k)
    by true h = tie (key_order key k) refl h
    by false h = ap is_some (get-insert key_total m k v key) ∙ new (is_eq (key_order key k)) (get m key)

pub among_append : (xs ys : List RowKey) (key : RowKey) → is_among (xs ++ ys) key ≡ (is_among xs key || is_among ys key)
among_append [] ys key = refl
among_append (x ∷ xs) ys key = ap (λ b. same_row_key key x || b) (among_append xs ys key) ∙ sym (assoc (same_row_key key x) (is_among xs key) (is_among ys key))
  where
    assoc : (a b c : Bool) → ((a || b) || c) ≡ (a || (b || c))
    assoc true b c = refl
    assoc false b c = refl

keys_step : (old : List RowKey) (held : List Table) (mark : Mark) → mark.table.0 < length held → AreKeysOf old held → AreKeysOf (old ++ key_of_mark mark ∷ []) (with_mark mark held)
keys_step old held mark lt keys t key = elim (cases_eq t.0 mark.table.0) as (λ d. contains_key (keys_at (with_mark mark held) t) key ≡ is_among (old ++ key_of_mark mark ∷ []) (record { table = t; key = key })) [
  | inl here ↦
      let f = found held mark.table.0 lt in
      let at : keys_at (with_mark mark held) t ≡ put_in (keys_at held t) mark.key.0 mark.key.1 =
      ap (λ i. unwrap_or (slice_get (with_mark mark held) i) empty) here ∙ ap (λ o. unwrap_or o empty) (set_here held mark.table.0 f.0 (put_in (keys_at held mark.table) mark.key.0 mark.key.1) f.1)
      ∙ ap (λ i. put_in (unwrap_or (slice_get held i) empty) mark.key.0 mark.key.1) (sym here) in
      let test : same_row_key (record { table = t; key = key }) (key_of_mark mark) ≡ is_same key mark.key.0 = ap (λ b. b && is_same key mark.key.0) (eq-eqb t.0 mark.table.0 here) in
      ap (λ m. contains_key m key) at ∙ put_has (keys_at held t) mark.key.0 mark.key.1 key ∙ ap (λ b. b || is_same key mark.key.0) (keys t key)
      ∙ sym (among_append old (key_of_mark mark ∷ []) (record { table = t; key = key }) ∙ ap (λ b. is_among old (record { table = t; key = key }) || b) (both_forms (same_row_key (record { table = t; key = key }) (key_of_mark mark)) ∙ test))
  | inr apart ↦
      let test : same_row_key (record { table = t; key = key }) (key_of_mark mark) ≡ false = ap (λ b. b && is_same key mark.key.0) (ne_eqb t.0 mark.table.0 apart) in
      ap (λ o. contains_key (unwrap_or o empty) key) (set_other held mark.table.0 t.0 (put_in (keys_at held mark.table) mark.key.0 mark.key.1) (λ e. apart (sym e))) ∙ keys t key
      ∙ sym (among_append old (key_of_mark mark ∷ []) (record { table = t; key = key }) ∙ ap (λ b. is_among old (record { table = t; key = key }) || b) (both_forms (same_row_key (record { table = t; key = key }) (key_of_mark mark)) ∙ test) ∙ both_forms (is_among old (record { table = t; key = key })))
]

-- with the marks of more keys those are held too
pub keys_more : (marks : List Mark) (old : List RowKey) (held : List Table) → AreWithin (length held) marks → AreKeysOf old held → AreKeysOf (old ++ map key_of_mark marks) (with_marks marks held)
keys_more [] old held within keys = subst (λ l. AreKeysOf l held) (sym (nothing old)) keys
  where
    nothing : (xs : List RowKey) → xs ++ [] ≡ xs
    nothing [] = refl
    nothing (x ∷ xs) = ap (λ l. x ∷ l) (nothing xs)
keys_more (mark ∷ marks) old held within keys =
    let long : length (with_mark mark held) ≡ length held = set_length held mark.table.0 (put_in (keys_at held mark.table) mark.key.0 mark.key.1) in
    let rest = keys_more marks (old ++ key_of_mark mark ∷ []) (with_mark mark held) (subst (λ n. AreWithin n marks) (sym long) within.1) (keys_step old held mark within.0 keys) in
    subst (λ l. AreKeysOf l (with_marks marks (with_mark mark held))) (joined old (key_of_mark mark) (map key_of_mark marks)) rest
  where
    joined : (xs : List RowKey) (x : RowKey) (ys : List RowKey) → (xs ++ x ∷ []) ++ ys ≡ xs ++ x ∷ ys
    joined [] x ys = refl
    joined (z ∷ xs) x ys = ap (λ l. z ∷ l) (joined xs x ys)

-- the footprint of operations and of more of them
pub footprint_more : (schema : List TableDef) (ops more : List Op) → ((footprint_of schema (ops ++ more)).written ≡ (footprint_of schema ops).written ++ (footprint_of schema more).written) × ((footprint_of schema (ops ++ more)).referred ≡ (footprint_of schema ops).referred ++ (footprint_of schema more).referred)
footprint_more schema ops more = (flat_map-append (written_by schema) ops more, flat_map-append (referred_by schema) ops more)

-- where no table has a place no key is held
pub no_keys : AreKeysOf [] []
no_keys t key = ap is_some (get-empty key_order key)

-- a place more without keys
pub keys_pad : (held : List RowKey) (old new : List Table) (m : Table) → m ≡ empty → new ≡ old ++ m ∷ [] → AreKeysOf held old → AreKeysOf held new
keys_pad held old new m none is keys t key = ap (λ l. contains_key (keys_at l t) key) is ∙ ap (λ o. contains_key o key) (same old t.0) ∙ keys t key
  where
    same : (old : List Table) (i : ℕ) → unwrap_or (slice_get (old ++ m ∷ []) i) empty ≡ unwrap_or (slice_get old i) empty
    same [] zero = none
    same [] (suc i) = refl
    same (x ∷ old) zero = refl
    same (x ∷ old) (suc i) = same old i

-- room stays where a place more is added
pub keys_room_wider : (n : ℕ) (old new : List Table) (m : Table) → m ≡ empty → new ≡ old ++ m ∷ [] → n < 2 ^ 63 → KeysHaveRoom n old → KeysHaveRoom n new
keys_room_wider n old new m none is few room i t at =
    elim (padded old m i t (ap (λ l. slice_get l i) (sym is) ∙ at)) as (λ d. len t + n < 2 ^ 63) [
      | inl was ↦ room i t was
      | inr here ↦ let e : len t ≡ 0 = ap len (sym here) ∙ ap len none ∙ len-empty key_order (List Value) in omega arith
    ]
  where
    padded : (xs : List Table) (y : Table) (i : ℕ) (t : Table) → slice_get (xs ++ y ∷ []) i ≡ Some t → (slice_get xs i ≡ Some t) ⊎ (y ≡ t)
    padded [] y zero t e = let same : y ≡ t = cc in inr same
    padded [] y (suc i) t e = cc
    padded (x ∷ xs) y zero t e = inl e
    padded (x ∷ xs) y (suc i) t e = padded xs y i t e

-- marks of keys
pub marks_within : (n m : ℕ) (marks : List Mark) (keys : List RowKey) → m ≡ n → map key_of_mark marks ≡ keys → KeysWithin n keys → AreWithin m marks
marks_within n m marks keys same is within = by marks (subst (KeysWithin n) (sym is) within)
  where
    by : (marks : List Mark) → KeysWithin n (map key_of_mark marks) → AreWithin m marks
    by [] w = tt
    by (mark ∷ marks) w = (let lt = w.0 in omega arith, by marks w.1)

pub one_more : {X : Type 0} (xs ys : List X) (x : X) (n : ℕ) → ys ≡ xs ++ x ∷ [] → length xs ≡ n → length ys ≡ n + 1
one_more {X} xs ys x n is long = ap length is ∙ by xs ∙ ap (λ k. k + 1) long
  where
    by : (xs : List X) → length (xs ++ x ∷ []) ≡ length xs + 1
    by [] = omega arith
    by (y ∷ xs) = let rest = by xs in omega arith
