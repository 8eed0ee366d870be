-- Laws of the writers that are noted.
use Rattle.std.proofs.Common.{◌≡◌, ℕ, zero, suc, ◌+◌, ◌<◌, ◌≤◌, Bool, true, false, not, cond, ◌&&◌, Option, Some, None, is_some, List, [], ◌∷◌, ◌++◌, length, nat_eq, nat_le, get_or, slice_get, slice_set, take, Result, Ok, Err, ◌⊎◌, inl, inr, refl, sym, ap, subst, ◌∙◌, arith}
use Rattle.std.specs.Option.{option_and_then, option_map, option_or}
use Rattle.std.specs.Bool.{OnTrue}
use Rattle.std.specs.FinMap.{contains_key, empty, get, get-empty, get-insert, get-remove, entries, insert, len, len-entries, remove}
use Rattle.std.specs.Result.{OnErr, OnOk}
use Rattle.std.proofs.lemmas.Option.{get_or_from_slice_get, slice_get_within}
use Rattle.std.proofs.lemmas.Bool.{cases_eq, ne_eqb}
use Rattle.std.proofs.lemmas.List.{take_more}
use Rattle.table_state.specs.row_types.specs.declared.value.Value.{Value}
use Rattle.table_state.specs.row_types.specs.Order.{key_order}
use Rattle.table_state.specs.row_types.proofs.OrderLaws.{key_total}
use Rattle.table_state.specs.tier_base.specs.declared.number.Ticket.{Ticket}
use Rattle.table_state.specs.table_defs.specs.declared.definition.TableDef.{TableDef}
use Rattle.table_state.specs.indexed_rows.specs.Rows.{is_same}
use Rattle.table_state.specs.indexed_rows.proofs.EntryLaws.{decided, same_itself, same_values}
use Rattle.table_state.specs.declared.footprint.RowKey.{RowKey}
use Rattle.table_state.specs.declared.history.Sealed.{Sealed}
use Rattle.table_state.specs.declared.operation.Op.{Op}
use Rattle.pending_writes.specs.declared.pending.PendingWrites.{PendingWrites}
use Rattle.pending_writes.specs.declared.writers.Writer.{Writer}
use Rattle.pending_writes.specs.declared.writes.Write.{Write}
use Rattle.pending_writes.specs.LastWriters.{last_left, last_writer, left_at, writer_at}
use Rattle.pending_writes.specs.Places.{Entries, IsKeyAt}
use Rattle.pending_writes.proofs.MapLaws.{has_row, slice_get_map}
use Rattle.pending_writes.specs.Noting.{AllStaySince, IsIdleAt, AreEntered, IsEntered, Noted, StayEntered, StayTold, StaysSince, TellsWriters, WritesNoted, entered, found_in, is_entered, noted, noted_all, noted_at, noted_with, since, told_at, told_by, with_writes}

abbrev Key : Type 0
Key = List Value

-- options

pub or_assoc : {A : Type 0} (a b c : Option A) → option_or (option_or a b) c ≡ option_or a (option_or b c)
or_assoc None b c = refl
or_assoc (Some x) b c = refl

pub or_none : {A : Type 0} (o : Option A) → option_or o None ≡ o
or_none None = refl
or_none (Some x) = refl

map_or : {A B : Type 0} (f : A → B) (a b : Option A) → option_map f (option_or a b) ≡ option_or (option_map f a) (option_map f b)
map_or f None b = refl
map_or f (Some x) b = refl

none_there : {A : Type 0} (o : Option A) → is_some o ≡ false → o ≡ None
none_there None e = refl
none_there (Some x) e = cc

-- tables at their places

pub set_here : {X : Type 0} (xs : List X) (i : ℕ) (x y : X) → slice_get xs i ≡ Some x → slice_get (slice_set xs i y) i ≡ Some y
set_here [] i x y e = cc
set_here (z ∷ xs) zero x y e = refl
set_here (z ∷ xs) (suc i) x y e = set_here xs i x y e

pub set_other : {X : Type 0} (xs : List X) (i j : ℕ) (y : X) → (i ≡ j → ⊥) → slice_get (slice_set xs i y) j ≡ slice_get xs j
set_other [] i j y ne = refl
set_other (z ∷ xs) zero zero y ne = absurd (ne refl)
set_other (z ∷ xs) zero (suc j) y ne = refl
set_other (z ∷ xs) (suc i) zero y ne = refl
set_other (z ∷ xs) (suc i) (suc j) y ne = set_other xs i j y (λ e. ne (ap suc e))

pub found : {A : Type 0} (xs : List A) (i : ℕ) → i < length xs → (x : A) × (slice_get xs i ≡ Some x)
found [] i lt = absurd (omega arith)
found (x ∷ xs) zero lt = (x, refl)
found (x ∷ xs) (suc i) lt = found xs i (omega arith)

-- one key of a table

differs : (a b : Key) → (a ≡ b → ⊥) → is_same a b ≡ false
differs a b ne = by (is_same a b) refl
  where
    by : (c : Bool) → is_same a b ≡ c → c ≡ false
    by true e = absurd (ne (same_values a b e))
    by false e = refl

get_here : (m : Noted) (k : Key) (o : Option Writer) → get (insert m k o) k ≡ Some o
get_here m k o = get-insert key_total m k o k ∙ ap (λ b. cond b (Some o) (get m k)) (same_itself k k refl)

get_apart : (m : Noted) (k : Key) (o : Option Writer) (q : Key) → (q ≡ k → ⊥) → get (insert m k o) q ≡ get m q
get_apart m k o q ne = get-insert key_total m k o q ∙ ap (λ b. cond b (Some o) (get m q)) (differs q k ne)

pub stays_entered : (m : Noted) (k : Key) (o : Option Writer) (q : Key) → contains_key m q ≡ true → contains_key (insert m k o) q ≡ true
stays_entered m k o q has =
    elim (decided q k) as (λ d. contains_key (insert m k o) q ≡ true) [
      | inl e ↦ ap (contains_key (insert m k o)) e ∙ ap is_some (get_here m k o)
      | inr ne ↦ ap is_some (get_apart m k o q ne) ∙ has
    ]

pub entered_at : (m : Noted) (key q : Key) → noted_at (Some (entered key m)) q ≡ noted_at (Some m) q
entered_at m key q = by (contains_key m key) refl
  where
    by : (b : Bool) → contains_key m key ≡ b → noted_at (Some (cond b m (insert m key None))) q ≡ noted_at (Some m) q
    by true e = refl
    by false e =
        elim (decided q key) as (λ d. noted_at (Some (insert m key None)) q ≡ noted_at (Some m) q) [
          | inl is ↦
              ap (noted_at (Some (insert m key None))) is ∙ ap (option_and_then (λ o. o)) (get_here m key None)
              ∙ sym (ap (noted_at (Some m)) is ∙ ap (option_and_then (λ o. o)) (none_there (get m key) e))
          | inr ne ↦ ap (option_and_then (λ o. o)) (get_apart m key None q ne)
        ]

pub entered_has : (m : Noted) (key : Key) → contains_key (entered key m) key ≡ true
entered_has m key = by (contains_key m key) refl
  where
    by : (b : Bool) → contains_key m key ≡ b → contains_key (cond b m (insert m key None)) key ≡ true
    by true e = e
    by false e = ap is_some (get_here m key None)

pub entered_keeps : (m : Noted) (key q : Key) → contains_key m q ≡ true → contains_key (entered key m) q ≡ true
entered_keeps m key q has = by (contains_key m key)
  where
    by : (b : Bool) → contains_key (cond b m (insert m key None)) q ≡ true
    by true = has
    by false = stays_entered m key None q has

-- one table of several

pub stay_set : (tables : List Noted) (i : ℕ) (m n : Noted) → slice_get tables i ≡ Some m → ((q : Key) → noted_at (Some n) q ≡ noted_at (Some m) q) → StayTold tables (slice_set tables i n)
stay_set tables i m n at same k =
    elim (cases_eq i k.table.0) as (λ d. found_in (slice_set tables i n) k ≡ found_in tables k) [
      | inl here ↦
          ap (λ o. noted_at o k.key) (ap (slice_get (slice_set tables i n)) (sym here) ∙ set_here tables i m n at) ∙ same k.key
          ∙ sym (ap (λ o. noted_at o k.key) (ap (slice_get tables) (sym here) ∙ at))
      | inr apart ↦ ap (λ o. noted_at o k.key) (set_other tables i k.table.0 n apart)
    ]

pub entered_set : (tables : List Noted) (i : ℕ) (m n : Noted) → slice_get tables i ≡ Some m → ((q : Key) → contains_key m q ≡ true → contains_key n q ≡ true) → StayEntered tables (slice_set tables i n)
entered_set tables i m n at same w has =
    elim (cases_eq i w.table.0) as (λ d. IsEntered (slice_set tables i n) w) [
      | inl here ↦
          ap (λ o. is_entered o w.key) (ap (slice_get (slice_set tables i n)) (sym here) ∙ set_here tables i m n at)
          ∙ same w.key (sym (ap (λ o. is_entered o w.key) (ap (slice_get tables) (sym here) ∙ at)) ∙ has)
      | inr apart ↦ ap (λ o. is_entered o w.key) (set_other tables i w.table.0 n apart) ∙ has
    ]

pub now_entered : (tables : List Noted) (i : ℕ) (m n : Noted) (w : Write) → slice_get tables i ≡ Some m → i ≡ w.table.0 → contains_key n w.key ≡ true → IsEntered (slice_set tables i n) w
now_entered tables i m n w at is has = ap (λ o. is_entered o w.key) (ap (slice_get (slice_set tables i n)) (sym is) ∙ set_here tables i m n at) ∙ has

-- the table that has the key of a write
pub table_of_write : (tables : List Noted) (w : Write) → IsEntered tables w → (m : Noted) × (slice_get tables w.table.0 ≡ Some m) × (contains_key m w.key ≡ true)
table_of_write tables w has = by (slice_get tables w.table.0) refl has
  where
    by : (o : Option Noted) → slice_get tables w.table.0 ≡ o → is_entered o w.key ≡ true → (m : Noted) × (slice_get tables w.table.0 ≡ Some m) × (contains_key m w.key ≡ true)
    by None e has = cc
    by (Some m) e has = (m, e, has)

-- one more write is noted

module _ (ticket : Ticket) where
  abbrev writer : Bool → Writer
  writer b = record { ticket = ticket; leaves = b }

  pub noted_is : (w : Write) (tables : List Noted) (m : Noted) → slice_get tables w.table.0 ≡ Some m → noted ticket w tables ≡ slice_set tables w.table.0 (insert m w.key (Some (writer w.leaves)))
  noted_is w tables m at = ap (λ o. noted_with o ticket w tables) at

  at_key : (m : Noted) (w : Write) (q : Key) → noted_at (Some (insert m w.key (Some (writer w.leaves)))) q ≡ cond (is_same q w.key) (Some (writer w.leaves)) (noted_at (Some m) q)
  at_key m w q =
      elim (decided q w.key) as (λ d. noted_at (Some (insert m w.key (Some (writer w.leaves)))) q ≡ cond (is_same q w.key) (Some (writer w.leaves)) (noted_at (Some m) q)) [
        | inl is ↦
            ap (noted_at (Some (insert m w.key (Some (writer w.leaves))))) is ∙ ap (option_and_then (λ o. o)) (get_here m w.key (Some (writer w.leaves)))
            ∙ sym (ap (λ b. cond b (Some (writer w.leaves)) (noted_at (Some m) q)) (same_itself q w.key is))
        | inr ne ↦
            ap (option_and_then (λ o. o)) (get_apart m w.key (Some (writer w.leaves)) q ne)
            ∙ sym (ap (λ b. cond b (Some (writer w.leaves)) (noted_at (Some m) q)) (differs q w.key ne))
      ]

  told_cond : (b : Bool) (w : Write) (o : Option Writer) → cond b (Some (writer w.leaves)) o ≡ option_or (option_map writer (cond b (Some w.leaves) None)) o
  told_cond true w o = refl
  told_cond false w o = refl

  equal : (a b : ℕ) → a ≡ b → nat_eq a b ≡ true
  equal a b e = grind (arith, e)

  found_noted : (w : Write) (tables : List Noted) → IsEntered tables w → (k : RowKey) → found_in (noted ticket w tables) k ≡ option_or (option_map writer (told_at k w)) (found_in tables k)
  found_noted w tables has k =
      let t = table_of_write tables w has in
      let new = insert t.0 w.key (Some (writer w.leaves)) in
      ap (λ ts. found_in ts k) (noted_is w tables t.0 t.1)
      ∙ elim (cases_eq w.table.0 k.table.0) as (λ d. found_in (slice_set tables w.table.0 new) k ≡ option_or (option_map writer (told_at k w)) (found_in tables k)) [
        | inl here ↦
            ap (λ o. noted_at o k.key) (ap (slice_get (slice_set tables w.table.0 new)) (sym here) ∙ set_here tables w.table.0 t.0 new t.1)
            ∙ at_key t.0 w k.key
            ∙ told_cond (is_same k.key w.key) w (noted_at (Some t.0) k.key)
            ∙ ap (λ b. option_or (option_map writer (cond (b && is_same k.key w.key) (Some w.leaves) None)) (noted_at (Some t.0) k.key)) (sym (equal k.table.0 w.table.0 (sym here)))
            ∙ ap (λ o. option_or (option_map writer (told_at k w)) (noted_at o k.key)) (sym (ap (slice_get tables) (sym here) ∙ t.1))
        | inr apart ↦
            ap (λ o. noted_at o k.key) (set_other tables w.table.0 k.table.0 new apart)
            ∙ ap (λ b. option_or (option_map writer (cond (b && is_same k.key w.key) (Some w.leaves) None)) (found_in tables k)) (sym (ne_eqb k.table.0 w.table.0 (λ e. apart (sym e))))
      ]

  pub noted_stay : (w : Write) (tables : List Noted) → IsEntered tables w → StayEntered tables (noted ticket w tables)
  noted_stay w tables has other there =
      let t = table_of_write tables w has in
      subst (λ ts. IsEntered ts other) (sym (noted_is w tables t.0 t.1))
      (entered_set tables w.table.0 t.0 (insert t.0 w.key (Some (writer w.leaves))) t.1 (λ q. stays_entered t.0 w.key (Some (writer w.leaves)) q) other there)

  pub all_stay : (old new : List Noted) (ws : List Write) → StayEntered old new → AreEntered old ws → AreEntered new ws
  all_stay old new ws stay all i d lt = stay (get_or ws i d) (all i d lt)

  pub found_all : (ws : List Write) (tables : List Noted) → AreEntered tables ws → (k : RowKey) → found_in (noted_all ticket ws tables) k ≡ option_or (option_map writer (told_by k ws)) (found_in tables k)
  found_all [] tables all k = refl
  found_all (w ∷ ws) tables all k =
      let has : IsEntered tables w = all 0 w (omega arith) in
      let rest : AreEntered tables ws = λ i d lt. all (suc i) d (omega arith) in
      found_all ws (noted ticket w tables) (all_stay tables (noted ticket w tables) ws (noted_stay w tables has) rest) k
      ∙ ap (option_or (option_map writer (told_by k ws))) (found_noted w tables has k)
      ∙ sym (or_assoc (option_map writer (told_by k ws)) (option_map writer (told_at k w)) (found_in tables k))
      ∙ ap (λ o. option_or o (found_in tables k)) (sym (map_or writer (told_by k ws) (told_at k w)))

  pub first_entered : (tables : List Noted) (w : Write) (ws : List Write) → AreEntered tables (w ∷ ws) → IsEntered tables w
  first_entered tables w ws all = all 0 w (omega arith)

  pub rest_entered : (tables new : List Noted) (w : Write) (ws : List Write) → AreEntered tables (w ∷ ws) → new ≡ noted ticket w tables → AreEntered new ws
  rest_entered tables new w ws all is =
      subst (λ ts. AreEntered ts ws) (sym is)
      (all_stay tables (noted ticket w tables) ws (noted_stay w tables (first_entered tables w ws all)) (λ i d lt. all (suc i) d (omega arith)))

-- one more transaction

pub last_more : (schema : List TableDef) (k : RowKey) (waiting : List Sealed) (x : Sealed) → last_writer schema k (waiting ++ x ∷ []) ≡ option_or (writer_at schema k x) (last_writer schema k waiting)
last_more schema k [] x = sym (or_none (writer_at schema k x))
last_more schema k (y ∷ waiting) x =
    ap (λ o. option_or o (writer_at schema k y)) (last_more schema k waiting x)
    ∙ or_assoc (writer_at schema k x) (last_writer schema k waiting) (writer_at schema k y)

since_or : (first : ℕ) (ticket : Ticket) → first ≤ ticket.0 → (told : Option Bool) (o : Option Writer) → since first (option_or (option_map (writer ticket) told) o) ≡ option_or (option_map (writer ticket) told) (since first o)
since_or first ticket le None o = refl
since_or first ticket le (Some b) o = ap (λ c. cond c (Some (writer ticket b)) None) (is_le first ticket.0 le)
  where
    is_le : (a b : ℕ) → a ≤ b → nat_le a b ≡ true
    is_le a b le = grind (arith, le)

pub tells_more : (schema : List TableDef) (first : ℕ) (waiting : List Sealed) (x : Sealed) (old new : PendingWrites) (ws : List Write) → first ≤ x.ticket.0
    → ((k : RowKey) → told_by k ws ≡ last_left schema k x.ops)
    → ((k : RowKey) → found_in new.tables.items k ≡ option_or (option_map (writer x.ticket) (told_by k ws)) (found_in old.tables.items k))
    → TellsWriters schema first waiting old → TellsWriters schema first (waiting ++ x ∷ []) new
tells_more schema first waiting x old new ws le told is tells k =
    ap (since first) (is k) ∙ since_or first x.ticket le (told_by k ws) (found_in old.tables.items k)
    ∙ (λ i. option_or (option_map (writer x.ticket) (told k i)) (tells k i))
    ∙ sym (last_more schema k waiting x)

-- a place without writers says nothing
pub stay_wider : (tables new : List Noted) (m : Noted) → m ≡ empty → new ≡ tables ++ m ∷ [] → StayTold tables new
stay_wider tables new m none is k = ap (λ l. noted_at (slice_get l k.table.0) k.key) is ∙ at tables k.table.0
  where
    bare : noted_at (Some m) k.key ≡ None
    bare = ap (λ n. noted_at (Some n) k.key) none ∙ ap (option_and_then (λ o. o)) (get-empty key_order k.key)

    at : (tables : List Noted) (i : ℕ) → noted_at (slice_get (tables ++ m ∷ []) i) k.key ≡ noted_at (slice_get tables i) k.key
    at [] zero = bare
    at [] (suc i) = refl
    at (x ∷ tables) zero = refl
    at (x ∷ tables) (suc i) = at tables i

pub one_longer : {X : Type 0} (xs ys : List X) (x : X) → ys ≡ xs ++ x ∷ [] → length ys ≡ length xs + 1
one_longer {X} xs ys x is = ap length is ∙ by xs
  where
    by : (xs : List X) → length (xs ++ x ∷ []) ≡ length xs + 1
    by [] = omega arith
    by (y ∷ xs) = let rest = by xs in omega arith

pub told_more : (k : RowKey) (ws new : List Write) (w : Write) → new ≡ ws ++ w ∷ [] → told_by k new ≡ option_or (told_at k w) (told_by k ws)
told_more k ws new w is = ap (told_by k) is ∙ by ws
  where
    by : (ws : List Write) → told_by k (ws ++ w ∷ []) ≡ option_or (told_at k w) (told_by k ws)
    by [] = sym (or_none (told_at k w))
    by (x ∷ ws) = ap (λ o. option_or o (told_at k x)) (by ws) ∙ or_assoc (told_at k w) (told_by k ws) (told_at k x)

-- the operations so far
pub told_next : (schema : List TableDef) (k : RowKey) (ops : List Op) (i : ℕ) (op : Op) (ws new : List Write) → i < length ops → op ≡ get_or ops i op → told_by k ws ≡ last_left schema k (take i ops) → told_by k new ≡ option_or (left_at schema k op) (told_by k ws) → told_by k new ≡ last_left schema k (take (i + 1) ops)
told_next schema k ops i op ws new lt is before more =
    more ∙ ap (option_or (left_at schema k op)) before ∙ sym (by (take i ops))
    ∙ ap (last_left schema k) (sym (take_more ops i op lt ∙ ap (λ y. take i ops ++ y ∷ []) (sym is)))
  where
    by : (front : List Op) → last_left schema k (front ++ op ∷ []) ≡ option_or (left_at schema k op) (last_left schema k front)
    by [] = sym (or_none (left_at schema k op))
    by (x ∷ front) = ap (λ o. option_or o (left_at schema k x)) (by front) ∙ or_assoc (left_at schema k op) (last_left schema k front) (left_at schema k x)

-- a key is entered, or memory was wanting

pub entered_or_not : {X E : Type 0} (r : Result X E) (m n : Noted) (key : Key) → OnOk r (n ≡ entered key m) → OnErr r (n ≡ m) → (n ≡ entered key m) ⊎ (n ≡ m)
entered_or_not (Ok x) m n key ok err = inl ok
entered_or_not (Err e) m n key ok err = inr err

module _ (tables : List Noted) (i : ℕ) (m n : Noted) (key : Key) (at : slice_get tables i ≡ Some m) (either : (n ≡ entered key m) ⊎ (n ≡ m)) where
  pub enter_told : StayTold tables (slice_set tables i n)
  enter_told = stay_set tables i m n at (λ q. by q either)
    where
      by : (q : Key) → (n ≡ entered key m) ⊎ (n ≡ m) → noted_at (Some n) q ≡ noted_at (Some m) q
      by q (inl is) = ap (λ t. noted_at (Some t) q) is ∙ entered_at m key q
      by q (inr is) = ap (λ t. noted_at (Some t) q) is

  pub enter_stay : StayEntered tables (slice_set tables i n)
  enter_stay = entered_set tables i m n at (λ q has. by q has either)
    where
      by : (q : Key) → contains_key m q ≡ true → (n ≡ entered key m) ⊎ (n ≡ m) → contains_key n q ≡ true
      by q has (inl is) = ap (λ t. contains_key t q) is ∙ entered_keeps m key q has
      by q has (inr is) = ap (λ t. contains_key t q) is ∙ has

pub enter_done : {X E : Type 0} (r : Result X E) (tables : List Noted) (m n : Noted) (w : Write) → slice_get tables w.table.0 ≡ Some m → OnOk r (n ≡ entered w.key m) → OnOk r (IsEntered (slice_set tables w.table.0 n) w)
enter_done (Ok x) tables m n w at is = now_entered tables w.table.0 m n w at refl (ap (λ t. contains_key t w.key) is ∙ entered_has m w.key)
enter_done (Err e) tables m n w at is = tt

-- the writes so far

pub so_far : (tables new : List Noted) (writes : List Write) (place i : ℕ) (here w : Write) → here ≡ get_or writes place here → StayEntered tables new → IsEntered new here
    → ((i : ℕ) (w : Write) → i < place → slice_get writes i ≡ Some w → IsEntered tables w) → i < place + 1 → slice_get writes i ≡ Some w → IsEntered new w
so_far tables new writes place i here w is stay now before lt at =
    elim (cases_eq i place) as (λ d. IsEntered new w) [
      | inl same ↦ subst (IsEntered new) (is ∙ ap (λ n. get_or writes n here) (sym same) ∙ get_or_from_slice_get writes i w here at) now
      | inr other ↦ stay w (before i w (omega arith) at)
    ]

pub all_so_far : (tables : List Noted) (writes : List Write) (end : ℕ) → length writes ≤ end → ((i : ℕ) (w : Write) → i < end → slice_get writes i ≡ Some w → IsEntered tables w) → AreEntered tables writes
all_so_far tables writes end le so i d lt =
    let f = found writes i lt in
    subst (IsEntered tables) (sym (get_or_from_slice_get writes i f.0 d f.1)) (so i f.0 (omega arith) f.1)

-- a transaction is added

pub add_told : {X E : Type 0} (schema : List TableDef) (first : ℕ) (waiting : List Sealed) (x : Sealed) (old new : PendingWrites) (r : Result X E) (wide slice end : List Noted) (ws : List Write) → first ≤ x.ticket.0
    → ((k : RowKey) → told_by k ws ≡ last_left schema k x.ops) → StayTold old.tables.items wide → slice ≡ wide → new.tables.items ≡ end
    → OnOk r (WritesNoted x.ticket ws slice end) → TellsWriters schema first waiting old → OnOk r (TellsWriters schema first (waiting ++ x ∷ []) new)
add_told schema first waiting x old new (Ok v) wide slice end ws le told stay same is done tells =
    tells_more schema first waiting x old new ws le told
    (λ k. ap (λ ts. found_in ts k) is ∙ done k ∙ ap (λ ts. with_writes x.ticket (told_by k ws) (found_in ts k)) same ∙ ap (with_writes x.ticket (told_by k ws)) (stay k))
    tells
add_told schema first waiting x old new (Err e) wide slice end ws le told stay same is done tells = tt

-- an entry is looked at

pub since_set : (first : ℕ) (tables : List Noted) (i : ℕ) (m n : Noted) → slice_get tables i ≡ Some m → StaysSince first m n → AllStaySince first tables (slice_set tables i n)
since_set first tables i m n at same k =
    elim (cases_eq i k.table.0) as (λ d. since first (found_in (slice_set tables i n) k) ≡ since first (found_in tables k)) [
      | inl here ↦
          ap (λ o. since first (noted_at o k.key)) (ap (slice_get (slice_set tables i n)) (sym here) ∙ set_here tables i m n at) ∙ same k.key
          ∙ sym (ap (λ o. since first (noted_at o k.key)) (ap (slice_get tables) (sym here) ∙ at))
      | inr apart ↦ ap (λ o. since first (noted_at o k.key)) (set_other tables i k.table.0 n apart)
    ]

pub without_idle : (first : ℕ) (m : Noted) (k : Key) (writer : Option Writer) → get m k ≡ Some writer → since first writer ≡ None → StaysSince first m (remove m k)
without_idle first m k writer has idle q =
    elim (decided q k) as (λ d. since first (noted_at (Some (remove m k)) q) ≡ since first (noted_at (Some m) q)) [
      | inl is ↦
          ap (λ o. since first (option_and_then (λ x. x) o)) (get-remove key_total m k q ∙ ap (λ b. cond b None (get m q)) (same_itself q k is))
          ∙ sym (ap (λ o. since first (option_and_then (λ x. x) o)) (ap (get m) is ∙ has) ∙ idle)
      | inr ne ↦ ap (λ o. since first (option_and_then (λ x. x) o)) (get-remove key_total m k q ∙ ap (λ b. cond b None (get m q)) (differs q k ne))
    ]

-- an entry whose transaction doesn't wait

pub idle_at : (first : ℕ) (es is : Entries) (place : ℕ) (e : Key × Option Writer) (waits : Bool) → is ≡ es → slice_get is place ≡ Some e → waits ≡ is_some (since first e.1) → OnTrue (not waits) (IsIdleAt first es place)
idle_at first es is place e true same at told = tt
idle_at first es is place e false same at told = (e, ap (λ l. slice_get l place) (sym same) ∙ at, none_there (since first e.1) (sym told))

pub idle_within : (first : ℕ) (m : Noted) (place : ℕ) → IsIdleAt first (entries m) place → place < len m
idle_within first m place idle = let within = slice_get_within (entries m) place idle.0 idle.1 in let all = len-entries m in omega arith

pub idle_key : (first : ℕ) (m : Noted) (place : ℕ) (idle : IsIdleAt first (entries m) place) → IsKeyAt (entries m) idle.0.0 place
idle_key first m place idle = slice_get_map (λ e. e.0) (entries m) place idle.0 idle.1

pub idle_gone : (first : ℕ) (m : Noted) (place : ℕ) (idle : IsIdleAt first (entries m) place) → StaysSince first m (remove m idle.0.0)
idle_gone first m place idle = without_idle first m idle.0.0 idle.0.1 (has_row m idle.0.0 place (idle_key first m place idle) idle.0 (sym (get_or_from_slice_get (entries m) place idle.0 idle.0 idle.1))) idle.2
