-- Who wrote a key last, where transactions get their receipt, one more waits, or a ticket is drawn.
use Rattle.std.proofs.Common.{◌≡◌, ℕ, ◌+◌, ◌<◌, ◌≤◌, Bool, true, false, cond, Option, Some, None, List, [], ◌∷◌, ◌++◌, nat_le, slice_get, refl, sym, ap, subst, ◌∙◌, arith}
use Rattle.std.specs.List.{flat_map, list_all}
use Rattle.std.specs.Option.{option_map, option_or}
use Rattle.tier_base.specs.declared.number.TableId.{TableId}
use Rattle.table_defs.specs.declared.definition.TableDef.{TableDef}
use Rattle.table_state.specs.declared.footprint.RowKey.{RowKey}
use Rattle.table_state.specs.declared.history.Sealed.{Sealed}
use Rattle.table_state.specs.declared.operation.Op.{Op}
use Rattle.table_state.specs.Footprints.{is_among, rows_of, written_key}
use Rattle.table_state.specs.Operations.{table_of}
use Rattle.pending_writes.specs.declared.pending.PendingWrites.{PendingWrites}
use Rattle.pending_writes.specs.declared.writers.Writer.{Writer}
use Rattle.pending_writes.specs.LastWriters.{last_left, last_writer, leaves, left_at, writer_at}
use Rattle.pending_writes.specs.Noting.{TellsWriters, found_in, since}
use Rattle.order_laws.specs.Commits.{RiseBetween}
use Rattle.order_laws.proofs.TruthLaws.{both_true}
use Rattle.cache_tier.specs.Groups.{Group, is_table_of}
use Rattle.stored_tier.specs.declared.tier.Tier.{Tier as Stored}
use Rattle.stored_tier.specs.Stored.{IsSound, are_on, first_unsettled}

-- tickets that rise

pub rise_within : (low high : ℕ) (xs : List Sealed) → RiseBetween low xs high → low ≤ high
rise_within low high [] rise = rise
rise_within low high (x ∷ xs) rise = let from = rise.0 in let rest = rise_within (x.ticket.0 + 1) high xs rise.1 in omega arith

from_first : (low high : ℕ) (xs : List Sealed) → RiseBetween low xs high → low ≤ first_unsettled xs high
from_first low high [] rise = rise
from_first low high (x ∷ xs) rise = rise.0

pub first_within : (low high : ℕ) (xs : List Sealed) → RiseBetween low xs high → first_unsettled xs high ≤ high
first_within low high [] rise = omega arith
first_within low high (x ∷ xs) rise = let rest = rise_within (x.ticket.0 + 1) high xs rise.1 in omega arith

rise_first : (low high : ℕ) (xs : List Sealed) → RiseBetween low xs high → RiseBetween (first_unsettled xs high) xs high
rise_first low high [] rise = let le : high ≤ high = omega arith in le
rise_first low high (x ∷ xs) rise = ((let le : x.ticket.0 ≤ x.ticket.0 = omega arith in le), rise.1)

-- the writers of a key

le_true : (a b : ℕ) → a ≤ b → nat_le a b ≡ true
le_true a b le = grind (arith, le)

le_false : (a b : ℕ) → b < a → nat_le a b ≡ false
le_false a b lt = grind (arith, lt)

from_le : (a b : ℕ) → nat_le a b ≡ true → a ≤ b
from_le a b is = grind (arith, is)

module _ (schema : List TableDef) (k : RowKey) where
  ticket_of_writer : (x : Sealed) (w : Writer) → writer_at schema k x ≡ Some w → w.ticket.0 ≡ x.ticket.0
  ticket_of_writer x w is = by (last_left schema k x.ops) is
    where
      by : (o : Option Bool) → option_map (λ (b : Bool). let v : Writer = record { ticket = x.ticket; leaves = b } in v) o ≡ Some w → w.ticket.0 ≡ x.ticket.0
      by None e = cc
      by (Some b) e = let same : record { ticket = x.ticket; leaves = b } ≡ w = cc in ap (λ (v : Writer). v.ticket.0) (sym same)

  last_from : (low high : ℕ) (xs : List Sealed) (w : Writer) → RiseBetween low xs high → last_writer schema k xs ≡ Some w → low ≤ w.ticket.0
  last_from low high [] w rise is = cc
  last_from low high (x ∷ xs) w rise is = by (last_writer schema k xs) refl is (last_from (x.ticket.0 + 1) high xs w rise.1)
    where
      by : (o : Option Writer) → last_writer schema k xs ≡ o → option_or o (writer_at schema k x) ≡ Some w → (last_writer schema k xs ≡ Some w → x.ticket.0 + 1 ≤ w.ticket.0) → low ≤ w.ticket.0
      by None e at rest = let from = rise.0 in let same = ticket_of_writer x w at in omega arith
      by (Some v) e at rest = let from = rise.0 in let later = rest (e ∙ at) in omega arith

since_some : (first : ℕ) (f : Option Writer) (w : Writer) → since first f ≡ Some w → f ≡ Some w
since_some first None w is = cc
since_some first (Some v) w is = by (nat_le first v.ticket.0) is
  where
    by : (b : Bool) → cond b (Some v) None ≡ Some w → Some v ≡ Some w
    by true e = e
    by false e = cc

since_at : (first : ℕ) (w : Writer) → first ≤ w.ticket.0 → since first (Some w) ≡ Some w
since_at first w le = ap (λ b. cond b (Some w) None) (le_true first w.ticket.0 le)

since_past : (first : ℕ) (w : Writer) → w.ticket.0 < first → since first (Some w) ≡ None
since_past first w lt = ap (λ b. cond b (Some w) None) (le_false first w.ticket.0 lt)

since_later : (first later : ℕ) (f : Option Writer) → first ≤ later → since first f ≡ None → since later f ≡ None
since_later first later None le none = refl
since_later first later (Some v) le none = by (nat_le later v.ticket.0) refl
  where
    by : (b : Bool) → nat_le later v.ticket.0 ≡ b → cond b (Some v) None ≡ None
    by false e = refl
    by true e =
        let at : first ≤ v.ticket.0 = (let more = from_le later v.ticket.0 e in omega arith) in
        sym (since_at first v at) ∙ none

-- a receipt of the first
writers_later : (schema : List TableDef) (p : PendingWrites) (low high : ℕ) (x : Sealed) (xs : List Sealed) → RiseBetween low (x ∷ xs) high → TellsWriters schema x.ticket.0 (x ∷ xs) p → TellsWriters schema (first_unsettled xs high) xs p
writers_later schema p low high x xs rise tells k = by (last_writer schema k xs) refl (tells k)
  where
    f : Option Writer
    f = found_in p.tables.items k

    g : ℕ
    g = first_unsettled xs high

    later : x.ticket.0 + 1 ≤ g
    later = from_first (x.ticket.0 + 1) high xs rise.1

    own : (o : Option Writer) → writer_at schema k x ≡ o → since x.ticket.0 f ≡ o → since g f ≡ None
    own None e told = since_later x.ticket.0 g f (let l = later in omega arith) told
    own (Some v) e told =
        ap (since g) (since_some x.ticket.0 f v told)
        ∙ since_past g v (let l = later in let same = ticket_of_writer schema k x v e in omega arith)

    by : (o : Option Writer) → last_writer schema k xs ≡ o → since x.ticket.0 f ≡ option_or o (writer_at schema k x) → since g f ≡ o
    by None e told = own (writer_at schema k x) refl told
    by (Some w) e told =
        ap (since g) (since_some x.ticket.0 f w told)
        ∙ since_at g w (last_from schema k g high xs w (rise_first (x.ticket.0 + 1) high xs rise.1) e)

-- receipts of the first ones
pub writers_rest : (schema : List TableDef) (p : PendingWrites) (low high : ℕ) (gone rest : List Sealed) → RiseBetween low (gone ++ rest) high → TellsWriters schema (first_unsettled (gone ++ rest) high) (gone ++ rest) p → TellsWriters schema (first_unsettled rest high) rest p
writers_rest schema p low high [] rest rise tells = tells
writers_rest schema p low high (x ∷ gone) rest rise tells =
    writers_rest schema p (x.ticket.0 + 1) high gone rest rise.1 (writers_later schema p low high x (gone ++ rest) rise tells)

-- a ticket is drawn
pub writers_drawn : (schema : List TableDef) (p : PendingWrites) (next : ℕ) (xs : List Sealed) → TellsWriters schema (first_unsettled xs next) xs p → TellsWriters schema (first_unsettled xs (next + 1)) xs p
writers_drawn schema p next [] tells k = since_later next (next + 1) (found_in p.tables.items k) (omega arith) (tells k)
writers_drawn schema p next (x ∷ xs) tells k = tells k

-- one more waits
pub first_more : (xs : List Sealed) (x : Sealed) (next : ℕ) → x.ticket.0 ≡ next → first_unsettled (xs ++ x ∷ []) (next + 1) ≡ first_unsettled xs next
first_more [] x next is = is
first_more (y ∷ xs) x next is = refl

-- nothing of it is changed
pub writers_same : (t new : Stored) → new.schema ≡ t.schema → new.unsettled.items ≡ t.unsettled.items → new.next ≡ t.next → new.writers ≡ t.writers → IsSound t
    → TellsWriters new.schema (first_unsettled new.unsettled.items new.next) new.unsettled.items new.writers
writers_same t new schema unsettled next writers sound =
    subst (λ p. TellsWriters new.schema (first_unsettled new.unsettled.items new.next) new.unsettled.items p) (sym writers)
    (subst (λ n. TellsWriters new.schema (first_unsettled new.unsettled.items n) new.unsettled.items t.writers) (sym next)
    (subst (λ xs. TellsWriters new.schema (first_unsettled xs t.next) xs t.writers) (sym unsettled)
    (subst (λ defs. TellsWriters defs (first_unsettled t.unsettled.items t.next) t.unsettled.items t.writers) (sym schema) sound.writers)))

-- the same but for what is kept
pub writers_told : (t new : Stored) → new.schema ≡ t.schema → new.unsettled.items ≡ t.unsettled.items → new.next ≡ t.next
    → TellsWriters t.schema (first_unsettled t.unsettled.items t.next) t.unsettled.items new.writers
    → TellsWriters new.schema (first_unsettled new.unsettled.items new.next) new.unsettled.items new.writers
writers_told t new schema unsettled next tells =
    subst (λ defs. TellsWriters defs (first_unsettled new.unsettled.items new.next) new.unsettled.items new.writers) (sym schema)
    (subst (λ n. TellsWriters t.schema (first_unsettled new.unsettled.items n) new.unsettled.items new.writers) (sym next)
    (subst (λ xs. TellsWriters t.schema (first_unsettled xs t.next) xs new.writers) (sym unsettled) tells))

-- one more transaction waits
pub writers_more : (t : Stored) (new : List Sealed) (p : PendingWrites) (x : Sealed) → x.ticket.0 ≡ t.next → new ≡ t.unsettled.items ++ x ∷ []
    → TellsWriters t.schema (first_unsettled t.unsettled.items t.next) (t.unsettled.items ++ x ∷ []) p → TellsWriters t.schema (first_unsettled new (t.next + 1)) new p
writers_more t new p x ticket unsettled tells =
    subst (λ xs. TellsWriters t.schema (first_unsettled xs (t.next + 1)) xs p) (sym unsettled)
    (subst (λ n. TellsWriters t.schema n (t.unsettled.items ++ x ∷ []) p) (sym (first_more t.unsettled.items x t.next ticket)) tells)

-- the first of them is no later than the next ticket
pub first_before : (t : Stored) → IsSound t → first_unsettled t.unsettled.items t.next ≤ t.next
first_before t sound = first_within 1 t.next t.unsettled.items sound.numbered

pub first_sealed : (t : Stored) (x : Sealed) (ops : List Op) → IsSound t → x ≡ record { ticket = record { 0 = t.next }; ops = ops } → first_unsettled t.unsettled.items t.next ≤ x.ticket.0
first_sealed t x ops sound is =
    let ticket : x.ticket.0 ≡ t.next = ap (λ (s : Sealed). s.ticket.0) is in
    let first = first_before t sound in
    omega arith

-- definitions come behind those that there are

-- of operations on tables that keep their definitions
module _ (schema more : List TableDef) (p : TableId → Bool) (same : (u : TableId) → p u ≡ true → slice_get (schema ++ more) u.0 ≡ slice_get schema u.0) (k : RowKey) where
  left_grown : (ops : List Op) → list_all (λ op. p (table_of op)) ops ≡ true → last_left (schema ++ more) k ops ≡ last_left schema k ops
  left_grown [] on = refl
  left_grown (op ∷ ops) on =
      let both = both_true (p (table_of op)) (list_all (λ o. p (table_of o)) ops) on in
      ap (λ o. option_or o (left_at (schema ++ more) k op)) (left_grown ops both.1)
      ∙ ap (λ d. option_or (last_left schema k ops) (cond (is_among (flat_map (written_key (table_of op) d) (rows_of op)) k) (Some (leaves op)) None)) (same (table_of op) both.0)

  writer_grown : (xs : List Sealed) → list_all (λ x. list_all (λ op. p (table_of op)) x.ops) xs ≡ true → last_writer (schema ++ more) k xs ≡ last_writer schema k xs
  writer_grown [] on = refl
  writer_grown (x ∷ xs) on =
      let both = both_true (list_all (λ op. p (table_of op)) x.ops) (list_all (λ y. list_all (λ op. p (table_of op)) y.ops) xs) on in
      ap (λ o. option_or o (writer_at (schema ++ more) k x)) (writer_grown xs both.1)
      ∙ ap (λ o. option_or (last_writer schema k xs) (option_map (λ b. let w : Writer = record { ticket = x.ticket; leaves = b } in w) o)) (left_grown x.ops both.0)

pub writers_grown : (schema more : List TableDef) (test : Group → Bool) (groups : List Group) → ((u : TableId) → is_table_of test groups u ≡ true → slice_get (schema ++ more) u.0 ≡ slice_get schema u.0) → (first : ℕ) (xs : List Sealed) (p : PendingWrites)
    → list_all (λ x. are_on test groups x.ops) xs ≡ true → TellsWriters schema first xs p → TellsWriters (schema ++ more) first xs p
writers_grown schema more test groups same first xs p on tells k = tells k ∙ sym (writer_grown schema more (is_table_of test groups) same k xs on)
