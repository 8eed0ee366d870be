-- The last writer of a key, as it is kept, is the last unsettled transaction that writes it.
use Rattle.std.proofs.Common.{◌≡◌, Bool, true, false, cond, ◌||◌, Option, Some, None, is_some, List, [], ◌∷◌, refl, sym, ap, subst, ◌∙◌}
use Rattle.std.specs.Option.{option_map, option_or}
use Rattle.tier_base.specs.declared.number.TableId.{TableId}
use Rattle.tier_base.specs.declared.number.Ticket.{Ticket}
use Rattle.row_types.specs.declared.value.Value.{Value}
use Rattle.table_defs.specs.declared.definition.TableDef.{TableDef}
use Rattle.table_state.specs.declared.history.Sealed.{Sealed}
use Rattle.table_state.specs.declared.operation.Op.{Op}
use Rattle.table_state.specs.declared.operation.Op.TheVariants.{Delete, Insert, Update}
use Rattle.table_state.specs.Footprints.{is_among, written_by}
use Rattle.order_laws.specs.Effects.{row_left_by}
use Rattle.cache_tier.specs.Pending.{last_written}
use Rattle.group_catalog.specs.Catalogs.{groups_in}
use Rattle.stored_tier.specs.declared.tier.Tier.{Tier as Stored}
use Rattle.pending_writes.specs.declared.writers.Writer.{Writer}
use Rattle.pending_writes.specs.LastWriters.{last_left, last_writer, leaves, writer_at}
use Rattle.session_engine.specs.Inserting.{HasWriter, IsLeft, IsSince, leaves_row, some_writes_key, writes_key}
use Rattle.session_engine.proofs.InsertLaws.{at_key, split_written}

leaves_some : (op : Op) → leaves op ≡ is_some (row_left_by op)
leaves_some (Insert t row) = refl
leaves_some (Update t old new) = refl
leaves_some (Delete t old) = refl

module _ (schema : List TableDef) (t : TableId) (key : List Value) where
  -- operations of which none writes the key leave what was found

  none_left : (ops : List Op) (found : Option (List Value)) → last_left schema (at_key t key) ops ≡ None → last_written schema t key ops found ≡ found
  none_left [] found e = refl
  none_left (op ∷ ops) found e = by (last_left schema (at_key t key) ops) refl (is_among (written_by schema op) (at_key t key)) refl e (none_left ops found)
    where
      by : (o : Option Bool) → last_left schema (at_key t key) ops ≡ o → (c : Bool) → is_among (written_by schema op) (at_key t key) ≡ c → option_or o (cond c (Some (leaves op)) None) ≡ None
          → (last_left schema (at_key t key) ops ≡ None → last_written schema t key ops found ≡ found) → last_written schema t key (op ∷ ops) found ≡ found
      by None rest false at e more = ap (λ c. last_written schema t key ops (cond c (row_left_by op) found)) at ∙ more rest
      by None rest true at e more = cc
      by (Some b) rest c at e more = cc

  -- the last of operations that write the key tells what was written last
  told_written : (ops : List Op) (found : Option (List Value)) (b : Bool) → last_left schema (at_key t key) ops ≡ Some b → b ≡ is_some (last_written schema t key ops found)
  told_written [] found b e = cc
  told_written (op ∷ ops) found b e =
      by (last_left schema (at_key t key) ops) refl (is_among (written_by schema op) (at_key t key)) refl e
      (told_written ops (cond (is_among (written_by schema op) (at_key t key)) (row_left_by op) found) b)
    where
      by : (o : Option Bool) → last_left schema (at_key t key) ops ≡ o → (c : Bool) → is_among (written_by schema op) (at_key t key) ≡ c → option_or o (cond c (Some (leaves op)) None) ≡ Some b
          → (last_left schema (at_key t key) ops ≡ Some b → b ≡ is_some (last_written schema t key (op ∷ ops) found)) → b ≡ is_some (last_written schema t key (op ∷ ops) found)
      by None rest true at e more =
          let same : leaves op ≡ b = cc in
          sym same ∙ leaves_some op ∙ sym (ap is_some (ap (λ c. last_written schema t key ops (cond c (row_left_by op) found)) at ∙ none_left ops (row_left_by op) rest))
      by None rest false at e more = cc
      by (Some x) rest c at e more = let same : x ≡ b = cc in more (rest ∙ ap Some same)

  writes_some : (ops : List Op) → is_some (last_left schema (at_key t key) ops) ≡ writes_key schema ops t key
  writes_some [] = refl
  writes_some (op ∷ ops) = by (last_left schema (at_key t key) ops) (is_among (written_by schema op) (at_key t key)) (writes_some ops) ∙ sym (split_written schema op ops (at_key t key))
    where
      by : (o : Option Bool) (c : Bool) → is_some o ≡ writes_key schema ops t key → is_some (option_or o (cond c (Some (leaves op)) None)) ≡ (c || writes_key schema ops t key)
      by None true e = refl
      by None false e = e
      by (Some x) true e = refl
      by (Some x) false e = e

  -- of transactions

  some_writer : (xs : List Sealed) → is_some (last_writer schema (at_key t key) xs) ≡ some_writes_key schema xs t key
  some_writer [] = refl
  some_writer (x ∷ xs) = by (last_writer schema (at_key t key) xs) (last_left schema (at_key t key) x.ops) (some_writer xs) (writes_some x.ops)
    where
      by : (o : Option Writer) (l : Option Bool) → is_some o ≡ some_writes_key schema xs t key → is_some l ≡ writes_key schema x.ops t key
          → is_some (option_or o (option_map (λ b. let w : Writer = record { ticket = x.ticket; leaves = b } in w) l)) ≡ (writes_key schema x.ops t key || some_writes_key schema xs t key)
      by None None rest own = λ i. own i || rest i
      by None (Some b) rest own = ap (λ c. c || some_writes_key schema xs t key) own
      by (Some w) None rest own = λ i. own i || rest i
      by (Some w) (Some b) rest own = ap (λ c. c || some_writes_key schema xs t key) own

  pub none_writes_key : (xs : List Sealed) → last_writer schema (at_key t key) xs ≡ None → some_writes_key schema xs t key ≡ false
  none_writes_key xs none = sym (some_writer xs) ∙ ap is_some none

  -- the last writer, as a transaction
  pub record IsWriter (xs : List Sealed) (w : Writer) : Type 0 where
    pub one : Sealed
    pub has : HasWriter schema xs t key one
    pub ticket : w.ticket ≡ one.ticket
    pub told : w.leaves ≡ leaves_row schema one.ops t key

  own_writer : (x : Sealed) (xs : List Sealed) (w : Writer) → last_writer schema (at_key t key) xs ≡ None → (l : Option Bool) → last_left schema (at_key t key) x.ops ≡ l
      → option_map (λ (b : Bool). let v : Writer = record { ticket = x.ticket; leaves = b } in v) l ≡ Some w → IsWriter (x ∷ xs) w
  own_writer x xs w none None l e = cc
  own_writer x xs w none (Some b) l e =
      let v : Writer = record { ticket = x.ticket; leaves = b } in
      let same : v ≡ w = cc in
      record {
        one = x;
        has = record { before = []; behind = xs; is = refl; writes = sym (writes_some x.ops) ∙ ap is_some l; none = none_writes_key xs none };
        ticket = ap (λ (z : Writer). z.ticket) (sym same);
        told = ap (λ (z : Writer). z.leaves) (sym same) ∙ told_written x.ops None b l;
      }

  later_writer : (x : Sealed) (xs : List Sealed) (w : Writer) → IsWriter xs w → IsWriter (x ∷ xs) w
  later_writer x xs w is = record {
    one = is.one;
    has = record { before = x ∷ is.has.before; behind = is.has.behind; is = ap (λ l. x ∷ l) is.has.is; writes = is.has.writes; none = is.has.none };
    ticket = is.ticket;
    told = is.told;
  }

  pub is_writer : (xs : List Sealed) (w : Writer) → last_writer schema (at_key t key) xs ≡ Some w → IsWriter xs w
  is_writer [] w e = cc
  is_writer (x ∷ xs) w e = by (last_writer schema (at_key t key) xs) refl e (is_writer xs w)
    where
      by : (o : Option Writer) → last_writer schema (at_key t key) xs ≡ o → option_or o (writer_at schema (at_key t key) x) ≡ Some w → (last_writer schema (at_key t key) xs ≡ Some w → IsWriter xs w) → IsWriter (x ∷ xs) w
      by None none e rest = own_writer x xs w none (last_left schema (at_key t key) x.ops) refl e
      by (Some v) some e rest = later_writer x xs w (rest (some ∙ e))

-- it tells what the last unsettled transaction that writes the key leaves there
pub is_left : (t : Stored) (table : TableId) (key : List Value) (w : Writer) → last_writer t.schema (at_key table key) t.unsettled.items ≡ Some w → IsSince (groups_in t.catalog) table w.ticket.0 → IsLeft t table key w.leaves
is_left t table key w is since =
    let x = is_writer t.schema table key t.unsettled.items w is in
    record {
      one = x.one;
      writer = x.has;
      since = subst (λ n. IsSince (groups_in t.catalog) table n) (ap (λ (n : Ticket). n.0) x.ticket) since;
      told = x.told;
    }
