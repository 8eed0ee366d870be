-- What an operation writes, in the words of footprints; and the laws of pairs in those words.
use Rattle.std.proofs.Common.{◌≡◌, Bool, true, false, cond, ◌||◌, ◌&&◌, Option, Some, List, [], ◌∷◌, refl, sym, ap, ◌∙◌, eq-eqb}
use Rattle.std.specs.List.{flat_map}
use Rattle.table_state.specs.row_types.specs.declared.value.Value.{Value}
use Rattle.table_state.specs.tier_base.specs.declared.number.TableId.{TableId}
use Rattle.table_state.specs.table_defs.specs.declared.definition.TableDef.{TableDef}
use Rattle.table_state.specs.declared.footprint.RowKey.{RowKey}
use Rattle.table_state.specs.declared.history.Sealed.{Sealed}
use Rattle.table_state.specs.declared.operation.Op.{Op}
use Rattle.table_state.specs.declared.operation.Op.TheVariants.{Insert, Update, Delete}
use Rattle.table_state.specs.indexed_rows.specs.Rows.{Table, key_of}
use Rattle.table_state.specs.indexed_rows.proofs.EntryLaws.{same_itself, same_values}
use Rattle.table_state.specs.Footprints.{conflict, footprint_of, is_among, rows_of, same_row_key, written_by, written_key}
use Rattle.table_state.specs.Tables.{TableState, fits_columns, has_parent, is_there}
use Rattle.table_state.specs.Operations.{applied, applied_all, table_of}
use Rattle.order_laws.specs.Commits.{NoneConflicts, applied_sealed, ops_conflict, ops_on}
use Rattle.order_laws.specs.Effects.{HasWritten, LeaveAlone, row_at, row_left_by}
use Rattle.order_laws.specs.Sides.{IsClosed, LeadsAlike, LeadsBeside, SidesApart, are_on}
use Rattle.order_laws.proofs.AtOnceLaws.{conflict_none}
use Rattle.order_laws.proofs.BeginLaws.{applies_over}
use Rattle.order_laws.proofs.ChainLaws.{applies_as_before, commutes, lists_parted, turn}
use Rattle.order_laws.proofs.NextLaws.{sealed_parted}
use Rattle.order_laws.proofs.PairLaws.{Parted, apart_of, first_part, ops_parted, part_apart, print_of, same_place, turned}
use Rattle.order_laws.proofs.SideLaws.{restricted, side_off, side_on, sides_apart}
use Rattle.order_laws.proofs.StepLaws.{asks, child_after, key_in, parts, row_after, row_stays, written_is}
use Rattle.order_laws.proofs.TruthLaws.{both_true, or_false}

abbrev Row : Type 0
Row = List Value

-- the key that it writes is the one
key_is : (op : Op) (s : TableState) (def : TableDef) (table : Table) (w : RowKey) → asks op s def table ≡ true → is_among (flat_map (written_key (table_of op) (Some def)) (rows_of op)) w ≡ true
    → record { table = table_of op; key = key_in def op } ≡ w
key_is (Insert t row) s def table w asked e = same_place w (record { table = t; key = key_of def.primary_key row }) (sym (or_false (same_row_key w (record { table = t; key = key_of def.primary_key row }))) ∙ e)
key_is (Update t old new) s def table w asked e = by (same_row_key w (record { table = t; key = key_of def.primary_key old })) refl e
  where
    keys : key_of def.primary_key new ≡ key_of def.primary_key old
    keys =
        sym (same_values (key_of def.primary_key old) (key_of def.primary_key new) (both_true (fits_columns def.columns new) _ (both_true _ (is_there def old table) (both_true _ (has_parent s def.foreign_key new) asked).0).0).1)

    by : (b : Bool) → same_row_key w (record { table = t; key = key_of def.primary_key old }) ≡ b → (b || (same_row_key w (record { table = t; key = key_of def.primary_key new }) || false)) ≡ true
        → record { table = t; key = key_of def.primary_key new } ≡ w
    by true is e = (λ i. record { table = t; key = keys i }) ∙ same_place w (record { table = t; key = key_of def.primary_key old }) is
    by false is e = same_place w (record { table = t; key = key_of def.primary_key new }) (sym (or_false (same_row_key w (record { table = t; key = key_of def.primary_key new }))) ∙ e)
key_is (Delete t old) s def table w asked e = same_place w (record { table = t; key = key_of def.primary_key old }) (sym (or_false (same_row_key w (record { table = t; key = key_of def.primary_key old }))) ∙ e)

writes : (op : Op) (s n : TableState) → applied op s ≡ Some n → (w : RowKey) → is_among (written_by s.schema op) w ≡ true → row_at n w.table w.key ≡ row_left_by op
writes op s n is w e =
    let a = parts op s n is in
    let w_is = key_is op s a.def a.table w a.asked (ap (λ l. is_among l w) (sym (written_is op s.schema a.def a.defined)) ∙ e) in
    ap (λ (x : RowKey). row_at n x.table x.key) (sym w_is)
    ∙ row_after op s n a (table_of op) (key_in a.def op)
    ∙ (λ i. cond (eq-eqb (table_of op).0 (table_of op).0 refl i && same_itself (key_in a.def op) (key_in a.def op) refl i) (row_left_by op) (row_at s (table_of op) (key_in a.def op)))

keeps : (op : Op) (s n : TableState) → applied op s ≡ Some n → (w : RowKey) → is_among (written_by s.schema op) w ≡ false → row_at n w.table w.key ≡ row_at s w.table w.key
keeps op s n is w e = row_stays op s n (parts op s n is) w e

pub has_written : (op : Op) (s n : TableState) → applied op s ≡ Some n → HasWritten op s n
has_written op s n is = record { writes = writes op s n is; keeps = keeps op s n is; children = λ w e. child_after op s n (parts op s n is) w e }

-- pairs and lists

one_parted : (a b : Op) (s : TableState) → conflict (footprint_of s.schema (a ∷ [])) (footprint_of s.schema (b ∷ [])) ≡ false → Parted (applied a) (applied b) s
one_parted a b s none =
    let apart = apart_of (footprint_of s.schema (a ∷ [])) (footprint_of s.schema (b ∷ [])) none in
    let first = part_apart (footprint_of s.schema (a ∷ [])) (print_of s.schema a) (footprint_of s.schema (b ∷ [])) (first_part s.schema a []) apart in
    ops_parted a b s (turned (print_of s.schema b) (print_of s.schema a)
    (part_apart (footprint_of s.schema (b ∷ [])) (print_of s.schema b) (print_of s.schema a) (first_part s.schema b []) (turned (print_of s.schema a) (footprint_of s.schema (b ∷ [])) first)))

pub all_parted : (xs ys : List Op) (s : TableState) → conflict (footprint_of s.schema xs) (footprint_of s.schema ys) ≡ false → Parted (applied_all xs) (applied_all ys) s
all_parted xs ys s none = turn (applied_all ys) (applied_all xs) s (lists_parted xs ys s (apart_of (footprint_of s.schema xs) (footprint_of s.schema ys) none))

leaves_alone : (f g : TableState → Option TableState) (s : TableState) → Parted f g s → LeaveAlone f g s
leaves_alone f g s parted = record { commute = commutes f g s parted; applies = λ n is. applies_as_before f g s n parted is }

pub one_apart : (a b : Op) (s : TableState) → ops_conflict s.schema (a ∷ []) (b ∷ []) ≡ false → LeaveAlone (applied a) (applied b) s
one_apart a b s none = leaves_alone (applied a) (applied b) s (one_parted a b s none)

pub all_apart : (xs ys : List Op) (s : TableState) → ops_conflict s.schema xs ys ≡ false → LeaveAlone (applied_all xs) (applied_all ys) s
all_apart xs ys s none = leaves_alone (applied_all xs) (applied_all ys) s (all_parted xs ys s none)

-- a transaction past others

pub past_apart : (xs : List Sealed) (j : Sealed) (s : TableState) → NoneConflicts s.schema xs j → LeaveAlone (applied_sealed xs) (applied_all j.ops) s
past_apart xs j s none = leaves_alone (applied_sealed xs) (applied_all j.ops) s (sealed_parted xs j s none)

-- both sides of closed tables

pub sides_no_conflict : (tables : List TableId) (schema : List TableDef) → IsClosed tables schema → SidesApart tables schema
sides_no_conflict tables schema closed xs ys on off =
    conflict_none (footprint_of schema xs) (footprint_of schema ys) (sides_apart tables schema closed xs ys (side_on tables xs on) (side_off tables ys off))

pub leads_alone : (on : List TableId) (ops : List Op) (s t n : TableState) → LeadsBeside on ops s t n → LeadsAlike on (ops_on on ops) n t
leads_alone on ops s t n leads = let (u, u_is, agree) = restricted on ops s t n leads.closed leads.agree leads.leads in record { state = u; leads = u_is; agree = agree }

pub leads_over : (on : List TableId) (ops : List Op) (s t n : TableState) → LeadsBeside on ops s t n → are_on on ops ≡ true → LeadsAlike on ops n t
leads_over on ops s t n leads all = let (u, u_is, agree) = applies_over on ops s t n leads.closed leads.agree all leads.leads in record { state = u; leads = u_is; agree = agree }
