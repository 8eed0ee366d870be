-- Operations and entries are read as they are spelled.
use Rattle.std.proofs.Common.{◌≡◌, ℕ, ◌^◌, ◌<◌, ◌≤◌, Bool, true, false, ltb, leb, eqb, List, [], ◌∷◌, ◌++◌, length, Some, refl, sym, ap, subst, ◌∙◌, arith, inl, inr}
use Rattle.std.specs.List.{flat_map, AllByRecursion}
use Rattle.std.specs.Int.{w16, w32, w64, to_be_bytes}
use Rattle.std.proofs.lemmas.Bool.{ltb-true, eqb-true, lt-ltb, le-leb, leb-true}
use Rattle.std.proofs.lemmas.Option.{same_Some}
use Rattle.row_types.specs.tier_base.specs.declared.number.Ticket.{Ticket}
use Rattle.row_types.specs.declared.value.Value.{Value}
use Rattle.journal_entries.specs.declared.entry.Op.{Op}
use Rattle.journal_entries.specs.declared.entry.Op.TheVariants.{Insert, Update, Delete}
use Rattle.journal_entries.specs.declared.entry.GroupState.{GroupState}
use Rattle.journal_entries.specs.declared.entry.GroupState.TheVariants.{Off, Paused, On}
use Rattle.journal_entries.specs.declared.entry.Entry.{Entry}
use Rattle.journal_entries.specs.declared.entry.Entry.TheVariants.{Commit, Prepare, Passed, Mark, Defined, Dropped, Turned, Loaded}
use Rattle.journal_entries.specs.Spelling.{IsBytes, name_bytes, row_bytes, op_bytes, transaction_bytes, state_byte, flag_byte, entry_bytes, IsRow, IsOp, IsTransaction, IsEntry}
use Rattle.journal_entries.specs.Reading.{both_at, then_at, test_at, code_at, many_at, byte_at, number_at, bytes_at, name_at, row_at, insert_at, update_at, delete_at, tagged_op_at, op_at, is_op_count, ops_at, transaction_at, commit_at, prepare_at, passed_at, mark_at, defined_at, dropped_at, state_of, turned_at, flag_of, loaded_at, tagged_entry_at, entry_at}
use Rattle.journal_entries.proofs.Exact.{Takes, Takes-then, Exact, bind_some, exact_both, exact_then, exact_test, exact_code, exact_many, as_takes, as_again, wide16, wide32, wide64, exact_number, exact_byte, exact_bytes, exact_name}
use Rattle.journal_entries.proofs.Values.{chosen, and_true, none_is, exact_row}

abbrev FitsName : List ℕ → Type 0
FitsName name = (length name < 2 ^ 8) × Unit {0}

-- ---- operations

pub record OpTakes (version tag : ℕ) (bytes : List ℕ) (x : Op) (rest : List ℕ) : Type 0 where
  pub text : List ℕ
  pub spelled : op_bytes x ≡ tag ∷ text
  pub takes : Takes bytes text rest
  pub fits : IsOp version x

exact_one : (version : ℕ) → Exact (λ b. both_at (λ b. name_at b) (λ b. row_at version b) b) (λ p. name_bytes p.0 ++ row_bytes p.1) (λ p. FitsName p.0 × IsRow version p.1)
exact_one version = exact_both (λ b. name_at b) (λ b. row_at version b) name_bytes row_bytes FitsName (λ row. IsRow version row) exact_name (exact_row version)

exact_two : (version : ℕ) → Exact (λ b. both_at (λ b. row_at version b) (λ b. row_at version b) b) (λ p. row_bytes p.0 ++ row_bytes p.1) (λ p. IsRow version p.0 × IsRow version p.1)
exact_two version = exact_both (λ b. row_at version b) (λ b. row_at version b) row_bytes row_bytes (λ row. IsRow version row) (λ row. IsRow version row) (exact_row version) (exact_row version)

exact_three : (version : ℕ) → Exact (λ b. both_at (λ b. name_at b) (λ b. both_at (λ b. row_at version b) (λ b. row_at version b) b) b) (λ p. name_bytes p.0 ++ (row_bytes p.1.0 ++ row_bytes p.1.1)) (λ p. FitsName p.0 × (IsRow version p.1.0 × IsRow version p.1.1))
exact_three version = exact_both (λ b. name_at b) (λ b. both_at (λ b. row_at version b) (λ b. row_at version b) b) name_bytes (λ p. row_bytes p.0 ++ row_bytes p.1) FitsName (λ p. IsRow version p.0 × IsRow version p.1) exact_name (exact_two version)

insert_takes : (version : ℕ) (bytes : List ℕ) (x : Op) (rest : List ℕ) → IsBytes bytes → insert_at version bytes ≡ Some (x, rest) → OpTakes version 1 bytes x rest
unfolding insert_at
insert_takes version bytes x rest fits e =
    let t = as_takes (λ (p : List ℕ × List Value). Insert p.0 p.1) (λ b. both_at (λ b. name_at b) (λ b. row_at version b) b) (λ p. name_bytes p.0 ++ row_bytes p.1) (λ p. FitsName p.0 × IsRow version p.1) (exact_one version) bytes x rest fits e in
    subst (λ (x : Op). OpTakes version 1 bytes x rest) t.1 (record { text = name_bytes t.0.0 ++ row_bytes t.0.1; spelled = refl; takes = t.2; fits = (t.3.0.0, t.3.1) })

update_takes : (version : ℕ) (bytes : List ℕ) (x : Op) (rest : List ℕ) → IsBytes bytes → update_at version bytes ≡ Some (x, rest) → OpTakes version 2 bytes x rest
unfolding update_at
update_takes version bytes x rest fits e =
    let t = as_takes (λ (p : List ℕ × (List Value × List Value)). Update p.0 p.1.0 p.1.1) (λ b. both_at (λ b. name_at b) (λ b. both_at (λ b. row_at version b) (λ b. row_at version b) b) b) (λ p. name_bytes p.0 ++ (row_bytes p.1.0 ++ row_bytes p.1.1)) (λ p. FitsName p.0 × (IsRow version p.1.0 × IsRow version p.1.1)) (exact_three version) bytes x rest fits e in
    subst (λ (x : Op). OpTakes version 2 bytes x rest) t.1 (record { text = name_bytes t.0.0 ++ (row_bytes t.0.1.0 ++ row_bytes t.0.1.1); spelled = refl; takes = t.2; fits = (t.3.0.0, t.3.1.0, t.3.1.1) })

delete_takes : (version : ℕ) (bytes : List ℕ) (x : Op) (rest : List ℕ) → IsBytes bytes → delete_at version bytes ≡ Some (x, rest) → OpTakes version 3 bytes x rest
unfolding delete_at
delete_takes version bytes x rest fits e =
    let t = as_takes (λ (p : List ℕ × List Value). Delete p.0 p.1) (λ b. both_at (λ b. name_at b) (λ b. row_at version b) b) (λ p. name_bytes p.0 ++ row_bytes p.1) (λ p. FitsName p.0 × IsRow version p.1) (exact_one version) bytes x rest fits e in
    subst (λ (x : Op). OpTakes version 3 bytes x rest) t.1 (record { text = name_bytes t.0.0 ++ row_bytes t.0.1; spelled = refl; takes = t.2; fits = (t.3.0.0, t.3.1) })

tagged_op_takes : (version tag : ℕ) (bytes : List ℕ) (x : Op) (rest : List ℕ) → IsBytes bytes → tagged_op_at version tag bytes ≡ Some (x, rest) → OpTakes version tag bytes x rest
tagged_op_takes version tag bytes x rest fits e =
    let at = λ (t : ℕ). OpTakes version t bytes x rest in
    elim (chosen (eqb tag 1) _ _ (Some (x, rest)) e) [
      | inl p ↦ subst at (sym (eqb-true tag 1 p.0)) (insert_takes version bytes x rest fits p.1)
      | inr n1 ↦ elim (chosen (eqb tag 2) _ _ (Some (x, rest)) n1.1) [
        | inl p ↦ subst at (sym (eqb-true tag 2 p.0)) (update_takes version bytes x rest fits p.1)
        | inr n2 ↦ elim (chosen (eqb tag 3) _ _ (Some (x, rest)) n2.1) [
          | inl p ↦ subst at (sym (eqb-true tag 3 p.0)) (delete_takes version bytes x rest fits p.1)
          | inr n3 ↦ none_is (x, rest) n3.1
        ]
      ]
    ]

op_takes : (version : ℕ) (bytes : List ℕ) (x : Op) (rest : List ℕ) → IsBytes bytes → op_at version bytes ≡ Some (x, rest) → Takes bytes (op_bytes x) rest × IsOp version x
unfolding op_at
op_takes version bytes x rest fits e =
    let p = bind_some (byte_at bytes) (λ tag. tagged_op_at version tag.0 tag.1) (x, rest) e in
    let b = exact_byte.takes bytes p.0.0 p.0.1 fits p.1 in
    let t = tagged_op_takes version p.0.0 p.0.1 x rest b.0.rest_fits p.2 in
    (rw t.spelled (Takes-then bytes (p.0.0 ∷ []) p.0.1 t.text rest b.0 t.takes), t.fits)

op_again : (version : ℕ) (x : Op) (rest : List ℕ) → IsOp version x → op_at version (op_bytes x ++ rest) ≡ Some (x, rest)
unfolding op_at byte_at insert_at update_at delete_at
op_again version (Insert table row) rest h = as_again (λ (p : List ℕ × List Value). Insert p.0 p.1) (λ b. both_at (λ b. name_at b) (λ b. row_at version b) b) (λ p. name_bytes p.0 ++ row_bytes p.1) (λ p. FitsName p.0 × IsRow version p.1) (exact_one version) (table, row) rest ((h.0, tt), h.1)
op_again version (Update table old new) rest h = as_again (λ (p : List ℕ × (List Value × List Value)). Update p.0 p.1.0 p.1.1) (λ b. both_at (λ b. name_at b) (λ b. both_at (λ b. row_at version b) (λ b. row_at version b) b) b) (λ p. name_bytes p.0 ++ (row_bytes p.1.0 ++ row_bytes p.1.1)) (λ p. FitsName p.0 × (IsRow version p.1.0 × IsRow version p.1.1)) (exact_three version) (table, (old, new)) rest ((h.0, tt), (h.1, h.2))
op_again version (Delete table row) rest h = as_again (λ (p : List ℕ × List Value). Delete p.0 p.1) (λ b. both_at (λ b. name_at b) (λ b. row_at version b) b) (λ p. name_bytes p.0 ++ row_bytes p.1) (λ p. FitsName p.0 × IsRow version p.1) (exact_one version) (table, row) rest ((h.0, tt), h.1)

pub exact_op : (version : ℕ) → Exact (λ b. op_at version b) op_bytes (IsOp version)
exact_op version = record { takes = λ bytes x rest fits e. op_takes version bytes x rest fits e; again = λ x rest h. op_again version x rest h }

-- ---- transactions

abbrev FitsOps : ℕ → List Op → Type 0
FitsOps version ops = ((length ops < 2 ^ 16) × (is_op_count (length ops) ≡ true)) × AllByRecursion (IsOp version) ops

exact_ops : (version : ℕ) → Exact (λ b. ops_at version b) (λ ops. to_be_bytes w16 (length ops) ++ flat_map op_bytes ops) (λ ops. FitsOps version ops)
unfolding ops_at
exact_ops version = exact_then (λ b. test_at (λ n. is_op_count n) (λ b. number_at w16 b) b) (λ n b. many_at (λ b. op_at version b) n b) (λ (ops : List Op). length ops) (λ n. to_be_bytes w16 n) (λ ops. flat_map op_bytes ops) (λ n. (n < 2 ^ 16) × (is_op_count n ≡ true)) (λ ops. AllByRecursion (IsOp version) ops)
    (exact_test (λ n. is_op_count n) (λ b. number_at w16 b) (λ n. to_be_bytes w16 n) (λ n. n < 2 ^ 16) (exact_number w16 (2 ^ 16) wide16))
    (λ n. exact_many (λ b. op_at version b) op_bytes (IsOp version) (exact_op version) n)

exact_pair : (version : ℕ) → Exact (λ b. transaction_at version b) (λ p. to_be_bytes w64 p.0 ++ (to_be_bytes w16 (length p.1) ++ flat_map op_bytes p.1)) (λ p. (p.0 < 2 ^ 64) × FitsOps version p.1)
unfolding transaction_at
exact_pair version = exact_both (λ b. number_at w64 b) (λ b. ops_at version b) (λ n. to_be_bytes w64 n) (λ ops. to_be_bytes w16 (length ops) ++ flat_map op_bytes ops) (λ n. n < 2 ^ 64) (λ ops. FitsOps version ops) (exact_number w64 (2 ^ 64) wide64) (exact_ops version)

is_transaction : (version : ℕ) (p : ℕ × List Op) → (p.0 < 2 ^ 64) × FitsOps version p.1 → IsTransaction version (record { 0 = p.0 }) p.1
is_transaction version p h =
    let c = and_true (ltb 0 (length p.1)) (leb (length p.1) 10000) h.1.0.1 in
    let above : 0 < length p.1 = ltb-true 0 (length p.1) c.0 in
    record { number = h.0; some = omega arith; count = leb-true (length p.1) 10000 c.1; each = h.1.1 }

from_transaction : (version : ℕ) (ticket : Ticket) (ops : List Op) → IsTransaction version ticket ops → (ticket.0 < 2 ^ 64) × FitsOps version ops
from_transaction version ticket ops h =
    let some : 1 ≤ length ops = h.some in
    let count : length ops ≤ 10000 = h.count in
    let test : is_op_count (length ops) ≡ true = rw (lt-ltb 0 (length ops) (omega arith), le-leb (length ops) 10000 count) refl in
    (h.number, (((omega arith, test)), h.each))

-- ---- entries

pub record EntryTakes (version tag : ℕ) (bytes : List ℕ) (x : Entry) (rest : List ℕ) : Type 0 where
  pub text : List ℕ
  pub spelled : entry_bytes x ≡ tag ∷ text
  pub takes : Takes bytes text rest
  pub fits : IsEntry version x

commit_takes : (version : ℕ) (bytes : List ℕ) (x : Entry) (rest : List ℕ) → IsBytes bytes → commit_at version bytes ≡ Some (x, rest) → EntryTakes version 1 bytes x rest
unfolding commit_at
commit_takes version bytes x rest fits e =
    let t = as_takes (λ (p : ℕ × List Op). Commit (record { 0 = p.0 }) p.1) (λ b. transaction_at version b) (λ p. to_be_bytes w64 p.0 ++ (to_be_bytes w16 (length p.1) ++ flat_map op_bytes p.1)) (λ p. (p.0 < 2 ^ 64) × FitsOps version p.1) (exact_pair version) bytes x rest fits e in
    subst (λ (x : Entry). EntryTakes version 1 bytes x rest) t.1 (record { text = transaction_bytes (record { 0 = t.0.0 }) t.0.1; spelled = refl; takes = t.2; fits = is_transaction version t.0 t.3 })

prepare_takes : (version : ℕ) (bytes : List ℕ) (x : Entry) (rest : List ℕ) → IsBytes bytes → prepare_at version bytes ≡ Some (x, rest) → EntryTakes version 2 bytes x rest
unfolding prepare_at
prepare_takes version bytes x rest fits e =
    let t = as_takes (λ (p : ℕ × List Op). Prepare (record { 0 = p.0 }) p.1) (λ b. transaction_at version b) (λ p. to_be_bytes w64 p.0 ++ (to_be_bytes w16 (length p.1) ++ flat_map op_bytes p.1)) (λ p. (p.0 < 2 ^ 64) × FitsOps version p.1) (exact_pair version) bytes x rest fits e in
    subst (λ (x : Entry). EntryTakes version 2 bytes x rest) t.1 (record { text = transaction_bytes (record { 0 = t.0.0 }) t.0.1; spelled = refl; takes = t.2; fits = is_transaction version t.0 t.3 })

passed_takes : (version : ℕ) (bytes : List ℕ) (x : Entry) (rest : List ℕ) → IsBytes bytes → passed_at bytes ≡ Some (x, rest) → EntryTakes version 3 bytes x rest
unfolding passed_at
passed_takes version bytes x rest fits e =
    let t = as_takes (λ (n : ℕ). Passed (record { 0 = n })) (λ b. number_at w64 b) (λ n. to_be_bytes w64 n) (λ n. n < 2 ^ 64) (exact_number w64 (2 ^ 64) wide64) bytes x rest fits e in
    subst (λ (x : Entry). EntryTakes version 3 bytes x rest) t.1 (record { text = to_be_bytes w64 t.0; spelled = refl; takes = t.2; fits = t.3 })

mark_takes : (version : ℕ) (bytes : List ℕ) (x : Entry) (rest : List ℕ) → IsBytes bytes → mark_at bytes ≡ Some (x, rest) → EntryTakes version 4 bytes x rest
unfolding mark_at
mark_takes version bytes x rest fits e =
    let t = as_takes (λ (n : ℕ). Mark (record { 0 = n })) (λ b. number_at w64 b) (λ n. to_be_bytes w64 n) (λ n. n < 2 ^ 64) (exact_number w64 (2 ^ 64) wide64) bytes x rest fits e in
    subst (λ (x : Entry). EntryTakes version 4 bytes x rest) t.1 (record { text = to_be_bytes w64 t.0; spelled = refl; takes = t.2; fits = t.3 })

exact_long : Exact (λ b. then_at (λ b. number_at w32 b) (λ n b. bytes_at n b) b) (λ t. to_be_bytes w32 (length t) ++ t) (λ t. (length t < 2 ^ 32) × Unit {0})
exact_long = exact_then (λ b. number_at w32 b) (λ n b. bytes_at n b) (λ (t : List ℕ). length t) (λ n. to_be_bytes w32 n) (λ t. t) (λ n. n < 2 ^ 32) (λ t. Unit {0}) (exact_number w32 (2 ^ 32) wide32) exact_bytes

defined_takes : (version : ℕ) (bytes : List ℕ) (x : Entry) (rest : List ℕ) → IsBytes bytes → defined_at bytes ≡ Some (x, rest) → EntryTakes version 5 bytes x rest
unfolding defined_at
defined_takes version bytes x rest fits e =
    let t = as_takes (λ (t : List ℕ). Defined t) (λ b. then_at (λ b. number_at w32 b) (λ n b. bytes_at n b) b) (λ t. to_be_bytes w32 (length t) ++ t) (λ t. (length t < 2 ^ 32) × Unit {0}) exact_long bytes x rest fits e in
    subst (λ (x : Entry). EntryTakes version 5 bytes x rest) t.1 (record { text = to_be_bytes w32 (length t.0) ++ t.0; spelled = refl; takes = t.2; fits = t.3.0 })

dropped_takes : (version : ℕ) (bytes : List ℕ) (x : Entry) (rest : List ℕ) → IsBytes bytes → dropped_at bytes ≡ Some (x, rest) → EntryTakes version 6 bytes x rest
unfolding dropped_at
dropped_takes version bytes x rest fits e =
    let t = as_takes (λ (t : List ℕ). Dropped t) (λ b. name_at b) name_bytes FitsName exact_name bytes x rest fits e in
    subst (λ (x : Entry). EntryTakes version 6 bytes x rest) t.1 (record { text = name_bytes t.0; spelled = refl; takes = t.2; fits = t.3.0 })

state_back : (n : ℕ) (y : GroupState) → state_of n ≡ Some y → state_byte y ≡ n
state_back n y e =
    elim (chosen (eqb n 0) _ _ (Some y) e) [
      | inl p ↦ ap state_byte (sym (same_Some Off y p.1)) ∙ sym (eqb-true n 0 p.0)
      | inr p ↦ elim (chosen (eqb n 1) _ _ (Some y) p.1) [
        | inl q ↦ ap state_byte (sym (same_Some Paused y q.1)) ∙ sym (eqb-true n 1 q.0)
        | inr q ↦ elim (chosen (eqb n 2) _ _ (Some y) q.1) [
          | inl r ↦ ap state_byte (sym (same_Some On y r.1)) ∙ sym (eqb-true n 2 r.0)
          | inr r ↦ none_is y r.1
        ]
      ]
    ]

state_forth : (y : GroupState) → state_of (state_byte y) ≡ Some y
state_forth Off = refl
state_forth Paused = refl
state_forth On = refl

flag_back : (n : ℕ) (y : Bool) → flag_of n ≡ Some y → flag_byte y ≡ n
flag_back n y e =
    elim (chosen (eqb n 0) _ _ (Some y) e) [
      | inl p ↦ ap flag_byte (sym (same_Some false y p.1)) ∙ sym (eqb-true n 0 p.0)
      | inr p ↦ elim (chosen (eqb n 1) _ _ (Some y) p.1) [
        | inl q ↦ ap flag_byte (sym (same_Some true y q.1)) ∙ sym (eqb-true n 1 q.0)
        | inr q ↦ none_is y q.1
      ]
    ]

flag_forth : (y : Bool) → flag_of (flag_byte y) ≡ Some y
flag_forth false = refl
flag_forth true = refl

state_fits : (y : GroupState) → state_byte y < 2 ^ 8
state_fits Off = omega arith
state_fits Paused = omega arith
state_fits On = omega arith

flag_fits : (y : Bool) → flag_byte y < 2 ^ 8
flag_fits false = omega arith
flag_fits true = omega arith

exact_turned : Exact (λ b. both_at (λ b. name_at b) (λ b. code_at (λ n. state_of n) (λ b. byte_at b) b) b) (λ p. name_bytes p.0 ++ (state_byte p.1 ∷ [])) (λ p. FitsName p.0 × (state_byte p.1 < 2 ^ 8))
exact_turned = exact_both (λ b. name_at b) (λ b. code_at (λ n. state_of n) (λ b. byte_at b) b) name_bytes (λ y. state_byte y ∷ []) FitsName (λ y. state_byte y < 2 ^ 8) exact_name
    (exact_code (λ n. state_of n) state_byte state_back state_forth (λ b. byte_at b) (λ b. b ∷ []) (λ b. b < 2 ^ 8) exact_byte)

exact_loaded : Exact (λ b. both_at (λ b. name_at b) (λ b. code_at (λ n. flag_of n) (λ b. byte_at b) b) b) (λ p. name_bytes p.0 ++ (flag_byte p.1 ∷ [])) (λ p. FitsName p.0 × (flag_byte p.1 < 2 ^ 8))
exact_loaded = exact_both (λ b. name_at b) (λ b. code_at (λ n. flag_of n) (λ b. byte_at b) b) name_bytes (λ y. flag_byte y ∷ []) FitsName (λ y. flag_byte y < 2 ^ 8) exact_name
    (exact_code (λ n. flag_of n) flag_byte flag_back flag_forth (λ b. byte_at b) (λ b. b ∷ []) (λ b. b < 2 ^ 8) exact_byte)

turned_takes : (version : ℕ) (bytes : List ℕ) (x : Entry) (rest : List ℕ) → IsBytes bytes → turned_at bytes ≡ Some (x, rest) → EntryTakes version 7 bytes x rest
unfolding turned_at
turned_takes version bytes x rest fits e =
    let t = as_takes (λ (p : List ℕ × GroupState). Turned p.0 p.1) (λ b. both_at (λ b. name_at b) (λ b. code_at (λ n. state_of n) (λ b. byte_at b) b) b) (λ p. name_bytes p.0 ++ (state_byte p.1 ∷ [])) (λ p. FitsName p.0 × (state_byte p.1 < 2 ^ 8)) exact_turned bytes x rest fits e in
    subst (λ (x : Entry). EntryTakes version 7 bytes x rest) t.1 (record { text = name_bytes t.0.0 ++ (state_byte t.0.1 ∷ []); spelled = refl; takes = t.2; fits = t.3.0.0 })

loaded_takes : (version : ℕ) (bytes : List ℕ) (x : Entry) (rest : List ℕ) → IsBytes bytes → loaded_at bytes ≡ Some (x, rest) → EntryTakes version 8 bytes x rest
unfolding loaded_at
loaded_takes version bytes x rest fits e =
    let t = as_takes (λ (p : List ℕ × Bool). Loaded p.0 p.1) (λ b. both_at (λ b. name_at b) (λ b. code_at (λ n. flag_of n) (λ b. byte_at b) b) b) (λ p. name_bytes p.0 ++ (flag_byte p.1 ∷ [])) (λ p. FitsName p.0 × (flag_byte p.1 < 2 ^ 8)) exact_loaded bytes x rest fits e in
    subst (λ (x : Entry). EntryTakes version 8 bytes x rest) t.1 (record { text = name_bytes t.0.0 ++ (flag_byte t.0.1 ∷ []); spelled = refl; takes = t.2; fits = t.3.0.0 })

tagged_entry_takes : (version tag : ℕ) (bytes : List ℕ) (x : Entry) (rest : List ℕ) → IsBytes bytes → tagged_entry_at version tag bytes ≡ Some (x, rest) → EntryTakes version tag bytes x rest
tagged_entry_takes version tag bytes x rest fits e =
    let at = λ (t : ℕ). EntryTakes version t bytes x rest in
    elim (chosen (eqb tag 1) _ _ (Some (x, rest)) e) [
      | inl p ↦ subst at (sym (eqb-true tag 1 p.0)) (commit_takes version bytes x rest fits p.1)
      | inr n1 ↦ elim (chosen (eqb tag 2) _ _ (Some (x, rest)) n1.1) [
        | inl p ↦ subst at (sym (eqb-true tag 2 p.0)) (prepare_takes version bytes x rest fits p.1)
        | inr n2 ↦ elim (chosen (eqb tag 3) _ _ (Some (x, rest)) n2.1) [
          | inl p ↦ subst at (sym (eqb-true tag 3 p.0)) (passed_takes version bytes x rest fits p.1)
          | inr n3 ↦ elim (chosen (eqb tag 4) _ _ (Some (x, rest)) n3.1) [
            | inl p ↦ subst at (sym (eqb-true tag 4 p.0)) (mark_takes version bytes x rest fits p.1)
            | inr n4 ↦ elim (chosen (eqb tag 5) _ _ (Some (x, rest)) n4.1) [
              | inl p ↦ subst at (sym (eqb-true tag 5 p.0)) (defined_takes version bytes x rest fits p.1)
              | inr n5 ↦ elim (chosen (eqb tag 6) _ _ (Some (x, rest)) n5.1) [
                | inl p ↦ subst at (sym (eqb-true tag 6 p.0)) (dropped_takes version bytes x rest fits p.1)
                | inr n6 ↦ elim (chosen (eqb tag 7) _ _ (Some (x, rest)) n6.1) [
                  | inl p ↦ subst at (sym (eqb-true tag 7 p.0)) (turned_takes version bytes x rest fits p.1)
                  | inr n7 ↦ elim (chosen (eqb tag 8) _ _ (Some (x, rest)) n7.1) [
                    | inl p ↦ subst at (sym (eqb-true tag 8 p.0)) (loaded_takes version bytes x rest fits p.1)
                    | inr n8 ↦ none_is (x, rest) n8.1
                  ]
                ]
              ]
            ]
          ]
        ]
      ]
    ]

entry_takes : (version : ℕ) (bytes : List ℕ) (x : Entry) (rest : List ℕ) → IsBytes bytes → entry_at version bytes ≡ Some (x, rest) → Takes bytes (entry_bytes x) rest × IsEntry version x
unfolding entry_at
entry_takes version bytes x rest fits e =
    let p = bind_some (byte_at bytes) (λ tag. tagged_entry_at version tag.0 tag.1) (x, rest) e in
    let b = exact_byte.takes bytes p.0.0 p.0.1 fits p.1 in
    let t = tagged_entry_takes version p.0.0 p.0.1 x rest b.0.rest_fits p.2 in
    (rw t.spelled (Takes-then bytes (p.0.0 ∷ []) p.0.1 t.text rest b.0 t.takes), t.fits)

entry_again : (version : ℕ) (x : Entry) (rest : List ℕ) → IsEntry version x → entry_at version (entry_bytes x ++ rest) ≡ Some (x, rest)
unfolding entry_at byte_at commit_at prepare_at passed_at mark_at defined_at dropped_at turned_at loaded_at
entry_again version (Commit ticket ops) rest h = as_again (λ (p : ℕ × List Op). Commit (record { 0 = p.0 }) p.1) (λ b. transaction_at version b) (λ p. to_be_bytes w64 p.0 ++ (to_be_bytes w16 (length p.1) ++ flat_map op_bytes p.1)) (λ p. (p.0 < 2 ^ 64) × FitsOps version p.1) (exact_pair version) (ticket.0, ops) rest (from_transaction version ticket ops h)
entry_again version (Prepare ticket ops) rest h = as_again (λ (p : ℕ × List Op). Prepare (record { 0 = p.0 }) p.1) (λ b. transaction_at version b) (λ p. to_be_bytes w64 p.0 ++ (to_be_bytes w16 (length p.1) ++ flat_map op_bytes p.1)) (λ p. (p.0 < 2 ^ 64) × FitsOps version p.1) (exact_pair version) (ticket.0, ops) rest (from_transaction version ticket ops h)
entry_again version (Passed ticket) rest h = as_again (λ (n : ℕ). Passed (record { 0 = n })) (λ b. number_at w64 b) (λ n. to_be_bytes w64 n) (λ n. n < 2 ^ 64) (exact_number w64 (2 ^ 64) wide64) ticket.0 rest h
entry_again version (Mark next) rest h = as_again (λ (n : ℕ). Mark (record { 0 = n })) (λ b. number_at w64 b) (λ n. to_be_bytes w64 n) (λ n. n < 2 ^ 64) (exact_number w64 (2 ^ 64) wide64) next.0 rest h
entry_again version (Defined text) rest h = as_again (λ (t : List ℕ). Defined t) (λ b. then_at (λ b. number_at w32 b) (λ n b. bytes_at n b) b) (λ t. to_be_bytes w32 (length t) ++ t) (λ t. (length t < 2 ^ 32) × Unit {0}) exact_long text rest (h, tt)
entry_again version (Dropped name) rest h = as_again (λ (t : List ℕ). Dropped t) (λ b. name_at b) name_bytes FitsName exact_name name rest (h, tt)
entry_again version (Turned name state) rest h = as_again (λ (p : List ℕ × GroupState). Turned p.0 p.1) (λ b. both_at (λ b. name_at b) (λ b. code_at (λ n. state_of n) (λ b. byte_at b) b) b) (λ p. name_bytes p.0 ++ (state_byte p.1 ∷ [])) (λ p. FitsName p.0 × (state_byte p.1 < 2 ^ 8)) exact_turned (name, state) rest ((h, tt), state_fits state)
entry_again version (Loaded name flag) rest h = as_again (λ (p : List ℕ × Bool). Loaded p.0 p.1) (λ b. both_at (λ b. name_at b) (λ b. code_at (λ n. flag_of n) (λ b. byte_at b) b) b) (λ p. name_bytes p.0 ++ (flag_byte p.1 ∷ [])) (λ p. FitsName p.0 × (flag_byte p.1 < 2 ^ 8)) exact_loaded (name, flag) rest ((h, tt), flag_fits flag)

pub exact_entry : (version : ℕ) → Exact (λ b. entry_at version b) entry_bytes (IsEntry version)
exact_entry version = record { takes = λ bytes x rest fits e. entry_takes version bytes x rest fits e; again = λ x rest h. entry_again version x rest h }
