-- The sizes of entries are the lengths of their bytes.
use Rattle.std.proofs.Common.{◌≡◌, ◌⊎◌, ℕ, ◌+◌, Option, Some, None, List, [], ◌∷◌, ◌++◌, length, refl, sym, ap, ◌∙◌, arith, inl, inr}
use Rattle.std.specs.Prelude.{slice_get, sum_by}
use Rattle.std.specs.Int.{w16, to_be_bytes}
use Rattle.std.specs.List.{flat_map}
use Rattle.std.proofs.lemmas.List.{length-append}
use Rattle.std.proofs.lemmas.List.Folds.{flat_map-map}
use Rattle.std.proofs.lemmas.List.Sums.{sum_by-cons}
use Rattle.row_types.specs.declared.value.Value.{Value}
use Rattle.row_types.specs.declared.value.Value.TheVariants.{Null, Number, Text, Time}
use Rattle.table_defs.specs.declared.definition.TableDef.{TableDef}
use Rattle.table_state.specs.declared.operation.Op.{Op}
use Rattle.table_state.specs.declared.operation.Op.TheVariants.{Insert, Update, Delete}
use Rattle.table_state.specs.Operations.{table_of}
use Rattle.journal_entries.specs.Spelling.{entry_bytes, flag_byte, name_bytes, op_bytes, row_bytes, state_byte, value_bytes}
use Rattle.cache_tier.specs.Journals.{JournalEntry, Commits, Prepares, Numbers, Marks, Defines, Drops, SetsState, SetsLoaded, body_size, entry_size, op_size, row_size, value_size}
use Rattle.cache_tier.specs.JournalSteps.{name_size}
use Rattle.tier_journal.specs.Writing.{name_in, written, written_all, written_op, written_ops, written_state}

-- the sum of sizes that are lengths
sums_are : {X : Type 0} (size : X → ℕ) (spell : X → List ℕ) → ((x : X) → size x ≡ length (spell x)) → (xs : List X) → sum_by size xs ≡ length (flat_map spell xs)
sums_are size spell each [] = refl
sums_are size spell each (x ∷ xs) =
    sum_by-cons size x xs ∙ ap (λ n. n + sum_by size xs) (each x)
    ∙ ap (λ n. length (spell x) + n) (sums_are size spell each xs) ∙ sym (length-append (spell x) (flat_map spell xs))

value_is : (v : Value) → value_size v ≡ length (value_bytes v)
value_is Null = refl
value_is (Number n) = grind arith
value_is (Text bytes) = omega (arith, length-append (to_be_bytes w16 (length bytes)) bytes)
value_is (Time seconds) = refl

row_is : (row : List Value) → row_size row ≡ length (row_bytes row)
row_is row = let s = sums_are value_size value_bytes value_is row in omega (arith, s)

option_case : {X : Type 0} (o : Option X) → (o ≡ None) ⊎ ((x : X) × (o ≡ Some x))
option_case None = inl refl
option_case (Some x) = inr (x, refl)

name_is : (schema : List TableDef) (op : Op) → name_size schema op ≡ length (name_in schema (table_of op))
name_is schema op = elim (option_case (slice_get schema (table_of op).0)) [ inl e ↦ rw e refl | inr x ↦ rw x.1 refl ]

op_is : (schema : List TableDef) (op : Op) → op_size (name_size schema op) op ≡ length (op_bytes (written_op schema op))
op_is schema (Insert t row) =
    let n = name_is schema (Insert t row) in
    let r = row_is row in
    omega (arith, n, r, length-append (name_bytes (name_in schema t)) (row_bytes row))
op_is schema (Update t old new) =
    let n = name_is schema (Update t old new) in
    let r = row_is old in
    let s = row_is new in
    omega (arith, n, r, s, length-append (name_bytes (name_in schema t)) (row_bytes old ++ row_bytes new), length-append (row_bytes old) (row_bytes new))
op_is schema (Delete t row) =
    let n = name_is schema (Delete t row) in
    let r = row_is row in
    omega (arith, n, r, length-append (name_bytes (name_in schema t)) (row_bytes row))

ops_are : (schema : List TableDef) (ops : List Op) → sum_by (λ op. op_size (name_size schema op) op) ops ≡ length (flat_map op_bytes (written_ops schema ops))
ops_are schema ops =
    sums_are (λ op. op_size (name_size schema op) op) (λ op. op_bytes (written_op schema op)) (op_is schema) ops
    ∙ ap length (sym (flat_map-map op_bytes (written_op schema) ops))

pub entry_is : (schema : List TableDef) (e : JournalEntry) → entry_size (name_size schema) e ≡ length (entry_bytes (written schema e))
entry_is schema (Commits s) = let n = ops_are schema s.ops in omega (arith, n)
entry_is schema (Prepares s) = let n = ops_are schema s.ops in omega (arith, n)
entry_is schema (Numbers t) = refl
entry_is schema (Marks t) = refl
entry_is schema (Defines d text) = omega arith
entry_is schema (Drops g) = omega arith
entry_is schema (SetsState g state) = omega (arith, length-append g (state_byte (written_state state) ∷ []))
entry_is schema (SetsLoaded g flag) = omega (arith, length-append g (flag_byte flag ∷ []))

pub body_is : (schema : List TableDef) (entries : List JournalEntry) → body_size (name_size schema) entries ≡ length (flat_map entry_bytes (written_all schema entries))
body_is schema entries =
    sums_are (entry_size (name_size schema)) (λ e. entry_bytes (written schema e)) (entry_is schema) entries
    ∙ ap length (sym (flat_map-map entry_bytes (written schema) entries))
