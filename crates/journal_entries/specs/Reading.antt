-- Reading from left to right: a value and the bytes behind it, or none.

use Rattle.std.specs.Prelude.{◌≡◌, ℕ, zero, suc, ℤ, pos, negsuc, Bool, true, false, not, ◌&&◌, List, [], ◌∷◌, length, take, drop, nat_lt, nat_le, int_lt, ◌==◌, if◌then◌else◌, Option, Some, None, Result, Ok, Err}
use Rattle.std.specs.Int.{Width, w16, w32, w64, byte_len, from_be_bytes, cast_signed}
use Rattle.std.specs.Str.{is_utf8}
use Rattle.journal_entries.specs.declared.fault.ReadError.{ReadError}
use Rattle.journal_entries.specs.declared.fault.ReadError.TheVariants.{Bad, Memory}
use Rattle.row_types.specs.declared.value.Value.{Value}
use Rattle.row_types.specs.declared.value.Value.TheVariants.{Null, Number, Text, Time}
use Rattle.journal_entries.specs.declared.entry.Op.{Op}
use Rattle.journal_entries.specs.declared.entry.Op.TheVariants.{Insert, Update, Delete}
use Rattle.journal_entries.specs.declared.entry.GroupState.{GroupState}
use Rattle.journal_entries.specs.declared.entry.GroupState.TheVariants.{Off, Paused, On}
use Rattle.journal_entries.specs.declared.entry.Entry.{Entry}
use Rattle.journal_entries.specs.declared.entry.Entry.TheVariants.{Commit, Prepare, Passed, Mark, Defined, Dropped, Turned, Loaded}

infixl 10 ◌>>=◌
abbrev pub ◌>>=◌ : {A B : Type 0} → Option A → (A → Option B) → Option B
None >>= f = None
(Some x) >>= f = f x

-- What a function returned, seen by view, is what reading gives, unless memory ran out.
abbrev pub Gives : {X Y : Type 0} → (X → Y) → Result X ReadError → Option Y → Type 0
Gives view (Ok x) read = read ≡ Some (view x)
Gives view (Err Memory) read = Unit {0}
Gives view (Err Bad) read = read ≡ None

-- ---- fields

-- a value made of a field
abbrev pub as_at : {X Y : Type 0} → (X → Y) → (List ℕ → Option (X × List ℕ)) → List ℕ → Option (Y × List ℕ)
as_at f at bytes = at bytes >>= λ x. Some (f x.0, x.1)

-- one field and then another
abbrev pub both_at : {X Y : Type 0} → (List ℕ → Option (X × List ℕ)) → (List ℕ → Option (Y × List ℕ)) → List ℕ
    → Option ((X × Y) × List ℕ)
both_at a b bytes = a bytes >>= λ x. b x.1 >>= λ y. Some ((x.0, y.0), y.1)

-- a number, and then a field of which it says how long it is
abbrev pub then_at : {Y : Type 0} → (List ℕ → Option (ℕ × List ℕ)) → (ℕ → List ℕ → Option (Y × List ℕ)) → List ℕ
    → Option (Y × List ℕ)
then_at a b bytes = a bytes >>= λ n. b n.0 n.1

-- a field that passes a test
abbrev pub test_at : {X : Type 0} → (X → Bool) → (List ℕ → Option (X × List ℕ)) → List ℕ → Option (X × List ℕ)
test_at p at bytes = at bytes >>= λ x. if p x.0 then Some (x.0, x.1) else None

-- a byte that stands for something
abbrev pub code_at : {Y : Type 0} → (ℕ → Option Y) → (List ℕ → Option (ℕ × List ℕ)) → List ℕ → Option (Y × List ℕ)
code_at f at bytes = at bytes >>= λ b. f b.0 >>= λ y. Some (y, b.1)

-- so many fields
unfoldable pub many_at : {X : Type 0} → (List ℕ → Option (X × List ℕ)) → ℕ → List ℕ → Option (List X × List ℕ)
many_at at zero bytes = Some ([], bytes)
many_at at (suc n) bytes = at bytes >>= λ first. many_at at n first.1 >>= λ others. Some (first.0 ∷ others.0, others.1)

unfoldable pub byte_at : List ℕ → Option (ℕ × List ℕ)
byte_at [] = None
byte_at (b ∷ rest) = Some (b, rest)

unfoldable pub number_at : Width → List ℕ → Option (ℕ × List ℕ)
number_at w bytes =
    if nat_lt (length bytes) (byte_len w) then None else Some (
      from_be_bytes w (take (byte_len w) bytes),
      drop (byte_len w) bytes,
    )

unfoldable pub bytes_at : ℕ → List ℕ → Option (List ℕ × List ℕ)
bytes_at n bytes = if nat_lt (length bytes) n then None else Some (take n bytes, drop n bytes)

unfoldable pub signed_at : List ℕ → Option (ℤ × List ℕ)
signed_at bytes = as_at (λ n. cast_signed w64 n) (λ b. number_at w64 b) bytes

unfoldable pub name_at : List ℕ → Option (List ℕ × List ℕ)
name_at bytes = then_at (λ b. byte_at b) (λ n b. bytes_at n b) bytes

-- ---- values

unfoldable pub integer_at : List ℕ → Option (Value × List ℕ)
integer_at bytes = as_at (λ z. Number (record { units = z; scale = 0 })) (λ b. signed_at b) bytes

-- UTF-8, and not empty
abbrev pub is_text : List ℕ → Bool
is_text bytes = nat_lt 0 (length bytes) && is_utf8 bytes

unfoldable pub string_at : List ℕ → Option (List ℕ × List ℕ)
string_at bytes = then_at (λ b. number_at w16 b) (λ n b. bytes_at n b) bytes

unfoldable pub text_at : List ℕ → Option (Value × List ℕ)
text_at bytes = as_at (λ t. Text t) (λ b. test_at (λ t. is_text t) (λ b. string_at b) b) bytes

-- of the years 0001 to 9999
abbrev pub is_time : ℤ → Bool
is_time z = not (int_lt z (negsuc 62135596799)) && not (int_lt (pos 253402300799) z)

unfoldable pub time_at : List ℕ → Option (Value × List ℕ)
time_at bytes = as_at (λ z. Time z) (λ b. test_at (λ z. is_time z) (λ b. signed_at b) b) bytes

-- a scale that isn't 0
abbrev pub is_scale : ℕ → Bool
is_scale scale = nat_lt 0 scale && nat_le scale 18

unfoldable pub scaled_at : List ℕ → Option (Value × List ℕ)
scaled_at bytes =
    as_at (λ p. Number (record { units = p.1; scale = p.0 }))
    (λ b. both_at (λ b. test_at (λ n. is_scale n) (λ b. byte_at b) b) (λ b. signed_at b) b) bytes

abbrev pub tagged_value_at : ℕ → ℕ → List ℕ → Option (Value × List ℕ)
tagged_value_at version tag rest =
    if tag == 0 then Some (Null, rest)
    else (if tag == 1 then integer_at rest
    else (if tag == 2 then text_at rest
    else (if tag == 3 then time_at rest
    else (if tag == 4 && version == 2 then scaled_at rest
    else None))))

unfoldable pub value_at : ℕ → List ℕ → Option (Value × List ℕ)
value_at version bytes = byte_at bytes >>= λ tag. tagged_value_at version tag.0 tag.1

unfoldable pub row_at : ℕ → List ℕ → Option (List Value × List ℕ)
row_at version bytes = then_at (λ b. byte_at b) (λ n b. many_at (λ b. value_at version b) n b) bytes

-- ---- operations

unfoldable pub insert_at : ℕ → List ℕ → Option (Op × List ℕ)
insert_at version bytes = as_at (λ p. Insert p.0 p.1) (λ b. both_at (λ b. name_at b) (λ b. row_at version b) b) bytes

unfoldable pub update_at : ℕ → List ℕ → Option (Op × List ℕ)
update_at version bytes =
    as_at (λ p. Update p.0 p.1.0 p.1.1) (λ b.
    both_at (λ b. name_at b) (λ b. both_at (λ b. row_at version b) (λ b. row_at version b) b) b) bytes

unfoldable pub delete_at : ℕ → List ℕ → Option (Op × List ℕ)
delete_at version bytes = as_at (λ p. Delete p.0 p.1) (λ b. both_at (λ b. name_at b) (λ b. row_at version b) b) bytes

abbrev pub tagged_op_at : ℕ → ℕ → List ℕ → Option (Op × List ℕ)
tagged_op_at version tag rest =
    if tag == 1 then insert_at version rest
    else (if tag == 2 then update_at version rest
    else (if tag == 3 then delete_at version rest
    else None))

unfoldable pub op_at : ℕ → List ℕ → Option (Op × List ℕ)
op_at version bytes = byte_at bytes >>= λ tag. tagged_op_at version tag.0 tag.1

-- from 1 to 10,000
abbrev pub is_op_count : ℕ → Bool
is_op_count n = nat_lt 0 n && nat_le n 10000

unfoldable pub ops_at : ℕ → List ℕ → Option (List Op × List ℕ)
ops_at version bytes =
    then_at (λ b. test_at (λ n. is_op_count n) (λ b. number_at w16 b) b)
    (λ n b. many_at (λ b. op_at version b) n b) bytes

unfoldable pub transaction_at : ℕ → List ℕ → Option ((ℕ × List Op) × List ℕ)
transaction_at version bytes = both_at (λ b. number_at w64 b) (λ b. ops_at version b) bytes

-- ---- entries

unfoldable pub commit_at : ℕ → List ℕ → Option (Entry × List ℕ)
commit_at version bytes = as_at (λ p. Commit (record { 0 = p.0 }) p.1) (λ b. transaction_at version b) bytes

unfoldable pub prepare_at : ℕ → List ℕ → Option (Entry × List ℕ)
prepare_at version bytes = as_at (λ p. Prepare (record { 0 = p.0 }) p.1) (λ b. transaction_at version b) bytes

unfoldable pub passed_at : List ℕ → Option (Entry × List ℕ)
passed_at bytes = as_at (λ n. Passed (record { 0 = n })) (λ b. number_at w64 b) bytes

unfoldable pub mark_at : List ℕ → Option (Entry × List ℕ)
mark_at bytes = as_at (λ n. Mark (record { 0 = n })) (λ b. number_at w64 b) bytes

unfoldable pub defined_at : List ℕ → Option (Entry × List ℕ)
defined_at bytes = as_at (λ text. Defined text) (λ b. then_at (λ b. number_at w32 b) (λ n b. bytes_at n b) b) bytes

unfoldable pub dropped_at : List ℕ → Option (Entry × List ℕ)
dropped_at bytes = as_at (λ name. Dropped name) (λ b. name_at b) bytes

abbrev pub state_of : ℕ → Option GroupState
state_of b = if b == 0 then Some Off else (if b == 1 then Some Paused else (if b == 2 then Some On else None))

unfoldable pub turned_at : List ℕ → Option (Entry × List ℕ)
turned_at bytes =
    as_at (λ p. Turned p.0 p.1) (λ b. both_at (λ b. name_at b)
    (λ b. code_at (λ n. state_of n) (λ b. byte_at b) b) b) bytes

abbrev pub flag_of : ℕ → Option Bool
flag_of b = if b == 0 then Some false else (if b == 1 then Some true else None)

unfoldable pub loaded_at : List ℕ → Option (Entry × List ℕ)
loaded_at bytes =
    as_at (λ p. Loaded p.0 p.1) (λ b. both_at (λ b. name_at b)
    (λ b. code_at (λ n. flag_of n) (λ b. byte_at b) b) b) bytes

abbrev pub tagged_entry_at : ℕ → ℕ → List ℕ → Option (Entry × List ℕ)
tagged_entry_at version tag rest =
    if tag == 1 then commit_at version rest
    else (if tag == 2 then prepare_at version rest
    else (if tag == 3 then passed_at rest
    else (if tag == 4 then mark_at rest
    else (if tag == 5 then defined_at rest
    else (if tag == 6 then dropped_at rest
    else (if tag == 7 then turned_at rest
    else (if tag == 8 then loaded_at rest
    else None)))))))

unfoldable pub entry_at : ℕ → List ℕ → Option (Entry × List ℕ)
entry_at version bytes = byte_at bytes >>= λ tag. tagged_entry_at version tag.0 tag.1
