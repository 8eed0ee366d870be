-- The bytes of the journal's entries, and which entries have bytes. (This project's rule.) Numbers are big-endian.

use Rattle.std.specs.Prelude.{◌≡◌, ℕ, ◌^◌, ◌<◌, ◌≤◌, ◌⊎◌, ℤ, Bool, true, false, List, [], ◌∷◌, ◌++◌, length, slice_index, ◌==◌, if◌then◌else◌, FitsSigned}
use Rattle.std.specs.List.{flat_map, AllByRecursion}
use Rattle.std.specs.Int.{w16, w32, w64, to_be_bytes, cast_unsigned}
use Rattle.std.specs.Str.{is_utf8}
use Rattle.row_types.specs.tier_base.specs.declared.number.Ticket.{Ticket}
use Rattle.row_types.specs.Times.{IsTime}
use Rattle.row_types.specs.declared.value.Value.{Value}
use Rattle.row_types.specs.declared.value.Value.TheVariants.{Null, Number, Text, Time}
use Rattle.journal_entries.specs.declared.entry.Op.{Op}
use Rattle.journal_entries.specs.declared.entry.Op.TheVariants.{Insert, Update, Delete}
use Rattle.journal_entries.specs.declared.entry.GroupState.{GroupState}
use Rattle.journal_entries.specs.declared.entry.GroupState.TheVariants.{Off, Paused, On}
use Rattle.journal_entries.specs.declared.entry.Entry.{Entry}
use Rattle.journal_entries.specs.declared.entry.Entry.TheVariants.{Commit, Prepare, Passed, Mark, Defined, Dropped, Turned, Loaded}

-- each is below 256
abbrev pub IsBytes : List ℕ → Type 0
IsBytes bytes = (i : ℕ) → slice_index bytes i < 2 ^ 8

-- eight bytes two's complement
abbrev pub signed_bytes : ℤ → List ℕ
signed_bytes z = to_be_bytes w64 (cast_unsigned w64 z)

-- a number of scale 0 has a tag of its own
abbrev pub value_bytes : Value → List ℕ
value_bytes Null = 0 ∷ []
value_bytes (Number n) = if n.scale == 0 then 1 ∷ signed_bytes n.units else 4 ∷ n.scale ∷ signed_bytes n.units
value_bytes (Text bytes) = 2 ∷ (to_be_bytes w16 (length bytes) ++ bytes)
value_bytes (Time seconds) = 3 ∷ signed_bytes seconds

-- a count byte and the values
abbrev pub row_bytes : List Value → List ℕ
row_bytes row = length row ∷ flat_map value_bytes row

-- a length byte and the bytes
abbrev pub name_bytes : List ℕ → List ℕ
name_bytes name = length name ∷ name

abbrev pub op_bytes : Op → List ℕ
op_bytes (Insert table row) = 1 ∷ (name_bytes table ++ row_bytes row)
op_bytes (Update table old new) = 2 ∷ (name_bytes table ++ (row_bytes old ++ row_bytes new))
op_bytes (Delete table row) = 3 ∷ (name_bytes table ++ row_bytes row)

-- a ticket, two bytes of count, and the operations
abbrev pub transaction_bytes : Ticket → List Op → List ℕ
transaction_bytes ticket ops = to_be_bytes w64 ticket.0 ++ (to_be_bytes w16 (length ops) ++ flat_map op_bytes ops)

abbrev pub state_byte : GroupState → ℕ
state_byte Off = 0
state_byte Paused = 1
state_byte On = 2

abbrev pub flag_byte : Bool → ℕ
flag_byte false = 0
flag_byte true = 1

abbrev pub entry_bytes : Entry → List ℕ
entry_bytes (Commit ticket ops) = 1 ∷ transaction_bytes ticket ops
entry_bytes (Prepare ticket ops) = 2 ∷ transaction_bytes ticket ops
entry_bytes (Passed ticket) = 3 ∷ to_be_bytes w64 ticket.0
entry_bytes (Mark next) = 4 ∷ to_be_bytes w64 next.0
entry_bytes (Defined text) = 5 ∷ (to_be_bytes w32 (length text) ++ text)
entry_bytes (Dropped name) = 6 ∷ name_bytes name
entry_bytes (Turned name state) = 7 ∷ (name_bytes name ++ state_byte state ∷ [])
entry_bytes (Loaded name flag) = 8 ∷ (name_bytes name ++ flag_byte flag ∷ [])

-- ---- what has bytes, in version 1 or 2

-- a scale other than 0 is of version 2
abbrev pub IsScale : ℕ → ℕ → Type 0
IsScale version scale = (scale ≤ 18) × ((scale ≡ 0) ⊎ (version ≡ 2))

abbrev pub IsValue : ℕ → Value → Type 0
IsValue version Null = Unit {0}
IsValue version (Number n) = FitsSigned w64 n.units × IsScale version n.scale
IsValue version (Text bytes) = (0 < length bytes) × (length bytes < 2 ^ 16) × (is_utf8 bytes ≡ true)
IsValue version (Time seconds) = IsTime seconds

pub record IsRow (version : ℕ) (row : List Value) : Type 0 where
  pub count : length row < 2 ^ 8
  pub values : AllByRecursion (IsValue version) row

abbrev pub IsName : List ℕ → Type 0
IsName name = length name < 2 ^ 8

abbrev pub IsOp : ℕ → Op → Type 0
IsOp version (Insert table row) = IsName table × IsRow version row
IsOp version (Update table old new) = IsName table × IsRow version old × IsRow version new
IsOp version (Delete table row) = IsName table × IsRow version row

-- from 1 to 10,000 operations
pub record IsTransaction (version : ℕ) (ticket : Ticket) (ops : List Op) : Type 0 where
  pub number : ticket.0 < 2 ^ 64
  pub some : 1 ≤ length ops
  pub count : length ops ≤ 10000
  pub each : AllByRecursion (IsOp version) ops

abbrev pub IsEntry : ℕ → Entry → Type 0
IsEntry version (Commit ticket ops) = IsTransaction version ticket ops
IsEntry version (Prepare ticket ops) = IsTransaction version ticket ops
IsEntry version (Passed ticket) = ticket.0 < 2 ^ 64
IsEntry version (Mark next) = next.0 < 2 ^ 64
IsEntry version (Defined text) = length text < 2 ^ 32
IsEntry version (Dropped name) = IsName name
IsEntry version (Turned name state) = IsName name
IsEntry version (Loaded name flag) = IsName name
