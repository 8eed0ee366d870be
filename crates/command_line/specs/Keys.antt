-- What a settings file says. (The keys, their ranges and their defaults are this project's.)

use Rattle.std.specs.Prelude.{◌≡◌, ◌≤◌, ◌&&◌, ℕ, pos, min, Bool, true, List, [], ◌∷◌, codes, Option, Some, None, IsUtf8}
use Rattle.std.specs.List.{list_any}
use Rattle.std.specs.Str.{bytes_eq}
use Rattle.toml.specs.Data.{Data, Members, no_members, member, get_member, as_integer, as_str}
use Rattle.toml.specs.Parse.{parse_document}
use Rattle.command_line.specs.declared.settings.ClockSource.{ClockSource}
use Rattle.command_line.specs.declared.settings.ClockSource.TheVariants.{Script, System}
use Rattle.command_line.specs.declared.settings.Settings.{Settings}

-- the bytes are a TOML table with these members
abbrev pub IsTable : List ℕ → Members → Type 0
IsTable bytes members = IsUtf8 bytes × (parse_document bytes ≡ Some members)

-- the keys that there are
abbrev pub keys : List (List ℕ)
keys = codes "workers" ∷ codes "propagate_ms" ∷ codes "clock" ∷ codes "start_ms" ∷ codes "lru_high" ∷ codes "lru_low"
    ∷ codes "lru_cycle_ms" ∷ codes "rotate_bytes" ∷ []

abbrev pub is_known : List ℕ → Bool
is_known key = list_any (λ k. bytes_eq key k) keys

-- each key is one that there is
abbrev pub are_known : Members → Bool
are_known no_members = true
are_known (member key value rest) = is_known key && are_known rest

-- the value is this integer, between these bounds
abbrev pub IsNumber : Data → ℕ → ℕ → ℕ → Type 0
IsNumber value least greatest n = (as_integer value ≡ Some (pos n)) × (least ≤ n) × (n ≤ greatest)

-- this number, at a key that has a value or hasn't: the integer between the bounds, or the default
abbrev pub NumberOr : ℕ → ℕ → ℕ → Option Data → ℕ → Type 0
NumberOr least greatest default None n = n ≡ default
NumberOr least greatest default (Some value) n = IsNumber value least greatest n

-- this number is set at the key
abbrev pub SetsNumber : Members → List ℕ → ℕ → ℕ → ℕ → ℕ → Type 0
SetsNumber members key least greatest default n = NumberOr least greatest default (get_member key members) n

abbrev pub clock_word : ClockSource → List ℕ
clock_word Script = codes "script"
clock_word System = codes "system"

-- the value is the word of this clock
abbrev pub IsClock : Data → ClockSource → Type 0
IsClock value clock = as_str value ≡ Some (clock_word clock)

-- this clock, at a key that has a value or hasn't
abbrev pub ClockOr : Option Data → ClockSource → Type 0
ClockOr None clock = clock ≡ Script
ClockOr (Some value) clock = IsClock value clock

-- The members set these settings: for each key its least value, its greatest and its default.
pub record Sets (members : Members) (s : Settings) : Type 0 where
  pub known : are_known members ≡ true
  pub workers : SetsNumber members (codes "workers") 1 16 1 s.workers
  pub propagate_ms : SetsNumber members (codes "propagate_ms") 0 86400000 0 s.propagate_ms
  pub clock : ClockOr (get_member (codes "clock") members) s.clock
  pub start_ms : SetsNumber members (codes "start_ms") 0 253402300799000 0 s.start_ms
  pub lru_high : SetsNumber members (codes "lru_high") 1 1000000 10000 s.lru_high
  pub lru_low : SetsNumber members (codes "lru_low") 0 s.lru_high (min 9000 s.lru_high) s.lru_low
  pub lru_cycle_ms : SetsNumber members (codes "lru_cycle_ms") 1000 86400000 60000 s.lru_cycle_ms
  pub rotate_bytes : SetsNumber members (codes "rotate_bytes") 1048576 1073741824 16777216 s.rotate_bytes

-- a settings file with these bytes sets these settings
abbrev pub IsSetBy : List ℕ → Settings → Type 0
IsSetBy bytes settings = (members : Members) × IsTable bytes members × Sets members settings

-- a settings file with these bytes sets no settings
abbrev pub AreBad : List ℕ → Type 0
AreBad bytes = (settings : Settings) → ¬ (IsSetBy bytes settings)

-- the settings of an empty file: every default
abbrev pub defaults : Settings
defaults = record {
  workers = 1;
  propagate_ms = 0;
  clock = Script;
  start_ms = 0;
  lru_high = 10000;
  lru_low = 9000;
  lru_cycle_ms = 60000;
  rotate_bytes = 16777216;
}
