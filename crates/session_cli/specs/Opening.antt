-- The opening of a run.

use Rattle.std.specs.Prelude.{◌≡◌, ◌⊎◌, ℕ, List, [], ◌∷◌, ◌++◌, Option, codes, take}
use Rattle.std.specs.Fmt.{decimal}
use Rattle.std.specs.Io.KnownBytes.{Appends}
use Rattle.row_types.specs.Printing.{printed_key}
use Rattle.outside.specs.declared.disk.Slot.{Slot}
use Rattle.outside.specs.declared.disk.Slot.TheVariants.{First, Second}
use Rattle.command_line.specs.declared.settings.Settings.{Settings}
use Rattle.cache_tier.specs.TierStates.{Settings as TierSettings}
use Rattle.cache_tier.specs.Worlds.{World}
use Rattle.cache_engine.specs.OfTierOpening.declared.opening.OpenError.{OpenError}
use Rattle.cache_engine.specs.OfTierOpening.declared.opening.OpenError.TheVariants as open_error
use Rattle.session_cli.specs.declared.serving.Status.{Status}
use Rattle.session_cli.specs.declared.serving.Status.TheVariants.{Damaged, Differs, DiskFailed, NoMemory, SchemaFailed}
use Rattle.session_cli.specs.declared.serving.Status.TheVariants.{SinkFailed}
use Rattle.session_cli.specs.Serving.{Origin}
use Rattle.session_cli.specs.Timing.{Coming}

-- the settings that act on the tier
abbrev pub tier_settings : Settings → TierSettings
tier_settings s = record {
  workers = s.workers;
  propagate_ms = s.propagate_ms;
  lru_high = s.lru_high;
  lru_low = s.lru_low;
  lru_cycle_ms = s.lru_cycle_ms;
  rotate_bytes = s.rotate_bytes;
}

-- where the run of an opened tier begins
abbrev pub begins : World → List ℕ → Coming → Origin
begins w written bases = record { world = w; written = written; bases = bases }

-- the number of a slot
abbrev pub slot_number : Slot → ℕ
slot_number First = 0
slot_number Second = 1

-- what is written where no engine is opened: `fault 202`, `damaged S P`, `fault 210 TABLE KEY`, or nothing
abbrev pub unopened_line : OpenError → List ℕ
unopened_line open_error.Disk = codes "fault 202\n"
unopened_line open_error.Bank = []
unopened_line (open_error.Damaged slot place) =
    codes "damaged " ++ (decimal (slot_number slot) ++ (codes " " ++ (decimal place ++ 10 ∷ [])))
unopened_line (open_error.Differs table key) =
    codes "fault 210 " ++ (table ++ (32 ∷ (printed_key key ++ 10 ∷ [])))
unopened_line open_error.Memory = []

-- and with which status the run ends then
abbrev pub unopened_status : OpenError → Status
unopened_status open_error.Disk = DiskFailed
unopened_status open_error.Bank = SchemaFailed
unopened_status (open_error.Damaged slot place) = Damaged
unopened_status (open_error.Differs table key) = Differs
unopened_status open_error.Memory = NoMemory

-- the line that says why is written, and the run ends with this status; or a front of it, where the sink failed
abbrev pub TellsLine : Status → Status → Option (List ℕ) → Option (List ℕ) → OpenError → Type 0
TellsLine status wanted sink sink' why =
    ((status ≡ wanted) × Appends sink sink' (unopened_line why))
    ⊎ ((status ≡ SinkFailed) × ((count : ℕ) × Appends sink sink' (take count (unopened_line why))))

abbrev pub TellsWhy : Status → Option (List ℕ) → Option (List ℕ) → OpenError → Type 0
TellsWhy status sink sink' why = TellsLine status (unopened_status why) sink sink' why
