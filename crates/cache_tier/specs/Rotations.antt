-- The rotation of a long journal: the other slot is begun anew with what counts. (This project's rule.)

use Rattle.tier_base.specs.declared.code.Code.TheVariants as code
use Rattle.std.specs.Prelude.{◌≡◌, ◌≤◌, nat_eq, nat_lt, List, ◌∷◌, ◌++◌, Bool, true, ◌&&◌, Option, Some, None, length, map}
use Rattle.std.specs.List.{filter}
use Rattle.cache_tier.specs.declared.reply.Reply.{Reply}
use Rattle.cache_tier.specs.Definitions.{text_of}
use Rattle.cache_tier.specs.Groups.{Group, is_read_only}
use Rattle.cache_tier.specs.Journals.{Journal, JournalEntry, Commits, Defines, Marks, SetsLoaded, SetsState, on_the_way, rotated}
use Rattle.cache_tier.specs.TierStates.{Tier}
use Rattle.cache_tier.specs.Worlds.{OnlyWhere, Stage, World, faulty}
use Rattle.cache_tier.specs.JournalSteps.{name_sizes}

-- what a new slot begins with: the next ticket, the definitions, the STATEs, the flags that are set, and the commits
-- that aren't applied
abbrev pub definition_entry : Group → JournalEntry
definition_entry g = Defines g.def.declared (text_of g.def.declared)

abbrev pub slot_entries : Tier → List JournalEntry
slot_entries t =
    Marks t.next ∷ (map definition_entry t.groups
    ++ (map (λ g. SetsState g.def.name g.state) (filter is_read_only t.groups)
    ++ (map (λ g. SetsLoaded g.def.name true) (filter (λ g. g.loaded) t.groups)
    ++ map Commits t.unsettled)))

-- The journal is begun anew, or stays: where no generation or batch fits, or memory was wanting. Or a disk call failed,
-- which ends the run; then what the slots give is a point of the journal's way, which has what they gave before.
pub data Rotation : Type 0 where
  Renewed : Rotation
  Kept : Rotation
  Broken : Rotation

-- the journal that is begun anew, with the way that led there
abbrev pub renewed : World → Journal
renewed w = on_the_way (length w.history) w.journal (rotated (name_sizes w) (slot_entries w.tier) w.journal)

abbrev pub journal_after : Rotation → World → Journal
journal_after Renewed w = renewed w
journal_after Kept w = w.journal
journal_after Broken w = renewed w

abbrev pub rotation_stop : Rotation → Option Reply
rotation_stop Renewed = None
rotation_stop Kept = None
rotation_stop Broken = Some (faulty code.JournalFault)

pub record Rotates (w w' : World) (stop : Option Reply) : Type 0 where
  pub result : Rotation
  pub tier : w'.tier ≡ w.tier
  pub history : w'.history ≡ w.history
  pub journal : w'.journal ≡ journal_after result w
  pub bank : w'.bank_faults ≡ w.bank_faults
  pub disk : w.disk_faults ≤ w'.disk_faults
  pub moment : w.moment ≤ w'.moment
  pub shared : w'.shared ≡ w.shared
  pub end : stop ≡ rotation_stop result

-- each committed transaction has its receipt
abbrev pub is_settled : World → Bool
is_settled w = nat_eq (length w.tier.unsettled) 0

-- A journal is kept, its slot is longer than the setting, and nothing is unsettled: the entry of a transaction without
-- a receipt may have come, while a later one that conflicts with it has left, and a new slot would have the first
-- alone.
abbrev pub is_long : World → Bool
is_long w = w.journal.kept && (nat_lt w.tier.settings.rotate_bytes w.journal.written && is_settled w)

abbrev pub RotatesIfLong : Stage
RotatesIfLong w w' stop = OnlyWhere (is_long w) Rotates w w' stop
