-- What a journal's entries leave, and the first that doesn't fit. (This project's rule.)

use Rattle.std.specs.Prelude.{◌≡◌, ℕ, List, [], ◌∷◌, ◌++◌, true, false, None}
use Rattle.std.specs.List.{list_all}
use Rattle.table_defs.specs.declared.definition.TableDef.{TableDef}
use Rattle.cache_tier.specs.Groups.{Group}
use Rattle.cache_tier.specs.Journals.{JournalEntry}
use Rattle.cache_tier.specs.StandingBetween.{Each, HaveOwnTables, IsCatalogued}
use Rattle.cache_tier.specs.TierStates.{Settings, Tier, opened}
use Rattle.group_catalog.specs.Catalogs.{HaveOwnNames, is_plain}
use Rattle.tier_journal.specs.declared.record.Record.{Record}
use Rattle.tier_journal.specs.Opening.{meaning, meanings}
use Rattle.recovery_laws.specs.Notes.{commits_in}
use Rattle.recovery.specs.Recalling.{Recalls, RecallsAll, notes_of}
use Rattle.recalling.specs.declared.recalled.RecallError.{RecallError}
use Rattle.recalling.specs.declared.recalled.RecallError.TheVariants.{Memory, Unfit}
use Rattle.recalling.specs.Fitting.{fits_over}

-- each entry fits over what those before it leave, from this tier to that one
abbrev pub FitAll : List JournalEntry → Tier → Tier → Type 0
FitAll [] t t' = t' ≡ t
FitAll (e ∷ entries) t t' = (mid : Tier) × (fits_over t e ≡ true) × Recalls e t mid × FitAll entries mid t'

-- The entries leave these groups of a tier that is opened at this moment over this schema, and each of them fits.
pub record IsRecalled (settings : Settings) (moment : ℕ) (schema : List TableDef) (entries : List JournalEntry)
    (groups : List Group) : Type 0 where
  pub tier : Tier
  pub recalls : RecallsAll entries (opened settings moment schema) tier
  pub fit : FitAll entries (opened settings moment schema) tier
  pub left : groups ≡ tier.groups

-- The record at this place is the first whose entry doesn't fit.
pub record IsFirstUnfit (settings : Settings) (moment : ℕ) (schema : List TableDef) (records : List (ℕ × Record))
    (place : ℕ) : Type 0 where
  pub front : List (ℕ × Record)
  pub one : Record
  pub behind : List (ℕ × Record)
  pub are : records ≡ front ++ (place, one) ∷ behind
  pub tier : Tier
  pub recalls : RecallsAll (meanings front) (opened settings moment schema) tier
  pub fit : FitAll (meanings front) (opened settings moment schema) tier
  pub unfit : fits_over tier (meaning one) ≡ false

-- why there is nothing: the first entry that doesn't fit, or want of memory, which is free
abbrev pub IsRefusedFor : Settings → ℕ → List TableDef → List (ℕ × Record) → RecallError → Type 0
IsRefusedFor settings moment schema records (Unfit place) = IsFirstUnfit settings moment schema records place
IsRefusedFor settings moment schema records Memory = Unit {0}

-- ---- the groups

-- it shows nothing yet: it has no key in its list, no position and no horizon
pub record IsBare (g : Group) : Type 0 where
  pub keys : g.keys ≡ []
  pub position : g.position ≡ None
  pub horizon : g.horizon ≡ None

-- The groups stand over the schema, each with tables of its own and a name of its own; they are such as the tier does,
-- and show nothing yet.
pub record AreInOrder (schema : List TableDef) (groups : List Group) : Type 0 where
  pub each : Each (IsCatalogued schema) groups
  pub apart : HaveOwnTables groups
  pub named : HaveOwnNames groups
  pub plain : list_all is_plain groups ≡ true
  pub bare : Each IsBare groups

-- ---- the commits

-- which transactions the entries commit doesn't depend on the schema that their notes are read under
abbrev pub NotesTellCommits : Type 0
NotesTellCommits =
    (schema other : List TableDef) (entries : List JournalEntry)
    → commits_in (notes_of schema entries) ≡ commits_in (notes_of other entries)
