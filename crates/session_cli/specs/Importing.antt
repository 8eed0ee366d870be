-- What `import` means: the rows of a CSV file go into a backing table. (This project's rule.)

use Rattle.std.specs.Prelude.{◌≡◌, ◌≤◌, ◌⊎◌, ℕ, List, [], Option, Some, None, true, Result, Ok, Err, take}
use Rattle.std.specs.Io.KnownBytes.{Appends}
use Rattle.outside.specs.Holding.{Held}
use Rattle.outside.specs.Sites.{SiteState}
use Rattle.commit_journal.specs.Layout.{HaveBytes}
use Rattle.stored_tier.specs.Sites.{IsAt}
use Rattle.cache_tier.specs.Replying.{reply_bytes}
use Rattle.cache_tier.specs.StandingBetween.{Stands}
use Rattle.cache_tier.specs.TierStates.{Settings as TierSettings}
use Rattle.cache_tier.specs.Worlds.{Tries, World}
use Rattle.cache_tier.specs.declared.reply.Reply.{Reply}
use Rattle.cache_engine.specs.OfTierOpening.Leaving.{EndsEarly}
use Rattle.cache_engine.specs.OfTierOpening.Opening.{IsSure, MayOpen, Onset, StartsAt}
use Rattle.stored_tier.specs.Stored.{pace_of}
use Rattle.cache_engine.specs.OfTierOpening.Telling.{FailsAs}
use Rattle.cache_engine.specs.OfTierOpening.declared.opening.OpenError.{OpenError}
use Rattle.cache_engine.specs.OfTierOpening.declared.opening.OpenError.TheVariants as open_error
use Rattle.cache_engine.specs.Importing.{Imports}
use Rattle.cache_engine.specs.Opening.{Opens}
use Rattle.session_cli.specs.declared.serving.Status.{Status}
use Rattle.session_cli.specs.declared.serving.Status.TheVariants.{Finished, SourceFailed, SinkFailed, DiskFailed}
use Rattle.session_cli.specs.declared.serving.Status.TheVariants.{SchemaFailed, NoMemory, LineUnchecked, Damaged}
use Rattle.session_cli.specs.declared.serving.Status.TheVariants.{Differs, InputTooLong}
use Rattle.session_cli.specs.Ends.{Taken}
use Rattle.session_cli.specs.Opening.{TellsWhy}
use Rattle.session_cli.specs.Outside.{IsInSlots, Outside}
use Rattle.session_cli.specs.Timing.{IsNext}

-- where no engine is opened a line says why, as in a run; but of a failed call of the journal's disk nothing is written
abbrev pub TellsImport : Status → Option (List ℕ) → Option (List ℕ) → OpenError → Type 0
TellsImport status sink sink' open_error.Disk = (status ≡ DiskFailed) × (sink' ≡ sink)
TellsImport status sink sink' open_error.Bank = TellsWhy status sink sink' open_error.Bank
TellsImport status sink sink' (open_error.Damaged slot place) =
    TellsWhy status sink sink' (open_error.Damaged slot place)
TellsImport status sink sink' (open_error.Differs table key) =
    TellsWhy status sink sink' (open_error.Differs table key)
TellsImport status sink sink' open_error.Memory = TellsWhy status sink sink' open_error.Memory

-- No engine was opened, and nothing of the source is taken. The sink is told why, and that has its cause at the
-- moment of the opening. Where a crash left just what the site told as the command began, it is told what a crash
-- leaves.
pub record ImportUnopened (status : Status) (settings : TierSettings) (there : Held) (input : List ℕ)
    (before : Outside) (source : Option (List ℕ)) (behind : Outside) : Type 0 where
  pub untaken : source ≡ Some input
  pub why : OpenError
  pub tells : TellsImport status before.written behind.written why
  pub moment : ℕ
  pub next : IsNext (before.coming 0) moment
  pub failed : FailsAs moment (pace_of settings) before.site behind.site why
  pub leaves : before.certain there → EndsEarly settings moment there before.site behind.site behind.left behind.leaves

-- all of the bytes are written, or a front of them where the sink failed
abbrev pub Puts : {E : Type 0} → Result (Unit {0}) E → Option (List ℕ) → Option (List ℕ) → List ℕ → Type 0
Puts (Ok done) sink sink' bytes = Appends sink sink' bytes
Puts (Err e) sink sink' bytes = (count : ℕ) × Appends sink sink' (take count bytes)

-- The rows of the file went into the table of the word by a step of the console, or were refused. The reply is written,
-- or a front of it. The journal is in the slots of the site, and a crash leaves a point of its way.
pub record Imported {E : Type 0} (result : Result (Unit {0}) E) (word input : List ℕ) (w : World)
    (sink sink' : Option (List ℕ)) (site : SiteState) (leaving : World → Type 0) : Type 0 where
  pub world : World
  pub at : IsAt site world
  pub reply : Reply
  pub is : Tries (Imports word input) w world reply
  pub slots : IsInSlots site world
  pub leaves : leaving world
  pub puts : Puts result sink sink' (reply_bytes (Some reply))

-- the whole source was taken, and its rows were imported
pub record ImportedAll {E : Type 0} (result : Result (Unit {0}) E) (word input : List ℕ) (w : World)
    (before : Outside) (source : Option (List ℕ)) (behind : Outside) : Type 0 where
  pub whole : source ≡ Some []
  pub imported : Imported result word input w before.written behind.written behind.site behind.leaves

-- nothing is done in the opened world, and nothing is written; a crash leaves a point of the journal's way
pub record ImportsNothing (w : World) (before behind : Outside) : Type 0 where
  pub at : IsAt behind.site w
  pub slots : IsInSlots behind.site w
  pub leaves : behind.leaves w
  pub silent : behind.written ≡ before.written

-- the same, where a front of the source was taken: less than the limit, or that much
abbrev pub CutsImport : Status → List ℕ → World → Outside → Option (List ℕ) → Outside → Type 0
CutsImport status input w before source behind = Taken status input source × ImportsNothing w before behind

-- how the command ended, over the engine that was opened in this world
abbrev pub ImportEnds : Status → List ℕ → List ℕ → World → Outside → Option (List ℕ) → Outside → Type 0
ImportEnds Finished word input w before source behind =
    ImportedAll {E = Unit {0}} (Ok tt) word input w before source behind
ImportEnds SinkFailed word input w before source behind =
    ImportedAll {E = Unit {0}} (Err tt) word input w before source behind
ImportEnds SourceFailed word input w before source behind = CutsImport SourceFailed input w before source behind
ImportEnds InputTooLong word input w before source behind = CutsImport InputTooLong input w before source behind
ImportEnds NoMemory word input w before source behind = ImportsNothing w before behind
ImportEnds DiskFailed word input w before source behind = ⊥
ImportEnds SchemaFailed word input w before source behind = ⊥
ImportEnds LineUnchecked word input w before source behind = ⊥
ImportEnds Damaged word input w before source behind = ⊥
ImportEnds Differs word input w before source behind = ⊥

-- An engine was opened, which may raise counts of faults, and in which transactions of others may come. In the world
-- that this leaves the tier stands, and no ticket is in doubt. There the rows were imported, or nothing was done. The
-- way of the journal begins as is asked.
pub record OpenedAndImported (onset : Onset) (status : Status) (settings : TierSettings) (there : Held)
    (word input : List ℕ) (before : Outside) (source : Option (List ℕ)) (behind : Outside) : Type 0 where
  pub first : ℕ
  pub next : IsNext (before.coming 0) first
  pub world : World
  pub opens : Opens settings first there world
  pub starts : StartsAt onset before.site.moment opens.begins
  pub kept : world.journal.kept ≡ true
  pub stands : Stands world
  pub certain : world.tier.doubt ≡ None
  pub later : before.site.bank_faults ≤ world.bank_faults
  pub shares : world.shared ≡ before.site.shared
  pub ended : ImportEnds status word input world before source behind

-- Where source and site tell what they hold, and the site's journal and history belong together, this is what the
-- command did with the bytes of the source and the word of a table.
abbrev pub ImportRuns : TierSettings → List ℕ → Status → Option (List ℕ) → Outside → Option (List ℕ) → Outside → Type 0
ImportRuns settings word status source before source' behind =
    (onset : Onset) (input : List ℕ) (there : Held) → source ≡ Some input → before.site.held ≡ Some there
    → HaveBytes there.slots → IsSure onset before.certain there → MayOpen before.site.shared there
    → ImportUnopened status settings there input before source' behind
    ⊎ OpenedAndImported onset status settings there word input before source' behind

-- the whole of what a source holds is taken into a list
pub record TakesAll (input bytes : List ℕ) (source : Option (List ℕ)) : Type 0 where
  pub bytes_are : bytes ≡ input
  pub whole : source ≡ Some []
