-- What a request line does, by its bytes. (This project's rule.)

use Rattle.std.specs.Prelude.{◌≡◌, ◌⊎◌, ◌≤◌, ℕ, nat_lt, List, [], ◌∷◌, ◌++◌, Bool, true, false, Option, Some, None, length, count_by}
use Rattle.std.specs.Bool.{MatchBool}
use Rattle.tier_base.specs.declared.code.Code.TheVariants as code
use Rattle.tier_base.specs.declared.limit.Limit.TheVariants as limit
use Rattle.tier_base.specs.Limits.{greatest}
use Rattle.sql_subset.specs.Lines as line
use Rattle.cache_tier.specs.declared.reply.Reply.{Reply}
use Rattle.cache_tier.specs.Steps.{Counts, Heeds, Rose, Saying, Silent, Says, Step, TooDeep, TooLong, WrongAt, faults_in, note_tells, tells}
use Rattle.cache_tier.specs.Worlds.{World, faulty}
use Rattle.stored_tier.specs.Performing.{KeepsSlots}
use Rattle.outside.specs.Sites.{SiteState}
use Rattle.tier_journal.specs.declared.journal.TierJournal.{TierJournal}
use Rattle.tier_journal.specs.KeptOver.{is_broken}

-- the line is longer than a line may be
abbrev pub is_long : List ℕ → Bool
is_long bytes = nat_lt (greatest limit.Line) (length bytes)

-- what the reader hears
abbrev pub heard : line.Saying → Saying
heard line.Silent = Silent
heard (line.Says l) = Says l
heard (line.WrongAt place) = WrongAt place
heard line.TooDeep = TooDeep

-- this is said by the bytes of a line
abbrev pub IsHeard : List ℕ → Saying → Type 0
IsHeard bytes said = (saying : line.Saying) × line.Means bytes saying × (said ≡ heard saying)

abbrev pub IsSaid : List ℕ → Saying → Type 0
IsSaid bytes said = MatchBool (is_long bytes) (said ≡ TooLong) (IsHeard bytes said)

-- Memory was wanting to read the line, which is neither silent nor too long: nothing is done.
pub record IsUnread (bytes : List ℕ) (w w' : World) (reply : Option Reply) : Type 0 where
  pub short : is_long bytes ≡ false
  pub speaks : line.is_silent bytes ≡ false
  pub same : w' ≡ w
  pub wants : reply ≡ Some (faulty code.Memory)

-- One line, whose moment is counted from this base. What an unread one says isn't known; its step is that of each line
-- that isn't silent.
abbrev pub LineStep : ℕ → World → List ℕ → World → Option Reply → Type 0
LineStep base w bytes w' reply =
    (said : Saying) × (IsSaid bytes said ⊎ IsUnread bytes w w' reply) × Step base w said w' reply

-- The same of a line in which a journal may be written to. Where its reply tells a failed call of the journal's disk,
-- it isn't said that the world's count of such calls rose; it is said of the site's.
abbrev pub LineGoes : ℕ → World → List ℕ → World → Option Reply → Type 0
LineGoes base w bytes w' None = LineStep base w bytes w' None
LineGoes base w bytes w' (Some reply) =
    (said : Saying) × (IsSaid bytes said ⊎ IsUnread bytes w w' (Some reply))
    × (tells code.JournalFault reply.last ≡ false → Counts w w' reply) × Heeds base said w w' reply

-- a line's bytes, and the base of its moment
pub record Given : Type 0 where
  pub base : ℕ
  pub bytes : List ℕ

-- one line after another
abbrev pub LineRun : World → List Given → List (Option Reply) → World → Type 0
LineRun w [] [] w' = w' ≡ w
LineRun w [] (reply ∷ replies) w' = ⊥
LineRun w (g ∷ lines) [] w' = ⊥
LineRun w (g ∷ lines) (reply ∷ replies) w' =
    (mid : World) × LineStep g.base w g.bytes mid reply × LineRun mid lines replies w'

-- One line after another, of which the last tells a failed call of the journal's disk: the run ends there. Each line
-- before it is a step.
pub record BrokenRun (w : World) (lines : List Given) (replies : List (Option Reply)) (w' : World) : Type 0 where
  pub before : List Given
  pub told : List (Option Reply)
  pub mid : World
  pub run : LineRun w before told mid
  pub last : Given
  pub reply : Option Reply
  pub lines_are : lines ≡ before ++ last ∷ []
  pub replies_are : replies ≡ told ++ reply ∷ []
  pub goes : LineGoes last.base mid last.bytes w' reply
  pub fails : is_broken reply ≡ true

-- Counts and moments don't fall, and what others change stays; the slots do where no journal is kept. Each fault of the
-- bank, and each of the journal, that a reply tells has a failed call of its own. No note tells one of the journal, and
-- without a journal none is told.
pub record IsLineCaused (k : Option TierJournal) (before behind : SiteState) (reply : Option Reply) : Type 0 where
  pub later : before.bank_faults ≤ behind.bank_faults
  pub moment : before.moment ≤ behind.moment
  pub shares : behind.shared ≡ before.shared
  pub slots : k ≡ None → KeepsSlots before.held behind.held
  pub bank : (r : Reply) → reply ≡ Some r → Rose before.bank_faults (faults_in code.BackingFault r) behind.bank_faults
  pub disk : (r : Reply) → reply ≡ Some r → Rose before.disk_faults (faults_in code.JournalFault r) behind.disk_faults
  pub quiet : (r : Reply) → reply ≡ Some r → count_by (note_tells code.JournalFault) r.notes ≡ 0
  pub whole : k ≡ None → (r : Reply) → reply ≡ Some r → faults_in code.JournalFault r ≡ 0
