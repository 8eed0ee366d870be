-- What is done to the journal: an entry is noted in memory, or flushed with the tail before it. Where the tier keeps no
-- journal, nothing is done. (This project's rule.)

use Rattle.tier_base.specs.declared.code.Code.TheVariants as code
use Rattle.tier_base.specs.declared.limit.Limit.TheVariants as limit
use Rattle.std.specs.Prelude.{◌≡◌, ℕ, ◌≤◌, List, [], Option, Some, None, false, length, slice_get, Bool, true, ◌&&◌, ◌∷◌, nat_lt}
use Rattle.std.specs.Bool.{MatchBool}
use Rattle.row_types.specs.declared.rule.Rule.{Rule}
use Rattle.table_defs.specs.declared.definition.TableDef.{TableDef}
use Rattle.table_state.specs.declared.operation.Op.{Op}
use Rattle.table_state.specs.Operations.{table_of}
use Rattle.cache_tier.specs.declared.reply.Reply.{Reply}
use Rattle.cache_tier.specs.declared.reply.Last.TheVariants.{No}
use Rattle.cache_tier.specs.Journals.{Journal, JournalEntry, flushed_with, is_full, on_the_way, with_noted}
use Rattle.cache_tier.specs.Rules.{broken_if, past}
use Rattle.cache_tier.specs.Worlds.{OnlyWhere, Stage, World, faulty, only}

-- how many bytes the name of an operation's table has
abbrev pub name_size : List TableDef → Op → ℕ
name_size schema op = of_def (slice_get schema (table_of op).0)
  where
    of_def : Option TableDef → ℕ
    of_def None = 0
    of_def (Some def) = length def.name

abbrev pub name_sizes : World → Op → ℕ
name_sizes w op = name_size w.tier.schema op

-- 119 of the journal: these entries can't be flushed behind the tail
abbrev pub journal_full : World → List JournalEntry → Bool
journal_full w entries = w.journal.kept && is_full (name_sizes w) w.journal entries

-- the journal once the tail and these entries are flushed, whatever way it has
abbrev pub journal_with : World → List JournalEntry → Journal
journal_with w entries = flushed_with (name_sizes w) entries w.journal

-- how a flush ends: done, or by a failed call of the disk, after which the run ends
pub data Flushed : Type 0 where
  Whole : Flushed
  Failing : Flushed

-- the same, with the way that led there
abbrev pub journal_behind : World → List JournalEntry → Journal
journal_behind w entries = on_the_way (length w.history) w.journal (journal_with w entries)

abbrev pub flush_stop : Flushed → Option Reply
flush_stop Whole = None
flush_stop Failing = Some (faulty code.JournalFault)

-- The tail and these entries are flushed as one batch, or the call failed, and they may be there or not: what the slots
-- give is a point of the journal's way, which has what they gave before. The tier, the history and the bank's count
-- stay.
pub record FlushesKept (entries : List JournalEntry) (w w' : World) (stop : Option Reply) : Type 0 where
  pub result : Flushed
  pub tier : w'.tier ≡ w.tier
  pub history : w'.history ≡ w.history
  pub journal : w'.journal ≡ journal_behind w entries
  pub bank : w'.bank_faults ≡ w.bank_faults
  pub disk : w.disk_faults ≤ w'.disk_faults
  pub moment : w.moment ≤ w'.moment
  pub shared : w'.shared ≡ w.shared
  pub end : stop ≡ flush_stop result

-- the same where a journal is kept
abbrev pub Flushes : List JournalEntry → Stage
Flushes entries w w' stop = OnlyWhere w.journal.kept (FlushesKept entries) w w' stop

-- 119: the entries don't fit the journal
abbrev pub journal_fault : World → List JournalEntry → Option Rule
journal_fault w entries = broken_if (journal_full w entries) (past limit.JournalSlot)

-- the entry waits in the tail
abbrev pub NotesKept : JournalEntry → Stage
NotesKept e w w' stop = (w' ≡ record w { journal = with_noted e w.journal }) × (stop ≡ None)

-- the same where a journal is kept
abbrev pub Notes : JournalEntry → Stage
Notes e w w' stop = OnlyWhere w.journal.kept (NotesKept e) w w' stop

-- with DURABLE 1 the tail is flushed with it before the answer
abbrev pub Records : Bool → JournalEntry → Stage
Records true e = Flushes (e ∷ [])
Records false e = Notes e

-- Entries that are flushed, where there are some: 119 where they don't fit the journal.
abbrev pub has_entries : List JournalEntry → Bool
has_entries entries = nat_lt 0 (length entries)

abbrev pub FlushesFitting : List JournalEntry → Stage
FlushesFitting entries w w' stop =
    MatchBool (journal_full w entries) ((w' ≡ w) × (stop ≡ Some (only (No (past limit.JournalSlot)))))
    (Flushes entries w w' stop)

abbrev pub FlushesSome : List JournalEntry → Stage
FlushesSome entries = OnlyWhere (has_entries entries) (FlushesFitting entries)
