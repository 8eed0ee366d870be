-- What a crash leaves of the tier's journal. (This project's model of disk and crash.)

use Rattle.std.specs.Prelude.{◌≡◌, ◌⊎◌, List, ◌++◌}
use Rattle.table_defs.specs.declared.definition.TableDef.{TableDef}
use Rattle.outside.specs.Holding.{Slots, Held}
use Rattle.commit_journal.specs.Layout.{Gives, HaveBytes}
use Rattle.cache_tier.specs.Journals.{Journal, JournalEntry}
use Rattle.tier_journal.specs.Writing.{written_all}

-- the slots are undamaged, and have these entries; and none is without bytes
pub record GivesEntries (schema : List TableDef) (slots : Slots) (entries : List JournalEntry) : Type 0 where
  pub gives : Gives slots (written_all schema entries)
  pub bytes : HaveBytes slots

-- the slots give one list of entries or the other; beside them nothing changed
pub record GivesEither (schema : List TableDef) (o : Held) (one other : List JournalEntry) (p : Held) : Type 0 where
  pub beside : p.history ≡ o.history
  pub gives : GivesEntries schema p.slots one ⊎ GivesEntries schema p.slots other

-- of a flush: the flushed entries, or these and the whole batch
abbrev pub LeftByFlush : List TableDef → Held → Journal → List JournalEntry → Held → Type 0
LeftByFlush schema o j entries = GivesEither schema o j.flushed (j.flushed ++ (j.tail ++ entries))

-- of a rotation: the flushed entries, or those that begin the new slot
abbrev pub LeftByRotation : List TableDef → Held → Journal → List JournalEntry → Held → Type 0
LeftByRotation schema o j entries = GivesEither schema o j.flushed entries
