-- What a crash leaves on the way of a world's journal. (This project's model of disk and crash.)

use Rattle.std.specs.Prelude.{◌≡◌, ℕ, ◌≤◌, List, ◌++◌, Option, Some, None, length, take}
use Rattle.std.specs.List.{AllByRecursion}
use Rattle.table_defs.specs.declared.definition.TableDef.{TableDef}
use Rattle.table_state.specs.declared.history.Entry.{Entry}
use Rattle.outside.specs.Holding.{Held}
use Rattle.outside.specs.Sites.{SiteState}
use Rattle.cache_tier.specs.Journals.{JournalEntry, Way}
use Rattle.cache_tier.specs.WayPoints.{IsPoint, turned_at}
use Rattle.cache_tier.specs.Worlds.{World}
use Rattle.tier_journal.specs.Leaving.{GivesEntries}
use Rattle.tier_journal.specs.Writing.{HasTables}

-- the schema was this one, or has become it
pub record HasBecome (early schema : List TableDef) : Type 0 where
  pub more : List TableDef
  pub is : schema ≡ early ++ more

-- What is left is a point of the way: the slots give its entries, whose tables are those of a schema of the way, and
-- the history is the front of the present one that is so long.
pub record IsOnWay (schema : List TableDef) (way : Way) (flushed : List JournalEntry) (history : List Entry) (p : Held)
    : Type 0 where
  pub entries : List JournalEntry
  pub count : ℕ
  pub point : IsPoint way.from way.past flushed (length history) entries count
  pub within : count ≤ length history
  pub front : p.history ≡ take count history
  pub early : List TableDef
  pub becomes : HasBecome early schema
  pub tables : AllByRecursion (HasTables early) entries
  pub gives : GivesEntries early p.slots entries

-- at each moment since the way began a crash leaves a point of it
pub record LeavesPoints {D : Type 0} (state : D → SiteState) (possible : D → ℕ → Held → Type 0) (d : D) (o : Held)
    (w : World) (way : Way) : Type 0 where
  pub same : w.history ≡ o.history
  pub turned : turned_at way.from way.past ≤ length o.history
  pub leaves :
      (k : ℕ) (p : Held) → way.since ≤ k → k ≤ (state d).moment → possible d k p
      → IsOnWay w.tier.schema way w.journal.flushed o.history p

-- so it is where a way is asked for
abbrev pub LeavesOnWay : {D : Type 0} → (D → SiteState) → (D → ℕ → Held → Type 0) → D → Held → World → Option Way
    → Type 0
LeavesOnWay state possible d o w None = Unit {0}
LeavesOnWay state possible d o w (Some way) = LeavesPoints state possible d o w way
