-- A run that there is: a session is opened, commits nothing, and is closed; then its label is unknown.

use Rattle.std.specs.Prelude.{ℕ, List, [], ◌∷◌, Some, Option, codes, false}
use Rattle.tier_base.specs.declared.code.Code.TheVariants as code
use Rattle.cache_tier.specs.declared.reply.Reply.{Reply}
use Rattle.cache_tier.specs.declared.reply.Last.TheVariants.{Done, No}
use Rattle.sql_subset.specs.declared.request.Line.TheVariants.{Session, Clock}
use Rattle.sql_subset.specs.declared.request.Request.{Request}
use Rattle.sql_subset.specs.declared.request.Request.TheVariants.{Open, Close, Statement}
use Rattle.sql_subset.specs.declared.stmt.Stmt.TheVariants.{Commit}
use Rattle.cache_tier.specs.Journals.{new_journal}
use Rattle.cache_tier.specs.Rules.{labelled}
use Rattle.cache_tier.specs.Steps.{Asked, Run, Says}
use Rattle.cache_tier.specs.TierStates.{Settings, opened}
use Rattle.cache_tier.specs.Worlds.{World, only}

abbrev pub defaults : Settings
defaults =
    record {
      workers = 1;
      propagate_ms = 0;
      lru_high = 10000;
      lru_low = 9000;
      lru_cycle_ms = 60000;
      rotate_bytes = 16777216;
    }

-- a new journal, an empty history
abbrev pub start : World
start =
    record {
      tier = opened defaults 0 [];
      history = [];
      journal = new_journal;
      bank_faults = 0;
      disk_faults = 0;
      moment = 0;
      shared = [];
    }

abbrev pub s1 : Request → Asked
s1 request = record { base = 0; said = Says (Session (codes "s1") request) }

abbrev pub ok : ℕ → Option Reply
ok n = Some (only (Done n))

abbrev pub lines : List Asked
lines =
    s1 (Open (record { passthrough = 0; durable = false })) ∷ s1 (Statement Commit)
    ∷ record { base = 0; said = Says (Clock 5) } ∷ s1 Close ∷ s1 Close ∷ []

abbrev pub replies : List (Option Reply)
replies = ok 0 ∷ ok 0 ∷ ok 5 ∷ ok 0 ∷ Some (only (No (labelled code.UnknownSession (codes "s1")))) ∷ []

abbrev pub end : World
end = record start { tier = record (opened defaults 0 []) { now = 5; added = 5 } }

abbrev pub FirstRun : Type 0
FirstRun = Run start lines replies end
