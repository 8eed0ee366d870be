-- ALTER CACHE GROUP .. SET AUTOREFRESH STATE. (TimesTen SQL Reference, "ALTER CACHE GROUP"; what it does to positions
-- is this project's rule.)

use Rattle.std.specs.Prelude.{if◌then◌else◌, ℕ, List, [], ◌∷◌, Bool, true, false, ◌&&◌, ◌||◌, Some}
use Rattle.std.specs.Bool.{MatchBool}
use Rattle.cache_tier.specs.JournalSteps.{FlushesSome}
use Rattle.cache_tier.specs.declared.reply.Last.TheVariants.{Done}
use Rattle.cache_tier.specs.Groups.{Group}
use Rattle.cache_tier.specs.Journals.{JournalEntry, SetsState}
use Rattle.cache_tier.specs.Reading.{Answers, Reads, as_it_was, backing_at}
use Rattle.cache_tier.specs.Sets.{alone, changed, refreshed, Choice, has_something, of_set, shows_something}
use Rattle.cache_tier.specs.TierStates.{Tier, refresh_tried}
use Rattle.cache_tier.specs.Worlds.{Answer, Part, Then, World, only}
use Rattle.sql_subset.specs.declared.stmt.Alter.{Alter}
use Rattle.sql_subset.specs.declared.stmt.RefreshState.{RefreshState}
use Rattle.sql_subset.specs.declared.stmt.RefreshState.TheVariants.{On, Off, Paused}
use Rattle.cache_tier.specs.Targets.{OnGroup}

abbrev pub same_state : RefreshState → RefreshState → Bool
same_state On On = true
same_state Off Off = true
same_state Paused Paused = true
same_state On Off = false
same_state On Paused = false
same_state Off On = false
same_state Off Paused = false
same_state Paused On = false
same_state Paused Off = false

abbrev pub altered_entries : Group → RefreshState → List JournalEntry
altered_entries g state = if same_state g.state state then [] else SetsState g.def.name state ∷ []

abbrev pub with_state : RefreshState → Group → Group
with_state state g = record g { state = state }

-- the STATE alone
abbrev pub state_answer : ℕ → RefreshState → World → Answer
state_answer place state w = (changed (alone place) (with_state state) w.tier, only (Done 0))

abbrev pub SetsStateAlone : ℕ → Group → RefreshState → Part
SetsStateAlone place g state = Then (FlushesSome (altered_entries g state)) (Answers (state_answer place state))

-- the STATE behind a refresh
abbrev pub refreshed_state : ℕ → RefreshState → Choice → ℕ → World → Answer
refreshed_state place state chosen n w =
    (changed (alone place) (with_state state) (refreshed chosen n (backing_at w n) w.tier), only (Done 0))

abbrev pub SetsStateRefreshed : ℕ → Group → RefreshState → Choice → (Tier → Tier) → Part
SetsStateRefreshed place g state chosen tried =
    Reads tried (λ n. Then (FlushesSome (altered_entries g state)) (Answers (refreshed_state place state chosen n)))

-- the set has something to show with the group in it
abbrev pub joins_something : ℕ → Group → Tier → Bool
joins_something place g t = has_something g || shows_something g.def.interval t.groups

-- To ON: the group joins its set, which is refreshed with it. From OFF to PAUSED: it alone is refreshed. Where there is
-- nothing to show, and else, the STATE alone changes.
abbrev pub AltersTo : RefreshState → ℕ → Group → Part
AltersTo On place g w w' reply =
    MatchBool (joins_something place g w.tier)
    (SetsStateRefreshed place g On (of_set g.def.interval (Some place)) (refresh_tried g.def.interval) w w' reply)
    (SetsStateAlone place g On w w' reply)
AltersTo Off place g w w' reply = SetsStateAlone place g Off w w' reply
AltersTo Paused place g w w' reply =
    MatchBool (same_state g.state Off && has_something g)
    (SetsStateRefreshed place g Paused (alone place) as_it_was w w' reply)
    (SetsStateAlone place g Paused w w' reply)

-- ALTER CACHE GROUP
abbrev pub Alters : Alter → Part
Alters a = OnGroup a.group (AltersTo a.state)
