-- Work that is due before a statement: the doubt, a round, sets by rising interval, aging. (TimesTen Cache User's
-- Guide, "Automatically refreshing a cache group", "Implementing aging on a cache group"; the order is this project's
-- rule.)

use Rattle.std.specs.Prelude.{◌≡◌, ℕ, nat_eq, nat_lt, List, [], ◌∷◌, ◌++◌, Bool, ◌&&◌, ◌||◌, Option, Some, None, if◌then◌else◌, find}
use Rattle.std.specs.List.{filter}
use Rattle.std.specs.Option.{option_map, unwrap_or}
use Rattle.tier_base.specs.Codes.{number_of}
use Rattle.tier_base.specs.declared.code.Code.{Code}
use Rattle.tier_base.specs.declared.code.Code.TheVariants as code
use Rattle.cache_tier.specs.declared.reply.Reply.{Reply}
use Rattle.cache_tier.specs.declared.reply.Note.{Note}
use Rattle.cache_tier.specs.declared.reply.Note.TheVariants.{Propagate, Refresh}
use Rattle.cache_tier.specs.declared.reply.Last.{Last}
use Rattle.cache_tier.specs.declared.reply.Last.TheVariants.{Done, No, Fault}
use Rattle.cache_tier.specs.Aging.{after_aging, is_over}
use Rattle.cache_tier.specs.DoubtSteps.{SettlesDoubt}
use Rattle.cache_tier.specs.Groups.{Group, is_on, is_read_only}
use Rattle.cache_tier.specs.Rounds.{Round}
use Rattle.cache_tier.specs.Sets.{RefreshesIfShown}
use Rattle.cache_tier.specs.TierStates.{Tier, is_of_interval}
use Rattle.cache_tier.specs.Worlds.{OnlyWhere, Stage, World}

-- an item of due work: it may tell notes, or end the line
abbrev pub Item : Type 1
Item = World → World → List Note → Option Reply → Type 0

abbrev pub Idle : Item
Idle w w' notes stop = (w' ≡ w) × (notes ≡ []) × (stop ≡ None)

abbrev pub ItemFollows : Option Reply → Item → Item
ItemFollows (Some end) item w w' notes stop = (w' ≡ w) × (notes ≡ []) × (stop ≡ Some end)
ItemFollows None item w w' notes stop = item w w' notes stop

-- one item, and then another
pub record ThenItem (one other : Item) (w w' : World) (notes : List Note) (stop : Option Reply) : Type 0 where
  pub mid : World
  pub before : List Note
  pub behind : List Note
  pub end : Option Reply
  pub first : one w mid before end
  pub next : ItemFollows end other mid w' behind stop
  pub all : notes ≡ before ++ behind

-- the fault of a bank call, or want of memory, becomes a note, and the line goes on
abbrev pub is_noted : Code → Bool
is_noted c = nat_eq (number_of c) (number_of code.BackingFault) || nat_eq (number_of c) (number_of code.Memory)

abbrev pub noted_code : Last → Option Code
noted_code (Done n) = None
noted_code (No rule) = None
noted_code (Fault rule) = if is_noted rule.code then Some rule.code else None

abbrev pub notes_of : (Code → Note) → Option Code → List Note
notes_of note None = []
notes_of note (Some c) = note c ∷ []

abbrev pub noted : (Code → Note) → Option Reply → List Note
noted note None = []
noted note (Some reply) = notes_of note (noted_code reply.last)

-- another fault ends the line
abbrev pub stopped_by : Reply → Option Code → Option Reply
stopped_by reply None = Some reply
stopped_by reply (Some c) = None

abbrev pub stopped : Option Reply → Option Reply
stopped None = None
stopped (Some reply) = stopped_by reply (noted_code reply.last)

pub record Noted (note : Code → Note) (stage : Stage) (w w' : World) (notes : List Note) (stop : Option Reply) : Type
    0 where
  pub end : Option Reply
  pub does : stage w w' end
  pub told : notes ≡ noted note end
  pub ends : stop ≡ stopped end

-- a round is due so long after the last one tried; never, where the setting is 0
abbrev pub is_round_due : Tier → Bool
is_round_due t = nat_lt 0 t.settings.propagate_ms && is_over t.now t.round t.settings.propagate_ms

abbrev pub DueRound : Item
DueRound w w' notes stop = Noted Propagate (OnlyWhere (is_round_due w.tier) Round) w w' notes stop

-- a set is due its interval after its last refresh
abbrev pub last_refresh : Tier → ℕ → ℕ
last_refresh t interval = unwrap_or (option_map (λ s. s.refreshed) (find (is_of_interval interval) t.sets)) 0

abbrev pub is_set_due : Tier → ℕ → Bool
is_set_due t interval = is_over t.now (last_refresh t interval) interval

-- a number among rising ones
abbrev pub with_number : ℕ → List ℕ → List ℕ
with_number n [] = n ∷ []
with_number n (m ∷ ms) = if nat_lt n m then n ∷ m ∷ ms else (if nat_eq n m then m ∷ ms else m ∷ with_number n ms)

-- the intervals of all sets, rising
abbrev pub intervals : List Group → List ℕ
intervals [] = []
intervals (g ∷ groups) =
    if is_read_only g && is_on g.state then with_number g.def.interval (intervals groups) else intervals groups

abbrev pub due_sets : Tier → List ℕ
due_sets t = filter (is_set_due t) (intervals t.groups)

abbrev pub DueSetsOf : List ℕ → Item
DueSetsOf [] w w' notes stop = Idle w w' notes stop
DueSetsOf (interval ∷ more) w w' notes stop =
    ThenItem (Noted (λ c. Refresh c interval) (RefreshesIfShown interval)) (DueSetsOf more) w w' notes stop

abbrev pub DueSets : Item
DueSets w w' notes stop = DueSetsOf (due_sets w.tier) w w' notes stop

-- each group that is due has its cycle
abbrev pub DueAging : Item
DueAging w w' notes stop = (w' ≡ record w { tier = after_aging w.history w.tier }) × (notes ≡ []) × (stop ≡ None)

abbrev pub DueDoubt : Item
DueDoubt w w' notes stop = SettlesDoubt w.tier.doubt w w' notes stop

-- all that is due
abbrev pub DueWork : Item
DueWork = ThenItem DueDoubt (ThenItem DueRound (ThenItem DueSets DueAging))
