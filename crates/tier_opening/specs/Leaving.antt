-- What a crash leaves of an opening that failed, over a certain disk. (This project's model of disk and crash; TimesTen
-- Cache User's Guide, "Recovery".)

use Rattle.std.specs.Prelude.{◌≡◌, ◌⊎◌, ◌≤◌, ℕ, List, ◌++◌, Option}
use Rattle.tier_base.specs.declared.number.TableId.{TableId}
use Rattle.table_state.specs.declared.history.Entry.{Entry}
use Rattle.outside.specs.declared.disk.Slot.{Slot}
use Rattle.outside.specs.Calls.{Certain}
use Rattle.outside.specs.Holding.{Held}
use Rattle.outside.specs.Others.{AreOthers}
use Rattle.outside.specs.Sites.{SiteState}
use Rattle.commit_journal.specs.Layout.{HaveBytes, Placed, Reads}
use Rattle.cache_tier.specs.declared.reply.Reply.{Reply}
use Rattle.cache_tier.specs.TierStates.{Settings}
use Rattle.cache_tier.specs.Worlds.{IsUnshared, World}
use Rattle.tier_journal.specs.declared.journal.TierJournal.{TierJournal}
use Rattle.tier_journal.specs.KeptOver.{IsLeftOver}
use Rattle.recovery.specs.Recalling.{AreMatched}
use Rattle.recovery.specs.Reopening.{Reopens}
use Rattle.stored_tier.specs.declared.clock.Pace.{Pace}
use Rattle.stored_tier.specs.Sites.{IsAt}
use Rattle.stored_tier.specs.Stored.{pace_of}
use Rattle.tier_opening.specs.Opening.{AtOpening, BeginsIn, StartsAt}

-- The slots say what they said, damage included, and nothing else; none is without bytes; and only transactions of
-- others have come to the history.
pub record IsAsFound (shared : List TableId) (o p : Held) : Type 0 where
  pub bytes : HaveBytes p.slots
  pub reads : (placed : List Placed) (damaged : Option (Slot × ℕ)) → Reads o.slots placed damaged
      → Reads p.slots placed damaged
  pub says : (placed : List Placed) (damaged : Option (Slot × ℕ)) → Reads p.slots placed damaged
      → Reads o.slots placed damaged
  pub others : List Entry
  pub came : AreOthers shared o.history others
  pub history : p.history ≡ o.history ++ others

-- The opening went on, from the world in which the tier began, up to a world at this site (`stop` is the reply that
-- ended it, if one did), and `leaving` holds there: what it says of a crash is said of that world.
pub record StopsIn (site : SiteState) (leaving : World → Type 0) (begun : World) : Type 0 where
  pub world : World
  pub at : IsAt site world
  pub stop : Option Reply
  pub reopens : Reopens begun world stop
  pub leaves : leaving world

-- The journal was found, and the tier began, with a way that begins where the opening did. Where entries and history
-- belong together, and others leave writethrough groups alone, it was opened up to a world at the site behind.
pub record StopsBehind (settings : Settings) (moment : ℕ) (o : Held) (before behind : SiteState)
    (leaving : World → Type 0) : Type 0 where
  pub journal : TierJournal
  pub begun : World
  pub shares : begun.shared ≡ before.shared
  pub begins : BeginsIn settings moment o journal begun
  pub starts : StartsAt AtOpening before.moment begins
  pub stops : AreMatched begins.entries begun.history → IsUnshared begun → StopsIn behind leaving begun

-- what is said of slots and history that a crash may leave
abbrev pub Quality : Type 1
Quality = Held → Type 0

-- it holds of whatever a crash may leave, at each moment since this one up to the present
abbrev pub LeftSince : {D : Type 0} → (D → SiteState) → (D → ℕ → Held → Type 0) → D → ℕ → Quality → Type 0
LeftSince state possible d since quality =
    (k : ℕ) (p : Held) → since ≤ k → k ≤ (state d).moment → possible d k p → quality p

-- What an opening that failed leaves: the site as it was found, at each moment since it began; or what is left behind
-- the beginning of the tier.
abbrev pub EndsEarly : Settings → ℕ → Held → SiteState → SiteState → (ℕ → Quality → Type 0) → (World → Type 0) → Type 0
EndsEarly settings moment o before behind left leaving =
    left before.moment (IsAsFound before.shared o) ⊎ StopsBehind settings moment o before behind leaving

-- so it is for each settings with this pace, where a crash left just what the site told as the opening began
abbrev pub FailsLeaving : {D : Type 0} → (D → SiteState) → (D → ℕ → Held → Type 0) → ℕ → Pace → D → D → Type 0
FailsLeaving state possible moment pace d d' =
    (o : Held) (settings : Settings) → Certain state possible d o → HaveBytes o.slots → pace_of settings ≡ pace
    → EndsEarly settings moment o (state d) (state d') (LeftSince state possible d') (IsLeftOver state possible d')
