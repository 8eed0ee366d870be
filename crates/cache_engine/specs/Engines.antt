-- The engine between request lines, and what a line makes of it. (This project's model; TimesTen Cache User's Guide,
-- "Synchronous writethrough".)

use Rattle.std.specs.Prelude.{◌≡◌, ℕ, Option, None, Result, Ok, Err, false}
use Rattle.outside.specs.Holding.{Held}
use Rattle.outside.specs.Sites.{SiteState}
use Rattle.outside.specs.declared.fault.BankError.{BankError}
use Rattle.tier_base.specs.declared.number.Moment.{Moment}
use Rattle.cache_tier.specs.Worlds.{World}
use Rattle.cache_tier.specs.declared.reply.Reply.{Reply}
use Rattle.stored_tier.specs.Sites.{IsAt}
use Rattle.stored_tier.specs.Stored.{IsSound}
use Rattle.session_engine.specs.Doubting.{IsLeft, IsReady, LeadsOver}
use Rattle.cache_engine.specs.Beginning.{Begins}
use Rattle.cache_engine.specs.declared.engine.Engine.{Engine}
use Rattle.stored_tier.specs.declared.clock.Pace.{Pace}

-- between two lines it is left so in a world: the tier stands, or a commit is in doubt; and no journal is kept
pub record IsLeftIn (e : Engine) (w : World) : Type 0 where
  pub left : IsLeft e.tier e.doubt w
  pub journal : e.journal ≡ None
  pub unkept : w.journal.kept ≡ false

-- a world to which a line leads, and in which the engine is left so
pub record IsLedTo (e : Engine) (site : SiteState) (does : World → Type 0) : Type 0 where
  pub world : World
  pub at : IsAt site world
  pub is : does world
  pub left : IsLeftIn e world

-- what its parts ask of one another: the tier's do, and there is room for what is in doubt
pub record IsInOrder (e : Engine) : Type 0 where
  pub sound : IsSound e.tier
  pub ready : IsReady e.tier e.doubt

-- For each world in which the old engine was left so, and over whose disk its journal is kept, a world in which the new
-- one is left so, and which comes so. Where the reply tells a failed call of the journal's disk, the run is to end, and
-- nothing is said of what the engine was left in.
abbrev pub Goes : {D : Type 0} → (D → SiteState) → (D → ℕ → Held → Type 0) → Engine → Engine → D → D → Option Reply
    → (World → World → Type 0) → Type 0
Goes state possible old new d d' reply does =
    LeadsOver state possible old.tier old.doubt new.tier new.doubt old.journal new.journal d d' reply does

-- an engine begins as its tier does, with nothing in doubt, and without a journal
abbrev pub IsBegunWith : Moment → Pace → SiteState → SiteState → Result Engine BankError → Type 0
IsBegunWith start pace before behind (Ok e) =
    Begins start pace before behind (Ok e.tier) × (e.doubt ≡ None) × (e.journal ≡ None)
IsBegunWith start pace before behind (Err error) = Unit {0}
