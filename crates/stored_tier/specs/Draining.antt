-- A round over the stored tier. (TimesTen Cache User's Guide: asynchronous writethrough; the round is this project's
-- rule.)

use Rattle.std.specs.Prelude.{◌≡◌, ℕ, Option, Some, None, Result, Ok, Err, length}
use Rattle.cache_tier.specs.declared.reply.Last.TheVariants.{Done}
use Rattle.cache_tier.specs.declared.reply.Reply.{Reply}
use Rattle.cache_tier.specs.Rounds.{Applies, Round}
use Rattle.cache_tier.specs.Worlds.{World, only}

-- what is unsettled is applied, and so many left, which are all; or it ended with this reply
abbrev pub AppliesAll : World → World → Result ℕ Reply → Type 0
AppliesAll w w' (Ok receipts) = Applies w w' None × (receipts ≡ length w.tier.unsettled)
AppliesAll w w' (Err reply) = Applies w w' (Some reply)

-- a round, in which so many left, which are all; or it ended with this reply
abbrev pub SettlesAll : World → World → Result ℕ Reply → Type 0
SettlesAll w w' (Ok receipts) = Round w w' None × (receipts ≡ length w.tier.unsettled)
SettlesAll w w' (Err reply) = Round w w' (Some reply)

-- what it is answered
abbrev pub settled_reply : Result ℕ Reply → Reply
settled_reply (Ok receipts) = only (Done receipts)
settled_reply (Err reply) = reply

-- with what it ended early, where it did
abbrev pub settled_stop : Result ℕ Reply → Option Reply
settled_stop (Ok receipts) = None
settled_stop (Err reply) = Some reply

-- how a round ends, of what is applied and the rotation: of two ends the disk's counts
abbrev pub IsEnded : Result ℕ Reply → Result (Unit {0}) Reply → Result ℕ Reply → Type 0
IsEnded applied (Ok done) result = result ≡ applied
IsEnded applied (Err reply) result = result ≡ Err reply
