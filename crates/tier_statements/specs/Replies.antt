-- Replies to what wasn't done. (This project's rule.)

use Rattle.tier_base.specs.declared.code.Code.TheVariants as code
use Rattle.row_types.specs.declared.rule.Refused.{Refused}
use Rattle.row_types.specs.declared.rule.Refused.TheVariants as refused
use Rattle.cache_tier.specs.declared.reply.Last.TheVariants.{No}
use Rattle.cache_tier.specs.declared.reply.Reply.{Reply}
use Rattle.cache_tier.specs.Worlds.{faulty, only}

-- a refusal by a rule, or want of memory
abbrev pub reply_to : Refused → Reply
reply_to (refused.Rule rule) = only (No rule)
reply_to refused.Memory = faulty code.Memory
