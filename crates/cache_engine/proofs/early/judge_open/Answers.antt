use Rattle.std.proofs.Common.{sym}
use Rattle.cache_engine.proofs.EarlyLaws.{label_free, label_taken}
use Rattle.cache_engine.proofs.early.judge_open.Goals as goal

pub returns-in_ok-refuse_label-in-Some : goal.returns-in_ok-refuse_label-in-Some
returns-in_ok-refuse_label-in-Some c = λ a is.
    rw c.in_ok-refuse_label-in-Some.ensures (label_taken c.args.tier.now c.args.label.now _ (sym c.in-Some.ensures) a is)

pub returns-in-None : goal.returns-in-None
returns-in-None c = λ a is. rw (label_free c.args.tier.now c.args.label.now (sym c.in-None.ensures) a is) (c.judge_room.ensures a is)
