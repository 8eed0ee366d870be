use Rattle.std.proofs.Common.{◌∙◌, arith}
use Rattle.std.proofs.lemmas.List.{take_all}
use Rattle.backing_gate.proofs.BankLaws.{one_more}
use Rattle.backing_gate.proofs.bank.MemoryBank.following.Goals as goal

pub loop-entry-preserved : goal.loop-entry-preserved
loop-entry-preserved c =
    one_more c.args.entries.now c.loop-entry.entry-index c.entry-item.result c.loop-entry.bank c.follow.new.self c.loop-entry-test.true c.entry-item.is
    c.loop-entry.invariant c.in_ok-follow.ensures

pub returns : goal.returns
returns c = c.loop-entry.invariant ∙ take_all c.loop-entry.entry-index c.args.entries.now (omega arith)
