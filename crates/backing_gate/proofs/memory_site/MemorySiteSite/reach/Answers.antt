use Rattle.std.proofs.Common.{◌≡◌}
use Rattle.outside.specs.Reaching.{Reaches}
use Rattle.backing_gate.specs.declared.plan.CallKind.TheVariants.{Reach}
use Rattle.backing_gate.specs.Heeding.{Heeds, bank_of}
use Rattle.backing_gate.specs.Plans.{planned_next}
use Rattle.backing_gate.proofs.CallLaws.{cause, counted, crash, goes, heeds_all, idle_all, moment, told, visits}
use Rattle.backing_gate.proofs.GrowthLaws.{reach_grows}
use Rattle.backing_gate.proofs.memory_site.MemorySiteSite.reach.Goals as goal

pub returns-clause-told : goal.returns-clause-told
returns-clause-told c =
    told Reach c.begin-begun.result c.args.self.now c.begin-begun.new.self c.reach_as-answer.new.self c.end.new.self c.begin-begun.ensures c.reach_as-answer.ensures.kept c.end.ensures (Reaches c.args.tree.now c.args.table c.args.key.now c.reach_as-answer.result) c.reach_as-answer.ensures.own
    (reach_grows c.args.tree.now c.args.table c.args.key.now c.reach_as-answer.result c.begin-begun.new.self.history c.reach_as-answer.new.self.history c.reach_as-answer.ensures.own)
    (idle_all c.begin-begun.result (planned_next Reach c.args.self.now.planned) (bank_of c.begin-begun.new.self) (bank_of c.reach_as-answer.new.self) c.reach_as-answer.result (c.reach_as-answer.new.self.history ≡ c.begin-begun.new.self.history) c.begin-begun.ensures.outcome c.reach_as-answer.ensures.heeds)

pub returns-clause-crash : goal.returns-clause-crash
returns-clause-crash c =
    crash Reach c.begin-begun.result c.args.self.now c.begin-begun.new.self c.reach_as-answer.new.self c.end.new.self c.begin-begun.ensures c.reach_as-answer.ensures.kept c.end.ensures (Reaches c.args.tree.now c.args.table c.args.key.now c.reach_as-answer.result) c.reach_as-answer.ensures.own
    (reach_grows c.args.tree.now c.args.table c.args.key.now c.reach_as-answer.result c.begin-begun.new.self.history c.reach_as-answer.new.self.history c.reach_as-answer.ensures.own)
    (idle_all c.begin-begun.result (planned_next Reach c.args.self.now.planned) (bank_of c.begin-begun.new.self) (bank_of c.reach_as-answer.new.self) c.reach_as-answer.result (c.reach_as-answer.new.self.history ≡ c.begin-begun.new.self.history) c.begin-begun.ensures.outcome c.reach_as-answer.ensures.heeds)

pub returns-clause-cause : goal.returns-clause-cause
returns-clause-cause c = cause Reach c.begin-begun.result c.args.self.now c.begin-begun.new.self c.reach_as-answer.new.self c.end.new.self c.begin-begun.ensures c.reach_as-answer.ensures.kept c.end.ensures c.reach_as-answer.result c.reach_as-answer.ensures.cause

pub returns-clause-planned : goal.returns-clause-planned
returns-clause-planned c =
    goes Reach c.begin-begun.result c.args.self.now c.begin-begun.new.self c.reach_as-answer.new.self c.end.new.self c.begin-begun.ensures c.reach_as-answer.ensures.kept c.end.ensures (λ begun done. Heeds (planned_next Reach c.args.self.now.planned) begun done c.reach_as-answer.result (done.history ≡ begun.history))
    (heeds_all c.begin-begun.result (planned_next Reach c.args.self.now.planned) (bank_of c.begin-begun.new.self) (bank_of c.reach_as-answer.new.self) c.reach_as-answer.result (c.reach_as-answer.new.self.history ≡ c.begin-begun.new.self.history) c.begin-begun.ensures.outcome c.reach_as-answer.ensures.heeds)

pub returns-clause-moment : goal.returns-clause-moment
returns-clause-moment c =
    moment Reach c.begin-begun.result c.args.self.now c.begin-begun.new.self c.reach_as-answer.new.self c.end.new.self c.begin-begun.ensures c.reach_as-answer.ensures.kept c.end.ensures (Reaches c.args.tree.now c.args.table c.args.key.now c.reach_as-answer.result) c.reach_as-answer.ensures.own
    (reach_grows c.args.tree.now c.args.table c.args.key.now c.reach_as-answer.result c.begin-begun.new.self.history c.reach_as-answer.new.self.history c.reach_as-answer.ensures.own)
    (idle_all c.begin-begun.result (planned_next Reach c.args.self.now.planned) (bank_of c.begin-begun.new.self) (bank_of c.reach_as-answer.new.self) c.reach_as-answer.result (c.reach_as-answer.new.self.history ≡ c.begin-begun.new.self.history) c.begin-begun.ensures.outcome c.reach_as-answer.ensures.heeds)

pub returns-clause-counted : goal.returns-clause-counted
returns-clause-counted c = counted Reach c.begin-begun.result c.args.self.now c.begin-begun.new.self c.reach_as-answer.new.self c.end.new.self c.begin-begun.ensures c.reach_as-answer.ensures.kept c.end.ensures

pub returns-clause-visits : goal.returns-clause-visits
returns-clause-visits c = visits Reach c.begin-begun.result c.args.self.now c.begin-begun.new.self c.reach_as-answer.new.self c.end.new.self c.begin-begun.ensures c.reach_as-answer.ensures.kept c.end.ensures
