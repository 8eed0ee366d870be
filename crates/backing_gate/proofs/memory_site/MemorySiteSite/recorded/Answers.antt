use Rattle.std.proofs.Common.{◌≡◌}
use Rattle.outside.specs.Bank.{TellsRecorded}
use Rattle.backing_gate.specs.declared.plan.CallKind.TheVariants.{Recorded}
use Rattle.backing_gate.specs.Heeding.{Heeds, bank_of}
use Rattle.backing_gate.specs.Plans.{planned_next}
use Rattle.backing_gate.proofs.CallLaws.{cause, counted, crash, goes, heeds_all, idle_all, moment, told, visits}
use Rattle.backing_gate.proofs.GrowthLaws.{recorded_grows}
use Rattle.backing_gate.proofs.memory_site.MemorySiteSite.recorded.Goals as goal

pub returns-clause-told : goal.returns-clause-told
returns-clause-told c =
    told Recorded c.begin-begun.result c.args.self.now c.begin-begun.new.self c.recorded_as-answer.new.self c.end.new.self c.begin-begun.ensures c.recorded_as-answer.ensures.kept c.end.ensures (TellsRecorded c.args.ticket.0 c.recorded_as-answer.result) c.recorded_as-answer.ensures.own
    (recorded_grows c.args.ticket.0 c.recorded_as-answer.result c.begin-begun.new.self.history c.recorded_as-answer.new.self.history c.recorded_as-answer.ensures.own)
    (idle_all c.begin-begun.result (planned_next Recorded c.args.self.now.planned) (bank_of c.begin-begun.new.self) (bank_of c.recorded_as-answer.new.self) c.recorded_as-answer.result (c.recorded_as-answer.new.self.history ≡ c.begin-begun.new.self.history) c.begin-begun.ensures.outcome c.recorded_as-answer.ensures.heeds)

pub returns-clause-crash : goal.returns-clause-crash
returns-clause-crash c =
    crash Recorded c.begin-begun.result c.args.self.now c.begin-begun.new.self c.recorded_as-answer.new.self c.end.new.self c.begin-begun.ensures c.recorded_as-answer.ensures.kept c.end.ensures (TellsRecorded c.args.ticket.0 c.recorded_as-answer.result) c.recorded_as-answer.ensures.own
    (recorded_grows c.args.ticket.0 c.recorded_as-answer.result c.begin-begun.new.self.history c.recorded_as-answer.new.self.history c.recorded_as-answer.ensures.own)
    (idle_all c.begin-begun.result (planned_next Recorded c.args.self.now.planned) (bank_of c.begin-begun.new.self) (bank_of c.recorded_as-answer.new.self) c.recorded_as-answer.result (c.recorded_as-answer.new.self.history ≡ c.begin-begun.new.self.history) c.begin-begun.ensures.outcome c.recorded_as-answer.ensures.heeds)

pub returns-clause-cause : goal.returns-clause-cause
returns-clause-cause c = cause Recorded c.begin-begun.result c.args.self.now c.begin-begun.new.self c.recorded_as-answer.new.self c.end.new.self c.begin-begun.ensures c.recorded_as-answer.ensures.kept c.end.ensures c.recorded_as-answer.result c.recorded_as-answer.ensures.cause

pub returns-clause-planned : goal.returns-clause-planned
returns-clause-planned c =
    goes Recorded c.begin-begun.result c.args.self.now c.begin-begun.new.self c.recorded_as-answer.new.self c.end.new.self c.begin-begun.ensures c.recorded_as-answer.ensures.kept c.end.ensures (λ begun done. Heeds (planned_next Recorded c.args.self.now.planned) begun done c.recorded_as-answer.result (done.history ≡ begun.history))
    (heeds_all c.begin-begun.result (planned_next Recorded c.args.self.now.planned) (bank_of c.begin-begun.new.self) (bank_of c.recorded_as-answer.new.self) c.recorded_as-answer.result (c.recorded_as-answer.new.self.history ≡ c.begin-begun.new.self.history) c.begin-begun.ensures.outcome c.recorded_as-answer.ensures.heeds)

pub returns-clause-moment : goal.returns-clause-moment
returns-clause-moment c =
    moment Recorded c.begin-begun.result c.args.self.now c.begin-begun.new.self c.recorded_as-answer.new.self c.end.new.self c.begin-begun.ensures c.recorded_as-answer.ensures.kept c.end.ensures (TellsRecorded c.args.ticket.0 c.recorded_as-answer.result) c.recorded_as-answer.ensures.own
    (recorded_grows c.args.ticket.0 c.recorded_as-answer.result c.begin-begun.new.self.history c.recorded_as-answer.new.self.history c.recorded_as-answer.ensures.own)
    (idle_all c.begin-begun.result (planned_next Recorded c.args.self.now.planned) (bank_of c.begin-begun.new.self) (bank_of c.recorded_as-answer.new.self) c.recorded_as-answer.result (c.recorded_as-answer.new.self.history ≡ c.begin-begun.new.self.history) c.begin-begun.ensures.outcome c.recorded_as-answer.ensures.heeds)

pub returns-clause-counted : goal.returns-clause-counted
returns-clause-counted c = counted Recorded c.begin-begun.result c.args.self.now c.begin-begun.new.self c.recorded_as-answer.new.self c.end.new.self c.begin-begun.ensures c.recorded_as-answer.ensures.kept c.end.ensures

pub returns-clause-visits : goal.returns-clause-visits
returns-clause-visits c = visits Recorded c.begin-begun.result c.args.self.now c.begin-begun.new.self c.recorded_as-answer.new.self c.end.new.self c.begin-begun.ensures c.recorded_as-answer.ensures.kept c.end.ensures
