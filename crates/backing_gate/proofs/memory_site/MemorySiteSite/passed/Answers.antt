use Rattle.std.proofs.Common.{◌≡◌}
use Rattle.outside.specs.Passing.{CommitsAlone}
use Rattle.backing_gate.specs.declared.plan.CallKind.TheVariants.{Passed}
use Rattle.backing_gate.specs.Heeding.{bank_of}
use Rattle.backing_gate.specs.PassedOn.{PassesAs}
use Rattle.backing_gate.specs.Plans.{planned_next}
use Rattle.backing_gate.proofs.CallLaws.{cause, counted, crash, goes, idle_else, moment, passes_all, told, visits}
use Rattle.backing_gate.proofs.GrowthLaws.{passed_grows}
use Rattle.backing_gate.proofs.memory_site.MemorySiteSite.passed.Goals as goal

pub returns-clause-told : goal.returns-clause-told
returns-clause-told c =
    told Passed c.begin-begun.result c.args.self.now c.begin-begun.new.self c.passed_as-answer.new.self c.end.new.self c.begin-begun.ensures c.passed_as-answer.ensures.kept c.end.ensures (CommitsAlone c.args.ticket.0 c.args.change.now c.passed_as-answer.result) c.passed_as-answer.ensures.own
    (passed_grows c.args.ticket.0 c.args.change.now c.passed_as-answer.result c.begin-begun.new.self.history c.passed_as-answer.new.self.history c.passed_as-answer.ensures.own)
    (idle_else c.begin-begun.result (planned_next Passed c.args.self.now.planned) (c.passed_as-answer.new.self.history ≡ c.begin-begun.new.self.history) c.begin-begun.ensures.outcome c.passed_as-answer.ensures.idle)

pub returns-clause-crash : goal.returns-clause-crash
returns-clause-crash c =
    crash Passed c.begin-begun.result c.args.self.now c.begin-begun.new.self c.passed_as-answer.new.self c.end.new.self c.begin-begun.ensures c.passed_as-answer.ensures.kept c.end.ensures (CommitsAlone c.args.ticket.0 c.args.change.now c.passed_as-answer.result) c.passed_as-answer.ensures.own
    (passed_grows c.args.ticket.0 c.args.change.now c.passed_as-answer.result c.begin-begun.new.self.history c.passed_as-answer.new.self.history c.passed_as-answer.ensures.own)
    (idle_else c.begin-begun.result (planned_next Passed c.args.self.now.planned) (c.passed_as-answer.new.self.history ≡ c.begin-begun.new.self.history) c.begin-begun.ensures.outcome c.passed_as-answer.ensures.idle)

pub returns-clause-cause : goal.returns-clause-cause
returns-clause-cause c = cause Passed c.begin-begun.result c.args.self.now c.begin-begun.new.self c.passed_as-answer.new.self c.end.new.self c.begin-begun.ensures c.passed_as-answer.ensures.kept c.end.ensures c.passed_as-answer.result c.passed_as-answer.ensures.cause

pub returns-clause-planned : goal.returns-clause-planned
returns-clause-planned c =
    goes Passed c.begin-begun.result c.args.self.now c.begin-begun.new.self c.passed_as-answer.new.self c.end.new.self c.begin-begun.ensures c.passed_as-answer.ensures.kept c.end.ensures (λ begun done. PassesAs (planned_next Passed c.args.self.now.planned) c.args.ticket.0 c.args.change.now begun done c.passed_as-answer.result)
    (passes_all c.begin-begun.result (planned_next Passed c.args.self.now.planned) c.args.ticket.0 c.args.change.now (bank_of c.begin-begun.new.self) (bank_of c.passed_as-answer.new.self) c.passed_as-answer.result c.begin-begun.ensures.outcome c.passed_as-answer.ensures.heeds)

pub returns-clause-moment : goal.returns-clause-moment
returns-clause-moment c =
    moment Passed c.begin-begun.result c.args.self.now c.begin-begun.new.self c.passed_as-answer.new.self c.end.new.self c.begin-begun.ensures c.passed_as-answer.ensures.kept c.end.ensures (CommitsAlone c.args.ticket.0 c.args.change.now c.passed_as-answer.result) c.passed_as-answer.ensures.own
    (passed_grows c.args.ticket.0 c.args.change.now c.passed_as-answer.result c.begin-begun.new.self.history c.passed_as-answer.new.self.history c.passed_as-answer.ensures.own)
    (idle_else c.begin-begun.result (planned_next Passed c.args.self.now.planned) (c.passed_as-answer.new.self.history ≡ c.begin-begun.new.self.history) c.begin-begun.ensures.outcome c.passed_as-answer.ensures.idle)

pub returns-clause-counted : goal.returns-clause-counted
returns-clause-counted c = counted Passed c.begin-begun.result c.args.self.now c.begin-begun.new.self c.passed_as-answer.new.self c.end.new.self c.begin-begun.ensures c.passed_as-answer.ensures.kept c.end.ensures

pub returns-clause-visits : goal.returns-clause-visits
returns-clause-visits c = visits Passed c.begin-begun.result c.args.self.now c.begin-begun.new.self c.passed_as-answer.new.self c.end.new.self c.begin-begun.ensures c.passed_as-answer.ensures.kept c.end.ensures
