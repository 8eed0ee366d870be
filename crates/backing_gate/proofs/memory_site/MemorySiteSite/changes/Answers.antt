use Rattle.std.proofs.Common.{◌≡◌}
use Rattle.outside.specs.Changes.{TakesChanges}
use Rattle.backing_gate.specs.declared.plan.CallKind.TheVariants.{Changes}
use Rattle.backing_gate.specs.Heeding.{Heeds, bank_of}
use Rattle.backing_gate.specs.Plans.{planned_next}
use Rattle.backing_gate.proofs.CallLaws.{cause, counted, crash, goes, heeds_all, idle_all, moment, told, visits}
use Rattle.backing_gate.proofs.GrowthLaws.{changes_grows}
use Rattle.backing_gate.proofs.memory_site.MemorySiteSite.changes.Goals as goal

pub returns-clause-told : goal.returns-clause-told
returns-clause-told c =
    told Changes c.begin-begun.result c.args.self.now c.begin-begun.new.self c.changes_as-answer.new.self c.end.new.self c.begin-begun.ensures c.changes_as-answer.ensures.kept c.end.ensures (TakesChanges c.args.since c.args.trees.now c.args.wants.now c.changes_as-answer.result) c.changes_as-answer.ensures.own
    (changes_grows c.args.since c.args.trees.now c.args.wants.now c.changes_as-answer.result c.begin-begun.new.self.history c.changes_as-answer.new.self.history c.changes_as-answer.ensures.own)
    (idle_all c.begin-begun.result (planned_next Changes c.args.self.now.planned) (bank_of c.begin-begun.new.self) (bank_of c.changes_as-answer.new.self) c.changes_as-answer.result (c.changes_as-answer.new.self.history ≡ c.begin-begun.new.self.history) c.begin-begun.ensures.outcome c.changes_as-answer.ensures.heeds)

pub returns-clause-crash : goal.returns-clause-crash
returns-clause-crash c =
    crash Changes c.begin-begun.result c.args.self.now c.begin-begun.new.self c.changes_as-answer.new.self c.end.new.self c.begin-begun.ensures c.changes_as-answer.ensures.kept c.end.ensures (TakesChanges c.args.since c.args.trees.now c.args.wants.now c.changes_as-answer.result) c.changes_as-answer.ensures.own
    (changes_grows c.args.since c.args.trees.now c.args.wants.now c.changes_as-answer.result c.begin-begun.new.self.history c.changes_as-answer.new.self.history c.changes_as-answer.ensures.own)
    (idle_all c.begin-begun.result (planned_next Changes c.args.self.now.planned) (bank_of c.begin-begun.new.self) (bank_of c.changes_as-answer.new.self) c.changes_as-answer.result (c.changes_as-answer.new.self.history ≡ c.begin-begun.new.self.history) c.begin-begun.ensures.outcome c.changes_as-answer.ensures.heeds)

pub returns-clause-cause : goal.returns-clause-cause
returns-clause-cause c = cause Changes c.begin-begun.result c.args.self.now c.begin-begun.new.self c.changes_as-answer.new.self c.end.new.self c.begin-begun.ensures c.changes_as-answer.ensures.kept c.end.ensures c.changes_as-answer.result c.changes_as-answer.ensures.cause

pub returns-clause-planned : goal.returns-clause-planned
returns-clause-planned c =
    goes Changes c.begin-begun.result c.args.self.now c.begin-begun.new.self c.changes_as-answer.new.self c.end.new.self c.begin-begun.ensures c.changes_as-answer.ensures.kept c.end.ensures (λ begun done. Heeds (planned_next Changes c.args.self.now.planned) begun done c.changes_as-answer.result (done.history ≡ begun.history))
    (heeds_all c.begin-begun.result (planned_next Changes c.args.self.now.planned) (bank_of c.begin-begun.new.self) (bank_of c.changes_as-answer.new.self) c.changes_as-answer.result (c.changes_as-answer.new.self.history ≡ c.begin-begun.new.self.history) c.begin-begun.ensures.outcome c.changes_as-answer.ensures.heeds)

pub returns-clause-moment : goal.returns-clause-moment
returns-clause-moment c =
    moment Changes c.begin-begun.result c.args.self.now c.begin-begun.new.self c.changes_as-answer.new.self c.end.new.self c.begin-begun.ensures c.changes_as-answer.ensures.kept c.end.ensures (TakesChanges c.args.since c.args.trees.now c.args.wants.now c.changes_as-answer.result) c.changes_as-answer.ensures.own
    (changes_grows c.args.since c.args.trees.now c.args.wants.now c.changes_as-answer.result c.begin-begun.new.self.history c.changes_as-answer.new.self.history c.changes_as-answer.ensures.own)
    (idle_all c.begin-begun.result (planned_next Changes c.args.self.now.planned) (bank_of c.begin-begun.new.self) (bank_of c.changes_as-answer.new.self) c.changes_as-answer.result (c.changes_as-answer.new.self.history ≡ c.begin-begun.new.self.history) c.begin-begun.ensures.outcome c.changes_as-answer.ensures.heeds)

pub returns-clause-counted : goal.returns-clause-counted
returns-clause-counted c = counted Changes c.begin-begun.result c.args.self.now c.begin-begun.new.self c.changes_as-answer.new.self c.end.new.self c.begin-begun.ensures c.changes_as-answer.ensures.kept c.end.ensures

pub returns-clause-visits : goal.returns-clause-visits
returns-clause-visits c = visits Changes c.begin-begun.result c.args.self.now c.begin-begun.new.self c.changes_as-answer.new.self c.end.new.self c.begin-begun.ensures c.changes_as-answer.ensures.kept c.end.ensures
