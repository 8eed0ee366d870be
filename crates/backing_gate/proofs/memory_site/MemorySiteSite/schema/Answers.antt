use Rattle.std.proofs.Common.{◌≡◌}
use Rattle.outside.specs.Bank.{TellsSchema}
use Rattle.backing_gate.specs.declared.plan.CallKind.TheVariants.{Schema}
use Rattle.backing_gate.specs.Heeding.{Heeds, bank_of}
use Rattle.backing_gate.specs.Plans.{planned_next}
use Rattle.backing_gate.proofs.CallLaws.{cause, counted, crash, goes, heeds_all, idle_all, moment, told, visits}
use Rattle.backing_gate.proofs.GrowthLaws.{schema_grows}
use Rattle.backing_gate.proofs.memory_site.MemorySiteSite.schema.Goals as goal

pub returns-clause-told : goal.returns-clause-told
returns-clause-told c =
    told Schema c.begin-begun.result c.args.self.now c.begin-begun.new.self c.schema_as-answer.new.self c.end.new.self c.begin-begun.ensures c.schema_as-answer.ensures.kept c.end.ensures (TellsSchema c.schema_as-answer.result) c.schema_as-answer.ensures.own
    (schema_grows c.schema_as-answer.result c.begin-begun.new.self.history c.schema_as-answer.new.self.history c.schema_as-answer.ensures.own)
    (idle_all c.begin-begun.result (planned_next Schema c.args.self.now.planned) (bank_of c.begin-begun.new.self) (bank_of c.schema_as-answer.new.self) c.schema_as-answer.result (c.schema_as-answer.new.self.history ≡ c.begin-begun.new.self.history) c.begin-begun.ensures.outcome c.schema_as-answer.ensures.heeds)

pub returns-clause-crash : goal.returns-clause-crash
returns-clause-crash c =
    crash Schema c.begin-begun.result c.args.self.now c.begin-begun.new.self c.schema_as-answer.new.self c.end.new.self c.begin-begun.ensures c.schema_as-answer.ensures.kept c.end.ensures (TellsSchema c.schema_as-answer.result) c.schema_as-answer.ensures.own
    (schema_grows c.schema_as-answer.result c.begin-begun.new.self.history c.schema_as-answer.new.self.history c.schema_as-answer.ensures.own)
    (idle_all c.begin-begun.result (planned_next Schema c.args.self.now.planned) (bank_of c.begin-begun.new.self) (bank_of c.schema_as-answer.new.self) c.schema_as-answer.result (c.schema_as-answer.new.self.history ≡ c.begin-begun.new.self.history) c.begin-begun.ensures.outcome c.schema_as-answer.ensures.heeds)

pub returns-clause-cause : goal.returns-clause-cause
returns-clause-cause c = cause Schema c.begin-begun.result c.args.self.now c.begin-begun.new.self c.schema_as-answer.new.self c.end.new.self c.begin-begun.ensures c.schema_as-answer.ensures.kept c.end.ensures c.schema_as-answer.result c.schema_as-answer.ensures.cause

pub returns-clause-planned : goal.returns-clause-planned
returns-clause-planned c =
    goes Schema c.begin-begun.result c.args.self.now c.begin-begun.new.self c.schema_as-answer.new.self c.end.new.self c.begin-begun.ensures c.schema_as-answer.ensures.kept c.end.ensures (λ begun done. Heeds (planned_next Schema c.args.self.now.planned) begun done c.schema_as-answer.result (done.history ≡ begun.history))
    (heeds_all c.begin-begun.result (planned_next Schema c.args.self.now.planned) (bank_of c.begin-begun.new.self) (bank_of c.schema_as-answer.new.self) c.schema_as-answer.result (c.schema_as-answer.new.self.history ≡ c.begin-begun.new.self.history) c.begin-begun.ensures.outcome c.schema_as-answer.ensures.heeds)

pub returns-clause-moment : goal.returns-clause-moment
returns-clause-moment c =
    moment Schema c.begin-begun.result c.args.self.now c.begin-begun.new.self c.schema_as-answer.new.self c.end.new.self c.begin-begun.ensures c.schema_as-answer.ensures.kept c.end.ensures (TellsSchema c.schema_as-answer.result) c.schema_as-answer.ensures.own
    (schema_grows c.schema_as-answer.result c.begin-begun.new.self.history c.schema_as-answer.new.self.history c.schema_as-answer.ensures.own)
    (idle_all c.begin-begun.result (planned_next Schema c.args.self.now.planned) (bank_of c.begin-begun.new.self) (bank_of c.schema_as-answer.new.self) c.schema_as-answer.result (c.schema_as-answer.new.self.history ≡ c.begin-begun.new.self.history) c.begin-begun.ensures.outcome c.schema_as-answer.ensures.heeds)

pub returns-clause-counted : goal.returns-clause-counted
returns-clause-counted c = counted Schema c.begin-begun.result c.args.self.now c.begin-begun.new.self c.schema_as-answer.new.self c.end.new.self c.begin-begun.ensures c.schema_as-answer.ensures.kept c.end.ensures

pub returns-clause-visits : goal.returns-clause-visits
returns-clause-visits c = visits Schema c.begin-begun.result c.args.self.now c.begin-begun.new.self c.schema_as-answer.new.self c.end.new.self c.begin-begun.ensures c.schema_as-answer.ensures.kept c.end.ensures
