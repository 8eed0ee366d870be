use Rattle.std.proofs.Common.{◌≡◌, Ok}
use Rattle.outside.specs.Console.{WritesForeign}
use Rattle.outside.specs.declared.site.Done.{Done}
use Rattle.backing_gate.specs.declared.plan.CallKind.TheVariants.{Foreign}
use Rattle.backing_gate.specs.Heeding.{Heeds, NoneDiffers, bank_of}
use Rattle.backing_gate.specs.Plans.{planned_next}
use Rattle.backing_gate.proofs.CallLaws.{cause, counted, crash, goes, heeds_all, idle_else, moment, told, visits}
use Rattle.backing_gate.proofs.GrowthLaws.{foreign_grows}
use Rattle.backing_gate.proofs.memory_site.MemorySiteSite.foreign.Goals as goal

pub returns-clause-told : goal.returns-clause-told
returns-clause-told c =
    told Foreign c.begin-begun.result c.args.self.now c.begin-begun.new.self c.foreign_as-answer.new.self c.end.new.self c.begin-begun.ensures c.foreign_as-answer.ensures.kept c.end.ensures (WritesForeign c.args.changes.now c.foreign_as-answer.result) c.foreign_as-answer.ensures.own
    (foreign_grows c.args.changes.now c.foreign_as-answer.result c.begin-begun.new.self.history c.foreign_as-answer.new.self.history c.foreign_as-answer.ensures.own)
    (idle_else c.begin-begun.result (planned_next Foreign c.args.self.now.planned) (c.foreign_as-answer.new.self.history ≡ c.begin-begun.new.self.history) c.begin-begun.ensures.outcome c.foreign_as-answer.ensures.idle)

pub returns-clause-crash : goal.returns-clause-crash
returns-clause-crash c =
    crash Foreign c.begin-begun.result c.args.self.now c.begin-begun.new.self c.foreign_as-answer.new.self c.end.new.self c.begin-begun.ensures c.foreign_as-answer.ensures.kept c.end.ensures (WritesForeign c.args.changes.now c.foreign_as-answer.result) c.foreign_as-answer.ensures.own
    (foreign_grows c.args.changes.now c.foreign_as-answer.result c.begin-begun.new.self.history c.foreign_as-answer.new.self.history c.foreign_as-answer.ensures.own)
    (idle_else c.begin-begun.result (planned_next Foreign c.args.self.now.planned) (c.foreign_as-answer.new.self.history ≡ c.begin-begun.new.self.history) c.begin-begun.ensures.outcome c.foreign_as-answer.ensures.idle)

pub returns-clause-cause : goal.returns-clause-cause
returns-clause-cause c = cause Foreign c.begin-begun.result c.args.self.now c.begin-begun.new.self c.foreign_as-answer.new.self c.end.new.self c.begin-begun.ensures c.foreign_as-answer.ensures.kept c.end.ensures c.foreign_as-answer.result c.foreign_as-answer.ensures.cause

pub returns-clause-planned : goal.returns-clause-planned
returns-clause-planned c =
    goes Foreign c.begin-begun.result c.args.self.now c.begin-begun.new.self c.foreign_as-answer.new.self c.end.new.self c.begin-begun.ensures c.foreign_as-answer.ensures.kept c.end.ensures (λ begun done. NoneDiffers c.args.changes.now begun.history → Heeds (planned_next Foreign c.args.self.now.planned) begun done c.foreign_as-answer.result ((told : Done) × WritesForeign c.args.changes.now (Ok told) begun.history done.history))
    (λ none. heeds_all c.begin-begun.result (planned_next Foreign c.args.self.now.planned) (bank_of c.begin-begun.new.self) (bank_of c.foreign_as-answer.new.self) c.foreign_as-answer.result ((told : Done) × WritesForeign c.args.changes.now (Ok told) c.begin-begun.new.self.history c.foreign_as-answer.new.self.history) c.begin-begun.ensures.outcome (c.foreign_as-answer.ensures.heeds none))

pub returns-clause-moment : goal.returns-clause-moment
returns-clause-moment c =
    moment Foreign c.begin-begun.result c.args.self.now c.begin-begun.new.self c.foreign_as-answer.new.self c.end.new.self c.begin-begun.ensures c.foreign_as-answer.ensures.kept c.end.ensures (WritesForeign c.args.changes.now c.foreign_as-answer.result) c.foreign_as-answer.ensures.own
    (foreign_grows c.args.changes.now c.foreign_as-answer.result c.begin-begun.new.self.history c.foreign_as-answer.new.self.history c.foreign_as-answer.ensures.own)
    (idle_else c.begin-begun.result (planned_next Foreign c.args.self.now.planned) (c.foreign_as-answer.new.self.history ≡ c.begin-begun.new.self.history) c.begin-begun.ensures.outcome c.foreign_as-answer.ensures.idle)

pub returns-clause-counted : goal.returns-clause-counted
returns-clause-counted c = counted Foreign c.begin-begun.result c.args.self.now c.begin-begun.new.self c.foreign_as-answer.new.self c.end.new.self c.begin-begun.ensures c.foreign_as-answer.ensures.kept c.end.ensures

pub returns-clause-visits : goal.returns-clause-visits
returns-clause-visits c = visits Foreign c.begin-begun.result c.args.self.now c.begin-begun.new.self c.foreign_as-answer.new.self c.end.new.self c.begin-begun.ensures c.foreign_as-answer.ensures.kept c.end.ensures
