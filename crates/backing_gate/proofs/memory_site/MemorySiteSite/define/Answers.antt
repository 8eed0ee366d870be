use Rattle.std.proofs.Common.{◌≡◌, [], ◌∷◌, ◌++◌}
use Rattle.table_state.specs.declared.history.Entry.TheVariants.{Definition}
use Rattle.outside.specs.Bank.{Defines}
use Rattle.backing_gate.specs.declared.plan.CallKind.TheVariants.{Define}
use Rattle.backing_gate.specs.Heeding.{Heeds, bank_of}
use Rattle.backing_gate.specs.Plans.{planned_next}
use Rattle.backing_gate.proofs.CallLaws.{cause, counted, crash, goes, heeds_all, idle_all, moment, told, visits}
use Rattle.backing_gate.proofs.GrowthLaws.{define_grows}
use Rattle.backing_gate.proofs.memory_site.MemorySiteSite.define.Goals as goal

pub returns-clause-told : goal.returns-clause-told
returns-clause-told c =
    told Define c.begin-begun.result c.args.self.now c.begin-begun.new.self c.define_as-answer.new.self c.end.new.self c.begin-begun.ensures c.define_as-answer.ensures.kept c.end.ensures (Defines c.args.def.now c.define_as-answer.result) c.define_as-answer.ensures.own
    (define_grows c.args.def.now c.define_as-answer.result c.begin-begun.new.self.history c.define_as-answer.new.self.history c.define_as-answer.ensures.own)
    (idle_all c.begin-begun.result (planned_next Define c.args.self.now.planned) (bank_of c.begin-begun.new.self) (bank_of c.define_as-answer.new.self) c.define_as-answer.result (c.define_as-answer.new.self.history ≡ c.begin-begun.new.self.history ++ Definition c.args.def.now ∷ []) c.begin-begun.ensures.outcome c.define_as-answer.ensures.heeds)

pub returns-clause-crash : goal.returns-clause-crash
returns-clause-crash c =
    crash Define c.begin-begun.result c.args.self.now c.begin-begun.new.self c.define_as-answer.new.self c.end.new.self c.begin-begun.ensures c.define_as-answer.ensures.kept c.end.ensures (Defines c.args.def.now c.define_as-answer.result) c.define_as-answer.ensures.own
    (define_grows c.args.def.now c.define_as-answer.result c.begin-begun.new.self.history c.define_as-answer.new.self.history c.define_as-answer.ensures.own)
    (idle_all c.begin-begun.result (planned_next Define c.args.self.now.planned) (bank_of c.begin-begun.new.self) (bank_of c.define_as-answer.new.self) c.define_as-answer.result (c.define_as-answer.new.self.history ≡ c.begin-begun.new.self.history ++ Definition c.args.def.now ∷ []) c.begin-begun.ensures.outcome c.define_as-answer.ensures.heeds)

pub returns-clause-cause : goal.returns-clause-cause
returns-clause-cause c = cause Define c.begin-begun.result c.args.self.now c.begin-begun.new.self c.define_as-answer.new.self c.end.new.self c.begin-begun.ensures c.define_as-answer.ensures.kept c.end.ensures c.define_as-answer.result c.define_as-answer.ensures.cause

pub returns-clause-planned : goal.returns-clause-planned
returns-clause-planned c =
    goes Define c.begin-begun.result c.args.self.now c.begin-begun.new.self c.define_as-answer.new.self c.end.new.self c.begin-begun.ensures c.define_as-answer.ensures.kept c.end.ensures (λ begun done. Heeds (planned_next Define c.args.self.now.planned) begun done c.define_as-answer.result (done.history ≡ begun.history ++ Definition c.args.def.now ∷ []))
    (heeds_all c.begin-begun.result (planned_next Define c.args.self.now.planned) (bank_of c.begin-begun.new.self) (bank_of c.define_as-answer.new.self) c.define_as-answer.result (c.define_as-answer.new.self.history ≡ c.begin-begun.new.self.history ++ Definition c.args.def.now ∷ []) c.begin-begun.ensures.outcome c.define_as-answer.ensures.heeds)

pub returns-clause-moment : goal.returns-clause-moment
returns-clause-moment c =
    moment Define c.begin-begun.result c.args.self.now c.begin-begun.new.self c.define_as-answer.new.self c.end.new.self c.begin-begun.ensures c.define_as-answer.ensures.kept c.end.ensures (Defines c.args.def.now c.define_as-answer.result) c.define_as-answer.ensures.own
    (define_grows c.args.def.now c.define_as-answer.result c.begin-begun.new.self.history c.define_as-answer.new.self.history c.define_as-answer.ensures.own)
    (idle_all c.begin-begun.result (planned_next Define c.args.self.now.planned) (bank_of c.begin-begun.new.self) (bank_of c.define_as-answer.new.self) c.define_as-answer.result (c.define_as-answer.new.self.history ≡ c.begin-begun.new.self.history ++ Definition c.args.def.now ∷ []) c.begin-begun.ensures.outcome c.define_as-answer.ensures.heeds)

pub returns-clause-counted : goal.returns-clause-counted
returns-clause-counted c = counted Define c.begin-begun.result c.args.self.now c.begin-begun.new.self c.define_as-answer.new.self c.end.new.self c.begin-begun.ensures c.define_as-answer.ensures.kept c.end.ensures

pub returns-clause-visits : goal.returns-clause-visits
returns-clause-visits c = visits Define c.begin-begun.result c.args.self.now c.begin-begun.new.self c.define_as-answer.new.self c.end.new.self c.begin-begun.ensures c.define_as-answer.ensures.kept c.end.ensures
