use Rattle.std.proofs.Common.{◌≡◌, [], ◌∷◌, ◌++◌}
use Rattle.table_state.specs.Histories.{entry_of}
use Rattle.outside.specs.Bank.{AppliesOnce, CanFollow}
use Rattle.backing_gate.specs.declared.plan.CallKind.TheVariants.{ApplyOnce}
use Rattle.backing_gate.specs.Heeding.{Heeds, bank_of}
use Rattle.backing_gate.specs.Plans.{planned_next}
use Rattle.backing_gate.proofs.CallLaws.{cause, counted, crash, goes, heeds_all, idle_all, moment, told, visits}
use Rattle.backing_gate.proofs.GrowthLaws.{apply_grows, apply_waits}
use Rattle.backing_gate.proofs.memory_site.MemorySiteSite.apply_once.Goals as goal

pub returns-clause-told : goal.returns-clause-told
returns-clause-told c =
    told ApplyOnce c.begin-begun.result c.args.self.now c.begin-begun.new.self c.apply_once_as-answer.new.self c.end.new.self c.begin-begun.ensures c.apply_once_as-answer.ensures.kept c.end.ensures (AppliesOnce c.args.sealed.now c.args.after.now c.apply_once_as-answer.result) c.apply_once_as-answer.ensures.own
    (apply_grows c.args.sealed.now c.args.after.now c.apply_once_as-answer.result c.begin-begun.new.self.history c.apply_once_as-answer.new.self.history c.apply_once_as-answer.ensures.own)
    (idle_all c.begin-begun.result (planned_next ApplyOnce c.args.self.now.planned) (bank_of c.begin-begun.new.self) (bank_of c.apply_once_as-answer.new.self) c.apply_once_as-answer.result (CanFollow c.args.sealed.now c.args.after.now c.begin-begun.new.self.history → c.apply_once_as-answer.new.self.history ≡ c.begin-begun.new.self.history ++ entry_of c.args.sealed.now ∷ []) c.begin-begun.ensures.outcome c.apply_once_as-answer.ensures.heeds)

pub returns-clause-crash : goal.returns-clause-crash
returns-clause-crash c =
    crash ApplyOnce c.begin-begun.result c.args.self.now c.begin-begun.new.self c.apply_once_as-answer.new.self c.end.new.self c.begin-begun.ensures c.apply_once_as-answer.ensures.kept c.end.ensures (AppliesOnce c.args.sealed.now c.args.after.now c.apply_once_as-answer.result) c.apply_once_as-answer.ensures.own
    (apply_grows c.args.sealed.now c.args.after.now c.apply_once_as-answer.result c.begin-begun.new.self.history c.apply_once_as-answer.new.self.history c.apply_once_as-answer.ensures.own)
    (idle_all c.begin-begun.result (planned_next ApplyOnce c.args.self.now.planned) (bank_of c.begin-begun.new.self) (bank_of c.apply_once_as-answer.new.self) c.apply_once_as-answer.result (CanFollow c.args.sealed.now c.args.after.now c.begin-begun.new.self.history → c.apply_once_as-answer.new.self.history ≡ c.begin-begun.new.self.history ++ entry_of c.args.sealed.now ∷ []) c.begin-begun.ensures.outcome c.apply_once_as-answer.ensures.heeds)

pub returns-clause-cause : goal.returns-clause-cause
returns-clause-cause c = cause ApplyOnce c.begin-begun.result c.args.self.now c.begin-begun.new.self c.apply_once_as-answer.new.self c.end.new.self c.begin-begun.ensures c.apply_once_as-answer.ensures.kept c.end.ensures c.apply_once_as-answer.result c.apply_once_as-answer.ensures.cause

pub returns-clause-planned : goal.returns-clause-planned
returns-clause-planned c =
    goes ApplyOnce c.begin-begun.result c.args.self.now c.begin-begun.new.self c.apply_once_as-answer.new.self c.end.new.self c.begin-begun.ensures c.apply_once_as-answer.ensures.kept c.end.ensures (λ begun done. Heeds (planned_next ApplyOnce c.args.self.now.planned) begun done c.apply_once_as-answer.result (CanFollow c.args.sealed.now c.args.after.now begun.history → done.history ≡ begun.history ++ entry_of c.args.sealed.now ∷ []))
    (heeds_all c.begin-begun.result (planned_next ApplyOnce c.args.self.now.planned) (bank_of c.begin-begun.new.self) (bank_of c.apply_once_as-answer.new.self) c.apply_once_as-answer.result (CanFollow c.args.sealed.now c.args.after.now c.begin-begun.new.self.history → c.apply_once_as-answer.new.self.history ≡ c.begin-begun.new.self.history ++ entry_of c.args.sealed.now ∷ []) c.begin-begun.ensures.outcome c.apply_once_as-answer.ensures.heeds)

pub returns-clause-moment : goal.returns-clause-moment
returns-clause-moment c =
    moment ApplyOnce c.begin-begun.result c.args.self.now c.begin-begun.new.self c.apply_once_as-answer.new.self c.end.new.self c.begin-begun.ensures c.apply_once_as-answer.ensures.kept c.end.ensures (AppliesOnce c.args.sealed.now c.args.after.now c.apply_once_as-answer.result) c.apply_once_as-answer.ensures.own
    (apply_grows c.args.sealed.now c.args.after.now c.apply_once_as-answer.result c.begin-begun.new.self.history c.apply_once_as-answer.new.self.history c.apply_once_as-answer.ensures.own)
    (idle_all c.begin-begun.result (planned_next ApplyOnce c.args.self.now.planned) (bank_of c.begin-begun.new.self) (bank_of c.apply_once_as-answer.new.self) c.apply_once_as-answer.result (CanFollow c.args.sealed.now c.args.after.now c.begin-begun.new.self.history → c.apply_once_as-answer.new.self.history ≡ c.begin-begun.new.self.history ++ entry_of c.args.sealed.now ∷ []) c.begin-begun.ensures.outcome c.apply_once_as-answer.ensures.heeds)

pub returns-clause-counted : goal.returns-clause-counted
returns-clause-counted c = counted ApplyOnce c.begin-begun.result c.args.self.now c.begin-begun.new.self c.apply_once_as-answer.new.self c.end.new.self c.begin-begun.ensures c.apply_once_as-answer.ensures.kept c.end.ensures

pub returns-clause-visits : goal.returns-clause-visits
returns-clause-visits c = visits ApplyOnce c.begin-begun.result c.args.self.now c.begin-begun.new.self c.apply_once_as-answer.new.self c.end.new.self c.begin-begun.ensures c.apply_once_as-answer.ensures.kept c.end.ensures

pub returns-clause-waits : goal.returns-clause-waits
returns-clause-waits c =
    apply_waits c.args.sealed.now c.args.after.now c.apply_once_as-answer.result c.begin-begun.new.self.history c.apply_once_as-answer.new.self.history c.apply_once_as-answer.ensures.own
