use Rattle.std.proofs.Common.{◌≡◌, Some, Ok, List, ◌∷◌, [], ◌++◌, subst, ap, ◌∙◌, rules}
use Rattle.table_state.specs.declared.history.Entry.{Entry}
use Rattle.table_state.specs.Histories.{entry_of}
use Rattle.outside.specs.Bank.{AppliesOnce, CanFollow}
use Rattle.backing_gate.specs.declared.plan.Outcome.TheVariants as outcome
use Rattle.backing_gate.specs.declared.plan.When.TheVariants as when
use Rattle.backing_gate.specs.Heeding.{bank_of}
use Rattle.backing_gate.specs.Memory.{MemoryState}
use Rattle.backing_gate.specs.Plans.{one_more}
use Rattle.backing_gate.proofs.PlanLaws.{comes, fails_after}
use Rattle.backing_gate.proofs.memory_site.MemorySite.apply_once_as.Goals as goal

pub returns-in-Ok-clause-heeds : goal.returns-in-Ok-clause-heeds
returns-in-Ok-clause-heeds c =
    let history : c.self.inside.bank ≡ c.args.self.now.history = ap (λ (m : MemoryState). m.history) c.self.view_is in
    let planned : c.args.outcome ≡ Some (outcome.Failed when.After) = search rules in
    fails_after c.args.outcome (bank_of c.args.self.now) (bank_of c.count_failure-in-Ok.new.self) (CanFollow c.args.sealed.now c.args.after.now c.args.self.now.history → c.count_failure-in-Ok.new.self.history ≡ c.args.self.now.history ++ entry_of c.args.sealed.now ∷ [])
    planned
    (λ can. ap (λ (m : MemoryState). m.history) c.count_failure-in-Ok.ensures.counted ∙ comes c.args.sealed.now c.args.after.now c.args.self.now.history c.apply_once.new.self c.in-Ok.field-0
    (subst (λ (h : List Entry). AppliesOnce c.args.sealed.now c.args.after.now (Ok c.in-Ok.field-0) h c.apply_once.new.self) history c.in-Ok.ensures.ok) can)
    (ap (λ (m : MemoryState). m.bank_faults) c.count_failure-in-Ok.ensures.counted ∙ ap (λ (m : MemoryState). one_more m.bank_faults) c.self.view_is)
