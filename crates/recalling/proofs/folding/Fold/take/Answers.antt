-- What was taken apart is the entry.
use Rattle.std.proofs.Common.{◌≡◌, ◌∙◌, IfOk, ap, subst, sym, true}
use Rattle.cache_tier.specs.Journals.{Defines}
use Rattle.tier_journal.specs.Opening.{meaning}
use Rattle.recalling.specs.Steps.{IsTaken}
use Rattle.recalling.proofs.folding.Fold.take.Goals as goal

pub returns-in-Ok-into_definition-clause-taken : goal.returns-in-Ok-into_definition-clause-taken
returns-in-Ok-into_definition-clause-taken c =
    let d = c.in-Ok-into_definition in
    let is : meaning c.args.entry ≡ Defines d.declared d.field-0-1 = ap meaning (sym c.in-Err.ensures.same ∙ d.ensures.definition) in
    subst (λ m. IfOk c.take_definition.result (λ fit. fit ≡ true → IsTaken c.args.schema.now c.args.now.0 m c.args.self.now c.take_definition.new.self)) (sym is)
    (c.take_definition.ensures.taken d.field-0-1)

pub returns-clause-taken : goal.returns-clause-taken
returns-clause-taken c = λ fit.
    subst (λ r. IsTaken c.args.schema.now c.args.now.0 (meaning r) c.args.self.now c.take_other.new.self)
    (c.in-Err-into_definition.ensures.same ∙ c.in-Err.ensures.same) (c.take_other.ensures.taken c.args.now.0 fit)
