use Rattle.std.proofs.Common.{◌∙◌, subst, sym, true}
use Rattle.aging_cycles.specs.Busy.{is_busy_at}
use Rattle.aging_cycles.specs.Walking.{Passes}
use Rattle.aging_cycles.proofs.ByUseLaws.{passes_gone}
use Rattle.aging_cycles.proofs.by_use.pass.Goals as goal

pub returns : goal.returns
returns c = λ root here.
    subst (λ place. Passes (is_busy_at c.args.sessions.now c.args.store.now root) root c.args.store.now c.take_at.new.self (record { next = place; gone = true })) (sym c.without.ensures)
    (passes_gone c.args.sessions.now root c.args.store.now c.take_at.new.self c.args.at c.newer_at-next.result c.keys_law.ensures (sym (c.is_busy.ensures root here) ∙ c.if-is_busy.false) here
    (c.newer_at-next.ensures.next root here) (c.take_at.ensures.taken root here).gone)
