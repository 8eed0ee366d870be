use Rattle.std.proofs.Common.{T, sym, subst, ap, ◌∙◌}
use Rattle.std.specs.FinMap as fm
use Rattle.table_state.specs.row_types.specs.Order.{key_order}
use Rattle.pending_writes.specs.Noting.{IsIdleAt, StaysSince}
use Rattle.pending_writes.proofs.NoteLaws.{idle_gone, idle_key, idle_within}
use Rattle.pending_writes.proofs.MapLaws.{inside, removed, sorted_without}
use Rattle.pending_writes.proofs.writers.Writers.sweep.Goals as goal

pub remove-requires : goal.remove-requires
remove-requires c = inside c.self.inside.entries c.args.self.now c.self.invariant c.self.view_is _ (idle_within c.args.first.0 c.args.self.now _ c.if-is_idle.ensures)

pub invariant_of-self : goal.invariant_of-self
invariant_of-self c =
    subst (λ es. T (fm.is_sorted key_order es)) (sym c.remove.ensures.new) (sorted_without c.self.inside.entries c.args.self.now c.self.invariant c.self.view_is c.if-self-len.place)

pub returns-then-is_idle : goal.returns-then-is_idle
returns-then-is_idle c =
    let idle : IsIdleAt c.args.first.0 (fm.entries c.args.self.now) c.if-self-len.place = c.if-is_idle.ensures in
    let is = ap fm.from_sorted c.remove.ensures.new ∙ removed c.self.inside.entries c.args.self.now c.self.invariant c.self.view_is idle.0.0 c.if-self-len.place (idle_key c.args.first.0 c.args.self.now c.if-self-len.place idle) in
    subst (StaysSince c.args.first.0 c.args.self.now) (sym is) (idle_gone c.args.first.0 c.args.self.now c.if-self-len.place idle)
