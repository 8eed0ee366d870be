use Rattle.std.proofs.Common.{◌≡◌, List, ap, drop, length, subst, sym, ◌∙◌}
use Rattle.table_state.specs.declared.history.Entry.{Entry}
use Rattle.table_state.specs.Histories.{state_of}
use Rattle.change_log.specs.declared.log.RowChange.{RowChange}
use Rattle.outside.specs.Changes.{AllTouched}
use Rattle.backing_gate.proofs.TouchLaws.{logs_of, rest_of, tells}
use Rattle.backing_gate.proofs.bank.MemoryBank.changes.Goals as goal

pub returns : goal.returns
returns c =
    let history : c.as_slice-entries.result.now ≡ c.args.self.now = c.as_slice-entries.ensures ∙ c.entries.ensures ∙ c.self.view_is in
    let behind = rest_of c.as_slice-entries.result.now c.min-begin.result c.args.since.0 c.min-begin.ensures ∙ ap (λ (h : List Entry). drop c.args.since.0 h) history in
    tells c.args.self.now c.args.since c.args.trees.now c.args.wants.now c.self.inside.tables (sym (ap state_of c.self.view_is) ∙ c.self.invariant) c.in_ok-covered.covered.items c.in_ok-whole.whole c.in_ok-log.log c.in_ok-touched.touched
    (record { 0 = length c.as_slice-entries.result.now }) c.in_ok-covered.ensures
    (logs_of _ c.in_ok-covered.covered.items _ c.self.inside.tables.schema _ (drop c.args.since.0 c.args.self.now) c.in_ok-whole.whole c.in_ok-whole.ensures c.as_slice.ensures.value c.schema.ensures behind)
    c.in_ok-log.ensures
    (subst (λ (l : List RowChange). AllTouched c.self.inside.tables l c.args.wants.now c.args.trees.now c.in_ok-touched.touched) c.as_slice-2.ensures c.in_ok-touched.ensures)
    (ap length history)
