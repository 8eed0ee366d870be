-- Own rows where the session has some, else those of the table.
use Rattle.std.proofs.Common.{drop, sym, ap, ◌∙◌}
use Rattle.std.specs.List.{slice_get}
use Rattle.std.specs.FinMap.{values}
use Rattle.table_state.specs.indexed_rows.specs.Rows.{first_from}
use Rattle.table_state.specs.Children.{refers_to}
use Rattle.own_rows.proofs.OverlayLaws.{child_is, is_defined, other_table}
use Rattle.own_rows.proofs.overlay.OverlayScan.child.Goals as goal

pub returns-in-None : goal.returns-in-None
returns-in-None g c = c.child.ensures ∙ ap (λ m. first_from (refers_to c.args.key.now (slice_get (g.S.Scan.state c.args.self.now.under.now).schema c.args.table.0)) c.args.from (drop c.args.from (values m))) (sym (other_table c.args.self.now.own.now (g.S.Scan.state c.args.self.now.under.now) c.args.table c.in-None.ensures))

pub returns-in-None-get : goal.returns-in-None-get
returns-in-None-get g c = absurd (is_defined _ _ _ c.args.self.now.fits _ _ c.in-Some.ensures c.schema.ensures c.in-None-get.ensures)

pub returns-in-Some-get : goal.returns-in-Some-get
returns-in-Some-get g c = child_is _ _ _ c.args.self.now.fits _ _ _ _ _ _ c.in-Some.ensures c.schema.ensures c.in-Some-get.ensures c.child_in.ensures
