-- Own rows where the session has some, else those of the table.
use Rattle.std.proofs.Common.{sym, ap, ◌∙◌}
use Rattle.std.specs.List.{slice_get}
use Rattle.std.specs.FinMap.{values}
use Rattle.own_rows.proofs.OverlayLaws.{is_defined, other_table, own_table}
use Rattle.own_rows.proofs.overlay.OverlayScan.row.Goals as goal

pub returns-in-None : goal.returns-in-None
returns-in-None g c = c.row.ensures ∙ ap (λ m. slice_get (values m) c.args.place) (sym (other_table c.args.self.now.own.now (g.S.Scan.state c.args.self.now.under.now) c.args.table c.in-None.ensures))

pub returns-in-None-get : goal.returns-in-None-get
returns-in-None-get g c = absurd (is_defined _ _ _ c.args.self.now.fits _ _ c.in-Some.ensures c.schema.ensures c.in-None-get.ensures)

pub returns-in-Some-get : goal.returns-in-Some-get
returns-in-Some-get g c = c.row_in.ensures ∙ ap (λ m. slice_get (values m) c.args.place) (sym (own_table _ _ _ c.args.self.now.fits _ c.in-Some.ensures))
