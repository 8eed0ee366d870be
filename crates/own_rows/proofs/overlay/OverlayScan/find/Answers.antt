-- Own rows where the session has some, else those of the table.
use Rattle.std.proofs.Common.{sym, ap, ◌∙◌}
use Rattle.std.specs.FinMap.{get}
use Rattle.own_rows.proofs.OverlayLaws.{other_table, own_table}
use Rattle.own_rows.proofs.overlay.OverlayScan.find.Goals as goal

pub returns-in-None : goal.returns-in-None
returns-in-None g c = c.find.ensures ∙ ap (λ m. get m c.args.key.now) (sym (other_table c.args.self.now.own.now (g.S.Scan.state c.args.self.now.under.now) c.args.table c.in-None.ensures))

pub returns-in-Some : goal.returns-in-Some
returns-in-Some g c = c.find_in.ensures ∙ ap (λ m. get m c.args.key.now) (sym (own_table _ _ _ c.args.self.now.fits _ c.in-Some.ensures))
