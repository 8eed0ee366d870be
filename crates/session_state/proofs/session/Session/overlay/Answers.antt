-- What the own rows leave is what the operations leave.
use Rattle.std.proofs.Common.{Some, sym, ap, ◌∙◌}
use Rattle.own_rows.proofs.RowsLaws.{fits, sees}
use Rattle.session_state.proofs.session.Session.overlay.Goals as goal

pub over-requires : goal.over-requires
over-requires g c = fits c.args.self.now.ops.items c.args.self.now.own (g.S.Scan.state c.args.under.now) c.requires.kept.rows c.requires.kept.own_within c.requires.shown

pub returns : goal.returns
returns g c =
    sees c.args.self.now.ops.items c.args.self.now.own (g.S.Scan.state c.args.under.now) c.requires.kept.rows c.requires.kept.own_within c.requires.shown
    ∙ ap Some (sym c.over.ensures)
