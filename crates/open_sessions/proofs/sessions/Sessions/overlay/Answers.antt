-- What the session's operations leave; without a session nothing is over the tables.
use Rattle.std.proofs.Common.{None, Some, [], sym, ap, subst, ◌∙◌, arith}
use Rattle.session_state.specs.own_rows.specs.OwnTables.{AreShown}
use Rattle.session_state.specs.own_rows.proofs.RowsLaws.{fits, rows_none}
use Rattle.session_state.specs.table_state.specs.Operations.{applied_all}
use Rattle.session_state.specs.Kept.{IsKept, seen_of}
use Rattle.session_state.specs.Sessions.{has_id}
use Rattle.open_sessions.proofs.LookupLaws.{found_all, ops_seen}
use Rattle.open_sessions.proofs.sessions.Sessions.overlay.Goals as goal

pub bare-requires : goal.bare-requires
bare-requires g c =
    let state = g.S.Scan.state c.args.under.now in
    let none = ops_seen c.args.id c.args.self.now.open.items None c.in-None.ensures in
    fits [] [] state (rows_none state.schema) (omega arith) (subst (λ o. AreShown o state) (sym none) c.requires.shown)

pub returns-in-None : goal.returns-in-None
returns-in-None g c =
    let state = g.S.Scan.state c.args.under.now in
    let none = ops_seen c.args.id c.args.self.now.open.items None c.in-None.ensures in
    ap (λ o. applied_all o state) (sym none) ∙ ap Some (sym c.bare.ensures)

pub overlay-requires-clause-kept : goal.overlay-requires-clause-kept
overlay-requires-clause-kept g c =
    found_all (IsKept (g.S.Scan.state c.args.under.now).schema) (λ s. has_id c.args.id (seen_of s)) c.args.self.now.open.items _ c.requires.sound.kept c.in-Some.ensures

pub overlay-requires-clause-shown : goal.overlay-requires-clause-shown
overlay-requires-clause-shown g c = subst (λ o. AreShown o (g.S.Scan.state c.args.under.now)) (sym (ops_seen c.args.id c.args.self.now.open.items _ c.in-Some.ensures)) c.requires.shown

pub returns-in-Some : goal.returns-in-Some
returns-in-Some g c =
    ap (λ o. applied_all o (g.S.Scan.state c.args.under.now)) (sym (ops_seen c.args.id c.args.self.now.open.items _ c.in-Some.ensures))
    ∙ c.overlay.ensures
