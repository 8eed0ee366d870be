use Rattle.std.proofs.Common.{None, ap, ◌∙◌}
use Rattle.session_state.specs.table_state.specs.Footprints.{footprint_of, is_among}
use Rattle.session_state.specs.Kept.{IsKept, seen_of}
use Rattle.session_state.specs.Sessions.{has_id}
use Rattle.open_sessions.proofs.LookupLaws.{found_all, ops_seen}
use Rattle.open_sessions.proofs.sessions.Sessions.writes.Goals as goal

pub returns-in-None : goal.returns-in-None
returns-in-None c = λ schema sound.
    ap (λ o. is_among (footprint_of schema o).written (record { table = c.args.table; key = c.args.key.now }))
    (ops_seen c.args.id c.args.self.now.open.items None c.in-None.ensures)

pub returns-in-Some : goal.returns-in-Some
returns-in-Some c = λ schema sound.
    c.writes.ensures schema (found_all (IsKept schema) (λ s. has_id c.args.id (seen_of s)) c.args.self.now.open.items _ sound.kept c.in-Some.ensures)
    ∙ ap (λ o. is_among (footprint_of schema o).written (record { table = c.args.table; key = c.args.key.now }))
    (ops_seen c.args.id c.args.self.now.open.items _ c.in-Some.ensures)
