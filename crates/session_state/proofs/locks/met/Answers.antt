-- Who wrote the key comes before who holds it.
use Rattle.std.proofs.Common.{None, map, sym, ap, ◌∙◌}
use Rattle.std.specs.Option.{option_copied, option_or}
use Rattle.own_rows.specs.indexed_rows.specs.Rows.{key_of}
use Rattle.own_rows.specs.table_state.specs.Footprints.{written_key}
use Rattle.session_state.specs.Kept.{seen_of}
use Rattle.session_state.specs.Locks.{first_some, keeper, met, writer}
use Rattle.session_state.proofs.LockLaws.{or_none}
use Rattle.session_state.proofs.locks.met.Goals as goal

pub returns-in-Some-writer : goal.returns-in-Some-writer
returns-in-Some-writer c = λ schema kept.
    ap (λ w. option_or (option_or w (keeper c.args.but schema (map seen_of c.args.sessions.now) (record { table = c.args.table; key = key_of c.in-Some.def.now.primary_key c.args.row.now }))) None)
    (c.in-Some-writer.ensures schema kept ∙ ap (λ p. writer c.args.but schema (map seen_of c.args.sessions.now) (record { table = c.args.table; key = key_of p c.args.row.now })) c.as_slice-places.ensures)
    ∙ ap (λ o. first_some (met c.args.but schema (map seen_of c.args.sessions.now)) (written_key c.args.table (option_copied o) c.args.row.now)) (sym c.in-Some.is)

pub returns-in-None-writer : goal.returns-in-None-writer
returns-in-None-writer c = λ schema kept.
    c.keeper.ensures schema kept ∙ ap (λ p. keeper c.args.but schema (map seen_of c.args.sessions.now) (record { table = c.args.table; key = key_of p c.args.row.now })) c.as_slice-places.ensures
    ∙ sym (or_none (keeper c.args.but schema (map seen_of c.args.sessions.now) (record { table = c.args.table; key = key_of c.in-Some.def.now.primary_key c.args.row.now })))
    ∙ ap (λ w. option_or (option_or w (keeper c.args.but schema (map seen_of c.args.sessions.now) (record { table = c.args.table; key = key_of c.in-Some.def.now.primary_key c.args.row.now }))) None)
    (c.in-None-writer.ensures schema kept ∙ ap (λ p. writer c.args.but schema (map seen_of c.args.sessions.now) (record { table = c.args.table; key = key_of p c.args.row.now })) c.as_slice-places.ensures)
    ∙ ap (λ o. first_some (met c.args.but schema (map seen_of c.args.sessions.now)) (written_key c.args.table (option_copied o) c.args.row.now)) (sym c.in-Some.is)
