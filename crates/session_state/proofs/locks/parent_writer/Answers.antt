-- Who wrote the key that the row names.
use Rattle.std.proofs.Common.{map, sym, ap, ◌∙◌}
use Rattle.std.specs.Option.{option_copied}
use Rattle.own_rows.specs.indexed_rows.specs.Rows.{key_of}
use Rattle.own_rows.specs.table_state.specs.Footprints.{parent_key, referred_key}
use Rattle.session_state.specs.Kept.{seen_of}
use Rattle.session_state.specs.Locks.{first_some, writer}
use Rattle.session_state.proofs.LockLaws.{or_none}
use Rattle.session_state.proofs.locks.parent_writer.Goals as goal

pub returns-in-Some-foreign_key : goal.returns-in-Some-foreign_key
returns-in-Some-foreign_key c = λ schema kept.
    c.writer.ensures schema kept ∙ ap (λ p. writer c.args.but schema (map seen_of c.args.sessions.now) (record { table = c.in-Some-foreign_key.foreign.parent; key = key_of p c.args.row.now })) c.as_slice.ensures
    ∙ sym (or_none (writer c.args.but schema (map seen_of c.args.sessions.now) (record { table = c.in-Some-foreign_key.foreign.parent; key = key_of c.in-Some-foreign_key.foreign.columns c.args.row.now })))
    ∙ ap (λ f. first_some (writer c.args.but schema (map seen_of c.args.sessions.now)) (parent_key f c.args.row.now)) (sym c.in-Some-foreign_key.is)
    ∙ ap (λ o. first_some (writer c.args.but schema (map seen_of c.args.sessions.now)) (referred_key (option_copied o) c.args.row.now)) (sym c.in-Some.is)
