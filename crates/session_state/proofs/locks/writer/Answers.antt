-- Found among what is stored.
use Rattle.std.proofs.Common.{◌∙◌}
use Rattle.own_rows.specs.indexed_rows.specs.Rows.{key_of}
use Rattle.session_state.proofs.LockLaws.{writer_is}
use Rattle.session_state.proofs.locks.writer.Goals as goal

pub returns : goal.returns
returns c = λ schema kept. c.number_of.ensures ∙ writer_is schema c.args.but (record { table = c.args.table; key = key_of c.args.places.now c.args.row.now }) c.args.sessions.now kept _ c.first_writer.ensures
