-- The tables of the operations are there.
use Rattle.std.proofs.Common.{◌<◌, length, sym, subst}
use Rattle.std.specs.List.{All}
use Rattle.own_rows.specs.table_state.specs.Operations.{table_of}
use Rattle.session_state.proofs.KeptLaws.{tables_in}
use Rattle.session_state.proofs.session.make_ready.Goals as goal

pub steps_of-requires : goal.steps_of-requires
steps_of-requires c = subst (All (λ op. (table_of op).0 < length c.args.schema.now)) (sym c.as_slice-2.ensures) (tables_in c.args.schema.now c.args.ops.now c.requires)
