-- What is left takes back the rest.
use Rattle.std.proofs.Common.{◌≡◌, vec_len}
use Rattle.table_state.specs.Changes.{AllHaveRoom, all_taken_back}
use Rattle.table_state.proofs.tables.Tables.take_all_back.Given as goal

abbrev pub invariant-loop-undo : goal.invariant-loop-undo
invariant-loop-undo l = record {
  back : all_taken_back l.undos.items l.self ≡ all_taken_back l.fn.log l.fn.self;
  room : AllHaveRoom l.undos.items l.self;
}

abbrev pub decreases-loop-undo : goal.decreases-loop-undo
decreases-loop-undo l = vec_len l.undos
