use Rattle.std.proofs.Common.{◌≡◌, Some, Result, Ok, Err, subst}
use Rattle.std.specs.Option.{option_map}
use Rattle.std.specs.Result.{IfOk}
use Rattle.table_state.specs.Refusals.{broken_by}
use Rattle.table_state.specs.Tables.{TableState}
use Rattle.table_state.proofs.HistoryLaws.{one_op_more}
use Rattle.backing_gate.specs.declared.difference.Difference.{Difference}
use Rattle.outside.specs.Differences.{difference_of, first_difference}
use Rattle.backing_gate.proofs.DifferenceLaws.{difference_here}
use Rattle.backing_gate.proofs.difference.difference_in.Goals as goal

pub loop-op-preserved : goal.loop-op-preserved
loop-op-preserved c = record {
  done = one_op_more c.args.ops.now c.loop-op.op-index c.op-item.result c.args.tables.now c.loop-op.tables c.apply_one.new.self c.loop-op-test.true c.op-item.is c.loop-op.invariant.done c.in-Ok.ensures.ok;
  back = λ s leads. c.apply_one.ensures.back s (c.loop-op.invariant.back s leads);
}

if_ok : {E T : Type 0} (P Q : T → Type 0) (r : Result T E) → IfOk r P → ((x : T) → P x → Q x) → IfOk r Q
if_ok P Q (Ok x) p f = f x p
if_ok P Q (Err e) p f = tt

pub returns-in-Err-clause-found : goal.returns-in-Err-clause-found
returns-in-Err-clause-found c =
    let told : TableState → Difference → Type 0 = λ s d. option_map (difference_of c.op-item.result s) (broken_by c.op-item.result s) ≡ Some (d.table, d.key, d.row) in
    let First : Difference → Type 0 = λ d. first_difference c.args.ops.now c.args.tables.now ≡ Some (d.table, d.key, d.row) in
    if_ok (told c.apply_one.new.self) First c.difference_of.result c.difference_of.ensures (λ d p.
    difference_here c.args.ops.now c.loop-op.op-index c.op-item.result c.args.tables.now c.loop-op.tables c.loop-op-test.true c.op-item.is c.loop-op.invariant.done (d.table, d.key, d.row) (subst (λ (s : TableState). told s d) c.in-Err.ensures.unchanged p))
