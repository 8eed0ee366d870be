use Rattle.std.proofs.Common.{◌≡◌, ◌+◌, Option, Result, Ok, Err, IfOk, drop, slice_get, unwrap_or, rules}
use Rattle.std.specs.FinMap as fm
use Rattle.std.specs.Option.{option_or}
use Rattle.evaluator.specs.row_types.specs.declared.rule.Detail.{Detail}
use Rattle.evaluator.specs.table_state.specs.Refusals.{child_of, first_child}
use Rattle.transactions.proofs.ChildLaws.{child_here}
use Rattle.transactions.proofs.children.child_at.Goals as goal

if_ok : {E : Type 0} (r : Result (Option Detail) E) (P Q : Option Detail → Type 0) → ((o : Option Detail) → P o → Q o) → IfOk r P → IfOk r Q
if_ok (Ok o) P Q f h = f o h
if_ok (Err e) P Q f h = h

pub returns-in-Some : goal.returns-in-Some
returns-in-Some g c =
    let s = g.S.Scan.state c.args.scan.now in
    if_ok c.child_of.result (λ o. o ≡ child_of c.args.table c.args.key.now c.in-Some.def.now (unwrap_or (slice_get s.tables c.args.place) fm.empty))
    (λ o. first_child c.args.table c.args.key.now (drop c.args.place s.schema) (drop c.args.place s.tables) ≡ option_or o (first_child c.args.table c.args.key.now (drop (c.args.place + 1) s.schema) (drop (c.args.place + 1) s.tables)))
    (λ o is. child_here c.args.table c.args.key.now s c.requires.whole c.args.place c.in-Some.def.now (search rules) o is) c.child_of.ensures
