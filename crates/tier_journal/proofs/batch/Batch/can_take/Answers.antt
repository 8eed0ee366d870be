use Rattle.std.proofs.Common.{List, ◌<◌, ◌≤◌, ◌^◌, length, rules, subst, arith}
use Rattle.std.specs.List.{AllByRecursion}
use Rattle.table_state.specs.declared.operation.Op.{Op}
use Rattle.tier_journal.specs.Writing.{CanBeWritten}
use Rattle.tier_journal.proofs.TestLaws.{commit_follows, prepare_follows}
use Rattle.tier_journal.proofs.batch.Batch.can_take.Goals as goal

pub returns-clause-commit : goal.returns-clause-commit
returns-clause-commit c = λ yes.
    let last : c.args.self.now.standing.last < c.args.sealed.now.ticket.0 = search rules in
    let small : c.args.sealed.now.ticket.0 < 2 ^ 63 = search rules in
    let some : 1 ≤ length c.args.sealed.now.ops = grind arith in
    let count : length c.args.sealed.now.ops ≤ 10000 = search rules in
    commit_follows c.args.schema.now c.args.self.now c.args.sealed.now last small some count
    (subst (λ (l : List Op). AllByRecursion (CanBeWritten c.args.schema.now) l) c.as_slice.ensures (c.are_ops.ensures yes))

pub returns-clause-prepare : goal.returns-clause-prepare
returns-clause-prepare c = λ yes.
    let last : c.args.self.now.standing.last < c.args.sealed.now.ticket.0 = search rules in
    let small : c.args.sealed.now.ticket.0 < 2 ^ 63 = search rules in
    let some : 1 ≤ length c.args.sealed.now.ops = grind arith in
    let count : length c.args.sealed.now.ops ≤ 10000 = search rules in
    prepare_follows c.args.schema.now c.args.self.now c.args.sealed.now last small some count
    (subst (λ (l : List Op). AllByRecursion (CanBeWritten c.args.schema.now) l) c.as_slice.ensures (c.are_ops.ensures yes))
