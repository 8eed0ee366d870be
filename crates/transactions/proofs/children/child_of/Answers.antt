use Rattle.std.proofs.Common.{◌≡◌, true, false, rules}
use Rattle.evaluator.specs.table_state.specs.Independence.{refers_to}
use Rattle.evaluator.specs.table_state.specs.Tables.{table_at}
use Rattle.evaluator.proofs.WriteLaws.{keyed_at}
use Rattle.transactions.proofs.ChildLaws.{no_child, no_reference, the_child}
use Rattle.transactions.proofs.children.child_of.Goals as goal

pub returns-then-not-refers : goal.returns-then-not-refers
returns-then-not-refers g c =
    let off : refers_to c.args.table c.args.def.now.foreign_key ≡ false = search rules in
    no_reference c.args.table c.args.key.now c.args.def.now (table_at (g.S.Scan.state c.args.scan.now) c.args.child) off

pub returns-in-None : goal.returns-in-None
returns-in-None g c =
    let on : refers_to c.args.table c.args.def.now.foreign_key ≡ true = search rules in
    no_child (g.S.Scan.state c.args.scan.now) c.args.table c.args.child c.args.key.now c.args.def.now c.requires.defined on (search rules)

pub returns-in_ok-name-in-Some-row : goal.returns-in_ok-name-in-Some-row
returns-in_ok-name-in-Some-row g c =
    let s = g.S.Scan.state c.args.scan.now in
    let on : refers_to c.args.table c.args.def.now.foreign_key ≡ true = search rules in
    let e = the_child s c.args.table c.args.child c.args.key.now c.args.def.now c.requires.defined on c.in-Some.place (search rules) (keyed_at s c.args.child c.args.def.now c.requires.keyed c.requires.defined) c.in-Some-row.row.now c.in-Some-row.ensures in
    search (rules, e)
