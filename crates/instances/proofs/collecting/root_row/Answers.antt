use Rattle.std.proofs.Common.{◌≡◌}
use Rattle.std.specs.FinMap.{empty}
use Rattle.table_state.specs.indexed_rows.specs.Rows.{Table}
use Rattle.instances.specs.Collecting.{added}
use Rattle.instances.specs.Views.{only, root_rows}
use Rattle.instances.proofs.OnlyLaws.{if_ok, only_none, only_one}
use Rattle.instances.proofs.collecting.root_row.Goals as goal

pub returns-in-None : goal.returns-in-None
returns-in-None c = only_none c.args.key.now (root_rows c.args.tables.now c.args.root.now) c.new.result c.new.ensures c.in-None.ensures

pub returns-in-Some : goal.returns-in-Some
returns-in-Some c =
    if_ok (λ (rows : Table). rows ≡ added empty c.args.key.now c.in-Some.row.now) (λ (rows : Table). rows ≡ only c.args.key.now (root_rows c.args.tables.now c.args.root.now))
    (λ rows is. only_one c.args.key.now (root_rows c.args.tables.now c.args.root.now) rows c.in-Some.row.now is c.in-Some.ensures) c.one_row.result c.one_row.ensures
