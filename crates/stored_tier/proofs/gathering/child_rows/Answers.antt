use Rattle.std.proofs.Common.{◌≡◌, option_copied, rules, slice_get}
use Rattle.std.proofs.lemmas.Grind.{common_steps}
use Rattle.std.proofs.Common.{arith}
use Rattle.table_state.specs.Tables.{table_at}
use Rattle.instances.specs.Views.{kept_at}
use Rattle.instances.proofs.ChildLaws.{kept_child}
use Rattle.stored_tier.proofs.gathering.child_rows.Goals as goal

pub returns : goal.returns
returns c =
    let above : c.kept_at-parents.result.now ≡ kept_at c.args.kept.now c.args.child.now.parent = first_of (search rules, cc, grind (arith, common_steps)) in
    let there : c.or_none-rows.result.now ≡ table_at c.args.tables.now c.args.child.now.table = first_of (search rules, cc, grind (arith, common_steps)) in
    let defined : option_copied c.get-def.result ≡ slice_get c.args.tables.now.schema c.args.child.now.table.0 = first_of (search rules, cc, grind (arith, common_steps)) in
    kept_child c.args.tables.now c.args.child.now c.args.kept.now c.kept_at-parents.result.now c.or_none-rows.result.now (option_copied c.get-def.result) c.referring_rows.result above there defined c.referring_rows.ensures
