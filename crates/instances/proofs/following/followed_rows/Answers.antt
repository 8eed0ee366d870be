use Rattle.std.proofs.Common.{◌≡◌, ◌∙◌, ap, arith, rules}
use Rattle.std.proofs.lemmas.Grind.{common_steps}
use Rattle.table_state.specs.indexed_rows.specs.Rows.{Table}
use Rattle.table_state.specs.Tables.{table_at}
use Rattle.instances.specs.Views.{child_rows, kept_at}
use Rattle.instances.proofs.OnlyLaws.{if_ok}
use Rattle.instances.proofs.following.followed_rows.Goals as goal

pub rows_under-requires : goal.rows_under-requires
rows_under-requires c = first_of (search rules, cc, grind (arith, common_steps))

pub returns : goal.returns
returns c =
    let above : c.kept_at-parents.result.now ≡ kept_at c.args.kept.now c.args.child.now.parent = first_of (search rules, cc, grind (arith, common_steps)) in
    if_ok (λ (out : Table). out ≡ child_rows c.args.tables.now c.kept_at-parents.result.now c.args.child.now) (λ (out : Table). out ≡ child_rows c.args.tables.now (kept_at c.args.kept.now c.args.child.now.parent) c.args.child.now)
    (λ out is. is ∙ ap (λ (t : Table). child_rows c.args.tables.now t c.args.child.now) above) c.rows_under.result c.rows_under.ensures
