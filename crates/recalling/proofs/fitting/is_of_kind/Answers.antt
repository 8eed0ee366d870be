-- No table is in two groups, so it isn't of both kinds.
use Rattle.std.proofs.Common.{◌≡◌, ◌∙◌, true, false, not, ◌&&◌, ap, sym}
use Rattle.cache_tier.specs.Groups.{is_synchronous, is_table_of, is_writethrough}
use Rattle.group_catalog.specs.Catalogs.{groups_in}
use Rattle.recalling.specs.Steps.{is_of_kind}
use Rattle.recalling.proofs.FittingLaws.{one_kind}
use Rattle.recalling.proofs.fitting.is_of_kind.Goals as goal

pub returns-then-is_written_through : goal.returns-then-is_written_through
returns-then-is_written_through c =
    let groups = groups_in c.args.catalog.now in
    let through : is_table_of is_writethrough groups c.args.table ≡ true = sym c.is_written_through.ensures ∙ c.if-is_written_through.true in
    ap not c.is_synchronous-then-is_written_through.ensures
    ∙ sym (ap (λ b. b && not (is_table_of is_synchronous groups c.args.table)) through) ∙ one_kind groups c.args.table c.requires
    ∙ ap (λ b. is_table_of (is_of_kind b) groups c.args.table) (sym c.if-synchronous.false)

pub returns-else-is_written_through : goal.returns-else-is_written_through
returns-else-is_written_through c =
    let groups = groups_in c.args.catalog.now in
    let not_through : is_table_of is_writethrough groups c.args.table ≡ false = sym c.is_written_through.ensures ∙ c.if-is_written_through.false in
    c.if-is_written_through.false
    ∙ sym (ap (λ b. b && not (is_table_of is_synchronous groups c.args.table)) not_through) ∙ one_kind groups c.args.table c.requires
    ∙ ap (λ b. is_table_of (is_of_kind b) groups c.args.table) (sym c.if-synchronous.false)
