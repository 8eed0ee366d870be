-- The declaration's names and the column of AGING are there, so the condition's is the first.
use Rattle.std.proofs.Common.{◌∙◌, List, ap, map, sym}
use Rattle.tier_base.specs.declared.code.Code.TheVariants as code
use Rattle.row_types.specs.declared.column.Column.{Column}
use Rattle.table_defs.specs.Declarations.{broken_at}
use Rattle.cache_tier.specs.Definitions.{aging_column, column_declared, declared_columns, is_known_column}
use Rattle.resolution.specs.declared.filter.ResolvedFilter.{ResolvedFilter}
use Rattle.resolution.specs.Placing.{filter_seen, placed_filter}
use Rattle.resolution.specs.Scopes.{columns_seen}
use Rattle.group_catalog.specs.Filtered.{refused_column}
use Rattle.group_catalog.proofs.NamingLaws.{third_fault, unbroken_if}
use Rattle.group_catalog.proofs.naming.name_table.Goals as goal

pub returns-in-Err-clause-told : goal.returns-in-Err-clause-told
returns-in-Err-clause-told c =
    let table = c.args.table.now in
    let declared : List Column = declared_columns table.it.now.table in
    let same = c.as_slice-columns.ensures.value ∙ c.in_ok-columns.ensures ∙ ap (map column_declared) c.as_slice.ensures in
    third_fault (λ (f : ResolvedFilter). filter_seen f.cond) _ _ _ _ _
    (ap (broken_at code.UnknownColumn) (sym c.wrong_name.ensures) ∙ c.in_ok-refuse_name.ensures)
    (unbroken_if code.UnknownColumn (is_known_column declared (aging_column table.it.now.aging)) (aging_column table.it.now.aging)
    (ap (λ (cols : List Column). broken_at code.UnknownColumn (refused_column cols table.it.now.aging)) (sym same)
    ∙ ap (broken_at code.UnknownColumn) (sym c.refused_column.ensures) ∙ c.in_ok-refuse_name-2.ensures))
    (ap (λ (cols : List Column). placed_filter (columns_seen table.def.now.name cols) table.it.now.filter) same)
    c.in-Err.ensures.placed
