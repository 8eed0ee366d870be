use Rattle.std.proofs.Common.{◌∙◌, ap, sym}
use Rattle.std.specs.List.{list_any}
use Rattle.cache_tier.specs.ConsoleSteps.{names_of}
use Rattle.cache_tier.specs.Definitions.{names_in}
use Rattle.cache_engine.specs.Growing.{misses}
use Rattle.cache_engine.proofs.AskingLaws.{any_flat, any_map}
use Rattle.cache_engine.proofs.schema.misses_in_statement.Goals as goal

pub returns-in-Select : goal.returns-in-Select
returns-in-Select c =
    let test = misses c.args.tier.now in
    c.misses_from.ensures
    ∙ ap (list_any (λ f. test f.table)) c.as_slice.ensures
    ∙ sym (any_map test (λ f. f.table) c.in-Select.query.tables)
    ∙ ap (λ s. list_any test (names_of s)) (sym c.in-Select.is)

pub returns-in-CreateGroup : goal.returns-in-CreateGroup
returns-in-CreateGroup c =
    let test = misses c.args.tier.now in
    c.misses_grouped.ensures
    ∙ ap (list_any (λ g. list_any test (names_in g.table))) c.as_slice-in-CreateGroup.ensures
    ∙ sym (any_flat test (λ g. names_in g.table) c.in-CreateGroup.declared.tables)
    ∙ ap (λ s. list_any test (names_of s)) (sym c.in-CreateGroup.is)
