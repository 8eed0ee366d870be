use Rattle.std.proofs.Common.{◌∙◌, ap, sym}
use Rattle.std.specs.List.{list_any}
use Rattle.resolution.specs.Writes.{table_of}
use Rattle.sql_subset.specs.declared.request.Line.TheVariants as says
use Rattle.cache_tier.specs.ConsoleSteps.{names_of_line}
use Rattle.cache_engine.specs.Growing.{misses}
use Rattle.cache_engine.proofs.AskingLaws.{any_map}
use Rattle.cache_engine.proofs.schema.misses_in_console.Goals as goal

pub returns-in-Writes : goal.returns-in-Writes
returns-in-Writes c =
    let test = misses c.args.tier.now in
    c.misses_written.ensures
    ∙ ap (list_any (λ w. test (table_of w))) c.as_slice.ensures
    ∙ sym (any_map test table_of c.in-Writes.writes)
    ∙ ap (λ r. list_any test (names_of_line (says.Console r))) (sym c.in-Writes.is)
