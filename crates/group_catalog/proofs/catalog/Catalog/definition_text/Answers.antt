use Rattle.std.proofs.Common.{ap}
use Rattle.group_catalog.proofs.TextLaws.{catalog_same}
use Rattle.group_catalog.proofs.catalog.Catalog.definition_text.Goals as goal

pub returns-clause-same : goal.returns-clause-same
returns-clause-same c =
    let g = c.index_mut-group.result.now in
    catalog_same c.args.self.now c.args.place g _ (ap (λ d. record g { def = record g.def { declared = d } }) c.print_definition.ensures.same) c.index_mut-group.ensures.value
