use Rattle.std.proofs.Common.{subst}
use Rattle.std.specs.List.Sorted.{IsBinarySearchResult}
use Rattle.indexed_rows.specs.row_types.specs.Order.{key_order}
use Rattle.slot_rows.specs.Leads.{lead_first}
use Rattle.indexed_rows.specs.Rows.{key_of}
use Rattle.slot_rows.specs.Slots.{row_in}
use Rattle.slot_rows.proofs.OrderLaws.{sought_gap, sought_key}
use Rattle.slot_rows.proofs.order.Order.search.Goals as goal

pub returns-clause-found : goal.returns-clause-found
returns-clause-found c =
    sought_key c.args.rows.now c.args.self.now.places c.args.self.now.entries c.requires c.args.key.now c.lead_of_key.result c.lead_of_key.ensures c.search.result c.search.ensures.bound
    (subst (λ ps. IsBinarySearchResult (λ e. lead_first e.lead c.lead_of_key.result (key_order (key_of ps (row_in c.args.rows.now e.slot)) (c.args.key.now))) c.args.self.now.entries c.search.result) c.as_slice.ensures c.search.ensures.position)

pub returns-clause-absent : goal.returns-clause-absent
returns-clause-absent c =
    sought_gap c.args.rows.now c.args.self.now.places c.args.self.now.entries c.requires c.args.key.now c.lead_of_key.result c.lead_of_key.ensures c.search.result c.search.ensures.bound
    (subst (λ ps. IsBinarySearchResult (λ e. lead_first e.lead c.lead_of_key.result (key_order (key_of ps (row_in c.args.rows.now e.slot)) (c.args.key.now))) c.args.self.now.entries c.search.result) c.as_slice.ensures c.search.ensures.position)
