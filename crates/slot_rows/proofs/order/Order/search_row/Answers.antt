use Rattle.std.proofs.Common.{ap, subst, ◌∙◌}
use Rattle.std.specs.List.Sorted.{IsBinarySearchResult}
use Rattle.indexed_rows.specs.row_types.specs.Order.{key_order}
use Rattle.slot_rows.specs.Leads.{lead_first, lead_of}
use Rattle.indexed_rows.specs.Rows.{key_of}
use Rattle.slot_rows.specs.Slots.{row_in}
use Rattle.slot_rows.proofs.OrderLaws.{sought_gap, sought_key}
use Rattle.slot_rows.proofs.order.Order.search_row.Goals as goal

pub returns-clause-found : goal.returns-clause-found
returns-clause-found c =
    sought_key c.args.rows.now c.args.self.now.places c.args.self.now.entries c.requires (key_of c.args.self.now.places c.args.row.now) c.lead_of_row.result (c.lead_of_row.ensures ∙ ap (λ ps. lead_of (key_of ps c.args.row.now)) c.as_slice-places.ensures) c.search.result c.search.ensures.bound
    (subst (λ ps. IsBinarySearchResult (λ e. lead_first e.lead c.lead_of_row.result (key_order (key_of ps (row_in c.args.rows.now e.slot)) (key_of ps c.args.row.now))) c.args.self.now.entries c.search.result) c.as_slice-places.ensures c.search.ensures.position)

pub returns-clause-absent : goal.returns-clause-absent
returns-clause-absent c =
    sought_gap c.args.rows.now c.args.self.now.places c.args.self.now.entries c.requires (key_of c.args.self.now.places c.args.row.now) c.lead_of_row.result (c.lead_of_row.ensures ∙ ap (λ ps. lead_of (key_of ps c.args.row.now)) c.as_slice-places.ensures) c.search.result c.search.ensures.bound
    (subst (λ ps. IsBinarySearchResult (λ e. lead_first e.lead c.lead_of_row.result (key_order (key_of ps (row_in c.args.rows.now e.slot)) (key_of ps c.args.row.now))) c.args.self.now.entries c.search.result) c.as_slice-places.ensures c.search.ensures.position)
