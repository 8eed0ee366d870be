use Rattle.std.proofs.Common.{rules, length, take, ap, subst, ◌∙◌}
use Rattle.std.specs.List.Sorted.{IsBinarySearchResult}
use Rattle.indexed_rows.specs.row_types.specs.Order.{key_order}
use Rattle.indexed_rows.specs.Rows.{key_of}
use Rattle.slot_rows.specs.Leads.{lead_first}
use Rattle.slot_rows.specs.Slots.{row_in}
use Rattle.slot_rows.proofs.FrontLaws.{front_absent, front_found}
use Rattle.slot_rows.proofs.order.Order.search_front.Goals as goal

pub returns-in-Ok : goal.returns-in-Ok
returns-in-Ok c =
    let o = c.args.self.now in
    let columns = c.split_at.ensures.front ∙ ap (take (length c.args.values.now)) c.as_slice.ensures in
    let found = subst (λ ps. IsBinarySearchResult (λ e. lead_first e.lead c.lead_of_key.result (key_order (key_of ps (row_in c.args.rows.now e.slot)) c.args.values.now)) o.entries c.search.result) columns c.search.ensures.position in (
      c.in-Ok.place,
      c.slot_at.ensures,
      front_found c.args.rows.now o.places o.entries c.requires.ordered c.args.values.now c.requires.some c.lead_of_key.result c.lead_of_key.ensures c.in-Ok.place c.slot_at.result c.in-Ok.ensures.bound c.slot_at.ensures
          (subst (IsBinarySearchResult (λ e. lead_first e.lead c.lead_of_key.result (key_order (key_of (take (length c.args.values.now) o.places) (row_in c.args.rows.now e.slot)) c.args.values.now)) o.entries) c.in-Ok.is found),
    )

pub returns-in-Err : goal.returns-in-Err
returns-in-Err c =
    let o = c.args.self.now in
    let columns = c.split_at.ensures.front ∙ ap (take (length c.args.values.now)) c.as_slice.ensures in
    let found = subst (λ ps. IsBinarySearchResult (λ e. lead_first e.lead c.lead_of_key.result (key_order (key_of ps (row_in c.args.rows.now e.slot)) c.args.values.now)) o.entries c.search.result) columns c.search.ensures.position in
    front_absent c.args.rows.now o.places o.entries c.requires.ordered c.args.values.now c.requires.some c.lead_of_key.result c.lead_of_key.ensures c.in-Err.field-0 (search rules)
    (subst (IsBinarySearchResult (λ e. lead_first e.lead c.lead_of_key.result (key_order (key_of (take (length c.args.values.now) o.places) (row_in c.args.rows.now e.slot)) c.args.values.now)) o.entries) c.in-Err.is found)
