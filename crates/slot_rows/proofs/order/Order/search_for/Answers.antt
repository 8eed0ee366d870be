use Rattle.std.proofs.Common.{◌≡◌, ◌<◌, rules, length, take, Some, None, ap, sym, subst, ◌∙◌}
use Rattle.std.proofs.lemmas.List.{length-map}
use Rattle.std.specs.List.Sorted.{IsBinarySearchResult}
use Rattle.indexed_rows.specs.row_types.specs.Order.{key_order}
use Rattle.indexed_rows.specs.Rows.{key_of}
use Rattle.slot_rows.specs.Leads.{lead_first}
use Rattle.slot_rows.specs.Orders.{IsSlotWith}
use Rattle.slot_rows.specs.Slots.{row_in, slots_of}
use Rattle.slot_rows.proofs.FrontLaws.{front_absent, front_found}
use Rattle.slot_rows.proofs.order.Order.search_for.Goals as goal

pub returns-in-Ok : goal.returns-in-Ok
returns-in-Ok c =
    let o = c.args.self.now in
    let key = key_of c.args.columns.now c.args.row.now in
    let long : length key ≡ length c.args.columns.now = length-map c.args.columns.now _ in
    let columns = c.split_at.ensures.front ∙ ap (take (length c.args.columns.now)) c.as_slice.ensures ∙ ap (λ n. take n o.places) (sym long) in
    let found = subst (λ ps. IsBinarySearchResult (λ e. lead_first e.lead c.lead_of_row.result (key_order (key_of ps (row_in c.args.rows.now e.slot)) key)) o.entries c.search.result) columns c.search.ensures.position in
    subst (λ n. IsSlotWith c.args.rows.now (slots_of o.entries) (take n o.places) key (Some c.slot_at.result)) long (
      c.in-Ok.at,
      c.slot_at.ensures,
      front_found c.args.rows.now o.places o.entries c.requires.ordered key (subst (λ n. 0 < n) (sym long) c.requires.some) c.lead_of_row.result c.lead_of_row.ensures c.in-Ok.at c.slot_at.result c.in-Ok.ensures.bound c.slot_at.ensures
          (subst (IsBinarySearchResult (λ e. lead_first e.lead c.lead_of_row.result (key_order (key_of (take (length key) o.places) (row_in c.args.rows.now e.slot)) key)) o.entries) c.in-Ok.is found),
    )

pub returns-in-Err : goal.returns-in-Err
returns-in-Err c =
    let o = c.args.self.now in
    let key = key_of c.args.columns.now c.args.row.now in
    let long : length key ≡ length c.args.columns.now = length-map c.args.columns.now _ in
    let columns = c.split_at.ensures.front ∙ ap (take (length c.args.columns.now)) c.as_slice.ensures ∙ ap (λ n. take n o.places) (sym long) in
    let found = subst (λ ps. IsBinarySearchResult (λ e. lead_first e.lead c.lead_of_row.result (key_order (key_of ps (row_in c.args.rows.now e.slot)) key)) o.entries c.search.result) columns c.search.ensures.position in
    subst (λ n. IsSlotWith c.args.rows.now (slots_of o.entries) (take n o.places) key None) long (
    front_absent c.args.rows.now o.places o.entries c.requires.ordered key (subst (λ n. 0 < n) (sym long) c.requires.some) c.lead_of_row.result c.lead_of_row.ensures c.in-Err.field-0 (search rules)
    (subst (IsBinarySearchResult (λ e. lead_first e.lead c.lead_of_row.result (key_order (key_of (take (length key) o.places) (row_in c.args.rows.now e.slot)) key)) o.entries) c.in-Err.is found)
    )
