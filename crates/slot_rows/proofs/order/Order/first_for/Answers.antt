use Rattle.std.proofs.Common.{◌≡◌, ◌<◌, ◌++◌, MatchResult, length, rules, subst, sym, arith, ◌∙◌}
use Rattle.std.proofs.lemmas.List.{length-map}
use Rattle.std.specs.List.Sorted.{IsBinarySearchResult}
use Rattle.std.specs.FinMap as fm
use Rattle.indexed_rows.specs.Places.{IsSplitAt}
use Rattle.indexed_rows.specs.Rows.{key_of}
use Rattle.slot_rows.specs.Slots.{entry_order, table_in}
use Rattle.slot_rows.proofs.NextLaws.{lead_more, start_split}
use Rattle.slot_rows.proofs.OrderLaws.{sought_split}
use Rattle.slot_rows.proofs.order.Order.first_for.Goals as goal

pub returns-in-Ok : goal.returns-in-Ok
returns-in-Ok c =
    let o = c.args.self.now in
    let rows = c.args.rows.now in
    let values = key_of c.args.columns.now c.args.parent.now in
    let rest = key_of c.args.rest.now c.args.row.now in
    let key = values ++ rest in
    let long : length values ≡ length c.args.columns.now = length-map c.args.columns.now _ in
    let lead = c.lead_of_row.result in
    let found = subst (λ ps. IsBinarySearchResult (entry_order rows ps lead key) o.entries c.search.result) c.as_slice.ensures c.search.ensures.position in
    let leads = c.lead_of_row.ensures ∙ lead_more values rest (subst (λ n. 0 < n) (sym long) c.requires.some) in
    let split = sought_split rows o.places o.entries c.requires.ordered key lead leads c.search.result c.search.ensures.bound found in
    let es = fm.entries (table_in rows o.places o.entries) in
    start_split rows o.places o.entries c.requires.ordered key c.in-Ok.place (subst (λ r. MatchResult r (IsSplitAt es key) (IsSplitAt es key)) c.in-Ok.is split) (omega (arith, c.in-Ok.ensures.bound))

pub returns-in-Err : goal.returns-in-Err
returns-in-Err c =
    let o = c.args.self.now in
    let rows = c.args.rows.now in
    let values = key_of c.args.columns.now c.args.parent.now in
    let rest = key_of c.args.rest.now c.args.row.now in
    let key = values ++ rest in
    let long : length values ≡ length c.args.columns.now = length-map c.args.columns.now _ in
    let lead = c.lead_of_row.result in
    let found = subst (λ ps. IsBinarySearchResult (entry_order rows ps lead key) o.entries c.search.result) c.as_slice.ensures c.search.ensures.position in
    let leads = c.lead_of_row.ensures ∙ lead_more values rest (subst (λ n. 0 < n) (sym long) c.requires.some) in
    let split = sought_split rows o.places o.entries c.requires.ordered key lead leads c.search.result c.search.ensures.bound found in
    let es = fm.entries (table_in rows o.places o.entries) in
    start_split rows o.places o.entries c.requires.ordered key c.in-Err.place (subst (λ r. MatchResult r (IsSplitAt es key) (IsSplitAt es key)) c.in-Err.is split) (search rules)
