use Rattle.std.proofs.Common.{◌++◌, MatchResult, rules, subst, arith, ◌∙◌}
use Rattle.std.specs.List.Sorted.{IsBinarySearchResult}
use Rattle.std.specs.FinMap as fm
use Rattle.indexed_rows.specs.Places.{IsSplitAt}
use Rattle.indexed_rows.specs.Rows.{key_of}
use Rattle.slot_rows.specs.Slots.{entry_order, table_in}
use Rattle.slot_rows.proofs.NextLaws.{lead_more, start_split}
use Rattle.slot_rows.proofs.OrderLaws.{sought_split}
use Rattle.slot_rows.proofs.order.Order.first_at_least.Goals as goal

pub returns-in-Ok : goal.returns-in-Ok
returns-in-Ok c =
    let o = c.args.self.now in
    let rows = c.args.rows.now in
    let rest = key_of c.args.columns.now c.args.row.now in
    let key = c.args.values.now ++ rest in
    let lead = c.lead_of_key.result in
    let found = subst (λ ps. IsBinarySearchResult (entry_order rows ps lead key) o.entries c.search.result) c.as_slice.ensures c.search.ensures.position in
    let leads = c.lead_of_key.ensures ∙ lead_more c.args.values.now rest c.requires.some in
    let split = sought_split rows o.places o.entries c.requires.ordered key lead leads c.search.result c.search.ensures.bound found in
    let es = fm.entries (table_in rows o.places o.entries) in
    start_split rows o.places o.entries c.requires.ordered key c.in-Ok.place (subst (λ r. MatchResult r (IsSplitAt es key) (IsSplitAt es key)) c.in-Ok.is split) (omega (arith, c.in-Ok.ensures.bound))

pub returns-in-Err : goal.returns-in-Err
returns-in-Err c =
    let o = c.args.self.now in
    let rows = c.args.rows.now in
    let rest = key_of c.args.columns.now c.args.row.now in
    let key = c.args.values.now ++ rest in
    let lead = c.lead_of_key.result in
    let found = subst (λ ps. IsBinarySearchResult (entry_order rows ps lead key) o.entries c.search.result) c.as_slice.ensures c.search.ensures.position in
    let leads = c.lead_of_key.ensures ∙ lead_more c.args.values.now rest c.requires.some in
    let split = sought_split rows o.places o.entries c.requires.ordered key lead leads c.search.result c.search.ensures.bound found in
    let es = fm.entries (table_in rows o.places o.entries) in
    start_split rows o.places o.entries c.requires.ordered key c.in-Err.place (subst (λ r. MatchResult r (IsSplitAt es key) (IsSplitAt es key)) c.in-Err.is split) (search rules)
