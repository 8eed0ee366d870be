use Rattle.std.proofs.Common.{◌≡◌, ◌<◌, [], None, length, map, take, get_or, ap, sym, subst, ◌∙◌}
use Rattle.std.proofs.lemmas.List.{length-map}
use Rattle.std.specs.Option.{option_copied}
use Rattle.slot_rows.specs.Orders.{IsOther, IsRowWith, first_columns}
use Rattle.slot_rows.specs.Slots.{table_in}
use Rattle.slot_rows.proofs.FrontLaws.{columns_at, each_at, no_row_with, row_with}
use Rattle.slot_rows.proofs.rows.SlotRows.find.Goals as goal

pub returns-in-Some : goal.returns-in-Some
returns-in-Some c =
    let l = c.self.inside in
    let o = l.by_key in
    let within : c.args.order < length l.others.items = subst (λ n. c.args.order < n) (ap (λ h. length h.orders) (sym c.self.view_is) ∙ length-map l.others.items (λ x. x.places)) c.requires.there in
    let is = subst (IsOther l.rows o.places o.entries (length o.room.items)) (sym c.index.ensures) (each_at (IsOther l.rows o.places o.entries (length o.room.items)) l.others.items c.self.invariant.2 c.args.order c.index.result.now within) in
    let columns : get_or (map (λ x. x.places) l.others.items) c.args.order [] ≡ c.index.result.now.places = columns_at l.others.items c.args.order c.index.result.now within ∙ ap (λ x. x.places) (sym c.index.ensures) in
    subst (λ h. IsRowWith h.table h.places (first_columns h.orders c.args.order (length c.args.values.now)) c.args.values.now (option_copied c.get.result)) c.self.view_is
    (subst (λ ps. IsRowWith (table_in l.rows o.places o.entries) o.places (take (length c.args.values.now) ps) c.args.values.now (option_copied c.get.result)) (sym columns)
    (row_with l.rows o.places o.entries c.self.invariant.0 (length o.room.items) c.index.result.now is (take (length c.args.values.now) c.index.result.now.places) c.args.values.now c.in-Some.slot (option_copied c.get.result) c.get.ensures c.in-Some.ensures))

pub returns-in-None : goal.returns-in-None
returns-in-None c =
    let l = c.self.inside in
    let o = l.by_key in
    let within : c.args.order < length l.others.items = subst (λ n. c.args.order < n) (ap (λ h. length h.orders) (sym c.self.view_is) ∙ length-map l.others.items (λ x. x.places)) c.requires.there in
    let is = subst (IsOther l.rows o.places o.entries (length o.room.items)) (sym c.index.ensures) (each_at (IsOther l.rows o.places o.entries (length o.room.items)) l.others.items c.self.invariant.2 c.args.order c.index.result.now within) in
    let columns : get_or (map (λ x. x.places) l.others.items) c.args.order [] ≡ c.index.result.now.places = columns_at l.others.items c.args.order c.index.result.now within ∙ ap (λ x. x.places) (sym c.index.ensures) in
    subst (λ h. IsRowWith h.table h.places (first_columns h.orders c.args.order (length c.args.values.now)) c.args.values.now None) c.self.view_is
    (subst (λ ps. IsRowWith (table_in l.rows o.places o.entries) o.places (take (length c.args.values.now) ps) c.args.values.now None) (sym columns)
    (no_row_with l.rows o.places o.entries c.self.invariant.0 (length o.room.items) c.index.result.now is (take (length c.args.values.now) c.index.result.now.places) c.args.values.now c.in-None.ensures))
