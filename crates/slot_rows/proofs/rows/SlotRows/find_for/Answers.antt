use Rattle.std.proofs.Common.{◌≡◌, ◌<◌, [], None, Some, length, map, take, get_or, ap, sym, subst, ◌∙◌}
use Rattle.std.proofs.lemmas.List.{length-map}
use Rattle.std.specs.Option.{option_copied}
use Rattle.indexed_rows.specs.Rows.{key_of}
use Rattle.slot_rows.specs.Orders.{IsOther, IsRowWith, IsSlotWith, first_columns}
use Rattle.slot_rows.specs.Slots.{slots_of, table_in}
use Rattle.slot_rows.proofs.FrontLaws.{columns_at, each_at, no_row_with, row_with}
use Rattle.slot_rows.proofs.rows.SlotRows.find_for.Goals as goal

pub returns-in-Some : goal.returns-in-Some
returns-in-Some c =
    let l = c.self.inside in
    let o = l.by_key in
    let within : c.args.order < length l.others.items = subst (λ n. c.args.order < n) (ap (λ h. length h.orders) (sym c.self.view_is) ∙ length-map l.others.items (λ x. x.places)) c.requires.there in
    let is = subst (IsOther l.rows o.places o.entries (length o.room.items)) (sym c.index.ensures) (each_at (IsOther l.rows o.places o.entries (length o.room.items)) l.others.items c.self.invariant.2 c.args.order c.index.result.now within) in
    let columns : get_or (map (λ x. x.places) l.others.items) c.args.order [] ≡ c.index.result.now.places = columns_at l.others.items c.args.order c.index.result.now within ∙ ap (λ x. x.places) (sym c.index.ensures) in
    subst (λ h. IsRowWith h.table h.places (first_columns h.orders c.args.order (length c.args.columns.now)) (key_of c.args.columns.now c.args.row.now) (option_copied c.get.result)) c.self.view_is
    (subst (λ ps. IsRowWith (table_in l.rows o.places o.entries) o.places (take (length c.args.columns.now) ps) (key_of c.args.columns.now c.args.row.now) (option_copied c.get.result)) (sym columns)
    (row_with l.rows o.places o.entries c.self.invariant.0 (length o.room.items) c.index.result.now is (take (length c.args.columns.now) c.index.result.now.places) (key_of c.args.columns.now c.args.row.now) c.in-Some.slot (option_copied c.get.result) c.get.ensures (subst (λ v. IsSlotWith l.rows (slots_of c.index.result.now.entries) (take (length c.args.columns.now) c.index.result.now.places) (key_of c.args.columns.now v) (Some c.in-Some.slot)) c.values.ensures c.in-Some.ensures)))

pub returns-in-None : goal.returns-in-None
returns-in-None c =
    let l = c.self.inside in
    let o = l.by_key in
    let within : c.args.order < length l.others.items = subst (λ n. c.args.order < n) (ap (λ h. length h.orders) (sym c.self.view_is) ∙ length-map l.others.items (λ x. x.places)) c.requires.there in
    let is = subst (IsOther l.rows o.places o.entries (length o.room.items)) (sym c.index.ensures) (each_at (IsOther l.rows o.places o.entries (length o.room.items)) l.others.items c.self.invariant.2 c.args.order c.index.result.now within) in
    let columns : get_or (map (λ x. x.places) l.others.items) c.args.order [] ≡ c.index.result.now.places = columns_at l.others.items c.args.order c.index.result.now within ∙ ap (λ x. x.places) (sym c.index.ensures) in
    subst (λ h. IsRowWith h.table h.places (first_columns h.orders c.args.order (length c.args.columns.now)) (key_of c.args.columns.now c.args.row.now) None) c.self.view_is
    (subst (λ ps. IsRowWith (table_in l.rows o.places o.entries) o.places (take (length c.args.columns.now) ps) (key_of c.args.columns.now c.args.row.now) None) (sym columns)
    (no_row_with l.rows o.places o.entries c.self.invariant.0 (length o.room.items) c.index.result.now is (take (length c.args.columns.now) c.index.result.now.places) (key_of c.args.columns.now c.args.row.now) (subst (λ v. IsSlotWith l.rows (slots_of c.index.result.now.entries) (take (length c.args.columns.now) c.index.result.now.places) (key_of c.args.columns.now v) None) c.values.ensures c.in-None.ensures)))
