use Rattle.std.proofs.Common.{◌≡◌, ◌<◌, ◌≤◌, ◌+◌, ◌++◌, [], None, Some, length, map, take, get_or, slice_get, ap, sym, subst, ◌∙◌}
use Rattle.std.proofs.lemmas.List.{length-map}
use Rattle.std.specs.FinMap as fm
use Rattle.indexed_rows.specs.Places.{IsGapFor, IsKeyAt}
use Rattle.indexed_rows.specs.Rows.{key_of}
use Rattle.slot_rows.specs.Orders.{HasBefore, IsOther, IsStart, first_columns, place_from}
use Rattle.slot_rows.specs.Slots.{row_in, slot_at_front, slots_of, table_in}
use Rattle.slot_rows.proofs.FrontLaws.{columns_at, each_at}
use Rattle.slot_rows.proofs.NextLaws.{next_never, next_none, next_one, next_past}
use Rattle.slot_rows.proofs.rows.SlotRows.next_for.Goals as goal

pub returns-then-from-len : goal.returns-then-from-len
returns-then-from-len c =
    let l = c.self.inside in
    let o = l.by_key in
    let values = key_of c.args.columns.now c.args.row.now in
    subst (λ h. None ≡ place_from h.table (first_columns h.orders c.args.order (length c.args.columns.now)) values c.args.from) c.self.view_is
    (next_past l.rows o.places o.entries c.self.invariant.0 (first_columns (map (λ x. x.places) l.others.items) c.args.order (length c.args.columns.now)) values c.args.from (subst (λ n. n ≤ c.args.from) c.len.ensures.value c.if-from-len.true))

pub returns-in-None : goal.returns-in-None
returns-in-None c =
    let l = c.self.inside in
    let o = l.by_key in
    let n = length c.args.columns.now in
    let values = key_of c.args.columns.now c.args.row.now in
    let long : length values ≡ n = length-map c.args.columns.now _ in
    let other = c.index-other.result.now in
    let within : c.args.order < length l.others.items = subst (λ k. c.args.order < k) (ap (λ h. length h.orders) (sym c.self.view_is) ∙ length-map l.others.items (λ x. x.places)) c.requires.there in
    let is = subst (IsOther l.rows o.places o.entries (length o.room.items)) (sym c.index-other.ensures) (each_at (IsOther l.rows o.places o.entries (length o.room.items)) l.others.items c.self.invariant.2 c.args.order other within) in
    let columns : get_or (map (λ x. x.places) l.others.items) c.args.order [] ≡ other.places = columns_at l.others.items c.args.order other within ∙ ap (λ x. x.places) (sym c.index-other.ensures) in
    let before : length values + length o.places ≡ length other.places =
    subst (λ k. k + length o.places ≡ length other.places) (sym long) (subst (λ h. HasBefore h.orders c.args.order h.places n) (sym c.self.view_is) c.requires.before ∙ ap length columns) in
    let wide = table_in l.rows other.places other.entries in
    let at = c.first_for-start.result in
    let start =
    subst (λ v. IsStart wide (key_of c.args.columns.now v ++ key_of o.places (row_in l.rows c.slot_at.result)) at) c.values-parent.ensures
    (subst (λ r. IsStart wide (key_of c.args.columns.now c.values-parent.result.now ++ key_of o.places r) at) c.values_in-least.ensures
    (subst (λ ps. IsStart wide (key_of c.args.columns.now c.values-parent.result.now ++ key_of ps c.values_in-least.result.now) at) c.as_slice-places.ensures c.first_for-start.ensures)) in
    let found : None ≡ slot_at_front l.rows (take (length values) other.places) values (slice_get (slots_of other.entries) at) =
    subst (λ k. None ≡ slot_at_front l.rows (take k other.places) values (slice_get (slots_of other.entries) at)) (sym long)
    (subst (λ v. None ≡ slot_at_front l.rows (take n other.places) (key_of c.args.columns.now v) (slice_get (slots_of other.entries) at)) c.values-parent.ensures c.in-None.ensures) in
    subst (λ h. None ≡ place_from h.table (first_columns h.orders c.args.order n) values c.args.from) c.self.view_is
    (subst (λ ps. None ≡ place_from (table_in l.rows o.places o.entries) (take n ps) values c.args.from) (sym columns)
    (subst (λ k. None ≡ place_from (table_in l.rows o.places o.entries) (take k other.places) values c.args.from) long
    (next_none l.rows o.places o.entries c.self.invariant.0 (length o.room.items) other is values before c.args.from c.slot_at.result c.slot_at.ensures at start found)))

pub returns-in-Ok : goal.returns-in-Ok
returns-in-Ok c =
    let l = c.self.inside in
    let o = l.by_key in
    let n = length c.args.columns.now in
    let values = key_of c.args.columns.now c.args.row.now in
    let long : length values ≡ n = length-map c.args.columns.now _ in
    let other = c.index-other.result.now in
    let within : c.args.order < length l.others.items = subst (λ k. c.args.order < k) (ap (λ h. length h.orders) (sym c.self.view_is) ∙ length-map l.others.items (λ x. x.places)) c.requires.there in
    let is = subst (IsOther l.rows o.places o.entries (length o.room.items)) (sym c.index-other.ensures) (each_at (IsOther l.rows o.places o.entries (length o.room.items)) l.others.items c.self.invariant.2 c.args.order other within) in
    let columns : get_or (map (λ x. x.places) l.others.items) c.args.order [] ≡ other.places = columns_at l.others.items c.args.order other within ∙ ap (λ x. x.places) (sym c.index-other.ensures) in
    let before : length values + length o.places ≡ length other.places =
    subst (λ k. k + length o.places ≡ length other.places) (sym long) (subst (λ h. HasBefore h.orders c.args.order h.places n) (sym c.self.view_is) c.requires.before ∙ ap length columns) in
    let wide = table_in l.rows other.places other.entries in
    let at = c.first_for-start.result in
    let start =
    subst (λ v. IsStart wide (key_of c.args.columns.now v ++ key_of o.places (row_in l.rows c.slot_at.result)) at) c.values-parent.ensures
    (subst (λ r. IsStart wide (key_of c.args.columns.now c.values-parent.result.now ++ key_of o.places r) at) c.values_in-least.ensures
    (subst (λ ps. IsStart wide (key_of c.args.columns.now c.values-parent.result.now ++ key_of ps c.values_in-least.result.now) at) c.as_slice-places.ensures c.first_for-start.ensures)) in
    let found : Some c.in-Some.slot ≡ slot_at_front l.rows (take (length values) other.places) values (slice_get (slots_of other.entries) at) =
    subst (λ k. Some c.in-Some.slot ≡ slot_at_front l.rows (take k other.places) values (slice_get (slots_of other.entries) at)) (sym long)
    (subst (λ v. Some c.in-Some.slot ≡ slot_at_front l.rows (take n other.places) (key_of c.args.columns.now v) (slice_get (slots_of other.entries) at)) c.values-parent.ensures c.in-Some.ensures) in
    let here = subst (λ r. IsKeyAt (fm.entries (table_in l.rows o.places o.entries)) (key_of o.places r) c.in-Ok.place) c.values_in.ensures c.in-Ok.ensures.found in
    subst (λ h. Some c.in-Ok.place ≡ place_from h.table (first_columns h.orders c.args.order n) values c.args.from) c.self.view_is
    (subst (λ ps. Some c.in-Ok.place ≡ place_from (table_in l.rows o.places o.entries) (take n ps) values c.args.from) (sym columns)
    (subst (λ k. Some c.in-Ok.place ≡ place_from (table_in l.rows o.places o.entries) (take k other.places) values c.args.from) long
    (next_one l.rows o.places o.entries c.self.invariant.0 (length o.room.items) other is values before c.args.from c.slot_at.result c.slot_at.ensures at start c.in-Some.slot c.in-Ok.place found here c.in-Ok.ensures.bound)))

pub returns-in-Err : goal.returns-in-Err
returns-in-Err c =
    let l = c.self.inside in
    let o = l.by_key in
    let n = length c.args.columns.now in
    let values = key_of c.args.columns.now c.args.row.now in
    let long : length values ≡ n = length-map c.args.columns.now _ in
    let other = c.index-other.result.now in
    let within : c.args.order < length l.others.items = subst (λ k. c.args.order < k) (ap (λ h. length h.orders) (sym c.self.view_is) ∙ length-map l.others.items (λ x. x.places)) c.requires.there in
    let is = subst (IsOther l.rows o.places o.entries (length o.room.items)) (sym c.index-other.ensures) (each_at (IsOther l.rows o.places o.entries (length o.room.items)) l.others.items c.self.invariant.2 c.args.order other within) in
    let columns : get_or (map (λ x. x.places) l.others.items) c.args.order [] ≡ other.places = columns_at l.others.items c.args.order other within ∙ ap (λ x. x.places) (sym c.index-other.ensures) in
    let before : length values + length o.places ≡ length other.places =
    subst (λ k. k + length o.places ≡ length other.places) (sym long) (subst (λ h. HasBefore h.orders c.args.order h.places n) (sym c.self.view_is) c.requires.before ∙ ap length columns) in
    let wide = table_in l.rows other.places other.entries in
    let at = c.first_for-start.result in
    let start =
    subst (λ v. IsStart wide (key_of c.args.columns.now v ++ key_of o.places (row_in l.rows c.slot_at.result)) at) c.values-parent.ensures
    (subst (λ r. IsStart wide (key_of c.args.columns.now c.values-parent.result.now ++ key_of o.places r) at) c.values_in-least.ensures
    (subst (λ ps. IsStart wide (key_of c.args.columns.now c.values-parent.result.now ++ key_of ps c.values_in-least.result.now) at) c.as_slice-places.ensures c.first_for-start.ensures)) in
    let found : Some c.in-Some.slot ≡ slot_at_front l.rows (take (length values) other.places) values (slice_get (slots_of other.entries) at) =
    subst (λ k. Some c.in-Some.slot ≡ slot_at_front l.rows (take k other.places) values (slice_get (slots_of other.entries) at)) (sym long)
    (subst (λ v. Some c.in-Some.slot ≡ slot_at_front l.rows (take n other.places) (key_of c.args.columns.now v) (slice_get (slots_of other.entries) at)) c.values-parent.ensures c.in-Some.ensures) in
    let gap = subst (λ r. IsGapFor (fm.entries (table_in l.rows o.places o.entries)) (key_of o.places r) c.in-Err.field-0) c.values_in.ensures c.in-Err.ensures.absent in
    absurd (next_never l.rows o.places o.entries c.self.invariant.0 (length o.room.items) other is values before c.args.from c.slot_at.result c.slot_at.ensures at start c.in-Some.slot c.in-Err.field-0 found gap)
