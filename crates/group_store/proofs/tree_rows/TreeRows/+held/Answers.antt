use Rattle.std.proofs.Common.{◌≡◌, ◌+◌, suc, length, List, None, Some, is_some, ap, sym, subst, ◌∙◌, arith}
use Rattle.std.proofs.lemmas.List.{length-map}
use Rattle.std.specs.FinMap as fm
use Rattle.slot_rows.specs.row_types.specs.declared.value.Value.{Value}
use Rattle.slot_rows.specs.indexed_rows.specs.Places.{IsKeyAt}
use Rattle.slot_rows.specs.indexed_rows.specs.Rows.{key_of}
use Rattle.cache_store.specs.instances.specs.Views.{kept_at}
use Rattle.slot_rows.specs.Orders.{place_from}
use Rattle.group_store.specs.Held.{held_at, id_at}
use Rattle.group_store.specs.Joined.{layer_of, layers_of, places_at, tables_of}
use Rattle.group_store.specs.Passing.{HasNoneBy, HasNonePassing, HasPassing}
use Rattle.group_store.proofs.ByUseLaws.{always_row, key_of_row, row_there}
use Rattle.group_store.proofs.JoinedLaws.{item_there, kept_child}
use Rattle.group_store.proofs.PassingLaws.{asked, none_end, none_more, none_passes, none_through, passes_itself, passes_there, spot_below}
use Rattle.group_store.proofs.tree_rows.TreeRows.+held.Goals as goal

pub is_held-returns-then-holds : goal.is_held-returns-then-holds
is_held-returns-then-holds g t c = λ key here.
    let s = c.args.self.now in
    let place = c.args.place in
    let row = c.in-Some.row.now in
    let held = g.H.Holds.held c.args.holds.now in
    let test = held_at held c.args.root (layers_of s) in
    let r = key_of_row (places_at s place) (kept_at (tables_of s) place) key row c.args.spot c.len-held.ensures.keyed here c.in-Some.ensures in
    let answer : test place key ≡ c.holds.result = asked held c.id.result (id_at c.args.root (layers_of s) place) c.places.result.now (places_at s place) row key c.holds.result c.id.ensures c.places.ensures r.1 c.holds.ensures in
    let long = length-map s.children.items layer_of in
    let w = c.requires.within in
    passes_itself (layers_of s) (tables_of s) place key test (ap is_some r.0) (omega (arith, w, long)) (answer ∙ c.if-holds.true)

pub is_held-is_held_by-requires : goal.is_held-is_held_by-requires
is_held-is_held_by-requires g t c κs within =
    let s = c.args.self.now in
    let found = row_there (places_at s c.args.place) (kept_at (tables_of s) c.args.place) c.in-Some.row.now c.args.spot c.len-held.ensures.keyed c.in-Some.ensures in
    let lt = c.loop-at-test.true in
    let end = c.len-at-end.ensures in
    let more = c.loop-at.auto.at in (omega (arith, lt, end, more), (within, (c.requires.joined, (omega arith, (omega arith, found)))))

pub is_held-returns-then-is_held_by : goal.is_held-returns-then-is_held_by
is_held-returns-then-is_held_by g t c = λ key here.
    let s = c.args.self.now in
    let place = c.args.place in
    let row = c.in-Some.row.now in
    let held = g.H.Holds.held c.args.holds.now in
    let test = held_at held c.args.root (layers_of s) in
    let r = key_of_row (places_at s place) (kept_at (tables_of s) place) key row c.args.spot c.len-held.ensures.keyed here c.in-Some.ensures in
    subst (HasPassing test (layers_of s) (tables_of s) place) r.1 c.if-is_held_by.ensures

pub is_held-returns-in-None : goal.is_held-returns-in-None
is_held-returns-in-None g t c = λ key here.
    absurd (always_row (kept_at (tables_of c.args.self.now) c.args.place) key c.args.spot here c.in-None.ensures)

pub is_held-returns-after-loop-at : goal.is_held-returns-after-loop-at
is_held-returns-after-loop-at g t c = λ key here.
    let s = c.args.self.now in
    let place = c.args.place in
    let row = c.in-Some.row.now in
    let held = g.H.Holds.held c.args.holds.now in
    let test = held_at held c.args.root (layers_of s) in
    let r = key_of_row (places_at s place) (kept_at (tables_of s) place) key row c.args.spot c.len-held.ensures.keyed here c.in-Some.ensures in
    let answer : test place key ≡ c.holds.result = asked held c.id.result (id_at c.args.root (layers_of s) place) c.places.result.now (places_at s place) row key c.holds.result c.id.ensures c.places.ensures r.1 c.holds.ensures in
    none_passes (layers_of s) (tables_of s) place key test (answer ∙ c.if-holds.false)
    (none_through test s place key c.loop-at.at c.requires.joined (let end = c.loop-at-test.false in omega (arith, end, c.len-at-end.ensures))
    (λ i le lt. subst (λ k. HasNoneBy test (layers_of s) (tables_of s) place k i) r.1 (c.loop-at.invariant i le lt)))

pub is_held_by-next_of-requires-clause-some : goal.is_held_by-next_of-requires-clause-some
is_held_by-next_of-requires-clause-some g t c =
    let s = c.args.self.now in
    let at = c.args.at in
    let place = c.args.place in
    let row = c.args.row.now in
    let key = key_of (places_at s place) row in
    let test = held_at (g.H.Holds.held c.args.holds.now) c.args.root (layers_of s) in
    let d = c.index-child.result.now in
    let is = item_there s.children.items at d c.requires.within c.index-child.ensures in
    (c.requires.joined at d is).some

pub is_held_by-next_of-requires-clause-long : goal.is_held_by-next_of-requires-clause-long
is_held_by-next_of-requires-clause-long g t c =
    let s = c.args.self.now in
    let at = c.args.at in
    let place = c.args.place in
    let row = c.args.row.now in
    let key = key_of (places_at s place) row in
    let test = held_at (g.H.Holds.held c.args.holds.now) c.args.root (layers_of s) in
    let d = c.index-child.result.now in
    let is = item_there s.children.items at d c.requires.within c.index-child.ensures in
    (c.requires.joined at d is).long ∙ ap (λ p. length (places_at s p)) c.if-child-place.false ∙ ap length (sym c.places-columns.ensures)

pub is_held_by-returns-then-is_held : goal.is_held_by-returns-then-is_held
is_held_by-returns-then-is_held g t c =
    let s = c.args.self.now in
    let at = c.args.at in
    let place = c.args.place in
    let row = c.args.row.now in
    let key = key_of (places_at s place) row in
    let test = held_at (g.H.Holds.held c.args.holds.now) c.args.root (layers_of s) in
    let d = c.index-child.result.now in
    let is = item_there s.children.items at d c.requires.within c.index-child.ensures in
    let from = c.loop-spot.from in
    let spot = c.in-Some.spot in
    let e = subst (λ ps. Some spot ≡ place_from d.rows.table d.foreign (key_of ps row) from) c.places-columns.ensures c.in-Some.ensures in
    let told = subst (λ p. (k : List Value) → IsKeyAt (fm.entries (kept_at (tables_of s) p)) k spot → HasPassing test (layers_of s) (tables_of s) p k) (let z : at + 1 ≡ suc at = omega arith in z) c.if-is_held.ensures in
    passes_there test s place key at d is from spot e c.len-held.ensures.keyed c.if-child-place.false c.requires.here row c.requires.found told

pub is_held_by-overflow_add-from : goal.is_held_by-overflow_add-from
is_held_by-overflow_add-from g t c =
    let s = c.args.self.now in
    let at = c.args.at in
    let place = c.args.place in
    let row = c.args.row.now in
    let key = key_of (places_at s place) row in
    let test = held_at (g.H.Holds.held c.args.holds.now) c.args.root (layers_of s) in
    let d = c.index-child.result.now in
    let is = item_there s.children.items at d c.requires.within c.index-child.ensures in
    let from = c.loop-spot.from in
    let spot = c.in-Some.spot in
    let e = subst (λ ps. Some spot ≡ place_from d.rows.table d.foreign (key_of ps row) from) c.places-columns.ensures c.in-Some.ensures in
    let below = (spot_below test s place key at d is from spot e).1 in omega (arith, below, c.len-held.ensures.value, c.len-held.ensures.fits)

pub is_held_by-loop-spot-smaller : goal.is_held_by-loop-spot-smaller
is_held_by-loop-spot-smaller g t c =
    let s = c.args.self.now in
    let at = c.args.at in
    let place = c.args.place in
    let row = c.args.row.now in
    let key = key_of (places_at s place) row in
    let test = held_at (g.H.Holds.held c.args.holds.now) c.args.root (layers_of s) in
    let d = c.index-child.result.now in
    let is = item_there s.children.items at d c.requires.within c.index-child.ensures in
    let from = c.loop-spot.from in
    let spot = c.in-Some.spot in
    let e = subst (λ ps. Some spot ≡ place_from d.rows.table d.foreign (key_of ps row) from) c.places-columns.ensures c.in-Some.ensures in
    let below = spot_below test s place key at d is from spot e in
    let same = ap fm.len (kept_child s.roots.table s.children.items at d is) in omega (arith, below.0, below.1, same)

pub is_held_by-loop-spot-preserved : goal.is_held_by-loop-spot-preserved
is_held_by-loop-spot-preserved g t c =
    let s = c.args.self.now in
    let at = c.args.at in
    let place = c.args.place in
    let row = c.args.row.now in
    let key = key_of (places_at s place) row in
    let test = held_at (g.H.Holds.held c.args.holds.now) c.args.root (layers_of s) in
    let d = c.index-child.result.now in
    let is = item_there s.children.items at d c.requires.within c.index-child.ensures in
    let from = c.loop-spot.from in
    let spot = c.in-Some.spot in
    let e = subst (λ ps. Some spot ≡ place_from d.rows.table d.foreign (key_of ps row) from) c.places-columns.ensures c.in-Some.ensures in
    let told = subst (λ p. (k : List Value) → IsKeyAt (fm.entries (kept_at (tables_of s) p)) k spot → HasNonePassing test (layers_of s) (tables_of s) p k) (let z : at + 1 ≡ suc at = omega arith in z) c.if-is_held.ensures in
    none_more test s place key at d is from spot c.loop-spot.invariant e told

pub is_held_by-returns : goal.is_held_by-returns
is_held_by-returns g t c =
    let s = c.args.self.now in
    let at = c.args.at in
    let place = c.args.place in
    let row = c.args.row.now in
    let key = key_of (places_at s place) row in
    let test = held_at (g.H.Holds.held c.args.holds.now) c.args.root (layers_of s) in
    let d = c.index-child.result.now in
    let is = item_there s.children.items at d c.requires.within c.index-child.ensures in
    none_end test s place key at d is c.loop-spot.from c.loop-spot.invariant
    (subst (λ ps. None ≡ place_from d.rows.table d.foreign (key_of ps row) c.loop-spot.from) c.places-columns.ensures c.in_default.ensures)
