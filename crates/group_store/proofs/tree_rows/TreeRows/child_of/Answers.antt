use Rattle.std.proofs.Common.{◌≡◌, ◌<◌, ◌+◌, suc, ◌≤◌, length, get_or, slice_get, Some, None, inl, inr, ap, sym, subst, ◌∙◌, arith}
use Rattle.std.proofs.lemmas.Bool.{cases_lt}
use Rattle.slot_rows.specs.indexed_rows.specs.Rows.{key_of}
use Rattle.group_store.specs.Trees.{IsChild}
use Rattle.group_store.specs.Joined.{IsRowOf, layers_of, places_at, tables_of}
use Rattle.group_store.proofs.JoinedLaws.{child_is, item_there, none_is}
use Rattle.group_store.proofs.tree_rows.TreeRows.child_of.Goals as goal

pub row_of-requires-clause-orders : goal.row_of-requires-clause-orders
row_of-requires-clause-orders c =
    let t = c.args.self.now in
    let child = c.child-item.result in
    let at = c.loop-at.at in
    let w : at < length t.children.items = subst (λ xs. at < length xs) c.deref-child-items.ensures.value c.loop-at-test.true in
    (c.requires.joined at child (item_there t.children.items at child w (c.child-item.is ∙ ap (λ xs. get_or xs at child) c.deref-child-items.ensures.value))).orders

pub row_of-requires-clause-some : goal.row_of-requires-clause-some
row_of-requires-clause-some c =
    let t = c.args.self.now in
    let child = c.child-item.result in
    let at = c.loop-at.at in
    let w : at < length t.children.items = subst (λ xs. at < length xs) c.deref-child-items.ensures.value c.loop-at-test.true in
    (c.requires.joined at child (item_there t.children.items at child w (c.child-item.is ∙ ap (λ xs. get_or xs at child) c.deref-child-items.ensures.value))).some

pub row_of-requires-clause-long : goal.row_of-requires-clause-long
row_of-requires-clause-long c = λ e.
    let t = c.args.self.now in
    let child = c.child-item.result in
    let at = c.loop-at.at in
    let w : at < length t.children.items = subst (λ xs. at < length xs) c.deref-child-items.ensures.value c.loop-at-test.true in
    (c.requires.joined at child (item_there t.children.items at child w (c.child-item.is ∙ ap (λ xs. get_or xs at child) c.deref-child-items.ensures.value))).long
    ∙ ap (λ p. length (places_at t p)) e ∙ ap length (sym c.places-columns.ensures)

pub returns-in-Some : goal.returns-in-Some
returns-in-Some c =
    let t = c.args.self.now in
    let child = c.child-item.result in
    let at = c.loop-at.at in
    let key = key_of (places_at t c.args.place) c.args.row.now in
    let w : at < length t.children.items = subst (λ xs. at < length xs) c.deref-child-items.ensures.value c.loop-at-test.true in
    let is = item_there t.children.items at child w (c.child-item.is ∙ ap (λ xs. get_or xs at child) c.deref-child-items.ensures.value) in
    let found = subst (λ ps. IsRowOf child c.args.place (key_of ps c.args.row.now) (Some c.in-Some.row.now)) c.places-columns.ensures c.in-Some.ensures in
    subst (λ p. IsChild (layers_of t) (tables_of t) c.args.place key p c.in-Some.row.now) (let z : suc at ≡ at + 1 = omega arith in z) (child_is t c.args.place key at child c.in-Some.row.now is found)

pub loop-at-preserved : goal.loop-at-preserved
loop-at-preserved c = λ i d lt there.
    let t = c.args.self.now in
    let child = c.child-item.result in
    let at = c.loop-at.at in
    let w : at < length t.children.items = subst (λ xs. at < length xs) c.deref-child-items.ensures.value c.loop-at-test.true in
    let is = item_there t.children.items at child w (c.child-item.is ∙ ap (λ xs. get_or xs at child) c.deref-child-items.ensures.value) in
    elim (cases_lt i at) [
      | inl below ↦ c.loop-at.invariant i d below there
      | inr above ↦
          let z : i ≡ at = omega arith in
          let e : Some child ≡ Some d = sym is ∙ ap (λ j. slice_get t.children.items j) (sym z) ∙ there in
          let same : child ≡ d = cc in
          subst (λ x. IsRowOf x c.args.place (key_of c.places-columns.result.now c.args.row.now) None) same c.in-None.ensures
    ]

pub returns : goal.returns
returns c =
    let t = c.args.self.now in
    let key = key_of (places_at t c.args.place) c.args.row.now in
    none_is t c.args.place key (λ i d lt there.
    let w : i < c.loop-at.at = (let end = subst (λ xs. length xs ≤ c.loop-at.at) c.deref-child-items.ensures.value c.loop-at-test.false in omega (arith, end, lt)) in
    subst (λ ps. IsRowOf d c.args.place (key_of ps c.args.row.now) None) c.places-columns.ensures (c.loop-at.invariant i d w there))
