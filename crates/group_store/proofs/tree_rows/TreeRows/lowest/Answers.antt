use Rattle.std.proofs.Common.{◌≡◌, true, false, ap, is_some, sym, subst, ◌∙◌, arith}
use Rattle.cache_store.specs.instances.specs.Views.{kept_at}
use Rattle.group_store.specs.Trees.{IsChild, IsChildless}
use Rattle.group_store.specs.Joined.{layers_of, places_at, tables_of}
use Rattle.group_store.proofs.ByUseLaws.{always_row, key_of_row}
use Rattle.group_store.proofs.JoinedLaws.{child_behind, child_found, leaf_goes, leaf_through}
use Rattle.group_store.proofs.tree_rows.TreeRows.lowest.Goals as goal

pub returns-in-None : goal.returns-in-None
returns-in-None c = λ key here.
    absurd (always_row (kept_at (tables_of c.args.self.now) c.args.top) key c.args.at here c.in-None.ensures)

pub returns-in-None-child_of : goal.returns-in-None-child_of
returns-in-None-child_of c = λ key here.
    let t = c.args.self.now in
    let r = key_of_row (places_at t c.args.top) (kept_at (tables_of t) c.args.top) key c.in-Some.row.now c.args.at c.len-held.ensures.keyed here c.in-Some.ensures in
    subst (IsChildless (layers_of t) (tables_of t) c.args.top) r.1 c.in-None-child_of.ensures

pub leaf-leaf-requires-clause-within : goal.leaf-leaf-requires-clause-within
leaf-leaf-requires-clause-within c =
    let t = c.args.self.now in
    (child_behind t c.args.top _ c.requires.joined c.in-Some-child_of.found.place c.in-Some-child_of.found.row.now c.in-Some-child_of.ensures).1

pub leaf-leaf-requires-clause-found : goal.leaf-leaf-requires-clause-found
leaf-leaf-requires-clause-found c =
    let t = c.args.self.now in
    child_found t c.args.top _ c.requires.joined c.in-Some-child_of.found.place c.in-Some-child_of.found.row.now c.in-Some-child_of.ensures

pub returns-in-None-spot_of : goal.returns-in-None-spot_of
returns-in-None-spot_of c = λ key here. let z : true ≡ false = sym (ap is_some c.leaf-leaf.ensures.found) ∙ c.in-None-spot_of.ensures in cc

pub returns : goal.returns
returns c = λ key here.
    let t = c.args.self.now in
    let found = c.in-Some-child_of.found in
    let r = key_of_row (places_at t c.args.top) (kept_at (tables_of t) c.args.top) key c.in-Some.row.now c.args.at c.len-held.ensures.keyed here c.in-Some.ensures in
    let child = subst (λ k. IsChild (layers_of t) (tables_of t) c.args.top k found.place found.row.now) r.1 c.in-Some-child_of.ensures in
    let behind = child_behind t c.args.top key c.requires.joined found.place found.row.now child in
    let leaf = leaf_through t c.args.top key c.requires.joined found.place found.row.now child (ap is_some r.0) c.leaf-leaf.result.place c.leaf-leaf.result.row.now c.leaf-leaf.ensures in
    let low = c.leaf-leaf.ensures.behind in
    leaf_goes t c.args.top key c.leaf-leaf.result.place c.leaf-leaf.result.row.now c.in-Some-spot_of.spot (omega (arith, behind.0, low)) leaf c.in-Some-spot_of.ensures
