use Rattle.std.proofs.Common.{◌<◌, length, inr, refl, ap, sym, subst, ◌∙◌, arith}
use Rattle.std.proofs.lemmas.List.{length-map}
use Rattle.std.specs.FinMap as fm
use Rattle.slot_rows.specs.indexed_rows.specs.Places.{IsKeyAt}
use Rattle.slot_rows.specs.indexed_rows.proofs.MapLaws.{has_key}
use Rattle.cache_store.specs.instances.specs.Views.{kept_at}
use Rattle.group_store.specs.Trees.{cut_from}
use Rattle.group_store.specs.Joined.{layer_of, layers_of, tables_of}
use Rattle.group_store.proofs.JoinedLaws.{long_tables}
use Rattle.group_store.proofs.RecentLaws.{key_there, spot_within}
use Rattle.group_store.proofs.TreeLaws.{count_rows, cut_stays, fewer_rows, kept_else}
use Rattle.group_store.proofs.tree_rows.TreeRows.bare_at.Goals as goal

pub loop-place-init : goal.loop-place-init
loop-place-init c = record { cut = λ key found. refl; top = refl; layers = refl; joined = c.requires.joined; spare = omega arith; roots = refl }

pub take_child-requires-clause-child : goal.take_child-requires-clause-child
take_child-requires-clause-child c =
    let t = c.loop-place.self in
    let key = key_there (kept_at (tables_of c.args.self.now) c.args.top) c.args.at c.requires.there in
    let go = c.in-Some.ensures key.0 (subst (λ m. IsKeyAt (fm.entries m) key.0 c.args.at) (sym c.loop-place.invariant.top) key.1) in
    let b = go.behind in omega (arith, b)

pub take_child-requires-clause-within : goal.take_child-requires-clause-within
take_child-requires-clause-within c =
    let t = c.loop-place.self in
    let key = key_there (kept_at (tables_of c.args.self.now) c.args.top) c.args.at c.requires.there in
    let go = c.in-Some.ensures key.0 (subst (λ m. IsKeyAt (fm.entries m) key.0 c.args.at) (sym c.loop-place.invariant.top) key.1) in
    let w = go.within in
    let long = length-map t.children.items layer_of in omega (arith, w, long)

pub take_child-requires-clause-there : goal.take_child-requires-clause-there
take_child-requires-clause-there c =
    let t = c.loop-place.self in
    let key = key_there (kept_at (tables_of c.args.self.now) c.args.top) c.args.at c.requires.there in
    let go = c.in-Some.ensures key.0 (subst (λ m. IsKeyAt (fm.entries m) key.0 c.args.at) (sym c.loop-place.invariant.top) key.1) in
    spot_within (kept_at (tables_of t) c.in-Some.place) c.in-Some.spot go.key go.here

pub loop-place-smaller : goal.loop-place-smaller
loop-place-smaller c =
    let t = c.loop-place.self in
    let key = key_there (kept_at (tables_of c.args.self.now) c.args.top) c.args.at c.requires.there in
    let go = c.in-Some.ensures key.0 (subst (λ m. IsKeyAt (fm.entries m) key.0 c.args.at) (sym c.loop-place.invariant.top) key.1) in
    subst (λ ts. count_rows ts < count_rows (tables_of t)) (sym (c.take_child.ensures.leaves go.key go.here))
    (fewer_rows (tables_of t) c.in-Some.place go.key (has_key (kept_at (tables_of t) c.in-Some.place) go.key c.in-Some.spot go.here))

pub loop-place-preserved : goal.loop-place-preserved
loop-place-preserved c =
    let t = c.loop-place.self in
    let key = key_there (kept_at (tables_of c.args.self.now) c.args.top) c.args.at c.requires.there in
    let go = c.in-Some.ensures key.0 (subst (λ m. IsKeyAt (fm.entries m) key.0 c.args.at) (sym c.loop-place.invariant.top) key.1) in
    let new = c.take_child.new.self in
    let top = c.args.top in
    let long = length-map t.children.items layer_of in
    let many = long_tables t in
    let behind = go.behind in
    record {
      cut = λ k found.
          let g = c.in-Some.ensures k (subst (λ m. IsKeyAt (fm.entries m) k c.args.at) (sym c.loop-place.invariant.top) found) in
          let w = g.within in
          let inside : c.in-Some.place < length (tables_of t) = omega (arith, w, long, many) in
          ap (λ ls. cut_from ls (tables_of new) top k) c.take_child.ensures.layers ∙ ap (λ ts. cut_from (layers_of t) ts top k) (c.take_child.ensures.leaves g.key g.here)
          ∙ cut_stays (layers_of t) (tables_of t) c.in-Some.place g.key inside g.childless top k g.leads ∙ c.loop-place.invariant.cut k found;
      top = ap (λ ts. kept_at ts top) (c.take_child.ensures.leaves go.key go.here) ∙ kept_else (tables_of t) c.in-Some.place (λ m. fm.remove m go.key) top (λ e. absurd (omega (arith, e, behind))) ∙ c.loop-place.invariant.top;
      layers = c.take_child.ensures.layers ∙ c.loop-place.invariant.layers;
      joined = c.take_child.ensures.joined c.loop-place.invariant.joined;
      spare = (let a = c.take_child.ensures.spare in let b = c.loop-place.invariant.spare in omega (arith, a, b));
      roots = c.take_child.ensures.roots ∙ c.loop-place.invariant.roots;
    }

pub returns-clause-same : goal.returns-clause-same
returns-clause-same c =
    let i = c.loop-place.invariant in
    record { roots = i.roots; layers = i.layers; joined = i.joined; spare = i.spare }

pub returns-clause-bared : goal.returns-clause-bared
returns-clause-bared c = λ key found.
    let i = c.loop-place.invariant in
    record {
      bare = inr (c.in_default.ensures key (subst (λ m. IsKeyAt (fm.entries m) key c.args.at) (sym i.top) found));
      cut = i.cut key found;
    }
