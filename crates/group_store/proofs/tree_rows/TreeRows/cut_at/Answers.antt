use Rattle.std.proofs.Common.{◌<◌, map, ap, sym, subst, ◌∙◌, ◌∷◌, arith}
use Rattle.std.specs.FinMap as fm
use Rattle.slot_rows.specs.indexed_rows.specs.Places.{IsKeyAt}
use Rattle.slot_rows.specs.indexed_rows.specs.Rows.{is_same}
use Rattle.cache_store.specs.recency.specs.Rings.{keys_without}
use Rattle.group_store.specs.declared.tree_rows.ChildRows.{ChildRows}
use Rattle.group_store.specs.Joined.{layers_of, tables_of}
use Rattle.group_store.proofs.JoinedLaws.{keeps_children, least_root}
use Rattle.group_store.proofs.TreeLaws.{cut_done}
use Rattle.group_store.proofs.tree_rows.TreeRows.cut_at.Goals as goal

pub remove_at-requires : goal.remove_at-requires
remove_at-requires c = subst (λ r. c.args.at < fm.len r.table) (sym c.bare_at.ensures.same.roots) c.requires.there

pub returns-clause-cut : goal.returns-clause-cut
returns-clause-cut c = λ key found.
    let t = c.bare_at.new.self in
    let s = c.bare_at.ensures.same in
    let b = c.bare_at.ensures.bared key found in
    let taken = c.remove_at.ensures.taken key (subst (λ r. IsKeyAt (fm.entries r.table) key c.args.at) (sym s.roots) found) in
    record {
      was = taken.was ∙ ap (λ r. fm.get r.table key) s.roots;
      tables = ap (λ m. m ∷ map (λ (d : ChildRows). d.rows.table) t.children.items) taken.now ∙ sym (cut_done (layers_of t) (tables_of t) 0 key (omega arith) b.bare) ∙ b.cut;
      keys = taken.keys ∙ ap (λ r. keys_without is_same key r.keys) s.roots;
    }

pub returns-clause-same : goal.returns-clause-same
returns-clause-same c =
    let t = c.bare_at.new.self in
    let s = c.bare_at.ensures.same in
    let k = keeps_children t c.remove_at.new.self c.remove_at.ensures.places c.remove_at.ensures.foreign in
    record {
      places = k.places ∙ ap (λ r. r.places) s.roots;
      foreign = k.foreign ∙ ap (λ r. r.foreign) s.roots;
      layers = k.layers ∙ s.layers;
      joined = λ _. k.joined s.joined;
    }

pub returns-clause-spare : goal.returns-clause-spare
returns-clause-spare c =
    let t = c.bare_at.new.self in
    let before = c.bare_at.ensures.same.spare in
    let more = least_root t.roots.spare c.remove_at.new.self.spare 0 t.children.items (let s = c.remove_at.ensures.spare in omega (arith, s)) in omega (arith, before, more)
