use Rattle.std.proofs.Common.{◌+◌, drop, map, slice_get, refl, sym, ap, ◌∙◌, arith}
use Rattle.std.proofs.lemmas.List.{length-map}
use Rattle.std.specs.FinMap as fm
use Rattle.slot_rows.specs.indexed_rows.proofs.MapLaws.{slice_get_map}
use Rattle.cache_store.specs.instances.specs.Views.{kept_at}
use Rattle.group_store.specs.Entering.{entered}
use Rattle.group_store.specs.declared.tree_rows.ChildRows.{ChildRows}
use Rattle.group_store.proofs.CommitLaws.{HasTables, among_at, committed_keys, entered_there, next_of, none_before, none_behind, touched_all}
use Rattle.group_store.proofs.store.Store.commit_ops.Goals as goal

pub loop-at-init : goal.loop-at-init
loop-at-init c = record {
  same = record { table = refl; key = refl; foreign = refl; layers = refl; tables = refl; keys = refl };
  keys = ap (λ ks. touched_all ks c.apply_ops.new.self.keys) (none_before (fm.keys c.args.roots.now));
  spare = omega arith;
}

pub loop-at-preserved : goal.loop-at-preserved
loop-at-preserved c =
    let base = c.args.self.now in
    let s = c.loop-at.self in
    let roots = c.args.roots.now in
    let at = c.loop-at.at in
    let inv = c.loop-at.invariant in
    let k = c.entry_at.result.now.0 in
    let l = c.self.inside in
    let has : HasTables base = (l.rows.roots.table, map (λ (d : ChildRows). d.rows.table) l.rows.children.items, sym (ap (λ h. h.tables) c.self.view_is)) in
    let is = slice_get_map (λ e. e.0) (fm.entries roots) at c.entry_at.result.now c.entry_at.ensures in
    let among = among_at (fm.keys (entered base c.args.ops)) at k (ap (λ ks. slice_get ks at) (sym c.requires.roots) ∙ is) in
    let there = ap (λ ts. fm.contains_key (kept_at ts 0) k) (inv.same.tables ∙ c.apply_ops.ensures.done.tables) ∙ entered_there base c.args.ops has k among in
    let t = c.touch.ensures.touched in
    let more = c.touch.ensures.spare in
    let before = inv.spare in
    record {
      same = record { table = t.table ∙ inv.same.table; key = t.key ∙ inv.same.key; foreign = t.foreign ∙ inv.same.foreign; layers = t.layers ∙ inv.same.layers; tables = t.tables ∙ inv.same.tables; keys = refl };
      keys = ap (touched_all (drop (at + 1) (fm.keys roots))) (c.touch.ensures.newest there) ∙ sym (ap (λ ks. touched_all ks s.keys) (next_of (fm.keys roots) at k is)) ∙ inv.keys;
      spare = omega (arith, more, before);
    }

pub returns-clause-done : goal.returns-clause-done
returns-clause-done c =
    let base = c.args.self.now in
    let roots = c.args.roots.now in
    let inv = c.loop-at.invariant in
    let done = c.apply_ops.ensures.done in
    let many = fm.len-entries roots in
    let long = length-map (fm.entries roots) (λ e. e.0) in
    let end = none_behind (fm.keys roots) c.loop-at.at (λ lt. absurd (omega (arith, lt, many, long, c.loop-at-test.false, c.len-at-end.ensures, c.loop-at.auto.at-end))) in
    record {
      table = inv.same.table ∙ done.table;
      key = inv.same.key ∙ done.key;
      foreign = inv.same.foreign ∙ done.foreign;
      layers = inv.same.layers ∙ done.layers;
      tables = inv.same.tables ∙ done.tables;
      keys = sym (ap (λ ks. touched_all ks c.loop-at.self.keys) end) ∙ inv.keys ∙ (λ i. touched_all (c.requires.roots i) (done.keys i)) ∙ committed_keys base c.args.ops;
    }

pub returns-clause-spare : goal.returns-clause-spare
returns-clause-spare c = let a = c.loop-at.invariant.spare in let b = c.apply_ops.ensures.spare in omega (arith, a, b)
