use Rattle.std.proofs.Common.{◌≤◌, List, [], ◌∷◌, ◌++◌, ◌∙◌, ap, arith, length, map}
use Rattle.std.specs.FinMap.{entries, len-entries}
use Rattle.row_types.specs.declared.value.Value.{Value}
use Rattle.backing_gate.specs.Touching.{touched_at}
use Rattle.backing_gate.proofs.TouchLaws.{map_all, map_more}
use Rattle.backing_gate.proofs.touching.under_roots.Goals as goal

pub loop-place-preserved : goal.loop-place-preserved
loop-place-preserved c =
    map_more (λ (e : List Value × List Value). touched_at c.args.tables.now c.args.tree.now c.args.wanted.now e.0) (entries c.args.roots.now) c.loop-place.place c.entry_at-entry.result.now c.loop-place.out.items c.push.new.self.items
    (map (λ (e : List Value × List Value). touched_at c.args.tables.now c.args.tree.now c.args.wanted.now e.0) (entries c.args.roots.now)) c.entry_at-entry.ensures c.loop-place.invariant
    (c.in_ok-push.ensures.items ∙ ap (λ t. c.loop-place.out.items ++ t ∷ []) c.in_ok-touched.ensures)

pub returns : goal.returns
returns c =
    let past : length (entries c.args.roots.now) ≤ c.loop-place.place = omega (arith, c.loop-place-test.false, c.len-place-end.ensures.value, len-entries c.args.roots.now) in
    map_all (λ (e : List Value × List Value). touched_at c.args.tables.now c.args.tree.now c.args.wanted.now e.0) (entries c.args.roots.now) c.loop-place.place c.loop-place.out.items
    (map (λ (e : List Value × List Value). touched_at c.args.tables.now c.args.tree.now c.args.wanted.now e.0) (entries c.args.roots.now)) past c.loop-place.invariant
