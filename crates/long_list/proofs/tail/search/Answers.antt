use Rattle.std.proofs.Common.{◌∙◌, sym, arith}
use Rattle.std.proofs.lemmas.List.{length_push}
use Rattle.std.proofs.lemmas.Map.Iter.{iter_turn}
use Rattle.std.specs.Map.Iter.{deref}
use Rattle.long_list.proofs.TailLaws.{below_next, goes_before}
use Rattle.long_list.proofs.tail.search.Goals as goal

pub loop-element-preserved : goal.loop-element-preserved
loop-element-preserved g c =
    let turn = iter_turn deref c.args.list.now c.loop-element.yielded _ c.loop-element.element-iterator c.next.new.self c.next.result (cc) c.loop-element.yielded_by c.in-Some.element c.in-Some.is c.next.ensures.steps in
    record {
      count = omega (arith, length_push c.loop-element.yielded c.in-Some.element, c.loop-element.invariant.count);
      below = below_next (g.P.Probe.order_gives c.args.probe.now) c.args.list.now c.loop-element.place _ c.in-Some.element.now c.loop-element.invariant.count c.loop-element.invariant.below turn.1 (sym c.order.ensures ∙ c.in-Less.is);
    }

pub returns-in-Greater-clause-position : goal.returns-in-Greater-clause-position
returns-in-Greater-clause-position g c =
    let turn = iter_turn deref c.args.list.now c.loop-element.yielded _ c.loop-element.element-iterator c.next.new.self c.next.result (cc) c.loop-element.yielded_by c.in-Some.element c.in-Some.is c.next.ensures.steps in
    goes_before (g.P.Probe.order_gives c.args.probe.now) c.args.list.now c.loop-element.place _ c.in-Some.element.now c.loop-element.invariant.count c.loop-element.invariant.below turn.1 (sym c.order.ensures ∙ c.in-Greater.is)
