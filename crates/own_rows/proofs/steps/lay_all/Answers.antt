-- Each step is one of those that are left.
use Rattle.std.proofs.Common.{◌≡◌, ◌<◌, length, sym, ap, subst, rules, arith}
use Rattle.own_rows.specs.Laying.{AreReady, HaveRoom, stepped_all}
use Rattle.own_rows.proofs.StepLaws.{step_room, step_within, steps_done, steps_room}
use Rattle.own_rows.proofs.steps.lay_all.Goals as goal

pub lay-requires-clause-within : goal.lay-requires-clause-within
lay-requires-clause-within c = let w = (step_within _ _ _ _ c.in-Some.ensures.steps.0 _ c.loop-one.invariant.ready).0 in let l = c.loop-one.auto.own in omega arith

pub lay-requires-clause-room : goal.lay-requires-clause-room
lay-requires-clause-room c = step_room _ _ _ _ c.in-Some.ensures.steps.0 _ c.loop-one.invariant.room

pub lay-requires-clause-ready : goal.lay-requires-clause-ready
lay-requires-clause-ready c = (step_within _ _ _ _ c.in-Some.ensures.steps.0 _ c.loop-one.invariant.ready).1

pub loop-one-preserved : goal.loop-one-preserved
loop-one-preserved c =
    let lt : c.in-Some.one.0.0 < length c.loop-one.own = (let w = (step_within _ _ _ _ c.in-Some.ensures.steps.0 _ c.loop-one.invariant.ready).0 in let l = c.loop-one.auto.own in omega arith) in
    record {
      rest = steps_done _ _ _ _ c.in-Some.ensures.steps.0 _ _ c.lay.ensures lt _ c.loop-one.invariant.rest;
      ready = (step_within _ _ _ _ c.in-Some.ensures.steps.0 _ c.loop-one.invariant.ready).2;
      room = steps_room _ _ _ _ c.in-Some.ensures.steps.0 _ _ c.lay.ensures lt c.loop-one.invariant.room;
    }

pub loop-one-init : goal.loop-one-init
loop-one-init c =
    let items : c.into_iter-one-iterator.result.rest.items ≡ c.args.steps = search rules in
    record {
      rest = ap (λ l. stepped_all l c.args.own.now) items;
      ready = subst (AreReady (length c.args.own.now)) (sym items) c.requires.ready;
      room = subst (λ l. HaveRoom (length l) c.args.own.now) (sym items) c.requires.room;
    }
