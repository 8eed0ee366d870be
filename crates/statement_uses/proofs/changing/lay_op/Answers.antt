use Rattle.std.proofs.Common.{◌+◌, ◌∷◌, [], subst, sym}
use Rattle.own_rows.specs.Laying.{AreStepsOf, HaveRoom}
use Rattle.tier_statements.proofs.JudgeLaws.{one_step, step_room}
use Rattle.statement_uses.proofs.changing.lay_op.Goals as goal

pub lay-requires-clause-room : goal.lay-requires-clause-room
lay-requires-clause-room c =
    step_room c.args.schema.now c.args.op.now c.args.own.now c.in_ok-steps.steps c.from_ref.result.now c.from_ref.ensures.value c.in_ok-steps.ensures c.requires.wide c.requires.room

pub returns-clause-rows : goal.returns-clause-rows
returns-clause-rows c = λ ops rows.
    c.lay.ensures.rows c.args.schema.now ops (c.args.op.now ∷ []) c.requires.wide
    (subst (λ l. AreStepsOf c.args.schema.now l c.in_ok-steps.steps) c.from_ref.ensures.value c.in_ok-steps.ensures) rows

pub returns-clause-room : goal.returns-clause-room
returns-clause-room c = λ n room.
    c.lay.ensures.room n
    (subst (λ k. HaveRoom (k + n) c.args.own.now)
    (sym (one_step c.args.schema.now c.args.op.now c.args.own.now c.in_ok-steps.steps c.from_ref.result.now c.from_ref.ensures.value c.in_ok-steps.ensures c.requires.wide)) room)
