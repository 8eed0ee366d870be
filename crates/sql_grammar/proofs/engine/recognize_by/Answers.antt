use Rattle.std.proofs.Common.{add-one, ◌<◌, length, arith}
use Rattle.std.proofs.lemmas.List.{length-map}
use Rattle.sql_grammar.specs.Machine.{view}
use Rattle.sql_grammar.specs.Verdict.{kinds_of}
use Rattle.sql_grammar.proofs.Run.{took, wrong, deep, ended}
use Rattle.sql_grammar.proofs.engine.recognize_by.Goals as goal

pub loop-stack-smaller : goal.loop-stack-smaller
loop-stack-smaller c =
    let t = took (view c.args.grammar.now) (kinds_of c.args.tokens.now) c.loop-stack.i _ _ c.loop-stack.invariant
    (rw (c.token_at-next.ensures, c.in-Took.is) at c.in_ok-done.ensures.settles) in
    let w : c.loop-stack.i < length c.args.tokens.now = rw length-map at t.0 in
    omega arith

pub loop-stack-preserved : goal.loop-stack-preserved
loop-stack-preserved c =
    rw add-one (took (view c.args.grammar.now) (kinds_of c.args.tokens.now) c.loop-stack.i _ _ c.loop-stack.invariant
    (rw (c.token_at-next.ensures, c.in-Took.is) at c.in_ok-done.ensures.settles)).1

pub returns-in-Deep : goal.returns-in-Deep
returns-in-Deep c =
    deep (view c.args.grammar.now) (kinds_of c.args.tokens.now) c.loop-stack.i _ _ c.loop-stack.invariant
    (rw (c.token_at-next.ensures, c.in-Deep.is) at c.in_ok-done.ensures.settles)

pub returns-in-Ended : goal.returns-in-Ended
returns-in-Ended c =
    ended (view c.args.grammar.now) (kinds_of c.args.tokens.now) c.loop-stack.i _ _ c.loop-stack.invariant
    (rw (c.token_at-next.ensures, c.in-Ended.is) at c.in_ok-done.ensures.settles)

pub returns-in-Wrong : goal.returns-in-Wrong
returns-in-Wrong c =
    wrong (view c.args.grammar.now) (kinds_of c.args.tokens.now) c.loop-stack.i _ _ c.loop-stack.invariant
    (rw (c.token_at-next.ensures, c.in-Wrong.is) at c.in_ok-done.ensures.settles)
