use Rattle.std.proofs.Common.{◌≡◌, Bool, true, rules, subst}
use Rattle.script_maker.specs.Giving.{Gives}
use Rattle.cache_engine.proofs.RequestLaws.{goes_on}
use Rattle.session_cli.proofs.RunningLaws.{answers_one, unshared_at}
use Rattle.session_cli.proofs.running.answer_next.Goals as goal

pub returns-clause-answers : goal.returns-clause-answers
returns-clause-answers g c = λ w at left.
    let yes : c.in_ok-more.more ≡ true = search (rules, c.if-not-more.false) in
    let told : Gives c.args.lines.now c.put_next.new.self c.args.line.now.items c.put_next.new.out.items true =
    subst (λ (b : Bool). Gives c.args.lines.now c.put_next.new.self c.args.line.now.items c.put_next.new.out.items b) yes c.in_ok-more.ensures
    in
    let gives : Gives c.args.lines.now c.put_next.new.self c.args.line.now.items c.as_slice.result.now true = rw c.as_slice.ensures.value told in
    answers_one w c.args.lines.now c.put_next.new.self c.args.line.now.items c.as_slice.result.now c.args.counts.now c.with.result c.request-reply.result c.request-reply.new.engine _
    gives c.requires.clear c.with.ensures (goes_on g.P.Disk.state g.P.Disk.possible c.args.engine.now c.request-reply.new.engine c.args.site.now c.request-reply.new.site 0
    c.as_slice.result.now c.request-reply.result c.request-reply.ensures.cause c.request-reply.ensures.none
    c.request-reply.ensures.performs w at left (unshared_at w _ at c.requires.unshared))
