use Rattle.std.proofs.Common.{◌∙◌, ◌<◌, ◌≤◌, Ok, Option, ap, arith, length, subst}
use Rattle.std.proofs.lemmas.Bool.{le-ltb, lt-ltb}
use Rattle.sql_subset.specs.Lines as line
use Rattle.sql_subset.specs.declared.request.Line.{Line}
use Rattle.tier_statements.specs.Replies.{reply_to}
use Rattle.cache_engine.proofs.CauseLaws.{refusal_caused, silence_caused}
use Rattle.cache_engine.proofs.RequestLaws.{long_line, misread_line, read_line, silent_line}
use Rattle.cache_engine.proofs.request.request.Goals as goal

pub returns-in-Ok-Some-clause-performs : goal.returns-in-Ok-Some-clause-performs
returns-in-Ok-Some-clause-performs g c =
    let few : length c.args.line.now ≤ 65536 = omega (arith, c.number.ensures, c.if-number-line.false) in
    read_line g.P.Disk.state g.P.Disk.possible c.heed_law.ensures c.args.engine.now.tier c.heed_kept.new.engine.tier c.args.engine.now.doubt
    c.heed_kept.new.engine.doubt c.args.engine.now.journal c.heed_kept.new.engine.journal c.args.site.now c.heed_kept.new.site
    c.args.base.0 c.args.line.now c.in-Ok-Some.line c.heed_kept.result
    (le-ltb 65536 (length c.args.line.now) few)
    (subst (λ (o : Option Line). line.Answers c.args.line.now (Ok o)) c.in-Ok-Some.field-0-is c.in-Ok-Some.ensures)
    c.heed_kept.ensures.cause c.heed_kept.ensures.performs

pub returns-in-Err-clause-performs : goal.returns-in-Err-clause-performs
returns-in-Err-clause-performs g c =
    let few : length c.args.line.now ≤ 65536 = omega (arith, c.number.ensures, c.if-number-line.false) in
    misread_line g.P.Disk.state g.P.Disk.possible c.heed_law.ensures c.args.engine.now.tier c.args.engine.now.doubt c.args.engine.now.journal c.args.site.now c.args.base.0 c.args.line.now c.in-Err.error
    c.refuse-in-Err.result
    (le-ltb 65536 (length c.args.line.now) few) c.in-Err.ensures (c.refuse-in-Err.ensures ∙ ap reply_to c.misread.ensures)

pub returns-in-Err-clause-cause : goal.returns-in-Err-clause-cause
returns-in-Err-clause-cause g c = refusal_caused c.args.engine.now.journal (g.P.Disk.state c.args.site.now) c.misread.result c.refuse-in-Err.result c.refuse-in-Err.ensures

pub returns-in-Ok-None-clause-performs : goal.returns-in-Ok-None-clause-performs
returns-in-Ok-None-clause-performs g c =
    let few : length c.args.line.now ≤ 65536 = omega (arith, c.number.ensures, c.if-number-line.false) in
    silent_line g.P.Disk.state g.P.Disk.possible c.args.engine.now.tier c.args.engine.now.doubt c.args.engine.now.journal c.args.site.now c.args.base.0 c.args.line.now (le-ltb 65536 (length c.args.line.now) few)
    (subst (λ (o : Option Line). line.Answers c.args.line.now (Ok o)) c.in-Ok-None.field-0-is c.in-Ok-None.ensures)

pub returns-in-Ok-None-clause-cause : goal.returns-in-Ok-None-clause-cause
returns-in-Ok-None-clause-cause g c = silence_caused c.args.engine.now.journal (g.P.Disk.state c.args.site.now)

pub returns-then-number-line-clause-performs : goal.returns-then-number-line-clause-performs
returns-then-number-line-clause-performs g c =
    let many : 65536 < length c.args.line.now = omega (arith, c.number.ensures, c.if-number-line.true) in
    long_line g.P.Disk.state g.P.Disk.possible c.heed_law.ensures c.args.engine.now.tier c.args.engine.now.doubt c.args.engine.now.journal c.args.site.now c.args.base.0 c.args.line.now c.refuse.result
    (lt-ltb 65536 (length c.args.line.now) many) (c.refuse.ensures ∙ ap reply_to c.past.ensures)

pub returns-then-number-line-clause-cause : goal.returns-then-number-line-clause-cause
returns-then-number-line-clause-cause g c = refusal_caused c.args.engine.now.journal (g.P.Disk.state c.args.site.now) c.past.result c.refuse.result c.refuse.ensures
