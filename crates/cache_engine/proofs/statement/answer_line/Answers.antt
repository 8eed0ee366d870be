use Rattle.session_engine.proofs.DoubtLaws.{ready_none}
use Rattle.cache_tier.specs.Worlds.{only}
use Rattle.cache_tier.specs.declared.reply.Last.TheVariants.{Done}
use Rattle.cache_engine.proofs.LineLaws.{asked_end, asked_on, asked_refused}
use Rattle.cache_engine.proofs.CauseLaws.{caused_bank, caused_on, refused_on}
use Rattle.cache_engine.proofs.statement.answer_line.Goals as goal

pub returns-in-Err-clause-performs : goal.returns-in-Err-clause-performs
returns-in-Err-clause-performs g c =
    asked_end g.P.Disk.state g.P.Disk.possible c.args.tier.now c.ask_schema.new.tier c.args.doubt.now c.args.journal.now c.args.site.now
    c.ask_schema.new.site c.args.line c.in-Err.reply c.requires.free c.in-Err.ensures.certain c.in-Err.ensures.grown
    c.in-Err.ensures.performs

pub returns-in-Err-clause-cause : goal.returns-in-Err-clause-cause
returns-in-Err-clause-cause g c =
    caused_bank c.args.journal.now (g.P.Disk.state c.args.site.now) (g.P.Disk.state c.ask_schema.new.site) c.in-Err.reply c.in-Err.ensures.disk
    c.in-Err.ensures.cause

pub returns-in-Ok-do_line-clause-performs : goal.returns-in-Ok-do_line-clause-performs
returns-in-Ok-do_line-clause-performs g c =
    asked_on g.P.Disk.state g.P.Disk.possible c.args.tier.now c.ask_schema.new.tier c.do_line.new.tier c.do_line.new.doubt c.args.journal.now
    c.do_line.new.journal c.args.site.now c.ask_schema.new.site c.do_line.new.site c.args.line c.in-Ok-do_line.reply
    c.in-Ok.ensures.certain c.in-Ok.ensures.grown c.in-Ok.ensures.performs c.in-Ok-do_line.ensures.performs

pub returns-in-Err-do_line-clause-performs : goal.returns-in-Err-do_line-clause-performs
returns-in-Err-do_line-clause-performs g c =
    asked_refused g.P.Disk.state g.P.Disk.possible c.args.tier.now c.ask_schema.new.tier c.do_line.new.tier c.do_line.new.doubt c.args.journal.now
    c.do_line.new.journal c.args.site.now c.ask_schema.new.site c.do_line.new.site c.args.line c.in-Err-do_line.refused
    c.refuse.result c.refuse.ensures c.in-Ok.ensures.certain c.in-Ok.ensures.grown c.in-Ok.ensures.performs c.in-Err-do_line.ensures.performs

pub returns-in-Ok-do_line-clause-cause : goal.returns-in-Ok-do_line-clause-cause
returns-in-Ok-do_line-clause-cause g c =
    caused_on c.args.journal.now (g.P.Disk.state c.args.site.now) (g.P.Disk.state c.ask_schema.new.site) (g.P.Disk.state c.do_line.new.site)
    (only (Done 0)) c.in-Ok-do_line.reply c.in-Ok.ensures.disk c.in-Ok.ensures.cause c.in-Ok-do_line.ensures.cause

pub returns-in-Err-do_line-clause-cause : goal.returns-in-Err-do_line-clause-cause
returns-in-Err-do_line-clause-cause g c =
    refused_on c.args.journal.now (g.P.Disk.state c.args.site.now) (g.P.Disk.state c.ask_schema.new.site) (g.P.Disk.state c.do_line.new.site)
    (only (Done 0)) c.in-Err-do_line.refused c.refuse.result c.refuse.ensures c.in-Ok.ensures.disk c.in-Ok.ensures.cause
    c.in-Err-do_line.ensures.cause

pub returns-in-Err-clause-ready : goal.returns-in-Err-clause-ready
returns-in-Err-clause-ready g c = ready_none c.ask_schema.new.tier c.args.doubt.now c.requires.free
