use Rattle.session_engine.proofs.DoubtLaws.{ready_none}
use Rattle.cache_engine.proofs.EngineLaws.{ended}
use Rattle.cache_engine.proofs.LineLaws.{clock_told, console_performed}
use Rattle.cache_engine.proofs.CauseLaws.{caused_bank, done_caused}
use Rattle.std.proofs.Common.{Some}
use Rattle.sql_subset.specs.declared.request.Line.TheVariants as says
use Rattle.stored_tier.specs.Performing.{reply_of}
use Rattle.cache_engine.specs.Serving.{DoesAdmitted}
use Rattle.cache_engine.proofs.statement.do_line.Goals as goal

pub returns-in-Session-clause-performs : goal.returns-in-Session-clause-performs
returns-in-Session-clause-performs g c = rw c.in-Session.is c.do_request.ensures.performs

pub returns-in-Console-clause-performs : goal.returns-in-Console-clause-performs
returns-in-Console-clause-performs g c =
    rw c.in-Console.is
    (ended g.P.Disk.state g.P.Disk.possible c.args.tier.now c.serve_console.new.tier c.args.doubt.now c.args.journal.now c.args.journal.now
    c.args.site.now c.serve_console.new.site (Some (reply_of c.serve_console.result))
    (λ w w'. DoesAdmitted (says.Console c.in-Console.request) w w' (reply_of c.serve_console.result)) c.requires.free
    (console_performed g.P.Disk.state g.P.Disk.possible c.args.tier.now c.serve_console.new.tier c.args.journal.now c.args.site.now
    c.serve_console.new.site c.in-Console.request (reply_of c.serve_console.result) c.serve_console.ensures.certain
    c.serve_console.ensures.grown c.serve_console.ensures.performs))

pub returns-in-Console-clause-cause : goal.returns-in-Console-clause-cause
returns-in-Console-clause-cause g c =
    caused_bank c.args.journal.now (g.P.Disk.state c.args.site.now) (g.P.Disk.state c.serve_console.new.site) (reply_of c.serve_console.result)
    c.serve_console.ensures.disk c.serve_console.ensures.cause

pub returns-in-Clock-clause-performs : goal.returns-in-Clock-clause-performs
returns-in-Clock-clause-performs g c = rw c.in-Clock.is
    (ended g.P.Disk.state g.P.Disk.possible c.args.tier.now c.args.tier.now c.args.doubt.now c.args.journal.now c.args.journal.now c.args.site.now
    c.args.site.now (Some c.done.result) (λ w w'. DoesAdmitted (says.Clock c.in-Clock.field-0) w w' c.done.result)
    c.requires.free
    (clock_told g.P.Disk.state g.P.Disk.possible c.args.tier.now c.args.journal.now c.args.site.now c.in-Clock.field-0 c.done.result c.done.ensures))

pub returns-in-Clock-clause-cause : goal.returns-in-Clock-clause-cause
returns-in-Clock-clause-cause g c = done_caused c.args.journal.now (g.P.Disk.state c.args.site.now) c.args.tier.now.clock.added c.done.result c.done.ensures

pub returns-in-Console-clause-ready : goal.returns-in-Console-clause-ready
returns-in-Console-clause-ready g c = ready_none c.serve_console.new.tier c.args.doubt.now c.requires.free

pub returns-in-Clock-clause-ready : goal.returns-in-Clock-clause-ready
returns-in-Clock-clause-ready g c = ready_none c.args.tier.now c.args.doubt.now c.requires.free
