use Rattle.session_engine.proofs.DoubtLaws.{ready_none}
use Rattle.cache_engine.proofs.LineLaws.{close_performed, open_performed, statement_led}
use Rattle.cache_engine.proofs.EngineLaws.{ended}
use Rattle.cache_engine.proofs.CauseLaws.{caused_bank}
use Rattle.std.proofs.Common.{Some, refl}
use Rattle.sql_subset.specs.declared.request.Line.TheVariants as says
use Rattle.sql_subset.specs.declared.request.Request.TheVariants as asks_for
use Rattle.stored_tier.specs.Performing.{reply_of}
use Rattle.cache_engine.specs.Serving.{DoesAdmitted}
use Rattle.cache_engine.proofs.statement.do_request.Goals as goal

pub returns-in-Open-clause-performs : goal.returns-in-Open-clause-performs
returns-in-Open-clause-performs g c =
    rw c.in-Open.is
    (ended g.P.Disk.state g.P.Disk.possible c.args.tier.now c.open_session.new.tier c.args.doubt.now c.args.journal.now c.args.journal.now
    c.args.site.now c.args.site.now (Some (reply_of c.open_session.result))
    (λ w w'. DoesAdmitted (says.Session c.args.label.now (asks_for.Open c.in-Open.options)) w w' (reply_of c.open_session.result))
    c.requires.free
    (open_performed g.P.Disk.state g.P.Disk.possible c.args.tier.now c.open_session.new.tier c.args.journal.now c.args.site.now c.args.label.now c.in-Open.options c.open_session.result
    c.open_session.ensures.performs))

pub returns-in-Open-clause-cause : goal.returns-in-Open-clause-cause
returns-in-Open-clause-cause g c =
    caused_bank c.args.journal.now (g.P.Disk.state c.args.site.now) (g.P.Disk.state c.args.site.now) (reply_of c.open_session.result) refl
    (c.open_session.ensures.calm _)

pub returns-in_ok-id-in-Close-clause-performs : goal.returns-in_ok-id-in-Close-clause-performs
returns-in_ok-id-in-Close-clause-performs g c =
    rw c.in-Close.is
    (ended g.P.Disk.state g.P.Disk.possible c.args.tier.now c.close_session.new.tier c.args.doubt.now c.args.journal.now c.args.journal.now
    c.args.site.now c.args.site.now (Some (reply_of c.close_session.result))
    (λ w w'. DoesAdmitted (says.Session c.args.label.now asks_for.Close) w w' (reply_of c.close_session.result))
    c.requires.free
    (close_performed g.P.Disk.state g.P.Disk.possible c.args.tier.now c.close_session.new.tier c.args.journal.now c.args.site.now c.args.label.now c.in_ok-id-in-Close.id c.close_session.result
    c.in_ok-id-in-Close.ensures.found (c.close_session.ensures.performs _)))

pub returns-in_ok-id-in-Close-clause-cause : goal.returns-in_ok-id-in-Close-clause-cause
returns-in_ok-id-in-Close-clause-cause g c =
    caused_bank c.args.journal.now (g.P.Disk.state c.args.site.now) (g.P.Disk.state c.args.site.now) (reply_of c.close_session.result) refl
    (c.close_session.ensures.calm _)

pub returns-in_ok-text-in-Statement-clause-performs : goal.returns-in_ok-text-in-Statement-clause-performs
returns-in_ok-text-in-Statement-clause-performs g c =
    rw c.in-Statement.is
    (statement_led g.P.Disk.state g.P.Disk.possible c.args.tier.now c.execute.new.tier c.execute.new.doubt c.args.journal.now c.execute.new.journal
    c.args.site.now c.execute.new.site c.args.label.now c.in_ok-id-in-Statement.id
    c.in-Statement.statement c.execute.result c.in_ok-id-in-Statement.ensures.found c.execute.ensures.performs)

pub returns-in-Open-clause-ready : goal.returns-in-Open-clause-ready
returns-in-Open-clause-ready g c = ready_none c.open_session.new.tier c.args.doubt.now c.requires.free

pub returns-in_ok-id-in-Close-clause-ready : goal.returns-in_ok-id-in-Close-clause-ready
returns-in_ok-id-in-Close-clause-ready g c = ready_none c.close_session.new.tier c.args.doubt.now c.requires.free
