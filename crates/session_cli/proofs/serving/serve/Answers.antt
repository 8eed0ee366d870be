use Rattle.std.proofs.Common.{◌≡◌, ◌+◌, ◌∙◌, ap, arith, refl, inl, inr, subst, sym}
use Rattle.cache_engine.specs.OfTierOpening.Telling.{FailsAs}
use Rattle.session_cli.specs.declared.serving.Status.TheVariants.{NoMemory, SchemaFailed}
use Rattle.session_cli.specs.declared.session.Session.{Session}
use Rattle.session_cli.specs.Timing.{AreLeft}
use Rattle.session_cli.proofs.EndsLaws.{taken_unopened}
use Rattle.session_cli.proofs.OpeningLaws.{bank_failed, disk_failed, is_bank, is_disk, kinds_of, never_taken, not_source, rose_behind, runs_opened, runs_unopened, runs_unstarted}
use Rattle.session_cli.proofs.serving.serve.Goals as goal

pub returns-in_default-clause-runs : goal.returns-in_default-clause-runs
returns-in_default-clause-runs g c = λ settings ms. runs_unstarted g.P.Disk.state g.P.Disk.possible settings (g.S.Source.left c.args.source.now) (g.K.Sink.written c.args.sink.now) (g.C.Clock.coming c.args.clock.now) (g.C.Clock.coming c.args.clock.now) c.args.site.now

pub returns-in_default-new-clause-runs : goal.returns-in_default-new-clause-runs
returns-in_default-new-clause-runs g c = λ settings ms. runs_unstarted g.P.Disk.state g.P.Disk.possible settings (g.S.Source.left c.args.source.now) (g.K.Sink.written c.args.sink.now) (g.C.Clock.coming c.args.clock.now) (g.C.Clock.coming c.args.clock.now) c.args.site.now

pub returns-in_default-new-2-clause-runs : goal.returns-in_default-new-2-clause-runs
returns-in_default-new-2-clause-runs g c = λ settings ms. runs_unstarted g.P.Disk.state g.P.Disk.possible settings (g.S.Source.left c.args.source.now) (g.K.Sink.written c.args.sink.now) (g.C.Clock.coming c.args.clock.now) (g.C.Clock.coming c.args.clock.now) c.args.site.now

pub returns-in-Ok-open-clause-runs : goal.returns-in-Ok-open-clause-runs
returns-in-Ok-open-clause-runs g c = λ settings ms.
    let session : Session = record { engine = c.in-Ok-open.engine; line = c.in-Ok-new.line; output = c.in-Ok-new-2.output } in
    let coming = g.C.Clock.coming c.args.clock.now in
    let left : AreLeft coming 1 (g.C.Clock.coming c.now-start.new.self) = λ n. c.now-start.ensures.rest n ∙ (let e : n + 1 ≡ 1 + n = omega arith in ap coming e) in
    runs_opened g.P.Disk.state g.P.Disk.possible settings c.args.pace c.now-start.result.0 c.in-Ok-open.engine session c.serve_pieces.result _ _ (g.K.Sink.written c.args.sink.now) coming (g.C.Clock.coming c.now-start.new.self) c.args.site.now c.open.new.site
    _ ms c.in-Ok-open.ensures.order refl c.in-Ok-new.ensures c.in-Ok-new-2.ensures c.now-start.ensures.told left c.in-Ok-open.ensures.opens c.in-Ok-open.ensures.cause.bank_later c.in-Ok-open.ensures.cause.shares c.serve_pieces.ensures.serves

pub returns-clause-runs : goal.returns-clause-runs
returns-clause-runs g c = λ settings ms.
    runs_unopened settings c.end_unopened.result _ _ _ c.in-Err.error c.end_unopened.ensures.tells c.now-start.result.0 c.now-start.ensures.told (subst (λ n. FailsAs c.now-start.result.0 n (g.P.Disk.state c.args.site.now) (g.P.Disk.state c.open.new.site) c.in-Err.error) (sym ms) c.in-Err.ensures.cause.failed)
    (λ there certain have. c.in-Err.ensures.fails there settings certain have ms)

pub returns-clause-takes : goal.returns-clause-takes
returns-clause-takes g c = λ input source. taken_unopened input _ c.end_unopened.result (kinds_of c.end_unopened.result _ _ c.in-Err.error c.end_unopened.ensures.tells) source

pub returns-clause-disk : goal.returns-clause-disk
returns-clause-disk g c = λ is. disk_failed c.now-start.result.0 c.args.pace (g.P.Disk.state c.args.site.now) (g.P.Disk.state c.open.new.site) c.in-Err.error c.in-Err.ensures.cause.failed (is_disk c.end_unopened.result _ _ c.in-Err.error c.end_unopened.ensures.tells is)

pub returns-clause-schema : goal.returns-clause-schema
returns-clause-schema g c = λ is. bank_failed c.now-start.result.0 c.args.pace (g.P.Disk.state c.args.site.now) (g.P.Disk.state c.open.new.site) c.in-Err.error c.in-Err.ensures.cause.failed (is_bank c.end_unopened.result _ _ c.in-Err.error c.end_unopened.ensures.tells is)

pub returns-clause-read : goal.returns-clause-read
returns-clause-read g c = λ is. absurd (not_source c.end_unopened.result _ _ c.in-Err.error c.end_unopened.ensures.tells is)

pub returns-in-Ok-open-clause-untaken : goal.returns-in-Ok-open-clause-untaken
returns-in-Ok-open-clause-untaken g c = λ none. absurd (never_taken c.serve_pieces.result c.serve_pieces.result c.serve_pieces.ensures.opened refl none)

pub returns-in-Ok-open-clause-untold : goal.returns-in-Ok-open-clause-untold
returns-in-Ok-open-clause-untold g c = λ either. elim either [
  | inl is ↦ absurd (never_taken c.serve_pieces.result SchemaFailed c.serve_pieces.ensures.opened is refl)
  | inr is ↦ absurd (never_taken c.serve_pieces.result NoMemory c.serve_pieces.ensures.opened is refl)
]

pub returns-in-Ok-open-clause-schema : goal.returns-in-Ok-open-clause-schema
returns-in-Ok-open-clause-schema g c = λ is. absurd (never_taken c.serve_pieces.result SchemaFailed c.serve_pieces.ensures.opened is refl)

pub returns-in-Ok-open-clause-disk : goal.returns-in-Ok-open-clause-disk
returns-in-Ok-open-clause-disk g c = λ is. rose_behind _ _ _ c.in-Ok-open.ensures.cause.disk_later (c.serve_pieces.ensures.disk is)
