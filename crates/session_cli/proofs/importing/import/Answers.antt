use Rattle.std.proofs.Common.{◌∙◌, Err, ap, refl, subst, sym}
use Rattle.cache_engine.specs.OfTierOpening.Telling.{FailsAs}
use Rattle.session_cli.specs.declared.serving.Status.TheVariants.{Finished, InputTooLong, NoMemory, SinkFailed, SourceFailed}
use Rattle.session_cli.specs.Opening.{tier_settings}
use Rattle.session_cli.specs.Timing.{bases_by}
use Rattle.session_cli.proofs.ImportingLaws.{import_bank, import_disk, import_not_source, import_opened, import_unopened, import_unstarted, imports_nothing, imported_cut, imported_well}
use Rattle.session_cli.proofs.OpeningLaws.{bank_failed, disk_failed}
use Rattle.session_cli.proofs.importing.import.Goals as goal

pub returns-in_default-clause-imports : goal.returns-in_default-clause-imports
returns-in_default-clause-imports g c = import_unstarted g.P.Disk.state g.P.Disk.possible (tier_settings c.args.settings.now) c.args.word.now (g.S.Source.left c.args.source.now) (g.K.Sink.written c.args.sink.now)
    (bases_by c.args.settings.now (g.C.Clock.coming c.args.clock.now)) (bases_by c.args.settings.now (g.C.Clock.coming c.args.clock.now)) c.args.site.now

pub returns-in_default-new-clause-imports : goal.returns-in_default-new-clause-imports
returns-in_default-new-clause-imports g c = import_unstarted g.P.Disk.state g.P.Disk.possible (tier_settings c.args.settings.now) c.args.word.now (g.S.Source.left c.args.source.now) (g.K.Sink.written c.args.sink.now)
    (bases_by c.args.settings.now (g.C.Clock.coming c.args.clock.now)) (bases_by c.args.settings.now (g.C.Clock.coming c.args.clock.now)) c.args.site.now

pub returns-in-Err-clause-imports : goal.returns-in-Err-clause-imports
returns-in-Err-clause-imports g c =
    import_unopened (tier_settings c.args.settings.now) c.args.word.now c.end_unopened.result _ _ _ c.in-Err.error c.end_unopened.ensures.tells c.first_moment-start.result.0 c.first_moment-start.ensures.next
    (subst (λ n. FailsAs c.first_moment-start.result.0 n (g.P.Disk.state c.args.site.now) (g.P.Disk.state c.open.new.site) c.in-Err.error) c.pace_in.ensures c.in-Err.ensures.cause.failed)
    (λ there certain have. c.in-Err.ensures.fails there (tier_settings c.args.settings.now) certain have (sym c.pace_in.ensures))

pub returns-in-Err-clause-read : goal.returns-in-Err-clause-read
returns-in-Err-clause-read g c = λ is. absurd (import_not_source c.end_unopened.result _ _ c.in-Err.error c.end_unopened.ensures.tells is)

pub returns-in-Err-clause-disk : goal.returns-in-Err-clause-disk
returns-in-Err-clause-disk g c = λ is. disk_failed c.first_moment-start.result.0 c.pace_in.result (g.P.Disk.state c.args.site.now) (g.P.Disk.state c.open.new.site) c.in-Err.error c.in-Err.ensures.cause.failed (import_disk c.end_unopened.result _ _ c.in-Err.error c.end_unopened.ensures.tells is)

pub returns-in-Err-clause-schema : goal.returns-in-Err-clause-schema
returns-in-Err-clause-schema g c = λ is. bank_failed c.first_moment-start.result.0 c.pace_in.result (g.P.Disk.state c.args.site.now) (g.P.Disk.state c.open.new.site) c.in-Err.error c.in-Err.ensures.cause.failed (import_bank c.end_unopened.result _ _ c.in-Err.error c.end_unopened.ensures.tells is)

pub returns-in-Err-Source-clause-imports : goal.returns-in-Err-Source-clause-imports
returns-in-Err-Source-clause-imports g c =
    import_opened g.P.Disk.state g.P.Disk.possible (tier_settings c.args.settings.now) c.pace_in.result c.first_moment-start.result.0 c.in-Ok-open.engine SourceFailed c.args.word.now _ _ (g.K.Sink.written c.args.sink.now)
    (bases_by c.args.settings.now (g.C.Clock.coming c.args.clock.now)) c.args.site.now c.open.new.site _ (sym c.pace_in.ensures) c.first_moment-start.ensures.next c.in-Ok-open.ensures.opens c.in-Ok-open.ensures.doubt c.in-Ok-open.ensures.cause.bank_later c.in-Ok-open.ensures.cause.shares
    (λ w input at stored keeps kept is. (c.take_all.ensures.failed (c.in-Err-Source.is ∙ ap Err c.in-Err-Source.field-0-is) input is, imports_nothing g.P.Disk.state g.P.Disk.possible c.open.new.site c.in-Ok-open.engine.journal w _ _ at keeps kept _ refl))

pub returns-in-Err-TooLong-clause-imports : goal.returns-in-Err-TooLong-clause-imports
returns-in-Err-TooLong-clause-imports g c =
    import_opened g.P.Disk.state g.P.Disk.possible (tier_settings c.args.settings.now) c.pace_in.result c.first_moment-start.result.0 c.in-Ok-open.engine InputTooLong c.args.word.now _ _ (g.K.Sink.written c.args.sink.now)
    (bases_by c.args.settings.now (g.C.Clock.coming c.args.clock.now)) c.args.site.now c.open.new.site _ (sym c.pace_in.ensures) c.first_moment-start.ensures.next c.in-Ok-open.ensures.opens c.in-Ok-open.ensures.doubt c.in-Ok-open.ensures.cause.bank_later c.in-Ok-open.ensures.cause.shares
    (λ w input at stored keeps kept is. (c.take_all.ensures.long (c.in-Err-TooLong.is ∙ ap Err c.in-Err-TooLong.field-0-is) input is, imports_nothing g.P.Disk.state g.P.Disk.possible c.open.new.site c.in-Ok-open.engine.journal w _ _ at keeps kept _ refl))

pub returns-in-Err-Memory-clause-imports : goal.returns-in-Err-Memory-clause-imports
returns-in-Err-Memory-clause-imports g c =
    import_opened g.P.Disk.state g.P.Disk.possible (tier_settings c.args.settings.now) c.pace_in.result c.first_moment-start.result.0 c.in-Ok-open.engine NoMemory c.args.word.now _ _ (g.K.Sink.written c.args.sink.now)
    (bases_by c.args.settings.now (g.C.Clock.coming c.args.clock.now)) c.args.site.now c.open.new.site _ (sym c.pace_in.ensures) c.first_moment-start.ensures.next c.in-Ok-open.ensures.opens c.in-Ok-open.ensures.doubt c.in-Ok-open.ensures.cause.bank_later c.in-Ok-open.ensures.cause.shares
    (λ w input at stored keeps kept is. imports_nothing g.P.Disk.state g.P.Disk.possible c.open.new.site c.in-Ok-open.engine.journal w _ _ at keeps kept _ refl)

pub returns-in-Ok-import_and_tell-clause-imports : goal.returns-in-Ok-import_and_tell-clause-imports
returns-in-Ok-import_and_tell-clause-imports g c =
    import_opened g.P.Disk.state g.P.Disk.possible (tier_settings c.args.settings.now) c.pace_in.result c.first_moment-start.result.0 c.in-Ok-open.engine Finished c.args.word.now _ _ (g.K.Sink.written c.args.sink.now)
    (bases_by c.args.settings.now (g.C.Clock.coming c.args.clock.now)) c.args.site.now c.open.new.site _ (sym c.pace_in.ensures) c.first_moment-start.ensures.next c.in-Ok-open.ensures.opens c.in-Ok-open.ensures.doubt c.in-Ok-open.ensures.cause.bank_later c.in-Ok-open.ensures.cause.shares
    (λ w input at stored keeps kept is.
    let t = c.in-Ok-take_all.ensures.all input is in
    record {
      whole = t.whole;
      imported = imported_well c.import_and_tell.result _ c.args.word.now input c.as_slice-bytes.result.now w _ _ _ c.in-Ok-import_and_tell.is (c.as_slice-bytes.ensures.value ∙ t.bytes_are) (c.import_and_tell.ensures.imports w at stored keeps kept);
    })

pub returns-clause-imports : goal.returns-clause-imports
returns-clause-imports g c =
    import_opened g.P.Disk.state g.P.Disk.possible (tier_settings c.args.settings.now) c.pace_in.result c.first_moment-start.result.0 c.in-Ok-open.engine SinkFailed c.args.word.now _ _ (g.K.Sink.written c.args.sink.now)
    (bases_by c.args.settings.now (g.C.Clock.coming c.args.clock.now)) c.args.site.now c.open.new.site _ (sym c.pace_in.ensures) c.first_moment-start.ensures.next c.in-Ok-open.ensures.opens c.in-Ok-open.ensures.doubt c.in-Ok-open.ensures.cause.bank_later c.in-Ok-open.ensures.cause.shares
    (λ w input at stored keeps kept is.
    let t = c.in-Ok-take_all.ensures.all input is in
    record {
      whole = t.whole;
      imported = imported_cut c.import_and_tell.result _ c.args.word.now input c.as_slice-bytes.result.now w _ _ _ c.in-Err-import_and_tell.is (c.as_slice-bytes.ensures.value ∙ t.bytes_are) (c.import_and_tell.ensures.imports w at stored keeps kept);
    })
