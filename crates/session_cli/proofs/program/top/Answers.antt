use Rattle.std.proofs.Common.{subst, refl, inl, inr, sym, ◌∙◌, ap, lit≤}
use Rattle.command_line.specs.declared.command.Command.TheVariants as command
use Rattle.command_line.specs.declared.settings.Settings.{Settings}
use Rattle.command_line.specs.declared.command.Command.{Command}
use Rattle.command_line.specs.Words.{Asks, texts}
use Rattle.session_cli.specs.declared.commands.End.TheVariants as end
use Rattle.std.proofs.KnownBytes.{Appends-nil}
use Rattle.session_cli.specs.declared.serving.Status.TheVariants.{DiskFailed, NoMemory, SchemaFailed}
use Rattle.session_cli.specs.Ends.{takes_none}
use Rattle.session_cli.specs.Opening.{tier_settings}
use Rattle.session_cli.specs.Timing.{bases_by}
use Rattle.session_cli.proofs.EndsLaws.{taken_unstarted}
use Rattle.session_cli.proofs.OpeningLaws.{runs_unstarted}
use Rattle.session_cli.proofs.CheckLaws.{check_unstarted}
use Rattle.session_cli.proofs.ImportingLaws.{import_unstarted}
use Rattle.session_cli.proofs.TopLaws.{words_of, refused_of, settings_of, bad_of, damage_of_site, damage_untaken, is_damage, is_disk, is_schema, never_both, never_of_site, no_low, none_left, none_left_of}
use Rattle.session_cli.proofs.program.top.Goals as goal

pub returns-in-Err-clause-words : goal.returns-in-Err-clause-words
returns-in-Err-clause-words g c = words_of (texts c.args.words.now) c.args.settings.now c.in-Err.status c.in-Err.ensures

pub returns-in-Err-clause-refused : goal.returns-in-Err-clause-refused
returns-in-Err-clause-refused g c = refused_of (texts c.args.words.now) c.args.settings.now c.in-Err.status c.in-Err.ensures

pub returns-in-Err-clause-settings : goal.returns-in-Err-clause-settings
returns-in-Err-clause-settings g c = settings_of (texts c.args.words.now) c.args.settings.now c.in-Err.status c.in-Err.ensures

pub returns-in-Err-clause-bad : goal.returns-in-Err-clause-bad
returns-in-Err-clause-bad g c = λ task asks bad. bad_of (texts c.args.words.now) c.args.settings.now c.in-Err.status c.in-Err.ensures task asks

pub returns-in-Err-clause-runs : goal.returns-in-Err-clause-runs
returns-in-Err-clause-runs g c = λ asks s set. (NoMemory, none_left (texts c.args.words.now) c.args.settings.now c.in-Err.status c.in-Err.ensures command.Run asks s set, runs_unstarted g.P.Disk.state g.P.Disk.possible (tier_settings s) (g.S.Source.left c.args.source.now) (g.K.Sink.written c.args.sink.now) (bases_by s (g.C.Clock.coming c.args.clock.now)) (bases_by s (g.C.Clock.coming c.args.clock.now)) c.args.site.now)

pub returns-in-Err-clause-checks : goal.returns-in-Err-clause-checks
returns-in-Err-clause-checks g c = λ asks s set. (NoMemory, none_left (texts c.args.words.now) c.args.settings.now c.in-Err.status c.in-Err.ensures command.Check asks s set, λ input start source sink. check_unstarted input start _ _ source sink)

pub returns-in-Err-clause-takes : goal.returns-in-Err-clause-takes
returns-in-Err-clause-takes g c = λ asks s set. (NoMemory, none_left_of (texts c.args.words.now) c.args.settings.now c.in-Err.status c.in-Err.ensures asks s set, λ input source. taken_unstarted input _ source)

pub returns-in-Err-clause-makes : goal.returns-in-Err-clause-makes
returns-in-Err-clause-makes g c = λ m asks s set. (m, asks, end.NoMemory, none_left (texts c.args.words.now) c.args.settings.now c.in-Err.status c.in-Err.ensures (command.Make m) asks s set, (0, Appends-nil _))

pub returns-in-Err-clause-benches : goal.returns-in-Err-clause-benches
returns-in-Err-clause-benches g c = λ m asks s set. (m, asks, end.NoMemory, none_left (texts c.args.words.now) c.args.settings.now c.in-Err.status c.in-Err.ensures (command.Bench m) asks s set, refl)

pub returns-in-Err-clause-imports : goal.returns-in-Err-clause-imports
returns-in-Err-clause-imports g c = λ any asks s set. (any, asks, NoMemory, none_left (texts c.args.words.now) c.args.settings.now c.in-Err.status c.in-Err.ensures (command.Import any) asks s set, import_unstarted g.P.Disk.state g.P.Disk.possible (tier_settings s) any.now (g.S.Source.left c.args.source.now) (g.K.Sink.written c.args.sink.now) (bases_by s (g.C.Clock.coming c.args.clock.now)) (bases_by s (g.C.Clock.coming c.args.clock.now)) c.args.site.now)

pub returns-in-Err-clause-read : goal.returns-in-Err-clause-read
returns-in-Err-clause-read g c = λ three. absurd (no_low (texts c.args.words.now) c.args.settings.now c.in-Err.status 3 c.in-Err.ensures three (lit≤ tt) (lit≤ tt))

pub returns-in-Err-clause-write : goal.returns-in-Err-clause-write
returns-in-Err-clause-write g c = λ four. absurd (no_low (texts c.args.words.now) c.args.settings.now c.in-Err.status 4 c.in-Err.ensures four (lit≤ tt) (lit≤ tt))

pub returns-in-Run-clause-runs : goal.returns-in-Run-clause-runs
returns-in-Run-clause-runs g c = λ asks s set.
    let same = c.settings_law.ensures.one c.args.settings.now s c.in-Ok.asked.settings set c.in-Ok.ensures.1 in
    (c.run.result, c.number.ensures, rw same c.run.ensures.runs)

pub returns-in-Run-clause-unasked : goal.returns-in-Run-clause-unasked
returns-in-Run-clause-unasked g c = λ s set script.
    let same = c.settings_law.ensures.one c.args.settings.now s c.in-Ok.asked.settings set c.in-Ok.ensures.1 in
    c.run.ensures.unasked (sym (ap (λ (x : Settings). x.clock) same) ∙ script)

pub returns-in-Run-clause-bad : goal.returns-in-Run-clause-bad
returns-in-Run-clause-bad g c = λ task asks bad. absurd (bad c.in-Ok.asked.settings c.in-Ok.ensures.1)

pub returns-in-Check-clause-bad : goal.returns-in-Check-clause-bad
returns-in-Check-clause-bad g c = λ task asks bad. absurd (bad c.in-Ok.asked.settings c.in-Ok.ensures.1)

pub returns-in-Run-clause-unread : goal.returns-in-Run-clause-unread
returns-in-Run-clause-unread g c = λ auto. elim auto [
  | inl refuses ↦ absurd (refuses c.in-Ok.ensures.0.0)
  | inr bad ↦ absurd (bad c.in-Ok.asked.settings c.in-Ok.ensures.1)
]

pub returns-in-Check-clause-unread : goal.returns-in-Check-clause-unread
returns-in-Check-clause-unread g c = λ auto. elim auto [
  | inl refuses ↦ absurd (refuses c.in-Ok.ensures.0.0)
  | inr bad ↦ absurd (bad c.in-Ok.asked.settings c.in-Ok.ensures.1)
]

pub returns-in-Err-clause-disk : goal.returns-in-Err-clause-disk
returns-in-Err-clause-disk g c = λ five. absurd (no_low (texts c.args.words.now) c.args.settings.now c.in-Err.status 5 c.in-Err.ensures five (lit≤ tt) (lit≤ tt))

pub returns-in-Run-clause-disk : goal.returns-in-Run-clause-disk
returns-in-Run-clause-disk g c = λ five. c.run.ensures.disk (is_disk c.run.result (sym c.number.ensures ∙ five))

pub returns-in-Run-clause-unopened : goal.returns-in-Run-clause-unopened
returns-in-Run-clause-unopened g c = λ six.
    let is = is_schema c.run.result (sym c.number.ensures ∙ six) in
    (c.run.ensures.untaken (ap takes_none is), c.run.ensures.untold (inl is))

pub returns-in-Run-clause-untaken : goal.returns-in-Run-clause-untaken
returns-in-Run-clause-untaken g c = λ either. c.run.ensures.untaken (damage_untaken c.run.result (elim either [
  | inl eight ↦ inl (sym c.number.ensures ∙ eight)
  | inr nine ↦ inr (sym c.number.ensures ∙ nine)
]))

pub returns-in-Check-clause-disk : goal.returns-in-Check-clause-disk
returns-in-Check-clause-disk g c = λ five. absurd (never_of_site c.check.result DiskFailed c.check.ensures.alone (is_disk c.check.result (sym c.number-in-Check.ensures ∙ five)) refl)

pub returns-in-Check-clause-unopened : goal.returns-in-Check-clause-unopened
returns-in-Check-clause-unopened g c = λ six. absurd (never_of_site c.check.result SchemaFailed c.check.ensures.alone (is_schema c.check.result (sym c.number-in-Check.ensures ∙ six)) refl)

pub returns-in-Check-clause-schema : goal.returns-in-Check-clause-schema
returns-in-Check-clause-schema g c = λ six. absurd (never_of_site c.check.result SchemaFailed c.check.ensures.alone (is_schema c.check.result (sym c.number-in-Check.ensures ∙ six)) refl)

pub returns-in-Check-clause-untaken : goal.returns-in-Check-clause-untaken
returns-in-Check-clause-untaken g c = λ either. absurd (never_both (sym (damage_of_site c.check.result (elim either [
  | inl eight ↦ inl (sym c.number-in-Check.ensures ∙ eight)
  | inr nine ↦ inr (sym c.number-in-Check.ensures ∙ nine)
])) ∙ c.check.ensures.alone))

pub returns-in-Make-clause-bad : goal.returns-in-Make-clause-bad
returns-in-Make-clause-bad g c = λ task asks bad. absurd (bad c.in-Ok.asked.settings c.in-Ok.ensures.1)

pub returns-in-Bench-clause-bad : goal.returns-in-Bench-clause-bad
returns-in-Bench-clause-bad g c = λ task asks bad. absurd (bad c.in-Ok.asked.settings c.in-Ok.ensures.1)

pub returns-in-Make-clause-unread : goal.returns-in-Make-clause-unread
returns-in-Make-clause-unread g c = λ auto. elim auto [
  | inl refuses ↦ absurd (refuses c.in-Ok.ensures.0.0)
  | inr bad ↦ absurd (bad c.in-Ok.asked.settings c.in-Ok.ensures.1)
]

pub returns-in-Bench-clause-unread : goal.returns-in-Bench-clause-unread
returns-in-Bench-clause-unread g c = λ auto. elim auto [
  | inl refuses ↦ absurd (refuses c.in-Ok.ensures.0.0)
  | inr bad ↦ absurd (bad c.in-Ok.asked.settings c.in-Ok.ensures.1)
]

pub returns-in-Import-clause-bad : goal.returns-in-Import-clause-bad
returns-in-Import-clause-bad g c = λ task asks bad. absurd (bad c.in-Ok.asked.settings c.in-Ok.ensures.1)

pub returns-in-Import-clause-unread : goal.returns-in-Import-clause-unread
returns-in-Import-clause-unread g c = λ auto. elim auto [
  | inl refuses ↦ absurd (refuses c.in-Ok.ensures.0.0)
  | inr bad ↦ absurd (bad c.in-Ok.asked.settings c.in-Ok.ensures.1)
]

pub returns-in-Import-clause-disk : goal.returns-in-Import-clause-disk
returns-in-Import-clause-disk g c = λ five. c.import.ensures.disk (is_disk c.import.result (sym c.number-in-Import.ensures ∙ five))

pub returns-in-Import-clause-unopened : goal.returns-in-Import-clause-unopened
returns-in-Import-clause-unopened g c = λ six.
    let is = is_schema c.import.result (sym c.number-in-Import.ensures ∙ six) in
    (c.import.ensures.untaken (inl is), c.import.ensures.untold is)

pub returns-in-Import-clause-untaken : goal.returns-in-Import-clause-untaken
returns-in-Import-clause-untaken g c = λ either. c.import.ensures.untaken (inr (is_damage c.import.result (elim either [
  | inl eight ↦ inl (sym c.number-in-Import.ensures ∙ eight)
  | inr nine ↦ inr (sym c.number-in-Import.ensures ∙ nine)
])))

pub returns-in-Import-clause-unasked : goal.returns-in-Import-clause-unasked
returns-in-Import-clause-unasked g c = λ s set script.
    let same = c.settings_law.ensures.one c.args.settings.now s c.in-Ok.asked.settings set c.in-Ok.ensures.1 in
    c.import.ensures.unasked (sym (ap (λ (x : Settings). x.clock) same) ∙ script)

pub returns-in-Import-clause-imports : goal.returns-in-Import-clause-imports
returns-in-Import-clause-imports g c = λ any asks s set.
    let same = c.settings_law.ensures.one c.args.settings.now s c.in-Ok.asked.settings set c.in-Ok.ensures.1 in
    (c.in-Import.word, subst (λ (task : Command). Asks (texts c.args.words.now) task) c.in-Import.is c.in-Ok.ensures.0, c.import.result, c.number-in-Import.ensures, rw same c.import.ensures.imports)
