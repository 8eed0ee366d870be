use Rattle.session_cli.proofs.ImportingLaws.{imported, puts_by, puts_front}
use Rattle.session_cli.proofs.importing.import_and_tell.Goals as goal

pub returns-in_default-clause-imports : goal.returns-in_default-clause-imports
returns-in_default-clause-imports g c =
    imported g.P.Disk.state g.P.Disk.possible _ c.args.word.now _ c.args.bytes.now c.args.engine.now.tier c.args.engine.now.journal c.args.site.now c.import_rows-reply.new.site c.import_rows-reply.result _ _ c.as_bytes.ensures.value c.import_rows-reply.ensures.serves c.import_rows-reply.ensures.certain
    (puts_front _ _ c.args.output.now _ c.requires c.in_default.ensures.bytes)

pub returns-clause-imports : goal.returns-clause-imports
returns-clause-imports g c =
    imported g.P.Disk.state g.P.Disk.possible c.flush.result c.args.word.now _ c.args.bytes.now c.args.engine.now.tier c.args.engine.now.journal c.args.site.now c.import_rows-reply.new.site c.import_rows-reply.result _ _ c.as_bytes.ensures.value c.import_rows-reply.ensures.serves c.import_rows-reply.ensures.certain
    (puts_by c.flush.result _ _ _ c.args.output.now _ _ _ c.requires c.in-Ok.ensures.bytes c.flush.ensures.bytes c.flush.ensures.empty)
