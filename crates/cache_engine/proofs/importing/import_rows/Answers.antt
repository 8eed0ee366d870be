use Rattle.std.proofs.Common.{sym, ◌∙◌}
use Rattle.propagators.proofs.CertainLaws.{bank_certain}
use Rattle.cache_engine.proofs.ImportingLaws.{import_done, some_items}
use Rattle.cache_engine.proofs.importing.import_rows.Goals as goal

pub returns-else-is_empty-clause-serves : goal.returns-else-is_empty-clause-serves
returns-else-is_empty-clause-serves g c =
    import_done c.args.engine.now.tier c.args.word.now c.args.bytes.now _ _ c.in-Ok.inserts _ c.foreign-end.result _
    c.as_slice.ensures.value (some_items _ _ _ c.as_slice.ensures.len c.as_slice.ensures.value (sym c.is_empty.ensures ∙ c.if-is_empty.false)) c.in-Ok.ensures c.foreign-end.ensures.told c.foreign-end.ensures.cause.later c.foreign-end.ensures.crash.later
    c.foreign-end.ensures.cause.shared c.reply_to_writes.ensures

pub returns-else-is_empty-clause-certain : goal.returns-else-is_empty-clause-certain
returns-else-is_empty-clause-certain g c =
    bank_certain g.P.Disk.state g.P.Disk.possible g.met.P.Disk.certain c.args.site.now c.foreign-end.new.self _
    c.foreign-end.ensures.told c.foreign-end.ensures.crash
