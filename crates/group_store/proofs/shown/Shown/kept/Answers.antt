use Rattle.std.proofs.Common.{◌∙◌, Some, ap, sym, arith}
use Rattle.std.proofs.lemmas.Option.{slice_get-get_or}
use Rattle.slot_rows.specs.indexed_rows.proofs.EntryLaws.{read}
use Rattle.group_store.proofs.HomeLaws.{its_home, none_shown, shows_table, store_there}
use Rattle.group_store.proofs.shown.Shown.kept.Goals as goal

pub returns-in-None : goal.returns-in-None
returns-in-None c =
    let s = c.args.self.now in
    none_shown s.schema.now s.stores.now s.directory.now s.fits c.args.table c.in-None.ensures

pub returns-in-None-get : goal.returns-in-None-get
returns-in-None-get c =
    let s = c.args.self.now in
    let home = c.in-Some.field-0 in
    let there = store_there s.schema.now s.stores.now s.directory.now s.fits c.args.table home c.in-Some.ensures in
    let store = (its_home s.schema.now s.stores.now s.directory.now s.fits c.args.table home c.in-Some.ensures).store in
    let lt = (read s.stores.now home.store store store there).0 in
    absurd (omega (arith, lt, c.in-None-get.ensures.lookup.3, c.in-Some.store-is))

pub returns-in-Some-get : goal.returns-in-Some-get
returns-in-Some-get c =
    let s = c.args.self.now in
    let home = c.in-Some.field-0 in
    let got = c.in-Some-get.ensures.lookup.3 in
    let there = slice_get-get_or s.stores.now home.store c.in-Some-get.kept.now got.0 ∙ ap Some (sym (got.1 c.in-Some-get.kept.now)) in
    shows_table s.schema.now s.stores.now s.directory.now s.fits c.args.table home c.in-Some.ensures c.in-Some-get.kept.now there
