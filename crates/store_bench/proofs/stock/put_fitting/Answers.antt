use Rattle.std.proofs.Common.{◌≡◌, true, rules, sym, ap, ◌∙◌}
use Rattle.table_state.specs.Tables.{fits_columns}
use Rattle.store_bench.proofs.StockLaws.{put_holds, same_holds}
use Rattle.store_bench.proofs.stock.put_fitting.Goals as goal

pub returns-in_err-reserve : goal.returns-in_err-reserve
returns-in_err-reserve c = same_holds c.args.columns.now c.args.store.now c.reserve.new.self c.requires c.reserve.ensures.same

pub returns : goal.returns
returns c =
    let yes : c.fits_columns.result ≡ true = search rules in
    put_holds c.args.columns.now c.args.row c.reserve.new.self c.put.new.self
    (sym (c.fits_columns.ensures ∙ ap (fits_columns c.args.columns.now) c.values.ensures) ∙ yes)
    (same_holds c.args.columns.now c.args.store.now c.reserve.new.self c.requires c.reserve.ensures.same) c.put.ensures.put
