use Rattle.std.proofs.Common.{◌∙◌}
use Rattle.store_bench.proofs.StockLaws.{new_holds}
use Rattle.store_bench.proofs.stock.empty_store.Goals as goal

pub returns : goal.returns
returns c =
    new_holds c.args.columns.now c.in_ok-store.store _ _ c.in_ok-store.ensures
    (c.from_vec-key.ensures ∙ c.in_ok-from_array.ensures.items) c.new-none.ensures
