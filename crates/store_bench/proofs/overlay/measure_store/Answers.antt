use Rattle.std.proofs.Common.{◌<◌, ◌^◌, ap, subst, sym, ◌∙◌}
use Rattle.group_store.specs.Shown.{shown_by}
use Rattle.store_bench.specs.Measured.{IsReadable}
use Rattle.store_bench.proofs.StockLaws.{readable}
use Rattle.store_bench.proofs.overlay.measure_store.Goals as goal

pub measure_scan-requires : goal.measure_scan-requires
measure_scan-requires c =
    subst IsReadable (sym (c.new-shown.ensures ∙ ap (shown_by c.args.schema.now) c.from_ref-stores.ensures.value))
    (readable c.args.schema.now c.args.store.now c.requires c.len-rows.ensures.keyed (subst (λ n. n < 2 ^ 63) c.len-rows.ensures.value c.len-rows.ensures.fits))
