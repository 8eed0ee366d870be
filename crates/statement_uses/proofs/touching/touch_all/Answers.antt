use Rattle.std.proofs.Common.{ap, sym, ◌∙◌}
use Rattle.std.specs.FinMap.{contains_key}
use Rattle.instances.specs.Views.{kept_at}
use Rattle.statement_uses.proofs.TouchLaws.{among_them, got_item, newest_step, touch_step}
use Rattle.statement_uses.proofs.touching.touch_all.Goals as goal

pub loop-root-preserved : goal.loop-root-preserved
loop-root-preserved c =
    let i = c.loop-root.root-index in
    let at = got_item c.args.roots.now i _ c.loop-root-test.true c.root-item.is in
    record {
      touched = sym (touch_step c.args.roots.now i _ c.loop-root.store c.touch.new.self at c.touch.ensures.touched) ∙ c.loop-root.invariant.touched;
      newest = λ have.
          sym (newest_step c.args.roots.now i _ c.loop-root.store c.touch.new.self at c.touch.ensures.touched
          (c.touch.ensures.newest (ap (λ ts. contains_key (kept_at ts 0) c.root-item.result) c.loop-root.invariant.tables ∙ have c.root-item.result (among_them c.args.roots.now i c.root-item.result at))))
          ∙ c.loop-root.invariant.newest have;
      tables = c.touch.ensures.touched.tables ∙ c.loop-root.invariant.tables;
    }
