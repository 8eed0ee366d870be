use Rattle.std.proofs.Common.{arith, sym, ◌∙◌}
use Rattle.group_catalog.specs.Catalogs.{groups_in}
use Rattle.session_engine.proofs.CommittedStores.{spares_all, spares_more, spares_none}
use Rattle.session_engine.proofs.commit.spares_hidden.Goals as goal

pub loop-place-init : goal.loop-place-init
loop-place-init c = record { so_far = spares_none (groups_in c.args.catalog.now) c.args.ops.now; end = sym c.len-place-end.ensures }

pub loop-place-preserved : goal.loop-place-preserved
loop-place-preserved c = record {
  so_far = spares_more (groups_in c.args.catalog.now) c.args.ops.now c.loop-place.place c.loop-place.invariant.so_far (λ g at. c.hides_some.ensures c.if-hides_some.false g (c.get.ensures ∙ at));
  end = c.loop-place.invariant.end;
}

pub returns : goal.returns
returns c = λ yes.
    let end = c.loop-place.invariant.end in
    spares_all (groups_in c.args.catalog.now) c.args.ops.now c.loop-place.place (omega (arith, end, c.loop-place-test.false)) c.loop-place.invariant.so_far
