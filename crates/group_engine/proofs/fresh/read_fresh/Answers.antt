use Rattle.std.proofs.Common.{◌≡◌, ◌∙◌, Err, rules, subst}
use Rattle.propagators.proofs.CertainLaws.{bank_certain}
use Rattle.group_engine.specs.Fresh.{ReadsIn}
use Rattle.stored_tier.specs.Refreshing.{choice_of, is_filled}
use Rattle.group_engine.proofs.ReadLaws.{are_formed, fresh_here, not_called, read_failed, read_here}
use Rattle.group_engine.proofs.fresh.read_fresh.Goals as goal

pub returns-in_default-clause-reads : goal.returns-in_default-clause-reads
returns-in_default-clause-reads g c = λ w at stands apart. not_called c.args.tier.now _ w at stands

pub returns-in_err-snapshot-clause-reads : goal.returns-in_err-snapshot-clause-reads
returns-in_err-snapshot-clause-reads g c = λ w at stands apart.
    let told : Err c.in_err-snapshot.field-0.0 ≡ c.from_residual.result = Prim.search rules in
    subst (ReadsIn c.args.tier.now _ (is_filled (choice_of c.args.chosen) c.args.loads) w) told
    (read_failed c.args.tier.now _ _ c.as_slice.result.now c.in_err-snapshot.field-0.0 (Err c.in_err-snapshot.field-0.0) c.in_err-snapshot.ensures.told c.in_err-snapshot.ensures.cause.later c.in_err-snapshot.ensures.crash.later c.in_err-snapshot.ensures.cause.shared w at stands apart)

pub returns-in-Err-clause-reads : goal.returns-in-Err-clause-reads
returns-in-Err-clause-reads g c = λ w at stands apart.
    read_failed c.args.tier.now _ _ c.as_slice.result.now _ _ c.snapshot.ensures.told c.snapshot.ensures.cause.later c.snapshot.ensures.crash.later c.snapshot.ensures.cause.shared w at stands apart

pub returns-clause-reads : goal.returns-clause-reads
returns-clause-reads g c = λ w at stands apart. (
  read_here c.args.tier.now _ _ c.as_slice.result.now c.in_ok-snapshot.snapshot (choice_of c.args.chosen) (c.as_slice.ensures.value ∙ c.in-Ok.ensures)
      c.in_ok-snapshot.ensures.told c.in_ok-snapshot.ensures.cause.later c.in_ok-snapshot.ensures.crash.later c.in_ok-snapshot.ensures.cause.shared w at stands apart,
  fresh_here c.args.tier.now _ _ c.as_slice.result.now c.in_ok-snapshot.snapshot (choice_of c.args.chosen) (c.as_slice.ensures.value ∙ c.in-Ok.ensures)
      c.in_ok-snapshot.ensures.told c.in_ok-snapshot.ensures.cause.later c.in_ok-snapshot.ensures.crash.later c.in_ok-snapshot.ensures.cause.shared w at stands apart
      c.args.loads c.in-Ok-make_stores.made.items c.in-Ok-make_stores.ensures,
)

pub returns-clause-formed : goal.returns-clause-formed
returns-clause-formed g c = are_formed (is_filled (choice_of c.args.chosen) c.args.loads) c.args.tier.now _ c.in-Ok-make_stores.made.items c.requires c.in-Ok-make_stores.ensures

pub returns-in_err-snapshot-clause-certain : goal.returns-in_err-snapshot-clause-certain
returns-in_err-snapshot-clause-certain g c = bank_certain g.P.Disk.state g.P.Disk.possible g.met.P.Disk.certain c.args.site.now c.snapshot.new.self _ c.in_err-snapshot.ensures.told c.in_err-snapshot.ensures.crash

pub returns-in-Err-clause-certain : goal.returns-in-Err-clause-certain
returns-in-Err-clause-certain g c = bank_certain g.P.Disk.state g.P.Disk.possible g.met.P.Disk.certain c.args.site.now c.snapshot.new.self _ c.snapshot.ensures.told c.snapshot.ensures.crash

pub returns-clause-certain : goal.returns-clause-certain
returns-clause-certain g c = bank_certain g.P.Disk.state g.P.Disk.possible g.met.P.Disk.certain c.args.site.now c.snapshot.new.self _ c.in_ok-snapshot.ensures.told c.in_ok-snapshot.ensures.crash
