use Rattle.std.proofs.Common.{false, refl, sym}
use Rattle.group_catalog.specs.Kept.{group_seen}
use Rattle.group_engine.proofs.UnloadHidden.{group_hidden}
use Rattle.group_engine.proofs.unload_hidden.cut_hiding.Goals as goal

pub returns-in-Ok-clause-ok : goal.returns-in-Ok-clause-ok
returns-in-Ok-clause-ok c =
    group_hidden c.args.tier.now (record c.args.tier.now { stores = c.cut_at.new.stores; hidden = c.cut_at.new.hidden; verified = false }) c.args.aim.now c.in-Ok.count
    (group_seen c.in-Some.group.now) c.in-Some-get.def.now c.in-Some-get.def.now.primary_key (sym c.in-Some.ensures) (sym c.in-Some-get.ensures) refl
    c.in-Ok.ensures.ok refl

pub returns-in-Err-clause-err : goal.returns-in-Err-clause-err
returns-in-Err-clause-err c = record {
  beside = record { schema = refl; stale = refl; sessions = refl; unsettled = refl; writers = refl; next = refl; clock = refl };
  groups = refl;
  stores = c.in-Err.ensures.err.0;
  hidden = c.in-Err.ensures.err.1;
  visible = refl;
  directory = refl;
  verified = refl;
}
