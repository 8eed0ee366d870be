use Rattle.std.proofs.Common.{Some, None, ◌∙◌, refl, sym, subst, ◌≤◌, le_refl}
use Rattle.cache_engine.proofs.RequestLaws.{line_kept}
use Rattle.reply_lines.proofs.OutputLaws.{splits_none}
use Rattle.session_cli.proofs.SlotLaws.{in_slots}
use Rattle.session_cli.proofs.StopLaws.{disk_cause, stop_none}
use Rattle.session_cli.proofs.WayLaws.{kept_once, leaves_kept, stands_begun_at}
use Rattle.session_cli.specs.declared.answering.Stop.TheVariants as stop
use Rattle.session_cli.proofs.answering.respond.Goals as goal

pub returns-in-Some-clause-serves : goal.returns-in-Some-clause-serves
returns-in-Some-clause-serves g c = record {
  base = c.line_base-base.result.0;
  took = c.line_base-base.ensures;
  reply = Some c.in-Some.reply;
  order = c.in-Some.ensures.order;
  leads = λ w x unshared.
      let it = c.in-Some.ensures.performs w x.at x.stands.left unshared x.stands.keeps in
      let kept = line_kept c.heed_law.ensures c.line_base-base.result.0 w c.args.line.now it.world (Some c.in-Some.reply) it.is ∙ x.stands.kept in
      record {
        world = it.world;
        at = it.at;
        goes = it.is;
        leaves = leaves_kept g.P.Disk.state g.P.Disk.possible c.request.new.site c.request.new.engine.journal it.world kept it.keeps.leaves;
        stands = λ whole. record {
          left = it.left whole;
          keeps = it.keeps.over whole;
          kept = kept;
          slots = in_slots g.P.Disk.state g.P.Disk.possible c.request.new.site c.request.new.engine.journal it.world kept (it.keeps.over whole);
        };
      };
  once = λ w x. x;
  now = λ w x. kept_once g.P.Disk.state g.P.Disk.possible c.request.new.site c.request.new.engine.journal w x.at x.stands.keeps x.stands.kept;
  begins = λ w x. stands_begun_at g.P.Disk.state g.P.Disk.possible _ _ c.request.new.site c.request.new.engine w x;
  tells = c.pass_on.ensures.tells;
  passed = c.pass_on.ensures.bytes;
}

pub returns-in-Some-clause-disk : goal.returns-in-Some-clause-disk
returns-in-Some-clause-disk g c =
    disk_cause c.pass_on.result c.args.engine.now.journal (g.P.Disk.state c.args.site.now) (g.P.Disk.state c.request.new.site) c.in-Some.reply c.in-Some.ensures.cause c.pass_on.ensures.tells

pub returns-in-None-clause-serves : goal.returns-in-None-clause-serves
returns-in-None-clause-serves g c = record {
  base = c.line_base-base.result.0;
  took = c.line_base-base.ensures;
  reply = None;
  order = c.in-None.ensures.order;
  leads = λ w x unshared.
      let it = c.in-None.ensures.performs w x.at x.stands.left unshared x.stands.keeps in
      let kept = line_kept c.heed_law.ensures c.line_base-base.result.0 w c.args.line.now it.world None it.is ∙ x.stands.kept in
      record {
        world = it.world;
        at = it.at;
        goes = it.is;
        leaves = leaves_kept g.P.Disk.state g.P.Disk.possible c.request.new.site c.request.new.engine.journal it.world kept it.keeps.leaves;
        stands = λ whole. record {
          left = it.left whole;
          keeps = it.keeps.over whole;
          kept = kept;
          slots = in_slots g.P.Disk.state g.P.Disk.possible c.request.new.site c.request.new.engine.journal it.world kept (it.keeps.over whole);
        };
      };
  once = λ w x. x;
  now = λ w x. kept_once g.P.Disk.state g.P.Disk.possible c.request.new.site c.request.new.engine.journal w x.at x.stands.keeps x.stands.kept;
  begins = λ w x. stands_begun_at g.P.Disk.state g.P.Disk.possible _ _ c.request.new.site c.request.new.engine w x;
  tells = refl;
  passed = splits_none (g.K.Sink.written c.args.sink.now) c.args.output.now;
}

pub returns-in-None-clause-disk : goal.returns-in-None-clause-disk
returns-in-None-clause-disk g c =
    stop_none stop.Disk _ _
    (subst (λ d. (g.P.Disk.state c.args.site.now).disk_faults ≤ (g.P.Disk.state d).disk_faults) (sym (c.in-None.ensures.silent refl)) (le_refl (g.P.Disk.state c.args.site.now).disk_faults))
