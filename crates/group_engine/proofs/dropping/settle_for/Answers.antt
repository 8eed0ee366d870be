use Rattle.std.proofs.Common.{◌∙◌, None, refl, subst, sym}
use Rattle.std.specs.Bool.{MatchBool}
use Rattle.cache_tier.specs.Rounds.{Round}
use Rattle.cache_tier.specs.Worlds.{Passes}
use Rattle.stored_tier.specs.Performing.{stop_of}
use Rattle.group_engine.proofs.DropLocks.{written_stored}
use Rattle.group_engine.proofs.ReadyLaws.{calm_cause}
use Rattle.stored_tier.proofs.QuietLaws.{calm_done}
use Rattle.group_engine.proofs.dropping.settle_for.Goals as goal
use Rattle.tier_journal.proofs.WayLaws.{kept_unless}

pub returns-then-is_written_at-clause-performs : goal.returns-then-is_written_at-clause-performs
returns-then-is_written_at-clause-performs g c = λ w at stands unshared keeps. (
    let p = c.settle_all.ensures.performs w at stands unshared keeps in
    record {
      world = p.world;
      at = p.at;
      is = subst (λ b. MatchBool b (Round w p.world (stop_of c.settle_all.result)) (Passes w p.world (stop_of c.settle_all.result))) (sym (written_stored c.args.tier.now w.tier c.args.place stands.stored ∙ sym c.is_written_at.ensures ∙ c.if-is_written_at.true)) p.is;
      stands = p.stands;
      keeps = p.keeps;
    })

pub returns-else-is_written_at-clause-performs : goal.returns-else-is_written_at-clause-performs
returns-else-is_written_at-clause-performs g c = λ w at stands unshared keeps. record {
  world = w;
  at = at;
  is = subst (λ b. MatchBool b (Round w w None) (Passes w w None)) (sym (written_stored c.args.tier.now w.tier c.args.place stands.stored ∙ sym c.is_written_at.ensures ∙ c.if-is_written_at.false)) (refl, refl);
  stands = λ whole. stands;
  keeps = kept_unless keeps;
}

pub returns-else-is_written_at-clause-cause : goal.returns-else-is_written_at-clause-cause
returns-else-is_written_at-clause-cause g c = calm_cause _ _ _ (calm_done 0 _ refl)
