use Rattle.std.proofs.Common.{Some, ◌∙◌, refl}
use Rattle.stored_tier.specs.Refreshing.{choice_of, is_filled}
use Rattle.group_engine.proofs.GainingLaws.{gaining_made, set_back}
use Rattle.group_engine.proofs.gaining.make_gaining.Goals as goal

pub returns-in_err-made-clause-same : goal.returns-in_err-made-clause-same
returns-in_err-made-clause-same c = record {
  elsewhere = refl;
  hidden = c.swap_hidden.ensures.new ∙ set_back c.args.tier.now.hidden.items c.args.place _ c.swap_hidden-hidden.result c.swap_hidden-hidden.new.hidden.items c.swap_hidden-hidden.ensures.old c.swap_hidden-hidden.ensures.new;
}

pub returns-clause-same : goal.returns-clause-same
returns-clause-same c = record {
  elsewhere = refl;
  hidden = c.swap_hidden.ensures.new ∙ set_back c.args.tier.now.hidden.items c.args.place _ c.swap_hidden-hidden.result c.swap_hidden-hidden.new.hidden.items c.swap_hidden-hidden.ensures.old c.swap_hidden-hidden.ensures.new;
}

pub returns-clause-made : goal.returns-clause-made
returns-clause-made c =
    gaining_made (is_filled (choice_of c.args.chosen) (Some c.args.place)) c.args.tier.now c.args.place c.args.gained.now c.args.tables.now c.in-Some.hidden.now _ _ _ c.in-Some.ensures c.in_ok-wider-in-Some.ensures c.swap_hidden-hidden.ensures.new c.in_ok-made.ensures c.touch_at.ensures
