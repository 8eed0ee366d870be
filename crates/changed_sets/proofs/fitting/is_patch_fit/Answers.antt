use Rattle.std.proofs.Common.{refl, subst}
use Rattle.changed_sets.specs.Fitting.{DoCutsFit, DoTurnsFit}
use Rattle.changed_sets.proofs.fitting.is_patch_fit.Goals as goal

pub returns : goal.returns
returns c = λ yes. record {
  cuts = subst (DoCutsFit c.args.schema.now c.args.tree.now) c.as_slice.ensures (c.if-not-do_cuts_fit.ensures refl);
  turns = subst (DoTurnsFit c.args.schema.now c.args.tree.now) c.as_slice-2.ensures (c.do_turns_fit.ensures yes);
}
