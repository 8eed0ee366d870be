use Rattle.std.proofs.Common.{◌≡◌, ◌∙◌, ◌+◌, ◌++◌, ◌∷◌, [], None, arith, nat_eq, rules, subst, sym, true, false}
use Rattle.group_catalog.specs.Catalogs.{groups_in}
use Rattle.stored_tier.specs.Refreshing.{choice_of, is_filled}
use Rattle.changed_sets.specs.Preparing.{IsPatchOf}
use Rattle.changed_sets.proofs.ListSteps.{up_more}
use Rattle.changed_sets.proofs.PrepareSteps.{PatchAt, count_least, counted, group_there, patch_here}
use Rattle.changed_sets.proofs.preparing.prepare.Goals as goal
use Rattle.changed_sets.proofs.preparing.prepare.Goals.{then-filled, else-filled}

pub overflow_add-at : goal.overflow_add-at
overflow_add-at c =
    let least = count_least (is_filled (choice_of c.args.chosen) None) (groups_in c.args.tier.now.catalog) c.loop-place.place in
    let at = c.loop-place.invariant.at in
    let lt = c.loop-place-test.true in
    let fits = c.loop-place.auto.place-end in
    omega (arith, least, at, lt, fits)

pub loop-place-preserved : goal.loop-place-preserved
loop-place-preserved c =
    let filled = is_filled (choice_of c.args.chosen) None in
    let groups = groups_in c.args.tier.now.catalog in
    let i = c.loop-place.place in
    let inv = c.loop-place.invariant in
    let pushed : c.push.new.self.items ≡ c.loop-place.patches.items ++ c.in_ok-patch.patch ∷ [] = first_of (search rules, cc) in
    let lt = c.loop-place-test.true in
    let long = c.len-place-end.ensures in
    let there = group_there (is_filled (choice_of c.args.chosen) None) c.args.tier.now c.args.gaining c.args.touched.now c.loop-place.place (omega (arith, lt, long)) in
    record {
      patches =
          up_more (PatchAt filled c.args.tier.now c.args.gaining c.args.touched.now) i c.loop-place.patches.items c.push.new.self.items c.in_ok-patch.patch inv.patches pushed
          (patch_here filled c.args.tier.now c.args.gaining c.args.touched.now i c.loop-place.at c.is_filled_at-filled.result c.in_ok-patch.patch c.is_filled_at-filled.ensures inv.at
          (subst (λ o. IsPatchOf c.args.tier.now c.is_filled_at-filled.result (nat_eq c.loop-place.place c.args.gaining) c.loop-place.place o c.in_ok-patch.patch) c.told_at-told.ensures c.in_ok-patch.ensures));
      at = elim c.if-filled.branch [
        | then-filled w ↦ counted filled groups i there.0 true c.loop-place.at _ there.1 (sym w.if-filled.true ∙ c.is_filled_at-filled.ensures) inv.at w.at-is
        | else-filled w ↦ counted filled groups i there.0 false c.loop-place.at _ there.1 (sym w.if-filled.false ∙ c.is_filled_at-filled.ensures) inv.at (w.at-is ∙ (let z : c.loop-place.at ≡ c.loop-place.at + 0 = omega arith in z))
      ];
    }
