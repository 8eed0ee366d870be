use Rattle.std.proofs.Common.{arith, subst, sym, ◌∙◌}
use Rattle.changed_sets.specs.Turning.{AreUnder, cut_all}
use Rattle.changed_sets.proofs.TurnSteps.{cut_count, cut_more, one_form, under_first, under_later}
use Rattle.changed_sets.proofs.turning.cut_down.Goals as goal

pub cut_one-requires-clause-under : goal.cut_one-requires-clause-under
cut_one-requires-clause-under c = under_first c.loop-cut.cut-iterator.rest.items c.next.new.self.rest.items c.in-Some.cut c.in-Some.ensures.steps.0 c.loop-cut.store.key c.loop-cut.invariant.under

pub cut_one-requires-clause-room : goal.cut_one-requires-clause-room
cut_one-requires-clause-room c =
    let count = cut_count c.loop-cut.cut-iterator.rest.items c.next.new.self.rest.items c.in-Some.cut c.in-Some.ensures.steps.0 in
    let room = c.loop-cut.invariant.room in
    omega (arith, count, room)

pub loop-cut-preserved : goal.loop-cut-preserved
loop-cut-preserved c =
    let rest = c.loop-cut.cut-iterator.rest.items in
    let later = c.next.new.self.rest.items in
    let is = c.in-Some.ensures.steps.0 in
    let count = cut_count c.loop-cut.cut-iterator.rest.items c.next.new.self.rest.items c.in-Some.cut c.in-Some.ensures.steps.0 in
    let room = c.loop-cut.invariant.room in
    let spare = c.loop-cut.invariant.spare in
    let more = c.cut_one.ensures.spare in
    let key = c.cut_one.ensures.cut.key ∙ (one_form c.in-Some.cut.bare c.in-Some.cut.root c.loop-cut.store).key in
    record {
      cut = cut_more rest later c.in-Some.cut is (cut_all c.args.cuts c.args.store.now) c.loop-cut.store c.cut_one.new.store c.loop-cut.invariant.cut c.cut_one.ensures.cut;
      under = subst (λ columns. AreUnder columns later) (sym key) (under_later rest later c.in-Some.cut is c.loop-cut.store.key c.loop-cut.invariant.under);
      room = omega (arith, count, room, more);
      spare = omega (arith, count, spare, more);
    }
