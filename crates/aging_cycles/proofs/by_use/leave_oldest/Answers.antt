use Rattle.std.proofs.Common.{◌≡◌, ◌+◌, ◌∙◌, arith, false, subst, sym, true}
use Rattle.aging_cycles.proofs.ByUseLaws.{Walked, keys_once, walk_full, walk_none, walk_skips, walk_takes}
use Rattle.aging_cycles.proofs.by_use.leave_oldest.Goals as goal
use Rattle.aging_cycles.proofs.by_use.leave_oldest.Goals.{then-step, else-step}

pub returns-in-None-clause-gone : goal.returns-in-None-clause-gone
returns-in-None-clause-gone c =
    walk_none c.args.sessions.now c.args.most c.loop-looked.left c.loop-looked.looked c.args.store.now c.loop-looked.store
    (subst (Walked c.args.sessions.now c.args.most c.loop-looked.left c.loop-looked.looked c.args.store.now c.loop-looked.store) c.in-None.is c.loop-looked.invariant.walked)

pub returns-then-left-eq0-clause-gone : goal.returns-then-left-eq0-clause-gone
returns-then-left-eq0-clause-gone c =
    walk_full c.args.sessions.now c.args.most c.loop-looked.left c.loop-looked.looked c.args.store.now c.loop-looked.store c.loop-looked.next c.loop-looked.invariant.walked c.if-left-eq0.true

pub loop-looked-preserved : goal.loop-looked-preserved
loop-looked-preserved c =
    let apart = keys_once c.args.store.now c.keys_law.ensures in
    let some = c.if-left-eq0.false in
    let walked = subst (Walked c.args.sessions.now c.args.most c.loop-looked.left c.loop-looked.looked c.args.store.now c.loop-looked.store) c.in-Some.is c.loop-looked.invariant.walked in
    record {
      walked = elim c.if-step.branch [
        | then-step w ↦
            subst (λ n. Walked c.args.sessions.now c.args.most n (c.loop-looked.looked + 1) c.args.store.now c.pass-step.new.store c.pass-step.result.next) (sym w.left-is)
            (walk_takes c.args.sessions.now c.args.most c.loop-looked.left c.loop-looked.looked c.in-Some.at c.args.store.now c.loop-looked.store c.pass-step.new.store apart walked c.pass-step.result c.pass-step.ensures w.if-step.true (omega (arith, some)))
        | else-step w ↦
            subst (λ n. Walked c.args.sessions.now c.args.most n (c.loop-looked.looked + 1) c.args.store.now c.pass-step.new.store c.pass-step.result.next) (sym w.left-is)
            (walk_skips c.args.sessions.now c.args.most c.loop-looked.left c.loop-looked.looked c.in-Some.at c.args.store.now c.loop-looked.store c.pass-step.new.store apart walked c.pass-step.result c.pass-step.ensures w.if-step.false).1
      ];
      same = λ e. elim c.if-step.branch [
        | then-step w ↦ (let wrong : true ≡ false = sym w.gone-is ∙ e in cc)
        | else-step w ↦ (
            (walk_skips c.args.sessions.now c.args.most c.loop-looked.left c.loop-looked.looked c.in-Some.at c.args.store.now c.loop-looked.store c.pass-step.new.store apart walked c.pass-step.result c.pass-step.ensures w.if-step.false).0
            ∙ c.loop-looked.invariant.same (sym w.gone-is ∙ e))
      ];
    }
