use Rattle.std.proofs.Common.{◌≡◌, ◌+◌, ◌-◌, ◌∙◌, arith, false, suc, sym, true}
use Rattle.std.specs.FinMap.{len}
use Rattle.instances.specs.Views.{kept_at}
use Rattle.aging_cycles.proofs.ByTimeLaws.{look_end, look_key, look_more, look_same}
use Rattle.aging_cycles.proofs.by_time.leave_by_time.Goals as goal
use Rattle.aging_cycles.proofs.by_time.leave_by_time.Goals.{then-look_at, else-look_at}

pub look_at-requires-clause-key : goal.look_at-requires-clause-key
look_at-requires-clause-key c =
    look_key c.args.by.hides c.args.by.horizon c.args.by.column c.args.sessions.now c.loop-looked.looked c.args.store.now c.loop-looked.store c.args.hidden.now c.loop-looked.hidden c.loop-looked.invariant.looked c.requires.key

pub loop-looked-preserved : goal.loop-looked-preserved
loop-looked-preserved c =
    let at = c.len-count.result - 1 - c.loop-looked.looked in
    let below = c.loop-looked-test.true in
    let long = c.len-count.ensures.value in
    let within : c.loop-looked.looked + suc (c.len-count.result - 1 - c.loop-looked.looked) ≡ len (kept_at c.args.store.now.tables 0) = omega (arith, below, long) in
    record {
      looked = look_more c.args.by.hides c.args.by.horizon c.args.by.column c.args.sessions.now c.loop-looked.looked at c.args.store.now c.loop-looked.store c.look_at.new.store c.args.hidden.now c.loop-looked.hidden c.look_at.new.hidden
          c.look_at.result c.len-count.ensures.keyed within c.loop-looked.invariant.looked c.look_at.ensures;
      same = λ e. elim c.if-look_at.branch [
        | then-look_at w ↦ (let wrong : true ≡ false = sym w.gone-is ∙ e in cc)
        | else-look_at w ↦ (
            look_same c.args.by.hides c.args.by.horizon c.args.by.column c.args.sessions.now c.loop-looked.looked at c.args.store.now c.loop-looked.store c.look_at.new.store c.args.hidden.now c.loop-looked.hidden c.look_at.new.hidden
            c.look_at.result c.len-count.ensures.keyed within c.loop-looked.invariant.looked c.look_at.ensures w.if-look_at.false
            ∙ c.loop-looked.invariant.same (sym w.gone-is ∙ e))
      ];
    }

pub returns-clause-left : goal.returns-clause-left
returns-clause-left c =
    let past = c.loop-looked-test.false in
    let long = c.len-count.ensures.value in
    look_end c.args.by.hides c.args.by.horizon c.args.by.column c.args.sessions.now c.loop-looked.looked c.args.store.now c.loop-looked.store c.args.hidden.now c.loop-looked.hidden c.loop-looked.invariant.looked (omega (arith, past, long))
