use Rattle.std.proofs.Common.{[], ◌∷◌, subst, sym}
use Rattle.indexed_rows.proofs.MapLaws.{has_key}
use Rattle.instances.specs.Views.{kept_at}
use Rattle.aging_cycles.specs.Running.{Leaves}
use Rattle.aging_cycles.proofs.ByTimeLaws.{leaves_hidden, leaves_taken}
use Rattle.aging_cycles.proofs.by_time.leave.Goals as goal

pub returns-then-hides : goal.returns-then-hides
returns-then-hides c = λ root here.
    subst (λ b. Leaves b (root ∷ []) c.args.store.now c.hide_at.new.self c.args.hidden.now c.hide_at.new.hidden) (sym c.if-hides.true)
    (leaves_hidden root c.args.store.now c.hide_at.new.self c.args.hidden.now c.hide_at.new.hidden (has_key (kept_at c.args.store.now.tables 0) root c.args.at here)
    (c.hide_at.ensures.hides root here).gone (c.hide_at.ensures.hides root here).hidden c.hide_at.ensures.hidden_key c.hide_at.ensures.hidden_room)

pub returns : goal.returns
returns c = λ root here.
    subst (λ b. Leaves b (root ∷ []) c.args.store.now c.take_at.new.self c.args.hidden.now c.args.hidden.now) (sym c.if-hides.false)
    (leaves_taken root c.args.store.now c.take_at.new.self c.args.hidden.now (c.take_at.ensures.taken root here).gone)
