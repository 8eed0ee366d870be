use Rattle.std.proofs.Common.{◌∙◌, sym}
use Rattle.instances.specs.Views.{kept_at}
use Rattle.stored_tier.proofs.ListLaws.{no_hidden, no_store, stored_keys}
use Rattle.stored_tier.proofs.RefreshSteps.{some_held}
use Rattle.stored_tier.proofs.refreshing.holds_some.Goals as goal

pub returns-in-None : goal.returns-in-None
returns-in-None c = λ a g is at dynamic. absurd (no_store c.args.tier.now a c.args.place g c.requires is at c.in-None.ensures)

pub returns-in-None-hidden_at : goal.returns-in-None-hidden_at
returns-in-None-hidden_at c = λ a g is at dynamic. absurd (no_hidden c.args.tier.now a c.args.place g c.requires is at c.in-None-hidden_at.ensures)

pub returns-in-Some-hidden_at : goal.returns-in-Some-hidden_at
returns-in-Some-hidden_at c = λ a g is at dynamic.
    let s = c.in-Some.store.now in
    let x = c.in-Some-hidden_at.hidden.now in
    c.has_keys.ensures.some
    ∙ some_held g.keys (kept_at s.tables 0) x.table (stored_keys c.args.tier.now a c.args.place g s x c.requires is at (sym c.in-Some.ensures) (sym c.in-Some-hidden_at.ensures) c.has_keys.ensures.keys dynamic)
