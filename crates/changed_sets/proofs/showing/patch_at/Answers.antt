use Rattle.std.proofs.Common.{◌≡◌, Some, None, refl, rules, subst, sym}
use Rattle.changed_sets.specs.Showing.{HiddenBy, PatchedAt, TurnedBy}
use Rattle.changed_sets.proofs.ShowSteps.{at_none, hidden_at}
use Rattle.changed_sets.proofs.showing.patch_at.Goals as goal

pub turn_at-rows-requires : goal.turn_at-rows-requires
turn_at-rows-requires c = λ s there. (
    let is : c.args.patch ≡ Some c.in-Some.patch = first_of (search rules, cc) in
    c.requires c.in-Some.patch s is there)

pub returns-in-None-clause-stores : goal.returns-in-None-clause-stores
returns-in-None-clause-stores c =
    let is : c.args.patch ≡ None = first_of (search rules, cc) in
    subst (λ o. PatchedAt TurnedBy c.args.place o c.args.stores.now.items c.args.stores.now.items) (sym is) (at_none TurnedBy (λ x. refl) c.args.place c.args.stores.now.items)

pub returns-in-None-clause-hidden : goal.returns-in-None-clause-hidden
returns-in-None-clause-hidden c =
    let is : c.args.patch ≡ None = first_of (search rules, cc) in
    subst (λ o. PatchedAt HiddenBy c.args.place o c.args.hidden.now.items c.args.hidden.now.items) (sym is) (at_none HiddenBy (λ x. refl) c.args.place c.args.hidden.now.items)

pub returns-in-Some-clause-stores : goal.returns-in-Some-clause-stores
returns-in-Some-clause-stores c =
    let is : c.args.patch ≡ Some c.in-Some.patch = first_of (search rules, cc) in
    subst (λ o. PatchedAt TurnedBy c.args.place o c.args.stores.now.items c.turn_at-rows.new.stores.items) (sym is) c.turn_at-rows.ensures.stores

pub returns-in-Some-clause-hidden : goal.returns-in-Some-clause-hidden
returns-in-Some-clause-hidden c =
    let is : c.args.patch ≡ Some c.in-Some.patch = first_of (search rules, cc) in
    subst (λ o. PatchedAt HiddenBy c.args.place o c.args.hidden.now.items c.hide_at.new.hidden.items) (sym is)
    (subst (PatchedAt HiddenBy c.args.place (Some c.in-Some.patch) c.args.hidden.now.items) (sym c.hide_at.ensures) (hidden_at c.args.place c.in-Some.patch c.args.hidden.now.items c.turn_at-rows.result c.turn_at-rows.ensures.hidden))
