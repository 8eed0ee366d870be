-- Whether the group at a place has the name.
use Rattle.std.proofs.Common.{◌∙◌, ◌<◌, ap, arith, sym}
use Rattle.group_catalog.specs.Catalogs.{groups_in}
use Rattle.recalling.specs.Steps.{is_one_called}
use Rattle.recalling.proofs.NamingLaws.{first_found, none_found}
use Rattle.recalling.proofs.naming.find_named.Goals as goal

pub returns-then-is_called-clause-found : goal.returns-then-is_called-clause-found
returns-then-is_called-clause-found c =
    first_found c.args.name.now (groups_in c.args.catalog.now) c.loop-place.place c.loop-place.invariant
    (ap (is_one_called c.args.name.now) (sym c.get.ensures) ∙ sym c.is_called.ensures ∙ c.if-is_called.true)

pub returns-clause-none : goal.returns-clause-none
returns-clause-none c = λ e.
    none_found c.args.name.now (groups_in c.args.catalog.now)
    (λ k lt. let before : k < c.loop-place.place = omega (arith, c.len-place-end.ensures) in c.loop-place.invariant k before)
