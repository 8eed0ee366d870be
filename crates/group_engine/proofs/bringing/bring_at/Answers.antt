use Rattle.std.proofs.Common.{Some}
use Rattle.statement_uses.specs.Wanting.{want_seen}
use Rattle.stored_tier.specs.Refreshing.{choice_of, is_filled}
use Rattle.group_engine.specs.Bringing.{IsBrought}
use Rattle.group_engine.specs.Gaining.{AreMadeGaining}
use Rattle.group_engine.proofs.BringRoots.{ok_so}
use Rattle.group_engine.proofs.bringing.bring_at.Goals as goal

pub returns-clause-brought : goal.returns-clause-brought
returns-clause-brought c =
    ok_so c.make_gaining.result
    (λ made. AreMadeGaining (is_filled (choice_of c.args.chosen) (Some c.args.place)) c.args.tier.now c.args.place c.in_ok-found.found c.args.tables.now made.items)
    (λ made. IsBrought c.args.tier.now c.args.place (want_seen c.args.want.now) (is_filled (choice_of c.args.chosen) (Some c.args.place)) c.args.tables.now made.items)
    (λ made so. record { rows = c.in_ok-found.found; found = c.in_ok-found.ensures; made = so }) c.make_gaining.ensures.made
