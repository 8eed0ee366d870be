-- What the table has at the key is what its members have there.
use Rattle.std.proofs.Common.{ℕ, MatchOption, refl, subst}
use Rattle.toml.proofs.Views.{table_get}
use Rattle.command_line.specs.Keys.{NumberOr}
use Rattle.command_line.proofs.settings.number_at.Goals as goal

pub returns-in-Some : goal.returns-in-Some
returns-in-Some c =
    let found = table_get c.get.result c.args.key.now c.args.table.now.entries c.get.ensures.value in
    let at = rw c.in-Some.is at found in
    subst (λ value. MatchOption c.number_in.result ((n : ℕ) → ¬ (NumberOr c.args.least c.args.greatest c.args.default value n)) (NumberOr c.args.least c.args.greatest c.args.default value)) at c.number_in.ensures

pub returns-in-None : goal.returns-in-None
returns-in-None c =
    let found = table_get c.get.result c.args.key.now c.args.table.now.entries c.get.ensures.value in
    rw (← rw c.in-None.is at found) refl
