use Rattle.std.proofs.Common.{rules, ◌≡◌, ◌∙◌, ap, sym, subst}
use mathlib.Core.Option.{some-injective}
use mathlib.Core.List.{IsPrefix}
use Rattle.turn_lock.specs.Places.{AllBegin, occurrences, new_places}
use Rattle.turn_lock.proofs.Steps.{closes, same_value}
use Rattle.turn_lock.proofs.lock.TurnLock.finish.Goals as goal

pub unwrap-value-requires : goal.unwrap-value-requires
unwrap-value-requires g c =
    let last = closes g.V.Grows.list _ _ _ _ _ _ c.close_with-closed.ensures.values.2 c.requires.all c.args.pass.idle in
    let is = some-injective _ _ (sym c.take.ensures.value ∙ last.1) in
    rw is (search rules)

pub returns : goal.returns
returns g c =
    let last = closes g.V.Grows.list _ _ _ _ _ _ c.close_with-closed.ensures.values.2 c.requires.all c.args.pass.idle in
    let is = some-injective _ _ (sym c.take.ensures.value ∙ last.1) in
    let same : last.0 ≡ c.unwrap-value.result = same_value _ _ (sym is ∙ c.unwrap-value.ensures) in
    let now = ap g.V.Grows.list same in
    let opening = g.V.Grows.list c.args.self.table.shared.key.value.value in record {
      begins = subst (IsPrefix opening) now last.3;
      seen = subst (IsPrefix c.args.pass.seat.me.0.seen) now last.2.0;
      told = subst (AllBegin c.args.pass.seat.me.0.told) now last.2.1;
      given = λ k. last.4 k ∙ ap (λ l. occurrences k (new_places opening l)) now;
    }
