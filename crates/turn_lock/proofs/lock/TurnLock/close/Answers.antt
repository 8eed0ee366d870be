use Rattle.std.proofs.Common.{◌≡◌, ℕ, ◌+◌, arith, ◌∙◌, ap, subst}
use mathlib.Core.List.{IsPrefix}
use Rattle.std.proofs.lemmas.List.Elements.{All-push, All-same}
use Rattle.turn_lock.specs.Places.{AllBegin, occurrences}
use Rattle.turn_lock.specs.Passes.{pass_parts, total_parts, pass_seen, pass_told, pass_given, times_given}
use Rattle.turn_lock.specs.declared.held.Pass.{Pass}
use Rattle.turn_lock.proofs.Counts.{total_snoc, new_places-once}
use Rattle.turn_lock.proofs.lock.TurnLock.close.Goals as goal

pub finish-requires-clause-all : goal.finish-requires-clause-all
finish-requires-clause-all g c =
    let sum : total_parts c.args.passes.items ≡ total_parts c.pop.new.self.items + pass_parts c.in-Some.first = ap total_parts c.in-Some.ensures.items ∙ total_snoc pass_parts c.pop.new.self.items c.in-Some.first in
    let all = c.join_all.ensures.parts in
    let whole = c.requires.all in
    omega arith

pub returns-clause-seen : goal.returns-clause-seen
returns-clause-seen g c =
    let log = g.V.Grows.list c.finish.result in
    let P = λ (q : Pass g.row.V.Denot g.row.V-Item.Denot g.V.Grows). IsPrefix (pass_seen q) log in
    let joined = c.join_all.ensures.told log c.finish.ensures.told in
    All-same P _ _ c.in-Some.ensures.items (All-push P _ _ (λ k d less. (joined.1 k d less).0) (subst (λ l. IsPrefix l log) c.join_all.ensures.same.1 c.finish.ensures.seen))

pub returns-clause-told : goal.returns-clause-told
returns-clause-told g c =
    let log = g.V.Grows.list c.finish.result in
    let P = λ (q : Pass g.row.V.Denot g.row.V-Item.Denot g.V.Grows). AllBegin (pass_told q) log in
    let joined = c.join_all.ensures.told log c.finish.ensures.told in
    All-same P _ _ c.in-Some.ensures.items (All-push P _ _ (λ k d less. (joined.1 k d less).1) joined.0)

pub returns-clause-given : goal.returns-clause-given
returns-clause-given g c = λ k.
    let f : Pass g.row.V.Denot g.row.V-Item.Denot g.V.Grows → ℕ = λ q. occurrences k (pass_given q) in
    let sum : times_given k c.args.passes.items ≡ times_given k c.pop.new.self.items + f c.in-Some.first = ap (times_given k) c.in-Some.ensures.items ∙ total_snoc f c.pop.new.self.items c.in-Some.first in
    let all = c.join_all.ensures.given k in
    let end = c.finish.ensures.given k in
    omega arith

pub returns-clause-once : goal.returns-clause-once
returns-clause-once g c = λ k from less. returns-clause-given g c k ∙ new_places-once _ _ k c.finish.ensures.begins from less
