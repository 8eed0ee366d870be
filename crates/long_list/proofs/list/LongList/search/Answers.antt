use Rattle.std.proofs.Common.{◌≡◌, ◌+◌, subst, length, arith, Less, Equal, Greater}
use Rattle.std.specs.List.{HoldsAt}
use Rattle.std.specs.List.Sorted.{IsNonDecreasingBy, IsPartitionPoint}
use Rattle.std.specs.Ordering.{ordering_index}
use Rattle.long_list.proofs.TailLaws.{goes_in_front, found_in_tail, goes_in_tail}
use Rattle.long_list.proofs.list.LongList.search.Goals as goal

pub returns-in-Err-clause-position : goal.returns-in-Err-clause-position
returns-in-Err-clause-position g c =
    let order = g.P.Probe.order_gives c.args.probe.now in
    let l = c.self.inside in
    subst (λ xs. IsNonDecreasingBy (λ y. ordering_index (order y)) xs → IsPartitionPoint (λ y. order y ≡ Less) (λ y. order y ≡ Greater) xs c.in-Err.place) c.self.view_is
    (goes_in_front order l.front l.tail c.in-Err.place (omega (arith, c.len.ensures, c.if-place-len.true)) c.in-Err.ensures.position)

pub returns-in-Ok-search-clause-position : goal.returns-in-Ok-search-clause-position
returns-in-Ok-search-clause-position g c =
    let order = g.P.Probe.order_gives c.args.probe.now in
    let l = c.self.inside in
    let end : c.in-Err.place ≡ length l.front = omega (arith, c.len.ensures, c.if-place-len.false, c.in-Err.ensures.bound) in
    subst (λ xs. HoldsAt (λ y. order y ≡ Equal) xs (c.in-Err.place + c.in-Ok-search.i)) c.self.view_is
    (found_in_tail order l.front l.tail c.in-Err.place c.in-Ok-search.i end c.in-Ok-search.ensures.position)

pub returns-in-Err-search-clause-position : goal.returns-in-Err-search-clause-position
returns-in-Err-search-clause-position g c =
    let order = g.P.Probe.order_gives c.args.probe.now in
    let l = c.self.inside in
    let end : c.in-Err.place ≡ length l.front = omega (arith, c.len.ensures, c.if-place-len.false, c.in-Err.ensures.bound) in
    subst (λ xs. IsNonDecreasingBy (λ y. ordering_index (order y)) xs → IsPartitionPoint (λ y. order y ≡ Less) (λ y. order y ≡ Greater) xs (c.in-Err.place + c.in-Err-search.i)) c.self.view_is
    (goes_in_tail order l.front l.tail c.in-Err.place c.in-Err-search.i end c.in-Err.ensures.position c.in-Err-search.ensures.position)
