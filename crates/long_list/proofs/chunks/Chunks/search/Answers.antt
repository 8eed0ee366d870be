use Rattle.std.proofs.Common.{vec_items, arith, rules}
use Rattle.std.proofs.lemmas.Fn.{always_returns_same}
use Rattle.long_list.specs.Chunks.{begins_up_to}
use Rattle.long_list.proofs.SearchLaws.{goes_first, start_inside, end_inside, end_fits, found_at, goes_at}
use Rattle.long_list.proofs.chunks.Chunks.search.Goals as goal

pub returns-then-after-eq0-clause-position : goal.returns-then-after-eq0-clause-position
returns-then-after-eq0-clause-position g c =
    let l = c.self.inside in
    goes_first vec_items (g.P.Probe.order_gives c.args.probe.now) l.chunks.items l.starts.items l.len c.self.invariant c.args.self.now c.self.view_is c.deref.result.now c.deref.ensures.value c.partition_point-after.result c.partition_point-after.ensures.bound (c.partition_point-after.ensures.partitioned (λ v. begins_up_to (g.P.Probe.order_gives c.args.probe.now) (vec_items v)) (always_returns_same _ _ _ (λ a r f called. search rules))) c.if-after-eq0.true

pub index-start-requires : goal.index-start-requires
index-start-requires g c =
    let l = c.self.inside in
    omega (arith, l.starts.ok.0, start_inside vec_items (g.P.Probe.order_gives c.args.probe.now) l.chunks.items l.starts.items l.len c.self.invariant c.args.self.now c.self.view_is c.deref.result.now c.deref.ensures.value c.partition_point-after.result c.partition_point-after.ensures.bound (c.partition_point-after.ensures.partitioned (λ v. begins_up_to (g.P.Probe.order_gives c.args.probe.now) (vec_items v)) (always_returns_same _ _ _ (λ a r f called. search rules))) c.if-after-eq0.false)

pub overflow_add-result : goal.overflow_add-result
overflow_add-result g c =
    let l = c.self.inside in
    omega (arith, c.in-Ok.ensures.bound, end_fits vec_items (g.P.Probe.order_gives c.args.probe.now) l.chunks.items l.starts.items l.len c.self.invariant c.args.self.now c.self.view_is c.deref.result.now c.deref.ensures.value c.partition_point-after.result c.partition_point-after.ensures.bound (c.partition_point-after.ensures.partitioned (λ v. begins_up_to (g.P.Probe.order_gives c.args.probe.now) (vec_items v)) (always_returns_same _ _ _ (λ a r f called. search rules))) c.if-after-eq0.false c.index.result.now c.index.ensures c.deref-2.result.now c.deref-2.ensures.value c.index-start.result.now c.index-start.ensures)

pub overflow_add-result-in-Err : goal.overflow_add-result-in-Err
overflow_add-result-in-Err g c =
    let l = c.self.inside in
    omega (arith, c.in-Err.ensures.bound, end_fits vec_items (g.P.Probe.order_gives c.args.probe.now) l.chunks.items l.starts.items l.len c.self.invariant c.args.self.now c.self.view_is c.deref.result.now c.deref.ensures.value c.partition_point-after.result c.partition_point-after.ensures.bound (c.partition_point-after.ensures.partitioned (λ v. begins_up_to (g.P.Probe.order_gives c.args.probe.now) (vec_items v)) (always_returns_same _ _ _ (λ a r f called. search rules))) c.if-after-eq0.false c.index.result.now c.index.ensures c.deref-2.result.now c.deref-2.ensures.value c.index-start.result.now c.index-start.ensures)

pub returns-in-Ok-clause-bound : goal.returns-in-Ok-clause-bound
returns-in-Ok-clause-bound g c =
    let l = c.self.inside in
    omega (arith, c.in-Ok.ensures.bound, end_inside vec_items (g.P.Probe.order_gives c.args.probe.now) l.chunks.items l.starts.items l.len c.self.invariant c.args.self.now c.self.view_is c.deref.result.now c.deref.ensures.value c.partition_point-after.result c.partition_point-after.ensures.bound (c.partition_point-after.ensures.partitioned (λ v. begins_up_to (g.P.Probe.order_gives c.args.probe.now) (vec_items v)) (always_returns_same _ _ _ (λ a r f called. search rules))) c.if-after-eq0.false c.index.result.now c.index.ensures c.deref-2.result.now c.deref-2.ensures.value c.index-start.result.now c.index-start.ensures)

pub returns-in-Ok-clause-position : goal.returns-in-Ok-clause-position
returns-in-Ok-clause-position g c =
    let l = c.self.inside in
    found_at vec_items (g.P.Probe.order_gives c.args.probe.now) l.chunks.items l.starts.items l.len c.self.invariant c.args.self.now c.self.view_is c.deref.result.now c.deref.ensures.value c.partition_point-after.result c.partition_point-after.ensures.bound (c.partition_point-after.ensures.partitioned (λ v. begins_up_to (g.P.Probe.order_gives c.args.probe.now) (vec_items v)) (always_returns_same _ _ _ (λ a r f called. search rules))) c.if-after-eq0.false c.index.result.now c.index.ensures c.deref-2.result.now c.deref-2.ensures.value c.index-start.result.now c.index-start.ensures c.in-Ok.i c.in-Ok.ensures.bound (c.in-Ok.ensures.position (g.P.Probe.order_gives c.args.probe.now) (always_returns_same _ _ _ (λ a r f called. search rules)))

pub returns-in-Err-clause-bound : goal.returns-in-Err-clause-bound
returns-in-Err-clause-bound g c =
    let l = c.self.inside in
    omega (arith, c.in-Err.ensures.bound, end_inside vec_items (g.P.Probe.order_gives c.args.probe.now) l.chunks.items l.starts.items l.len c.self.invariant c.args.self.now c.self.view_is c.deref.result.now c.deref.ensures.value c.partition_point-after.result c.partition_point-after.ensures.bound (c.partition_point-after.ensures.partitioned (λ v. begins_up_to (g.P.Probe.order_gives c.args.probe.now) (vec_items v)) (always_returns_same _ _ _ (λ a r f called. search rules))) c.if-after-eq0.false c.index.result.now c.index.ensures c.deref-2.result.now c.deref-2.ensures.value c.index-start.result.now c.index-start.ensures)

pub returns-in-Err-clause-position : goal.returns-in-Err-clause-position
returns-in-Err-clause-position g c =
    let l = c.self.inside in
    goes_at vec_items (g.P.Probe.order_gives c.args.probe.now) l.chunks.items l.starts.items l.len c.self.invariant c.args.self.now c.self.view_is c.deref.result.now c.deref.ensures.value c.partition_point-after.result c.partition_point-after.ensures.bound (c.partition_point-after.ensures.partitioned (λ v. begins_up_to (g.P.Probe.order_gives c.args.probe.now) (vec_items v)) (always_returns_same _ _ _ (λ a r f called. search rules))) c.if-after-eq0.false c.index.result.now c.index.ensures c.deref-2.result.now c.deref-2.ensures.value c.index-start.result.now c.index-start.ensures c.in-Err.i c.in-Err.ensures.bound (c.in-Err.ensures.position (g.P.Probe.order_gives c.args.probe.now) (always_returns_same _ _ _ (λ a r f called. search rules)))
