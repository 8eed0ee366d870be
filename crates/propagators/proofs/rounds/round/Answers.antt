use Rattle.std.proofs.Common.{append_assoc, arith, rules, ℕ, ◌≡◌, ◌++◌, ◌∷◌, ◌∙◌, [], Err, refl, subst, sym, drop, length, ap}
use Rattle.std.specs.Prelude.{Result}
use Rattle.std.proofs.lemmas.List.{length-drop}
use Rattle.propagators.specs.Rounds.{TellsRound, doubts, doubts_at}
use Rattle.propagators.specs.declared.rounds.RoundFault.{RoundFault}
use Rattle.propagators.proofs.CertainLaws.{certain_then, same_certain}
use Rattle.propagators.proofs.RoundSteps.{first_differs, first_leaves, goes_on, goes_same, settled_goes, shared_call, stopped_goes, told_stays}
use Rattle.propagators.proofs.rounds.round.Goals as goal

pub loop-sealed-init : goal.loop-sealed-init
loop-sealed-init g c = record {
  goes = goes_same (g.P.Disk.state c.args.site.now).shared (g.P.Disk.state c.args.site.now).held c.args.unsettled.now.items;
  count = Prim.omega arith;
  rest = ([], refl);
  tells = λ some. some;
  faults = Prim.omega arith;
  disk = refl;
  shared = refl;
  moment = Prim.omega arith;
  certain = same_certain g.P.Disk.state g.P.Disk.possible c.args.site.now;
}

pub returns-in_err-settle-clause-goes : goal.returns-in_err-settle-clause-goes
returns-in_err-settle-clause-goes g c =
    let items = c.loop-sealed.unsettled.items in
    let s = c.in-Some.sealed.now in
    let is : items ≡ s ∷ drop 1 items = first_leaves items s c.in-Some.ensures.item.3.0 c.in-Some.ensures.lookup in
    let told : Err c.in_err-settle.field-0.0 ≡ c.from_residual.result = Prim.search rules in
    subst
    (λ (r : Result ℕ RoundFault). TellsRound (g.P.Disk.state c.args.site.now).shared (g.P.Disk.state c.args.site.now).held (g.P.Disk.state c.settle.new.site).held (doubts r) c.args.unsettled.now.items items) told
    (goes_on (g.P.Disk.state c.args.site.now).shared (doubts_at c.in_err-settle.field-0.0) (g.P.Disk.state c.args.site.now).held (g.P.Disk.state c.loop-sealed.site).held (g.P.Disk.state c.settle.new.site).held c.args.unsettled.now.items items items
    c.loop-sealed.invariant.goes
    (stopped_goes (g.P.Disk.state c.args.site.now).shared (g.P.Disk.state c.loop-sealed.site).held (g.P.Disk.state c.settle.new.site).held items (drop 1 items) s c.in_err-settle.field-0.0 is (shared_call _ _ _ _ _ c.loop-sealed.invariant.shared c.in_err-settle.ensures.told)))

pub loop-sealed-preserved : goal.loop-sealed-preserved
loop-sealed-preserved g c =
    let items = c.loop-sealed.unsettled.items in
    let s = c.in-Some.sealed.now in
    let new = c.pop_front.new.self.items in
    let some = c.in-Some.ensures.item.3.0 in
    let is : items ≡ s ∷ drop 1 items = first_leaves items s some c.in-Some.ensures.lookup in
    let rest : new ≡ drop 1 items = c.pop_front.ensures.rest in
    let left : items ≡ s ∷ new = is ∙ ap (λ l. s ∷ l) (sym rest) in
    let shorter : length new ≡ length (drop 1 items) = ap length rest in
    record {
      goes = goes_on (g.P.Disk.state c.args.site.now).shared 0 (g.P.Disk.state c.args.site.now).held (g.P.Disk.state c.loop-sealed.site).held (g.P.Disk.state c.settle.new.site).held c.args.unsettled.now.items items new
          c.loop-sealed.invariant.goes
          (settled_goes (g.P.Disk.state c.args.site.now).shared (g.P.Disk.state c.loop-sealed.site).held (g.P.Disk.state c.settle.new.site).held items new s c.in_ok-settle.field-0 left (shared_call _ _ _ _ _ c.loop-sealed.invariant.shared c.in_ok-settle.ensures.told));
      count = Prim.omega (arith, shorter, length-drop 1 items, some, c.loop-sealed.invariant.count);
      rest = (
        c.loop-sealed.invariant.rest.0 ++ s ∷ [],
        c.loop-sealed.invariant.rest.1 ∙ ap (λ l. c.loop-sealed.invariant.rest.0 ++ l) left
            ∙ sym (append_assoc c.loop-sealed.invariant.rest.0 (s ∷ []) new),
      );
      tells = λ some. told_stays (g.P.Disk.state c.loop-sealed.site).held (g.P.Disk.state c.settle.new.site).held _ c.settle.ensures.told (c.loop-sealed.invariant.tells some);
      faults = Prim.omega (arith, c.loop-sealed.invariant.faults, c.settle.ensures.cause.later);
      disk = c.settle.ensures.cause.disk ∙ c.loop-sealed.invariant.disk;
      shared = c.settle.ensures.cause.shared ∙ c.loop-sealed.invariant.shared;
      moment = Prim.omega (arith, c.loop-sealed.invariant.moment, c.settle.ensures.moment);
      certain = certain_then g.P.Disk.state g.P.Disk.possible c.args.site.now c.loop-sealed.site c.settle.new.site c.loop-sealed.invariant.certain c.settle.ensures.certain;
    }

pub returns-in_err-settle-clause-differs : goal.returns-in_err-settle-clause-differs
returns-in_err-settle-clause-differs g c = λ table key is some held tells.
    let items = c.loop-sealed.unsettled.items in
    let s = c.in-Some.sealed.now in
    let e : items ≡ s ∷ drop 1 items = first_leaves items s c.in-Some.ensures.item.3.0 c.in-Some.ensures.lookup in
    first_differs (g.P.Disk.state c.args.site.now).shared (g.P.Disk.state c.loop-sealed.site).held (g.P.Disk.state c.settle.new.site).held items (drop 1 items) s c.in_err-settle.field-0.0 table key e (shared_call _ _ _ _ _ c.loop-sealed.invariant.shared c.in_err-settle.ensures.told) (Prim.search rules) (c.loop-sealed.invariant.tells some) held tells

pub returns-in_err-settle-clause-certain : goal.returns-in_err-settle-clause-certain
returns-in_err-settle-clause-certain g c =
    certain_then g.P.Disk.state g.P.Disk.possible c.args.site.now c.loop-sealed.site c.settle.new.site c.loop-sealed.invariant.certain c.settle.ensures.certain
