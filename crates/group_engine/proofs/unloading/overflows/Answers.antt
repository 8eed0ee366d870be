use Rattle.std.proofs.Common.{◌≡◌, ◌∙◌, ap, false, is_none, rules, sym, true}
use Rattle.std.specs.FinMap.{values}
use Rattle.std.specs.List.{list_any}
use Rattle.evaluator.specs.Writes.{selects}
use Rattle.instances.specs.Views.{kept_at}
use Rattle.group_engine.proofs.CutLaws.{take_past}
use Rattle.group_engine.proofs.MatchedRoots.{none_past}
use Rattle.stored_tier.proofs.GatherLaws.{none_at_all, none_more, some_there, values_long}
use Rattle.group_engine.proofs.unloading.overflows.Goals as goal
use Rattle.group_engine.proofs.unloading.overflows.Goals.{in-None, in-Some+else-is_none-2}

pub returns-then-is_none : goal.returns-then-is_none
returns-then-is_none c =
    let none : is_none c.args.which.now.filter ≡ true = first_of (search rules, cc) in
    sym (none_past c.args.which.now.filter (kept_at c.args.store.now.tables 0) none)

pub returns-then-is_none-2 : goal.returns-then-is_none-2
returns-then-is_none-2 c =
    let good : is_none (selects c.args.which.now.filter c.in-Some.row.now) ≡ true = first_of (search rules, cc) in
    sym (some_there (λ row. is_none (selects c.args.which.now.filter row)) (values (kept_at c.args.store.now.tables 0)) c.loop-place.place c.in-Some.row.now (sym c.in-Some.ensures) good)

pub loop-place-preserved : goal.loop-place-preserved
loop-place-preserved c = elim c.match-row.branch [
  | in-None w ↦ ap (list_any (λ row. is_none (selects c.args.which.now.filter row))) (take_past (values (kept_at c.args.store.now.tables 0)) c.loop-place.place (sym w.in-None.ensures)) ∙ c.loop-place.invariant
  | in-Some+else-is_none-2 w ↦ (
      let bad : is_none (selects c.args.which.now.filter w.in-Some.row.now) ≡ false = first_of (search rules, cc) in
      none_more (λ row. is_none (selects c.args.which.now.filter row)) (values (kept_at c.args.store.now.tables 0)) c.loop-place.place w.in-Some.row.now (sym w.in-Some.ensures) c.loop-place.invariant bad)
]

pub returns : goal.returns
returns c =
    sym (none_at_all (λ row. is_none (selects c.args.which.now.filter row)) (values (kept_at c.args.store.now.tables 0)) c.loop-place.place c.len-place-end.result c.loop-place.invariant (c.len-place-end.ensures.value ∙ sym (values_long (kept_at c.args.store.now.tables 0))) c.loop-place-test.false)
