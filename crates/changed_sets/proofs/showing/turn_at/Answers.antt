use Rattle.std.proofs.Common.{◌<◌, ◌≤◌, ◌+◌, List, Some, ap, length, rules, subst, sym}
use Rattle.group_store.specs.Stores.{SameButSpare}
use Rattle.changed_sets.specs.Showing.{TurnedBy}
use Rattle.changed_sets.specs.Turning.{AreUnder, FitTurns, count_cuts, count_turns, turned}
use Rattle.changed_sets.specs.declared.turns.Cut.{Cut}
use Rattle.changed_sets.specs.declared.turns.Turn.{Turn}
use Rattle.changed_sets.proofs.ListSteps.{found}
use Rattle.changed_sets.proofs.ShowSteps.{at_past, at_set}
use Rattle.changed_sets.proofs.showing.turn_at.Goals as goal

pub turn-requires-clause-fits : goal.turn-requires-clause-fits
turn-requires-clause-fits c =
    let lt : c.args.place < length c.args.stores.now.items = Prim.search rules in
    let there = found c.args.stores.now.items c.args.place c.index_mut.result.now lt c.index_mut.ensures.value in
    let ready = c.requires c.index_mut.result.now there in
    subst (λ (ts : List Turn). FitTurns (length c.index_mut.result.now.layers + 1) ts) (sym (ap (λ r. r.1) c.into_parts-cuts.ensures)) ready.fits

pub turn-requires-clause-under : goal.turn-requires-clause-under
turn-requires-clause-under c =
    let lt : c.args.place < length c.args.stores.now.items = Prim.search rules in
    let there = found c.args.stores.now.items c.args.place c.index_mut.result.now lt c.index_mut.ensures.value in
    let ready = c.requires c.index_mut.result.now there in
    subst (λ (cs : List Cut). AreUnder c.index_mut.result.now.key cs) (sym (ap (λ r. r.0) c.into_parts-cuts.ensures)) ready.under

pub turn-requires-clause-room : goal.turn-requires-clause-room
turn-requires-clause-room c =
    let lt : c.args.place < length c.args.stores.now.items = Prim.search rules in
    let there = found c.args.stores.now.items c.args.place c.index_mut.result.now lt c.index_mut.ensures.value in
    let ready = c.requires c.index_mut.result.now there in
    subst (λ (cs : List Cut). count_cuts cs + count_turns c.into_parts-cuts.result.1 ≤ c.index_mut.result.now.spare) (sym (ap (λ r. r.0) c.into_parts-cuts.ensures))
    (subst (λ (ts : List Turn). count_cuts c.args.patch.cuts + count_turns ts ≤ c.index_mut.result.now.spare) (sym (ap (λ r. r.1) c.into_parts-cuts.ensures)) ready.room)

pub returns-then-place-len-clause-stores : goal.returns-then-place-len-clause-stores
returns-then-place-len-clause-stores c =
    let lt : c.args.place < length c.args.stores.now.items = Prim.search rules in
    let there = found c.args.stores.now.items c.args.place c.index_mut.result.now lt c.index_mut.ensures.value in
    at_set TurnedBy c.args.place (Some c.args.patch) c.args.stores.now.items c.index_mut.result.now c.turn.new.store there (record {
      store =
          subst (λ (cs : List Cut). SameButSpare (turned cs c.args.patch.turns c.index_mut.result.now) c.turn.new.store) (ap (λ r. r.0) c.into_parts-cuts.ensures)
          (subst (λ (ts : List Turn). SameButSpare (turned c.into_parts-cuts.result.0 ts c.index_mut.result.now) c.turn.new.store) (ap (λ r. r.1) c.into_parts-cuts.ensures) c.turn.ensures.turned);
      keyed = c.turn.ensures.keyed;
    })

pub returns-clause-stores : goal.returns-clause-stores
returns-clause-stores c =
    let le : length c.args.stores.now.items ≤ c.args.place = Prim.search rules in
    at_past TurnedBy c.args.place (Some c.args.patch) c.args.stores.now.items le
