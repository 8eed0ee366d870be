use Rattle.std.proofs.Common.{◌≡◌, ◌∙◌, ◌++◌, ◌∷◌, List, [], Bool, true, false, ap, arith, filter, map, sym}
use Rattle.std.specs.FinMap.{values}
use Rattle.row_types.specs.declared.value.Value.{Value}
use Rattle.indexed_rows.specs.Rows.{key_of}
use Rattle.stored_tier.specs.Choosing.{matches_at}
use Rattle.group_engine.proofs.CutLaws.{keys_more, keys_skip, take_past}
use Rattle.stored_tier.proofs.GatherLaws.{values_long}
use Rattle.group_engine.proofs.GroupingLaws.{take_all}
use Rattle.group_engine.proofs.unload_hidden.all_hidden.Goals as goal
use Rattle.group_engine.proofs.unload_hidden.all_hidden.Goals.{in-None, in-Some+in_ok-key-in-Some+then-matches+in_ok-push-in-Some, in-Some+in_ok-key-in-Some+else-matches}

pub loop-place-preserved : goal.loop-place-preserved
loop-place-preserved c =
    let rows : List (List Value) = values c.args.hidden.now.table in
    let key : List Value → List Value = key_of c.args.columns.now in
    let test : List Value → Bool = λ row. matches_at c.args.which.now (key_of c.args.columns.now row) row in
    elim c.match-row_at.branch [
      | in-None w ↦ ap (λ v. v.items) w.keys-is ∙ c.loop-place.invariant ∙ ap (λ l. map key (filter test l)) (sym (take_past rows c.loop-place.place (sym w.in-None.ensures)))
      | in-Some+in_ok-key-in-Some+then-matches+in_ok-push-in-Some w ↦ (
          let its : w.in_ok-key-in-Some.key ≡ key_of c.args.columns.now w.in-Some.row.now = w.in_ok-key-in-Some.ensures in
          let good : matches_at c.args.which.now (key_of c.args.columns.now w.in-Some.row.now) w.in-Some.row.now ≡ true =
          sym (ap (λ (k : List Value). matches_at c.args.which.now k w.in-Some.row.now) its) ∙ sym w.matches.ensures ∙ w.if-matches.true in
          ap (λ v. v.items) w.keys-is ∙ w.in_ok-push-in-Some.ensures.items
          ∙ ap (λ (k : List Value). c.loop-place.keys.items ++ k ∷ []) its
          ∙ keys_more key test rows c.loop-place.place w.in-Some.row.now c.loop-place.keys.items (sym w.in-Some.ensures) c.loop-place.invariant good)
      | in-Some+in_ok-key-in-Some+else-matches w ↦ (
          let its : w.in_ok-key-in-Some.key ≡ key_of c.args.columns.now w.in-Some.row.now = w.in_ok-key-in-Some.ensures in
          let bad : matches_at c.args.which.now (key_of c.args.columns.now w.in-Some.row.now) w.in-Some.row.now ≡ false =
          sym (ap (λ (k : List Value). matches_at c.args.which.now k w.in-Some.row.now) its) ∙ sym w.matches.ensures ∙ w.if-matches.false in
          ap (λ v. v.items) w.keys-is
          ∙ keys_skip key test rows c.loop-place.place w.in-Some.row.now c.loop-place.keys.items (sym w.in-Some.ensures) c.loop-place.invariant bad)
    ]

pub returns : goal.returns
returns c =
    let rows : List (List Value) = values c.args.hidden.now.table in
    let key : List Value → List Value = key_of c.args.columns.now in
    let test : List Value → Bool = λ row. matches_at c.args.which.now (key_of c.args.columns.now row) row in
    let long = values_long c.args.hidden.now.table in
    c.loop-place.invariant ∙ ap (λ l. map key (filter test l)) (take_all rows c.loop-place.place (omega (arith, long, c.len-place-end.ensures.value, c.loop-place-test.false)))
