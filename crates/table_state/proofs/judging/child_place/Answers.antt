use Rattle.std.proofs.Common.{◌≡◌, ◌<◌, ◌&&◌, IfSome, drop, false, true, nat_eq, slice_get, refl, sym, ap, subst, ◌∙◌, arith}
use Rattle.std.proofs.lemmas.Grind.{common_steps}
use Rattle.std.specs.FinMap.{entries, len, values}
use Rattle.std.specs.List.{find}
use Rattle.std.specs.Option.{option_and_then}
use Rattle.indexed_rows.specs.Rows.{first_from, has_key, is_same, key_of}
use Rattle.table_state.proofs.ChildLaws.{entry_found, place_within}
use Rattle.table_state.proofs.ListLaws.{find_none}
use Rattle.table_state.proofs.judging.child_place.Goals as goal

pub returns-in-None-clause-found : goal.returns-in-None-clause-found
returns-in-None-clause-found c = rw c.in-None.is (find_none _ (λ e. refl) (entries c.args.rows.now))

pub returns-else-eq-clause-found : goal.returns-else-eq-clause-found
returns-else-eq-clause-found c =
    let other : nat_eq c.args.table.0 c.in-Some.foreign.parent.0 ≡ false = grind (arith, common_steps) in
    rw c.in-Some.is (find_none _ (λ e. ap (λ b. b && is_same (key_of c.in-Some.foreign.columns e.1) c.args.key.now) other) (entries c.args.rows.now))

pub returns-then-eq-clause-found : goal.returns-then-eq-clause-found
returns-then-eq-clause-found c =
    let same : nat_eq c.args.table.0 c.in-Some.foreign.parent.0 ≡ true = grind (arith, common_steps) in
    rw c.in-Some.is
    (ap (option_and_then (slice_get (entries c.args.rows.now))) (c.child.ensures ∙ ap (λ l. first_from (has_key l c.args.key.now) 0 (drop 0 (values c.args.rows.now))) c.as_slice.ensures)
    ∙ entry_found (has_key c.in-Some.foreign.columns c.args.key.now) c.args.rows.now
    ∙ ap (λ b. find (λ e. b && is_same (key_of c.in-Some.foreign.columns e.1) c.args.key.now) (entries c.args.rows.now)) (sym same))

pub returns-then-eq-clause-within : goal.returns-then-eq-clause-within
returns-then-eq-clause-within c = subst (λ o. IfSome o (λ place. place < len c.args.rows.now)) (sym c.child.ensures) (place_within (has_key c.as_slice.result.now c.args.key.now) c.args.rows.now)
