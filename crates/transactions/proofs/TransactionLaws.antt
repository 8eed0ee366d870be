-- Laws of what writes do.
use Rattle.std.proofs.Common.{◌≡◌, ℕ, zero, suc, ◌+◌, ◌-◌, ◌<◌, ◌≤◌, Option, Some, None, Result, Ok, Err, List, [], ◌∷◌, ◌++◌, length, drop, slice_get, get_or, unwrap_or, refl, sym, ap, subst, ◌∙◌, arith, append_assoc, length-append}
use Rattle.evaluator.specs.table_state.specs.declared.operation.Op.{Op}
use Rattle.evaluator.specs.table_state.specs.declared.refusal.ApplyError.{ApplyError}
use Rattle.evaluator.specs.table_state.specs.Operations.{applied_all}
use Rattle.evaluator.specs.table_state.specs.Refusals.{broken_by_all}
use Rattle.evaluator.specs.table_state.specs.Tables.{TableState}
use Rattle.evaluator.specs.table_state.proofs.HistoryLaws.{applied_all-append, none_all}
use Rattle.evaluator.specs.declared.change.Change.{Change}
use Rattle.evaluator.specs.Writes.{effects_of}
use Rattle.evaluator.specs.table_state.specs.Keyed.{IsKeyed}
use Rattle.evaluator.specs.table_state.proofs.KeyedLaws.{ops_keyed}
use Rattle.std.specs.Option.{option_and_then}
use Rattle.transactions.specs.declared.written.Written.{Written}
use Rattle.transactions.specs.Transactions.{Done, Leaves, and_then, applied_to, behind, joined, left_by, rows_in, written_by, written_in}

-- one write

unbroken : (ops : List Op) (s n : TableState) → applied_all ops s ≡ Some n → broken_by_all ops s ≡ None
unbroken ops s n h = by (broken_by_all ops s) refl
  where
    by : (f : Option ApplyError) → broken_by_all ops s ≡ f → f ≡ None
    by None e = refl
    by (Some x) e = let none : applied_all ops s ≡ None = none_all ops s x e in cc

module _ (room : ℕ) (change : Change) (s : TableState) where
  module _ (ops : List Op) (effects : effects_of room change s ≡ Ok ops) where
    applied_ops : written_by room change s ≡ left_by change s ops (broken_by_all ops s)
    applied_ops = ap (applied_to change s) effects

    done_write : (n : TableState) → applied_all ops s ≡ Some n → Leaves (written_by room change s) n (record { ops = ops; rows = rows_in change.table ops })
    done_write n h =
        applied_ops ∙ ap (left_by change s ops) (unbroken ops s n h)
        ∙ ap (λ o. Ok (record { written = record { ops = ops; rows = rows_in change.table ops }; state = unwrap_or o s })) h

-- the operations and their number, as they were read
pub done_written : (room : ℕ) (change : Change) (s n : TableState) (ops applied counted : List Op) (rows : ℕ) → effects_of room change s ≡ Ok ops → applied ≡ ops → applied_all applied s ≡ Some n → counted ≡ ops → rows ≡ rows_in change.table counted
    → Leaves (written_by room change s) n (record { ops = ops; rows = rows })
done_written room change s n ops applied counted rows effects same h same_too rows_is =
    let all : applied_all ops s ≡ Some n = ap (λ l. applied_all l s) (sym same) ∙ h in
    let number : rows_in change.table ops ≡ rows = sym (rows_is ∙ ap (rows_in change.table) same_too) in
    done_write room change s ops effects n all ∙ ap (λ r. Ok (record { written = record { ops = ops; rows = r }; state = n })) number

-- one write behind others

behind_both : (a b : Written) (r : Result Done ApplyError) → behind a (behind b r) ≡ behind (joined a b) r
behind_both a b (Err e) = refl
behind_both a b (Ok done) =
    let more : a.rows + (b.rows + done.written.rows) ≡ (a.rows + b.rows) + done.written.rows = omega arith in
    ap (λ ops. Ok (record { written = record { ops = ops; rows = a.rows + (b.rows + done.written.rows) }; state = done.state })) (sym (append_assoc a.ops b.ops done.written.ops))
    ∙ ap (λ n. Ok (record { written = record { ops = (a.ops ++ b.ops) ++ done.written.ops; rows = n }; state = done.state })) more

drop_here : {X : Type 0} (xs : List X) (i : ℕ) (x : X) → slice_get xs i ≡ Some x → drop i xs ≡ x ∷ drop (i + 1) xs
drop_here [] i x at = cc
drop_here (y ∷ xs) zero x at = let same : y ≡ x = cc in ap (λ z. z ∷ xs) same
drop_here (y ∷ xs) (suc i) x at = let next : suc i + 1 ≡ suc (i + 1) = omega arith in rw next (drop_here xs i x at)

there : {X : Type 0} (xs : List X) (i : ℕ) (x : X) → suc i ≤ length xs → x ≡ get_or xs i x → slice_get xs i ≡ Some x
there [] i x lt is = absurd (omega arith)
there (y ∷ xs) zero x lt is = ap Some (sym is)
there (y ∷ xs) (suc i) x lt is = there xs i x (omega arith) is

-- what came of the writes before a place: this was done, and the rest is done on the state that they left
pub record DoneBefore (whole : ℕ) (changes : List Change) (i : ℕ) (start : TableState) (before : Written) (now : TableState) : Type 0 where
  pub so_far : written_in whole changes start ≡ behind before (written_in (whole - length before.ops) (drop i changes) now)
  pub limited : length before.ops ≤ whole
  pub counted : before.rows ≤ length before.ops
  pub applies : applied_all before.ops start ≡ Some now

-- the writes, one after the other

module _ (whole : ℕ) (changes : List Change) (start : TableState) where
  module _ (i : ℕ) (before : Written) (now : TableState) (so_far : DoneBefore whole changes i start before now) where
    pub keyed_now : IsKeyed start → IsKeyed now
    keyed_now keyed = ops_keyed before.ops start now so_far.applies keyed

    module _ (change : Change) (here : i < length changes) (is : change ≡ get_or changes i change) (room : ℕ) (room_is : room ≡ whole - length before.ops) where
      after : Result Done ApplyError → Result Done ApplyError
      after r = behind before (and_then (λ first. behind first.written (written_in (room - length first.written.ops) (drop (i + 1) changes) first.state)) r)

      opened : written_in whole changes start ≡ after (written_by room change now)
      unfolding after
      opened =
          so_far.so_far ∙ ap (λ n. behind before (written_in n (drop i changes) now)) (sym room_is)
          ∙ ap (λ l. behind before (written_in room l now)) (drop_here changes i change (there changes i change (omega arith) is))

      went_on : (more : Written) (new : TableState) → Leaves (written_by room change now) new more → length more.ops ≤ room → more.rows ≤ length more.ops → applied_all more.ops now ≡ Some new
          → DoneBefore whole changes (i + 1) start (joined before more) new
      unfolding after
      went_on more new h limited counted applies =
          let both : length (before.ops ++ more.ops) ≡ length before.ops + length more.ops = length-append before.ops more.ops in
          let few : length before.ops ≤ whole = so_far.limited in
          let fewer : before.rows ≤ length before.ops = so_far.counted in
          let left : room - length more.ops ≡ whole - length (before.ops ++ more.ops) = omega arith in
          record {
            so_far =
                opened ∙ ap after h ∙ behind_both before more (written_in (room - length more.ops) (drop (i + 1) changes) new)
                ∙ ap (λ n. behind (joined before more) (written_in n (drop (i + 1) changes) new)) left;
            limited = omega arith;
            counted = omega arith;
            applies = applied_all-append before.ops more.ops start ∙ ap (option_and_then (applied_all more.ops)) so_far.applies ∙ applies;
          }

      pub went_on_as : (more : Written) (new : TableState) (ops : List Op) → ops ≡ before.ops ++ more.ops → Leaves (written_by room change now) new more → length more.ops ≤ room → more.rows ≤ length more.ops → applied_all more.ops now ≡ Some new
          → DoneBefore whole changes (i + 1) start (record { ops = ops; rows = before.rows + more.rows }) new
      went_on_as more new ops same h limited counted applies =
          subst (λ (l : List Op). DoneBefore whole changes (i + 1) start (record { ops = l; rows = before.rows + more.rows }) new) (sym same) (went_on more new h limited counted applies)
