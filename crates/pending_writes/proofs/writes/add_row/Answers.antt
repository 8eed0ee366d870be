use Rattle.std.proofs.Common.{◌≡◌, ◌∙◌, ◌||◌, Bool, Some, None, true, false, cond, sym, ap, refl}
use Rattle.std.specs.Option.{option_copied, option_or}
use Rattle.table_state.specs.Footprints.{same_row_key}
use Rattle.pending_writes.specs.LastWriters.{left_by_row}
use Rattle.pending_writes.specs.Noting.{told_by}
use Rattle.pending_writes.proofs.NoteLaws.{told_more}
use Rattle.pending_writes.proofs.writes.add_row.Goals as goal

or_false : (b : Bool) → b ≡ b || false
or_false true = refl
or_false false = refl

pub returns-in_ok-push-in-Some : goal.returns-in_ok-push-in-Some
returns-in_ok-push-in-Some c = λ k.
    told_more k _ _ _ c.in_ok-push-in-Some.ensures.items
    ∙ ap (λ key. option_or (cond (same_row_key k (record { table = c.args.table; key = key })) (Some c.args.leaves) None) (told_by k c.args.writes.now.items)) (c.in_ok-key-in-Some.ensures)
    ∙ ap (λ b. option_or (cond b (Some c.args.leaves) None) (told_by k c.args.writes.now.items)) (or_false (same_row_key k (record { table = c.args.table; key = Rattle.table_state.specs.indexed_rows.specs.Rows.key_of c.in-Some.def.now.primary_key c.args.row.now })))
    ∙ ap (λ o. option_or (left_by_row k c.args.table (option_copied o) c.args.row.now c.args.leaves) (told_by k c.args.writes.now.items)) (sym c.in-Some.is)
