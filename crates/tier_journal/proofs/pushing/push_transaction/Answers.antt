use Rattle.std.proofs.Common.{◌≡◌, ◌++◌, List, ℕ, ap, sym, subst, length, ◌∙◌, rules}
use Rattle.std.specs.List.{AllByRecursion, flat_map}
use Rattle.std.specs.Int.{w16, w64, to_be_bytes}
use Rattle.std.proofs.lemmas.List.{length-map}
use Rattle.std.proofs.lemmas.List.Folds.{flat_map-map}
use Rattle.table_state.specs.declared.operation.Op.{Op}
use Rattle.journal_entries.specs.Spelling.{IsOp, op_bytes}
use Rattle.tier_journal.specs.Writing.{written_op, written_ops}
use Rattle.tier_journal.proofs.BatchLaws.{four_parts}
use Rattle.tier_journal.proofs.Lists.{all_mapped}
use Rattle.tier_journal.proofs.pushing.push_transaction.Goals as goal

pub push_ops-requires : goal.push_ops-requires
push_ops-requires c =
    subst (λ (l : List Op). AllByRecursion (λ op. IsOp 2 (written_op c.args.schema.now op)) l) (sym c.as_slice.ensures)
    (all_mapped (IsOp 2) (written_op c.args.schema.now) c.args.sealed.now.ops c.requires.each)

pub returns : goal.returns
returns c =
    let x = c.args.out.now.items in
    let ops = c.args.sealed.now.ops in
    let t = to_be_bytes w64 c.args.sealed.now.ticket.0 in
    let n = to_be_bytes w16 (length (written_ops c.args.schema.now ops)) in
    let f = flat_map op_bytes (written_ops c.args.schema.now ops) in
    let three : c.put_bytes-2.new.out.items ≡ c.put_bytes.new.out.items ++ to_be_bytes w16 (length ops) = search rules in
    four_parts x c.put_byte.new.out.items c.put_bytes.new.out.items c.put_bytes-2.new.out.items c.push_ops.new.out.items t n f c.args.tag
    (search rules) (search rules) (three ∙ ap (λ (k : ℕ). c.put_bytes.new.out.items ++ to_be_bytes w16 k) (sym (length-map ops (written_op c.args.schema.now))))
    (c.in_ok-push_ops.ensures ∙ ap (λ (l : List Op). c.put_bytes-2.new.out.items ++ flat_map (λ op. op_bytes (written_op c.args.schema.now op)) l) c.as_slice.ensures
    ∙ ap (λ (l : List ℕ). c.put_bytes-2.new.out.items ++ l) (sym (flat_map-map op_bytes (written_op c.args.schema.now) ops)))
