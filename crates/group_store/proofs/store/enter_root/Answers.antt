use Rattle.std.proofs.Common.{rules, [], ap, sym, ◌∙◌}
use Rattle.slot_rows.specs.indexed_rows.specs.Rows.{key_of}
use Rattle.group_store.specs.Entering.{keys_of_rows, root_entered}
use Rattle.group_store.proofs.RootLaws.{one_key_less, one_key_more}
use Rattle.group_store.proofs.store.enter_root.Goals as goal

pub returns-in_ok-insert-in-Insert : goal.returns-in_ok-insert-in-Insert
returns-in_ok-insert-in-Insert c =
    one_key_more c.args.roots.now c.insert.new.self (key_of c.args.places.now c.in-Insert.row) [] (search rules)
    ∙ sym (ap (λ op. root_entered c.args.places.now op (keys_of_rows c.args.roots.now)) c.in-Insert.is)

pub returns-in_ok-key-in-Delete : goal.returns-in_ok-key-in-Delete
returns-in_ok-key-in-Delete c =
    one_key_less c.args.roots.now c.remove.new.self (key_of c.args.places.now c.in-Delete.row) (search rules)
    ∙ sym (ap (λ op. root_entered c.args.places.now op (keys_of_rows c.args.roots.now)) c.in-Delete.is)
