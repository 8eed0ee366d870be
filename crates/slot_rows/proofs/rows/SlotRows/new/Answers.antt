use Rattle.std.proofs.Common.{ap, ◌∙◌}
use Rattle.slot_rows.specs.Slots.{table_in}
use Rattle.slot_rows.specs.SlotKeys.{slot_keys_in}
use Rattle.indexed_rows.proofs.MapLaws.{no_entries}
use Rattle.slot_rows.proofs.rows.SlotRows.new.Goals as goal

pub returns-clause-table : goal.returns-clause-table
returns-clause-table c = ap (λ entries. table_in c.new.result c.new-2.result.places entries) c.new-2.ensures.entries ∙ no_entries

pub returns-clause-slots : goal.returns-clause-slots
returns-clause-slots c = ap (λ entries. slot_keys_in c.new.result c.new-2.result.places entries) c.new-2.ensures.entries
