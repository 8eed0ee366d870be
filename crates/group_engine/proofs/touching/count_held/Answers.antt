use Rattle.std.proofs.Common.{◌∙◌, List, ap, sym}
use Rattle.std.specs.FinMap.{len, len-empty}
use Rattle.row_types.specs.Order.{key_order}
use Rattle.row_types.specs.declared.value.Value.{Value}
use Rattle.stored_tier.proofs.GatherLaws.{none_chosen}
use Rattle.group_engine.specs.Touching.{is_held_match}
use Rattle.group_engine.proofs.touching.count_held.Goals as goal

pub returns-in-None : goal.returns-in-None
returns-in-None c = sym (ap len (none_chosen (is_held_match c.args.which.now c.args.store.now c.args.hidden.now.table) c.args.tables.now.tables c.args.table.0 c.in-None.ensures) ∙ len-empty key_order (List Value))
