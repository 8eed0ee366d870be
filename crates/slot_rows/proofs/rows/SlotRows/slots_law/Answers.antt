use Rattle.std.proofs.Common.{subst}
use Rattle.slot_rows.specs.SlotKeys.{HasSlotKeys}
use Rattle.slot_rows.proofs.SlotKeyLaws.{in_slots, in_table, one_slot}
use Rattle.slot_rows.proofs.rows.SlotRows.slots_law.Goals as goal

pub returns : goal.returns
returns c =
    let l = c.self.inside in
    let o = l.by_key in
    subst HasSlotKeys c.self.view_is (record {
      row = in_table l.rows o.places o.entries c.self.invariant.0;
      slot = in_slots l.rows o.places o.entries c.self.invariant.0;
      only = one_slot l.rows o.places o.entries c.self.invariant.0;
    })
