use Rattle.std.proofs.Common.{◌≡◌, true, false, is_some, ap, sym, subst, ◌∙◌}
use Rattle.slot_rows.specs.SlotKeys.{IsPlaceOf}
use Rattle.group_store.proofs.ByUseLaws.{stands}
use Rattle.group_store.proofs.recent.place_in.Goals as goal

pub returns-in-None : goal.returns-in-None
returns-in-None c = λ key at. let z : true ≡ false = sym (c.slots_law.ensures.row c.args.slot key at) ∙ ap is_some (sym (c.in-None.ensures key at)) in cc

pub returns-in-Some : goal.returns-in-Some
returns-in-Some c = λ key at.
    let h = c.args.rows.now in
    let is = c.len-held.ensures.keyed key c.in-Some.row.now (sym (c.in-Some.ensures key at)) in
    stands h key c.place_of.result (c.slots_law.ensures.row c.args.slot key at) (subst (λ k. IsPlaceOf h k c.place_of.result) is c.place_of.ensures)
