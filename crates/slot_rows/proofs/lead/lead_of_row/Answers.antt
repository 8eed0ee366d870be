use Rattle.std.proofs.Common.{sym, ap, ◌∙◌}
use Rattle.std.specs.Option.{option_copied}
use Rattle.slot_rows.specs.Leads.{lead}
use Rattle.slot_rows.proofs.OrderLaws.{lead_of_first}
use Rattle.slot_rows.proofs.lead.lead_of_row.Goals as goal

pub returns-in-Some : goal.returns-in-Some
returns-in-Some c = c.lead.ensures ∙ ap lead c.value_at.ensures ∙ sym (lead_of_first c.args.places.now c.args.row.now c.in-Some.place.now (sym c.first.ensures.value ∙ ap option_copied c.in-Some.is))
