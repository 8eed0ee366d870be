use Rattle.std.proofs.Common.{slice_get, ap, sym, ◌∙◌}
use Rattle.std.specs.Option.{option_and_then, option_copied}
use Rattle.std.specs.FinMap as fm
use Rattle.group_store.proofs.RecentLaws.{first_row}
use Rattle.group_store.proofs.recent.RecentRows.oldest.Goals as goal

pub returns-in-Some : goal.returns-in-Some
returns-in-Some c =
    let l = c.self.inside in
    first_row l.rows.slots l.recent.keys c.self.invariant.0 l.rows.table (option_copied c.row_in.result) c.in-Some.slot.now (sym c.in-Some.ensures) c.row_in.ensures
    ∙ ap (λ h. option_and_then (fm.get h.table) (slice_get h.keys 0)) c.self.view_is
