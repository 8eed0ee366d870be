use Rattle.std.specs.FinMap as fm
use Rattle.indexed_rows.proofs.MapLaws.{slice_get_map}
use Rattle.indexed_rows.proofs.rows.Rows.row_at.Goals as goal

pub returns : goal.returns
returns c = slice_get_map (λ e. e.1) (fm.entries c.args.self.now) c.args.place c.entry_at.result.now c.entry_at.ensures
