use Rattle.indexed_rows.proofs.MapLaws.{inside, entry_is}
use Rattle.indexed_rows.proofs.rows.Rows.entry_at.Goals as goal

pub at-requires : goal.at-requires
at-requires c = inside c.self.inside.entries c.args.self.now c.self.invariant c.self.view_is _ c.requires

pub returns : goal.returns
returns c = entry_is c.self.inside.entries c.args.self.now c.self.invariant c.self.view_is _ c.at.result.now (inside c.self.inside.entries c.args.self.now c.self.invariant c.self.view_is _ c.requires) c.at.ensures
