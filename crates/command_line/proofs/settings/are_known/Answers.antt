use Rattle.std.proofs.Common.{◌∙◌}
use Rattle.command_line.proofs.KeyLaws.{known-view}
use Rattle.command_line.proofs.settings.are_known.Goals as goal

pub returns : goal.returns
returns c = c.has_known_keys.ensures ∙ known-view c.args.table.now.entries
