-- The key of the row at the place is that of the entry there.
use Rattle.std.proofs.Common.{ap, ◌∙◌, arith}
use Rattle.own_rows.specs.Ranks.{rank}
use Rattle.own_rows.proofs.StandLaws.{is_entry, row_within}
use Rattle.own_rows.proofs.seeking.gone_before.Goals as goal

pub returns-in-Some-clause-there : goal.returns-in-Some-clause-there
returns-in-Some-clause-there g c = λ entry at. c.rank_of_row.ensures.rank ∙ ap (rank c.args.own.now.gone) (is_entry _ _ c.requires _ _ c.in-Some.ensures entry at)

pub returns-in-Some-clause-past : goal.returns-in-Some-clause-past
returns-in-Some-clause-past g c = λ past. absurd (let within = row_within _ _ c.requires _ _ c.in-Some.ensures in omega arith)
