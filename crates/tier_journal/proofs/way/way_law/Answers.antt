use Rattle.tier_journal.proofs.WayLaws.{ways_begin}
use Rattle.tier_journal.proofs.way.way_law.Goals as goal

pub returns : goal.returns
returns g c = record { begins = ways_begin g.D.Disk.state g.D.Disk.possible }
