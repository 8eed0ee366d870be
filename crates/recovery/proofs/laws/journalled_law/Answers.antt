use Rattle.recovery.proofs.AtOnceLaws.{at_once_kept, number_kept, passed_kept, prepare_kept}
use Rattle.recovery.proofs.DroppedLaws.{drop_kept}
use Rattle.recovery.proofs.CatalogLaws.{define_kept}
use Rattle.recovery.proofs.JournalledLaws.{commits_kept, flushes_kept, loaded_kept, quiet_kept, state_kept}
use Rattle.recovery.proofs.OthersLaws.{others_kept, reads_kept}
use Rattle.recovery.proofs.RotatedLaws.{rotation_kept}
use Rattle.recovery.proofs.RoundedLaws.{round_kept}
use Rattle.recovery.proofs.TablesLaws.{table_kept}
use Rattle.recovery.proofs.laws.journalled_law.Goals as goal

pub returns-clause-commits : goal.returns-clause-commits
returns-clause-commits c = commits_kept

pub returns-clause-flushes : goal.returns-clause-flushes
returns-clause-flushes c = flushes_kept

pub returns-clause-states : goal.returns-clause-states
returns-clause-states c = state_kept

pub returns-clause-flags : goal.returns-clause-flags
returns-clause-flags c = loaded_kept

pub returns-clause-quiet : goal.returns-clause-quiet
returns-clause-quiet c = quiet_kept

pub returns-clause-definitions : goal.returns-clause-definitions
returns-clause-definitions c = define_kept

pub returns-clause-drops : goal.returns-clause-drops
returns-clause-drops c = drop_kept

pub returns-clause-round : goal.returns-clause-round
returns-clause-round c = round_kept

pub returns-clause-prepares : goal.returns-clause-prepares
returns-clause-prepares c = prepare_kept

pub returns-clause-applies : goal.returns-clause-applies
returns-clause-applies c = at_once_kept

pub returns-clause-numbers : goal.returns-clause-numbers
returns-clause-numbers c = number_kept

pub returns-clause-passes : goal.returns-clause-passes
returns-clause-passes c = passed_kept

pub returns-clause-others : goal.returns-clause-others
returns-clause-others c = others_kept

pub returns-clause-reads : goal.returns-clause-reads
returns-clause-reads c = reads_kept

pub returns-clause-rotates : goal.returns-clause-rotates
returns-clause-rotates c = rotation_kept

pub returns-clause-tables : goal.returns-clause-tables
returns-clause-tables c = table_kept
