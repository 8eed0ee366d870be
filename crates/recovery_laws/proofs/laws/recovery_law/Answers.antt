use Rattle.std.proofs.Common.{refl}
use Rattle.order_laws.specs.Commits.{pending}
use Rattle.recovery_laws.specs.Notes.{log_in}
use Rattle.recovery_laws.proofs.JoinLaws.{resumes}
use Rattle.recovery_laws.proofs.MatchLaws.{matched_stands}
use Rattle.recovery_laws.proofs.RecoverLaws.{again, recovers, round_matches}
use Rattle.recovery_laws.proofs.laws.recovery_law.Goals as goal

pub returns-clause-stands : goal.returns-clause-stands
returns-clause-stands c = matched_stands

pub returns-clause-resumes : goal.returns-clause-resumes
returns-clause-resumes c = resumes

pub returns-clause-recovers : goal.returns-clause-recovers
returns-clause-recovers c notes h m = recovers notes h (pending h (log_in h notes)) m refl

pub returns-clause-round : goal.returns-clause-round
returns-clause-round c = round_matches

pub returns-clause-again : goal.returns-clause-again
returns-clause-again c notes h later r = (again notes h later r).1
