use Rattle.recovery_laws.proofs.RenewLaws.{rotation_event}
use Rattle.recovery_laws.proofs.RotateLaws.{rotation_matches}
use Rattle.recovery_laws.proofs.laws.rotation_law.Goals as goal

pub returns-clause-matches : goal.returns-clause-matches
returns-clause-matches c notes h flags us next m may = rotation_matches notes h flags us next m may.ticket may.later may.live may.stand

pub returns-clause-event : goal.returns-clause-event
returns-clause-event c w early flags us next st nothing may holds = rotation_event w early flags us next st nothing may.ticket may.later may.live may.stand holds
