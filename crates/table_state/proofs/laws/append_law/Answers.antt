use Rattle.table_state.proofs.HistoryLaws.{applied_all-append, state_from-append, state_of-append, has_ticket-append}
use Rattle.table_state.proofs.laws.append_law.Goals as goal

pub returns-clause-operations : goal.returns-clause-operations
returns-clause-operations c = applied_all-append

pub returns-clause-entries : goal.returns-clause-entries
returns-clause-entries c = state_from-append

pub returns-clause-history : goal.returns-clause-history
returns-clause-history c = state_of-append

pub returns-clause-tickets : goal.returns-clause-tickets
returns-clause-tickets c = has_ticket-append
