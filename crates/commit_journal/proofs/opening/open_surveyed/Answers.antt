use Rattle.commit_journal.proofs.opening.open_surveyed.Goals as goal

pub returns-in_err-opened-clause-crash : goal.returns-in_err-opened-clause-crash
returns-in_err-opened-clause-crash g c = λ o s have. c.open_by.ensures.crash o s.certain have s.first s.second

pub returns-clause-crash : goal.returns-clause-crash
returns-clause-crash g c = λ o s have. c.open_by.ensures.crash o s.certain have s.first s.second

pub returns-clause-opened : goal.returns-clause-opened
returns-clause-opened g c = λ o s have. c.in_ok-opened.ensures.opened o s.certain have s.first_len s.second_len s.first s.second

pub returns-clause-new : goal.returns-clause-new
returns-clause-new g c = c.in_ok-opened.ensures.new
