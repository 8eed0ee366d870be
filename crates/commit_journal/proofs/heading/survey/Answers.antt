use Rattle.outside.proofs.Moments.{rests_then}
use Rattle.commit_journal.proofs.KeepLaws.{settled_crash, steps_crash, at_last, len_1, len_2, head_1, head_2}
use Rattle.commit_journal.proofs.heading.survey.Goals as goal

pub returns-in_err-second_len-clause-crash : goal.returns-in_err-second_len-clause-crash
returns-in_err-second_len-clause-crash g c = λ o h have.
    settled_crash g.D.Disk.state g.D.Disk.possible c.args.d.now c.settle.new.d c.slot_length-2.new.d c.settle.ensures.crash c.in_ok-settle.ensures.certain
    (rests_then g.D.Disk.state g.D.Disk.possible c.settle.new.d c.head_at.new.d c.slot_length-2.new.d
    (rests_then g.D.Disk.state g.D.Disk.possible c.settle.new.d c.slot_length.new.d c.head_at.new.d c.slot_length.ensures.rests c.head_at.ensures.rests) c.slot_length-2.ensures.rests) o h have

pub returns-in_err-second-clause-crash : goal.returns-in_err-second-clause-crash
returns-in_err-second-clause-crash g c = λ o h have. steps_crash g.D.Disk.state g.D.Disk.possible c.args.d.now c.settle.new.d c.slot_length.new.d c.head_at.new.d c.slot_length-2.new.d c.head_at-2.new.d c.settle.ensures.crash c.in_ok-settle.ensures.certain c.slot_length.ensures.rests c.head_at.ensures.rests c.slot_length-2.ensures.rests c.head_at-2.ensures.rests o h have

pub returns-clause-crash : goal.returns-clause-crash
returns-clause-crash g c = λ o h have. steps_crash g.D.Disk.state g.D.Disk.possible c.args.d.now c.settle.new.d c.slot_length.new.d c.head_at.new.d c.slot_length-2.new.d c.head_at-2.new.d c.settle.ensures.crash c.in_ok-settle.ensures.certain c.slot_length.ensures.rests c.head_at.ensures.rests c.slot_length-2.ensures.rests c.head_at-2.ensures.rests o h have

pub returns-clause-found : goal.returns-clause-found
returns-clause-found g c = λ o told. record {
  certain = at_last g.D.Disk.state g.D.Disk.possible c.args.d.now c.settle.new.d c.slot_length.new.d c.head_at.new.d c.slot_length-2.new.d c.head_at-2.new.d c.settle.ensures.crash c.in_ok-settle.ensures.certain c.slot_length.ensures.rests c.head_at.ensures.rests c.slot_length-2.ensures.rests c.head_at-2.ensures.rests o told c.in_ok-first.first c.in_ok-second.second c.in_ok-first_len.first_len c.in_ok-second_len.second_len c.in_ok-first_len.ensures.length c.in_ok-first.ensures.head c.in_ok-second_len.ensures.length c.in_ok-second.ensures.head;
  first_len = len_1 g.D.Disk.state g.D.Disk.possible c.args.d.now c.settle.new.d c.slot_length.new.d c.head_at.new.d c.slot_length-2.new.d c.head_at-2.new.d c.settle.ensures.crash c.in_ok-settle.ensures.certain c.slot_length.ensures.rests c.head_at.ensures.rests c.slot_length-2.ensures.rests c.head_at-2.ensures.rests o told c.in_ok-first.first c.in_ok-second.second c.in_ok-first_len.first_len c.in_ok-second_len.second_len c.in_ok-first_len.ensures.length c.in_ok-first.ensures.head c.in_ok-second_len.ensures.length c.in_ok-second.ensures.head;
  first = head_1 g.D.Disk.state g.D.Disk.possible c.args.d.now c.settle.new.d c.slot_length.new.d c.head_at.new.d c.slot_length-2.new.d c.head_at-2.new.d c.settle.ensures.crash c.in_ok-settle.ensures.certain c.slot_length.ensures.rests c.head_at.ensures.rests c.slot_length-2.ensures.rests c.head_at-2.ensures.rests o told c.in_ok-first.first c.in_ok-second.second c.in_ok-first_len.first_len c.in_ok-second_len.second_len c.in_ok-first_len.ensures.length c.in_ok-first.ensures.head c.in_ok-second_len.ensures.length c.in_ok-second.ensures.head;
  second_len = len_2 g.D.Disk.state g.D.Disk.possible c.args.d.now c.settle.new.d c.slot_length.new.d c.head_at.new.d c.slot_length-2.new.d c.head_at-2.new.d c.settle.ensures.crash c.in_ok-settle.ensures.certain c.slot_length.ensures.rests c.head_at.ensures.rests c.slot_length-2.ensures.rests c.head_at-2.ensures.rests o told c.in_ok-first.first c.in_ok-second.second c.in_ok-first_len.first_len c.in_ok-second_len.second_len c.in_ok-first_len.ensures.length c.in_ok-first.ensures.head c.in_ok-second_len.ensures.length c.in_ok-second.ensures.head;
  second = head_2 g.D.Disk.state g.D.Disk.possible c.args.d.now c.settle.new.d c.slot_length.new.d c.head_at.new.d c.slot_length-2.new.d c.head_at-2.new.d c.settle.ensures.crash c.in_ok-settle.ensures.certain c.slot_length.ensures.rests c.head_at.ensures.rests c.slot_length-2.ensures.rests c.head_at-2.ensures.rests o told c.in_ok-first.first c.in_ok-second.second c.in_ok-first_len.first_len c.in_ok-second_len.second_len c.in_ok-first_len.ensures.length c.in_ok-first.ensures.head c.in_ok-second_len.ensures.length c.in_ok-second.ensures.head;
}
