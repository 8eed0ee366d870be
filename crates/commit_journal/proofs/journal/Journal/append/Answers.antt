use Rattle.std.proofs.Common.{◌+◌, ◌≤◌, ◌^◌, ◌∙◌, ◌++◌, ℕ, List, length, ap, arith}
use Rattle.journal_entries.specs.declared.standing.Ending.TheVariants.{Whole}
use Rattle.journal_entries.specs.Bodies.{Body}
use Rattle.commit_journal.specs.Layout.{entries_of}
use Rattle.commit_journal.proofs.AppendLaws.{staged_rest, quiet_append}
use Rattle.commit_journal.proofs.journal.Journal.append.Goals as goal

pub returns-in_err-reserve-clause-crash : goal.returns-in_err-reserve-clause-crash
returns-in_err-reserve-clause-crash g c = λ o flushed placed t h r reads. quiet_append g.D.Disk.state g.D.Disk.possible c.args.d.now c.args.self.now o flushed (entries_of placed) h r

pub returns-in_err-standing-clause-crash : goal.returns-in_err-standing-clause-crash
returns-in_err-standing-clause-crash g c = λ o flushed placed t h r reads. quiet_append g.D.Disk.state g.D.Disk.possible c.args.d.now c.args.self.now o flushed (entries_of placed) h r

pub returns-in_err-write_tail-clause-crash : goal.returns-in_err-write_tail-clause-crash
returns-in_err-write_tail-clause-crash g c = λ o flushed placed t h r reads.
    let same = c.in_ok-reserve.ensures.same in
    let reads' : Body c.reserve.new.self.version c.reserve.new.self.standing (c.reserve.new.self.gate + 5) c.args.body.now placed (Whole t) = rw (same.slot.version, same.standing, same.slot.gate) reads in
    let small : length c.args.body.now ≤ 2 ^ 24 = omega (arith, c.in_ok-reserve.ensures.room.batch, ap length same.staged, c.args.self.now.least) in
    let at_rest = staged_rest c.args.self.now _ o.slots flushed r c.args.body.now placed t reads same.slot.slot same.slot.version same.slot.generation same.slot.gate (c.in_ok-standing.ensures placed t reads')
    (c.put_bytes.ensures.items ∙ ap (λ (l : List ℕ). l ++ c.args.body.now) same.staged) c.args.self.now.least small in
    c.write_tail.ensures.crash o flushed (entries_of placed) h at_rest

pub returns-clause-crash : goal.returns-clause-crash
returns-clause-crash g c = λ o flushed placed t h r reads.
    let same = c.in_ok-reserve.ensures.same in
    let reads' : Body c.reserve.new.self.version c.reserve.new.self.standing (c.reserve.new.self.gate + 5) c.args.body.now placed (Whole t) = rw (same.slot.version, same.standing, same.slot.gate) reads in
    let small : length c.args.body.now ≤ 2 ^ 24 = omega (arith, c.in_ok-reserve.ensures.room.batch, ap length same.staged, c.args.self.now.least) in
    let at_rest = staged_rest c.args.self.now _ o.slots flushed r c.args.body.now placed t reads same.slot.slot same.slot.version same.slot.generation same.slot.gate (c.in_ok-standing.ensures placed t reads')
    (c.put_bytes.ensures.items ∙ ap (λ (l : List ℕ). l ++ c.args.body.now) same.staged) c.args.self.now.least small in
    c.write_tail.ensures.crash o flushed (entries_of placed) h at_rest

pub returns-clause-appended : goal.returns-clause-appended
returns-clause-appended g c = λ o flushed placed t h r reads.
    let same = c.in_ok-reserve.ensures.same in
    let reads' : Body c.reserve.new.self.version c.reserve.new.self.standing (c.reserve.new.self.gate + 5) c.args.body.now placed (Whole t) = rw (same.slot.version, same.standing, same.slot.gate) reads in
    let small : length c.args.body.now ≤ 2 ^ 24 = omega (arith, c.in_ok-reserve.ensures.room.batch, ap length same.staged, c.args.self.now.least) in
    let at_rest = staged_rest c.args.self.now _ o.slots flushed r c.args.body.now placed t reads same.slot.slot same.slot.version same.slot.generation same.slot.gate (c.in_ok-standing.ensures placed t reads')
    (c.put_bytes.ensures.items ∙ ap (λ (l : List ℕ). l ++ c.args.body.now) same.staged) c.args.self.now.least small in
    c.in_ok-write_tail.ensures.flushed o flushed (entries_of placed) h at_rest
