use Rattle.std.proofs.Common.{◌+◌, ◌<◌, List, [], ℕ, sym, subst, ◌∙◌, arith}
use Rattle.outside.specs.Calls.{Leaves}
use Rattle.journal_entries.specs.declared.entry.Entry.{Entry}
use Rattle.journal_entries.specs.declared.standing.Ending.TheVariants.{Whole}
use Rattle.journal_entries.specs.Bodies.{Body, beginning}
use Rattle.commit_journal.specs.Resting.{Rested}
use Rattle.commit_journal.specs.Turning.{MidRotation}
use Rattle.commit_journal.proofs.RotateLaws.{quiet_rotation, rotate_reads}
use Rattle.commit_journal.proofs.journal.Journal.renew.Goals as goal

pub returns-then-self-clause-crash : goal.returns-then-self-clause-crash
returns-then-self-clause-crash g c = λ o flushed tail entries h r s. quiet_rotation g.D.Disk.state g.D.Disk.possible c.args.d.now c.args.self.now o flushed tail entries h r

pub returns-then-bytes-gt16777216-clause-crash : goal.returns-then-bytes-gt16777216-clause-crash
returns-then-bytes-gt16777216-clause-crash g c = λ o flushed tail entries h r s. quiet_rotation g.D.Disk.state g.D.Disk.possible c.args.d.now c.args.self.now o flushed tail entries h r

pub returns-in_err-image-clause-crash : goal.returns-in_err-image-clause-crash
returns-in_err-image-clause-crash g c = λ o flushed tail entries h r s. quiet_rotation g.D.Disk.state g.D.Disk.possible c.args.d.now c.args.self.now o flushed tail entries h r

pub returns-in_err-move_on-clause-crash : goal.returns-in_err-move_on-clause-crash
returns-in_err-move_on-clause-crash g c = λ o flushed tail entries h r s.
    let x = rotate_reads entries s.each s.order c.args.standing s.behind in
    let reads = subst (λ (l : List ℕ). Body 2 beginning 15 l x.0 (Whole c.args.standing)) (sym s.are) x.1 in
    let above : c.args.self.now.generation < c.args.self.now.generation + 1 = omega arith in
    subst (λ (l : List Entry). Leaves g.D.Disk.state g.D.Disk.possible c.args.d.now c.move_on.new.d (MidRotation o flushed l)) x.2
    (c.move_on.ensures.crash o flushed tail c.args.bytes.now x.0 h r above (c.deref.ensures.value ∙ c.in_ok-image.ensures) (omega arith) reads)

pub returns-clause-crash : goal.returns-clause-crash
returns-clause-crash g c = λ o flushed tail entries h r s.
    let x = rotate_reads entries s.each s.order c.args.standing s.behind in
    let reads = subst (λ (l : List ℕ). Body 2 beginning 15 l x.0 (Whole c.args.standing)) (sym s.are) x.1 in
    let above : c.args.self.now.generation < c.args.self.now.generation + 1 = omega arith in
    subst (λ (l : List Entry). Leaves g.D.Disk.state g.D.Disk.possible c.args.d.now c.move_on.new.d (MidRotation o flushed l)) x.2
    (c.move_on.ensures.crash o flushed tail c.args.bytes.now x.0 h r above (c.deref.ensures.value ∙ c.in_ok-image.ensures) (omega arith) reads)

pub returns-clause-moved : goal.returns-clause-moved
returns-clause-moved g c = λ o flushed tail entries h r s.
    let x = rotate_reads entries s.each s.order c.args.standing s.behind in
    let reads = subst (λ (l : List ℕ). Body 2 beginning 15 l x.0 (Whole c.args.standing)) (sym s.are) x.1 in
    let above : c.args.self.now.generation < c.args.self.now.generation + 1 = omega arith in
    subst (λ (l : List Entry). Rested g.D.Disk.state g.D.Disk.possible c.move_on.new.d c.move_on.new.self o l []) x.2
    (c.in_ok-move_on.ensures.moved o flushed tail c.args.bytes.now x.0 h r above (c.deref.ensures.value ∙ c.in_ok-image.ensures) (omega arith) reads)
