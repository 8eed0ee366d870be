use Rattle.std.proofs.Common.{◌≡◌, ◌+◌, ◌≤◌, ◌<◌, ◌^◌, List, [], ℕ, length, ap, subst, ◌∙◌, arith}
use Rattle.std.specs.List.{flat_map}
use Rattle.outside.specs.Calls.{Leaves}
use Rattle.journal_entries.specs.declared.entry.Entry.{Entry}
use Rattle.journal_entries.specs.declared.standing.Standing.{Standing}
use Rattle.journal_entries.specs.Spelling.{entry_bytes}
use Rattle.journal_entries.specs.Bodies.{behind_all}
use Rattle.commit_journal.specs.Resting.{Rested}
use Rattle.commit_journal.specs.Turning.{MidRotation, slot_bytes}
use Rattle.commit_journal.proofs.RotateLaws.{quiet_rotation, rotate_reads}
use Rattle.commit_journal.proofs.journal.Journal.rotate.Goals as goal

pub returns-then-self-clause-crash : goal.returns-then-self-clause-crash
returns-then-self-clause-crash g c = λ o flushed tail h r. quiet_rotation g.D.Disk.state g.D.Disk.possible c.args.d.now c.args.self.now o flushed tail c.args.entries.now h r

pub returns-then-entries_size-gt16777216-clause-crash : goal.returns-then-entries_size-gt16777216-clause-crash
returns-then-entries_size-gt16777216-clause-crash g c = λ o flushed tail h r. quiet_rotation g.D.Disk.state g.D.Disk.possible c.args.d.now c.args.self.now o flushed tail c.args.entries.now h r

pub returns-in_err-body-clause-crash : goal.returns-in_err-body-clause-crash
returns-in_err-body-clause-crash g c = λ o flushed tail h r. quiet_rotation g.D.Disk.state g.D.Disk.possible c.args.d.now c.args.self.now o flushed tail c.args.entries.now h r

pub returns-in_err-bytes-clause-crash : goal.returns-in_err-bytes-clause-crash
returns-in_err-bytes-clause-crash g c = λ o flushed tail h r. quiet_rotation g.D.Disk.state g.D.Disk.possible c.args.d.now c.args.self.now o flushed tail c.args.entries.now h r

pub returns-in_err-move_on-clause-crash : goal.returns-in_err-move_on-clause-crash
returns-in_err-move_on-clause-crash g c = λ o flushed tail h r.
    let es = c.args.entries.now in
    let s = rotate_reads es c.requires.entries c.requires.order c.behind_all-standing.result (c.behind_all-standing.ensures ∙ ap (λ (t : Standing). behind_all t es) c.beginning.ensures) in
    let small : length (flat_map entry_bytes es) ≤ 2 ^ 24 = omega (arith, c.entries_size.ensures, c.if-entries_size-gt16777216.false) in
    let above : c.args.self.now.generation < c.args.self.now.generation + 1 = omega arith in
    let bytes : c.deref-2.result.now ≡ slot_bytes (c.args.self.now.generation + 1) (flat_map entry_bytes es) =
    c.deref-2.ensures.value ∙ c.in_ok-bytes.ensures ∙ ap (λ (b : List ℕ). slot_bytes (c.args.self.now.generation + 1) b) (c.deref.ensures.value ∙ c.in_ok-body.ensures) in
    subst (λ (l : List Entry). Leaves g.D.Disk.state g.D.Disk.possible c.args.d.now c.move_on.new.d (MidRotation o flushed l)) s.2
    (c.move_on.ensures.crash o flushed tail (flat_map entry_bytes es) s.0 h r above bytes small s.1)

pub returns-clause-crash : goal.returns-clause-crash
returns-clause-crash g c = λ o flushed tail h r.
    let es = c.args.entries.now in
    let s = rotate_reads es c.requires.entries c.requires.order c.behind_all-standing.result (c.behind_all-standing.ensures ∙ ap (λ (t : Standing). behind_all t es) c.beginning.ensures) in
    let small : length (flat_map entry_bytes es) ≤ 2 ^ 24 = omega (arith, c.entries_size.ensures, c.if-entries_size-gt16777216.false) in
    let above : c.args.self.now.generation < c.args.self.now.generation + 1 = omega arith in
    let bytes : c.deref-2.result.now ≡ slot_bytes (c.args.self.now.generation + 1) (flat_map entry_bytes es) =
    c.deref-2.ensures.value ∙ c.in_ok-bytes.ensures ∙ ap (λ (b : List ℕ). slot_bytes (c.args.self.now.generation + 1) b) (c.deref.ensures.value ∙ c.in_ok-body.ensures) in
    subst (λ (l : List Entry). Leaves g.D.Disk.state g.D.Disk.possible c.args.d.now c.move_on.new.d (MidRotation o flushed l)) s.2
    (c.move_on.ensures.crash o flushed tail (flat_map entry_bytes es) s.0 h r above bytes small s.1)

pub returns-clause-moved : goal.returns-clause-moved
returns-clause-moved g c = λ o flushed tail h r.
    let es = c.args.entries.now in
    let s = rotate_reads es c.requires.entries c.requires.order c.behind_all-standing.result (c.behind_all-standing.ensures ∙ ap (λ (t : Standing). behind_all t es) c.beginning.ensures) in
    let small : length (flat_map entry_bytes es) ≤ 2 ^ 24 = omega (arith, c.entries_size.ensures, c.if-entries_size-gt16777216.false) in
    let above : c.args.self.now.generation < c.args.self.now.generation + 1 = omega arith in
    let bytes : c.deref-2.result.now ≡ slot_bytes (c.args.self.now.generation + 1) (flat_map entry_bytes es) =
    c.deref-2.ensures.value ∙ c.in_ok-bytes.ensures ∙ ap (λ (b : List ℕ). slot_bytes (c.args.self.now.generation + 1) b) (c.deref.ensures.value ∙ c.in_ok-body.ensures) in
    subst (λ (l : List Entry). Rested g.D.Disk.state g.D.Disk.possible c.move_on.new.d c.move_on.new.self o l []) s.2
    (c.in_ok-move_on.ensures.moved o flushed tail (flat_map entry_bytes es) s.0 h r above bytes small s.1)
