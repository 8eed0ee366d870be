use Rattle.std.proofs.Common.{subst, sym, ◌∙◌, arith, rules, [], List, ℕ, refl}
use Rattle.outside.specs.declared.disk.Slot.TheVariants.{First}
use Rattle.outside.proofs.Moments.{weaker}
use Rattle.journal_entries.specs.declared.standing.Standing.{Standing}
use Rattle.journal_entries.specs.declared.standing.Ending.TheVariants.{Whole}
use Rattle.journal_entries.specs.Bodies.{Body, beginning}
use Rattle.commit_journal.specs.Layout.{entries_of}
use Rattle.commit_journal.specs.Turning.{HasBegun, MidRotation, MidTurn}
use Rattle.commit_journal.proofs.NewLaws.{can_begin, quiet_new, mid_new, is_made}
use Rattle.commit_journal.proofs.journal.Journal.adopt_new.Goals as goal

pub returns-then-body-gt16777216-clause-crash : goal.returns-then-body-gt16777216-clause-crash
returns-then-body-gt16777216-clause-crash g c = λ o placed t h blank reads. quiet_new o blank g.D.Disk.state g.D.Disk.possible c.args.d.now (entries_of placed) h

pub returns-in_err-standing-clause-crash : goal.returns-in_err-standing-clause-crash
returns-in_err-standing-clause-crash g c = λ o placed t h blank reads. quiet_new o blank g.D.Disk.state g.D.Disk.possible c.args.d.now (entries_of placed) h

pub returns-in_err-bytes-clause-crash : goal.returns-in_err-bytes-clause-crash
returns-in_err-bytes-clause-crash g c = λ o placed t h blank reads. quiet_new o blank g.D.Disk.state g.D.Disk.possible c.args.d.now (entries_of placed) h

pub returns-in_err-staged-clause-crash : goal.returns-in_err-staged-clause-crash
returns-in_err-staged-clause-crash g c = λ o placed t h blank reads. quiet_new o blank g.D.Disk.state g.D.Disk.possible c.args.d.now (entries_of placed) h

pub returns-in_err-reserve-clause-crash : goal.returns-in_err-reserve-clause-crash
returns-in_err-reserve-clause-crash g c = λ o placed t h blank reads. quiet_new o blank g.D.Disk.state g.D.Disk.possible c.args.d.now (entries_of placed) h

pub returns-in_err-begin-clause-crash : goal.returns-in_err-begin-clause-crash
returns-in_err-begin-clause-crash g c = λ o placed t h blank reads.
    let reads' = subst (λ (s : Standing). Body 2 beginning 15 c.args.body.now placed (Whole s)) (sym (c.in_ok-standing.ensures placed t (subst (λ (s : Standing). Body 2 s 15 c.args.body.now placed (Whole t)) (sym c.beginning.ensures) reads))) reads in
    let bytes = c.deref.ensures.value ∙ c.in_ok-bytes.ensures in
    weaker g.D.Disk.state g.D.Disk.possible c.args.d.now c.begin.new.d (MidTurn First c.deref.result.now o) (MidRotation o [] (entries_of placed))
    (λ p m. mid_new o blank c.args.generation (search rules) c.args.body.now placed c.in_ok-standing.standing (omega arith) reads' p (subst (λ (l : List ℕ). MidTurn First l o p) bytes m)) (c.begin.ensures.crash o h (can_begin o blank))

pub returns-clause-crash : goal.returns-clause-crash
returns-clause-crash g c = λ o placed t h blank reads.
    let reads' = subst (λ (s : Standing). Body 2 beginning 15 c.args.body.now placed (Whole s)) (sym (c.in_ok-standing.ensures placed t (subst (λ (s : Standing). Body 2 s 15 c.args.body.now placed (Whole t)) (sym c.beginning.ensures) reads))) reads in
    let bytes = c.deref.ensures.value ∙ c.in_ok-bytes.ensures in
    weaker g.D.Disk.state g.D.Disk.possible c.args.d.now c.begin.new.d (MidTurn First c.deref.result.now o) (MidRotation o [] (entries_of placed))
    (λ p m. mid_new o blank c.args.generation (search rules) c.args.body.now placed c.in_ok-standing.standing (omega arith) reads' p (subst (λ (l : List ℕ). MidTurn First l o p) bytes m)) (c.begin.ensures.crash o h (can_begin o blank))

pub returns-clause-made : goal.returns-clause-made
returns-clause-made g c = λ o placed t h blank reads.
    let reads' = subst (λ (s : Standing). Body 2 beginning 15 c.args.body.now placed (Whole s)) (sym (c.in_ok-standing.ensures placed t (subst (λ (s : Standing). Body 2 s 15 c.args.body.now placed (Whole t)) (sym c.beginning.ensures) reads))) reads in
    let bytes = c.deref.ensures.value ∙ c.in_ok-bytes.ensures in
    is_made o blank c.args.generation (search rules) c.args.body.now placed c.in_ok-standing.standing (omega arith) reads' g.D.Disk.state g.D.Disk.possible c.begin.new.d _ (subst (λ (l : List ℕ). HasBegun g.D.Disk.state g.D.Disk.possible c.begin.new.d First l o) bytes (c.in_ok-begin.ensures.begun o h (can_begin o blank)))
    refl refl refl (search rules) refl (search rules)
