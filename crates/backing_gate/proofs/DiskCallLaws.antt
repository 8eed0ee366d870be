-- Laws of a call of the disk from its begin to its end.
use Rattle.std.proofs.Common.{◌≡◌, ◌⊎◌, inl, inr, ℕ, ◌≤◌, ◌<◌, Option, Some, None, Result, Ok, Err, true, List, [], ◌∷◌, ◌++◌, length, refl, sym, ap, subst, ◌∙◌, arith}
use Rattle.std.proofs.lemmas.List.{append-nil}
use Rattle.std.specs.Result.{IsErr}
use Rattle.std.specs.Prelude.{OnErr, is_err}
use Rattle.outside.specs.Faults.{DiskHasCause, Rose}
use Rattle.table_state.specs.declared.history.Entry.{Entry}
use Rattle.outside.specs.Calls.{Durable, GoesOn, HasLength, MayCut, MayWrite, ReadsFrom, Same, Stays, Told, WasCut, Wrote}
use Rattle.outside.specs.Holding.{Held, Slots, slot_of}
use Rattle.outside.specs.declared.disk.Slot.{Slot}
use Rattle.outside.specs.declared.fault.DiskFault.{DiskFault}
use Rattle.memory_disk.specs.declared.memory_disk.MemoryDisk.{MemoryDisk}
use Rattle.memory_disk.specs.Possible.{IsIdle, IsUnplanned, held_of as disk_held, moment_of as disk_moment, possible_of as disk_possible, site_state as disk_state, told_of as disk_told}
use Rattle.memory_disk.proofs.ImageLaws.{idle_goes, idle_told}
use Rattle.backing_gate.specs.Calling.{Closes}
use Rattle.backing_gate.specs.Heeding.{HeedsOnDisk, IsUndone, KeepsBank}
use Rattle.backing_gate.specs.Memory.{MemoryState, alone, held_of, moment_of, now_of, possible_of, site_state, told_of}
use Rattle.backing_gate.specs.Plans.{after_call}
use Rattle.backing_gate.specs.Visits.{Visiting}
use Rattle.backing_gate.specs.SiteLaws.{at_present}
use Rattle.backing_gate.specs.declared.mark.Mark.{Mark}
use Rattle.backing_gate.specs.declared.plan.CallKind.{CallKind}
use Rattle.backing_gate.specs.declared.plan.Outcome.{Outcome}
use Rattle.backing_gate.specs.declared.plan.Outcome.TheVariants as outcome
use Rattle.backing_gate.specs.declared.plan.When.TheVariants as when
use Rattle.backing_gate.proofs.MomentLaws.{marked_goes, still_goes}

abbrev held_from : Slots → List Entry → Held
held_from slots history = record { slots = slots; history = history }

same_held : (slots : Slots) (history : List Entry) (p : Held) → slots ≡ p.slots → history ≡ p.history → held_from slots history ≡ p
same_held slots history p s h = ap (λ (x : Slots). held_from x history) s ∙ ap (λ (x : List Entry). held_from p.slots x) h

-- nothing was done on the disk
module _ (a d : MemoryState) (undone : IsUndone a d) (history : d.history ≡ a.history) where
  pub undone_held : held_of d ≡ held_of a
  undone_held = same_held (disk_held d.disk).slots d.history (held_of a) (ap (λ (p : Held). p.slots) (idle_told a.disk d.disk undone.disk)) history

  pub undone_goes : (step : Held → Held → Type 0) → GoesOn site_state possible_of a d step
  undone_goes step =
      let g = idle_goes a.disk d.disk Stays undone.disk in
      still_goes a d step undone.past history (ap length undone.disk.calls) (λ m q le h. g.past m q le h) (λ m q le h. g.kept m q le h)

-- the states of a call: before it, with its mark, after the disk's own call, and at its end
module _ (a o v d : MemoryState) (mark : Mark) (is : mark ≡ now_of a) (opened : o ≡ record a { past = a.past ++ mark ∷ [] }) (kept : v ≡ record o { disk = v.disk }) (closes : Closes mark v d) (closed : d ≡ record v { past = d.past }) where
  pub history : d.history ≡ a.history
  history = ap (λ (s : MemoryState). s.history) closed ∙ ap (λ (s : MemoryState). s.history) kept ∙ ap (λ (s : MemoryState). s.history) opened

  pub disk_then : o.disk ≡ a.disk
  disk_then = ap (λ (s : MemoryState). s.disk) opened

  disk_now : d.disk ≡ v.disk
  disk_now = ap (λ (s : MemoryState). s.disk) closed

  past_then : v.past ≡ a.past ++ mark ∷ []
  past_then = ap (λ (s : MemoryState). s.past) kept ∙ ap (λ (s : MemoryState). s.past) opened

  far : mark.calls ≡ disk_moment a.disk
  far = ap (λ (m : Mark). m.calls) is

  -- a clause of the disk's own call, of the disk before the call and behind it
  pub moved : (C : MemoryDisk → MemoryDisk → Type 0) → C o.disk v.disk → C a.disk d.disk
  moved C h = subst (λ (x : MemoryDisk). C x d.disk) disk_then (subst (λ (x : MemoryDisk). C o.disk x) (sym disk_now) h)

  pub kept_all : d ≡ record a { disk = d.disk; past = d.past }
  kept_all =
      closed ∙ ap (λ (x : MemoryDisk). record v { disk = x; past = d.past }) (sym disk_now)
      ∙ ap (λ (s : MemoryState). record s { disk = d.disk; past = d.past }) kept ∙ ap (λ (s : MemoryState). record s { disk = d.disk; past = d.past }) opened

  pub undone_all : IsIdle o.disk v.disk → IsUndone a d
  undone_all idle =
      let same : disk_moment v.disk ≡ disk_moment o.disk = ap length idle.calls in
      elim (closes a.past past_then) [
        | inl back ↦ record { disk = moved IsIdle idle; past = back.past }
        | inr on ↦ absurd (on.further (same ∙ ap disk_moment disk_then ∙ sym far))
      ]

  pub goes : (dstep : MemoryDisk → Held → Held → Type 0) (step : Held → Held → Type 0) → GoesOn disk_state disk_possible o.disk v.disk (dstep o.disk) → ((q p : Held) → p.history ≡ q.history → dstep a.disk (alone q) (alone p) → step q p) → GoesOn site_state possible_of a d step
  goes dstep step on lift =
      let g : GoesOn disk_state disk_possible a.disk d.disk (dstep a.disk) = moved (λ (x y : MemoryDisk). GoesOn disk_state disk_possible x y (dstep x)) on in
      let came : (lt : disk_moment a.disk < disk_moment d.disk) (p : Held) → p.history ≡ d.history → disk_possible d.disk (disk_moment d.disk) (alone p) → (q : Held) × (q.history ≡ a.history) × disk_possible a.disk (disk_moment a.disk) (alone q) × step q p =
      λ lt p here slots.
      let from = g.since (disk_moment d.disk) (alone p) lt (omega arith) slots in
      let q : Held = held_from from.0.slots a.history in
      let alone_is : from.0 ≡ alone q = sym (same_held from.0.slots [] from.0 refl (sym from.1.history)) in (
        q,
        refl,
        subst (λ (x : Held). disk_possible a.disk (disk_moment a.disk) x) alone_is from.1,
        lift q p (here ∙ history) (subst (λ (x : Held). dstep a.disk x (alone p)) alone_is from.2),
      )
      in
      elim (closes a.past past_then) [
        | inl back ↦
            still_goes a d step back.past history (ap disk_moment disk_now ∙ back.same ∙ far) (λ m q le h. g.past m q le h) (λ m q le h. g.kept m q le h)
        | inr on ↦
            let apart : disk_moment d.disk ≡ disk_moment a.disk → ⊥ = λ e. on.further (sym (ap disk_moment disk_now) ∙ e ∙ sym far) in
            let le : disk_moment a.disk ≤ disk_moment d.disk = g.later in
            let lt : disk_moment a.disk < disk_moment d.disk = less le apart in
            marked_goes a d step (on.past ∙ past_then ∙ ap (λ (m : Mark). a.past ++ m ∷ []) is) ([], history ∙ sym (append-nil a.history)) le (λ m q le h. g.past m q le h) (λ m q le h. g.kept m q le h) (came lt)
      ]
    where
      less : {m n : ℕ} → m ≤ n → (n ≡ m → ⊥) → m < n
      less {m} {n} le apart = grind (arith, le, apart)

-- ---- steps of a disk are steps of the site

pub may_write : (a : MemoryState) (slot : Slot) (at : ℕ) (bytes : List ℕ) (q p : Held) → p.history ≡ q.history → MayWrite (disk_told a.disk) slot at bytes (alone q) (alone p) → MayWrite (told_of a) slot at bytes q p
may_write a slot at bytes q p beside h = λ within. let c = h within in record { there = c.there; elsewhere = c.elsewhere; beside = beside }

pub may_cut : (a : MemoryState) (slot : Slot) (len : ℕ) (q p : Held) → p.history ≡ q.history → MayCut (disk_told a.disk) slot len (alone q) (alone p) → MayCut (told_of a) slot len q p
may_cut a slot len q p beside h = λ within. let c = h within in record { there = c.there; elsewhere = c.elsewhere; beside = beside }

pub may_stay : (q p : Held) → p.history ≡ q.history → Stays (alone q) (alone p) → Stays q p
may_stay q p beside h = same_held p.slots p.history q (ap (λ (x : Held). x.slots) h) beside

-- what the disk tells, of the site
module _ (a d : MemoryState) (history : d.history ≡ a.history) where
  site_held : (p : Held) → disk_held d.disk ≡ alone p → p.history ≡ a.history → held_of d ≡ p
  site_held p h here = same_held (disk_held d.disk).slots d.history p (ap (λ (x : Held). x.slots) h) (history ∙ sym here)

  pub wrote : (slot : Slot) (at : ℕ) (bytes : List ℕ) (result : Result (Unit {0}) DiskFault) → Told (disk_told a.disk) (disk_told d.disk) (Wrote slot at bytes result) → Told (told_of a) (told_of d) (Wrote slot at bytes result)
  wrote slot at bytes (Ok done) h = λ within. site_held _ (h within) refl
  wrote slot at bytes (Err e) h = history

  pub was_cut : (slot : Slot) (len : ℕ) (result : Result (Unit {0}) DiskFault) → Told (disk_told a.disk) (disk_told d.disk) (WasCut slot len result) → Told (told_of a) (told_of d) (WasCut slot len result)
  was_cut slot len (Ok done) h = λ within. site_held _ (h within) refl
  was_cut slot len (Err e) h = history

  pub same : Told (disk_told a.disk) (disk_told d.disk) Same → Told (told_of a) (told_of d) Same
  same h = site_held (held_of a) h refl

  pub has_length : (slot : Slot) (result : Result ℕ DiskFault) → Told (disk_told a.disk) (disk_told d.disk) (HasLength slot result) → Told (told_of a) (told_of d) (HasLength slot result)
  has_length slot result h = (site_held (held_of a) h.0 refl, h.1)

  pub reads_from : (slot : Slot) (at : ℕ) (buf : List ℕ) (result : Result ℕ DiskFault) → Told (disk_told a.disk) (disk_told d.disk) (ReadsFrom slot at buf result) → Told (told_of a) (told_of d) (ReadsFrom slot at buf result)
  reads_from slot at buf result h = (site_held (held_of a) h.0 refl, h.1)

  pub durable : (slot : Slot) (result : Result (Unit {0}) DiskFault) → Durable (disk_told a.disk) slot result (disk_possible d.disk (disk_moment d.disk)) → Durable (told_of a) slot result (possible_of d (moment_of d))
  durable slot (Ok done) h = λ p can. h (alone p) (subst (λ (m : Mark). disk_possible d.disk m.calls (alone p)) (at_present d.past (now_of d)) can.slots)
  durable slot (Err e) h = tt

-- ---- as planned

-- a fault behind a call that is planned to fail behind its effect
pub fails_behind : (result : Result (Unit {0}) DiskFault) (effect unplanned undone : Type 0) → (result ≡ Ok tt → effect) → (unplanned → IsErr result → undone) → unplanned → effect ⊎ undone
fails_behind (Ok done) effect unplanned undone does none free = inl (does refl)
fails_behind (Err e) effect unplanned undone does none free = inr (none free refl)

-- disk, marks and history stay
pub record IsSame (x y : MemoryState) : Type 0 where
  pub disk : y.disk ≡ x.disk
  pub past : y.past ≡ x.past
  pub history : y.history ≡ x.history

same_goes : (x y : MemoryState) → IsSame x y → GoesOn site_state possible_of x y Stays
same_goes x y same =
    still_goes x y Stays same.past same.history (ap disk_moment same.disk)
    (λ m q le h. subst (λ (d : MemoryDisk). disk_possible d m q) same.disk h)
    (λ m q le h. subst (λ (d : MemoryDisk). disk_possible d m q) (sym same.disk) h)

carried : (a b c d : MemoryState) (step : Held → Held → Type 0) → IsSame a b → GoesOn site_state possible_of b c step → IsSame c d → GoesOn site_state possible_of a d step
carried a b c d step begun g ended =
    let f = same_goes a b begun in
    let e = same_goes c d ended in
    let first : length b.past ≡ length a.past = ap length begun.past in
    let last : length d.past ≡ length c.past = ap length ended.past in
    let le : length b.past ≤ length c.past = g.later in
    record {
      later = omega arith;
      past = λ k p lo h. f.past k p lo (g.past k p (omega arith) (e.past k p (omega arith) h));
      kept = λ k p lo h. e.kept k p (omega arith) (g.kept k p (omega arith) (f.kept k p lo h));
      since = λ k p lo hi h.
          let s = g.since k p (omega arith) (omega arith) (e.past k p (omega arith) h) in
          (s.0, f.past (length a.past) s.0 (omega arith) (subst (λ (n : ℕ). possible_of b n s.0) first s.1), s.2);
    }

-- a call that changes the disk alone keeps the marks
pub only_disk : (b c : MemoryState) → c ≡ record b { disk = c.disk } → c ≡ record b { disk = c.disk; past = c.past }
only_disk b c is = is ∙ ap (λ (past : List Mark). record b { disk = c.disk; past = past }) (sym (ap (λ (s : MemoryState). s.past) is))

module _ (kind : CallKind) (a b c d : MemoryState) (begins : b ≡ record a { planned = after_call kind a.planned }) (kept : c ≡ record b { disk = c.disk; past = c.past }) (ends : d ≡ record c { disk_faults = d.disk_faults }) where
  begun : IsSame a b
  begun = record { disk = ap (λ (s : MemoryState). s.disk) begins; past = ap (λ (s : MemoryState). s.past) begins; history = ap (λ (s : MemoryState). s.history) begins }

  ended : IsSame c d
  ended = record { disk = ap (λ (s : MemoryState). s.disk) ends; past = ap (λ (s : MemoryState). s.past) ends; history = ap (λ (s : MemoryState). s.history) ends }

  held_begun : held_of b ≡ held_of a
  held_begun = ap held_of begins

  held_ended : held_of d ≡ held_of c
  held_ended = ap held_of ends

  pub told_all : (step : Held → Held → Type 0) → step (held_of b) (held_of c) → step (held_of a) (held_of d)
  told_all step h = subst (λ (x : Held). step x (held_of d)) held_begun (subst (λ (x : Held). step (held_of b) x) (sym held_ended) h)

  pub crash_all : (may : Held → Held → Held → Type 0) → GoesOn site_state possible_of b c (may (held_of b)) → GoesOn site_state possible_of a d (may (held_of a))
  crash_all may g = carried a b c d (may (held_of a)) begun (subst (λ (x : Held). GoesOn site_state possible_of b c (may x)) held_begun g) ended

  history_then : c.history ≡ b.history
  history_then = ap (λ (s : MemoryState). s.history) kept

  pub undone_then : IsUndone b c → IsUndone a d
  undone_then u = record {
    disk = subst (λ (x : MemoryDisk). IsIdle x d.disk) begun.disk (subst (λ (x : MemoryDisk). IsIdle b.disk x) (sym ended.disk) u.disk);
    past = ended.past ∙ u.past ∙ begun.past;
  }

  pub goes_undone : (step : Held → Held → Type 0) → IsUndone b c → GoesOn site_state possible_of a d step
  goes_undone step u = carried a b c d step begun (undone_goes b c u history_then step) ended

  pub durable_all : (slot : Slot) (result : Result (Unit {0}) DiskFault) → Durable (told_of b) slot result (possible_of c (moment_of c)) → Durable (told_of a) slot result (possible_of d (moment_of d))
  durable_all slot (Ok done) h = λ p can.
      let back : possible_of c (moment_of d) p = (same_goes c d ended).past (moment_of d) p (omega (arith, ap length ended.past)) can in
      h p (subst (λ (n : ℕ). possible_of c n p) (ap length ended.past) back) ∙ ap (λ (x : Held). slot_of slot x.slots) held_begun
  durable_all slot (Err e) h = tt

  pub heeds_all : (plan : Option Outcome) (result : Result (Unit {0}) DiskFault) (effect whole : Type 0) → (effect → whole) → HeedsOnDisk plan b c result effect → HeedsOnDisk plan a d result whole
  heeds_all None result effect whole on h = λ free failed. undone_then (h (subst IsUnplanned (sym begun.disk) free) failed)
  heeds_all (Some outcome.Refused) result effect whole on h = (h.0, undone_then h.1)
  heeds_all (Some (outcome.Failed when.Before)) result effect whole on h = (h.0, undone_then h.1)
  heeds_all (Some (outcome.Failed when.After)) result effect whole on h =
      (h.0, λ free. elim (h.1 (subst IsUnplanned (sym begun.disk) free)) [ inl e ↦ inl (on e) | inr u ↦ inr (undone_then u) ])

  pub beside : KeepsBank a d
  beside = record {
    history = ended.history ∙ history_then ∙ begun.history;
    visits = ap (λ (s : MemoryState). s.visits) ends ∙ ap (λ (s : MemoryState). s.visits) kept ∙ ap (λ (s : MemoryState). s.visits) begins;
    bank_faults = ap (λ (s : MemoryState). s.bank_faults) ends ∙ ap (λ (s : MemoryState). s.bank_faults) kept ∙ ap (λ (s : MemoryState). s.bank_faults) begins;
  }

  pub counted : d.planned ≡ after_call kind a.planned
  counted = ap (λ (s : MemoryState). s.planned) ends ∙ ap (λ (s : MemoryState). s.planned) kept ∙ ap (λ (s : MemoryState). s.planned) begins

  faults_then : c.disk_faults ≡ a.disk_faults
  faults_then = ap (λ (s : MemoryState). s.disk_faults) kept ∙ ap (λ (s : MemoryState). s.disk_faults) begins

  pub cause : {T : Type 0} (result : Result T DiskFault) → c.disk_faults ≤ d.disk_faults → (is_err result ≡ true → Rose c.disk_faults d.disk_faults) → DiskHasCause (site_state a) (site_state d) result
  cause {T} result later rose = record {
    later = subst (λ (n : ℕ). n ≤ d.disk_faults) faults_then later;
    failed = subst (λ (n : ℕ). OnErr result (Rose n d.disk_faults)) faults_then (by result rose);
    bank = beside.bank_faults;
    shared = ap (λ (v : Visiting). v.shared) beside.visits;
  }
    where
      by : (r : Result T DiskFault) → (is_err r ≡ true → Rose c.disk_faults d.disk_faults) → OnErr r (Rose c.disk_faults d.disk_faults)
      by (Ok x) h = tt
      by (Err e) h = h refl
