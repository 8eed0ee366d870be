-- What was scanned is what the slots say.
use Rattle.std.proofs.Common.{◌≡◌, ℕ, ◌≤◌, List, [], ◌++◌, length, drop, sym, ap, subst, ◌∙◌, Option, Some, None}
use Rattle.outside.specs.declared.disk.Slot.{Slot}
use Rattle.outside.specs.Holding.{Slots, slot_of, other}
use Rattle.journal_entries.specs.declared.standing.Standing.{Standing}
use Rattle.journal_entries.specs.Bodies.{beginning}
use Rattle.commit_journal.specs.declared.head.Head.{Head}
use Rattle.commit_journal.specs.declared.head.Head.TheVariants.{Dead, Live}
use Rattle.commit_journal.specs.declared.opening.Opened.{Opened}
use Rattle.commit_journal.specs.Layout.{Placed, entries_of, head_of, Outcome, Closed, Damaged, Batches, Beats, Reads, counts, place_of}
use Rattle.commit_journal.specs.Scanning.{Scanned}
use Rattle.commit_journal.specs.Resting.{AtRest}
use Rattle.commit_journal.specs.Opening.{Finds}
use Rattle.commit_journal.proofs.OpenLaws.{rested}

module _ (slots : Slots) (slot : Slot) (version generation : ℕ) (head : head_of (slot_of slot slots) ≡ Live version generation) (dead : head_of (slot_of (other slot) slots) ≡ Dead) (some : 1 ≤ length (slot_of (other slot) slots))
    (old now : List Placed) (none : old ≡ []) (outcome : Outcome) (s : Scanned version (slot_of slot slots) old now outcome) where
  batches : Batches version beginning 10 (drop 10 (slot_of slot slots)) now outcome
  batches = subst (λ (l : List Placed). Batches version beginning 10 (drop 10 (slot_of slot slots)) l outcome) (sym (s.items ∙ ap (λ (l : List Placed). l ++ s.found) none)) s.reads

  read : Reads slots now (place_of slot outcome)
  read =
      let beats : Beats slot generation (head_of (slot_of (other slot) slots)) = subst (λ (h : Head). Beats slot generation h) (sym dead) tt in
      counts slot version generation outcome head beats batches

  pub finds_damage : (r : Opened) (at : ℕ) → outcome ≡ Damaged at → r.entries.items ≡ now → r.damaged ≡ Some (slot, at) → Finds slots r
  finds_damage r at out entries damaged = record {
    reads = subst (λ (d : Option (Slot × ℕ)). Reads slots r.entries.items d) (ap (λ (o : Outcome). place_of slot o) out ∙ sym damaged) (subst (λ (l : List Placed). Reads slots l (place_of slot outcome)) (sym entries) read);
    rests = λ e. let no : ◌≡◌ {A = Option (Slot × ℕ)} (Some (slot, at)) None = sym damaged ∙ e in absurd cc;
  }

  pub finds_whole : (r : Opened) (place : ℕ) (t : Standing) → outcome ≡ Closed place t → r.entries.items ≡ now → r.damaged ≡ None → r.journal.slot ≡ slot → r.journal.version ≡ version → r.journal.generation ≡ generation → r.journal.gate ≡ place → r.journal.standing ≡ t
      → length r.journal.staged.items ≤ 4 → Finds slots r
  finds_whole r place t out entries damaged slot-is version-is generation-is gate-is standing-is short = record {
    reads = subst (λ (d : Option (Slot × ℕ)). Reads slots r.entries.items d) (ap (λ (o : Outcome). place_of slot o) out ∙ sym damaged) (subst (λ (l : List Placed). Reads slots l (place_of slot outcome)) (sym entries) read);
    rests = λ e.
        let bs : Batches version beginning 10 (drop 10 (slot_of slot slots)) now (Closed place t) = subst (λ (o : Outcome). Batches version beginning 10 (drop 10 (slot_of slot slots)) now o) out batches in
        let dead' : head_of (slot_of (other r.journal.slot) slots) ≡ Dead = subst (λ (x : Slot). head_of (slot_of (other x) slots) ≡ Dead) (sym slot-is) dead in
        let some' : 1 ≤ length (slot_of (other r.journal.slot) slots) = subst (λ (x : Slot). 1 ≤ length (slot_of (other x) slots)) (sym slot-is) some in
        let there : slot_of r.journal.slot slots ≡ slot_of slot slots = ap (λ (x : Slot). slot_of x slots) slot-is in
        subst (λ (l : List Placed). AtRest r.journal slots (entries_of l) []) (sym entries)
        (rested version generation (slot_of slot slots) now place t head bs r.journal slots there dead' some' version-is generation-is gate-is standing-is short);
  }
