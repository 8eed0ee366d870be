-- Two slots say one thing.
use Rattle.std.proofs.Common.{◌≡◌, ℕ, List, refl, sym, ap, ◌∙◌, Option, Some}
use Rattle.outside.specs.declared.disk.Slot.{Slot}
use Rattle.outside.specs.declared.disk.Slot.TheVariants.{First, Second}
use Rattle.outside.specs.Holding.{Slots, slot_of, other}
use Rattle.commit_journal.specs.declared.head.Head.{Head}
use Rattle.commit_journal.specs.declared.head.Head.TheVariants.{Dead, Faulty, Live}
use Rattle.commit_journal.specs.Layout.{Placed, head_of, Outcome, Reads, new, faulty, counts, place_of}
use Rattle.commit_journal.proofs.CountLaws.{reads_none, reads_counts, dead_at, no_faulty}
use Rattle.commit_journal.proofs.OneReading.{one_batches}

pub record SameJournal (entries others : List Placed) (damaged another : Option (Slot × ℕ)) : Type 0 where
  pub entries_same : entries ≡ others
  pub damaged_same : damaged ≡ another

abbrev fault_in : Head → ℕ
fault_in Dead = 0
fault_in (Faulty p) = p
fault_in (Live v g) = 0

-- a faulty head tells its place
same_fault : (h : Head) (p q : ℕ) → h ≡ Faulty p → h ≡ Faulty q → p ≡ q
same_fault h p q a b = ap fault_in (sym a ∙ b)

pub one_journal : {slots : Slots} {entries others : List Placed} {damaged another : Option (Slot × ℕ)} → Reads slots entries damaged → Reads slots others another → SameJournal entries others damaged another
one_journal (new a b) r = let x = reads_none r a b in record { entries_same = sym x.0; damaged_same = sym x.1 }
one_journal {slots} (counts slot v g out h beats b) r =
    let x = reads_counts slot v g (head_of (slot_of (other slot) slots)) h refl beats r in
    let y = one_batches v b x.batches in
    record { entries_same = y.entries_same; damaged_same = ap (λ (o : Outcome). place_of slot o) y.outcome_same ∙ sym x.place }
one_journal {slots} (faulty slot p h is) (new a b) = absurd (no_faulty (head_of (slot_of slot slots)) p (dead_at slots a b slot) h)
one_journal {slots} {entries} {others} {damaged} {another} (faulty slot p h is) (counts slot' v g out h' beats b) =
    let x = reads_counts slot' v g (head_of (slot_of (other slot') slots)) h' refl beats (faulty slot p h is) in
    let y = one_batches v x.batches b in
    record { entries_same = y.entries_same; damaged_same = x.place ∙ ap (λ (o : Outcome). place_of slot' o) y.outcome_same }
one_journal {slots} (faulty First p h is) (faulty First q h' is') = record { entries_same = refl; damaged_same = ap (λ (n : ℕ). Some (First, n)) (same_fault (head_of slots.first) p q h h') }
one_journal (faulty First p h is) (faulty Second q h' is') = absurd (is' p h)
one_journal (faulty Second p h is) (faulty First q h' is') = absurd (is q h')
one_journal {slots} (faulty Second p h is) (faulty Second q h' is') = record { entries_same = refl; damaged_same = ap (λ (n : ℕ). Some (Second, n)) (same_fault (head_of slots.second) p q h h') }
