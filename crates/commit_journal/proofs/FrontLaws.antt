-- A slot up to a gate, and what stands behind it.
use Rattle.std.proofs.Common.{◌≡◌, ◌≢◌, ℕ, ◌+◌, ◌≤◌, ◌^◌, List, [], ◌∷◌, ◌++◌, length, drop, refl, sym, ap, subst, ◌∙◌, append_assoc, arith}
use Rattle.std.specs.Int.{w32, to_be_bytes}
use Rattle.std.proofs.lemmas.List.{length-append, append-nil}
use Rattle.outside.specs.declared.disk.Slot.{Slot}
use Rattle.outside.specs.Holding.{Slots, slot_of, other}
use Rattle.journal_entries.specs.declared.standing.Standing.{Standing}
use Rattle.journal_entries.specs.declared.standing.Ending.TheVariants.{Whole}
use Rattle.journal_entries.specs.Bodies.{Body, beginning}
use Rattle.commit_journal.specs.declared.head.Head.{Head}
use Rattle.commit_journal.specs.declared.head.Head.TheVariants.{Dead, Live}
use Rattle.commit_journal.specs.Layout.{Placed, entries_of, head_of, Outcome, Closed, IsBatch, Batches, closed, cut, broken, opened, Beats, counts, Gives}
use Rattle.commit_journal.specs.Resting.{IsFront}
pub use Rattle.commit_journal.specs.Turning.{batch_of}

pub batches_some : {version : ℕ} {s : Standing} {place : ℕ} {bytes : List ℕ} {entries : List Placed} {outcome : Outcome} → Batches version s place bytes entries outcome → 1 ≤ length bytes
batches_some (closed gate junk e shut) = let l = ap length e in omega arith
batches_some (cut rest e none) = let l = ap length e in omega arith
batches_some (broken rest body more at e is b) = let l = ap length e in omega arith
batches_some (opened rest body more t entries others e is b bs) = let l = ap length e in omega arith

module _ (version generation : ℕ) (front : List ℕ) (placed : List Placed) (s : Standing) (f : IsFront version generation front placed s) where
  -- a batch behind the gate
  pub front_more : (body : List ℕ) (more : List Placed) (t : Standing) → length body ≤ 2 ^ 24 → Body version s (length front + 5) body more (Whole t)
      → IsFront version generation (front ++ batch_of body) (placed ++ more) t
  front_more body more t small reads = record {
    head = λ rest some.
        let long : 1 ≤ length (batch_of body ++ rest) = omega arith in
        subst (λ (l : List ℕ). head_of l ≡ Live version generation) (sym (append_assoc front (batch_of body) rest)) (f.head (batch_of body ++ rest) long);
    onward = λ rest others outcome b.
        let size : length (front ++ batch_of body) ≡ length front + 5 + length body = length-append front (batch_of body) ∙ omega (arith, length-append (to_be_bytes w32 (length body)) body) in
        let b' : Batches version t (length front + 5 + length body) rest others outcome = subst (λ (n : ℕ). Batches version t n rest others outcome) size b in
        let is : IsBatch (to_be_bytes w32 (length body) ++ (body ++ rest)) body rest = record { is = refl; size = small; gate = batches_some b } in
        let one : Batches version s (length front) (batch_of body ++ rest) (more ++ others) outcome =
        opened (to_be_bytes w32 (length body) ++ (body ++ rest)) body rest t more others (ap (λ (l : List ℕ). 1 ∷ l) (append_assoc (to_be_bytes w32 (length body)) body rest)) is reads b' in
        let whole = f.onward (batch_of body ++ rest) (more ++ others) outcome one in
        subst (λ (l : List ℕ). Batches version beginning 10 (drop 10 l) ((placed ++ more) ++ others) outcome) (sym (append_assoc front (batch_of body) rest))
        (subst (λ (l : List Placed). Batches version beginning 10 (drop 10 (front ++ (batch_of body ++ rest))) l outcome) (sym (append_assoc placed more others)) whole);
  }

  -- a closed gate ends the journal
  pub front_gives : (slot : Slot) (slots : Slots) (gate : ℕ) (junk : List ℕ) → slot_of slot slots ≡ front ++ gate ∷ junk → gate ≢ 1 → head_of (slot_of (other slot) slots) ≡ Dead → Gives slots (entries_of placed)
  front_gives slot slots gate junk there shut dead =
      let end = f.onward (gate ∷ junk) [] (Closed (length front) s) (closed gate junk refl shut) in
      let all : Batches version beginning 10 (drop 10 (slot_of slot slots)) placed (Closed (length front) s) =
      subst (λ (l : List ℕ). Batches version beginning 10 (drop 10 l) placed (Closed (length front) s)) (sym there)
      (subst (λ (l : List Placed). Batches version beginning 10 (drop 10 (front ++ gate ∷ junk)) l (Closed (length front) s)) (append-nil placed) end) in
      let head : head_of (slot_of slot slots) ≡ Live version generation = ap (λ (l : List ℕ). head_of l) there ∙ f.head (gate ∷ junk) (omega arith) in
      let beats : Beats slot generation (head_of (slot_of (other slot) slots)) = subst (λ (h : Head). Beats slot generation h) (sym dead) tt in
      record { placed = placed; reads = counts slot version generation (Closed (length front) s) head beats all; are = refl }
