-- A journal in slot 0 where no slot was live.
use Rattle.std.proofs.Common.{◌≡◌, ◌≢◌, ◌⊎◌, ℕ, ◌≤◌, ◌<◌, ◌^◌, List, [], ◌∷◌, ◌++◌, length, refl, sym, ap, subst, ◌∙◌, arith, inl, inr}
use Rattle.std.proofs.lemmas.List.{drop_all}
use Rattle.outside.specs.declared.disk.Slot.{Slot}
use Rattle.outside.specs.Sites.{SiteState}
use Rattle.outside.specs.declared.disk.Slot.TheVariants.{First}
use Rattle.outside.specs.Holding.{Slots, Held, slot_of, other}
use Rattle.outside.specs.Calls.{Certain, Leaves}
use Rattle.outside.proofs.Moments.{at_once}
use Rattle.journal_entries.specs.declared.entry.Entry.{Entry}
use Rattle.journal_entries.specs.declared.standing.Standing.{Standing}
use Rattle.journal_entries.specs.declared.standing.Ending.TheVariants.{Whole}
use Rattle.journal_entries.specs.Bodies.{Body, beginning, ends}
use Rattle.commit_journal.specs.declared.head.Head.TheVariants.{Dead}
use Rattle.commit_journal.specs.declared.journal.Journal.{Journal}
use Rattle.commit_journal.specs.Layout.{Placed, entries_of, head_of, new, Gives, HaveBytes}
use Rattle.commit_journal.specs.Opening.{IsBlank}
use Rattle.commit_journal.specs.Resting.{Rested}
use Rattle.commit_journal.specs.Turning.{CanBegin, HasBegun, IsAsBefore, IsClosed, MidTurn, MidRotation, batch_of, slot_bytes}
use Rattle.commit_journal.proofs.FrontLaws.{front_gives}
use Rattle.commit_journal.proofs.TailLaws.{some_at}
use Rattle.commit_journal.proofs.RotateLaws.{dead_from, dead_first, header, slot_front, slot_is, slot_size}

shut : ◌≢◌ {A = ℕ} 0 1
shut e = absurd (omega arith)

pub blank_gives : (slots : Slots) → head_of slots.first ≡ Dead → head_of slots.second ≡ Dead → Gives slots []
blank_gives slots first second = record { placed = []; reads = new first second; are = refl }

module _ (o : Held) (blank : IsBlank o.slots) where
  pub can_begin : CanBegin First o
  can_begin = record { some = blank.have.first; dead = dead_first o.slots.first blank.first }

  -- nothing was done yet
  pub quiet_new : {D : Type 0} (state : D → SiteState) (possible : D → ℕ → Held → Type 0) (a : D) (others : List Entry) → Certain state possible a o → Leaves state possible a a (MidRotation o [] others)
  quiet_new state possible a others h = at_once state possible a (MidRotation o [] others) (λ p here.
      let same : p ≡ o = h.only p here in
      record { beside = ap (λ (x : Held). x.history) same; bytes = rw same blank.have; gives = inl (rw same (blank_gives o.slots blank.first blank.second)) })

  module _ (generation : ℕ) (lt : generation < 2 ^ 64) (body : List ℕ) (placed : List Placed) (t : Standing) (small : length body ≤ 2 ^ 24) (reads : Body 2 beginning 15 body placed (Whole t)) where
    -- no slot is without bytes
    second_some : (p : Held) → slot_of (other First) p.slots ≡ slot_of (other First) o.slots → 1 ≤ length p.slots.second
    second_some p same = subst (λ (l : List ℕ). 1 ≤ length l) (sym same) blank.have.second

    bytes_in : (p : Held) → MidTurn First (slot_bytes generation body) o p → HaveBytes p.slots
    bytes_in p m = by m.there
      where
        by : (IsClosed p.slots.first × IsAsBefore (other First) o p) ⊎ ((p.slots.first ≡ 1 ∷ slot_bytes generation body) × (IsAsBefore (other First) o p ⊎ IsClosed p.slots.second)) → HaveBytes p.slots
        by (inl h) = record { first = h.0.some; second = second_some p h.1 }
        by (inr (begun, inl same)) = record { first = some_at [] (slot_bytes generation body) 1 p.slots.first begun; second = second_some p same }
        by (inr (begun, inr closed)) = record { first = some_at [] (slot_bytes generation body) 1 p.slots.first begun; second = closed.some }

    pub mid_new : (p : Held) → MidTurn First (slot_bytes generation body) o p → MidRotation o [] (entries_of placed) p
    mid_new p m = record {
      beside = m.beside;
      bytes = bytes_in p m;
      gives = elim m.there [
        | inl h ↦ inl (blank_gives p.slots (dead_from p.slots.first h.0.dead) (ap (λ (l : List ℕ). head_of l) h.1 ∙ blank.second))
        | inr h ↦
            let dead : head_of p.slots.second ≡ Dead = elim h.1 [ inl same ↦ ap (λ (l : List ℕ). head_of l) same ∙ blank.second | inr none ↦ dead_from p.slots.second none.dead ] in
            inr (front_gives 2 generation (header generation ++ batch_of body) placed t (slot_front generation lt body placed t small reads) First p.slots 0 [] (h.0 ∙ slot_is generation lt body placed t small reads) shut dead)
      ];
    }

    pub is_made : {D : Type 0} (state : D → SiteState) (possible : D → ℕ → Held → Type 0) (d : D) (j : Journal) → HasBegun state possible d First (slot_bytes generation body) o
        → j.slot ≡ First → j.version ≡ 2 → j.generation ≡ generation → j.gate ≡ length (slot_bytes generation body) → j.standing ≡ t → length j.staged.items ≤ 4 → Rested state possible d j o (entries_of placed) []
    is_made state possible d j h slot version gen gate standing short = record {
      now = h.now;
      certain = h.certain;
      beside = h.beside;
      rest = record {
        front = header generation ++ batch_of body;
        gate = 0;
        junk = [];
        placed = placed;
        before = t;
        tail_placed = [];
        bytes = ap (λ (s : Slot). slot_of s h.now.slots) slot ∙ h.there ∙ slot_is generation lt body placed t small reads;
        shut = shut;
        place = gate ∙ slot_size generation lt body placed t small reads;
        is_front = rw (version, gen) (slot_front generation lt body placed t small reads);
        flushed_are = refl;
        other_dead = ap (λ (s : Slot). head_of (slot_of (other s) h.now.slots)) slot ∙ ap (λ (l : List ℕ). head_of l) h.other_same ∙ blank.second;
        other_some = let l : length (slot_of (other j.slot) h.now.slots) ≡ length o.slots.second = ap (λ (s : Slot). length (slot_of (other s) h.now.slots)) slot ∙ ap (λ (l : List ℕ). length l) h.other_same in let some = blank.have.second in omega arith;
        staged = drop_all 4 j.staged.items short;
        small = omega arith;
        tail_reads = rw standing ends;
        tail_are = refl;
      };
    }
