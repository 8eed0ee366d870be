-- Moving on to the other slot: which entries count at each moment.
use Rattle.std.proofs.Common.{◌≡◌, ◌≢◌, ◌⊎◌, ℕ, suc, ◌-◌, ◌≤◌, ◌<◌, ◌^◌, Bool, true, false, cond, eqb, ltb, List, [], ◌∷◌, ◌++◌, length, get_or, drop, refl, sym, ap, subst, ◌∙◌, append_assoc, arith, inl, inr}
use Rattle.std.specs.Int.{w64, to_be_bytes}
use Rattle.std.proofs.lemmas.Bool.{eqb-true, eqb-false, le-ltb, ne_eqb}
use Rattle.std.proofs.lemmas.List.{length-append, append-nil, drop_all}
use Rattle.std.proofs.lemmas.Nat.{from_be_bytes-to_be_bytes_8}
use Rattle.outside.specs.declared.disk.Slot.{Slot}
use Rattle.outside.specs.Sites.{SiteState}
use Rattle.outside.specs.declared.disk.Slot.TheVariants.{First, Second}
use Rattle.outside.specs.Holding.{Slots, Held, slot_of, other}
use Rattle.outside.specs.Calls.{Certain, Leaves}
use Rattle.outside.proofs.Moments.{at_once, weaker}
use Rattle.journal_entries.specs.declared.entry.Entry.{Entry}
use Rattle.journal_entries.specs.declared.standing.Standing.{Standing}
use Rattle.journal_entries.specs.declared.standing.Ending.TheVariants.{Whole}
use Rattle.std.specs.List.{flat_map, AllByRecursion}
use Rattle.journal_entries.specs.Spelling.{entry_bytes, IsEntry}
use Rattle.journal_entries.proofs.BodyLaws.{spelled}
use Rattle.journal_entries.specs.Bodies.{Body, beginning, ends, AllFollow, behind_all}
use Rattle.commit_journal.specs.declared.head.Head.{Head}
use Rattle.commit_journal.specs.declared.head.Head.TheVariants.{Dead, Faulty, Live}
use Rattle.commit_journal.specs.declared.journal.Journal.{Journal}
use Rattle.commit_journal.specs.Layout.{Placed, entries_of, generation_of, live_head, head_of, Closed, Batches, closed, Beats, counts, Gives, HaveBytes}
use Rattle.commit_journal.specs.Resting.{IsFront, AtRest, Rested}
use Rattle.commit_journal.specs.Turning.{CanTurn, IsAsBefore, IsClosed, MidTurn, Turned, batch_of, slot_bytes, MidRotation}
use Rattle.commit_journal.proofs.FrontLaws.{front_more, front_gives}
use Rattle.commit_journal.proofs.TurnLaws.{other_other}
use Rattle.commit_journal.proofs.TailLaws.{bytes_of, rest_bytes, rest_gives, some_at}

-- a slot whose first byte isn't 1 isn't live
pub dead_from : (bytes : List ℕ) → get_or bytes 0 0 ≢ 1 → head_of bytes ≡ Dead
unfolding head_of
dead_from bytes none = rw (ne_eqb (get_or bytes 0 0) 1 none) refl

not_dead : (b c d e : Bool) (v g : ℕ) → cond b (Faulty 1) (cond c (Live 2 g) (cond d (cond e (Faulty 2) (Live 1 g)) (Faulty 1))) ≡ Dead → ⊥
not_dead true c d e v g h = absurd cc
not_dead false true d e v g h = absurd cc
not_dead false false true true v g h = absurd cc
not_dead false false true false v g h = absurd cc
not_dead false false false e v g h = absurd cc

dead_by : (bytes : List ℕ) (b : Bool) → cond b (live_head bytes) Dead ≡ Dead → b ≡ false
dead_by bytes true h = absurd (not_dead (ltb (length bytes) 11) (eqb (get_or bytes 1 0) 2) (eqb (get_or bytes 1 0) 1) (eqb (generation_of bytes) (2 ^ 64 - 1)) 0 (generation_of bytes) h)
dead_by bytes false h = refl

pub dead_first : (bytes : List ℕ) → head_of bytes ≡ Dead → get_or bytes 0 0 ≢ 1
unfolding head_of
dead_first bytes h = eqb-false (get_or bytes 0 0) 1 (dead_by bytes (eqb (get_or bytes 0 0) 1) h)

live_by : (bytes : List ℕ) (b : Bool) (v g : ℕ) → cond b (live_head bytes) Dead ≡ Live v g → b ≡ true
live_by bytes true v g h = refl
live_by bytes false v g h = absurd cc

pub live_first : (bytes : List ℕ) (v g : ℕ) → head_of bytes ≡ Live v g → get_or bytes 0 0 ≡ 1
unfolding head_of
live_first bytes v g h = eqb-true (get_or bytes 0 0) 1 (live_by bytes (eqb (get_or bytes 0 0) 1) v g h)

-- the head of version 2
abbrev pub header : ℕ → List ℕ
header generation = 1 ∷ 2 ∷ to_be_bytes w64 generation

pub header_front : (generation : ℕ) → generation < 2 ^ 64 → IsFront 2 generation (header generation) [] beginning
unfolding head_of
header_front generation lt = record {
  head = λ rest some.
      let long : ltb (length (header generation ++ rest)) 11 ≡ false = le-ltb _ _ (omega (arith, length-append (header generation) rest)) in
      let is : generation_of (header generation ++ rest) ≡ generation = from_be_bytes-to_be_bytes_8 generation lt in
      let live : head_of (header generation ++ rest) ≡ Live 2 (generation_of (header generation ++ rest)) = rw long refl in
      live ∙ ap (λ (g : ℕ). Live 2 g) is;
  onward = λ rest more outcome b. b;
}

-- which of two live slots counts
beats_dead : (slot : Slot) (g : ℕ) (h : Head) → h ≡ Dead → Beats slot g h
beats_dead slot g h e = subst (λ (x : Head). Beats slot g x) (sym e) tt

beats_live : (slot : Slot) (g v g' : ℕ) (h : Head) → h ≡ Live v g' → g' < g → Beats slot g h
beats_live First g v g' h e lt = let le : g' ≤ g = omega arith in subst (λ (x : Head). Beats First g x) (sym e) le
beats_live Second g v g' h e lt = subst (λ (x : Head). Beats Second g x) (sym e) lt

-- a slot with this body as its only batch
module _ (generation : ℕ) (lt : generation < 2 ^ 64) (body : List ℕ) (placed : List Placed) (t : Standing) (small : length body ≤ 2 ^ 24) (reads : Body 2 beginning 15 body placed (Whole t)) where
  pub slot_front : IsFront 2 generation (header generation ++ batch_of body) placed t
  slot_front = front_more 2 generation (header generation) [] beginning (header_front generation lt) body placed t small reads

  pub slot_is : 1 ∷ slot_bytes generation body ≡ (header generation ++ batch_of body) ++ 0 ∷ []
  slot_is = sym (append_assoc (header generation) (batch_of body) (0 ∷ []))

  pub slot_size : length (slot_bytes generation body) ≡ length (header generation ++ batch_of body)
  slot_size = omega (arith, length-append (to_be_bytes w64 generation) (batch_of body ++ 0 ∷ []), length-append (batch_of body) (0 ∷ []), length-append (header generation) (batch_of body))

module _ (j : Journal) (o : Held) (flushed tail : List Entry) (r : AtRest j o.slots flushed tail) (generation : ℕ) (lt : generation < 2 ^ 64) (above : j.generation < generation) (body : List ℕ) (placed : List Placed) (t : Standing) (small : length body ≤ 2 ^ 24) (reads : Body 2 beginning 15 body placed (Whole t)) where
  abbrev target : Slot
  target = other j.slot

  pub old_head : head_of (slot_of j.slot o.slots) ≡ Live j.version j.generation
  old_head = ap (λ (l : List ℕ). head_of l) r.bytes ∙ r.is_front.head (r.gate ∷ r.junk) (omega arith)

  pub can_turn : CanTurn target o
  can_turn = record {
    some = r.other_some;
    dead = dead_first (slot_of target o.slots) r.other_dead;
    live = subst (λ (s : Slot). get_or (slot_of s o.slots) 0 0 ≡ 1) (sym (other_other j.slot)) (live_first (slot_of j.slot o.slots) j.version j.generation old_head);
  }

  new_gives : (slots : Slots) → slot_of target slots ≡ 1 ∷ slot_bytes generation body → Beats target generation (head_of (slot_of j.slot slots)) → Gives slots (entries_of placed)
  new_gives slots there beats =
      let all = there ∙ slot_is generation lt body placed t small reads in
      let end = (slot_front generation lt body placed t small reads).onward (0 ∷ []) [] (Closed (length (header generation ++ batch_of body)) t) (closed 0 [] refl (λ (e : ◌≡◌ {A = ℕ} 0 1). absurd (omega arith))) in
      let batches : Batches 2 beginning 10 (drop 10 (slot_of target slots)) placed (Closed (length (header generation ++ batch_of body)) t) =
      subst (λ (l : List ℕ). Batches 2 beginning 10 (drop 10 l) placed (Closed (length (header generation ++ batch_of body)) t)) (sym all)
      (subst (λ (l : List Placed). Batches 2 beginning 10 (drop 10 ((header generation ++ batch_of body) ++ 0 ∷ [])) l (Closed (length (header generation ++ batch_of body)) t)) (append-nil placed) end) in
      let head : head_of (slot_of target slots) ≡ Live 2 generation = ap (λ (l : List ℕ). head_of l) all ∙ (slot_front generation lt body placed t small reads).head (0 ∷ []) (omega arith) in
      let beats' : Beats target generation (head_of (slot_of (other target) slots)) = subst (λ (s : Slot). Beats target generation (head_of (slot_of s slots))) (sym (other_other j.slot)) beats in
      record { placed = placed; reads = counts target 2 generation (Closed (length (header generation ++ batch_of body)) t) head beats' batches; are = refl }

  -- no slot is without bytes
  live_some : (p : Held) → slot_of (other target) p.slots ≡ slot_of (other target) o.slots → 1 ≤ length (slot_of (other target) p.slots)
  live_some p same =
      subst (λ (s : Slot). 1 ≤ length (slot_of s p.slots)) (sym (other_other j.slot))
      (some_at r.front r.junk r.gate (slot_of j.slot p.slots) (subst (λ (s : Slot). slot_of s p.slots ≡ slot_of s o.slots) (other_other j.slot) same ∙ r.bytes))

  bytes_in : (p : Held) → MidTurn target (slot_bytes generation body) o p → HaveBytes p.slots
  bytes_in p m = by m.there
    where
      by : (IsClosed (slot_of target p.slots) × IsAsBefore (other target) o p) ⊎ ((slot_of target p.slots ≡ 1 ∷ slot_bytes generation body) × (IsAsBefore (other target) o p ⊎ IsClosed (slot_of (other target) p.slots))) → HaveBytes p.slots
      by (inl h) = bytes_of target p.slots h.0.some (live_some p h.1)
      by (inr (begun, inl same)) = bytes_of target p.slots (some_at [] (slot_bytes generation body) 1 (slot_of target p.slots) begun) (live_some p same)
      by (inr (begun, inr shut)) = bytes_of target p.slots (some_at [] (slot_bytes generation body) 1 (slot_of target p.slots) begun) shut.some

  pub mid_rotation : (p : Held) → MidTurn target (slot_bytes generation body) o p → MidRotation o flushed (entries_of placed) p
  mid_rotation p m = record {
    beside = m.beside;
    bytes = bytes_in p m;
    gives = elim m.there [
      | inl h ↦
          let same : slot_of j.slot p.slots ≡ slot_of j.slot o.slots = subst (λ (s : Slot). slot_of s p.slots ≡ slot_of s o.slots) (other_other j.slot) h.1 in
          inl (subst (λ (l : List Entry). Gives p.slots l) r.flushed_are
          (front_gives j.version j.generation r.front r.placed r.before r.is_front j.slot p.slots r.gate r.junk (same ∙ r.bytes) r.shut (dead_from (slot_of target p.slots) h.0.dead)))
      | inr h ↦ inr (new_gives p.slots h.0 (elim h.1 [
        | inl same ↦
            let mine : slot_of j.slot p.slots ≡ slot_of j.slot o.slots = subst (λ (s : Slot). slot_of s p.slots ≡ slot_of s o.slots) (other_other j.slot) same in
            beats_live target generation j.version j.generation (head_of (slot_of j.slot p.slots)) (ap (λ (l : List ℕ). head_of l) mine ∙ old_head) above
        | inr none ↦
            let mine : get_or (slot_of j.slot p.slots) 0 0 ≢ 1 = subst (λ (s : Slot). get_or (slot_of s p.slots) 0 0 ≢ 1) (other_other j.slot) none.dead in
            beats_dead target generation (head_of (slot_of j.slot p.slots)) (dead_from (slot_of j.slot p.slots) mine)
      ]))
    ];
  }

  pub is_rotated : {D : Type 0} (state : D → SiteState) (possible : D → ℕ → Held → Type 0) (d : D) (j' : Journal) → Turned state possible d target (slot_bytes generation body) o
      → j'.slot ≡ target → j'.version ≡ 2 → j'.generation ≡ generation → j'.gate ≡ length (slot_bytes generation body) → j'.standing ≡ t → length j'.staged.items ≤ 4 → Rested state possible d j' o (entries_of placed) []
  is_rotated state possible d j' h slot version gen gate standing short =
      let old : slot_of j.slot h.now.slots ≡ 0 ∷ h.old.0 = subst (λ (s : Slot). slot_of s h.now.slots ≡ 0 ∷ h.old.0) (other_other j.slot) h.old.1 in
      let others : slot_of (other j'.slot) h.now.slots ≡ 0 ∷ h.old.0 = ap (λ (s : Slot). slot_of (other s) h.now.slots) slot ∙ ap (λ (s : Slot). slot_of s h.now.slots) (other_other j.slot) ∙ old in
      record {
        now = h.now;
        certain = h.certain;
        beside = h.beside;
        rest = record {
          front = header generation ++ batch_of body;
          gate = 0;
          junk = [];
          placed = placed;
          before = t;
          tail_placed = [];
          bytes = ap (λ (s : Slot). slot_of s h.now.slots) slot ∙ h.there ∙ slot_is generation lt body placed t small reads;
          shut = λ (e : ◌≡◌ {A = ℕ} 0 1). absurd (omega arith);
          place = gate ∙ slot_size generation lt body placed t small reads;
          is_front = rw (version, gen) (slot_front generation lt body placed t small reads);
          flushed_are = refl;
          other_dead = dead_from (slot_of (other j'.slot) h.now.slots) (λ (e : get_or (slot_of (other j'.slot) h.now.slots) 0 0 ≡ 1). let z : ◌≡◌ {A = ℕ} 0 1 = sym (ap (λ (l : List ℕ). get_or l 0 0) others) ∙ e in absurd (omega arith));
          other_some = let l : length (slot_of (other j'.slot) h.now.slots) ≡ suc (length h.old.0) = ap length others in omega arith;
          staged = drop_all 4 j'.staged.items short;
          small = omega arith;
          tail_reads = rw standing ends;
          tail_are = refl;
        };
      }

module _ {D : Type 0} (state : D → SiteState) (possible : D → ℕ → Held → Type 0) (a b : D) (j : Journal) (o : Held) (flushed tail : List Entry) (h : Certain state possible a o) (r : AtRest j o.slots flushed tail)
    (generation : ℕ) (lt : generation < 2 ^ 64) (above : j.generation < generation) (body : List ℕ) (placed : List Placed) (t : Standing) (small : length body ≤ 2 ^ 24) (reads : Body 2 beginning 15 body placed (Whole t))
    (u : Slot) (u-is : u ≡ other j.slot) (bytes : List ℕ) (bytes-are : bytes ≡ slot_bytes generation body) where
  pub move_crash : ((o : Held) → Certain state possible a o → CanTurn u o → Leaves state possible a b (MidTurn u bytes o)) → Leaves state possible a b (MidRotation o flushed (entries_of placed))
  move_crash crash =
      let crash' : Leaves state possible a b (MidTurn u bytes o) = crash o h (subst (λ (s : Slot). CanTurn s o) (sym u-is) (can_turn j o flushed tail r generation lt above body placed t small reads)) in
      let one : Leaves state possible a b (MidTurn (other j.slot) bytes o) = subst (λ (s : Slot). Leaves state possible a b (MidTurn s bytes o)) u-is crash' in
      let two : Leaves state possible a b (MidTurn (other j.slot) (slot_bytes generation body) o) = subst (λ (l : List ℕ). Leaves state possible a b (MidTurn (other j.slot) l o)) bytes-are one in
      weaker state possible a b (MidTurn (other j.slot) (slot_bytes generation body) o) (MidRotation o flushed (entries_of placed)) (mid_rotation j o flushed tail r generation lt above body placed t small reads) two

  pub move_done : ((o : Held) → Certain state possible a o → CanTurn u o → Turned state possible b u bytes o) → (j' : Journal) → j'.slot ≡ u → j'.version ≡ 2 → j'.generation ≡ generation → j'.gate ≡ length bytes → j'.standing ≡ t → length j'.staged.items ≤ 4
      → Rested state possible b j' o (entries_of placed) []
  move_done turned j' slot version gen gate standing short =
      let turned' : Turned state possible b u bytes o = turned o h (subst (λ (s : Slot). CanTurn s o) (sym u-is) (can_turn j o flushed tail r generation lt above body placed t small reads)) in
      let one : Turned state possible b (other j.slot) bytes o = subst (λ (s : Slot). Turned state possible b s bytes o) u-is turned' in
      let two : Turned state possible b (other j.slot) (slot_bytes generation body) o = subst (λ (l : List ℕ). Turned state possible b (other j.slot) l o) bytes-are one in
      is_rotated j o flushed tail r generation lt above body placed t small reads state possible b j' two (slot ∙ u-is) version gen (gate ∙ ap (λ (l : List ℕ). length l) bytes-are) standing short

-- nothing was done yet
pub quiet_rotation : {D : Type 0} (state : D → SiteState) (possible : D → ℕ → Held → Type 0) (a : D) (j : Journal) (o : Held) (flushed tail others : List Entry) → Certain state possible a o → AtRest j o.slots flushed tail → Leaves state possible a a (MidRotation o flushed others)
quiet_rotation state possible a j o flushed tail others h r = at_once state possible a (MidRotation o flushed others) (λ p here.
    let same : p ≡ o = h.only p here in
    record { beside = ap (λ (x : Held). x.history) same; bytes = rw same (rest_bytes j o.slots flushed tail r); gives = inl (rw same (rest_gives j o.slots flushed tail r)) })

-- the entries of a rotation read as a slot's first batch
pub rotate_reads : (entries : List Entry) → AllByRecursion (IsEntry 2) entries → AllFollow beginning entries → (s : Standing) → s ≡ behind_all beginning entries
    → (placed : List Placed) × Body 2 beginning 15 (flat_map entry_bytes entries) placed (Whole s) × (entries_of placed ≡ entries)
rotate_reads entries are follow s is =
    let x = spelled 2 beginning 15 entries are follow in
    (x.0, subst (λ (t : Standing). Body 2 beginning 15 (flat_map entry_bytes entries) x.0 (Whole t)) (sym is) x.1, x.2)
