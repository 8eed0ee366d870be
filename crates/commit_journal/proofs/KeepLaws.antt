-- What the slots say while a journal is opened.
use Rattle.std.proofs.Common.{◌≡◌, ◌≢◌, ℕ, suc, ◌≤◌, ◌⊎◌, List, [], ◌∷◌, ◌++◌, length, get_or, drop, refl, sym, ap, subst, ◌∙◌, arith, inl, inr, Option, Some, None}
use Rattle.std.proofs.lemmas.List.{drop_all}
use Rattle.outside.specs.declared.disk.Slot.{Slot}
use Rattle.outside.specs.Sites.{SiteState}
use Rattle.outside.specs.declared.disk.Slot.TheVariants.{First, Second}
use Rattle.outside.specs.Holding.{Slots, Held, slot_of, other, with_slot, with_bytes}
use Rattle.outside.specs.Calls.{Certain, Leaves, Rests, Changes, Torn, patched}
use Rattle.outside.proofs.Moments.{slot_with, other_with, other_stays, weaker, and_then, rests_then, same_held, slots_from}
use Rattle.journal_entries.specs.Bodies.{beginning, ends}
use Rattle.commit_journal.specs.declared.head.Head.{Head}
use Rattle.commit_journal.specs.declared.head.Head.TheVariants.{Dead, Faulty, Live}
use Rattle.commit_journal.specs.declared.opening.Opened.{Opened}
use Rattle.commit_journal.specs.Layout.{Batches, Beats, closed, Closed, counts, faulty, HaveBytes, head_of, new, Placed, Reads}
use Rattle.commit_journal.specs.Batching.{MidBatch, HasBatch}
use Rattle.commit_journal.specs.Opening.{Finds, Keeps, Opens}
use Rattle.commit_journal.proofs.CountLaws.{given_reads, given_same, have_both, reads_counts, reads_none, some_in}
use Rattle.commit_journal.proofs.OneJournal.{one_journal}
use Rattle.commit_journal.proofs.TailLaws.{some_at}
use Rattle.commit_journal.proofs.TurnLaws.{other_other, is_one, head_split}
use Rattle.commit_journal.proofs.BatchLaws.{PutCrash, PutCertain}
use Rattle.commit_journal.proofs.Pieces.{torn_gate, put_gate}
use Rattle.commit_journal.proofs.RotateLaws.{dead_from, dead_first, live_first, header, header_front}

pub keeps_same : (o p : Held) → HaveBytes o.slots → p ≡ o → Keeps o p
keeps_same o p have e = rw e (record { beside = refl; bytes = have; reads = λ entries damaged r. r; says = λ entries damaged r. r })

abbrev pub new_bytes : List ℕ
new_bytes = 2 ∷ 0 ∷ 0 ∷ 0 ∷ 0 ∷ 0 ∷ 0 ∷ 0 ∷ 1 ∷ 0 ∷ []

-- making a journal
module _ (o : Held) (gate : ℕ) (junk : List ℕ) (there : o.slots.first ≡ gate ∷ junk) (first : head_of o.slots.first ≡ Dead) (second : head_of o.slots.second ≡ Dead) where
  shut : gate ≢ 1
  shut e = dead_first o.slots.first first (ap (λ (l : List ℕ). get_or l 0 0) there ∙ e)

  dead_reads : (p : Held) → p.slots.second ≡ o.slots.second → get_or p.slots.first 0 0 ≢ 1 → Reads p.slots [] None
  dead_reads p same none = new (dead_from p.slots.first none) (ap (λ (l : List ℕ). head_of l) same ∙ second)

  made_batches : (junk' : List ℕ) → Batches 2 beginning 10 (0 ∷ junk') [] (Closed 10 beginning)
  made_batches junk' = closed 0 junk' refl (λ (e : ◌≡◌ {A = ℕ} 0 1). absurd (omega arith))

  live_reads : (p : Held) (junk' : List ℕ) → p.slots.second ≡ o.slots.second → p.slots.first ≡ 1 ∷ (new_bytes ++ junk') → Reads p.slots [] None
  live_reads p junk' same is =
      let head : head_of p.slots.first ≡ Live 2 1 = ap (λ (l : List ℕ). head_of l) is ∙ (header_front 1 (omega arith)).head (0 ∷ junk') (omega arith) in
      let beats : Beats First 1 (head_of p.slots.second) = subst (λ (h : Head). Beats First 1 h) (sym (ap (λ (l : List ℕ). head_of l) same ∙ second)) tt in
      let bs : Batches 2 beginning 10 (drop 10 p.slots.first) [] (Closed 10 beginning) = subst (λ (l : List ℕ). Batches 2 beginning 10 (drop 10 l) [] (Closed 10 beginning)) (sym is) (made_batches junk') in
      counts First 2 1 (Closed 10 beginning) head beats bs

  pub make_keeps : 1 ≤ length o.slots.second → (p : Held) → MidBatch First [] gate new_bytes o p → Keeps o p
  make_keeps some p m =
      let here : Reads p.slots [] None = elim m.there [
        | inl h ↦ dead_reads p m.other_same (λ e. shut (sym (ap (λ (l : List ℕ). get_or l 0 0) h.1) ∙ e))
        | inr h ↦ is_one (Reads p.slots [] None) h.0
            (λ one. live_reads p h.1 m.other_same (h.2 ∙ ap (λ (x : ℕ). x ∷ (new_bytes ++ h.1)) one))
            (λ none. dead_reads p m.other_same (λ e. none (sym (ap (λ (l : List ℕ). get_or l 0 0) h.2) ∙ e)))
      ] in
      let begun : 1 ≤ length p.slots.first = elim m.there [
        | inl h ↦ some_at [] h.0 gate p.slots.first h.1
        | inr h ↦ some_at [] (new_bytes ++ h.1) h.0 p.slots.first h.2
      ] in
      record {
        beside = m.beside;
        bytes = record { first = begun; second = subst (λ (l : List ℕ). 1 ≤ length l) (sym m.other_same) some };
        reads = λ entries damaged r.
            let z = reads_none r first second in
            subst (λ (d : Option (Slot × ℕ)). Reads p.slots entries d) (sym z.1) (subst (λ (l : List Placed). Reads p.slots l None) (sym z.0) here);
        says = λ entries damaged r.
            let z = one_journal here r in
            subst (λ (d : Option (Slot × ℕ)). Reads o.slots entries d) z.damaged_same (subst (λ (l : List Placed). Reads o.slots l None) z.entries_same (new first second));
      }

  pub made : {D : Type 0} (state : D → SiteState) (possible : D → ℕ → Held → Type 0) (d : D) (r : Opened) → 1 ≤ length o.slots.second → HasBatch state possible d First [] new_bytes o
      → r.entries.items ≡ [] → r.damaged ≡ None → r.journal.slot ≡ First → r.journal.version ≡ 2 → r.journal.generation ≡ 1 → r.journal.gate ≡ 10 → r.journal.standing ≡ beginning → length r.journal.staged.items ≤ 4 → Opens state possible d o r
  made state possible d r some h entries damaged slot version generation gate-is standing short = record {
    now = h.now;
    certain = h.certain;
    beside = h.beside;
    reads = rw (entries, damaged) (new first second);
    rests = λ e.
        let second' : slot_of (other r.journal.slot) h.now.slots ≡ o.slots.second = ap (λ (s : Slot). slot_of (other s) h.now.slots) slot ∙ h.other_same in
        record {
          front = header 1;
          gate = 0;
          junk = h.junk;
          placed = [];
          before = beginning;
          tail_placed = [];
          bytes = ap (λ (s : Slot). slot_of s h.now.slots) slot ∙ h.there;
          shut = λ (z : ◌≡◌ {A = ℕ} 0 1). absurd (omega arith);
          place = gate-is;
          is_front = rw (version, generation) (header_front 1 (omega arith));
          flushed_are = rw entries refl;
          other_dead = ap (λ (l : List ℕ). head_of l) second' ∙ second;
          other_some = subst (λ (l : List ℕ). 1 ≤ length l) (sym second') some;
          staged = drop_all 4 r.journal.staged.items short;
          small = omega arith;
          tail_reads = rw standing ends;
          tail_are = refl;
        };
  }

some_split : (xs : List ℕ) → 1 ≤ length xs → (x : ℕ) × (rest : List ℕ) × (xs ≡ x ∷ rest)
some_split [] h = absurd (omega arith)
some_split (x ∷ xs) h = (x, xs, refl)

module _ {D : Type 0} (state : D → SiteState) (possible : D → ℕ → Held → Type 0) (a b : D) (o : Held) (h : Certain state possible a o) (have : HaveBytes o.slots) (first : head_of o.slots.first ≡ Dead) (second : head_of o.slots.second ≡ Dead) where
  pub make_crash : ((o : Held) (front junk : List ℕ) (g : ℕ) → Certain state possible a o → slot_of First o.slots ≡ front ++ g ∷ junk → 0 ≡ length front → Leaves state possible a b (MidBatch First front g new_bytes o)) → Leaves state possible a b (Keeps o)
  make_crash crash =
      let s = some_split o.slots.first have.first in
      weaker state possible a b (MidBatch First [] s.0 new_bytes o) (Keeps o) (make_keeps o s.0 s.1 s.2 first second have.second) (crash o [] s.1 s.0 h s.2 refl)

  pub make_done : ((o : Held) (front junk : List ℕ) (g : ℕ) → Certain state possible a o → slot_of First o.slots ≡ front ++ g ∷ junk → 0 ≡ length front → HasBatch state possible b First front new_bytes o)
      → (r : Opened) → r.entries.items ≡ [] → r.damaged ≡ None → r.journal.slot ≡ First → r.journal.version ≡ 2 → r.journal.generation ≡ 1 → r.journal.gate ≡ 10 → r.journal.standing ≡ beginning → length r.journal.staged.items ≤ 4 → Opens state possible b o r
  make_done batch r entries damaged slot version generation gate standing short =
      let s = some_split o.slots.first have.first in
      made o s.0 s.1 s.2 first second state possible b r have.second (batch o [] s.1 s.0 h s.2 refl) entries damaged slot version generation gate standing short

-- ---- two live slots

beats_dead' : (slot : Slot) (g : ℕ) (h : Head) → h ≡ Dead → Beats slot g h
beats_dead' slot g h e = subst (λ (x : Head). Beats slot g x) (sym e) tt

with_same : (slot : Slot) (bytes : List ℕ) (slots : Slots) → bytes ≡ slot_of slot slots → with_slot slot bytes slots ≡ slots
with_same First bytes slots e = ap (λ (l : List ℕ). slots_from l slots.second) e
with_same Second bytes slots e = ap (λ (l : List ℕ). slots_from slots.first l) e

-- closing the slot that doesn't count
module _ (slot u : Slot) (u-is : u ≡ other slot) (o : Held) (v g w k : ℕ) (mine : head_of (slot_of slot o.slots) ≡ Live v g) (their : head_of (slot_of (other slot) o.slots) ≡ Live w k) (wins : Beats slot g (Live w k)) where
  theirs : (rest : List ℕ) × (slot_of (other slot) o.slots ≡ 1 ∷ rest)
  theirs = head_split (slot_of (other slot) o.slots) (live_first (slot_of (other slot) o.slots) w k their)

  -- what is read of the slots with the other one dead was read of them before
  says_dead : (p : Held) → slot_of slot p.slots ≡ slot_of slot o.slots → head_of (slot_of (other slot) p.slots) ≡ Dead → (entries : List Placed) (damaged : Option (Slot × ℕ)) → Reads p.slots entries damaged → Reads o.slots entries damaged
  says_dead p same dead entries damaged r =
      let x = reads_counts slot v g Dead (ap (λ (l : List ℕ). head_of l) same ∙ mine) dead tt r in
      given_reads slot o.slots entries damaged v g mine (subst (λ (y : Head). Beats slot g y) (sym their) wins) (given_same slot p.slots o.slots v entries damaged (sym same) x)

  keeps_dead : HaveBytes o.slots → (p : Held) → p.history ≡ o.history → slot_of slot p.slots ≡ slot_of slot o.slots → head_of (slot_of (other slot) p.slots) ≡ Dead → 1 ≤ length (slot_of (other slot) p.slots) → Keeps o p
  keeps_dead have p beside same dead some = record {
    beside = beside;
    bytes = have_both slot p.slots (subst (λ (l : List ℕ). 1 ≤ length l) (sym same) (some_in slot o.slots have)) some;
    reads = λ entries damaged r.
        given_reads slot p.slots entries damaged v g (ap (λ (l : List ℕ). head_of l) same ∙ mine) (beats_dead' slot g (head_of (slot_of (other slot) p.slots)) dead)
        (given_same slot o.slots p.slots v entries damaged same (reads_counts slot v g (Live w k) mine their wins r));
    says = says_dead p same dead;
  }

  pub close_keeps : HaveBytes o.slots → (p : Held) → (p ≡ o) ⊎ Changes (other slot) (Torn 0 1) o p → Keeps o p
  close_keeps have p (inl e) = keeps_same o p have e
  close_keeps have p (inr c) =
      let torn : Torn 0 1 (1 ∷ theirs.0) (slot_of (other slot) p.slots) = subst (λ (l : List ℕ). Torn 0 1 l (slot_of (other slot) p.slots)) theirs.1 c.there in
      let is : slot_of (other slot) p.slots ≡ get_or (slot_of (other slot) p.slots) 0 0 ∷ theirs.0 = torn_gate [] 1 theirs.0 (slot_of (other slot) p.slots) torn in
      let same : slot_of slot p.slots ≡ slot_of slot o.slots = subst (λ (s : Slot). slot_of s p.slots ≡ slot_of s o.slots) (other_other slot) (other_stays (other slot) (Torn 0 1) o p c) in
      is_one (Keeps o p) (get_or (slot_of (other slot) p.slots) 0 0)
      (λ one.
      let whole : slot_of (other slot) p.slots ≡ slot_of (other slot) o.slots = is ∙ ap (λ (x : ℕ). x ∷ theirs.0) one ∙ sym theirs.1 in
      let slots-same : p.slots ≡ o.slots = c.elsewhere ∙ with_same (other slot) (slot_of (other slot) p.slots) o.slots whole in
      keeps_same o p have (same_held p o slots-same c.beside))
      (λ none.
      keeps_dead have p c.beside same (dead_from (slot_of (other slot) p.slots) none)
      (some_at [] theirs.0 (get_or (slot_of (other slot) p.slots) 0 0) (slot_of (other slot) p.slots) is))

  abbrev pub shut_held : Held
  shut_held = with_bytes (other slot) (patched 0 (0 ∷ []) (slot_of (other slot) o.slots)) o

  shut_is : slot_of (other slot) shut_held.slots ≡ 0 ∷ theirs.0
  shut_is = slot_with (other slot) (patched 0 (0 ∷ []) (slot_of (other slot) o.slots)) o.slots ∙ ap (λ (l : List ℕ). patched 0 (0 ∷ []) l) theirs.1 ∙ put_gate [] 1 theirs.0 0

  pub shut_mine : slot_of slot shut_held.slots ≡ slot_of slot o.slots
  shut_mine = subst (λ (s : Slot). slot_of s shut_held.slots ≡ slot_of s o.slots) (other_other slot) (other_with (other slot) (patched 0 (0 ∷ []) (slot_of (other slot) o.slots)) o.slots)

  pub shut_dead : head_of (slot_of (other slot) shut_held.slots) ≡ Dead
  shut_dead = dead_from (slot_of (other slot) shut_held.slots) (λ e. let z : ◌≡◌ {A = ℕ} 0 1 = sym (ap (λ (l : List ℕ). get_or l 0 0) shut_is) ∙ e in absurd (omega arith))

  pub shut_some : 1 ≤ length (slot_of (other slot) shut_held.slots)
  shut_some = let l : length (slot_of (other slot) shut_held.slots) ≡ suc (length theirs.0) = ap length shut_is in omega arith

  -- what is read of the slots afterwards was read of them before
  pub shut_reads : (entries : List Placed) (damaged : Option (Slot × ℕ)) → Reads shut_held.slots entries damaged → Reads o.slots entries damaged
  shut_reads = says_dead shut_held shut_mine shut_dead

  module _ {D : Type 0} (state : D → SiteState) (possible : D → ℕ → Held → Type 0) (a b : D) (h : Certain state possible a o) where
    pub newer_crash : HaveBytes o.slots → PutCrash state possible u a b 0 (0 ∷ []) → Leaves state possible a b (Keeps o)
    newer_crash have crash =
        let crash' : PutCrash state possible (other slot) a b 0 (0 ∷ []) = subst (λ (s : Slot). PutCrash state possible s a b 0 (0 ∷ [])) u-is crash in
        weaker state possible a b (λ p. (p ≡ o) ⊎ Changes (other slot) (Torn 0 1) o p) (Keeps o) (close_keeps have) (crash' o h (omega arith))

    pub newer_certain : PutCertain state possible u a b 0 (0 ∷ []) → Certain state possible b shut_held
    newer_certain certain =
        let certain' : PutCertain state possible (other slot) a b 0 (0 ∷ []) = subst (λ (s : Slot). PutCertain state possible s a b 0 (0 ∷ [])) u-is certain in
        certain' o h (omega arith)

    pub newer_then : HaveBytes o.slots → (c : D) → PutCrash state possible u a b 0 (0 ∷ []) → PutCertain state possible u a b 0 (0 ∷ []) → Rests state possible b c → Leaves state possible a c (Keeps o)
    newer_then have c crash certain rests =
        and_then state possible a b c (Keeps o) (newer_crash have crash)
        (weaker state possible b c (λ p. p ≡ shut_held) (Keeps o)
        (λ p e. subst (λ (x : Held). Keeps o x) (sym e) (keeps_dead have shut_held refl shut_mine shut_dead shut_some))
        (rests shut_held (newer_certain certain)).1)

    pub newer_opens : (c : D) (r : Opened) → PutCertain state possible u a b 0 (0 ∷ []) → Rests state possible b c → Finds shut_held.slots r → Opens state possible c o r
    newer_opens c r certain rests found = record {
      now = shut_held;
      certain = (rests shut_held (newer_certain certain)).0;
      beside = refl;
      reads = shut_reads r.entries.items r.damaged found.reads;
      rests = found.rests;
    }

module _ {D : Type 0} (state : D → SiteState) (possible : D → ℕ → Held → Type 0) (a b : D) (o : Held) (h : Certain state possible a o) where
  pub rest_keeps : HaveBytes o.slots → Rests state possible a b → Leaves state possible a b (Keeps o)
  rest_keeps have rests = weaker state possible a b (λ p. p ≡ o) (Keeps o) (λ p. keeps_same o p have) (rests o h).1

  pub rest_opens : (r : Opened) → Rests state possible a b → Finds o.slots r → Opens state possible b o r
  rest_opens r rests found = record { now = o; certain = (rests o h).0; beside = refl; reads = found.reads; rests = found.rests }

  pub damage_opens : (r : Opened) (slot : Slot) (place : ℕ) → Reads o.slots [] (Some (slot, place)) → r.entries.items ≡ [] → r.damaged ≡ Some (slot, place) → Opens state possible a o r
  damage_opens r slot place read entries damaged = record {
    now = o;
    certain = h;
    beside = refl;
    reads = subst (λ (d : Option (Slot × ℕ)). Reads o.slots r.entries.items d) (sym damaged) (subst (λ (l : List Placed). Reads o.slots l (Some (slot, place))) (sym entries) read);
    rests = λ e. let no : ◌≡◌ {A = Option (Slot × ℕ)} (Some (slot, place)) None = sym damaged ∙ e in absurd cc;
  }

  pub second_damage : (r : Opened) (place : ℕ) (mine second : Head) → head_of o.slots.first ≡ mine → ((p : ℕ) → mine ≡ Faulty p → ⊥) → head_of o.slots.second ≡ second → second ≡ Faulty place → (r.entries.items ≡ []) × (r.damaged ≡ Some (Second, place)) → Opens state possible a o r
  second_damage r place mine second first-is sound second-is is e = damage_opens r Second place (faulty Second place (second-is ∙ is) (λ p f. sound p (sym first-is ∙ f))) e.0 e.1

  pub first_damage : (r : Opened) (place : ℕ) (first : Head) → head_of o.slots.first ≡ first → first ≡ Faulty place → (r.entries.items ≡ []) × (r.damaged ≡ Some (First, place)) → Opens state possible a o r
  first_damage r place first first-is is e = damage_opens r First place (faulty First place (first-is ∙ is) tt) e.0 e.1

-- ---- an opening from its first call on

-- the disk was made certain, and rests from there on
pub settled_crash : {D : Type 0} (state : D → SiteState) (possible : D → ℕ → Held → Type 0) (a b i : D) → ((o : Held) → (state a).held ≡ Some o → Leaves state possible a b (possible a (state a).moment)) → ((o : Held) → (state a).held ≡ Some o → Certain state possible b o)
    → Rests state possible b i → (o : Held) → Certain state possible a o → HaveBytes o.slots → Leaves state possible a i (Keeps o)
settled_crash state possible a b i crash settled rests o h have =
    and_then state possible a b i (Keeps o)
    (weaker state possible a b (possible a (state a).moment) (Keeps o) (λ p now. keeps_same o p have (h.only p now)) (crash o h.told))
    (rest_keeps state possible b i o (settled o h.told) have rests)

module _ {D : Type 0} (state : D → SiteState) (possible : D → ℕ → Held → Type 0) (a b c e f i : D) (crash : (o : Held) → (state a).held ≡ Some o → Leaves state possible a b (possible a (state a).moment)) (settled : (o : Held) → (state a).held ≡ Some o → Certain state possible b o)
    (r1 : Rests state possible b c) (r2 : Rests state possible c e) (r3 : Rests state possible e f) (r4 : Rests state possible f i) where
  pub to_third : Rests state possible b e
  to_third = rests_then state possible b c e r1 r2

  pub to_fourth : Rests state possible b f
  to_fourth = rests_then state possible b e f to_third r3

  pub to_last : Rests state possible b i
  to_last = rests_then state possible b f i to_fourth r4

  pub steps_crash : (o : Held) → Certain state possible a o → HaveBytes o.slots → Leaves state possible a i (Keeps o)
  steps_crash = settled_crash state possible a b i crash settled to_last

  module _ (o : Held) (told : (state a).held ≡ Some o) (first second : Head) (first_len second_len : ℕ)
      (first-len : (o : Held) → Certain state possible b o → first_len ≡ length (slot_of First o.slots))
      (first-is : (o : Held) → Certain state possible c o → length (slot_of First o.slots) ≡ first_len → first ≡ head_of (slot_of First o.slots))
      (second-len : (o : Held) → Certain state possible e o → second_len ≡ length (slot_of Second o.slots))
      (second-is : (o : Held) → Certain state possible f o → length (slot_of Second o.slots) ≡ second_len → second ≡ head_of (slot_of Second o.slots)) where
    pub at_last : Certain state possible i o
    at_last = (to_last o (settled o told)).0

    pub len_1 : length o.slots.first ≡ first_len
    len_1 = sym (first-len o (settled o told))

    pub len_2 : length o.slots.second ≡ second_len
    len_2 = sym (second-len o (to_third o (settled o told)).0)

    pub head_1 : head_of o.slots.first ≡ first
    head_1 = sym (first-is o (r1 o (settled o told)).0 len_1)

    pub head_2 : head_of o.slots.second ≡ second
    head_2 = sym (second-is o (to_fourth o (settled o told)).0 len_2)
