-- Writing behind a gate, and opening it: what the slot's bytes are.
use Rattle.std.proofs.Common.{◌≡◌, ℕ, suc, ◌+◌, ◌≤◌, ◌<◌, ◌⊎◌, List, [], ◌∷◌, ◌++◌, length, get_or, take, drop, refl, sym, ap, subst, ◌∙◌, append_assoc, arith, inl, inr}
use Rattle.std.proofs.lemmas.List.{take_at, drop_at, drop_more, take-append-drop, length-append}
use Rattle.outside.specs.declared.disk.Slot.{Slot}
use Rattle.outside.specs.Sites.{SiteState}
use Rattle.outside.specs.Holding.{Held, slot_of, other, with_bytes}
use Rattle.outside.specs.Calls.{Changes, Torn, patched, Certain}
use Rattle.outside.proofs.Moments.{slot_with, other_with, other_stays}
use Rattle.commit_journal.specs.Batching.{MidBatch, HasBatch}

module _ (front : List ℕ) (gate : ℕ) (junk : List ℕ) where
  regroup : front ++ gate ∷ junk ≡ (front ++ gate ∷ []) ++ junk
  regroup = sym (append_assoc front (gate ∷ []) junk)

  length_gate : length (front ++ gate ∷ []) ≡ length front + 1
  length_gate = length-append front (gate ∷ [])

  pub length_is : length (front ++ gate ∷ junk) ≡ length front + suc (length junk)
  length_is = length-append front (gate ∷ junk)

  take_gate : take (length front + 1) (front ++ gate ∷ junk) ≡ front ++ gate ∷ []
  take_gate = ap (λ (l : List ℕ). take (length front + 1) l) regroup ∙ take_at (front ++ gate ∷ []) junk (length front + 1) length_gate

  drop_gate : drop (length front + 1) (front ++ gate ∷ junk) ≡ junk
  drop_gate = ap (λ (l : List ℕ). drop (length front + 1) l) regroup ∙ drop_at (front ++ gate ∷ []) junk (length front + 1) length_gate

  pub torn_behind : (n : ℕ) (c : List ℕ) → Torn (length front + 1) n (front ++ gate ∷ junk) c → c ≡ front ++ gate ∷ drop (length front + 1) c
  torn_behind n c t =
      let before : take (length front + 1) c ≡ front ++ gate ∷ [] = t.before ∙ take_gate in
      sym (take-append-drop (length front + 1) c) ∙ ap (λ (l : List ℕ). l ++ drop (length front + 1) c) before ∙ append_assoc front (gate ∷ []) (drop (length front + 1) c)

  pub torn_gate : (c : List ℕ) → Torn (length front) 1 (front ++ gate ∷ junk) c → c ≡ front ++ get_or c (length front) 0 ∷ junk
  torn_gate c t =
      let before : take (length front) c ≡ front = t.before ∙ take_at front (gate ∷ junk) (length front) refl in
      let after : drop (length front + 1) c ≡ junk = t.after ∙ drop_gate in
      let long : length front < length c = omega (arith, t.no_shorter, length_is) in
      let rest : drop (length front) c ≡ get_or c (length front) 0 ∷ junk = drop_more c (length front) 0 long ∙ ap (λ (l : List ℕ). get_or c (length front) 0 ∷ l) after in
      sym (take-append-drop (length front) c) ∙ ap (λ (l : List ℕ). l ++ drop (length front) c) before ∙ ap (λ (l : List ℕ). front ++ l) rest

  pub put_behind : (bytes : List ℕ) → patched (length front + 1) bytes (front ++ gate ∷ junk) ≡ front ++ gate ∷ (bytes ++ drop (length front + 1 + length bytes) (front ++ gate ∷ junk))
  put_behind bytes =
      let more = bytes ++ drop (length front + 1 + length bytes) (front ++ gate ∷ junk) in
      ap (λ (l : List ℕ). l ++ more) take_gate ∙ append_assoc front (gate ∷ []) more

  pub put_gate : (x : ℕ) → patched (length front) (x ∷ []) (front ++ gate ∷ junk) ≡ front ++ x ∷ junk
  put_gate x =
      ap (λ (l : List ℕ). l ++ ((x ∷ []) ++ drop (length front + 1) (front ++ gate ∷ junk))) (take_at front (gate ∷ junk) (length front) refl)
      ∙ ap (λ (l : List ℕ). front ++ ((x ∷ []) ++ l)) drop_gate

module _ (slot : Slot) (front : List ℕ) (gate : ℕ) (junk bytes : List ℕ) (o : Held) (there : slot_of slot o.slots ≡ front ++ gate ∷ junk) where
  pub mid_first : (p : Held) → (p ≡ o) ⊎ Changes slot (Torn (length front + 1) (length bytes)) o p → MidBatch slot front gate bytes o p
  mid_first p (inl e) = record {
    beside = ap (λ (h : Held). h.history) e;
    other_same = ap (λ (h : Held). slot_of (other slot) h.slots) e;
    there = inl (junk, ap (λ (h : Held). slot_of slot h.slots) e ∙ there);
  }
  mid_first p (inr c) =
      let torn : Torn (length front + 1) (length bytes) (front ++ gate ∷ junk) (slot_of slot p.slots) = subst (λ (l : List ℕ). Torn (length front + 1) (length bytes) l (slot_of slot p.slots)) there c.there in
      record {
        beside = c.beside;
        other_same = other_stays slot (Torn (length front + 1) (length bytes)) o p c;
        there = inl (drop (length front + 1) (slot_of slot p.slots), torn_behind front gate junk (length bytes) (slot_of slot p.slots) torn);
      }

  abbrev pub rest : List ℕ
  rest = drop (length front + 1 + length bytes) (front ++ gate ∷ junk)

  abbrev pub middle : Held
  middle = with_bytes slot (patched (length front + 1) bytes (slot_of slot o.slots)) o

  pub middle_is : slot_of slot middle.slots ≡ front ++ gate ∷ (bytes ++ rest)
  middle_is = slot_with slot (patched (length front + 1) bytes (slot_of slot o.slots)) o.slots ∙ ap (λ (l : List ℕ). patched (length front + 1) bytes l) there ∙ put_behind front gate junk bytes

  middle_other : slot_of (other slot) middle.slots ≡ slot_of (other slot) o.slots
  middle_other = other_with slot (patched (length front + 1) bytes (slot_of slot o.slots)) o.slots

  pub mid_second : (p : Held) → (p ≡ middle) ⊎ Changes slot (Torn (length front) 1) middle p → MidBatch slot front gate bytes o p
  mid_second p (inl e) = record {
    beside = ap (λ (h : Held). h.history) e;
    other_same = ap (λ (h : Held). slot_of (other slot) h.slots) e ∙ middle_other;
    there = inr (gate, rest, ap (λ (h : Held). slot_of slot h.slots) e ∙ middle_is);
  }
  mid_second p (inr c) =
      let torn : Torn (length front) 1 (front ++ gate ∷ (bytes ++ rest)) (slot_of slot p.slots) = subst (λ (l : List ℕ). Torn (length front) 1 l (slot_of slot p.slots)) middle_is c.there in
      record {
        beside = c.beside;
        other_same = other_stays slot (Torn (length front) 1) middle p c ∙ middle_other;
        there = inr (get_or (slot_of slot p.slots) (length front) 0, rest, torn_gate front gate (bytes ++ rest) (slot_of slot p.slots) torn);
      }

  abbrev pub last : Held
  last = with_bytes slot (patched (length front) (1 ∷ []) (slot_of slot middle.slots)) middle

  last_is : slot_of slot last.slots ≡ front ++ 1 ∷ (bytes ++ rest)
  last_is = slot_with slot (patched (length front) (1 ∷ []) (slot_of slot middle.slots)) middle.slots ∙ ap (λ (l : List ℕ). patched (length front) (1 ∷ []) l) middle_is ∙ put_gate front gate (bytes ++ rest) 1

  pub has_batch : {D : Type 0} (state : D → SiteState) (possible : D → ℕ → Held → Type 0) (d : D) → Certain state possible d last → HasBatch state possible d slot front bytes o
  has_batch state possible d c = record {
    now = last;
    certain = c;
    beside = refl;
    other_same = other_with slot (patched (length front) (1 ∷ []) (slot_of slot middle.slots)) middle.slots ∙ middle_other;
    junk = rest;
    there = last_is;
  }

  pub first_within : length front + 1 ≤ length (slot_of slot o.slots)
  first_within = let e : length (slot_of slot o.slots) ≡ length front + suc (length junk) = ap length there ∙ length_is front gate junk in omega arith

  pub second_within : length front ≤ length (slot_of slot middle.slots)
  second_within = let e : length (slot_of slot middle.slots) ≡ length front + suc (length (bytes ++ rest)) = ap length middle_is ∙ length_is front gate (bytes ++ rest) in omega arith
