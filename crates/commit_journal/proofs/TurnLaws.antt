-- Moving on to the other slot: what each call leaves.
use Rattle.std.proofs.Common.{Ok, zero, ◌≡◌, ◌≢◌, ℕ, suc, ◌+◌, ◌≤◌, ◌<◌, ◌⊎◌, true, false, eqb, List, [], ◌∷◌, ◌++◌, length, get_or, take, drop, refl, sym, ap, subst, ◌∙◌, arith, inl, inr, Option, Some}
use Rattle.std.proofs.lemmas.Bool.{eqb-true, eqb-false}
use Rattle.std.proofs.lemmas.List.{append-nil, get_or-take}
use Rattle.outside.specs.declared.disk.Slot.{Slot}
use Rattle.outside.specs.Sites.{SiteState}
use Rattle.outside.specs.declared.disk.Slot.TheVariants.{First, Second}
use Rattle.outside.specs.Holding.{Held, slot_of, other, with_bytes}
use Rattle.outside.specs.Calls.{Told, GoesOn, Stays, Same, Changes, Torn, Cut, patched, MayWrite, Wrote, MayCut, WasCut, Durable, Certain, Leaves}
use Rattle.outside.proofs.Moments.{slot_with, other_with, other_stays, told_then, one_call, and_then, weaker, cut_leaves, sync_certain}
use Rattle.commit_journal.specs.Turning.{Filling, Filled, HasBegun, IsClosed, MidTurn, Turned}
use Rattle.commit_journal.proofs.Pieces.{torn_gate, put_gate}
use Rattle.commit_journal.proofs.BatchLaws.{PutCrash, PutCertain}

pub other_other : (slot : Slot) → other (other slot) ≡ slot
other_other First = refl
other_other Second = refl

first_of_take : (xs : List ℕ) → get_or (take 1 xs) 0 0 ≡ get_or xs 0 0
first_of_take [] = refl
first_of_take (x ∷ xs) = refl

take_one : (xs : List ℕ) → 1 ≤ length xs → take 1 xs ≡ get_or xs 0 0 ∷ []
take_one [] h = absurd (omega arith)
take_one (x ∷ xs) h = refl

first_cut : (old new : List ℕ) → 1 ≤ length old → Cut 1 old new → get_or new 0 0 ≡ get_or old 0 0
first_cut old new some c =
    let long : 0 < length new = omega (arith, c.no_shorter) in
    ap (λ (l : List ℕ). get_or l 0 0) (sym c.front) ∙ get_or-take (length new) old 0 0 long

some_torn : (n : ℕ) (old new : List ℕ) → 1 ≤ length old → Torn 1 n old new → 1 ≤ length new
some_torn n old new some t = let e : length (take 1 new) ≡ length (take 1 old) = ap length t.before in by new e
  where
    by : (new : List ℕ) → length (take 1 new) ≡ length (take 1 old) → 1 ≤ length new
    by [] e = absurd (none old some e)
      where
        none : (old : List ℕ) → 1 ≤ length old → 0 ≡ length (take 1 old) → ⊥
        none [] some e = let never : ⊥ = omega (arith, some) in never
        none (x ∷ old) some e = let never : ⊥ = omega (arith, e) in never
    by (x ∷ new) e = omega arith

first_torn : (n : ℕ) (old new : List ℕ) → Torn 1 n old new → get_or new 0 0 ≡ get_or old 0 0
first_torn n old new t = sym (first_of_take new) ∙ ap (λ (l : List ℕ). get_or l 0 0) t.before ∙ first_of_take old

drop_none : (n : ℕ) → ◌≡◌ {A = List ℕ} (drop n []) []
drop_none zero = refl
drop_none (suc n) = refl

-- nothing stands behind one byte
drop_one : (x n : ℕ) → ◌≡◌ {A = List ℕ} (drop (1 + n) (x ∷ [])) []
drop_one x n = let e : 1 + n ≡ suc n = omega arith in rw e (drop_none n)

module _ (slot : Slot) (o : Held) (some : 1 ≤ length (slot_of slot o.slots)) where
  at_rest : (p : Held) → p ≡ o → Filling slot o p
  at_rest p e = rw e (record { beside = refl; other_same = refl; first_same = refl; some = some })

  pub filling_cut : (p : Held) → (p ≡ o) ⊎ Changes slot (Cut 1) o p → Filling slot o p
  filling_cut p (inl e) = at_rest p e
  filling_cut p (inr c) = record { beside = c.beside; other_same = other_stays slot (Cut 1) o p c; first_same = first_cut (slot_of slot o.slots) (slot_of slot p.slots) some c.there; some = let s = c.there.no_shorter in omega (arith, s) }

  pub filling_more : (n : ℕ) (q p : Held) → Filling slot o q → Changes slot (Torn 1 n) q p → Filling slot o p
  filling_more n q p f c = record {
    beside = c.beside ∙ f.beside;
    other_same = other_stays slot (Torn 1 n) q p c ∙ f.other_same;
    first_same = first_torn n (slot_of slot q.slots) (slot_of slot p.slots) c.there ∙ f.first_same;
    some = some_torn n (slot_of slot q.slots) (slot_of slot p.slots) f.some c.there;
  }

module _ {D : Type 0} (state : D → SiteState) (possible : D → ℕ → Held → Type 0) (slot : Slot) (bytes : List ℕ) (o : Held) (some : 1 ≤ length (slot_of slot o.slots)) where
  pub fill_cut : (a b : D) → Certain state possible a o → GoesOn state possible a b (MayCut (state a).held slot 1) → Leaves state possible a b (Filling slot o)
  fill_cut a b h g = weaker state possible a b (λ p. (p ≡ o) ⊎ Changes slot (Cut 1) o p) (Filling slot o) (filling_cut slot o some) (cut_leaves state possible a b slot 1 o h some g)

  abbrev cut_held : Held
  cut_held = with_bytes slot (take 1 (slot_of slot o.slots)) o

  told_cut : (E : Type 0) (a b : D) → Certain state possible a o → Told (state a).held (state b).held (WasCut {T = Unit {0}} {E = E} slot 1 (Ok tt)) → (state b).held ≡ Some cut_held
  told_cut E a b h told =
      let n = told_then (state a).held (state b).held (WasCut {T = Unit {0}} {E = E} slot 1 (Ok tt)) o h.told told in
      n.1 ∙ ap (λ (x : Held). Some x) (n.2 some)

  cut_there : slot_of slot cut_held.slots ≡ get_or (slot_of slot o.slots) 0 0 ∷ []
  cut_there = slot_with slot (take 1 (slot_of slot o.slots)) o.slots ∙ take_one (slot_of slot o.slots) some

  cut_within : 1 ≤ length (slot_of slot cut_held.slots)
  cut_within = let l : length (slot_of slot cut_held.slots) ≡ 1 = ap length cut_there in omega arith

  pub fill_write : (E : Type 0) (a b c : D) → Certain state possible a o → GoesOn state possible a b (MayCut (state a).held slot 1) → Told (state a).held (state b).held (WasCut {T = Unit {0}} {E = E} slot 1 (Ok tt))
      → GoesOn state possible b c (MayWrite (state b).held slot 1 bytes) → Leaves state possible a c (Filling slot o)
  fill_write E a b c h g told g2 =
      let first = fill_cut a b h g in
      let le : (state a).moment ≤ (state b).moment = first.later in
      let told_b = told_cut E a b h told in
      and_then state possible a b c (Filling slot o) first
      (one_call state possible b c (MayWrite (state b).held slot 1 bytes) (Filling slot o) g2
      (λ q now. first.each (state b).moment q le (omega arith) now)
      (λ q p now s.
      let step : MayWrite (Some cut_held) slot 1 bytes q p = subst (λ (x : Option Held). MayWrite x slot 1 bytes q p) told_b s in
      filling_more slot o some (length bytes) q p (first.each (state b).moment q le (omega arith) now) (step cut_within)))

  abbrev full_held : Held
  full_held = with_bytes slot (patched 1 bytes (slot_of slot cut_held.slots)) cut_held

  full_there : slot_of slot full_held.slots ≡ get_or (slot_of slot o.slots) 0 0 ∷ bytes
  full_there = slot_with slot (patched 1 bytes (slot_of slot cut_held.slots)) cut_held.slots ∙ ap (λ (l : List ℕ). patched 1 bytes l) cut_there
      ∙ ap (λ (l : List ℕ). get_or (slot_of slot o.slots) 0 0 ∷ (bytes ++ l)) (drop_one (get_or (slot_of slot o.slots) 0 0) (length bytes)) ∙ ap (λ (l : List ℕ). get_or (slot_of slot o.slots) 0 0 ∷ l) (append-nil bytes)

  pub fill_done : (E F G : Type 0) (a b c e : D) → Certain state possible a o → GoesOn state possible a b (MayCut (state a).held slot 1) → Told (state a).held (state b).held (WasCut {T = Unit {0}} {E = E} slot 1 (Ok tt))
      → GoesOn state possible b c (MayWrite (state b).held slot 1 bytes) → Told (state b).held (state c).held (Wrote {T = Unit {0}} {E = F} slot 1 bytes (Ok tt)) → GoesOn state possible c e Stays → Told (state c).held (state e).held Same → Durable {T = Unit {0}} {E = G} (state c).held slot (Ok tt) (possible e (state e).moment)
      → Filled state possible e slot bytes o
  fill_done E F G a b c e h g told g2 told2 g3 told3 durable =
      let leaves = fill_write E a b c h g told g2 in
      let le : (state a).moment ≤ (state c).moment = leaves.later in
      let told_b = told_cut E a b h told in
      let n = told_then (state b).held (state c).held (Wrote {T = Unit {0}} {E = F} slot 1 bytes (Ok tt)) cut_held told_b told2 in
      let told_c : (state c).held ≡ Some full_held = n.1 ∙ ap (λ (x : Held). Some x) (n.2 cut_within) in
      let other_is : slot_of (other slot) full_held.slots ≡ slot_of (other slot) o.slots = other_with slot (patched 1 bytes (slot_of slot cut_held.slots)) cut_held.slots ∙ other_with slot (take 1 (slot_of slot o.slots)) o.slots in
      record {
        now = full_held;
        certain = sync_certain state possible (Unit {0}) G c e slot tt full_held told_c
            (λ p now. let f = leaves.each (state c).moment p le (omega arith) now in inr (f.other_same ∙ sym other_is, f.beside))
            g3 told3 durable;
        beside = refl;
        other_same = other_is;
        there = full_there;
      }

-- ---- the whole turn

pub head_split : (xs : List ℕ) → get_or xs 0 0 ≡ 1 → (rest : List ℕ) × (xs ≡ 1 ∷ rest)
head_split [] e = absurd (omega arith)
head_split (x ∷ xs) e = (xs, ap (λ (n : ℕ). n ∷ xs) e)

pub is_one : (P : Type 0) (n : ℕ) → (n ≡ 1 → P) → (n ≢ 1 → P) → P
is_one P n yes-one not-one = elim (eqb n 1) as (λ b. eqb n 1 ≡ b → P) [ true ↦ λ e. yes-one (eqb-true n 1 e) | false ↦ λ e. not-one (eqb-false n 1 e) ] refl

-- a slot with another byte first
closed_at : (xs : List ℕ) (n : ℕ) (rest : List ℕ) → xs ≡ n ∷ rest → n ≢ 1 → IsClosed xs
closed_at xs n rest is none = rw is (record { some = omega arith; dead = none })

module _ (t : Slot) (bytes : List ℕ) (o : Held) (dead : get_or (slot_of t o.slots) 0 0 ≢ 1) where
  pub turn_filling : (p : Held) → Filling t o p → MidTurn t bytes o p
  turn_filling p f = record { beside = f.beside; there = inl (record { some = f.some; dead = λ e. dead (sym f.first_same ∙ e) }, f.other_same) }

  module _ (n : Held) (beside : n.history ≡ o.history) (other_same : slot_of (other t) n.slots ≡ slot_of (other t) o.slots) (there : slot_of t n.slots ≡ get_or (slot_of t o.slots) 0 0 ∷ bytes) where
    pub turn_opening : (p : Held) → (p ≡ n) ⊎ Changes t (Torn 0 1) n p → MidTurn t bytes o p
    turn_opening p (inl e) =
        let same : slot_of t p.slots ≡ get_or (slot_of t o.slots) 0 0 ∷ bytes = ap (λ (h : Held). slot_of t h.slots) e ∙ there in
        record {
          beside = ap (λ (h : Held). h.history) e ∙ beside;
          there = inl (closed_at (slot_of t p.slots) (get_or (slot_of t o.slots) 0 0) bytes same dead, ap (λ (h : Held). slot_of (other t) h.slots) e ∙ other_same);
        }
    turn_opening p (inr c) =
        let torn : Torn 0 1 (get_or (slot_of t o.slots) 0 0 ∷ bytes) (slot_of t p.slots) = subst (λ (l : List ℕ). Torn 0 1 l (slot_of t p.slots)) there c.there in
        let is : slot_of t p.slots ≡ get_or (slot_of t p.slots) 0 0 ∷ bytes = torn_gate [] (get_or (slot_of t o.slots) 0 0) bytes (slot_of t p.slots) torn in
        let others : slot_of (other t) p.slots ≡ slot_of (other t) o.slots = other_stays t (Torn 0 1) n p c ∙ other_same in
        is_one (MidTurn t bytes o p) (get_or (slot_of t p.slots) 0 0)
        (λ one. record { beside = c.beside ∙ beside; there = inr (is ∙ ap (λ (x : ℕ). x ∷ bytes) one, inl others) })
        (λ none. record { beside = c.beside ∙ beside; there = inl (closed_at (slot_of t p.slots) (get_or (slot_of t p.slots) 0 0) bytes is none, others) })

    abbrev pub opened_held : Held
    opened_held = with_bytes t (patched 0 (1 ∷ []) (slot_of t n.slots)) n

    pub opened_there : slot_of t opened_held.slots ≡ 1 ∷ bytes
    opened_there = slot_with t (patched 0 (1 ∷ []) (slot_of t n.slots)) n.slots ∙ ap (λ (l : List ℕ). patched 0 (1 ∷ []) l) there ∙ put_gate [] (get_or (slot_of t o.slots) 0 0) bytes 1

    pub opened_other : slot_of (other t) opened_held.slots ≡ slot_of (other t) o.slots
    opened_other = other_with t (patched 0 (1 ∷ []) (slot_of t n.slots)) n.slots ∙ other_same

    pub has_begun : {D : Type 0} (state : D → SiteState) (possible : D → ℕ → Held → Type 0) (d : D) → Certain state possible d opened_held → HasBegun state possible d t bytes o
    has_begun state possible d h = record { now = opened_held; certain = h; beside = beside; other_same = opened_other; there = opened_there }

-- the target is live, and the other slot is closed
module _ (t : Slot) (bytes : List ℕ) (o : Held) (live : get_or (slot_of (other t) o.slots) 0 0 ≡ 1) (n : Held) (beside : n.history ≡ o.history) (other_same : slot_of (other t) n.slots ≡ slot_of (other t) o.slots) (there : slot_of t n.slots ≡ 1 ∷ bytes) where
  pub turn_closing : (p : Held) → (p ≡ n) ⊎ Changes (other t) (Torn 0 1) n p → MidTurn t bytes o p
  turn_closing p (inl e) = record {
    beside = ap (λ (h : Held). h.history) e ∙ beside;
    there = inr (ap (λ (h : Held). slot_of t h.slots) e ∙ there, inl (ap (λ (h : Held). slot_of (other t) h.slots) e ∙ other_same));
  }
  turn_closing p (inr c) =
      let split = head_split (slot_of (other t) o.slots) live in
      let mine : slot_of t p.slots ≡ slot_of t n.slots = subst (λ (s : Slot). slot_of s p.slots ≡ slot_of s n.slots) (other_other t) (other_stays (other t) (Torn 0 1) n p c) in
      let torn : Torn 0 1 (1 ∷ split.0) (slot_of (other t) p.slots) = subst (λ (l : List ℕ). Torn 0 1 l (slot_of (other t) p.slots)) (other_same ∙ split.1) c.there in
      let is : slot_of (other t) p.slots ≡ get_or (slot_of (other t) p.slots) 0 0 ∷ split.0 = torn_gate [] 1 split.0 (slot_of (other t) p.slots) torn in
      is_one (MidTurn t bytes o p) (get_or (slot_of (other t) p.slots) 0 0)
      (λ one. record { beside = c.beside ∙ beside; there = inr (mine ∙ there, inl (is ∙ ap (λ (x : ℕ). x ∷ split.0) one ∙ sym split.1)) })
      (λ none. record { beside = c.beside ∙ beside; there = inr (mine ∙ there, inr (closed_at (slot_of (other t) p.slots) (get_or (slot_of (other t) p.slots) 0 0) split.0 is none)) })

  abbrev pub last_held : Held
  last_held = with_bytes (other t) (patched 0 (0 ∷ []) (slot_of (other t) n.slots)) n

  pub is_turned : {D : Type 0} (state : D → SiteState) (possible : D → ℕ → Held → Type 0) (d : D) → Certain state possible d last_held → Turned state possible d t bytes o
  is_turned state possible d h =
      let split = head_split (slot_of (other t) o.slots) live in
      record {
        now = last_held;
        certain = h;
        beside = beside;
        there = subst (λ (s : Slot). slot_of s last_held.slots ≡ slot_of s n.slots) (other_other t) (other_with (other t) (patched 0 (0 ∷ []) (slot_of (other t) n.slots)) n.slots) ∙ there;
        old = (split.0, slot_with (other t) (patched 0 (0 ∷ []) (slot_of (other t) n.slots)) n.slots ∙ ap (λ (l : List ℕ). patched 0 (0 ∷ []) l) (other_same ∙ split.1) ∙ put_gate [] 1 split.0 0);
      }

module _ {D : Type 0} (state : D → SiteState) (possible : D → ℕ → Held → Type 0) (t : Slot) (bytes : List ℕ) (o : Held) where
  module _ (dead : get_or (slot_of t o.slots) 0 0 ≢ 1) where
    pub begin_first : (a b : D) → Leaves state possible a b (Filling t o) → Leaves state possible a b (MidTurn t bytes o)
    begin_first a b f = weaker state possible a b (Filling t o) (MidTurn t bytes o) (turn_filling t bytes o dead) f

    pub begin_second : (a b c : D) → Leaves state possible a b (Filling t o) → Filled state possible b t bytes o → PutCrash state possible t b c 0 (1 ∷ []) → Leaves state possible a c (MidTurn t bytes o)
    begin_second a b c f n crash =
        and_then state possible a b c (MidTurn t bytes o) (begin_first a b f)
        (weaker state possible b c (λ p. (p ≡ n.now) ⊎ Changes t (Torn 0 1) n.now p) (MidTurn t bytes o) (turn_opening t bytes o dead n.now n.beside n.other_same n.there) (crash n.now n.certain (omega arith)))

    pub begin_done : (b c : D) → Filled state possible b t bytes o → PutCertain state possible t b c 0 (1 ∷ []) → HasBegun state possible c t bytes o
    begin_done b c n certain = has_begun t bytes o dead n.now n.beside n.other_same n.there state possible c (certain n.now n.certain (omega arith))

  module _ (u : Slot) (u-is : u ≡ other t) (live : get_or (slot_of (other t) o.slots) 0 0 ≡ 1) where
    pub turn_crash : (a c e : D) → Leaves state possible a c (MidTurn t bytes o) → HasBegun state possible c t bytes o → PutCrash state possible u c e 0 (0 ∷ []) → Leaves state possible a e (MidTurn t bytes o)
    turn_crash a c e begun n crash =
        let crash' : PutCrash state possible (other t) c e 0 (0 ∷ []) = subst (λ (s : Slot). PutCrash state possible s c e 0 (0 ∷ [])) u-is crash in
        and_then state possible a c e (MidTurn t bytes o) begun
        (weaker state possible c e (λ p. (p ≡ n.now) ⊎ Changes (other t) (Torn 0 1) n.now p) (MidTurn t bytes o) (turn_closing t bytes o live n.now n.beside n.other_same n.there) (crash' n.now n.certain (omega arith)))

    pub turn_done : (c e : D) → HasBegun state possible c t bytes o → PutCertain state possible u c e 0 (0 ∷ []) → Turned state possible e t bytes o
    turn_done c e n certain =
        let certain' : PutCertain state possible (other t) c e 0 (0 ∷ []) = subst (λ (s : Slot). PutCertain state possible s c e 0 (0 ∷ [])) u-is certain in
        is_turned t bytes o live n.now n.beside n.other_same n.there state possible e (certain' n.now n.certain (omega arith))
