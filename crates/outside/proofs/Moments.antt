-- Moments of a disk: what a crash in several calls leaves.
use Rattle.std.proofs.Common.{◌≡◌, ℕ, ◌≤◌, ◌⊎◌, List, Option, Some, None, Ok, length, refl, ap, subst, ◌∙◌, arith, inl, inr}
use Rattle.std.proofs.lemmas.Bool.{cases_lt}
use Rattle.std.proofs.lemmas.Option.{same_Some}
use Rattle.table_state.specs.declared.history.Entry.{Entry}
use Rattle.outside.specs.declared.disk.Slot.{Slot}
use Rattle.outside.specs.declared.disk.Slot.TheVariants.{First, Second}
use Rattle.outside.specs.Holding.{Slots, Held, slot_of, other, with_slot}
use Rattle.outside.specs.Sites.{SiteState}
use Rattle.outside.specs.Calls.{Told, GoesOn, Stays, Same, Changes, Torn, Cut, MayWrite, MayCut, Durable, Certain, Leaves, Rests}

abbrev mk : Slots → List Entry → Held
mk s h = record { slots = s; history = h }

pub same_held : (p q : Held) → p.slots ≡ q.slots → p.history ≡ q.history → p ≡ q
same_held p q s h = ap (λ (x : Slots). mk x p.history) s ∙ ap (λ (x : List Entry). mk q.slots x) h

abbrev pub slots_from : List ℕ → List ℕ → Slots
slots_from a b = record { first = a; second = b }

slots_are : (p n : Held) → p.slots.first ≡ n.slots.first → p.slots.second ≡ n.slots.second → p.slots ≡ n.slots
slots_are p n a b = ap (λ (x : List ℕ). slots_from x p.slots.second) a ∙ ap (λ (x : List ℕ). slots_from n.slots.first x) b

-- both slots are the same
both : (slot : Slot) (p n : Held) → slot_of slot p.slots ≡ slot_of slot n.slots → slot_of (other slot) p.slots ≡ slot_of (other slot) n.slots → p.slots ≡ n.slots
both First p n a b = slots_are p n a b
both Second p n a b = slots_are p n b a

pub slot_with : (slot : Slot) (bytes : List ℕ) (slots : Slots) → slot_of slot (with_slot slot bytes slots) ≡ bytes
slot_with First bytes slots = refl
slot_with Second bytes slots = refl

pub other_with : (slot : Slot) (bytes : List ℕ) (slots : Slots) → slot_of (other slot) (with_slot slot bytes slots) ≡ slot_of (other slot) slots
other_with First bytes slots = refl
other_with Second bytes slots = refl

-- the slot that a change leaves
pub other_stays : (slot : Slot) (step : List ℕ → List ℕ → Type 0) (o p : Held) → Changes slot step o p → slot_of (other slot) p.slots ≡ slot_of (other slot) o.slots
other_stays slot step o p c = ap (λ (s : Slots). slot_of (other slot) s) c.elsewhere ∙ other_with slot (slot_of slot p.slots) o.slots

pub told_then : (old new : Option Held) (step : Held → Held → Type 0) (o : Held) → old ≡ Some o → Told old new step → (n : Held) × (new ≡ Some n) × step o n
told_then None new step o e t = absurd cc
told_then (Some old) None step o e t = absurd t
told_then (Some old) (Some new) step o e t = (new, refl, subst (λ (x : Held). step x new) (same_Some old o e) t)

module _ {D : Type 0} (state : D → SiteState) (possible : D → ℕ → Held → Type 0) where
  pub one_call : (old new : D) (step : Held → Held → Type 0) (P : Held → Type 0) → GoesOn state possible old new step
      → ((q : Held) → possible old (state old).moment q → P q) → ((q p : Held) → possible old (state old).moment q → step q p → P p) → Leaves state possible old new P
  one_call old new step P g before by_step = record {
    later = g.later;
    past = g.past;
    kept = g.kept;
    each = λ k p lo hi h. elim (cases_lt (state old).moment k) [
      | inl lt ↦ let s = g.since k p lt hi h in by_step s.0 p s.1 s.2
      | inr le ↦ let same : k ≡ (state old).moment = omega arith in before p (subst (λ (m : ℕ). possible old m p) same (g.past k p le h))
    ];
  }

  pub and_then : (a b c : D) (P : Held → Type 0) → Leaves state possible a b P → Leaves state possible b c P → Leaves state possible a c P
  and_then a b c P f g =
      let ab : (state a).moment ≤ (state b).moment = f.later in
      let bc : (state b).moment ≤ (state c).moment = g.later in
      record {
        later = omega arith;
        past = λ k p le h. f.past k p le (g.past k p (omega arith) h);
        kept = λ k p le h. g.kept k p (omega arith) (f.kept k p le h);
        each = λ k p lo hi h. elim (cases_lt (state b).moment k) [
          | inl lt ↦ g.each k p (omega arith) hi h
          | inr le ↦ f.each k p lo le (g.past k p le h)
        ];
      }

  pub weaker : (a b : D) (P Q : Held → Type 0) → ((p : Held) → P p → Q p) → Leaves state possible a b P → Leaves state possible a b Q
  weaker a b P Q w f = record { later = f.later; past = f.past; kept = f.kept; each = λ k p lo hi h. w p (f.each k p lo hi h) }

  pub at_once : (a : D) (P : Held → Type 0) → ((p : Held) → possible a (state a).moment p → P p) → Leaves state possible a a P
  at_once a P f = record {
    later = omega arith;
    past = λ k p le h. h;
    kept = λ k p le h. h;
    each = λ k p lo hi h. let same : k ≡ (state a).moment = omega arith in f p (subst (λ (m : ℕ). possible a m p) same h);
  }

  -- a pair that is possible behind a call was so before, or came by its step
  pub now_came : (old new : D) (step : Held → Held → Type 0) (p : Held) → GoesOn state possible old new step → possible new (state new).moment p
      → possible old (state old).moment p ⊎ ((q : Held) × possible old (state old).moment q × step q p)
  now_came old new step p g h =
      let le : (state old).moment ≤ (state new).moment = g.later in
      elim (cases_lt (state old).moment (state new).moment) [
        | inl lt ↦ let s = g.since (state new).moment p lt (omega arith) h in inr (s.0, s.1, s.2)
        | inr ge ↦ let same : (state new).moment ≡ (state old).moment = omega arith in inl (subst (λ (m : ℕ). possible old m p) same (g.past (state new).moment p ge h))
      ]

  pub stays_now : (old new : D) (p : Held) → GoesOn state possible old new Stays → possible new (state new).moment p → possible old (state old).moment p
  stays_now old new p g h = elim (now_came old new Stays p g h) [
    | inl before ↦ before
    | inr s ↦ rw s.2 s.1
  ]

  -- a call that changes nothing
  pub then_stays : (a b c : D) (P : Held → Type 0) → Leaves state possible a b P → GoesOn state possible b c Stays → Leaves state possible a c P
  then_stays a b c P f g =
      let le : (state a).moment ≤ (state b).moment = f.later in
      and_then a b c P f (one_call b c Stays P g (λ q h. f.each (state b).moment q le (omega arith) h) (λ q p h s. rw s (f.each (state b).moment q le (omega arith) h)))

  pub rests : (a b : D) (step : Held → Held → Type 0) → ((x y : Held) → step x y → y ≡ x) → Told (state a).held (state b).held step → GoesOn state possible a b Stays → Rests state possible a b
  rests a b step same told g o c =
      let n = told_then (state a).held (state b).held step o c.told told in (
        record { told = n.1 ∙ ap (λ (h : Held). Some h) (same o n.0 n.2); only = λ p h. c.only p (stays_now a b p g h) },
        one_call a b Stays (λ p. p ≡ o) g (λ q h. c.only q h) (λ q p h s. s ∙ c.only q h),
      )

  pub rests_at_once : (a : D) → Rests state possible a a
  rests_at_once a o c = (c, at_once a (λ p. p ≡ o) (λ p h. c.only p h))

  pub rests_then : (a b c : D) → Rests state possible a b → Rests state possible b c → Rests state possible a c
  rests_then a b c f g o h =
      let x = f o h in
      let y = g o x.0 in
      (y.0, and_then a b c (λ p. p ≡ o) x.1 y.1)

  -- what is written by one call, whatever it answers
  pub write_leaves : (a b : D) (slot : Slot) (at : ℕ) (bytes : List ℕ) (o : Held) → Certain state possible a o → at ≤ length (slot_of slot o.slots)
      → GoesOn state possible a b (MayWrite (state a).held slot at bytes) → Leaves state possible a b (λ p. (p ≡ o) ⊎ Changes slot (Torn at (length bytes)) o p)
  write_leaves a b slot at bytes o c within g =
      one_call a b (MayWrite (state a).held slot at bytes) (λ p. (p ≡ o) ⊎ Changes slot (Torn at (length bytes)) o p) g
      (λ q h. inl (c.only q h))
      (λ q p h s.
      let told : MayWrite (Some o) slot at bytes q p = subst (λ (x : Option Held). MayWrite x slot at bytes q p) c.told s in
      inr (subst (λ (x : Held). Changes slot (Torn at (length bytes)) x p) (c.only q h) (told within)))

  pub cut_leaves : (a b : D) (slot : Slot) (n : ℕ) (o : Held) → Certain state possible a o → n ≤ length (slot_of slot o.slots)
      → GoesOn state possible a b (MayCut (state a).held slot n) → Leaves state possible a b (λ p. (p ≡ o) ⊎ Changes slot (Cut n) o p)
  cut_leaves a b slot n o c within g =
      one_call a b (MayCut (state a).held slot n) (λ p. (p ≡ o) ⊎ Changes slot (Cut n) o p) g
      (λ q h. inl (c.only q h))
      (λ q p h s.
      let told : MayCut (Some o) slot n q p = subst (λ (x : Option Held). MayCut x slot n q p) c.told s in
      inr (subst (λ (x : Held). Changes slot (Cut n) x p) (c.only q h) (told within)))

  -- a sync of a slot of which alone the images differ makes the disk certain
  pub sync_certain : (T E : Type 0) (b c : D) (slot : Slot) (done : T) (n : Held) → (state b).held ≡ Some n → ((p : Held) → possible b (state b).moment p → (p ≡ n) ⊎ ((slot_of (other slot) p.slots ≡ slot_of (other slot) n.slots) × (p.history ≡ n.history)))
      → GoesOn state possible b c Stays → Told (state b).held (state c).held Same → Durable {T = T} {E = E} (state b).held slot (Ok done) (possible c (state c).moment) → Certain state possible c n
  sync_certain T E b c slot done n told images g same durable =
      let m = told_then (state b).held (state c).held Same n told same in
      let here : (p : Held) → possible c (state c).moment p → slot_of slot p.slots ≡ slot_of slot n.slots =
      subst (λ (x : Option Held). Durable {T = T} {E = E} x slot (Ok done) (possible c (state c).moment)) told durable in
      record {
        told = m.1 ∙ ap (λ (h : Held). Some h) m.2;
        only = λ p h. elim (images p (stays_now b c p g h)) [
          | inl e ↦ e
          | inr e ↦ same_held p n (both slot p n (here p h) e.0) e.1
        ];
      }
