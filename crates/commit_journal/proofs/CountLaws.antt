-- The slot that counts.
use Rattle.std.proofs.Common.{◌≡◌, ℕ, ◌≤◌, ◌<◌, List, [], length, drop, refl, sym, ap, subst, ◌∙◌, arith, Option, None}
use Rattle.outside.specs.declared.disk.Slot.{Slot}
use Rattle.outside.specs.declared.disk.Slot.TheVariants.{First, Second}
use Rattle.outside.specs.Holding.{Slots, slot_of, other}
use Rattle.journal_entries.specs.Bodies.{beginning}
use Rattle.commit_journal.specs.declared.head.Head.{Head}
use Rattle.commit_journal.specs.declared.head.Head.TheVariants.{Dead, Faulty, Live}
use Rattle.commit_journal.specs.Layout.{Batches, Beats, counts, faulty, HaveBytes, head_of, new, Outcome, place_of, Placed, Reads}

-- both slots have bytes
pub have_both : (slot : Slot) (slots : Slots) → 1 ≤ length (slot_of slot slots) → 1 ≤ length (slot_of (other slot) slots) → HaveBytes slots
have_both First slots mine theirs = record { first = mine; second = theirs }
have_both Second slots mine theirs = record { first = theirs; second = mine }

pub some_in : (slot : Slot) (slots : Slots) → HaveBytes slots → 1 ≤ length (slot_of slot slots)
some_in First slots have = have.first
some_in Second slots have = have.second

pub dead_at : (slots : Slots) → head_of slots.first ≡ Dead → head_of slots.second ≡ Dead → (slot : Slot) → head_of (slot_of slot slots) ≡ Dead
dead_at slots a b First = a
dead_at slots a b Second = b

pub no_faulty : (h : Head) (p : ℕ) → h ≡ Dead → h ≡ Faulty p → ⊥
no_faulty h p a b = let z : ◌≡◌ {A = Head} Dead (Faulty p) = sym a ∙ b in absurd cc

no_live : (h : Head) (v g : ℕ) → h ≡ Dead → h ≡ Live v g → ⊥
no_live h v g a b = let z : ◌≡◌ {A = Head} Dead (Live v g) = sym a ∙ b in absurd cc

-- where no slot is live nothing is read
pub reads_none : {slots : Slots} {entries : List Placed} {damaged : Option (Slot × ℕ)} → Reads slots entries damaged → head_of slots.first ≡ Dead → head_of slots.second ≡ Dead → (entries ≡ []) × (damaged ≡ None)
reads_none (new a b) first second = (refl, refl)
reads_none {slots} (faulty slot place h is) first second = absurd (no_faulty (head_of (slot_of slot slots)) place (dead_at slots first second slot) h)
reads_none {slots} (counts slot v g out h beats b) first second = absurd (no_live (head_of (slot_of slot slots)) v g (dead_at slots first second slot) h)

live_faulty : (P : Type 0) (h : Head) (v g p : ℕ) → h ≡ Live v g → h ≡ Faulty p → P
live_faulty P h v g p a b = let z : ◌≡◌ {A = Head} (Live v g) (Faulty p) = sym a ∙ b in absurd cc

live_dead : (P : Type 0) (h : Head) (v g : ℕ) → h ≡ Live v g → h ≡ Dead → P
live_dead P h v g a b = let z : ◌≡◌ {A = Head} (Live v g) Dead = sym a ∙ b in absurd cc

abbrev version_in : Head → ℕ → ℕ
version_in Dead d = d
version_in (Faulty p) d = d
version_in (Live v g) d = v

abbrev generation_in : Head → ℕ → ℕ
generation_in Dead d = d
generation_in (Faulty p) d = d
generation_in (Live v g) d = g

same_version : (h : Head) (v g v' g' : ℕ) → h ≡ Live v g → h ≡ Live v' g' → v' ≡ v
same_version h v g v' g' a b = ap (λ (x : Head). version_in x 0) (sym b ∙ a)

same_generation : (h : Head) (v g v' g' : ℕ) → h ≡ Live v g → h ≡ Live v' g' → g' ≡ g
same_generation h v g v' g' a b = ap (λ (x : Head). generation_in x 0) (sym b ∙ a)

-- what one slot gives
pub record Given (slots : Slots) (slot : Slot) (version : ℕ) (entries : List Placed) (damaged : Option (Slot × ℕ)) : Type 0 where
  pub outcome : Outcome
  pub batches : Batches version beginning 10 (drop 10 (slot_of slot slots)) entries outcome
  pub place : damaged ≡ place_of slot outcome

pub reads_counts : (slot : Slot) {slots : Slots} {entries : List Placed} {damaged : Option (Slot × ℕ)} (v g : ℕ) (h : Head) → head_of (slot_of slot slots) ≡ Live v g → head_of (slot_of (other slot) slots) ≡ h → Beats slot g h → Reads slots entries damaged
    → Given slots slot v entries damaged
reads_counts First {slots} {entries} {damaged} v g h mine their wins (new a b) = live_dead (Given slots First v entries damaged) (head_of slots.first) v g mine a
reads_counts Second {slots} {entries} {damaged} v g h mine their wins (new a b) = live_dead (Given slots Second v entries damaged) (head_of slots.second) v g mine b
reads_counts First {slots} {entries} {damaged} v g h mine their wins (faulty First p f is) = live_faulty (Given slots First v entries damaged) (head_of slots.first) v g p mine f
reads_counts First {slots} {entries} {damaged} v g h mine their wins (faulty Second p f is) = absurd (subst (λ (x : Head). Beats First g x) (sym their ∙ f) wins)
reads_counts Second {slots} {entries} {damaged} v g h mine their wins (faulty First p f is) = absurd (subst (λ (x : Head). Beats Second g x) (sym their ∙ f) wins)
reads_counts Second {slots} {entries} {damaged} v g h mine their wins (faulty Second p f is) = live_faulty (Given slots Second v entries damaged) (head_of slots.second) v g p mine f
reads_counts First {slots} {entries} v g h mine their wins (counts First v' g' out f beats b) =
    record { outcome = out; batches = subst (λ (x : ℕ). Batches x beginning 10 (drop 10 slots.first) entries out) (same_version (head_of slots.first) v g v' g' mine f) b; place = refl }
reads_counts First {slots} v g h mine their wins (counts Second v' g' out f beats b) =
    let one : g' ≤ g = subst (λ (x : Head). Beats First g x) (sym their ∙ f) wins in
    let two : g < g' = subst (λ (x : Head). Beats Second g' x) mine beats in
    absurd (omega arith)
reads_counts Second {slots} v g h mine their wins (counts First v' g' out f beats b) =
    let one : g' < g = subst (λ (x : Head). Beats Second g x) (sym their ∙ f) wins in
    let two : g ≤ g' = subst (λ (x : Head). Beats First g' x) mine beats in
    absurd (omega arith)
reads_counts Second {slots} {entries} v g h mine their wins (counts Second v' g' out f beats b) =
    record { outcome = out; batches = subst (λ (x : ℕ). Batches x beginning 10 (drop 10 slots.second) entries out) (same_version (head_of slots.second) v g v' g' mine f) b; place = refl }

pub given_reads : (slot : Slot) (slots : Slots) (entries : List Placed) (damaged : Option (Slot × ℕ)) (v g : ℕ) → head_of (slot_of slot slots) ≡ Live v g → Beats slot g (head_of (slot_of (other slot) slots)) → Given slots slot v entries damaged → Reads slots entries damaged
given_reads slot slots entries damaged v g mine beats x = subst (λ (d : Option (Slot × ℕ)). Reads slots entries d) (sym x.place) (counts slot v g x.outcome mine beats x.batches)

pub given_same : (slot : Slot) (a b : Slots) (v : ℕ) (entries : List Placed) (damaged : Option (Slot × ℕ)) → slot_of slot b ≡ slot_of slot a → Given a slot v entries damaged → Given b slot v entries damaged
given_same slot a b v entries damaged same x = record { outcome = x.outcome; batches = subst (λ (l : List ℕ). Batches v beginning 10 (drop 10 l) entries x.outcome) (sym same) x.batches; place = x.place }
