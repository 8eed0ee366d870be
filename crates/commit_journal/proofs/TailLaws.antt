-- Noting an entry, and flushing the tail.
use Rattle.std.proofs.Common.{◌≡◌, ◌≢◌, ℕ, ◌+◌, ◌-◌, ◌≤◌, ◌^◌, ◌⊎◌, true, false, eqb, List, [], ◌∷◌, ◌++◌, length, drop, refl, sym, ap, subst, ◌∙◌, append_assoc, arith, inl, inr}
use Rattle.std.specs.Int.{w32, to_be_bytes}
use Rattle.std.specs.List.{flat_map}
use Rattle.std.proofs.lemmas.Bool.{eqb-true, eqb-false}
use Rattle.std.proofs.lemmas.List.{length-append, length-drop, append-nil, map-append, flat_map_more, drop_all, map_push, drop-append-le}
use Rattle.outside.specs.declared.disk.Slot.{Slot}
use Rattle.outside.specs.declared.disk.Slot.TheVariants.{First, Second}
use Rattle.outside.specs.Holding.{Slots, Held, slot_of, other}
use Rattle.outside.specs.Sites.{SiteState}
use Rattle.outside.specs.Calls.{Certain, Leaves}
use Rattle.outside.proofs.Moments.{at_once, weaker}
use Rattle.journal_entries.specs.declared.entry.Entry.{Entry}
use Rattle.journal_entries.specs.declared.standing.Standing.{Standing}
use Rattle.journal_entries.specs.declared.standing.Ending.{Ending}
use Rattle.journal_entries.specs.declared.standing.Ending.TheVariants.{Whole, Stops}
use Rattle.journal_entries.specs.Spelling.{entry_bytes, IsEntry}
use Rattle.journal_entries.specs.Bodies.{Body, ends, stops, goes, behind, follows}
use Rattle.journal_entries.proofs.BodyLaws.{some_bytes}
use Rattle.commit_journal.specs.declared.journal.Journal.{Journal}
use Rattle.commit_journal.specs.Layout.{Placed, entries_of, head_of, Gives, HaveBytes}
use Rattle.commit_journal.specs.Resting.{IsFront, AtRest, HasRoom, MidFlush, Rested}
use Rattle.commit_journal.specs.Batching.{MidBatch, HasBatch}
use Rattle.commit_journal.proofs.FrontLaws.{batch_of, front_more, front_gives}

abbrev standing_of : Ending → Standing → Standing
standing_of (Whole x) d = x
standing_of (Stops p) d = d

-- one entry more at the end of a body
pub body_push : (version : ℕ) {s : Standing} {place : ℕ} {bytes : List ℕ} {entries : List Placed} {ending : Ending} (t : Standing) (e : Entry) → Body version s place bytes entries ending → ending ≡ Whole t → IsEntry version e → follows t e ≡ true
    → Body version s place (bytes ++ entry_bytes e) (entries ++ (place + length bytes, e) ∷ []) (Whole (behind t e))
body_push version {s} {place} t e ends whole is allowed =
    let same : s ≡ t = ap (λ (x : Ending). standing_of x s) whole in
    let here : place + 0 ≡ place = omega arith in
    let end : Body version (behind s e) (place + length (entry_bytes e)) [] [] (Whole (behind s e)) = ends in
    let allowed' : follows s e ≡ true = subst (λ (x : Standing). follows x e ≡ true) (sym same) allowed in
    let one : Body version s place (entry_bytes e) ((place, e) ∷ []) (Whole (behind s e)) = goes e [] is allowed' (sym (append-nil (entry_bytes e))) end in
    subst (λ (n : ℕ). Body version s place (entry_bytes e) ((n, e) ∷ []) (Whole (behind t e))) (sym here) (subst (λ (x : Standing). Body version s place (entry_bytes e) ((place, e) ∷ []) (Whole (behind x e))) same one)
body_push version t e (stops some none) whole is allowed = absurd cc
body_push version {s} {place} {bytes} t e (goes f rest is-f allowed-f same b) whole is allowed =
    let more = body_push version t e b whole is allowed in
    let size : length bytes ≡ length (entry_bytes f) + length rest = ap length same ∙ length-append (entry_bytes f) rest in
    let here : place + length (entry_bytes f) + length rest ≡ place + length bytes = omega arith in
    let same' : bytes ++ entry_bytes e ≡ entry_bytes f ++ (rest ++ entry_bytes e) = ap (λ (l : List ℕ). l ++ entry_bytes e) same ∙ append_assoc (entry_bytes f) rest (entry_bytes e) in
    rw (← here) (goes f (rest ++ entry_bytes e) is-f allowed-f same' more)

module _ (j j' : Journal) (slots : Slots) (flushed tail : List Entry) (e : Entry) (r : AtRest j slots flushed tail) where
  pub noted : IsEntry j.version e → follows j.standing e ≡ true → HasRoom j (length (entry_bytes e)) → j'.slot ≡ j.slot → j'.version ≡ j.version → j'.generation ≡ j.generation → j'.gate ≡ j.gate
      → j'.standing ≡ behind j.standing e → j'.staged.items ≡ j.staged.items ++ entry_bytes e → 4 ≤ length j.staged.items → AtRest j' slots flushed (tail ++ e ∷ [])
  noted is allowed room slot version generation gate standing staged least =
      let body : flat_map entry_bytes (tail ++ e ∷ []) ≡ flat_map entry_bytes tail ++ entry_bytes e = sym (flat_map_more entry_bytes [] tail e) in
      let size : length (flat_map entry_bytes (tail ++ e ∷ [])) ≡ length (flat_map entry_bytes tail) + length (entry_bytes e) = ap length body ∙ length-append (flat_map entry_bytes tail) (entry_bytes e) in
      let had : length (flat_map entry_bytes tail) ≡ length j.staged.items - 4 = sym (ap length r.staged) ∙ length-drop 4 j.staged.items in
      let batch : length j.staged.items + length (entry_bytes e) ≤ 2 ^ 24 + 4 = room.batch in
      let pushed = body_push j.version j.standing e r.tail_reads refl is allowed in
      record {
        front = r.front;
        gate = r.gate;
        junk = r.junk;
        placed = r.placed;
        before = r.before;
        tail_placed = r.tail_placed ++ (j.gate + 5 + length (flat_map entry_bytes tail), e) ∷ [];
        bytes = rw slot r.bytes;
        shut = r.shut;
        place = gate ∙ r.place;
        is_front = rw (version, generation) r.is_front;
        flushed_are = r.flushed_are;
        other_dead = rw slot r.other_dead;
        other_some = rw slot r.other_some;
        staged = ap (λ (l : List ℕ). drop 4 l) staged ∙ drop-append-le 4 j.staged.items (entry_bytes e) least ∙ ap (λ (l : List ℕ). l ++ entry_bytes e) r.staged ∙ sym body;
        small = omega arith;
        tail_reads = rw (version, gate, standing, body) pushed;
        tail_are = map_push (λ (p : Placed). p.1) r.tail_placed (j.gate + 5 + length (flat_map entry_bytes tail), e) ∙ ap (λ (l : List Entry). l ++ e ∷ []) r.tail_are;
      }

-- ---- flushing

zero_is : ◌≢◌ {A = ℕ} 0 1
zero_is e = absurd (omega arith)

-- no slot is without bytes
pub some_at : (front junk : List ℕ) (gate : ℕ) (slot : List ℕ) → slot ≡ front ++ gate ∷ junk → 1 ≤ length slot
some_at front junk gate slot is = subst (λ l. 1 ≤ length l) (sym is) (some_behind front)
  where
    some_behind : (front : List ℕ) → 1 ≤ length (front ++ gate ∷ junk)
    some_behind [] = omega arith
    some_behind (x ∷ front) = omega arith

pub bytes_of : (slot : Slot) (slots : Slots) → 1 ≤ length (slot_of slot slots) → 1 ≤ length (slot_of (other slot) slots) → HaveBytes slots
bytes_of First slots one more = record { first = one; second = more }
bytes_of Second slots one more = record { first = more; second = one }

pub rest_bytes : (j : Journal) (slots : Slots) (flushed tail : List Entry) → AtRest j slots flushed tail → HaveBytes slots
rest_bytes j slots flushed tail r = bytes_of j.slot slots (some_at r.front r.junk r.gate (slot_of j.slot slots) r.bytes) r.other_some

-- at rest the slots give what is flushed
pub rest_gives : (j : Journal) (slots : Slots) (flushed tail : List Entry) → AtRest j slots flushed tail → Gives slots flushed
rest_gives j slots flushed tail r =
    subst (λ (l : List Entry). Gives slots l) r.flushed_are
    (front_gives j.version j.generation r.front r.placed r.before r.is_front j.slot slots r.gate r.junk r.bytes r.shut r.other_dead)

module _ (j : Journal) (o : Held) (flushed tail : List Entry) (r : AtRest j o.slots flushed tail) (sealed : List ℕ) (is : sealed ≡ to_be_bytes w32 (length j.staged.items - 4) ++ (drop 4 j.staged.items ++ 0 ∷ [])) where
  abbrev body : List ℕ
  body = flat_map entry_bytes tail

  size_is : length j.staged.items - 4 ≡ length body
  size_is = sym (length-drop 4 j.staged.items) ∙ ap length r.staged

  sealed_is : sealed ≡ to_be_bytes w32 (length body) ++ (body ++ 0 ∷ [])
  sealed_is = is ∙ ap (λ (n : ℕ). to_be_bytes w32 n ++ (drop 4 j.staged.items ++ 0 ∷ [])) size_is ∙ ap (λ (l : List ℕ). to_be_bytes w32 (length body) ++ (l ++ 0 ∷ [])) r.staged

  pub sealed_length : length sealed ≡ length body + 5
  sealed_length = ap length sealed_is ∙ length-append (to_be_bytes w32 (length body)) (body ++ 0 ∷ []) ∙ omega (arith, length-append body (0 ∷ []))

  -- an open gate and the batch, and the next gate
  batch_there : (junk : List ℕ) → r.front ++ 1 ∷ (sealed ++ junk) ≡ (r.front ++ batch_of body) ++ 0 ∷ junk
  batch_there junk =
      let inside : (body ++ 0 ∷ []) ++ junk ≡ body ++ 0 ∷ junk = append_assoc body (0 ∷ []) junk in
      let all : sealed ++ junk ≡ to_be_bytes w32 (length body) ++ (body ++ 0 ∷ junk) =
      ap (λ (l : List ℕ). l ++ junk) sealed_is ∙ append_assoc (to_be_bytes w32 (length body)) (body ++ 0 ∷ []) junk ∙ ap (λ (l : List ℕ). to_be_bytes w32 (length body) ++ l) inside in
      ap (λ (l : List ℕ). r.front ++ 1 ∷ l) all ∙ ap (λ (l : List ℕ). r.front ++ 1 ∷ l) (sym (append_assoc (to_be_bytes w32 (length body)) body (0 ∷ junk))) ∙ sym (append_assoc r.front (batch_of body) (0 ∷ junk))

  reads : Body j.version r.before (length r.front + 5) body r.tail_placed (Whole j.standing)
  reads = subst (λ (n : ℕ). Body j.version r.before (n + 5) body r.tail_placed (Whole j.standing)) r.place r.tail_reads

  longer : IsFront j.version j.generation (r.front ++ batch_of body) (r.placed ++ r.tail_placed) j.standing
  longer = front_more j.version j.generation r.front r.placed r.before r.is_front body r.tail_placed j.standing r.small reads

  are : entries_of (r.placed ++ r.tail_placed) ≡ flushed ++ tail
  are = map-append (λ (p : Placed). p.1) r.placed r.tail_placed ∙ ap (λ (l : List Entry). l ++ entries_of r.tail_placed) r.flushed_are ∙ ap (λ (l : List Entry). flushed ++ l) r.tail_are

  shut_gives : (p : Held) (g : ℕ) (junk : List ℕ) → slot_of (other j.slot) p.slots ≡ slot_of (other j.slot) o.slots → slot_of j.slot p.slots ≡ r.front ++ g ∷ junk → g ≢ 1 → Gives p.slots flushed
  shut_gives p g junk same there shut =
      subst (λ (l : List Entry). Gives p.slots l) r.flushed_are
      (front_gives j.version j.generation r.front r.placed r.before r.is_front j.slot p.slots g junk there shut (ap (λ (l : List ℕ). head_of l) same ∙ r.other_dead))

  open_gives : (p : Held) (junk : List ℕ) → slot_of (other j.slot) p.slots ≡ slot_of (other j.slot) o.slots → slot_of j.slot p.slots ≡ r.front ++ 1 ∷ (sealed ++ junk) → Gives p.slots (flushed ++ tail)
  open_gives p junk same there =
      subst (λ (l : List Entry). Gives p.slots l) are
      (front_gives j.version j.generation (r.front ++ batch_of body) (r.placed ++ r.tail_placed) j.standing longer j.slot p.slots 0 junk (there ∙ batch_there junk) zero_is (ap (λ (l : List ℕ). head_of l) same ∙ r.other_dead))

  -- no slot is without bytes
  bytes_in : (p : Held) → MidBatch j.slot r.front r.gate sealed o p → HaveBytes p.slots
  bytes_in p m = bytes_of j.slot p.slots (live m.there) (subst (λ l. 1 ≤ length l) (sym m.other_same) r.other_some)
    where
      live : ((junk : List ℕ) × (slot_of j.slot p.slots ≡ r.front ++ r.gate ∷ junk)) ⊎ ((g : ℕ) × (junk : List ℕ) × (slot_of j.slot p.slots ≡ r.front ++ g ∷ (sealed ++ junk))) → 1 ≤ length (slot_of j.slot p.slots)
      live (inl h) = some_at r.front h.0 r.gate (slot_of j.slot p.slots) h.1
      live (inr h) = some_at r.front (sealed ++ h.1) h.0 (slot_of j.slot p.slots) h.2

  pub mid_flush : (p : Held) → MidBatch j.slot r.front r.gate sealed o p → MidFlush o flushed tail p
  mid_flush p m = record {
    beside = m.beside;
    bytes = bytes_in p m;
    gives = elim m.there [
      | inl h ↦ inl (shut_gives p r.gate h.0 m.other_same h.1 r.shut)
      | inr h ↦ elim (eqb h.0 1) as (λ b. eqb h.0 1 ≡ b → Gives p.slots flushed ⊎ Gives p.slots (flushed ++ tail)) [
        | true ↦ λ e. inr (open_gives p h.1 m.other_same (h.2 ∙ ap (λ (g : ℕ). r.front ++ g ∷ (sealed ++ h.1)) (eqb-true h.0 1 e)))
        | false ↦ λ e. inl (shut_gives p h.0 (sealed ++ h.1) m.other_same h.2 (eqb-false h.0 1 e))
      ] refl
    ];
  }

  pub is_flushed : {D : Type 0} (state : D → SiteState) (possible : D → ℕ → Held → Type 0) (d : D) (j' : Journal) → HasBatch state possible d j.slot r.front sealed o
      → j'.slot ≡ j.slot → j'.version ≡ j.version → j'.generation ≡ j.generation → j'.gate ≡ j.gate + length sealed → j'.standing ≡ j.standing → length j'.staged.items ≤ 4 → Rested state possible d j' o (flushed ++ tail) []
  is_flushed state possible d j' h slot version generation gate standing short = record {
    now = h.now;
    certain = h.certain;
    beside = h.beside;
    rest = record {
      front = r.front ++ batch_of body;
      gate = 0;
      junk = h.junk;
      placed = r.placed ++ r.tail_placed;
      before = j.standing;
      tail_placed = [];
      bytes = rw slot (h.there ∙ batch_there h.junk);
      shut = zero_is;
      place = gate ∙ ap (λ (n : ℕ). n + length sealed) r.place ∙ omega (arith, sealed_length, length-append r.front (batch_of body), length-append (to_be_bytes w32 (length body)) body);
      is_front = rw (version, generation) longer;
      flushed_are = are;
      other_dead = rw slot (ap (λ (l : List ℕ). head_of l) h.other_same ∙ r.other_dead);
      other_some = rw slot (subst (λ (l : List ℕ). 1 ≤ length l) (sym h.other_same) r.other_some);
      staged = drop_all 4 j'.staged.items short;
      small = omega arith;
      tail_reads = rw standing ends;
      tail_are = refl;
    };
  }

no_bytes : (tail : List Entry) → length (flat_map entry_bytes tail) ≡ 0 → tail ≡ []
no_bytes [] e = refl
no_bytes (x ∷ tail) e =
    let some : 1 ≤ length (entry_bytes x) = some_bytes x in
    let both : length (flat_map entry_bytes (x ∷ tail)) ≡ length (entry_bytes x) + length (flat_map entry_bytes tail) = length-append (entry_bytes x) (flat_map entry_bytes tail) in
    absurd (omega arith)

pub empty_tail : (j : Journal) (slots : Slots) (flushed tail : List Entry) → AtRest j slots flushed tail → length j.staged.items ≡ 4 → tail ≡ []
empty_tail j slots flushed tail r four = no_bytes tail (sym (ap length r.staged) ∙ length-drop 4 j.staged.items ∙ omega arith)

module _ {D : Type 0} (state : D → SiteState) (possible : D → ℕ → Held → Type 0) (a : D) (j : Journal) (o : Held) (flushed tail : List Entry) (h : Certain state possible a o) (r : AtRest j o.slots flushed tail) where
  pub quiet_crash : Leaves state possible a a (MidFlush o flushed tail)
  quiet_crash = at_once state possible a (MidFlush o flushed tail) (λ p here.
      let same : p ≡ o = h.only p here in
      record { beside = ap (λ (x : Held). x.history) same; bytes = rw same (rest_bytes j o.slots flushed tail r); gives = inl (rw same (rest_gives j o.slots flushed tail r)) })

  pub quiet_flushed : length j.staged.items ≡ 4 → Rested state possible a j o (flushed ++ tail) []
  quiet_flushed four =
      let none : tail ≡ [] = empty_tail j o.slots flushed tail r four in
      let r' : AtRest j o.slots flushed [] = subst (λ (l : List Entry). AtRest j o.slots flushed l) none r in
      let same : flushed ≡ flushed ++ tail = sym (append-nil flushed) ∙ ap (λ (l : List Entry). flushed ++ l) (sym none) in
      subst (λ (l : List Entry). Rested state possible a j o l []) same (record { now = o; certain = h; beside = refl; rest = r' })

  module _ (sealed : List ℕ) (is : sealed ≡ to_be_bytes w32 (length j.staged.items - 4) ++ (drop 4 j.staged.items ++ 0 ∷ [])) (b : D) where
    pub flush_crash : ((o : Held) (front junk : List ℕ) (g : ℕ) → Certain state possible a o → slot_of j.slot o.slots ≡ front ++ g ∷ junk → j.gate ≡ length front → Leaves state possible a b (MidBatch j.slot front g sealed o))
        → Leaves state possible a b (MidFlush o flushed tail)
    flush_crash crash = weaker state possible a b (MidBatch j.slot r.front r.gate sealed o) (MidFlush o flushed tail) (mid_flush j o flushed tail r sealed is) (crash o r.front r.junk r.gate h r.bytes r.place)

    pub flush_done : ((o : Held) (front junk : List ℕ) (g : ℕ) → Certain state possible a o → slot_of j.slot o.slots ≡ front ++ g ∷ junk → j.gate ≡ length front → HasBatch state possible b j.slot front sealed o)
        → (j' : Journal) → j'.slot ≡ j.slot → j'.version ≡ j.version → j'.generation ≡ j.generation → j'.gate ≡ j.gate + length sealed → j'.standing ≡ j.standing → length j'.staged.items ≤ 4
        → Rested state possible b j' o (flushed ++ tail) []
    flush_done batch j' slot version generation gate standing short =
        is_flushed j o flushed tail r sealed is state possible b j' (batch o r.front r.junk r.gate h r.bytes r.place) slot version generation gate standing short
