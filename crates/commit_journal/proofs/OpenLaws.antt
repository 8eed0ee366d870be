-- A slot that was read up to its closed gate is one at rest.
use Rattle.std.proofs.Common.{◌≡◌, ◌≢◌, ℕ, ◌+◌, ◌-◌, ◌≤◌, ◌<◌, ◌^◌, min, Bool, true, false, cond, eqb, ltb, List, [], ◌∷◌, ◌++◌, length, get_or, take, drop, refl, sym, ap, subst, ◌∙◌, append_assoc, arith, inl, inr}
use Rattle.std.specs.Int.{w32, w64, to_be_bytes, from_be_bytes}
use Rattle.std.proofs.lemmas.Bool.{le-ltb, lt-ltb, ltb-false, cases_lt}
use Rattle.std.proofs.lemmas.List.{length-append, length-take, take-append-drop, drop_at, take_at, drop_all, get_or-take, take-take, drop-take, take_min}
use Rattle.outside.specs.Holding.{Slots, slot_of, other}
use Rattle.journal_entries.specs.declared.standing.Standing.{Standing}
use Rattle.journal_entries.specs.Bodies.{beginning, ends}
use Rattle.commit_journal.specs.declared.head.Head.{Head}
use Rattle.commit_journal.specs.declared.head.Head.TheVariants.{Dead, Faulty, Live}
use Rattle.commit_journal.specs.declared.journal.Journal.{Journal}
use Rattle.commit_journal.specs.Layout.{Placed, entries_of, generation_of, live_head, head_of, Outcome, Closed, Damaged, IsBatch, Batches, closed, cut, broken, opened}
use Rattle.commit_journal.specs.Resting.{IsFront, AtRest}
use Rattle.commit_journal.proofs.FrontLaws.{batch_of, batches_some}

-- whole batches, a closed gate, and what may stand in its place
pub record Ends (version : ℕ) (s : Standing) (place : ℕ) (bytes : List ℕ) (entries : List Placed) (last : ℕ) (t : Standing) : Type 0 where
  pub front : List ℕ
  pub gate : ℕ
  pub junk : List ℕ
  pub bytes_are : bytes ≡ front ++ gate ∷ junk
  pub shut : gate ≢ 1
  pub last_is : last ≡ place + length front
  pub onward : (rest : List ℕ) (more : List Placed) (outcome : Outcome) → Batches version t last rest more outcome → Batches version s place (front ++ rest) (entries ++ more) outcome

abbrev place_in : Outcome → ℕ
place_in (Closed p t) = p
place_in (Damaged p) = p

abbrev standing_in : Outcome → Standing → Standing
standing_in (Closed p t) d = t
standing_in (Damaged p) d = d

pub ends_of : (version : ℕ) {s : Standing} {place : ℕ} {bytes : List ℕ} {entries : List Placed} {outcome : Outcome} (last : ℕ) (t : Standing) → Batches version s place bytes entries outcome → outcome ≡ Closed last t → Ends version s place bytes entries last t
ends_of version {s} {place} last t (closed gate junk is shut) e =
    let here : place ≡ last = ap place_in e in
    let same : s ≡ t = ap (λ (o : Outcome). standing_in o s) e in
    record {
      front = [];
      gate = gate;
      junk = junk;
      bytes_are = is;
      shut = shut;
      last_is = sym here ∙ omega arith;
      onward = λ rest more outcome b. subst (λ (p : ℕ). Batches version s p rest more outcome) (sym here) (subst (λ (x : Standing). Batches version x last rest more outcome) (sym same) b);
    }
ends_of version last t (cut rest is none) e = absurd cc
ends_of version last t (broken rest body more at is batch b) e = absurd cc
ends_of version {s} {place} {bytes} last t (opened rest body more u entries others is batch b bs) e =
    let so = ends_of version last t bs e in
    let size : length (batch_of body) ≡ 5 + length body = omega (arith, length-append (to_be_bytes w32 (length body)) body) in
    let whole : bytes ≡ (batch_of body ++ so.front) ++ so.gate ∷ so.junk =
    is ∙ ap (λ (l : List ℕ). 1 ∷ l) (batch.is ∙ sym (append_assoc (to_be_bytes w32 (length body)) body more)) ∙ ap (λ (l : List ℕ). batch_of body ++ l) so.bytes_are ∙ sym (append_assoc (batch_of body) so.front (so.gate ∷ so.junk)) in
    record {
      front = batch_of body ++ so.front;
      gate = so.gate;
      junk = so.junk;
      bytes_are = whole;
      shut = so.shut;
      last_is = so.last_is ∙ omega (arith, length-append (batch_of body) so.front);
      onward = λ rest' more' outcome b'.
          let behind = so.onward rest' more' outcome b' in
          let is' : IsBatch (to_be_bytes w32 (length body) ++ (body ++ (so.front ++ rest'))) body (so.front ++ rest') = record { is = refl; size = batch.size; gate = batches_some behind } in
          let bytes' : (batch_of body ++ so.front) ++ rest' ≡ 1 ∷ (to_be_bytes w32 (length body) ++ (body ++ (so.front ++ rest'))) =
          append_assoc (batch_of body) so.front rest' ∙ ap (λ (l : List ℕ). 1 ∷ l) (append_assoc (to_be_bytes w32 (length body)) body (so.front ++ rest')) in
          subst (λ (l : List Placed). Batches version s place ((batch_of body ++ so.front) ++ rest') l outcome) (sym (append_assoc entries others more'))
          (opened (to_be_bytes w32 (length body) ++ (body ++ (so.front ++ rest'))) body (so.front ++ rest') u entries (others ++ more') bytes' is' b behind);
    }

-- ---- the head lies in the first ten bytes, where there are eleven

abbrev chosen_head : Bool → Bool → Bool → Bool → ℕ → Head
chosen_head z a c d g = cond z (cond a (Faulty 1) (cond c (Live 2 g) (cond d (cond (eqb g (2 ^ 64 - 1)) (Faulty 2) (Live 1 g)) (Faulty 1)))) Dead

head_by : (a c d e : Bool) (g v h : ℕ) → cond a (Faulty 1) (cond c (Live 2 g) (cond d (cond e (Faulty 2) (Live 1 g)) (Faulty 1))) ≡ Live v h → a ≡ false
head_by true c d e g v h is = absurd cc
head_by false c d e g v h is = refl

live_by : (bytes : List ℕ) (b : Bool) (v g : ℕ) → cond b (live_head bytes) Dead ≡ Live v g → (b ≡ true) × (live_head bytes ≡ Live v g)
live_by bytes true v g h = (refl, h)
live_by bytes false v g h = absurd cc

pub live_long : (bytes : List ℕ) (v g : ℕ) → head_of bytes ≡ Live v g → 11 ≤ length bytes
unfolding head_of
live_long bytes v g h =
    let p = live_by bytes (eqb (get_or bytes 0 0) 1) v g h in
    ltb-false (length bytes) 11 (head_by (ltb (length bytes) 11) (eqb (get_or bytes 1 0) 2) (eqb (get_or bytes 1 0) 1) (eqb (generation_of bytes) (2 ^ 64 - 1)) (generation_of bytes) v g p.1)

same_at : (a b : List ℕ) (i : ℕ) → take 10 a ≡ take 10 b → i < 10 → get_or a i 0 ≡ get_or b i 0
same_at a b i same lt = sym (get_or-take 10 a i 0 lt) ∙ ap (λ (l : List ℕ). get_or l i 0) same ∙ get_or-take 10 b i 0 lt

generation_in : (a : List ℕ) → take 8 (drop 2 (take 10 a)) ≡ take 8 (drop 2 a)
generation_in a = ap (λ (l : List ℕ). take 8 l) (drop-take 2 8 a) ∙ take-take 8 8 (drop 2 a) (omega arith)

pub head_same : (a b : List ℕ) (v g : ℕ) → head_of a ≡ Live v g → take 10 a ≡ take 10 b → 11 ≤ length b → head_of b ≡ Live v g
unfolding head_of
head_same a b v g h same long =
    let long-a = live_long a v g h in
    let zero-is : get_or b 0 0 ≡ get_or a 0 0 = sym (same_at a b 0 same (omega arith)) in
    let one-is : get_or b 1 0 ≡ get_or a 1 0 = sym (same_at a b 1 same (omega arith)) in
    let gen-is : generation_of b ≡ generation_of a = ap (λ (l : List ℕ). from_be_bytes w64 l) (sym (generation_in b) ∙ ap (λ (l : List ℕ). take 8 (drop 2 l)) (sym same) ∙ generation_in a) in
    let short : ltb (length b) 11 ≡ ltb (length a) 11 = le-ltb (length b) 11 long ∙ sym (le-ltb (length a) 11 long-a) in
    let whole : head_of b ≡ head_of a =
    ap (λ (x : ℕ). chosen_head (eqb x 1) (ltb (length b) 11) (eqb (get_or b 1 0) 2) (eqb (get_or b 1 0) 1) (generation_of b)) zero-is
    ∙ ap (λ (x : Bool). chosen_head (eqb (get_or a 0 0) 1) x (eqb (get_or b 1 0) 2) (eqb (get_or b 1 0) 1) (generation_of b)) short
    ∙ ap (λ (x : ℕ). chosen_head (eqb (get_or a 0 0) 1) (ltb (length a) 11) (eqb x 2) (eqb x 1) (generation_of b)) one-is
    ∙ ap (λ (x : ℕ). chosen_head (eqb (get_or a 0 0) 1) (ltb (length a) 11) (eqb (get_or a 1 0) 2) (eqb (get_or a 1 0) 1) x) gen-is in
    whole ∙ h

module _ (version generation : ℕ) (bytes : List ℕ) (entries : List Placed) (last : ℕ) (t : Standing) (h : head_of bytes ≡ Live version generation) (b : Batches version beginning 10 (drop 10 bytes) entries (Closed last t)) where
  pub so : Ends version beginning 10 (drop 10 bytes) entries last t
  so = ends_of version last t b refl

  abbrev pub whole_front : List ℕ
  whole_front = take 10 bytes ++ so.front

  ten : length (take 10 bytes) ≡ 10
  ten = let long = live_long bytes version generation h in length-take 10 bytes ∙ omega arith

  pub whole_bytes : bytes ≡ whole_front ++ so.gate ∷ so.junk
  whole_bytes = sym (take-append-drop 10 bytes) ∙ ap (λ (l : List ℕ). take 10 bytes ++ l) so.bytes_are ∙ sym (append_assoc (take 10 bytes) so.front (so.gate ∷ so.junk))

  pub whole_place : last ≡ length whole_front
  whole_place = so.last_is ∙ omega (arith, length-append (take 10 bytes) so.front, ten)

  pub whole_is_front : IsFront version generation whole_front entries t
  whole_is_front = record {
    head = λ rest some.
        let front : take 10 bytes ≡ take 10 (whole_front ++ rest) = sym (ap (λ (l : List ℕ). take 10 l) (append_assoc (take 10 bytes) so.front rest) ∙ take_at (take 10 bytes) (so.front ++ rest) 10 ten) in
        head_same bytes (whole_front ++ rest) version generation h front (omega (arith, length-append whole_front rest, length-append (take 10 bytes) so.front, ten));
    onward = λ rest more outcome bs.
        let behind = so.onward rest more outcome (subst (λ (n : ℕ). Batches version t n rest more outcome) (sym whole_place) bs) in
        let drop-is : drop 10 (whole_front ++ rest) ≡ so.front ++ rest = ap (λ (l : List ℕ). drop 10 l) (append_assoc (take 10 bytes) so.front rest) ∙ drop_at (take 10 bytes) (so.front ++ rest) 10 ten in
        subst (λ (l : List ℕ). Batches version beginning 10 l (entries ++ more) outcome) (sym drop-is) behind;
  }

  pub rested : (j : Journal) (slots : Slots) → slot_of j.slot slots ≡ bytes → head_of (slot_of (other j.slot) slots) ≡ Dead → 1 ≤ length (slot_of (other j.slot) slots) → j.version ≡ version → j.generation ≡ generation → j.gate ≡ last → j.standing ≡ t → length j.staged.items ≤ 4
      → AtRest j slots (entries_of entries) []
  rested j slots there dead some version-is generation-is gate standing short = record {
    front = whole_front;
    gate = so.gate;
    junk = so.junk;
    placed = entries;
    before = t;
    tail_placed = [];
    bytes = there ∙ whole_bytes;
    shut = so.shut;
    place = gate ∙ whole_place;
    is_front = rw (version-is, generation-is) whole_is_front;
    flushed_are = refl;
    other_dead = dead;
    other_some = some;
    staged = drop_all 4 j.staged.items short;
    small = omega arith;
    tail_reads = rw standing ends;
    tail_are = refl;
  }

-- eleven bytes are enough for the head
pub head_take : (bytes : List ℕ) → head_of (take 11 bytes) ≡ head_of bytes
unfolding head_of
head_take bytes =
    let a = take 11 bytes in
    let zero-is : get_or a 0 0 ≡ get_or bytes 0 0 = get_or-take 11 bytes 0 0 (omega arith) in
    let one-is : get_or a 1 0 ≡ get_or bytes 1 0 = get_or-take 11 bytes 1 0 (omega arith) in
    let gen-is : generation_of a ≡ generation_of bytes = ap (λ (l : List ℕ). from_be_bytes w64 l) (ap (λ (l : List ℕ). take 8 l) (drop-take 2 9 bytes) ∙ take-take 8 9 (drop 2 bytes) (omega arith)) in
    let short : ltb (length a) 11 ≡ ltb (length bytes) 11 = elim (cases_lt (length bytes) 11) [
      | inl lt ↦ lt-ltb (length a) 11 (omega (arith, length-take 11 bytes)) ∙ sym (lt-ltb (length bytes) 11 lt)
      | inr le ↦ le-ltb (length a) 11 (omega (arith, length-take 11 bytes)) ∙ sym (le-ltb (length bytes) 11 le)
    ] in
    ap (λ (x : ℕ). chosen_head (eqb x 1) (ltb (length a) 11) (eqb (get_or a 1 0) 2) (eqb (get_or a 1 0) 1) (generation_of a)) zero-is
    ∙ ap (λ (x : Bool). chosen_head (eqb (get_or bytes 0 0) 1) x (eqb (get_or a 1 0) 2) (eqb (get_or a 1 0) 1) (generation_of a)) short
    ∙ ap (λ (x : ℕ). chosen_head (eqb (get_or bytes 0 0) 1) (ltb (length bytes) 11) (eqb x 2) (eqb x 1) (generation_of a)) one-is
    ∙ ap (λ (x : ℕ). chosen_head (eqb (get_or bytes 0 0) 1) (ltb (length bytes) 11) (eqb (get_or bytes 1 0) 2) (eqb (get_or bytes 1 0) 1) x) gen-is

-- the head in the bytes that were read
pub head_read : (bytes front : List ℕ) (len n : ℕ) → length bytes ≡ len → n ≡ min len 11 → front ≡ take n (drop 0 bytes) → head_of front ≡ head_of bytes
head_read bytes front len n e is h =
    let count : n ≡ min 11 (length bytes) = omega arith in
    ap (λ (l : List ℕ). head_of l) (h ∙ ap (λ (k : ℕ). take k bytes) count ∙ take_min 11 bytes) ∙ head_take bytes
