-- Reading the batches of a slot.
use Rattle.std.proofs.Common.{zero-add, ◌≡◌, ◌≢◌, ℕ, zero, suc, ◌+◌, ◌-◌, ◌≤◌, ◌<◌, ◌^◌, ◌⊎◌, min, List, [], ◌∷◌, ◌++◌, length, get_or, take, drop, refl, sym, ap, subst, ◌∙◌, append_assoc, arith, inl, inr}
use Rattle.std.specs.Int.{w32, to_be_bytes, from_be_bytes}
use Rattle.std.proofs.lemmas.List.{length-append, length-take, length-drop, take-append-drop, drop-drop, append-nil, drop_at, take_min}
use Rattle.std.proofs.lemmas.Nat.{be_bytes_4, from_be_bytes-to_be_bytes_4}
use Rattle.journal_entries.specs.Spelling.{IsBytes}
use Rattle.journal_entries.specs.declared.standing.Standing.{Standing}
use Rattle.journal_entries.specs.declared.standing.Ending.TheVariants.{Whole, Stops}
use Rattle.journal_entries.specs.Bodies.{Body, beginning}
use Rattle.commit_journal.specs.Scanning.{Scanned}
use Rattle.commit_journal.specs.Layout.{Placed, IsBatch, Outcome, Closed, Damaged, Batches, closed, cut, broken, opened}

take_nothing : (n : ℕ) → ◌≡◌ {A = List ℕ} (take n []) []
take_nothing zero = refl
take_nothing (suc n) = refl

take_more : (i n : ℕ) (xs : List ℕ) → take i xs ++ take n (drop i xs) ≡ take (i + n) xs
take_more zero n xs = rw zero-add refl
take_more (suc i) n [] = take_nothing n ∙ sym (take_nothing (suc i + n))
take_more (suc i) n (x ∷ xs) = let e : suc i + n ≡ suc (i + n) = omega arith in rw e (ap (λ l. x ∷ l) (take_more i n xs))

-- one piece more
pub piece_more : (all now next : List ℕ) (at done size : ℕ) → now ≡ take done (drop at all) → next ≡ now ++ take size (drop (at + done) all) → next ≡ take (done + size) (drop at all)
piece_more all now next at done size is more =
    more ∙ ap (λ (l : List ℕ). l ++ take size (drop (at + done) all)) is ∙ ap (λ (l : List ℕ). take done (drop at all) ++ take size l) (sym (drop-drop done at all)) ∙ take_more done size (drop at all)

abbrev pub size_in : List ℕ → ℕ
size_in head = from_be_bytes w32 (get_or head 1 0 ∷ get_or head 2 0 ∷ get_or head 3 0 ∷ get_or head 4 0 ∷ [])

four : (a b c d : ℕ) (rest body more : List ℕ) → IsBatch (a ∷ b ∷ c ∷ d ∷ rest) body more → (from_be_bytes w32 (a ∷ b ∷ c ∷ d ∷ []) ≡ length body) × (rest ≡ body ++ more)
four a b c d rest body more is =
    let size : length body ≤ 2 ^ 24 = is.size in
    (ap (λ (l : List ℕ). from_be_bytes w32 (take 4 l)) is.is ∙ from_be_bytes-to_be_bytes_4 (length body) (omega arith), ap (λ (l : List ℕ). drop 4 l) is.is)

four_fit : (a b c d : ℕ) → a < 256 → b < 256 → c < 256 → d < 256 → IsBytes (a ∷ b ∷ c ∷ d ∷ [])
four_fit a b c d p q r s zero = p
four_fit a b c d p q r s (suc zero) = q
four_fit a b c d p q r s (suc (suc zero)) = r
four_fit a b c d p q r s (suc (suc (suc zero))) = s
four_fit a b c d p q r s (suc (suc (suc (suc n)))) = omega arith

-- no whole batch stands there
pub no_batch : (bytes head : List ℕ) (left size : ℕ) → length bytes ≡ left → head ≡ take 5 bytes → get_or head 0 0 ≡ 1 → 5 ≤ left → size ≡ size_in head → (2 ^ 24 < size) ⊎ (left - 5 ≤ size)
    → (rest : List ℕ) × (bytes ≡ 1 ∷ rest) × ((body more : List ℕ) → IsBatch rest body more → ⊥)
no_batch [] head left size len is one some is-size bad = absurd (omega arith)
no_batch (z ∷ []) head left size len is one some is-size bad = absurd (omega arith)
no_batch (z ∷ a ∷ []) head left size len is one some is-size bad = absurd (omega arith)
no_batch (z ∷ a ∷ b ∷ []) head left size len is one some is-size bad = absurd (omega arith)
no_batch (z ∷ a ∷ b ∷ c ∷ []) head left size len is one some is-size bad = absurd (omega arith)
no_batch (z ∷ a ∷ b ∷ c ∷ d ∷ rest) head left size len is one some is-size bad =
    let first : z ≡ 1 = sym (ap (λ (l : List ℕ). get_or l 0 0) is) ∙ one in
    let sized : size ≡ from_be_bytes w32 (a ∷ b ∷ c ∷ d ∷ []) = is-size ∙ ap size_in is in (
      a ∷ b ∷ c ∷ d ∷ rest,
      ap (λ (n : ℕ). n ∷ a ∷ b ∷ c ∷ d ∷ rest) first,
      λ body more batch.
          let p = four a b c d rest body more batch in
          let whole : length rest ≡ length body + length more = ap length p.1 ∙ length-append body more in
          let size-is : size ≡ length body = sized ∙ p.0 in
          let small : length body ≤ 2 ^ 24 = batch.size in
          let gate : 1 ≤ length more = batch.gate in
          elim bad [ inl big ↦ omega arith | inr short ↦ omega arith ],
    )

pub is_batch : (bytes head : List ℕ) (left size : ℕ) → IsBytes head → length bytes ≡ left → head ≡ take 5 bytes → get_or head 0 0 ≡ 1 → 5 ≤ left → size ≡ size_in head → size ≤ 2 ^ 24 → size < left - 5
    → (rest : List ℕ) × (bytes ≡ 1 ∷ rest) × ((body : List ℕ) → body ≡ take size (drop 5 bytes) → IsBatch rest body (drop (5 + size) bytes))
is_batch [] head left size fits len is one some is-size small within = absurd (omega arith)
is_batch (z ∷ []) head left size fits len is one some is-size small within = absurd (omega arith)
is_batch (z ∷ a ∷ []) head left size fits len is one some is-size small within = absurd (omega arith)
is_batch (z ∷ a ∷ b ∷ []) head left size fits len is one some is-size small within = absurd (omega arith)
is_batch (z ∷ a ∷ b ∷ c ∷ []) head left size fits len is one some is-size small within = absurd (omega arith)
is_batch (z ∷ a ∷ b ∷ c ∷ d ∷ rest) head left size fits len is one some is-size small within =
    let first : z ≡ 1 = sym (ap (λ (l : List ℕ). get_or l 0 0) is) ∙ one in
    let sized : size ≡ from_be_bytes w32 (a ∷ b ∷ c ∷ d ∷ []) = is-size ∙ ap size_in is in
    let these : IsBytes (z ∷ a ∷ b ∷ c ∷ d ∷ []) = subst (λ (l : List ℕ). IsBytes l) is fits in
    let front : to_be_bytes w32 size ≡ a ∷ b ∷ c ∷ d ∷ [] = be_bytes_4 (a ∷ b ∷ c ∷ d ∷ []) size refl (four_fit a b c d (these 1) (these 2) (these 3) (these 4)) sized in (
      a ∷ b ∷ c ∷ d ∷ rest,
      ap (λ (n : ℕ). n ∷ a ∷ b ∷ c ∷ d ∷ rest) first,
      λ body body-is.
          let behind : drop (5 + size) (z ∷ a ∷ b ∷ c ∷ d ∷ rest) ≡ drop size rest = sym (drop-drop size 5 (z ∷ a ∷ b ∷ c ∷ d ∷ rest)) in
          let body-len : length body ≡ size = ap length body-is ∙ length-take size rest ∙ omega arith in
          let all : rest ≡ body ++ drop (5 + size) (z ∷ a ∷ b ∷ c ∷ d ∷ rest) = sym (take-append-drop size rest) ∙ ap (λ (l : List ℕ). l ++ drop size rest) (sym body-is) ∙ ap (λ (l : List ℕ). body ++ l) (sym behind) in
          let gate : 1 ≤ length (drop (5 + size) (z ∷ a ∷ b ∷ c ∷ d ∷ rest)) = omega (arith, ap length behind, length-drop size rest) in
          record {
            is = ap (λ (l : List ℕ). a ∷ b ∷ c ∷ d ∷ l) all ∙ ap (λ (l : List ℕ). l ++ (body ++ drop (5 + size) (z ∷ a ∷ b ∷ c ∷ d ∷ rest))) (sym front ∙ ap (λ (n : ℕ). to_be_bytes w32 n) (sym body-len));
            size = omega arith;
            gate = gate;
          },
    )

-- ---- the batches so far

-- whatever stands from this gate on
pub record ScanSoFar (version : ℕ) (bytes : List ℕ) (old now : List Placed) (s : Standing) (place : ℕ) : Type 0 where
  pub so_far : List Placed
  pub items : now ≡ old ++ so_far
  pub onward : (more : List Placed) (outcome : Outcome) → Batches version s place (drop place bytes) more outcome → Batches version beginning 10 (drop 10 bytes) (so_far ++ more) outcome

pub scan_first : (version : ℕ) (bytes : List ℕ) (old : List Placed) → ScanSoFar version bytes old old beginning 10
scan_first version bytes old = record { so_far = []; items = sym (append-nil old); onward = λ more outcome b. b }

module _ (version : ℕ) (bytes : List ℕ) (old now : List Placed) (s : Standing) (place : ℕ) (so : ScanSoFar version bytes old now s place) where
  pub scan_ends : (outcome : Outcome) → Batches version s place (drop place bytes) [] outcome → Scanned version bytes old now outcome
  scan_ends outcome b = record { found = so.so_far; items = so.items; reads = subst (λ (l : List Placed). Batches version beginning 10 (drop 10 bytes) l outcome) (append-nil so.so_far) (so.onward [] outcome b) }

  pub scan_closed : (gate : ℕ) (junk : List ℕ) → drop place bytes ≡ gate ∷ junk → gate ≢ 1 → Scanned version bytes old now (Closed place s)
  scan_closed gate junk is shut = scan_ends (Closed place s) (closed gate junk is shut)

  pub scan_cut : (rest : List ℕ) → drop place bytes ≡ 1 ∷ rest → ((body more : List ℕ) → IsBatch rest body more → ⊥) → Scanned version bytes old now (Damaged (place + 1))
  scan_cut rest is none = scan_ends (Damaged (place + 1)) (cut rest is none)

  module _ (rest body behind : List ℕ) (is : drop place bytes ≡ 1 ∷ rest) (batch : IsBatch rest body behind) (read : List Placed) (then_now : List Placed) (then_is : then_now ≡ now ++ read) where
    both_items : then_now ≡ old ++ (so.so_far ++ read)
    both_items = then_is ∙ ap (λ (l : List Placed). l ++ read) so.items ∙ append_assoc old so.so_far read

    pub scan_broken : (at : ℕ) → Body version s (place + 5) body read (Stops at) → Scanned version bytes old then_now (Damaged at)
    scan_broken at b = record { found = so.so_far ++ read; items = both_items; reads = so.onward read (Damaged at) (broken rest body behind at is batch b) }

    behind_is : drop (place + 5 + length body) bytes ≡ behind
    behind_is =
        let one : drop (5 + length body) (drop place bytes) ≡ behind = ap (λ (l : List ℕ). drop (5 + length body) l) (is ∙ ap (λ (l : List ℕ). 1 ∷ l) batch.is) ∙ sym (drop-drop (length body) 5 (1 ∷ (to_be_bytes w32 (length body) ++ (body ++ behind)))) ∙ drop_at body behind (length body) refl in
        let place-is : place + (5 + length body) ≡ place + 5 + length body = omega arith in
        ap (λ (n : ℕ). drop n bytes) (sym place-is) ∙ sym (drop-drop (5 + length body) place bytes) ∙ one

    pub scan_on : (t : Standing) → Body version s (place + 5) body read (Whole t) → ScanSoFar version bytes old then_now t (place + 5 + length body)
    scan_on t b = record {
      so_far = so.so_far ++ read;
      items = both_items;
      onward = λ more outcome bs.
          let bs' : Batches version t (place + 5 + length body) behind more outcome = subst (λ (l : List ℕ). Batches version t (place + 5 + length body) l more outcome) behind_is bs in
          subst (λ (l : List Placed). Batches version beginning 10 (drop 10 bytes) l outcome) (sym (append_assoc so.so_far read more)) (so.onward (read ++ more) outcome (opened rest body behind t read more is batch b bs'));
    }

-- ---- what stands behind a gate

pub left_is : (bytes : List ℕ) (place left : ℕ) → length bytes ≡ place + left → length (drop place bytes) ≡ left
left_is bytes place left e = length-drop place bytes ∙ omega arith

pub head_is : (bytes head : List ℕ) (place left n : ℕ) → length bytes ≡ place + left → n ≡ min left 5 → head ≡ take n (drop place bytes) → head ≡ take 5 (drop place bytes)
head_is bytes head place left n e is h =
    let count : n ≡ min 5 (length (drop place bytes)) = omega (arith, left_is bytes place left e) in
    h ∙ ap (λ (k : ℕ). take k (drop place bytes)) count ∙ take_min 5 (drop place bytes)

pub body_next : (bytes : List ℕ) (place size : ℕ) (body : List ℕ) → body ≡ take size (drop (place + 5) bytes) → ((rest : List ℕ) × (drop place bytes ≡ 1 ∷ rest) × ((b : List ℕ) → b ≡ take size (drop 5 (drop place bytes)) → IsBatch rest b (drop (5 + size) (drop place bytes))))
    → (rest : List ℕ) × (more : List ℕ) × (drop place bytes ≡ 1 ∷ rest) × IsBatch rest body more
body_next bytes place size body is says =
    (says.0, drop (5 + size) (drop place bytes), says.1, says.2 body (is ∙ ap (λ (l : List ℕ). take size l) (sym (drop-drop 5 place bytes))))
