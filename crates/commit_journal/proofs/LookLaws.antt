-- The bodies of a slot's batches.
use Rattle.std.proofs.Common.{◌≡◌, ℕ, ◌+◌, ◌≤◌, ◌^◌, ◌⊎◌, List, [], ◌∷◌, ◌++◌, length, drop, refl, sym, ap, subst, ◌∙◌, append_assoc, arith, inl, inr}
use Rattle.std.specs.Int.{w32, to_be_bytes}
use Rattle.std.specs.List.{AllByRecursion, flat_map}
use Rattle.std.proofs.lemmas.List.{length-append, drop_at, drop-drop, flat_map_more}
use Rattle.outside.specs.Calls.{Certain, Leaves, Rests}
use Rattle.outside.specs.Sites.{SiteState}
use Rattle.outside.specs.Holding.{Held, Slots, slot_of}
use Rattle.outside.proofs.Moments.{and_then, weaker}
use Rattle.journal_entries.specs.declared.entry.Entry.{Entry}
use Rattle.journal_entries.specs.declared.standing.Standing.{Standing}
use Rattle.journal_entries.specs.Bodies.{beginning}
use Rattle.commit_journal.specs.declared.journal.Journal.{Journal}
use Rattle.commit_journal.specs.declared.scan.Next.TheVariants as next
use Rattle.commit_journal.specs.Layout.{Placed, head_of, Outcome, Closed, IsBatch, Batches, closed, cut, broken, opened}
use Rattle.commit_journal.specs.Looking.{BeginsWith, HasBodies}
use Rattle.commit_journal.specs.Opening.{Keeps}
use Rattle.commit_journal.specs.Resting.{AtRest}
use Rattle.commit_journal.specs.Scanning.{IsNext}
use Rattle.commit_journal.specs.Turning.{batch_of}
use Rattle.commit_journal.proofs.OneReading.{one_batch, not_open, same_rest, no_cut}
use Rattle.commit_journal.proofs.OpenLaws.{live_long}

abbrev pub AllSmall : List (List ℕ) → Type 0
AllSmall bodies = AllByRecursion (λ body. length body ≤ 2 ^ 24) bodies

small_push : (bodies : List (List ℕ)) (body : List ℕ) → AllSmall bodies → length body ≤ 2 ^ 24 → AllSmall (bodies ++ body ∷ [])
small_push [] body all small = (small, tt)
small_push (b ∷ bodies) body all small = (all.0, small_push bodies body all.1 small)

-- the bodies up to this gate
pub record BodiesSoFar (bytes : List ℕ) (bodies : List (List ℕ)) (place : ℕ) : Type 0 where
  pub are : drop 10 bytes ≡ flat_map batch_of bodies ++ drop place bytes
  pub small : AllSmall bodies

pub bodies_first : (bytes : List ℕ) → BodiesSoFar bytes [] 10
bodies_first bytes = record { are = refl; small = tt }

module _ (bytes : List ℕ) (bodies : List (List ℕ)) (place : ℕ) (so : BodiesSoFar bytes bodies place) where
  pub bodies_end : IsNext (drop place bytes) next.Closed ⊎ IsNext (drop place bytes) next.Cut → BeginsWith bytes bodies
  bodies_end ends = record { rest = drop place bytes; are = so.are; small = so.small; ends = ends }

  pub bodies_on : (rest body more : List ℕ) → drop place bytes ≡ 1 ∷ rest → IsBatch rest body more → BodiesSoFar bytes (bodies ++ body ∷ []) (place + 5 + length body)
  bodies_on rest body more is batch =
      let behind : drop (place + 5 + length body) bytes ≡ more =
      (let place-is : place + (5 + length body) ≡ place + 5 + length body = omega arith in
      let one : drop (5 + length body) (drop place bytes) ≡ more = ap (λ (l : List ℕ). drop (5 + length body) l) (is ∙ ap (λ (l : List ℕ). 1 ∷ l) batch.is) ∙ sym (drop-drop (length body) 5 (1 ∷ (to_be_bytes w32 (length body) ++ (body ++ more)))) ∙ drop_at body more (length body) refl in
      ap (λ (n : ℕ). drop n bytes) (sym place-is) ∙ sym (drop-drop (5 + length body) place bytes) ∙ one) in
      let here : drop place bytes ≡ batch_of body ++ drop (place + 5 + length body) bytes =
      is ∙ ap (λ (l : List ℕ). 1 ∷ l) (batch.is ∙ sym (append_assoc (to_be_bytes w32 (length body)) body more)) ∙ ap (λ (l : List ℕ). batch_of body ++ l) (sym behind) in
      let push : flat_map batch_of bodies ++ batch_of body ≡ flat_map batch_of (bodies ++ body ∷ []) = flat_map_more batch_of [] bodies body in
      record {
        are = so.are ∙ ap (λ (l : List ℕ). flat_map batch_of bodies ++ l) here ∙ sym (append_assoc (flat_map batch_of bodies) (batch_of body) (drop (place + 5 + length body) bytes))
            ∙ ap (λ (l : List ℕ). l ++ drop (place + 5 + length body) bytes) push;
        small = small_push bodies body so.small batch.size;
      }

abbrev CutBehind : List ℕ → Type 0
CutBehind rest = IsNext rest next.Cut

-- a slot that ends at a closed gate isn't cut behind a front of its batches
no_cut_behind : (version : ℕ) {s : Standing} {place : ℕ} {bytes : List ℕ} {entries : List Placed} {outcome : Outcome} (bodies : List (List ℕ)) (rest : List ℕ) (last : ℕ) (t : Standing) → Batches version s place bytes entries outcome → outcome ≡ Closed last t
    → AllSmall bodies → bytes ≡ flat_map batch_of bodies ++ rest → CutBehind rest → ⊥
no_cut_behind version {bytes = bytes} [] rest last t (closed gate junk is shut) e small are c = not_open bytes gate junk c.0 is shut (are ∙ c.1)
no_cut_behind version [] rest last t (cut r b none) e small are c = absurd cc
no_cut_behind version [] rest last t (broken r body more at b is d) e small are c = absurd cc
no_cut_behind version {bytes = bytes} [] rest last t (opened r body more u es fs b is d ds) e small are c = no_cut bytes c.0 r body more (are ∙ c.1) c.2 b is
no_cut_behind version {bytes = bytes} (first ∷ bodies) rest last t (closed gate junk is shut) e small are c =
    not_open bytes gate junk ((to_be_bytes w32 (length first) ++ first) ++ (flat_map batch_of bodies ++ rest)) is shut (are ∙ append_assoc (batch_of first) (flat_map batch_of bodies) rest)
no_cut_behind version (first ∷ bodies) rest last t (cut r b none) e small are c = absurd cc
no_cut_behind version (first ∷ bodies) rest last t (broken r body more at b is d) e small are c = absurd cc
no_cut_behind version {s = s} {place = place} {bytes = bytes} {outcome = outcome} (first ∷ bodies) rest last t (opened r body more u es fs b is d ds) e small are c =
    let onward = flat_map batch_of bodies ++ rest in
    let whole : bytes ≡ 1 ∷ ((to_be_bytes w32 (length first) ++ first) ++ onward) = are ∙ append_assoc (batch_of first) (flat_map batch_of bodies) rest in
    let tail : (to_be_bytes w32 (length first) ++ first) ++ onward ≡ r = same_rest bytes r ((to_be_bytes w32 (length first) ++ first) ++ onward) b whole in
    let long : 1 ≤ length onward = omega (arith, length-append (flat_map batch_of bodies) rest, ap length c.1) in
    let mine : IsBatch r first onward = record { is = sym tail ∙ append_assoc (to_be_bytes w32 (length first)) first onward; size = small.0; gate = long } in
    let p = one_batch r body more first onward is mine in
    no_cut_behind version {s = u} {place = place + 5 + length body} {bytes = more} {outcome = outcome} bodies rest last t ds e small.1 p.1 c

module _ (j : Journal) (slots : Slots) (flushed : List Entry) (r : AtRest j slots flushed []) where
  pub rest_long : 11 ≤ length (slot_of j.slot slots)
  rest_long = live_long (slot_of j.slot slots) j.version j.generation (ap (λ (l : List ℕ). head_of l) r.bytes ∙ r.is_front.head (r.gate ∷ r.junk) (omega arith))

  rest_batches : Batches j.version beginning 10 (drop 10 (slot_of j.slot slots)) (r.placed ++ []) (Closed (length r.front) r.before)
  rest_batches = subst (λ (l : List ℕ). Batches j.version beginning 10 (drop 10 l) (r.placed ++ []) (Closed (length r.front) r.before)) (sym r.bytes)
      (r.is_front.onward (r.gate ∷ r.junk) [] (Closed (length r.front) r.before) (closed r.gate r.junk refl r.shut))

  pub has_bodies : (bodies : List (List ℕ)) → BeginsWith (slot_of j.slot slots) bodies → HasBodies (slot_of j.slot slots) bodies
  has_bodies bodies b = elim b.ends [
    | inl c ↦ record { gate = c.0; junk = c.1; are = b.are ∙ ap (λ (l : List ℕ). flat_map batch_of bodies ++ l) c.2; shut = c.3; small = b.small }
    | inr c ↦ absurd (no_cut_behind j.version bodies b.rest (length r.front) r.before rest_batches refl b.small b.are c)
  ]

-- a quiet call behind one that kept what the slots said
module _ {D : Type 0} (state : D → SiteState) (possible : D → ℕ → Held → Type 0) (a b c : D) (o now : Held) where
  pub kept_then : Leaves state possible a b (Keeps o) → Certain state possible b now → possible b (state b).moment now → Rests state possible b c → Leaves state possible a c (Keeps o)
  kept_then keeps certain is rests =
      let le : (state a).moment ≤ (state b).moment = keeps.later in
      let same : Keeps o now = keeps.each (state b).moment now le (omega arith) is in
      and_then state possible a b c (Keeps o) keeps
      (weaker state possible b c (λ p. p ≡ now) (Keeps o) (λ p e. subst (λ (x : Held). Keeps o x) (sym e) same) (rests now certain).1)
