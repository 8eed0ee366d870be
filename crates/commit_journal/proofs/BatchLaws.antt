-- Two writes, each with its sync: what they leave at each moment.
use Rattle.std.proofs.Common.{◌≡◌, ℕ, ◌+◌, ◌≤◌, ◌⊎◌, List, [], ◌∷◌, ◌++◌, length, subst}
use Rattle.outside.specs.declared.disk.Slot.{Slot}
use Rattle.outside.specs.Sites.{SiteState}
use Rattle.outside.specs.Holding.{Held, slot_of, with_bytes}
use Rattle.outside.specs.Calls.{Changes, Torn, patched, Certain, Leaves}
use Rattle.outside.proofs.Moments.{and_then, weaker}
use Rattle.commit_journal.specs.Batching.{MidBatch, HasBatch}
use Rattle.commit_journal.proofs.Pieces.{mid_first, mid_second, middle, has_batch, first_within, second_within}

module _ {D : Type 0} (state : D → SiteState) (possible : D → ℕ → Held → Type 0) (slot : Slot) where
  abbrev pub PutCrash : D → D → ℕ → List ℕ → Type 0
  PutCrash a b at bytes = (o : Held) → Certain state possible a o → at ≤ length (slot_of slot o.slots) → Leaves state possible a b (λ p. (p ≡ o) ⊎ Changes slot (Torn at (length bytes)) o p)

  abbrev pub PutCertain : D → D → ℕ → List ℕ → Type 0
  PutCertain a b at bytes = (o : Held) → Certain state possible a o → at ≤ length (slot_of slot o.slots) → Certain state possible b (with_bytes slot (patched at bytes (slot_of slot o.slots)) o)

  module _ (at : ℕ) (bytes : List ℕ) (o : Held) (front junk : List ℕ) (gate : ℕ) (there : slot_of slot o.slots ≡ front ++ gate ∷ junk) (place : at ≡ length front) where
    pub batch_first : (a b : D) → Certain state possible a o → PutCrash a b (at + 1) bytes → Leaves state possible a b (MidBatch slot front gate bytes o)
    batch_first a b c crash =
        let crash' : PutCrash a b (length front + 1) bytes = subst (λ (n : ℕ). PutCrash a b (n + 1) bytes) place crash in
        weaker state possible a b (λ p. (p ≡ o) ⊎ Changes slot (Torn (length front + 1) (length bytes)) o p) (MidBatch slot front gate bytes o) (mid_first slot front gate junk bytes o there)
        (crash' o c (first_within slot front gate junk bytes o there))

    batch_middle : (a b : D) → Certain state possible a o → PutCertain a b (at + 1) bytes → Certain state possible b (middle slot front gate junk bytes o there)
    batch_middle a b c certain =
        let certain' : PutCertain a b (length front + 1) bytes = subst (λ (n : ℕ). PutCertain a b (n + 1) bytes) place certain in
        certain' o c (first_within slot front gate junk bytes o there)

    pub batch_second : (a b c : D) → Certain state possible a o → PutCrash a b (at + 1) bytes → PutCertain a b (at + 1) bytes → PutCrash b c at (1 ∷ []) → Leaves state possible a c (MidBatch slot front gate bytes o)
    batch_second a b c h crash certain crash2 =
        let crash2' : PutCrash b c (length front) (1 ∷ []) = subst (λ (n : ℕ). PutCrash b c n (1 ∷ [])) place crash2 in
        let m = middle slot front gate junk bytes o there in
        and_then state possible a b c (MidBatch slot front gate bytes o) (batch_first a b h crash)
        (weaker state possible b c (λ p. (p ≡ m) ⊎ Changes slot (Torn (length front) 1) m p) (MidBatch slot front gate bytes o) (mid_second slot front gate junk bytes o there)
        (crash2' m (batch_middle a b h certain) (second_within slot front gate junk bytes o there)))

    pub batch_done : (a b c : D) → Certain state possible a o → PutCertain a b (at + 1) bytes → PutCertain b c at (1 ∷ []) → HasBatch state possible c slot front bytes o
    batch_done a b c h certain certain2 =
        let certain2' : PutCertain b c (length front) (1 ∷ []) = subst (λ (n : ℕ). PutCertain b c n (1 ∷ [])) place certain2 in
        has_batch slot front gate junk bytes o there state possible c (certain2' (middle slot front gate junk bytes o there) (batch_middle a b h certain) (second_within slot front gate junk bytes o there))
