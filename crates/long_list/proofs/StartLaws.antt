-- The starts of the chunks, and what an edit of a chunk does to them.
use Rattle.std.proofs.Common.{ℕ, ◌≡◌, ◌+◌, ◌-◌, ◌<◌, ◌≤◌, List, [], ◌∷◌, ◌++◌, length, get_or, set, take, drop, map, refl, sym, ap, ◌∙◌, arith, zero, suc, leb, true, false, ◌⊎◌, inl, inr, length-append}
use Rattle.std.specs.List.{insert, remove}
use Rattle.std.specs.List.Sorted.{IsPartitionPoint}
use Rattle.std.proofs.lemmas.List.{get_or_default, length-take-le, length-drop}
use Rattle.std.proofs.lemmas.Bool.{cases_lt, false≢true, leb-true, leb-false, le-leb}
use Rattle.long_list.specs.Chunks.{joined, starts_from, IsLocated, IsLastReached, AreStarts}
use Rattle.long_list.proofs.ChunkLaws.{before, before_cons, before_next, before_up_to, before_all, some_chunk, IsFilled}

pub length_starts : {X : Type 0} (n : ℕ) (cs : List (List X)) → length (starts_from n cs) ≡ length cs
length_starts n [] = refl
length_starts n (x ∷ cs) = ap suc (length_starts (n + length x) cs)

pub start_at : {X : Type 0} (n : ℕ) (cs : List (List X)) (c : ℕ) → c < length cs → get_or (starts_from n cs) c 0 ≡ n + before cs c
start_at n [] c h = absurd (omega arith)
start_at n (x ∷ cs) zero h = omega arith
start_at n (x ∷ cs) (suc c) h =
    omega (arith, start_at (n + length x) cs c (omega arith), before_cons x cs c)

-- a later start isn't below an earlier one
pub before_rises : {X : Type 0} (cs : List (List X)) (i j : ℕ) → i ≤ j → before cs i ≤ before cs j
before_rises cs zero j h = omega arith
before_rises [] (suc i) j h = omega arith
before_rises (x ∷ cs) (suc i) zero h = absurd (omega arith)
before_rises (x ∷ cs) (suc i) (suc j) h =
    omega (arith, before_cons x cs i, before_cons x cs j, before_rises cs i j (omega arith))

pub are_starts : {X : Type 0} (cs : List (List X)) (s : List ℕ) → s ≡ starts_from 0 cs → 0 < length (joined cs) → AreStarts s
are_starts cs s e h =
    let n : length s ≡ length cs = ap length e ∙ length_starts 0 cs in
    let k : 0 < length cs = some_chunk cs h in
    record {
      some = omega arith;
      zero = ap (λ l. get_or l 0 0) e ∙ start_at 0 cs 0 k;
      rise = λ i j d le lt.
          let ei : get_or s i d ≡ get_or s i 0 = get_or_default s i d 0 (omega arith) in
          let ej : get_or s j d ≡ get_or s j 0 = get_or_default s j d 0 lt in
          let si : get_or s i 0 ≡ 0 + before cs i = ap (λ l. get_or l i 0) e ∙ start_at 0 cs i (omega arith) in
          let sj : get_or s j 0 ≡ 0 + before cs j = ap (λ l. get_or l j 0) e ∙ start_at 0 cs j (omega arith) in
          let up = before_rises cs i j le in
          omega arith;
    }

next_start : {X : Type 0} (cs : List (List X)) (s : List ℕ) (at c : ℕ) → s ≡ starts_from 0 cs → suc c < length cs → at < get_or s (suc c) 0 → at < before cs (suc c)
next_start cs s at c e k below =
    let is : get_or s (suc c) 0 ≡ 0 + before cs (suc c) = ap (λ l. get_or l (suc c) 0) e ∙ start_at 0 cs (suc c) k in
    omega arith

-- the chunk of the last start that a place reaches holds the place
pub located : {X : Type 0} (cs : List (List X)) (s : List ℕ) (at c : ℕ) → s ≡ starts_from 0 cs → IsLastReached s at c → IsLocated cs at c (at - get_or s c 0)
located cs s at c e last =
    let n : length s ≡ length cs = ap length e ∙ length_starts 0 cs in
    let inside : c < length cs = omega (arith, last.within) in
    let start : get_or s c 0 ≡ 0 + before cs c = ap (λ l. get_or l c 0) e ∙ start_at 0 cs c inside in
    let here : get_or s c 0 ≤ at = last.reached in
    let step = before_next cs c inside in
    let ends : (at < before cs (suc c)) ⊎ (before cs (suc c) ≡ length (joined cs)) =
    (elim (cases_lt (suc c) (length cs)) [
      | inl k ↦ inl (next_start cs s at c e k (last.next (suc c) (omega arith) (omega arith)))
      | inr k ↦ inr (before_all cs (suc c) k)
    ]) in
    record {
      within = inside;
      is = omega arith;
      up_to = λ k. elim ends [ inl l ↦ omega arith | inr l ↦ omega arith ];
      inside = λ k. elim ends [ inl l ↦ omega arith | inr l ↦ omega arith ];
    }

-- some start is at most any place
pub some_start : (s : List ℕ) (at a : ℕ) → AreStarts s → IsPartitionPoint (λ y. leb y at ≡ true) (λ y. leb y at ≡ false) s a → 1 ≤ a
some_start s at a starts point =
    elim (cases_lt 0 a) [
      | inl k ↦ k
      | inr k ↦ absurd (false≢true (sym (point.1 0 0 k starts.some) ∙ ap (λ n. leb n at) starts.zero ∙ le-leb 0 at (omega arith)))
    ]

-- from the first start that is above a place
pub last_reached : (s : List ℕ) (at a : ℕ) → AreStarts s → a ≤ length s → IsPartitionPoint (λ y. leb y at ≡ true) (λ y. leb y at ≡ false) s a → IsLastReached s at (a - 1)
last_reached s at a starts h point =
    let some = some_start s at a starts point in
    record {
      within = omega arith;
      reached = leb-true (get_or s (a - 1) 0) at (point.0 (a - 1) 0 (omega arith) (omega arith));
      next = λ j above inside. leb-false (get_or s j 0) at (point.1 j 0 (omega arith) inside);
    }

-- the starts after a chunk that is longer by one
starts_up : {X : Type 0} (n : ℕ) (cs : List (List X)) → starts_from (n + 1) cs ≡ map (λ s. s + 1) (starts_from n cs)
starts_up n [] = refl
starts_up n (x ∷ cs) =
    let e : n + 1 + length x ≡ n + length x + 1 = omega arith in
    rw e (ap (λ l. (n + 1) ∷ l) (starts_up (n + length x) cs))

starts_down : {X : Type 0} (n : ℕ) (cs : List (List X)) → starts_from n cs ≡ map (λ s. s - 1) (starts_from (n + 1) cs)
starts_down n [] = refl
starts_down n (x ∷ cs) =
    let e : n + 1 + length x ≡ n + length x + 1 = omega arith in
    let f : n + 1 - 1 ≡ n = omega arith in
    rw (e, f) (ap (λ l. n ∷ l) (starts_down (n + length x) cs))

pub starts_grown : {X : Type 0} (n : ℕ) (cs : List (List X)) (c : ℕ) (y : List X) → c < length cs → length y ≡ length (get_or cs c []) + 1 → starts_from n (set cs c y) ≡ take (suc c) (starts_from n cs) ++ map (λ s. s + 1) (drop (suc c) (starts_from n cs))
starts_grown n [] c y h k = absurd (omega arith)
starts_grown n (x ∷ cs) zero y h k =
    let e : n + length y ≡ n + length x + 1 = omega arith in
    rw e (ap (λ l. n ∷ l) (starts_up (n + length x) cs))
starts_grown n (x ∷ cs) (suc c) y h k = ap (λ l. n ∷ l) (starts_grown (n + length x) cs c y (omega arith) k)

pub starts_shrunk : {X : Type 0} (n : ℕ) (cs : List (List X)) (c : ℕ) (y : List X) → c < length cs → length y + 1 ≡ length (get_or cs c []) → starts_from n (set cs c y) ≡ take (suc c) (starts_from n cs) ++ map (λ s. s - 1) (drop (suc c) (starts_from n cs))
starts_shrunk n [] c y h k = absurd (omega arith)
starts_shrunk n (x ∷ cs) zero y h k =
    let e : n + length x ≡ n + length y + 1 = omega arith in
    rw e (ap (λ l. n ∷ l) (starts_down (n + length y) cs))
starts_shrunk n (x ∷ cs) (suc c) y h k = ap (λ l. n ∷ l) (starts_shrunk (n + length x) cs c y (omega arith) k)

pub starts_same : {X : Type 0} (n : ℕ) (cs : List (List X)) (c : ℕ) (y : List X) → c < length cs → length y ≡ length (get_or cs c []) → starts_from n (set cs c y) ≡ starts_from n cs
starts_same n [] c y h k = absurd (omega arith)
starts_same n (x ∷ cs) zero y h k = ap (λ m. n ∷ starts_from (n + m) cs) k
starts_same n (x ∷ cs) (suc c) y h k = ap (λ l. n ∷ l) (starts_same (n + length x) cs c y (omega arith) k)

-- the starts without a chunk of one element
pub starts_gone : {X : Type 0} (n : ℕ) (cs : List (List X)) (c : ℕ) → c < length cs → length (get_or cs c []) ≡ 1 → starts_from n (remove cs c) ≡ remove (take (suc c) (starts_from n cs) ++ map (λ s. s - 1) (drop (suc c) (starts_from n cs))) c
starts_gone n [] c h k = absurd (omega arith)
starts_gone n (x ∷ cs) zero h k = starts_down n cs ∙ ap (λ m. map (λ s. s - 1) (starts_from (n + m) cs)) (sym k)
starts_gone n (x ∷ cs) (suc c) h k = ap (λ l. n ∷ l) (starts_gone (n + length x) cs c (omega arith) k)

pub starts_merge : {X : Type 0} (n : ℕ) (cs : List (List X)) (c : ℕ) → suc c < length cs → starts_from n (set (remove cs (suc c)) c (get_or cs c [] ++ get_or cs (suc c) [])) ≡ remove (starts_from n cs) (suc c)
starts_merge n [] c h = absurd (omega arith)
starts_merge n (x ∷ []) zero h = absurd (omega arith)
starts_merge n (x ∷ (y ∷ cs)) zero h =
    let e : n + length (x ++ y) ≡ n + length x + length y = omega (arith, length-append x y) in
    ap (λ m. n ∷ starts_from m cs) e
starts_merge n (x ∷ cs) (suc c) h = ap (λ l. n ∷ l) (starts_merge (n + length x) cs c (omega arith))

pub starts_split : {X : Type 0} (n : ℕ) (cs : List (List X)) (c k : ℕ) → c < length cs → k ≤ length (get_or cs c []) → starts_from n (insert (set cs c (take k (get_or cs c []))) (suc c) (drop k (get_or cs c []))) ≡ insert (starts_from n cs) (suc c) (get_or (starts_from n cs) c 0 + k)
starts_split n [] c k h le = absurd (omega arith)
starts_split n (x ∷ cs) zero k h le =
    let low : length (take k x) ≡ k = length-take-le k x le in
    let e : n + length (take k x) ≡ n + k = omega arith in
    let f : n + length (take k x) + length (drop k x) ≡ n + length x = omega (arith, length-drop k x) in
    ap (λ m. n ∷ (n + length (take k x)) ∷ starts_from m cs) f ∙ ap (λ m. n ∷ m ∷ starts_from (n + length x) cs) e
starts_split n (x ∷ cs) (suc c) k h le = ap (λ l. n ∷ l) (starts_split (n + length x) cs c k (omega arith) le)

pub start_up_to : {X : Type 0} (cs : List (List X)) (c d : ℕ) → c < length cs → get_or (starts_from 0 cs) c d ≤ length (joined cs)
start_up_to cs c d h =
    omega (arith, get_or_default (starts_from 0 cs) c d 0 (omega (arith, length_starts 0 cs)), start_at 0 cs c h, before_up_to cs c)

-- a start behind a chunk that isn't empty
pub start_above : {X : Type 0} (cs : List (List X)) (c d : ℕ) → IsFilled cs → suc c < length cs → 0 < get_or (starts_from 0 cs) (suc c) d
start_above cs c d filled h =
    let first : 0 < length (get_or cs c []) = filled c [] (omega arith) in
    omega (arith, get_or_default (starts_from 0 cs) (suc c) d 0 (omega (arith, length_starts 0 cs)), start_at 0 cs (suc c) h, before_next cs c (omega arith))
