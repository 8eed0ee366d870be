-- What a chunk is of the joined list, and what an edit of a chunk is there.
use Rattle.std.proofs.Common.{ℕ, ◌≡◌, ◌+◌, ◌-◌, ◌<◌, ◌≤◌, List, [], ◌∷◌, ◌++◌, length, get_or, set, take, drop, All, refl, sym, ap, ◌∙◌, arith, zero, suc, zero-add, add_assoc, length-append, append_assoc, take-append-drop}
use Rattle.std.specs.List.{insert, remove}
use Rattle.std.proofs.lemmas.List.{get_or_append_left, get_or-append-add, set-append_left, set-append_right, drop_all}
use Rattle.std.proofs.lemmas.List.Edits.{insert-append_left, insert-append_right, remove-append_left, remove-append_right}
use Rattle.std.proofs.lemmas.List.Elements.{All-set, All-append, All-take, All-drop, All-cons}
use Rattle.long_list.specs.Chunks.{joined}

-- how many elements stand before chunk c
abbrev pub before : {X : Type 0} → List (List X) → ℕ → ℕ
before cs c = length (joined (take c cs))

pub before_cons : {X : Type 0} (x : List X) (cs : List (List X)) (c : ℕ) → before (x ∷ cs) (suc c) ≡ length x + before cs c
before_cons x cs c = length-append x (joined (take c cs))

pub before_next : {X : Type 0} (cs : List (List X)) (c : ℕ) → c < length cs → before cs (suc c) ≡ before cs c + length (get_or cs c [])
before_next [] c h = absurd (omega arith)
before_next (x ∷ cs) zero h = omega (arith, length-append x (joined (take zero cs)))
before_next (x ∷ cs) (suc c) h =
    omega (arith, before_cons x cs (suc c), before_cons x cs c, before_next cs c (omega arith))

pub before_up_to : {X : Type 0} (cs : List (List X)) (c : ℕ) → before cs c ≤ length (joined cs)
before_up_to cs zero = omega arith
before_up_to [] (suc c) = omega arith
before_up_to (x ∷ cs) (suc c) =
    omega (arith, before_cons x cs c, length-append x (joined cs), before_up_to cs c)

-- a chunk ends within the joined list
pub chunk_ends : {X : Type 0} (cs : List (List X)) (c : ℕ) → c < length cs → before cs c + length (get_or cs c []) ≤ length (joined cs)
chunk_ends cs c h = omega (arith, before_next cs c h, before_up_to cs (suc c))

pub before_all : {X : Type 0} (cs : List (List X)) (c : ℕ) → length cs ≤ c → before cs c ≡ length (joined cs)
before_all [] zero h = refl
before_all [] (suc c) h = refl
before_all (x ∷ cs) zero h = absurd (omega arith)
before_all (x ∷ cs) (suc c) h =
    omega (arith, before_cons x cs c, length-append x (joined cs), before_all cs c (omega arith))

pub some_chunk : {X : Type 0} (cs : List (List X)) → 0 < length (joined cs) → 0 < length cs
some_chunk [] h = absurd (omega arith)
some_chunk (x ∷ cs) h = omega arith

-- the place after a first chunk
past : {X : Type 0} (x : List X) (cs : List (List X)) (c i : ℕ) → before (x ∷ cs) (suc c) + i - length x ≡ before cs c + i
past x cs c i = omega (arith, before_cons x cs c)

reaches : {X : Type 0} (x : List X) (cs : List (List X)) (c i : ℕ) → length x ≤ before (x ∷ cs) (suc c) + i
reaches x cs c i = omega (arith, before_cons x cs c)

-- an element of a chunk is one of the joined list
pub joined_at : {X : Type 0} (cs : List (List X)) (c i : ℕ) (d : X) → c < length cs → i < length (get_or cs c []) → get_or (joined cs) (before cs c + i) d ≡ get_or (get_or cs c []) i d
joined_at [] c i d h k = absurd (omega arith)
joined_at (x ∷ cs) zero i d h k = rw zero-add (get_or_append_left x (joined cs) d i k)
joined_at (x ∷ cs) (suc c) i d h k =
    ap (λ n. get_or (x ++ joined cs) n d) (ap (λ n. n + i) (before_cons x cs c) ∙ add_assoc (length x) (before cs c) i)
    ∙ get_or-append-add x (joined cs) (before cs c + i) d
    ∙ joined_at cs c i d (omega arith) k

pub insert_in : {X : Type 0} (cs : List (List X)) (c i : ℕ) (y : X) → c < length cs → i ≤ length (get_or cs c []) → insert (joined cs) (before cs c + i) y ≡ joined (set cs c (insert (get_or cs c []) i y))
insert_in [] c i y h k = absurd (omega arith)
insert_in (x ∷ cs) zero i y h k = rw zero-add (insert-append_left x (joined cs) i y k)
insert_in (x ∷ cs) (suc c) i y h k =
    insert-append_right x (joined cs) (length x) (before (x ∷ cs) (suc c) + i) y refl (reaches x cs c i)
    ∙ ap (λ n. x ++ insert (joined cs) n y) (past x cs c i)
    ∙ ap (λ l. x ++ l) (insert_in cs c i y (omega arith) k)

pub remove_in : {X : Type 0} (cs : List (List X)) (c i : ℕ) → c < length cs → i < length (get_or cs c []) → remove (joined cs) (before cs c + i) ≡ joined (set cs c (remove (get_or cs c []) i))
remove_in [] c i h k = absurd (omega arith)
remove_in (x ∷ cs) zero i h k = rw zero-add (remove-append_left x (joined cs) i k)
remove_in (x ∷ cs) (suc c) i h k =
    remove-append_right x (joined cs) (length x) (before (x ∷ cs) (suc c) + i) refl (reaches x cs c i)
    ∙ ap (λ n. x ++ remove (joined cs) n) (past x cs c i)
    ∙ ap (λ l. x ++ l) (remove_in cs c i (omega arith) k)

pub set_in : {X : Type 0} (cs : List (List X)) (c i : ℕ) (y : X) → c < length cs → i < length (get_or cs c []) → set (joined cs) (before cs c + i) y ≡ joined (set cs c (set (get_or cs c []) i y))
set_in [] c i y h k = absurd (omega arith)
set_in (x ∷ cs) zero i y h k = rw zero-add (set-append_left x (joined cs) i y k)
set_in (x ∷ cs) (suc c) i y h k =
    set-append_right x (joined cs) (length x) (before (x ∷ cs) (suc c) + i) y refl (reaches x cs c i)
    ∙ ap (λ n. x ++ set (joined cs) n y) (past x cs c i)
    ∙ ap (λ l. x ++ l) (set_in cs c i y (omega arith) k)

-- an empty chunk is no part of the joined list
joined_without : {X : Type 0} (cs : List (List X)) (c : ℕ) → c < length cs → joined (set cs c []) ≡ joined (remove cs c)
joined_without [] c h = absurd (omega arith)
joined_without (x ∷ cs) zero h = refl
joined_without (x ∷ cs) (suc c) h = ap (λ l. x ++ l) (joined_without cs c (omega arith))

pub remove_alone : {X : Type 0} (cs : List (List X)) (c i : ℕ) → c < length cs → length (get_or cs c []) ≡ 1 → i < length (get_or cs c []) → remove (joined cs) (before cs c + i) ≡ joined (remove cs c)
remove_alone cs c i h one k =
    let first : i ≡ 0 = omega arith in
    let none : remove (get_or cs c []) i ≡ [] = ap (remove (get_or cs c [])) first ∙ drop_all 1 (get_or cs c []) (omega arith) in
    remove_in cs c i h k ∙ ap (λ l. joined (set cs c l)) none ∙ joined_without cs c h

-- a chunk in two parts
pub joined_split : {X : Type 0} (cs : List (List X)) (c k : ℕ) → c < length cs → joined (insert (set cs c (take k (get_or cs c []))) (suc c) (drop k (get_or cs c []))) ≡ joined cs
joined_split [] c k h = absurd (omega arith)
joined_split (x ∷ cs) zero k h =
    sym (append_assoc (take k x) (drop k x) (joined cs)) ∙ ap (λ l. l ++ joined cs) (take-append-drop k x)
joined_split (x ∷ cs) (suc c) k h = ap (λ l. x ++ l) (joined_split cs c k (omega arith))

-- two chunks as one
pub joined_merge : {X : Type 0} (cs : List (List X)) (c : ℕ) → suc c < length cs → joined (set (remove cs (suc c)) c (get_or cs c [] ++ get_or cs (suc c) [])) ≡ joined cs
joined_merge [] c h = absurd (omega arith)
joined_merge (x ∷ []) zero h = absurd (omega arith)
joined_merge (x ∷ (y ∷ cs)) zero h = append_assoc x y (joined cs)
joined_merge (x ∷ cs) (suc c) h = ap (λ l. x ++ l) (joined_merge cs c (omega arith))

-- no chunk is empty, after an edit too
abbrev pub IsFilled : {X : Type 0} → List (List X) → Type 0
IsFilled cs = All (λ chunk. 0 < length chunk) cs

pub filled_at : {X : Type 0} (cs : List (List X)) (c : ℕ) → IsFilled cs → c < length cs → 0 < length (get_or cs c [])
filled_at cs c h k = h c [] k

pub filled_set : {X : Type 0} (cs : List (List X)) (c : ℕ) (y : List X) → IsFilled cs → 0 < length y → IsFilled (set cs c y)
filled_set cs c y h k = All-set (λ chunk. 0 < length chunk) cs c y k h

pub filled_insert : {X : Type 0} (cs : List (List X)) (c : ℕ) (y : List X) → IsFilled cs → 0 < length y → IsFilled (insert cs c y)
filled_insert cs c y h k =
    All-append (λ chunk. 0 < length chunk) (take c cs) (y ∷ drop c cs) (All-take (λ chunk. 0 < length chunk) c cs h)
    (All-cons (λ chunk. 0 < length chunk) y (drop c cs) k (All-drop (λ chunk. 0 < length chunk) c cs h))

pub filled_remove : {X : Type 0} (cs : List (List X)) (c : ℕ) → IsFilled cs → IsFilled (remove cs c)
filled_remove cs c h =
    All-append (λ chunk. 0 < length chunk) (take c cs) (drop (suc c) cs) (All-take (λ chunk. 0 < length chunk) c cs h) (All-drop (λ chunk. 0 < length chunk) (suc c) cs h)
