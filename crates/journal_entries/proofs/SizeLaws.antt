-- Sizes of lists, as loops add them up.
use Rattle.std.proofs.Common.{◌≡◌, ℕ, ◌+◌, ◌-◌, ◌^◌, ◌<◌, min, List, [], ◌++◌, length, get_or, take, sym, ap, ◌∙◌, arith}
use Rattle.std.specs.List.{flat_map}
use Rattle.std.proofs.lemmas.List.{take_more, flat_map_more, length-append}
use Rattle.journal_entries.specs.Sizes.{capped}

pub capped_more : (a b : ℕ) → min (capped a + capped b) (2 ^ 64 - 1) ≡ capped (a + b)
capped_more a b = omega arith

-- the size of one more
pub size_more : {X : Type 0} (spell : X → List ℕ) (xs : List X) (i : ℕ) (d : X) → i < length xs
    → min (capped (length (flat_map spell (take i xs))) + capped (length (spell (get_or xs i d)))) (2 ^ 64 - 1) ≡ capped (length (flat_map spell (take (i + 1) xs)))
size_more spell xs i d lt =
    let front : flat_map spell (take i xs) ++ spell (get_or xs i d) ≡ flat_map spell (take (i + 1) xs) =
    flat_map_more spell [] (take i xs) (get_or xs i d) ∙ ap (λ l. flat_map spell l) (sym (take_more xs i d lt)) in
    capped_more (length (flat_map spell (take i xs))) (length (spell (get_or xs i d)))
    ∙ ap capped (sym (length-append (flat_map spell (take i xs)) (spell (get_or xs i d))) ∙ ap length front)

-- one step of a loop
pub size_step : {X : Type 0} (spell : X → List ℕ) (xs : List X) (i : ℕ) (x : X) (size one next : ℕ) → x ≡ get_or xs i x → i < length xs → size ≡ capped (length (flat_map spell (take i xs)))
    → one ≡ capped (length (spell x)) → next ≡ min (size + one) (2 ^ 64 - 1) → next ≡ capped (length (flat_map spell (take (i + 1) xs)))
size_step spell xs i x size one next is lt before here now =
    let same : length (spell x) ≡ length (spell (get_or xs i x)) = ap (λ y. length (spell y)) is in
    let more = size_more spell xs i x lt in
    cc
