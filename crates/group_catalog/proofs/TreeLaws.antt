-- Trees of definitions.
use Rattle.std.proofs.Common.{◌≡◌, ◌∙◌, ℕ, ◌+◌, ◌<◌, List, [], ◌∷◌, ◌++◌, ap, sym, subst, length, get_or, take}
use Rattle.std.proofs.lemmas.Grind.{take_at_read}
use Rattle.std.proofs.lemmas.List.{map-append}
use Rattle.group_catalog.specs.declared.placing.PlacedTable.{PlacedTable}
use Rattle.group_catalog.specs.Placed.{table_seen, tables_seen}
use Rattle.instances.specs.declared.tree.Child.{Child}
use Rattle.cache_tier.specs.Definitions.{AreChildrenOf, IsChildOf, Placed}

-- one child more
pub push_child : (ps : List Placed) (cs : List Child) (p : Placed) (c : Child) → AreChildrenOf ps cs → IsChildOf p c
    → AreChildrenOf (ps ++ p ∷ []) (cs ++ c ∷ [])
push_child [] [] p c are is = (is, tt)
push_child (q ∷ ps) (d ∷ cs) p c are is = (are.0, push_child ps cs p c are.1 is)
push_child [] (d ∷ cs) p c are is = absurd are
push_child (q ∷ ps) [] p c are is = absurd are

-- the child of one table more
pub child_more : (ts : List PlacedTable) (i : ℕ) (t : PlacedTable) (cs new : List Child) (c : Child) → i < length ts
    → t ≡ get_or ts i t → AreChildrenOf (tables_seen (take i ts)) cs → IsChildOf (table_seen t) c → new ≡ cs ++ c ∷ []
    → AreChildrenOf (tables_seen (take (i + 1) ts)) new
child_more ts i t cs new c lt is are one more =
    let taken : take (i + 1) ts ≡ take i ts ++ t ∷ [] = (take_at_read ts i t lt).1 ∙ ap (λ (x : PlacedTable). take i ts ++ x ∷ []) (sym is) in
    let seen : tables_seen (take (i + 1) ts) ≡ tables_seen (take i ts) ++ table_seen t ∷ [] = ap tables_seen taken ∙ map-append table_seen (take i ts) (t ∷ []) in
    let P : List Placed → List Child → Type 0 = AreChildrenOf in
    subst (λ (xs : List Placed). P xs new) (sym seen)
    (subst (λ (ys : List Child). P (tables_seen (take i ts) ++ table_seen t ∷ []) ys) (sym more) (push_child (tables_seen (take i ts)) cs (table_seen t) c are one))
