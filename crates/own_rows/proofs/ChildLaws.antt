-- Laws of the next row that passes a test, where own rows lie over those of a table.
use Rattle.std.proofs.Common.{◌≡◌, ℕ, ◌≤◌, Bool, true, false, cond, not, ◌||◌, Option, Some, None, is_some, drop, slice_get, ◌⊎◌, inl, inr, refl, sym, ap, ◌∙◌, arith}
use Rattle.std.specs.Option.{option_or}
use Rattle.std.specs.Ordering.{ordering_reverse}
use Rattle.std.specs.declared.cmp.Ordering.{Ordering}
use Rattle.std.specs.declared.cmp.Ordering.TheVariants.{Less, Equal, Greater}
use Rattle.std.specs.Cmp.{IsTotalOrder}
use Rattle.std.specs.FinMap.{FinMap, IsAntisymmetric, contains_key, entries, get, values}
use Rattle.std.proofs.lemmas.Bool.{and_from, and_parts}
use Rattle.own_rows.specs.Ranks.{rank}
use Rattle.own_rows.specs.Next.{first_from, stays_and}
use Rattle.own_rows.specs.Over.{Agrees, over}
use Rattle.own_rows.proofs.RankLaws.{at_its_rank, entry_there, its_rank, rank_before, rank_rises}
use Rattle.own_rows.proofs.OverLaws.{get_over}
use Rattle.own_rows.proofs.NextLaws.{first_says, none_says, next_is, next_none, value_at_rank}

some_is : {A : Type 0} (x y : A) → Some x ≡ Some y → x ≡ y
some_is x y e = cc

module _ {K : Type 0} {R : K → K → Ordering} (o : IsTotalOrder R) (exact : IsAntisymmetric R) where
  lower_yet : (k l q : K) → (R l k ≡ Less → ⊥) → (R k q ≡ Less → ⊥) → R l q ≡ Less → ⊥
  lower_yet k l q first second less =
      elim (R k q) as (λ r. R k q ≡ r → ⊥) [
        | Less ↦ λ t. second t
        | Equal ↦ λ t. first (ap (R l) (exact k q t) ∙ less)
        | Greater ↦ λ t. first (o.trans l q k less (o.antisymm q k ∙ ap ordering_reverse t))
      ] refl

module _ {K X : Type 0} {R : K → K → Ordering} (o : IsTotalOrder R) (exact : IsAntisymmetric R) where
  same_rank : (m : FinMap R X) (k l : K) → (R l k ≡ Less → ⊥) → rank m k ≤ rank m l
  same_rank m k l never =
      elim (R l k) as (λ r. R l k ≡ r → rank m k ≤ rank m l) [
        | Less ↦ λ t. absurd (never t)
        | Equal ↦ λ t. let same : rank m l ≡ rank m k = ap (rank m) (exact l k t) in omega arith
        | Greater ↦ λ t. rank_rises o exact m k l (o.antisymm k l ∙ ap ordering_reverse t)
      ] refl

  -- a key that is there and has no lower rank isn't lower
  not_lower : (m : FinMap R X) (k l : K) → contains_key m l ≡ true → rank m k ≤ rank m l → R l k ≡ Less → ⊥
  not_lower m k l has le less = let r = rank_before o exact m l k less has in omega arith

  module _ (live fresh gone base : FinMap R X) (agrees : Agrees live fresh gone base) where
    get_live : (k : K) (x : X) → get live k ≡ Some x → get (over live gone base) k ≡ Some x
    get_live k x is = get_over o exact live gone base k ∙ ap (λ y. option_or y (cond (contains_key gone k) None (get base k))) is

    get_stays : (p : X → Bool) (k : K) (x : X) → get base k ≡ Some x → stays_and p live gone (k, x) ≡ true → (get (over live gone base) k ≡ Some x) × (p x ≡ true)
    get_stays p k x is holds =
        let parts = and_parts (p x) (not (contains_key live k || contains_key gone k)) holds in
        let none = neither (contains_key live k) (contains_key gone k) parts.1 in
        (get_over o exact live gone base k ∙ by (get live k) (contains_key gone k) (get base k) none.0 none.1 ∙ is, parts.0)
      where
        neither : (a b : Bool) → not (a || b) ≡ true → (a ≡ false) × (b ≡ false)
        neither true b e = cc
        neither false true e = cc
        neither false false e = (refl, refl)

        by : (l : Option X) (g : Bool) (b : Option X) → is_some l ≡ false → g ≡ false → option_or l (cond g None b) ≡ b
        by (Some y) g b e f = cc
        by None true b e f = cc
        by None false b e f = refl

    -- a row that is left is an own one or one of the table
    comes_from : (p : X → Bool) (k : K) (x : X) → get (over live gone base) k ≡ Some x → p x ≡ true → (get live k ≡ Some x) ⊎ ((get base k ≡ Some x) × (stays_and p live gone (k, x) ≡ true))
    comes_from p k x is passes = by (get live k) (contains_key gone k) (get base k) refl refl refl (sym (get_over o exact live gone base k) ∙ is)
      where
        by : (l : Option X) (g : Bool) (b : Option X) → get live k ≡ l → contains_key gone k ≡ g → get base k ≡ b → option_or l (cond g None b) ≡ Some x
            → (get live k ≡ Some x) ⊎ ((get base k ≡ Some x) × (stays_and p live gone (k, x) ≡ true))
        by (Some y) g b l_is g_is b_is e = inl (l_is ∙ e)
        by None true b l_is g_is b_is e = cc
        by None false b l_is g_is b_is e =
            inr (b_is ∙ e, and_from (p x) (not (contains_key live k || contains_key gone k)) passes (ap (λ z. not (is_some z || contains_key gone k)) l_is ∙ ap (λ z. not (false || z)) g_is))

    module _ (p : X → Bool) (first : K) (here : contains_key (over live gone base) first ≡ true) where
      -- no own row that passes, from the first key on, is below the key
      abbrev pub LiveFrom : K → Type 0
      LiveFrom k = (l : K) (y : X) → get live l ≡ Some y → p y ≡ true → rank live first ≤ rank live l → R l k ≡ Less → ⊥

      -- nor is one of the table's
      abbrev pub BaseFrom : K → Type 0
      BaseFrom k = (l : K) (y : X) → get base l ≡ Some y → stays_and p live gone (l, y) ≡ true → rank base first ≤ rank base l → R l k ≡ Less → ⊥

      pub live_none : (k : K) → first_from p (rank live first) (drop (rank live first) (values live)) ≡ None → LiveFrom k
      live_none k e l y is passes from less =
          let fails = none_says p (values live) (rank live first) e (rank live l) y from (value_at_rank o exact live l y is) in cc

      pub live_some : (i : ℕ) (k : K) (x : X) → first_from p (rank live first) (drop (rank live first) (values live)) ≡ Some i → slice_get (entries live) i ≡ Some (k, x) → LiveFrom k
      live_some i k x e at l y is passes from less =
          let f = first_says p (values live) (rank live first) i e in
          let its = its_rank o exact live i (k, x) at in
          let lt = rank_before o exact live l k less (ap is_some is) in
          let fails = f.others (rank live l) y from (omega arith) (value_at_rank o exact live l y is) in cc

      pub base_none : (k : K) → first_from (stays_and p live gone) (rank base first) (drop (rank base first) (entries base)) ≡ None → BaseFrom k
      base_none k e l y is passes from less =
          let fails = none_says (stays_and p live gone) (entries base) (rank base first) e (rank base l) (l, y) from (at_its_rank o exact base l y is) in cc

      pub base_some : (i : ℕ) (k : K) (x : X) → first_from (stays_and p live gone) (rank base first) (drop (rank base first) (entries base)) ≡ Some i → slice_get (entries base) i ≡ Some (k, x) → BaseFrom k
      base_some i k x e at l y is passes from less =
          let f = first_says (stays_and p live gone) (entries base) (rank base first) i e in
          let its = its_rank o exact base i (k, x) at in
          let lt = rank_before o exact base l k less (ap is_some is) in
          let fails = f.others (rank base l) (l, y) from (omega arith) (at_its_rank o exact base l y is) in cc

      pub live_lower : (k q : K) → LiveFrom k → (R k q ≡ Less → ⊥) → LiveFrom q
      live_lower k q from le l y is passes behind = lower_yet o exact k l q (from l y is passes behind) le

      pub base_lower : (k q : K) → BaseFrom k → (R k q ≡ Less → ⊥) → BaseFrom q
      base_lower k q from le l y is passes behind = lower_yet o exact k l q (from l y is passes behind) le

      -- the key that neither side undercuts is that of the next row
      next_over : (k : K) (x : X) → get (over live gone base) k ≡ Some x → p x ≡ true → rank (over live gone base) first ≤ rank (over live gone base) k → LiveFrom k → BaseFrom k
          → first_from p (rank (over live gone base) first) (drop (rank (over live gone base) first) (values (over live gone base))) ≡ Some (rank (over live gone base) k)
      next_over k x is passes behind lives bases = next_is o exact (over live gone base) p (rank (over live gone base) first) k x is passes behind (λ l y is_l passes_l from lt.
          let up = not_lower (over live gone base) first l (ap is_some is_l) from in
          let rest : (R l k ≡ Less → ⊥) = elim (comes_from p l y is_l passes_l) as (λ d. R l k ≡ Less → ⊥) [
            | inl own ↦ lives l y own passes_l (same_rank live first l up)
            | inr other ↦ bases l y other.0 other.1 (same_rank base first l up)
          ] in
          let r = same_rank (over live gone base) k l rest in omega arith)

      -- an own row
      pub next_own : (i : ℕ) (k : K) (x : X) → first_from p (rank live first) (drop (rank live first) (values live)) ≡ Some i → slice_get (entries live) i ≡ Some (k, x) → BaseFrom k
          → first_from p (rank (over live gone base) first) (drop (rank (over live gone base) first) (values (over live gone base))) ≡ Some (rank (over live gone base) k)
      next_own i k x e at bases =
          let f = first_says p (values live) (rank live first) i e in
          let there = entry_there o exact live i (k, x) at in
          let its = its_rank o exact live i (k, x) at in
          let same : f.x ≡ x = some_is f.x x (sym f.at ∙ ap (λ j. slice_get (values live) j) (sym its) ∙ value_at_rank o exact live k x there.1) in
          let from = f.from_there in
          next_over k x (get_live k x there.1) (ap p (sym same) ∙ f.passes) (same_rank (over live gone base) first k (not_lower live first k there.0 (omega arith))) (live_some i k x e at) bases

      -- one of the table's
      pub next_other : (i : ℕ) (k : K) (x : X) → first_from (stays_and p live gone) (rank base first) (drop (rank base first) (entries base)) ≡ Some i → slice_get (entries base) i ≡ Some (k, x) → LiveFrom k
          → first_from p (rank (over live gone base) first) (drop (rank (over live gone base) first) (values (over live gone base))) ≡ Some (rank (over live gone base) k)
      next_other i k x e at lives =
          let f = first_says (stays_and p live gone) (entries base) (rank base first) i e in
          let there = entry_there o exact base i (k, x) at in
          let its = its_rank o exact base i (k, x) at in
          let same : f.x ≡ (k, x) = some_is f.x (k, x) (sym f.at ∙ at) in
          let from = f.from_there in
          let stays = get_stays p k x there.1 (ap (stays_and p live gone) (sym same) ∙ f.passes) in
          next_over k x stays.0 stays.1 (same_rank (over live gone base) first k (not_lower base first k there.0 (omega arith))) lives (base_some i k x e at)

      -- none at all
      pub next_nowhere : first_from p (rank live first) (drop (rank live first) (values live)) ≡ None → first_from (stays_and p live gone) (rank base first) (drop (rank base first) (entries base)) ≡ None
          → first_from p (rank (over live gone base) first) (drop (rank (over live gone base) first) (values (over live gone base))) ≡ None
      next_nowhere lives bases = next_none o exact (over live gone base) p (rank (over live gone base) first) (λ l y is_l passes_l from.
          let up = not_lower (over live gone base) first l (ap is_some is_l) from in
          elim (comes_from p l y is_l passes_l) as (λ d. ⊥) [
            | inl own ↦ let fails = none_says p (values live) (rank live first) lives (rank live l) y (same_rank live first l up) (value_at_rank o exact live l y own) in cc
            | inr other ↦ let fails = none_says (stays_and p live gone) (entries base) (rank base first) bases (rank base l) (l, y) (same_rank base first l up) (at_its_rank o exact base l y other.0) in
                let holds = other.1 in cc
          ])
