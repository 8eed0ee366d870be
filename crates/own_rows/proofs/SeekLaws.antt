-- Laws of seeking a place among own rows and those of a table.
use Rattle.std.proofs.Common.{◌≡◌, ℕ, zero, suc, ◌+◌, ◌-◌, ◌<◌, ◌≤◌, Bool, true, false, ◌||◌, Option, Some, None, is_some, List, [], ◌∷◌, length, slice_get, ◌⊎◌, inl, inr, refl, sym, ap, subst, ◌∙◌, arith}
use Rattle.std.specs.Ordering.{ordering_reverse}
use Rattle.std.specs.declared.cmp.Ordering.{Ordering}
use Rattle.std.specs.declared.cmp.Ordering.TheVariants.{Less, Equal, Greater}
use Rattle.std.specs.Cmp.{IsTotalOrder}
use Rattle.std.specs.FinMap.{FinMap, IsAntisymmetric, contains_key, entries, get, len, len-entries}
use Rattle.std.proofs.lemmas.Bool.{cases_lt, or_cases}
use Rattle.std.proofs.lemmas.Option.{slice_get_within}
use Rattle.own_rows.specs.Ranks.{rank}
use Rattle.own_rows.specs.Over.{Agrees, kept, over}
use Rattle.own_rows.specs.Seeking.{Between}
use Rattle.own_rows.proofs.RankLaws.{at_its_rank, entry_there, its_rank, rank_before, rank_rises, rank_within}
use Rattle.own_rows.proofs.OverLaws.{has_base, has_over, rank_sum, rank_base_sum, len_base_sum}

some_of : {A : Type 0} (o : Option A) → is_some o ≡ true → (x : A) × (o ≡ Some x)
some_of None e = cc
some_of (Some x) e = (x, refl)

module _ {K X : Type 0} {R : K → K → Ordering} (o : IsTotalOrder R) (exact : IsAntisymmetric R) (live fresh gone base : FinMap R X) (agrees : Agrees live fresh gone base) where
  module _ (place low high : ℕ) (between : Between live gone base place low high) where
    module _ (mid at : ℕ) (e : K × X) (here : slice_get (entries base) mid ≡ Some e) (is : at ≡ rank (over live gone base) e.0) where
      in_base : contains_key base e.0 ≡ true
      in_base = (entry_there o exact base mid e here).0

      -- the key of the place is past this one
      pub step_up : (at < place) ⊎ ((at ≡ place) × (contains_key (over live gone base) e.0 ≡ false)) → Between live gone base place (mid + 1) high
      step_up early = record {
        above = λ k x stands.
            let has = entry_there o exact (over live gone base) place (k, x) stands in
            let its = its_rank o exact (over live gone base) place (k, x) stands in
            let mids = its_rank o exact base mid e here in
            elim (R e.0 k) as (λ r. R e.0 k ≡ r → mid + 1 ≤ rank base k) [
              | Less ↦ λ t. let up = rank_before o exact base e.0 k t in_base in omega arith
              | Equal ↦ λ t. let same : e.0 ≡ k = exact e.0 k t in let one : rank (over live gone base) e.0 ≡ place = ap (rank (over live gone base)) same ∙ its in
                  let there : contains_key (over live gone base) e.0 ≡ true = ap (contains_key (over live gone base)) same ∙ has.0 in absurd (never one there early)
              | Greater ↦ λ t. let less : R k e.0 ≡ Less = o.antisymm k e.0 ∙ ap ordering_reverse t in
                  let up = rank_before o exact (over live gone base) k e.0 less has.0 in absurd (passed (omega arith) early)
            ] refl;
        below = between.below;
        within = between.within;
      }
        where
          never : rank (over live gone base) e.0 ≡ place → contains_key (over live gone base) e.0 ≡ true → (at < place) ⊎ ((at ≡ place) × (contains_key (over live gone base) e.0 ≡ false)) → ⊥
          never one there (inl lt) = omega arith
          never one there (inr at_place) = let no = at_place.1 in cc

          passed : place < at → (at < place) ⊎ ((at ≡ place) × (contains_key (over live gone base) e.0 ≡ false)) → ⊥
          passed gt (inl lt) = omega arith
          passed gt (inr at_place) = let same = at_place.0 in omega arith

      -- the key of the place is before this one
      pub step_down : place < at → Between live gone base place low mid
      step_down late = record {
        above = between.above;
        below = λ k x stands. let u = up_to k x stands in let mids = its_rank o exact base mid e here in let r = rank_rises o exact base k e.0 u in omega arith;
        within = λ k x stands has. let u = up_to k x stands in let mids = its_rank o exact base mid e here in let r = rank_before o exact base k e.0 u has in omega arith;
      }
        where
          up_to : (k : K) (x : X) → slice_get (entries (over live gone base)) place ≡ Some (k, x) → R k e.0 ≡ Less
          up_to k x stands =
              let its = its_rank o exact (over live gone base) place (k, x) stands in
              elim (R e.0 k) as (λ r. R e.0 k ≡ r → R k e.0 ≡ Less) [
                | Less ↦ λ t. let r = rank_rises o exact (over live gone base) e.0 k t in absurd (omega arith)
                | Equal ↦ λ t. let same : e.0 ≡ k = exact e.0 k t in let one : rank (over live gone base) e.0 ≡ place = ap (rank (over live gone base)) same ∙ its in absurd (omega arith)
                | Greater ↦ λ t. o.antisymm k e.0 ∙ ap ordering_reverse t
              ] refl

    -- where none is left between, the key of the place is fresh
    module _ (done : high ≤ low) (left : ℕ) (next : (e : K × X) → slice_get (entries base) low ≡ Some e → left ≡ rank gone e.0) (end : len base ≤ low → left ≡ len gone) (k : K) (x : X) (stands : slice_get (entries (over live gone base)) place ≡ Some (k, x)) where
      absent : contains_key base k ≡ false
      absent = by (contains_key base k) (λ t. let w = between.within k x stands t in let a = between.above k x stands in omega arith)
        where
          by : (b : Bool) → (b ≡ true → ⊥) → b ≡ false
          by true h = absurd (h refl)
          by false h = refl

      at_low : rank base k ≡ low
      at_low = let a = between.above k x stands in let b = between.below k x stands in omega arith

      left_is : left ≡ rank gone k
      left_is = elim (cases_lt low (len base)) as (λ d. left ≡ rank gone k) [
        | inl lt ↦ inside (there (entries base) low (subst (λ n. low < n) (len-entries base) lt))
        | inr ge ↦
            let e = end ge in
            let s = rank_base_sum o exact live fresh gone base agrees k in
            let t = len_base_sum o exact live fresh gone base agrees in
            let a = at_low in
            let g = rank_within gone k in let q = rank_within (kept gone base) k in
            omega arith
      ]
        where
          there : {A : Type 0} (xs : List A) (i : ℕ) → i < length xs → (x : A) × (slice_get xs i ≡ Some x)
          there [] i lt = absurd (omega arith)
          there (x ∷ xs) zero lt = (x, refl)
          there (x ∷ xs) (suc i) lt = there xs i (omega arith)

          inside : (e : K × X) × (slice_get (entries base) low ≡ Some e) → left ≡ rank gone k
          inside e =
              let its = its_rank o exact base low e.0 e.1 in
              let has = entry_there o exact base low e.0 e.1 in
              let a = at_low in
              let none = absent in
              let l = next e.0 e.1 in
              let s = rank_base_sum o exact live fresh gone base agrees k in
              let t = rank_base_sum o exact live fresh gone base agrees e.0.0 in
              elim (R k e.0.0) as (λ r. R k e.0.0 ≡ r → left ≡ rank gone k) [
                | Less ↦ λ u. let g = rank_rises o exact gone k e.0.0 u in let q = rank_rises o exact (kept gone base) k e.0.0 u in omega arith
                | Equal ↦ λ u. let same : contains_key base k ≡ contains_key base e.0.0 = ap (contains_key base) (exact k e.0.0 u) in let yes = has.0 in absurd (clash (sym none ∙ same ∙ yes))
                | Greater ↦ λ u. let less : R e.0.0 k ≡ Less = o.antisymm e.0.0 k ∙ ap ordering_reverse u in let r = rank_before o exact base e.0.0 k less has.0 in absurd (omega arith)
              ] refl
            where
              clash : false ≡ true → ⊥
              clash e = cc

      pub place_before : low ≤ place + left
      place_before =
          let its = its_rank o exact (over live gone base) place (k, x) stands in
          let s = rank_sum o exact live fresh gone base agrees k in
          let a = at_low in let l = left_is in
          omega arith

      pub fresh_key : (y : X) × (slice_get (entries fresh) (place + left - low) ≡ Some (k, y))
      fresh_key =
          let has = entry_there o exact (over live gone base) place (k, x) stands in
          let its = its_rank o exact (over live gone base) place (k, x) stands in
          let f = some_of (get fresh k) (in_fresh has.0) in
          let s = rank_sum o exact live fresh gone base agrees k in
          let a = at_low in let l = left_is in
          let place_is : rank fresh k ≡ place + left - low = omega arith in
          (f.0, ap (slice_get (entries fresh)) (sym place_is) ∙ at_its_rank o exact fresh k f.0 f.1)
        where
          in_fresh : contains_key (over live gone base) k ≡ true → contains_key fresh k ≡ true
          in_fresh h =
              elim (or_cases (contains_key fresh k) (contains_key (kept gone base) k) (sym (has_over o exact live fresh gone base agrees k) ∙ h)) as (λ d. contains_key fresh k ≡ true) [
                | inl f ↦ f
                | inr q ↦ absurd (clash (contains_key gone k) (contains_key (kept gone base) k) (sym (has_base o exact live fresh gone base agrees k) ∙ absent) q)
              ]
            where
              clash : (a b : Bool) → (a || b) ≡ false → b ≡ true → ⊥
              clash true b e f = cc
              clash false true e f = cc
              clash false false e f = cc

  -- at the beginning
  pub seek_start : (place : ℕ) → Between live gone base place (place - len fresh) (len base)
  seek_start place = record {
    above = λ k x stands. let its = its_rank o exact (over live gone base) place (k, x) stands in let s = rank_sum o exact live fresh gone base agrees k in let f = rank_within fresh k in omega arith;
    below = λ k x stands. rank_within base k;
    within = λ k x stands has. let v = some_of (get base k) has in let at = slice_get_within (entries base) (rank base k) (k, v.0) (at_its_rank o exact base k v.0 v.1) in let l = len-entries base in omega arith;
  }

  pub seek_window : (place low high : ℕ) → Between live gone base place low (len base) → place + len gone + 1 ≤ high → Between live gone base place low high
  seek_window place low high b wide = record {
    above = b.above;
    below = λ k x stands. let its = its_rank o exact (over live gone base) place (k, x) stands in let s = rank_sum o exact live fresh gone base agrees k in let g = rank_within gone k in omega arith;
    within = λ k x stands has. let its = its_rank o exact (over live gone base) place (k, x) stands in let s = rank_sum o exact live fresh gone base agrees k in let g = rank_within gone k in omega arith;
  }
