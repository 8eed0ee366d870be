-- Laws of ranks and entries for the rows of a table.
use Rattle.std.proofs.Common.{◌≡◌, ℕ, ◌+◌, ◌≤◌, Option, Some, None, List, slice_get, refl, sym, ap, ◌∙◌, arith}
use Rattle.std.specs.declared.cmp.Ordering.{Ordering}
use Rattle.std.specs.declared.cmp.Ordering.TheVariants.{Less, Equal}
use Rattle.std.specs.FinMap.{entries, get, len, len-entries}
use Rattle.std.proofs.lemmas.Cmp.{tied_itself}
use Rattle.std.proofs.lemmas.Option.{slice_get_within}
use Rattle.table_state.specs.row_types.specs.declared.value.Value.{Value}
use Rattle.table_state.specs.row_types.specs.Order.{key_order}
use Rattle.table_state.specs.row_types.proofs.OrderLaws.{key_total, key_exact}
use Rattle.table_state.specs.indexed_rows.specs.Rows.{Table}
use Rattle.own_rows.specs.Ranks.{rank}
use Rattle.own_rows.proofs.RankLaws.{at_its_rank, entry_there, past_entry, rank_within, up_to_entry}

abbrev pub Key : Type 0
Key = List Value

module _ (m : Table) where
  pub up_to_len : (k : Key) (n : ℕ) → n ≡ len m → rank m k ≤ n
  up_to_len k n is = let w = rank_within m k in omega arith

  -- what a comparison with the entry at a place says of a rank
  module _ (i : ℕ) (e : Key × Key) (k : Key) (r : Ordering) (at : slice_get (entries m) i ≡ Some e) (compared : r ≡ key_order e.0 k) where
    pub past : r ≡ Less → i + 1 ≤ rank m k
    past less = past_entry key_total key_exact m i e k at (sym compared ∙ less)

    pub not_past : (r ≡ Less → ⊥) → rank m k ≤ i
    not_past never = up_to_entry key_total key_exact m i e k at (λ less. never (compared ∙ less))

    pub row_at : r ≡ Equal → get m k ≡ Some e.1
    row_at tie = ap (get m) (sym (key_exact e.0 k (sym compared ∙ tie))) ∙ (entry_there key_total key_exact m i e at).1

    -- a key that doesn't stand at its rank isn't there
    pub none_at : (r ≡ Equal → ⊥) → i ≡ rank m k → get m k ≡ None
    none_at never place = by (get m k) refl
      where
        by : (x : Option Key) → get m k ≡ x → get m k ≡ None
        by None is = is
        by (Some row) is =
            let there : slice_get (entries m) i ≡ Some (k, row) = ap (slice_get (entries m)) place ∙ at_its_rank key_total key_exact m k row is in
            let same : e.0 ≡ k = same_first (sym at ∙ there) in
            absurd (never (compared ∙ ap (λ q. key_order q k) same ∙ tie k))
          where
            same_first : Some e ≡ Some (k, row) → e.0 ≡ k
            same_first h = cc

            tie : (q : Key) → key_order q q ≡ Equal
            tie q = tied_itself key_total q

  pub none_past : (k : Key) (n : ℕ) → n ≡ rank m k → len m ≤ n → get m k ≡ None
  none_past k n is past = by (get m k) refl
    where
      by : (x : Option Key) → get m k ≡ x → get m k ≡ None
      by None e = e
      by (Some row) e =
          let within = slice_get_within (entries m) (rank m k) (k, row) (at_its_rank key_total key_exact m k row e) in
          let l = len-entries m in absurd (omega arith)
