-- Laws of where rows stand that are left.
use Rattle.std.proofs.Common.{◌≡◌, ℕ, zero, suc, ◌+◌, ◌-◌, ◌<◌, ◌≤◌, ◌^◌, Bool, true, false, cond, Option, Some, None, is_some, List, [], ◌∷◌, length, slice_get, ◌⊎◌, inl, inr, unwrap_or, refl, sym, ap, subst, ◌∙◌, arith}
use Rattle.std.specs.Option.{option_or}
use Rattle.std.specs.declared.cmp.Ordering.{Ordering}
use Rattle.std.specs.declared.cmp.Ordering.TheVariants.{Less, Equal, Greater}
use Rattle.std.specs.FinMap.{contains_key, entries, get, len, len-entries, values}
use Rattle.std.proofs.lemmas.List.{length-map}
use Rattle.std.proofs.lemmas.Option.{slice_get_within}
use Rattle.table_state.specs.row_types.specs.declared.value.Value.{Value}
use Rattle.table_state.specs.row_types.proofs.OrderLaws.{key_total, key_exact}
use Rattle.table_state.specs.indexed_rows.specs.Rows.{Table, key_of}
use Rattle.table_state.specs.Keyed.{IsUnderKeys}
use Rattle.own_rows.specs.declared.own.OwnRows.{OwnRows}
use Rattle.own_rows.specs.Ranks.{rank}
use Rattle.own_rows.specs.Overlays.{AgreesWith, left_over}
use Rattle.own_rows.specs.Seeking.{Between}
use Rattle.own_rows.specs.Stands.{IsSide, StandsIn}
use Rattle.own_rows.proofs.RankLaws.{entry_there, its_rank}
use Rattle.own_rows.proofs.OverLaws.{get_over, len_sum, rank_sum, rank_base_sum}
use Rattle.own_rows.proofs.NextLaws.{value_at_rank, value_entry}
use Rattle.own_rows.proofs.SeekLaws.{fresh_key, place_before, seek_start, seek_window, step_down, step_up}

abbrev pub Key : Type 0
Key = List Value

pub found : {A : Type 0} (xs : List A) (i : ℕ) → i < length xs → (x : A) × (slice_get xs i ≡ Some x)
found [] i lt = absurd (omega arith)
found (x ∷ xs) zero lt = (x, refl)
found (x ∷ xs) (suc i) lt = found xs i (omega arith)

-- rows of a table whose rows stand under their keys
module _ (base : Table) (places : List ℕ) (keyed : IsUnderKeys places base) (at : ℕ) (row : Key) (here : Some row ≡ slice_get (values base) at) where
  pub entry_of_row : slice_get (entries base) at ≡ Some (key_of places row, row)
  entry_of_row =
      let e = value_entry key_total key_exact base at row (sym here) in
      let there = (entry_there key_total key_exact base at (e.0, row) e.1).1 in
      e.1 ∙ ap (λ k. Some (k, row)) (sym (keyed e.0 row there))

  pub is_entry : (entry : Key × Key) → slice_get (entries base) at ≡ Some entry → key_of places row ≡ entry.0
  is_entry entry is = same (sym entry_of_row ∙ is)
    where
      same : Some (key_of places row, row) ≡ Some entry → key_of places row ≡ entry.0
      same e = cc

  pub row_within : at < len base
  row_within = let w = slice_get_within (entries base) at (key_of places row, row) entry_of_row in let l = len-entries base in omega arith

  pub its_place : rank base (key_of places row) ≡ at
  its_place = its_rank key_total key_exact base at (key_of places row, row) entry_of_row

  pub it_is_there : get base (key_of places row) ≡ Some row
  it_is_there = (entry_there key_total key_exact base at (key_of places row, row) entry_of_row).1

-- past the end there is no row
pub no_row_past : (base : Table) (at : ℕ) → None ≡ slice_get (values base) at → at < len base → ⊥
no_row_past base at none lt = by (values base) at none (let l = len-entries base in let m = length-map (entries base) (λ e. e.1) in omega arith)
  where
    by : {A : Type 0} (xs : List A) (i : ℕ) → None ≡ slice_get xs i → i < length xs → ⊥
    by xs i e lt = let x = found xs i lt in let is = x.1 in cc

-- on which side

module _ (own : OwnRows) (base : Table) (agrees : AgreesWith own base) where
  pub gone_within : (k : Key) (at : ℕ) (row : Key) → slice_get (entries base) at ≡ Some (k, row) → rank own.gone k ≤ at
  gone_within k at row is =
      let s = rank_base_sum key_total key_exact own.live own.fresh own.gone base agrees k in
      let its = its_rank key_total key_exact base at (k, row) is in omega arith

  module _ (k row : Key) (at here : ℕ) (is : slice_get (entries base) at ≡ Some (k, row)) (place_is : here ≡ at + rank own.fresh k - rank own.gone k) where
    pub side_is : here ≡ rank (left_over own base) k
    side_is =
        let s = rank_sum key_total key_exact own.live own.fresh own.gone base agrees k in
        let its = its_rank key_total key_exact base at (k, row) is in omega arith

    there : contains_key base k ≡ true
    there = (entry_there key_total key_exact base at (k, row) is).0

    pub gone_side : contains_key own.gone k ≡ true → contains_key (left_over own base) k ≡ false
    gone_side g =
        ap is_some (get_over key_total key_exact own.live own.gone base k)
        ∙ ap (λ b. is_some (option_or (get own.live k) (cond b None (get base k)))) g ∙ by (get own.live k) (agrees.gone_left k g)
      where
        by : (x : Option Key) → is_some x ≡ false → is_some (option_or x None) ≡ false
        by None e = refl
        by (Some x) e = cc

    pub kept_side : contains_key own.gone k ≡ false → contains_key (left_over own base) k ≡ true
    kept_side g =
        ap is_some (get_over key_total key_exact own.live own.gone base k)
        ∙ ap (λ b. is_some (option_or (get own.live k) (cond b None (get base k)))) g ∙ by (get own.live k) (get base k) there
      where
        by : (x y : Option Key) → is_some y ≡ true → is_some (option_or x y) ≡ true
        by None y e = e
        by (Some x) y e = refl

    module _ (place : ℕ) where
      pub is_less : here < place → IsSide own base place k Less
      is_less lt = let e = side_is in inl (omega arith)

      pub is_greater : place < here → IsSide own base place k Greater
      is_greater lt = let e = side_is in omega arith

      pub is_gone : place ≤ here → here ≤ place → contains_key own.gone k ≡ true → IsSide own base place k Less
      is_gone le ge g = let e = side_is in inr (omega arith, gone_side g)

      pub is_there : place ≤ here → here ≤ place → contains_key own.gone k ≡ false → IsSide own base place k Equal
      is_there le ge g = let e = side_is in record { there = kept_side g; at = omega arith }

  -- the steps of the search
  module _ (place low high mid : ℕ) (between : Between own.live own.gone base place low high) (k row : Key) (r : Ordering) (is : slice_get (entries base) mid ≡ Some (k, row)) (side : IsSide own base place k r) where
    pub go_up : r ≡ Less → Between own.live own.gone base place (mid + 1) high
    go_up less = step_up key_total key_exact own.live own.fresh own.gone base agrees place low high between mid (rank (left_over own base) k) (k, row) is refl (subst (IsSide own base place k) less side)

    pub go_down : r ≡ Greater → Between own.live own.gone base place low mid
    go_down greater = step_down key_total key_exact own.live own.fresh own.gone base agrees place low high between mid (rank (left_over own base) k) (k, row) is refl (subst (IsSide own base place k) greater side)

    pub stands_under : r ≡ Equal → StandsIn base own base place mid
    stands_under equal = record { key = k; row = row; at = is; stands = subst (IsSide own base place k) equal side }

  pub seek_first : (place low high count : ℕ) → count ≡ len base → low ≡ place - len own.fresh → (high ≡ count) ⊎ (high ≡ place + len own.gone + 1) → Between own.live own.gone base place low high
  seek_first place low high count count_is low_is (inl all) =
      subst (λ l. Between own.live own.gone base place l high) (sym low_is) (subst (Between own.live own.gone base place (place - len own.fresh)) (sym count_is ∙ sym all) (seek_start key_total key_exact own.live own.fresh own.gone base agrees place))
  seek_first place low high count count_is low_is (inr window) =
      subst (λ l. Between own.live own.gone base place l high) (sym low_is) (seek_window key_total key_exact own.live own.fresh own.gone base agrees place (place - len own.fresh) high (seek_start key_total key_exact own.live own.fresh own.gone base agrees place) (omega arith))

  pub stands_fresh : (place low high gone : ℕ) → Between own.live own.gone base place low high → high ≤ low → ((e : Key × Key) → slice_get (entries base) low ≡ Some e → gone ≡ rank own.gone e.0) → (len base ≤ low → gone ≡ len own.gone) → place < len (left_over own base)
      → StandsIn own.fresh own base place (place + gone - low)
  stands_fresh place low high gone between done next end within =
      let l = len-entries (left_over own base) in
      let e = found (entries (left_over own base)) place (omega arith) in
      let f = fresh_key key_total key_exact own.live own.fresh own.gone base agrees place low high between done gone next end e.0.0 e.0.1 e.1 in
      record {
        key = e.0.0;
        row = f.0;
        at = f.1;
        stands = record {
          there = (entry_there key_total key_exact (left_over own base) place e.0 e.1).0;
          at = its_rank key_total key_exact (left_over own base) place e.0 e.1;
        };
      }

  pub place_fits : (place gone : ℕ) → place < len (left_over own base) → gone ≡ len own.gone → len base < 2 ^ 63 → len own.fresh < 2 ^ 63 → place + gone + 1 < 2 ^ 64
  place_fits place gone within is small fits = let s = len_sum key_total key_exact own.live own.fresh own.gone base agrees in omega arith

  pub starts_before : (place low high gone : ℕ) → Between own.live own.gone base place low high → high ≤ low → ((e : Key × Key) → slice_get (entries base) low ≡ Some e → gone ≡ rank own.gone e.0) → (len base ≤ low → gone ≡ len own.gone) → place < len (left_over own base)
      → low ≤ place + gone
  starts_before place low high gone between done next end within =
      let l = len-entries (left_over own base) in
      let e = found (entries (left_over own base)) place (omega arith) in
      place_before key_total key_exact own.live own.fresh own.gone base agrees place low high between done gone next end e.0.0 e.0.1 e.1

  pub sum_fits : (place gone : ℕ) → place < len (left_over own base) → gone ≤ len own.gone → len base < 2 ^ 63 → len own.fresh < 2 ^ 63 → place + gone < 2 ^ 64
  sum_fits place gone within is small fits = let s = len_sum key_total key_exact own.live own.fresh own.gone base agrees in omega arith

  -- the length
  pub len_is : (n : ℕ) → n ≡ len own.gone → n ≤ len base + len own.fresh
  len_is n is = let s = len_sum key_total key_exact own.live own.fresh own.gone base agrees in omega arith

  pub len_left : (b f n : ℕ) → b ≡ len base → f ≡ len own.fresh → n ≡ len own.gone → b + f - n ≡ len (left_over own base)
  len_left b f n b_is f_is n_is = let s = len_sum key_total key_exact own.live own.fresh own.gone base agrees in omega arith

  -- the row that stands there
  module _ (place i : ℕ) where
    pub own_or_under : (places : List ℕ) (row result : Key) → IsUnderKeys places base → Some row ≡ slice_get (values base) i → StandsIn base own base place i → result ≡ unwrap_or (get own.live (key_of places row)) row
        → Some result ≡ slice_get (values (left_over own base)) place
    own_or_under places row result keyed here stand is =
        let same : key_of places row ≡ stand.key = is_entry base places keyed i row here (stand.key, stand.row) stand.at in
        let there : get base stand.key ≡ Some row = ap (get base) (sym same) ∙ it_is_there base places keyed i row here in
        let found_it : get (left_over own base) stand.key ≡ Some result =
        get_over key_total key_exact own.live own.gone base stand.key
        ∙ by (get own.live stand.key) (contains_key own.gone stand.key) (get base stand.key) there (sym (ap is_some (get_over key_total key_exact own.live own.gone base stand.key)) ∙ stand.stands.there)
        ∙ ap Some (ap (λ k. unwrap_or (get own.live k) row) (sym same) ∙ sym is) in
        sym (value_at_rank key_total key_exact (left_over own base) stand.key result found_it) ∙ ap (slice_get (values (left_over own base))) stand.stands.at
      where
        by : (l : Option Key) (g : Bool) (b : Option Key) → b ≡ Some row → is_some (option_or l (cond g None b)) ≡ true → option_or l (cond g None b) ≡ Some (unwrap_or l row)
        by (Some x) g b e h = refl
        by None true b e h = cc
        by None false b e h = e

    pub fresh_row : (entry : Key × Key) (rows : Table) (row : Option Key) → slice_get (entries own.fresh) i ≡ Some entry → StandsIn own.fresh own base place i → rows ≡ own.live → row ≡ get rows entry.0
        → row ≡ slice_get (values (left_over own base)) place
    fresh_row entry rows row at stand rows_is is =
        let same : entry.0 ≡ stand.key = first (sym at ∙ stand.at) in
        let fresh : contains_key own.fresh stand.key ≡ true = (entry_there key_total key_exact own.fresh i (stand.key, stand.row) stand.at).0 in
        let row_is : row ≡ get own.live stand.key = is ∙ ap (λ m. get m entry.0) rows_is ∙ ap (get own.live) same in
        by (get own.live stand.key) refl (agrees.fresh_live stand.key fresh) row_is
      where
        first : Some entry ≡ Some (stand.key, stand.row) → entry.0 ≡ stand.key
        first e = cc

        by : (l : Option Key) → get own.live stand.key ≡ l → is_some l ≡ true → row ≡ l → row ≡ slice_get (values (left_over own base)) place
        by None l_is some row_is = cc
        by (Some x) l_is some row_is =
            let found_it : get (left_over own base) stand.key ≡ Some x = get_over key_total key_exact own.live own.gone base stand.key ∙ ap (λ y. option_or y (cond (contains_key own.gone stand.key) None (get base stand.key))) l_is in
            row_is ∙ sym (value_at_rank key_total key_exact (left_over own base) stand.key x found_it) ∙ ap (slice_get (values (left_over own base))) stand.stands.at

pub stands_within : (rows : Table) (own : OwnRows) (base : Table) (place i : ℕ) → StandsIn rows own base place i → i < len rows
stands_within rows own base place i stand = let w = slice_get_within (entries rows) i (stand.key, stand.row) stand.at in let l = len-entries rows in omega arith

pub none_behind : (m : Table) (place n : ℕ) → n ≡ len m → n ≤ place → None ≡ slice_get (values m) place
none_behind m place n is le = by (values m) place (let l = len-entries m in let k = length-map (entries m) (λ e. e.1) in omega arith)
  where
    by : {A : Type 0} (xs : List A) (i : ℕ) → length xs ≤ i → None ≡ slice_get xs i
    by [] i le = refl
    by (x ∷ xs) zero le = absurd (omega arith)
    by (x ∷ xs) (suc i) le = by xs i (omega arith)

-- what is found of a key
module _ (own : OwnRows) (base rows : Table) (key : Key) (rows_is : rows ≡ own.live) where
  pub found_own : (row : Key) → Some row ≡ get rows key → Some row ≡ get (left_over own base) key
  found_own row is =
      sym (get_over key_total key_exact own.live own.gone base key ∙ ap (λ y. option_or y (cond (contains_key own.gone key) None (get base key))) (ap (λ m. get m key) (sym rows_is) ∙ sym is))

  pub found_gone : None ≡ get rows key → contains_key own.gone key ≡ true → None ≡ get (left_over own base) key
  found_gone is g =
      sym (get_over key_total key_exact own.live own.gone base key ∙ ap (λ y. option_or y (cond (contains_key own.gone key) None (get base key))) (ap (λ m. get m key) (sym rows_is) ∙ sym is) ∙ ap (λ b. cond b None (get base key)) g)

  pub found_under : (x : Option Key) → None ≡ get rows key → contains_key own.gone key ≡ false → x ≡ get base key → x ≡ get (left_over own base) key
  found_under x is g x_is =
      x_is ∙ sym (get_over key_total key_exact own.live own.gone base key ∙ ap (λ y. option_or y (cond (contains_key own.gone key) None (get base key))) (ap (λ m. get m key) (sym rows_is) ∙ sym is) ∙ ap (λ b. cond b None (get base key)) g)
