-- Laws of the steps to the next row that refers to a key.
use Rattle.std.proofs.Common.{◌≡◌, ◌≢◌, ℕ, zero, suc, ◌+◌, ◌-◌, ◌<◌, ◌≤◌, All, Bool, true, false, not, ◌||◌, ◌&&◌, Option, Some, None, List, [], ◌∷◌, map, take, drop, slice_get, inl, inr, refl, sym, ap, ◌∙◌, arith}
use Rattle.std.specs.Ordering.{is_lt, ordering_reverse}
use Rattle.std.specs.declared.cmp.Ordering.{Ordering}
use Rattle.std.specs.declared.cmp.Ordering.TheVariants.{Less, Equal, Greater}
use Rattle.std.specs.FinMap.{contains_key, entries, keys, len, len-entries, values}
use Rattle.std.proofs.lemmas.Bool.{and_from, cases_lt}
use Rattle.std.proofs.lemmas.List.{length-map}
use Rattle.std.proofs.lemmas.Option.{slice_get_within}
use Rattle.table_state.specs.row_types.specs.declared.value.Value.{Value}
use Rattle.table_state.specs.row_types.specs.Order.{key_order}
use Rattle.table_state.specs.row_types.proofs.OrderLaws.{key_total, key_exact}
use Rattle.table_state.specs.table_defs.specs.declared.definition.TableDef.{TableDef}
use Rattle.table_state.specs.table_defs.specs.Declarations.{foreign_places}
use Rattle.table_state.specs.Children.{refers_to}
use Rattle.table_state.specs.indexed_rows.specs.Rows.{Table, first_from, has_key, key_of}
use Rattle.table_state.specs.indexed_rows.proofs.EntryLaws.{behind_split, below_split}
use Rattle.table_state.specs.Keyed.{IsUnderKeys}
use Rattle.own_rows.specs.declared.own.OwnRows.{OwnRows}
use Rattle.own_rows.specs.Next.{stays_and}
use Rattle.own_rows.specs.Ranks.{rank}
use Rattle.own_rows.specs.Overlays.{AgreesWith, left_over}
use Rattle.own_rows.specs.Stands.{StandsIn}
use Rattle.own_rows.specs.Starts.{StartsAt}
use Rattle.own_rows.proofs.RankLaws.{its_rank, past_entry, rank_within, up_to_entry}
use Rattle.own_rows.proofs.OverLaws.{rank_sum}
use Rattle.own_rows.proofs.NextLaws.{IsFirstAt, first_said, first_says, none_said, none_says, value_entry}
use Rattle.own_rows.proofs.ChildLaws.{BaseFrom, LiveFrom, base_lower, base_none, base_some, live_lower, live_none, live_some, next_nowhere, next_other, next_own}
use Rattle.own_rows.proofs.StandLaws.{entry_of_row, found, is_entry, its_place, no_row_past}

abbrev pub Key : Type 0
Key = List Value

one_entry : {A : Type 0} (a b : A) → Some a ≡ Some b → a ≡ b
one_entry a b e = cc

-- comparisons

pub not_less : (r : Ordering) → (r ≡ Less → ⊥) → false ≡ is_lt r
not_less Less h = absurd (h refl)
not_less Equal h = refl
not_less Greater h = refl

turned : (a b : Key) → key_order a b ≡ Less → key_order b a ≡ Greater
turned a b e = key_total.antisymm b a ∙ ap ordering_reverse e

turned_back : (a b : Key) → key_order a b ≡ Greater → key_order b a ≡ Less
turned_back a b e = key_total.antisymm b a ∙ ap ordering_reverse e

-- a row of a table, by its place
module _ (base : Table) (places : List ℕ) (keyed : IsUnderKeys places base) (at : ℕ) (row : Key) (here : Some row ≡ slice_get (values base) at) where
  pub order_is : (rows live : Table) (i : ℕ) (e : Key × Key) (r : Ordering) → rows ≡ live → slice_get (entries rows) i ≡ Some e → r ≡ key_order e.0 (key_of places row) → (a b : Key × Key) → slice_get (entries live) i ≡ Some a → slice_get (entries base) at ≡ Some b → r ≡ key_order a.0 b.0
  order_is rows live i e r rows_is at_i r_is a b at_a at_b =
      let same : e ≡ a = one_entry e a (sym at_i ∙ ap (λ m. slice_get (entries m) i) rows_is ∙ at_a) in
      r_is ∙ ap (λ k. key_order e.0 k) (is_entry base places keyed at row here b at_b) ∙ ap (λ z. key_order z.0 b.0) same

  module _ (key : Key) (r : Ordering) (r_is : r ≡ key_order key (key_of places row)) where
    pub key_past : r ≡ Greater → at + 1 ≤ rank base key
    key_past greater = past_entry key_total key_exact base at (key_of places row, row) key (entry_of_row base places keyed at row here) (turned_back key (key_of places row) (sym r_is ∙ greater))

    pub key_up_to : (r ≡ Greater → ⊥) → rank base key ≤ at
    key_up_to never = up_to_entry key_total key_exact base at (key_of places row, row) key (entry_of_row base places keyed at row here) (λ less. never (r_is ∙ turned (key_of places row) key less))

  pub fresh_place : (own : OwnRows) (agrees : AgreesWith own base) (f n : ℕ) → f ≡ rank own.fresh (key_of places row) → n ≡ rank own.gone (key_of places row) → (e : Key × Key) → slice_get (entries base) at ≡ Some e → at + f - n ≡ rank (left_over own base) e.0
  fresh_place own agrees f n f_is n_is e at_e =
      let same : rank (left_over own base) (key_of places row) ≡ rank (left_over own base) e.0 = ap (rank (left_over own base)) (is_entry base places keyed at row here e at_e) in
      let s = rank_sum key_total key_exact own.live own.fresh own.gone base agrees (key_of places row) in
      let p = its_place base places keyed at row here in
      omega arith

  pub fresh_fits : (own : OwnRows) (agrees : AgreesWith own base) (f n : ℕ) → f ≡ rank own.fresh (key_of places row) → n ≡ rank own.gone (key_of places row) → n ≤ at + f
  fresh_fits own agrees f n f_is n_is =
      let s = rank_sum key_total key_exact own.live own.fresh own.gone base agrees (key_of places row) in
      let p = its_place base places keyed at row here in
      omega arith

pub never_there : (base : Table) (at : ℕ) (e : Key × Key) → None ≡ slice_get (values base) at → slice_get (entries base) at ≡ Some e → ⊥
never_there base at e none is = no_row_past base at none (let w = slice_get_within (entries base) at e is in let l = len-entries base in omega arith)

-- the place of an own row
module _ (own : OwnRows) (base : Table) (agrees : AgreesWith own base) (k : Key) (u f n : ℕ) (u_is : u ≡ rank base k) (f_is : f ≡ rank own.fresh k) (n_is : n ≡ rank own.gone k) where
  pub own_place : u + f - n ≡ rank (left_over own base) k
  own_place = let s = rank_sum key_total key_exact own.live own.fresh own.gone base agrees k in omega arith

  pub own_fits : n ≤ u + f
  own_fits = let s = rank_sum key_total key_exact own.live own.fresh own.gone base agrees k in omega arith

pub own_place_at : (own : OwnRows) (base rows : Table) (i : ℕ) (e entry : Key × Key) (place : ℕ) → rows ≡ own.live → slice_get (entries rows) i ≡ Some e → slice_get (entries own.live) i ≡ Some entry → place ≡ rank (left_over own base) e.0 → place ≡ rank (left_over own base) entry.0
own_place_at own base rows i e entry place rows_is at at_entry is =
    is ∙ ap (λ z. rank (left_over own base) z.0) (one_entry e entry (sym at ∙ ap (λ m. slice_get (entries m) i) rows_is ∙ at_entry))

-- a place among keys is a rank
pub split_rank : (m : Table) (k : Key) (n : ℕ) → n ≤ len m → All (λ other. key_order other k ≡ Less) (take n (keys m)) → All (λ other. key_order other k ≢ Less) (drop n (keys m)) → n ≡ rank m k
split_rank m k n within below behind =
    let l = len-entries m in
    let low : n ≤ rank m k = up n below within in
    let high : rank m k ≤ n = elim (cases_lt n (len m)) as (λ d. rank m k ≤ n) [
      | inl lt ↦ let e = found (entries m) n (omega arith) in up_to_entry key_total key_exact m n e.0 k e.1 (behind_split m k n n e.0 behind (omega arith) e.1)
      | inr ge ↦ let w = rank_within m k in omega arith
    ] in
    omega arith
  where
    up : (n : ℕ) → All (λ other. key_order other k ≡ Less) (take n (keys m)) → n ≤ len m → n ≤ rank m k
    up zero all le = omega arith
    up (suc i) all le =
        let l = len-entries m in
        let e = found (entries m) i (omega arith) in
        let p = past_entry key_total key_exact m i e.0 k e.1 (below_split m k (suc i) i e.0 all (omega arith) e.1) in omega arith

-- from one row that refers to the key to the next

later : {A : Type 0} (t : A → Bool) (xs : List A) (a b : ℕ) → a ≤ b → ((j : ℕ) (y : A) → a ≤ j → j < b → slice_get xs j ≡ Some y → t y ≡ false) → first_from t a (drop a xs) ≡ first_from t b (drop b xs)
later {A} t xs a b le fails = by (first_from t b (drop b xs)) refl
  where
    by : (o : Option ℕ) → first_from t b (drop b xs) ≡ o → first_from t a (drop a xs) ≡ first_from t b (drop b xs)
    by None e = none_said t xs a (λ j y from at. elim (cases_lt j b) as (λ d. t y ≡ false) [ inl lt ↦ fails j y from lt at | inr ge ↦ none_says t xs b e j y ge at ]) ∙ sym e
    by (Some i) e =
        let f = first_says t xs b i e in
        let behind = f.from_there in
        first_said t xs a i (record {
          x = f.x;
          at = f.at;
          passes = f.passes;
          from_there = omega arith;
          others = λ j y from lt at. elim (cases_lt j b) as (λ d. t y ≡ false) [ inl early ↦ fails j y from early at | inr ge ↦ f.others j y ge lt at ];
        }) ∙ sym e

mapped_at : {A B : Type 0} (f : A → B) (xs : List A) (i : ℕ) (x : A) → slice_get xs i ≡ Some x → slice_get (map f xs) i ≡ Some (f x)
mapped_at f [] i x e = cc
mapped_at f (y ∷ xs) zero x e = let same : y ≡ x = cc in ap (λ z. Some (f z)) same
mapped_at f (y ∷ xs) (suc i) x e = mapped_at f xs i x e

module _ (p : Key → Bool) (live gone base : Table) (at : ℕ) where
  not_it : (e : Key × Key) → p e.1 ≡ false → stays_and p live gone e ≡ false
  not_it e fails = ap (λ b. b && not (contains_key live e.0 || contains_key gone e.0)) fails

  before : (i : ℕ) → IsFirstAt p (values base) at i → (j : ℕ) (e : Key × Key) → at ≤ j → j < i → slice_get (entries base) j ≡ Some e → stays_and p live gone e ≡ false
  before i f j e le lt is = not_it e (f.others j e.1 le lt (mapped_at (λ z. z.1) (entries base) j e is))

  pub stays_none : None ≡ first_from p at (drop at (values base)) → first_from (stays_and p live gone) at (drop at (entries base)) ≡ None
  stays_none none = none_said (stays_and p live gone) (entries base) at (λ j e le is. not_it e (none_says p (values base) at (sym none) j e.1 le (mapped_at (λ z. z.1) (entries base) j e is)))

  pub stays_end : (n : ℕ) → n ≡ len base → n ≤ at → first_from (stays_and p live gone) at (drop at (entries base)) ≡ None
  stays_end n n_is past = none_said (stays_and p live gone) (entries base) at (λ j e le is. absurd (let w = slice_get_within (entries base) j e is in let l = len-entries base in omega arith))

  module _ (i : ℕ) (first : Some i ≡ first_from p at (drop at (values base))) where
    pub is_first : IsFirstAt p (values base) at i
    is_first = first_says p (values base) at i (sym first)

    pub from_at : at ≤ i
    from_at = is_first.from_there

    pub there_is : None ≡ slice_get (values base) i → ⊥
    there_is none = let is = is_first.at in cc

    module _ (places : List ℕ) (row : Key) (keyed : IsUnderKeys places base) (here : Some row ≡ slice_get (values base) i) (own : Bool) (own_is : own ≡ (contains_key live (key_of places row) || contains_key gone (key_of places row))) where
      pub stays_here : own ≡ false → first_from (stays_and p live gone) at (drop at (entries base)) ≡ Some i
      stays_here free =
          let same : is_first.x ≡ row = one_entry is_first.x row (sym is_first.at ∙ sym here) in
          let holds : p row ≡ true = ap p (sym same) ∙ is_first.passes in
          first_said (stays_and p live gone) (entries base) at i (record {
            x = (key_of places row, row);
            at = entry_of_row base places keyed i row here;
            passes = and_from (p row) (not (contains_key live (key_of places row) || contains_key gone (key_of places row))) holds (ap not (sym own_is ∙ free));
            from_there = from_at;
            others = before i is_first;
          })

      pub stays_past : own ≡ true → first_from (stays_and p live gone) at (drop at (entries base)) ≡ first_from (stays_and p live gone) (i + 1) (drop (i + 1) (entries base))
      stays_past taken = later (stays_and p live gone) (entries base) at (i + 1) (let le = from_at in omega arith) (λ j e le lt is.
          elim (cases_lt j i) as (λ d. stays_and p live gone e ≡ false) [
            | inl early ↦ before i is_first j e le early is
            | inr ge ↦
                let place : j ≡ i = omega arith in
                let same : key_of places row ≡ e.0 = is_entry base places keyed i row here e (ap (slice_get (entries base)) (sym place) ∙ is) in
                let holds : (contains_key live e.0 || contains_key gone e.0) ≡ true = ap (λ k. contains_key live k || contains_key gone k) (sym same) ∙ sym own_is ∙ taken in
                ap (λ b. p e.1 && not b) holds ∙ never (p e.1)
          ])
        where
          never : (b : Bool) → (b && false) ≡ false
          never true = refl
          never false = refl

pub none_from : (p : Key → Bool) (m : Table) (from n : ℕ) → n ≡ len m → n ≤ from → None ≡ first_from p from (drop from (values m))
none_from p m from n n_is past = sym (none_said p (values m) from (λ j y le is. absurd (let w = slice_get_within (values m) j y is in let l = len-entries m in let k = length-map (entries m) (λ e. e.1) in omega arith)))

-- the same by the table's definition
pub below_with : (key : Key) (live gone base : Table) (at : ℕ) (o : Option TableDef) (def : TableDef) (r : Option ℕ) → o ≡ Some def → r ≡ first_from (stays_and (refers_to key o) live gone) at (drop at (entries base)) → r ≡ first_from (stays_and (refers_to key (Some def)) live gone) at (drop at (entries base))
below_with key live gone base at o def r is e = e ∙ ap (λ z. first_from (stays_and (refers_to key z) live gone) at (drop at (entries base))) is

pub own_with : (key : Key) (live : Table) (at : ℕ) (places : List ℕ) (def : TableDef) (r : Option ℕ) → places ≡ foreign_places def.foreign_key → r ≡ first_from (has_key places key) at (drop at (values live)) → r ≡ first_from (refers_to key (Some def)) at (drop at (values live))
own_with key live at places def r is e = e ∙ ap (λ z. first_from (has_key z key) at (drop at (values live))) is

-- the next of both

module _ (own : OwnRows) (base : Table) (agrees : AgreesWith own base) (p : Key → Bool) (from at live : ℕ) (starts : StartsAt own base from at live) (below_next own_next : Option ℕ) (below_is : below_next ≡ first_from (stays_and p own.live own.gone) at (drop at (entries base))) (own_is : own_next ≡ first_from p live (drop live (values own.live))) where
  below_at : first_from (stays_and p own.live own.gone) (rank base starts.key) (drop (rank base starts.key) (entries base)) ≡ below_next
  below_at = ap (λ n. first_from (stays_and p own.live own.gone) n (drop n (entries base))) (sym starts.under_is) ∙ sym below_is

  own_at : first_from p (rank own.live starts.key) (drop (rank own.live starts.key) (values own.live)) ≡ own_next
  own_at = ap (λ n. first_from p n (drop n (values own.live))) (sym starts.live_is) ∙ sym own_is

  goal_at : (o : Option ℕ) → first_from p (rank (left_over own base) starts.key) (drop (rank (left_over own base) starts.key) (values (left_over own base))) ≡ o → o ≡ first_from p from (drop from (values (left_over own base)))
  goal_at o e = sym e ∙ ap (λ n. first_from p n (drop n (values (left_over own base)))) (sym starts.from_is)

  pub both_none : below_next ≡ None → own_next ≡ None → None ≡ first_from p from (drop from (values (left_over own base)))
  both_none b_none o_none = goal_at None (next_nowhere key_total key_exact own.live own.fresh own.gone base agrees p starts.key starts.there (own_at ∙ o_none) (below_at ∙ b_none))

  -- an own row comes next
  module _ (j : ℕ) (some : own_next ≡ Some j) where
    own_entry : (e : Key × Key) × (slice_get (entries own.live) j ≡ Some e)
    own_entry =
        let f = first_says p (values own.live) (rank own.live starts.key) j (own_at ∙ some) in
        let v = value_entry key_total key_exact own.live j f.x f.at in ((v.0, f.x), v.1)

    pub own_within : j < len own.live
    own_within = let w = slice_get_within (entries own.live) j own_entry.0 own_entry.1 in let l = len-entries own.live in omega arith

    module _ (place : ℕ) (place_is : (e : Key × Key) → slice_get (entries own.live) j ≡ Some e → place ≡ rank (left_over own base) e.0) where
      own_comes : BaseFrom key_total key_exact own.live own.fresh own.gone base agrees p starts.key starts.there own_entry.0.0 → Some place ≡ first_from p from (drop from (values (left_over own base)))
      own_comes bases =
          goal_at (Some place) (next_own key_total key_exact own.live own.fresh own.gone base agrees p starts.key starts.there j own_entry.0.0 own_entry.0.1 (own_at ∙ some) own_entry.1 bases ∙ ap Some (sym (place_is own_entry.0 own_entry.1)))

      pub own_alone : below_next ≡ None → Some place ≡ first_from p from (drop from (values (left_over own base)))
      own_alone b_none = own_comes (base_none key_total key_exact own.live own.fresh own.gone base agrees p starts.key starts.there own_entry.0.0 (below_at ∙ b_none))

  -- a row of the table comes next
  module _ (i : ℕ) (there : below_next ≡ Some i) where
    below_entry : (e : Key × Key) × (slice_get (entries base) i ≡ Some e)
    below_entry = let f = first_says (stays_and p own.live own.gone) (entries base) (rank base starts.key) i (below_at ∙ there) in (f.x, f.at)

    below_comes : (place : ℕ) → ((e : Key × Key) → slice_get (entries base) i ≡ Some e → place ≡ rank (left_over own base) e.0) → LiveFrom key_total key_exact own.live own.fresh own.gone base agrees p starts.key starts.there below_entry.0.0 → Some place ≡ first_from p from (drop from (values (left_over own base)))
    below_comes place place_is lives =
        goal_at (Some place) (next_other key_total key_exact own.live own.fresh own.gone base agrees p starts.key starts.there i below_entry.0.0 below_entry.0.1 (below_at ∙ there) below_entry.1 lives ∙ ap Some (sym (place_is below_entry.0 below_entry.1)))

    pub below_alone : (place : ℕ) → ((e : Key × Key) → slice_get (entries base) i ≡ Some e → place ≡ rank (left_over own base) e.0) → own_next ≡ None → Some place ≡ first_from p from (drop from (values (left_over own base)))
    below_alone place place_is o_none = below_comes place place_is (live_none key_total key_exact own.live own.fresh own.gone base agrees p starts.key starts.there below_entry.0.0 (own_at ∙ o_none))

    module _ (j : ℕ) (some : own_next ≡ Some j) (first : Bool) (first_is : (a b : Key × Key) → slice_get (entries own.live) j ≡ Some a → slice_get (entries base) i ≡ Some b → first ≡ is_lt (key_order a.0 b.0)) where
      lt_is : is_lt (key_order (own_entry j some).0.0 below_entry.0.0) ≡ first
      lt_is = sym (first_is (own_entry j some).0 below_entry.0 (own_entry j some).1 below_entry.1)

      lower : (r : Ordering) → is_lt r ≡ true → r ≡ Less
      lower Less e = refl
      lower Equal e = cc
      lower Greater e = cc

      pub own_first : (place : ℕ) → ((e : Key × Key) → slice_get (entries own.live) j ≡ Some e → place ≡ rank (left_over own base) e.0) → first ≡ true → Some place ≡ first_from p from (drop from (values (left_over own base)))
      own_first place place_is holds =
          own_comes j some place place_is (base_lower key_total key_exact own.live own.fresh own.gone base agrees p starts.key starts.there below_entry.0.0 (own_entry j some).0.0
          (base_some key_total key_exact own.live own.fresh own.gone base agrees p starts.key starts.there i below_entry.0.0 below_entry.0.1 (below_at ∙ there) below_entry.1)
          (λ less. let up = turned (own_entry j some).0.0 below_entry.0.0 (lower (key_order (own_entry j some).0.0 below_entry.0.0) (lt_is ∙ holds)) in cc))

      pub below_first : (place : ℕ) → ((e : Key × Key) → slice_get (entries base) i ≡ Some e → place ≡ rank (left_over own base) e.0) → first ≡ false → Some place ≡ first_from p from (drop from (values (left_over own base)))
      below_first place place_is never =
          below_comes place place_is (live_lower key_total key_exact own.live own.fresh own.gone base agrees p starts.key starts.there (own_entry j some).0.0 below_entry.0.0
          (live_some key_total key_exact own.live own.fresh own.gone base agrees p starts.key starts.there j (own_entry j some).0.0 (own_entry j some).0.1 (own_at ∙ some) (own_entry j some).1)
          (λ less. let e = lt_is ∙ never in let l : is_lt (key_order (own_entry j some).0.0 below_entry.0.0) ≡ true = ap is_lt less in cc))

-- where the next one is sought from
module _ (own : OwnRows) (base : Table) (place : ℕ) where
  pub starts_under : (places : List ℕ) (row : Key) (rows : Table) (i live : ℕ) → IsUnderKeys places base → Some row ≡ slice_get (values base) i → StandsIn base own base place i → rows ≡ own.live → live ≡ rank rows (key_of places row) → StartsAt own base place i live
  starts_under places row rows i live keyed here stand rows_is live_is = record {
    key = stand.key;
    there = stand.stands.there;
    from_is = sym stand.stands.at;
    under_is = sym (its_rank key_total key_exact base i (stand.key, stand.row) stand.at);
    live_is = live_is ∙ ap (λ m. rank m (key_of places row)) rows_is ∙ ap (rank own.live) (is_entry base places keyed i row here (stand.key, stand.row) stand.at);
  }

  pub starts_fresh : (entry : Key × Key) (rows : Table) (i under live : ℕ) → slice_get (entries own.fresh) i ≡ Some entry → StandsIn own.fresh own base place i → rows ≡ own.live → live ≡ rank rows entry.0 → under ≡ rank base entry.0 → StartsAt own base place under live
  starts_fresh entry rows i under live at stand rows_is live_is under_is =
      let same : entry ≡ (stand.key, stand.row) = one_entry entry (stand.key, stand.row) (sym at ∙ stand.at) in
      record {
        key = stand.key;
        there = stand.stands.there;
        from_is = sym stand.stands.at;
        under_is = under_is ∙ ap (λ e. rank base e.0) same;
        live_is = live_is ∙ ap (λ m. rank m entry.0) rows_is ∙ ap (λ e. rank own.live e.0) same;
      }
