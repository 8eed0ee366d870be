-- Laws of looking up the rows of a parent in the index.
use Rattle.std.proofs.Common.{◌≡◌, ◌≢◌, ℕ, zero, suc, ◌+◌, ◌-◌, is_some, ◌<◌, ◌≤◌, Bool, true, false, cond, ◌&&◌, All, Some, None, List, [], ◌∷◌, ◌++◌, length, drop, take, nat_le, slice_get, unwrap_or, length-append, inl, inr, refl, sym, ap, subst, ◌∙◌, arith}
use Rattle.std.specs.declared.cmp.Ordering.TheVariants.{Less}
use Rattle.std.specs.FinMap.{entries, get, keys, len, len-entries, values}
use Rattle.std.proofs.lemmas.Bool.{cases_lt, cases_order}
use Rattle.std.proofs.lemmas.List.{length-map}
use Rattle.row_types.specs.declared.value.Value.{Value}
use Rattle.row_types.specs.declared.value.Value.TheVariants.{Null}
use Rattle.row_types.specs.Order.{key_order}
use Rattle.row_types.proofs.OrderLaws.{key_total}
use Rattle.indexed_rows.specs.declared.parents.Parents.{Parents}
use Rattle.indexed_rows.specs.Rows.{first_from, has_key, Table, is_same, key_of}
use Rattle.indexed_rows.specs.Indexes.{IsEntryIn, IsFirst, IsFirstOf, IsIndexOf, behind, entry_of}
use Rattle.indexed_rows.proofs.EntryLaws.{same_values, at_has, behind_front, behind_split, below_split, between, dropped_at, has_at, itself, mapped_at, read, rises, same_itself, some_of, there, unmapped_at}

abbrev Row : Type 0
Row = List Value

key_length : (places : List ℕ) (row : Row) → length (key_of places row) ≡ length places
key_length places row = length-map places (λ place. unwrap_or (slice_get row place) Null)

untrue : (b : Bool) → (b ≡ true → ⊥) → b ≡ false
untrue true h = absurd (h refl)
untrue false h = refl

-- what stands behind a front of that length
front_of : (front rest : Row) (count : ℕ) → length front ≡ count → take count (front ++ rest) ≡ front
front_of [] rest count e = rw (sym e) refl
front_of (x ∷ front) rest zero e = absurd (omega (arith, e))
front_of (x ∷ front) rest (suc count) e = ap (λ l. x ∷ l) (front_of front rest count (omega (arith, e)))

rest_of : (front rest : Row) (count : ℕ) → length front ≡ count → drop count (front ++ rest) ≡ rest
rest_of [] rest count e = rw (sym e) refl
rest_of (x ∷ front) rest zero e = absurd (omega (arith, e))
rest_of (x ∷ front) rest (suc count) e = rest_of front rest count (omega (arith, e))

up_to : (m n : ℕ) → m ≤ n → nat_le m n ≡ true
up_to m n le = grind arith

long_enough : (front rest : Row) (count : ℕ) → length front ≡ count → nat_le count (length (front ++ rest)) ≡ true
long_enough front rest count e = up_to count (length (front ++ rest)) (omega (arith, length-append front rest, e))

behind_is : (front rest parent : Row) (count : ℕ) → length front ≡ count → behind (front ++ rest) count parent ≡ cond (is_same front parent) (Some rest) None
behind_is front rest parent count e =
    ap (λ b. cond (b && is_same (take count (front ++ rest)) parent) (Some (drop count (front ++ rest))) None) (long_enough front rest count e)
    ∙ ap (λ l. cond (is_same l parent) (Some (drop count (front ++ rest))) None) (front_of front rest count e)
    ∙ ap (λ l. cond (is_same front parent) (Some l) None) (rest_of front rest count e)

-- an entry isn't below one before it
not_below : (m : Table) (i j : ℕ) (a b : Row × Row) → i ≤ j → slice_get (entries m) i ≡ Some a → slice_get (entries m) j ≡ Some b → key_order b.0 a.0 ≡ Less → ⊥
not_below m i j a b le at_i at_j less =
    elim (cases_lt i j) as (λ d. ⊥) [
      | inl lt ↦ let loop : key_order b.0 b.0 ≡ Less = key_total.trans b.0 a.0 b.0 less (rises m i j a b lt at_i at_j) in let tie = itself b.0 in cc
      | inr ge ↦
          let place : i ≡ j = omega arith in
          let same : b ≡ a = same_some (sym at_j ∙ ap (slice_get (entries m)) (sym place) ∙ at_i) in
          let loop : key_order b.0 b.0 ≡ Less = ap (λ z. key_order b.0 z.0) same ∙ less in
          let tie = itself b.0 in cc
    ]
  where
    same_some : {X : Type 0} {x y : X} → Some x ≡ Some y → x ≡ y
    same_some e = cc

module _ (p : Parents) (rows : Table) (index : IsIndexOf p rows) (parent least : Row) (n : ℕ) (below : All (λ k. key_order k (parent ++ least) ≡ Less) (take n (keys p.entries))) where
  -- a row's entry
  entry : (key row : Row) → get rows key ≡ Some row → key_of p.columns row ≡ parent → (i : ℕ) × (v : Row) × (slice_get (entries p.entries) i ≡ Some (parent ++ key, v))
  entry key row is child =
      let has = some_of (get p.entries (entry_of p key row)) (index.has key row is) in
      let at = has_at p.entries (entry_of p key row) has.0 has.1 in
      (at.0, has.0, at.1 ∙ ap (λ l. Some (l ++ key, has.0)) child)

  early : (key v : Row) (i : ℕ) → i < n → slice_get (entries p.entries) i ≡ Some (parent ++ key, v) → key_order key least ≡ Less
  early key v i lt at = sym (behind_front parent key least) ∙ below_split p.entries (parent ++ least) n i (parent ++ key, v) below lt at

  pub first_past : len p.entries ≤ n → IsFirstOf p.columns rows parent least None
  first_past past key row is child =
      let e = entry key row is child in
      early key e.1 e.0 (omega (arith, len-entries p.entries, (read (entries p.entries) e.0 (parent ++ key, e.1) (parent ++ key, e.1) e.2).0)) e.2

  module _ (e : Row × Row) (at : slice_get (entries p.entries) n ≡ Some e) (rest : All (λ k. key_order k (parent ++ least) ≢ Less) (drop n (keys p.entries))) (one : IsEntryIn p rows e.0) where
    -- the entry that was found isn't below the least
    starts : key_order (key_of p.columns one.row ++ one.key) (parent ++ least) ≡ Less → ⊥
    starts less = behind_split p.entries (parent ++ least) n n e rest (omega arith) at (ap (λ l. key_order l (parent ++ least)) one.is ∙ less)

    own : key_of p.columns one.row ≡ parent → IsFirst p.columns rows parent least one.key
    own same = record {
      row = one.row;
      there = one.there;
      child = same;
      from = λ less. starts (ap (λ l. key_order (l ++ one.key) (parent ++ least)) same ∙ behind_front parent one.key least ∙ less);
      first = λ key row is child from less.
          let a = entry key row is child in
          elim (cases_lt a.0 n) as (λ d. ⊥) [
            | inl lt ↦ from (early key a.1 a.0 lt a.2)
            | inr ge ↦
                let order : key_order (parent ++ key) e.0 ≡ Less =
                ap (key_order (parent ++ key)) (one.is ∙ ap (λ l. l ++ one.key) same) ∙ behind_front parent key one.key ∙ less in
                not_below p.entries n a.0 e (parent ++ key, a.1) ge at a.2 order
          ];
    }

    other : is_same (key_of p.columns one.row) parent ≡ false → IsFirstOf p.columns rows parent least None
    other differs key row is child =
        let a = entry key row is child in
        let long : length (key_of p.columns one.row) ≡ length parent = key_length p.columns one.row ∙ sym (key_length p.columns row) ∙ ap length child in
        let apart = λ (same : key_of p.columns one.row ≡ parent). let holds = same_itself (key_of p.columns one.row) parent same in let never : ⊥ = cc in never in
        elim (cases_order a.0 n) as (λ d. key_order key least ≡ Less) [
          | inl here ↦
              let same : (parent ++ key) ≡ e.0 = same_some (sym (ap (λ i. slice_get (entries p.entries) i) (sym here) ∙ a.2) ∙ at) in
              absurd (apart (sym (front_of (key_of p.columns one.row) one.key (length parent) long) ∙ ap (take (length parent)) (sym one.is ∙ sym same) ∙ front_of parent key (length parent) refl))
          | inr d ↦ elim d as (λ d. key_order key least ≡ Less) [
            | inl lt ↦ early key a.1 a.0 lt a.2
            | inr gt ↦
                let order : key_order e.0 (parent ++ key) ≡ Less = rises p.entries n a.0 e (parent ++ key, a.1) gt at a.2 in
                absurd (apart (between (key_of p.columns one.row) parent one.key least key long starts (ap (λ l. key_order l (parent ++ key)) (sym one.is) ∙ order)))
          ]
        ]
      where
        same_some : {v : Row} → Some (parent ++ key, v) ≡ Some e → (parent ++ key) ≡ e.0
        same_some e = cc

pub first_here : (p : Parents) (rows : Table) (index : IsIndexOf p rows) (parent least : Row) (n : ℕ) → All (λ k. key_order k (parent ++ least) ≡ Less) (take n (keys p.entries)) → All (λ k. key_order k (parent ++ least) ≢ Less) (drop n (keys p.entries))
    → (e : Row × Row) → slice_get (entries p.entries) n ≡ Some e → IsFirstOf p.columns rows parent least (behind e.0 (length p.columns) parent)
first_here p rows index parent least n below rest e at = by (index.only e.0 (ap is_some (at_has p.entries n e at)))
  where
    by : IsEntryIn p rows e.0 → IsFirstOf p.columns rows parent least (behind e.0 (length p.columns) parent)
    by one =
        let is : behind e.0 (length p.columns) parent ≡ cond (is_same (key_of p.columns one.row) parent) (Some one.key) None =
        ap (λ l. behind l (length p.columns) parent) one.is ∙ behind_is (key_of p.columns one.row) one.key parent (length p.columns) (key_length p.columns one.row) in
        subst (IsFirstOf p.columns rows parent least) (sym is)
        (elim (is_same (key_of p.columns one.row) parent) as (λ b. is_same (key_of p.columns one.row) parent ≡ b → IsFirstOf p.columns rows parent least (cond b (Some one.key) None)) [
          | true ↦ λ t. own p rows index parent least n below e at rest one (same_values (key_of p.columns one.row) parent t)
          | false ↦ λ t. other p rows index parent least n below e at rest one t
        ] refl)

-- the first place at which a list passes a test

first_is : {A : Type 0} (test : A → Bool) (xs : List A) (from i : ℕ) (x : A) → slice_get xs i ≡ Some x → test x ≡ true → ((j : ℕ) (y : A) → j < i → slice_get xs j ≡ Some y → test y ≡ false)
    → first_from test from xs ≡ Some (from + i)
first_is test [] from i x at passes before = cc
first_is test (y ∷ xs) from zero x at passes before =
    let same : y ≡ x = cc in let here : from + zero ≡ from = omega arith in
    ap (λ b. cond b (Some from) (first_from test (suc from) xs)) (ap test same ∙ passes) ∙ ap Some (sym here)
first_is test (y ∷ xs) from (suc i) x at passes before =
    let next : suc from + i ≡ from + suc i = omega arith in
    ap (λ b. cond b (Some from) (first_from test (suc from) xs)) (before zero y (omega arith) refl)
    ∙ first_is test xs (suc from) i x at passes (λ j z lt e. before (suc j) z (omega arith) e) ∙ ap Some next

first_none : {A : Type 0} (test : A → Bool) (xs : List A) (from : ℕ) → ((j : ℕ) (y : A) → slice_get xs j ≡ Some y → test y ≡ false) → first_from test from xs ≡ None
first_none test [] from fails = refl
first_none test (y ∷ xs) from fails =
    ap (λ b. cond b (Some from) (first_from test (suc from) xs)) (fails zero y refl) ∙ first_none test xs (suc from) (λ j z e. fails (suc j) z e)

-- what the key of the first row says of places

module _ (columns : List ℕ) (rows : Table) (key : Row) (from : ℕ) (e : Row × Row) (at : slice_get (entries rows) from ≡ Some e) where
  -- an entry from there on
  later : (j : ℕ) (row : Row) → slice_get (drop from (values rows)) j ≡ Some row → (k : Row) × (slice_get (entries rows) (from + j) ≡ Some (k, row))
  later j row is =
      let a = unmapped_at (λ z. z.1) (entries rows) (from + j) row (sym (dropped_at (values rows) from j) ∙ is) in
      (a.0.0, a.1 ∙ ap (λ r. Some (a.0.0, r)) a.2)

  pub no_child : IsFirstOf columns rows key e.0 None → None ≡ first_from (has_key columns key) from (drop from (values rows))
  no_child none = sym (first_none (has_key columns key) (drop from (values rows)) from (λ j row is.
      let a = later j row is in
      untrue (has_key columns key row) (λ holds. not_below rows from (from + j) e (a.0, row) (omega arith) at a.1
      (none a.0 row (at_has rows (from + j) (a.0, row) a.1) (same_values (key_of columns row) key holds)))))

  pub its_child : (child : Row) (n : ℕ) → IsFirst columns rows key e.0 child → All (λ k. key_order k child ≡ Less) (take n (keys rows)) → All (λ k. key_order k child ≢ Less) (drop n (keys rows))
      → Some n ≡ first_from (has_key columns key) from (drop from (values rows))
  its_child child n first below rest =
      let q = has_at rows child first.row first.there in
      let tie = itself child in
      let le : n ≤ q.0 = elim (cases_lt q.0 n) as (λ d. n ≤ q.0) [ inl lt ↦ absurd (less_tie child (below_split rows child n q.0 (child, first.row) below lt q.1)) | inr ge ↦ ge ] in
      let start : from ≤ q.0 = elim (cases_lt q.0 from) as (λ d. from ≤ q.0) [ inl lt ↦ absurd (first.from (rises rows q.0 from (child, first.row) e lt q.1 at)) | inr ge ↦ ge ] in
      let within : n < length (entries rows) = omega (arith, (read (entries rows) q.0 (child, first.row) (child, first.row) q.1).0) in
      let found = there (entries rows) n within in
      let ge : q.0 ≤ n = elim (cases_lt n q.0) as (λ d. q.0 ≤ n) [ inl lt ↦ absurd (behind_split rows child n n found.0 rest (omega arith) found.1 (rises rows n q.0 found.0 (child, first.row) lt found.1 q.1)) | inr ge ↦ ge ] in
      let place : from + (n - from) ≡ q.0 = omega arith in
      let is : slice_get (drop from (values rows)) (n - from) ≡ Some first.row =
      dropped_at (values rows) from (n - from) ∙ ap (slice_get (values rows)) place ∙ mapped_at (λ z. z.1) (entries rows) q.0 (child, first.row) q.1 in
      let end : from + (n - from) ≡ n = omega arith in
      sym (first_is (has_key columns key) (drop from (values rows)) from (n - from) first.row is (same_itself (key_of columns first.row) key first.child) (λ j row lt is.
      let a = later j row is in
      untrue (has_key columns key row) (λ holds.
      first.first a.0 row (at_has rows (from + j) (a.0, row) a.1) (same_values (key_of columns row) key holds)
      (λ less. not_below rows from (from + j) e (a.0, row) (omega arith) at a.1 less)
      (rises rows (from + j) q.0 (a.0, row) (child, first.row) (omega arith) a.1 q.1))) ∙ ap Some end)
    where
      less_tie : (k : Row) → key_order k k ≡ Less → ⊥
      less_tie k less = let tie = itself k in cc
