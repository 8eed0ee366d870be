-- Each row of the view is in the instance of one root key, the one that it is reached from.
use Rattle.std.proofs.Common.{◌≡◌, ℕ, zero, suc, ◌+◌, ◌<◌, ◌≤◌, ◌⊎◌, Bool, true, false, ◌&&◌, cond, Option, Some, None, is_some, List, [], ◌∷◌, ◌++◌, length, drop, slice_get, refl, sym, ap, subst, ◌∙◌, inl, inr, arith}
use Rattle.std.specs.Option.{option_and_then, option_map}
use Rattle.std.specs.FinMap.{empty, get, get-empty}
use Rattle.std.specs.Ordering.{is_eq}
use Rattle.std.specs.Cmp.{eq_by_cmp_equiv}
use Rattle.std.specs.declared.cmp.Ordering.{Ordering}
use Rattle.std.specs.declared.cmp.Ordering.TheVariants.{Less, Equal, Greater}
use Rattle.expressions.specs.row_types.specs.declared.value.Value.{Value}
use Rattle.expressions.specs.row_types.specs.Order.{key_order}
use Rattle.expressions.specs.row_types.proofs.OrderLaws.{key_total, key_exact}
use Rattle.table_state.specs.table_defs.specs.declared.definition.TableDef.{TableDef}
use Rattle.table_state.specs.table_defs.specs.Declarations.{foreign_places}
use Rattle.table_state.specs.indexed_rows.specs.Rows.{Table, is_same, key_of}
use Rattle.table_state.specs.Tables.{TableState, table_at}
use Rattle.instances.specs.declared.tree.Child.{Child}
use Rattle.instances.specs.declared.tree.Tree.{Tree}
use Rattle.instances.specs.Roots.{parent_key, root_within}
use Rattle.instances.specs.Views.{child_rows, is_kept, kept_at, only, passes, refers_to_one, root_rows, rows_where, selects, with_children}
use Rattle.instances.specs.Instances.{IsApart, IsCovered, IsIn, IsPart}
use Rattle.instances.proofs.Gathering.{get_where}
use Rattle.instances.proofs.OnlyLaws.{get_only}

abbrev Row : Type 0
Row = List Value

abbrev nothing : Table
nothing = empty

not_in_nothing : (q row : Row) → get nothing q ≡ Some row → ⊥
not_in_nothing q row e = let none : get nothing q ≡ None = get-empty key_order q in cc

-- a row of those that pass a test
record Passed (test : Row → Bool) (table : Table) (q row : Row) : Type 0 where
  there : get table q ≡ Some row
  good : test row ≡ true

passed : (test : Row → Bool) (table : Table) (q row : Row) → get (rows_where test table) q ≡ Some row → Passed test table q row
passed test table q row e = by (get table q) refl (sym (get_where test table q) ∙ e)
  where
    found : (r : Row) → get table q ≡ Some r → (b : Bool) → test r ≡ b → cond b (Some r) None ≡ Some row → Passed test table q row
    found r is true good h = let same : r ≡ row = cc in record { there = is ∙ ap Some same; good = ap test (sym same) ∙ good }
    found r is false bad h = cc

    by : (o : Option Row) → get table q ≡ o → cond (passes test o) o None ≡ Some row → Passed test table q row
    by None is h = cc
    by (Some r) is h = found r is (test r) refl h

passing : (test : Row → Bool) (table : Table) (q row : Row) → get table q ≡ Some row → test row ≡ true → get (rows_where test table) q ≡ Some row
passing test table q row there good = get_where test table q ∙ ap (λ o. cond (passes test o) o None) there ∙ ap (λ b. cond b (Some row) None) good

left_of : (a b : Bool) → (a && b) ≡ true → a ≡ true
left_of true b e = refl
left_of false b e = e

right_of : (a b : Bool) → (a && b) ≡ true → b ≡ true
right_of true b e = e
right_of false b e = cc

both_of : (a b : Bool) → a ≡ true → b ≡ true → (a && b) ≡ true
both_of a b x y = ap (λ c. c && b) x ∙ y

-- the parent row that a row refers to
record Refers (parents : Table) (def : Option TableDef) (row : Row) : Type 0 where
  definition : TableDef
  is : def ≡ Some definition
  parent : Row
  there : get parents (key_of (foreign_places definition.foreign_key) row) ≡ Some parent

some_of : (o : Option Row) → is_some o ≡ true → (r : Row) × (o ≡ Some r)
some_of None e = cc
some_of (Some r) e = (r, refl)

refers : (parents : Table) (def : Option TableDef) (row : Row) → refers_to_one parents def row ≡ true → Refers parents def row
refers parents None row e = cc
refers parents (Some def) row e = let p = some_of (get parents (key_of (foreign_places def.foreign_key) row)) e in record { definition = def; is = refl; parent = p.0; there = p.1 }

-- what stands at a place behind one more table
at_front : (kept : List Table) (x : Table) (i : ℕ) → i < length kept → kept_at (kept ++ x ∷ []) i ≡ kept_at kept i
at_front [] x i lt = absurd (omega arith)
at_front (y ∷ kept) x zero lt = refl
at_front (y ∷ kept) x (suc i) lt = at_front kept x i (omega arith)

at_end : (kept : List Table) (x : Table) → kept_at (kept ++ x ∷ []) (length kept) ≡ x
at_end [] x = refl
at_end (y ∷ kept) x = at_end kept x

at_none : (kept : List Table) (i : ℕ) → length kept ≤ i → kept_at kept i ≡ empty
at_none [] i le = refl
at_none (y ∷ kept) zero le = absurd (omega arith)
at_none (y ∷ kept) (suc i) le = at_none kept i (omega arith)

within : (kept : List Table) (i : ℕ) (q row : Row) → IsIn kept i q row → i < length kept
within [] i q row e = absurd (not_in_nothing q row e)
within (y ∷ kept) zero q row e = omega arith
within (y ∷ kept) (suc i) q row e = let lt : i < length kept = within kept i q row e in omega arith

length_more : (kept : List Table) (x : Table) → length (kept ++ x ∷ []) ≡ suc (length kept)
length_more [] x = refl
length_more (y ∷ kept) x = ap suc (length_more kept x)

-- either before the end or at it
abbrev Spot : List Table → Table → ℕ → Row → Row → Type 0
Spot kept x i q row = IsIn kept i q row ⊎ ((i ≡ length kept) × (get x q ≡ Some row))

spot : (kept : List Table) (x : Table) (i : ℕ) (q row : Row) → IsIn (kept ++ x ∷ []) i q row → Spot kept x i q row
spot [] x zero q row e = inr (refl, e)
spot [] x (suc i) q row e = absurd (not_in_nothing q row e)
spot (y ∷ kept) x zero q row e = inl e
spot (y ∷ kept) x (suc i) q row e = further (spot kept x i q row e)
  where
    further : Spot kept x i q row → Spot (y ∷ kept) x (suc i) q row
    further (inl h) = inl h
    further (inr h) = inr (ap suc h.0, h.1)

to_front : (kept : List Table) (x : Table) (i : ℕ) (q row : Row) → IsIn kept i q row → IsIn (kept ++ x ∷ []) i q row
to_front kept x i q row e = ap (λ t. get t q) (at_front kept x i (within kept i q row e)) ∙ e

to_end : (kept : List Table) (x : Table) (i : ℕ) (q row : Row) → i ≡ length kept → get x q ≡ Some row → IsIn (kept ++ x ∷ []) i q row
to_end kept x i q row is e = ap (λ j. get (kept_at (kept ++ x ∷ []) j) q) is ∙ ap (λ t. get t q) (at_end kept x) ∙ e

at_drop : (cs : List Child) (n : ℕ) (c : Child) (rest : List Child) → drop n cs ≡ c ∷ rest → slice_get cs n ≡ Some c
at_drop [] zero c rest e = cc
at_drop [] (suc n) c rest e = cc
at_drop (d ∷ cs) zero c rest e = let same : d ≡ c = cc in ap Some same
at_drop (d ∷ cs) (suc n) c rest e = at_drop cs n c rest e

past_drop : (cs : List Child) (n : ℕ) (c : Child) (rest : List Child) → drop n cs ≡ c ∷ rest → drop (suc n) cs ≡ rest
past_drop [] zero c rest e = cc
past_drop [] (suc n) c rest e = cc
past_drop (d ∷ cs) zero c rest e = let same : cs ≡ rest = cc in same
past_drop (d ∷ cs) (suc n) c rest e = past_drop cs n c rest e

-- what a kept child row is
record ChildRow (s : TableState) (parents : Table) (c : Child) (q row : Row) : Type 0 where
  there : get (table_at s c.table) q ≡ Some row
  selected : selects c.filter row ≡ true
  refers : Refers parents (slice_get s.schema c.table.0) row

child_row : (s : TableState) (parents : Table) (c : Child) (q row : Row) → get (child_rows s parents c) q ≡ Some row → ChildRow s parents c q row
child_row s parents c q row e =
    let p = passed (is_kept s parents c) (table_at s c.table) q row e in
    record { there = p.there; selected = left_of _ _ p.good; refers = refers parents (slice_get s.schema c.table.0) row (right_of _ _ p.good) }

-- the same row, referring to a parent in another table
kept_row : (s : TableState) (parents others : Table) (c : Child) (q row : Row) (r : ChildRow s parents c q row) → get others (key_of (foreign_places r.refers.definition.foreign_key) row) ≡ Some r.refers.parent → get (child_rows s others c) q ≡ Some row
kept_row s parents others c q row r there =
    passing (is_kept s others c) (table_at s c.table) q row r.there (both_of _ _ r.selected (ap (λ o. refers_to_one others o row) r.refers.is ∙ ap is_some there))

same_is : (q k : Row) → is_same q k ≡ true → q ≡ k
same_is q k e = by (key_order q k) refl e
  where
    by : (o : Ordering) → key_order q k ≡ o → is_eq o ≡ true → q ≡ k
    by Less tie h = cc
    by Equal tie h = key_exact q k tie
    by Greater tie h = cc

is_same_self : (k : Row) → is_same k k ≡ true
is_same_self k = (eq_by_cmp_equiv key_total).refl k

record Inst (s : TableState) (tree : Tree) (k : Row) (V I : List Table) : Type 0 where
  len : length I ≡ length V
  part : (i : ℕ) (q row : Row) → IsIn I i q row → IsIn V i q row
  apart : (i : ℕ) (q row : Row) → IsIn I i q row → (n : ℕ) → i ≤ n → root_within n s tree i q ≡ Some k
  whole : (i : ℕ) (q row : Row) → IsIn V i q row → (n : ℕ) → i ≤ n → root_within n s tree i q ≡ Some k → IsIn I i q row

module _ (s : TableState) (tree : Tree) where
  abbrev Rooted : ℕ → Row → Row → Type 0
  Rooted i q root = (n : ℕ) → i ≤ n → root_within n s tree i q ≡ Some root

  abbrev AllRooted : List Table → Type 0
  AllRooted V = (i : ℕ) (q row : Row) → IsIn V i q row → (root : Row) × Rooted i q root

  module _ (d : ℕ) (c : Child) (rest : List Child) (at : drop d tree.children ≡ c ∷ rest) where
    step_eq : (q row : Row) (def : TableDef) → get (table_at s c.table) q ≡ Some row → slice_get s.schema c.table.0 ≡ Some def → (n : ℕ) → root_within (suc n) s tree (suc d) q ≡ root_within n s tree c.parent (key_of (foreign_places def.foreign_key) row)
    step_eq q row def there is n =
        ap (option_and_then (λ (child : Child). option_and_then (root_within n s tree child.parent) (parent_key s child q))) (at_drop tree.children d c rest at)
        ∙ ap (option_and_then (root_within n s tree c.parent)) (ap (option_and_then (λ (r : Row). option_map (λ (f : TableDef). key_of (foreign_places f.foreign_key) r) (slice_get s.schema c.table.0))) there ∙ ap (option_map (λ (f : TableDef). key_of (foreign_places f.foreign_key) row)) is)

    rooted_last : (q row : Row) (def : TableDef) → get (table_at s c.table) q ≡ Some row → slice_get s.schema c.table.0 ≡ Some def → (root : Row) → c.parent ≤ d → Rooted c.parent (key_of (foreign_places def.foreign_key) row) root → Rooted (suc d) q root
    rooted_last q row def there is root low up zero le = absurd (omega arith)
    rooted_last q row def there is root low up (suc n) le = step_eq q row def there is n ∙ up n (omega arith)

    all_step : (V : List Table) → length V ≡ suc d → AllRooted V → AllRooted (V ++ child_rows s (kept_at V c.parent) c ∷ [])
    all_step V len all i q row e = by (spot V (child_rows s (kept_at V c.parent) c) i q row e)
      where
        by : Spot V (child_rows s (kept_at V c.parent) c) i q row → (root : Row) × Rooted i q root
        by (inl h) = all i q row h
        by (inr p) =
            let is = p.0 in let h = p.1 in
            let r = child_row s (kept_at V c.parent) c q row h in
            let above : c.parent < length V = within V c.parent _ r.refers.parent r.refers.there in
            let low : c.parent ≤ d = omega arith in
            let up = all c.parent _ r.refers.parent r.refers.there in
            (up.0, subst (λ j. Rooted j q up.0) (sym (is ∙ len)) (rooted_last q row r.refers.definition r.there r.refers.is up.0 low up.1))

    module _ (k : Row) (V I : List Table) (long : length V ≡ suc d) (g : Inst s tree k V I) where
      abbrev X : Table
      X = child_rows s (kept_at V c.parent) c

      abbrev Y : Table
      Y = child_rows s (kept_at I c.parent) c

      inst_step : Inst s tree k (V ++ X ∷ []) (I ++ Y ∷ [])
      inst_step = record {
        len = length_more I Y ∙ ap suc g.len ∙ sym (length_more V X);
        part = λ i q row e. part i q row (spot I Y i q row e);
        apart = λ i q row e. apart i q row (spot I Y i q row e);
        whole = λ i q row e n le r. whole i q row n le r (spot V X i q row e);
      }
        where
          part : (i : ℕ) (q row : Row) → Spot I Y i q row → IsIn (V ++ X ∷ []) i q row
          part i q row (inl h) = to_front V X i q row (g.part i q row h)
          part i q row (inr p) =
              let is = p.0 in let h = p.1 in
              let r = child_row s (kept_at I c.parent) c q row h in
              to_end V X i q row (is ∙ g.len) (kept_row s (kept_at I c.parent) (kept_at V c.parent) c q row r (g.part c.parent _ r.refers.parent r.refers.there))

          apart : (i : ℕ) (q row : Row) → Spot I Y i q row → Rooted i q k
          apart i q row (inl h) = g.apart i q row h
          apart i q row (inr p) =
              let is = p.0 in let h = p.1 in
              let r = child_row s (kept_at I c.parent) c q row h in
              let above : c.parent < length I = within I c.parent _ r.refers.parent r.refers.there in
              let same : length I ≡ length V = g.len in
              let low : c.parent ≤ d = omega arith in
              subst (λ j. Rooted j q k) (sym (is ∙ g.len ∙ long)) (rooted_last q row r.refers.definition r.there r.refers.is k low (g.apart c.parent _ r.refers.parent r.refers.there))

          below : (q row : Row) (r : ChildRow s (kept_at V c.parent) c q row) (n : ℕ) → suc d ≤ n → root_within n s tree (suc d) q ≡ Some k → IsIn I c.parent (key_of (foreign_places r.refers.definition.foreign_key) row) r.refers.parent
          below q row r zero le is = absurd (omega arith)
          below q row r (suc n) le is =
              let above : c.parent < length V = within V c.parent _ r.refers.parent r.refers.there in
              let low : c.parent ≤ n = omega arith in
              g.whole c.parent _ r.refers.parent r.refers.there n low (sym (step_eq q row r.refers.definition r.there r.refers.is n) ∙ is)

          whole : (i : ℕ) (q row : Row) (n : ℕ) → i ≤ n → root_within n s tree i q ≡ Some k → Spot V X i q row → IsIn (I ++ Y ∷ []) i q row
          whole i q row n le is (inl h) = to_front I Y i q row (g.whole i q row h n le is)
          whole i q row n le is (inr p) =
              let end : i ≡ length V = p.0 in let h = p.1 in
              let r = child_row s (kept_at V c.parent) c q row h in
              let le' : suc d ≤ n = omega (arith, end, long) in
              to_end I Y i q row (end ∙ sym g.len) (kept_row s (kept_at V c.parent) (kept_at I c.parent) c q row r (below q row r n le' (subst (λ j. root_within n s tree j q ≡ Some k) (end ∙ long) is)))

  all_steps : (cs : List Child) (d : ℕ) (V : List Table) → drop d tree.children ≡ cs → length V ≡ suc d → AllRooted V → AllRooted (with_children s cs V)
  all_steps [] d V at len all = all
  all_steps (c ∷ cs) d V at len all =
      all_steps cs (suc d) (V ++ child_rows s (kept_at V c.parent) c ∷ []) (past_drop tree.children d c cs at) (length_more V (child_rows s (kept_at V c.parent) c) ∙ ap suc len) (all_step d c cs at V len all)

  inst_steps : (k : Row) (cs : List Child) (d : ℕ) (V I : List Table) → drop d tree.children ≡ cs → length V ≡ suc d → Inst s tree k V I → Inst s tree k (with_children s cs V) (with_children s cs I)
  inst_steps k [] d V I at len g = g
  inst_steps k (c ∷ cs) d V I at len g =
      inst_steps k cs (suc d) (V ++ child_rows s (kept_at V c.parent) c ∷ []) (I ++ child_rows s (kept_at I c.parent) c ∷ []) (past_drop tree.children d c cs at) (length_more V (child_rows s (kept_at V c.parent) c) ∙ ap suc len) (inst_step d c cs at k V I len g)

  length_all : (cs : List Child) (V : List Table) → length (with_children s cs V) ≡ length V + length cs
  length_all [] V = omega arith
  length_all (c ∷ cs) V =
      let rest = length_all cs (V ++ child_rows s (kept_at V c.parent) c ∷ []) in
      let more = length_more V (child_rows s (kept_at V c.parent) c) in
      omega (arith, rest, more)

  -- the root alone
  abbrev R : Table
  R = root_rows s tree.root

  root_is : (q row : Row) → get R q ≡ Some row → (n : ℕ) → root_within n s tree 0 q ≡ Some q
  root_is q row e n = ap (λ o. cond (is_some o) (Some q) None) (passed (selects tree.root.filter) (table_at s tree.root.table) q row e).there

  all_first : AllRooted (R ∷ [])
  all_first zero q row e = (q, λ n le. root_is q row e n)
  all_first (suc i) q row e = let lt : suc i < length (R ∷ []) = within (R ∷ []) (suc i) q row e in absurd (omega arith)

  module _ (k : Row) where
    inst_first : Inst s tree k (R ∷ []) (only k R ∷ [])
    inst_first = record { len = refl; part = part; apart = apart; whole = whole }
      where
        split : (q row : Row) → get (only k R) q ≡ Some row → (is_same q k ≡ true) × (get R q ≡ Some row)
        split q row e = by (is_same q k) refl (sym (get_only k R q) ∙ e)
          where
            by : (b : Bool) → is_same q k ≡ b → cond b (get R q) None ≡ Some row → (is_same q k ≡ true) × (get R q ≡ Some row)
            by true is h = (is, h)
            by false is h = cc

        part : (i : ℕ) (q row : Row) → IsIn (only k R ∷ []) i q row → IsIn (R ∷ []) i q row
        part zero q row e = (split q row e).1
        part (suc i) q row e = let lt : suc i < length (only k R ∷ []) = within (only k R ∷ []) (suc i) q row e in absurd (omega arith)

        apart : (i : ℕ) (q row : Row) → IsIn (only k R ∷ []) i q row → Rooted i q k
        apart zero q row e n le = root_is q row (split q row e).1 n ∙ ap Some (same_is q k (split q row e).0)
        apart (suc i) q row e n le = let lt : suc i < length (only k R ∷ []) = within (only k R ∷ []) (suc i) q row e in absurd (omega arith)

        whole : (i : ℕ) (q row : Row) → IsIn (R ∷ []) i q row → (n : ℕ) → i ≤ n → root_within n s tree i q ≡ Some k → IsIn (only k R ∷ []) i q row
        whole zero q row e n le is =
            let mine : root_within n s tree 0 q ≡ Some q = root_is q row e n in
            let both : Some q ≡ Some k = sym mine ∙ is in
            let same : q ≡ k = cc in
            get_only k R q ∙ ap (λ b. cond b (get R q) None) (ap (λ x. is_same x k) same ∙ is_same_self k) ∙ e
        whole (suc i) q row e n le is = let lt : suc i < length (R ∷ []) = within (R ∷ []) (suc i) q row e in absurd (omega arith)

    the_instance : Inst s tree k (with_children s tree.children (R ∷ [])) (with_children s tree.children (only k R ∷ []))
    the_instance = inst_steps k tree.children 0 (R ∷ []) (only k R ∷ []) refl refl inst_first

  low_place : (i : ℕ) (q row : Row) → IsIn (with_children s tree.children (R ∷ [])) i q row → i ≤ length tree.children
  low_place i q row e =
      let lt = within (with_children s tree.children (R ∷ [])) i q row e in
      let long : length (with_children s tree.children (R ∷ [])) ≡ 1 + length tree.children = length_all tree.children (R ∷ []) in
      omega (arith, lt, long)

  pub is_part : IsPart s tree
  is_part root place key row e = (the_instance root).part place key row e

  pub is_covered : IsCovered s tree
  is_covered place key row e =
      let r = all_steps tree.children 0 (R ∷ []) refl refl all_first place key row e in
      let at = r.1 (length tree.children) (low_place place key row e) in
      (r.0, at, (the_instance r.0).whole place key row e (length tree.children) (low_place place key row e) at)

  pub is_apart : IsApart s tree
  is_apart root place key row e = (the_instance root).apart place key row e (length tree.children) (low_place place key row ((the_instance root).part place key row e))
