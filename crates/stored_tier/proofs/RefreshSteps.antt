-- Steps of the loops of a refresh.
use Rattle.std.proofs.Common.{◌≡◌, ◌≤◌, ◌<◌, ◌⊎◌, inl, inr, ℕ, zero, suc, ◌+◌, Bool, true, false, not, cond, ◌&&◌, ◌||◌, nat_eq, nat_lt, ltb, Option, Some, None, Result, Ok, Err, IfOk, is_some, List, [], ◌∷◌, ◌++◌, length, map, find, get_or, set, slice_get, take, drop, unwrap_or, count_by, refl, sym, ap, subst, ◌∙◌, append_assoc, arith}
use Rattle.std.proofs.lemmas.Bool.{eq-eqb, eqb-true}
use Rattle.std.proofs.lemmas.List.{append-nil, length-map, map-append}
use Rattle.std.proofs.lemmas.List.Sums.{count_by_more_no, count_by_more_yes}
use Rattle.std.specs.Option.{option_map}
use Rattle.std.specs.FinMap.{contains_key, empty_of_len, entries, get-empty, len, len-entries}
use Rattle.row_types.specs.Order.{key_order}
use Rattle.row_types.specs.declared.value.Value.{Value}
use Rattle.indexed_rows.specs.Places.{IsKeyAt}
use Rattle.indexed_rows.specs.Rows.{Table}
use Rattle.indexed_rows.proofs.EntryLaws.{same_itself}
use Rattle.indexed_rows.proofs.MapLaws.{has_key}
use Rattle.slot_rows.specs.SlotKeys.{RowsHeld}
use Rattle.tier_base.specs.declared.number.TableId.{TableId}
use Rattle.table_state.specs.Tables.{TableState}
use Rattle.instances.specs.declared.tree.Child.{Child}
use Rattle.instances.specs.declared.tree.Tree.{Tree}
use Rattle.group_store.specs.Stores.{Kept}
use Rattle.group_catalog.specs.Catalogs.{groups_in}
use Rattle.cache_tier.specs.Commits.{tables_of}
use Rattle.cache_tier.specs.Groups.{Group, is_key}
use Rattle.cache_tier.specs.Sets.{Choice, alone, changed_from, has_something, holds_some, is_in_set, shows_something}
use Rattle.cache_tier.specs.TierStates.{SetState, Tier, is_of_interval}
use Rattle.stored_tier.specs.declared.moments.SetMoment.{SetMoment}
use Rattle.stored_tier.specs.declared.refreshing.Made.{Made}
use Rattle.stored_tier.specs.declared.tier.Tier.{Tier as Stored}
use Rattle.stored_tier.specs.Stored.{IsStoredAs, without_list}
use Rattle.stored_tier.specs.Refreshing.{AreMade, IsMade, IsMadeAt, exchanged, has_moment, is_chosen_by, is_chosen_in, is_noted, moment_in, moments_with, put_at, tables_read}
use Rattle.stored_tier.specs.Moments.{set_seen}
use Rattle.stored_tier.proofs.FillSteps.{drop_one, drop_past, mapped_at, take_one, take_past}

drop_none : {X : Type 0} (l : List X) → drop 0 l ≡ l
drop_none [] = refl
drop_none (x ∷ l) = refl

-- the tables of trees

pub tables_begun : (chosen : Choice) (groups : List Group) → [] ++ tables_read chosen 0 (drop 0 groups) ≡ tables_read chosen 0 groups
tables_begun chosen groups = ap (tables_read chosen 0) (drop_none groups)

read_one : (chosen : Choice) (groups : List Group) (i : ℕ) (g : Group) → slice_get groups i ≡ Some g → tables_read chosen i (drop i groups) ≡ cond (chosen i g) (tables_of g.def.tree) [] ++ tables_read chosen (i + 1) (drop (i + 1) groups)
read_one chosen groups i g at =
    let z : suc i ≡ i + 1 = omega arith in
    ap (tables_read chosen i) (drop_one groups i g at) ∙ ap (λ n. cond (chosen i g) (tables_of g.def.tree) [] ++ tables_read chosen n (drop (i + 1) groups)) z

pub tables_taken : (chosen : Choice) (groups : List Group) (i : ℕ) (g : Group) (old new start : List TableId) → slice_get groups i ≡ Some g → chosen i g ≡ true → new ≡ old ++ tables_of g.def.tree
    → old ++ tables_read chosen i (drop i groups) ≡ start → new ++ tables_read chosen (i + 1) (drop (i + 1) groups) ≡ start
tables_taken chosen groups i g old new start at c is before =
    ap (λ l. l ++ tables_read chosen (i + 1) (drop (i + 1) groups)) is
    ∙ append_assoc old (tables_of g.def.tree) (tables_read chosen (i + 1) (drop (i + 1) groups))
    ∙ ap (λ b. old ++ (cond b (tables_of g.def.tree) [] ++ tables_read chosen (i + 1) (drop (i + 1) groups))) (sym c)
    ∙ ap (λ l. old ++ l) (sym (read_one chosen groups i g at)) ∙ before

pub tables_passed : (chosen : Choice) (groups : List Group) (i : ℕ) (g : Group) (old start : List TableId) → slice_get groups i ≡ Some g → chosen i g ≡ false → old ++ tables_read chosen i (drop i groups) ≡ start
    → old ++ tables_read chosen (i + 1) (drop (i + 1) groups) ≡ start
tables_passed chosen groups i g old start at c before =
    ap (λ b. old ++ (cond b (tables_of g.def.tree) [] ++ tables_read chosen (i + 1) (drop (i + 1) groups))) (sym c)
    ∙ ap (λ l. old ++ l) (sym (read_one chosen groups i g at)) ∙ before

none_past : {X : Type 0} (xs : List X) (i : ℕ) → slice_get xs i ≡ None → length xs ≤ i
none_past [] i none = omega arith
none_past (x ∷ xs) zero none = cc
none_past (x ∷ xs) (suc i) none = let le = none_past xs i none in omega (arith, le)

pub tables_none : (chosen : Choice) (groups : List Group) (i : ℕ) (old start : List TableId) → slice_get groups i ≡ None → old ++ tables_read chosen i (drop i groups) ≡ start → old ++ tables_read chosen (i + 1) (drop (i + 1) groups) ≡ start
tables_none chosen groups i old start none before =
    let le = none_past groups i none in
    ap (λ l. old ++ tables_read chosen (i + 1) l) (drop_past groups (i + 1) (omega (arith, le)))
    ∙ ap (λ l. old ++ tables_read chosen i l) (sym (drop_past groups i le)) ∙ before

pub tables_end : (chosen : Choice) (groups : List Group) (i : ℕ) (old start : List TableId) → length groups ≤ i → old ++ tables_read chosen i (drop i groups) ≡ start → old ≡ start
tables_end chosen groups i old start le before = sym (append-nil old) ∙ ap (λ l. old ++ tables_read chosen i l) (sym (drop_past groups i le)) ∙ before

abbrev table_in : Child → TableId
table_in child = child.table

pub child_pushed : (tree : Tree) (i : ℕ) (c : Child) (start now next : List TableId) → slice_get tree.children i ≡ Some c → now ≡ start ++ tree.root.table ∷ map (λ (x : Child). x.table) (take i tree.children) → next ≡ now ++ c.table ∷ []
    → next ≡ start ++ tree.root.table ∷ map (λ (x : Child). x.table) (take (i + 1) tree.children)
child_pushed tree i c start now next at before is =
    is ∙ ap (λ l. l ++ c.table ∷ []) before
    ∙ append_assoc start (tree.root.table ∷ map (λ (x : Child). x.table) (take i tree.children)) (c.table ∷ [])
    ∙ ap (λ l. start ++ tree.root.table ∷ l) (sym (last_mapped (take i tree.children) c) ∙ ap (map (λ (x : Child). x.table)) (sym (take_one tree.children i c at)))
  where
    last_mapped : (l : List Child) (x : Child) → map (λ (y : Child). y.table) (l ++ x ∷ []) ≡ map (λ (y : Child). y.table) l ++ x.table ∷ []
    last_mapped [] x = refl
    last_mapped (y ∷ l) x = ap (λ r. y.table ∷ r) (last_mapped l x)

pub none_pushed : (tree : Tree) (i : ℕ) (start now : List TableId) → slice_get tree.children i ≡ None → now ≡ start ++ tree.root.table ∷ map (λ (x : Child). x.table) (take i tree.children) → now ≡ start ++ tree.root.table ∷ map (λ (x : Child). x.table) (take (i + 1) tree.children)
none_pushed tree i start now none before =
    let le = none_past tree.children i none in
    before ∙ ap (λ l. start ++ tree.root.table ∷ map (λ (x : Child). x.table) l) (take_past tree.children i le ∙ sym (take_past tree.children (i + 1) (omega (arith, le))))

pub all_pushed : (tree : Tree) (i : ℕ) (start now : List TableId) → length tree.children ≤ i → now ≡ start ++ tree.root.table ∷ map (λ (x : Child). x.table) (take i tree.children) → now ≡ start ++ tables_of tree
all_pushed tree i start now le before = before ∙ ap (λ l. start ++ tree.root.table ∷ map (λ (x : Child). x.table) l) (take_past tree.children i le)

-- stores that are made

pushed : {X : Type 0} (xs : List X) (x : X) (k : ℕ) (y : X) → slice_get (xs ++ x ∷ []) k ≡ Some y → (slice_get xs k ≡ Some y) ⊎ ((k ≡ length xs) × (x ≡ y))
pushed [] x zero y at = inr (refl, (let same : x ≡ y = cc in same))
pushed [] x (suc k) y at = cc
pushed (z ∷ xs) x zero y at = inl at
pushed (z ∷ xs) x (suc k) y at = later (pushed xs x k y at)
  where
    later : (slice_get xs k ≡ Some y) ⊎ ((k ≡ length xs) × (x ≡ y)) → (slice_get (z ∷ xs) (suc k) ≡ Some y) ⊎ ((suc k ≡ length (z ∷ xs)) × (x ≡ y))
    later (inl e) = inl e
    later (inr e) = inr (ap suc e.0, e.1)

pushed_long : {X : Type 0} (xs : List X) (x : X) → length (xs ++ x ∷ []) ≡ length xs + 1
pushed_long [] x = let one : 1 ≡ 0 + 1 = omega arith in one
pushed_long (y ∷ xs) x = let rest = pushed_long xs x in omega (arith, rest)

-- so many groups have what is made of them
pub record MakesUpTo (filled : Choice) (t : Stored) (state : TableState) (n : ℕ) (made : List (Option Made)) : Type 0 where
  pub long : length made ≡ n
  pub each : (k : ℕ) (o : Option Made) → slice_get made k ≡ Some o → IsMadeAt filled t state k o

pub makes_none : (filled : Choice) (t : Stored) (state : TableState) → MakesUpTo filled t state 0 []
makes_none filled t state = record { long = refl; each = λ k o at. cc }

pub makes_more : (filled : Choice) (t : Stored) (state : TableState) (n : ℕ) (made next : List (Option Made)) (o : Option Made) → MakesUpTo filled t state n made → next ≡ made ++ o ∷ [] → IsMadeAt filled t state n o → MakesUpTo filled t state (n + 1) next
makes_more filled t state n made next o before is one = record {
  long = ap length is ∙ pushed_long made o ∙ ap (λ m. m + 1) before.long;
  each = λ k x at. by k x (pushed made o k x (ap (λ l. slice_get l k) (sym is) ∙ at));
}
  where
    by : (k : ℕ) (x : Option Made) → (slice_get made k ≡ Some x) ⊎ ((k ≡ length made) × (o ≡ x)) → IsMadeAt filled t state k x
    by k x (inl at) = before.each k x at
    by k x (inr last) = subst (λ m. IsMadeAt filled t state m x) (sym (last.0 ∙ before.long)) (subst (IsMadeAt filled t state n) last.1 one)

pub makes_all : (filled : Choice) (t : Stored) (state : TableState) (n : ℕ) (made : List (Option Made)) → n ≡ length (groups_in t.catalog) → MakesUpTo filled t state n made → AreMade filled t.schema state (groups_in t.catalog) t.stores.items t.hidden.items made
makes_all filled t state n made all makes = record {
  long = makes.long ∙ all;
  each = λ k g s h o at kept held there. makes.each k o there g s h at kept held;
}

pub if_made : {T E : Type 0} {P Q : T → Type 0} (r : Result T E) → ((o : T) → P o → Q o) → IfOk r P → IfOk r Q
if_made (Ok o) step is = step o is
if_made (Err e) step is = is

pub made_at : (filled : Choice) (t : Stored) (state : TableState) (place : ℕ) (g : Group) (s : Kept) (h : RowsHeld) (o : Option Made) → Some g ≡ slice_get (groups_in t.catalog) place → Some s ≡ slice_get t.stores.items place → Some h ≡ slice_get t.hidden.items place → IsMade (filled place g) t.schema state g s h.table o
    → IsMadeAt filled t state place o
made_at filled t state place g s h o at kept held is x y z x_at y_at z_at =
    let group : Some g ≡ Some x = at ∙ x_at in
    let store : Some s ≡ Some y = kept ∙ y_at in
    let hidden : Some h ≡ Some z = held ∙ z_at in
    let same_group : g ≡ x = cc in
    let same_store : s ≡ y = cc in
    let same_hidden : h ≡ z = cc in
    subst (λ (q : RowsHeld). IsMade (filled place x) t.schema state x y q.table o) same_hidden
    (subst (λ q. IsMade (filled place x) t.schema state x q h.table o) same_store (subst (λ q. IsMade (filled place q) t.schema state q s h.table o) same_group is))

-- stores that are exchanged

none_made : {X : Type 0} (l : List X) → exchanged l [] ≡ l
none_made [] = refl
none_made (z ∷ l) = refl

last_put : {X : Type 0} (stores : List X) (front : List (Option X)) (o : Option X) → exchanged stores (front ++ o ∷ []) ≡ exchanged (put_at (length front) o stores) front
last_put [] front None = refl
last_put [] [] (Some s) = refl
last_put [] (x ∷ front) (Some s) = refl
last_put (y ∷ stores) [] None = ap (λ l. y ∷ l) (none_made stores)
last_put (y ∷ stores) [] (Some s) = ap (λ l. s ∷ l) (none_made stores)
last_put (y ∷ stores) (x ∷ front) None = ap (λ l. unwrap_or x y ∷ l) (last_put stores front None)
last_put (y ∷ stores) (x ∷ front) (Some s) = ap (λ l. unwrap_or x y ∷ l) (last_put stores front (Some s))

none_left : {X : Type 0} (stores : List X) (made : List (Option X)) → length made ≡ 0 → exchanged stores made ≡ stores
none_left [] [] e = refl
none_left (y ∷ stores) [] e = refl
none_left stores (x ∷ made) e = absurd (omega (arith, e))

-- the last of what was made comes in its place
pub put_last : {X : Type 0} (f : Made → X) (old new : List X) (made front : List (Option Made)) (o : Option Made) (n : ℕ) → made ≡ front ++ o ∷ [] → n ≡ length front → new ≡ put_at n (option_map f o) old
    → exchanged new (map (option_map f) front) ≡ exchanged old (map (option_map f) made)
put_last f old new made front o n made_is n_is is =
    ap (λ l. exchanged l (map (option_map f) front)) is
    ∙ ap (λ m. exchanged (put_at m (option_map f o) old) (map (option_map f) front)) (n_is ∙ sym (length-map front (option_map f)))
    ∙ sym (last_put old (map (option_map f) front) (option_map f o))
    ∙ ap (exchanged old) (sym (map-append (option_map f) front (o ∷ [])))
    ∙ ap (λ l. exchanged old (map (option_map f) l)) (sym made_is)

pub none_put : {X : Type 0} (f : Made → X) (old : List X) (made : List (Option Made)) → length made ≡ 0 → exchanged old (map (option_map f) made) ≡ old
none_put f old made e = none_left old (map (option_map f) made) (length-map made (option_map f) ∙ e)

-- positions that are given

abbrev pub before_place : ℕ → Choice → Choice
before_place n chosen place g = nat_lt place n && chosen place g

changed_opt : (c : Choice) (f : Group → Group) (from : ℕ) (groups : List Group) (k : ℕ) → slice_get (changed_from c f from groups) k ≡ option_map (λ g. cond (c (from + k) g) (f g) g) (slice_get groups k)
changed_opt c f from [] k = refl
changed_opt c f from (x ∷ groups) zero = let here : from ≡ from + 0 = omega arith in ap (λ n. Some (cond (c n x) (f x) x)) here
changed_opt c f from (x ∷ groups) (suc k) =
    let here : suc from + k ≡ from + suc k = omega arith in
    changed_opt c f (suc from) groups k ∙ ap (λ n. option_map (λ g. cond (c n g) (f g) g) (slice_get groups k)) here

pub changed_now : (c : Choice) (f : Group → Group) (groups : List Group) (k : ℕ) → slice_get (changed_from c f 0 groups) k ≡ option_map (λ g. cond (c k g) (f g) g) (slice_get groups k)
changed_now c f groups k = let here : 0 + k ≡ k = omega arith in changed_opt c f 0 groups k ∙ ap (λ n. option_map (λ g. cond (c n g) (f g) g) (slice_get groups k)) here

pub same_by_place : (xs ys : List Group) → ((i : ℕ) → slice_get xs i ≡ slice_get ys i) → xs ≡ ys
same_by_place [] [] same = refl
same_by_place [] (y ∷ ys) same = let wrong : None ≡ Some y = same 0 in cc
same_by_place (x ∷ xs) [] same = let wrong : Some x ≡ None = same 0 in cc
same_by_place (x ∷ xs) (y ∷ ys) same =
    let both : Some x ≡ Some y = same 0 in
    let first : x ≡ y = cc in
    let rest = same_by_place xs ys (λ i. same (suc i)) in
    λ i. first i ∷ rest i

-- the same change at each place
pub same_change : (c d : Choice) (f : Group → Group) (groups : List Group) → ((k : ℕ) (g : Group) → slice_get groups k ≡ Some g → c k g ≡ d k g) → changed_from c f 0 groups ≡ changed_from d f 0 groups
same_change c d f groups same = same_by_place (changed_from c f 0 groups) (changed_from d f 0 groups) (λ k. changed_now c f groups k ∙ by k (slice_get groups k) refl ∙ sym (changed_now d f groups k))
  where
    by : (k : ℕ) (o : Option Group) → slice_get groups k ≡ o → option_map (λ g. cond (c k g) (f g) g) (slice_get groups k) ≡ option_map (λ g. cond (d k g) (f g) g) (slice_get groups k)
    by k None e = ap (option_map (λ g. cond (c k g) (f g) g)) e ∙ sym (ap (option_map (λ g. cond (d k g) (f g) g)) e)
    by k (Some g) e = ap (option_map (λ x. cond (c k x) (f x) x)) e ∙ ap (λ b. Some (cond b (f g) g)) (same k g e) ∙ sym (ap (option_map (λ x. cond (d k x) (f x) x)) e)

-- no change
pub no_change : (c : Choice) (f : Group → Group) (from : ℕ) (groups : List Group) → ((k : ℕ) (g : Group) → c k g ≡ false) → changed_from c f from groups ≡ groups
no_change c f from [] none = refl
no_change c f from (x ∷ groups) none =
    let first : cond (c from x) (f x) x ≡ x = ap (λ b. cond b (f x) x) (none from x) in
    let rest = no_change c f (suc from) groups none in
    λ i. first i ∷ rest i

below_none : (k : ℕ) → nat_lt k 0 ≡ false
below_none k = by (nat_lt k 0) refl
  where
    by : (b : Bool) → nat_lt k 0 ≡ b → b ≡ false
    by false e = refl
    by true e = let lt : k < 0 = Rattle.std.proofs.Common.ltb-true k 0 e in absurd (omega (arith, lt))

pub positions_begun : (c : Choice) (f : Group → Group) (groups : List Group) → groups ≡ changed_from (before_place 0 c) f 0 groups
positions_begun c f groups = sym (no_change (before_place 0 c) f 0 groups (λ k g. ap (λ b. b && c k g) (below_none k)))

lt_is : (a b : ℕ) → a < b → nat_lt a b ≡ true
lt_is a b lt = by (nat_lt a b) refl
  where
    by : (t : Bool) → nat_lt a b ≡ t → t ≡ true
    by true e = refl
    by false e = let le : b ≤ a = Rattle.std.proofs.Common.ltb-false a b e in absurd (omega (arith, lt, le))

ge_is : (a b : ℕ) → b ≤ a → nat_lt a b ≡ false
ge_is a b le = by (nat_lt a b) refl
  where
    by : (t : Bool) → nat_lt a b ≡ t → t ≡ false
    by false e = refl
    by true e = let lt : a < b = Rattle.std.proofs.Common.ltb-true a b e in absurd (omega (arith, lt, le))

slice_within : {X : Type 0} (xs : List X) (i : ℕ) (x : X) → slice_get xs i ≡ Some x → i < length xs
slice_within [] i x at = cc
slice_within (y ∷ xs) zero x at = omega arith
slice_within (y ∷ xs) (suc i) x at = let lt = slice_within xs i x at in omega (arith, lt)

pub positions_end : (c : Choice) (f : Group → Group) (groups : List Group) (n : ℕ) → length groups ≤ n → changed_from (before_place n c) f 0 groups ≡ changed_from c f 0 groups
positions_end c f groups n le = same_change (before_place n c) c f groups (λ k g at. ap (λ b. b && c k g) (lt_is k n (let lt = slice_within groups k g at in omega (arith, lt, le))))

module _ (c : Choice) (f : Group → Group) (groups now : List Group) (n : ℕ) (is : now ≡ changed_from (before_place n c) f 0 groups) where
  -- the group at the place is as it was
  at_place_now : slice_get now n ≡ slice_get groups n
  at_place_now = ap (λ l. slice_get l n) is ∙ changed_now (before_place n c) f groups n ∙ by (slice_get groups n)
    where
      by : (o : Option Group) → option_map (λ g. cond (nat_lt n n && c n g) (f g) g) o ≡ o
      by None = refl
      by (Some g) = ap (λ b. Some (cond (b && c n g) (f g) g)) (ge_is n n (omega arith))

  chosen_now : is_chosen_in c now n ≡ is_chosen_in c groups n
  chosen_now = ap (is_chosen_by c n) at_place_now

  -- elsewhere the tests are the same
  elsewhere : (k : ℕ) (g : Group) → nat_eq k n ≡ false → before_place n c k g ≡ before_place (n + 1) c k g
  elsewhere k g other = ap (λ b. b && c k g) (by (nat_lt k n) refl)
    where
      by : (b : Bool) → nat_lt k n ≡ b → nat_lt k n ≡ nat_lt k (n + 1)
      by true e = let lt : k < n = Rattle.std.proofs.Common.ltb-true k n e in e ∙ sym (lt_is k (n + 1) (omega (arith, lt)))
      by false e =
          let le : n ≤ k = Rattle.std.proofs.Common.ltb-false k n e in
          of (nat_lt k (n + 1)) refl
        where
          of : (t : Bool) → nat_lt k (n + 1) ≡ t → nat_lt k n ≡ nat_lt k (n + 1)
          of false h = e ∙ sym h
          of true h =
              let lt : k < n + 1 = Rattle.std.proofs.Common.ltb-true k (n + 1) h in
              let ge : n ≤ k = Rattle.std.proofs.Common.ltb-false k n e in
              let same : k ≡ n = omega (arith, lt, ge) in
              let wrong : true ≡ false = sym (eq-eqb k n same) ∙ other in cc

  pub position_given : is_chosen_in c now n ≡ true → changed_from (alone n) f 0 now ≡ changed_from (before_place (n + 1) c) f 0 groups
  position_given chosen =
      same_by_place (changed_from (alone n) f 0 now) (changed_from (before_place (n + 1) c) f 0 groups)
      (λ k. changed_now (alone n) f now k ∙ by k (nat_eq k n) refl ∙ sym (changed_now (before_place (n + 1) c) f groups k))
    where
      by : (k : ℕ) (b : Bool) → nat_eq k n ≡ b → option_map (λ g. cond (nat_eq k n) (f g) g) (slice_get now k) ≡ option_map (λ g. cond (before_place (n + 1) c k g) (f g) g) (slice_get groups k)
      by k true e =
          let same : k ≡ n = eqb-true k n e in
          ap (λ t. option_map (λ g. cond t (f g) g) (slice_get now k)) e
          ∙ ap (λ m. option_map f (slice_get now m)) same ∙ ap (option_map f) at_place_now
          ∙ here (slice_get groups n) (sym chosen_now ∙ chosen)
          ∙ ap (λ m. option_map (λ g. cond (before_place (n + 1) c m g) (f g) g) (slice_get groups m)) (sym same)
        where
          here : (o : Option Group) → is_chosen_by c n o ≡ true → option_map f o ≡ option_map (λ g. cond (before_place (n + 1) c n g) (f g) g) o
          here None none = cc
          here (Some g) picked = ap (λ t. Some (cond t (f g) g)) (sym ((λ i. lt_is n (n + 1) (omega arith) i && picked i)))
      by k false e =
          ap (λ t. option_map (λ g. cond t (f g) g) (slice_get now k)) e
          ∙ there (slice_get now k)
          ∙ ap (λ l. slice_get l k) is ∙ changed_now (before_place n c) f groups k
          ∙ again (slice_get groups k)
        where
          there : (o : Option Group) → option_map (λ g. g) o ≡ o
          there None = refl
          there (Some g) = refl

          again : (o : Option Group) → option_map (λ g. cond (before_place n c k g) (f g) g) o ≡ option_map (λ g. cond (before_place (n + 1) c k g) (f g) g) o
          again None = refl
          again (Some g) = ap (λ t. Some (cond t (f g) g)) (elsewhere k g e)

  pub position_kept : is_chosen_in c now n ≡ false → now ≡ changed_from (before_place (n + 1) c) f 0 groups
  position_kept unchosen = is ∙ same_change (before_place n c) (before_place (n + 1) c) f groups (λ k g at. by k g at (nat_eq k n) refl)
    where
      by : (k : ℕ) (g : Group) → slice_get groups k ≡ Some g → (b : Bool) → nat_eq k n ≡ b → before_place n c k g ≡ before_place (n + 1) c k g
      by k g at false e = elsewhere k g e
      by k g at true e =
          let same : k ≡ n = eqb-true k n e in
          let none : c n g ≡ false = sym (ap (is_chosen_by c n) (ap (slice_get groups) (sym same) ∙ at)) ∙ sym chosen_now ∙ unchosen in
          let none_k : c k g ≡ false = ap (λ m. c m g) same ∙ none in
          and_none (nat_lt k n) (c k g) none_k ∙ sym (and_none (nat_lt k (n + 1)) (c k g) none_k)
        where
          and_none : (x y : Bool) → y ≡ false → (x && y) ≡ false
          and_none true y h = h
          and_none false y h = refl

-- moments of sets

pub moment_pushed : (sets : List SetMoment) (interval i : ℕ) → moment_in (sets ++ record { interval = interval; refreshed = 0 } ∷ []) i ≡ moment_in sets i
moment_pushed [] interval i = by (nat_eq interval i)
  where
    by : (b : Bool) → unwrap_or (option_map (λ (s : SetState). s.refreshed) (cond b (Some (record { interval = interval; refreshed = 0 })) None)) 0 ≡ 0
    by true = refl
    by false = refl
moment_pushed (s ∷ sets) interval i = by (nat_eq s.interval i) (moment_pushed sets interval i)
  where
    by : (b : Bool) → moment_in (sets ++ record { interval = interval; refreshed = 0 } ∷ []) i ≡ moment_in sets i
        → unwrap_or (option_map (λ (x : SetState). x.refreshed) (cond b (Some (set_seen s)) (find (is_of_interval i) (map set_seen (sets ++ record { interval = interval; refreshed = 0 } ∷ []))))) 0
        ≡ unwrap_or (option_map (λ (x : SetState). x.refreshed) (cond b (Some (set_seen s)) (find (is_of_interval i) (map set_seen sets)))) 0
    by true rest = refl
    by false rest = rest

pub moment_there : (sets : List SetMoment) (s : SetMoment) → has_moment (sets ++ s ∷ []) s.interval ≡ true
moment_there [] s = ap (λ b. b || false) (eq-eqb s.interval s.interval refl)
moment_there (x ∷ sets) s = ap (λ b. nat_eq x.interval s.interval || b) (moment_there sets s) ∙ by (nat_eq x.interval s.interval)
  where
    by : (b : Bool) → (b || true) ≡ true
    by true = refl
    by false = refl

pub moment_stays : (sets : List SetMoment) (s : SetMoment) (i : ℕ) → has_moment sets i ≡ true → has_moment (sets ++ s ∷ []) i ≡ true
moment_stays [] s i e = cc
moment_stays (x ∷ sets) s i e = by (nat_eq x.interval i) e (moment_stays sets s i)
  where
    by : (b : Bool) → (b || has_moment sets i) ≡ true → (has_moment sets i ≡ true → has_moment (sets ++ s ∷ []) i ≡ true) → (b || has_moment (sets ++ s ∷ []) i) ≡ true
    by true e rest = refl
    by false e rest = rest e

-- small steps

pub seen_there : {X : Type 0} (o : Option X) (f : X → Group) (groups : List Group) (i : ℕ) (x : X) → option_map f o ≡ slice_get groups i → o ≡ Some x → slice_get groups i ≡ Some (f x)
seen_there o f groups i x e is = sym e ∙ ap (option_map f) is

pub seen_none : {X : Type 0} (o : Option X) (f : X → Group) (groups : List Group) (i : ℕ) → option_map f o ≡ slice_get groups i → o ≡ None → slice_get groups i ≡ None
seen_none o f groups i e is = sym e ∙ ap (option_map f) is

pub chosen_within : (c : Choice) (groups : List Group) (n : ℕ) → is_chosen_in c groups n ≡ true → n < length groups
chosen_within c groups n e = by (slice_get groups n) refl e
  where
    by : (o : Option Group) → slice_get groups n ≡ o → is_chosen_by c n o ≡ true → n < length groups
    by None is h = cc
    by (Some g) is h = slice_within groups n g is

-- the size of a set

pub got : {X : Type 0} (xs : List X) (i : ℕ) (x d : X) → slice_get xs i ≡ Some x → get_or xs i d ≡ x
got [] i x d at = cc
got (y ∷ xs) zero x d at = cc
got (y ∷ xs) (suc i) x d at = got xs i x d at

pub counted_in : (test : Group → Bool) (groups : List Group) (i size next : ℕ) (g : Group) → slice_get groups i ≡ Some g → test g ≡ true → next ≡ size + 1 → size ≡ count_by test (take i groups) → next ≡ count_by test (take (i + 1) groups)
counted_in test groups i size next g at e is before =
    let more = count_by_more_yes test groups i g (slice_within groups i g at) (ap test (got groups i g g at) ∙ e) in
    omega (arith, more, is, before)

pub counted_out : (test : Group → Bool) (groups : List Group) (i size next : ℕ) (g : Group) → slice_get groups i ≡ Some g → test g ≡ false → next ≡ size → size ≡ count_by test (take i groups) → next ≡ count_by test (take (i + 1) groups)
counted_out test groups i size next g at e is before =
    is ∙ before ∙ sym (count_by_more_no test groups i g (slice_within groups i g at) (ap test (got groups i g g at) ∙ e))

pub counted_none : (test : Group → Bool) (groups : List Group) (i size next : ℕ) → slice_get groups i ≡ None → next ≡ size → size ≡ count_by test (take i groups) → next ≡ count_by test (take (i + 1) groups)
counted_none test groups i size next none is before =
    let le = none_past groups i none in
    is ∙ before ∙ ap (count_by test) (take_past groups i le ∙ sym (take_past groups (i + 1) (omega (arith, le))))

pub counted_all : (test : Group → Bool) (groups : List Group) (i size : ℕ) → length groups ≤ i → size ≡ count_by test (take i groups) → size ≡ count_by test groups
counted_all test groups i size le before = before ∙ ap (count_by test) (take_past groups i le)

-- whether a set has something to show

pub shows_one : (interval : ℕ) (groups : List Group) (i : ℕ) (g : Group) → slice_get groups i ≡ Some g → shows_something interval (drop i groups) ≡ ((is_in_set interval g && has_something g) || shows_something interval (drop (i + 1) groups))
shows_one interval groups i g at = ap (shows_something interval) (drop_one groups i g at)

some_at : {X : Type 0} (xs : List X) (i : ℕ) → i < length xs → (x : X) × (slice_get xs i ≡ Some x)
some_at [] i lt = absurd (omega (arith, lt))
some_at (x ∷ xs) zero lt = (x, refl)
some_at (x ∷ xs) (suc i) lt = some_at xs i (omega (arith, lt))

-- what the group at a place shows in a set
pub shows_there : (interval place : ℕ) (groups : List Group) (b : Bool) → place < length groups → ((g : Group) → slice_get groups place ≡ Some g → b ≡ (is_in_set interval g && has_something g))
    → shows_something interval (drop place groups) ≡ (b || shows_something interval (drop (place + 1) groups))
shows_there interval place groups b lt is =
    let (g, at) = some_at groups place lt in
    shows_one interval groups place g at ∙ ap (λ x. x || shows_something interval (drop (place + 1) groups)) (sym (is g at))

pub none_shown : (interval place : ℕ) (groups : List Group) → length groups ≤ place → shows_something interval (drop place groups) ≡ false
none_shown interval place groups le = ap (shows_something interval) (drop_past groups place le)

pub all_shown : (interval : ℕ) (groups : List Group) → shows_something interval (drop 0 groups) ≡ shows_something interval groups
all_shown interval groups = ap (shows_something interval) (drop_none groups)

-- the group that is stored at a place
pub stored_group : (t : Stored) (a : Tier) (place : ℕ) (g h : Group) → IsStoredAs t a → slice_get a.groups place ≡ Some g → Some h ≡ slice_get (groups_in t.catalog) place → h ≡ without_list g
stored_group t a place g h is at there =
    let both : Some h ≡ Some (without_list g) = there ∙ ap (λ l. slice_get l place) (sym is.groups) ∙ mapped_at without_list a.groups place g at in cc

pub no_group_stored : (t : Stored) (a : Tier) (place : ℕ) (g : Group) → IsStoredAs t a → slice_get a.groups place ≡ Some g → None ≡ slice_get (groups_in t.catalog) place → ⊥
no_group_stored t a place g is at there =
    let both : None ≡ Some (without_list g) = there ∙ ap (λ l. slice_get l place) (sym is.groups) ∙ mapped_at without_list a.groups place g at in cc

pub in_set_bare : (t : Stored) (a : Tier) (place interval : ℕ) (g h : Group) → IsStoredAs t a → slice_get a.groups place ≡ Some g → Some h ≡ slice_get (groups_in t.catalog) place → is_in_set interval h ≡ is_in_set interval g
in_set_bare t a place interval g h is at there = ap (is_in_set interval) (stored_group t a place g h is at there)

pub loaded_something : (t : Stored) (a : Tier) (place : ℕ) (g h : Group) → IsStoredAs t a → slice_get a.groups place ≡ Some g → Some h ≡ slice_get (groups_in t.catalog) place → h.def.dynamic ≡ false → h.loaded ≡ has_something g
loaded_something t a place g h is at there explicit =
    let same = stored_group t a place g h is at there in
    let dynamic : g.def.dynamic ≡ false = ap (λ (x : Group). x.def.dynamic) (sym same) ∙ explicit in
    ap (λ (x : Group). x.loaded) same ∙ sym (ap (λ b. cond (not b) g.loaded (holds_some g.keys)) dynamic)

pub listed_something : (g : Group) (b : Bool) → g.def.dynamic ≡ true → b ≡ holds_some g.keys → b ≡ has_something g
listed_something g b dynamic is = is ∙ sym (ap (λ d. cond (not d) g.loaded (holds_some g.keys)) dynamic)

-- whether the list of a dynamic group has a key

some_entry : (m : Table) → 0 < len m → (k : List Value) × (contains_key m k ≡ true)
some_entry m lt =
    let place = key_there m 0 lt in
    (place.0, has_key m place.0 0 place.1)
  where
    key_there : (m : Table) (i : ℕ) → i < len m → (k : List Value) × IsKeyAt (entries m) k i
    key_there m i h = by (entries m) i (subst (λ n. i < n) (len-entries m) h)
      where
        by : (es : List (List Value × List Value)) (i : ℕ) → i < length es → (k : List Value) × IsKeyAt es k i
        by [] i h = absurd (omega (arith, h))
        by (e ∷ es) zero h = (e.0, refl)
        by (e ∷ es) (suc i) h = by es i (omega (arith, h))

some_key : (keys : List (List Value)) (k : List Value) → is_key keys k ≡ true → holds_some keys ≡ true
some_key [] k e = cc
some_key (x ∷ keys) k e = refl

no_entry : (m : Table) → nat_lt 0 (len m) ≡ false → (k : List Value) → contains_key m k ≡ false
no_entry m none k = ap (λ (x : Table). contains_key x k) (empty_of_len m (let le : len m ≤ 0 = Rattle.std.proofs.Common.ltb-false 0 (len m) none in omega (arith, le))) ∙ ap is_some (get-empty key_order k)

no_key : (keys : List (List Value)) → ((k : List Value) → is_key keys k ≡ false) → holds_some keys ≡ false
no_key [] none = refl
no_key (x ∷ keys) none = let wrong : true ≡ false = sym (ap (λ b. b || is_key keys x) (same_itself x x refl)) ∙ none x in cc

-- of keys that are those of two tables
pub some_held : (keys : List (List Value)) (roots hidden : Table) → ((k : List Value) → is_key keys k ≡ (contains_key roots k || contains_key hidden k)) → (nat_lt 0 (len roots) || nat_lt 0 (len hidden)) ≡ holds_some keys
some_held keys roots hidden are = by (nat_lt 0 (len roots)) refl (nat_lt 0 (len hidden)) refl
  where
    or_true : (b : Bool) → (b || true) ≡ true
    or_true true = refl
    or_true false = refl

    by : (a : Bool) → nat_lt 0 (len roots) ≡ a → (b : Bool) → nat_lt 0 (len hidden) ≡ b → (nat_lt 0 (len roots) || nat_lt 0 (len hidden)) ≡ holds_some keys
    by true p b q =
        let e = some_entry roots (Rattle.std.proofs.Common.ltb-true 0 (len roots) p) in
        ap (λ x. x || nat_lt 0 (len hidden)) p ∙ sym (some_key keys e.0 (are e.0 ∙ ap (λ x. x || contains_key hidden e.0) e.1))
    by false p true q =
        let e = some_entry hidden (Rattle.std.proofs.Common.ltb-true 0 (len hidden) q) in
        (λ i. p i || q i) ∙ sym (some_key keys e.0 (are e.0 ∙ ap (λ x. contains_key roots e.0 || x) e.1 ∙ or_true (contains_key roots e.0)))
    by false p false q = (λ i. p i || q i) ∙ sym (no_key keys (λ k. are k ∙ (λ i. no_entry roots p k i || no_entry hidden q k i)))

-- the moments so far

pub moment_passed : (interval now : ℕ) (sets old : List SetMoment) (i : ℕ) (s : SetMoment) (next : List SetMoment) → slice_get old i ≡ Some s → sets ≡ moments_with interval now (take i old) ++ drop i old
    → next ≡ set sets i (cond (is_noted interval s) (record s { refreshed = now }) s) → next ≡ moments_with interval now (take (i + 1) old) ++ drop (i + 1) old
moment_passed interval now sets old i s next at before is =
    is ∙ ap (λ l. set l i (cond (is_noted interval s) (record s { refreshed = now }) s)) before ∙ by old i at
  where
    by : (l : List SetMoment) (k : ℕ) → slice_get l k ≡ Some s → set (map (λ x. cond (is_noted interval x) (record x { refreshed = now }) x) (take k l) ++ drop k l) k (cond (is_noted interval s) (record s { refreshed = now }) s)
        ≡ map (λ x. cond (is_noted interval x) (record x { refreshed = now }) x) (take (k + 1) l) ++ drop (k + 1) l
    by [] k e = cc
    by (x ∷ l) zero e = let same : x ≡ s = cc in λ j. cond (is_noted interval (sym same j)) (record (sym same j) { refreshed = now }) (sym same j) ∷ l
    by (x ∷ l) (suc k) e =
        let z : suc k + 1 ≡ suc (k + 1) = omega arith in
        ap (λ r. cond (is_noted interval x) (record x { refreshed = now }) x ∷ r) (by l k e)
        ∙ ap (λ m. map (λ y. cond (is_noted interval y) (record y { refreshed = now }) y) (take m (x ∷ l)) ++ drop m (x ∷ l)) (sym z)

pub stays_past : {X Y : Type 0} (f : List X → Y) (xs : List X) (i : ℕ) → slice_get xs i ≡ None → f (drop (i + 1) xs) ≡ f (drop i xs)
stays_past f xs i none = let le = none_past xs i none in ap f (drop_past xs (i + 1) (omega (arith, le)) ∙ sym (drop_past xs i le))

pub set_at : (sets old : List SetMoment) (interval now i : ℕ) (s : SetMoment) → length sets ≡ length old → sets ≡ moments_with interval now (take i old) ++ drop i old → s ≡ get_or sets i s → i < length old → slice_get old i ≡ Some s
set_at sets old interval now i s long is s_is lt = there old i lt ∙ ap (λ x. Some x) (sym (s_is ∙ ap (λ l. get_or l i s) is ∙ passed old i lt))
  where
    there : (l : List SetMoment) (k : ℕ) → k < length l → slice_get l k ≡ Some (get_or l k s)
    there [] k lt = absurd (omega (arith, lt))
    there (x ∷ l) zero lt = refl
    there (x ∷ l) (suc k) lt = there l k (omega (arith, lt))

    passed : (l : List SetMoment) (k : ℕ) → k < length l → get_or (moments_with interval now (take k l) ++ drop k l) k s ≡ get_or l k s
    passed [] k lt = absurd (omega (arith, lt))
    passed (x ∷ l) zero lt = refl
    passed (x ∷ l) (suc k) lt = passed l k (omega (arith, lt))

pub set_long : (sets : List SetMoment) (i : ℕ) (s : SetMoment) → length (set sets i s) ≡ length sets
set_long [] i s = refl
set_long (x ∷ sets) zero s = refl
set_long (x ∷ sets) (suc i) s = ap suc (set_long sets i s)

pub set_same : (sets : List SetMoment) (i : ℕ) (s : SetMoment) → slice_get sets i ≡ Some s → set sets i s ≡ sets
set_same [] i s at = refl
set_same (x ∷ sets) zero s at = let same : x ≡ s = cc in λ j. sym same j ∷ sets
set_same (x ∷ sets) (suc i) s at = ap (λ l. x ∷ l) (set_same sets i s at)

pub same_got : (xs : List SetMoment) (i : ℕ) (a b : SetMoment) → i < length xs → a ≡ get_or xs i a → b ≡ get_or xs i b → a ≡ b
same_got xs i a b lt a_is b_is = a_is ∙ by xs i lt ∙ sym b_is
  where
    by : (l : List SetMoment) (k : ℕ) → k < length l → get_or l k a ≡ get_or l k b
    by [] k lt = absurd (omega (arith, lt))
    by (x ∷ l) zero lt = refl
    by (x ∷ l) (suc k) lt = by l k (omega (arith, lt))

pub there_now : (xs : List SetMoment) (i : ℕ) (a : SetMoment) → i < length xs → a ≡ get_or xs i a → slice_get xs i ≡ Some a
there_now xs i a lt is = by xs i lt ∙ ap (λ y. Some y) (sym is)
  where
    by : (l : List SetMoment) (k : ℕ) → k < length l → slice_get l k ≡ Some (get_or l k a)
    by [] k lt = absurd (omega (arith, lt))
    by (x ∷ l) zero lt = refl
    by (x ∷ l) (suc k) lt = by l k (omega (arith, lt))

pub noted_here : (interval now : ℕ) (s : SetMoment) → s.interval ≡ interval → cond (is_noted interval s) (record s { refreshed = now }) s ≡ record { interval = s.interval; refreshed = now }
noted_here interval now s e = ap (λ b. cond b (record s { refreshed = now }) s) (eq-eqb s.interval interval e)

pub not_noted : (interval now : ℕ) (s : SetMoment) → (s.interval ≡ interval → ⊥) → cond (is_noted interval s) (record s { refreshed = now }) s ≡ s
not_noted interval now s differ = ap (λ b. cond b (record s { refreshed = now }) s) (by (nat_eq s.interval interval) refl)
  where
    by : (b : Bool) → nat_eq s.interval interval ≡ b → b ≡ false
    by false e = refl
    by true e = absurd (differ (eqb-true s.interval interval e))

pub none_more : (n m : ℕ) → n ≡ m → (0 < n → false ≡ true) → m ≡ 0
none_more n zero e none = refl
none_more n (suc m) e none = let wrong : false ≡ true = none (omega (arith, e)) in cc
