-- The tables of groups, and which group has a table.
use Rattle.std.proofs.Common.{◌≡◌, ℕ, suc, Bool, true, false, cond, not, ◌&&◌, ◌||◌, nat_eq, Option, Some, None, is_some, List, [], ◌∷◌, ◌++◌, slice_get, map, position, refl, sym, ap, subst, ◌∙◌}
use Rattle.std.specs.Option.{option_and_then, option_map}
use Rattle.std.specs.List.{filter, find, list_any}
use Rattle.std.proofs.lemmas.List.Folds.{list_any-append}
use Rattle.tier_base.specs.declared.number.TableId.{TableId}
use Rattle.table_state.specs.Copies.{is_one_of}
use Rattle.table_state.specs.declared.operation.Op.{Op}
use Rattle.table_state.specs.Operations.{table_of}
use Rattle.instances.specs.declared.tree.Child.{Child}
use Rattle.instances.specs.declared.tree.Tree.{Tree}
use Rattle.instances.specs.Trees.{place_of, same_table}
use Rattle.order_laws.specs.Sides.{are_on}
use Rattle.order_laws.specs.Standing.{live_tables}
use Rattle.order_laws.proofs.TruthLaws.{never_both, or_true}
use Rattle.cache_tier.specs.Commits.{live_group, tables_of}
use Rattle.cache_tier.specs.Groups.{Group, covers, group_over, is_read_only, is_table_of, is_writethrough}
use Rattle.cache_tier.specs.StandingBetween.{Each, HaveOwnTables, are_written_through, live_groups_of}
use Rattle.cache_tier.proofs.ShownTrees.{found_by_place}

pub not_true : (b : Bool) → not b ≡ true → b ≡ false
not_true true e = Prim.cc
not_true false e = refl

pub read_only_not : (g : Group) → is_writethrough g ≡ true → is_read_only g ≡ false
read_only_not g e = not_true (is_read_only g) e

-- whether an element passes, by the first that does

pub any_found : {X : Type 0} (p : X → Bool) (xs : List X) → is_some (find p xs) ≡ list_any p xs
any_found p [] = refl
any_found p (x ∷ xs) = by (p x) (any_found p xs)
  where
    by : (b : Bool) → is_some (find p xs) ≡ list_any p xs → is_some (cond b (Some x) (find p xs)) ≡ (b || list_any p xs)
    by true rest = refl
    by false rest = rest

pub find_passes : {X : Type 0} (p : X → Bool) (xs : List X) (x : X) → find p xs ≡ Some x → p x ≡ true
find_passes p [] x e = Prim.cc
find_passes p (y ∷ xs) x e = by (p y) refl e (find_passes p xs x)
  where
    by : (b : Bool) → p y ≡ b → cond b (Some y) (find p xs) ≡ Some x → (find p xs ≡ Some x → p x ≡ true) → p x ≡ true
    by true is h rest = let same : y ≡ x = Prim.cc in ap p (sym same) ∙ is
    by false is h rest = rest h

-- what holds of each holds of the one that is found
pub each_found : {X : Type 0} (P : X → Type 0) (p : X → Bool) (xs : List X) (x : X) → Each P xs → find p xs ≡ Some x → P x
each_found P p [] x all e = Prim.cc
each_found {X = X} P p (y ∷ xs) x all e = by (p y) e (each_found P p xs x all.1)
  where
    by : (b : Bool) → cond b (Some y) (find p xs) ≡ Some x → (find p xs ≡ Some x → P x) → P x
    by true h rest = let same : y ≡ x = Prim.cc in subst P same all.0
    by false h rest = rest h

pub each_map : {X : Type 0} (P Q : X → Type 0) → ((x : X) → P x → Q x) → (xs : List X) → Each P xs → Each Q xs
each_map P Q f [] all = tt
each_map P Q f (x ∷ xs) all = (f x all.0, each_map P Q f xs all.1)

pub each_changed : {X : Type 0} (P Q : X → Type 0) (change : X → X) → ((x : X) → P x → Q (change x)) → (xs : List X) → Each P xs → Each Q (map change xs)
each_changed P Q change f [] all = tt
each_changed P Q change f (x ∷ xs) all = (f x all.0, each_changed P Q change f xs all.1)

pub each_last : {X : Type 0} (P : X → Type 0) (xs : List X) (x : X) → Each P xs → P x → Each P (xs ++ x ∷ [])
each_last P [] x all one = (one, tt)
each_last P (y ∷ xs) x all one = (all.0, each_last P xs x all.1 one)

pub each_left : {X : Type 0} (P : X → Type 0) (p : X → Bool) (xs : List X) → Each P xs → Each P (filter p xs)
each_left P p [] all = tt
each_left {X = X} P p (x ∷ xs) all = by (p x) (each_left P p xs all.1)
  where
    by : (b : Bool) → Each P (filter p xs) → Each P (cond b (x ∷ filter p xs) (filter p xs))
    by true rest = (all.0, rest)
    by false rest = rest

-- tables of trees

placed : {X : Type 0} (p : X → Bool) (xs : List X) → is_some (position p xs) ≡ list_any p xs
placed {X = X} p xs = by (position p xs) refl
  where
    by : (o : Option ℕ) → position p xs ≡ o → is_some o ≡ list_any p xs
    by None e = ap is_some (sym (sym (found_by_place p xs) ∙ ap (option_and_then (slice_get xs)) e)) ∙ any_found p xs
    by (Some i) e = sym (ap (λ (o : Option X). is_some o) (sym (found_by_place p xs) ∙ ap (option_and_then (slice_get xs)) e ∙ (Rattle.cache_tier.proofs.ShownTrees.found_at p xs i e).1)) ∙ any_found p xs

mapped_any : (children : List Child) (t : TableId) → list_any (λ (one : TableId). nat_eq one.0 t.0) (map (λ (child : Child). child.table) children) ≡ list_any (λ (child : Child). same_table child.table t) children
mapped_any [] t = refl
mapped_any (c ∷ children) t = ap (λ b. nat_eq c.table.0 t.0 || b) (mapped_any children t)

pub in_tree : (tree : Tree) (t : TableId) → is_one_of (tables_of tree) t ≡ is_some (place_of tree t)
in_tree tree t = by (same_table tree.root.table t) refl
  where
    mapped : (o : Option ℕ) → is_some (option_map suc o) ≡ is_some o
    mapped None = refl
    mapped (Some i) = refl

    by : (b : Bool) → same_table tree.root.table t ≡ b → is_one_of (tables_of tree) t ≡ is_some (place_of tree t)
    by true e = ap (λ b. b || list_any (λ (one : TableId). nat_eq one.0 t.0) (map (λ (child : Child). child.table) tree.children)) e ∙ sym (ap (λ b. is_some (cond b (Some 0) (option_map suc (position (λ (child : Child). same_table child.table t) tree.children)))) e)
    by false e =
        ap (λ b. b || list_any (λ (one : TableId). nat_eq one.0 t.0) (map (λ (child : Child). child.table) tree.children)) e
        ∙ mapped_any tree.children t ∙ sym (placed (λ (child : Child). same_table child.table t) tree.children) ∙ sym (mapped (position (λ (child : Child). same_table child.table t) tree.children))
        ∙ sym (ap (λ b. is_some (cond b (Some 0) (option_map suc (position (λ (child : Child). same_table child.table t) tree.children)))) e)

-- the live tables are those of writethrough groups
pub live_table : (groups : List Group) (t : TableId) → is_one_of (live_tables (live_groups_of groups)) t ≡ is_table_of is_writethrough groups t
live_table [] t = refl
live_table (g ∷ groups) t = by (is_writethrough g) refl (live_table groups t)
  where
    by : (b : Bool) → is_writethrough g ≡ b → is_one_of (live_tables (live_groups_of groups)) t ≡ is_table_of is_writethrough groups t → is_one_of (live_tables (map live_group (cond (is_writethrough g) (g ∷ filter is_writethrough groups) (filter is_writethrough groups)))) t ≡ ((is_writethrough g && covers t g) || is_table_of is_writethrough groups t)
    by true e rest =
        ap (λ b. is_one_of (live_tables (map live_group (cond b (g ∷ filter is_writethrough groups) (filter is_writethrough groups)))) t) e
        ∙ list_any-append (λ (one : TableId). nat_eq one.0 t.0) (tables_of g.def.tree) (live_tables (live_groups_of groups))
        ∙ (λ i. in_tree g.def.tree t i || rest i)
        ∙ sym (ap (λ b. (b && covers t g) || is_table_of is_writethrough groups t) e)
    by false e rest =
        ap (λ b. is_one_of (live_tables (map live_group (cond b (g ∷ filter is_writethrough groups) (filter is_writethrough groups)))) t) e
        ∙ rest ∙ sym (ap (λ b. (b && covers t g) || is_table_of is_writethrough groups t) e)

pub through_on : (groups : List Group) (ops : List Op) → are_on (live_tables (live_groups_of groups)) ops ≡ are_written_through groups ops
through_on groups [] = refl
through_on groups (op ∷ ops) = λ i. live_table groups (table_of op) i && through_on groups ops i

-- the group that has a table
pub over_is_found : (groups : List Group) (t : TableId) → group_over groups t ≡ find (covers t) groups
over_is_found groups t = found_by_place (covers t) groups

-- a live table, with its group and its place there
pub record LiveTable (groups : List Group) (t : TableId) : Type 0 where
  pub group : Group
  pub found : find (covers t) groups ≡ Some group
  pub through : is_writethrough group ≡ true
  pub place : ℕ
  pub at : place_of group.def.tree t ≡ Some place

pub some_place : (o : Option ℕ) → is_some o ≡ true → (i : ℕ) × (o ≡ Some i)
some_place None e = Prim.cc
some_place (Some i) e = (i, refl)

covered_rest : (groups : List Group) (t : TableId) → is_table_of is_writethrough groups t ≡ true → list_any (covers t) groups ≡ true
covered_rest [] t e = Prim.cc
covered_rest (g ∷ groups) t e = by (is_writethrough g) (covers t g) refl e (covered_rest groups t)
  where
    by : (a b : Bool) → covers t g ≡ b → ((a && b) || is_table_of is_writethrough groups t) ≡ true → (is_table_of is_writethrough groups t ≡ true → list_any (covers t) groups ≡ true) → (covers t g || list_any (covers t) groups) ≡ true
    by a true is h rest = ap (λ b. b || list_any (covers t) groups) is
    by true false is h rest = ap (λ b. b || list_any (covers t) groups) is ∙ rest h
    by false false is h rest = ap (λ b. b || list_any (covers t) groups) is ∙ rest h

pub live_at : (groups : List Group) (t : TableId) → HaveOwnTables groups → is_table_of is_writethrough groups t ≡ true → LiveTable groups t
live_at [] t own e = Prim.cc
live_at (g ∷ groups) t own e = by (is_writethrough g) refl (covers t g) refl e (live_at groups t own.1)
  where
    by : (a : Bool) → is_writethrough g ≡ a → (b : Bool) → covers t g ≡ b → ((a && b) || is_table_of is_writethrough groups t) ≡ true → (is_table_of is_writethrough groups t ≡ true → LiveTable groups t) → LiveTable (g ∷ groups) t
    by true a true b h rest =
        let (i, is) = some_place (place_of g.def.tree t) b in
        record { group = g; found = ap (λ c. cond c (Some g) (find (covers t) groups)) b; through = a; place = i; at = is }
    by true a false b h rest = let r = rest h in record { group = r.group; found = ap (λ c. cond c (Some g) (find (covers t) groups)) b ∙ r.found; through = r.through; place = r.place; at = r.at }
    by false a true b h rest = absurd (never_both (list_any (covers t) groups) (covered_rest groups t h) (own.0 t b))
    by false a false b h rest = let r = rest h in record { group = r.group; found = ap (λ c. cond c (Some g) (find (covers t) groups)) b ∙ r.found; through = r.through; place = r.place; at = r.at }

-- a table of a writethrough group is live
pub through_live : (groups : List Group) (t : TableId) (g : Group) → find (covers t) groups ≡ Some g → is_writethrough g ≡ true → is_table_of is_writethrough groups t ≡ true
through_live [] t g e through = Prim.cc
through_live (h ∷ groups) t g e through = by (covers t h) refl e (through_live groups t g)
  where
    by : (b : Bool) → covers t h ≡ b → cond b (Some h) (find (covers t) groups) ≡ Some g → (find (covers t) groups ≡ Some g → is_writethrough g ≡ true → is_table_of is_writethrough groups t ≡ true) → ((is_writethrough h && covers t h) || is_table_of is_writethrough groups t) ≡ true
    by true b x rest = let same : h ≡ g = Prim.cc in (λ i. (ap is_writethrough same ∙ through) i && b i || is_table_of is_writethrough groups t)
    by false b x rest = ap (λ c. (is_writethrough h && covers t h) || c) (rest x through) ∙ or_true (is_writethrough h && covers t h)

-- another table of its group is found there, too
pub same_found : (groups : List Group) (t u : TableId) (g : Group) → HaveOwnTables groups → find (covers t) groups ≡ Some g → covers u g ≡ true → find (covers u) groups ≡ Some g
same_found [] t u g own e in_g = Prim.cc
same_found (h ∷ groups) t u g own e in_g = by (covers t h) refl e (same_found groups t u g own.1)
  where
    by : (b : Bool) → covers t h ≡ b → cond b (Some h) (find (covers t) groups) ≡ Some g → (find (covers t) groups ≡ Some g → covers u g ≡ true → find (covers u) groups ≡ Some g) → cond (covers u h) (Some h) (find (covers u) groups) ≡ Some g
    by true b x rest = let same : h ≡ g = Prim.cc in ap (λ c. cond c (Some h) (find (covers u) groups)) (ap (covers u) same ∙ in_g) ∙ ap Some same
    by false b x rest = of (covers u h) refl
      where
        of : (c : Bool) → covers u h ≡ c → cond (covers u h) (Some h) (find (covers u) groups) ≡ Some g
        of true c = let found = rest x in_g in absurd (never_both (list_any (covers u) groups) (sym (any_found (covers u) groups) ∙ ap (λ (o : Option Group). is_some o) found) (own.0 u c))
        of false c = ap (λ d. cond d (Some h) (find (covers u) groups)) c ∙ rest x in_g

-- each group is the one that has its tables
abbrev pub IsFound : List Group → Group → Type 0
IsFound groups g = (u : TableId) → covers u g ≡ true → find (covers u) groups ≡ Some g

pub each_own : (groups : List Group) → HaveOwnTables groups → Each (IsFound groups) groups
each_own [] own = tt
each_own (g ∷ groups) own = (λ u e. ap (λ b. cond b (Some g) (find (covers u) groups)) e, each_map (IsFound groups) (IsFound (g ∷ groups)) further groups (each_own groups own.1))
  where
    further : (h : Group) → IsFound groups h → IsFound (g ∷ groups) h
    further h found u e = by (covers u g) refl
      where
        by : (b : Bool) → covers u g ≡ b → cond (covers u g) (Some g) (find (covers u) groups) ≡ Some h
        by true c = absurd (never_both (list_any (covers u) groups) (sym (any_found (covers u) groups) ∙ ap (λ (o : Option Group). is_some o) (found u e)) (own.0 u c))
        by false c = ap (λ b. cond b (Some g) (find (covers u) groups)) c ∙ found u e
