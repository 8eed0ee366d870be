-- What an accepted definition leaves of its tables and conditions.
use Rattle.std.proofs.Common.{◌≡◌, ◌∙◌, ℕ, zero, suc, ◌+◌, List, [], ◌∷◌, ◌++◌, Option, Some, None, Bool, true, false, ◌&&◌, ◌||◌, not, nat_eq, Ok, ap, refl, sym, subst, map, arith, slice_get, is_some, nat_lt, length, position, if◌then◌else◌}
use Rattle.std.proofs.lemmas.Bool.{eqb-true}
use Rattle.std.proofs.lemmas.Bool.Decides.{nat_tests}
use Rattle.std.specs.List.{list_any, prefix_len}
use Rattle.std.specs.Option.{option_map, option_or}
use Rattle.tier_base.specs.declared.number.TableId.{TableId}
use Rattle.row_types.specs.declared.rule.Rule.{Rule}
use Rattle.expressions.specs.Trees.{Cond}
use Rattle.table_defs.specs.declared.definition.ForeignKey.{ForeignKey}
use Rattle.table_defs.specs.declared.definition.TableDef.{TableDef}
use Rattle.table_defs.specs.Names.{place_of_table}
use Rattle.table_state.specs.Copies.{is_one_of}
use Rattle.instances.specs.declared.tree.Child.{Child}
use Rattle.instances.specs.declared.tree.Tree.{Tree}
use Rattle.instances.specs.Trees.{place_of, same_table}
use Rattle.order_laws.specs.Sides.{IsClosed}
use Rattle.resolution.specs.Placing.{filter_seen, placed_filter}
use Rattle.sql_query.specs.Trees.{ConditionTree}
use Rattle.sql_subset.specs.declared.stmt.GroupTable.{GroupTable}
use Rattle.cache_tier.specs.Definitions.{AreChildrenOf, IsTreeOf, Placed, has_filter, is_grouped, is_inside, is_name_among, is_joined_outside, is_referred_to, placed_from, placed_if, refers_inside, refers_out, scope_of}
use Rattle.cache_tier.specs.declared.group.GroupDef.{GroupDef}
use Rattle.cache_tier.specs.Groups.{is_defined_on}
use Rattle.cache_tier.specs.Rules.{broken_if}
use Rattle.group_catalog.proofs.ListLaws.{any_map}
use Rattle.group_catalog.specs.Sound.{AreUnfiltered, IsUnfiltered, tables_of_tree}

pub or_none : (a b : Option Rule) → option_or a b ≡ None → (a ≡ None) × (b ≡ None)
or_none None b e = (refl, e)
or_none (Some x) b e = cc

pub unbroken : (b : Bool) (r : Rule) → broken_if b r ≡ None → b ≡ false
unbroken true r e = cc
unbroken false r e = refl

either_false : (a b : Bool) → (a || b) ≡ false → (a ≡ false) × (b ≡ false)
either_false true b e = cc
either_false false b e = (refl, e)

-- no table has a condition
no_filter : (f : Option Cond) → filter_seen f ≡ None → f ≡ None
no_filter None e = refl
no_filter (Some c) e = cc

filter_gone : (p : Placed) (f : Option Cond) (written : Option ConditionTree) → is_some written ≡ false
    → placed_filter (scope_of p) written ≡ Ok (filter_seen f) → f ≡ None
filter_gone p f None clear e = no_filter f cc
filter_gone p f (Some w) clear e = cc

children_unfiltered : (ps : List Placed) (cs : List Child) → list_any has_filter ps ≡ false → AreChildrenOf ps cs → AreUnfiltered cs
children_unfiltered [] [] clear are = tt
children_unfiltered (p ∷ ps) (c ∷ cs) clear are =
    let both : (has_filter p ≡ false) × (list_any has_filter ps ≡ false) = either_false (has_filter p) (list_any has_filter ps) clear in
    (filter_gone p c.filter p.it.filter both.0 are.0.filter, children_unfiltered ps cs both.1 are.1)
children_unfiltered [] (c ∷ cs) clear are = absurd are
children_unfiltered (p ∷ ps) [] clear are = absurd are

pub tree_unfiltered : (ps : List Placed) (tree : Tree) → list_any has_filter ps ≡ false → IsTreeOf ps tree → IsUnfiltered tree
tree_unfiltered [] tree clear is = absurd is
tree_unfiltered (p ∷ ps) tree clear is =
    let both : (has_filter p ≡ false) × (list_any has_filter ps ≡ false) = either_false (has_filter p) (list_any has_filter ps) clear in
    (filter_gone p tree.root.filter p.it.filter both.0 is.0.filter, children_unfiltered ps tree.children both.1 is.1)

-- the tables of the definition are those of the tree
children_inside : (ps : List Placed) (cs : List Child) (t : TableId) → AreChildrenOf ps cs
    → is_inside ps t ≡ is_one_of (map (λ (c : Child). c.table) cs) t
children_inside [] [] t are = refl
children_inside (p ∷ ps) (c ∷ cs) t are =
    ap (λ (i : TableId). nat_eq i.0 t.0 || is_inside ps t) (sym are.0.table)
    ∙ ap (λ b. nat_eq c.table.0 t.0 || b) (children_inside ps cs t are.1)
children_inside [] (c ∷ cs) t are = absurd are
children_inside (p ∷ ps) [] t are = absurd are

pub tree_inside : (ps : List Placed) (tree : Tree) (t : TableId) → IsTreeOf ps tree → is_inside ps t ≡ is_one_of (tables_of_tree tree) t
tree_inside [] tree t is = absurd is
tree_inside (p ∷ ps) tree t is =
    ap (λ (i : TableId). nat_eq i.0 t.0 || is_inside ps t) (sym is.0.table)
    ∙ ap (λ b. nat_eq tree.root.table.0 t.0 || b) (children_inside ps tree.children t is.1)

-- each is placed where its definition stands
abbrev pub StandAt : List TableDef → List Placed → Type 0
StandAt schema [] = Unit {0}
StandAt schema (p ∷ ps) = (slice_get schema p.id.0 ≡ Some p.def) × StandAt schema ps

stand_append : (schema : List TableDef) (ps qs : List Placed) → StandAt schema ps → StandAt schema qs → StandAt schema (ps ++ qs)
stand_append schema [] qs a b = b
stand_append schema (p ∷ ps) qs a b = (a.0, stand_append schema ps qs a.1 b)

one_stands : (schema : List TableDef) (before : List GroupTable) (g : GroupTable) (o : Option TableId) → StandAt schema (placed_if schema before g o)
one_stands schema before g None = tt
one_stands schema before g (Some t) = by (slice_get schema t.0) refl
  where
    by : (d : Option TableDef) → slice_get schema t.0 ≡ d → StandAt schema (placed_if schema before g (Some t))
    by None e = rw e tt
    by (Some def) e = rw e (e, tt)

pub all_stand : (schema : List TableDef) (before gs : List GroupTable) → StandAt schema (placed_from schema before gs)
all_stand schema before [] = tt
all_stand schema before (g ∷ gs) =
    stand_append schema (placed_if schema before g (place_of_table schema g.table.name)) (placed_from schema (before ++ g ∷ []) gs)
    (one_stands schema before g (place_of_table schema g.table.name)) (all_stand schema (before ++ g ∷ []) gs)

-- of a table that stands among these, and whose test fails, the test of its definition fails
fails_at : (schema : List TableDef) (test : Placed → Bool) (Q : TableDef → Type 0) (ps : List Placed) (t : TableId) (def : TableDef)
    → ((p : Placed) → test p ≡ false → Q p.def) → list_any test ps ≡ false → StandAt schema ps
    → list_any (λ (p : Placed). nat_eq p.id.0 t.0) ps ≡ true → slice_get schema t.0 ≡ Some def → Q def
fails_at schema test Q [] t def says clear at there is = cc
fails_at schema test Q (p ∷ ps) t def says clear at there is =
    by (nat_eq p.id.0 t.0) refl there (λ (h : list_any (λ (q : Placed). nat_eq q.id.0 t.0) ps ≡ true). fails_at schema test Q ps t def says both.1 at.1 h is)
  where
    both : (test p ≡ false) × (list_any test ps ≡ false)
    both = either_false (test p) (list_any test ps) clear

    here : nat_eq p.id.0 t.0 ≡ true → p.def ≡ def
    here e =
        let same : p.id.0 ≡ t.0 = eqb-true p.id.0 t.0 e in
        let one : Some p.def ≡ Some def = sym at.0 ∙ ap (slice_get schema) same ∙ is in
        cc

    by : (b : Bool) → nat_eq p.id.0 t.0 ≡ b → (b || list_any (λ (q : Placed). nat_eq q.id.0 t.0) ps) ≡ true
        → (list_any (λ (q : Placed). nat_eq q.id.0 t.0) ps ≡ true → Q def) → Q def
    by true e there more = subst Q (here e) (says p both.0)
    by false e there more = more there

-- nor does one of the schema refer to them from outside
not_referred : (all : List Placed) (schema : List TableDef) (k i m : ℕ) (def : TableDef) → m ≡ k + i → is_referred_to all k schema ≡ false
    → slice_get schema i ≡ Some def → (refers_inside all def.foreign_key && not (is_inside all (record { 0 = m }))) ≡ false
not_referred all [] k i m def eq clear is = cc
not_referred all (d ∷ ds) k zero m def eq clear is =
    let both : ((refers_inside all d.foreign_key && not (is_inside all (record { 0 = k }))) ≡ false) × (is_referred_to all (suc k) ds ≡ false) = either_false _ _ clear in
    let same : d ≡ def = cc in
    let at : m ≡ k = omega arith in
    ap (λ (x : TableDef). refers_inside all x.foreign_key && not (is_inside all (record { 0 = m }))) (sym same)
    ∙ ap (λ (n : ℕ). refers_inside all d.foreign_key && not (is_inside all (record { 0 = n }))) at ∙ both.0
not_referred all (d ∷ ds) k (suc i) m def eq clear is =
    let both : ((refers_inside all d.foreign_key && not (is_inside all (record { 0 = k }))) ≡ false) × (is_referred_to all (suc k) ds ≡ false) = either_false _ _ clear in
    not_referred all ds (suc k) i m def (omega arith) both.1 is

closed_by : (a b : Bool) → (a && not b) ≡ false → (b ≡ true → not a ≡ false) → a ≡ b
closed_by true true one other = refl
closed_by true false one other = cc
closed_by false true one other = let e : true ≡ false = other refl in cc
closed_by false false one other = refl

abbrev NotOut : List Placed → TableDef → Type 0
NotOut all def = (foreign : ForeignKey) → def.foreign_key ≡ Some foreign → not (is_inside all foreign.parent) ≡ false

not_out : (all : List Placed) (p : Placed) → refers_out all p ≡ false → NotOut all p.def
not_out all p e foreign is = by p.def.foreign_key is e
  where
    by : (o : Option ForeignKey) → o ≡ Some foreign → (is_some o && not (refers_inside all o)) ≡ false → not (is_inside all foreign.parent) ≡ false
    by None is e = cc
    by (Some f) is e = let same : f ≡ foreign = cc in subst (λ (x : ForeignKey). not (is_inside all x.parent) ≡ false) same e

pub tree_closed : (schema : List TableDef) (ps : List Placed) (tree : Tree) → is_joined_outside schema ps ≡ false → StandAt schema ps
    → IsTreeOf ps tree → IsClosed (tables_of_tree tree) schema
tree_closed schema ps tree clear at is t def foreign there key =
    let both : (list_any (refers_out ps) ps ≡ false) × (is_referred_to ps 0 schema ≡ false) = either_false (list_any (refers_out ps) ps) (is_referred_to ps 0 schema) clear in
    let in_one : (refers_inside ps def.foreign_key && not (is_inside ps t)) ≡ false = not_referred ps schema 0 t.0 t.0 def (omega arith) both.1 there in
    let in_two : (is_inside ps foreign.parent && not (is_inside ps t)) ≡ false = subst (λ (o : Option ForeignKey). (refers_inside ps o && not (is_inside ps t)) ≡ false) key in_one in
    let out : is_inside ps t ≡ true → not (is_inside ps foreign.parent) ≡ false =
    λ (h : is_inside ps t ≡ true). fails_at schema (refers_out ps) (NotOut ps) ps t def (λ (p : Placed) (e : refers_out ps p ≡ false). not_out ps p e) both.0 at h there foreign key in
    sym (tree_inside ps tree foreign.parent is) ∙ closed_by (is_inside ps foreign.parent) (is_inside ps t) in_two out ∙ tree_inside ps tree t is

position_below : {A : Type 0} (p : A → Bool) (xs : List A) → nat_lt (prefix_len (λ (x : A). not (p x)) xs) (length xs) ≡ list_any p xs
position_below p [] = refl
position_below {A} p (x ∷ xs) = by (p x) (position_below p xs)
  where
    by : (b : Bool) → nat_lt (prefix_len (λ (y : A). not (p y)) xs) (length xs) ≡ list_any p xs
        → nat_lt (if not b then 1 + prefix_len (λ (y : A). not (p y)) xs else 0) (length (x ∷ xs)) ≡ (b || list_any p xs)
    by true ih = grind (arith, nat_tests)
    by false ih =
        let step : nat_lt (1 + prefix_len (λ (y : A). not (p y)) xs) (length (x ∷ xs)) ≡ nat_lt (prefix_len (λ (y : A). not (p y)) xs) (length xs) = grind (arith, nat_tests) in
        step ∙ ih

some_if : (b : Bool) (n : ℕ) → is_some (if b then Some n else None) ≡ b
some_if true n = refl
some_if false n = refl

-- a place is found exactly where one passes
pub position_some : {A : Type 0} (p : A → Bool) (xs : List A) → is_some (position p xs) ≡ list_any p xs
position_some {A} p xs =
    some_if (nat_lt (prefix_len (λ (x : A). not (p x)) xs) (length xs)) (prefix_len (λ (x : A). not (p x)) xs) ∙ position_below p xs

some_map : (o : Option ℕ) → is_some (option_map suc o) ≡ is_some o
some_map None = refl
some_map (Some n) = refl

-- a table has a place in the tree exactly where it is one of the tree's
pub place_one : (tree : Tree) (t : TableId) → is_some (place_of tree t) ≡ is_one_of (tables_of_tree tree) t
place_one tree t = by (nat_eq tree.root.table.0 t.0)
  where
    later : is_some (option_map suc (position (λ (c : Child). same_table c.table t) tree.children)) ≡ is_one_of (map (λ (c : Child). c.table) tree.children) t
    later =
        some_map (position (λ (c : Child). same_table c.table t) tree.children)
        ∙ position_some (λ (c : Child). same_table c.table t) tree.children
        ∙ sym (any_map (λ (i : TableId). nat_eq i.0 t.0) (λ (c : Child). c.table) tree.children)

    by : (b : Bool) → is_some (if b then Some 0 else option_map suc (position (λ (c : Child). same_table c.table t) tree.children))
        ≡ (b || is_one_of (map (λ (c : Child). c.table) tree.children) t)
    by true = refl
    by false = later

-- a table of the definition is in no group
pub not_grouped : (groups : List GroupDef) (ps : List Placed) (t : TableId) → list_any (is_grouped groups) ps ≡ false
    → is_inside ps t ≡ true → list_any (is_defined_on t) groups ≡ false
not_grouped groups [] t clear there = cc
not_grouped groups (p ∷ ps) t clear there =
    by (nat_eq p.id.0 t.0) refl there (λ (h : is_inside ps t ≡ true). not_grouped groups ps t both.1 h)
  where
    both : (is_grouped groups p ≡ false) × (list_any (is_grouped groups) ps ≡ false)
    both = either_false (is_grouped groups p) (list_any (is_grouped groups) ps) clear

    here : nat_eq p.id.0 t.0 ≡ true → list_any (is_defined_on t) groups ≡ false
    here e =
        let number : p.id.0 ≡ t.0 = eqb-true p.id.0 t.0 e in
        let same : p.id ≡ t = (λ j. record { 0 = number j }) in
        subst (λ (i : TableId). list_any (is_defined_on i) groups ≡ false) same
        (either_false (list_any (is_defined_on p.id) groups) (is_name_among p.before p.def.name) both.0).0

    by : (b : Bool) → nat_eq p.id.0 t.0 ≡ b → (b || is_inside ps t) ≡ true → (is_inside ps t ≡ true → list_any (is_defined_on t) groups ≡ false)
        → list_any (is_defined_on t) groups ≡ false
    by true e there more = here e
    by false e there more = more there
