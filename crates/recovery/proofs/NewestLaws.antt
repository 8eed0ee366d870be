-- The groups of a catalog as the laws of recovery keep them: the newest first, each with its name.
use Rattle.std.proofs.Common.{◌≡◌, ℕ, Bool, true, false, cond, not, ◌&&◌, ◌||◌, List, [], ◌∷◌, ◌++◌, map, refl, sym, ap, subst, ◌∙◌}
use Rattle.std.specs.List.{filter, list_any}
use Rattle.std.proofs.lemmas.List.Folds.{list_any-append}
use Rattle.std.specs.Cmp.Lexicographic.{bytes_decides}
use Rattle.tier_base.specs.declared.number.TableId.{TableId}
use Rattle.table_defs.specs.Names.{same_name}
use Rattle.table_defs.specs.declared.definition.TableDef.{TableDef}
use Rattle.table_state.specs.Copies.{is_one_of}
use Rattle.table_state.specs.declared.history.Entry.{Entry}
use Rattle.table_state.specs.declared.history.Sealed.{Sealed}
use Rattle.order_laws.specs.Commits.{LiveGroup}
use Rattle.order_laws.specs.Standing.{GroupIsOrdered, GroupsAreOrdered, live_tables}
use Rattle.recovery_laws.specs.Notes.{Named, live_groups, with_flag, without}
use Rattle.cache_tier.specs.Commits.{live_group, tables_of}
use Rattle.cache_tier.specs.Groups.{Group, covers, is_called, is_read_only, is_table_of, is_writethrough}
use Rattle.cache_tier.specs.StandingBetween.{live_groups_of}
use Rattle.cache_tier.proofs.GroupTables.{in_tree, live_table, read_only_not}

-- a group as the laws see it: a READONLY one writes through to no table
abbrev pub tie : Group → LiveGroup
tie g = record { tables = cond (is_read_only g) [] (tables_of g.def.tree); first = g.first }

abbrev pub Pair : Type 0
Pair = List ℕ × LiveGroup

abbrev pub pair : Group → Pair
pair g = (g.def.name, tie g)

abbrev pub newest : List Group → List Pair
newest [] = []
newest (g ∷ gs) = newest gs ++ pair g ∷ []

-- without what changes of a group
abbrev pub plain : List Named → List Pair
plain [] = []
plain (n ∷ ns) = (n.name, n.group) ∷ plain ns

abbrev pub seconds : List Pair → List LiveGroup
seconds [] = []
seconds (x ∷ xs) = x.1 ∷ seconds xs

pub live_plain : (ns : List Named) → live_groups ns ≡ seconds (plain ns)
live_plain [] = refl
live_plain (n ∷ ns) = ap (λ l. n.group ∷ l) (live_plain ns)

seconds_last : (xs : List Pair) (x : Pair) → seconds (xs ++ x ∷ []) ≡ seconds xs ++ x.1 ∷ []
seconds_last [] x = refl
seconds_last (y ∷ xs) x = ap (λ l. y.1 ∷ l) (seconds_last xs x)

-- a group is defined, and is changed
pub newest_last : (gs : List Group) (g : Group) → newest (gs ++ g ∷ []) ≡ pair g ∷ newest gs
newest_last [] g = refl
newest_last (h ∷ gs) g = ap (λ l. l ++ pair h ∷ []) (newest_last gs g)

pub newest_same : (change : Group → Group) → ((g : Group) → pair (change g) ≡ pair g) → (gs : List Group) → newest (map change gs) ≡ newest gs
newest_same change same [] = refl
newest_same change same (g ∷ gs) = λ i. newest_same change same gs i ++ same g i ∷ []

pub plain_flag : (name : List ℕ) (flag : ℕ) (ns : List Named) → plain (with_flag name flag ns) ≡ plain ns
plain_flag name flag [] = refl
plain_flag name flag (n ∷ ns) = λ i. by (same_name n.name name) i ∷ plain_flag name flag ns i
  where
    seen : Named → Pair
    seen m = (m.name, m.group)

    by : (b : Bool) → seen (cond b (record n { flag = flag }) n) ≡ (n.name, n.group)
    by true = refl
    by false = refl

-- a group is dropped
abbrev pub skip : List ℕ → List Pair → List Pair
skip name [] = []
skip name (x ∷ xs) = cond (same_name x.0 name) xs (x ∷ skip name xs)

pub plain_without : (name : List ℕ) (ns : List Named) → plain (without name ns) ≡ skip name (plain ns)
plain_without name [] = refl
plain_without name (n ∷ ns) = by (same_name n.name name) (plain_without name ns)
  where
    by : (b : Bool) → plain (without name ns) ≡ skip name (plain ns) → plain (cond b ns (n ∷ without name ns)) ≡ cond b (plain ns) ((n.name, n.group) ∷ skip name (plain ns))
    by true rest = refl
    by false rest = ap (λ l. (n.name, n.group) ∷ l) rest

-- no two groups have one name
abbrev pub NamesApart : List Group → Type 0
NamesApart [] = Unit {0}
NamesApart (g ∷ gs) = (list_any (is_called g.def.name) gs ≡ false) × NamesApart gs

abbrev pub named : List ℕ → Pair → Bool
named name x = same_name x.0 name

skip_other : (name : List ℕ) (xs : List Pair) (x : Pair) → same_name x.0 name ≡ false → skip name (xs ++ x ∷ []) ≡ skip name xs ++ x ∷ []
skip_other name [] x e = ap (λ b. cond b [] (x ∷ [])) e
skip_other name (y ∷ xs) x e = by (same_name y.0 name) (skip_other name xs x e)
  where
    by : (b : Bool) → skip name (xs ++ x ∷ []) ≡ skip name xs ++ x ∷ [] → cond b (xs ++ x ∷ []) (y ∷ skip name (xs ++ x ∷ [])) ≡ cond b xs (y ∷ skip name xs) ++ x ∷ []
    by true rest = refl
    by false rest = ap (λ l. y ∷ l) rest

skip_last : (name : List ℕ) (xs : List Pair) (x : Pair) → list_any (named name) xs ≡ false → same_name x.0 name ≡ true → skip name (xs ++ x ∷ []) ≡ xs
skip_last name [] x none e = ap (λ b. cond b [] (x ∷ [])) e
skip_last name (y ∷ xs) x none e = by (same_name y.0 name) none (λ h. skip_last name xs x h e)
  where
    by : (b : Bool) → (b || list_any (named name) xs) ≡ false → (list_any (named name) xs ≡ false → skip name (xs ++ x ∷ []) ≡ xs) → cond b (xs ++ x ∷ []) (y ∷ skip name (xs ++ x ∷ [])) ≡ y ∷ xs
    by true none rest = Prim.cc
    by false none rest = ap (λ l. y ∷ l) (rest none)

pub any_newest : (name : List ℕ) (gs : List Group) → list_any (named name) (newest gs) ≡ list_any (is_called name) gs
any_newest name [] = refl
any_newest name (g ∷ gs) = list_any-append (named name) (newest gs) (pair g ∷ []) ∙ ap (λ b. b || (is_called name g || false)) (any_newest name gs) ∙ turn (list_any (is_called name) gs) (is_called name g)
  where
    turn : (a b : Bool) → (a || (b || false)) ≡ (b || a)
    turn true true = refl
    turn true false = refl
    turn false true = refl
    turn false false = refl

keeps_all : (p : Group → Bool) (gs : List Group) → list_any p gs ≡ false → filter (λ g. not (p g)) gs ≡ gs
keeps_all p [] none = refl
keeps_all p (g ∷ gs) none = by (p g) none (keeps_all p gs)
  where
    by : (b : Bool) → (b || list_any p gs) ≡ false → (list_any p gs ≡ false → filter (λ h. not (p h)) gs ≡ gs) → cond (not b) (g ∷ filter (λ h. not (p h)) gs) (filter (λ h. not (p h)) gs) ≡ g ∷ gs
    by true none rest = Prim.cc
    by false none rest = ap (λ l. g ∷ l) (rest none)

pub newest_without : (name : List ℕ) (gs : List Group) → NamesApart gs → skip name (newest gs) ≡ newest (filter (λ g. not (is_called name g)) gs)
newest_without name [] apart = refl
newest_without name (g ∷ gs) apart = by (is_called name g) refl (newest_without name gs apart.1)
  where
    by : (b : Bool) → is_called name g ≡ b → skip name (newest gs) ≡ newest (filter (λ h. not (is_called name h)) gs) → skip name (newest gs ++ pair g ∷ []) ≡ newest (cond (not b) (g ∷ filter (λ h. not (is_called name h)) gs) (filter (λ h. not (is_called name h)) gs))
    by true e rest =
        let is : g.def.name ≡ name = (bytes_decides g.def.name name).0 e in
        let none : list_any (is_called name) gs ≡ false = ap (λ n. list_any (is_called n) gs) (sym is) ∙ apart.0 in
        skip_last name (newest gs) (pair g) (any_newest name gs ∙ none) e ∙ sym (ap newest (keeps_all (is_called name) gs none))
    by false e rest = skip_other name (newest gs) (pair g) e ∙ ap (λ l. l ++ pair g ∷ []) rest

-- ---- the order of the groups plays no part

ordered_split : (xs ys : List LiveGroup) (h : List Entry) (log : List Sealed) (schema : List TableDef) (next : ℕ) → GroupsAreOrdered (xs ++ ys) h log schema next → GroupsAreOrdered xs h log schema next × GroupsAreOrdered ys h log schema next
ordered_split [] ys h log schema next o = (tt, o)
ordered_split (x ∷ xs) ys h log schema next o = let rest = ordered_split xs ys h log schema next o.1 in ((o.0, rest.0), rest.1)

tie_written : (g : Group) → is_writethrough g ≡ true → tie g ≡ live_group g
tie_written g e = ap (λ b. record { tables = cond b [] (tables_of g.def.tree); first = g.first }) (read_only_not g e)

pub ordered_live : (gs : List Group) (h : List Entry) (log : List Sealed) (schema : List TableDef) (next : ℕ) → GroupsAreOrdered (seconds (newest gs)) h log schema next → GroupsAreOrdered (live_groups_of gs) h log schema next
ordered_live [] h log schema next o = tt
ordered_live (g ∷ gs) h log schema next o = by (is_writethrough g) refl (ordered_live gs h log schema next)
  where
    parts : GroupsAreOrdered (seconds (newest gs)) h log schema next × GroupsAreOrdered (tie g ∷ []) h log schema next
    parts = ordered_split (seconds (newest gs)) (tie g ∷ []) h log schema next (subst (λ l. GroupsAreOrdered l h log schema next) (seconds_last (newest gs) (pair g)) o)

    by : (b : Bool) → is_writethrough g ≡ b → (GroupsAreOrdered (seconds (newest gs)) h log schema next → GroupsAreOrdered (live_groups_of gs) h log schema next) → GroupsAreOrdered (map live_group (cond b (g ∷ filter is_writethrough gs) (filter is_writethrough gs))) h log schema next
    by true e rest = (subst (λ l. GroupIsOrdered l h log schema next) (tie_written g e) parts.1.0, rest parts.0)
    by false e rest = rest parts.0

live_append : (xs : List LiveGroup) (y : LiveGroup) (t : TableId) → is_one_of (live_tables (xs ++ y ∷ [])) t ≡ (is_one_of (live_tables xs) t || is_one_of y.tables t)
live_append [] y t = list_any-append same y.tables [] ∙ none (is_one_of y.tables t)
  where
    same : TableId → Bool
    same one = Rattle.std.proofs.Common.nat_eq one.0 t.0

    none : (a : Bool) → (a || false) ≡ a
    none true = refl
    none false = refl
live_append (x ∷ xs) y t = list_any-append same x.tables (live_tables (xs ++ y ∷ [])) ∙ ap (λ b. is_one_of x.tables t || b) (live_append xs y t) ∙ assoc (is_one_of x.tables t) (is_one_of (live_tables xs) t) (is_one_of y.tables t) ∙ ap (λ b. b || is_one_of y.tables t) (sym (list_any-append same x.tables (live_tables xs)))
  where
    same : TableId → Bool
    same one = Rattle.std.proofs.Common.nat_eq one.0 t.0

    assoc : (a b c : Bool) → (a || (b || c)) ≡ ((a || b) || c)
    assoc true b c = refl
    assoc false b c = refl

pub tie_has : (g : Group) (t : TableId) → is_one_of (tie g).tables t ≡ (is_writethrough g && covers t g)
tie_has g t = by (is_read_only g)
  where
    by : (b : Bool) → is_one_of (cond b [] (tables_of g.def.tree)) t ≡ (not b && covers t g)
    by true = refl
    by false = in_tree g.def.tree t

pub newest_has : (gs : List Group) (t : TableId) → is_one_of (live_tables (seconds (newest gs))) t ≡ is_table_of is_writethrough gs t
newest_has [] t = refl
newest_has (g ∷ gs) t =
    ap (λ l. is_one_of (live_tables l) t) (seconds_last (newest gs) (pair g)) ∙ live_append (seconds (newest gs)) (tie g) t
    ∙ (λ i. newest_has gs t i || tie_has g t i)
    ∙ turn (is_table_of is_writethrough gs t) (is_writethrough g && covers t g)
  where
    turn : (a b : Bool) → (a || b) ≡ (b || a)
    turn true true = refl
    turn true false = refl
    turn false true = refl
    turn false false = refl

pub live_has : (gs : List Group) (t : TableId) → is_one_of (live_tables (live_groups_of gs)) t ≡ is_one_of (live_tables (seconds (newest gs))) t
live_has gs t = live_table gs t ∙ sym (newest_has gs t)
