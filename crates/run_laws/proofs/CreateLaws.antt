-- A group that is defined, where the tier stands behind the definition: it is one that may come.
use Rattle.std.proofs.Common.{◌≡◌, ℕ, Bool, true, false, cond, ◌&&◌, ◌||◌, not, Option, Some, None, List, [], ◌∷◌, ◌++◌, map, filter, slice_get, refl, sym, ap, subst, ◌∙◌}
use Rattle.std.specs.List.{flat_map, list_any}
use Rattle.std.specs.Option.{option_or}
use Rattle.tier_base.specs.declared.code.Code.TheVariants as code
use Rattle.tier_base.specs.declared.number.TableId.{TableId}
use Rattle.row_types.specs.declared.declaration.TableDeclaration.{TableDeclaration}
use Rattle.row_types.specs.declared.rule.Rule.{Rule}
use Rattle.table_defs.specs.Names.{place_of_table}
use Rattle.table_defs.specs.declared.definition.TableDef.{TableDef}
use Rattle.table_state.specs.declared.history.Entry.{Entry}
use Rattle.table_state.specs.declared.history.Sealed.{Sealed}
use Rattle.order_laws.specs.Commits.{LiveGroup}
use Rattle.order_laws.specs.Sides.{IsClosed}
use Rattle.order_laws.specs.Standing.{AreClosed, GroupsAreOrdered}
use Rattle.order_laws.proofs.TruthLaws.{never_both}
use Rattle.instances.specs.declared.tree.Tree.{Tree}
use Rattle.sql_subset.specs.declared.request.Line.TheVariants as says
use Rattle.sql_subset.specs.declared.request.Request.TheVariants as asks_for
use Rattle.sql_subset.specs.declared.stmt.CreateGroup.{CreateGroup}
use Rattle.sql_subset.specs.declared.stmt.GroupTable.{GroupTable}
use Rattle.sql_subset.specs.declared.stmt.Stmt.TheVariants as statement
use Rattle.cache_tier.specs.Commits.{live_group, tables_of}
use Rattle.cache_tier.specs.ConsoleSteps.{asks_schema, is_cached_name}
use Rattle.cache_tier.specs.declared.reply.Reply.{Reply}
use Rattle.cache_tier.specs.Defining.{IsNewGroup}
use Rattle.cache_tier.specs.DefineSteps.{CreatesGroup, with_new_group}
use Rattle.cache_tier.specs.Definitions.{IsTreeOf, Placed, definition_names, names_in, placed_from, placed_if, placed_tables, table_names}
use Rattle.cache_tier.specs.Groups.{Group, covers, definitions_of, is_writethrough}
use Rattle.cache_tier.specs.Order.{refusal}
use Rattle.cache_tier.specs.StandingBetween.{Each, HasNoTableOf, HaveOwnTables, IsCatalogued, Stands, live_groups_of}
use Rattle.cache_tier.specs.Steps.{tells}
use Rattle.cache_tier.specs.TierStates.{ACommit, APassedWrite, Doubt, Doubted, Session, Tier}
use Rattle.cache_tier.specs.Worlds.{World}
use Rattle.cache_tier.proofs.HistoryKeeps.{root_covers}
use Rattle.recovery.specs.Journalled.{IsJournalledOn}
use Rattle.recovery.specs.Recalling.{group_of}
use Rattle.line_laws.proofs.CommitStatements.{creates_made}
use Rattle.run_laws.specs.Lines.{IsInDoubt, IsLeft, IsLeftBy}
use Rattle.run_laws.proofs.ReadyLaws.{Ready}

-- ---- the last of the groups

or_false : (a b : Bool) → (a || b) ≡ false → (a ≡ false) × (b ≡ false)
or_false true b e = Prim.cc
or_false false b e = (refl, e)

each_last : {X : Type 0} (P : X → Type 0) (xs : List X) (x : X) → Each P (xs ++ x ∷ []) → P x
each_last P [] x each = each.0
each_last P (y ∷ xs) x each = each_last P xs x each.1

any_last : {X : Type 0} (p : X → Bool) (xs : List X) (x : X) → list_any p (xs ++ x ∷ []) ≡ false → p x ≡ false
any_last p [] x e = (or_false (p x) false e).0
any_last p (y ∷ xs) x e = any_last p xs x (or_false (p y) (list_any p (xs ++ x ∷ [])) e).1

pub apart_last : (gs : List Group) (g : Group) → HaveOwnTables (gs ++ g ∷ []) → HasNoTableOf gs g
apart_last [] g own t here = refl
apart_last (h ∷ gs) g own t here =
    let rest = apart_last gs g own.1 t here in
    let first : covers t h ≡ false = by (covers t h) refl in
    λ i. first i || rest i
  where
    by : (b : Bool) → covers t h ≡ b → covers t h ≡ false
    by false e = e
    by true e =
        let none = any_last (covers t) gs g (own.0 t e) in
        absurd (never_both (covers t g) here none)

closed_last : (gs : List Group) (g : Group) (schema : List TableDef) → is_writethrough g ≡ true → AreClosed (live_groups_of (gs ++ g ∷ [])) schema → IsClosed (tables_of g.def.tree) schema
closed_last [] g schema through closed = (subst (λ b. AreClosed (map live_group (cond b (g ∷ []) [])) schema) through closed).0
closed_last (x ∷ gs) g schema through closed = by (is_writethrough x) closed (closed_last gs g schema through)
  where
    by : (b : Bool) → AreClosed (map live_group (cond b (x ∷ filter is_writethrough (gs ++ g ∷ [])) (filter is_writethrough (gs ++ g ∷ [])))) schema
        → (AreClosed (live_groups_of (gs ++ g ∷ [])) schema → IsClosed (tables_of g.def.tree) schema) → IsClosed (tables_of g.def.tree) schema
    by true are rest = rest are.1
    by false are rest = rest are

-- ---- the catalog of a tier that stands, or of which a ticket is in doubt

pub record IsInOrder (t : Tier) : Type 0 where
  pub each : Each (IsCatalogued t.schema) t.groups
  pub apart : HaveOwnTables t.groups
  pub closed : t.stale ≡ false → AreClosed (live_groups_of t.groups) t.schema

pub all_closed : (groups : List LiveGroup) (h : List Entry) (log : List Sealed) (schema : List TableDef) (next : ℕ) → GroupsAreOrdered groups h log schema next → AreClosed groups schema
all_closed [] h log schema next ordered = tt
all_closed (g ∷ groups) h log schema next ordered = (ordered.0.closed, all_closed groups h log schema next ordered.1)

order_stands : (w : World) → Stands w → IsInOrder w.tier
order_stands w x = record {
  each = x.catalog.each;
  apart = x.catalog.apart;
  closed = λ fresh. subst (AreClosed (live_groups_of w.tier.groups)) (x.schema.whole x.flow.stand.over.backing fresh x.flow.stand.over.leaves)
      (all_closed (live_groups_of w.tier.groups) w.history w.tier.log x.flow.stand.over.backing.schema w.tier.next x.flow.stand.over.ordered);
}

pub order_left : (w : World) → IsLeft w → IsInOrder w.tier
order_left w x = by w.tier.doubt x
  where
    by : (o : Option Doubt) → IsLeftBy o w → IsInOrder w.tier
    by None x = order_stands w x
    by (Some d) x = of d.of x
      where
        of : (k : Doubted) → IsInDoubt k w → IsInOrder w.tier
        of ACommit x =
            let o = order_stands x.was x.stands in
            subst IsInOrder (sym x.tier) (record { each = o.each; apart = o.apart; closed = o.closed })
        of APassedWrite x =
            let o = order_stands x.was x.stands in
            subst IsInOrder (sym x.tier) (record { each = o.each; apart = o.apart; closed = o.closed })

-- ---- the tables of a definition that the tier asks for

-- the place of the first table that is found is that of a name of the definition
record IsNamed (schema : List TableDef) (names : List (List ℕ)) (id : TableId) : Type 0 where
  name : List ℕ
  among : (p : List ℕ → Bool) → p name ≡ true → list_any p names ≡ true
  place : place_of_table schema name ≡ Some id

right_true : (a b : Bool) → b ≡ true → (a || b) ≡ true
right_true true b e = refl
right_true false b e = e

any_behind : {X : Type 0} (p : X → Bool) (xs ys : List X) → list_any p ys ≡ true → list_any p (xs ++ ys) ≡ true
any_behind p [] ys e = e
any_behind p (x ∷ xs) ys e = right_true (p x) (list_any p (xs ++ ys)) (any_behind p xs ys e)

left_true : (a b : Bool) → a ≡ true → (a || b) ≡ true
left_true true b e = refl
left_true false b e = Prim.cc

name_among : (d : TableDeclaration) (rest : List (List ℕ)) (p : List ℕ → Bool) → p d.name ≡ true → list_any p (names_in d ++ rest) ≡ true
name_among d rest p e = left_true (p d.name) _ e

later_named : (schema : List TableDef) (more names : List (List ℕ)) (id : TableId) → IsNamed schema names id → IsNamed schema (more ++ names) id
later_named schema more names id n = record { name = n.name; among = λ p e. any_behind p more names (n.among p e); place = n.place }

abbrev first_id : TableId → List Placed → TableId
first_id t [] = t
first_id t (p ∷ ps) = p.id

named_first : (schema : List TableDef) (before gs : List GroupTable) (p : Placed) (rest : List Placed) → placed_from schema before gs ≡ p ∷ rest → IsNamed schema (flat_map (λ (g : GroupTable). names_in g.table) gs) p.id
named_first schema before [] p rest e = Prim.cc
named_first schema before (g ∷ gs) p rest e = by (place_of_table schema g.table.name) refl e (named_first schema (before ++ g ∷ []) gs p rest)
  where
    by : (o : Option TableId) → place_of_table schema g.table.name ≡ o → placed_if schema before g o ++ placed_from schema (before ++ g ∷ []) gs ≡ p ∷ rest
        → (placed_from schema (before ++ g ∷ []) gs ≡ p ∷ rest → IsNamed schema (flat_map (λ (g : GroupTable). names_in g.table) gs) p.id) → IsNamed schema (names_in g.table ++ flat_map (λ (g : GroupTable). names_in g.table) gs) p.id
    by None is e more = later_named schema (names_in g.table) (flat_map (λ (g : GroupTable). names_in g.table) gs) p.id (more e)
    by (Some t) is e more = there (slice_get schema t.0) refl
      where
        there : (o : Option TableDef) → slice_get schema t.0 ≡ o → IsNamed schema (names_in g.table ++ flat_map (λ (g : GroupTable). names_in g.table) gs) p.id
        there None at =
            let rest_is : placed_from schema (before ++ g ∷ []) gs ≡ p ∷ rest = rw at at e in
            later_named schema (names_in g.table) (flat_map (λ (g : GroupTable). names_in g.table) gs) p.id (more rest_is)
        there (Some def) at =
            let first : record { it = g; id = t; def = def; before = before } ∷ placed_from schema (before ++ g ∷ []) gs ≡ p ∷ rest = rw at at e in
            let id : t ≡ p.id = ap (λ (l : List Placed). first_id t l) first in
            record { name = g.table.name; among = λ q passes. name_among g.table (flat_map (λ (g : GroupTable). names_in g.table) gs) q passes; place = is ∙ ap Some id }

-- the root's table has a name of the definition
root_named : (schema : List TableDef) (d : CreateGroup) (tree : Tree) → IsTreeOf (placed_tables schema d) tree → IsNamed schema (table_names d) tree.root.table
root_named schema d tree is = by (placed_tables schema d) refl is
  where
    by : (ps : List Placed) → placed_tables schema d ≡ ps → IsTreeOf ps tree → IsNamed schema (table_names d) tree.root.table
    by [] e is = absurd is
    by (p ∷ ps) e is = subst (IsNamed schema (table_names d)) (sym is.0.table) (named_first schema [] d.tables p ps e)

-- the tier asked for the schema, where it may have been old
pub told : (t : Tier) (label : List ℕ) (d : CreateGroup) (tree : Tree) → asks_schema t (says.Session label (asks_for.Statement (statement.CreateGroup d))) ≡ false → IsTreeOf (placed_tables t.schema d) tree → list_any (covers tree.root.table) t.groups ≡ false → t.stale ≡ false
told t label d tree asked is none = by t.stale asked
  where
    n : IsNamed t.schema (table_names d) tree.root.table
    n = root_named t.schema d tree is

    uncached : not (is_cached_name t n.name) ≡ true
    uncached = ap not (cached_so n.place)
      where
        cached_so : place_of_table t.schema n.name ≡ Some tree.root.table → is_cached_name t n.name ≡ false
        cached_so e = rw e none

    by : (b : Bool) → (b && list_any (λ name. not (is_cached_name t name)) (table_names d)) ≡ false → b ≡ false
    by false e = refl
    by true e = absurd (never_both (list_any (λ name. not (is_cached_name t name)) (table_names d)) (n.among (λ name. not (is_cached_name t name)) uncached) e)

-- the definition breaks no rule of names
pub named_free : (t : Tier) (s : Session) (d : CreateGroup) → refusal t s (statement.CreateGroup d) ≡ None → definition_names t.schema (definitions_of t.groups) d ≡ None
named_free t s d e = by (definition_names t.schema (definitions_of t.groups) d) _ e
  where
    by : (o rest : Option Rule) → option_or o rest ≡ None → o ≡ None
    by None rest e = refl
    by (Some rule) rest e = Prim.cc

-- behind the definition the tier stands: the group was one that may come
came_new : (w w' : World) (label : List ℕ) (d : CreateGroup) (tree : Tree) → IsInOrder w'.tier → asks_schema w.tier (says.Session label (asks_for.Statement (statement.CreateGroup d))) ≡ false → IsTreeOf (placed_tables w.tier.schema d) tree
    → w'.tier ≡ with_new_group d tree w.tier → IsNewGroup w (group_of w.tier d tree)
came_new w w' label d tree y asked is made = record {
  told = fresh;
  sound = subst (λ schema. IsCatalogued schema g) (ap (λ (t : Tier). t.schema) made) (each_last (IsCatalogued w'.tier.schema) w.tier.groups g (subst (Each (IsCatalogued w'.tier.schema)) groups y.each));
  apart = apart;
  closed = λ through. closed_last w.tier.groups g w.tier.schema through
      (subst (λ (t : Tier). AreClosed (live_groups_of t.groups) t.schema) made (y.closed (ap (λ (t : Tier). t.stale) made ∙ fresh)));
  first = refl;
  keys = refl;
  unloaded = refl;
  position = refl;
}
  where
    g : Group
    g = group_of w.tier d tree

    groups : w'.tier.groups ≡ w.tier.groups ++ group_of w.tier d tree ∷ []
    groups = ap (λ (t : Tier). t.groups) made

    apart : HasNoTableOf w.tier.groups (group_of w.tier d tree)
    apart = apart_last w.tier.groups (group_of w.tier d tree) (subst HaveOwnTables groups y.apart)

    fresh : w.tier.stale ≡ false
    fresh = told w.tier label d tree asked is (apart tree.root.table (root_covers (group_of w.tier d tree)))

pub creates_line : (w w' : World) (early : List Sealed) (reply : Reply) (label : List ℕ) (s : Session) (d : CreateGroup) → Ready w early → IsInOrder w'.tier → asks_schema w.tier (says.Session label (asks_for.Statement (statement.CreateGroup d))) ≡ false
    → refusal w.tier s (statement.CreateGroup d) ≡ None → CreatesGroup d w w' reply → tells code.JournalFault reply.last ≡ false → IsJournalledOn w' early
creates_line w w' early reply label s d r y asked free q ok =
    creates_made d w w' early reply r.stands r.journalled (named_free w.tier s d free) q (λ history made. came_new w w' label d q.tree y asked q.is made) ok
