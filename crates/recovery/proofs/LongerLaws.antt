-- Over a longer schema the entries of a journal mean what they meant.
use Rattle.std.proofs.Common.{◌≡◌, ℕ, ◌+◌, ◌<◌, ◌^◌, Bool, true, false, cond, not, nat_lt, Option, Some, None, is_some, List, [], ◌∷◌, ◌++◌, length, position, slice_get, map, flat_map, refl, sym, ap, subst, ◌∙◌, arith}
use Rattle.std.specs.Option.{option_and_then, option_or}
use Rattle.std.specs.List.{list_any, position_or_len}
use Rattle.std.proofs.lemmas.List.{length-append}
use Rattle.std.proofs.lemmas.Bool.{lt-ltb, ltb-true}
use Rattle.tier_base.specs.declared.number.TableId.{TableId}
use Rattle.table_defs.specs.Names.{place_of_table, same_name, table_id}
use Rattle.table_defs.specs.declared.definition.TableDef.{TableDef}
use Rattle.row_types.specs.declared.rule.Rule.{Rule}
use Rattle.order_laws.proofs.TableLaws.{get_same}
use Rattle.instances.specs.declared.tree.Tree.{Tree}
use Rattle.sql_subset.specs.declared.stmt.CreateGroup.{CreateGroup}
use Rattle.sql_subset.specs.declared.stmt.GroupTable.{GroupTable}
use Rattle.cache_tier.specs.Definitions.{IsTreeOf, Placed, column_fault, definition_names, first_fault, first_unknown, is_read_only_kind, names_in, new_group, placed_from, placed_if, placed_tables, refresh_of, root_aging, table_names}
use Rattle.cache_tier.specs.Groups.{Group, defines_name, definitions_of}
use Rattle.cache_tier.specs.Rules.{broken_if, named}
use Rattle.cache_tier.specs.declared.group.GroupDef.{GroupDef}
use Rattle.cache_tier.specs.Journals.{Commits, Defines, Drops, JournalEntry, Marks, Numbers, Prepares, SetsLoaded, SetsState}
use Rattle.cache_tier.specs.StandingBetween.{IsCatalogued}
use Rattle.cache_tier.specs.TierStates.{Tier}
use Rattle.cache_tier.proofs.HistoryKeeps.{root_covers}
use Rattle.cache_tier.proofs.ShownTrees.{found_at, sound_later}
use Rattle.cache_tier.proofs.TableLaws.{covered_defined}
use Rattle.tier_base.specs.declared.code.Code.TheVariants as code
use Rattle.recovery.specs.Recalling.{IsDefined, Recalls, RecallsAll, group_of, note_of, notes_of}

-- ---- names that are found

first_later : {X : Type 0} (p : X → Bool) (xs ys : List X) → position_or_len p xs < length xs → position_or_len p (xs ++ ys) ≡ position_or_len p xs
first_later p [] ys lt = absurd (omega arith)
first_later {X = X} p (x ∷ xs) ys lt = by (p x) lt (first_later p xs ys)
  where
    by : (b : Bool) → cond (not b) (1 + position_or_len p xs) 0 < length (x ∷ xs) → (position_or_len p xs < length xs → position_or_len p (xs ++ ys) ≡ position_or_len p xs)
        → cond (not b) (1 + position_or_len p (xs ++ ys)) 0 ≡ cond (not b) (1 + position_or_len p xs) 0
    by true lt rest = refl
    by false lt rest = ap (λ n. 1 + n) (rest (omega (arith, lt)))

position_later : {X : Type 0} (p : X → Bool) (xs ys : List X) (i : ℕ) → position p xs ≡ Some i → (position p (xs ++ ys) ≡ Some i) × (is_some (slice_get xs i) ≡ true)
position_later {X = X} p xs ys i e = (by (nat_lt (position_or_len p xs) (length xs)) refl e, ap is_some (found_at p xs i e).1)
  where
    by : (b : Bool) → nat_lt (position_or_len p xs) (length xs) ≡ b → cond b (Some (position_or_len p xs)) None ≡ Some i → position p (xs ++ ys) ≡ Some i
    by true is e =
        let lt : position_or_len p xs < length xs = ltb-true (position_or_len p xs) (length xs) is in
        let same : position_or_len p (xs ++ ys) ≡ position_or_len p xs = first_later p xs ys lt in
        let size : length (xs ++ ys) ≡ length xs + length ys = length-append xs ys in
        let below : nat_lt (position_or_len p (xs ++ ys)) (length (xs ++ ys)) ≡ true = lt-ltb (position_or_len p (xs ++ ys)) (length (xs ++ ys)) (omega (arith, lt, same, size)) in
        ap (λ b. cond b (Some (position_or_len p (xs ++ ys))) None) below ∙ ap Some same ∙ e
    by false is e = Prim.cc

-- a name that is found is found at the same place
place_later : (schema more : List TableDef) (name : List ℕ) → is_some (place_of_table schema name) ≡ true → place_of_table (schema ++ more) name ≡ place_of_table schema name
place_later schema more name e = by (position (λ (def : TableDef). same_name def.name name) schema) refl
  where
    by : (o : Option ℕ) → position (λ (def : TableDef). same_name def.name name) schema ≡ o → place_of_table (schema ++ more) name ≡ place_of_table schema name
    by None is = let bad : false ≡ true = sym (ap (λ p. is_some (option_and_then table_id p)) is) ∙ e in Prim.cc
    by (Some i) is = ap (option_and_then table_id) ((position_later (λ (def : TableDef). same_name def.name name) schema more i is).0 ∙ sym is)

id_is : (i : ℕ) (t : TableId) → table_id i ≡ Some t → i ≡ t.0
id_is i t e = by (nat_lt i (2 ^ 32)) e
  where
    by : (b : Bool) → cond b (Some (record { 0 = i })) None ≡ Some t → i ≡ t.0
    by true e = Prim.cc
    by false e = Prim.cc

place_there : (schema : List TableDef) (name : List ℕ) (t : TableId) → place_of_table schema name ≡ Some t → is_some (slice_get schema t.0) ≡ true
place_there schema name t e = by (position (λ (def : TableDef). same_name def.name name) schema) refl
  where
    by : (o : Option ℕ) → position (λ (def : TableDef). same_name def.name name) schema ≡ o → is_some (slice_get schema t.0) ≡ true
    by None is = let bad : None ≡ Some t = sym (ap (option_and_then table_id) is) ∙ e in Prim.cc
    by (Some i) is =
        let at : i ≡ t.0 = id_is i t (sym (ap (option_and_then table_id) is) ∙ e) in
        ap (λ n. is_some (slice_get schema n)) (sym at) ∙ (position_later (λ (def : TableDef). same_name def.name name) schema [] i is).1

-- ---- tables of a definition

placed_at : (schema more : List TableDef) (before : List GroupTable) (g : GroupTable) (t : TableId) → is_some (slice_get schema t.0) ≡ true → placed_if (schema ++ more) before g (Some t) ≡ placed_if schema before g (Some t)
placed_at schema more before g t there = by (slice_get schema t.0) refl
  where
    later : slice_get (schema ++ more) t.0 ≡ slice_get schema t.0
    later = get_same schema more t.0 there

    by : (o : Option TableDef) → slice_get schema t.0 ≡ o → placed_if (schema ++ more) before g (Some t) ≡ placed_if schema before g (Some t)
    by None is = let bad : false ≡ true = sym (ap is_some is) ∙ there in Prim.cc
    by (Some def) is = let l : slice_get (schema ++ more) t.0 ≡ Some def = later ∙ is in rw l (rw is refl)

placed_one : (schema more : List TableDef) (before : List GroupTable) (g : GroupTable) → is_some (place_of_table schema g.table.name) ≡ true
    → placed_if (schema ++ more) before g (place_of_table (schema ++ more) g.table.name) ≡ placed_if schema before g (place_of_table schema g.table.name)
placed_one schema more before g e = ap (placed_if (schema ++ more) before g) (place_later schema more g.table.name e) ∙ by (place_of_table schema g.table.name) refl
  where
    by : (o : Option TableId) → place_of_table schema g.table.name ≡ o → placed_if (schema ++ more) before g o ≡ placed_if schema before g o
    by None is = refl
    by (Some t) is = placed_at schema more before g t (place_there schema g.table.name t is)

unknown_rest : (schema : List TableDef) (xs ys : List (List ℕ)) → first_unknown schema (xs ++ ys) ≡ None → first_unknown schema ys ≡ None
unknown_rest schema [] ys e = e
unknown_rest schema (x ∷ xs) ys e = by (is_some (place_of_table schema x)) e (unknown_rest schema xs ys)
  where
    by : (b : Bool) → cond b (first_unknown schema (xs ++ ys)) (Some (named code.UnknownTable x)) ≡ None → (first_unknown schema (xs ++ ys) ≡ None → first_unknown schema ys ≡ None) → first_unknown schema ys ≡ None
    by true e rest = rest e
    by false e rest = Prim.cc

first_known : (schema : List TableDef) (x : List ℕ) (xs : List (List ℕ)) → first_unknown schema (x ∷ xs) ≡ None → is_some (place_of_table schema x) ≡ true
first_known schema x xs e = by (is_some (place_of_table schema x)) e
  where
    by : (b : Bool) → cond b (first_unknown schema xs) (Some (named code.UnknownTable x)) ≡ None → b ≡ true
    by true e = refl
    by false e = Prim.cc

unknown_later : (schema more : List TableDef) (xs : List (List ℕ)) → first_unknown schema xs ≡ None → first_unknown (schema ++ more) xs ≡ None
unknown_later schema more [] e = refl
unknown_later schema more (x ∷ xs) e =
    let known : is_some (place_of_table schema x) ≡ true = first_known schema x xs e in
    ap (λ b. cond b (first_unknown (schema ++ more) xs) (Some (named code.UnknownTable x))) (ap (λ (o : Option TableId). is_some o) (place_later schema more x known) ∙ known)
    ∙ unknown_later schema more xs (unknown_rest schema (x ∷ []) xs e)

placed_all : (schema more : List TableDef) (before gs : List GroupTable) → first_unknown schema (flat_map (λ (g : GroupTable). names_in g.table) gs) ≡ None → placed_from (schema ++ more) before gs ≡ placed_from schema before gs
placed_all schema more before [] e = refl
placed_all schema more before (g ∷ gs) e =
    let one = placed_one schema more before g (first_known schema g.table.name _ e) in
    let rest = placed_all schema more (before ++ g ∷ []) gs (unknown_rest schema (names_in g.table) (flat_map (λ (h : GroupTable). names_in h.table) gs) e) in
    λ i. one i ++ rest i

-- a definition that breaks no rule of names has all of its names
known_of : (schema : List TableDef) (defs : List GroupDef) (d : CreateGroup) → definition_names schema defs d ≡ None → first_unknown schema (table_names d) ≡ None
known_of schema defs d e = by (first_unknown schema (table_names d)) e
  where
    by : (o : Option Rule) → option_or o (option_or (first_fault column_fault (placed_tables schema d)) (broken_if (list_any (defines_name d.name) defs) (named code.NameInUse d.name))) ≡ None → o ≡ None
    by None e = refl
    by (Some r) e = Prim.cc

pub placed_later : (schema more : List TableDef) (defs : List GroupDef) (d : CreateGroup) → definition_names schema defs d ≡ None → placed_tables (schema ++ more) d ≡ placed_tables schema d
placed_later schema more defs d e = placed_all schema more [] d.tables (known_of schema defs d e)

names_later : (schema more : List TableDef) (defs : List GroupDef) (d : CreateGroup) → definition_names schema defs d ≡ None → definition_names (schema ++ more) defs d ≡ None
names_later schema more defs d e =
    let known = known_of schema defs d e in
    (λ i. option_or ((unknown_later schema more (table_names d) known ∙ sym known) i) (option_or (first_fault column_fault (placed_later schema more defs d e i)) (broken_if (list_any (defines_name d.name) defs) (named code.NameInUse d.name)))) ∙ e

-- ---- the catalog

-- with more tables behind the others
abbrev pub longer : List TableDef → Tier → Tier
longer more t = record t { schema = t.schema ++ more }

abbrev defined_with : CreateGroup → Tree → List Placed → GroupDef
defined_with d tree placed = record {
  name = d.name;
  kind = d.kind;
  dynamic = d.dynamic;
  tree = tree;
  mode = (refresh_of d).mode;
  interval = (refresh_of d).interval;
  aging = root_aging d placed;
  declared = d;
}

catalogued_later : (schema more : List TableDef) (g : Group) → IsCatalogued schema g → IsCatalogued (schema ++ more) g
catalogued_later schema more g c = record {
  sound = sound_later schema more g.def.tree c.sound;
  plain = c.plain;
  free = λ writes. ap (option_and_then (λ (z : TableDef). z.foreign_key)) (get_same schema more g.def.tree.root.table.0 (covered_defined schema g g.def.tree.root.table c (root_covers g))) ∙ c.free writes;
}

defined_later : (more : List TableDef) (d : CreateGroup) (t t' : Tier) → IsDefined d t t' → IsDefined d (longer more t) (longer more t')
defined_later more d t t' is = record {
  tree = is.tree;
  is = subst (λ ps. IsTreeOf ps is.tree) (sym placed) is.is;
  names = names_later t.schema more (definitions_of t.groups) d is.names;
  sound = subst (λ ps. IsCatalogued (t.schema ++ more) (new_group t.next t.now d (defined_with d is.tree ps))) (sym placed) (catalogued_later t.schema more (group_of t d is.tree) is.sound);
  apart = is.apart;
  left = ap (longer more) is.left ∙ ap (λ ps. record t { schema = t.schema ++ more; groups = t.groups ++ new_group t.next t.now d (defined_with d is.tree ps) ∷ [] }) (sym placed);
}
  where
    placed : placed_tables (t.schema ++ more) d ≡ placed_tables t.schema d
    placed = placed_later t.schema more (definitions_of t.groups) d is.names

recalls_later : (more : List TableDef) (e : JournalEntry) (t t' : Tier) → Recalls e t t' → Recalls e (longer more t) (longer more t')
recalls_later more (Commits s) t t' is = ap (longer more) is
recalls_later more (Prepares s) t t' is = ap (longer more) is
recalls_later more (Numbers n) t t' is = ap (longer more) is
recalls_later more (Marks n) t t' is = ap (longer more) is
recalls_later more (Defines d text) t t' is = defined_later more d t t' is
recalls_later more (Drops name) t t' is = ap (longer more) is
recalls_later more (SetsState name state) t t' is = ap (longer more) is
recalls_later more (SetsLoaded name flag) t t' is = ap (longer more) is

-- all entries leave the same over a longer schema
pub all_later : (more : List TableDef) (entries : List JournalEntry) (t t' : Tier) → RecallsAll entries t t' → RecallsAll entries (longer more t) (longer more t')
all_later more [] t t' is = ap (longer more) is
all_later more (e ∷ entries) t t' (mid, first, rest) = (longer more mid, recalls_later more e t mid first, all_later more entries mid t' rest)

pub schema_stays : (e : JournalEntry) (t t' : Tier) → Recalls e t t' → t'.schema ≡ t.schema
schema_stays (Commits s) t t' is = ap (λ (x : Tier). x.schema) is
schema_stays (Prepares s) t t' is = ap (λ (x : Tier). x.schema) is
schema_stays (Numbers n) t t' is = ap (λ (x : Tier). x.schema) is
schema_stays (Marks n) t t' is = ap (λ (x : Tier). x.schema) is
schema_stays (Defines d text) t t' is = ap (λ (x : Tier). x.schema) is.left
schema_stays (Drops name) t t' is = ap (λ (x : Tier). x.schema) is
schema_stays (SetsState name state) t t' is = ap (λ (x : Tier). x.schema) is
schema_stays (SetsLoaded name flag) t t' is = ap (λ (x : Tier). x.schema) is

note_later : (more : List TableDef) (e : JournalEntry) (t t' : Tier) → Recalls e t t' → note_of (t.schema ++ more) e ≡ note_of t.schema e
note_later more (Commits s) t t' is = refl
note_later more (Prepares s) t t' is = refl
note_later more (Numbers n) t t' is = refl
note_later more (Marks n) t t' is = refl
note_later more (Defines d text) t t' is =
    ap (λ ps. Rattle.recovery_laws.specs.Notes.Define d.name (cond (is_read_only_kind d.kind) [] (map (λ (p : Placed). p.id) ps))) (placed_later t.schema more (definitions_of t.groups) d is.names)
note_later more (Drops name) t t' is = refl
note_later more (SetsState name state) t t' is = refl
note_later more (SetsLoaded name flag) t t' is = refl

-- and are the same notes
pub notes_later : (more : List TableDef) (entries : List JournalEntry) (t t' : Tier) → RecallsAll entries t t' → notes_of (t.schema ++ more) entries ≡ notes_of t.schema entries
notes_later more [] t t' is = refl
notes_later more (e ∷ entries) t t' (mid, first, rest) =
    let same = schema_stays e t mid first in
    let one = note_later more e t mid first in
    let others = subst (λ s. notes_of (s ++ more) entries ≡ notes_of s entries) same (notes_later more entries mid t' rest) in
    λ i. one i ∷ others i

-- what a front of the entries leaves
pub front_recalls : (xs ys : List JournalEntry) (t t' : Tier) → RecallsAll (xs ++ ys) t t' → (mid : Tier) × RecallsAll xs t mid
front_recalls [] ys t t' all = (t, refl)
front_recalls (x ∷ xs) ys t t' (mid, first, rest) = let r = front_recalls xs ys mid t' rest in (r.0, (mid, first, r.1))
