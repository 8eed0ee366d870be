-- What a longer schema leaves of the stores and of what they show.
use Rattle.std.proofs.Common.{◌≡◌, ◌<◌, ◌≤◌, ℕ, zero, suc, ◌+◌, Bool, true, false, cond, not, ◌&&◌, ◌||◌, Option, Some, None, is_some, List, [], ◌∷◌, ◌++◌, length, map, slice_get, unwrap_or, refl, sym, ap, ◌∙◌, subst, arith, append_assoc, inl, inr}
use Rattle.std.proofs.lemmas.Bool.{cases_lt, eq-eqb, lt-ltb}
use Rattle.std.proofs.lemmas.List.{append-nil, length-append}
use Rattle.std.specs.FinMap.{empty}
use Rattle.std.specs.List.{position, prefix_len}
use Rattle.std.specs.Option.{option_and_then, option_map, option_or}
use Rattle.tier_base.specs.declared.number.TableId.{TableId}
use Rattle.table_defs.specs.declared.definition.TableDef.{TableDef}
use Rattle.table_state.specs.Independence.{with_new}
use Rattle.table_state.specs.Tables.{TableState}
use Rattle.indexed_rows.specs.Rows.{Table}
use Rattle.instances.specs.Trees.{place_of, same_table}
use Rattle.instances.specs.Views.{kept_at}
use Rattle.instances.specs.declared.tree.Child.{Child}
use Rattle.instances.specs.declared.tree.Tree.{Tree}
use Rattle.order_laws.proofs.CountLaws.{get_front}
use Rattle.order_laws.proofs.TruthLaws.{both_true}
use Rattle.order_laws.proofs.TableLaws.{get_same}
use Rattle.own_rows.specs.Knowing.{Knows}
use Rattle.open_sessions.specs.declared.sessions.Sessions.{Sessions}
use Rattle.open_sessions.specs.Opening.{AreSessions}
use Rattle.group_catalog.specs.Catalogs.{groups_in}
use Rattle.group_store.specs.Keeping.{IsFor, layer_for}
use Rattle.group_store.specs.Shown.{IsOver, home_from, home_of, homes_from, homes_of, kept_rows, shown_by, stored_rows, tables_by}
use Rattle.group_store.specs.Stores.{Kept, place_in}
use Rattle.group_store.specs.Trees.{Layer}
use Rattle.group_store.specs.declared.directory.Home.{Home}
use Rattle.cache_tier.specs.Groups.{Group, covers, is_asynchronous, is_table_of}
use Rattle.cache_tier.specs.Defining.{with_tables}
use Rattle.stored_tier.specs.declared.tier.Tier.{Tier as Stored}
use Rattle.cache_engine.specs.Growing.{Learns, MayLearn}
use Rattle.tier_journal.specs.Ways.{HasBecome}
use Rattle.stored_tier.specs.Naming.{AreNamed, HasNoHome}
use Rattle.stored_tier.specs.Lists.{AreHiding}
use Rattle.slot_rows.specs.SlotKeys.{RowsHeld}
use Rattle.stored_tier.specs.Stored.{AreKept, IsSound, first_unsettled, rows_of}
use Rattle.stored_tier.proofs.StoreRows.{place_same}
use Rattle.stored_tier.proofs.WriterLaws.{writers_grown}

-- tables that no store has

home_at : (stores : List Kept) (number n i : ℕ) → i < n → slice_get (homes_from stores number n) i ≡ Some (home_of stores (record { 0 = number + i }))
home_at stores number zero i lt = absurd (omega (arith, lt))
home_at stores number (suc n) zero lt = let z : number ≡ number + zero = omega arith in ap (λ m. Some (home_of stores (record { 0 = m }))) z
home_at stores number (suc n) (suc i) lt =
    let z : suc number + i ≡ number + suc i = omega arith in
    home_at stores (suc number) n i (omega (arith, lt)) ∙ ap (λ m. Some (home_of stores (record { 0 = m }))) z

-- the table isn't one of the new ones, or no store has it
abbrev pub IsOld : List TableDef → List TableDef → TableId → Type 0
IsOld schema all u = length schema ≤ u.0 → u.0 < length all → ⊥

homeless : (stores : List Kept) (homes : List (Option Home)) (first n : ℕ) (u : TableId) → homes ≡ homes_of stores n → HasNoHome homes first n → first ≤ u.0 → u.0 < n → home_of stores u ≡ None
homeless stores homes first n u is apart low high =
    let z : 0 + u.0 ≡ u.0 = omega arith in
    ap (λ m. home_of stores (record { 0 = m })) (sym z)
    ∙ sym (ap (option_and_then (λ home. home)) (home_at stores 0 n u.0 high))
    ∙ sym (ap (λ d. option_and_then (λ home. home) (slice_get d u.0)) is)
    ∙ apart u.0 low high

none_first : (o : Option ℕ) (number : ℕ) (rest : Option Home) → option_or (option_map (λ place. let h : Home = record { store = number; place = place } in h) o) rest ≡ None → (o ≡ None) × (rest ≡ None)
none_first None number rest e = (refl, e)
none_first (Some place) number rest e = cc

-- a table without a home is in no store
in_no_store : (stores : List Kept) (number : ℕ) (u : TableId) → home_from number stores u ≡ None → (k : ℕ) (s : Kept) → slice_get stores k ≡ Some s → place_in s u ≡ None
in_no_store [] number u none k s at = cc
in_no_store (x ∷ stores) number u none zero s at =
    let same : x ≡ s = cc in ap (λ y. place_in y u) (sym same) ∙ (none_first (place_in x u) number (home_from (suc number) stores u) none).0
in_no_store (x ∷ stores) number u none (suc k) s at =
    in_no_store stores (suc number) u (none_first (place_in x u) number (home_from (suc number) stores u) none).1 k s at

no_rows_kept : (stores : List Kept) (number : ℕ) (u : TableId) → home_from number stores u ≡ None → kept_rows stores u ≡ None
no_rows_kept [] number u none = refl
no_rows_kept (x ∷ stores) number u none =
    let parts = none_first (place_in x u) number (home_from (suc number) stores u) none in
    ap (λ o. option_or (option_map (kept_at x.tables) o) (kept_rows stores u)) parts.0 ∙ no_rows_kept stores (suc number) u parts.1

-- the definition of a table that isn't new

past_end : {X : Type 0} (xs : List X) (i : ℕ) → length xs ≤ i → slice_get xs i ≡ None
past_end [] i le = refl
past_end (x ∷ xs) zero le = absurd (omega (arith, le))
past_end (x ∷ xs) (suc i) le = past_end xs i (omega (arith, le))

is_there : {X : Type 0} (xs : List X) (i : ℕ) → i < length xs → is_some (slice_get xs i) ≡ true
is_there [] i lt = absurd (omega (arith, lt))
is_there (x ∷ xs) zero lt = refl
is_there (x ∷ xs) (suc i) lt = is_there xs i (omega (arith, lt))

same_def : (schema more : List TableDef) (u : TableId) → IsOld schema (schema ++ more) u → slice_get (schema ++ more) u.0 ≡ slice_get schema u.0
same_def schema more u old = elim (cases_lt u.0 (length schema)) [
  | inl lt ↦ get_same schema more u.0 (is_there schema u.0 lt)
  | inr ge ↦ elim (cases_lt u.0 (length (schema ++ more))) [
    | inl lt ↦ absurd (old ge lt)
    | inr past ↦ past_end (schema ++ more) u.0 past ∙ sym (past_end schema u.0 ge)
  ]
]

-- the stores have no new table
abbrev pub HaveOld : List TableDef → List TableDef → List Kept → Type 0
HaveOld schema all stores = (k : ℕ) (s : Kept) (u : TableId) (p : ℕ) → slice_get stores k ≡ Some s → place_in s u ≡ Some p → IsOld schema all u

have_old : (schema all : List TableDef) (stores : List Kept) (homes : List (Option Home)) → homes ≡ homes_of stores (length all) → HasNoHome homes (length schema) (length all) → HaveOld schema all stores
have_old schema all stores homes is apart k s u p at has low high =
    let none = in_no_store stores 0 u (homeless stores homes (length schema) (length all) u is apart low high) k s at in
    let no : None ≡ Some p = sym none ∙ has in
    cc

-- what a store asks of the schema

over_grown : (schema more : List TableDef) (s : Kept) → ((u : TableId) (p : ℕ) → place_in s u ≡ Some p → IsOld schema (schema ++ more) u) → IsOver schema s → IsOver (schema ++ more) s
over_grown schema more s old over u place has =
    over u place has
    ∙ sym (ap (λ o. unwrap_or (option_map (λ def. Rattle.table_defs.specs.Declarations.foreign_places def.foreign_key) o) []) (same_def schema more u (old u place has)))

same_self : (t : TableId) → same_table t t ≡ true
same_self t = eq-eqb t.0 t.0 refl

root_in : (s : Kept) → place_in s s.table ≡ Some 0
root_in s = ap (λ b. cond b (Some 0) (option_map suc (position (λ l. same_table l.table s.table) s.layers))) (same_self s.table)

prefix_short : (p : Layer → Bool) (xs : List Layer) (i : ℕ) (x : Layer) → slice_get xs i ≡ Some x → p x ≡ true → prefix_len (λ y. not (p y)) xs < length xs
prefix_short p [] i x at passes = cc
prefix_short p (y ∷ xs) i x at passes = by (p y) refl i at (λ n there. prefix_short p xs n x there passes)
  where
    by : (b : Bool) → p y ≡ b → (n : ℕ) → slice_get (y ∷ xs) n ≡ Some x → ((n : ℕ) → slice_get xs n ≡ Some x → prefix_len (λ z. not (p z)) xs < length xs)
        → cond (not (p y)) (1 + prefix_len (λ z. not (p z)) xs) 0 < suc (length xs)
    by true e n there more = let z : cond (not (p y)) (1 + prefix_len (λ z. not (p z)) xs) 0 ≡ 0 = ap (λ b. cond (not b) (1 + prefix_len (λ z. not (p z)) xs) 0) e in omega (arith, z)
    by false e zero there more =
        let same : y ≡ x = cc in
        let no : false ≡ true = sym e ∙ ap p same ∙ passes in
        cc
    by false e (suc n) there more =
        let z : cond (not (p y)) (1 + prefix_len (λ z. not (p z)) xs) 0 ≡ 1 + prefix_len (λ z. not (p z)) xs = ap (λ b. cond (not b) (1 + prefix_len (λ z. not (p z)) xs) 0) e in
        let rest = more n there in
        omega (arith, z, rest)

position_some : (p : Layer → Bool) (xs : List Layer) (i : ℕ) (x : Layer) → slice_get xs i ≡ Some x → p x ≡ true → (n : ℕ) × (position p xs ≡ Some n)
position_some p xs i x at passes =
    (prefix_len (λ y. not (p y)) xs, ap (λ b. cond b (Some (prefix_len (λ y. not (p y)) xs)) None) (lt-ltb (prefix_len (λ y. not (p y)) xs) (length xs) (prefix_short p xs i x at passes)))

layer_in : (s : Kept) (i : ℕ) (l : Layer) → slice_get s.layers i ≡ Some l → (p : ℕ) × (place_in s l.table ≡ Some p)
layer_in s i l at =
    let found = position_some (λ (y : Layer). same_table y.table l.table) s.layers i l at (same_self l.table) in
    by (same_table s.table l.table) refl found
  where
    by : (b : Bool) → same_table s.table l.table ≡ b → (n : ℕ) × (position (λ y. same_table y.table l.table) s.layers ≡ Some n) → (p : ℕ) × (place_in s l.table ≡ Some p)
    by true e found = (0, ap (λ b. cond b (Some 0) (option_map suc (position (λ y. same_table y.table l.table) s.layers))) e)
    by false e found = (
      suc found.0,
      ap (λ b. cond b (Some 0) (option_map suc (position (λ y. same_table y.table l.table) s.layers))) e ∙ ap (option_map suc) found.1,
    )

layers_grown : (schema more : List TableDef) (children : List Child) → ((i : ℕ) (c : Child) → slice_get children i ≡ Some c → slice_get (schema ++ more) c.table.0 ≡ slice_get schema c.table.0) → map (layer_for (schema ++ more)) children ≡ map (layer_for schema) children
layers_grown schema more [] same = refl
layers_grown schema more (c ∷ children) same =
    ap (λ (o : Option TableDef). (let l : Layer = record {
      table = c.table;
      key = unwrap_or (option_map (λ def. def.primary_key) o) [];
      foreign = unwrap_or (option_map (λ def. Rattle.table_defs.specs.Declarations.foreign_places def.foreign_key) o) [];
      parent = c.parent;
    } in l) ∷ map (layer_for (schema ++ more)) children) (same 0 c refl)
    ∙ ap (λ ls. layer_for schema c ∷ ls) (layers_grown schema more children (λ i d at. same (suc i) d at))

map_at : {X Y : Type 0} (f : X → Y) (xs : List X) (i : ℕ) (x : X) → slice_get xs i ≡ Some x → slice_get (map f xs) i ≡ Some (f x)
map_at f [] i x at = cc
map_at f (y ∷ xs) zero x at = let same : y ≡ x = cc in ap (λ z. Some (f z)) same
map_at f (y ∷ xs) (suc i) x at = map_at f xs i x at

for_grown : (schema more : List TableDef) (tree : Tree) (s : Kept) → ((u : TableId) (p : ℕ) → place_in s u ≡ Some p → IsOld schema (schema ++ more) u) → IsFor schema tree s → IsFor (schema ++ more) tree s
for_grown schema more tree s old is = record {
  table = is.table;
  key = is.key ∙ sym (ap (λ o. unwrap_or (option_map (λ def. def.primary_key) o) []) root);
  foreign = is.foreign ∙ sym (ap (λ o. unwrap_or (option_map (λ def. Rattle.table_defs.specs.Declarations.foreign_places def.foreign_key) o) []) root);
  layers = is.layers ∙ sym (layers_grown schema more tree.children children);
}
  where
    root : slice_get (schema ++ more) tree.root.table.0 ≡ slice_get schema tree.root.table.0
    root = same_def schema more tree.root.table (subst (IsOld schema (schema ++ more)) is.table (old s.table 0 (root_in s)))

    children : (i : ℕ) (c : Child) → slice_get tree.children i ≡ Some c → slice_get (schema ++ more) c.table.0 ≡ slice_get schema c.table.0
    children i c at =
        let there = ap (λ ls. slice_get ls i) is.layers ∙ map_at (layer_for schema) tree.children i c at in
        let placed = layer_in s i (layer_for schema c) there in
        same_def schema more c.table (old c.table placed.0 placed.1)

kept_grown : (schema more : List TableDef) (groups : List Group) (stores : List Kept) → HaveOld schema (schema ++ more) stores → AreKept schema groups stores → AreKept (schema ++ more) groups stores
kept_grown schema more [] [] old kept = tt
kept_grown schema more [] (s ∷ stores) old kept = absurd kept
kept_grown schema more (g ∷ groups) [] old kept = absurd kept
kept_grown schema more (g ∷ groups) (s ∷ stores) old kept = (
  for_grown schema more g.def.tree s (λ u p has. old 0 s u p refl has) kept.0,
  kept_grown schema more groups stores (λ k x u p at has. old (suc k) x u p at has) kept.1,
)

-- hidden root rows stand by their root's key still
hiding_grown : (schema all : List TableDef) (groups : List Group) (stores : List Kept) (hidden : List RowsHeld) → AreKept schema groups stores → AreKept all groups stores → AreHiding schema groups stores hidden → AreHiding all groups stores hidden
hiding_grown schema all [] stores [] kept grown hides = tt
hiding_grown schema all [] stores (h ∷ hidden) kept grown hides = absurd hides
hiding_grown schema all (g ∷ groups) [] hidden kept grown hides = absurd kept
hiding_grown schema all (g ∷ groups) (s ∷ stores) [] kept grown hides = absurd hides
hiding_grown schema all (g ∷ groups) (s ∷ stores) (h ∷ hidden) kept grown hides = (
  record { key = hides.0.key ∙ sym kept.0.key ∙ grown.0.key; room = hides.0.room; none = hides.0.none },
  hiding_grown schema all groups stores hidden kept.1 grown.1 hides.1,
)

-- a table of a group stays as it is

some_place : (o : Option ℕ) → is_some o ≡ true → (p : ℕ) × (o ≡ Some p)
some_place None e = cc
some_place (Some p) e = (p, refl)

tables_stay : (schema more : List TableDef) (test : Group → Bool) (groups : List Group) (stores : List Kept) → HaveOld schema (schema ++ more) stores → AreKept schema groups stores → (u : TableId) → is_table_of test groups u ≡ true → slice_get (schema ++ more) u.0 ≡ slice_get schema u.0
tables_stay schema more test [] [] old kept u is = cc
tables_stay schema more test [] (s ∷ stores) old kept u is = absurd kept
tables_stay schema more test (g ∷ groups) [] old kept u is = absurd kept
tables_stay schema more test (g ∷ groups) (s ∷ stores) old kept u is =
    by (test g && covers u g) refl is (tables_stay schema more test groups stores (λ k x v p at has. old (suc k) x v p at has) kept.1 u)
  where
    by : (b : Bool) → (test g && covers u g) ≡ b → (b || is_table_of test groups u) ≡ true → (is_table_of test groups u ≡ true → slice_get (schema ++ more) u.0 ≡ slice_get schema u.0) → slice_get (schema ++ more) u.0 ≡ slice_get schema u.0
    by true here e rest =
        let place = some_place (place_of g.def.tree u) (both_true (test g) (covers u g) here).1 in
        same_def schema more u (old 0 s u place.0 refl (place_same schema g.def.tree s kept.0 u ∙ place.1))
    by false here e rest = rest e

-- what is shown

tables_more : (rows : TableId → Table) (place : ℕ) (defs : List TableDef) (def : TableDef) → tables_by rows place (defs ++ def ∷ []) ≡ tables_by rows place defs ++ rows (record { 0 = place + length defs }) ∷ []
tables_more rows place [] def = let z : place ≡ place + 0 = omega arith in ap (λ n. rows (record { 0 = n }) ∷ []) z
tables_more rows place (d ∷ defs) def =
    let z : suc place + length defs ≡ place + suc (length defs) = omega arith in
    ap (λ ts. rows (record { 0 = place }) ∷ ts)
    (tables_more rows (suc place) defs def ∙ ap (λ n. tables_by rows (suc place) defs ++ rows (record { 0 = n }) ∷ []) z)

shown_more : (schema : List TableDef) (stores : List Kept) (def : TableDef) → kept_rows stores (record { 0 = length schema }) ≡ None → with_new def (shown_by schema stores) ≡ shown_by (schema ++ def ∷ []) stores
shown_more schema stores def none =
    let z : 0 + length schema ≡ length schema = omega arith in
    ap (λ ts. let s : TableState = record { schema = schema ++ def ∷ []; tables = ts } in s)
    (sym (tables_more (stored_rows stores) 0 schema def
    ∙ ap (λ n. tables_by (stored_rows stores) 0 schema ++ stored_rows stores (record { 0 = n }) ∷ []) z
    ∙ ap (λ o. tables_by (stored_rows stores) 0 schema ++ unwrap_or o empty ∷ []) none))

shown_grown : (schema more : List TableDef) (stores : List Kept) → ((u : TableId) → length schema ≤ u.0 → u.0 < length (schema ++ more) → kept_rows stores u ≡ None) → with_tables more (shown_by schema stores) ≡ shown_by (schema ++ more) stores
shown_grown schema [] stores none = ap (λ defs. shown_by defs stores) (sym (append-nil schema))
shown_grown schema (def ∷ more) stores none =
    let long : length (schema ++ def ∷ more) ≡ length schema + suc (length more) = length-append schema (def ∷ more) in
    let one : length (schema ++ def ∷ []) ≡ length schema + 1 = length-append schema (def ∷ []) in
    let all : (schema ++ def ∷ []) ++ more ≡ schema ++ def ∷ more = append_assoc schema (def ∷ []) more in
    ap (with_tables more) (shown_more schema stores def (none (record { 0 = length schema }) (omega arith) (omega (arith, long))))
    ∙ shown_grown (schema ++ def ∷ []) more stores
    (λ u low high. none u (omega (arith, one, low)) (subst (λ defs. u.0 < length defs) all high))
    ∙ ap (λ defs. shown_by defs stores) all

-- the tier learns a schema

abbrev pub GrownLaw : Type 0
GrownLaw = (schema more : List TableDef) (s : Sessions) → Knows schema more → AreSessions schema s → AreSessions more s

abbrev pub learned : Stored → List TableDef → List TableDef → List (Option Home) → Stored
learned t schema names homes = record t { schema = schema; stale = false; visible = names; directory = homes; verified = false }

pub rows_learned : (t : Stored) (schema names : List TableDef) (homes : List (Option Home)) → (may : MayLearn t schema names homes) → rows_of (learned t schema names homes) ≡ with_tables may.front.more (rows_of t)
rows_learned t schema names homes may =
    let more = may.front.more in
    let apart = subst (λ defs. HasNoHome homes (length t.schema) (length defs)) may.front.is may.apart in
    let homed = subst (λ (defs : List TableDef). homes ≡ homes_of t.stores.items (length defs)) may.front.is may.named.directory in
    ap (λ defs. shown_by defs t.stores.items) may.front.is
    ∙ sym (shown_grown t.schema more t.stores.items
    (λ u low high. no_rows_kept t.stores.items 0 u (homeless t.stores.items homes (length t.schema) (length (t.schema ++ more)) u homed apart low high)))

pub sound_learned : GrownLaw → (t : Stored) (schema names : List TableDef) (homes : List (Option Home)) → IsSound t → MayLearn t schema names homes → IsSound (learned t schema names homes)
sound_learned law t schema names homes sound may =
    let more = may.front.more in
    let all = t.schema ++ more in
    let apart = subst (λ defs. HasNoHome homes (length t.schema) (length defs)) may.front.is may.apart in
    let named = subst (λ defs. AreNamed (groups_in t.catalog) t.stores.items defs names homes) may.front.is may.named in
    let old = have_old t.schema all t.stores.items homes named.directory apart in
    subst (λ defs. IsSound (learned t defs names homes)) (sym may.front.is) (record {
      sessions = law t.schema all t.sessions (λ i def at. get_front t.schema more i def at) sound.sessions;
      stores = record {
        homes = named.directory;
        over = λ k s at. over_grown t.schema more s (λ u p has. old k s u p at has) (sound.stores.over k s at);
      };
      kept = kept_grown t.schema more (groups_in t.catalog) t.stores.items old sound.kept;
      whole = sound.whole;
      hiding = hiding_grown t.schema all (groups_in t.catalog) t.stores.items t.hidden.items sound.kept (kept_grown t.schema more (groups_in t.catalog) t.stores.items old sound.kept) sound.hiding;
      plain = sound.plain;
      named = sound.named;
      visible = named.visible;
      numbered = sound.numbered;
      later = sound.later;
      writers = writers_grown t.schema more is_asynchronous (groups_in t.catalog) (tables_stay t.schema more is_asynchronous (groups_in t.catalog) t.stores.items old sound.kept)
          (first_unsettled t.unsettled.items t.next) t.unsettled.items t.writers sound.later sound.writers;
      verified = λ is. cc;
    })

pub learns : (t : Stored) (schema names : List TableDef) (homes : List (Option Home)) → MayLearn t schema names homes → Learns t (learned t schema names homes) schema
learns t schema names homes may = record { front = may.front; kept = refl; rows = rows_learned t schema names homes may }

-- one definition more at the front
pub begins_more : (a b : TableDef) (front whole : List TableDef) → a ≡ b → HasBecome front whole → HasBecome (a ∷ front) (b ∷ whole)
begins_more a b front whole same rest = record { more = rest.more; is = ap (λ d. d ∷ whole) (sym same) ∙ ap (λ ds. a ∷ ds) rest.is }

pub begins_none : (front whole : List TableDef) → length front ≡ 0 → HasBecome front whole
begins_none [] whole none = record { more = whole; is = refl }
begins_none (def ∷ front) whole none = absurd (omega (arith, none))

pub may_learn : (t : Stored) (stores : List Kept) (known schema whole names : List TableDef) (homes : List (Option Home)) (first end : ℕ) → stores ≡ t.stores.items → known ≡ t.schema → whole ≡ schema → length t.schema ≡ first → length schema ≡ end
    → HasBecome known whole → AreNamed (groups_in t.catalog) stores whole names homes → HasNoHome homes first end → MayLearn t schema names homes
may_learn t stores known schema whole names homes first end one two three low high front named apart = record {
  front = subst (λ ds. HasBecome ds schema) two (subst (λ ds. HasBecome known ds) three front);
  named = subst (λ ss. AreNamed (groups_in t.catalog) ss schema names homes) one (subst (λ ds. AreNamed (groups_in t.catalog) stores ds names homes) three named);
  apart = subst (λ n. HasNoHome homes n (length schema)) (sym low) (subst (λ n. HasNoHome homes first n) (sym high) apart);
}
