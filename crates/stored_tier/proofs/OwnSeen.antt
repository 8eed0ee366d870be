-- What a session of the stored tier sees: the tables by name, and the rows with its own writes over them.
use Rattle.std.proofs.Common.{◌≡◌, ℕ, suc, Bool, true, false, not, cond, ◌&&◌, ◌||◌, Some, List, [], ◌∷◌, All, map, find, unwrap_or, refl, sym, ap, ◌∙◌}
use Rattle.std.specs.List.{list_all, list_any}
use Rattle.std.specs.Option.{option_map}
use Rattle.std.proofs.lemmas.List.Elements.{All-head, All-tail}
use Rattle.tier_base.specs.declared.number.SessionId.{SessionId}
use Rattle.tier_base.specs.declared.number.TableId.{TableId}
use Rattle.table_defs.specs.declared.definition.TableDef.{TableDef}
use Rattle.table_state.specs.Operations.{applied_all}
use Rattle.table_state.specs.Tables.{TableState}
use Rattle.own_rows.specs.OwnTables.{AreShown}
use Rattle.session_state.specs.Sessions.{OpenSession, has_id}
use Rattle.open_sessions.specs.declared.sessions.Sessions.{Sessions}
use Rattle.open_sessions.specs.Lookups.{of_label, of_number, open_ops}
use Rattle.open_sessions.specs.Opening.{AreSessions, seen_all}
use Rattle.group_catalog.specs.Catalogs.{groups_in}
use Rattle.cache_tier.specs.Facts.{OverIsApplied}
use Rattle.cache_tier.specs.Groups.{Group, definitions_of, is_defined_on, is_table_of}
use Rattle.cache_tier.specs.Routes.{hidden, hidden_where, is_cached, visible}
use Rattle.cache_tier.specs.Shown.{all_over, seen_by}
use Rattle.cache_tier.specs.TierStates.{Session, Tier}
use Rattle.cache_tier.specs.Worlds.{World}
use Rattle.stored_tier.specs.declared.tier.Tier.{Tier as Stored}
use Rattle.stored_tier.specs.Stored.{HasSession, IsSound, IsStoredAs, IsVerified, ShowsRows, rows_of, without_list}

-- which tables are cached

pub any_map : {A B : Type 0} (p : B → Bool) (f : A → B) (xs : List A) → list_any p (map f xs) ≡ list_any (λ x. p (f x)) xs
any_map p f [] = refl
any_map p f (x ∷ xs) = ap (λ b. p (f x) || b) (any_map p f xs)

pub cached_seen : (t : Stored) (a : Tier) (table : TableId) → IsStoredAs t a → list_any (is_defined_on table) (definitions_of (groups_in t.catalog)) ≡ is_cached a table
cached_seen t a table is =
    any_map (is_defined_on table) (λ (g : Group). g.def) (groups_in t.catalog)
    ∙ ap (list_any (λ (g : Group). is_defined_on table g.def)) (sym is.groups)
    ∙ any_map (λ (g : Group). is_defined_on table g.def) without_list a.groups

pub all_cached : (t : Stored) (a : Tier) (tables : List TableId) → IsStoredAs t a → list_all (λ table. list_any (is_defined_on table) (definitions_of (groups_in t.catalog))) tables ≡ list_all (is_cached a) tables
all_cached t a [] is = refl
all_cached t a (table ∷ tables) is =
    ap (λ b. b && list_all (λ one. list_any (is_defined_on one) (definitions_of (groups_in t.catalog))) tables) (cached_seen t a table is)
    ∙ ap (λ b. is_cached a table && b) (all_cached t a tables is)

-- the names that a session sees

pub hidden_same : (p q : TableId → Bool) (n : ℕ) (defs : List TableDef) → ((t : TableId) → p t ≡ q t) → hidden_where p n defs ≡ hidden_where q n defs
hidden_same p q n [] same = refl
hidden_same p q n (def ∷ defs) same =
    ap (λ b. cond b (hidden def) def ∷ hidden_where p (suc n) defs) (same (record { 0 = n }))
    ∙ ap (λ ds. cond (q (record { 0 = n })) (hidden def) def ∷ ds) (hidden_same p q (suc n) defs same)

pub same_table_test : (t : Stored) (a : Tier) (table : TableId) → IsStoredAs t a → not (is_table_of (λ g. true) (groups_in t.catalog) table) ≡ not (is_cached a table)
same_table_test t a table is =
    ap (λ gs. not (list_any (λ (g : Group). is_defined_on table g.def) gs)) (sym is.groups)
    ∙ ap not (any_map (λ (g : Group). is_defined_on table g.def) without_list a.groups)

pub visible_seen : (t : Stored) (a : Tier) → IsSound t → IsStoredAs t a → t.visible ≡ visible 0 a
visible_seen t a sound is =
    sound.visible
    ∙ hidden_same (λ table. not (is_table_of (λ g. true) (groups_in t.catalog) table)) (λ table. not (is_cached a table)) 0 t.schema (λ table. same_table_test t a table is)
    ∙ ap (hidden_where (λ table. not (is_cached a table)) 0) (sym is.schema)

-- the session of a number

abbrev pub NumberLaw : Type 0
NumberLaw =
    (schema : List TableDef) (s : Sessions) (label : List ℕ) (x : OpenSession) → AreSessions schema s
    → of_label label (seen_all s) ≡ Some x → of_number x.id (seen_all s) ≡ Some x

pub number_found : NumberLaw → (t : Stored) (id : SessionId) (s : Session) → IsSound t → (has : HasSession t id s) → of_number id (seen_all t.sessions) ≡ Some has.seen
number_found law t id s sound has =
    ap (λ n. of_number n (seen_all t.sessions)) (sym has.number) ∙ law t.schema t.sessions s.label has.seen sound.sessions has.found

pub own_found : NumberLaw → (t : Stored) (id : SessionId) (s : Session) → IsSound t → HasSession t id s → open_ops id (seen_all t.sessions) ≡ s.own
own_found law t id s sound has =
    ap (λ o. unwrap_or (option_map (λ (x : OpenSession). x.ops) o) []) (number_found law t id s sound has) ∙ ap (λ (x : Session). x.own) has.is

pub find_lies : (rows : TableState) (p : OpenSession → Bool) (xs : List OpenSession) → AreShown [] rows → All (λ s. AreShown s.ops rows) xs → AreShown (unwrap_or (option_map (λ s. s.ops) (find p xs)) []) rows
find_lies rows p [] base all = base
find_lies rows p (x ∷ xs) base all = by (p x) (find_lies rows p xs base (All-tail (λ s. AreShown s.ops rows) x xs all))
  where
    by : (b : Bool) → AreShown (unwrap_or (option_map (λ s. s.ops) (find p xs)) []) rows → AreShown (unwrap_or (option_map (λ s. s.ops) (cond b (Some x) (find p xs))) []) rows
    by true rest = All-head (λ s. AreShown s.ops rows) x xs all
    by false rest = rest

-- its operations lie on the stored rows
pub own_lies : (t : Stored) (id : SessionId) → IsVerified t → AreShown (open_ops id (seen_all t.sessions)) (rows_of t)
own_lies t id is = find_lies (rows_of t) (has_id id) (seen_all t.sessions) is.rows is.own

-- what it sees is what they leave there
pub seen_is : OverIsApplied → NumberLaw → (t : Stored) (id : SessionId) (s : Session) (w : World) (state : TableState) → IsSound t → ShowsRows t w → HasSession t id s → applied_all (open_ops id (seen_all t.sessions)) (rows_of t) ≡ Some state → state ≡ seen_by s w.history w.tier
seen_is over law t id s w state sound shows has applied =
    sym (over (open_ops id (seen_all t.sessions)) (rows_of t) state applied)
    ∙ ap (λ ops. all_over ops (rows_of t)) (own_found law t id s sound has)
    ∙ ap (all_over s.own) shows
