-- The question for the schema.
use Rattle.std.proofs.Common.{◌≡◌, ◌≤◌, ℕ, Bool, true, false, not, ◌&&◌, ◌||◌, Option, Some, None, List, [], ◌∷◌, ◌++◌, map, refl, sym, ap, ◌∙◌, subst}
use Rattle.std.specs.Prelude.{Result, Ok, Err}
use Rattle.std.specs.Bool.{MatchBool}
use Rattle.std.specs.List.{flat_map, list_any}
use Rattle.std.proofs.lemmas.List.Folds.{list_any-append}
use Rattle.tier_base.specs.declared.number.TableId.{TableId}
use Rattle.table_defs.specs.Names.{place_of_table}
use Rattle.table_defs.specs.declared.definition.TableDef.{TableDef}
use Rattle.table_state.specs.declared.history.Entry.{Entry}
use Rattle.table_state.specs.Histories.{state_of}
use Rattle.table_state.specs.Tables.{TableState}
use Rattle.outside.specs.Bank.{Grows, TellsSchema}
use Rattle.outside.specs.Calls as site
use Rattle.outside.specs.Others.{Around}
use Rattle.outside.specs.declared.fault.BankError.{BankError}
use Rattle.sql_subset.specs.declared.request.Line.{Line}
use Rattle.group_catalog.specs.Catalogs.{groups_in}
use Rattle.cache_tier.specs.ConsoleSteps.{Asked, AsksSchema, asks_schema, is_cached_name, names_of_line, told}
use Rattle.cache_tier.specs.declared.reply.Reply.{Reply}
use Rattle.cache_tier.specs.Groups.{Group, covers, definitions_of, is_defined_on, is_table_of}
use Rattle.cache_tier.specs.TierStates.{Tier}
use Rattle.cache_tier.specs.Worlds.{IsUnshared, Passes, World, bank_fault}
use Rattle.cache_tier.specs.Defining.{ShowsSchema, with_tables}
use Rattle.cache_tier.specs.Events.{StaysShown, at_history, with_tier}
use Rattle.cache_tier.specs.StandingBetween.{Stands}
use Rattle.stored_tier.specs.declared.tier.Tier.{Tier as Stored}
use Rattle.cache_engine.specs.Growing.{Learns, has_to_ask, misses}
use Rattle.stored_tier.specs.Performing.{Performs}
use Rattle.outside.specs.Sites.{SiteState}
use Rattle.stored_tier.specs.Stored.{IsStoredAs, KeepsHidden, without_list}
use Rattle.stored_tier.proofs.BankLaws.{behind, call_behind, told_behind}
use Rattle.stored_tier.proofs.HiddenRows.{hidden_as, hides_later, hides_then}
use Rattle.stored_tier.proofs.LongerLaws.{read_longer}
use Rattle.stored_tier.proofs.NamingLaws.{cached_seen}
use Rattle.stored_tier.proofs.OthersLaws.{only_reads, schema_told}
use Rattle.stored_tier.proofs.StandingLaws.{performed_behind, performed_here}

-- whether a name is one of a cached table

pub misses_some : (t : Stored) (name : List ℕ) (table : TableId) (b : Bool) → Some table ≡ place_of_table t.schema name → b ≡ list_any (is_defined_on table) (definitions_of (groups_in t.catalog)) → not b ≡ misses t name
misses_some t name table b is has =
    let e : place_of_table t.schema name ≡ Some table = sym is in
    rw e (ap not (has ∙ cached_seen (groups_in t.catalog) table))

any_same : {X : Type 0} (p q : X → Bool) (xs : List X) → ((x : X) → p x ≡ q x) → list_any p xs ≡ list_any q xs
any_same p q [] same = refl
any_same p q (x ∷ xs) same = ap (λ b. b || list_any p xs) (same x) ∙ ap (λ b. q x || b) (any_same p q xs same)

pub any_map : {X Y : Type 0} (p : Y → Bool) (f : X → Y) (xs : List X) → list_any p (map f xs) ≡ list_any (λ x. p (f x)) xs
any_map p f [] = refl
any_map p f (x ∷ xs) = ap (λ b. p (f x) || b) (any_map p f xs)

pub any_flat : {X Y : Type 0} (p : Y → Bool) (f : X → List Y) (xs : List X) → list_any p (flat_map f xs) ≡ list_any (λ x. list_any p (f x)) xs
any_flat p f [] = refl
any_flat p f (x ∷ xs) = list_any-append p (f x) (flat_map f xs) ∙ ap (λ b. list_any p (f x) || b) (any_flat p f xs)

table_seen : (groups : List Group) (t : TableId) → is_table_of (λ g. true) (map without_list groups) t ≡ is_table_of (λ g. true) groups t
table_seen [] t = refl
table_seen (g ∷ groups) t = ap (λ b. covers t g || b) (table_seen groups t)

name_seen : (t : Stored) (a : Tier) (name : List ℕ) → IsStoredAs t a → not (is_cached_name a name) ≡ misses t name
name_seen t a name is = by (place_of_table t.schema name) refl
  where
    by : (o : Option TableId) → place_of_table t.schema name ≡ o → not (is_cached_name a name) ≡ misses t name
    by None e =
        let l : place_of_table a.schema name ≡ None = ap (λ defs. place_of_table defs name) is.schema ∙ e in
        rw (l, e) refl
    by (Some table) e =
        let l : place_of_table a.schema name ≡ Some table = ap (λ defs. place_of_table defs name) is.schema ∙ e in
        rw (l, e) (ap not (sym (table_seen a.groups table) ∙ ap (λ gs. is_table_of (λ g. true) gs table) is.groups))

pub asks_seen : (t : Stored) (a : Tier) (line : Line) → IsStoredAs t a → asks_schema a line ≡ has_to_ask t line
asks_seen t a line is =
    ap (λ b. b && list_any (λ name. not (is_cached_name a name)) (names_of_line line)) is.stale
    ∙ ap (λ b. t.stale && b) (any_same (λ name. not (is_cached_name a name)) (misses t) (names_of_line line) (λ name. name_seen t a name is))

-- the laws

abbrev pub AroundLaw : Type 0
AroundLaw =
    (w : World) (later : List Entry) → Stands w → IsUnshared w → Around w.shared (Grows []) w.history later
    → StaysShown w (at_history later w)

abbrev pub SchemaLaw : Type 0
SchemaLaw =
    (w : World) (more : List TableDef) (s : TableState) → Stands w → state_of w.history ≡ Some s
    → s.schema ≡ w.tier.schema ++ more
    → ShowsSchema more w (with_tier (record w.tier { schema = s.schema; stale = false }) w)

-- a call at a site
pub record CalledAt (before after : SiteState) (step : List Entry → List Entry → Type 0) : Type 0 where
  pub told : site.Told before.held after.held (site.BankCall before.shared step)
  pub faults : before.bank_faults ≤ after.bank_faults
  pub moment : before.moment ≤ after.moment
  pub shares : after.shared ≡ before.shared

-- the bank isn't asked
pub not_asked : (t : Stored) (seen : SiteState) (line : Line) → has_to_ask t line ≡ false → Performs t t seen seen (λ w w'. AsksSchema line w w' None)
not_asked t seen line none w at stands apart =
    performed_here t seen w (λ w'. AsksSchema line w w' None) at stands
    (subst (λ b. MatchBool b (Asked w w None) (Passes w w None)) (sym (asks_seen t w.tier line stands.stored ∙ none)) (refl, refl))

-- the call failed, or there was no memory for what it told
pub asked_in_vain : AroundLaw → (t : Stored) (before after : SiteState) (line : Line) (result : Result (List TableDef) BankError) (e : BankError) (reply : Reply) → reply ≡ bank_fault e → has_to_ask t line ≡ true → CalledAt before after (TellsSchema result) → ((a b : List Entry) → TellsSchema result a b → Grows [] a b) → Performs t t before after (λ w w'. AsksSchema line w w' (Some reply))
asked_in_vain law t before after line result e reply is asks called reads w at stands apart =
    let now = told_behind at.there before.held after.held (site.BankCall before.shared (TellsSchema result)) at.told called.told in
    let call = call_behind w w.tier before after now.there (TellsSchema result) at now.is called.faults called.moment in
    let read = only_reads w.shared (TellsSchema result) w.history now.there.history reads call.history in
    let stays = law w now.there.history stands.stands apart read in
    let w' = behind w w.tier now.there after in
    let asked : Asked w w' (Some reply) = record {
      result = Err e;
      call = record {
        history = read;
        journal = refl;
        faults = call.faults;
        disk = refl;
        moment = call.moment;
        shared = refl;
      };
      tier = refl;
      end = ap Some is;
    } in
    performed_behind t before after w w.tier now.there (λ w'. AsksSchema line w w' (Some reply)) at now.told called.shares stands.waits
    stands.stored (stands.shows ∙ sym stays.same)
    (hides_later t w now.there.history stands (read_longer w (TellsSchema result) now.there.history reads call.history)) stays.stands
    (subst (λ b. MatchBool b (Asked w w' (Some reply)) (Passes w w' (Some reply))) (sym (asks_seen t w.tier line stands.stored ∙ asks)) asked)

-- the schema was told
stored_learned : (t new : Stored) (a : Tier) (schema : List TableDef) → IsStoredAs t a → Learns t new schema → IsStoredAs new (record a { schema = schema; stale = false })
stored_learned t new a schema is learns = subst (λ z. IsStoredAs z (record a { schema = schema; stale = false })) (sym learns.kept) (record {
  schema = refl;
  stale = refl;
  groups = is.groups;
  lists = is.lists;
  sessions = is.sessions;
  unsettled = is.unsettled;
  next = is.next;
  doubt = is.doubt;
  time = is.time;
})

-- groups and their hidden rows stay
pub hidden_learned : (t new : Stored) (schema : List TableDef) → Learns t new schema → KeepsHidden t new
hidden_learned t new schema learns =
    hidden_as t (record t { schema = schema; stale = false; visible = new.visible; directory = new.directory; verified = false }) new learns.kept (record { groups = refl; hidden = refl })

pub asked_and_told : AroundLaw → SchemaLaw → (t new : Stored) (before after : SiteState) (line : Line) (schema : List TableDef) → has_to_ask t line ≡ true → CalledAt before after (TellsSchema (Ok schema)) → Learns t new schema → Performs t new before after (λ w w'. AsksSchema line w w' None)
asked_and_told others tables t new before after line schema asks called learns w at stands apart =
    let now = told_behind at.there before.held after.held (site.BankCall before.shared (TellsSchema (Ok schema))) at.told called.told in
    let a = told (Ok schema) w.tier in
    let call = call_behind w a before after now.there (TellsSchema (Ok schema)) at now.is called.faults called.moment in
    let read = only_reads w.shared (TellsSchema (Ok schema)) w.history now.there.history (λ x y tells. tells.0) call.history in
    let stays = others w now.there.history stands.stands apart read in
    let backing = stays.stands.flow.stand.over.backing in
    let same : backing.schema ≡ schema = schema_told w.shared schema w.history now.there.history backing call.history stays.stands.flow.stand.over.leaves in
    let more = learns.front.more in
    let longer : backing.schema ≡ w.tier.schema ++ more = same ∙ learns.front.is ∙ ap (λ defs. defs ++ more) (sym stands.stored.schema) in
    let w1 = at_history now.there.history w in
    let shows : ShowsSchema more w1 (with_tier (record w.tier { schema = schema; stale = false }) w1) =
    subst (λ defs. ShowsSchema more w1 (with_tier (record w.tier { schema = defs; stale = false }) w1)) same
    (tables w1 more backing stays.stands stays.stands.flow.stand.over.leaves longer) in
    let w' = behind w a now.there after in
    let asked : Asked w w' None = record { result = Ok schema; call = call; tier = refl; end = refl } in
    performed_behind new before after w a now.there (λ w'. AsksSchema line w w' None) at now.told called.shares stands.waits
    (stored_learned t new w.tier schema stands.stored learns)
    (learns.rows ∙ ap (with_tables more) (stands.shows ∙ sym stays.same) ∙ sym shows.same)
    (hides_then t new w now.there.history (hidden_learned t new schema learns) stands (read_longer w (TellsSchema (Ok schema)) now.there.history (λ x y tells. tells.0) call.history))
    shows.stands
    (subst (λ b. MatchBool b (Asked w w' None) (Passes w w' None)) (sym (asks_seen t w.tier line stands.stored ∙ asks)) asked)
