-- CREATE CACHE GROUP over what is stored.
use Rattle.std.proofs.Common.{◌≡◌, Bool, true, false, not, ◌&&◌, ◌||◌, nat_eq, Option, Some, None, Result, Ok, Err, ℕ, List, [], ◌∷◌, ◌++◌, length, map, refl, sym, ap, subst, ◌∙◌, inl}
use Rattle.std.specs.List.{list_all, list_any}
use Rattle.std.specs.Option.{is_none, option_or}
use Rattle.std.proofs.Math.Dec.{eqb-suc-zero}
use Rattle.std.proofs.lemmas.List.{map-append}
use Rattle.tier_base.specs.declared.code.Code.TheVariants as code
use Rattle.tier_base.specs.declared.limit.Limit.TheVariants as limit
use Rattle.tier_base.specs.declared.number.SessionId.{SessionId}
use Rattle.table_defs.specs.declared.definition.TableDef.{TableDef}
use Rattle.table_state.specs.declared.operation.Op.{Op}
use Rattle.instances.specs.declared.tree.Child.{Child}
use Rattle.instances.specs.declared.tree.Tree.{Tree}
use Rattle.instances.specs.Trees.{is_sound}
use Rattle.open_sessions.specs.Opening.{seen_all}
use Rattle.sql_subset.specs.declared.stmt.CreateGroup.{CreateGroup}
use Rattle.sql_subset.specs.declared.stmt.GroupKind.{GroupKind}
use Rattle.sql_subset.specs.declared.stmt.GroupKind.TheVariants as kind
use Rattle.sql_subset.specs.declared.stmt.Stmt.TheVariants as statement
use Rattle.group_catalog.specs.Catalogs.{groups_in}
use Rattle.group_catalog.specs.Sound.{AreUnfiltered, HasNewTables, IsAccepted, IsUnfiltered, StandsApart, WritesAll}
use Rattle.group_catalog.proofs.SoundLaws.{or_none}
use Rattle.group_store.specs.Stores.{Kept}
use Rattle.tier_statements.specs.Seen.{session_seen}
use Rattle.cache_tier.specs.declared.group.GroupDef.{GroupDef}
use Rattle.cache_tier.specs.declared.reply.Last.TheVariants.{Done, No}
use Rattle.cache_tier.specs.declared.reply.Reply.{Reply}
use Rattle.row_types.specs.declared.rule.Refused.{Refused}
use Rattle.row_types.specs.declared.rule.Refused.TheVariants as refused
use Rattle.table_defs.specs.Declarations.{IsRefusedBy}
use Rattle.sql_subset.specs.declared.stmt.Stmt.{Stmt}
use Rattle.cache_tier.specs.Definitions.{IsTreeOf, column_fault, defined_by, definition_broken, definition_fault, definition_names, definition_types, first_fault, first_unknown, is_read_only_kind, new_group, placed_tables, table_names, text_of}
use Rattle.cache_tier.specs.DefineSteps.{CreatesGroup, define_answer, with_new_group}
use Rattle.cache_tier.specs.Groups.{Group, defines_name, definitions_of, is_defined_on, is_read_only, is_writethrough}
use Rattle.cache_tier.specs.Journals.{Defines, JournalEntry}
use Rattle.cache_tier.specs.JournalSteps.{Flushes, FlushesSome, journal_full}
use Rattle.cache_tier.specs.Order.{refusal}
use Rattle.cache_tier.specs.Reading.{Answers}
use Rattle.cache_tier.specs.Rules.{broken_if, named, open_writes, past, plain}
use Rattle.cache_tier.specs.Steps.{DoesStatement}
use Rattle.cache_tier.specs.TierStates.{Session, Tier}
use Rattle.cache_tier.specs.Worlds.{Then, Unless, World, only}
use Rattle.std.specs.Bool.{MatchBool}
use Rattle.cache_tier.specs.Defining.{IsNewGroup}
use Rattle.cache_tier.specs.Events.{StaysShown, with_tier}
use Rattle.cache_tier.specs.StandingBetween.{HasNoTableOf, Stands, foreign_key_in, has_no_where}
use Rattle.stored_tier.specs.declared.tier.Tier.{Tier as Stored}
use Rattle.group_engine.specs.Defining.{HasNewGroup, IsDefinition, IsReadyToCreate, IsUnrefused, is_done, is_free}
use Rattle.group_engine.specs.declared.ready.Ready.{Ready}
use Rattle.group_engine.specs.Ready.{AnswersBehind, IsReadyFor, is_full_ready}
use Rattle.group_engine.proofs.ReadyLaws.{full_ready, kept_here, refused_over, wanting_over}
use Rattle.tier_journal.specs.Drafts.{StaysKept}
use Rattle.tier_journal.specs.declared.journal.TierJournal.{TierJournal}
use Rattle.tier_journal.proofs.WayLaws.{kept_unless}
use Rattle.outside.specs.Holding.{Held}
use Rattle.stored_tier.proofs.OverLaws.{keeps_stays}
use Rattle.slot_rows.specs.SlotKeys.{RowsHeld}
use Rattle.instances.specs.Views.{kept_at}
use Rattle.stored_tier.specs.Filling.{HidesNone}
use Rattle.stored_tier.specs.Grouping.{HasGroups, IsBareStore, KeepsGroups}
use Rattle.stored_tier.specs.Lists.{AreListed}
use Rattle.stored_tier.proofs.HiddenRows.{hides_more}
use Rattle.stored_tier.proofs.ListLaws.{hidden_long, hiding_long, hiding_more, kept_long, listed_more, no_rows_fit, none_listed, stores_long}
use Rattle.stored_tier.specs.Performing.{Executes, PerformsInOver, StandsFor}
use Rattle.outside.specs.Sites.{SiteState}
use Rattle.stored_tier.proofs.LaterLaws.{later_more}
use Rattle.stored_tier.specs.Stored.{HasSession, IsSound, IsStoredAs, without_list}
use Rattle.group_catalog.specs.Catalogs.{is_plain}
use Rattle.group_engine.proofs.GroupComes.{kept_more, names_more, plain_more, shows_more, sound_grouped, stands_kept, time_kept, whole_more}

-- the rule that refuses it

open_is : (own : List Op) → open_writes own ≡ broken_if (not (nat_eq (length own) 0)) (plain code.TransactionOpen)
open_is [] = refl
open_is (op ∷ own) = ap (λ b. broken_if (not b) (plain code.TransactionOpen)) (sym (eqb-suc-zero (length own)))

defs_bare : (groups : List Group) → definitions_of (map without_list groups) ≡ definitions_of groups
defs_bare [] = refl
defs_bare (g ∷ groups) = ap (λ defs. g.def ∷ defs) (defs_bare groups)

pub defs_stored : (t : Stored) (a : Tier) → IsStoredAs t a → definitions_of a.groups ≡ definitions_of (groups_in t.catalog)
defs_stored t a is = sym (defs_bare a.groups) ∙ ap definitions_of is.groups

pub create_refusal : (t : Stored) (a : Tier) (s : Session) (d : CreateGroup) (own : List Op) → IsStoredAs t a → own ≡ s.own
    → refusal a s (statement.CreateGroup d) ≡ definition_broken t.schema (definitions_of (groups_in t.catalog)) (not (nat_eq (length own) 0)) d
create_refusal t a s d own is same =
    let defs = defs_stored t a is in
    let open_so = ap open_writes (sym same) ∙ open_is own in
    λ i. option_or (definition_names (is.schema i) (defs i) d) (option_or (open_so i) (option_or (definition_types (is.schema i) d) (definition_fault (is.schema i) (defs i) d)))

-- 113 isn't broken
new_name : (schema : List TableDef) (groups : List GroupDef) (writes : Bool) (d : CreateGroup) → definition_broken schema groups writes d ≡ None → list_any (defines_name d.name) groups ≡ false
new_name schema groups writes d e =
    let names = (or_none (definition_names schema groups d) (option_or (broken_if writes (plain code.TransactionOpen)) (option_or (definition_types schema d) (definition_fault schema groups d))) e).0 in
    let columns = (or_none (first_unknown schema (table_names d)) (option_or (first_fault column_fault (placed_tables schema d)) (broken_if (list_any (defines_name d.name) groups) (named code.NameInUse d.name))) names).1 in
    by (list_any (defines_name d.name) groups) (or_none (first_fault column_fault (placed_tables schema d)) (broken_if (list_any (defines_name d.name) groups) (named code.NameInUse d.name)) columns).1
  where
    by : (b : Bool) → broken_if b (named code.NameInUse d.name) ≡ None → b ≡ false
    by true e = cc
    by false e = refl

-- the group

pub read_only_is : (g : Group) → is_read_only g ≡ is_read_only_kind g.def.kind
read_only_is g = by g.def.kind
  where
    by : (k : GroupKind) → is_read_only (record g { def = record (g.def) { kind = k } }) ≡ is_read_only_kind k
    by kind.ReadOnly = refl
    by kind.AsynchronousWritethrough = refl
    by kind.SynchronousWritethrough = refl
    by kind.UserManaged = refl

pub plain_new : (g : Group) → is_done g.def ≡ true → is_plain g ≡ true
plain_new g e = e

unfiltered : (tree : Tree) → IsUnfiltered tree → has_no_where tree ≡ true
unfiltered tree un = (λ i. is_none (un.0 i) && all tree.children un.1 i)
  where
    all : (children : List Child) → AreUnfiltered children → list_all (λ (c : Child). is_none c.filter) children ≡ true
    all [] none = refl
    all (c ∷ children) none = λ i. is_none (none.0 i) && all children none.1 i

any_map : {A B : Type 0} (p : B → Bool) (f : A → B) (xs : List A) → list_any p (map f xs) ≡ list_any (λ x. p (f x)) xs
any_map p f [] = refl
any_map p f (x ∷ xs) = ap (λ b. p (f x) || b) (any_map p f xs)

not_false : (b : Bool) → not b ≡ true → b ≡ false
not_false true e = cc
not_false false e = refl

none_is : {X : Type 0} (o : Option X) → is_none o ≡ true → o ≡ None
none_is None e = refl
none_is (Some x) e = cc

abbrev pub GroupLaw : Type 0
GroupLaw =
    (w : World) (d : CreateGroup) (tree : Tree) → Stands w → IsNewGroup w (new_group w.tier.next w.tier.now d (defined_by w.tier.schema d tree)) → StaysShown w (with_tier (with_new_group d tree w.tier) w)

-- a schema that is the same has the same root
free_seen : (seen schema : List TableDef) (d : CreateGroup) (tree : Tree) → seen ≡ schema → is_free schema (defined_by schema d tree) ≡ true → is_read_only_kind d.kind ≡ false → foreign_key_in seen tree.root.table ≡ None
free_seen seen schema d tree same free kind =
    ap (λ defs. foreign_key_in defs tree.root.table) same
    ∙ none_is (foreign_key_in schema tree.root.table) (sym (ap (λ b. b || is_none (foreign_key_in schema tree.root.table)) kind) ∙ free)

-- the same of its tree
pub record IsDefined (t : Stored) (d : CreateGroup) (tree : Tree) : Type 0 where
  pub writes : Bool
  pub known : t.stale ≡ false
  pub unbroken : definition_broken t.schema (definitions_of (groups_in t.catalog)) writes d ≡ None
  pub tree_of : IsTreeOf (placed_tables t.schema d) tree
  pub formed : is_sound t.schema tree ≡ true
  pub done : is_done (defined_by t.schema d tree) ≡ true
  pub free : is_free t.schema (defined_by t.schema d tree) ≡ true

module _ (new_tables : HasNewTables) (writes_all : WritesAll) (apart : StandsApart) (t : Stored) (w : World) (stands : StandsFor t w) (sound : IsSound t) (d : CreateGroup) (tree : Tree) (x : IsDefined t d tree) where
  schema : w.tier.schema ≡ t.schema
  schema = stands.stored.schema

  defs : definitions_of w.tier.groups ≡ definitions_of (groups_in t.catalog)
  defs = defs_stored t w.tier stands.stored

  abbrev coming : Group
  coming = new_group w.tier.next w.tier.now d (defined_by w.tier.schema d tree)

  accepted : IsAccepted w.tier.schema (definitions_of w.tier.groups) d tree
  accepted = record {
    has_writes = x.writes;
    sound = (λ i. definition_broken (schema i) (defs i) x.writes d) ∙ x.unbroken;
    tree_of = subst (λ defs. IsTreeOf (placed_tables defs d) tree) (sym schema) x.tree_of;
  }

  writes_through : is_writethrough coming ≡ true → is_read_only_kind d.kind ≡ false
  writes_through e = sym (read_only_is coming) ∙ not_false (is_read_only coming) e

  root_free : is_writethrough coming ≡ true → foreign_key_in w.tier.schema tree.root.table ≡ None
  root_free e = free_seen w.tier.schema t.schema d tree schema x.free (writes_through e)

  no_table : HasNoTableOf w.tier.groups coming
  no_table u c = sym (any_map (is_defined_on u) (λ (g : Group). g.def) w.tier.groups) ∙ new_tables w.tier.schema (definitions_of w.tier.groups) d tree accepted u c

  is_new : IsNewGroup w coming
  is_new = record {
    told = stands.stored.stale ∙ x.known;
    sound = record {
      sound = ap (λ defs. is_sound defs tree) schema ∙ x.formed;
      plain = λ e. unfiltered tree (writes_all w.tier.schema (definitions_of w.tier.groups) d tree accepted (writes_through e));
      free = root_free;
    };
    apart = no_table;
    closed = λ e. apart w.tier.schema (definitions_of w.tier.groups) d tree accepted (writes_through e);
    first = refl;
    keys = refl;
    unloaded = refl;
    position = refl;
  }

  coming_is : coming ≡ new_group t.next t.clock.now d (defined_by t.schema d tree)
  coming_is = λ i. new_group (stands.stored.next i) (stands.stored.time.moment i) d (defined_by (schema i) d tree)

  module _ (law : GroupLaw) (new : Stored) (store : Kept) (hidden : RowsHeld) (bare : IsBareStore t.schema tree store) (none : HidesNone t.schema (new_group t.next t.clock.now d (defined_by t.schema d tree)) 0 hidden)
      (has : HasGroups t new (groups_in t.catalog ++ new_group t.next t.clock.now d (defined_by t.schema d tree) ∷ []) (t.stores.items ++ store ∷ []) (t.hidden.items ++ hidden ∷ [])) where
    pub stays : StaysShown w (with_tier (with_new_group d tree w.tier) w)
    stays = law w d tree stands.stands is_new

    stored : IsStoredAs new (with_new_group d tree w.tier)
    stored = record {
      schema = schema ∙ sym has.beside.schema;
      stale = stands.stored.stale ∙ sym has.beside.stale;
      groups =
          map-append without_list w.tier.groups (coming ∷ [])
          ∙ ap (λ gs. gs ++ coming ∷ []) stands.stored.groups
          ∙ ap (λ g. groups_in t.catalog ++ g ∷ []) coming_is ∙ sym has.groups;
      lists = subst (AreListed (w.tier.groups ++ coming ∷ []) new.stores.items) (sym has.hidden) (subst (λ ss. AreListed (w.tier.groups ++ coming ∷ []) ss (t.hidden.items ++ hidden ∷ [])) (sym has.stores)
          (listed_more w.tier.groups t.stores.items t.hidden.items coming store hidden stands.stored.lists (stores_long t w.tier sound stands.stored) (hidden_long t w.tier sound stands.stored) (none_listed coming store hidden.table refl bare.keys none.none)));
      sessions = stands.stored.sessions ∙ ap (λ y. map session_seen (seen_all y)) (sym has.beside.sessions);
      unsettled = stands.stored.unsettled ∙ ap (λ u. u.items) (sym has.beside.unsettled);
      next = stands.stored.next ∙ sym has.beside.next;
      doubt = stands.stored.doubt;
      time = time_kept t new w.tier has.beside.clock stands.stored.time;
    }

    pub stands_more : StandsFor new (with_tier (with_new_group d tree w.tier) w)
    stands_more = record {
      stored = stored;
      shows = shows_more t new w (with_tier (with_new_group d tree w.tier) w) coming store stands sound has.beside.schema refl refl has.stores stays.same no_table bare;
      hides = hides_more t new w.history _ hidden has.groups has.hidden (hiding_long t.schema (groups_in t.catalog) t.stores.items t.hidden.items sound.hiding) none.none stands.hides;
      stands = stays.stands;
      waits = stands.waits;
    }

    abbrev entries : List JournalEntry
    entries = Defines d (text_of d) ∷ []

    pub creates : (w' : World) (reply : Reply) → journal_full w entries ≡ false → Then (FlushesSome entries) (Answers (define_answer d tree)) w w' reply → CreatesGroup d w w' reply
    creates w' reply fits then = record {
      tree = tree;
      is = accepted.tree_of;
      sound = ap (λ defs. is_sound defs tree) schema ∙ x.formed;
      free = free_seen w.tier.schema t.schema d tree schema x.free;
      does = subst (λ o. Unless o (Then (Flushes entries) (Answers (define_answer d tree))) w w' reply) (sym (ap (λ b. broken_if b (past limit.JournalSlot)) fits)) (record {
        mid = then.mid;
        stop = then.stop;
        first = subst (λ b. MatchBool b ((then.mid ≡ w) × (then.stop ≡ Some (only (No (past limit.JournalSlot))))) (Flushes entries w then.mid then.stop)) fits then.first;
        next = then.next;
      });
    }

defined_tree : (t : Stored) (d : CreateGroup) (def : GroupDef) → IsDefinition t d def → IsDefined t d def.tree
defined_tree t d def x = record {
  writes = x.writes;
  known = x.known;
  unbroken = x.unbroken;
  tree_of = x.tree_of;
  formed = x.formed;
  done = ap is_done (sym x.is) ∙ x.done;
  free = ap (is_free t.schema) (sym x.is) ∙ x.free;
}

has_defined : (t new : Stored) (d : CreateGroup) (def : GroupDef) → IsDefinition t d def → (n : HasNewGroup t new d def)
    → HasGroups t new (groups_in t.catalog ++ new_group t.next t.clock.now d (defined_by t.schema d def.tree) ∷ []) (t.stores.items ++ n.store ∷ []) (t.hidden.items ++ n.hidden ∷ [])
has_defined t new d def x n =
    subst (λ y. HasGroups t new (groups_in t.catalog ++ new_group t.next t.clock.now d y ∷ []) (t.stores.items ++ n.store ∷ []) (t.hidden.items ++ n.hidden ∷ [])) x.is n.has

none_defined : (t new : Stored) (d : CreateGroup) (def : GroupDef) → IsDefinition t d def → (n : HasNewGroup t new d def) → HidesNone t.schema (new_group t.next t.clock.now d (defined_by t.schema d def.tree)) 0 n.hidden
none_defined t new d def x n = subst (λ y. HidesNone t.schema (new_group t.next t.clock.now d y) 0 n.hidden) x.is n.none

does_create : (s : Session) (d : CreateGroup) (w w' : World) (reply : Reply) → refusal w.tier s (statement.CreateGroup d) ≡ None → CreatesGroup d w w' reply → Executes (statement.CreateGroup d) s w w' reply
does_create s d w w' reply free is = inl (subst (λ o. Unless o (DoesStatement s (statement.CreateGroup d)) w w' reply) (sym free) is)

module _ {D : Type 0} (state : D → SiteState) (possible : D → ℕ → Held → Type 0) where
  -- the group is there
  pub group_created : HasNewTables → WritesAll → StandsApart → GroupLaw → (t new : Stored) (k k' : Option TierJournal) (d d' : D) (ready : Ready) (id : SessionId) (c : CreateGroup) (def : GroupDef) (told reply : Reply) → IsSound t → IsDefinition t c def → HasNewGroup t new c def → IsUnrefused t id c
      → IsReadyToCreate k c ready → is_full_ready ready ≡ false → AnswersBehind state possible k k' d d' ready told reply → told ≡ only (Done 0) → PerformsInOver state possible t new k k' d d' id (Executes (statement.CreateGroup c)) (Ok reply)
  group_created new_tables writes_all apart law t new k k' d d' ready id c def told reply sound x n free of fits answers is = λ s has_session w at stands unshared keeps.
      let y = defined_tree t c def x in
      let has = has_defined t new c def x n in
      let none = none_defined t new c def x n in
      let p = answers new w (Defines c (text_of c) ∷ []) (define_answer c def.tree) at keeps (of w.tier.schema) (stands_more new_tables writes_all apart t w stands sound c def.tree y law new n.store n.hidden n.bare none has) refl (λ j faults moment. refl) is in
      record {
        world = p.world;
        at = p.at;
        is = does_create s c w p.world reply (free w.tier s stands.stored has_session)
            (creates new_tables writes_all apart t w stands sound c def.tree y law new n.store n.hidden n.bare none has p.world reply (full_ready state possible k d w ready (Defines c (text_of c) ∷ []) keeps (of w.tier.schema) refl ∙ fits) p.is);
        stands = p.stands;
        keeps = p.keeps;
      }

  -- 119 of the journal
  pub group_full : (t : Stored) (k : Option TierJournal) (d : D) (ready : Ready) (id : SessionId) (c : CreateGroup) (def : GroupDef) (reply : Reply) → IsDefinition t c def → IsUnrefused t id c → IsReadyToCreate k c ready → is_full_ready ready ≡ true → reply ≡ only (No (past limit.JournalSlot))
      → PerformsInOver state possible t t k k d d id (Executes (statement.CreateGroup c)) (Ok reply)
  group_full t k d ready id c def reply x free of full told = λ s has_session w at stands unshared keeps. record {
    world = w;
    at = at;
    is = does_create s c w w reply (free w.tier s stands.stored has_session) (record {
      tree = def.tree;
      is = subst (λ (l : List TableDef). IsTreeOf (placed_tables l c) def.tree) (sym stands.stored.schema) x.tree_of;
      sound = ap (λ (l : List TableDef). is_sound l def.tree) stands.stored.schema ∙ x.formed;
      free = free_seen w.tier.schema t.schema c def.tree stands.stored.schema (defined_tree t c def x).free;
      does = subst (λ o. Unless o (Then (Flushes (Defines c (text_of c) ∷ [])) (Answers (define_answer c def.tree))) w w reply)
          (sym (ap (λ b. broken_if b (past limit.JournalSlot)) (full_ready state possible k d w ready (Defines c (text_of c) ∷ []) keeps (of w.tier.schema) refl ∙ full))) (refl, told);
    });
    stands = λ whole. stands;
    keeps = kept_unless keeps;
  }

  -- a rule refuses it, or memory was wanting
  pub create_refused : (t : Stored) (k : Option TierJournal) (d : D) (id : SessionId) (c : CreateGroup) (e : Refused) → ((a : Tier) (s : Session) → IsStoredAs t a → HasSession t id s → IsRefusedBy (refusal a s (statement.CreateGroup c)) e)
      → PerformsInOver state possible t t k k d d id (Executes (statement.CreateGroup c)) (Err e)
  create_refused t k d id c (refused.Rule rule) is = refused_over state possible t k d id (statement.CreateGroup c) rule (λ s w has stored. is w.tier s stored has)
  create_refused t k d id c refused.Memory is = wanting_over state possible t t k k d id (statement.CreateGroup c) (kept_here k) (λ w stands. stands)

  pub create_wanting : (t new : Stored) (k k' : Option TierJournal) (d : D) (id : SessionId) (c : CreateGroup) → StaysKept k k' → KeepsGroups t new → PerformsInOver state possible t new k k' d d id (Executes (statement.CreateGroup c)) (Err refused.Memory)
  create_wanting t new k k' d id c stays kept = wanting_over state possible t new k k' d id (statement.CreateGroup c) stays (λ w stands. stands_kept t new w stands kept)

  pub create_moved : (t new : Stored) (k mid k' : Option TierJournal) (d d' : D) (id : SessionId) (st : Stmt) (result : Result Reply Refused) → StaysKept k mid → PerformsInOver state possible t new mid k' d d' id (Executes st) result → PerformsInOver state possible t new k k' d d' id (Executes st) result
  create_moved t new k mid k' d d' id st result stays performs = λ s has w at stands unshared keeps. performs s has w at stands unshared (keeps_stays state possible d k mid w stays keeps)

-- and the parts are sound
pub sound_created : (t new : Stored) (d : CreateGroup) (def : GroupDef) → IsSound t → IsDefinition t d def → HasNewGroup t new d def → IsSound new
sound_created t new d def sound x n =
    let g = new_group t.next t.clock.now d (defined_by t.schema d def.tree) in
    let y = defined_tree t d def x in
    let none = none_defined t new d def x n in
    sound_grouped t new (groups_in t.catalog ++ g ∷ []) (t.stores.items ++ n.store ∷ []) (t.hidden.items ++ n.hidden ∷ []) sound (has_defined t new d def x n)
    (kept_more t.schema (groups_in t.catalog) t.stores.items g n.store sound.kept n.bare.form)
    (hiding_more t.schema (groups_in t.catalog) t.stores.items t.hidden.items g n.store n.hidden sound.hiding (kept_long t.schema (groups_in t.catalog) t.stores.items sound.kept)
    (record { key = none.key; room = λ hides. no_rows_fit (kept_at n.store.tables 0) n.hidden.spare (n.bare.rows 0); none = λ shows. none.none }))
    (plain_more (groups_in t.catalog) g sound.plain (plain_new g y.done))
    (names_more (groups_in t.catalog) g sound.named (new_name t.schema (definitions_of (groups_in t.catalog)) x.writes d x.unbroken))
    (whole_more t.stores.items n.store sound.whole n.bare.whole) (later_more (groups_in t.catalog) g t.unsettled.items sound.later) n.unverified

-- what was made ready for the definition of a group that is made of it
pub create_ready_for : (k : Option TierJournal) (made declared : CreateGroup) (text : List ℕ) (ready : Ready) → made ≡ declared → text ≡ text_of declared → ((schema : List TableDef) (c : CreateGroup) → IsReadyFor schema k ready (Defines c text ∷ [])) → IsReadyToCreate k made ready
create_ready_for k made declared text ready same is of = λ schema. subst (λ (t : List ℕ). IsReadyFor schema k ready (Defines made t ∷ [])) (is ∙ ap text_of (sym same)) (of schema made)
