-- A tier that begins.
use Rattle.std.proofs.Common.{◌≡◌, ◌≤◌, ℕ, suc, true, false, Some, List, [], ◌∷◌, map, slice_get, refl, sym, ap, ◌∙◌, subst, arith}
use Rattle.std.specs.List.{list_all}
use Rattle.tier_base.specs.declared.number.Moment.{Moment}
use Rattle.table_defs.specs.declared.definition.TableDef.{TableDef}
use Rattle.table_state.specs.declared.history.Entry.{Entry}
use Rattle.table_state.specs.Histories.{state_of}
use Rattle.table_state.specs.Tables.{TableState}
use Rattle.order_laws.specs.Commits.{RiseBetween}
use Rattle.order_laws.specs.Steps.{MayBegin}
use Rattle.outside.specs.Bank.{Grows, TellsSchema}
use Rattle.outside.specs.Calls as site
use Rattle.std.specs.Prelude.{Ok}
use Rattle.open_sessions.specs.Opening.{AreSessions}
use Rattle.group_catalog.specs.Catalogs.{groups_in}
use Rattle.group_store.specs.Shown.{shown_by, stored_rows, tables_by}
use Rattle.tier_statements.specs.Seen.{session_seen}
use Rattle.cache_tier.specs.Shown.{shown_state, shown_table, tables_from}
use Rattle.cache_tier.specs.TierStates.{Settings, Tier, opened}
use Rattle.cache_tier.specs.Worlds.{World}
use Rattle.cache_tier.specs.Events.{with_tier}
use Rattle.cache_tier.specs.StandingBetween.{Stands}
use Rattle.stored_tier.specs.declared.tier.Tier.{Tier as Stored}
use Rattle.stored_tier.specs.declared.clock.TierClock.{TierClock}
use Rattle.cache_engine.specs.Beginning.{Begins, BeginsAt, IsFresh, IsNewClock, IsOpened, opened_world}
use Rattle.stored_tier.specs.Naming.{AreNamed}
use Rattle.outside.specs.Sites.{SiteState}
use Rattle.pending_writes.specs.Noting.{TellsWriters}
use Rattle.stored_tier.specs.Lists.{AreHiding}
use Rattle.stored_tier.specs.Stored.{AreKept, IsSound, IsStoredAs, KeepsTime, are_later, first_unsettled, rows_of, pace_of}
use Rattle.group_catalog.specs.Catalogs.{is_plain}
use Rattle.stored_tier.specs.Moments.{refreshed_in, set_seen}
use Rattle.stored_tier.proofs.BankLaws.{told_behind}
use Rattle.stored_tier.proofs.OthersLaws.{came_by, schema_told}
use Rattle.stored_tier.proofs.StandingLaws.{slots_kept}
use Rattle.stored_tier.specs.declared.clock.Pace.{Pace}

-- what is stored

time_fresh : (c : TierClock) (start : ℕ) (pace : Pace) (settings : Settings) → pace_of settings ≡ pace → IsNewClock c start pace → KeepsTime c (opened settings start []).now 0 (opened settings start []).now [] settings
time_fresh c start pace settings due new = record {
  moment = sym new.now;
  additions = sym new.added;
  tried = sym new.round;
  refreshes = λ interval. ap (λ xs. refreshed_in (map set_seen xs) interval) (sym new.sets);
  due = due ∙ sym new.due;
}

pub stored_fresh : (t : Stored) (schema : List TableDef) (start : ℕ) (pace : Pace) (settings : Settings) (s : TableState) → pace_of settings ≡ pace → s.schema ≡ schema → IsFresh t schema start pace → IsStoredAs t (opened settings start s.schema)
stored_fresh t schema start pace settings s due same new = record {
  schema = same ∙ sym new.schema_is;
  stale = sym new.told;
  groups = sym new.groups;
  lists = tt;
  sessions = ap (map session_seen) (sym new.sessions);
  unsettled = sym new.unsettled;
  next = sym new.next;
  doubt = refl;
  time = time_fresh t.clock start pace settings due new.clock;
}

none_shown : (history : List Entry) (a : Tier) (place : ℕ) (defs : List TableDef) → a.groups ≡ [] → tables_by (stored_rows []) place defs ≡ tables_from (shown_table history a) place defs
none_shown history a place [] none = refl
none_shown history a place (def ∷ defs) none =
    ap (λ (t : List Rattle.indexed_rows.specs.Rows.Table). t) (ap (λ gs. Rattle.cache_tier.specs.Shown.table_of_group history a.log (record { 0 = place }) (Rattle.cache_tier.specs.Groups.group_over gs (record { 0 = place })) ∷ tables_by (stored_rows []) (suc place) defs) (sym none))
    ∙ ap (λ ts. shown_table history a (record { 0 = place }) ∷ ts) (none_shown history a (suc place) defs none)

shows_fresh : (t : Stored) (schema : List TableDef) (start : ℕ) (pace : Pace) (settings : Settings) (s : TableState) (history : List Entry) → s.schema ≡ schema → IsFresh t schema start pace → rows_of t ≡ shown_state history (opened settings start s.schema)
shows_fresh t schema start pace settings s history same new =
    ap (shown_by t.schema) new.stores
    ∙ ap (λ defs. shown_by defs []) (new.schema_is ∙ sym same)
    ∙ ap (λ ts. let z : TableState = record { schema = s.schema; tables = ts } in z) (none_shown history (opened settings start s.schema) 0 s.schema refl)

-- what the parts ask of one another

none_there : {X : Type 0} (xs : List X) (k : ℕ) (x : X) → xs ≡ [] → slice_get xs k ≡ Some x → ⊥
none_there [] k x none at = cc
none_there (y ∷ xs) k x none at = cc

pub sound_fresh : (t : Stored) (schema : List TableDef) (start : ℕ) (pace : Pace) → IsFresh t schema start pace → AreSessions t.schema t.sessions → AreNamed (groups_in t.catalog) t.stores.items t.schema t.visible t.directory → IsSound t
sound_fresh t schema start pace new sessions named = record {
  sessions = sessions;
  stores = record { homes = named.directory; over = λ k s at. absurd (none_there t.stores.items k s new.stores at) };
  kept = subst (λ gs. AreKept t.schema gs t.stores.items) (sym new.groups) (subst (AreKept t.schema []) (sym new.stores) tt);
  whole = λ k s at. absurd (none_there t.stores.items k s new.stores at);
  hiding = subst (λ gs. AreHiding t.schema gs t.stores.items t.hidden.items) (sym new.groups) (subst (AreHiding t.schema [] t.stores.items) (sym new.hidden) tt);
  plain = ap (list_all is_plain) new.groups;
  named = λ i j g h at other same. absurd (none_there (groups_in t.catalog) i g new.groups at);
  visible = named.visible;
  numbered = subst (λ n. RiseBetween 1 t.unsettled.items n) (sym new.next) (subst (λ xs. RiseBetween 1 xs 1) (sym new.unsettled) (let one : 1 ≤ 1 = omega arith in one));
  later = ap (are_later (groups_in t.catalog)) new.unsettled;
  writers = subst (λ xs. TellsWriters t.schema (first_unsettled xs t.next) xs t.writers) (sym new.unsettled) (new.writers t.schema t.next);
  verified = λ is. let no : false ≡ true = sym new.judged ∙ is in cc;
}

-- the law of a tier that is opened
abbrev pub OpenedLaw : Type 0
OpenedLaw =
    (w : World) (settings : Settings) (moment : ℕ) (s : TableState) → state_of w.history ≡ Some s
    → MayBegin w.history 1 → Stands (with_tier (opened settings moment s.schema) w)

opened_there : OpenedLaw → (t : Stored) (schema : List TableDef) (start : Moment) (pace : Pace) (history : List Entry) (seen : SiteState) → ((s : TableState) → state_of history ≡ Some s → s.schema ≡ schema) → IsFresh t schema start.0 pace → IsOpened t start pace history seen
opened_there law t schema start pace history seen told new settings s due is may = record {
  stored = stored_fresh t schema start.0 pace settings s due (told s is) new;
  shows = shows_fresh t schema start.0 pace settings s history (told s is) new;
  hides = λ k g h at hides there. absurd (none_there (groups_in t.catalog) k g new.groups at);
  stands = law (opened_world settings start.0 s history seen) settings start.0 s is may;
  waits = record { settled = []; behind = []; is = refl; waits = refl };
}

pub begun : OpenedLaw → (t : Stored) (schema : List TableDef) (start : Moment) (pace : Pace) (before after : SiteState) → site.Told before.held after.held (site.BankCall before.shared (TellsSchema (Ok schema))) → IsFresh t schema start.0 pace → Begins start pace before after (Ok t)
begun law t schema start pace before after told new there was =
    let now = told_behind there before.held after.held (site.BankCall before.shared (TellsSchema (Ok schema))) was told in
    let came = came_by before.shared (TellsSchema (Ok schema)) there.history now.there.history (λ a b tells. tells.0) now.is.history in
    record {
      held = now.there;
      told = now.told;
      others = came.entries;
      came = came.others;
      is = came.is;
      opened = opened_there law t schema start pace now.there.history after
          (λ s is. schema_told before.shared schema there.history now.there.history s now.is.history is) new;
    }

-- what the call leaves of the site
pub began_at : (before after : SiteState) (step : List Entry → List Entry → Type 0) → ((a b : List Entry) → step a b → Grows [] a b) → site.Told before.held after.held (site.BankCall before.shared step) → before.bank_faults ≤ after.bank_faults → before.moment ≤ after.moment → after.shared ≡ before.shared → BeginsAt before after
began_at before after step reads told later moment shares = record {
  later = later;
  moment = moment;
  shares = shares;
  slots = slots_kept before.held after.held (site.BankCall before.shared step) (λ o n call. call.slots) told;
  others = λ there was.
      let now = told_behind there before.held after.held (site.BankCall before.shared step) was told in
      let came = came_by before.shared step there.history now.there.history reads now.is.history in
      record { now = now.there; told = now.told; others = came.entries; came = came.others; is = came.is };
}
