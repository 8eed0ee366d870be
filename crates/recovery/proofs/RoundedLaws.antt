-- What keeps the journal the tier's where transactions come to the history.
use Rattle.std.proofs.Common.{◌≡◌, ℕ, true, not, ◌&&◌, Option, Some, None, List, [], ◌∷◌, ◌++◌, map, filter, refl, sym, ap, subst, ◌∙◌, append_assoc, append-nil}
use Rattle.std.specs.Option.{option_and_then}
use Rattle.tier_base.specs.declared.number.TableId.{TableId}
use Rattle.table_defs.specs.declared.definition.TableDef.{TableDef}
use Rattle.table_state.specs.declared.history.Entry.{Entry}
use Rattle.table_state.specs.declared.history.Entry.TheVariants.{Foreign}
use Rattle.table_state.specs.declared.history.Sealed.{Sealed}
use Rattle.table_state.specs.declared.operation.Op.{Op}
use Rattle.table_state.specs.Copies.{is_one_of}
use Rattle.table_state.specs.Histories.{entry_of, state_from, state_of}
use Rattle.table_state.specs.Operations.{applied_all, table_of}
use Rattle.table_state.specs.Tables.{TableState}
use Rattle.table_state.proofs.HistoryLaws.{state_of-append}
use Rattle.order_laws.specs.Commits.{MayCome, conflicting, pending}
use Rattle.order_laws.specs.Events.{Came, Event, Follows, Left, Others}
use Rattle.order_laws.specs.Sides.{are_off}
use Rattle.order_laws.specs.Standing.{live_tables}
use Rattle.order_laws.proofs.NextLaws.{all_defined}
use Rattle.order_laws.proofs.PendingLaws.{is_not, may_come, pending_came, pending_foreign, pending_there}
use Rattle.order_laws.proofs.TruthLaws.{same_some}
use Rattle.recovery_laws.specs.Crashes.{Stands, comes, others, with_entry}
use Rattle.recovery_laws.specs.Crashes as crash
use Rattle.recovery_laws.specs.Notes.{Note, groups_of, log_in, next_of}
use Rattle.recovery_laws.specs.Matching.{IsMatched}
use Rattle.recovery_laws.proofs.CrashLaws.{event_keeps}
use Rattle.recovery_laws.proofs.EventLaws.{came_log}
use Rattle.recovery_laws.proofs.MatchLaws.{matched_stands}
use Rattle.recovery_laws.proofs.PushLaws.{steady_quiet}
use Rattle.cache_tier.specs.Events.{at_history, settled_to}
use Rattle.cache_tier.specs.Journals.{Commits}
use Rattle.cache_tier.specs.JournalWays.{given}
use Rattle.cache_tier.specs.StandingBetween.{live_groups_of}
use Rattle.cache_tier.specs.StandingBetween as between
use Rattle.cache_tier.specs.TierStates.{opened}
use Rattle.cache_tier.specs.Worlds.{World}
use Rattle.cache_tier.proofs.GroupTables.{live_table}
use Rattle.recovery.specs.Journalled.{IsJournalled, IsJournalledOn}
use Rattle.recovery.specs.Recalling.{RecallsAll, notes_of}
use Rattle.recovery.specs.SafeWays.{IsSafeOn}
use Rattle.recovery.proofs.JournalledLaws.{live, notes}
use Rattle.recovery.proofs.LiveLaws.{live_flushed}
use Rattle.recovery.proofs.PointLaws.{safe_step}

-- ---- one entry more

single : (o : Option TableState) → option_and_then (state_from []) o ≡ o
single None = refl
single (Some s) = refl

-- what others do applies to the backing state
pub leads_foreign : (h : List Entry) (ops : List Op) (b n : TableState) → state_of h ≡ Some b → state_of (h ++ Foreign ops ∷ []) ≡ Some n → applied_all ops b ≡ Some n
leads_foreign h ops b n leaves is = sym (single (applied_all ops b)) ∙ sym (state_of-append h (Foreign ops ∷ []) ∙ ap (option_and_then (state_from (Foreign ops ∷ []))) leaves) ∙ is

pub leads_own : (h : List Entry) (s : Sealed) (b n : TableState) → state_of h ≡ Some b → state_of (h ++ entry_of s ∷ []) ≡ Some n → applied_all s.ops b ≡ Some n
leads_own h s b n leaves is = sym (single (applied_all s.ops b)) ∙ sym (state_of-append h (entry_of s ∷ []) ∙ ap (option_and_then (state_from (entry_of s ∷ []))) leaves) ∙ is

off_same : (a b : List TableId) → ((t : TableId) → is_one_of a t ≡ is_one_of b t) → (ops : List Op) → are_off a ops ≡ are_off b ops
off_same a b same [] = refl
off_same a b same (op ∷ ops) = λ i. not (same (table_of op) i) && off_same a b same ops i

-- this goes on from one history to one that has an entry more, which these notes match
abbrev pub Steps : (List Entry → Type 0) → List TableDef → List Note → Type 0
Steps P schema flushed = (h : List Entry) (e : Entry) (b : TableState) → P h → state_of (h ++ e ∷ []) ≡ Some b → b.schema ≡ schema → IsMatched flushed (h ++ e ∷ []) → P (h ++ e ∷ [])

-- ---- the events of a round, with an empty tail

abbrev at_rest : List Note → List Entry → List Sealed → crash.World
at_rest entries h commits = record { flushed = entries; late = []; history = h; commits = commits }

-- the pair of entries and history goes on, what is pending of the tier's log stays what is pending of both, and this
-- holds of the history
record GoesOn (P : List Entry → Type 0) (entries : List Note) (schema : List TableDef) (later : List Entry) (log left commits early : List Sealed) : Type 0 where
  now : List Sealed
  stands : Stands (at_rest entries later commits) now
  schema_is : stands.matched.backing.schema ≡ schema
  tie : pending later log ≡ pending later (log_in later (entries ++ []))
  rest : pending later log ≡ pending later left
  holds : P later
  more : List Sealed
  grows : now ≡ early ++ more

further : (P : List Entry → Type 0) (entries : List Note) (schema : List TableDef) (later : List Entry) (log left commits early mid more : List Sealed) → mid ≡ early ++ more → GoesOn P entries schema later log left commits mid → GoesOn P entries schema later log left commits early
further P entries schema later log left commits early mid more e g = record {
  now = g.now;
  stands = g.stands;
  schema_is = g.schema_is;
  tie = g.tie;
  rest = g.rest;
  holds = g.holds;
  more = more ++ g.more;
  grows = g.grows ∙ ap (λ l. l ++ g.more) e ∙ append_assoc early more g.more;
}

goes_on : (P : List Entry → Type 0) (entries : List Note) (schema : List TableDef) (tables : List TableId) (events : List Event) (h later : List Entry) (log us left commits early : List Sealed) → Steps P schema entries → P h → (st : Stands (at_rest entries h commits) early) → st.matched.backing.schema ≡ schema
    → ((u : TableId) → is_one_of (live_tables (groups_of (entries ++ []))) u ≡ is_one_of tables u) → pending h log ≡ pending h (log_in h (entries ++ [])) → pending h log ≡ pending h us → Follows schema tables events h us later left
    → GoesOn P entries schema later log left commits early
goes_on P entries schema tables [] h later log us left commits early step p st same live tie rest f =
    subst (λ l. GoesOn P entries schema l log left commits early) (sym f.0)
    (subst (λ l. GoesOn P entries schema h log l commits early) (sym f.1) (record { now = early; stands = st; schema_is = same; tie = tie; rest = rest; holds = p; more = []; grows = sym (append-nil early) }))
goes_on P entries schema tables (Others ops ∷ events) h later log us left commits early step p st same live tie rest f =
    let leads = leads_foreign h ops st.matched.backing f.0.state st.matched.leaves f.0.leaves in
    let off : are_off (live_tables (groups_of (entries ++ []))) ops ≡ true = off_same (live_tables (groups_of (entries ++ []))) tables live ops ∙ f.0.off in
    let next = event_keeps (at_rest entries h commits) (with_entry (Foreign ops) (at_rest entries h commits)) early
    (others ops st.matched.backing st.matched.virtual f.0.state (record { leaves = st.matched.leaves; is = st.matched.virtual_is }) leads off) st in
    let known : next.stands.matched.backing.schema ≡ schema =
    ap (λ (x : TableState). x.schema) (same_some (sym next.stands.matched.leaves ∙ f.0.leaves)) ∙ all_defined ops st.matched.backing f.0.state leads ∙ same in
    further P entries schema later log left commits early next.now next.more next.grows
    (goes_on P entries schema tables events (h ++ Foreign ops ∷ []) later log us left commits next.now step (step h (Foreign ops) next.stands.matched.backing p next.stands.matched.leaves known (subst (λ l. IsMatched l (h ++ Foreign ops ∷ [])) (append-nil entries) next.stands.matched)) next.stands known live
    (pending_foreign h ops log ∙ tie ∙ sym (pending_foreign h ops (log_in h (entries ++ []))) ∙ ap (pending (h ++ Foreign ops ∷ [])) (sym (steady_quiet h (Foreign ops) (entries ++ []) tt)))
    (pending_foreign h ops log ∙ rest ∙ sym (pending_foreign h ops us)) f.1)
goes_on P entries schema tables (Came s ∷ events) h later log us left commits early step p st same live tie rest f =
    let m = st.matched in
    let all : pending h (log_in h (entries ++ [])) ≡ f.0.before ++ s ∷ f.0.behind = sym tie ∙ rest ∙ f.0.is in
    let may : MayCome (conflicting schema) h (log_in h (entries ++ [])) s = may_come schema h (log_in h (entries ++ [])) (next_of (entries ++ [])) f.0.before s f.0.behind (matched_stands (entries ++ []) h m).over.rise all f.0.fresh f.0.meets in
    let here : MayCome (conflicting m.backing.schema) h (log_in h (entries ++ [])) s = subst (λ x. MayCome (conflicting x) h (log_in h (entries ++ [])) s) (sym same) may in
    let next = event_keeps (at_rest entries h commits) (with_entry (entry_of s) (at_rest entries h commits)) early (comes s m.backing m.virtual (record { leaves = m.leaves; is = m.virtual_is }) refl here) st in
    let known : next.stands.matched.backing.schema ≡ schema = all_defined s.ops m.backing next.stands.matched.backing (leads_own h s m.backing next.stands.matched.backing m.leaves next.stands.matched.leaves) ∙ same in
    further P entries schema later log left commits early next.now next.more next.grows
    (goes_on P entries schema tables events (h ++ entry_of s ∷ []) later log us left commits next.now step (step h (entry_of s) next.stands.matched.backing p next.stands.matched.leaves known (subst (λ l. IsMatched l (h ++ entry_of s ∷ [])) (append-nil entries) next.stands.matched)) next.stands known live
    (pending_came h s.ticket s.ops log ∙ ap (filter (is_not s.ticket.0)) tie ∙ sym (pending_came h s.ticket s.ops (log_in h (entries ++ []))) ∙ ap (pending (h ++ entry_of s ∷ [])) (sym (came_log (entries ++ []) h s m here.one here.fresh)))
    (pending_came h s.ticket s.ops log ∙ ap (filter (is_not s.ticket.0)) rest ∙ sym (pending_came h s.ticket s.ops us)) f.1)
goes_on P entries schema tables (Left s ∷ events) h later log us left commits early step p st same live tie rest f =
    goes_on P entries schema tables events h later log (f.0.before ++ f.0.behind) left commits early step p st same live tie
    (rest ∙ ap (pending h) f.0.is ∙ pending_there h f.0.before s f.0.behind f.0.stands) f.1

-- ---- the tier

pub no_late : (late : List Sealed) → map Commits late ≡ [] → late ≡ []
no_late [] e = refl
no_late (s ∷ late) e = Prim.cc

module _ (w : World) (early : List Sealed) (j : IsJournalled w early) (stands : between.Stands w) (none : w.journal.tail ≡ []) (events : List Event) (later : List Entry) (left : List Sealed) (moment : ℕ)
    (f : Follows stands.flow.stand.over.backing.schema (live_tables (live_groups_of w.tier.groups)) events w.history w.tier.unsettled later left) where
  abbrev schema : List TableDef
  schema = j.backing.schema

  abbrev flushed : List Note
  flushed = notes_of schema w.journal.flushed

  late_none : j.late ≡ []
  late_none = no_late j.late (sym j.tail ∙ none)

  given_flushed : given w.journal ≡ w.journal.flushed
  given_flushed = ap (λ l. w.journal.flushed ++ l) none ∙ append-nil w.journal.flushed

  all_notes : flushed ++ [] ≡ notes w early j
  all_notes = append-nil flushed ∙ ap (notes_of schema) (sym given_flushed)

  begin : Stands (at_rest flushed w.history (early ++ [])) early
  begin = subst (λ l. Stands (record { flushed = flushed; late = l; history = w.history; commits = early ++ l }) early) late_none j.stands

  schemas : stands.flow.stand.over.backing.schema ≡ schema
  schemas = ap (λ (x : TableState). x.schema) (same_some (sym stands.flow.stand.over.leaves ∙ j.leaves))

  live_here : (u : TableId) → is_one_of (live_tables (groups_of (flushed ++ []))) u ≡ is_one_of (live_tables (live_groups_of w.tier.groups)) u
  live_here u = ap (λ l. is_one_of (live_tables (groups_of l)) u) all_notes ∙ live w early j u ∙ sym (live_table w.tier.groups u)

  abbrev Safe : List Entry → Type 0
  Safe h = IsSafeOn w.tier.groups w.shared w.journal.flushed h w.journal.way

  end : GoesOn Safe flushed schema later w.tier.log left (early ++ []) early
  end = goes_on Safe flushed schema (live_tables (live_groups_of w.tier.groups)) events w.history later w.tier.log w.tier.unsettled left (early ++ []) early
      (λ h e b y leaves known m. safe_step w.tier.groups w.shared w.journal.flushed schema w.journal.way (λ alone u there. live_flushed w early j u ∙ alone u there) h e b y leaves known m) j.safe begin
      (ap (λ (x : TableState). x.schema) (same_some (sym begin.matched.leaves ∙ j.leaves))) live_here
      (j.tie ∙ ap (λ l. pending w.history (log_in w.history l)) (sym all_notes)) stands.flow.rest
      (subst (λ s. Follows s (live_tables (live_groups_of w.tier.groups)) events w.history w.tier.unsettled later left) schemas f)

  pub round_journalled : IsJournalledOn (settled_to left moment (at_history later w)) early
  round_journalled = record {
    now = end.now;
    is = record {
      kept = j.kept;
      backing = end.stands.matched.backing;
      leaves = end.stands.matched.leaves;
      late = [];
      tail = none;
      stands = subst (λ l. Stands (record { flushed = l; late = []; history = later; commits = end.now ++ [] }) end.now) (ap (λ s. notes_of s w.journal.flushed) (sym end.schema_is))
          (subst (λ l. Stands (at_rest flushed later l) end.now) end.stands.are end.stands);
      settings = j.settings;
      catalog = j.catalog;
      recalls = subst (λ s. RecallsAll (given w.journal) (opened j.settings 0 s) j.catalog) (sym end.schema_is) j.recalls;
      alike = j.alike;
      tie = end.tie ∙ ap (λ l. pending later (log_in later l)) (all_notes ∙ ap (λ s. notes_of s (given w.journal)) (sym end.schema_is));
      next = j.next;
      safe = end.holds;
    };
    more = end.more;
    grows = end.grows;
  }

pub round_kept : (w : World) (early : List Sealed) (events : List Event) (later : List Entry) (left : List Sealed) (moment : ℕ) (stands : between.Stands w) → IsJournalled w early → w.journal.tail ≡ []
    → Follows stands.flow.stand.over.backing.schema (live_tables (live_groups_of w.tier.groups)) events w.history w.tier.unsettled later left → IsJournalledOn (settled_to left moment (at_history later w)) early
round_kept w early events later left moment stands j none f = round_journalled w early j stands none events later left moment f
