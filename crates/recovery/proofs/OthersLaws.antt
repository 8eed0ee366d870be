-- What keeps the journal the tier's where transactions of others come, be entries in the tail or not.
use Rattle.std.proofs.Common.{◌≡◌, ℕ, true, false, not, ◌&&◌, Option, Some, None, List, [], ◌∷◌, ◌++◌, refl, sym, ap, subst, ◌∙◌, arith, append_assoc, append-nil}
use Rattle.std.specs.Option.{IsSome}
use Rattle.tier_base.specs.declared.number.TableId.{TableId}
use Rattle.table_defs.specs.declared.definition.TableDef.{TableDef}
use Rattle.table_state.specs.declared.history.Entry.{Entry}
use Rattle.table_state.specs.declared.history.Entry.TheVariants.{Definition, Foreign, Own}
use Rattle.table_state.specs.declared.history.Sealed.{Sealed}
use Rattle.table_state.specs.declared.operation.Op.{Op}
use Rattle.table_state.specs.Copies.{is_one_of}
use Rattle.table_state.specs.Histories.{state_of}
use Rattle.table_state.specs.Operations.{table_of}
use Rattle.table_state.specs.Tables.{TableState}
use Rattle.outside.specs.Bank.{Grows}
use Rattle.outside.specs.Others.{AreOthers, Around, are_on_shared, is_shared}
use Rattle.order_laws.specs.Commits.{pending}
use Rattle.order_laws.specs.Sides.{are_off}
use Rattle.order_laws.specs.Standing.{live_tables}
use Rattle.order_laws.proofs.NextLaws.{all_defined}
use Rattle.order_laws.proofs.PendingLaws.{pending_foreign}
use Rattle.order_laws.proofs.TruthLaws.{both_true, same_some}
use Rattle.recovery_laws.specs.Crashes.{Stands, others, with_entry}
use Rattle.recovery_laws.specs.Crashes as crash
use Rattle.recovery_laws.specs.Notes.{Note, groups_of, log_in}
use Rattle.recovery_laws.specs.Matching.{IsMatched}
use Rattle.recovery_laws.proofs.CrashLaws.{event_keeps}
use Rattle.recovery_laws.proofs.EventLaws.{tail_lost}
use Rattle.recovery_laws.proofs.PushLaws.{steady_quiet}
use Rattle.cache_tier.specs.Events.{at_history}
use Rattle.cache_tier.specs.JournalWays.{given}
use Rattle.cache_tier.specs.TierStates.{Tier, opened}
use Rattle.cache_tier.specs.Worlds.{BankCall, IsUnshared, World}
use Rattle.recovery.specs.Journalled.{IsJournalled, IsJournalledOn, IsQuiet, seen_as}
use Rattle.recovery.specs.Recalling.{RecallsAll, notes_of}
use Rattle.recovery.proofs.JournalledLaws.{alike_self, alike_trans, given_is, live}
use Rattle.recovery.specs.SafeWays.{IsSafeOn}
use Rattle.recovery.proofs.LiveLaws.{live_flushed, unshared_back}
use Rattle.recovery.proofs.PointLaws.{safe_step}
use Rattle.recovery.proofs.RoundedLaws.{Steps, leads_foreign}
use Rattle.recovery.proofs.SafeLaws.{still_safe}

pub some_state : (o : Option TableState) → IsSome o → (s : TableState) × (o ≡ Some s)
some_state None e = Prim.cc
some_state (Some s) e = (s, refl)

-- what is on tables of others is on no live one
pub off_shared : (shared live : List TableId) (ops : List Op) → ((t : TableId) → is_shared shared t ≡ true → is_one_of live t ≡ false) → are_on_shared shared ops ≡ true → are_off live ops ≡ true
off_shared shared live [] apart e = refl
off_shared shared live (op ∷ ops) apart e =
    let (first, rest) = both_true (is_shared shared (table_of op)) (are_on_shared shared ops) e in
    λ i. not (apart (table_of op) first i) && off_shared shared live ops apart rest i

abbrev with_late : List Note → List Sealed → List Entry → List Sealed → crash.World
with_late flushed late h commits = record { flushed = flushed; late = late; history = h; commits = commits }

-- entries and history go on, what is pending of a log stays what is pending of both, and this holds of the history
record GoesOn (P : List Entry → Type 0) (flushed : List Note) (late : List Sealed) (schema : List TableDef) (later : List Entry) (log commits early : List Sealed) : Type 0 where
  now : List Sealed
  stands : Stands (with_late flushed late later commits) now
  backing : TableState
  leaves : state_of later ≡ Some backing
  schema_is : backing.schema ≡ schema
  tie : pending later log ≡ pending later (log_in later (crash.given (with_late flushed late later commits)))
  holds : P later
  more : List Sealed
  grows : now ≡ early ++ more

further : (P : List Entry → Type 0) (flushed : List Note) (late : List Sealed) (schema : List TableDef) (later : List Entry) (log commits early mid more : List Sealed) → mid ≡ early ++ more → GoesOn P flushed late schema later log commits mid → GoesOn P flushed late schema later log commits early
further P flushed late schema later log commits early mid more e g = record {
  now = g.now;
  stands = g.stands;
  backing = g.backing;
  leaves = g.leaves;
  schema_is = g.schema_is;
  tie = g.tie;
  holds = g.holds;
  more = more ++ g.more;
  grows = g.grows ∙ ap (λ l. l ++ g.more) e ∙ append_assoc early more g.more;
}

goes_on : (P : List Entry → Type 0) (flushed : List Note) (late : List Sealed) (schema : List TableDef) (shared : List TableId) (entries h : List Entry) (log commits early : List Sealed) → Steps P schema flushed → P h → (st : Stands (with_late flushed late h commits) early) → st.matched.backing.schema ≡ schema
    → ((t : TableId) → is_shared shared t ≡ true → is_one_of (live_tables (groups_of (crash.given (with_late flushed late h commits)))) t ≡ false) → pending h log ≡ pending h (log_in h (crash.given (with_late flushed late h commits))) → AreOthers shared h entries
    → GoesOn P flushed late schema (h ++ entries) log commits early
goes_on P flushed late schema shared [] h log commits early step p st same apart tie f =
    subst (λ l. GoesOn P flushed late schema l log commits early) (sym (append-nil h)) (record { now = early; stands = st; backing = st.matched.backing; leaves = st.matched.leaves; schema_is = same; tie = tie; holds = p; more = []; grows = sym (append-nil early) })
goes_on P flushed late schema shared (Definition def ∷ entries) h log commits early step p st same apart tie f = absurd f
goes_on P flushed late schema shared (Own ticket ops ∷ entries) h log commits early step p st same apart tie f = absurd f
goes_on P flushed late schema shared (Foreign ops ∷ entries) h log commits early step p st same apart tie f =
    let (n, n_is) = some_state (state_of (h ++ Foreign ops ∷ [])) (f.1 st.matched.backing st.matched.leaves) in
    let leads = leads_foreign h ops st.matched.backing n st.matched.leaves n_is in
    let all = crash.given (with_late flushed late h commits) in
    let off : are_off (live_tables (groups_of all)) ops ≡ true = off_shared shared (live_tables (groups_of all)) ops apart f.0 in
    let next = event_keeps (with_late flushed late h commits) (with_entry (Foreign ops) (with_late flushed late h commits)) early
    (others ops st.matched.backing st.matched.virtual n (record { leaves = st.matched.leaves; is = st.matched.virtual_is }) leads off) st in
    let known : next.stands.matched.backing.schema ≡ schema =
    ap (λ (x : TableState). x.schema) (same_some (sym next.stands.matched.leaves ∙ n_is)) ∙ all_defined ops st.matched.backing n leads ∙ same in
    let matched : IsMatched flushed (h ++ Foreign ops ∷ []) = tail_lost flushed (h ++ Foreign ops ∷ []) late next.stands.matched next.stands.ahead in
    subst (λ l. GoesOn P flushed late schema l log commits early) (append_assoc h (Foreign ops ∷ []) entries)
    (further P flushed late schema ((h ++ Foreign ops ∷ []) ++ entries) log commits early next.now next.more next.grows
    (goes_on P flushed late schema shared entries (h ++ Foreign ops ∷ []) log commits next.now step (step h (Foreign ops) next.stands.matched.backing p next.stands.matched.leaves known matched) next.stands known apart
    (pending_foreign h ops log ∙ tie ∙ sym (pending_foreign h ops (log_in h all)) ∙ ap (pending (h ++ Foreign ops ∷ [])) (sym (steady_quiet h (Foreign ops) all tt))) f.2))

module _ (w : World) (early : List Sealed) (j : IsJournalled w early) (apart : IsUnshared w) (entries : List Entry) (are : AreOthers w.shared w.history entries) where
  abbrev schema : List TableDef
  schema = j.backing.schema

  abbrev flushed : List Note
  flushed = notes_of schema w.journal.flushed

  abbrev Safe : List Entry → Type 0
  Safe h = IsSafeOn w.tier.groups w.shared w.journal.flushed h w.journal.way

  end : GoesOn Safe flushed j.late schema (w.history ++ entries) w.tier.log (early ++ j.late) early
  end = goes_on Safe flushed j.late schema w.shared entries w.history w.tier.log (early ++ j.late) early
      (λ h e b y leaves known m. safe_step w.tier.groups w.shared w.journal.flushed schema w.journal.way (λ alone u there. live_flushed w early j u ∙ alone u there) h e b y leaves known m) j.safe j.stands
      (ap (λ (x : TableState). x.schema) (same_some (sym j.stands.matched.leaves ∙ j.leaves)))
      (λ t e. ap (λ l. is_one_of (live_tables (groups_of l)) t) (given_is w early j) ∙ live w early j t ∙ apart t e)
      (j.tie ∙ ap (λ l. pending w.history (log_in w.history l)) (sym (given_is w early j))) are

  pub others_journalled : (t : Tier) → IsQuiet w.tier t → IsJournalledOn (at_history (w.history ++ entries) (record w { tier = t })) early
  others_journalled t quiet = record {
    now = end.now;
    is = record {
      kept = j.kept;
      backing = end.backing;
      leaves = end.leaves;
      late = j.late;
      tail = j.tail;
      stands = subst (λ s. Stands (seen_as s (record w { history = w.history ++ entries }) end.now j.late) end.now) (sym end.schema_is)
          (subst (λ l. Stands (with_late flushed j.late (w.history ++ entries) l) end.now) end.stands.are end.stands);
      settings = j.settings;
      catalog = j.catalog;
      recalls = subst (λ s. RecallsAll (given w.journal) (opened j.settings 0 s) j.catalog) (sym end.schema_is) j.recalls;
      alike = alike_trans j.catalog.groups w.tier.groups t.groups j.alike quiet.groups;
      tie = ap (pending (w.history ++ entries)) quiet.log ∙ end.tie
          ∙ ap (λ l. pending (w.history ++ entries) (log_in (w.history ++ entries) l)) (given_is w early j ∙ ap (λ s. notes_of s (given w.journal)) (sym end.schema_is));
      next = let below = j.next in let up = quiet.next in omega (arith, below, up);
      safe = still_safe (record w { history = w.history ++ entries }) t end.holds (unshared_back w.shared w.tier.groups t.groups quiet.groups);
    };
    more = end.more;
    grows = end.grows;
  }

pub others_kept : (w : World) (early : List Sealed) (entries : List Entry) (t : Tier) → IsJournalled w early → IsUnshared w → AreOthers w.shared w.history entries → IsQuiet w.tier t → IsJournalledOn (at_history (w.history ++ entries) (record w { tier = t })) early
others_kept w early entries t j apart are quiet = others_journalled w early j apart entries are t quiet

-- ---- what the journal has nothing to do with

-- worlds with one tier, one history and one journal, in which others change the same tables
pub record AreOne (w w' : World) : Type 0 where
  pub tier : w'.tier ≡ w.tier
  pub history : w'.history ≡ w.history
  pub journal : w'.journal ≡ w.journal
  pub shared : w'.shared ≡ w.shared

rebuilt : (w : World) (bank disk moment : ℕ) (early : List Sealed) → IsJournalled w early → IsJournalled (record w { bank_faults = bank; disk_faults = disk; moment = moment }) early
rebuilt w bank disk moment early j = record {
  kept = j.kept;
  backing = j.backing;
  leaves = j.leaves;
  late = j.late;
  tail = j.tail;
  stands = j.stands;
  settings = j.settings;
  catalog = j.catalog;
  recalls = j.recalls;
  alike = j.alike;
  tie = j.tie;
  next = j.next;
  safe = j.safe;
}

pub one_journalled : (w w' : World) (early : List Sealed) → AreOne w w' → IsJournalled w early → IsJournalled w' early
one_journalled w w' early is j =
    subst (λ t. IsJournalled (record w' { tier = t }) early) (sym is.tier)
    (subst (λ h. IsJournalled (record w' { tier = w.tier; history = h }) early) (sym is.history)
    (subst (λ k. IsJournalled (record w' { tier = w.tier; history = w.history; journal = k }) early) (sym is.journal)
    (subst (λ s. IsJournalled (record w' { tier = w.tier; history = w.history; journal = w.journal; shared = s }) early) (sym is.shared)
    (rebuilt w w'.bank_faults w'.disk_faults w'.moment early j))))

pub one_journalled_on : (w w' : World) (early : List Sealed) → AreOne w w' → IsJournalledOn w early → IsJournalledOn w' early
one_journalled_on w w' early is j = record { now = j.now; is = one_journalled w w' j.now is j.is; more = j.more; grows = j.grows }

-- from one to the next
pub on_then : (w : World) (early mid more : List Sealed) → mid ≡ early ++ more → IsJournalledOn w mid → IsJournalledOn w early
on_then w early mid more e j = record { now = j.now; is = j.is; more = more ++ j.more; grows = j.grows ∙ ap (λ l. l ++ j.more) e ∙ append_assoc early more j.more }

-- a call of the bank that reads
pub reads_kept : (w w' : World) (early : List Sealed) → IsJournalled w early → IsUnshared w → BankCall (Grows []) w w' → IsQuiet w.tier w'.tier → IsJournalledOn w' early
reads_kept w w' early j apart call quiet =
    let a : Around w.shared (Grows []) w.history w'.history = call.history in
    let middle : a.middle ≡ w.history ++ a.before = a.own ∙ append-nil (w.history ++ a.before) in
    let still : IsQuiet w.tier w.tier = record { log = refl; next = omega arith; groups = alike_self w.tier.groups } in
    let one = others_kept w early a.before w.tier j apart a.came_before still in
    let mid : World = at_history (w.history ++ a.before) w in
    let two = others_kept mid one.now a.behind w'.tier one.is apart (subst (λ l. AreOthers w.shared l a.behind) middle a.came_behind) quiet in
    one_journalled_on (at_history ((w.history ++ a.before) ++ a.behind) (record w { tier = w'.tier })) w' early
    (record { tier = refl; history = a.is ∙ ap (λ l. l ++ a.behind) middle; journal = call.journal; shared = call.shared })
    (on_then (at_history ((w.history ++ a.before) ++ a.behind) (record w { tier = w'.tier })) early one.now one.more one.grows two)
