-- Whatever a crash leaves at any moment of a run holds what was held.
use Rattle.std.proofs.Common.{◌≡◌, ℕ, ◌≤◌, Bool, true, false, Option, Some, None, List, [], ◌∷◌, ◌++◌, length, take, drop, refl, sym, ap, subst, ◌∙◌, append-nil, append_assoc, take-append-drop}
use Rattle.std.specs.List.{AllByRecursion}
use Rattle.std.proofs.lemmas.List.{take_at}
use Rattle.std.proofs.lemmas.Option.{same_Some}
use Rattle.tier_base.specs.declared.number.TableId.{TableId}
use Rattle.table_defs.specs.declared.definition.TableDef.{TableDef}
use Rattle.table_state.specs.declared.history.Entry.{Entry}
use Rattle.table_state.specs.declared.history.Sealed.{Sealed}
use Rattle.table_state.specs.Histories.{no_tables, state_of}
use Rattle.order_laws.proofs.CountLaws.{schema_after}
use Rattle.std.specs.Bool.{MatchBool}
use Rattle.table_state.specs.Tables.{TableState}
use Rattle.outside.specs.Holding.{Held}
use Rattle.outside.specs.Others.{is_shared}
use Rattle.outside.specs.Sites.{SiteState}
use Rattle.cache_tier.specs.declared.reply.Reply.{Reply}
use Rattle.cache_tier.specs.GoesOn.{LeadsTo}
use Rattle.outside.specs.Calls.{Lengthens}
use Rattle.cache_tier.specs.Groups.{Group, is_table_of, is_writethrough}
use Rattle.cache_tier.specs.JournalSteps.{FlushesKept}
use Rattle.cache_tier.specs.Steps.{Finishes}
use Rattle.cache_tier.specs.Journals.{Journal, JournalEntry, Way}
use Rattle.cache_tier.specs.JournalWays.{Beginning, beginning_in, beginning_of, first_of}
use Rattle.cache_tier.specs.WayPoints.{IsPoint}
use Rattle.cache_tier.specs.Worlds.{IsUnshared, Passes, Tries, World}
use Rattle.cache_tier.specs.TierStates.{Settings, Tier}
use Rattle.cache_tier.proofs.StatementLaws.{heed_leads, step_keeps_way, step_leads}
use Rattle.cache_tier.proofs.WayLaws.{flush_leads, way_on_way}
use Rattle.line_laws.proofs.FlushLaws.{IsWhole, kept_flushes, tail_flushed}
use Rattle.cache_engine.specs.Importing.{Imports}
use Rattle.cache_engine.specs.Opening.{Opens}
use Rattle.cache_engine.specs.Requests.{Given, LineGoes, LineRun, LineStep}
use Rattle.tier_journal.specs.Beginning.{begun_here}
use Rattle.tier_journal.specs.KeptOver as kept
use Rattle.tier_journal.specs.KeptOver.{IsLeftOver, KeepsOver}
use Rattle.tier_journal.specs.Ways.{HasBecome, LeavesOnWay, LeavesPoints}
use Rattle.left_laws.proofs.LeftWorlds.{is_left}
use Rattle.recovery.specs.Journalled.{IsJournalledOn}
use Rattle.recovery.specs.Recalling.{AreMatched}
use Rattle.recovery.specs.SafeWays.{IsSafe, IsSafeOn, IsSafeOnceRead, IsSafeWay, LeaveUnshared}
use Rattle.recovery.proofs.OthersLaws.{on_then}
use Rattle.recovery.proofs.SafeLaws.{way_begins}
use Rattle.run_laws.specs.Lines.{AreOfKinds, IsLeft, MayBegin}
use Rattle.run_laws.specs.Runs.{Reopened}
use Rattle.run_laws.proofs.LineLaws.{step_kept, step_kinds}
use Rattle.run_laws.proofs.BrokenLines.{step_breaks}
use Rattle.run_laws.proofs.RunKeeps.{ended_broken}
use Rattle.stored_tier.specs.Sites.{IsAt}
use Rattle.tier_opening.specs.Opening.{AtJournal, AtOpening, MayOpen, Onset, StartsAt, onset_history, onset_moment}
use Rattle.tier_journal.specs.Leaving.{GivesEntries}
use Rattle.tier_journal.specs.Writing.{HasTables}
use Rattle.session_cli.specs.Importing.{ImportEnds}
use Rattle.session_cli.specs.declared.serving.Status.{Status}
use Rattle.session_cli.specs.declared.serving.Status.TheVariants.{Damaged, Differs, DiskFailed, Finished, InputTooLong, LineUnchecked, NoMemory, SchemaFailed, SinkFailed, SourceFailed}
use Rattle.session_cli.specs.Outside.{WasKept, seen}
use Rattle.session_cli.specs.Serving.{Anywhere, BreaksFrom, EndsKept, FailsFrom, GoesOn, HasFlushed, LedSince, LedSinceEach, Rests, WasLeft}
use Rattle.reopened_laws.specs.Ending.{MayOpenAgain}
use Rattle.reopened_laws.specs.Leaving.{HasText}
use Rattle.reopened_laws.specs.Within.{AskNothing, Asking, BrokenEndsAreSafe, BrokenLinesAreSafe, CrashesAreSafe, CrashesWithinAreSafe, ImportsAreSafe, IsSafeLeft, LeaveAlone, LeavesSafe, as_begun, was_in}
use Rattle.reopened_laws.proofs.BegunLaws.{front_long}
use Rattle.reopened_laws.proofs.CrashLaws.{over_of, same_held}
use Rattle.reopened_laws.proofs.EndedRuns.{KnowsFront}
use Rattle.reopened_laws.proofs.HandedOn.{left_first, whole_too}
use Rattle.reopened_laws.proofs.ImportLaws.{ComesBy, import_comes, stays}
use Rattle.reopened_laws.proofs.PointLaws.{front_becomes, point_opens_again}
use Rattle.reopened_laws.proofs.ReadOpenings.{opened_readable}
use Rattle.reopened_laws.proofs.ReadParts.{Readable, WayReads, point_reads}
use Rattle.reopened_laws.proofs.ReadRuns.{end_keeps, goes_keeps, line_keeps, readable_told}
use Rattle.reopened_laws.proofs.RunEnds.{begins_again, reopens_lead}
use Rattle.reopened_laws.proofs.TicketLaws.{given_small}

le_by : (a b k : ℕ) → a ≡ b → b ≤ k → a ≤ k
le_by a b k e le = subst (λ n. n ≤ k) (sym e) le

-- ---- where the lines have led

-- A world in which a line may begin, but for what others change: its journal is its tier's, and can be read.
record HoldsOn (w : World) (early : List Sealed) : Type 0 where
  on : IsJournalledOn w early
  kinds : AreOfKinds w.tier
  reads : Readable w

-- And the journal's way goes on that began in another world.
record LedFrom (w v : World) (early : List Sealed) : Type 0 where
  holds : HoldsOn v early
  began : beginning_of v.journal ≡ beginning_of w.journal
  longer : Lengthens w.history v.history

left_of : (once : World → Type 0) (w : World) → WasLeft once w → IsLeft w
left_of once w x = is_left x.engine.tier x.engine.doubt w x.order.sound x.left

line_holds : (once : World → Type 0) (w mid : World) (g : Given) (reply : Option Reply) (early : List Sealed) → HoldsOn w early → WasLeft once w → IsUnshared w → kept.is_broken reply ≡ false → WasLeft once mid → LineStep g.base w g.bytes mid reply → HoldsOn mid early
line_holds once w mid g reply early h x apart whole y step = record { on = on_then mid early h.on.now h.on.more h.on.grows here; kinds = step_kinds g.base w mid step.0 reply h.on.now m h.on.is there (whole_too reply whole) step.2; reads = line_keeps g.base w g.bytes mid reply step h.reads }
  where
    m : MayBegin w
    m = record { goes_on = record { left = left_of once w x; unshared = apart }; kinds = h.kinds }

    there : IsLeft mid
    there = left_of once mid y

    here : IsJournalledOn mid h.on.now
    here = step_kept g.base w mid step.0 reply h.on.now m h.on.is there (whole_too reply whole) step.2

pub longer_then : (a b c : List Entry) → Lengthens a b → Lengthens b c → Lengthens a c
longer_then a b c x y = record { more = x.more ++ y.more; is = y.is ∙ ap (λ h. h ++ y.more) x.is ∙ append_assoc a x.more y.more }

led : (once : World → Type 0) (w0 w : World) (lines : List Given) (replies : List (Option Reply)) (v : World) (early : List Sealed) → LedFrom w0 w early → (run : LineRun w lines replies v) → GoesOn once w lines replies v run → LedFrom w0 v early
led once w0 w [] [] v early l run goes = subst (λ x. LedFrom w0 x early) (sym run) l
led once w0 w [] (reply ∷ replies) v early l run goes = absurd run
led once w0 w (g ∷ lines) [] v early l run goes = absurd run
led once w0 w (g ∷ lines) (reply ∷ replies) v early l run goes =
    led once w0 run.0 lines replies v early
    (record {
      holds = line_holds once w run.0 g reply early l.holds goes.0 goes.1 goes.2 (left_first once run.0 lines replies v run.2 goes.3) run.1;
      began = step_keeps_way g.base w run.0 run.1.0 reply run.1.2 ∙ l.began;
      longer = longer_then w0.history w.history run.0.history l.longer (step_leads g.base w run.0 run.1.0 reply run.1.2).history;
    })
    run.2 goes.3

goes_last : (once : World → Type 0) (w : World) (lines : List Given) (replies : List (Option Reply)) (v : World) (run : LineRun w lines replies v) → GoesOn once w lines replies v run → WasLeft once v
goes_last once w [] [] v run goes = goes
goes_last once w [] (reply ∷ replies) v run goes = absurd run
goes_last once w (g ∷ lines) [] v run goes = absurd run
goes_last once w (g ∷ lines) (reply ∷ replies) v run goes = goes_last once run.0 lines replies v run.2 goes.3

-- what comes behind the lines keeps what was led to
record Behind (w v last : World) (early : List Sealed) : Type 0 where
  led_on : LedFrom w last early
  tier : last.tier ≡ v.tier
  shared : last.shared ≡ v.shared

abbrev KeepsLed : (World → World → Type 0) → Type 0
KeepsLed ends = (w v last : World) (early : List Sealed) → LedFrom w v early → ends v last → Behind w v last early

rests_keep : KeepsLed Rests
rests_keep w v last early l e = record { led_on = subst (λ x. LedFrom w x early) (sym e) l; tier = ap (λ (x : World). x.tier) e; shared = ap (λ (x : World). x.shared) e }

flush_keeps : KeepsLed HasFlushed
flush_keeps w v last early l e =
    let whole : IsWhole [] v last = (kept_flushes [] v last None l.holds.on.is.kept e.flushed refl).0 in
    let leads = flush_leads [] v last None e.flushed in
    record {
      led_on = record {
        holds = record {
          on = on_then last early l.holds.on.now l.holds.on.more l.holds.on.grows (tail_flushed v last l.holds.on.now l.holds.on.is whole);
          kinds = subst AreOfKinds (sym whole.tier) l.holds.kinds;
          reads = end_keeps v last None e.flushed l.holds.reads;
        };
        began = way_on_way v.journal last.journal leads.renewals leads.leads ∙ l.began;
        longer = longer_then w.history v.history last.history l.longer (record { more = []; is = whole.history ∙ sym (append-nil v.history) });
      };
      tier = whole.tier;
      shared = whole.shared;
    }

-- the schema of the tier is a front of the bank's
front_known : (v : World) → Readable v → KnowsFront v
front_known v r s leaves = let f = r.front s leaves in (f.more, schema_after v.history no_tables s leaves ∙ f.is)

-- the tier of the other world writes through no table that others change either
pub unshared_as : (w w' : World) → w'.tier ≡ w.tier → w'.shared ≡ w.shared → IsUnshared w → IsUnshared w'
unshared_as w w' tier shared alone t e = ap (λ (x : Tier). is_table_of is_writethrough x.groups t) tier ∙ alone t (ap (λ s. is_shared s t) (sym shared) ∙ e)

becomes_then : (early schema later : List TableDef) → HasBecome early schema → (more : List TableDef) → later ≡ schema ++ more → HasBecome early later
becomes_then early schema later b more is = record { more = b.more ++ more; is = is ∙ ap (λ l. l ++ more) b.is ∙ append_assoc early b.more more }

-- A world whose journal can be read, each point of whose way is safe, which goes on that began in another one. The groups
-- are those of some tier of that journal.
pub record PointsFrom (w v : World) : Type 0 where
  pub groups : List Group
  pub safe : IsSafeOn groups v.shared v.journal.flushed v.history v.journal.way
  pub backing : TableState
  pub leaves : state_of v.history ≡ Some backing
  pub reads : Readable v
  pub began : beginning_of v.journal ≡ beginning_of w.journal
  pub longer : Lengthens w.history v.history

points_led : (w v : World) (early : List Sealed) → LedFrom w v early → PointsFrom w v
points_led w v early l = record {
  groups = v.tier.groups;
  safe = l.holds.on.is.safe;
  backing = l.holds.on.is.backing;
  leaves = l.holds.on.is.leaves;
  reads = l.holds.reads;
  began = l.began;
  longer = l.longer;
}

-- a line in which a call of the journal's disk failed leads to one
points_broken : (w mid v : World) (early : List Sealed) (g : Given) (reply : Option Reply) → LedFrom w mid early → IsLeft mid → IsUnshared mid → LineGoes g.base mid g.bytes v reply → kept.is_broken reply ≡ true → PointsFrom w v
points_broken w mid v early g None l left apart goes fails = Prim.cc
points_broken w mid v early g (Some reply) l left apart (said, heard, counts, heeds) fails =
    let b = step_breaks g.base mid v said reply l.holds.on.now (record { goes_on = record { left = left; unshared = apart }; kinds = l.holds.kinds }) l.holds.on.is fails heeds in
    let leads = heed_leads g.base mid v said reply heeds in
    record {
      groups = b.tier.groups;
      safe = b.on.is.safe;
      backing = b.on.is.backing;
      leaves = b.on.is.leaves;
      reads = goes_keeps g.base mid g.bytes v (Some reply) (said, heard, counts, heeds) l.holds.reads;
      began = way_on_way mid.journal v.journal leads.journal.renewals leads.journal.leads ∙ l.began;
      longer = longer_then w.history mid.history v.history l.longer leads.history;
    }

-- a flush at the end of the input leaves the history
ends_longer : (w w' : World) (stop : Option Reply) → Finishes w w' stop → Lengthens w.history w'.history
ends_longer w w' stop ends = by w.journal.kept ends
  where
    by : (kept : Bool) → MatchBool kept (FlushesKept [] w w' stop) (Passes w w' stop) → Lengthens w.history w'.history
    by true x = record { more = []; is = x.history ∙ sym (append-nil w.history) }
    by false x = record { more = []; is = ap (λ (v : World). v.history) x.0 ∙ sym (append-nil w.history) }

-- and so does one that failed
points_unflushed : (w mid v : World) (early : List Sealed) (reply : Reply) → LedFrom w mid early → Finishes mid v (Some reply) → kept.is_broken (Some reply) ≡ true → PointsFrom w v
points_unflushed w mid v early reply l ends fails =
    let b = ended_broken mid v l.holds.on.now (Some reply) l.holds.on.is ends fails in
    let leads = flush_leads [] mid v (Some reply) ends in
    record {
      groups = b.tier.groups;
      safe = b.on.is.safe;
      backing = b.on.is.backing;
      leaves = b.on.is.leaves;
      reads = end_keeps mid v (Some reply) ends l.holds.reads;
      began = way_on_way mid.journal v.journal leads.renewals leads.leads ∙ l.began;
      longer = longer_then w.history mid.history v.history l.longer (ends_longer mid v (Some reply) ends);
    }

-- the world where the way of an opened journal begins is the one that began as the run did, or where the journal was found
begun_history : (onset : Onset) (old whole more : List Entry) → whole ≡ old ++ more → take (length (onset_history onset old whole)) whole ≡ onset_history onset old whole
begun_history AtOpening old whole more is = ap (take (length old)) is ∙ take_at old more (length old) refl
begun_history AtJournal old whole more is = ap (take (length whole)) (sym (append-nil whole)) ∙ take_at whole [] (length whole) refl

pub was_begun : (onset : Onset) (began : ℕ) {settings : Settings} {moment : ℕ} (there : Held) {w : World} (x : Opens settings moment there w) → StartsAt onset began x.begins → was_in x ≡ as_begun onset began there x.begun
was_begun onset began there x s =
    ap (λ (m : ℕ). record x.begun { moment = m; history = take x.begins.from x.begun.history }) s.since
    ∙ ap (λ (h : List Entry). record x.begun { moment = onset_moment onset began x.begun.moment; history = h })
    (ap (λ (n : ℕ). take n x.begun.history) s.from ∙ begun_history onset there.history x.begun.history x.begins.others x.begins.history)

module _ {D : Type 0} (state : D → SiteState) (possible : D → ℕ → Held → Type 0) where
  -- where others leave the tables of writethrough groups alone, they do at each point of the way
  abbrev pub FreeAt : World → Asking → Type 0
  FreeAt v asked =
      (way : Way) → v.journal.way ≡ Some way → (entries : List JournalEntry) (count : ℕ) → IsPoint way.from way.past v.journal.flushed (length v.history) entries count → count ≤ length v.history
      → asked entries (take count v.history) → LeaveUnshared v.shared entries (take count v.history)

  free_led : (w v : World) (early : List Sealed) (asked : Asking) → LedFrom w v early → ((entries : List JournalEntry) (history : List Entry) → asked entries history → IsUnshared v) → FreeAt v asked
  free_led w v early asked l alone way so entries count point within a =
      let safe : IsSafeWay v.tier.groups v.shared v.journal.flushed v.history way = subst (IsSafeOn v.tier.groups v.shared v.journal.flushed v.history) so l.holds.on.is.safe in
      safe.apart (alone entries (take count v.history) a) entries count point within

  free_here : (v : World) (shared : List TableId) → v.shared ≡ shared → FreeAt v (LeaveUnshared shared)
  free_here v shared same way so entries count point within a = subst (λ (h : List TableId). LeaveUnshared h entries (take count v.history)) (sym same) a

  -- A crash leaves a point of the way, at each moment since it began.
  module _ (w v : World) (l : PointsFrom (begun_here w) v) (site : D) (there : Held) (leaves : LeavesOnWay state possible site there v v.journal.way) (shared : v.shared ≡ (state site).shared) (asked : Asking) (free : FreeAt v asked)
      (k : ℕ) (p : Held) (lo : w.moment ≤ k) (hi : k ≤ (state site).moment) (may : possible site k p) where
    abbrev first : Beginning
    first = record { since = w.moment; from = length w.history; entries = w.journal.flushed }

    abbrev seen_in : Way → Beginning
    seen_in way = record { since = way.since; from = way.from; entries = first_of way.past v.journal.flushed }

    none_is_some : (None ≡ Some first) → ⊥
    none_is_some e = cc

    -- what a point's entries leave may be opened
    opens_there : (entries : List JournalEntry) (early : List TableDef) (count : ℕ) → HasBecome early v.tier.schema → AllByRecursion (HasTables early) entries → GivesEntries early p.slots entries → take count v.history ≡ p.history
        → AreMatched entries (take count v.history) → LeaveUnshared (state site).shared entries (take count v.history) → AllByRecursion HasText entries → MayOpenAgain (state site).shared p
    opens_there entries early count becomes tables gives left m alone texts =
        let known = front_known v l.reads l.backing l.leaves in
        let now : AreMatched entries p.history = subst (AreMatched entries) left m in
        let fits : HasBecome now.backing.schema l.backing.schema = front_becomes v.history count now.backing l.backing (ap state_of left ∙ now.leaves) l.leaves in
        let has : HasBecome early l.backing.schema = becomes_then early v.tier.schema l.backing.schema becomes known.0 known.1 in
        point_opens_again (state site).shared p entries early l.backing.schema now (subst (LeaveUnshared (state site).shared entries) left alone) has fits ((readable_told v l.reads).named l.backing l.leaves) tables texts gives

    at_way : (way : Option Way) → v.journal.way ≡ way → IsSafeLeft w (state site).shared v.tier.schema asked p
    at_way None so =
        let none : None ≡ Some first = ap (beginning_in v.journal.flushed) (sym so) ∙ l.began in
        absurd (none_is_some none)
    at_way (Some way) so =
        let same : Some (seen_in way) ≡ Some first = ap (beginning_in v.journal.flushed) (sym so) ∙ l.began in
        let b : seen_in way ≡ first = same_Some (seen_in way) first same in
        let points : LeavesPoints state possible site there v way = subst (LeavesOnWay state possible site there v) so leaves in
        let safe : IsSafeWay l.groups v.shared v.journal.flushed v.history way = subst (IsSafeOn l.groups v.shared v.journal.flushed v.history) so l.safe in
        let q = points.leaves k p (le_by way.since w.moment k (ap (λ (x : Beginning). x.since) b) lo) hi may in
        let long : length there.history ≡ length v.history = ap (λ (h : List Entry). length h) (sym points.same) in
        let point : IsPoint way.from way.past v.journal.flushed (length v.history) q.entries q.count = subst (λ (n : ℕ). IsPoint way.from way.past v.journal.flushed n q.entries q.count) long q.point in
        let within : q.count ≤ length v.history = subst (λ (n : ℕ). q.count ≤ n) long q.within in
        let r : IsSafeOnceRead (first_of way.past v.journal.flushed) (take way.from v.history) q.entries (take q.count v.history) = safe.each q.entries q.count point within in
        let s : IsSafe (first_of way.past v.journal.flushed) (take way.from v.history) q.entries (take q.count v.history) = record { matched = r.matched (given_small q.early p.slots q.entries q.gives.gives); held = r.held } in
        let here : take way.from v.history ≡ w.history =
        ap (λ (n : ℕ). take n v.history) (ap (λ (x : Beginning). x.from) b) ∙ ap (take (length w.history)) l.longer.is ∙ take_at w.history l.longer.more (length w.history) refl in
        let left : take q.count v.history ≡ p.history = ap (take q.count) points.same ∙ sym q.front in
        record {
          entries = q.entries;
          early = q.early;
          becomes = q.becomes;
          gives = q.gives;
          safe =
              subst (IsSafe w.journal.flushed w.history q.entries) left
              (subst (λ (h : List Entry). IsSafe w.journal.flushed h q.entries (take q.count v.history)) here
              (subst (λ (f : List JournalEntry). IsSafe f (take way.from v.history) q.entries (take q.count v.history)) (ap (λ (x : Beginning). x.entries) b) s));
          may = λ a. opens_there q.entries q.early q.count q.becomes q.tables q.gives left s.matched
              (subst (λ (h : List TableId). LeaveUnshared h q.entries (take q.count v.history)) shared (free way so q.entries q.count point within (subst (asked q.entries) (sym left) a)))
              (point_reads way.from way.past v.journal.flushed (length v.history) q.entries q.count (subst WayReads so l.reads.way) l.reads.flushed point);
        }

    safe_here : IsSafeLeft w (state site).shared v.tier.schema asked p
    safe_here = at_way v.journal.way refl

  -- under the schema of what the site holds
  schema_told : (w v : World) (asked : Asking) (p left : Held) (s : TableState) (site : D) → KnowsFront v → IsAt (state site) v → (state site).held ≡ Some left → state_of left.history ≡ Some s
      → IsSafeLeft w (state site).shared v.tier.schema asked p → IsSafeLeft w (state site).shared s.schema asked p
  schema_told w v asked p left s site front at told leaves x =
      let history : left.history ≡ v.history = ap (λ (h : Held). h.history) (same_held (state site).held left at.there told at.told) ∙ sym at.history in
      let f = front s (ap state_of (sym history) ∙ leaves) in
      record {
        entries = x.entries;
        early = x.early;
        becomes = becomes_then x.early v.tier.schema s.schema x.becomes f.0 f.1;
        gives = x.gives;
        safe = x.safe;
        may = x.may;
      }

  -- ---- since a line began

  module _ (w : World) (early : List Sealed) (h : HoldsOn w early) where
    -- a way begins there
    begun : LedFrom (begun_here w) (begun_here w) early
    begun = record {
      holds = record {
        on = record { now = h.on.now; is = way_begins w h.on.now w.moment h.on.is; more = h.on.more; grows = h.on.grows };
        kinds = h.kinds;
        reads = record { flushed = h.reads.flushed; tail = h.reads.tail; way = tt; groups = h.reads.groups; known = h.reads.known; own = h.reads.own; front = h.reads.front };
      };
      began = refl;
      longer = record { more = []; is = sym (append-nil w.history) };
    }

    led_since : (holds : World → Type 0) (lines : List Given) (replies : List (Option Reply)) (x : LedSince holds w lines replies) → LedFrom (begun_here w) x.world early
    led_since holds lines replies x = led Anywhere (begun_here w) (begun_here w) lines replies x.world early begun x.run x.goes

    left_since : (holds : World → Type 0) (lines : List Given) (replies : List (Option Reply)) (x : LedSince holds w lines replies) → IsLeft x.world
    left_since holds lines replies x = left_of Anywhere x.world (goes_last Anywhere (begun_here w) lines replies x.world x.run x.goes)

  -- ---- of the site as it is

  module _ (d : D) (left : Held) (s : TableState) (told : (state d).held ≡ Some left) (leaves : state_of left.history ≡ Some s) where
    -- since a world, where its way leads to one at the site
    pub safe_from : (w v : World) (asked : Asking) → PointsFrom (begun_here w) v → IsAt (state d) v → (there : Held) → LeavesOnWay state possible d there v v.journal.way → FreeAt v asked → LeavesSafe state possible d w s.schema asked
    safe_from w v asked l at there points free k p lo hi may =
        schema_told w v asked p left s d (front_known v l.reads) at told leaves (safe_here w v l d there points at.shared asked free k p lo hi may)

    -- since each line began
    module _ (X : World → Type 0) (asked : Asking) (one : (w : World) (early : List Sealed) → HoldsOn w early → (lines : List Given) (replies : List (Option Reply)) → LedSince X w lines replies → LeavesSafe state possible d w s.schema asked) where
      each_safe : (w : World) (lines : List Given) (replies : List (Option Reply)) (w' : World) (early : List Sealed) → HoldsOn w early → (run : LineRun w lines replies w') → GoesOn (WasKept state possible) w lines replies w' run
          → LedSinceEach X w lines replies w' run → CrashesAreSafe state possible d s.schema asked w lines replies w' run
      each_safe w [] [] w' early h run goes since = one w' early (subst (λ v. HoldsOn v early) (sym run) h) [] [] since
      each_safe w [] (reply ∷ replies) w' early h run goes since = absurd run
      each_safe w (g ∷ lines) [] w' early h run goes since = absurd run
      each_safe w (g ∷ lines) (reply ∷ replies) w' early h run goes since = (
        one w early h (g ∷ lines) (reply ∷ replies) since.0,
        each_safe run.0 lines replies w' early (line_holds (WasKept state possible) w run.0 g reply early h goes.0 goes.1 goes.2 (left_first (WasKept state possible) run.0 lines replies w' run.2 goes.3) run.1) run.2 goes.3 since.1,
      )

    -- behind the lines, where the journal is kept
    safe_ended : (ends : World → World → Type 0) → KeepsLed ends → (ran w : World) (early : List Sealed) → HoldsOn w early → (lines : List Given) (replies : List (Option Reply)) → LedSince (EndsKept ends (state d) (KeepsOver state possible d) ran) w lines replies
        → LeavesSafe state possible d w s.schema (LeaveAlone ran)
    safe_ended ends keeps ran w early h lines replies x =
        let b = keeps (begun_here w) x.world x.is.last early (led_since w early h _ lines replies x) x.is.ended in
        let over = over_of state possible d x.is.is.journal x.is.last x.is.is.kept x.is.is.keeps in
        safe_from w x.is.last (LeaveAlone ran) (points_led (begun_here w) x.is.last early b.led_on) x.is.is.at over.1.there over.1.leaves
        (free_led (begun_here w) x.is.last early (LeaveAlone ran) b.led_on (λ entries history a. unshared_as x.world x.is.last b.tier b.shared (x.is.apart a)))

    -- in a line in which a call of the disk failed
    safe_broken : (g : Given) (reply : Option Reply) → kept.is_broken reply ≡ true → (w : World) (early : List Sealed) → HoldsOn w early → (lines : List Given) (replies : List (Option Reply)) → LedSince (BreaksFrom (state d) (IsLeftOver state possible d) g reply) w lines replies
        → LeavesSafe state possible d w s.schema (LeaveUnshared (state d).shared)
    safe_broken g reply fails w early h lines replies x =
        safe_from w x.is.last (LeaveUnshared (state d).shared)
        (points_broken (begun_here w) x.world x.is.last early g reply (led_since w early h _ lines replies x) (left_since w early h _ lines replies x) x.is.unshared x.is.goes fails) x.is.at x.is.leaves.there x.is.leaves.leaves
        (free_here x.is.last (state d).shared x.is.at.shared)

    -- in the flush at the end of the input
    safe_unflushed : (reply : Reply) → kept.is_broken (Some reply) ≡ true → (w : World) (early : List Sealed) → HoldsOn w early → (lines : List Given) (replies : List (Option Reply)) → LedSince (FailsFrom (state d) (IsLeftOver state possible d) reply) w lines replies
        → LeavesSafe state possible d w s.schema (LeaveUnshared (state d).shared)
    safe_unflushed reply fails w early h lines replies x =
        safe_from w x.is.last (LeaveUnshared (state d).shared) (points_unflushed (begun_here w) x.world x.is.last early reply (led_since w early h _ lines replies x) x.is.ended fails) x.is.at x.is.leaves.there x.is.leaves.leaves
        (free_here x.is.last (state d).shared x.is.at.shared)

  -- ---- since the tier began, over the journal as it was found

  -- where a run begins
  begins_held : (settings : Settings) (moment : ℕ) (there : Held) (w : World) → Opens settings moment there w → MayOpenAgain w.shared there → HoldsOn w []
  begins_held settings moment there w x may =
      let again : Reopened w [] = begins_again settings moment there w x may.may in
      record { on = again.on; kinds = again.kinds; reads = opened_readable settings moment there w x may.named }

  module _ (settings : Settings) (moment : ℕ) (there : Held) (w : World) (x : Opens settings moment there w) (may : MayOpenAgain w.shared there) where
    leads : LeadsTo x.begun w
    leads = reopens_lead x.begun w None x.reopens

    abbrev was : World
    was = was_in x

    -- the way of its journal began there
    began_there : beginning_of x.begun.journal ≡ beginning_of (begun_here was).journal
    began_there =
        ap beginning_of x.begins.journal
        ∙ ap (λ (n : ℕ). Some (record { since = x.begins.since; from = n; entries = x.begins.entries })) (sym (front_long x.begins.from x.begun.history x.begins.most))
        ∙ ap (λ (es : List JournalEntry). Some (record { since = x.begins.since; from = length (take x.begins.from x.begun.history); entries = es })) (sym (ap (λ (j : Journal). j.flushed) x.begins.journal))

    begun_led : LedFrom (begun_here was) w []
    begun_led = record {
      holds = begins_held settings moment there w x may;
      began = way_on_way x.begun.journal w.journal leads.journal.renewals leads.journal.leads ∙ began_there;
      longer = longer_then was.history x.begun.history w.history (record { more = drop x.begins.from x.begun.history; is = sym (take-append-drop x.begins.from x.begun.history) }) leads.history;
    }

    module _ (lines : List Given) (replies : List (Option Reply)) (ran : World) (run : LineRun w lines replies ran) (goes : GoesOn (WasKept state possible) w lines replies ran run) where
      through : LedFrom (begun_here was) ran []
      through = led (WasKept state possible) (begun_here was) w lines replies ran [] begun_led run goes

      left_there : IsLeft ran
      left_there = left_of (WasKept state possible) ran (goes_last (WasKept state possible) w lines replies ran run goes)

  within_ends : (ends : World → World → Type 0) → KeepsLed ends → CrashesWithinAreSafe state possible ends
  within_ends ends keeps settings moment there left s o lines replies d x may a told leaves =
      let h = begins_held settings moment there o.world x may in
      let b = keeps (begun_here (was_in x)) a.ran a.last [] (through settings moment there o.world x may a.comes.given replies a.ran a.comes.run a.goes) a.ended in
      let over = over_of state possible d a.now.journal a.last a.now.kept a.now.keeps in (
        safe_from d left s told leaves (was_in x) a.last (LeaveAlone a.ran) (points_led (begun_here (was_in x)) a.last [] b.led_on) a.at over.1.there over.1.leaves
            (free_led (begun_here (was_in x)) a.last [] (LeaveAlone a.ran) b.led_on (λ entries history alone. unshared_as a.ran a.last b.tier b.shared alone)),
        each_safe d left s told leaves (EndsKept ends (state d) (KeepsOver state possible d) a.ran) (LeaveAlone a.ran) (safe_ended d left s told leaves ends keeps a.ran) o.world a.comes.given replies a.ran [] h a.comes.run a.goes a.since,
      )

  pub flushed_are_safe : CrashesWithinAreSafe state possible HasFlushed
  flushed_are_safe = within_ends HasFlushed flush_keeps

  pub rests_are_safe : CrashesWithinAreSafe state possible Rests
  rests_are_safe = within_ends Rests rests_keep

  pub broken_lines_are_safe : BrokenLinesAreSafe state possible
  broken_lines_are_safe settings moment there left s o lines replies d x may b told leaves =
      let r = b.comes.run in
      let h = begins_held settings moment there o.world x may in (
        safe_from d left s told leaves (was_in x) b.last (LeaveUnshared (state d).shared)
            (points_broken (begun_here (was_in x)) r.mid b.last [] r.last r.reply (through settings moment there o.world x may r.before r.told r.mid r.run b.goes)
            (left_there settings moment there o.world x may r.before r.told r.mid r.run b.goes) b.unshared r.goes r.fails) b.at b.leaves.there b.leaves.leaves (free_here b.last (state d).shared b.at.shared),
        each_safe d left s told leaves (BreaksFrom (state d) (IsLeftOver state possible d) r.last r.reply) (LeaveUnshared (state d).shared) (safe_broken d left s told leaves r.last r.reply r.fails) o.world r.before r.told r.mid [] h r.run b.goes b.since,
      )

  pub broken_ends_are_safe : BrokenEndsAreSafe state possible
  broken_ends_are_safe settings moment there left s o lines replies d x may b told leaves =
      let h = begins_held settings moment there o.world x may in (
        safe_from d left s told leaves (was_in x) b.last (LeaveUnshared (state d).shared)
            (points_unflushed (begun_here (was_in x)) b.ran b.last [] b.reply (through settings moment there o.world x may b.comes.given b.told b.ran b.comes.run b.goes) b.ended b.broken) b.at b.leaves.there b.leaves.leaves (free_here b.last (state d).shared b.at.shared),
        each_safe d left s told leaves (FailsFrom (state d) (IsLeftOver state possible d) b.reply) (LeaveUnshared (state d).shared) (safe_unflushed d left s told leaves b.reply b.broken) o.world b.comes.given b.told b.ran [] h b.comes.run b.goes b.since,
      )

  -- ---- in the command `import`

  points_come : (w0 w v : World) → LedFrom w0 w [] → ComesBy w v [] → PointsFrom w0 v
  points_come w0 w v l c = record {
    groups = v.tier.groups;
    safe = c.on.is.safe;
    backing = c.on.is.backing;
    leaves = c.on.is.leaves;
    reads = c.reads;
    began = ap beginning_of c.journal ∙ l.began;
    longer = longer_then w0.history w.history v.history l.longer (record { more = c.more; is = c.is });
  }

  pub imports_are_safe : ImportsAreSafe state possible
  imports_are_safe onset status settings there left s word input written written' coming coming' d d' source x may told leaves = subst (λ b. LeavesSafe state possible d' b s.schema AskNothing) (was_begun onset (state d).moment there x.opens x.starts) (by status x.ended)
    where
      again : MayOpenAgain x.world.shared there
      again = record { may = subst (λ s. MayOpen s there) (sym x.shares) may.may; bytes = may.bytes; named = may.named }

      apart : IsUnshared x.world
      apart = (begins_again settings x.first there x.world x.opens again.may).unshared

      h : HoldsOn x.world []
      h = begins_held settings x.first there x.world x.opens again

      came : (last : World) → ComesBy x.world last [] → IsAt (state d') last → IsLeftOver state possible d' last → LeavesSafe state possible d' (was_in x.opens) s.schema AskNothing
      came last c at left_over =
          safe_from d' left s told leaves (was_in x.opens) last AskNothing (points_come (begun_here (was_in x.opens)) x.world last (begun_led settings x.first there x.world x.opens again) c) at left_over.there left_over.leaves
          (λ way so entries count point within nothing.
          let safe : IsSafeWay last.tier.groups last.shared last.journal.flushed last.history way = subst (IsSafeOn last.tier.groups last.shared last.journal.flushed last.history) so c.on.is.safe in
          safe.apart (unshared_as x.world last c.tier c.shared apart) entries count point within)

      done : (last : World) (reply : Reply) → Tries (Imports word input) x.world last reply → IsAt (state d') last → IsLeftOver state possible d' last → LeavesSafe state possible d' (was_in x.opens) s.schema AskNothing
      done last reply is at left_over = came last (import_comes word input x.world last reply [] x.stands h.on apart h.reads is) at left_over

      nothing : IsAt (state d') x.world → IsLeftOver state possible d' x.world → LeavesSafe state possible d' (was_in x.opens) s.schema AskNothing
      nothing at left_over = came x.world (stays x.world x.world [] h.on h.reads refl) at left_over

      by : (status : Status) → ImportEnds status word input x.world (seen written coming state possible d) source (seen written' coming' state possible d') → LeavesSafe state possible d' (was_in x.opens) s.schema AskNothing
      by Finished e = done e.imported.world e.imported.reply e.imported.is e.imported.at e.imported.leaves
      by SinkFailed e = done e.imported.world e.imported.reply e.imported.is e.imported.at e.imported.leaves
      by SourceFailed e = nothing e.1.at e.1.leaves
      by InputTooLong e = nothing e.1.at e.1.leaves
      by NoMemory e = nothing e.at e.leaves
      by DiskFailed e = absurd e
      by SchemaFailed e = absurd e
      by LineUnchecked e = absurd e
      by Damaged e = absurd e
      by Differs e = absurd e
