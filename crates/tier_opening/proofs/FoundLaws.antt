-- The opening of a tier, call by call: the schema, the journal, what its entries leave, and the tier opened again.
use Rattle.std.proofs.Common.{◌≡◌, ◌∙◌, ◌≤◌, ◌+◌, ℕ, Option, Some, None, List, [], ◌∷◌, ◌++◌, Ok, Err, length, take, refl, sym, ap, subst, arith, append-nil}
use Rattle.std.proofs.lemmas.List.{length-append, take_at}
use Rattle.std.proofs.lemmas.Option.{same_Some}
use Rattle.std.specs.Option.{IsSome}
use Rattle.std.specs.Global.{Vec}
use Rattle.row_types.specs.declared.value.Value.{Value}
use Rattle.tier_base.specs.declared.number.TableId.{TableId}
use Rattle.table_state.specs.declared.history.Sealed.{Sealed}
use Rattle.table_state.specs.Histories.{state_of}
use Rattle.table_state.specs.Tables.{TableState}
use Rattle.outside.specs.Bank.{TellsSchema}
use Rattle.outside.specs.Calls as site
use Rattle.outside.specs.Calls.{BankGoesOn, Certain, Leaves}
use Rattle.outside.specs.Holding.{Held}
use Rattle.outside.specs.Others.{AreOthers}
use Rattle.outside.specs.Sites.{SiteState}
use Rattle.order_laws.specs.Commits.{RiseBetween}
use Rattle.commit_journal.specs.Layout.{HaveBytes, Reads, entries_of}
use Rattle.commit_journal.specs.Opening as commit_opening
use Rattle.propagators.specs.Certainty.{KeepsCertain}
use Rattle.propagators.proofs.CertainLaws.{HistoryIsCertain}
use Rattle.recovery_laws.specs.Notes.{commits_in}
use Rattle.cache_tier.specs.Journals.{JournalEntry, Way, next_behind}
use Rattle.cache_tier.specs.WayPoints.{with_way}
use Rattle.tier_journal.specs.KeptOver.{IsLeftOver, KeepsOver}
use Rattle.tier_journal.specs.Ways.{IsOnWay, LeavesPoints}
use Rattle.tier_journal.specs.Writing.{written, written_all}
use Rattle.tier_journal.proofs.WayLaws.{flushed_tables, leaves_at, on_way, ways_begin}
use Rattle.cache_tier.specs.StandingBetween.{Each, Stands}
use Rattle.cache_tier.specs.TierStates.{Settings, opened}
use Rattle.cache_tier.specs.Worlds.{IsUnshared, World}
use Rattle.group_catalog.specs.Catalogs.{groups_in}
use Rattle.tier_journal.specs.declared.journal.TierJournal.{TierJournal}
use Rattle.tier_journal.specs.declared.record.Record.{Record}
use Rattle.tier_journal.specs.declared.opening.Found.TheVariants.{Whole}
use Rattle.tier_journal.specs.Keeping.{Keeps, version_in}
use Rattle.tier_journal.specs.Opening.{Finds, StandForAll, meanings, opened_journal}
use Rattle.journal_entries.specs.declared.entry.Entry.{Entry as Written}
use Rattle.commit_journal.specs.Layout.{Placed}
use Rattle.table_defs.specs.declared.definition.TableDef.{TableDef}
use Rattle.recovery.specs.Recalling.{AreMatched, notes_of}
use Rattle.recalling.specs.Recalled.{IsBare, IsRecalled}
use Rattle.reopening.specs.Starting.{BeginsAs, DiffersAs, HasDiffered, ReopensFrom}
use Rattle.reopening.specs.declared.start.ReopenError.{ReopenError}
use Rattle.reopening.specs.declared.start.ReopenError.TheVariants as reopen
use Rattle.reopening.specs.declared.start.Start.{Start}
use Rattle.stored_tier.specs.declared.tier.Tier.{Tier as Stored}
use Rattle.stored_tier.specs.Sites.{IsAt}
use Rattle.stored_tier.specs.Stored.{pace_of}
use Rattle.stored_tier.proofs.BankLaws.{TellsBehind, told_behind}
use Rattle.stored_tier.proofs.OverLaws.{keeps_called}
use Rattle.stored_tier.proofs.OthersLaws.{CameBy, came_by, schema_reads, schema_told}
use Rattle.tier_opening.specs.Leaving.{StopsBehind, StopsIn}
use Rattle.tier_opening.specs.Opening.{AtJournal, AtOpening, BeginsIn, IsOpened, IsOpenedIn, IsSure, Onset, StartsAt, begun_tier, onset_history, onset_moment, world_of}
use Rattle.tier_opening.specs.Telling.{IsDiffering, IsNamed}
use Rattle.tier_opening.proofs.BeginLaws.{RecalledLaw, all_still, begins_as, begun_stands}
use Rattle.tier_opening.proofs.KeepLaws.{reopens_leave}
use Rattle.tier_opening.proofs.LeftLaws as left

-- some held state is told
told_some : (told : Option Held) (o : Held) → told ≡ Some o → IsSome told
told_some None o is = cc
told_some (Some held) o is = refl

pub stand_written : (schema : List TableDef) (entries : List JournalEntry) (placed : List Placed) → StandForAll schema entries placed → entries_of placed ≡ written_all schema entries
stand_written schema [] [] h = refl
stand_written schema [] (p ∷ placed) h = absurd h
stand_written schema (x ∷ entries) [] h = absurd h
stand_written schema (x ∷ entries) (p ∷ placed) h =
    ap (λ (e : Written). e ∷ entries_of placed) (sym h.0.is) ∙ ap (λ (l : List Written). written schema x ∷ l) (stand_written schema entries placed h.1)

module _ {D : Type 0} (state : D → SiteState) (possible : D → ℕ → Held → Type 0) (d d1 d2 : D) (start : Start) (k : TierJournal) (records : Vec (ℕ × Record))
    (told : site.Told (state d).held (state d1).held (site.BankCall (state d).shared (TellsSchema (Ok start.schema)))) (shared : (state d2).shared ≡ (state d).shared)
    (found : (o : Held) → (state d1).held ≡ Some o → HaveBytes o.slots → Finds state possible d2 start.schema o (Whole k records)) (two : version_in k ≡ 2)
    (recalls : (settings : Settings) → IsRecalled settings start.now.0 start.schema (meanings records.items) (groups_in start.catalog)) (bare : Each IsBare (groups_in start.catalog))
    (commits : start.commits.items ≡ commits_in (notes_of start.schema (meanings records.items))) (next : start.next ≡ next_behind (meanings records.items)) (rise : RiseBetween 1 start.commits.items start.next)
    (law : RecalledLaw) (goes : BankGoesOn state possible d d1) (certainly : HistoryIsCertain state possible) (crash : (o : Held) → Certain state possible d1 o → HaveBytes o.slots → Leaves state possible d1 d2 (commit_opening.Keeps o))
    (onset : Onset) (o : Held) (settings : Settings) (held : (state d).held ≡ Some o) (bytes : HaveBytes o.slots) (sure : IsSure onset (Certain state possible d) o) (due : pace_of settings ≡ start.pace) where
  now : TellsBehind o (state d1).held (site.BankCall (state d).shared (TellsSchema (Ok start.schema)))
  now = told_behind o (state d).held (state d1).held (site.BankCall (state d).shared (TellsSchema (Ok start.schema))) held told

  came : CameBy (state d).shared o.history now.there.history
  came = came_by (state d).shared (TellsSchema (Ok start.schema)) o.history now.there.history (schema_reads (Ok start.schema)) now.is.history

  abbrev entries : List JournalEntry
  entries = meanings records.items

  f : Finds state possible d2 start.schema now.there (Whole k records)
  f = found now.there now.told (subst HaveBytes (sym now.is.slots) bytes)

  r : IsRecalled settings start.now.0 start.schema entries (groups_in start.catalog)
  r = recalls settings

  -- before a way of its journal begins
  abbrev before : World
  before = world_of (begun_tier start.schema entries f.now.history r.tier) f.now.history (opened_journal k entries) (state d2)

  -- and where it begins
  abbrev since : Onset → ℕ
  since at = onset_moment at (state d).moment (state d2).moment

  abbrev from : Onset → ℕ
  from at = length (onset_history at o.history f.now.history)

  abbrev begun_at : Onset → World
  begun_at at = world_of (begun_tier start.schema entries f.now.history r.tier) f.now.history (with_way (since at) (from at) (opened_journal k entries)) (state d2)

  abbrev w : World
  w = begun_at onset

  grown : length f.now.history ≡ length o.history + length came.entries
  grown = ap (λ (h : List _). length h) (f.beside ∙ came.is) ∙ length-append o.history came.entries

  least_at : (at : Onset) → length o.history ≤ from at
  least_at AtOpening = omega arith
  least_at AtJournal = let e = grown in omega (arith, e)

  most_at : (at : Onset) → from at ≤ length f.now.history
  most_at AtOpening = let e = grown in omega (arith, e)
  most_at AtJournal = omega arith

  known : (s : TableState) → state_of f.now.history ≡ Some s → s.schema ≡ start.schema
  known s is = schema_told (state d).shared start.schema o.history now.there.history s now.is.history (subst (λ h. state_of h ≡ Some s) f.beside is)

  abbrev begins : BeginsIn settings start.now.0 o k w
  begins = record {
    others = came.entries;
    came = subst (λ s. AreOthers s o.history came.entries) (sym shared) came.others;
    history = f.beside ∙ came.is;
    schema = start.schema;
    known = known;
    entries = entries;
    say = record { placed = f.shows.0; reads = subst (λ x. Reads x f.shows.0 None) now.is.slots f.shows.1; stand = f.shows.2 };
    since = since onset;
    from = from onset;
    least = least_at onset;
    most = most_at onset;
    journal = refl;
    catalog = r.tier;
    recalls = r.recalls;
    tier = refl;
  }

  starts_at : StartsAt onset (state d).moment begins
  starts_at = record { since = refl; from = refl }

  at : IsAt (state d2) w
  at = record { there = f.now; told = f.certain.told; history = refl; faults = refl; moment = refl; shared = refl }

  stands : AreMatched entries w.history → Stands w
  stands m = begun_stands law w entries settings start.now.0 start.schema r.tier m (known m.backing m.leaves) r.recalls

  starts : BeginsAs start w.tier
  starts = begins_as start settings entries f.now.history r.tier due r.recalls r.left bare commits next rise

  -- the journal is kept there, over the disk as it was found
  schema_is : before.tier.schema ≡ start.schema
  schema_is = (all_still entries (opened settings start.now.0 start.schema) r.tier r.recalls).schema

  kept : Keeps before.tier.schema k f.now.slots (opened_journal k entries)
  kept = subst (λ s. Keeps s k f.now.slots (opened_journal k entries)) (sym schema_is) f.shows.4

  -- with a way that begins there
  over_journal : KeepsOver state possible d2 (Some k) (begun_at AtJournal)
  over_journal = ways_begin state possible d2 (Some k) before refl (record { there = f.now; told = f.certain.told; same = refl })
      (record { there = f.now; certain = f.certain; keeps = kept; version = two; leaves = tt })

  -- or with the opening
  module _ (certain : Certain state possible d o) where
    abbrev way : Way
    way = record { since = (state d).moment; from = length o.history; past = [] }

    history_is : f.now.history ≡ (left.called state possible d d1 d2 (TellsSchema (Ok start.schema)) (schema_reads (Ok start.schema)) told goes certainly crash o certain bytes).now.history
    history_is =
        let c = left.called state possible d d1 d2 (TellsSchema (Ok start.schema)) (schema_reads (Ok start.schema)) told goes certainly crash o certain bytes in
        f.beside ∙ ap (λ (x : Held). x.history) (same_Some now.there c.now (sym now.told ∙ c.certain.told))

    point : (m : ℕ) (p : Held) → (state d).moment ≤ m → m ≤ (state d2).moment → possible d2 m p → IsOnWay before.tier.schema way entries f.now.history p
    point m p lo hi may =
        let b = left.found_before state possible d d1 d2 (TellsSchema (Ok start.schema)) (schema_reads (Ok start.schema)) told goes certainly crash o certain bytes m p lo hi may in
        let whole : f.now.history ≡ p.history ++ b.comes.more = history_is ∙ b.comes.is in
        let long : length p.history ≡ length o.history + length b.found.others = ap (λ (h : List _). length h) b.found.history ∙ length-append o.history b.found.others in
        let longer : length f.now.history ≡ length p.history + length b.comes.more = ap (λ (h : List _). length h) whole ∙ length-append p.history b.comes.more in
        record {
          entries = entries;
          count = length p.history;
          point = (omega (arith, long), omega (arith, longer), refl);
          within = omega (arith, longer);
          front = sym (ap (take (length p.history)) whole ∙ take_at p.history b.comes.more (length p.history) refl);
          early = start.schema;
          becomes = record { more = []; is = schema_is ∙ sym (append-nil start.schema) };
          tables = flushed_tables start.schema k f.now.slots (opened_journal k entries) f.shows.4;
          gives = record {
            gives = record {
              placed = f.shows.0;
              reads = b.found.reads f.shows.0 None (subst (λ x. Reads x f.shows.0 None) now.is.slots f.shows.1);
              are = stand_written start.schema entries f.shows.0 f.shows.2;
            };
            bytes = b.found.bytes;
          };
        }

    points : LeavesPoints state possible d2 f.now (begun_at AtOpening) way
    points = record { same = refl; turned = most_at AtOpening; leaves = point }

    over_opening : KeepsOver state possible d2 (Some k) (begun_at AtOpening)
    over_opening = record {
      there = f.now;
      certain = f.certain;
      keeps = on_way before.tier.schema k f.now.slots (opened_journal k entries) (Some way) kept;
      version = two;
      leaves = points;
    }

  over_at : (at : Onset) → IsSure at (Certain state possible d) o → KeepsOver state possible d2 (Some k) (begun_at at)
  over_at AtOpening certain = over_opening certain
  over_at AtJournal nothing = over_journal

  over : KeepsOver state possible d2 (Some k) w
  over = over_at onset sure

  pub opens : (d3 : D) (t : Stored) → ReopensFrom start (state d2) (state d3) (Ok t) → KeepsCertain state possible d2 d3 → IsOpened state possible onset settings start.now.0 (state d) o t k d3
  opens d3 t reopens certain = record { begun = w; shares = shared; begins = begins; starts = starts_at; opened = opened_in }
    where
      opened_in : AreMatched entries w.history → IsUnshared w → IsOpenedIn state possible w t k d3
      opened_in m apart =
          let p = reopens w at (stands m) apart starts in
          let left = reopens_leave w p.world None p.is in
          record {
            world = p.world;
            at = p.at;
            stands = p.stands;
            keeps = keeps_called state possible (Some k) d2 d3 w p.world over certain left.journal left.schema p.at;
            reopens = p.is;
          }

  -- the opening ends at a row that differs
  pub differing : (d3 : D) (table : TableId) (name : List ℕ) (key : List Value) → IsNamed start.schema table name → ReopensFrom start (state d2) (state d3) (Err (reopen.Differs table key)) → DiffersAs start.commits.items (state d2) (state d3) (reopen.Differs table key)
      → IsDiffering settings start.now.0 (state d).shared o (state d3) name key
  differing d3 table name key named reopens differs = record {
    journal = k;
    begun = w;
    shares = shared;
    begins = begins;
    table = table;
    named = named;
    differed = subst (λ (l : List Sealed). HasDiffered (state d2).shared table key l (state d3)) commits (differs (told_some (state d2).held f.now f.certain.told));
    ends = λ m apart. reopens w at (stands m) apart starts;
  }

  -- it ends early, whatever the reason
  stopped : (d3 : D) (e : ReopenError) → ReopensFrom start (state d2) (state d3) (Err e) → KeepsCertain state possible d2 d3 → AreMatched entries w.history → IsUnshared w → StopsIn (state d3) (IsLeftOver state possible d3) w
  stopped d3 e reopens certain m apart =
      let p = reopens w at (stands m) apart starts in
      let same = reopens_leave w p.world _ p.is in
      record {
        world = p.world;
        at = p.at;
        stop = _;
        reopens = p.is;
        leaves = leaves_at state possible d3 (Some k) p.world (keeps_called state possible (Some k) d2 d3 w p.world over certain same.journal same.schema p.at);
      }

module _ {D : Type 0} (state : D → SiteState) (possible : D → ℕ → Held → Type 0) (d d1 d2 : D) (start : Start) (k : TierJournal) (records : Vec (ℕ × Record))
    (told : site.Told (state d).held (state d1).held (site.BankCall (state d).shared (TellsSchema (Ok start.schema)))) (shared : (state d2).shared ≡ (state d).shared)
    (found : (o : Held) → (state d1).held ≡ Some o → HaveBytes o.slots → Finds state possible d2 start.schema o (Whole k records)) (two : version_in k ≡ 2)
    (recalls : (settings : Settings) → IsRecalled settings start.now.0 start.schema (meanings records.items) (groups_in start.catalog)) (bare : Each IsBare (groups_in start.catalog))
    (commits : start.commits.items ≡ commits_in (notes_of start.schema (meanings records.items))) (next : start.next ≡ next_behind (meanings records.items)) (rise : RiseBetween 1 start.commits.items start.next)
    (law : RecalledLaw) (goes : BankGoesOn state possible d d1) (certainly : HistoryIsCertain state possible) (crash : (o : Held) → Certain state possible d1 o → HaveBytes o.slots → Leaves state possible d1 d2 (commit_opening.Keeps o))
    (o : Held) (settings : Settings) (bytes : HaveBytes o.slots) (sure : Certain state possible d o) (due : pace_of settings ≡ start.pace) where
  -- with a way that begins where the opening does
  pub stops : (d3 : D) (e : ReopenError) → ReopensFrom start (state d2) (state d3) (Err e) → KeepsCertain state possible d2 d3 → StopsBehind settings start.now.0 o (state d) (state d3) (IsLeftOver state possible d3)
  stops d3 e reopens certain = record {
    journal = k;
    begun = w state possible d d1 d2 start k records told shared found two recalls bare commits next rise law goes certainly crash AtOpening o settings sure.told bytes sure due;
    shares = shared;
    begins = begins state possible d d1 d2 start k records told shared found two recalls bare commits next rise law goes certainly crash AtOpening o settings sure.told bytes sure due;
    starts = starts_at state possible d d1 d2 start k records told shared found two recalls bare commits next rise law goes certainly crash AtOpening o settings sure.told bytes sure due;
    stops = stopped state possible d d1 d2 start k records told shared found two recalls bare commits next rise law goes certainly crash AtOpening o settings sure.told bytes sure due d3 e reopens certain;
  }
