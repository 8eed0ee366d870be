-- Entries that are made ready, and the worlds whose journal they are for.
use Rattle.std.proofs.Common.{◌≡◌, ℕ, ◌≤◌, ◌<◌, Bool, true, false, cond, ◌&&◌, Option, Some, None, List, [], ◌∷◌, ◌++◌, length, slice_get, refl, sym, ap, subst, ◌∙◌, inl, inr, arith}
use Rattle.std.specs.Prelude.{Result, Ok, Err}
use Rattle.std.specs.Result.{IfOk}
use Rattle.std.specs.Bool.{MatchBool}
use Rattle.tier_base.specs.declared.code.Code.TheVariants as code
use Rattle.tier_base.specs.declared.limit.Limit.TheVariants as limit
use Rattle.tier_base.specs.declared.number.SessionId.{SessionId}
use Rattle.row_types.specs.declared.rule.Refused.TheVariants as refused
use Rattle.row_types.specs.declared.rule.Rule.{Rule}
use Rattle.sql_subset.specs.declared.stmt.Stmt.{Stmt}
use Rattle.sql_subset.specs.declared.stmt.RefreshState.{RefreshState}
use Rattle.sql_subset.specs.declared.stmt.RefreshState.TheVariants.{On}
use Rattle.table_defs.specs.declared.definition.TableDef.{TableDef}
use Rattle.std.specs.Option.{IsSome}
use Rattle.tier_base.specs.declared.number.TableId.{TableId}
use Rattle.table_state.specs.declared.history.Entry.{Entry}
use Rattle.table_state.specs.Tables.{TableState}
use Rattle.group_catalog.specs.declared.which.ResolvedWhich.{ResolvedWhich}
use Rattle.group_engine.specs.Taking.{TakesIn}
use Rattle.stored_tier.proofs.QuietLaws.{calm_done}
use Rattle.stored_tier.proofs.StandingLaws.{slots_kept}
use Rattle.outside.specs.Calls.{BankCall, BankTold, Certain, Leaves, Told}
use Rattle.outside.specs.Faults.{BankHasCause, Rose}
use Rattle.outside.specs.declared.fault.BankError.{BankError}
use Rattle.outside.specs.declared.fault.BankError.TheVariants.{Failed, Memory}
use Rattle.outside.specs.Holding.{Held}
use Rattle.outside.specs.Sites.{SiteState}
use Rattle.cache_tier.specs.declared.reply.Last.TheVariants.{Done, No}
use Rattle.cache_tier.specs.declared.reply.Reply.{Reply}
use Rattle.cache_tier.specs.AlterSteps.{altered_entries, same_state}
use Rattle.cache_tier.specs.Groups.{Group}
use Rattle.cache_tier.specs.Journals.{Journal, JournalEntry, SetsLoaded, SetsState, flushed_with, is_full}
use Rattle.cache_tier.specs.Order.{refusal}
use Rattle.cache_tier.specs.Steps.{DoesStatement, tells}
use Rattle.cache_tier.specs.TierStates.{Session}
use Rattle.cache_tier.specs.JournalSteps.{Flushes, FlushesFitting, FlushesKept, FlushesSome, has_entries, journal_full, name_size, name_sizes}
use Rattle.cache_tier.specs.Reading.{Answers}
use Rattle.cache_tier.specs.Rules.{past}
use Rattle.cache_tier.specs.Targets.{load_entries}
use Rattle.cache_tier.specs.UnloadSteps.{unload_entries}
use Rattle.cache_tier.specs.Worlds.{Part, Passes, Then, Unless, World, bank_fault, faulty, only}
use Rattle.tier_journal.specs.declared.batch.Batch.{Batch}
use Rattle.tier_journal.specs.declared.journal.TierJournal.{TierJournal}
use Rattle.tier_journal.specs.Batches.{Adds, Holds, IsEmpty}
use Rattle.tier_journal.specs.Keeping.{HasRoomFor, IsTooMuch, Keeps, KeepsOn, standing_in, version_in}
use Rattle.tier_journal.specs.Leaving.{LeftByFlush}
use Rattle.tier_journal.proofs.KeepLaws.{full_past, past_full}
use Rattle.tier_journal.specs.declared.draft.Draft.{Draft}
use Rattle.tier_journal.specs.Drafts.{IsDraftOf, StaysKept}
use Rattle.tier_journal.specs.KeptOver.{DiskIsCaused, IsOver, IsWrittenOver, KeepsOver, WritesDraft, is_broken, over_disk}
use Rattle.tier_journal.proofs.DraftLaws.{full_so, one_entry, one_place, placed_so}
use Rattle.tier_journal.proofs.FlushLaws.{IsRead, failed_over, fitting_over, flushed_over, still_over}
use Rattle.tier_journal.proofs.WayLaws.{kept_unless}
use Rattle.stored_tier.specs.declared.tier.Tier.{Tier as Stored}
use Rattle.stored_tier.specs.Performing.{Executes, IsCalm, IsCausedOver, KeepsSlots, PerformsInOver, StandsFor}
use Rattle.stored_tier.specs.Stored.{HasSession, IsStoredAs}
use Rattle.stored_tier.proofs.OverLaws.{answered_over, caused_quiet, caused_then, ended_over, flush_breaks, keeps_stays}
use Rattle.group_engine.specs.Altering.{IsReadyAt}
use Rattle.group_engine.specs.Fresh.{IsCalled}
use Rattle.group_engine.proofs.GroupRows.{same_there}
use Rattle.group_engine.specs.Readying.{is_flagged, is_turned}
use Rattle.group_engine.specs.declared.ready.Ready.{Ready}
use Rattle.group_engine.specs.declared.ready.Ready.TheVariants.{Both, Full, Nothing, One}
use Rattle.group_engine.specs.Ready.{AnswersBehind, FillsAll, FitsAll, IsOne, IsPlacedReady, IsReadyFor, WritesReady, is_full_ready}

-- what is made ready

pub kept_here : (k : Option TierJournal) → StaysKept k k
kept_here None = tt
kept_here (Some t) = record { keeps = λ schema slots j keeps. keeps; same = record { tail = refl; slot = refl; generation = refl; version = refl; standing = refl } }

pub nothing_ready : (schema : List TableDef) (k : Option TierJournal) (entries : List JournalEntry) → has_entries entries ≡ false → IsReadyFor schema k Nothing entries
nothing_ready schema None entries none = tt
nothing_ready schema (Some t) entries none = none

pub one_ready : (schema : List TableDef) (k : Option TierJournal) (d : Draft) (e : JournalEntry) → IsDraftOf schema k d e → IsReadyFor schema k (One d) (e ∷ [])
one_ready schema k d e of = record { entry = e; is = refl; of = of }

-- two entries
pub two_entries : (schema : List TableDef) (t : TierJournal) (empty first batch : Batch) (name : List ℕ) → IsEmpty empty (standing_in t) → Adds schema empty first (SetsState name On) → Adds schema first batch (SetsLoaded name true) → length name < 256
    → Holds 2 schema batch (SetsState name On ∷ SetsLoaded name true ∷ [])
two_entries schema t empty first batch name e one two small = two.holds 2 (SetsState name On ∷ []) small (one_entry schema t empty first (SetsState name On) e one small)

pub both_ready : (t new : TierJournal) (empty first batch : Batch) (name : List ℕ) (ready : Ready) → FillsAll t new batch ready → IsEmpty empty (standing_in t)
    → ((schema : List TableDef) → Adds schema empty first (SetsState name On)) → ((schema : List TableDef) → Adds schema first batch (SetsLoaded name true)) → length name < 256
    → (schema : List TableDef) → IsReadyFor schema (Some new) ready (SetsState name On ∷ SetsLoaded name true ∷ [])
both_ready t new empty first batch name ready fills e one two small schema =
    fills schema (SetsState name On ∷ SetsLoaded name true ∷ [])
    ((two schema).begins ∙ one_place schema t empty first (SetsState name On) e (one schema))
    (two_entries schema t empty first batch name e (one schema) (two schema) small) refl

pub same_none : (g : Group) (st : RefreshState) → same_state g.state st ≡ true → altered_entries g st ≡ []
same_none g st same = ap (λ b. cond b [] (SetsState g.def.name st ∷ [])) same

pub other_one : (g : Group) (st : RefreshState) → same_state g.state st ≡ false → altered_entries g st ≡ SetsState g.def.name st ∷ []
other_one g st same = ap (λ b. cond b [] (SetsState g.def.name st ∷ [])) same

load_is : (g : Group) (a b : Bool) → is_turned g ≡ a → is_flagged true g ≡ b → load_entries g ≡ cond a (SetsState g.def.name On ∷ []) [] ++ cond b (SetsLoaded g.def.name true ∷ []) []
load_is g a b turned flagged = λ i. cond (turned i) (SetsState g.def.name On ∷ []) [] ++ cond (flagged i) (SetsLoaded g.def.name true ∷ []) []

pub load_none : (g : Group) → is_turned g ≡ false → is_flagged true g ≡ false → load_entries g ≡ []
load_none g = load_is g false false

pub load_flag : (g : Group) → is_turned g ≡ false → is_flagged true g ≡ true → load_entries g ≡ SetsLoaded g.def.name true ∷ []
load_flag g = load_is g false true

pub load_state : (g : Group) → is_turned g ≡ true → is_flagged true g ≡ false → load_entries g ≡ SetsState g.def.name On ∷ []
load_state g = load_is g true false

pub load_both : (g : Group) → is_turned g ≡ true → is_flagged true g ≡ true → load_entries g ≡ SetsState g.def.name On ∷ SetsLoaded g.def.name true ∷ []
load_both g = load_is g true true

pub unload_is : (g : Group) (all b : Bool) → is_flagged false g ≡ b → unload_entries all g ≡ cond all (cond b (SetsLoaded g.def.name false ∷ []) []) []
unload_is g all b flagged = ap (λ x. cond all (cond x (SetsLoaded g.def.name false ∷ []) []) []) flagged

-- the flush

lifted : {D : Type 0} (state : D → SiteState) (possible : D → ℕ → Held → Type 0) (k : Option TierJournal) (d d' : D) (w : World) (entries : List JournalEntry) (stop : Option Reply) → has_entries entries ≡ true
    → IsWrittenOver state possible k d d' stop (FlushesFitting entries) w → IsWrittenOver state possible k d d' stop (FlushesSome entries) w
lifted state possible k d d' w entries stop some x = record {
  journal = x.journal;
  faults = x.faults;
  later = x.later;
  told = x.told;
  is = subst (λ b. MatchBool b (FlushesFitting entries w (over_disk x.journal x.faults (state d').moment w) stop) (Passes w (over_disk x.journal x.faults (state d').moment w) stop)) (sym some) x.is;
  keeps = x.keeps;
}

-- where the tier keeps no journal, nothing is flushed
pub flushes_none : (entries : List JournalEntry) (w : World) → w.journal.kept ≡ false → FlushesSome entries w w None
flushes_none entries w unkept = by (has_entries entries)
  where
    flushes : Flushes entries w w None
    flushes = subst (λ b. MatchBool b (FlushesKept entries w w None) (Passes w w None)) (sym unkept) (refl, refl)

    fits : FlushesFitting entries w w None
    fits =
        subst (λ b. MatchBool b ((w ≡ w) × (None ≡ Some (only (No (past limit.JournalSlot))))) (Flushes entries w w None))
        (sym (ap (λ b. b && is_full (name_sizes w) w.journal entries) unkept)) flushes

    by : (b : Bool) → MatchBool b (FlushesFitting entries w w None) (Passes w w None)
    by true = fits
    by false = (refl, refl)

passes : (entries : List JournalEntry) (w : World) → has_entries entries ≡ false → FlushesSome entries w w None
passes entries w none = subst (λ b. MatchBool b (FlushesFitting entries w w None) (Passes w w None)) (sym none) (refl, refl)

not_true : (b : Bool) → (b ≡ true → ⊥) → b ≡ false
not_true true never = absurd (never refl)
not_true false never = refl

not_much : (t : TierJournal) (b : Batch) → HasRoomFor t b → IsTooMuch t b → ⊥
not_much t b room (inl long) = let most = room.batch in omega (arith, most, long)
not_much t b room (inr long) = let most = room.slot in omega (arith, most, long)

never : true ≡ false → ⊥
never e = cc

pub placed_ready : (schema : List TableDef) (k : Option TierJournal) (ready : Ready) (entries : List JournalEntry) → IsReadyFor schema k ready entries → IsPlacedReady k ready
placed_ready schema k Nothing entries is = tt
placed_ready schema k (One d) entries is = placed_so schema k d is.entry is.of
placed_ready schema None (Both b) entries is = is
placed_ready schema None Full entries is = is
placed_ready schema (Some t) (Both b) entries is = (is.room, is.place)
placed_ready schema (Some t) Full entries is = tt

module _ {D : Type 0} (state : D → SiteState) (possible : D → ℕ → Held → Type 0) where
  -- the journal is full for the entries exactly where what was made ready is
  pub full_ready : (k : Option TierJournal) (d : D) (w : World) (ready : Ready) (entries : List JournalEntry) → KeepsOver state possible d k w → IsReadyFor w.tier.schema k ready entries → has_entries entries ≡ true → journal_full w entries ≡ is_full_ready ready
  full_ready k d w (One draft) entries over is some = ap (journal_full w) is.is ∙ full_so state possible d k w draft is.entry over is.of
  full_ready None d w Nothing entries over is some = ap (λ b. b && is_full (name_sizes w) w.journal entries) over
  full_ready None d w (Both b) entries over is some = absurd is
  full_ready None d w Full entries over is some = absurd is
  full_ready (Some t) d w Nothing entries over is some = absurd (never (sym some ∙ is))
  full_ready (Some t) d w (Both b) entries over is some =
      ap (λ b. b && is_full (name_sizes w) w.journal entries) over.keeps.kept
      ∙ not_true (is_full (name_sizes w) w.journal entries)
      (λ full. not_much t b is.room (full_past w.tier.schema t over.there.slots w.journal 2 b entries t.journal.least over.keeps is.holds full))
  full_ready (Some t) d w Full entries over is some =
      ap (λ b. b && is_full (name_sizes w) w.journal entries) over.keeps.kept
      ∙ past_full w.tier.schema t over.there.slots w.journal 2 is.batch entries t.journal.least over.keeps is.holds is.much

  some_full : (k : Option TierJournal) (schema : List TableDef) (ready : Ready) (entries : List JournalEntry) → IsReadyFor schema k ready entries → is_full_ready ready ≡ true → has_entries entries ≡ true
  some_full k schema Nothing entries is full = absurd (never (sym full))
  some_full k schema (One d) entries is full = ap has_entries is.is
  some_full k schema (Both b) entries is full = absurd (never (sym full))
  some_full None schema Full entries is full = absurd is
  some_full (Some t) schema Full entries is full = is.some

  -- 119 of the journal
  pub full_stage : (k : Option TierJournal) (d : D) (w : World) (ready : Ready) (entries : List JournalEntry) → KeepsOver state possible d k w → IsReadyFor w.tier.schema k ready entries → is_full_ready ready ≡ true
      → FlushesSome entries w w (Some (only (No (past limit.JournalSlot))))
  full_stage k d w ready entries over is full =
      let some = some_full k w.tier.schema ready entries is full in
      let told : Option Reply = Some (only (No (past limit.JournalSlot))) in
      subst (λ b. MatchBool b (FlushesFitting entries w w told) (Passes w w told)) (sym some)
      (subst (λ b. MatchBool b ((w ≡ w) × (told ≡ Some (only (No (past limit.JournalSlot))))) (Flushes entries w w told)) (sym (full_ready k d w ready entries over is some ∙ full)) (refl, refl))

  -- so it ends the line
  pub full_then : (k : Option TierJournal) (d : D) (w : World) (ready : Ready) (entries : List JournalEntry) (part : Part) (reply : Reply) → KeepsOver state possible d k w → IsReadyFor w.tier.schema k ready entries → is_full_ready ready ≡ true
      → reply ≡ only (No (past limit.JournalSlot)) → Then (FlushesSome entries) part w w reply
  full_then k d w ready entries part reply over is full told =
      record { mid = w; stop = Some (only (No (past limit.JournalSlot))); first = full_stage k d w ready entries over is full; next = (refl, told) }

  -- nothing is to be flushed
  pub nothing_written : (k : Option TierJournal) (d : D) (ready : Ready) → ready ≡ Nothing → WritesReady state possible k k d d ready None
  nothing_written k d ready is = λ w entries now over of. still_over state possible k d w None (FlushesSome entries) now over (by k w entries over (subst (λ x. IsReadyFor w.tier.schema k x entries) is of))
    where
      by : (k : Option TierJournal) (w : World) (entries : List JournalEntry) → KeepsOver state possible d k w → IsReadyFor w.tier.schema k Nothing entries → FlushesSome entries w w None
      by None w entries over of = flushes_none entries w over
      by (Some t) w entries over of = passes entries w of

  -- a batch that fits, and what its flush wrote
  pub batch_written : (k k' : Option TierJournal) (t : TierJournal) (d d' : D) (b : Batch) (ready : Ready) (stop : Option Reply) → k ≡ Some t → ready ≡ Both b
      → ((w : World) (entries : List JournalEntry) → w.moment ≡ (state d).moment → IsOver state possible d t w → Holds 2 w.tier.schema b entries → IsWrittenOver state possible k' d d' stop (Flushes entries) w)
      → WritesReady state possible k k' d d' ready stop
  batch_written k k' t d d' b ready stop there is writes = λ w entries now over of.
      let of_it : FitsAll w.tier.schema t b entries = subst (λ x. IsReadyFor w.tier.schema (Some t) x entries) is (subst (λ x. IsReadyFor w.tier.schema x ready entries) there of) in
      let over_it : IsOver state possible d t w = subst (λ x. KeepsOver state possible d x w) there over in
      let fits : journal_full w entries ≡ false = full_ready k d w ready entries over of of_it.some ∙ ap is_full_ready is in
      lifted state possible k' d d' w entries stop of_it.some (fitting_over state possible k' d d' w entries stop fits (writes w entries now over_it of_it.holds))

  -- one entry
  pub one_written : (k k' : Option TierJournal) (d d' : D) (draft : Draft) (ready : Ready) (stop : Option Reply) → ready ≡ One draft → ((e : JournalEntry) → WritesDraft state possible k k' d d' draft e stop (FlushesFitting (e ∷ []))) → WritesReady state possible k k' d d' ready stop
  one_written k k' d d' draft ready stop is writes = λ w entries now over of.
      let one : IsOne w.tier.schema k draft entries = subst (λ x. IsReadyFor w.tier.schema k x entries) is of in
      subst (λ l. IsWrittenOver state possible k' d d' stop (FlushesSome l) w) (sym one.is) (writes one.entry w now over one.of)

  -- the answer behind it
  pub answers_so : (k k' : Option TierJournal) (d d' : D) (ready : Ready) (told : Reply) → WritesReady state possible k k' d d' ready None → DiskIsCaused k (state d) (state d') None → AnswersBehind state possible k k' d d' ready told told
  answers_so k k' d d' ready told writes cause = λ t w entries answer at over of stands schema ignores is.
      let x = writes w entries at.moment over of in
      answered_over state possible t k' d d' w (FlushesSome entries) answer told at x cause.bank cause.shared stands schema (ignores x.journal x.faults (state d').moment) is

  pub breaks : (w w' : World) (entries : List JournalEntry) (reply : Reply) → (has_entries entries ≡ true → journal_full w entries ≡ false) → FlushesSome entries w w' (Some reply) → is_broken (Some reply) ≡ true
  breaks w w' entries reply fits is = by (has_entries entries) refl is
    where
      by : (b : Bool) → has_entries entries ≡ b → MatchBool b (FlushesFitting entries w w' (Some reply)) (Passes w w' (Some reply)) → is_broken (Some reply) ≡ true
      by true some is = flush_breaks entries w w' reply (subst (λ b. MatchBool b ((w' ≡ w) × (Some reply ≡ Some (only (No (past limit.JournalSlot))))) (Flushes entries w w' (Some reply))) (fits some) is)
      by false none is = let wrong : Some reply ≡ None = is.1 in absurd (no_reply wrong)
        where
          no_reply : (Some reply ≡ None) → ⊥
          no_reply e = cc

  pub answers_not : (k k' : Option TierJournal) (d d' : D) (ready : Ready) (told fault : Reply) → is_full_ready ready ≡ false → WritesReady state possible k k' d d' ready (Some fault) → DiskIsCaused k (state d) (state d') (Some fault)
      → AnswersBehind state possible k k' d d' ready told fault
  answers_not k k' d d' ready told fault fits writes cause = λ t w entries answer at over of stands schema ignores is.
      let x = writes w entries at.moment over of in
      let broken = breaks w (over_disk x.journal x.faults (state d').moment w) entries fault (λ some. full_ready k d w ready entries over of some ∙ fits) x.is in
      ended_over state possible t k' d d' w (FlushesSome entries) (Answers answer) fault at x cause.bank cause.shared broken

  -- a flush that was done, and one that failed
  pub ok_flush : (t t' : TierJournal) (d d' : D) (w : World) (b : Batch) (entries : List JournalEntry) → w.moment ≡ (state d).moment → (over : IsOver state possible d t w) → Holds 2 w.tier.schema b entries → (state d).moment ≤ (state d').moment
      → ((schema : List TableDef) (o : Held) (j : Journal) (entries : List JournalEntry) → Certain state possible d o → Keeps schema t o.slots j → Holds (version_in t) schema b entries → KeepsOn state possible d' schema t' o (flushed_with (name_size schema) entries j))
      → version_in t' ≡ version_in t
      → ((schema : List TableDef) (o : Held) (j : Journal) (entries : List JournalEntry) → Certain state possible d o → Keeps schema t o.slots j → Holds (version_in t) schema b entries → Leaves state possible d d' (LeftByFlush schema o j entries))
      → IsWrittenOver state possible (Some t') d d' None (Flushes entries) w
  ok_flush t t' d d' w b entries now over holds later flushed version crash =
      flushed_over state possible t t' d d' w entries now over later
      (flushed w.tier.schema over.there w.journal entries over.certain over.keeps (subst (λ (v : ℕ). Holds v w.tier.schema b entries) (sym over.version) holds)) version
      (crash w.tier.schema over.there w.journal entries over.certain over.keeps (subst (λ (v : ℕ). Holds v w.tier.schema b entries) (sym over.version) holds))

  pub err_flush : IsRead state possible → (t t' : TierJournal) (d d' : D) (w : World) (b : Batch) (entries : List JournalEntry) (reply : Reply) → w.moment ≡ (state d).moment → (over : IsOver state possible d t w) → Holds 2 w.tier.schema b entries
      → (IsSome (state d).held → IsSome (state d').held)
      → ((schema : List TableDef) (o : Held) (j : Journal) (entries : List JournalEntry) → Certain state possible d o → Keeps schema t o.slots j → Holds (version_in t) schema b entries → Leaves state possible d d' (LeftByFlush schema o j entries))
      → reply ≡ faulty code.JournalFault → IsWrittenOver state possible (Some t') d d' (Some reply) (Flushes entries) w
  err_flush read t t' d d' w b entries reply now over holds tells crash is =
      failed_over state possible read t t' d d' w entries reply now over holds.tables tells
      (crash w.tier.schema over.there w.journal entries over.certain over.keeps (subst (λ (v : ℕ). Holds v w.tier.schema b entries) (sym over.version) holds)) is

-- the cause of an answer behind a flush
pub answered_cause : (k : Option TierJournal) (before behind : SiteState) (reply : Reply) → DiskIsCaused k before behind None → IsCalm reply → IsCausedOver k before behind reply
answered_cause k before behind reply one calm = caused_then k before behind behind reply one refl (calm behind)

-- and of the bank's calls before it
pub rose_later : (a b c : ℕ) → a ≤ b → Rose b c → Rose a c
rose_later a b c later rose = omega (arith, later, rose)

slots_then : (a b c : Option Held) → KeepsSlots a b → KeepsSlots b c → KeepsSlots a c
slots_then None b c one two = tt
slots_then (Some a) None c one two = absurd one
slots_then (Some a) (Some b) None one two = absurd two
slots_then (Some a) (Some b) (Some c) one two = two ∙ one

pub called_cause : (k k' : Option TierJournal) (before mid behind : SiteState) (reply : Reply) → (k ≡ None → k' ≡ None) → before.bank_faults ≤ mid.bank_faults → before.moment ≤ mid.moment → mid.shared ≡ before.shared → KeepsSlots before.held mid.held → mid.disk_faults ≡ before.disk_faults
    → IsCausedOver k' mid behind reply → IsCausedOver k before behind reply
called_cause k k' before mid behind reply none later moment shares slots disk x =
    let a = x.later in
    let b = x.moment in
    let c = x.disk_later in
    record {
      later = omega (arith, a, later);
      moment = omega (arith, b, moment);
      shares = x.shares ∙ shares;
      slots = λ is. slots_then before.held mid.held behind.held slots (x.slots (none is));
      bare = x.bare;
      bank = λ told. rose_later before.bank_faults mid.bank_faults behind.bank_faults later (x.bank told);
      disk_later = omega (arith, c, disk);
      disk = λ told. subst (λ (n : ℕ). Rose n behind.disk_faults) disk (x.disk told);
      whole = λ is. x.whole (none is);
    }

-- where no journal is kept, none came
pub stays_none : (k k' : Option TierJournal) → StaysKept k k' → k ≡ None → k' ≡ None
stays_none None None stays is = refl
stays_none None (Some t) stays is = absurd stays
stays_none (Some t) k' stays is = absurd (no_journal is)
  where
    no_journal : (Some t ≡ None) → ⊥
    no_journal e = cc

-- nothing is called
pub calm_cause : (k : Option TierJournal) (site : SiteState) (reply : Reply) → IsCalm reply → IsCausedOver k site site reply
calm_cause k site reply calm = caused_quiet k site site reply (omega arith) (calm site)

-- a rule refuses it, or memory was wanting

pub refused_over : {D : Type 0} (state : D → SiteState) (possible : D → ℕ → Held → Type 0) (t : Stored) (k : Option TierJournal) (d : D) (id : SessionId) (st : Stmt) (rule : Rule)
    → ((s : Session) (w : World) → HasSession t id s → IsStoredAs t w.tier → refusal w.tier s st ≡ Some rule) → PerformsInOver state possible t t k k d d id (Executes st) (Err (refused.Rule rule))
refused_over state possible t k d id st rule is = λ s has w at stands apart keeps. record {
  world = w;
  at = at;
  is = inl (subst (λ o. Unless o (DoesStatement s st) w w (only (No rule))) (sym (is s w has stands.stored)) (refl, refl));
  stands = λ whole. stands;
  keeps = kept_unless keeps;
}

pub wanting_over : {D : Type 0} (state : D → SiteState) (possible : D → ℕ → Held → Type 0) (t new : Stored) (k k' : Option TierJournal) (d : D) (id : SessionId) (st : Stmt) → StaysKept k k' → ((w : World) → StandsFor t w → StandsFor new w)
    → PerformsInOver state possible t new k k' d d id (Executes st) (Err refused.Memory)
wanting_over state possible t new k k' d id st stays still = λ s has w at stands apart keeps. record {
  world = w;
  at = at;
  is = inr (refl, refl);
  stands = λ whole. still w stands;
  keeps = kept_unless (keeps_stays state possible d k k' w stays keeps);
}

-- what was made ready for the group that is stored at a place
pub ready_there : (groups : List Group) (k : Option TierJournal) (place : ℕ) (seen : Group) (to : RefreshState) (ready : Ready) → slice_get groups place ≡ Some seen → ((schema : List TableDef) → IsReadyFor schema k ready (altered_entries seen to)) → IsReadyAt groups k place to ready
ready_there groups k place seen to ready at is = λ schema g there. subst (λ (x : Group). IsReadyFor schema k ready (altered_entries x to)) (same_there groups place seen g at there) (is schema)

-- causes, where only room came to the journal before, or the bank was called
pub moved_cause : (k mid : Option TierJournal) (before behind : SiteState) (reply : Reply) → StaysKept k mid → IsCausedOver mid before behind reply → IsCausedOver k before behind reply
moved_cause k mid before behind reply stays x = record {
  later = x.later;
  moment = x.moment;
  shares = x.shares;
  slots = λ none. x.slots (stays_none k mid stays none);
  bare = x.bare;
  bank = x.bank;
  disk_later = x.disk_later;
  disk = x.disk;
  whole = λ none. x.whole (stays_none k mid stays none);
}

pub read_cause : {X : Type 0} (k : Option TierJournal) (before mid behind : SiteState) (result : Result X BankError) (reply : Reply) → IsCalled before mid result → IsCausedOver k mid behind reply → IsCausedOver k before behind reply
read_cause k before mid behind result reply x = called_cause k k before mid behind reply (λ none. none) x.later x.moment x.shares x.slots x.disk

same_least : (a b : ℕ) → b ≡ a → a ≤ b
same_least a b same = omega (arith, same)

pub fault_cause : {X : Type 0} (k : Option TierJournal) (before behind : SiteState) (e : BankError) (reply : Reply) → IsCalled {T = X} before behind (Err e) → reply ≡ bank_fault e → IsCausedOver k before behind reply
fault_cause {X = X} k before behind e reply x told = subst (IsCausedOver k before behind) (sym told) (by e x)
  where
    by : (e : BankError) → IsCalled {T = X} before behind (Err e) → IsCausedOver k before behind (bank_fault e)
    by Failed x = record { later = x.later; moment = x.moment; shares = x.shares; slots = λ none. x.slots; bare = refl; bank = λ told. x.failed refl; disk_later = same_least before.disk_faults behind.disk_faults x.disk; disk = λ told. absurd (never (sym told)); whole = λ none. refl }
    by Memory x = record { later = x.later; moment = x.moment; shares = x.shares; slots = λ none. x.slots; bare = refl; bank = λ told. absurd (never (sym told)); disk_later = same_least before.disk_faults behind.disk_faults x.disk; disk = λ told. absurd (never (sym told)); whole = λ none. refl }

-- a round before, whose cause is that of a line that is done
pub caused_both : (k mid : Option TierJournal) (before between behind : SiteState) (reply : Reply) → IsCausedOver k before between (only (Done 0)) → (k ≡ None → mid ≡ None) → IsCausedOver mid between behind reply → IsCausedOver k before behind reply
caused_both k mid before between behind reply one none two =
    let a = one.later in
    let b = two.later in
    let c = one.moment in
    let d = two.moment in
    let e = one.disk_later in
    let f = two.disk_later in
    record {
      later = omega (arith, a, b);
      moment = omega (arith, c, d);
      shares = two.shares ∙ one.shares;
      slots = λ is. slots_then before.held between.held behind.held (one.slots is) (two.slots (none is));
      bare = two.bare;
      bank = λ told. rose_later before.bank_faults between.bank_faults behind.bank_faults a (two.bank told);
      disk_later = omega (arith, e, f);
      disk = λ told. rose_later before.disk_faults between.disk_faults behind.disk_faults e (two.disk told);
      whole = λ is. two.whole (none is);
    }

pub ready_ok : {E : Type 0} (r : Result Ready E) (P Q : Ready → Type 0) → ((x : Ready) → P x → Q x) → IfOk r P → IfOk r Q
ready_ok (Ok x) P Q so is = so x is
ready_ok (Err e) P Q so is = tt

-- a call of the bank, as the site tells it
bank_slots : (was now : Option Held) (shared : List TableId) (step : List Entry → List Entry → Type 0) → Told was now (BankCall shared step) → KeepsSlots was now
bank_slots was now shared step = slots_kept was now (BankCall shared step) (λ o n call. call.slots)

told_called : {X : Type 0} (before mid : SiteState) (step : List Entry → List Entry → Type 0) (result : Result X BankError) → BankTold before mid step → BankHasCause before mid result → before.moment ≤ mid.moment → IsCalled before mid result
told_called before mid step result told cause moment = record { later = cause.later; moment = moment; shares = cause.shared; slots = bank_slots before.held mid.held before.shared step told; disk = cause.disk; failed = cause.failed }

pub bank_cause : {X : Type 0} (k : Option TierJournal) (before mid behind : SiteState) (step : List Entry → List Entry → Type 0) (result : Result X BankError) (reply : Reply) → BankTold before mid step → BankHasCause before mid result → before.moment ≤ mid.moment → IsCausedOver k mid behind reply
    → IsCausedOver k before behind reply
bank_cause k before mid behind step result reply told cause moment = read_cause k before mid behind result reply (told_called before mid step result told cause moment)

pub fault_so : {X : Type 0} (k : Option TierJournal) (before mid : SiteState) (step : List Entry → List Entry → Type 0) (e : BankError) (reply : Reply) → BankTold before mid step → BankHasCause {T = X} before mid (Err e) → before.moment ≤ mid.moment → reply ≡ bank_fault e
    → IsCausedOver k before mid reply
fault_so {X = X} k before mid step e reply told cause moment = fault_cause {X = X} k before mid e reply (told_called before mid step (Err e) told cause moment)

-- what was taken in has a calm reply
pub taken_calm : (old new : Stored) (place : ℕ) (which : ResolvedWhich) (refreshes : Bool) (s : TableState) (reply : Reply) → TakesIn old new place which refreshes s reply → IsCalm reply
taken_calm old new place which refreshes s reply took = calm_done _ reply took.count
