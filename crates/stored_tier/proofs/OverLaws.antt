-- What may write to the journal: worlds behind it, and what it keeps of a site.
use Rattle.std.proofs.Common.{◌≡◌, ◌≤◌, ℕ, ◌+◌, ◌-◌, ◌^◌, min, Bool, true, false, Option, Some, None, List, [], ◌∷◌, refl, sym, ap, subst, ◌∙◌, arith}
use Rattle.std.specs.Bool.{MatchBool}
use Rattle.tier_base.specs.declared.code.Code.TheVariants as code
use Rattle.outside.specs.Faults.{Rose}
use Rattle.outside.specs.Holding.{Held}
use Rattle.outside.specs.Sites.{SiteState}
use Rattle.propagators.specs.Certainty.{KeepsCertain}
use Rattle.tier_journal.specs.declared.journal.TierJournal.{TierJournal}
use Rattle.tier_journal.specs.Keeping.{Keeps}
use Rattle.tier_journal.specs.KeptOver.{DiskIsCaused, IsWrittenOver, KeepsOver, is_broken, over_disk}
use Rattle.cache_tier.specs.declared.reply.Reply.{Reply}
use Rattle.cache_tier.specs.Journals.{Journal, JournalEntry}
use Rattle.tier_base.specs.declared.limit.Limit.TheVariants as limit
use Rattle.cache_tier.specs.Events.{with_tier}
use Rattle.cache_tier.specs.JournalSteps.{Failing, Flushed, Flushes, FlushesKept, FlushesSome, Whole}
use Rattle.cache_tier.specs.Reading.{Answers}
use Rattle.cache_tier.specs.Rules.{past}
use Rattle.cache_tier.specs.TierStates.{Tier}
use Rattle.cache_tier.specs.declared.reply.Last.TheVariants.{No}
use Rattle.cache_tier.specs.Steps.{tells}
use Rattle.cache_tier.specs.Worlds.{Answer, Part, Passes, Stage, Then, World, faulty, only}
use Rattle.tier_journal.specs.declared.draft.Draft.{Draft}
use Rattle.tier_journal.specs.Drafts.{IsDraftOf, StaysKept, is_full_draft}
use Rattle.tier_journal.proofs.DraftLaws.{full_so}
use Rattle.cache_tier.specs.StandingBetween.{Stands}
use Rattle.stored_tier.specs.declared.tier.Tier.{Tier as Stored}
use Rattle.stored_tier.specs.Performing.{IsCaused, IsCausedOver, IsPerformedOver, KeepsSlots, Performs, PerformsOver, StandsFor, StaysWritten}
use Rattle.stored_tier.specs.Sites.{IsAt}
use Rattle.tier_journal.specs.Ways.{HasBecome}
use Rattle.tier_journal.proofs.WayLaws.{kept_unless, kept_unless_told, leaves_as, no_more}
use Rattle.stored_tier.proofs.WayLaws.{at_history_of, grown_leaves}

pub never_both : (b : Bool) → b ≡ true → b ≡ false → ⊥
never_both true p q = cc
never_both false p q = cc

-- that a tier stands asks for no journal and no count
pub stands_over_disk : (w : World) (j : Journal) (faults moment : ℕ) → Stands w → Stands (over_disk j faults moment w)
stands_over_disk w j faults moment x = record {
  flow = x.flow;
  schema = record { front = x.schema.front; whole = x.schema.whole };
  catalog = x.catalog;
  keys = x.keys;
  read = x.read;
  sessions = x.sessions;
}

pub stands_written : (t : Stored) (w : World) (j : Journal) (faults moment : ℕ) → StandsFor t w → StandsFor t (over_disk j faults moment w)
stands_written t w j faults moment is = record {
  stored = is.stored;
  shows = is.shows;
  hides = is.hides;
  stands = stands_over_disk w j faults moment is.stands;
  waits = is.waits;
}

-- a flush that ends a line tells the disk's fault
flush_ends : (result : Flushed) (stop : Option Reply) (entries : List JournalEntry) (w w' : World) (is : FlushesKept entries w w' stop) → is.result ≡ result → (reply : Reply) → stop ≡ Some reply → is_broken (Some reply) ≡ true
flush_ends Whole stop entries w w' is result reply told = let none : None ≡ Some reply = cc in absurd (no_stop none)
  where
    no_stop : (None ≡ Some reply) → ⊥
    no_stop e = cc
flush_ends Failing stop entries w w' is result reply told =
    let same : reply ≡ faulty code.JournalFault = cc in
    ap (λ (r : Reply). is_broken (Some r)) same

pub flush_breaks : (entries : List JournalEntry) (w w' : World) (reply : Reply) → Flushes entries w w' (Some reply) → is_broken (Some reply) ≡ true
flush_breaks entries w w' reply flushed = by w.journal.kept flushed
  where
    by : (kept : Bool) → MatchBool kept (FlushesKept entries w w' (Some reply)) (Passes w w' (Some reply)) → is_broken (Some reply) ≡ true
    by true is = flush_ends is.result (Some reply) entries w w' is refl reply refl
    by false is = let none : Some reply ≡ None = is.1 in absurd (no_pass none)
      where
        no_pass : (Some reply ≡ None) → ⊥
        no_pass e = cc

-- a flush leaves the tier
pub unsettled_kept : (w w' : World) → Flushes [] w w' None → w'.tier.unsettled ≡ w.tier.unsettled
unsettled_kept w w' flushed = by w.journal.kept flushed
  where
    by : (kept : Bool) → MatchBool kept (FlushesKept [] w w' None) (Passes w w' None) → w'.tier.unsettled ≡ w.tier.unsettled
    by true is = ap (λ t. t.unsettled) is.tier
    by false is = ap (λ (x : World). x.tier.unsettled) is.0

module _ {D : Type 0} (state : D → SiteState) (possible : D → ℕ → Held → Type 0) where
  -- the world behind what was written is at the site
  pub at_written : (k : Option TierJournal) (d d' : D) (w : World) (stop : Option Reply) (stage : Stage) → IsAt (state d) w → (x : IsWrittenOver state possible k d d' stop stage w)
      → (state d').bank_faults ≡ (state d).bank_faults → (state d').shared ≡ (state d).shared → IsAt (state d') (over_disk x.journal x.faults (state d').moment w)
  at_written k d d' w stop stage at x bank shared =
      let t = x.told at.there at.told in
      record { there = t.there; told = t.told; history = at.history ∙ sym t.same; faults = at.faults ∙ sym bank; moment = refl; shared = at.shared ∙ sym shared }

  -- a journal is kept over calls of the bank
  pub keeps_called : (k : Option TierJournal) (d d' : D) (w w' : World) → KeepsOver state possible d k w → KeepsCertain state possible d d' → w'.journal ≡ w.journal → w'.tier.schema ≡ w.tier.schema → IsAt (state d') w' → KeepsOver state possible d' k w'
  keeps_called None d d' w w' keeps certain journal schema at = ap (λ (j : Journal). j.kept) journal ∙ keeps
  keeps_called (Some t) d d' w w' keeps certain journal schema at =
      let c = certain keeps.there keeps.certain in
      record {
        there = c.now;
        certain = c.certain;
        keeps = subst (λ s. Keeps s t c.now.slots w'.journal) (sym schema)
            (subst (λ j. Keeps w.tier.schema t c.now.slots j) (sym journal)
            (subst (λ s. Keeps w.tier.schema t s w.journal) (sym c.slots) keeps.keeps));
        version = keeps.version;
        leaves =
            grown_leaves state possible d d' t w w' keeps.there keeps.keeps c (at_history_of (state d') w' c.now at c.certain.told) journal
            (subst (HasBecome w.tier.schema) (sym schema) (no_more w.tier.schema)) keeps.leaves;
      }

  -- what a function does besides
  pub over_so : (old new : Stored) (k k' : Option TierJournal) (d d' : D) (stop : Option Reply) (does other : World → World → Type 0) → ((w w' : World) → StandsFor old w → does w w' → other w w') → PerformsOver state possible old new k k' d d' stop does
      → PerformsOver state possible old new k k' d d' stop other
  over_so old new k k' d d' stop does other so performs w at stands apart keeps =
      let it = performs w at stands apart keeps in
      record { world = it.world; at = it.at; is = so w it.world stands it.is; stands = it.stands; keeps = it.keeps }

  -- what doesn't break may be answered otherwise
  pub over_told : (old new : Stored) (k k' : Option TierJournal) (d d' : D) (stop told : Option Reply) (does : World → World → Type 0) → (is_broken told ≡ false → is_broken stop ≡ false) → PerformsOver state possible old new k k' d d' stop does
      → PerformsOver state possible old new k k' d d' told does
  over_told old new k k' d d' stop told does so performs w at stands apart keeps =
      let it = performs w at stands apart keeps in
      record { world = it.world; at = it.at; is = it.is; stands = λ whole. it.stands (so whole); keeps = kept_unless_told so it.keeps }

  -- nothing is done
  pub over_here : (t : Stored) (k : Option TierJournal) (d : D) (stop : Option Reply) (does : World → World → Type 0) → ((w : World) → StandsFor t w → does w w) → PerformsOver state possible t t k k d d stop does
  over_here t k d stop does so w at stands apart keeps =
      record { world = w; at = at; is = so w stands; stands = λ whole. stands; keeps = kept_unless keeps }

-- with another tier, whose schema is the same
pub keeps_tier : {D : Type 0} (state : D → SiteState) (possible : D → ℕ → Held → Type 0) (d : D) (k : Option TierJournal) (w : World) (a : Tier) → a.schema ≡ w.tier.schema → KeepsOver state possible d k w → KeepsOver state possible d k (with_tier a w)
keeps_tier state possible d None w a schema keeps = keeps
keeps_tier state possible d (Some t) w a schema keeps = record {
  there = keeps.there;
  certain = keeps.certain;
  keeps = subst (λ s. Keeps s t keeps.there.slots w.journal) (sym schema) keeps.keeps;
  version = keeps.version;
  leaves = leaves_as state possible d keeps.there w (with_tier a w) w.journal.way schema refl refl keeps.leaves;
}

-- only room came to the journal
pub keeps_stays : {D : Type 0} (state : D → SiteState) (possible : D → ℕ → Held → Type 0) (d : D) (k k' : Option TierJournal) (w : World) → StaysKept k k' → KeepsOver state possible d k w → KeepsOver state possible d k' w
keeps_stays state possible d None None w stays keeps = keeps
keeps_stays state possible d None (Some t) w stays keeps = absurd stays
keeps_stays state possible d (Some t) None w stays keeps = absurd stays
keeps_stays state possible d (Some t) (Some new) w stays keeps = record {
  there = keeps.there;
  certain = keeps.certain;
  keeps = stays.keeps w.tier.schema keeps.there.slots w.journal keeps.keeps;
  version = stays.same.version ∙ keeps.version;
  leaves = keeps.leaves;
}

module _ {D : Type 0} (state : D → SiteState) (possible : D → ℕ → Held → Type 0) where
  -- a statement that writes nothing to the journal
  pub over_quiet : (old new : Stored) (k k' : Option TierJournal) (d d' : D) (stop : Option Reply) (does : World → World → Type 0) → StaysKept k k' → KeepsCertain state possible d d' → ((w w' : World) → does w w' → StaysWritten w w') → Performs old new (state d) (state d') does
      → PerformsOver state possible old new k k' d d' stop does
  over_quiet old new k k' d d' stop does stays certain still performs w at stands apart keeps =
      let it = performs w at stands apart in
      let same = still w it.world it.is in
      record {
        world = it.world;
        at = it.at;
        is = it.is;
        stands = λ whole. it.stands;
        keeps = kept_unless (keeps_called state possible k' d d' w it.world (keeps_stays state possible d k k' w stays keeps) certain same.journal same.schema it.at);
      }

  -- what is written, and then a quiet answer of the tier
  pub answered_over : (new : Stored) (k : Option TierJournal) (d d' : D) (w : World) (stage : Stage) (answer : World → Answer) (reply : Reply) → IsAt (state d) w → (x : IsWrittenOver state possible k d d' None stage w)
      → (state d').bank_faults ≡ (state d).bank_faults → (state d').shared ≡ (state d).shared → StandsFor new (with_tier (answer w).0 w) → (answer w).0.schema ≡ w.tier.schema
      → answer (over_disk x.journal x.faults (state d').moment w) ≡ answer w → reply ≡ (answer w).1 → IsPerformedOver state possible new k d' (Some reply) (λ w'. Then stage (Answers answer) w w' reply)
  answered_over new k d d' w stage answer reply at x bank shared stands schema same is =
      let w1 : World = over_disk x.journal x.faults (state d').moment w in
      let at1 = at_written state possible k d d' w None stage at x bank shared in
      record {
        world = with_tier (answer w).0 w1;
        at = record { there = at1.there; told = at1.told; history = at1.history; faults = at1.faults; moment = at1.moment; shared = at1.shared };
        is = record { mid = w1; stop = None; first = x.is; next = (ap (λ (a : Answer). record w1 { tier = a.0 }) (sym same), is ∙ ap (λ (a : Answer). a.1) (sym same)) };
        stands = λ whole. stands_written new (with_tier (answer w).0 w) x.journal x.faults (state d').moment stands;
        keeps = kept_unless (keeps_tier state possible d' k w1 (answer w).0 schema (x.keeps.over refl));
      }

  -- what is written ends the line, and the run
  pub ended_over : (new : Stored) (k : Option TierJournal) (d d' : D) (w : World) (stage : Stage) (part : Part) (reply : Reply) → IsAt (state d) w → IsWrittenOver state possible k d d' (Some reply) stage w
      → (state d').bank_faults ≡ (state d).bank_faults → (state d').shared ≡ (state d).shared → is_broken (Some reply) ≡ true → IsPerformedOver state possible new k d' (Some reply) (λ w'. Then stage part w w' reply)
  ended_over new k d d' w stage part reply at x bank shared broken = record {
    world = over_disk x.journal x.faults (state d').moment w;
    at = at_written state possible k d d' w (Some reply) stage at x bank shared;
    is = record { mid = over_disk x.journal x.faults (state d').moment w; stop = Some reply; first = x.is; next = (refl, refl) };
    stands = λ whole. absurd (never_both (is_broken (Some reply)) broken whole);
    keeps = x.keeps;
  }

  -- the journal has no room for the entry: 119, and all stays
  pub full_over : (t : Stored) (k : Option TierJournal) (d : D) (w : World) (draft : Draft) (e : JournalEntry) (part : Part) (reply : Reply) → IsAt (state d) w → StandsFor t w → KeepsOver state possible d k w → IsDraftOf w.tier.schema k draft e → is_full_draft draft ≡ true
      → reply ≡ only (No (past limit.JournalSlot)) → IsPerformedOver state possible t k d (Some reply) (λ w'. Then (FlushesSome (e ∷ [])) part w w' reply)
  full_over t k d w draft e part reply at stands keeps of full is = record {
    world = w;
    at = at;
    is = record {
      mid = w;
      stop = Some (only (No (past limit.JournalSlot)));
      first = subst (λ b. MatchBool b ((w ≡ w) × (Some (only (No (past limit.JournalSlot))) ≡ Some (only (No (past limit.JournalSlot))))) (Flushes (e ∷ []) w w (Some (only (No (past limit.JournalSlot)))))) (sym (full_so state possible d k w draft e keeps of ∙ full)) (refl, refl);
      next = (refl, is);
    };
    stands = λ whole. stands;
    keeps = kept_unless keeps;
  }

-- of a call of the journal's disk, and then of the bank
pub caused_then : (k : Option TierJournal) (before mid behind : SiteState) (reply : Reply) → DiskIsCaused k before mid None → behind.disk_faults ≡ mid.disk_faults → IsCaused mid behind reply → IsCausedOver k before behind reply
caused_then k before mid behind reply one disk two =
    let a = one.moment in
    let b = two.moment in
    let c = one.later in
    record {
      later = subst (λ (n : ℕ). n ≤ behind.bank_faults) one.bank two.later;
      moment = omega (arith, a, b);
      shares = two.shares ∙ one.shared;
      slots = λ none. subst (λ (s : SiteState). KeepsSlots s.held behind.held) (one.uncalled none) two.slots;
      bare = two.bare;
      bank = λ told. subst (λ (n : ℕ). Rose n behind.bank_faults) one.bank (two.bank told);
      disk_later = omega (arith, c, disk);
      disk = λ told. absurd (never_both (tells code.JournalFault reply.last) told two.disk);
      whole = λ none. two.disk;
    }

held_same : (o : Option Held) → KeepsSlots o o
held_same None = tt
held_same (Some there) = refl

-- of a call of the journal's disk that ends the line
pub caused_stopped : (k : Option TierJournal) (before after : SiteState) (reply : Reply) → DiskIsCaused k before after (Some reply) → IsCausedOver k before after reply
caused_stopped k before after reply one =
    let bank = one.bank in
    record {
      later = omega (arith, bank);
      moment = one.moment;
      shares = one.shared;
      slots = λ none. subst (λ (s : SiteState). KeepsSlots before.held s.held) (sym (one.uncalled none)) (held_same before.held);
      bare = one.told.0;
      bank = λ told. absurd (never_both (tells code.BackingFault reply.last) told one.told.1);
      disk_later = one.later;
      disk = one.failed;
      whole = one.whole;
    }

-- of a call of the bank alone
pub caused_quiet : (k : Option TierJournal) (before behind : SiteState) (reply : Reply) → before.disk_faults ≤ behind.disk_faults → IsCaused before behind reply → IsCausedOver k before behind reply
caused_quiet k before behind reply later one = record {
  later = one.later;
  moment = one.moment;
  shares = one.shares;
  slots = λ none. one.slots;
  bare = one.bare;
  bank = one.bank;
  disk_later = later;
  disk = λ told. absurd (never_both (tells code.JournalFault reply.last) told one.disk);
  whole = λ none. one.disk;
}

rose_still : (a b c cap : ℕ) → min (a + 1) cap ≤ b → b ≤ c → min (a + 1) cap ≤ c
rose_still a b c cap rose le = omega (arith, rose, le)

rose_before : (a b c cap : ℕ) → a ≤ b → min (b + 1) cap ≤ c → min (a + 1) cap ≤ c
rose_before a b c cap le rose = omega (arith, rose, le)

-- and then of one more call of the journal's disk, which counts where it ends the line
pub caused_turned : (k k1 : Option TierJournal) (before mid behind : SiteState) (reply : Reply) → (k ≡ None → k1 ≡ None) → IsCausedOver k before mid reply → DiskIsCaused k1 mid behind None → IsCausedOver k before behind reply
caused_turned k k1 before mid behind reply none one two =
    let a = one.moment in
    let b = two.moment in
    let c = one.disk_later in
    let e = two.later in
    record {
      later = subst (λ (n : ℕ). before.bank_faults ≤ n) (sym two.bank) one.later;
      moment = omega (arith, a, b);
      shares = two.shared ∙ one.shares;
      slots = λ is. subst (λ (s : SiteState). KeepsSlots before.held s.held) (sym (two.uncalled (none is))) (one.slots is);
      bare = one.bare;
      bank = λ told. subst (λ (n : ℕ). Rose before.bank_faults n) (sym two.bank) (one.bank told);
      disk_later = omega (arith, c, e);
      disk = λ told. rose_still before.disk_faults mid.disk_faults behind.disk_faults (2 ^ 64 - 1) (one.disk told) e;
      whole = one.whole;
    }

pub caused_broken : (k k1 : Option TierJournal) (before mid behind : SiteState) (reply disk : Reply) → (k ≡ None → k1 ≡ None) → IsCausedOver k before mid reply → DiskIsCaused k1 mid behind (Some disk) → IsCausedOver k before behind disk
caused_broken k k1 before mid behind reply disk none one two =
    let a = one.moment in
    let b = two.moment in
    let c = one.disk_later in
    let e = two.later in
    record {
      later = subst (λ (n : ℕ). before.bank_faults ≤ n) (sym two.bank) one.later;
      moment = omega (arith, a, b);
      shares = two.shared ∙ one.shares;
      slots = λ is. subst (λ (s : SiteState). KeepsSlots before.held s.held) (sym (two.uncalled (none is))) (one.slots is);
      bare = two.told.0;
      bank = λ told. absurd (never_both (tells code.BackingFault disk.last) told two.told.1);
      disk_later = omega (arith, c, e);
      disk = λ told. rose_before before.disk_faults mid.disk_faults behind.disk_faults (2 ^ 64 - 1) c (two.failed told);
      whole = λ is. two.whole (none is);
    }
