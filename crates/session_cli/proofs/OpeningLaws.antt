-- The opening of a run.
use Rattle.std.proofs.Common.{◌≡◌, ◌⊎◌, ◌≤◌, ℕ, true, false, List, [], ◌++◌, take, Option, Some, inl, inr, refl, sym, ◌∙◌, ap, arith, subst, append-nil, lit≤, None}
use Rattle.std.specs.Io.KnownBytes.{Appends}
use Rattle.std.proofs.KnownBytes.{Appends-nil}
use Rattle.outside.specs.Faults.{Rose}
use Rattle.outside.specs.Holding.{Held}
use Rattle.outside.specs.Sites.{SiteState}
use Rattle.cache_tier.specs.TierStates.{Settings as TierSettings}
use Rattle.cache_engine.specs.Engines.{IsInOrder}
use Rattle.cache_engine.specs.Opening.{IsBegunOver, OpensOver}
use Rattle.cache_engine.specs.OfTierOpening.Opening.{Onset}
use Rattle.commit_journal.specs.Layout.{HaveBytes}
use Rattle.cache_engine.specs.OfTierOpening.Leaving.{EndsEarly}
use Rattle.cache_engine.specs.OfTierOpening.Telling.{FailsAs}
use Rattle.cache_engine.specs.OfTierOpening.LeftLaws.{found_here}
use Rattle.cache_engine.specs.declared.engine.Engine.{Engine}
use Rattle.cache_engine.specs.OfTierOpening.declared.opening.OpenError.{OpenError}
use Rattle.cache_engine.specs.OfTierOpening.declared.opening.OpenError.TheVariants as open_error
use Rattle.session_cli.specs.declared.serving.Status.{Status}
use Rattle.session_cli.specs.declared.serving.Status.TheVariants.{DiskFailed, NoMemory, SchemaFailed, SinkFailed, SourceFailed}
use Rattle.session_cli.specs.declared.session.Session.{Session}
use Rattle.session_cli.specs.Ends.{Runs, Serves, takes_none}
use Rattle.session_cli.specs.Opening.{TellsLine, TellsWhy, begins, unopened_line}
use Rattle.session_cli.specs.Outside.{Outside, WasKept, seen}
use Rattle.reply_lines.specs.Output.{Breaks, Splits}
use Rattle.session_cli.specs.Serving.{LedSince, Serving, StandsHere, StandsIn, WasLeft}
use Rattle.session_cli.specs.Timing.{AreLeft, Coming, IsNext}
use Rattle.session_cli.proofs.CuttingLaws.{front_short}
use Rattle.reply_lines.proofs.OutputLaws.{breaks_then, splits_then}
use Rattle.session_cli.proofs.ServingLaws.{take_rest}
use Rattle.session_cli.proofs.SlotLaws.{in_slots}
use Rattle.session_cli.proofs.WayLaws.{kept_once, stands_begun_at}
use Rattle.tier_journal.specs.Beginning.{begun_here}
use Rattle.stored_tier.specs.declared.clock.Pace.{Pace}
use Rattle.stored_tier.specs.Stored.{pace_of}

-- A RUN THAT DOESN'T BEGIN

pub is_disk : (status : Status) (sink sink' : Option (List ℕ)) (why : OpenError) → TellsWhy status sink sink' why → status ≡ DiskFailed → why ≡ open_error.Disk
is_disk status sink sink' open_error.Disk tells is = refl
is_disk status sink sink' open_error.Bank (inl (e, told)) is = cc
is_disk status sink sink' open_error.Bank (inr (e, told)) is = cc
is_disk status sink sink' (open_error.Damaged slot place) (inl (e, told)) is = cc
is_disk status sink sink' (open_error.Damaged slot place) (inr (e, told)) is = cc
is_disk status sink sink' (open_error.Differs table key) (inl (e, told)) is = cc
is_disk status sink sink' (open_error.Differs table key) (inr (e, told)) is = cc
is_disk status sink sink' open_error.Memory (inl (e, told)) is = cc
is_disk status sink sink' open_error.Memory (inr (e, told)) is = cc

pub is_bank : (status : Status) (sink sink' : Option (List ℕ)) (why : OpenError) → TellsWhy status sink sink' why → status ≡ SchemaFailed → why ≡ open_error.Bank
is_bank status sink sink' open_error.Bank tells is = refl
is_bank status sink sink' open_error.Disk (inl (e, told)) is = cc
is_bank status sink sink' open_error.Disk (inr (e, told)) is = cc
is_bank status sink sink' (open_error.Damaged slot place) (inl (e, told)) is = cc
is_bank status sink sink' (open_error.Damaged slot place) (inr (e, told)) is = cc
is_bank status sink sink' (open_error.Differs table key) (inl (e, told)) is = cc
is_bank status sink sink' (open_error.Differs table key) (inr (e, told)) is = cc
is_bank status sink sink' open_error.Memory (inl (e, told)) is = cc
is_bank status sink sink' open_error.Memory (inr (e, told)) is = cc

pub runs_unopened : (settings : TierSettings) (status : Status) (source : Option (List ℕ)) (before behind : Outside) (why : OpenError) → TellsWhy status before.written behind.written why → (moment : ℕ) → IsNext (before.coming 0) moment → FailsAs moment (pace_of settings) before.site behind.site why
    → ((there : Held) → before.certain there → HaveBytes there.slots → EndsEarly settings moment there before.site behind.site behind.left behind.leaves) → Runs settings status source before source behind
runs_unopened settings status source before behind why tells moment next failed leaves = λ onset input start there is_source is_sink is_site have sure may.
    inl (record { untaken = is_source; why = why; tells = tells; moment = moment; next = next; failed = failed; leaves = λ certain. leaves there certain have })

-- the moment of an opening that didn't come to be
pub next_of : (told : Option ℕ) → (moment : ℕ) × IsNext told moment
next_of None = (0, tt)
next_of (Some n) = (n, refl)

-- nothing is told of want of memory
pub tells_memory : (sink : Option (List ℕ)) → TellsWhy NoMemory sink sink open_error.Memory
tells_memory sink = inl (refl, Appends-nil sink)

pub tells_bank : (sink : Option (List ℕ)) → TellsWhy SchemaFailed sink sink open_error.Bank
tells_bank sink = inl (refl, Appends-nil sink)

pub runs_unstarted : {D : Type 0} (state : D → SiteState) (possible : D → ℕ → Held → Type 0) (settings : TierSettings) (source written : Option (List ℕ)) (coming coming' : Coming) (d : D) → Runs settings NoMemory source (seen written coming state possible d) source (seen written coming' state possible d)
runs_unstarted state possible settings source written coming coming' d =
    let next = next_of (coming 0) in
    runs_unopened settings NoMemory source (seen written coming state possible d) (seen written coming' state possible d) open_error.Memory (tells_memory written) next.0 next.1 tt (λ there certain have. inl (found_here state possible d (state d).shared there certain have))

-- the causes

pub disk_failed : (moment : ℕ) (pace : Pace) (before behind : SiteState) (why : OpenError) → FailsAs moment pace before behind why → why ≡ open_error.Disk → Rose before.disk_faults behind.disk_faults
disk_failed moment pace before behind why failed is = subst (FailsAs moment pace before behind) is failed

pub bank_failed : (moment : ℕ) (pace : Pace) (before behind : SiteState) (why : OpenError) → FailsAs moment pace before behind why → why ≡ open_error.Bank → Rose before.bank_faults behind.bank_faults
bank_failed moment pace before behind why failed is = subst (FailsAs moment pace before behind) is failed

-- A RUN THAT BEGINS

module _ {D : Type 0} (state : D → SiteState) (possible : D → ℕ → Held → Type 0) where
  -- the engine is left so in the world of the opening
  left_new : (onset : Onset) (settings : TierSettings) (first : ℕ) (before : SiteState) (there : Held) (d : D) (e : Engine) → IsInOrder e → (x : IsBegunOver state possible onset settings first before there d e) → WasLeft (WasKept state possible) x.world
  left_new onset settings first before there d e order x = record { engine = e; order = order; left = x.left; kept = x.kept; over = kept_once state possible d e.journal x.world x.at x.keeps x.kept }

  -- and from it a way may begin
  begins_new : (onset : Onset) (settings : TierSettings) (first : ℕ) (before : SiteState) (there : Held) (d : D) (e : Engine) (coming : Coming) (written : Option (List ℕ)) → IsInOrder e → (x : IsBegunOver state possible onset settings first before there d e) → LedSince (StandsHere (seen written coming state possible d) e) x.world [] []
  begins_new onset settings first before there d e coming written order x =
      let here : StandsHere (seen written coming state possible d) e x.world = record { at = x.at; stands = record { left = x.left; keeps = x.keeps; kept = x.kept; slots = in_slots state possible d e.journal x.world x.kept x.keeps } } in
      let begun = stands_begun_at state possible written coming d e x.world here in
      record { world = begun_here x.world; run = refl; goes = record { engine = e; order = order; left = begun.stands.left; kept = begun.stands.kept; over = tt }; is = begun }

  -- at the beginning nothing is given
  serving_new : (onset : Onset) (settings : TierSettings) (first : ℕ) (before : SiteState) (there : Held) (d : D) (e : Engine) (session : Session) (start : List ℕ) (bases coming : Coming) (written : Option (List ℕ)) → IsInOrder e → (x : IsBegunOver state possible onset settings first before there d e)
      → session.engine ≡ e → session.line ≡ [] → session.output ≡ [] → written ≡ Some start → AreLeft bases 1 coming → Serving (begins x.world start bases) [] (seen written coming state possible d) session
  serving_new onset settings first before there d e session start bases coming written order x engine line output told left = record {
    world = x.world;
    replies = [];
    comes = record { given = []; are = refl; asked = 1; timed = refl; run = refl };
    goes = left_new onset settings first before there d e order x;
    at = x.at;
    stands = subst (λ y. StandsIn (seen written coming state possible d) y x.world) (sym engine) (record { left = x.left; keeps = x.keeps; kept = x.kept; slots = in_slots state possible d e.journal x.world x.kept x.keeps });
    since = subst (λ y. LedSince (StandsHere (seen written coming state possible d) y) x.world [] []) (sym engine) (begins_new onset settings first before there d e coming written order x);
    left = left;
    line = line ∙ sym (front_short [] (lit≤ tt));
    passed = record { count = 0; written = subst (λ w. Appends (Some start) w []) (sym told) (sym (append-nil start)); waits = output };
  }

  pub runs_opened : (settings : TierSettings) (pace : Pace) (first : ℕ) (e : Engine) (session : Session) (status : Status) (source source' written : Option (List ℕ)) (bases coming : Coming) (d m : D) (behind : Outside) → pace_of settings ≡ pace
      → IsInOrder e → session.engine ≡ e → session.line ≡ [] → session.output ≡ [] → IsNext (bases 0) first → AreLeft bases 1 coming → OpensOver state possible first pace d m e → (state d).bank_faults ≤ (state m).bank_faults → (state m).shared ≡ (state d).shared
      → Serves session status source (seen written coming state possible m) source' behind → Runs settings status source (seen written bases state possible d) source' behind
  runs_opened settings pace first e session status source source' written bases coming d m behind ms order engine line output next left opens later shares serves = λ onset input start there is_source is_sink is_site have sure may.
      let x = opens onset there settings is_site have sure may ms in
      inr (record {
        first = first;
        next = next;
        world = x.world;
        opens = x.opens;
        starts = x.starts;
        kept = x.kept;
        later = let faults = x.at.faults in omega (arith, later, faults);
        shares = x.at.shared ∙ shares;
        left = left_new onset settings first (state d) there m e order x;
        ended = λ alone. serves (begins x.world start bases) input is_source (serving_new onset settings first (state d) there m e session start bases coming written order x engine line output is_sink left) alone;
      })

-- THE LINE THAT SAYS WHY

-- all of it is written
pub tells_written : (wanted : Status) (sink mid sink' : Option (List ℕ)) (waiting waiting' : List ℕ) (why : OpenError) → Splits sink mid ([] ++ unopened_line why) waiting → Splits mid sink' (waiting ++ []) waiting' → waiting' ≡ [] → TellsLine wanted wanted sink sink' why
tells_written wanted sink mid sink' waiting waiting' why p q none =
    let both = splits_then sink mid sink' (unopened_line why) waiting [] waiting' p q in
    let all : take both.count (unopened_line why ++ []) ≡ unopened_line why = take_rest both.count (unopened_line why ++ []) (sym both.waits ∙ none) ∙ append-nil (unopened_line why) in
    inl (refl, subst (λ (l : List ℕ). Appends sink sink' l) all both.written)

-- or a front
pub tells_front : (wanted : Status) (sink sink' : Option (List ℕ)) (why : OpenError) → Breaks sink sink' ([] ++ unopened_line why) → TellsLine SinkFailed wanted sink sink' why
tells_front wanted sink sink' why p = inr (refl, (p.count, p.written))

pub tells_cut : (wanted : Status) (sink mid sink' : Option (List ℕ)) (waiting : List ℕ) (why : OpenError) → Splits sink mid ([] ++ unopened_line why) waiting → Breaks mid sink' (waiting ++ []) → TellsLine SinkFailed wanted sink sink' why
tells_cut wanted sink mid sink' waiting why p q =
    let both = breaks_then sink mid sink' (unopened_line why) waiting [] p q in
    inr (refl, (both.count, subst (λ (l : List ℕ). Appends sink sink' (take both.count l)) (append-nil (unopened_line why)) both.written))

-- nothing of the source is taken where no engine is opened
pub kinds_of : (status : Status) (sink sink' : Option (List ℕ)) (why : OpenError) → TellsWhy status sink sink' why → (takes_none status ≡ true) ⊎ ((status ≡ SinkFailed) ⊎ (status ≡ DiskFailed))
kinds_of status sink sink' why (inr p) = inr (inl p.0)
kinds_of status sink sink' open_error.Disk (inl p) = inr (inr p.0)
kinds_of status sink sink' open_error.Bank (inl p) = inl (ap takes_none p.0)
kinds_of status sink sink' (open_error.Damaged slot place) (inl p) = inl (ap takes_none p.0)
kinds_of status sink sink' (open_error.Differs table key) (inl p) = inl (ap takes_none p.0)
kinds_of status sink sink' open_error.Memory (inl p) = inl (ap takes_none p.0)

-- a run whose session was served took something
pub never_taken : (status other : Status) → takes_none status ≡ false → status ≡ other → takes_none other ≡ true → ⊥
never_taken status other some is none = never (sym none ∙ ap takes_none (sym is) ∙ some)
  where
    never : true ≡ false → ⊥
    never e = cc

-- a run that doesn't begin isn't ended by the source
pub not_source : (status : Status) (sink sink' : Option (List ℕ)) (why : OpenError) → TellsWhy status sink sink' why → status ≡ SourceFailed → ⊥
not_source status sink sink' why tells is = by (kinds_of status sink sink' why tells)
  where
    by : (takes_none status ≡ true) ⊎ ((status ≡ SinkFailed) ⊎ (status ≡ DiskFailed)) → ⊥
    by (inl none) = let never : false ≡ true = sym (ap takes_none is) ∙ none in never_true never
      where
        never_true : false ≡ true → ⊥
        never_true e = cc
    by (inr (inl sunk)) = cc
    by (inr (inr failed)) = cc

pub rose_behind : (a b c : ℕ) → a ≤ b → Rose b c → Rose a c
rose_behind a b c le rose = omega (arith, le, rose)
