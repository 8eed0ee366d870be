-- What a line does, by its bytes.
use Rattle.std.proofs.Common.{◌≡◌, ◌∙◌, ◌⊎◌, ℕ, Bool, true, false, cond, count_by, is_some, Option, Some, None, Err, List, refl, sym, ap, subst, inl, inr}
use Rattle.std.specs.Bool.{MatchBool}
use Rattle.tier_base.specs.declared.code.Code.TheVariants as code
use Rattle.tier_base.specs.declared.limit.Limit.TheVariants as limit
use Rattle.row_types.specs.declared.rule.Refused.{Refused}
use Rattle.row_types.specs.declared.rule.Refused.TheVariants as refused
use Rattle.outside.specs.Holding.{Held}
use Rattle.tier_journal.specs.declared.journal.TierJournal.{TierJournal}
use Rattle.tier_journal.specs.KeptOver.{KeepsOver, is_broken}
use Rattle.tier_journal.proofs.WayLaws.{kept_unless}
use Rattle.cache_tier.specs.Worlds.{IsUnshared, World}
use Rattle.cache_engine.proofs.JournalKept.{led_kept}
use Rattle.sql_subset.specs.Lines as line
use Rattle.sql_subset.specs.declared.request.Line.{Line}
use Rattle.sql_subset.specs.declared.request.ParseError.{ParseError}
use Rattle.sql_subset.specs.declared.request.ParseError.TheVariants as error
use Rattle.cache_tier.specs.Heeding.{HeedLeads}
use Rattle.cache_tier.specs.declared.reply.Reply.{Reply}
use Rattle.cache_tier.specs.Rules.{past}
use Rattle.cache_tier.specs.Steps.{Heeds, Saying, Says, Silent, TooDeep, TooLong, WrongAt, faults_in, note_tells, tells}
use Rattle.tier_statements.specs.Replies.{reply_to}
use Rattle.stored_tier.specs.declared.tier.Tier.{Tier as Stored}
use Rattle.session_engine.specs.Doubting.{LeadsOver}
use Rattle.session_engine.specs.declared.doubt.Doubt.{Doubt}
use Rattle.cache_engine.specs.Requests.{IsHeard, IsLineCaused, IsSaid, IsUnread, LineGoes, LineStep, heard, is_long}
use Rattle.cache_engine.specs.Serving.{misread}
use Rattle.outside.specs.Sites.{SiteState}
use Rattle.stored_tier.specs.Sites.{IsAt}
use Rattle.cache_engine.specs.declared.engine.Engine.{Engine}
use Rattle.cache_engine.specs.Engines.{Goes, IsLedTo, IsLeftIn}
use Rattle.cache_engine.proofs.CauseLaws.{counted, no_more, refusal_caused}

-- what is said by a line that isn't too long
said_so : (bytes : List ℕ) (saying : line.Saying) → is_long bytes ≡ false → line.Means bytes saying → IsSaid bytes (heard saying)
said_so bytes saying short means =
    subst (λ b. MatchBool b (heard saying ≡ TooLong) (IsHeard bytes (heard saying))) (sym short) (saying, means, refl)

-- where no fault of the journal is told it is a step
pub goes_step : (base : ℕ) (w : World) (bytes : List ℕ) (w' : World) (reply : Option Reply) → is_broken reply ≡ false → LineGoes base w bytes w' reply → LineStep base w bytes w' reply
goes_step base w bytes w' None whole goes = goes
goes_step base w bytes w' (Some reply) whole goes = (goes.0, goes.1, (goes.2 whole, goes.3))

module _ {D : Type 0} (state : D → SiteState) (possible : D → ℕ → Held → Type 0) where
  -- it is a step of the world itself
  abbrev Stays : Stored → Option Doubt → Option TierJournal → D → ℕ → List ℕ → Option Reply → Type 0
  Stays t was k d base bytes reply = LeadsOver state possible t was t was k k d d reply (λ w w'. LineGoes base w bytes w' reply)

  refused_goes : HeedLeads → (t : Stored) (was : Option Doubt) (k : Option TierJournal) (d : D) (base : ℕ) (bytes : List ℕ) (said : Saying) (r : Refused) (reply : Reply) → reply ≡ reply_to r → ((w : World) → IsSaid bytes said ⊎ IsUnread bytes w w (Some reply)) → ((w : World) → Heeds base said w w reply)
      → Stays t was k d base bytes (Some reply)
  refused_goes law t was k d base bytes said r reply e says heeds w at left unshared keeps = record {
    world = w;
    at = at;
    is = (said, says w, λ whole. counted law base said w w reply k (state d) (state d) at at whole (refusal_caused k (state d) r reply e) (heeds w), heeds w);
    left = λ whole. left;
    keeps = kept_unless keeps;
  }

  pub long_line : HeedLeads → (t : Stored) (was : Option Doubt) (k : Option TierJournal) (d : D) (base : ℕ) (bytes : List ℕ) (reply : Reply) → is_long bytes ≡ true → reply ≡ reply_to (refused.Rule (past limit.Line)) → Stays t was k d base bytes (Some reply)
  long_line law t was k d base bytes reply long e =
      refused_goes law t was k d base bytes TooLong (refused.Rule (past limit.Line)) reply e
      (λ w. inl (subst (λ b. MatchBool b (TooLong ≡ TooLong) (IsHeard bytes TooLong)) (sym long) refl)) (λ w. (refl, e))

  pub silent_line : (t : Stored) (was : Option Doubt) (k : Option TierJournal) (d : D) (base : ℕ) (bytes : List ℕ) → is_long bytes ≡ false → line.Means bytes line.Silent → Stays t was k d base bytes None
  silent_line t was k d base bytes short means w at left unshared keeps = record {
    world = w;
    at = at;
    is = (Silent, inl (said_so bytes line.Silent short means), (refl, refl));
    left = λ whole. left;
    keeps = kept_unless keeps;
  }

  pub misread_line : HeedLeads → (t : Stored) (was : Option Doubt) (k : Option TierJournal) (d : D) (base : ℕ) (bytes : List ℕ) (why : ParseError) (reply : Reply) → is_long bytes ≡ false → line.Answers bytes (Err why) → reply ≡ reply_to (misread why) → Stays t was k d base bytes (Some reply)
  misread_line law t was k d base bytes (error.At place) reply short answers e =
      refused_goes law t was k d base bytes (WrongAt place) (misread (error.At place)) reply e (λ w. inl (said_so bytes (line.WrongAt place) short answers)) (λ w. inl (refl, e))
  misread_line law t was k d base bytes error.Depth reply short answers e =
      refused_goes law t was k d base bytes TooDeep (misread error.Depth) reply e (λ w. inl (said_so bytes line.TooDeep short answers)) (λ w. inl (refl, e))
  misread_line law t was k d base bytes error.Memory reply short answers e =
      refused_goes law t was k d base bytes TooDeep (misread error.Memory) reply e (λ w. inr (record { short = short; speaks = answers; same = refl; wants = ap (λ r. Some r) e })) (λ w. inr (refl, e))

  pub read_line : HeedLeads → (old new : Stored) (was doubt : Option Doubt) (k k' : Option TierJournal) (d d' : D) (base : ℕ) (bytes : List ℕ) (l : Line) (reply : Reply) → is_long bytes ≡ false → line.Means bytes (line.Says l) → IsLineCaused k (state d) (state d') (Some reply)
      → LeadsOver state possible old was new doubt k k' d d' (Some reply) (λ w w'. Heeds base (Says l) w w' reply) → LeadsOver state possible old was new doubt k k' d d' (Some reply) (λ w w'. LineGoes base w bytes w' (Some reply))
  read_line law old new was doubt k k' d d' base bytes l reply short means caused p w at left unshared keeps =
      let it = p w at left unshared keeps in
      record {
        world = it.world;
        at = it.at;
        is = (
          Says l,
          inl (said_so bytes (line.Says l) short means),
          λ whole. counted law base (Says l) w it.world reply k (state d) (state d') at it.at whole caused it.is,
          it.is,
        );
        left = it.left;
        keeps = it.keeps;
      }

  -- where no journal was kept, none is behind the line
  pub none_behind : HeedLeads → (old new : Stored) (was doubt : Option Doubt) (k k' : Option TierJournal) (d d' : D) (base : ℕ) (l : Line) (reply : Reply) → k ≡ None → LeadsOver state possible old was new doubt k k' d d' (Some reply) (λ w w'. Heeds base (Says l) w w' reply)
      → LeadsOver state possible old was new doubt k None d d' (Some reply) (λ w w'. Heeds base (Says l) w w' reply)
  none_behind law old new was doubt k k' d d' base l reply none p w at left unshared keeps =
      let it = p w at left unshared keeps in
      let unkept : w.journal.kept ≡ false = subst (λ x. KeepsOver state possible d x w) none keeps in
      record {
        world = it.world;
        at = it.at;
        is = it.is;
        left = it.left;
        keeps = kept_unless (led_kept w.journal it.world.journal (law base w it.world (Says l) reply it.is).journal ∙ unkept);
      }

-- whether one was kept
pub none_kept : (k : Option TierJournal) (kept : Bool) → kept ≡ false → kept ≡ is_some k → k ≡ None
none_kept None kept unkept is = refl
none_kept (Some t) kept unkept is = absurd (Prim.cc (unkept, is))

-- without a journal no fault of it is told, and each line is a step
told_whole : (reply : Option Reply) → ((r : Reply) → reply ≡ Some r → faults_in code.JournalFault r ≡ 0) → is_broken reply ≡ false
told_whole None so = refl
told_whole (Some r) so = by (tells code.JournalFault r.last) refl (no_more (count_by (note_tells code.JournalFault) r.notes) (cond (tells code.JournalFault r.last) 1 0) (so r refl))
  where
    by : (t : Bool) → tells code.JournalFault r.last ≡ t → ◌≡◌ {A = ℕ} (cond (tells code.JournalFault r.last) 1 0) 0 → tells code.JournalFault r.last ≡ false
    by true e zero = let one : ◌≡◌ {A = ℕ} 1 0 = ap (λ t. cond t 1 0) (sym e) ∙ zero in absurd (Prim.cc one)
    by false e zero = e

pub goes_on : {D : Type 0} (state : D → SiteState) (possible : D → ℕ → Held → Type 0) (old new : Engine) (d d' : D) (base : ℕ) (bytes : List ℕ) (reply : Option Reply) → IsLineCaused old.journal (state d) (state d') reply → (old.journal ≡ None → new.journal ≡ None)
    → Goes state possible old new d d' reply (λ w w'. LineGoes base w bytes w' reply) → (w : World) → IsAt (state d) w → IsLeftIn old w → IsUnshared w → IsLedTo new (state d') (λ w'. LineStep base w bytes w' reply)
goes_on state possible old new d d' base bytes reply caused none goes w at stands apart =
    let whole = told_whole reply (caused.whole stands.journal) in
    let it = goes w at stands.left apart (subst (λ k. KeepsOver state possible d k w) (sym stands.journal) stands.unkept) in
    record {
      world = it.world;
      at = it.at;
      is = goes_step base w bytes it.world reply whole it.is;
      left = record {
        left = it.left whole;
        journal = none stands.journal;
        unkept = subst (λ k. KeepsOver state possible d' k it.world) (none stands.journal) (it.keeps.over whole);
      };
    }

-- whether a journal is kept stays over a line
pub line_kept : HeedLeads → (base : ℕ) (w : World) (bytes : List ℕ) (w' : World) (reply : Option Reply) → LineGoes base w bytes w' reply → w'.journal.kept ≡ w.journal.kept
line_kept law base w bytes w' None goes = ap (λ (x : World). x.journal.kept) goes.2.1
line_kept law base w bytes w' (Some reply) goes = led_kept w.journal w'.journal (law base w w' goes.0 reply goes.3).journal
