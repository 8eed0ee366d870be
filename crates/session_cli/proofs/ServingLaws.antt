-- A run goes on by lines and bytes.
use Rattle.std.proofs.Common.{◌≡◌, ◌≢◌, ◌⊎◌, ℕ, zero, suc, ◌+◌, ◌<◌, ◌≤◌, length, get_or, List, [], ◌∷◌, ◌++◌, take, drop, Bool, true, false, Option, Some, None, Result, Ok, Err, inl, inr, refl, sym, ◌∙◌, ap, subst, append-nil, append_assoc, arith, lit≤, take-append-drop}
use Rattle.std.specs.Io.KnownBytes.{Appends}
use Rattle.cache_tier.specs.declared.reply.Reply.{Reply}
use Rattle.cache_tier.specs.Replying.{reply_bytes, replies_bytes}
use Rattle.cache_tier.specs.Worlds.{IsUnshared, World}
use Rattle.tier_journal.specs.Beginning.{begun_here}
use Rattle.tier_journal.specs.KeptOver.{is_broken}
use Rattle.cache_engine.specs.Requests.{Given}
use Rattle.cache_engine.specs.declared.engine.Engine.{Engine}
use Rattle.cache_engine.proofs.EngineLaws.{known_of}
use Rattle.cache_engine.proofs.RequestLaws.{goes_step}
use Rattle.stored_tier.specs.Sites.{IsAt}
use Rattle.session_cli.specs.declared.answering.Stop.{Stop}
use Rattle.session_cli.specs.declared.answering.Stop.TheVariants as stop
use Rattle.session_cli.specs.declared.session.Session.{Session}
use Rattle.session_cli.specs.Cutting.{cut, front_of, text_of, ended_lines, all_lines}
use Rattle.session_cli.specs.Outside.{Outside}
use Rattle.reply_lines.specs.Output.{Splits, Breaks}
use Rattle.session_cli.specs.Serving.{Answered, BreaksFrom, Broken, Closes, Closing, Comes, CutShort, EndsKept, Feeds, GoesOn, HasFlushed, IsLeftAlone, LedSince, LedSinceEach, LineBroken, LineLeads, Origin, PassesReply, Responds, Rests, Serving, StandsHere, StandsIn, StopsAt, WasLeft, Whole}
use Rattle.session_cli.proofs.CuttingLaws.{ended_push, rest_ended, ended_same, rest_push, front_push, front_short, text_front, take_one, take_within, all_ended, all_more}
use Rattle.session_cli.proofs.DrainedLaws.{drained_of}
use Rattle.reply_lines.proofs.OutputLaws.{splits_then, breaks_then}
use Rattle.session_cli.proofs.RunLaws.{CameOn, GoesOnFrom, broken_on, comes_on, goes_then, since_map}
use Rattle.session_cli.proofs.WayLaws.{unshared_too}

pub replies_push : (rs : List (Option Reply)) (r : Option Reply) → replies_bytes (rs ++ r ∷ []) ≡ replies_bytes rs ++ reply_bytes r
replies_push [] r = append-nil (reply_bytes r)
replies_push (r' ∷ rs) r = ap (λ l. reply_bytes r' ++ l) (replies_push rs r) ∙ sym (append_assoc (reply_bytes r') (replies_bytes rs) (reply_bytes r))

pub told_after : (a : List ℕ) (b : Option (List ℕ)) (xs : List ℕ) → Appends (Some a) b xs → b ≡ Some (a ++ xs)
told_after a None xs p = absurd p
told_after a (Some b) xs p = ap (λ l. Some l) p

pub take_rest : (n : ℕ) (xs : List ℕ) → drop n xs ≡ [] → take n xs ≡ xs
take_rest zero [] none = refl
take_rest zero (x ∷ xs) none = cc
take_rest (suc n) [] none = refl
take_rest (suc n) (x ∷ xs) none = ap (λ l. x ∷ l) (take_rest n xs none)

-- nothing is left to write
pub told_whole : (start : List ℕ) (now : Option (List ℕ)) (bytes : List ℕ) → Splits (Some start) now bytes [] → now ≡ Some (start ++ bytes)
told_whole start now bytes p = told_after start now (take p.count bytes) p.written ∙ ap (λ l. Some (start ++ l)) (take_rest p.count bytes (sym p.waits))

-- nothing comes behind the lines
rest_here : (now : Outside) (engine : Engine) (ran : World) → StandsHere now engine ran → (w : World) → StandsHere now engine w → EndsKept Rests now.site now.keeps ran w
rest_here now engine ran here w x = record {
  last = w;
  ended = refl;
  is = record { at = x.at; kept = x.stands.kept; journal = engine.journal; keeps = x.stands.keeps };
  apart = unshared_too engine.tier engine.doubt ran w here.stands.left x.stands.left (x.at.shared ∙ sym here.at.shared);
}

-- a run has led to a world in which the engine is left so
pub answered_by : (o : Origin) (lines : List (List ℕ)) (replies : List (Option Reply)) (now : Outside) (engine : Engine) (w : World) (c : Comes o lines replies w) → GoesOn now.kept_once o.world c.given replies w c.run → IsAt now.site w
    → StandsIn now engine w → LedSinceEach (StandsHere now engine) o.world c.given replies w c.run → Answered Rests o lines replies now.site now.keeps now.kept_once
answered_by o lines replies now engine w comes goes at stands since =
    let known = known_of engine.tier engine.doubt w stands.left in
    record {
      ran = w;
      comes = comes;
      goes = goes;
      since = since_map (StandsHere now engine) (EndsKept Rests now.site now.keeps w) (rest_here now engine w (record { at = at; stands = stands })) o.world comes.given replies w comes.run since;
      last = w;
      ended = refl;
      at = at;
      now = record { at = at; kept = stands.kept; journal = engine.journal; keeps = stands.keeps };
      slots = stands.slots;
      legal = known.legal;
      drained = λ none. drained_of w (known.stands none);
      read = known.read;
    }

-- A LINE

module _ (o : Origin) (given : List ℕ) (lines : List (List ℕ)) (before behind : Outside) (session : Session) (engine' : Engine) (waiting' line : List ℕ) where
  -- the line led on from each world in which the engine was left so
  module _ (res : Result (Unit {0}) Stop) (s : Serving o given before session) (r : Responds res before behind session.output waiting' session.engine engine' line) (unshared : IsUnshared s.world) where
    abbrev g : Given
    g = record { base = r.base; bytes = line }

    led : (v : World) → StandsHere before session.engine v → LineLeads behind engine' r.base line r.reply v
    led v x = r.leads v x (unshared_too session.engine.tier session.engine.doubt s.world v s.stands.left x.stands.left (x.at.shared ∙ sym s.at.shared) unshared)

    leads_on : is_broken r.reply ≡ false → (v : World) → StandsHere before session.engine v → GoesOnFrom (StandsHere behind engine') g r.reply v
    leads_on whole v x =
        let l = led v x in
        let stands = l.stands whole in
        record {
          world = l.world;
          step = goes_step r.base v line l.world r.reply whole l.goes;
          unshared = unshared_too session.engine.tier session.engine.doubt s.world v s.stands.left x.stands.left (x.at.shared ∙ sym s.at.shared) unshared;
          was = record { engine = engine'; order = r.order; left = stands.left; kept = stands.kept; over = tt };
          is = record { at = l.at; stands = stands };
        }

    here : StandsHere before session.engine s.world
    here = record { at = s.at; stands = s.stands }

    -- it ended in this world
    led_here : LineLeads behind engine' r.base line r.reply s.world
    led_here = led s.world here

    -- from which a way may begin
    begins_there : (whole : is_broken r.reply ≡ false) → LedSince (StandsHere behind engine') led_here.world [] []
    begins_there whole =
        let x = r.begins led_here.world (record { at = led_here.at; stands = led_here.stands whole }) in
        record { world = begun_here led_here.world; run = refl; goes = record { engine = engine'; order = r.order; left = x.stands.left; kept = x.stands.kept; over = tt }; is = x }

    was_there : is_broken r.reply ≡ false → WasLeft behind.kept_once led_here.world
    was_there whole =
        let stands = led_here.stands whole in
        record { engine = engine'; order = r.order; left = stands.left; kept = stands.kept; over = r.now led_here.world (record { at = led_here.at; stands = stands }) }

    gone : GoesOn behind.kept_once o.world s.comes.given s.replies s.world s.comes.run
    gone = goes_then before.kept_once behind.kept_once r.once o.world s.comes.given s.replies s.world s.comes.run s.goes

    -- the run goes on by a line that was answered
    came_line : ended_lines given ++ line ∷ [] ≡ lines → is_broken r.reply ≡ false → CameOn (StandsHere behind engine') behind.kept_once o lines (s.replies ++ r.reply ∷ []) led_here.world behind.coming
    unfolding leads_on led_here
    came_line is whole =
        comes_on (StandsHere before session.engine) (StandsHere behind engine') behind.kept_once o (ended_lines given) lines s.replies s.world s.comes before.coming behind.coming g r.reply is s.left r.took gone s.since whole (leads_on whole) (leads_on whole s.world here)
        (was_there whole) (begins_there whole)

    -- the ended lines and one more are answered
    answered_line : ended_lines given ++ line ∷ [] ≡ lines → is_broken r.reply ≡ false → Answered Rests o lines (s.replies ++ r.reply ∷ []) behind.site behind.keeps behind.kept_once
    answered_line is whole =
        let came = came_line is whole in
        answered_by o lines (s.replies ++ r.reply ∷ []) behind engine' led_here.world came.comes came.goes led_here.at (led_here.stands whole) came.since

    -- it broke off the run
    breaks_from : (v : World) → StandsHere before session.engine v → BreaksFrom behind.site behind.leaves g r.reply v
    breaks_from v x =
        let l = led v x in
        record {
          last = l.world;
          at = l.at;
          goes = l.goes;
          leaves = l.leaves;
          unshared = unshared_too session.engine.tier session.engine.doubt s.world v s.stands.left x.stands.left (x.at.shared ∙ sym s.at.shared) unshared;
        }

    -- or it was the last one
    broken_line : ended_lines given ++ line ∷ [] ≡ lines → is_broken r.reply ≡ true → LineBroken o lines (s.replies ++ r.reply ∷ []) behind.site behind.kept_once behind.leaves
    broken_line is fails =
        let broke = broken_on behind.kept_once (BreaksFrom behind.site behind.leaves) o (ended_lines given) lines s.replies s.world s.comes before.coming behind.coming g r.reply led_here.world is s.left r.took led_here.goes fails gone
        (since_map (StandsHere before session.engine) (BreaksFrom behind.site behind.leaves g r.reply) breaks_from o.world s.comes.given s.replies s.world s.comes.run s.since) unshared in
        record {
          last = led_here.world;
          comes = broke.comes;
          goes = broke.goes;
          since = broke.since;
          unshared = broke.unshared;
          at = led_here.at;
          leaves = led_here.leaves;
        }

  -- the run stopped at it
  stopped_line : (why : Stop) → ended_lines given ++ line ∷ [] ≡ lines → (s : Serving o given before session) → Responds (Err why) before behind session.output waiting' session.engine engine' line → IsUnshared s.world → StopsAt why o lines behind
  stopped_line stop.Sink is s r unshared =
      let b : Breaks (Some o.written) behind.written (replies_bytes s.replies ++ reply_bytes r.reply) = breaks_then (Some o.written) before.written behind.written (replies_bytes s.replies) session.output (reply_bytes r.reply) s.passed r.passed in
      record {
        replies = s.replies ++ r.reply ∷ [];
        answered = by (is_broken r.reply) refl;
        count = b.count;
        tells = told_after o.written behind.written (take b.count (replies_bytes s.replies ++ reply_bytes r.reply)) b.written ∙ ap (λ l. Some (o.written ++ take b.count l)) (sym (replies_push s.replies r.reply));
      }
    where
      by : (b : Bool) → is_broken r.reply ≡ b
          → Answered Rests o lines (s.replies ++ r.reply ∷ []) behind.site behind.keeps behind.kept_once
          ⊎ (Answered HasFlushed o lines (s.replies ++ r.reply ∷ []) behind.site behind.keeps behind.kept_once ⊎ Broken o lines (s.replies ++ r.reply ∷ []) behind.site behind.kept_once behind.leaves)
      by true e = inr (inr (inl (broken_line (Err stop.Sink) s r unshared is e)))
      by false e = inl (answered_line (Err stop.Sink) s r unshared is e)
  stopped_line stop.Disk is s r unshared = record {
    replies = s.replies ++ r.reply ∷ [];
    broken = inl (broken_line (Err stop.Disk) s r unshared is r.tells);
    tells = told_whole o.written behind.written (replies_bytes s.replies ++ reply_bytes r.reply) (splits_then (Some o.written) before.written behind.written (replies_bytes s.replies) session.output (reply_bytes r.reply) [] s.passed r.passed)
        ∙ ap (λ l. Some (o.written ++ l)) (sym (replies_push s.replies r.reply));
  }

-- a line feed ends the line that was given
ended_by : (given line : List ℕ) (session : Session) → line ≡ text_of session.line → session.line ≡ front_of (cut given).1 → ended_lines given ++ line ∷ [] ≡ ended_lines (given ++ 10 ∷ [])
ended_by given line session is front =
    let text : line ≡ text_of (cut given).1 = is ∙ ap text_of front ∙ text_front (cut given).1 in
    ap (λ l. ended_lines given ++ l ∷ []) text ∙ sym (ended_push given)

-- a line feed came, and the reply was passed on
pub serving_line : (o : Origin) (given : List ℕ) (before behind : Outside) (session session' : Session) (line : List ℕ)
    → line ≡ text_of session.line → session'.line ≡ [] → (s : Serving o given before session)
    → Responds (Ok tt) before behind session.output session'.output session.engine session'.engine line → IsUnshared s.world
    → Serving o (given ++ 10 ∷ []) behind session'
serving_line o given before behind session session' line is empty s r unshared =
    let lines = ended_by given line session is s.line in
    let there = led_here o given (ended_lines (given ++ 10 ∷ [])) before behind session session'.engine session'.output line (Ok tt) s r unshared in
    let came = came_line o given (ended_lines (given ++ 10 ∷ [])) before behind session session'.engine session'.output line (Ok tt) s r unshared lines r.tells in
    record {
      world = there.world;
      replies = s.replies ++ r.reply ∷ [];
      comes = came.comes;
      goes = came.goes;
      at = there.at;
      stands = there.stands r.tells;
      since = came.since;
      left = came.left;
      line = empty ∙ sym (ap front_of (rest_ended given) ∙ front_short [] (lit≤ tt));
      passed = rw (replies_push s.replies r.reply) (splits_then (Some o.written) before.written behind.written (replies_bytes s.replies) session.output (reply_bytes r.reply) session'.output s.passed r.passed);
    }

-- a line feed came, and the run stopped at the line
pub feeds_stopped : (why : Stop) (o : Origin) (given : List ℕ) (before behind : Outside) (session session' : Session) (engine' : Engine) (waiting' line : List ℕ)
    → line ≡ text_of session.line → (s : Serving o given before session) → Responds (Err why) before behind session.output waiting' session.engine engine' line → IsUnshared s.world
    → Feeds (Err why) o given (10 ∷ []) behind session'
feeds_stopped why o given before behind session session' engine' waiting' line is s r unshared =
    (1, stopped_line o given (ended_lines (given ++ 10 ∷ [])) before behind session engine' waiting' line why (ended_by given line session is s.line) s r unshared)

-- other lines of the same run
comes_same : (o : Origin) (lines lines' : List (List ℕ)) (replies : List (Option Reply)) (w : World) → lines ≡ lines' → Comes o lines replies w → Comes o lines' replies w
comes_same o lines lines' replies w is c = record { given = c.given; are = c.are ∙ is; asked = c.asked; timed = c.timed; run = c.run }

-- A BYTE

-- another byte came
pub serving_byte : (o : Origin) (given : List ℕ) (b : ℕ) (now : Outside) (session session' : Session)
    → b ≢ 10 → session'.engine ≡ session.engine → session'.line ≡ front_of (session.line ++ b ∷ []) → session'.output ≡ session.output
    → Serving o given now session → Serving o (given ++ b ∷ []) now session'
unfolding comes_same
serving_byte o given b now session session' differs tier line output s = record {
  world = s.world;
  replies = s.replies;
  comes = comes_same o (ended_lines given) (ended_lines (given ++ b ∷ [])) s.replies s.world (sym (ended_same given b differs)) s.comes;
  goes = s.goes;
  at = s.at;
  stands = subst (λ e. StandsIn now e s.world) (sym tier) s.stands;
  since = subst (λ e. LedSinceEach (StandsHere now e) o.world s.comes.given s.replies s.world s.comes.run) (sym tier) s.since;
  left = s.left;
  line = line ∙ ap (λ l. front_of (l ++ b ∷ [])) s.line ∙ front_push (cut given).1 b ∙ sym (ap front_of (rest_push given b differs));
  passed = rw output s.passed;
}

-- the run stopped at a byte of a piece
pub feeds_byte : (why : Stop) (o : Origin) (given bytes : List ℕ) (i : ℕ) (now : Outside) (session session' : Session) → i < length bytes
    → Feeds (Err why) o (given ++ take i bytes) (get_or bytes i 0 ∷ []) now session → Feeds (Err why) o given bytes now session'
feeds_byte why o given bytes i now session session' lt (n, c) =
    let w = take_within bytes i n lt in
    (w.0, subst (λ (l : List ℕ). StopsAt why o (ended_lines l) now) (append_assoc given (take i bytes) (take n (get_or bytes i 0 ∷ [])) ∙ ap (λ l. given ++ l) w.1) c)

-- a byte of a piece was taken in
pub serving_more : (o : Origin) (given bytes : List ℕ) (i : ℕ) (now : Outside) (session : Session) → i < length bytes
    → Serving o ((given ++ take i bytes) ++ get_or bytes i 0 ∷ []) now session → Serving o (given ++ take (i + 1) bytes) now session
serving_more o given bytes i now session lt s =
    subst (λ (l : List ℕ). Serving o l now session) (append_assoc given (take i bytes) (get_or bytes i 0 ∷ []) ∙ ap (λ l. given ++ l) (take_one bytes i lt)) s

-- the ended lines are answered
pub answered_here : (o : Origin) (given : List ℕ) (now : Outside) (session : Session) → (s : Serving o given now session) → Answered Rests o (ended_lines given) s.replies now.site now.keeps now.kept_once
answered_here o given now session s = answered_by o (ended_lines given) s.replies now session.engine s.world s.comes s.goes s.at s.stands s.since

pub take_whole : (xs : List ℕ) → take (length xs) xs ≡ xs
take_whole [] = refl
take_whole (x ∷ xs) = ap (λ l. x ∷ l) (take_whole xs)

-- all bytes of a piece were taken in
take_past : (xs : List ℕ) (n : ℕ) → length xs ≤ n → take n xs ≡ xs
take_past [] zero le = refl
take_past [] (suc n) le = refl
take_past (x ∷ xs) zero le = absurd (none le)
  where
    none : suc (length xs) ≤ 0 → ⊥
    none le = let never : ⊥ = omega (arith, le) in never
take_past (x ∷ xs) (suc n) le = ap (λ l. x ∷ l) (take_past xs n (omega (arith, le)))

pub serving_end : (o : Origin) (given bytes : List ℕ) (i : ℕ) (now : Outside) (session : Session) → length bytes ≤ i → Serving o (given ++ take i bytes) now session → Serving o (given ++ bytes) now session
serving_end o given bytes i now session le s = subst (λ (l : List ℕ). Serving o (given ++ l) now session) (take_past bytes i le) s

-- WHAT WAITED IS WRITTEN

-- the site is as it was
written_too : (before : Outside) (written : Option (List ℕ)) (e : Engine) (w : World) → StandsHere before e w → StandsHere (record before { written = written }) e w
written_too before written e w x = record { at = x.at; stands = record { left = x.stands.left; keeps = x.stands.keeps; kept = x.stands.kept; slots = x.stands.slots } }

pub serving_flushed : (r : Result (Unit {0}) Stop) (o : Origin) (given bytes : List ℕ) (before : Outside) (written : Option (List ℕ)) (session session' : Session)
    → session'.engine ≡ session.engine → session'.line ≡ session.line → (r ≡ Err stop.Disk → ⊥)
    → Serving o (given ++ bytes) before session → PassesReply r before.written written session.output session'.output []
    → Feeds r o given bytes (record before { written = written }) session'
serving_flushed (Ok done) o given bytes before written session session' tier line sunk s p = record {
  world = s.world;
  replies = s.replies;
  comes = s.comes;
  goes = s.goes;
  at = s.at;
  stands = subst (λ e. StandsIn (record before { written = written }) e s.world) (sym tier) (record { left = s.stands.left; keeps = s.stands.keeps; kept = s.stands.kept; slots = s.stands.slots });
  since =
      subst (λ e. LedSinceEach (StandsHere (record before { written = written }) e) o.world s.comes.given s.replies s.world s.comes.run) (sym tier)
      (since_map (StandsHere before session.engine) (StandsHere (record before { written = written }) session.engine) (written_too before written session.engine) o.world s.comes.given s.replies s.world s.comes.run s.since);
  left = s.left;
  line = line ∙ s.line;
  passed = subst (λ (l : List ℕ). Splits (Some o.written) written l session'.output) (append-nil (replies_bytes s.replies))
      (splits_then (Some o.written) before.written written (replies_bytes s.replies) session.output [] session'.output s.passed p);
}
serving_flushed (Err stop.Sink) o given bytes before written session session' tier line sunk s p =
    let b : Breaks (Some o.written) written (replies_bytes s.replies) = subst (λ (l : List ℕ). Breaks (Some o.written) written l) (append-nil (replies_bytes s.replies)) (breaks_then (Some o.written) before.written written (replies_bytes s.replies) session.output [] s.passed p) in (
      length bytes,
      subst (λ (l : List ℕ). CutShort o (ended_lines (given ++ l)) (record before { written = written })) (sym (take_whole bytes))
          (record {
            replies = s.replies;
            answered = inl (answered_here o (given ++ bytes) before session s);
            count = b.count;
            tells = told_after o.written written (take b.count (replies_bytes s.replies)) b.written;
          }),
    )
serving_flushed (Err stop.Disk) o given bytes before written session session' tier line sunk s p = absurd (sunk refl)

-- where nothing waits, all replies of the ended lines are written
pub serving_whole : (o : Origin) (given : List ℕ) (now : Outside) (session : Session) → session.output ≡ [] → Serving o given now session → Whole Rests o (ended_lines given) now
serving_whole o given now session none s = record {
  replies = s.replies;
  answered = answered_here o given now session s;
  tells = told_whole o.written now.written (replies_bytes s.replies) (subst (λ (w : List ℕ). Splits (Some o.written) now.written (replies_bytes s.replies) w) none s.passed);
}

-- THE LAST LINE

-- all lines end with a line feed
pub closes_ended : (o : Origin) (given : List ℕ) (now : Outside) (session : Session) → session.line ≡ [] → Serving o given now session → Closing o (all_lines given) now session.engine session.output
unfolding comes_same
closes_ended o given now session none s = record {
  world = s.world;
  replies = s.replies;
  comes = comes_same o (ended_lines given) (all_lines given) s.replies s.world (sym (all_ended given (sym s.line ∙ none))) s.comes;
  goes = s.goes;
  at = s.at;
  stands = s.stands;
  since = s.since;
  passed = s.passed;
}

-- the last line is answered
pub closes_line : (r : Result (Unit {0}) Stop) (o : Origin) (given : List ℕ) (before behind : Outside) (session : Session) (engine' : Engine) (waiting' line : List ℕ)
    → line ≡ session.line → session.line ≢ [] → (s : Serving o given before session)
    → Responds r before behind session.output waiting' session.engine engine' line → IsUnshared s.world
    → Closes r o given behind engine' waiting'
closes_line (Ok done) o given before behind session engine' waiting' line is some s p unshared =
    let lines = sym (all_more given line (is ∙ s.line) (λ none. some (sym is ∙ none))) in
    let there = led_here o given (all_lines given) before behind session engine' waiting' line (Ok done) s p unshared in
    let came = came_line o given (all_lines given) before behind session engine' waiting' line (Ok done) s p unshared lines p.tells in
    record {
      world = there.world;
      replies = s.replies ++ p.reply ∷ [];
      comes = came.comes;
      goes = came.goes;
      at = there.at;
      stands = there.stands p.tells;
      since = came.since;
      passed = rw (replies_push s.replies p.reply) (splits_then (Some o.written) before.written behind.written (replies_bytes s.replies) session.output (reply_bytes p.reply) waiting' s.passed p.passed);
    }
closes_line (Err why) o given before behind session engine' waiting' line is some s p unshared =
    let lines = sym (all_more given line (is ∙ s.line) (λ none. some (sym is ∙ none))) in
    stopped_line o given (all_lines given) before behind session engine' waiting' line why lines s p unshared

-- WHAT IS LEFT ALONE

-- what is left alone in all bytes is so in a front of them
pub left_front : (o : Origin) (bytes more : List ℕ) → IsLeftAlone o (bytes ++ more) → IsLeftAlone o bytes
left_front o bytes more alone given left replies w parts comes = alone given (left ++ more) replies w (ap (λ l. l ++ more) parts ∙ append_assoc given left more) comes

-- so the groups that the session has now are
pub unshared_now : (o : Origin) (given : List ℕ) (now : Outside) (session : Session) (s : Serving o given now session) → IsLeftAlone o given → IsUnshared s.world
unshared_now o given now session s alone = alone given [] s.replies s.world (sym (append-nil given)) s.comes

-- and before a byte of a piece
pub alone_at : (o : Origin) (given bytes : List ℕ) (i : ℕ) → IsLeftAlone o (given ++ bytes) → IsLeftAlone o (given ++ take i bytes)
alone_at o given bytes i alone =
    left_front o (given ++ take i bytes) (drop i bytes)
    (subst (λ (l : List ℕ). IsLeftAlone o l) (ap (λ l. given ++ l) (sym (take-append-drop i bytes)) ∙ sym (append_assoc given (take i bytes) (drop i bytes))) alone)
