-- The pieces of the input, from the first to the last.
use Rattle.std.proofs.Common.{◌≡◌, ◌⊎◌, subst, ℕ, true, min, ◌+◌, ◌-◌, ◌≤◌, ◌<◌, List, [], ◌++◌, length, take, drop, Option, Some, None, refl, sym, ◌∙◌, ap, append-nil, append_assoc, inl, inr, arith, take-append-drop}
use Rattle.std.specs.Io.KnownBytes.{Consumes, IsAtEnd, Keeps}
use Rattle.std.proofs.lemmas.List.{length-append, length-take, length-drop}
use Rattle.outside.specs.Holding.{Held}
use Rattle.cache_tier.specs.TierStates.{Settings as TierSettings}
use Rattle.cache_tier.specs.Worlds.{World}
use Rattle.command_line.specs.declared.settings.ClockSource.{ClockSource}
use Rattle.command_line.specs.declared.settings.ClockSource.TheVariants.{Script, System}
use Rattle.command_line.specs.declared.settings.Settings.{Settings}
use Rattle.session_cli.specs.declared.answering.Stop.{Stop}
use Rattle.session_cli.specs.declared.answering.Stop.TheVariants as stop
use Rattle.session_cli.specs.declared.session.Session.{Session}
use Rattle.session_cli.specs.declared.serving.Status.{Status}
use Rattle.session_cli.specs.declared.serving.Status.TheVariants.{Finished, SourceFailed, SinkFailed, DiskFailed, SchemaFailed, NoMemory, LineUnchecked, Damaged, Differs, InputTooLong}
use Rattle.session_cli.specs.Cutting.{ended_lines, all_lines}
use Rattle.session_cli.specs.Ends.{Ended, Gives, OpenedAndEnded, Outcome, Runs, Stops, Taken, Unopened, input_limit, status_of, takes_none}
use Rattle.cache_engine.specs.OfTierOpening.Opening.{Onset}
use Rattle.session_cli.specs.Opening.{begins}
use Rattle.session_cli.specs.Outside.{Outside}
use Rattle.session_cli.specs.Serving.{HasFlushed, IsLeftAlone, Origin, Rests, Serving, StopsAt, Whole}
use Rattle.session_cli.specs.Timing.{Coming, bases_by, bases_of}
use Rattle.session_cli.proofs.ServingLaws.{left_front, serving_whole}

-- Between two pieces: so much was given and so much is left.
pub record Taking (input : List ℕ) (room : ℕ) (source : Option (List ℕ)) : Type 0 where
  pub given : List ℕ
  pub left : List ℕ
  pub tells : source ≡ Some left
  pub parts : input ≡ given ++ left
  pub total : length given + room ≡ 4294967296

-- And all that was given is taken in.
pub record Going (o : Origin) (input : List ℕ) (room : ℕ) (source : Option (List ℕ)) (now : Outside) (session : Session) : Type 0 where
  pub taking : Taking input room source
  pub serving : Serving o taking.given now session

-- at the beginning
unfoldable pub taking_new : (input : List ℕ) (source : Option (List ℕ)) → source ≡ Some input → Taking input 4294967296 source
taking_new input source is = record { given = []; left = input; tells = is; parts = refl; total = refl }

pub going_new : (o : Origin) (session : Session) (input : List ℕ) (source : Option (List ℕ)) (now : Outside) → source ≡ Some input → Serving o [] now session → Going o input 4294967296 source now session
unfolding taking_new
going_new o session input source now is s = record { taking = taking_new input source is; serving = s }

-- how a run ended doesn't go by what the clock would answer then
whole_then : (ends : World → World → Type 0) (o : Origin) (lines : List (List ℕ)) (now : Outside) (coming : Coming) → Whole ends o lines now → Whole ends o lines (record now { coming = coming })
whole_then ends o lines now coming w = record { replies = w.replies; answered = w.answered; tells = w.tells }

stops_then : (why : Stop) (o : Origin) (lines : List (List ℕ)) (now : Outside) (coming : Coming) → StopsAt why o lines now → StopsAt why o lines (record now { coming = coming })
stops_then stop.Sink o lines now coming c = record { replies = c.replies; answered = c.answered; count = c.count; tells = c.tells }
stops_then stop.Disk o lines now coming b = record { replies = b.replies; broken = b.broken; tells = b.tells }

stopped_then : (why : Stop) (o : Origin) (given : List ℕ) (now : Outside) (coming : Coming) → Stops why o given now → Stops why o given (record now { coming = coming })
stopped_then why o given now coming x = record { front = x.front; behind = x.behind; parts = x.parts; answered = by x.answered }
  where
    by : StopsAt why o (ended_lines x.front) now ⊎ StopsAt why o (all_lines x.front) now → StopsAt why o (ended_lines x.front) (record now { coming = coming }) ⊎ StopsAt why o (all_lines x.front) (record now { coming = coming })
    by (inl c) = inl (stops_then why o (ended_lines x.front) now coming c)
    by (inr c) = inr (stops_then why o (all_lines x.front) now coming c)

outcome_then : (status : Status) (o : Origin) (given : List ℕ) (now : Outside) (coming : Coming) → Outcome status o given now → Outcome status o given (record now { coming = coming })
outcome_then Finished o given now coming x = whole_then HasFlushed o (all_lines given) now coming x
outcome_then SourceFailed o given now coming x = whole_then Rests o (ended_lines given) now coming x
outcome_then InputTooLong o given now coming x = whole_then Rests o (ended_lines given) now coming x
outcome_then SinkFailed o given now coming x = stopped_then stop.Sink o given now coming x
outcome_then DiskFailed o given now coming x = stopped_then stop.Disk o given now coming x
outcome_then LineUnchecked o given now coming x = absurd x
outcome_then SchemaFailed o given now coming x = absurd x
outcome_then NoMemory o given now coming x = absurd x
outcome_then Damaged o given now coming x = absurd x
outcome_then Differs o given now coming x = absurd x

opened_then : (onset : Onset) (settings : TierSettings) (status : Status) (there : Held) (start input : List ℕ) (source' : Option (List ℕ)) (before behind : Outside) (coming : Coming)
    → Unopened status settings there input before source' behind ⊎ OpenedAndEnded onset status settings there start input before source' behind
    → Unopened status settings there input before source' (record behind { coming = coming }) ⊎ OpenedAndEnded onset status settings there start input before source' (record behind { coming = coming })
opened_then onset settings status there start input source' before behind coming (inl u) =
    inl (record { untaken = u.untaken; why = u.why; tells = u.tells; moment = u.moment; next = u.next; failed = u.failed; leaves = u.leaves })
opened_then onset settings status there start input source' before behind coming (inr x) =
    inr (record {
      first = x.first;
      next = x.next;
      world = x.world;
      opens = x.opens;
      starts = x.starts;
      kept = x.kept;
      later = x.later;
      shares = x.shares;
      left = x.left;
      ended = λ alone.
          let e = x.ended alone in
          record { taken = e.taken; outcome = outcome_then status (begins x.world start before.coming) e.taken.given behind coming e.outcome };
    })

pub runs_then : (settings : TierSettings) (status : Status) (source source' : Option (List ℕ)) (before behind : Outside) (coming : Coming) → Runs settings status source before source' behind
    → Runs settings status source before source' (record behind { coming = coming })
runs_then settings status source source' before behind coming runs = λ onset input start there is_source is_sink is_site have sure may.
    opened_then onset settings status there start input source' before behind coming (runs onset input start there is_source is_sink is_site have sure may)

-- the bases of a run are those by its settings
pub runs_based : (settings : TierSettings) (status : Status) (source source' : Option (List ℕ)) (before behind : Outside) (bases coming : Coming) → before.coming ≡ bases → Runs settings status source before source' behind
    → Runs settings status source (record before { coming = bases }) source' (record behind { coming = coming })
runs_based settings status source source' before behind bases coming is runs =
    subst (λ (b : Coming). Runs settings status source (record before { coming = b }) source' (record behind { coming = coming })) is
    (runs_then settings status source source' before behind coming runs)

pub bases_script : (s : Settings) (clock : Coming) → s.clock ≡ Script → (λ n. Some s.start_ms) ≡ bases_by s clock
bases_script s clock is = sym (ap (λ (source : ClockSource). bases_of source s.start_ms clock) is)

pub bases_system : (s : Settings) (clock : Coming) → s.clock ≡ System → clock ≡ bases_by s clock
bases_system s clock is = sym (ap (λ (source : ClockSource). bases_of source s.start_ms clock) is)

pub kept_told : (a b : Option (List ℕ)) (x : List ℕ) → a ≡ Some x → Keeps a b → b ≡ Some x
kept_told None b x is k = cc
kept_told (Some a) None x is k = absurd k
kept_told (Some a) (Some b) x is k = cc

-- what a source gave, and what is left
pub record Took (old : List ℕ) (new : Option (List ℕ)) (bytes room : List ℕ) (n : ℕ) : Type 0 where
  pub left : List ℕ
  pub tells : new ≡ Some left
  pub parts : old ≡ bytes ++ left
  pub ended : n ≡ 0 → 0 < length room → left ≡ []

-- a call of a source that took n bytes
abbrev pub TakeOf : Option (List ℕ) → Option (List ℕ) → ℕ → List ℕ → Type 0
TakeOf a b n buf = Consumes a b (take n buf) × (n ≡ 0 → 0 < length buf → IsAtEnd b)

pub took : (a b : Option (List ℕ)) (old buf : List ℕ) (n : ℕ) → a ≡ Some old → TakeOf a b n buf → Took old b (take n buf) buf n
took None b old buf n is p = cc
took (Some a) None old buf n is p = absurd p.0
took (Some a) (Some b) old buf n is p = record { left = b; tells = refl; parts = let e : a ≡ old = cc in sym e ∙ p.0; ended = p.1 }

-- the source failed
unfoldable pub taken_failed : (input : List ℕ) (room : ℕ) (source source' : Option (List ℕ)) → 0 < room → Keeps source source' → Taking input room source → Taken SourceFailed input source'
taken_failed input room source source' some kept t = record {
  given = t.given;
  left = t.left;
  tells = kept_told source source' t.left t.tells kept;
  parts = t.parts;
  gives = omega (arith, t.total);
}

-- too many bytes were given
unfoldable pub taken_long : (input : List ℕ) (room : ℕ) (source : Option (List ℕ)) → room ≤ 0 → Taking input room source → Taken InputTooLong input source
taken_long input room source full t = record { given = t.given; left = t.left; tells = t.tells; parts = t.parts; gives = omega (arith, t.total) }

-- the source is at its end
unfoldable pub taken_all : (input : List ℕ) (room : ℕ) (source source' : Option (List ℕ)) (buf : List ℕ) (n : ℕ) → n ≡ 0 → 0 < room → 0 < length buf → TakeOf source source' n buf → Taking input room source → Taken Finished input source'
taken_all input room source source' buf n none some space p t =
    let k = took source source' t.left buf n t.tells p in
    record {
      given = t.given;
      left = k.left;
      tells = k.tells;
      parts = t.parts ∙ ap (λ l. t.given ++ l) (k.parts ∙ ap (λ i. take i buf ++ k.left) none);
      gives = (k.ended none space, omega (arith, t.total));
    }

-- and the sink failed
unfoldable pub taken_unwritten : (input : List ℕ) (room : ℕ) (source source' : Option (List ℕ)) (buf : List ℕ) (n : ℕ) → n ≡ 0 → TakeOf source source' n buf → Taking input room source → Taken SinkFailed input source'
taken_unwritten input room source source' buf n none p t =
    let k = took source source' t.left buf n t.tells p in
    record {
      given = t.given;
      left = k.left;
      tells = k.tells;
      parts = t.parts ∙ ap (λ l. t.given ++ l) (k.parts ∙ ap (λ i. take i buf ++ k.left) none);
      gives = omega (arith, t.total);
    }

-- and the sink failed in it
unfoldable pub taken_in_piece : (input : List ℕ) (room : ℕ) (source : Option (List ℕ)) → Taking input room source → Taken SinkFailed input source
taken_in_piece input room source t = record { given = t.given; left = t.left; tells = t.tells; parts = t.parts; gives = omega (arith, t.total) }

-- what a run that stopped took
pub gives_stopped : (why : Stop) (given left : List ℕ) → length given ≤ input_limit → Gives (status_of why) given left
gives_stopped stop.Sink given left few = few
gives_stopped stop.Disk given left few = few

-- and the run stopped there
unfoldable pub taken_stopped : (why : Stop) (input : List ℕ) (room : ℕ) (source source' : Option (List ℕ)) (buf : List ℕ) (n : ℕ) → n ≡ 0 → TakeOf source source' n buf → Taking input room source → Taken (status_of why) input source'
taken_stopped why input room source source' buf n none p t =
    let k = took source source' t.left buf n t.tells p in
    record {
      given = t.given;
      left = k.left;
      tells = k.tells;
      parts = t.parts ∙ ap (λ l. t.given ++ l) (k.parts ∙ ap (λ i. take i buf ++ k.left) none);
      gives = gives_stopped why t.given k.left (omega (arith, t.total));
    }

-- a piece more was given
unfoldable pub taking_on : (input : List ℕ) (room room' : ℕ) (source source' : Option (List ℕ)) (buf bytes : List ℕ) (n : ℕ) → bytes ≡ take n buf → length bytes ≡ n → n ≤ room → room' ≡ room - n → TakeOf source source' n buf
    → Taking input room source → Taking input room' source'
taking_on input room room' source source' buf bytes n are len within less p t =
    let k = took source source' t.left buf n t.tells p in
    record {
      given = t.given ++ bytes;
      left = k.left;
      tells = k.tells;
      parts = t.parts ∙ ap (λ l. t.given ++ l) (k.parts ∙ ap (λ l. l ++ k.left) (sym are)) ∙ sym (append_assoc t.given bytes k.left);
      total = omega (arith, t.total, length-append t.given bytes);
    }

-- and the run stopped in it
unfoldable pub taken_stopped_in_piece : (why : Stop) (input : List ℕ) (room : ℕ) (source : Option (List ℕ)) → Taking input room source → Taken (status_of why) input source
taken_stopped_in_piece why input room source t = record { given = t.given; left = t.left; tells = t.tells; parts = t.parts; gives = gives_stopped why t.given t.left (omega (arith, t.total)) }

pub ended_source : (o : Origin) (input : List ℕ) (room : ℕ) (source source' : Option (List ℕ)) (now : Outside) (session : Session) → session.output ≡ [] → 0 < room → Keeps source source'
    → Going o input room source now session → Ended SourceFailed o input source' now
unfolding taken_failed
ended_source o input room source source' now session none some kept g = record {
  taken = taken_failed input room source source' some kept g.taking;
  outcome = serving_whole o g.taking.given now session none g.serving;
}

pub ended_long : (o : Origin) (input : List ℕ) (room : ℕ) (source : Option (List ℕ)) (now : Outside) (session : Session) → session.output ≡ [] → room ≤ 0
    → Going o input room source now session → Ended InputTooLong o input source now
unfolding taken_long
ended_long o input room source now session none full g = record {
  taken = taken_long input room source full g.taking;
  outcome = serving_whole o g.taking.given now session none g.serving;
}

pub ended_all : (o : Origin) (input : List ℕ) (room : ℕ) (source source' : Option (List ℕ)) (now behind : Outside) (session : Session) (buf : List ℕ) (n : ℕ) → n ≡ 0 → 0 < room → 0 < length buf
    → TakeOf source source' n buf → (g : Going o input room source now session) → Whole HasFlushed o (all_lines g.taking.given) behind → Ended Finished o input source' behind
unfolding taken_all
ended_all o input room source source' now behind session buf n none some space p g whole = record {
  taken = taken_all input room source source' buf n none some space p g.taking;
  outcome = whole;
}

stops_outcome : (why : Stop) (o : Origin) (given : List ℕ) (now : Outside) → Stops why o given now → Outcome (status_of why) o given now
stops_outcome stop.Sink o given now x = x
stops_outcome stop.Disk o given now x = x

pub ended_stopped : (why : Stop) (o : Origin) (input : List ℕ) (room : ℕ) (source source' : Option (List ℕ)) (now behind : Outside) (session : Session) (buf : List ℕ) (n : ℕ) → n ≡ 0
    → TakeOf source source' n buf → (g : Going o input room source now session) → StopsAt why o (all_lines g.taking.given) behind → Ended (status_of why) o input source' behind
unfolding taken_stopped
ended_stopped why o input room source source' now behind session buf n none p g short = record {
  taken = taken_stopped why input room source source' buf n none p g.taking;
  outcome = stops_outcome why o g.taking.given behind (record { front = g.taking.given; behind = []; parts = sym (append-nil g.taking.given); answered = inr short });
}

pub ended_in_piece : (why : Stop) (o : Origin) (input : List ℕ) (room room' : ℕ) (source source' : Option (List ℕ)) (now behind : Outside) (session : Session) (buf bytes : List ℕ) (n : ℕ)
    → bytes ≡ take n buf → length bytes ≡ n → n ≤ room → room' ≡ room - n → TakeOf source source' n buf
    → (g : Going o input room source now session) → (m : ℕ) × StopsAt why o (ended_lines (g.taking.given ++ take m bytes)) behind → Ended (status_of why) o input source' behind
unfolding taking_on taken_stopped_in_piece
ended_in_piece why o input room room' source source' now behind session buf bytes n are len within less p g (m, short) = record {
  taken = taken_stopped_in_piece why input room' source' (taking_on input room room' source source' buf bytes n are len within less p g.taking);
  outcome = stops_outcome why o (g.taking.given ++ bytes) behind (record {
    front = g.taking.given ++ take m bytes;
    behind = drop m bytes;
    parts = ap (λ l. g.taking.given ++ l) (sym (take-append-drop m bytes)) ∙ sym (append_assoc g.taking.given (take m bytes) (drop m bytes));
    answered = inl short;
  });
}

pub going_on : (o : Origin) (input : List ℕ) (room room' : ℕ) (source source' : Option (List ℕ)) (now behind : Outside) (session session' : Session) (buf bytes : List ℕ) (n : ℕ)
    → bytes ≡ take n buf → length bytes ≡ n → n ≤ room → room' ≡ room - n → TakeOf source source' n buf
    → (g : Going o input room source now session) → Serving o (g.taking.given ++ bytes) behind session' → Going o input room' source' behind session'
unfolding taking_on
going_on o input room room' source source' now behind session session' buf bytes n are len within less p g s = record {
  taking = taking_on input room room' source source' buf bytes n are len within less p g.taking;
  serving = s;
}

-- the part of the buffer that the source may fill
pub has_room : (buf piece : List ℕ) (want room : ℕ) → want ≡ min room (length piece) → length buf ≡ length (take want piece) → 0 < room → 0 < length piece → 0 < length buf
has_room buf piece want room is len some space = omega (arith, length-take want piece)

pub fits_room : (buf piece : List ℕ) (want room n : ℕ) → want ≡ min room (length piece) → length buf ≡ length (take want piece) → n ≤ length buf → n ≤ room
fits_room buf piece want room n is len le = omega (arith, length-take want piece)

-- the buffer keeps its length
pub keeps_length : (buf piece : List ℕ) (want : ℕ) → length buf ≡ length (take want piece) → length (buf ++ drop want piece) ≡ length piece
keeps_length buf piece want len = omega (arith, length-append buf (drop want piece), length-take want piece, length-drop want piece)

-- nothing was taken
pub taken_unstarted : (input : List ℕ) (source : Option (List ℕ)) → source ≡ Some input → Taken NoMemory input source
taken_unstarted input source is = record { given = []; left = input; tells = is; parts = refl; gives = refl }

pub taken_none : (input : List ℕ) (source : Option (List ℕ)) (status : Status) → takes_none status ≡ true → source ≡ Some input → Taken status input source
taken_none input source status which is = record { given = []; left = input; tells = is; parts = refl; gives = by status which }
  where
    by : (status : Status) → takes_none status ≡ true → Gives status [] input
    by SchemaFailed which = refl
    by NoMemory which = refl
    by Damaged which = refl
    by Differs which = refl
    by Finished e = cc
    by SourceFailed e = cc
    by SinkFailed e = cc
    by DiskFailed e = cc
    by LineUnchecked e = cc
    by InputTooLong e = cc

-- nothing is taken where no engine is opened
pub taken_unopened : (input : List ℕ) (source : Option (List ℕ)) (status : Status) → (takes_none status ≡ true) ⊎ ((status ≡ SinkFailed) ⊎ (status ≡ DiskFailed)) → source ≡ Some input → Taken status input source
taken_unopened input source status (inl none) is = taken_none input source status none is
taken_unopened input source status (inr (inl sink)) is = subst (λ st. Taken st input source) (sym sink) (record { given = []; left = input; tells = is; parts = refl; gives = zero_few })
  where
    zero_few : 0 ≤ input_limit
    zero_few = omega arith
taken_unopened input source status (inr (inr disk)) is = subst (λ st. Taken st input source) (sym disk) (record { given = []; left = input; tells = is; parts = refl; gives = zero_few })
  where
    zero_few : 0 ≤ input_limit
    zero_few = omega arith

-- others leave the groups alone in what was given, and in a piece more
pub alone_given : (o : Origin) (input : List ℕ) (room : ℕ) (source : Option (List ℕ)) (t : Taking input room source) → IsLeftAlone o input → IsLeftAlone o t.given
alone_given o input room source t alone = left_front o t.given t.left (subst (λ (l : List ℕ). IsLeftAlone o l) t.parts alone)

pub alone_piece : (o : Origin) (input : List ℕ) (room : ℕ) (source source' : Option (List ℕ)) (buf bytes : List ℕ) (n : ℕ) → bytes ≡ take n buf → TakeOf source source' n buf → (t : Taking input room source) → IsLeftAlone o input
    → IsLeftAlone o (t.given ++ bytes)
alone_piece o input room source source' buf bytes n are p t alone =
    let k = took source source' t.left buf n t.tells p in
    let parts : input ≡ (t.given ++ bytes) ++ k.left = t.parts ∙ ap (λ l. t.given ++ l) (k.parts ∙ ap (λ l. l ++ k.left) (sym are)) ∙ sym (append_assoc t.given bytes k.left) in
    left_front o (t.given ++ bytes) k.left (subst (λ (l : List ℕ). IsLeftAlone o l) parts alone)
