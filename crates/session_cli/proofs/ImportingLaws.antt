-- The command `import`.
use Rattle.std.proofs.Common.{◌≡◌, ◌+◌, ◌-◌, ◌≤◌, ◌<◌, ℕ, true, List, [], ◌∷◌, ◌++◌, take, length, Option, Some, None, Result, Ok, Err, inl, inr, refl, sym, ◌∙◌, ap, arith, subst, append-nil, append_assoc}
use Rattle.std.proofs.lemmas.List.{length-append}
use Rattle.std.specs.Io.KnownBytes.{Appends, Keeps}
use Rattle.std.specs.Result.{OnOk}
use Rattle.outside.specs.Holding.{Held}
use Rattle.outside.specs.Sites.{SiteState}
use Rattle.cache_tier.specs.Replying.{reply_bytes}
use Rattle.cache_tier.specs.TierStates.{Settings as TierSettings}
use Rattle.cache_tier.specs.Worlds.{Tries, World}
use Rattle.cache_tier.specs.declared.reply.Reply.{Reply}
use Rattle.cache_tier.specs.Journals.{Journal}
use Rattle.cache_tier.specs.TierStates.{Tier}
use Rattle.evaluator.specs.declared.change.Change.{Change}
use Rattle.tier_journal.specs.KeptOver.{IsLeftOver, KeepsOver}
use Rattle.tier_journal.proofs.WayLaws.{leaves_at}
use Rattle.session_cli.proofs.WayLaws.{leaves_kept}
use Rattle.propagators.specs.Certainty.{KeepsCertain}
use Rattle.row_types.specs.declared.rule.Rule.{Rule}
use Rattle.stored_tier.proofs.OverLaws.{keeps_called}
use Rattle.tier_journal.specs.declared.journal.TierJournal.{TierJournal}
use Rattle.stored_tier.specs.declared.tier.Tier.{Tier as Stored}
use Rattle.stored_tier.specs.Performing.{StandsFor}
use Rattle.stored_tier.specs.Sites.{IsAt, Serves}
use Rattle.stored_tier.specs.Stored.{IsStoredAs, pace_of}
use Rattle.session_engine.specs.Doubting.{IsLeft}
use Rattle.session_engine.specs.declared.doubt.Doubt.{Doubt}
use Rattle.commit_journal.specs.Layout.{HaveBytes}
use Rattle.cache_engine.specs.OfTierOpening.Leaving.{EndsEarly}
use Rattle.cache_engine.specs.OfTierOpening.Telling.{FailsAs}
use Rattle.cache_engine.specs.OfTierOpening.LeftLaws.{found_here}
use Rattle.cache_engine.specs.OfTierOpening.declared.opening.OpenError.{OpenError}
use Rattle.cache_engine.specs.OfTierOpening.declared.opening.OpenError.TheVariants as open_error
use Rattle.cache_engine.specs.Importing.{Imports, ImportsRead, inserts_for}
use Rattle.cache_engine.specs.Opening.{OpensOver}
use Rattle.cache_engine.specs.declared.engine.Engine.{Engine}
use Rattle.session_cli.specs.declared.serving.Status.{Status}
use Rattle.session_cli.specs.declared.serving.Status.TheVariants.{DiskFailed, InputTooLong, NoMemory, SchemaFailed, SourceFailed}
use Rattle.session_cli.specs.Importing.{ImportEnds, ImportRuns, Imported, ImportsNothing, Puts, TakesAll, TellsImport}
use Rattle.session_cli.specs.Outside.{Outside, seen}
use Rattle.reply_lines.specs.Output.{Breaks, Passes, Splits}
use Rattle.session_cli.specs.Timing.{Coming, IsNext}
use Rattle.session_cli.specs.Ends.{Taken}
use Rattle.session_cli.proofs.EndsLaws.{TakeOf, kept_told, took}
use Rattle.session_cli.proofs.OpeningLaws.{is_bank, is_disk, next_of, not_source, tells_memory}
use Rattle.reply_lines.proofs.OutputLaws.{breaks_flushed, splits_flushed}
use Rattle.session_cli.proofs.SlotLaws.{in_slots}
use Rattle.session_cli.proofs.ServingLaws.{take_rest}
use Rattle.stored_tier.specs.declared.clock.Pace.{Pace}

-- THE SOURCE

-- between two pieces: these bytes were taken
pub record Reading (input bytes : List ℕ) (source : Option (List ℕ)) : Type 0 where
  pub left : List ℕ
  pub tells : source ≡ Some left
  pub parts : input ≡ bytes ++ left

pub reading_new : (input bytes : List ℕ) (source : Option (List ℕ)) → bytes ≡ [] → source ≡ Some input → Reading input bytes source
reading_new input bytes source none is = record { left = input; tells = is; parts = ap (λ l. l ++ input) (sym none) }

pub reading_on : (input bytes more bytes' : List ℕ) (source source' : Option (List ℕ)) (buf : List ℕ) (n : ℕ) → bytes' ≡ bytes ++ more → more ≡ take n buf → TakeOf source source' n buf → Reading input bytes source → Reading input bytes' source'
reading_on input bytes more bytes' source source' buf n is are p r =
    let k = took source source' r.left buf n r.tells p in
    record {
      left = k.left;
      tells = k.tells;
      parts = r.parts ∙ ap (λ l. bytes ++ l) (k.parts ∙ ap (λ l. l ++ k.left) (sym are)) ∙ sym (append_assoc bytes more k.left) ∙ ap (λ l. l ++ k.left) (sym is);
    }

-- so much was taken, and so much may be taken still
pub counts_on : (bytes more bytes' : List ℕ) (room n : ℕ) → bytes' ≡ bytes ++ more → length more ≡ n → n ≤ room → length bytes + room ≡ 4294967296 → length bytes' + (room - n) ≡ 4294967296
counts_on bytes more bytes' room n is long within total =
    let both : length bytes' ≡ length bytes + length more = ap length is ∙ length-append bytes more in
    omega (arith, both, long, within, total)

-- the source is at its end
pub reads_all : (input bytes : List ℕ) (source source' : Option (List ℕ)) (buf : List ℕ) (n : ℕ) → n ≡ 0 → 0 < length buf → TakeOf source source' n buf → Reading input bytes source → TakesAll input bytes source'
reads_all input bytes source source' buf n none space p r =
    let k = took source source' r.left buf n r.tells p in
    let rest : r.left ≡ [] = k.parts ∙ ap (λ i. take i buf ++ k.left) none ∙ k.ended none space in
    record {
      bytes_are = sym (append-nil bytes) ∙ ap (λ l. bytes ++ l) (sym rest) ∙ sym r.parts;
      whole = k.tells ∙ ap Some (k.ended none space);
    }

-- the source failed before so many bytes were taken
pub reads_failed : (input bytes : List ℕ) (room : ℕ) (source source' : Option (List ℕ)) → 0 < room → length bytes + room ≡ 4294967296 → Keeps source source' → Reading input bytes source → Taken SourceFailed input source'
reads_failed input bytes room source source' some total kept r =
    record { given = bytes; left = r.left; tells = kept_told source source' r.left r.tells kept; parts = r.parts; gives = omega (arith, some, total) }

-- so many bytes were taken
pub reads_long : (input bytes : List ℕ) (room : ℕ) (source : Option (List ℕ)) → room ≤ 0 → length bytes + room ≡ 4294967296 → Reading input bytes source → Taken InputTooLong input source
reads_long input bytes room source full total r = record { given = bytes; left = r.left; tells = r.tells; parts = r.parts; gives = omega (arith, full, total) }

-- THE REPLY

pub puts_all : (a c : Option (List ℕ)) (w xs : List ℕ) → w ≡ [] → Splits a c (w ++ xs) [] → Appends a c xs
puts_all a c w xs none p = subst (λ (l : List ℕ). Appends a c l) (take_rest p.count (w ++ xs) (sym p.waits) ∙ ap (λ l. l ++ xs) none) p.written

pub puts_front : (a c : Option (List ℕ)) (w xs : List ℕ) → w ≡ [] → Breaks a c (w ++ xs) → (count : ℕ) × Appends a c (take count xs)
puts_front a c w xs none p = (p.count, subst (λ (l : List ℕ). Appends a c (take p.count l)) (ap (λ l. l ++ xs) none) p.written)

-- it waits, and then all that waits is written
pub puts_by : {E : Type 0} (r : Result (Unit {0}) E) (a b c : Option (List ℕ)) (w w' w'' xs : List ℕ) → w ≡ [] → Splits a b (w ++ xs) w' → Passes r b c w' w'' [] → OnOk r (w'' ≡ []) → Puts r a c xs
puts_by (Ok done) a b c w w' w'' xs none p q empty = puts_all a c w xs none (splits_flushed a b c w w' w'' xs p q empty)
puts_by (Err e) a b c w w' w'' xs none p q empty = puts_front a c w xs none (breaks_flushed a b c w w' xs p q)

-- the journal and the tier stay
pub imports_stay : (word bytes : List ℕ) (w w' : World) (reply : Reply) → Tries (Imports word bytes) w w' reply → (w'.journal ≡ w.journal) × (w'.tier ≡ w.tier)
imports_stay word bytes w w' reply (inr q) = (ap (λ (x : World). x.journal) q.0, ap (λ (x : World). x.tier) q.0)
imports_stay word bytes w w' reply (inl q) = by (inserts_for w.tier word bytes) q
  where
    by : (r : Result (List Change) Rule) → ImportsRead r w w' reply → (w'.journal ≡ w.journal) × (w'.tier ≡ w.tier)
    by (Err rule) q = (ap (λ (x : World). x.journal) q.0, ap (λ (x : World). x.tier) q.0)
    by (Ok []) q = (ap (λ (x : World). x.journal) q.0, ap (λ (x : World). x.tier) q.0)
    by (Ok (change ∷ changes)) q = (q.call.journal, q.tier)

module _ {D : Type 0} (state : D → SiteState) (possible : D → ℕ → Held → Type 0) where
  pub imported : {E : Type 0} (r : Result (Unit {0}) E) (word bytes_of input : List ℕ) (t : Stored) (k : Option TierJournal) (d d' : D) (reply : Reply) (sink sink' : Option (List ℕ)) → bytes_of ≡ word → Serves t t (state d) (state d') (λ w w'. Tries (Imports bytes_of input) w w' reply)
      → KeepsCertain state possible d d' → Puts r sink sink' (reply_bytes (Some reply))
      → (w : World) → IsAt (state d) w → IsStoredAs t w.tier → KeepsOver state possible d k w → w.journal.kept ≡ true → Imported r word input w sink sink' (state d') (IsLeftOver state possible d')
  imported r word bytes_of input t k d d' reply sink sink' same serves certain puts w at stored keeps kept =
      let x = serves w at stored in
      let stay = imports_stay bytes_of input w x.world reply x.is in
      let over = keeps_called state possible k d d' w x.world keeps certain stay.0 (ap (λ (a : Tier). a.schema) stay.1) x.at in
      let still : x.world.journal.kept ≡ true = ap (λ (j : Journal). j.kept) stay.0 ∙ kept in
      record {
        world = x.world;
        at = x.at;
        reply = reply;
        is = subst (λ (b : List ℕ). Tries (Imports b input) w x.world reply) same x.is;
        slots = in_slots state possible d' k x.world still over;
        leaves = leaves_kept state possible d' k x.world still (leaves_at state possible d' k x.world over);
        puts = puts;
      }

-- only whether it went well counts
pub imported_well : {E T : Type 0} {leaving : World → Type 0} (r : Result (Unit {0}) E) (done : Unit {0}) (word input bytes : List ℕ) (w : World) (sink sink' : Option (List ℕ)) (site : SiteState) → r ≡ Ok done → bytes ≡ input → Imported r word bytes w sink sink' site leaving → Imported {E = T} (Ok tt) word input w sink sink' site leaving
imported_well (Ok d) done word input bytes w sink sink' site is same x =
    record { world = x.world; at = x.at; reply = x.reply; is = subst (λ (b : List ℕ). Tries (Imports word b) w x.world x.reply) same x.is; slots = x.slots; leaves = x.leaves; puts = x.puts }
imported_well (Err e) done word input bytes w sink sink' site is same x = absurd (never is)
  where
    never : Err e ≡ Ok done → ⊥
    never e = cc

pub imported_cut : {E : Type 0} {leaving : World → Type 0} (r : Result (Unit {0}) E) (e : E) (word input bytes : List ℕ) (w : World) (sink sink' : Option (List ℕ)) (site : SiteState) → r ≡ Err e → bytes ≡ input → Imported r word bytes w sink sink' site leaving → Imported {E = Unit {0}} (Err tt) word input w sink sink' site leaving
imported_cut (Ok d) e word input bytes w sink sink' site is same x = absurd (never is)
  where
    never : Ok d ≡ Err e → ⊥
    never e = cc
imported_cut (Err f) e word input bytes w sink sink' site is same x =
    record { world = x.world; at = x.at; reply = x.reply; is = subst (λ (b : List ℕ). Tries (Imports word b) w x.world x.reply) same x.is; slots = x.slots; leaves = x.leaves; puts = x.puts }

-- THE ENGINE

pub import_unopened : (settings : TierSettings) (word : List ℕ) (status : Status) (source : Option (List ℕ)) (before behind : Outside) (why : OpenError) → TellsImport status before.written behind.written why → (moment : ℕ) → IsNext (before.coming 0) moment → FailsAs moment (pace_of settings) before.site behind.site why
    → ((there : Held) → before.certain there → HaveBytes there.slots → EndsEarly settings moment there before.site behind.site behind.left behind.leaves) → ImportRuns settings word status source before source behind
import_unopened settings word status source before behind why tells moment next failed leaves = λ onset input there is_source is_site have sure may.
    inl (record { untaken = is_source; why = why; tells = tells; moment = moment; next = next; failed = failed; leaves = λ certain. leaves there certain have })

pub import_unstarted : {D : Type 0} (state : D → SiteState) (possible : D → ℕ → Held → Type 0) (settings : TierSettings) (word : List ℕ) (source written : Option (List ℕ)) (coming coming' : Coming) (d : D)
    → ImportRuns settings word NoMemory source (seen written coming state possible d) source (seen written coming' state possible d)
import_unstarted state possible settings word source written coming coming' d =
    let next = next_of (coming 0) in
    import_unopened settings word NoMemory source (seen written coming state possible d) (seen written coming' state possible d) open_error.Memory (tells_memory written) next.0 next.1 tt
    (λ there certain have. inl (found_here state possible d (state d).shared there certain have))

pub import_disk : (status : Status) (sink sink' : Option (List ℕ)) (why : OpenError) → TellsImport status sink sink' why → status ≡ DiskFailed → why ≡ open_error.Disk
import_disk status sink sink' open_error.Disk tells is = refl
import_disk status sink sink' open_error.Bank tells is = is_disk status sink sink' open_error.Bank tells is
import_disk status sink sink' (open_error.Damaged slot place) tells is = is_disk status sink sink' (open_error.Damaged slot place) tells is
import_disk status sink sink' (open_error.Differs table key) tells is = is_disk status sink sink' (open_error.Differs table key) tells is
import_disk status sink sink' open_error.Memory tells is = is_disk status sink sink' open_error.Memory tells is

pub import_bank : (status : Status) (sink sink' : Option (List ℕ)) (why : OpenError) → TellsImport status sink sink' why → status ≡ SchemaFailed → why ≡ open_error.Bank
import_bank status sink sink' open_error.Disk tells is = cc
import_bank status sink sink' open_error.Bank tells is = refl
import_bank status sink sink' (open_error.Damaged slot place) tells is = is_bank status sink sink' (open_error.Damaged slot place) tells is
import_bank status sink sink' (open_error.Differs table key) tells is = is_bank status sink sink' (open_error.Differs table key) tells is
import_bank status sink sink' open_error.Memory tells is = is_bank status sink sink' open_error.Memory tells is

pub import_not_source : (status : Status) (sink sink' : Option (List ℕ)) (why : OpenError) → TellsImport status sink sink' why → status ≡ SourceFailed → ⊥
import_not_source status sink sink' open_error.Disk tells is = never (sym tells.0 ∙ is)
  where
    never : DiskFailed ≡ SourceFailed → ⊥
    never e = cc
import_not_source status sink sink' open_error.Bank tells is = not_source status sink sink' open_error.Bank tells is
import_not_source status sink sink' (open_error.Damaged slot place) tells is = not_source status sink sink' (open_error.Damaged slot place) tells is
import_not_source status sink sink' (open_error.Differs table key) tells is = not_source status sink sink' (open_error.Differs table key) tells is
import_not_source status sink sink' open_error.Memory tells is = not_source status sink sink' open_error.Memory tells is

module _ {D : Type 0} (state : D → SiteState) (possible : D → ℕ → Held → Type 0) where
  -- nothing is done
  pub imports_nothing : (d : D) (k : Option TierJournal) (w : World) (written : Option (List ℕ)) (coming : Coming) → IsAt (state d) w → KeepsOver state possible d k w → w.journal.kept ≡ true → (before : Outside) → before.written ≡ written → ImportsNothing w before (seen written coming state possible d)
  imports_nothing d k w written coming at keeps kept before silent =
      record { at = at; slots = in_slots state possible d k w kept keeps; leaves = leaves_kept state possible d k w kept (leaves_at state possible d k w keeps); silent = sym silent }

  pub import_opened : (settings : TierSettings) (pace : Pace) (first : ℕ) (e : Engine) (status : Status) (word : List ℕ) (source source' written : Option (List ℕ)) (bases : Coming) (d m : D) (behind : Outside) → pace_of settings ≡ pace
      → IsNext (bases 0) first → OpensOver state possible first pace d m e → e.doubt ≡ None → (state d).bank_faults ≤ (state m).bank_faults → (state m).shared ≡ (state d).shared
      → ((w : World) (input : List ℕ) → IsAt (state m) w → IsStoredAs e.tier w.tier → KeepsOver state possible m e.journal w → w.journal.kept ≡ true → source ≡ Some input → ImportEnds status word input w (seen written bases state possible d) source' behind)
      → ImportRuns settings word status source (seen written bases state possible d) source' behind
  import_opened settings pace first e status word source source' written bases d m behind ms next opens doubt later shares ends = λ onset input there is_source is_site have sure may.
      let x = opens onset there settings is_site have sure may ms in
      let stands : StandsFor e.tier x.world = subst (λ (o : Option Doubt). IsLeft e.tier o x.world) doubt x.left in
      inr (record {
        first = first;
        next = next;
        world = x.world;
        opens = x.opens;
        starts = x.starts;
        kept = x.kept;
        stands = stands.stands;
        certain = stands.stored.doubt;
        later = let faults = x.at.faults in omega (arith, later, faults);
        shares = x.at.shared ∙ shares;
        ended = ends x.world input x.at stands.stored x.keeps x.kept is_source;
      })
