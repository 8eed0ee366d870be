-- The end of the input: what waits in the journal's tail is flushed, and the last replies are written.
use Rattle.std.proofs.Common.{◌≡◌, ℕ, List, [], ◌∷◌, ◌++◌, take, true, Option, Some, None, Result, Ok, Err, inl, inr, refl, sym, ◌∙◌, ap, subst, append-nil}
use Rattle.std.specs.Bool.{MatchBool}
use Rattle.std.specs.Result.{OnOk}
use Rattle.outside.specs.Holding.{Held}
use Rattle.outside.specs.Sites.{SiteState}
use Rattle.table_state.specs.declared.operation.Op.{Op}
use Rattle.cache_tier.specs.Journals.{Journal, JournalEntry, flushed_batch}
use Rattle.cache_tier.specs.JournalSteps.{Flushes, FlushesKept, name_sizes}
use Rattle.cache_tier.specs.Replying.{replies_bytes, reply_bytes}
use Rattle.cache_tier.specs.Rounds.{IsDrained}
use Rattle.cache_tier.specs.Worlds.{Passes, World}
use Rattle.cache_tier.specs.declared.reply.Reply.{Reply}
use Rattle.tier_journal.specs.KeptOver.{IsLeftOver, KeepsOver, is_broken, over_disk}
use Rattle.stored_tier.proofs.OverLaws.{flush_breaks, never_both}
use Rattle.tier_journal.specs.declared.journal.TierJournal.{TierJournal}
use Rattle.cache_engine.specs.Finishing.{IsFinished}
use Rattle.cache_engine.specs.declared.engine.Engine.{Engine}
use Rattle.cache_engine.proofs.EngineLaws.{known_of}
use Rattle.session_cli.specs.declared.answering.Stop.{Stop}
use Rattle.session_cli.specs.declared.answering.Stop.TheVariants as stop
use Rattle.session_cli.specs.Cutting.{all_lines}
use Rattle.session_cli.specs.Outside.{Outside, WasKept, seen}
use Rattle.reply_lines.specs.Output.{Breaks, Splits}
use Rattle.session_cli.specs.Serving.{Answered, Closing, EndBroken, EndsKept, FailsFrom, Finishes, HasFlushed, Origin, PassesReply, StandsHere, TellsFault, WritesLast}
use Rattle.session_cli.specs.Timing.{Coming}
use Rattle.session_cli.proofs.DrainedLaws.{drained_of}
use Rattle.reply_lines.proofs.OutputLaws.{breaks_then, splits_then}
use Rattle.session_cli.proofs.ServingLaws.{replies_push, told_after, told_whole}
use Rattle.session_cli.proofs.RunLaws.{since_map}
use Rattle.session_cli.proofs.SlotLaws.{in_slots}
use Rattle.session_cli.proofs.WayLaws.{leaves_kept, unshared_too}

-- NOTHING WAITS BEHIND A FLUSH

batch_clears : (name : Op → ℕ) (batch : List JournalEntry) (j : Journal) → batch ≡ j.tail ++ [] → ((flushed_batch name batch j).kept ≡ j.kept) × ((flushed_batch name batch j).tail ≡ [])
batch_clears name [] j is = (refl, sym (append-nil j.tail) ∙ sym is)
batch_clears name (e ∷ batch) j is = (refl, refl)

kept_clears : (w w' : World) (stop : Option Reply) → FlushesKept [] w w' stop → (w'.journal.kept ≡ w.journal.kept) × (w'.journal.tail ≡ [])
kept_clears w w' stop x =
    let b = batch_clears (name_sizes w) (w.journal.tail ++ []) w.journal refl in
    (ap (λ (j : Journal). j.kept) x.journal ∙ b.0, ap (λ (j : Journal). j.tail) x.journal ∙ b.1)

flush_ends : (w w' : World) (stop : Option Reply) → w.journal.kept ≡ true → Flushes [] w w' stop → (w'.journal.kept ≡ true) × (w'.journal.tail ≡ [])
flush_ends w w' stop kept flushed =
    let x : FlushesKept [] w w' stop = subst (λ b. MatchBool b (FlushesKept [] w w' stop) (Passes w w' stop)) kept flushed in
    let c = kept_clears w w' stop x in
    (c.0 ∙ kept, c.1)

flush_clears : (w w' : World) → w.journal.kept ≡ true → Flushes [] w w' None → (w'.journal.kept ≡ true) × (w'.journal.tail ≡ [])
flush_clears w w' kept flushed = flush_ends w w' None kept flushed

-- a journal is kept behind a flush that failed, too
flush_keeps : (w w' : World) (reply : Reply) → w.journal.kept ≡ true → Flushes [] w w' (Some reply) → w'.journal.kept ≡ true
flush_keeps w w' reply kept flushed = (flush_ends w w' (Some reply) kept flushed).0

-- that all is drained asks for no journal and no count
drained_over : (w : World) (j : Journal) (faults moment : ℕ) → IsDrained w → IsDrained (over_disk j faults moment w)
drained_over w j faults moment x = record { settled = x.settled; ordered = x.ordered }

module _ {D : Type 0} (state : D → SiteState) (possible : D → ℕ → Held → Type 0) (o : Origin) (given : List ℕ) (written written' : Option (List ℕ)) (coming : Coming) (d d' : D) (engine : Engine) (k' : Option TierJournal) (waiting : List ℕ)
    (c : Closing o (all_lines given) (seen written coming state possible d) engine waiting) where
  abbrev before : Outside
  before = seen written coming state possible d

  -- so it ends from a world
  ends_from : (w : World) → StandsHere before engine w → IsFinished state possible k' d' None w → EndsKept HasFlushed (state d') (KeepsOver state possible d') c.world w
  ends_from w at x =
      let behind = over_disk x.journal x.faults (state d').moment w in
      let clears = flush_clears w behind at.stands.kept x.is in
      record {
        last = behind;
        ended = record { flushed = x.is; kept = clears.0; empty = clears.1 };
        is = record { at = x.at; kept = clears.0; journal = k'; keeps = x.keeps.over refl };
        apart = unshared_too engine.tier engine.doubt c.world w c.stands.left at.stands.left (at.at.shared ∙ sym c.at.shared);
      }

  here : StandsHere before engine c.world
  here = record { at = c.at; stands = c.stands }

  -- the tail is flushed
  flushed_here : ((w : World) → StandsHere before engine w → IsFinished state possible k' d' None w) → Answered HasFlushed o (all_lines given) c.replies (state d') (KeepsOver state possible d') (WasKept state possible)
  flushed_here finishes =
      let known = known_of engine.tier engine.doubt c.world c.stands.left in
      let x = finishes c.world here in
      let behind = over_disk x.journal x.faults (state d').moment c.world in
      let clears = flush_clears c.world behind c.stands.kept x.is in
      record {
        ran = c.world;
        comes = c.comes;
        goes = c.goes;
        since = since_map (StandsHere before engine) (EndsKept HasFlushed (state d') (KeepsOver state possible d') c.world) (λ w at. ends_from w at (finishes w at)) o.world c.comes.given c.replies c.world c.comes.run c.since;
        last = behind;
        ended = record { flushed = x.is; kept = clears.0; empty = clears.1 };
        at = x.at;
        now = record { at = x.at; kept = clears.0; journal = k'; keeps = x.keeps.over refl };
        slots = in_slots state possible d' k' behind clears.0 (x.keeps.over refl);
        legal = known.legal;
        drained = λ none settled. drained_over c.world x.journal x.faults (state d').moment (drained_of c.world (known.stands none) settled);
        read = known.read;
      }

  pub finishes_flushed : (r : Result (Unit {0}) Stop) (waiting' : List ℕ) → (r ≡ Err stop.Disk → ⊥) → ((w : World) → StandsHere before engine w → IsFinished state possible k' d' None w) → PassesReply r written written' waiting waiting' [] → OnOk r (waiting' ≡ [])
      → Finishes r o given (seen written' coming state possible d')
  finishes_flushed (Ok done) waiting' sunk finishes p none = record {
    replies = c.replies;
    answered = flushed_here finishes;
    tells = told_whole o.written written' (replies_bytes c.replies)
        (subst (λ (w : List ℕ). Splits (Some o.written) written' (replies_bytes c.replies) w) none
        (subst (λ (l : List ℕ). Splits (Some o.written) written' l waiting') (append-nil (replies_bytes c.replies)) (splits_then (Some o.written) written written' (replies_bytes c.replies) waiting [] waiting' c.passed p)));
  }
  finishes_flushed (Err stop.Sink) waiting' sunk finishes p none =
      let b : Breaks (Some o.written) written' (replies_bytes c.replies) = subst (λ (l : List ℕ). Breaks (Some o.written) written' l) (append-nil (replies_bytes c.replies)) (breaks_then (Some o.written) written written' (replies_bytes c.replies) waiting [] c.passed p) in
      record {
        replies = c.replies;
        answered = inr (inl (flushed_here finishes));
        count = b.count;
        tells = told_after o.written written' (take b.count (replies_bytes c.replies)) b.written;
      }
  finishes_flushed (Err stop.Disk) waiting' sunk finishes p none = absurd (sunk refl)

  -- it couldn't be flushed from a world
  fails_from : (reply : Reply) (w : World) → StandsHere before engine w → IsFinished state possible k' d' (Some reply) w → FailsFrom (state d') (IsLeftOver state possible d') reply w
  fails_from reply w at x =
      let behind = over_disk x.journal x.faults (state d').moment w in
      record { last = behind; at = x.at; ended = x.is; leaves = leaves_kept state possible d' k' behind (flush_keeps w behind reply at.stands.kept x.is) x.keeps.leaves }

  -- nor from that of the run
  broken_here : (reply : Reply) → ((w : World) → StandsHere before engine w → IsFinished state possible k' d' (Some reply) w) → EndBroken o (all_lines given) (c.replies ++ Some reply ∷ []) (state d') (WasKept state possible) (IsLeftOver state possible d')
  broken_here reply fails =
      let x = fails_from reply c.world here (fails c.world here) in
      record {
        told = c.replies;
        ran = c.world;
        comes = c.comes;
        goes = c.goes;
        last = x.last;
        reply = reply;
        since = since_map (StandsHere before engine) (FailsFrom (state d') (IsLeftOver state possible d') reply) (λ w at. fails_from reply w at (fails w at)) o.world c.comes.given c.replies c.world c.comes.run c.since;
        ended = x.ended;
        broken = flush_breaks [] c.world x.last reply x.ended;
        at = x.at;
        leaves = x.leaves;
        are = refl;
      }

  finishes_broken : (why : Stop) (reply : Reply) → ((w : World) → StandsHere before engine w → IsFinished state possible k' d' (Some reply) w) → WritesLast why written written' waiting (reply_bytes (Some reply)) → Finishes (Err why) o given (seen written' coming state possible d')
  finishes_broken stop.Sink reply x p =
      let b : Breaks (Some o.written) written' (replies_bytes c.replies ++ reply_bytes (Some reply)) = breaks_then (Some o.written) written written' (replies_bytes c.replies) waiting (reply_bytes (Some reply)) c.passed p in
      record {
        replies = c.replies ++ Some reply ∷ [];
        answered = inr (inr (inr (broken_here reply x)));
        count = b.count;
        tells = told_after o.written written' (take b.count (replies_bytes c.replies ++ reply_bytes (Some reply))) b.written ∙ ap (λ l. Some (o.written ++ take b.count l)) (sym (replies_push c.replies (Some reply)));
      }
  finishes_broken stop.Disk reply x p = record {
    replies = c.replies ++ Some reply ∷ [];
    broken = inr (broken_here reply x);
    tells = told_whole o.written written' (replies_bytes c.replies ++ reply_bytes (Some reply)) (splits_then (Some o.written) written written' (replies_bytes c.replies) waiting (reply_bytes (Some reply)) [] c.passed p)
        ∙ ap (λ l. Some (o.written ++ l)) (sym (replies_push c.replies (Some reply)));
  }

  -- the reply that says so is the last one
  pub finishes_passed : (r : Result (Unit {0}) Stop) (reply : Reply) (waiting' : List ℕ) → ((w : World) → StandsHere before engine w → IsFinished state possible k' d' (Some reply) w) → TellsFault r (Some reply) → PassesReply r written written' waiting waiting' (reply_bytes (Some reply))
      → Finishes r o given (seen written' coming state possible d')
  finishes_passed (Ok done) reply waiting' fails whole p =
      let x = fails c.world here in
      absurd (never_both (is_broken (Some reply)) (flush_breaks [] c.world (over_disk x.journal x.faults (state d').moment c.world) reply x.is) whole)
  finishes_passed (Err why) reply waiting' fails told p = finishes_broken why reply fails p
