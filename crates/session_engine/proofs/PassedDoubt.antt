-- A write that was passed on and is in doubt: what is shown where it came, and where it didn't.
use Rattle.std.proofs.Common.{◌≡◌, ◌⊎◌, ◌≤◌, ◌^◌, ◌+◌, ℕ, Bool, true, false, Option, Some, None, Result, Ok, Err, List, [], ◌∷◌, ◌++◌, inl, inr, refl, sym, ap, subst, ◌∙◌, append_assoc, arith, length}
use Rattle.std.proofs.lemmas.List.{append-nil}
use Rattle.tier_base.specs.declared.number.TableId.{TableId}
use Rattle.table_state.specs.declared.history.Entry.{Entry}
use Rattle.table_state.specs.declared.history.Sealed.{Sealed}
use Rattle.table_state.specs.Histories.{entry_of, has_ticket}
use Rattle.outside.specs.Bank.{Grows, TellsRecorded}
use Rattle.outside.specs.Calls as site
use Rattle.outside.specs.Others.{AreOthers, Around}
use Rattle.outside.specs.Passing.{PassesWrite, WritesOwn}
use Rattle.outside.specs.Sites.{SiteState}
use Rattle.outside.specs.declared.fault.BankError.{BankError}
use Rattle.outside.specs.declared.fault.BankError.TheVariants.{Failed}
use Rattle.order_laws.specs.Commits.{KeepsCommitOrder}
use Rattle.order_laws.proofs.TruthLaws.{never_both}
use Rattle.group_catalog.specs.Catalogs.{groups_in}
use Rattle.cache_tier.specs.DoubtSteps.{SettlesDoubt, ops_of, settled, settled_notes, settled_stop, stood}
use Rattle.cache_tier.specs.DueWork.{DueDoubt}
use Rattle.cache_tier.specs.PassedSteps.{with_ticket}
use Rattle.cache_tier.specs.TierStates.{APassedWrite, Doubt as Doubtful, Session, Tier, session_of}
use Rattle.cache_tier.specs.Worlds.{BankCall, World}
use Rattle.cache_tier.specs.declared.reply.Note.{Note}
use Rattle.cache_tier.specs.declared.reply.Reply.{Reply}
use Rattle.cache_tier.specs.Events.{StaysShown, at_history, with_tier}
use Rattle.cache_tier.specs.StandingBetween.{AreReadAt}
use Rattle.stored_tier.specs.declared.tier.Tier.{Tier as Stored}
use Rattle.stored_tier.specs.Performing.{StandsFor}
use Rattle.stored_tier.specs.Sites.{IsAt}
use Rattle.stored_tier.specs.Stored.{HidesRows, IsSound, IsStoredAs, are_later}
use Rattle.stored_tier.proofs.BankLaws.{TellsBehind, behind, behind_at, call_behind, told_behind}
use Rattle.stored_tier.proofs.HiddenRows.{hides_later}
use Rattle.stored_tier.proofs.LongerLaws.{around_longer, passes_longer}
use Rattle.stored_tier.proofs.QuietLaws.{its_session}
use Rattle.stored_tier.proofs.StandingLaws.{last_at_once}
use Rattle.session_engine.specs.Doubting.{IsEnded, IsInDoubt, WriteIsInDoubt}
use Rattle.session_engine.specs.Settling.{end_of, note_of}
use Rattle.session_engine.specs.declared.doubt.Doubt.{Doubt}
use Rattle.session_engine.specs.declared.doubt.Doubted.{Doubted}
use Rattle.session_engine.proofs.AtOnceLaws.{none_came, unused}
use Rattle.session_engine.proofs.DoubtLaws.{AskedOnce, ops_there, stands_with, stands_within, undoubted}
use Rattle.session_engine.proofs.KindLaws.{bare_later}
use Rattle.stored_tier.proofs.OthersLaws.{CameBy, came_by, others_more}
use Rattle.session_engine.proofs.PassedDone.{StandsUnknown, laws, none_met_off, off_ops, passed_came, unknown_stands}
use Rattle.session_engine.proofs.PassedShown.{numbered, passed_tier, passed_to}

-- others come behind a call that failed
abbrev joined : (shared : List TableId) (step : List Entry → List Entry → Type 0) (a b c : List Entry) → Around shared step a b → CameBy shared b c → Around shared step a c
joined shared step a b c first came = record {
  before = first.before;
  middle = first.middle;
  behind = first.behind ++ came.entries;
  came_before = first.came_before;
  own = first.own;
  came_behind = others_more shared first.middle first.behind came.entries first.came_behind (subst (λ h. AreOthers shared h came.entries) first.is came.others);
  is = came.is ∙ ap (λ h. h ++ came.entries) first.is ∙ append_assoc first.middle first.behind came.entries;
}

reads : (ticket : ℕ) (result : Result Bool BankError) (o n : List Entry) → TellsRecorded ticket result o n → Grows [] o n
reads ticket (Ok stands) o n step = step.0
reads ticket (Err e) o n step = step

module _ (t : Stored) (d : Doubt) (w : World) (sound : IsSound t) (x : WriteIsInDoubt t d w) where
  abbrev was : World
  was = x.was

  abbrev s : Session
  s = x.session

  abbrev in_doubt : Doubtful
  in_doubt = record { ticket = was.tier.next; session = s.label; of = APassedWrite }

  abbrev own : Sealed
  own = numbered was.tier.next x.ops

  abbrev Failing : List Entry → List Entry → Type 0
  Failing = PassesWrite was.tier.next x.change x.ops (Err Failed)

  doubt_is : w.tier.doubt ≡ Some in_doubt
  doubt_is = ap (λ (a : Tier). a.doubt) x.tier

  same_ticket : d.ticket ≡ was.tier.next
  same_ticket = sym x.stands.stored.next

  there : session_of was.tier s.label ≡ Some s
  there =
      its_session (record t { next = d.ticket }) was.tier d.session s x.stands.stored
      (record { seen = x.has.seen; found = x.has.found; number = x.has.number; is = x.has.is })

  room : was.tier.next + 1 ≤ 2 ^ 63
  room = let le = x.room in let same = x.stands.stored.next in omega (arith, le, same)

  later : are_later was.tier.groups was.tier.unsettled ≡ true
  later =
      sym (bare_later was.tier.groups was.tier.unsettled) ∙ ap (λ gs. are_later gs was.tier.unsettled) x.stands.stored.groups
      ∙ ap (are_later (groups_in t.catalog)) x.stands.stored.unsettled ∙ sound.later

  next_is : was.tier.next + 1 ≡ t.next
  next_is = ap (λ n. n + 1) x.stands.stored.next ∙ sym x.next

  stored_out : IsStoredAs t (with_ticket was.tier)
  stored_out = record {
    schema = x.stands.stored.schema;
    stale = x.stands.stored.stale;
    groups = x.stands.stored.groups;
    lists = x.stands.stored.lists;
    sessions = x.stands.stored.sessions;
    unsettled = x.stands.stored.unsettled;
    next = next_is;
    doubt = x.stands.stored.doubt;
    time = x.stands.stored.time;
  }

  stored_in : IsStoredAs t (passed_tier was.tier x.ops)
  stored_in = record {
    schema = x.stands.stored.schema;
    stale = x.stands.stored.stale;
    groups = x.stands.stored.groups;
    lists = x.stands.stored.lists;
    sessions = x.stands.stored.sessions;
    unsettled = x.stands.stored.unsettled;
    next = next_is;
    doubt = x.stands.stored.doubt;
    time = x.stands.stored.time;
  }

  -- what came since, with others behind it
  module _ (h : List Entry) (more : CameBy w.shared w.history h) where
    abbrev around : Around was.shared Failing was.history h
    around = joined was.shared Failing was.history w.history h x.call.history (subst (λ tables. CameBy tables w.history h) x.call.shared more)

    hides_in : HidesRows t h
    hides_in = hides_later (record t { next = d.ticket }) was h x.stands (around_longer was Failing h (passes_longer was.tier.next x.change x.ops (Err Failed)) around)

    stands_still_in : StandsUnknown was h
    stands_still_in = unknown_stands was s x.stands.stands x.unshared there room x.change x.off x.ops h around

    -- it didn't come
    module _ (grows : Grows [] (was.history ++ around.before) around.middle) where
      only_others : Around was.shared (Grows []) was.history h
      only_others = record { before = around.before; middle = around.middle; behind = around.behind; came_before = around.came_before; own = grows; came_behind = around.came_behind; is = around.is }

      stays_out : StaysShown was (with_tier (with_ticket was.tier) (at_history h was))
      stays_out = none_came laws was s x.stands.stands x.unshared there room (Grows []) h (λ o n g. g) only_others

      gone_for : (v : World) → StandsFor t (with_tier (with_ticket was.tier) (at_history h v))
      gone_for v = record {
        stored = stored_out;
        shows = x.stands.shows ∙ sym stays_out.same;
        hides = hides_in;
        stands = stands_with (with_ticket was.tier) h was v stays_out.stands;
        waits = x.stands.waits;
      }

    -- a part of it that has the call's own step
    no_ticket : Grows [] (was.history ++ around.before) around.middle → has_ticket was.tier.next h ≡ false
    no_ticket grows =
        let came = came_by was.shared (Grows []) was.history h (λ o n g. g) (only_others grows) in
        ap (has_ticket was.tier.next) came.is ∙ unused laws was s x.stands.stands x.unshared there room came.entries came.others

    -- it came
    module _ (n : ℕ) (writes : WritesOwn was.tier.next x.change x.ops n (was.history ++ around.before) around.middle) where
      long : h ≡ ((was.history ++ around.before) ++ entry_of own ∷ []) ++ around.behind
      long = around.is ∙ ap (λ m. m ++ around.behind) writes.grows

      took : StaysShown was (passed_to was x.ops h)
      took =
          subst (λ l. StaysShown was (passed_to was x.ops l)) (sym around.is)
          (passed_came was x.stands.stands x.unshared room x.change x.off x.ops n around.before around.middle around.behind around.came_before writes around.came_behind)

      has_it : has_ticket was.tier.next h ≡ true
      has_it = ap (has_ticket was.tier.next) long ∙ stands_within (was.history ++ around.before) around.behind own

      stood_is : stood in_doubt h ≡ own
      stood_is =
          let ops = ap (ops_of was.tier.next) long ∙ ops_there (was.history ++ around.before) around.behind own (unused laws was s x.stands.stands x.unshared there room around.before around.came_before) in
          λ i. record { ticket = record { 0 = was.tier.next }; ops = ops i }

      came_for : (v : World) → StandsFor t (with_tier (passed_tier was.tier x.ops) (at_history h v))
      came_for v = record {
        stored = stored_in;
        shows = x.stands.shows ∙ sym took.same;
        hides = hides_in;
        stands = stands_with (passed_tier was.tier x.ops) h was v took.stands;
        waits = last_at_once was.tier.log was.tier.unsettled own
            (none_met_off was.tier.groups x.ops was.tier.unsettled (off_ops was x.stands.stands x.unshared room x.change x.off x.ops n around.before around.middle around.behind around.came_before writes around.came_behind) later)
            x.stands.waits;
      }

  -- the tier of the world, settled

  came_is : (h : List Entry) → stood in_doubt h ≡ own → settled in_doubt h (Ok true) w.tier ≡ passed_tier was.tier x.ops
  came_is h same =
      ap (λ (y : Sealed). record w.tier { log = w.tier.log ++ y ∷ []; doubt = None }) same
      ∙ ap (λ (a : Tier). record a { log = a.log ++ own ∷ []; doubt = None }) x.tier
      ∙ undoubted (passed_tier was.tier x.ops) x.stands.stored.doubt

  gone_is : (h : List Entry) → settled in_doubt h (Ok false) w.tier ≡ with_ticket was.tier
  gone_is h = ap (λ (a : Tier). record a { doubt = None }) x.tier ∙ undoubted (with_ticket was.tier) x.stands.stored.doubt

  module _ (before after : SiteState) (at : IsAt before w) where
    module _ (result : Result Bool BankError) (asked : AskedOnce d.ticket before after result) where
      now : TellsBehind at.there after.held (site.BankCall before.shared (TellsRecorded d.ticket result))
      now = told_behind at.there before.held after.held (site.BankCall before.shared (TellsRecorded d.ticket result)) at.told asked.told

      abbrev tier_then : Tier
      tier_then = settled in_doubt now.there.history result w.tier

      abbrev world_then : World
      world_then = behind w tier_then now.there after

      call : BankCall (TellsRecorded d.ticket result) w world_then
      call = call_behind w tier_then before after now.there (TellsRecorded d.ticket result) at now.is asked.later asked.moment

      at_then : IsAt after world_then
      at_then = behind_at w tier_then before after now.there at now.told asked.shares

      more : CameBy w.shared w.history now.there.history
      more = came_by w.shared (TellsRecorded d.ticket result) w.history now.there.history (reads d.ticket result) call.history

      settles : (notes : List Note) (stop : Option Reply) → notes ≡ settled_notes in_doubt result → stop ≡ settled_stop result → DueDoubt w world_then notes stop
      settles notes stop told ends =
          subst (λ o. SettlesDoubt o w world_then notes stop) (sym doubt_is)
          (record {
            result = result;
            call = subst (λ n. BankCall (TellsRecorded n result) w world_then) same_ticket call;
            tier = refl;
            told = told;
            end = ends;
          })

    by_ticket : (h : List Entry) (b : Bool) → has_ticket was.tier.next h ≡ b → has_ticket d.ticket h ≡ b
    by_ticket h b e = ap (λ n. has_ticket n h) same_ticket ∙ e

    -- an answer, and what stands at the end of the question's own step
    module _ (stands : Bool) (asked : AskedOnce d.ticket before after (Ok stands)) where
      abbrev late : List Entry
      late = (now (Ok stands) asked).there.history

      abbrev mid : List Entry
      mid = (call (Ok stands) asked).history.middle

      tells : stands ≡ has_ticket d.ticket mid
      tells = (call (Ok stands) asked).history.own.1

      up_to : CameBy w.shared w.history mid
      up_to =
          let q = (call (Ok stands) asked).history in
          record { entries = q.before; others = q.came_before; is = q.own.0 ∙ append-nil (w.history ++ q.before) }

    -- it stands there
    came_true : (asked : AskedOnce d.ticket before after (Ok true)) → IsEnded t None after (λ w'. DueDoubt w w' (note_of d true ∷ []) None)
    came_true asked = by (around (late true asked) (more (Ok true) asked)).own
      where
        by : Grows [] (was.history ++ (around (late true asked) (more (Ok true) asked)).before) (around (late true asked) (more (Ok true) asked)).middle
            ⊎ ((n : ℕ) × WritesOwn was.tier.next x.change x.ops n (was.history ++ (around (late true asked) (more (Ok true) asked)).before) (around (late true asked) (more (Ok true) asked)).middle)
            → IsEnded t None after (λ w'. DueDoubt w w' (note_of d true ∷ []) None)
        by (inl grows) =
            let none = no_ticket (mid true asked) (up_to true asked) grows in
            absurd (never_both (has_ticket d.ticket (mid true asked)) (sym (tells true asked)) (by_ticket (mid true asked) false none))
        by (inr came) =
            let same = stood_is (late true asked) (more (Ok true) asked) came.0 came.1 in
            record {
              world = world_then (Ok true) asked;
              at = at_then (Ok true) asked;
              left = subst (λ a. StandsFor t (behind w a (now (Ok true) asked).there after)) (sym (came_is (late true asked) same))
                  (came_for (late true asked) (more (Ok true) asked) came.0 came.1 (behind w w.tier (now (Ok true) asked).there after));
              is = settles (Ok true) asked (note_of d true ∷ []) None (ap (λ n. note_of (record d { ticket = n }) true ∷ []) same_ticket) refl;
            }

    -- it doesn't
    came_false : (asked : AskedOnce d.ticket before after (Ok false)) → IsEnded t None after (λ w'. DueDoubt w w' (note_of d false ∷ []) None)
    came_false asked = by (around (late false asked) (more (Ok false) asked)).own
      where
        by : Grows [] (was.history ++ (around (late false asked) (more (Ok false) asked)).before) (around (late false asked) (more (Ok false) asked)).middle
            ⊎ ((n : ℕ) × WritesOwn was.tier.next x.change x.ops n (was.history ++ (around (late false asked) (more (Ok false) asked)).before) (around (late false asked) (more (Ok false) asked)).middle)
            → IsEnded t None after (λ w'. DueDoubt w w' (note_of d false ∷ []) None)
        by (inr came) =
            let some = has_it (mid false asked) (up_to false asked) came.0 came.1 in
            absurd (never_both (has_ticket d.ticket (mid false asked)) (by_ticket (mid false asked) true some) (sym (tells false asked)))
        by (inl grows) = record {
          world = world_then (Ok false) asked;
          at = at_then (Ok false) asked;
          left = subst (λ a. StandsFor t (behind w a (now (Ok false) asked).there after)) (sym (gone_is (late false asked)))
              (gone_for (late false asked) (more (Ok false) asked) grows (behind w w.tier (now (Ok false) asked).there after));
          is = settles (Ok false) asked (note_of d false ∷ []) None (ap (λ n. note_of (record d { ticket = n }) false ∷ []) same_ticket) refl;
        }

    pub write_settled : (stands : Bool) → AskedOnce d.ticket before after (Ok stands) → IsEnded t None after (λ w'. DueDoubt w w' (note_of d stands ∷ []) None)
    write_settled true asked = came_true asked
    write_settled false asked = came_false asked

    -- nobody knows still
    still_in : (e : BankError) (asked : AskedOnce d.ticket before after (Err e)) → WriteIsInDoubt t d (behind w w.tier (now (Err e) asked).there after)
    still_in e asked = let still = stands_still_in (now (Err e) asked).there.history (more (Err e) asked) in record {
      was = x.was;
      stands = x.stands;
      unshared = x.unshared;
      session = x.session;
      has = x.has;
      next = x.next;
      room = x.room;
      change = x.change;
      off = x.off;
      ops = x.ops;
      call = record {
        history = around (now (Err e) asked).there.history (more (Err e) asked);
        journal = x.call.journal;
        faults = let one = x.call.faults in let two = (call (Err e) asked).faults in omega (arith, one, two);
        disk = x.call.disk;
        moment = let one = x.call.moment in let two = (call (Err e) asked).moment in omega (arith, one, two);
        shared = x.call.shared;
      };
      tier = x.tier;
      legal = subst (λ (a : Tier). KeepsCommitOrder (now (Err e) asked).there.history a.log) (sym x.tier) still.legal;
      read = subst (λ (a : Tier). AreReadAt (length (now (Err e) asked).there.history) a.groups) (sym x.tier) still.read;
    }

    pub write_unsettled : (kind : Doubted) → d.of ≡ kind → ((w' : World) → WriteIsInDoubt t d w' → IsInDoubt kind t d w') → (e : BankError) → AskedOnce d.ticket before after (Err e) → IsEnded t (Some d) after (λ w'. DueDoubt w w' [] (end_of (Err e)))
    write_unsettled kind of so e asked = record {
      world = world_then (Err e) asked;
      at = at_then (Err e) asked;
      left = subst (λ o. IsInDoubt o t d (world_then (Err e) asked)) (sym of) (so (world_then (Err e) asked) (still_in e asked));
      is = settles (Err e) asked [] (end_of (Err e)) refl refl;
    }
