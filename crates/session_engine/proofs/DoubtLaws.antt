-- A doubt that is settled: what is shown where the transaction came, and where it didn't.
use Rattle.std.proofs.Common.{◌≡◌, ◌⊎◌, ◌≤◌, ◌^◌, ◌+◌, ℕ, Bool, true, false, ◌||◌, nat_eq, cond, Option, Some, None, Result, Ok, Err, List, [], ◌∷◌, ◌++◌, inl, inr, refl, sym, ap, subst, ◌∙◌, append_assoc, arith, length, map}
use Rattle.std.proofs.lemmas.Bool.{eq-eqb}
use Rattle.std.proofs.lemmas.List.{append-nil}
use Rattle.tier_base.specs.declared.number.TableId.{TableId}
use Rattle.table_state.specs.declared.history.Entry.{Entry}
use Rattle.table_state.specs.declared.history.Entry.TheVariants.{Definition, Foreign, Own}
use Rattle.table_state.specs.declared.history.Sealed.{Sealed}
use Rattle.table_state.specs.Histories.{entry_of, has_ticket}
use Rattle.table_state.specs.Operations.{applied_all}
use Rattle.table_state.proofs.HistoryLaws.{has_ticket-append}
use Rattle.outside.specs.Bank.{AppliesOnce, Comes, Grows, TellsRecorded}
use Rattle.outside.specs.Calls as site
use Rattle.outside.specs.Others.{AreOthers, Around}
use Rattle.outside.specs.Sites.{SiteState}
use Rattle.outside.specs.declared.fault.BankError.{BankError}
use Rattle.outside.specs.declared.fault.BankError.TheVariants.{Failed}
use Rattle.order_laws.proofs.TruthLaws.{never_both}
use Rattle.session_state.specs.Sessions.{at_rest as rested}
use Rattle.open_sessions.specs.Lookups.{open_ops}
use Rattle.open_sessions.specs.Opening.{seen_all}
use Rattle.group_catalog.specs.Catalogs.{groups_in}
use Rattle.cache_tier.specs.CommitSteps.{committed, ends, sealed_own}
use Rattle.cache_tier.specs.DoubtSteps.{SettlesDoubt, ops_of, settled, settled_notes, settled_stop, stood}
use Rattle.cache_tier.specs.DueWork.{DueDoubt}
use Rattle.cache_tier.specs.PassedSteps.{with_ticket}
use Rattle.cache_tier.specs.Recency.{with_commit}
use Rattle.cache_tier.specs.Shown.{no_rows, shown_state}
use Rattle.cache_tier.specs.TierStates.{ACommit, Doubt as Doubtful, Session, Tier, at_rest, session_of, with_session}
use Rattle.cache_tier.specs.Worlds.{BankCall, World}
use Rattle.cache_tier.specs.declared.reply.Note.{Note}
use Rattle.cache_tier.specs.declared.reply.Reply.{Reply}
use Rattle.cache_tier.specs.Events.{StaysShown, at_history, with_tier}
use Rattle.outside.specs.Calls.{Lengthens}
use Rattle.cache_tier.specs.StandingBetween.{AreReadAt, Stands}
use Rattle.order_laws.specs.Commits.{KeepsCommitOrder}
use Rattle.stored_tier.specs.declared.tier.Tier.{Tier as Stored}
use Rattle.stored_tier.specs.Lists.{AreListed}
use Rattle.stored_tier.specs.Performing.{StandsFor}
use Rattle.stored_tier.specs.Sites.{IsAt}
use Rattle.stored_tier.specs.Stored.{IsSound, IsStoredAs, KeepsHidden, KeepsTime, are_later, rows_of}
use Rattle.stored_tier.proofs.BankLaws.{behind, behind_at, call_behind, told_behind}
use Rattle.stored_tier.proofs.HiddenRows.{hidden_as, hides_then}
use Rattle.stored_tier.proofs.LongerLaws.{around_longer, once_longer}
use Rattle.stored_tier.proofs.OwnSeen.{NumberLaw, own_found}
use Rattle.stored_tier.proofs.QuietLaws.{its_session}
use Rattle.stored_tier.proofs.SessionLaws.{ChangeLaw, session_changed}
use Rattle.stored_tier.proofs.StandingLaws.{last_at_once}
use Rattle.session_engine.specs.AtOnce.{Finishes}
use Rattle.session_engine.specs.Committing.{StoresCommit}
use Rattle.session_engine.specs.Doubting.{CommitIsInDoubt, IsEnded, IsInDoubt, IsReady}
use Rattle.session_engine.specs.Settling.{Forgets, end_of, note_of}
use Rattle.session_engine.specs.declared.doubt.Doubt.{Doubt}
use Rattle.session_engine.specs.declared.doubt.Doubted.{Doubted}
use Rattle.session_engine.proofs.AtOnceDone.{hidden_finished}
use Rattle.session_engine.proofs.AtOnceLaws.{AreLaws, came_leads, came_stands, came_to, drawn, none_came, stands_last, unused}
use Rattle.session_engine.proofs.CommitLaws.{groups_kept}
use Rattle.session_engine.proofs.CommitPerformed.{own_through, rows_then}
use Rattle.session_engine.proofs.CommittedLists.{lists_committed}
use Rattle.session_engine.proofs.KindLaws.{bare_later, none_met}
use Rattle.session_engine.proofs.LegalLaws.{StandsInDoubt, in_doubt_stands}
use Rattle.stored_tier.proofs.OthersLaws.{CameBy, came_by, others_more}

-- the law of a session's rollback
abbrev pub EndsLaw : Type 0
EndsLaw =
    (w : World) (s : Session) → Stands w → session_of w.tier s.label ≡ Some s
    → StaysShown w (with_tier (ends s w.tier) w)

-- others come behind a call that failed

abbrev FailedStep : Sealed → List Entry → List Entry → Type 0
FailedStep x = AppliesOnce x [] (Err Failed)

abbrev pub joined : (shared : List TableId) (x : Sealed) (a b c : List Entry) → Around shared (FailedStep x) a b → CameBy shared b c → Around shared (FailedStep x) a c
joined shared x a b c first came = record {
  before = first.before;
  middle = first.middle;
  behind = first.behind ++ came.entries;
  came_before = first.came_before;
  own = first.own;
  came_behind = others_more shared first.middle first.behind came.entries first.came_behind (subst (λ h. AreOthers shared h came.entries) first.is came.others);
  is = came.is ∙ ap (λ h. h ++ came.entries) first.is ∙ append_assoc first.middle first.behind came.entries;
}

-- the operations with which the ticket stands there

or_none : (a b : Bool) → (a || b) ≡ false → (a ≡ false) × (b ≡ false)
or_none true b e = cc
or_none false b e = (refl, e)

ops_past : (n : ℕ) (h rest : List Entry) → has_ticket n h ≡ false → ops_of n (h ++ rest) ≡ ops_of n rest
ops_past n [] rest none = refl
ops_past n (Definition def ∷ h) rest none = ops_past n h rest none
ops_past n (Foreign ops ∷ h) rest none = ops_past n h rest none
ops_past n (Own ticket ops ∷ h) rest none =
    let both = or_none (nat_eq ticket.0 n) (has_ticket n h) none in
    ap (λ b. cond b ops (ops_of n (h ++ rest))) both.0 ∙ ops_past n h rest both.1

pub ops_there : (h rest : List Entry) (x : Sealed) → has_ticket x.ticket.0 h ≡ false → ops_of x.ticket.0 ((h ++ entry_of x ∷ []) ++ rest) ≡ x.ops
ops_there h rest x none =
    ap (ops_of x.ticket.0) (append_assoc h (entry_of x ∷ []) rest)
    ∙ ops_past x.ticket.0 h (entry_of x ∷ rest) none
    ∙ ap (λ b. cond b x.ops (ops_of x.ticket.0 rest)) (eq-eqb x.ticket.0 x.ticket.0 refl)

left_true : (a b : Bool) → a ≡ true → (a || b) ≡ true
left_true true b e = refl
left_true false b e = cc

pub stands_within : (h rest : List Entry) (x : Sealed) → has_ticket x.ticket.0 ((h ++ entry_of x ∷ []) ++ rest) ≡ true
stands_within h rest x =
    has_ticket-append x.ticket.0 (h ++ entry_of x ∷ []) rest
    ∙ left_true (has_ticket x.ticket.0 (h ++ entry_of x ∷ [])) (has_ticket x.ticket.0 rest) (stands_last h x)

-- a tier of which nothing is in doubt
pub undoubted : (b : Tier) → b.doubt ≡ None → record b { doubt = None } ≡ b
undoubted b e = λ i. record b { doubt = sym e i }

-- that a tier stands asks for no more than the tier and the history
pub stands_with : (a : Tier) (h : List Entry) (w v : World) → Stands (with_tier a (at_history h w)) → Stands (with_tier a (at_history h v))
stands_with a h w v x = record {
  flow = x.flow;
  schema = record { front = x.schema.front; whole = x.schema.whole };
  catalog = record { each = x.catalog.each; apart = x.catalog.apart };
  keys = x.keys;
  read = x.read;
  sessions = x.sessions;
}

-- what is stored with the ticket drawn
pub stored_drawn : (t : Stored) (d : Doubt) (w : World) → (x : CommitIsInDoubt t d w) → IsStoredAs t (with_ticket x.was.tier)
stored_drawn t d w x = record {
  schema = x.stands.stored.schema;
  stale = x.stands.stored.stale;
  groups = x.stands.stored.groups;
  lists = x.stands.stored.lists;
  sessions = x.stands.stored.sessions;
  unsettled = x.stands.stored.unsettled;
  next = ap (λ n. n + 1) x.stands.stored.next ∙ sym x.next;
  doubt = x.stands.stored.doubt;
  time = x.stands.stored.time;
}

-- what a doubt came of
module _ (laws : AreLaws) (numbers : NumberLaw) (changes : ChangeLaw) (t : Stored) (d : Doubt) (w : World) (sound : IsSound t) (x : CommitIsInDoubt t d w) where
  abbrev pub was : World
  was = x.was

  abbrev pub s : Session
  s = x.session

  abbrev pub own_sealed : Sealed
  own_sealed = sealed_own was.tier s

  own : open_ops d.session (seen_all t.sessions) ≡ s.own
  own = own_found numbers t d.session s sound x.has

  there : session_of was.tier s.label ≡ Some s
  there =
      its_session (record t { next = d.ticket }) was.tier d.session s x.stands.stored
      (record { seen = x.has.seen; found = x.has.found; number = x.has.number; is = x.has.is })

  ticket_is : was.tier.next ≡ d.ticket
  ticket_is = x.stands.stored.next

  room : was.tier.next + 1 ≤ 2 ^ 63
  room = let le = x.room in let same = ticket_is in omega (arith, le, same)

  later : are_later was.tier.groups was.tier.unsettled ≡ true
  later =
      sym (bare_later was.tier.groups was.tier.unsettled) ∙ ap (λ gs. are_later gs was.tier.unsettled) x.stands.stored.groups
      ∙ ap (are_later (groups_in t.catalog)) x.stands.stored.unsettled ∙ sound.later

  stored : IsStoredAs t (with_ticket was.tier)
  stored = stored_drawn t d w x

  took : StaysShown was (with_tier (with_ticket was.tier) was)
  took = drawn laws.skip was x.stands.stands room

  stands_drawn : StandsFor t (with_tier (with_ticket was.tier) was)
  stands_drawn = record {
    stored = stored;
    shows = x.stands.shows ∙ sym took.same;
    hides = x.stands.hides;
    stands = took.stands;
    waits = x.stands.waits;
  }

  hidden_drawn : (new : Stored) → KeepsHidden t new → KeepsHidden (record t { next = d.ticket }) new
  hidden_drawn new keeps = record { groups = keeps.groups; hidden = keeps.hidden }

  abbrev pub in_doubt : Doubtful
  in_doubt = record { ticket = was.tier.next; session = s.label; of = ACommit }

  pub doubt_is : w.tier.doubt ≡ Some in_doubt
  doubt_is = ap (λ (a : Tier). a.doubt) x.tier

  pub shared_is : w.shared ≡ was.shared
  shared_is = x.call.shared

  -- what came since, with others behind it
  module _ (h : List Entry) (more : CameBy w.shared w.history h) where
    abbrev pub around : Around was.shared (FailedStep own_sealed) was.history h
    around = joined was.shared own_sealed was.history w.history h x.call.history (subst (λ tables. CameBy tables w.history h) shared_is more)

    pub longer : Lengthens was.history h
    longer = around_longer was (FailedStep own_sealed) h (once_longer own_sealed [] (Err Failed)) around

    pub stands_still_in : StandsInDoubt was h
    stands_still_in = in_doubt_stands laws was s x.stands.stands x.unshared there room later x.on h around

    -- it didn't come
    module _ (grows : Grows [] (was.history ++ around.before) around.middle) where
      only_others : Around was.shared (Grows []) was.history h
      only_others = record {
        before = around.before;
        middle = around.middle;
        behind = around.behind;
        came_before = around.came_before;
        own = grows;
        came_behind = around.came_behind;
        is = around.is;
      }

      pub stays_out : StaysShown was (with_tier (with_ticket was.tier) (at_history h was))
      stays_out = none_came laws was s x.stands.stands x.unshared there room (Grows []) h (λ o n g. g) only_others

      pub no_ticket : has_ticket was.tier.next h ≡ false
      no_ticket =
          let came = came_by was.shared (Grows []) was.history h (λ o n g. g) only_others in
          ap (has_ticket was.tier.next) came.is ∙ unused laws was s x.stands.stands x.unshared there room came.entries came.others

    -- it came
    module _ (comes : Comes own_sealed [] (was.history ++ around.before) around.middle) where
      abbrev pub front : List Entry
      front = was.history ++ around.before

      pub long : h ≡ (front ++ entry_of own_sealed ∷ []) ++ around.behind
      long = around.is ∙ ap (λ m. m ++ around.behind) comes.grows

      came_behind : AreOthers was.shared (front ++ entry_of own_sealed ∷ []) around.behind
      came_behind = subst (λ m. AreOthers was.shared m around.behind) comes.grows around.came_behind

      pub stands_in : Stands (came_to was s h)
      stands_in =
          subst (λ m. Stands (came_to was s m)) (sym long)
          (came_stands laws was s x.stands.stands x.unshared there room later x.on around.before around.behind around.came_before came_behind)

      pub leads_in : applied_all s.own (shown_state was.history was.tier) ≡ Some (shown_state h (committed own_sealed s.label (with_ticket was.tier)))
      leads_in =
          came_leads laws was s x.stands.stands x.unshared there room later x.on around.before around.behind around.came_before came_behind
          ∙ ap (λ m. Some (shown_state m (committed own_sealed s.label (with_ticket was.tier)))) (sym long)

      pub has_it : has_ticket was.tier.next h ≡ true
      has_it = ap (has_ticket was.tier.next) long ∙ stands_within front around.behind own_sealed

      pub stood_is : stood in_doubt h ≡ own_sealed
      stood_is =
          let ops = ap (ops_of was.tier.next) long ∙ ops_there front around.behind own_sealed comes.can.fresh in
          λ i. record { ticket = record { 0 = was.tier.next }; ops = ops i }

  -- the tier of the world, settled

  came_is : (h : List Entry) → stood in_doubt h ≡ own_sealed → settled in_doubt h (Ok true) w.tier ≡ committed own_sealed s.label (with_ticket was.tier)
  came_is h same =
      ap (λ (y : Sealed). record (committed y s.label w.tier) { doubt = None }) same
      ∙ ap (λ (a : Tier). record (committed own_sealed s.label a) { doubt = None }) x.tier
      ∙ undoubted (committed own_sealed s.label (with_ticket was.tier)) x.stands.stored.doubt

  gone_is : (h : List Entry) → settled in_doubt h (Ok false) w.tier ≡ ends s (with_ticket was.tier)
  gone_is h =
      ap (λ (a : Tier). record (with_session s.label at_rest a) { doubt = None }) x.tier
      ∙ undoubted (ends s (with_ticket was.tier)) x.stands.stored.doubt

  -- the stored tier behind it

  module _ (new : Stored) (h : List Entry) where
    stored_finished : Finishes t new d.session → IsStoredAs new (committed own_sealed s.label (with_ticket was.tier))
    stored_finished fin =
        let rest = session_changed changes t new.sessions (with_ticket was.tier) s d.session rested at_rest (λ y. refl) sound stored x.has fin.seen in
        record {
          schema = stored.schema ∙ ap (λ (z : Stored). z.schema) (sym fin.rest);
          stale = stored.stale ∙ ap (λ (z : Stored). z.stale) (sym fin.rest);
          groups = groups_kept (no_rows (with_ticket was.tier)) s.own was.tier.groups ∙ stored.groups ∙ ap (λ (z : Stored). groups_in z.catalog) (sym fin.rest);
          lists = subst (λ h. AreListed (map (with_commit (no_rows (with_ticket was.tier)) s.own) was.tier.groups) new.stores.items h.items) (sym (ap (λ (z : Stored). z.hidden) fin.rest)) (lists_committed t (with_ticket was.tier) new.stores.items s.own sound stored (record { each = x.stands.stands.catalog.each; apart = x.stands.stands.catalog.apart }) (own_through was s x.stands.stands there) (subst (λ ops. StoresCommit t ops new.stores.items) own fin.stores));
          sessions = rest.sessions;
          unsettled = stored.unsettled ∙ ap (λ (z : Stored). z.unsettled.items) (sym fin.rest);
          next = stored.next ∙ ap (λ (z : Stored). z.next) (sym fin.rest);
          doubt = stored.doubt;
          time = subst (λ (z : Stored). KeepsTime z.clock was.tier.now was.tier.added was.tier.round was.tier.sets was.tier.settings) (sym fin.rest) stored.time;
        }

    stored_forgot : Forgets t new d.session → IsStoredAs new (ends s (with_ticket was.tier))
    stored_forgot f =
        subst (λ z. IsStoredAs z (ends s (with_ticket was.tier))) (sym f.rest)
        (session_changed changes t new.sessions (with_ticket was.tier) s d.session rested at_rest (λ y. refl) sound stored x.has f.seen)

    -- it came
    pub came_for : (more : CameBy w.shared w.history h) (comes : Comes own_sealed [] (was.history ++ (around h more).before) (around h more).middle) → Finishes t new d.session
        → (v : World) → StandsFor new (with_tier (committed own_sealed s.label (with_ticket was.tier)) (at_history h v))
    came_for more comes fin v = record {
      stored = stored_finished fin;
      shows = rows_then laws.commit numbers t new (with_tier (with_ticket was.tier) was) d.session s sound stands_drawn x.has (shown_state h (committed own_sealed s.label (with_ticket was.tier)))
          (ap (λ (z : Stored). z.schema) fin.rest) fin.stores (ap (applied_all s.own) took.same ∙ leads_in h more comes);
      hides = hides_then (record t { next = d.ticket }) new was h (hidden_drawn new (hidden_finished t new d.session fin)) x.stands (longer h more);
      stands = stands_with (committed own_sealed s.label (with_ticket was.tier)) h was v (stands_in h more comes);
      waits = last_at_once was.tier.log was.tier.unsettled own_sealed (none_met was.tier.groups s.own was.tier.unsettled x.stands.stands.catalog.apart x.on later) x.stands.waits;
    }

    -- it didn't
    pub gone_for : EndsLaw → (more : CameBy w.shared w.history h) → Grows [] (was.history ++ (around h more).before) (around h more).middle → Forgets t new d.session
        → (v : World) → StandsFor new (with_tier (ends s (with_ticket was.tier)) (at_history h v))
    gone_for law more grows f v =
        let out = stays_out h more grows in
        let rest = law (with_tier (with_ticket was.tier) (at_history h was)) s out.stands there in
        record {
          stored = stored_forgot f;
          shows = ap (λ (z : Stored). rows_of z) f.rest ∙ x.stands.shows ∙ sym (rest.same ∙ out.same);
          hides = hides_then (record t { next = d.ticket }) new was h (hidden_drawn new (hidden_as t (record t { sessions = new.sessions }) new f.rest (record { groups = refl; hidden = refl }))) x.stands (longer h more);
          stands = stands_with (ends s (with_ticket was.tier)) h was v rest.stands;
          waits = x.stands.waits;
        }

-- the call of the bank, as it is told

pub record AskedOnce (ticket : ℕ) (before after : SiteState) (result : Result Bool BankError) : Type 0 where
  pub told : site.Told before.held after.held (site.BankCall before.shared (TellsRecorded ticket result))
  pub later : before.bank_faults ≤ after.bank_faults
  pub moment : before.moment ≤ after.moment
  pub shares : after.shared ≡ before.shared

reads : (ticket : ℕ) (result : Result Bool BankError) (o n : List Entry) → TellsRecorded ticket result o n → Grows [] o n
reads ticket (Ok stands) o n step = step.0
reads ticket (Err e) o n step = step

module _ (laws : AreLaws) (numbers : NumberLaw) (changes : ChangeLaw) (law : EndsLaw) (t : Stored) (d : Doubt) (w : World) (sound : IsSound t) (x : CommitIsInDoubt t d w) (before after : SiteState) (at : IsAt before w) where
  abbrev doubtful : Doubtful
  doubtful = in_doubt laws numbers changes t d w sound x

  same_ticket : d.ticket ≡ doubtful.ticket
  same_ticket = sym (ticket_is laws numbers changes t d w sound x)

  module _ (result : Result Bool BankError) (asked : AskedOnce d.ticket before after result) where
    now : Rattle.stored_tier.proofs.BankLaws.TellsBehind at.there after.held (site.BankCall before.shared (TellsRecorded d.ticket result))
    now = told_behind at.there before.held after.held (site.BankCall before.shared (TellsRecorded d.ticket result)) at.told asked.told

    abbrev tier_then : Tier
    tier_then = settled doubtful now.there.history result w.tier

    abbrev world_then : World
    world_then = behind w tier_then now.there after

    call : BankCall (TellsRecorded d.ticket result) w world_then
    call = call_behind w tier_then before after now.there (TellsRecorded d.ticket result) at now.is asked.later asked.moment

    at_then : IsAt after world_then
    at_then = behind_at w tier_then before after now.there at now.told asked.shares

    more : CameBy w.shared w.history now.there.history
    more = came_by w.shared (TellsRecorded d.ticket result) w.history now.there.history (reads d.ticket result) call.history

    settles : (notes : List Note) (stop : Option Reply) → notes ≡ settled_notes doubtful result → stop ≡ settled_stop result → DueDoubt w world_then notes stop
    settles notes stop told ends =
        subst (λ o. SettlesDoubt o w world_then notes stop) (sym (doubt_is laws numbers changes t d w sound x))
        (record {
          result = result;
          call = subst (λ n. BankCall (TellsRecorded n result) w world_then) same_ticket call;
          tier = refl;
          told = told;
          end = ends;
        })

  by_ticket : (h : List Entry) (b : Bool) → has_ticket x.was.tier.next h ≡ b → has_ticket d.ticket h ≡ b
  by_ticket h b e = ap (λ n. has_ticket n h) same_ticket ∙ e

  -- an answer, and what stands at the end of the question's own step
  module _ (stands : Bool) (asked : AskedOnce d.ticket before after (Ok stands)) where
    abbrev late : List Entry
    late = (now (Ok stands) asked).there.history

    abbrev mid : List Entry
    mid = (call (Ok stands) asked).history.middle

    tells : stands ≡ has_ticket d.ticket mid
    tells = (call (Ok stands) asked).history.own.1

    up_to : CameBy w.shared w.history mid
    up_to =
        let q = (call (Ok stands) asked).history in
        record { entries = q.before; others = q.came_before; is = q.own.0 ∙ append-nil (w.history ++ q.before) }

    abbrev whole : Around x.was.shared (FailedStep (sealed_own x.was.tier x.session)) x.was.history late
    whole = around laws numbers changes t d w sound x late (more (Ok stands) asked)

  abbrev Out : (stands : Bool) → AskedOnce d.ticket before after (Ok stands) → Type 0
  Out stands asked = Grows [] (x.was.history ++ (whole stands asked).before) (whole stands asked).middle

  abbrev In : (stands : Bool) → AskedOnce d.ticket before after (Ok stands) → Type 0
  In stands asked = Comes (sealed_own x.was.tier x.session) [] (x.was.history ++ (whole stands asked).before) (whole stands asked).middle

  -- it stands there
  came_true : (new : Stored) (asked : AskedOnce d.ticket before after (Ok true)) → Finishes t new d.session → Out true asked ⊎ In true asked → IsEnded new None after (λ w'. DueDoubt w w' (note_of d true ∷ []) None)
  came_true new asked fin (inl grows) =
      let none = no_ticket laws numbers changes t d w sound x (mid true asked) (up_to true asked) grows in
      absurd (never_both (has_ticket d.ticket (mid true asked)) (sym (tells true asked)) (by_ticket (mid true asked) false none))
  came_true new asked fin (inr comes) =
      let same = stood_is laws numbers changes t d w sound x (late true asked) (more (Ok true) asked) comes in
      record {
        world = world_then (Ok true) asked;
        at = at_then (Ok true) asked;
        left = subst (λ a. StandsFor new (behind w a (now (Ok true) asked).there after)) (sym (came_is laws numbers changes t d w sound x (late true asked) same))
            (came_for laws numbers changes t d w sound x new (late true asked) (more (Ok true) asked) comes fin (behind w w.tier (now (Ok true) asked).there after));
        is = settles (Ok true) asked (note_of d true ∷ []) None (ap (λ n. note_of (record d { ticket = n }) true ∷ []) same_ticket) refl;
      }

  pub settled_true : (new : Stored) (asked : AskedOnce d.ticket before after (Ok true)) → Finishes t new d.session → IsEnded new None after (λ w'. DueDoubt w w' (note_of d true ∷ []) None)
  settled_true new asked fin = came_true new asked fin (whole true asked).own

  -- it doesn't
  came_false : (new : Stored) (asked : AskedOnce d.ticket before after (Ok false)) → Forgets t new d.session → Out false asked ⊎ In false asked → IsEnded new None after (λ w'. DueDoubt w w' (note_of d false ∷ []) None)
  came_false new asked f (inr comes) =
      let some = has_it laws numbers changes t d w sound x (mid false asked) (up_to false asked) comes in
      absurd (never_both (has_ticket d.ticket (mid false asked)) (by_ticket (mid false asked) true some) (sym (tells false asked)))
  came_false new asked f (inl grows) = record {
    world = world_then (Ok false) asked;
    at = at_then (Ok false) asked;
    left = subst (λ a. StandsFor new (behind w a (now (Ok false) asked).there after)) (sym (gone_is laws numbers changes t d w sound x (late false asked)))
        (gone_for laws numbers changes t d w sound x new (late false asked) law (more (Ok false) asked) grows f (behind w w.tier (now (Ok false) asked).there after));
    is = settles (Ok false) asked (note_of d false ∷ []) None (ap (λ n. note_of (record d { ticket = n }) false ∷ []) same_ticket) refl;
  }

  pub settled_false : (new : Stored) (asked : AskedOnce d.ticket before after (Ok false)) → Forgets t new d.session → IsEnded new None after (λ w'. DueDoubt w w' (note_of d false ∷ []) None)
  settled_false new asked f = came_false new asked f (whole false asked).own

  -- nobody knows still
  pub unsettled : (kind : Doubted) → d.of ≡ kind → ((w' : World) → CommitIsInDoubt t d w' → IsInDoubt kind t d w') → (e : BankError) → AskedOnce d.ticket before after (Err e) → IsEnded t (Some d) after (λ w'. DueDoubt w w' [] (end_of (Err e)))
  unsettled kind of so e asked = let still = stands_still_in laws numbers changes t d w sound x (now (Err e) asked).there.history (more (Err e) asked) in record {
    world = world_then (Err e) asked;
    at = at_then (Err e) asked;
    left = subst (λ o. IsInDoubt o t d (world_then (Err e) asked)) (sym of) (so (world_then (Err e) asked) (record {
      was = x.was;
      stands = x.stands;
      unshared = x.unshared;
      session = x.session;
      has = x.has;
      on = x.on;
      next = x.next;
      room = x.room;
      call = record {
        history = around laws numbers changes t d w sound x (now (Err e) asked).there.history (more (Err e) asked);
        journal = x.call.journal;
        faults = let one = x.call.faults in let two = (call (Err e) asked).faults in omega (arith, one, two);
        disk = x.call.disk;
        moment = let one = x.call.moment in let two = (call (Err e) asked).moment in omega (arith, one, two);
        shared = x.call.shared;
      };
      tier = x.tier;
      legal = subst (λ (a : Tier). KeepsCommitOrder (now (Err e) asked).there.history a.log) (sym x.tier) still.legal;
      read = subst (λ (a : Tier). AreReadAt (length (now (Err e) asked).there.history) a.groups) (sym x.tier) still.read;
    }));
    is = settles (Err e) asked [] (end_of (Err e)) refl refl;
  }

pub ready_none : (t : Stored) (doubt : Option Doubt) → doubt ≡ None → IsReady t doubt
ready_none t doubt none = subst (IsReady t) (sym none) tt
