-- A write that is passed on by the stored tier: what the bank's answer makes of the tier.
use Rattle.std.proofs.Common.{◌≡◌, ◌⊎◌, ◌≤◌, ◌^◌, ◌+◌, ℕ, Bool, true, false, not, ◌&&◌, ◌||◌, nat_eq, Option, Some, None, Result, Ok, Err, List, [], ◌∷◌, ◌++◌, length, inl, inr, refl, sym, ap, subst, ◌∙◌, arith, eqb-true}
use Rattle.std.specs.List.{list_any}
use Rattle.tier_base.specs.Limits.{greatest}
use Rattle.tier_base.specs.declared.limit.Limit.TheVariants.{Operations}
use Rattle.tier_base.specs.declared.number.SessionId.{SessionId}
use Rattle.tier_base.specs.declared.number.TableId.{TableId}
use Rattle.table_state.specs.declared.history.Entry.{Entry}
use Rattle.table_state.specs.declared.history.Sealed.{Sealed}
use Rattle.table_state.specs.declared.operation.Op.{Op}
use Rattle.table_state.specs.Copies.{is_one_of}
use Rattle.table_state.specs.Histories.{entry_of}
use Rattle.table_state.specs.Operations.{table_of}
use Rattle.evaluator.specs.declared.change.Change.{Change}
use Rattle.transactions.specs.Transactions.{Done}
use Rattle.resolution.specs.Writes.{PlacedChange, change_seen}
use Rattle.outside.specs.Bank.{Grows}
use Rattle.outside.specs.Calls as site
use Rattle.outside.specs.Console.{IsDone}
use Rattle.outside.specs.Others.{AreOthers, Around}
use Rattle.outside.specs.Passing.{CommitsAlone, PassesWrite, WritesOwn}
use Rattle.outside.specs.Sites.{SiteState}
use Rattle.outside.specs.declared.fault.BankError.{BankError}
use Rattle.outside.specs.declared.fault.BankError.TheVariants.{Failed, Memory}
use Rattle.outside.specs.declared.site.Done.{Done as Wrote}
use Rattle.outside.specs.declared.site.Done.TheVariants.{Rows, Broken}
use Rattle.order_laws.specs.Commits.{KeepsCommitOrder}
use Rattle.order_laws.specs.Sides.{are_off}
use Rattle.order_laws.proofs.AgreeLaws.{all_closed}
use Rattle.order_laws.proofs.FlowLaws.{flow_skips}
use Rattle.order_laws.proofs.TruthLaws.{both_true, never_both, untrue}
use Rattle.group_catalog.specs.Catalogs.{groups_in}
use Rattle.cache_tier.specs.Groups.{Group, covers, is_asynchronous, is_synchronous, is_table_of, is_writethrough}
use Rattle.cache_tier.specs.PassedSteps.{WritesPassed, after_passed, passed_reply, with_ticket}
use Rattle.cache_tier.specs.Routes.{is_written_through}
use Rattle.cache_tier.specs.StandingBetween.{AreReadAt, Stands, live_groups_of}
use Rattle.cache_tier.specs.TierStates.{Session, Tier, session_of}
use Rattle.cache_tier.specs.Worlds.{BankCall, IsUnshared, Part, World}
use Rattle.cache_tier.specs.declared.reply.Reply.{Reply}
use Rattle.cache_tier.specs.Events.{StaysShown, at_history, with_tier}
use Rattle.cache_tier.proofs.CommitLaws.{session_commits}
use Rattle.cache_tier.proofs.GroupTables.{live_table}
use Rattle.cache_tier.proofs.HistoryKeeps.{others_go_on, round_goes_on}
use Rattle.cache_tier.proofs.ShownTables.{live_of}
use Rattle.stored_tier.specs.declared.tier.Tier.{Tier as Stored}
use Rattle.stored_tier.specs.Performing.{StandsFor, is_written, meets}
use Rattle.stored_tier.specs.Sites.{IsAt}
use Rattle.stored_tier.specs.Stored.{HasSession, HidesRows, IsSound, IsStoredAs, KeepsHidden, are_later, are_on, rows_of}
use Rattle.stored_tier.proofs.BankLaws.{TellsBehind, behind, behind_at, call_behind, told_behind}
use Rattle.stored_tier.proofs.HiddenRows.{hidden_as, hides_then}
use Rattle.stored_tier.proofs.LongerLaws.{alone_longer, around_longer}
use Rattle.stored_tier.proofs.QuietLaws.{its_session, stands_still}
use Rattle.stored_tier.proofs.StandingLaws.{last_at_once, performed_behind}
use Rattle.session_engine.specs.Doubting.{IsEnded}
use Rattle.session_engine.specs.Passing.{doubt_of}
use Rattle.session_engine.specs.declared.doubt.Doubt.{Doubt}
use Rattle.session_engine.specs.declared.doubt.Doubted.TheVariants.{PassedWrite}
use Rattle.session_engine.proofs.AtOnceDone.{ended_none}
use Rattle.session_engine.proofs.AtOnceLaws.{AreLaws, none_came}
use Rattle.session_engine.proofs.KindLaws.{bare_later}
use Rattle.session_engine.proofs.LegalLaws.{legal_but_last, legal_of}
use Rattle.session_engine.proofs.OffLaws.{written_off}
use Rattle.session_engine.proofs.PassedShown.{numbered, passed_comes, passed_tier, passed_to}

pub laws : AreLaws
laws = record { commit = session_commits; others = others_go_on; round = round_goes_on; skip = flow_skips }

-- operations on no live table meet none of an unsettled transaction

asynchronous_live : (groups : List Group) (t : TableId) → is_table_of is_asynchronous groups t ≡ true → is_table_of is_writethrough groups t ≡ true
asynchronous_live [] t e = e
asynchronous_live (g ∷ groups) t e = by (is_writethrough g) (is_synchronous g) (covers t g) e (asynchronous_live groups t)
  where
    by : (a s c : Bool) → (((a && not s) && c) || is_table_of is_asynchronous groups t) ≡ true → (is_table_of is_asynchronous groups t ≡ true → is_table_of is_writethrough groups t ≡ true) → ((a && c) || is_table_of is_writethrough groups t) ≡ true
    by true s true e rest = refl
    by true true false e rest = rest e
    by true false false e rest = rest e
    by false s c e rest = rest e

apart_from : (groups : List Group) (t u : TableId) → is_table_of is_writethrough groups t ≡ false → is_table_of is_asynchronous groups u ≡ true → nat_eq t.0 u.0 ≡ false
apart_from groups t u off on = by (nat_eq t.0 u.0) refl
  where
    by : (b : Bool) → nat_eq t.0 u.0 ≡ b → nat_eq t.0 u.0 ≡ false
    by false e = e
    by true e =
        let same : is_table_of is_writethrough groups t ≡ is_table_of is_writethrough groups u = ap (λ n. is_table_of is_writethrough groups (record { 0 = n })) (eqb-true t.0 u.0 e) in
        absurd (never_both (is_table_of is_writethrough groups t) (same ∙ asynchronous_live groups u on) off)

not_written : (groups : List Group) (t : TableId) (ops : List Op) → is_table_of is_writethrough groups t ≡ false → are_on is_asynchronous groups ops ≡ true → is_written ops t ≡ false
not_written groups t [] off on = refl
not_written groups t (op ∷ ops) off on =
    let both = both_true (is_table_of is_asynchronous groups (table_of op)) (are_on is_asynchronous groups ops) on in
    let here = apart_from groups t (table_of op) off both.0 in
    let rest = not_written groups t ops off both.1 in
    λ i. here i || rest i

not_met : (groups : List Group) (xs ops : List Op) → are_off (Rattle.order_laws.specs.Standing.live_tables (live_groups_of groups)) xs ≡ true → are_on is_asynchronous groups ops ≡ true → meets xs ops ≡ false
not_met groups [] ops off on = refl
not_met groups (x ∷ xs) ops off on =
    let live = Rattle.order_laws.specs.Standing.live_tables (live_groups_of groups) in
    let both = both_true (not (is_one_of live (table_of x))) (are_off live xs) off in
    let here = not_written groups (table_of x) ops (sym (live_table groups (table_of x)) ∙ untrue (is_one_of live (table_of x)) both.0) on in
    let rest = not_met groups xs ops both.1 on in
    λ i. here i || rest i

pub none_met_off : (groups : List Group) (xs : List Op) (us : List Sealed) → are_off (Rattle.order_laws.specs.Standing.live_tables (live_groups_of groups)) xs ≡ true → are_later groups us ≡ true → list_any (λ u. meets xs u.ops) us ≡ false
none_met_off groups xs [] off later = refl
none_met_off groups xs (u ∷ us) off later =
    let both = both_true (are_on is_asynchronous groups u.ops) (are_later groups us) later in
    let here = not_met groups xs u.ops off both.0 in
    let rest = none_met_off groups xs us off both.1 in
    λ i. here i || rest i

-- the write in the worlds

-- what came by the bank's own step, with others before and behind it
module _ (w : World) (stands : Stands w) (unshared : IsUnshared w) (room : w.tier.next + 1 ≤ 2 ^ 63) (change : Change) (off : is_written_through w.tier change.table ≡ false) (ops : List Op) (n : ℕ) (before middle behind_it : List Entry)
    (came_before : AreOthers w.shared w.history before) (own : WritesOwn w.tier.next change ops n (w.history ++ before) middle) (came_behind : AreOthers w.shared middle behind_it) where
  one : StaysShown w (at_history (w.history ++ before) w)
  one = others_go_on w before stands unshared came_before

  done : IsDone (change ∷ []) ops n one.stands.flow.stand.over.backing
  done = own.done one.stands.flow.stand.over.backing one.stands.flow.stand.over.leaves

  pub off_ops : are_off (live_of w.tier) ops ≡ true
  off_ops =
      let over = one.stands.flow.stand.over in
      let what : Done = record { written = record { ops = ops; rows = n }; state = done.left } in
      written_off (live_of w.tier) (change ∷ []) (greatest Operations) over.backing what
      (all_closed (live_groups_of w.tier.groups) (w.history ++ before) w.tier.log over.backing.schema w.tier.next over.ordered)
      (live_table w.tier.groups change.table ∙ off, tt) done.written

  two : StaysShown (at_history (w.history ++ before) w) (passed_to w ops ((w.history ++ before) ++ entry_of (numbered w.tier.next ops) ∷ []))
  two = passed_comes (at_history (w.history ++ before) w) one.stands ops one.stands.flow.stand.over.backing done.left one.stands.flow.stand.over.leaves off_ops done.applies room

  three : StaysShown (passed_to w ops ((w.history ++ before) ++ entry_of (numbered w.tier.next ops) ∷ [])) (passed_to w ops (((w.history ++ before) ++ entry_of (numbered w.tier.next ops) ∷ []) ++ behind_it))
  three =
      others_go_on (passed_to w ops ((w.history ++ before) ++ entry_of (numbered w.tier.next ops) ∷ [])) behind_it two.stands unshared
      (subst (λ h. AreOthers w.shared h behind_it) own.grows came_behind)

  pub passed_came : StaysShown w (passed_to w ops (middle ++ behind_it))
  passed_came =
      subst (λ h. StaysShown w (passed_to w ops (h ++ behind_it))) (sym own.grows)
      (record { stands = three.stands; same = three.same ∙ two.same ∙ one.same })

-- the call, as it is told
pub record PassedAt (ticket : ℕ) (change : Change) (before after : SiteState) (result : Result Wrote BankError) : Type 0 where
  pub told : site.Told before.held after.held (site.BankCall before.shared (CommitsAlone ticket change result))
  pub later : before.bank_faults ≤ after.bank_faults
  pub moment : before.moment ≤ after.moment
  pub shares : after.shared ≡ before.shared

-- with the operations that it had
alone : (shared : List TableId) (ticket : ℕ) (change : Change) (result : Result Wrote BankError) (old new : List Entry) → (a : Around shared (CommitsAlone ticket change result) old new) → Around shared (PassesWrite ticket change a.own.ops result) old new
alone shared ticket change result old new a = record {
  before = a.before;
  middle = a.middle;
  behind = a.behind;
  came_before = a.came_before;
  own = a.own.passes;
  came_behind = a.came_behind;
  is = a.is;
}

-- the part of the line, once the ticket is drawn
abbrev pub PassesDrawn : PlacedChange → Session → Part
PassesDrawn placed s w w' reply = WritesPassed s w.tier.next placed (with_tier (with_ticket w.tier) w) w' reply

-- what nobody knows of a call that failed
pub record StandsUnknown (w : World) (h : List Entry) : Type 0 where
  pub legal : KeepsCommitOrder h w.tier.log
  pub read : AreReadAt (length h) w.tier.groups

pub unknown_stands : (w : World) (s : Session) (stands : Stands w) → IsUnshared w → session_of w.tier s.label ≡ Some s → w.tier.next + 1 ≤ 2 ^ 63 → (change : Change) → is_written_through w.tier change.table ≡ false → (ops : List Op) (h : List Entry)
    → Around w.shared (PassesWrite w.tier.next change ops (Err Failed)) w.history h → StandsUnknown w h
unknown_stands w s stands unshared there room change off ops h a = by a.own
  where
    by : Grows [] (w.history ++ a.before) a.middle ⊎ ((n : ℕ) × WritesOwn w.tier.next change ops n (w.history ++ a.before) a.middle) → StandsUnknown w h
    by (inl grows) =
        let others : Around w.shared (Grows []) w.history h = record { before = a.before; middle = a.middle; behind = a.behind; came_before = a.came_before; own = grows; came_behind = a.came_behind; is = a.is } in
        let out = none_came laws w s stands unshared there room (Grows []) h (λ o n g. g) others in
        record { legal = legal_of (with_tier (with_ticket w.tier) (at_history h w)) out.stands; read = out.stands.read }
    by (inr came) =
        let it = subst (λ l. StaysShown w (passed_to w ops l)) (sym a.is) (passed_came w stands unshared room change off ops came.0 a.before a.middle a.behind a.came_before came.1 a.came_behind) in
        record { legal = legal_but_last h w.tier.log (numbered w.tier.next ops) (legal_of (passed_to w ops h) it.stands); read = it.stands.read }

-- the stored tier whose ticket is drawn
module _ (t mid : Stored) (drawn : mid ≡ record t { next = t.next + 1 }) where
  pub stored_mid : (a : Tier) → IsStoredAs t a → IsStoredAs mid (with_ticket a)
  stored_mid a is = subst (λ z. IsStoredAs z (with_ticket a)) (sym drawn) (record {
    schema = is.schema;
    stale = is.stale;
    groups = is.groups;
    lists = is.lists;
    sessions = is.sessions;
    unsettled = is.unsettled;
    next = ap (λ n. n + 1) is.next;
    doubt = is.doubt;
    time = is.time;
  })

  stored_told : (a : Tier) (ops : List Op) → IsStoredAs t a → IsStoredAs mid (passed_tier a ops)
  stored_told a ops is = subst (λ z. IsStoredAs z (passed_tier a ops)) (sym drawn) (record {
    schema = is.schema;
    stale = is.stale;
    groups = is.groups;
    lists = is.lists;
    sessions = is.sessions;
    unsettled = is.unsettled;
    next = ap (λ n. n + 1) is.next;
    doubt = is.doubt;
    time = is.time;
  })

  -- as if it weren't
  stored_before : (a : Tier) → IsStoredAs t a → IsStoredAs (record mid { next = t.next }) a
  stored_before a is = subst (λ (z : Stored). IsStoredAs (record z { next = t.next }) a) (sym drawn) (record {
    schema = is.schema;
    stale = is.stale;
    groups = is.groups;
    lists = is.lists;
    sessions = is.sessions;
    unsettled = is.unsettled;
    next = is.next;
    doubt = is.doubt;
    time = is.time;
  })

  rows_mid : rows_of mid ≡ rows_of t
  rows_mid = ap (λ (z : Stored). rows_of z) drawn

  hidden_mid : KeepsHidden t mid
  hidden_mid = hidden_as t (record t { next = t.next + 1 }) mid drawn (record { groups = refl; hidden = refl })

  has_mid : (id : SessionId) (s : Session) → HasSession t id s → HasSession mid id s
  has_mid id s has = subst (λ (z : Stored). HasSession z id s) (sym drawn) (record { seen = has.seen; found = has.found; number = has.number; is = has.is })

module _ (t mid : Stored) (id : SessionId) (drawn : mid ≡ record t { next = t.next + 1 }) (left : t.next ≤ 9223372036854775807) (sound : IsSound t) (change : Change)
    (w : World) (s : Session) (is : StandsFor t w) (unshared : IsUnshared w) (has : HasSession t id s) (off : is_written_through w.tier change.table ≡ false) where
  there : session_of w.tier s.label ≡ Some s
  there = its_session t w.tier id s is.stored has

  room : w.tier.next + 1 ≤ 2 ^ 63
  room = let same = is.stored.next in omega (arith, left, same)

  later : are_later w.tier.groups w.tier.unsettled ≡ true
  later =
      sym (bare_later w.tier.groups w.tier.unsettled) ∙ ap (λ gs. are_later gs w.tier.unsettled) is.stored.groups
      ∙ ap (are_later (groups_in t.catalog)) is.stored.unsettled ∙ sound.later

  module _ (before after : SiteState) (at : IsAt before w) (result : Result Wrote BankError) (called : PassedAt w.tier.next change before after result) where
    now : TellsBehind at.there after.held (site.BankCall before.shared (CommitsAlone w.tier.next change result))
    now = told_behind at.there before.held after.held (site.BankCall before.shared (CommitsAlone w.tier.next change result)) at.told called.told

    call : (a : Tier) → BankCall (CommitsAlone w.tier.next change result) w (behind w a now.there after)
    call a = call_behind w a before after now.there (CommitsAlone w.tier.next change result) at now.is called.later called.moment

    around : Around w.shared (CommitsAlone w.tier.next change result) w.history now.there.history
    around = (call w.tier).history

    abbrev ops_now : List Op
    ops_now = around.own.ops

    own_call : (a : Tier) → BankCall (PassesWrite w.tier.next change around.own.ops result) w (behind w a now.there after)
    own_call a = record {
      history = alone w.shared w.tier.next change result w.history now.there.history around;
      journal = refl;
      faults = (call a).faults;
      disk = refl;
      moment = (call a).moment;
      shared = refl;
    }

    executes : (reply : Reply) → reply ≡ passed_reply result → PassesDrawn (change_seen change) s w (behind w (after_passed s w.tier.next around.own.ops result (with_ticket w.tier)) now.there after) reply
    executes reply answer =
        let c = own_call (after_passed s w.tier.next around.own.ops result (with_ticket w.tier)) in
        record {
          change = change;
          stands_for = refl;
          ops = around.own.ops;
          result = result;
          call = record { history = c.history; journal = c.journal; faults = c.faults; disk = c.disk; moment = c.moment; shared = c.shared };
          tier = refl;
          answer = answer;
        }

    hides_now : HidesRows mid now.there.history
    hides_now = hides_then t mid w now.there.history (hidden_mid t mid drawn) is (around_longer w (CommitsAlone w.tier.next change result) now.there.history (alone_longer w.tier.next change result) around)

    -- the ticket alone is drawn
    not_come : (reply : Reply) → ((o n : List Entry) → CommitsAlone w.tier.next change result o n → Grows [] o n) → after_passed s w.tier.next around.own.ops result (with_ticket w.tier) ≡ with_ticket w.tier → reply ≡ passed_reply result
        → IsEnded mid None after (λ w'. PassesDrawn (change_seen change) s w w' reply)
    not_come reply reads same answer =
        let stays = none_came laws w s is.stands unshared there room (CommitsAlone w.tier.next change result) now.there.history reads around in
        ended_none mid None after (λ w'. PassesDrawn (change_seen change) s w w' reply) refl
        (performed_behind mid before after w (with_ticket w.tier) now.there (λ w'. PassesDrawn (change_seen change) s w w' reply) at now.told called.shares is.waits
        (stored_mid t mid drawn w.tier is.stored)
        (rows_mid t mid drawn ∙ is.shows ∙ sym stays.same) hides_now stays.stands
        (subst (λ (a : Tier). PassesDrawn (change_seen change) s w (behind w a now.there after) reply) same (executes reply answer)))

    -- it came
    finished : (n : ℕ) (reply : Reply) → result ≡ Ok (Rows n) → WritesOwn w.tier.next change around.own.ops n (w.history ++ around.before) around.middle → reply ≡ passed_reply result → IsEnded mid None after (λ w'. PassesDrawn (change_seen change) s w w' reply)
    finished n reply told own answer =
        let stays = passed_came w is.stands unshared room change off around.own.ops n around.before around.middle around.behind around.came_before own around.came_behind in
        let here = subst (λ l. StaysShown w (passed_to w around.own.ops l)) (sym around.is) stays in
        let free = none_met_off w.tier.groups around.own.ops w.tier.unsettled (off_ops w is.stands unshared room change off around.own.ops n around.before around.middle around.behind around.came_before own around.came_behind) later in
        let same : after_passed s w.tier.next around.own.ops result (with_ticket w.tier) ≡ passed_tier w.tier around.own.ops = ap (λ r. after_passed s w.tier.next around.own.ops r (with_ticket w.tier)) told in
        ended_none mid None after (λ w'. PassesDrawn (change_seen change) s w w' reply) refl
        (performed_behind mid before after w (passed_tier w.tier around.own.ops) now.there (λ w'. PassesDrawn (change_seen change) s w w' reply) at now.told called.shares
        (last_at_once w.tier.log w.tier.unsettled (numbered w.tier.next around.own.ops) free is.waits)
        (stored_told t mid drawn w.tier around.own.ops is.stored)
        (rows_mid t mid drawn ∙ is.shows ∙ sym here.same) hides_now here.stands
        (subst (λ (a : Tier). PassesDrawn (change_seen change) s w (behind w a now.there after) reply) same (executes reply answer)))

  -- nobody knows
  unknown : (before after : SiteState) (at : IsAt before w) (called : PassedAt w.tier.next change before after (Err Failed)) (reply : Reply) → reply ≡ passed_reply (Err Failed)
      → IsEnded mid (Some (record { ticket = t.next; session = id; of = PassedWrite; entered = [] })) after (λ w'. PassesDrawn (change_seen change) s w w' reply)
  unknown before after at called reply answer =
      let seen = now before after at (Err Failed) called in
      let a = after_passed s w.tier.next (around before after at (Err Failed) called).own.ops (Err Failed) (with_ticket w.tier) in
      let c = own_call before after at (Err Failed) called a in
      let stands = unknown_stands w s is.stands unshared there room change off (around before after at (Err Failed) called).own.ops seen.there.history c.history in
      record {
        world = behind w a seen.there after;
        at = behind_at w a before after seen.there at seen.told called.shares;
        left = record {
          was = w;
          stands = stands_still t (record mid { next = t.next }) w is (stored_before t mid drawn w.tier is.stored) (rows_mid t mid drawn) (record { groups = (hidden_mid t mid drawn).groups; hidden = (hidden_mid t mid drawn).hidden });
          unshared = unshared;
          session = s;
          has = has_mid t mid drawn id s has;
          next = ap (λ (z : Stored). z.next) drawn;
          room = omega (arith, left);
          change = change;
          off = off;
          ops = (around before after at (Err Failed) called).own.ops;
          call = c;
          tier = refl;
          legal = stands.legal;
          read = stands.read;
        };
        is = executes before after at (Err Failed) called reply answer;
      }

  -- by the bank's answer
  by_answer : (before after : SiteState) (at : IsAt before w) (result : Result Wrote BankError) (doubt : Option Doubt) (reply : Reply) → PassedAt w.tier.next change before after result → doubt ≡ doubt_of id t.next result → reply ≡ passed_reply result
      → IsEnded mid doubt after (λ w'. PassesDrawn (change_seen change) s w w' reply)
  by_answer before after at (Ok (Rows n)) doubt reply called in_doubt answer =
      subst (λ d. IsEnded mid d after (λ w'. PassesDrawn (change_seen change) s w w' reply)) (sym in_doubt)
      (finished before after at (Ok (Rows n)) called n reply refl (around before after at (Ok (Rows n)) called).own.passes answer)
  by_answer before after at (Ok (Broken rule)) doubt reply called in_doubt answer =
      subst (λ d. IsEnded mid d after (λ w'. PassesDrawn (change_seen change) s w w' reply)) (sym in_doubt)
      (not_come before after at (Ok (Broken rule)) called reply (λ o n step. step.passes.0) refl answer)
  by_answer before after at (Err Memory) doubt reply called in_doubt answer =
      subst (λ d. IsEnded mid d after (λ w'. PassesDrawn (change_seen change) s w w' reply)) (sym in_doubt)
      (not_come before after at (Err Memory) called reply (λ o n step. step.passes) refl answer)
  by_answer before after at (Err Failed) doubt reply called in_doubt answer =
      subst (λ d. IsEnded mid d after (λ w'. PassesDrawn (change_seen change) s w w' reply)) (sym in_doubt)
      (unknown before after at called reply answer)

-- in each world in which the write's table is of no writethrough group
abbrev pub EndsDrawn : Stored → Stored → Option Doubt → SiteState → SiteState → SessionId → Change → Reply → Type 0
EndsDrawn old new doubt before after id change reply =
    (w : World) (s : Session) → HasSession old id s → is_written_through w.tier change.table ≡ false → IsAt before w → StandsFor old w → IsUnshared w
    → IsEnded new doubt after (λ w'. PassesDrawn (change_seen change) s w w' reply)

pub passed_ends : (t mid : Stored) (id : SessionId) → mid ≡ record t { next = t.next + 1 } → t.next ≤ 9223372036854775807 → IsSound t → (change : Change) (before after : SiteState) (result : Result Wrote BankError) (doubt : Option Doubt) (reply : Reply)
    → PassedAt t.next change before after result → doubt ≡ doubt_of id t.next result → reply ≡ passed_reply result → EndsDrawn t mid doubt before after id change reply
passed_ends t mid id drawn left sound change before after result doubt reply called in_doubt answer w s has off at is unshared =
    by_answer t mid id drawn left sound change w s is unshared has off before after at result doubt reply
    (subst (λ n. PassedAt n change before after result) (sym is.stored.next) called) in_doubt answer
