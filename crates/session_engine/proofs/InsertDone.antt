-- An INSERT that asked the bank, in the worlds.
use Rattle.std.proofs.Common.{◌≡◌, ◌≤◌, Bool, true, false, cond, ◌&&◌, Option, Some, None, is_some, Result, Ok, Err, List, [], ◌∷◌, ◌++◌, append_assoc, find, map, slice_get, refl, sym, ap, subst, ◌∙◌, arith}
use Rattle.std.specs.Bool.{MatchBool}
use Rattle.tier_base.specs.declared.code.Code.TheVariants as code
use Rattle.tier_base.specs.declared.number.SessionId.{SessionId}
use Rattle.tier_base.specs.declared.number.TableId.{TableId}
use Rattle.row_types.specs.declared.rule.Refused.{Refused}
use Rattle.row_types.specs.declared.rule.Refused.TheVariants as refused
use Rattle.row_types.specs.declared.rule.Rule.{Rule}
use Rattle.row_types.specs.declared.value.Value.{Value}
use Rattle.table_state.specs.declared.history.Entry.{Entry}
use Rattle.table_state.specs.declared.operation.Op.{Op}
use Rattle.table_state.specs.declared.operation.Op.TheVariants.{Insert}
use Rattle.table_state.specs.Operations.{applied_all}
use Rattle.table_state.specs.Refusals.{broken_by_all}
use Rattle.order_laws.specs.Effects.{row_at}
use Rattle.outside.specs.Bank.{Grows, TellsRow}
use Rattle.outside.specs.Calls as site
use Rattle.outside.specs.declared.fault.BankError.{BankError}
use Rattle.outside.specs.declared.fault.BankError.TheVariants as bank
use Rattle.outside.specs.Faults.{BankHasCause}
use Rattle.outside.specs.Holding.{Held}
use Rattle.outside.specs.Others.{Around}
use Rattle.evaluator.specs.Cascades.{key_in}
use Rattle.open_sessions.specs.Lookups.{open_ops}
use Rattle.open_sessions.specs.Opening.{seen_all}
use Rattle.evaluator.specs.declared.change.Change.{Change}
use Rattle.transactions.specs.Transactions.{rows_in}
use Rattle.group_catalog.specs.Catalogs.{groups_in}
use Rattle.cache_tier.specs.declared.reply.Last.TheVariants.{Done, No}
use Rattle.cache_tier.specs.declared.reply.Reply.{Reply}
use Rattle.cache_tier.specs.Facts.{OverIsApplied}
use Rattle.cache_tier.specs.Groups.{Group, covers, is_table_of, is_writethrough}
use Rattle.cache_tier.specs.InsertSteps.{Finds, has_key_in, taken}
use Rattle.cache_tier.specs.Locks.{lock_fault}
use Rattle.cache_tier.specs.OwnWrites.{apply_fault, written}
use Rattle.cache_tier.specs.Recency.{after_writes}
use Rattle.cache_tier.specs.Rules.{broken_if, rule_of_apply}
use Rattle.cache_tier.specs.Shown.{all_over, over, seen_by, shown_state, written_on}
use Rattle.cache_tier.specs.TierStates.{Session, Tier, session_of, with_session, with_writes}
use Rattle.cache_tier.specs.WriteSteps.{WritesOps}
use Rattle.cache_tier.specs.Worlds.{BankCall, IsUnshared, Refuses, World, bank_fault, faulty, only, unless}
use Rattle.tier_statements.specs.Preparing.{shown_fault}
use Rattle.cache_tier.specs.Events.{MayWriteMore, StaysShown, at_history, with_tier}
use Rattle.cache_tier.specs.Pending.{last_written}
use Rattle.cache_tier.specs.StandingBetween.{Stands}
use Rattle.cache_tier.proofs.GroupTables.{over_is_found}
use Rattle.cache_tier.proofs.PendingRows.{all_written}
use Rattle.session_engine.specs.declared.inserting.Weighed.{Weighed}
use Rattle.session_engine.specs.declared.preparing.Prepared.{Prepared}
use Rattle.stored_tier.specs.declared.tier.Tier.{Tier as Stored}
use Rattle.session_engine.specs.Changing.{Changed, ChangesUnwritten, HoldsUsed, IsPrepared, IsUnbroken}
use Rattle.session_engine.specs.declared.inserting.Known.{Known}
use Rattle.session_engine.specs.declared.inserting.Known.TheVariants as kind
use Rattle.session_engine.specs.Inserting.{IsLeft, IsWeighed, KnowsKey, TakenFree, TakenIn, TellsRule, has_row, leaves_row, some_writes_key, writes_key}
use Rattle.stored_tier.specs.Performing.{AreLast, IsCalm, IsCaused, IsPerformed, StandsFor, StaysWritten, Waits, reply_of}
use Rattle.session_engine.proofs.WaitingLaws.{waits_split}
use Rattle.stored_tier.specs.Sites.{IsAt}
use Rattle.outside.specs.Sites.{SiteState}
use Rattle.stored_tier.specs.Stored.{HasSession, HidesRows, IsSound, IsStoredAs, IsVerified, rows_of, without_list}
use Rattle.stored_tier.proofs.BankLaws.{behind, call_behind, told_behind}
use Rattle.session_engine.proofs.ChangedLaws.{WrittenLaw, hidden_used, rows_used, stored_written, through_seen, unheld, uses_seen}
use Rattle.session_engine.proofs.InsertLaws.{seen_schema}
use Rattle.session_engine.proofs.InsertedLaws.{EntriesLaw, IsLeftIn, KnowsIn, PendingLaw, asked, behind_call}
use Rattle.stored_tier.proofs.OthersLaws.{only_reads}
use Rattle.stored_tier.proofs.HiddenRows.{hides_later, hides_then}
use Rattle.stored_tier.proofs.LongerLaws.{around_longer, row_longer}
use Rattle.stored_tier.proofs.QuietLaws.{calm_by, its_session}
use Rattle.stored_tier.proofs.OwnSeen.{NumberLaw, any_map, own_found}
use Rattle.stored_tier.proofs.SessionLaws.{ChangeLaw}
use Rattle.stored_tier.proofs.StandingLaws.{performed_behind, slots_kept}
use Rattle.session_engine.proofs.SeenStates.{sees}

abbrev pub AroundLaw : Type 0
AroundLaw =
    (w : World) (later : List Entry) → Stands w → IsUnshared w → Around w.shared (Grows []) w.history later
    → StaysShown w (at_history later w)

-- the call, in a world
pub record Called (before after : SiteState) (w : World) (t : TableId) (key : List Value) (result : Result (Option (List Value)) BankError) : Type 0 where
  pub held : Held
  pub told : after.held ≡ Some held
  pub shares : after.shared ≡ before.shared
  pub call : (a : Tier) → BankCall (TellsRow t key result) w (behind w a held after)

pub called : (before after : SiteState) (w : World) (t : TableId) (key : List Value) (result : Result (Option (List Value)) BankError) → IsAt before w
    → site.Told before.held after.held (site.BankCall before.shared (TellsRow t key result)) → before.bank_faults ≤ after.bank_faults → before.moment ≤ after.moment → after.shared ≡ before.shared → Called before after w t key result
called before after w t key result at told faults moment shares =
    let tells = told_behind at.there before.held after.held (site.BankCall before.shared (TellsRow t key result)) at.told told in
    record {
      held = tells.there;
      told = tells.told;
      shares = shares;
      call = λ a. call_behind w a before after tells.there (TellsRow t key result) at tells.is faults moment;
    }

row_reads : (t : TableId) (key : List Value) (result : Result (Option (List Value)) BankError) (a b : List Entry) → TellsRow t key result a b → Grows [] a b
row_reads t key (Ok found) a b tells = tells.0
row_reads t key (Err e) a b tells = tells

-- memory may be wanting behind it
pub wanted : (before after : SiteState) (w : World) (t : TableId) (key : List Value) (result : Result (Option (List Value)) BankError) → Called before after w t key result → Called before after w t key (Err bank.Memory)
wanted before after w t key result c = record {
  held = c.held;
  told = c.told;
  shares = c.shares;
  call = λ a. record {
    history = only_reads w.shared (TellsRow t key result) w.history c.held.history (row_reads t key result) (c.call a).history;
    journal = (c.call a).journal;
    faults = (c.call a).faults;
    disk = (c.call a).disk;
    moment = (c.call a).moment;
    shared = (c.call a).shared;
  };
}

-- where the tier stays
stays_behind : AroundLaw → (new : Stored) (before after : SiteState) (w : World) (t : TableId) (key : List Value) (result : Result (Option (List Value)) BankError) (does : World → Type 0) → IsAt before w → StandsFor new w → IsUnshared w → (c : Called before after w t key result)
    → does (behind w w.tier c.held after) → IsPerformed new after does
stays_behind law new before after w t key result does at is apart c done =
    let stays = law w c.held.history is.stands apart (only_reads w.shared (TellsRow t key result) w.history c.held.history (row_reads t key result) (c.call w.tier).history) in
    performed_behind new before after w w.tier c.held does at c.told c.shares is.waits is.stored (is.shows ∙ sym stays.same)
    (hides_later new w c.held.history is (around_longer w (TellsRow t key result) c.held.history (row_longer t key result) (c.call w.tier).history)) stays.stands done

-- the part of the line
inserts_by : (s : Session) (change : Change) (w w' : World) (p : Prepared) (t : TableId) (row : List Value) (reply : Reply) → IsPrepared s change w p → p.ops ≡ Insert t row ∷ [] → has_key_in (seen_by s w.history w.tier) t row ≡ false → StaysWritten w w' → Finds s t row w w' reply → ChangesUnwritten change s w w' reply
inserts_by s change w w' p t row reply prepared is hidden still finds = (
  prepared.leads w' reply
      (subst (λ ops. WritesOps s p.table ops w w' reply) (sym is)
      (subst (λ b. MatchBool b (Refuses (taken w.tier t row) w w' reply) (Finds s t row w w' reply)) (sym hidden) finds)),
  still,
)

-- the bank's call failed, or memory was wanting
pub call_failed : AroundLaw → (new : Stored) (before after : SiteState) (w : World) (s : Session) (change : Change) (p : Prepared) (t : TableId) (row : List Value) (e : BankError) → IsAt before w → StandsFor new w → IsUnshared w → IsPrepared s change w p → p.ops ≡ Insert t row ∷ [] → has_key_in (seen_by s w.history w.tier) t row ≡ false
    → Called before after w t (key_in (slice_get w.tier.schema t.0) row) (Err e) → IsPerformed new after (λ w'. ChangesUnwritten change s w w' (bank_fault e))
call_failed law new before after w s change p t row e at is apart prepared ops hidden c =
    stays_behind law new before after w t (key_in (slice_get w.tier.schema t.0) row) (Err e) (λ w'. ChangesUnwritten change s w w' (bank_fault e)) at is apart c
    (inserts_by s change w (behind w w.tier c.held after) p t row (bank_fault e) prepared ops hidden (record { journal = refl; schema = refl })
    (record { result = Err e; call = c.call w.tier; answer = refl }))

-- the key has a row, or the row breaks a rule
pub answer_refused : AroundLaw → (new : Stored) (before after : SiteState) (w : World) (s : Session) (change : Change) (p : Prepared) (t : TableId) (row : List Value) (found : Option (List Value)) (has : Bool) (rule : Rule) → IsAt before w → StandsFor new w → IsUnshared w → IsPrepared s change w p → p.ops ≡ Insert t row ∷ [] → has_key_in (seen_by s w.history w.tier) t row ≡ false
    → (c : Called before after w t (key_in (slice_get w.tier.schema t.0) row) (Ok found)) → has_key_in (written_on s (w.history ++ (c.call w.tier).history.before) w.tier) t row ≡ has
    → cond has (Some (taken w.tier t row)) (apply_fault s w (Insert t row ∷ [])) ≡ Some rule
    → IsPerformed new after (λ w'. ChangesUnwritten change s w w' (only (No rule)))
answer_refused law new before after w s change p t row found has rule at is apart prepared ops hidden c asked fault =
    stays_behind law new before after w t (key_in (slice_get w.tier.schema t.0) row) (Ok found) (λ w'. ChangesUnwritten change s w w' (only (No rule))) at is apart c
    (inserts_by s change w (behind w w.tier c.held after) p t row (only (No rule)) prepared ops hidden (record { journal = refl; schema = refl })
    (record {
      result = Ok found;
      call = c.call w.tier;
      answer =
          sym (ap (λ b. unless w.tier (cond b (Some (taken w.tier t row)) (apply_fault s w (Insert t row ∷ []))) (written s t (Insert t row ∷ []) w)) asked
          ∙ ap (λ f. unless w.tier f (written s t (Insert t row ∷ []) w)) fault);
    }))

-- the row is the session's
pub answer_taken : AroundLaw → WrittenLaw → (new : Stored) (before after : SiteState) (w : World) (s : Session) (change : Change) (p : Prepared) (t : TableId) (row : List Value) (found : Option (List Value)) → IsAt before w → IsUnshared w → Stands w → AreLast w.tier.log w.tier.unsettled → rows_of new ≡ shown_state w.history w.tier → IsPrepared s change w p → p.ops ≡ Insert t row ∷ [] → has_key_in (seen_by s w.history w.tier) t row ≡ false
    → (c : Called before after w t (key_in (slice_get w.tier.schema t.0) row) (Ok found)) → has_key_in (written_on s (w.history ++ (c.call (written s t (Insert t row ∷ []) w).0).history.before) w.tier) t row ≡ false
    → apply_fault s w (Insert t row ∷ []) ≡ None
    → IsStoredAs new (written s t (Insert t row ∷ []) w).0 → HidesRows new c.held.history
    → (Stands (at_history c.held.history w) → MayWriteMore (at_history c.held.history w) s (Insert t row ∷ []))
    → IsPerformed new after (λ w'. ChangesUnwritten change s w w' (only (Done (rows_in t (Insert t row ∷ [])))))
answer_taken around law new before after w s change p t row found at apart stands waits shows prepared ops hidden c asked fault stored hides may =
    let ins = Insert t row ∷ [] in
    let done = written s t ins w in
    let stays = around w c.held.history stands apart (only_reads w.shared (TellsRow t (key_in (slice_get w.tier.schema t.0) row) (Ok found)) w.history c.held.history (row_reads t (key_in (slice_get w.tier.schema t.0) row) (Ok found)) (c.call w.tier).history) in
    let later = at_history c.held.history w in
    let after_law = law later s t ins stays.stands (may stays.stands) in
    let tiers : (written s t ins later).0 ≡ done.0 = ap (λ st. with_session s.label (with_writes ins) (after_writes over ins (all_over s.own st) w.tier)) stays.same in
    performed_behind new before after w done.0 c.held (λ w'. ChangesUnwritten change s w w' (only (Done (rows_in t (Insert t row ∷ []))))) at c.told c.shares waits stored
    (shows ∙ sym stays.same ∙ sym after_law.same ∙ ap (shown_state c.held.history) tiers) hides
    (subst (λ a. Stands (with_tier a later)) tiers after_law.stands)
    (inserts_by s change w (behind w done.0 c.held after) p t row (only (Done (rows_in t (Insert t row ∷ [])))) prepared ops hidden (record { journal = refl; schema = refl })
    (record {
      result = Ok found;
      call = c.call done.0;
      answer =
          sym (ap (λ b. unless w.tier (cond b (Some (taken w.tier t row)) (apply_fault s w ins)) done) asked ∙ ap (λ f. unless w.tier f done) fault);
    }))

-- ---- what was known before

found_listed : (groups : List Group) (t : TableId) (group : Group) → find (covers t) (map without_list groups) ≡ Some group → (g : Group) × (find (covers t) groups ≡ Some g) × (g.first ≡ group.first)
found_listed [] t group e = cc
found_listed (x ∷ groups) t group e = by (covers t x) e (found_listed groups t group)
  where
    by : (b : Bool) → cond b (Some (without_list x)) (find (covers t) (map without_list groups)) ≡ Some group → (find (covers t) (map without_list groups) ≡ Some group → (g : Group) × (find (covers t) groups ≡ Some g) × (g.first ≡ group.first))
        → (g : Group) × (cond b (Some x) (find (covers t) groups) ≡ Some g) × (g.first ≡ group.first)
    by true is rest = let one : without_list x ≡ group = cc in (x, refl, ap (λ (g : Group). g.first) one)
    by false is rest = rest is

left_in_tier : (t : Stored) (a : Tier) (of : TableId) (key : List Value) (leaves : Bool) → IsStoredAs t a → AreLast a.log a.unsettled → IsLeft t of key leaves → IsLeftIn a of key leaves
left_in_tier t a of key leaves is last left =
    let writer = left.writer in
    let group = found_listed a.groups of left.since.group (ap (find (covers of)) is.groups ∙ sym (over_is_found (groups_in t.catalog) of) ∙ left.since.over) in
    let split = waits_split t.schema of key [] last.behind writer.before left.one writer.behind (subst (Waits [] last.behind) (is.unsettled ∙ writer.is) last.waits) writer.writes writer.none in
    record {
      front = last.settled ++ split.front;
      one = left.one;
      behind = split.later;
      log = last.is ∙ ap (λ xs. last.settled ++ xs) split.is ∙ sym (append_assoc last.settled split.front (left.one ∷ split.later));
      writes = ap (λ d. writes_key d left.one.ops of key) is.schema ∙ writer.writes;
      none = ap (λ d. some_writes_key d split.later of key) is.schema ∙ split.none;
      group = group.0;
      found = group.1;
      since = subst (λ n. n ≤ left.one.ticket.0) (sym group.2) left.since.since;
      is = left.told ∙ sym (ap (λ d. leaves_row d left.one.ops of key) is.schema);
    }

known_in : (t : Stored) (id : SessionId) (s : Session) (a : Tier) (of : TableId) (key : List Value) (k : Known) → IsStoredAs t a → AreLast a.log a.unsettled → open_ops id (seen_all t.sessions) ≡ s.own → KnowsKey t id of key k → KnowsIn a s.own of key k
known_in t id s a of key kind.Own is last mine knows =
    ap (λ d. writes_key d s.own of key) is.schema ∙ ap (λ o. writes_key t.schema o of key) (sym mine) ∙ knows
known_in t id s a of key (kind.Left leaves) is last mine knows = (
  ap (λ d. writes_key d s.own of key) is.schema ∙ ap (λ o. writes_key t.schema o of key) (sym mine) ∙ knows.0,
  left_in_tier t a of key leaves is last knows.1,
)
known_in t id s a of key kind.Free is last mine knows = (
  ap (λ d. writes_key d s.own of key) is.schema ∙ ap (λ o. writes_key t.schema o of key) (sym mine) ∙ knows.0,
  ap (λ d. some_writes_key d a.unsettled of key) is.schema ∙ ap (λ xs. some_writes_key t.schema xs of key) is.unsettled ∙ knows.1,
)

none_of : {A : Type 0} (o : Option A) → is_some o ≡ false → o ≡ None
none_of None e = refl
none_of (Some x) e = cc

not_broken : (b : Bool) (rule : Rule) → broken_if b rule ≡ None → b ≡ false
not_broken true rule e = cc
not_broken false rule e = refl

-- ---- what becomes of it

module _ (over_law : OverIsApplied) (numbers : NumberLaw) (changes : ChangeLaw) (pending : PendingLaw) (entries : EntriesLaw) (around : AroundLaw) (law : WrittenLaw)
    (t : Stored) (before after : SiteState) (id : SessionId) (w : World) (s : Session) (change : Change) (p : Prepared) (x : Weighed)
    (sound : IsSound t) (noted : IsVerified t) (has : HasSession t id s) (at : IsAt before w) (is : StandsFor t w) (apart : IsUnshared w) (prepared : IsPrepared s change w p) (weighed : IsWeighed t id p x) where
  abbrev ins : List Op
  ins = Insert weighed.table weighed.row ∷ []

  abbrev its_key : List Value
  its_key = key_in (slice_get w.tier.schema weighed.table.0) weighed.row

  key_same : x.key ≡ its_key
  key_same = weighed.weighed.key ∙ sym (ap (λ d. key_in (slice_get d weighed.table.0) weighed.row) is.stored.schema ∙ ap (λ o. key_in o weighed.row) weighed.weighed.there)

  hidden : has_key_in (seen_by s w.history w.tier) weighed.table weighed.row ≡ false
  hidden =
      not_broken (has_key_in (seen_by s w.history w.tier) weighed.table weighed.row) (taken w.tier weighed.table weighed.row)
      (subst (λ ops. shown_fault w.tier (seen_by s w.history w.tier) ops ≡ None) weighed.is prepared.shown)

  through : is_table_of is_writethrough w.tier.groups weighed.table ≡ true
  through =
      sym (any_map (λ g. is_writethrough g && covers weighed.table g) without_list w.tier.groups)
      ∙ ap (λ gs. is_table_of is_writethrough gs weighed.table) is.stored.groups ∙ weighed.through

  there : session_of w.tier s.label ≡ Some s
  there = its_session t w.tier id s is.stored has

  mine : open_ops id (seen_all t.sessions) ≡ s.own
  mine = own_found numbers t id s sound has

  knows : KnowsIn w.tier s.own weighed.table its_key x.known
  knows = known_in t id s w.tier weighed.table its_key x.known is.stored is.waits mine (subst (λ k. KnowsKey t id weighed.table k x.known) key_same weighed.weighed.known)

  abbrev shown : Option (List Value)
  shown = row_at (shown_state w.history w.tier) weighed.table its_key

  gone : x.known ≡ kind.Own → last_written w.tier.schema weighed.table its_key s.own shown ≡ None
  gone own =
      let sight = sees over_law numbers t id s w sound noted is.shows has in
      let applied : applied_all s.own (shown_state w.history w.tier) ≡ Some (seen_by s w.history w.tier) =
      ap (λ o. applied_all o (shown_state w.history w.tier)) (sym mine) ∙ ap (applied_all (open_ops id (seen_all t.sessions))) (sym is.shows) ∙ sight.applied ∙ ap Some sight.is in
      let seen_row : row_at (seen_by s w.history w.tier) weighed.table its_key ≡ None =
      none_of (row_at (seen_by s w.history w.tier) weighed.table its_key)
      (ap (λ d. is_some (row_at (seen_by s w.history w.tier) weighed.table (key_in (slice_get d weighed.table.0) weighed.row))) (sym (seen_schema s.own w.history w.tier)) ∙ hidden) in
      sym (all_written s.own (shown_state w.history w.tier) (seen_by s w.history w.tier) weighed.table its_key applied) ∙ seen_row

  judged : TellsRule x.fault (broken_by_all ins (seen_by s w.history w.tier))
  judged =
      let sight = sees over_law numbers t id s w sound noted is.shows has in
      subst (λ z. TellsRule x.fault (broken_by_all ins z)) sight.is
      (subst (λ ops. TellsRule x.fault (broken_by_all ops sight.state)) weighed.is (weighed.weighed.judged sight.state sight.applied))

  -- the call failed
  pub failed : (e : BankError) → Called before after w weighed.table x.key (Err e) → IsPerformed t after (λ w'. ChangesUnwritten change s w w' (bank_fault e))
  failed e c = call_failed around t before after w s change p weighed.table weighed.row e at is apart prepared weighed.is hidden (subst (λ k. Called before after w weighed.table k (Err e)) key_same c)

  module _ (new : Stored) (found : Option (List Value)) (call : Called before after w weighed.table x.key (Ok found)) where
    c : Called before after w weighed.table its_key (Ok found)
    c = subst (λ k. Called before after w weighed.table k (Ok found)) key_same call

    told : (a : Tier) → has_key_in (written_on s (w.history ++ (c.call a).history.before) w.tier) weighed.table weighed.row ≡ has_row x.known found
    told a = asked pending entries w s weighed.table weighed.row x.known is.stands apart there through knows shown gone found c.held.history (c.call a).history

    refusal_by : (rule : Rule) (b : Bool) → has_row x.known found ≡ b → cond b (Some (taken w.tier weighed.table weighed.row)) (apply_fault s w ins) ≡ Some rule → IsPerformed t after (λ w'. ChangesUnwritten change s w w' (only (No rule)))
    refusal_by rule b e fault =
        answer_refused around t before after w s change p weighed.table weighed.row found b rule at is apart prepared weighed.is hidden c (told w.tier ∙ e) fault

    held_by : (reply : Reply) → has_row x.known found ≡ false → broken_by_all ins (seen_by s w.history w.tier) ≡ None → Changed t new id p (Ok reply) → IsPerformed new after (λ w'. ChangesUnwritten change s w w' reply)
    held_by reply e unbroken changed =
        let used = subst (λ ops. HoldsUsed t new id ops) weighed.is changed.0 in
        let says : reply ≡ only (Done (rows_in weighed.table ins)) = changed.1 ∙ ap (λ n. only (Done n)) (ap (rows_in p.table) weighed.is ∙ ap (λ u. rows_in u ins) weighed.named) in
        let may : Stands (at_history c.held.history w) → MayWriteMore (at_history c.held.history w) s ins = λ stands.
        let stays = around w c.held.history is.stands apart (only_reads w.shared (TellsRow weighed.table its_key (Ok found)) w.history c.held.history (row_reads weighed.table its_key (Ok found)) (c.call w.tier).history) in
        record {
          there = there;
          through = sym (through_seen t w.tier ins is.stored) ∙ used.holds.through;
          unbroken = subst (λ z. broken_by_all ins (all_over s.own z) ≡ None) (sym stays.same) unbroken;
          unlocked = subst (λ ops. lock_fault s.label w.tier ops ≡ None) weighed.is prepared.free;
          fresh = (behind_call pending entries w s weighed.table weighed.row x.known is.stands apart there through knows shown gone found c.held.history (c.call w.tier).history stands ∙ e, tt);
        } in
        subst (λ r. IsPerformed new after (λ w'. ChangesUnwritten change s w w' r)) (sym says)
        (answer_taken around law new before after w s change p weighed.table weighed.row found at apart is.stands is.waits (rows_used t new id ins used ∙ is.shows) prepared weighed.is hidden c
        (told (written s weighed.table ins w).0 ∙ e) (ap rule_of_apply unbroken)
        (stored_written changes t new w s id ins (seen_by s w.history w.tier) sound is has used (uses_seen over_law numbers t new w s id ins sound noted is has used))
        (hides_then t new w c.held.history (hidden_used t new id ins used) is (around_longer w (TellsRow weighed.table its_key (Ok found)) c.held.history (row_longer weighed.table its_key (Ok found)) (c.call w.tier).history)) may)

    free : (result : Result Reply Refused) (fault : Option Rule) → has_row x.known found ≡ false → TellsRule fault (broken_by_all ins (seen_by s w.history w.tier)) → TakenFree t new id p fault result → IsPerformed new after (λ w'. ChangesUnwritten change s w w' (reply_of result))
    free result (Some rule) e tells taken_in =
        subst (λ r. IsPerformed new after (λ w'. ChangesUnwritten change s w w' (reply_of r))) (sym taken_in.0)
        (subst (λ y. IsPerformed y after (λ w'. ChangesUnwritten change s w w' (only (No rule)))) (sym taken_in.1)
        (refusal_by rule false e (ap rule_of_apply tells)))
    free (Ok reply) None e tells taken_in = held_by reply e tells taken_in
    free (Err (refused.Rule rule)) None e tells taken_in = absurd taken_in
    free (Err refused.Memory) None e tells taken_in =
        call_failed around new before after w s change p weighed.table weighed.row bank.Memory at (unheld t new w taken_in is) apart prepared weighed.is hidden
        (wanted before after w weighed.table its_key (Ok found) c)

    pub taken_in : (result : Result Reply Refused) → TakenIn t new id p x found result → IsPerformed new after (λ w'. ChangesUnwritten change s w w' (reply_of result))
    taken_in result done = by (has_row x.known found) refl done
      where
        by : (b : Bool) → has_row x.known found ≡ b → MatchBool b ((result ≡ Err (refused.Rule x.taken)) × (new ≡ t)) (TakenFree t new id p x.fault result) → IsPerformed new after (λ w'. ChangesUnwritten change s w w' (reply_of result))
        by true e all =
            subst (λ r. IsPerformed new after (λ w'. ChangesUnwritten change s w w' (reply_of r))) (sym all.0)
            (subst (λ y. IsPerformed y after (λ w'. ChangesUnwritten change s w w' (only (No x.taken)))) (sym all.1)
            (refusal_by x.taken true e (ap Some (sym (weighed.weighed.taken w.tier is.stored.schema)))))
        by false e all = free result x.fault e judged all

-- ---- over parts of the code

taken_by : (t : Stored) (id : SessionId) (p : Prepared) (x : Weighed) (found : Option (List Value)) (result : Result Reply Refused) (b : Bool) → result ≡ Err (refused.Rule x.taken) → b ≡ has_row x.known found → b ≡ true → TakenIn t t id p x found result
taken_by t id p x found result b told is so =
    subst (λ v. MatchBool v ((result ≡ Err (refused.Rule x.taken)) × (t ≡ t)) (TakenFree t t id p x.fault result)) (sym so ∙ is) (told, refl)

pub taken_there : (t : Stored) (id : SessionId) (p : Prepared) (x : Weighed) (found : Option (List Value)) (b : Bool) → b ≡ has_row x.known found → b ≡ true → TakenIn t t id p x found (Err (refused.Rule x.taken))
taken_there t id p x found b is so = taken_by t id p x found (Err (refused.Rule x.taken)) b refl is so

pub free_there : (t new : Stored) (id : SessionId) (p : Prepared) (x : Weighed) (found : Option (List Value)) (result : Result Reply Refused) (b : Bool) → b ≡ has_row x.known found → b ≡ false → TakenFree t new id p x.fault result → TakenIn t new id p x found result
free_there t new id p x found result b is isnt done =
    subst (λ v. MatchBool v ((result ≡ Err (refused.Rule x.taken)) × (new ≡ t)) (TakenFree t new id p x.fault result)) (sym isnt ∙ is) done

pub broken_there : (t : Stored) (id : SessionId) (p : Prepared) (fault : Option Rule) (rule : Rule) → fault ≡ Some rule → TakenFree t t id p fault (Err (refused.Rule rule))
broken_there t id p fault rule is = subst (λ f. TakenFree t t id p f (Err (refused.Rule rule))) (sym is) (refl, refl)

pub changed_there : (t new : Stored) (id : SessionId) (p : Prepared) (fault : Option Rule) (result : Result Reply Refused) → fault ≡ None → Changed t new id p result → TakenFree t new id p fault result
changed_there t new id p fault result is done = subst (λ f. TakenFree t new id p f result) (sym is) done

pub unbroken_there : (t : Stored) (id : SessionId) (p : Prepared) (x : Weighed) → IsWeighed t id p x → x.fault ≡ None → IsUnbroken t id p.ops
unbroken_there t id p x weighed none = λ seen applied.
    subst (λ f. TellsRule f (broken_by_all p.ops seen)) none (weighed.weighed.judged seen applied)

-- ---- what is told of the site

pub called_cause : (before after : SiteState) (t : TableId) (key : List Value) (result : Result (Option (List Value)) BankError) (r : Reply) → site.Told before.held after.held (site.BankCall before.shared (TellsRow t key result)) → before.bank_faults ≤ after.bank_faults → before.moment ≤ after.moment → after.shared ≡ before.shared → IsCalm r → IsCaused before after r
called_cause before after t key result r told faults moment shares calm = record {
  later = faults;
  moment = moment;
  shares = shares;
  slots = slots_kept before.held after.held (site.BankCall before.shared (TellsRow t key result)) (λ o n c. c.slots) told;
  bare = (calm before).bare;
  bank = λ tells. (let rose = (calm before).bank tells in omega (arith, rose, faults));
  disk = (calm before).disk;
}

pub failed_cause : (before after : SiteState) (t : TableId) (key : List Value) (e : BankError) → site.Told before.held after.held (site.BankCall before.shared (TellsRow t key (Err e))) → before.moment ≤ after.moment → after.shared ≡ before.shared → BankHasCause {T = Option (List Value)} before after (Err e) → IsCaused before after (bank_fault e)
failed_cause before after t key bank.Failed told moment shares cause = record {
  later = cause.later;
  moment = moment;
  shares = shares;
  slots = slots_kept before.held after.held (site.BankCall before.shared (TellsRow t key (Err bank.Failed))) (λ o n c. c.slots) told;
  bare = refl;
  bank = λ tells. cause.failed refl;
  disk = refl;
}
failed_cause before after t key bank.Memory told moment shares cause =
    called_cause before after t key (Err bank.Memory) (faulty code.Memory) told cause.later moment shares (calm_by (faulty code.Memory) refl refl refl)
