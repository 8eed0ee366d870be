-- The console's writes over the worlds for which the tier stands.
use Rattle.std.proofs.Common.{◌≡◌, ℕ, true, Option, Some, None, List, [], ◌∷◌, ◌++◌, map, refl, sym, ap, ◌∙◌, subst, inl, inr}
use Rattle.std.specs.Prelude.{Result, Ok, Err}
use Rattle.std.specs.Option.{option_and_then}
use Rattle.std.specs.Result.{IsErrOf}
use Rattle.std.proofs.lemmas.List.{append-nil}
use Rattle.tier_base.specs.declared.code.Code.TheVariants as code
use Rattle.tier_base.specs.declared.limit.Limit.TheVariants.{Operations}
use Rattle.tier_base.specs.Limits.{greatest}
use Rattle.row_types.specs.declared.rule.Rule.{Rule}
use Rattle.row_types.specs.declared.rule.Refused.{Refused}
use Rattle.row_types.specs.declared.rule.Refused.TheVariants as refused
use Rattle.table_state.specs.declared.history.Entry.{Entry}
use Rattle.table_state.specs.declared.history.Entry.TheVariants.{Foreign}
use Rattle.table_state.specs.declared.operation.Op.{Op}
use Rattle.table_state.specs.Histories.{state_from}
use Rattle.table_state.specs.Operations.{applied_all}
use Rattle.table_state.specs.Tables.{TableState}
use Rattle.table_state.proofs.HistoryLaws.{state_of-append}
use Rattle.order_laws.specs.Sides.{are_off}
use Rattle.order_laws.proofs.AgreeLaws.{all_closed}
use Rattle.order_laws.specs.Events.{Others}
use Rattle.evaluator.specs.declared.change.Change.{Change}
use Rattle.transactions.specs.Transactions.{Done}
use Rattle.outside.specs.Bank.{Grows}
use Rattle.outside.specs.Console.{WritesForeign, Writes as BankWrites}
use Rattle.outside.specs.Faults.{Rose}
use Rattle.outside.specs.Others.{Around}
use Rattle.outside.specs.declared.fault.BankError.{BankError}
use Rattle.outside.specs.declared.fault.BankError.TheVariants.{Failed, Memory}
use Rattle.outside.specs.declared.site.Done.{Done as Wrote}
use Rattle.outside.specs.declared.site.Done.TheVariants.{Broken, Rows}
use Rattle.resolution.specs.Writes.{change_seen, named_writes, resolved_writes}
use Rattle.sql_query.specs.declared.write.Write.{Write}
use Rattle.sql_subset.specs.declared.request.ConsoleRequest.{ConsoleRequest}
use Rattle.sql_subset.specs.declared.request.ConsoleRequest.TheVariants as console
use Rattle.cache_tier.specs.ConsoleSteps.{DoesConsole, WritesAll, first_writethrough, writes_fault}
use Rattle.cache_tier.specs.PassedSteps.{passed_reply}
use Rattle.cache_tier.specs.Rules.{rule_in}
use Rattle.cache_tier.specs.Shown.{shown_state}
use Rattle.cache_tier.specs.TierStates.{Tier}
use Rattle.cache_tier.specs.Worlds.{IsUnshared, Tries, Unless, World, faulty}
use Rattle.cache_tier.specs.declared.reply.Reply.{Reply}
use Rattle.cache_tier.specs.Events.{StaysShown, at_history}
use Rattle.cache_tier.specs.StandingBetween.{Stands, live_groups_of}
use Rattle.tier_statements.specs.Replies.{reply_to}
use Rattle.stored_tier.specs.declared.tier.Tier.{Tier as Stored}
use Rattle.stored_tier.specs.Performing.{AreLast, IsCaused, Performs, StandsFor}
use Rattle.stored_tier.specs.Sites.{Serves}
use Rattle.outside.specs.Sites.{SiteState}
use Rattle.stored_tier.specs.Stored.{HidesRows, rows_of}
use Rattle.stored_tier.proofs.HiddenRows.{hides_later}
use Rattle.stored_tier.proofs.LongerLaws.{around_longer, foreign_longer}
use Rattle.cache_engine.proofs.AskingLaws.{CalledAt}
use Rattle.session_engine.proofs.OffLaws.{AreApart, written_off}
use Rattle.cache_engine.proofs.ConsoleLaws.{live_of, resolved_apart}
use Rattle.cache_engine.proofs.CreatingLaws.{EntriesLaw, call_caused, none_behind, others_behind}
use Rattle.stored_tier.proofs.SettlingLaws.{ShownLaw}
use Rattle.cache_engine.proofs.WantLaws.{slots_stay}

-- a transaction of others, on no live table
foreign_comes : ShownLaw → (w : World) (x : Stands w) (ops : List Op) (left : TableState) → are_off (live_of w.tier) ops ≡ true → applied_all ops x.flow.stand.over.backing ≡ Some left → StaysShown w (at_history (w.history ++ Foreign ops ∷ []) w)
foreign_comes law w x ops left off leads =
    law w x (Others ops ∷ []) (w.history ++ Foreign ops ∷ []) w.tier.unsettled w.tier.round (
      record {
        off = off;
        state = left;
        leaves = state_of-append w.history (Foreign ops ∷ []) ∙ ap (option_and_then (state_from (Foreign ops ∷ []))) x.flow.stand.over.leaves
            ∙ ap (option_and_then (state_from [])) leads;
      },
      (refl, refl),
    )

writes_come : ShownLaw → (w : World) (changes : List Change) (n : ℕ) (middle : List Entry) → Stands w → AreApart (live_of w.tier) changes → BankWrites changes n w.history middle → StaysShown w (at_history middle w)
writes_come law w changes n middle x apart writes =
    let backing = x.flow.stand.over.backing in
    let done = writes.done backing x.flow.stand.over.leaves in
    let closed = all_closed (live_groups_of w.tier.groups) w.history w.tier.log backing.schema w.tier.next x.flow.stand.over.ordered in
    let what : Done = record { written = record { ops = writes.ops; rows = n }; state = done.left } in
    let off = written_off (live_of w.tier) changes (greatest Operations) backing what closed apart done.written in
    subst (λ h. StaysShown w (at_history h w)) (sym writes.grows) (foreign_comes law w x writes.ops done.left off done.applies)

nothing_comes : (w : World) (middle : List Entry) → Stands w → Grows [] w.history middle → StaysShown w (at_history middle w)
nothing_comes w middle x grows =
    subst (λ h. StaysShown w (at_history h w)) (sym (grows ∙ append-nil w.history)) (record { stands = x; same = refl })

step_comes : ShownLaw → (w : World) (changes : List Change) (result : Result Wrote BankError) (middle : List Entry) → Stands w → AreApart (live_of w.tier) changes → WritesForeign changes result w.history middle → StaysShown w (at_history middle w)
step_comes law w changes (Ok (Rows n)) middle x apart step = writes_come law w changes n middle x apart step
step_comes law w changes (Ok (Broken rule)) middle x apart step = nothing_comes w middle x step.0
step_comes law w changes (Err Memory) middle x apart step = nothing_comes w middle x step
step_comes law w changes (Err Failed) middle x apart step = elim step [
  | inl none ↦ nothing_comes w middle x none
  | inr came ↦ writes_come law w changes came.0 middle x apart came.1
]

-- with transactions of others before and behind
written_around : EntriesLaw → ShownLaw → (w : World) (later : List Entry) (changes : List Change) (result : Result Wrote BankError) → Stands w → IsUnshared w → AreApart (live_of w.tier) changes → Around w.shared (WritesForeign changes result) w.history later → StaysShown w (at_history later w)
written_around others law w later changes result x unshared apart a =
    let one = others w a.before x unshared a.came_before in
    let w1 = at_history (w.history ++ a.before) w in
    let two = step_comes law w1 changes result a.middle one.stands apart a.own in
    let three = others_behind others w a.middle a.behind later two.stands unshared a.came_behind a.is in
    record { stands = three.stands; same = three.same ∙ two.same ∙ one.same }

-- no rule is broken before the bank is called
judged_apart : (a : Tier) (writes : List Write) (changes : List Change) → resolved_writes a.schema writes ≡ Ok (map change_seen changes) → writes_fault a writes ≡ None → AreApart (live_of a) changes
judged_apart a writes changes resolved free =
    resolved_apart a writes changes (named_writes a.schema writes) refl resolved
    (none_behind (rule_in (resolved_writes a.schema writes)) (first_writethrough a writes) (none_behind (rule_in (named_writes a.schema writes)) _ free))

-- the tier stands in a world with this tier and history
stands_as : (w w' : World) → w'.tier ≡ w.tier → Stands (at_history w'.history w) → Stands w'
stands_as w w' same x = subst (λ (a : Tier). Stands (record w' { tier = a })) (sym same) moved
  where
    moved : Stands (record w' { tier = w.tier })
    moved = record {
      flow = x.flow;
      schema = record { front = x.schema.front; whole = x.schema.whole };
      catalog = x.catalog;
      keys = x.keys;
      read = x.read;
      sessions = x.sessions;
    }

record StandsStill (t : Stored) (w' : World) : Type 0 where
  shows : rows_of t ≡ shown_state w'.history w'.tier
  hides : HidesRows t w'.history
  stands : Stands w'
  waits : AreLast w'.tier.log w'.tier.unsettled

still : (t : Stored) (w w' : World) → StandsFor t w → w' ≡ w → StandsStill t w'
still t w w' stands same = subst (StandsStill t) (sym same) (record { shows = stands.shows; hides = stands.hides; stands = stands.stands; waits = stands.waits })

written_still : EntriesLaw → ShownLaw → (t : Stored) (w w' : World) (writes : List Write) (reply : Reply) → StandsFor t w → IsUnshared w → writes_fault w.tier writes ≡ None → WritesAll writes w w' reply → StandsStill t w'
written_still others law t w w' writes reply stands unshared free did =
    let stays = written_around others law w w'.history did.changes did.result stands.stands unshared (judged_apart w.tier writes did.changes did.stand_for free) did.call.history in
    record {
      shows = stands.shows ∙ sym stays.same ∙ ap (shown_state w'.history) (sym did.tier);
      hides = hides_later t w w'.history stands (around_longer w (WritesForeign did.changes did.result) w'.history (foreign_longer did.changes did.result) did.call.history);
      stands = stands_as w w' did.tier stays.stands;
      waits = subst (λ (a : Tier). AreLast a.log a.unsettled) (sym did.tier) stands.waits;
    }

console_still : EntriesLaw → ShownLaw → (t : Stored) (w w' : World) (writes : List Write) (reply : Reply) → StandsFor t w → IsUnshared w → Tries (DoesConsole (console.Writes writes)) w w' reply → StandsStill t w'
console_still others law t w w' writes reply stands unshared (inr none) = still t w w' stands none.0
console_still others law t w w' writes reply stands unshared (inl did) = by (writes_fault w.tier writes) refl did
  where
    by : (o : Option Rule) → writes_fault w.tier writes ≡ o → Unless o (WritesAll writes) w w' reply → StandsStill t w'
    by None e did = written_still others law t w w' writes reply stands unshared e did
    by (Some rule) e did = still t w w' stands did.0

pub writes_served : EntriesLaw → ShownLaw → (t : Stored) (before after : SiteState) (request : ConsoleRequest) (writes given : List Write) (reply : Reply) → request ≡ console.Writes writes → given ≡ writes → Serves t t before after (λ w w'. Tries (DoesConsole (console.Writes given)) w w' reply)
    → Performs t t before after (λ w w'. Tries (DoesConsole request) w w' reply)
writes_served others law t before after request writes given reply is same serves w at stands unshared =
    let it = serves w at stands.stored in
    let behind = console_still others law t w it.world given reply stands unshared it.is in
    record {
      world = it.world;
      at = it.at;
      stands = record { stored = it.stored; shows = behind.shows; hides = behind.hides; stands = behind.stands; waits = behind.waits };
      is = subst (λ r. Tries (DoesConsole r) w it.world reply) (sym is) (subst (λ ws. Tries (DoesConsole (console.Writes ws)) w it.world reply) same it.is);
    }

-- what is told
pub writes_caused : (before after : SiteState) (changes : List Change) (result : Result Wrote BankError) (reply : Reply) → CalledAt before after (WritesForeign changes result) → reply ≡ passed_reply result → (IsErrOf result Failed → Rose before.bank_faults after.bank_faults) → IsCaused before after reply
writes_caused before after changes (Ok (Rows n)) reply called is rose =
    subst (IsCaused before after) (sym is) (call_caused before after (WritesForeign changes (Ok (Rows n))) (passed_reply (Ok (Rows n))) called refl (λ b. cc) refl)
writes_caused before after changes (Ok (Broken rule)) reply called is rose =
    subst (IsCaused before after) (sym is) (call_caused before after (WritesForeign changes (Ok (Broken rule))) (passed_reply (Ok (Broken rule))) called refl (λ b. cc) refl)
writes_caused before after changes (Err Memory) reply called is rose =
    subst (IsCaused before after) (sym is) (call_caused before after (WritesForeign changes (Err Memory)) (faulty code.Memory) called refl (λ b. cc) refl)
writes_caused before after changes (Err Failed) reply called is rose =
    subst (IsCaused before after) (sym is) (call_caused before after (WritesForeign changes (Err Failed)) (faulty code.BackingFault) called refl (λ b. rose refl) refl)

pub refused_caused : (seen : SiteState) (e : Refused) (reply : Reply) → reply ≡ reply_to e → IsCaused seen seen reply
refused_caused seen (refused.Rule rule) reply is = subst (IsCaused seen seen) (sym is) (record {
  later = Rattle.std.proofs.Common.le_refl seen.bank_faults;
  moment = Rattle.std.proofs.Common.le_refl seen.moment;
  shares = refl;
  slots = slots_stay seen.held;
  bare = refl;
  bank = λ b. cc;
  disk = refl;
})
refused_caused seen refused.Memory reply is = subst (IsCaused seen seen) (sym is) (Rattle.cache_engine.proofs.WantLaws.wanting_caused seen)
