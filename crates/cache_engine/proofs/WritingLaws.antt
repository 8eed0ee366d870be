-- The console's writes over what is stored.
use Rattle.std.proofs.Common.{◌≡◌, ◌≤◌, ℕ, Bool, true, false, cond, ◌&&◌, ◌||◌, Option, Some, None, List, [], ◌∷◌, map, find, refl, sym, ap, ◌∙◌, subst, inl, inr}
use Rattle.std.specs.Prelude.{Result, Ok, Err}
use Rattle.std.specs.Option.{option_map, option_or}
use Rattle.tier_base.specs.declared.number.TableId.{TableId}
use Rattle.tier_base.specs.declared.code.Code.TheVariants as code
use Rattle.row_types.specs.declared.rule.Rule.{Rule}
use Rattle.row_types.specs.declared.rule.Refused.{Refused}
use Rattle.row_types.specs.declared.rule.Refused.TheVariants as refused
use Rattle.table_defs.specs.Names.{place_of_table}
use Rattle.outside.specs.Calls as site
use Rattle.outside.specs.Console.{WritesForeign}
use Rattle.outside.specs.declared.fault.BankError.{BankError}
use Rattle.outside.specs.declared.site.Done.{Done as Wrote}
use Rattle.evaluator.specs.declared.change.Change.{Change}
use Rattle.evaluator.specs.Rules.{then_do}
use Rattle.resolution.specs.Writes.{PlacedChange, all_sound, changes_seen, named_writes, resolved_writes, table_of}
use Rattle.sql_query.specs.declared.write.Write.{Write}
use Rattle.sql_subset.specs.declared.request.ConsoleRequest.TheVariants as console
use Rattle.cache_tier.specs.ConsoleSteps.{DoesConsole, WritesAll, first_writethrough, is_name_of}
use Rattle.cache_tier.specs.Groups.{Group, covers, is_table_of, is_writethrough}
use Rattle.cache_tier.specs.PassedSteps.{passed_reply}
use Rattle.cache_tier.specs.Routes.{is_written_through}
use Rattle.cache_tier.specs.Rules.{named, rule_in}
use Rattle.cache_tier.specs.TierStates.{Tier}
use Rattle.cache_tier.specs.Worlds.{Tries, Unless}
use Rattle.cache_tier.specs.declared.reply.Reply.{Reply}
use Rattle.group_catalog.specs.Catalogs.{groups_in}
use Rattle.tier_statements.specs.Replies.{reply_to}
use Rattle.stored_tier.specs.declared.tier.Tier.{Tier as Stored}
use Rattle.stored_tier.specs.Sites.{Serves}
use Rattle.outside.specs.Sites.{SiteState}
use Rattle.stored_tier.specs.Stored.{IsStoredAs, without_list}
use Rattle.cache_engine.specs.Writing.{JudgesWrites, writes_through}
use Rattle.stored_tier.proofs.BankLaws.{behind, behind_at, call_behind, stays_at, told_behind}

-- tables of writethrough groups

pub written_seen : (groups : List Group) (table : TableId) → is_table_of is_writethrough (map without_list groups) table ≡ is_table_of is_writethrough groups table
written_seen [] table = refl
written_seen (g ∷ groups) table = ap (λ b. (is_writethrough g && covers table g) || b) (written_seen groups table)

name_written : (t : Stored) (a : Tier) (name : List ℕ) → IsStoredAs t a → writes_through t name ≡ is_name_of (is_written_through a) a name
name_written t a name is = by (place_of_table t.schema name) refl
  where
    groups : (table : TableId) → is_table_of is_writethrough (groups_in t.catalog) table ≡ is_written_through a table
    groups table = ap (λ gs. is_table_of is_writethrough gs table) (sym is.groups) ∙ written_seen a.groups table

    by : (o : Option TableId) → place_of_table t.schema name ≡ o → writes_through t name ≡ is_name_of (is_written_through a) a name
    by None e = rw e (rw is.schema (rw e refl))
    by (Some table) e = rw e (rw is.schema (rw e (groups table)))

-- the first write on one

first_found : (a : Tier) (writes : List Write) → option_map (λ w. named code.WritethroughTable (table_of w)) (find (λ w. is_name_of (is_written_through a) a (table_of w)) writes) ≡ first_writethrough a writes
first_found a [] = refl
first_found a (w ∷ writes) = by (is_name_of (is_written_through a) a (table_of w)) (first_found a writes)
  where
    by : (b : Bool) → option_map (λ x. named code.WritethroughTable (table_of x)) (find (λ x. is_name_of (is_written_through a) a (table_of x)) writes) ≡ first_writethrough a writes → option_map (λ x. named code.WritethroughTable (table_of x)) (cond b (Some w) (find (λ x. is_name_of (is_written_through a) a (table_of x)) writes)) ≡ cond b (Some (named code.WritethroughTable (table_of w))) (first_writethrough a writes)
    by true rest = refl
    by false rest = rest

find_same : (p q : Write → Bool) (writes : List Write) → ((w : Write) → p w ≡ q w) → find p writes ≡ find q writes
find_same p q [] same = refl
find_same p q (w ∷ writes) same = ap (λ b. cond b (Some w) (find p writes)) (same w) ∙ ap (λ o. cond (q w) (Some w) o) (find_same p q writes same)

first_seen : (t : Stored) (a : Tier) (writes : List Write) → IsStoredAs t a → option_map (λ w. named code.WritethroughTable (table_of w)) (find (λ w. writes_through t (table_of w)) writes) ≡ first_writethrough a writes
first_seen t a writes is =
    ap (option_map (λ w. named code.WritethroughTable (table_of w))) (find_same (λ w. writes_through t (table_of w)) (λ w. is_name_of (is_written_through a) a (table_of w)) writes (λ w. name_written t a (table_of w) is))
    ∙ first_found a writes

-- what refuses them

abbrev behind_names : Tier → List Write → Result (List (Result PlacedChange Rule)) Rule → Option Rule
behind_names a writes named = option_or (rule_in named) (option_or (rule_in (then_do all_sound named)) (first_writethrough a writes))

unresolved : (a : Tier) (writes : List Write) (named : Result (List (Result PlacedChange Rule)) Rule) (rule : Rule) → then_do all_sound named ≡ Err rule → behind_names a writes named ≡ Some rule
unresolved a writes (Ok changes) rule e = ap (λ r. option_or (rule_in r) (first_writethrough a writes)) e
unresolved a writes (Err other) rule e = ap rule_in e

resolved_so : (a : Tier) (writes : List Write) (named : Result (List (Result PlacedChange Rule)) Rule) (changes : List PlacedChange) → then_do all_sound named ≡ Ok changes → behind_names a writes named ≡ first_writethrough a writes
resolved_so a writes (Ok found) changes e = ap (λ r. option_or (rule_in r) (first_writethrough a writes)) e
resolved_so a writes (Err other) changes e = cc

pub writes_refused : (t : Stored) (writes : List Write) (rule : Rule) → resolved_writes t.schema writes ≡ Err rule → (a : Tier) → IsStoredAs t a → JudgesWrites a writes (Err (refused.Rule rule))
writes_refused t writes rule e a is = unresolved a writes (named_writes a.schema writes) rule (ap (λ schema. resolved_writes schema writes) is.schema ∙ e)

pub writes_grouped : (t : Stored) (writes : List Write) (changes : List Change) (w : Write) → resolved_writes t.schema writes ≡ Ok (changes_seen changes) → find (λ x. writes_through t (table_of x)) writes ≡ Some w → (a : Tier) → IsStoredAs t a → JudgesWrites a writes (Err (refused.Rule (named code.WritethroughTable (table_of w))))
writes_grouped t writes changes w e first a is =
    resolved_so a writes (named_writes a.schema writes) (changes_seen changes) (ap (λ schema. resolved_writes schema writes) is.schema ∙ e)
    ∙ sym (first_seen t a writes is) ∙ ap (option_map (λ x. named code.WritethroughTable (table_of x))) first

pub writes_judged : (t : Stored) (writes : List Write) (changes : List Change) → resolved_writes t.schema writes ≡ Ok (changes_seen changes) → find (λ x. writes_through t (table_of x)) writes ≡ None → (a : Tier) → IsStoredAs t a → JudgesWrites a writes (Ok changes)
writes_judged t writes changes e first a is =
    let resolved : resolved_writes a.schema writes ≡ Ok (changes_seen changes) = ap (λ schema. resolved_writes schema writes) is.schema ∙ e in (
      resolved_so a writes (named_writes a.schema writes) (changes_seen changes) resolved
          ∙ sym (first_seen t a writes is) ∙ ap (option_map (λ x. named code.WritethroughTable (table_of x))) first,
      resolved,
    )

-- the statement

pub console_refused : (t : Stored) (writes : List Write) (before : SiteState) (e : Refused) (reply : Reply) → ((a : Tier) → IsStoredAs t a → JudgesWrites a writes (Err e)) → reply ≡ reply_to e → Serves t t before before (λ w w'. Tries (DoesConsole (console.Writes writes)) w w' reply)
console_refused t writes before (refused.Rule rule) reply judged is = λ w at stored.
    stays_at t before w (λ w'. Tries (DoesConsole (console.Writes writes)) w w' reply) at stored
    (inl (subst (λ fault. Unless fault (WritesAll writes) w w reply) (sym (judged w.tier stored)) (refl, is)))
console_refused t writes before refused.Memory reply judged is = λ w at stored.
    stays_at t before w (λ w'. Tries (DoesConsole (console.Writes writes)) w w' reply) at stored (inr (refl, is))

pub console_written : (t : Stored) (writes : List Write) (before after : SiteState) (changes given : List Change) (result : Result Wrote BankError) (reply : Reply)
    → given ≡ changes → ((a : Tier) → IsStoredAs t a → JudgesWrites a writes (Ok changes))
    → site.Told before.held after.held (site.BankCall before.shared (WritesForeign given result))
    → before.bank_faults ≤ after.bank_faults → before.moment ≤ after.moment → after.shared ≡ before.shared → reply ≡ passed_reply result
    → Serves t t before after (λ w w'. Tries (DoesConsole (console.Writes writes)) w w' reply)
console_written t writes before after changes given result reply same judged given_told faults moment shares is = λ w at stored.
    let told = subst (λ cs. site.Told before.held after.held (site.BankCall before.shared (WritesForeign cs result))) same given_told in
    let now = told_behind at.there before.held after.held (site.BankCall before.shared (WritesForeign changes result)) at.told told in
    let w' = behind w w.tier now.there after in
    let one = judged w.tier stored in
    record {
      world = w';
      at = behind_at w w.tier before after now.there at now.told shares;
      stored = stored;
      is = inl (subst (λ fault. Unless fault (WritesAll writes) w w' reply) (sym one.0) (record {
        changes = changes;
        stand_for = one.1;
        result = result;
        call = call_behind w w.tier before after now.there (WritesForeign changes result) at now.is faults moment;
        tier = refl;
        answer = is;
      }));
    }
