-- The rows of a file over what is stored.
use Rattle.std.proofs.Common.{◌≡◌, ◌≤◌, ℕ, Bool, true, false, Option, Some, None, List, [], ◌∷◌, refl, sym, ap, ◌∙◌, subst, inl, inr}
use Rattle.std.specs.Prelude.{Result, Ok, Err, ◌==◌, length, slice_get, vec_items, if◌then◌else◌}
use Rattle.std.specs.Global.{Vec}
use Rattle.std.specs.Option.{option_and_then}
use Rattle.tier_base.specs.Names.{folded, is_name}
use Rattle.tier_base.specs.declared.code.Code.TheVariants as code
use Rattle.tier_base.specs.declared.number.TableId.{TableId}
use Rattle.row_types.specs.declared.rule.Detail.TheVariants as detail
use Rattle.row_types.specs.declared.rule.Rule.{Rule}
use Rattle.row_types.specs.declared.rule.Refused.{Refused}
use Rattle.row_types.specs.declared.rule.Refused.TheVariants as refused
use Rattle.table_defs.specs.declared.definition.TableDef.{TableDef}
use Rattle.table_defs.specs.Names.{place_of_table}
use Rattle.evaluator.specs.declared.change.Change.{Change}
use Rattle.outside.specs.Calls as site
use Rattle.outside.specs.Console.{WritesForeign}
use Rattle.outside.specs.Sites.{SiteState}
use Rattle.outside.specs.declared.fault.BankError.{BankError}
use Rattle.outside.specs.declared.site.Done.{Done as Wrote}
use Rattle.csv_import.specs.Inserts.{GivesAll, inserts_of, records_in}
use Rattle.cache_tier.specs.Groups.{is_table_of, is_writethrough}
use Rattle.cache_tier.specs.PassedSteps.{passed_reply}
use Rattle.cache_tier.specs.Rules.{named}
use Rattle.cache_tier.specs.TierStates.{Tier}
use Rattle.cache_tier.specs.Worlds.{Tries, World, only}
use Rattle.cache_tier.specs.declared.reply.Reply.{Reply}
use Rattle.cache_tier.specs.declared.reply.Last.TheVariants.{Done}
use Rattle.group_catalog.specs.Catalogs.{groups_in}
use Rattle.tier_statements.specs.Replies.{reply_to}
use Rattle.stored_tier.specs.declared.tier.Tier.{Tier as Stored}
use Rattle.stored_tier.specs.Sites.{Serves}
use Rattle.stored_tier.specs.Stored.{IsStoredAs}
use Rattle.stored_tier.proofs.BankLaws.{behind, behind_at, call_behind, stays_at, told_behind}
use Rattle.cache_engine.specs.Importing.{FindsInserts, Imports, ImportsAll, ImportsRead, asked_at, inserts_behind, inserts_for, inserts_into, table_asked, unknown_rule}
use Rattle.cache_engine.proofs.WritingLaws.{written_seen}

-- THE INSERTS

abbrev no_name : Rule
no_name = record { code = code.UnknownTable; detail = detail.NoType }

pub word_bad : (a : Tier) (word bytes : List ℕ) → is_name word ≡ false → inserts_for a word bytes ≡ Err no_name
word_bad a word bytes bad =
    ap (λ b. inserts_into a word (if b then asked_at a.schema (place_of_table a.schema (folded word)) else None) bytes) bad
    ∙ ap (λ b. Err (if b then named code.UnknownTable (folded word) else no_name)) bad

module _ (t : Stored) (word bytes name : List ℕ) (good : is_name word ≡ true) (same : name ≡ folded word) where
  asked_so : (a : Tier) → IsStoredAs t a → (o : Option TableId) → place_of_table t.schema name ≡ o → table_asked a.schema word ≡ asked_at t.schema o
  asked_so a is o e =
      ap (λ b. if b then asked_at a.schema (place_of_table a.schema (folded word)) else None) good
      ∙ ap (λ schema. asked_at schema (place_of_table schema (folded word))) is.schema
      ∙ ap (λ n. asked_at t.schema (place_of_table t.schema n)) (sym same)
      ∙ ap (asked_at t.schema) e

  def_so : (table : TableId) (d : Option TableDef) → slice_get t.schema table.0 ≡ d → asked_at t.schema (Some table) ≡ option_and_then (λ def. Some (record { id = table; def = def })) d
  def_so table d e = ap (option_and_then (λ def. Some (record { id = table; def = def }))) e

  unknown_so : unknown_rule word ≡ named code.UnknownTable name
  unknown_so = ap (λ b. if b then named code.UnknownTable (folded word) else no_name) good ∙ ap (named code.UnknownTable) (sym same)

  pub table_missing : place_of_table t.schema name ≡ None → (a : Tier) → IsStoredAs t a → inserts_for a word bytes ≡ Err (named code.UnknownTable name)
  table_missing e a is = ap (λ o. inserts_into a word o bytes) (asked_so a is None e) ∙ ap Err unknown_so

  pub def_missing : (table : TableId) → place_of_table t.schema name ≡ Some table → slice_get t.schema table.0 ≡ None → (a : Tier) → IsStoredAs t a → inserts_for a word bytes ≡ Err (named code.UnknownTable name)
  def_missing table e d a is = ap (λ o. inserts_into a word o bytes) (asked_so a is (Some table) e ∙ def_so table None d) ∙ ap Err unknown_so

  table_found : (table : TableId) (def : TableDef) → place_of_table t.schema name ≡ Some table → slice_get t.schema table.0 ≡ Some def → (b : Bool) → is_table_of is_writethrough (groups_in t.catalog) table ≡ b
      → (a : Tier) → IsStoredAs t a → inserts_for a word bytes ≡ inserts_behind b word (record { id = table; def = def }) bytes
  table_found table def e d b through a is =
      ap (λ o. inserts_into a word o bytes) (asked_so a is (Some table) e ∙ def_so table (Some def) d)
      ∙ ap (λ x. inserts_behind x word (record { id = table; def = def }) bytes)
      (sym (ap (λ gs. is_table_of is_writethrough gs table) (sym is.groups) ∙ written_seen a.groups table) ∙ through)

  pub table_grouped : (table : TableId) (def : TableDef) → place_of_table t.schema name ≡ Some table → slice_get t.schema table.0 ≡ Some def → is_table_of is_writethrough (groups_in t.catalog) table ≡ true
      → (a : Tier) → IsStoredAs t a → inserts_for a word bytes ≡ Err (named code.WritethroughTable name)
  table_grouped table def e d through a is = table_found table def e d true through a is ∙ ap (λ n. Err (named code.WritethroughTable n)) (sym same)

  pub rows_read : (table : TableId) (def : TableDef) → place_of_table t.schema name ≡ Some table → slice_get t.schema table.0 ≡ Some def → is_table_of is_writethrough (groups_in t.catalog) table ≡ false
      → (result : Result (Vec Change) Refused) → GivesAll vec_items (inserts_of table def (records_in bytes)) result → (a : Tier) → IsStoredAs t a → FindsInserts a word bytes result
  rows_read table def e d through (Ok inserts) gives a is = table_found table def e d false through a is ∙ gives
  rows_read table def e d through (Err (refused.Rule rule)) gives a is = table_found table def e d false through a is ∙ gives
  rows_read table def e d through (Err refused.Memory) gives a is = tt

-- THE COMMAND

pub import_refused : (t : Stored) (word bytes : List ℕ) (before : SiteState) (e : Refused) (reply : Reply) → ((a : Tier) → IsStoredAs t a → FindsInserts a word bytes (Err e)) → reply ≡ reply_to e
    → Serves t t before before (λ w w'. Tries (Imports word bytes) w w' reply)
import_refused t word bytes before (refused.Rule rule) reply found is = λ w at stored.
    stays_at t before w (λ w'. Tries (Imports word bytes) w w' reply) at stored
    (inl (subst (λ r. ImportsRead r w w reply) (sym (found w.tier stored)) (refl, is)))
import_refused t word bytes before refused.Memory reply found is = λ w at stored.
    stays_at t before w (λ w'. Tries (Imports word bytes) w w' reply) at stored (inr (refl, is))

pub import_none : (t : Stored) (word bytes : List ℕ) (before : SiteState) (inserts : Vec Change) (reply : Reply) → ((a : Tier) → IsStoredAs t a → FindsInserts a word bytes (Ok inserts)) → inserts.items ≡ [] → reply ≡ only (Done 0)
    → Serves t t before before (λ w w'. Tries (Imports word bytes) w w' reply)
import_none t word bytes before inserts reply found none is = λ w at stored.
    stays_at t before w (λ w'. Tries (Imports word bytes) w w' reply) at stored
    (inl (subst (λ r. ImportsRead r w w reply) (sym (found w.tier stored ∙ ap Ok none)) (refl, is)))

-- the list of a length above 0 has something
pub some_items : (n : ℕ) (xs given : List Change) → length given ≡ n → given ≡ xs → (n == 0) ≡ false → xs ≡ [] → ⊥
some_items n xs given len same some none = never (ap (λ m. m == 0) zero ∙ some)
  where
    zero : 0 ≡ n
    zero = sym (ap length (same ∙ none)) ∙ len

    never : true ≡ false → ⊥
    never e = cc

some_read : (changes : List Change) (w w' : World) (reply : Reply) → (changes ≡ [] → ⊥) → ImportsAll changes w w' reply → ImportsRead (Ok changes) w w' reply
some_read [] w w' reply some x = absurd (some refl)
some_read (change ∷ changes) w w' reply some x = x

pub import_done : (t : Stored) (word bytes : List ℕ) (before after : SiteState) (inserts : Vec Change) (given : List Change) (result : Result Wrote BankError) (reply : Reply)
    → given ≡ inserts.items → (inserts.items ≡ [] → ⊥) → ((a : Tier) → IsStoredAs t a → FindsInserts a word bytes (Ok inserts))
    → site.Told before.held after.held (site.BankCall before.shared (WritesForeign given result))
    → before.bank_faults ≤ after.bank_faults → before.moment ≤ after.moment → after.shared ≡ before.shared → reply ≡ passed_reply result
    → Serves t t before after (λ w w'. Tries (Imports word bytes) w w' reply)
import_done t word bytes before after inserts given result reply same some found given_told faults moment shares is = λ w at stored.
    let told = subst (λ cs. site.Told before.held after.held (site.BankCall before.shared (WritesForeign cs result))) same given_told in
    let now = told_behind at.there before.held after.held (site.BankCall before.shared (WritesForeign inserts.items result)) at.told told in
    let w' = behind w w.tier now.there after in
    record {
      world = w';
      at = behind_at w w.tier before after now.there at now.told shares;
      stored = stored;
      is = inl (subst (λ r. ImportsRead r w w' reply) (sym (found w.tier stored)) (some_read inserts.items w w' reply some (record {
        result = result;
        call = call_behind w w.tier before after now.there (WritesForeign inserts.items result) at now.is faults moment;
        tier = refl;
        answer = is;
      })));
    }
