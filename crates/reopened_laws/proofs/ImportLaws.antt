-- The command `import` leaves a site that may be opened again.
use Rattle.std.proofs.Common.{◌≡◌, ℕ, ◌+◌, ◌≤◌, ◌^◌, Bool, true, false, not, Option, Some, None, Result, Ok, Err, List, [], ◌∷◌, ◌++◌, inl, inr, refl, sym, ap, subst, ◌∙◌, append-nil}
use Rattle.std.specs.Prelude.{nat_lt, ◌==◌, if◌then◌else◌}
use Rattle.tier_base.specs.declared.limit.Limit.TheVariants.{Operations}
use Rattle.tier_base.specs.declared.number.TableId.{TableId}
use Rattle.tier_base.specs.Limits.{greatest}
use Rattle.row_types.specs.declared.column.Column.{Column}
use Rattle.row_types.specs.declared.rule.Rule.{Rule}
use Rattle.row_types.specs.declared.value.Value.{Value}
use Rattle.expressions.specs.Trees.{Expr}
use Rattle.evaluator.specs.declared.change.Change.{Change}
use Rattle.evaluator.specs.Rules.{added, limit, then_do}
use Rattle.evaluator.specs.Writes.{built}
use Rattle.csv_import.specs.Inserts.{given_by, insert_in, insert_of, inserts_from, is_record, kept_insert, listed, literals_in, name_columns, records_in, wrong_record}
use Rattle.table_state.specs.declared.history.Entry.{Entry}
use Rattle.table_state.specs.declared.history.Sealed.{Sealed}
use Rattle.order_laws.proofs.CountLaws.{defs_of}
use Rattle.outside.specs.Holding.{Held}
use Rattle.outside.specs.Others.{is_shared}
use Rattle.outside.specs.Sites.{SiteState}
use Rattle.cache_tier.specs.Groups.{is_table_of, is_writethrough}
use Rattle.cache_tier.specs.Routes.{is_written_through}
use Rattle.cache_tier.specs.StandingBetween.{Stands}
use Rattle.cache_tier.specs.TierStates.{Tier}
use Rattle.cache_tier.specs.Worlds.{IsUnshared, Tries, World}
use Rattle.cache_tier.specs.declared.reply.Reply.{Reply}
use Rattle.cache_tier.proofs.GroupTables.{live_table}
use Rattle.cache_engine.specs.Importing.{Asked, Imports, ImportsRead, inserts_behind, inserts_for, inserts_into, table_asked}
use Rattle.line_laws.proofs.ConsoleStatements.{wrote}
use Rattle.recovery.specs.Journalled.{IsJournalledOn}
use Rattle.recovery.proofs.OthersLaws.{on_then}
use Rattle.run_laws.specs.Lines.{IsLeft, IsLeftBy}
use Rattle.run_laws.specs.Runs.{Reopened}
use Rattle.run_laws.proofs.OffLaws.{AreApart, live_of, off_live}
use Rattle.run_laws.proofs.RefusalLaws.{ops_off}
use Rattle.run_laws.proofs.RunKeeps.{ticket_left}
use Rattle.stored_tier.specs.Sites.{IsAt}
use Rattle.tier_opening.specs.Opening.{MayOpen}
use Rattle.session_cli.specs.declared.serving.Status.{Status}
use Rattle.session_cli.specs.declared.serving.Status.TheVariants.{Finished, SourceFailed, SinkFailed, DiskFailed, SchemaFailed, NoMemory, LineUnchecked, Damaged, Differs, InputTooLong}
use Rattle.session_cli.specs.Importing.{ImportEnds}
use Rattle.session_cli.specs.Outside.{IsInSlots, seen}
use Rattle.reopened_laws.specs.Ending.{ImportsLeaveSites, MayOpenAgain}
use Rattle.reopened_laws.proofs.EndedRuns.{bytes_at, kept_at, named_at}
use Rattle.reopened_laws.proofs.ReadOpenings.{opened_readable}
use Rattle.reopened_laws.proofs.ReadParts.{Readable, around, bank, defs_same, of_tier}
use Rattle.reopened_laws.proofs.ReadRuns.{readable_told}
use Rattle.reopened_laws.proofs.ReadStatements.{foreign_none}
use Rattle.reopened_laws.proofs.ReadTiers.{rests}
use Rattle.reopened_laws.proofs.RunEnds.{begins_again}
use Rattle.reopened_laws.proofs.SchemaLaws.{front_same}
use Rattle.reopened_laws.proofs.SiteLaws.{may_open}
use Rattle.reopened_laws.proofs.SlotLaws.{left_at}

-- ---- the rows of a file go into one table

module _ (side : TableId → Bool) (id : TableId) (there : side id ≡ true) where
  both_apart : (xs ys : List Change) → AreApart side xs → AreApart side ys → AreApart side (xs ++ ys)
  both_apart [] ys a b = b
  both_apart (x ∷ xs) ys a b = (a.0, both_apart xs ys a.1 b)

  kept_on : (values : List Expr) (r : Result (List Value) Rule) (c : Change) → then_do (λ row. Ok (insert_of id values)) r ≡ Ok c → c.table ≡ id
  kept_on values (Ok row) c e = let is : insert_of id values ≡ c = cc in sym (ap (λ (x : Change). x.table) is)
  kept_on values (Err x) c e = cc

  literals_on : (columns : List Column) (r : Result (List Expr) Rule) (c : Change) → then_do (kept_insert id columns) r ≡ Ok c → c.table ≡ id
  literals_on columns (Ok values) c e = kept_on values (built columns values []) c e
  literals_on columns (Err x) c e = cc

  insert_on : (b : Bool) (columns : List Column) (number : ℕ) (r : Result (List Expr) Rule) (c : Change) → (if b then then_do (kept_insert id columns) r else Err (wrong_record number)) ≡ Ok c → c.table ≡ id
  insert_on true columns number r c e = literals_on columns r c e
  insert_on false columns number r c e = cc

  listed_on : (r : Result Change Rule) (xs : List Change) → ((c : Change) → r ≡ Ok c → c.table ≡ id) → listed r ≡ Ok xs → AreApart side xs
  listed_on (Ok c) xs on e =
      let is : c ∷ [] ≡ xs = cc in
      subst (AreApart side) is (ap side (on c refl) ∙ there, tt)
  listed_on (Err x) xs on e = cc

  given_on : (first past names : Bool) (r : Result Change Rule) (xs : List Change) → ((c : Change) → r ≡ Ok c → c.table ≡ id)
      → (if first then (if names then Ok [] else Err (wrong_record 0)) else (if past then Err (limit Operations) else listed r)) ≡ Ok xs → AreApart side xs
  given_on true past true r xs on e = let is : [] ≡ xs = cc in subst (AreApart side) is tt
  given_on true past false r xs on e = cc
  given_on false true names r xs on e = cc
  given_on false false names r xs on e = listed_on r xs on e

  none_on : (first : Bool) (xs : List Change) → (if first then Err (wrong_record 0) else Ok []) ≡ Ok xs → AreApart side xs
  none_on true xs e = cc
  none_on false xs e = let is : [] ≡ xs = cc in subst (AreApart side) is tt

  inserts_on : (columns : List Column) (number : ℕ) (records : List (List (List ℕ))) (xs : List Change) → inserts_from id columns number records ≡ Ok xs → AreApart side xs
  inserts_on columns number [] xs e = none_on (number == 0) xs e
  inserts_on columns number (fields ∷ records) xs e = by (given_by id columns number fields) refl (inserts_from id columns (number + 1) records) (inserts_on columns (number + 1) records) e
    where
      given : (ys : List Change) → given_by id columns number fields ≡ Ok ys → AreApart side ys
      given ys p = given_on (number == 0) (nat_lt (greatest Operations) number) (name_columns columns fields) (insert_in id columns number fields) ys (λ c q. insert_on (is_record columns fields) columns number (literals_in columns fields) c q) p

      by : (a : Result (List Change) Rule) → given_by id columns number fields ≡ a → (b : Result (List Change) Rule) → ((zs : List Change) → b ≡ Ok zs → AreApart side zs) → added a b ≡ Ok xs → AreApart side xs
      by (Ok ys) p (Ok zs) q e =
          let is : ys ++ zs ≡ xs = cc in
          subst (AreApart side) is (both_apart ys zs (given ys p) (q zs refl))
      by (Ok ys) p (Err x) q e = cc
      by (Err x) p b q e = cc

-- which is none of a live writethrough group
import_off : (t : Tier) (word bytes : List ℕ) (changes : List Change) → inserts_for t word bytes ≡ Ok changes → AreApart (off_live (live_of t)) changes
import_off t word bytes changes e = into (table_asked t.schema word) e
  where
    behind : (asked : Asked) (b : Bool) → is_written_through t asked.id ≡ b → inserts_behind b word asked bytes ≡ Ok changes → AreApart (off_live (live_of t)) changes
    behind asked true is e = cc
    behind asked false is e = inserts_on (off_live (live_of t)) asked.id (ap not (live_table t.groups asked.id ∙ is)) asked.def.columns 0 (records_in bytes) changes e

    into : (asked : Option Asked) → inserts_into t word asked bytes ≡ Ok changes → AreApart (off_live (live_of t)) changes
    into None e = cc
    into (Some asked) e = behind asked (is_written_through t asked.id) refl e

-- ---- the import

-- the world's journal is its tier's, and nothing but its history has got longer since, by which no table was defined
pub record ComesBy (w w' : World) (early : List Sealed) : Type 0 where
  pub on : IsJournalledOn w' early
  pub reads : Readable w'
  pub more : List Entry
  pub is : w'.history ≡ w.history ++ more
  pub defs : defs_of w'.history ≡ defs_of w.history
  pub shared : w'.shared ≡ w.shared
  pub journal : w'.journal ≡ w.journal
  pub tier : w'.tier ≡ w.tier

pub stays : (w w' : World) (early : List Sealed) → IsJournalledOn w early → Readable w → w' ≡ w → ComesBy w w' early
stays w w' early on reads e = subst (λ v. ComesBy w v early) (sym e) (record { on = on; reads = reads; more = []; is = sym (append-nil w.history); defs = refl; shared = refl; journal = refl; tier = refl })

pub import_comes : (word bytes : List ℕ) (w w' : World) (reply : Reply) (early : List Sealed) → Stands w → IsJournalledOn w early → IsUnshared w → Readable w → Tries (Imports word bytes) w w' reply → ComesBy w w' early
import_comes word bytes w w' reply early stands on apart reads (inr q) = stays w w' early on reads q.0
import_comes word bytes w w' reply early stands on apart reads (inl q) = by (inserts_for w.tier word bytes) refl q
  where
    by : (r : Result (List Change) Rule) → inserts_for w.tier word bytes ≡ r → ImportsRead r w w' reply → ComesBy w w' early
    by (Err rule) is q = stays w w' early on reads q.0
    by (Ok []) is q = stays w w' early on reads q.0
    by (Ok (change ∷ changes)) is q = let adds = around w w' _ (foreign_none (change ∷ changes) q.result) q.call.history in record {
      on =
          on_then w' early on.now on.more on.grows
          (wrote w w' on.now stands on.is apart (change ∷ changes)
          (λ ops rows b s leaves same done. ops_off w (change ∷ changes) ops rows b s stands (import_off w.tier word bytes (change ∷ changes) is) leaves same done) q.tier q.call.journal q.call.shared q.result q.call.history);
      reads = bank w w' _ (foreign_none (change ∷ changes) q.result) (of_tier w.tier w'.tier _ q.tier (rests w.tier)) q.call reads;
      more = adds.more;
      is = adds.is;
      defs = defs_same w.history w'.history adds;
      shared = q.call.shared;
      journal = q.call.journal;
      tier = q.tier;
    }

-- ---- what is left

module _ (w last : World) (site : SiteState) (left : Held) (stands : Stands w) (certain : w.tier.doubt ≡ None) (apart_before : IsUnshared w) (c : ComesBy w last []) (at : IsAt site last) (slots : IsInSlots site last) (told : site.held ≡ Some left) where
  left_before : IsLeft w
  left_before = subst (λ o. IsLeftBy o w) (sym certain) stands

  cap : last.tier.next ≤ 2 ^ 63
  cap = subst (λ (t : Tier). t.next ≤ 2 ^ 63) (sym c.tier) (ticket_left w left_before)

  apart : IsUnshared last
  apart t e = ap (λ (a : Tier). is_table_of is_writethrough a.groups t) c.tier ∙ apart_before t (sym (ap (λ s. is_shared s t) c.shared) ∙ e)

  opens_again : MayOpenAgain site.shared left
  opens_again =
      let read = readable_told last c.reads in
      let front = front_same w last left_before (ap (λ (t : Tier). t.schema) c.tier) c.defs in
      record {
        may = subst (λ s. MayOpen s left) at.shared (may_open last c.on.now left cap c.on.is apart (left_at left last (kept_at site last left at slots front read told)));
        bytes = bytes_at site last left slots told;
        named = named_at site last left at read told;
      }

module _ {D : Type 0} (state : D → SiteState) (possible : D → ℕ → Held → Type 0) where
  pub imports_leave_sites : ImportsLeaveSites state possible
  imports_leave_sites onset status settings there left word input written written' coming coming' d d' source x may told = by status x.ended
    where
      may_there : MayOpenAgain x.world.shared there
      may_there = record { may = subst (λ s. MayOpen s there) (sym x.shares) may.may; bytes = may.bytes; named = may.named }

      again : Reopened x.world []
      again = begins_again settings x.first there x.world x.opens may_there.may

      reads : Readable x.world
      reads = opened_readable settings x.first there x.world x.opens may_there.named

      came : (last : World) → ComesBy x.world last [] → IsAt (state d') last → IsInSlots (state d') last → MayOpenAgain (state d').shared left
      came last c at slots = opens_again x.world last (state d') left x.stands x.certain again.unshared c at slots told

      done : (last : World) (reply : Reply) → Tries (Imports word input) x.world last reply → IsAt (state d') last → IsInSlots (state d') last → MayOpenAgain (state d').shared left
      done last reply is at slots = came last (import_comes word input x.world last reply [] x.stands again.on again.unshared reads is) at slots

      nothing : IsAt (state d') x.world → IsInSlots (state d') x.world → MayOpenAgain (state d').shared left
      nothing at slots = came x.world (stays x.world x.world [] again.on reads refl) at slots

      by : (s : Status) → ImportEnds s word input x.world (seen written coming state possible d) source (seen written' coming' state possible d') → MayOpenAgain (state d').shared left
      by Finished e = done e.imported.world e.imported.reply e.imported.is e.imported.at e.imported.slots
      by SinkFailed e = done e.imported.world e.imported.reply e.imported.is e.imported.at e.imported.slots
      by SourceFailed e = nothing e.1.at e.1.slots
      by InputTooLong e = nothing e.1.at e.1.slots
      by NoMemory e = nothing e.at e.slots
      by DiskFailed e = absurd e
      by SchemaFailed e = absurd e
      by LineUnchecked e = absurd e
      by Damaged e = absurd e
      by Differs e = absurd e
