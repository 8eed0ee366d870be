-- The console's writes leave the tables of writethrough groups alone.
use Rattle.std.proofs.Common.{◌≡◌, Bool, true, false, cond, Option, Some, None, List, [], ◌∷◌, map, slice_get, refl, sym, ap, ◌∙◌, subst}
use Rattle.std.specs.Prelude.{Result, Ok, Err}
use Rattle.tier_base.specs.declared.number.TableId.{TableId}
use Rattle.row_types.specs.declared.rule.Rule.{Rule}
use Rattle.table_defs.specs.declared.definition.TableDef.{TableDef}
use Rattle.table_state.specs.Copies.{is_one_of}
use Rattle.evaluator.specs.declared.change.Change.{Change}
use Rattle.evaluator.specs.Rules.{then_do}
use Rattle.sql_query.specs.declared.write.Write.{Write}
use Rattle.table_defs.specs.Names.{place_of_table}
use Rattle.resolution.specs.Results.{both, then_make}
use Rattle.resolution.specs.Writes.{PlacedAction, PlacedChange, all_sound, change_of, change_seen, named_action, named_at, named_on, named_write, named_writes, table_of}
use Rattle.order_laws.specs.Standing.{live_tables}
use Rattle.cache_tier.specs.ConsoleSteps.{first_writethrough, is_name_of}
use Rattle.cache_tier.specs.Routes.{is_written_through}
use Rattle.cache_tier.specs.Rules.{named}
use Rattle.tier_base.specs.declared.code.Code.TheVariants as code
use Rattle.cache_tier.specs.TierStates.{Tier}
use Rattle.cache_tier.specs.StandingBetween.{live_groups_of}
use Rattle.cache_tier.proofs.GroupTables.{live_table}
use Rattle.session_engine.proofs.OffLaws.{AreApart}

-- the tables that writes are on

abbrev pub live_of : Tier → List TableId
live_of a = live_tables (live_groups_of a.groups)

abbrev PlacedApart : List TableId → List PlacedChange → Type 0
PlacedApart live [] = Unit {0}
PlacedApart live (p ∷ ps) = (is_one_of live p.table ≡ false) × PlacedApart live ps

-- the change is on the table of its write's name
record IsOnNamed (schema : List TableDef) (w : Write) (p : PlacedChange) : Type 0 where
  table : TableId
  named : place_of_table schema (table_of w) ≡ Some table
  is : p.table ≡ table

made_on : (t : TableId) (r : Result (Result PlacedAction Rule) Rule) (p : PlacedChange) → then_make (λ action. then_make (change_of t) action) r ≡ Ok (Ok p) → p.table ≡ t
made_on t (Err x) p e = cc
made_on t (Ok (Err x)) p e = cc
made_on t (Ok (Ok action)) p e = let same : change_of t action ≡ p = cc in ap (λ (z : PlacedChange). z.table) (sym same)

on_table : (w : Write) (t : TableId) (o : Option TableDef) (p : PlacedChange) → named_on w t o ≡ Ok (Ok p) → p.table ≡ t
on_table w t None p e = cc
on_table w t (Some def) p e = made_on t (named_action def w) p e

on_named : (schema : List TableDef) (w : Write) (p : PlacedChange) → named_write schema w ≡ Ok (Ok p) → IsOnNamed schema w p
unfolding named_write
on_named schema w p e = by (place_of_table schema (table_of w)) refl e
  where
    by : (o : Option TableId) → place_of_table schema (table_of w) ≡ o → named_at schema w o ≡ Ok (Ok p) → IsOnNamed schema w p
    by None is e = cc
    by (Some t) is e = record { table = t; named = is; is = on_table w t (slice_get schema t.0) p e }

not_through : (a : Tier) (w : Write) (p : PlacedChange) → IsOnNamed a.schema w p → is_name_of (is_written_through a) a (table_of w) ≡ false → is_one_of (live_of a) p.table ≡ false
not_through a w p on none =
    let named = on.named in
    let through = rw named at none in
    ap (is_one_of (live_of a)) on.is ∙ live_table a.groups on.table ∙ through

no_first : (b : Bool) (rule : Rule) (rest : Option Rule) → cond b (Some rule) rest ≡ None → (b ≡ false) × (rest ≡ None)
no_first true rule rest e = cc
no_first false rule rest e = (refl, e)

both_ok : {A B C : Type 0} (f : A → B → C) (x : Result A Rule) (y : Result B Rule) (z : C) → both f x y ≡ Ok z → (a : A) × (b : B) × (x ≡ Ok a) × (y ≡ Ok b) × (f a b ≡ z)
both_ok f (Err e) y z is = cc
both_ok f (Ok a) (Err e) z is = cc
both_ok f (Ok a) (Ok b) z is = let same : f a b ≡ z = cc in (a, b, refl, refl, same)

placed_apart : (a : Tier) (writes : List Write) (found : List (Result PlacedChange Rule)) (ps : List PlacedChange) → named_writes a.schema writes ≡ Ok found → all_sound found ≡ Ok ps → first_writethrough a writes ≡ None → PlacedApart (live_of a) ps
placed_apart a [] found ps is sound none =
    let empty : [] ≡ found = cc in
    let all : [] ≡ ps = let e : all_sound [] ≡ Ok ps = ap all_sound empty ∙ sound in cc in
    subst (PlacedApart (live_of a)) all tt
placed_apart a (w ∷ writes) found ps is sound none =
    let parts = both_ok (λ change changes. change ∷ changes) (named_write a.schema w) (named_writes a.schema writes) found is in
    let e : both (λ x xs. x ∷ xs) parts.0 (all_sound parts.1) ≡ Ok ps = ap all_sound parts.4 ∙ sound in
    let each = both_ok (λ (x : PlacedChange) xs. x ∷ xs) parts.0 (all_sound parts.1) ps e in
    let first = no_first (is_name_of (is_written_through a) a (table_of w)) (named code.WritethroughTable (table_of w)) (first_writethrough a writes) none in
    let on = on_named a.schema w each.0 (parts.2 ∙ ap (λ r. Ok r) each.2) in
    subst (PlacedApart (live_of a)) each.4 (not_through a w each.0 on first.0, placed_apart a writes parts.1 each.1 parts.3 each.3 first.1)

seen_apart : (live : List TableId) (changes : List Change) → PlacedApart live (map change_seen changes) → AreApart live changes
seen_apart live [] apart = tt
seen_apart live (change ∷ changes) apart = (apart.0, seen_apart live changes apart.1)

pub resolved_apart : (a : Tier) (writes : List Write) (changes : List Change) (r : Result (List (Result PlacedChange Rule)) Rule) → named_writes a.schema writes ≡ r → then_do all_sound r ≡ Ok (map change_seen changes) → first_writethrough a writes ≡ None → AreApart (live_of a) changes
resolved_apart a writes changes (Err x) is sound none = cc
resolved_apart a writes changes (Ok found) is sound none = seen_apart (live_of a) changes (placed_apart a writes found (map change_seen changes) is sound none)
