-- Writes on tables of no live writethrough group touch none.
use Rattle.std.proofs.Common.{◌≡◌, ℕ, zero, suc, ◌+◌, Bool, true, false, not, cond, ◌&&◌, Option, Some, None, List, [], ◌∷◌, ◌++◌, map, slice_get, unwrap_or, refl, sym, ap, ◌∙◌, subst, arith}
use Rattle.std.specs.Prelude.{Result, Ok, Err, ◌-◌, nat_lt, length}
use Rattle.std.specs.List.{filter, flat_map, list_all}
use Rattle.std.specs.FinMap.{values}
use Rattle.std.proofs.lemmas.Bool.{eqb-true}
use Rattle.std.proofs.lemmas.List.Folds.{list_all-append}
use Rattle.tier_base.specs.declared.number.TableId.{TableId}
use Rattle.tier_base.specs.declared.limit.Limit.TheVariants.{Rows, Operations}
use Rattle.row_types.specs.declared.rule.Rule.{Rule}
use Rattle.row_types.specs.declared.truth.Truth.{Truth}
use Rattle.row_types.specs.declared.truth.Truth.TheVariants.{True, False, Unknown}
use Rattle.row_types.specs.declared.value.Value.{Value}
use Rattle.table_defs.specs.Names.{table_id}
use Rattle.table_defs.specs.declared.definition.ForeignKey.{ForeignKey}
use Rattle.table_defs.specs.declared.definition.TableDef.{TableDef}
use Rattle.table_state.specs.declared.operation.Op.{Op}
use Rattle.table_state.specs.declared.operation.Op.TheVariants as op
use Rattle.table_state.specs.declared.refusal.ApplyError.{ApplyError}
use Rattle.table_state.specs.Copies.{is_one_of}
use Rattle.table_state.specs.Operations.{applied_all}
use Rattle.table_state.specs.Refusals.{broken_by_all}
use Rattle.table_state.specs.Tables.{TableState, table_at}
use Rattle.order_laws.proofs.NextLaws.{all_defined}
use Rattle.evaluator.specs.declared.change.Action.{Action}
use Rattle.evaluator.specs.declared.change.Action.TheVariants.{Insert, Update, Delete}
use Rattle.evaluator.specs.declared.change.Change.{Change}
use Rattle.evaluator.specs.Cascades.{cascades_from, child_at, children_from, deleted, key_in, referring}
use Rattle.evaluator.specs.Rules.{added, each, limit, or_overflow, then_do}
use Rattle.evaluator.specs.Writes.{built, done_by, done_in, done_on, done_to, effects_of, if_true, passes_rows, selects, within_limits}
use Rattle.transactions.specs.Transactions.{Done, and_then, applied_to, behind, joined, left_by, nothing, written_by, written_in}
use Rattle.sql_query.specs.declared.write.Write.{Write}
use Rattle.table_defs.specs.Names.{place_of_table}
use Rattle.resolution.specs.Results.{both, then_make}
use Rattle.resolution.specs.Writes.{PlacedAction, PlacedChange, all_sound, change_of, change_seen, named_action, named_at, named_on, named_write, named_writes, table_of}
use Rattle.order_laws.specs.Standing.{live_tables}
use Rattle.cache_tier.specs.ConsoleSteps.{first_writethrough, is_name_of}
use Rattle.cache_tier.specs.Routes.{is_written_through}
use Rattle.cache_tier.specs.Rules.{named}
use Rattle.tier_base.specs.declared.code.Code.TheVariants as code
use Rattle.cache_tier.specs.TierStates.{Tier}
use Rattle.cache_tier.specs.StandingBetween.{live_groups_of}
use Rattle.cache_tier.proofs.GroupTables.{live_table}

-- both ends of each foreign key are on one side
abbrev pub IsSideOf : (TableId → Bool) → List TableDef → Type 0
IsSideOf side schema = (t : TableId) (def : TableDef) (foreign : ForeignKey) → slice_get schema t.0 ≡ Some def → def.foreign_key ≡ Some foreign → side foreign.parent ≡ side t

module _ (side : TableId → Bool) where
  abbrev pub IsOff : List Op → Type 0
  IsOff ops = list_all (λ op. side (Rattle.table_state.specs.Operations.table_of op)) ops ≡ true

  -- the table is on this side
  abbrev pub IsApart : TableId → Type 0
  IsApart t = side t ≡ true

  off_both : (xs ys : List Op) → IsOff xs → IsOff ys → IsOff (xs ++ ys)
  off_both xs ys one other = list_all-append _ xs ys ∙ (λ i. one i && other i)

  off_one : (o : Op) → IsApart (Rattle.table_state.specs.Operations.table_of o) → IsOff (o ∷ [])
  off_one o apart = ap (λ b. b && true) apart

  off_flat : {X : Type 0} (f : X → List Op) (xs : List X) → ((x : X) → IsOff (f x)) → IsOff (flat_map f xs)
  off_flat f [] off = refl
  off_flat f (x ∷ xs) off = off_both (f x) (flat_map f xs) (off x) (off_flat f xs off)

  -- a deletion with what leaves with it

  abbrev AllApart : List TableId → Type 0
  AllApart [] = Unit {0}
  AllApart (t ∷ ts) = IsApart t × AllApart ts

  apart_both : (xs ys : List TableId) → AllApart xs → AllApart ys → AllApart (xs ++ ys)
  apart_both [] ys one other = other
  apart_both (x ∷ xs) ys one other = (one.0, apart_both xs ys one.1 other)

  off_children : (f : TableId → List Op) (ts : List TableId) → AllApart ts → ((t : TableId) → IsApart t → IsOff (f t)) → IsOff (flat_map f ts)
  off_children f [] apart off = refl
  off_children f (t ∷ ts) apart off = off_both (f t) (flat_map f ts) (off t apart.0) (off_children f ts apart.1 off)

  one_child : (schema : List TableDef) → IsSideOf side schema → (parent : TableId) → IsApart parent → (place : ℕ) (def : TableDef) → slice_get schema place ≡ Some def → AllApart (child_at parent place def)
  one_child schema closed parent apart place def at = by def.foreign_key refl
    where
      same_id : (t : TableId) → side t ≡ side (record { 0 = t.0 })
      same_id t = refl

      listed : (o : Option TableId) → ((t : TableId) → o ≡ Some t → IsApart t) → AllApart (Rattle.std.specs.Prelude.option_to_list o)
      listed None all = tt
      listed (Some t) all = (all t refl, tt)

      id_is : (b : Bool) (t : TableId) → cond b (let o : Option TableId = Some (record { 0 = place }) in o) None ≡ Some t → t ≡ record { 0 = place }
      id_is true t e = cc
      id_is false t e = cc

      chosen : (b : Bool) → (b ≡ true → IsApart (record { 0 = place })) → AllApart (cond b (Rattle.std.specs.Prelude.option_to_list (table_id place)) [])
      chosen true all = listed (table_id place) (λ t is. ap (side) (id_is _ t is) ∙ all refl)
      chosen false all = tt

      by : (o : Option ForeignKey) → def.foreign_key ≡ o → AllApart (child_at parent place def)
      by None e = subst (λ o. AllApart (cond (cascades_from parent o) (Rattle.std.specs.Prelude.option_to_list (table_id place)) [])) (sym e) tt
      by (Some f) e = subst (λ o. AllApart (cond (cascades_from parent o) (Rattle.std.specs.Prelude.option_to_list (table_id place)) [])) (sym e)
          (chosen (cascades_from parent (Some f)) (λ cascades. sym (closed (record { 0 = place }) def f at e) ∙ parents f cascades ∙ apart))
        where
          both_true : (a b : Bool) → (a && b) ≡ true → b ≡ true
          both_true true b e = e
          both_true false b e = cc

          parents : (f : ForeignKey) → cascades_from parent (Some f) ≡ true → side f.parent ≡ side parent
          parents f cascades = ap (λ (n : ℕ). side (record { 0 = n })) (eqb-true f.parent.0 parent.0 (both_true f.cascade _ cascades))

  all_children : (schema : List TableDef) → IsSideOf side schema → (parent : TableId) → IsApart parent → (place : ℕ) (defs : List TableDef) → ((i : ℕ) (def : TableDef) → slice_get defs i ≡ Some def → slice_get schema (place + i) ≡ Some def) → AllApart (children_from parent place defs)
  all_children schema closed parent apart place [] there = tt
  all_children schema closed parent apart place (def ∷ defs) there =
      let here : place + 0 ≡ place = omega arith in
      apart_both (child_at parent place def) (children_from parent (suc place) defs)
      (one_child schema closed parent apart place def (ap (slice_get schema) (sym here) ∙ there 0 def refl))
      (all_children schema closed parent apart (suc place) defs
      (λ i d at. let next : place + suc i ≡ suc place + i = omega arith in ap (slice_get schema) (sym next) ∙ there (suc i) d at))

  off_deleted : (n : ℕ) (s : TableState) → IsSideOf side s.schema → (t : TableId) (row : List Value) → IsApart t → IsOff (deleted n s t row)
  off_deleted zero s closed t row apart = refl
  off_deleted (suc n) s closed t row apart =
      off_both (flat_map (λ child. flat_map (deleted n s child) (referring s (key_in (slice_get s.schema t.0) row) child)) (children_from t 0 s.schema)) (op.Delete t row ∷ [])
      (off_children (λ child. flat_map (deleted n s child) (referring s (key_in (slice_get s.schema t.0) row) child)) (children_from t 0 s.schema)
      (all_children s.schema closed t apart 0 s.schema (λ i def at. let z : 0 + i ≡ i = omega arith in ap (slice_get s.schema) z ∙ at))
      (λ child other. off_flat (deleted n s child) (referring s (key_in (slice_get s.schema t.0) row) child) (λ r. off_deleted n s closed child r other)))
      (off_one (op.Delete t row) apart)

  -- what one write does

  abbrev pub GivesOff : Result (List Op) Rule → Type 0
  GivesOff r = (ops : List Op) → r ≡ Ok ops → IsOff ops

  gives_ok : (xs : List Op) → IsOff xs → GivesOff (Ok xs)
  gives_ok xs off ops e = let same : xs ≡ ops = cc in subst IsOff same off

  gives_added : (a b : Result (List Op) Rule) → GivesOff a → GivesOff b → GivesOff (added a b)
  gives_added (Err x) b one other ops e = cc
  gives_added (Ok xs) (Err y) one other ops e = cc
  gives_added (Ok xs) (Ok ys) one other ops e = let same : xs ++ ys ≡ ops = cc in subst IsOff same (off_both xs ys (one xs refl) (other ys refl))

  gives_each : {X : Type 0} (f : X → Result (List Op) Rule) (xs : List X) → ((x : X) → GivesOff (f x)) → GivesOff (each f xs)
  gives_each f [] off = gives_ok [] refl
  gives_each f (x ∷ xs) off = gives_added (f x) (each f xs) (off x) (gives_each f xs off)

  gives_row : (f : List Value → Op) (r : Result (List Value) Rule) → ((row : List Value) → IsOff (f row ∷ [])) → GivesOff (then_do (λ row. Ok (f row ∷ [])) r)
  gives_row f (Err x) off ops e = cc
  gives_row f (Ok row) off ops e = gives_ok (f row ∷ []) (off row) ops e

  gives_true : (t : Truth) (r : Result (List Op) Rule) → GivesOff r → GivesOff (if_true t r)
  gives_true True r off = off
  gives_true False r off = gives_ok [] refl
  gives_true Unknown r off = gives_ok [] refl

  gives_chosen : (o : Option Truth) (r : Result (List Op) Rule) → GivesOff r → GivesOff (then_do (λ t. if_true t r) (or_overflow o))
  gives_chosen None r off ops e = cc
  gives_chosen (Some t) r off ops e = gives_true t r off ops e

  gives_in : (s : TableState) → IsSideOf side s.schema → (t : TableId) → IsApart t → (def : TableDef) (action : Action) → GivesOff (done_in s t def action)
  gives_in s closed t apart def (Insert es) = gives_row (op.Insert t) (built def.columns es []) (λ row. off_one (op.Insert t row) apart)
  gives_in s closed t apart def (Update es filter) = gives_each (done_on s t def (Update es filter)) (values (table_at s t))
      (λ row. gives_chosen (selects filter row) (done_to s t def (Update es filter) row) (gives_row (op.Update t row) (built def.columns es row) (λ new. off_one (op.Update t row new) apart)))
  gives_in s closed t apart def (Delete filter) = gives_each (done_on s t def (Delete filter)) (values (table_at s t))
      (λ row. gives_chosen (selects filter row) (done_to s t def (Delete filter) row) (gives_ok (deleted (length s.schema) s t row) (off_deleted (length s.schema) s closed t row apart)))

  gives_limited : (a b : Bool) (x y : Rule) (r : List Op) → IsOff r → GivesOff (cond a (Err x) (cond b (Err y) (Ok r)))
  gives_limited true b x y r off ops e = cc
  gives_limited false true x y r off ops e = cc
  gives_limited false false x y r off ops e = gives_ok r off ops e

  pub gives_effects : (room : ℕ) (change : Change) (s : TableState) → IsSideOf side s.schema → IsApart change.table → GivesOff (effects_of room change s)
  gives_effects room change s closed apart = by (slice_get s.schema change.table.0)
    where
      within : (r : Result (List Op) Rule) → GivesOff r → GivesOff (then_do (within_limits room s change) r)
      within (Err x) off ops e = cc
      within (Ok xs) off ops e = gives_limited (nat_lt room (length xs)) (passes_rows s change.table change.action) (limit Operations) (limit Rows) xs (off xs refl) ops e

      by : (o : Option TableDef) → GivesOff (then_do (within_limits room s change) (done_by s change o))
      by None = within (done_by s change None) (λ ops e. cc)
      by (Some def) = within (done_by s change (Some def)) (gives_in s closed change.table apart def change.action)

  -- what several do

  abbrev pub AreApart : List Change → Type 0
  AreApart [] = Unit {0}
  AreApart (change ∷ changes) = IsApart change.table × AreApart changes

  record IsOffBehind (s : TableState) (done : Done) : Type 0 where
    off : IsOff done.written.ops
    schema : done.state.schema ≡ s.schema

  state_schema : (ops : List Op) (s : TableState) → (unwrap_or (applied_all ops s) s).schema ≡ s.schema
  state_schema ops s = by (applied_all ops s) refl
    where
      by : (o : Option TableState) → applied_all ops s ≡ o → (unwrap_or o s).schema ≡ s.schema
      by None e = refl
      by (Some n) e = all_defined ops s n e

  one_left : (change : Change) (s : TableState) (ops : List Op) (broken : Option ApplyError) (done : Done) → IsOff ops → left_by change s ops broken ≡ Ok done → IsOffBehind s done
  one_left change s ops (Some broken) done off e = cc
  one_left change s ops None done off e =
      let same : record { written = record { ops = ops; rows = Rattle.transactions.specs.Transactions.rows_in change.table ops }; state = unwrap_or (applied_all ops s) s } ≡ done = cc in
      subst (IsOffBehind s) same (record { off = off; schema = state_schema ops s })

  one_applied : (change : Change) (s : TableState) (r : Result (List Op) Rule) (done : Done) → GivesOff r → applied_to change s r ≡ Ok done → IsOffBehind s done
  one_applied change s (Err rule) done off e = cc
  one_applied change s (Ok ops) done off e = one_left change s ops (broken_by_all ops s) done (off ops refl) e

  one_written : (room : ℕ) (change : Change) (s : TableState) (done : Done) → IsSideOf side s.schema → IsApart change.table → written_by room change s ≡ Ok done → IsOffBehind s done
  one_written room change s done closed apart e = one_applied change s (effects_of room change s) done (gives_effects room change s closed apart) e

  joined_off : (first : Done) (r : Result Done ApplyError) (done : Done) → IsOff first.written.ops → ((more : Done) → r ≡ Ok more → IsOff more.written.ops) → behind first.written r ≡ Ok done → IsOff done.written.ops
  joined_off first (Err x) done off rest e = cc
  joined_off first (Ok more) done off rest e =
      let same : record { written = joined first.written more.written; state = more.state } ≡ done = cc in
      subst (λ (d : Done). IsOff d.written.ops) same (off_both first.written.ops more.written.ops off (rest more refl))

  pub written_off : (changes : List Change) (room : ℕ) (s : TableState) (done : Done) → IsSideOf side s.schema → AreApart changes → written_in room changes s ≡ Ok done → IsOff done.written.ops
  written_off [] room s done closed apart e =
      let same : record { written = nothing; state = s } ≡ done = cc in
      subst (λ (d : Done). IsOff d.written.ops) same refl
  written_off (change ∷ changes) room s done closed apart e =
      by (written_by room change s) refl e (λ n x d c is. written_off changes n x d c apart.1 is)
    where
      by : (r : Result Done ApplyError) → written_by room change s ≡ r → and_then (λ first. behind first.written (written_in (room - length first.written.ops) changes first.state)) r ≡ Ok done
          → ((n : ℕ) (x : TableState) (d : Done) → IsSideOf side x.schema → written_in n changes x ≡ Ok d → IsOff d.written.ops) → IsOff done.written.ops
      by (Err x) is e rest = cc
      by (Ok first) is e rest =
          let one = one_written room change s first closed apart.0 is in
          joined_off first (written_in (room - length first.written.ops) changes first.state) done one.off
          (λ more go. rest (room - length first.written.ops) first.state more (subst (IsSideOf side) (sym one.schema) closed) go) e

-- the tables that writes are on

abbrev pub live_of : Tier → List TableId
live_of a = live_tables (live_groups_of a.groups)

abbrev PlacedApart : List TableId → List PlacedChange → Type 0
PlacedApart live [] = Unit {0}
PlacedApart live (p ∷ ps) = (is_one_of live p.table ≡ false) × PlacedApart live ps

-- the change is on the table of its write's name
record IsOnNamed (schema : List TableDef) (w : Write) (p : PlacedChange) : Type 0 where
  table : TableId
  named : place_of_table schema (table_of w) ≡ Some table
  is : p.table ≡ table

made_on : (t : TableId) (r : Result (Result PlacedAction Rule) Rule) (p : PlacedChange) → then_make (λ action. then_make (change_of t) action) r ≡ Ok (Ok p) → p.table ≡ t
made_on t (Err x) p e = cc
made_on t (Ok (Err x)) p e = cc
made_on t (Ok (Ok action)) p e = let same : change_of t action ≡ p = cc in ap (λ (z : PlacedChange). z.table) (sym same)

on_table : (w : Write) (t : TableId) (o : Option TableDef) (p : PlacedChange) → named_on w t o ≡ Ok (Ok p) → p.table ≡ t
on_table w t None p e = cc
on_table w t (Some def) p e = made_on t (named_action def w) p e

on_named : (schema : List TableDef) (w : Write) (p : PlacedChange) → named_write schema w ≡ Ok (Ok p) → IsOnNamed schema w p
unfolding named_write
on_named schema w p e = by (place_of_table schema (table_of w)) refl e
  where
    by : (o : Option TableId) → place_of_table schema (table_of w) ≡ o → named_at schema w o ≡ Ok (Ok p) → IsOnNamed schema w p
    by None is e = cc
    by (Some t) is e = record { table = t; named = is; is = on_table w t (slice_get schema t.0) p e }

not_through : (a : Tier) (w : Write) (p : PlacedChange) → IsOnNamed a.schema w p → is_name_of (is_written_through a) a (table_of w) ≡ false → is_one_of (live_of a) p.table ≡ false
not_through a w p on none =
    let named = on.named in
    let through = rw named at none in
    ap (is_one_of (live_of a)) on.is ∙ live_table a.groups on.table ∙ through

no_first : (b : Bool) (rule : Rule) (rest : Option Rule) → cond b (Some rule) rest ≡ None → (b ≡ false) × (rest ≡ None)
no_first true rule rest e = cc
no_first false rule rest e = (refl, e)

both_ok : {A B C : Type 0} (f : A → B → C) (x : Result A Rule) (y : Result B Rule) (z : C) → both f x y ≡ Ok z → (a : A) × (b : B) × (x ≡ Ok a) × (y ≡ Ok b) × (f a b ≡ z)
both_ok f (Err e) y z is = cc
both_ok f (Ok a) (Err e) z is = cc
both_ok f (Ok a) (Ok b) z is = let same : f a b ≡ z = cc in (a, b, refl, refl, same)

placed_apart : (a : Tier) (writes : List Write) (found : List (Result PlacedChange Rule)) (ps : List PlacedChange) → named_writes a.schema writes ≡ Ok found → all_sound found ≡ Ok ps → first_writethrough a writes ≡ None → PlacedApart (live_of a) ps
placed_apart a [] found ps is sound none =
    let empty : [] ≡ found = cc in
    let all : [] ≡ ps = let e : all_sound [] ≡ Ok ps = ap all_sound empty ∙ sound in cc in
    subst (PlacedApart (live_of a)) all tt
placed_apart a (w ∷ writes) found ps is sound none =
    let parts = both_ok (λ change changes. change ∷ changes) (named_write a.schema w) (named_writes a.schema writes) found is in
    let e : both (λ x xs. x ∷ xs) parts.0 (all_sound parts.1) ≡ Ok ps = ap all_sound parts.4 ∙ sound in
    let each = both_ok (λ (x : PlacedChange) xs. x ∷ xs) parts.0 (all_sound parts.1) ps e in
    let first = no_first (is_name_of (is_written_through a) a (table_of w)) (named code.WritethroughTable (table_of w)) (first_writethrough a writes) none in
    let on = on_named a.schema w each.0 (parts.2 ∙ ap (λ r. Ok r) each.2) in
    subst (PlacedApart (live_of a)) each.4 (not_through a w each.0 on first.0, placed_apart a writes parts.1 each.1 parts.3 each.3 first.1)

-- a table that isn't live
abbrev pub off_live : List TableId → TableId → Bool
off_live live t = not (is_one_of live t)

seen_apart : (live : List TableId) (changes : List Change) → PlacedApart live (map change_seen changes) → AreApart (off_live live) changes
seen_apart live [] apart = tt
seen_apart live (change ∷ changes) apart = (ap not apart.0, seen_apart live changes apart.1)

pub resolved_apart : (a : Tier) (writes : List Write) (changes : List Change) (r : Result (List (Result PlacedChange Rule)) Rule) → named_writes a.schema writes ≡ r → then_do all_sound r ≡ Ok (map change_seen changes) → first_writethrough a writes ≡ None → AreApart (off_live (live_of a)) changes
resolved_apart a writes changes (Err x) is sound none = cc
resolved_apart a writes changes (Ok found) is sound none = seen_apart (live_of a) changes (placed_apart a writes found (map change_seen changes) is sound none)
