-- Laws of where a write is done, and of what it breaks first.
use Rattle.std.proofs.Common.{◌≡◌, ℕ, ◌<◌, ◌≤◌, Bool, true, false, not, ◌&&◌, ◌||◌, Option, Some, None, Result, Ok, Err, List, [], ◌∷◌, nat_lt, cond, refl, sym, ap, ◌∙◌, arith}
use Rattle.std.specs.List.{list_all, list_any}
use Rattle.std.specs.Option.{option_or}
use Rattle.session_state.proofs.ApartLaws.{any_same}
use Rattle.tier_base.specs.declared.code.Code.TheVariants as code
use Rattle.tier_base.specs.declared.number.TableId.{TableId}
use Rattle.row_types.specs.declared.rule.Refused.{Refused}
use Rattle.row_types.specs.declared.rule.Refused.TheVariants as refused
use Rattle.row_types.specs.declared.rule.Rule.{Rule}
use Rattle.table_defs.specs.declared.definition.TableDef.{TableDef}
use Rattle.table_defs.specs.Declarations.{Tells}
use Rattle.table_state.specs.declared.operation.Op.{Op}
use Rattle.table_state.specs.Operations.{table_of}
use Rattle.evaluator.specs.Rules.{then_do}
use Rattle.resolution.specs.Results.{Gives, IsRefusal}
use Rattle.resolution.specs.Writes.{PlacedChange, change_seen, named_write, resolved_write}
use Rattle.sql_query.specs.declared.write.Write.{Write}
use Rattle.cache_tier.specs.Groups.{Group, is_read_only, is_synchronous, is_table_of, is_writethrough}
use Rattle.cache_tier.specs.Order.{change_broken, first_broken, mixes_kinds, write_broken}
use Rattle.cache_tier.specs.Routes as route
use Rattle.cache_tier.specs.Routes.{query_route, table_name, visible, write_route}
use Rattle.cache_tier.specs.Rules.{broken_if, named, plain, rule_in}
use Rattle.cache_tier.specs.TierStates.{Session, Tier, level_of}
use Rattle.tier_statements.specs.declared.routing.Route.{Route}
use Rattle.tier_statements.specs.Routing.{Routes, route_seen, write_refusal}
use Rattle.tier_statements.specs.Seen.{HasGroups}

-- a refusal that is told
pub gives_refused : (r : Result route.Route Rule) (rule : Rule) (e : Refused) → r ≡ Err rule → IsRefusal rule e → Gives route_seen r (Err e)
gives_refused r rule (refused.Rule other) is told = is ∙ ap Err (sym told)
gives_refused r rule refused.Memory is told = tt

module _ (schema : List TableDef) (groups : List Group) (t : Tier) (has : HasGroups schema groups t) (level : ℕ) (table : TableId) where
  abbrev route_by : Bool → Bool → Result route.Route Rule
  route_by through only_read =
      cond through (cond (nat_lt level 3) (Ok route.Cached) (Err (named code.WritethroughTable (table_name t table))))
      (cond (only_read && nat_lt level 2) (Err (named code.ReadOnly (table_name t table))) (Ok route.PassedOn))

  route_is : write_route level t table ≡ route_by (is_table_of is_writethrough groups table) (is_table_of is_read_only groups table)
  route_is =
      ap (λ b. route_by b (is_table_of is_read_only t.groups table)) (has.written_through table)
      ∙ ap (route_by (is_table_of is_writethrough groups table)) (has.only_read table)

  pub through_refused : true ≡ is_table_of is_writethrough groups table → 3 ≤ level → write_route level t table ≡ Err (named code.WritethroughTable (table_name t table))
  through_refused through high =
      route_is ∙ ap (λ b. route_by b (is_table_of is_read_only groups table)) (sym through)
      ∙ ap (λ b. cond b (Ok route.Cached) (Err (named code.WritethroughTable (table_name t table)))) (not_below level 3 high)
    where
      not_below : (n m : ℕ) → m ≤ n → nat_lt n m ≡ false
      not_below n m le = grind (arith, le)

  pub only_read_refused : false ≡ is_table_of is_writethrough groups table → true ≡ is_table_of is_read_only groups table → level < 2 → write_route level t table ≡ Err (named code.ReadOnly (table_name t table))
  only_read_refused through read low =
      route_is ∙ ap (λ b. route_by b (is_table_of is_read_only groups table)) (sym through)
      ∙ ap (λ b. cond (b && nat_lt level 2) (Err (named code.ReadOnly (table_name t table))) (Ok route.PassedOn)) (sym read)
      ∙ ap (λ b. cond b (Err (named code.ReadOnly (table_name t table))) (Ok route.PassedOn)) (below level 2 low)
    where
      below : (n m : ℕ) → n < m → nat_lt n m ≡ true
      below n m lt = grind (arith, lt)

-- what a change breaks by its route and the kinds of tables written

module _ (t : Tier) (s : Session) (c : PlacedChange) (level : ℕ) (table : TableId) (level_is : level_of s ≡ level) (table_is : c.table ≡ table) where
  abbrev broken_by : Result route.Route Rule → Bool → Option Rule
  broken_by r mixed = option_or (rule_in r) (broken_if mixed (plain code.MixedWrites))

  change_is : change_broken t s c ≡ broken_by (write_route level t table) (mixes_kinds t s table)
  change_is =
      ap (λ n. broken_by (write_route n t c.table) (mixes_kinds t s c.table)) level_is
      ∙ ap (λ x. broken_by (write_route level t x) (mixes_kinds t s x)) table_is

  pub way_refused : (e : Refused) → Gives route_seen (write_route level t table) (Err e) → Tells {X = Route} (Err e) (change_broken t s c)
  way_refused (refused.Rule rule) is = change_is ∙ ap (λ r. broken_by r (mixes_kinds t s table)) is
  way_refused refused.Memory is = tt

  module _ (way : route.Route) (way_is : write_route level t table ≡ Ok way) (mixed : Bool) (mixed_is : mixed ≡ mixes_kinds t s table) where
    pub by_kinds : change_broken t s c ≡ broken_if mixed (plain code.MixedWrites)
    by_kinds = change_is ∙ ap (λ r. broken_by r (mixes_kinds t s table)) way_is ∙ ap (λ b. broken_if b (plain code.MixedWrites)) (sym mixed_is)

-- operations on tables of the other kind

abbrev apart : Bool → Bool → Bool
apart a b = a && not b || not a && b

module _ (schema : List TableDef) (groups : List Group) (t : Tier) (has : HasGroups schema groups t) (s : Session) (own : List Op) (table : TableId) (own_is : s.own ≡ own) where
  mixes_are : mixes_kinds t s table
      ≡ (is_table_of is_writethrough groups table && list_any (λ op. apart (is_table_of is_synchronous groups table) (is_table_of is_synchronous groups (table_of op))) own)
  mixes_are =
      ap (λ b. b && list_any (λ op. apart (is_table_of is_synchronous t.groups table) (is_table_of is_synchronous t.groups (table_of op))) s.own) (has.written_through table)
      ∙ ap (λ b. is_table_of is_writethrough groups table && b)
      (any_same (λ op. apart (is_table_of is_synchronous t.groups table) (is_table_of is_synchronous t.groups (table_of op))) (λ op. apart (is_table_of is_synchronous groups table) (is_table_of is_synchronous groups (table_of op))) s.own
      (λ op. ap (λ a. apart a (is_table_of is_synchronous t.groups (table_of op))) (has.synchronous table) ∙ ap (apart (is_table_of is_synchronous groups table)) (has.synchronous (table_of op))))
      ∙ ap (λ l. is_table_of is_writethrough groups table && list_any (λ op. apart (is_table_of is_synchronous groups table) (is_table_of is_synchronous groups (table_of op))) l) own_is

  pub mixes_not : false ≡ is_table_of is_writethrough groups table → false ≡ mixes_kinds t s table
  mixes_not through = ap (λ b. b && list_any (λ op. apart (is_table_of is_synchronous groups table) (is_table_of is_synchronous groups (table_of op))) own) through ∙ sym mixes_are

  pub mixes_by : true ≡ is_table_of is_writethrough groups table → (sync : Bool) → sync ≡ is_table_of is_synchronous groups table → (r : Bool)
      → r ≡ list_any (λ op. sync && not (is_table_of is_synchronous groups (table_of op)) || not sync && is_table_of is_synchronous groups (table_of op)) own
      → r ≡ mixes_kinds t s table
  mixes_by through sync sync_is r r_is =
      r_is ∙ ap (λ b. list_any (λ op. apart b (is_table_of is_synchronous groups (table_of op))) own) sync_is
      ∙ ap (λ b. b && list_any (λ op. apart (is_table_of is_synchronous groups table) (is_table_of is_synchronous groups (table_of op))) own) through
      ∙ sym mixes_are

-- names and types come before

or_none : {A : Type 0} (o : Option A) → option_or o None ≡ o
or_none None = refl
or_none (Some x) = refl

module _ (t : Tier) (s : Session) where
  refused_first : (named : Result (Result PlacedChange Rule) Rule) (rule : Rule) → then_do (λ c. c) named ≡ Err rule → first_broken (write_broken t s named) ≡ Some rule
  refused_first (Err r) rule e = let same : r ≡ rule = cc in ap Some same
  refused_first (Ok (Err r)) rule e = let same : r ≡ rule = cc in ap Some same
  refused_first (Ok (Ok c)) rule e = cc

  sound_first : (named : Result (Result PlacedChange Rule) Rule) (c : PlacedChange) → then_do (λ c. c) named ≡ Ok c → first_broken (write_broken t s named) ≡ change_broken t s c
  sound_first (Err r) c e = cc
  sound_first (Ok (Err r)) c e = cc
  sound_first (Ok (Ok x)) c e = let same : x ≡ c = cc in or_none (change_broken t s x) ∙ ap (change_broken t s) same

  module _ (w : Write) (level : ℕ) (seen : List TableDef) (level_is : level_of s ≡ level) (seen_is : seen ≡ visible level t) where
    seen_by_level : visible (level_of s) t ≡ seen
    seen_by_level = ap (λ n. visible n t) level_is ∙ sym seen_is

    pub unresolved : (rule : Rule) → resolved_write seen w ≡ Err rule → write_refusal t s w ≡ Some rule
    unresolved rule e = refused_first (named_write (visible (level_of s) t) w) rule (ap (λ l. resolved_write l w) seen_by_level ∙ e)

    pub names_broken : (e : Refused) → Gives change_seen (resolved_write seen w) (Err e) → Routes t s w (Err e)
    names_broken (refused.Rule rule) is = unresolved rule is
    names_broken refused.Memory is = tt

    module _ (c : PlacedChange) (is : resolved_write seen w ≡ Ok c) where
      pub resolved_as : resolved_write (visible (level_of s) t) w ≡ Ok c
      resolved_as = ap (λ l. resolved_write l w) seen_by_level ∙ is

      pub refusal_is : write_refusal t s w ≡ change_broken t s c
      refusal_is = sound_first (named_write (visible (level_of s) t) w) c resolved_as

      pub way_broken : (e : Refused) → Tells {X = Route} (Err e) (change_broken t s c) → Routes t s w (Err e)
      way_broken (refused.Rule rule) told = refusal_is ∙ told
      way_broken refused.Memory told = tt

      pub routed_is : (table : TableId) (way : route.Route) → write_route level t table ≡ Ok way → write_route (level_of s) t table ≡ Ok way
      routed_is table way is = ap (λ n. write_route n t table) level_is ∙ is

-- where a query is answered

all_same : {A : Type 0} (p q : A → Bool) (xs : List A) → ((x : A) → p x ≡ q x) → list_all p xs ≡ list_all q xs
all_same p q [] same = refl
all_same p q (x ∷ xs) same = ap (λ b. b && list_all p xs) (same x) ∙ ap (λ b. q x && b) (all_same p q xs same)

pub query_way : (schema : List TableDef) (groups : List Group) (t : Tier) → HasGroups schema groups t → (level : ℕ) (tables : List TableId) (low all : Bool) → low ≡ nat_lt level 3
    → all ≡ list_all (is_table_of (λ g. true) groups) tables → cond (low && all) route.Cached route.PassedOn ≡ query_route level t tables
query_way schema groups t has level tables low all low_is all_is =
    ap (λ b. cond (b && all) route.Cached route.PassedOn) low_is
    ∙ ap (λ b. cond (nat_lt level 3 && b) route.Cached route.PassedOn)
    (all_is ∙ sym (all_same (is_table_of (λ g. true) t.groups) (is_table_of (λ g. true) groups) tables has.cached))
