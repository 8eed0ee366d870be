-- The order of refusals: of a session's statement, the first rule that it breaks before any call of the outside.
-- (This project's rule; what refuses it behind a dynamic load, row by row or at the backing database is told with the
-- statement.)

use Rattle.std.specs.Prelude.{ℕ, List, Bool, true, false, ◌&&◌, ◌||◌, not, nat_lt, Option, Some, None, Result, Ok, Err}
use Rattle.std.specs.List.{list_any}
use Rattle.std.specs.Option.{option_or}
use Rattle.tier_base.specs.declared.code.Code.TheVariants as code
use Rattle.tier_base.specs.declared.number.TableId.{TableId}
use Rattle.row_types.specs.declared.rule.Rule.{Rule}
use Rattle.table_state.specs.Operations.{table_of}
use Rattle.resolution.specs.Queries.{resolved_query}
use Rattle.resolution.specs.Writes.{PlacedChange, named_write}
use Rattle.sql_subset.specs.declared.stmt.Load.{Load}
use Rattle.sql_subset.specs.declared.stmt.Stmt.{Stmt}
use Rattle.sql_subset.specs.declared.stmt.Stmt.TheVariants as says
use Rattle.sql_subset.specs.declared.stmt.Which.{Which}
use Rattle.cache_tier.specs.Called.{called}
use Rattle.cache_tier.specs.Conditions.{asks_all, root_def, which_names, which_types}
use Rattle.cache_tier.specs.Definitions.{definition_fault, definition_names, definition_types}
use Rattle.cache_tier.specs.Groups.{Group, definitions_of, group_at, is_explicit, is_paused, is_read_only, is_synchronous, is_table_of, is_writethrough, place_called}
use Rattle.cache_tier.specs.Routes.{is_written_through, visible, write_route}
use Rattle.cache_tier.specs.Rules.{broken_if, named, open_writes, plain, rule_in}
use Rattle.cache_tier.specs.TierStates.{Session, Tier, level_of}

-- What a statement breaks, by the places of the order.
--   names  112, 102, 103 in the order of the names, 113
--   state  115, 116, 122
--   types  118, 104, and 105 of a literal that no type holds or of a number in a type
--   table  121, 110, 117
--   definition  114 by letter, and 119 of the groups
pub record Broken : Type 0 where
  pub names : Option Rule
  pub state : Option Rule
  pub types : Option Rule
  pub table : Option Rule
  pub definition : Option Rule

-- the first of them
abbrev pub first_broken : Broken → Option Rule
first_broken b = option_or b.names (option_or b.state (option_or b.types (option_or b.table b.definition)))

abbrev pub nothing_broken : Broken
nothing_broken = record { names = None; state = None; types = None; table = None; definition = None }

-- a rule of no other place
abbrev pub broken_by_name : Option Rule → Broken
broken_by_name rule = record { names = rule; state = None; types = None; table = None; definition = None }

-- a statement on a group: 112, or what it breaks of the group that there is
abbrev pub of_group : Tier → List ℕ → (Group → Broken) → Broken
of_group t name broken = of_option (group_at t.groups (place_called t.groups name))
  where
    of_option : Option Group → Broken
    of_option None = broken_by_name (Some (named code.UnknownGroup name))
    of_option (Some g) = broken g

abbrev pub wrong_state : Bool → Group → Option Rule
wrong_state is_wrong g = broken_if is_wrong (named code.WrongState g.def.name)

-- an explicit read-only group is loaded, refreshed and unloaded whole
abbrev pub is_whole_only : Group → Which → Bool
is_whole_only g which = is_read_only g && is_explicit g && not (asks_all which)

-- COMMIT EVERY is past its range, from 0 to 1,000,000 rows, or PARALLEL past its own, from 1 to 128 threads
abbrev pub is_past : ℕ → ℕ → Option ℕ → Bool
is_past low high None = false
is_past low high (Some n) = nat_lt n low || nat_lt high n

abbrev pub is_past_range : Load → Bool
is_past_range load = is_past 0 1000000 load.commit_every || is_past 1 128 load.parallel

abbrev pub with_which : Tier → Group → Which → Option Rule → Broken
with_which t g which state =
    record {
      names = which_names (root_def t g) which;
      state = state;
      types = which_types (root_def t g) which;
      table = None;
      definition = None;
    }

-- LOAD: 115 of the ranges and of a condition on an explicit read-only group, 116 where that is loaded, 122
abbrev pub load_broken : Tier → Session → Load → Group → Broken
load_broken t s load g =
    with_which t g load.which
    (option_or (wrong_state (is_past_range load) g)
    (option_or (wrong_state (is_whole_only g load.which) g)
    (option_or
    (broken_if (is_read_only g && is_explicit g && g.loaded) (named code.NotEmpty g.def.name))
    (open_writes s.own))))

-- REFRESH: 115 of the ranges, of a read-only group that isn't PAUSED, and of a condition on an explicit one, 122
abbrev pub refresh_broken : Tier → Session → Load → Group → Broken
refresh_broken t s load g =
    with_which t g load.which
    (option_or (wrong_state (is_past_range load) g)
    (option_or (wrong_state (is_read_only g && not (is_paused g.state)) g)
    (option_or (wrong_state (is_whole_only g load.which) g) (open_writes s.own))))

-- UNLOAD: 115 of a condition on an explicit read-only group, 122
abbrev pub unload_broken : Tier → Session → Which → Group → Broken
unload_broken t s which g = with_which t g which (option_or (wrong_state (is_whole_only g which) g) (open_writes s.own))

-- FLUSH: 115 of each kind that there is
abbrev pub flush_broken : Tier → Session → Which → Group → Broken
flush_broken t s which g = with_which t g which (wrong_state true g)

-- ALTER: 115 on writethrough, 122
abbrev pub alter_broken : Session → Group → Broken
alter_broken s g = record nothing_broken { state = option_or (wrong_state (is_writethrough g) g) (open_writes s.own) }

-- DROP: 122
abbrev pub drop_broken : Session → Group → Broken
drop_broken s g = record nothing_broken { state = open_writes s.own }

-- 117: the transaction has written a writethrough table of the other kind
abbrev pub is_of_other_kind : Tier → TableId → TableId → Bool
is_of_other_kind t table other =
    is_table_of is_synchronous t.groups table && not (is_table_of is_synchronous t.groups other)
    || not (is_table_of is_synchronous t.groups table) && is_table_of is_synchronous t.groups other

abbrev pub mixes_kinds : Tier → Session → TableId → Bool
mixes_kinds t s table = is_written_through t table && list_any (λ op. is_of_other_kind t table (table_of op)) s.own

-- a write of which the names are found: 118, 104 and 105, then 121, 110 and 117
abbrev pub change_broken : Tier → Session → PlacedChange → Option Rule
change_broken t s c =
    option_or (rule_in (write_route (level_of s) t c.table))
    (broken_if (mixes_kinds t s c.table) (plain code.MixedWrites))

abbrev pub table_broken : Tier → Session → Result PlacedChange Rule → Option Rule
table_broken t s (Ok c) = change_broken t s c
table_broken t s (Err rule) = None

abbrev pub write_broken : Tier → Session → Result (Result PlacedChange Rule) Rule → Broken
write_broken t s (Err rule) = broken_by_name (Some rule)
write_broken t s (Ok judged) = record nothing_broken { types = rule_in judged; table = table_broken t s judged }

-- what a session's statement breaks before any call of the outside
abbrev pub broken_by : Tier → Session → Stmt → Broken
broken_by t s (says.Select q) = broken_by_name (rule_in (resolved_query (visible (level_of s) t) q))
broken_by t s (says.Write w) = write_broken t s (named_write (visible (level_of s) t) w)
broken_by t s (says.CreateGroup d) =
    record {
      names = definition_names t.schema (definitions_of t.groups) d;
      state = open_writes s.own;
      types = definition_types t.schema d;
      table = None;
      definition = definition_fault t.schema (definitions_of t.groups) d;
    }
broken_by t s (says.CreateIndex i) = nothing_broken
broken_by t s (says.Load load) = of_group t load.group (load_broken t s load)
broken_by t s (says.Refresh load) = of_group t load.group (refresh_broken t s load)
broken_by t s (says.Unload u) = of_group t u.group (unload_broken t s u.which)
broken_by t s (says.Flush u) = of_group t u.group (flush_broken t s u.which)
broken_by t s (says.Alter a) = of_group t a.group (alter_broken s)
broken_by t s (says.DropGroup name) = of_group t name (drop_broken s)
broken_by t s (says.DropIndex name) = nothing_broken
broken_by t s (says.Call c) = broken_by_name (rule_in (called t.groups c.procedure c.arguments))
broken_by t s says.Commit = nothing_broken
broken_by t s says.Rollback = nothing_broken

-- the rule that refuses it
abbrev pub refusal : Tier → Session → Stmt → Option Rule
refusal t s st = first_broken (broken_by t s st)
