-- UNLOAD CACHE GROUP. (TimesTen SQL Reference, "UNLOAD CACHE GROUP"; what it does to flags and key lists is this
-- project's rule.)

use Rattle.std.specs.Prelude.{if◌then◌else◌, List, [], Bool, false, Option, Some, None}
use Rattle.std.specs.FinMap.{keys, len, contains_key, empty}
use Rattle.row_types.specs.declared.value.Value.{Value}
use Rattle.indexed_rows.specs.Rows.{Table}
use Rattle.instances.specs.Views.{kept_at, rows_where}
use Rattle.table_state.specs.Tables.{TableState}
use Rattle.cache_tier.specs.JournalSteps.{FlushesSome}
use Rattle.cache_tier.specs.declared.reply.Last.TheVariants.{Done}
use Rattle.cache_tier.specs.Conditions.{matches, overflow_fault, asks_all}
use Rattle.cache_tier.specs.Groups.{Group, is_key, without_keys}
use Rattle.cache_tier.specs.Journals.{JournalEntry}
use Rattle.cache_tier.specs.Reading.{Answers}
use Rattle.cache_tier.specs.Sets.{alone, changed}
use Rattle.cache_tier.specs.Shown.{instances_where, no_rows, root_key, shown_roots, state_behind}
use Rattle.cache_tier.specs.TierStates.{Session}
use Rattle.cache_tier.specs.Worlds.{Answer, Part, Then, Unless, World, only}
use Rattle.std.specs.Option.{option_or}
use Rattle.row_types.specs.declared.rule.Rule.{Rule}
use Rattle.sql_subset.specs.declared.stmt.OfGroup.{OfGroup}
use Rattle.cache_tier.specs.Locks.{instance_lock}
use Rattle.cache_tier.specs.Targets.{Target, flag_entries, with_flag, OnTarget}

-- the shown root rows that match
abbrev pub matching_shown : World → Target → Table
matching_shown w x =
    rows_where (matches x.filter x.id (no_rows w.tier) x.group) (shown_roots w.history w.tier.log x.group)

-- the root rows of its key list in the state that it is a cache of, also where aging hides them
abbrev pub listed_in : Option TableState → Group → Table
listed_in None g = empty
listed_in (Some s) g = kept_at (instances_where s g.def.tree (λ row. is_key g.keys (root_key s g row))) 0

-- the keys whose root rows match leave, those that aging hides too
abbrev pub gone_keys : World → Target → List (List Value)
gone_keys w x =
    keys
    (rows_where (matches x.filter x.id (no_rows w.tier) x.group)
    (listed_in (state_behind w.history w.tier.log x.group) x.group))

-- UNLOAD: the keys leave, and the flag is cleared where nothing is asked of the instances
abbrev pub unloaded : List (List Value) → Bool → Group → Group
unloaded gone all g =
    if all
    then with_flag false (record g { keys = without_keys gone g.keys })
    else record g { keys = without_keys gone g.keys }

abbrev pub unload_entries : Bool → Group → List JournalEntry
unload_entries all g = if all then flag_entries false g else []

abbrev pub unload_answer : Target → Bool → World → Answer
unload_answer x all w =
    (changed (alone x.place) (unloaded (gone_keys w x) all) w.tier, only (Done (len (matching_shown w x))))

-- 120 of the condition on a shown root, then 111 of an instance that matches
abbrev pub unload_fault : Session → Target → World → Option Rule
unload_fault s x w =
    option_or (overflow_fault x.filter (shown_roots w.history w.tier.log x.group))
    (instance_lock s.label w.history w.tier x.group (contains_key (matching_shown w x)))

-- UNLOAD CACHE GROUP
abbrev pub Unloads : Session → OfGroup → Part
Unloads s u = OnTarget u.group u.which (λ x w w' reply. Unless (unload_fault s x w)
    (Then (FlushesSome (unload_entries (asks_all u.which) x.group)) (Answers (unload_answer x (asks_all u.which)))) w
    w' reply)
