-- LOAD CACHE GROUP. (TimesTen SQL Reference, "LOAD CACHE GROUP"; that a load is one step, and what it does to STATE,
-- loaded flags and key lists, is this project's rule.)

use Rattle.std.specs.Prelude.{ℕ, List, true, length}
use Rattle.std.specs.Bool.{MatchBool}
use Rattle.std.specs.FinMap.{keys}
use Rattle.row_types.specs.declared.value.Value.{Value}
use Rattle.table_state.specs.Tables.{TableState}
use Rattle.cache_tier.specs.declared.reply.Last.TheVariants.{Done}
use Rattle.sql_subset.specs.declared.stmt.Load.{Load}
use Rattle.cache_tier.specs.Conditions.{overflow_fault}
use Rattle.cache_tier.specs.Groups.{Group, is_explicit, is_read_only, with_keys}
use Rattle.cache_tier.specs.Reading.{Reads, as_it_was, backing_at}
use Rattle.cache_tier.specs.Rounds.{RoundIfUnsettled}
use Rattle.cache_tier.specs.Sets.{alone, changed, set_tried}
use Rattle.cache_tier.specs.Worlds.{Answer, Part, Then, Unless, World, only}
use Rattle.cache_tier.specs.Targets.{Target, matching, matching_past, backing_roots, view_roots, with_flag, loaded_tier, new_keys, whole_answer, Settles, OnTarget}

-- a dynamic one gains the keys that match
abbrev pub gains : List (List Value) → TableState → Group → Group
gains new s g = record g { keys = with_keys new g.keys }

abbrev pub gained_answer : Target → ℕ → World → Answer
gained_answer x n w = (
  loaded_tier x n (gains (keys (matching_past (backing_at w n) x))) w,
  only
      (Done (length (new_keys x (matching_past (backing_at w n) x)))),
)

-- LOAD of a READONLY group
abbrev pub LoadsReadOnly : Target → Part
LoadsReadOnly x =
    Reads (set_tried x.group) (λ n w w' reply. MatchBool (is_explicit x.group) (Settles x (whole_answer x n) w w' reply)
    (Unless (overflow_fault x.filter (view_roots (backing_at w n) x)) (Settles x (gained_answer x n)) w w' reply))

-- LOAD of a writethrough group: what is unsettled is applied first; the keys that match and aren't there are added
abbrev pub added_answer : Target → ℕ → World → Answer
added_answer x n w = (
  changed (alone x.place)
      (λ g. with_flag true (record g { keys = with_keys (keys (matching (backing_at w n) x)) g.keys })) w.tier,
  only (Done (length (new_keys x (matching (backing_at w n) x)))),
)

abbrev pub LoadsWritethrough : Target → Part
LoadsWritethrough x =
    Then RoundIfUnsettled
    (Reads as_it_was
    (λ n w w' reply.
    Unless (overflow_fault x.filter (backing_roots (backing_at w n) x)) (Settles x (added_answer x n)) w
    w' reply))

-- LOAD CACHE GROUP
abbrev pub Loads : Load → Part
Loads load =
    OnTarget load.group load.which
    (λ x w w' reply.
    MatchBool (is_read_only x.group) (LoadsReadOnly x w w' reply) (LoadsWritethrough x w w' reply))
