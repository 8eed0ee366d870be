-- REFRESH CACHE GROUP. (TimesTen SQL Reference, "REFRESH CACHE GROUP"; what it does to STATE, flags and key lists is
-- this project's rule.)

use Rattle.std.specs.Prelude.{if◌then◌else◌, ℕ, true}
use Rattle.std.specs.Bool.{MatchBool}
use Rattle.std.specs.FinMap.{keys, len}
use Rattle.indexed_rows.specs.Rows.{Table}
use Rattle.table_state.specs.Tables.{TableState}
use Rattle.cache_tier.specs.declared.reply.Last.TheVariants.{Done}
use Rattle.sql_subset.specs.declared.stmt.Load.{Load}
use Rattle.cache_tier.specs.Conditions.{overflow_fault}
use Rattle.cache_tier.specs.Groups.{is_explicit, is_read_only, with_keys}
use Rattle.cache_tier.specs.Reading.{Reads, as_it_was, backing_at}
use Rattle.cache_tier.specs.Rounds.{RoundIfUnsettled}
use Rattle.cache_tier.specs.Sets.{alone, changed, set_tried}
use Rattle.cache_tier.specs.Worlds.{Answer, Part, Then, Unless, World, only}
use Rattle.cache_tier.specs.Targets.{Target, matching, matching_past, backing_roots, view_roots, held_roots, with_flag, loaded_tier, whole_answer, Settles, OnTarget}

-- REFRESH of a READONLY group that is PAUSED: explicit as LOAD; a dynamic one touches present instances alone
abbrev pub held_answer : Target → ℕ → World → Answer
held_answer x n w = (loaded_tier x n (λ s g. g) w, only (Done (len (held_roots x (matching_past (backing_at w n) x)))))

abbrev pub RefreshesReadOnly : Target → Part
RefreshesReadOnly x =
    Reads (set_tried x.group) (λ n w w' reply. MatchBool (is_explicit x.group) (Settles x (whole_answer x n) w w' reply)
    (Unless (overflow_fault x.filter (held_roots x (view_roots (backing_at w n) x))) (Settles x (held_answer x n)) w
    w' reply))

-- REFRESH of a writethrough group: explicit adds every key that matches, dynamic keeps its list; it tells how many
-- instances that are held match
abbrev pub refreshed_answer : Target → ℕ → World → Answer
refreshed_answer x n w =
    if is_explicit x.group then (
      changed (alone x.place)
          (λ g. with_flag true (record g { keys = with_keys (keys (matching (backing_at w n) x)) g.keys })) w.tier,
      only (Done (len (matching (backing_at w n) x))),
    )
    else (
      changed (alone x.place) (with_flag true) w.tier,
      only
          (Done (len (held_roots x (matching (backing_at w n) x)))),
    )

-- the roots on which its condition is judged
abbrev pub judged_roots : TableState → Target → Table
judged_roots s x = if is_explicit x.group then backing_roots s x else held_roots x (backing_roots s x)

abbrev pub RefreshesWritethrough : Target → Part
RefreshesWritethrough x =
    Then RoundIfUnsettled
    (Reads as_it_was
    (λ n w w' reply.
    Unless (overflow_fault x.filter (judged_roots (backing_at w n) x)) (Settles x (refreshed_answer x n))
    w w' reply))

-- REFRESH CACHE GROUP
abbrev pub Refreshes : Load → Part
Refreshes load =
    OnTarget load.group load.which
    (λ x w w' reply.
    MatchBool (is_read_only x.group) (RefreshesReadOnly x w w' reply) (RefreshesWritethrough x w w' reply))
