-- The tier that is opened again over a journal and a history, behind its round, with the rows that come back. (TimesTen
-- Cache User's Guide, "Recovery"; that explicit groups whose flag is set hold all their instances again, and all
-- READONLY ones at one position, is this project's rule.)

use Rattle.std.specs.Prelude.{◌≡◌, ℕ, suc, true, List, [], ◌∷◌, Bool, ◌&&◌, Option, map}
use Rattle.std.specs.List.{filter, list_any}
use Rattle.std.specs.FinMap.{keys}
use Rattle.indexed_rows.specs.Rows.{Table}
use Rattle.instances.specs.Views.{kept_at}
use Rattle.table_state.specs.Tables.{TableState}
use Rattle.cache_tier.specs.declared.reply.Reply.{Reply}
use Rattle.cache_tier.specs.Groups.{Group, is_explicit, is_read_only, is_writethrough, with_keys}
use Rattle.cache_tier.specs.Journals.{JournalEntry}
use Rattle.cache_tier.specs.Reading.{ReadsFirst, as_it_was, backing_at}
use Rattle.cache_tier.specs.Rounds.{Applies}
use Rattle.cache_tier.specs.Sets.{Choice, alone, changed, refreshed}
use Rattle.cache_tier.specs.Shown.{instances_where}
use Rattle.cache_tier.specs.TierStates.{SetState, Settings, Tier, opened}
use Rattle.cache_tier.specs.Worlds.{Becomes, OnlyWhere, Passes, Stage, ThenStage, World}
use Rattle.recovery.specs.Recalling.{AreMatched, RecallsAll, recalled}

-- an explicit group whose flag is set: its rows come back
abbrev pub is_reloaded : Group → Bool
is_reloaded g = is_explicit g && g.loaded

abbrev pub is_viewed_again : Choice
is_viewed_again place g = is_read_only g && is_reloaded g

abbrev pub is_held_again : Group → Bool
is_held_again g = is_writethrough g && is_reloaded g

-- sets count from the opening
abbrev pub sets_begun : Tier → List SetState
sets_begun t =
    map (λ (g : Group). record { interval = g.def.interval; refreshed = t.now }) (filter is_read_only t.groups)

abbrev pub with_sets_begun : Tier → Tier
with_sets_begun t = record t { sets = sets_begun t }

-- the READONLY ones are read from one snapshot
abbrev pub ViewsAgain : Stage
ViewsAgain w w' stop =
    OnlyWhere (list_any (is_viewed_again 0) w.tier.groups)
    (ReadsFirst as_it_was (λ n. Becomes (λ v. refreshed is_viewed_again n (backing_at v n) v.tier))) w w' stop

-- the roots of all instances of a group
abbrev pub all_roots : TableState → Group → Table
all_roots s g = kept_at (instances_where s g.def.tree (λ row. true)) 0

-- a writethrough one holds all instances
abbrev pub holding : TableState → Group → Group
holding s g = record g { keys = with_keys (keys (all_roots s g)) g.keys }

abbrev pub HoldsAgainAt : ℕ → Stage
HoldsAgainAt place = ReadsFirst as_it_was (λ n. Becomes (λ v. changed (alone place) (holding (backing_at v n)) v.tier))

-- the writethrough ones among these groups, which stand from a place on, one after the other
abbrev pub HoldAgain : ℕ → List Group → Stage
HoldAgain place [] = Passes
HoldAgain place (g ∷ groups) =
    ThenStage (OnlyWhere (is_held_again g) (HoldsAgainAt place)) (HoldAgain (suc place) groups)

abbrev pub Reloads : Stage
Reloads w w' stop = ThenStage ViewsAgain (HoldAgain 0 w.tier.groups) w w' stop

-- What is unsettled is applied at the bank, and then the rows come back. The journal isn't written to.
abbrev pub Reopens : Stage
Reopens = ThenStage Applies Reloads

-- The tier begins with what the entries leave over the world's history, at this moment, and is opened again.
pub record IsReopened (settings : Settings) (moment : ℕ) (entries : List JournalEntry) (w w' : World)
    (stop : Option Reply) : Type 0 where
  pub matched : AreMatched entries w.history
  pub catalog : Tier
  pub recalls : RecallsAll entries (opened settings moment matched.backing.schema) catalog
  pub tier : w.tier ≡ with_sets_begun (recalled matched.backing.schema entries w.history catalog)
  pub does : Reopens w w' stop
