-- What a refresh by the changed instances does to a store.

use Rattle.std.specs.Prelude.{◌≡◌, ◌≤◌, ◌+◌, ℕ, List, [], ◌∷◌, Bool, not, ◌&&◌, ◌||◌, Option, Some, None, length, map, slice_get, if◌then◌else◌}
use Rattle.std.specs.FinMap.{contains_key, get, len, values}
use Rattle.row_types.specs.declared.value.Value.{Value}
use Rattle.indexed_rows.specs.Rows.{Table, key_of}
use Rattle.table_defs.specs.declared.definition.TableDef.{TableDef}
use Rattle.instances.specs.Views.{kept_at, passes}
use Rattle.outside.specs.declared.changes.Touched.{Touched}
use Rattle.group_store.specs.Stores.{HasRootKeys, Kept, SameButSpare, count_all, cut_store, put_tables, renewed_store}
use Rattle.cache_tier.specs.Groups.{Group}
use Rattle.cache_tier.specs.Shown.{exceeds}
use Rattle.stored_tier.specs.Filling.{HidesNone, is_held}
use Rattle.changed_sets.specs.declared.turns.Cut.{Cut}
use Rattle.changed_sets.specs.declared.turns.Patch.{Patch}
use Rattle.changed_sets.specs.declared.turns.Turn.{Turn}

-- An instance that is there, and shown then, becomes its root row, as it is now: its key keeps its place in the order
-- of last use. Another one leaves the store, whatever it was.
abbrev pub cut_by : Option (List (List (List Value))) → List Value → Kept → Kept
cut_by None root s = cut_store 0 root s
cut_by (Some bare) root s =
    if contains_key (kept_at s.tables 0) root then renewed_store root bare s else cut_store 0 root s

abbrev pub cut_all : List Cut → Kept → Kept
cut_all [] s = s
cut_all (c ∷ cuts) s = cut_all cuts (cut_by c.bare c.root s)

abbrev pub put_shown : Option (List (List (List Value))) → Kept → Kept
put_shown None s = s
put_shown (Some rows) s = put_tables 0 rows s

-- those of them that are shown have all their rows, as they are now; one that wasn't there is the newest
abbrev pub put_back : List Turn → Kept → Kept
put_back [] s = s
put_back (t ∷ turns) s = put_back turns (put_shown t.rows s)

abbrev pub turned : List Cut → List Turn → Kept → Kept
turned cuts turns s = put_back turns (cut_all cuts s)

-- how many rows come in
abbrev pub count_shown : Option (List (List (List Value))) → ℕ
count_shown None = 0
count_shown (Some rows) = count_all rows

abbrev pub count_cuts : List Cut → ℕ
count_cuts [] = 0
count_cuts (c ∷ cuts) = count_shown c.bare + count_cuts cuts

abbrev pub count_turns : List Turn → ℕ
count_turns [] = 0
count_turns (t ∷ turns) = count_shown t.rows + count_turns turns

-- at most so many tables come in with each
abbrev pub FitsTurn : ℕ → Turn → Type 0
FitsTurn n t = (rows : List (List (List Value))) → t.rows ≡ Some rows → length rows ≤ n

abbrev pub FitTurns : ℕ → List Turn → Type 0
FitTurns n turns = (i : ℕ) (t : Turn) → slice_get turns i ≡ Some t → FitsTurn n t

-- the tables are one row of this key
pub record IsOneUnder (columns : List ℕ) (root : List Value) (tables : List (List (List Value))) : Type 0 where
  pub row : List Value
  pub is : tables ≡ (row ∷ []) ∷ []
  pub key : key_of columns row ≡ root

abbrev pub IsBareUnder : List ℕ → List Value → Option (List (List (List Value))) → Type 0
IsBareUnder columns root bare =
    (tables : List (List (List Value))) → bare ≡ Some tables → IsOneUnder columns root tables

abbrev pub IsCutUnder : List ℕ → Cut → Type 0
IsCutUnder columns c = IsBareUnder columns c.root c.bare

-- so it is of each
abbrev pub AreUnder : List ℕ → List Cut → Type 0
AreUnder columns cuts = (i : ℕ) (c : Cut) → slice_get cuts i ≡ Some c → IsCutUnder columns c

-- The instance that was told is shown of a group, where this was its store and these its hidden root rows: its root row
-- is in the view, and past the horizon, and a dynamic group has its key, or gains what is wanted.
abbrev pub is_shown_told : Group → Kept → Table → Bool → Touched → Bool
is_shown_told g s hidden gains t =
    (not g.def.dynamic || (is_held s hidden t.instance.root || (gains && t.wanted)))
    && passes (exceeds g) (get (kept_at t.instance.rows 0) t.instance.root)

-- a root row alone, as the rows of a tree
abbrev pub bare_of : Option (List Value) → Option (List (List (List Value)))
bare_of None = None
bare_of (Some row) = Some ((row ∷ []) ∷ [])

-- what becomes of an instance that was told, where it is shown then, and where it isn't: at first
abbrev pub cut_of : (Touched → Bool) → Touched → Cut
cut_of shown t =
    record {
      root = t.instance.root;
      bare = (if shown t then bare_of (get (kept_at t.instance.rows 0) t.instance.root) else None);
    }

-- and then
abbrev pub turn_of : (Touched → Bool) → Touched → Turn
turn_of shown t = record { rows = (if shown t then Some (map values t.instance.rows) else None) }

-- the store has room for what comes in, and a place for each table; the root rows stand under its key
pub record IsReadyFor (s : Kept) (p : Patch) : Type 0 where
  pub room : count_cuts p.cuts + count_turns p.turns ≤ s.spare
  pub under : AreUnder s.key p.cuts
  pub fits : FitTurns (length s.layers + 1) p.turns

-- so it is of one that was told of a group
pub record IsCutFor (g : Group) (s : Kept) (hidden : Table) (gains : Bool) (told : Touched) (c : Cut) : Type 0 where
  pub is : c ≡ cut_of (is_shown_told g s hidden gains) told
  pub under : IsCutUnder s.key c

pub record IsTurnFor (g : Group) (s : Kept) (hidden : Table) (gains : Bool) (told : Touched) (t : Turn) : Type 0 where
  pub is : t ≡ turn_of (is_shown_told g s hidden gains) told
  pub fits : FitsTurn (length g.def.tree.children + 1) t

-- of each that was told
pub record AreCuts (g : Group) (s : Kept) (hidden : Table) (gains : Bool) (told : List Touched) (cuts : List Cut)
    : Type 0 where
  pub are : cuts ≡ map (cut_of (is_shown_told g s hidden gains)) told
  pub under : AreUnder s.key cuts

pub record AreTurns (g : Group) (s : Kept) (hidden : Table) (gains : Bool) (told : List Touched) (turns : List Turn)
    : Type 0 where
  pub are : turns ≡ map (turn_of (is_shown_told g s hidden gains)) told
  pub fit : FitTurns (length g.def.tree.children + 1) turns

-- What becomes of a group, of which these instances were told, with a place for the root rows that it will hide.
pub record IsPatchFor (schema : List TableDef) (g : Group) (s : Kept) (hidden : Table) (gains : Bool)
    (told : List Touched) (p : Patch) : Type 0 where
  pub cuts : AreCuts g s hidden gains told p.cuts
  pub turns : AreTurns g s hidden gains told p.turns
  pub hiding : HidesNone schema g (len (kept_at s.tables 0) + (count_cuts p.cuts + count_turns p.turns)) p.hidden
  pub keyed : HasRootKeys s

-- behind it the store is another one
pub record IsTurned (p : Patch) (old new : Kept) : Type 0 where
  pub store : SameButSpare (turned p.cuts p.turns old) new
  pub keyed : HasRootKeys new
