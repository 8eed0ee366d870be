-- The rule of the table behind the lock, and what each step on it tells. This project's rule, that of a ticket lock.
-- Word 0 is the next turn to be drawn, and word 1 the turn that is served. The one slot holds the value while nobody
-- has it.
use Rattle.std.specs.Prelude.{◌≡◌, ◌≢◌, ◌⊎◌, ℕ, ◌+◌, ◌-◌, ◌<◌, ◌≤◌, List, [], ◌∷◌, ◌++◌, Option, Some, None}
use mathlib.Core.Option.{some, none}
use mathlib.Core.Option as maybe
use mathlib.Core.List.{IsPrefix}
use lib.ListN.{get_elem?}
use Rattle.atomic_table.specs.Table.{State, Me, Step}
use Rattle.turn_lock.specs.Places.{occurrences, total, new_places, AllBegin}
use Rattle.turn_lock.specs.declared.view.View.{View}
use Rattle.turn_lock.specs.declared.view.Stage.{Stage}
use Rattle.turn_lock.specs.declared.view.Stage.TheVariants.{Idle, Waits, Holds}

module _ {E : Type 0} where
  -- the turn that a seat drew and hasn't given back
  abbrev pub turn_of : Stage E → Option ℕ
  turn_of Idle = None
  turn_of (Waits t) = Some t
  turn_of (Holds t l) = Some t

  -- the same as a number, which means nothing for an idle seat
  abbrev pub number_of : Stage E → ℕ
  number_of Idle = 0
  number_of (Waits t) = t
  number_of (Holds t l) = t

  -- the list that the holder of the value found
  abbrev pub found_of : Stage E → List E
  found_of (Holds t l) = l
  found_of _ = []

  -- the view of the first seat
  abbrev pub opening_view : ℕ → List E → View E
  opening_view seats list = record { parts = seats; stage = Idle; seen = list; told = []; given = [] }

  -- the view of a seat that another took in
  abbrev pub spent_view : View E
  spent_view = record { parts = 0; stage = Idle; seen = []; told = []; given = [] }

  -- a view that gives n of its parts away
  abbrev pub keeping : View E → ℕ → View E
  keeping v n = record v { parts = v.parts - n }

  -- the view of the new seat that gets them: it knows the same, and has given nothing
  abbrev pub portion : View E → ℕ → View E
  portion v n = record { parts = n; stage = Idle; seen = v.seen; told = v.told; given = [] }

  -- a view that takes in another: it keeps what both know and gave
  abbrev pub joined : View E → View E → View E
  joined v w = record v { parts = v.parts + w.parts; told = v.told ++ w.seen ∷ w.told; given = v.given ++ w.given }

  -- a view that drew a turn
  abbrev pub waiting : View E → ℕ → View E
  waiting v t = record v { stage = Waits t }

  -- a view whose turn is served, and which found this list
  abbrev pub holding : View E → ℕ → List E → View E
  holding v t l = record v { stage = Holds t l }

  -- a view that found the old list and gave the new one
  abbrev pub after_giving : View E → List E → List E → View E
  after_giving v old new = record v { stage = Idle; seen = new; given = v.given ++ new_places old new }

  -- One view fits the words and the list. A turn is served or yet to come, the served one found the list as it is,
  -- what the view knows begins the list, and a view without parts has given nothing and is idle.
  pub record Fits (log : List E) (served next : ℕ) (v : View E) : Type 0 where
    pub turn : (t : ℕ) → turn_of v.stage ≡ Some t → (served ≤ t) × (t < next)
    pub holds : (t : ℕ) (l : List E) → v.stage ≡ Holds t l → (t ≡ served) × (l ≡ log)
    pub seen : IsPrefix v.seen log
    pub told : AllBegin v.told log
    pub empty : v.parts ≡ 0 → (v.given ≡ []) × (v.stage ≡ Idle)

module _ {V E : Type 0} where
  -- the value lies in the slot and stores the list, or it is out with the seat whose turn is served, which found the
  -- list
  abbrev pub IsHomeOrHeld : (V → List E) → List E → ℕ → List (maybe.Option (Option V)) → List (View E) → Type 0
  IsHomeOrHeld list log served homes views =
      ((x : V) × (homes ≡ some (Some x) ∷ []) × (list x ≡ log))
      ⊎ ((h : ℕ) × (v : View E) × (homes ≡ none ∷ []) × (get_elem? views h ≡ some v) × (v.stage ≡ Holds served log))

  -- The rule. `log` is the list that the value stores, as of the last turn given back. It begins with the opening list,
  -- each view fits it, no two views have one turn, each place past the opening list was given by one view, once,
  -- no other place was given, and no part is lost.
  pub record KeepsTurns (list : V → List E) (opening : List E) (seats : ℕ)
      (s : State (Option V) (View E)) : Type 0 where
    pub next : ℕ
    pub served : ℕ
    pub log : List E
    pub words : s.words ≡ next ∷ served ∷ []
    pub in_range : next < 18446744073709551616
    pub order : served ≤ next
    pub begins : IsPrefix opening log
    pub home_or_held : IsHomeOrHeld list log served s.homes s.views
    pub fits : (j : ℕ) (v : View E) → get_elem? s.views j ≡ some v → Fits log served next v
    pub apart : (i j : ℕ) (v w : View E) (t : ℕ) → get_elem? s.views i ≡ some v → get_elem? s.views j ≡ some w
        → turn_of v.stage ≡ Some t → turn_of w.stage ≡ Some t → i ≡ j
    pub given_once : (k : ℕ)
        → total (λ (v : View E). occurrences k v.given) s.views ≡ occurrences k (new_places opening log)
    pub parts : total (λ (v : View E). v.parts) s.views ≡ seats

  -- Drawing tells: where word 0 was the number expected, that turn is the seat's, and else nothing changed.
  abbrev pub Draws : Step (Option V) → Me (Option V) (View E) → ℕ → Me (Option V) (View E) → Type 0
  Draws st m n m' = (m'.1 ≡ m.1) × (n ≡ st.first → m'.0 ≡ waiting m.0 n) × (n ≢ st.first → m'.0 ≡ m.0)

  -- Looking tells a seat that waits: where its turn is served it took the value, which begins with all that the seat
  -- knows, and else nothing changed.
  abbrev pub Looks : (V → List E) → Step (Option V) → Me (Option V) (View E) → ℕ → Me (Option V) (View E) → Type 0
  Looks list st m n m' = (t : ℕ) → m.0.stage ≡ Waits t
      → (n ≡ t → (x : V) × (m'.0 ≡ holding m.0 t (list x)) × (m'.1 ≡ (0, Some x) ∷ m.1) × IsPrefix m.0.seen (list x)
      × AllBegin m.0.told (list x)) × (n ≢ t → m' ≡ m)

  -- Advancing tells the holder: the value is back in the slot, and the places that its list gained are the seat's.
  abbrev pub Advances : (V → List E) → Step (Option V) → Me (Option V) (View E) → ℕ → Me (Option V) (View E) → Type 0
  Advances list st m n m' = (t : ℕ) (l : List E) (y : V) → m.0.stage ≡ Holds t l → m.1 ≡ (0, Some y) ∷ []
      → (m'.1 ≡ []) × (m'.0 ≡ after_giving m.0 l (list y))
