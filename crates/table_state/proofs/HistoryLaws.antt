-- Laws of lists of operations and of histories.
use Rattle.std.proofs.Common.{◌≡◌, ℕ, zero, suc, ◌+◌, ◌<◌, ◌≤◌, Bool, true, false, ◌||◌, Option, Some, None, List, [], ◌∷◌, ◌++◌, length, take, drop, get_or, slice_get, subst, refl, sym, ap, ◌∙◌, arith}
use Rattle.std.specs.Option.{option_and_then, option_or}
use Rattle.std.proofs.lemmas.List.{take_all, take_more, drop_more, take-append-drop}
use Rattle.table_state.specs.declared.operation.Op.{Op}
use Rattle.table_state.specs.declared.history.Entry.{Entry}
use Rattle.table_state.specs.declared.refusal.ApplyError.{ApplyError}
use Rattle.table_state.specs.declared.refusal.ApplyError.TheVariants as error
use Rattle.table_state.specs.Tables.{TableState}
use Rattle.table_state.specs.Operations.{applied, applied_all}
use Rattle.table_state.specs.Histories.{after_entry, has_ticket, is_of, no_tables, state_from, state_of}
use Rattle.table_state.specs.declared.history.Entry.TheVariants.{Definition, Foreign, Own}
use Rattle.table_state.specs.Refusals.{IsFault, SaysNone, StopsAt, broken_by, broken_by_all, broken_by_entry, broken_in}
use Rattle.table_state.proofs.ChangeLaws.{refuses, unbroken_where_applied}

module _ {S : Type 0} (f g : S → Option S) where
  -- a step and then others
  stepped : (h : S → Option S) → ((s : S) → g s ≡ option_and_then h (f s)) → (o : Option S) → option_and_then g o ≡ option_and_then h (option_and_then f o)
  stepped h e None = refl
  stepped h e (Some s) = e s

pub applied_all-append : (xs ys : List Op) (s : TableState) → applied_all (xs ++ ys) s ≡ option_and_then (applied_all ys) (applied_all xs s)
applied_all-append [] ys s = refl
applied_all-append (op ∷ xs) ys s = stepped (applied_all xs) (applied_all (xs ++ ys)) (applied_all ys) (applied_all-append xs ys) (applied op s)

pub state_from-append : (xs ys : List Entry) (s : TableState) → state_from (xs ++ ys) s ≡ option_and_then (state_from ys) (state_from xs s)
state_from-append [] ys s = refl
state_from-append (entry ∷ xs) ys s = stepped (state_from xs) (state_from (xs ++ ys)) (state_from ys) (state_from-append xs ys) (after_entry entry s)

pub state_of-append : (xs ys : List Entry) → state_of (xs ++ ys) ≡ option_and_then (state_from ys) (state_of xs)
state_of-append xs ys = state_from-append xs ys no_tables

or_assoc : (a b c : Bool) → (a || (b || c)) ≡ ((a || b) || c)
or_assoc true b c = refl
or_assoc false b c = refl

pub has_ticket-append : (ticket : ℕ) (xs ys : List Entry) → has_ticket ticket (xs ++ ys) ≡ (has_ticket ticket xs || has_ticket ticket ys)
has_ticket-append ticket [] ys = refl
has_ticket-append ticket (entry ∷ xs) ys = ap (λ b. is_of ticket entry || b) (has_ticket-append ticket xs ys) ∙ or_assoc (is_of ticket entry) (has_ticket ticket xs) (has_ticket ticket ys)

-- one more, at a place of a list
module _ {X S : Type 0} (step : X → S → Option S) (steps : List X → S → Option S) (none : (s : S) → steps [] s ≡ Some s) (some : (x : X) (xs : List X) (s : S) → steps (x ∷ xs) s ≡ option_and_then (steps xs) (step x s))
    (appended : (xs ys : List X) (s : S) → steps (xs ++ ys) s ≡ option_and_then (steps ys) (steps xs s)) (xs : List X) (i : ℕ) (x : X) (start now : S) (lt : i < length xs) (is : x ≡ get_or xs i x) (so_far : steps (take i xs) start ≡ Some now) where
  pub one_more : (new : S) → step x now ≡ Some new → steps (take (i + 1) xs) start ≡ Some new
  one_more new e =
      ap (λ l. steps l start) (take_more xs i x lt ∙ ap (λ y. take i xs ++ y ∷ []) (sym is)) ∙ appended (take i xs) (x ∷ []) start ∙ ap (option_and_then (steps (x ∷ []))) so_far
      ∙ some x [] now ∙ ap (option_and_then (steps [])) e ∙ none new

  -- the whole list is the front, the element, and the rest
  pub split_here : xs ≡ take i xs ++ x ∷ drop (i + 1) xs
  split_here = sym (take-append-drop i xs) ∙ ap (λ l. take i xs ++ l) (drop_more xs i x lt ∙ ap (λ y. y ∷ drop (i + 1) xs) (sym is))

  pub stops_here : step x now ≡ None → steps xs start ≡ None
  stops_here e =
      ap (λ l. steps l start) split_here ∙ appended (take i xs) (x ∷ drop (i + 1) xs) start ∙ ap (option_and_then (steps (x ∷ drop (i + 1) xs))) so_far
      ∙ some x (drop (i + 1) xs) now ∙ ap (option_and_then (steps (drop (i + 1) xs))) e

-- faults behind operations that apply
pub broken_behind : (xs ys : List Op) (s n : TableState) → applied_all xs s ≡ Some n → broken_by_all (xs ++ ys) s ≡ broken_by_all ys n
broken_behind [] ys s n e = let same : s ≡ n = cc in ap (broken_by_all ys) same
broken_behind (op ∷ xs) ys s n e = by (applied op s) refl e (λ t. broken_behind xs ys t n)
  where
    by : (o : Option TableState) → applied op s ≡ o → option_and_then (applied_all xs) o ≡ Some n → ((t : TableState) → applied_all xs t ≡ Some n → broken_by_all (xs ++ ys) t ≡ broken_by_all ys n)
        → option_or (broken_by op s) (option_and_then (broken_by_all (xs ++ ys)) (applied op s)) ≡ broken_by_all ys n
    by None h f rest = cc
    by (Some t) h f rest = rw (unbroken_where_applied op s t h, h) (rest t f)

pub none_all : (ops : List Op) (s : TableState) (e : ApplyError) → broken_by_all ops s ≡ Some e → applied_all ops s ≡ None
none_all [] s e h = cc
none_all (op ∷ ops) s e h = by (broken_by op s) refl (applied op s) refl h (λ t. none_all ops t e)
  where
    by : (f : Option ApplyError) → broken_by op s ≡ f → (o : Option TableState) → applied op s ≡ o → option_or f (option_and_then (broken_by_all ops) o) ≡ Some e
        → ((t : TableState) → broken_by_all ops t ≡ Some e → applied_all ops t ≡ None) → option_and_then (applied_all ops) (applied op s) ≡ None
    by (Some y) f_is o o_is h rest = ap (option_and_then (applied_all ops)) (refuses op s y f_is)
    by None f_is None o_is h rest = ap (option_and_then (applied_all ops)) o_is
    by None f_is (Some t) o_is h rest = ap (option_and_then (applied_all ops)) o_is ∙ rest t h

pub says_none_all : (ops : List Op) (s : TableState) (e : ApplyError) → IsFault (broken_by_all ops s) e → SaysNone (applied_all ops s) e
says_none_all ops s (error.Rule rule) h = none_all ops s (error.Rule rule) h
says_none_all ops s (error.Differs t key row) h = none_all ops s (error.Differs t key row) h
says_none_all ops s error.Memory h = tt

-- the first operation that doesn't apply is the one at a place of the list
pub fault_here : (ops : List Op) (i : ℕ) (op : Op) (start now : TableState) → i < length ops → op ≡ get_or ops i op → applied_all (take i ops) start ≡ Some now → (e : ApplyError) → IsFault (broken_by op now) e
    → IsFault (broken_by_all ops start) e
fault_here ops i op start now lt is so_far e h = told e h
  where
    behind : broken_by_all ops start ≡ option_or (broken_by op now) (option_and_then (broken_by_all (drop (i + 1) ops)) (applied op now))
    behind =
        ap (λ l. broken_by_all l start) (split_here applied applied_all (λ s. refl) (λ x xs s. refl) applied_all-append ops i op start now lt is so_far)
        ∙ broken_behind (take i ops) (op ∷ drop (i + 1) ops) start now so_far

    told : (e : ApplyError) → IsFault (broken_by op now) e → IsFault (broken_by_all ops start) e
    told (error.Rule rule) h = behind ∙ ap (λ f. option_or f (option_and_then (broken_by_all (drop (i + 1) ops)) (applied op now))) h
    told (error.Differs t key row) h = behind ∙ ap (λ f. option_or f (option_and_then (broken_by_all (drop (i + 1) ops)) (applied op now))) h
    told error.Memory h = tt

-- one operation more
pub one_op_more : (ops : List Op) (i : ℕ) (op : Op) (start now new : TableState) → i < length ops → op ≡ get_or ops i op → applied_all (take i ops) start ≡ Some now → applied op now ≡ Some new
    → applied_all (take (i + 1) ops) start ≡ Some new
one_op_more ops i op start now new lt is so_far = one_more applied applied_all (λ s. refl) (λ x xs s. refl) applied_all-append ops i op start now lt is so_far new

-- one entry more
pub one_entry_more : (entries : List Entry) (i : ℕ) (entry : Entry) (start now new : TableState) → i < length entries → entry ≡ get_or entries i entry → state_from (take i entries) start ≡ Some now → after_entry entry now ≡ Some new
    → state_from (take (i + 1) entries) start ≡ Some new
one_entry_more entries i entry start now new lt is so_far = one_more after_entry state_from (λ s. refl) (λ x xs s. refl) state_from-append entries i entry start now lt is so_far new

-- no state behind an entry that doesn't apply
pub no_state_here : (entries : List Entry) (i : ℕ) (entry : Entry) (start now : TableState) → i < length entries → entry ≡ get_or entries i entry → state_from (take i entries) start ≡ Some now → (e : ApplyError) → SaysNone (after_entry entry now) e
    → SaysNone (state_from entries start) e
no_state_here entries i entry start now lt is so_far (error.Rule rule) h = stops_here after_entry state_from (λ s. refl) (λ x xs s. refl) state_from-append entries i entry start now lt is so_far h
no_state_here entries i entry start now lt is so_far (error.Differs t key row) h = stops_here after_entry state_from (λ s. refl) (λ x xs s. refl) state_from-append entries i entry start now lt is so_far h
no_state_here entries i entry start now lt is so_far error.Memory h = tt

-- what applies breaks nothing
unbroken_all : (ops : List Op) (s n : TableState) → applied_all ops s ≡ Some n → broken_by_all ops s ≡ None
unbroken_all ops s n h = by (broken_by_all ops s) refl
  where
    by : (f : Option ApplyError) → broken_by_all ops s ≡ f → f ≡ None
    by None e = refl
    by (Some x) e = let none : applied_all ops s ≡ None = none_all ops s x e in cc

unbroken_entry : (entry : Entry) (s n : TableState) → after_entry entry s ≡ Some n → broken_by_entry entry s ≡ None
unbroken_entry (Definition def) s n h = refl
unbroken_entry (Foreign ops) s n h = unbroken_all ops s n h
unbroken_entry (Own ticket ops) s n h = unbroken_all ops s n h

-- faults behind entries that apply
broken_behind_entries : (xs ys : List Entry) (s n : TableState) → state_from xs s ≡ Some n → broken_in (xs ++ ys) s ≡ broken_in ys n
broken_behind_entries [] ys s n e = let same : s ≡ n = cc in ap (broken_in ys) same
broken_behind_entries (x ∷ xs) ys s n e = by (after_entry x s) refl e (λ t. broken_behind_entries xs ys t n)
  where
    by : (o : Option TableState) → after_entry x s ≡ o → option_and_then (state_from xs) o ≡ Some n → ((t : TableState) → state_from xs t ≡ Some n → broken_in (xs ++ ys) t ≡ broken_in ys n)
        → option_or (broken_by_entry x s) (option_and_then (broken_in (xs ++ ys)) (after_entry x s)) ≡ broken_in ys n
    by None h f rest = cc
    by (Some t) h f rest = rw (unbroken_entry x s t h, h) (rest t f)

-- the first entry that doesn't apply is the one at a place of the list
pub entry_fault_here : (entries : List Entry) (i : ℕ) (entry : Entry) (start now : TableState) → i < length entries → entry ≡ get_or entries i entry → state_from (take i entries) start ≡ Some now → (e : ApplyError)
    → IsFault (broken_by_entry entry now) e → IsFault (broken_in entries start) e
entry_fault_here entries i entry start now lt is so_far e h = told e h
  where
    behind : broken_in entries start ≡ option_or (broken_by_entry entry now) (option_and_then (broken_in (drop (i + 1) entries)) (after_entry entry now))
    behind =
        ap (λ l. broken_in l start) (split_here after_entry state_from (λ s. refl) (λ x xs s. refl) state_from-append entries i entry start now lt is so_far)
        ∙ broken_behind_entries (take i entries) (entry ∷ drop (i + 1) entries) start now so_far

    told : (e : ApplyError) → IsFault (broken_by_entry entry now) e → IsFault (broken_in entries start) e
    told (error.Rule rule) h = behind ∙ ap (λ f. option_or f (option_and_then (broken_in (drop (i + 1) entries)) (after_entry entry now))) h
    told (error.Differs t key row) h = behind ∙ ap (λ f. option_or f (option_and_then (broken_in (drop (i + 1) entries)) (after_entry entry now))) h
    told error.Memory h = tt

-- where the next entry stays out
pub stops_at : (entries : List Entry) (i : ℕ) (entry : Entry) (start now new : TableState) → i < length entries → entry ≡ get_or entries i entry → state_from (take i entries) start ≡ Some now → new ≡ now → (e : ApplyError)
    → IsFault (broken_by_entry entry now) e → StopsAt entries start new e
stops_at entries i entry start now new lt is so_far same e h = record {
  steps = i;
  entry = entry;
  taken = so_far ∙ ap Some (sym same);
  next = get_there entries i entry lt ∙ ap Some (sym is);
  refused = subst (λ (s : TableState). IsFault (broken_by_entry entry s) e) (sym same) h;
}
  where
    get_there : (xs : List Entry) (i : ℕ) (d : Entry) → i < length xs → slice_get xs i ≡ Some (get_or xs i d)
    get_there [] i d lt = absurd (omega arith)
    get_there (x ∷ xs) zero d lt = refl
    get_there (x ∷ xs) (suc i) d lt = get_there xs i d (omega arith)

-- the fault of a front is that of the whole
front_fault : (xs ys : List Op) (s : TableState) (e : ApplyError) → broken_by_all xs s ≡ Some e → broken_by_all (xs ++ ys) s ≡ Some e
front_fault [] ys s e h = cc
front_fault (op ∷ xs) ys s e h = by (broken_by op s) (applied op s) h (λ t. front_fault xs ys t e)
  where
    by : (f : Option ApplyError) (o : Option TableState) → option_or f (option_and_then (broken_by_all xs) o) ≡ Some e → ((t : TableState) → broken_by_all xs t ≡ Some e → broken_by_all (xs ++ ys) t ≡ Some e)
        → option_or f (option_and_then (broken_by_all (xs ++ ys)) o) ≡ Some e
    by (Some y) o h rest = h
    by None None h rest = cc
    by None (Some t) h rest = rest t h

pub fault_in_front : (xs ys : List Op) (s : TableState) (e : ApplyError) → IsFault (broken_by_all xs s) e → IsFault (broken_by_all (xs ++ ys) s) e
fault_in_front xs ys s (error.Rule rule) h = front_fault xs ys s (error.Rule rule) h
fault_in_front xs ys s (error.Differs t key row) h = front_fault xs ys s (error.Differs t key row) h
fault_in_front xs ys s error.Memory h = tt

-- an operation behind those that apply
pub last_applied : (front : List Op) (last : Op) (start now new : TableState) → applied_all front start ≡ Some now → applied last now ≡ Some new → applied_all (front ++ last ∷ []) start ≡ Some new
last_applied front last start now new so_far is = applied_all-append front (last ∷ []) start ∙ ap (option_and_then (applied_all (last ∷ []))) so_far ∙ ap (option_and_then (applied_all [])) is

pub last_fault : (front : List Op) (last : Op) (start now : TableState) → applied_all front start ≡ Some now → (e : ApplyError) → IsFault (broken_by last now) e → IsFault (broken_by_all (front ++ last ∷ []) start) e
last_fault front last start now so_far (error.Rule rule) h = broken_behind front (last ∷ []) start now so_far ∙ ap (λ f. option_or f (option_and_then (broken_by_all []) (applied last now))) h
last_fault front last start now so_far (error.Differs t key row) h = broken_behind front (last ∷ []) start now so_far ∙ ap (λ f. option_or f (option_and_then (broken_by_all []) (applied last now))) h
last_fault front last start now so_far error.Memory h = tt

-- all operations of the list were gone through
pub all_gone_through : (ops : List Op) (i : ℕ) (start now : TableState) → length ops ≤ i → applied_all (take i ops) start ≡ Some now → applied_all ops start ≡ Some now
all_gone_through ops i start now h so_far = ap (λ l. applied_all l start) (sym (take_all i ops h)) ∙ so_far
