-- Patch by patch.
use Rattle.std.proofs.Common.{◌≡◌, ◌≤◌, ◌<◌, ℕ, zero, suc, ◌+◌, Bool, true, false, cond, Option, Some, None, List, [], ◌∷◌, ◌++◌, length, slice_get, slice_set, unwrap_or, refl, sym, ap, subst, ◌∙◌, arith}
use Rattle.std.specs.Option.{option_map}
use Rattle.std.specs.FinMap as fm
use Rattle.row_types.specs.declared.value.Value.{Value}
use Rattle.row_types.proofs.OrderLaws.{key_total}
use Rattle.indexed_rows.specs.Rows.{Table, key_of, put_in}
use Rattle.table_defs.specs.declared.definition.TableDef.{TableDef}
use Rattle.instances.specs.Views.{kept_at}
use Rattle.cache_store.specs.Operating.{change_at}
use Rattle.group_store.specs.Stores.{Kept, count_all, cut_store, put_rows, put_store, put_tables, renewed_store}
use Rattle.group_store.specs.Trees.{keep, leads}
use Rattle.slot_rows.specs.SlotKeys.{RowsHeld}
use Rattle.cache_tier.specs.Groups.{Group}
use Rattle.aging_cycles.proofs.RootRows.{fewer_rows}
use Rattle.stored_tier.specs.Filling.{HidesNone}
use Rattle.stored_tier.specs.Lists.{IsHidingFor}
use Rattle.stored_tier.specs.Refreshing.{exchanged, made_hidden, made_stores}
use Rattle.stored_tier.specs.declared.refreshing.Made.{Made}
use Rattle.stored_tier.proofs.PutLaws.{long_tables}
use Rattle.changed_sets.specs.Showing.{AllCame, CameOf, HiddenBy, Patched, PatchedAt, TurnedBy}
use Rattle.changed_sets.specs.Turning.{IsTurned, count_cuts, count_shown, count_turns, cut_all, cut_by, put_back, put_shown}
use Rattle.changed_sets.specs.declared.turns.Cut.{Cut}
use Rattle.changed_sets.specs.declared.turns.Patch.{Patch}
use Rattle.changed_sets.specs.declared.turns.Turn.{Turn}
use Rattle.changed_sets.proofs.TurnSteps.{turned_form}

-- ---- one place, and all of them

module _ {X : Type 0} (R : Option Patch → X → X → Type 0) where
  pub patched_none : (xs : List X) → Patched R [] xs xs
  patched_none [] = tt
  patched_none (x ∷ xs) = (refl, patched_none xs)

  none_is : (xs ys : List X) → Patched R [] xs ys → ys ≡ xs
  none_is [] [] p = refl
  none_is [] (y ∷ ys) p = absurd p
  none_is (x ∷ xs) [] p = absurd p
  none_is (x ∷ xs) (y ∷ ys) p = let first = p.0 in let rest = none_is xs ys p.1 in λ i. first i ∷ rest i

  pub patched_last : (front : List (Option Patch)) (o : Option Patch) (xs mid ys : List X) → PatchedAt R (length front) o xs mid → Patched R front mid ys → Patched R (front ++ o ∷ []) xs ys
  patched_last [] o [] [] ys at p = subst (Patched R (o ∷ []) []) (sym (none_is [] ys p)) tt
  patched_last [] o [] (m ∷ mid) ys at p = absurd at
  patched_last [] o (x ∷ xs) [] ys at p = absurd at
  patched_last [] o (x ∷ xs) (m ∷ mid) ys at p =
      subst (Patched R (o ∷ []) (x ∷ xs)) (sym (none_is (m ∷ mid) ys p))
      (at.0, subst (Patched R [] xs) (sym at.1) (patched_none xs))
  patched_last (f ∷ front) o [] [] [] at p = tt
  patched_last (f ∷ front) o [] [] (y ∷ ys) at p = absurd p
  patched_last (f ∷ front) o [] (m ∷ mid) ys at p = absurd at
  patched_last (f ∷ front) o (x ∷ xs) [] ys at p = absurd at
  patched_last (f ∷ front) o (x ∷ xs) (m ∷ mid) [] at p = absurd p
  patched_last (f ∷ front) o (x ∷ xs) (m ∷ mid) (y ∷ ys) at p = (subst (λ z. R f z y) at.0 p.0, patched_last front o xs mid ys at.1 p.1)

  pub at_set : (place : ℕ) (o : Option Patch) (xs : List X) (x y : X) → slice_get xs place ≡ Some x → R o x y → PatchedAt R place o xs (slice_set xs place y)
  at_set place o [] x y at r = cc
  at_set zero o (z ∷ xs) x y at r = let same : z ≡ x = cc in (subst (λ w. R o w y) (sym same) r, refl)
  at_set (suc place) o (z ∷ xs) x y at r = (refl, at_set place o xs x y at r)

  pub at_past : (place : ℕ) (o : Option Patch) (xs : List X) → length xs ≤ place → PatchedAt R place o xs xs
  at_past place o [] le = tt
  at_past zero o (x ∷ xs) le = absurd (omega (arith, le))
  at_past (suc place) o (x ∷ xs) le = (refl, at_past place o xs (omega (arith, le)))

  pub at_none : ((x : X) → R None x x) → (place : ℕ) (xs : List X) → PatchedAt R place None xs xs
  at_none self place [] = tt
  at_none self zero (x ∷ xs) = (self x, refl)
  at_none self (suc place) (x ∷ xs) = (refl, at_none self place xs)

  -- the others stay where they were
  pub before_at : (place : ℕ) (o : Option Patch) (xs ys : List X) (k : ℕ) → k < place → PatchedAt R place o xs ys → slice_get ys k ≡ slice_get xs k
  before_at place o [] [] k lt p = refl
  before_at place o [] (y ∷ ys) k lt p = absurd p
  before_at place o (x ∷ xs) [] k lt p = absurd p
  before_at zero o (x ∷ xs) (y ∷ ys) k lt p = absurd (omega (arith, lt))
  before_at (suc place) o (x ∷ xs) (y ∷ ys) zero lt p = ap Some p.0
  before_at (suc place) o (x ∷ xs) (y ∷ ys) (suc k) lt p = before_at place o xs ys k (omega (arith, lt)) p.1

pub in_front : (front : List (Option Patch)) (o : Option Patch) (k : ℕ) (p : Patch) → slice_get front k ≡ Some (Some p) → (k < length front) × (slice_get (front ++ o ∷ []) k ≡ Some (Some p))
in_front [] o k p at = cc
in_front (f ∷ front) o zero p at = (omega arith, at)
in_front (f ∷ front) o (suc k) p at = let rest = in_front front o k p at in (omega (arith, rest.0), rest.1)

pub at_end : (front : List (Option Patch)) (o : Option Patch) → slice_get (front ++ o ∷ []) (length front) ≡ Some o
at_end [] o = refl
at_end (f ∷ front) o = at_end front o

-- ---- what came of them

abbrev pub made_of : Option Patch → Kept → Option Made
made_of None x = None
made_of (Some p) x = Some (record { store = x; hidden = p.hidden })

abbrev pub made_from : List (Option Patch) → List Kept → List (Option Made)
made_from [] xs = []
made_from (o ∷ patches) [] = None ∷ made_from patches []
made_from (o ∷ patches) (x ∷ xs) = made_of o x ∷ made_from patches xs

pub from_long : (patches : List (Option Patch)) (xs : List Kept) → length (made_from patches xs) ≡ length patches
from_long [] xs = refl
from_long (o ∷ patches) [] = ap suc (from_long patches [])
from_long (o ∷ patches) (x ∷ xs) = ap suc (from_long patches xs)

nothing_exchanged : {X : Type 0} (xs : List X) → exchanged xs [] ≡ xs
nothing_exchanged [] = refl
nothing_exchanged (x ∷ xs) = refl

pub stores_exchanged : (patches : List (Option Patch)) (xs ys : List Kept) → Patched TurnedBy patches xs ys → exchanged xs (made_stores (made_from patches ys)) ≡ ys
stores_exchanged patches [] [] p = refl
stores_exchanged patches [] (y ∷ ys) p = absurd p
stores_exchanged patches (x ∷ xs) [] p = absurd p
stores_exchanged [] (x ∷ xs) (y ∷ ys) p = sym (none_is TurnedBy (x ∷ xs) (y ∷ ys) p)
stores_exchanged (o ∷ patches) (x ∷ xs) (y ∷ ys) p =
    let first = of o p.0 in
    let rest = stores_exchanged patches xs ys p.1 in
    λ i. first i ∷ rest i
  where
    of : (o : Option Patch) → TurnedBy o x y → unwrap_or (option_map (λ (m : Made). m.store) (made_of o y)) x ≡ y
    of None e = sym e
    of (Some q) e = refl

pub hidden_exchanged : (patches : List (Option Patch)) (stores : List Kept) (xs ys : List RowsHeld) → length stores ≡ length xs → Patched HiddenBy patches xs ys → exchanged xs (made_hidden (made_from patches stores)) ≡ ys
hidden_exchanged patches stores [] [] long p = refl
hidden_exchanged patches stores [] (y ∷ ys) long p = absurd p
hidden_exchanged patches stores (x ∷ xs) [] long p = absurd p
hidden_exchanged [] stores (x ∷ xs) (y ∷ ys) long p = sym (none_is HiddenBy (x ∷ xs) (y ∷ ys) p)
hidden_exchanged (o ∷ patches) [] (x ∷ xs) (y ∷ ys) long p = absurd (omega (arith, long))
hidden_exchanged (o ∷ patches) (s ∷ stores) (x ∷ xs) (y ∷ ys) long p =
    let first = of o p.0 in
    let rest = hidden_exchanged patches stores xs ys (omega (arith, long)) p.1 in
    λ i. first i ∷ rest i
  where
    of : (o : Option Patch) → HiddenBy o x y → unwrap_or (option_map (λ (m : Made). m.hidden) (made_of o s)) x ≡ y
    of None e = sym e
    of (Some q) e = sym e

pub all_came : (patches : List (Option Patch)) (xs ys : List Kept) → Patched TurnedBy patches xs ys → AllCame patches xs (made_from patches ys)
all_came patches xs ys p = record { long = from_long patches ys; each = each patches xs ys p }
  where
    of : (o : Option Patch) (s y : Kept) → TurnedBy o s y → CameOf o s (made_of o y)
    of None s y e = refl
    of (Some q) s y e = (e, refl)

    each : (patches : List (Option Patch)) (xs ys : List Kept) → Patched TurnedBy patches xs ys → (k : ℕ) (o : Option Patch) (s : Kept) (x : Option Made) → slice_get patches k ≡ Some o → slice_get xs k ≡ Some s → slice_get (made_from patches ys) k ≡ Some x → CameOf o s x
    each [] xs ys p k o s x a b c = cc
    each (q ∷ patches) [] ys p k o s x a b c = cc
    each (q ∷ patches) (z ∷ xs) [] p k o s x a b c = absurd p
    each (q ∷ patches) (z ∷ xs) (y ∷ ys) p zero o s x a b c =
        let one : q ≡ o = cc in
        let two : z ≡ s = cc in
        let three : made_of q y ≡ x = cc in
        subst (λ m. CameOf o s m) three (subst (λ w. CameOf w s (made_of q y)) one (subst (λ w. CameOf q w (made_of q y)) two (of q z y p.0)))
    each (q ∷ patches) (z ∷ xs) (y ∷ ys) p (suc k) o s x a b c = each patches xs ys p.1 k o s x a b c

-- what came of a patch that there is
pub came_some : (patches : List (Option Patch)) (stores : List Kept) (made : List (Option Made)) → AllCame patches stores made → (k : ℕ) (s : Kept) (m : Made) → slice_get stores k ≡ Some s → slice_get made k ≡ Some (Some m)
    → (p : Patch) × (slice_get patches k ≡ Some (Some p)) × IsTurned p s m.store × (m.hidden ≡ p.hidden)
came_some patches stores made came k s m at there = by (there_too made patches k (Some m) (sym came.long) there)
  where
    there_too : {A B : Type 0} (xs : List A) (ys : List B) (k : ℕ) (a : A) → length ys ≡ length xs → slice_get xs k ≡ Some a → (b : B) × (slice_get ys k ≡ Some b)
    there_too [] ys k a long at = cc
    there_too (x ∷ xs) [] k a long at = absurd (omega (arith, long))
    there_too (x ∷ xs) (y ∷ ys) zero a long at = (y, refl)
    there_too (x ∷ xs) (y ∷ ys) (suc k) a long at = there_too xs ys k a (omega (arith, long)) at

    by : (o : Option Patch) × (slice_get patches k ≡ Some o) → (p : Patch) × (slice_get patches k ≡ Some (Some p)) × IsTurned p s m.store × (m.hidden ≡ p.hidden)
    by (None, is) = let no : Some m ≡ None = came.each k None s (Some m) is at there in cc
    by (Some p, is) = let c = came.each k (Some p) s (Some m) is at there in (p, is, c.0, c.1)

-- ---- the form of a store stays

pub record HasForm (a b : Kept) : Type 0 where
  pub table : b.table ≡ a.table
  pub key : b.key ≡ a.key
  pub foreign : b.foreign ≡ a.foreign
  pub layers : b.layers ≡ a.layers
  pub long : length b.tables ≡ length a.tables

keep_long : (test : ℕ → List Value → Bool) (ts : List Table) → length (keep test ts) ≡ length ts
keep_long test [] = refl
keep_long test (t ∷ ts) = ap suc (keep_long (λ place. test (suc place)) ts)

cut_long : (root : List Value) (s : Kept) → length (cut_store 0 root s).tables ≡ length s.tables
cut_long root s = keep_long (λ place key. Rattle.std.proofs.Common.not (leads s.layers s.tables 0 root (length s.layers) place key)) s.tables

one_long : (bare : Option (List (List (List Value)))) (root : List Value) (s : Kept) → length (cut_by bare root s).tables ≡ length s.tables
one_long None root s = cut_long root s
one_long (Some rows) root s = by (fm.contains_key (kept_at s.tables 0) root)
  where
    by : (c : Bool) → length (cond c (renewed_store root rows s) (cut_store 0 root s)).tables ≡ length s.tables
    by true = long_tables 0 rows (cut_store 0 root s) ∙ cut_long root s
    by false = cut_long root s

cuts_long : (cuts : List Cut) (s : Kept) → length (cut_all cuts s).tables ≡ length s.tables
cuts_long [] s = refl
cuts_long (c ∷ cuts) s = cuts_long cuts (cut_by c.bare c.root s) ∙ one_long c.bare c.root s

shown_long : (rows : Option (List (List (List Value)))) (s : Kept) → length (put_shown rows s).tables ≡ length s.tables
shown_long None s = refl
shown_long (Some rows) s = long_tables 0 rows s

back_long : (turns : List Turn) (s : Kept) → length (put_back turns s).tables ≡ length s.tables
back_long [] s = refl
back_long (t ∷ turns) s = back_long turns (put_shown t.rows s) ∙ shown_long t.rows s

pub turned_has_form : (p : Patch) (s m : Kept) → IsTurned p s m → HasForm s m
turned_has_form p s m is =
    let f = turned_form p.cuts p.turns s in
    let same = is.store in
    record {
      table = same.table ∙ f.table;
      key = same.key ∙ f.key;
      foreign = same.foreign ∙ f.foreign;
      layers = same.layers ∙ f.layers;
      long = ap length same.tables ∙ back_long p.turns (cut_all p.cuts s) ∙ cuts_long p.cuts s;
    }

-- ---- how many root rows there are

roots : Kept → ℕ
roots s = fm.len (kept_at s.tables 0)

first_kept : (test : ℕ → List Value → Bool) (ts : List Table) → fm.len (kept_at (keep test ts) 0) ≤ fm.len (kept_at ts 0)
first_kept test [] = omega arith
first_kept test (t ∷ ts) = fewer_rows t (test 0)

put_least : (t : Table) (k row : List Value) → fm.len (put_in t k row) ≤ fm.len t + 1
put_least t k row = by (fm.get t k) refl
  where
    by : (o : Option (List Value)) → fm.get t k ≡ o → fm.len (put_in t k row) ≤ fm.len t + 1
    by (Some r) e = let same : put_in t k row ≡ t = ap (λ o. cond (Rattle.std.proofs.Common.is_some o) t (fm.insert t k row)) e in let long = ap (λ (z : Table). fm.len z) same in omega (arith, long)
    by None e =
        let same : put_in t k row ≡ fm.insert t k row = ap (λ o. cond (Rattle.std.proofs.Common.is_some o) t (fm.insert t k row)) e in
        let more : fm.len (fm.insert t k row) ≡ fm.len t + 1 = fm.len-insert key_total t k row ∙ ap (λ o. cond (Rattle.std.proofs.Common.is_some o) (fm.len t) (fm.len t + 1)) e in
        let long = ap (λ (z : Table). fm.len z) same in omega (arith, long, more)

change_least : (place : ℕ) (f : Table → Table) (ts : List Table) → ((t : Table) → fm.len (f t) ≤ fm.len t + 1) → fm.len (kept_at (change_at place f ts) 0) ≤ fm.len (kept_at ts 0) + 1
change_least place f [] h = omega arith
change_least zero f (t ∷ ts) h = h t
change_least (suc place) f (t ∷ ts) h = omega arith

rows_least : (place : ℕ) (rows : List (List Value)) (s : Kept) → fm.len (kept_at (put_rows place rows s).tables 0) ≤ fm.len (kept_at s.tables 0) + length rows
rows_least place [] s = omega arith
rows_least place (row ∷ rows) s =
    let rest = rows_least place rows (put_store place row s) in
    let one = change_least place (λ t. put_in t (key_of (Rattle.group_store.specs.Trees.key_at s.key s.layers place) row) row) s.tables (λ t. put_least t (key_of (Rattle.group_store.specs.Trees.key_at s.key s.layers place) row) row) in
    omega (arith, rest, one)

tables_least : (place : ℕ) (tables : List (List (List Value))) (s : Kept) → fm.len (kept_at (put_tables place tables s).tables 0) ≤ fm.len (kept_at s.tables 0) + count_all tables
tables_least place [] s = omega arith
tables_least place (rows ∷ tables) s =
    let rest = tables_least (suc place) tables (put_rows place rows s) in
    let one = rows_least place rows s in
    omega (arith, rest, one)

shown_least : (rows : Option (List (List (List Value)))) (s : Kept) → fm.len (kept_at (put_shown rows s).tables 0) ≤ fm.len (kept_at s.tables 0) + count_shown rows
shown_least None s = omega arith
shown_least (Some rows) s = tables_least 0 rows s

back_least : (turns : List Turn) (s : Kept) → fm.len (kept_at (put_back turns s).tables 0) ≤ fm.len (kept_at s.tables 0) + count_turns turns
back_least [] s = omega arith
back_least (t ∷ turns) s =
    let rest = back_least turns (put_shown t.rows s) in
    let one = shown_least t.rows s in
    omega (arith, rest, one)

cut_least : (root : List Value) (s : Kept) → fm.len (kept_at (cut_store 0 root s).tables 0) ≤ fm.len (kept_at s.tables 0)
cut_least root s = first_kept (λ place key. Rattle.std.proofs.Common.not (leads s.layers s.tables 0 root (length s.layers) place key)) s.tables

one_least : (bare : Option (List (List (List Value)))) (root : List Value) (s : Kept) → fm.len (kept_at (cut_by bare root s).tables 0) ≤ fm.len (kept_at s.tables 0) + count_shown bare
one_least None root s = let one = cut_least root s in omega (arith, one)
one_least (Some rows) root s = by (fm.contains_key (kept_at s.tables 0) root)
  where
    by : (c : Bool) → fm.len (kept_at (cond c (renewed_store root rows s) (cut_store 0 root s)).tables 0) ≤ fm.len (kept_at s.tables 0) + count_all rows
    by true =
        let put = tables_least 0 rows (cut_store 0 root s) in
        let one = cut_least root s in
        omega (arith, put, one)
    by false = let one = cut_least root s in omega (arith, one)

cuts_least : (cuts : List Cut) (s : Kept) → fm.len (kept_at (cut_all cuts s).tables 0) ≤ fm.len (kept_at s.tables 0) + count_cuts cuts
cuts_least [] s = omega arith
cuts_least (c ∷ cuts) s =
    let rest = cuts_least cuts (cut_by c.bare c.root s) in
    let one = one_least c.bare c.root s in
    omega (arith, rest, one)

pub turned_least : (p : Patch) (s m : Kept) → IsTurned p s m → fm.len (kept_at m.tables 0) ≤ fm.len (kept_at s.tables 0) + (count_cuts p.cuts + count_turns p.turns)
turned_least p s m is =
    let back = back_least p.turns (cut_all p.cuts s) in
    let down = cuts_least p.cuts s in
    let same = ap (λ ts. fm.len (kept_at ts 0)) is.store.tables in
    omega (arith, back, down, same)

-- so the new hidden rows are those of the new store
pub turned_hides : (schema : List TableDef) (g : Group) (p : Patch) (s m : Kept) → HidesNone schema g (fm.len (kept_at s.tables 0) + (count_cuts p.cuts + count_turns p.turns)) p.hidden → IsTurned p s m → IsHidingFor schema g m p.hidden
turned_hides schema g p s m hides is = record {
  key = hides.key;
  room = λ e. (let room = hides.room e in let least = turned_least p s m is in omega (arith, room, least));
  none = λ e. hides.none;
}

pub nothing_left : {X : Type 0} (xs : List X) → length xs ≡ 0 → xs ≡ []
nothing_left [] e = refl
nothing_left (x ∷ xs) e = absurd (omega (arith, e))

pub patched_long : {X : Type 0} (R : Option Patch → X → X → Type 0) (patches : List (Option Patch)) (xs ys : List X) → Patched R patches xs ys → length ys ≡ length xs
patched_long R patches [] [] p = refl
patched_long R patches [] (y ∷ ys) p = absurd p
patched_long R patches (x ∷ xs) [] p = absurd p
patched_long R [] (x ∷ xs) (y ∷ ys) p = ap suc (patched_long R [] xs ys p.1)
patched_long R (o ∷ patches) (x ∷ xs) (y ∷ ys) p = ap suc (patched_long R patches xs ys p.1)

pub hidden_at : (place : ℕ) (p : Patch) (xs : List RowsHeld) (rows : RowsHeld) → rows ≡ p.hidden → PatchedAt HiddenBy place (Some p) xs (slice_set xs place rows)
hidden_at place p [] rows is = tt
hidden_at zero p (x ∷ xs) rows is = (is, refl)
hidden_at (suc place) p (x ∷ xs) rows is = (refl, hidden_at place p xs rows is)
