-- Stores that are made anew, and root keys in the order of last use.
use Rattle.std.proofs.Common.{◌≡◌, ◌≤◌, ◌<◌, ℕ, zero, suc, ◌+◌, Bool, true, false, cond, ◌||◌, Option, Some, None, is_some, List, [], ◌∷◌, ◌++◌, length, map, filter, take, get_or, slice_get, refl, sym, ap, subst, ◌∙◌, append_assoc, arith}
use Rattle.std.proofs.lemmas.List.{append-nil, length-map}
use Rattle.std.specs.Option.{option_and_then, option_map}
use Rattle.std.specs.FinMap as fm
use Rattle.row_types.specs.declared.value.Value.{Value}
use Rattle.table_defs.specs.declared.definition.TableDef.{TableDef}
use Rattle.indexed_rows.specs.Rows.{Table, is_same, key_of}
use Rattle.indexed_rows.proofs.EntryLaws.{same_itself}
use Rattle.table_state.specs.Tables.{TableState}
use Rattle.instances.specs.declared.tree.Tree.{Tree}
use Rattle.instances.specs.Views.{kept_at, with_children}
use Rattle.recency.specs.Rings.{next_key, touched}
use Rattle.slot_rows.specs.SlotKeys.{IsKeyedBy}
use Rattle.cache_store.specs.Shown.{is_among}
use Rattle.group_store.specs.Keeping.{layer_for}
use Rattle.group_store.specs.Stores.{HasRootKeys, Kept, SameButSpare, put_tables, touched_store}
use Rattle.cache_tier.specs.Groups.{Group}
use Rattle.stored_tier.specs.Filling.{bare_store, ordered, store_anew, tables_anew, touched_all}
use Rattle.stored_tier.specs.Lists.{is_by_use}
use Rattle.stored_tier.proofs.FillSteps.{children_long}
use Rattle.stored_tier.proofs.StoreForms.{same_both, same_tables}

abbrev Row : Type 0
Row = List Value

-- keys that are used

touched_same : (key : Row) (a b : Kept) → SameButSpare a b → SameButSpare (touched_store key a) (touched_store key b)
touched_same key a b same = record {
  table = same.table;
  key = same.key;
  foreign = same.foreign;
  layers = same.layers;
  tables = same.tables;
  keys = ap (touched is_same key) same.keys;
}

touched_end : (keys : List Row) (key : Row) (s : Kept) → touched_all (keys ++ key ∷ []) s ≡ touched_store key (touched_all keys s)
touched_end [] key s = refl
touched_end (k ∷ keys) key s = touched_end keys key (touched_store k s)

take_one : (keys : List Row) (n : ℕ) (key : Row) → n < length keys → key ≡ get_or keys n key → take (n + 1) keys ≡ take n keys ++ key ∷ []
take_one [] n key lt is = absurd (omega (arith, lt))
take_one (k ∷ keys) zero key lt is = let one : zero + 1 ≡ 1 = omega arith in ap (λ n. take n (k ∷ keys)) one ∙ ap (λ x. x ∷ []) (sym is)
take_one (k ∷ keys) (suc n) key lt is =
    let one : suc n + 1 ≡ suc (n + 1) = omega arith in
    ap (λ m. take m (k ∷ keys)) one ∙ ap (λ l. k ∷ l) (take_one keys n key (omega (arith, lt)) is)

pub touched_more : (keys : List Row) (n : ℕ) (key : Row) (old mid new : Kept) → n < length keys → key ≡ get_or keys n key → SameButSpare (touched_all (take n keys) old) mid → SameButSpare (touched_store key mid) new → SameButSpare (touched_all (take (n + 1) keys) old) new
touched_more keys n key old mid new lt is before step =
    subst (λ s. SameButSpare s new) (sym (ap (λ l. touched_all l old) (take_one keys n key lt is) ∙ touched_end (take n keys) key old))
    (same_both (touched_store key (touched_all (take n keys) old)) (touched_store key mid) new (touched_same key (touched_all (take n keys) old) mid before) step)

all_touched_same : (keys : List Row) (a b : Kept) → SameButSpare a b → SameButSpare (touched_all keys a) (touched_all keys b)
all_touched_same [] a b same = same
all_touched_same (key ∷ keys) a b same = all_touched_same keys (touched_store key a) (touched_store key b) (touched_same key a b same)

ordered_same : (g : Group) (old a b : Kept) → SameButSpare a b → SameButSpare (ordered g old a) (ordered g old b)
ordered_same g old a b same = by (is_by_use g.def.aging)
  where
    by : (leaves : Bool) → SameButSpare (cond leaves (touched_all old.keys a) a) (cond leaves (touched_all old.keys b) b)
    by true = all_touched_same old.keys a b same
    by false = same

-- a store that is filled, whose keys are put in order then
pub made_anew : (schema : List TableDef) (state : TableState) (g : Group) (old : Kept) (hidden : Table) (rows : List Table) (bare filled new : Kept) → rows ≡ tables_anew state g old hidden → SameButSpare (bare_store schema g.def.tree) bare
    → SameButSpare (put_tables 0 (map fm.values rows) bare) filled → SameButSpare (ordered g old filled) new → SameButSpare (store_anew schema state g old hidden) new
made_anew schema state g old hidden rows bare filled new rows_are is filled_is ordered_is =
    let put = subst (λ r. SameButSpare (put_tables 0 (map fm.values r) bare) filled) rows_are filled_is in
    let all = put_tables 0 (map fm.values (tables_anew state g old hidden)) (bare_store schema g.def.tree) in
    let whole : SameButSpare all filled =
    same_both all (put_tables 0 (map fm.values (tables_anew state g old hidden)) bare) filled (same_tables 0 (map fm.values (tables_anew state g old hidden)) (bare_store schema g.def.tree) bare is) put in
    same_both (ordered g old all) (ordered g old filled) new (ordered_same g old all filled whole) ordered_is

pub anew_fits : (schema : List TableDef) (tree : Tree) (s : TableState) (roots : Table) (store : Kept) → SameButSpare (bare_store schema tree) store → length (with_children s tree.children (roots ∷ [])) ≤ length store.layers + 1
anew_fits schema tree s roots store bare =
    let long = children_long s tree.children (roots ∷ []) in
    let layers : length store.layers ≡ length tree.children = ap length bare.layers ∙ length-map tree.children (layer_for schema) in
    omega (arith, long, layers)

-- root keys, one behind another

module _ (s : Kept) (has : HasRootKeys s) (keyed : IsKeyedBy s.key (kept_at s.tables 0)) where
  some_row : (k : Row) (o : Option Row) → fm.get (kept_at s.tables 0) k ≡ o → is_some o ≡ true → option_map (key_of s.key) o ≡ Some k
  some_row k None e there = cc
  some_row k (Some row) e there = ap Some (keyed k row e)

  among_behind : (front rest : List Row) (k : Row) → is_among (front ++ k ∷ rest) k ≡ true
  among_behind [] rest k = ap (λ b. b || is_among rest k) (same_itself k k refl)
  among_behind (x ∷ front) rest k = ap (λ b. is_same k x || b) (among_behind front rest k) ∙ or_true (is_same k x)
    where
      or_true : (b : Bool) → (b || true) ≡ true
      or_true true = refl
      or_true false = refl

  -- the first of the keys that are left is that of its row
  pub first_left : (front rest : List Row) → s.keys ≡ front ++ rest → option_map (key_of s.key) (option_and_then (fm.get (kept_at s.tables 0)) (slice_get rest 0)) ≡ slice_get rest 0
  first_left front [] are = refl
  first_left front (k ∷ rest) are =
      some_row k (fm.get (kept_at s.tables 0) k) refl (sym (has.are k) ∙ ap (λ l. is_among l k) are ∙ among_behind front rest k)

  some_found : (front rest : List Row) (k : Row) → filter (is_same k) (front ++ k ∷ rest) ≡ [] → ⊥
  some_found [] rest k none = let one = ap (λ b. cond b (k ∷ filter (is_same k) rest) (filter (is_same k) rest)) (same_itself k k refl) in let wrong : k ∷ filter (is_same k) rest ≡ [] = sym one ∙ none in cc
  some_found (x ∷ front) rest k none = by (is_same k x) (some_found front rest k) none
    where
      by : (b : Bool) → (filter (is_same k) (front ++ k ∷ rest) ≡ [] → ⊥) → cond b (x ∷ filter (is_same k) (front ++ k ∷ rest)) (filter (is_same k) (front ++ k ∷ rest)) ≡ [] → ⊥
      by true later e = cc
      by false later e = later e

  next_once : (front rest : List Row) (k : Row) → filter (is_same k) (front ++ k ∷ rest) ≡ k ∷ [] → next_key is_same k (front ++ k ∷ rest) ≡ slice_get rest 0
  next_once [] rest k once = ap (λ b. cond b (slice_get rest 0) (next_key is_same k rest)) (same_itself k k refl)
  next_once (x ∷ front) rest k once = by (is_same k x) (next_once front rest k) once
    where
      by : (b : Bool) → (filter (is_same k) (front ++ k ∷ rest) ≡ k ∷ [] → next_key is_same k (front ++ k ∷ rest) ≡ slice_get rest 0)
          → cond b (x ∷ filter (is_same k) (front ++ k ∷ rest)) (filter (is_same k) (front ++ k ∷ rest)) ≡ k ∷ [] → cond b (slice_get (front ++ k ∷ rest) 0) (next_key is_same k (front ++ k ∷ rest)) ≡ slice_get rest 0
      by true later e = let none : filter (is_same k) (front ++ k ∷ rest) ≡ [] = cc in absurd (some_found front rest k none)
      by false later e = later e

  -- behind it the next one is first
  pub next_left : (front rest : List Row) (k : Row) → s.keys ≡ front ++ k ∷ rest → option_map (key_of s.key) (option_and_then (fm.get (kept_at s.tables 0)) (next_key is_same k s.keys)) ≡ slice_get rest 0
  next_left front rest k are =
      let there : fm.contains_key (kept_at s.tables 0) k ≡ true = sym (has.are k) ∙ ap (λ l. is_among l k) are ∙ among_behind front rest k in
      let next : next_key is_same k s.keys ≡ slice_get rest 0 = ap (next_key is_same k) are ∙ next_once front rest k (ap (filter (is_same k)) (sym are) ∙ has.once k there) in
      ap (λ o. option_map (key_of s.key) (option_and_then (fm.get (kept_at s.tables 0)) o)) next
      ∙ first_left (front ++ k ∷ []) rest (are ∙ sym (append_assoc front (k ∷ []) rest))

-- what is left of the keys, the next of which is this one
abbrev pub KeysLeft : Kept → List Row → Option Row → Type 0
KeysLeft s keys next = (rest : List Row) × (s.keys ≡ keys ++ rest) × (next ≡ slice_get rest 0)

pub keys_begun : (s : Kept) → HasRootKeys s → IsKeyedBy s.key (kept_at s.tables 0) → (next row : Option Row) → next ≡ option_map (key_of s.key) row → row ≡ option_and_then (fm.get (kept_at s.tables 0)) (slice_get s.keys 0) → KeysLeft s [] next
keys_begun s has keyed next row is first = (s.keys, refl, is ∙ ap (option_map (key_of s.key)) first ∙ first_left s has keyed [] s.keys refl)

pub keys_go_on : (s : Kept) → HasRootKeys s → IsKeyedBy s.key (kept_at s.tables 0) → (keys more : List Row) (old next : Option Row) (k : Row) (row : Option Row) → KeysLeft s keys old → old ≡ Some k → more ≡ keys ++ k ∷ [] → next ≡ option_map (key_of s.key) row
    → row ≡ option_and_then (fm.get (kept_at s.tables 0)) (next_key is_same k s.keys) → KeysLeft s more next
keys_go_on s has keyed keys more old next k row left there more_is is behind = by left.0 left.1 left.2
  where
    by : (rest : List Row) → s.keys ≡ keys ++ rest → old ≡ slice_get rest 0 → KeysLeft s more next
    by [] are first = cc
    by (x ∷ rest) are first =
        let same : x ≡ k = cc in
        let split : s.keys ≡ keys ++ k ∷ rest = are ∙ ap (λ y. keys ++ y ∷ rest) same in (
          rest,
          split ∙ sym (append_assoc keys (k ∷ []) rest) ∙ ap (λ l. l ++ rest) (sym more_is),
          is ∙ ap (option_map (key_of s.key)) behind ∙ next_left s has keyed keys rest k split,
        )

pub keys_end : (s : Kept) (keys : List Row) (next : Option Row) → KeysLeft s keys next → next ≡ None → keys ≡ s.keys
keys_end s keys next left none = by left.0 left.1 left.2
  where
    by : (rest : List Row) → s.keys ≡ keys ++ rest → next ≡ slice_get rest 0 → keys ≡ s.keys
    by [] are first = sym (are ∙ append-nil keys)
    by (x ∷ rest) are first = cc
