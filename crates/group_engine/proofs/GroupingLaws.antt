-- Stores that are made table by table, and lists of stores.
use Rattle.std.proofs.Common.{◌≡◌, ℕ, zero, suc, ◌+◌, ◌<◌, ◌≤◌, Option, Some, None, Result, Ok, Err, List, [], ◌∷◌, ◌++◌, OnOk, length, map, take, get_or, remove, slice_get, unwrap_or, refl, sym, ap, ◌∙◌, arith}
use Rattle.std.specs.Option.{option_map}
use Rattle.std.specs.FinMap as fm
use Rattle.std.proofs.lemmas.List.{map-append}
use Rattle.tier_base.specs.declared.number.TableId.{TableId}
use Rattle.table_defs.specs.declared.definition.TableDef.{TableDef}
use Rattle.indexed_rows.specs.Rows.{Table}
use Rattle.instances.specs.declared.tree.Child.{Child}
use Rattle.instances.specs.declared.tree.Tree.{Tree}
use Rattle.instances.specs.Trees.{table_of}
use Rattle.instances.specs.Views.{kept_at}
use Rattle.indexed_rows.proofs.MapLaws.{slice_get_map}
use Rattle.group_store.specs.Keeping.{layer_for, primary_of}
use Rattle.group_store.specs.Shown.{foreign_key_of}
use Rattle.group_store.specs.Stores.{AddsChild, IsNewStore, Kept}
use Rattle.group_store.specs.Trees.{Layer, key_at}
use Rattle.stored_tier.specs.Grouping.{IsBareStore, IsPartFor}

pub on_ok : {T E : Type 0} (r : Result T E) (A B : Type 0) → (A → B) → OnOk r A → OnOk r B
on_ok (Ok x) A B f a = f a
on_ok (Err e) A B f a = tt

pub got : {X : Type 0} (xs : List X) (i : ℕ) (x : X) → i < length xs → x ≡ get_or xs i x → slice_get xs i ≡ Some x
got [] i x lt is = absurd (omega (arith, lt))
got (y ∷ xs) zero x lt is = ap Some (sym is)
got (y ∷ xs) (suc i) x lt is = got xs i x (omega (arith, lt)) is

-- one element more
pub take_one : {X : Type 0} (xs : List X) (n : ℕ) (x : X) → slice_get xs n ≡ Some x → take (suc n) xs ≡ take n xs ++ x ∷ []
take_one [] n x at = cc
take_one (y ∷ xs) zero x at = let one : y ≡ x = cc in ap (λ z. z ∷ []) one
take_one (y ∷ xs) (suc n) x at = ap (λ ys. y ∷ ys) (take_one xs n x at)

pub taken : {X : Type 0} (xs : List X) (n i : ℕ) (x : X) → i < n → slice_get xs i ≡ Some x → slice_get (take n xs) i ≡ Some x
taken [] n i x lt at = cc
taken (y ∷ xs) zero i x lt at = absurd (omega (arith, lt))
taken (y ∷ xs) (suc n) zero x lt at = at
taken (y ∷ xs) (suc n) (suc i) x lt at = taken xs n i x (omega (arith, lt)) at

pub take_all : {X : Type 0} (xs : List X) (n : ℕ) → length xs ≤ n → take n xs ≡ xs
take_all [] zero le = refl
take_all [] (suc n) le = refl
take_all (x ∷ xs) zero le = absurd (omega (arith, le))
take_all (x ∷ xs) (suc n) le = ap (λ ys. x ∷ ys) (take_all xs n (omega (arith, le)))

-- the key of the table above
pub key_above : (schema : List TableDef) (tree : Tree) (n parent : ℕ) (above : TableId) (s : Kept) → IsPartFor schema tree n s → parent ≤ n → table_of tree parent ≡ Some above → key_at s.key s.layers parent ≡ primary_of schema above
key_above schema tree n zero above s part le at = let one : tree.root.table ≡ above = cc in part.key ∙ ap (primary_of schema) one
key_above schema tree n (suc i) above s part le at = by (slice_get tree.children i) refl at
  where
    by : (o : Option Child) → slice_get tree.children i ≡ o → option_map (λ (c : Child). c.table) o ≡ Some above → key_at s.key s.layers (suc i) ≡ primary_of schema above
    by None there is = cc
    by (Some c) there is =
        let one : c.table ≡ above = cc in
        let lt : i < n = omega (arith, le) in
        ap (λ ls. unwrap_or (option_map (λ (l : Layer). l.key) (slice_get ls i)) []) part.layers
        ∙ ap (λ o. unwrap_or (option_map (λ (l : Layer). l.key) o) []) (slice_get_map (layer_for schema) (take n tree.children) i c (taken tree.children n i c lt there))
        ∙ ap (primary_of schema) one

-- tables without rows
empty_more : (tables : List Table) → ((p : ℕ) → kept_at tables p ≡ fm.empty) → (p : ℕ) → kept_at (tables ++ fm.empty ∷ []) p ≡ fm.empty
empty_more [] all zero = refl
empty_more [] all (suc p) = all p
empty_more (x ∷ tables) all zero = all 0
empty_more (x ∷ tables) all (suc p) = empty_more tables (λ q. all (suc q)) p

empty_one : (p : ℕ) → kept_at (fm.empty ∷ []) p ≡ fm.empty
empty_one zero = refl
empty_one (suc p) = none p
  where
    none : (q : ℕ) → kept_at [] q ≡ fm.empty
    none zero = refl
    none (suc q) = refl

long_more : {X : Type 0} (xs : List X) (x : X) → length (xs ++ x ∷ []) ≡ suc (length xs)
long_more [] x = refl
long_more (y ∷ xs) x = ap suc (long_more xs x)

pub part_more : (schema : List TableDef) (tree : Tree) (n : ℕ) (c : Child) (old new : Kept) → slice_get tree.children n ≡ Some c → IsPartFor schema tree n old → AddsChild old new (layer_for schema c) → IsPartFor schema tree (n + 1) new
part_more schema tree n c old new at part adds = record {
  table = adds.table ∙ part.table;
  key = adds.key ∙ part.key;
  foreign = adds.foreign ∙ part.foreign;
  layers =
      adds.layers ∙ ap (λ ls. ls ++ layer_for schema c ∷ []) part.layers
      ∙ sym (map-append (layer_for schema) (take n tree.children) (c ∷ []))
      ∙ ap (map (layer_for schema)) (sym (take_one tree.children n c at))
      ∙ (let z : suc n ≡ n + 1 = omega arith in ap (λ m. map (layer_for schema) (take m tree.children)) z);
  whole =
      ap length adds.tables ∙ long_more old.tables fm.empty ∙ ap suc part.whole
      ∙ ap suc (sym (long_more old.layers (layer_for schema c))) ∙ ap (λ (ls : List Layer). suc (length ls)) (sym adds.layers);
  rows = λ p. ap (λ ts. kept_at ts p) adds.tables ∙ empty_more old.tables part.rows p;
  keys = adds.keys ∙ part.keys;
}

pub part_none : (schema : List TableDef) (tree : Tree) (s : Kept) → IsNewStore tree.root.table (primary_of schema tree.root.table) (foreign_key_of schema tree.root.table) s → IsPartFor schema tree 0 s
part_none schema tree s new = record {
  table = new.table;
  key = new.key;
  foreign = new.foreign;
  layers = new.layers;
  whole = ap (λ (ts : List Table). length ts) new.tables ∙ ap (λ (ls : List Layer). suc (length ls)) (sym new.layers);
  rows = λ p. ap (λ ts. kept_at ts p) new.tables ∙ empty_one p;
  keys = new.keys;
}

pub part_whole : (schema : List TableDef) (tree : Tree) (n : ℕ) (s : Kept) → length tree.children ≤ n → IsPartFor schema tree n s → IsBareStore schema tree s
part_whole schema tree n s le part = record {
  form = record { table = part.table; key = part.key; foreign = part.foreign; layers = part.layers ∙ ap (map (layer_for schema)) (take_all tree.children n le) };
  whole = part.whole;
  rows = part.rows;
  keys = part.keys;
}

-- the element that came last leaves
pub remove_last : {X : Type 0} (xs : List X) (x : X) → remove (xs ++ x ∷ []) (length xs) ≡ xs
remove_last [] x = refl
remove_last (y ∷ xs) x = ap (λ ys. y ∷ ys) (remove_last xs x)
