-- Stores of which each keeps its form.
use Rattle.std.proofs.Common.{◌≡◌, ℕ, zero, suc, cond, Option, Some, List, [], ◌∷◌, length, slice_get, slice_set, unwrap_or, refl, sym, ap, subst, ◌∙◌}
use Rattle.std.specs.List.{position}
use Rattle.std.specs.Option.{option_map, option_or}
use Rattle.std.specs.FinMap.{empty}
use Rattle.row_types.specs.declared.value.Value.{Value}
use Rattle.tier_base.specs.declared.number.TableId.{TableId}
use Rattle.table_defs.specs.declared.definition.TableDef.{TableDef}
use Rattle.instances.specs.Trees.{same_table}
use Rattle.instances.specs.Views.{kept_at}
use Rattle.group_store.specs.Shown.{AreHoused, IsOver, home_from, home_of, homes_from, kept_rows, shown_by, stored_rows, tables_by}
use Rattle.group_store.specs.Stores.{Kept, SameButSpare, foreign_columns, place_in, put_tables}
use Rattle.group_store.specs.Trees.{foreign_at}
use Rattle.group_store.specs.declared.directory.Home.{Home}
use Rattle.cache_tier.specs.Groups.{Group}
use Rattle.stored_tier.specs.Stored.{AreKept, AreWhole}
use Rattle.changed_sets.specs.Showing.{Pairs}
use Rattle.stored_tier.proofs.PutLaws.{form_tables, long_tables}

-- the same tables, each with rows still
pub record SameForm (a b : Kept) : Type 0 where
  pub table : b.table ≡ a.table
  pub key : b.key ≡ a.key
  pub foreign : b.foreign ≡ a.foreign
  pub layers : b.layers ≡ a.layers
  pub long : length b.tables ≡ length a.tables

pub room_form : (a b : Kept) → SameButSpare a b → SameForm a b
room_form a b s = record { table = s.table; key = s.key; foreign = s.foreign; layers = s.layers; long = ap length s.tables }

-- rows that are put in leave the form
pub filled_form : (rows : List (List (List Value))) (a b : Kept) → SameButSpare (put_tables 0 rows a) b → SameForm a b
filled_form rows a b s =
    let f = form_tables 0 rows a in
    record {
      table = s.table ∙ f.table;
      key = s.key ∙ f.key;
      foreign = s.foreign ∙ f.foreign;
      layers = s.layers ∙ f.layers;
      long = ap length s.tables ∙ long_tables 0 rows a;
    }

same_room : (a : Kept) → SameButSpare a a
same_room a = record { table = refl; key = refl; foreign = refl; layers = refl; tables = refl; keys = refl }

same_form : (a : Kept) → SameForm a a
same_form a = record { table = refl; key = refl; foreign = refl; layers = refl; long = refl }

-- pair by pair

pub pairs_self : (P : Kept → Kept → Type 0) → ((x : Kept) → P x x) → (xs : List Kept) → Pairs P xs xs
pairs_self P self [] = tt
pairs_self P self (x ∷ xs) = (self x, pairs_self P self xs)

pub pairs_set : (P : Kept → Kept → Type 0) → ((x : Kept) → P x x) → (xs : List Kept) (i : ℕ) (x y : Kept) → slice_get xs i ≡ Some x → P x y → Pairs P xs (slice_set xs i y)
pairs_set P self [] i x y at p = cc
pairs_set P self (z ∷ xs) zero x y at p = let same : z ≡ x = cc in (subst (λ k. P k y) (sym same) p, pairs_self P self xs)
pairs_set P self (z ∷ xs) (suc i) x y at p = (self z, pairs_set P self xs i x y at p)

pub pairs_weaker : (P Q : Kept → Kept → Type 0) → ((x y : Kept) → P x y → Q x y) → (xs ys : List Kept) → Pairs P xs ys → Pairs Q xs ys
pairs_weaker P Q f [] [] p = tt
pairs_weaker P Q f [] (y ∷ ys) p = p
pairs_weaker P Q f (x ∷ xs) [] p = p
pairs_weaker P Q f (x ∷ xs) (y ∷ ys) p = (f x y p.0, pairs_weaker P Q f xs ys p.1)

pub room_self : (xs : List Kept) → Pairs SameButSpare xs xs
room_self = pairs_self SameButSpare same_room

pub room_set : (xs : List Kept) (i : ℕ) (x y : Kept) → slice_get xs i ≡ Some x → SameButSpare x y → Pairs SameButSpare xs (slice_set xs i y)
room_set = pairs_set SameButSpare same_room

pub form_set : (xs : List Kept) (i : ℕ) (x y : Kept) → slice_get xs i ≡ Some x → SameForm x y → Pairs SameForm xs (slice_set xs i y)
form_set = pairs_set SameForm same_form

pub room_forms : (xs ys : List Kept) → Pairs SameButSpare xs ys → Pairs SameForm xs ys
room_forms = pairs_weaker SameButSpare SameForm room_form

-- a store stands for its group still

pub kept_still : (schema : List TableDef) (groups : List Group) (xs ys : List Kept) → Pairs SameForm xs ys → AreKept schema groups xs → AreKept schema groups ys
kept_still schema [] [] [] p are = tt
kept_still schema [] [] (y ∷ ys) p are = absurd p
kept_still schema [] (x ∷ xs) ys p are = absurd are
kept_still schema (g ∷ groups) [] ys p are = absurd are
kept_still schema (g ∷ groups) (x ∷ xs) [] p are = absurd p
kept_still schema (g ∷ groups) (x ∷ xs) (y ∷ ys) p are = (
  record {
    table = p.0.table ∙ are.0.table;
    key = p.0.key ∙ are.0.key;
    foreign = p.0.foreign ∙ are.0.foreign;
    layers = p.0.layers ∙ are.0.layers;
  },
  kept_still schema groups xs ys p.1 are.1,
)

pub whole_still : (xs ys : List Kept) → Pairs SameForm xs ys → AreWhole xs → AreWhole ys
whole_still [] [] p whole = whole
whole_still [] (y ∷ ys) p whole = absurd p
whole_still (x ∷ xs) [] p whole = absurd p
whole_still (x ∷ xs) (y ∷ ys) p whole = at (whole_still xs ys p.1 (λ i z there. whole (suc i) z there))
  where
    at : AreWhole ys → AreWhole (y ∷ ys)
    at rest zero s e =
        let same : y ≡ s = cc in
        subst (λ z. length z.tables ≡ suc (length z.layers)) same (p.0.long ∙ whole 0 x refl ∙ ap (λ ls. suc (length ls)) (sym p.0.layers))
    at rest (suc k) s e = rest k s e

-- tables are found where they were

place_still : (x y : Kept) → SameForm x y → (t : TableId) → place_in y t ≡ place_in x t
place_still x y f t =
    ap (λ r. cond (same_table r t) (Some 0) (option_map suc (position (λ l. same_table l.table t) y.layers))) f.table
    ∙ ap (λ ls. cond (same_table x.table t) (Some 0) (option_map suc (position (λ l. same_table l.table t) ls))) f.layers

abbrev home_at : ℕ → ℕ → Home
home_at n place = record { store = n; place = place }

home_still : (n : ℕ) (xs ys : List Kept) → Pairs SameForm xs ys → (t : TableId) → home_from n ys t ≡ home_from n xs t
home_still n [] [] p t = refl
home_still n [] (y ∷ ys) p t = absurd p
home_still n (x ∷ xs) [] p t = absurd p
home_still n (x ∷ xs) (y ∷ ys) p t =
    ap (λ (o : Option ℕ). option_or (option_map (home_at n) o) (home_from (suc n) ys t)) (place_still x y p.0 t)
    ∙ ap (option_or (option_map (home_at n) (place_in x t))) (home_still (suc n) xs ys p.1 t)

homes_still : (xs ys : List Kept) → Pairs SameForm xs ys → (from n : ℕ) → homes_from ys from n ≡ homes_from xs from n
homes_still xs ys p from zero = refl
homes_still xs ys p from (suc n) =
    ap (λ h. h ∷ homes_from ys (suc from) n) (home_still 0 xs ys p (record { 0 = from }))
    ∙ ap (λ hs. home_of xs (record { 0 = from }) ∷ hs) (homes_still xs ys p (suc from) n)

over_still : (schema : List TableDef) (xs ys : List Kept) → Pairs SameForm xs ys → ((i : ℕ) (s : Kept) → slice_get xs i ≡ Some s → IsOver schema s) → (i : ℕ) (s : Kept) → slice_get ys i ≡ Some s → IsOver schema s
over_still schema [] [] p over i s at = cc
over_still schema [] (y ∷ ys) p over i s at = absurd p
over_still schema (x ∷ xs) [] p over i s at = absurd p
over_still schema (x ∷ xs) (y ∷ ys) p over zero s at = λ t place there.
    let same : y ≡ s = cc in
    let its : place_in x t ≡ Some place = sym (place_still x y p.0 t) ∙ ap (λ z. place_in z t) same ∙ there in
    ap (λ z. foreign_columns z place) (sym same)
    ∙ ap (λ c. foreign_at c y.layers place) p.0.foreign
    ∙ ap (λ ls. foreign_at x.foreign ls place) p.0.layers
    ∙ over 0 x refl t place its
over_still schema (x ∷ xs) (y ∷ ys) p over (suc i) s at = over_still schema xs ys p.1 (λ j z there. over (suc j) z there) i s at

pub housed_still : (schema : List TableDef) (xs ys : List Kept) (directory : List (Option Home)) → Pairs SameForm xs ys → AreHoused schema xs directory → AreHoused schema ys directory
housed_still schema xs ys directory p housed = record {
  homes = housed.homes ∙ sym (homes_still xs ys p 0 (length schema));
  over = over_still schema xs ys p housed.over;
}

-- the same rows

same_rows_kept : (xs ys : List Kept) → Pairs SameButSpare xs ys → (t : TableId) → kept_rows ys t ≡ kept_rows xs t
same_rows_kept [] [] p t = refl
same_rows_kept [] (y ∷ ys) p t = absurd p
same_rows_kept (x ∷ xs) [] p t = absurd p
same_rows_kept (x ∷ xs) (y ∷ ys) p t =
    ap (λ o. option_or (option_map (kept_at y.tables) o) (kept_rows ys t)) (place_still x y (room_form x y p.0) t)
    ∙ ap (λ ts. option_or (option_map (kept_at ts) (place_in x t)) (kept_rows ys t)) p.0.tables
    ∙ ap (option_or (option_map (kept_at x.tables) (place_in x t))) (same_rows_kept xs ys p.1 t)

tables_still : (xs ys : List Kept) → Pairs SameButSpare xs ys → (n : ℕ) (defs : List TableDef) → tables_by (stored_rows ys) n defs ≡ tables_by (stored_rows xs) n defs
tables_still xs ys p n [] = refl
tables_still xs ys p n (def ∷ defs) =
    let one : stored_rows ys (record { 0 = n }) ≡ stored_rows xs (record { 0 = n }) = ap (λ o. unwrap_or o empty) (same_rows_kept xs ys p (record { 0 = n })) in
    let rest = tables_still xs ys p (suc n) defs in
    λ i. one i ∷ rest i

pub rows_still : (schema : List TableDef) (xs ys : List Kept) → Pairs SameButSpare xs ys → shown_by schema ys ≡ shown_by schema xs
rows_still schema xs ys p = λ i. record { schema = schema; tables = tables_still xs ys p 0 schema i }
