-- Rows of many instances that come to a store at once.
use Rattle.std.proofs.Common.{◌≡◌, ℕ, zero, suc, ◌+◌, Bool, true, false, cond, ◌||◌, List, [], ◌∷◌, length, map, slice_get, Option, Some, None, refl, sym, ap, subst, ◌∙◌, arith}
use Rattle.std.specs.Option.{option_or}
use Rattle.std.specs.FinMap as fm
use Rattle.row_types.specs.declared.value.Value.{Value}
use Rattle.indexed_rows.specs.Rows.{Table, key_of, put_in}
use Rattle.indexed_rows.proofs.EntryLaws.{at_has}
use Rattle.table_state.specs.Tables.{TableState}
use Rattle.instances.specs.declared.tree.Tree.{Tree}
use Rattle.instances.specs.Roots.{root_at}
use Rattle.instances.specs.Views.{kept_at, view_of}
use Rattle.slot_rows.specs.SlotKeys.{IsKeyedBy}
use Rattle.cache_store.specs.Operating.{change_at}
use Rattle.cache_store.specs.Shown.{has_root, shown_of, tables_with, with_rows}
use Rattle.cache_store.proofs.JoinLaws.{get_joined, length_joined, same_tables}
use Rattle.cache_store.proofs.ShownLaws.{gets_chosen, shown_length}
use Rattle.group_store.specs.Stores.{Kept, SameButSpare, put_rows, put_store, put_tables}
use Rattle.group_store.specs.Trees.{key_at}

abbrev Row : Type 0
Row = List Value

change_none : (p : ℕ) (ts : List Table) → change_at p (λ t. t) ts ≡ ts
change_none p [] = refl
change_none zero (t ∷ ts) = refl
change_none (suc p) (t ∷ ts) = ap (λ l. t ∷ l) (change_none p ts)

change_both : (p : ℕ) (f g : Table → Table) (ts : List Table) → change_at p g (change_at p f ts) ≡ change_at p (λ t. g (f t)) ts
change_both p f g [] = refl
change_both zero f g (t ∷ ts) = refl
change_both (suc p) f g (t ∷ ts) = ap (λ l. t ∷ l) (change_both p f g ts)

-- a row with its key
abbrev keyed_row : List ℕ → Row → Row × Row
keyed_row places row = (key_of places row, row)

rows_in_one : (place : ℕ) (rows : List Row) (k : Kept) → (put_rows place rows k).tables ≡ change_at place (λ t. with_rows t (map (keyed_row (key_at k.key k.layers place)) rows)) k.tables
rows_in_one place [] k = sym (change_none place k.tables)
rows_in_one place (row ∷ rows) k =
    let places = key_at k.key k.layers place in
    rows_in_one place rows (put_store place row k)
    ∙ change_both place (λ t. put_in t (key_of places row) row) (λ t. with_rows t (map (keyed_row places) rows)) k.tables

-- the tree stays
pub record Form (a b : Kept) : Type 0 where
  pub table : b.table ≡ a.table
  pub key : b.key ≡ a.key
  pub foreign : b.foreign ≡ a.foreign
  pub layers : b.layers ≡ a.layers

form_rows : (place : ℕ) (rows : List Row) (k : Kept) → Form k (put_rows place rows k)
form_rows place [] k = record { table = refl; key = refl; foreign = refl; layers = refl }
form_rows place (row ∷ rows) k = let f = form_rows place rows (put_store place row k) in record { table = f.table; key = f.key; foreign = f.foreign; layers = f.layers }

pub form_tables : (place : ℕ) (tables : List (List Row)) (k : Kept) → Form k (put_tables place tables k)
form_tables place [] k = record { table = refl; key = refl; foreign = refl; layers = refl }
form_tables place (rows ∷ tables) k =
    let f = form_rows place rows k in
    let g = form_tables (suc place) tables (put_rows place rows k) in
    record { table = g.table ∙ f.table; key = g.key ∙ f.key; foreign = g.foreign ∙ f.foreign; layers = g.layers ∙ f.layers }

-- as many tables

change_long : (p : ℕ) (f : Table → Table) (ts : List Table) → length (change_at p f ts) ≡ length ts
change_long p f [] = refl
change_long zero f (t ∷ ts) = refl
change_long (suc p) f (t ∷ ts) = ap suc (change_long p f ts)

pub long_tables : (place : ℕ) (tables : List (List Row)) (k : Kept) → length (put_tables place tables k).tables ≡ length k.tables
long_tables place [] k = refl
long_tables place (rows ∷ tables) k =
    long_tables (suc place) tables (put_rows place rows k)
    ∙ ap length (rows_in_one place rows k)
    ∙ change_long place (λ t. with_rows t (map (keyed_row (key_at k.key k.layers place)) rows)) k.tables

-- rows that stand under their keys are the entries
entries_by : (places : List ℕ) (es : List (Row × Row)) → ((i : ℕ) (e : Row × Row) → slice_get es i ≡ Some e → key_of places e.1 ≡ e.0) → map (keyed_row places) (map (λ e. e.1) es) ≡ es
entries_by places [] h = refl
entries_by places (e ∷ es) h =
    let first : keyed_row places e.1 ≡ e = ap (λ k. (k, e.1)) (h 0 e refl) in
    let rest = entries_by places es (λ i x at. h (suc i) x at) in
    λ i. first i ∷ rest i

keyed_entries : (places : List ℕ) (t : Table) → IsKeyedBy places t → map (keyed_row places) (fm.values t) ≡ fm.entries t
keyed_entries places t keyed = entries_by places (fm.entries t) (λ i e at. keyed e.0 e.1 (at_has t i e at))

-- one table after another
abbrev changed_from : ℕ → List Table → List Table → List Table
changed_from n [] ts = ts
changed_from n (b ∷ bs) ts = changed_from (suc n) bs (change_at n (λ t. with_rows t (fm.entries b)) ts)

shifted : (n : ℕ) (bs : List Table) (t : Table) (ts : List Table) → changed_from (suc n) bs (t ∷ ts) ≡ t ∷ changed_from n bs ts
shifted n [] t ts = refl
shifted n (b ∷ bs) t ts = shifted (suc n) bs t (change_at n (λ t. with_rows t (fm.entries b)) ts)

all_changed : (ts bs : List Table) → length ts ≡ length bs → changed_from 0 bs ts ≡ tables_with ts bs
all_changed [] [] e = refl
all_changed [] (b ∷ bs) e = absurd (omega (arith, e))
all_changed (t ∷ ts) [] e = refl
all_changed (t ∷ ts) (b ∷ bs) e = shifted 0 bs (with_rows t (fm.entries b)) ts ∙ ap (λ l. with_rows t (fm.entries b) ∷ l) (all_changed ts bs (omega (arith, e)))

-- the tables' rows stand under the keys of the store
abbrev pub AreKeyed : ℕ → List Table → Kept → Type 0
AreKeyed n bs k = (i : ℕ) (b : Table) → slice_get bs i ≡ Some b → IsKeyedBy (key_at k.key k.layers (n + i)) b

tables_in : (n : ℕ) (bs : List Table) (k : Kept) → AreKeyed n bs k → (put_tables n (map fm.values bs) k).tables ≡ changed_from n bs k.tables
tables_in n [] k keyed = refl
tables_in n (b ∷ bs) k keyed =
    let m = put_rows n (fm.values b) k in
    let f = form_rows n (fm.values b) k in
    let z : n + 0 ≡ n = omega arith in
    let first = subst (λ p. IsKeyedBy (key_at k.key k.layers p) b) z (keyed 0 b refl) in
    tables_in (suc n) bs m (λ i x at.
    let w : n + suc i ≡ suc n + i = omega arith in
    subst (λ ls. IsKeyedBy (key_at m.key ls (suc n + i)) x) (sym f.layers) (subst (λ ks. IsKeyedBy (key_at ks k.layers (suc n + i)) x) (sym f.key) (subst (λ p. IsKeyedBy (key_at k.key k.layers p) x) w (keyed (suc i) x at))))
    ∙ ap (changed_from (suc n) bs) (rows_in_one n (fm.values b) k ∙ ap (λ es. change_at n (λ t. with_rows t es) k.tables) (keyed_entries (key_at k.key k.layers n) b first))

-- a store with rows of as many tables
pub tables_put : (bs : List Table) (k : Kept) → AreKeyed 0 bs k → length k.tables ≡ length bs → (put_tables 0 (map fm.values bs) k).tables ≡ tables_with k.tables bs
tables_put bs k keyed long = tables_in 0 bs k keyed ∙ all_changed k.tables bs long

-- what is shown of some roots, and of others

module _ (s : TableState) (tree : Tree) where
  either : (p q : Row → Bool) (r : Option Row) (v : Option Row) → option_or (cond (has_root p r) v None) (cond (has_root q r) v None) ≡ cond (has_root (λ k. p k || q k) r) v None
  either p q None v = refl
  either p q (Some x) v = by (p x) (q x) v
    where
      by : (a b : Bool) (v : Option Row) → option_or (cond a v None) (cond b v None) ≡ cond (a || b) v None
      by true true None = refl
      by true true (Some x) = refl
      by true false None = refl
      by true false (Some x) = refl
      by false b v = refl

  pub shown_with : (p q : Row → Bool) → tables_with (shown_of s tree p) (shown_of s tree q) ≡ shown_of s tree (λ k. p k || q k)
  shown_with p q =
      let long : length (shown_of s tree p) ≡ length (shown_of s tree q) = shown_length s tree p ∙ sym (shown_length s tree q) in
      same_tables (tables_with (shown_of s tree p) (shown_of s tree q)) (shown_of s tree (λ k. p k || q k)) (length_joined (shown_of s tree p) (shown_of s tree q) long ∙ shown_length s tree p ∙ sym (shown_length s tree (λ k. p k || q k)))
      (λ i key. get_joined (shown_of s tree p) (shown_of s tree q) long i key
      ∙ ap (λ v. option_or v (fm.get (kept_at (shown_of s tree q) i) key)) (gets_chosen s tree p i key) ∙ ap (option_or (cond (has_root p (root_at s tree i key)) (fm.get (kept_at (view_of s tree) i) key) None)) (gets_chosen s tree q i key)
      ∙ either p q (root_at s tree i key) (fm.get (kept_at (view_of s tree) i) key) ∙ sym (gets_chosen s tree (λ k. p k || q k) i key))

-- the room of the store doesn't count

room_rows : (place : ℕ) (rows : List Row) (k : Kept) (n : ℕ) → put_rows place rows (record k { spare = n }) ≡ record (put_rows place rows k) { spare = n }
room_rows place [] k n = refl
room_rows place (row ∷ rows) k n = room_rows place rows (put_store place row k) n

room_tables : (place : ℕ) (tables : List (List Row)) (k : Kept) (n : ℕ) → put_tables place tables (record k { spare = n }) ≡ record (put_tables place tables k) { spare = n }
room_tables place [] k n = refl
room_tables place (rows ∷ tables) k n = ap (put_tables (suc place) tables) (room_rows place rows k n) ∙ room_tables (suc place) tables (put_rows place rows k) n

but_room : (a b : Kept) → SameButSpare a b → b ≡ record a { spare = b.spare }
but_room a b s = λ i. record { table = s.table i; key = s.key i; foreign = s.foreign i; layers = s.layers i; tables = s.tables i; keys = s.keys i; spare = b.spare }

-- rows that are put in behind more room
pub filled : (tables : List (List Row)) (a b new : Kept) → SameButSpare a b → SameButSpare (put_tables 0 tables b) new → SameButSpare (put_tables 0 tables a) new
filled tables a b new room put =
    let same : put_tables 0 tables b ≡ record (put_tables 0 tables a) { spare = b.spare } = ap (put_tables 0 tables) (but_room a b room) ∙ room_tables 0 tables a b.spare in
    let p = subst (λ z. SameButSpare z new) same put in
    record { table = p.table; key = p.key; foreign = p.foreign; layers = p.layers; tables = p.tables; keys = p.keys }
