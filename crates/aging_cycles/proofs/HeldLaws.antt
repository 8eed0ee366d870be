-- The keys that a session holds in an instance: where it holds one with its writes over the rows, it holds one without.
use Rattle.std.proofs.Common.{◌≡◌, ℕ, zero, suc, ◌≤◌, ◌⊎◌, inl, inr, Bool, true, false, cond, ◌&&◌, ◌||◌, nat_eq, Option, Some, None, List, [], ◌∷◌, ◌++◌, length, slice_get, slice_set, unwrap_or, refl, sym, ap, subst, ◌∙◌, arith, eq-eqb, eqb-true}
use Rattle.std.specs.Option.{option_and_then, option_map}
use Rattle.std.specs.List.{list_any}
use Rattle.std.proofs.lemmas.List.Folds.{list_any-append}
use Rattle.std.specs.FinMap as fm
use Rattle.row_types.specs.declared.value.Value.{Value}
use Rattle.row_types.proofs.OrderLaws.{key_total}
use Rattle.tier_base.specs.declared.number.TableId.{TableId}
use Rattle.table_defs.specs.declared.definition.TableDef.{TableDef}
use Rattle.table_defs.specs.Declarations.{foreign_places}
use Rattle.indexed_rows.specs.Rows.{Table, is_same, key_of}
use Rattle.indexed_rows.proofs.EntryLaws.{same_itself, same_values}
use Rattle.table_state.specs.declared.footprint.RowKey.{RowKey}
use Rattle.table_state.specs.declared.operation.Op.{Op}
use Rattle.table_state.specs.declared.operation.Op.TheVariants.{Delete, Insert, Update}
use Rattle.table_state.specs.Footprints.{footprint_of, is_among, referred_by, referred_key, same_row_key}
use Rattle.table_state.specs.Tables.{TableState, table_at}
use Rattle.evaluator.specs.Cascades.{key_in}
use Rattle.instances.specs.declared.tree.Child.{Child}
use Rattle.instances.specs.declared.tree.Tree.{Tree}
use Rattle.instances.specs.Roots.{parent_key, root_of, root_within}
use Rattle.instances.specs.Trees.{is_sound, place_of}
use Rattle.instances.specs.Views.{passes}
use Rattle.order_laws.proofs.TruthLaws.{both_true, or_true, same_some}
use Rattle.cache_tier.specs.Groups.{Group}
use Rattle.cache_tier.specs.Shown.{all_over, over, root_key}
use Rattle.cache_tier.proofs.ShownTables.{same_id}
use Rattle.cache_tier.proofs.ShownTrees.{SoundChild, place_there, sound_child}
use Rattle.aging_cycles.proofs.Within.{IsRooted, is_only, is_within, touches}

abbrev Row : Type 0
Row = List Value

-- operations leave the definitions

over_one : (op : Op) (s : TableState) → (over op s).schema ≡ s.schema
over_one (Insert t row) s = refl
over_one (Update t old new) s = refl
over_one (Delete t old) s = refl

pub over_schema : (ops : List Op) (s : TableState) → (all_over ops s).schema ≡ s.schema
over_schema [] s = refl
over_schema (op ∷ ops) s = over_schema ops (over op s) ∙ over_one op s

-- a row behind operations is the one before, or one of theirs

set_from : (xs : List Table) (i j : ℕ) (m : Table) (k row : Row) → fm.get (unwrap_or (slice_get (slice_set xs i m) j) fm.empty) k ≡ Some row
    → (fm.get (unwrap_or (slice_get xs j) fm.empty) k ≡ Some row) ⊎ ((i ≡ j) × (fm.get m k ≡ Some row))
set_from [] i j m k row e = inl e
set_from (x ∷ xs) zero zero m k row e = inr (refl, e)
set_from (x ∷ xs) zero (suc j) m k row e = inl e
set_from (x ∷ xs) (suc i) zero m k row e = inl e
set_from (x ∷ xs) (suc i) (suc j) m k row e = by (set_from xs i j m k row e)
  where
    by : (fm.get (unwrap_or (slice_get xs j) fm.empty) k ≡ Some row) ⊎ ((i ≡ j) × (fm.get m k ≡ Some row))
        → (fm.get (unwrap_or (slice_get xs j) fm.empty) k ≡ Some row) ⊎ ((suc i ≡ suc j) × (fm.get m k ≡ Some row))
    by (inl old) = inl old
    by (inr new) = inr (ap suc new.0, new.1)

put_from : (m : Table) (at r k row : Row) → fm.get (fm.insert m at r) k ≡ Some row → (fm.get m k ≡ Some row) ⊎ (r ≡ row)
put_from m at r k row e = by (is_same k at) (sym (fm.get-insert key_total m at r k) ∙ e)
  where
    by : (b : Bool) → cond b (Some r) (fm.get m k) ≡ Some row → (fm.get m k ≡ Some row) ⊎ (r ≡ row)
    by true is = inr (same_some is)
    by false is = inl is

left_from : (m : Table) (at k row : Row) → fm.get (fm.remove m at) k ≡ Some row → fm.get m k ≡ Some row
left_from m at k row e = by (is_same k at) (sym (fm.get-remove key_total m at k) ∙ e)
  where
    by : (b : Bool) → cond b None (fm.get m k) ≡ Some row → fm.get m k ≡ Some row
    by true is = cc
    by false is = is

-- the keys of parents that a row of a table names are among these
abbrev AreNamed : List TableDef → TableId → Row → List RowKey → Type 0
AreNamed schema t row keys = (z : RowKey) → is_among (referred_key (slice_get schema t.0) row) z ≡ true → is_among keys z ≡ true

among_first : (xs ys : List RowKey) (z : RowKey) → is_among xs z ≡ true → is_among (xs ++ ys) z ≡ true
among_first xs ys z e = list_any-append (same_row_key z) xs ys ∙ ap (λ b. b || is_among ys z) e

among_later : (xs ys : List RowKey) (z : RowKey) → is_among ys z ≡ true → is_among (xs ++ ys) z ≡ true
among_later xs ys z e = list_any-append (same_row_key z) xs ys ∙ ap (λ b. is_among xs z || b) e ∙ or_true (is_among xs z)

one_from : (op : Op) (s : TableState) (t : TableId) (k row : Row) → fm.get (table_at (over op s) t) k ≡ Some row
    → (fm.get (table_at s t) k ≡ Some row) ⊎ AreNamed s.schema t row (referred_by s.schema op)
one_from (Insert u r) s t k row e = by (set_from s.tables u.0 t.0 (fm.insert (table_at s u) (key_in (slice_get s.schema u.0) r) r) k row e)
  where
    new : u.0 ≡ t.0 → (fm.get (table_at s u) k ≡ Some row) ⊎ (r ≡ row) → (fm.get (table_at s t) k ≡ Some row) ⊎ AreNamed s.schema t row (referred_by s.schema (Insert u r))
    new at (inl old) = inl (ap (λ n. fm.get (unwrap_or (slice_get s.tables n) fm.empty) k) (sym at) ∙ old)
    new at (inr same) = inr (λ z h. among_first (referred_key (slice_get s.schema u.0) r) [] z ((λ i. is_among (referred_key (slice_get s.schema (at i)) (same i)) z) ∙ h))

    by : (fm.get (table_at s t) k ≡ Some row) ⊎ ((u.0 ≡ t.0) × (fm.get (fm.insert (table_at s u) (key_in (slice_get s.schema u.0) r) r) k ≡ Some row))
        → (fm.get (table_at s t) k ≡ Some row) ⊎ AreNamed s.schema t row (referred_by s.schema (Insert u r))
    by (inl old) = inl old
    by (inr x) = new x.0 (put_from (table_at s u) (key_in (slice_get s.schema u.0) r) r k row x.1)
one_from (Update u old r) s t k row e = by (set_from s.tables u.0 t.0 (fm.insert (table_at s u) (key_in (slice_get s.schema u.0) r) r) k row e)
  where
    new : u.0 ≡ t.0 → (fm.get (table_at s u) k ≡ Some row) ⊎ (r ≡ row) → (fm.get (table_at s t) k ≡ Some row) ⊎ AreNamed s.schema t row (referred_by s.schema (Update u old r))
    new at (inl was) = inl (ap (λ n. fm.get (unwrap_or (slice_get s.tables n) fm.empty) k) (sym at) ∙ was)
    new at (inr same) = inr (λ z h.
        among_later (referred_key (slice_get s.schema u.0) old) (referred_key (slice_get s.schema u.0) r ++ []) z
        (among_first (referred_key (slice_get s.schema u.0) r) [] z ((λ i. is_among (referred_key (slice_get s.schema (at i)) (same i)) z) ∙ h)))

    by : (fm.get (table_at s t) k ≡ Some row) ⊎ ((u.0 ≡ t.0) × (fm.get (fm.insert (table_at s u) (key_in (slice_get s.schema u.0) r) r) k ≡ Some row))
        → (fm.get (table_at s t) k ≡ Some row) ⊎ AreNamed s.schema t row (referred_by s.schema (Update u old r))
    by (inl was) = inl was
    by (inr x) = new x.0 (put_from (table_at s u) (key_in (slice_get s.schema u.0) r) r k row x.1)
one_from (Delete u old) s t k row e = by (set_from s.tables u.0 t.0 (fm.remove (table_at s u) (key_in (slice_get s.schema u.0) old)) k row e)
  where
    by : (fm.get (table_at s t) k ≡ Some row) ⊎ ((u.0 ≡ t.0) × (fm.get (fm.remove (table_at s u) (key_in (slice_get s.schema u.0) old)) k ≡ Some row))
        → (fm.get (table_at s t) k ≡ Some row) ⊎ AreNamed s.schema t row (referred_by s.schema (Delete u old))
    by (inl was) = inl was
    by (inr x) = inl (ap (λ n. fm.get (unwrap_or (slice_get s.tables n) fm.empty) k) (sym x.0) ∙ left_from (table_at s u) (key_in (slice_get s.schema u.0) old) k row x.1)

pub over_from : (ops : List Op) (s : TableState) (t : TableId) (k row : Row) → fm.get (table_at (all_over ops s) t) k ≡ Some row
    → (fm.get (table_at s t) k ≡ Some row) ⊎ AreNamed s.schema t row (footprint_of s.schema ops).referred
over_from [] s t k row e = inl e
over_from (op ∷ ops) s t k row e = by (over_from ops (over op s) t k row e)
  where
    later : (z : RowKey) → is_among (footprint_of s.schema ops).referred z ≡ true → is_among (footprint_of s.schema (op ∷ ops)).referred z ≡ true
    later z h = among_later (referred_by s.schema op) (footprint_of s.schema ops).referred z h

    one : (fm.get (table_at s t) k ≡ Some row) ⊎ AreNamed s.schema t row (referred_by s.schema op)
        → (fm.get (table_at s t) k ≡ Some row) ⊎ AreNamed s.schema t row (footprint_of s.schema (op ∷ ops)).referred
    one (inl was) = inl was
    one (inr named) = inr (λ z h. among_first (referred_by s.schema op) (footprint_of s.schema ops).referred z (named z h))

    by : (fm.get (table_at (over op s) t) k ≡ Some row) ⊎ AreNamed (over op s).schema t row (footprint_of (over op s).schema ops).referred
        → (fm.get (table_at s t) k ≡ Some row) ⊎ AreNamed s.schema t row (footprint_of s.schema (op ∷ ops)).referred
    by (inl mid) = one (one_from op s t k row mid)
    by (inr named) = inr (λ z h. later z (subst (λ defs. AreNamed defs t row (footprint_of defs ops).referred) (over_one op s) named z h))

-- from a row up to its root

some_root : (b : Bool) (k root : Row) → cond b (Some k) None ≡ Some root → k ≡ root
some_root true k root e = same_some e
some_root false k root e = cc

pub grows : (n m : ℕ) (s : TableState) (tree : Tree) (p : ℕ) (k root : Row) → n ≤ m → root_within n s tree p k ≡ Some root → root_within m s tree p k ≡ Some root
grows n m s tree zero k root le e = e
grows zero m s tree (suc i) k root le e = cc
grows (suc n) zero s tree (suc i) k root le e = absurd (omega (arith, le))
grows (suc n) (suc m) s tree (suc i) k root le e = child (slice_get tree.children i) e (λ p q h. grows n m s tree p q root (omega (arith, le)) h)
  where
    parent : (p : ℕ) (o : Option Row) → option_and_then (root_within n s tree p) o ≡ Some root
        → ((q : Row) → root_within n s tree p q ≡ Some root → root_within m s tree p q ≡ Some root) → option_and_then (root_within m s tree p) o ≡ Some root
    parent p None is up = cc
    parent p (Some q) is up = up q is

    child : (o : Option Child) → option_and_then (λ (c : Child). option_and_then (root_within n s tree c.parent) (parent_key s c k)) o ≡ Some root
        → ((p : ℕ) (q : Row) → root_within n s tree p q ≡ Some root → root_within m s tree p q ≡ Some root)
        → option_and_then (λ (c : Child). option_and_then (root_within m s tree c.parent) (parent_key s c k)) o ≡ Some root
    child None is up = cc
    child (Some c) is up = parent c.parent (parent_key s c k) is (up c.parent)

module _ (s : TableState) (tree : Tree) (sound : is_sound s.schema tree ≡ true) (ops : List Op) (root : Row) (there : fm.contains_key (table_at s tree.root.table) root ≡ true) where
  -- a parent that the operations name is reached from the root
  pub record Reached : Type 0 where
    pub key : RowKey
    pub named : is_among (footprint_of s.schema ops).referred key ≡ true
    pub from : root_of s tree key.table key.key ≡ Some root

  -- what holds of parents
  abbrev Up : ℕ → Type 0
  Up n = (p : ℕ) (q : Row) → root_within n (all_over ops s) tree p q ≡ Some root → (root_within n s tree p q ≡ Some root) ⊎ Reached

  -- the parent that a row of a child table names
  abbrev parent_of : {i : ℕ} {c : Child} → SoundChild s.schema tree i c → Row → RowKey
  parent_of one row = record { table = one.foreign.parent; key = key_of one.foreign.columns row }

  pub climbs : (n p : ℕ) (k : Row) → n ≤ length tree.children → root_within n (all_over ops s) tree p k ≡ Some root → (root_within n s tree p k ≡ Some root) ⊎ Reached
  climbs n zero k few e =
      let same = some_root (fm.contains_key (table_at (all_over ops s) tree.root.table) k) k root e in
      inl ((λ i. cond (fm.contains_key (table_at s tree.root.table) (same i)) (Some (same i)) None) ∙ ap (λ b. cond b (Some root) None) there)
  climbs zero (suc i) k few e = cc
  climbs (suc n) (suc i) k few e = child (slice_get tree.children i) refl e (λ p q h. climbs n p q (omega (arith, few)) h)
    where
      -- the key that the row names
      named_key : (defs : List TableDef) (c : Child) (row : Row) (one : SoundChild s.schema tree i c) → slice_get defs c.table.0 ≡ slice_get s.schema c.table.0
          → option_map (λ (def : TableDef). key_of (foreign_places def.foreign_key) row) (slice_get defs c.table.0) ≡ Some (key_of one.foreign.columns row)
      named_key defs c row one same = ap (option_map (λ (def : TableDef). key_of (foreign_places def.foreign_key) row)) (same ∙ one.defined) ∙ ap (λ f. Some (key_of (foreign_places f) row)) one.key

      found : (c : Child) (one : SoundChild s.schema tree i c) (row : Row) → slice_get tree.children i ≡ Some c → fm.get (table_at (all_over ops s) c.table) k ≡ Some row
          → root_within n s tree c.parent (key_of one.foreign.columns row) ≡ Some root → (root_within (suc n) s tree (suc i) k ≡ Some root) ⊎ Reached
      found c one row at row_is up = by (over_from ops s c.table k row row_is)
        where
          is_it : is_among (referred_key (slice_get s.schema c.table.0) row) (parent_of one row) ≡ true
          is_it =
              ap (λ o. is_among (referred_key o row) (parent_of one row)) one.defined
              ∙ ap (λ f. is_among (Rattle.table_state.specs.Footprints.parent_key f row) (parent_of one row)) one.key
              ∙ (λ i. (eq-eqb one.foreign.parent.0 one.foreign.parent.0 refl i && same_itself (key_of one.foreign.columns row) (key_of one.foreign.columns row) refl i) || false)

          place : place_of tree one.foreign.parent ≡ Some c.parent
          place = ap (place_of tree) (same_id one.foreign.parent one.parent one.refers) ∙ place_there s.schema tree c.parent one.parent sound one.there

          by : (fm.get (table_at s c.table) k ≡ Some row) ⊎ AreNamed s.schema c.table row (footprint_of s.schema ops).referred → (root_within (suc n) s tree (suc i) k ≡ Some root) ⊎ Reached
          by (inl was) = inl
              (ap (option_and_then (λ (d : Child). option_and_then (root_within n s tree d.parent) (parent_key s d k))) at
              ∙ ap (λ (o : Option Row). option_and_then (root_within n s tree c.parent) (option_and_then (λ r. option_map (λ (def : TableDef). key_of (foreign_places def.foreign_key) r) (slice_get s.schema c.table.0)) o)) was
              ∙ ap (option_and_then (root_within n s tree c.parent)) (named_key s.schema c row one refl)
              ∙ up)
          by (inr named) = inr (record {
            key = parent_of one row;
            named = named (parent_of one row) is_it;
            from = ap (option_and_then (λ place. root_within (length tree.children) s tree place (key_of one.foreign.columns row))) place
                ∙ grows n (length tree.children) s tree c.parent (key_of one.foreign.columns row) root (omega (arith, few)) up;
          })

      row_there : (c : Child) (one : SoundChild s.schema tree i c) → slice_get tree.children i ≡ Some c → (o : Option Row) → fm.get (table_at (all_over ops s) c.table) k ≡ o
          → option_and_then (root_within n (all_over ops s) tree c.parent) (option_and_then (λ r. option_map (λ (def : TableDef). key_of (foreign_places def.foreign_key) r) (slice_get (all_over ops s).schema c.table.0)) o) ≡ Some root
          → Up n → (root_within (suc n) s tree (suc i) k ≡ Some root) ⊎ Reached
      row_there c one at None row_is h up = cc
      row_there c one at (Some row) row_is h up =
          by (up c.parent (key_of one.foreign.columns row)
          (sym (ap (option_and_then (root_within n (all_over ops s) tree c.parent)) (named_key (all_over ops s).schema c row one (ap (λ defs. slice_get defs c.table.0) (over_schema ops s)))) ∙ h))
        where
          by : (root_within n s tree c.parent (key_of one.foreign.columns row) ≡ Some root) ⊎ Reached → (root_within (suc n) s tree (suc i) k ≡ Some root) ⊎ Reached
          by (inl here) = found c one row at row_is here
          by (inr reached) = inr reached

      child : (o : Option Child) → slice_get tree.children i ≡ o → option_and_then (λ (c : Child). option_and_then (root_within n (all_over ops s) tree c.parent) (parent_key (all_over ops s) c k)) o ≡ Some root
          → Up n → (root_within (suc n) s tree (suc i) k ≡ Some root) ⊎ Reached
      child None at h up = cc
      child (Some c) at h up = row_there c (sound_child s.schema tree i c sound at) at (fm.get (table_at (all_over ops s) c.table) k) refl h up

  -- ---- the keys that they hold

  -- a key of a row that is reached from the root, with the operations over the rows, or a parent that is without them
  reached : (z : RowKey) → is_within (all_over ops s) tree (is_only root) z ≡ true → (is_within s tree (is_only root) z ≡ true) ⊎ Reached
  reached z h = by (place_of tree z.table) refl
    where
      passing : (o : Option Row) → passes (is_only root) o ≡ true → o ≡ Some root
      passing None e = cc
      passing (Some r) e = ap Some (same_values r root (first (is_same r root) e))
        where
          first : (b : Bool) → (b || false) ≡ true → b ≡ true
          first true x = refl
          first false x = x

      its : is_only root root ≡ true
      its = ap (λ b. b || false) (same_itself root root refl)

      by : (o : Option ℕ) → place_of tree z.table ≡ o → (is_within s tree (is_only root) z ≡ true) ⊎ Reached
      by None e = let wrong : false ≡ true = sym (ap (λ o. passes (is_only root) (option_and_then (λ place. root_within (length tree.children) (all_over ops s) tree place z.key) o)) e) ∙ h in cc
      by (Some p) e = of (climbs (length tree.children) p z.key (omega arith) (passing (root_within (length tree.children) (all_over ops s) tree p z.key) (sym (ap (λ o. passes (is_only root) (option_and_then (λ place. root_within (length tree.children) (all_over ops s) tree place z.key) o)) e) ∙ h)))
        where
          of : (root_within (length tree.children) s tree p z.key ≡ Some root) ⊎ Reached → (is_within s tree (is_only root) z ≡ true) ⊎ Reached
          of (inl up) = inl (ap (λ o. passes (is_only root) (option_and_then (λ place. root_within (length tree.children) s tree place z.key) o)) e ∙ ap (passes (is_only root)) up ∙ its)
          of (inr r) = inr r

  -- one of these keys that the operations hold
  any_reached : (keys : List RowKey) → list_any (is_within (all_over ops s) tree (is_only root)) keys ≡ true → (list_any (is_within s tree (is_only root)) keys ≡ true) ⊎ Reached
  any_reached [] h = cc
  any_reached (z ∷ keys) h = by (is_within (all_over ops s) tree (is_only root) z) refl h (any_reached keys)
    where
      first : (is_within s tree (is_only root) z ≡ true) ⊎ Reached → (list_any (is_within s tree (is_only root)) (z ∷ keys) ≡ true) ⊎ Reached
      first (inl w) = inl (ap (λ b. b || list_any (is_within s tree (is_only root)) keys) w)
      first (inr r) = inr r

      later : (list_any (is_within s tree (is_only root)) keys ≡ true) ⊎ Reached → (list_any (is_within s tree (is_only root)) (z ∷ keys) ≡ true) ⊎ Reached
      later (inl w) = inl (ap (λ b. is_within s tree (is_only root) z || b) w ∙ or_true (is_within s tree (is_only root) z))
      later (inr r) = inr r

      by : (b : Bool) → is_within (all_over ops s) tree (is_only root) z ≡ b → (b || list_any (is_within (all_over ops s) tree (is_only root)) keys) ≡ true
          → (list_any (is_within (all_over ops s) tree (is_only root)) keys ≡ true → (list_any (is_within s tree (is_only root)) keys ≡ true) ⊎ Reached)
          → (list_any (is_within s tree (is_only root)) (z ∷ keys) ≡ true) ⊎ Reached
      by true e x rest = first (reached z e)
      by false e x rest = later (rest x)

  -- a named parent is one
  named_any : (keys : List RowKey) (r : Reached) → is_among keys r.key ≡ true → list_any (is_within s tree (is_only root)) keys ≡ true
  named_any [] r m = cc
  named_any (y ∷ keys) r m = by (same_row_key r.key y) refl m (named_any keys r)
    where
      its : same_row_key r.key y ≡ true → is_within s tree (is_only root) y ≡ true
      its e =
          let both = both_true (nat_eq r.key.table.0 y.table.0) (is_same r.key.key y.key) e in
          let table : r.key.table ≡ y.table = same_id r.key.table y.table (eqb-true r.key.table.0 y.table.0 both.0) in
          let key : r.key.key ≡ y.key = same_values r.key.key y.key both.1 in
          (λ i. passes (is_only root) (root_of s tree (sym table i) (sym key i))) ∙ ap (passes (is_only root)) r.from ∙ ap (λ b. b || false) (same_itself root root refl)

      by : (b : Bool) → same_row_key r.key y ≡ b → (b || is_among keys r.key) ≡ true → (is_among keys r.key ≡ true → list_any (is_within s tree (is_only root)) keys ≡ true) → list_any (is_within s tree (is_only root)) (y ∷ keys) ≡ true
      by true e x rest = ap (λ b. b || list_any (is_within s tree (is_only root)) keys) (its e)
      by false e x rest = ap (λ b. is_within s tree (is_only root) y || b) (rest x) ∙ or_true (is_within s tree (is_only root) y)

  -- so they hold a key there without
  pub held_alone : touches (all_over ops s) tree (is_only root) ops ≡ true → touches s tree (is_only root) ops ≡ true
  held_alone h =
      by (list_any (is_within (all_over ops s) tree (is_only root)) (footprint_of s.schema ops).written) refl
      (sym (ap (λ defs. list_any (is_within (all_over ops s) tree (is_only root)) (footprint_of defs ops).written || list_any (is_within (all_over ops s) tree (is_only root)) (footprint_of defs ops).referred) (over_schema ops s)) ∙ h)
    where
      through : Reached → touches s tree (is_only root) ops ≡ true
      through r =
          ap (λ b. list_any (is_within s tree (is_only root)) (footprint_of s.schema ops).written || b) (named_any (footprint_of s.schema ops).referred r r.named)
          ∙ or_true (list_any (is_within s tree (is_only root)) (footprint_of s.schema ops).written)

      written : (list_any (is_within s tree (is_only root)) (footprint_of s.schema ops).written ≡ true) ⊎ Reached → touches s tree (is_only root) ops ≡ true
      written (inl w) = ap (λ b. b || list_any (is_within s tree (is_only root)) (footprint_of s.schema ops).referred) w
      written (inr r) = through r

      referred : (list_any (is_within s tree (is_only root)) (footprint_of s.schema ops).referred ≡ true) ⊎ Reached → touches s tree (is_only root) ops ≡ true
      referred (inl w) =
          ap (λ b. list_any (is_within s tree (is_only root)) (footprint_of s.schema ops).written || b) w
          ∙ or_true (list_any (is_within s tree (is_only root)) (footprint_of s.schema ops).written)
      referred (inr r) = through r

      by : (b : Bool) → list_any (is_within (all_over ops s) tree (is_only root)) (footprint_of s.schema ops).written ≡ b
          → (b || list_any (is_within (all_over ops s) tree (is_only root)) (footprint_of s.schema ops).referred) ≡ true → touches s tree (is_only root) ops ≡ true
      by true e x = written (any_reached (footprint_of s.schema ops).written e)
      by false e x = referred (any_reached (footprint_of s.schema ops).referred x)

-- root rows stand under their keys with operations over them

put_rooted : (s : TableState) (g : Group) → IsRooted s g → (u : TableId) (r k row : Row) → u.0 ≡ g.def.tree.root.table.0
    → fm.get (fm.insert (table_at s u) (key_in (slice_get s.schema u.0) r) r) k ≡ Some row → root_key s g row ≡ k
put_rooted s g rooted u r k row at e = by (is_same k (key_in (slice_get s.schema u.0) r)) refl (sym (fm.get-insert key_total (table_at s u) (key_in (slice_get s.schema u.0) r) r k) ∙ e)
  where
    by : (b : Bool) → is_same k (key_in (slice_get s.schema u.0) r) ≡ b → cond b (Some r) (fm.get (table_at s u) k) ≡ Some row → root_key s g row ≡ k
    by true same is =
        ap (root_key s g) (sym (same_some is)) ∙ ap (λ n. key_in (slice_get s.schema n) r) (sym at) ∙ sym (same_values k (key_in (slice_get s.schema u.0) r) same)
    by false other is = rooted k row (ap (λ n. fm.get (unwrap_or (slice_get s.tables n) fm.empty) k) (sym at) ∙ is)

rooted_one : (op : Op) (s : TableState) (g : Group) → IsRooted s g → IsRooted (over op s) g
rooted_one (Insert u r) s g rooted k row e = by (set_from s.tables u.0 g.def.tree.root.table.0 (fm.insert (table_at s u) (key_in (slice_get s.schema u.0) r) r) k row e)
  where
    by : (fm.get (table_at s g.def.tree.root.table) k ≡ Some row) ⊎ ((u.0 ≡ g.def.tree.root.table.0) × (fm.get (fm.insert (table_at s u) (key_in (slice_get s.schema u.0) r) r) k ≡ Some row)) → root_key s g row ≡ k
    by (inl was) = rooted k row was
    by (inr x) = put_rooted s g rooted u r k row x.0 x.1
rooted_one (Update u old r) s g rooted k row e = by (set_from s.tables u.0 g.def.tree.root.table.0 (fm.insert (table_at s u) (key_in (slice_get s.schema u.0) r) r) k row e)
  where
    by : (fm.get (table_at s g.def.tree.root.table) k ≡ Some row) ⊎ ((u.0 ≡ g.def.tree.root.table.0) × (fm.get (fm.insert (table_at s u) (key_in (slice_get s.schema u.0) r) r) k ≡ Some row)) → root_key s g row ≡ k
    by (inl was) = rooted k row was
    by (inr x) = put_rooted s g rooted u r k row x.0 x.1
rooted_one (Delete u old) s g rooted k row e = by (set_from s.tables u.0 g.def.tree.root.table.0 (fm.remove (table_at s u) (key_in (slice_get s.schema u.0) old)) k row e)
  where
    by : (fm.get (table_at s g.def.tree.root.table) k ≡ Some row) ⊎ ((u.0 ≡ g.def.tree.root.table.0) × (fm.get (fm.remove (table_at s u) (key_in (slice_get s.schema u.0) old)) k ≡ Some row)) → root_key s g row ≡ k
    by (inl was) = rooted k row was
    by (inr x) = rooted k row (ap (λ n. fm.get (unwrap_or (slice_get s.tables n) fm.empty) k) (sym x.0) ∙ left_from (table_at s u) (key_in (slice_get s.schema u.0) old) k row x.1)

pub rooted_over : (ops : List Op) (s : TableState) (g : Group) → IsRooted s g → IsRooted (all_over ops s) g
rooted_over [] s g rooted = rooted
rooted_over (op ∷ ops) s g rooted = rooted_over ops (over op s) g (rooted_one op s g rooted)
