-- One group of the catalog is noted as loaded.
use Rattle.std.proofs.Common.{◌≡◌, ℕ, zero, suc, ◌+◌, Bool, true, false, not, cond, ◌&&◌, ◌||◌, nat_eq, Some, List, [], ◌∷◌, map, slice_get, slice_set, arith, refl, sym, ap, ◌∙◌}
use Rattle.std.proofs.lemmas.Bool.{eqb-true}
use Rattle.std.specs.List.{list_all, list_any}
use Rattle.tier_base.specs.declared.number.TableId.{TableId}
use Rattle.table_defs.specs.declared.definition.TableDef.{TableDef}
use Rattle.group_store.specs.Stores.{Kept}
use Rattle.order_laws.proofs.TruthLaws.{never_both, same_some}
use Rattle.cache_tier.specs.declared.group.GroupDef.{GroupDef}
use Rattle.row_types.specs.declared.value.Value.{Value}
use Rattle.cache_tier.specs.Groups.{Group, covers, is_explicit, is_table_of, is_writethrough, with_keys}
use Rattle.cache_tier.specs.Targets.{has_flag, with_flag}
use Rattle.cache_tier.specs.Routes.{hidden, hidden_where}
use Rattle.cache_tier.specs.Sets.{Choice, alone, changed_from}
use Rattle.cache_tier.specs.StandingBetween.{HaveOwnTables}
use Rattle.stored_tier.specs.Stored.{AreKept, named_where_cached, without_list}
use Rattle.group_catalog.specs.Catalogs.{HaveOwnNames, is_plain}

abbrev pub as_loaded : Group → Group
as_loaded g = record g { loaded = true }

-- what is asked of the catalog stays

module _ (chosen : Choice) where
  pub kept_loaded : (schema : List TableDef) (from : ℕ) (groups : List Group) (stores : List Kept) → AreKept schema groups stores → AreKept schema (changed_from chosen as_loaded from groups) stores
  kept_loaded schema from [] [] are = tt
  kept_loaded schema from [] (s ∷ stores) are = are
  kept_loaded schema from (g ∷ groups) [] are = are
  kept_loaded schema from (g ∷ groups) (s ∷ stores) are = by (chosen from g) (kept_loaded schema (suc from) groups stores are.1)
    where
      by : (b : Bool) → AreKept schema (changed_from chosen as_loaded (suc from) groups) stores → AreKept schema (cond b (as_loaded g) g ∷ changed_from chosen as_loaded (suc from) groups) (s ∷ stores)
      by true rest = (are.0, rest)
      by false rest = (are.0, rest)

  pub plain_loaded : (from : ℕ) (groups : List Group) → list_all is_plain (changed_from chosen as_loaded from groups) ≡ list_all is_plain groups
  plain_loaded from [] = refl
  plain_loaded from (g ∷ groups) = by (chosen from g) (plain_loaded (suc from) groups)
    where
      by : (b : Bool) → list_all is_plain (changed_from chosen as_loaded (suc from) groups) ≡ list_all is_plain groups → list_all is_plain (cond b (as_loaded g) g ∷ changed_from chosen as_loaded (suc from) groups) ≡ list_all is_plain (g ∷ groups)
      by true rest = ap (λ b. is_plain g && b) rest
      by false rest = ap (λ b. is_plain g && b) rest

  table_loaded : (from : ℕ) (groups : List Group) (u : TableId) → is_table_of (λ g. true) (changed_from chosen as_loaded from groups) u ≡ is_table_of (λ g. true) groups u
  table_loaded from [] u = refl
  table_loaded from (g ∷ groups) u = by (chosen from g) (table_loaded (suc from) groups u)
    where
      by : (b : Bool) → is_table_of (λ g. true) (changed_from chosen as_loaded (suc from) groups) u ≡ is_table_of (λ g. true) groups u → is_table_of (λ g. true) (cond b (as_loaded g) g ∷ changed_from chosen as_loaded (suc from) groups) u ≡ is_table_of (λ g. true) (g ∷ groups) u
      by true rest = ap (λ b. covers u g || b) rest
      by false rest = ap (λ b. covers u g || b) rest

  hidden_loaded : (from : ℕ) (groups : List Group) (n : ℕ) (defs : List TableDef) → hidden_where (λ u. not (is_table_of (λ g. true) (changed_from chosen as_loaded from groups) u)) n defs ≡ hidden_where (λ u. not (is_table_of (λ g. true) groups u)) n defs
  hidden_loaded from groups n [] = refl
  hidden_loaded from groups n (def ∷ defs) =
      let one = table_loaded from groups (record { 0 = n }) in
      let rest = hidden_loaded from groups (suc n) defs in
      λ i. cond (not (one i)) (hidden def) def ∷ rest i

  pub visible_loaded : (from : ℕ) (groups : List Group) (schema : List TableDef) → named_where_cached (changed_from chosen as_loaded from groups) schema ≡ named_where_cached groups schema
  visible_loaded from groups schema = hidden_loaded from groups 0 schema

  -- a group of the changed ones has the definition of the one that was there
  pub record WasThere (groups : List Group) (i : ℕ) (g : Group) : Type 0 where
    pub group : Group
    pub there : slice_get groups i ≡ Some group
    pub def : g.def ≡ group.def

  was_there : (from : ℕ) (groups : List Group) (i : ℕ) (g : Group) → slice_get (changed_from chosen as_loaded from groups) i ≡ Some g → WasThere groups i g
  was_there from [] i g e = cc
  was_there from (h ∷ groups) zero g e = by (chosen from h) e
    where
      by : (b : Bool) → Some (cond b (as_loaded h) h) ≡ Some g → WasThere (h ∷ groups) zero g
      by true e = let same : as_loaded h ≡ g = cc in record { group = h; there = refl; def = ap (λ (x : Group). x.def) (sym same) }
      by false e = let same : h ≡ g = cc in record { group = h; there = refl; def = ap (λ (x : Group). x.def) (sym same) }
  was_there from (h ∷ groups) (suc i) g e = let r = was_there (suc from) groups i g e in record { group = r.group; there = r.there; def = r.def }

  pub names_loaded : (from : ℕ) (groups : List Group) → HaveOwnNames groups → HaveOwnNames (changed_from chosen as_loaded from groups)
  names_loaded from groups own i j g h at other same =
      let a = was_there from groups i g at in
      let b = was_there from groups j h other in
      own i j a.group b.group a.there b.there (ap (λ (d : GroupDef). d.name) (sym a.def) ∙ same ∙ ap (λ (d : GroupDef). d.name) b.def)

-- the group at one place

-- the same change, without lists
pub flagged_seen : (F L : Group → Group) (from place : ℕ) (groups : List Group) → ((i : ℕ) (y : Group) → slice_get groups i ≡ Some y → from + i ≡ place → without_list (F y) ≡ L (without_list y))
    → map without_list (changed_from (alone place) F from groups) ≡ changed_from (alone place) L from (map without_list groups)
flagged_seen F L from place [] same = refl
flagged_seen F L from place (y ∷ groups) same =
    let rest = flagged_seen F L (suc from) place groups (λ i z at e. same (suc i) z at (let there : from + suc i ≡ place = omega (arith, e) in there)) in
    λ i. first (nat_eq from place) refl i ∷ rest i
  where
    first : (b : Bool) → nat_eq from place ≡ b → without_list (cond b (F y) y) ≡ cond b (L (without_list y)) (without_list y)
    first true e = same 0 y refl (let at : from ≡ place = eqb-true from place e in let here : from + 0 ≡ place = omega (arith, at) in here)
    first false e = refl

pub record IsChanged (F : Group → Group) (place : ℕ) (groups : List Group) (i : ℕ) (g : Group) : Type 0 where
  pub group : Group
  pub there : slice_get groups i ≡ Some group
  pub is : g ≡ cond (nat_eq i place) (F group) group

changed_some : (F : Group → Group) (from place : ℕ) (groups : List Group) (i : ℕ) (g : Group) → slice_get (changed_from (alone place) F from groups) i ≡ Some g → (y : Group) × (slice_get groups i ≡ Some y) × (g ≡ cond (nat_eq (from + i) place) (F y) y)
changed_some F from place [] i g e = cc
changed_some F from place (y ∷ groups) zero g e =
    let same : cond (nat_eq from place) (F y) y ≡ g = same_some e in
    let here : from ≡ from + 0 = omega arith in
    (y, refl, sym same ∙ ap (λ n. cond (nat_eq n place) (F y) y) here)
changed_some F from place (y ∷ groups) (suc i) g e =
    let r = changed_some F (suc from) place groups i g e in
    let here : suc from + i ≡ from + suc i = omega arith in
    (r.0, r.1, r.2 ∙ ap (λ n. cond (nat_eq n place) (F r.0) r.0) here)

pub changed_at : (F : Group → Group) (place : ℕ) (groups : List Group) (i : ℕ) (g : Group) → slice_get (changed_from (alone place) F 0 groups) i ≡ Some g → IsChanged F place groups i g
changed_at F place groups i g e =
    let r = changed_some F 0 place groups i g e in
    let here : 0 + i ≡ i = omega arith in
    record { group = r.0; there = r.1; is = r.2 ∙ ap (λ n. cond (nat_eq n place) (F r.0) r.0) here }

-- a store that was put at a place, and the others

pub set_there : (xs : List Kept) (i : ℕ) (y s : Kept) → slice_get (slice_set xs i y) i ≡ Some s → s ≡ y
set_there [] i y s e = cc
set_there (x ∷ xs) zero y s e = sym (same_some e)
set_there (x ∷ xs) (suc i) y s e = set_there xs i y s e

pub set_beside : (xs : List Kept) (i k : ℕ) (y s : Kept) → (k ≡ i → ⊥) → slice_get (slice_set xs i y) k ≡ Some s → slice_get xs k ≡ Some s
set_beside [] i k y s other e = e
set_beside (x ∷ xs) zero zero y s other e = absurd (other refl)
set_beside (x ∷ xs) zero (suc k) y s other e = e
set_beside (x ∷ xs) (suc i) zero y s other e = e
set_beside (x ∷ xs) (suc i) (suc k) y s other e = set_beside xs i k y s (λ same. other (ap suc same)) e

-- a table is in one group
listed : (gs : List Group) (n : ℕ) (y : Group) (u : TableId) → slice_get gs n ≡ Some y → covers u y ≡ true → list_any (covers u) gs ≡ true
listed [] n y u e c = cc
listed (z ∷ gs) zero y u e c = let one : z ≡ y = cc in ap (λ b. b || list_any (covers u) gs) (ap (covers u) one ∙ c)
listed (z ∷ gs) (suc n) y u e c = by (covers u z) (listed gs n y u e c)
  where
    by : (b : Bool) → list_any (covers u) gs ≡ true → (b || list_any (covers u) gs) ≡ true
    by true r = refl
    by false r = r

pub own_place : (groups : List Group) (i j : ℕ) (g h : Group) (u : TableId) → HaveOwnTables groups → slice_get groups i ≡ Some g → slice_get groups j ≡ Some h → covers u g ≡ true → covers u h ≡ true → i ≡ j
own_place [] i j g h u own at other c d = cc
own_place (x ∷ groups) zero zero g h u own at other c d = refl
own_place (x ∷ groups) zero (suc j) g h u own at other c d =
    let same : x ≡ g = cc in
    absurd (never_both (list_any (covers u) groups) (listed groups j h u other d) (own.0 u (ap (covers u) same ∙ c)))
own_place (x ∷ groups) (suc i) zero g h u own at other c d =
    let same : x ≡ h = cc in
    absurd (never_both (list_any (covers u) groups) (listed groups i g u at c) (own.0 u (ap (covers u) same ∙ d)))
own_place (x ∷ groups) (suc i) (suc j) g h u own at other c d = ap suc (own_place groups i j g h u own.1 at other c d)

-- a group with more keys, whose flag is set
flag_on : (b : Bool) (g : Group) → (cond b (record g { loaded = true }) g).def ≡ g.def
flag_on true g = refl
flag_on false g = refl

pub flag_def : (more : List (List Value)) (g : Group) → (with_flag true (record g { keys = with_keys more g.keys })).def ≡ g.def
flag_def more g = flag_on (has_flag (record g { keys = with_keys more g.keys })) (record g { keys = with_keys more g.keys })

pub flag_keys : (more : List (List Value)) (g : Group) → (with_flag true (record g { keys = with_keys more g.keys })).keys ≡ with_keys more g.keys
flag_keys more g = by (has_flag (record g { keys = with_keys more g.keys }))
  where
    by : (b : Bool) → (cond b (record g { keys = with_keys more g.keys; loaded = true }) (record g { keys = with_keys more g.keys })).keys ≡ with_keys more g.keys
    by true = refl
    by false = refl

pub flag_seen : (more : List (List Value)) (g : Group) → is_writethrough g ≡ true → without_list (with_flag true (record g { keys = with_keys more g.keys })) ≡ as_loaded (without_list g)
flag_seen more g writes = ap (λ b. without_list (cond (b || is_explicit g) (record g { keys = with_keys more g.keys; loaded = true }) (record g { keys = with_keys more g.keys }))) writes
