-- What is stored and shown where one store changes, or another comes.
use Rattle.std.proofs.Common.{◌≡◌, ◌≢◌, ℕ, zero, suc, ◌⊎◌, inl, inr, Bool, true, false, cond, nat_eq, Option, Some, None, is_some, List, [], ◌∷◌, length, set, slice_get, unwrap_or, position, refl, sym, ap, subst, ◌∙◌}
use Rattle.std.specs.Option.{option_map, option_or}
use Rattle.std.proofs.lemmas.Bool.Decides.{eqb_tells}
use Rattle.tier_base.specs.declared.number.TableId.{TableId}
use Rattle.table_defs.specs.declared.definition.TableDef.{TableDef}
use Rattle.table_defs.specs.Declarations.{foreign_places}
use Rattle.table_state.specs.Tables.{TableState, table_at}
use Rattle.instances.specs.declared.tree.Child.{Child}
use Rattle.instances.specs.declared.tree.Tree.{Tree}
use Rattle.instances.specs.Trees.{place_of, same_table, table_of}
use Rattle.instances.specs.Views.{kept_at}
use Rattle.indexed_rows.proofs.MapLaws.{slice_get_map}
use Rattle.group_store.specs.Keeping.{IsFor, layer_for}
use Rattle.group_store.specs.Shown.{AreHoused, IsOver, foreign_key_of, home_from, home_of, homes_from}
use Rattle.group_store.specs.Stores.{Kept, place_in}
use Rattle.group_store.specs.Trees.{foreign_at}
use Rattle.group_store.specs.declared.directory.Home.{Home}
use Rattle.cache_tier.specs.Groups.{Group, covers, definitions_of}
use Rattle.cache_tier.specs.declared.group.GroupDef.{GroupDef}
use Rattle.cache_tier.specs.Shown.{shown_state}
use Rattle.cache_tier.specs.Worlds.{World}
use Rattle.cache_tier.proofs.ShownTrees.{at_place}
use Rattle.stored_tier.specs.declared.tier.Tier.{Tier as Stored}
use Rattle.stored_tier.specs.Grouping.{SameTree}
use Rattle.stored_tier.specs.Performing.{StandsFor}
use Rattle.stored_tier.specs.Stored.{AreKept, IsSound, ShowsRows}
use Rattle.stored_tier.proofs.StoreRows.{are_kept, kept_is_shown, one_place, place_same, shows_kept, store_here}

-- lists with one element changed

pub get_here : {X : Type 0} (xs : List X) (i : ℕ) (x y : X) → slice_get xs i ≡ Some x → slice_get (set xs i y) i ≡ Some y
get_here [] i x y at = cc
get_here (z ∷ xs) zero x y at = refl
get_here (z ∷ xs) (suc i) x y at = get_here xs i x y at

pub get_there : {X : Type 0} (xs : List X) (i j : ℕ) (y : X) → j ≢ i → slice_get (set xs i y) j ≡ slice_get xs j
get_there [] i j y other = refl
get_there (z ∷ xs) zero zero y other = absurd (other refl)
get_there (z ∷ xs) zero (suc j) y other = refl
get_there (z ∷ xs) (suc i) zero y other = refl
get_there (z ∷ xs) (suc i) (suc j) y other = get_there xs i j y (λ e. other (ap suc e))

-- a store of a tree has the schema's foreign keys

foreign_same : (schema : List TableDef) (t u : TableId) → t.0 ≡ u.0 → foreign_key_of schema t ≡ foreign_key_of schema u
foreign_same schema t u e = ap (λ n. unwrap_or (option_map (λ (def : TableDef). foreign_places def.foreign_key) (slice_get schema n)) []) e

pub over_for : (schema : List TableDef) (tree : Tree) (s : Kept) → IsFor schema tree s → IsOver schema s
over_for schema tree s form t place e =
    let a = at_place tree t place (sym (place_same schema tree s form t) ∙ e) in
    by place a.table a.is ∙ foreign_same schema a.table t a.same
  where
    child : (i : ℕ) (u : TableId) (o : Option Child) → slice_get tree.children i ≡ o → option_map (λ (c : Child). c.table) o ≡ Some u → foreign_at s.foreign s.layers (suc i) ≡ foreign_key_of schema u
    child i u None at is = cc
    child i u (Some c) at is =
        let same : c.table ≡ u = cc in
        ap (λ ls. unwrap_or (option_map (λ l. l.foreign) (slice_get ls i)) []) form.layers
        ∙ ap (λ o. unwrap_or (option_map (λ l. l.foreign) o) []) (slice_get_map (layer_for schema) tree.children i c at)
        ∙ ap (foreign_key_of schema) same

    by : (p : ℕ) (u : TableId) → table_of tree p ≡ Some u → foreign_at s.foreign s.layers p ≡ foreign_key_of schema u
    by zero u is = let same : tree.root.table ≡ u = cc in form.foreign ∙ ap (foreign_key_of schema) same
    by (suc i) u is = child i u (slice_get tree.children i) refl is

pub all_over_for : (schema : List TableDef) (groups : List Group) (stores : List Kept) → AreKept schema groups stores → (i : ℕ) (s : Kept) → slice_get stores i ≡ Some s → IsOver schema s
all_over_for schema groups [] are i s at = cc
all_over_for schema [] (x ∷ stores) are i s at = absurd are
all_over_for schema (g ∷ groups) (x ∷ stores) are zero s at = let same : x ≡ s = cc in subst (IsOver schema) same (over_for schema g.def.tree x are.0)
all_over_for schema (g ∷ groups) (x ∷ stores) are (suc i) s at = all_over_for schema groups stores are.1 i s at

-- the stores of groups, of which one is changed

pub kept_set : (schema : List TableDef) (groups : List Group) (stores : List Kept) (k : ℕ) (g : Group) (s : Kept) → AreKept schema groups stores → slice_get groups k ≡ Some g → IsFor schema g.def.tree s → AreKept schema groups (set stores k s)
kept_set schema [] [] k g s are at form = cc
kept_set schema [] (x ∷ stores) k g s are at form = absurd are
kept_set schema (h ∷ groups) [] k g s are at form = absurd are
kept_set schema (h ∷ groups) (x ∷ stores) zero g s are at form = let same : g ≡ h = cc in (subst (λ y. IsFor schema y.def.tree s) same form, are.1)
kept_set schema (h ∷ groups) (x ∷ stores) (suc k) g s are at form = (are.0, kept_set schema groups stores k g s are.1 at form)

-- it depends on the definitions alone
pub kept_defined : (schema : List TableDef) (gs hs : List Group) (stores : List Kept) → definitions_of hs ≡ definitions_of gs → AreKept schema gs stores → AreKept schema hs stores
kept_defined schema [] [] stores same are = are
kept_defined schema [] (h ∷ hs) stores same are = cc
kept_defined schema (g ∷ gs) [] stores same are = cc
kept_defined schema (g ∷ gs) (h ∷ hs) [] same are = are
kept_defined schema (g ∷ gs) (h ∷ hs) (s ∷ stores) same are =
    let one : g.def ≡ h.def = cc in
    let rest : definitions_of hs ≡ definitions_of gs = cc in
    (subst (λ (d : GroupDef). IsFor schema d.tree s) one are.0, kept_defined schema gs hs stores rest are.1)

-- a store of the same tree is found as the old one
same_placed : (s x : Kept) (t : TableId) → SameTree x s → place_in s t ≡ place_in x t
same_placed s x t same =
    ap (λ r. cond (same_table r t) (Some 0) (option_map suc (position (λ l. same_table l.table t) s.layers))) same.table
    ∙ ap (λ ls. cond (same_table x.table t) (Some 0) (option_map suc (position (λ l. same_table l.table t) ls))) same.layers

home_set : (stores : List Kept) (k : ℕ) (x s : Kept) (number : ℕ) (t : TableId) → slice_get stores k ≡ Some x → SameTree x s → home_from number (set stores k s) t ≡ home_from number stores t
home_set [] k x s number t at same = refl
home_set (y ∷ stores) zero x s number t at same =
    let one : x ≡ y = cc in
    ap (λ o. option_or (option_map (λ place. record { store = number; place = place }) o) (home_from (suc number) stores t)) (same_placed s x t same ∙ ap (λ z. place_in z t) one)
home_set (y ∷ stores) (suc k) x s number t at same =
    ap (option_or (option_map (λ place. record { store = number; place = place }) (place_in y t))) (home_set stores k x s (suc number) t at same)

homes_set : (stores : List Kept) (k : ℕ) (x s : Kept) (number n : ℕ) → slice_get stores k ≡ Some x → SameTree x s → homes_from (set stores k s) number n ≡ homes_from stores number n
homes_set stores k x s number zero at same = refl
homes_set stores k x s number (suc n) at same =
    ap (λ h. h ∷ homes_from (set stores k s) (suc number) n) (home_set stores k x s 0 (record { 0 = number }) at same)
    ∙ ap (λ hs. home_of stores (record { 0 = number }) ∷ hs) (homes_set stores k x s (suc number) n at same)

-- the tree is that of the group's definition
pub form_kept : (schema : List TableDef) (tree : Tree) (x s : Kept) → IsFor schema tree x → SameTree x s → IsFor schema tree s
form_kept schema tree x s form same = record {
  table = same.table ∙ form.table;
  key = same.key ∙ form.key;
  foreign = same.foreign ∙ form.foreign;
  layers = same.layers ∙ form.layers;
}

pub housed_set : (schema : List TableDef) (groups : List Group) (stores : List Kept) (directory : List (Option Home)) (k : ℕ) (x s : Kept) (g : Group) → AreHoused schema stores directory → AreKept schema groups stores → slice_get groups k ≡ Some g → slice_get stores k ≡ Some x → IsFor schema g.def.tree x → SameTree x s
    → AreHoused schema (set stores k s) directory
housed_set schema groups stores directory k x s g housed are there at form same = record {
  homes = housed.homes ∙ sym (homes_set stores k x s 0 (length schema) at same);
  over = all_over_for schema groups (set stores k s) (kept_set schema groups stores k g s are there (form_kept schema g.def.tree x s form same));
}

-- a definition at a place
def_at : (gs hs : List Group) (k : ℕ) (h : Group) → definitions_of hs ≡ definitions_of gs → slice_get hs k ≡ Some h → (g : Group) × (slice_get gs k ≡ Some g) × (g.def ≡ h.def)
def_at [] [] k h same at = cc
def_at [] (y ∷ hs) k h same at = cc
def_at (x ∷ gs) [] k h same at = cc
def_at (x ∷ gs) (y ∷ hs) zero h same at =
    let one : y ≡ h = cc in
    let defs : x.def ≡ y.def = cc in
    (x, refl, defs ∙ ap (λ z. z.def) one)
def_at (x ∷ gs) (y ∷ hs) (suc k) h same at = let rest : definitions_of hs ≡ definitions_of gs = cc in def_at gs hs k h rest at

-- One store of a tier that stands changes: it keeps then what is shown of its group's tables, and all other tables are
-- shown as they were.
pub record ChangesStore (t new : Stored) (w w' : World) (k : ℕ) (g : Group) (s : Kept) : Type 0 where
  pub there : slice_get w.tier.groups k ≡ Some g
  pub schema : new.schema ≡ t.schema
  pub known : w'.tier.schema ≡ w.tier.schema
  pub defined : definitions_of w'.tier.groups ≡ definitions_of w.tier.groups
  pub stores : new.stores.items ≡ set t.stores.items k s
  pub form : IsFor t.schema g.def.tree s
  pub its : (u : TableId) (p : ℕ) → place_of g.def.tree u ≡ Some p → kept_at s.tables p ≡ table_at (shown_state w'.history w'.tier) u
  pub others : (u : TableId) → covers u g ≡ false → table_at (shown_state w'.history w'.tier) u ≡ table_at (shown_state w.history w.tier) u

pub shows_changed : (t new : Stored) (w w' : World) (k : ℕ) (g : Group) (s : Kept) → IsSound t → StandsFor t w → ChangesStore t new w w' k g s → ShowsRows new w'
shows_changed t new w w' k g s sound stands change =
    shows_kept new w' (change.known ∙ stands.stored.schema ∙ sym change.schema)
    (subst (λ defs. AreKept defs w'.tier.groups new.stores.items) (sym change.schema) (subst (λ ss. AreKept t.schema w'.tier.groups ss) (sym change.stores) are))
    (λ j h x u p at kept place. keep j h x u p at (ap (λ ss. slice_get ss j) (sym change.stores) ∙ kept) place (eqb_tells j k))
  where
    shown_then : TableState
    shown_then = shown_state w'.history w'.tier

    before : AreKept t.schema w.tier.groups t.stores.items
    before = are_kept t w.tier sound stands.stored

    are : AreKept t.schema w'.tier.groups (set t.stores.items k s)
    are = kept_defined t.schema w.tier.groups w'.tier.groups (set t.stores.items k s) change.defined (kept_set t.schema w.tier.groups t.stores.items k g s before change.there change.form)

    apart : (b : Bool) (u : TableId) (j : ℕ) (h0 : Group) → covers u g ≡ b → j ≢ k → slice_get w.tier.groups j ≡ Some h0 → covers u h0 ≡ true → covers u g ≡ false
    apart true u j h0 is other at c = absurd (other (one_place w.tier.groups j k h0 g u stands.stands.catalog.apart at change.there c is))
    apart false u j h0 is other at c = is

    keep : (j : ℕ) (h : Group) (x : Kept) (u : TableId) (p : ℕ) → slice_get w'.tier.groups j ≡ Some h → slice_get (set t.stores.items k s) j ≡ Some x → place_of h.def.tree u ≡ Some p
        → ((nat_eq j k ≡ true) × (j ≡ k)) ⊎ ((nat_eq j k ≡ false) × (j ≢ k)) → kept_at x.tables p ≡ table_at shown_then u
    keep j h x u p at kept place (inl same) =
        let d = def_at w.tier.groups w'.tier.groups j h change.defined at in
        let one : Some d.0 ≡ Some g = sym d.1 ∙ ap (slice_get w.tier.groups) same.1 ∙ change.there in
        let group : d.0 ≡ g = cc in
        let old = store_here t w sound stands k g change.there in
        let here : Some x ≡ Some s = sym kept ∙ ap (slice_get (set t.stores.items k s)) same.1 ∙ get_here t.stores.items k old.store s old.kept in
        let store : x ≡ s = cc in
        ap (λ y. kept_at y.tables p) store
        ∙ change.its u p (ap (λ (y : Group). place_of y.def.tree u) (sym group) ∙ ap (λ (y : GroupDef). place_of y.tree u) d.2 ∙ place)
    keep j h x u p at kept place (inr other) =
        let d = def_at w.tier.groups w'.tier.groups j h change.defined at in
        let old = ap (λ (y : GroupDef). place_of y.tree u) d.2 ∙ place in
        kept_is_shown t w sound stands j d.0 x u p d.1 (sym (get_there t.stores.items k j s other.1) ∙ kept) old
        ∙ sym (change.others u (apart (covers u g) u j d.0 refl other.1 d.1 (ap is_some old)))
