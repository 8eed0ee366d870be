-- The lists of keys of groups, and their hidden rows, place by place.
use Rattle.std.proofs.Common.{◌≡◌, ◌≤◌, ℕ, zero, suc, Bool, true, false, cond, ◌&&◌, ◌||◌, List, [], ◌∷◌, ◌++◌, length, slice_get, Option, Some, None, is_some, refl, sym, ap, subst, ◌∙◌, arith}
use Rattle.std.proofs.lemmas.List.{length-map}
use Rattle.std.specs.Bool.{MatchBool}
use Rattle.std.specs.FinMap.{contains_key, empty, get-empty, len, len-empty}
use Rattle.std.specs.List.{remove}
use Rattle.row_types.specs.Order.{key_order}
use Rattle.row_types.specs.declared.value.Value.{Value}
use Rattle.table_defs.specs.declared.definition.TableDef.{TableDef}
use Rattle.indexed_rows.specs.Rows.{Table}
use Rattle.instances.specs.Views.{kept_at}
use Rattle.slot_rows.specs.SlotKeys.{RowsHeld}
use Rattle.group_store.specs.Keeping.{primary_of}
use Rattle.group_store.specs.Stores.{HasRootKeys, Kept}
use Rattle.group_catalog.specs.Catalogs.{groups_in}
use Rattle.cache_tier.specs.declared.group.AgingRule.{AgingRule}
use Rattle.cache_tier.specs.declared.group.AgingRule.TheVariants.{ByTime, LastUse}
use Rattle.cache_tier.specs.declared.group.GroupDef.{GroupDef}
use Rattle.order_laws.proofs.TruthLaws.{both_true}
use Rattle.cache_tier.specs.Groups.{Group, definitions_of, has_list, is_key, is_read_only}
use Rattle.cache_tier.specs.Sets.{Choice, changed_from}
use Rattle.cache_tier.specs.TierStates.{Tier}
use Rattle.stored_tier.specs.declared.tier.Tier.{Tier as Stored}
use Rattle.stored_tier.specs.Filling.{is_held}
use Rattle.stored_tier.specs.Lists.{AreHiding, AreListed, HasKeysOf, IsHidingFor, IsListed, hides_keys, is_by_time, is_by_use}
use Rattle.stored_tier.specs.Stored.{AreKept, IsSound, IsStoredAs, without_list}
use Rattle.stored_tier.proofs.FillSteps.{mapped_at}

-- a group that keeps its definition

pub hides_same : (g h : Group) → h.def ≡ g.def → hides_keys h ≡ hides_keys g
hides_same g h same = ap (λ (d : GroupDef). hides_keys (record h { def = d })) same ∙ moved h g
  where
    moved : (a b : Group) → hides_keys (record a { def = b.def }) ≡ hides_keys b
    moved a b = refl

pub hiding_same : (schema : List TableDef) (g h : Group) (s : Kept) (x : RowsHeld) → h.def ≡ g.def → IsHidingFor schema g s x → IsHidingFor schema h s x
hiding_same schema g h s x same is = record {
  key = is.key ∙ ap (λ (d : GroupDef). primary_of schema d.tree.root.table) (sym same);
  room = λ hides. is.room (sym (hides_same g h same) ∙ hides);
  none = λ shows. is.none (sym (hides_same g h same) ∙ shows);
}

pub hiding_defined : (schema : List TableDef) (gs hs : List Group) (stores : List Kept) (hidden : List RowsHeld) → definitions_of hs ≡ definitions_of gs → AreHiding schema gs stores hidden → AreHiding schema hs stores hidden
hiding_defined schema [] [] stores hidden same are = are
hiding_defined schema [] (h ∷ hs) stores hidden same are = cc
hiding_defined schema (g ∷ gs) [] stores hidden same are = cc
hiding_defined schema (g ∷ gs) (h ∷ hs) stores [] same are = are
hiding_defined schema (g ∷ gs) (h ∷ hs) [] (x ∷ hidden) same are = are
hiding_defined schema (g ∷ gs) (h ∷ hs) (s ∷ stores) (x ∷ hidden) same are =
    let one : h.def ≡ g.def = cc in
    let rest : definitions_of hs ≡ definitions_of gs = cc in
    (hiding_same schema g h s x one are.0, hiding_defined schema gs hs stores hidden rest are.1)

-- place by place

pub hiding_long : (schema : List TableDef) (gs : List Group) (stores : List Kept) (hidden : List RowsHeld) → AreHiding schema gs stores hidden → length hidden ≡ length gs
hiding_long schema [] stores [] are = refl
hiding_long schema [] stores (x ∷ hidden) are = absurd are
hiding_long schema (g ∷ gs) stores [] are = absurd are
hiding_long schema (g ∷ gs) [] (x ∷ hidden) are = absurd are
hiding_long schema (g ∷ gs) (s ∷ stores) (x ∷ hidden) are = ap suc (hiding_long schema gs stores hidden are.1)

pub hiding_there : (schema : List TableDef) (gs : List Group) (stores : List Kept) (hidden : List RowsHeld) (k : ℕ) (g : Group) (s : Kept) (x : RowsHeld) → AreHiding schema gs stores hidden → slice_get gs k ≡ Some g → slice_get stores k ≡ Some s → slice_get hidden k ≡ Some x → IsHidingFor schema g s x
hiding_there schema [] stores hidden k g s x are at kept there = cc
hiding_there schema (h ∷ gs) stores [] k g s x are at kept there = absurd are
hiding_there schema (h ∷ gs) [] (y ∷ hidden) k g s x are at kept there = absurd are
hiding_there schema (h ∷ gs) (z ∷ stores) (y ∷ hidden) zero g s x are at kept there =
    let group : h ≡ g = cc in
    let store : z ≡ s = cc in
    let held : y ≡ x = cc in
    subst (λ q. IsHidingFor schema g s q) held (subst (λ q. IsHidingFor schema g q y) store (subst (λ q. IsHidingFor schema q z y) group are.0))
hiding_there schema (h ∷ gs) (z ∷ stores) (y ∷ hidden) (suc k) g s x are at kept there = hiding_there schema gs stores hidden k g s x are.1 at kept there

pub all_hiding : (schema : List TableDef) (gs : List Group) (stores : List Kept) (hidden : List RowsHeld) → length stores ≡ length gs → length hidden ≡ length gs
    → ((k : ℕ) (g : Group) (s : Kept) (x : RowsHeld) → slice_get gs k ≡ Some g → slice_get stores k ≡ Some s → slice_get hidden k ≡ Some x → IsHidingFor schema g s x) → AreHiding schema gs stores hidden
all_hiding schema [] stores [] long also each = tt
all_hiding schema [] stores (x ∷ hidden) long also each = absurd (omega (arith, also))
all_hiding schema (g ∷ gs) stores [] long also each = absurd (omega (arith, also))
all_hiding schema (g ∷ gs) [] (x ∷ hidden) long also each = absurd (omega (arith, long))
all_hiding schema (g ∷ gs) (s ∷ stores) (x ∷ hidden) long also each =
    (each 0 g s x refl refl refl, all_hiding schema gs stores hidden (omega (arith, long)) (omega (arith, also)) (λ k h z y at kept there. each (suc k) h z y at kept there))

pub listed_there : (gs : List Group) (stores : List Kept) (hidden : List RowsHeld) (k : ℕ) (g : Group) (s : Kept) (x : RowsHeld) → AreListed gs stores hidden → slice_get gs k ≡ Some g → slice_get stores k ≡ Some s → slice_get hidden k ≡ Some x → IsListed g s x.table
listed_there [] stores hidden k g s x are at kept there = cc
listed_there (h ∷ gs) [] hidden k g s x are at kept there = absurd are
listed_there (h ∷ gs) (z ∷ stores) [] k g s x are at kept there = absurd are
listed_there (h ∷ gs) (z ∷ stores) (y ∷ hidden) zero g s x are at kept there =
    let group : h ≡ g = cc in
    let store : z ≡ s = cc in
    let held : y ≡ x = cc in
    subst (λ (q : RowsHeld). IsListed g s q.table) held (subst (λ q. IsListed g q y.table) store (subst (λ q. IsListed q z y.table) group are.0))
listed_there (h ∷ gs) (z ∷ stores) (y ∷ hidden) (suc k) g s x are at kept there = listed_there gs stores hidden k g s x are.1 at kept there

pub all_listed : (gs : List Group) (stores : List Kept) (hidden : List RowsHeld) → length stores ≡ length gs → length hidden ≡ length gs
    → ((k : ℕ) (g : Group) (s : Kept) (x : RowsHeld) → slice_get gs k ≡ Some g → slice_get stores k ≡ Some s → slice_get hidden k ≡ Some x → IsListed g s x.table) → AreListed gs stores hidden
all_listed [] stores hidden long also each = tt
all_listed (g ∷ gs) [] hidden long also each = absurd (omega (arith, long))
all_listed (g ∷ gs) (s ∷ stores) [] long also each = absurd (omega (arith, also))
all_listed (g ∷ gs) (s ∷ stores) (x ∷ hidden) long also each =
    (each 0 g s x refl refl refl, all_listed gs stores hidden (omega (arith, long)) (omega (arith, also)) (λ k h z y at kept there. each (suc k) h z y at kept there))

-- groups that keep their definitions and their keys

pub listed_same : (g h : Group) (s : Kept) (hidden : Table) → h.def ≡ g.def → h.keys ≡ g.keys → IsListed g s hidden → IsListed h s hidden
listed_same g h s hidden defs keys listed =
    subst (λ d. IsListed (record h { def = d; keys = h.keys }) s hidden) (sym defs)
    (subst (λ ks. IsListed (record h { def = g.def; keys = ks }) s hidden) (sym keys) listed)

pub listed_changed : (c : Choice) (f : Group → Group) (from : ℕ) (gs : List Group) (stores : List Kept) (hidden : List RowsHeld) → ((g : Group) → (f g).def ≡ g.def) → ((g : Group) → (f g).keys ≡ g.keys) → AreListed gs stores hidden → AreListed (changed_from c f from gs) stores hidden
listed_changed c f from [] stores hidden defs keys are = tt
listed_changed c f from (g ∷ gs) [] hidden defs keys are = absurd are
listed_changed c f from (g ∷ gs) (s ∷ stores) [] defs keys are = absurd are
listed_changed c f from (g ∷ gs) (s ∷ stores) (x ∷ hidden) defs keys are =
    (by (c from g), listed_changed c f (suc from) gs stores hidden defs keys are.1)
  where
    by : (b : Bool) → IsListed (cond b (f g) g) s x.table
    by true = listed_same g (f g) s x.table (defs g) (keys g) are.0
    by false = are.0

-- as many groups as stores and hidden rows

pub grouped_long : (t : Stored) (a : Tier) → IsStoredAs t a → length a.groups ≡ length (groups_in t.catalog)
grouped_long t a is = sym (length-map a.groups without_list) ∙ ap length is.groups

pub kept_long : (schema : List TableDef) (groups : List Group) (stores : List Kept) → AreKept schema groups stores → length stores ≡ length groups
kept_long schema [] [] kept = refl
kept_long schema [] (s ∷ stores) kept = absurd kept
kept_long schema (g ∷ groups) [] kept = absurd kept
kept_long schema (g ∷ groups) (s ∷ stores) kept = ap suc (kept_long schema groups stores kept.1)

pub stores_long : (t : Stored) (a : Tier) → IsSound t → IsStoredAs t a → length t.stores.items ≡ length a.groups
stores_long t a sound is = kept_long t.schema (groups_in t.catalog) t.stores.items sound.kept ∙ sym (grouped_long t a is)

pub hidden_long : (t : Stored) (a : Tier) → IsSound t → IsStoredAs t a → length t.hidden.items ≡ length a.groups
hidden_long t a sound is = hiding_long t.schema (groups_in t.catalog) t.stores.items t.hidden.items sound.hiding ∙ sym (grouped_long t a is)

pub no_rows_fit : (t : Table) (spare : ℕ) → t ≡ empty → len t ≤ spare
no_rows_fit t spare e = let none : len t ≡ 0 = ap len e ∙ len-empty key_order (List Value) in omega (arith, none)

-- one more, and one less

pub hiding_more : (schema : List TableDef) (gs : List Group) (stores : List Kept) (hidden : List RowsHeld) (g : Group) (s : Kept) (x : RowsHeld) → AreHiding schema gs stores hidden → length stores ≡ length gs → IsHidingFor schema g s x → AreHiding schema (gs ++ g ∷ []) (stores ++ s ∷ []) (hidden ++ x ∷ [])
hiding_more schema [] [] [] g s x are long one = (one, tt)
hiding_more schema [] (y ∷ stores) [] g s x are long one = absurd (omega (arith, long))
hiding_more schema [] stores (y ∷ hidden) g s x are long one = absurd are
hiding_more schema (h ∷ gs) stores [] g s x are long one = absurd are
hiding_more schema (h ∷ gs) [] (y ∷ hidden) g s x are long one = absurd are
hiding_more schema (h ∷ gs) (z ∷ stores) (y ∷ hidden) g s x are long one = (are.0, hiding_more schema gs stores hidden g s x are.1 (omega (arith, long)) one)

pub listed_more : (gs : List Group) (stores : List Kept) (hidden : List RowsHeld) (g : Group) (s : Kept) (x : RowsHeld) → AreListed gs stores hidden → length stores ≡ length gs → length hidden ≡ length gs → IsListed g s x.table → AreListed (gs ++ g ∷ []) (stores ++ s ∷ []) (hidden ++ x ∷ [])
listed_more [] [] [] g s x are long also one = (one, tt)
listed_more [] (y ∷ stores) hidden g s x are long also one = absurd (omega (arith, long))
listed_more [] [] (y ∷ hidden) g s x are long also one = absurd (omega (arith, also))
listed_more (h ∷ gs) [] hidden g s x are long also one = absurd are
listed_more (h ∷ gs) (z ∷ stores) [] g s x are long also one = absurd are
listed_more (h ∷ gs) (z ∷ stores) (y ∷ hidden) g s x are long also one = (are.0, listed_more gs stores hidden g s x are.1 (omega (arith, long)) (omega (arith, also)) one)

pub hiding_less : (schema : List TableDef) (gs : List Group) (stores : List Kept) (hidden : List RowsHeld) (p : ℕ) → AreHiding schema gs stores hidden → length stores ≡ length gs → AreHiding schema (remove gs p) (remove stores p) (remove hidden p)
hiding_less schema [] [] [] zero are long = tt
hiding_less schema [] [] [] (suc p) are long = tt
hiding_less schema [] (y ∷ stores) [] p are long = absurd (omega (arith, long))
hiding_less schema [] stores (y ∷ hidden) p are long = absurd are
hiding_less schema (h ∷ gs) stores [] p are long = absurd are
hiding_less schema (h ∷ gs) [] (y ∷ hidden) p are long = absurd are
hiding_less schema (h ∷ gs) (z ∷ stores) (y ∷ hidden) zero are long = are.1
hiding_less schema (h ∷ gs) (z ∷ stores) (y ∷ hidden) (suc p) are long = (are.0, hiding_less schema gs stores hidden p are.1 (omega (arith, long)))

pub listed_less : (gs : List Group) (stores : List Kept) (hidden : List RowsHeld) (p : ℕ) → AreListed gs stores hidden → AreListed (remove gs p) (remove stores p) (remove hidden p)
listed_less [] stores hidden zero are = tt
listed_less [] stores hidden (suc p) are = tt
listed_less (h ∷ gs) [] hidden p are = absurd are
listed_less (h ∷ gs) (z ∷ stores) [] p are = absurd are
listed_less (h ∷ gs) (z ∷ stores) (y ∷ hidden) zero are = are.1
listed_less (h ∷ gs) (z ∷ stores) (y ∷ hidden) (suc p) are = (are.0, listed_less gs stores hidden p are.1)

-- the list of a group without instances
pub none_listed : (g : Group) (s : Kept) (hidden : Table) → g.keys ≡ [] → s.keys ≡ [] → hidden ≡ empty → IsListed g s hidden
none_listed g s hidden none also no_rows = by (has_list g && is_by_use g.def.aging) g.def.dynamic
  where
    keys : HasKeysOf g.keys s hidden
    keys k = ap (λ l. is_key l k) none ∙ sym (λ i. is_key (also i) k || (ap (λ (t : Table). contains_key t k) no_rows ∙ ap is_some (get-empty key_order k)) i)

    by : (leaves dynamic : Bool) → MatchBool leaves (g.keys ≡ s.keys) (MatchBool dynamic (HasKeysOf g.keys s hidden) (Unit {0}))
    by true dynamic = none ∙ sym also
    by false true = keys
    by false false = tt

-- the keys of the list of a dynamic group are those of its root rows, and the hidden ones

use_not_time : (o : Option AgingRule) → is_by_use o ≡ true → is_by_time o ≡ false
use_not_time None e = refl
use_not_time (Some LastUse) e = refl
use_not_time (Some (ByTime rule)) e = cc

and_false : (a b : Bool) → b ≡ false → (a && b) ≡ false
and_false true b e = e
and_false false b e = refl

or_false : (a b : Bool) → b ≡ false → (a || b) ≡ a
or_false true b e = refl
or_false false b e = e

pub by_use_hides_none : (g : Group) → is_by_use g.def.aging ≡ true → hides_keys g ≡ false
by_use_hides_none g leaves = and_false (is_read_only g && g.def.dynamic) (is_by_time g.def.aging) (use_not_time g.def.aging leaves)

pub keys_held : (schema : List TableDef) (g : Group) (s : Kept) (x : RowsHeld) → IsListed g s x.table → IsHidingFor schema g s x → HasRootKeys s → g.def.dynamic ≡ true → (k : List Value) → is_key g.keys k ≡ is_held s x.table k
keys_held schema g s x listed hiding has dynamic k = by (has_list g && is_by_use g.def.aging) refl listed
  where
    none : is_by_use g.def.aging ≡ true → contains_key x.table k ≡ false
    none leaves = ap (λ (t : Table). contains_key t k) (hiding.none (by_use_hides_none g leaves)) ∙ ap is_some (get-empty key_order k)

    by : (b : Bool) → (has_list g && is_by_use g.def.aging) ≡ b → MatchBool b (g.keys ≡ s.keys) (MatchBool g.def.dynamic (HasKeysOf g.keys s x.table) (Unit {0})) → is_key g.keys k ≡ is_held s x.table k
    by true leaves same = ap (λ l. is_key l k) same ∙ has.are k ∙ sym (or_false (contains_key (kept_at s.tables 0) k) (contains_key x.table k) (none (both_true (has_list g) (is_by_use g.def.aging) leaves).1))
    by false leaves keys =
        let of : HasKeysOf g.keys s x.table = subst (λ d. MatchBool d (HasKeysOf g.keys s x.table) (Unit {0})) dynamic keys in
        of k ∙ ap (λ b. b || contains_key x.table k) (has.are k)

-- what is stored of the group at a place

pub store_kept : (t : Stored) (place : ℕ) (g : Group) → IsSound t → slice_get (groups_in t.catalog) place ≡ Some g → (s : Kept) × (slice_get t.stores.items place ≡ Some s)
store_kept t place g sound at = by (groups_in t.catalog) t.stores.items place sound.kept at
  where
    by : (gs : List Group) (stores : List Kept) (k : ℕ) → AreKept t.schema gs stores → slice_get gs k ≡ Some g → (s : Kept) × (slice_get stores k ≡ Some s)
    by [] stores k kept there = cc
    by (h ∷ gs) [] k kept there = absurd kept
    by (h ∷ gs) (s ∷ stores) zero kept there = (s, refl)
    by (h ∷ gs) (s ∷ stores) (suc k) kept there = by gs stores k kept.1 there

pub hidden_kept : (t : Stored) (place : ℕ) (g : Group) → IsSound t → slice_get (groups_in t.catalog) place ≡ Some g → (x : RowsHeld) × (slice_get t.hidden.items place ≡ Some x)
hidden_kept t place g sound at = by (groups_in t.catalog) t.stores.items t.hidden.items place sound.hiding at
  where
    by : (gs : List Group) (stores : List Kept) (hidden : List RowsHeld) (k : ℕ) → AreHiding t.schema gs stores hidden → slice_get gs k ≡ Some g → (x : RowsHeld) × (slice_get hidden k ≡ Some x)
    by [] stores hidden k are there = cc
    by (h ∷ gs) stores [] k are there = absurd are
    by (h ∷ gs) [] (x ∷ hidden) k are there = absurd are
    by (h ∷ gs) (s ∷ stores) (x ∷ hidden) zero are there = (x, refl)
    by (h ∷ gs) (s ∷ stores) (x ∷ hidden) (suc k) are there = by gs stores hidden k are.1 there

pub hides_there : (t : Stored) (a : Tier) (place : ℕ) (g : Group) (s : Kept) (x : RowsHeld) → IsSound t → IsStoredAs t a → slice_get a.groups place ≡ Some g → slice_get t.stores.items place ≡ Some s → slice_get t.hidden.items place ≡ Some x → IsHidingFor t.schema g s x
hides_there t a place g s x sound is at kept there =
    let bare = ap (λ l. slice_get l place) (sym is.groups) ∙ mapped_at without_list a.groups place g at in
    let hiding = hiding_there t.schema (groups_in t.catalog) t.stores.items t.hidden.items place (without_list g) s x sound.hiding bare kept there in
    hiding_same t.schema (without_list g) g s x refl hiding

pub group_kept : (t : Stored) (a : Tier) (place : ℕ) (g : Group) → IsStoredAs t a → slice_get a.groups place ≡ Some g → slice_get (groups_in t.catalog) place ≡ Some (without_list g)
group_kept t a place g is at = ap (λ l. slice_get l place) (sym is.groups) ∙ mapped_at without_list a.groups place g at

pub no_store : (t : Stored) (a : Tier) (place : ℕ) (g : Group) → IsSound t → IsStoredAs t a → slice_get a.groups place ≡ Some g → None ≡ slice_get t.stores.items place → ⊥
no_store t a place g sound is at none =
    let s = store_kept t place (without_list g) sound (group_kept t a place g is at) in
    let both : None ≡ Some s.0 = none ∙ s.1 in cc

pub no_hidden : (t : Stored) (a : Tier) (place : ℕ) (g : Group) → IsSound t → IsStoredAs t a → slice_get a.groups place ≡ Some g → None ≡ slice_get t.hidden.items place → ⊥
no_hidden t a place g sound is at none =
    let s = hidden_kept t place (without_list g) sound (group_kept t a place g is at) in
    let both : None ≡ Some s.0 = none ∙ s.1 in cc

-- its keys
pub stored_keys : (t : Stored) (a : Tier) (place : ℕ) (g : Group) (s : Kept) (x : RowsHeld) → IsSound t → IsStoredAs t a → slice_get a.groups place ≡ Some g → slice_get t.stores.items place ≡ Some s → slice_get t.hidden.items place ≡ Some x → HasRootKeys s → g.def.dynamic ≡ true
    → (k : List Value) → is_key g.keys k ≡ is_held s x.table k
stored_keys t a place g s x sound is at kept there has dynamic k =
    keys_held t.schema g s x (listed_there a.groups t.stores.items t.hidden.items place g s x is.lists at kept there) (hides_there t a place g s x sound is at kept there) has dynamic k
