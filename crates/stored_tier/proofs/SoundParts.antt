-- What holds of the parts behind stores that were exchanged, and groups that keep their definitions.
use Rattle.std.proofs.Common.{◌≡◌, ℕ, zero, suc, Bool, true, false, cond, not, ◌&&◌, ◌||◌, Option, Some, List, [], ◌∷◌, length, slice_get, refl, sym, ap, ◌∙◌}
use Rattle.std.specs.List.{list_all}
use Rattle.std.specs.Option.{option_map, option_or}
use Rattle.tier_base.specs.declared.number.TableId.{TableId}
use Rattle.table_defs.specs.declared.definition.TableDef.{TableDef}
use Rattle.group_store.specs.Shown.{AreHoused, home_from, home_of, homes_from}
use Rattle.group_store.specs.Stores.{Kept, place_in}
use Rattle.group_store.specs.declared.directory.Home.{Home}
use Rattle.cache_tier.specs.declared.group.GroupDef.{GroupDef}
use Rattle.cache_tier.specs.Groups.{Group, definitions_of, is_defined_on, is_table_of}
use Rattle.cache_tier.specs.Routes.{hidden_where}
use Rattle.cache_tier.specs.Sets.{Choice, changed_from}
use Rattle.group_catalog.specs.Catalogs.{groups_in}
use Rattle.group_catalog.specs.declared.catalog.Catalog.{Catalog}
use Rattle.stored_tier.specs.declared.tier.Tier.{Tier as Stored}
use Rattle.stored_tier.specs.Stored.{AreKept, IsSound, named_where_cached}
use Rattle.group_catalog.specs.Catalogs.{HaveOwnNames, is_plain}
use Rattle.stored_tier.proofs.LaterLaws.{later_by}
use Rattle.stored_tier.proofs.ListLaws.{hiding_defined}
use Rattle.stored_tier.proofs.StoreChanges.{all_over_for, kept_defined}
use Rattle.stored_tier.proofs.StoreRows.{place_same}

-- groups that keep their definitions

pub changed_defs : (c : Choice) (f : Group → Group) (from : ℕ) (groups : List Group) → ((g : Group) → (f g).def ≡ g.def) → definitions_of (changed_from c f from groups) ≡ definitions_of groups
changed_defs c f from [] same = refl
changed_defs c f from (x ∷ groups) same =
    let first : (cond (c from x) (f x) x).def ≡ x.def = by (c from x) in
    let rest = changed_defs c f (suc from) groups same in
    λ i. first i ∷ rest i
  where
    by : (b : Bool) → (cond b (f x) x).def ≡ x.def
    by true = same x
    by false = refl

plain_by : (gs hs : List Group) → definitions_of hs ≡ definitions_of gs → list_all is_plain gs ≡ true → list_all is_plain hs ≡ true
plain_by [] [] same all = refl
plain_by [] (h ∷ hs) same all = cc
plain_by (g ∷ gs) [] same all = cc
plain_by (g ∷ gs) (h ∷ hs) same all =
    let first : h.def ≡ g.def = cc in
    let rest : definitions_of hs ≡ definitions_of gs = cc in
    let both = Rattle.order_laws.proofs.TruthLaws.both_true (is_plain g) (list_all is_plain gs) all in
    let one : is_plain h ≡ true = ap (λ d. is_plain (record h { def = d })) first ∙ moved h g ∙ both.0 in
    λ i. one i && plain_by gs hs rest both.1 i
  where
    moved : (a b : Group) → is_plain (record a { def = b.def }) ≡ is_plain b
    moved a b = refl

pub all_plain : (gs hs : List Group) → definitions_of hs ≡ definitions_of gs → list_all is_plain gs ≡ true → list_all is_plain hs ≡ true
all_plain gs hs same all = plain_by gs hs same all

tables_by : (gs hs : List Group) (u : TableId) → definitions_of hs ≡ definitions_of gs → is_table_of (λ g. true) hs u ≡ is_table_of (λ g. true) gs u
tables_by [] [] u same = refl
tables_by [] (h ∷ hs) u same = cc
tables_by (g ∷ gs) [] u same = cc
tables_by (g ∷ gs) (h ∷ hs) u same =
    let first : h.def ≡ g.def = cc in
    let rest : definitions_of hs ≡ definitions_of gs = cc in
    λ i. is_defined_on u (first i) || tables_by gs hs u rest i

hidden_by : (p q : TableId → Bool) (from : ℕ) (defs : List TableDef) → ((u : TableId) → p u ≡ q u) → hidden_where p from defs ≡ hidden_where q from defs
hidden_by p q from [] same = refl
hidden_by p q from (d ∷ defs) same =
    let here = same (record { 0 = from }) in
    let rest = hidden_by p q (suc from) defs same in
    λ i. cond (here i) (record d { name = [] }) d ∷ rest i

pub visible_by : (gs hs : List Group) (schema : List TableDef) → definitions_of hs ≡ definitions_of gs → named_where_cached hs schema ≡ named_where_cached gs schema
visible_by gs hs schema same = hidden_by (λ table. not (is_table_of (λ g. true) hs table)) (λ table. not (is_table_of (λ g. true) gs table)) 0 schema (λ u. ap not (tables_by gs hs u same))

def_there : (gs hs : List Group) (k : ℕ) (h : Group) → definitions_of hs ≡ definitions_of gs → slice_get hs k ≡ Some h → (g : Group) × (slice_get gs k ≡ Some g) × (g.def ≡ h.def)
def_there gs [] k h same at = cc
def_there [] (y ∷ hs) k h same at = cc
def_there (x ∷ gs) (y ∷ hs) zero h same at =
    let one : y ≡ h = cc in
    let first : y.def ≡ x.def = cc in
    (x, refl, sym first ∙ ap (λ (z : Group). z.def) one)
def_there (x ∷ gs) (y ∷ hs) (suc k) h same at = let rest : definitions_of hs ≡ definitions_of gs = cc in def_there gs hs k h rest at

-- stores that keep their tables

home_same : (schema : List TableDef) (groups : List Group) (stores others : List Kept) (n : ℕ) (t : TableId) → AreKept schema groups stores → AreKept schema groups others → home_from n others t ≡ home_from n stores t
home_same schema [] [] [] n t kept then_ = refl
home_same schema [] [] (o ∷ others) n t kept then_ = absurd then_
home_same schema [] (s ∷ stores) others n t kept then_ = absurd kept
home_same schema (g ∷ groups) [] others n t kept then_ = absurd kept
home_same schema (g ∷ groups) (s ∷ stores) [] n t kept then_ = absurd then_
home_same schema (g ∷ groups) (s ∷ stores) (o ∷ others) n t kept then_ =
    let here : place_in o t ≡ place_in s t = place_same schema g.def.tree o then_.0 t ∙ sym (place_same schema g.def.tree s kept.0 t) in
    let rest = home_same schema groups stores others (suc n) t kept.1 then_.1 in
    λ i. option_or (option_map (λ place. record { store = n; place = place }) (here i)) (rest i)

homes_same : (stores others : List Kept) (from n : ℕ) → ((t : TableId) → home_of others t ≡ home_of stores t) → homes_from others from n ≡ homes_from stores from n
homes_same stores others from zero same = refl
homes_same stores others from (suc n) same =
    let here = same (record { 0 = from }) in
    let rest = homes_same stores others (suc from) n same in
    λ i. here i ∷ rest i

pub housed_exchanged : (schema : List TableDef) (groups : List Group) (stores others : List Kept) (directory : List (Option Home)) → AreHoused schema stores directory → AreKept schema groups stores → AreKept schema groups others → AreHoused schema others directory
housed_exchanged schema groups stores others directory housed kept then_ = record {
  homes = housed.homes ∙ sym (homes_same stores others 0 (length schema) (λ t. home_same schema groups stores others 0 t kept then_));
  over = all_over_for schema groups others then_;
}

pub named_by : (gs hs : List Group) → definitions_of hs ≡ definitions_of gs → HaveOwnNames gs → HaveOwnNames hs
named_by gs hs same named i j g h at there names =
    let (a, a_at, a_def) = def_there gs hs i g same at in
    let (b, b_at, b_def) = def_there gs hs j h same there in
    named i j a b a_at b_at (ap (λ (d : GroupDef). d.name) a_def ∙ names ∙ ap (λ (d : GroupDef). d.name) (sym b_def))

-- groups that keep their definitions come in the place of others
pub sound_regrouped : (t : Stored) (catalog : Catalog) → IsSound t → definitions_of (groups_in catalog) ≡ definitions_of (groups_in t.catalog) → IsSound (record t { catalog = catalog })
sound_regrouped t catalog s defs = record {
  sessions = s.sessions;
  stores = s.stores;
  kept = kept_defined t.schema (groups_in t.catalog) (groups_in catalog) t.stores.items defs s.kept;
  whole = s.whole;
  hiding = hiding_defined t.schema (groups_in t.catalog) (groups_in catalog) t.stores.items t.hidden.items defs s.hiding;
  plain = all_plain (groups_in t.catalog) (groups_in catalog) defs s.plain;
  named = named_by (groups_in t.catalog) (groups_in catalog) defs s.named;
  visible = s.visible ∙ sym (visible_by (groups_in t.catalog) (groups_in catalog) t.schema defs);
  numbered = s.numbered;
  later = later_by (groups_in t.catalog) (groups_in catalog) t.unsettled.items defs s.later;
  writers = s.writers;
  verified = λ e. record { rows = (s.verified e).rows; own = (s.verified e).own };
}
