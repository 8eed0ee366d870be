-- Groups in order stay so where one comes, some leave, or flags change.
use Rattle.std.proofs.Common.{◌≡◌, ◌∙◌, ℕ, zero, suc, Bool, true, false, cond, not, ◌&&◌, ◌||◌, Some, is_none, List, [], ◌∷◌, ◌++◌, map, slice_get, refl, sym, ap, subst}
use Rattle.std.specs.List.{filter, list_all, list_any}
use Rattle.std.proofs.lemmas.Cmp.{nat_list_eq_equiv}
use Rattle.std.proofs.lemmas.List.Folds.{list_all-append, list_any-append}
use Rattle.std.proofs.lemmas.Slice.Eq.{bytes_eq-Decides}
use Rattle.tier_base.specs.declared.number.TableId.{TableId}
use Rattle.table_defs.specs.Names.{same_name}
use Rattle.table_defs.specs.declared.definition.TableDef.{TableDef}
use Rattle.sql_subset.specs.declared.stmt.RefreshState.{RefreshState}
use Rattle.order_laws.proofs.TruthLaws.{both_true, never_both, not_both}
use Rattle.cache_tier.specs.AlterSteps.{with_state}
use Rattle.cache_tier.specs.Definitions.{defined_by, new_group}
use Rattle.cache_tier.specs.Groups.{Group, covers, defines_name, definitions_of, is_called, is_defined_on}
use Rattle.cache_tier.specs.Journals.{Commits, Defines, Drops, JournalEntry, Marks, Numbers, Prepares, SetsLoaded, SetsState}
use Rattle.cache_tier.specs.Undone.{is_user_managed}
use Rattle.cache_tier.specs.StandingBetween.{Each, HasNoTableOf, HaveOwnTables, IsCatalogued}
use Rattle.cache_tier.specs.declared.group.GroupDef.{GroupDef}
use Rattle.cache_tier.proofs.GroupTables.{each_changed, each_last, each_left}
use Rattle.group_catalog.specs.ReadBack.{StandsReadBack, read_back_fault}
use Rattle.recovery.specs.Recalling.{with_loaded}
use Rattle.recovery.proofs.FoldLaws.{any_filter}
use Rattle.recalling.specs.Fitting.{fits}
use Rattle.recalling.specs.Recalled.{AreInOrder, IsBare}
use Rattle.group_catalog.specs.Catalogs.{HaveOwnNames, is_plain}
use Rattle.recalling.specs.Steps.{AreNamedApart, Moves}

-- groups in order, with their names apart from left to right
pub record IsOrdered (schema : List TableDef) (groups : List Group) : Type 0 where
  pub each : Each (IsCatalogued schema) groups
  pub apart : HaveOwnTables groups
  pub named : AreNamedApart groups
  pub plain : list_all is_plain groups ≡ true
  pub bare : Each IsBare groups

-- ---- names by place

named_at : (groups : List Group) (i : ℕ) (h : Group) (name : List ℕ) → slice_get groups i ≡ Some h → h.def.name ≡ name → list_any (is_called name) groups ≡ true
named_at [] i h name at same = cc
named_at (g ∷ groups) zero h name at same =
    let one : g ≡ h = cc in
    ap (λ b. b || list_any (is_called name) groups) (ap (λ (y : Group). same_name y.def.name name) one ∙ (bytes_eq-Decides h.def.name name).1 same)
named_at (g ∷ groups) (suc i) h name at same = by (is_called name g) (named_at groups i h name at same)
  where
    by : (b : Bool) → list_any (is_called name) groups ≡ true → (b || list_any (is_called name) groups) ≡ true
    by true rest = refl
    by false rest = rest

own_names : (groups : List Group) → AreNamedApart groups → HaveOwnNames groups
own_names [] apart i j g h at there same = cc
own_names (x ∷ groups) apart zero zero g h at there same = refl
own_names (x ∷ groups) apart zero (suc j) g h at there same =
    let one : x ≡ g = cc in
    absurd (never_both (list_any (is_called x.def.name) groups) (named_at groups j h x.def.name there (sym same ∙ ap (λ (y : Group). y.def.name) (sym one))) apart.0)
own_names (x ∷ groups) apart (suc i) zero g h at there same =
    let one : x ≡ h = cc in
    absurd (never_both (list_any (is_called x.def.name) groups) (named_at groups i g x.def.name at (same ∙ ap (λ (y : Group). y.def.name) (sym one))) apart.0)
own_names (x ∷ groups) apart (suc i) (suc j) g h at there same = ap suc (own_names groups apart.1 i j g h at there same)

pub in_order : (schema : List TableDef) (groups : List Group) → IsOrdered schema groups → AreInOrder schema groups
in_order schema groups o = record { each = o.each; apart = o.apart; named = own_names groups o.named; plain = o.plain; bare = o.bare }

pub none_ordered : (schema : List TableDef) (groups : List Group) → groups ≡ [] → IsOrdered schema groups
none_ordered schema groups none = subst (IsOrdered schema) (sym none) (record { each = tt; apart = tt; named = tt; plain = refl; bare = tt })

-- ---- some groups leave

own_left : (q : Group → Bool) (groups : List Group) → HaveOwnTables groups → HaveOwnTables (filter q groups)
own_left q [] own = tt
own_left q (g ∷ groups) own = by (q g) (own_left q groups own.1)
  where
    by : (b : Bool) → HaveOwnTables (filter q groups) → HaveOwnTables (cond b (g ∷ filter q groups) (filter q groups))
    by true rest = (λ u e. any_filter (covers u) q groups (own.0 u e), rest)
    by false rest = rest

names_left : (q : Group → Bool) (groups : List Group) → AreNamedApart groups → AreNamedApart (filter q groups)
names_left q [] apart = tt
names_left q (g ∷ groups) apart = by (q g) (names_left q groups apart.1)
  where
    by : (b : Bool) → AreNamedApart (filter q groups) → AreNamedApart (cond b (g ∷ filter q groups) (filter q groups))
    by true rest = (any_filter (is_called g.def.name) q groups apart.0, rest)
    by false rest = rest

plain_left : (q : Group → Bool) (groups : List Group) → list_all is_plain groups ≡ true → list_all is_plain (filter q groups) ≡ true
plain_left q [] all = refl
plain_left q (g ∷ groups) all =
    let (first, rest) = both_true (is_plain g) (list_all is_plain groups) all in
    by (q g) first (plain_left q groups rest)
  where
    by : (b : Bool) → is_plain g ≡ true → list_all is_plain (filter q groups) ≡ true → list_all is_plain (cond b (g ∷ filter q groups) (filter q groups)) ≡ true
    by true first rest = λ i. first i && rest i
    by false first rest = rest

ordered_left : (schema : List TableDef) (q : Group → Bool) (groups : List Group) → IsOrdered schema groups → IsOrdered schema (filter q groups)
ordered_left schema q groups o = record {
  each = each_left (IsCatalogued schema) q groups o.each;
  apart = own_left q groups o.apart;
  named = names_left q groups o.named;
  plain = plain_left q groups o.plain;
  bare = each_left IsBare q groups o.bare;
}

-- ---- some groups change, but not in what is defined

record IsSteady (schema : List TableDef) (change : Group → Group) : Type 0 where
  def : (g : Group) → (change g).def ≡ g.def
  catalogued : (g : Group) → IsCatalogued schema g → IsCatalogued schema (change g)
  bare : (g : Group) → IsBare g → IsBare (change g)

steady_state : (schema : List TableDef) (state : RefreshState) → IsSteady schema (with_state state)
steady_state schema state = record {
  def = λ g. refl;
  catalogued = λ g x. record { sound = x.sound; plain = x.plain; free = x.free };
  bare = λ g x. record { keys = x.keys; position = x.position; horizon = x.horizon };
}

steady_loaded : (schema : List TableDef) (flag : Bool) → IsSteady schema (with_loaded flag)
steady_loaded schema flag = record {
  def = λ g. refl;
  catalogued = λ g x. record { sound = x.sound; plain = x.plain; free = x.free };
  bare = λ g x. record { keys = x.keys; position = x.position; horizon = x.horizon };
}

steady_where : (schema : List TableDef) (change : Group → Group) (test : Group → Bool) → IsSteady schema change → IsSteady schema (λ g. cond (test g) (change g) g)
steady_where schema change test steady = record {
  def = λ g. def g (test g);
  catalogued = λ g x. catalogued g x (test g);
  bare = λ g x. bare g x (test g);
}
  where
    def : (g : Group) (b : Bool) → (cond b (change g) g).def ≡ g.def
    def g true = steady.def g
    def g false = refl

    catalogued : (g : Group) → IsCatalogued schema g → (b : Bool) → IsCatalogued schema (cond b (change g) g)
    catalogued g x true = steady.catalogued g x
    catalogued g x false = x

    bare : (g : Group) → IsBare g → (b : Bool) → IsBare (cond b (change g) g)
    bare g x true = steady.bare g x
    bare g x false = x

module _ (schema : List TableDef) (change : Group → Group) (steady : IsSteady schema change) where
  any_covers : (u : TableId) (groups : List Group) → list_any (covers u) (map change groups) ≡ list_any (covers u) groups
  any_covers u [] = refl
  any_covers u (g ∷ groups) = λ i. is_defined_on u (steady.def g i) || any_covers u groups i

  any_called : (name : List ℕ) (groups : List Group) → list_any (is_called name) (map change groups) ≡ list_any (is_called name) groups
  any_called name [] = refl
  any_called name (g ∷ groups) = λ i. defines_name name (steady.def g i) || any_called name groups i

  own_changed : (groups : List Group) → HaveOwnTables groups → HaveOwnTables (map change groups)
  own_changed [] own = tt
  own_changed (g ∷ groups) own = (
    λ u e. any_covers u groups ∙ own.0 u (sym (ap (is_defined_on u) (steady.def g)) ∙ e),
    own_changed groups own.1,
  )

  names_changed : (groups : List Group) → AreNamedApart groups → AreNamedApart (map change groups)
  names_changed [] apart = tt
  names_changed (g ∷ groups) apart = (
    ap (λ (d : GroupDef). list_any (is_called d.name) (map change groups)) (steady.def g) ∙ any_called g.def.name groups ∙ apart.0,
    names_changed groups apart.1,
  )

  plain_changed : (groups : List Group) → list_all is_plain (map change groups) ≡ list_all is_plain groups
  plain_changed [] = refl
  plain_changed (g ∷ groups) = λ i. not (is_user_managed (steady.def g i).kind) && plain_changed groups i

  ordered_changed : (groups : List Group) → IsOrdered schema groups → IsOrdered schema (map change groups)
  ordered_changed groups o = record {
    each = each_changed (IsCatalogued schema) (IsCatalogued schema) change steady.catalogued groups o.each;
    apart = own_changed groups o.apart;
    named = names_changed groups o.named;
    plain = plain_changed groups ∙ o.plain;
    bare = each_changed IsBare IsBare change steady.bare groups o.bare;
  }

-- ---- a group comes

own_last : (groups : List Group) (g : Group) → HaveOwnTables groups → HasNoTableOf groups g → HaveOwnTables (groups ++ g ∷ [])
own_last [] g own apart = (λ u e. refl, tt)
own_last (h ∷ groups) g own apart = (λ u e. list_any-append (covers u) groups (g ∷ []) ∙ (λ i. own.0 u e i || (not_new u e i || false)), own_last groups g own.1 rest)
  where
    not_new : (u : TableId) → covers u h ≡ true → covers u g ≡ false
    not_new u e = not_both (covers u g) (λ c. never_both (covers u h || list_any (covers u) groups) (ap (λ b. b || list_any (covers u) groups) e) (apart u c))

    rest : HasNoTableOf groups g
    rest u c = right (covers u h) (list_any (covers u) groups) (apart u c)
      where
        right : (a b : Bool) → (a || b) ≡ false → b ≡ false
        right true b e = cc
        right false b e = e

none_defined : (name : List ℕ) (groups : List Group) → list_any (defines_name name) (definitions_of groups) ≡ list_any (is_called name) groups
none_defined name [] = refl
none_defined name (g ∷ groups) = ap (λ b. defines_name name g.def || b) (none_defined name groups)

names_last : (groups : List Group) (g : Group) → AreNamedApart groups → list_any (is_called g.def.name) groups ≡ false → AreNamedApart (groups ++ g ∷ [])
names_last [] g apart none = (refl, tt)
names_last (h ∷ groups) g apart none = by (is_called g.def.name h) refl none (names_last groups g apart.1)
  where
    by : (b : Bool) → is_called g.def.name h ≡ b → (b || list_any (is_called g.def.name) groups) ≡ false → (list_any (is_called g.def.name) groups ≡ false → AreNamedApart (groups ++ g ∷ [])) → AreNamedApart ((h ∷ groups) ++ g ∷ [])
    by true e none rest = cc
    by false e none rest = (
      list_any-append (is_called h.def.name) groups (g ∷ []) ∙ (λ i. apart.0 i || ((nat_list_eq_equiv.symm g.def.name h.def.name ∙ e) i || false)),
      rest none,
    )

-- ---- an entry that fits

moved : (schema : List TableDef) (groups groups' : List Group) → groups' ≡ groups → IsOrdered schema groups → IsOrdered schema groups'
moved schema groups groups' same o = subst (IsOrdered schema) (sym same) o

pub ordered_more : StandsReadBack → (schema : List TableDef) (moment above : ℕ) (e : JournalEntry) (groups groups' : List Group) → fits schema groups above e ≡ true
    → Moves schema moment above e groups groups' → IsOrdered schema groups → IsOrdered schema groups'
ordered_more law schema moment above (Commits s) groups groups' fit m o = moved schema groups groups' m o
ordered_more law schema moment above (Prepares s) groups groups' fit m o = moved schema groups groups' m o
ordered_more law schema moment above (Numbers t) groups groups' fit m o = moved schema groups groups' m o
ordered_more law schema moment above (Marks n) groups groups' fit m o = moved schema groups groups' m o
ordered_more law schema moment above (Drops name) groups groups' fit m o = moved schema _ groups' m (ordered_left schema (λ g. not (is_called name g)) groups o)
ordered_more law schema moment above (SetsState name state) groups groups' fit m o =
    moved schema _ groups' m (ordered_changed schema (λ g. cond (is_called name g) (with_state state g) g) (steady_where schema (with_state state) (is_called name) (steady_state schema state)) groups o)
ordered_more law schema moment above (SetsLoaded name flag) groups groups' fit m o =
    moved schema _ groups' m (ordered_changed schema (λ g. cond (is_called name g) (with_loaded flag g) g) (steady_where schema (with_loaded flag) (is_called name) (steady_loaded schema flag)) groups o)
ordered_more law schema moment above (Defines d text) groups groups' fit m o =
    let g : Group = new_group above moment d (defined_by schema d m.tree) in
    let stands = law schema groups d m.tree m.back above moment in
    let (fault, done) = both_true (is_none (read_back_fault schema (definitions_of groups) d)) (not (is_user_managed d.kind)) fit in
    let plain : is_plain g ≡ true = done in
    moved schema (groups ++ g ∷ []) groups' m.left (record {
      each = each_last (IsCatalogued schema) groups g o.each stands.sound;
      apart = own_last groups g o.apart stands.apart;
      named = names_last groups g o.named (sym (none_defined d.name groups) ∙ stands.named);
      plain = list_all-append is_plain groups (g ∷ []) ∙ (λ i. o.plain i && (plain i && true));
      bare = each_last IsBare groups g o.bare (record { keys = refl; position = refl; horizon = refl });
    })
