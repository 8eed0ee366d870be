-- What a slot begins with leaves the tier's catalog.
use Rattle.std.proofs.Common.{◌≡◌, ℕ, Bool, true, false, cond, not, ◌||◌, Option, Some, None, List, [], ◌∷◌, ◌++◌, map, refl, sym, ap, subst, ◌∙◌, append_assoc, append-nil}
use Rattle.std.specs.List.{filter, list_any}
use Rattle.std.specs.Option.{option_or}
use Rattle.std.proofs.lemmas.List.Folds.{list_any-append}
use Rattle.std.proofs.lemmas.Cmp.{nat_list_eq_equiv}
use Rattle.tier_base.specs.declared.number.TableId.{TableId}
use Rattle.tier_base.specs.declared.code.Code.TheVariants as code
use Rattle.row_types.specs.declared.rule.Rule.{Rule}
use Rattle.table_defs.specs.Names.{same_name}
use Rattle.table_defs.specs.declared.definition.TableDef.{TableDef}
use Rattle.table_state.specs.declared.history.Sealed.{Sealed}
use Rattle.sql_subset.specs.declared.stmt.CreateGroup.{CreateGroup}
use Rattle.order_laws.proofs.TruthLaws.{never_both, not_both}
use Rattle.cache_tier.specs.AlterSteps.{with_state}
use Rattle.cache_tier.specs.Definitions.{IsTreeOf, column_fault, defined_by, definition_names, first_fault, first_unknown, placed_tables, table_names}
use Rattle.cache_tier.specs.DefineSteps.{with_new_group}
use Rattle.cache_tier.specs.Groups.{Group, covers, defines_name, definitions_of, is_called, is_read_only}
use Rattle.cache_tier.specs.Journals.{Commits, Defines, Drops, JournalEntry, Marks, Numbers, Prepares, SetsLoaded, SetsState, next_with}
use Rattle.std.specs.Prelude.{fold}
use Rattle.cache_tier.specs.Rotations.{definition_entry}
use Rattle.cache_tier.specs.Rules.{broken_if, named}
use Rattle.cache_tier.specs.StandingBetween.{Each, HasNoTableOf, HaveOwnTables, IsCatalogued}
use Rattle.cache_tier.specs.TierStates.{Tier, with_group}
use Rattle.cache_tier.specs.declared.group.GroupDef.{GroupDef}
use Rattle.cache_tier.proofs.GroupTables.{each_changed, each_last, each_left}
use Rattle.recovery.specs.Journalled.{AreAlike, IsAlike}
use Rattle.recovery.specs.Recalling.{IsDefined, Recalls, RecallsAll, group_of, with_loaded}
use Rattle.recovery.proofs.FoldLaws.{any_filter}
use Rattle.recovery.proofs.JournalledLaws.{turned}
use Rattle.recovery.proofs.LongerLaws.{schema_stays}
use Rattle.recovery.proofs.NewestLaws.{NamesApart}

-- ---- each group is what its definition made

pub record IsMade (schema : List TableDef) (g : Group) : Type 0 where
  pub is : IsTreeOf (placed_tables schema g.def.declared) g.def.tree
  pub def : g.def ≡ defined_by schema g.def.declared g.def.tree
  pub names : definition_names schema [] g.def.declared ≡ None

-- whatever groups there are
names_alone : (schema : List TableDef) (defs : List GroupDef) (d : CreateGroup) → definition_names schema defs d ≡ None → definition_names schema [] d ≡ None
names_alone schema defs d none = of (first_unknown schema (table_names d)) (first_fault column_fault (placed_tables schema d)) (list_any (defines_name d.name) defs) none
  where
    of : (a b : Option Rule) (c : Bool) → option_or a (option_or b (broken_if c (named code.NameInUse d.name))) ≡ None → option_or a (option_or b (broken_if false (named code.NameInUse d.name))) ≡ None
    of None None c none = refl
    of None (Some r) c none = Prim.cc
    of (Some r) b c none = Prim.cc

names_with : (schema : List TableDef) (defs : List GroupDef) (d : CreateGroup) → definition_names schema [] d ≡ None → list_any (defines_name d.name) defs ≡ false → definition_names schema defs d ≡ None
names_with schema defs d none unused = ap (λ b. option_or (first_unknown schema (table_names d)) (option_or (first_fault column_fault (placed_tables schema d)) (broken_if b (named code.NameInUse d.name)))) unused ∙ none

made_turned : (schema : List TableDef) (name : List ℕ) (change : Group → Group) → ((g : Group) → IsMade schema g → IsMade schema (change g)) → (gs : List Group) → Each (IsMade schema) gs → Each (IsMade schema) (map (turned name change) gs)
made_turned schema name change so gs all = each_changed (IsMade schema) (IsMade schema) (turned name change) (λ g m. by g m (is_called name g)) gs all
  where
    by : (g : Group) → IsMade schema g → (b : Bool) → IsMade schema (cond b (change g) g)
    by g m true = so g m
    by g m false = m

step_made : (e : JournalEntry) (t t' : Tier) → Recalls e t t' → Each (IsMade t.schema) t.groups → Each (IsMade t.schema) t'.groups
step_made (Commits s) t t' is all = subst (λ (x : Tier). Each (IsMade t.schema) x.groups) (sym is) all
step_made (Prepares s) t t' is all = subst (λ (x : Tier). Each (IsMade t.schema) x.groups) (sym is) all
step_made (Numbers n) t t' is all = subst (λ (x : Tier). Each (IsMade t.schema) x.groups) (sym is) all
step_made (Marks n) t t' is all = subst (λ (x : Tier). Each (IsMade t.schema) x.groups) (sym is) all
step_made (Defines d text) t t' is all =
    subst (λ (x : Tier). Each (IsMade t.schema) x.groups) (sym is.left)
    (each_last (IsMade t.schema) t.groups (group_of t d is.tree) all (record { is = is.is; def = refl; names = names_alone t.schema (definitions_of t.groups) d is.names }))
step_made (Drops name) t t' is all = subst (λ (x : Tier). Each (IsMade t.schema) x.groups) (sym is) (each_left (IsMade t.schema) (λ g. not (is_called name g)) t.groups all)
step_made (SetsState name state) t t' is all =
    subst (λ (x : Tier). Each (IsMade t.schema) x.groups) (sym is) (made_turned t.schema name (with_state state) (λ g m. record { is = m.is; def = m.def; names = m.names }) t.groups all)
step_made (SetsLoaded name flag) t t' is all =
    subst (λ (x : Tier). Each (IsMade t.schema) x.groups) (sym is) (made_turned t.schema name (with_loaded flag) (λ g m. record { is = m.is; def = m.def; names = m.names }) t.groups all)

pub all_made : (entries : List JournalEntry) (t t' : Tier) → RecallsAll entries t t' → Each (IsMade t.schema) t.groups → Each (IsMade t.schema) t'.groups
all_made [] t t' is all = subst (λ (x : Tier). Each (IsMade t.schema) x.groups) (sym is) all
all_made (e ∷ entries) t t' (mid, first, rest) all =
    let same = schema_stays e t mid first in
    subst (λ s. Each (IsMade s) t'.groups) same (all_made entries mid t' rest (subst (λ s. Each (IsMade s) mid.groups) (sym same) (step_made e t mid first all)))

-- ---- the definitions

-- the group begins anew in this tier
abbrev pub begun : Tier → Group → Group
begun t g = group_of t g.def.declared g.def.tree

-- no group has a table of it, or its name
abbrev pub IsNewTo : List Group → Group → Type 0
IsNewTo gs h = HasNoTableOf gs h × (list_any (is_called h.def.name) gs ≡ false)

or_both : (a b : Bool) → (a || b) ≡ false → (a ≡ false) × (b ≡ false)
or_both true b e = Prim.cc
or_both false b e = (refl, e)

more_new : (gs0 : List Group) (g g' : Group) (gs : List Group) → ((u : TableId) → covers u g' ≡ covers u g) → g'.def.name ≡ g.def.name → HasNoTableOf gs g → list_any (is_called g.def.name) gs ≡ false → Each (IsNewTo gs0) gs → Each (IsNewTo (gs0 ++ g' ∷ [])) gs
more_new gs0 g g' [] same name own none all = tt
more_new gs0 g g' (h ∷ gs) same name own none all = (
  (λ u e. list_any-append (covers u) gs0 (g' ∷ []) ∙ (λ i. all.0.0 u e i || ((same u ∙ not_new u e) i || false)), unnamed),
  more_new gs0 g g' gs same name (λ u c. (or_both (covers u h) (list_any (covers u) gs) (own u c)).1) both.1 all.1,
)
  where
    not_new : (u : TableId) → covers u h ≡ true → covers u g ≡ false
    not_new u e = not_both (covers u g) (λ c. never_both (covers u h || list_any (covers u) gs) (ap (λ b. b || list_any (covers u) gs) e) (own u c))

    both : (is_called g.def.name h ≡ false) × (list_any (is_called g.def.name) gs ≡ false)
    both = or_both (is_called g.def.name h) (list_any (is_called g.def.name) gs) none

    other : is_called h.def.name g' ≡ false
    other = ap (λ n. same_name n h.def.name) name ∙ nat_list_eq_equiv.symm g.def.name h.def.name ∙ both.0

    unnamed : list_any (is_called h.def.name) (gs0 ++ g' ∷ []) ≡ false
    unnamed = list_any-append (is_called h.def.name) gs0 (g' ∷ []) ∙ (λ i. all.0.1 i || (other i || false))

any_defined : (name : List ℕ) (gs : List Group) → list_any (defines_name name) (definitions_of gs) ≡ list_any (is_called name) gs
any_defined name [] = refl
any_defined name (g ∷ gs) = ap (λ b. is_called name g || b) (any_defined name gs)

pub definitions_recalled : (gs : List Group) (t : Tier) → Each (IsMade t.schema) gs → Each (IsCatalogued t.schema) gs → HaveOwnTables gs → NamesApart gs → Each (IsNewTo t.groups) gs
    → RecallsAll (map definition_entry gs) t (record t { groups = t.groups ++ map (begun t) gs })
definitions_recalled [] t made sound own apart new = ap (λ l. record t { groups = l }) (append-nil t.groups)
definitions_recalled (g ∷ gs) t made sound own apart new = (
  with_new_group g.def.declared g.def.tree t,
  defined,
  subst (λ l. RecallsAll (map definition_entry gs) (with_new_group g.def.declared g.def.tree t) (record t { groups = l })) (append_assoc t.groups (begun t g ∷ []) (map (begun t) gs))
      (definitions_recalled gs (with_new_group g.def.declared g.def.tree t) made.1 sound.1 own.1 apart.1 (more_new t.groups g (begun t g) gs (λ u. refl) (sym name) own.0 apart.0 new.1)),
)
  where
    name : g.def.name ≡ g.def.declared.name
    name = ap (λ (d : GroupDef). d.name) made.0.def

    defined : IsDefined g.def.declared t (with_new_group g.def.declared g.def.tree t)
    defined = record {
      tree = g.def.tree;
      is = made.0.is;
      names = names_with t.schema (definitions_of t.groups) g.def.declared made.0.names (any_defined g.def.declared.name t.groups ∙ ap (λ n. list_any (is_called n) t.groups) (sym name) ∙ new.0.1);
      sound = subst (λ d. IsCatalogued t.schema (record (begun t g) { def = d })) made.0.def (record { sound = sound.0.sound; plain = sound.0.plain; free = sound.0.free });
      apart = new.0.0;
      left = refl;
    }

-- ---- STATEs and flags

-- the groups have these definitions, one by one
abbrev pub AreDefinedAs : List Group → List Group → Type 0
AreDefinedAs [] [] = Unit {0}
AreDefinedAs (g ∷ gs) (h ∷ hs) = (h.def ≡ g.def) × AreDefinedAs gs hs
AreDefinedAs [] (h ∷ hs) = ⊥
AreDefinedAs (g ∷ gs) [] = ⊥

-- by name, one after the other
abbrev pub set_all : (Group → Group → Group) → List Group → List Group → List Group
set_all change [] hs = hs
set_all change (x ∷ xs) hs = set_all change xs (map (turned x.def.name (change x)) hs)

-- by place
abbrev pub set_each : (Group → Bool) → (Group → Group → Group) → List Group → List Group → List Group
set_each keep change [] hs = hs
set_each keep change (g ∷ gs) [] = []
set_each keep change (g ∷ gs) (h ∷ hs) = cond (keep g) (change g h) h ∷ set_each keep change gs hs

abbrev pub one : (Group → Group → Group) → List Group → Group → Group
one change [] h = h
one change (x ∷ xs) h = one change xs (turned x.def.name (change x) h)

set_cons : (change : Group → Group → Group) (xs : List Group) (h : Group) (hs : List Group) → set_all change xs (h ∷ hs) ≡ one change xs h ∷ set_all change xs hs
set_cons change [] h hs = refl
set_cons change (x ∷ xs) h hs = set_cons change xs (turned x.def.name (change x) h) (map (turned x.def.name (change x)) hs)

one_none : (change : Group → Group → Group) (xs : List Group) (h : Group) → list_any (λ (x : Group). is_called x.def.name h) xs ≡ false → one change xs h ≡ h
one_none change [] h none = refl
one_none change (x ∷ xs) h none =
    let both = or_both (is_called x.def.name h) (list_any (λ (y : Group). is_called y.def.name h) xs) none in
    ap (one change xs) (ap (λ b. cond b (change x h) h) both.0) ∙ one_none change xs h both.1

set_off : (change : Group → Group) (name : List ℕ) (hs : List Group) → list_any (is_called name) hs ≡ false → map (turned name change) hs ≡ hs
set_off change name [] none = refl
set_off change name (h ∷ hs) none =
    let both = or_both (is_called name h) (list_any (is_called name) hs) none in
    λ i. cond (both.0 i) (change h) h ∷ set_off change name hs both.1 i

called_as : (name : List ℕ) (gs hs : List Group) → AreDefinedAs gs hs → list_any (is_called name) hs ≡ list_any (is_called name) gs
called_as name [] [] are = refl
called_as name (g ∷ gs) (h ∷ hs) are = λ i. defines_name name (are.0 i) || called_as name gs hs are.1 i
called_as name [] (h ∷ hs) are = absurd are
called_as name (g ∷ gs) [] are = absurd are

turned_round : (name : List ℕ) (h : Group) (gs : List Group) → h.def.name ≡ name → list_any (λ (x : Group). is_called x.def.name h) gs ≡ list_any (is_called name) gs
turned_round name h [] same = refl
turned_round name h (x ∷ gs) same = λ i. (ap (λ n. same_name n x.def.name) same ∙ nat_list_eq_equiv.symm name x.def.name) i || turned_round name h gs same i

pub all_set : (keep : Group → Bool) (change : Group → Group → Group) → ((x h : Group) → (change x h).def ≡ h.def) → (gs hs : List Group) → NamesApart gs → AreDefinedAs gs hs → set_all change (filter keep gs) hs ≡ set_each keep change gs hs
all_set keep change steady [] [] apart are = refl
all_set keep change steady [] (h ∷ hs) apart are = absurd are
all_set keep change steady (g ∷ gs) [] apart are = absurd are
all_set keep change steady (g ∷ gs) (h ∷ hs) apart are = by (keep g) (all_set keep change steady gs hs apart.1 are.1)
  where
    free : (k : Group) → k.def.name ≡ g.def.name → one change (filter keep gs) k ≡ k
    free k same = one_none change (filter keep gs) k (any_filter (λ (x : Group). is_called x.def.name k) keep gs (turned_round g.def.name k gs same ∙ apart.0))

    here : is_called g.def.name h ≡ true
    here = ap (defines_name g.def.name) are.0 ∙ nat_list_eq_equiv.refl g.def.name

    by : (b : Bool) → set_all change (filter keep gs) hs ≡ set_each keep change gs hs → set_all change (cond b (g ∷ filter keep gs) (filter keep gs)) (h ∷ hs) ≡ cond b (change g h) h ∷ set_each keep change gs hs
    by true rest =
        set_cons change (filter keep gs) (turned g.def.name (change g) h) (map (turned g.def.name (change g)) hs)
        ∙ (λ i. (ap (one change (filter keep gs)) (ap (λ b. cond b (change g h) h) here) ∙ free (change g h) (ap (λ (d : GroupDef). d.name) (steady g h ∙ are.0))) i
        ∷ (ap (set_all change (filter keep gs)) (set_off (change g) g.def.name hs (called_as g.def.name gs hs are.1 ∙ apart.0)) ∙ rest) i)
    by false rest = set_cons change (filter keep gs) h hs ∙ (λ i. free h (ap (λ (d : GroupDef). d.name) are.0) i ∷ rest i)

pub still_as : (keep : Group → Bool) (change : Group → Group → Group) → ((x h : Group) → (change x h).def ≡ h.def) → (gs hs : List Group) → AreDefinedAs gs hs → AreDefinedAs gs (set_each keep change gs hs)
still_as keep change steady [] [] are = tt
still_as keep change steady [] (h ∷ hs) are = absurd are
still_as keep change steady (g ∷ gs) [] are = absurd are
still_as keep change steady (g ∷ gs) (h ∷ hs) are = (by (keep g), still_as keep change steady gs hs are.1)
  where
    by : (b : Bool) → (cond b (change g h) h).def ≡ g.def
    by true = steady g h ∙ are.0
    by false = are.0

pub set_recalled : (entry : Group → JournalEntry) (change : Group → Group → Group) → ((x : Group) (t : Tier) → Recalls (entry x) t (with_group x.def.name (change x) t)) → (xs : List Group) (t : Tier)
    → RecallsAll (map entry xs) t (record t { groups = set_all change xs t.groups })
set_recalled entry change so [] t = refl
set_recalled entry change so (x ∷ xs) t = (with_group x.def.name (change x) t, so x t, set_recalled entry change so xs (with_group x.def.name (change x) t))

-- ---- all of them

abbrev pub state_entry : Group → JournalEntry
state_entry g = SetsState g.def.name g.state

abbrev pub flag_entry : Group → JournalEntry
flag_entry g = SetsLoaded g.def.name true

abbrev pub to_state : Group → Group → Group
to_state x h = with_state x.state h

abbrev pub to_flag : Group → Group → Group
to_flag x h = with_loaded true h

abbrev pub is_loaded : Group → Bool
is_loaded g = g.loaded

abbrev pub slot_of : ℕ → List Group → List Sealed → List JournalEntry
slot_of next gs us = Marks next ∷ (map definition_entry gs ++ (map state_entry (filter is_read_only gs) ++ (map flag_entry (filter is_loaded gs) ++ map Commits us)))

-- what the groups are behind them
abbrev pub renewed : Tier → List Group → List Group
renewed t gs = set_each is_loaded to_flag gs (set_each is_read_only to_state gs (map (begun t) gs))

begun_as : (t : Tier) (gs : List Group) → Each (IsMade t.schema) gs → AreDefinedAs gs (map (begun t) gs)
begun_as t [] made = tt
begun_as t (g ∷ gs) made = (sym made.0.def, begun_as t gs made.1)

begun_kind : (t : Tier) (g : Group) → IsMade t.schema g → is_read_only (begun t g) ≡ is_read_only g
begun_kind t g made = λ i. is_read_only (record (begun t g) { def = sym made.def i })

pub renewed_alike : (t : Tier) (gs : List Group) → Each (IsMade t.schema) gs → AreAlike (renewed t gs) gs
renewed_alike t [] made = tt
renewed_alike t (g ∷ gs) made = (by g.loaded refl (is_read_only g) refl, renewed_alike t gs made.1)
  where
    by : (a : Bool) → g.loaded ≡ a → (b : Bool) → is_read_only g ≡ b → IsAlike (cond a (to_flag g (cond b (to_state g (begun t g)) (begun t g))) (cond b (to_state g (begun t g)) (begun t g))) g
    by true e true r = record { def = made.0.def; state = λ x. refl; loaded = e }
    by false e true r = record { def = made.0.def; state = λ x. refl; loaded = e }
    by true e false r = record { def = made.0.def; state = λ x. (let bad : false ≡ true = sym r ∙ sym (begun_kind t g made.0) ∙ x in Prim.cc); loaded = e }
    by false e false r = record { def = made.0.def; state = λ x. (let bad : false ≡ true = sym r ∙ sym (begun_kind t g made.0) ∙ x in Prim.cc); loaded = e }

recalls_append : (xs ys : List JournalEntry) (t mid t' : Tier) → RecallsAll xs t mid → RecallsAll ys mid t' → RecallsAll (xs ++ ys) t t'
recalls_append [] ys t mid t' one rest = subst (λ x. RecallsAll ys x t') one rest
recalls_append (x ∷ xs) ys t mid t' (next, first, one) rest = (next, first, recalls_append xs ys next mid t' one rest)

commits_recalled : (us : List Sealed) (t : Tier) → RecallsAll (map Commits us) t (record t { next = fold next_with t.next (map Commits us) })
commits_recalled [] t = refl
commits_recalled (s ∷ us) t = (record t { next = next_with t.next (Commits s) }, refl, commits_recalled us (record t { next = next_with t.next (Commits s) }))

new_to_none : (gs : List Group) → Each (IsNewTo []) gs
new_to_none [] = tt
new_to_none (g ∷ gs) = ((λ u e. refl, refl), new_to_none gs)

pub slot_recalled : (t : Tier) (next : ℕ) (gs : List Group) (us : List Sealed) → t.groups ≡ [] → Each (IsMade t.schema) gs → Each (IsCatalogued t.schema) gs → HaveOwnTables gs → NamesApart gs
    → RecallsAll (slot_of next gs us) t (record t { groups = renewed t gs; next = fold next_with t.next (map Commits us) })
slot_recalled t next gs us none made sound own apart =
    let t1 : Tier = record t { groups = map (begun t) gs } in
    let t2 : Tier = record t { groups = set_each is_read_only to_state gs (map (begun t) gs) } in
    let t3 : Tier = record t { groups = renewed t gs } in
    let are = begun_as t gs made in
    let one : RecallsAll (map definition_entry gs) t t1 = subst (λ l. RecallsAll (map definition_entry gs) t (record t { groups = l ++ map (begun t) gs })) none
    (definitions_recalled gs t made sound own apart (subst (λ l. Each (IsNewTo l) gs) (sym none) (new_to_none gs))) in
    let two : RecallsAll (map state_entry (filter is_read_only gs)) t1 t2 = subst (λ l. RecallsAll (map state_entry (filter is_read_only gs)) t1 (record t { groups = l }))
    (all_set is_read_only to_state (λ x h. refl) gs (map (begun t) gs) apart are) (set_recalled state_entry to_state (λ x k. refl) (filter is_read_only gs) t1) in
    let three : RecallsAll (map flag_entry (filter is_loaded gs)) t2 t3 = subst (λ l. RecallsAll (map flag_entry (filter is_loaded gs)) t2 (record t { groups = l }))
    (all_set is_loaded to_flag (λ x h. refl) gs t2.groups apart (still_as is_read_only to_state (λ x h. refl) gs (map (begun t) gs) are)) (set_recalled flag_entry to_flag (λ x k. refl) (filter is_loaded gs) t2) in
    let four : RecallsAll (map Commits us) t3 (record t3 { next = fold next_with t.next (map Commits us) }) = commits_recalled us t3 in
    (t, refl, recalls_append (map definition_entry gs) _ t t1 _ one (recalls_append (map state_entry (filter is_read_only gs)) _ t1 t2 _ two (recalls_append (map flag_entry (filter is_loaded gs)) (map Commits us) t2 t3 _ three four)))
