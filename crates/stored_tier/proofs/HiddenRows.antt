-- The hidden root rows of groups stay those of their views.
use Rattle.std.proofs.Common.{◌≡◌, ℕ, zero, suc, ◌⊎◌, inl, inr, Bool, true, false, cond, ◌&&◌, ◌||◌, Option, Some, None, is_some, List, [], ◌∷◌, ◌++◌, length, map, slice_get, take, unwrap_or, refl, sym, ap, subst, ◌∙◌, arith}
use Rattle.std.specs.List.{remove}
use Rattle.std.proofs.lemmas.List.{take-append-le}
use Rattle.std.specs.Bool.{MatchBool}
use Rattle.std.specs.Option.{option_and_then}
use Rattle.std.specs.FinMap as fm
use Rattle.row_types.specs.declared.value.Value.{Value}
use Rattle.row_types.specs.Order.{key_order}
use Rattle.indexed_rows.specs.Rows.{Table}
use Rattle.table_defs.specs.declared.definition.TableDef.{TableDef}
use Rattle.table_state.specs.declared.history.Entry.{Entry}
use Rattle.table_state.specs.Histories.{state_at, state_of}
use Rattle.table_state.specs.Tables.{TableState, table_at}
use Rattle.evaluator.specs.Cascades.{key_in}
use Rattle.instances.specs.Views.{passes, root_rows, rows_where, selects}
use Rattle.instances.proofs.Gathering.{get_where}
use Rattle.order_laws.specs.Commits.{virtual_state}
use Rattle.order_laws.proofs.TruthLaws.{both_true}
use Rattle.slot_rows.specs.SlotKeys.{RowsHeld}
use Rattle.group_catalog.specs.Catalogs.{groups_in}
use Rattle.group_store.specs.Stores.{Kept}
use Rattle.cache_tier.specs.declared.group.AgingRule.{AgingRule}
use Rattle.cache_tier.specs.declared.group.AgingRule.TheVariants.{ByTime, LastUse}
use Rattle.outside.specs.Calls.{Lengthens}
use Rattle.cache_tier.specs.Groups.{Group, has_list, is_key, is_read_only}
use Rattle.cache_tier.specs.Sets.{Choice, changed_from}
use Rattle.cache_tier.specs.Shown.{root_key, state_behind}
use Rattle.cache_tier.specs.StandingBetween.{IsReadWithin}
use Rattle.cache_tier.specs.UnloadSteps.{listed_in}
use Rattle.cache_tier.specs.Worlds.{World}
use Rattle.cache_tier.proofs.ChosenGroups.{each_at}
use Rattle.cache_tier.proofs.SetLaws.{Came, came}
use Rattle.cache_tier.proofs.ShownTables.{cond_some}
use Rattle.cache_tier.proofs.ShownTrees.{front_kept}
use Rattle.cache_tier.proofs.SoundStates.{IsSoundState, sound_history}
use Rattle.stored_tier.specs.declared.tier.Tier.{Tier as Stored}
use Rattle.stored_tier.specs.Lists.{HasKeysOf, HidesView, IsListed, hides_keys, is_by_time, is_by_use, view_roots}
use Rattle.stored_tier.specs.Performing.{StandsFor}
use Rattle.stored_tier.specs.Stored.{HidesRows, IsSound, KeepsHidden, without_list}
use Rattle.stored_tier.proofs.ListLaws.{group_kept, hides_same, hides_there, listed_there}

-- ---- groups and hidden rows that stay

pub hidden_stays : (t : Stored) → KeepsHidden t t
hidden_stays t = record { groups = refl; hidden = refl }

-- as they do in a tier of which it is known
pub hidden_as : (t x new : Stored) → new ≡ x → KeepsHidden t x → KeepsHidden t new
hidden_as t x new same keeps = subst (KeepsHidden t) (sym same) keeps

pub hidden_then : (a b c : Stored) → KeepsHidden a b → KeepsHidden b c → KeepsHidden a c
hidden_then a b c first then = record { groups = then.groups ∙ first.groups; hidden = then.hidden ∙ first.hidden }

pub hides_still : (t new : Stored) (h : List Entry) → KeepsHidden t new → HidesRows t h → HidesRows new h
hides_still t new h keeps is k g x at hides there =
    is k g x (ap (λ gs. slice_get gs k) (sym keeps.groups) ∙ at) hides (ap (λ xs. slice_get xs k) (sym keeps.hidden) ∙ there)

-- ---- a history that goes on

view_later : (h more : List Entry) (g : Group) (hidden : Table) → IsReadWithin (length h) g → HidesView h g hidden → HidesView (h ++ more) g hidden
view_later h more g hidden within is key row e =
    ap (λ o. fm.get (view_roots o g.def.tree.root) key) (by g.position refl) ∙ is key row e
  where
    by : (o : Option ℕ) → g.position ≡ o → option_and_then (state_at (h ++ more)) g.position ≡ option_and_then (state_at h) g.position
    by None at = ap (option_and_then (state_at (h ++ more))) at ∙ sym (ap (option_and_then (state_at h)) at)
    by (Some n) at =
        ap (option_and_then (state_at (h ++ more))) at
        ∙ ap state_of (take-append-le n h more (within n at))
        ∙ sym (ap (option_and_then (state_at h)) at)

-- what is mapped comes from somewhere
pub unmapped : {X Y : Type 0} (f : X → Y) (xs : List X) (k : ℕ) (y : Y) → slice_get (map f xs) k ≡ Some y → (x : X) × (slice_get xs k ≡ Some x) × (f x ≡ y)
unmapped f [] k y at = cc
unmapped f (x ∷ xs) zero y at = (x, refl, (let z : f x ≡ y = cc in z))
unmapped f (x ∷ xs) (suc k) y at = unmapped f xs k y at

-- the group of a tier that is stored, with its list
pub group_behind : (t : Stored) (w : World) (k : ℕ) (g : Group) → StandsFor t w → slice_get (groups_in t.catalog) k ≡ Some g → (x : Group) × (slice_get w.tier.groups k ≡ Some x) × (without_list x ≡ g)
group_behind t w k g stands at = unmapped without_list w.tier.groups k g (ap (λ gs. slice_get gs k) stands.stored.groups ∙ at)

-- it was read within the history
within_history : (t : Stored) (w : World) (k : ℕ) (g : Group) → StandsFor t w → slice_get (groups_in t.catalog) k ≡ Some g → IsReadWithin (length w.history) g
within_history t w k g stands at =
    let x = group_behind t w k g stands at in
    subst (IsReadWithin (length w.history)) x.2 (λ n e. each_at (IsReadWithin (length w.history)) w.tier.groups k x.0 stands.stands.read.within x.1 n e)

pub hides_later : (t : Stored) (w : World) (later : List Entry) → StandsFor t w → Lengthens w.history later → HidesRows t later
hides_later t w later stands longer =
    subst (HidesRows t) (sym longer.is) (λ k g x at hides there. view_later w.history longer.more g x.table (within_history t w k g stands at) (stands.hides k g x at hides there))

-- of another tier with its groups and hidden rows
pub hides_then : (t new : Stored) (w : World) (later : List Entry) → KeepsHidden t new → StandsFor t w → Lengthens w.history later → HidesRows new later
hides_then t new w later keeps stands longer = hides_still t new later keeps (hides_later t w later stands longer)

-- ---- what is hidden, and what isn't

-- nothing is hidden
pub nothing_hidden : (h : List Entry) (g : Group) (hidden : Table) → hidden ≡ fm.empty → HidesView h g hidden
nothing_hidden h g hidden none key row e =
    let wrong : None ≡ Some row = sym (fm.get-empty key_order key) ∙ ap (λ (m : Table). fm.get m key) (sym none) ∙ e in cc

-- ---- groups that change

-- a group with the same view at the same position
pub record SameView (g h : Group) : Type 0 where
  pub def : h.def ≡ g.def
  pub position : h.position ≡ g.position

pub view_same : (history : List Entry) (g h : Group) (hidden : Table) → SameView g h → HidesView history g hidden → HidesView history h hidden
view_same history g h hidden same is key row e =
    (λ i. fm.get (view_roots (option_and_then (state_at history) (same.position i)) (same.def i).tree.root) key) ∙ is key row e

-- some groups are changed so
pub hides_changed : (t new : Stored) (history : List Entry) (c : Choice) (f : Group → Group) → ((g : Group) → SameView g (f g)) → groups_in new.catalog ≡ changed_from c f 0 (groups_in t.catalog) → new.hidden.items ≡ t.hidden.items → HidesRows t history → HidesRows new history
hides_changed t new history c f same groups hidden is k h x at hides there =
    view_same history from.g h x.table view
    (is k from.g x from.there (sym (hides_same from.g h view.def) ∙ hides) (ap (λ xs. slice_get xs k) (sym hidden) ∙ there))
  where
    from : Came c f (groups_in t.catalog) k k h
    from = came c f (groups_in t.catalog) 0 k k h (omega arith) (ap (λ gs. slice_get gs k) (sym groups) ∙ at)

    either : (b : Bool) → SameView from.g (cond b (f from.g) from.g)
    either true = same from.g
    either false = record { def = refl; position = refl }

    view : SameView from.g h
    view = subst (SameView from.g) (sym from.is) (either (c k from.g))

-- a group that hides nothing comes behind the others

pushed : {X : Type 0} (xs : List X) (last : X) (k : ℕ) (x : X) → slice_get (xs ++ last ∷ []) k ≡ Some x → (slice_get xs k ≡ Some x) ⊎ ((last ≡ x) × (k ≡ length xs))
pushed [] last zero x at = inr (cc, refl)
pushed [] last (suc k) x at = cc
pushed (y ∷ xs) last zero x at = inl at
pushed (y ∷ xs) last (suc k) x at = by (pushed xs last k x at)
  where
    by : (slice_get xs k ≡ Some x) ⊎ ((last ≡ x) × (k ≡ length xs)) → (slice_get xs k ≡ Some x) ⊎ ((last ≡ x) × (suc k ≡ length (y ∷ xs)))
    by (inl before) = inl before
    by (inr (is, end)) = inr (is, ap suc end)

none_past : {X : Type 0} (xs : List X) (x : X) → slice_get xs (length xs) ≡ Some x → ⊥
none_past [] x at = cc
none_past (y ∷ xs) x at = none_past xs x at

pub hides_more : (t new : Stored) (history : List Entry) (g : Group) (h : RowsHeld) → groups_in new.catalog ≡ groups_in t.catalog ++ g ∷ [] → new.hidden.items ≡ t.hidden.items ++ h ∷ [] → length t.hidden.items ≡ length (groups_in t.catalog) → h.table ≡ fm.empty → HidesRows t history → HidesRows new history
hides_more t new history g h groups hidden long none is k y x at hides there =
    by (pushed (groups_in t.catalog) g k y (ap (λ gs. slice_get gs k) (sym groups) ∙ at)) (pushed t.hidden.items h k x (ap (λ xs. slice_get xs k) (sym hidden) ∙ there))
  where
    by : (slice_get (groups_in t.catalog) k ≡ Some y) ⊎ ((g ≡ y) × (k ≡ length (groups_in t.catalog))) → (slice_get t.hidden.items k ≡ Some x) ⊎ ((h ≡ x) × (k ≡ length t.hidden.items)) → HidesView history y x.table
    by (inl one) (inl other) = is k y x one hides other
    by (inl one) (inr (same, end)) = absurd (none_past (groups_in t.catalog) y (ap (slice_get (groups_in t.catalog)) (sym (end ∙ long)) ∙ one))
    by (inr (same, end)) (inl other) = absurd (none_past t.hidden.items x (ap (slice_get t.hidden.items) (sym (end ∙ sym long)) ∙ other))
    by (inr one) (inr (same, end)) = nothing_hidden history y x.table (ap (λ (z : RowsHeld). z.table) (sym same) ∙ none)

-- one goes, with its rows

removed_both : {X Y : Type 0} (xs : List X) (ys : List Y) (place k : ℕ) (x : X) (y : Y) → slice_get (remove xs place) k ≡ Some x → slice_get (remove ys place) k ≡ Some y → (j : ℕ) × (slice_get xs j ≡ Some x) × (slice_get ys j ≡ Some y)
removed_both [] ys zero k x y at there = cc
removed_both [] ys (suc place) k x y at there = cc
removed_both (a ∷ xs) [] zero k x y at there = cc
removed_both (a ∷ xs) [] (suc place) k x y at there = cc
removed_both (a ∷ xs) (b ∷ ys) zero k x y at there = (suc k, at, there)
removed_both (a ∷ xs) (b ∷ ys) (suc place) zero x y at there = (0, at, there)
removed_both (a ∷ xs) (b ∷ ys) (suc place) (suc k) x y at there =
    let r = removed_both xs ys place k x y at there in (suc r.0, r.1, r.2)

pub hides_less : (t new : Stored) (history : List Entry) (place : ℕ) → groups_in new.catalog ≡ remove (groups_in t.catalog) place → new.hidden.items ≡ remove t.hidden.items place → HidesRows t history → HidesRows new history
hides_less t new history place groups hidden is k y x at hides there =
    let r = removed_both (groups_in t.catalog) t.hidden.items place k y x (ap (λ gs. slice_get gs k) (sym groups) ∙ at) (ap (λ xs. slice_get xs k) (sym hidden) ∙ there) in
    is r.0 y x r.1 hides r.2

-- ---- the hidden root rows of a group are those of its list in the state that it is a cache of

abbrev pub HidesListed : World → Group → Table → Type 0
HidesListed w g hidden =
    (key row : List Value) → fm.get hidden key ≡ Some row
    → fm.get (listed_in (state_behind w.history w.tier.log g) g) key ≡ Some row

no_table : (defs : List TableDef) (tables : List Table) (i : ℕ) → length tables ≡ length defs → slice_get defs i ≡ None → unwrap_or (slice_get tables i) fm.empty ≡ fm.empty
no_table [] [] i long e = refl
no_table [] (y ∷ tables) i long e = absurd (omega (arith, long))
no_table (x ∷ defs) [] i long e = refl
no_table (x ∷ defs) (y ∷ tables) zero long e = cc
no_table (x ∷ defs) (y ∷ tables) (suc i) long e = no_table defs tables i (omega (arith, long)) e

-- root rows of a state that a history leaves stand under their keys
root_keyed : (s : TableState) → IsSoundState s → (g : Group) (key row : List Value) → fm.get (root_rows s g.def.tree.root) key ≡ Some row → root_key s g row ≡ key
root_keyed s sound g key row e = by (slice_get s.schema g.def.tree.root.table.0) refl
  where
    there : fm.get (table_at s g.def.tree.root.table) key ≡ Some row
    there = cond_some (passes (selects g.def.tree.root.filter) (fm.get (table_at s g.def.tree.root.table) key)) (fm.get (table_at s g.def.tree.root.table) key) row
        (sym (get_where (selects g.def.tree.root.filter) (table_at s g.def.tree.root.table) key) ∙ e)

    by : (o : Option TableDef) → slice_get s.schema g.def.tree.root.table.0 ≡ o → root_key s g row ≡ key
    by None is =
        let wrong : None ≡ Some row = sym (fm.get-empty key_order key) ∙ ap (λ (m : Table). fm.get m key) (sym (no_table s.schema s.tables g.def.tree.root.table.0 sound.whole is)) ∙ there in cc
    by (Some def) is = ap (λ o. key_in o row) is ∙ sound.keyed g.def.tree.root.table def is key row there

sound_at : (h : List Entry) (o : Option ℕ) (s : TableState) → option_and_then (state_at h) o ≡ Some s → IsSoundState s
sound_at h None s is = cc
sound_at h (Some n) s is = sound_history (take n h) s is

and_off : (a b : Bool) → b ≡ false → (a && b) ≡ false
and_off true b e = e
and_off false b e = refl

or_on : (a b : Bool) → b ≡ true → (a || b) ≡ true
or_on true b e = refl
or_on false b e = e

-- a hidden key is listed
hidden_listed : (g : Group) (s : Kept) (hidden : Table) → hides_keys g ≡ true → IsListed g s hidden → (key row : List Value) → fm.get hidden key ≡ Some row → is_key g.keys key ≡ true
hidden_listed g s hidden hides listed key row e =
    keys key ∙ or_on (is_key s.keys key) (fm.contains_key hidden key) (ap is_some e)
  where
    parts : ((is_read_only g && g.def.dynamic) ≡ true) × (is_by_time g.def.aging ≡ true)
    parts = both_true (is_read_only g && g.def.dynamic) (is_by_time g.def.aging) hides

    not_use : (o : Option AgingRule) → is_by_time o ≡ true → is_by_use o ≡ false
    not_use None h = cc
    not_use (Some LastUse) h = cc
    not_use (Some (ByTime rule)) h = refl

    keys : HasKeysOf g.keys s hidden
    keys =
        subst (λ b. MatchBool b (HasKeysOf g.keys s hidden) (Unit {0})) (both_true (is_read_only g) g.def.dynamic parts.0).1
        (subst (λ b. MatchBool b (g.keys ≡ s.keys) (MatchBool g.def.dynamic (HasKeysOf g.keys s hidden) (Unit {0}))) (and_off (has_list g) (is_by_use g.def.aging) (not_use g.def.aging parts.1)) listed)

pub hides_listed : (t : Stored) (w : World) → IsSound t → StandsFor t w → (k : ℕ) (g : Group) (s : Kept) (x : RowsHeld) → slice_get w.tier.groups k ≡ Some g → slice_get t.stores.items k ≡ Some s → slice_get t.hidden.items k ≡ Some x → HidesListed w g x.table
hides_listed t w sound stands k g s x at kept there key row e = by (hides_keys g) refl
  where
    by : (b : Bool) → hides_keys g ≡ b → fm.get (listed_in (state_behind w.history w.tier.log g) g) key ≡ Some row
    by false shows =
        let none = (hides_there t w.tier k g s x sound stands.stored at kept there).none shows in
        let wrong : None ≡ Some row = sym (fm.get-empty key_order key) ∙ ap (λ (m : Table). fm.get m key) (sym none) ∙ e in cc
    by true hides = of (option_and_then (state_at w.history) g.position) refl (stands.hides k (without_list g) x (group_kept t w.tier k g stands.stored at) hides there key row e)
      where
        reads : is_read_only g ≡ true
        reads = (both_true (is_read_only g) g.def.dynamic (both_true (is_read_only g && g.def.dynamic) (is_by_time g.def.aging) hides).0).0

        behind_is : state_behind w.history w.tier.log g ≡ option_and_then (state_at w.history) g.position
        behind_is = ap (λ b. cond b (option_and_then (state_at w.history) g.position) (virtual_state w.history w.tier.log)) reads

        its : is_key g.keys key ≡ true
        its = hidden_listed g s x.table hides (listed_there w.tier.groups t.stores.items t.hidden.items k g s x stands.stored.lists at kept there) key row e

        of : (o : Option TableState) → option_and_then (state_at w.history) g.position ≡ o → fm.get (view_roots o g.def.tree.root) key ≡ Some row → fm.get (listed_in (state_behind w.history w.tier.log g) g) key ≡ Some row
        of None is view = let wrong : None ≡ Some row = sym (fm.get-empty key_order key) ∙ view in cc
        of (Some z) is view =
            ap (λ o. fm.get (listed_in o g) key) (behind_is ∙ is)
            ∙ ap (λ (m : Table). fm.get m key) (front_kept z g.def.tree.children (rows_where (λ r. is_key g.keys (root_key z g r)) (root_rows z g.def.tree.root) ∷ []) 0 (omega arith))
            ∙ get_where (λ r. is_key g.keys (root_key z g r)) (root_rows z g.def.tree.root) key
            ∙ ap (λ (o : Option (List Value)). cond (passes (λ r. is_key g.keys (root_key z g r)) o) o None) view
            ∙ ap (λ b. cond b (Some row) None) (ap (is_key g.keys) (root_keyed z (sound_at w.history g.position z is) g key row view) ∙ its)
