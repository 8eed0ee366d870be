-- What keeps the journal the tier's where its catalog changes.
use Rattle.std.proofs.Common.{◌≡◌, ℕ, ◌+◌, Bool, true, false, cond, not, ◌&&◌, ◌||◌, None, List, [], ◌∷◌, ◌++◌, length, refl, sym, ap, subst, ◌∙◌}
use Rattle.std.specs.List.{list_all, list_any}
use Rattle.std.specs.Option.{option_and_then}
use Rattle.std.proofs.lemmas.List.Folds.{list_any-append}
use Rattle.tier_base.specs.declared.number.TableId.{TableId}
use Rattle.table_state.specs.declared.history.Sealed.{Sealed}
use Rattle.table_state.specs.declared.operation.Op.{Op}
use Rattle.table_state.specs.Copies.{is_one_of}
use Rattle.table_state.specs.Histories.{state_of}
use Rattle.table_state.specs.Operations.{table_of}
use Rattle.instances.specs.declared.tree.Tree.{Tree}
use Rattle.order_laws.specs.Commits.{applied_sealed, is_op_on, pending, virtual_state}
use Rattle.order_laws.specs.Sides.{IsClosed, all_on, are_off, are_on}
use Rattle.order_laws.specs.Standing.{all_off, live_tables}
use Rattle.order_laws.proofs.TruthLaws.{both_true, never_both}
use Rattle.recovery_laws.specs.Crashes.{Over, StandsOn, defines, with_flushed}
use Rattle.recovery_laws.specs.Crashes as crash
use Rattle.recovery_laws.specs.Notes.{Define, are_apart, groups_of, log_in}
use Rattle.recovery_laws.proofs.CrashLaws.{event_keeps}
use Rattle.sql_subset.specs.declared.stmt.CreateGroup.{CreateGroup}
use Rattle.cache_tier.specs.Commits.{tables_of}
use Rattle.cache_tier.specs.Defining.{IsNewGroup}
use Rattle.cache_tier.specs.DefineSteps.{with_new_group}
use Rattle.cache_tier.specs.Definitions.{IsTreeOf, defined_by, definition_names, new_group, placed_tables}
use Rattle.cache_tier.specs.Groups.{Group, covers, definitions_of, is_defined_on, is_read_only, is_table_of, is_writethrough}
use Rattle.cache_tier.specs.Journals.{Defines, Journal}
use Rattle.cache_tier.specs.StandingBetween.{IsCatalogued, live_groups_of}
use Rattle.cache_tier.specs.StandingBetween as between
use Rattle.cache_tier.specs.TierStates.{Tier}
use Rattle.cache_tier.specs.Worlds.{World}
use Rattle.cache_tier.proofs.GroupTables.{live_table}
use Rattle.recovery.specs.Journalled.{AreAlike, IsAlike, IsFlushedWith, IsJournalled, IsJournalledOn, IsQuiet, with_flushed_entry}
use Rattle.recovery.specs.Recalling.{IsDefined, group_of, written_tables}
use Rattle.recovery.proofs.FoldLaws.{written}
use Rattle.recovery.proofs.JournalledLaws.{alike_trans, below_same, entry_journalled, folded, given_is, live, notes, seen}
use Rattle.recovery.specs.SafeWays.{AreUnshared}
use Rattle.recovery.proofs.LiveLaws.{unshared_back}
use Rattle.recovery.proofs.NewestLaws.{tie_has}

-- ---- lists of tables

all_of : (p : TableId → Bool) (xs : List TableId) → ((u : TableId) → is_one_of xs u ≡ true → p u ≡ true) → list_all p xs ≡ true
all_of p [] so = refl
all_of p (x ∷ xs) so = λ i. so x (here x) i && all_of p xs (λ u e. so u (there x u e)) i
  where
    here : (y : TableId) → is_one_of (y ∷ xs) y ≡ true
    here y = ap (λ b. b || is_one_of xs y) (Rattle.std.proofs.lemmas.Bool.eq-eqb y.0 y.0 refl)

    there : (y u : TableId) → is_one_of xs u ≡ true → is_one_of (y ∷ xs) u ≡ true
    there y u e = ap (λ b. Rattle.std.proofs.Common.nat_eq y.0 u.0 || b) e ∙ or_true (Rattle.std.proofs.Common.nat_eq y.0 u.0)
      where
        or_true : (b : Bool) → (b || true) ≡ true
        or_true true = refl
        or_true false = refl

ops_off : (live tables : List TableId) (ops : List Op) → ((u : TableId) → is_one_of live u ≡ true → is_one_of tables u ≡ false) → are_on live ops ≡ true → are_off tables ops ≡ true
ops_off live tables [] apart on = refl
ops_off live tables (op ∷ ops) apart on =
    let (first, rest) = both_true (is_op_on live op) (are_on live ops) on in
    λ i. not (apart (table_of op) first i) && ops_off live tables ops apart rest i

sealed_off : (live tables : List TableId) (xs : List Sealed) → ((u : TableId) → is_one_of live u ≡ true → is_one_of tables u ≡ false) → all_on live xs ≡ true → all_off tables xs ≡ true
sealed_off live tables [] apart on = refl
sealed_off live tables (x ∷ xs) apart on =
    let (first, rest) = both_true (are_on live x.ops) (all_on live xs) on in
    λ i. ops_off live tables x.ops apart first i && sealed_off live tables xs apart rest i

written_is_covered : (gs : List Group) (u : TableId) → is_table_of is_writethrough gs u ≡ true → list_any (covers u) gs ≡ true
written_is_covered [] u e = Prim.cc
written_is_covered (g ∷ gs) u e = by (is_writethrough g) (covers u g) e (written_is_covered gs u)
  where
    by : (a b : Bool) → ((a && b) || is_table_of is_writethrough gs u) ≡ true → (is_table_of is_writethrough gs u ≡ true → list_any (covers u) gs ≡ true) → (b || list_any (covers u) gs) ≡ true
    by true true e rest = refl
    by true false e rest = rest e
    by false true e rest = refl
    by false false e rest = rest e

-- ---- groups that are alike

pub alike_definitions : (gs hs : List Group) → AreAlike gs hs → definitions_of gs ≡ definitions_of hs
alike_definitions [] [] are = refl
alike_definitions (g ∷ gs) (h ∷ hs) are = λ i. sym are.0.def i ∷ alike_definitions gs hs are.1 i
alike_definitions [] (h ∷ hs) are = absurd are
alike_definitions (g ∷ gs) [] are = absurd are

pub alike_covers : (gs hs : List Group) (u : TableId) → AreAlike gs hs → list_any (covers u) gs ≡ list_any (covers u) hs
alike_covers [] [] u are = refl
alike_covers (g ∷ gs) (h ∷ hs) u are = λ i. is_defined_on u (sym are.0.def i) || alike_covers gs hs u are.1 i
alike_covers [] (h ∷ hs) u are = absurd are
alike_covers (g ∷ gs) [] u are = absurd are

pub alike_last : (gs hs : List Group) (g h : Group) → AreAlike gs hs → IsAlike g h → AreAlike (gs ++ g ∷ []) (hs ++ h ∷ [])
alike_last [] [] g h are one = (one, tt)
alike_last (x ∷ gs) (y ∷ hs) g h are one = (are.0, alike_last gs hs g h are.1 one)
alike_last [] (y ∷ hs) g h are one = absurd are
alike_last (x ∷ gs) [] g h are one = absurd are

-- what is unshared of more groups is so of the first of them
front_unshared : (shared : List TableId) (gs hs : List Group) → AreUnshared shared (gs ++ hs) → AreUnshared shared gs
front_unshared shared gs hs alone t e = left (is_table_of is_writethrough gs t) (is_table_of is_writethrough hs t) (sym (list_any-append (λ g. is_writethrough g && covers t g) gs hs) ∙ alone t e)
  where
    left : (a b : Bool) → (a || b) ≡ false → a ≡ false
    left true b x = Prim.cc
    left false b x = refl

module _ (w : World) (early : List Sealed) (j : IsJournalled w early) (stands : between.Stands w) where
  -- what is committed over the backing database, as the laws of crashes see it
  pub over_seen : Over (seen w early j) j.backing stands.flow.stand.over.virtual
  over_seen = record {
    leaves = j.leaves;
    is = ap (λ l. virtual_state w.history (log_in w.history l)) (given_is w early j) ∙ ap (λ p. option_and_then (applied_sealed p) (state_of w.history)) (sym j.tie) ∙ stands.flow.stand.over.virtual_is;
  }

  pub waiting_is : crash.waiting (seen w early j) ≡ pending w.history w.tier.log
  waiting_is = ap (λ l. pending w.history (log_in w.history l)) (given_is w early j) ∙ sym j.tie

  -- a group is defined
  module _ (d : CreateGroup) (text : List ℕ) (tree : Tree) (is : IsTreeOf (placed_tables w.tier.schema d) tree) (names : definition_names w.tier.schema (definitions_of w.tier.groups) d ≡ None) (new : IsNewGroup w (group_of w.tier d tree)) where
    abbrev group : Group
    group = group_of w.tier d tree

    abbrev tables : List TableId
    tables = written_tables j.backing.schema d

    known : j.backing.schema ≡ w.tier.schema
    known = stands.schema.whole j.backing new.told j.leaves

    folded_schema : j.catalog.schema ≡ w.tier.schema
    folded_schema = (folded w early j).schema_is ∙ known

    tables_are : tables ≡ cond (is_read_only group) [] (tables_of tree)
    tables_are = ap (λ s. written_tables s d) known ∙ written w.tier d tree is

    has : (u : TableId) → is_one_of tables u ≡ (is_writethrough group && covers u group)
    has u = ap (λ l. is_one_of l u) tables_are ∙ tie_has group u

    not_live : (u : TableId) → is_table_of is_writethrough w.tier.groups u ≡ true → is_one_of tables u ≡ false
    not_live u e = has u ∙ by (is_writethrough group) (covers u group) refl
      where
        by : (a b : Bool) → covers u group ≡ b → (a && b) ≡ false
        by true true c = absurd (never_both (list_any (covers u) w.tier.groups) (written_is_covered w.tier.groups u e) (new.apart u c))
        by true false c = refl
        by false b c = refl

    apart : are_apart (live_tables (crash.live_of (seen w early j))) tables ≡ true
    apart = ap (λ l. are_apart (live_tables (groups_of l)) tables) (given_is w early j) ∙ all_of (λ u. not (is_one_of tables u)) (live_tables (groups_of (notes w early j))) (λ u e. ap not (not_live u (sym (live w early j u) ∙ e)))

    closed : IsClosed tables j.backing.schema
    closed = subst (IsClosed tables) (sym known) (subst (λ l. IsClosed l w.tier.schema) (sym tables_are) (by (is_read_only group) refl))
      where
        by : (b : Bool) → is_read_only group ≡ b → IsClosed (cond b [] (tables_of tree)) w.tier.schema
        by true e = λ t def foreign there key. refl
        by false e = new.closed (ap not e)

    off : all_off tables (crash.waiting (seen w early j)) ≡ true
    off = ap (all_off tables) waiting_is
        ∙ sealed_off (live_tables (live_groups_of w.tier.groups)) tables (pending w.history w.tier.log) (λ u e. not_live u (sym (live_table w.tier.groups u) ∙ e)) stands.flow.stand.live

    kept : StandsOn (with_flushed (crash.given (seen w early j) ++ Define d.name tables ∷ []) (seen w early j)) early
    kept = event_keeps (seen w early j) (with_flushed (crash.given (seen w early j) ++ Define d.name tables ∷ []) (seen w early j)) early (defines d.name tables j.backing stands.flow.stand.over.virtual over_seen apart closed off) j.stands

    recalled_as : IsDefined d j.catalog (with_new_group d tree j.catalog)
    recalled_as = record {
      tree = tree;
      is = subst (λ s. IsTreeOf (placed_tables s d) tree) (sym folded_schema) is;
      names = (λ i. definition_names (folded_schema i) (alike_definitions j.catalog.groups w.tier.groups j.alike i) d) ∙ names;
      sound = subst (λ s. IsCatalogued s (new_group j.catalog.next j.catalog.now d (defined_by s d tree))) (sym folded_schema) (record { sound = new.sound.sound; plain = new.sound.plain; free = new.sound.free });
      apart = λ u e. alike_covers j.catalog.groups w.tier.groups u j.alike ∙ new.apart u e;
      left = refl;
    }

    alike_new : IsAlike (group_of j.catalog d tree) group
    alike_new = record { def = ap (λ s. defined_by s d tree) (sym folded_schema); state = λ r. refl; loaded = refl }

    pub define_journalled : (t : Tier) (journal : Journal) → IsFlushedWith (Defines d text) (length w.history) w.journal journal → IsQuiet (with_new_group d tree w.tier) t → IsJournalledOn (with_flushed_entry t journal w) early
    define_journalled t journal flushed quiet =
        entry_journalled w early j (Defines d text) journal flushed kept t (with_new_group d tree j.catalog) recalled_as
        (alike_trans (j.catalog.groups ++ group_of j.catalog d tree ∷ []) (w.tier.groups ++ group ∷ []) t.groups (alike_last j.catalog.groups w.tier.groups (group_of j.catalog d tree) group j.alike alike_new) quiet.groups)
        quiet.log refl (below_same w early j (Defines d text) t.next (λ n. refl) quiet.next) quiet.next
        (λ alone. front_unshared w.shared w.tier.groups (group ∷ []) (unshared_back w.shared (w.tier.groups ++ group ∷ []) t.groups quiet.groups alone))

pub define_kept : (w : World) (early : List Sealed) (d : CreateGroup) (text : List ℕ) (tree : Tree) (t : Tier) (journal : Journal) → between.Stands w → IsJournalled w early → IsTreeOf (placed_tables w.tier.schema d) tree
    → definition_names w.tier.schema (definitions_of w.tier.groups) d ≡ None → IsNewGroup w (group_of w.tier d tree) → IsFlushedWith (Defines d text) (length w.history) w.journal journal → IsQuiet (with_new_group d tree w.tier) t → IsJournalledOn (with_flushed_entry t journal w) early
define_kept w early d text tree t journal stands j is names new flushed quiet = define_journalled w early j stands d text tree is names new t journal flushed quiet
