-- What a crash leaves between two events.
use Rattle.std.proofs.Common.{◌≡◌, ℕ, ◌+◌, ◌≤◌, ◌^◌, max, List, [], ◌∷◌, ◌++◌, map, refl, sym, ap, subst, ◌∙◌, arith, append-nil}
use Rattle.std.specs.Prelude.{fold}
use Rattle.std.proofs.Math.Nat.{le-max_left}
use Rattle.std.proofs.lemmas.List.Sums.{fold-append}
use Rattle.table_defs.specs.declared.definition.TableDef.{TableDef}
use Rattle.table_state.specs.declared.history.Sealed.{Sealed}
use Rattle.recovery_laws.specs.Crashes.{IsLeft}
use Rattle.recovery_laws.proofs.CrashLaws.{crash_left}
use Rattle.cache_tier.specs.AlterSteps.{with_state}
use Rattle.cache_tier.specs.DefineSteps.{with_new_group}
use Rattle.cache_tier.specs.DropSteps.{without_group}
use Rattle.cache_tier.specs.Groups.{Group}
use Rattle.cache_tier.specs.Definitions.{defined_by, definition_names, new_group}
use Rattle.cache_tier.specs.Journals.{Commits, Defines, Drops, JournalEntry, Marks, Numbers, Prepares, SetsLoaded, SetsState, next_behind, next_with}
use Rattle.cache_tier.specs.StandingBetween.{IsCatalogued}
use Rattle.cache_tier.specs.TierStates.{Settings, Tier, opened, with_group}
use Rattle.cache_tier.specs.Worlds.{World}
use Rattle.recovery.specs.Journalled.{AreAlike, CrashLeaves, IsJournalled}
use Rattle.recovery.specs.Recalling.{IsDefined, Recalls, RecallsAll, group_of, notes_of, with_loaded}
use Rattle.recovery.proofs.CatalogLaws.{alike_covers, alike_definitions, alike_last}
use Rattle.recovery.proofs.DroppedLaws.{alike_without}
use Rattle.recovery.proofs.JournalledLaws.{alike_kind, alike_trans, alike_turned, loaded_steady, state_steady}

-- ---- the same entries over another tier

-- two tiers with one schema and one next ticket, whose groups are alike
pub record AreSame (t n : Tier) : Type 0 where
  pub schema : n.schema ≡ t.schema
  pub next : n.next ≡ t.next
  pub groups : AreAlike t.groups n.groups

-- what the entries leave of another tier that is the same
pub record Leaves (entries : List JournalEntry) (n t' : Tier) : Type 0 where
  pub left : Tier
  pub recalls : RecallsAll entries n left
  pub same : AreSame t' left

pub alike_back : (gs hs : List Group) → AreAlike gs hs → AreAlike hs gs
alike_back [] [] are = tt
alike_back (g ∷ gs) (h ∷ hs) are = (record { def = sym are.0.def; state = λ r. sym (are.0.state (sym (alike_kind g h are.0) ∙ r)); loaded = sym are.0.loaded }, alike_back gs hs are.1)
alike_back [] (h ∷ hs) are = absurd are
alike_back (g ∷ gs) [] are = absurd are

step_same : (e : JournalEntry) (t n t' : Tier) → AreSame t n → Recalls e t t' → (n' : Tier) × Recalls e n n' × AreSame t' n'
step_same (Commits s) t n t' same is = (record n { next = next_with n.next (Commits s) }, refl, subst (λ x. AreSame x (record n { next = next_with n.next (Commits s) })) (sym is) (record { schema = same.schema; next = ap (λ k. next_with k (Commits s)) same.next; groups = same.groups }))
step_same (Prepares s) t n t' same is = (record n { next = next_with n.next (Prepares s) }, refl, subst (λ x. AreSame x (record n { next = next_with n.next (Prepares s) })) (sym is) (record { schema = same.schema; next = ap (λ k. next_with k (Prepares s)) same.next; groups = same.groups }))
step_same (Numbers m) t n t' same is = (record n { next = next_with n.next (Numbers m) }, refl, subst (λ x. AreSame x (record n { next = next_with n.next (Numbers m) })) (sym is) (record { schema = same.schema; next = ap (λ k. next_with k (Numbers m)) same.next; groups = same.groups }))
step_same (Marks m) t n t' same is = (n, refl, subst (λ x. AreSame x n) (sym is) same)
step_same (Defines d text) t n t' same is = (with_new_group d is.tree n, defined, subst (λ x. AreSame x (with_new_group d is.tree n)) (sym is.left) after)
  where
    defined : IsDefined d n (with_new_group d is.tree n)
    defined = record {
      tree = is.tree;
      is = subst (λ s. Rattle.cache_tier.specs.Definitions.IsTreeOf (Rattle.cache_tier.specs.Definitions.placed_tables s d) is.tree) (sym same.schema) is.is;
      names = (λ i. definition_names (same.schema i) (sym (alike_definitions t.groups n.groups same.groups) i) d) ∙ is.names;
      sound = subst (λ s. IsCatalogued s (new_group n.next n.now d (defined_by s d is.tree))) (sym same.schema) (record { sound = is.sound.sound; plain = is.sound.plain; free = is.sound.free });
      apart = λ u e. sym (alike_covers t.groups n.groups u same.groups) ∙ is.apart u e;
      left = refl;
    }

    after : AreSame (with_new_group d is.tree t) (with_new_group d is.tree n)
    after = record {
      schema = same.schema;
      next = same.next;
      groups = alike_last t.groups n.groups (group_of t d is.tree) (group_of n d is.tree) same.groups (record { def = ap (λ s. defined_by s d is.tree) same.schema; state = λ r. refl; loaded = refl });
    }
step_same (Drops name) t n t' same is = (without_group name n, refl, subst (λ x. AreSame x (without_group name n)) (sym is) (record { schema = same.schema; next = same.next; groups = alike_without name t.groups n.groups same.groups }))
step_same (SetsState name state) t n t' same is =
    (with_group name (with_state state) n, refl, subst (λ x. AreSame x (with_group name (with_state state) n)) (sym is) (record { schema = same.schema; next = same.next; groups = alike_turned name (with_state state) (state_steady state) t.groups n.groups same.groups }))
step_same (SetsLoaded name flag) t n t' same is =
    (with_group name (with_loaded flag) n, refl, subst (λ x. AreSame x (with_group name (with_loaded flag) n)) (sym is) (record { schema = same.schema; next = same.next; groups = alike_turned name (with_loaded flag) (loaded_steady flag) t.groups n.groups same.groups }))

pub all_same : (entries : List JournalEntry) (t n t' : Tier) → AreSame t n → RecallsAll entries t t' → Leaves entries n t'
all_same [] t n t' same is = record { left = n; recalls = refl; same = subst (λ x. AreSame x n) (sym is) same }
all_same (e ∷ entries) t n t' same (mid, first, rest) =
    let (next, one, then) = step_same e t n mid same first in
    let r = all_same entries mid next t' then rest in
    record { left = r.left; recalls = (next, one, r.recalls); same = r.same }

-- ---- a front of the entries

-- the front's catalog, where behind it are commits alone
record Front (flushed : List JournalEntry) (t t' : Tier) : Type 0 where
  mid : Tier
  recalls : RecallsAll flushed t mid
  groups : mid.groups ≡ t'.groups

commits_keep : (late : List Sealed) (t t' : Tier) → RecallsAll (map Commits late) t t' → t.groups ≡ t'.groups
commits_keep [] t t' is = ap (λ (x : Tier). x.groups) (sym is)
commits_keep (s ∷ late) t t' (mid, first, rest) = ap (λ (x : Tier). x.groups) (sym first) ∙ commits_keep late mid t' rest

front_of : (flushed : List JournalEntry) (late : List Sealed) (t t' : Tier) → RecallsAll (flushed ++ map Commits late) t t' → Front flushed t t'
front_of [] late t t' all = record { mid = t; recalls = refl; groups = commits_keep late t t' all }
front_of (e ∷ flushed) late t t' (mid, first, rest) =
    let r = front_of flushed late mid t' rest in
    record { mid = r.mid; recalls = (mid, first, r.recalls); groups = r.groups }

next_rises : (n : ℕ) (late : List Sealed) → n ≤ fold next_with n (map Commits late)
next_rises n [] = omega arith
next_rises n (s ∷ late) =
    let up : n ≤ max n (s.ticket.0 + 1) = le-max_left n (s.ticket.0 + 1) in
    let more = next_rises (max n (s.ticket.0 + 1)) late in
    omega (arith, up, more)

pub crash_leaves : (w : World) (early : List Sealed) (settings : Settings) (moment : ℕ) → w.tier.next ≤ 2 ^ 63 → IsJournalled w early → CrashLeaves w early settings moment
crash_leaves w early settings moment cap j = record {
  matched = record { backing = j.backing; leaves = j.leaves; matched = left.matched; last = omega (arith, up, below, cap) };
  catalog = other.left;
  recalls = other.recalls;
  alike = alike_trans other.left.groups j.catalog.groups w.tier.groups
      (subst (AreAlike other.left.groups) front.groups (alike_back front.mid.groups other.left.groups other.same.groups)) j.alike;
  late = j.late;
  left = left;
}
  where
    schema : List TableDef
    schema = j.backing.schema

    left : IsLeft early (early ++ j.late) (notes_of j.backing.schema w.journal.flushed) w.history
    left = crash_left (Rattle.recovery.specs.Journalled.seen_as j.backing.schema w early j.late) early early j.stands [] (sym (append-nil early))

    front : Front w.journal.flushed (opened j.settings 0 j.backing.schema) j.catalog
    front = front_of w.journal.flushed j.late (opened j.settings 0 j.backing.schema) j.catalog (subst (λ l. RecallsAll (w.journal.flushed ++ l) (opened j.settings 0 j.backing.schema) j.catalog) j.tail j.recalls)

    other : Leaves w.journal.flushed (opened settings moment j.backing.schema) front.mid
    other = all_same w.journal.flushed (opened j.settings 0 j.backing.schema) (opened settings moment j.backing.schema) front.mid (record { schema = refl; next = refl; groups = tt }) front.recalls

    up : next_behind w.journal.flushed ≤ next_behind (w.journal.flushed ++ w.journal.tail)
    up = subst (λ n. next_behind w.journal.flushed ≤ n) (sym (fold-append next_with 1 w.journal.flushed w.journal.tail ∙ ap (fold next_with (next_behind w.journal.flushed)) j.tail)) (next_rises (next_behind w.journal.flushed) j.late)

    below : next_behind (w.journal.flushed ++ w.journal.tail) ≤ w.tier.next
    below = j.next
