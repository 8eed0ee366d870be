-- The state that a group is a cache of, as far as its tables go.
use Rattle.std.proofs.Common.{◌≡◌, ℕ, zero, suc, ◌⊎◌, inl, inr, Bool, true, false, cond, Option, Some, None, List, [], ◌∷◌, ◌++◌, length, take, drop, slice_get, unwrap_or, refl, sym, ap, subst, ◌∙◌, arith}
use Rattle.std.specs.Option.{option_and_then}
use Rattle.std.specs.FinMap as fm
use Rattle.row_types.specs.declared.value.Value.{Value}
use Rattle.row_types.specs.Order.{key_order}
use Rattle.tier_base.specs.declared.number.TableId.{TableId}
use Rattle.table_defs.specs.declared.definition.TableDef.{TableDef}
use Rattle.indexed_rows.specs.Rows.{Table}
use Rattle.table_state.specs.declared.history.Entry.{Entry}
use Rattle.table_state.specs.Histories.{state_at, state_from, state_of}
use Rattle.table_state.specs.Tables.{TableState, table_at}
use Rattle.table_state.proofs.HistoryLaws.{state_of-append}
use Rattle.evaluator.specs.Cascades.{key_in}
use Rattle.order_laws.specs.Commits.{virtual_state}
use Rattle.order_laws.proofs.CountLaws.{get_front, stays_known}
use Rattle.cache_tier.specs.Groups.{Group, covers, is_read_only}
use Rattle.cache_tier.specs.Shown.{root_key, state_behind}
use Rattle.cache_tier.specs.Worlds.{World}
use Rattle.cache_tier.specs.StandingBetween.{IsCatalogued, Stands}
use Rattle.cache_tier.proofs.ChosenGroups.{each_at}
use Rattle.cache_tier.proofs.HistoryKeeps.{root_covers}
use Rattle.cache_tier.proofs.SessionLaws.{known}
use Rattle.cache_tier.proofs.ShownTables.{some_def}
use Rattle.cache_tier.proofs.SoundStates.{IsSoundState, sound_history}
use Rattle.cache_tier.proofs.TableLaws.{covered_defined}

abbrev Row : Type 0
Row = List Value

-- each table of the group has its definition, or no rows; and root rows stand under their keys
pub record IsBehind (schema : List TableDef) (g : Group) (s : TableState) : Type 0 where
  pub known : (u : TableId) → covers u g ≡ true → (slice_get s.schema u.0 ≡ slice_get schema u.0) ⊎ (table_at s u ≡ fm.empty)
  pub rooted : (k r : Row) → fm.get (table_at s g.def.tree.root.table) k ≡ Some r → root_key s g r ≡ k

parts : {X : Type 0} (xs : List X) (n : ℕ) → take n xs ++ drop n xs ≡ xs
parts [] zero = refl
parts [] (suc n) = refl
parts (x ∷ xs) zero = refl
parts (x ∷ xs) (suc n) = ap (λ ys. x ∷ ys) (parts xs n)

none_both : {X Y : Type 0} (xs : List X) (ys : List Y) (i : ℕ) → length ys ≡ length xs → slice_get xs i ≡ None → slice_get ys i ≡ None
none_both [] [] i long e = refl
none_both [] (y ∷ ys) i long e = absurd (omega (arith, long))
none_both (x ∷ xs) [] i long e = refl
none_both (x ∷ xs) (y ∷ ys) zero long e = cc
none_both (x ∷ xs) (y ∷ ys) (suc i) long e = none_both xs ys i (omega (arith, long)) e

from_there : (h : List Entry) (n : ℕ) (s b : TableState) → state_at h n ≡ Some s → state_of h ≡ Some b → state_from (drop n h) s ≡ Some b
from_there h n s b at leaves =
    sym (ap (option_and_then (state_from (drop n h))) at) ∙ sym (state_of-append (take n h) (drop n h)) ∙ ap state_of (parts h n) ∙ leaves

module _ (w : World) (x : Stands w) (place : ℕ) (g : Group) (at : slice_get w.tier.groups place ≡ Some g) where
  pub defined : (u : TableId) → covers u g ≡ true → (d : TableDef) × (slice_get w.tier.schema u.0 ≡ Some d)
  defined u c = some_def (slice_get w.tier.schema u.0) (covered_defined w.tier.schema g u (each_at (IsCatalogued w.tier.schema) w.tier.groups place g x.catalog.each at) c)

  rooted_by : (s : TableState) → IsSoundState s → ((u : TableId) → covers u g ≡ true → (slice_get s.schema u.0 ≡ slice_get w.tier.schema u.0) ⊎ (table_at s u ≡ fm.empty))
      → (k r : Row) → fm.get (table_at s g.def.tree.root.table) k ≡ Some r → root_key s g r ≡ k
  rooted_by s sound known_by k r e = by (known_by g.def.tree.root.table (root_covers g))
    where
      by : (slice_get s.schema g.def.tree.root.table.0 ≡ slice_get w.tier.schema g.def.tree.root.table.0) ⊎ (table_at s g.def.tree.root.table ≡ fm.empty) → root_key s g r ≡ k
      by (inl same) =
          let d = defined g.def.tree.root.table (root_covers g) in
          ap (λ o. key_in o r) (same ∙ d.1) ∙ sound.keyed g.def.tree.root.table d.0 (same ∙ d.1) k r e
      by (inr none) = let wrong : None ≡ Some r = sym (fm.get-empty key_order k) ∙ ap (λ (m : Table). fm.get m k) (sym none) ∙ e in cc

  behind_virtual : IsBehind w.tier.schema g x.flow.stand.over.virtual
  behind_virtual =
      let k = known w x in
      let front : (u : TableId) → covers u g ≡ true → (slice_get x.flow.stand.over.virtual.schema u.0 ≡ slice_get w.tier.schema u.0) ⊎ (table_at x.flow.stand.over.virtual u ≡ fm.empty) =
      λ u c. (let d = defined u c in inl (ap (λ l. slice_get l u.0) k.front ∙ get_front w.tier.schema k.more u.0 d.0 d.1 ∙ sym d.1)) in
      record { known = front; rooted = rooted_by x.flow.stand.over.virtual k.sound front }

  behind_position : (n : ℕ) (s : TableState) → state_at w.history n ≡ Some s → IsBehind w.tier.schema g s
  behind_position n s there = record { known = known_by; rooted = rooted_by s sound known_by }
    where
      sound : IsSoundState s
      sound = sound_history (take n w.history) s there

      known_by : (u : TableId) → covers u g ≡ true → (slice_get s.schema u.0 ≡ slice_get w.tier.schema u.0) ⊎ (table_at s u ≡ fm.empty)
      known_by u c = by (slice_get s.schema u.0) refl
        where
          over : TableState
          over = x.flow.stand.over.backing

          d : (d : TableDef) × (slice_get w.tier.schema u.0 ≡ Some d)
          d = defined u c

          its : slice_get x.flow.stand.over.backing.schema u.0 ≡ Some (defined u c).0
          its =
              let f = x.schema.front x.flow.stand.over.backing x.flow.stand.over.leaves in
              ap (λ l. slice_get l u.0) f.1 ∙ get_front w.tier.schema f.0 u.0 (defined u c).0 (defined u c).1

          by : (o : Option TableDef) → slice_get s.schema u.0 ≡ o → (slice_get s.schema u.0 ≡ slice_get w.tier.schema u.0) ⊎ (table_at s u ≡ fm.empty)
          by None e = inr (ap (λ o. unwrap_or o fm.empty) (none_both s.schema s.tables u.0 sound.whole e))
          by (Some b) e =
              let later = stays_known (drop n w.history) s x.flow.stand.over.backing u.0 b (from_there w.history n s x.flow.stand.over.backing there x.flow.stand.over.leaves) e in
              let both : Some b ≡ Some (defined u c).0 = sym later ∙ its in
              inl (e ∙ both ∙ sym (defined u c).1)

  -- whatever kind of group it is
  pub behind : (s : TableState) → state_behind w.history w.tier.log g ≡ Some s → IsBehind w.tier.schema g s
  behind s is = by (is_read_only g) is
    where
      position : (o : Option ℕ) → option_and_then (state_at w.history) o ≡ Some s → IsBehind w.tier.schema g s
      position None e = cc
      position (Some n) e = behind_position n s e

      by : (b : Bool) → cond b (option_and_then (state_at w.history) g.position) (virtual_state w.history w.tier.log) ≡ Some s → IsBehind w.tier.schema g s
      by true e = position g.position e
      by false e =
          let both : Some x.flow.stand.over.virtual ≡ Some s = sym (known w x).v_is ∙ e in
          let same : x.flow.stand.over.virtual ≡ s = cc in
          subst (IsBehind w.tier.schema g) same behind_virtual
