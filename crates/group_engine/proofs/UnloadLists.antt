-- The keys of a store that instances leave, and the list of its group.
use Rattle.std.proofs.Common.{◌≡◌, Bool, true, false, cond, not, ◌&&◌, ◌||◌, List, [], ◌∷◌, filter, is_some, refl, sym, ap, ◌∙◌}
use Rattle.std.specs.Bool.{MatchBool}
use Rattle.std.specs.Option.{option_and_then}
use Rattle.std.specs.FinMap as fm
use Rattle.row_types.specs.declared.value.Value.{Value}
use Rattle.indexed_rows.specs.Rows.{Table}
use Rattle.instances.specs.Views.{kept_at, rows_where}
use Rattle.row_types.specs.Order.{key_order}
use Rattle.table_state.specs.Histories.{state_at}
use Rattle.table_state.specs.Tables.{TableState}
use Rattle.order_laws.specs.Commits.{virtual_state}
use Rattle.group_store.specs.Stores.{Kept}
use Rattle.cache_tier.specs.Conditions.{matches}
use Rattle.cache_tier.specs.Groups.{Group, has_list, is_explicit, is_key, is_read_only, without_keys}
use Rattle.cache_tier.specs.Shown.{exceeds, instances_where, no_rows, root_key, shown_roots, shown_where, state_behind}
use Rattle.cache_tier.specs.StandingBetween.{Stands}
use Rattle.cache_tier.specs.Targets.{Target}
use Rattle.cache_tier.specs.UnloadSteps.{gone_keys, listed_in, matching_shown}
use Rattle.cache_tier.specs.Worlds.{World}
use Rattle.cache_tier.proofs.KeyListLaws.{key_in_map, key_without}
use Rattle.stored_tier.specs.Lists.{HasKeysOf, IsListed, is_by_use}

abbrev Row : Type 0
Row = List Value

-- keys that leave

filter_alike : (p q : Row → Bool) (xs : List Row) → ((k : Row) → p k ≡ q k) → filter p xs ≡ filter q xs
filter_alike p q [] same = refl
filter_alike p q (x ∷ xs) same = ap (λ b. cond b (x ∷ filter p xs) (filter p xs)) (same x) ∙ ap (λ l. cond (q x) (x ∷ l) l) (filter_alike p q xs same)

pub without_alike : (a b keys : List Row) → ((k : Row) → is_key a k ≡ is_key b k) → without_keys a keys ≡ without_keys b keys
without_alike a b keys same = filter_alike (λ k. not (is_key a k)) (λ k. not (is_key b k)) keys (λ k. ap not (same k))

-- the list shrinks as the keys of the store do, where the group hides none
pub shrunk_listed : (g : Group) (gone : List Row) (s n : Kept) (hidden : Table) → n.keys ≡ without_keys gone s.keys → hidden ≡ fm.empty → IsListed g s hidden → IsListed (record g { keys = without_keys gone g.keys }) n hidden
shrunk_listed g gone s n hidden keys none is = by (has_list g && is_by_use g.def.aging) g.def.dynamic is
  where
    none_there : (k : Row) → fm.contains_key hidden k ≡ false
    none_there k = ap (λ (m : Table). fm.contains_key m k) none ∙ ap is_some (fm.get-empty key_order k)

    or_false : (b : Bool) → (b || false) ≡ b
    or_false true = refl
    or_false false = refl

    by : (u d : Bool) → MatchBool u (g.keys ≡ s.keys) (MatchBool d (HasKeysOf g.keys s hidden) (Unit {0})) → MatchBool u (without_keys gone g.keys ≡ n.keys) (MatchBool d (HasKeysOf (without_keys gone g.keys) n hidden) (Unit {0}))
    by true d same = ap (without_keys gone) same ∙ sym keys
    by false true are = λ k.
        key_without gone g.keys k
        ∙ ap (λ b. b && not (is_key gone k)) (are k ∙ ap (λ b. is_key s.keys k || b) (none_there k) ∙ or_false (is_key s.keys k))
        ∙ sym (key_without gone s.keys k)
        ∙ ap (λ l. is_key l k) (sym keys)
        ∙ sym (ap (λ b. is_key n.keys k || b) (none_there k) ∙ or_false (is_key n.keys k))
    by false false tells = tt

-- of a writethrough group the keys of what matches leave
module _ (w : World) (x : Target) (st : Stands w) (reads : is_read_only x.group ≡ false) where
  abbrev v : TableState
  v = st.flow.stand.over.virtual

  abbrev g : Group
  g = x.group

  listed : listed_in (state_behind w.history w.tier.log x.group) x.group ≡ shown_roots w.history w.tier.log x.group
  listed =
      ap (λ b. listed_in (cond b (option_and_then (state_at w.history) g.position) (virtual_state w.history w.tier.log)) g) reads
      ∙ ap (λ o. listed_in o g) st.flow.stand.over.virtual_is
      ∙ sym (
      ap (λ b. kept_at (shown_where (cond b (option_and_then (state_at w.history) g.position) (virtual_state w.history w.tier.log)) g) 0) reads
      ∙ ap (λ o. kept_at (shown_where o g) 0) st.flow.stand.over.virtual_is
      ∙ ap (λ b. kept_at (instances_where v g.def.tree (λ row. cond b (cond (is_explicit g) g.loaded (is_key g.keys (root_key v g row)) && exceeds g row) (is_key g.keys (root_key v g row)))) 0) reads)

  pub gone_is : (k : Row) → is_key (gone_keys w x) k ≡ fm.contains_key (matching_shown w x) k
  gone_is k = ap (λ (m : Table). is_key (fm.keys (rows_where (matches x.filter x.id (no_rows w.tier) x.group) m)) k) listed ∙ key_in_map (matching_shown w x) k
