-- The keys that leave a store are those that leave in a world.
use Rattle.std.proofs.Common.{◌≡◌, ◌-◌, ℕ, zero, suc, ℤ, Bool, true, false, not, cond, ◌&&◌, ◌||◌, nat_lt, Option, Some, None, is_some, List, [], ◌∷◌, ◌++◌, filter, length, map, reverse, slice_get, refl, sym, ap, ◌∙◌}
use Rattle.std.proofs.lemmas.List.{reverse-append}
use Rattle.std.specs.Bool.{MatchBool}
use Rattle.std.specs.Option.{option_and_then}
use Rattle.std.specs.FinMap as fm
use Rattle.row_types.specs.declared.value.Value.{Value}
use Rattle.indexed_rows.specs.Rows.{Table, is_same, key_of, value_at}
use Rattle.indexed_rows.proofs.EntryLaws.{same_itself}
use Rattle.table_state.specs.Histories.{state_at}
use Rattle.order_laws.specs.Commits.{virtual_state}
use Rattle.instances.specs.Views.{kept_at, passes, root_rows}
use Rattle.instances.proofs.Gathering.{entry_found}
use Rattle.group_store.specs.Stores.{Kept}
use Rattle.cache_tier.specs.declared.group.AgingRule.{AgingRule}
use Rattle.cache_tier.specs.declared.group.AgingRule.TheVariants.{ByTime, LastUse}
use Rattle.cache_tier.specs.Aging.{horizon_at, later, leaving, oldest}
use Rattle.cache_tier.specs.Groups.{Group, has_list, is_explicit, is_key, is_writethrough}
use Rattle.cache_tier.specs.Locks.{is_busy}
use Rattle.cache_tier.specs.Shown.{exceeds, is_past, root_key, shows_root, state_behind}
use Rattle.cache_tier.specs.StandingBetween.{HasKeys, IsCatalogued}
use Rattle.cache_tier.specs.Worlds.{World}
use Rattle.cache_tier.proofs.ChosenGroups.{each_at}
use Rattle.cache_tier.proofs.SessionLaws.{known}
use Rattle.cache_tier.proofs.ShownTables.{root_plain}
use Rattle.stored_tier.specs.declared.clock.Pace.{Pace}
use Rattle.stored_tier.specs.declared.tier.Tier.{Tier as Stored}
use Rattle.stored_tier.specs.Lists.{HasKeysOf, IsListed, is_by_use}
use Rattle.stored_tier.specs.Performing.{StandsFor}
use Rattle.stored_tier.specs.Stored.{IsSound, without_list}
use Rattle.aging_cycles.specs.Busy.{is_busy_in, is_held_by, owns_of}
use Rattle.group_store.specs.Held.{is_instance_held}
use Rattle.aging_cycles.specs.Cycles.{expired_in, is_expired, leaving_by}
use Rattle.aging_cycles.proofs.Places.{was_true}
use Rattle.aging_cycles.proofs.RootRows.{plain_roots}
use Rattle.aging_cycles.proofs.Shows.{keyed, root_is, store_root}
use Rattle.aging_cycles.proofs.Walks.{filter_end, no_end}
use Rattle.aging_cycles.proofs.Writers.{busy_is, idle}

abbrev Row : Type 0
Row = List Value

-- tests that agree on the keys that there are

oldest_alike : (n : ℕ) (busy other : Row → Bool) (keys : List Row) → ((q : Row) → is_key keys q ≡ true → busy q ≡ other q) → oldest n busy keys ≡ oldest n other keys
oldest_alike n busy other [] same = refl
oldest_alike n busy other (k ∷ keys) same =
    (λ i. cond (same k (ap (λ b. b || is_key keys k) (same_itself k k refl)) i) (oldest_alike n busy other keys later i) (cond (nat_lt 0 n) (k ∷ oldest_alike (n - 1) busy other keys later i) []))
  where
    later : (q : Row) → is_key keys q ≡ true → busy q ≡ other q
    later q e = same q (ap (λ b. is_same q k || b) e ∙ or_true (is_same q k))
      where
        or_true : (b : Bool) → (b || true) ≡ true
        or_true true = refl
        or_true false = refl

leaving_alike : (high low : ℕ) (busy other : Row → Bool) (keys : List Row) → ((q : Row) → is_key keys q ≡ true → busy q ≡ other q) → leaving high low busy keys ≡ leaving high low other keys
leaving_alike high low busy other keys same = ap (λ l. cond (nat_lt high (length keys)) l []) (oldest_alike (length keys - low) busy other keys same)

pub turned_end : {X : Type 0} (x : X) (xs : List X) → reverse (x ∷ xs) ≡ reverse xs ++ x ∷ []
turned_end x xs = reverse-append (x ∷ []) xs

filter_turned : {X : Type 0} (p : X → Bool) (xs : List X) → filter p (reverse xs) ≡ reverse (filter p xs)
filter_turned p [] = refl
filter_turned p (x ∷ xs) =
    ap (filter p) (turned_end x xs) ∙ filter_end p (reverse xs) x ∙ ap (λ l. l ++ cond (p x) (x ∷ []) []) (filter_turned p xs) ∙ by (p x)
  where
    by : (b : Bool) → reverse (filter p xs) ++ cond b (x ∷ []) [] ≡ reverse (cond b (x ∷ filter p xs) (filter p xs))
    by true = sym (turned_end x (filter p xs))
    by false = no_end (reverse (filter p xs))

filter_alike : {X : Type 0} (p q : X → Bool) (xs : List X) → ((i : ℕ) (x : X) → slice_get xs i ≡ Some x → p x ≡ q x) → filter p xs ≡ filter q xs
filter_alike p q [] same = refl
filter_alike p q (x ∷ xs) same = λ i. cond (same 0 x refl i) (x ∷ filter_alike p q xs (λ j y at. same (suc j) y at) i) (filter_alike p q xs (λ j y at. same (suc j) y at) i)

-- the entry of a row at a place
value_there : (es : List (Row × Row)) (i : ℕ) (row : Row) → slice_get (map (λ (e : Row × Row). e.1) es) i ≡ Some row → (k : Row) × (slice_get es i ≡ Some (k, row))
value_there [] i row at = cc
value_there (e ∷ es) zero row at = let same : e.1 ≡ row = cc in (e.0, λ i. Some (e.0, same i))
value_there (e ∷ es) (suc i) row at = value_there es i row at

expired_alike : (horizon : Option ℤ) (column : ℕ) (busy other : Row → Bool) (columns : List ℕ) (rows : Table) → ((k r : Row) → fm.get rows k ≡ Some r → key_of columns r ≡ k)
    → ((q : Row) → fm.contains_key rows q ≡ true → busy q ≡ other q)
    → expired_in horizon column busy columns rows ≡ expired_in horizon column other columns rows
expired_alike horizon column busy other columns rows under same =
    ap (map (key_of columns)) (
    filter_turned (λ row. is_expired horizon column busy (key_of columns row) row) (fm.values rows)
    ∙ ap reverse (filter_alike (λ row. is_expired horizon column busy (key_of columns row) row) (λ row. is_expired horizon column other (key_of columns row) row) (fm.values rows) each)
    ∙ sym (filter_turned (λ row. is_expired horizon column other (key_of columns row) row) (fm.values rows)))
  where
    each : (i : ℕ) (row : Row) → slice_get (fm.values rows) i ≡ Some row → is_expired horizon column busy (key_of columns row) row ≡ is_expired horizon column other (key_of columns row) row
    each i row at =
        let (k, there) = value_there (fm.entries rows) i row at in
        let found = entry_found rows i (k, row) there in
        ap (λ b. not (is_past horizon (value_at row column)) && not b)
        (same (key_of columns row) (ap (fm.contains_key rows) (under k row found) ∙ ap is_some found))

module _ (t : Stored) (w : World) (sound : IsSound t) (stands : StandsFor t w) (place : ℕ) (g : Group) (at : slice_get w.tier.groups place ≡ Some g) (store : Kept) (kept : slice_get t.stores.items place ≡ Some store) (hidden : Table) (listed : IsListed g store hidden) where
  -- a key of the list of a writethrough group has its root row in the store
  rooted : is_writethrough g ≡ true → (q : Row) → is_key g.keys q ≡ true → fm.contains_key (kept_at store.tables 0) q ≡ true
  rooted writes q e =
      of (fm.get (root_rows stands.stands.flow.stand.over.virtual g.def.tree.root) q) refl
    where
      reads : (b : Bool) → not b ≡ true → b ≡ false
      reads true x = cc
      reads false x = refl

      is : state_behind w.history w.tier.log g ≡ Some stands.stands.flow.stand.over.virtual
      is = ap (λ b. cond b (option_and_then (state_at w.history) g.position) (virtual_state w.history w.tier.log)) (reads _ writes) ∙ (known w stands.stands).v_is

      its : HasKeys stands.stands.flow.stand.over.virtual g
      its = each_at (HasKeys stands.stands.flow.stand.over.virtual) w.tier.groups place g stands.stands.keys at

      there : fm.contains_key (root_rows stands.stands.flow.stand.over.virtual g.def.tree.root) q ≡ true
      there =
          ap (λ (m : Table). fm.contains_key m q) (plain_roots stands.stands.flow.stand.over.virtual g.def.tree
          (root_plain g.def.tree ((each_at (IsCatalogued w.tier.schema) w.tier.groups place g stands.stands.catalog.each at).plain writes)))
          ∙ its.rooted writes q e

      shows : (row : Row) → fm.get (root_rows stands.stands.flow.stand.over.virtual g.def.tree.root) q ≡ Some row → shows_root stands.stands.flow.stand.over.virtual g row ≡ true
      shows row f =
          ap (λ b. cond b (cond (is_explicit g) g.loaded (is_key g.keys (root_key stands.stands.flow.stand.over.virtual g row)) && exceeds g row) (is_key g.keys (root_key stands.stands.flow.stand.over.virtual g row))) (reads _ writes)
          ∙ ap (is_key g.keys) (root_is t w sound stands place g at store kept stands.stands.flow.stand.over.virtual is q row f) ∙ e

      of : (o : Option Row) → fm.get (root_rows stands.stands.flow.stand.over.virtual g.def.tree.root) q ≡ o → fm.contains_key (kept_at store.tables 0) q ≡ true
      of None f = let wrong : false ≡ true = sym (ap is_some f) ∙ there in cc
      of (Some row) f =
          ap is_some (store_root t w sound stands place g at store kept stands.stands.flow.stand.over.virtual is q
          ∙ ap (λ (o : Option Row). cond (passes (shows_root stands.stands.flow.stand.over.virtual g) o) o None) f
          ∙ ap (λ b. cond b (Some row) None) (shows row f))

  -- a key of the store
  busy_key : has_list g ≡ true → g.def.aging ≡ Some LastUse → (q : Row) → is_key store.keys q ≡ true → is_busy_in t.schema (owns_of t.sessions) (without_list g) store q ≡ is_busy w.history w.tier g q
  busy_key has aging q e = by (is_writethrough g) refl
    where
      same : g.keys ≡ store.keys
      same = was_true (has_list g && is_by_use g.def.aging) (g.keys ≡ store.keys) (MatchBool g.def.dynamic (HasKeysOf g.keys store hidden) (Unit {0})) (λ i. has i && is_by_use (aging i)) listed

      reads : (b : Bool) → not b ≡ false → b ≡ true
      reads true x = refl
      reads false x = cc

      by : (b : Bool) → is_writethrough g ≡ b → is_busy_in t.schema (owns_of t.sessions) (without_list g) store q ≡ is_busy w.history w.tier g q
      by true writes = busy_is t w sound stands place g at store kept q (rooted writes q (ap (λ l. is_key l q) same ∙ e))
      by false isnt =
          ap (λ b. b && is_instance_held (is_held_by t.schema (owns_of t.sessions)) store q) isnt
          ∙ sym (idle t w sound stands place g at store kept (reads _ isnt) q)

  pub leaving_is : (pace : Pace) (now : ℕ) (o : Option AgingRule) → g.def.aging ≡ o
      → leaving_by pace now (is_busy_in t.schema (owns_of t.sessions) (without_list g) store) (without_list g) store o ≡ leaving_by pace now (is_busy w.history w.tier g) (without_list g) store o
  leaving_is pace now None e = refl
  leaving_is pace now (Some (ByTime rule)) e =
      expired_alike (Some (later g.horizon (horizon_at now rule))) rule.column (is_busy_in t.schema (owns_of t.sessions) (without_list g) store) (is_busy w.history w.tier g) store.key (kept_at store.tables 0)
      (keyed t w sound stands place g at store kept) (busy_is t w sound stands place g at store kept)
  leaving_is pace now (Some LastUse) e = by (has_list g) refl
    where
      by : (b : Bool) → has_list g ≡ b → cond b (leaving pace.lru_high pace.lru_low (is_busy_in t.schema (owns_of t.sessions) (without_list g) store) store.keys) [] ≡ cond b (leaving pace.lru_high pace.lru_low (is_busy w.history w.tier g) store.keys) []
      by false isnt = refl
      by true has = leaving_alike pace.lru_high pace.lru_low (is_busy_in t.schema (owns_of t.sessions) (without_list g) store) (is_busy w.history w.tier g) store.keys (busy_key has e)
