-- A group behind its cycle, with its store.
use Rattle.std.proofs.Common.{◌≡◌, ℕ, Bool, true, false, not, cond, ◌&&◌, ◌||◌, Option, Some, None, is_some, ℤ, int_lt, List, [], slice_get, refl, sym, ap, ◌∙◌, arith}
use Rattle.std.proofs.lemmas.Int.{ints}
use Rattle.std.specs.Bool.{MatchBool}
use Rattle.std.specs.FinMap as fm
use Rattle.row_types.specs.declared.value.Value.{Value}
use Rattle.row_types.specs.declared.value.Value.TheVariants.{Null, Number, Text, Time}
use Rattle.row_types.specs.Order.{key_order}
use Rattle.indexed_rows.specs.Rows.{Table, key_of, value_at}
use Rattle.table_state.specs.Tables.{TableState}
use Rattle.instances.specs.Views.{kept_at, passes, root_rows}
use Rattle.group_store.specs.Stores.{Kept, SameButSpare}
use Rattle.order_laws.proofs.TruthLaws.{both_true}
use Rattle.cache_tier.specs.declared.group.AgingRule.{AgingRule}
use Rattle.cache_tier.specs.declared.group.AgingRule.TheVariants.{ByTime, LastUse}
use Rattle.cache_tier.specs.declared.group.TimeRule.{TimeRule}
use Rattle.cache_tier.specs.Aging.{expired, horizon_at, is_at_or_under, later, leaving, with_horizon}
use Rattle.cache_tier.specs.Groups.{Group, has_list, is_explicit, is_key, is_read_only, without_keys}
use Rattle.cache_tier.specs.Locks.{is_busy}
use Rattle.cache_tier.specs.Shown.{exceeds, exceeds_by, is_past, root_key, shown, shown_roots, shown_where, shows_root, state_behind}
use Rattle.cache_tier.specs.Worlds.{World}
use Rattle.cache_tier.proofs.KeyListLaws.{key_left, key_without}
use Rattle.cache_tier.proofs.SessionLaws.{known}
use Rattle.stored_tier.specs.declared.tier.Tier.{Tier as Stored}
use Rattle.stored_tier.specs.Lists.{HasKeysOf, IsListed, hides_keys, is_by_time, is_by_use}
use Rattle.stored_tier.specs.Performing.{StandsFor}
use Rattle.stored_tier.specs.Stored.{IsSound}
use Rattle.aging_cycles.specs.Cycles.{expired_in, is_expired}
use Rattle.aging_cycles.specs.Running.{cut_all, hidden_all}
use Rattle.aging_cycles.proofs.KeyLists.{cut_keys, hidden_has, key_turned}
use Rattle.aging_cycles.proofs.RootRows.{Drops, keys_picked, nothing_kept}
use Rattle.aging_cycles.proofs.ShownPlaces.{shown_by_keys, shown_virtual}
use Rattle.aging_cycles.proofs.Shows.{keyed, left_shows, root_is, roots_are, store_root}
use Rattle.aging_cycles.proofs.Writers.{idle}

abbrev Row : Type 0
Row = List Value

-- truth

and_true : (a : Bool) → (a && true) ≡ a
and_true true = refl
and_true false = refl

and_false : (a : Bool) → (a && false) ≡ false
and_false true = refl
and_false false = refl

or_false : (a : Bool) → (a || false) ≡ a
or_false true = refl
or_false false = refl

-- of keys that leave
list_fits : (ro ex loaded k g x : Bool) → (ro ≡ true → (ex ≡ false) × (x ≡ true)) → (cond ro (cond ex loaded k && x) k && not g) ≡ cond ro (cond ex loaded (k && not g) && x) (k && not g)
list_fits false ex loaded k g x h = refl
list_fits true true loaded k g x h = let z = (h refl).0 in cc
list_fits true false loaded k g false h = let z = (h refl).1 in cc
list_fits true false loaded k g true h = ap (λ b. b && not g) (and_true k) ∙ sym (and_true (k && not g))

-- of times that have passed
time_fits : (base old past busy : Bool) → busy ≡ false → (past ≡ true → old ≡ true) → ((base && old) && not ((base && old) && (not past && not busy))) ≡ (base && past)
time_fits false old past busy idle grows = refl
time_fits true false false busy idle grows = refl
time_fits true false true busy idle grows = let z = grows refl in cc
time_fits true true true true idle grows = cc
time_fits true true true false idle grows = refl
time_fits true true false true idle grows = cc
time_fits true true false false idle grows = refl

-- horizons grow

past_later : (m n seconds : ℤ) (b : Bool) → int_lt m n ≡ b → int_lt (cond b n m) seconds ≡ true → int_lt m seconds ≡ true
past_later m n seconds true e h = grind (arith, ints)
past_later m n seconds false e h = h

past_grows : (old : Option ℤ) (n : ℤ) (value : Value) → is_past (Some (later old n)) value ≡ true → is_past old value ≡ true
past_grows None n value h = refl
past_grows (Some m) n Null h = cc
past_grows (Some m) n (Number number) h = cc
past_grows (Some m) n (Text bytes) h = cc
past_grows (Some m) n (Time seconds) h = past_later m n seconds (int_lt m n) refl h

-- choices

chosen_true : (b : Bool) (P Q : Type 0) → b ≡ true → P → MatchBool b P Q
chosen_true true P Q e p = p
chosen_true false P Q e p = cc

chosen_false : (b : Bool) (P Q : Type 0) → b ≡ false → Q → MatchBool b P Q
chosen_false true P Q e q = cc
chosen_false false P Q e q = q

pub was_true : (b : Bool) (P Q : Type 0) → b ≡ true → MatchBool b P Q → P
was_true true P Q e m = m
was_true false P Q e m = cc

was_false : (b : Bool) (P Q : Type 0) → b ≡ false → MatchBool b P Q → Q
was_false true P Q e m = cc
was_false false P Q e m = m

by_choice : (b : Bool) (P : Type 0) → (b ≡ true → P) → MatchBool b P (Unit {0})
by_choice true P f = f refl
by_choice false P f = tt

-- a group behind its cycle, its store, and the hidden rows
pub record PlaceAged (w : World) (g h : Group) (left : Kept) (behind : Table) : Type 0 where
  pub shows : (p : ℕ) → kept_at left.tables p ≡ kept_at (shown w.history w.tier.log h) p
  pub lists : IsListed h left behind

-- a group without a list is an explicit READONLY one
no_list : (dynamic ro : Bool) → (dynamic || not ro) ≡ false → (dynamic ≡ false) × (ro ≡ true)
no_list true ro e = cc
no_list false true e = (refl, refl)
no_list false false e = cc

-- a READONLY one with a list is dynamic
dynamic_list : (dynamic ro : Bool) → (dynamic || not ro) ≡ true → ro ≡ true → not dynamic ≡ false
dynamic_list true ro e h = refl
dynamic_list false true e h = cc
dynamic_list false false e h = cc

module _ (t : Stored) (w : World) (sound : IsSound t) (stands : StandsFor t w) (place : ℕ) (g : Group) (at : slice_get w.tier.groups place ≡ Some g) (store : Kept) (kept : slice_get t.stores.items place ≡ Some store) (hidden : Table) (listed : IsListed g store hidden)
    (nothing : hides_keys g ≡ false → hidden ≡ fm.empty) where
  abbrev S : Table
  S = kept_at store.tables 0

  abbrev busy : Row → Bool
  busy = is_busy w.history w.tier g

  -- what the store has of the list
  rows_listed : has_list g ≡ true → (q r : Row) → fm.get (kept_at store.tables 0) q ≡ Some r → is_key g.keys q ≡ true
  rows_listed has q r e = by (state_behind w.history w.tier.log g) refl
    where
      shows : (ro ex loaded k x : Bool) → (ro ≡ true → ex ≡ false) → cond ro (cond ex loaded k && x) k ≡ true → k ≡ true
      shows false ex loaded k x h y = y
      shows true true loaded k x h y = let z = h refl in cc
      shows true false loaded k x h y = (both_true k x y).0

      of : (s : TableState) → state_behind w.history w.tier.log g ≡ Some s → (o : Option Row) → fm.get (root_rows s g.def.tree.root) q ≡ o → is_key g.keys q ≡ true
      of s is None there =
          let wrong : None ≡ Some r = sym (store_root t w sound stands place g at store kept s is q ∙ ap (λ (o : Option Row). cond (passes (shows_root s g) o) o None) there) ∙ e in cc
      of s is (Some row) there =
          let shown_so : cond (shows_root s g row) (Some row) None ≡ Some r = sym (store_root t w sound stands place g at store kept s is q ∙ ap (λ (o : Option Row). cond (passes (shows_root s g) o) o None) there) ∙ e in
          ap (is_key g.keys) (sym (root_is t w sound stands place g at store kept s is q row there))
          ∙ shows (is_read_only g) (is_explicit g) g.loaded (is_key g.keys (root_key s g row)) (exceeds g row) (dynamic_list g.def.dynamic (is_read_only g) has) (some (shows_root s g row) row shown_so)
        where
          some : (b : Bool) (x : Row) → cond b (Some x) None ≡ Some r → b ≡ true
          some true x y = refl
          some false x y = cc

      by : (o : Option TableState) → state_behind w.history w.tier.log g ≡ o → is_key g.keys q ≡ true
      by None is =
          let wrong : None ≡ Some r = sym (fm.get-empty key_order q) ∙ ap (λ (m : Table). fm.get m q) (sym (roots_are t w sound stands place g at store kept ∙ ap (λ o. kept_at (shown_where o g) 0) is ∙ nothing_kept 0)) ∙ e in cc
      by (Some s) is = of s is (fm.get (root_rows s g.def.tree.root) q) refl

  -- the keys that leave by time
  expired_key : (horizon : ℤ) (column : ℕ) (q : Row) → is_key (expired_in (Some horizon) column busy store.key (kept_at store.tables 0)) q ≡ passes (is_expired (Some horizon) column busy q) (fm.get (kept_at store.tables 0) q)
  expired_key horizon column q =
      key_turned (key_of store.key) (λ row. is_expired (Some horizon) column busy (key_of store.key row) row) (fm.values (kept_at store.tables 0)) q
      ∙ keys_picked store.key (is_expired (Some horizon) column busy) (kept_at store.tables 0) (keyed t w sound stands place g at store kept) q

  module _ (ks : List Row) (left : Kept) (gone : SameButSpare (cut_all ks store) left) (behind : Table) (rows : behind ≡ cond (hides_keys g) (hidden_all ks store hidden) hidden) where
    left_keys : left.keys ≡ without_keys ks store.keys
    left_keys = gone.keys ∙ cut_keys ks store

    -- by last use
    module _ (aging : g.def.aging ≡ Some LastUse) (high low : ℕ) where
      abbrev out : List Row
      out = leaving high low busy g.keys

      abbrev used_group : Group
      used_group = record g { keys = without_keys (leaving high low busy g.keys) g.keys; aged = w.tier.now }

      by_use : is_by_use g.def.aging ≡ true
      by_use = ap is_by_use aging

      pub use_listed : Drops → has_list g ≡ true → ks ≡ leaving high low busy g.keys → PlaceAged w g used_group left behind
      use_listed drops has are = record {
        shows = left_shows t w sound stands place g at store kept drops used_group ks left gone refl refl fits;
        lists = chosen_true (has_list g && is_by_use g.def.aging) (without_keys out g.keys ≡ left.keys) (MatchBool g.def.dynamic (HasKeysOf (without_keys out g.keys) left behind) (Unit {0})) both
            (ap (λ keys. without_keys out keys) same_keys ∙ ap (λ l. without_keys l store.keys) (sym are) ∙ sym left_keys);
      }
        where
          both : (has_list g && is_by_use g.def.aging) ≡ true
          both = λ i. has i && by_use i

          same_keys : g.keys ≡ store.keys
          same_keys = was_true (has_list g && is_by_use g.def.aging) (g.keys ≡ store.keys) (MatchBool g.def.dynamic (HasKeysOf g.keys store hidden) (Unit {0})) both listed

          fits : (s : TableState) → state_behind w.history w.tier.log g ≡ Some s → (k r : Row) → fm.get (root_rows s g.def.tree.root) k ≡ Some r → (shows_root s g r && not (is_key ks k)) ≡ shows_root s used_group r
          fits s is k r e =
              ap (λ l. shows_root s g r && not (is_key l k)) are
              ∙ ap (λ z. shows_root s g r && not (is_key out z)) (sym (root_is t w sound stands place g at store kept s is k r e))
              ∙ list_fits (is_read_only g) (is_explicit g) g.loaded (is_key g.keys (root_key s g r)) (is_key out (root_key s g r)) (exceeds g r)
              (λ ro. (dynamic_list g.def.dynamic (is_read_only g) has ro, ap (λ (o : Option AgingRule). exceeds_by o g.horizon r) aging))
              ∙ ap (λ b. cond (is_read_only g) (cond (is_explicit g) g.loaded b && exceeds g r) b) (sym (key_without out g.keys (root_key s g r)))

      pub use_unlisted : Drops → has_list g ≡ false → ks ≡ [] → PlaceAged w g used_group left behind
      use_unlisted drops hasnt are = record {
        shows = left_shows t w sound stands place g at store kept drops used_group ks left gone refl refl fits;
        lists = chosen_false (has_list g && is_by_use g.def.aging) (without_keys out g.keys ≡ left.keys) (MatchBool g.def.dynamic (HasKeysOf (without_keys out g.keys) left behind) (Unit {0})) (ap (λ b. b && is_by_use g.def.aging) hasnt)
            (chosen_false g.def.dynamic (HasKeysOf (without_keys out g.keys) left behind) (Unit {0}) explicit.0 tt);
      }
        where
          explicit : (g.def.dynamic ≡ false) × (is_read_only g ≡ true)
          explicit = no_list g.def.dynamic (is_read_only g) hasnt

          alike : (ro ex loaded a b x : Bool) → ro ≡ true → ex ≡ true → (cond ro (cond ex loaded a && x) a && true) ≡ cond ro (cond ex loaded b && x) b
          alike true true loaded a b x p q = and_true (loaded && x)
          alike true false loaded a b x p q = cc
          alike false ex loaded a b x p q = cc

          fits : (s : TableState) → state_behind w.history w.tier.log g ≡ Some s → (k r : Row) → fm.get (root_rows s g.def.tree.root) k ≡ Some r → (shows_root s g r && not (is_key ks k)) ≡ shows_root s used_group r
          fits s is k r e =
              ap (λ l. shows_root s g r && not (is_key l k)) are
              ∙ alike (is_read_only g) (is_explicit g) g.loaded (is_key g.keys (root_key s g r)) (is_key (without_keys out g.keys) (root_key s g r)) (exceeds g r) explicit.1 (ap not explicit.0)

    -- by time
    module _ (rule : TimeRule) (aging : g.def.aging ≡ Some (ByTime rule)) (are : ks ≡ expired_in (Some (later g.horizon (horizon_at w.tier.now rule))) rule.column (is_busy w.history w.tier g) store.key (kept_at store.tables 0)) where
      abbrev horizon : ℤ
      horizon = later g.horizon (horizon_at w.tier.now rule)

      abbrev moved : Group
      moved = with_horizon w.tier.now rule g

      not_by_use : (has_list g && is_by_use g.def.aging) ≡ false
      not_by_use = ap (λ o. has_list g && is_by_use o) aging ∙ and_false (has_list g)

      ks_key : (q : Row) → is_key ks q ≡ passes (is_expired (Some horizon) rule.column busy q) (fm.get (kept_at store.tables 0) q)
      ks_key q = ap (λ l. is_key l q) are ∙ expired_key horizon rule.column q

      -- the horizon that a row exceeds
      exceeds_old : (r : Row) → exceeds g r ≡ is_past g.horizon (value_at r rule.column)
      exceeds_old r = ap (λ (o : Option AgingRule). exceeds_by o g.horizon r) aging

      exceeds_new : (r : Row) → exceeds (with_horizon w.tier.now rule g) r ≡ is_past (Some horizon) (value_at r rule.column)
      exceeds_new r = ap (λ (o : Option AgingRule). exceeds_by o (Some horizon) r) aging

      abbrev read_group : Group
      read_group = record (with_horizon w.tier.now rule g) { aged = w.tier.now }

      pub time_read : Drops → is_read_only g ≡ true → PlaceAged w g read_group left behind
      time_read drops ro = record {
        shows = left_shows t w sound stands place g at store kept drops read_group ks left gone refl refl fits;
        lists = chosen_false (has_list g && is_by_use g.def.aging) (g.keys ≡ left.keys) (MatchBool g.def.dynamic (HasKeysOf g.keys left behind) (Unit {0})) not_by_use
            (by_choice g.def.dynamic (HasKeysOf g.keys left behind) still_listed);
      }
        where
          idles : (k : Row) → busy k ≡ false
          idles k = idle t w sound stands place g at store kept ro k

          -- of a root row in the state
          ks_root : (s : TableState) (is : state_behind w.history w.tier.log g ≡ Some s) (k r : Row) → fm.get (root_rows s g.def.tree.root) k ≡ Some r
              → is_key ks k ≡ (shows_root s g r && (not (is_past (Some horizon) (value_at r rule.column)) && not (busy k)))
          ks_root s is k r e =
              ks_key k
              ∙ ap (passes (is_expired (Some horizon) rule.column busy k)) (store_root t w sound stands place g at store kept s is k ∙ ap (λ (o : Option Row). cond (passes (shows_root s g) o) o None) e)
              ∙ of (shows_root s g r)
            where
              of : (b : Bool) → passes (is_expired (Some horizon) rule.column busy k) (cond b (Some r) None) ≡ (b && (not (is_past (Some horizon) (value_at r rule.column)) && not (busy k)))
              of true = refl
              of false = refl

          read_so : (s : TableState) (r : Row) (x : Group) → is_read_only x ≡ true → shows_root s x r ≡ (cond (is_explicit x) x.loaded (is_key x.keys (root_key s x r)) && exceeds x r)
          read_so s r x y = ap (λ b. cond b (cond (is_explicit x) x.loaded (is_key x.keys (root_key s x r)) && exceeds x r) (is_key x.keys (root_key s x r))) y

          fits : (s : TableState) → state_behind w.history w.tier.log g ≡ Some s → (k r : Row) → fm.get (root_rows s g.def.tree.root) k ≡ Some r → (shows_root s g r && not (is_key ks k)) ≡ shows_root s read_group r
          fits s is k r e =
              ap (λ b. shows_root s g r && not b) (ks_root s is k r e)
              ∙ ap (λ b. b && not (b && (not (is_past (Some horizon) (value_at r rule.column)) && not (busy k)))) (read_so s r g ro ∙ ap (λ x. cond (is_explicit g) g.loaded (is_key g.keys (root_key s g r)) && x) (exceeds_old r))
              ∙ time_fits (cond (is_explicit g) g.loaded (is_key g.keys (root_key s g r))) (is_past g.horizon (value_at r rule.column)) (is_past (Some horizon) (value_at r rule.column)) (busy k) (idles k) (past_grows g.horizon (horizon_at w.tier.now rule) (value_at r rule.column))
              ∙ ap (λ x. cond (is_explicit g) g.loaded (is_key g.keys (root_key s g r)) && x) (sym (exceeds_new r))
              ∙ sym (read_so s r read_group ro)

          -- those that leave the store are hidden
          still_listed : g.def.dynamic ≡ true → HasKeysOf g.keys left behind
          still_listed dynamic q =
              old q
              ∙ by (is_key ks q) refl
              ∙ sym ((λ i. now_left q i || now_hidden q i))
            where
              old : HasKeysOf g.keys store hidden
              old = was_true g.def.dynamic (HasKeysOf g.keys store hidden) (Unit {0}) dynamic (was_false (has_list g && is_by_use g.def.aging) (g.keys ≡ store.keys) (MatchBool g.def.dynamic (HasKeysOf g.keys store hidden) (Unit {0})) not_by_use listed)

              has : has_list g ≡ true
              has = ap (λ b. b || not (is_read_only g)) dynamic

              hides : hides_keys g ≡ true
              hides = (λ i. (ro i && dynamic i) && is_by_time (aging i))

              now_left : (k : Row) → is_key left.keys k ≡ (is_key store.keys k && not (is_key ks k))
              now_left k = ap (λ l. is_key l k) left_keys ∙ key_without ks store.keys k

              now_hidden : (k : Row) → fm.contains_key behind k ≡ (fm.contains_key hidden k || (is_key ks k && fm.contains_key (kept_at store.tables 0) k))
              now_hidden k = ap (λ (m : Table). fm.contains_key m k) (rows ∙ ap (λ b. cond b (hidden_all ks store hidden) hidden) hides) ∙ hidden_has ks store hidden k

              -- a key that leaves has a row, and is listed
              has_row : (o : Option Row) → fm.get (kept_at store.tables 0) q ≡ o → passes (is_expired (Some horizon) rule.column busy q) o ≡ true → (fm.contains_key (kept_at store.tables 0) q ≡ true) × (is_key g.keys q ≡ true)
              has_row None e h = cc
              has_row (Some r) e h = (ap is_some e, rows_listed has q r e)

              left_one : (s h c k : Bool) → c ≡ true → (s || h) ≡ k → k ≡ true → (s || h) ≡ ((s && not true) || (h || (true && c)))
              left_one s h true k e was all = was ∙ all ∙ sym (ap (λ b. b || (h || true)) (and_false s) ∙ or_true h)
                where
                  or_true : (b : Bool) → (b || true) ≡ true
                  or_true true = refl
                  or_true false = refl
              left_one s h false k e was all = cc

              stays_one : (s h c : Bool) → (s || h) ≡ ((s && not false) || (h || (false && c)))
              stays_one s h c = λ i. sym (and_true s) i || sym (or_false h) i

              by : (b : Bool) → is_key ks q ≡ b → (is_key store.keys q || fm.contains_key hidden q) ≡ ((is_key store.keys q && not (is_key ks q)) || (fm.contains_key hidden q || (is_key ks q && fm.contains_key (kept_at store.tables 0) q)))
              by true e =
                  let r = has_row (fm.get (kept_at store.tables 0) q) refl (sym (ks_key q) ∙ e) in
                  left_one (is_key store.keys q) (fm.contains_key hidden q) (fm.contains_key (kept_at store.tables 0) q) (is_key g.keys q) r.0 (sym (old q)) r.1
                  ∙ ap (λ b. (is_key store.keys q && not b) || (fm.contains_key hidden q || (b && fm.contains_key (kept_at store.tables 0) q))) (sym e)
              by false e =
                  stays_one (is_key store.keys q) (fm.contains_key hidden q) (fm.contains_key (kept_at store.tables 0) q)
                  ∙ ap (λ b. (is_key store.keys q && not b) || (fm.contains_key hidden q || (b && fm.contains_key (kept_at store.tables 0) q))) (sym e)

      abbrev timed_out : List Row
      timed_out = expired w.history w.tier (with_horizon w.tier.now rule g)

      abbrev write_group : Group
      write_group = record (with_horizon w.tier.now rule g) { keys = without_keys (expired w.history w.tier (with_horizon w.tier.now rule g)) g.keys; aged = w.tier.now }

      pub time_write : Drops → is_read_only g ≡ false → PlaceAged w g write_group left behind
      time_write drops ro = record {
        shows = left_shows t w sound stands place g at store kept drops write_group ks left gone refl refl fits;
        lists = chosen_false (has_list g && is_by_use g.def.aging) (without_keys timed_out g.keys ≡ left.keys) (MatchBool g.def.dynamic (HasKeysOf (without_keys timed_out g.keys) left behind) (Unit {0})) not_by_use
            (by_choice g.def.dynamic (HasKeysOf (without_keys timed_out g.keys) left behind) still_listed);
      }
        where
          has : has_list g ≡ true
          has = ap (λ b. g.def.dynamic || not b) ro ∙ or_true g.def.dynamic
            where
              or_true : (b : Bool) → (b || true) ≡ true
              or_true true = refl
              or_true false = refl

          out_key : (k : Row) → is_key timed_out k ≡ (is_key g.keys k && (is_at_or_under moved (fm.get (shown_roots w.history w.tier.log moved) k) && not (busy k)))
          out_key k = key_left (λ key. is_at_or_under moved (fm.get (shown_roots w.history w.tier.log moved) key) && not (busy key)) g.keys k

          -- the horizon plays no part in what it shows
          roots_moved : shown_roots w.history w.tier.log moved ≡ kept_at store.tables 0
          roots_moved =
              ap (λ ts. kept_at ts 0)
              (shown_virtual w stands.stands.flow.stand.over.virtual moved (known w stands.stands).v_is ro
              ∙ shown_by_keys stands.stands.flow.stand.over.virtual g moved (is_key g.keys) refl ro (λ q. refl)
              ∙ sym (shown_by_keys stands.stands.flow.stand.over.virtual g g (is_key g.keys) refl ro (λ q. refl))
              ∙ sym (shown_virtual w stands.stands.flow.stand.over.virtual g (known w stands.stands).v_is ro))
              ∙ sym (roots_are t w sound stands place g at store kept)

          same_key : (q : Row) → is_key ks q ≡ is_key timed_out q
          same_key q =
              ks_key q ∙ by (fm.get (kept_at store.tables 0) q) refl
              ∙ sym (out_key q ∙ ap (λ (m : Table). is_key g.keys q && (is_at_or_under moved (fm.get m q) && not (busy q))) roots_moved)
            where
              by : (o : Option Row) → fm.get (kept_at store.tables 0) q ≡ o → passes (is_expired (Some horizon) rule.column busy q) (fm.get (kept_at store.tables 0) q) ≡ (is_key g.keys q && (is_at_or_under moved (fm.get (kept_at store.tables 0) q) && not (busy q)))
              by None e = ap (passes (is_expired (Some horizon) rule.column busy q)) e ∙ sym (ap (λ o. is_key g.keys q && (is_at_or_under moved o && not (busy q))) e ∙ and_false (is_key g.keys q))
              by (Some r) e =
                  ap (passes (is_expired (Some horizon) rule.column busy q)) e
                  ∙ ap (λ x. not x && not (busy q)) (sym (exceeds_new r))
                  ∙ sym (ap (λ b. b && (not (exceeds moved r) && not (busy q))) (rows_listed has q r e))
                  ∙ sym (ap (λ o. is_key g.keys q && (is_at_or_under moved o && not (busy q))) e)

          fits : (s : TableState) → state_behind w.history w.tier.log g ≡ Some s → (k r : Row) → fm.get (root_rows s g.def.tree.root) k ≡ Some r → (shows_root s g r && not (is_key ks k)) ≡ shows_root s write_group r
          fits s is k r e =
              ap (λ b. shows_root s g r && not b) (same_key k)
              ∙ ap (λ z. shows_root s g r && not (is_key timed_out z)) (sym (root_is t w sound stands place g at store kept s is k r e))
              ∙ ap (λ b. cond b (cond (is_explicit g) g.loaded (is_key g.keys (root_key s g r)) && exceeds g r) (is_key g.keys (root_key s g r)) && not (is_key timed_out (root_key s g r))) ro
              ∙ sym (key_without timed_out g.keys (root_key s g r))
              ∙ sym (ap (λ b. cond b (cond (is_explicit g) g.loaded (is_key (without_keys timed_out g.keys) (root_key s g r)) && exceeds moved r) (is_key (without_keys timed_out g.keys) (root_key s g r))) ro)

          still_listed : g.def.dynamic ≡ true → HasKeysOf (without_keys timed_out g.keys) left behind
          still_listed dynamic q =
              key_without timed_out g.keys q
              ∙ (λ i. old_keys i && not (sym (same_key q) i))
              ∙ sym ((λ i. now_left i || now_hidden i) ∙ or_false (is_key store.keys q && not (is_key ks q)))
            where
              hides : hides_keys g ≡ false
              hides = ap (λ b. (b && g.def.dynamic) && is_by_time g.def.aging) ro

              none_hidden : fm.contains_key hidden q ≡ false
              none_hidden = ap (λ (m : Table). fm.contains_key m q) (nothing hides) ∙ ap is_some (fm.get-empty key_order q)

              old : HasKeysOf g.keys store hidden
              old = was_true g.def.dynamic (HasKeysOf g.keys store hidden) (Unit {0}) dynamic (was_false (has_list g && is_by_use g.def.aging) (g.keys ≡ store.keys) (MatchBool g.def.dynamic (HasKeysOf g.keys store hidden) (Unit {0})) not_by_use listed)

              old_keys : is_key g.keys q ≡ is_key store.keys q
              old_keys = old q ∙ ap (λ b. is_key store.keys q || b) none_hidden ∙ or_false (is_key store.keys q)

              now_left : is_key left.keys q ≡ (is_key store.keys q && not (is_key ks q))
              now_left = ap (λ l. is_key l q) left_keys ∙ key_without ks store.keys q

              now_hidden : fm.contains_key behind q ≡ false
              now_hidden = ap (λ (m : Table). fm.contains_key m q) (rows ∙ ap (λ b. cond b (hidden_all ks store hidden) hidden) hides) ∙ none_hidden
