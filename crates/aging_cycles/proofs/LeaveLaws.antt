-- What leaves the store of a group by its rule.
use Rattle.std.proofs.Common.{◌≡◌, ℕ, ℤ, Bool, true, false, cond, ◌&&◌, Option, Some, None, All, List, [], map, slice_get, refl, sym, ap, subst, ◌∙◌}
use Rattle.row_types.specs.declared.value.Value.{Value}
use Rattle.instances.specs.Views.{kept_at}
use Rattle.session_state.specs.Kept.{IsKept, seen_of}
use Rattle.session_state.specs.Sessions.{OpenSession}
use Rattle.session_state.specs.declared.session.Session.{Session}
use Rattle.open_sessions.specs.Opening.{seen_all}
use Rattle.slot_rows.specs.SlotKeys.{RowsHeld}
use Rattle.group_catalog.specs.Catalogs.{groups_in}
use Rattle.group_store.specs.Stores.{Kept, SameButSpare}
use Rattle.order_laws.proofs.TruthLaws.{never_both, same_some}
use Rattle.cache_tier.specs.declared.group.AgingRule.{AgingRule}
use Rattle.cache_tier.specs.declared.group.AgingRule.TheVariants.{ByTime, LastUse}
use Rattle.cache_tier.specs.declared.group.TimeRule.{TimeRule}
use Rattle.cache_tier.specs.Aging.{leaving}
use Rattle.cache_tier.specs.Groups.{Group, has_list, is_read_only, is_writethrough}
use Rattle.stored_tier.specs.declared.clock.Pace.{Pace}
use Rattle.stored_tier.specs.declared.tier.Tier.{Tier as Stored}
use Rattle.stored_tier.specs.Lists.{hides_keys, is_by_time}
use Rattle.aging_cycles.specs.Busy.{is_busy_at, is_busy_in, owns_of}
use Rattle.aging_cycles.specs.Cycles.{expired_in, horizon_behind, leaving_by}
use Rattle.aging_cycles.specs.Running.{HasLeft, Leaves, LeavesAt, cut_all, hidden_all}
use Rattle.aging_cycles.specs.Walking.{LeavesPlace}
use Rattle.aging_cycles.proofs.SoundRun.{nothing_left}
use Rattle.aging_cycles.proofs.StillHeld.{busy_kept}

abbrev Row : Type 0
Row = List Value

module _ (pace : Pace) (now : ℕ) (busy : Row → Bool) (g : Group) (s left : Kept) (h x : RowsHeld) where
  -- it has no rule
  pub leaves_none : g.def.aging ≡ None → HasLeft g (leaving_by pace now busy g s g.def.aging) s s h h
  leaves_none e = subst (λ (o : Option AgingRule). HasLeft g (leaving_by pace now busy g s o) s s h h) (sym e) (nothing_left g s h)

  -- by last use, without a list
  pub leaves_unlisted : g.def.aging ≡ Some LastUse → has_list g ≡ false → HasLeft g (leaving_by pace now busy g s g.def.aging) s s h h
  leaves_unlisted e hasnt =
      subst (λ (o : Option AgingRule). HasLeft g (leaving_by pace now busy g s o) s s h h) (sym e)
      (subst (λ b. HasLeft g (cond b (leaving pace.lru_high pace.lru_low busy s.keys) []) s s h h) (sym hasnt) (nothing_left g s h))

  -- with one
  pub leaves_used : g.def.aging ≡ Some LastUse → has_list g ≡ true → SameButSpare (cut_all (leaving pace.lru_high pace.lru_low busy s.keys) s) left → HasLeft g (leaving_by pace now busy g s g.def.aging) s left h h
  leaves_used e has gone =
      subst (λ (o : Option AgingRule). HasLeft g (leaving_by pace now busy g s o) s left h h) (sym e)
      (subst (λ b. HasLeft g (cond b (leaving pace.lru_high pace.lru_low busy s.keys) []) s left h h) (sym has) (record {
        gone = gone;
        rows = sym (ap (λ b. cond b (hidden_all (leaving pace.lru_high pace.lru_low busy s.keys) s h.table) h.table) hidesnt);
        key = refl;
        room = λ yes. absurd (never_both (hides_keys g) yes hidesnt);
      }))
    where
      and_false : (b : Bool) → (b && false) ≡ false
      and_false true = refl
      and_false false = refl

      hidesnt : hides_keys g ≡ false
      hidesnt = ap (λ o. (is_read_only g && g.def.dynamic) && is_by_time o) e ∙ and_false (is_read_only g && g.def.dynamic)

  -- by time
  pub leaves_timed : (rule : TimeRule) (hides : Bool) (horizon : Option ℤ) (column : ℕ) → g.def.aging ≡ Some (ByTime rule) → hides ≡ hides_keys g → horizon ≡ horizon_behind now g.def.aging g.horizon → column ≡ rule.column
      → Leaves hides (expired_in horizon column busy s.key (kept_at s.tables 0)) s left h x → HasLeft g (leaving_by pace now busy g s g.def.aging) s left h x
  leaves_timed rule hides horizon column e hides_is horizon_is column_is leaves =
      subst (λ (o : Option AgingRule). HasLeft g (leaving_by pace now busy g s o) s left h x) (sym e)
      (subst (λ b. Leaves b (leaving_by pace now busy g s (Some (ByTime rule))) s left h x) hides_is
      (subst (λ z. Leaves hides (expired_in z rule.column busy s.key (kept_at s.tables 0)) s left h x) (horizon_is ∙ ap (λ o. horizon_behind now o g.horizon) e)
      (subst (λ n. Leaves hides (expired_in horizon n busy s.key (kept_at s.tables 0)) s left h x) column_is leaves)))

-- at a place of a tier
pub leaves_at : (old new : Stored) (k : ℕ) (g : Group) (all some : List Session) → Some g ≡ slice_get (groups_in old.catalog) k → All (IsKept old.schema) all → map seen_of all ≡ seen_all old.sessions
    → ((s : Kept) (root : Row) → is_busy_at some s root ≡ (is_writethrough g && is_busy_at all s root))
    → LeavesPlace k g (λ s. leaving_by old.clock.pace old.clock.now (is_busy_at some s) g s g.def.aging) old.stores.items old.hidden.items new.stores.items new.hidden.items
    → (x : Group) → slice_get (groups_in old.catalog) k ≡ Some x → LeavesAt old new k x
leaves_at old new k g all some at kept seen writers left x there = subst (LeavesAt old new k) (same_some (at ∙ there)) (record {
  store = left.store;
  left = left.left;
  hidden = left.before;
  behind = left.behind;
  kept = left.kept;
  hid = left.held;
  does = subst (λ (busy : Row → Bool). HasLeft g (leaving_by old.clock.pace old.clock.now busy g left.store g.def.aging) left.store left.left left.before left.behind) (λ i root. same left.store root i) left.does;
  stores = left.stores;
  rows = left.rows;
})
  where
    same : (s : Kept) (root : Row) → is_busy_at some s root ≡ is_busy_in old.schema (owns_of old.sessions) g s root
    same s root =
        writers s root
        ∙ ap (λ b. is_writethrough g && b) (busy_kept old.schema all (owns_of old.sessions) kept (ap (map (λ (y : OpenSession). y.ops)) (sym seen)) s root)
