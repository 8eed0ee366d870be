-- A cycle of aging.
use Rattle.std.proofs.Common.{◌≡◌, ℕ, ◌-◌, Bool, true, false, cond, not, ◌&&◌, ◌||◌, nat_lt, Option, Some, None, List, [], ◌∷◌, length, refl, sym, ap, ◌∙◌}
use Rattle.row_types.specs.declared.value.Value.{Value}
use Rattle.std.specs.FinMap as fm
use Rattle.tier_base.specs.declared.number.TableId.{TableId}
use Rattle.indexed_rows.specs.Rows.{is_same}
use Rattle.indexed_rows.proofs.EntryLaws.{same_values}
use Rattle.table_state.specs.Tables.{table_at}
use Rattle.instances.specs.Trees.{place_of}
use Rattle.instances.specs.Views.{kept_at}
use Rattle.order_laws.proofs.TruthLaws.{both_true, never_both}
use Rattle.cache_tier.specs.Aging.{after_aging, aged, aged_rule, expired, is_aging_due, is_at_or_under, leaving, oldest, with_horizon}
use Rattle.cache_tier.specs.declared.group.AgingRule.{AgingRule}
use Rattle.cache_tier.specs.declared.group.AgingRule.TheVariants.{ByTime, LastUse}
use Rattle.cache_tier.specs.Events.{with_tier}
use Rattle.cache_tier.specs.Groups.{Group, group_over, is_key, is_read_only, without_keys}
use Rattle.cache_tier.specs.Locks.{is_busy}
use Rattle.cache_tier.specs.Shown.{shown, shown_roots, shown_state}
use Rattle.cache_tier.specs.StandingBetween.{Stands}
use Rattle.cache_tier.specs.Worlds.{World}
use Rattle.cache_tier.proofs.ApartLaws.{unload}
use Rattle.cache_tier.proofs.GroupTables.{not_true, over_is_found}
use Rattle.cache_tier.proofs.KeyListLaws.{key_left, key_without}
use Rattle.cache_tier.proofs.LessShown.{IsLessened, its_table, less_stands}
use Rattle.cache_tier.proofs.PositionLaws.{fewer_without, same_group, weaker_still, with_fewer}

abbrev Row : Type 0
Row = List Value

-- what leaves by last use isn't busy
oldest_idle : (n : ℕ) (busy : Row → Bool) (keys : List Row) (k : Row) → is_key (oldest n busy keys) k ≡ true → busy k ≡ false
oldest_idle n busy [] k e = Prim.cc
oldest_idle n busy (key ∷ keys) k e = by (busy key) refl (nat_lt 0 n) e (λ m h. oldest_idle m busy keys k h)
  where
    of : (b : Bool) → is_same k key ≡ b → busy key ≡ false → (b || is_key (oldest (n - 1) busy keys) k) ≡ true → (is_key (oldest (n - 1) busy keys) k ≡ true → busy k ≡ false) → busy k ≡ false
    of true same idle e rest = ap busy (same_values k key same) ∙ idle
    of false same idle e rest = rest e

    by : (b : Bool) → busy key ≡ b → (m : Bool) → is_key (cond b (oldest n busy keys) (cond m (key ∷ oldest (n - 1) busy keys) [])) k ≡ true → ((m : ℕ) → is_key (oldest m busy keys) k ≡ true → busy k ≡ false) → busy k ≡ false
    by true idle m e rest = rest n e
    by false idle true e rest = of (is_same k key) refl idle e (rest (n - 1))
    by false idle false e rest = Prim.cc

leaving_idle : (high low : ℕ) (busy : Row → Bool) (keys : List Row) (k : Row) → is_key (leaving high low busy keys) k ≡ true → busy k ≡ false
leaving_idle high low busy keys k e = by (nat_lt high (length keys)) e
  where
    by : (b : Bool) → is_key (cond b (oldest (length keys - low) busy keys) []) k ≡ true → busy k ≡ false
    by true e = oldest_idle (length keys - low) busy keys k e
    by false e = Prim.cc

-- a key that has left was taken
taken : (gone keys : List Row) (k : Row) → is_key keys k ≡ true → is_key (without_keys gone keys) k ≡ false → is_key gone k ≡ true
taken gone keys k e n = by (is_key gone k) (sym (ap (λ b. b && not (is_key gone k)) e) ∙ sym (key_without gone keys k) ∙ n)
  where
    by : (b : Bool) → not b ≡ false → b ≡ true
    by true e = refl
    by false e = Prim.cc

left : (gone keys : List Row) (k : Row) → is_key (without_keys gone keys) k ≡ true → is_key keys k ≡ true
left gone keys k e = (both_true (is_key keys k) (not (is_key gone k)) (sym (key_without gone keys k) ∙ e)).0

same_lessened : (w : World) (g : Group) → IsLessened w g g
same_lessened w g = record {
  kept = record { def = refl; first = refl };
  weaker = same_group g;
  distinct = λ d. d;
  fewer = λ k e. e;
  idle = λ writes k e n. absurd (never_both (is_key g.keys k) e n);
}

pub aged_lessened : (w : World) (g : Group) → IsLessened w g (aged w.history w.tier g)
aged_lessened w g = by g.def.aging
  where
    by_use : IsLessened w g (record (aged_rule w.history w.tier (Some LastUse) g) { aged = w.tier.now })
    by_use =
        let settings = w.tier.settings in
        let gone = leaving settings.lru_high settings.lru_low (is_busy w.history w.tier g) g.keys in
        let fewer = with_fewer g (without_keys gone g.keys) (fewer_without gone g.keys) in
        record {
          kept = record { def = refl; first = refl };
          weaker = record { position = fewer.position; shows = fewer.shows };
          distinct = λ d. unload gone g.keys d;
          fewer = left gone g.keys;
          idle = λ writes k e n. leaving_idle settings.lru_high settings.lru_low (is_busy w.history w.tier g) g.keys k (taken gone g.keys k e n);
        }

    by_time : (h : Group) (b : Bool) → IsLessened w g h → h.keys ≡ g.keys → ((k : Row) → is_busy w.history w.tier h k ≡ is_busy w.history w.tier g k)
        → IsLessened w g (record (cond b h (record h { keys = without_keys (expired w.history w.tier h) h.keys })) { aged = w.tier.now })
    by_time h true x keys busy = record {
      kept = record { def = x.kept.def; first = x.kept.first };
      weaker = record { position = x.weaker.position; shows = x.weaker.shows };
      distinct = x.distinct;
      fewer = x.fewer;
      idle = x.idle;
    }
    by_time h false x keys busy =
        let gone = expired w.history w.tier h in
        let fewer = weaker_still g h _ x.weaker (with_fewer h (without_keys gone h.keys) (fewer_without gone h.keys)) in
        record {
          kept = record { def = x.kept.def; first = x.kept.first };
          weaker = record { position = fewer.position; shows = fewer.shows };
          distinct = λ d. unload gone h.keys (x.distinct d);
          fewer = λ k e. x.fewer k (left gone h.keys k e);
          idle = λ writes k e n. sym (busy k) ∙ idle k (taken gone h.keys k (ap (λ ks. is_key ks k) keys ∙ e) n);
        }
      where
        idle : (k : Row) → is_key (expired w.history w.tier h) k ≡ true → is_busy w.history w.tier h k ≡ false
        idle k e =
            let at = is_at_or_under h (fm.get (shown_roots w.history w.tier.log h) k) in
            let passes : (at && not (is_busy w.history w.tier h k)) ≡ true = (both_true (is_key h.keys k) (at && not (is_busy w.history w.tier h k)) (sym (key_left (λ key. is_at_or_under h (fm.get (shown_roots w.history w.tier.log h) key) && not (is_busy w.history w.tier h key)) h.keys k) ∙ e)).1 in
            not_true (is_busy w.history w.tier h k) (both_true at (not (is_busy w.history w.tier h k)) passes).1

    by : (o : Option AgingRule) → IsLessened w g (record (aged_rule w.history w.tier o g) { aged = w.tier.now })
    by None = let x = same_lessened w g in record { kept = record { def = refl; first = refl }; weaker = record { position = refl; shows = λ i e. e }; distinct = x.distinct; fewer = x.fewer; idle = x.idle }
    by (Some LastUse) = by_use
    by (Some (ByTime rule)) =
        let x = same_lessened w g in
        by_time (with_horizon w.tier.now rule g) (is_read_only (with_horizon w.tier.now rule g))
        (record { kept = record { def = refl; first = refl }; weaker = record { position = refl; shows = λ i e. e }; distinct = x.distinct; fewer = x.fewer; idle = x.idle }) refl (λ k. refl)

due_lessened : (w : World) (g : Group) → IsLessened w g (cond (is_aging_due w.tier g) (aged w.history w.tier g) g)
due_lessened w g = by (is_aging_due w.tier g)
  where
    by : (b : Bool) → IsLessened w g (cond b (aged w.history w.tier g) g)
    by true = aged_lessened w g
    by false = same_lessened w g

-- Each due group has its cycle, and the tier stands.
pub aging_stands : (w : World) → Stands w → Stands (with_tier (after_aging w.history w.tier) w)
aging_stands w x = less_stands w x (λ g. cond (is_aging_due w.tier g) (aged w.history w.tier g) g) (due_lessened w)

pub aging_shows : (w : World) (g : Group) (u : TableId) (p : ℕ) → Stands w → group_over w.tier.groups u ≡ Some g → place_of g.def.tree u ≡ Some p
    → table_at (shown_state w.history (after_aging w.history w.tier)) u ≡ kept_at (shown w.history w.tier.log (cond (is_aging_due w.tier g) (aged w.history w.tier g) g)) p
aging_shows w g u p x over e =
    its_table w x (λ h. cond (is_aging_due w.tier h) (aged w.history w.tier h) h) (due_lessened w) g u p (sym (over_is_found w.tier.groups u) ∙ over) e
