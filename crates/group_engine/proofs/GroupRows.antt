-- What is shown of the tables of a group at its place, and groups of which some change.
use Rattle.std.proofs.Common.{◌≡◌, ℕ, zero, suc, true, Some, is_some, List, [], ◌∷◌, length, slice_get, unwrap_or, refl, sym, ap, ◌∙◌, arith}
use Rattle.std.specs.List.{find}
use Rattle.tier_base.specs.declared.number.TableId.{TableId}
use Rattle.table_state.specs.declared.history.Entry.{Entry}
use Rattle.table_state.specs.Tables.{table_at}
use Rattle.instances.specs.Trees.{place_of}
use Rattle.instances.specs.Views.{kept_at}
use Rattle.order_laws.specs.Sides.{AgreeOn}
use Rattle.cache_tier.specs.declared.group.GroupDef.{GroupDef}
use Rattle.cache_tier.specs.Groups.{Group, covers, is_key, is_writethrough}
use Rattle.cache_tier.specs.Sets.{OnePosition}
use Rattle.cache_tier.specs.Shown.{shown, shown_state, shown_table, table_of_group}
use Rattle.cache_tier.specs.Standing.{AreDistinct}
use Rattle.cache_tier.specs.TierStates.{Tier}
use Rattle.cache_tier.specs.Worlds.{World}
use Rattle.cache_tier.specs.Events.{with_tier}
use Rattle.cache_tier.specs.StandingBetween.{Each, HasCatalog, HasKeys, IsCatalogued, IsReadWithin, Stands, own_writes}
use Rattle.cache_tier.proofs.ChosenGroups.{each_at, found_place}
use Rattle.cache_tier.proofs.GroupPairs.{IsKept, Pairs, catalogued_kept, own_tables_kept, pairs_each, same_kind}
use Rattle.cache_tier.proofs.GroupTables.{IsFound, each_own, live_at, live_table, over_is_found}
use Rattle.cache_tier.proofs.HistoryKeeps.{all_through_on, applies_stay}
use Rattle.cache_tier.proofs.Regrouping.{regrouped}
use Rattle.cache_tier.proofs.SessionLaws.{known}
use Rattle.cache_tier.proofs.ShownTables.{from_length, live_of, table_shown}
use Rattle.cache_tier.proofs.TableLaws.{covered_defined}

-- of what holds at each place

pub each_of : {X : Type 0} (P : X → Type 0) (xs : List X) → ((i : ℕ) (x : X) → slice_get xs i ≡ Some x → P x) → Each P xs
each_of P [] all = tt
each_of P (x ∷ xs) all = (all 0 x refl, each_of P xs (λ i y at. all (suc i) y at))

pub pairs_of : (R : Group → Group → Type 0) (gs hs : List Group) → length hs ≡ length gs → ((i : ℕ) (g h : Group) → slice_get gs i ≡ Some g → slice_get hs i ≡ Some h → R g h) → Pairs R gs hs
pairs_of R [] [] long all = tt
pairs_of R [] (h ∷ hs) long all = absurd (Prim.omega (arith, long))
pairs_of R (g ∷ gs) [] long all = absurd (Prim.omega (arith, long))
pairs_of R (g ∷ gs) (h ∷ hs) long all = (all 0 g h refl refl, pairs_of R gs hs (Prim.omega (arith, long)) (λ i x y at there. all (suc i) x y at there))

pub there_too : {X Y : Type 0} (xs : List X) (ys : List Y) (i : ℕ) (x : X) → length ys ≡ length xs → slice_get xs i ≡ Some x → (y : Y) × (slice_get ys i ≡ Some y)
there_too [] ys i x long at = Prim.cc
there_too (z ∷ xs) [] i x long at = absurd (Prim.omega (arith, long))
there_too (z ∷ xs) (y ∷ ys) zero x long at = (y, refl)
there_too (z ∷ xs) (y ∷ ys) (suc i) x long at = there_too xs ys i x (Prim.omega (arith, long)) at

pub same_there : {X : Type 0} (xs : List X) (i : ℕ) (x y : X) → slice_get xs i ≡ Some x → slice_get xs i ≡ Some y → x ≡ y
same_there xs i x y a b = let both : Some x ≡ Some y = sym a ∙ b in Prim.cc

-- what is shown of a table is what its group shows at its place of the tree
pub shown_of_place : (h : List Entry) (t : Tier) (k : ℕ) (g : Group) (u : TableId) (p : ℕ) → HasCatalog t → slice_get t.groups k ≡ Some g → place_of g.def.tree u ≡ Some p → table_at (shown_state h t) u ≡ kept_at (shown h t.log g) p
shown_of_place h t k g u p catalog at place =
    let covered : covers u g ≡ true = ap is_some place in
    let defined = covered_defined t.schema g u (each_at (IsCatalogued t.schema) t.groups k g catalog.each at) covered in
    let found : find (covers u) t.groups ≡ Some g = each_at (IsFound t.groups) t.groups k g (each_own t.groups catalog.apart) at u covered in
    table_shown h t u defined
    ∙ ap (table_of_group h t.log u) (over_is_found t.groups u ∙ found)
    ∙ ap (λ o. kept_at (shown h t.log g) (unwrap_or o 0)) place

-- A group that becomes another: of a writethrough one the keys and the rows stay.
pub record Becomes (w : World) (g h : Group) : Type 0 where
  pub kept : IsKept g h
  pub distinct : AreDistinct g.keys → AreDistinct h.keys
  pub within : IsReadWithin (length w.history) g → IsReadWithin (length w.history) h
  pub keys : is_writethrough g ≡ true → h.keys ≡ g.keys
  pub rows : is_writethrough g ≡ true → (p : ℕ) → kept_at (shown w.history w.tier.log h) p ≡ kept_at (shown w.history w.tier.log g) p

pub record AllBecome (w : World) (groups : List Group) : Type 0 where
  pub long : length groups ≡ length w.tier.groups
  pub one : (k : ℕ) (g h : Group) → slice_get w.tier.groups k ≡ Some g → slice_get groups k ≡ Some h → Becomes w g h

module _ (w : World) (x : Stands w) (groups : List Group) (all : AllBecome w groups) where
  abbrev after : Tier
  after = record w.tier { groups = groups }

  pub all_kept : Pairs IsKept w.tier.groups groups
  all_kept = pairs_of IsKept w.tier.groups groups all.long (λ i g h at there. (all.one i g h at there).kept)

  pub catalog_after : HasCatalog (record w.tier { groups = groups })
  catalog_after = record {
    each = pairs_each IsKept (IsCatalogued w.tier.schema) (IsCatalogued w.tier.schema) (λ g h r c. catalogued_kept w.tier.schema g h r c) w.tier.groups groups all_kept x.catalog.each;
    apart = own_tables_kept w.tier.groups groups all_kept x.catalog.apart;
  }

  -- a group and the one that it was
  was : (k : ℕ) (h : Group) → slice_get groups k ≡ Some h → (g : Group) × (slice_get w.tier.groups k ≡ Some g)
  was k h there = there_too groups w.tier.groups k h (sym all.long) there

  live_rows : (u : TableId) → Rattle.table_state.specs.Copies.is_one_of (live_of w.tier) u ≡ true → table_at (shown_state w.history after) u ≡ table_at (shown_state w.history w.tier) u
  live_rows u on =
      let l = live_at w.tier.groups u x.catalog.apart (sym (live_table w.tier.groups u) ∙ on) in
      let (k, at) = found_place (covers u) w.tier.groups l.group l.found in
      let (h, there) = there_too w.tier.groups groups k l.group all.long at in
      let b = all.one k l.group h at there in
      let place : place_of h.def.tree u ≡ Some l.place = ap (λ (d : GroupDef). place_of d.tree u) b.kept.def ∙ l.at in
      shown_of_place w.history after k h u l.place catalog_after there place
      ∙ b.rows l.through l.place
      ∙ sym (shown_of_place w.history w.tier k l.group u l.place x.catalog at l.at)

  agree : AgreeOn (live_of w.tier) (shown_state w.history w.tier) (shown_state w.history after)
  agree = record {
    schema = refl;
    size = from_length (shown_table w.history after) 0 w.tier.schema ∙ sym (from_length (shown_table w.history w.tier) 0 w.tier.schema);
    rows = live_rows;
  }

  keys_then : (k : ℕ) (h : Group) → slice_get groups k ≡ Some h → HasKeys x.flow.stand.over.virtual h
  keys_then k h there =
      let (g, at) = was k h there in
      let b = all.one k g h at there in
      let before = each_at (HasKeys x.flow.stand.over.virtual) w.tier.groups k g x.keys at in
      record {
        distinct = b.distinct before.distinct;
        rooted = λ writes key e.
            let through : is_writethrough g ≡ true = sym (same_kind g h b.kept) ∙ writes in
            ap (λ (d : GroupDef). Rattle.std.specs.FinMap.contains_key (table_at x.flow.stand.over.virtual d.tree.root.table) key) b.kept.def
            ∙ before.rooted through key (ap (λ ks. is_key ks key) (sym (b.keys through)) ∙ e);
      }

  within_then : (k : ℕ) (h : Group) → slice_get groups k ≡ Some h → IsReadWithin (length w.history) h
  within_then k h there =
      let (g, at) = was k h there in
      (all.one k g h at there).within (each_at (IsReadWithin (length w.history)) w.tier.groups k g x.read.within at)

  pub stands_after : OnePosition groups → Stands (with_tier (record w.tier { groups = groups }) w)
  stands_after one = regrouped w x groups all_kept (each_of (HasKeys x.flow.stand.over.virtual) groups keys_then)
      (record { within = each_of (IsReadWithin (length w.history)) groups within_then; one = one })
      (record {
        apply = applies_stay (live_of w.tier) (shown_state w.history w.tier) (shown_state w.history after) (own_writes w.tier.sessions) (known w x).closed_shown agree (all_through_on w.tier.groups (own_writes w.tier.sessions) ∙ x.sessions.through) x.sessions.shown.apply;
        apart = x.sessions.shown.apart;
      })
