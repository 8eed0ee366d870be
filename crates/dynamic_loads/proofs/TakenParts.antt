-- What taking an instance in comes to, part by part.
use Rattle.std.proofs.Common.{◌≡◌, Bool, ◌≤◌, ◌+◌, ℕ, zero, suc, true, false, Option, Some, None, Result, Ok, Err, List, [], ◌∷◌, length, map, set, slice_get, unwrap_or, inl, inr, arith, refl, sym, ap, subst, ◌∙◌}
use Rattle.std.proofs.lemmas.List.{length-map}
use Rattle.std.specs.FinMap as fm
use Rattle.std.specs.Global.{Vec}
use Rattle.std.specs.declared.alloc.AllocError.{AllocError}
use Rattle.row_types.specs.Order.{key_order}
use Rattle.indexed_rows.specs.Rows.{Table}
use Rattle.table_state.specs.Keyed.{IsKeyed}
use Rattle.instances.specs.Views.{passes}
use Rattle.outside.specs.declared.site.Instance.{Instance}
use Rattle.group_catalog.specs.Catalogs.{groups_in}
use Rattle.group_store.specs.Keeping.{layer_for}
use Rattle.group_store.specs.Stores.{Kept, SameButSpare, put_tables}
use Rattle.cache_tier.specs.Groups.{Group, is_read_only}
use Rattle.cache_tier.specs.Shown.{exceeds}
use Rattle.stored_tier.specs.declared.tier.Tier.{Tier as Stored}
use Rattle.stored_tier.specs.Stored.{IsSound, IsVerified, rows_of}
use Rattle.stored_tier.proofs.PutLaws.{long_tables}
use Rattle.stored_tier.proofs.ListLaws.{store_kept}
use Rattle.stored_tier.proofs.StoreForms.{same_itself}
use Rattle.stored_tier.proofs.StoreRows.{form_at}
use Rattle.group_engine.specs.OfAgingCycles.Coming.{HaveRowsOf, StayKeyed}
use Rattle.group_engine.specs.OfAgingCycles.Fitting.{AreFit, AreListedFit}
use Rattle.group_engine.specs.OfAgingCycles.RowsOf.{all_set, listed_fit, rows_alike, rows_put, rows_through}
use Rattle.dynamic_loads.specs.Taking.{FillsAt, HasPlaceFor, HasPut, IsFilledAt, MayPut, PutsRows, StoreBecomes, TakesWhere, is_viewed}
use Rattle.dynamic_loads.proofs.ListsSet.{hides_none, same_there}
use Rattle.dynamic_loads.proofs.RootRows.{Row}
use Rattle.dynamic_loads.proofs.TakenSound.{becomes_sound, filled_tree}

-- no table, no root row
pub none_viewed : (g : Group) (i : Instance) → ◌≡◌ {A = Option Table} None (slice_get i.rows 0) → false ≡ is_viewed g i
none_viewed g i none = sym (ap (λ (o : Option Table). passes (exceeds g) (fm.get (unwrap_or o fm.empty) i.root)) (sym none) ∙ ap (passes (exceeds g)) (fm.get-empty key_order i.root))

-- the store at the place has as many tables as the tree
pub place_for : (t : Stored) (place : ℕ) (seen : Group) (tables : List Table) (rows : List (List Row)) → IsSound t → slice_get (groups_in t.catalog) place ≡ Some seen → length tables ≤ length seen.def.tree.children + 1 → rows ≡ map fm.values tables → HasPlaceFor place rows t.stores.items
place_for t place seen tables rows sound there fits are s kept =
    let form = form_at t.schema (groups_in t.catalog) t.stores.items place seen s sound.kept there kept in
    let layers : length s.layers ≡ length seen.def.tree.children = ap length form.layers ∙ length-map seen.def.tree.children (layer_for t.schema) in
    let long : length rows ≡ length tables = ap length are ∙ length-map tables fm.values in
    Prim.omega (arith, fits, layers, long)

set_itself : {X : Type 0} (xs : List X) (i : ℕ) (x : X) → slice_get xs i ≡ Some x → set xs i x ≡ xs
set_itself [] i x at = refl
set_itself (y ∷ xs) zero x at = let same : y ≡ x = Prim.cc in ap (λ z. z ∷ xs) (sym same)
set_itself (y ∷ xs) (suc i) x at = ap (λ l. y ∷ l) (set_itself xs i x at)

-- the rows may come there
pub may_put : (t : Stored) (place : ℕ) (seen : Group) (tables : List Table) (rows : List (List Row)) (known : Bool) → IsSound t → slice_get (groups_in t.catalog) place ≡ Some seen → is_read_only seen ≡ false → length tables ≤ length seen.def.tree.children + 1 → rows ≡ map fm.values tables
    → (known ≡ true → IsVerified t) → (known ≡ true → AreFit t.schema seen.def.tree tables) → MayPut t place rows known
may_put t place seen tables rows known sound there writes fits are verified fit = record {
  group = seen;
  there = there;
  writes = writes;
  room = place_for t place seen tables rows sound there fits are;
  knows = λ yes. record { verified = verified yes; fit = subst (AreListedFit t.schema seen.def.tree) (sym are) (listed_fit t.schema seen.def.tree tables (fit yes)) };
}

-- ---- the rows were put in

no_note : {A : Type 0} → false ≡ true → A
no_note e = Prim.cc

module _ (old : Stored) (stores : Vec Kept) (place : ℕ) (rows : List (List Row)) (known : Bool) (sound : IsSound old) (may : MayPut old place rows known) where
  abbrev after : Stored
  after = record old { stores = stores; verified = false }

  module _ (f : IsFilledAt place rows old.stores.items stores.items) where
    becomes : StoreBecomes old after place f.store f.filled
    becomes = record { kept = f.kept; stores = f.is; rest = refl; known = λ e. no_note e }

    pub filled_sound : IsSound (record old { stores = stores; verified = false })
    filled_sound = becomes_sound old after place f.store f.filled sound becomes (filled_tree rows f.store f.filled f.rows_in) (ap length f.rows_in.tables ∙ long_tables 0 rows f.store)
        (λ g x at is. hides_none old.schema g f.store f.filled x (ap is_read_only (same_there (groups_in old.catalog) place g may.group at may.there) ∙ may.writes) is)

    rows_came : known ≡ true → HaveRowsOf old.schema old.stores.items stores.items
    rows_came noted =
        let form = form_at old.schema (groups_in old.catalog) old.stores.items place may.group f.store sound.kept may.there f.kept in
        subst (HaveRowsOf old.schema old.stores.items) (sym f.is)
        (all_set old.schema old.stores.items place f.store f.filled f.kept
        (rows_through old.schema f.store (put_tables 0 rows f.store) f.filled (rows_put old.schema may.group.def.tree rows f.store form (may.knows noted).fit)
        (rows_alike old.schema (put_tables 0 rows f.store) f.filled f.rows_in)))

    pub filled_keyed : StayKeyed → known ≡ true → IsKeyed (rows_of (record old { stores = stores; verified = false }))
    filled_keyed law noted = law old after sound (may.knows noted).verified (record { schema = refl; stores = rows_came noted })

    pub put_unknown : HasPut old (record old { stores = stores; verified = false }) place rows
    put_unknown = record { store = f.store; filled = f.filled; keyed = f.keyed; rows_in = f.rows_in; becomes = becomes }

    pub put_known : (new : Stored) → new ≡ record (record old { stores = stores; verified = false }) { verified = new.verified } → IsSound new → HasPut old new place rows
    put_known new same sound_new =
        let kept : new.stores ≡ stores = ap (λ (t : Stored). t.stores) same in
        record {
          store = f.store;
          filled = f.filled;
          keyed = f.keyed;
          rows_in = f.rows_in;
          becomes = record { kept = f.kept; stores = (λ i. (kept i).items) ∙ f.is; rest = same ∙ (λ i. record old { stores = sym kept i; verified = new.verified }); known = sound_new.verified };
        }

  -- memory was wanting
  pub put_wanting : (e : AllocError) → FillsAt place rows old.stores.items stores.items (Err e) → PutsRows old (record old { stores = stores; verified = false }) place rows (Err e)
  put_wanting e (inl same) =
      let s = store_kept old place may.group sound may.there in
      inr (record { store = s.0; left = s.0; same = same_itself s.0; becomes = record { kept = s.1; stores = same ∙ sym (set_itself old.stores.items place s.0 s.1); rest = refl; known = λ e. no_note e } })
  put_wanting e (inr room) =
      inr (record { store = room.store; left = room.left; same = room.same; becomes = record { kept = room.kept; stores = room.is; rest = refl; known = λ e. no_note e } })

-- so the instance was taken in
pub took : (old new : Stored) (place : ℕ) (seen : Group) (instance : Instance) (rows : List (List Row)) (result : Result (Unit {0}) AllocError) → slice_get (groups_in old.catalog) place ≡ Some seen → is_read_only seen ≡ false → is_viewed seen instance ≡ true
    → rows ≡ map fm.values instance.rows → PutsRows old new place rows result → TakesWhere old new place instance result
took old new place seen instance rows (Ok done) there writes viewed are put = inl (record {
  group = seen;
  store = put.store;
  filled = put.filled;
  there = there;
  writes = writes;
  viewed = viewed;
  keyed = put.keyed;
  rows = subst (λ l. SameButSpare (put_tables 0 l put.store) put.filled) are put.rows_in;
  becomes = put.becomes;
})
took old new place seen instance rows (Err e) there writes viewed are put = put
