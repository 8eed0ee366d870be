-- The instances that are busy in a world are those that are over what a store keeps.
use Rattle.std.proofs.Common.{◌≡◌, ℕ, suc, Bool, true, false, not, ◌&&◌, ◌||◌, Some, List, [], ◌∷◌, length, map, slice_get, refl, sym, ap, subst, ◌∙◌}
use Rattle.std.proofs.lemmas.List.{length-map}
use Rattle.std.specs.List.{list_any}
use Rattle.std.specs.FinMap as fm
use Rattle.row_types.specs.declared.value.Value.{Value}
use Rattle.tier_base.specs.declared.number.TableId.{TableId}
use Rattle.table_state.specs.declared.operation.Op.{Op}
use Rattle.table_state.specs.Footprints.{footprint_of, is_in}
use Rattle.table_state.specs.Tables.{TableState, table_at}
use Rattle.instances.specs.Trees.{is_sound, place_of}
use Rattle.instances.specs.Views.{kept_at}
use Rattle.session_state.specs.Sessions.{OpenSession}
use Rattle.open_sessions.specs.Opening.{seen_all}
use Rattle.tier_statements.specs.Seen.{session_seen}
use Rattle.group_store.specs.Keeping.{IsFor, layer_for}
use Rattle.group_store.specs.Stores.{Kept}
use Rattle.cache_tier.specs.Groups.{Group, is_read_only, is_writethrough}
use Rattle.cache_tier.specs.Locks.{has_writes_in, instance_rows, is_busy}
use Rattle.cache_tier.specs.Shown.{all_over, shown_state}
use Rattle.cache_tier.specs.Worlds.{World}
use Rattle.cache_tier.specs.StandingBetween.{IsCatalogued, has_no_where}
use Rattle.cache_tier.proofs.ChosenGroups.{each_at}
use Rattle.cache_tier.proofs.GroupTables.{any_found}
use Rattle.cache_tier.proofs.ShownTrees.{root_place}
use Rattle.stored_tier.specs.declared.tier.Tier.{Tier as Stored}
use Rattle.stored_tier.specs.Performing.{StandsFor}
use Rattle.stored_tier.specs.Stored.{IsSound, without_list}
use Rattle.stored_tier.proofs.StoreRows.{form_here, kept_is_shown}
use Rattle.aging_cycles.specs.Busy.{is_busy_in, is_held_by, owns_of}
use Rattle.group_store.specs.Held.{is_instance_held}
use Rattle.aging_cycles.proofs.BusyLaws.{held_is}
use Rattle.aging_cycles.proofs.HeldLaws.{held_alone, over_schema, rooted_over}
use Rattle.aging_cycles.proofs.Shows.{keyed_alone}
use Rattle.aging_cycles.proofs.Sides.{unwritten}
use Rattle.aging_cycles.proofs.Within.{IsRooted, is_only, touches, touches_is}

abbrev Row : Type 0
Row = List Value

-- a session's writes in an instance whose root row is there, by the keys that it holds there
module _ (s : TableState) (g : Group) (root : Row) (sound : is_sound s.schema g.def.tree ≡ true) (plain : has_no_where g.def.tree ≡ true) (rooted : IsRooted s g) (there : fm.contains_key (table_at s g.def.tree.root.table) root ≡ true) (ops : List Op) where
  pub writes_is : (list_any (λ z. is_in (footprint_of s.schema ops) z) (instance_rows s g (is_only root)) || list_any (λ z. is_in (footprint_of s.schema ops) z) (instance_rows (all_over ops s) g (is_only root))) ≡ touches s g.def.tree (is_only root) ops
  writes_is =
      let schema = over_schema ops s in
      (λ i. sym (touches_is s g (is_only root) sound plain rooted ops) i
      || sym (touches_is (all_over ops s) g (is_only root) (ap (λ defs. is_sound defs g.def.tree) schema ∙ sound) plain (rooted_over ops s g rooted) ops
      ∙ ap (λ defs. list_any (λ z. is_in (footprint_of defs ops) z) (instance_rows (all_over ops s) g (is_only root))) schema) i)
      ∙ by (touches (all_over ops s) g.def.tree (is_only root) ops) refl
    where
      or_false : (b : Bool) → (b || false) ≡ b
      or_false true = refl
      or_false false = refl

      by : (b : Bool) → touches (all_over ops s) g.def.tree (is_only root) ops ≡ b → (touches s g.def.tree (is_only root) ops || b) ≡ touches s g.def.tree (is_only root) ops
      by true e = let here = held_alone s g.def.tree sound ops root there e in ap (λ b. b || true) here ∙ sym here
      by false e = or_false (touches s g.def.tree (is_only root) ops)

-- of one group in a world
module _ (t : Stored) (w : World) (sound : IsSound t) (stands : StandsFor t w) (place : ℕ) (g : Group) (at : slice_get w.tier.groups place ≡ Some g) (store : Kept) (kept : slice_get t.stores.items place ≡ Some store) where
  catalogued : IsCatalogued w.tier.schema g
  catalogued = each_at (IsCatalogued w.tier.schema) w.tier.groups place g stands.stands.catalog.each at

  form : IsFor w.tier.schema g.def.tree store
  form = subst (λ defs. IsFor defs g.def.tree store) (sym stands.stored.schema) (form_here t w sound stands place g store at kept)

  its : (u : TableId) (p : ℕ) → place_of g.def.tree u ≡ Some p → kept_at store.tables p ≡ table_at (shown_state w.history w.tier) u
  its u p there = kept_is_shown t w sound stands place g store u p at kept there

  long : length store.tables ≡ suc (length g.def.tree.children)
  long = sound.whole place store kept ∙ ap (λ n. suc n) (ap length form.layers ∙ length-map g.def.tree.children (layer_for w.tier.schema))

  rooted : IsRooted (shown_state w.history w.tier) g
  rooted k r e = keyed_alone t w sound stands place g at store kept k r (ap (λ m. fm.get m k) (its g.def.tree.root.table 0 (root_place g.def.tree)) ∙ e)

  busy_any : (k : Row) → is_busy w.history w.tier g k ≡ list_any (has_writes_in w.history w.tier g (is_only k)) w.tier.sessions
  busy_any k = any_found (has_writes_in w.history w.tier g (is_only k)) w.tier.sessions

  -- in a READONLY group none is
  pub idle : is_read_only g ≡ true → (k : Row) → is_busy w.history w.tier g k ≡ false
  idle reads k = busy_any k ∙ unwritten w stands.stands place g at reads (is_only k)

  module _ (writes : is_writethrough g ≡ true) (k : Row) (there : fm.contains_key (kept_at store.tables 0) k ≡ true) where
    shown_there : fm.contains_key (table_at (shown_state w.history w.tier) g.def.tree.root.table) k ≡ true
    shown_there = ap (λ m. fm.contains_key m k) (sym (its g.def.tree.root.table 0 (root_place g.def.tree))) ∙ there

    sessions_alike : (ys : List OpenSession) → list_any (has_writes_in w.history w.tier g (is_only k)) (map session_seen ys)
        ≡ list_any (λ ops. touches (shown_state w.history w.tier) g.def.tree (is_only k) ops) (map (λ (y : OpenSession). y.ops) ys)
    sessions_alike [] = refl
    sessions_alike (y ∷ ys) = λ i. writes_is (shown_state w.history w.tier) g k catalogued.sound (catalogued.plain writes) rooted shown_there y.ops i || sessions_alike ys i

    written_is : is_busy w.history w.tier g k ≡ is_instance_held (is_held_by w.tier.schema (owns_of t.sessions)) store k
    written_is =
        busy_any k
        ∙ ap (list_any (has_writes_in w.history w.tier g (is_only k))) stands.stored.sessions
        ∙ sessions_alike (seen_all t.sessions)
        ∙ sym (held_is (shown_state w.history w.tier) g.def.tree store k catalogued.sound form.table form.layers long its (owns_of t.sessions))

  -- of a root that the store has
  pub busy_is : (k : Row) → fm.contains_key (kept_at store.tables 0) k ≡ true → is_busy_in t.schema (owns_of t.sessions) (without_list g) store k ≡ is_busy w.history w.tier g k
  busy_is k there = by (is_writethrough g) refl
    where
      reads : (b : Bool) → not b ≡ false → b ≡ true
      reads true e = refl
      reads false e = cc

      by : (b : Bool) → is_writethrough g ≡ b → (b && is_instance_held (is_held_by t.schema (owns_of t.sessions)) store k) ≡ is_busy w.history w.tier g k
      by true e = ap (λ defs. is_instance_held (is_held_by defs (owns_of t.sessions)) store k) (sym stands.stored.schema) ∙ sym (written_is e k there)
      by false e = sym (idle (reads _ e) k)
