-- The root that is found for a want, and the instance that the bank tells of it.
use Rattle.std.proofs.Common.{◌≡◌, Bool, true, false, cond, Option, Some, None, is_some, List, [], ◌∷◌, arith, refl, sym, ap, ◌∙◌}
use Rattle.std.specs.Option.{option_map}
use Rattle.std.specs.FinMap as fm
use Rattle.indexed_rows.specs.Rows.{Table, is_same}
use Rattle.indexed_rows.proofs.EntryLaws.{same_itself}
use Rattle.table_state.specs.Tables.{TableState}
use Rattle.instances.specs.Roots.{root_of}
use Rattle.instances.specs.Views.{instance_of, kept_at, only, passes, root_rows, rows_where}
use Rattle.instances.proofs.Gathering.{get_where}
use Rattle.outside.specs.Reaching.{instance_under, instance_with}
use Rattle.outside.specs.declared.site.Instance.{Instance}
use Rattle.cache_tier.specs.DynamicLoads.{found_root}
use Rattle.cache_tier.specs.Groups.{Group}
use Rattle.cache_tier.specs.Sets.{is_in_view}
use Rattle.cache_tier.specs.Shown.{exceeds, instance_key}
use Rattle.cache_tier.specs.Wants.{Want}
use Rattle.cache_tier.proofs.ShownTrees.{front_kept}
use Rattle.dynamic_loads.specs.Taking.{is_viewed}
use Rattle.dynamic_loads.proofs.RootRows.{Row, get_retained}

abbrev of_root : TableState → Group → Option Row → List Row
of_root s g None = []
of_root s g (Some key) = cond (is_in_view s g key) (key ∷ []) []

is_found : (s : TableState) (g : Group) (want : Want) → found_root s g want ≡ of_root s g (instance_key s g want.table want.key)
is_found s g want = by (instance_key s g want.table want.key) refl
  where
    by : (o : Option Row) → instance_key s g want.table want.key ≡ o → found_root s g want ≡ of_root s g (instance_key s g want.table want.key)
    by None e = Prim.cc
    by (Some key) e = Prim.cc

module _ (s : TableState) (g : Group) (want : Want) where
  -- no instance is told, and no root is found
  pub none_found : None ≡ instance_with s g.def.tree want.table want.key → found_root s g want ≡ []
  none_found e = is_found s g want ∙ by (root_of s g.def.tree want.table want.key) e
    where
      by : (o : Option Row) → ◌≡◌ {A = Option Instance} None (option_map (instance_under s g.def.tree) o) → of_root s g o ≡ []
      by None e = refl
      by (Some root) e = Prim.cc

  -- the instance that is told is that of the root
  pub record IsOfRoot (instance : Instance) : Type 0 where
    pub root : root_of s g.def.tree want.table want.key ≡ Some instance.root
    pub rows : instance.rows ≡ instance_of s g.def.tree instance.root

  pub told_root : (instance : Instance) → Some instance ≡ instance_with s g.def.tree want.table want.key → IsOfRoot instance
  told_root instance e = by (root_of s g.def.tree want.table want.key) refl e
    where
      by : (o : Option Row) → root_of s g.def.tree want.table want.key ≡ o → ◌≡◌ {A = Option Instance} (Some instance) (option_map (instance_under s g.def.tree) o) → IsOfRoot instance
      by None is e = Prim.cc
      by (Some root) is e =
          let same : instance ≡ instance_under s g.def.tree root = Prim.cc in
          record {
            root = is ∙ ap (λ (i : Instance). Some i.root) (sym same);
            rows = ap (λ (i : Instance). i.rows) same ∙ ap (λ (i : Instance). instance_of s g.def.tree i.root) (sym same);
          }

  -- its root row is the backing one
  pub told_row : (instance : Instance) → IsOfRoot instance → fm.get (kept_at instance.rows 0) instance.root ≡ fm.get (root_rows s g.def.tree.root) instance.root
  told_row instance told =
      ap (λ ts. fm.get (kept_at ts 0) instance.root) told.rows
      ∙ ap (λ (m : Table). fm.get m instance.root) (front_kept s g.def.tree.children (only instance.root (root_rows s g.def.tree.root) ∷ []) 0 (Prim.omega arith))
      ∙ get_retained (root_rows s g.def.tree.root) (λ other. is_same other instance.root) instance.root
      ∙ ap (λ (b : Bool). cond b (fm.get (root_rows s g.def.tree.root) instance.root) None) (same_itself instance.root instance.root refl)

  -- whether it is in the view
  pub viewed_is : (instance : Instance) → IsOfRoot instance → is_viewed g instance ≡ is_in_view s g instance.root
  viewed_is instance told =
      ap (passes (exceeds g)) (told_row instance told)
      ∙ sym (ap (λ (m : Table). fm.contains_key m instance.root) (front_kept s g.def.tree.children (rows_where (exceeds g) (root_rows s g.def.tree.root) ∷ []) 0 (Prim.omega arith))
      ∙ ap is_some (get_where (exceeds g) (root_rows s g.def.tree.root) instance.root)
      ∙ by (fm.get (root_rows s g.def.tree.root) instance.root))
    where
      of : (b : Bool) (row : Row) → is_some (cond b (Some row) None) ≡ b
      of true row = refl
      of false row = refl

      by : (o : Option Row) → is_some (cond (passes (exceeds g) o) o None) ≡ passes (exceeds g) o
      by None = refl
      by (Some row) = of (exceeds g row) row

  by_view : (instance : Instance) → IsOfRoot instance → (b : Bool) → is_viewed g instance ≡ b → found_root s g want ≡ cond b (instance.root ∷ []) []
  by_view instance told b viewed =
      is_found s g want ∙ ap (of_root s g) told.root
      ∙ ap (λ (c : Bool). cond c (instance.root ∷ []) []) (sym (viewed_is instance told) ∙ viewed)

  pub root_found : (instance : Instance) → IsOfRoot instance → is_viewed g instance ≡ true → found_root s g want ≡ instance.root ∷ []
  root_found instance told viewed = by_view instance told true viewed

  pub root_hidden : (instance : Instance) → IsOfRoot instance → is_viewed g instance ≡ false → found_root s g want ≡ []
  root_hidden instance told viewed = by_view instance told false viewed
