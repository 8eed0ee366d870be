-- What LOAD, REFRESH and a dynamic load make of what is shown.
use Rattle.std.proofs.Common.{◌≡◌, ℕ, suc, ◌+◌, Bool, true, false, cond, ◌&&◌, ◌||◌, nat_eq, Option, Some, None, is_some, List, [], ◌∷◌, slice_get, refl, sym, ap, subst, ◌∙◌, arith, append-nil, eqb-true}
use Rattle.std.proofs.lemmas.List.{take_all}
use Rattle.std.specs.FinMap.{contains_key, empty, get, get-empty, keys, len}
use Rattle.row_types.specs.Order.{key_order}
use Rattle.indexed_rows.specs.Rows.{Table}
use Rattle.indexed_rows.proofs.EntryLaws.{same_itself}
use Rattle.table_state.specs.Histories.{state_of}
use Rattle.table_state.specs.Tables.{TableState, table_at}
use Rattle.instances.specs.declared.tree.Tree.{Tree}
use Rattle.instances.specs.Views.{kept_at, passes, root_rows, rows_where, selects}
use Rattle.instances.proofs.Gathering.{get_where}
use Rattle.order_laws.proofs.TruthLaws.{same_some}
use Rattle.cache_tier.specs.Conditions.{matches}
use Rattle.cache_tier.specs.Groups.{Group, is_explicit, is_key, with_keys}
use Rattle.cache_tier.specs.LoadSteps.{added_answer}
use Rattle.cache_tier.specs.Reading.{backing_at, state_or_none}
use Rattle.cache_tier.specs.RefreshSteps.{refreshed_answer}
use Rattle.cache_tier.specs.Sets.{alone, changed, changed_from}
use Rattle.cache_tier.specs.Shown.{instances_where}
use Rattle.cache_tier.specs.Targets.{Target, held_roots, matching, with_flag}
use Rattle.cache_tier.specs.Worlds.{Answer, World, only}
use Rattle.cache_tier.specs.declared.reply.Last.TheVariants.{Done}
use Rattle.cache_tier.specs.Events.{with_tier}
use Rattle.cache_tier.specs.Loading.{MayLoad, ShowsKeys}
use Rattle.cache_tier.specs.StandingBetween.{Stands, has_root_row}
use Rattle.cache_tier.specs.Statements.{IsLoadable}
use Rattle.cache_tier.proofs.KeyListLaws.{key_in_map}
use Rattle.cache_tier.proofs.LoadLaws.{group_loads}
use Rattle.cache_tier.proofs.PartLaws.{Row}
use Rattle.cache_tier.proofs.ShownTrees.{front_kept}

-- the roots of instances are rows of their table
pub in_roots : (s : TableState) (tree : Tree) (test : Row → Bool) (q : Row) → contains_key (kept_at (instances_where s tree test) 0) q ≡ true → contains_key (table_at s tree.root.table) q ≡ true
in_roots s tree test q e = by (get (table_at s tree.root.table) q) (is ∙ e)
  where
    is : is_some (cond (passes test (cond (passes (selects tree.root.filter) (get (table_at s tree.root.table) q)) (get (table_at s tree.root.table) q) None)) (cond (passes (selects tree.root.filter) (get (table_at s tree.root.table) q)) (get (table_at s tree.root.table) q) None) None)
        ≡ contains_key (kept_at (instances_where s tree test) 0) q
    is = sym (
        ap (λ (m : Table). contains_key m q) (front_kept s tree.children (rows_where test (root_rows s tree.root) ∷ []) 0 (Prim.omega arith))
        ∙ ap is_some (get_where test (root_rows s tree.root) q ∙ ap (λ (o : Option Row). cond (passes test o) o None) (get_where (selects tree.root.filter) (table_at s tree.root.table) q)))

    by : (o : Option Row) → is_some (cond (passes test (cond (passes (selects tree.root.filter) o) o None)) (cond (passes (selects tree.root.filter) o) o None) None) ≡ true → is_some o ≡ true
    by None h = h
    by (Some r) h = refl

-- changes that are the same at the group of the place
pub changed_alike : (f f' : Group → Group) (from place : ℕ) (groups : List Group) → ((i : ℕ) (y : Group) → slice_get groups i ≡ Some y → from + i ≡ place → f y ≡ f' y) → changed_from (alone place) f from groups ≡ changed_from (alone place) f' from groups
changed_alike f f' from place [] same = refl
changed_alike f f' from place (y ∷ groups) same =
    let rest = changed_alike f f' (suc from) place groups (λ i z at e. same (suc i) z at (let there : from + suc i ≡ place = Prim.omega (arith, e) in there)) in
    λ i. first (nat_eq from place) refl i ∷ rest i
  where
    first : (b : Bool) → nat_eq from place ≡ b → cond b (f y) y ≡ cond b (f' y) y
    first true e = same 0 y refl (let at : from ≡ place = eqb-true from place e in let here : from + 0 ≡ place = Prim.omega (arith, at) in here)
    first false e = refl

same_change : (w : World) (place : ℕ) (g : Group) (f f' : Group → Group) → slice_get w.tier.groups place ≡ Some g → f g ≡ f' g → changed (alone place) f w.tier ≡ changed (alone place) f' w.tier
same_change w place g f f' there same =
    ap (λ gs. record w.tier { groups = gs }) (changed_alike f f' 0 place w.tier.groups (λ i y at e. (
    let here : i ≡ place = Prim.omega (arith, e) in
    let is : g ≡ y = same_some (sym there ∙ ap (slice_get w.tier.groups) (sym here) ∙ at) in
    subst (λ (z : Group). f z ≡ f' z) is same)))

abbrev no_rows : Table
no_rows = empty

none_there : (q : Row) → contains_key no_rows q ≡ false
none_there q = ap is_some (get-empty key_order q)

empty_list : (l : List Row) → ((k : Row) → is_key l k ≡ false) → l ≡ []
empty_list [] none = refl
empty_list (k ∷ l) none = let wrong : true ≡ false = sym (ap (λ b. b || is_key l k) (same_itself k k refl)) ∙ none k in Prim.cc

no_keys : keys no_rows ≡ []
no_keys = empty_list (keys no_rows) (λ k. key_in_map no_rows k ∙ none_there k)

module _ (w : World) (x : Target) (n : ℕ) (st : Stands w) (may : IsLoadable w x.place x.group n) where
  -- rows whose keys have their roots in what was read
  may_load : (rows : Table) → ((q : Row) → contains_key rows q ≡ true → has_root_row (backing_at w n) x.group q ≡ true) → MayLoad w x.place x.group rows
  may_load rows rooted = record {
    there = may.group.there;
    writes = may.group.through;
    settled = may.settled;
    roots = λ s is q e. ap (λ (b : TableState). has_root_row b x.group q) (sym (ap state_or_none (ap state_of (take_all n w.history (Prim.omega (arith, may.whole))) ∙ is))) ∙ rooted q e;
  }

  pub load_shows : ShowsKeys x.group (λ k. is_key x.group.keys k || contains_key (matching (backing_at w n) x) k) w (with_tier (added_answer x n w).0 w)
  load_shows = group_loads w x.place x.group (matching (backing_at w n) x) st
      (may_load (matching (backing_at w n) x) (λ q e. in_roots (backing_at w n) x.group.def.tree (matches x.filter x.id (backing_at w n) x.group) q e))

  flagged : ShowsKeys x.group (λ k. is_key x.group.keys k || false) w (with_tier (changed (alone x.place) (with_flag true) w.tier) w)
  flagged =
      subst (λ t. ShowsKeys x.group (λ k. is_key x.group.keys k || false) w (with_tier t w))
      (same_change w x.place x.group (λ y. with_flag true (record y { keys = with_keys (keys no_rows) y.keys })) (with_flag true) may.group.there (ap (λ l. with_flag true (record x.group { keys = with_keys l x.group.keys })) no_keys ∙ ap (λ l. with_flag true (record x.group { keys = l })) (append-nil x.group.keys)))
      (subst (λ test. ShowsKeys x.group test w (with_tier (changed (alone x.place) (λ y. with_flag true (record y { keys = with_keys (keys no_rows) y.keys })) w.tier) w)) (λ i k. is_key x.group.keys k || none_there k i)
      (group_loads w x.place x.group no_rows st (may_load no_rows (λ q e. (let wrong : false ≡ true = sym (none_there q) ∙ e in Prim.cc)))))

  pub refresh_shows : ShowsKeys x.group (λ k. is_key x.group.keys k || (is_explicit x.group && contains_key (matching (backing_at w n) x) k)) w (with_tier (refreshed_answer x n w).0 w)
  refresh_shows = by (is_explicit x.group)
    where
      by : (b : Bool) → ShowsKeys x.group (λ k. is_key x.group.keys k || (b && contains_key (matching (backing_at w n) x) k)) w
          (with_tier (cond {A = Answer} b (changed (alone x.place) (λ g. with_flag true (record g { keys = with_keys (keys (matching (backing_at w n) x)) g.keys })) w.tier, only (Done (len (matching (backing_at w n) x)))) (changed (alone x.place) (with_flag true) w.tier, only (Done (len (held_roots x (matching (backing_at w n) x)))))).0 w)
      by true = load_shows
      by false = flagged
