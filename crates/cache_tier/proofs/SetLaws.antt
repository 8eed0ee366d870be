-- Refreshes keep the one position of each set.
use Rattle.std.proofs.Common.{◌≡◌, ◌⊎◌, inl, inr, ℕ, zero, suc, ◌+◌, Bool, true, false, ◌&&◌, ◌||◌, cond, Option, Some, None, List, [], ◌∷◌, slice_get, nat_eq, refl, sym, ap, ◌∙◌, arith}
use Rattle.std.proofs.lemmas.Bool.{eqb-true, eq-eqb}
use Rattle.instances.specs.Trees.{is_place}
use Rattle.table_state.specs.Tables.{TableState}
use Rattle.cache_tier.specs.DynamicLoads.{state_loaded}
use Rattle.cache_tier.specs.Facts.{JoinHasOnePosition, RefreshHasOnePosition}
use Rattle.cache_tier.specs.Groups.{Group, is_on, is_read_only}
use Rattle.cache_tier.specs.Sets.{Choice, OnePosition, alone, at_position, changed_from, has_something, is_in_set, of_set, shows_in_set}

-- what a group came from
pub record Came (chosen : Choice) (change : Group → Group) (groups : List Group) (place at : ℕ) (h : Group) : Type 0 where
  pub g : Group
  pub there : slice_get groups place ≡ Some g
  pub is : h ≡ cond (chosen at g) (change g) g

module _ (chosen : Choice) (change : Group → Group) where
  pub came : (groups : List Group) (from place at : ℕ) (h : Group) → at ≡ from + place → slice_get (changed_from chosen change from groups) place ≡ Some h → Came chosen change groups place at h
  came [] from place at h e there = cc
  came (x ∷ groups) from zero at h e there =
      let same : from ≡ at = omega arith in
      let found : cond (chosen from x) (change x) x ≡ h = cc in
      record { g = x; there = refl; is = sym found ∙ ap (λ (n : ℕ). cond (chosen n x) (change x) x) same }
  came (x ∷ groups) from (suc place) at h e there =
      let rest = came groups (suc from) place at h (omega arith) there in
      record { g = rest.g; there = rest.there; is = rest.is }

pub both : (a b : Bool) → (a && b) ≡ true → (a ≡ true) × (b ≡ true)
both true true e = (refl, refl)
both true false e = cc
both false b e = cc

in_interval : (set : ℕ) (g : Group) → is_in_set set g ≡ true → g.def.interval ≡ set
in_interval set g e = eqb-true g.def.interval set (both (is_read_only g) (nat_eq g.def.interval set) (both (is_read_only g && nat_eq g.def.interval set) (is_on g.state) e).0).1

-- a group of the new list has the new position, or is as it was and in no set of the interval
pub record Renewed (interval n : ℕ) (groups : List Group) (place : ℕ) (h : Group) : Type 0 where
  pub g : Group
  pub there : slice_get groups place ≡ Some g
  pub fate : ((h.position ≡ Some n) × (h.def.interval ≡ interval)) ⊎ ((h ≡ g) × (is_in_set interval g ≡ false))

module _ (interval n : ℕ) (groups new : List Group) (all : (place : ℕ) (h : Group) → slice_get new place ≡ Some h → Renewed interval n groups place h) where
  -- one that is as it was isn't in a set with one that is new
  not_in : {P : Type 0} (set : ℕ) (h g x : Group) → is_in_set set h ≡ true → h.def.interval ≡ interval → x ≡ g → is_in_set interval g ≡ false → is_in_set set x ≡ true → P
  not_in set h g x in_h of_h same out in_x =
      let here : set ≡ interval = sym (in_interval set h in_h) ∙ of_h in
      let inside : is_in_set interval g ≡ true = sym (ap (λ (m : ℕ). is_in_set m g) here) ∙ sym (ap (is_in_set set) same) ∙ in_x in
      cc

  pub still_one : OnePosition groups → OnePosition new
  still_one one set i j g h at_i at_j shows_g shows_h = by from_i.fate from_j.fate
    where
      from_i : Renewed interval n groups i g
      from_i = all i g at_i

      from_j : Renewed interval n groups j h
      from_j = all j h at_j

      in_g : is_in_set set g ≡ true
      in_g = (both (is_in_set set g) (has_something g) shows_g).0

      in_h : is_in_set set h ≡ true
      in_h = (both (is_in_set set h) (has_something h) shows_h).0

      by : ((g.position ≡ Some n) × (g.def.interval ≡ interval)) ⊎ ((g ≡ from_i.g) × (is_in_set interval from_i.g ≡ false))
          → ((h.position ≡ Some n) × (h.def.interval ≡ interval)) ⊎ ((h ≡ from_j.g) × (is_in_set interval from_j.g ≡ false)) → g.position ≡ h.position
      by (inl p) (inl q) = p.0 ∙ sym q.0
      by (inl p) (inr q) = not_in set g from_j.g h in_g p.1 q.0 q.1 in_h
      by (inr p) (inl q) = not_in set h from_i.g g in_h q.1 p.0 p.1 in_g
      by (inr p) (inr q) =
          ap (λ (x : Group). x.position) p.0
          ∙ one set i j from_i.g from_j.g from_i.there from_j.there (sym (ap (shows_in_set set) p.0) ∙ shows_g) (sym (ap (shows_in_set set) q.0) ∙ shows_h)
          ∙ sym (ap (λ (x : Group). x.position) q.0)

module _ (interval : ℕ) (joining : Option ℕ) (n : ℕ) (s : TableState) (groups : List Group) (joins : (place : ℕ) (g : Group) → joining ≡ Some place → slice_get groups place ≡ Some g → g.def.interval ≡ interval) where
  pub chosen_interval : (place : ℕ) (g : Group) → slice_get groups place ≡ Some g → of_set interval joining place g ≡ true → g.def.interval ≡ interval
  chosen_interval place g there picked = by (is_in_set interval g) refl joining refl picked
    where
      by : (b : Bool) → is_in_set interval g ≡ b → (o : Option ℕ) → joining ≡ o → (b || is_place place o) ≡ true → g.def.interval ≡ interval
      by true e o eo t = in_interval interval g e
      by false e None eo t = cc
      by false e (Some m) eo t = let at : m ≡ place = eqb-true m place t in joins place g (eo ∙ ap Some at) there

  -- a group behind the refresh
  pub renewed : (place : ℕ) (h : Group) → slice_get (changed_from (of_set interval joining) (at_position n s) 0 groups) place ≡ Some h → Renewed interval n groups place h
  renewed place h there =
      let from = came (of_set interval joining) (at_position n s) groups 0 place place h (omega arith) there in
      record { g = from.g; there = from.there; fate = by from.g from.there (of_set interval joining place from.g) refl from.is }
    where
      by : (g : Group) → slice_get groups place ≡ Some g → (b : Bool) → of_set interval joining place g ≡ b → h ≡ cond (of_set interval joining place g) (at_position n s g) g → ((h.position ≡ Some n) × (h.def.interval ≡ interval)) ⊎ ((h ≡ g) × (is_in_set interval g ≡ false))
      by g at true picked is =
          let now : h ≡ at_position n s g = is ∙ ap (λ (b : Bool). cond b (at_position n s g) g) picked in
          inl (ap (λ (x : Group). x.position) now, ap (λ (x : Group). x.def.interval) now ∙ chosen_interval place g at picked)
      by g at false left is =
          let now : h ≡ g = is ∙ ap (λ (b : Bool). cond b (at_position n s g) g) left in
          inr (now, out (is_in_set interval g) (is_place place joining) left)
        where
          out : (a b : Bool) → (a || b) ≡ false → a ≡ false
          out true b e = cc
          out false b e = refl

pub refresh_has_one_position : RefreshHasOnePosition
refresh_has_one_position interval joining n s t joins one = still_one interval n t.groups (changed_from (of_set interval joining) (at_position n s) 0 t.groups) (renewed interval joining n s t.groups joins) one

-- the group that joins is new, whatever its STATE becomes
module _ (interval place n : ℕ) (s : TableState) (groups : List Group) (joins : (g : Group) → slice_get groups place ≡ Some g → g.def.interval ≡ interval) where
  joins_at : (other : ℕ) (g : Group) → Some place ≡ Some other → slice_get groups other ≡ Some g → g.def.interval ≡ interval
  joins_at other g e there = let same : place ≡ other = cc in joins g (ap (slice_get groups) same ∙ there)

  with_place : (a b : Bool) → b ≡ true → (a || b) ≡ true
  with_place true b e = refl
  with_place false b e = e

  joined : (other : ℕ) (h : Group) → slice_get (changed_from (alone place) state_loaded 0 (changed_from (of_set interval (Some place)) (at_position n s) 0 groups)) other ≡ Some h → Renewed interval n groups other h
  joined other h there =
      let last = came (alone place) state_loaded (changed_from (of_set interval (Some place)) (at_position n s) 0 groups) 0 other other h (omega arith) there in
      let first = came (of_set interval (Some place)) (at_position n s) groups 0 other other last.g (omega arith) last.there in
      let before = renewed interval (Some place) n s groups joins_at other last.g last.there in
      by last.g last.is first.g first.there first.is before (nat_eq other place) refl
    where
      by : (x : Group) → h ≡ cond (nat_eq other place) (state_loaded x) x → (g : Group) → slice_get groups other ≡ Some g → x ≡ cond (of_set interval (Some place) other g) (at_position n s g) g → Renewed interval n groups other x → (b : Bool) → nat_eq other place ≡ b → Renewed interval n groups other h
      by x is g at is_x before false e =
          let now : h ≡ x = is ∙ ap (λ (b : Bool). cond b (state_loaded x) x) e in
          record { g = before.g; there = before.there; fate = moved before.fate now }
        where
          moved : {g : Group} → ((x.position ≡ Some n) × (x.def.interval ≡ interval)) ⊎ ((x ≡ g) × (is_in_set interval g ≡ false)) → h ≡ x → ((h.position ≡ Some n) × (h.def.interval ≡ interval)) ⊎ ((h ≡ g) × (is_in_set interval g ≡ false))
          moved (inl p) now = inl (ap (λ (y : Group). y.position) now ∙ p.0, ap (λ (y : Group). y.def.interval) now ∙ p.1)
          moved (inr q) now = inr (now ∙ q.0, q.1)
      by x is g at is_x before true e =
          let now : h ≡ state_loaded x = is ∙ ap (λ (b : Bool). cond b (state_loaded x) x) e in
          let same : other ≡ place = eqb-true other place e in
          let picked : of_set interval (Some place) other g ≡ true = with_place (is_in_set interval g) (nat_eq place other) (eq-eqb place other (sym same)) in
          let new : x ≡ at_position n s g = is_x ∙ ap (λ (b : Bool). cond b (at_position n s g) g) picked in
          record {
            g = g;
            there = at;
            fate = inl (ap (λ (y : Group). y.position) now ∙ ap (λ (y : Group). y.position) new, ap (λ (y : Group). y.def.interval) now ∙ ap (λ (y : Group). y.def.interval) new ∙ chosen_interval interval (Some place) n s groups joins_at other g at picked);
          }

pub join_has_one_position : JoinHasOnePosition
join_has_one_position interval place n s t joins one = still_one interval n t.groups _ (joined interval place n s t.groups joins) one
