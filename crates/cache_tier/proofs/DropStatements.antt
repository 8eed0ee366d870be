-- What DROP makes of what is shown.
use Rattle.std.proofs.Common.{◌≡◌, ℕ, zero, suc, Bool, true, false, cond, not, ◌&&◌, Some, List, [], ◌∷◌, ◌++◌, find, slice_get, refl, ap, ◌∙◌, arith}
use Rattle.std.specs.List.{filter, list_all, list_any}
use Rattle.table_state.specs.declared.operation.Op.{Op}
use Rattle.table_state.specs.Operations.{table_of}
use Rattle.order_laws.specs.Sides.{are_off}
use Rattle.order_laws.proofs.StepLaws.{or_none}
use Rattle.order_laws.proofs.TruthLaws.{not_both}
use Rattle.cache_tier.specs.Commits.{tables_of}
use Rattle.cache_tier.specs.DropSteps.{drop_answer}
use Rattle.cache_tier.specs.Groups.{Group, covers, is_called}
use Rattle.cache_tier.specs.Locks.{locked_by, writes_on}
use Rattle.cache_tier.specs.TierStates.{Session, others}
use Rattle.cache_tier.specs.Worlds.{World}
use Rattle.cache_tier.specs.Events.{with_tier}
use Rattle.cache_tier.specs.Dropping.{ShowsWithout}
use Rattle.cache_tier.specs.StandingBetween.{Stands, own_writes}
use Rattle.cache_tier.specs.Statements.{IsDroppable}
use Rattle.cache_tier.proofs.DropLaws.{group_drops}
use Rattle.cache_tier.proofs.GroupTables.{in_tree}
use Rattle.cache_tier.proofs.SessionLists.{none_passes}
use Rattle.cache_tier.proofs.UnloadStatements.{map_nothing}

-- operations on no table of the group
ops_off : (g : Group) (ops : List Op) → writes_on g ops ≡ false → are_off (tables_of g.def.tree) ops ≡ true
ops_off g [] e = refl
ops_off g (op ∷ ops) e =
    let (first, rest) = or_none (covers (table_of op) g) (writes_on g ops) e in
    (λ i. not ((in_tree g.def.tree (table_of op) ∙ first) i) && ops_off g ops rest i)

owns_off : (g : Group) (sessions : List Session) → list_any (λ (s : Session). writes_on g s.own) sessions ≡ false → list_all (are_off (tables_of g.def.tree)) (own_writes sessions) ≡ true
owns_off g [] e = refl
owns_off g (s ∷ sessions) e =
    let (first, rest) = or_none (writes_on g s.own) (list_any (λ (r : Session). writes_on g r.own) sessions) e in
    (λ i. ops_off g s.own first i && owns_off g sessions rest i)

-- the group of a name, and those before and behind it
pub record Split (stays : Group → Bool) (groups : List Group) (g : Group) : Type 0 where
  pub before : List Group
  pub behind : List Group
  pub is : groups ≡ before ++ g ∷ behind
  pub rest : filter stays groups ≡ before ++ behind

all_stay : (p : Group → Bool) (groups : List Group) → ((i : ℕ) (h : Group) → slice_get groups i ≡ Some h → p h ≡ false) → filter (λ h. not (p h)) groups ≡ groups
all_stay p [] none = refl
all_stay p (y ∷ groups) none = ap (λ b. cond (not b) (y ∷ filter (λ h. not (p h)) groups) (filter (λ h. not (p h)) groups)) (none 0 y refl) ∙ ap (λ l. y ∷ l) (all_stay p groups (λ i h at. none (suc i) h at))

pub split_of : (p : Group → Bool) (groups : List Group) (place : ℕ) (g : Group) → slice_get groups place ≡ Some g → p g ≡ true → ((i : ℕ) (h : Group) → slice_get groups i ≡ Some h → p h ≡ true → i ≡ place) → Split (λ h. not (p h)) groups g
split_of p [] place g at called alone = Prim.cc
split_of p (y ∷ groups) zero g at called alone =
    let same : y ≡ g = Prim.cc in record {
      before = [];
      behind = groups;
      is = ap (λ z. z ∷ groups) same;
      rest = ap (λ b. cond (not b) (y ∷ filter (λ h. not (p h)) groups) (filter (λ h. not (p h)) groups)) (ap p same ∙ called)
          ∙ all_stay p groups (λ i h there. not_both (p h) (λ e. (let wrong : suc i ≡ 0 = alone (suc i) h there e in absurd (Prim.omega (arith, wrong)))));
    }
split_of p (y ∷ groups) (suc n) g at called alone =
    let s = split_of p groups n g at called (λ i h there e. (let one : suc i ≡ suc n = alone (suc i) h there e in Prim.omega (arith, one))) in
    let first : p y ≡ false = not_both (p y) (λ e. (let wrong : 0 ≡ suc n = alone 0 y refl e in absurd (Prim.omega (arith, wrong)))) in
    record {
      before = y ∷ s.before;
      behind = s.behind;
      is = ap (λ l. y ∷ l) s.is;
      rest = ap (λ b. cond (not b) (y ∷ filter (λ h. not (p h)) groups) (filter (λ h. not (p h)) groups)) first ∙ ap (λ l. y ∷ l) s.rest;
    }

module _ (w : World) (s : Session) (name : List ℕ) (place : ℕ) (g : Group) (st : Stands w) (may : IsDroppable w s name place g) where
  abbrev split : Split (λ h. not (is_called name h)) w.tier.groups g
  split = split_of (is_called name) w.tier.groups place g may.there may.called may.alone

  abbrev writes : Session → Bool
  writes r = writes_on g r.own

  -- no session has written on its tables
  unwritten : list_any writes w.tier.sessions ≡ false
  unwritten = none_passes w.tier.sessions s writes st.sessions.labels may.session (ap (writes_on g) may.rests) (map_nothing locked_by (find writes (others s.label w.tier)) may.unlocked)

  pub drop_shows : ShowsWithout g w (with_tier (drop_answer name w).0 w)
  drop_shows = group_drops w name g st (record {
    before = split.before;
    behind = split.behind;
    is = split.is;
    rest = split.rest;
    settled = may.settled;
    unwritten = λ t. owns_off g w.tier.sessions unwritten;
  })
