-- One cycle after another over what is stored.
use Rattle.std.proofs.Common.{◌≡◌, ◌≢◌, ◌<◌, ◌≤◌, ◌+◌, ℕ, zero, suc, ◌⊎◌, inl, inr, Bool, true, false, cond, nat_eq, Some, None, Option, ℤ, List, [], ◌∷◌, length, set, slice_get, arith, refl, sym, ap, subst, ◌∙◌, eq-eqb, eqb-true}
use Rattle.std.proofs.lemmas.Bool.{cases_lt}
use Rattle.std.proofs.lemmas.Bool.Decides.{eqb_tells}
use Rattle.std.proofs.lemmas.Option.{slice_get_past}
use Rattle.std.specs.Bool.{MatchBool}
use Rattle.row_types.specs.declared.value.Value.{Value}
use Rattle.order_laws.proofs.TruthLaws.{same_some}
use Rattle.open_sessions.specs.Opening.{AreSessions}
use Rattle.group_catalog.specs.Catalogs.{groups_in}
use Rattle.cache_tier.specs.Groups.{Group}
use Rattle.cache_tier.specs.Sets.{alone, changed_from}
use Rattle.stored_tier.specs.declared.clock.TierClock.{TierClock}
use Rattle.stored_tier.specs.declared.tier.Tier.{Tier as Stored}
use Rattle.stored_tier.specs.Grouping.{KeepsBesideGroups}
use Rattle.stored_tier.specs.Lists.{IsHidingFor}
use Rattle.stored_tier.specs.Stored.{IsSound}
use Rattle.stored_tier.proofs.StoreChanges.{get_here, get_there}
use Rattle.stored_tier.proofs.StoreRows.{form_at}
use Rattle.aging_cycles.specs.Busy.{is_busy_in, owns_of}
use Rattle.aging_cycles.specs.Cycles.{is_due_at, is_due_in, leaving_by}
use Rattle.aging_cycles.specs.Running.{DueHorizon, HasLeft, HaveRun, HaveRunTo, HidesAt, KeepsForm, KeepsNote, LeavesAt, RunsAt, RunsIn, RunsOne, StaysAt, behind_cycle, turned}
use Rattle.aging_cycles.proofs.SoundRun.{hiding_at, hiding_long, kept_long}

abbrev Row : Type 0
Row = List Value

-- lists

pub has_place : {X : Type 0} (xs : List X) (i : ℕ) → i < length xs → (x : X) × (slice_get xs i ≡ Some x)
has_place [] i lt = absurd (omega (arith, lt))
has_place (x ∷ xs) zero lt = (x, refl)
has_place (x ∷ xs) (suc i) lt = has_place xs i (omega (arith, lt))

pub no_place : {X : Type 0} (xs : List X) (i : ℕ) → i < length xs → None ≡ slice_get xs i → ⊥
no_place xs i lt none = let (x, there) = has_place xs i lt in let z : None ≡ Some x = none ∙ there in cc

pub within : {X : Type 0} (xs : List X) (i : ℕ) (x : X) → slice_get xs i ≡ Some x → i < length xs
within [] i x at = cc
within (y ∷ xs) zero x at = omega arith
within (y ∷ xs) (suc i) x at = let lt = within xs i x at in omega (arith, lt)

set_same : {X : Type 0} (xs : List X) (i : ℕ) (x : X) → slice_get xs i ≡ Some x → xs ≡ set xs i x
set_same [] i x at = cc
set_same (y ∷ xs) zero x at = let same : y ≡ x = cc in ap (λ z. z ∷ xs) same
set_same (y ∷ xs) (suc i) x at = ap (λ ys. y ∷ ys) (set_same xs i x at)

set_long : {X : Type 0} (xs : List X) (i : ℕ) (x : X) → length (set xs i x) ≡ length xs
set_long [] i x = refl
set_long (y ∷ xs) zero x = refl
set_long (y ∷ xs) (suc i) x = ap suc (set_long xs i x)

-- the group at a place changes

changed_here : (k : ℕ) (f : Group → Group) (from : ℕ) (groups : List Group) (i : ℕ) (g : Group) → slice_get groups i ≡ Some g → slice_get (changed_from (alone k) f from groups) i ≡ Some (cond (nat_eq (from + i) k) (f g) g)
changed_here k f from [] i g at = cc
changed_here k f from (x ∷ groups) zero g at =
    let same : x ≡ g = cc in
    let here : from ≡ from + 0 = omega arith in
    λ j. Some (cond (nat_eq (here j) k) (f (same j)) (same j))
changed_here k f from (x ∷ groups) (suc i) g at =
    let here : suc from + i ≡ from + suc i = omega arith in
    changed_here k f (suc from) groups i g at ∙ ap (λ n. Some (cond (nat_eq n k) (f g) g)) here

changed_none : (k : ℕ) (f : Group → Group) (from : ℕ) (groups : List Group) (i : ℕ) → slice_get groups i ≡ None → slice_get (changed_from (alone k) f from groups) i ≡ None
changed_none k f from [] i at = refl
changed_none k f from (x ∷ groups) zero at = cc
changed_none k f from (x ∷ groups) (suc i) at = changed_none k f (suc from) groups i at

pub changed_long : (k : ℕ) (f : Group → Group) (from : ℕ) (groups : List Group) → length (changed_from (alone k) f from groups) ≡ length groups
changed_long k f from [] = refl
changed_long k f from (x ∷ groups) = ap suc (changed_long k f (suc from) groups)

pub changed_at : (k : ℕ) (f : Group → Group) (groups : List Group) (g : Group) → slice_get groups k ≡ Some g → slice_get (changed_from (alone k) f 0 groups) k ≡ Some (f g)
changed_at k f groups g at =
    let here : 0 + k ≡ k = omega arith in
    changed_here k f 0 groups k g at ∙ ap (λ b. Some (cond b (f g) g)) (eq-eqb (0 + k) k here)

pub changed_else : (k : ℕ) (f : Group → Group) (groups : List Group) (j : ℕ) → j ≢ k → slice_get (changed_from (alone k) f 0 groups) j ≡ slice_get groups j
changed_else k f groups j other = by (slice_get groups j) refl
  where
    not_it : (b : Bool) → nat_eq (0 + j) k ≡ b → b ≡ false
    not_it true e = let here : j ≡ 0 + j = omega arith in absurd (other (here ∙ eqb-true (0 + j) k e))
    not_it false e = refl

    by : (o : Option Group) → slice_get groups j ≡ o → slice_get (changed_from (alone k) f 0 groups) j ≡ slice_get groups j
    by None e = changed_none k f 0 groups j e ∙ sym e
    by (Some g) e = changed_here k f 0 groups j g e ∙ ap (λ b. Some (cond b (f g) g)) (not_it (nat_eq (0 + j) k) refl) ∙ sym e

turned_at : (k : ℕ) (horizon : Option ℤ) (now : ℕ) (groups : List Group) (g : Group) → slice_get groups k ≡ Some g → slice_get (turned k horizon now groups) k ≡ Some (record g { horizon = horizon; aged = now })
turned_at k horizon now groups g at =
    changed_at k (λ g. record g { aged = now }) (changed_from (alone k) (λ g. record g { horizon = horizon }) 0 groups) (record g { horizon = horizon })
    (changed_at k (λ g. record g { horizon = horizon }) groups g at)

turned_else : (k : ℕ) (horizon : Option ℤ) (now : ℕ) (groups : List Group) (j : ℕ) → j ≢ k → slice_get (turned k horizon now groups) j ≡ slice_get groups j
turned_else k horizon now groups j other =
    changed_else k (λ g. record g { aged = now }) (changed_from (alone k) (λ g. record g { horizon = horizon }) 0 groups) j other
    ∙ changed_else k (λ g. record g { horizon = horizon }) groups j other

turned_long : (k : ℕ) (horizon : Option ℤ) (now : ℕ) (groups : List Group) → length (turned k horizon now groups) ≡ length groups
turned_long k horizon now groups =
    changed_long k (λ g. record g { aged = now }) 0 (changed_from (alone k) (λ g. record g { horizon = horizon }) 0 groups)
    ∙ changed_long k (λ g. record g { horizon = horizon }) 0 groups

-- beside stores, hidden rows and groups nothing changes
still_beside : (t mid new : Stored) → mid ≡ record t { stores = mid.stores; hidden = mid.hidden; verified = mid.verified } → new ≡ record mid { catalog = new.catalog } → KeepsBesideGroups t new
still_beside t mid new same then = record {
  schema = ap (λ (y : Stored). y.schema) then ∙ ap (λ (y : Stored). y.schema) same;
  stale = ap (λ (y : Stored). y.stale) then ∙ ap (λ (y : Stored). y.stale) same;
  sessions = ap (λ (y : Stored). y.sessions) then ∙ ap (λ (y : Stored). y.sessions) same;
  unsettled = ap (λ (y : Stored). y.unsettled) then ∙ ap (λ (y : Stored). y.unsettled) same;
  writers = ap (λ (y : Stored). y.writers) then ∙ ap (λ (y : Stored). y.writers) same;
  next = ap (λ (y : Stored). y.next) then ∙ ap (λ (y : Stored). y.next) same;
  clock = ap (λ (y : Stored). y.clock) then ∙ ap (λ (y : Stored). y.clock) same;
}

-- a choice by what is due
pub chosen : (b : Bool) (P Q : Type 0) → b ≡ true → P → MatchBool b P Q
chosen true P Q e p = p
chosen false P Q e p = cc

pub unchosen : (b : Bool) (P Q : Type 0) → b ≡ false → Q → MatchBool b P Q
unchosen true P Q e q = cc
unchosen false P Q e q = q

-- the cycle at a place is due, and runs
pub runs_left : (t mid new : Stored) (k : ℕ) (horizon : Option ℤ) → k < length (groups_in t.catalog) → DueHorizon t k (Some horizon) → ((g : Group) → slice_get (groups_in t.catalog) k ≡ Some g → LeavesAt t mid k g)
    → mid ≡ record t { stores = mid.stores; hidden = mid.hidden; verified = mid.verified } → KeepsNote t mid → new ≡ record mid { catalog = new.catalog } → groups_in new.catalog ≡ turned k horizon t.clock.now (groups_in mid.catalog)
    → RunsOne t new k
runs_left t mid new k horizon lt due leaves same noted then groups =
    let (g, there) = has_place (groups_in t.catalog) k lt in
    let left = leaves g there in
    let catalog : groups_in mid.catalog ≡ groups_in t.catalog = ap (λ (y : Stored). groups_in y.catalog) same in
    let all = groups ∙ ap (turned k horizon t.clock.now) catalog in
    let stores : new.stores ≡ mid.stores = ap (λ (y : Stored). y.stores) then in
    let hidden : new.hidden ≡ mid.hidden = ap (λ (y : Stored). y.hidden) then in
    let note : new.verified ≡ mid.verified = ap (λ (y : Stored). y.verified) then in
    let now_stores = ap (λ y. y.items) stores ∙ left.stores in
    let now_hidden = ap (λ y. y.items) hidden ∙ left.rows in
    record {
      form = record {
        beside = still_beside t mid new same then;
        visible = ap (λ (y : Stored). y.visible) then ∙ ap (λ (y : Stored). y.visible) same;
        directory = ap (λ (y : Stored). y.directory) then ∙ ap (λ (y : Stored). y.directory) same;
        verified = λ e. (let p = noted (sym note ∙ e) in (p.0, ap (λ y. y.items) stores ∙ p.1));
        groups = ap length all ∙ turned_long k horizon t.clock.now (groups_in t.catalog);
        stores = ap length now_stores ∙ set_long t.stores.items k left.left;
        hidden = ap length now_hidden ∙ set_long t.hidden.items k left.behind;
      };
      here = chosen (is_due_at t k) (RunsAt t new k) (StaysAt t new k) due.0 (record {
        group = g;
        store = left.store;
        left = left.left;
        hidden = left.hidden;
        behind = left.behind;
        there = there;
        kept = left.kept;
        hid = left.hid;
        group_is = ap (λ gs. slice_get gs k) all ∙ turned_at k horizon t.clock.now (groups_in t.catalog) g there ∙ ap (λ h. Some (record g { horizon = h; aged = t.clock.now })) (due.1 g there);
        left_is = ap (λ ss. slice_get ss k) now_stores ∙ get_here t.stores.items k left.store left.left left.kept;
        behind_is = ap (λ hs. slice_get hs k) now_hidden ∙ get_here t.hidden.items k left.hidden left.behind left.hid;
        does = left.does;
      });
      others = λ j other. record {
        groups = ap (λ gs. slice_get gs j) all ∙ turned_else k horizon t.clock.now (groups_in t.catalog) j other;
        stores = ap (λ ss. slice_get ss j) now_stores ∙ get_there t.stores.items k j left.left other;
        hidden = ap (λ hs. slice_get hs j) now_hidden ∙ get_there t.hidden.items k j left.behind other;
      };
    }

-- so many have run

stays : (t : Stored) (k : ℕ) → StaysAt t t k
stays t k = record { groups = refl; stores = refl; hidden = refl }

still_form : (t : Stored) → KeepsForm t t
still_form t = record {
  beside = record { schema = refl; stale = refl; sessions = refl; unsettled = refl; writers = refl; next = refl; clock = refl };
  visible = refl;
  directory = refl;
  verified = λ e. (e, refl);
  groups = refl;
  stores = refl;
  hidden = refl;
}

pub none_run : (t : Stored) → HaveRunTo 0 t t
none_run t = record { form = still_form t; each = λ k lt. absurd (omega (arith, lt)); rest = λ k le. stays t k }

-- it isn't due
pub runs_none : (t : Stored) (k : ℕ) → is_due_at t k ≡ false → RunsOne t t k
runs_none t k idle = record {
  form = still_form t;
  here = unchosen (is_due_at t k) (RunsAt t t k) (StaysAt t t k) idle (stays t k);
  others = λ j other. stays t j;
}

both_forms : (a b c : Stored) → KeepsForm a b → KeepsForm b c → KeepsForm a c
both_forms a b c x y = record {
  beside = record {
    schema = y.beside.schema ∙ x.beside.schema;
    stale = y.beside.stale ∙ x.beside.stale;
    sessions = y.beside.sessions ∙ x.beside.sessions;
    unsettled = y.beside.unsettled ∙ x.beside.unsettled;
    writers = y.beside.writers ∙ x.beside.writers;
    next = y.beside.next ∙ x.beside.next;
    clock = y.beside.clock ∙ x.beside.clock;
  };
  visible = y.visible ∙ x.visible;
  directory = y.directory ∙ x.directory;
  verified = λ e. (let p = y.verified e in let q = x.verified p.0 in (q.0, p.1 ∙ q.1));
  groups = y.groups ∙ x.groups;
  stores = y.stores ∙ x.stores;
  hidden = y.hidden ∙ x.hidden;
}

-- what has run stays so
then_stays : (a b c : Stored) (k : ℕ) → RunsIn a b k → StaysAt b c k → RunsIn a c k
then_stays a b c k x y = by (is_due_at a k) x
  where
    by : (due : Bool) → MatchBool due (RunsAt a b k) (StaysAt a b k) → MatchBool due (RunsAt a c k) (StaysAt a c k)
    by false z = record { groups = y.groups ∙ z.groups; stores = y.stores ∙ z.stores; hidden = y.hidden ∙ z.hidden }
    by true z = record {
      group = z.group;
      store = z.store;
      left = z.left;
      hidden = z.hidden;
      behind = z.behind;
      there = z.there;
      kept = z.kept;
      hid = z.hid;
      group_is = y.groups ∙ z.group_is;
      left_is = y.stores ∙ z.left_is;
      behind_is = y.hidden ∙ z.behind_is;
      does = z.does;
    }

both_stay : (a b c : Stored) (k : ℕ) → StaysAt a b k → StaysAt b c k → StaysAt a c k
both_stay a b c k x y = record { groups = y.groups ∙ x.groups; stores = y.stores ∙ x.stores; hidden = y.hidden ∙ x.hidden }

-- what runs where all was as it is
runs_first : (a b c : Stored) (k : ℕ) → KeepsBesideGroups a b → StaysAt a b k → RunsIn b c k → RunsIn a c k
runs_first a b c k beside x y = by (is_due_at a k) refl (is_due_at b k) refl y
  where
    same : is_due_at b k ≡ is_due_at a k
    same = (λ i. is_due_in (record b { clock = beside.clock i }) (x.groups i))

    by : (one : Bool) → is_due_at a k ≡ one → (other : Bool) → is_due_at b k ≡ other → MatchBool other (RunsAt b c k) (StaysAt b c k) → MatchBool one (RunsAt a c k) (StaysAt a c k)
    by true e false f z = let never : true ≡ false = sym e ∙ sym same ∙ f in cc
    by false e true f z = let never : true ≡ false = sym f ∙ same ∙ e in cc
    by false e false f z = both_stay a b c k x z
    by true e true f z = record {
      group = z.group;
      store = z.store;
      left = z.left;
      hidden = z.hidden;
      behind = z.behind;
      there = sym x.groups ∙ z.there;
      kept = sym x.stores ∙ z.kept;
      hid = sym x.hidden ∙ z.hid;
      group_is = z.group_is ∙ ap (λ (n : TierClock). Some (behind_cycle n.now z.group)) beside.clock;
      left_is = z.left_is;
      behind_is = z.behind_is;
      does = subst (λ (ks : List Row). HasLeft z.group ks z.store z.left z.hidden z.behind)
          (λ i. leaving_by (beside.clock i).pace (beside.clock i).now (is_busy_in (beside.schema i) (owns_of (beside.sessions i)) z.group z.store) z.group z.store z.group.def.aging) z.does;
    }

-- one more
pub steps : (n : ℕ) (t mid new : Stored) → HaveRunTo n t mid → RunsOne mid new n → HaveRunTo (n + 1) t new
steps n t mid new run one = record {
  form = both_forms t mid new run.form one.form;
  each = λ k lt. by k lt (eqb_tells k n);
  rest = λ k le. both_stay t mid new k (run.rest k (omega (arith, le))) (one.others k (λ e. absurd (omega (arith, le, e))));
}
  where
    by : (k : ℕ) → k < n + 1 → ((nat_eq k n ≡ true) × (k ≡ n)) ⊎ ((nat_eq k n ≡ false) × (k ≢ n)) → RunsIn t new k
    by k lt (inl same) = subst (RunsIn t new) (sym same.1) (runs_first t mid new n run.form.beside (run.rest n (omega arith)) one.here)
    by k lt (inr other) =
        let e = other.1 in
        then_stays t mid new k (run.each k (omega (arith, e, lt))) (one.others k other.1)

pub all_run : (n : ℕ) (t new : Stored) → length (groups_in t.catalog) ≤ n → HaveRunTo n t new → HaveRun t new
all_run n t new le run = record { form = run.form; each = λ k. by k (cases_lt k n) }
  where
    by : (k : ℕ) → (k < n) ⊎ (n ≤ k) → RunsIn t new k
    by k (inl lt) = run.each k lt
    by k (inr past) =
        unchosen (is_due_at t k) (RunsAt t new k) (StaysAt t new k) (ap (is_due_in t) (slice_get_past (groups_in t.catalog) k (omega (arith, le, past)))) (run.rest k past)

-- what a cycle asks of the tier, where the others have run

module _ (n : ℕ) (t mid : Stored) (sound : IsSound t) (lt : n < length (groups_in t.catalog)) (run : HaveRunTo n t mid) where
  pub groups_there : n < length (groups_in mid.catalog)
  groups_there = let e = run.form.groups in omega (arith, lt, e)

  pub stores_there : n < length mid.stores.items
  stores_there = let e = run.form.stores in let k = kept_long t.schema (groups_in t.catalog) t.stores.items sound.kept in omega (arith, lt, e, k)

  pub hidden_there : n < length mid.hidden.items
  hidden_there = let e = run.form.hidden in let k = hiding_long t.schema (groups_in t.catalog) t.stores.items t.hidden.items sound.hiding in omega (arith, lt, e, k)

  pub sessions_there : AreSessions mid.schema mid.sessions
  sessions_there = subst (λ y. AreSessions mid.schema y) (sym run.form.beside.sessions) (subst (λ d. AreSessions d t.sessions) (sym run.form.beside.schema) sound.sessions)

  pub hides_there : HidesAt mid n
  hides_there g s h at kept hid =
      let stay = run.rest n (omega arith) in
      let was = sym stay.groups ∙ at in
      let had = sym stay.stores ∙ kept in
      let (x, held, is) = hiding_at t.schema (groups_in t.catalog) t.stores.items t.hidden.items n g s sound.hiding was had in
      let same : x ≡ h = same_some (sym held ∙ sym stay.hidden ∙ hid) in
      let hiding : IsHidingFor t.schema g s h = subst (λ z. IsHidingFor t.schema g s z) same is in
      (hiding.key ∙ sym (form_at t.schema (groups_in t.catalog) t.stores.items n g s sound.kept was had).key, subst (λ d. IsHidingFor d g s h) (sym run.form.beside.schema) hiding)
