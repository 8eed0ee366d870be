-- What refuses UNLOAD of a writethrough group by the rows of its instances: 120, then 111.
use Rattle.std.proofs.Common.{◌≡◌, ◌<◌, ◌+◌, ℕ, zero, suc, arith, get_or, take, Bool, true, false, not, cond, ◌&&◌, ◌||◌, Option, Some, None, is_some, Result, Ok, Err, List, [], ◌∷◌, All, filter, find, length, map, slice_get, refl, sym, ap, subst, ◌∙◌}
use Rattle.std.proofs.lemmas.List.Elements.{All-head, All-tail}
use Rattle.std.proofs.lemmas.Bool.{eqb-true}
use Rattle.std.specs.Bool.{◌==◌}
use Rattle.std.specs.FinMap as fm
use Rattle.std.specs.List.{list_all, list_any}
use Rattle.std.specs.Option.{option_map, option_or}
use Rattle.row_types.specs.declared.rule.Refused.{Refused}
use Rattle.row_types.specs.declared.rule.Refused.TheVariants as refused
use Rattle.row_types.specs.declared.value.Value.{Value}
use Rattle.tier_base.specs.declared.code.Code.TheVariants as code
use Rattle.tier_base.specs.declared.number.SessionId.{SessionId}
use Rattle.table_defs.specs.Declarations.{Tells}
use Rattle.table_state.specs.declared.footprint.RowKey.{RowKey}
use Rattle.table_state.specs.declared.operation.Op.{Op}
use Rattle.table_state.specs.declared.operation.Op.TheVariants.{Delete, Insert, Update}
use Rattle.table_state.specs.Footprints.{footprint_of, is_in}
use Rattle.table_state.specs.Operations.{applied_all}
use Rattle.table_state.specs.Tables.{TableState}
use Rattle.table_state.specs.Keyed.{IsKeyed}
use Rattle.indexed_rows.specs.Rows.{Table}
use Rattle.instances.specs.Trees.{is_sound}
use Rattle.instances.specs.Views.{kept_at, passes}
use Rattle.own_rows.specs.OwnTables.{AreShown}
use Rattle.session_state.specs.Kept.{seen_of}
use Rattle.session_state.specs.Sessions.{OpenSession, has_id}
use Rattle.session_state.specs.declared.session.Session.{Session as Kept_session}
use Rattle.open_sessions.specs.Opening.{closed, seen_all}
use Rattle.group_catalog.specs.Catalogs.{groups_in}
use Rattle.group_catalog.specs.declared.which.ResolvedWhich.{ResolvedWhich}
use Rattle.group_store.specs.Stores.{Kept}
use Rattle.order_laws.proofs.TruthLaws.{both_true}
use Rattle.tier_statements.specs.Seen.{session_seen}
use Rattle.cache_tier.specs.Conditions.{overflow_fault}
use Rattle.cache_tier.specs.Facts.{OverIsApplied}
use Rattle.cache_tier.specs.Groups.{Group, is_writethrough}
use Rattle.cache_tier.specs.Locks.{has_writes_in, instance_lock, instance_rows, locked_by}
use Rattle.cache_tier.specs.Rules.{broken_if, plain}
use Rattle.cache_tier.specs.Shown.{all_over, over, shown_roots, shown_state}
use Rattle.cache_tier.specs.Targets.{Target}
use Rattle.cache_tier.specs.TierStates.{Session, is_labelled}
use Rattle.cache_tier.specs.UnloadSteps.{matching_shown, unload_fault}
use Rattle.cache_tier.specs.Worlds.{World}
use Rattle.cache_tier.specs.StandingBetween.{IsCatalogued}
use Rattle.cache_tier.proofs.ChosenGroups.{each_at}
use Rattle.cache_tier.proofs.UnloadStatements.{none_written}
use Rattle.group_engine.specs.declared.aiming.Aim.{Aim}
use Rattle.stored_tier.specs.declared.tier.Tier.{Tier as Stored}
use Rattle.stored_tier.specs.Choosing.{matches_at}
use Rattle.stored_tier.specs.Performing.{StandsFor}
use Rattle.stored_tier.specs.Stored.{HasSession, IsSound, IsStoredAs, IsVerified, rows_of, without_list}
use Rattle.group_engine.specs.Taking.{IsOfTarget}
use Rattle.group_engine.specs.UnloadLocks.{FitsIn, LocksTold, RootsTold, UnloadTold, leaves, writer_within, writes_within}
use Rattle.group_engine.proofs.DropLocks.{ClosedLaw, find_left, find_map, group_stored, others_seen}
use Rattle.group_engine.proofs.MatchLaws.{get_retained}
use Rattle.group_engine.proofs.MatchedRoots.{fits_is}
use Rattle.group_engine.proofs.UnloadLaws.{matching_is}
use Rattle.stored_tier.proofs.QuietLaws.{session_over, stands_over}
use Rattle.group_engine.proofs.UnloadWithin.{touches_is}

abbrev Row : Type 0
Row = List Value

-- operations leave the definitions
over_one : (op : Op) (s : TableState) → (over op s).schema ≡ s.schema
over_one (Insert t row) s = refl
over_one (Update t old new) s = refl
over_one (Delete t old) s = refl

over_schema : (ops : List Op) (s : TableState) → (all_over ops s).schema ≡ s.schema
over_schema [] s = refl
over_schema (op ∷ ops) s = over_schema ops (over op s) ∙ over_one op s

find_alike : (p q : OpenSession → Bool) (xs : List OpenSession) → All (λ x. p x ≡ q x) xs → find p xs ≡ find q xs
find_alike p q [] same = refl
find_alike p q (x ∷ xs) same =
    ap (λ b. cond b (Some x) (find p xs)) (All-head (λ y. p y ≡ q y) x xs same)
    ∙ ap (λ o. cond (q x) (Some x) o) (find_alike p q xs (All-tail (λ y. p y ≡ q y) x xs same))

-- sessions at rest

abbrev pub is_resting : OpenSession → Bool
is_resting x = length x.ops == 0

no_ops : (ops : List Op) → (length ops == 0) ≡ true → ops ≡ []
no_ops [] e = refl
no_ops (op ∷ ops) e = let z : suc (length ops) ≡ 0 = eqb-true (suc (length ops)) 0 e in cc

none_locked : (P q : Session → Bool) → ((y : Session) → y.own ≡ [] → P y ≡ false) → (xs : List OpenSession) → list_all is_resting xs ≡ true → find P (filter q (map session_seen xs)) ≡ None
none_locked P q rests [] all = refl
none_locked P q rests (x ∷ xs) all =
    let both = both_true (is_resting x) (list_all is_resting xs) all in
    by (q (session_seen x)) (none_locked P q rests xs both.1) (rests (session_seen x) (no_ops x.ops both.0))
  where
    by : (b : Bool) → find P (filter q (map session_seen xs)) ≡ None → P (session_seen x) ≡ false → find P (cond b (session_seen x ∷ filter q (map session_seen xs)) (filter q (map session_seen xs))) ≡ None
    by true rest free = ap (λ c. cond c (Some (session_seen x)) (find P (filter q (map session_seen xs)))) free ∙ rest
    by false rest free = rest

seen_rest : (sessions : List Kept_session) → list_all is_resting (map seen_of sessions) ≡ list_all (λ (s : Kept_session). length s.ops.items == 0) sessions
seen_rest [] = refl
seen_rest (s ∷ sessions) = ap (λ b. (length s.ops.items == 0) && b) (seen_rest sessions)

pub all_rest : (sessions : List Kept_session) (all : List OpenSession) (b : Bool) → map seen_of sessions ≡ all → b ≡ list_all (λ (s : Kept_session). length s.ops.items == 0) sessions → b ≡ true → list_all is_resting all ≡ true
all_rest sessions all b same is all_so = ap (list_all is_resting) (sym same) ∙ seen_rest sessions ∙ sym is ∙ all_so

abbrev pub KeyedLaw : Type 0
KeyedLaw = (ops : List Op) (s n : TableState) → applied_all ops s ≡ Some n → IsKeyed s → IsKeyed n

-- a session's writes in instances, by the keys that it holds
module _ (over_law : OverIsApplied) (keyed_law : KeyedLaw) (s : TableState) (g : Group) (test : Row → Bool) (sound : is_sound s.schema g.def.tree ≡ true) (plain : Rattle.cache_tier.specs.StandingBetween.has_no_where g.def.tree ≡ true) (x : OpenSession) (shown : AreShown x.ops s) where
  abbrev holding : List RowKey → Bool
  holding = list_any (λ z. is_in (footprint_of s.schema x.ops) z)

  keyed_over : (o : Option TableState) → applied_all x.ops s ≡ o → is_some o ≡ true → IsKeyed (all_over x.ops s)
  keyed_over None e h = cc
  keyed_over (Some n) e h = subst IsKeyed (sym (over_law x.ops s n e)) (keyed_law x.ops s n e shown.keyed)

  pub writes_is : writes_within s g.def.tree test x.ops ≡ (holding (instance_rows s g test) || holding (instance_rows (all_over x.ops s) g test))
  writes_is =
      let schema = over_schema x.ops s in
      (λ i. touches_is s g test sound plain shown.keyed x.ops i || touches_is (all_over x.ops s) g test (ap (λ defs. is_sound defs g.def.tree) schema ∙ sound) plain (keyed_over (applied_all x.ops s) refl shown.applies) x.ops i)
      ∙ ap (λ defs. holding (instance_rows s g test) || list_any (λ z. is_in (footprint_of defs x.ops) z) (instance_rows (all_over x.ops s) g test)) schema

-- of one group in a world
module _ (t : Stored) (w : World) (sound : IsSound t) (stands : StandsFor t w) (x : Target) (place : ℕ) (which : ResolvedWhich) (at : slice_get w.tier.groups place ≡ Some x.group) (writes : is_writethrough x.group ≡ true) (of : IsOfTarget x place which) (store : Kept) (kept : slice_get t.stores.items place ≡ Some store) where
  abbrev S : Table
  S = kept_at store.tables 0

  -- the instances that match
  tests : (k : Row) → fm.contains_key (matching_shown w x) k ≡ leaves which store k
  tests k =
      ap (λ (m : Table). fm.contains_key m k) (matching_is t w sound stands place x.group at writes store kept x which refl of)
      ∙ ap is_some (get_retained S (λ key. passes (matches_at which key) (fm.get S key)) k)
      ∙ by (fm.get S k)
    where
      by : (o : Option Row) → is_some (cond (passes (matches_at which k) o) o None) ≡ passes (matches_at which k) o
      by None = refl
      by (Some row) = of_row (matches_at which k row)
        where
          of_row : (b : Bool) → is_some (cond b (Some row) None) ≡ b
          of_row true = refl
          of_row false = refl

  catalogued : IsCatalogued w.tier.schema x.group
  catalogued = each_at (IsCatalogued w.tier.schema) w.tier.groups place x.group stands.stands.catalog.each at

  module _ (over_law : OverIsApplied) (keyed_law : KeyedLaw) (closed_law : ClosedLaw) (verified : IsVerified t) (id : SessionId) (s : Session) (has : HasSession t id s) where
    abbrev test : Row → Bool
    test = fm.contains_key (matching_shown w x)

    one : (y : OpenSession) → AreShown y.ops (rows_of t) → has_writes_in w.history w.tier x.group test (session_seen y) ≡ writes_within (rows_of t) x.group.def.tree (leaves which store) y.ops
    one y shown =
        sym (writes_is over_law keyed_law (shown_state w.history w.tier) x.group test catalogued.sound (catalogued.plain writes) y (subst (AreShown y.ops) stands.shows shown))
        ∙ ap (λ r. writes_within r x.group.def.tree test y.ops) (sym stands.shows)
        ∙ ap (λ (p : Row → Bool). writes_within (rows_of t) x.group.def.tree p y.ops) (λ i k. tests k i)

    all_alike : (ys : List OpenSession) → All (λ y. AreShown y.ops (rows_of t)) ys
        → All (λ y. (not (has_id id y) && has_writes_in w.history w.tier x.group test (session_seen y)) ≡ (not (has_id id y) && writes_within (rows_of t) x.group.def.tree (leaves which store) y.ops)) ys
    all_alike ys all = Rattle.std.proofs.lemmas.List.Elements.All-weaker (λ y. AreShown y.ops (rows_of t)) (λ y. (not (has_id id y) && has_writes_in w.history w.tier x.group test (session_seen y)) ≡ (not (has_id id y) && writes_within (rows_of t) x.group.def.tree (leaves which store) y.ops))
        (λ y shown. ap (λ b. not (has_id id y) && b) (one y shown)) ys all

    pub lock_is : instance_lock s.label w.history w.tier x.group test ≡ option_map locked_by (option_map session_seen (writer_within id (rows_of t) x.group.def.tree (leaves which store) (seen_all t.sessions)))
    lock_is =
        ap (λ ss. option_map locked_by (find (has_writes_in w.history w.tier x.group test) ss)) (others_seen closed_law t w.tier s id sound stands.stored has)
        ∙ ap (option_map locked_by) (find_map (has_writes_in w.history w.tier x.group test) session_seen (closed id (seen_all t.sessions)))
        ∙ ap (λ o. option_map locked_by (option_map session_seen o)) (find_left (λ y. not (has_id id y)) (λ y. has_writes_in w.history w.tier x.group test (session_seen y)) (seen_all t.sessions))
        ∙ ap (λ o. option_map locked_by (option_map session_seen o))
        (find_alike (λ y. not (has_id id y) && has_writes_in w.history w.tier x.group test (session_seen y)) (λ y. not (has_id id y) && writes_within (rows_of t) x.group.def.tree (leaves which store) y.ops) (seen_all t.sessions) (all_alike (seen_all t.sessions) verified.own))

-- 120, then 111

unlocked : (t : Stored) (w : World) (x : Target) (s : Session) (test : List Value → Bool) → IsStoredAs t w.tier → list_all is_resting (seen_all t.sessions) ≡ true → instance_lock s.label w.history w.tier x.group test ≡ None
unlocked t w x s test is rested =
    ap (option_map locked_by) (ap (λ ss. find (has_writes_in w.history w.tier x.group test) (filter (λ y. not (is_labelled s.label y)) ss)) is.sessions
    ∙ none_locked (has_writes_in w.history w.tier x.group test) (λ y. not (is_labelled s.label y)) (λ y rests. none_written w x.group test y rests) (seen_all t.sessions) rested)

pub roots_refused : (t : Stored) (id : SessionId) (aim : Aim) (e : Refused) → IsSound t → RootsTold t aim (Err e) → UnloadTold t id aim (Err e)
roots_refused t id aim (refused.Rule rule) sound over s w x has stands at writes of =
    let fault : overflow_fault x.filter (shown_roots w.history w.tier.log x.group) ≡ Some rule =
    fits_is t w sound stands x aim.place aim.which at of over.store over.kept ∙ ap (λ b. broken_if b (plain code.Overflow)) over.is ∙ ap Some (sym over.told) in
    ap (λ o. option_or o (instance_lock s.label w.history w.tier x.group (fm.contains_key (matching_shown w x)))) fault
roots_refused t id aim refused.Memory sound over s w x has stands at writes of = tt

-- where the condition is 120 on no row, the locks alone tell
fault_is : (t : Stored) (w : World) (aim : Aim) (s : Session) (x : Target) → IsSound t → StandsFor t w → slice_get w.tier.groups aim.place ≡ Some x.group → is_writethrough x.group ≡ true → IsOfTarget x aim.place aim.which → FitsIn t aim
    → unload_fault s x w ≡ instance_lock s.label w.history w.tier x.group (fm.contains_key (matching_shown w x))
fault_is t w aim s x sound stands at writes of fits =
    ap (λ o. option_or o (instance_lock s.label w.history w.tier x.group (fm.contains_key (matching_shown w x))))
    (fits_is t w sound stands x aim.place aim.which at of fits.store fits.kept ∙ ap (λ b. broken_if b (plain code.Overflow)) fits.fits)

pub rested_free : (t : Stored) (id : SessionId) (aim : Aim) → IsSound t → FitsIn t aim → list_all is_resting (seen_all t.sessions) ≡ true → UnloadTold t id aim (Ok tt)
rested_free t id aim sound fits rested s w x has stands at writes of =
    fault_is t w aim s x sound stands at writes of fits ∙ unlocked t w x s (fm.contains_key (matching_shown w x)) stands.stored rested

pub locks_tell : OverIsApplied → KeyedLaw → ClosedLaw → (t new : Stored) (id : SessionId) (aim : Aim) (result : Result (Unit {0}) Refused) → IsSound t → FitsIn t aim → new ≡ record t { verified = new.verified } → IsSound new → new.verified ≡ true → LocksTold new id aim result → UnloadTold t id aim result
locks_tell over_law keyed_law closed_law t new id aim result sound fits same good verified told s w x has stands at writes of =
    let there = stands_over t new w same stands in
    let stores : slice_get new.stores.items aim.place ≡ Some fits.store = ap (λ (y : Stored). slice_get y.stores.items aim.place) same ∙ fits.kept in
    subst (Tells result)
    (sym (fault_is t w aim s x sound stands at writes of fits
    ∙ lock_is new w good there x aim.place aim.which at writes of fits.store stores over_law keyed_law closed_law (good.verified verified) id s (session_over t new id s same has)))
    (told (without_list x.group) fits.store (group_stored new w.tier aim.place x.group there.stored at) stores)

-- the first among the kept ones is the first among those that are seen
pub writer_told : (t : Stored) (id : SessionId) (aim : Aim) (seen : Group) (store : Kept) (state : TableState) (sessions : List Kept_session) (found : Option Kept_session) → state ≡ rows_of t → map seen_of sessions ≡ seen_all t.sessions
    → slice_get (groups_in t.catalog) aim.place ≡ Some seen → slice_get t.stores.items aim.place ≡ Some store
    → found ≡ find (λ (s : Kept_session). not (has_id id (seen_of s)) && writes_within state seen.def.tree (leaves aim.which store) s.ops.items) sessions
    → (g : Group) (other : Kept) → slice_get (groups_in t.catalog) aim.place ≡ Some g → slice_get t.stores.items aim.place ≡ Some other
    → option_map locked_by (option_map session_seen (writer_within id (rows_of t) g.def.tree (leaves aim.which other) (seen_all t.sessions))) ≡ option_map locked_by (option_map session_seen (option_map seen_of found))
writer_told t id aim seen store state sessions found same_state same at kept is g other at_g at_other =
    let both : Some seen ≡ Some g = sym at ∙ at_g in
    let group : seen ≡ g = cc in
    let two : Some store ≡ Some other = sym kept ∙ at_other in
    let its : store ≡ other = cc in
    ap (λ (h : Group). option_map locked_by (option_map session_seen (writer_within id (rows_of t) h.def.tree (leaves aim.which other) (seen_all t.sessions)))) (sym group)
    ∙ ap (λ (k : Kept). option_map locked_by (option_map session_seen (writer_within id (rows_of t) seen.def.tree (leaves aim.which k) (seen_all t.sessions)))) (sym its)
    ∙ ap (λ r. option_map locked_by (option_map session_seen (writer_within id r seen.def.tree (leaves aim.which store) (seen_all t.sessions)))) (sym same_state)
    ∙ ap (λ xs. option_map locked_by (option_map session_seen (writer_within id state seen.def.tree (leaves aim.which store) xs))) (sym same)
    ∙ ap (λ o. option_map locked_by (option_map session_seen o)) (find_map (λ (x : OpenSession). not (has_id id x) && writes_within state seen.def.tree (leaves aim.which store) x.ops) seen_of sessions)
    ∙ ap (λ o. option_map locked_by (option_map session_seen (option_map seen_of o))) (sym is)

-- loops over sessions

pub one_more : {A : Type 0} (p : A → Bool) (xs : List A) (n : ℕ) (x : A) → n < length xs → x ≡ get_or xs n x → p x ≡ false → find p (take n xs) ≡ None → find p (take (n + 1) xs) ≡ None
one_more p [] n x lt is bad none = absurd (omega (arith, lt))
one_more p (y ∷ xs) zero x lt is bad none = ap (λ b. cond b (Some y) None) (ap p (sym is) ∙ bad)
one_more p (y ∷ xs) (suc n) x lt is bad none =
    let same : suc n + 1 ≡ suc (n + 1) = omega arith in
    ap (λ m. find p (take m (y ∷ xs))) same ∙ by (p y) none (one_more p xs n x (omega (arith, lt)) is bad)
  where
    by : (b : Bool) → cond b (Some y) (find p (take n xs)) ≡ None → (find p (take n xs) ≡ None → find p (take (n + 1) xs) ≡ None) → cond b (Some y) (find p (take (n + 1) xs)) ≡ None
    by true e rest = cc
    by false e rest = rest e

pub one_found : {A : Type 0} (p : A → Bool) (xs : List A) (n : ℕ) (x : A) → n < length xs → x ≡ get_or xs n x → p x ≡ true → find p (take n xs) ≡ None → find p xs ≡ Some x
one_found p [] n x lt is good none = absurd (omega (arith, lt))
one_found p (y ∷ xs) zero x lt is good none = ap (λ b. cond b (Some y) (find p xs)) (ap p (sym is) ∙ good) ∙ ap Some (sym is)
one_found p (y ∷ xs) (suc n) x lt is good none = by (p y) none (one_found p xs n x (omega (arith, lt)) is good)
  where
    by : (b : Bool) → cond b (Some y) (find p (take n xs)) ≡ None → (find p (take n xs) ≡ None → find p xs ≡ Some x) → cond b (Some y) (find p xs) ≡ Some x
    by true e rest = cc
    by false e rest = rest e
