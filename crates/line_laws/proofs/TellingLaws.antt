-- STATEs and flags that are flushed, and the change that they tell of.
use Rattle.std.proofs.Common.{◌≡◌, ℕ, Bool, true, false, cond, ◌&&◌, not, Option, Some, None, List, [], ◌∷◌, ◌++◌, length, map, slice_get, refl, sym, ap, subst, ◌∙◌, arith, append-nil, append_assoc}
use Rattle.std.specs.Bool.{MatchBool}
use Rattle.std.proofs.lemmas.Bool.{lt-ltb}
use Rattle.tier_base.specs.declared.code.Code.TheVariants as code
use Rattle.tier_base.specs.declared.number.TableId.{TableId}
use Rattle.table_state.specs.declared.history.Sealed.{Sealed}
use Rattle.sql_subset.specs.declared.stmt.RefreshState.{RefreshState}
use Rattle.sql_subset.specs.declared.stmt.RefreshState.TheVariants.{On, Off, Paused}
use Rattle.cache_tier.specs.AlterSteps.{altered_entries, same_state, with_state}
use Rattle.cache_tier.specs.declared.reply.Reply.{Reply}
use Rattle.cache_tier.specs.Groups.{Group, is_paused, is_read_only, is_writethrough}
use Rattle.cache_tier.specs.JournalSteps.{Flushes, FlushesFitting, FlushesSome, journal_full}
use Rattle.cache_tier.specs.Journals.{Commits, Defines, Drops, Journal, JournalEntry, Marks, Numbers, Prepares, SetsLoaded, SetsState, passed_by}
use Rattle.cache_tier.specs.JournalWays.{given}
use Rattle.cache_tier.specs.Reading.{Answers}
use Rattle.cache_tier.specs.Sets.{alone, changed, changed_from, loaded_state}
use Rattle.cache_tier.specs.Steps.{tells}
use Rattle.cache_tier.specs.Targets.{flag_entries, has_flag, load_entries}
use Rattle.cache_tier.specs.DynamicLoads.{state_entries}
use Rattle.cache_tier.specs.TierStates.{Tier, with_group}
use Rattle.cache_tier.specs.Worlds.{Answer, Becomes, Follows, IsUnshared, OnlyWhere, StageFollows, Then, ThenStage, World}
use Rattle.recovery.specs.Journalled.{AreAlike, IsAlike, IsJournalled, IsJournalledOn, IsQuiet}
use Rattle.recovery.specs.Recalling.{with_loaded}
use Rattle.recovery.proofs.DroppedLaws.{alike_apart}
use Rattle.recovery.proofs.JournalledLaws.{folded, flushes_kept, loaded_kept, state_kept, turned, turned_back}
use Rattle.recovery.proofs.LiveLaws.{unshared_back}
use Rattle.recovery.proofs.NewestLaws.{NamesApart}
use Rattle.recovery.proofs.OthersLaws.{on_then, one_journalled_on}
use Rattle.recovery.proofs.PointLaws.{StaysUnshared}
use Rattle.recovery.proofs.SafeLaws.{flush_safe, safely, wayless, without_way}
use Rattle.line_laws.specs.Keeping.{is_broken}
use Rattle.line_laws.proofs.FlushLaws.{HasBatch, HasFlushed, IsWhole, kept_flushes}
use Rattle.line_laws.proofs.PartWords.{Any, Goes, GoesPart, GoesStage, quiet_on, same_goes, same_on}
use Rattle.line_laws.proofs.PlaceLaws.{alike_at, same_changed, turned_at, turned_twice}

-- the tier is what these entries tell, but for what no entry tells
abbrev pub Told : List JournalEntry → Tier → Tier → Type 0
Told [] t t' = IsQuiet t t'
Told (SetsState name state ∷ entries) t t' = Told entries (with_group name (with_state state) t) t'
Told (SetsLoaded name flag ∷ entries) t t' = Told entries (with_group name (with_loaded flag) t) t'
Told (Commits s ∷ entries) t t' = ⊥
Told (Prepares s ∷ entries) t t' = ⊥
Told (Numbers n ∷ entries) t t' = ⊥
Told (Marks n ∷ entries) t t' = ⊥
Told (Defines d text ∷ entries) t t' = ⊥
Told (Drops name ∷ entries) t t' = ⊥

-- what is unshared of it is so of the first
told_back : (shared : List TableId) (entries : List JournalEntry) (t t' : Tier) → Told entries t t' → StaysUnshared shared t.groups t'.groups
told_back shared [] t t' told = unshared_back shared t.groups t'.groups told.groups
told_back shared (SetsState name state ∷ entries) t t' told =
    λ alone. turned_back shared name (with_state state) (λ g. refl) t.groups (map (turned name (with_state state)) t.groups) (Rattle.recovery.proofs.JournalledLaws.alike_self (map (turned name (with_state state)) t.groups))
    (told_back shared entries (with_group name (with_state state) t) t' told alone)
told_back shared (SetsLoaded name flag ∷ entries) t t' told =
    λ alone. turned_back shared name (with_loaded flag) (λ g. refl) t.groups (map (turned name (with_loaded flag)) t.groups) (Rattle.recovery.proofs.JournalledLaws.alike_self (map (turned name (with_loaded flag)) t.groups))
    (told_back shared entries (with_group name (with_loaded flag) t) t' told alone)
told_back shared (Commits s ∷ entries) t t' told = absurd told
told_back shared (Prepares s ∷ entries) t t' told = absurd told
told_back shared (Numbers n ∷ entries) t t' told = absurd told
told_back shared (Marks n ∷ entries) t t' told = absurd told
told_back shared (Defines d text ∷ entries) t t' told = absurd told
told_back shared (Drops name ∷ entries) t t' told = absurd told

-- the entries one by one, with no way asked for

abbrev flushed_one : JournalEntry → Journal → Journal
flushed_one e j = record { kept = true; flushed = given j ++ e ∷ []; tail = []; written = 0; generation = 0; way = None }

further : (e : JournalEntry) (entries : List JournalEntry) (j new : Journal) → j.kept ≡ true → HasBatch (e ∷ entries) j new → HasBatch entries (flushed_one e j) new
further e entries j new kept f = record {
  kept = f.kept ∙ kept;
  flushed = f.flushed ∙ sym (append_assoc (given j) (e ∷ []) entries) ∙ ap (λ l. l ++ entries) (sym (append-nil (given j ++ e ∷ [])));
  tail = f.tail;
}

no_way : (w : World) → w.journal.way ≡ None → None ≡ passed_by w.journal.flushed (length w.history) w.journal.way
no_way w e = ap (λ o. passed_by w.journal.flushed (length w.history) o) (sym e)

told_bare : (entries : List JournalEntry) (w : World) (early : List Sealed) (t : Tier) (new : Journal) → w.journal.way ≡ None → IsJournalled w early → HasBatch entries w.journal new → Told entries w.tier t → IsJournalledOn (wayless (record w { tier = t; journal = new })) early
told_bare [] w early t new none j f told =
    let last : Journal = record new { way = None } in
    let on = flushes_kept w early last j (record { kept = f.kept ∙ j.kept; flushed = f.flushed ∙ append-nil (given w.journal); tail = f.tail; way = no_way w none }) in
    on_then (record w { tier = t; journal = last }) early on.now on.more on.grows (quiet_on (record w { journal = last }) on.now t on.is told)
told_bare (SetsState name state ∷ entries) w early t new none j f told =
    let t1 = with_group name (with_state state) w.tier in
    let k1 = flushed_one (SetsState name state) w.journal in
    let on = state_kept w early name state t1 k1 j (record { kept = refl; flushed = refl; tail = refl; way = no_way w none }) (record { log = refl; next = omega arith; groups = Rattle.recovery.proofs.JournalledLaws.alike_self t1.groups }) in
    on_then (wayless (record w { tier = t; journal = new })) early on.now on.more on.grows
    (told_bare entries (record w { tier = t1; journal = k1 }) on.now t new refl on.is (further (SetsState name state) entries w.journal new j.kept f) told)
told_bare (SetsLoaded name flag ∷ entries) w early t new none j f told =
    let t1 = with_group name (with_loaded flag) w.tier in
    let k1 = flushed_one (SetsLoaded name flag) w.journal in
    let on = loaded_kept w early name flag t1 k1 j (record { kept = refl; flushed = refl; tail = refl; way = no_way w none }) (record { log = refl; next = omega arith; groups = Rattle.recovery.proofs.JournalledLaws.alike_self t1.groups }) in
    on_then (wayless (record w { tier = t; journal = new })) early on.now on.more on.grows
    (told_bare entries (record w { tier = t1; journal = k1 }) on.now t new refl on.is (further (SetsLoaded name flag) entries w.journal new j.kept f) told)
told_bare (Commits s ∷ entries) w early t new none j f told = absurd told
told_bare (Prepares s ∷ entries) w early t new none j f told = absurd told
told_bare (Numbers n ∷ entries) w early t new none j f told = absurd told
told_bare (Marks n ∷ entries) w early t new none j f told = absurd told
told_bare (Defines d text ∷ entries) w early t new none j f told = absurd told
told_bare (Drops name ∷ entries) w early t new none j f told = absurd told

-- all of them at once, on its way
pub told_kept : (entries : List JournalEntry) (w : World) (early : List Sealed) (t : Tier) (new : Journal) → IsJournalled w early → HasFlushed entries (length w.history) w.journal new → Told entries w.tier t → IsJournalledOn (record w { tier = t; journal = new }) early
told_kept entries w early t new j f told =
    let on = told_bare entries (wayless w) early t new refl (without_way w early j) (record { kept = f.batch.kept; flushed = f.batch.flushed; tail = f.batch.tail }) told in
    record {
      now = on.now;
      is = safely (record w { tier = t; journal = new }) on.now on.is (flush_safe w t new on.now entries j.safe on.is (told_back w.shared entries w.tier t told) f.batch.flushed f.way);
      more = on.more;
      grows = on.grows;
    }

-- ---- flushed, and then the change

-- the names of the tier's groups are apart
pub names_apart : (w : World) (early : List Sealed) → IsJournalled w early → NamesApart w.tier.groups
names_apart w early j = alike_apart j.catalog.groups w.tier.groups j.alike (folded w early j).names

-- what a flush of these entries is, where it didn't fail and they fit: nothing, or all
pub data Flushing (entries : List JournalEntry) (w w' : World) (stop : Option Reply) : Type 0 where
  none : entries ≡ [] → w' ≡ w → stop ≡ None → Flushing entries w w' stop
  refused : (reply : Reply) → w' ≡ w → stop ≡ Some reply → Flushing entries w w' stop
  whole : IsWhole entries w w' → stop ≡ None → Flushing entries w w' stop

pub some_flushes : (entries : List JournalEntry) (w w' : World) (stop : Option Reply) → w.journal.kept ≡ true → FlushesSome entries w w' stop → is_broken stop ≡ false → Flushing entries w w' stop
some_flushes [] w w' stop kept f ok = none refl f.0 f.1
some_flushes (e ∷ entries) w w' stop kept f ok = by (journal_full w (e ∷ entries)) (subst (λ b. OnlyWhere b (FlushesFitting (e ∷ entries)) w w' stop) (lt-ltb 0 (length (e ∷ entries)) (omega arith)) f)
  where
    by : (b : Bool) → MatchBool b ((w' ≡ w) × (stop ≡ Some (Rattle.cache_tier.specs.Worlds.only (Rattle.cache_tier.specs.declared.reply.Last.TheVariants.No (Rattle.cache_tier.specs.Rules.past Rattle.tier_base.specs.declared.limit.Limit.TheVariants.JournalSlot))))) (Flushes (e ∷ entries) w w' stop) → Flushing (e ∷ entries) w w' stop
    by true f = refused _ f.0 f.1
    by false f = let r = kept_flushes (e ∷ entries) w w' stop kept f ok in whole r.0 r.1

-- the change tells what the entries tell, wherever the tier is this one
abbrev pub Tells : (World → Type 0) → List JournalEntry → (World → Tier) → Type 0
Tells P entries change = (w : World) → P w → NamesApart w.tier.groups → Told entries w.tier (change w)

-- what holds of a tier alone
abbrev pub IsOfTier : (World → Type 0) → Type 0
IsOfTier P = (w w' : World) → w'.tier ≡ w.tier → P w → P w'

pub whole_told : (P : World → Type 0) (entries : List JournalEntry) (change : World → Tier) (w mid : World) (early : List Sealed) → IsOfTier P → Tells P entries change → IsJournalled w early → P w → IsWhole entries w mid → IsJournalledOn (record mid { tier = change mid }) early
whole_told P entries change w mid early of so j p is =
    one_journalled_on (record w { tier = change mid; journal = mid.journal }) (record mid { tier = change mid }) early (record { tier = refl; history = is.history; journal = refl; shared = is.shared })
    (told_kept entries w early (change mid) mid.journal j is.journal
    (subst (λ t. Told entries t (change mid)) is.tier (so mid (of w mid is.tier p) (subst (λ (t : Tier). NamesApart t.groups) (sym is.tier) (names_apart w early j)))))

none_told : (P : World → Type 0) (entries : List JournalEntry) (change : World → Tier) (w : World) (early : List Sealed) → Tells P entries change → IsJournalled w early → P w → entries ≡ [] → IsQuiet w.tier (change w)
none_told P entries change w early so j p e = subst (λ l. Told l w.tier (change w)) e (so w p (names_apart w early j))

pub settles_goes : (P : World → Type 0) (entries : List JournalEntry) (answer : World → Answer) → IsOfTier P → Tells P entries (λ w. (answer w).0) → GoesPart P (Then (FlushesSome entries) (Answers answer))
settles_goes P entries answer of so w w' early reply j apart p q ok = by q.stop q.first q.next
  where
    quiet_case : (mid : World) → entries ≡ [] → mid ≡ w → Answers answer mid w' reply → IsJournalledOn w' early
    quiet_case mid e same next =
        subst (λ x. IsJournalledOn x early) (sym (next.0 ∙ ap (λ (x : World). record x { tier = (answer x).0 }) same))
        (quiet_on w early (answer w).0 j (none_told P entries (λ x. (answer x).0) w early so j p e))

    by : (stop : Option Reply) → FlushesSome entries w q.mid stop → Follows stop (Answers answer) q.mid w' reply → IsJournalledOn w' early
    by None first next = elim (some_flushes entries w q.mid None j.kept first refl) [
      | none e same s ↦ quiet_case q.mid e same next
      | refused r same s ↦ (let bad : None ≡ Some r = s in Prim.cc)
      | whole is end ↦ subst (λ x. IsJournalledOn x early) (sym next.0) (whole_told P entries (λ x. (answer x).0) w q.mid early of so j p is)
    ]
    by (Some stop) first next = elim (some_flushes entries w q.mid (Some stop) j.kept first (ap (λ (r : Reply). tells code.JournalFault r.last) (sym next.1) ∙ ok)) [
      | none e same s ↦ same_on w w' early (next.0 ∙ same) j
      | refused r same s ↦ same_on w w' early (next.0 ∙ same) j
      | whole is end ↦ (let bad : Some stop ≡ None = end in Prim.cc)
    ]

-- the same before the last part of a line
pub becomes_told : (P : World → Type 0) (entries : List JournalEntry) (change : World → Tier) → IsOfTier P → Tells P entries change → ((w : World) → P w → AreAlike w.tier.groups w.tier.groups → (u : Rattle.tier_base.specs.declared.number.TableId.TableId) → Rattle.cache_tier.specs.Groups.is_table_of is_writethrough w.tier.groups u ≡ Rattle.cache_tier.specs.Groups.is_table_of is_writethrough (change w).groups u)
    → GoesStage P Any (ThenStage (FlushesSome entries) (Becomes change))
becomes_told P entries change of so tables w w' early stop j apart p q ok = by q.stop q.first q.next
  where
    here : (mid : World) → mid.tier ≡ w.tier → mid.shared ≡ w.shared → IsUnshared (record mid { tier = change mid })
    here mid same shared t e =
        sym (tables mid (of w mid same p) (Rattle.recovery.proofs.JournalledLaws.alike_self mid.tier.groups) t)
        ∙ ap (λ (x : Tier). Rattle.cache_tier.specs.Groups.is_table_of is_writethrough x.groups t) same ∙ apart t (ap (λ s. Rattle.outside.specs.Others.is_shared s t) (sym shared) ∙ e)

    by : (end : Option Reply) → FlushesSome entries w q.mid end → StageFollows end (Becomes change) q.mid w' stop → Goes Any w' early
    by None first next = elim (some_flushes entries w q.mid None j.kept first refl) [
      | none e same s ↦ subst (λ x. Goes Any x early) (sym (next.0 ∙ ap (λ (x : World). record x { tier = change x }) same))
          (record { on = quiet_on w early (change w) j (none_told P entries change w early so j p e); unshared = here w refl refl; holds = tt })
      | refused r same s ↦ (let bad : None ≡ Some r = s in Prim.cc)
      | whole is end ↦ subst (λ x. Goes Any x early) (sym next.0) (record { on = whole_told P entries change w q.mid early of so j p is; unshared = here q.mid is.tier is.shared; holds = tt })
    ]
    by (Some r) first next = elim (some_flushes entries w q.mid (Some r) j.kept first (ap is_broken (sym next.1) ∙ ok)) [
      | none e same s ↦ same_goes Any w w' early (next.0 ∙ same) j apart tt
      | refused r same s ↦ same_goes Any w w' early (next.0 ∙ same) j apart tt
      | whole is end ↦ (let bad : Some r ≡ None = end in Prim.cc)
    ]

-- ---- a group at its place

-- the group is at this place
abbrev pub IsAt : ℕ → Group → World → Type 0
IsAt place g w = slice_get w.tier.groups place ≡ Some g

pub at_of_tier : (place : ℕ) (g : Group) → IsOfTier (IsAt place g)
at_of_tier place g w w' same is = ap (λ (t : Tier). slice_get t.groups place) same ∙ is

same_seen : (a b : RefreshState) → same_state a b ≡ true → a ≡ b
same_seen On On e = refl
same_seen Off Off e = refl
same_seen Paused Paused e = refl
same_seen On Off e = Prim.cc
same_seen On Paused e = Prim.cc
same_seen Off On e = Prim.cc
same_seen Off Paused e = Prim.cc
same_seen Paused On e = Prim.cc
same_seen Paused Off e = Prim.cc

-- the tier with the group at the place changed so, behind what no entry tells
placed : (t t1 : Tier) (place : ℕ) (g : Group) (one other : Group → Group) → slice_get t.groups place ≡ Some g → IsQuiet t t1 → ((h : Group) → IsAlike g h → IsAlike (one g) (other h)) → (gs : List Group) → gs ≡ changed_from (alone place) one 0 t.groups
    → IsQuiet (record t { groups = gs }) (changed (alone place) other t1)
placed t t1 place g one other at quiet so gs e = record {
  log = quiet.log;
  next = quiet.next;
  groups = subst (λ l. AreAlike l (changed_from (alone place) other 0 t1.groups)) (sym e) (alike_at one other t.groups t1.groups place g at so quiet.groups);
}

pub state_told : (t t1 : Tier) (place : ℕ) (g : Group) (state : RefreshState) → slice_get t.groups place ≡ Some g → NamesApart t.groups → IsQuiet t t1 → Told (altered_entries g state) t (changed (alone place) (with_state state) t1)
state_told t t1 place g state at apart quiet = by (same_state g.state state) refl
  where
    by : (b : Bool) → same_state g.state state ≡ b → Told (cond b [] (SetsState g.def.name state ∷ [])) t (changed (alone place) (with_state state) t1)
    by true e = placed t t1 place g (λ h. h) (with_state state) at quiet (λ h a. record { def = a.def; state = λ r. sym (same_seen g.state state e); loaded = a.loaded }) t.groups (sym (same_changed (alone place) 0 t.groups))
    by false e = placed t t1 place g (with_state state) (with_state state) at quiet (λ h a. record { def = a.def; state = λ r. refl; loaded = a.loaded }) (map (turned g.def.name (with_state state)) t.groups) (turned_at (with_state state) t.groups place g apart at)

-- a group that is loaded, or whose flag is cleared
pub record IsLoadedAs (flag to_on : Bool) (g k : Group) : Type 0 where
  pub def : k.def ≡ g.def
  pub state : is_read_only g ≡ true → k.state ≡ cond to_on (loaded_state g.state) g.state
  pub loaded : k.loaded ≡ cond (has_flag g) flag g.loaded

on_state : (g : Group) → is_read_only g ≡ true → (is_read_only g && is_paused g.state) ≡ false → loaded_state g.state ≡ g.state
on_state g r e = by g.state (sym (ap (λ b. b && is_paused g.state) r) ∙ e)
  where
    by : (s : RefreshState) → is_paused s ≡ false → loaded_state s ≡ s
    by On e = refl
    by Off e = refl
    by Paused e = Prim.cc

paused_on : (g : Group) → (is_read_only g && is_paused g.state) ≡ true → loaded_state g.state ≡ On
paused_on g e = by (is_read_only g) g.state e
  where
    by : (r : Bool) (s : RefreshState) → (r && is_paused s) ≡ true → loaded_state s ≡ On
    by true On e = refl
    by true Off e = Prim.cc
    by true Paused e = refl
    by false s e = Prim.cc

flag_set : (flag a b : Bool) → (a && not b) ≡ true → true ≡ cond a true b
flag_set flag true b e = refl
flag_set flag false b e = Prim.cc

flag_there : (a b : Bool) → (a && not b) ≡ false → b ≡ cond a true b
flag_there true true e = refl
flag_there true false e = Prim.cc
flag_there false b e = refl

flag_cleared : (a b : Bool) → (a && b) ≡ true → false ≡ cond a false b
flag_cleared true b e = refl
flag_cleared false b e = Prim.cc

flag_off : (a b : Bool) → (a && b) ≡ false → b ≡ cond a false b
flag_off true true e = Prim.cc
flag_off true false e = refl
flag_off false b e = refl

abbrev to_on : Group → Group
to_on g = with_state On g

abbrev to_flagged : Group → Group
to_flagged g = with_loaded true g

-- LOAD, REFRESH: the STATE and the flag
pub load_told : (t t1 : Tier) (place : ℕ) (g : Group) (other : Group → Group) → slice_get t.groups place ≡ Some g → NamesApart t.groups → IsQuiet t t1 → ((h : Group) → IsAlike g h → IsLoadedAs true true g (other h)) → Told (load_entries g) t (changed (alone place) other t1)
load_told t t1 place g other at apart quiet so = by (is_read_only g && is_paused g.state) refl (has_flag g && not g.loaded) refl
  where
    by : (a : Bool) → (is_read_only g && is_paused g.state) ≡ a → (b : Bool) → (has_flag g && not g.loaded) ≡ b → Told (cond a (SetsState g.def.name On ∷ []) [] ++ cond b (SetsLoaded g.def.name true ∷ []) []) t (changed (alone place) other t1)
    by true a true b = placed t t1 place g (λ h. to_flagged (to_on h)) other at quiet
        (λ h al. (let k = so h al in record { def = k.def; state = λ r. k.state r ∙ paused_on g a; loaded = k.loaded ∙ sym (flag_set true (has_flag g) g.loaded b) }))
        (map (turned g.def.name to_flagged) (map (turned g.def.name to_on) t.groups)) (turned_twice g.def.name to_on to_flagged (λ h. refl) t.groups ∙ turned_at (λ h. to_flagged (to_on h)) t.groups place g apart at)
    by true a false b = placed t t1 place g to_on other at quiet
        (λ h al. (let k = so h al in record { def = k.def; state = λ r. k.state r ∙ paused_on g a; loaded = k.loaded ∙ sym (flag_there (has_flag g) g.loaded b) }))
        (map (turned g.def.name to_on) t.groups) (turned_at to_on t.groups place g apart at)
    by false a true b = placed t t1 place g to_flagged other at quiet
        (λ h al. (let k = so h al in record { def = k.def; state = λ r. k.state r ∙ on_state g r a; loaded = k.loaded ∙ sym (flag_set true (has_flag g) g.loaded b) }))
        (map (turned g.def.name to_flagged) t.groups) (turned_at to_flagged t.groups place g apart at)
    by false a false b = placed t t1 place g (λ h. h) other at quiet
        (λ h al. (let k = so h al in record { def = k.def; state = λ r. k.state r ∙ on_state g r a; loaded = k.loaded ∙ sym (flag_there (has_flag g) g.loaded b) }))
        t.groups (sym (same_changed (alone place) 0 t.groups))

-- the STATE alone
pub on_told : (t t1 : Tier) (place : ℕ) (g : Group) (other : Group → Group) → slice_get t.groups place ≡ Some g → NamesApart t.groups → IsQuiet t t1
    → ((h : Group) → IsAlike g h → IsAlike (record g { state = loaded_state g.state }) (other h)) → Told (state_entries g) t (changed (alone place) other t1)
on_told t t1 place g other at apart quiet so = by (is_read_only g && is_paused g.state) refl
  where
    by : (a : Bool) → (is_read_only g && is_paused g.state) ≡ a → Told (cond a (SetsState g.def.name On ∷ []) []) t (changed (alone place) other t1)
    by true a = placed t t1 place g to_on other at quiet (λ h al. (let k = so h al in record { def = k.def; state = λ r. k.state r ∙ paused_on g a; loaded = k.loaded }))
        (map (turned g.def.name to_on) t.groups) (turned_at to_on t.groups place g apart at)
    by false a = placed t t1 place g (λ h. h) other at quiet (λ h al. (let k = so h al in record { def = k.def; state = λ r. k.state r ∙ on_state g r a; loaded = k.loaded }))
        t.groups (sym (same_changed (alone place) 0 t.groups))

-- UNLOAD: the flag is cleared
abbrev to_cleared : Group → Group
to_cleared g = with_loaded false g

pub unload_told : (t t1 : Tier) (place : ℕ) (g : Group) (other : Group → Group) → slice_get t.groups place ≡ Some g → NamesApart t.groups → IsQuiet t t1 → ((h : Group) → IsAlike g h → IsLoadedAs false false g (other h)) → Told (flag_entries false g) t (changed (alone place) other t1)
unload_told t t1 place g other at apart quiet so = by (has_flag g && g.loaded) refl
  where
    by : (b : Bool) → (has_flag g && g.loaded) ≡ b → Told (cond b (SetsLoaded g.def.name false ∷ []) []) t (changed (alone place) other t1)
    by true b = placed t t1 place g to_cleared other at quiet (λ h al. (let k = so h al in record { def = k.def; state = k.state; loaded = k.loaded ∙ sym (flag_cleared (has_flag g) g.loaded b) }))
        (map (turned g.def.name to_cleared) t.groups) (turned_at to_cleared t.groups place g apart at)
    by false b = placed t t1 place g (λ h. h) other at quiet (λ h al. (let k = so h al in record { def = k.def; state = k.state; loaded = k.loaded ∙ sym (flag_off (has_flag g) g.loaded b) }))
        t.groups (sym (same_changed (alone place) 0 t.groups))
