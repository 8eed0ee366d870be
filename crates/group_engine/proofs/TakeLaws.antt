-- Rows that are gathered for the store of a group, and put into it.
use Rattle.std.proofs.Common.{◌≡◌, ◌<◌, ◌+◌, ℕ, zero, suc, Bool, true, false, Some, Result, Ok, Err, OnErr, OnOk, List, [], ◌∷◌, length, map, get_or, slice_get, slice_set, arith, refl, sym, ap, subst, ◌∙◌}
use Rattle.std.proofs.lemmas.List.{length-map}
use Rattle.std.specs.FinMap.{values}
use Rattle.row_types.specs.declared.rule.Refused.{Refused}
use Rattle.row_types.specs.declared.rule.Refused.TheVariants as refused
use Rattle.row_types.specs.declared.value.Value.{Value}
use Rattle.table_state.specs.Tables.{TableState}
use Rattle.instances.specs.declared.tree.Tree.{Tree}
use Rattle.group_catalog.specs.Catalogs.{groups_in}
use Rattle.group_catalog.specs.declared.which.ResolvedWhich.{ResolvedWhich}
use Rattle.group_store.specs.Keeping.{layer_for}
use Rattle.group_store.specs.Stores.{HasRootKeys, Kept, SameButSpare, put_tables}
use Rattle.cache_tier.specs.declared.reply.Last.TheVariants.{Done, No}
use Rattle.cache_tier.specs.Rules.{past}
use Rattle.tier_base.specs.declared.limit.Limit.TheVariants as limit
use Rattle.cache_tier.specs.declared.reply.Reply.{Reply}
use Rattle.cache_tier.specs.Groups.{Group, is_read_only}
use Rattle.cache_tier.specs.Sets.{alone, changed_from}
use Rattle.cache_tier.specs.Worlds.{only}
use Rattle.cache_tier.proofs.ShownTrees.{length_kept}
use Rattle.stored_tier.specs.declared.gathering.Gathered.{Gathered}
use Rattle.stored_tier.specs.declared.tier.Tier.{Tier as Stored}
use Rattle.stored_tier.proofs.StoreLists.{got}
use Rattle.group_engine.specs.Putting.{FillsAt, GathersAt, HasPlaceFor, IsFilledAt}
use Rattle.stored_tier.specs.Gathering.{Gathers, coming_in, gathered_in}
use Rattle.stored_tier.specs.Stored.{IsSound}
use Rattle.group_engine.specs.Taking.{IsSameButRoom, IsSameElsewhere, JudgesFull, Pairs, TakesIn, TakesMatching}
use Rattle.group_engine.proofs.StorePairs.{room_self, room_set}
use Rattle.stored_tier.proofs.StoreRows.{form_at}

pub gathered_there : (t : Stored) (place : ℕ) (which : ResolvedWhich) (refreshes : Bool) (s : TableState) (group : Group) (store : Kept) (result : Result Gathered Refused)
    → Some group ≡ slice_get (groups_in t.catalog) place → slice_get t.stores.items place ≡ Some store → is_read_only group ≡ false → HasRootKeys store → Gathers s group.def.tree store which refreshes result → GathersAt t place which refreshes s result
gathered_there t place which refreshes s group store (Ok g) there kept writes keyed is = record { here = record { group = group; store = store; there = sym there; kept = kept; writes = writes; keyed = keyed }; is = is }
gathered_there t place which refreshes s group store (Err (refused.Rule rule)) there kept writes keyed is = record { here = record { group = group; store = store; there = sym there; kept = kept; writes = writes; keyed = keyed }; is = is }
gathered_there t place which refreshes s group store (Err refused.Memory) there kept writes keyed is = tt

pub filled_there : (place : ℕ) (rows : List (List (List Value))) (old : List Kept) (store filled : Kept) (result : Result (Unit {0}) Refused) → place < length old → store ≡ get_or old place store
    → OnOk result (SameButSpare (put_tables 0 rows store) filled) → OnErr result (SameButSpare store filled) → FillsAt place rows old (slice_set old place filled) result
filled_there place rows old store filled (Ok done) lt is ok err = record { store = store; filled = filled; kept = got old place store lt is; rows_in = ok; is = refl }
filled_there place rows old store filled (Err e) lt is ok err = room_set old place store filled (got old place store lt is) err

within : {A : Type 0} (xs : List A) (i : ℕ) (x : A) → slice_get xs i ≡ Some x → i < length xs
within [] i x at = cc
within (y ∷ xs) zero x at = omega arith
within (y ∷ xs) (suc i) x at = let lt = within xs i x at in omega (arith, lt)

pub place_within : (t : Stored) (place : ℕ) (which : ResolvedWhich) (refreshes : Bool) (s : TableState) (g : Gathered) → GathersAt t place which refreshes s (Ok g) → place < length (groups_in t.catalog)
place_within t place which refreshes s g at = within (groups_in t.catalog) place at.here.group at.here.there

-- the store has a place for each table of its tree
pub place_for : (t : Stored) (place : ℕ) (which : ResolvedWhich) (refreshes : Bool) (s : TableState) (g : Gathered) → IsSound t → GathersAt t place which refreshes s (Ok g) → HasPlaceFor place g.rows t.stores.items
place_for t place which refreshes s g sound at store kept =
    let tree : Tree = at.here.group.def.tree in
    let form = form_at t.schema (groups_in t.catalog) t.stores.items place at.here.group store sound.kept at.here.there kept in
    let rows : length g.rows ≡ 1 + length tree.children =
    ap length at.is.rows ∙ length-map (gathered_in s tree at.here.store which) values ∙ length_kept s tree.children (coming_in s tree at.here.store which ∷ []) in
    let layers : length store.layers ≡ length tree.children = ap length form.layers ∙ length-map tree.children (layer_for t.schema) in
    omega (arith, rows, layers)

-- nothing was changed

same_all : (t : Stored) → IsSameElsewhere t t
same_all t = record { schema = refl; visible = refl; stale = refl; directory = refl; hidden = refl; sessions = refl; unsettled = refl; writers = refl; next = refl; clock = refl }

pub room_alone : (old new : Stored) → IsSameElsewhere old new → Pairs SameButSpare old.stores.items new.stores.items → new.catalog ≡ old.catalog → new.verified ≡ old.verified → IsSameButRoom old new
room_alone old new rest stores catalog verified = record { rest = rest; stores = stores; catalog = catalog; verified = verified }

pub not_gathered : (t : Stored) (place : ℕ) (which : ResolvedWhich) (refreshes : Bool) (s : TableState) (e : Refused) → GathersAt t place which refreshes s (Err e) → TakesMatching t t place which refreshes s (Err e)
not_gathered t place which refreshes s (refused.Rule rule) at = (
  room_alone t t (same_all t) (room_self t.stores.items) refl refl,
  record { group = at.here.group; there = at.here.there; is = at.is.0 },
  at.is.1,
)
not_gathered t place which refreshes s refused.Memory at = room_alone t t (same_all t) (room_self t.stores.items) refl refl

-- the rows are in

pub taken : (old new : Stored) (place : ℕ) (which : ResolvedWhich) (refreshes : Bool) (s : TableState) (g : Gathered) (rows : List (List (List Value))) (reply : Reply)
    → GathersAt old place which refreshes s (Ok g) → rows ≡ g.rows → IsFilledAt place rows old.stores.items new.stores.items
    → groups_in new.catalog ≡ changed_from (alone place) (λ h. record h { loaded = true }) 0 (groups_in old.catalog)
    → IsSameElsewhere old new → new.verified ≡ false → reply ≡ only (Done g.count) → TakesIn old new place which refreshes s reply
taken old new place which refreshes s g rows reply at are filled groups rest unverified told =
    let both : Some filled.store ≡ Some at.here.store = sym filled.kept ∙ at.here.kept in
    let same : filled.store ≡ at.here.store = cc in
    let in_it = subst (λ r. SameButSpare (put_tables 0 r filled.store) filled.filled) (are ∙ at.is.rows) filled.rows_in in
    record {
      group = at.here.group;
      store = at.here.store;
      filled = filled.filled;
      there = at.here.there;
      kept = at.here.kept;
      writes = at.here.writes;
      keyed = at.here.keyed;
      fits = at.is.fits;
      rows = subst (λ k. SameButSpare (put_tables 0 (map values (gathered_in s at.here.group.def.tree at.here.store which)) k) filled.filled) same in_it;
      stores = filled.is;
      groups = groups;
      rest = rest;
      unverified = unverified;
      count = told ∙ ap (λ n. only (Done n)) at.is.count;
    }

-- 120, or memory was wanting; else 119 of the journal

pub judged_not : (t : Stored) (place : ℕ) (which : ResolvedWhich) (refreshes : Bool) (s : TableState) (e : Refused) → GathersAt t place which refreshes s (Err e) → JudgesFull t place which s (Err e)
judged_not t place which refreshes s (refused.Rule rule) at = (record { group = at.here.group; there = at.here.there; is = at.is.0 }, at.is.1)
judged_not t place which refreshes s refused.Memory at = tt

pub judged_full : (t : Stored) (place : ℕ) (which : ResolvedWhich) (refreshes : Bool) (s : TableState) (g : Gathered) (reply : Reply) → GathersAt t place which refreshes s (Ok g) → reply ≡ only (No (past limit.JournalSlot)) → JudgesFull t place which s (Ok reply)
judged_full t place which refreshes s g reply at is = (record { group = at.here.group; there = at.here.there; is = at.is.fits }, is)
