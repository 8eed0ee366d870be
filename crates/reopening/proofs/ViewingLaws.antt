-- READONLY groups whose flag is set are read from one snapshot, and what such stages leave.
use Rattle.std.proofs.Common.{◌≡◌, inl, inr, ℕ, suc, ◌+◌, Bool, true, false, cond, not, ◌&&◌, ◌||◌, nat_eq, Option, Some, None, is_some, List, [], ◌∷◌, map, slice_get, refl, sym, ap, subst, ◌∙◌, arith}
use Rattle.std.specs.Prelude.{Result, Ok, Err}
use Rattle.std.specs.Bool.{MatchBool}
use Rattle.std.specs.List.{list_any}
use Rattle.std.specs.FinMap.{contains_key, empty, get-empty}
use Rattle.row_types.specs.Order.{key_order}
use Rattle.row_types.specs.declared.value.Value.{Value}
use Rattle.indexed_rows.specs.Rows.{Table}
use Rattle.indexed_rows.proofs.EntryLaws.{same_itself}
use Rattle.table_state.specs.Tables.{TableState}
use Rattle.tier_base.specs.declared.number.TableId.{TableId}
use Rattle.outside.specs.Others.{is_shared}
use Rattle.outside.specs.Sites.{SiteState}
use Rattle.outside.specs.declared.fault.BankError.{BankError}
use Rattle.order_laws.proofs.TruthLaws.{both_true, never_both}
use Rattle.group_catalog.specs.Catalogs.{groups_in}
use Rattle.group_store.specs.Stores.{Kept}
use Rattle.cache_tier.specs.declared.reply.Reply.{Reply}
use Rattle.cache_tier.specs.Groups.{Group, covers, is_explicit, is_key, is_on, is_read_only, is_table_of, is_writethrough}
use Rattle.cache_tier.specs.Reading.{ReadsFirst, StageFollowsAt, as_it_was, backing_at}
use Rattle.cache_tier.specs.Sets.{Choice, OnePosition, alone, at_position, changed, changed_from, has_something, holds_some, is_in_set, refreshed, shows_in_set}
use Rattle.cache_tier.specs.TierStates.{Tier}
use Rattle.cache_tier.specs.Worlds.{Becomes, IsUnshared, Passes, World, bank_fault}
use Rattle.cache_tier.proofs.SetLaws.{came}
use Rattle.recovery.specs.Reopening.{ViewsAgain, is_held_again, is_viewed_again}
use Rattle.stored_tier.specs.declared.tier.Tier.{Tier as Stored}
use Rattle.stored_tier.specs.Performing.{Performs, StandsFor}
use Rattle.stored_tier.specs.Lists.{HasKeysOf}
use Rattle.stored_tier.specs.declared.refreshing.Made.{Made}
use Rattle.stored_tier.specs.Refreshing.{is_filled, is_shown_again, positioned}
use Rattle.stored_tier.specs.Stored.{IsSound, IsStoredAs, without_list}
use Rattle.stored_tier.proofs.ListLaws.{group_kept, hidden_kept, listed_there, store_kept}
use Rattle.group_engine.specs.declared.fresh.Fresh.{Fresh}
use Rattle.group_engine.specs.Fresh.{AreFresh, ReadsFresh}
use Rattle.group_engine.proofs.FreshGroup.{Changes}
use Rattle.group_engine.proofs.FreshLaws.{IsRefreshed, stands_behind}
use Rattle.reopening.specs.Building.{HoldsNothing}
use Rattle.reopening.specs.Reloading.{IsStillHeld, held_again}

-- groups that are changed as a choice says

pub same_kept : (c : Choice) (from : ℕ) (groups : List Group) → changed_from c (λ g. g) from groups ≡ groups
same_kept c from [] = refl
same_kept c from (g ∷ groups) =
    let first : cond (c from g) g g ≡ g = by (c from g) in
    let rest = same_kept c (suc from) groups in
    λ i. first i ∷ rest i
  where
    by : (b : Bool) → cond b g g ≡ g
    by true = refl
    by false = refl

plain_or : (b : Bool) → b ≡ (b || false)
plain_or true = refl
plain_or false = refl

-- what a change leaves of a group: its definition and its flag
pub record IsSameBut (f : Group → Group) : Type 0 where
  pub held : (g : Group) → is_held_again (f g) ≡ is_held_again g
  pub through : (t : TableId) (g : Group) → (is_writethrough (f g) && covers t (f g)) ≡ (is_writethrough g && covers t g)

held_changed : (c : Choice) (f : Group → Group) (same : IsSameBut f) (from : ℕ) (groups : List Group) → held_again (changed_from c f from groups) ≡ held_again groups
held_changed c f same from [] = refl
held_changed c f same from (g ∷ groups) =
    let first : is_held_again (cond (c from g) (f g) g) ≡ is_held_again g = by (c from g) in
    let rest = held_changed c f same (suc from) groups in
    λ i. first i ∷ rest i
  where
    by : (b : Bool) → is_held_again (cond b (f g) g) ≡ is_held_again g
    by true = same.held g
    by false = refl

through_changed : (c : Choice) (f : Group → Group) (same : IsSameBut f) (t : TableId) (from : ℕ) (groups : List Group) → is_table_of is_writethrough (changed_from c f from groups) t ≡ is_table_of is_writethrough groups t
through_changed c f same t from [] = refl
through_changed c f same t from (g ∷ groups) =
    let first : (is_writethrough (cond (c from g) (f g) g) && covers t (cond (c from g) (f g) g)) ≡ (is_writethrough g && covers t g) = by (c from g) in
    let rest = through_changed c f same t (suc from) groups in
    λ i. first i || rest i
  where
    by : (b : Bool) → (is_writethrough (cond b (f g) g) && covers t (cond b (f g) g)) ≡ (is_writethrough g && covers t g)
    by true = same.through t g
    by false = refl

unshared_as : (w w' : World) → w'.shared ≡ w.shared → ((t : TableId) → is_table_of is_writethrough w'.tier.groups t ≡ is_table_of is_writethrough w.tier.groups t) → IsUnshared w → IsUnshared w'
unshared_as w w' shares same apart t e = same t ∙ apart t (sym (ap (λ s. is_shared s t) shares) ∙ e)

-- a call that reads, and then such a change
module _ (c : Choice) (f : ℕ → TableState → Group → Group) (same : (n : ℕ) (s : TableState) → IsSameBut (f n s)) where
  abbrev pub Reading : World → World → Option Reply → Type 0
  Reading = ReadsFirst as_it_was (λ n. Becomes (λ v. changed c (f n (backing_at v n)) v.tier))

  pub still_held : (w w' : World) (stop : Option Reply) → IsUnshared w → ReadsFirst as_it_was (λ n. Becomes (λ v. changed c (f n (backing_at v n)) v.tier)) w w' stop → IsStillHeld w w'
  still_held w w' stop apart r = by r.result r.goes_on
    where
      unchanged : w' ≡ r.mid → IsStillHeld w w'
      unchanged is = record {
        held = ap (λ (v : World). held_again v.tier.groups) is ∙ ap (λ (t : Tier). held_again t.groups) r.tier;
        apart = unshared_as w w' (ap (λ (v : World). v.shared) is ∙ r.call.shared) (λ t. ap (λ (v : World). is_table_of is_writethrough v.tier.groups t) is ∙ ap (λ (a : Tier). is_table_of is_writethrough a.groups t) r.tier) apart;
      }

      renewed : (n : ℕ) → w' ≡ record r.mid { tier = changed c (f n (backing_at r.mid n)) r.mid.tier } → IsStillHeld w w'
      renewed n is = record {
        held =
            ap (λ (v : World). held_again v.tier.groups) is
            ∙ held_changed c (f n (backing_at r.mid n)) (same n (backing_at r.mid n)) 0 r.mid.tier.groups
            ∙ ap (λ (t : Tier). held_again t.groups) r.tier;
        apart = unshared_as w w' (ap (λ (v : World). v.shared) is ∙ r.call.shared)
            (λ t. ap (λ (v : World). is_table_of is_writethrough v.tier.groups t) is
            ∙ through_changed c (f n (backing_at r.mid n)) (same n (backing_at r.mid n)) t 0 r.mid.tier.groups
            ∙ ap (λ (a : Tier). is_table_of is_writethrough a.groups t) r.tier) apart;
      }

      by : (result : Result ℕ BankError) → StageFollowsAt result (λ n. Becomes (λ v. changed c (f n (backing_at v n)) v.tier)) r.mid w' stop → IsStillHeld w w'
      by (Err e) on = unchanged on.0
      by (Ok n) (inl on) = renewed n on.0
      by (Ok n) (inr on) = unchanged on.0

pub same_positioned : (n : ℕ) (s : TableState) → IsSameBut (at_position n s)
same_positioned n s = record { held = λ g. refl; through = λ t g. refl }

-- nothing is done where nothing is wanted
pub still_passed : (w w' : World) → IsUnshared w → w' ≡ w → IsStillHeld w w'
still_passed w w' apart is = subst (IsStillHeld w) (sym is) (record { held = refl; apart = apart })

pub still_viewed : (w w' : World) (stop : Option Reply) → IsUnshared w → ViewsAgain w w' stop → IsStillHeld w w'
still_viewed w w' stop apart does = by (list_any (is_viewed_again 0) w.tier.groups) does
  where
    by : (b : Bool) → MatchBool b (ReadsFirst as_it_was (λ n. Becomes (λ v. refreshed is_viewed_again n (backing_at v n) v.tier)) w w' stop) (Passes w w' stop) → IsStillHeld w w'
    by true d = still_held is_viewed_again (λ n. at_position n) same_positioned w w' stop apart d
    by false d = still_passed w w' apart d.0

-- the groups of the catalog are seen as those of the world
pub viewed_seen : (gs : List Group) → list_any (is_viewed_again 0) gs ≡ list_any is_shown_again (map without_list gs)
viewed_seen [] = refl
viewed_seen (g ∷ gs) = ap (λ b. is_viewed_again 0 g || b) (viewed_seen gs)

-- all groups of one set that show something are read
again_changes : Changes false 0 is_viewed_again None (λ g. g)
again_changes = record {
  flagged = λ g e. record { is = λ i. record g { loaded = plain_or g.loaded i } };
  loads_is = refl;
  chosen_is = λ g e. cc;
  unlisted = λ k g. refl;
}

-- a group that is loaded on demand shows nothing yet

no_keys : (keys : List (List Value)) → ((key : List Value) → is_key keys key ≡ false) → keys ≡ []
no_keys [] none = refl
no_keys (k ∷ keys) none =
    let own : is_key (k ∷ keys) k ≡ true = ap (λ b. b || is_key keys k) (same_itself k k refl) in
    absurd (never_both (is_key (k ∷ keys) k) own (none k))

none_kept : (keys : List (List Value)) (s : Kept) (hidden : Table) → s.keys ≡ [] → hidden ≡ empty → (b d : Bool) → d ≡ true → MatchBool b (keys ≡ s.keys) (MatchBool d (HasKeysOf keys s hidden) (Unit {0})) → keys ≡ []
none_kept keys s hidden bare none true d demand same = same ∙ bare
none_kept keys s hidden bare none false true demand are =
    no_keys keys (λ key. are key ∙ (λ i. is_key (bare i) key || contains_key (none i) key) ∙ ap is_some (get-empty key_order key))
none_kept keys s hidden bare none false false demand are = cc

undone : (b : Bool) → not b ≡ false → b ≡ true
undone true e = refl
undone false e = cc

nothing_there : (t : Stored) (w : World) → IsSound t → HoldsNothing t → IsStoredAs t w.tier → (k : ℕ) (g : Group) → slice_get w.tier.groups k ≡ Some g → is_explicit g ≡ false → has_something g ≡ false
nothing_there t w sound bare stored k g at demand =
    let seen = group_kept t w.tier k g stored at in
    let s = store_kept t k (without_list g) sound seen in
    let x = hidden_kept t k (without_list g) sound seen in
    let listed = listed_there w.tier.groups t.stores.items t.hidden.items k g s.0 x.0 stored.lists at s.1 x.1 in
    let keys : g.keys ≡ [] = none_kept g.keys s.0 x.0.table (bare.stores k s.0 s.1) (bare.hidden k x.0 x.1) _ g.def.dynamic (undone g.def.dynamic demand) listed in
    ap (λ b. cond b g.loaded (holds_some g.keys)) demand ∙ ap holds_some keys

must : (b : Bool) → (b ≡ false → ⊥) → b ≡ true
must true never = refl
must false never = absurd (never refl)

one_read : (groups : List Group) (n : ℕ) (s : TableState) → ((k : ℕ) (g : Group) → slice_get groups k ≡ Some g → is_explicit g ≡ false → has_something g ≡ false) → OnePosition (changed_from is_viewed_again (at_position n s) 0 groups)
one_read groups n s nothing interval i j g h at there shows_g shows_h = read i g at shows_g ∙ sym (read j h there shows_h)
  where
    read : (k : ℕ) (x : Group) → slice_get (changed_from is_viewed_again (at_position n s) 0 groups) k ≡ Some x → shows_in_set interval x ≡ true → x.position ≡ Some n
    read k x spot shows = by (is_viewed_again k from.g) refl
      where
        here : k ≡ 0 + k
        here = omega arith

        from : Rattle.cache_tier.proofs.SetLaws.Came is_viewed_again (at_position n s) groups k k x
        from = came is_viewed_again (at_position n s) groups 0 k k x here spot

        by : (b : Bool) → is_viewed_again k from.g ≡ b → x.position ≡ Some n
        by true e = ap (λ (y : Group). y.position) (from.is ∙ ap (λ b. cond b (at_position n s from.g) from.g) e)
        by false e =
            let same : x ≡ from.g = from.is ∙ ap (λ b. cond b (at_position n s from.g) from.g) e in
            let shown : shows_in_set interval from.g ≡ true = sym (ap (shows_in_set interval) same) ∙ shows in
            let parts = both_true (is_in_set interval from.g) (has_something from.g) shown in
            let reads : is_read_only from.g ≡ true = (both_true (is_read_only from.g) (nat_eq from.g.def.interval interval) (both_true (is_read_only from.g && nat_eq from.g.def.interval interval) (is_on from.g.state) parts.0).0).0 in
            let plain : is_explicit from.g ≡ true = must (is_explicit from.g) (λ demand. never_both (has_something from.g) parts.1 (nothing k from.g from.there demand)) in
            let loaded : from.g.loaded ≡ true = sym (ap (λ b. cond b from.g.loaded (Rattle.cache_tier.specs.Sets.holds_some from.g.keys)) plain) ∙ parts.1 in
            let yes : is_viewed_again k from.g ≡ true = (λ z. reads z && (plain z && loaded z)) in
            let no : true ≡ false = sym yes ∙ e in
            cc

view_stands : (t new : Stored) (mid : World) (n : ℕ) (made : List (Option Made)) → IsSound t → HoldsNothing t → StandsFor t mid → AreFresh t mid (is_filled is_viewed_again None) n made → IsRefreshed t new is_viewed_again 0 (λ g. g) n made
    → StandsFor new (record mid { tier = refreshed is_viewed_again n (backing_at mid n) mid.tier })
view_stands t new mid n made sound bare x fresh is =
    subst (λ (gs : List Group). StandsFor new (record mid { tier = record mid.tier { groups = gs } })) (same_kept (alone 0) 0 (changed_from is_viewed_again (at_position n (backing_at mid n)) 0 mid.tier.groups))
    (stands_behind t new mid false 0 is_viewed_again None (λ g. g) again_changes n made x fresh is
    (λ k g at c. (both_true (is_read_only g) (is_explicit g && g.loaded) c).0) (λ g. refl)
    (λ s. subst OnePosition (sym (same_kept (alone 0) 0 (changed_from is_viewed_again (at_position n s) 0 mid.tier.groups))) (one_read mid.tier.groups n s (nothing_there t mid sound bare x.stored))))

pub view_groups : (n : ℕ) (groups : List Group) → changed_from is_viewed_again (positioned n) 0 groups ≡ changed_from (alone 0) (λ g. g) 0 (changed_from is_viewed_again (positioned n) 0 groups)
view_groups n groups = sym (same_kept (alone 0) 0 (changed_from is_viewed_again (positioned n) 0 groups))

-- some group is viewed again, so the stage is done
wanted : (t : Stored) (w w' : World) (stop : Option Reply) (b : Bool) → IsStoredAs t w.tier → b ≡ list_any is_shown_again (groups_in t.catalog)
    → MatchBool b (ReadsFirst as_it_was (λ n. Becomes (λ v. refreshed is_viewed_again n (backing_at v n) v.tier)) w w' stop) (Passes w w' stop) → ViewsAgain w w' stop
wanted t w w' stop b stored is does =
    subst (λ x. MatchBool x (ReadsFirst as_it_was (λ n. Becomes (λ v. refreshed is_viewed_again n (backing_at v n) v.tier)) w w' stop) (Passes w w' stop))
    (is ∙ sym (viewed_seen w.tier.groups ∙ ap (list_any is_shown_again) stored.groups)) does

pub viewed_none : (t : Stored) (site : SiteState) → false ≡ list_any is_shown_again (groups_in t.catalog) → Performs t t site site (λ w w'. ViewsAgain w w' None)
viewed_none t site is w at stands apart = record { world = w; at = at; stands = stands; is = wanted t w w None false stands.stored is (refl, refl) }

pub viewed_all : (t new : Stored) (before behind : SiteState) (fresh : Fresh) → IsSound t → HoldsNothing t → true ≡ list_any is_shown_again (groups_in t.catalog) → ReadsFresh t before behind (is_filled is_viewed_again None) (Ok fresh)
    → IsRefreshed t new is_viewed_again 0 (λ g. g) fresh.position.0 fresh.made.items → Performs t new before behind (λ w w'. ViewsAgain w w' None)
viewed_all t new before behind fresh sound bare some reads is = λ w at stands apart.
    let r = reads w at stands apart in
    record {
      world = record r.0.world { tier = refreshed is_viewed_again fresh.position.0 (backing_at r.0.world fresh.position.0) r.0.world.tier };
      at = record { there = r.0.at.there; told = r.0.at.told; history = r.0.at.history; faults = r.0.at.faults; moment = r.0.at.moment; shared = r.0.at.shared };
      stands = view_stands t new r.0.world fresh.position.0 fresh.made.items sound bare r.0.stands r.1 is;
      is = wanted t w (record r.0.world { tier = refreshed is_viewed_again fresh.position.0 (backing_at r.0.world fresh.position.0) r.0.world.tier }) None true stands.stored some
          (record { result = Ok fresh.position.0; mid = r.0.world; call = r.0.call; tier = r.0.tier; goes_on = inl (refl, refl) });
    }

pub viewed_failed : (t : Stored) (before behind : SiteState) (e : BankError) → true ≡ list_any is_shown_again (groups_in t.catalog) → ReadsFresh t before behind (is_filled is_viewed_again None) (Err e)
    → Performs t t before behind (λ w w'. ViewsAgain w w' (Some (bank_fault e)))
viewed_failed t before behind e some reads = λ w at stands apart.
    let r = reads w at stands apart in
    record {
      world = r.world;
      at = r.at;
      stands = r.stands;
      is = wanted t w r.world (Some (bank_fault e)) true stands.stored some
          (record { result = Err e; mid = r.world; call = r.call; tier = r.tier; goes_on = (refl, refl) });
    }
