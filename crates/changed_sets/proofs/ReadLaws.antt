-- What is read of the bank by what changed, in the worlds at the site.
use Rattle.std.proofs.Common.{◌≡◌, ◌≤◌, ℕ, zero, suc, Some, List, [], ◌∷◌, ◌++◌, length, map, slice_get, take, refl, sym, ap, ◌∙◌, arith}
use Rattle.std.proofs.lemmas.List.{append-nil}
use Rattle.std.specs.Prelude.{Result, Ok, Err}
use Rattle.tier_base.specs.declared.number.Position.{Position}
use Rattle.tier_base.specs.declared.number.TableId.{TableId}
use Rattle.table_defs.specs.declared.definition.TableDef.{TableDef}
use Rattle.table_state.specs.declared.history.Entry.{Entry}
use Rattle.table_state.specs.Histories.{state_at, state_of}
use Rattle.table_state.specs.Tables.{TableState}
use Rattle.instances.specs.declared.tree.Tree.{Tree}
use Rattle.outside.specs.Bank.{Grows}
use Rattle.outside.specs.Calls as site
use Rattle.outside.specs.Changes.{TakesChanges, TellsChanges}
use Rattle.outside.specs.Holding.{Held}
use Rattle.outside.specs.Others.{Around}
use Rattle.outside.specs.Sites.{SiteState}
use Rattle.outside.specs.declared.changes.Changes.{Changes}
use Rattle.outside.specs.declared.fault.BankError.{BankError}
use Rattle.outside.specs.declared.fault.BankError.TheVariants.{Memory}
use Rattle.cache_tier.specs.Groups.{Group}
use Rattle.cache_tier.specs.Reading.{TellsPosition}
use Rattle.cache_tier.specs.Worlds.{BankCall, IsUnshared, World}
use Rattle.cache_tier.specs.Events.{StaysShown, at_history}
use Rattle.cache_tier.specs.StandingBetween.{Stands}
use Rattle.cache_tier.proofs.HistoryKeeps.{around_goes_on, others_go_on}
use Rattle.cache_tier.proofs.SoundStates.{IsSoundState, sound_history}
use Rattle.stored_tier.specs.declared.tier.Tier.{Tier as Stored}
use Rattle.stored_tier.specs.Performing.{StandsFor}
use Rattle.stored_tier.specs.Sites.{IsAt}
use Rattle.stored_tier.specs.Stored.{without_list}
use Rattle.stored_tier.proofs.BankLaws.{TellsBehind, behind, behind_at, call_behind, told_behind}
use Rattle.stored_tier.proofs.HiddenRows.{hides_later}
use Rattle.stored_tier.proofs.LongerLaws.{read_longer}
use Rattle.changed_sets.specs.Fresh.{IsRead}

-- nothing was called
pub not_called : (t : Stored) (seen : SiteState) (w : World) → IsAt seen w → StandsFor t w → IsRead t seen (Err Memory) w
not_called t seen w at stands = record {
  world = w;
  at = at;
  stands = stands;
  call = record {
    history = record {
      before = [];
      middle = w.history;
      behind = [];
      came_before = tt;
      own = sym (append-nil (w.history ++ []) ∙ append-nil w.history);
      came_behind = tt;
      is = sym (append-nil w.history);
    };
    journal = refl;
    faults = omega arith;
    disk = refl;
    moment = omega arith;
    shared = refl;
  };
  tier = refl;
}

-- the counts of faults and the moment play no part
pub stands_then : (w : World) (held : Held) (after : SiteState) → Stands (at_history held.history w) → Stands (behind w w.tier held after)
stands_then w held after x = record {
  flow = x.flow;
  schema = record { front = x.schema.front; whole = x.schema.whole };
  catalog = x.catalog;
  keys = x.keys;
  read = x.read;
  sessions = x.sessions;
}

around_weaker : (shared : List TableId) (step other : List Entry → List Entry → Type 0) (old new : List Entry) → ((a b : List Entry) → step a b → other a b) → Around shared step old new → Around shared other old new
around_weaker shared step other old new f a = record {
  before = a.before;
  middle = a.middle;
  behind = a.behind;
  came_before = a.came_before;
  own = f (old ++ a.before) a.middle a.own;
  came_behind = a.came_behind;
  is = a.is;
}

module _ (t : Stored) (before after : SiteState) (step : List Entry → List Entry → Type 0) (grows : (a b : List Entry) → step a b → Grows [] a b) (given : site.Told before.held after.held (site.BankCall before.shared step))
    (faults : before.bank_faults ≤ after.bank_faults) (moment : before.moment ≤ after.moment) (shares : after.shared ≡ before.shared) (w : World) (at : IsAt before w) (stands : StandsFor t w) (apart : IsUnshared w) where
  now : TellsBehind at.there after.held (site.BankCall before.shared step)
  now = told_behind at.there before.held after.held (site.BankCall before.shared step) at.told given

  abbrev mid : World
  mid = behind w w.tier now.there after

  -- the call in the worlds
  called : BankCall step w (behind w w.tier now.there after)
  called = call_behind w w.tier before after now.there step at now.is faults moment

  grown : Around w.shared (Grows []) w.history now.there.history
  grown = around_weaker w.shared step (Grows []) w.history now.there.history grows called.history

  still : StaysShown w (at_history now.there.history w)
  still = around_goes_on w now.there.history stands.stands apart grown

  pub was_read : (told : Result ℕ BankError) → ((a b : List Entry) → step a b → TellsPosition told a b) → IsRead t after told w
  was_read told tells = record {
    world = behind w w.tier now.there after;
    at = behind_at w w.tier before after now.there at now.told shares;
    stands = record {
      stored = stands.stored;
      shows = stands.shows ∙ sym still.same;
      hides = hides_later t w now.there.history stands (read_longer w step now.there.history grows called.history);
      stands = stands_then w now.there after still.stands;
      waits = stands.waits;
    };
    call = record {
      history = around_weaker w.shared step (TellsPosition told) w.history now.there.history tells called.history;
      journal = called.journal;
      faults = called.faults;
      disk = called.disk;
      moment = called.moment;
      shared = called.shared;
    };
    tier = refl;
  }

-- calls for changes

pub changes_grows : (since : Position) (trees : List Tree) (wants : List Rattle.table_state.specs.declared.footprint.RowKey.RowKey) (result : Result Changes BankError) (a b : List Entry) → TakesChanges since trees wants result a b → Grows [] a b
changes_grows since trees wants (Ok changes) a b s = s.0
changes_grows since trees wants (Err e) a b s = s

pub read_failed : (t : Stored) (before after : SiteState) (since : Position) (trees : List Tree) (wants : List Rattle.table_state.specs.declared.footprint.RowKey.RowKey) (e : BankError) (result : Result Changes BankError) → site.Told before.held after.held (site.BankCall before.shared (TakesChanges since trees wants result)) → before.bank_faults ≤ after.bank_faults
    → before.moment ≤ after.moment → after.shared ≡ before.shared → (w : World) → IsAt before w → StandsFor t w → IsUnshared w → IsRead t after (Err e) w
read_failed t before after since trees wants e result told faults moment shares w at stands apart =
    was_read t before after (TakesChanges since trees wants result) (changes_grows since trees wants result) told faults moment shares w at stands apart (Err e) (changes_grows since trees wants result)

take_front : {X : Type 0} (xs ys : List X) → take (length xs) (xs ++ ys) ≡ xs
take_front [] ys = refl
take_front (x ∷ xs) ys = ap (λ l. x ∷ l) (take_front xs ys)

longer : {X : Type 0} (xs ys : List X) → length xs ≤ length (xs ++ ys)
longer [] ys = omega arith
longer (x ∷ xs) ys = let le = longer xs ys in omega (arith, le)

pub unmapped : (groups : List Group) (k : ℕ) (g : Group) → slice_get (map without_list groups) k ≡ Some g → (h : Group) × (slice_get groups k ≡ Some h) × (without_list h ≡ g)
unmapped [] k g at = cc
unmapped (x ∷ groups) zero g at = let same : without_list x ≡ g = cc in (x, refl, same)
unmapped (x ∷ groups) (suc k) g at = unmapped groups k g at

-- the state of the call, and what was told of it
pub record ReadsState (t : Stored) (w mid : World) (since : Position) (trees : List Tree) (wants : List Rattle.table_state.specs.declared.footprint.RowKey.RowKey) (changes : Changes) : Type 0 where
  pub middle : List Entry
  pub before : List Entry
  pub longer : middle ≡ w.history ++ before
  pub tells : TellsChanges middle since trees wants changes
  pub state : TableState
  pub leaves : state_of middle ≡ Some state
  pub there : state_at mid.history changes.position.0 ≡ Some state
  pub within : changes.position.0 ≤ length mid.history
  pub sound : IsSoundState state
  pub more : List TableDef
  pub front : state.schema ≡ t.schema ++ more

module _ (t : Stored) (before after : SiteState) (since : Position) (trees : List Tree) (wants : List Rattle.table_state.specs.declared.footprint.RowKey.RowKey) (changes : Changes) (given : site.Told before.held after.held (site.BankCall before.shared (TakesChanges since trees wants (Ok changes))))
    (faults : before.bank_faults ≤ after.bank_faults) (moment : before.moment ≤ after.moment) (shares : after.shared ≡ before.shared) (w : World) (at : IsAt before w) (stands : StandsFor t w) (apart : IsUnshared w) where
  told_now : TellsBehind at.there after.held (site.BankCall before.shared (TakesChanges since trees wants (Ok changes)))
  told_now = now t before after (TakesChanges since trees wants (Ok changes)) (changes_grows since trees wants (Ok changes)) given faults moment shares w at stands apart

  pub read_here : IsRead t after (Ok changes.position.0) w
  read_here = was_read t before after (TakesChanges since trees wants (Ok changes)) (changes_grows since trees wants (Ok changes)) given faults moment shares w at stands apart (Ok changes.position.0) (λ a b s. (s.0, s.1.position))

  around : Around w.shared (TakesChanges since trees wants (Ok changes)) w.history told_now.there.history
  unfolding told_now
  around = (called t before after (TakesChanges since trees wants (Ok changes)) (changes_grows since trees wants (Ok changes)) given faults moment shares w at stands apart).history

  first : StaysShown w (at_history (w.history ++ around.before) w)
  first = others_go_on w around.before stands.stands apart around.came_before

  middle_is : around.middle ≡ w.history ++ around.before
  middle_is = around.own.0 ∙ append-nil (w.history ++ around.before)

  there : state_of around.middle ≡ Some first.stands.flow.stand.over.backing
  there = ap state_of middle_is ∙ first.stands.flow.stand.over.leaves

  at_it : state_at told_now.there.history changes.position.0 ≡ Some first.stands.flow.stand.over.backing
  at_it =
      ap (state_at told_now.there.history) around.own.1.position
      ∙ ap (λ h. state_at h (length around.middle)) around.is
      ∙ ap state_of (take_front around.middle around.behind)
      ∙ there

  front : (more : List TableDef) × (first.stands.flow.stand.over.backing.schema ≡ t.schema ++ more)
  front =
      let f = first.stands.schema.front first.stands.flow.stand.over.backing first.stands.flow.stand.over.leaves in
      (f.0, f.1 ∙ ap (λ defs. defs ++ f.0) stands.stored.schema)

  within_it : changes.position.0 ≤ length told_now.there.history
  within_it =
      let le = longer around.middle around.behind in
      let n_is = around.own.1.position in
      let long = ap length around.is in
      omega (arith, le, n_is, long)

  pub reads_state : ReadsState t w read_here.world since trees wants changes
  unfolding read_here told_now was_read now
  reads_state = record {
    middle = around.middle;
    before = around.before;
    longer = middle_is;
    tells = around.own.1;
    state = first.stands.flow.stand.over.backing;
    leaves = there;
    there = at_it;
    within = within_it;
    sound = sound_history (w.history ++ around.before) first.stands.flow.stand.over.backing first.stands.flow.stand.over.leaves;
    more = front.0;
    front = front.1;
  }
