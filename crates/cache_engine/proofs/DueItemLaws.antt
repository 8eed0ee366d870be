-- Items of due work, one behind the other, and what they tell.
use Rattle.std.proofs.Common.{◌≡◌, ◌≤◌, ℕ, ◌+◌, ◌-◌, ◌^◌, min, Bool, true, false, cond, ◌&&◌, ◌||◌, nat_eq, Option, Some, None, List, [], ◌∷◌, ◌++◌, length, map, drop, slice_get, count_by, refl, sym, ap, subst, ◌∙◌, append_assoc, arith}
use Rattle.std.proofs.lemmas.Bool.{eqb-true}
use Rattle.std.proofs.lemmas.List.{append-nil}
use Rattle.std.proofs.lemmas.List.Sums.{sum_by-append}
use Rattle.tier_base.specs.declared.number.TableId.{TableId}
use Rattle.tier_base.specs.declared.code.Code.{Code}
use Rattle.tier_base.specs.declared.code.Code.TheVariants as code
use Rattle.tier_base.specs.Codes.{number_of}
use Rattle.outside.specs.Holding.{Held}
use Rattle.cache_tier.specs.DueWork.{DueSetsOf, Item, Noted, ThenItem, is_noted, noted, noted_code, notes_of, stopped, stopped_by}
use Rattle.cache_tier.specs.Groups.{Group, definitions_of, is_defined_on, is_table_of, is_writethrough}
use Rattle.cache_tier.specs.Sets.{RefreshesIfShown}
use Rattle.cache_tier.specs.Steps.{Rose, faults_in, note_tells, tells}
use Rattle.outside.specs.Faults.{Rose as RoseOnce}
use Rattle.cache_tier.specs.Worlds.{IsUnshared, Stage, World, faulty}
use Rattle.cache_tier.specs.declared.reply.Last.{Last}
use Rattle.cache_tier.specs.declared.reply.Last.TheVariants.{Done, Fault, No}
use Rattle.cache_tier.specs.declared.reply.Note.{Note}
use Rattle.cache_tier.specs.declared.reply.Reply.{Reply}
use Rattle.group_catalog.specs.Catalogs.{groups_in}
use Rattle.stored_tier.specs.declared.tier.Tier.{Tier as Stored}
use Rattle.cache_engine.specs.Due.{IsDueCaused, stop_faults}
use Rattle.cache_engine.specs.DueItems.{DoesItem, Footing, due_of, note_of, notes_since}
use Rattle.tier_journal.specs.declared.journal.TierJournal.{TierJournal}
use Rattle.tier_journal.specs.KeptOver.{is_broken}
use Rattle.tier_journal.proofs.WayLaws.{kept_unless, kept_unless_told}
use Rattle.stored_tier.specs.Performing.{IsCausedOver, IsStopCausedOver, KeepsSlots, PerformsOver, StandsFor}
use Rattle.stored_tier.specs.Refreshing.{has_moment}
use Rattle.stored_tier.specs.Sites.{IsAt}
use Rattle.outside.specs.Sites.{SiteState}
use Rattle.stored_tier.specs.Stored.{without_list}
use Rattle.stored_tier.proofs.FillSteps.{drop_one, drop_past}

-- notes behind notes

drop_none : {X : Type 0} (l : List X) → drop 0 l ≡ l
drop_none [] = refl
drop_none (x ∷ l) = refl

pub since_is : (earlier more notes : List Note) → notes ≡ earlier ++ more → notes_since earlier notes ≡ more
since_is earlier more notes is = ap (drop (length earlier)) is ∙ past earlier
  where
    past : (l : List Note) → drop (length l) (l ++ more) ≡ more
    past [] = drop_none more
    past (x ∷ l) = past l

pub since_self : (notes : List Note) → notes_since notes notes ≡ []
since_self notes = since_is notes [] notes (sym (append-nil notes))

pub since_none : (notes : List Note) → notes_since [] notes ≡ notes
since_none notes = drop_none notes

order_both : (earlier between notes : List Note) → between ≡ earlier ++ notes_since earlier between → notes ≡ between ++ notes_since between notes
    → notes ≡ earlier ++ (notes_since earlier between ++ notes_since between notes)
order_both earlier between notes is next =
    next ∙ ap (λ l. l ++ notes_since between notes) is
    ∙ append_assoc earlier (notes_since earlier between) (notes_since between notes)

-- counts

count_both : (p : Note → Bool) (a b : List Note) → count_by p (a ++ b) ≡ count_by p a + count_by p b
count_both p a b = sum_by-append (λ x. cond (p x) 1 0) a b

rose_both : (b n m k f a cap : ℕ) → b ≤ m → min (b + (n + 0)) cap ≤ m → m ≤ a → min (m + (k + f)) cap ≤ a → min (b + ((n + k) + f)) cap ≤ a
rose_both b n m k f a cap one risen two more = omega (arith, one, risen, two, more)

pub rose_with : (b f a cap : ℕ) → f ≡ 0 → b ≤ a → min (b + (0 + f)) cap ≤ a
rose_with b f a cap none le = omega (arith, none, le)

rose_none : (b a cap : ℕ) → b ≤ a → min (b + 0) cap ≤ a
rose_none b a cap le = omega (arith, le)

le_both : (b m a : ℕ) → b ≤ m → m ≤ a → b ≤ a
le_both b m a one two = omega (arith, one, two)

rose_past : (b m a f cap : ℕ) → b ≤ m → min (m + f) cap ≤ a → min (b + f) cap ≤ a
rose_past b m a f cap one two = omega (arith, one, two)

slots_both : (x y z : Option Held) → KeepsSlots x y → KeepsSlots y z → KeepsSlots x z
slots_both None y z one two = tt
slots_both (Some x) None z one two = absurd one
slots_both (Some x) (Some y) None one two = absurd two
slots_both (Some x) (Some y) (Some z) one two = two ∙ one

slots_same : (x : Option Held) → KeepsSlots x x
slots_same None = tt
slots_same (Some x) = refl

pub caused_both : (k mid : Option TierJournal) (b m a : SiteState) (n more : List Note) (stop : Option Reply) → (k ≡ None → mid ≡ None) → IsDueCaused k b m (due_of n None) → IsDueCaused mid m a (due_of more stop) → IsDueCaused k b a (due_of (n ++ more) stop)
caused_both k mid b m a n more stop so one two =
    let first = one.later in
    let second = two.later in
    let risen = one.stop in
    let then = two.stop in
    let t = count_both (note_tells code.BackingFault) n more in
    record {
      later = omega (arith, first, second);
      moment = let x = one.moment in let y = two.moment in omega (arith, x, y);
      shares = two.shares ∙ one.shares;
      slots = λ none. slots_both b.held m.held a.held (one.slots none) (two.slots (so none));
      bank = (
        omega (arith, first, second),
        subst (λ c. min (b.bank_faults + (c + stop_faults code.BackingFault stop)) (2 ^ 64 - 1) ≤ a.bank_faults) (sym t)
            (rose_both b.bank_faults (count_by (note_tells code.BackingFault) n) m.bank_faults (count_by (note_tells code.BackingFault) more) (stop_faults code.BackingFault stop) a.bank_faults (2 ^ 64 - 1) first one.bank.1 second two.bank.1),
      );
      disk = count_both (note_tells code.JournalFault) n more ∙ (λ i. one.disk i + two.disk i);
      stop = (le_both b.disk_faults m.disk_faults a.disk_faults risen.0 then.0, rose_past b.disk_faults m.disk_faults a.disk_faults (stop_faults code.JournalFault stop) (2 ^ 64 - 1) risen.0 then.1);
      whole = λ none. two.whole (so none);
    }

-- the tables of groups that keep their definitions

written_by : (gs hs : List Group) (u : TableId) → definitions_of hs ≡ definitions_of gs → is_table_of is_writethrough hs u ≡ is_table_of is_writethrough gs u
written_by [] [] u same = refl
written_by [] (h ∷ hs) u same = cc
written_by (g ∷ gs) [] u same = cc
written_by (g ∷ gs) (h ∷ hs) u same =
    let first : h.def ≡ g.def = cc in
    let rest : definitions_of hs ≡ definitions_of gs = cc in
    λ i. (is_writethrough (record h { def = first i }) && is_defined_on u (first i)) || written_by gs hs u rest i

bare_defs : (gs : List Group) → definitions_of (map without_list gs) ≡ definitions_of gs
bare_defs [] = refl
bare_defs (g ∷ gs) = ap (λ l. g.def ∷ l) (bare_defs gs)

stored_defs : (t : Stored) (w : World) → StandsFor t w → definitions_of w.tier.groups ≡ definitions_of (groups_in t.catalog)
stored_defs t w is = sym (bare_defs w.tier.groups) ∙ ap definitions_of is.stored.groups

-- others leave them alone still
apart_still : (old new : Stored) (before behind : SiteState) (w w' : World) → definitions_of (groups_in new.catalog) ≡ definitions_of (groups_in old.catalog) → behind.shared ≡ before.shared → StandsFor old w → IsAt before w → StandsFor new w' → IsAt behind w' → IsUnshared w → IsUnshared w'
apart_still old new before behind w w' defs shares was at is there apart t shared =
    written_by w.tier.groups w'.tier.groups t (stored_defs new w' is ∙ defs ∙ sym (stored_defs old w was))
    ∙ apart t (subst (λ tables. Rattle.outside.specs.Others.is_shared tables t ≡ true) (there.shared ∙ shares ∙ sym at.shared) shared)

-- one item, and then another

module _ {D : Type 0} (state : D → SiteState) (possible : D → ℕ → Held → Type 0) where
  pub then_items : (one other : Item) (old mid new : Stored) (b m a : Footing D) (earlier between notes : List Note) (stop : Option Reply) → DoesItem state possible one old mid b m earlier between None → DoesItem state possible other mid new m a between notes stop
      → DoesItem state possible (ThenItem one other) old new b a earlier notes stop
  then_items one other old mid new b m a earlier between notes stop first second =
      let order = order_both earlier between notes first.order second.order in
      let all = since_is earlier (notes_since earlier between ++ notes_since between notes) notes order in
      record {
        performs = λ w at stands apart keeps.
            let p = first.performs w at stands apart keeps in
            let there = p.stands refl in
            let q = second.performs p.world p.at there (apart_still old mid (state b.disk) (state m.disk) w p.world first.groups first.cause.shares stands at there p.at apart) (p.keeps.over refl) in
            record {
              world = q.world;
              at = q.at;
              is = record {
                mid = p.world;
                before = notes_since earlier between;
                behind = notes_since between notes;
                end = None;
                first = p.is;
                next = q.is;
                all = all;
              };
              stands = q.stands;
              keeps = q.keeps;
            };
        order = order ∙ ap (λ l. earlier ++ l) (sym all);
        cause = subst (λ l. IsDueCaused b.journal (state b.disk) (state a.disk) (due_of l stop)) (sym all)
            (caused_both b.journal m.journal (state b.disk) (state m.disk) (state a.disk) (notes_since earlier between) (notes_since between notes) stop first.none first.cause second.cause);
        none = λ none. second.none (first.none none);
        groups = second.groups ∙ first.groups;
        entries = λ i there. second.entries i (first.entries i there);
      }

  pub stopped_item : (one other : Item) (old new : Stored) (b a : Footing D) (earlier notes : List Note) (end : Reply) → DoesItem state possible one old new b a earlier notes (Some end) → DoesItem state possible (ThenItem one other) old new b a earlier notes (Some end)
  stopped_item one other old new b a earlier notes end first = record {
    performs = λ w at stands apart keeps.
        let p = first.performs w at stands apart keeps in
        record {
          world = p.world;
          at = p.at;
          is = record {
            mid = p.world;
            before = notes_since earlier notes;
            behind = [];
            end = Some end;
            first = p.is;
            next = (refl, refl, refl);
            all = sym (append-nil (notes_since earlier notes));
          };
          stands = p.stands;
          keeps = p.keeps;
        };
    order = first.order;
    cause = first.cause;
    none = first.none;
    groups = first.groups;
    entries = first.entries;
  }

-- nothing is due

pub idle_caused : (k : Option TierJournal) (b : SiteState) → IsDueCaused k b b (due_of [] None)
idle_caused k b = record {
  later = omega arith;
  moment = omega arith;
  shares = refl;
  slots = λ none. slots_same b.held;
  bank = let le : b.bank_faults ≤ b.bank_faults = omega arith in (le, rose_none b.bank_faults b.bank_faults (2 ^ 64 - 1) le);
  disk = refl;
  stop = let le : b.disk_faults ≤ b.disk_faults = omega arith in (le, rose_none b.disk_faults b.disk_faults (2 ^ 64 - 1) le);
  whole = λ none. refl;
}

-- memory was wanting
pub wanting_caused : (k : Option TierJournal) (b : SiteState) → IsDueCaused k b b (due_of [] (Some (faulty code.Memory)))
wanting_caused k b = record {
  later = omega arith;
  moment = omega arith;
  shares = refl;
  slots = λ none. slots_same b.held;
  bank = let le : b.bank_faults ≤ b.bank_faults = omega arith in (le, rose_none b.bank_faults b.bank_faults (2 ^ 64 - 1) le);
  disk = refl;
  stop = let le : b.disk_faults ≤ b.disk_faults = omega arith in (le, rose_none b.disk_faults b.disk_faults (2 ^ 64 - 1) le);
  whole = λ none. refl;
}

module _ {D : Type 0} (state : D → SiteState) (possible : D → ℕ → Held → Type 0) where
  pub idle_item : (item : Item) (t : Stored) (b : Footing D) (notes : List Note) → ((w : World) → StandsFor t w → item w w [] None) → DoesItem state possible item t t b b notes notes None
  idle_item item t b notes idle = record {
    performs = λ w at stands apart keeps. record {
      world = w;
      at = at;
      is = subst (λ l. item w w l None) (sym (since_self notes)) (idle w stands);
      stands = λ whole. stands;
      keeps = kept_unless keeps;
    };
    order = sym (append-nil notes) ∙ ap (λ l. notes ++ l) (sym (since_self notes));
    cause = subst (λ l. IsDueCaused b.journal (state b.disk) (state b.disk) (due_of l None)) (sym (since_self notes)) (idle_caused b.journal (state b.disk));
    none = λ none. none;
    groups = refl;
    entries = λ i there. there;
  }

  -- the item is another one in these worlds
  pub as_item : (one other : Item) (old new : Stored) (b a : Footing D) (earlier notes : List Note) (stop : Option Reply) → ((w w' : World) → StandsFor old w → one w w' (notes_since earlier notes) stop → other w w' (notes_since earlier notes) stop)
      → DoesItem state possible one old new b a earlier notes stop → DoesItem state possible other old new b a earlier notes stop
  as_item one other old new b a earlier notes stop turns does = record {
    performs = λ w at stands apart keeps.
        let p = does.performs w at stands apart keeps in
        record { world = p.world; at = p.at; is = turns w p.world stands p.is; stands = p.stands; keeps = p.keeps };
    order = does.order;
    cause = does.cause;
    none = does.none;
    groups = does.groups;
    entries = does.entries;
  }

-- a failure that is noted

tells_by : (interval : Option ℕ) (c d : Code) → note_tells d (note_of interval c) ≡ nat_eq (number_of c) (number_of d)
tells_by None c d = refl
tells_by (Some interval) c d = refl

or_false : (x y : Bool) → (x || y) ≡ false → x ≡ false
or_false true y e = cc
or_false false y e = refl

-- a reply that ends the line tells neither
tells_none : (reply : Reply) (last : Last) (c : Code) → reply.last ≡ last → reply.notes ≡ [] → tells c last ≡ false → faults_in c reply ≡ 0
tells_none reply last c is bare none =
    (λ i. count_by (note_tells c) (bare i) + cond (tells c (is i)) 1 0) ∙ ap (λ b. 0 + cond b 1 0) none

-- a fault that is told once has a failed call
rose_told : (b a : ℕ) (reply : Reply) (c : Code) → reply.notes ≡ [] → b ≤ a → (tells c reply.last ≡ true → RoseOnce b a) → Rose b (faults_in c reply) a
rose_told b a reply c bare le once = by (tells c reply.last) refl
  where
    by : (t : Bool) → tells c reply.last ≡ t → Rose b (faults_in c reply) a
    by true e = subst (λ n. Rose b n a) (sym ((λ i. count_by (note_tells c) (bare i) + cond (e i) 1 0) ∙ refl)) (le, once e)
    by false e = subst (λ n. Rose b n a) (sym ((λ i. count_by (note_tells c) (bare i) + cond (e i) 1 0) ∙ refl)) (le, rose_none b a (2 ^ 64 - 1) le)

stop_caused : (k : Option TierJournal) (b a : SiteState) (reply : Reply) (last : Last) → reply.last ≡ last → IsCausedOver k b a reply → tells code.BackingFault last ≡ false → IsDueCaused k b a (due_of [] (Some reply))
stop_caused k b a reply last is c none = record {
  later = c.later;
  moment = c.moment;
  shares = c.shares;
  slots = c.slots;
  bank = (c.later, rose_with b.bank_faults (faults_in code.BackingFault reply) a.bank_faults (2 ^ 64 - 1) (tells_none reply last code.BackingFault is c.bare none) c.later);
  disk = refl;
  stop = rose_told b.disk_faults a.disk_faults reply code.JournalFault c.bare c.disk_later c.disk;
  whole = λ none. tells_none reply reply.last code.JournalFault refl c.bare (c.whole none);
}

-- what is noted is no fault of the journal
noted_other : (c : Code) → is_noted c ≡ true → nat_eq (number_of c) (number_of code.JournalFault) ≡ false
noted_other c noted = by (nat_eq (number_of c) (number_of code.BackingFault)) refl (nat_eq (number_of c) (number_of code.Memory)) refl noted
  where
    by : (x : Bool) → nat_eq (number_of c) (number_of code.BackingFault) ≡ x → (y : Bool) → nat_eq (number_of c) (number_of code.Memory) ≡ y → (x || y) ≡ true → nat_eq (number_of c) (number_of code.JournalFault) ≡ false
    by true e y f so = ap (λ n. nat_eq n (number_of code.JournalFault)) (eqb-true (number_of c) (number_of code.BackingFault) e)
    by false e true f so = ap (λ n. nat_eq n (number_of code.JournalFault)) (eqb-true (number_of c) (number_of code.Memory) f)
    by false e false f so = cc

note_caused : (k : Option TierJournal) (b a : SiteState) (interval : Option ℕ) (c : Code) (reply : Reply) → is_noted c ≡ true → IsCausedOver k b a reply → (tells code.BackingFault reply.last ≡ nat_eq (number_of c) (number_of code.BackingFault)) → IsDueCaused k b a (due_of (note_of interval c ∷ []) None)
note_caused k b a interval c reply noted caused bank = record {
  later = caused.later;
  moment = caused.moment;
  shares = caused.shares;
  slots = caused.slots;
  bank = (caused.later, by (nat_eq (number_of c) (number_of code.BackingFault)) (tells_by interval c code.BackingFault) bank);
  disk = ap (λ t. 0 + cond t 1 0) (tells_by interval c code.JournalFault ∙ noted_other c noted);
  stop = (caused.disk_later, rose_none b.disk_faults a.disk_faults (2 ^ 64 - 1) caused.disk_later);
  whole = λ none. refl;
}
  where
    by : (t : Bool) → note_tells code.BackingFault (note_of interval c) ≡ t → tells code.BackingFault reply.last ≡ t → min (b.bank_faults + (count_by (note_tells code.BackingFault) (note_of interval c ∷ []) + 0)) (2 ^ 64 - 1) ≤ a.bank_faults
    by true e told = subst (λ x. min (b.bank_faults + ((0 + cond x 1 0) + 0)) (2 ^ 64 - 1) ≤ a.bank_faults) (sym e) (caused.bank told)
    by false e told = subst (λ x. min (b.bank_faults + ((0 + cond x 1 0) + 0)) (2 ^ 64 - 1) ≤ a.bank_faults) (sym e) (rose_none b.bank_faults a.bank_faults (2 ^ 64 - 1) caused.later)

noted_caused : (k : Option TierJournal) (b a : SiteState) (interval : Option ℕ) (end : Option Reply) → IsStopCausedOver k b a end → IsDueCaused k b a (due_of (noted (note_of interval) end) (stopped end))
noted_caused k b a interval None c = record {
  later = c.later;
  moment = c.moment;
  shares = c.shares;
  slots = c.slots;
  bank = (c.later, rose_none b.bank_faults a.bank_faults (2 ^ 64 - 1) c.later);
  disk = refl;
  stop = (c.disk_later, rose_none b.disk_faults a.disk_faults (2 ^ 64 - 1) c.disk_later);
  whole = λ none. refl;
}
noted_caused k b a interval (Some reply) c = by reply.last refl
  where
    by : (last : Last) → reply.last ≡ last → IsDueCaused k b a (due_of (notes_of (note_of interval) (noted_code last)) (stopped_by reply (noted_code last)))
    by (Done n) is = stop_caused k b a reply (Done n) is c refl
    by (No rule) is = stop_caused k b a reply (No rule) is c refl
    by (Fault rule) is = of (is_noted rule.code) refl
      where
        of : (t : Bool) → is_noted rule.code ≡ t → IsDueCaused k b a (due_of (notes_of (note_of interval) (cond t (Some rule.code) None)) (stopped_by reply (cond t (Some rule.code) None)))
        of true e = note_caused k b a interval rule.code reply e c (ap (tells code.BackingFault) is)
        of false e = stop_caused k b a reply (Fault rule) is c (or_false (nat_eq (number_of rule.code) (number_of code.BackingFault)) (nat_eq (number_of rule.code) (number_of code.Memory)) e)

-- what goes on behind a note was no fault of the journal
pub whole_noted : (end : Option Reply) → is_broken (stopped end) ≡ false → is_broken end ≡ false
whole_noted None whole = refl
whole_noted (Some reply) whole = by reply.last refl whole
  where
    by : (last : Last) → reply.last ≡ last → is_broken (stopped_by reply (noted_code last)) ≡ false → tells code.JournalFault reply.last ≡ false
    by (Done n) is whole = whole
    by (No rule) is whole = whole
    by (Fault rule) is whole = of (is_noted rule.code) refl whole
      where
        of : (t : Bool) → is_noted rule.code ≡ t → is_broken (stopped_by reply (cond t (Some rule.code) None)) ≡ false → tells code.JournalFault reply.last ≡ false
        of true e whole = ap (tells code.JournalFault) is ∙ noted_other rule.code e
        of false e whole = whole

-- a stage whose failure becomes a note
module _ {D : Type 0} (state : D → SiteState) (possible : D → ℕ → Held → Type 0) where
  pub noted_item : (interval : Option ℕ) (stage : Stage) (old new : Stored) (b a : Footing D) (earlier notes : List Note) (end : Option Reply) (stop : Option Reply) → PerformsOver state possible old new b.journal a.journal b.disk a.disk end (λ w w'. stage w w' end)
      → IsStopCausedOver b.journal (state b.disk) (state a.disk) end → (b.journal ≡ None → a.journal ≡ None)
      → definitions_of (groups_in new.catalog) ≡ definitions_of (groups_in old.catalog) → ((i : ℕ) → has_moment old.clock.sets.items i ≡ true → has_moment new.clock.sets.items i ≡ true)
      → notes ≡ earlier ++ noted (note_of interval) end → stop ≡ stopped end → DoesItem state possible (Noted (note_of interval) stage) old new b a earlier notes stop
  noted_item interval stage old new b a earlier notes end stop performs caused none groups entries told ends =
      let since = since_is earlier (noted (note_of interval) end) notes told in
      record {
        performs = λ w at stands apart keeps.
            let p = performs w at stands apart keeps in
            record {
              world = p.world;
              at = p.at;
              is = record { end = end; does = p.is; told = since; ends = ends };
              stands = λ whole. p.stands (whole_noted end (ap is_broken (sym ends) ∙ whole));
              keeps = kept_unless_told (λ whole. whole_noted end (ap is_broken (sym ends) ∙ whole)) p.keeps;
            };
        order = told ∙ ap (λ l. earlier ++ l) (sym since);
        cause = subst (λ l. IsDueCaused b.journal (state b.disk) (state a.disk) (due_of l stop)) (sym since)
            (subst (λ s. IsDueCaused b.journal (state b.disk) (state a.disk) (due_of (noted (note_of interval) end) s)) (sym ends) (noted_caused b.journal (state b.disk) (state a.disk) interval end caused));
        none = none;
        groups = groups;
        entries = entries;
      }

-- sets, one after the other

module _ {D : Type 0} (state : D → SiteState) (possible : D → ℕ → Held → Type 0) where
  pub sets_none : (all : List ℕ) (t : Stored) (b : Footing D) (notes : List Note) → all ≡ [] → DoesItem state possible (DueSetsOf all) t t b b notes notes None
  sets_none all t b notes is =
      subst (λ l. DoesItem state possible (DueSetsOf l) t t b b notes notes None) (sym is) (idle_item state possible (DueSetsOf []) t b notes (λ w stands. (refl, refl, refl)))

  pub sets_stopped : (all more : List ℕ) (x : ℕ) (old new : Stored) (b a : Footing D) (earlier notes : List Note) (end : Reply) → all ≡ x ∷ more → DoesItem state possible (Noted (note_of (Some x)) (RefreshesIfShown x)) old new b a earlier notes (Some end) → DoesItem state possible (DueSetsOf all) old new b a earlier notes (Some end)
  sets_stopped all more x old new b a earlier notes end is does =
      subst (λ l. DoesItem state possible (DueSetsOf l) old new b a earlier notes (Some end)) (sym is)
      (as_item state possible (ThenItem (Noted (note_of (Some x)) (RefreshesIfShown x)) (DueSetsOf more)) (DueSetsOf (x ∷ more)) old new b a earlier notes (Some end) (λ w w' stands done. done)
      (stopped_item state possible (Noted (note_of (Some x)) (RefreshesIfShown x)) (DueSetsOf more) old new b a earlier notes end does))

  pub sets_more : (all more : List ℕ) (x : ℕ) (old mid new : Stored) (b m a : Footing D) (earlier between notes : List Note) (stop : Option Reply) → all ≡ x ∷ more → DoesItem state possible (Noted (note_of (Some x)) (RefreshesIfShown x)) old mid b m earlier between None
      → DoesItem state possible (DueSetsOf more) mid new m a between notes stop → DoesItem state possible (DueSetsOf all) old new b a earlier notes stop
  sets_more all more x old mid new b m a earlier between notes stop is first second =
      subst (λ l. DoesItem state possible (DueSetsOf l) old new b a earlier notes stop) (sym is)
      (as_item state possible (ThenItem (Noted (note_of (Some x)) (RefreshesIfShown x)) (DueSetsOf more)) (DueSetsOf (x ∷ more)) old new b a earlier notes stop (λ w w' stands done. done)
      (then_items state possible (Noted (note_of (Some x)) (RefreshesIfShown x)) (DueSetsOf more) old mid new b m a earlier between notes stop first second))

  -- those before a place are done
  abbrev pub SetsSoFar : List ℕ → ℕ → Stored → Stored → Footing D → Footing D → List Note → List Note → Type 0
  SetsSoFar all i old now b m earlier notes =
      (new : Stored) (a : Footing D) (later : List Note) (stop : Option Reply) → DoesItem state possible (DueSetsOf (drop i all)) now new m a notes later stop
      → DoesItem state possible (DueSetsOf all) old new b a earlier later stop

  pub sets_begun : (all : List ℕ) (old : Stored) (b : Footing D) (earlier : List Note) → SetsSoFar all 0 old old b b earlier earlier
  sets_begun all old b earlier new a later stop does = subst (λ l. DoesItem state possible (DueSetsOf l) old new b a earlier later stop) (drop_none all) does

  pub set_done : (all : List ℕ) (i x : ℕ) (old mid now : Stored) (b m n : Footing D) (earlier between notes : List Note) → slice_get all i ≡ Some x → SetsSoFar all i old mid b m earlier between
      → DoesItem state possible (Noted (note_of (Some x)) (RefreshesIfShown x)) mid now m n between notes None → SetsSoFar all (i + 1) old now b n earlier notes
  set_done all i x old mid now b m n earlier between notes at so_far first new a later stop does =
      so_far new a later stop (sets_more (drop i all) (drop (i + 1) all) x mid now new m n a between notes later stop (drop_one all i x at) first does)

  pub set_ended : (all : List ℕ) (i x : ℕ) (old mid new : Stored) (b m a : Footing D) (earlier between later : List Note) (end : Reply) → slice_get all i ≡ Some x → SetsSoFar all i old mid b m earlier between
      → DoesItem state possible (Noted (note_of (Some x)) (RefreshesIfShown x)) mid new m a between later (Some end) → DoesItem state possible (DueSetsOf all) old new b a earlier later (Some end)
  set_ended all i x old mid new b m a earlier between later end at so_far does =
      so_far new a later (Some end) (sets_stopped (drop i all) (drop (i + 1) all) x mid new m a between later end (drop_one all i x at) does)

  pub sets_done : (all : List ℕ) (i : ℕ) (old now : Stored) (b m : Footing D) (earlier notes : List Note) → length all ≤ i → SetsSoFar all i old now b m earlier notes → DoesItem state possible (DueSetsOf all) old now b m earlier notes None
  sets_done all i old now b m earlier notes le so_far = so_far now m notes None (sets_none (drop i all) now m notes (drop_past all i le))
