-- What keeps the journal the tier's where a group is dropped.
use Rattle.std.proofs.Common.{◌≡◌, ℕ, Bool, true, false, cond, not, ◌&&◌, ◌||◌, List, [], ◌∷◌, ◌++◌, length, refl, sym, ap, subst, ◌∙◌}
use Rattle.std.specs.List.{filter, list_any}
use Rattle.std.proofs.lemmas.List.Folds.{list_any-append}
use Rattle.std.specs.Cmp.Lexicographic.{bytes_decides}
use Rattle.table_defs.specs.Names.{same_name}
use Rattle.table_state.specs.declared.history.Sealed.{Sealed}
use Rattle.order_laws.specs.Commits.{LiveGroup, pending}
use Rattle.order_laws.specs.Standing.{all_off}
use Rattle.recovery_laws.specs.Crashes.{StandsOn, drops, with_flushed}
use Rattle.recovery_laws.specs.Crashes as crash
use Rattle.recovery_laws.specs.Notes.{Drop, IsNamed, Named, catalog_of, without}
use Rattle.recovery_laws.proofs.CrashLaws.{event_keeps}
use Rattle.cache_tier.specs.Commits.{tables_of}
use Rattle.cache_tier.specs.Dropping.{MayDrop}
use Rattle.cache_tier.specs.DropSteps.{without_group}
use Rattle.cache_tier.specs.Groups.{Group, defines_name, is_called, is_read_only, is_writethrough}
use Rattle.cache_tier.specs.Journals.{Drops, Journal}
use Rattle.cache_tier.specs.StandingBetween.{Each}
use Rattle.cache_tier.specs.StandingBetween as between
use Rattle.cache_tier.specs.TierStates.{Tier}
use Rattle.cache_tier.specs.Worlds.{IsUnshared, World}
use Rattle.cache_tier.proofs.GroupTables.{each_last}
use Rattle.recovery.specs.Journalled.{AreAlike, IsFlushedWith, IsJournalled, IsJournalledOn, IsQuiet, with_flushed_entry}
use Rattle.recovery.proofs.CatalogLaws.{waiting_is}
use Rattle.recovery.proofs.JournalledLaws.{alike_kind, alike_trans, below_same, entry_journalled, folded, given_is, notes, seen}
use Rattle.recovery.proofs.NewestLaws.{NamesApart, Pair, any_newest, named, newest, pair, plain}

-- ---- the group of a name

-- the group of a name among those that the laws of recovery see, with what holds of it
record NamedAt (ns : List Named) (name : List ℕ) (Q : LiveGroup → Type 0) : Type 0 where
  is : IsNamed ns name
  so : Q is.one.group

named_at : (ns : List Named) (name : List ℕ) (Q : LiveGroup → Type 0) → list_any (named name) (plain ns) ≡ true → Each (λ p. named name p ≡ true → Q p.1) (plain ns) → NamedAt ns name Q
named_at [] name Q there each = Prim.cc
named_at (n ∷ ns) name Q there each = by (same_name n.name name) refl there (λ h. named_at ns name Q h each.1)
  where
    by : (b : Bool) → same_name n.name name ≡ b → (b || list_any (named name) (plain ns)) ≡ true → (list_any (named name) (plain ns) ≡ true → NamedAt ns name Q) → NamedAt (n ∷ ns) name Q
    by true e there rest = record {
      is = record { before = []; one = n; behind = ns; is = refl; left = ap (λ b. cond b ns (n ∷ without name ns)) e };
      so = each.0 e;
    }
    by false e there rest =
        let r = rest there in
        record {
          is = record {
            before = n ∷ r.is.before;
            one = r.is.one;
            behind = r.is.behind;
            is = ap (λ l. n ∷ l) r.is.is;
            left = ap (λ b. cond b ns (n ∷ without name ns)) e ∙ ap (λ l. n ∷ l) r.is.left;
          };
          so = r.so;
        }

each_newest : (R : Pair → Type 0) (gs : List Group) → Each (λ g. R (pair g)) gs → Each R (newest gs)
each_newest R [] each = tt
each_newest R (g ∷ gs) each = each_last R (newest gs) (pair g) (each_newest R gs each.1) each.0

-- the names of groups that are alike
alike_called : (gs hs : List Group) (name : List ℕ) → AreAlike gs hs → list_any (is_called name) gs ≡ list_any (is_called name) hs
alike_called [] [] name are = refl
alike_called (g ∷ gs) (h ∷ hs) name are = λ i. defines_name name (sym are.0.def i) || alike_called gs hs name are.1 i
alike_called [] (h ∷ hs) name are = absurd are
alike_called (g ∷ gs) [] name are = absurd are

pub alike_apart : (gs hs : List Group) → AreAlike gs hs → NamesApart gs → NamesApart hs
alike_apart [] [] are apart = tt
alike_apart (g ∷ gs) (h ∷ hs) are apart = (
  ap (λ (d : Rattle.cache_tier.specs.declared.group.GroupDef.GroupDef). list_any (is_called d.name) hs) are.0.def ∙ sym (alike_called gs hs g.def.name are.1) ∙ apart.0,
  alike_apart gs hs are.1 apart.1,
)
alike_apart [] (h ∷ hs) are apart = absurd are
alike_apart (g ∷ gs) [] are apart = absurd are

pub alike_without : (name : List ℕ) (gs hs : List Group) → AreAlike gs hs → AreAlike (filter (λ g. not (is_called name g)) gs) (filter (λ g. not (is_called name g)) hs)
alike_without name [] [] are = tt
alike_without name (g ∷ gs) (h ∷ hs) are =
    subst (λ b. AreAlike (cond (not b) (g ∷ filter (λ k. not (is_called name k)) gs) (filter (λ k. not (is_called name k)) gs)) (filter (λ k. not (is_called name k)) (h ∷ hs))) (λ i. defines_name name (are.0.def i))
    (by (is_called name h) (alike_without name gs hs are.1))
  where
    by : (b : Bool) → AreAlike (filter (λ k. not (is_called name k)) gs) (filter (λ k. not (is_called name k)) hs)
        → AreAlike (cond (not b) (g ∷ filter (λ k. not (is_called name k)) gs) (filter (λ k. not (is_called name k)) gs)) (cond (not b) (h ∷ filter (λ k. not (is_called name k)) hs) (filter (λ k. not (is_called name k)) hs))
    by true rest = rest
    by false rest = (are.0, rest)
alike_without name [] (h ∷ hs) are = absurd are
alike_without name (g ∷ gs) [] are = absurd are

-- each group of the name is read only, where one is that stands apart from the others
abbrev IsReadWhere : List ℕ → Group → Type 0
IsReadWhere name h = is_called name h ≡ true → is_read_only h ≡ true

none_called : (name : List ℕ) (hs : List Group) → list_any (is_called name) hs ≡ false → Each (IsReadWhere name) hs
none_called name [] none = tt
none_called name (h ∷ hs) none = by (is_called name h) refl none (none_called name hs)
  where
    by : (b : Bool) → is_called name h ≡ b → (b || list_any (is_called name) hs) ≡ false → (list_any (is_called name) hs ≡ false → Each (IsReadWhere name) hs) → Each (IsReadWhere name) (h ∷ hs)
    by true e none rest = Prim.cc
    by false e none rest = (λ called. let wrong : true ≡ false = sym called ∙ e in Prim.cc, rest none)

read_alone : (name : List ℕ) (before : List Group) (g : Group) (behind : List Group) → NamesApart (before ++ g ∷ behind) → is_called name g ≡ true → is_read_only g ≡ true → Each (IsReadWhere name) (before ++ g ∷ behind)
read_alone name [] g behind apart called reads =
    let is : g.def.name ≡ name = (bytes_decides g.def.name name).0 called in
    (λ e. reads, none_called name behind (subst (λ n. list_any (is_called n) behind ≡ false) is apart.0))
read_alone name (b ∷ before) g behind apart called reads = (other, read_alone name before g behind apart.1 called reads)
  where
    there : list_any (is_called name) (before ++ g ∷ behind) ≡ true
    there = list_any-append (is_called name) before (g ∷ behind) ∙ ap (λ c. list_any (is_called name) before || (c || list_any (is_called name) behind)) called ∙ or_true (list_any (is_called name) before)
      where
        or_true : (a : Bool) → (a || true) ≡ true
        or_true true = refl
        or_true false = refl

    other : IsReadWhere name b
    other e =
        let is : b.def.name ≡ name = (bytes_decides b.def.name name).0 e in
        let wrong : true ≡ false = sym there ∙ subst (λ n. list_any (is_called n) (before ++ g ∷ behind) ≡ false) is apart.0 in
        Prim.cc

alike_read : (name : List ℕ) (gs hs : List Group) → AreAlike gs hs → Each (IsReadWhere name) hs → Each (IsReadWhere name) gs
alike_read name [] [] are each = tt
alike_read name (g ∷ gs) (h ∷ hs) are each = (λ e. sym (alike_kind g h are.0) ∙ each.0 ((λ i. defines_name name (are.0.def i)) ∙ e), alike_read name gs hs are.1 each.1)
alike_read name [] (h ∷ hs) are each = absurd are
alike_read name (g ∷ gs) [] are each = absurd are

-- a read only group writes through to no table
reads_none : (name : List ℕ) (gs : List Group) → Each (IsReadWhere name) gs → Each (λ g. named name (pair g) ≡ true → (pair g).1.tables ≡ []) gs
reads_none name [] each = tt
reads_none name (g ∷ gs) each = (λ e. ap (λ b. cond b [] (tables_of g.def.tree)) (each.0 e), reads_none name gs each.1)

any_true : (name : List ℕ) (before : List Group) (g : Group) (behind : List Group) → is_called name g ≡ true → list_any (is_called name) (before ++ g ∷ behind) ≡ true
any_true name before g behind called = list_any-append (is_called name) before (g ∷ behind) ∙ ap (λ c. list_any (is_called name) before || (c || list_any (is_called name) behind)) called ∙ or_true (list_any (is_called name) before)
  where
    or_true : (a : Bool) → (a || true) ≡ true
    or_true true = refl
    or_true false = refl

each_free : (xs : List Pair) (name : List ℕ) → Each (λ p. named name p ≡ true → Unit {0}) xs
each_free [] name = tt
each_free (x ∷ xs) name = (λ e. tt, each_free xs name)

-- ---- the group is dropped

module _ (w : World) (early : List Sealed) (j : IsJournalled w early) (stands : between.Stands w) (alone : IsUnshared w) (name : List ℕ) (g : Group) (may : MayDrop w name g) (called : is_called name g ≡ true) where
  abbrev names : List Named
  names = (catalog_of (notes w early j)).groups

  there : list_any (named name) (plain names) ≡ true
  there =
      ap (list_any (named name)) (folded w early j).pairs ∙ any_newest name j.catalog.groups ∙ alike_called j.catalog.groups w.tier.groups name j.alike
      ∙ ap (list_any (is_called name)) may.is ∙ any_true name may.before g may.behind called

  -- what waits is on no table of it
  record Off : Type 0 where
    at : IsNamed names name
    off : all_off at.one.group.tables (crash.waiting (seen w early j)) ≡ true

  settled : is_writethrough g ≡ true → crash.waiting (seen w early j) ≡ []
  settled e = waiting_is w early j stands ∙ stands.flow.rest ∙ ap (pending w.history) (may.settled e)

  reads : is_read_only g ≡ true → Each (λ p. named name p ≡ true → p.1.tables ≡ []) (plain names)
  reads e = subst (Each (λ p. named name p ≡ true → p.1.tables ≡ [])) (sym (folded w early j).pairs)
      (each_newest (λ p. named name p ≡ true → p.1.tables ≡ []) j.catalog.groups
      (reads_none name j.catalog.groups (alike_read name j.catalog.groups w.tier.groups j.alike
      (subst (Each (IsReadWhere name)) (sym may.is) (read_alone name may.before g may.behind (subst NamesApart may.is (alike_apart j.catalog.groups w.tier.groups j.alike (folded w early j).names)) called e)))))

  nothing_off : (xs : List Sealed) → all_off [] xs ≡ true
  nothing_off [] = refl
  nothing_off (x ∷ xs) = λ i. ops x.ops i && nothing_off xs i
    where
      ops : (os : List Rattle.table_state.specs.declared.operation.Op.Op) → Rattle.order_laws.specs.Sides.are_off [] os ≡ true
      ops [] = refl
      ops (o ∷ os) = ops os

  off : Off
  off = by (is_read_only g) refl
    where
      by : (b : Bool) → is_read_only g ≡ b → Off
      by true e =
          let found = named_at names name (λ l. l.tables ≡ []) there (reads e) in
          record { at = found.is; off = ap (λ l. all_off l (crash.waiting (seen w early j))) found.so ∙ nothing_off (crash.waiting (seen w early j)) }
      by false e =
          let found = named_at names name (λ l. Unit {0}) there (each_free (plain names) name) in
          record { at = found.is; off = ap (all_off found.is.one.group.tables) (settled (ap not e)) }

  at_given : IsNamed (catalog_of (crash.given (seen w early j))).groups name
  at_given = subst (λ l. IsNamed (catalog_of l).groups name) (sym (given_is w early j)) off.at

  abbrev OffAt : List Rattle.recovery_laws.specs.Notes.Note → Type 0
  OffAt l = (n : IsNamed (catalog_of l).groups name) × (all_off n.one.group.tables (crash.waiting (seen w early j)) ≡ true)

  off_given : OffAt (crash.given (seen w early j))
  off_given = subst OffAt (sym (given_is w early j)) (off.at, off.off)

  kept : StandsOn (with_flushed (crash.given (seen w early j) ++ Drop name ∷ []) (seen w early j)) early
  kept = event_keeps (seen w early j) (with_flushed (crash.given (seen w early j) ++ Drop name ∷ []) (seen w early j)) early (drops name off_given.0 off_given.1) j.stands

  pub drop_journalled : (t : Tier) (journal : Journal) → IsFlushedWith (Drops name) (length w.history) w.journal journal → IsQuiet (without_group name w.tier) t → IsJournalledOn (with_flushed_entry t journal w) early
  drop_journalled t journal flushed quiet =
      entry_journalled w early j (Drops name) journal flushed kept t (without_group name j.catalog) refl
      (alike_trans (filter (λ k. not (is_called name k)) j.catalog.groups) (filter (λ k. not (is_called name k)) w.tier.groups) t.groups (alike_without name j.catalog.groups w.tier.groups j.alike) quiet.groups)
      quiet.log refl (below_same w early j (Drops name) t.next (λ n. refl) quiet.next) quiet.next (λ later. alone)

pub drop_kept : (w : World) (early : List Sealed) (name : List ℕ) (g : Group) (t : Tier) (journal : Journal) → between.Stands w → IsJournalled w early → IsUnshared w → MayDrop w name g → is_called name g ≡ true → IsFlushedWith (Drops name) (length w.history) w.journal journal
    → IsQuiet (without_group name w.tier) t → IsJournalledOn (with_flushed_entry t journal w) early
drop_kept w early name g t journal stands j alone may called flushed quiet = drop_journalled w early j stands alone name g may called t journal flushed quiet
