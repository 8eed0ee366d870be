-- The fold: what holds of the entries so far holds of one more.
use Rattle.std.proofs.Common.{◌≡◌, ◌∙◌, ℕ, ◌+◌, ◌-◌, ◌≤◌, ◌^◌, max, nat_le, Bool, true, false, not, ◌&&◌, ◌==◌, None, List, [], ◌∷◌, ◌++◌, length, refl, sym, ap, subst, arith}
use Rattle.std.specs.List.{list_all}
use Rattle.std.specs.Option.{option_or}
use Rattle.std.proofs.lemmas.Bool.{leb-true}
use Rattle.std.proofs.lemmas.List.{append-nil, append_assoc}
use Rattle.std.proofs.lemmas.List.Sums.{fold_push}
use Rattle.tier_base.specs.declared.code.Code.TheVariants as code
use Rattle.tier_base.specs.declared.limit.Limit.TheVariants as limit
use Rattle.tier_base.specs.Limits.{greatest}
use Rattle.row_types.specs.declared.rule.Letter.TheVariants as letter
use Rattle.table_defs.specs.declared.definition.TableDef.{TableDef}
use Rattle.table_state.specs.declared.history.Sealed.{Sealed}
use Rattle.sql_subset.specs.declared.stmt.CreateGroup.{CreateGroup}
use Rattle.order_laws.specs.Commits.{RiseBetween}
use Rattle.order_laws.proofs.CommittingLaws.{rise_last}
use Rattle.order_laws.proofs.TruthLaws.{both_true}
use Rattle.cache_tier.specs.AlterSteps.{with_state}
use Rattle.cache_tier.specs.DefineSteps.{with_new_group}
use Rattle.cache_tier.specs.Definitions.{clauses_fault, definition_names, definition_types, placed_tables, tables_fault}
use Rattle.cache_tier.specs.DropSteps.{without_group}
use Rattle.cache_tier.specs.Groups.{Group, definitions_of, is_asynchronous, is_synchronous}
use Rattle.cache_tier.specs.Journals.{Commits, Defines, Drops, JournalEntry, Marks, Numbers, Prepares, SetsLoaded, SetsState, next_behind, next_with}
use Rattle.cache_tier.specs.Rules.{at_limit, broken_if, lettered, plain}
use Rattle.cache_tier.specs.TierStates.{Settings, Tier, cut, opened, with_group}
use Rattle.cache_tier.specs.declared.group.GroupDef.{GroupDef}
use Rattle.group_catalog.specs.Catalogs.{groups_in}
use Rattle.group_catalog.specs.ReadBack.{StandsReadBack, broken_beside, has_own_parent, read_back_fault}
use Rattle.group_catalog.proofs.SoundLaws.{or_none}
use Rattle.recovery_laws.specs.Notes.{commits_in}
use Rattle.recovery.specs.Recalling.{Recalls, RecallsAll, notes_of, with_loaded}
use Rattle.recalling.specs.declared.folding.Fold.{Fold}
use Rattle.recalling.specs.Fitting.{fits, fits_over, is_next_ticket, op_fits, sealed_fits}
use Rattle.recalling.specs.Recalled.{FitAll, IsRecalled, NotesTellCommits}
use Rattle.recalling.specs.Steps.{IsNewFold, IsTaken, Moves, above_with, committed}
use Rattle.recalling.proofs.OrderLaws.{IsOrdered, none_ordered, ordered_more}

-- ---- the commits of entries

one_committed : (schema : List TableDef) (e : JournalEntry) (entries : List JournalEntry) → commits_in (notes_of schema (e ∷ entries)) ≡ committed e ++ commits_in (notes_of schema entries)
one_committed schema (Commits s) entries = refl
one_committed schema (Prepares s) entries = refl
one_committed schema (Numbers t) entries = refl
one_committed schema (Marks n) entries = refl
one_committed schema (Defines d text) entries = refl
one_committed schema (Drops name) entries = refl
one_committed schema (SetsState name state) entries = refl
one_committed schema (SetsLoaded name flag) entries = refl

last_committed : (schema : List TableDef) (entries : List JournalEntry) (e : JournalEntry) → commits_in (notes_of schema (entries ++ e ∷ [])) ≡ commits_in (notes_of schema entries) ++ committed e
last_committed schema [] e = one_committed schema e [] ∙ append-nil (committed e)
last_committed schema (x ∷ entries) e =
    one_committed schema x (entries ++ e ∷ []) ∙ ap (λ l. committed x ++ l) (last_committed schema entries e)
    ∙ sym (append_assoc (committed x) (commits_in (notes_of schema entries)) (committed e)) ∙ ap (λ l. l ++ committed e) (sym (one_committed schema x entries))

pub notes_tell_commits : NotesTellCommits
notes_tell_commits schema other [] = refl
notes_tell_commits schema other (e ∷ entries) =
    one_committed schema e entries ∙ ap (λ l. committed e ++ l) (notes_tell_commits schema other entries) ∙ sym (one_committed other e entries)

-- ---- tickets

next_ticket : (above t : ℕ) → is_next_ticket above t ≡ true → (above ≤ t) × (t + 1 ≤ 2 ^ 63)
next_ticket above t fit =
    let (low, high) = both_true (nat_le above t) (nat_le t (greatest limit.Tickets)) fit in
    let within : t ≤ 2 ^ 63 - 1 = leb-true t (2 ^ 63 - 1) high in
    (leb-true above t low, omega arith)

sealed_ticket : (schema : List TableDef) (groups : List Group) (test : Group → Bool) (above : ℕ) (s : Sealed) → sealed_fits schema groups test above s ≡ true → is_next_ticket above s.ticket.0 ≡ true
sealed_ticket schema groups test above s fit =
    (both_true (not (length s.ops == 0) && list_all (op_fits schema groups test) s.ops) (is_next_ticket above s.ticket.0) fit).1

record Rises (above next : ℕ) (e : JournalEntry) : Type 0 where
  more : above ≤ above_with above e
  low : above_with above e ≤ next_with next e
  last : next_with next e ≤ 2 ^ 63
  same : max above (above_with above e) ≡ above_with above e

ticket_rises : (above next t : ℕ) → (above ≤ t) × (t + 1 ≤ 2 ^ 63) → next ≤ 2 ^ 63 → (above ≤ t + 1) × (t + 1 ≤ max next (t + 1)) × (max next (t + 1) ≤ 2 ^ 63) × (max above (t + 1) ≡ t + 1)
ticket_rises above next t (a, b) last = (omega arith, omega arith, omega arith, omega arith)

same_rises : (above next : ℕ) → above ≤ next → next ≤ 2 ^ 63 → (above ≤ above) × (max above above ≡ above)
same_rises above next low last = (omega arith, omega arith)

rises : (schema : List TableDef) (groups : List Group) (above next : ℕ) (e : JournalEntry) → fits schema groups above e ≡ true → above ≤ next → next ≤ 2 ^ 63 → Rises above next e
rises schema groups above next (Commits s) fit low last =
    let r = ticket_rises above next s.ticket.0 (next_ticket above s.ticket.0 (sealed_ticket schema groups is_asynchronous above s fit)) last in
    record { more = r.0; low = r.1; last = r.2; same = r.3 }
rises schema groups above next (Prepares s) fit low last =
    let r = ticket_rises above next s.ticket.0 (next_ticket above s.ticket.0 (sealed_ticket schema groups is_synchronous above s fit)) last in
    record { more = r.0; low = r.1; last = r.2; same = r.3 }
rises schema groups above next (Numbers t) fit low last =
    let r = ticket_rises above next t (next_ticket above t fit) last in
    record { more = r.0; low = r.1; last = r.2; same = r.3 }
rises schema groups above next (Marks n) fit low last =
    let mark : n ≤ 2 ^ 63 = leb-true n (2 ^ 63) fit in
    let r = same_rises above next low last in
    record { more = r.0; low = omega arith; last = omega arith; same = r.1 }
rises schema groups above next (Defines d text) fit low last = let r = same_rises above next low last in record { more = r.0; low = low; last = last; same = r.1 }
rises schema groups above next (Drops name) fit low last = let r = same_rises above next low last in record { more = r.0; low = low; last = last; same = r.1 }
rises schema groups above next (SetsState name state) fit low last = let r = same_rises above next low last in record { more = r.0; low = low; last = last; same = r.1 }
rises schema groups above next (SetsLoaded name flag) fit low last = let r = same_rises above next low last in record { more = r.0; low = low; last = last; same = r.1 }

rise_higher : (low : ℕ) (ss : List Sealed) (high more : ℕ) → RiseBetween low ss high → high ≤ more → RiseBetween low ss more
rise_higher low [] high more rise le = let first : low ≤ high = rise in omega arith
rise_higher low (s ∷ ss) high more rise le = (rise.0, rise_higher (s.ticket.0 + 1) ss high more rise.1 le)

risen : (schema : List TableDef) (groups : List Group) (ss : List Sealed) (above : ℕ) (e : JournalEntry) → fits schema groups above e ≡ true → above ≤ above_with above e → RiseBetween 1 ss above
    → RiseBetween 1 (ss ++ committed e) (above_with above e)
risen schema groups ss above (Commits s) fit more rise = rise_last 1 ss above s rise (next_ticket above s.ticket.0 (sealed_ticket schema groups is_asynchronous above s fit)).0
risen schema groups ss above (Prepares s) fit more rise = risen_none ss above (s.ticket.0 + 1) more rise
  where
    risen_none : (ss : List Sealed) (above higher : ℕ) → above ≤ higher → RiseBetween 1 ss above → RiseBetween 1 (ss ++ []) higher
    risen_none ss above higher more rise = subst (λ l. RiseBetween 1 l higher) (sym (append-nil ss)) (rise_higher 1 ss above higher rise more)
risen schema groups ss above (Numbers t) fit more rise = subst (λ l. RiseBetween 1 l (t + 1)) (sym (append-nil ss)) (rise_higher 1 ss above (t + 1) rise more)
risen schema groups ss above (Marks n) fit more rise = subst (λ l. RiseBetween 1 l above) (sym (append-nil ss)) rise
risen schema groups ss above (Defines d text) fit more rise = subst (λ l. RiseBetween 1 l above) (sym (append-nil ss)) rise
risen schema groups ss above (Drops name) fit more rise = subst (λ l. RiseBetween 1 l above) (sym (append-nil ss)) rise
risen schema groups ss above (SetsState name state) fit more rise = subst (λ l. RiseBetween 1 l above) (sym (append-nil ss)) rise
risen schema groups ss above (SetsLoaded name flag) fit more rise = subst (λ l. RiseBetween 1 l above) (sym (append-nil ss)) rise

-- ---- one entry of the abstract tier

unbroken_names : (schema : List TableDef) (groups : List GroupDef) (d : CreateGroup) → read_back_fault schema groups d ≡ None → definition_names schema groups d ≡ None
unbroken_names schema groups d e =
    let two = or_none (broken_beside [] schema groups false d) (broken_if (has_own_parent schema d) (lettered letter.J)) e in
    let letters = option_or (tables_fault schema groups (placed_tables schema d)) (clauses_fault [] d (placed_tables schema d)) in
    let rest = option_or (definition_types schema d) (option_or letters (at_limit limit.Groups (length groups))) in
    (or_none (definition_names schema groups d) (option_or (broken_if false (plain code.TransactionOpen)) rest) two.0).0

record IsStep (t : Tier) (e : JournalEntry) (groups : List Group) : Type 0 where
  to : Tier
  recalls : Recalls e t to
  left : to.groups ≡ groups
  next : to.next ≡ above_with t.next e
  schema_is : to.schema ≡ t.schema
  now_is : to.now ≡ t.now

step : StandsReadBack → (t : Tier) (e : JournalEntry) (groups : List Group) → max t.next (above_with t.next e) ≡ above_with t.next e → Moves t.schema t.now t.next e t.groups groups → IsStep t e groups
step law t (Commits s) groups same m = record { to = record t { next = next_with t.next (Commits s) }; recalls = refl; left = sym m; next = same; schema_is = refl; now_is = refl }
step law t (Prepares s) groups same m = record { to = record t { next = next_with t.next (Prepares s) }; recalls = refl; left = sym m; next = same; schema_is = refl; now_is = refl }
step law t (Numbers n) groups same m = record { to = record t { next = next_with t.next (Numbers n) }; recalls = refl; left = sym m; next = same; schema_is = refl; now_is = refl }
step law t (Marks n) groups same m = record { to = t; recalls = refl; left = sym m; next = refl; schema_is = refl; now_is = refl }
step law t (Drops name) groups same m = record { to = without_group name t; recalls = refl; left = sym m; next = refl; schema_is = refl; now_is = refl }
step law t (SetsState name state) groups same m = record { to = with_group name (with_state state) t; recalls = refl; left = sym m; next = refl; schema_is = refl; now_is = refl }
step law t (SetsLoaded name flag) groups same m = record { to = with_group name (with_loaded flag) t; recalls = refl; left = sym m; next = refl; schema_is = refl; now_is = refl }
step law t (Defines d text) groups same m =
    let stands = law t.schema t.groups d m.tree m.back t.next t.now in
    record {
      to = with_new_group d m.tree t;
      recalls = record {
        tree = m.tree;
        is = m.back.is;
        names = unbroken_names t.schema (definitions_of t.groups) d m.back.unbroken;
        sound = stands.sound;
        apart = stands.apart;
        left = refl;
      };
      left = sym m.left;
      next = refl;
      schema_is = refl;
      now_is = refl;
    }

-- ---- all entries of it

pub recalls_all : (entries : List JournalEntry) (t t' : Tier) → FitAll entries t t' → RecallsAll entries t t'
recalls_all [] t t' all = all
recalls_all (e ∷ entries) t t' all = (all.0, all.2, recalls_all entries all.0 t' all.3)

fit_more : (entries : List JournalEntry) (e : JournalEntry) (t mid t' : Tier) → FitAll entries t mid → fits_over mid e ≡ true → Recalls e mid t' → FitAll (entries ++ e ∷ []) t t'
fit_more [] e t mid t' all fit recalls = subst (λ u. FitAll (e ∷ []) u t') all (t', fit, recalls, refl)
fit_more (x ∷ entries) e t mid t' all fit recalls = (all.0, all.1, all.2, fit_more entries e all.0 mid t' all.3 fit recalls)

-- a tier that the entries leave, with what the fold has of it
pub record Leaves (settings : Settings) (moment : ℕ) (schema : List TableDef) (entries : List JournalEntry) (groups : List Group) (above : ℕ) : Type 0 where
  pub tier : Tier
  pub fit : FitAll entries (opened settings moment schema) tier
  pub left : tier.groups ≡ groups
  pub next : tier.next ≡ above
  pub schema_is : tier.schema ≡ schema
  pub now_is : tier.now ≡ cut moment

pub fits_there : (settings : Settings) (moment : ℕ) (schema : List TableDef) (entries : List JournalEntry) (groups : List Group) (above : ℕ) (l : Leaves settings moment schema entries groups above) (e : JournalEntry)
    → fits_over l.tier e ≡ fits schema groups above e
fits_there settings moment schema entries groups above l e = λ i. fits (l.schema_is i) (l.left i) (l.next i) e

leaves_more : StandsReadBack → (settings : Settings) (moment : ℕ) (schema : List TableDef) (entries : List JournalEntry) (e : JournalEntry) (groups groups' : List Group) (above : ℕ)
    → fits schema groups above e ≡ true → max above (above_with above e) ≡ above_with above e → Moves schema (cut moment) above e groups groups'
    → Leaves settings moment schema entries groups above → Leaves settings moment schema (entries ++ e ∷ []) groups' (above_with above e)
leaves_more law settings moment schema entries e groups groups' above fit same m l =
    let t = l.tier in
    let m1 = subst (λ s. Moves s (cut moment) above e groups groups') (sym l.schema_is) m in
    let m2 = subst (λ n. Moves t.schema n above e groups groups') (sym l.now_is) m1 in
    let m3 = subst (λ a. Moves t.schema t.now a e groups groups') (sym l.next) m2 in
    let m4 = subst (λ gs. Moves t.schema t.now t.next e gs groups') (sym l.left) m3 in
    let same_there : max t.next (above_with t.next e) ≡ above_with t.next e = subst (λ a. max a (above_with a e) ≡ above_with a e) (sym l.next) same in
    let s = step law t e groups' same_there m4 in
    record {
      tier = s.to;
      fit = fit_more entries e (opened settings moment schema) t s.to l.fit (fits_there settings moment schema entries groups above l e ∙ fit) s.recalls;
      left = s.left;
      next = s.next ∙ ap (λ a. above_with a e) l.next;
      schema_is = s.schema_is ∙ l.schema_is;
      now_is = s.now_is ∙ l.now_is;
    }

-- ---- the fold

pub record IsFolded (schema : List TableDef) (moment : ℕ) (entries : List JournalEntry) (fold : Fold) : Type 0 where
  pub leaves : (settings : Settings) → Leaves settings moment schema entries (groups_in fold.catalog) fold.above
  pub order : IsOrdered schema (groups_in fold.catalog)
  pub next : fold.next ≡ next_behind entries
  pub commits : fold.commits.items ≡ commits_in (notes_of schema entries)
  pub rise : RiseBetween 1 fold.commits.items fold.above
  pub low : fold.above ≤ fold.next
  pub last : fold.next ≤ 2 ^ 63

pub none_folded : (schema : List TableDef) (moment : ℕ) (fold : Fold) → IsNewFold fold → IsFolded schema moment [] fold
none_folded schema moment fold new = record {
  leaves = λ settings. record {
    tier = opened settings moment schema;
    fit = refl;
    left = sym new.groups;
    next = sym new.above;
    schema_is = refl;
    now_is = refl;
  };
  order = none_ordered schema (groups_in fold.catalog) new.groups;
  next = new.next;
  commits = new.commits;
  rise = subst (λ l. RiseBetween 1 l fold.above) (sym new.commits) (omega (arith, new.above));
  low = omega (arith, new.above, new.next);
  last = omega (arith, new.next);
}

pub folded_more : StandsReadBack → (schema : List TableDef) (moment : ℕ) (entries : List JournalEntry) (e : JournalEntry) (old new : Fold) → IsFolded schema moment entries old
    → IsTaken schema (cut moment) e old new → IsFolded schema moment (entries ++ e ∷ []) new
folded_more law schema moment entries e old new f taken =
    let r = rises schema (groups_in old.catalog) old.above old.next e taken.fit f.low f.last in
    record {
      leaves = λ settings.
          subst (Leaves settings moment schema (entries ++ e ∷ []) (groups_in new.catalog)) (sym taken.above)
          (leaves_more law settings moment schema entries e (groups_in old.catalog) (groups_in new.catalog) old.above taken.fit r.same taken.groups (f.leaves settings));
      order = ordered_more law schema (cut moment) old.above e (groups_in old.catalog) (groups_in new.catalog) taken.fit taken.groups f.order;
      next = taken.next ∙ ap (λ n. next_with n e) f.next ∙ sym (fold_push next_with 1 entries e);
      commits = taken.commits ∙ ap (λ l. l ++ committed e) f.commits ∙ sym (last_committed schema entries e);
      rise = subst (λ l. RiseBetween 1 l new.above) (sym taken.commits)
          (subst (RiseBetween 1 (old.commits.items ++ committed e)) (sym taken.above) (risen schema (groups_in old.catalog) old.commits.items old.above e taken.fit r.more f.rise));
      low = omega (arith, r.low, taken.above, taken.next);
      last = omega (arith, r.last, taken.next);
    }

-- the fold of all entries

pub none_left : {X : Type 0} (xs : List X) → length xs ≡ 0 → xs ≡ []
none_left [] e = refl
none_left (x ∷ xs) e = cc

pub recalled_by : (settings : Settings) (schema : List TableDef) (moment : ℕ) (entries : List JournalEntry) (fold : Fold) → IsFolded schema moment entries fold
    → IsRecalled settings moment schema entries (groups_in fold.catalog)
recalled_by settings schema moment entries fold f =
    let l = f.leaves settings in
    record { tier = l.tier; recalls = recalls_all entries (opened settings moment schema) l.tier l.fit; fit = l.fit; left = sym l.left }

pub risen_next : (schema : List TableDef) (moment : ℕ) (entries : List JournalEntry) (fold : Fold) → IsFolded schema moment entries fold → RiseBetween 1 fold.commits.items fold.next
risen_next schema moment entries fold f = rise_higher 1 fold.commits.items fold.above fold.next f.rise f.low
