-- What a rotation puts in the journal's place matches.
use Rattle.std.proofs.Common.{◌≡◌, inl, ℕ, ◌+◌, ◌≤◌, ◌<◌, List, [], ◌∷◌, ◌++◌, map, Bool, true, false, ◌&&◌, not, cond, nat_le, Some, refl, sym, ◌∙◌, ap, subst, arith, append_assoc, append-nil, lt_of_not-le}
use Rattle.std.specs.List.{filter, list_any}
use Rattle.std.proofs.Math.Nat.{le-max_left}
use Rattle.std.proofs.lemmas.Bool.{le-leb, leb-true}
use Rattle.std.proofs.lemmas.List.Folds.{list_all-append}
use Rattle.order_laws.specs.tier_base.specs.declared.number.TableId.{TableId}
use Rattle.order_laws.specs.table_defs.specs.declared.definition.TableDef.{TableDef}
use Rattle.order_laws.specs.table_state.specs.declared.history.Entry.{Entry}
use Rattle.order_laws.specs.table_state.specs.declared.history.Sealed.{Sealed}
use Rattle.order_laws.specs.table_state.specs.Histories.{entry_of, has_ticket, state_of}
use Rattle.order_laws.specs.table_state.specs.Copies.{is_one_of}
use Rattle.order_laws.specs.Commits.{LiveGroup, NoneBelow, RiseBetween, entry_on, in_order, is_op_on, is_other, of_group, pending}
use Rattle.order_laws.specs.Sides.{all_on, are_on}
use Rattle.order_laws.specs.Standing.{GroupsAreOrdered, Stand, live_tables, progress_of}
use Rattle.order_laws.proofs.TruthLaws.{both_true}
use Rattle.order_laws.proofs.WholeLaws.{stand_leaves}
use Rattle.recovery_laws.specs.Notes.{Catalog, Commit, Define, Drop, FitAll, Fits, Flag, Mark, Named, Note, Number, Prepare, are_apart, catalog_of, empty_catalog, groups_of, live_groups, log_in, mark_of, next_of, recall, recall_all, told, without}
use Rattle.recovery_laws.specs.Matching.{IsMatched}
use Rattle.recovery_laws.specs.Rotations.{AllLater, NoneEarlier, Sheds, definitions, flags_of, from_first, kept, rotated, shed}
use Rattle.recovery_laws.proofs.GoodLaws.{flags_keep, groups_append}
use Rattle.recovery_laws.proofs.MatchLaws.{no_later, stands_matched}
use Rattle.recovery_laws.proofs.PushLaws.{fits_push, log_push, recall_push}

some_same : {X : Type 0} (x y : X) → Some x ≡ Some y → x ≡ y
some_same x y e = cc

-- transactions that are settled leave the list
pub sheds : (groups : List LiveGroup) (schema : List TableDef) (h : List Entry) (log rest : List Sealed) (next : ℕ) → Sheds groups schema h log rest → (stand : Stand (progress_of groups h log next)) → stand.over.backing.schema ≡ schema → Stand (progress_of groups h rest next)
sheds groups schema h log _ next kept stand same = stand
sheds groups schema h _ rest next (shed lower s higher may more) stand same =
    let now = (stand_leaves groups h lower s higher next stand (subst (λ (l : List TableDef). Rattle.order_laws.specs.Steps.MayLeave groups l h lower s higher) (sym same) may)).0 in
    sheds groups schema h (lower ++ higher) rest next more now (ap (λ x. x.schema) (some_same now.over.backing stand.over.backing (sym now.over.leaves ∙ stand.over.leaves)) ∙ same)

-- a group's transactions are the same from the first ticket on

group_same : (g : LiveGroup) (low : ℕ) (log : List Sealed) (high : ℕ) → 1 ≤ low → RiseBetween low log high → NoneEarlier g log → of_group (record { tables = g.tables; first = 1 }) log ≡ of_group g log
group_same g low [] high le rise none = refl
group_same g low (s ∷ log) high le rise none =
    let first : low ≤ s.ticket.0 = rise.0 in
    let early : nat_le 1 s.ticket.0 ≡ true = le-leb 1 s.ticket.0 (omega (arith, le)) in
    by (list_any (is_op_on g.tables) s.ops) refl (nat_le 1 s.ticket.0) early (group_same g (s.ticket.0 + 1) log high (omega (arith, le)) rise.1 none.1)
  where
    by : (b : Bool) → list_any (is_op_on g.tables) s.ops ≡ b → (a : Bool) → a ≡ true → of_group (record { tables = g.tables; first = 1 }) log ≡ of_group g log
        → cond (a && b) (s ∷ of_group (record { tables = g.tables; first = 1 }) log) (of_group (record { tables = g.tables; first = 1 }) log) ≡ cond (nat_le g.first s.ticket.0 && b) (s ∷ of_group g log) (of_group g log)
    by true on a e more = (λ i. cond (e i && true) (s ∷ more i) (more i)) ∙ sym (λ i. cond (le-leb g.first s.ticket.0 (none.0 on) i && true) (s ∷ of_group g log) (of_group g log))
    by false on a e more = off a ∙ more ∙ sym (off_too (nat_le g.first s.ticket.0))
      where
        off : (c : Bool) → cond (c && false) (s ∷ of_group (record { tables = g.tables; first = 1 }) log) (of_group (record { tables = g.tables; first = 1 }) log) ≡ of_group (record { tables = g.tables; first = 1 }) log
        off true = refl
        off false = refl

        off_too : (c : Bool) → cond (c && false) (s ∷ of_group g log) (of_group g log) ≡ of_group g log
        off_too true = refl
        off_too false = refl

none_below_one : (tables : List TableId) (h : List Entry) (low : ℕ) (log : List Sealed) (high : ℕ) → 1 ≤ low → RiseBetween low log high → NoneBelow (record { tables = tables; first = 1 }) h log
none_below_one tables h low [] high le rise = tt
none_below_one tables h low (s ∷ log) high le rise = let first : low ≤ s.ticket.0 = rise.0 in (λ p on. omega (arith, le), none_below_one tables h (s.ticket.0 + 1) log high (omega (arith, le)) rise.1)

order_same : (g k : LiveGroup) (h : List Entry) (log : List Sealed) → g.tables ≡ k.tables → of_group g log ≡ of_group k log → in_order g h log ≡ in_order k h log
order_same g k h log e f = λ i. state_of (map (entry_on (e i)) (filter (is_other (f i)) h ++ map entry_of (f i)))

ordered_from_first : (groups : List LiveGroup) (h : List Entry) (log : List Sealed) (schema : List TableDef) (next : ℕ) → 1 ≤ next → RiseBetween 1 log next → AllLater groups log → GroupsAreOrdered groups h log schema next → GroupsAreOrdered (from_first groups) h log schema next
ordered_from_first [] h log schema next le rise later all = tt
ordered_from_first (g ∷ groups) h log schema next le rise later all = (
  record {
    closed = (all.0).closed;
    first = le;
    none_below = none_below_one g.tables h 1 log next (omega arith) rise;
    state = (all.0).state;
    ordered = order_same (record { tables = g.tables; first = 1 }) g h log refl (group_same g 1 log next (omega arith) rise later.0) ∙ (all.0).ordered;
  },
  ordered_from_first groups h log schema next le rise later.1 all.1,
)

tables_from_first : (groups : List LiveGroup) → live_tables (from_first groups) ≡ live_tables groups
tables_from_first [] = refl
tables_from_first (g ∷ groups) = ap (λ l. g.tables ++ l) (tables_from_first groups)

pub rise_low : (low : ℕ) (log : List Sealed) (high : ℕ) → RiseBetween low log high → low ≤ high
rise_low low [] high rise = rise
rise_low low (s ∷ log) high rise = let a : low ≤ s.ticket.0 = rise.0 in let b : s.ticket.0 + 1 ≤ high = rise_low (s.ticket.0 + 1) log high rise.1 in omega arith

pub stand_from_first : (groups : List LiveGroup) (h : List Entry) (log : List Sealed) (next : ℕ) → AllLater groups log → Stand (progress_of groups h log next) → Stand (progress_of (from_first groups) h log next)
stand_from_first groups h log next later stand = record {
  over = record {
    backing = stand.over.backing;
    leaves = stand.over.leaves;
    virtual = stand.over.virtual;
    virtual_is = stand.over.virtual_is;
    rise = stand.over.rise;
    below = stand.over.below;
    legal = stand.over.legal;
    ordered = ordered_from_first groups h log stand.over.backing.schema next (rise_low 1 log next stand.over.rise) stand.over.rise later stand.over.ordered;
  };
  live = ap (λ t. Rattle.order_laws.specs.Sides.all_on t (pending h log)) (tables_from_first groups) ∙ stand.live;
  known = stand.known;
}

-- the tables of live groups are apart

abbrev pub AllApart : List LiveGroup → Type 0
AllApart [] = Unit {0}
AllApart (g ∷ groups) = (are_apart (live_tables groups) g.tables ≡ true) × AllApart groups

tables_append : (a b : List LiveGroup) → live_tables (a ++ b) ≡ live_tables a ++ live_tables b
tables_append [] b = refl
tables_append (g ∷ a) b = ap (λ l. g.tables ++ l) (tables_append a b) ∙ sym (append_assoc g.tables (live_tables a) (live_tables b))

apart_less : (a : List LiveGroup) (g : LiveGroup) (b : List LiveGroup) (tables : List TableId) → are_apart (live_tables (a ++ g ∷ b)) tables ≡ true → are_apart (live_tables (a ++ b)) tables ≡ true
apart_less a g b tables e =
    let test = λ (t : TableId). not (is_one_of tables t) in
    let whole : (are_apart (live_tables a) tables && are_apart (g.tables ++ live_tables b) tables) ≡ true = sym (list_all-append test (live_tables a) (g.tables ++ live_tables b)) ∙ ap (λ l. are_apart l tables) (sym (tables_append a (g ∷ b))) ∙ e in
    let (first, rest) = both_true (are_apart (live_tables a) tables) (are_apart (g.tables ++ live_tables b) tables) whole in
    let (mine, last) = both_true (are_apart g.tables tables) (are_apart (live_tables b) tables) (sym (list_all-append test g.tables (live_tables b)) ∙ rest) in
    ap (λ l. are_apart l tables) (tables_append a b) ∙ list_all-append test (live_tables a) (live_tables b) ∙ (λ i. first i && last i)

all_apart_less : (a : List LiveGroup) (g : LiveGroup) (b : List LiveGroup) → AllApart (a ++ g ∷ b) → AllApart (a ++ b)
all_apart_less [] g b all = all.1
all_apart_less (x ∷ a) g b all = (apart_less a g b x.tables all.0, all_apart_less a g b all.1)

apart_step : (h : List Entry) (c : Catalog) (log : List Sealed) (n : Note) → Fits h c log n → AllApart (live_groups c.groups) → AllApart (live_groups (recall n c).groups)
apart_step h c log (Commit s) fits all = all
apart_step h c log (Prepare s) fits all = all
apart_step h c log (Number t) fits all = all
apart_step h c log (Mark n) fits all = all
apart_step h c log (Define name tables) fits all = (fits, all)
apart_step h c log (Drop name) fits all =
    let g = fits.0 in
    let was : live_groups c.groups ≡ live_groups g.before ++ g.one.group ∷ live_groups g.behind = ap live_groups g.is ∙ groups_append g.before (g.one ∷ g.behind) in
    let now : live_groups (without name c.groups) ≡ live_groups g.before ++ live_groups g.behind = ap live_groups g.left ∙ groups_append g.before g.behind in
    subst AllApart (sym now) (all_apart_less (live_groups g.before) g.one.group (live_groups g.behind) (subst AllApart was all))
apart_step h c log (Flag name flag) fits all = subst AllApart (sym (flags_keep name flag c.groups)) all

pub all_apart : (h : List Entry) (c : Catalog) (log : List Sealed) (notes : List Note) → FitAll h c log notes → AllApart (live_groups c.groups) → AllApart (live_groups (recall_all notes c).groups)
all_apart h c log [] fits all = all
all_apart h c log (n ∷ notes) fits all = all_apart h (recall n c) (log ++ told h n) notes fits.1 (apart_step h c log n fits.0 all)

-- what the new entries fold to

record Folds (gs : List Named) (c : Catalog) : Type 0 where
  groups : live_groups c.groups ≡ from_first (live_groups gs)
  next : c.next ≡ 1

defs_fold : (gs : List Named) → Folds gs (recall_all (definitions gs) empty_catalog)
defs_fold [] = record { groups = refl; next = refl }
defs_fold (g ∷ gs) =
    let r = defs_fold gs in
    let c = recall_all (definitions gs) empty_catalog in
    subst (Folds (g ∷ gs)) (sym (recall_push (definitions gs) (Define g.name g.group.tables ∷ []) empty_catalog))
    (record { groups = λ i. record { tables = g.group.tables; first = r.next i } ∷ r.groups i; next = r.next })

defs_fit : (h : List Entry) (gs : List Named) → AllApart (live_groups gs) → FitAll h empty_catalog [] (definitions gs)
defs_fit h [] all = tt
defs_fit h (g ∷ gs) all =
    let r = defs_fold gs in
    let apart : are_apart (live_tables (live_groups (recall_all (definitions gs) empty_catalog).groups)) g.group.tables ≡ true = ap (λ t. are_apart t g.group.tables) (ap live_tables r.groups ∙ tables_from_first (live_groups gs)) ∙ all.0 in
    fits_push h empty_catalog [] (definitions gs) (Define g.name g.group.tables ∷ []) (defs_fit h gs all.1) (apart, tt)

record Same (c d : Catalog) : Type 0 where
  groups : live_groups d.groups ≡ live_groups c.groups
  next : d.next ≡ c.next

flags_fold : (fs : List (List ℕ × ℕ)) (c : Catalog) → Same c (recall_all (flags_of fs) c)
flags_fold [] c = record { groups = refl; next = refl }
flags_fold (f ∷ fs) c =
    let r = flags_fold fs (recall (Flag f.0 f.1) c) in
    record { groups = r.groups ∙ flags_keep f.0 f.1 c.groups; next = r.next }

flags_fit : (h : List Entry) (c : Catalog) (log : List Sealed) (fs : List (List ℕ × ℕ)) → FitAll h c log (flags_of fs)
flags_fit h c log [] = tt
flags_fit h c log (f ∷ fs) = (tt, flags_fit h (recall (Flag f.0 f.1) c) (log ++ []) fs)

commits_groups : (u : List Sealed) (c : Catalog) → (recall_all (map Commit u) c).groups ≡ c.groups
commits_groups [] c = refl
commits_groups (s ∷ u) c = commits_groups u (recall (Commit s) c)

commits_fit : (h : List Entry) (c : Catalog) (log u : List Sealed) (high : ℕ) → RiseBetween c.next u high → all_on (live_tables (live_groups c.groups)) u ≡ true → FitAll h c log (map Commit u)
commits_fit h c log [] high rise on = tt
commits_fit h c log (s ∷ u) high rise on =
    let (mine, rest) = both_true (are_on (live_tables (live_groups c.groups)) s.ops) (all_on (live_tables (live_groups c.groups)) u) on in
    ((rise.0, mine), commits_fit h (recall (Commit s) c) (log ++ s ∷ []) u high rise.1 rest)

-- what they tell
quiet_log : (h : List Entry) (gs : List Named) → log_in h (definitions gs) ≡ []
quiet_log h [] = refl
quiet_log h (g ∷ gs) = log_push h (definitions gs) (Define g.name g.group.tables ∷ []) ∙ append-nil (log_in h (definitions gs)) ∙ quiet_log h gs

quiet_flags : (h : List Entry) (fs : List (List ℕ × ℕ)) → log_in h (flags_of fs) ≡ []
quiet_flags h [] = refl
quiet_flags h (f ∷ fs) = quiet_flags h fs

commits_log : (h : List Entry) (u : List Sealed) → log_in h (map Commit u) ≡ u
commits_log h [] = refl
commits_log h (s ∷ u) = ap (λ l. s ∷ l) (commits_log h u)

pub rotated_log : (h : List Entry) (next : ℕ) (gs : List Named) (fs : List (List ℕ × ℕ)) (u : List Sealed) → log_in h (rotated next gs fs u) ≡ u
rotated_log h next gs fs u = log_push h (definitions gs) (flags_of fs ++ map Commit u) ∙ (λ i. quiet_log h gs i ++ (log_push h (flags_of fs) (map Commit u) ∙ (λ j. quiet_flags h fs j ++ commits_log h u j)) i)

-- A rotation of a journal that matches matches, with all that is unsettled.
pub rotation_matches : (notes : List Note) (h : List Entry) (fs : List (List ℕ × ℕ)) (u : List Sealed) (next : ℕ) → (m : IsMatched notes h) → next_of notes ≤ next → AllLater (groups_of notes) u → all_on (live_tables (groups_of notes)) u ≡ true
    → Stand (progress_of (groups_of notes) h u next) → IsMatched (rotated next (catalog_of notes).groups fs u) h
rotation_matches notes h fs u next m le later on stand =
    let gs = (catalog_of notes).groups in
    let defs = definitions gs in
    let flags = flags_of fs in
    let c = recall_all defs empty_catalog in
    let d = recall_all flags c in
    let cd = defs_fold gs in
    let dd = flags_fold fs c in
    let tables : live_tables (live_groups d.groups) ≡ live_tables (groups_of notes) = ap live_tables (dd.groups ∙ cd.groups) ∙ tables_from_first (groups_of notes) in
    let last_log : log_in h (flags ++ map Commit u) ≡ u = log_push h flags (map Commit u) ∙ (λ i. quiet_flags h fs i ++ commits_log h u i) in
    let log : log_in h (rotated next gs fs u) ≡ u = log_push h defs (flags ++ map Commit u) ∙ (λ i. quiet_log h gs i ++ last_log i) in
    let catalog : groups_of (rotated next gs fs u) ≡ from_first (groups_of notes) =
    ap (λ (x : Catalog). live_groups x.groups) (recall_push defs (flags ++ map Commit u) empty_catalog ∙ recall_push flags (map Commit u) c)
    ∙ ap live_groups (commits_groups u d) ∙ dd.groups ∙ cd.groups
    in
    let rise : RiseBetween d.next u next = subst (λ (n : ℕ). RiseBetween n u next) (sym (dd.next ∙ cd.next)) stand.over.rise in
    let fits : FitAll h empty_catalog [] (defs ++ (flags ++ map Commit u)) =
    fits_push h empty_catalog [] defs (flags ++ map Commit u) (defs_fit h gs (all_apart h empty_catalog [] notes m.fits tt))
    (fits_push h c ([] ++ log_in h defs) flags (map Commit u) (flags_fit h c ([] ++ log_in h defs) fs) (commits_fit h d (([] ++ log_in h defs) ++ log_in h flags) u next rise (ap (λ t. all_on t u) tables ∙ on)))
    in
    let now = stand_from_first (groups_of notes) h u next later stand in
    stands_matched (rotated next gs fs u) h next (tt, fits) (λ t there. inl (lower t there (has_ticket t h) refl))
    (subst (λ (g : List LiveGroup). Stand (progress_of g h (log_in h (rotated next gs fs u)) next)) (sym catalog) (subst (λ (l : List Sealed). Stand (progress_of (from_first (groups_of notes)) h l next)) (sym log) now))
  where
    differ : {P : Type 0} (b : Bool) → b ≡ true → b ≡ false → P
    differ b x y = cc

    lower : (t : ℕ) → has_ticket t h ≡ true → (b : Bool) → has_ticket t h ≡ b → t < mark_of (rotated next (catalog_of notes).groups fs u)
    lower t there b e = by (nat_le (next_of notes) t) refl
      where
        by : (x : Bool) → nat_le (next_of notes) t ≡ x → t < mark_of (rotated next (catalog_of notes).groups fs u)
        by true f = differ (has_ticket t h) there (no_later h notes m.fits m.known t (leb-true (next_of notes) t f))
        by false f =
            let mark : next ≤ mark_of (rotated next (catalog_of notes).groups fs u) = le-max_left next (mark_of (definitions (catalog_of notes).groups ++ (flags_of fs ++ map Commit u))) in
            let lt : t < next_of notes = under f in
            omega (arith, mark, lt, le)
          where
            under : nat_le (next_of notes) t ≡ false → t < next_of notes
            under g = lt_of_not-le (λ l. differ (nat_le (next_of notes) t) (le-leb (next_of notes) t l) g)

-- the catalog of what is flushed is that of all that is given: what waits in the tail are commits
pub flushed_catalog : (flushed : List Note) (late : List Sealed) → (catalog_of flushed).groups ≡ (catalog_of (flushed ++ map Commit late)).groups
flushed_catalog flushed late = sym (ap (λ (c : Catalog). c.groups) (recall_push flushed (map Commit late) empty_catalog) ∙ commits_groups late (catalog_of flushed))
