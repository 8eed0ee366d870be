-- Tables of one kind, where groups come, go and stay.
use Rattle.std.proofs.Common.{◌≡◌, Bool, true, false, cond, not, ◌&&◌, ◌||◌, None, List, [], ◌∷◌, ◌++◌, map, filter, refl, sym, ap, ◌∙◌}
use Rattle.std.specs.List.{list_all, list_any}
use Rattle.std.proofs.lemmas.List.Folds.{list_any-append}
use Rattle.tier_base.specs.declared.number.TableId.{TableId}
use Rattle.table_defs.specs.declared.definition.TableDef.{TableDef}
use Rattle.table_state.specs.declared.history.Sealed.{Sealed}
use Rattle.table_state.specs.declared.operation.Op.{Op}
use Rattle.table_state.specs.Operations.{table_of}
use Rattle.order_laws.specs.Standing.{AreClosed}
use Rattle.order_laws.proofs.CountLaws.{get_front}
use Rattle.order_laws.proofs.TruthLaws.{both_true, never_both}
use Rattle.sql_subset.specs.declared.stmt.GroupKind.{GroupKind}
use Rattle.sql_subset.specs.declared.stmt.GroupKind.TheVariants as kind
use Rattle.sql_subset.specs.declared.stmt.RefreshState.TheVariants.{Off}
use Rattle.cache_tier.specs.declared.group.GroupDef.{GroupDef}
use Rattle.cache_tier.specs.Commits.{live_group}
use Rattle.cache_tier.specs.Groups.{Group, covers, definitions_of, is_asynchronous, is_defined_on, is_synchronous, is_table_of, is_writethrough}
use Rattle.cache_tier.specs.StandingBetween.{Each, HasNoTableOf, HaveOwnTables, are_written_through, live_groups_of}
use Rattle.cache_tier.specs.TierStates.{Session, Tier}
use Rattle.cache_tier.proofs.GroupTables.{in_tree}
use Rattle.run_laws.specs.Lines.{AreOfKinds, IsOfOneKind, are_later, are_on_kind}
use Rattle.run_laws.proofs.KindLaws.{neither, none_of}
use Rattle.run_laws.proofs.OffLaws.{IsSideOf}

-- ---- where tables are of the same kind

-- a table is of a group that passes the test as before
abbrev pub IsSameAt : (Group → Bool) → List Group → List Group → TableId → Type 0
IsSameAt test gs hs u = is_table_of test hs u ≡ is_table_of test gs u

-- so are the tables of these operations
abbrev pub AreSameAt : (Group → Bool) → List Group → List Group → List Op → Type 0
AreSameAt test gs hs ops = Each (λ (op : Op). IsSameAt test gs hs (table_of op)) ops

pub on_same : (test : Group → Bool) (gs hs : List Group) (ops : List Op) → AreSameAt test gs hs ops → are_on_kind test hs ops ≡ are_on_kind test gs ops
on_same test gs hs [] are = refl
on_same test gs hs (op ∷ ops) are = let rest = on_same test gs hs ops are.1 in λ i. are.0 i && rest i

pub any_same : (gs hs : List Group) (ops : List Op) → AreSameAt is_synchronous gs hs ops → list_any (λ op. is_table_of is_synchronous hs (table_of op)) ops ≡ list_any (λ op. is_table_of is_synchronous gs (table_of op)) ops
any_same gs hs [] are = refl
any_same gs hs (op ∷ ops) are = let rest = any_same gs hs ops are.1 in λ i. are.0 i || rest i

pub kind_same : (gs hs : List Group) (ops : List Op) → AreSameAt is_synchronous gs hs ops → IsOfOneKind gs ops → IsOfOneKind hs ops
kind_same gs hs ops are one e = on_same is_synchronous gs hs ops are ∙ one (sym (any_same gs hs ops are) ∙ e)

pub later_same : (gs hs : List Group) (us : List Sealed) → Each (λ (u : Sealed). AreSameAt is_asynchronous gs hs u.ops) us → are_later hs us ≡ are_later gs us
later_same gs hs [] are = refl
later_same gs hs (u ∷ us) are = let one = on_same is_asynchronous gs hs u.ops are.0 in let rest = later_same gs hs us are.1 in λ i. one i && rest i

pub each_all : {X : Type 0} (P : X → Type 0) → ((x : X) → P x) → (xs : List X) → Each P xs
each_all P so [] = tt
each_all P so (x ∷ xs) = (so x, each_all P so xs)

pub each_so : {X : Type 0} (P Q : X → Type 0) → ((x : X) → P x → Q x) → (xs : List X) → Each P xs → Each Q xs
each_so P Q so [] each = tt
each_so P Q so (x ∷ xs) each = (so x each.0, each_so P Q so xs each.1)

-- what holds of each by a test
pub each_tested : {X : Type 0} (p : X → Bool) (P : X → Type 0) → ((x : X) → p x ≡ true → P x) → (xs : List X) → list_all p xs ≡ true → Each P xs
each_tested p P so [] all = tt
each_tested p P so (x ∷ xs) all = let both = both_true (p x) (list_all p xs) all in (so x both.0, each_tested p P so xs both.1)

-- ---- the same definitions

abbrev as_group : GroupDef → Group
as_group d = record { def = d; first = 0; state = Off; loaded = false; keys = []; position = None; horizon = None; aged = 0 }

by_defs : (test : Group → Bool) → ((g : Group) → test g ≡ test (as_group g.def)) → (gs : List Group) (u : TableId) → is_table_of test gs u ≡ list_any (λ d. test (as_group d) && is_defined_on u d) (definitions_of gs)
by_defs test of [] u = refl
by_defs test of (g ∷ gs) u = let one = of g in let rest = by_defs test of gs u in λ i. (one i && covers u g) || rest i

pub defs_same : (test : Group → Bool) → ((g : Group) → test g ≡ test (as_group g.def)) → (gs hs : List Group) (u : TableId) → definitions_of hs ≡ definitions_of gs → IsSameAt test gs hs u
defs_same test of gs hs u same = by_defs test of hs u ∙ ap (λ ds. list_any (λ d. test (as_group d) && is_defined_on u d) ds) same ∙ sym (by_defs test of gs u)

pub kinds_by : (t t' : Tier) → definitions_of t'.groups ≡ definitions_of t.groups → are_later t.groups t'.unsettled ≡ true → Each (λ (s : Session). IsOfOneKind t.groups s.own) t'.sessions → AreOfKinds t'
kinds_by t t' same later own = record {
  later = later_same t.groups t'.groups t'.unsettled (each_all _ (λ u. each_all _ (λ op. defs_same is_asynchronous (λ g. refl) t.groups t'.groups (table_of op) same) u.ops) t'.unsettled) ∙ later;
  own = each_so _ _ (λ s one. kind_same t.groups t'.groups s.own (each_all _ (λ op. defs_same is_synchronous (λ g. refl) t.groups t'.groups (table_of op) same) s.own) one) t'.sessions own;
}

-- ---- a group more

right_none : (b : Bool) → (b || false) ≡ b
right_none true = refl
right_none false = refl

no_more : (a c r : Bool) → c ≡ false → ((a && c) || r) ≡ r
no_more true c r e = ap (λ b. b || r) e
no_more false c r e = refl

-- a table that another group has isn't the last one's
pub last_same : (test : Group → Bool) (gs : List Group) (g : Group) (u : TableId) → HasNoTableOf gs g → list_any (covers u) gs ≡ true → IsSameAt test gs (gs ++ g ∷ []) u
last_same test gs g u none there =
    let off : covers u g ≡ false = by (covers u g) refl in
    list_any-append (λ (h : Group). test h && covers u h) gs (g ∷ []) ∙ ap (λ b. is_table_of test gs u || b) (no_more (test g) (covers u g) false off) ∙ right_none (is_table_of test gs u)
  where
    by : (b : Bool) → covers u g ≡ b → covers u g ≡ false
    by false e = e
    by true e = absurd (never_both (list_any (covers u) gs) there (none u e))

pub covered : (test : Group → Bool) (gs : List Group) (u : TableId) → is_table_of test gs u ≡ true → list_any (covers u) gs ≡ true
covered test [] u e = e
covered test (g ∷ gs) u e = by (test g) (covers u g) (covered test gs u) e
  where
    by : (a c : Bool) → (is_table_of test gs u ≡ true → list_any (covers u) gs ≡ true) → ((a && c) || is_table_of test gs u) ≡ true → (c || list_any (covers u) gs) ≡ true
    by a true rest e = refl
    by true false rest e = rest e
    by false false rest e = rest e

-- ---- a group less

pub without_same : (test : Group → Bool) (before : List Group) (g : Group) (behind : List Group) (u : TableId) → covers u g ≡ false → IsSameAt test (before ++ g ∷ behind) (before ++ behind) u
without_same test [] g behind u off = sym (no_more (test g) (covers u g) (is_table_of test behind u) off)
without_same test (x ∷ before) g behind u off = ap (λ b. (test x && covers u x) || b) (without_same test before g behind u off)

any_middle : (p : Group → Bool) (before : List Group) (g : Group) (behind : List Group) → p g ≡ true → list_any p (before ++ g ∷ behind) ≡ true
any_middle p [] g behind e = ap (λ b. b || list_any p behind) e
any_middle p (x ∷ before) g behind e = by (p x) (any_middle p before g behind e)
  where
    by : (b : Bool) → list_any p (before ++ g ∷ behind) ≡ true → (b || list_any p (before ++ g ∷ behind)) ≡ true
    by true e = refl
    by false e = e

-- a group's table is that of no other
pub only_one : (test : Group → Bool) (before : List Group) (g : Group) (behind : List Group) (u : TableId) → HaveOwnTables (before ++ g ∷ behind) → covers u g ≡ true → is_table_of test (before ++ g ∷ behind) u ≡ test g
only_one test [] g behind u own here =
    let rest = none_of test behind u (own.0 u here) in
    (λ i. (test g && here i) || rest i) ∙ by (test g)
  where
    by : (b : Bool) → ((b && true) || false) ≡ b
    by true = refl
    by false = refl
only_one test (x ∷ before) g behind u own here =
    let off : covers u x ≡ false = by (covers u x) refl in
    no_more (test x) (covers u x) (is_table_of test (before ++ g ∷ behind) u) off ∙ only_one test before g behind u own.1 here
  where
    by : (b : Bool) → covers u x ≡ b → covers u x ≡ false
    by false e = e
    by true e = absurd (never_both (list_any (covers u) (before ++ g ∷ behind)) (any_middle (covers u) before g behind here) (own.0 u e))

-- a table of groups of another kind isn't this one's
pub not_its : (test : Group → Bool) (before : List Group) (g : Group) (behind : List Group) (u : TableId) → HaveOwnTables (before ++ g ∷ behind) → test g ≡ false → is_table_of test (before ++ g ∷ behind) u ≡ true → covers u g ≡ false
not_its test before g behind u own other there = by (covers u g) refl
  where
    by : (b : Bool) → covers u g ≡ b → covers u g ≡ false
    by false e = e
    by true e = absurd (never_both (is_table_of test (before ++ g ∷ behind) u) there (only_one test before g behind u own e ∙ other))

-- ---- kinds of groups

reads_wait_not : (g : Group) → is_writethrough g ≡ false → is_asynchronous g ≡ false
reads_wait_not g e = ap (λ b. b && not (is_synchronous g)) e

pub reads_not : (g : Group) → is_writethrough g ≡ false → (is_synchronous g ≡ false) × (is_asynchronous g ≡ false)
reads_not g e = (by g.def.kind e, reads_wait_not g e)
  where
    by : (k : GroupKind) → is_writethrough (record g { def = record g.def { kind = k } }) ≡ false → is_synchronous (record g { def = record g.def { kind = k } }) ≡ false
    by kind.ReadOnly e = refl
    by kind.AsynchronousWritethrough e = refl
    by kind.SynchronousWritethrough e = Prim.cc
    by kind.UserManaged e = refl

-- no foreign key joins tables of synchronous groups with others
pub kind_side : (gs : List Group) (schema : List TableDef) → AreClosed (live_groups_of gs) schema → IsSideOf (is_table_of is_synchronous gs) schema
kind_side [] schema closed t def foreign at key = refl
kind_side (g ∷ gs) schema closed t def foreign at key = by (is_writethrough g) refl closed (λ c. kind_side gs schema c t def foreign at key)
  where
    by : (b : Bool) → is_writethrough g ≡ b → AreClosed (map live_group (cond b (g ∷ filter is_writethrough gs) (filter is_writethrough gs))) schema
        → (AreClosed (live_groups_of gs) schema → is_table_of is_synchronous gs foreign.parent ≡ is_table_of is_synchronous gs t)
        → ((is_synchronous g && covers foreign.parent g) || is_table_of is_synchronous gs foreign.parent) ≡ ((is_synchronous g && covers t g) || is_table_of is_synchronous gs t)
    by true e c rest =
        let one = sym (in_tree g.def.tree foreign.parent) ∙ c.0 t def foreign at key ∙ in_tree g.def.tree t in
        let more = rest c.1 in
        λ i. (is_synchronous g && one i) || more i
    by false e c rest =
        let no = (reads_not g e).0 in
        let more = rest c in
        (λ i. (no i && covers foreign.parent g) || more i) ∙ sym (λ i. (no i && covers t g) || is_table_of is_synchronous gs t)

-- a front of the schema
pub front_side : (side : TableId → Bool) (schema more : List TableDef) → IsSideOf side (schema ++ more) → IsSideOf side schema
front_side side schema more closed t def foreign at key = closed t def foreign (get_front schema more t.0 def at) key

-- a table of a writethrough group that isn't a synchronous one's is an asynchronous one's
pub waits : (gs : List Group) (t : TableId) → is_table_of is_writethrough gs t ≡ true → is_table_of is_synchronous gs t ≡ false → is_table_of is_asynchronous gs t ≡ true
waits [] t on off = on
waits (g ∷ gs) t on off = one (is_writethrough g) (is_synchronous g) (covers t g) (is_table_of is_writethrough gs t) (is_table_of is_synchronous gs t) (is_table_of is_asynchronous gs t) on off (waits gs t)
  where
    one : (a s c r m n : Bool) → ((a && c) || r) ≡ true → ((s && c) || m) ≡ false → (r ≡ true → m ≡ false → n ≡ true) → (((a && not s) && c) || n) ≡ true
    one true true true r m n on off rest = Prim.cc
    one true true false r m n on off rest = rest on off
    one true false true r m n on off rest = refl
    one true false false r m n on off rest = rest on off
    one false true true r m n on off rest = Prim.cc
    one false true false r m n on off rest = rest on off
    one false false c r m n on off rest = rest on off

pub all_wait : (gs : List Group) (ops : List Op) → are_written_through gs ops ≡ true → list_any (λ op. is_table_of is_synchronous gs (table_of op)) ops ≡ false → are_on_kind is_asynchronous gs ops ≡ true
all_wait gs [] on off = refl
all_wait gs (op ∷ ops) on off =
    let both = both_true (is_table_of is_writethrough gs (table_of op)) (are_written_through gs ops) on in
    let (first, rest) = neither (is_table_of is_synchronous gs (table_of op)) (list_any (λ op. is_table_of is_synchronous gs (table_of op)) ops) off in
    let one = waits gs (table_of op) both.0 first in
    let more = all_wait gs ops both.1 rest in
    λ i. one i && more i
