-- The fold of a journal's entries: what the tier has and what the laws of recovery see stay together.
use Rattle.std.proofs.Common.{◌≡◌, ℕ, ◌+◌, ◌≤◌, Bool, true, false, cond, not, ◌||◌, max, None, List, [], ◌∷◌, ◌++◌, map, refl, sym, ap, subst, ◌∙◌, arith, Option, Some}
use Rattle.std.specs.Prelude.{fold}
use Rattle.std.specs.List.{filter, list_any}
use Rattle.std.proofs.Math.Nat.{le-max_left, le-max_right, max-eq_left, max-eq_right, max-le, max_comm}
use Rattle.std.proofs.lemmas.List.Folds.{list_any-append}
use Rattle.std.proofs.lemmas.Cmp.{nat_list_eq_equiv}
use Rattle.tier_base.specs.declared.number.TableId.{TableId}
use Rattle.table_defs.specs.declared.definition.TableDef.{TableDef}
use Rattle.table_state.specs.declared.history.Entry.{Entry}
use Rattle.table_state.specs.declared.history.Sealed.{Sealed}
use Rattle.instances.specs.declared.tree.Child.{Child}
use Rattle.instances.specs.declared.tree.Tree.{Tree}
use Rattle.sql_subset.specs.declared.stmt.CreateGroup.{CreateGroup}
use Rattle.sql_subset.specs.declared.stmt.GroupKind.{GroupKind}
use Rattle.sql_subset.specs.declared.stmt.GroupKind.TheVariants.{ReadOnly, AsynchronousWritethrough, SynchronousWritethrough, UserManaged}
use Rattle.sql_subset.specs.declared.stmt.RefreshState.{RefreshState}
use Rattle.recovery_laws.specs.Notes.{Catalog, FitAll, Fits, mark_of, recall, recall_all, told, without}
use Rattle.cache_tier.specs.AlterSteps.{with_state}
use Rattle.cache_tier.specs.Commits.{tables_of}
use Rattle.cache_tier.specs.Definitions.{AreChildrenOf, IsTreeOf, Placed, column_fault, definition_names, first_fault, first_unknown, is_read_only_kind, placed_tables, table_names}
use Rattle.cache_tier.specs.Rules.{broken_if, named}
use Rattle.cache_tier.specs.declared.group.GroupDef.{GroupDef}
use Rattle.row_types.specs.declared.rule.Rule.{Rule}
use Rattle.std.specs.Option.{option_or}
use Rattle.tier_base.specs.declared.code.Code.TheVariants as code
use Rattle.cache_tier.specs.Groups.{Group, covers, defines_name, definitions_of, is_called, is_read_only}
use Rattle.cache_tier.specs.Journals.{Commits, Defines, Drops, JournalEntry, Marks, Numbers, Prepares, SetsLoaded, SetsState, next_with}
use Rattle.cache_tier.specs.StandingBetween.{Each, HasNoTableOf, HaveOwnTables, IsCatalogued}
use Rattle.cache_tier.specs.TierStates.{Tier}
use Rattle.cache_tier.proofs.GroupTables.{each_changed, each_last, each_left}
use Rattle.order_laws.proofs.TruthLaws.{never_both, not_both}
use Rattle.recovery.specs.Recalling.{IsDefined, Recalls, RecallsAll, group_of, note_of, notes_of, with_loaded, written_tables}
use Rattle.recovery.proofs.NewestLaws.{NamesApart, newest, newest_last, newest_same, newest_without, pair, plain, plain_flag, plain_without, skip}

-- the group shows nothing yet
abbrev pub IsFresh : Group → Type 0
IsFresh g = (g.keys ≡ []) × (g.position ≡ None)

-- ---- some groups leave

pub any_filter : (p q : Group → Bool) (gs : List Group) → list_any p gs ≡ false → list_any p (filter q gs) ≡ false
any_filter p q [] none = refl
any_filter p q (g ∷ gs) none = by (p g) refl none (q g) (any_filter p q gs)
  where
    by : (b : Bool) → p g ≡ b → (b || list_any p gs) ≡ false → (c : Bool) → (list_any p gs ≡ false → list_any p (filter q gs) ≡ false) → list_any p (cond c (g ∷ filter q gs) (filter q gs)) ≡ false
    by true e none c rest = Prim.cc
    by false e none true rest = (λ i. e i || list_any p (filter q gs)) ∙ rest none
    by false e none false rest = rest none

own_filter : (q : Group → Bool) (gs : List Group) → HaveOwnTables gs → HaveOwnTables (filter q gs)
own_filter q [] own = tt
own_filter q (g ∷ gs) own = by (q g) (own_filter q gs own.1)
  where
    by : (b : Bool) → HaveOwnTables (filter q gs) → HaveOwnTables (cond b (g ∷ filter q gs) (filter q gs))
    by true rest = (λ u e. any_filter (covers u) q gs (own.0 u e), rest)
    by false rest = rest

names_filter : (q : Group → Bool) (gs : List Group) → NamesApart gs → NamesApart (filter q gs)
names_filter q [] apart = tt
names_filter q (g ∷ gs) apart = by (q g) (names_filter q gs apart.1)
  where
    by : (b : Bool) → NamesApart (filter q gs) → NamesApart (cond b (g ∷ filter q gs) (filter q gs))
    by true rest = (any_filter (is_called g.def.name) q gs apart.0, rest)
    by false rest = rest

-- ---- some groups change, but not in what is defined

record IsSteady (schema : List TableDef) (change : Group → Group) : Type 0 where
  def : (g : Group) → (change g).def ≡ g.def
  seen : (g : Group) → pair (change g) ≡ pair g
  catalogued : (g : Group) → IsCatalogued schema g → IsCatalogued schema (change g)
  fresh : (g : Group) → IsFresh g → IsFresh (change g)

steady_state : (schema : List TableDef) (state : RefreshState) → IsSteady schema (with_state state)
steady_state schema state = record {
  def = λ g. refl;
  seen = λ g. refl;
  catalogued = λ g x. record { sound = x.sound; plain = x.plain; free = x.free };
  fresh = λ g x. x;
}

steady_loaded : (schema : List TableDef) (flag : Bool) → IsSteady schema (with_loaded flag)
steady_loaded schema flag = record {
  def = λ g. refl;
  seen = λ g. refl;
  catalogued = λ g x. record { sound = x.sound; plain = x.plain; free = x.free };
  fresh = λ g x. x;
}

steady_where : (schema : List TableDef) (change : Group → Group) (test : Group → Bool) → IsSteady schema change → IsSteady schema (λ g. cond (test g) (change g) g)
steady_where schema change test steady = record {
  def = λ g. def g (test g);
  seen = λ g. seen g (test g);
  catalogued = λ g x. catalogued g x (test g);
  fresh = λ g x. fresh g x (test g);
}
  where
    def : (g : Group) (b : Bool) → (cond b (change g) g).def ≡ g.def
    def g true = steady.def g
    def g false = refl

    seen : (g : Group) (b : Bool) → pair (cond b (change g) g) ≡ pair g
    seen g true = steady.seen g
    seen g false = refl

    catalogued : (g : Group) → IsCatalogued schema g → (b : Bool) → IsCatalogued schema (cond b (change g) g)
    catalogued g x true = steady.catalogued g x
    catalogued g x false = x

    fresh : (g : Group) → IsFresh g → (b : Bool) → IsFresh (cond b (change g) g)
    fresh g x true = steady.fresh g x
    fresh g x false = x

any_covers : (schema : List TableDef) (change : Group → Group) → IsSteady schema change → (u : TableId) (gs : List Group) → list_any (covers u) (map change gs) ≡ list_any (covers u) gs
any_covers schema change steady u [] = refl
any_covers schema change steady u (g ∷ gs) = λ i. Rattle.cache_tier.specs.Groups.is_defined_on u (steady.def g i) || any_covers schema change steady u gs i

any_called : (schema : List TableDef) (change : Group → Group) → IsSteady schema change → (name : List ℕ) (gs : List Group) → list_any (is_called name) (map change gs) ≡ list_any (is_called name) gs
any_called schema change steady name [] = refl
any_called schema change steady name (g ∷ gs) = λ i. defines_name name (steady.def g i) || any_called schema change steady name gs i

own_map : (schema : List TableDef) (change : Group → Group) → IsSteady schema change → (gs : List Group) → HaveOwnTables gs → HaveOwnTables (map change gs)
own_map schema change steady [] own = tt
own_map schema change steady (g ∷ gs) own = (
  λ u e. any_covers schema change steady u gs ∙ own.0 u (sym (ap (Rattle.cache_tier.specs.Groups.is_defined_on u) (steady.def g)) ∙ e),
  own_map schema change steady gs own.1,
)

names_map : (schema : List TableDef) (change : Group → Group) → IsSteady schema change → (gs : List Group) → NamesApart gs → NamesApart (map change gs)
names_map schema change steady [] apart = tt
names_map schema change steady (g ∷ gs) apart = (
  ap (λ (d : GroupDef). list_any (is_called d.name) (map change gs)) (steady.def g) ∙ any_called schema change steady g.def.name gs ∙ apart.0,
  names_map schema change steady gs apart.1,
)

-- ---- a group comes

own_last : (gs : List Group) (g : Group) → HaveOwnTables gs → HasNoTableOf gs g → HaveOwnTables (gs ++ g ∷ [])
own_last [] g own apart = (λ u e. refl, tt)
own_last (h ∷ gs) g own apart = (λ u e. list_any-append (covers u) gs (g ∷ []) ∙ (λ i. own.0 u e i || (not_new u e i || false)), own_last gs g own.1 rest)
  where
    not_new : (u : TableId) → covers u h ≡ true → covers u g ≡ false
    not_new u e = not_both (covers u g) (λ c. never_both (covers u h || list_any (covers u) gs) (ap (λ b. b || list_any (covers u) gs) e) (apart u c))

    rest : HasNoTableOf gs g
    rest u c = right (covers u h) (list_any (covers u) gs) (apart u c)
      where
        right : (a b : Bool) → (a || b) ≡ false → b ≡ false
        right true b e = Prim.cc
        right false b e = e

none_defined : (name : List ℕ) (gs : List Group) → list_any (defines_name name) (definitions_of gs) ≡ false → list_any (is_called name) gs ≡ false
none_defined name [] none = refl
none_defined name (g ∷ gs) none = by (defines_name name g.def) refl none (none_defined name gs)
  where
    by : (b : Bool) → defines_name name g.def ≡ b → (b || list_any (defines_name name) (definitions_of gs)) ≡ false → (list_any (defines_name name) (definitions_of gs) ≡ false → list_any (is_called name) gs ≡ false) → (defines_name name g.def || list_any (is_called name) gs) ≡ false
    by true e none rest = Prim.cc
    by false e none rest = (λ i. e i || list_any (is_called name) gs) ∙ rest none

names_last : (gs : List Group) (g : Group) → NamesApart gs → list_any (is_called g.def.name) gs ≡ false → NamesApart (gs ++ g ∷ [])
names_last [] g apart none = (refl, tt)
names_last (h ∷ gs) g apart none = by (is_called g.def.name h) refl none (names_last gs g apart.1)
  where
    by : (b : Bool) → is_called g.def.name h ≡ b → (b || list_any (is_called g.def.name) gs) ≡ false → (list_any (is_called g.def.name) gs ≡ false → NamesApart (gs ++ g ∷ [])) → NamesApart ((h ∷ gs) ++ g ∷ [])
    by true e none rest = Prim.cc
    by false e none rest = (
      list_any-append (is_called h.def.name) gs (g ∷ []) ∙ (λ i. apart.0 i || ((nat_list_eq_equiv.symm g.def.name h.def.name ∙ e) i || false)),
      rest none,
    )

-- a definition that breaks no rule of names has a name of its own
is_unnamed : (schema : List TableDef) (defs : List GroupDef) (d : CreateGroup) → definition_names schema defs d ≡ None → list_any (defines_name d.name) defs ≡ false
is_unnamed schema defs d none = of (first_unknown schema (table_names d)) (first_fault column_fault (placed_tables schema d)) (list_any (defines_name d.name) defs) none
  where
    of : (a b : Option Rule) (c : Bool) → option_or a (option_or b (broken_if c (named code.NameInUse d.name))) ≡ None → c ≡ false
    of None None true none = Prim.cc
    of None None false none = refl
    of None (Some r) c none = Prim.cc
    of (Some r) b c none = Prim.cc

-- a definition's tables are those of its tree
children_placed : (ps : List Placed) (children : List Child) → AreChildrenOf ps children → map (λ (p : Placed). p.id) ps ≡ map (λ (c : Child). c.table) children
children_placed [] [] are = refl
children_placed (p ∷ ps) (c ∷ children) are = λ i. sym are.0.table i ∷ children_placed ps children are.1 i
children_placed [] (c ∷ children) are = absurd are
children_placed (p ∷ ps) [] are = absurd are

tables_placed : (ps : List Placed) (tree : Tree) → IsTreeOf ps tree → map (λ (p : Placed). p.id) ps ≡ tables_of tree
tables_placed [] tree is = absurd is
tables_placed (p ∷ ps) tree is = λ i. sym is.0.table i ∷ children_placed ps tree.children is.1 i

kind_seen : (g : Group) (k : GroupKind) → g.def.kind ≡ k → is_read_only g ≡ is_read_only_kind k
kind_seen g ReadOnly e = ap (λ (k : GroupKind). is_read_only (record g { def = record (g.def) { kind = k } })) e
kind_seen g AsynchronousWritethrough e = ap (λ (k : GroupKind). is_read_only (record g { def = record (g.def) { kind = k } })) e
kind_seen g SynchronousWritethrough e = ap (λ (k : GroupKind). is_read_only (record g { def = record (g.def) { kind = k } })) e
kind_seen g UserManaged e = ap (λ (k : GroupKind). is_read_only (record g { def = record (g.def) { kind = k } })) e

pub written : (t : Tier) (d : CreateGroup) (tree : Tree) → IsTreeOf (placed_tables t.schema d) tree → written_tables t.schema d ≡ cond (is_read_only (group_of t d tree)) [] (tables_of tree)
written t d tree is = λ i. cond (sym (kind_seen (group_of t d tree) d.kind refl) i) [] (tables_placed (placed_tables t.schema d) tree is i)

-- ---- the fold

-- the tier as the entries so far leave it, and the catalog that the laws of recovery see
pub record IsFolded (schema : List TableDef) (t : Tier) (c : Catalog) : Type 0 where
  pub schema_is : t.schema ≡ schema
  pub idle : t.sessions ≡ []
  pub pairs : plain c.groups ≡ newest t.groups
  pub next : t.next ≡ c.next
  pub each : Each (IsCatalogued schema) t.groups
  pub apart : HaveOwnTables t.groups
  pub fresh : Each IsFresh t.groups
  pub names : NamesApart t.groups

ticketed : (schema : List TableDef) (t : Tier) (c : Catalog) (ticket : ℕ) → IsFolded schema t c → c.next ≤ ticket → IsFolded schema (record t { next = max t.next (ticket + 1) }) (record { groups = c.groups; next = ticket + 1 })
ticketed schema t c ticket f above = record {
  schema_is = f.schema_is;
  idle = f.idle;
  pairs = f.pairs;
  next = ap (λ n. max n (ticket + 1)) f.next ∙ max-eq_right (omega (arith, above));
  each = f.each;
  apart = f.apart;
  fresh = f.fresh;
  names = f.names;
}

changed : (schema : List TableDef) (t : Tier) (c : Catalog) (name : List ℕ) (change : Group → Group) (flag : ℕ) → IsSteady schema change → IsFolded schema t c
    → IsFolded schema (Rattle.cache_tier.specs.TierStates.with_group name change t) (record { groups = Rattle.recovery_laws.specs.Notes.with_flag name flag c.groups; next = c.next })
changed schema t c name change flag steady f = record {
  schema_is = f.schema_is;
  idle = f.idle;
  pairs = plain_flag name flag c.groups ∙ f.pairs ∙ sym (newest_same turned so.seen t.groups);
  next = f.next;
  each = each_changed (IsCatalogued schema) (IsCatalogued schema) turned so.catalogued t.groups f.each;
  apart = own_map schema turned so t.groups f.apart;
  fresh = each_changed IsFresh IsFresh turned so.fresh t.groups f.fresh;
  names = names_map schema turned so t.groups f.names;
}
  where
    turned : Group → Group
    turned g = cond (is_called name g) (change g) g

    so : IsSteady schema turned
    so = steady_where schema change (is_called name) steady

defined : (schema : List TableDef) (t t' : Tier) (c : Catalog) (d : CreateGroup) → IsFolded schema t c → IsDefined d t t' → IsFolded schema t' (record { groups = Rattle.recovery_laws.specs.Notes.named_new d.name (written_tables schema d) c.next ∷ c.groups; next = c.next })
defined schema t t' c d f is = subst (λ x. IsFolded schema x after) (sym is.left) (record {
  schema_is = f.schema_is;
  idle = f.idle;
  pairs = (λ i. (d.name, record { tables = tables i; first = sym f.next i }) ∷ f.pairs i) ∙ sym (newest_last t.groups g);
  next = f.next;
  each = each_last (IsCatalogued schema) t.groups g f.each (subst (λ s. IsCatalogued s g) f.schema_is is.sound);
  apart = own_last t.groups g f.apart is.apart;
  fresh = each_last IsFresh t.groups g f.fresh (refl, refl);
  names = names_last t.groups g f.names (none_defined d.name t.groups (is_unnamed t.schema (definitions_of t.groups) d is.names));
})
  where
    g : Group
    g = group_of t d is.tree

    after : Catalog
    after = record { groups = Rattle.recovery_laws.specs.Notes.named_new d.name (written_tables schema d) c.next ∷ c.groups; next = c.next }

    tables : written_tables schema d ≡ cond (is_read_only g) [] (tables_of is.tree)
    tables = ap (λ s. written_tables s d) (sym f.schema_is) ∙ written t d is.tree is.is

dropped : (schema : List TableDef) (t : Tier) (c : Catalog) (name : List ℕ) → IsFolded schema t c → IsFolded schema (Rattle.cache_tier.specs.DropSteps.without_group name t) (record { groups = without name c.groups; next = c.next })
dropped schema t c name f = record {
  schema_is = f.schema_is;
  idle = f.idle;
  pairs = plain_without name c.groups ∙ ap (skip name) f.pairs ∙ newest_without name t.groups f.names;
  next = f.next;
  each = each_left (IsCatalogued schema) stays t.groups f.each;
  apart = own_filter stays t.groups f.apart;
  fresh = each_left IsFresh stays t.groups f.fresh;
  names = names_filter stays t.groups f.names;
}
  where
    stays : Group → Bool
    stays g = not (is_called name g)

step : (schema : List TableDef) (h : List Entry) (log : List Sealed) (e : JournalEntry) (t t' : Tier) (c : Catalog) → IsFolded schema t c → Fits h c log (note_of schema e) → Recalls e t t' → IsFolded schema t' (recall (note_of schema e) c)
step schema h log (Commits s) t t' c f fits is = subst (λ x. IsFolded schema x (record { groups = c.groups; next = s.ticket.0 + 1 })) (sym is) (ticketed schema t c s.ticket.0 f fits.0)
step schema h log (Prepares s) t t' c f fits is = subst (λ x. IsFolded schema x (record { groups = c.groups; next = s.ticket.0 + 1 })) (sym is) (ticketed schema t c s.ticket.0 f fits.0)
step schema h log (Numbers n) t t' c f fits is = subst (λ x. IsFolded schema x (record { groups = c.groups; next = n + 1 })) (sym is) (ticketed schema t c n f fits)
step schema h log (Marks n) t t' c f fits is = subst (λ x. IsFolded schema x c) (sym is) f
step schema h log (Defines d text) t t' c f fits is = defined schema t t' c d f is
step schema h log (Drops name) t t' c f fits is = subst (λ x. IsFolded schema x (record { groups = without name c.groups; next = c.next })) (sym is) (dropped schema t c name f)
step schema h log (SetsState name state) t t' c f fits is =
    subst (λ x. IsFolded schema x (recall (note_of schema (SetsState name state)) c)) (sym is) (changed schema t c name (with_state state) (Rattle.recovery.specs.Recalling.state_number state) (steady_state schema state) f)
step schema h log (SetsLoaded name flag) t t' c f fits is =
    subst (λ x. IsFolded schema x (recall (note_of schema (SetsLoaded name flag)) c)) (sym is) (changed schema t c name (with_loaded flag) (cond flag 4 0) (steady_loaded schema flag) f)

pub folds : (schema : List TableDef) (h : List Entry) (log : List Sealed) (entries : List JournalEntry) (t t' : Tier) (c : Catalog) → IsFolded schema t c → FitAll h c log (notes_of schema entries) → RecallsAll entries t t' → IsFolded schema t' (recall_all (notes_of schema entries) c)
folds schema h log [] t t' c f fits is = subst (λ x. IsFolded schema x c) (sym is) f
folds schema h log (e ∷ entries) t t' c f fits (mid, first, rest) =
    folds schema h (log ++ told h (note_of schema e)) entries mid t' (recall (note_of schema e) c) (step schema h log e t mid c f fits.0 first) fits.1 rest

-- ---- the next ticket

max_assoc : (a b c : ℕ) → max (max a b) c ≡ max a (max b c)
max_assoc a b c =
    let bc_b : b ≤ max b c = le-max_left b c in
    let bc_c : c ≤ max b c = le-max_right b c in
    let ab_a : a ≤ max a b = le-max_left a b in
    let ab_b : b ≤ max a b = le-max_right a b in
    let left_ab : max a b ≤ max (max a b) c = le-max_left (max a b) c in
    let left_c : c ≤ max (max a b) c = le-max_right (max a b) c in
    let right_a : a ≤ max a (max b c) = le-max_left a (max b c) in
    let right_bc : max b c ≤ max a (max b c) = le-max_right a (max b c) in
    let up : max (max a b) c ≤ max a (max b c) = max-le (max-le right_a (omega (arith, bc_b, right_bc))) (omega (arith, bc_c, right_bc)) in
    let down : max a (max b c) ≤ max (max a b) c = max-le (omega (arith, ab_a, left_ab)) (max-le (omega (arith, ab_b, left_ab)) left_c) in
    omega (arith, up, down)

-- a ticket more, which is above all before
above : (n m next ticket : ℕ) → n ≡ max m next → next ≤ ticket → max n (ticket + 1) ≡ max m (ticket + 1)
above n m next ticket is le = ap (λ k. max k (ticket + 1)) is ∙ max_assoc m next (ticket + 1) ∙ ap (max m) (max-eq_right {n = next} {m = ticket + 1} (omega (arith, le)))

-- a mark more
marked : (n m next mark : ℕ) → n ≡ max m next → max n mark ≡ max (max m mark) next
marked n m next mark is = ap (λ k. max k mark) is ∙ max_assoc m next mark ∙ ap (max m) (max_comm next mark) ∙ sym (max_assoc m mark next)

pub behind : (schema : List TableDef) (h : List Entry) (log : List Sealed) (entries : List JournalEntry) (n m : ℕ) (c : Catalog) → n ≡ max m c.next → FitAll h c log (notes_of schema entries)
    → fold next_with n entries ≡ max (max m (mark_of (notes_of schema entries))) (recall_all (notes_of schema entries) c).next
behind schema h log [] n m c is fits = is ∙ ap (λ k. max k c.next) (sym (max_zero m))
  where
    max_zero : (k : ℕ) → max k 0 ≡ k
    max_zero k = max-eq_left {n = k} {m = 0} (omega arith)
behind schema h log (Commits s ∷ entries) n m c is fits = behind schema h (log ++ told h (note_of schema (Commits s))) entries (max n (s.ticket.0 + 1)) m (recall (note_of schema (Commits s)) c) (above n m c.next s.ticket.0 is fits.0.0) fits.1
behind schema h log (Prepares s ∷ entries) n m c is fits = behind schema h (log ++ told h (note_of schema (Prepares s))) entries (max n (s.ticket.0 + 1)) m (recall (note_of schema (Prepares s)) c) (above n m c.next s.ticket.0 is fits.0.0) fits.1
behind schema h log (Numbers t ∷ entries) n m c is fits = behind schema h (log ++ told h (note_of schema (Numbers t))) entries (max n (t + 1)) m (recall (note_of schema (Numbers t)) c) (above n m c.next t is fits.0) fits.1
behind schema h log (Marks k ∷ entries) n m c is fits =
    behind schema h (log ++ told h (note_of schema (Marks k))) entries (max n k) (max m k) c (marked n m c.next k is) fits.1
    ∙ ap (λ j. max j (recall_all (notes_of schema entries) c).next) (max_assoc m k (mark_of (notes_of schema entries)))
behind schema h log (Defines d text ∷ entries) n m c is fits = behind schema h (log ++ told h (note_of schema (Defines d text))) entries n m (recall (note_of schema (Defines d text)) c) is fits.1
behind schema h log (Drops name ∷ entries) n m c is fits = behind schema h (log ++ told h (note_of schema (Drops name))) entries n m (recall (note_of schema (Drops name)) c) is fits.1
behind schema h log (SetsState name state ∷ entries) n m c is fits = behind schema h (log ++ told h (note_of schema (SetsState name state))) entries n m (recall (note_of schema (SetsState name state)) c) is fits.1
behind schema h log (SetsLoaded name flag ∷ entries) n m c is fits = behind schema h (log ++ told h (note_of schema (SetsLoaded name flag))) entries n m (recall (note_of schema (SetsLoaded name flag)) c) is fits.1
