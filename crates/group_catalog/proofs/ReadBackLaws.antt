-- What a definition that is read back doesn't break.
use Rattle.std.proofs.Common.{◌≡◌, ◌∙◌, List, [], ◌∷◌, Option, Some, None, Bool, true, false, ◌&&◌, ◌||◌, not, is_some, is_none, ap, refl, sym, length}
use Rattle.std.specs.List.{list_all, list_any}
use Rattle.std.specs.Option.{option_or, option_and_then}
use Rattle.tier_base.specs.declared.code.Code.TheVariants as code
use Rattle.tier_base.specs.declared.limit.Limit.TheVariants as limit
use Rattle.row_types.specs.declared.rule.Letter.TheVariants as letter
use Rattle.table_defs.specs.declared.definition.ForeignKey.{ForeignKey}
use Rattle.table_defs.specs.declared.definition.TableDef.{TableDef}
use Rattle.instances.specs.declared.tree.Child.{Child}
use Rattle.instances.specs.declared.tree.Tree.{Tree}
use Rattle.sql_subset.specs.declared.stmt.CreateGroup.{CreateGroup}
use Rattle.sql_subset.specs.declared.stmt.GroupKind.{GroupKind}
use Rattle.sql_subset.specs.declared.stmt.GroupKind.TheVariants as kind
use Rattle.cache_tier.specs.declared.group.GroupDef.{GroupDef}
use Rattle.cache_tier.specs.Definitions.{IsTreeOf, Placed, clauses_fault, column_fault, first_fault, first_unknown, table_names, defined_by, definition_names, definition_types, has_filter, is_read_only_kind, new_group, placed_tables, tables_fault}
use Rattle.cache_tier.specs.Groups.{Group, defines_name, definitions_of, is_defined_on, is_read_only, is_writethrough}
use Rattle.cache_tier.specs.Rules.{at_limit, broken_if, lettered, named, plain}
use Rattle.cache_tier.specs.StandingBetween.{HasNoTableOf, foreign_key_in, has_no_where}
use Rattle.group_catalog.specs.ReadBack.{StandsReadBack, broken_beside, has_own_parent, root_refers}
use Rattle.group_catalog.specs.Sound.{AreUnfiltered, IsUnfiltered}
use Rattle.group_catalog.proofs.AcceptedLaws.{asked, no_d, no_f, with_f}
use Rattle.group_catalog.proofs.SoundLaws.{StandAt, all_stand, not_grouped, or_none, place_one, tree_inside, tree_unfiltered, unbroken}

-- names, 114 of the tables, and of the clauses beside no other table
no_letters : (schema : List TableDef) (groups : List GroupDef) (d : CreateGroup) → broken_beside [] schema groups false d ≡ None
    → (definition_names schema groups d ≡ None) × (tables_fault schema groups (placed_tables schema d) ≡ None)
    × (clauses_fault [] d (placed_tables schema d) ≡ None)
no_letters schema groups d e =
    let ps = placed_tables schema d in
    let letters = option_or (tables_fault schema groups ps) (clauses_fault [] d ps) in
    let count = at_limit limit.Groups (length groups) in
    let rest = option_or (definition_types schema d) (option_or letters count) in
    let one = or_none (definition_names schema groups d) (option_or (broken_if false (plain code.TransactionOpen)) rest) e in
    let two = or_none (broken_if false (plain code.TransactionOpen)) rest one.1 in
    let three = or_none (definition_types schema d) (option_or letters count) two.1 in
    let four = or_none (tables_fault schema groups ps) (clauses_fault [] d ps) (or_none letters count three.1).0 in
    (one.0, four.0, four.1)

read_only_is : (g : Group) → is_read_only g ≡ is_read_only_kind g.def.kind
read_only_is g = by g.def.kind
  where
    by : (k : GroupKind) → is_read_only (record g { def = record (g.def) { kind = k } }) ≡ is_read_only_kind k
    by kind.ReadOnly = refl
    by kind.AsynchronousWritethrough = refl
    by kind.SynchronousWritethrough = refl
    by kind.UserManaged = refl

-- no group has the name
new_name : (schema : List TableDef) (groups : List GroupDef) (d : CreateGroup) → definition_names schema groups d ≡ None
    → list_any (defines_name d.name) groups ≡ false
new_name schema groups d e =
    let taken = broken_if (list_any (defines_name d.name) groups) (named code.NameInUse d.name) in
    let columns = first_fault column_fault (placed_tables schema d) in
    let one = or_none (first_unknown schema (table_names d)) (option_or columns taken) e in
    unbroken (list_any (defines_name d.name) groups) (named code.NameInUse d.name) (or_none columns taken one.1).1

not_false : (b : Bool) → not b ≡ true → b ≡ false
not_false true e = cc
not_false false e = refl

unfiltered : (tree : Tree) → IsUnfiltered tree → has_no_where tree ≡ true
unfiltered tree un = (λ i. is_none (un.0 i) && all tree.children un.1 i)
  where
    all : (children : List Child) → AreUnfiltered children → list_all (λ (c : Child). is_none c.filter) children ≡ true
    all [] none = refl
    all (c ∷ children) none = λ i. is_none (none.0 i) && all children none.1 i

no_key : (o : Option ForeignKey) → is_some o ≡ false → o ≡ None
no_key None e = refl
no_key (Some f) e = cc

root_free : (schema : List TableDef) (ps : List Placed) (tree : Tree) → root_refers ps ≡ false → StandAt schema ps → IsTreeOf ps tree
    → foreign_key_in schema tree.root.table ≡ None
root_free schema [] tree e at is = absurd is
root_free schema (p ∷ ps) tree e at is =
    ap (λ t. foreign_key_in schema t) is.0.table
    ∙ ap (λ (o : Option TableDef). option_and_then (λ def. def.foreign_key) o) at.0 ∙ no_key p.def.foreign_key e

any_defs : (p : GroupDef → Bool) (groups : List Group) → list_any p (definitions_of groups) ≡ list_any (λ g. p g.def) groups
any_defs p [] = refl
any_defs p (g ∷ groups) = ap (λ b. p g.def || b) (any_defs p groups)

pub stands_read_back : StandsReadBack
stands_read_back schema groups d tree a first now = record {
  sound = record { sound = a.formed; plain = plain; free = free };
  apart = apart;
  named = new_name schema (definitions_of groups) d letters.0;
}
  where
    ps : List Placed
    ps = placed_tables schema d

    g : Group
    g = new_group first now d (defined_by schema d tree)

    two : (broken_beside [] schema (definitions_of groups) false d ≡ None) × (broken_if (has_own_parent schema d) (lettered letter.J) ≡ None)
    two = or_none (broken_beside [] schema (definitions_of groups) false d) (broken_if (has_own_parent schema d) (lettered letter.J)) a.unbroken

    letters : (definition_names schema (definitions_of groups) d ≡ None) × (tables_fault schema (definitions_of groups) ps ≡ None)
        × (clauses_fault [] d ps ≡ None)
    letters = no_letters schema (definitions_of groups) d two.0

    through : is_writethrough g ≡ true → is_read_only_kind d.kind ≡ false
    through e = sym (read_only_is g) ∙ not_false (is_read_only g) e

    plain : is_writethrough g ≡ true → has_no_where tree ≡ true
    plain e =
        let f : with_f d ps ≡ false = no_f [] d ps letters.2 in
        unfiltered tree (tree_unfiltered ps tree (asked (is_read_only_kind d.kind) (list_any has_filter ps) (through e) f) a.is)

    free : is_writethrough g ≡ true → foreign_key_in schema tree.root.table ≡ None
    free e =
        let f : has_own_parent schema d ≡ false = unbroken (has_own_parent schema d) (lettered letter.J) two.1 in
        root_free schema ps tree (asked (is_read_only_kind d.kind) (root_refers ps) (through e) f) (all_stand schema [] d.tables) a.is

    apart : HasNoTableOf groups g
    apart t there =
        sym (any_defs (is_defined_on t) groups)
        ∙ not_grouped (definitions_of groups) ps t (no_d schema (definitions_of groups) ps letters.1)
        (tree_inside ps tree t a.is ∙ sym (place_one tree t) ∙ there)
