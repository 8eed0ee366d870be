-- What an accepted definition doesn't break.
use Rattle.std.proofs.Common.{◌≡◌, ◌∙◌, List, [], Option, None, Bool, true, false, ◌&&◌, ◌||◌, not, is_some, length, sym}
use Rattle.std.specs.List.{list_any}
use Rattle.std.specs.Option.{option_or}
use Rattle.tier_base.specs.declared.code.Code.TheVariants as code
use Rattle.tier_base.specs.declared.limit.Limit.TheVariants as limit
use Rattle.row_types.specs.declared.rule.Letter.TheVariants as letter
use Rattle.row_types.specs.declared.rule.Rule.{Rule}
use Rattle.table_defs.specs.declared.definition.TableDef.{TableDef}
use Rattle.sql_subset.specs.declared.stmt.CreateGroup.{CreateGroup}
use Rattle.cache_tier.specs.declared.group.GroupDef.{GroupDef}
use Rattle.cache_tier.specs.Definitions.{Placed, clauses_fault, definition_broken, definition_fault, definition_names, definition_types, differs_from_backing, has_filter, has_foreign_parent, has_other_key, has_use_aging, has_wrong_aging, has_wrong_interval, has_wrong_times, is_apart, is_grouped, is_joined_outside, is_read_only_kind, letter_fault, placed_tables, tables_fault}
use Rattle.cache_tier.specs.Rules.{at_limit, broken_if, lettered, plain}
use Rattle.group_catalog.specs.Sound.{HasNewTables, StandsApart, WritesAll}
use Rattle.group_catalog.proofs.SoundLaws.{all_stand, not_grouped, or_none, place_one, tree_closed, tree_inside, tree_unfiltered, unbroken}

pub no_letters : (schema : List TableDef) (groups : List GroupDef) (w : Bool) (d : CreateGroup) → definition_broken schema groups w d ≡ None
    → letter_fault schema groups d (placed_tables schema d) ≡ None
no_letters schema groups w d e =
    let open_writes = broken_if w (plain code.TransactionOpen) in
    let rest = option_or (definition_types schema d) (definition_fault schema groups d) in
    let one = or_none (definition_names schema groups d) (option_or open_writes rest) e in
    let two = or_none open_writes rest one.1 in
    let three = or_none (definition_types schema d) (definition_fault schema groups d) two.1 in
    (or_none (letter_fault schema groups d (placed_tables schema d)) (at_limit limit.Groups (length groups)) three.1).0

pub no_table : (schema : List TableDef) (groups : List GroupDef) (w : Bool) (d : CreateGroup) → definition_broken schema groups w d ≡ None
    → tables_fault schema groups (placed_tables schema d) ≡ None
no_table schema groups w d e =
    (or_none (tables_fault schema groups (placed_tables schema d)) (clauses_fault schema d (placed_tables schema d)) (no_letters schema groups w d e)).0

pub no_clause : (schema : List TableDef) (groups : List GroupDef) (w : Bool) (d : CreateGroup) → definition_broken schema groups w d ≡ None
    → clauses_fault schema d (placed_tables schema d) ≡ None
no_clause schema groups w d e =
    (or_none (tables_fault schema groups (placed_tables schema d)) (clauses_fault schema d (placed_tables schema d)) (no_letters schema groups w d e)).1

-- of six the first and the fifth, of five the fourth
first_of : (a b c d e f : Option Rule) → option_or a (option_or b (option_or c (option_or d (option_or e f)))) ≡ None → a ≡ None
first_of a b c d e f h = (or_none a (option_or b (option_or c (option_or d (option_or e f)))) h).0

fifth_of : (a b c d e f : Option Rule) → option_or a (option_or b (option_or c (option_or d (option_or e f)))) ≡ None → e ≡ None
fifth_of a b c d e f h =
    let one = or_none a (option_or b (option_or c (option_or d (option_or e f)))) h in
    let two = or_none b (option_or c (option_or d (option_or e f))) one.1 in
    let three = or_none c (option_or d (option_or e f)) two.1 in
    let four = or_none d (option_or e f) three.1 in
    (or_none e f four.1).0

fourth_of : (a b c d e : Option Rule) → option_or a (option_or b (option_or c (option_or d e))) ≡ None → d ≡ None
fourth_of a b c d e h =
    let one = or_none a (option_or b (option_or c (option_or d e))) h in
    let two = or_none b (option_or c (option_or d e)) one.1 in
    let three = or_none c (option_or d e) two.1 in
    (or_none d e three.1).0

-- the letters of clauses
abbrev pub with_f : CreateGroup → List Placed → Bool
with_f d ps = not (is_read_only_kind d.kind) && list_any has_filter ps

abbrev with_g : CreateGroup → Bool
with_g d = not (is_read_only_kind d.kind) && is_some d.autorefresh

abbrev with_h : CreateGroup → List Placed → Bool
with_h d ps = is_read_only_kind d.kind && not d.dynamic && list_any has_use_aging ps

abbrev with_j : List TableDef → CreateGroup → List Placed → Bool
with_j schema d ps = not (is_read_only_kind d.kind) && is_joined_outside schema ps

abbrev with_k : CreateGroup → List Placed → Bool
with_k d ps = has_wrong_interval d.autorefresh || list_any has_wrong_times ps

pub no_f : (schema : List TableDef) (d : CreateGroup) (ps : List Placed) → clauses_fault schema d ps ≡ None → with_f d ps ≡ false
no_f schema d ps h =
    unbroken (with_f d ps) (lettered letter.F)
    (first_of (broken_if (with_f d ps) (lettered letter.F)) (broken_if (with_g d) (lettered letter.G)) (broken_if (with_h d ps) (lettered letter.H))
    (broken_if (list_any has_wrong_aging ps) (lettered letter.I)) (broken_if (with_j schema d ps) (lettered letter.J)) (broken_if (with_k d ps) (lettered letter.K)) h)

no_j : (schema : List TableDef) (d : CreateGroup) (ps : List Placed) → clauses_fault schema d ps ≡ None → with_j schema d ps ≡ false
no_j schema d ps h =
    unbroken (with_j schema d ps) (lettered letter.J)
    (fifth_of (broken_if (with_f d ps) (lettered letter.F)) (broken_if (with_g d) (lettered letter.G)) (broken_if (with_h d ps) (lettered letter.H))
    (broken_if (list_any has_wrong_aging ps) (lettered letter.I)) (broken_if (with_j schema d ps) (lettered letter.J)) (broken_if (with_k d ps) (lettered letter.K)) h)

pub no_d : (schema : List TableDef) (groups : List GroupDef) (ps : List Placed) → tables_fault schema groups ps ≡ None → list_any (is_grouped groups) ps ≡ false
no_d schema groups ps h =
    unbroken (list_any (is_grouped groups) ps) (lettered letter.D)
    (fourth_of (broken_if (list_any has_other_key ps) (lettered letter.A)) (broken_if (list_any has_foreign_parent ps) (lettered letter.B))
    (broken_if (list_any is_apart ps) (lettered letter.C)) (broken_if (list_any (is_grouped groups) ps) (lettered letter.D))
    (broken_if (list_any (differs_from_backing schema) ps) (lettered letter.E)) h)

-- a test that is asked of writethrough groups alone
pub asked : (read_only : Bool) (b : Bool) → read_only ≡ false → (not read_only && b) ≡ false → b ≡ false
asked true b e f = cc
asked false b e f = f

pub writes_all : WritesAll
writes_all schema groups d tree a kind =
    let ps = placed_tables schema d in
    let f : with_f d ps ≡ false = no_f schema d ps (no_clause schema groups a.has_writes d a.sound) in
    tree_unfiltered ps tree (asked (is_read_only_kind d.kind) (list_any has_filter ps) kind f) a.tree_of

pub stands_apart : StandsApart
stands_apart schema groups d tree a kind =
    let ps = placed_tables schema d in
    let f : with_j schema d ps ≡ false = no_j schema d ps (no_clause schema groups a.has_writes d a.sound) in
    tree_closed schema ps tree (asked (is_read_only_kind d.kind) (is_joined_outside schema ps) kind f) (all_stand schema [] d.tables) a.tree_of

pub has_new_tables : HasNewTables
has_new_tables schema groups d tree a t there =
    let ps = placed_tables schema d in
    not_grouped groups ps t (no_d schema groups ps (no_table schema groups a.has_writes d a.sound))
    (tree_inside ps tree t a.tree_of ∙ sym (place_one tree t) ∙ there)
