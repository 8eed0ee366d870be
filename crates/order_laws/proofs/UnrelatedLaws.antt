-- Operations on two tables of which none refers to the other have no conflict.
use Rattle.std.proofs.Common.{◌≡◌, true, false, ◌||◌, nat_eq, Option, Some, None, List, [], ◌∷◌, slice_get, refl, sym, ap, ◌∙◌, append-nil, eq-eqb, eqb-true}
use Rattle.std.specs.List.{flat_map}
use Rattle.table_state.specs.tier_base.specs.declared.number.TableId.{TableId}
use Rattle.table_state.specs.table_defs.specs.declared.definition.ForeignKey.{ForeignKey}
use Rattle.table_state.specs.table_defs.specs.declared.definition.TableDef.{TableDef}
use Rattle.table_state.specs.declared.footprint.RowKey.{RowKey}
use Rattle.table_state.specs.declared.operation.Op.{Op}
use Rattle.table_state.specs.Footprints.{footprint_of, is_among, is_in, parent_key, referred_by, referred_key, rows_of, written_by}
use Rattle.table_state.specs.Independence.{AreApart, is_child_of, refers_to}
use Rattle.table_state.specs.Operations.{table_of}
use Rattle.order_laws.specs.Commits.{ops_conflict}
use Rattle.order_laws.proofs.AtOnceLaws.{conflict_none}
use Rattle.order_laws.proofs.SideLaws.{no_keys, no_parents, referred_table, written_table}
use Rattle.order_laws.proofs.TruthLaws.{never_both, not_both}

-- a key that it writes is of its own table
on_table : (schema : List TableDef) (op : Op) (w : RowKey) → is_among (flat_map (written_by schema) (op ∷ [])) w ≡ true → w.table.0 ≡ (table_of op).0
on_table schema op w e =
    written_table (table_of op) (slice_get schema (table_of op).0) (rows_of op) w (sym (ap (λ l. is_among l w) (append-nil (written_by schema op))) ∙ e)

-- a key that it refers to is of the table that its own refers to
names_parent_table : (schema : List TableDef) (op : Op) (w : RowKey) → is_among (flat_map (referred_by schema) (op ∷ [])) w ≡ true → is_child_of w.table (slice_get schema (table_of op).0) ≡ true
names_parent_table schema op w e = by (slice_get schema (table_of op).0) (sym (ap (λ l. is_among l w) (append-nil (referred_by schema op))) ∙ e)
  where
    last : (f : Option ForeignKey) → is_among (flat_map (parent_key f) (rows_of op)) w ≡ true → refers_to w.table f ≡ true
    last None e = absurd (never_both (is_among (flat_map (parent_key None) (rows_of op)) w) e (no_parents (rows_of op) w))
    last (Some f) e = eq-eqb w.table.0 f.parent.0 (referred_table f (rows_of op) w e)

    by : (d : Option TableDef) → is_among (flat_map (referred_key d) (rows_of op)) w ≡ true → is_child_of w.table d ≡ true
    by None e = absurd (never_both (is_among (flat_map (referred_key None) (rows_of op)) w) e (no_keys (rows_of op) w))
    by (Some def) e = last def.foreign_key e

same_child_of : (a b : TableId) → a.0 ≡ b.0 → (d : Option TableDef) → is_child_of a d ≡ is_child_of b d
same_child_of a b e None = refl
same_child_of a b e (Some def) = by def.foreign_key
  where
    by : (f : Option ForeignKey) → refers_to a f ≡ refers_to b f
    by None = refl
    by (Some f) = ap (λ n. nat_eq n f.parent.0) e

-- so none of its keys is in the footprint of the other
none_in : (schema : List TableDef) (a b : Op) → nat_eq (table_of a).0 (table_of b).0 ≡ false → is_child_of (table_of a) (slice_get schema (table_of b).0) ≡ false
    → (w : RowKey) → is_among (flat_map (written_by schema) (a ∷ [])) w ≡ true → is_in (footprint_of schema (b ∷ [])) w ≡ false
none_in schema a b different childless w e =
    let mine : w.table.0 ≡ (table_of a).0 = on_table schema a w e in
    let not_written : is_among (flat_map (written_by schema) (b ∷ [])) w ≡ false =
    not_both (is_among (flat_map (written_by schema) (b ∷ [])) w) (λ f. never_both (nat_eq (table_of a).0 (table_of b).0) (eq-eqb (table_of a).0 (table_of b).0 (sym mine ∙ on_table schema b w f)) different)
    in
    let not_referred : is_among (flat_map (referred_by schema) (b ∷ [])) w ≡ false =
    not_both (is_among (flat_map (referred_by schema) (b ∷ [])) w) (λ f.
    never_both (is_child_of w.table (slice_get schema (table_of b).0)) (names_parent_table schema b w f) (same_child_of w.table (table_of a) mine (slice_get schema (table_of b).0) ∙ childless))
    in
    λ i. not_written i || not_referred i

pub unrelated : (schema : List TableDef) (a b : Op) → AreApart schema (table_of a) (table_of b) → ops_conflict schema (a ∷ []) (b ∷ []) ≡ false
unrelated schema a b apart = conflict_none (footprint_of schema (a ∷ [])) (footprint_of schema (b ∷ [])) (record {
  here = none_in schema a b apart.different apart.other;
  there = none_in schema b a (not_both (nat_eq (table_of b).0 (table_of a).0) (λ e. never_both (nat_eq (table_of a).0 (table_of b).0) (eq-eqb (table_of a).0 (table_of b).0 (sym (eqb-true (table_of b).0 (table_of a).0 e))) apart.different)) apart.one;
})
