-- The keys that operations on live tables hold are of live tables.
use Rattle.std.proofs.Common.{◌≡◌, Bool, true, false, ◌||◌, Option, Some, None, List, [], ◌∷◌, slice_get, refl, sym, ◌∙◌}
use Rattle.std.specs.List.{flat_map}
use Rattle.std.proofs.lemmas.List.Folds.{list_any-append}
use Rattle.tier_base.specs.declared.number.TableId.{TableId}
use Rattle.table_defs.specs.declared.definition.ForeignKey.{ForeignKey}
use Rattle.table_defs.specs.declared.definition.TableDef.{TableDef}
use Rattle.table_state.specs.declared.footprint.RowKey.{RowKey}
use Rattle.table_state.specs.declared.operation.Op.{Op}
use Rattle.table_state.specs.Copies.{is_one_of}
use Rattle.table_state.specs.Footprints.{footprint_of, is_among, is_in, parent_key, referred_by, referred_key, rows_of, same_row_key, written_by}
use Rattle.table_state.specs.Operations.{table_of}
use Rattle.order_laws.specs.Commits.{is_op_on}
use Rattle.order_laws.specs.Sides.{IsClosed, are_on}
use Rattle.order_laws.proofs.SideLaws.{no_keys, no_parents, referred_table}
use Rattle.order_laws.proofs.TruthLaws.{both_true, never_both}
use Rattle.cache_tier.proofs.LesserLaws.{written_mine}
use Rattle.cache_tier.proofs.PartLaws.{one_side}

module _ (on : List TableId) (schema : List TableDef) (closed : IsClosed on schema) where
  referred_mine : (op : Op) (w : RowKey) → is_op_on on op ≡ true → is_among (referred_by schema op) w ≡ true → is_one_of on w.table ≡ true
  referred_mine op w mine e = by (slice_get schema (table_of op).0) refl e
    where
      last : (def : TableDef) → slice_get schema (table_of op).0 ≡ Some def → (f : Option ForeignKey) → def.foreign_key ≡ f → is_among (flat_map (parent_key f) (rows_of op)) w ≡ true → is_one_of on w.table ≡ true
      last def d None f_is e = absurd (never_both (is_among (flat_map (parent_key None) (rows_of op)) w) e (no_parents (rows_of op) w))
      last def d (Some f) f_is e = one_side on w.table f.parent (referred_table f (rows_of op) w e) ∙ closed (table_of op) def f d f_is ∙ mine

      by : (d : Option TableDef) → slice_get schema (table_of op).0 ≡ d → is_among (flat_map (referred_key d) (rows_of op)) w ≡ true → is_one_of on w.table ≡ true
      by None d e = absurd (never_both (is_among (flat_map (referred_key None) (rows_of op)) w) e (no_keys (rows_of op) w))
      by (Some def) d e = last def d def.foreign_key refl e

  among_mine : (f : Op → List RowKey) → ((op : Op) (w : RowKey) → is_op_on on op ≡ true → is_among (f op) w ≡ true → is_one_of on w.table ≡ true) → (ops : List Op) → are_on on ops ≡ true → (w : RowKey) → is_among (flat_map f ops) w ≡ true → is_one_of on w.table ≡ true
  among_mine f one [] mine w e = Prim.cc
  among_mine f one (op ∷ ops) mine w e =
      let (first, rest) = both_true (is_op_on on op) (are_on on ops) mine in
      by (is_among (f op) w) refl (sym (list_any-append (same_row_key w) (f op) (flat_map f ops)) ∙ e) first (among_mine f one ops rest w)
    where
      by : (b : Bool) → is_among (f op) w ≡ b → (b || is_among (flat_map f ops) w) ≡ true → is_op_on on op ≡ true → (is_among (flat_map f ops) w ≡ true → is_one_of on w.table ≡ true) → is_one_of on w.table ≡ true
      by true is e first rest = one op w first is
      by false is e first rest = rest e

  pub held_on : (ops : List Op) → are_on on ops ≡ true → (w : RowKey) → is_in (footprint_of schema ops) w ≡ true → is_one_of on w.table ≡ true
  held_on ops mine w e = by (is_among (flat_map (written_by schema) ops) w) refl e
    where
      by : (b : Bool) → is_among (flat_map (written_by schema) ops) w ≡ b → (b || is_among (flat_map (referred_by schema) ops) w) ≡ true → is_one_of on w.table ≡ true
      by true is e = among_mine (written_by schema) (λ op w first is. written_mine on op schema w first is) ops mine w is
      by false is e = among_mine (referred_by schema) referred_mine ops mine w e
