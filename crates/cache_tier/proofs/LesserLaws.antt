-- Of two parts the lesser.
use Rattle.std.proofs.Common.{◌≡◌, Bool, true, false, cond, ◌&&◌, ◌||◌, nat_eq, Some, is_some, List, [], ◌∷◌, ◌⊎◌, inl, inr, length, slice_get, refl, sym, ap, subst, ◌∙◌}
use Rattle.std.specs.List.{flat_map}
use Rattle.tier_base.specs.declared.number.TableId.{TableId}
use Rattle.table_defs.specs.declared.definition.TableDef.{TableDef}
use Rattle.indexed_rows.specs.Rows.{is_same, key_of}
use Rattle.table_state.specs.declared.operation.Op.{Op}
use Rattle.table_state.specs.declared.footprint.Footprint.{Footprint}
use Rattle.table_state.specs.declared.footprint.RowKey.{RowKey}
use Rattle.table_state.specs.Footprints.{footprint_of, is_among, is_in, referred_by, rows_of, written_by}
use Rattle.table_state.specs.Operations.{applied, applied_all, table_of}
use Rattle.table_state.specs.Sound.{IsLinked}
use Rattle.table_state.specs.Tables.{TableState, has_child}
use Rattle.table_state.specs.Copies.{is_one_of}
use Rattle.table_state.proofs.SoundLaws.{keeps_linked}
use Rattle.order_laws.specs.Commits.{is_op_on}
use Rattle.order_laws.specs.Effects.{row_at, row_left_by}
use Rattle.order_laws.specs.Sides.{IsClosed, are_on}
use Rattle.order_laws.proofs.SideLaws.{written_table}
use Rattle.order_laws.proofs.StepLaws.{among_left, among_right, goes_over, key_in, parts, row_after, same_length, same_schema, whole as whole_applies}
use Rattle.order_laws.proofs.TruthLaws.{both_true, or_true, same_some}
use Rattle.cache_tier.proofs.PartLaws.{ChildOf, IsClosedPart, Row, between, child_found, child_there, named_key, one_place, one_side, some_of, still_part, then_is}

-- Of two parts the lesser: what applies to the greater one applies to it, where both have the same rows at the keys that
-- the operations write or name as parents.

is_in_keys : (schema : List TableDef) (op : Op) (ops : List Op) (w : RowKey) → (is_among (written_by schema op) w ≡ true) ⊎ (is_among (referred_by schema op) w ≡ true) → is_in (footprint_of schema (op ∷ ops)) w ≡ true
is_in_keys schema op ops w (inl e) = ap (λ b. b || is_among (flat_map (referred_by schema) (op ∷ ops)) w) (among_left (written_by schema op) (flat_map (written_by schema) ops) w e)
is_in_keys schema op ops w (inr e) = ap (λ b. is_among (flat_map (written_by schema) (op ∷ ops)) w || b) (among_left (referred_by schema op) (flat_map (referred_by schema) ops) w e) ∙ or_true (is_among (flat_map (written_by schema) (op ∷ ops)) w)

is_in_rest : (schema : List TableDef) (op : Op) (ops : List Op) (w : RowKey) → is_in (footprint_of schema ops) w ≡ true → is_in (footprint_of schema (op ∷ ops)) w ≡ true
is_in_rest schema op ops w e = by (is_among (flat_map (written_by schema) ops) w) refl e
  where
    by : (b : Bool) → is_among (flat_map (written_by schema) ops) w ≡ b → (b || is_among (flat_map (referred_by schema) ops) w) ≡ true → is_in (footprint_of schema (op ∷ ops)) w ≡ true
    by true h x = ap (λ b. b || is_among (flat_map (referred_by schema) (op ∷ ops)) w) (among_right (written_by schema op) (flat_map (written_by schema) ops) w h)
    by false h x = ap (λ b. is_among (flat_map (written_by schema) (op ∷ ops)) w || b) (among_right (referred_by schema op) (flat_map (referred_by schema) ops) w x) ∙ or_true (is_among (flat_map (written_by schema) (op ∷ ops)) w)

-- two parts with the same rows at these keys
abbrev pub AreSameAt : Footprint → TableState → TableState → Type 0
AreSameAt f a b = (w : RowKey) → is_in f w ≡ true → row_at b w.table w.key ≡ row_at a w.table w.key

same_children : (on : List TableId) (v a b : TableState) (t : TableId) (key : Row) → IsClosed on a.schema → b.schema ≡ a.schema → IsClosedPart on v a → IsClosedPart on v b → is_one_of on t ≡ true → row_at b t key ≡ row_at a t key → has_child a t key ≡ true → has_child b t key ≡ true
same_children on v a b t key closed schema part_a part_b mine same e = found (child_found a.schema a.tables t key e)
  where
    found : ChildOf a.schema a.tables t key → has_child b t key ≡ true
    found c =
        let u : TableId = record { 0 = c.place } in
        let (f, fk, parent, keys) = named_key c.def.foreign_key t key c.row c.names in
        let side : is_one_of on u ≡ true = sym (closed u c.def f c.defined fk) ∙ one_side on f.parent t parent ∙ mine in
        let d : slice_get v.schema u.0 ≡ Some c.def = sym (part_a.defined u side) ∙ c.defined in
        let in_v = part_a.within u c.k c.row side c.is in
        let there_a : is_some (row_at a f.parent (key_of f.columns c.row)) ≡ true = sym (part_a.families u c.def f c.k c.row side d fk in_v) ∙ ap is_some c.is in
        let there_b : is_some (row_at b f.parent (key_of f.columns c.row)) ≡ true =
        ap is_some (ap (λ q. row_at b f.parent q) keys ∙ one_place b f.parent t key parent ∙ same ∙ sym (ap (λ q. row_at a f.parent q) keys ∙ one_place a f.parent t key parent)) ∙ there_a
        in
        let has = part_b.families u c.def f c.k c.row side d fk in_v ∙ there_b in
        let (r, r_is) = some_of (row_at b u c.k) has in
        let row_is : r ≡ c.row = same_some (sym (part_b.within u c.k r side r_is) ∙ in_v) in
        child_there b.schema b.tables t key c.place c.def c.k c.row (ap (λ l. slice_get l c.place) schema ∙ c.defined) (r_is ∙ ap Some row_is) c.names

same_bools : (a b : Bool) → (a ≡ true → b ≡ true) → (b ≡ true → a ≡ true) → b ≡ a
same_bools true b to from = to refl
same_bools false true to from = sym (from refl)
same_bools false false to from = refl

pub written_mine : (on : List TableId) (op : Op) (schema : List TableDef) (w : RowKey) → is_op_on on op ≡ true → is_among (written_by schema op) w ≡ true → is_one_of on w.table ≡ true
written_mine on op schema w mine e = one_side on w.table (table_of op) (written_table (table_of op) (slice_get schema (table_of op).0) (rows_of op) w e) ∙ mine

pub applies_to_lesser : (on : List TableId) (ops : List Op) (v v' a a' b : TableState) → IsClosed on a.schema → b.schema ≡ a.schema → length b.tables ≡ length a.tables → IsLinked v → IsClosedPart on v a → IsClosedPart on v b → are_on on ops ≡ true → AreSameAt (footprint_of a.schema ops) a b
    → applied_all ops v ≡ Some v' → applied_all ops a ≡ Some a' → (b' : TableState) × (applied_all ops b ≡ Some b')
applies_to_lesser on [] v v' a a' b closed schema size linked part_a part_b mine same e h = (b, refl)
applies_to_lesser on (op ∷ ops) v v' a a' b closed schema size linked part_a part_b mine same e h =
    let (x, x_is, x_on) = between (applied_all ops) (applied op v) v' e in
    let (y, y_is, y_on) = between (applied_all ops) (applied op a) a' h in
    let (first, rest) = both_true (is_op_on on op) (are_on on ops) mine in
    let z = parts op v x x_is in
    let p = parts op a y y_is in
    let (c, q) = goes_over op a b y (record {
      schema = schema;
      tables = size;
      written = λ w k. same w (is_in_keys a.schema op ops w (inl k));
      referred = λ w k. same w (is_in_keys a.schema op ops w (inr k));
      children = λ w k.
          let mine_w = written_mine on op a.schema w first k in
          let same_w = same w (is_in_keys a.schema op ops w (inl k)) in
          same_bools (has_child a w.table w.key) (has_child b w.table w.key) (same_children on v a b w.table w.key closed schema part_a part_b mine_w same_w)
          (same_children on v b a w.table w.key (subst (IsClosed on) (sym schema) closed) (sym schema) part_b part_a mine_w (sym same_w));
    }) p in
    let c_is = whole_applies op b c q in
    let defs : q.def ≡ p.def = same_some (sym q.defined ∙ ap (λ l. slice_get l (table_of op).0) schema ∙ p.defined) in
    let (b', b_is) = applies_to_lesser on ops x v' y a' c (subst (IsClosed on) (sym (same_schema op a y p)) closed) (same_schema op b c q ∙ schema ∙ sym (same_schema op a y p)) (same_length op b c q ∙ size ∙ sym (same_length op a y p)) (keeps_linked op v x x_is linked)
    (still_part on op v x a y first linked part_a z p) (still_part on op v x b c first linked part_b z q) rest
    (λ w k. row_after op b c q w.table w.key
    ∙ (λ i. cond (nat_eq (table_of op).0 w.table.0 && is_same w.key (key_in (defs i) op)) (row_left_by op) (same w (is_in_rest a.schema op ops w (ap (λ l. is_in (footprint_of l ops) w) (sym (same_schema op a y p)) ∙ k)) i))
    ∙ sym (row_after op a y p w.table w.key)) x_on y_on
    in
    (b', then_is (applied_all ops) (applied op b) c b' c_is b_is)
