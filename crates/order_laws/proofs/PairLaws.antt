-- Operations without conflict.
use Rattle.std.proofs.Common.{◌≡◌, ℕ, Bool, true, false, ◌||◌, ◌&&◌, nat_eq, Option, Some, None, is_some, List, [], ◌∷◌, slice_set, unwrap_or, slice_get, zero, suc, refl, sym, ap, ◌∙◌, eqb-true}
use Rattle.std.specs.List.{flat_map, list_any}
use Rattle.std.specs.FinMap.{empty}
use Rattle.table_state.specs.row_types.specs.declared.value.Value.{Value}
use Rattle.table_state.specs.table_defs.specs.declared.definition.TableDef.{TableDef}
use Rattle.table_state.specs.declared.footprint.Footprint.{Footprint}
use Rattle.table_state.specs.declared.footprint.RowKey.{RowKey}
use Rattle.table_state.specs.declared.operation.Op.{Op}
use Rattle.table_state.specs.indexed_rows.specs.Rows.{Table, is_same}
use Rattle.table_state.specs.indexed_rows.proofs.EntryLaws.{same_values}
use Rattle.table_state.specs.Footprints.{conflict, footprint_of, is_among, is_in, referred_by, same_row_key, written_by}
use Rattle.table_state.specs.Tables.{TableState}
use Rattle.table_state.specs.Operations.{applied, table_of}
use Rattle.order_laws.specs.Effects.{AgreeFor, row_left_by}
use Rattle.order_laws.proofs.MapLaws.{over, over_apart}
use Rattle.order_laws.proofs.StepLaws.{Applies, after, applies_alike, among_left, among_right, child_after, goes_over, key_in, or_none, parts, row_stays, same_length, same_schema, whole, writes_key}
use Rattle.order_laws.proofs.TruthLaws.{never_both, not_both, same_some}

abbrev Row : Type 0
Row = List Value

-- footprints without conflict, by keys

pub record Apart (f g : Footprint) : Type 0 where
  pub here : (w : RowKey) → is_among f.written w ≡ true → is_in g w ≡ false
  pub there : (w : RowKey) → is_among g.written w ≡ true → is_in f w ≡ false

pub turned : (f g : Footprint) → Apart f g → Apart g f
turned f g apart = record { here = apart.there; there = apart.here }

pub same_place : (w x : RowKey) → same_row_key w x ≡ true → x ≡ w
same_place w x e = by (nat_eq w.table.0 x.table.0) refl e
  where
    by : (b : Bool) → nat_eq w.table.0 x.table.0 ≡ b → (b && is_same w.key x.key) ≡ true → x ≡ w
    by true t k =
        let places : w.table.0 ≡ x.table.0 = eqb-true w.table.0 x.table.0 t in
        let keys : w.key ≡ x.key = same_values w.key x.key k in
        λ i. record { table = record { 0 = sym places i }; key = sym keys i }
    by false t k = cc

none_of : (q : RowKey → Bool) (xs : List RowKey) (w : RowKey) → list_any q xs ≡ false → is_among xs w ≡ true → q w ≡ false
none_of q [] w none e = cc
none_of q (x ∷ xs) w none e = by (same_row_key w x) refl e (none_of q xs w (or_none (q x) (list_any q xs) none).1)
  where
    by : (b : Bool) → same_row_key w x ≡ b → (b || is_among xs w) ≡ true → (is_among xs w ≡ true → q w ≡ false) → q w ≡ false
    by true is e rest = ap q (sym (same_place w x is)) ∙ (or_none (q x) (list_any q xs) none).0
    by false is e rest = rest e

pub apart_of : (f g : Footprint) → conflict f g ≡ false → Apart f g
apart_of f g none = record {
  here = λ w e. none_of (is_in g) f.written w (or_none _ _ none).0 e;
  there = λ w e. none_of (is_in f) g.written w (or_none _ _ none).1 e;
}

-- parts of footprints

pub record IsPart (f g : Footprint) : Type 0 where
  pub written : (w : RowKey) → is_among f.written w ≡ true → is_among g.written w ≡ true
  pub referred : (w : RowKey) → is_among f.referred w ≡ true → is_among g.referred w ≡ true

part_in : (f g : Footprint) → IsPart f g → (w : RowKey) → is_in g w ≡ false → is_in f w ≡ false
part_in f g part w none =
    let (written, referred) = or_none (is_among g.written w) (is_among g.referred w) none in
    let a : is_among f.written w ≡ false = not_both (is_among f.written w) (λ e. never_both (is_among g.written w) (part.written w e) written) in
    let b : is_among f.referred w ≡ false = not_both (is_among f.referred w) (λ e. never_both (is_among g.referred w) (part.referred w e) referred) in
    λ i. a i || b i

pub part_apart : (f f' g : Footprint) → IsPart f' f → Apart f g → Apart f' g
part_apart f f' g part apart = record {
  here = λ w e. apart.here w (part.written w e);
  there = λ w e. part_in f' f part w (apart.there w e);
}

abbrev pub print_of : List TableDef → Op → Footprint
print_of schema op = record { written = written_by schema op; referred = referred_by schema op }

pub first_part : (schema : List TableDef) (op : Op) (ops : List Op) → IsPart (print_of schema op) (footprint_of schema (op ∷ ops))
first_part schema op ops = record {
  written = among_left (written_by schema op) (flat_map (written_by schema) ops);
  referred = among_left (referred_by schema op) (flat_map (referred_by schema) ops);
}

pub rest_part : (schema : List TableDef) (op : Op) (ops : List Op) → IsPart (footprint_of schema ops) (footprint_of schema (op ∷ ops))
rest_part schema op ops = record {
  written = among_right (written_by schema op) (flat_map (written_by schema) ops);
  referred = among_right (referred_by schema op) (flat_map (referred_by schema) ops);
}

-- an operation leaves all that one without conflict looks at
pub agrees_behind : (a b : Op) (s x : TableState) → Apart (print_of s.schema a) (print_of s.schema b) → Applies a s x → AgreeFor b s x
agrees_behind a b s x apart is = record {
  schema = same_schema a s x is;
  tables = same_length a s x is;
  written = λ w e. row_stays a s x is w (or_none _ _ (apart.there w e)).0;
  referred = λ w e. row_stays a s x is w (not_both (is_among (written_by s.schema a) w) (λ h. never_both (is_among (referred_by s.schema b) w) e (or_none _ _ (apart.here w h)).1));
  children = λ w e. child_after a s x is w (or_none _ _ (apart.there w e)).1;
}

-- both orders leave the same

abbrev set_by : List Table → ℕ → (Table → Table) → List Table
set_by tables i f = slice_set tables i (f (unwrap_or (slice_get tables i) empty))

sets_commute : (tables : List Table) (i j : ℕ) (f g : Table → Table) → (i ≡ j → (m : Table) → g (f m) ≡ f (g m)) → set_by (set_by tables i f) j g ≡ set_by (set_by tables j g) i f
sets_commute [] i j f g same = refl
sets_commute (m ∷ tables) zero zero f g same = ap (λ x. x ∷ tables) (same refl m)
sets_commute (m ∷ tables) zero (suc j) f g same = refl
sets_commute (m ∷ tables) (suc i) zero f g same = refl
sets_commute (m ∷ tables) (suc i) (suc j) f g same = ap (λ l. m ∷ l) (sets_commute tables i j f g (λ e. same (ap suc e)))

after_both : (a b : Op) (da db : TableDef) (s : TableState) → ((table_of a).0 ≡ (table_of b).0 → is_same (key_in da a) (key_in db b) ≡ false) → after b db (after a da s) ≡ after a da (after b db s)
after_both a b da db s apart =
    ap (λ (tables : List Table). record { schema = s.schema; tables = tables })
    (sets_commute s.tables (table_of a).0 (table_of b).0 (over (row_left_by a) (key_in da a)) (over (row_left_by b) (key_in db b))
    (λ e m. over_apart (row_left_by a) (row_left_by b) (key_in da a) (key_in db b) m (apart e)))

-- two partial steps that leave one another alone at a state
pub record Parted {S : Type 0} (f g : S → Option S) (s : S) : Type 0 where
  pub both : (x y : S) → f s ≡ Some x → g s ≡ Some y → (z : S) × (g x ≡ Some z) × (f y ≡ Some z)
  pub first : (x : S) → f s ≡ Some x → g s ≡ None → g x ≡ None
  pub second : (y : S) → g s ≡ Some y → f s ≡ None → f y ≡ None

refused_behind : (a b : Op) (s x : TableState) → Apart (print_of s.schema a) (print_of s.schema b) → applied a s ≡ Some x → applied b s ≡ None → applied b x ≡ None
refused_behind a b s x apart is none = by (applied b x) refl
  where
    agree : AgreeFor b s x
    agree = agrees_behind a b s x apart (parts a s x is)

    alike : is_some (applied b x) ≡ is_some (applied b s)
    alike = applies_alike b s x agree

    by : (o : Option TableState) → applied b x ≡ o → o ≡ None
    by None e = refl
    by (Some y) e = absurd (never_both (is_some (applied b x)) (ap is_some e) (alike ∙ ap is_some none))

pub gives_as : (op : Op) (s n : TableState) (is : Applies op s n) (def : TableDef) → slice_get s.schema (table_of op).0 ≡ Some def → n ≡ after op def s
gives_as op s n is def defined = let same : is.def ≡ def = same_some (sym is.defined ∙ defined) in is.gives ∙ ap (λ d. after op d s) same

keys_apart : (a b : Op) (schema : List TableDef) (da db : TableDef) → slice_get schema (table_of a).0 ≡ Some da → slice_get schema (table_of b).0 ≡ Some db → Apart (print_of schema a) (print_of schema b)
    → (table_of a).0 ≡ (table_of b).0 → is_same (key_in da a) (key_in db b) ≡ false
keys_apart a b schema da db a_def b_def apart places = not_both (is_same (key_in da a) (key_in db b)) (λ e.
    let keys : key_in da a ≡ key_in db b = same_values (key_in da a) (key_in db b) e in
    let one : is_among (written_by schema b) (record { table = table_of a; key = key_in da a }) ≡ true =
    (λ i. is_among (written_by schema b) (record { table = record { 0 = places i }; key = keys i })) ∙ writes_key b schema db b_def
    in
    never_both (is_among (written_by schema b) (record { table = table_of a; key = key_in da a })) one
    (or_none _ _ (apart.here (record { table = table_of a; key = key_in da a }) (writes_key a schema da a_def))).0)

pub ops_parted : (a b : Op) (s : TableState) → Apart (print_of s.schema a) (print_of s.schema b) → Parted (applied a) (applied b) s
ops_parted a b s apart = record {
  both = λ x y a_is b_is.
      let p = parts a s x a_is in
      let q = parts b s y b_is in
      let (u, behind_a) = goes_over b s x y (agrees_behind a b s x apart p) q in
      let (v, behind_b) = goes_over a s y x (agrees_behind b a s y (turned _ _ apart) q) p in
      let u_is : u ≡ after b q.def x = gives_as b x u behind_a q.def (ap (λ l. slice_get l (table_of b).0) (same_schema a s x p) ∙ q.defined) in
      let v_is : v ≡ after a p.def y = gives_as a y v behind_b p.def (ap (λ l. slice_get l (table_of a).0) (same_schema b s y q) ∙ p.defined) in
      let same : v ≡ u =
      v_is ∙ ap (after a p.def) q.gives
      ∙ sym (after_both a b p.def q.def s (keys_apart a b s.schema p.def q.def p.defined q.defined apart))
      ∙ ap (after b q.def) (sym p.gives) ∙ sym u_is
      in
      (u, whole b x u behind_a, whole a y v behind_b ∙ ap Some same);
  first = λ x a_is none. refused_behind a b s x apart a_is none;
  second = λ y b_is none. refused_behind b a s y (turned _ _ apart) b_is none;
}
