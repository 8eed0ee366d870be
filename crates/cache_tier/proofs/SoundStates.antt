-- The states that a history leaves: each foreign key names a row, and rows stand under their keys.
use Rattle.std.proofs.Common.{◌≡◌, ℕ, zero, suc, Bool, true, false, cond, ◌&&◌, nat_eq, Option, Some, None, List, [], ◌∷◌, ◌++◌, ◌⊎◌, inl, inr, length, slice_get, unwrap_or, refl, sym, ap, subst, ◌∙◌, arith, eqb-true}
use Rattle.std.specs.FinMap as fm
use Rattle.std.specs.FinMap.{empty}
use Rattle.tier_base.specs.declared.number.TableId.{TableId}
use Rattle.table_defs.specs.declared.definition.ForeignKey.{ForeignKey}
use Rattle.table_defs.specs.declared.definition.TableDef.{TableDef}
use Rattle.indexed_rows.specs.Rows.{Table, is_same, key_of}
use Rattle.indexed_rows.proofs.EntryLaws.{same_values}
use Rattle.table_state.specs.declared.history.Entry.{Entry}
use Rattle.table_state.specs.declared.history.Entry.TheVariants.{Definition, Foreign, Own}
use Rattle.table_state.specs.declared.operation.Op.{Op}
use Rattle.table_state.specs.declared.operation.Op.TheVariants.{Insert, Update, Delete}
use Rattle.table_state.specs.Histories.{after_entry, state_from, state_of}
use Rattle.table_state.specs.Independence.{IsWhole, with_new}
use Rattle.table_state.specs.Operations.{applied, applied_all, table_of}
use Rattle.table_state.specs.Sound.{IsLinked, IsUnderKeys}
use Rattle.table_state.specs.Tables.{TableState, has_parent, table_at}
use Rattle.table_state.proofs.IndependenceLaws.{entry_whole, stays_whole}
use Rattle.table_state.proofs.SoundLaws.{keeps_linked}
use Rattle.order_laws.specs.Effects.{row_at, row_left_by}
use Rattle.order_laws.proofs.CountLaws.{rows_later}
use Rattle.order_laws.proofs.StepLaws.{Applies, key_in, parts, row_after, same_schema}
use Rattle.order_laws.proofs.TruthLaws.{both_true, same_some}
use Rattle.cache_tier.proofs.PartLaws.{Row, between}

-- rows stand under their primary keys
abbrev pub IsKeyed : TableState → Type 0
IsKeyed s = (t : TableId) (def : TableDef) → slice_get s.schema t.0 ≡ Some def → IsUnderKeys def.primary_key (table_at s t)

own_key : (op : Op) (def : TableDef) (row : Row) → row_left_by op ≡ Some row → key_in def op ≡ key_of def.primary_key row
own_key (Insert t new) def row e = let same : new ≡ row = Prim.cc in ap (key_of def.primary_key) same
own_key (Update t old new) def row e = let same : new ≡ row = Prim.cc in ap (key_of def.primary_key) same
own_key (Delete t old) def row e = Prim.cc

pub keeps_keyed : (op : Op) (s n : TableState) → applied op s ≡ Some n → IsKeyed s → IsKeyed n
keeps_keyed op s n is keyed t def d key row e = by (nat_eq (table_of op).0 t.0 && is_same key (key_in x.def op)) refl (sym (row_after op s n x t key) ∙ e)
  where
    x : Applies op s n
    x = parts op s n is

    in_s : slice_get s.schema t.0 ≡ Some def
    in_s = ap (λ l. slice_get l t.0) (sym (same_schema op s n x)) ∙ d

    by : (b : Bool) → (nat_eq (table_of op).0 t.0 && is_same key (key_in x.def op)) ≡ b → cond b (row_left_by op) (row_at s t key) ≡ Some row → key_of def.primary_key row ≡ key
    by true h e =
        let (place, same) = both_true (nat_eq (table_of op).0 t.0) (is_same key (key_in x.def op)) h in
        let its : x.def ≡ def = same_some (sym x.defined ∙ ap (slice_get s.schema) (eqb-true (table_of op).0 t.0 place) ∙ in_s) in
        ap (λ (f : TableDef). key_of f.primary_key row) (sym its) ∙ sym (own_key op x.def row e) ∙ sym (same_values key (key_in x.def op) same)
    by false h e = keyed t def in_s key row e

-- so it is of each state
pub record IsSoundState (s : TableState) : Type 0 where
  pub whole : IsWhole s
  pub linked : IsLinked s
  pub keyed : IsKeyed s

pub sound_op : (op : Op) (s n : TableState) → applied op s ≡ Some n → IsSoundState s → IsSoundState n
sound_op op s n is a = record { whole = stays_whole op s n is a.whole; linked = keeps_linked op s n is a.linked; keyed = keeps_keyed op s n is a.keyed }

pub sound_ops : (ops : List Op) (s n : TableState) → applied_all ops s ≡ Some n → IsSoundState s → IsSoundState n
sound_ops [] s n is a = let same : s ≡ n = Prim.cc in subst IsSoundState same a
sound_ops (op ∷ ops) s n is a = let (x, x_is, x_on) = between (applied_all ops) (applied op s) n is in sound_ops ops x n x_on (sound_op op s x x_is a)

last_cases : {X : Type 0} (xs : List X) (x : X) (i : ℕ) (y : X) → slice_get (xs ++ x ∷ []) i ≡ Some y → (slice_get xs i ≡ Some y) ⊎ (i ≡ length xs)
last_cases [] x zero y h = inr refl
last_cases [] x (suc i) y h = Prim.cc
last_cases (z ∷ xs) x zero y h = inl h
last_cases (z ∷ xs) x (suc i) y h = elim (last_cases xs x i y h) [ inl e ↦ inl e | inr e ↦ inr (ap suc e) ]

past_end : (tables : List Table) (i : ℕ) → i ≡ length tables → unwrap_or (slice_get tables i) empty ≡ empty
past_end [] zero e = refl
past_end [] (suc i) e = refl
past_end (table ∷ tables) zero e = absurd (Prim.omega arith)
past_end (table ∷ tables) (suc i) e = past_end tables i (Prim.omega arith)

same_parent : (def : TableDef) (s : TableState) (f : Option ForeignKey) (row : Row) → has_parent s f row ≡ true → has_parent (with_new def s) f row ≡ true
same_parent def s None row e = e
same_parent def s (Some f) row e = ap (λ (m : Table). fm.contains_key m (key_of f.columns row)) (rows_later s.tables f.parent.0) ∙ e

no_row : (def : TableDef) (s : TableState) (t : TableId) (key row : Row) → IsWhole s → t.0 ≡ length s.schema → row_at (with_new def s) t key ≡ Some row → ⊥
no_row def s t key row whole e h =
    let none : None ≡ Some row = sym (fm.get-empty _ key) ∙ ap (λ (m : Table). fm.get m key) (sym (rows_later s.tables t.0 ∙ past_end s.tables t.0 (e ∙ sym whole))) ∙ h in Prim.cc

pub sound_table : (def : TableDef) (s : TableState) → IsWhole (with_new def s) → IsSoundState s → IsSoundState (with_new def s)
sound_table def s whole a = record {
  whole = whole;
  linked = λ t f key row d e. elim (last_cases s.schema def t.0 f d) [
    | inl old ↦ same_parent def s f.foreign_key row (a.linked t f key row old (ap (λ (m : Table). fm.get m key) (sym (rows_later s.tables t.0)) ∙ e))
    | inr new ↦ absurd (no_row def s t key row a.whole new e)
  ];
  keyed = λ t f d key row e. elim (last_cases s.schema def t.0 f d) [
    | inl old ↦ a.keyed t f old key row (ap (λ (m : Table). fm.get m key) (sym (rows_later s.tables t.0)) ∙ e)
    | inr new ↦ absurd (no_row def s t key row a.whole new e)
  ];
}

sound_entry : (entry : Entry) (s n : TableState) → after_entry entry s ≡ Some n → IsSoundState s → IsSoundState n
sound_entry (Definition def) s n is a =
    let same : with_new def s ≡ n = Prim.cc in
    subst IsSoundState same (sound_table def s (subst IsWhole (sym same) (entry_whole (Definition def) s n is a.whole)) a)
sound_entry (Foreign ops) s n is a = sound_ops ops s n is a
sound_entry (Own ticket ops) s n is a = sound_ops ops s n is a

pub sound_entries : (entries : List Entry) (s n : TableState) → state_from entries s ≡ Some n → IsSoundState s → IsSoundState n
sound_entries [] s n is a = let same : s ≡ n = Prim.cc in subst IsSoundState same a
sound_entries (entry ∷ entries) s n is a = let (x, x_is, x_on) = between (state_from entries) (after_entry entry s) n is in sound_entries entries x n x_on (sound_entry entry s x x_is a)

pub sound_history : (history : List Entry) (s : TableState) → state_of history ≡ Some s → IsSoundState s
sound_history history s is = sound_entries history (record { schema = []; tables = [] }) s is (record { whole = refl; linked = λ t def key row d e. Prim.cc; keyed = λ t def d key row e. Prim.cc })
