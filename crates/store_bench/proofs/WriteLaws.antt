-- A session's operations over tables.
use Rattle.std.proofs.Common.{◌≡◌, Bool, true, false, ◌&&◌, Option, Some, None, is_some, unwrap_or, List, [], ◌∷◌, ◌++◌, slice_get, refl, sym, ap, subst, ◌∙◌}
use Rattle.std.specs.Option.{option_and_then, option_or}
use Rattle.std.proofs.lemmas.List.Folds.{list_all-append}
use Rattle.std.specs.FinMap as fm
use Rattle.tier_base.specs.declared.number.TableId.{TableId}
use Rattle.table_state.specs.declared.operation.Op.{Op}
use Rattle.table_state.specs.declared.refusal.ApplyError.{ApplyError}
use Rattle.table_state.specs.Independence.{IsWhole}
use Rattle.table_state.specs.Keyed.{IsKeyed, IsUnderKeys}
use Rattle.table_state.specs.Operations.{applied, applied_all, table_of}
use Rattle.table_state.specs.Refusals.{broken_by, broken_by_all}
use Rattle.table_state.specs.Sound.{IsTableState}
use Rattle.table_state.specs.Tables.{TableState, table_at}
use Rattle.table_state.proofs.ChangeLaws.{applies}
use Rattle.table_state.proofs.HistoryLaws.{applied_all-append}
use Rattle.table_state.proofs.KeyedLaws.{ops_keyed}
use Rattle.table_state.proofs.IndependenceLaws.{all_whole}
use Rattle.own_rows.specs.OwnTables.{AreShown}
use Rattle.session_state.specs.declared.session.Session.{Session}
use Rattle.session_state.specs.Kept.{IsKept, are_defined, has_both}
use Rattle.session_state.proofs.DefinedLaws.{applied_defined}
use Rattle.store_bench.specs.Measured.{IsOver, IsReadable}

-- rows of a table state stand under their keys, and fit
pub keyed_state : (s : TableState) → IsTableState s → IsKeyed s
keyed_state s sound t def table d m =
    let id : TableId = record { 0 = t } in
    let same : table_at s id ≡ table = ap (λ o. unwrap_or o fm.empty) m in
    (subst (IsUnderKeys def.primary_key) same (sound.keys id def d), λ key row got. sound.fits id def key row d (ap (λ m. fm.get m key) same ∙ got))

-- what a session without operations lies on
pub idle_over : (session : Session) (s : TableState) → IsReadable s → IsKept s.schema session → session.ops.items ≡ [] → IsOver session s
idle_over session s readable kept none = record {
  kept = kept;
  shown = record {
    applies = ap (λ ops. is_some (applied_all ops s)) none;
    whole = readable.sound.whole;
    keyed = keyed_state s readable.sound;
    small = readable.small;
  };
}

-- what the session sees
pub seen_whole : (ops : List Op) (s n : TableState) → IsReadable s → applied_all ops s ≡ Some n → IsWhole n
seen_whole ops s n readable is = all_whole ops s n is readable.sound.whole

pub seen_keyed : (ops : List Op) (s n : TableState) → IsReadable s → applied_all ops s ≡ Some n → IsKeyed n
seen_keyed ops s n readable is = ops_keyed ops s n is (keyed_state s readable.sound)

-- an operation that breaks no rule there applies behind the others
module _ (op : Op) (n : TableState) (none : broken_by_all (op ∷ []) n ≡ None) where
  unbroken : broken_by op n ≡ None
  unbroken = by (broken_by op n) refl
    where
      by : (o : Option ApplyError) → broken_by op n ≡ o → o ≡ None
      by None is = refl
      by (Some x) is = let first = ap (λ o. option_or o (option_and_then (broken_by_all []) (applied op n))) is in cc

  alone : is_some (applied_all (op ∷ []) n) ≡ true
  alone = by (applied op n) (applies op n unbroken)
    where
      by : (o : Option TableState) → is_some o ≡ true → is_some (option_and_then (applied_all []) o) ≡ true
      by None some = some
      by (Some m) some = refl

  pub applies_behind : (ops : List Op) (s : TableState) → applied_all ops s ≡ Some n → is_some (applied_all (ops ++ op ∷ []) s) ≡ true
  applies_behind ops s is = ap is_some (applied_all-append ops (op ∷ []) s ∙ ap (option_and_then (applied_all (op ∷ []))) is) ∙ alone

-- and its table is there
pub defined_behind : (ops : List Op) (op : Op) (s : TableState) → IsReadable s → is_some (applied_all (ops ++ op ∷ []) s) ≡ true → are_defined s.schema (op ∷ []) ≡ true
defined_behind ops op s readable some = by (applied_all (ops ++ op ∷ []) s) refl some
  where
    second : (a b : Bool) → (a && b) ≡ true → b ≡ true
    second true b h = h
    second false b h = cc

    by : (o : Option TableState) → applied_all (ops ++ op ∷ []) s ≡ o → is_some o ≡ true → are_defined s.schema (op ∷ []) ≡ true
    by None is some = cc
    by (Some n) is some =
        second (are_defined s.schema ops) (are_defined s.schema (op ∷ []))
        (sym (list_all-append (λ (op : Op). has_both s.schema (slice_get s.schema (table_of op).0)) ops (op ∷ [])) ∙ applied_defined (ops ++ op ∷ []) s n readable.sound.back is)

-- the session with it, or as it was
pub over_with : (ops : List Op) (old new : Session) (s : TableState) → IsOver old s → IsKept s.schema new → new.ops.items ≡ ops → is_some (applied_all ops s) ≡ true → IsOver new s
over_with ops old new s over kept is some = record {
  kept = kept;
  shown = subst (λ l. AreShown l s) (sym is) (record {
    applies = some;
    whole = over.shown.whole;
    keyed = over.shown.keyed;
    small = over.shown.small;
  });
}

pub over_same : (old new : Session) (s : TableState) → IsOver old s → IsKept s.schema new → new.ops.items ≡ old.ops.items → IsOver new s
over_same old new s over kept is = over_with old.ops.items old new s over kept is over.shown.applies
