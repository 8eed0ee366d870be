-- A column of a type that there isn't refuses all columns.
use Rattle.std.proofs.Common.{◌≡◌, ℕ, ◌<◌, List, [], ◌∷◌, Bool, true, false, ◌&&◌, Option, Some, None, is_some, length, get_or, refl, ap, sym, ◌∙◌}
use Rattle.std.specs.List.{list_all}
use Rattle.std.proofs.lemmas.List.Folds.{list_all_at}
use Rattle.row_types.specs.declared.declaration.ColumnDeclaration.{ColumnDeclaration}
use Rattle.row_types.specs.declared.rule.Rule.{Rule}
use Rattle.row_types.specs.declared.rule.Refused.{Refused}
use Rattle.row_types.specs.declared.rule.Refused.TheVariants as refused
use Rattle.table_defs.specs.Declarations.{IsRefusedBy, broken, type_fault, type_of}
use Rattle.row_types.specs.tier_base.specs.declared.code.Code.TheVariants.{OutOfRange}
use Rattle.row_types.specs.declared.rule.Detail.TheVariants.{NoType}
use Rattle.std.specs.Prelude.{if◌then◌else◌}

abbrev fault_if : Bool → Option Rule
fault_if sound = if sound then None else broken OutOfRange NoType

both_true : (b : Bool) → (b && true) ≡ b
both_true true = refl
both_true false = refl

fault_at : (columns : List ColumnDeclaration) (i : ℕ) (item : ColumnDeclaration) (rule : Rule) → i < length columns → item ≡ get_or columns i item → type_fault (item ∷ []) ≡ Some rule → type_fault columns ≡ Some rule
fault_at columns i item rule within is e = by (is_some (type_of item.ty)) refl
  where
    by : (b : Bool) → is_some (type_of item.ty) ≡ b → type_fault columns ≡ Some rule
    by true test = let none : fault_if true ≡ Some rule = ap fault_if (sym (both_true true) ∙ ap (λ b. b && true) (sym test)) ∙ e in Prim.cc
    by false test =
        let some : fault_if false ≡ Some rule = ap fault_if (ap (λ b. b && true) (sym test)) ∙ e in
        let at : is_some (type_of (get_or columns i item).ty) ≡ false = ap (λ (c : ColumnDeclaration). is_some (type_of c.ty)) (sym is) ∙ test in
        ap fault_if (list_all_at (λ (c : ColumnDeclaration). is_some (type_of c.ty)) columns i item within at) ∙ some

pub refused_at : (columns : List ColumnDeclaration) (i : ℕ) (item : ColumnDeclaration) (e : Refused) → i < length columns → item ≡ get_or columns i item → IsRefusedBy (type_fault (item ∷ [])) e → IsRefusedBy (type_fault columns) e
refused_at columns i item (refused.Rule rule) within is h = fault_at columns i item rule within is h
refused_at columns i item refused.Memory within is h = tt
