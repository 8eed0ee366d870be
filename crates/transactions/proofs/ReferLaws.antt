-- Laws of foreign keys that refer to earlier tables.
use Rattle.std.proofs.Common.{◌≡◌, ℕ, zero, suc, ◌<◌, ◌^◌, Bool, true, false, cond, nat_lt, Option, Some, None, is_some, List, [], ◌∷◌, ◌++◌, length, position, slice_get, unwrap_or, ◌⊎◌, inl, inr, refl, sym, ap, subst, ◌∙◌, arith}
use Rattle.std.specs.List.{position_or_len}
use Rattle.std.proofs.lemmas.Bool.{ltb-true}
use Rattle.std.specs.Option.{option_and_then, option_map, option_or}
use Rattle.evaluator.specs.row_types.specs.declared.declaration.ForeignKeyDeclaration.{ForeignKeyDeclaration}
use Rattle.evaluator.specs.row_types.specs.declared.declaration.TableDeclaration.{TableDeclaration}
use Rattle.evaluator.specs.row_types.specs.declared.rule.Rule.{Rule}
use Rattle.evaluator.specs.tier_base.specs.declared.code.Code.TheVariants.{UnknownTable}
use Rattle.evaluator.specs.tier_base.specs.declared.number.TableId.{TableId}
use Rattle.evaluator.specs.table_defs.specs.declared.definition.ForeignKey.{ForeignKey}
use Rattle.evaluator.specs.table_defs.specs.declared.definition.TableDef.{TableDef}
use Rattle.evaluator.specs.table_defs.specs.Declarations.{broken_at, fault_of, missing_parent, resolved, resolved_reference}
use Rattle.evaluator.specs.table_defs.specs.Names.{place_of_table, same_name, table_id}
use Rattle.transactions.specs.Differing.{RefersBack}

same_some : {X : Type 0} {x y : X} → Some x ≡ Some y → x ≡ y
same_some e = cc

-- the last element, or one before it
last_or : {X : Type 0} (xs : List X) (x : X) (i : ℕ) (y : X) → slice_get (xs ++ x ∷ []) i ≡ Some y → (slice_get xs i ≡ Some y) ⊎ ((i ≡ length xs) × (x ≡ y))
last_or [] x zero y h = inr (refl, same_some h)
last_or [] x (suc i) y h = cc
last_or (z ∷ xs) x zero y h = inl h
last_or (z ∷ xs) x (suc i) y h = elim (last_or xs x i y h) [ inl e ↦ inl e | inr e ↦ inr (ap suc e.0, e.1) ]

pub defined_back : (schema : List TableDef) (def : TableDef) → RefersBack schema → ((foreign : ForeignKey) → def.foreign_key ≡ Some foreign → foreign.parent.0 < length schema) → RefersBack (schema ++ def ∷ [])
defined_back schema def back new t other foreign is key = elim (last_or schema def t other is) [
  | inl old ↦ back t other foreign old key
  | inr last ↦ (let lt = new foreign (ap (λ (d : TableDef). d.foreign_key) last.1 ∙ key) in let at = last.0 in omega (arith, lt, at))
]

-- a table of a name is there
place_within : {X : Type 0} (p : X → Bool) (xs : List X) (i : ℕ) → position p xs ≡ Some i → i < length xs
place_within p xs i h = by (nat_lt (position_or_len p xs) (length xs)) refl h
  where
    by : (b : Bool) → nat_lt (position_or_len p xs) (length xs) ≡ b → cond b (Some (position_or_len p xs)) None ≡ Some i → i < length xs
    by true lt h = subst (λ n. n < length xs) (same_some h) (ltb-true _ _ lt)
    by false lt h = cc

pub resolved_back : (d : TableDeclaration) (schema : List TableDef) → fault_of d schema ≡ None → RefersBack schema → RefersBack (schema ++ resolved d schema ∷ [])
resolved_back d schema none back = defined_back schema (resolved d schema) back (λ foreign key. within d.foreign_key (first_none _ _ none) foreign key)
  where
    first_none : (a b : Option Rule) → option_or a b ≡ None → a ≡ None
    first_none None b h = refl
    first_none (Some x) b h = cc

    no_name : (o : Option (List ℕ)) → broken_at UnknownTable o ≡ None → o ≡ None
    no_name None h = refl
    no_name (Some name) h = cc

    id_within : (o : Option ℕ) (id : TableId) → option_and_then table_id o ≡ Some id → o ≡ Some id.0
    id_within None id h = cc
    id_within (Some i) id h = by (nat_lt i (2 ^ 32)) h
      where
        by : (b : Bool) → cond b (Some (record { 0 = i })) None ≡ Some id → Some i ≡ Some id.0
        by true h = ap (λ (x : TableId). Some x.0) (same_some h)
        by false h = cc

    there : (f : ForeignKeyDeclaration) (o : Option TableId) → place_of_table schema f.parent ≡ o → cond (is_some o) None (Some f.parent) ≡ None → (foreign : ForeignKey) → Some (resolved_reference d schema f) ≡ Some foreign → foreign.parent.0 < length schema
    there f None is h foreign key = cc
    there f (Some id) is h foreign key =
        let parent : (resolved_reference d schema f).parent ≡ id = ap (λ o. unwrap_or o (record { 0 = 0 })) is in
        let number : foreign.parent.0 ≡ id.0 = ap (λ (x : ForeignKey). x.parent.0) (sym (same_some key)) ∙ ap (λ (x : TableId). x.0) parent in
        let lt = place_within (λ def. same_name def.name f.parent) schema id.0 (id_within (position (λ def. same_name def.name f.parent) schema) id is) in
        omega (arith, number, lt)

    within : (o : Option ForeignKeyDeclaration) → broken_at UnknownTable (missing_parent schema o) ≡ None → (foreign : ForeignKey) → option_map (resolved_reference d schema) o ≡ Some foreign → foreign.parent.0 < length schema
    within None h foreign key = cc
    within (Some f) h foreign key = there f (place_of_table schema f.parent) refl (no_name (missing_parent schema (Some f)) h) foreign key
