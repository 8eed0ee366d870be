-- WITH ID once its literals are read.
use Rattle.std.proofs.Common.{◌≡◌, ◌∙◌, List, [], ◌∷◌, Option, Some, None, ◌&&◌, ◌||◌, ap, refl, sym, subst, arith, is_none}
use Rattle.std.proofs.lemmas.Bool.Decides.{nat_tests}
use Rattle.std.specs.List.{list_any}
use Rattle.std.specs.Option.{option_and_then, option_map}
use Rattle.row_types.specs.declared.value.Value.{Value}
use Rattle.sql_query.specs.declared.literal.Literal.{Literal}
use Rattle.sql_query.specs.Literals.{value_of}
use Rattle.cache_tier.specs.Conditions.{is_id, same_value, unheld_in_id}
use Rattle.group_catalog.specs.Identified.{are_equal, values_of}

none_map : (v : Value) (o : Option (List Value)) → is_none (option_map (λ (vs : List Value). v ∷ vs) o) ≡ is_none o
none_map v None = refl
none_map v (Some vs) = refl

unheld_in : (ls : List Literal) → is_none (values_of ls) ≡ list_any (λ (l : Literal). is_none (value_of l)) ls
unheld_in [] = refl
unheld_in (l ∷ ls) = by (value_of l) (unheld_in ls)
  where
    by : (o : Option Value) → is_none (values_of ls) ≡ list_any (λ (m : Literal). is_none (value_of m)) ls
        → is_none (option_and_then (λ (v : Value). option_map (λ (vs : List Value). v ∷ vs) (values_of ls)) o)
        ≡ (is_none o || list_any (λ (m : Literal). is_none (value_of m)) ls)
    by None ih = refl
    by (Some v) ih = none_map v (values_of ls) ∙ ih

-- whether some literal has no value
pub unheld_of : (id : Option (List Literal)) (ls : List Literal) (vs : Option (List Value)) → id ≡ Some ls → vs ≡ values_of ls
    → is_none vs ≡ unheld_in_id id
unheld_of id ls vs is read = ap is_none read ∙ unheld_in ls ∙ ap unheld_in_id (sym is)

given_in : (ls : List Literal) (vs : List Value) → Some vs ≡ values_of ls → (key : List Value) → are_equal key vs ≡ is_id key (Some ls)
given_in [] vs e key = let none : [] ≡ vs = cc in subst (λ (ws : List Value). are_equal key ws ≡ is_id key (Some [])) none (by key)
  where
    by : (key : List Value) → are_equal key [] ≡ is_id key (Some [])
    by [] = refl
    by (v ∷ key) = grind (arith, nat_tests)
given_in (l ∷ ls) vs e key =
    by (value_of l) refl (values_of ls) e (λ (ws : List Value) (h : Some ws ≡ values_of ls) (rest : List Value). given_in ls ws h rest)
  where
    match_key : (v : Value) (ws : List Value) → value_of l ≡ Some v → ((rest : List Value) → are_equal rest ws ≡ is_id rest (Some ls))
        → (k : List Value) → are_equal k (v ∷ ws) ≡ is_id k (Some (l ∷ ls))
    match_key v ws is more [] = refl
    match_key v ws is more (a ∷ rest) =
        ap (λ (o : Option Value). same_value a o && are_equal rest ws) (sym is) ∙ ap (λ b. same_value a (value_of l) && b) (more rest)

    by : (o : Option Value) → value_of l ≡ o → (p : Option (List Value))
        → Some vs ≡ option_and_then (λ (v : Value). option_map (λ (ws : List Value). v ∷ ws) p) o
        → ((ws : List Value) → Some ws ≡ p → (rest : List Value) → are_equal rest ws ≡ is_id rest (Some ls))
        → are_equal key vs ≡ is_id key (Some (l ∷ ls))
    by None is p e more = cc
    by (Some v) is None e more = cc
    by (Some v) is (Some ws) e more =
        let same : v ∷ ws ≡ vs = cc in
        subst (λ (us : List Value). are_equal key us ≡ is_id key (Some (l ∷ ls))) same (match_key v ws is (more ws refl) key)

-- a key has the values exactly where it is the one of WITH ID
pub given_of : (id : Option (List Literal)) (ls : List Literal) (vs : List Value) → id ≡ Some ls → Some vs ≡ values_of ls
    → (key : List Value) → are_equal key vs ≡ is_id key id
given_of id ls vs is read key = given_in ls vs read key ∙ ap (is_id key) (sym is)
