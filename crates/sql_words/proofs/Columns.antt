-- The columns of a table in its normal form.
use Rattle.std.proofs.Common.{◌≡◌, ℕ, List, [], ◌∷◌, ◌++◌, map, Option, refl, ap}
use Rattle.std.specs.Option.{option_or}
use Rattle.std.proofs.lemmas.List.Folds.{flat_map-map}
use Rattle.sql_phrases.specs.row_types.specs.declared.declaration.TableDeclaration.{TableDeclaration}
use Rattle.sql_words.specs.Words.{Word, listed}
use Rattle.sql_words.specs.Tables.{column_words, key_words, foreign_words, element_words}
use Rattle.sql_words.specs.NormalTables.{foreign_columns, normal_column, with_key}

listed_map : {A : Type 0} (f : A → List Word) (g : A → A) (xs : List A) → listed f (map g xs) ≡ listed (λ x. f (g x)) xs
listed_map f g [] = refl
listed_map f g (x ∷ xs) = ap (λ ws. f (g x) ++ ws) (flat_map-map (λ y. (44 ∷ []) ∷ f y) g xs)

pub elements_by : (key : Option (List (List ℕ))) (t : TableDeclaration)
    → element_words (with_key key t) ≡ listed (λ c. column_words (normal_column key (foreign_columns t.foreign_key) c)) t.columns ++ key_words (option_or key t.primary_key) ++ foreign_words t.foreign_key
elements_by key t =
    ap (λ ws. ws ++ key_words (option_or key t.primary_key) ++ foreign_words t.foreign_key) (listed_map column_words (normal_column key (foreign_columns t.foreign_key)) t.columns)
