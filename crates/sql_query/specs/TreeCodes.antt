-- How values of the trees are told apart: a tree is coded by the list of its nodes, children first, from which it is
-- read back. No contract speaks of it.

use Rattle.std.specs.Prelude.{ℕ, zero, suc, ◌≡◌, refl, Bool, false, List, [], ◌∷◌, ◌++◌, ◌⊎◌}
use Rattle.std.specs.Coded.{Coded, code_by, coded×, coded⊎, coded_bool, coded_list, coded_ℕ}
use Rattle.std.proofs.Common.{inl, inr, ap, ◌∙◌}
use Rattle.expressions.specs.declared.condition.Comparator.{Comparator}
use Rattle.expressions.specs.declared.condition.Comparator.TheVariants.{Equal, NotEqual, Less, AtMost, Greater, AtLeast}
use Rattle.expressions.specs.declared.expression.Arithmetic.{Arithmetic}
use Rattle.expressions.specs.declared.expression.Arithmetic.TheVariants.{Plus, Minus, Times}
use Rattle.sql_query.specs.declared.literal.Literal.{Literal}
use Rattle.sql_query.specs.declared.literal.Literal.TheVariants.{Null, Number, Text, Time}
use Rattle.sql_query.specs.Trees.{ExpressionTree, ConditionTree, Constant, Column, Binary, Compared, Missing, Between, Among, Not, All, Any}

abbrev LiteralParts : Type 0
LiteralParts = ℕ ⊎ ((Bool × List ℕ) ⊎ (List ℕ ⊎ List ℕ))

abbrev literal_parts : Literal → LiteralParts
literal_parts Null = inl 0
literal_parts (Number i) = inr (inl (i.negative, i.digits))
literal_parts (Text bytes) = inr (inr (inl bytes))
literal_parts (Time text) = inr (inr (inr text))

abbrev literal_from : LiteralParts → Literal
literal_from (inl n) = Null
literal_from (inr (inl p)) = Number (record { negative = p.0; digits = p.1 })
literal_from (inr (inr (inl bytes))) = Text bytes
literal_from (inr (inr (inr text))) = Time text

pub literal_from-parts : (l : Literal) → literal_from (literal_parts l) ≡ l
literal_from-parts Null = refl
literal_from-parts (Number i) = refl
literal_from-parts (Text bytes) = refl
literal_from-parts (Time text) = refl

abbrev pub literal_code : Coded Literal
literal_code =
    code_by LiteralParts (coded⊎ coded_ℕ (coded⊎ (coded× coded_bool (coded_list coded_ℕ))
    (coded⊎ (coded_list coded_ℕ) (coded_list coded_ℕ))))
    literal_parts literal_from literal_from-parts

abbrev arithmetic_number : Arithmetic → ℕ
arithmetic_number Plus = 0
arithmetic_number Minus = 1
arithmetic_number Times = 2

abbrev arithmetic_from : ℕ → Arithmetic
arithmetic_from zero = Plus
arithmetic_from (suc zero) = Minus
arithmetic_from (suc (suc n)) = Times

pub arithmetic_from-number : (o : Arithmetic) → arithmetic_from (arithmetic_number o) ≡ o
arithmetic_from-number Plus = refl
arithmetic_from-number Minus = refl
arithmetic_from-number Times = refl

abbrev pub arithmetic_code : Coded Arithmetic
arithmetic_code = code_by ℕ coded_ℕ arithmetic_number arithmetic_from arithmetic_from-number

abbrev comparator_number : Comparator → ℕ
comparator_number Equal = 0
comparator_number NotEqual = 1
comparator_number Less = 2
comparator_number AtMost = 3
comparator_number Greater = 4
comparator_number AtLeast = 5

abbrev comparator_from : ℕ → Comparator
comparator_from zero = Equal
comparator_from (suc zero) = NotEqual
comparator_from (suc (suc zero)) = Less
comparator_from (suc (suc (suc zero))) = AtMost
comparator_from (suc (suc (suc (suc zero)))) = Greater
comparator_from (suc (suc (suc (suc (suc n))))) = AtLeast

pub comparator_from-number : (k : Comparator) → comparator_from (comparator_number k) ≡ k
comparator_from-number Equal = refl
comparator_from-number NotEqual = refl
comparator_from-number Less = refl
comparator_from-number AtMost = refl
comparator_from-number Greater = refl
comparator_from-number AtLeast = refl

abbrev pub comparator_code : Coded Comparator
comparator_code = code_by ℕ coded_ℕ comparator_number comparator_from comparator_from-number

-- the last of the trees that were read
abbrev last_or : {A : Type 0} → A → List A → A
last_or d [] = d
last_or d (t ∷ stack) = t

-- the nodes of an expression: a literal, a column, an operation
abbrev ExpressionMark : Type 0
ExpressionMark = Literal ⊎ (List ℕ ⊎ Arithmetic)

abbrev expression_marks : ExpressionTree → List ExpressionMark
expression_marks (Constant literal) = inl literal ∷ []
expression_marks (Column name) = inr (inl name) ∷ []
expression_marks (Binary o a b) = expression_marks a ++ (expression_marks b ++ inr (inr o) ∷ [])

abbrev read_expression_mark : ExpressionMark → List ExpressionTree → List ExpressionTree
read_expression_mark (inl literal) stack = Constant literal ∷ stack
read_expression_mark (inr (inl name)) stack = Column name ∷ stack
read_expression_mark (inr (inr o)) (b ∷ a ∷ stack) = Binary o a b ∷ stack
read_expression_mark (inr (inr o)) (b ∷ []) = []
read_expression_mark (inr (inr o)) [] = []

abbrev read_expression : List ExpressionMark → List ExpressionTree → List ExpressionTree
read_expression [] stack = stack
read_expression (m ∷ ms) stack = read_expression ms (read_expression_mark m stack)

read_expression-append : (ms ns : List ExpressionMark) (stack : List ExpressionTree)
    → read_expression (ms ++ ns) stack ≡ read_expression ns (read_expression ms stack)
read_expression-append [] ns stack = refl
read_expression-append (m ∷ ms) ns stack = read_expression-append ms ns (read_expression_mark m stack)

pub read_expression-marks : (e : ExpressionTree) (stack : List ExpressionTree)
    → read_expression (expression_marks e) stack ≡ e ∷ stack
read_expression-marks (Constant literal) stack = refl
read_expression-marks (Column name) stack = refl
read_expression-marks (Binary o a b) stack =
    read_expression-append (expression_marks a) (expression_marks b ++ inr (inr o) ∷ []) stack
    ∙ ap (λ s. read_expression (expression_marks b ++ inr (inr o) ∷ []) s) (read_expression-marks a stack)
    ∙ read_expression-append (expression_marks b) (inr (inr o) ∷ []) (a ∷ stack)
    ∙ ap (λ s. read_expression (inr (inr o) ∷ []) s) (read_expression-marks b (a ∷ stack))

abbrev pub expression_code : Coded ExpressionTree
expression_code =
    code_by (List ExpressionMark) (coded_list (coded⊎ literal_code (coded⊎ (coded_list coded_ℕ) arithmetic_code)))
    expression_marks (λ ms. last_or (Constant Null) (read_expression ms []))
    (λ e. ap (last_or (Constant Null)) (read_expression-marks e []))

-- the nodes of a condition: those without conditions inside, then NOT, AND and OR
abbrev ConditionLeaf : Type 0
ConditionLeaf = (Comparator × (ExpressionTree × ExpressionTree))
    ⊎ ((Bool × ExpressionTree) ⊎ ((Bool × (ExpressionTree × (ExpressionTree × ExpressionTree)))
    ⊎ (Bool × (ExpressionTree × List ExpressionTree))))

abbrev ConditionMark : Type 0
ConditionMark = ConditionLeaf ⊎ ℕ

abbrev condition_marks : ConditionTree → List ConditionMark
condition_marks (Compared k a b) = inl (inl (k, (a, b))) ∷ []
condition_marks (Missing negated a) = inl (inr (inl (negated, a))) ∷ []
condition_marks (Between negated a low high) = inl (inr (inr (inl (negated, (a, (low, high)))))) ∷ []
condition_marks (Among negated a list) = inl (inr (inr (inr (negated, (a, list))))) ∷ []
condition_marks (Not x) = condition_marks x ++ inr 0 ∷ []
condition_marks (All x y) = condition_marks x ++ (condition_marks y ++ inr 1 ∷ [])
condition_marks (Any x y) = condition_marks x ++ (condition_marks y ++ inr 2 ∷ [])

abbrev leaf_from : ConditionLeaf → ConditionTree
leaf_from (inl p) = Compared p.0 p.1.0 p.1.1
leaf_from (inr (inl p)) = Missing p.0 p.1
leaf_from (inr (inr (inl p))) = Between p.0 p.1.0 p.1.1.0 p.1.1.1
leaf_from (inr (inr (inr p))) = Among p.0 p.1.0 p.1.1

abbrev read_condition_mark : ConditionMark → List ConditionTree → List ConditionTree
read_condition_mark (inl leaf) stack = leaf_from leaf ∷ stack
read_condition_mark (inr zero) (x ∷ stack) = Not x ∷ stack
read_condition_mark (inr zero) [] = []
read_condition_mark (inr (suc zero)) (y ∷ x ∷ stack) = All x y ∷ stack
read_condition_mark (inr (suc zero)) (y ∷ []) = []
read_condition_mark (inr (suc zero)) [] = []
read_condition_mark (inr (suc (suc n))) (y ∷ x ∷ stack) = Any x y ∷ stack
read_condition_mark (inr (suc (suc n))) (y ∷ []) = []
read_condition_mark (inr (suc (suc n))) [] = []

abbrev read_condition : List ConditionMark → List ConditionTree → List ConditionTree
read_condition [] stack = stack
read_condition (m ∷ ms) stack = read_condition ms (read_condition_mark m stack)

read_condition-append : (ms ns : List ConditionMark) (stack : List ConditionTree)
    → read_condition (ms ++ ns) stack ≡ read_condition ns (read_condition ms stack)
read_condition-append [] ns stack = refl
read_condition-append (m ∷ ms) ns stack = read_condition-append ms ns (read_condition_mark m stack)

-- two conditions and a mark behind them
read_condition-two : (xs ys : List ConditionMark) (m : ConditionMark) (x y : ConditionTree) (stack : List ConditionTree)
    → read_condition xs stack ≡ x ∷ stack → read_condition ys (x ∷ stack) ≡ y ∷ x ∷ stack
    → read_condition (xs ++ (ys ++ m ∷ [])) stack ≡ read_condition_mark m (y ∷ x ∷ stack)
read_condition-two xs ys m x y stack p q =
    read_condition-append xs (ys ++ m ∷ []) stack
    ∙ ap (λ s. read_condition (ys ++ m ∷ []) s) p
    ∙ read_condition-append ys (m ∷ []) (x ∷ stack)
    ∙ ap (λ s. read_condition (m ∷ []) s) q

pub read_condition-marks : (c : ConditionTree) (stack : List ConditionTree)
    → read_condition (condition_marks c) stack ≡ c ∷ stack
read_condition-marks (Compared k a b) stack = refl
read_condition-marks (Missing negated a) stack = refl
read_condition-marks (Between negated a low high) stack = refl
read_condition-marks (Among negated a list) stack = refl
read_condition-marks (Not x) stack =
    read_condition-append (condition_marks x) (inr 0 ∷ []) stack ∙ ap (λ s. read_condition (inr 0 ∷ []) s)
    (read_condition-marks x stack)
read_condition-marks (All x y) stack =
    read_condition-two (condition_marks x) (condition_marks y) (inr 1) x y stack (read_condition-marks x stack)
    (read_condition-marks y (x ∷ stack))
read_condition-marks (Any x y) stack =
    read_condition-two (condition_marks x) (condition_marks y) (inr 2) x y stack (read_condition-marks x stack)
    (read_condition-marks y (x ∷ stack))

abbrev leaf_code : Coded ConditionLeaf
leaf_code =
    coded⊎ (coded× comparator_code (coded× expression_code expression_code))
    (coded⊎ (coded× coded_bool expression_code)
    (coded⊎ (coded× coded_bool (coded× expression_code (coded× expression_code expression_code)))
    (coded× coded_bool (coded× expression_code (coded_list expression_code)))))

abbrev pub condition_code : Coded ConditionTree
condition_code =
    code_by (List ConditionMark) (coded_list (coded⊎ leaf_code coded_ℕ)) condition_marks
    (λ ms. last_or (Missing false (Constant Null)) (read_condition ms []))
    (λ c. ap (last_or (Missing false (Constant Null))) (read_condition-marks c []))
