-- How values of the trees are told apart: a tree is coded by the list of its nodes, children first, from which it is
-- read back. No contract speaks of it.

use Rattle.std.specs.Prelude.{ℕ, zero, suc, ◌≡◌, refl, ℤ, List, [], ◌∷◌, ◌++◌, ◌⊎◌}
use Rattle.std.specs.Coded.{Coded, code_by, coded×, coded⊎, coded_list, coded_ℕ, coded_ℤ}
use Rattle.std.proofs.Common.{inl, inr, ap, ◌∙◌}
use Rattle.row_types.specs.declared.value.Value.{Value}
use Rattle.row_types.specs.declared.value.Value.TheVariants.{Null, Number, Text, Time}
use Rattle.expressions.specs.declared.condition.Comparator.{Comparator}
use Rattle.expressions.specs.declared.condition.Comparator.TheVariants.{Equal, NotEqual, Less, AtMost, Greater, AtLeast}
use Rattle.expressions.specs.declared.expression.Arithmetic.{Arithmetic}
use Rattle.expressions.specs.declared.expression.Arithmetic.TheVariants.{Plus, Minus, Times}
use Rattle.expressions.specs.Trees.{Expr, Cond, Literal, Column, Binary, Compared, IsNull, Between, In, Not, And, Or}

abbrev ValueParts : Type 0
ValueParts = ℕ ⊎ ((ℤ × ℕ) ⊎ (List ℕ ⊎ ℤ))

abbrev value_parts : Value → ValueParts
value_parts Null = inl 0
value_parts (Number n) = inr (inl (n.units, n.scale))
value_parts (Text bytes) = inr (inr (inl bytes))
value_parts (Time seconds) = inr (inr (inr seconds))

abbrev value_from : ValueParts → Value
value_from (inl n) = Null
value_from (inr (inl p)) = Number (record { units = p.0; scale = p.1 })
value_from (inr (inr (inl bytes))) = Text bytes
value_from (inr (inr (inr seconds))) = Time seconds

pub value_from-parts : (v : Value) → value_from (value_parts v) ≡ v
value_from-parts Null = refl
value_from-parts (Number n) = refl
value_from-parts (Text bytes) = refl
value_from-parts (Time seconds) = refl

abbrev value_code : Coded Value
value_code =
    code_by ValueParts (coded⊎ coded_ℕ (coded⊎ (coded× coded_ℤ coded_ℕ)
    (coded⊎ (coded_list coded_ℕ) coded_ℤ)))
    value_parts value_from value_from-parts

abbrev arithmetic_number : Arithmetic → ℕ
arithmetic_number Plus = 0
arithmetic_number Minus = 1
arithmetic_number Times = 2

abbrev arithmetic_from : ℕ → Arithmetic
arithmetic_from zero = Plus
arithmetic_from (suc zero) = Minus
arithmetic_from (suc (suc n)) = Times

pub arithmetic_from-number : (o : Arithmetic) → arithmetic_from (arithmetic_number o) ≡ o
arithmetic_from-number Plus = refl
arithmetic_from-number Minus = refl
arithmetic_from-number Times = refl

abbrev pub arithmetic_code : Coded Arithmetic
arithmetic_code = code_by ℕ coded_ℕ arithmetic_number arithmetic_from arithmetic_from-number

abbrev comparator_number : Comparator → ℕ
comparator_number Equal = 0
comparator_number NotEqual = 1
comparator_number Less = 2
comparator_number AtMost = 3
comparator_number Greater = 4
comparator_number AtLeast = 5

abbrev comparator_from : ℕ → Comparator
comparator_from zero = Equal
comparator_from (suc zero) = NotEqual
comparator_from (suc (suc zero)) = Less
comparator_from (suc (suc (suc zero))) = AtMost
comparator_from (suc (suc (suc (suc zero)))) = Greater
comparator_from (suc (suc (suc (suc (suc n))))) = AtLeast

pub comparator_from-number : (k : Comparator) → comparator_from (comparator_number k) ≡ k
comparator_from-number Equal = refl
comparator_from-number NotEqual = refl
comparator_from-number Less = refl
comparator_from-number AtMost = refl
comparator_from-number Greater = refl
comparator_from-number AtLeast = refl

abbrev pub comparator_code : Coded Comparator
comparator_code = code_by ℕ coded_ℕ comparator_number comparator_from comparator_from-number

-- the last of the trees that were read
abbrev last_or : {A : Type 0} → A → List A → A
last_or d [] = d
last_or d (t ∷ stack) = t

-- the nodes of an expression: a literal, a column, an operation
abbrev ExpressionMark : Type 0
ExpressionMark = Value ⊎ (ℕ ⊎ Arithmetic)

abbrev expression_marks : Expr → List ExpressionMark
expression_marks (Literal value) = inl value ∷ []
expression_marks (Column place) = inr (inl place) ∷ []
expression_marks (Binary o a b) = expression_marks a ++ (expression_marks b ++ inr (inr o) ∷ [])

abbrev read_expression_mark : ExpressionMark → List Expr → List Expr
read_expression_mark (inl value) stack = Literal value ∷ stack
read_expression_mark (inr (inl place)) stack = Column place ∷ stack
read_expression_mark (inr (inr o)) (b ∷ a ∷ stack) = Binary o a b ∷ stack
read_expression_mark (inr (inr o)) (b ∷ []) = []
read_expression_mark (inr (inr o)) [] = []

abbrev read_expression : List ExpressionMark → List Expr → List Expr
read_expression [] stack = stack
read_expression (m ∷ ms) stack = read_expression ms (read_expression_mark m stack)

read_expression-append : (ms ns : List ExpressionMark) (stack : List Expr)
    → read_expression (ms ++ ns) stack ≡ read_expression ns (read_expression ms stack)
read_expression-append [] ns stack = refl
read_expression-append (m ∷ ms) ns stack = read_expression-append ms ns (read_expression_mark m stack)

pub read_expression-marks : (e : Expr) (stack : List Expr)
    → read_expression (expression_marks e) stack ≡ e ∷ stack
read_expression-marks (Literal value) stack = refl
read_expression-marks (Column place) stack = refl
read_expression-marks (Binary o a b) stack =
    read_expression-append (expression_marks a) (expression_marks b ++ inr (inr o) ∷ []) stack
    ∙ ap (λ s. read_expression (expression_marks b ++ inr (inr o) ∷ []) s) (read_expression-marks a stack)
    ∙ read_expression-append (expression_marks b) (inr (inr o) ∷ []) (a ∷ stack)
    ∙ ap (λ s. read_expression (inr (inr o) ∷ []) s) (read_expression-marks b (a ∷ stack))

abbrev pub expression_code : Coded Expr
expression_code =
    code_by (List ExpressionMark) (coded_list (coded⊎ value_code (coded⊎ coded_ℕ arithmetic_code)))
    expression_marks (λ ms. last_or (Literal Null) (read_expression ms []))
    (λ e. ap (last_or (Literal Null)) (read_expression-marks e []))

-- the nodes of a condition: those without conditions inside, then NOT, AND and OR
abbrev ConditionLeaf : Type 0
ConditionLeaf = (Comparator × (Expr × Expr)) ⊎ (Expr ⊎ ((Expr × (Expr × Expr)) ⊎ (Expr × List Expr)))

abbrev ConditionMark : Type 0
ConditionMark = ConditionLeaf ⊎ ℕ

abbrev condition_marks : Cond → List ConditionMark
condition_marks (Compared k a b) = inl (inl (k, (a, b))) ∷ []
condition_marks (IsNull a) = inl (inr (inl a)) ∷ []
condition_marks (Between a low high) = inl (inr (inr (inl (a, (low, high))))) ∷ []
condition_marks (In a list) = inl (inr (inr (inr (a, list)))) ∷ []
condition_marks (Not x) = condition_marks x ++ inr 0 ∷ []
condition_marks (And x y) = condition_marks x ++ (condition_marks y ++ inr 1 ∷ [])
condition_marks (Or x y) = condition_marks x ++ (condition_marks y ++ inr 2 ∷ [])

abbrev leaf_from : ConditionLeaf → Cond
leaf_from (inl p) = Compared p.0 p.1.0 p.1.1
leaf_from (inr (inl a)) = IsNull a
leaf_from (inr (inr (inl p))) = Between p.0 p.1.0 p.1.1
leaf_from (inr (inr (inr p))) = In p.0 p.1

abbrev read_condition_mark : ConditionMark → List Cond → List Cond
read_condition_mark (inl leaf) stack = leaf_from leaf ∷ stack
read_condition_mark (inr zero) (x ∷ stack) = Not x ∷ stack
read_condition_mark (inr zero) [] = []
read_condition_mark (inr (suc zero)) (y ∷ x ∷ stack) = And x y ∷ stack
read_condition_mark (inr (suc zero)) (y ∷ []) = []
read_condition_mark (inr (suc zero)) [] = []
read_condition_mark (inr (suc (suc n))) (y ∷ x ∷ stack) = Or x y ∷ stack
read_condition_mark (inr (suc (suc n))) (y ∷ []) = []
read_condition_mark (inr (suc (suc n))) [] = []

abbrev read_condition : List ConditionMark → List Cond → List Cond
read_condition [] stack = stack
read_condition (m ∷ ms) stack = read_condition ms (read_condition_mark m stack)

read_condition-append : (ms ns : List ConditionMark) (stack : List Cond)
    → read_condition (ms ++ ns) stack ≡ read_condition ns (read_condition ms stack)
read_condition-append [] ns stack = refl
read_condition-append (m ∷ ms) ns stack = read_condition-append ms ns (read_condition_mark m stack)

-- two conditions and a mark behind them
read_condition-two : (xs ys : List ConditionMark) (m : ConditionMark) (x y : Cond) (stack : List Cond)
    → read_condition xs stack ≡ x ∷ stack → read_condition ys (x ∷ stack) ≡ y ∷ x ∷ stack
    → read_condition (xs ++ (ys ++ m ∷ [])) stack ≡ read_condition_mark m (y ∷ x ∷ stack)
read_condition-two xs ys m x y stack p q =
    read_condition-append xs (ys ++ m ∷ []) stack
    ∙ ap (λ s. read_condition (ys ++ m ∷ []) s) p
    ∙ read_condition-append ys (m ∷ []) (x ∷ stack)
    ∙ ap (λ s. read_condition (m ∷ []) s) q

pub read_condition-marks : (c : Cond) (stack : List Cond)
    → read_condition (condition_marks c) stack ≡ c ∷ stack
read_condition-marks (Compared k a b) stack = refl
read_condition-marks (IsNull a) stack = refl
read_condition-marks (Between a low high) stack = refl
read_condition-marks (In a list) stack = refl
read_condition-marks (Not x) stack =
    read_condition-append (condition_marks x) (inr 0 ∷ []) stack ∙ ap (λ s. read_condition (inr 0 ∷ []) s)
    (read_condition-marks x stack)
read_condition-marks (And x y) stack =
    read_condition-two (condition_marks x) (condition_marks y) (inr 1) x y stack (read_condition-marks x stack)
    (read_condition-marks y (x ∷ stack))
read_condition-marks (Or x y) stack =
    read_condition-two (condition_marks x) (condition_marks y) (inr 2) x y stack (read_condition-marks x stack)
    (read_condition-marks y (x ∷ stack))

abbrev leaf_code : Coded ConditionLeaf
leaf_code =
    coded⊎ (coded× comparator_code (coded× expression_code expression_code))
    (coded⊎ expression_code (coded⊎ (coded× expression_code (coded× expression_code expression_code))
    (coded× expression_code (coded_list expression_code))))

abbrev pub condition_code : Coded Cond
condition_code =
    code_by (List ConditionMark) (coded_list (coded⊎ leaf_code coded_ℕ)) condition_marks
    (λ ms. last_or (IsNull (Literal Null)) (read_condition ms []))
    (λ c. ap (last_or (IsNull (Literal Null))) (read_condition-marks c []))
