-- The words of a chain: those of its first part, and those of each further one.
use Rattle.std.proofs.Common.{◌≡◌, ◌≤◌, ℕ, Bool, List, [], ◌∷◌, ◌++◌, codes, length, Result, OnOk, ap, sym, ◌∙◌}
use Rattle.std.proofs.Common.{append_assoc, append-nil, arith}
use Rattle.sql_phrases.specs.sql_query.specs.Trees.{ExpressionTree, ConditionTree, Binary, All, Any}
use Rattle.sql_phrases.specs.sql_query.specs.Views.{chained, all_of, any_of}
use Rattle.sql_phrases.specs.sql_query.specs.declared.expression.Link.{Link}
use Rattle.sql_words.specs.declared.condition.Strength.{Strength}
use Rattle.sql_words.specs.declared.condition.Strength.TheVariants.{Loose, Middle, Tight}
use Rattle.sql_words.specs.Words.{Word, spaced, where_so}
use Rattle.sql_words.specs.Trees.{operation_word, expression_words, link_words}
use Rattle.sql_words.specs.Trees.{binds_and, binds_or, bracketed, condition_words, other_words}
use Rattle.sql_words.proofs.Puts.{two, two_ok}

pub chain_words : (e : ExpressionTree) (links : List Link)
    → expression_words (chained e links) ≡ expression_words e ++ link_words links
chain_words e [] = sym (append-nil (expression_words e))
chain_words e (link ∷ links) =
    chain_words (Binary link.operation e link.operand) links
    ∙ append_assoc (expression_words e) (operation_word link.operation ∷ expression_words link.operand)
    (link_words links)

-- The inner ones on the left have no parentheses.
pub all_words : (s : Strength) (c : ConditionTree) (ds : List ConditionTree) → 1 ≤ length ds
    → condition_words s (all_of c ds)
    ≡ bracketed (binds_and s) (condition_words Middle c ++ other_words (codes "AND") Tight ds)
all_words s c [] h = absurd (omega (arith, h))
all_words s c (d ∷ []) h =
    ap (λ ws. bracketed (binds_and s) (condition_words Middle c ++ codes "AND" ∷ ws))
    (sym (append-nil (condition_words Tight d)))
all_words s c (d ∷ e ∷ es) h =
    all_words s (All c d) (e ∷ es) (omega arith)
    ∙ ap (λ ws. bracketed (binds_and s) (ws ++ other_words (codes "AND") Tight (e ∷ es)))
    (append-nil (condition_words Middle c ++ codes "AND" ∷ condition_words Tight d))
    ∙ ap (λ ws. bracketed (binds_and s) ws)
    (append_assoc (condition_words Middle c) (codes "AND" ∷ condition_words Tight d)
    (other_words (codes "AND") Tight (e ∷ es)))

pub any_words : (s : Strength) (c : ConditionTree) (ds : List ConditionTree) → 1 ≤ length ds
    → condition_words s (any_of c ds)
    ≡ bracketed (binds_or s) (condition_words Loose c ++ other_words (codes "OR") Middle ds)
any_words s c [] h = absurd (omega (arith, h))
any_words s c (d ∷ []) h =
    ap (λ ws. bracketed (binds_or s) (condition_words Loose c ++ codes "OR" ∷ ws))
    (sym (append-nil (condition_words Middle d)))
any_words s c (d ∷ e ∷ es) h =
    any_words s (Any c d) (e ∷ es) (omega arith)
    ∙ ap (λ ws. bracketed (binds_or s) (ws ++ other_words (codes "OR") Middle (e ∷ es)))
    (append-nil (condition_words Loose c ++ codes "OR" ∷ condition_words Middle d))
    ∙ ap (λ ws. bracketed (binds_or s) ws)
    (append_assoc (condition_words Loose c) (codes "OR" ∷ condition_words Middle d)
    (other_words (codes "OR") Middle (e ∷ es)))

-- a parenthesis, the first part, the others and a parenthesis, put one behind the other
pub bracketed_ok : {A E : Type 0} (r : Result A E) (old opened begun ended new : List ℕ) (needed : Bool)
    (first others : List Word)
    → opened ≡ old ++ spaced (where_so needed (codes "(" ∷ [])) → begun ≡ opened ++ spaced first
    → ended ≡ begun ++ spaced others → OnOk r (new ≡ ended ++ spaced (where_so needed (codes ")" ∷ [])))
    → OnOk r (new ≡ old ++ spaced (bracketed needed (first ++ others)))
bracketed_ok r old opened begun ended new needed first others h1 h2 h3 h4 =
    let open_words = where_so needed (codes "(" ∷ []) in
    let close_words = where_so needed (codes ")" ∷ []) in
    two_ok r old ended new (open_words ++ (first ++ others)) close_words
    (two old opened ended open_words (first ++ others) h1 (two opened begun ended first others h2 h3)) h4
