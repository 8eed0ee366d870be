-- The stack as parts: what a push and a pop do.
use Rattle.std.proofs.Common.{◌≡◌, List, [], ◌∷◌, ◌++◌, Option, Some, None, IfSome, option_to_list, refl}
use Rattle.sql_grammar.specs.declared.engine.Entry.{Entry}
use Rattle.sql_grammar.specs.Grammar.{Parts, Part, Over}
use Rattle.sql_grammar.specs.Machine.{view, stacked, parts_of}

pub stacked-push : (ps : Parts) (es : List Entry) (e : Entry) → stacked ps (es ++ e ∷ []) ≡ Part e.level (view e.part.now) (stacked ps es)
stacked-push ps [] e = refl
stacked-push ps (x ∷ es) e = stacked-push (Part x.level (view x.part.now) ps) es e

-- what a pop gave was the uppermost part
pub stacked-pop : (es fs : List Entry) (o : Option Entry) → es ≡ fs ++ option_to_list o → IfSome o (λ e. parts_of es ≡ Part e.level (view e.part.now) (parts_of fs))
stacked-pop es fs None h = tt
stacked-pop es fs (Some e) h = rw h (stacked-push Over fs e)
