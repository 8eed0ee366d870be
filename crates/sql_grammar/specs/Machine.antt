-- The steps of the engine over a stack of grammar parts.
use Rattle.std.specs.Prelude.{suc, ◌≡◌, Bool, false, nat_lt, List, [], ◌∷◌, Option, Some, None, if◌then◌else◌}
use Rattle.sql_tokens.specs.declared.kind.Kind.{Kind}
use Rattle.sql_grammar.specs.declared.test.Test.{Test}
use Rattle.sql_grammar.specs.declared.rule.Rule.{Rule}
use Rattle.sql_grammar.specs.declared.engine.Move.{Move}
use Rattle.sql_grammar.specs.declared.engine.Move.TheVariants.{On, Took, Wrong, Deep, Ended}
use Rattle.sql_grammar.specs.declared.engine.Entry.{Entry}
use Rattle.sql_grammar.specs.declared.syntax.Syntax.{Syntax}
use Rattle.sql_grammar.specs.declared.syntax.Syntax.TheVariants as v
use Rattle.sql_grammar.specs.Tests.{passes}
use Rattle.sql_grammar.specs.Grammar.{Grammar, Empty, Token, Then, Either, Many, Deeper, Named, Parts, Over, Part}

-- the grammar that a tree of references stands for
abbrev pub view : Syntax → Grammar
view v.Empty = Empty
view (v.Token t) = Token t
view (v.Then' p a q b) = Then (view a) (view b)
view (v.Either' t p a q b) = Either t (view a) (view b)
view (v.Many' t p a) = Many t (view a)
view (v.Deeper' t p a q c o b) = Deeper t (view a) (view c) (view b)
view (v.Named m) = Named m

-- the stack as parts, its last entry first
abbrev pub stacked : Parts → List Entry → Parts
stacked ps [] = ps
stacked ps (e ∷ es) = stacked (Part e.level (view e.part.now) ps) es

abbrev pub parts_of : List Entry → Parts
parts_of es = stacked Over es

-- the next token is there and passes
abbrev pub is_next : Test → Option Kind → Bool
is_next t None = false
is_next t (Some k) = passes t k

abbrev pub at_end : Option Kind → Move
at_end None = Ended
at_end (Some k) = Wrong

-- one step: what is done to the uppermost part when this token comes next
abbrev pub step_of : (Rule → Grammar) → Option Kind → Parts → Move × Parts
step_of rule next Over = (at_end next, Over)
step_of rule next (Part u Empty ps) = (On, ps)
step_of rule next (Part u (Token t) ps) = if is_next t next then (Took, ps) else (Wrong, ps)
step_of rule next (Part u (Then a b) ps) = (On, Part u a (Part u b ps))
step_of rule next (Part u (Either t a b) ps) = if is_next t next then (Took, Part u a ps) else (On, Part u b ps)
step_of rule next (Part u (Many t a) ps) = if is_next t next then (Took, Part u a (Part u (Many t a) ps)) else (On, ps)
step_of rule next (Part u (Deeper t a c b) ps) =
    if is_next t next then (if nat_lt u 32 then (Took, Part (suc u) a (Part u c ps)) else (Deep, ps)) else (
      On,
      Part u b ps,
    )
step_of rule next (Part u (Named m) ps) = (On, Part u (rule m) ps)

-- steps until a token is taken, or none can be
pub data Settles (rule : Rule → Grammar) (next : Option Kind) : Parts → Move × Parts → Type 0 where
  last : {ps : Parts} {m : Move × Parts} → step_of rule next ps ≡ m → Settles rule next ps m
  more : {ps qs : Parts} {m : Move × Parts} → step_of rule next ps ≡ (On, qs) → Settles rule next qs m
      → Settles rule next ps m
