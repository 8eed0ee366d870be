-- Statements that are printed spell their normal form.
use Rattle.std.proofs.Common.{◌≡◌, ℕ, false, List, [], ◌∷◌, ◌++◌, codes, refl, sym, ap, ◌∙◌, subst, append-nil}
use Rattle.sql_print.specs.sql_tokens.specs.declared.kind.Kind.{Kind}
use Rattle.sql_print.specs.sql_tokens.specs.declared.kind.Kind.TheVariants as k
use Rattle.sql_print.specs.sql_tokens.specs.Lexing.{Lexeme, lexed, lexeme}
use Rattle.sql_print.specs.sql_grammar.specs.declared.start.Start.TheVariants as starts
use Rattle.sql_print.specs.sql_grammar.specs.Grammar.{Empty, Over, Part, Parts, Reads, both, empty, named, over, that, this}
use Rattle.sql_print.specs.sql_grammar.specs.Notation.{optional}
use Rattle.sql_print.specs.sql_grammar.specs.Groups.{create_group}
use Rattle.sql_print.specs.sql_grammar.specs.Sql.{grammar_of, rule}
use Rattle.sql_print.specs.sql_grammar.specs.Statements.{statement as statement_part}
use Rattle.sql_print.specs.sql_subset.specs.declared.stmt.CreateGroup as groups
use Rattle.sql_print.specs.sql_subset.specs.declared.stmt.Stmt.{Stmt}
use Rattle.sql_print.specs.sql_subset.specs.declared.stmt.Stmt.TheVariants as v
use Rattle.sql_print.specs.sql_subset.specs.Groups.{group_of}
use Rattle.sql_print.specs.sql_subset.specs.Lines.{Spells, kinds_in}
use Rattle.sql_print.specs.sql_subset.specs.Statements.{create_of, statement_of}
use Rattle.sql_print.specs.sql_phrases.specs.Reading.{begins}
use Rattle.sql_print.specs.sql_words.specs.Words.{Word, joined, spaced}
use Rattle.sql_print.specs.Groups.{group_words}
use Rattle.sql_print.specs.Normal.{normal, normal_group}
use Rattle.sql_print.specs.Printed.{printed}
use Rattle.print_laws.proofs.Fine.{IsFine, IsFineText, fine_more, fine_none, fine_rest, not_spoilt}
use Rattle.print_laws.proofs.GroupTables.{Follows}
use Rattle.print_laws.proofs.Groups.{IsGroup, group_never, put_group}
use Rattle.print_laws.proofs.Keywords.{create_word}
use Rattle.print_laws.proofs.Lexed.{Lexes, tokens}
use Rattle.print_laws.proofs.Loading.{end_closes, ends_never, nothing}
use Rattle.print_laws.proofs.NormalGroups.{group_normal}
use Rattle.print_laws.proofs.Put.{Never, Put, put_words}

-- behind a statement
abbrev end : Parts
end = Part 0 (optional k.Semicolon Empty) Over

pub at_end : (i : ℕ) → Reads rule 32 end (kinds_in (tokens i []))
at_end i = rw (nothing i) (that (empty over))

-- the first word of a text has no space in front
first_word : (j : Kind) (w : Word) (ws : List Word) → Lexes j w → (n : ℕ) × (lexed 0 (w ++ spaced ws) ≡ lexeme j 0 w ∷ tokens n ws)
unfolding tokens
first_word j w ws l = l.lexes 0 ws

-- a text whose words are a keyword and such as a grammar reads
pub record Begun (s : Stmt) (j : Kind) (ws : List Word) : Type 0 where
  pub fine : IsFine ws
  pub reads : (i : ℕ) → Reads rule 32 (Part 0 statement_part end) (j ∷ kinds_in (tokens i ws))
  pub says : (i p : ℕ) (w : Word) → s ≡ statement_of (lexeme j p w ∷ tokens i ws)

pub spells : (s : Stmt) (j : Kind) (w : Word) (ws : List Word) → Lexes j w → Begun s j ws → Spells (joined (w ∷ ws)) s
spells s j w ws l b =
    let (n, e) = first_word j w ws l in
    let fine : IsFineText (joined (w ∷ ws)) = fine_rest (joined (w ∷ ws)) (fine_more w ws l.fine b.fine).text in (
      not_spoilt (joined (w ∷ ws)) fine,
      subst (λ (ls : List Lexeme). Reads rule 32 (Part 0 (grammar_of starts.Statement) Over) (kinds_in ls)) (sym e) (both (named (b.reads n))),
      b.says n 0 w ∙ ap (λ (ls : List Lexeme). statement_of ls) (sym e),
    )

-- CREATE CACHE GROUP
create_says : (p : ℕ) (w : Word) (ls : List Lexeme) → begins k.Index ls ≡ false → statement_of (lexeme k.Create p w ∷ ls) ≡ v.CreateGroup (group_of ls).0
unfolding statement_of create_of
create_says p w ls h = rw h refl

end_follows : Follows []
end_follows = record { closes = end_closes; filter = ends_never k.Where refl; aging = ends_never k.Aging refl }

group_begun : (g : groups.CreateGroup) → IsGroup g → Begun (v.CreateGroup g) k.Create (group_words g)
group_begun g h = record {
  fine = put.fine fine_none;
  reads = λ i. let s = put.says i in that (that (that (that (this refl (named (that (s.spells end (at_end s.at))))))));
  says = λ i p w. let s = put.says i in sym (create_says p w (tokens i (group_words g)) (index_never i) ∙ ap (λ (x : groups.CreateGroup × List Lexeme). v.CreateGroup x.0) s.reads);
}
  where
    put : Put group_of 0 create_group g (group_words g) []
    put = put_words group_of 0 create_group g (group_words g ++ []) (group_words g) [] (append-nil (group_words g)) (put_group g h [] end_follows (ends_never k.Comma refl))

    index_never : Never k.Index (group_words g)
    index_never = subst (λ (ws : List Word). Never k.Index ws) (append-nil (group_words g)) (group_never k.Index g [] refl refl refl refl refl)

pub group_spells : (g : groups.CreateGroup) → IsGroup g → Spells (printed (v.CreateGroup g)) (normal (v.CreateGroup g))
group_spells g h = spells (v.CreateGroup (normal_group g)) k.Create (codes "CREATE") (group_words (normal_group g)) create_word (group_begun (normal_group g) (group_normal g h))
