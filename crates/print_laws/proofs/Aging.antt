-- AGING clauses that are put are read back.
use Rattle.std.proofs.Common.{◌≡◌, ℕ, Bool, true, false, List, [], ◌∷◌, ◌++◌, drop, codes, refl, sym, ap, append_assoc}
use Rattle.std.specs.Fmt.{decimal}
use Rattle.sql_print.specs.sql_tokens.specs.declared.kind.Kind.{Kind}
use Rattle.sql_print.specs.sql_tokens.specs.declared.kind.Kind.TheVariants as k
use Rattle.sql_print.specs.sql_tokens.specs.Words.{word_kind}
use Rattle.sql_print.specs.sql_tokens.specs.Lexing.{Lexeme}
use Rattle.sql_print.specs.sql_grammar.specs.declared.rule.Rule.TheVariants as rules
use Rattle.sql_print.specs.sql_grammar.specs.declared.test.Test.TheVariants.{LifetimeUnit, Name, Whole}
use Rattle.sql_print.specs.sql_grammar.specs.Sql.{rule as grammar_rule}
use Rattle.sql_print.specs.sql_grammar.specs.Grammar.{Grammar, Parts, Part, Reads, Empty, Named, Token, token, both, this, that, empty, named}
use Rattle.sql_print.specs.sql_grammar.specs.Notation.{choice, optional, the, ◌▸◌}
use Rattle.sql_print.specs.sql_subset.specs.declared.stmt.AgingClause.{AgingClause}
use Rattle.sql_print.specs.sql_subset.specs.declared.stmt.AgingRule.{AgingRule}
use Rattle.sql_print.specs.sql_subset.specs.declared.stmt.AgingRule.TheVariants as rule
use Rattle.sql_print.specs.sql_subset.specs.declared.stmt.TimeAging.{TimeAging}
use Rattle.sql_print.specs.sql_subset.specs.Groups.{aging_rule_of, cycle_of, long_of, span_of, switched, time_lasting, time_named, time_rule_of, timed}
use Rattle.sql_print.specs.sql_phrases.specs.Reading.{first_kind, identifier_of}
use Rattle.sql_print.specs.sql_words.specs.Words.{Word}
use Rattle.sql_print.specs.Groups.{rule_words, switch_word}
use Rattle.print_laws.proofs.Keywords.{cycle_word, lifetime_word, lru_word, off_word, on_word, seconds_word, use_word}
use Rattle.print_laws.proofs.Literals.{digits_lexes, digits_whole}
use Rattle.print_laws.proofs.Names.{IsIdentifier, put_identifier}
use Rattle.print_laws.proofs.NumberLaws.{IsCapped, decimal_digits, number_once}
use Rattle.print_laws.proofs.Put.{Put, put_both, put_last, put_map, put_word, put_words}

pub record IsTime (x : TimeAging) : Type 0 where
  pub column : IsIdentifier x.column
  pub lifetime : IsCapped x.lifetime
  pub cycle : IsCapped x.cycle

abbrev pub IsRule : AgingRule → Type 0
IsRule rule.LastUse = Unit {0}
IsRule (rule.Time x) = IsTime x

-- n SECONDS
abbrev span_part : Grammar
span_part = Token Whole ▸ Token LifetimeUnit

put_span : (n : ℕ) → IsCapped n → (us : List Word) → Put long_of 0 span_part n (decimal n ∷ codes "SECONDS" ∷ us) us
unfolding long_of
put_span n l us =
    let d = decimal_digits n l in
    put_word long_of (λ ls. (span_of (decimal n) (first_kind ls), drop 1 ls)) 0 span_part (Token LifetimeUnit) n (word_kind (decimal n)) (decimal n) (codes "SECONDS" ∷ us) us (digits_lexes (decimal n) d) (λ ps r e. both (token (digits_whole (decimal n) d) e)) (λ p ls. refl)
    (put_last (λ ls. (span_of (decimal n) (first_kind ls), drop 1 ls)) 0 (Token LifetimeUnit) n k.Second (codes "SECONDS") us seconds_word (λ ps r e. token refl e) (λ p ls. ap (λ (m : ℕ). let y : ℕ × List Lexeme = (m, ls) in y) (number_once n l)))

abbrev cycle_part : Grammar
cycle_part = optional k.Cycle span_part

abbrev lifetime_part : Grammar
lifetime_part = the k.Lifetime ▸ Token Whole ▸ Token LifetimeUnit ▸ cycle_part

abbrev rule_part : Grammar
rule_part = choice k.Lru Empty (the k.Use ▸ Token Name ▸ lifetime_part)

abbrev switch_part : Grammar
switch_part = choice k.On Empty (optional k.Off Empty)

-- n SECONDS, and then others
abbrev span_then : Grammar → Grammar
span_then g = Token Whole ▸ Token LifetimeUnit ▸ g

span_apart : {g : Grammar} {ps : Parts} {r : List Kind} → Reads grammar_rule 32 (Part 0 span_part (Part 0 g ps)) r → Reads grammar_rule 32 (Part 0 (span_then g) ps) r
span_apart (both (token p d)) = both (token p (both d))

put_rule : (x : AgingRule) → IsRule x → (us : List Word) → Put aging_rule_of 0 rule_part x (rule_words x ++ us) us
unfolding cycle_of
put_rule rule.LastUse h us = put_last aging_rule_of 0 rule_part rule.LastUse k.Lru (codes "LRU") us lru_word (λ ps r d. this refl (empty d)) (λ p ls. refl)
put_rule (rule.Time x) h us =
    let y : AgingRule = rule.Time x in
    let w3 : List Word = codes "CYCLE" ∷ decimal x.cycle ∷ codes "SECONDS" ∷ us in
    let w2 : List Word = codes "LIFETIME" ∷ decimal x.lifetime ∷ codes "SECONDS" ∷ w3 in
    let cycled : Put (λ ls. time_lasting x.column (x.lifetime, ls)) 0 cycle_part y w3 us =
    put_word (λ ls. time_lasting x.column (x.lifetime, ls)) (λ ls. timed x.column x.lifetime (long_of ls)) 0 cycle_part span_part y k.Cycle (codes "CYCLE") (decimal x.cycle ∷ codes "SECONDS" ∷ us) us cycle_word (λ ps r d. this refl d) (λ p ls. refl)
    (put_map long_of (λ z. timed x.column x.lifetime z) 0 span_part x.cycle y (decimal x.cycle ∷ codes "SECONDS" ∷ us) us (λ ls. refl) (put_span x.cycle h.cycle us)) in
    let lasting : Put (λ ls. time_named (x.column, ls)) 0 lifetime_part y w2 us =
    put_word (λ ls. time_named (x.column, ls)) (λ ls. time_lasting x.column (long_of ls)) 0 lifetime_part (span_then cycle_part) y k.Lifetime (codes "LIFETIME") (decimal x.lifetime ∷ codes "SECONDS" ∷ w3) us lifetime_word (λ ps r d. both (token refl d)) (λ p ls. refl)
    (put_both long_of (λ z. time_lasting x.column z) 0 span_part cycle_part (span_then cycle_part) x.lifetime y (decimal x.lifetime ∷ codes "SECONDS" ∷ w3) w3 us (λ ps r d. span_apart d) (put_span x.lifetime h.lifetime w3) cycled) in
    put_word aging_rule_of time_rule_of 0 rule_part (Token Name ▸ lifetime_part) y k.Use (codes "USE") (x.column ∷ w2) us use_word (λ ps r d. that (both (token refl d))) (λ p ls. refl)
    (put_both identifier_of (λ z. time_named z) 0 (Token Name) lifetime_part (Token Name ▸ lifetime_part) x.column y (x.column ∷ w2) w2 us (λ ps r d. both d) (put_identifier 0 x.column h.column w2) lasting)

put_switch : (c : AgingClause) (b : Bool) → c.on ≡ b → (us : List Word) → Put (λ ls. switched (c.rule, ls)) 0 switch_part c (switch_word b ∷ us) us
put_switch c true e us = put_last (λ ls. switched (c.rule, ls)) 0 switch_part c k.On (codes "ON") us on_word (λ ps r d. this refl (empty d)) (λ p ls. ap (λ (b : Bool). let y : AgingClause × List Lexeme = (record { rule = c.rule; on = b }, ls) in y) (sym e))
put_switch c false e us = put_last (λ ls. switched (c.rule, ls)) 0 switch_part c k.Off (codes "OFF") us off_word (λ ps r d. that (this refl (empty d))) (λ p ls. ap (λ (b : Bool). let y : AgingClause × List Lexeme = (record { rule = c.rule; on = b }, ls) in y) (sym e))

-- what stands behind AGING is read
pub put_aging : (c : AgingClause) → IsRule c.rule → (us : List Word) → Put (λ ls. switched (aging_rule_of ls)) 0 (Named rules.Aging) c ((rule_words c.rule ++ switch_word c.on ∷ []) ++ us) us
put_aging c h us =
    put_words (λ ls. switched (aging_rule_of ls)) 0 (Named rules.Aging) c (rule_words c.rule ++ switch_word c.on ∷ us) ((rule_words c.rule ++ switch_word c.on ∷ []) ++ us) us (sym (append_assoc (rule_words c.rule) (switch_word c.on ∷ []) us))
    (put_both aging_rule_of (λ y. switched y) 0 rule_part switch_part (Named rules.Aging) c.rule c (rule_words c.rule ++ switch_word c.on ∷ us) (switch_word c.on ∷ us) us (λ ps r d. named (both d)) (put_rule c.rule h (switch_word c.on ∷ us)) (put_switch c c.on refl us))
