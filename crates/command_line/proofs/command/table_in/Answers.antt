use Rattle.std.proofs.Common.{◌≡◌, ◌∙◌, List, Option, Some, None, ap, codes, ℕ}
use Rattle.std.specs.Borrow.{Bor}
use Rattle.std.specs.Option.{option_map, unwrap_or}
use Rattle.clap.specs.Words.{found_of}
use Rattle.clap.proofs.WalkLemmas.{first_value-rows}
use Rattle.command_line.proofs.command.table_in.Goals as goal

text_of : (r : Option (Bor (List ℕ))) (d : Bor (List ℕ)) (t : List ℕ) → option_map (λ s. s.now) r ≡ Some t → (unwrap_or r d).now ≡ t
text_of (Some s) d t e = cc
text_of None d t e = cc

pub returns : goal.returns
returns c = λ t is.
    let first = c.get_str.ensures ∙ first_value-rows (found_of c.args.values.now) (codes "TABLE") ∙ is in
    ap (λ (b : Bor (List ℕ)). b.now) c.unwrap_or.ensures ∙ text_of c.get_str.result _ t first
