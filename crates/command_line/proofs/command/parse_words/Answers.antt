-- `clap` computes that no command excludes anything.
use Rattle.std.proofs.Common.{◌≡◌, [], refl, subst, sym, true}
use Rattle.clap.specs.Words.{App, fault_of, is_simple_and_free}
use Rattle.clap.proofs.OnLiterals.{clap_on_literals}
use Rattle.command_line.specs.Words.{program, texts}
use Rattle.command_line.proofs.command.parse_words.Goals as goal

is_free : is_simple_and_free program ≡ true
unfolding clap_on_literals
is_free = refl

pub returns-in-Ok-try_get_matches_from-clause-accepted : goal.returns-in-Ok-try_get_matches_from-clause-accepted
returns-in-Ok-try_get_matches_from-clause-accepted c =
    let told = c.in-Ok.ensures.app in
    let free = subst (λ (a : App). is_simple_and_free a ≡ true) (sym told) is_free in
    subst (λ (a : App). fault_of a (texts c.args.words.now) ≡ []) told (c.in-Ok-try_get_matches_from.ensures.kinds free)
