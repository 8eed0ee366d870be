use Rattle.std.proofs.Common.{◌∙◌, sym, is_ok, rules, tests}
use Rattle.std.proofs.lemmas.Iterator.{YieldsList-from_slice}
use Rattle.std.proofs.lemmas.Iterator.Search.{all_from_yields_List}
use Rattle.std.proofs.lemmas.List.Folds.{list_all-map}
use Rattle.evaluator.specs.expressions.specs.Types.{family_of}
use Rattle.resolution.proofs.listing.have_families.Goals as goal

pub returns : goal.returns
returns c =
    let all = all_from_yields_List (λ e. is_ok (family_of e c.args.families.now)) _ _ c.all.result c.all.ensures.ran (YieldsList-from_slice c.args.listed.now cc) (λ x b q k. search (rules, tests)) in
    all ∙ sym (list_all-map is_ok (λ e. family_of e c.args.families.now) c.args.listed.now)
