use Rattle.std.proofs.Common.{◌≡◌, ◌∙◌, sym, subst, get_or, IfSome, option_copied, slice_get}
use Rattle.std.proofs.lemmas.Option.{slice_get-get_or}
use Rattle.group_engine.specs.UnloadNamed.{NamesValue}
use Rattle.group_engine.proofs.NamedKeys.{copied_at, names_more}
use Rattle.group_engine.proofs.unload_named.kept_values.Goals as goal

pub loop-at-preserved : goal.loop-at-preserved
loop-at-preserved c =
    let places = c.args.places.now in
    let at = c.loop-at.at in
    let given : option_copied c.get.result ≡ slice_get c.args.values.now at = copied_at c.args.values.now at c.get.result c.get.ensures.lookup.3 in
    let kept : NamesValue c.args.columns.now (get_or places at 0) (option_copied c.get.result) c.in-Some.value =
    subst (λ o. IfSome o (λ v. NamesValue c.args.columns.now (get_or places at 0) (option_copied c.get.result) v)) c.in-Some.is c.in_ok-kept_value.ensures in
    λ row types same. names_more c.args.columns.now places c.args.values.now at (get_or places at 0) c.loop-at.kept.items c.in-Some.value (slice_get-get_or places at 0 c.loop-at-test.true)
    (subst (λ o. NamesValue c.args.columns.now (get_or places at 0) o c.in-Some.value) given kept) c.loop-at.invariant row types same ∙ sym c.in_ok-push-in-Some.ensures.items
