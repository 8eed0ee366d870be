use Rattle.std.proofs.Common.{rules, ◌≡◌, ◌∙◌, ap, sym, subst, IfOk, IfSome, Some, option_copied, slice_get}
use Rattle.std.proofs.lemmas.Option.{slice_get-get_or}
use Rattle.group_engine.specs.UnloadNamed.{NamesValue}
use Rattle.group_engine.proofs.NamedKeys.{value_named}
use Rattle.group_engine.proofs.unload_named.kept_value.Goals as goal

pub returns-in-Some-Some : goal.returns-in-Some-Some
returns-in-Some-Some c =
    let value : Some c.in-Some-Some.value.now ≡ option_copied c.args.value = search rules in
    subst (λ o. IfOk c.rescaled.result (λ kept. IfSome kept (λ v. NamesValue c.args.columns.now c.args.place o v))) value
    (value_named c.args.columns.now c.args.place c.in-Some-Some.column.now c.in-Some-Some.value.now c.rescaled.result
    (slice_get-get_or c.args.columns.now c.args.place c.in-Some-Some.column.now c.in-Some-Some.ensures.lookup.3.0 ∙ ap Some (sym (c.in-Some-Some.ensures.lookup.3.1 c.in-Some-Some.column.now))) c.rescaled.ensures)
