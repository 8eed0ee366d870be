use Rattle.std.proofs.Common.{IfSome, option_copied, subst}
use Rattle.instances.specs.Views.{kept_at}
use Rattle.group_engine.specs.UnloadNamed.{NamesKey}
use Rattle.group_engine.proofs.NamedKeys.{all_leave, one_leaves}
use Rattle.group_engine.proofs.unload_named.leaving.Goals as goal

pub returns-in-None : goal.returns-in-None
returns-in-None c = all_leave c.args.def.now c.args.which.now c.as_slice.result.now (kept_at c.args.store.now.tables 0) c.leaving_all.result c.as_slice.ensures c.leaving_all.ensures

pub returns-in-Some : goal.returns-in-Some
returns-in-Some c =
    let names : NamesKey c.args.def.now.columns c.args.def.now.primary_key c.args.which.now.id c.in-Some.key =
    subst (λ o. IfSome o (λ key. NamesKey c.args.def.now.columns c.args.def.now.primary_key c.args.which.now.id key)) c.in-Some.is c.in_ok-named_key.ensures in
    one_leaves c.args.def.now c.args.which.now (kept_at c.args.store.now.tables 0) c.in-Some.key (option_copied c.get.result) c.is_match-matches.result c.only_if.result names c.get.ensures c.is_match-matches.ensures c.only_if.ensures
