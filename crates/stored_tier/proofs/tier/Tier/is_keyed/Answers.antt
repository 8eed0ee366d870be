use Rattle.std.proofs.Common.{◌∙◌, Some, ap, slice_get, sym}
use Rattle.std.proofs.lemmas.Option.{slice_get-get_or}
use Rattle.stored_tier.proofs.VerifyLaws.{home_within, table_keyed, unkept_keyed}
use Rattle.stored_tier.proofs.tier.Tier.is_keyed.Goals as goal

pub has_fit-requires : goal.has_fit-requires
has_fit-requires c =
    let home = c.in-Some.field-0 in
    let got = c.in-Some-get.ensures.lookup.3 in
    let there =
    ap (λ l. slice_get l home.store) (sym c.deref.ensures.value)
    ∙ slice_get-get_or c.deref.result.now home.store c.in-Some-get.kept.now got.0
    ∙ ap Some (sym (got.1 c.in-Some-get.kept.now)) in
    home_within c.args.self.now c.requires c.args.table home c.in-Some.ensures c.in-Some-get.kept.now there

pub returns-in-Some-get : goal.returns-in-Some-get
returns-in-Some-get c = λ yes def is.
    let home = c.in-Some.field-0 in
    let got = c.in-Some-get.ensures.lookup.3 in
    let there =
    ap (λ l. slice_get l home.store) (sym c.deref.ensures.value)
    ∙ slice_get-get_or c.deref.result.now home.store c.in-Some-get.kept.now got.0
    ∙ ap Some (sym (got.1 c.in-Some-get.kept.now)) in
    table_keyed c.args.self.now c.requires c.args.table def is home c.in-Some.ensures c.in-Some-get.kept.now there
    c.has_fit.ensures.keys (c.has_fit.ensures.fit yes def is)

pub returns-in-None : goal.returns-in-None
returns-in-None c = λ yes def is. unkept_keyed c.args.self.now c.requires c.args.table def c.in-None.ensures
