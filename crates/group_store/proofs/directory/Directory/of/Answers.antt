use Rattle.std.proofs.Common.{◌++◌, [], ◌∷◌, ◌+◌, ◌≡◌, ap, sym, ◌∙◌, arith}
use Rattle.group_store.specs.Shown.{home_of, homes_of}
use Rattle.group_store.proofs.HomeLaws.{one_home}
use Rattle.group_store.proofs.directory.Directory.of.Goals as goal

pub loop-number-preserved : goal.loop-number-preserved
loop-number-preserved c =
    let stores = c.args.stores.now in
    let homes = c.loop-number.homes.items in
    let n = c.loop-number.number in
    let z : n ≡ 0 + n = omega arith in
    c.in_ok-push.ensures.items ∙ ap (λ h. homes ++ h ∷ []) c.home_of.ensures ∙ ap (λ l. l ++ home_of stores (record { 0 = n }) ∷ []) c.loop-number.invariant
    ∙ sym (one_home stores 0 n ∙ ap (λ m. homes_of stores n ++ home_of stores (record { 0 = m }) ∷ []) (sym z))
