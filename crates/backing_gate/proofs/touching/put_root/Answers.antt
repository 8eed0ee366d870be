use Rattle.std.proofs.Common.{◌||◌, ap, sym, ◌∙◌}
use Rattle.std.specs.FinMap.{contains_key}
use Rattle.outside.specs.Changes.{is_root}
use Rattle.backing_gate.proofs.TouchLaws.{puts_root}
use Rattle.backing_gate.proofs.touching.put_root.Goals as goal

pub returns-in_ok-insert-in-Some : goal.returns-in_ok-insert-in-Some
returns-in_ok-insert-in-Some c root =
    puts_root c.args.roots.now c.insert.new.self c.in-Some.root c.from_vec.result c.in_ok-insert-in-Some.ensures.ok root
    ∙ ap (λ o. is_root root o || contains_key c.args.roots.now root) (sym c.in-Some.is)
