use Rattle.std.proofs.Common.{List, [], ◌∷◌, ◌++◌, inr, refl, ap, ◌∙◌}
use Rattle.table_state.specs.declared.history.Entry.{Entry}
use Rattle.table_state.specs.declared.history.Entry.TheVariants.{Foreign}
use Rattle.table_state.specs.Histories.{state_of}
use Rattle.table_state.proofs.KeyedLaws.{history_keyed}
use Rattle.backing_gate.proofs.BankLaws.{came, did}
use Rattle.backing_gate.proofs.bank.MemoryBank.visit.Goals as goal

pub write_on_shared-requires : goal.write_on_shared-requires
write_on_shared-requires c = history_keyed c.self.inside.ledger c.self.inside.tables c.self.invariant

pub replace_last-requires : goal.replace_last-requires
replace_last-requires c = record {
  front = c.self.inside.ledger;
  last = Foreign [];
  same = λ q. refl;
  is = c.in-Ok.ensures.ok ∙ ap (λ ops. c.self.inside.ledger ++ Foreign ops ∷ []) c.new.ensures;
}

pub invariant_of-self-in-Some : goal.invariant_of-self-in-Some
invariant_of-self-in-Some c =
    ap state_of (c.replace_last.ensures c.self.inside.ledger (Foreign []) (c.in-Ok.ensures.ok ∙ ap (λ ops. c.self.inside.ledger ++ Foreign ops ∷ []) c.new.ensures))
    ∙ came c.self.inside.ledger (Foreign c.in-Some.written.ops) c.self.inside.tables c.write_on_shared.new.tables c.self.invariant c.in-Some.ensures.some.applies

pub returns-in-Some : goal.returns-in-Some
returns-in-Some c = inr (record {
  rows = c.in-Some.written.rows;
  writes = record {
    ops = c.in-Some.written.ops;
    done = λ s is. did c.args.changes.now c.self.inside.ledger c.self.inside.tables c.write_on_shared.new.tables s c.in-Some.written.ops c.in-Some.written.rows c.self.invariant (ap state_of c.self.view_is ∙ is) c.in-Some.ensures.some.leaves c.in-Some.ensures.some.applies;
    grows =
        c.replace_last.ensures c.self.inside.ledger (Foreign []) (c.in-Ok.ensures.ok ∙ ap (λ ops. c.self.inside.ledger ++ Foreign ops ∷ []) c.new.ensures)
        ∙ ap (λ (h : List Entry). h ++ Foreign c.in-Some.written.ops ∷ []) c.self.view_is;
  };
  shares = c.in-Some.ensures.some.shares;
})
