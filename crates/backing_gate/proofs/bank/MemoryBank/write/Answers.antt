use Rattle.std.proofs.Common.{List, [], ◌∷◌, ◌++◌, refl, ap, ◌∙◌}
use Rattle.table_state.specs.declared.history.Entry.{Entry}
use Rattle.table_state.specs.declared.history.Entry.TheVariants.{Foreign}
use Rattle.table_state.specs.Histories.{state_of}
use Rattle.table_state.proofs.KeyedLaws.{history_keyed}
use Rattle.backing_gate.proofs.BankLaws.{came, did}
use Rattle.backing_gate.proofs.bank.MemoryBank.write.Goals as goal

pub write_all-requires : goal.write_all-requires
write_all-requires c = history_keyed c.self.inside.ledger c.self.inside.tables c.self.invariant

pub replace_last-requires : goal.replace_last-requires
replace_last-requires c = record {
  front = c.self.inside.ledger;
  last = Foreign [];
  same = λ q. refl;
  is = c.in_ok-push_foreign.ensures.ok ∙ ap (λ ops. c.self.inside.ledger ++ Foreign ops ∷ []) c.new.ensures;
}

pub invariant_of-self-in-Ok : goal.invariant_of-self-in-Ok
invariant_of-self-in-Ok c =
    ap state_of (c.replace_last.ensures c.self.inside.ledger (Foreign []) (c.in_ok-push_foreign.ensures.ok ∙ ap (λ ops. c.self.inside.ledger ++ Foreign ops ∷ []) c.new.ensures))
    ∙ came c.self.inside.ledger (Foreign c.in-Ok.written.ops) c.self.inside.tables c.write_all.new.tables c.self.invariant c.in-Ok.ensures.applies

pub returns-in-Ok-clause-ok : goal.returns-in-Ok-clause-ok
returns-in-Ok-clause-ok c = record {
  ops = c.in-Ok.written.ops;
  done = λ s is. did c.args.changes.now c.self.inside.ledger c.self.inside.tables c.write_all.new.tables s c.in-Ok.written.ops c.in-Ok.written.rows c.self.invariant (ap state_of c.self.view_is ∙ is) c.in-Ok.ensures.written c.in-Ok.ensures.applies;
  grows =
      c.replace_last.ensures c.self.inside.ledger (Foreign []) (c.in_ok-push_foreign.ensures.ok ∙ ap (λ ops. c.self.inside.ledger ++ Foreign ops ∷ []) c.new.ensures)
      ∙ ap (λ (h : List Entry). h ++ Foreign c.in-Ok.written.ops ∷ []) c.self.view_is;
}
