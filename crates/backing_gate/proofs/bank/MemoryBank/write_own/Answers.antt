use Rattle.std.proofs.Common.{List, [], ◌∷◌, ◌++◌, refl, subst, ap, ◌∙◌}
use Rattle.table_state.specs.declared.history.Entry.{Entry}
use Rattle.table_state.specs.declared.history.Entry.TheVariants.{Own}
use Rattle.table_state.specs.Histories.{state_of}
use Rattle.table_state.proofs.KeyedLaws.{history_keyed}
use Rattle.evaluator.specs.declared.change.Change.{Change}
use Rattle.transactions.specs.Transactions.{Leaves, written_by_all}
use Rattle.backing_gate.proofs.BankLaws.{came, did}
use Rattle.backing_gate.proofs.bank.MemoryBank.write_own.Goals as goal

pub write_all-requires : goal.write_all-requires
write_all-requires c = history_keyed c.self.inside.ledger c.self.inside.tables c.self.invariant

pub replace_last-requires : goal.replace_last-requires
replace_last-requires c = record {
  front = c.self.inside.ledger;
  last = Own c.args.ticket [];
  same = λ q. refl;
  is = c.in_ok-push_own.ensures.ok ∙ ap (λ ops. c.self.inside.ledger ++ Own c.args.ticket ops ∷ []) c.new.ensures;
}

pub invariant_of-self-in-Ok : goal.invariant_of-self-in-Ok
invariant_of-self-in-Ok c =
    ap state_of (c.replace_last.ensures c.self.inside.ledger (Own c.args.ticket []) (c.in_ok-push_own.ensures.ok ∙ ap (λ ops. c.self.inside.ledger ++ Own c.args.ticket ops ∷ []) c.new.ensures))
    ∙ came c.self.inside.ledger (Own c.args.ticket c.in-Ok.written.ops) c.self.inside.tables c.write_all.new.tables c.self.invariant c.in-Ok.ensures.applies

pub returns-in-Ok-clause-ok : goal.returns-in-Ok-clause-ok
returns-in-Ok-clause-ok c = record {
  ops = c.in-Ok.written.ops;
  passes = record {
    done = λ s is. did (c.args.change.now ∷ []) c.self.inside.ledger c.self.inside.tables c.write_all.new.tables s c.in-Ok.written.ops c.in-Ok.written.rows c.self.invariant (ap state_of c.self.view_is ∙ is)
        (subst (λ (changes : List Change). Leaves (written_by_all changes c.self.inside.tables) c.write_all.new.tables c.in-Ok.written) c.from_ref.ensures.value c.in-Ok.ensures.written) c.in-Ok.ensures.applies;
    grows =
        c.replace_last.ensures c.self.inside.ledger (Own c.args.ticket []) (c.in_ok-push_own.ensures.ok ∙ ap (λ ops. c.self.inside.ledger ++ Own c.args.ticket ops ∷ []) c.new.ensures)
        ∙ ap (λ (h : List Entry). h ++ Own c.args.ticket c.in-Ok.written.ops ∷ []) c.self.view_is;
  };
}
