use Rattle.std.proofs.Common.{ap, sym, ◌∙◌}
use Rattle.slot_rows.specs.indexed_rows.specs.Rows.{key_of, put_in}
use Rattle.group_store.specs.Hiding.{hidden_with}
use Rattle.group_store.proofs.store.Store.hide_at.Goals as goal

pub returns-in-None-clause-hides : goal.returns-in-None-clause-hides
returns-in-None-clause-hides c = λ root here.
    let t = c.in-None.ensures.taken root here in
    record { gone = t.gone; hidden = ap (λ o. hidden_with o root c.args.hidden.now.table) t.was }

pub returns-in-Some-clause-hides : goal.returns-in-Some-clause-hides
returns-in-Some-clause-hides c = λ root here.
    let t = c.in-Some.ensures.taken root here in
    let row = c.in-Some.row in
    let before = c.args.hidden.now.table in
    let is = ap (λ ps. key_of ps row) c.requires.key ∙ c.len-held.ensures.keyed root row (sym t.was) in
    record {
      gone = t.gone;
      hidden = c.insert_reserved.ensures.table ∙ ap (λ k. put_in before k row) is ∙ ap (λ o. hidden_with o root before) t.was;
    }
