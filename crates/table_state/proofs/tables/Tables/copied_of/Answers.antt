use Rattle.std.proofs.Common.{List, length, ap, ◌∙◌}
use Rattle.table_state.specs.Copies.{only_asked}
use Rattle.indexed_rows.specs.Rows.{Table}
use Rattle.table_state.specs.Tables.{TableState}
use Rattle.table_state.proofs.AskedLaws.{asked_length, asked_rows}
use Rattle.table_state.proofs.tables.Tables.copied_of.Goals as goal

pub returns-clause-whole : goal.returns-clause-whole
returns-clause-whole c =
    ap length c.in_ok-rows.ensures ∙ ap (λ (l : List Table). length (only_asked c.args.asked.now 0 l)) (c.as_slice-2.ensures.value ∙ ap (λ (s : TableState). s.tables) c.self.view_is)
    ∙ asked_length c.args.asked.now 0 c.args.self.now.tables

pub returns-clause-rows : goal.returns-clause-rows
returns-clause-rows c t =
    asked_rows c.args.asked.now c.args.self.now.tables c.in_ok-rows.rows.items t
    (c.in_ok-rows.ensures ∙ ap (λ (l : List Table). only_asked c.args.asked.now 0 l) (c.as_slice-2.ensures.value ∙ ap (λ (s : TableState). s.tables) c.self.view_is))
