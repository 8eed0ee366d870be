-- The steps make the rows of the operations.
use Rattle.std.proofs.Common.{◌++◌, length, sym, ap, subst, ◌∙◌}
use Rattle.std.proofs.lemmas.List.{with_items_is}
use Rattle.own_rows.specs.Laying.{HaveRoom, stepped_all}
use Rattle.own_rows.specs.OwnTables.{AreRowsOf}
use Rattle.own_rows.proofs.StepLaws.{rows_all, room_laid, stays_long}
use Rattle.own_rows.proofs.tables.OwnTables.lay.Goals as goal

pub lay_all-requires-clause-room : goal.lay_all-requires-clause-room
lay_all-requires-clause-room c = subst (HaveRoom (length c.args.steps)) (sym (c.as_mut_slice.ensures.value ∙ c.self.view_is)) c.requires.room

pub returns-clause-rows : goal.returns-clause-rows
returns-clause-rows c = λ schema ops more wide are rows.
    subst (AreRowsOf schema (ops ++ more)) (sym (with_items_is c.self.inside.tables c.lay_all.new.own (c.lay_all.auto.own ∙ c.as_mut_slice.ensures.len) ∙ c.lay_all.ensures ∙ ap (stepped_all c.args.steps) (c.as_mut_slice.ensures.value ∙ c.self.view_is)))
    (rows_all schema more c.args.steps ops c.args.self.now wide are rows)

pub returns-clause-room : goal.returns-clause-room
returns-clause-room c = λ n room.
    subst (HaveRoom n) (sym (with_items_is c.self.inside.tables c.lay_all.new.own (c.lay_all.auto.own ∙ c.as_mut_slice.ensures.len) ∙ c.lay_all.ensures ∙ ap (stepped_all c.args.steps) (c.as_mut_slice.ensures.value ∙ c.self.view_is)))
    (room_laid c.args.steps c.args.self.now n c.requires.ready room)

pub returns-clause-long : goal.returns-clause-long
returns-clause-long c =
    ap length (with_items_is c.self.inside.tables c.lay_all.new.own (c.lay_all.auto.own ∙ c.as_mut_slice.ensures.len) ∙ c.lay_all.ensures ∙ ap (stepped_all c.args.steps) (c.as_mut_slice.ensures.value ∙ c.self.view_is))
    ∙ stays_long c.args.steps c.args.self.now
