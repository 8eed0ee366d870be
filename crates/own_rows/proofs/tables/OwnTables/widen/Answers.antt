-- What was so of the tables that were there is so of more.
use Rattle.std.proofs.Common.{sym, subst}
use Rattle.own_rows.specs.Laying.{HaveRoom}
use Rattle.own_rows.specs.OwnTables.{AreRowsOf}
use Rattle.own_rows.proofs.tables.OwnTables.widen.Goals as goal

pub returns-clause-rows : goal.returns-clause-rows
returns-clause-rows c = λ known ops rows. c.widen_rows.ensures.rows known ops (subst (AreRowsOf known ops) (sym c.self.view_is) rows)

pub returns-clause-room : goal.returns-clause-room
returns-clause-room c = λ n few room. c.widen_rows.ensures.room n few (subst (HaveRoom n) (sym c.self.view_is) room)
