-- What was there makes room.
use Rattle.own_rows.proofs.LayingLaws.{fewer, over_is}
use Rattle.own_rows.proofs.own.put_over.Goals as goal

pub put_back-requires : goal.put_back-requires
put_back-requires c = fewer _ _ _ c.remove.ensures c.requires

pub returns : goal.returns
returns c = over_is _ _ _ _ _ _ c.key.ensures c.remove.ensures c.put_back.ensures
