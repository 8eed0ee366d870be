use Rattle.commit_journal.proofs.TailLaws.{rest_bytes, rest_gives}
use Rattle.tier_journal.specs.Writing.{written_all}
use Rattle.tier_journal.proofs.laws.kept_law.Goals as goal

pub returns : goal.returns
returns c = λ schema t slots j k. record {
  gives = rest_gives t.journal slots (written_all schema j.flushed) (written_all schema j.tail) k.rests;
  bytes = rest_bytes t.journal slots (written_all schema j.flushed) (written_all schema j.tail) k.rests;
}
