use Rattle.std.proofs.Common.{map, vec_items}
use Rattle.long_list.proofs.StartLaws.{are_starts, located}
use Rattle.long_list.proofs.starts.locate.Goals as goal

pub chunk_at-c-requires : goal.chunk_at-c-requires
chunk_at-c-requires g c =
    are_starts (map vec_items c.args.chunks.now) c.args.starts.now c.requires.begins c.requires.some

pub returns : goal.returns
returns g c =
    located (map vec_items c.args.chunks.now) c.args.starts.now c.args.at _ c.requires.begins c.chunk_at-c.ensures
