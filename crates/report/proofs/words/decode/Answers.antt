use lib.ListN.{length}
use Rattle.report.proofs.Decoding.{decoded}
use Rattle.report.proofs.words.decode.Goals as goal

pub returns : goal.returns
returns g c = decoded g.W.Word.of_bytes g.row.N (length c.args.room.now) c.args.bytes.now c.loop-i.room c.as_chunks.ensures.front c.min-n.ensures c.loop-i-test.false c.loop-i.auto.i-end c.loop-i.invariant
