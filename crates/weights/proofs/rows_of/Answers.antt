-- `weights::rows_of` meets its contract: the library's chunks are the definition's pieces. Assumes nothing.
use Rattle.weights.proofs.Rows.{rows_chunked}
use Rattle.weights.proofs.rows_of.Goals as goal

pub returns : goal.returns
returns c = rw c.as_chunks.ensures.front (rows_chunked _)
