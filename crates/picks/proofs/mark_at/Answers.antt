-- `picks::mark_at` meets its contract: the library's chunks are the pieces. Assumes nothing.
use Rattle.std.proofs.Common.{rules}
use mathlib.Core.Path.{◌∙◌}
use Rattle.round.specs.Rows.{row_length}
use Rattle.probability.proofs.Pieces.{chunks_pieces}
use Rattle.picks.proofs.mark_at.Goals as goal

pub returns-in-Some : goal.returns-in-Some
returns-in-Some c = let e = c.as_chunks.ensures.front ∙ chunks_pieces row_length c.args.rows.now in let f = c.in-Some.ensures.lookup in search (rules, e, f)

pub returns-in-None : goal.returns-in-None
returns-in-None c = let e = c.as_chunks.ensures.front ∙ chunks_pieces row_length c.args.rows.now in let f = c.in-None.ensures.lookup in search (rules, e, f)
