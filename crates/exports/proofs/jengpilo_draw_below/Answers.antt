-- `exports::jengpilo_draw_below` meets its contract: below a bound of 0 there is no value. Assumes nothing.
use mathlib.Core.Path.{refl}
use Rattle.draw.specs.Draw.{largest}
use Rattle.draw.proofs.Draws.{zero_short}
use Rattle.exports.proofs.jengpilo_draw_below.Goals as goal

pub returns-then-bound-eq0 : goal.returns-then-bound-eq0
returns-then-bound-eq0 c = rw (c.if-bound-eq0.true, zero_short largest c.args.words.now c.args.at) (record { result = refl; value_written = refl; next_written = refl })
