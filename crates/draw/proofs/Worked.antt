-- The table of draws, computed.
use mathlib.Core.Path.{◌≡◌, refl}
use mathlib.Core.Bool.{true}
use Rattle.probability.specs.Table.{all_right}
use Rattle.draw.specs.Draw.{draw_from}
use Rattle.draw.specs.Worked.{cases}

pub all_right_lem : all_right cases ≡ true
unfolding draw_from
all_right_lem = refl
