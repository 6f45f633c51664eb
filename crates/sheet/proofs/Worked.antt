-- The tables, computed.
use mathlib.Core.Path.{◌≡◌, refl}
use mathlib.Core.Bool.{true}
use Rattle.probability.specs.Table.{all_right}
use Rattle.sheet.specs.Sheet.{words_then}
use Rattle.sheet.specs.Reading.{fault, read_from}
use Rattle.sheet.specs.Worked.{cases, end_cases, measure_cases}

pub all_right_lem : all_right cases ≡ true
unfolding words_then fault read_from
all_right_lem = refl

pub ends_right : all_right end_cases ≡ true
unfolding fault
ends_right = refl

pub measures_right : all_right measure_cases ≡ true
measures_right = refl
