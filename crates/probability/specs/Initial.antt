-- The initial selection of an old round, as a new round sees it.
use Rattle.std.specs.Prelude.{ℕ}

-- where a donor's held lift (its initial selection; the document's marking, for one donor) is: at a place of this round, or elsewhere
pub data Initial : Type 0 where
  here : ℕ → Initial
  elsewhere : Initial
