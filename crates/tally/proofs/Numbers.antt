-- No refusal has number 0: along the list of refusals, each of which names its own number.
use Prim.Native.Nat.{ℕ, suc, ◌<◌}
use mathlib.Core.List.{List, [], ◌∷◌}
use native.Mathlib.Omega.{arith}
use Rattle.sheet.specs.Reading.{Reading, faulty, sound, of_words}
use Rattle.tally.specs.Verdict.{Verdict, refused, fits, first_round, first_refusal, of_rounds, unless_faulty, verdict_by}
use Rattle.sheet.specs.Sheet.{Lift, lifts}
use Rattle.reply.specs.declared.Refusal.{Refusal}
use Rattle.reply.proofs.Replies.{above_refusal}
use Rattle.sheet.proofs.Legibility.{AboveWord, above_of_words}

abbrev pub Above : Verdict → Type 0
Above (refused x) = 0 < x.number
Above (fits n k) = Unit {0}

above_round : (n : ℕ) (rs : List ℕ) (v : Verdict) → Above v → Above (first_round (suc n) rs v)
unfolding first_round
above_round n [] v h = h
above_round n (r ∷ rs) v h = omega arith

above_last : (xs : List Refusal) (v : Verdict) → Above v → Above (first_refusal xs v)
unfolding first_refusal
above_last [] v h = h
above_last (x ∷ xs) v h = above_refusal x

above_word : (r : Reading) (v : Verdict) → AboveWord r → Above v → Above (unless_faulty r v)
above_word (faulty x) v h k = h
above_word sound v h k = k

pub above : (refuses : List Lift → List Refusal) (ws : List ℕ) → Above (verdict_by refuses ws)
unfolding verdict_by of_rounds
above refuses ws =
    above_word (of_words ws) _ (above_of_words ws)
    (above_round 6 _ _ (above_round 7 _ _ (above_round 7 _ _ (above_round 8 _ _ (above_last (refuses (lifts ws)) _ tt)))))
