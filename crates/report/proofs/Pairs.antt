-- The lines of output words, pair by pair; and those of the pairs of choices. Assumes nothing.
use Prim.Native.Nat.{ℕ, suc, ◌+◌, ◌*◌, ◌/◌, ◌^◌, ◌≤◌, ◌<◌}
use mathlib.Core.Path.{◌≡◌, refl, ap}
use mathlib.Core.List.Memᴰ
use mathlib.Core.List.{List, [], ◌∷◌, ◌++◌, flat_map}
use native.Mathlib.Numerals.{add-one}
use native.Mathlib.Omega.{arith}
use lib.ListN.{length, get_or, take, drop, drop_of_length-le}
use lib.Seq.{drop-cons}
use Rattle.std.specs.Simd.{first_chunks}
use Rattle.probability.specs.Pieces.{cut}
use Rattle.probability.proofs.Lists.{All}
use Rattle.probability.proofs.Pieces.{chunks_pieces, pieces_more}
use Rattle.sheet.specs.Sheet.{payload, place_of}
use Rattle.sheet.proofs.Trips.{payload_word}
use Rattle.selection.specs.Choice.{Choice, round_word, pair_of, written_pairs}
use Rattle.selection.proofs.Choices.{Sound}
use Rattle.report.specs.Report.{choice_line, choice_lines, pair_line, pair_lines}

-- the lines of the chunks that the code goes over
pub chunk_lines : (ws : List ℕ) → flat_map pair_line (first_chunks 2 (length ws / 2) ws) ≡ pair_lines ws
unfolding pair_lines
chunk_lines ws = ap (flat_map pair_line) (chunks_pieces 2 ws)

-- what is left is the line of the next pair and what is left behind it
pub next_line : (pairs : List (List ℕ)) (k : ℕ) {round number outcome : ℕ} (d : List ℕ) → k < length pairs → round ≡ (place_of (get_or (get_or pairs k d) 0 0)).round
    → number ≡ payload (get_or (get_or pairs k d) 1 0) → outcome ≡ (place_of (get_or (get_or pairs k d) 0 0)).measure
    → flat_map pair_line (drop k pairs) ≡ choice_line round number outcome ++ flat_map pair_line (drop (k + 1) pairs)
unfolding flat_map
next_line pairs k d h r n o = rw (add-one k, drop-cons pairs k d h, r, n, o)

pub no_line : (pairs : List (List ℕ)) (k : ℕ) → length pairs ≤ k → flat_map pair_line (drop k pairs) ≡ []
unfolding flat_map
no_line pairs k h = rw (drop_of_length-le pairs {i = k} h)

-- ---- the pairs of choices

-- what a choice's pair encodes
module _ (c : Choice) (p : Sound c) where
  first_payload : payload (round_word c.round c.outcome) ≡ c.round * 2 ^ 21 + c.outcome
  first_payload = payload_word 5 (c.round * 2 ^ 21 + c.outcome) (omega (arith, p.upto, p.most))

  round_encoded : (place_of (round_word c.round c.outcome)).round ≡ c.round
  round_encoded = rw first_payload (omega (arith, p.most))

  outcome_encoded : (place_of (round_word c.round c.outcome)).measure ≡ c.outcome
  outcome_encoded = rw first_payload (omega (arith, p.most))

-- the lines of the pairs that are written are the lines of the choices
pub pair_lines_lem : (cs : List Choice) (out : List ℕ) → All Sound cs → pair_lines (take (2 * length cs) (written_pairs cs out)) ≡ choice_lines cs
unfolding cut pair_lines flat_map choice_lines written_pairs
pair_lines_lem [] out e = refl
pair_lines_lem (c ∷ cs) out e =
    let n : 2 * suc (length cs) ≡ suc (suc (2 * length cs)) = omega arith in
    let p : Sound c = e c (Memᴰ.head refl) in
    rw (n, pieces_more 2 (pair_of c) (take (2 * length cs) (written_pairs cs (drop 2 out))) (omega arith) refl, round_encoded c p, outcome_encoded c p, payload_word 6 c.number p.number, pair_lines_lem cs (drop 2 out) (λ k m. e k (Memᴰ.tail m)))
