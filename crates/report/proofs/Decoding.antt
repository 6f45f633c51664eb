-- Words of bytes: a word that the library decodes, the words of chunks, and which bytes decide them. Assumes nothing.
use Prim.Native.Nat.{ℕ, zero, suc, ◌+◌, ◌*◌, ◌/◌, ◌^◌, ◌≤◌, ◌<◌, min}
use mathlib.Core.Path.{◌≡◌, refl, sym, ap, ◌∙◌}
use mathlib.Core.List.{List, [], ◌∷◌, ◌++◌, map}
use native.Mathlib.Nat.{pow-suc, mul_assoc}
use native.Mathlib.Omega.{arith}
use lib.ListN.{length, get_or, take, length-take, length-map}
use lib.Seq.{length-take-le, take_all, take-suc, take-take}
use mir.Syntax.{w32, w64}
use Rattle.std.proofs.lemmas.List.{take-map, take_min}
use Rattle.std.specs.Int.{byte_worth, sum_through, from_le_bytes}
use Rattle.std.specs.List.{slice_index}
use Rattle.std.specs.Simd.{first_chunks}
use Rattle.probability.specs.Pieces.{pieces}
use Rattle.probability.proofs.Pieces.{chunks_pieces, length_pieces, pieces_first}
use Rattle.sheet.specs.Sheet.{longest}
use Rattle.report.specs.Report.{little_endian, little_endian_words, sheet_words, most_words, random_words, CountTheorem}

-- ---- one word

little_endian_more : (xs : List ℕ) (b : ℕ) → little_endian (xs ++ b ∷ []) ≡ little_endian xs + b * 256 ^ length xs
unfolding little_endian
little_endian_more [] b = omega arith
little_endian_more (x ∷ xs) b =
    let e : b * (256 ^ length xs * 256) ≡ b * 256 ^ length xs * 256 = sym (mul_assoc b (256 ^ length xs) 256) in
    rw (little_endian_more xs b, pow-suc, e) (omega arith)

-- the bytes up to place k, by their worth
worth_through : (k : ℕ) (bytes : List ℕ) → k < length bytes
    → sum_through (λ i. byte_worth i (slice_index bytes i)) k ≡ little_endian (take (suc k) bytes)
unfolding little_endian
worth_through zero [] h = absurd (omega arith)
worth_through zero (b ∷ bytes) h = omega arith
worth_through (suc k) bytes h =
    let l : length (take (suc k) bytes) ≡ suc k = length-take-le (suc k) bytes (omega arith) in
    rw (take-suc bytes (suc k) 0 h, little_endian_more (take (suc k) bytes) (get_or bytes (suc k) 0), l, worth_through k bytes (omega arith))

pub word_4 : (bytes : List ℕ) → length bytes ≡ 4 → from_le_bytes w32 bytes ≡ little_endian bytes
word_4 bytes h = worth_through 3 bytes (omega arith) ∙ ap little_endian (take_all 4 bytes (omega arith))

pub word_8 : (bytes : List ℕ) → length bytes ≡ 8 → from_le_bytes w64 bytes ≡ little_endian bytes
word_8 bytes h = worth_through 7 bytes (omega arith) ∙ ap little_endian (take_all 8 bytes (omega arith))

-- ---- many

pub length_words : (size : ℕ) (bytes : List ℕ) → length (little_endian_words size bytes) ≡ length bytes / size
unfolding little_endian_words
length_words size bytes = rw (length-map, length_pieces)

-- the first n chunks, decoded, are the first words, as many as there is room for
pub decoded : {A : Type 0} (f : List ℕ → A) (size most : ℕ) (bytes : List ℕ) {chunks : List (List ℕ)} (room : List A) {n i : ℕ}
    → chunks ≡ first_chunks size (length bytes / size) bytes → n ≡ min most (length chunks) → length (take n chunks) ≤ i → i ≤ length (take n chunks)
    → take i room ≡ map f (take i (take n chunks)) → take n room ≡ take most (map f (pieces size bytes))
decoded f size most bytes {chunks} room {n} {i} e m low high same =
    let p : chunks ≡ pieces size bytes = e ∙ chunks_pieces size bytes in
    let q : length chunks ≡ length (map f (pieces size bytes)) = ap length p ∙ sym (length-map (pieces size bytes) f) in
    let l : length (take n chunks) ≡ n = length-take-le n chunks (omega arith) in
    let k : i ≡ n = omega arith in
    rw (k, take-take n n chunks (omega arith)) at same ∙ sym (take-map f n chunks) ∙ rw (m, q, p) (take_min most (map f (pieces size bytes)))

-- what is decoded of a sheet that is not too long, and of the file of random words
pub sheet_decoded : (bytes : List ℕ) → length bytes / 4 ≤ longest → take longest (map little_endian (pieces 4 bytes)) ≡ sheet_words bytes
unfolding little_endian_words
sheet_decoded bytes h = take_all longest (sheet_words bytes) (omega (arith, length_words 4 bytes))

pub random_decoded : (bytes : List ℕ) → take most_words (map little_endian (pieces 8 bytes)) ≡ random_words bytes
unfolding little_endian_words
random_decoded bytes = refl

pub random_le : (bytes : List ℕ) → length (random_words bytes) ≤ most_words
random_le bytes = rw length-take (omega arith)

-- ---- the first bytes suffice

pub length_random : CountTheorem
length_random bytes = rw (length-take, length_words)

-- no byte behind those of the first words matters
pub random_first : (bytes : List ℕ) → random_words (take (8 * most_words) bytes) ≡ random_words bytes
unfolding little_endian_words
random_first bytes = rw (pieces_first 8 most_words bytes (omega arith), take-map, take-take most_words most_words (pieces 8 bytes) (omega arith), ← take-map)
