-- The answer to words alone: legible words meet no refusal, and one law for each way out.
use Prim.Native.Nat.{ℕ, zero, suc, ◌+◌, ◌≤◌, ◌<◌}
use mathlib.Core.Path.{◌≡◌, refl, sym}
use mathlib.Core.Bool.{Bool, true, false, cond, ◌||◌}
use mathlib.Core.List.{List, [], ◌∷◌}
use native.Mathlib.Omega.{arith}
use lib.Dec.{eqb, ltb}
use lib.ListN.{length}
use borrow.Author.Tests.{ne_eqb, le-ltb, ltb-false}
use Rattle.reply.specs.Reply.{numbered}
use Rattle.sheet.specs.Sheet.{longest, end_kind}
use Rattle.sheet.specs.Reading.{ScanState, mislong, next_state, fault, Reading, faulty, sound, unless_fault, read_from, start_state, reading, of_words, Legible}
use Rattle.sheet.proofs.Trips.{not_ended}

module _ (ws : List ℕ) where
  pub at_reading : {r : Reading} → (length ws ≡ 0 → ⊥) → length ws ≤ longest → r ≡ reading ws → r ≡ of_words ws
  at_reading some few e = rw (ne_eqb (length ws) 0 some, le-ltb longest (length ws) few) e

-- words without a refusal are legible, and legible words have none
pub legible_words : {ws : List ℕ} → of_words ws ≡ sound → Legible ws
legible_words {ws} e = go (eqb (length ws) 0) (ltb longest (length ws)) refl e
  where
    go : (t u : Bool) → ltb longest (length ws) ≡ u → cond (t || u) (faulty (numbered 1 (length ws))) (reading ws) ≡ sound → Legible ws
    go true u h q = let z : ◌≡◌ {A = ℕ} 0 1 = cc in absurd (omega arith)
    go false true h q = let z : ◌≡◌ {A = ℕ} 0 1 = cc in absurd (omega arith)
    go false false h q = record { short = ltb-false longest (length ws) h; read = q }

pub words_legible : {ws : List ℕ} → Legible ws → sound ≡ of_words ws
words_legible {ws} l = at_reading ws (some ws l.read) l.short (sym l.read)
  where
    some : (ws : List ℕ) → reading ws ≡ sound → length ws ≡ 0 → ⊥
    some [] e z = not_ended start_state 0 refl e
    some (w ∷ ws) e z = omega arith

-- no refusal has number 0: each names its own
abbrev pub AboveWord : Reading → Type 0
AboveWord (faulty x) = 0 < x.number
AboveWord sound = Unit {0}

above_unless : (n i : ℕ) (rest : Reading) → AboveWord rest → AboveWord (unless_fault n i rest)
above_unless zero i rest h = h
above_unless (suc n) i rest h = omega arith

above_from : (s : ScanState) (i : ℕ) (ws : List ℕ) → AboveWord (read_from s i ws)
unfolding read_from
above_from s i [] = go (eqb s.kind end_kind)
  where
    go : (t : Bool) → AboveWord (cond t sound (faulty (numbered 2 i)))
    go true = tt
    go false = omega arith
above_from s i (w ∷ ws) = above_unless (fault s w) i (read_from (next_state s w) (i + 1) ws) (above_from (next_state s w) (i + 1) ws)

above_words : (t : Bool) (n : ℕ) (r : Reading) → AboveWord r → AboveWord (cond t (faulty (numbered 1 n)) r)
above_words true n r h = omega arith
above_words false n r h = h

pub above_of_words : (ws : List ℕ) → AboveWord (of_words ws)
above_of_words ws = above_words (mislong ws) (length ws) (reading ws) (above_from start_state 0 ws)
