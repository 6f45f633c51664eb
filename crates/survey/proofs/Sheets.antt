-- The sheet of an answer with the one of the answer that it was made from.
use mathlib.Core.Path.{◌≡◌, ap, ◌∙◌}
use mathlib.Core.List.{List}
use Prim.Native.Nat.{ℕ}
use denote.Ref.{Bor}
use Rattle.std.specs.Prelude.{Result, Ok, Err, IfOk, IsOkAnd}
use Rattle.std.proofs.lemmas.Result.{IfOk-weaker}
use Rattle.reply.specs.declared.Refusal.{Refusal}
use Rattle.tally.specs.declared.Examined.{Examined}
use Rattle.tally.specs.declared.FittingSheet.{FittingSheet}

module _ (examined : Result Examined Refusal) (words : Bor (List ℕ)) (h : IfOk examined (λ e. e.sheet.words ≡ words)) where
  -- the words that are lent are the same list
  pub words_now : IfOk examined (λ e. e.sheet.words.now ≡ words.now)
  words_now = IfOk-weaker examined _ _ (λ e q. ap (λ w. w.now) q) h

  -- a sheet with the words of an examined one has the words that were lent for that
  pub words_same : (answer : Result FittingSheet Refusal) → IfOk answer (λ f. IsOkAnd examined (λ e. f.sheet.words ≡ e.sheet.words)) → IfOk answer (λ f. f.sheet.words ≡ words)
  words_same answer = IfOk-weaker answer _ _ (λ f p. go examined p h)
    where
      go : {w : Bor (List ℕ)} (r : Result Examined Refusal) → IsOkAnd r (λ e. w ≡ e.sheet.words) → IfOk r (λ e. e.sheet.words ≡ words) → w ≡ words
      go (Ok e) p q = p ∙ q
      go (Err x) p q = absurd p
