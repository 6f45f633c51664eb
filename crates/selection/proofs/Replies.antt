-- What stands behind a reply that is no refusal. Assumes nothing.
use Prim.Native.Nat.{ℕ, ◌*◌, ◌-◌, ◌≤◌}
use mathlib.Core.Path.{◌≡◌, refl, sym, ap}
use mathlib.Core.Bool.{Bool, true, false, cond}
use mathlib.Core.List.{List}
use native.Mathlib.Omega.{arith}
use lib.Dec.{ltb}
use lib.ListN.{length}
use borrow.Author.Tests.{ltb-false}
use Rattle.sheet.specs.Sheet.{lifts}
use Rattle.reply.specs.Reply.{numbered, of_refusal, replied}
use Rattle.tally.specs.Verdict.{Verdict, refused, fits, verdict_by, of_verdict}
use Rattle.tally.specs.Law.{FitBy}
use Rattle.tally.proofs.Verdicts.{decided, fit}
use Rattle.selection.specs.Choice.{Way, Choice, Panel, chosen, short, panel, of_panel, of_lent, reply}

-- the choices of a run, their number, and the words that were read
pub record Ran (way : Way) (sheet ws : List ℕ) (start n k : ℕ) : Type 0 where
  pub choices : List Choice
  pub next : ℕ
  pub is : panel way (lifts sheet) ws start ≡ chosen choices next
  pub count : n ≡ length choices
  pub read : k ≡ next - start
  pub started : start ≤ length ws
  pub fit : FitBy way.refuses (lifts sheet)

pub ran : (way : Way) (sheet ws : List ℕ) (start room : ℕ) {n k : ℕ} → reply way sheet ws start room ≡ replied n k → Ran way sheet ws start n k
unfolding reply
ran way sheet ws start room {n} {k} e = judged (verdict_by way.refuses sheet) refl e
  where
    of_panel_lem : FitBy way.refuses (lifts sheet) → (p : Panel) → panel way (lifts sheet) ws start ≡ p → start ≤ length ws → of_panel start p ≡ replied n k → Ran way sheet ws start n k
    of_panel_lem f (chosen cs next) h l q =
        record { choices = cs; next = next; is = h; count = sym (ap (λ r. r.second) q); read = sym (ap (λ r. r.third) q); started = l; fit = f }
    of_panel_lem f (short r) h l q = absurd (omega (arith, ap (λ r. r.number) q))

    lent : FitBy way.refuses (lifts sheet) → (rounds : ℕ) → of_lent way (lifts sheet) rounds ws start room ≡ replied n k → Ran way sheet ws start n k
    lent f rounds q = go (ltb (length ws) start) refl (ltb room (2 * rounds)) q
      where
        go : (t : Bool) → ltb (length ws) start ≡ t → (u : Bool)
            → cond t (of_refusal (numbered 11 start)) (cond u (of_refusal (numbered 12 (2 * rounds))) (of_panel start (panel way (lifts sheet) ws start))) ≡ replied n k
            → Ran way sheet ws start n k
        go true h u q = absurd (omega (arith, ap (λ r. r.number) q))
        go false h true q = absurd (omega (arith, ap (λ r. r.number) q))
        go false h false q = of_panel_lem f (panel way (lifts sheet) ws start) refl (ltb-false _ _ h) q

    judged : (v : Verdict) → verdict_by way.refuses sheet ≡ v → of_verdict v (λ rounds. of_lent way (lifts sheet) rounds ws start room) ≡ replied n k → Ran way sheet ws start n k
    judged (refused x) h q = absurd (omega (arith, ap (λ r. r.number) q, (decided way.refuses sheet).above x h))
    judged (fits m rounds) h q = lent (fit ((decided way.refuses sheet).only m rounds h).0) rounds q
