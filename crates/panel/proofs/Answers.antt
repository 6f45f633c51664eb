-- The answer to a fitting sheet and the output: one law for each way out.
use Prim.Native.Nat.{ℕ, ◌-◌, ◌*◌, ◌≤◌, ◌<◌}
use mathlib.Core.Path.{◌≡◌, refl, sym, ap, ◌∙◌}
use mathlib.Core.Bool.{Bool, true, false, cond}
use mathlib.Core.List.{List, []}
use native.Mathlib.Omega.{arith}
use lib.Dec.{ltb}
use lib.ListN.{length}
use borrow.Author.Tests.{ltb-false, lt-ltb, le-ltb}
use Rattle.std.specs.Prelude.{Option, IfSome, Ok, Err}
use Rattle.sheet.specs.Sheet.{Lift, lifts}
use Rattle.reply.proofs.Replies.{left}
use Rattle.reply.specs.Reply.{Numbered, numbered, replied, of_refusal, unless_refused}
use Rattle.reply.specs.Refusal.{refusal_of}
use Rattle.reply.specs.declared.Reply.{Reply}
use Rattle.reply.specs.declared.Refusal.{Refusal}
use Rattle.reply.specs.declared.Refusal.TheVariants.{Words}
use Rattle.tally.specs.Rounds.{in_use}
use Rattle.tally.specs.Law.{FitBy}
use Rattle.tally.specs.Verdict.{refused, fits, crowded, verdict, verdict_by}
use Rattle.tally.proofs.Verdicts.{decided, judged_fits}
use Rattle.sheet.specs.Lift.{New}
use Rattle.selection.specs.declared.Pick.{Pick}
use Rattle.selection.specs.Choice.{Way, Choice, Panel, chosen, short, panel, by_round, none_chosen, of_panel, unless_lacking, of_lent, reply, written_pairs, written_panel, output}
use Rattle.selection.proofs.Steps.{Steps, steps, steps_count, steps_between}
use Rattle.selection.proofs.Choices.{panel_rises}
use Rattle.selection.proofs.Tables.{none_chosen_at, by_round_each}
use Rattle.picks.specs.Choosing.{picks_of, Behind}
use Rattle.panel.specs.Writing.{pairs, with_pairs, PairFits, PairsFit}
use Rattle.panel.proofs.Tabled.{pairs_tabled, length_written, written_behind}

-- ---- the lifts chosen

-- where the words did not end, the lifts chosen are those of the panel, and the reader stands behind the words that it read
pub record Gathered (way : Way) (ls : List Lift) (ws : List ℕ) (start : ℕ) (picks : List (Option Pick)) (at : ℕ) : Type 0 where
  pub choices : List Choice
  pub is : panel way ls ws start ≡ chosen choices at
  pub table : picks ≡ by_round choices none_chosen
  pub steps : Steps way ls ws start (in_use New ls) choices at

module _ (way : Way) (ls : List Lift) (ws : List ℕ) (start : ℕ) where
  pub gathered : {picks : List (Option Pick)} {at : ℕ} → Ok picks ≡ picks_of (panel way ls ws start) → Behind (panel way ls ws start) at → Gathered way ls ws start picks at
  gathered {picks} {at} p b = go (panel way ls ws start) refl p b
    where
      go : (x : Panel) → panel way ls ws start ≡ x → Ok picks ≡ picks_of x → Behind x at → Gathered way ls ws start picks at
      go (chosen cs next) e q h = record { choices = cs; is = rw h e; table = cc; steps = rw h (steps way ls ws start (in_use New ls) e) }
      go (short r) e q h = let z : ◌≡◌ {A = ℕ} 0 1 = cc in absurd (omega arith)

  -- where they ended, the reply is the panel's, which writes nothing
  pub ended : {x : Refusal} → Err x ≡ picks_of (panel way ls ws start) → (out : List ℕ)
      → (of_refusal (refusal_of x) ≡ of_panel start (panel way ls ws start)) × (out ≡ written_panel (panel way ls ws start) out)
  ended {x} p out = go (panel way ls ws start) p
    where
      go : (y : Panel) → Err x ≡ picks_of y → (of_refusal (refusal_of x) ≡ of_panel start y) × (out ≡ written_panel y out)
      go (chosen cs next) q = let z : ◌≡◌ {A = ℕ} 0 1 = cc in absurd (omega arith)
      go (short r) q = let e : x ≡ Words r = cc in (rw e, refl)

  module _ {picks : List (Option Pick)} {at : ℕ} (g : Gathered way ls ws start picks at) where
    -- the words were read from the start on
    pub onward : start ≤ at
    onward = (steps_between g.steps).0

    -- the reply is the panel's
    pub replied_all : {rounds : ℕ} → rounds ≡ length (in_use New ls) → replied rounds (at - start) ≡ of_panel start (panel way ls ws start)
    replied_all e = ap (λ n. replied n (at - start)) (e ∙ sym (steps_count g.steps)) ∙ sym (ap (of_panel start) g.is)

    module _ (f : FitBy way.refuses ls) where
      pairs_are : pairs picks ≡ written_pairs g.choices []
      pairs_are = rw g.table (pairs_tabled g.choices (panel_rises f g.steps))

      -- the pairs have room where each round has two words
      pub writable : (room : ℕ) → 2 * length (in_use New ls) ≤ room → PairsFit picks room
      writable room h =
          record {
            few = rw (pairs_are, length_written g.choices) (omega (arith, steps_count g.steps));
            each = rw g.table (by_round_each (λ p. IfSome p PairFits) (λ c s. record { number = s.number; outcome = s.most }) 1 g.choices (panel_rises f g.steps) none_chosen (λ r. rw (none_chosen_at r) tt));
          }

      -- and the output is the panel's
      pub written_all : (out : List ℕ) → with_pairs picks out ≡ written_panel (panel way ls ws start) out
      written_all out = rw (g.is, pairs_are, length_written g.choices) (sym (written_behind g.choices out))

-- ---- the ways out

-- a panel whose words ended leaves the output
pub left_panel : (start : ℕ) (x : Panel) (out : List ℕ) → written_panel x out ≡ unless_refused (of_panel start x) out (written_panel x out)
left_panel start (chosen cs next) out = refl
left_panel start (short r) out = refl

-- 11 or 12, or else what follows: nothing is lacking where the number is 0
module _ (n words start room : ℕ) where
  pub late : (otherwise : Reply) → words < start → of_refusal (numbered 11 start) ≡ unless_lacking n words start room otherwise
  late otherwise h = rw (lt-ltb words start h)

  module _ (a : start ≤ words) where
    pub narrow : (otherwise : Reply) → room < 2 * n → of_refusal (numbered 12 (2 * n)) ≡ unless_lacking n words start room otherwise
    narrow otherwise h = rw (le-ltb words start a, lt-ltb room (2 * n) h)

    pub enough : (otherwise : Reply) → 2 * n ≤ room → otherwise ≡ unless_lacking n words start room otherwise
    enough otherwise h = rw (le-ltb words start a, le-ltb room (2 * n) h)

  -- nothing is lacking where the answer is Ok
  pub suffices : ((otherwise : Reply) → otherwise ≡ unless_lacking n words start room otherwise) → (start ≤ words) × (2 * n ≤ room)
  suffices e = go (ltb words start) refl (ltb room (2 * n)) refl (ap (λ r. r.number) (e (replied 0 0)))
    where
      go : (s : Bool) → ltb words start ≡ s → (t : Bool) → ltb room (2 * n) ≡ t
          → 0 ≡ (cond s (of_refusal (numbered 11 start)) (cond t (of_refusal (numbered 12 (2 * n))) (replied 0 0))).number → (start ≤ words) × (2 * n ≤ room)
      go true p t q f = absurd (omega (arith, f))
      go false p true q f = absurd (omega (arith, f))
      go false p false q f = (ltb-false words start p, ltb-false room (2 * n) q)

-- where the lists that were lent suffice, both are the panel's
pub through : (way : Way) (ls : List Lift) (ws : List ℕ) (start : ℕ) (out : List ℕ) → (start ≤ length ws) × (2 * length (in_use New ls) ≤ length out) → {y : Reply} {out' : List ℕ}
    → y ≡ of_panel start (panel way ls ws start) → out' ≡ written_panel (panel way ls ws start) out
    → (y ≡ of_lent way ls (length (in_use New ls)) ws start (length out))
    × (out' ≡ unless_refused (of_lent way ls (length (in_use New ls)) ws start (length out)) out (written_panel (panel way ls ws start) out))
through way ls ws start out a p q =
    let x = panel way ls ws start in
    rw (← enough (length (in_use New ls)) (length ws) start (length out) a.0 (of_panel start x) a.1) (p, q ∙ left_panel start x out)

-- ---- the whole sheet

-- a refused sheet, and a fitting one
module _ (way : Way) (sheet ws : List ℕ) (start : ℕ) (out : List ℕ) where
  pub at_sheet : {x : Numbered} → refused x ≡ verdict_by way.refuses sheet → (of_refusal x ≡ reply way sheet ws start (length out)) × (out ≡ output way sheet ws start out)
  unfolding reply output
  at_sheet {x} e = rw (← e) (left out _ (λ z. omega (arith, z, (decided way.refuses sheet).above x (sym e))) refl)

  pub at_fitting : {n k : ℕ} {y : Reply} {out' : List ℕ} → fits n k ≡ verdict_by way.refuses sheet → y ≡ of_lent way (lifts sheet) k ws start (length out)
      → out' ≡ unless_refused (of_lent way (lifts sheet) k ws start (length out)) out (written_panel (panel way (lifts sheet) ws start) out)
      → (y ≡ reply way sheet ws start (length out)) × (out' ≡ output way sheet ws start out)
  unfolding reply output
  at_fitting e f g = rw (← e) (f, g)

-- how many new rounds a fitting sheet has
pub counted : (ws : List ℕ) {n k : ℕ} → fits n k ≡ verdict ws → k ≡ length (in_use New (lifts ws))
counted ws e = ((decided crowded ws).only _ _ (sym e)).2

-- the verdict on a sheet that fits
pub fitting_counts : (ws : List ℕ) {n k : ℕ} → fits n k ≡ verdict ws → fits (length (lifts ws)) (length (in_use New (lifts ws))) ≡ verdict ws
fitting_counts ws e = sym ((decided crowded ws).passes (judged_fits ws e))
