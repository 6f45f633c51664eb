-- The whole text by its cases: the length, a refusal, the choices, whose text has room; and which bytes decide it. Assumes nothing.
use Prim.Native.Nat.{ℕ, ◌*◌, ◌/◌, ◌%◌, ◌≤◌, ◌<◌, min}
use mathlib.Core.Path.{◌≡◌, refl, sym, ap, ◌∙◌}
use mathlib.Core.Bool.{Bool, true, false, cond}
use mathlib.Core.List.{List, ◌++◌}
use native.Mathlib.Omega.{arith}
use lib.Dec.{eqb, ltb}
use lib.ListN.{length, take}
use lib.Seq.{take-take}
use borrow.Author.Tests.{eq-eqb, ne_eqb, lt-ltb, le-ltb, eqb-true, ltb-false}
use Rattle.std.proofs.lemmas.List.{take_min}
use Rattle.sheet.specs.Sheet.{most_rounds, longest, lifts}
use Rattle.reply.specs.Reply.{numbered, replied, of_refusal}
use Rattle.reply.specs.Refusal.{refusal_of}
use Rattle.reply.specs.declared.Refusal.{Refusal}
use Rattle.reply.specs.declared.Reply.{Reply}
use Rattle.reply.proofs.Replies.{above_refusal}
use Rattle.tally.specs.Rounds.{in_use}
use Rattle.sheet.specs.Lift.{New}
use Rattle.selection.specs.Choice.{fourth, written_pairs, reply, output}
use Rattle.selection.proofs.Replies.{ran}
use Rattle.selection.proofs.Steps.{steps, steps_count, steps_between}
use Rattle.selection.proofs.Choices.{rises_sound, panel_rises, few_rounds}
use Rattle.report.specs.Report.{most_words, sheet_words, random_words, choice_lines, words_line, refused_line, text_of, report, pair_lines, text_room}
use Rattle.report.proofs.Sizes.{chosen_le}
use Rattle.report.proofs.Decoding.{random_first}
use Rattle.report.proofs.Pairs.{pair_lines_lem}

-- ---- the length

module _ (sheet : List ℕ) (size : ℕ) (words : List ℕ) where
  pub report_odd : (size % 4 ≡ 0 → ⊥) → report sheet size words ≡ refused_line (numbered 1 size)
  unfolding report
  report_odd h = rw (ne_eqb (size % 4) 0 h)

  pub report_long : size % 4 ≡ 0 → longest < size / 4 → report sheet size words ≡ refused_line (numbered 1 (size / 4))
  unfolding report
  report_long h l = rw (eq-eqb (size % 4) 0 h, lt-ltb longest (size / 4) l)

  pub report_text : {n : ℕ} → n ≡ min (length sheet) size → size % 4 ≡ 0 → size / 4 ≤ longest
      → report sheet size words ≡ text_of (sheet_words (take n sheet)) (random_words words)
  unfolding report
  report_text {n} e h l =
      let m : n ≡ min size (length sheet) = omega arith in
      rw (eq-eqb (size % 4) 0 h, le-ltb longest (size / 4) l, m, take_min size sheet)

  -- no byte behind the longest sheet and the first words matters
  pub report_first : report (take (4 * longest) sheet) size (take (8 * most_words) words) ≡ report sheet size words
  unfolding report
  report_first = rw (random_first words) (go (eqb (size % 4) 0) refl (ltb longest (size / 4)) refl)
    where
      text : List ℕ → List ℕ
      text bytes = text_of (sheet_words (take size bytes)) (random_words words)

      go : (t : Bool) → eqb (size % 4) 0 ≡ t → (u : Bool) → ltb longest (size / 4) ≡ u
          → cond t (cond u (refused_line (numbered 1 (size / 4))) (text (take (4 * longest) sheet))) (refused_line (numbered 1 size))
          ≡ cond t (cond u (refused_line (numbered 1 (size / 4))) (text sheet)) (refused_line (numbered 1 size))
      go true p true q = refl
      go true p false q = rw (take-take size (4 * longest) sheet (omega (arith, eqb-true (size % 4) 0 p, ltb-false longest (size / 4) q)))
      go false p u q = refl

-- ---- the answer

pub text_refused : (sheet ws : List ℕ) {r : Reply} → r ≡ reply fourth sheet ws 0 (2 * most_rounds) → (r.number ≡ 0 → ⊥)
    → text_of sheet ws ≡ refused_line (numbered r.number r.second)
unfolding text_of
text_refused sheet ws {r} e h = rw (← e, ne_eqb r.number 0 h)

-- the same of a refusal
pub text_refusal : (sheet ws : List ℕ) (x : Refusal) → of_refusal (refusal_of x) ≡ reply fourth sheet ws 0 (2 * most_rounds)
    → refused_line (refusal_of x) ≡ text_of sheet ws
text_refusal sheet ws x e = sym (text_refused sheet ws e (omega (arith, above_refusal x)))

-- the text from the output words out, of n choices and k words read
pub record Chosen (sheet ws : List ℕ) (n k : ℕ) (out : List ℕ) : Type 0 where
  pub inside : 2 * n ≤ length out
  pub is : pair_lines (take (2 * n) out) ++ words_line k ≡ text_of sheet ws
  pub room : length (pair_lines (take (2 * n) out) ++ words_line k) ≤ text_room

pub text_chosen : (sheet ws : List ℕ) {n k : ℕ} (out : List ℕ) {out' : List ℕ} → reply fourth sheet ws 0 (2 * most_rounds) ≡ replied n k → length ws ≤ most_words
    → length out ≡ 2 * most_rounds → length out' ≡ length out → out' ≡ output fourth sheet ws 0 out → Chosen sheet ws n k out'
unfolding text_of output
text_chosen sheet ws {n} {k} out {out'} e h l l' o =
    let m = ran fourth sheet ws 0 (2 * most_rounds) e in
    let t = steps fourth (lifts sheet) ws 0 (in_use New (lifts sheet)) m.is in
    let s = rises_sound 1 m.choices (panel_rises m.fit t) in
    let few : length m.choices ≤ most_rounds = omega (arith, steps_count t, few_rounds (lifts sheet)) in
    let w : out' ≡ written_pairs m.choices out = o ∙ rw (l, e, m.is) in
    let p : pair_lines (take (2 * n) out') ≡ choice_lines m.choices =
    ap (λ i. pair_lines (take (2 * i) out')) m.count ∙ ap (λ l. pair_lines (take (2 * length m.choices) l)) w ∙ pair_lines_lem m.choices out s in
    record {
      inside = omega (arith, few, m.count);
      is = rw (p, e, m.is);
      room = rw p (chosen_le m.choices _ s few (omega (arith, m.read, (steps_between t).1 m.started)));
    }
