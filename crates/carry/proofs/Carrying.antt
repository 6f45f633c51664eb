-- Next quarter's sheet, run at once: each round is its own only donor and changes nothing, so its held lift stays and nothing is drawn.
use Prim.Native.Nat.{ℕ, zero, suc, ◌+◌, ◌*◌, ◌≤◌, ◌<◌}
use mathlib.Core.Path.{◌≡◌, refl, sym, ap, ap₂, ◌∙◌}
use mathlib.Core.Bool.{Bool, true, false, or-false, or-true, false≢true}
use mathlib.Core.List.Memᴰ
use mathlib.Core.List.{List, [], ◌∷◌, map}
use native.Mathlib.Nat.{sub_self}
use native.Mathlib.Omega.{arith}
use lib.Dec.{eqb}
use lib.ListN.{length, get_or, length-map}
use borrow.Author.Tests.{eqb-true, eq-eqb, lt-ltb, le-ltb}
use Rattle.probability.specs.Among.{among}
use Rattle.probability.specs.Plan.{done}
use Rattle.probability.proofs.Lists.{All, all_map}
use Rattle.draw.specs.Run.{run}
use Rattle.round.specs.Choice.{selection, keyfitz, is_held, outcome}
use Rattle.probability.specs.Initial.{Initial, here, elsewhere}
use Rattle.sheet.specs.Sheet.{Lift, lifts}
use Rattle.tally.specs.Verdict.{fits, crowded, verdict}
use Rattle.reply.specs.Reply.{replied}
use Rattle.tally.specs.Law.{Fit}
use Rattle.sheet.specs.Lift.{Old, New, place_at}
use Rattle.sheet.proofs.Trips.{written_theorem}
use Rattle.tally.proofs.Verdicts.{decided, fits_sheet}
use Rattle.tally.specs.Rounds.{in_use, donors, of_round, held_at}
use Rattle.selection.specs.Choice.{donors_of, lifts_of, held_of_round, plan_of, no_lift, lift_in_round, fourth, Choice, choice_of, chosen, panel_from, panel, written_pairs, reply, output}
use Rattle.selection.proofs.Held.{sheet_length, sheet_short}
use Rattle.selection.proofs.Flags.{of_round_all, sends_has, flagged}
use Rattle.selection.proofs.Steps.{Steps, none, some, steps, steps_count}
use Rattle.selection.proofs.Chosen.{Measured, run_measured}
use Rattle.carry.specs.Next.{remaining, carried, is_chosen, next_lifts, next_sheet}
use Rattle.carry.specs.Law.{again, CarriesTheorem}
use Rattle.carry.proofs.Rounds.{in_use_next, donors_next, of_round_next}
use Rattle.carry.proofs.Still.{Still, still_plan}
use Rattle.carry.proofs.Marks.{Used, all_used, carried_in, fit_next}

-- ---- one round

-- the lift at a place of a round
carried_at : (held : Lift → Bool) (us : List Lift) (i : ℕ) → 0 < (place_at New (get_or us i no_lift)).measure
    → get_or (map (carried held) us) i no_lift ≡ carried held (get_or us i no_lift)
carried_at held [] i h = absurd (omega arith)
carried_at held (u ∷ us) zero h = refl
carried_at held (u ∷ us) (suc i) h = carried_at held us i h

-- the held lift of one donor
only : (x : Initial) (i : ℕ) → is_held (x ∷ []) i ≡ true → x ≡ here i
only (here j) i e = ap here (eqb-true j i (sym (or-false (eqb j i)) ∙ e))
only elsewhere i e = absurd (false≢true e)

module _ (ls : List Lift) (cs : List Choice) (fit : Fit (next_lifts cs ls)) {r : ℕ} (used : Used ls r) (i : ℕ) (a : Measured ls r (lift_in_round r ls i))
    (is : is_chosen cs (lift_in_round r ls i) ≡ true) where
  abbrev next : List Lift
  next = next_lifts cs ls

  -- the chosen lift stands where it stood, and is held
  stays : lift_in_round r next i ≡ carried (is_chosen cs) (lift_in_round r ls i)
  unfolding lift_in_round
  stays = rw (of_round_next (is_chosen cs) r used.low ls) (carried_at (is_chosen cs) (of_round r ls) i a.some)

  donor : donors r next ≡ r ∷ []
  donor =
      donors_next (is_chosen cs) r used.low used.high ls
      (sends_has r r (carried_in (is_chosen cs) a.inside (omega (arith, a.round, used.low)))
      (rw (eq-eqb (lift_in_round r ls i).new.round r a.round, lt-ltb 0 (place_at New (lift_in_round r ls i)).measure a.some)))

  held : held_of_round r next ≡ here i ∷ []
  unfolding held_of_round
  held =
      let h : is_held (held_of_round r next) i ≡ true = sym (flagged next fit r i) ∙ ap (λ l. l.held) stays ∙ is in
      rw donor (ap (λ x. x ∷ []) (only (held_at r (of_round r next)) i (rw donor at h)))

  -- every lift is of that donor and keeps its measure
  still : All Still (lifts_of r next)
  unfolding lifts_of
  still =
      rw (donor, of_round_next (is_chosen cs) r used.low ls)
      (all_map Still _ (map (carried (is_chosen cs)) (of_round r ls))
      (all_map _ (carried (is_chosen cs)) (of_round r ls)
      (of_round_all _ r ls (λ l _ q. record { donor = rw (q, eq-eqb r r refl); same = refl }))))

  pub plan_next : plan_of keyfitz r next ≡ done (selection i false)
  unfolding plan_of donors_of
  plan_next = rw (donor, held) (still_plan _ (lifts_of r next) still i)

  pub choice_next : (vs : List ℕ) (dropped : Bool) → choice_of r next [] (selection i false) ≡ again (choice_of r ls vs (selection i dropped))
  unfolding outcome
  choice_next vs dropped = rw (stays, is)

-- ---- all rounds

module _ (ls : List Lift) (f : Fit ls) (cs : List Choice) (fit : Fit (next_lifts cs ls)) where
  keep_rounds : {ws : List ℕ} {from next : ℕ} {rs : List ℕ} {ds : List Choice} → All (Used ls) rs → ((l : Lift) → is_chosen ds l ≡ true → is_chosen cs l ≡ true)
      → Steps fourth ls ws from rs ds next → (vs : List ℕ) (start : ℕ) → panel_from fourth (next_lifts cs ls) vs start rs ≡ chosen (map again ds) start
  unfolding panel_from run among
  keep_rounds u sub none vs start = refl
  keep_rounds {ws} {from} u sub (some {r = r} {vs = values} {s = s} q k) vs start =
      let used = u r (Memᴰ.head refl) in
      let a = run_measured f used.low used.high used.some ws from q in
      let l = lift_in_round r ls s.place in
      let is : is_chosen cs l ≡ true = sub l (rw (eq-eqb l.number l.number refl)) in
      let ih = keep_rounds (λ t i. u t (Memᴰ.tail i)) (λ m e. sub m (rw e (or-true (eqb l.number m.number)))) k vs start in
      rw (plan_next ls cs fit used s.place a is, choice_next ls cs fit used s.place a is values s.dropped, ih)

-- ---- the sheet

module _ (ls : List Lift) (f : Fit ls) {ws : List ℕ} {start next : ℕ} {cs : List Choice} (k : Steps fourth ls ws start (in_use New ls) cs next) where
  fit : Fit (next_lifts cs ls)
  fit = fit_next f k

  back : lifts (next_sheet cs ls) ≡ next_lifts cs ls
  back = (written_theorem (next_lifts cs ls) fit.well_formed).back

  many : length (next_lifts cs ls) ≡ length (remaining ls)
  many = length-map (remaining ls) (carried (is_chosen cs))

  fitting : verdict (next_sheet cs ls) ≡ fits (length (remaining ls)) (length (in_use New ls))
  fitting =
      (decided crowded (next_sheet cs ls)).passes (fits_sheet fit (sheet_short fit))
      ∙ ap (λ us. fits (length us) (length (in_use New us))) back ∙ ap₂ fits many (ap length (in_use_next (is_chosen cs) New ls))

  keeps : (vs : List ℕ) (at : ℕ) → panel fourth (next_lifts cs ls) vs at ≡ chosen (map again cs) at
  keeps vs at = ap (panel_from fourth (next_lifts cs ls) vs at) (in_use_next (is_chosen cs) New ls) ∙ keep_rounds ls f cs fit (all_used ls) (λ l e. e) k vs at

  replies : (vs : List ℕ) (at room : ℕ) → at ≤ length vs → 2 * length cs ≤ room → reply fourth (next_sheet cs ls) vs at room ≡ replied (length cs) 0
  unfolding reply
  replies vs at room a b =
      rw (fitting, back, ← steps_count k, le-ltb (length vs) at a, le-ltb room (2 * length cs) b, keeps vs at, length-map cs again, sub_self at)

  writes : (vs : List ℕ) (at : ℕ) (out : List ℕ) → at ≤ length vs → 2 * length cs ≤ length out → output fourth (next_sheet cs ls) vs at out ≡ written_pairs (map again cs) out
  unfolding output
  writes vs at out a b = rw (replies vs at (length out) a b, back, keeps vs at)

pub carries : CarriesTheorem
carries ls f ws start behind cs e =
    let k = steps fourth ls ws start (in_use New ls) e in
    record {
      back = back ls f k;
      fits = fitting ls f k;
      long = sheet_length (fit ls f k) ∙ ap₂ (λ n m. 3 * n + m + 1) (many ls f k) (ap length (in_use_next (is_chosen cs) Old ls));
      keeps = keeps ls f k;
      replies = replies ls f k;
      writes = writes ls f k;
    }
