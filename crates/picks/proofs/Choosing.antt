-- The choices gathered round by round are the panel's: those of the rounds before one, and the panel of the rounds from it on, are the whole.
use Prim.Native.Nat.{ℕ, ◌+◌, ◌≤◌, ◌<◌}
use mathlib.Core.Path.{◌≡◌, refl, sym, ap, ap₂, ◌∙◌}
use native.Mathlib.Omega.{arith}
use mathlib.Core.Bool.{Bool, true}
use mathlib.Core.List.{List, [], ◌∷◌, ◌++◌, append_assoc, append-nil}
use lib.Dec.{ltb}
use lib.ListN.{length, set}
use Rattle.std.specs.Prelude.{Option, None, Some, Ok, Err}
use Rattle.draw.specs.Draw.{largest, reached}
use Rattle.draw.specs.Run.{Run, finished, short as ended, run, answer}
use Rattle.round.specs.Choice.{Update, outcome as outcome_of, selected_by}
use Rattle.round.specs.Rows.{row_lifts as lifts_of_rows, initials}
use Rattle.round.specs.declared.Donors.{Donors}
use Rattle.round.specs.declared.Held.{Held}
use Rattle.round.specs.declared.Selection.{Selection}
use Rattle.sheet.specs.Sheet.{most_rounds, Lift}
use Rattle.tally.specs.Rounds.{lift_count}
use Rattle.tally.specs.declared.Tallies.{Tallies}
use Rattle.sheet.specs.Lift.{New}
use Rattle.rows.specs.declared.Layout.{Layout}
use Rattle.tally.proofs.Ranges.{from, from_step, from_none}
use Rattle.reply.specs.declared.Refusal.TheVariants.{Words}
use Rattle.selection.specs.declared.Pick.{Pick}
use Rattle.selection.specs.Choice.{plan_of, Way, by_update, Choice, Panel, chosen, short, preceded, choice_of, pick_of, panel_from, panel, by_round, none_chosen}
use Rattle.selection.proofs.Tables.{by_round_one}
use Rattle.picks.specs.Choosing.{pick_at, picked_at, picks_of, Behind}
use Rattle.picks.proofs.Rounds.{Lent, part_of, donors_in, initials_in, no_lifts, some_lifts, mark_is, selected_is}

-- some choices before those of a panel
abbrev prefixed : List Choice → Panel → Panel
prefixed cs (chosen ds next) = chosen (cs ++ ds) next
prefixed cs (short r) = short r

prefixed_none : (p : Panel) → prefixed [] p ≡ p
prefixed_none (chosen ds next) = refl
prefixed_none (short r) = refl

prefixed_one : (cs : List Choice) (c : Choice) (p : Panel) → prefixed cs (preceded c p) ≡ prefixed (cs ++ (c ∷ [])) p
prefixed_one cs c (chosen ds next) = ap (λ l. chosen l next) (sym (append_assoc cs (c ∷ []) ds))
prefixed_one cs c (short r) = refl

-- whether a new round has lifts
abbrev used : List Lift → ℕ → Bool
used ls r = ltb 0 (lift_count New r ls)

-- the choices of the rounds before r are gathered
pub record Going (way : Way) (ls : List Lift) (ws : List ℕ) (start : ℕ) (picks : List (Option Pick)) (at r : ℕ) : Type 0 where
  pub choices : List Choice
  pub table : picks ≡ by_round choices none_chosen
  pub same : prefixed choices (panel_from way ls ws at (from (used ls) r)) ≡ panel way ls ws start

pub going_none : (way : Way) (ls : List Lift) (ws : List ℕ) (start : ℕ) → Going way ls ws start none_chosen start 1
unfolding by_round
going_none way ls ws start = record { choices = []; table = refl; same = prefixed_none (panel way ls ws start) }

-- behind the last round
pub going_end : {way : Way} {ls : List Lift} {ws : List ℕ} {start : ℕ} {picks : List (Option Pick)} {at r : ℕ} → Going way ls ws start picks at r → most_rounds < r
    → (Ok picks ≡ picks_of (panel way ls ws start)) × Behind (panel way ls ws start) at
unfolding panel_from
going_end {ls = ls} {r = r} g h = let e = rw (from_none (used ls) r h, append-nil g.choices) at g.same in rw (← e) (ap Ok g.table, refl)

-- a round's step
module _ (update : Update) {ls : List Lift} {rows : List ℕ} {x : Layout} {t : Tallies} {ws : List ℕ} {start : ℕ} {picks : List (Option Pick)} {at r : ℕ} (d : Lent ls rows x t)
    (g : Going (by_update update) ls ws start picks at r) (low : 1 ≤ r) (high : r ≤ most_rounds) where
  abbrev way : Way
  way = by_update update

  -- it has no lifts: the panel goes on behind it
  pub idle : length (part_of x r rows) ≡ 0 → Going way ls ws start picks at (r + 1)
  idle e = record { choices = g.choices; table = g.table; same = rw (from_step (used ls) r high, no_lifts d low high e) at g.same }

  -- it has some: the choice of its rows is the run of its plan
  module _ (some : length (part_of x r rows) ≡ 0 → ⊥) {ds : Donors} (h : Held) (ed : ds ≡ donors_in x t r) (eh : initials h ≡ initials_in x r) {us : List ℕ} (eu : us ≡ ws) where
    u : ltb 0 (lift_count New r ls) ≡ true
    u = some_lifts d low high some

    abbrev trial : Run Selection
    trial = run largest ws at (plan_of update r ls)

    -- what its choice reached
    abbrev Reached : Option Pick → ℕ → Type 0
    Reached y n = reached y n ≡ picked_at (part_of x r rows) (selected_by update ds (lifts_of_rows (part_of x r rows)) (initials h) us at)

    is_trial : (y : Option Pick) (n : ℕ) → Reached y n → reached y n ≡ picked_at (part_of x r rows) (answer trial)
    is_trial y n e = rw (eu, selected_is d low high update h ed eh ws at) at e

    -- where it ends short, so does the panel
    pub on_none : {y : Option Pick} (n : ℕ) → Reached y n → y ≡ None → panel way ls ws start ≡ short r
    unfolding panel_from
    on_none n q e = ran trial refl (rw e at (is_trial _ n q))
      where
        ran : (z : Run Selection) → trial ≡ z → reached None n ≡ picked_at (part_of x r rows) (answer z) → panel way ls ws start ≡ short r
        ran (finished vs s m) w q = absurd (cc)
        ran ended w q = sym (rw (from_step (used ls) r high, u, w) at g.same)

    -- where it is finished there is one choice more
    goes_on : (vs : List ℕ) (s : Selection) (m : ℕ) → trial ≡ finished vs s m → Going way ls ws start (set picks r (Some (pick_of (choice_of r ls vs s)))) m (r + 1)
    unfolding panel_from
    goes_on vs s m q =
        let c = choice_of r ls vs s in
        record {
          choices = g.choices ++ (c ∷ []);
          table = ap (λ l. set l r (Some (pick_of c))) g.table ∙ sym (by_round_one g.choices c none_chosen);
          same = sym (prefixed_one g.choices c (panel_from way ls ws m (from (used ls) (r + 1)))) ∙ rw (from_step (used ls) r high, u, q) at g.same;
        }

    pub on_some : {y : Option Pick} {p : Pick} (n : ℕ) → Reached y n → y ≡ Some p → Going way ls ws start (set picks r (Some p)) n (r + 1)
    on_some {p = p} n t e = ran trial refl (rw e at (is_trial _ n t))
      where
        ran : (z : Run Selection) → trial ≡ z → reached (Some p) n ≡ picked_at (part_of x r rows) (answer z) → Going way ls ws start (set picks r (Some p)) n (r + 1)
        ran (finished vs s m) w q =
            let is = mark_is d low high s.place in
            let both : ◌≡◌ {A = Pick × ℕ} (p, n) (pick_at (part_of x r rows) s, m) = cc in
            let a : p ≡ pick_at (part_of x r rows) s = ap (λ (y : Pick × ℕ). y.0) both in
            let b : n ≡ m = ap (λ (y : Pick × ℕ). y.1) both in
            let c : pick_at (part_of x r rows) s ≡ pick_of (choice_of r ls vs s) = ap₂ (λ k m. record { number = k; outcome = outcome_of m s.dropped }) is.0 is.1 in
            rw (a, b, c) (goes_on vs s m w)
        ran ended w q = absurd (cc)

-- the words ended in round r
pub stopped : {x : Panel} {r : ℕ} → x ≡ short r → 1 ≤ r → (n : ℕ) → (Err (Words r) ≡ picks_of x) × Behind x n
stopped e h n = rw e (refl, omega (arith, h))
