-- A panel that was chosen, step by step: each choice comes from a finished run of its round's plan, where the one before stopped.
use Prim.Native.Nat.{ℕ, suc, ◌≤◌}
use mathlib.Core.Path.{◌≡◌, refl, ap}
use mathlib.Core.List.{List, [], ◌∷◌}
use native.Mathlib.Omega.{arith}
use lib.ListN.{length}
use Rattle.draw.specs.Draw.{largest}
use Rattle.draw.specs.Run.{Run, finished, short as ended, run}
use Rattle.draw.proofs.Positions.{run_between}
use Rattle.round.specs.declared.Selection.{Selection}
use Rattle.sheet.specs.Sheet.{Lift}
use Rattle.selection.specs.Choice.{Way, Choice, Panel, chosen, short, preceded, choice_of, and_then, panel_from}

-- the choices of some rounds, from a position to the next
pub data Steps (way : Way) (ls : List Lift) (ws : List ℕ) : ℕ → List ℕ → List Choice → ℕ → Type 0 where
  none : {from : ℕ} → Steps way ls ws from [] [] from
  some : {from n next r : ℕ} {rs : List ℕ} {cs : List Choice} {vs : List ℕ} {s : Selection} → run largest ws from (way.plan r ls) ≡ finished vs s n
      → Steps way ls ws n rs cs next → Steps way ls ws from (r ∷ rs) (choice_of r ls vs s ∷ cs) next

pub steps : (way : Way) (ls : List Lift) (ws : List ℕ) (from : ℕ) (rs : List ℕ) {cs : List Choice} {next : ℕ} → panel_from way ls ws from rs ≡ chosen cs next → Steps way ls ws from rs cs next
unfolding panel_from
steps way ls ws from [] {cs} {next} e =
    let x : cs ≡ [] = cc in
    let y : next ≡ from = cc in
    rw (x, y) none
steps way ls ws from (r ∷ rs) {cs} {next} e = go (run largest ws from (way.plan r ls)) refl e (λ n ds. steps way ls ws n rs {cs = ds})
  where
    behind : (vs : List ℕ) (s : Selection) (n : ℕ) → run largest ws from (way.plan r ls) ≡ finished vs s n → (p : Panel) → preceded (choice_of r ls vs s) p ≡ chosen cs next
        → ((ds : List Choice) → p ≡ chosen ds next → Steps way ls ws n rs ds next) → Steps way ls ws from (r ∷ rs) cs next
    behind vs s n q (chosen ds k) x rest =
        let y : cs ≡ choice_of r ls vs s ∷ ds = cc in
        let z : k ≡ next = cc in
        rw y (some q (rest ds (ap (chosen ds) z)))
    behind vs s n q (short k) x rest = let z : ◌≡◌ {A = ℕ} 0 1 = cc in absurd (omega arith)

    go : (x : Run Selection) → run largest ws from (way.plan r ls) ≡ x → and_then r ls x (λ n. panel_from way ls ws n rs) ≡ chosen cs next
        → ((n : ℕ) (ds : List Choice) → panel_from way ls ws n rs ≡ chosen ds next → Steps way ls ws n rs ds next) → Steps way ls ws from (r ∷ rs) cs next
    go (finished vs s n) q x rest = behind vs s n q (panel_from way ls ws n rs) x (rest n)
    go ended q x rest = let z : ◌≡◌ {A = ℕ} 0 1 = cc in absurd (omega arith)

-- a choice for each round, and positions rise, up to the last word
pub steps_count : {way : Way} {ls : List Lift} {ws : List ℕ} {from next : ℕ} {rs : List ℕ} {cs : List Choice} → Steps way ls ws from rs cs next → length cs ≡ length rs
steps_count none = refl
steps_count (some q k) = ap suc (steps_count k)

pub steps_between : {way : Way} {ls : List Lift} {ws : List ℕ} {from next : ℕ} {rs : List ℕ} {cs : List Choice} → Steps way ls ws from rs cs next
    → (from ≤ next) × (from ≤ length ws → next ≤ length ws)
steps_between none = (omega arith, λ h. h)
steps_between {way} {ls} {ws} {from} (some {r = r} q k) =
    let c = steps_between k in
    let d = run_between largest ws from (way.plan r ls) q in
    (omega (arith, c.0, d.0), λ h. c.1 (d.1 h))
