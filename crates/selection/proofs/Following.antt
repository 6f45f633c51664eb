-- A run of the whole choice follows, in each round, a path of that round's plan: where the values are a path's, the pair written for
-- the round has the path's lift and outcome.
use Prim.Native.Nat.{ℕ, zero, suc, ◌+◌, ◌*◌, ◌<◌}
use mathlib.Core.Path.{◌≡◌, refl, ◌∙◌}
use mathlib.Core.List.{List, [], ◌∷◌, map, Memᴰ}
use native.Mathlib.Omega.{arith}
use lib.ListN.{length, get_or, drop}
use lib.Seq.{slice}
use Rattle.probability.specs.Plan.{Path, paths}
use Rattle.draw.specs.Draw.{largest}
use Rattle.draw.specs.Run.{finished, run}
use Rattle.draw.proofs.Runs.{follows}
use Rattle.round.specs.declared.Selection.{Selection}
use Rattle.sheet.specs.Sheet.{Lift, lifts}
use Rattle.tally.specs.Rounds.{in_use}
use Rattle.reply.specs.Reply.{replied}
use Rattle.sheet.specs.Lift.{New}
use Rattle.selection.specs.Choice.{Way, Choice, chosen, choice_of, panel, reply, pair_of, written_pairs, output}
use Rattle.selection.specs.Fair.{draws}
use Rattle.selection.proofs.Replies.{ran}
use Rattle.selection.proofs.Steps.{Steps, none, some, steps}

-- the i-th pair comes from a run of round r's plan
record Comes (way : Way) (ls : List Lift) (ws : List ℕ) (cs : List Choice) (i r : ℕ) : Type 0 where
  from : ℕ
  next : ℕ
  result : Selection
  drew : run largest ws from (way.plan r ls) ≡ finished (get_or (map (λ c. c.values) cs) i []) result next
  wrote : (out : List ℕ) → slice (2 * i) (2 * i + 2) (written_pairs cs out) ≡ pair_of (choice_of r ls (get_or (map (λ c. c.values) cs) i []) result)

-- the pairs behind the first one
slice_behind : (c : Choice) (cs : List Choice) (out : List ℕ) (i : ℕ) → slice (2 * suc i) (2 * suc i + 2) (written_pairs (c ∷ cs) out) ≡ slice (2 * i) (2 * i + 2) (written_pairs cs (drop 2 out))
unfolding written_pairs
slice_behind c cs out i =
    let a : 2 * suc i ≡ suc (suc (2 * i)) = omega arith in
    let b : 2 * suc i + 2 ≡ suc (suc (2 * i + 2)) = omega arith in
    rw (b, a)

come : (way : Way) (ls : List Lift) (ws : List ℕ) {from next : ℕ} {rs : List ℕ} {cs : List Choice} → Steps way ls ws from rs cs next → (i : ℕ) → i < length rs
    → Comes way ls ws cs i (get_or rs i 0)
unfolding written_pairs
come way ls ws none i h = absurd (omega arith)
come way ls ws (some {from = from} {n = n} {s = s} q k) zero h = record { from = from; next = n; result = s; drew = q; wrote = λ out. refl }
come way ls ws (some {r = r} {cs = cs} {vs = vs} {s = s} q k) (suc i) h =
    let c = come way ls ws k i (omega arith) in
    record {
      from = c.from;
      next = c.next;
      result = c.result;
      drew = c.drew;
      wrote = λ out. slice_behind (choice_of r ls vs s) cs out i ∙ c.wrote (drop 2 out);
    }

-- and so it has the lift and the outcome of the path that has its values
pub carries : (way : Way) (sheet : List ℕ) {ls : List Lift} → lifts sheet ≡ ls → (ws : List ℕ) (start : ℕ) (out : List ℕ) {n k : ℕ}
    → reply way sheet ws start (length out) ≡ replied n k → (i : ℕ) → i < length (in_use New ls) → {r : ℕ} → get_or (in_use New ls) i 0 ≡ r
    → (p : Path Selection) → Memᴰ p (paths (way.plan r ls)) → get_or (draws (panel way ls ws start)) i [] ≡ p.values
    → slice (2 * i) (2 * i + 2) (output way sheet ws start out) ≡ pair_of (choice_of r ls p.values p.result)
unfolding output
carries way sheet {ls} b ws start out e i h {r} a p d v =
    let x = ran way sheet ws start (length out) e in
    let is : panel way ls ws start ≡ chosen x.choices x.next = rw (← b) x.is in
    let c : Comes way ls ws x.choices i r = rw a at (come way ls ws (steps way ls ws start (in_use New ls) is) i h) in
    let vs : get_or (map (λ c. c.values) x.choices) i [] ≡ p.values = rw is at v in
    let drew : run largest ws c.from (way.plan r ls) ≡ finished p.values c.result c.next = rw (← vs) c.drew in
    let same : p.result ≡ c.result = (follows largest (way.plan r ls)).result ws c.from c.next c.result p d drew in
    rw (e, x.is, same) (c.wrote out)
