-- A text that is taken: no line is faulty, so each names a lift of its own; the result's numbers have room in its words, so they read back
-- as the lifts that they were written from.
use Prim.Native.Nat.{ℕ, zero, suc, ◌+◌, ◌<◌}
use mathlib.Core.Path.{◌≡◌, refl, sym, ◌∙◌}
use mathlib.Core.Bool.{Bool, true, false, cond, not, ◌&&◌, ◌||◌, true≢false}
use mathlib.Core.List.{List, [], ◌∷◌, map}
use Rattle.std.specs.Prelude.{Option, Some, None}
use native.Mathlib.Omega.{arith}
use lib.Dec.{eqb}
use lib.ListN.{length, get_or, length-map}
use borrow.Author.Tests.{eq-eqb, ne_eqb, eqb-false}
use Rattle.sheet.specs.Sheet.{not_counted, Lift, lifts}
use Rattle.reply.specs.Reply.{numbered}
use Rattle.sheet.specs.Reading.{Reading, faulty, sound, of_words}
use Rattle.sheet.specs.Lift.{place_at, New}
use Rattle.sheet.specs.Law.{AllWellFormed, Writable, AllWritable}
use Rattle.sheet.proofs.Trips.{placed_writable, read_theorem, back_theorem}
use Rattle.sheet.proofs.Legibility.{legible_words}
use Rattle.tally.specs.Verdict.{crowded}
use Rattle.tally.proofs.Verdicts.{decided, read_through}
use Rattle.counts.specs.Text.{lines, CountLine, counted, malformed, count_line}
use Rattle.probability.specs.Among.{among}
use Rattle.counts.specs.Counts.{at_line, lines_from, numbers_of, of_lines, hundreds, remeasured, measure_for, measured_by, measured, renewed, counts_verdict}
use Rattle.counts.specs.Law.{TakenLine, Takes}
use Rattle.counts.proofs.Small.{count_small, measure_for_small}

-- ---- the lines

-- a line that is taken has an entry, of a lift that is there and had no line
record Entered (x : List ℕ) (ns had : List ℕ) (rest : ℕ → Reading) : Type 0 where
  lift : ℕ
  count : ℕ
  says : count_line x ≡ counted lift count
  there : among lift ns ≡ true
  new : among lift had ≡ false
  onward : rest lift ≡ sound

entered : (x : List ℕ) (i : ℕ) (ns had : List ℕ) (rest : ℕ → Reading) → at_line (count_line x) i ns had rest ≡ sound → Entered x ns had rest
entered x i ns had rest h = go (count_line x) refl h
  where
    go : (e : CountLine) → count_line x ≡ e → at_line e i ns had rest ≡ sound → Entered x ns had rest
    go malformed q h = let z : ◌≡◌ {A = ℕ} 0 1 = cc in absurd (omega arith)
    go (counted n c) q h = by (among n ns) refl (among n had) refl h
      where
        by : (a : Bool) → among n ns ≡ a → (b : Bool) → among n had ≡ b → cond (a && not b) (rest n) (faulty (numbered 15 i)) ≡ sound → Entered x ns had rest
        by true u false v h = record { lift = n; count = c; says = q; there = u; new = v; onward = h }
        by true u true v h = let z : ◌≡◌ {A = ℕ} 0 1 = cc in absurd (omega arith)
        by false u b v h = let z : ◌≡◌ {A = ℕ} 0 1 = cc in absurd (omega arith)

-- a lift counts with the count of a line
counts_line : (x : List ℕ) {n c : ℕ} → count_line x ≡ counted n c → (l : Lift) → (place_at New (remeasured l (hundreds c))).measure ≡ hundreds c
counts_line x {n} {c} e l = rw (ne_eqb (hundreds c) not_counted (omega (arith, count_small x e)))

-- each line of lines that are all taken, and that its lift had none before
record Line (ns had : List ℕ) (xs : List (List ℕ)) (x : List ℕ) : Type 0 where
  taken : TakenLine ns xs x
  new : among taken.lift had ≡ false

not_among : (n m : ℕ) (ms : List ℕ) → among n (m ∷ ms) ≡ false → (m ≡ n → ⊥) × (among n ms ≡ false)
unfolding among
not_among n m ms h = go (eqb m n) refl h
  where
    go : (t : Bool) → eqb m n ≡ t → (t || among n ms) ≡ false → (m ≡ n → ⊥) × (among n ms ≡ false)
    go true e h = absurd (true≢false h)
    go false e h = (eqb-false m n e, h)

each_line : (ns had : List ℕ) (i : ℕ) (xs : List (List ℕ)) → lines_from ns had i xs ≡ sound → (j : ℕ) → j < length xs → Line ns had xs (get_or xs j [])
unfolding lines_from measure_for
each_line ns had i [] h j l = absurd (omega arith)
each_line ns had i (x ∷ xs) h j l =
    let e = entered x i ns had (λ n. lines_from ns (n ∷ had) (i + 1) xs) h in
    go j l e (each_line ns (e.lift ∷ had) (i + 1) xs e.onward)
  where
    go : (j : ℕ) → j < suc (length xs) → (e : Entered x ns had (λ n. lines_from ns (n ∷ had) (i + 1) xs))
        → ((j : ℕ) → j < length xs → Line ns (e.lift ∷ had) xs (get_or xs j [])) → Line ns had (x ∷ xs) (get_or (x ∷ xs) j [])
    go zero l e r =
        record {
          taken = record {
            lift = e.lift;
            count = e.count;
            says = e.says;
            there = e.there;
            alone = λ k q. let s = e.says in rw (s, eq-eqb e.lift k.number (sym q));
            counts = counts_line x e.says;
          };
          new = e.new;
        }
    go (suc j) l e r =
        let m = (r j (omega arith)).taken in
        let o = not_among m.lift e.lift had (r j (omega arith)).new in
        record {
          taken = record {
            lift = m.lift;
            count = m.count;
            says = m.says;
            there = m.there;
            alone = λ k q. let s = e.says in rw (s, ne_eqb e.lift k.number (λ z. o.0 (z ∙ q))) (m.alone k q);
            counts = m.counts;
          };
          new = o.1;
        }

-- ---- the words

measured_writable : (xs : List (List ℕ)) (l : Lift) → Writable l → Writable (measured xs l)
measured_writable xs l w = go (measure_for xs l.number) refl
  where
    go : (o : Option ℕ) → measure_for xs l.number ≡ o → Writable (measured_by l o)
    go None e = w
    go (Some m) e =
        record { number = w.number; old = w.old; new = record { round = w.new.round; measure = omega (arith, measure_for_small xs l.number e) } }

all_writable : (xs : List (List ℕ)) (n : ℕ) (ls : List Lift) → AllWellFormed n ls → AllWritable (map (measured xs) ls)
unfolding AllWellFormed AllWritable
all_writable xs n [] h = tt
all_writable xs n (l ∷ ls) (p, q) =
    (measured_writable xs l (record { number = p.payload; old = placed_writable p.old; new = placed_writable p.new }), all_writable xs l.number ls q)

-- ---- the theorem

pub takes : (sheet text : List ℕ) → Takes sheet text
unfolding counts_verdict
takes sheet text a b h =
    let w = read_through (of_words sheet) _ h in
    let v = read_through (of_lines (lifts sheet) (lines text)) _ w.1 in
    let t = (read_theorem sheet (legible_words w.0).read).well_formed in
    record {
      fits = ((decided crowded (renewed sheet text)).only a b v.1).0;
      back = back_theorem (map (measured (lines text)) (lifts sheet)) (all_writable (lines text) 0 (lifts sheet) t.listed) (rw (length-map (lifts sheet) (measured (lines text))) (omega (arith, t.few)));
      each = λ i l. (each_line (numbers_of (lifts sheet)) [] 1 (lines text) v.0 i l).taken;
    }
