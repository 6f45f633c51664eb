-- The loop over the lines: each lift has the measure of its line, and the lines left decide the outcome.
use Prim.Native.Nat.{ℕ, zero, suc, ◌+◌, ◌≤◌, ◌<◌}
use mathlib.Core.Path.{◌≡◌, refl, sym, ap, ap₂, subst, ◌∙◌}
use mathlib.Core.Bool.{Bool, true, false, cond, ◌||◌, and-false}
use mathlib.Core.List.{List, [], ◌∷◌, ◌++◌, map, append_assoc, append-nil}
use native.Mathlib.Omega.{arith}
use lib.Dec.{eqb}
use lib.ListN.{length, get_or, set, drop, replicate, length-append, length-drop}
use borrow.Author.Tests.{eqb-true, eqb-false, eq-eqb, ne_eqb}
use Rattle.std.specs.Prelude.{Option, Some, None, Ok, Err, All, IfSome, is_some, MatchOption}
use Rattle.std.specs.Int.{div_ceil}
use Rattle.std.specs.Option.{option_or, ok_or}
use Rattle.sheet.specs.Sheet.{largest_sum, Lift}
use Rattle.sheet.specs.Reading.{faulty}
use Rattle.reply.specs.Refusal.{refusal_of}
use Rattle.reply.specs.declared.Refusal.TheVariants.{Form, Lift as AboutLift}
use Rattle.counts.specs.Text.{LF, lines, CountLine, counted, malformed, count_line}
use Rattle.probability.specs.Among.{among}
use Rattle.counts.specs.Counts.{at_line, lines_from, numbers_of, hundreds, measure_by, measure_for, measured}
use Rattle.counts.proofs.Small.{measure_for_small}
use Rattle.intake.specs.Positions.{first_line, extent, LineRead, RisingAbove, measures_for, AllTaken, lifts_with}
use Rattle.intake.specs.declared.text.Line.{Line}
use Rattle.intake.proofs.Texts.{first_line_lem}
use Rattle.intake.proofs.Finding.{rising_above, present}

-- a count in hundreds, rounded up, as the library computes it
rounded : (c : ℕ) → div_ceil c 100 ≡ hundreds c
rounded c = grind arith

-- ---- measures

pub measure_at : (xs : List (List ℕ)) (ns : List ℕ) (k : ℕ) → k < length ns → get_or (measures_for ns xs) k None ≡ measure_for xs (get_or ns k 0)
measure_at xs [] k h = absurd (omega arith)
measure_at xs (n ∷ ns) zero h = refl
measure_at xs (n ∷ ns) (suc k) h = measure_at xs ns k (omega arith)

-- one line more gives a lift its measure if none before did
measure_last : (xs : List (List ℕ)) (x : List ℕ) (n : ℕ) → measure_for (xs ++ (x ∷ [])) n ≡ option_or (measure_for xs n) (measure_by (count_line x) n None)
unfolding measure_for
measure_last [] x n = refl
measure_last (y ∷ ys) x n = go (count_line y) (measure_last ys x n)
  where
    go : (e : CountLine) → measure_for (ys ++ (x ∷ [])) n ≡ option_or (measure_for ys n) (measure_by (count_line x) n None)
        → measure_by e n (measure_for (ys ++ (x ∷ [])) n) ≡ option_or (measure_by e n (measure_for ys n)) (measure_by (count_line x) n None)
    go malformed h = h
    go (counted m c) h = by (eqb m n)
      where
        by : (t : Bool) → cond t (Some (hundreds c)) (measure_for (ys ++ (x ∷ [])) n) ≡ option_or (cond t (Some (hundreds c)) (measure_for ys n)) (measure_by (count_line x) n None)
        by true = refl
        by false = h

or_none : (o : Option ℕ) → option_or o None ≡ o
or_none None = refl
or_none (Some m) = refl

no_measure : (o : Option ℕ) → is_some o ≡ false → o ≡ None
no_measure None h = refl
no_measure (Some m) h = let z : ◌≡◌ {A = ℕ} 0 1 = cc in absurd (omega arith)

-- another lift's line gives it none
module _ (xs : List (List ℕ)) (x : List ℕ) {n c : ℕ} (e : count_line x ≡ counted n c) where
  measure_other : (m : ℕ) → (n ≡ m → ⊥) → measure_for (xs ++ (x ∷ [])) m ≡ measure_for xs m
  measure_other m o = rw (measure_last xs x m, e, ne_eqb n m o) (or_none (measure_for xs m))

  measure_own : measure_for xs n ≡ None → measure_for (xs ++ (x ∷ [])) n ≡ Some (hundreds c)
  measure_own h = rw (measure_last xs x n, e, h, eq-eqb n n refl)

  other_measures : (b : ℕ) (ns : List ℕ) → RisingAbove b ns → n ≤ b → measures_for ns (xs ++ (x ∷ [])) ≡ measures_for ns xs
  unfolding RisingAbove
  other_measures b [] r h = refl
  other_measures b (m ∷ ms) r h = let l = r.0 in ap₂ ◌∷◌ (measure_other m (λ q. omega arith)) (other_measures m ms r.1 (omega arith))

  set_measure : measure_for xs n ≡ None → (b : ℕ) (ns : List ℕ) → RisingAbove b ns → (k : ℕ) → k < length ns → get_or ns k 0 ≡ n
      → set (measures_for ns xs) k (Some (hundreds c)) ≡ measures_for ns (xs ++ (x ∷ []))
  unfolding RisingAbove
  set_measure f b [] r k h q = absurd (omega arith)
  set_measure f b (m ∷ ms) r zero h q = ap₂ ◌∷◌ (sym (rw q (measure_own f))) (sym (other_measures m ms r.1 (omega arith)))
  set_measure f b (m ∷ ms) r (suc k) h q =
      let l = rising_above m ms r.1 k (omega arith) in
      ap₂ ◌∷◌ (sym (measure_other m (λ z. omega arith))) (set_measure f m ms r.1 k (omega arith) q)

  -- whether a lift had a line is whether it has a measure
  heard_turn : (had : List ℕ) → measure_for xs n ≡ None → ((m : ℕ) → among m had ≡ is_some (measure_for xs m)) → (m : ℕ) → among m (n ∷ had) ≡ is_some (measure_for (xs ++ (x ∷ [])) m)
  unfolding among
  heard_turn had f h m = go (eqb n m) refl
    where
      go : (t : Bool) → eqb n m ≡ t → (t || among m had) ≡ is_some (measure_for (xs ++ (x ∷ [])) m)
      go true q = rw (← eqb-true n m q, measure_own f)
      go false q = rw (measure_other m (eqb-false n m q)) (h m)

-- ---- the line in front

extent_some : (b : ℕ) (bs : List ℕ) → 0 < extent (b ∷ bs)
unfolding extent
extent_some b bs = go (eqb b LF)
  where
    go : (t : Bool) → 0 < cond t 1 (suc (extent bs))
    go true = omega arith
    go false = omega arith

pub step_lines : (bs : List ℕ) → 1 ≤ length bs → lines bs ≡ first_line bs ∷ lines (drop (extent bs) bs)
step_lines [] h = absurd (omega arith)
step_lines (b ∷ bs) h = first_line_lem b bs

extent_pos : (bs : List ℕ) → 1 ≤ length bs → 0 < extent bs
extent_pos [] h = absurd (omega arith)
extent_pos (b ∷ bs) h = extent_some b bs

-- ---- an option with a refusal for none

pub refused_by : {T E : Type 0} (P : Type 0) (Q : T → Type 0) (o : Option T) (e : E) {x : E} → Err x ≡ ok_or o e → MatchOption o P Q → P × (x ≡ e)
refused_by P Q None e h m = (m, cc)
refused_by P Q (Some y) e h m = (cc, cc)

pub taken_by : {T E : Type 0} (P : Type 0) (Q : T → Type 0) (o : Option T) (e : E) {y : T} → Ok y ≡ ok_or o e → MatchOption o P Q → Q y
taken_by P Q None e h m = cc
taken_by P Q (Some z) e {y} h m = let q : z ≡ y = cc in subst Q q m

-- every measure is small
pub all_small : (xs : List (List ℕ)) (ns : List ℕ) → All (λ o. IfSome o (λ m. m ≤ largest_sum)) (measures_for ns xs)
all_small xs [] k d h = absurd (omega arith)
all_small xs (n ∷ ns) zero d h = go (measure_for xs n) refl
  where
    go : (o : Option ℕ) → measure_for xs n ≡ o → IfSome o (λ m. m ≤ largest_sum)
    go None e = tt
    go (Some m) e = measure_for_small xs n e
all_small xs (n ∷ ns) (suc k) d h = all_small xs ns k d (omega arith)

-- ---- the loop

pub record LinesKept (text ns : List ℕ) (ms : List (Option ℕ)) (rest : List ℕ) (i : ℕ) : Type 0 where
  pub done : List (List ℕ)
  pub had : List ℕ
  pub parted : done ++ lines rest ≡ lines text
  pub same : lines_from ns had (i + 1) (lines rest) ≡ lines_from ns [] 1 (lines text)
  pub many : i ≡ length done
  pub heard : (n : ℕ) → among n had ≡ is_some (measure_for done n)
  pub filled : ms ≡ measures_for ns done
  pub few : i + length rest ≤ length text

-- no line yet: no measure
no_measures : (ns : List ℕ) → replicate (length ns) None ≡ measures_for ns []
unfolding measure_for
no_measures [] = refl
no_measures (n ∷ ns) = ap (λ ms. None ∷ ms) (no_measures ns)

pub kept_none : (text ns : List ℕ) {ms : List (Option ℕ)} → ms ≡ replicate (length ns) None → LinesKept text ns ms text 0
unfolding among measure_for
kept_none text ns e = record { done = []; had = []; parted = refl; same = refl; many = refl; heard = λ n. refl; filled = e ∙ no_measures ns; few = omega arith }

module _ {text ns : List ℕ} {ms : List (Option ℕ)} {rest : List ℕ} {i : ℕ} (d : LinesKept text ns ms rest i) where
  pub kept_end : length rest < 1 → AllTaken ns (lines text) i ms
  unfolding lines_from lines
  kept_end h = go rest h d.same d.parted
    where
      go : (bs : List ℕ) → length bs < 1 → lines_from ns d.had (i + 1) (lines bs) ≡ lines_from ns [] 1 (lines text) → d.done ++ lines bs ≡ lines text → AllTaken ns (lines text) i ms
      go [] l s p = let w : d.done ≡ lines text = sym (append-nil d.done) ∙ p in record { sound = sym s; many = d.many ∙ ap length w; filled = d.filled ∙ ap (measures_for ns) w }
      go (b ∷ bs) l s p = absurd (omega arith)

  module _ (h : 1 ≤ length rest) where
    pub kept_malformed : count_line (first_line rest) ≡ malformed → lines_from ns [] 1 (lines text) ≡ faulty (refusal_of (Form (i + 1)))
    unfolding lines_from
    kept_malformed q = sym d.same ∙ rw (step_lines rest h, q)

    module _ {line : Line} {behind : List ℕ} (e : LineRead rest line behind) where
      -- what a line with a count comes to
      turned : at_line (counted line.lift line.count) (i + 1) ns d.had (λ n. lines_from ns (n ∷ d.had) (i + 1 + 1) (lines behind)) ≡ lines_from ns [] 1 (lines text)
      unfolding lines_from
      turned = rw e.behind (sym (rw (step_lines rest h, e.says)) ∙ d.same)

      pub kept_less : length behind < length rest
      kept_less = rw (e.behind, length-drop) (let z = extent_pos rest h in omega arith)

      pub kept_absent : among line.lift ns ≡ false → lines_from ns [] 1 (lines text) ≡ faulty (refusal_of (AboutLift (i + 1)))
      kept_absent a = sym (rw a at turned)

      module _ {k : ℕ} (inside : k < length ns) (named : get_or ns k 0 ≡ line.lift) where
        here : get_or ms k None ≡ measure_for d.done line.lift
        here = ap (λ xs. get_or xs k None) d.filled ∙ measure_at d.done ns k inside ∙ ap (measure_for d.done) named

        pub kept_had : is_some (get_or ms k None) ≡ true → lines_from ns [] 1 (lines text) ≡ faulty (refusal_of (AboutLift (i + 1)))
        kept_had o =
            let a : among line.lift d.had ≡ true = d.heard line.lift ∙ ap is_some (sym here) ∙ o in
            sym (rw (a, and-false (among line.lift ns)) at turned)

        pub kept_turn : RisingAbove 0 ns → is_some (get_or ms k None) ≡ false → {m : ℕ} → m ≡ div_ceil line.count 100 → LinesKept text ns (set ms k (Some m)) behind (i + 1)
        kept_turn up o {m} u =
            let s : is_some (measure_for d.done line.lift) ≡ false = ap is_some (sym here) ∙ o in
            let f : measure_for d.done line.lift ≡ None = no_measure _ s in
            let a : among line.lift d.had ≡ false = d.heard line.lift ∙ s in
            let b : among line.lift ns ≡ true = present line.lift ns k inside named in
            record {
              done = d.done ++ (first_line rest ∷ []);
              had = line.lift ∷ d.had;
              parted = append_assoc d.done (first_line rest ∷ []) _ ∙ rw e.behind (rw (step_lines rest h) at d.parted);
              same = rw (b, a) at turned;
              many = omega (arith, d.many, length-append d.done (first_line rest ∷ []));
              heard = heard_turn d.done _ e.says d.had f d.heard;
              filled = rw (u ∙ rounded line.count) (ap (λ ms. set ms k (Some (hundreds line.count))) d.filled) ∙ set_measure d.done _ e.says f 0 ns up k inside named;
              few = omega (arith, d.few, kept_less);
            }

-- ---- the lifts with their measures

pub lifts_measured : (xs : List (List ℕ)) (ls : List Lift) → lifts_with ls (measures_for (numbers_of ls) xs) ≡ map (measured xs) ls
unfolding lifts_with
lifts_measured xs [] = refl
lifts_measured xs (l ∷ ls) = ap₂ ◌∷◌ refl (lifts_measured xs ls)
