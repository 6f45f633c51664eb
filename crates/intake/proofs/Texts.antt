-- A line read field by field is the line split off and then read: digits belong to the line, what ends them is a comma, an ending, or no digit.
use Prim.Native.Nat.{ℕ, suc, ◌+◌, ◌-◌, ◌≤◌, ◌<◌}
use mathlib.Core.Path.{◌≡◌, refl, sym, ap, ap₂, ◌∙◌}
use mathlib.Core.Bool.{Bool, true, false, cond, not, ◌&&◌, and-false, false≢true}
use mathlib.Core.Logic.{◌⊎◌, inl, inr}
use mathlib.Core.List.{List, [], ◌∷◌, ◌++◌, append-nil}
use native.Mathlib.Omega.{arith}
use lib.Dec.{eqb}
use lib.ListN.{length, get_or, take, drop}
use lib.Seq.{drop-drop}
use borrow.Author.Tests.{eqb-true, eq-eqb, ne_eqb, not-true}
use Rattle.counts.specs.Text.{LF, CR, comma, ahead, ending_cr, lines, before_comma, behind_comma, is_digit, all_digits, value, empty, is_number, largest_lift, largest_count, counted, malformed, count_line}
use Rattle.intake.specs.Positions.{span, leading, first_line, extent, NumberRead, EndingRead, LineRead}
use Rattle.intake.proofs.Numbers.{digit_low, front_is, rest_of, rest_two}

-- ---- the first line of a text

line_none : first_line [] ≡ []
unfolding first_line lines
line_none = refl

line_next : (b : ℕ) (bs : List ℕ) → first_line (b ∷ bs) ≡ cond (eqb b LF) [] (cond (ending_cr b bs) (first_line bs) (b ∷ first_line bs))
unfolding first_line lines
line_next b bs = go (eqb b LF) (ending_cr b bs) (lines bs)
  where
    go : (t u : Bool) (ls : List (List ℕ)) → get_or (cond t ([] ∷ ls) (cond u ls (ahead b ls))) 0 [] ≡ cond t [] (cond u (get_or ls 0 []) (b ∷ get_or ls 0 []))
    go true u ls = refl
    go false true ls = refl
    go false false [] = refl
    go false false (l ∷ ls) = refl

-- bytes that begin with LF are an empty line
line_lf : (bs : List ℕ) → eqb (get_or bs 0 0) LF ≡ true → first_line bs ≡ []
line_lf [] h = line_none
line_lf (b ∷ bs) h = rw (line_next b bs, h)

ending_cr_lf : (b : ℕ) (bs : List ℕ) → ending_cr b bs ≡ true → eqb (get_or bs 0 0) LF ≡ true
ending_cr_lf b bs h = go (eqb b CR) h
  where
    go : (t : Bool) → (t && eqb (get_or bs 0 0) LF) ≡ true → eqb (get_or bs 0 0) LF ≡ true
    go true e = e
    go false e = absurd (false≢true e)

-- a text with a byte is its first line and the lines behind that
pub first_line_lem : (b : ℕ) (bs : List ℕ) → lines (b ∷ bs) ≡ first_line (b ∷ bs) ∷ lines (drop (extent (b ∷ bs)) (b ∷ bs))
unfolding lines extent
first_line_lem b [] = rw (line_next b [], line_none) (go (eqb b LF) (ending_cr b []) refl)
  where
    go : (t u : Bool) → ending_cr b [] ≡ u → cond t ([] ∷ []) (cond u [] ((b ∷ []) ∷ [])) ≡ cond t [] (cond u [] (b ∷ [])) ∷ lines (drop (cond t 1 1) (b ∷ []))
    go true u e = refl
    go false true e = absurd (false≢true (ending_cr_lf b [] e))
    go false false e = refl
first_line_lem b (c ∷ cs) = rw (line_next b (c ∷ cs)) (go (eqb b LF) (ending_cr b (c ∷ cs)) (first_line_lem c cs))
  where
    go : (t u : Bool) → lines (c ∷ cs) ≡ first_line (c ∷ cs) ∷ lines (drop (extent (c ∷ cs)) (c ∷ cs))
        → cond t ([] ∷ lines (c ∷ cs)) (cond u (lines (c ∷ cs)) (ahead b (lines (c ∷ cs))))
        ≡ cond t [] (cond u (first_line (c ∷ cs)) (b ∷ first_line (c ∷ cs))) ∷ lines (drop (cond t 1 (suc (extent (c ∷ cs)))) (b ∷ c ∷ cs))
    go true u h = refl
    go false true h = h
    go false false h = ap (ahead b) h

-- ---- what begins with no digit

abbrev foreign : List ℕ → Bool
foreign [] = true
foreign (b ∷ bs) = not (is_digit b)

span_foreign : (bs : List ℕ) → foreign (drop (span bs) bs) ≡ true
unfolding span
span_foreign [] = refl
span_foreign (b ∷ bs) = go (is_digit b) refl (span_foreign bs)
  where
    go : (t : Bool) → is_digit b ≡ t → foreign (drop (span bs) bs) ≡ true → foreign (drop (cond t (suc (span bs)) 0) (b ∷ bs)) ≡ true
    go true e h = h
    go false e h = rw e

-- the first byte of a line is that of the text, or the line is empty
line_head : (bs : List ℕ) → (first_line bs ≡ []) ⊎ (get_or (first_line bs) 0 0 ≡ get_or bs 0 0)
line_head [] = inl line_none
line_head (b ∷ bs) = rw (line_next b bs) (go (eqb b LF) (ending_cr b bs) refl)
  where
    go : (t u : Bool) → ending_cr b bs ≡ u → (cond t [] (cond u (first_line bs) (b ∷ first_line bs)) ≡ []) ⊎ (get_or (cond t [] (cond u (first_line bs) (b ∷ first_line bs))) 0 0 ≡ b)
    go true u e = inl refl
    go false true e = inl (line_lf bs (ending_cr_lf b bs e))
    go false false e = inr refl

line_foreign : (bs : List ℕ) → foreign bs ≡ true → foreign (first_line bs) ≡ true
line_foreign [] h = rw line_none
line_foreign (b ∷ bs) h = rw (line_next b bs) (go (eqb b LF) (ending_cr b bs) refl)
  where
    go : (t u : Bool) → ending_cr b bs ≡ u → foreign (cond t [] (cond u (first_line bs) (b ∷ first_line bs))) ≡ true
    go true u e = refl
    go false true e = rw (line_lf bs (ending_cr_lf b bs e))
    go false false e = h

before_foreign : (l : List ℕ) → foreign l ≡ true → foreign (before_comma l) ≡ true
unfolding before_comma
before_foreign [] h = refl
before_foreign (b ∷ bs) h = go (eqb b comma)
  where
    go : (t : Bool) → foreign (cond t [] (b ∷ before_comma bs)) ≡ true
    go true = refl
    go false = h

-- digits followed by what begins with no digit are a number only if nothing follows
digits_foreign : (ds : List ℕ) (b : ℕ) (bs : List ℕ) → is_digit b ≡ false → all_digits (ds ++ b ∷ bs) ≡ false
unfolding all_digits
digits_foreign [] b bs h = rw h
digits_foreign (d ∷ ds) b bs h = rw (digits_foreign ds b bs h) (and-false (is_digit d))

number_foreign : (limit : ℕ) (ds es : List ℕ) → foreign es ≡ true → is_number limit (ds ++ es) ≡ cond (empty es) (is_number limit ds) false
number_foreign limit ds [] h = rw (append-nil ds)
number_foreign limit ds (e ∷ es) h = rw (digits_foreign ds e es (not-true (is_digit e) h)) (and-false (not (empty (ds ++ e ∷ es))))

-- ---- digits belong to the line

module _ (b : ℕ) (d : is_digit b ≡ true) where
  not_lf : eqb b LF ≡ false
  not_lf = ne_eqb b LF (λ e. omega (arith, digit_low b d))

  not_cr : eqb b CR ≡ false
  not_cr = ne_eqb b CR (λ e. omega (arith, digit_low b d))

  not_comma : eqb b comma ≡ false
  not_comma = ne_eqb b comma (λ e. omega (arith, digit_low b d))

line_leading : (bs : List ℕ) → first_line bs ≡ leading bs ++ first_line (drop (span bs) bs)
unfolding span
line_leading [] = refl
line_leading (b ∷ bs) = go (is_digit b) refl (line_leading bs)
  where
    go : (t : Bool) → is_digit b ≡ t → first_line bs ≡ leading bs ++ first_line (drop (span bs) bs)
        → first_line (b ∷ bs) ≡ take (cond t (suc (span bs)) 0) (b ∷ bs) ++ first_line (drop (cond t (suc (span bs)) 0) (b ∷ bs))
    go true e h = rw (line_next b bs, not_lf b e, not_cr b e) (ap (λ l. b ∷ l) h)
    go false e h = refl

extent_leading : (bs : List ℕ) → extent bs ≡ span bs + extent (drop (span bs) bs)
unfolding extent span
extent_leading [] = refl
extent_leading (b ∷ bs) = go (is_digit b) refl (extent_leading bs)
  where
    go : (t : Bool) → is_digit b ≡ t → extent bs ≡ span bs + extent (drop (span bs) bs)
        → extent (b ∷ bs) ≡ cond t (suc (span bs)) 0 + extent (drop (cond t (suc (span bs)) 0) (b ∷ bs))
    go true e h = rw (not_lf b e) (omega arith)
    go false e h = omega arith

before_leading : (bs l : List ℕ) → before_comma (leading bs ++ l) ≡ leading bs ++ before_comma l
unfolding before_comma span
before_leading [] l = refl
before_leading (b ∷ bs) l = go (is_digit b) refl (before_leading bs l)
  where
    go : (t : Bool) → is_digit b ≡ t → before_comma (leading bs ++ l) ≡ leading bs ++ before_comma l
        → before_comma (take (cond t (suc (span bs)) 0) (b ∷ bs) ++ l) ≡ take (cond t (suc (span bs)) 0) (b ∷ bs) ++ before_comma l
    go true e h = rw (not_comma b e) (ap (λ l. b ∷ l) h)
    go false e h = refl

behind_leading : (bs l : List ℕ) → behind_comma (leading bs ++ l) ≡ behind_comma l
unfolding behind_comma span
behind_leading [] l = refl
behind_leading (b ∷ bs) l = go (is_digit b) refl (behind_leading bs l)
  where
    go : (t : Bool) → is_digit b ≡ t → behind_comma (leading bs ++ l) ≡ behind_comma l → behind_comma (take (cond t (suc (span bs)) 0) (b ∷ bs) ++ l) ≡ behind_comma l
    go true e h = rw (not_comma b e) h
    go false e h = refl

-- ---- the two fields of a line

module _ (bs : List ℕ) where
  lift_field : is_number largest_lift (before_comma (first_line bs)) ≡ cond (empty (before_comma (first_line (drop (span bs) bs)))) (is_number largest_lift (leading bs)) false
  lift_field =
      rw (line_leading bs, before_leading bs (first_line (drop (span bs) bs)))
      (number_foreign largest_lift (leading bs) (before_comma (first_line (drop (span bs) bs))) (before_foreign _ (line_foreign _ (span_foreign bs))))

  count_field : behind_comma (first_line bs) ≡ behind_comma (first_line (drop (span bs) bs))
  count_field = rw (line_leading bs) (behind_leading bs (first_line (drop (span bs) bs)))

  count_number : is_number largest_count (first_line bs) ≡ cond (empty (first_line (drop (span bs) bs))) (is_number largest_count (leading bs)) false
  count_number = rw (line_leading bs) (number_foreign largest_count (leading bs) (first_line (drop (span bs) bs)) (line_foreign _ (span_foreign bs)))

-- a line with a faulty field
no_lift_lem : (l : List ℕ) → is_number largest_lift (before_comma l) ≡ false → count_line l ≡ malformed
unfolding count_line
no_lift_lem l h = rw h

no_count : (l : List ℕ) → is_number largest_count (behind_comma l) ≡ false → count_line l ≡ malformed
unfolding count_line
no_count l h = rw (h, and-false (is_number largest_lift (before_comma l)))

cond_false : (t : Bool) → cond t false false ≡ false
cond_false true = refl
cond_false false = refl

-- behind the digits no comma
no_comma : (l : List ℕ) → (get_or l 0 0 ≡ comma → ⊥) → (empty (before_comma l) ≡ false) ⊎ (behind_comma l ≡ [])
unfolding before_comma behind_comma
no_comma [] h = inr refl
no_comma (b ∷ bs) h = inl (rw (ne_eqb b comma h))

comma_extent : (bs : List ℕ) → extent (comma ∷ bs) ≡ suc (extent bs)
unfolding extent
comma_extent bs = refl

-- a line whose two fields are these numbers
whole : (l : List ℕ) {a b : List ℕ} → before_comma l ≡ a → behind_comma l ≡ b → is_number largest_lift a ≡ true → is_number largest_count b ≡ true → count_line l ≡ counted (value a) (value b)
unfolding count_line
whole l {a} {b} p q h k = rw (p, q, h, k)

-- ---- the ways out of a line

empty_line : (l : List ℕ) → empty l ≡ true → l ≡ []
empty_line [] h = refl
empty_line (b ∷ bs) h = absurd (false≢true h)

pub line_no_lift : (bs : List ℕ) → is_number largest_lift (leading bs) ≡ false → count_line (first_line bs) ≡ malformed
line_no_lift bs e = no_lift_lem (first_line bs) (lift_field bs ∙ rw e (cond_false (empty (before_comma (first_line (drop (span bs) bs))))))

apart : (bs : List ℕ) → (1 ≤ length bs → get_or bs 0 0 ≡ comma → ⊥) → get_or bs 0 0 ≡ comma → ⊥
apart [] n h = let z : ◌≡◌ {A = ℕ} 0 comma = h in omega arith
apart (b ∷ bs) n h = n (omega arith) h

module _ {bs : List ℕ} {lift : ℕ} {rest : List ℕ} (e : NumberRead largest_lift bs lift rest) where
  pub line_no_comma : (1 ≤ length rest → get_or rest 0 0 ≡ comma → ⊥) → count_line (first_line bs) ≡ malformed
  line_no_comma n = go (no_comma (first_line rest) (λ z. apart rest n (head z)))
    where
      head : get_or (first_line rest) 0 0 ≡ comma → get_or rest 0 0 ≡ comma
      head z = pick (line_head rest)
        where
          pick : (first_line rest ≡ []) ⊎ (get_or (first_line rest) 0 0 ≡ get_or rest 0 0) → get_or rest 0 0 ≡ comma
          pick (inl q) = let y : ◌≡◌ {A = ℕ} 0 comma = rw q at z in absurd (omega arith)
          pick (inr q) = sym q ∙ z

      go : (empty (before_comma (first_line rest)) ≡ false) ⊎ (behind_comma (first_line rest) ≡ []) → count_line (first_line bs) ≡ malformed
      go (inl q) = no_lift_lem (first_line bs) (lift_field bs ∙ rw (← e.behind, q))
      go (inr q) = no_count (first_line bs) (rw (count_field bs, ← e.behind, q))

  module _ (room : 1 ≤ length rest) (q : get_or rest 0 0 ≡ comma) where
    -- what is behind the comma
    abbrev cs : List ℕ
    cs = take (length rest - 1) (drop 1 rest)

    rest_comma : drop (span bs) bs ≡ comma ∷ cs
    rest_comma = sym e.behind ∙ front_is rest room q

    behind_comma_lem : behind_comma (first_line bs) ≡ first_line cs
    unfolding behind_comma
    behind_comma_lem = rw (count_field bs, rest_comma, line_next comma cs)

    before_comma_lem : before_comma (first_line bs) ≡ leading bs
    unfolding before_comma
    before_comma_lem =
        rw (line_leading bs, before_leading bs (first_line (drop (span bs) bs)), rest_comma, line_next comma cs)
        (append-nil _)

    pub line_no_count : is_number largest_count (leading cs) ≡ false → count_line (first_line bs) ≡ malformed
    line_no_count f = no_count _ (rw behind_comma_lem (count_number cs ∙ rw f (cond_false (empty (first_line (drop (span cs) cs))))))

    module _ {count : ℕ} {end : List ℕ} (f : NumberRead largest_count cs count end) where
      pub line_no_ending : empty (first_line end) ≡ false → count_line (first_line bs) ≡ malformed
      line_no_ending w = no_count _ (rw behind_comma_lem (count_number cs ∙ rw (← f.behind, w)))

      pub line_whole : {behind : List ℕ} → EndingRead end behind → LineRead bs (record { lift = lift; count = count }) behind
      line_whole {behind} w =
          let l : first_line cs ≡ leading cs = line_leading cs ∙ rw (← f.behind, empty_line (first_line end) w.ends) (append-nil (leading cs)) in
          let s : extent bs ≡ span bs + suc (span cs + extent end) =
          extent_leading bs ∙ rw (rest_comma) (ap (λ n. span bs + n) (comma_extent cs ∙ ap suc (extent_leading cs ∙ rw (← f.behind)))) in
          record {
            says = whole (first_line bs) before_comma_lem (behind_comma_lem ∙ l) e.fits f.fits ∙ ap₂ counted (sym e.value) (sym f.value);
            behind = w.behind ∙ ap (drop (extent end)) f.behind ∙ drop-drop (extent end) (span cs) cs ∙ past s;
          }
        where
          past : extent bs ≡ span bs + suc (span cs + extent end) → drop (span cs + extent end) cs ≡ drop (extent bs) bs
          past s = rw (s, ← drop-drop (suc (span cs + extent end)) (span bs) bs, rest_comma)

-- ---- the ways out of an ending

pub ending_past : (bs : List ℕ) → length bs < 1 → EndingRead bs bs
unfolding extent
ending_past [] h = record { ends = rw line_none; behind = refl }
ending_past (b ∷ bs) h = absurd (omega arith)

pub ending_lf : (bs : List ℕ) → 1 ≤ length bs → get_or bs 0 0 ≡ LF → EndingRead bs (take (length bs - 1) (drop 1 bs))
unfolding extent
ending_lf [] h e = absurd (omega arith)
ending_lf (b ∷ bs) h e = record { ends = rw (line_next b bs, eq-eqb b LF e); behind = rest_of b bs ∙ rw (eq-eqb b LF e) }

pub ending_crlf : (bs : List ℕ) → 2 ≤ length bs → get_or bs 0 0 ≡ CR → get_or bs 1 0 ≡ LF → EndingRead bs (take (length bs - 2) (drop 2 bs))
unfolding extent
ending_crlf [] h e q = absurd (omega arith)
ending_crlf (b ∷ []) h e q = absurd (omega arith)
ending_crlf (b ∷ c ∷ bs) h e q = record { ends = rw (line_next b (c ∷ bs), line_next c bs, e, q); behind = rw (rest_two b c bs, e, q) }

pub ending_none : (bs : List ℕ) → 1 ≤ length bs → (get_or bs 0 0 ≡ LF → ⊥) → (2 ≤ length bs → get_or bs 0 0 ≡ CR → get_or bs 1 0 ≡ LF → ⊥) → empty (first_line bs) ≡ false
ending_none [] h n k = absurd (omega arith)
ending_none (b ∷ bs) h n k = rw (line_next b bs, ne_eqb b LF n, go (eqb b CR) refl (eqb (get_or bs 0 0) LF) refl)
  where
    go : (t : Bool) → eqb b CR ≡ t → (u : Bool) → eqb (get_or bs 0 0) LF ≡ u → (t && u) ≡ false
    go true e true f = absurd (k (room bs (eqb-true (get_or bs 0 0) LF f)) (eqb-true b CR e) (eqb-true (get_or bs 0 0) LF f))
      where
        room : (bs : List ℕ) → get_or bs 0 0 ≡ LF → 2 ≤ length (b ∷ bs)
        room [] z = let y : ◌≡◌ {A = ℕ} 0 LF = z in omega arith
        room (c ∷ cs) z = omega arith
    go true e false f = refl
    go false e u f = refl
