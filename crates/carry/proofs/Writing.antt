-- A walk over the lifts of a sheet that writes those of the next quarter: what is written and what the lifts left will give are the whole.
use Prim.Native.Nat.{ℕ, ◌+◌, ◌-◌, ◌^◌, ◌≤◌, ◌<◌}
use mathlib.Core.Path.{◌≡◌, refl, sym, ap, ◌∙◌}
use mathlib.Core.Bool.{Bool, true, false}
use mathlib.Core.List.{List, [], ◌∷◌, ◌++◌, append_assoc}
use native.Mathlib.Omega.{arith}
use lib.ListN.{length, get_or, set, take, drop, length-append, length-drop}
use lib.Seq.{sets-eq, length-take-le, take_at, drop_at, drop-drop}
use borrow.Author.Tests.{eq-eqb, ne_eqb}
use borrow.Rule.Slice.PartMut.{put_mid}
use Rattle.sheet.specs.Sheet.{most_lifts, most_rounds, held_kind, end_kind, Lift, lifts, word, lift_words, words_then, sheet_of}
use Rattle.sheet.specs.Reading.{Legible}
use Rattle.sheet.specs.Lift.{entry_of}
use Rattle.sheet.specs.Law.{AllWellFormed, LiftWellFormed}
use Rattle.reply.specs.Reply.{onto}
use Rattle.tally.specs.Tables.{table, new_round}
use Rattle.tally.specs.declared.NewRound.{NewRound}
use Rattle.sheet.specs.declared.Entry.{Entry}
use Rattle.tally.proofs.Tables.{tabulate_at}
use Rattle.sheet.proofs.Trips.{read_theorem}
use Rattle.scan.specs.Lifts.{FirstLift}
use Rattle.std.specs.Prelude.{Option, None}
use Rattle.selection.specs.declared.Pick.{Pick}
use Rattle.carry.specs.Next.{remaining, carried, carried_on, has_number, in_table}
use Rattle.carry.proofs.Rounds.{remaining_counts, remaining_few}

-- ---- how many remain

-- those of new round 0 and those that remain are all
pub remaining_all : (ls : List Lift) {new : List NewRound} → new ≡ table (new_round ls) → (get_or new 0 (record { lifts = 0; sum = 0; donors = [] })).lifts + length (remaining ls) ≡ length ls
remaining_all ls e = rw (e, tabulate_at _ (most_rounds + 1) (new_round ls) 0 (omega arith)) (remaining_counts ls)

-- the lifts that remain have room in the end word
pub remaining_fit : {ws : List ℕ} → Legible ws → length (remaining (lifts ws)) ≤ most_lifts
remaining_fit {ws} l = omega (arith, remaining_few (lifts ws), (read_theorem ws l.read).well_formed.few)

-- ---- the words of a lift

module _ (table : List (Option Pick)) (l : Lift) {e : Entry} (q : e ≡ entry_of l) {b : Bool} (eb : b ≡ has_number (get_or table e.to None) e.number) where
  is_in : b ≡ in_table table l
  is_in = eb ∙ ap (λ x. has_number (get_or table x.to None) x.number) q

  -- where it isn't the choice, its words are those without the held word
  pub words_not : b ≡ false → lift_words (carried (λ t. false) l) ≡ lift_words (carried (in_table table) l)
  words_not h = let i : in_table table l ≡ false = sym is_in ∙ h in rw i refl

  -- and where it is, the held word is behind them
  pub words_held : b ≡ true → lift_words (carried (λ t. false) l) ++ (word held_kind 0 ∷ []) ≡ lift_words (carried (in_table table) l)
  words_held h = let i : in_table table l ≡ true = sym is_in ∙ h in rw i refl

-- three numbers stored in a part of three
three_set : (xs ws : List ℕ) → length xs ≡ 3 → length ws ≡ 3 → set (set (set xs 0 (get_or ws 0 0)) 1 (get_or ws 1 0)) 2 (get_or ws 2 0) ≡ ws
three_set (x ∷ y ∷ z ∷ []) (a ∷ b ∷ c ∷ []) h k = refl
three_set [] ws h k = absurd (omega arith)
three_set (x ∷ []) ws h k = absurd (omega arith)
three_set (x ∷ y ∷ []) ws h k = absurd (omega arith)
three_set (x ∷ y ∷ z ∷ w ∷ xs) ws h k = absurd (omega arith)
three_set (x ∷ y ∷ z ∷ []) [] h k = absurd (omega arith)
three_set (x ∷ y ∷ z ∷ []) (a ∷ []) h k = absurd (omega arith)
three_set (x ∷ y ∷ z ∷ []) (a ∷ b ∷ []) h k = absurd (omega arith)
three_set (x ∷ y ∷ z ∷ []) (a ∷ b ∷ c ∷ d ∷ ws) h k = absurd (omega arith)

-- three words stored from position k on
abbrev pub stored : ℕ → List ℕ → List ℕ → List ℕ
stored k next ws = put_mid k (k + 3 - k) next (set (set (set (take (k + 3 - k) (drop k next)) 0 (get_or ws 0 0)) 1 (get_or ws 1 0)) 2 (get_or ws 2 0))

-- ---- words behind those that are written

-- words put behind those written at the beginning
onto_more : (done ws room : List ℕ) {k : ℕ} → length done ≡ k → put_mid k (length ws) (onto done room) ws ≡ onto (done ++ ws) room
onto_more done ws room {k} e =
    rw (take_at done (drop (length done) room) k e, drop_at done (drop (length done) room) k e, drop-drop (length ws) (length done) room, length-append done ws, append_assoc)

-- three words more
onto_three : (done ws room : List ℕ) {k : ℕ} → length done ≡ k → length ws ≡ 3 → k + 3 ≤ length (onto done room) → stored k (onto done room) ws ≡ onto (done ++ ws) room
onto_three done ws room {k} e n h =
    let span : k + 3 - k ≡ 3 = omega arith in
    let next : List ℕ = onto done room in
    let long : length (take 3 (drop k next)) ≡ 3 = length-take-le 3 (drop k next) (rw length-drop (omega arith)) in
    rw (span, three_set (take 3 (drop k next)) ws long n) (rw n at (onto_more done ws room e))

-- one word more
onto_one : (done room : List ℕ) (w : ℕ) {k : ℕ} → length done ≡ k → k < length (onto done room) → set (onto done room) k w ≡ onto (done ++ (w ∷ [])) room
onto_one done room w {k} e h =
    sets-eq (w ∷ []) (onto done room) k (omega arith) ∙ rw (append_assoc, drop-drop 1 k (onto done room)) refl ∙ onto_more done (w ∷ []) room e

-- ---- the walk

module _ (held : Lift → Bool) where
  -- the end word of the lifts that remain
  abbrev end_of : List Lift → List ℕ
  end_of ls = word end_kind (length (remaining ls)) ∷ []

  -- all lifts but those left are written, up to position k
  pub record Writing (ls left : List Lift) (room next : List ℕ) (k : ℕ) : Type 0 where
    pub before : ℕ
    pub listed : AllWellFormed before left
    pub done : List ℕ
    pub is : next ≡ onto done room
    pub long : length done ≡ k
    pub ahead : done ++ words_then (carried_on held left) (end_of ls) ≡ sheet_of (carried_on held ls)

  -- the lift that is read is the first of those left
  pub writing_first : {ls left rest : List Lift} {room next : List ℕ} {k : ℕ} {e : Entry} → Writing ls left room next k → (f : FirstLift left e rest) → Writing ls (f.lift ∷ rest) room next k
  writing_first d f = rw f.first at d

  module _ {ls left : List Lift} {room next : List ℕ} {k : ℕ} (d : Writing ls left room next k) (fits : length (sheet_of (carried_on held ls)) ≤ length room) where
    -- what is left to write has room
    left_fits : k + length (words_then (carried_on held left) (end_of ls)) ≤ length room
    left_fits = omega (arith, d.long, length-append d.done (words_then (carried_on held left) (end_of ls)), ap length d.ahead)

    pub same_long : length next ≡ length room
    same_long = rw (d.is, length-append, length-drop) (omega (arith, d.long, left_fits))

  module _ {l : Lift} {ls rest : List Lift} {room next : List ℕ} {k : ℕ} (d : Writing ls (l ∷ rest) room next k) where
    well_formed : LiftWellFormed d.before l
    unfolding AllWellFormed
    well_formed = d.listed.0

    others_well_formed : AllWellFormed l.number rest
    unfolding AllWellFormed
    others_well_formed = d.listed.1

    -- its number is a payload
    pub number_small : {e : Entry} → e ≡ entry_of l → e.number < 2 ^ 28
    number_small q = omega (arith, ap (λ x. x.number) q, well_formed.payload)

    -- a withdrawn lift has no words
    pub writing_past : l.new.round ≡ 0 → Writing ls rest room next k
    unfolding remaining
    writing_past h =
        record { before = l.number; listed = others_well_formed; done = d.done; is = d.is; long = d.long; ahead = rw (eq-eqb l.new.round 0 h) at d.ahead }

    module _ (some : l.new.round ≡ 0 → ⊥) where
      ahead_is : d.done ++ (lift_words (carried held l) ++ words_then (carried_on held rest) (end_of ls)) ≡ sheet_of (carried_on held ls)
      unfolding remaining words_then
      ahead_is = rw (ne_eqb l.new.round 0 some) at d.ahead

      next_turn : {next' : List ℕ} {k' : ℕ} → next' ≡ onto (d.done ++ lift_words (carried held l)) room → k' ≡ k + length (lift_words (carried held l)) → Writing ls rest room next' k'
      next_turn e ek =
          record {
            before = l.number;
            listed = others_well_formed;
            done = d.done ++ lift_words (carried held l);
            is = e;
            long = omega (arith, length-append d.done (lift_words (carried held l)), d.long, ek);
            ahead = append_assoc d.done (lift_words (carried held l)) _ ∙ ahead_is;
          }

      module _ (fits : length (sheet_of (carried_on held ls)) ≤ length room) where
        words_fit : k + length (lift_words (carried held l)) ≤ length next
        words_fit =
            let ws : List ℕ = lift_words (carried held l) in
            omega (arith, same_long d fits, d.long, length-append d.done (ws ++ words_then (carried_on held rest) (end_of ls)), length-append ws (words_then (carried_on held rest) (end_of ls)), ap length ahead_is)

        -- three words have room
        pub three_fit : k + 3 ≤ length next
        three_fit = omega (arith, words_fit)

        module _ {ws : List ℕ} (e : ws ≡ lift_words (carried (λ t. false) l)) where
          stored_is : stored k next ws ≡ onto (d.done ++ ws) room
          stored_is = let h : k + 3 ≤ length (onto d.done room) = rw d.is at three_fit in rw d.is (onto_three d.done ws room d.long (ap length e) h)

          -- the words of a lift that isn't the choice
          pub writing_three : lift_words (carried (λ t. false) l) ≡ lift_words (carried held l) → Writing ls rest room (stored k next ws) (k + 3)
          writing_three n = next_turn (stored_is ∙ ap (λ us. onto (d.done ++ us) room) (e ∙ n)) (omega (arith, ap length n))

          module _ (n : lift_words (carried (λ t. false) l) ++ (word held_kind 0 ∷ []) ≡ lift_words (carried held l)) where
            -- the held word has room
            pub four_fit : k + 3 < length (stored k next ws)
            four_fit = rw stored_is (omega (arith, words_fit, ap length n, d.long, ap length d.is, ap length e, length-append d.done ws, length-append (d.done ++ ws) (drop (length (d.done ++ ws)) room), length-append d.done (drop (length d.done) room), length-drop (length d.done) room, length-drop (length (d.done ++ ws)) room))

            -- the words of the choice
            pub writing_four : Writing ls rest room (set (stored k next ws) (k + 3) (word held_kind 0)) (k + 3 + 1)
            writing_four =
                let p : length (d.done ++ ws) ≡ k + 3 = omega (arith, length-append d.done ws, d.long, ap length e) in
                let h : k + 3 < length (onto (d.done ++ ws) room) = rw stored_is at four_fit in
                next_turn
                (rw stored_is (onto_one (d.done ++ ws) room (word held_kind 0) p h ∙ ap (λ us. onto us room) (append_assoc d.done ws (word held_kind 0 ∷ []) ∙ ap (λ us. d.done ++ us) (ap (λ us. us ++ (word held_kind 0 ∷ [])) e ∙ n))))
                (omega (arith, ap length n))

  -- the end word is all that is left
  module _ {ls : List Lift} {room next : List ℕ} {k : ℕ} (d : Writing ls [] room next k) where
    end_left : d.done ++ end_of ls ≡ sheet_of (carried_on held ls)
    unfolding words_then remaining
    end_left = d.ahead

    module _ (fits : length (sheet_of (carried_on held ls)) ≤ length room) where
      pub end_fits : k < length next
      end_fits = omega (arith, d.long, same_long d fits, length-append d.done (end_of ls), ap length end_left)

      pub writing_end : {n : ℕ} → n ≡ length (remaining ls) → set next k (word end_kind n) ≡ onto (sheet_of (carried_on held ls)) room
      writing_end {n} e =
          let h : k < length (onto d.done room) = rw d.is at end_fits in
          rw (← end_left, ← e, d.is) (onto_one d.done room (word end_kind n) d.long h)
