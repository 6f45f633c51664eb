-- A local array whose first k elements are lent as a `&[T]` for a lifetime κ, and come back when κ is over.
--     Lender       what the lender keeps: what comes back of the elements lent, and the other elements
--     lends_first  given `Room`:  the local's cell ∗ what the array owns  ⊢ ⇛ own (the `&κ [T]` ((b, 0), take k xs)) ∗ Lender.        With tokens, which come back, by the type's law (`denote.Shares`).        lends_first_free      with no token, where T is Copy (`denote.Copied`)
--     first_back   [†κ] ∗ Lender  ⊢ ⇛ ∃ v. the local's cell, with v
-- Assumes `Logic`.
use mathlib.Core.Path.{◌≡◌, refl}
use Prim.Native.Nat.{ℕ, zero, suc, ◌+◌}
use mathlib.Core.List.{List, [], ◌∷◌}
use lib.ListN.{length, take, drop}
use seplogic.Ra.Ura.{Ura}
use base.Fraction.{full_share}
use mir.Syntax.{Lifetime, Ty, ty_array}
use mir.Val.{Val}
use base.Logic.{SProp, ent, sep, ex}
use base.Fml.{Lft, Fml, Incl, ftrue, fsep, fat, fdead, flent, fhide}
use ghost.Rules.{Toks, span}
use types.Logic.{Logic, sem, lfts}
use types.Kit.{‵, raw, ◌⊛◌, later, ◌$◌, ◌∵◌, !, qed, move, drop as forgo, use1, use2, split, join, rewrite, fsplit, fjoin, fpick, fpack, feq_l, feq_i, frame, await, updating, now as at_once, show, done}
use types.Tokens.{lent_back}
use types.Share.{arr_parts}
use denote.Copied.{Copied, each_lends}
use denote.RattleType.{RattleType}
use denote.Array.{Array, array_val}
use denote.ArrayMemory.{Single, Array-apart, Array-whole}
use denote.Index.{place, row}
use denote.Lend.{lends_shr_slice}
use denote.Lends.{Lent-map}
use denote.Memory.{lone, cell_at, part_at, part_of, mem, shares, shared_of}
use denote.Shadow.{pure_i}
use denote.Shares.{SharesAsFrom}
use denote.Slice.{slice_val, ShrSlice, Room, shr_slice_at, elements_shared}
use denote.Steps.{nothing}

module _ {M : Type 1} {𝓤 : Ura M} (𝓛 : Logic 𝓤) (R : RattleType) where
  -- the elements of a row, in two parts
  open 𝓛 use {H, A}

  cut_at : (xs : List R.Denot) (k b o : ℕ) → ent 𝓤 (sem 𝓛 (row R full_share xs b o)) (sep 𝓤 (sem 𝓛 (row R full_share (take k xs) b o)) (sem 𝓛 (row R full_share (drop k xs) b (place (mem R).size o k))))
  cut_at xs zero b o = qed 𝓛 (‵ (row R full_share xs b o) ∷ []) ∵ nothing ! $ frame ! $ done !
  cut_at [] (suc k) b o = qed 𝓛 (‵ ftrue ∷ []) ∵ nothing ! $ frame ! $ done !
  cut_at (x ∷ xs) (suc k) b o =
      qed 𝓛 (‵ (row R full_share (x ∷ xs) b o) ∷ []) ∵ fsplit ! $ move ! (1 ∷ []) $
      use1 𝓛 (‵ (row R full_share (take k xs) b (o + (mem R).size)) ⊛ ‵ (row R full_share (drop k xs) b (place (mem R).size (o + (mem R).size) k))) (cut_at xs k b (o + (mem R).size)) $ split ! $
      move ! (2 ∷ 0 ∷ []) $ fjoin ! $ frame ! $ done !

  join_at : (xs : List R.Denot) (k b o : ℕ) → ent 𝓤 (sep 𝓤 (sem 𝓛 (row R full_share (take k xs) b o)) (sem 𝓛 (row R full_share (drop k xs) b (place (mem R).size o k)))) (sem 𝓛 (row R full_share xs b o))
  join_at xs zero b o = qed 𝓛 (‵ ftrue ∷ ‵ (row R full_share xs b o) ∷ []) ∵ forgo ! $ done !
  join_at [] (suc k) b o = qed 𝓛 (‵ ftrue ∷ ‵ ftrue ∷ []) ∵ forgo ! $ done !
  join_at (x ∷ xs) (suc k) b o =
      qed 𝓛 (‵ (row R full_share (x ∷ take k xs) b o) ∷ ‵ (row R full_share (drop k xs) b (place (mem R).size (o + (mem R).size) k)) ∷ []) ∵ fsplit ! $ move ! (1 ∷ 2 ∷ []) $
      use2 𝓛 (‵ (row R full_share xs b (o + (mem R).size))) (join_at xs k b (o + (mem R).size)) $ move ! (1 ∷ 0 ∷ []) $ done !

  module _ (κ : Lft) (n : ℕ) (xs : List R.Denot) (k b : ℕ) where
    abbrev ty : Ty
    ty = ty_array (lone R.mir) n

    abbrev ys : List R.Denot
    ys = take k xs

    abbrev pub Lender : Fml
    Lender = fsep (flent κ ((arr_parts (shares R) (length ys)).part full_share ys b 0)) (row R full_share (drop k xs) b (place (mem R).size 0 k))

    abbrev Lent : Lifetime → SProp 𝓤
    Lent ℓ = sep 𝓤 (sem 𝓛 ((ShrSlice ℓ κ R).own_val (record { ref_ptr = (b, 0); now = ys }) (slice_val (b, 0) (length ys) ∷ []))) (sem 𝓛 Lender)

    -- the local, as what is lent and the other elements
    parted : (v : Val) → Single R.mir
        → ent 𝓤 (sep 𝓤 (H.at full_share ty b 0 v) (sem 𝓛 ((Array R n).own_val xs (v ∷ [])))) (sep 𝓤 (sem 𝓛 ((arr_parts (shares R) (length ys)).part full_share ys b 0)) (sem 𝓛 (row R full_share (drop k xs) b (place (mem R).size 0 k))))
    unfolding part_of
    parted v one =
        qed 𝓛 (‵ (fat full_share ty b 0 v) ∷ ‵ ((Array R n).own_val xs (v ∷ [])) ∷ []) ∵ use1 𝓛 (‵ (cell_at full_share (ty ∷ []) (v ∷ []) b 0)) (𝓛.laws.at_raw full_share ty b 0 v) $ fjoin ! $
        fpack ! (List Val) (λ vs. fsep (cell_at full_share (ty ∷ []) vs b 0) ((Array R n).own_val xs vs)) (v ∷ []) $
        use1 𝓛 (‵ ((arr_parts (shares R) n).part full_share xs b 0)) (Array-apart 𝓛 R full_share one n xs b 0) $ fsplit ! $ forgo ! $
        use1 𝓛 (‵ (row R full_share ys b 0) ⊛ ‵ (row R full_share (drop k xs) b (place (mem R).size 0 k))) (cut_at xs k b 0) $ split ! $
        feq_i ! ℕ (length ys) (length ys) refl $ fjoin ! $ done !

    pub lends_first : (ℓ : Lifetime) (v : Val) → Single R.mir → Room R (length ys) → (l : Lft) → SharesAsFrom 𝓛 full_share R (shared_of R) l → (ts : Toks) → Incl (span ts) l → Incl (span ts) κ
        → ent 𝓤 (sep 𝓤 (H.at full_share ty b 0 v) (sep 𝓤 (sem 𝓛 ((Array R n).own_val xs (v ∷ []))) (lfts 𝓛 ts))) (H.⇛ (sep 𝓤 (Lent ℓ) (lfts 𝓛 ts)))
    lends_first ℓ v one room l law ts inc sp =
        qed 𝓛 (‵ (fat full_share ty b 0 v) ∷ ‵ ((Array R n).own_val xs (v ∷ [])) ∷ raw (lfts 𝓛 ts) ∷ []) ∵ updating ! $
        use2 𝓛 (‵ ((arr_parts (shares R) (length ys)).part full_share ys b 0) ⊛ ‵ (row R full_share (drop k xs) b (place (mem R).size 0 k))) (parted v one) $ split ! $ move ! (0 ∷ 2 ∷ []) $
        use2 𝓛 (later ((‵ ((ShrSlice ℓ κ R).own_val (record { ref_ptr = (b, 0); now = ys }) (slice_val (b, 0) (length ys) ∷ [])) ⊛ ‵ (flent κ ((arr_parts (shares R) (length ys)).part full_share ys b 0))) ⊛ raw (lfts 𝓛 ts)))
        (lends_shr_slice 𝓛 R ℓ κ full_share ys b 0 room l law ts inc sp) $ await ! tt $ split ! $ split ! $ at_once ! $ move ! (1 ∷ 3 ∷ []) $ fjoin ! $ move ! (1 ∷ 0 ∷ []) $ join ! $ done !

    pub lends_first_free : (ℓ : Lifetime) (v : Val) → Single R.mir → Room R (length ys) → Copied 𝓛 R
        → ent 𝓤 (sep 𝓤 (H.at full_share ty b 0 v) (sem 𝓛 ((Array R n).own_val xs (v ∷ [])))) (H.⇛ (Lent ℓ))
    lends_first_free ℓ v one room copied =
        let lent : Fml = (arr_parts (shares R) (length ys)).part full_share ys b 0 in
        qed 𝓛 (‵ (fat full_share ty b 0 v) ∷ ‵ ((Array R n).own_val xs (v ∷ [])) ∷ []) ∵ updating ! $
        use2 𝓛 (‵ lent ⊛ ‵ (row R full_share (drop k xs) b (place (mem R).size 0 k))) (parted v one) $ split ! $
        use1 𝓛 (later (‵ (fhide (elements_shared R ys b 0 κ)) ⊛ ‵ (flent κ lent)))
        (Lent-map 𝓛 lent (row R full_share ys b 0) (elements_shared R ys b 0) (qed 𝓛 (‵ lent ∷ []) {P = sem 𝓛 (row R full_share ys b 0)} (fsplit ! $ forgo ! $ done !))
        (qed 𝓛 (‵ (row R full_share ys b 0) ∷ []) {P = sem 𝓛 lent} (feq_i ! ℕ (length ys) (length ys) refl $ done !)) (each_lends 𝓛 R copied full_share ys b 0) κ) $ await ! tt $ split ! $ at_once ! $
        pure_i ! (shr_slice_at R (record { ref_ptr = (b, 0); now = ys }) (slice_val (b, 0) (length ys) ∷ [])) (tt, (tt, tt)) (refl, room) $ fjoin ! $ frame ! $ done !

    pub first_back : length xs ≡ n → ent 𝓤 (sep 𝓤 (A.dead κ) (sem 𝓛 Lender)) (H.⇛ (ex 𝓤 (λ (v : Val). H.at full_share ty b 0 v)))
    unfolding part_of
    first_back long =
        qed 𝓛 (‵ (fdead κ) ∷ ‵ Lender ∷ []) ∵ updating ! $ move ! (1 ∷ []) $ fsplit ! $ move ! (2 ∷ 0 ∷ []) $ lent_back ! tt $ fsplit ! $ forgo ! $
        use2 𝓛 (‵ (row R full_share xs b 0)) (join_at xs k b 0) $ feq_i ! ℕ (length xs) n long $ fjoin ! $ use1 𝓛 (‵ (part_at (Array R n) full_share xs b 0)) (Array-whole 𝓛 R full_share n xs b 0) $ fpick ! (λ vs. fsplit ! $
        move ! (1 ∷ []) $ fpick ! (λ us. fsplit ! $ fsplit ! $ feq_l ! (λ e. forgo ! $ forgo ! $ rewrite ! 0 (λ (ws : List Val). ‵ (cell_at full_share (ty ∷ []) ws b 0)) e refl $
        use1 𝓛 (‵ (fat full_share ty b 0 (array_val us))) (𝓛.laws.raw_at full_share ty b 0 (array_val us)) $ at_once ! $ show ! (λ (v : Val). H.at full_share ty b 0 v) (array_val us) $ done !)))
