-- Steps of a walk by hand, beside those of `types.Run`.
--     val, sets        a whole local is read, as an operand;  and assigned
--     calls_said       a call of a function whose one `ensures` says a fact φ of the result alone: its contract at y is given, what it asks stands at the head, and once it has returned u there stand what the result owns, the tokens and the rest, with φ in hand
--     opens_elem, shuts_elem   element i of a `&[S]`, S a struct of plain data: it is taken out, with its relation in hand, and put back
--     on_bool          a walk goes on in two ways, by how a test comes out.        less, not_less      what the test `m < k` says
--     goes_in          the test of an `if` holds: its first arm runs
--     passes_by        the test of an `if` with an empty second arm fails: what stands after it runs
--     freed            a local that holds something is freed
--     drops, drops_go  nothing is kept of the parameters, where nothing is said of them at exit: plain data, and references that are `&`
--     ends_plain       so the tokens and what the result owns are all that a walk has at its end, where the one `ensures` says a fact
--     Outside, Ending, Walk   what such a walk's triple binds outside, and at one choice of it: what holds at the end, and what the walk shows.        meets_plain      so the function meets its contract
-- Assumes `Logic`.
use mathlib.Core.Path.{◌≡◌, refl, sym, subst}
use Prim.Native.Nat.{ℕ, ◌<◌, ◌≤◌}
use native.Mathlib.Omega.{arith}
use mathlib.Core.Bool.{Bool, true, false}
use mathlib.Core.List.{List, [], ◌∷◌}
use lib.Dec.{T as Holds, ltb, ltb→lt, lt→ltb}
use lib.ListN.{length, get_or}
use seplogic.Ra.Ura.{Ura}
use base.Fraction.{full_share}
use mir.Syntax.{Callee, Fn, Ty, Place, place, Body, Opd as Operand, copy, Rv as RValue, skip, seq, assign, cond, call}
use mir.Val.{Val, vbool}
use base.Logic.{SProp, ent, sep, emp, via, id⊢, ex_e, snd∗, emp∗, mono∗}
use base.Fml.{Lft, Share, fat, fdies, flft, fhide}
use prog.Wp.{Env, Calls, Loops, Tables, Wp, WpFn, spot_of, after_seq}
use types.Logic.{Logic, sem}
use contract.Monad.{fact}
use types.Kit.{Item, ‵, raw, ◌⊛◌, some, later, Post, Goal, Soaks, any_q, post, runs, lands, frees, Seq, Step, step, ◌$◌, ◌∵◌, !, qed, move, use0, use1, split, pick, suffices, frame, await, done}
use types.Run.{Reads, Writes, Opd, Opds, Rv, stop, from, load, assigns, forget, free1, first, branches, skips}
use sound.WpLaws.{FmC, WpFn-mono}
use denote.Index.{place as placed, row as elements, others, elem_out, elem_back, looks_slice, shuts_slice}
use denote.Laws.{Is, Ises, Are, Spells, Tellss, valss, shows}
use denote.Memory.{cell_at, mem, shares}
use denote.Opens.{Shut}
use denote.RattleType.{Denots, Valss, flat}
use denote.Signature.{Slot, type_at, types_at}
use denote.Slice.{elements_shared}
use contract.Lifetimes.{Lfts, Shares, AllOutlive}
use denote.Steps.{heard}
use denote.Struct.Declared.{Declared, row}
use denote.Struct.Laws as LL
use denote.Triple.Call.{calls_from}
use denote.Triple.Clauses.{Clauses, Ended, Lasts, at_exit, lasts, ensured, closing}
use denote.Triple.End.{Kepts, Fins}
use denote.Triple.Entry.{Args, Res, alive, on_entry}
use denote.Triple.Spec.{Meets, triple_of}
use denote.Triple.Walked.{says, Stays, stay_dropped, Fit, has_of, on_exit, walk_of, ends_at, Silent, AllGo, Goes-dropped, walked, walk_Meets}

-- ---- tests
pub on_bool : {R : Type 1} (b : Bool) → (b ≡ true → R) → (b ≡ false → R) → R
on_bool true h k = h refl
on_bool false h k = k refl

pub less : (m k : ℕ) → ltb m k ≡ true → m < k
less m k e = ltb→lt m k (subst Holds (sym e) tt)

pub not_less : (m k : ℕ) → ltb m k ≡ false → k ≤ m
not_less m k e = omega (arith, no)
  where
    no : m < k → ⊥
    no h = subst Holds e (lt→ltb m k h)

module _ {M : Type 1} {𝓤 : Ura M} {𝓛 : Logic 𝓤} {K : Type 0} {Γ : List (Item 𝓤)} {E : Env 𝓤 𝓛.H} where
  -- ---- locals
  open 𝓛 use {H}

  pub val : K → {i : ℕ} {v : Val} → Reads K 𝓛 Γ (spot_of 𝓤 H E i).0 (spot_of 𝓤 H E i).1 (spot_of 𝓤 H E i).2 v → Opd K 𝓛 Γ E (copy (place i [])) v
  val t r = load t (from t (stop t)) r

module _ {M : Type 1} {𝓤 : Ura M} {𝓛 : Logic 𝓤} {K : Type 0} {Γ : List (Item 𝓤)} {E : Env 𝓤 𝓛.H} {C : Calls 𝓤 𝓛.H} {Λ : Loops 𝓤 𝓛.H} where
  open 𝓛 use {H}

  pub sets : K → {q : Post 𝓤 H} {i : ℕ} {rv : RValue} {rest : Body} {v : Val} {Γ' : List (Item 𝓤)} → Rv K 𝓛 Γ E rv v → Writes K 𝓛 Γ (spot_of 𝓤 H E i).0 (spot_of 𝓤 H E i).1 (spot_of 𝓤 H E i).2 v Γ'
      → Step K 𝓛 Γ' (runs C Λ E rest q) Γ (runs C Λ E (seq (assign (place i []) rv) rest) q)
  sets t r w = assigns t r (from t (stop t)) w

  -- ---- branches
  pub goes_in : K → {q : Post 𝓤 H} {c : Operand} {a b rest : Body} → Opd K 𝓛 Γ E c (vbool true)
      → Step K 𝓛 Γ (runs C Λ E a (any_q (after_seq 𝓤 H (Wp 𝓤 H C Λ E rest (post 𝓤 H q)) (post 𝓤 H q)))) Γ (runs C Λ E (seq (cond c a b) rest) q)
  goes_in t o = step (λ s. first t $ branches t o (λ _. s) (λ z. absurd z))

  pub passes_by : K → {q : Post 𝓤 H} {c : Operand} {a rest : Body} → Opd K 𝓛 Γ E c (vbool false) → Step K 𝓛 Γ (runs C Λ E rest q) Γ (runs C Λ E (seq (cond c a skip) rest) q)
  passes_by t o = step (λ s. first t $ branches t o (λ z. absurd z) (λ _. skips t $ record { prf = s.prf }))

  -- ---- a call
  pub calls_said : K → (T : Ended) (c : Clauses 𝓤 T) → FmC 𝓤 H 𝓛.laws C → {f : Callee} {xs : List Operand} {d : Place} {q : Post 𝓤 H} {rest : Body}
      → (y : (triple_of 𝓛 T.signature (closing 𝓛 T c)).Ghost) → ent 𝓤 ((triple_of 𝓛 T.signature (closing 𝓛 T c)).pre y) (C f ((triple_of 𝓛 T.signature (closing 𝓛 T c)).args y) ((triple_of 𝓛 T.signature (closing 𝓛 T c)).post y)) → (φ : Res T.signature y.0.0 → Type 0)
      → ((r : Res T.signature y.0.0) (ws : Lasts T y.0.0 y.0.3) → (c y.0.0 y.0.3).ensures y.1 r (at_exit T y.0.0 y.0.3 ws) ≡ fact 𝓤 (φ r))
      → Opds K 𝓛 (raw ((triple_of 𝓛 T.signature (closing 𝓛 T c)).pre y) ∷ Γ) E xs ((triple_of 𝓛 T.signature (closing 𝓛 T c)).args y)
      → ((u : Val) (r : Res T.signature y.0.0) → φ r → Seq K 𝓛 (‵ ((type_at T.signature.result y.0.0).own_val r (u ∷ [])) ∷ raw (alive 𝓛 T.signature y.0.0 y.0.1) ∷ Γ) (lands C Λ E d u rest q))
      → Seq K 𝓛 (raw ((triple_of 𝓛 T.signature (closing 𝓛 T c)).pre y) ∷ Γ) (runs C Λ E (seq (call f xs d) rest) q)
  calls_said t T c fm y met φ says os k = calls_from t fm (raw ((triple_of 𝓛 T.signature (closing 𝓛 T c)).pre y)) ((triple_of 𝓛 T.signature (closing 𝓛 T c)).args y) ((triple_of 𝓛 T.signature (closing 𝓛 T c)).post y) met os (λ u.
      use1 𝓛 (later (some (λ (r : Res T.signature y.0.0). (raw (alive 𝓛 T.signature y.0.0 y.0.1) ⊛ ‵ ((type_at T.signature.result y.0.0).own_val r (u ∷ []))) ⊛ raw (ensured 𝓛 T c y.0.0 y.0.3 y.1 r)))) (id⊢ 𝓤 _) $
      await t tt $ pick t (λ r. split t $ move t (1 ∷ []) $ use1 𝓛 (raw (fact 𝓤 (φ r))) (said r) $ heard t (φ r) (λ e. split t $ move t (1 ∷ []) $ k u r e)))
    where
      said : (r : Res T.signature y.0.0) → ent 𝓤 (ensured 𝓛 T c y.0.0 y.0.3 y.1 r) (fact 𝓤 (φ r))
      said r = ex_e 𝓤 _ (λ ws. subst (λ (P : SProp 𝓤). ent 𝓤 (sep 𝓤 (sem 𝓛 (lasts T y.0.0 y.0.3 ws)) ((c y.0.0 y.0.3).ensures y.1 r (at_exit T y.0.0 y.0.3 ws))) P) (says r ws)
          (snd∗ 𝓤 (sem 𝓛 (lasts T y.0.0 y.0.3 ws)) ((c y.0.0 y.0.3).ensures y.1 r (at_exit T y.0.0 y.0.3 ws))))

-- ---- an element of a slice of structs
module _ {M : Type 1} {𝓤 : Ura M} {𝓛 : Logic 𝓤} {K : Type 0} {Γ : List (Item 𝓤)} {G : Goal 𝓤 𝓛.H} where
  pub opens_elem : K → Soaks G → (S : Declared) (L : LL.Laws S) → LL.Copyables S.parts → {κ : Lft} {q : Share} (ys : List S.D) (i : ℕ) (d : S.D) (b o : ℕ) → i < length ys
      → ((q' : Share) → Is (row S) (get_or ys i d) (LL.vals S L (get_or ys i d))
      → Seq K 𝓛 (‵ (cell_at q' (row S).mir (LL.vals S L (get_or ys i d)) b (placed (mem (row S)).size o i)) ∷ ‵ ((row S).own_val (get_or ys i d) (LL.vals S L (get_or ys i d))) ∷ ‵ (others (shares (row S)) q' ys i b o)
      ∷ Shut 𝓛 κ q (elements (row S) q' ys b o) ∷ ‵ (fhide (elements_shared (row S) ys b o κ)) ∷ Γ) G)
      → Seq K 𝓛 (‵ (fhide (elements_shared (row S) ys b o κ)) ∷ ‵ (flft κ q) ∷ Γ) G
  opens_elem t z S L cs ys i d b o l k =
      looks_slice t z (row S) (LL.copied S cs 𝓛) ys b o (λ q'.
      elem_out t (row S) (Is (row S)) (shows 𝓛 (row S)) (LL.vals S L) (LL.tells S L) q' ys i d b o l (k q'))

  pub shuts_elem : K → Soaks G → (S : Declared) (L : LL.Laws S) {κ : Lft} {q : Share} (q' : Share) (ys : List S.D) (i : ℕ) (d : S.D) (b o : ℕ) → i < length ys
      → Step K 𝓛 (‵ (flft κ q) ∷ Γ) G (‵ (cell_at q' (row S).mir (LL.vals S L (get_or ys i d)) b (placed (mem (row S)).size o i)) ∷ ‵ ((row S).own_val (get_or ys i d) (LL.vals S L (get_or ys i d))) ∷ ‵ (others (shares (row S)) q' ys i b o)
      ∷ Shut 𝓛 κ q (elements (row S) q' ys b o) ∷ Γ) G
  shuts_elem t z S L q' ys i d b o l = step (λ s. elem_back t (row S) q' ys i d (LL.vals S L (get_or ys i d)) b o l $ shuts_slice t z (row S) q' ys b o $ s)

-- ---- at the end
module _ {M : Type 1} {𝓤 : Ura M} {𝓛 : Logic 𝓤} {K : Type 0} {Γ : List (Item 𝓤)} where
  open 𝓛 use {H}

  pub freed : K → {τ : Ty} {b : ℕ} {v : Val} {E : Env 𝓤 H} {g : Goal 𝓤 H} → Step K 𝓛 Γ (frees E g) (‵ (fat full_share τ b 0 v) ∷ ‵ (fdies τ b) ∷ Γ) (frees ((τ, b) ∷ E) g)
  freed t = step (λ s. forget t 0 refl $ free1 t $ s)

abbrev pub drops : {n : ℕ} (ss : List (Slot n)) (ks : Kepts ss) → Stays ss ks
drops [] ks = tt
drops (s ∷ ss) ks = (stay_dropped s ks.0, drops ss ks.1)

module _ {M : Type 1} {𝓤 : Ura M} (𝓛 : Logic 𝓤) (n : ℕ) where
  abbrev pub Quiet : (ss : List (Slot n)) → Kepts ss → Type 1
  Quiet [] ks = Unit {1}
  Quiet (s ∷ ss) ks = Silent 𝓛 n s ks.0 × Quiet ss ks.1

  pub drops_go : (ss : List (Slot n)) (ks : Kepts ss) → Quiet ss ks → AllGo 𝓛 n ss ks (drops ss ks)
  drops_go [] ks qs = tt
  drops_go (s ∷ ss) ks qs = (Goes-dropped 𝓛 n s ks.0 qs.0, drops_go ss ks.1 qs.1)

  has_none : (κs : Lfts n) (ss : List (Slot n)) (ks : Kepts ss) (a : Denots (types_at ss κs)) (ws : Fins κs ss ks a) (vss : Valss (types_at ss κs)) → ent 𝓤 (emp 𝓤) (sem 𝓛 (has_of κs ss ks (drops ss ks) a ws vss))
  has_none κs [] ks a ws vss = id⊢ 𝓤 (emp 𝓤)
  has_none κs (s ∷ ss) ks a ws vss = via 𝓤 (sep 𝓤 (emp 𝓤) (emp 𝓤)) (emp∗ 𝓤 (emp 𝓤)) (mono∗ 𝓤 (id⊢ 𝓤 (emp 𝓤)) (has_none κs ss ks.1 a.1 ws.1 vss.1))

module _ {M : Type 1} {𝓤 : Ura M} (𝓛 : Logic 𝓤) (T : Ended) (c : Clauses 𝓤 T) where
  open 𝓛 use {H}

  abbrev hs : Stays T.signature.params T.kept
  hs = drops T.signature.params T.kept

  pub ends_plain : (y : (walk_of 𝓛 T hs c).Ghost) (u : Val) (r : Res T.signature y.0.0) (ws : Lasts T y.0.0 y.0.3) → Fit T hs y.0.0 y.0.3 ws
      → {φ : Type 0} → fact 𝓤 φ ≡ (c y.0.0 y.0.3).ensures y.1 r (at_exit T y.0.0 y.0.3 ws) → φ
      → ent 𝓤 (sep 𝓤 (alive 𝓛 T.signature y.0.0 y.0.1) (sem 𝓛 ((type_at T.signature.result y.0.0).own_val r (u ∷ [])))) ((walk_of 𝓛 T hs c).post y u)
  ends_plain y u r ws fits {φ} says-it x =
      qed 𝓛 (raw (alive 𝓛 T.signature y.0.0 y.0.1) ∷ ‵ ((type_at T.signature.result y.0.0).own_val r (u ∷ [])) ∷ []) ∵ suffices ! _ (ends_at 𝓛 T hs c y u r ws fits) $
      suffices ! (sep 𝓤 (on_exit 𝓛 T hs y.0.0 y.0.1 y.0.4 u r y.0.3 ws) (fact 𝓤 φ)) (subst (λ (P : SProp 𝓤). ent 𝓤 (sep 𝓤 (on_exit 𝓛 T hs y.0.0 y.0.1 y.0.4 u r y.0.3 ws) (fact 𝓤 φ)) (sep 𝓤 (on_exit 𝓛 T hs y.0.0 y.0.1 y.0.4 u r y.0.3 ws) P)) says-it (id⊢ 𝓤 _)) $
      says ! x $ frame ! $ use0 𝓛 (‵ (has_of y.0.0 T.signature.params T.kept hs y.0.3 ws y.0.4)) (has_none 𝓛 T.signature.lifetimes y.0.0 T.signature.params T.kept y.0.3 ws y.0.4) $ frame ! $ done !

  abbrev pub Outside : Type 0
  Outside = (walk_of 𝓛 T hs c).Ghost

  abbrev pub Ending : Outside → Val → SProp 𝓤
  Ending y = (walk_of 𝓛 T hs c).post y

  abbrev pub Walk : Tables 𝓤 H → Fn → Outside → Type 1
  Walk 𝓣 e y = ent 𝓤 (on_entry 𝓛 T.signature y.0.0 y.0.1 y.0.3 y.0.4) (WpFn 𝓤 H 𝓣.C 𝓣.Λ e ((walk_of 𝓛 T hs c).args y) (Ending y))

  pub meets_plain : Quiet 𝓛 T.signature.lifetimes T.signature.params T.kept → (𝓣 : Tables 𝓤 H) (e : Fn)
      → (sp : (κs : Lfts T.signature.lifetimes) → Spells (types_at T.signature.params κs)) → ((κs : Lfts T.signature.lifetimes) → Tellss (types_at T.signature.params κs) (Ises (types_at T.signature.params κs)) (sp κs))
      → ((κs : Lfts T.signature.lifetimes) (qs : Shares T.signature.lifetimes) (bounds : AllOutlive T.signature.lifetimes T.signature.outlives κs) (a : Args T.signature κs) (g : (c κs a).ghost)
      → Are (types_at T.signature.params κs) (Ises (types_at T.signature.params κs)) a (valss (types_at T.signature.params κs) (sp κs) a)
      → ent 𝓤 (sep 𝓤 (on_entry 𝓛 T.signature κs qs a (valss (types_at T.signature.params κs) (sp κs) a)) ((c κs a).requires g))
      (WpFn 𝓤 H 𝓣.C 𝓣.Λ e (flat (types_at T.signature.params κs) (valss (types_at T.signature.params κs) (sp κs) a)) ((walk_of 𝓛 T hs c).post ((κs, qs, bounds, a, valss (types_at T.signature.params κs) (sp κs) a), g))))
      → Meets 𝓛 T.signature (WpFn 𝓤 H 𝓣.C 𝓣.Λ e) (closing 𝓛 T c)
  meets_plain quiet 𝓣 e sp tl k =
      walk_Meets 𝓛 T hs (drops_go 𝓛 T.signature.lifetimes T.signature.params T.kept quiet) c (WpFn 𝓤 H 𝓣.C 𝓣.Λ e) (WpFn-mono 𝓤 H 𝓛.laws 𝓣 e) (walked 𝓛 T hs c (WpFn 𝓤 H 𝓣.C 𝓣.Λ e) sp tl k)
