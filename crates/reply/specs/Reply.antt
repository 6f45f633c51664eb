-- What a call replies, and what a refusal leaves of the lent lists.
use Rattle.std.specs.Prelude.{ℕ, Bool, cond, ◌&&◌, List, ◌++◌, eqb, length, drop}
use Rattle.reply.specs.declared.Reply.{Reply}

-- a refusal by the document's number and its place
pub record Numbered : Type 0 where
  pub number : ℕ
  pub place : ℕ

abbrev pub numbered : ℕ → ℕ → Numbered
numbered n i = record { number = n; place = i }

abbrev pub numbers : ℕ → ℕ → ℕ → Reply
numbers n a b = record { number = n; second = a; third = b }

-- "The reply is number 0, how many choices, and how many chance words were read, those passed over included."; a call that chooses nothing
-- replies "how many lines it took or words or entries it wrote, and 0 words read"
abbrev pub replied : (many words : ℕ) → Reply
replied n k = numbers 0 n k

-- "A refusal replies number, place and 0 words read"
abbrev pub of_refusal : Numbered → Reply
of_refusal x = numbers x.number x.place 0

-- words written to the beginning of a lent list: those behind "keep what they had"
abbrev pub onto : List ℕ → List ℕ → List ℕ
onto ws lent = ws ++ drop (length ws) lent

-- a refusal "changes nothing lent"
abbrev pub unless_refused : Reply → List ℕ → List ℕ → List ℕ
unless_refused r before after = cond (eqb r.number 0) after before

-- whether two replies are the same, for the tables of cases
abbrev pub same_reply : Reply → Reply → Bool
same_reply r q = eqb r.number q.number && (eqb r.second q.second && eqb r.third q.third)
