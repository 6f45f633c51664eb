-- `scan::Walk::next` meets its contract: the first of the lifts left is read from its words, and the words behind them are left. Assumes nothing.
use native.Mathlib.Omega.{arith}
use mathlib.Core.Path.{sym, ◌∙◌}
use Rattle.sheet.proofs.Walks.{first, none_left}
use Rattle.scan.proofs.entries.Steps.{next_left, gives_first, fewer}
use Rattle.scan.proofs.entries.WalkIterator.next.Goals as goal

pub returns-then-words-eq1-clause-steps : goal.returns-then-words-eq1-clause-steps
returns-then-words-eq1-clause-steps c =
    let e = sym c.self.view_is ∙ none_left c.self.invariant (omega (arith, c.if-words-eq1.true)) in
    (e, e)

pub entry_at-lift-requires-clause-i_in_bounds : goal.entry_at-lift-requires-clause-i_in_bounds
entry_at-lift-requires-clause-i_in_bounds c = (first c.self.invariant c.if-words-eq1.false).room

pub entry_at-lift-requires-clause-mark_sound : goal.entry_at-lift-requires-clause-mark_sound
entry_at-lift-requires-clause-mark_sound c = (first c.self.invariant c.if-words-eq1.false).marked

pub behind-self-inside-requires : goal.behind-self-inside-requires
behind-self-inside-requires c = (first c.self.invariant c.if-words-eq1.false).room

pub invariant_of-self : goal.invariant_of-self
invariant_of-self c = next_left (first c.self.invariant c.if-words-eq1.false) c.entry_at-lift.ensures c.behind-self-inside.ensures

pub returns-clause-steps : goal.returns-clause-steps
returns-clause-steps c = gives_first (first c.self.invariant c.if-words-eq1.false) c.entry_at-lift.ensures c.behind-self-inside.ensures c.self.view_is

pub returns-clause-goes : goal.returns-clause-goes
returns-clause-goes c =
    record {
      on = λ _. (tt, tt, fewer (first c.self.invariant c.if-words-eq1.false) c.entry_at-lift.ensures c.behind-self-inside.ensures c.self.view_is);
      keeps = tt;
      rests = λ _. tt;
    }
