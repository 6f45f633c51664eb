use Rattle.std.proofs.Common.{rules, sym}
use Rattle.std.proofs.lemmas.Result.{err_from_is_err_and}
use Rattle.intake.proofs.Measures.{refused_by, taken_by, kept_none, kept_end, kept_malformed, kept_less, kept_absent, kept_had, kept_turn}
use Rattle.intake.proofs.lines.gather.Goals as goal

pub loop-rest-init : goal.loop-rest-init
loop-rest-init c = kept_none _ _ c.requires.empty

pub returns-in_err-line : goal.returns-in_err-line
returns-in_err-line c =
    let p = err_from_is_err_and c.from_residual.result c.from_residual.ensures.1 in
    let q = refused_by _ _ _ _ c.in_err-line.ensures.value c.read_line.ensures in
    rw (p.1, p.2, q.1) (kept_malformed c.loop-rest.invariant (search rules) q.0)

pub returns-in_err-k : goal.returns-in_err-k
returns-in_err-k c =
    let p = err_from_is_err_and c.from_residual-in_err-k.result c.from_residual-in_err-k.ensures.1 in
    let e = taken_by _ _ _ _ c.in_ok-line.ensures.value c.read_line.ensures in
    let q = refused_by _ _ _ _ c.in_err-k.ensures.value c.find.ensures in
    rw (p.1, p.2, q.1) (kept_absent c.loop-rest.invariant (search rules) e q.0)

pub returns-then-is_some : goal.returns-then-is_some
returns-then-is_some c =
    let e = taken_by _ _ _ _ c.in_ok-line.ensures.value c.read_line.ensures in
    let q = taken_by _ _ _ _ c.in_ok-k.ensures.value c.find.ensures in
    kept_had c.loop-rest.invariant (search rules) e q.0 q.1 (sym c.if-is_some.ensures)

pub loop-rest-smaller : goal.loop-rest-smaller
loop-rest-smaller c = kept_less c.loop-rest.invariant (search rules) (taken_by _ _ _ _ c.in_ok-line.ensures.value c.read_line.ensures)

pub loop-rest-preserved : goal.loop-rest-preserved
loop-rest-preserved c =
    let e = taken_by _ _ _ _ c.in_ok-line.ensures.value c.read_line.ensures in
    let q = taken_by _ _ _ _ c.in_ok-k.ensures.value c.find.ensures in
    kept_turn c.loop-rest.invariant (search rules) e q.0 q.1 c.requires.rising (sym c.if-is_some.ensures) c.div_ceil.ensures

pub returns : goal.returns
returns c = kept_end c.loop-rest.invariant (search rules)
