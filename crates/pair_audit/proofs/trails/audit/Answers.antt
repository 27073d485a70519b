use Rattle.std.proofs.lemmas.Result.{err_from_is_err_and}
use Rattle.pair_model.specs.Lines.{Agrees}
use Rattle.pair_laws.specs.Differences.{FirstDiffers}
use Rattle.pair_audit.proofs.TrailLemmas.{rows_rise, said_of}
use Rattle.pair_audit.proofs.trails.audit.Goals as goal

pub audit_lines-requires-clause-near : goal.audit_lines-requires-clause-near
audit_lines-requires-clause-near c = rows_rise c.record.result.now c.args.near.now c.record.ensures c.stands.ensures

pub audit_lines-requires-clause-far : goal.audit_lines-requires-clause-far
audit_lines-requires-clause-far c = rows_rise c.record-2.result.now c.args.far.now c.record-2.ensures c.stands-2.ensures

pub returns : goal.returns
returns c = said_of Agrees c.record.result.now c.record-2.result.now c.args.near.now c.args.far.now c.record.ensures c.record-2.ensures c.in_ok-audit_lines.ensures

pub returns-in_err-audit_lines : goal.returns-in_err-audit_lines
returns-in_err-audit_lines c =
    let p = err_from_is_err_and c.from_residual.result c.from_residual.ensures.1 in
    rw (p.1, p.2) (said_of (λ near far. FirstDiffers near far c.in_err-audit_lines.field-0.0) c.record.result.now c.record-2.result.now c.args.near.now c.args.far.now
    c.record.ensures c.record-2.ensures c.in_err-audit_lines.ensures)
