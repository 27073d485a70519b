use Rattle.std.proofs.Common.{map, Ok}
use Rattle.std.proofs.lemmas.Result.{err_from_is_err_and}
use Rattle.trail_records.specs.Rows.{line_of}
use Rattle.pair_audit.proofs.WalkLemmas.{none_left, all_left, both_agree, differs_up, differs_down}
use Rattle.pair_audit.proofs.lines.audit_rows.Goals as goal

pub loop-connection-init : goal.loop-connection-init
loop-connection-init c = all_left (map line_of c.args.near.now) (map line_of c.args.far.now) c.requires.near c.requires.far

pub returns-in_err-audit_lane : goal.returns-in_err-audit_lane
returns-in_err-audit_lane c =
    let p = err_from_is_err_and c.from_residual.result c.from_residual.ensures.1 in
    rw (p.1, p.2) (differs_up c.loop-connection.invariant c.in-Some.ensures c.split_line.ensures.written c.split_line-in-Some.ensures.read c.in_err-audit_lane.ensures)

pub returns-in_err-audit_lane-2 : goal.returns-in_err-audit_lane-2
returns-in_err-audit_lane-2 c =
    let p = err_from_is_err_and c.from_residual-in_err-audit_lane-2.result c.from_residual-in_err-audit_lane-2.ensures.1 in
    rw (p.1, p.2) (differs_down c.loop-connection.invariant c.in-Some.ensures c.split_line.ensures.written c.split_line-in-Some.ensures.read c.in_ok-audit_lane.ensures
    c.split_line-in-Some.ensures.written c.split_line.ensures.read c.in_err-audit_lane-2.ensures)

pub loop-connection-preserved : goal.loop-connection-preserved
loop-connection-preserved c =
    both_agree c.loop-connection.invariant c.in-Some.ensures c.split_line.ensures.written c.split_line-in-Some.ensures.read c.in_ok-audit_lane.ensures
    c.split_line-in-Some.ensures.written c.split_line.ensures.read c.in_ok-audit_lane-2.ensures c.split_line.ensures.rest c.split_line-in-Some.ensures.rest

pub returns : goal.returns
returns c = c.loop-connection.invariant.audits (Ok tt) (none_left (map line_of c.loop-connection.near_left.now) (map line_of c.loop-connection.far_left.now) c.in_default.ensures)
