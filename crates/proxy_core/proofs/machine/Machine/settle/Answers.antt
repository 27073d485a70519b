-- The phases, one after another, lead to rest; or the first that fails ends the row.
use Rattle.std.proofs.Common.{arith, ◌∙◌}
use Rattle.std.proofs.lemmas.Result.{err_from_is_err_and}
use Rattle.proxy_core.specs.Doing.{Goes}
use Rattle.proxy_core.proofs.Partings.{goes_then, fails_then}
use Rattle.proxy_core.proofs.Phases.{few_known, still_of, all_done}
use Rattle.proxy_core.proofs.machine.Machine.settle.Goals as goal

pub treat_all-requires-clause-still : goal.treat_all-requires-clause-still
treat_all-requires-clause-still c = still_of c.args.self.now c.hear_all.new.self c.in_ok-hear_all.ensures.all

pub treat_all-requires-clause-few : goal.treat_all-requires-clause-few
treat_all-requires-clause-few c = few_known c.args.self.now c.hear_all.new.self c.in_ok-hear_all.ensures.all c.requires.few

pub end-requires-clause-few : goal.end-requires-clause-few
end-requires-clause-few c =
    omega (arith, c.in_ok-treat_all.ensures.went.acknowledged, few_known c.args.self.now c.hear_all.new.self c.in_ok-hear_all.ensures.all c.requires.few)

pub returns-in_err-hear_all-clause-fails : goal.returns-in_err-hear_all-clause-fails
returns-in_err-hear_all-clause-fails c =
    let p = err_from_is_err_and c.from_residual.result c.from_residual.ensures.1 in
    rw (p.1, p.2) c.in_err-hear_all.ensures.fails

pub returns-in_err-treat_all-clause-fails : goal.returns-in_err-treat_all-clause-fails
returns-in_err-treat_all-clause-fails c =
    let p = err_from_is_err_and c.from_residual-in_err-treat_all.result c.from_residual-in_err-treat_all.ensures.1 in
    rw (p.1, p.2) (fails_then _ c.args.self.now c.hear_all.new.self c.treat_all.new.self c.in_ok-hear_all.ensures.all.goes c.in_err-treat_all.ensures.fails)

pub returns-in_err-end-clause-fails : goal.returns-in_err-end-clause-fails
returns-in_err-end-clause-fails c =
    let p = err_from_is_err_and c.from_residual-in_err-end.result c.from_residual-in_err-end.ensures.1 in
    let goes : Goes c.args.self.now c.treat_all.new.self = goes_then c.args.self.now c.hear_all.new.self c.treat_all.new.self c.in_ok-hear_all.ensures.all.goes c.in_ok-treat_all.ensures.went.goes in
    rw (p.1, p.2) (fails_then _ c.args.self.now c.treat_all.new.self c.end.new.self goes c.in_err-end.ensures.fails)

pub returns-clause-row : goal.returns-clause-row
returns-clause-row c =
    (all_done c.choose.result c.args.self.now c.hear_all.new.self c.treat_all.new.self c.end.new.self c.choose.new.self c.in_ok-hear_all.ensures.all c.in_ok-treat_all.ensures.went c.in_ok-end.ensures.went
    c.in_ok-end.ensures.treats c.in_ok-end.ensures.rests c.choose.ensures).row

pub returns-clause-rests : goal.returns-clause-rests
returns-clause-rests c =
    (all_done c.choose.result c.args.self.now c.hear_all.new.self c.treat_all.new.self c.end.new.self c.choose.new.self c.in_ok-hear_all.ensures.all c.in_ok-treat_all.ensures.went c.in_ok-end.ensures.went
    c.in_ok-end.ensures.treats c.in_ok-end.ensures.rests c.choose.ensures).rests

pub returns-clause-goes_on : goal.returns-clause-goes_on
returns-clause-goes_on c =
    (all_done c.choose.result c.args.self.now c.hear_all.new.self c.treat_all.new.self c.end.new.self c.choose.new.self c.in_ok-hear_all.ensures.all c.in_ok-treat_all.ensures.went c.in_ok-end.ensures.went
    c.in_ok-end.ensures.treats c.in_ok-end.ensures.rests c.choose.ensures).goes_on ∙ c.requires.running
