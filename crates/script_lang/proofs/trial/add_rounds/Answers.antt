use Rattle.std.proofs.Common.{◌≡◌, ◌∙◌, ◌++◌, ◌-◌, ◌+◌, sym, ap, append_assoc, arith}
use Rattle.script_lang.specs.Trial.{state_after, round, rounds}
use Rattle.script_lang.proofs.TrialTexts.{rounds_left}
use Rattle.script_lang.proofs.trial.add_rounds.Goals as goal

pub loop-preserved : goal.loop-preserved
loop-preserved c =
    let left = rounds_left c.args.count c.loop.counter c.loop.draws.state (omega (arith, c.loop-test.true)) in
    let added = c.in_ok-add_round.ensures in
    rw (added.text, added.draws)
    (append_assoc c.loop.text (round c.loop.draws.state) (rounds (c.args.count - (c.loop.counter + 1)) (state_after 8 c.loop.draws.state))
    ∙ ap (λ it. c.loop.text ++ it) (sym left) ∙ c.loop.invariant)
