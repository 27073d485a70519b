use Rattle.std.proofs.Common.{take, drop, map}
use Rattle.pair_model.specs.Plain.{line_of}
use Rattle.pair_model.proofs.Hearing.{HearsTo}
use Rattle.pair_model.proofs.plain.hear_lines.Given as goal

-- what was heard on the lines so far
abbrev pub invariant-loop-line : goal.invariant-loop-line
invariant-loop-line l = HearsTo (map line_of (take l.line-index l.lines)) (map line_of (drop l.line-index l.lines)) l.heard.frames.items l.heard.acknowledged
