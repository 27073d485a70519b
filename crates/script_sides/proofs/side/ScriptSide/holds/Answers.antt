use Rattle.std.proofs.Common.{ℕ, ap, ◌∙◌}
use Rattle.script_sides.proofs.Acting.{holds_is}
use Rattle.side_model.specs.Books.{TrailRecord}
use Rattle.pair_runs.specs.Moves.{holds}
use Rattle.script_sides.specs.Sided.{state_of}
use Rattle.script_sides.specs.Sided.{SideRun}
use Rattle.script_sides.proofs.side.ScriptSide.holds.Goals as goal
use Rattle.std.proofs.Common.{nat_lt, length}

pub returns : goal.returns
returns c =
    ap (λ (n : ℕ). nat_lt n c.len.result) c.acknowledged.ensures
    ∙ ap (λ (n : ℕ). nat_lt c.self.inside.trail.book.trail.acknowledged n) (c.len.ensures ∙ ap (λ (trail : TrailRecord). length trail.made) c.record.ensures)
    ∙ holds_is c.self.inside.trail.book.trail.made c.self.inside.trail.book.trail.acknowledged
    ∙ ap (λ (x : SideRun). holds (state_of x)) c.self.view_is
