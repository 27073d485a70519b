use Rattle.std.proofs.Common.{◌+◌, ◌<◌, List, length, length-set, ap, ◌∙◌, arith, ℕ}
use Rattle.pool_words.specs.declared.views.Sight.{Sight}
use Rattle.pool_words.specs.declared.views.View.TheVariants.{Seeing}
use Rattle.pool_words.specs.Views.{DeskState, loaded, low_of, seen_of}
use Rattle.pool_words.proofs.Rows.{sights_more}
use Rattle.pool_words.proofs.desk.Desk.load_row.Goals as goal

pub loop-i-preserved : goal.loop-i-preserved
loop-i-preserved c =
    let i : ℕ = c.loop-i.i in
    let x : ℕ = c.load.result in
    let first : ℕ = c.args.first in
    let before = c.args.self.now in
    let after : DeskState → DeskState = λ d. record { pool = d.pool; words = d.words; view = loaded (first + i) x d.view } in
    let with_seen : List Sight → DeskState = λ ss. record { pool = before.pool; words = before.words; view = Seeing (low_of before.view) ss } in
    let within : i < length c.loop-i.out = omega (arith, c.loop-i-test.true, c.loop-i.invariant.same_length) in
    record {
      loaded = c.load.ensures ∙ ap after c.loop-i.invariant.loaded ∙ ap with_seen (sights_more (seen_of before.view) first i x c.loop-i.out within);
      same_length = length-set c.loop-i.out i x ∙ c.loop-i.invariant.same_length;
    }
