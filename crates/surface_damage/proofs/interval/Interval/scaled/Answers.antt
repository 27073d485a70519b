use Rattle.std.proofs.Common.{◌≡◌, ◌∙◌, ap, ◌*◌, min}
use Rattle.block_intervals.specs.Sets.{lies_within}
use Rattle.surface_damage.proofs.IntervalLemmas.{lies_scaled}
use Rattle.surface_damage.proofs.interval.Interval.scaled.Goals as goal

pub returns-clause-places : goal.returns-clause-places
returns-clause-places c = λ n l.
    let first : c.min.result ≡ min (c.args.self.first * c.args.scale) c.args.count = cc in
    let end : c.min-2.result ≡ min (c.args.self.end * c.args.scale) c.args.count = cc in
    ap (λ t. lies_within t c.min-2.result n) first ∙ ap (λ t. lies_within (min (c.args.self.first * c.args.scale) c.args.count) t n) end
    ∙ lies_scaled c.args.self.first c.args.self.end c.args.scale c.args.count n c.requires.scale l
