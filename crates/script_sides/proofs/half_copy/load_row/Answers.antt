use Rattle.std.proofs.Common.{◌≡◌, ℕ, ◌+◌, List, ◌++◌, length, arith, sym, ap, ◌∙◌}
use Rattle.std.specs.Prelude.{take}
use Rattle.pool_words.specs.Views.{sights}
use Rattle.pool_words.specs.declared.views.Sight.{Sight}
use Rattle.script_sides.proofs.Words.{sights_rows}
use Rattle.script_sides.proofs.half_copy.load_row.Goals as goal

pub returns-clause-eye : goal.returns-clause-eye
returns-clause-eye c =
    let front : List ℕ = c.split_at_mut-rest.result.0.now in
    let out : List ℕ = c.load.new.out in
    let back : List ℕ = c.split_at_mut-next.result.1.now in
    let is : front ≡ take c.args.from c.args.words.now = search in
    let long : length front ≡ c.args.from = search in
    let many : length out ≡ c.args.count = omega (arith, c.load.auto.out, c.split_at_mut-next.ensures.front_len) in
    let row : sights c.args.first (take (c.args.from + c.args.count) (front ++ (out ++ back))) ≡ sights c.args.first (take c.args.from c.args.words.now) ++ sights (c.args.first + c.args.from) out =
    ap (λ (n : ℕ). sights c.args.first (take n (front ++ (out ++ back)))) (omega (arith, long, many))
    ∙ sights_rows c.args.first front out back
    ∙ ap (λ (it : List ℕ). sights c.args.first it ++ sights (c.args.first + length front) out) is
    ∙ ap (λ (n : ℕ). sights c.args.first (take c.args.from c.args.words.now) ++ sights (c.args.first + n) out) long in
    c.load.ensures ∙ ap (λ (it : List Sight). record c.args.eye.now { seen = it }) (ap (λ (it : List Sight). it ++ sights (c.args.first + c.args.from) out) c.requires.seen ∙ sym row)
