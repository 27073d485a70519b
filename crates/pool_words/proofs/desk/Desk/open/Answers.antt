use Rattle.std.proofs.Common.{◌+◌, ap, ◌∙◌, sym}
use lib.ListN.{replicate}
use Rattle.pool_words.proofs.Steps.{begins}
use Rattle.pool_words.proofs.desk.Desk.open.Goals as goal

pub of_words-requires : goal.of_words-requires
of_words-requires c =
    let zeros = c.in_ok-zeros.ensures.items_if_clones_equal in
    begins c.from.result c.as_slice.result.now (c.as_slice.ensures.value ∙ zeros (λ y e. e) ∙ ap (λ n. replicate (n + 1) 0) (sym c.from.ensures))
