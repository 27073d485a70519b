use Rattle.std.proofs.Common.{List, ◌∙◌, ap}
use Rattle.pool_words.specs.Views.{EyeState}
use Rattle.shm_pools.specs.Files.{eye_sizes, place_in}
use Rattle.shm_pools.proofs.WordPlaces.{if_placed}
use Rattle.shm_pools.proofs.notes.FileEyes.place_of.Goals as goal

pub returns-clause-there : goal.returns-clause-there
returns-clause-there c =
    if_placed (eye_sizes c.args.self.now.eyes) c.args.word c.place_among.result
    (c.place_among.ensures ∙ ap (λ (eyes : List EyeState). place_in (eye_sizes eyes) c.args.word) c.as_slice.ensures)
