-- The copies of a message as they are made, one segment of its file after another; this project's
-- own.
use Rattle.std.specs.Prelude.{ℕ, List, [], ◌∷◌, map}
use Rattle.pool_words.specs.Views.{EyeState}
use Rattle.half_model.specs.Filling.{Part}
use Rattle.half_model.specs.Jobs.{Job, job_of}

-- how many words each eye has
abbrev pub eyes_words : List EyeState → List ℕ
eyes_words eyes = map (λ eye. eye.words) eyes

-- the job of a part, if there is one
abbrev pub one_job : ℕ → EyeState → List Part → List Job
one_job next eye [] = []
one_job next eye (part ∷ parts) = job_of next part eye ∷ []
