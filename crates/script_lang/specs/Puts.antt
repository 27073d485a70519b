-- What the lines of a script put on the wires of the application and of the compositor. The
-- language is this project's own; the bytes are those of the Wayland protocol's two streams.
use Rattle.std.specs.Prelude.{ℕ, Bool, true, false, if◌then◌else◌, List, [], ◌∷◌, ◌++◌}
use Rattle.wp_outside.specs.declared.kinds.Side.{Side}
use Rattle.wp_outside.specs.declared.kinds.Side.TheVariants.{Near, Far}
use Rattle.script_lang.specs.declared.steps.Step.{Step}
use Rattle.script_lang.specs.declared.steps.StepKind.{StepKind}
use Rattle.script_lang.specs.declared.steps.StepKind.TheVariants.{Hex, Say, Stop}

-- bytes of one peer, on the wire of this one
abbrev pub if_peer : Side → Side → List ℕ → List ℕ
if_peer Near Near bytes = bytes
if_peer Far Far bytes = bytes
if_peer _ _ bytes = []

-- the bytes that a line puts on a peer's wire
abbrev pub put_by : Side → StepKind → List ℕ
put_by peer (Hex whose bytes) = if_peer peer whose bytes
put_by peer (Say whose text) = if_peer peer whose text.message
put_by peer _ = []

abbrev pub is_stop : StepKind → Bool
is_stop Stop = true
is_stop _ = false

-- the lines before the first `stop`
abbrev pub before_stop : List Step → List Step
before_stop [] = []
before_stop (it ∷ steps) = if is_stop it.what then [] else it ∷ before_stop steps

-- the bytes that lines put on a peer's wire, one behind another
abbrev pub put_by_all : Side → List Step → List ℕ
put_by_all peer [] = []
put_by_all peer (it ∷ steps) = put_by peer it.what ++ put_by_all peer steps

-- all bytes that a script puts on a peer's wire
abbrev pub puts : Side → List Step → List ℕ
puts peer steps = put_by_all peer (before_stop steps)
