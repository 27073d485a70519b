-- The single lines of a report, each with the byte 10 at its end; this project's own.
use Rattle.std.specs.Prelude.{ℕ, ℤ, Bool, List, [], ◌∷◌, ◌++◌, length, codes, decimal}
use Rattle.std.specs.Prelude.{sum, if◌then◌else◌}
use Rattle.std.specs.Fmt.{signed_decimal}
use Rattle.hex.specs.Hex.{encode_lower}
use Rattle.wp_outside.specs.declared.kinds.Direction.{Direction}
use Rattle.wp_outside.specs.declared.kinds.Direction.TheVariants.{Up, Down}
use Rattle.wp_outside.specs.declared.kinds.Side.{Side}
use Rattle.wp_outside.specs.declared.kinds.Side.TheVariants.{Near, Far}
use Rattle.mirror_pools.specs.Mirrors.{MirrorState}

-- ---- counts

-- how many connections there were, and how many messages each peer sent and received
unfoldable pub counts_lines : ℕ → ℕ → ℕ → ℕ → ℕ → List ℕ
counts_lines connections up_sent down_received down_sent up_received =
    codes "connections " ++ (decimal connections
    ++ (codes "\napplication sent " ++ (decimal up_sent
    ++ (codes " received " ++ (decimal down_received
    ++ (codes "\ncompositor sent " ++ (decimal down_sent
    ++ (codes " received " ++ (decimal up_received ++ (10 ∷ []))))))))))

unfoldable pub side_word : Side → List ℕ
side_word Near = codes "near"
side_word Far = codes "far"

-- how many frames a side made, knows to be accepted, and accepted
unfoldable pub side_line : Side → ℕ → ℕ → ℕ → List ℕ
side_line side made acknowledged accepted =
    side_word side ++ (codes " made " ++ (decimal made
    ++ (codes " acknowledged " ++ (decimal acknowledged
    ++ (codes " accepted " ++ (decimal accepted ++ (10 ∷ [])))))))

unfoldable pub direction_word : Direction → List ℕ
direction_word Up = codes "up"
direction_word Down = codes "down"

-- how many bytes were written and read one way on a connection
unfoldable pub lane_line : ℕ → Direction → ℕ → ℕ → List ℕ
lane_line connection direction written read =
    codes "link " ++ (decimal connection ++ (codes " " ++ (direction_word direction
    ++ (codes " written " ++ (decimal written
    ++ (codes " read " ++ (decimal read ++ (10 ∷ []))))))))

-- ---- files and pipes

-- a mirror: its told size, and the sum of all its bytes
unfoldable pub mirror_line : ℤ → MirrorState → List ℕ
mirror_line rid it =
    codes "mirror " ++ (signed_decimal rid
    ++ (codes " size " ++ (decimal it.size
    ++ (codes " sum " ++ (decimal (sum it.bytes) ++ (10 ∷ []))))))

-- what became of a pipe: its writer's end was given, else its owner shut it, else neither
unfoldable pub state_word : Bool → Bool → List ℕ
state_word has_ended is_shut =
    if has_ended then codes "ended" else (if is_shut then codes "shut" else codes "open")

-- a pipe: how many bytes its owner was given, and their sum
unfoldable pub pipe_line : ℤ → Bool → List ℕ → Bool → List ℕ
pipe_line rid is_shut bytes has_ended =
    codes "pipe " ++ (signed_decimal rid
    ++ (codes " bytes " ++ (decimal (length bytes)
    ++ (codes " sum " ++ (decimal (sum bytes)
    ++ (codes " " ++ (state_word has_ended is_shut ++ (10 ∷ []))))))))

-- ---- messages

-- what the line of a received message begins with, by the side beside its receiver
unfoldable pub got_prefix : Side → List ℕ
got_prefix Near = codes "got application "
got_prefix Far = codes "got compositor "

-- the line of a message that is shown so
abbrev pub got_line : Side → List ℕ → List ℕ
got_line side shown = got_prefix side ++ (shown ++ (10 ∷ []))

-- as hexadecimal digits
abbrev pub hex_line : Side → List ℕ → List ℕ
hex_line side message = got_line side (encode_lower message)
