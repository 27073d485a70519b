-- The tests that a proxy offers of what its calls ask for; connections are this project's own.
use Rattle.std.specs.Prelude.{ℕ, ◌&&◌, ◌||◌, nat_lt, Bool, is_some, is_none}
use Rattle.side_model.specs.State.{Now}

-- a connection of this number may come up: it is a later one, and none is up, or it has failed
abbrev pub may_connect : Now → ℕ → Bool
may_connect s connection =
    (is_some s.fault || is_none s.live.here) && nat_lt s.kept.last connection
