-- A proxy with its records as plain data, and what it keeps; this project's own.
use Rattle.std.specs.Prelude.{◌≡◌, ℕ, Bool, false, is_some, List, [], Option, None}
use Rattle.side_model.specs.declared.fault.ProxyFault.{ProxyFault}
use Rattle.side_model.specs.Books.{Book}
use Rattle.side_model.specs.Shows as shows
use Rattle.side_model.specs.Shows.{front_of, unless_fault}
use Rattle.side_model.specs.State.{Now}
use Rattle.side_model.specs.Trails.{TrailState, Keeps}

abbrev pub state_of : Now → Book → Option ProxyFault → TrailState
state_of now book fault = record { now = now; book = book; fault = fault }

-- its records are lawful, and it knows whether a connection is up
pub record IsKept (up : Bool) (t : TrailState) : Type 0 where
  pub keeps : Keeps t
  pub here : t.fault ≡ None → up ≡ is_some t.now.live.here

-- it takes from its peer
abbrev pub wants_peer : TrailState → Bool
wants_peer t = unless_fault t.fault (shows.wants_peer t.now) false

-- what it lends to be written
abbrev pub lent_bytes : TrailState → List ℕ
lent_bytes t = unless_fault t.fault (front_of t.now) []
