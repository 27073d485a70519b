-- The two ways of messages, requests and events, as wayland.xml has them.
use Rattle.std.specs.Prelude.{Bool, true, false}
use Rattle.wp_outside.specs.declared.kinds.Side.{Side}
use Rattle.wp_outside.specs.declared.kinds.Side.TheVariants.{Near, Far}
use Rattle.wl_tables.specs.declared.way.Way.{Way}
use Rattle.wl_tables.specs.declared.way.Way.TheVariants.{Request, Event}

-- whether messages of this way are events
abbrev pub is_event : Way → Bool
is_event Request = false
is_event Event = true

-- the way of events, or of requests
abbrev pub way_of : Bool → Way
way_of false = Request
way_of true = Event

-- the way of the messages that the peer beside a side sends: the application sends requests, the
-- compositor events
abbrev pub own_way : Side → Way
own_way Near = Request
own_way Far = Event
