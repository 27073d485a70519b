-- A way is told by whether it is that of events.
use Rattle.std.proofs.Common.{◌≡◌, refl}
use Rattle.wl_tables.specs.Ways.{is_event, way_of}
use Rattle.wl_tables.specs.declared.way.Way.{Way}
use Rattle.wl_tables.specs.declared.way.Way.TheVariants.{Request, Event}

pub way_again : (way : Way) → way_of (is_event way) ≡ way
way_again Request = refl
way_again Event = refl
