use Rattle.wl_objects.proofs.WholeShown.{version_room}
use Rattle.wl_objects.proofs.objects.Objects.visible_event.Goals as goal

pub view_event-requires : goal.view_event-requires
view_event-requires c versioned = version_room _ c.args.m _ c.event_in-event.ensures versioned
