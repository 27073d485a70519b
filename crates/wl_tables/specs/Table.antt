-- The messages of wayland.xml's core and of the stable xdg-shell, the Wayland protocol's files: for
-- each interface its requests and its events in the order of their opcodes.
use Rattle.std.specs.Prelude.{List, [], ◌∷◌}
use Rattle.wl_tables.specs.declared.interface.Interface.{Interface}
use Rattle.wl_tables.specs.declared.interface.Interface.TheVariants.{WlDisplay, WlRegistry}
use Rattle.wl_tables.specs.declared.interface.Interface.TheVariants.{WlCallback, WlCompositor}
use Rattle.wl_tables.specs.declared.interface.Interface.TheVariants.{WlShm, WlShmPool, WlBuffer}
use Rattle.wl_tables.specs.declared.interface.Interface.TheVariants.{WlSurface, WlRegion, WlSeat}
use Rattle.wl_tables.specs.declared.interface.Interface.TheVariants.{WlPointer, WlKeyboard, WlTouch}
use Rattle.wl_tables.specs.declared.interface.Interface.TheVariants.{WlOutput, WlSubcompositor}
use Rattle.wl_tables.specs.declared.interface.Interface.TheVariants.{WlSubsurface}
use Rattle.wl_tables.specs.declared.interface.Interface.TheVariants.{WlDataDeviceManager}
use Rattle.wl_tables.specs.declared.interface.Interface.TheVariants.{WlDataDevice, WlDataSource}
use Rattle.wl_tables.specs.declared.interface.Interface.TheVariants.{WlDataOffer, XdgWmBase}
use Rattle.wl_tables.specs.declared.interface.Interface.TheVariants.{XdgPositioner, XdgSurface}
use Rattle.wl_tables.specs.declared.interface.Interface.TheVariants.{XdgToplevel, XdgPopup}
use Rattle.wl_tables.specs.declared.rows.Place.TheVariants.{New}
use Rattle.wl_tables.specs.declared.way.Way.{Way}
use Rattle.wl_tables.specs.declared.way.Way.TheVariants.{Request, Event}
use Rattle.wl_tables.specs.Places.{MessageRow, message, destructor, int, uint, fixed, string}
use Rattle.wl_tables.specs.Places.{string_or_null, object, object_or_null, array, bound, file}
use Rattle.wl_tables.specs.Places.{pipe_end}

-- the rows of an interface, the opcode of the first being 0
abbrev pub messages : Interface → Way → List MessageRow
messages WlDisplay Request =
    message "sync" (New WlCallback ∷ [])
    ∷ message "get_registry" (New WlRegistry ∷ [])
    ∷ []
messages WlDisplay Event =
    message "error" (object ∷ uint ∷ string ∷ [])
    ∷ message "delete_id" (uint ∷ [])
    ∷ []
messages WlRegistry Request =
    message "bind" (uint ∷ bound ∷ [])
    ∷ []
messages WlRegistry Event =
    message "global" (uint ∷ string ∷ uint ∷ [])
    ∷ message "global_remove" (uint ∷ [])
    ∷ []
messages WlCallback Request = []
messages WlCallback Event =
    destructor "done" (uint ∷ [])
    ∷ []
messages WlCompositor Request =
    message "create_surface" (New WlSurface ∷ [])
    ∷ message "create_region" (New WlRegion ∷ [])
    ∷ []
messages WlCompositor Event = []
messages WlShm Request =
    message "create_pool" (New WlShmPool ∷ file ∷ int ∷ [])
    ∷ []
messages WlShm Event =
    message "format" (uint ∷ [])
    ∷ []
messages WlShmPool Request =
    message "create_buffer" (New WlBuffer ∷ int ∷ int ∷ int ∷ int ∷ uint ∷ [])
    ∷ destructor "destroy" []
    ∷ message "resize" (int ∷ [])
    ∷ []
messages WlShmPool Event = []
messages WlBuffer Request =
    destructor "destroy" []
    ∷ []
messages WlBuffer Event =
    message "release" []
    ∷ []
messages WlSurface Request =
    destructor "destroy" []
    ∷ message "attach" (object_or_null ∷ int ∷ int ∷ [])
    ∷ message "damage" (int ∷ int ∷ int ∷ int ∷ [])
    ∷ message "frame" (New WlCallback ∷ [])
    ∷ message "set_opaque_region" (object_or_null ∷ [])
    ∷ message "set_input_region" (object_or_null ∷ [])
    ∷ message "commit" []
    ∷ message "set_buffer_transform" (int ∷ [])
    ∷ message "set_buffer_scale" (int ∷ [])
    ∷ message "damage_buffer" (int ∷ int ∷ int ∷ int ∷ [])
    ∷ message "offset" (int ∷ int ∷ [])
    ∷ []
messages WlSurface Event =
    message "enter" (object ∷ [])
    ∷ message "leave" (object ∷ [])
    ∷ message "preferred_buffer_scale" (int ∷ [])
    ∷ message "preferred_buffer_transform" (uint ∷ [])
    ∷ []
messages WlRegion Request =
    destructor "destroy" []
    ∷ message "add" (int ∷ int ∷ int ∷ int ∷ [])
    ∷ message "subtract" (int ∷ int ∷ int ∷ int ∷ [])
    ∷ []
messages WlRegion Event = []
messages WlSeat Request =
    message "get_pointer" (New WlPointer ∷ [])
    ∷ message "get_keyboard" (New WlKeyboard ∷ [])
    ∷ message "get_touch" (New WlTouch ∷ [])
    ∷ destructor "release" []
    ∷ []
messages WlSeat Event =
    message "capabilities" (uint ∷ [])
    ∷ message "name" (string ∷ [])
    ∷ []
messages WlPointer Request =
    message "set_cursor" (uint ∷ object_or_null ∷ int ∷ int ∷ [])
    ∷ destructor "release" []
    ∷ []
messages WlPointer Event =
    message "enter" (uint ∷ object ∷ fixed ∷ fixed ∷ [])
    ∷ message "leave" (uint ∷ object ∷ [])
    ∷ message "motion" (uint ∷ fixed ∷ fixed ∷ [])
    ∷ message "button" (uint ∷ uint ∷ uint ∷ uint ∷ [])
    ∷ message "axis" (uint ∷ uint ∷ fixed ∷ [])
    ∷ message "frame" []
    ∷ message "axis_source" (uint ∷ [])
    ∷ message "axis_stop" (uint ∷ uint ∷ [])
    ∷ message "axis_discrete" (uint ∷ int ∷ [])
    ∷ []
messages WlKeyboard Request =
    destructor "release" []
    ∷ []
messages WlKeyboard Event =
    message "keymap" (uint ∷ file ∷ uint ∷ [])
    ∷ message "enter" (uint ∷ object ∷ array ∷ [])
    ∷ message "leave" (uint ∷ object ∷ [])
    ∷ message "key" (uint ∷ uint ∷ uint ∷ uint ∷ [])
    ∷ message "modifiers" (uint ∷ uint ∷ uint ∷ uint ∷ uint ∷ [])
    ∷ message "repeat_info" (int ∷ int ∷ [])
    ∷ []
messages WlTouch Request =
    destructor "release" []
    ∷ []
messages WlTouch Event =
    message "down" (uint ∷ uint ∷ object ∷ int ∷ fixed ∷ fixed ∷ [])
    ∷ message "up" (uint ∷ uint ∷ int ∷ [])
    ∷ message "motion" (uint ∷ int ∷ fixed ∷ fixed ∷ [])
    ∷ message "frame" []
    ∷ message "cancel" []
    ∷ message "shape" (int ∷ fixed ∷ fixed ∷ [])
    ∷ message "orientation" (int ∷ fixed ∷ [])
    ∷ []
messages WlOutput Request =
    destructor "release" []
    ∷ []
messages WlOutput Event =
    message "geometry" (int ∷ int ∷ int ∷ int ∷ int ∷ string ∷ string ∷ int ∷ [])
    ∷ message "mode" (uint ∷ int ∷ int ∷ int ∷ [])
    ∷ message "done" []
    ∷ message "scale" (int ∷ [])
    ∷ message "name" (string ∷ [])
    ∷ message "description" (string ∷ [])
    ∷ []
messages WlSubcompositor Request =
    destructor "destroy" []
    ∷ message "get_subsurface" (New WlSubsurface ∷ object ∷ object ∷ [])
    ∷ []
messages WlSubcompositor Event = []
messages WlSubsurface Request =
    destructor "destroy" []
    ∷ message "set_position" (int ∷ int ∷ [])
    ∷ message "place_above" (object ∷ [])
    ∷ message "place_below" (object ∷ [])
    ∷ message "set_sync" []
    ∷ message "set_desync" []
    ∷ []
messages WlSubsurface Event = []
messages WlDataDeviceManager Request =
    message "create_data_source" (New WlDataSource ∷ [])
    ∷ message "get_data_device" (New WlDataDevice ∷ object ∷ [])
    ∷ []
messages WlDataDeviceManager Event = []
messages WlDataDevice Request =
    message "start_drag" (object_or_null ∷ object ∷ object_or_null ∷ uint ∷ [])
    ∷ message "set_selection" (object_or_null ∷ uint ∷ [])
    ∷ destructor "release" []
    ∷ []
messages WlDataDevice Event =
    message "data_offer" (New WlDataOffer ∷ [])
    ∷ message "enter" (uint ∷ object ∷ fixed ∷ fixed ∷ object_or_null ∷ [])
    ∷ message "leave" []
    ∷ message "motion" (uint ∷ fixed ∷ fixed ∷ [])
    ∷ message "drop" []
    ∷ message "selection" (object_or_null ∷ [])
    ∷ []
messages WlDataSource Request =
    message "offer" (string ∷ [])
    ∷ destructor "destroy" []
    ∷ message "set_actions" (uint ∷ [])
    ∷ []
messages WlDataSource Event =
    message "target" (string_or_null ∷ [])
    ∷ message "send" (string ∷ pipe_end ∷ [])
    ∷ message "cancelled" []
    ∷ message "dnd_drop_performed" []
    ∷ message "dnd_finished" []
    ∷ message "action" (uint ∷ [])
    ∷ []
messages WlDataOffer Request =
    message "accept" (uint ∷ string_or_null ∷ [])
    ∷ message "receive" (string ∷ pipe_end ∷ [])
    ∷ destructor "destroy" []
    ∷ message "finish" []
    ∷ message "set_actions" (uint ∷ uint ∷ [])
    ∷ []
messages WlDataOffer Event =
    message "offer" (string ∷ [])
    ∷ message "source_actions" (uint ∷ [])
    ∷ message "action" (uint ∷ [])
    ∷ []
messages XdgWmBase Request =
    destructor "destroy" []
    ∷ message "create_positioner" (New XdgPositioner ∷ [])
    ∷ message "get_xdg_surface" (New XdgSurface ∷ object ∷ [])
    ∷ message "pong" (uint ∷ [])
    ∷ []
messages XdgWmBase Event =
    message "ping" (uint ∷ [])
    ∷ []
messages XdgPositioner Request =
    destructor "destroy" []
    ∷ message "set_size" (int ∷ int ∷ [])
    ∷ message "set_anchor_rect" (int ∷ int ∷ int ∷ int ∷ [])
    ∷ message "set_anchor" (uint ∷ [])
    ∷ message "set_gravity" (uint ∷ [])
    ∷ message "set_constraint_adjustment" (uint ∷ [])
    ∷ message "set_offset" (int ∷ int ∷ [])
    ∷ message "set_reactive" []
    ∷ message "set_parent_size" (int ∷ int ∷ [])
    ∷ message "set_parent_configure" (uint ∷ [])
    ∷ []
messages XdgPositioner Event = []
messages XdgSurface Request =
    destructor "destroy" []
    ∷ message "get_toplevel" (New XdgToplevel ∷ [])
    ∷ message "get_popup" (New XdgPopup ∷ object_or_null ∷ object ∷ [])
    ∷ message "set_window_geometry" (int ∷ int ∷ int ∷ int ∷ [])
    ∷ message "ack_configure" (uint ∷ [])
    ∷ []
messages XdgSurface Event =
    message "configure" (uint ∷ [])
    ∷ []
messages XdgToplevel Request =
    destructor "destroy" []
    ∷ message "set_parent" (object_or_null ∷ [])
    ∷ message "set_title" (string ∷ [])
    ∷ message "set_app_id" (string ∷ [])
    ∷ message "show_window_menu" (object ∷ uint ∷ int ∷ int ∷ [])
    ∷ message "move" (object ∷ uint ∷ [])
    ∷ message "resize" (object ∷ uint ∷ uint ∷ [])
    ∷ message "set_max_size" (int ∷ int ∷ [])
    ∷ message "set_min_size" (int ∷ int ∷ [])
    ∷ message "set_maximized" []
    ∷ message "unset_maximized" []
    ∷ message "set_fullscreen" (object_or_null ∷ [])
    ∷ message "unset_fullscreen" []
    ∷ message "set_minimized" []
    ∷ []
messages XdgToplevel Event =
    message "configure" (int ∷ int ∷ array ∷ [])
    ∷ message "close" []
    ∷ message "configure_bounds" (int ∷ int ∷ [])
    ∷ message "wm_capabilities" (array ∷ [])
    ∷ []
messages XdgPopup Request =
    destructor "destroy" []
    ∷ message "grab" (object ∷ uint ∷ [])
    ∷ message "reposition" (object ∷ uint ∷ [])
    ∷ []
messages XdgPopup Event =
    message "configure" (int ∷ int ∷ int ∷ int ∷ [])
    ∷ message "popup_done" []
    ∷ message "repositioned" (uint ∷ [])
    ∷ []
