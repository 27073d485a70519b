-- Over the whole table: all names are visible, no interface's name has an `@` and no message's name a parenthesis, no interface has more than 16 messages of a way, and each place of a handle tells its kind.
use Rattle.std.proofs.Common.{◌≡◌, ℕ, ◌+◌, ◌==◌, List, [], ◌∷◌, length, filter_map, nat_le, ◌&&◌, Bool, true, refl}
use Rattle.std.specs.List.{list_all}
use Rattle.wl_wire.specs.declared.signature.ArgKind.{ArgKind}
use Rattle.wl_wire.specs.declared.signature.ArgKind.TheVariants.{Handle}
use Rattle.wl_tables.specs.declared.interface.Interface.{Interface}
use Rattle.wl_tables.specs.declared.interface.Interface.TheVariants.{WlDisplay, WlRegistry, WlCallback, WlCompositor, WlShm, WlShmPool, WlBuffer, WlSurface, WlRegion, WlSeat, WlPointer, WlKeyboard, WlTouch, WlOutput, WlSubcompositor, WlSubsurface, WlDataDeviceManager, WlDataDevice, WlDataSource, WlDataOffer, XdgWmBase, XdgPositioner, XdgSurface, XdgToplevel, XdgPopup}
use Rattle.wl_tables.specs.declared.way.Way.{Way}
use Rattle.wl_tables.specs.declared.way.Way.TheVariants.{Request, Event}
use Rattle.wl_tables.specs.Interfaces.{interface_name}
use Rattle.wl_wire.specs.declared.signature.Slot.{Slot}
use Rattle.wl_tables.specs.Messages.{form_of, carried_by}
use Rattle.wl_tables.specs.Places.{MessageRow}
use Rattle.wl_tables.specs.Table.{messages}
use Rattle.wl_text.specs.Enclosed.{is_shown}
use Rattle.wl_text.proofs.FrontLaws.{lacks}

-- how many handles arguments at these places are
abbrev pub kind_count : ArgKind → ℕ
kind_count Handle = 1
kind_count _ = 0

abbrev pub handle_count : List Slot → ℕ
handle_count [] = 0
handle_count (slot ∷ slots) = kind_count slot.kind + handle_count slots

abbrev pub is_readable : MessageRow → Bool
is_readable row = (lacks 40 row.name && list_all is_shown row.name) && (handle_count (form_of row).slots == length (filter_map carried_by row.places))

abbrev pub are_readable : List MessageRow → Bool
are_readable rows = nat_le (length rows) 16 && list_all is_readable rows

pub readable : (interface : Interface) (way : Way) → are_readable (messages interface way) ≡ true
readable WlDisplay Request = refl
readable WlDisplay Event = refl
readable WlRegistry Request = refl
readable WlRegistry Event = refl
readable WlCallback Request = refl
readable WlCallback Event = refl
readable WlCompositor Request = refl
readable WlCompositor Event = refl
readable WlShm Request = refl
readable WlShm Event = refl
readable WlShmPool Request = refl
readable WlShmPool Event = refl
readable WlBuffer Request = refl
readable WlBuffer Event = refl
readable WlSurface Request = refl
readable WlSurface Event = refl
readable WlRegion Request = refl
readable WlRegion Event = refl
readable WlSeat Request = refl
readable WlSeat Event = refl
readable WlPointer Request = refl
readable WlPointer Event = refl
readable WlKeyboard Request = refl
readable WlKeyboard Event = refl
readable WlTouch Request = refl
readable WlTouch Event = refl
readable WlOutput Request = refl
readable WlOutput Event = refl
readable WlSubcompositor Request = refl
readable WlSubcompositor Event = refl
readable WlSubsurface Request = refl
readable WlSubsurface Event = refl
readable WlDataDeviceManager Request = refl
readable WlDataDeviceManager Event = refl
readable WlDataDevice Request = refl
readable WlDataDevice Event = refl
readable WlDataSource Request = refl
readable WlDataSource Event = refl
readable WlDataOffer Request = refl
readable WlDataOffer Event = refl
readable XdgWmBase Request = refl
readable XdgWmBase Event = refl
readable XdgPositioner Request = refl
readable XdgPositioner Event = refl
readable XdgSurface Request = refl
readable XdgSurface Event = refl
readable XdgToplevel Request = refl
readable XdgToplevel Event = refl
readable XdgPopup Request = refl
readable XdgPopup Event = refl

pub readable_name : (interface : Interface) → (lacks 64 (interface_name interface) && list_all is_shown (interface_name interface)) ≡ true
readable_name WlDisplay = refl
readable_name WlRegistry = refl
readable_name WlCallback = refl
readable_name WlCompositor = refl
readable_name WlShm = refl
readable_name WlShmPool = refl
readable_name WlBuffer = refl
readable_name WlSurface = refl
readable_name WlRegion = refl
readable_name WlSeat = refl
readable_name WlPointer = refl
readable_name WlKeyboard = refl
readable_name WlTouch = refl
readable_name WlOutput = refl
readable_name WlSubcompositor = refl
readable_name WlSubsurface = refl
readable_name WlDataDeviceManager = refl
readable_name WlDataDevice = refl
readable_name WlDataSource = refl
readable_name WlDataOffer = refl
readable_name XdgWmBase = refl
readable_name XdgPositioner = refl
readable_name XdgSurface = refl
readable_name XdgToplevel = refl
readable_name XdgPopup = refl
