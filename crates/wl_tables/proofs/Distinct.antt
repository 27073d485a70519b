-- Over the whole table: within an interface no two requests and no two events have one name, and each interface is found by its name.
use Rattle.std.proofs.Common.{◌≡◌, refl, Some, true}
use Rattle.wl_tables.specs.declared.interface.Interface.{Interface}
use Rattle.wl_tables.specs.declared.interface.Interface.TheVariants.{WlDisplay, WlRegistry, WlCallback, WlCompositor, WlShm, WlShmPool, WlBuffer, WlSurface, WlRegion, WlSeat, WlPointer, WlKeyboard, WlTouch, WlOutput, WlSubcompositor, WlSubsurface, WlDataDeviceManager, WlDataDevice, WlDataSource, WlDataOffer, XdgWmBase, XdgPositioner, XdgSurface, XdgToplevel, XdgPopup}
use Rattle.wl_tables.specs.declared.way.Way.{Way}
use Rattle.wl_tables.specs.declared.way.Way.TheVariants.{Request, Event}
use Rattle.wl_tables.specs.Interfaces.{interface_name, interface_of}
use Rattle.wl_tables.specs.Table.{messages}
use Rattle.wl_tables.proofs.Naming.{names_differ}

pub differ : (interface : Interface) (way : Way) → names_differ (messages interface way) ≡ true
differ WlDisplay Request = refl
differ WlDisplay Event = refl
differ WlRegistry Request = refl
differ WlRegistry Event = refl
differ WlCallback Request = refl
differ WlCallback Event = refl
differ WlCompositor Request = refl
differ WlCompositor Event = refl
differ WlShm Request = refl
differ WlShm Event = refl
differ WlShmPool Request = refl
differ WlShmPool Event = refl
differ WlBuffer Request = refl
differ WlBuffer Event = refl
differ WlSurface Request = refl
differ WlSurface Event = refl
differ WlRegion Request = refl
differ WlRegion Event = refl
differ WlSeat Request = refl
differ WlSeat Event = refl
differ WlPointer Request = refl
differ WlPointer Event = refl
differ WlKeyboard Request = refl
differ WlKeyboard Event = refl
differ WlTouch Request = refl
differ WlTouch Event = refl
differ WlOutput Request = refl
differ WlOutput Event = refl
differ WlSubcompositor Request = refl
differ WlSubcompositor Event = refl
differ WlSubsurface Request = refl
differ WlSubsurface Event = refl
differ WlDataDeviceManager Request = refl
differ WlDataDeviceManager Event = refl
differ WlDataDevice Request = refl
differ WlDataDevice Event = refl
differ WlDataSource Request = refl
differ WlDataSource Event = refl
differ WlDataOffer Request = refl
differ WlDataOffer Event = refl
differ XdgWmBase Request = refl
differ XdgWmBase Event = refl
differ XdgPositioner Request = refl
differ XdgPositioner Event = refl
differ XdgSurface Request = refl
differ XdgSurface Event = refl
differ XdgToplevel Request = refl
differ XdgToplevel Event = refl
differ XdgPopup Request = refl
differ XdgPopup Event = refl

pub found : (interface : Interface) → interface_of (interface_name interface) ≡ Some interface
found WlDisplay = refl
found WlRegistry = refl
found WlCallback = refl
found WlCompositor = refl
found WlShm = refl
found WlShmPool = refl
found WlBuffer = refl
found WlSurface = refl
found WlRegion = refl
found WlSeat = refl
found WlPointer = refl
found WlKeyboard = refl
found WlTouch = refl
found WlOutput = refl
found WlSubcompositor = refl
found WlSubsurface = refl
found WlDataDeviceManager = refl
found WlDataDevice = refl
found WlDataSource = refl
found WlDataOffer = refl
found XdgWmBase = refl
found XdgPositioner = refl
found XdgSurface = refl
found XdgToplevel = refl
found XdgPopup = refl
