-- The interfaces of wayland.xml's core and of the stable xdg-shell, the Wayland protocol's files:
-- their names, and the greatest versions of the globals that are shown.
use Rattle.std.specs.Prelude.{ℕ, List, [], ◌∷◌, find, Option, Some, None, codes}
use Rattle.std.specs.Str.{bytes_eq}
use Rattle.wl_tables.specs.declared.interface.Interface.{Interface}
use Rattle.wl_tables.specs.declared.interface.Interface.TheVariants.{WlDisplay, WlRegistry}
use Rattle.wl_tables.specs.declared.interface.Interface.TheVariants.{WlCallback, WlCompositor}
use Rattle.wl_tables.specs.declared.interface.Interface.TheVariants.{WlShm, WlShmPool, WlBuffer}
use Rattle.wl_tables.specs.declared.interface.Interface.TheVariants.{WlSurface, WlRegion, WlSeat}
use Rattle.wl_tables.specs.declared.interface.Interface.TheVariants.{WlPointer, WlKeyboard, WlTouch}
use Rattle.wl_tables.specs.declared.interface.Interface.TheVariants.{WlOutput, WlSubcompositor}
use Rattle.wl_tables.specs.declared.interface.Interface.TheVariants.{WlSubsurface}
use Rattle.wl_tables.specs.declared.interface.Interface.TheVariants.{WlDataDeviceManager}
use Rattle.wl_tables.specs.declared.interface.Interface.TheVariants.{WlDataDevice, WlDataSource}
use Rattle.wl_tables.specs.declared.interface.Interface.TheVariants.{WlDataOffer, XdgWmBase}
use Rattle.wl_tables.specs.declared.interface.Interface.TheVariants.{XdgPositioner, XdgSurface}
use Rattle.wl_tables.specs.declared.interface.Interface.TheVariants.{XdgToplevel, XdgPopup}

-- the name
abbrev pub interface_name : Interface → List ℕ
interface_name WlDisplay = codes "wl_display"
interface_name WlRegistry = codes "wl_registry"
interface_name WlCallback = codes "wl_callback"
interface_name WlCompositor = codes "wl_compositor"
interface_name WlShm = codes "wl_shm"
interface_name WlShmPool = codes "wl_shm_pool"
interface_name WlBuffer = codes "wl_buffer"
interface_name WlSurface = codes "wl_surface"
interface_name WlRegion = codes "wl_region"
interface_name WlSeat = codes "wl_seat"
interface_name WlPointer = codes "wl_pointer"
interface_name WlKeyboard = codes "wl_keyboard"
interface_name WlTouch = codes "wl_touch"
interface_name WlOutput = codes "wl_output"
interface_name WlSubcompositor = codes "wl_subcompositor"
interface_name WlSubsurface = codes "wl_subsurface"
interface_name WlDataDeviceManager = codes "wl_data_device_manager"
interface_name WlDataDevice = codes "wl_data_device"
interface_name WlDataSource = codes "wl_data_source"
interface_name WlDataOffer = codes "wl_data_offer"
interface_name XdgWmBase = codes "xdg_wm_base"
interface_name XdgPositioner = codes "xdg_positioner"
interface_name XdgSurface = codes "xdg_surface"
interface_name XdgToplevel = codes "xdg_toplevel"
interface_name XdgPopup = codes "xdg_popup"

-- all interfaces
abbrev pub interfaces : List Interface
interfaces =
    WlDisplay ∷ WlRegistry ∷ WlCallback ∷ WlCompositor ∷ WlShm ∷ WlShmPool
    ∷ WlBuffer ∷ WlSurface ∷ WlRegion ∷ WlSeat ∷ WlPointer ∷ WlKeyboard
    ∷ WlTouch ∷ WlOutput ∷ WlSubcompositor ∷ WlSubsurface ∷ WlDataDeviceManager ∷ WlDataDevice
    ∷ WlDataSource ∷ WlDataOffer ∷ XdgWmBase ∷ XdgPositioner ∷ XdgSurface ∷ XdgToplevel
    ∷ XdgPopup
    ∷ []

-- the interface with this name, to the last byte
abbrev pub interface_of : List ℕ → Option Interface
interface_of name = find (λ interface. bytes_eq (interface_name interface) name) interfaces

-- the greatest version that is shown, of a global
abbrev pub max_version : Interface → Option ℕ
max_version WlCompositor = Some 6
max_version WlShm = Some 1
max_version WlSeat = Some 7
max_version WlOutput = Some 4
max_version WlSubcompositor = Some 1
max_version WlDataDeviceManager = Some 3
max_version XdgWmBase = Some 5
max_version _ = None
