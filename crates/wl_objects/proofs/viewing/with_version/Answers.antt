use Rattle.std.proofs.Common.{◌≡◌, refl, sym, subst}
use Rattle.wl_wire.specs.Building.{word_bytes}
use Rattle.wl_wire.specs.Wire.{IsMessage}
use Rattle.wl_objects.specs.Registry.{with_version}
use Rattle.wl_objects.proofs.Versions.{whole_with_version}
use Rattle.wl_objects.proofs.viewing.with_version.Goals as goal

-- the front of the message and the new word are a message
pub from_whole-requires : goal.from_whole-requires
unfolding word_bytes
from_whole-requires c =
    let whole : IsMessage c.args.m = subst IsMessage c.into_bytes-bytes.ensures.bytes c.into_bytes-bytes.ensures.whole in
    let is : c.append.new.self ≡ with_version c.args.m c.args.version =
    rw (c.in_ok-append.ensures.ok, c.truncate.ensures, c.to_le_bytes.ensures, c.len.ensures, c.into_bytes-bytes.ensures.bytes) refl in
    subst IsMessage (sym is) (whole_with_version c.args.m c.args.version whole c.requires)
