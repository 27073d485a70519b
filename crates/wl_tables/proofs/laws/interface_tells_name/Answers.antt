use Rattle.std.proofs.Common.{sym, ap, ◌∙◌}
use Rattle.std.specs.Str.{bytes_eq}
use Rattle.std.proofs.lemmas.Slice.Eq.{bytes_eq-Decides}
use Rattle.wl_tables.specs.Interfaces.{interface_name, interface_of, interfaces}
use Rattle.wl_tables.proofs.Naming.{find_passes}
use Rattle.wl_tables.proofs.Distinct.{found}
use Rattle.wl_tables.proofs.laws.interface_tells_name.Goals as goal

pub returns : goal.returns
returns c interface name = (
  λ found. (bytes_eq-Decides (interface_name interface) name).0 (find_passes (λ it. bytes_eq (interface_name it) name) interfaces interface found),
  λ named. ap interface_of (sym named) ∙ found interface,
)
