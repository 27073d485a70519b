use Rattle.wl_text.proofs.MessageTextLaws.{read_is_text, text_is_read}
use Rattle.wl_text.proofs.laws.read_is_text.Goals as goal

pub returns-clause-exact : goal.returns-clause-exact
returns-clause-exact c way line it = (
  text_is_read c.opcode_tells_name.ensures c.interface_tells_name.ensures way line it,
  read_is_text c.opcode_tells_name.ensures c.interface_tells_name.ensures way line it,
)

pub returns-clause-prints : goal.returns-clause-prints
returns-clause-prints c way line it told = (read_is_text c.opcode_tells_name.ensures c.interface_tells_name.ensures way line it told).says
