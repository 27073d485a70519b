use Rattle.wl_text.proofs.MessageTextLaws.{printed_is_read}
use Rattle.wl_text.proofs.laws.printed_is_read.Goals as goal

pub returns : goal.returns
returns c = printed_is_read c.opcode_tells_name.ensures c.interface_tells_name.ensures
