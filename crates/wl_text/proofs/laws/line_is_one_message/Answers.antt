use Rattle.wl_text.proofs.MessageTextLaws.{one_message}
use Rattle.wl_text.proofs.laws.line_is_one_message.Goals as goal

pub returns : goal.returns
returns c = one_message c.opcode_tells_name.ensures c.interface_tells_name.ensures
