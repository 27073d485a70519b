use Rattle.wl_text.proofs.MessageTextLaws.{text_is_visible, read_is_visible}
use Rattle.wl_text.proofs.laws.text_is_visible.Goals as goal

pub returns-clause-text : goal.returns-clause-text
returns-clause-text c = text_is_visible

pub returns-clause-read : goal.returns-clause-read
returns-clause-read c = read_is_visible c.opcode_tells_name.ensures c.interface_tells_name.ensures
