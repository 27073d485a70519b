use Rattle.script_lang.proofs.LineLaws.{asked_is_visible}
use Rattle.script_lang.proofs.laws.asked_is_visible.Goals as goal

pub returns : goal.returns
returns c = asked_is_visible c.text_is_visible.ensures.read
