-- A buffer, a handle and a told size as the code has them and as the rules have them.
use Rattle.half_model.specs.Shm.{Made, Passing, Tell}
use Rattle.message_plans.specs.declared.made.MadeBuffer.{MadeBuffer}
use Rattle.message_plans.specs.declared.made.PassedHandle.{PassedHandle}
use Rattle.message_plans.specs.declared.made.ToldSize.{ToldSize}

abbrev pub made_of : MadeBuffer → Made
made_of it = record { key = it.key; file = it.file; shape = it.shape }

abbrev pub passing_in : PassedHandle → Passing
passing_in it = record { handle = it.handle; rid = it.rid; is_new = it.is_new }

abbrev pub tell_in : ToldSize → Tell
tell_in it = record { file = it.file; size = it.size; is_new = it.is_new }
