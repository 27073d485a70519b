-- What a reader that wants memory answers; this project's own words.
use Rattle.std.specs.Prelude.{◌≡◌, List, ℕ, Option, Some, None, Result, Ok, Err}
use Rattle.std.specs.Borrow.{Bor}
use Rattle.wl_text.specs.declared.text_message.TextFault.{TextFault}
use Rattle.wl_text.specs.declared.text_message.TextFault.TheVariants.{Form, Memory}
use Rattle.wl_text.specs.Front.{Read}

-- the answer is what stands at the front, or that nothing of the kind does; want of memory alone is
-- free
abbrev pub AnswersFront : {X : Type 0} → Result (X × Bor (List ℕ)) TextFault → Read X → Type 0
AnswersFront (Ok it) told = told ≡ Some (it.0, it.1.now)
AnswersFront (Err Form) told = told ≡ None
AnswersFront (Err Memory) told = Unit {0}

-- the same where nothing behind it is told
abbrev pub Answers : {X : Type 0} → Result X TextFault → Option X → Type 0
Answers (Ok it) told = told ≡ Some it
Answers (Err Form) told = told ≡ None
Answers (Err Memory) told = Unit {0}
